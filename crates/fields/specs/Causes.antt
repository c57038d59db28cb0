-- The numbers of the causes for which a sheet is refused (01, the table; 02, order 7: 18). Assumes nothing.
use Rattle.std.specs.Prelude.{ℕ}
use Rattle.farkas.specs.declared.Mismatch.{Mismatch}
use Rattle.farkas.specs.declared.Mismatch.TheVariants.{CoefficientsDiffer, BoundFails}
use Rattle.fields.specs.declared.Cause.{Cause}
use Rattle.fields.specs.declared.Cause.TheVariants as cause

abbrev pub number_of : Cause → ℕ
number_of cause.Length = 1
number_of cause.Version = 2
number_of cause.Kind = 3
number_of cause.Cut = 4
number_of cause.Range = 5
number_of cause.Label = 6
number_of cause.Locations = 7
number_of cause.Joints = 8
number_of cause.Order = 9
number_of cause.Coefficients = 10
number_of cause.Bound = 11
number_of cause.Start = 12
number_of cause.Step = 13
number_of cause.End = 14
number_of cause.Pairing = 18

-- the cause that refuses a proof, by what its test finds
abbrev pub cause_of : Mismatch → Cause
cause_of CoefficientsDiffer = cause.Coefficients
cause_of BoundFails = cause.Bound
