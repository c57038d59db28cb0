-- What a condition that was read tells: its count byte was there, and the count is in its range. Assumes nothing.
use mathlib.Core.Path.{◌≡◌, refl, ap, subst}
use mathlib.Core.List.{List}
use Prim.Native.Nat.{ℕ, zero, suc, ◌+◌, ◌≤◌}
use lib.ListN.{length}
use Rattle.formats.specs.Reading.{got, u8, within, many, ◌>>=◌}
use Rattle.formats.specs.Rows.{read_row, read_condition}
use Rattle.fields.specs.Places.{rows_from}
use Rattle.formats.proofs.FieldLaws.{range-read, byte-read}
use Rattle.formats.proofs.Gives.{passes}
use Rattle.formats.proofs.WellFormed.{condition-gives}
use Rattle.formats.specs.Versions.{row_bytes}

pub length-rows : (s : List ℕ) (version n p k : ℕ) → length (rows_from s version n p k) ≡ k
unfolding rows_from
length-rows s version n p zero = refl
length-rows s version n p (suc k) = ap suc (length-rows s version n (p + row_bytes version n) k)

pub record CountRead (most n : ℕ) (s : List ℕ) (at count : ℕ) : Type 0 where
  pub whole : at + 1 ≤ length s
  pub few : count ≤ most

pub condition-read : (most version n : ℕ) (s : List ℕ) (at p count next : ℕ) → read_condition version most n s at ≡ got (rows_from s version n p count) next → CountRead most n s at count
unfolding read_condition ◌>>=◌
condition-read most version n s at p count next e =
    let w = passes (within 0 most u8 s at) (λ k. many k (read_row version n)) s (rows_from s version n p count) next e in
    let b = byte-read s at w.value w.place (range-read u8 0 most s at w.value w.place w.first).read in
    record {
      whole = b.whole;
      few = subst (λ (k : ℕ). k ≤ most) (length-rows s version n p count) ((condition-gives most version n).holds s at (rows_from s version n p count) next e).0;
    }
