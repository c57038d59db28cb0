-- Demand 2 for certificates as 01 writes it. No row that a sheet gives is strict, so that neither a hypothesis nor a goal of a paper is; then
-- what order 8 of 02 adds to Farkas' condition changes nothing, and a sum of 0 at k = 0 is refused in every paper. Assumes nothing.
use mathlib.Core.Path.{◌≡◌, refl}
use mathlib.Core.Logic.Iff
use mathlib.Core.Logic.{◌↔◌}
use mathlib.Core.Bool.{false}
use mathlib.Core.List.{List}
use Prim.Native.Nat.{ℕ}
use lib.IntN.{pos}
use Rattle.farkas.specs.Lists.{All, none, more}
use Rattle.farkas.specs.Rows.{Row, zero_row}
use Rattle.farkas.specs.Farkas.{Proof, sum_at, bound_sum, Agree, PlainMeet, Meets, farkas_test}
use Rattle.farkas.proofs.All.{all_map}
use Rattle.farkas.proofs.Promise.{meets-plain, none-used, none-strict}
use Rattle.formats.specs.Reading.{got, ◌>>◌}
use Rattle.formats.specs.Rows.{Condition}
use Rattle.formats.specs.Model.{Model}
use Rattle.formats.specs.declared.Limits.{Limits}
use Rattle.formats.specs.ModelSheet.{read_model}
use Rattle.formats.specs.Certificate.{read_regions}
use Rattle.formats.proofs.Gives.{passes}
use Rattle.formats.proofs.WellFormed.{PlainRow}
use Rattle.formats.proofs.PlainRows.{model-plain, regions-plain}
use Rattle.rules.specs.Opening.{open_second}
use Rattle.rules.specs.Obligations.{Hypothesis, standing, nowhere, on_x, on_next, on_rates, time_row, staying_rows, Obligation, obligations}
use Rattle.rules.specs.Marking.{mark_certificate}
use Rattle.rules.specs.ReadWell.{rows_of, AllMeet, met-none, met-more, AllMeetPlainly, plainly-none, plainly-more, CertificateMeets}
use Rattle.rules.proofs.Hypotheses.{all_so}
use Rattle.rules.proofs.EveryHypothesis.{Serves, Served, every-obligation}
use Rattle.rules.proofs.CertificateExactly.{certificate-exactly, parts-of}
use Rattle.rules.proofs.Rejected.{zero-sum-eleven}

-- a hypothesis that is not strict, and an obligation none of whose rows is
abbrev PlainHypothesis : Hypothesis → Type 0
PlainHypothesis h = h.row.strict ≡ false

abbrev PlainGoal : Row → Type 0
PlainGoal r = r.strict ≡ false

abbrev pub PlainObligation : Obligation → Type 0
PlainObligation = Served PlainHypothesis PlainGoal

plain-serve : Serves PlainRow PlainRow PlainHypothesis PlainGoal
unfolding standing nowhere on_x on_next on_rates time_row staying_rows zero_row
plain-serve =
    record {
      before = λ r w. w;
      after = λ n r w. w;
      rates = λ r w. refl;
      region = λ r w. w;
      time = λ n. refl;
      staying = λ n v. more refl (more refl none);
      goal_before = λ r w. w;
      goal_after = λ n r w. w;
      goal_none = refl;
    }

-- of a paper whose model and regions are read
module _ (limits : Limits) (model second : List ℕ) (m : Model) (model_end : ℕ) (model_reads : read_model limits model ≡ got m model_end) (regions : List Condition) (place : ℕ) (regions_read : (open_second 2 m >> read_regions m) second 0 ≡ got regions place) where
  pub plain-obligations : All PlainObligation (obligations m regions)
  unfolding ◌>>◌
  plain-obligations =
      let w = passes (open_second 2 m second 0) (λ version. read_regions m) second regions place regions_read in
      every-obligation plain-serve m regions (model-plain limits model m model_end model_reads) (regions-plain m second w.place regions place w.second)

-- one obligation, and all of them: the condition is 01's
module _ (o : Obligation) (plain : PlainObligation o) where
  rows-plain : All (λ r. r.strict ≡ false) (rows_of o)
  unfolding rows_of
  rows-plain = all_map (λ h. h.row) plain.0

  pub one-plainly : (p : Proof) → Meets (rows_of o) o.goal p ↔ PlainMeet p.k (sum_at (rows_of o) p.entries) (bound_sum (rows_of o) p.entries) o.goal
  one-plainly p = meets-plain (rows_of o) o.goal p (none-used (rows_of o) p.entries rows-plain) plain.1

  -- "Taking k = 0 with sum 0"
  pub zero-sum-refused : (p : Proof) → p.k ≡ 0 → Agree p.k (sum_at (rows_of o) p.entries) o.goal.coefficients → bound_sum (rows_of o) p.entries ≡ pos 0 → farkas_test (rows_of o) o.goal p ≡ 11
  zero-sum-refused p = zero-sum-eleven (rows_of o) o.goal p (none-strict (rows_of o) p.entries (none-used (rows_of o) p.entries rows-plain))

all-plainly : {all : List Obligation} {proofs : List Proof} → All PlainObligation all → AllMeet all proofs → AllMeetPlainly all proofs
all-plainly none met-none = plainly-none
all-plainly (more {a = o} x w) (met-more {p = p} h t) = plainly-more ((one-plainly o x p).0 h) (all-plainly w t)

plainly-all : {all : List Obligation} {proofs : List Proof} → All PlainObligation all → AllMeetPlainly all proofs → AllMeet all proofs
plainly-all none plainly-none = met-none
plainly-all (more {a = o} x w) (plainly-more {p = p} h t) = met-more ((one-plainly o x p).1 h) (plainly-all w t)

-- what is asked of the proofs may be said either way
other-words :
    {Met Other : List Obligation → List Proof → Type 0} (limits : Limits) (model second : List ℕ)
    → ((all : List Obligation) (proofs : List Proof) → All PlainObligation all → Met all proofs → Other all proofs)
    → CertificateMeets Met limits model second → CertificateMeets Other limits model second
other-words limits model second f c =
    let v = parts-of c.m second c.certificate c.second_end c.second_reads in
    record {
      fit = c.fit;
      m = c.m;
      model_end = c.model_end;
      model_reads = c.model_reads;
      certificate = c.certificate;
      second_end = c.second_end;
      second_reads = c.second_reads;
      meet = f _ _ (plain-obligations limits model second c.m c.model_end c.model_reads c.certificate.regions v.place v.regions) c.meet;
    }

-- demand 2 for certificates, by 01's condition word for word
pub certificate-as-written : (limits : Limits) (model second : List ℕ) → ((mark_certificate limits model second).number ≡ 0) ↔ CertificateMeets AllMeetPlainly limits model second
certificate-as-written limits model second =
    Iff.trans (certificate-exactly limits model second)
    (other-words limits model second (λ all proofs. all-plainly), other-words limits model second (λ all proofs. plainly-all))

-- and the rejected reading, in every paper: whatever obligation it is, a proof with k = 0 whose sums agree and come to 0 is refused by 11
pub zero-sum-in-papers :
    (limits : Limits) (model second : List ℕ) (m : Model) (model_end : ℕ) → read_model limits model ≡ got m model_end
    → (regions : List Condition) (place : ℕ) → (open_second 2 m >> read_regions m) second 0 ≡ got regions place
    → All (λ o. (p : Proof) → p.k ≡ 0 → Agree p.k (sum_at (rows_of o) p.entries) o.goal.coefficients → bound_sum (rows_of o) p.entries ≡ pos 0 → farkas_test (rows_of o) o.goal p ≡ 11) (obligations m regions)
zero-sum-in-papers limits model second m model_end e regions place r =
    all_so (λ o w. zero-sum-refused o w) (plain-obligations limits model second m model_end e regions place r)
