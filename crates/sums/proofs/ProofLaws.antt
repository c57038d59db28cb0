-- A proof of a certificate: what the answers of its readers tell, and how the parts of its marking make the whole. Assumes nothing.
use mathlib.Core.Path.{◌≡◌, refl, sym, ap, ◌∙◌}
use mathlib.Core.Bool.{Bool, true, false, cond}
use mathlib.Core.List.{List}
use Prim.Native.Nat.{ℕ, zero, suc, ◌≤◌}
use native.Mathlib.Omega.{arith}
use lib.ListN.{length}
use Rattle.farkas.specs.Rows.{Row}
use Rattle.std.specs.Prelude.{Result, Ok, Err}
use Rattle.farkas.specs.declared.Mismatch.{Mismatch}
use Rattle.farkas.specs.declared.Mismatch.TheVariants as mismatch
use Rattle.fields.specs.declared.Refusal.{Refusal}
use Rattle.fields.specs.Causes as causes
use Rattle.fields.specs.Answers.{got_as}
use Rattle.fields.proofs.AnswerLaws.{Read, Next, next-at}
use Rattle.farkas.specs.Farkas.{number_of, Entry, Proof, SumsOf, sums_test, farkas_test}
use Rattle.farkas.proofs.Promise.{held_test}
use Rattle.second_sheets.specs.declared.Entry as coded
use Rattle.second_sheets.specs.declared.Head.{Head}
use Rattle.formats.specs.Reading.{Got, got, refused, Reader, ◌>>=◌, give, u8, u32}
use Rattle.formats.specs.Certificate.{read_entries, read_proof}
use Rattle.second_sheets.specs.CertificateAnswers.{read_head, got_entry}
use Rattle.formats.proofs.Gives.{Gives, gives-any, gives-bind, gives-give, gives-within, bind-got}
use Rattle.fields.proofs.Skipping.{bind-refused}
use Rattle.second_sheets.proofs.CertificateLaws.{proof-reads}
use Rattle.hypotheses.specs.Tables.{test_with, mark_with}
use Rattle.papers.specs.Paper.{held_next}
use Rattle.sums.specs.Summing.{tested}

-- What the answers of the readers tell
pub entry-got : {f : Read coded.Entry} {e : coded.Entry} {p : ℕ} → f ≡ Ok (e, p) → got_entry f ≡ got (record { hypothesis = e.hypothesis; multiplier = e.multiplier }) p
unfolding got_entry
entry-got e = ap got_entry e

pub entry-refused : {f : Read coded.Entry} {w : Refusal} → f ≡ Err w → got_entry f ≡ refused (causes.number_of w.0) w.1
unfolding got_entry
entry-refused e = ap got_entry e

-- a proof has at most 128 entries
pub head_few : (zero_k : Bool) → Gives (λ h. h.count ≤ 128) (read_head zero_k)
unfolding read_head
head_few zero_k =
    gives-bind gives-any (λ k u. gives-bind (gives-within 0 128 u8) (λ count range. gives-give _ range.1))

-- and where k must be 0, it is
pub head-zero : (zero_k : Bool) → Gives (λ h. zero_k ≡ true → h.k ≡ 0) (read_head zero_k)
unfolding read_head
head-zero true = gives-bind (gives-within 0 0 u32) (λ k low. gives-bind gives-any (λ count u. gives-give _ (λ e. omega (arith, low.1))))
head-zero false = gives-bind gives-any (λ k u. gives-bind gives-any (λ count w. gives-give _ (λ e. absurd (not-both e))))
  where
    not-both : false ≡ true → ⊥
    not-both e = let z : ◌≡◌ {A = ℕ} 0 1 = ap (λ (b : Bool). cond b 1 0) e in omega (arith, z)

-- a refusal is no place, and only a test that the proof passes gives one
pub refused-not-at : {x : Next} {w : Refusal} {end : ℕ} → x ≡ Err w → x ≡ Ok end → ⊥
refused-not-at h e = let z : ◌≡◌ {A = ℕ} 0 1 = sym (ap kind h) ∙ ap kind e in omega (arith, z)
  where
    kind : Next → ℕ
    kind (Ok p) = 1
    kind (Err r) = 0

pub tested-holds : (v : Result (Unit {0}) Mismatch) (at end reached : ℕ) {x : Next} → got_as tt x ≡ tested (number_of v) at end → x ≡ Ok reached → v ≡ Ok tt
unfolding tested number_of
tested-holds (Ok done) at end reached told e = refl
tested-holds (Err mismatch.CoefficientsDiffer) at end reached told e = let n : refused 10 at ≡ got tt reached = sym told ∙ next-at tt e in let z : ◌≡◌ {A = ℕ} 0 1 = cc in absurd (omega (arith, z))
tested-holds (Err mismatch.BoundFails) at end reached told e = let n : refused 11 at ≡ got tt reached = sym told ∙ next-at tt e in let z : ◌≡◌ {A = ℕ} 0 1 = cc in absurd (omega (arith, z))

module _ (rows : List Row) (zero_k : Bool) (goal : Row) (s : List ℕ) (at : ℕ) where
  abbrev rest : ℕ → Head → Reader Proof
  rest hypotheses h = read_entries hypotheses 0 h.count >>= λ entries. give (record { k = h.k; entries = entries })

  read-head : read_proof (length rows) zero_k s at ≡ (read_head zero_k >>= rest (length rows)) s at
  read-head = ap (λ (r : Reader Proof). r s at) (proof-reads (length rows) zero_k)

  -- the marking stops in the head
  pub head-refused : (number place : ℕ) → read_head zero_k s at ≡ refused number place → mark_with rows zero_k goal s at ≡ refused number place
  unfolding mark_with test_with
  head-refused number place e = ap (test_with rows goal at) (read-head ∙ bind-refused (read_head zero_k) (rest (length rows)) s at e)

  module _ (h : Head) (next hypotheses : ℕ) (few : length rows ≡ hypotheses) (head : read_head zero_k s at ≡ got h next) where
    by_count : read_entries (length rows) 0 h.count s next ≡ read_entries hypotheses 0 h.count s next
    by_count = ap (λ (k : ℕ). read_entries k 0 h.count s next) few

    -- or in an entry
    pub entries-refused : (number place : ℕ) → read_entries hypotheses 0 h.count s next ≡ refused number place → mark_with rows zero_k goal s at ≡ refused number place
    unfolding mark_with test_with
    entries-refused number place e =
        ap (test_with rows goal at)
        (read-head ∙ bind-got (read_head zero_k) (rest (length rows)) s at head (bind-refused (read_entries (length rows) 0 h.count) _ s next (by_count ∙ e)))

    -- or ends, after the last entry, with the test of the sums
    pub proof-tested : (entries : List Entry) (end : ℕ) (sums : Row) → read_entries hypotheses 0 h.count s next ≡ got entries end → SumsOf rows entries sums → held_next (mark_with rows zero_k goal s at) ≡ tested (sums_test h.k sums goal) at end
    unfolding mark_with test_with held_next tested give
    proof-tested entries end sums all held =
        let proof : Proof = record { k = h.k; entries = entries } in
        let read : read_proof (length rows) zero_k s at ≡ got proof end = read-head ∙ bind-got (read_head zero_k) (rest (length rows)) s at head (bind-got (read_entries (length rows) 0 h.count) _ s next (by_count ∙ all) refl) in
        ap (λ (g : Got Proof). held_next (test_with rows goal at g)) read
        ∙ by_number (farkas_test rows goal proof) proof end
        ∙ ap (λ (number : ℕ). tested number at end) (held_test rows goal proof held)
      where
        by_number : (number : ℕ) (p : Proof) (q : ℕ) → held_next {A = Proof} (elim number [ zero ↦ got p q | suc n ↦ refused (suc n) at ]) ≡ tested number at q
        by_number zero p q = refl
        by_number (suc n) p q = refl
