-- Sheets that belong together (02, order 7): a second sheet opens exactly where its header is right, its version is the one that goes with
-- its model's, and its paper number is its model's; and each of the refusals, in their order: the header's, 18 at place 2, a cut paper
-- number, 18 at the paper number. Assumes nothing.
use mathlib.Core.Path.{◌≡◌, refl, sym, ap, ◌∙◌, subst}
use mathlib.Core.Bool.{Bool, true, false, cond}
use mathlib.Core.List.{List}
use Prim.Native.Nat.{ℕ}
use native.Mathlib.Omega.{arith}
use lib.Dec.{eqb, eqb→eq}
use borrow.Author.Tests.{eqb-true, eq-eqb, ne_eqb}
use Rattle.formats.specs.Versions.{pair_of}
use Rattle.formats.specs.Reading.{Got, got, refused, and_then, ◌>>=◌, ◌>>◌, give, expect, passing, must, header, read_paper}
use Rattle.formats.specs.Model.{Model}
use Rattle.formats.proofs.Gives.{got-value, got-next, passes, tested, bind-got, then-got}
use Rattle.rules.specs.Opening.{open_second}

-- a second sheet that opened
pub record Pairs (kind : ℕ) (m : Model) (s : List ℕ) (version next : ℕ) : Type 0 where
  pub place : ℕ
  pub headed : header kind s 0 ≡ got version place
  pub pair : version ≡ pair_of m.version
  pub paper : read_paper version s place ≡ got m.paper next

expected : (b : Bool) (number place : ℕ) (s : List ℕ) (p : ℕ) {u : Unit {0}} {next : ℕ} → expect b number place s p ≡ got u next → (b ≡ true) × (p ≡ next)
unfolding expect
expected true number place s p e = (refl, got-next e)
expected false number place s p e = let z : ◌≡◌ {A = ℕ} 0 1 = cc in absurd (omega arith)

pub second-pairs : (kind : ℕ) (m : Model) (s : List ℕ) (version next : ℕ) → open_second kind m s 0 ≡ got version next → Pairs kind m s version next
unfolding open_second ◌>>=◌ ◌>>◌ must give
second-pairs kind m s version next e =
    let a = passes (header kind s 0) _ s version next e in
    let b = passes (expect (eqb a.value (pair_of m.version)) 18 2 s a.place) _ s version next a.second in
    let c = passes (passing (λ paper. eqb paper m.paper) 18 b.place (read_paper a.value s b.place)) _ s version next b.second in
    let t = tested (λ paper. eqb paper m.paper) 18 b.place (read_paper a.value s b.place) c.value c.place c.first in
    let same : a.value ≡ version = got-value c.second in
    let x = expected (eqb a.value (pair_of m.version)) 18 2 s a.place b.first in
    record {
      place = a.place;
      headed = a.first ∙ ap (λ (v : ℕ). got v a.place) same;
      pair = sym same ∙ eqb-true a.value (pair_of m.version) x.0;
      paper =
          subst (λ (v : ℕ). read_paper v s a.place ≡ got m.paper next) same
          (ap (read_paper a.value s) x.1
          ∙ t.read
          ∙ ap (λ (v : ℕ). got v c.place) (eqb→eq c.value m.paper t.passed)
          ∙ ap (λ (p : ℕ). got m.paper p) (got-next c.second));
    }

module _ (kind : ℕ) (m : Model) (s : List ℕ) where
  -- the refusals of a header go first
  pub header-first : (number at : ℕ) → header kind s 0 ≡ refused number at → open_second kind m s 0 ≡ refused number at
  unfolding open_second ◌>>=◌ and_then
  header-first number at e =
      ap (λ (g : Got ℕ). and_then g (λ version. expect (eqb version (pair_of m.version)) 18 2 >> (must (λ paper. eqb paper m.paper) 18 (read_paper version) >> give version)) s) e

  module _ (version place : ℕ) (headed : header kind s 0 ≡ got version place) where
    -- "versions that don't pair (place 2 of the second sheet, right after 3)"
    pub versions-apart : (version ≡ pair_of m.version → ⊥) → open_second kind m s 0 ≡ refused 18 2
    unfolding open_second ◌>>◌ and_then expect
    versions-apart n =
        bind-got (header kind) _ s 0 headed
        (ap (λ (b : Bool). and_then (cond b (got tt place) (refused 18 2)) (λ u. must (λ paper. eqb paper m.paper) 18 (read_paper version) >> give version) s) (ne_eqb version (pair_of m.version) n))

    module _ (pair : version ≡ pair_of m.version) where
      past : {g : Got ℕ} → (must (λ paper. eqb paper m.paper) 18 (read_paper version) >> give version) s place ≡ g → open_second kind m s 0 ≡ g
      unfolding open_second expect
      past e =
          bind-got (header kind) _ s 0 headed
          (then-got (expect (eqb version (pair_of m.version)) 18 2) _ s place (ap (λ (b : Bool). cond b (got tt place) (refused 18 2)) (eq-eqb version (pair_of m.version) pair)) e)

      -- a paper number that is cut: 4 at its first byte
      pub paper-cut : (number at : ℕ) → read_paper version s place ≡ refused number at → open_second kind m s 0 ≡ refused number at
      unfolding ◌>>◌ and_then must passing
      paper-cut number at e = past (ap (λ (g : Got ℕ). and_then (passing (λ paper. eqb paper m.paper) 18 place g) (λ a. give version) s) e)

      -- "paper numbers that differ (place 4, once that field is read)"
      pub papers-apart : (paper end : ℕ) → read_paper version s place ≡ got paper end → (paper ≡ m.paper → ⊥) → open_second kind m s 0 ≡ refused 18 place
      unfolding ◌>>◌ and_then must passing
      papers-apart paper end e n =
          past
          (ap (λ (g : Got ℕ). and_then (passing (λ paper. eqb paper m.paper) 18 place g) (λ a. give version) s) e
          ∙ ap (λ (b : Bool). and_then (cond b (got paper end) (refused 18 place)) (λ a. give version) s) (ne_eqb paper m.paper n))

      -- and where they are the same, the sheet opens
      pub opens-pair : (end : ℕ) → read_paper version s place ≡ got m.paper end → open_second kind m s 0 ≡ got version end
      unfolding must passing give
      opens-pair end e =
          past
          (then-got (must (λ paper. eqb paper m.paper) 18 (read_paper version)) _ s place
          (ap (passing (λ paper. eqb paper m.paper) 18 place) e ∙ ap (λ (b : Bool). cond b (got m.paper end) (refused 18 place)) (eq-eqb m.paper m.paper refl))
          refl)
