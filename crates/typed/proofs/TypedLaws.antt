-- The computed answer is the one that a text has, and a text has no other. Assumes nothing.
use mathlib.Core.Path.{◌≡◌, refl, sym, ap, ◌∙◌, subst}
use mathlib.Core.Logic.{inl, inr, ⊎_elim}
use mathlib.Core.Bool.{cond, ◌&&◌}
use mathlib.Core.List.{List}
use Prim.Native.Nat.{ℕ, ◌≤◌, ◌<◌}
use native.Mathlib.Omega.{arith}
use lib.Dec.{leb}
use lib.ListN.{length}
use borrow.Author.Rules.{rules}
use borrow.Author.Tests.{le-leb, lt-leb}
use Rattle.std.specs.Prelude.{Ok, Err, IfErr}
use Rattle.typed.specs.declared.forms.Form.{Form}
use Rattle.typed.specs.Signs.{signs}
use Rattle.typed.specs.Text.{Comparison, spell_row}
use Rattle.typed.specs.Forms.{Reading, reaches, refused}
use Rattle.typed.specs.Scan.{Scanned, keeps_rules, breaks_at, scanned}
use Rattle.typed.specs.Values.{work_row}
use Rattle.typed.specs.Working.{row_at}
use Rattle.typed.specs.Following.{FaultBelow}
use Rattle.typed.specs.Typed.{Answered, row_of, place_of, refusal_place, count_refused, length_refused, text_refused, value_refused, Typed, count-refused, length-refused, text-refused, value-refused, accepted, worked_row, scanned_row, short_row, counted_row, typed_row}
use Rattle.typed.proofs.SignLaws.{signs-length}
use Rattle.farkas.proofs.Order.{compare}
use Rattle.typed.proofs.MendLaws.{keeps-valid, fails-breaks, valid-keeps, breaks-fails}
use Rattle.typed.proofs.RowLaws.{row-works}
use Rattle.typed.proofs.FaultLaws.{row_below}

-- what was worked out, as a row
pub worked-at : (w : Reading) (q : ℕ) (x : Form) → w ≡ reaches q x → worked_row w ≡ row_of x
unfolding worked_row
worked-at w q x e = ap worked_row e

pub worked-fault : (w : Reading) (p : ℕ) → w ≡ refused p → worked_row w ≡ value_refused p
unfolding worked_row
worked-fault w p e = ap worked_row e

-- the tests in their order
module _ (n : ℕ) (text : List ℕ) where
  pub too_few : n < 1 → typed_row n text ≡ count_refused
  unfolding typed_row
  too_few h = ap (λ b. cond (b && leb n 8) (counted_row n text) count_refused) (lt-leb 1 n h)

  pub too_many : 1 ≤ n → 8 < n → typed_row n text ≡ count_refused
  unfolding typed_row
  too_many l h =
      ap (λ b. cond (b && leb n 8) (counted_row n text) count_refused) (le-leb 1 n l)
      ∙ ap (λ b. cond b (counted_row n text) count_refused) (lt-leb n 8 h)

  module _ (least : 1 ≤ n) (most : n ≤ 8) where
    counted : typed_row n text ≡ counted_row n text
    unfolding typed_row
    counted =
        ap (λ b. cond (b && leb n 8) (counted_row n text) count_refused) (le-leb 1 n least)
        ∙ ap (λ b. cond b (counted_row n text) count_refused) (le-leb n 8 most)

    pub too_long : 255 < length text → typed_row n text ≡ length_refused
    unfolding counted_row
    too_long h = counted ∙ ap (λ b. cond b (short_row n text) length_refused) (lt-leb (length text) 255 h)

    module _ (short : length text ≤ 255) where
      read : typed_row n text ≡ scanned_row n text (scanned text)
      unfolding counted_row short_row
      read = counted ∙ ap (λ b. cond b (short_row n text) length_refused) (le-leb (length text) 255 short)

      pub fails : (p : ℕ) → scanned text ≡ breaks_at p → typed_row n text ≡ text_refused p
      unfolding scanned_row
      fails p e = read ∙ ap (scanned_row n text) e

      pub keeps : scanned text ≡ keeps_rules → typed_row n text ≡ worked_row (row_at n text)
      unfolding scanned_row
      keeps e = read ∙ ap (scanned_row n text) e

-- every answer that a text has is the computed one
pub typed-computed : {n : ℕ} {text : List ℕ} {a : Answered} → Typed n text a → typed_row n text ≡ a
typed-computed {n} {text} (count-refused h) = ⊎_elim (λ l. too_few n text l) (λ m. too_many n text (omega arith) m) h
typed-computed {n} {text} (length-refused l m h) = too_long n text l m h
typed-computed {n} {text} (text-refused l m s p b) = fails n text l m s p (breaks-fails text p b)
typed-computed {n} {text} (value-refused l m s c e p r) =
    keeps n text l m s (valid-keeps text (record { row = c; spelled = e })) ∙ ap worked_row (row-works n text c e) ∙ worked-fault (work_row n c) p r
typed-computed {n} {text} (accepted l m s c e q x r) =
    keeps n text l m s (valid-keeps text (record { row = c; spelled = e })) ∙ ap worked_row (row-works n text c e) ∙ worked-at (work_row n c) q x r

-- a text has one answer
pub typed_one : {n : ℕ} {text : List ℕ} {a b : Answered} → Typed n text a → Typed n text b → a ≡ b
typed_one s t = sym (typed-computed s) ∙ typed-computed t

-- and the computed one is it
pub typed-is : (n : ℕ) (text : List ℕ) → Typed n text (typed_row n text)
typed-is n text =
    ⊎_elim (λ l. answer (count-refused (inl l))) (λ l.
    ⊎_elim (λ h. answer (count-refused (inr h))) (λ m.
    ⊎_elim (λ h. answer (length-refused l m h)) (λ s. scans l m s (scanned text) refl)
    (compare 255 (length text))) (compare 8 n)) (compare n 1)
  where
    answer : {a : Answered} → Typed n text a → Typed n text (typed_row n text)
    answer t = subst (Typed n text) (sym (typed-computed t)) t

    works : 1 ≤ n → n ≤ 8 → length text ≤ 255 → scanned text ≡ keeps_rules → Typed n text (typed_row n text)
    works l m s e = let v = keeps-valid text e in go v.row v.spelled (work_row n v.row) refl
      where
        go : (c : Comparison) → spell_row c ≡ signs text → (u : Reading) → work_row n c ≡ u → Typed n text (typed_row n text)
        go c f (Ok w) r = answer (accepted l m s c f w.next w.form r)
        go c f (Err e) r = answer (value-refused l m s c f e.place r)

    scans : 1 ≤ n → n ≤ 8 → length text ≤ 255 → (x : Scanned) → scanned text ≡ x → Typed n text (typed_row n text)
    scans l m s (Ok u) e = works l m s e
    scans l m s (Err b) e = answer (text-refused l m s b.place (fails-breaks text b.place e))

-- in a text that keeps the rules what is refused stands before the end
pub fault-below : (n : ℕ) (text : List ℕ) {w : Reading} → scanned text ≡ keeps_rules → w ≡ row_at n text → FaultBelow (length text) w
fault-below n text e f =
    let v = keeps-valid text e in
    subst (FaultBelow (length text)) (sym (f ∙ row-works n text v.row v.spelled)) (row_below (length text) n v.row (omega (arith, ap length v.spelled, signs-length text)))

-- the place of every answer
typed-within : {n : ℕ} {text : List ℕ} {a : Answered} → Typed n text a → place_of a ≤ 255
typed-within (count-refused h) = omega arith
typed-within (length-refused l m h) = omega arith
typed-within (text-refused l m s p b) = omega (arith, b.within)
typed-within {n} {text} (value-refused l m s c e p r) = omega (arith, (row_below (length text) n c (omega (arith, ap length e, signs-length text))).place p r)
typed-within (accepted l m s c e q x r) = omega arith

pub place-within : (n : ℕ) (text : List ℕ) → place_of (typed_row n text) ≤ 255
place-within n text = typed-within (typed-is n text)

pub place-told : (n : ℕ) (text : List ℕ) (r : Answered) → r ≡ typed_row n text → IfErr r (λ u. refusal_place u ≤ 255)
place-told n text (Ok x) e = search rules
place-told n text (Err u) e = omega (arith, ap place_of e, place-within n text)
