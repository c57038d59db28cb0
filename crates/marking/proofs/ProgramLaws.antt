-- The program's line by cases: where the input is cut, which sheet is a run, and the line of an answer. Assumes nothing.
use mathlib.Core.Path.{◌≡◌, refl, sym, ap, ◌∙◌}
use mathlib.Core.Bool.{Bool, true, false, ◌&&◌}
use mathlib.Core.List.{List}
use Prim.Native.Nat.{ℕ, ◌+◌, ◌*◌, ◌≤◌, ◌<◌, min}
use native.Mathlib.Nat.{min-eq_right}
use native.Mathlib.Omega.{arith}
use lib.Dec.{ltb, eqb}
use lib.ListN.{length, get_or, take, drop}
use borrow.Author.Tests.{lt-ltb, le-ltb, le-leb, lt-leb, eqb-true, eqb-false}
use Rattle.std.proofs.Common.{Option, Some, None, Bor, is_some, unwrap_or, option_map}
use Rattle.std.proofs.lemmas.List.{take_min, drop_min}
use Rattle.std.specs.Option.{option_eq}
use Rattle.formats.specs.ModelSheet.{exam_limits}
use Rattle.formats.proofs.FieldLaws.{two_at}
use Rattle.rules.specs.declared.Answer.{Answer}
use Rattle.rules.specs.Marking.{mark_certificate, mark_run}
use Rattle.rules.specs.Program.{Line, safe, unsafe, turned_down, first_length, first_sheet, second_sheet, refused_line, line_for, is_run, mark_line}
use Rattle.marking.specs.Lines.{cut_at, sheets_line}

-- Where the input is cut
module _ (s : List ℕ) where
  pub cut-within : cut_at s ≤ length s
  unfolding cut_at
  cut-within = omega arith

  pub cut-none : length s < 2 → length s ≡ cut_at s
  unfolding cut_at first_length
  cut-none h = rw (lt-ltb (length s) 2 h, first_length) (sym (min-eq_right (omega arith)))

  first-told : 2 ≤ length s → first_length s ≡ get_or s 0 0 * 256 + get_or s 1 0 + 2
  unfolding first_length
  first-told h = rw (le-ltb (length s) 2 h, first_length) (ap (λ (n : ℕ). n + 2) (two_at s 0 h))

  pub cut-told : (n : ℕ) → 2 ≤ length s → n ≡ get_or s 0 0 * 256 + get_or s 1 0 → min (n + 2) (length s) ≡ cut_at s
  unfolding cut_at
  cut-told n h e = ap (λ (k : ℕ). min k (length s)) (omega (arith, first-told h))

  -- The whole
  pub line-long : 65536 < length s → turned_down 1 0 0 0 0 ≡ mark_line s
  unfolding mark_line
  line-long h = rw (lt-leb (length s) 65536 h, mark_line) refl

  pub line-cut : length s ≤ 65536 → sheets_line (take (cut_at s) s) (drop (cut_at s) s) ≡ mark_line s
  unfolding mark_line sheets_line first_sheet second_sheet cut_at
  line-cut h =
      (λ i. sheets_line (take_min (first_length s) s i) (drop_min (first_length s) s i))
      ∙ sym (ap (λ b. elim b as (λ _. Line) [ true ↦ sheets_line (first_sheet s) (second_sheet s) | false ↦ turned_down 1 0 0 0 0 ]) (le-leb (length s) 65536 h))

-- Whether the element at a place is there and is this number, by what `get` gives
pub element-is : (s : List ℕ) (i : ℕ) (y : Bor ℕ) (r : Option (Bor ℕ)) → is_some r ≡ ltb i (length s) → unwrap_or (option_map (λ x. x.now) r) 0 ≡ get_or s i 0 → option_eq (λ x y. eqb x.now y.now) r (Some y) ≡ (ltb i (length s) && eqb (get_or s i 0) y.now)
element-is s i y None e f = ap (λ b. b && eqb (get_or s i 0) y.now) e
element-is s i y (Some x) e f = ap (λ n. eqb n y.now) f ∙ ap (λ b. b && eqb (get_or s i 0) y.now) e

-- The line of an answer, by what an acceptance and a refusal give
pub answered : (accepted : ℕ → Line) (a : Answer) {l : Line} → (a.number ≡ 0 → l ≡ accepted a.done) → (0 < a.number → l ≡ refused_line a) → l ≡ line_for accepted a
unfolding line_for
answered accepted a {l} w f = go (eqb a.number 0) refl
  where
    go : (b : Bool) → eqb a.number 0 ≡ b → l ≡ elim b as (λ _. Line) [ true ↦ accepted a.done | false ↦ refused_line a ]
    go true e = w (eqb-true a.number 0 e)
    go false e = f (omega (arith, eqb-false a.number 0 e))

-- The line for two sheets
module _ (first second : List ℕ) where
  abbrev Picked : Bool → Line
  Picked b = elim b [ true ↦ line_for unsafe (mark_run exam_limits first second) | false ↦ line_for safe (mark_certificate exam_limits first second) ]

  pub sheets-run : true ≡ is_run second → line_for unsafe (mark_run exam_limits first second) ≡ sheets_line first second
  unfolding sheets_line
  sheets-run e = ap Picked e

  pub sheets-certificate : false ≡ is_run second → line_for safe (mark_certificate exam_limits first second) ≡ sheets_line first second
  unfolding sheets_line
  sheets-certificate e = ap Picked e
