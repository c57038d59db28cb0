-- The scan, from any place on: one sign further, a sign that cannot be mended, the end. Assumes nothing.
use mathlib.Core.Path.{◌≡◌, refl, sym, ap, ◌∙◌}
use mathlib.Core.Bool.{Bool, true, false, cond}
use mathlib.Core.List.{List, [], ◌∷◌}
use Prim.Native.Nat.{ℕ, zero, suc, ◌+◌, ◌≤◌, ◌<◌}
use native.Mathlib.Omega.{arith}
use lib.ListN.{length, drop, drop_of_length-le}
use Rattle.typed.specs.declared.signs.Sign.{Sign}
use Rattle.typed.specs.declared.signs.Sign.TheVariants.{Blank, Digit, Letter, Open, Close, Plus, Minus, Times, Less, Equal, Other}
use Rattle.typed.specs.declared.scan.Phase.{Phase}
use Rattle.typed.specs.declared.scan.Phase.TheVariants.{Awaiting, Counting, Complete, Half}
use Rattle.std.specs.Prelude.{Some, None}
use Rattle.typed.specs.declared.scan.Live.{Live}
use Rattle.typed.specs.Signs.{signs, sign_at}
use Rattle.typed.proofs.SignLaws.{signs-from}
use Rattle.typed.specs.Scan.{State, dead, keeps_rules, breaks_at, Scanned, scanned, step_by, step, run, accepted, passes, passes_by, start, depth_of, closed, compared, after_factor, in_number, before_factor, after_less}

-- the scan from a place and a state on
unfoldable pub scan_on : ℕ → State → List Sign → Scanned
scan_on i s xs = cond (accepted (run s xs)) keeps_rules (breaks_at (i + passes s xs))

pub dead-run : (xs : List Sign) → run dead xs ≡ dead
unfolding run
dead-run [] = refl
dead-run (x ∷ xs) = dead-run xs

-- how many signs pass, by what the first one leads to
passed : (s : State) (x : Sign) (xs : List Sign) (t : State) → step s x ≡ t → passes s (x ∷ xs) ≡ passes_by t (passes t xs)
unfolding passes
passed s x xs t e = ap (λ u. passes_by u (passes u xs)) e

pub scan-dead : (i : ℕ) (s : State) (x : Sign) (xs : List Sign) → step s x ≡ dead → scan_on i s (x ∷ xs) ≡ breaks_at i
unfolding scan_on run passes_by
scan-dead i s x xs e =
    ap (λ t. cond (accepted t) keeps_rules (breaks_at (i + passes s (x ∷ xs)))) (ap (λ t. run t xs) e ∙ dead-run xs) ∙ ap breaks_at (omega (arith, passed s x xs dead e))

pub scan-next : (i : ℕ) (s : State) (x : Sign) (xs : List Sign) (l : Live) → step s x ≡ Some l → scan_on i s (x ∷ xs) ≡ scan_on (i + 1) (Some l) xs
unfolding scan_on run passes_by
scan-next i s x xs l e =
    ap (λ t. cond (accepted (run t xs)) keeps_rules (breaks_at (i + passes s (x ∷ xs)))) e
    ∙ ap (λ n. cond (accepted (run (Some l) xs)) keeps_rules (breaks_at n)) (omega (arith, passed s x xs (Some l) e))

pub scan-end : (i : ℕ) (s : State) (b : Bool) → accepted s ≡ b → scan_on i s [] ≡ cond b keeps_rules (breaks_at i)
unfolding scan_on run passes
scan-end i s b e = ap (λ t. cond t keeps_rules (breaks_at (i + 0))) e ∙ ap (λ n. cond b keeps_rules (breaks_at n)) (omega arith)

-- the same of a text
pub scan-begin : (text : List ℕ) → scanned text ≡ scan_on 0 start (signs (drop 0 text))
unfolding scanned scan_on
scan-begin text = ap (λ n. cond (accepted (run start (signs text))) keeps_rules (breaks_at n)) (omega arith)

module _ (text : List ℕ) (i : ℕ) (s : State) where
  pub turn-dead : (t : State) → i < length text → t ≡ step s (sign_at text i) → t ≡ dead → scan_on i s (signs (drop i text)) ≡ breaks_at i
  turn-dead t h e f = ap (scan_on i s) (signs-from text i h) ∙ scan-dead i s (sign_at text i) (signs (drop (i + 1) text)) (sym e ∙ f)

  pub turn-next : (t : State) (l : Live) → i < length text → t ≡ step s (sign_at text i) → t ≡ Some l → scan_on i s (signs (drop i text)) ≡ scan_on (i + 1) (Some l) (signs (drop (i + 1) text))
  turn-next t l h e f =
      ap (scan_on i s) (signs-from text i h)
      ∙ scan-next i s (sign_at text i) (signs (drop (i + 1) text)) l (sym e ∙ f)

  pub turn_end : (b : Bool) → length text ≤ i → accepted s ≡ b → scan_on i s (signs (drop i text)) ≡ cond b keeps_rules (breaks_at i)
  unfolding signs
  turn_end b h e = ap (λ xs. scan_on i s (signs xs)) (drop_of_length-le text h) ∙ scan-end i s b e

-- a sign opens one bracket at most
closed-depth : (d : ℕ) (r : Bool) → depth_of (closed d r) ≤ suc d
closed-depth zero r = omega arith
closed-depth (suc d) r = omega arith

compared-depth : (d : ℕ) (r : Bool) → depth_of (compared d r) ≤ suc d
compared-depth zero true = omega arith
compared-depth zero false = omega arith
compared-depth (suc d) r = omega arith

after-depth : (d : ℕ) (r : Bool) (x : Sign) → depth_of (after_factor d r x) ≤ suc d
after-depth d r Blank = omega arith
after-depth d r (Digit x) = omega arith
after-depth d r (Letter v) = omega arith
after-depth d r Open = omega arith
after-depth d r Close = closed-depth d r
after-depth d r Plus = omega arith
after-depth d r Minus = omega arith
after-depth d r Times = omega arith
after-depth d r Less = compared-depth d r
after-depth d r Equal = omega arith
after-depth d r Other = omega arith

number-depth : (d : ℕ) (r : Bool) (x : Sign) → depth_of (in_number d r x) ≤ suc d
number-depth d r Blank = omega arith
number-depth d r (Digit x) = omega arith
number-depth d r (Letter v) = omega arith
number-depth d r Open = omega arith
number-depth d r Close = closed-depth d r
number-depth d r Plus = omega arith
number-depth d r Minus = omega arith
number-depth d r Times = omega arith
number-depth d r Less = compared-depth d r
number-depth d r Equal = omega arith
number-depth d r Other = omega arith

before-depth : (d : ℕ) (r : Bool) (x : Sign) → depth_of (before_factor d r x) ≤ suc d
before-depth d r Blank = omega arith
before-depth d r (Digit x) = omega arith
before-depth d r (Letter v) = omega arith
before-depth d r Open = omega arith
before-depth d r Close = omega arith
before-depth d r Plus = omega arith
before-depth d r Minus = omega arith
before-depth d r Times = omega arith
before-depth d r Less = omega arith
before-depth d r Equal = omega arith
before-depth d r Other = omega arith

less-depth : (x : Sign) → depth_of (after_less x) ≡ zero
less-depth Blank = refl
less-depth (Digit x) = refl
less-depth (Letter v) = refl
less-depth Open = refl
less-depth Close = refl
less-depth Plus = refl
less-depth Minus = refl
less-depth Times = refl
less-depth Less = refl
less-depth Equal = refl
less-depth Other = refl

phase-depth : (p : Phase) (d : ℕ) (r : Bool) (x : Sign) → depth_of (step_by p d r x) ≤ suc d
phase-depth Awaiting d r x = before-depth d r x
phase-depth Counting d r x = number-depth d r x
phase-depth Complete d r x = after-depth d r x
phase-depth Half d r x = omega (arith, less-depth x)

pub depth : (s : State) (x : Sign) → depth_of (step s x) ≤ suc (depth_of s)
depth None x = omega arith
depth (Some l) x = phase-depth l.phase l.depth l.right x
