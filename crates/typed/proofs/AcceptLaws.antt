-- The scan accepts what a tree is spelled as, sign by sign. Assumes nothing.
use mathlib.Core.Path.{◌≡◌, refl, sym, ap, ◌∙◌, subst}
use mathlib.Core.Bool.{Bool, true, false}
use mathlib.Core.List.{List, [], ◌∷◌, ◌++◌}
use Prim.Native.Nat.{ℕ, zero, suc}
use lib.Dec.{T}
use Rattle.typed.specs.declared.signs.Sign.{Sign}
use Rattle.typed.specs.declared.signs.Sign.TheVariants.{Close, Plus, Minus, Times, Less, Equal}
use Rattle.typed.specs.declared.scan.Phase.TheVariants.{Awaiting, Counting, Complete, Half}
use Rattle.typed.specs.Text.{Expression, term, sum, difference, Term, factor, product, Factor, number, variable, bracket, negative, blanks, digits, spell, spell_term, spell_factor, Comparison, spell_row}
use Rattle.typed.specs.Scan.{State, live, step, run, accepted, start}

pub run-append : (s : State) (xs ys : List Sign) → run s (xs ++ ys) ≡ run (run s xs) ys
unfolding run
run-append s [] ys = refl
run-append s (x ∷ xs) ys = run-append (step s x) xs ys

-- a factor has just ended
pub data Ended (d : ℕ) (r : Bool) : State → Type 0 where
  in-number : Ended d r (live Counting d r)
  after-all : Ended d r (live Complete d r)

awaits-blanks : (n d : ℕ) (r : Bool) → run (live Awaiting d r) (blanks n) ≡ live Awaiting d r
unfolding run blanks
awaits-blanks zero d r = refl
awaits-blanks (suc n) d r = awaits-blanks n d r

complete-blanks : (n d : ℕ) (r : Bool) → run (live Complete d r) (blanks n) ≡ live Complete d r
unfolding run blanks
complete-blanks zero d r = refl
complete-blanks (suc n) d r = complete-blanks n d r

ended-blanks : {d : ℕ} {r : Bool} {s : State} (n : ℕ) → Ended d r s → Ended d r (run s (blanks n))
unfolding run blanks
ended-blanks zero in-number = in-number
ended-blanks zero after-all = after-all
ended-blanks {d = d} {r = r} (suc n) in-number = subst (Ended d r) (sym (complete-blanks n d r)) after-all
ended-blanks {d = d} {r = r} (suc n) after-all = subst (Ended d r) (sym (complete-blanks (suc n) d r)) after-all

digits-run : (ds : List ℕ) (d : ℕ) (r : Bool) → run (live Counting d r) (digits ds) ≡ live Counting d r
unfolding run digits
digits-run [] d r = refl
digits-run (x ∷ ds) d r = digits-run ds d r

-- an operator after a factor
pub data Operator : Sign → Type 0 where
  is-plus : Operator Plus
  is-minus : Operator Minus
  is-times : Operator Times

operator-step : {d : ℕ} {r : Bool} {s : State} {x : Sign} → Ended d r s → Operator x → step s x ≡ live Awaiting d r
operator-step in-number is-plus = refl
operator-step in-number is-minus = refl
operator-step in-number is-times = refl
operator-step after-all is-plus = refl
operator-step after-all is-minus = refl
operator-step after-all is-times = refl

close-step : {d : ℕ} {r : Bool} {s : State} → Ended (suc d) r s → step s Close ≡ live Complete d r
close-step in-number = refl
close-step after-all = refl

less-step : {s : State} → Ended zero false s → step s Less ≡ live Half zero false
less-step in-number = refl
less-step after-all = refl

-- one operand more, after blanks, an operator and blanks
operand-run : {d : ℕ} {r : Bool} {s : State} {x : Sign} (n m : ℕ) (ys : List Sign) → Ended d r s → Operator x → Ended d r (run (live Awaiting d r) ys) → Ended d r (run s (blanks n ++ (x ∷ (blanks m ++ ys))))
unfolding run
operand-run {d = d} {r = r} {s = s} {x = x} n m ys h o e =
    let one = run-append s (blanks n) (x ∷ (blanks m ++ ys)) in
    let two : step (run s (blanks n)) x ≡ live Awaiting d r = operator-step (ended-blanks n h) o in
    let three = run-append (live Awaiting d r) (blanks m) ys ∙ ap (λ t. run t ys) (awaits-blanks m d r) in
    subst (Ended d r) (sym (one ∙ ap (λ t. run t (blanks m ++ ys)) two ∙ three)) e

mutual
  unfolding spell run

  spell-ends : (e : Expression) (d : ℕ) (r : Bool) → Ended d r (run (live Awaiting d r) (spell e))
  spell-ends (term t) d r = term-ends t d r
  spell-ends (sum e n m t) d r =
      subst (Ended d r) (sym (run-append (live Awaiting d r) (spell e) (blanks n ++ (Plus ∷ (blanks m ++ spell_term t))))) (operand-run n m (spell_term t) (spell-ends e d r) is-plus (term-ends t d r))
  spell-ends (difference e n m t) d r =
      subst (Ended d r) (sym (run-append (live Awaiting d r) (spell e) (blanks n ++ (Minus ∷ (blanks m ++ spell_term t))))) (operand-run n m (spell_term t) (spell-ends e d r) is-minus (term-ends t d r))

  term-ends : (t : Term) (d : ℕ) (r : Bool) → Ended d r (run (live Awaiting d r) (spell_term t))
  term-ends (factor f) d r = factor-ends f d r
  term-ends (product t n m f) d r =
      subst (Ended d r) (sym (run-append (live Awaiting d r) (spell_term t) (blanks n ++ (Times ∷ (blanks m ++ spell_factor f))))) (operand-run n m (spell_factor f) (term-ends t d r) is-times (factor-ends f d r))

  factor-ends : (f : Factor) (d : ℕ) (r : Bool) → Ended d r (run (live Awaiting d r) (spell_factor f))
  factor-ends (number x ds) d r = subst (Ended d r) (sym (digits-run ds d r)) in-number
  factor-ends (variable v) d r = after-all
  factor-ends (bracket n e m) d r =
      let s = run (live Awaiting (suc d) r) (spell e) in
      let one = run-append (live Awaiting (suc d) r) (blanks n) (spell e ++ (blanks m ++ (Close ∷ []))) ∙ ap (λ t. run t (spell e ++ (blanks m ++ (Close ∷ [])))) (awaits-blanks n (suc d) r) in
      let two = run-append (live Awaiting (suc d) r) (spell e) (blanks m ++ (Close ∷ [])) ∙ run-append s (blanks m) (Close ∷ []) in
      let three : step (run s (blanks m)) Close ≡ live Complete d r = close-step (ended-blanks m (spell-ends e (suc d) r)) in
      subst (Ended d r) (sym (one ∙ two ∙ three)) after-all
  factor-ends (negative n f) d r =
      let one = run-append (live Awaiting d r) (blanks n) (spell_factor f) ∙ ap (λ t. run t (spell_factor f)) (awaits-blanks n d r) in
      subst (Ended d r) (sym one) (factor-ends f d r)

ended-accepted : {s : State} → Ended zero true s → T (accepted s)
ended-accepted in-number = tt
ended-accepted after-all = tt

-- a text that keeps the rules is accepted
pub spelled-accepted : (c : Comparison) → T (accepted (run start (spell_row c)))
unfolding spell_row start run
spelled-accepted c =
    let l = spell c.left in
    let last = spell c.right ++ blanks c.after in
    let right = blanks c.beyond ++ last in
    let sides = blanks c.between ++ (Less ∷ (Equal ∷ right)) in
    let s = run (live Awaiting zero false) l in
    let one = run-append (live Awaiting zero false) (blanks c.before) (l ++ sides) ∙ ap (λ t. run t (l ++ sides)) (awaits-blanks c.before zero false) in
    let two = run-append (live Awaiting zero false) l sides ∙ run-append s (blanks c.between) (Less ∷ (Equal ∷ right)) in
    let three : step (run s (blanks c.between)) Less ≡ live Half zero false = less-step (ended-blanks c.between (spell-ends c.left zero false)) in
    let four = ap (λ t. run (step t Equal) right) three in
    let five = run-append (live Awaiting zero true) (blanks c.beyond) last ∙ ap (λ t. run t last) (awaits-blanks c.beyond zero true) in
    let six = run-append (live Awaiting zero true) (spell c.right) (blanks c.after) in
    subst (λ t. T (accepted t)) (sym (one ∙ two ∙ four ∙ five ∙ six)) (ended-accepted (ended-blanks c.after (spell-ends c.right zero true)))
