-- Signs that the scan accepts are the spelling of a tree: the tree is read from them as the readers would. Assumes nothing.
use mathlib.Core.Path.{◌≡◌, refl, sym, ap, ◌∙◌, subst}
use mathlib.Core.Bool.{Bool, true, false}
use mathlib.Core.List.{List, [], ◌∷◌, ◌++◌, append_assoc}
use Prim.Native.Nat.{ℕ, zero, suc, ◌*◌, ◌≤◌, ◌<◌}
use native.Mathlib.Omega.{arith}
use lib.Dec.{T}
use lib.ListN.{length}
use Rattle.typed.specs.declared.signs.Sign.{Sign}
use Rattle.typed.specs.declared.signs.Sign.TheVariants.{Blank, Digit, Letter, Open, Close, Plus, Minus, Times, Less, Equal, Other}
use Rattle.typed.specs.declared.scan.Phase.TheVariants.{Awaiting, Counting, Complete, Half}
use Rattle.typed.specs.Text.{Expression, term, sum, difference, Term, factor, product, Factor, number, variable, bracket, negative, blanks, digits, spell, spell_term, spell_factor, Comparison, spell_row}
use Rattle.typed.specs.Scan.{dead, live, closed, compared, run, ended, accepted, start}
use Rattle.typed.proofs.ScanLaws.{dead-run}
use Rattle.typed.proofs.AcceptLaws.{Operator, is-plus, is-minus, is-times}

-- what may follow a factor
pub dead_not : {A : Type 0} (xs : List Sign) → T (accepted (run dead xs)) → A
dead_not xs h = absurd (subst (λ t. T (accepted t)) (dead-run xs) h)

pub data Follows (d : ℕ) (r : Bool) (xs : List Sign) : Type 0 where
  ends : (n : ℕ) → d ≡ zero → r ≡ true → xs ≡ blanks n → Follows d r xs
  operates : (n : ℕ) (x : Sign) (rest : List Sign) → Operator x → xs ≡ blanks n ++ (x ∷ rest) → length rest < length xs → T (accepted (run (live Awaiting d r) rest)) → Follows d r xs
  closes : (n e : ℕ) (rest : List Sign) → d ≡ suc e → xs ≡ blanks n ++ (Close ∷ rest) → length rest < length xs → T (accepted (run (live Complete e r) rest)) → Follows d r xs
  compares : (n : ℕ) (rest : List Sign) → d ≡ zero → r ≡ false → xs ≡ blanks n ++ (Less ∷ (Equal ∷ rest)) → length rest < length xs → T (accepted (run (live Awaiting zero true) rest)) → Follows d r xs

one-blank : {d : ℕ} {r : Bool} {xs : List Sign} → Follows d r xs → Follows d r (Blank ∷ xs)
unfolding blanks
one-blank (ends n d r e) = ends (suc n) d r (ap (λ ys. Blank ∷ ys) e)
one-blank (operates n x rest o e l h) = operates (suc n) x rest o (ap (λ ys. Blank ∷ ys) e) (omega arith) h
one-blank (closes n e rest d f l h) = closes (suc n) e rest d (ap (λ ys. Blank ∷ ys) f) (omega arith) h
one-blank (compares n rest d r e l h) = compares (suc n) rest d r (ap (λ ys. Blank ∷ ys) e) (omega arith) h

follows-end : (d : ℕ) (r : Bool) → T (ended d r) → Follows d r []
unfolding blanks
follows-end zero true h = ends zero refl refl refl
follows-end zero false h = absurd h
follows-end (suc d) r h = absurd h

follows-close : (d : ℕ) (r : Bool) (xs : List Sign) → T (accepted (run (closed d r) xs)) → Follows d r (Close ∷ xs)
unfolding blanks
follows-close zero r xs h = dead_not xs h
follows-close (suc d) r xs h = closes zero d xs refl refl (omega arith) h

follows-equal : (xs : List Sign) → T (accepted (run (live Half zero false) xs)) → Follows zero false (Less ∷ xs)
unfolding run blanks
follows-equal [] h = absurd h
follows-equal (Blank ∷ xs) h = dead_not xs h
follows-equal (Digit x ∷ xs) h = dead_not xs h
follows-equal (Letter v ∷ xs) h = dead_not xs h
follows-equal (Open ∷ xs) h = dead_not xs h
follows-equal (Close ∷ xs) h = dead_not xs h
follows-equal (Plus ∷ xs) h = dead_not xs h
follows-equal (Minus ∷ xs) h = dead_not xs h
follows-equal (Times ∷ xs) h = dead_not xs h
follows-equal (Less ∷ xs) h = dead_not xs h
follows-equal (Equal ∷ xs) h = compares zero xs refl refl refl (omega arith) h
follows-equal (Other ∷ xs) h = dead_not xs h

follows-less : (d : ℕ) (r : Bool) (xs : List Sign) → T (accepted (run (compared d r) xs)) → Follows d r (Less ∷ xs)
follows-less zero false xs h = follows-equal xs h
follows-less zero true xs h = dead_not xs h
follows-less (suc d) r xs h = dead_not xs h

follows : (d : ℕ) (r : Bool) (xs : List Sign) → T (accepted (run (live Complete d r) xs)) → Follows d r xs
unfolding run blanks
follows d r [] h = follows-end d r h
follows d r (Blank ∷ xs) h = one-blank (follows d r xs h)
follows d r (Digit x ∷ xs) h = dead_not xs h
follows d r (Letter v ∷ xs) h = dead_not xs h
follows d r (Open ∷ xs) h = dead_not xs h
follows d r (Close ∷ xs) h = follows-close d r xs h
follows d r (Plus ∷ xs) h = operates zero Plus xs is-plus refl (omega arith) h
follows d r (Minus ∷ xs) h = operates zero Minus xs is-minus refl (omega arith) h
follows d r (Times ∷ xs) h = operates zero Times xs is-times refl (omega arith) h
follows d r (Less ∷ xs) h = follows-less d r xs h
follows d r (Equal ∷ xs) h = dead_not xs h
follows d r (Other ∷ xs) h = dead_not xs h

-- the digits of a number
pub record Digits (d : ℕ) (r : Bool) (xs : List Sign) : Type 0 where
  pub ds : List ℕ
  pub rest : List Sign
  pub text : xs ≡ digits ds ++ rest
  pub short : length rest ≤ length xs
  pub goes : T (accepted (run (live Complete d r) rest))

digits_of : (d : ℕ) (r : Bool) (xs : List Sign) → T (accepted (run (live Counting d r) xs)) → Digits d r xs
unfolding run digits
digits_of d r [] h = record { ds = []; rest = []; text = refl; short = omega arith; goes = h }
digits_of d r (Blank ∷ xs) h = record { ds = []; rest = Blank ∷ xs; text = refl; short = omega arith; goes = h }
digits_of d r (Digit x ∷ xs) h =
    let w = digits_of d r xs h in
    record { ds = x ∷ w.ds; rest = w.rest; text = ap (λ ys. Digit x ∷ ys) w.text; short = omega (arith, w.short); goes = w.goes }
digits_of d r (Letter v ∷ xs) h = dead_not xs h
digits_of d r (Open ∷ xs) h = dead_not xs h
digits_of d r (Close ∷ xs) h = record { ds = []; rest = Close ∷ xs; text = refl; short = omega arith; goes = h }
digits_of d r (Plus ∷ xs) h = record { ds = []; rest = Plus ∷ xs; text = refl; short = omega arith; goes = h }
digits_of d r (Minus ∷ xs) h = record { ds = []; rest = Minus ∷ xs; text = refl; short = omega arith; goes = h }
digits_of d r (Times ∷ xs) h = record { ds = []; rest = Times ∷ xs; text = refl; short = omega arith; goes = h }
digits_of d r (Less ∷ xs) h = record { ds = []; rest = Less ∷ xs; text = refl; short = omega arith; goes = h }
digits_of d r (Equal ∷ xs) h = dead_not xs h
digits_of d r (Other ∷ xs) h = dead_not xs h

-- A factor, after blanks, and what follows it
pub record FactorIn (d : ℕ) (r : Bool) (xs : List Sign) : Type 0 where
  pub lead : ℕ
  pub tree : Factor
  pub rest : List Sign
  pub text : xs ≡ blanks lead ++ (spell_factor tree ++ rest)
  pub short : length rest < length xs
  pub goes : T (accepted (run (live Complete d r) rest))

-- An expression, after blanks, and what follows it, which is no operator
pub data Stop (d : ℕ) (r : Bool) (xs : List Sign) : Type 0 where
  ends : (n : ℕ) → d ≡ zero → r ≡ true → xs ≡ blanks n → Stop d r xs
  closes : (n e : ℕ) (rest : List Sign) → d ≡ suc e → xs ≡ blanks n ++ (Close ∷ rest) → length rest < length xs → T (accepted (run (live Complete e r) rest)) → Stop d r xs
  compares : (n : ℕ) (rest : List Sign) → d ≡ zero → r ≡ false → xs ≡ blanks n ++ (Less ∷ (Equal ∷ rest)) → length rest < length xs → T (accepted (run (live Awaiting zero true) rest)) → Stop d r xs

pub record ExpressionIn (d : ℕ) (r : Bool) (xs : List Sign) : Type 0 where
  pub lead : ℕ
  pub tree : Expression
  pub rest : List Sign
  pub text : xs ≡ blanks lead ++ (spell tree ++ rest)
  pub short : length rest < length xs
  pub stop : Stop d r rest

-- an expression that goes on from a tree
pub record Going (d : ℕ) (r : Bool) (read xs : List Sign) : Type 0 where
  pub tree : Expression
  pub rest : List Sign
  pub text : read ++ xs ≡ spell tree ++ rest
  pub short : length rest ≤ length xs
  pub stop : Stop d r rest

-- the sum before the term that is being read, if any
pub data Pending : Type 0 where
  nothing : Pending
  added : Expression → ℕ → ℕ → Pending
  taken : Expression → ℕ → ℕ → Pending

unfoldable joined : Pending → Term → Expression
joined nothing t = term t
joined (added e n m) t = sum e n m t
joined (taken e n m) t = difference e n m t

-- one more operand in the text
more-text : (read : List Sign) (n m : ℕ) (x : Sign) (f rest : List Sign) → (read ++ (blanks n ++ (x ∷ (blanks m ++ f)))) ++ rest ≡ read ++ (blanks n ++ (x ∷ (blanks m ++ (f ++ rest))))
more-text read n m x f rest =
    append_assoc read (blanks n ++ (x ∷ (blanks m ++ f))) rest
    ∙ ap (λ ys. read ++ ys) (append_assoc (blanks n) (x ∷ (blanks m ++ f)) rest)
    ∙ ap (λ ys. read ++ (blanks n ++ (x ∷ ys))) (append_assoc (blanks m) f rest)

-- a product as the last term: the text of the whole
joined-product : (p : Pending) (t : Term) (n m : ℕ) (f : Factor) → spell (joined p (product t n m f)) ≡ spell (joined p t) ++ (blanks n ++ (Times ∷ (blanks m ++ spell_factor f)))
unfolding joined spell
joined-product nothing t n m f = refl
joined-product (added e i j) t n m f = sym (more-text (spell e) i j Plus (spell_term t) (blanks n ++ (Times ∷ (blanks m ++ spell_factor f))))
joined-product (taken e i j) t n m f = sym (more-text (spell e) i j Minus (spell_term t) (blanks n ++ (Times ∷ (blanks m ++ spell_factor f))))

-- reading on from an operand that was read
goes_on : {d : ℕ} {r : Bool} {xs next : List Sign} (read : List Sign) (n : ℕ) (x : Sign) (rest : List Sign) → xs ≡ blanks n ++ (x ∷ rest) → length rest < length xs → (w : FactorIn d r rest) → next ≡ read ++ (blanks n ++ (x ∷ (blanks w.lead ++ spell_factor w.tree))) → Going d r next w.rest → Going d r read xs
goes_on read n x rest e l w h g = record {
  tree = g.tree;
  rest = g.rest;
  text =
      ap (λ ys. read ++ ys) (e ∙ ap (λ ys. blanks n ++ (x ∷ ys)) w.text)
      ∙ sym (more-text read n w.lead x (spell_factor w.tree) w.rest)
      ∙ ap (λ ys. ys ++ w.rest) (sym h)
      ∙ g.text;
  short = omega (arith, l, w.short, g.short);
  stop = g.stop;
}

stopped : {d : ℕ} {r : Bool} (p : Pending) (t : Term) (xs : List Sign) → Stop d r xs → Going d r (spell (joined p t)) xs
stopped p t xs s = record { tree = joined p t; rest = xs; text = refl; short = omega arith; stop = s }

-- one operand more, by its operator; what is read on from there is given
operand : {d : ℕ} {r : Bool} {xs : List Sign} {x : Sign} (p : Pending) (t : Term) (n : ℕ) (rest : List Sign) → Operator x → xs ≡ blanks n ++ (x ∷ rest) → length rest < length xs → (w : FactorIn d r rest) → ((q : Pending) (u : Term) → Going d r (spell (joined q u)) w.rest) → Going d r (spell (joined p t)) xs
unfolding joined spell
operand p t n rest is-plus e l w k = goes_on (spell (joined p t)) n Plus rest e l w refl (k (added (joined p t) n w.lead) (factor w.tree))
operand p t n rest is-minus e l w k = goes_on (spell (joined p t)) n Minus rest e l w refl (k (taken (joined p t) n w.lead) (factor w.tree))
operand p t n rest is-times e l w k = goes_on (spell (joined p t)) n Times rest e l w (joined-product p t n w.lead w.tree) (k p (product t n w.lead w.tree))

-- what a bracket holds
bracket-stop : {d : ℕ} {r : Bool} {xs : List Sign} (w : ExpressionIn (suc d) r xs) → Stop (suc d) r w.rest → FactorIn d r (Open ∷ xs)
unfolding spell_factor blanks
bracket-stop w (ends n e f g) = absurd (omega arith)
bracket-stop {d = d} {r = r} {xs = xs} w (closes n e rest g f l h) =
    let same : e ≡ d = omega arith in
    record {
      lead = zero;
      tree = bracket w.lead w.tree n;
      rest = rest;
      text =
          ap (λ ys. Open ∷ ys)
          (w.text
          ∙ ap (λ ys. blanks w.lead ++ (spell w.tree ++ ys)) f
          ∙ ap (λ ys. blanks w.lead ++ (spell w.tree ++ ys)) (sym (append_assoc (blanks n) (Close ∷ []) rest))
          ∙ ap (λ ys. blanks w.lead ++ ys) (sym (append_assoc (spell w.tree) (blanks n ++ (Close ∷ [])) rest))
          ∙ sym (append_assoc (blanks w.lead) (spell w.tree ++ (blanks n ++ (Close ∷ []))) rest));
      short = omega (arith, w.short, l);
      goes = subst (λ k. T (accepted (run (live Complete k r) rest))) same h;
    }
bracket-stop w (compares n rest g f e l h) = absurd (omega arith)

mutual
  unfolding run spell_factor blanks digits spell joined

  expression-in : (fuel d : ℕ) (r : Bool) (xs : List Sign) → 2 * length xs < fuel → T (accepted (run (live Awaiting d r) xs)) → ExpressionIn d r xs
  expression-in zero d r xs b h = absurd (omega arith)
  expression-in (suc fuel) d r xs b h =
      let w = factor-in fuel d r xs (omega arith) h in
      let g = going fuel d r nothing (factor w.tree) w.rest (omega (arith, w.short)) w.goes in
      record {
        lead = w.lead;
        tree = g.tree;
        rest = g.rest;
        text = w.text ∙ ap (λ ys. blanks w.lead ++ ys) g.text;
        short = omega (arith, w.short, g.short);
        stop = g.stop;
      }

  going : (fuel d : ℕ) (r : Bool) (p : Pending) (t : Term) (xs : List Sign) → 2 * length xs < fuel → T (accepted (run (live Complete d r) xs)) → Going d r (spell (joined p t)) xs
  going zero d r p t xs b h = absurd (omega arith)
  going (suc fuel) d r p t xs b h = elim (follows d r xs h) [
    | ends n e f g ↦ stopped p t xs (ends n e f g)
    | operates n x rest o e l k ↦
        let w = factor-in fuel d r rest (omega arith) k in
        operand p t n rest o e l w (λ q u. going fuel d r q u w.rest (omega (arith, w.short)) w.goes)
    | closes n e rest f g l k ↦ stopped p t xs (closes n e rest f g l k)
    | compares n rest e f g l k ↦ stopped p t xs (compares n rest e f g l k)
  ]

  factor-in : (fuel d : ℕ) (r : Bool) (xs : List Sign) → 2 * length xs ≤ fuel → T (accepted (run (live Awaiting d r) xs)) → FactorIn d r xs
  factor-in zero d r [] b h = absurd h
  factor-in zero d r (x ∷ xs) b h = absurd (omega arith)
  factor-in (suc fuel) d r [] b h = absurd h
  factor-in (suc fuel) d r (Blank ∷ xs) b h =
      let w = factor-in fuel d r xs (omega arith) h in
      record { lead = suc w.lead; tree = w.tree; rest = w.rest; text = ap (λ ys. Blank ∷ ys) w.text; short = omega (arith, w.short); goes = w.goes }
  factor-in (suc fuel) d r (Digit x ∷ xs) b h =
      let w = digits_of d r xs h in
      record { lead = zero; tree = number x w.ds; rest = w.rest; text = ap (λ ys. Digit x ∷ ys) w.text; short = omega (arith, w.short); goes = w.goes }
  factor-in (suc fuel) d r (Letter v ∷ xs) b h =
      record { lead = zero; tree = variable v; rest = xs; text = refl; short = omega arith; goes = h }
  factor-in (suc fuel) d r (Open ∷ xs) b h =
      let w = expression-in fuel (suc d) r xs (omega arith) h in
      bracket-stop w w.stop
  factor-in (suc fuel) d r (Close ∷ xs) b h = dead_not xs h
  factor-in (suc fuel) d r (Plus ∷ xs) b h = dead_not xs h
  factor-in (suc fuel) d r (Minus ∷ xs) b h =
      let w = factor-in fuel d r xs (omega arith) h in
      record { lead = zero; tree = negative w.lead w.tree; rest = w.rest; text = ap (λ ys. Minus ∷ ys) (w.text ∙ sym (append_assoc (blanks w.lead) (spell_factor w.tree) w.rest)); short = omega (arith, w.short); goes = w.goes }
  factor-in (suc fuel) d r (Times ∷ xs) b h = dead_not xs h
  factor-in (suc fuel) d r (Less ∷ xs) b h = dead_not xs h
  factor-in (suc fuel) d r (Equal ∷ xs) b h = dead_not xs h
  factor-in (suc fuel) d r (Other ∷ xs) b h = dead_not xs h

-- a text that is accepted keeps the rules
pub record Spelled (xs : List Sign) : Type 0 where
  pub row : Comparison
  pub spelled : spell_row row ≡ xs

right_side : {xs : List Sign} (before : ℕ) (left : Expression) (between : ℕ) {rest : List Sign} → xs ≡ blanks before ++ (spell left ++ (blanks between ++ (Less ∷ (Equal ∷ rest)))) → (w : ExpressionIn zero true rest) → Stop zero true w.rest → Spelled xs
unfolding spell_row
right_side before left between e w (ends n f g h) = record {
  row = record { before = before; left = left; between = between; beyond = w.lead; right = w.tree; after = n };
  spelled = sym (e ∙ ap (λ ys. blanks before ++ (spell left ++ (blanks between ++ (Less ∷ (Equal ∷ ys))))) (w.text ∙ ap (λ ys. blanks w.lead ++ (spell w.tree ++ ys)) h));
}
right_side before left between e w (closes n m rest f g l h) = absurd (omega arith)
right_side before left between e w (compares n rest f g h l k) = absurd (true-not-false g)
  where
    true-not-false : ◌≡◌ {A = Bool} true false → ⊥
    true-not-false e = subst T e tt

left-side : {xs : List Sign} (w : ExpressionIn zero false xs) → Stop zero false w.rest → Spelled xs
left-side w (ends n f g h) = absurd (subst T (sym g) tt)
left-side w (closes n m rest f g l h) = absurd (omega arith)
left-side w (compares n rest f g h l k) =
    let v = expression-in (suc (2 * length rest)) zero true rest (omega arith) k in
    right_side w.lead w.tree n (w.text ∙ ap (λ ys. blanks w.lead ++ (spell w.tree ++ ys)) h) v v.stop

pub accepted-spelled : (xs : List Sign) → T (accepted (run start xs)) → Spelled xs
unfolding start
accepted-spelled xs h =
    let w = expression-in (suc (2 * length xs)) zero false xs (omega arith) h in
    left-side w w.stop
