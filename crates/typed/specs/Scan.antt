-- Where a text breaks the rules (02, order 1), computed sign by sign: what may come next, how many brackets are open, and whether `<=`
-- has been passed. proofs/MendLaws.antt shows that this is where Text says. Assumes nothing.
use Rattle.std.specs.Prelude.{Bool, true, false, cond, List, [], ◌∷◌, ℕ, zero, suc, Option, Some, None, Result, Ok, Err, ⊤}
use Rattle.typed.specs.declared.signs.Sign.{Sign}
use Rattle.typed.specs.declared.signs.Sign.TheVariants.{Blank, Digit, Letter, Open, Close, Plus, Minus, Times, Less, Equal, Other}
use Rattle.typed.specs.declared.scan.Phase.{Phase}
use Rattle.typed.specs.declared.scan.Phase.TheVariants.{Awaiting, Counting, Complete, Half}
use Rattle.typed.specs.declared.scan.Live.{Live}
use Rattle.typed.specs.declared.scan.Breach.{Breach}
use Rattle.typed.specs.Signs.{signs}

-- dead if no ending mends the signs so far; else what may come next, how many brackets are open, and whether `<=` has been passed
abbrev pub State : Type 0
State = Option Live

abbrev pub dead : State
dead = None

abbrev pub live : Phase → ℕ → Bool → State
live p d r = Some (record { phase = p; depth = d; right = r })

-- after a closing bracket
abbrev pub closed : ℕ → Bool → State
closed zero r = dead
closed (suc d) r = live Complete d r

-- after the `<` of `<=`, which stands once, outside all brackets
abbrev pub compared : ℕ → Bool → State
compared zero false = live Half zero false
compared zero true = dead
compared (suc d) r = dead

-- after a factor
abbrev pub after_factor : ℕ → Bool → Sign → State
after_factor d r Blank = live Complete d r
after_factor d r (Digit x) = dead
after_factor d r (Letter v) = dead
after_factor d r Open = dead
after_factor d r Close = closed d r
after_factor d r Plus = live Awaiting d r
after_factor d r Minus = live Awaiting d r
after_factor d r Times = live Awaiting d r
after_factor d r Less = compared d r
after_factor d r Equal = dead
after_factor d r Other = dead

-- after a digit
abbrev pub in_number : ℕ → Bool → Sign → State
in_number d r Blank = live Complete d r
in_number d r (Digit x) = live Counting d r
in_number d r (Letter v) = dead
in_number d r Open = dead
in_number d r Close = closed d r
in_number d r Plus = live Awaiting d r
in_number d r Minus = live Awaiting d r
in_number d r Times = live Awaiting d r
in_number d r Less = compared d r
in_number d r Equal = dead
in_number d r Other = dead

-- where a factor is to begin
abbrev pub before_factor : ℕ → Bool → Sign → State
before_factor d r Blank = live Awaiting d r
before_factor d r (Digit x) = live Counting d r
before_factor d r (Letter v) = live Complete d r
before_factor d r Open = live Awaiting (suc d) r
before_factor d r Close = dead
before_factor d r Plus = dead
before_factor d r Minus = live Awaiting d r
before_factor d r Times = dead
before_factor d r Less = dead
before_factor d r Equal = dead
before_factor d r Other = dead

-- after `<` nothing but `=`, with no blank between
abbrev pub after_less : Sign → State
after_less Blank = dead
after_less (Digit x) = dead
after_less (Letter v) = dead
after_less Open = dead
after_less Close = dead
after_less Plus = dead
after_less Minus = dead
after_less Times = dead
after_less Less = dead
after_less Equal = live Awaiting zero true
after_less Other = dead

-- one sign further
abbrev pub step_by : Phase → ℕ → Bool → Sign → State
step_by Awaiting d r x = before_factor d r x
step_by Counting d r x = in_number d r x
step_by Complete d r x = after_factor d r x
step_by Half d r x = after_less x

abbrev pub step : State → Sign → State
step None x = dead
step (Some l) x = step_by l.phase l.depth l.right x

unfoldable pub run : State → List Sign → State
run s [] = s
run s (x ∷ xs) = run (step s x) xs

-- whether a text may end: with no bracket open and `<=` passed
abbrev pub ended : ℕ → Bool → Bool
ended zero r = r
ended (suc d) r = false

abbrev pub accepted_by : Phase → ℕ → Bool → Bool
accepted_by Awaiting d r = false
accepted_by Counting d r = ended d r
accepted_by Complete d r = ended d r
accepted_by Half d r = false

abbrev pub accepted : State → Bool
accepted None = false
accepted (Some l) = accepted_by l.phase l.depth l.right

-- how many signs pass before the state is dead: none where the first leads there, else it and those after it
unfoldable pub passes_by : State → ℕ → ℕ
passes_by None n = zero
passes_by (Some l) n = suc n

unfoldable pub passes : State → List Sign → ℕ
passes s [] = zero
passes s (x ∷ xs) = passes_by (step s x) (passes (step s x) xs)

unfoldable pub start : State
start = live Awaiting zero false

-- how many brackets are open
abbrev pub depth_of : State → ℕ
depth_of None = zero
depth_of (Some l) = l.depth

-- a text keeps the rules, or breaks them at a place
abbrev pub Scanned : Type 0
Scanned = Result ⊤ Breach

abbrev pub keeps_rules : Scanned
keeps_rules = Ok tt

abbrev pub breaks_at : ℕ → Scanned
breaks_at p = Err (record { place = p })

unfoldable pub scanned : List ℕ → Scanned
scanned text = cond (accepted (run start (signs text))) keeps_rules (breaks_at (passes start (signs text)))
