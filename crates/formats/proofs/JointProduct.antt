-- Joint switches are as many as the product law says, and as many lead into a location as the products over its modes say: no location and
-- no joint switch is gone through to count them. Assumes nothing.
use mathlib.Core.Path.{◌≡◌, refl, sym, ap, ap₂, ◌∙◌}
use mathlib.Core.Bool.{Bool, true, false, cond, ◌&&◌}
use mathlib.Core.List.{List, [], ◌∷◌}
use Prim.Native.Nat.{ℕ, zero, suc, ◌+◌, ◌*◌, ◌≤◌, ◌<◌}
use native.Mathlib.Nat.{zero-mul}
use native.Mathlib.Omega.{arith}
use lib.Arith.{digits_div, digits_mod}
use lib.Dec.{eqb}
use borrow.Author.Tests.{ne_eqb}
use lib.ListN.{length}
use Rattle.farkas.specs.Lists.{All, none, more}
use Rattle.formats.specs.Model.{Switch, Component, Model, has_event}
use Rattle.formats.specs.Locations.{location_count, modes_at}
use Rattle.formats.specs.Joint.{stays, switch_of, leaves, bit, mover_count, leaving, silent, together, switches_of, count_up, join_all, joints_of, joints}
use Rattle.formats.specs.Parts.{parts, mode_after}
use Rattle.formats.proofs.Locations.{HaveModes}
use Rattle.formats.proofs.WellFormed.{GoodSwitch, GoodComponent, WellFormed}
use Rattle.formats.proofs.JointCounts.{silent-length, together-length, event-length}
use Rattle.formats.specs.JointTotals.{sum_over, labelled, choices, together_total, silent_total, event_total, joint_total, entering, arrivals}
use Rattle.formats.proofs.SumLaws.{sum_same, sum-plus, sum-times, sum-before, sum-none, sum-length, sum-joined, sum-swap, sum_below, sum-digits, sum-pick, sum-numbers, sum-zero}

-- what the laws need of a component: it has a mode, its switches' numbers are not that of staying, and they go from mode to mode
pub record Ranged (modes : ℕ) (w : Switch) : Type 0 where
  pub source : w.source < modes
  pub target : w.target < modes

pub record Countable (c : Component) : Type 0 where
  pub least : 1 ≤ length c.modes
  pub few : length c.switches ≤ stays
  pub switches : All (Ranged (length c.modes)) c.switches

-- so are the components of a model that reads well
ranged : {n modes : ℕ} {switches : List Switch} → All (GoodSwitch n modes) switches → All (Ranged modes) switches
ranged none = none
ranged (more g rest) = more (record { source = g.source; target = g.target }) (ranged rest)

pub countable : {n : ℕ} {components : List Component} → All (GoodComponent n) components → All Countable components
unfolding stays
countable none = none
countable (more {a = c} g rest) = more {a = c} (record { least = g.least; few = omega (arith, g.few); switches = ranged g.switches }) (countable rest)

pub have-modes : {components : List Component} → All Countable components → HaveModes components
have-modes none = none
have-modes (more g rest) = more g.least (have-modes rest)

-- a sum over locations, by the first component's mode and the location of the others
pub sum-locations : (c : Component) (components : List Component) (f : ℕ → List ℕ → ℕ) → sum_over (λ l. f l (modes_at (c ∷ components) l)) (count_up 0 (location_count (c ∷ components))) ≡ sum_over (λ m. sum_over (λ b. f (m * location_count components + b) (m ∷ modes_at components b)) (count_up 0 (location_count components))) (count_up 0 (length c.modes))
unfolding location_count modes_at
sum-locations c components f =
    let n = location_count components in
    let m = length c.modes in
    ap (λ (k : ℕ). sum_over (λ l. f l (modes_at (c ∷ components) l)) (count_up k (m * n))) (sym (zero-mul n))
    ∙ sum-digits (λ l. f l (modes_at (c ∷ components) l)) 0 m n
    ∙ sum_same
    (λ a. sum_over (λ b. f (a * n + b) (modes_at (c ∷ components) (a * n + b))) (count_up 0 n))
    (λ a. sum_over (λ b. f (a * n + b) (a ∷ modes_at components b)) (count_up 0 n))
    (λ a. sum_below (λ b. f (a * n + b) (modes_at (c ∷ components) (a * n + b))) (λ b. f (a * n + b) (a ∷ modes_at components b)) 0 n
    (λ b l. ap₂ (λ (x y : ℕ). f (a * n + b) (x ∷ modes_at components y)) (digits_div a (omega arith)) (digits_mod a (omega arith))))
    (count_up 0 m)

-- switches of a component, summed by the modes that they leave: each has one source
bit-both : (a b : Bool) (v : ℕ) → bit (a && b) * v ≡ bit b * (bit a * v)
unfolding bit
bit-both true true v = omega arith
bit-both true false v = omega arith
bit-both false true v = omega arith
bit-both false false v = omega arith

each-source : (modes e : ℕ) (g : Switch → ℕ) {switches : List Switch} → All (Ranged modes) switches → sum_over (λ m. sum_over (λ w. bit (leaves m e w) * g w) switches) (count_up 0 modes) ≡ sum_over (λ w. bit (eqb w.label e) * g w) switches
unfolding sum_over leaves
each-source modes e g none = sum-none (count_up 0 modes)
each-source modes e g (more {a = w} {xs = switches} r rest) =
    sum-plus (λ m. bit (leaves m e w) * g w) (λ m. sum_over (λ w. bit (leaves m e w) * g w) switches) (count_up 0 modes)
    ∙ ap₂ (λ (x y : ℕ). x + y)
    (sum_same (λ m. bit (leaves m e w) * g w) (λ m. bit (eqb w.source m) * (bit (eqb w.label e) * g w)) (λ m. bit-both (eqb w.label e) (eqb w.source m) (g w)) (count_up 0 modes)
    ∙ sum-pick w.source (λ m. bit (eqb w.label e) * g w) 0 modes (omega arith) (omega (arith, r.source)))
    (each-source modes e g rest)

-- and each has one target
each-target : (modes e : ℕ) (g : ℕ → ℕ) {switches : List Switch} → All (Ranged modes) switches → sum_over (λ m. sum_over (λ w. bit (eqb w.label e && eqb w.target m)) switches * g m) (count_up 0 modes) ≡ sum_over (λ w. bit (eqb w.label e) * g w.target) switches
unfolding sum_over
each-target modes e g none = sum_same (λ m. 0 * g m) (λ m. 0) (λ m. zero-mul (g m)) (count_up 0 modes) ∙ sum-none (count_up 0 modes)
each-target modes e g (more {a = w} {xs = switches} r rest) =
    let one : ℕ → ℕ = λ m. bit (eqb w.label e && eqb w.target m) in
    let others : ℕ → ℕ = λ m. sum_over (λ w. bit (eqb w.label e && eqb w.target m)) switches in
    sum_same (λ m. (one m + others m) * g m) (λ m. one m * g m + others m * g m) (λ m. apart (one m) (others m) (g m)) (count_up 0 modes)
    ∙ sum-plus (λ m. one m * g m) (λ m. others m * g m) (count_up 0 modes)
    ∙ ap₂ (λ (x y : ℕ). x + y)
    (sum_same (λ m. one m * g m) (λ m. bit (eqb w.target m) * (bit (eqb w.label e) * g m)) (λ m. bit-both (eqb w.label e) (eqb w.target m) (g m)) (count_up 0 modes)
    ∙ sum-pick w.target (λ m. bit (eqb w.label e) * g m) 0 modes (omega arith) (omega (arith, r.target)))
    (each-target modes e g rest)
  where
    apart : (a b v : ℕ) → (a + b) * v ≡ a * v + b * v
    apart a b v = omega arith

leaving-sum : (c : Component) → Countable c → (mode e : ℕ) (g : ℕ → ℕ) → sum_over (λ i. g (mode_after c mode i)) (leaving c mode e) ≡ sum_over (λ w. bit (leaves mode e w) * g w.target) c.switches
unfolding leaving switch_of mode_after
leaving-sum c r mode e g =
    sum-numbers (λ i. g (mode_after c mode i)) (λ w. g w.target) (leaves mode e) (record { source = 0; target = 0; label = 0; jump = [] }) 0 c.switches
    (λ j l.
    ap (λ (i : ℕ). g (mode_after c mode i)) (none j)
    ∙ ap (λ (b : Bool). g (cond b mode (switch_of c j).target)) (ne_eqb j stays (λ h. omega (arith, r.few))))
  where
    none : (n : ℕ) → 0 + n ≡ n
    none n = omega arith

-- a component's switches with a label, from all its modes, summed by the mode that they lead into
pub leaving-modes : (c : Component) → Countable c → (e : ℕ) (g : ℕ → ℕ) → sum_over (λ m. sum_over (λ i. g (mode_after c m i)) (leaving c m e)) (count_up 0 (length c.modes)) ≡ sum_over (λ m. entering c m e * g m) (count_up 0 (length c.modes))
unfolding entering
leaving-modes c r e g =
    let modes = count_up 0 (length c.modes) in
    sum_same (λ m. sum_over (λ i. g (mode_after c m i)) (leaving c m e)) (λ m. sum_over (λ w. bit (leaves m e w) * g w.target) c.switches) (λ m. leaving-sum c r m e g) modes
    ∙ each-source (length c.modes) e (λ w. g w.target) r.switches
    ∙ sym (each-target (length c.modes) e g r.switches)

-- a component that stays leads into the mode that it was in
staying-modes : (c : Component) (g : ℕ → ℕ) (modes : List ℕ) → sum_over (λ m. sum_over (λ i. g (mode_after c m i)) (stays ∷ [])) modes ≡ sum_over (λ m. 1 * g m) modes
unfolding sum_over mode_after stays
staying-modes c g modes = sum_same (λ m. g m + 0) (λ m. 1 * g m) (λ m. omega arith) modes

-- its parts in an event, by either
either-parts : (b : Bool) (f : ℕ → ℕ → ℕ) (numbers : ℕ → List ℕ) (into g : ℕ → ℕ) (modes : List ℕ) → sum_over (λ m. sum_over (f m) (numbers m)) modes ≡ sum_over (λ m. into m * g m) modes → sum_over (λ m. sum_over (f m) (stays ∷ [])) modes ≡ sum_over (λ m. 1 * g m) modes → sum_over (λ m. sum_over (f m) (cond b (numbers m) (stays ∷ []))) modes ≡ sum_over (λ m. cond b (into m) 1 * g m) modes
either-parts true f numbers into g modes h k = h
either-parts false f numbers into g modes h k = k

pub parts-modes : (c : Component) → Countable c → (e : ℕ) (g : ℕ → ℕ) → sum_over (λ m. sum_over (λ i. g (mode_after c m i)) (parts c m e)) (count_up 0 (length c.modes)) ≡ sum_over (λ m. arrivals c m e * g m) (count_up 0 (length c.modes))
unfolding parts arrivals
parts-modes c r e g =
    let modes = count_up 0 (length c.modes) in
    either-parts (has_event c.alphabet e) (λ m i. g (mode_after c m i)) (λ m. leaving c m e) (λ m. entering c m e) g modes (leaving-modes c r e g) (staying-modes c g modes)

-- how many parts a component has from all its modes together
leaving-count : (c : Component) → Countable c → (e : ℕ) → sum_over (λ m. length (leaving c m e)) (count_up 0 (length c.modes)) ≡ labelled c e
unfolding labelled leaving
leaving-count c r e =
    sum_same (λ m. length (leaving c m e)) (λ m. sum_over (λ w. bit (leaves m e w) * 1) c.switches)
    (λ m.
    sum-length (leaving c m e)
    ∙ sum-numbers (λ i. 1) (λ w. 1) (leaves m e) (record { source = 0; target = 0; label = 0; jump = [] }) 0 c.switches (λ j l. refl))
    (count_up 0 (length c.modes))
    ∙ each-source (length c.modes) e (λ w. 1) r.switches
    ∙ sum_same (λ w. bit (eqb w.label e) * 1) (λ w. bit (eqb w.label e)) (λ w. omega arith) c.switches

counted : (i n : ℕ) → sum_over (λ m. 1) (count_up i n) ≡ n
unfolding sum_over count_up
counted i zero = refl
counted i (suc n) = omega (arith, counted (suc i) n)

either-count : (b : Bool) (numbers : ℕ → List ℕ) (n all : ℕ) → sum_over (λ m. length (numbers m)) (count_up 0 n) ≡ all → sum_over (λ m. length (cond b (numbers m) (stays ∷ []))) (count_up 0 n) ≡ cond b all n
either-count true numbers n all h = h
either-count false numbers n all h = counted 0 n

parts-count : (c : Component) → Countable c → (e : ℕ) → sum_over (λ m. length (parts c m e)) (count_up 0 (length c.modes)) ≡ choices c e
unfolding parts choices
parts-count c r e = either-count (has_event c.alphabet e) (λ m. leaving c m e) (length c.modes) (labelled c e) (leaving-count c r e)

together-none : (e : ℕ) → sum_over (λ l. length (together [] (modes_at [] l) e)) (count_up 0 (location_count [])) ≡ 1
unfolding together location_count count_up sum_over
together-none e = refl

silent-none : sum_over (λ l. length (silent [] (modes_at [] l))) (count_up 0 (location_count [])) ≡ 0
unfolding silent location_count count_up sum_over
silent-none = refl

-- the product law of an event from 1, over all locations
together-all : {components : List Component} → All Countable components → (e : ℕ) → sum_over (λ l. length (together components (modes_at components l) e)) (count_up 0 (location_count components)) ≡ together_total components e
unfolding together_total
together-all none e = together-none e
together-all (more {a = c} {xs = components} r rest) e =
    let n = count_up 0 (location_count components) in
    let m = count_up 0 (length c.modes) in
    let others : ℕ → ℕ = λ b. length (together components (modes_at components b) e) in
    sum-locations c components (λ l modes. length (together (c ∷ components) modes e))
    ∙ sum_same (λ a. sum_over (λ b. length (together (c ∷ components) (a ∷ modes_at components b) e)) n) (λ a. length (parts c a e) * together_total components e)
    (λ a.
    sum_same (λ b. length (together (c ∷ components) (a ∷ modes_at components b) e)) (λ b. length (parts c a e) * others b) (λ b. together-length c components a (modes_at components b) e) n
    ∙ sum-before others (length (parts c a e)) n
    ∙ ap (λ (k : ℕ). length (parts c a e) * k) (together-all rest e))
    m
    ∙ sum-times (λ a. length (parts c a e)) (together_total components e) m
    ∙ ap (λ (k : ℕ). k * together_total components e) (parts-count c r e)

-- and of event 0
silent-all : {components : List Component} → All Countable components → sum_over (λ l. length (silent components (modes_at components l))) (count_up 0 (location_count components)) ≡ silent_total components
unfolding silent_total
silent-all none = silent-none
silent-all (more {a = c} {xs = components} r rest) =
    let n = count_up 0 (location_count components) in
    let m = count_up 0 (length c.modes) in
    let others : ℕ → ℕ = λ b. length (silent components (modes_at components b)) in
    sum-locations c components (λ l modes. length (silent (c ∷ components) modes))
    ∙ sum_same (λ a. sum_over (λ b. length (silent (c ∷ components) (a ∷ modes_at components b))) n) (λ a. length (leaving c a 0) * location_count components + 1 * silent_total components)
    (λ a.
    sum_same (λ b. length (silent (c ∷ components) (a ∷ modes_at components b))) (λ b. length (leaving c a 0) * 1 + others b) (λ b. silent-length c components a (modes_at components b) ∙ ap (λ (k : ℕ). k + others b) (once (length (leaving c a 0)))) n
    ∙ sum-plus (λ b. length (leaving c a 0) * 1) others n
    ∙ ap₂ (λ (x y : ℕ). x + y)
    (sum-before (λ b. 1) (length (leaving c a 0)) n ∙ ap (λ (k : ℕ). length (leaving c a 0) * k) (counted 0 (location_count components)))
    (silent-all rest ∙ again (silent_total components)))
    m
    ∙ sum-plus (λ a. length (leaving c a 0) * location_count components) (λ a. 1 * silent_total components) m
    ∙ ap₂ (λ (x y : ℕ). x + y)
    (sum-times (λ a. length (leaving c a 0)) (location_count components) m ∙ ap (λ (k : ℕ). k * location_count components) (leaving-count c r 0))
    (sum-times (λ a. 1) (silent_total components) m ∙ ap (λ (k : ℕ). k * silent_total components) (counted 0 (length c.modes)))
  where
    once : (k : ℕ) → k ≡ k * 1
    once k = omega arith

    again : (k : ℕ) → k ≡ 1 * k
    again k = omega arith

either-switches : (b : Bool) (f : ℕ → List (List ℕ)) (locations : List ℕ) (all : ℕ) → sum_over (λ l. length (f l)) locations ≡ all → sum_over (λ l. length (cond b [] (f l))) locations ≡ cond b 0 all
either-switches true f locations all h = sum-none locations
either-switches false f locations all h = h

pub event-all : {components : List Component} → All Countable components → (e : ℕ) → sum_over (λ l. length (joints_of components l e)) (count_up 0 (location_count components)) ≡ event_total components e
unfolding switches_of event_total
event-all {components} r zero =
    sum_same (λ l. length (joints_of components l 0)) (λ l. length (switches_of components (modes_at components l) 0)) (λ l. event-length components l 0) (count_up 0 (location_count components))
    ∙ silent-all r
event-all {components} r (suc e) =
    sum_same (λ l. length (joints_of components l (suc e))) (λ l. length (switches_of components (modes_at components l) (suc e))) (λ l. event-length components l (suc e)) (count_up 0 (location_count components))
    ∙ either-switches (eqb (mover_count components (suc e)) 0) (λ l. together components (modes_at components l) (suc e)) (count_up 0 (location_count components)) (together_total components (suc e)) (together-all r (suc e))

pub joined_length : {A B : Type 0} (f : A → List B) (xs : List A) → length (join_all f xs) ≡ sum_over (λ a. length (f a)) xs
joined_length f xs =
    sum-length (join_all f xs)
    ∙ sum-joined (λ b. 1) f xs
    ∙ sum_same (λ a. sum_over (λ b. 1) (f a)) (λ a. length (f a)) (λ a. sym (sum-length (f a))) xs

-- how many joint switches there are, with no location gone through
pub joints-total : {components : List Component} → All Countable components → length (joints components) ≡ joint_total components
unfolding joints joint_total
joints-total {components} r =
    let locations = count_up 0 (location_count components) in
    let events = count_up 0 16 in
    joined_length (λ l. join_all (joints_of components l) events) locations
    ∙ sum_same (λ l. length (join_all (joints_of components l) events)) (λ l. sum_over (λ e. length (joints_of components l e)) events) (λ l. joined_length (joints_of components l) events) locations
    ∙ sum-swap (λ l e. length (joints_of components l e)) locations events
    ∙ sum_same (λ e. sum_over (λ l. length (joints_of components l e)) locations) (event_total components) (event-all r) events

-- an event whose total is 0 has no joint switch in any location: it need not be asked again there
no_length : {A : Type 0} (xs : List A) → length xs ≡ 0 → xs ≡ []
no_length [] h = refl
no_length (x ∷ xs) h = absurd (omega arith)

pub event-none : {components : List Component} → All Countable components → (e location : ℕ) → event_total components e ≡ 0 → location < location_count components → joints_of components location e ≡ []
event-none {components} r e location h l =
    no_length (joints_of components location e)
    (sum-zero (λ l. length (joints_of components l e)) 0 (location_count components) (event-all r e ∙ h) location (omega arith) (omega arith))

-- the count, for the joint switches of a model that reads well
pub joints-counted : (m : Model) → WellFormed m → length (joints m.components) ≡ joint_total m.components
joints-counted m g = joints-total (countable g.components)
