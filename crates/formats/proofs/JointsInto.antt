-- A weight of the target location, summed over all joint switches, is the sum over locations of their weights, each as often as joint
-- switches lead into it; and those are counted by products. Assumes nothing.
use mathlib.Core.Path.{◌≡◌, refl, sym, ap, ap₂, ◌∙◌}
use mathlib.Core.Bool.{Bool, true, false, cond, ◌&&◌}
use mathlib.Core.List.{List, [], ◌∷◌, map}
use Prim.Native.Nat.{ℕ, zero, suc, ◌+◌, ◌*◌, ◌≤◌, ◌<◌}
use native.Mathlib.Nat.{mul_comm, mul_assoc, zero-mul, mul-zero}
use native.Mathlib.Omega.{arith}
use lib.Dec.{eqb}
use lib.ListN.{length}
use Rattle.farkas.specs.Lists.{All, none, more}
use Rattle.formats.specs.Model.{Switch, Component, has_event}
use Rattle.formats.specs.Locations.{location_count, modes_at, location_of}
use Rattle.formats.specs.Joint.{stays, bit, mover_count, leaving, all_staying, silent, in_front, together, switches_of, modes_after, count_up, join_all, JointSwitch, joints_of, joints}
use Rattle.formats.specs.Parts.{parts, mode_after}
use Rattle.formats.proofs.Locations.{Modes, no-modes, mode-and, modes-at, number_of}
use Rattle.formats.specs.JointTotals.{sum_over, labelled, choices, together_total, event_total, entering, arrivals, together_into, silent_into, event_into, joints_into}
use Rattle.formats.proofs.SumLaws.{sum-append, sum_same, sum-plus, sum-before, sum-map, sum-joined, sum-swap, sum_below}
use Rattle.formats.proofs.JointProduct.{Countable, have-modes, sum-locations, leaving-modes, parts-modes}

-- the location that a joint switch leads into
unfoldable pub target_of : List Component → List ℕ → List ℕ → ℕ
target_of components modes switches = location_of components (modes_after components modes switches)

pub target-step : (c : Component) (components : List Component) (mode : ℕ) (modes : List ℕ) (i : ℕ) (switches : List ℕ) → target_of (c ∷ components) (mode ∷ modes) (i ∷ switches) ≡ mode_after c mode i * location_count components + target_of components modes switches
unfolding target_of location_of modes_after mode_after
target-step c components mode modes i switches = refl

-- those of an event, put together from the parts
front-sum : (f : List ℕ → ℕ) (numbers : List ℕ) (rest : List (List ℕ)) → sum_over f (in_front numbers rest) ≡ sum_over (λ i. sum_over (λ switches. f (i ∷ switches)) rest) numbers
unfolding sum_over in_front
front-sum f [] rest = refl
front-sum f (i ∷ numbers) rest =
    sum-append f (map (λ switches. i ∷ switches) rest) (in_front numbers rest)
    ∙ ap₂ (λ (x y : ℕ). x + y) (sum-map f (λ switches. i ∷ switches) rest) (front-sum f numbers rest)

either-front : (b : Bool) (f : List ℕ → ℕ) (numbers : List ℕ) (rest : List (List ℕ)) → sum_over f (cond b (in_front numbers rest) (map (λ switches. stays ∷ switches) rest)) ≡ sum_over (λ i. sum_over (λ switches. f (i ∷ switches)) rest) (cond b numbers (stays ∷ []))
unfolding sum_over
either-front true f numbers rest = front-sum f numbers rest
either-front false f numbers rest = sum-map f (λ switches. stays ∷ switches) rest ∙ omega arith

together-sum : (c : Component) (components : List Component) (mode : ℕ) (modes : List ℕ) (e : ℕ) (f : List ℕ → ℕ) → sum_over f (together (c ∷ components) (mode ∷ modes) e) ≡ sum_over (λ i. sum_over (λ switches. f (i ∷ switches)) (together components modes e)) (parts c mode e)
unfolding together parts
together-sum c components mode modes e f = either-front (has_event c.alphabet e) f (leaving c mode e) (together components modes e)

together-into-none : (e : ℕ) (w : ℕ → ℕ) → sum_over (λ l. sum_over (λ switches. w (target_of [] (modes_at [] l) switches)) (together [] (modes_at [] l) e)) (count_up 0 (location_count [])) ≡ sum_over (λ l. w l * together_into [] (modes_at [] l) e) (count_up 0 (location_count []))
unfolding together together_into target_of location_of location_count count_up sum_over
together-into-none e w = omega arith

together-into : {components : List Component} → All Countable components → (e : ℕ) (w : ℕ → ℕ) → sum_over (λ l. sum_over (λ switches. w (target_of components (modes_at components l) switches)) (together components (modes_at components l) e)) (count_up 0 (location_count components)) ≡ sum_over (λ l. w l * together_into components (modes_at components l) e) (count_up 0 (location_count components))
unfolding together_into
together-into none e w = together-into-none e w
together-into (more {a = c} {xs = components} r rest) e w =
    let all = count_up 0 (location_count components) in
    let m = count_up 0 (length c.modes) in
    let n = location_count components in
    -- the weights of the locations with a mode of the first component
    let g : ℕ → ℕ = λ x. sum_over (λ t. w (x * n + t) * together_into components (modes_at components t) e) all in
    sum-locations c components (λ l modes. sum_over (λ switches. w (target_of (c ∷ components) modes switches)) (together (c ∷ components) modes e))
    ∙ sum_same
    (λ a. sum_over (λ b. sum_over (λ switches. w (target_of (c ∷ components) (a ∷ modes_at components b) switches)) (together (c ∷ components) (a ∷ modes_at components b) e)) all)
    (λ a. sum_over (λ i. g (mode_after c a i)) (parts c a e))
    (λ a.
    sum_same
    (λ b. sum_over (λ switches. w (target_of (c ∷ components) (a ∷ modes_at components b) switches)) (together (c ∷ components) (a ∷ modes_at components b) e))
    (λ b. sum_over (λ i. sum_over (λ switches. w (mode_after c a i * n + target_of components (modes_at components b) switches)) (together components (modes_at components b) e)) (parts c a e))
    (λ b.
    together-sum c components a (modes_at components b) e (λ switches. w (target_of (c ∷ components) (a ∷ modes_at components b) switches))
    ∙ sum_same
    (λ i. sum_over (λ switches. w (target_of (c ∷ components) (a ∷ modes_at components b) (i ∷ switches))) (together components (modes_at components b) e))
    (λ i. sum_over (λ switches. w (mode_after c a i * n + target_of components (modes_at components b) switches)) (together components (modes_at components b) e))
    (λ i. sum_same (λ switches. w (target_of (c ∷ components) (a ∷ modes_at components b) (i ∷ switches))) (λ switches. w (mode_after c a i * n + target_of components (modes_at components b) switches)) (λ switches. ap w (target-step c components a (modes_at components b) i switches)) (together components (modes_at components b) e))
    (parts c a e))
    all
    ∙ sum-swap (λ b i. sum_over (λ switches. w (mode_after c a i * n + target_of components (modes_at components b) switches)) (together components (modes_at components b) e)) all (parts c a e)
    ∙ sum_same
    (λ i. sum_over (λ b. sum_over (λ switches. w (mode_after c a i * n + target_of components (modes_at components b) switches)) (together components (modes_at components b) e)) all)
    (λ i. g (mode_after c a i))
    (λ i. together-into rest e (λ t. w (mode_after c a i * n + t)))
    (parts c a e))
    m
    ∙ parts-modes c r e g
    ∙ sum_same
    (λ a. arrivals c a e * g a)
    (λ a. sum_over (λ b. w (a * n + b) * (arrivals c a e * together_into components (modes_at components b) e)) all)
    (λ a.
    sym (sum-before (λ b. w (a * n + b) * together_into components (modes_at components b) e) (arrivals c a e) all)
    ∙ sum_same (λ b. arrivals c a e * (w (a * n + b) * together_into components (modes_at components b) e)) (λ b. w (a * n + b) * (arrivals c a e * together_into components (modes_at components b) e)) (λ b. turned (arrivals c a e) (w (a * n + b)) (together_into components (modes_at components b) e)) all)
    m
    ∙ sym (sum-locations c components (λ l modes. w l * together_into (c ∷ components) modes e))
  where
    turned : (x y z : ℕ) → x * (y * z) ≡ y * (x * z)
    turned x y z = sym (mul_assoc x y z) ∙ ap (λ (k : ℕ). k * z) (mul_comm x y) ∙ mul_assoc y x z

-- event 0: the others stay, so their location is the same
pub staying-after : {components : List Component} {modes : List ℕ} → Modes components modes → modes_after components modes (all_staying components) ≡ modes
unfolding modes_after all_staying stays
staying-after no-modes = refl
staying-after (mode-and {mode = mode} h rest) = ap (λ (xs : List ℕ). mode ∷ xs) (staying-after rest)

target-stays : {components : List Component} → All Countable components → (location : ℕ) → location < location_count components → target_of components (modes_at components location) (all_staying components) ≡ location
unfolding target_of
target-stays {components} r location h =
    let modes = have-modes r in
    ap (location_of components) (staying-after (modes-at modes location h)) ∙ number_of modes location h

silent-into-none : (w : ℕ → ℕ) → sum_over (λ l. sum_over (λ switches. w (target_of [] (modes_at [] l) switches)) (silent [] (modes_at [] l))) (count_up 0 (location_count [])) ≡ sum_over (λ l. w l * silent_into [] (modes_at [] l)) (count_up 0 (location_count []))
unfolding silent silent_into location_count count_up sum_over
silent-into-none w = omega arith

pub stays_after : (c : Component) (mode : ℕ) → mode_after c mode stays ≡ mode
unfolding mode_after stays
stays_after c mode = refl

silent-sum : (c : Component) (components : List Component) (mode : ℕ) (modes : List ℕ) (f : List ℕ → ℕ) → sum_over f (silent (c ∷ components) (mode ∷ modes)) ≡ sum_over (λ i. f (i ∷ all_staying components)) (leaving c mode 0) + sum_over (λ switches. f (stays ∷ switches)) (silent components modes)
unfolding silent
silent-sum c components mode modes f =
    sum-append f (map (λ i. i ∷ all_staying components) (leaving c mode 0)) (map (λ switches. stays ∷ switches) (silent components modes))
    ∙ ap₂ (λ (x y : ℕ). x + y) (sum-map f (λ i. i ∷ all_staying components) (leaving c mode 0)) (sum-map f (λ switches. stays ∷ switches) (silent components modes))

silent-into : {components : List Component} → All Countable components → (w : ℕ → ℕ) → sum_over (λ l. sum_over (λ switches. w (target_of components (modes_at components l) switches)) (silent components (modes_at components l))) (count_up 0 (location_count components)) ≡ sum_over (λ l. w l * silent_into components (modes_at components l)) (count_up 0 (location_count components))
unfolding silent_into
silent-into none w = silent-into-none w
silent-into (more {a = c} {xs = components} r rest) w =
    let n = location_count components in
    let all = count_up 0 n in
    let m = count_up 0 (length c.modes) in
    -- the weights of the locations with a mode of the first component
    let g : ℕ → ℕ = λ x. sum_over (λ t. w (x * n + t)) all in
    let into : ℕ → ℕ → ℕ = λ a b. sum_over (λ switches. w (a * n + target_of components (modes_at components b) switches)) (silent components (modes_at components b)) in
    sum-locations c components (λ l modes. sum_over (λ switches. w (target_of (c ∷ components) modes switches)) (silent (c ∷ components) modes))
    ∙ sum_same
    (λ a. sum_over (λ b. sum_over (λ switches. w (target_of (c ∷ components) (a ∷ modes_at components b) switches)) (silent (c ∷ components) (a ∷ modes_at components b))) all)
    (λ a. sum_over (λ i. g (mode_after c a i)) (leaving c a 0) + sum_over (λ b. w (a * n + b) * silent_into components (modes_at components b)) all)
    (λ a.
    sum_below
    (λ b. sum_over (λ switches. w (target_of (c ∷ components) (a ∷ modes_at components b) switches)) (silent (c ∷ components) (a ∷ modes_at components b)))
    (λ b. sum_over (λ i. w (mode_after c a i * n + b)) (leaving c a 0) + into a b)
    0
    n
    (λ b h.
    silent-sum c components a (modes_at components b) (λ switches. w (target_of (c ∷ components) (a ∷ modes_at components b) switches))
    ∙ ap₂ (λ (x y : ℕ). x + y)
    (sum_same (λ i. w (target_of (c ∷ components) (a ∷ modes_at components b) (i ∷ all_staying components))) (λ i. w (mode_after c a i * n + b))
    (λ i. ap w (target-step c components a (modes_at components b) i (all_staying components) ∙ ap (λ (t : ℕ). mode_after c a i * n + t) (target-stays rest b (omega arith))))
    (leaving c a 0))
    (sum_same (λ switches. w (target_of (c ∷ components) (a ∷ modes_at components b) (stays ∷ switches))) (λ switches. w (a * n + target_of components (modes_at components b) switches))
    (λ switches. ap w (target-step c components a (modes_at components b) stays switches ∙ ap (λ (x : ℕ). x * n + target_of components (modes_at components b) switches) (stays_after c a)))
    (silent components (modes_at components b))))
    ∙ sum-plus (λ b. sum_over (λ i. w (mode_after c a i * n + b)) (leaving c a 0)) (into a) all
    ∙ ap₂ (λ (x y : ℕ). x + y) (sum-swap (λ b i. w (mode_after c a i * n + b)) all (leaving c a 0)) (silent-into rest (λ t. w (a * n + t))))
    m
    ∙ sum-plus (λ a. sum_over (λ i. g (mode_after c a i)) (leaving c a 0)) (λ a. sum_over (λ b. w (a * n + b) * silent_into components (modes_at components b)) all) m
    ∙ ap (λ (k : ℕ). k + sum_over (λ a. sum_over (λ b. w (a * n + b) * silent_into components (modes_at components b)) all) m) (leaving-modes c r 0 g)
    ∙ sym (sum-plus (λ a. entering c a 0 * g a) (λ a. sum_over (λ b. w (a * n + b) * silent_into components (modes_at components b)) all) m)
    ∙ sum_same
    (λ a. entering c a 0 * g a + sum_over (λ b. w (a * n + b) * silent_into components (modes_at components b)) all)
    (λ a. sum_over (λ b. w (a * n + b) * (entering c a 0 + silent_into components (modes_at components b))) all)
    (λ a.
    ap (λ (k : ℕ). k + sum_over (λ b. w (a * n + b) * silent_into components (modes_at components b)) all) (sym (sum-before (λ b. w (a * n + b)) (entering c a 0) all))
    ∙ sym (sum-plus (λ b. entering c a 0 * w (a * n + b)) (λ b. w (a * n + b) * silent_into components (modes_at components b)) all)
    ∙ sum_same (λ b. entering c a 0 * w (a * n + b) + w (a * n + b) * silent_into components (modes_at components b)) (λ b. w (a * n + b) * (entering c a 0 + silent_into components (modes_at components b))) (λ b. both (entering c a 0) (w (a * n + b)) (silent_into components (modes_at components b))) all)
    m
    ∙ sym (sum-locations c components (λ l modes. w l * silent_into (c ∷ components) modes))
  where
    both : (x y z : ℕ) → x * y + y * z ≡ y * (x + z)
    both x y z = omega arith

-- any event
either-into : (b : Bool) (f : ℕ → List (List ℕ)) (g : ℕ → List ℕ → ℕ) (w into : ℕ → ℕ) (locations : List ℕ) → sum_over (λ l. sum_over (g l) (f l)) locations ≡ sum_over (λ l. w l * into l) locations → sum_over (λ l. sum_over (g l) (cond b [] (f l))) locations ≡ sum_over (λ l. w l * cond b 0 (into l)) locations
unfolding sum_over
either-into true f g w into locations h = sum_same (λ l. 0) (λ l. w l * 0) (λ l. omega arith) locations
either-into false f g w into locations h = h

event-into : {components : List Component} → All Countable components → (w : ℕ → ℕ) (e : ℕ) → sum_over (λ l. sum_over (λ j. w j.target) (joints_of components l e)) (count_up 0 (location_count components)) ≡ sum_over (λ l. w l * event_into components (modes_at components l) e) (count_up 0 (location_count components))
unfolding joints_of switches_of event_into target_of
event-into {components} r w zero =
    sum_same
    (λ l. sum_over (λ j. w j.target) (joints_of components l 0))
    (λ l. sum_over (λ switches. w (target_of components (modes_at components l) switches)) (silent components (modes_at components l)))
    (λ l. sum-map (λ j. w j.target) _ (silent components (modes_at components l)))
    (count_up 0 (location_count components))
    ∙ silent-into r w
event-into {components} r w (suc e) =
    sum_same
    (λ l. sum_over (λ j. w j.target) (joints_of components l (suc e)))
    (λ l. sum_over (λ switches. w (target_of components (modes_at components l) switches)) (switches_of components (modes_at components l) (suc e)))
    (λ l. sum-map (λ j. w j.target) _ (switches_of components (modes_at components l) (suc e)))
    (count_up 0 (location_count components))
    ∙ either-into (eqb (mover_count components (suc e)) 0) (λ l. together components (modes_at components l) (suc e)) (λ l switches. w (target_of components (modes_at components l) switches)) w (λ l. together_into components (modes_at components l) (suc e)) (count_up 0 (location_count components)) (together-into r (suc e) w)

-- all joint switches
pub joints-into : {components : List Component} → All Countable components → (w : ℕ → ℕ) → sum_over (λ j. w j.target) (joints components) ≡ sum_over (λ l. w l * joints_into components (modes_at components l)) (count_up 0 (location_count components))
unfolding joints joints_into
joints-into {components} r w =
    let locations = count_up 0 (location_count components) in
    let events = count_up 0 16 in
    let weight : JointSwitch → ℕ = λ j. w j.target in
    sum-joined weight (λ l. join_all (joints_of components l) events) locations
    ∙ sum_same (λ l. sum_over weight (join_all (joints_of components l) events)) (λ l. sum_over (λ e. sum_over weight (joints_of components l e)) events) (λ l. sum-joined weight (joints_of components l) events) locations
    ∙ sum-swap (λ l e. sum_over weight (joints_of components l e)) locations events
    ∙ sum_same (λ e. sum_over (λ l. sum_over weight (joints_of components l e)) locations) (λ e. sum_over (λ l. w l * event_into components (modes_at components l) e) locations) (event-into r w) events
    ∙ sym (sum-swap (λ l e. w l * event_into components (modes_at components l) e) locations events)
    ∙ sum_same (λ l. sum_over (λ e. w l * event_into components (modes_at components l) e) events) (λ l. w l * sum_over (event_into components (modes_at components l)) events) (λ l. sum-before (event_into components (modes_at components l)) (w l) events) locations

-- an event that has no joint switch leads into no location: of a product that is 0 one factor is
bit-none : (a b : Bool) → bit a ≡ 0 → bit (a && b) ≡ 0
unfolding bit
bit-none true b h = absurd (omega arith)
bit-none false b h = refl

none-enters : (e mode : ℕ) (switches : List Switch) → sum_over (λ w. bit (eqb w.label e)) switches ≡ 0 → sum_over (λ w. bit (eqb w.label e && eqb w.target mode)) switches ≡ 0
unfolding sum_over
none-enters e mode [] h = refl
none-enters e mode (w ∷ switches) h =
    omega (arith, bit-none (eqb w.label e) (eqb w.target mode) (omega (arith, h)), none-enters e mode switches (omega (arith, h)))

none-arrives : (b : Bool) (n m enters : ℕ) → 1 ≤ m → (n ≡ 0 → enters ≡ 0) → cond b n m ≡ 0 → cond b enters 1 ≡ 0
none-arrives true n m enters h k z = k z
none-arrives false n m enters h k z = absurd (omega (arith, h, z))

no-arrivals : (c : Component) → Countable c → (mode e : ℕ) → choices c e ≡ 0 → arrivals c mode e ≡ 0
unfolding choices arrivals labelled entering
no-arrivals c r mode e =
    none-arrives (has_event c.alphabet e) (labelled c e) (length c.modes) (entering c mode e) r.least (none-enters e mode c.switches)

either-none : (a b x y : ℕ) → (a ≡ 0 → x ≡ 0) → (b ≡ 0 → y ≡ 0) → a * b ≡ 0 → x * y ≡ 0
either-none zero b x y h k z = rw (h refl) (zero-mul y)
either-none (suc a) zero x y h k z = rw (k refl) (mul-zero x)
either-none (suc a) (suc b) x y h k z = absurd (omega (arith, z))

together-nowhere : {components : List Component} → All Countable components → (modes : List ℕ) (e : ℕ) → together_total components e ≡ 0 → together_into components modes e ≡ 0
unfolding together_total together_into
together-nowhere none modes e h = absurd (omega (arith, h))
together-nowhere (more r rest) [] e h = refl
together-nowhere (more {a = c} {xs = components} r rest) (mode ∷ modes) e h =
    either-none (choices c e) (together_total components e) (arrivals c mode e) (together_into components modes e) (no-arrivals c r mode e) (together-nowhere rest modes e) h

some-nowhere : (b : Bool) (all into : ℕ) → (all ≡ 0 → into ≡ 0) → cond b 0 all ≡ 0 → cond b 0 into ≡ 0
some-nowhere true all into h z = refl
some-nowhere false all into h z = h z

pub into-none : {components : List Component} → All Countable components → (modes : List ℕ) (e : ℕ) → (e ≡ 0 → ⊥) → event_total components e ≡ 0 → event_into components modes e ≡ 0
unfolding event_total event_into
into-none r modes zero f h = absurd (f refl)
into-none {components} r modes (suc e) f h =
    some-nowhere (eqb (mover_count components (suc e)) 0) (together_total components (suc e)) (together_into components modes (suc e)) (together-nowhere r modes (suc e)) h
