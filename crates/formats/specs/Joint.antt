-- Joint switches (01, Model): which components move together, by which of their switches, and the list of all. Assumes nothing.
use Rattle.std.specs.Prelude.{Bool, true, false, cond, not, ◌&&◌, List, [], ◌∷◌, ◌++◌, map, ℕ, zero, suc, ◌+◌, ◌*◌, ltb, eqb, length, get_or, take}
use Rattle.std.specs.Int.Count.{ones}
use Rattle.formats.specs.Model.{Switch, Component, has_event}
use Rattle.formats.specs.Locations.{location_count, modes_at, location_of}

-- "255 for a staying or absent component"
unfoldable pub stays : ℕ
stays = 255

-- "four switch numbers (255 for a staying or absent component)"
unfoldable pub four_switches : List ℕ → List ℕ
four_switches switches = take 4 (switches ++ (stays ∷ stays ∷ stays ∷ stays ∷ []))

unfoldable pub switch_of : Component → ℕ → Switch
switch_of c i = get_or c.switches i (record { source = 0; target = 0; label = 0; jump = [] })

-- a switch with this label from this mode
unfoldable pub leaves : ℕ → ℕ → Switch → Bool
leaves mode e w = eqb w.label e && eqb w.source mode

-- "each by one of its switches with that label from its present mode": a component's part in a joint switch, by switch number
unfoldable pub moves : Component → ℕ → ℕ → ℕ → Bool
moves c mode e i = ltb i (length c.switches) && leaves mode e (switch_of c i)

-- "the scope mask has a one for each component whose alphabet has the event": component 0 is the lowest bit
unfoldable pub bit : Bool → ℕ
bit true = 1
bit false = 0

unfoldable pub scope_mask : List Component → ℕ → ℕ
scope_mask [] e = 0
scope_mask (c ∷ components) e = bit (has_event c.alphabet e) + 2 * scope_mask components e

-- "As many components move together as the scope mask has ones"
unfoldable pub mover_count : List Component → ℕ → ℕ
mover_count components e = ones (scope_mask components e)

-- "exactly those in it": a component's part for an event, by switch number: a member of the scope moves, any other stays
unfoldable pub part_in : Component → ℕ → ℕ → ℕ → Bool
part_in c mode e i = cond (has_event c.alphabet e) (moves c mode e i) (eqb i stays)

unfoldable pub members_move : List Component → List ℕ → ℕ → List ℕ → Bool
members_move [] [] e [] = true
members_move [] [] e (i ∷ switches) = false
members_move [] (mode ∷ modes) e switches = false
members_move (c ∷ components) [] e switches = false
members_move (c ∷ components) (mode ∷ modes) e [] = false
members_move (c ∷ components) (mode ∷ modes) e (i ∷ switches) =
    part_in c mode e i && members_move components modes e switches

-- "Label 0 moves its component alone": one component moves, and all others stay
unfoldable pub all_stay : List Component → List ℕ → Bool
all_stay [] [] = true
all_stay [] (i ∷ switches) = false
all_stay (c ∷ components) [] = false
all_stay (c ∷ components) (i ∷ switches) = eqb i stays && all_stay components switches

unfoldable pub one_moves : List Component → List ℕ → List ℕ → Bool
one_moves [] modes switches = false
one_moves (c ∷ components) [] switches = false
one_moves (c ∷ components) (mode ∷ modes) [] = false
one_moves (c ∷ components) (mode ∷ modes) (i ∷ switches) =
    cond (eqb i stays) (one_moves components modes switches) (moves c mode 0 i && all_stay components switches)

-- the test: these switch numbers, one per component, are a joint switch of the event from a location with these modes.
-- "an empty scope gives no step"
unfoldable pub is_joint : List Component → List ℕ → ℕ → List ℕ → Bool
is_joint components modes zero switches = one_moves components modes switches
is_joint components modes (suc e) switches =
    not (eqb (mover_count components (suc e)) 0) && members_move components modes (suc e) switches

-- the modes after a joint switch
unfoldable pub modes_after : List Component → List ℕ → List ℕ → List ℕ
modes_after [] modes switches = []
modes_after (c ∷ components) [] switches = []
modes_after (c ∷ components) (mode ∷ modes) [] = []
modes_after (c ∷ components) (mode ∷ modes) (i ∷ switches) =
    cond (eqb i stays) mode (switch_of c i).target ∷ modes_after components modes switches

-- "A record is the source location, event, four switch numbers .. and target location"; here one number per component
pub record JointSwitch : Type 0 where
  pub source : ℕ
  pub event : ℕ
  pub switches : List ℕ
  pub target : ℕ

-- The list. The numbers, from one on, of the elements that pass a test, ascending
unfoldable pub numbers_from : {A : Type 0} → ℕ → (A → Bool) → List A → List ℕ
numbers_from i test [] = []
numbers_from i test (a ∷ xs) = cond (test a) (i ∷ numbers_from (suc i) test xs) (numbers_from (suc i) test xs)

unfoldable pub leaving : Component → ℕ → ℕ → List ℕ
leaving c mode e = numbers_from 0 (leaves mode e) c.switches

unfoldable pub all_staying : List Component → List ℕ
all_staying components = map (λ c. stays) components

-- "for event 0 by component and switch"
unfoldable pub silent : List Component → List ℕ → List (List ℕ)
silent [] modes = []
silent (c ∷ components) [] = []
silent (c ∷ components) (mode ∷ modes) =
    map (λ i. i ∷ all_staying components) (leaving c mode 0) ++ map (λ switches. stays ∷ switches) (silent components modes)

-- "else by switch numbers, lowest component first"
unfoldable pub in_front : List ℕ → List (List ℕ) → List (List ℕ)
in_front [] rest = []
in_front (i ∷ numbers) rest = map (λ switches. i ∷ switches) rest ++ in_front numbers rest

unfoldable pub together : List Component → List ℕ → ℕ → List (List ℕ)
together [] modes e = [] ∷ []
together (c ∷ components) [] e = []
together (c ∷ components) (mode ∷ modes) e =
    cond (has_event c.alphabet e)
    (in_front (leaving c mode e) (together components modes e))
    (map (λ switches. stays ∷ switches) (together components modes e))

unfoldable pub switches_of : List Component → List ℕ → ℕ → List (List ℕ)
switches_of components modes zero = silent components modes
switches_of components modes (suc e) =
    cond (eqb (mover_count components (suc e)) 0) [] (together components modes (suc e))

-- the elements that pass a test, in order
unfoldable pub those : {A : Type 0} → (A → Bool) → List A → List A
those test [] = []
those test (a ∷ xs) = cond (test a) (a ∷ those test xs) (those test xs)

-- numbers from one on, as many as said
unfoldable pub count_up : ℕ → ℕ → List ℕ
count_up i zero = []
count_up i (suc n) = i ∷ count_up (suc i) n

unfoldable pub join_all : {A B : Type 0} → (A → List B) → List A → List B
join_all f [] = []
join_all f (a ∷ xs) = f a ++ join_all f xs

unfoldable pub joints_of : List Component → ℕ → ℕ → List JointSwitch
joints_of components location e =
    map
    (λ switches. record { source = location; event = e; switches = switches; target = location_of components (modes_after components (modes_at components location) switches) })
    (switches_of components (modes_at components location) e)

-- "Joint switches are listed by location, then event"; labels are 0..15
unfoldable pub joints : List Component → List JointSwitch
joints components = join_all (λ location. join_all (joints_of components location) (count_up 0 16)) (count_up 0 (location_count components))

-- a joint switch by the test, as a record of the list
unfoldable pub joint_from : List Component → ℕ → ℕ → List ℕ → JointSwitch
joint_from components location e switches =
    record { source = location; event = e; switches = switches; target = location_of components (modes_after components (modes_at components location) switches) }
