-- The list of joint switches is exact: what stands in it is a joint switch by the test that runs use, and leads to a location.
-- It stands in the order that the document says, and nothing stands in it twice. Assumes nothing.
use mathlib.Core.Path.{◌≡◌, refl, sym, ap, ◌∙◌, subst}
use mathlib.Core.Logic.{inl, inr, ⊎_elim, ◌↔◌, ◌≢◌}
use mathlib.Core.Bool.{Bool, true, false, not, cond, ◌&&◌}
use mathlib.Core.List.{List, [], ◌∷◌, ◌++◌, map, Memᴰ}
use Prim.Native.Nat.{ℕ, zero, suc, ◌-◌, ◌≤◌, ◌<◌}
use native.Mathlib.Omega.{arith}
use lib.Dec.{T, ltb, eqb, lt→ltb, ltb→lt, eqb→eq}
use lib.ListN.{length, get_or}
use borrow.Author.Tests.{ne_eqb}
use Rattle.formats.specs.Model.{Component, has_event}
use Rattle.formats.specs.Locations.{location_count, modes_at, location_of}
use Rattle.formats.specs.Joint.{stays, switch_of, leaves, moves, mover_count, part_in, members_move, all_stay, one_moves, is_joint, modes_after, JointSwitch, leaving, all_staying, silent, in_front, together, switches_of, count_up, join_all, joints_of, joints, joint_from}
use Rattle.farkas.specs.Lists.{All, none, more}
use Rattle.farkas.proofs.All.{all_append}
use Rattle.formats.proofs.Gives.{and_left, and_right}
use Rattle.formats.proofs.Members.{all_in, count-in, numbers-in}
use Rattle.formats.proofs.WellFormed.{GoodComponent}
use Rattle.formats.proofs.Locations.{Modes, no-modes, mode-and, HaveModes, modes-at, location-of, modes-of}
use Rattle.formats.proofs.Joint.{joint-listed, joint-known, modes-after}
use Rattle.formats.proofs.JointOrder.{all-mapped, all-joined, Sorted, sorted_none, sorted-and, sorted-append, sorted-map, sorted-joined, sorted-count, sorted-numbers, sorted-at, Lex, lex-now, lex-later, lex-itself, mover, mover_switch, ByMover, Before, by-location, by-event, by-switches, before-apart}

and_both : (a b : Bool) → T a → T b → T (a && b)
and_both true b t u = u
and_both false b t u = t

have-modes : {n : ℕ} {components : List Component} → All (GoodComponent n) components → HaveModes components
have-modes none = none
have-modes (more g rest) = more g.least (have-modes rest)

-- a switch among those that leave a mode is one by which the component may move
leaving-in : (c : Component) (mode e i : ℕ) → Memᴰ i (leaving c mode e) → T (moves c mode e i)
unfolding moves leaving switch_of
leaving-in c mode e i d =
    let w = numbers-in 0 (leaves mode e) c.switches _ i d in
    and_both (ltb i (length c.switches)) (leaves mode e (switch_of c i))
    (lt→ltb i (length c.switches) (omega (arith, w.until)))
    (subst (λ (k : ℕ). T (leaves mode e (switch_of c k))) (less_none i) w.passes)
  where
    less_none : (i : ℕ) → i - 0 ≡ i
    less_none i = omega arith

-- and its number is none that says a component stays
move-below : {n : ℕ} {c : Component} → GoodComponent n c → (mode e i : ℕ) → T (moves c mode e i) → i < stays
unfolding moves stays
move-below {c = c} g mode e i t =
    omega (arith, g.few, ltb→lt i (length c.switches) (and_left (ltb i (length c.switches)) (leaves mode e (switch_of c i)) t))

front-joined : (numbers : List ℕ) (rest : List (List ℕ)) → in_front numbers rest ≡ join_all (λ i. map (λ xs. i ∷ xs) rest) numbers
unfolding in_front join_all
front-joined [] rest = refl
front-joined (i ∷ numbers) rest = ap (λ ys. map (λ xs. i ∷ xs) rest ++ ys) (front-joined numbers rest)

-- those of an event: exactly the members move
together-step : (c : Component) (components : List Component) (mode : ℕ) (modes : List ℕ) (e : ℕ) (rest : List (List ℕ)) (b : Bool) → has_event c.alphabet e ≡ b → All (λ xs. T (members_move components modes e xs)) rest → All (λ xs. T (members_move (c ∷ components) (mode ∷ modes) e xs)) (cond b (in_front (leaving c mode e) rest) (map (λ xs. stays ∷ xs) rest))
unfolding part_in members_move stays
together-step c components mode modes e rest true q all =
    rw front-joined
    (all-joined (λ i. map (λ xs. i ∷ xs) rest) (leaving c mode e)
    (λ i d. all-mapped (λ xs. i ∷ xs) rest (λ xs k. rw q (and_both (moves c mode e i) (members_move components modes e xs) (leaving-in c mode e i d) (all_in all k)))))
together-step c components mode modes e rest false q all = all-mapped (λ xs. stays ∷ xs) rest (λ xs k. rw q (all_in all k))

together-all : {components : List Component} {modes : List ℕ} → Modes components modes → (e : ℕ) → All (λ xs. T (members_move components modes e xs)) (together components modes e)
unfolding part_in together members_move
together-all no-modes e = more tt none
together-all (mode-and {c = c} {components = components} {mode = mode} {modes = modes} h rest) e =
    together-step c components mode modes e (together components modes e) (has_event c.alphabet e) refl (together-all rest e)

-- the silent ones: one moves
all_stay_lem : (components : List Component) → T (all_stay components (all_staying components))
unfolding all_stay all_staying stays
all_stay_lem [] = tt
all_stay_lem (c ∷ components) = all_stay_lem components

silent-all : {n : ℕ} {components : List Component} → All (GoodComponent n) components → (modes : List ℕ) → All (λ xs. T (one_moves components modes xs)) (silent components modes)
unfolding one_moves silent stays
silent-all none modes = none
silent-all (more g rest) [] = none
silent-all (more {a = c} {xs = components} g rest) (mode ∷ modes) =
    all_append
    (all-mapped (λ i. i ∷ all_staying components) (leaving c mode 0)
    (λ i d.
    let t = leaving-in c mode 0 i d in
    let h = move-below g mode 0 i t in
    rw (ne_eqb i stays (λ e. omega arith)) (and_both (moves c mode 0 i) (all_stay components (all_staying components)) t (all_stay_lem components))))
    (all-mapped (λ xs. stays ∷ xs) (silent components modes) (λ xs d. all_in (silent-all rest modes) d))

some-move : (b : Bool) (test : List ℕ → Bool) {xs : List (List ℕ)} → All (λ x. T (test x)) xs → All (λ x. T (not b && test x)) (cond b [] xs)
some-move true test all = none
some-move false test all = all

switches-all : {n : ℕ} {components : List Component} {modes : List ℕ} → All (GoodComponent n) components → Modes components modes → (e : ℕ) → All (λ xs. T (is_joint components modes e xs)) (switches_of components modes e)
unfolding is_joint switches_of
switches-all {modes = modes} g m zero = silent-all g modes
switches-all {components = components} {modes = modes} g m (suc e) =
    some-move (eqb (mover_count components (suc e)) 0) (members_move components modes (suc e)) (together-all m (suc e))

-- what holds of a record in the list: its source is a location, its event a label, its switches pass the test, and its target is
-- where they lead
pub record Listed (components : List Component) (j : JointSwitch) : Type 0 where
  pub location : j.source < location_count components
  pub label : j.event ≤ 15
  pub joint : T (is_joint components (modes_at components j.source) j.event j.switches)
  pub same : j ≡ joint_from components j.source j.event j.switches

-- what holds of every joint switch of an event from a location, of a location, of all locations, holds of all in that part of the list
all-event : {P : JointSwitch → Type 0} (components : List Component) (l e : ℕ) → ((xs : List ℕ) → Memᴰ xs (switches_of components (modes_at components l) e) → P (joint_from components l e xs)) → All P (joints_of components l e)
unfolding joints_of joint_from
all-event components l e f = all-mapped (joint_from components l e) (switches_of components (modes_at components l) e) f

all-location : {P : JointSwitch → Type 0} (components : List Component) (l : ℕ) → ((e : ℕ) (xs : List ℕ) → e ≤ 15 → Memᴰ xs (switches_of components (modes_at components l) e) → P (joint_from components l e xs)) → All P (join_all (joints_of components l) (count_up 0 16))
all-location components l f =
    all-joined (joints_of components l) (count_up 0 16)
    (λ e d. all-event components l e (λ xs k. f e xs (omega (arith, count-in 0 16 e d)) k))

all-joints : {P : JointSwitch → Type 0} (components : List Component) → ((l e : ℕ) (xs : List ℕ) → l < location_count components → e ≤ 15 → Memᴰ xs (switches_of components (modes_at components l) e) → P (joint_from components l e xs)) → All P (joints components)
unfolding joints
all-joints components f =
    all-joined (λ l. join_all (joints_of components l) (count_up 0 16)) (count_up 0 (location_count components))
    (λ l d. all-location components l (λ e xs h k. f l e xs (omega (arith, count-in 0 (location_count components) l d)) h k))

-- a record of the list is a joint switch
pub listed-joint : {n : ℕ} {components : List Component} {j : JointSwitch} → All (GoodComponent n) components → Memᴰ j (joints components) → Listed components j
unfolding joint_from
listed-joint {components = components} g d =
    all_in {P = Listed components}
    (all-joints components
    (λ l e xs h k i.
    record { location = h; label = k; joint = all_in (switches-all g (modes-at (have-modes g) l h) e) i; same = refl }))
    d

-- the list has exactly the joint switches
pub joint-exactly : {n : ℕ} {components : List Component} → All (GoodComponent n) components → (location e : ℕ) (switches : List ℕ) → location < location_count components → T (is_joint components (modes_at components location) e switches) ↔ Memᴰ (joint_from components location e switches) (joints components)
unfolding joint_from
joint-exactly {n} {components} g location e switches h =
    (joint-listed n components location e switches g h, λ d. (listed-joint g d).joint)

-- where a joint switch leads: to a location, and its modes are those after the switches
pub record Leads (components : List Component) (j : JointSwitch) : Type 0 where
  pub location : j.target < location_count components
  pub modes : modes_at components j.target ≡ modes_after components (modes_at components j.source) j.switches

pub joint-target : {n : ℕ} {components : List Component} {j : JointSwitch} → All (GoodComponent n) components → Memᴰ j (joints components) → Leads components j
unfolding joint_from
joint-target {n} {components} {j} g d =
    let w = listed-joint g d in
    let m = modes-after n g (modes-at (have-modes g) j.source w.location) (joint-known components (modes_at components j.source) j.event j.switches w.joint) in
    let t : j.target ≡ location_of components (modes_after components (modes_at components j.source) j.switches) = ap (λ i. i.target) w.same in
    record { location = rw t (location-of m); modes = ap (modes_at components) t ∙ modes-of (have-modes g) m }

-- The order. The silent ones: of one component by switch, and these before those of later components
silent-ascending : {n : ℕ} {components : List Component} → All (GoodComponent n) components → (modes : List ℕ) → Sorted Lex (silent components modes)
unfolding silent leaving
silent-ascending none modes = sorted_none
silent-ascending (more g rest) [] = sorted_none
silent-ascending (more {a = c} {xs = components} g rest) (mode ∷ modes) =
    sorted-append
    (sorted-map (λ i. i ∷ all_staying components) (sorted-numbers 0 (leaves mode 0) c.switches) (λ i k h. lex-now (all_staying components) (all_staying components) h))
    (sorted-map (λ xs. stays ∷ xs) (silent-ascending rest modes) (lex-later stays))
    (all-mapped (λ i. i ∷ all_staying components) (leaving c mode 0)
    (λ i d. all-mapped (λ xs. stays ∷ xs) (silent components modes) (λ xs k. lex-now (all_staying components) xs (move-below g mode 0 i (leaving-in c mode 0 i d)))))

-- those of an event: by the first number, then by the rest
front-ascending : (b : Bool) {numbers : List ℕ} {rest : List (List ℕ)} → Sorted ◌<◌ numbers → Sorted Lex rest → Sorted Lex (cond b (in_front numbers rest) (map (λ xs. stays ∷ xs) rest))
front-ascending true {numbers} {rest} h k =
    rw front-joined
    (sorted-joined (λ i. map (λ xs. i ∷ xs) rest) h
    (λ i. sorted-map (λ xs. i ∷ xs) k (lex-later i))
    (λ i l m. all-mapped (λ xs. i ∷ xs) rest (λ xs u. all-mapped (λ ys. l ∷ ys) rest (λ ys v. lex-now xs ys m))))
front-ascending false h k = sorted-map (λ xs. stays ∷ xs) k (lex-later stays)

together-ascending : (components : List Component) (modes : List ℕ) (e : ℕ) → Sorted Lex (together components modes e)
unfolding together leaving
together-ascending [] modes e = sorted-and none sorted_none
together-ascending (c ∷ components) [] e = sorted_none
together-ascending (c ∷ components) (mode ∷ modes) e =
    front-ascending (has_event c.alphabet e) (sorted-numbers 0 (leaves mode e) c.switches) (together-ascending components modes e)

some-ascending : (b : Bool) {xs : List (List ℕ)} → Sorted Lex xs → Sorted Lex (cond b [] xs)
some-ascending true h = sorted_none
some-ascending false h = h

switches-ascending : {n : ℕ} {components : List Component} → All (GoodComponent n) components → (modes : List ℕ) (e : ℕ) → Sorted Lex (switches_of components modes e)
unfolding switches_of
switches-ascending g modes zero = silent-ascending g modes
switches-ascending {components = components} g modes (suc e) =
    some-ascending (eqb (mover_count components (suc e)) 0) (together-ascending components modes (suc e))

-- every joint switch stands before every later one
pub joints-ascending : {n : ℕ} {components : List Component} → All (GoodComponent n) components → Sorted Before (joints components)
unfolding joints joints_of joint_from
joints-ascending {components = components} g =
    sorted-joined (λ l. join_all (joints_of components l) (count_up 0 16)) (sorted-count 0 (location_count components))
    (λ l.
    sorted-joined (joints_of components l) (sorted-count 0 16)
    (λ e. sorted-map (joint_from components l e) (switches-ascending g (modes_at components l) e) (λ xs ys h. by-switches refl refl h))
    (λ e f h. all-event components l e (λ xs u. all-event components l f (λ ys v. by-event refl h))))
    (λ l m h. all-location components l (λ e xs u v. all-location components m (λ f ys w x. by-location h)))

-- of two places in the list, the first has what stands before
pub joints-before : {n : ℕ} {components : List Component} → All (GoodComponent n) components → (i k : ℕ) (d : JointSwitch) → i < k → k < length (joints components) → Before (get_or (joints components) i d) (get_or (joints components) k d)
joints-before g i k d h l = sorted-at (joints-ascending g) i k d h l

-- and so they do not have the same
pub joints-once : {n : ℕ} {components : List Component} → All (GoodComponent n) components → (i k : ℕ) (d : JointSwitch) → i < k → k < length (joints components) → get_or (joints components) i d ≢ get_or (joints components) k d
joints-once g i k d h l = before-apart (joints-before g i k d h l)

-- "for event 0 by component and switch". For event 0 one component moves, by a number below 255, and all others have 255
data Alone : List Component → List ℕ → Type 0 where
  moves-now : {c : Component} {components : List Component} {i : ℕ} → i < stays → Alone (c ∷ components) (i ∷ all_staying components)
  moves-later : {c : Component} {components : List Component} {xs : List ℕ} → Alone components xs → Alone (c ∷ components) (stays ∷ xs)

alone-all : {n : ℕ} {components : List Component} → All (GoodComponent n) components → (modes : List ℕ) → All (Alone components) (silent components modes)
unfolding silent
alone-all none modes = none
alone-all (more g rest) [] = none
alone-all (more {a = c} {xs = components} g rest) (mode ∷ modes) =
    all_append
    (all-mapped (λ i. i ∷ all_staying components) (leaving c mode 0) (λ i d. moves-now (move-below g mode 0 i (leaving-in c mode 0 i d))))
    (all-mapped (λ xs. stays ∷ xs) (silent components modes) (λ xs d. moves-later (all_in (alone-all rest modes) d)))

-- a component that moves is below one that stays, and of two that move all others are alike
lex-mover : {components : List Component} {xs ys : List ℕ} → Alone components xs → Alone components ys → Lex xs ys ↔ ByMover xs ys
unfolding Lex mover mover_switch ByMover stays
lex-mover (moves-now {components = components} {i = i} h) (moves-now {i = k} l) =
    rw (ne_eqb i stays (λ e. omega arith), ne_eqb k stays (λ e. omega arith)) (
      λ w. inr (refl, ⊎_elim (λ v. v) (λ v. absurd (lex-itself (all_staying components) v.1)) w),
      λ w. inl (⊎_elim (λ v. absurd (omega arith)) (λ v. v.1) w),
    )
lex-mover (moves-now {i = i} h) (moves-later b) =
    rw (ne_eqb i stays (λ e. omega arith)) (λ w. inl (omega arith), λ w. inl h)
lex-mover (moves-later a) (moves-now {i = k} l) =
    rw (ne_eqb k stays (λ e. omega arith)) (
      λ w. absurd (⊎_elim (λ v. omega arith) (λ v. omega arith) w),
      λ w. absurd (⊎_elim (λ v. omega arith) (λ v. omega arith) w),
    )
lex-mover (moves-later a) (moves-later b) =
    let r = lex-mover a b in (
      λ w. ⊎_elim (λ v. absurd (omega arith)) (λ v. ⊎_elim (λ h. inl (omega arith)) (λ h. inr (ap suc h.0, h.1)) (r.0 v.1)) w,
      λ w. inr (refl, r.1 (⊎_elim (λ v. inl (omega arith)) (λ v. inr (omega arith, v.1)) w)),
    )

silent-alone : {n : ℕ} {components : List Component} → All (GoodComponent n) components → (modes : List ℕ) (e : ℕ) (xs : List ℕ) → Memᴰ xs (switches_of components modes e) → e ≡ 0 → Alone components xs
unfolding switches_of
silent-alone g modes zero xs d q = all_in (alone-all g modes) d
silent-alone g modes (suc e) xs d q = absurd (omega arith)

joint-alone : {n : ℕ} {components : List Component} (j : JointSwitch) → All (GoodComponent n) components → Memᴰ j (joints components) → j.event ≡ 0 → Alone components j.switches
unfolding joint_from
joint-alone {components = components} j g d =
    all_in {P = λ j. j.event ≡ 0 → Alone components j.switches}
    (all-joints components (λ l e xs h k i. silent-alone g (modes_at components l) e xs i))
    d

-- of two joint switches for event 0, the order of the switch numbers is that by component and switch
pub silent-order : {n : ℕ} {components : List Component} (a b : JointSwitch) → All (GoodComponent n) components → Memᴰ a (joints components) → Memᴰ b (joints components) → a.event ≡ 0 → b.event ≡ 0 → Lex a.switches b.switches ↔ ByMover a.switches b.switches
silent-order a b g d k e f = lex-mover (joint-alone a g d e) (joint-alone b g k f)

-- "exactly those in it": for an event from 1, each member of the scope moves, and any other component stays
pub data EachMoves (e : ℕ) : List Component → List ℕ → List ℕ → Type 0 where
  none_moves : EachMoves e [] [] []
  member-moves : {c : Component} {components : List Component} {mode i : ℕ} {modes switches : List ℕ} → T (has_event c.alphabet e) → T (moves c mode e i) → EachMoves e components modes switches → EachMoves e (c ∷ components) (mode ∷ modes) (i ∷ switches)
  other-stays : {c : Component} {components : List Component} {mode i : ℕ} {modes switches : List ℕ} → T (not (has_event c.alphabet e)) → i ≡ stays → EachMoves e components modes switches → EachMoves e (c ∷ components) (mode ∷ modes) (i ∷ switches)

each_step : (e : ℕ) (c : Component) (components : List Component) (mode i : ℕ) (modes switches : List ℕ) (b : Bool) → has_event c.alphabet e ≡ b → T (cond b (moves c mode e i) (eqb i stays)) → EachMoves e components modes switches → EachMoves e (c ∷ components) (mode ∷ modes) (i ∷ switches)
each_step e c components mode i modes switches true q t rest = member-moves (subst T (sym q) tt) t rest
each_step e c components mode i modes switches false q t rest = other-stays (subst (λ b. T (not b)) (sym q) tt) (eqb→eq i stays t) rest

members-each : (e : ℕ) (components : List Component) (modes switches : List ℕ) → T (members_move components modes e switches) → EachMoves e components modes switches
unfolding part_in members_move
members-each e [] [] [] t = none_moves
members-each e [] [] (i ∷ switches) t = absurd t
members-each e [] (mode ∷ modes) switches t = absurd t
members-each e (c ∷ components) [] switches t = absurd t
members-each e (c ∷ components) (mode ∷ modes) [] t = absurd t
members-each e (c ∷ components) (mode ∷ modes) (i ∷ switches) t =
    let move = part_in c mode e i in
    let others = members_move components modes e switches in
    each_step e c components mode i modes switches (has_event c.alphabet e) refl (and_left move others t) (members-each e components modes switches (and_right move others t))

pub all-members-move : (e : ℕ) (components : List Component) (modes switches : List ℕ) → T (is_joint components modes (suc e) switches) → EachMoves (suc e) components modes switches
unfolding is_joint
all-members-move e components modes switches t =
    members-each (suc e) components modes switches (and_right (not (eqb (mover_count components (suc e)) 0)) (members_move components modes (suc e) switches) t)
