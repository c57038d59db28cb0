-- The list of joint switches has every joint switch, by the test that runs use. Assumes nothing.
use mathlib.Core.Path.{◌≡◌, refl, sym, ap, subst}
use mathlib.Core.Logic.{◌⊎◌, inl, inr, ⊎_elim}
use mathlib.Core.Bool.{Bool, true, false, not, cond, ◌&&◌}
use mathlib.Core.List.Memᴰ
use mathlib.Core.List.{List, [], ◌∷◌, ◌++◌, map, Memᴰ}
use Prim.Native.Nat.{ℕ, zero, suc, ◌+◌, ◌*◌, ◌-◌, ◌≤◌, ◌<◌}
use native.Mathlib.Omega.{arith}
use lib.Count.{ones}
use lib.Dec.{T, ltb, eqb, ltb→lt, eqb→eq}
use lib.ListN.{length}
use borrow.Author.Tests.{eqb-true}
use Rattle.formats.specs.Model.{Component, has_event}
use Rattle.formats.specs.Locations.{location_count, modes_at}
use Rattle.formats.specs.Joint.{joint_from, stays, switch_of, leaves, moves, bit, scope_mask, mover_count, part_in, members_move, all_stay, one_moves, is_joint, modes_after, leaving, all_staying, silent, in_front, together, switches_of, count_up, join_all, joints_of, joints}
use Rattle.farkas.specs.Lists.{All, none, more}
use Rattle.formats.proofs.Gives.{and_left, and_right}
use Rattle.formats.proofs.Members.{all-below, in_map, in-joined, in_count, in-numbers}
use Rattle.formats.proofs.WellFormed.{GoodComponent}
use Rattle.formats.proofs.Locations.{Modes, no-modes, mode-and}

-- a switch by which a component may move is among those that leave its mode
in-leaving : (c : Component) (mode e i : ℕ) → T (moves c mode e i) → Memᴰ i (leaving c mode e)
unfolding moves leaving switch_of
in-leaving c mode e i t =
    in-numbers 0 (leaves mode e) c.switches _ i
    (record {
      from = omega arith;
      until = below;
      passes = subst (λ (n : ℕ). T (leaves mode e (switch_of c n))) (sym (less_none i)) (and_right (ltb i (length c.switches)) (leaves mode e (switch_of c i)) t);
    })
  where
    less_none : (i : ℕ) → i - 0 ≡ i
    less_none i = omega arith

    below : i < 0 + length c.switches
    below = omega (arith, ltb→lt i (length c.switches) (and_left (ltb i (length c.switches)) (leaves mode e (switch_of c i)) t))

in-front : {i : ℕ} {switches : List ℕ} (numbers : List ℕ) (rest : List (List ℕ)) → Memᴰ i numbers → Memᴰ switches rest → Memᴰ (i ∷ switches) (in_front numbers rest)
unfolding in_front
in-front [] rest d e = elim d [ ]
in-front {i} {switches} (j ∷ numbers) rest (Memᴰ.head e) d =
    Memᴰ.append_left (in_front numbers rest) (Memᴰ.cast (ap (λ (n : ℕ). n ∷ switches) e) (in_map (λ xs. j ∷ xs) d))
in-front (j ∷ numbers) rest (Memᴰ.tail k) d = Memᴰ.append_right (map (λ xs. j ∷ xs) rest) (in-front numbers rest k d)

in-together-step : (c : Component) (mode e i : ℕ) (switches : List ℕ) (rest : List (List ℕ)) (b : Bool) → T (cond b (moves c mode e i) (eqb i stays)) → Memᴰ switches rest → Memᴰ (i ∷ switches) (cond b (in_front (leaving c mode e) rest) (map (λ xs. stays ∷ xs) rest))
in-together-step c mode e i switches rest true t d = in-front (leaving c mode e) rest (in-leaving c mode e i t) d
in-together-step c mode e i switches rest false t d =
    Memᴰ.cast (ap (λ (n : ℕ). n ∷ switches) (eqb→eq i stays t)) (in_map (λ xs. stays ∷ xs) d)

-- exactly the members move: it is among those of the event
in-together : (components : List Component) (modes : List ℕ) (e : ℕ) (switches : List ℕ) → T (members_move components modes e switches) → Memᴰ switches (together components modes e)
unfolding part_in members_move together
in-together [] [] e [] t = Memᴰ.head refl
in-together [] [] e (i ∷ switches) t = absurd t
in-together [] (mode ∷ modes) e switches t = absurd t
in-together (c ∷ components) [] e switches t = absurd t
in-together (c ∷ components) (mode ∷ modes) e [] t = absurd t
in-together (c ∷ components) (mode ∷ modes) e (i ∷ switches) t =
    let move = part_in c mode e i in
    in-together-step c mode e i switches (together components modes e) (has_event c.alphabet e)
    (and_left move (members_move components modes e switches) t)
    (in-together components modes e switches (and_right move (members_move components modes e switches) t))

all-staying : (components : List Component) (switches : List ℕ) → T (all_stay components switches) → switches ≡ all_staying components
unfolding all_stay all_staying
all-staying [] [] t = refl
all-staying [] (i ∷ switches) t = absurd t
all-staying (c ∷ components) [] t = absurd t
all-staying (c ∷ components) (i ∷ switches) t =
    let e : i ≡ stays = eqb→eq i stays (and_left (eqb i stays) (all_stay components switches) t) in
    let r : switches ≡ map (λ c. stays) components = all-staying components switches (and_right (eqb i stays) (all_stay components switches) t) in
    cc

in-silent-step : (c : Component) (components : List Component) (mode i : ℕ) (modes switches : List ℕ) (b : Bool) → eqb i stays ≡ b → (T (one_moves components modes switches) → Memᴰ switches (silent components modes)) → T (cond b (one_moves components modes switches) (moves c mode 0 i && all_stay components switches)) → Memᴰ (i ∷ switches) (map (λ j. j ∷ all_staying components) (leaving c mode 0) ++ map (λ xs. stays ∷ xs) (silent components modes))
in-silent-step c components mode i modes switches true q later t =
    Memᴰ.append_right (map (λ j. j ∷ all_staying components) (leaving c mode 0))
    (Memᴰ.cast (ap (λ (n : ℕ). n ∷ switches) (eqb-true i stays q)) (in_map (λ xs. stays ∷ xs) (later t)))
in-silent-step c components mode i modes switches false q later t =
    Memᴰ.append_left (map (λ xs. stays ∷ xs) (silent components modes))
    (Memᴰ.cast
    (ap (λ xs. i ∷ xs) (all-staying components switches (and_right (moves c mode 0 i) (all_stay components switches) t)))
    (in_map (λ j. j ∷ all_staying components) (in-leaving c mode 0 i (and_left (moves c mode 0 i) (all_stay components switches) t))))

-- one moves: it is among the silent ones
in-silent : (components : List Component) (modes switches : List ℕ) → T (one_moves components modes switches) → Memᴰ switches (silent components modes)
unfolding one_moves silent
in-silent [] modes switches t = absurd t
in-silent (c ∷ components) [] switches t = absurd t
in-silent (c ∷ components) (mode ∷ modes) [] t = absurd t
in-silent (c ∷ components) (mode ∷ modes) (i ∷ switches) t =
    in-silent-step c components mode i modes switches (eqb i stays) refl (in-silent components modes switches) t

not-zero-step : {A : Type 0} {a : A} (b : Bool) (xs : List A) → T (not b) → Memᴰ a xs → Memᴰ a (cond b [] xs)
not-zero-step true xs t d = absurd t
not-zero-step false xs t d = d

in-switches : (components : List Component) (modes : List ℕ) (e : ℕ) (switches : List ℕ) → T (is_joint components modes e switches) → Memᴰ switches (switches_of components modes e)
unfolding is_joint switches_of
in-switches components modes zero switches t = in-silent components modes switches t
in-switches components modes (suc e) switches t =
    let none = eqb (mover_count components (suc e)) 0 in
    let move = members_move components modes (suc e) switches in
    not-zero-step none (together components modes (suc e)) (and_left (not none) move t) (in-together components modes (suc e) switches (and_right (not none) move t))

-- labels end at 15, so that joint switches do
label_of : (n : ℕ) (c : Component) (mode e i : ℕ) → GoodComponent n c → T (moves c mode e i) → e ≤ 15
unfolding moves leaves switch_of
label_of n c mode e i g t =
    let below = ltb i (length c.switches) in
    let right = eqb (switch_of c i).label e in
    let from = eqb (switch_of c i).source mode in
    let h = ltb→lt i (length c.switches) (and_left below (right && from) t) in
    let q = eqb→eq (switch_of c i).label e (and_left right from (and_right below (right && from) t)) in
    subst (λ (k : ℕ). k ≤ 15) q (all-below g.switches i _ h).label

event-step : (n : ℕ) (c : Component) (mode e i mask : ℕ) (b : Bool) → GoodComponent n c → T (cond b (moves c mode e i) (eqb i stays)) → (e ≤ 15) ⊎ (mask ≡ 0) → (e ≤ 15) ⊎ (bit b + 2 * mask ≡ 0)
unfolding bit
event-step n c mode e i mask true g t later = inl (label_of n c mode e i g t)
event-step n c mode e i mask false g t later = ⊎_elim (λ h. inl h) (λ z. inr (omega arith)) later

event-or-none : (n : ℕ) (components : List Component) (modes : List ℕ) (e : ℕ) (switches : List ℕ) → All (GoodComponent n) components → T (members_move components modes e switches) → (e ≤ 15) ⊎ (scope_mask components e ≡ 0)
unfolding part_in members_move scope_mask
event-or-none n [] [] e [] g t = inr refl
event-or-none n [] [] e (i ∷ switches) g t = absurd t
event-or-none n [] (mode ∷ modes) e switches g t = absurd t
event-or-none n (c ∷ components) [] e switches g t = absurd t
event-or-none n (c ∷ components) (mode ∷ modes) e [] g t = absurd t
event-or-none n (c ∷ components) (mode ∷ modes) e (i ∷ switches) (more x rest) t =
    let move = part_in c mode e i in
    let others = members_move components modes e switches in
    event-step n c mode e i (scope_mask components e) (has_event c.alphabet e) x (and_left move others t)
    (event-or-none n components modes e switches rest (and_right move others t))

none-move : (components : List Component) (e : ℕ) → scope_mask components e ≡ 0 → T (not (eqb (mover_count components e) 0)) → ⊥
unfolding mover_count ones
none-move components e q t = let z : T (not (eqb (ones 0) 0)) = subst (λ (n : ℕ). T (not (eqb (ones n) 0))) q t in z

pub joint-event : (n : ℕ) (components : List Component) (modes : List ℕ) (e : ℕ) (switches : List ℕ) → All (GoodComponent n) components → T (is_joint components modes e switches) → e ≤ 15
unfolding is_joint
joint-event n components modes zero switches g t = omega arith
joint-event n components modes (suc e) switches g t =
    let some = not (eqb (mover_count components (suc e)) 0) in
    let move = members_move components modes (suc e) switches in
    ⊎_elim
    (λ h. h)
    (λ z. absurd (none-move components (suc e) z (and_left some move t)))
    (event-or-none n components modes (suc e) switches g (and_right some move t))

-- the list has every joint switch
pub joint-listed : (n : ℕ) (components : List Component) (location e : ℕ) (switches : List ℕ) → All (GoodComponent n) components → location < location_count components → T (is_joint components (modes_at components location) e switches) → Memᴰ (joint_from components location e switches) (joints components)
unfolding joints joints_of joint_from
joint-listed n components location e switches g h t =
    in-joined (λ l. join_all (joints_of components l) (count_up 0 16)) (count_up 0 (location_count components))
    (in_count 0 (location_count components) location (omega arith) (omega arith))
    (in-joined (joints_of components location) (count_up 0 16)
    (in_count 0 16 e (omega arith) (omega (arith, joint-event n components (modes_at components location) e switches g t)))
    (in_map (λ xs. joint_from components location e xs) (in-switches components (modes_at components location) e switches t)))

-- modes after a joint switch are modes, so that its target is a location
after-step : (n : ℕ) (c : Component) (mode i : ℕ) (b : Bool) → GoodComponent n c → mode < length c.modes → (b ≡ false → i < length c.switches) → cond b mode (switch_of c i).target < length c.modes
unfolding switch_of
after-step n c mode i true g h k = h
after-step n c mode i false g h k = (all-below g.switches i _ (k refl)).target

-- one number per component: one of its switches, or that it stays
pub data Known : List Component → List ℕ → Type 0 where
  no-numbers : Known [] []
  number-and : {c : Component} {components : List Component} {i : ℕ} {switches : List ℕ} → (eqb i stays ≡ false → i < length c.switches) → Known components switches → Known (c ∷ components) (i ∷ switches)

known-move : (c : Component) (mode e i : ℕ) → T (moves c mode e i) → eqb i stays ≡ false → i < length c.switches
unfolding moves
known-move c mode e i t q =
    ltb→lt i (length c.switches) (and_left (ltb i (length c.switches)) (leaves mode e (switch_of c i)) t)

known-stay : (c : Component) (i : ℕ) → T (eqb i stays) → eqb i stays ≡ false → i < length c.switches
known-stay c i t q = absurd (subst T q t)

known_member : (c : Component) (mode e i : ℕ) (b : Bool) → T (cond b (moves c mode e i) (eqb i stays)) → eqb i stays ≡ false → i < length c.switches
known_member c mode e i true t q = known-move c mode e i t q
known_member c mode e i false t q = known-stay c i t q

known-members : (components : List Component) (modes : List ℕ) (e : ℕ) (switches : List ℕ) → T (members_move components modes e switches) → Known components switches
unfolding part_in members_move
known-members [] [] e [] t = no-numbers
known-members [] [] e (i ∷ switches) t = absurd t
known-members [] (mode ∷ modes) e switches t = absurd t
known-members (c ∷ components) [] e switches t = absurd t
known-members (c ∷ components) (mode ∷ modes) e [] t = absurd t
known-members (c ∷ components) (mode ∷ modes) e (i ∷ switches) t =
    let move = part_in c mode e i in
    let others = members_move components modes e switches in
    number-and (known_member c mode e i (has_event c.alphabet e) (and_left move others t)) (known-members components modes e switches (and_right move others t))

known-staying : (components : List Component) (switches : List ℕ) → T (all_stay components switches) → Known components switches
unfolding all_stay
known-staying [] [] t = no-numbers
known-staying [] (i ∷ switches) t = absurd t
known-staying (c ∷ components) [] t = absurd t
known-staying (c ∷ components) (i ∷ switches) t =
    number-and (known-stay c i (and_left (eqb i stays) (all_stay components switches) t)) (known-staying components switches (and_right (eqb i stays) (all_stay components switches) t))

known-one-step : (c : Component) (components : List Component) (mode i : ℕ) (modes switches : List ℕ) (b : Bool) → eqb i stays ≡ b → (T (one_moves components modes switches) → Known components switches) → T (cond b (one_moves components modes switches) (moves c mode 0 i && all_stay components switches)) → Known (c ∷ components) (i ∷ switches)
known-one-step c components mode i modes switches true q later t = number-and (known-stay c i (subst T (sym q) tt)) (later t)
known-one-step c components mode i modes switches false q later t =
    number-and (known-move c mode 0 i (and_left (moves c mode 0 i) (all_stay components switches) t)) (known-staying components switches (and_right (moves c mode 0 i) (all_stay components switches) t))

known-one : (components : List Component) (modes switches : List ℕ) → T (one_moves components modes switches) → Known components switches
unfolding one_moves
known-one [] modes switches t = absurd t
known-one (c ∷ components) [] switches t = absurd t
known-one (c ∷ components) (mode ∷ modes) [] t = absurd t
known-one (c ∷ components) (mode ∷ modes) (i ∷ switches) t =
    known-one-step c components mode i modes switches (eqb i stays) refl (known-one components modes switches) t

pub joint-known : (components : List Component) (modes : List ℕ) (e : ℕ) (switches : List ℕ) → T (is_joint components modes e switches) → Known components switches
unfolding is_joint
joint-known components modes zero switches t = known-one components modes switches t
joint-known components modes (suc e) switches t =
    known-members components modes (suc e) switches (and_right (not (eqb (mover_count components (suc e)) 0)) (members_move components modes (suc e) switches) t)

pub modes-after : (n : ℕ) {components : List Component} {modes switches : List ℕ} → All (GoodComponent n) components → Modes components modes → Known components switches → Modes components (modes_after components modes switches)
unfolding modes_after
modes-after n none no-modes no-numbers = no-modes
modes-after n (more {a = c} g rest) (mode-and {mode = mode} h later) (number-and {i = i} k others) =
    mode-and (after-step n c mode i (eqb i stays) g h k) (modes-after n rest later others)
