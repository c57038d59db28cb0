-- "As many components move together as the scope mask has ones": of a joint switch with an event from 1, the components that move are
-- as many as the mask's ones. Assumes nothing.
use mathlib.Core.Path.{◌≡◌, refl, sym, ap, ◌∙◌}
use mathlib.Core.Bool.{Bool, true, false, not}
use mathlib.Core.List.{List, ◌∷◌}
use Prim.Native.Nat.{ℕ, suc, ◌+◌, ◌≤◌, ◌<◌}
use native.Mathlib.Nat.{zero-add}
use native.Mathlib.Omega.{arith}
use lib.Dec.{T, ltb, eqb, ltb→lt}
use lib.ListN.{length}
use borrow.Author.Tests.{eq-eqb, ne_eqb}
use Rattle.farkas.specs.Lists.{All, none, more}
use Rattle.formats.specs.Model.{Switch, Component, has_event}
use Rattle.formats.specs.Joint.{stays, switch_of, leaves, moves, bit, mover_count, is_joint}
use Rattle.formats.specs.Parts.{member_count}
use Rattle.formats.proofs.Gives.{and_left}
use Rattle.formats.proofs.JointCounts.{mask-members}
use Rattle.formats.proofs.JointList.{EachMoves, none_moves, member-moves, other-stays, all-members-move}
use Rattle.rules.specs.Runs.{movers}
use Rattle.rules.proofs.ListFacts.{is_true}

-- a switch of a component that has at most 32 is not the number that stands for staying
moving : (c : Component) (mode e i : ℕ) → length c.switches ≤ 32 → T (moves c mode e i) → eqb i stays ≡ false
unfolding moves stays
moving c mode e i few t =
    let h : i < length c.switches = ltb→lt i (length c.switches) (and_left (ltb i (length c.switches)) (leaves mode e (switch_of c i)) t) in
    ne_eqb i 255 (λ p. absurd (omega arith))

no : (b : Bool) → T (not b) → b ≡ false
no true t = absurd t
no false t = refl

-- a component more, by whether it stays
one_more : (c : Component) (components : List Component) (i : ℕ) (switches : List ℕ) (a : Bool) → eqb i stays ≡ a → length (movers (c ∷ components) (i ∷ switches)) ≡ length {A = Switch} (elim a as (λ _. List Switch) [ true ↦ movers components switches | false ↦ switch_of c i ∷ movers components switches ])
unfolding movers
one_more c components i switches a e = ap (λ (x : Bool). length {A = Switch} (elim x as (λ _. List Switch) [ true ↦ movers components switches | false ↦ switch_of c i ∷ movers components switches ])) e

member-more : (c : Component) (components : List Component) (e : ℕ) (b : Bool) → has_event c.alphabet e ≡ b → member_count (c ∷ components) e ≡ bit b + member_count components e
unfolding member_count
member-more c components e b h = ap (λ (x : Bool). bit x + member_count components e) h

counted : (n : ℕ) → suc n ≡ 1 + n
counted n = omega arith

count-moved : (e : ℕ) {components : List Component} {modes switches : List ℕ} → All (λ c. length c.switches ≤ 32) components → EachMoves e components modes switches → length (movers components switches) ≡ member_count components e
unfolding movers member_count bit
count-moved e none none_moves = refl
count-moved e (more f fs) (member-moves {c} {components} {mode} {i} {modes} {switches} t m rest) =
    one_more c components i switches false (moving c mode e i f m)
    ∙ ap suc (count-moved e fs rest)
    ∙ counted (member_count components e)
    ∙ sym (member-more c components e true (is_true (has_event c.alphabet e) t))
count-moved e (more f fs) (other-stays {c} {components} {mode} {i} {modes} {switches} t p rest) =
    one_more c components i switches true (eq-eqb i stays p)
    ∙ count-moved e fs rest
    ∙ sym (zero-add (member_count components e))
    ∙ sym (member-more c components e false (no (has_event c.alphabet e) t))

pub moved-together : (e : ℕ) (components : List Component) (modes switches : List ℕ) → All (λ c. length c.switches ≤ 32) components → T (is_joint components modes (suc e) switches) → length (movers components switches) ≡ mover_count components (suc e)
moved-together e components modes switches few t =
    count-moved (suc e) few (all-members-move e components modes switches t) ∙ sym (mask-members components (suc e))
