-- Components, read part by part into a block of an index: how the answers of the parts make the answer of the whole. Assumes nothing.
use mathlib.Core.Path.{◌≡◌, refl, sym, ap, ◌∙◌, subst}
use mathlib.Core.Bool.{Bool, true, false, cond}
use mathlib.Core.List.{List, map}
use mathlib.Core.Logic.{◌⊎◌, inl, inr}
use Prim.Native.Nat.{ℕ, zero, suc, ◌+◌, ◌*◌, ◌%◌, ◌≤◌, ◌<◌}
use native.Mathlib.Nat.{eq-or-lt_of_le}
use native.Mathlib.Omega.{arith}
use lib.Dec.{eqb}
use lib.ListN.{length, get_or, set, length-set}
use borrow.Author.Tests.{eq-eqb, ne_eqb}
use Rattle.fields.proofs.AnswerLaws.{Next}
use Rattle.formats.specs.Reading.{got, refused, Reader, ◌>>=◌, give, field, u8, u16, passing, must, within, many}
use Rattle.formats.specs.Model.{Mode, Switch, Component, read_mode, read_switch, read_component}
use Rattle.formats.specs.Joint.{count_up}
use Rattle.models.specs.Index.{entry, Counts, read_alphabet, read_counts, counts_from, mode_from, mode_place, switch_from, switch_place, component_from, component_place, Kept}
use Rattle.fields.specs.Answers.{got_as}
use Rattle.formats.proofs.FieldLaws.{two_at, field-read, range-read}
use Rattle.formats.proofs.Gives.{passes, tested, bind-got, got-value}
use Rattle.formats.proofs.WellFormed.{component-gives}
use Rattle.fields.proofs.Skipping.{bind-refused}
use Rattle.fields.proofs.ChainLaws.{last-got, bind_assoc, bind-same, give-bind}
use Rattle.models.proofs.IndexLaws.{entry-same, entry_other, kept_set, kept_then, AgreeOn, mode-same, switch-same}
use Rattle.fields.proofs.ReadLoop.{up_to, up-to-same}

-- an alphabet
pub alphabet-refused : (s : List ℕ) (at number place : ℕ) → u16 s at ≡ refused number place → read_alphabet s at ≡ refused number place
unfolding read_alphabet must passing
alphabet-refused s at number place e = ap (λ g. passing (λ v. eqb (v % 2) 0) 5 at g) e

alphabet-step : (s : List ℕ) (at v next : ℕ) (b : Bool) → u16 s at ≡ got v next → eqb (v % 2) 0 ≡ b → read_alphabet s at ≡ cond b (got v next) (refused 5 at)
unfolding read_alphabet must passing
alphabet-step s at v next b e h = ap (λ g. passing (λ v. eqb (v % 2) 0) 5 at g) e ∙ ap (λ x. cond x (got v next) (refused 5 at)) h

pub alphabet-even : (s : List ℕ) (at v next : ℕ) → u16 s at ≡ got v next → v % 2 ≡ 0 → read_alphabet s at ≡ got v next
alphabet-even s at v next e h = alphabet-step s at v next true e (eq-eqb (v % 2) 0 h)

pub alphabet-odd : (s : List ℕ) (at v next : ℕ) → u16 s at ≡ got v next → (v % 2 ≡ 0 → ⊥) → read_alphabet s at ≡ refused 5 at
alphabet-odd s at v next e h = alphabet-step s at v next false e (ne_eqb (v % 2) 0 h)

-- two bytes are below 65,536
pub alphabet-small : (s : List ℕ) (at v next : ℕ) → ((i : ℕ) → get_or s i 0 < 256) → read_alphabet s at ≡ got v next → v < 65536
unfolding read_alphabet must u16
alphabet-small s at v next bytes e =
    let r = field-read 2 s at v next (tested (λ v. eqb (v % 2) 0) 5 at (field 2 s at) v next e).read in
    omega (arith, r.value, two_at s at r.whole, bytes at, bytes (at + 1))

-- alphabet and counts
module _ (s : List ℕ) (at : ℕ) where
  pub counts-first : (number place : ℕ) → read_alphabet s at ≡ refused number place → read_counts s at ≡ refused number place
  unfolding read_counts
  counts-first number place e = bind-refused read_alphabet _ s at e

  module _ (alphabet second : ℕ) (one : read_alphabet s at ≡ got alphabet second) where
    pub counts-second : (number place : ℕ) → within 1 8 u8 s second ≡ refused number place → read_counts s at ≡ refused number place
    unfolding read_counts
    counts-second number place e = bind-got read_alphabet _ s at one (bind-refused (within 1 8 u8) _ s second e)

    module _ (modes third : ℕ) (two : within 1 8 u8 s second ≡ got modes third) where
      pub counts-third : (number place : ℕ) → within 0 32 u8 s third ≡ refused number place → read_counts s at ≡ refused number place
      unfolding read_counts
      counts-third number place e = bind-got read_alphabet _ s at one (bind-got (within 1 8 u8) _ s second two (bind-refused (within 0 32 u8) _ s third e))

      pub counts-read : (switches next : ℕ) → within 0 32 u8 s third ≡ got switches next → read_counts s at ≡ got (record { alphabet = alphabet; modes = modes; switches = switches }) next
      unfolding read_counts give
      counts-read switches next e = bind-got read_alphabet _ s at one (bind-got (within 1 8 u8) _ s second two (bind-got (within 0 32 u8) _ s third e refl))

-- what the counts tell
pub record SmallCounts (c : Counts) : Type 0 where
  pub least : 1 ≤ c.modes
  pub most : c.modes ≤ 8
  pub few : c.switches ≤ 32

pub counts-small : (s : List ℕ) (at : ℕ) (c : Counts) (next : ℕ) → read_counts s at ≡ got c next → SmallCounts c
unfolding read_counts ◌>>=◌ give
counts-small s at c next e =
    let one = passes (read_alphabet s at) (λ a. within 1 8 u8 >>= λ m. within 0 32 u8 >>= λ w. give (record { alphabet = a; modes = m; switches = w })) s c next e in
    let two = passes (within 1 8 u8 s one.place) (λ m. within 0 32 u8 >>= λ w. give (record { alphabet = one.value; modes = m; switches = w })) s c next one.second in
    let three = passes (within 0 32 u8 s two.place) (λ w. give (record { alphabet = one.value; modes = two.value; switches = w })) s c next two.second in
    let m = range-read u8 1 8 s one.place two.value two.place two.first in
    let w = range-read u8 0 32 s two.place three.value three.place three.first in
    subst SmallCounts (got-value three.second) (record { least = m.low; most = m.high; few = w.high })

-- a component
module _ (version n : ℕ) (s : List ℕ) (at : ℕ) where
  rest : Counts → Reader Component
  rest c =
      many c.modes (read_mode version n) >>= λ modes.
      many c.switches (read_switch version n c.alphabet c.modes) >>= λ switches.
      give (record { alphabet = c.alphabet; modes = modes; switches = switches })

  component-parts : read_component version n s at ≡ (read_counts >>= rest) s at
  unfolding read_component read_counts read_alphabet rest
  component-parts =
      sym
      (bind_assoc read_alphabet _ rest s at
      ∙ bind-same read_alphabet _ _ s at
      (λ a p.
      bind_assoc (within 1 8 u8) _ rest s p
      ∙ bind-same (within 1 8 u8) _ _ s p
      (λ m q. bind_assoc (within 0 32 u8) _ rest s q ∙ bind-same (within 0 32 u8) _ _ s q (λ w k. give-bind (record { alphabet = a; modes = m; switches = w }) rest s k))))

  pub component-first : (number place : ℕ) → read_counts s at ≡ refused number place → read_component version n s at ≡ refused number place
  component-first number place e = component-parts ∙ bind-refused read_counts rest s at e

  module _ (c : Counts) (second : ℕ) (one : read_counts s at ≡ got c second) where
    pub component-second : (number place : ℕ) → many c.modes (read_mode version n) s second ≡ refused number place → read_component version n s at ≡ refused number place
    unfolding rest
    component-second number place e = component-parts ∙ bind-got read_counts rest s at one (bind-refused (many c.modes (read_mode version n)) _ s second e)

    pub component-read : (modes : List Mode) (third : ℕ) → many c.modes (read_mode version n) s second ≡ got modes third → (switches : List Switch) (x : Next) → got_as switches x ≡ many c.switches (read_switch version n c.alphabet c.modes) s third → got_as (record { alphabet = c.alphabet; modes = modes; switches = switches }) x ≡ read_component version n s at
    unfolding rest
    component-read modes third two switches x e =
        last-got (many c.switches (read_switch version n c.alphabet c.modes)) (λ v. record { alphabet = c.alphabet; modes = modes; switches = v }) s third switches x e
        ∙ sym (component-parts ∙ bind-got read_counts rest s at one (bind-got (many c.modes (read_mode version n)) _ s second two refl))

same-list : {A : Type 0} (f g : ℕ → A) (n : ℕ) → ((j : ℕ) → j < n → f j ≡ g j) → map f (count_up 0 n) ≡ map g (count_up 0 n)
unfolding up_to
same-list f g n h = up-to-same f g n h

-- a component depends on the numbers of its block alone
pub component-same : (s : List ℕ) (version n : ℕ) (xs ys : List ℕ) (block : ℕ) → entry xs (block + 1) ≤ 8 → entry xs (block + 2) ≤ 32 → AgreeOn block (block + 219) xs ys → component_from s version n ys block ≡ component_from s version n xs block
unfolding component_from mode_place switch_place
component-same s version n xs ys block h k w =
    let a : entry ys block ≡ entry xs block = w block (omega arith) (omega arith) in
    let m : entry ys (block + 1) ≡ entry xs (block + 1) = w (block + 1) (omega arith) (omega arith) in
    let c : entry ys (block + 2) ≡ entry xs (block + 2) = w (block + 2) (omega arith) (omega arith) in
    let modes : map (λ j. mode_from s version n ys (block + 3 + 7 * j)) (count_up 0 (entry ys (block + 1))) ≡ map (λ j. mode_from s version n xs (block + 3 + 7 * j)) (count_up 0 (entry xs (block + 1))) =
    ap (λ (z : ℕ). map (λ j. mode_from s version n ys (block + 3 + 7 * j)) (count_up 0 z)) m
    ∙ same-list (λ j. mode_from s version n ys (block + 3 + 7 * j)) (λ j. mode_from s version n xs (block + 3 + 7 * j)) (entry xs (block + 1)) (λ j l. mode-same s version n xs ys (block + 3 + 7 * j) (λ i p q. w i (omega arith) (omega arith))) in
    let switches : map (λ j. switch_from s version n ys (block + 59 + 5 * j)) (count_up 0 (entry ys (block + 2))) ≡ map (λ j. switch_from s version n xs (block + 59 + 5 * j)) (count_up 0 (entry xs (block + 2))) =
    ap (λ (z : ℕ). map (λ j. switch_from s version n ys (block + 59 + 5 * j)) (count_up 0 z)) c
    ∙ same-list (λ j. switch_from s version n ys (block + 59 + 5 * j)) (λ j. switch_from s version n xs (block + 59 + 5 * j)) (entry xs (block + 2)) (λ j l. switch-same s version n xs ys (block + 59 + 5 * j) (λ i p q. w i (omega arith) (omega arith))) in
    λ i. record { alphabet = a i; modes = modes i; switches = switches i }

-- alphabet and counts that were put
pub counts-put : (xs : List ℕ) (b u v w : ℕ) → b + 2 < length xs → (counts_from (set (set (set xs b u) (b + 1) v) (b + 2) w) b ≡ record { alphabet = u; modes = v; switches = w }) × Kept b (b + 3) xs (set (set (set xs b u) (b + 1) v) (b + 2) w)
unfolding counts_from
counts-put xs b u v w h =
    let one = set xs b u in
    let two = set one (b + 1) v in
    let l₁ : b + 1 < length one = simp length-set (omega arith) in
    let l₂ : b + 2 < length two = simp length-set (omega arith) in
    let first : entry (set two (b + 2) w) b ≡ u = entry_other two (b + 2) b w (λ q. omega arith) ∙ entry_other one (b + 1) b v (λ q. omega arith) ∙ entry-same xs b u (omega arith) in
    let second : entry (set two (b + 2) w) (b + 1) ≡ v = entry_other two (b + 2) (b + 1) w (λ q. omega arith) ∙ entry-same one (b + 1) v l₁ in
    let third : entry (set two (b + 2) w) (b + 2) ≡ w = entry-same two (b + 2) w l₂ in (
      (λ i. record { alphabet = first i; modes = second i; switches = third i }),
      kept_then (kept_set b (b + 3) xs b u (omega arith) (omega arith)) (kept_then (kept_set b (b + 3) one (b + 1) v (omega arith) (omega arith)) (kept_set b (b + 3) two (b + 2) w (omega arith) (omega arith))),
    )

-- a component that was kept in three turns: its counts, then its modes, then its switches
pub component-whole : (s : List ℕ) (version n : ℕ) (x y z : List ℕ) (block : ℕ) → SmallCounts (counts_from x block) → Kept (block + 3) (block + 59) x y → Kept (block + 59) (block + 219) y z → component_from s version n z block ≡ record { alphabet = entry x block; modes = map (λ j. mode_from s version n y (mode_place block j)) (count_up 0 (entry x (block + 1))); switches = map (λ i. switch_from s version n z (switch_place block i)) (count_up 0 (entry x (block + 2))) }
unfolding component_from counts_from mode_place
component-whole s version n x y z block small k l =
    let a : entry z block ≡ entry x block = l.kept block (λ p q. omega arith) ∙ k.kept block (λ p q. omega arith) in
    let m : entry z (block + 1) ≡ entry x (block + 1) = l.kept (block + 1) (λ p q. omega arith) ∙ k.kept (block + 1) (λ p q. omega arith) in
    let w : entry z (block + 2) ≡ entry x (block + 2) = l.kept (block + 2) (λ p q. omega arith) ∙ k.kept (block + 2) (λ p q. omega arith) in
    let modes : map (λ j. mode_from s version n z (block + 3 + 7 * j)) (count_up 0 (entry z (block + 1))) ≡ map (λ j. mode_from s version n y (block + 3 + 7 * j)) (count_up 0 (entry x (block + 1))) =
    ap (λ (v : ℕ). map (λ j. mode_from s version n z (block + 3 + 7 * j)) (count_up 0 v)) m
    ∙ same-list (λ j. mode_from s version n z (block + 3 + 7 * j)) (λ j. mode_from s version n y (block + 3 + 7 * j)) (entry x (block + 1)) (λ j h. mode-same s version n y z (block + 3 + 7 * j) (λ i p q. l.kept i (λ u v. omega (arith, small.most)))) in
    let switches : map (λ j. switch_from s version n z (switch_place block j)) (count_up 0 (entry z (block + 2))) ≡ map (λ j. switch_from s version n z (switch_place block j)) (count_up 0 (entry x (block + 2))) =
    ap (λ (v : ℕ). map (λ j. switch_from s version n z (switch_place block j)) (count_up 0 v)) w in
    λ i. record { alphabet = a i; modes = modes i; switches = switches i }

-- the counts of the components that were read stay small
abbrev pub Blocks : List ℕ → ℕ → Type 0
Blocks xs count = (i : ℕ) → i < count → (entry xs (component_place i + 1) ≤ 8) × (entry xs (component_place i + 2) ≤ 32)

pub length-list : {A : Type 0} (f : ℕ → A) (k n : ℕ) → length (map f (count_up k n)) ≡ n
unfolding count_up
length-list f k zero = refl
length-list f k (suc n) = ap suc (length-list f (suc k) n)

block-small : (s : List ℕ) (version n : ℕ) (ys : List ℕ) (block place next : ℕ) → read_component version n s place ≡ got (component_from s version n ys block) next → (entry ys (block + 1) ≤ 8) × (entry ys (block + 2) ≤ 32)
unfolding component_from
block-small s version n ys block place next e =
    let g = (component-gives version n).holds s place (component_from s version n ys block) next e in (
      subst (λ (x : ℕ). x ≤ 8) (length-list (λ j. mode_from s version n ys (mode_place block j)) 0 (entry ys (block + 1))) g.most,
      subst (λ (x : ℕ). x ≤ 32) (length-list (λ i. switch_from s version n ys (switch_place block i)) 0 (entry ys (block + 2))) g.few,
    )

pub blocks-next : (s : List ℕ) (version n : ℕ) (xs ys : List ℕ) (k place next : ℕ) → Blocks xs k → Kept (16 + 219 * k) (16 + 219 * k + 219) xs ys → read_component version n s place ≡ got (component_from s version n ys (16 + 219 * k)) next → Blocks ys (k + 1)
unfolding component_place
blocks-next s version n xs ys k place next old w e i h = go (eq-or-lt_of_le (le-before i k h))
  where
    le-before : (i k : ℕ) → i < k + 1 → i ≤ k
    le-before i k h = omega arith

    go : (i ≡ k) ⊎ (i < k) → (entry ys (16 + 219 * i + 1) ≤ 8) × (entry ys (16 + 219 * i + 2) ≤ 32)
    go (inl q) = subst (λ (j : ℕ). (entry ys (16 + 219 * j + 1) ≤ 8) × (entry ys (16 + 219 * j + 2) ≤ 32)) (sym q) (block-small s version n ys (16 + 219 * k) place next e)
    go (inr l) = (
      subst (λ (x : ℕ). x ≤ 8) (sym (w.kept (16 + 219 * i + 1) (λ p q. omega arith))) (old i l).0,
      subst (λ (x : ℕ). x ≤ 32) (sym (w.kept (16 + 219 * i + 2) (λ p q. omega arith))) (old i l).1,
    )
