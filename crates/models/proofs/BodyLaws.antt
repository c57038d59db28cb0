-- The body, read part by part into an index: how the answers of the parts make the answer of the whole. Assumes nothing.
use mathlib.Core.Path.{◌≡◌, refl, sym, ap, ap₂, ◌∙◌, subst}
use mathlib.Core.List.{List, map}
use Prim.Native.Nat.{ℕ, ◌+◌, ◌*◌, ◌≤◌, ◌<◌}
use native.Mathlib.Omega.{arith}
use lib.ListN.{length, set, length-set}
use Rattle.farkas.specs.Lists.{All}
use Rattle.fields.proofs.AnswerLaws.{Next}
use Rattle.formats.specs.Reading.{got, refused, Reader, ◌>>=◌, give, u8, within, below, many}
use Rattle.formats.specs.Model.{Component, Unsafe, Model, read_component, read_unsafe, read_model_body}
use Rattle.formats.specs.Joint.{count_up}
use Rattle.models.specs.Index.{entry, owner_place, component_place, unsafe_place, mode_place, switch_place, mode_from, switch_from, component_from, unsafe_from, components_from, model_from, paper_in, Totals, read_totals, totals_from, BodyParts, read_parts, parts_from, Kept}
use Rattle.fields.specs.Answers.{got_as}
use Rattle.formats.proofs.FieldLaws.{range-read}
use Rattle.formats.proofs.Gives.{passes, bind-got, got-value, gives-many}
use Rattle.formats.proofs.Members.{all_in, in_map, in_count}
use Rattle.formats.proofs.WellFormed.{component-gives}
use Rattle.fields.proofs.Skipping.{bind-refused}
use Rattle.fields.proofs.ChainLaws.{last-got, bind_assoc, bind-same, give-bind}
use Rattle.models.proofs.IndexLaws.{entry-same, entry_other}
use Rattle.models.proofs.ComponentLaws.{length-list, component-same}
use Rattle.fields.proofs.ReadLoop.{up_to, up-to-same}

-- the three counts
module _ (s : List ℕ) (at : ℕ) where
  pub totals-first : (number place : ℕ) → within 1 8 u8 s at ≡ refused number place → read_totals s at ≡ refused number place
  unfolding read_totals
  totals-first number place e = bind-refused (within 1 8 u8) _ s at e

  module _ (n second : ℕ) (one : within 1 8 u8 s at ≡ got n second) where
    pub totals-second : (number place : ℕ) → within 1 4 u8 s second ≡ refused number place → read_totals s at ≡ refused number place
    unfolding read_totals
    totals-second number place e = bind-got (within 1 8 u8) _ s at one (bind-refused (within 1 4 u8) _ s second e)

    module _ (c third : ℕ) (two : within 1 4 u8 s second ≡ got c third) where
      pub totals-third : (number place : ℕ) → within 0 16 u8 s third ≡ refused number place → read_totals s at ≡ refused number place
      unfolding read_totals
      totals-third number place e = bind-got (within 1 8 u8) _ s at one (bind-got (within 1 4 u8) _ s second two (bind-refused (within 0 16 u8) _ s third e))

      pub totals-read : (conditions next : ℕ) → within 0 16 u8 s third ≡ got conditions next → read_totals s at ≡ got (record { variables = n; components = c; conditions = conditions }) next
      unfolding read_totals give
      totals-read conditions next e = bind-got (within 1 8 u8) _ s at one (bind-got (within 1 4 u8) _ s second two (bind-got (within 0 16 u8) _ s third e refl))

pub totals-put : (xs : List ℕ) (u v w : ℕ) → 2 < length xs → totals_from (set (set (set xs 0 u) 1 v) 2 w) ≡ record { variables = u; components = v; conditions = w }
unfolding totals_from
totals-put xs u v w h =
    let one = set xs 0 u in
    let two = set one 1 v in
    let l₁ : 1 < length one = simp length-set (omega arith) in
    let l₂ : 2 < length two = simp length-set (omega arith) in
    let first : entry (set two 2 w) 0 ≡ u = entry_other two 2 0 w (λ q. omega arith) ∙ entry_other one 1 0 v (λ q. omega arith) ∙ entry-same xs 0 u (omega arith) in
    let second : entry (set two 2 w) 1 ≡ v = entry_other two 2 1 w (λ q. omega arith) ∙ entry-same one 1 v l₁ in
    let third : entry (set two 2 w) 2 ≡ w = entry-same two 2 w l₂ in
    λ i. record { variables = first i; components = second i; conditions = third i }

-- what the counts tell
pub record SmallTotals (t : Totals) : Type 0 where
  pub least : 1 ≤ t.variables
  pub most : t.variables ≤ 8
  pub some : 1 ≤ t.components
  pub few : t.components ≤ 4
  pub conditions : t.conditions ≤ 16

pub totals-small : (s : List ℕ) (at : ℕ) (t : Totals) (next : ℕ) → read_totals s at ≡ got t next → SmallTotals t
unfolding read_totals ◌>>=◌ give
totals-small s at t next e =
    let one = passes (within 1 8 u8 s at) (λ n. within 1 4 u8 >>= λ c. within 0 16 u8 >>= λ u. give (record { variables = n; components = c; conditions = u })) s t next e in
    let two = passes (within 1 4 u8 s one.place) (λ c. within 0 16 u8 >>= λ u. give (record { variables = one.value; components = c; conditions = u })) s t next one.second in
    let three = passes (within 0 16 u8 s two.place) (λ u. give (record { variables = one.value; components = two.value; conditions = u })) s t next two.second in
    let n = range-read u8 1 8 s at one.value one.place one.first in
    let c = range-read u8 1 4 s one.place two.value two.place two.first in
    let u = range-read u8 0 16 s two.place three.value three.place three.first in
    subst SmallTotals (got-value three.second) (record { least = n.low; most = n.high; some = c.low; few = c.high; conditions = u.high })

-- components and unsafe conditions
module _ (version n c conditions : ℕ) (s : List ℕ) (at : ℕ) where
  pub parts_first : (number place : ℕ) → many c (read_component version n) s at ≡ refused number place → read_parts version n c conditions s at ≡ refused number place
  unfolding read_parts
  parts_first number place e = bind-refused (many c (read_component version n)) _ s at e

  pub parts-read : (components : List Component) (second : ℕ) → many c (read_component version n) s at ≡ got components second → (unsafe : List Unsafe) (x : Next) → got_as unsafe x ≡ many conditions (read_unsafe version n components) s second → got_as (record { components = components; unsafe = unsafe }) x ≡ read_parts version n c conditions s at
  unfolding read_parts
  parts-read components second one unsafe x e =
      last-got (many conditions (read_unsafe version n components)) (λ v. record { components = components; unsafe = v }) s second unsafe x e
      ∙ sym (bind-got (many c (read_component version n)) _ s at one refl)

-- the whole body
module _ (version paper : ℕ) (s : List ℕ) (at : ℕ) where
  after : Totals → Reader Model
  after t =
      many t.variables (below t.components u8) >>= λ owners.
      read_parts version t.variables t.components t.conditions >>= λ p.
      give (record { version = version; paper = paper; variables = t.variables; owners = owners; components = p.components; unsafe = p.unsafe })

  body-parts : read_model_body version paper s at ≡ (read_totals >>= after) s at
  unfolding read_model_body read_totals read_parts after
  body-parts =
      sym
      (bind_assoc (within 1 8 u8) _ after s at
      ∙ bind-same (within 1 8 u8) _ _ s at
      (λ n p.
      bind_assoc (within 1 4 u8) _ after s p
      ∙ bind-same (within 1 4 u8) _ _ s p
      (λ c q.
      bind_assoc (within 0 16 u8) _ after s q
      ∙ bind-same (within 0 16 u8) _ _ s q
      (λ u k.
      give-bind (record { variables = n; components = c; conditions = u }) after s k
      ∙ bind-same (many n (below c u8)) _ _ s k
      (λ o l.
      bind_assoc (many c (read_component version n)) _ (λ p. give (record { version = version; paper = paper; variables = n; owners = o; components = p.components; unsafe = p.unsafe })) s l
      ∙ bind-same (many c (read_component version n)) _ _ s l
      (λ cs i.
      bind_assoc (many u (read_unsafe version n cs)) _ (λ p. give (record { version = version; paper = paper; variables = n; owners = o; components = p.components; unsafe = p.unsafe })) s i
      ∙ bind-same (many u (read_unsafe version n cs)) _ _ s i (λ us j. give-bind (record { components = cs; unsafe = us }) (λ p. give (record { version = version; paper = paper; variables = n; owners = o; components = p.components; unsafe = p.unsafe })) s j)))))))

  pub body-first : (number place : ℕ) → read_totals s at ≡ refused number place → read_model_body version paper s at ≡ refused number place
  body-first number place e = body-parts ∙ bind-refused read_totals after s at e

  module _ (t : Totals) (second : ℕ) (one : read_totals s at ≡ got t second) where
    pub body-second : (number place : ℕ) → many t.variables (below t.components u8) s second ≡ refused number place → read_model_body version paper s at ≡ refused number place
    unfolding after
    body-second number place e = body-parts ∙ bind-got read_totals after s at one (bind-refused (many t.variables (below t.components u8)) _ s second e)

    pub body-read : (owners : List ℕ) (third : ℕ) → many t.variables (below t.components u8) s second ≡ got owners third → (p : BodyParts) (x : Next) → got_as p x ≡ read_parts version t.variables t.components t.conditions s third → got_as (record { version = version; paper = paper; variables = t.variables; owners = owners; components = p.components; unsafe = p.unsafe }) x ≡ read_model_body version paper s at
    unfolding after
    body-read owners third two p x e =
        last-got (read_parts version t.variables t.components t.conditions) (λ v. record { version = version; paper = paper; variables = t.variables; owners = owners; components = v.components; unsafe = v.unsafe }) s third p x e
        ∙ sym (body-parts ∙ bind-got read_totals after s at one (bind-got (many t.variables (below t.components u8)) _ s second two refl))

-- components that were read have small counts
pub all_list : {A : Type 0} {P : A → Type 0} (f : ℕ → A) (n : ℕ) → All P (map f (count_up 0 n)) → (i : ℕ) → i < n → P (f i)
all_list f n h i b = all_in h (in_map f (in_count 0 n i (omega arith) (omega arith)))

pub blocks-read : (s : List ℕ) (version n c at : ℕ) (ys : List ℕ) (next : ℕ) → many c (read_component version n) s at ≡ got (map (λ k. component_from s version n ys (component_place k)) (count_up 0 c)) next → (k : ℕ) → k < c → (entry ys (component_place k + 1) ≤ 8) × (entry ys (component_place k + 2) ≤ 32)
unfolding component_from
blocks-read s version n c at ys next e k h =
    let block = component_place k in
    let g = all_list (λ k. component_from s version n ys (component_place k)) c ((gives-many c (component-gives version n)).holds s at (map (λ k. component_from s version n ys (component_place k)) (count_up 0 c)) next e).1 k h in (
      subst (λ (x : ℕ). x ≤ 8) (length-list (λ j. mode_from s version n ys (mode_place block j)) 0 (entry ys (block + 1))) g.most,
      subst (λ (x : ℕ). x ≤ 32) (length-list (λ i. switch_from s version n ys (switch_place block i)) 0 (entry ys (block + 2))) g.few,
    )

-- components are the same where only later numbers have changed
pub components-kept : (s : List ℕ) (version n c : ℕ) (xs ys : List ℕ) → c ≤ 4 → ((k : ℕ) → k < c → (entry xs (component_place k + 1) ≤ 8) × (entry xs (component_place k + 2) ≤ 32)) → Kept 892 988 xs ys → map (λ k. component_from s version n ys (component_place k)) (count_up 0 c) ≡ map (λ k. component_from s version n xs (component_place k)) (count_up 0 c)
unfolding up_to component_place
components-kept s version n c xs ys few small w =
    up-to-same (λ k. component_from s version n ys (component_place k)) (λ k. component_from s version n xs (component_place k)) c
    (λ k h. component-same s version n xs ys (16 + 219 * k) (small k h).0 (small k h).1 (λ i p q. w.kept i (λ u v. omega arith)))

-- the whole model, where version, counts and owners were kept before
pub model-whole : (version paper : ℕ) (s : List ℕ) (x y z : List ℕ) (owners : List ℕ) → version ≡ entry x 11 → paper ≡ paper_in x → owners ≡ map (λ v. entry y (owner_place v)) (count_up 0 (entry x 0)) → Kept 3 11 x y → Kept 16 988 y z → entry x 0 ≤ 8 → model_from s z ≡ record { version = version; paper = paper; variables = entry x 0; owners = owners; components = (parts_from s version (entry x 0) (entry x 1) (entry x 2) z).components; unsafe = (parts_from s version (entry x 0) (entry x 1) (entry x 2) z).unsafe }
unfolding model_from components_from parts_from owner_place up_to
model-whole version paper s x y z owners h j e k l most =
    let v : entry z 11 ≡ version = l.kept 11 (λ p q. omega arith) ∙ k.kept 11 (λ p q. omega arith) ∙ sym h in
    let n : entry z 0 ≡ entry x 0 = l.kept 0 (λ p q. omega arith) ∙ k.kept 0 (λ p q. omega arith) in
    let c : entry z 1 ≡ entry x 1 = l.kept 1 (λ p q. omega arith) ∙ k.kept 1 (λ p q. omega arith) in
    let u : entry z 2 ≡ entry x 2 = l.kept 2 (λ p q. omega arith) ∙ k.kept 2 (λ p q. omega arith) in
    let os : map (λ v. entry z (3 + v)) (count_up 0 (entry z 0)) ≡ owners =
    ap (λ (m : ℕ). map (λ v. entry z (3 + v)) (count_up 0 m)) n ∙ up-to-same (λ v. entry z (3 + v)) (λ v. entry y (3 + v)) (entry x 0) (λ v h. l.kept (3 + v) (λ p q. omega arith)) ∙ sym e in
    let cs : map (λ k. component_from s (entry z 11) (entry z 0) z (component_place k)) (count_up 0 (entry z 1)) ≡ map (λ k. component_from s version (entry x 0) z (component_place k)) (count_up 0 (entry x 1)) =
    ap (λ (w : ℕ). map (λ k. component_from s w (entry z 0) z (component_place k)) (count_up 0 (entry z 1))) v
    ∙ ap (λ (m : ℕ). map (λ k. component_from s version m z (component_place k)) (count_up 0 (entry z 1))) n
    ∙ ap (λ (m : ℕ). map (λ k. component_from s version (entry x 0) z (component_place k)) (count_up 0 m)) c in
    let us : map (λ i. unsafe_from s (entry z 11) (entry z 0) (entry z 1) z (unsafe_place i)) (count_up 0 (entry z 2)) ≡ map (λ i. unsafe_from s version (entry x 0) (entry x 1) z (unsafe_place i)) (count_up 0 (entry x 2)) =
    ap (λ (w : ℕ). map (λ i. unsafe_from s w (entry z 0) (entry z 1) z (unsafe_place i)) (count_up 0 (entry z 2))) v
    ∙ ap (λ (m : ℕ). map (λ i. unsafe_from s version m (entry z 1) z (unsafe_place i)) (count_up 0 (entry z 2))) n
    ∙ ap (λ (m : ℕ). map (λ i. unsafe_from s version (entry x 0) m z (unsafe_place i)) (count_up 0 (entry z 2))) c
    ∙ ap (λ (m : ℕ). map (λ i. unsafe_from s version (entry x 0) (entry x 1) z (unsafe_place i)) (count_up 0 m)) u in
    let high : entry z 12 ≡ entry x 12 = l.kept 12 (λ p q. omega arith) ∙ k.kept 12 (λ p q. omega arith) in
    let low : entry z 13 ≡ entry x 13 = l.kept 13 (λ p q. omega arith) ∙ k.kept 13 (λ p q. omega arith) in
    let p : entry z 12 * 65536 + entry z 13 ≡ paper = ap₂ (λ (a b : ℕ). a * 65536 + b) high low ∙ sym j in
    λ i. record { version = v i; paper = p i; variables = n i; owners = os i; components = cs i; unsafe = us i }
