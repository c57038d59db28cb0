-- The parts of a model, from numbers to the whole body, read back from what is written: the same but for where rows stand.
-- Assumes nothing.
use mathlib.Core.Path.{◌≡◌, refl, sym, ap, ◌∙◌, subst}
use mathlib.Core.Bool.{Bool, true, false, ◌||◌}
use mathlib.Core.List.{List, [], ◌∷◌, map, map-id}
use Prim.Native.Nat.{ℕ, ◌+◌, ◌*◌, ◌/◌, ◌%◌, ◌^◌, ◌<◌}
use native.Mathlib.Nat.{div-add-mod'}
use native.Mathlib.Omega.{arith}
use lib.Dec.{T, ltb, eqb}
use lib.IntN.{ℤ}
use lib.ListN.{length}
use Rattle.farkas.specs.Lists.{All, none, more}
use Rattle.formats.specs.Versions.{has_paper, strict_at}
use Rattle.formats.specs.Reading.{got, big_endian, signed, field, u8, u16, u32, s32, must, paper_if, read_paper}
use Rattle.formats.specs.Rows.{SheetRow, Condition, sheet_row, read_strict, read_row, read_condition}
use Rattle.formats.specs.Model.{Mode, Switch, Component, Unsafe, Model, read_mode, read_switch, read_component, read_unsafe, read_model_body}
use Rattle.writing.specs.Writing.{word, half, twos, write_number, write_mark, write_row, write_condition, write_mode, write_switch, write_component, write_unsafe, write_fields, paper_bytes, write_paper}
use Rattle.writing.specs.Changed.{changed_mode, changed_switch, changed_component, changed_unsafe, changed, unplaced, bare_rows, bare}
use Rattle.writing.proofs.ReadsLaws.{Reads, Paired, paired_none, paired-more, reads_then, reads-last, reads-give, reads_here, reads-field, reads-must, reads-tested, reads-within, reads-below, reads-many, reads_bytes, paired-map, paired-back, reads-each}
use Rattle.writing.proofs.Writable.{Fits, MarkFits, FitsRow, WritableCondition, initial_most, WritableMode, label_fits, WritableSwitch, WritableComponent, mode_fits, WritableUnsafe, PaperFits, Writable}
use Rattle.writing.proofs.ChangedJoints.{modes-kept}

-- what holds of each element by what held of it
all_so : {A : Type 0} {P Q : A → Type 0} {xs : List A} → ((a : A) → P a → Q a) → All P xs → All Q xs
all_so f none = none
all_so f (more {a = a} h hs) = more (f a h) (all_so f hs)

-- numbers: a u32 and a u16
word_back : (v : ℕ) → v < 2 ^ 32 → big_endian (word v) ≡ v
unfolding big_endian word
word_back v h =
    omega (arith, div-add-mod' v 256, div-add-mod' (v / 256) 256, div-add-mod' (v / 256 / 256) 256, div-add-mod' (v / 256 / 256 / 256) 256)

pub half_back : (v : ℕ) → v < 65536 → big_endian (half v) ≡ v
unfolding big_endian half
half_back v h = omega (arith, div-add-mod' v 256, div-add-mod' (v / 256) 256)

reads_word : (v : ℕ) → v < 2 ^ 32 → Reads u32 (word v) (λ x. x ≡ v)
unfolding u32 word
reads_word v h =
    subst (λ (n : ℕ). Reads (field 4) (word v) (λ x. x ≡ n)) (word_back v h)
    (reads-field ((v / 256 / 256 / 256 % 256) ∷ (v / 256 / 256 % 256) ∷ (v / 256 % 256) ∷ (v % 256) ∷ []))

pub reads-half : (v : ℕ) → v < 65536 → Reads u16 (half v) (λ x. x ≡ v)
unfolding u16 half
reads-half v h =
    subst (λ (n : ℕ). Reads (field 2) (half v) (λ x. x ≡ n)) (half_back v h) (reads-field ((v / 256 % 256) ∷ (v % 256) ∷ []))

pub reads-number : (z : ℤ) → Fits z → Reads s32 (write_number z) (λ v. v ≡ z)
unfolding s32 write_number
reads-number z f =
    reads-last (reads_word (twos z) f.small) (λ n e. reads-give (signed n) (ap signed e ∙ f.back))

-- a row: its mark, its coefficients, its bound
reads-mark : (version : ℕ) (strict : Bool) → MarkFits version strict → Reads (read_strict version) (write_mark version strict) (λ b. b ≡ strict)
unfolding read_strict strict_at write_mark
reads-mark version strict e = record {
  value = λ before after. false;
  reads = λ before after. ap (λ (p : ℕ). got false p) (nought (length before));
  right = λ before after. sym e;
}
  where
    nought : (n : ℕ) → n ≡ n + 0
    nought n = omega arith

pub reads-row : (version n : ℕ) (r : SheetRow) → FitsRow version n r → Reads (read_row version n) (write_row version r) (λ x. unplaced x.row ≡ unplaced r.row)
unfolding read_row write_row
reads-row version n r f =
    reads_then reads_here
    (λ p u.
    reads_then (reads-mark version r.row.strict f.mark)
    (λ strict t.
    reads_then
    (reads-many write_number (λ z. z) n r.row.coefficients (sym f.wide) (all_so reads-number f.coefficients))
    (λ xs same.
    reads-last (reads-number r.row.bound f.bound)
    (λ b e.
    let coefficients : xs ≡ r.row.coefficients = sym (map-id xs) ∙ same ∙ map-id r.row.coefficients in
    reads-give (sheet_row version n p strict xs b)
    (ap unplaced (λ i. record { coefficients = coefficients i; bound = e i; strict = t i }))))))

-- a condition
pub reads-condition : (version most n : ℕ) (rows : Condition) → WritableCondition version most n rows → Reads (read_condition version most n) (write_condition version rows) (λ x. bare_rows x ≡ bare_rows rows)
unfolding read_condition write_condition bare_rows
reads-condition version most n rows w =
    reads_then (reads-within 0 most (length rows) (omega arith) w.few)
    (λ count e. reads-many (write_row version) (λ r. unplaced r.row) count rows e (all_so (reads-row version n) w.fit))

-- a mode
pub reads-mode : (version n : ℕ) (m : Mode) → WritableMode version n m → Reads (read_mode version n) (write_mode version m) (λ x. changed_mode bare_rows x ≡ changed_mode bare_rows m)
unfolding read_mode write_mode changed_mode
reads-mode version n m w =
    reads_then (reads-within 0 1 m.start (omega arith) w.start)
    (λ start s.
    reads_then
    (reads-condition version (initial_most start) n m.initial (subst (λ (k : ℕ). WritableCondition version (initial_most k) n m.initial) (sym s) w.initial))
    (λ initial i.
    reads_then (reads-condition version 8 n m.invariant w.invariant)
    (λ invariant j.
    reads-last (reads-condition version 8 n m.flow w.flow)
    (λ flow k. reads-give _ (λ x. record { start = s x; initial = i x; invariant = j x; flow = k x })))))

-- a switch
pub reads-switch : (version n alphabet modes : ℕ) (w : Switch) → WritableSwitch version n alphabet modes w → Reads (read_switch version n alphabet modes) (write_switch version w) (λ x. changed_switch bare_rows x ≡ changed_switch bare_rows w)
unfolding read_switch write_switch changed_switch
reads-switch version n alphabet modes w h =
    reads_then (reads-below modes w.source h.source)
    (λ source i.
    reads_then (reads-below modes w.target h.target)
    (λ target j.
    reads_then
    (reads-must (label_fits alphabet) 6 (reads-within 0 15 w.label (omega arith) h.most) (λ v e. subst (λ (k : ℕ). T (label_fits alphabet k)) (sym e) h.label))
    (λ label k.
    reads-last (reads-condition version 8 (2 * n) w.jump h.jump)
    (λ jump l. reads-give _ (λ x. record { source = i x; target = j x; label = k x; jump = l x })))))

-- a component
pub reads-component : (version n : ℕ) (c : Component) → WritableComponent version n c → Reads (read_component version n) (write_component version c) (λ x. changed_component bare_rows x ≡ changed_component bare_rows c)
unfolding read_component write_component changed_component
reads-component version n c w =
    reads_then
    (reads-must (λ v. eqb (v % 2) 0) 5 (reads-half c.alphabet w.small) (λ v e. subst (λ (k : ℕ). T (eqb (k % 2) 0)) (sym e) w.even))
    (λ alphabet a.
    reads_then (reads-within 1 8 (length c.modes) w.least w.most)
    (λ mode_count i.
    reads_then (reads-within 0 32 (length c.switches) (omega arith) w.few)
    (λ switch_count j.
    reads_then (reads-many (write_mode version) (changed_mode bare_rows) mode_count c.modes i (all_so (reads-mode version n) w.modes))
    (λ modes k.
    reads-last
    (reads-many (write_switch version) (changed_switch bare_rows) switch_count c.switches j
    (all_so
    (λ x h.
    reads-switch version n alphabet mode_count x
    (subst (λ (q : ℕ). WritableSwitch version n q mode_count x) (sym a) (subst (λ (q : ℕ). WritableSwitch version n c.alphabet q x) (sym i) h)))
    w.switches))
    (λ switches l. reads-give _ (λ x. record { alphabet = a x; modes = k x; switches = l x }))))))

-- an unsafe condition, by components that are the same but for where their rows stand
mode-kept : (c : Component) (v : ℕ) → mode_fits (changed_component bare_rows c) v ≡ mode_fits c v
mode-kept c v = ap (λ (n : ℕ). ltb v n || eqb v 255) (modes-kept bare_rows c)

modes-same : (components others : List Component) (modes : List ℕ) → map (changed_component bare_rows) others ≡ map (changed_component bare_rows) components → Paired (λ c v. T (mode_fits c v)) components modes → Paired (λ c v. T (mode_fits c v)) others modes
modes-same components others modes e w =
    paired-back (changed_component bare_rows) (λ c v t. subst T (mode-kept c v) t) others
    (subst (λ xs. Paired (λ c v. T (mode_fits c v)) xs modes) (sym e) (paired-map (changed_component bare_rows) (λ c v t. subst T (sym (mode-kept c v)) t) w))

modes-read : {components : List Component} {modes : List ℕ} → Paired (λ c v. T (mode_fits c v)) components modes → Paired (λ c v. Reads (must (mode_fits c) 5 u8) (v ∷ []) (λ x. x ≡ v)) components modes
modes-read paired_none = paired_none
modes-read (paired-more {a = c} {b = v} t ts) = paired-more (reads-tested (mode_fits c) 5 v t) (modes-read ts)

pub reads-unsafe : (version n : ℕ) (components others : List Component) (u : Unsafe) → map (changed_component bare_rows) others ≡ map (changed_component bare_rows) components → WritableUnsafe version n components u → Reads (read_unsafe version n others) (write_unsafe version u) (λ x. changed_unsafe bare_rows x ≡ changed_unsafe bare_rows u)
unfolding read_unsafe write_unsafe changed_unsafe
reads-unsafe version n components others u e w =
    reads_then (reads-each (modes-read (modes-same components others u.modes e w.modes)))
    (λ modes i.
    reads-last (reads-condition version 8 n u.rows w.rows) (λ rows j. reads-give _ (λ x. record { modes = i x; rows = j x })))

-- a paper number
pub reads-paper : (version paper : ℕ) → PaperFits version paper → Reads (read_paper version) (write_paper version paper) (λ x. x ≡ paper)
unfolding read_paper write_paper paper_if paper_bytes
reads-paper version paper w = go (has_paper version) w.none
  where
    go : (b : Bool) → (b ≡ false → paper ≡ 0) → Reads (paper_if b) (paper_bytes b paper) (λ x. x ≡ paper)
    go true e = reads_word paper w.small
    go false e = reads-give 0 (sym (e refl))

-- a model's body behind it
pub reads-fields : (m : Model) → Writable m → Reads (read_model_body m.version m.paper) (write_fields m) (λ x. bare x ≡ bare m)
unfolding read_model_body write_fields bare changed
reads-fields m w =
    reads_then (reads-within 1 8 m.variables w.least w.most)
    (λ n i.
    reads_then (reads-within 1 4 (length m.components) w.some w.few)
    (λ c j.
    reads_then (reads-within 0 16 (length m.unsafe) (omega arith) w.conditions)
    (λ conditions k.
    reads_then
    (reads_bytes n m.owners (i ∙ sym w.owned) (all_so (λ v h. reads-below c v (subst (λ (q : ℕ). v < q) (sym j) h)) w.owners))
    (λ owners o.
    reads_then
    (reads-many (write_component m.version) (changed_component bare_rows) c m.components j
    (all_so (λ x h. reads-component m.version n x (subst (λ (q : ℕ). WritableComponent m.version q x) (sym i) h)) w.components))
    (λ components x.
    reads-last
    (reads-many (write_unsafe m.version) (changed_unsafe bare_rows) conditions m.unsafe k
    (all_so
    (λ u h. reads-unsafe m.version n m.components components u x (subst (λ (q : ℕ). WritableUnsafe m.version q m.components u) (sym i) h))
    w.unsafe))
    (λ unsafe y.
    reads-give _ (λ z. record { version = m.version; paper = m.paper; variables = i z; owners = o z; components = x z; unsafe = y z })))))))
