-- The copy whole: what an open model gives the walk, its body by its parts, and its header. Assumes nothing.
use mathlib.Core.Path.{◌≡◌, refl, sym, ap, ap₂, ◌∙◌, subst}
use mathlib.Core.Bool.{Bool, true, false, cond, ◌||◌}
use mathlib.Core.List.{List, [], ◌∷◌, ◌++◌, map}
use Prim.Native.Nat.{ℕ, ◌+◌, ◌*◌, ◌-◌, ◌≤◌, ◌<◌}
use native.Mathlib.Omega.{arith}
use borrow.Author.Tests.{le-leb, lt-leb}
use lib.Dec.{T, ltb, eqb, leb, ltb→lt, eqb→eq}
use lib.ListN.{length}
use Rattle.std.specs.Prelude.{Option, None, Some, Err}
use Rattle.farkas.specs.Lists.{All, none, more}
use Rattle.farkas.specs.Sizes.{Bytes}
use Rattle.formats.specs.Versions.{has_paper}
use Rattle.formats.specs.Reading.{got}
use Rattle.formats.specs.Model.{Model, Component, Unsafe}
use Rattle.formats.specs.Joint.{count_up, join_all}
use Rattle.formats.specs.declared.Limits.{Limits}
use Rattle.formats.specs.ModelSheet.{read_model}
use Rattle.formats.proofs.Members.{all_in, in_map, in_count}
use Rattle.models.specs.Index.{entry, version_in, paper_in, owner_place, component_place, mode_place, unsafe_place, mode_from, component_from, components_from, unsafe_from, model_from}
use Rattle.rules.specs.Opening.{ModelOpened, opens, shut, open_model}
use Rattle.rules.proofs.ListFacts.{joined-alike}
use Rattle.rules.proofs.Opening.{Begins, begins}
use Rattle.rules.specs.declared.Answer.{Answer}
use Rattle.rules.specs.Marking.{answer, with_model}
use Rattle.papers.specs.Opening.{model_answer, opened_model, ModelOpen}
use Rattle.papers.proofs.OpenLaws.{numbered, model-refused}
use Rattle.writing.specs.Changed.{changed, changed_component, changed_unsafe}
use Rattle.writing.specs.Writing.{half, word, write_component, write_unsafe, write_fields, paper_bytes, write_paper, write_body, write_model}
use Rattle.writing.proofs.ReadsLaws.{Paired, paired_none, paired-more}
use Rattle.writing.proofs.Writable.{WritableMode, WritableComponent, WritableUnsafe, Writable, mode_fits}
use Rattle.writing.proofs.RoundTrip.{written-size}
use Rattle.writing.proofs.FromSheets.{writable, all-bytes}
use Rattle.buffers.specs.Over.{over}
use Rattle.buffers.specs.Written.{Written}
use Rattle.buffers.proofs.OverLaws.{over-then, over-front}
use Rattle.buffers.proofs.WritingLaws.{left-all, left-none}
use Rattle.fair_models.specs.FairCopy.{fair_condition, fair_model, fair_copy, copy_answer, fair_answer, copy_over, buffer_by, buffer_after}
use Rattle.fair_models.proofs.CopyMeans.{copy-short}
use Rattle.fair_copies.specs.Copyable.{Copyable, entries, component_bytes}
use Rattle.fair_copies.specs.Items.{condition_items, item_bytes, items_bytes}
use Rattle.fair_copies.proofs.PartLaws.{total, unsafe-item}
use Rattle.fair_copies.proofs.EachPut.{joined-map}

-- an open model was read
record Read (limits : Limits) (model : List ℕ) (m : Model) : Type 0 where
  end : ℕ
  reads : read_model limits model ≡ got m end

shut-opens : {A : Type 0} {number sheet at : ℕ} {m : Model} → ◌≡◌ {A = ModelOpened} (shut number sheet at) (opens m) → A
shut-opens e = let z : ◌≡◌ {A = ℕ} 0 1 = cc in absurd (omega arith)

read_of : (limits : Limits) (model : List ℕ) (m : Model) → open_model limits model ≡ opens m → Read limits model m
read_of limits model m o = go (begins limits model)
  where
    go : Begins limits model (open_model limits model) → Read limits model m
    go (Begins.unfit e p) = shut-opens (sym p ∙ o)
    go (Begins.unread number at t e p) = shut-opens (sym p ∙ o)
    go (Begins.begun n end t e p) =
        let same : n ≡ m = cc in
        record { end = end; reads = e ∙ ap (λ (x : Model). got x end) same }

-- the copy is no longer than the model
pub open-short : (limits : Limits) (model index : List ℕ) → Bytes model → ModelOpen limits model index → length (fair_copy (model_from model index)) ≤ length model
open-short limits model index b o =
    let r = read_of limits model (model_from model index) o.opened in
    copy-short limits model (model_from model index) r.end (all-bytes model b) r.reads

-- numbers of an open model that are bytes
start_small : (model index : List ℕ) → Writable (model_from model index) → (k j : ℕ) → k < entry index 1 → j < entry index (component_place k + 1) → entry index (mode_place (component_place k) j) < 256
unfolding model_from components_from component_from mode_from
start_small model index w k j h l =
    let c : WritableComponent (version_in index) (entry index 0) (component_from model (version_in index) (entry index 0) index (component_place k))
    = all_in w.components (in_map (λ i. component_from model (version_in index) (entry index 0) index (component_place i)) (in_count 0 (entry index 1) k (omega arith) (omega (arith, h)))) in
    let m : WritableMode (version_in index) (entry index 0) (mode_from model (version_in index) (entry index 0) index (mode_place (component_place k) j))
    = all_in c.modes (in_map (λ i. mode_from model (version_in index) (entry index 0) index (mode_place (component_place k) i)) (in_count 0 (entry index (component_place k + 1)) j (omega arith) (omega (arith, l)))) in
    omega (arith, m.start)

fits-small : {version n : ℕ} (c : Component) (v : ℕ) → WritableComponent version n c → T (mode_fits c v) → v < 256
fits-small c v w t = go (ltb v (length c.modes)) refl t
  where
    go : (b : Bool) → ltb v (length c.modes) ≡ b → T (b || eqb v 255) → v < 256
    go true e t = omega (arith, w.most, ltb→lt v (length c.modes) (subst T (sym e) tt))
    go false e t = omega (arith, eqb→eq v 255 t)

paired-small : {version n : ℕ} {components : List Component} {vs : List ℕ} → All (WritableComponent version n) components → Paired (λ c v. T (mode_fits c v)) components vs → All (λ v. v < 256) vs
paired-small none paired_none = none
paired-small (more {a = c} w ws) (paired-more {b = v} t ts) = more {a = v} (fits-small c v w t) (paired-small ws ts)

asked-small : (model index : List ℕ) → Writable (model_from model index) → (u k : ℕ) → u < entry index 2 → k < entry index 1 → entry index (unsafe_place u + k) < 256
unfolding model_from unsafe_from
asked-small model index w u k h l =
    let x : WritableUnsafe (version_in index) (entry index 0) (components_from model index) (unsafe_from model (version_in index) (entry index 0) (entry index 1) index (unsafe_place u))
    = all_in w.unsafe (in_map (λ i. unsafe_from model (version_in index) (entry index 0) (entry index 1) index (unsafe_place i)) (in_count 0 (entry index 2) u (omega arith) (omega (arith, h)))) in
    all_in (paired-small w.components x.modes) (in_map (λ i. entry index (unsafe_place u + i)) (in_count 0 (entry index 1) k (omega arith) (omega (arith, l))))

pub copyable : (limits : Limits) (model index : List ℕ) → Bytes model → ModelOpen limits model index → Copyable model index
copyable limits model index b o =
    let r = read_of limits model (model_from model index) o.opened in
    let w = writable limits model (model_from model index) r.end (all-bytes model b) r.reads in
    record { good = o.accepted.good; short = o.accepted.short; starts = start_small model index w; asked = asked-small model index w }

-- The paper number, by whether the version has one
pub paper-none : (version paper : ℕ) (out : List ℕ) (at : ℕ) → has_paper version ≡ false → Written out at (write_paper version paper) out at
unfolding write_paper paper_bytes
paper-none version paper out at e = subst (λ (b : Bool). Written out at (paper_bytes b paper) out at) (sym e) (left-none (left-all out at []))

pub paper-put : (version paper : ℕ) {out : List ℕ} {at : ℕ} {after : List ℕ} {next : ℕ} → has_paper version ≡ true → Written out at (word paper) after next → Written out at (write_paper version paper) after next
unfolding write_paper paper_bytes
paper-put version paper {out} {at} {after} {next} e w = subst (λ (b : Bool). Written out at (paper_bytes b paper) after next) (sym e) w

-- The body: its paper number, then its fields
pub body-parts : (model index : List ℕ) → write_body (fair_model (model_from model index)) ≡ write_paper (version_in index) (paper_in index) ++ write_fields (fair_model (model_from model index))
unfolding write_body fair_model changed model_from
body-parts model index = refl

-- the fields: counts, owners, components, unsafe conditions
pub fields-parts : (model index : List ℕ) → write_fields (fair_model (model_from model index)) ≡ entries index 0 3 ++ (entries index 3 (entry index 0) ++ (join_all (component_bytes model index) (count_up 0 (entry index 1)) ++ items_bytes model index (condition_items index)))
unfolding write_fields fair_model changed model_from components_from owner_place count_up
fields-parts model index =
    let v = version_in index in
    let n = entry index 0 in
    let component : ℕ → Component = λ k. component_from model v n index (component_place k) in
    let unsafe : ℕ → Unsafe = λ u. unsafe_from model v n (entry index 1) index (unsafe_place u) in
    let components = map component (count_up 0 (entry index 1)) in
    let conditions = map unsafe (count_up 0 (entry index 2)) in
    let owners = entries index 3 n in
    ap₂ (λ (a b : ℕ). n ∷ a ∷ b ∷ (owners ++ (join_all (write_component v) (map (changed_component fair_condition) components) ++ join_all (write_unsafe v) (map (changed_unsafe fair_condition) conditions))))
    (total (changed_component fair_condition) component (entry index 1))
    (total (changed_unsafe fair_condition) unsafe (entry index 2))
    ∙ ap₂ (λ (a b : List ℕ). n ∷ entry index 1 ∷ entry index 2 ∷ (owners ++ (a ++ b)))
    (joined-map (write_component v) (changed_component fair_condition) components ∙ joined-map (λ c. write_component v (changed_component fair_condition c)) component (count_up 0 (entry index 1)))
    (joined-map (write_unsafe v) (changed_unsafe fair_condition) conditions
    ∙ joined-map (λ u. write_unsafe v (changed_unsafe fair_condition u)) unsafe (count_up 0 (entry index 2))
    ∙ joined-alike (λ u. write_unsafe v (changed_unsafe fair_condition (unsafe u))) (λ u. item_bytes model index (condition_items index) (892 + 6 * u)) (count_up 0 (entry index 2)) (unsafe-item model index))

-- how long the copy is: its header, then its body
pub copy-length : (model index : List ℕ) (end : ℕ) → end ≡ 4 + length (write_body (fair_model (model_from model index))) → end ≡ length (fair_copy (model_from model index))
unfolding fair_copy
copy-length model index end e = e ∙ sym (written-size (fair_model (model_from model index)))

-- The header, written once the body is: its length, its version, its kind
pub headed : (m : Model) (out body lengthed versioned after : List ℕ) (end next last done size version : ℕ) → Written out 4 (write_body (fair_model m)) body end → size ≡ end - 2 → Written body 0 (half size) lengthed next → version ≡ m.version → (last ≡ 2 + 1) × (versioned ≡ over lengthed 2 (version ∷ [])) → (done ≡ 3 + 1) × (after ≡ over versioned 3 (1 ∷ [])) → Written out 0 (fair_copy m) after end
unfolding fair_copy write_model half fair_model changed
headed m out body lengthed versioned after end next last done size version b s h v p k =
    let bytes = write_body (fair_model m) in
    let total : size ≡ 2 + length bytes = omega (arith, s, b.ends) in
    let front : List ℕ = half size ++ ((version ∷ []) ++ (1 ∷ [])) in
    let three : versioned ≡ over body 0 (half size ++ (version ∷ [])) = p.1 ∙ ap (λ (l : List ℕ). over l 2 (version ∷ [])) h.holds ∙ over-then body 0 (half size) (version ∷ []) in
    let four : after ≡ over body 0 front = k.1 ∙ ap (λ (l : List ℕ). over l 3 (1 ∷ [])) three ∙ over-then body 0 (half size ++ (version ∷ [])) (1 ∷ []) in
    record {
      ends = omega (arith, b.ends);
      holds = four ∙ ap (λ (l : List ℕ). over l 0 front) b.holds ∙ over-front out front bytes ∙ ap₂ (λ (x y : ℕ). over out 0 (half x ++ (((y ∷ []) ++ (1 ∷ [])) ++ bytes))) total v;
    }

-- whether it fits
pub fits_all : (copied room : ℕ) → copied ≤ room → ◌≡◌ {A = Option ℕ} None (cond (leb copied room) None (Some copied))
fits_all copied room h = sym (ap (λ (b : Bool). cond b None (Some copied)) (le-leb copied room h))

pub fits_not : (copied room : ℕ) → room < copied → ◌≡◌ {A = Option ℕ} (Some copied) (cond (leb copied room) None (Some copied))
fits_not copied room h = sym (ap (λ (b : Bool). cond b None (Some copied)) (lt-leb copied room h))

pub lacks : (copied room needed : ℕ) → ◌≡◌ {A = Option ℕ} (Some needed) (cond (leb copied room) None (Some copied)) → (leb copied room ≡ false) × (needed ≡ copied)
lacks copied room needed e = go (leb copied room) refl e
  where
    go : (b : Bool) → leb copied room ≡ b → ◌≡◌ {A = Option ℕ} (Some needed) (cond b None (Some copied)) → (leb copied room ≡ false) × (needed ≡ copied)
    go true f e = let z : ◌≡◌ {A = ℕ} 0 1 = cc in absurd (omega arith)
    go false f e = let q : needed ≡ copied = cc in (f, q)

pub lacks-nothing : (copied room : ℕ) → ◌≡◌ {A = Option ℕ} None (cond (leb copied room) None (Some copied)) → leb copied room ≡ true
lacks-nothing copied room e = go (leb copied room) refl e
  where
    go : (b : Bool) → leb copied room ≡ b → ◌≡◌ {A = Option ℕ} None (cond b None (Some copied)) → leb copied room ≡ true
    go true f e = f
    go false f e = let z : ◌≡◌ {A = ℕ} 0 1 = cc in absurd (omega arith)

-- what the call hands back, each way
pub answer-short : (handed copied needed : ℕ) (b : Bool) → b ≡ false → needed ≡ copied → record { number = 15; sheet = 2; place = needed; done = 0; score = 0 } ≡ copy_answer handed copied b
unfolding copy_answer answer
answer-short handed copied needed b e q = ap (λ (p : ℕ). record { number = 15; sheet = 2; place = p; done = 0; score = 0 }) q ∙ sym (ap (copy_answer handed copied) e)

pub answer-copied : (handed copied written : ℕ) (b : Bool) → b ≡ true → written ≡ copied → record { number = 0; sheet = 0; place = handed; done = written; score = 0 } ≡ copy_answer handed copied b
unfolding copy_answer answer
answer-copied handed copied written b e q = ap (λ (p : ℕ). record { number = 0; sheet = 0; place = handed; done = p; score = 0 }) q ∙ sym (ap (copy_answer handed copied) e)

pub buffer-kept : (buffer copy : List ℕ) (b : Bool) → b ≡ false → buffer ≡ copy_over buffer copy b
unfolding copy_over
buffer-kept buffer copy b e = sym (ap (copy_over buffer copy) e)

pub buffer-copied : (buffer copy after : List ℕ) (b : Bool) → b ≡ true → after ≡ over buffer 0 copy → after ≡ copy_over buffer copy b
unfolding copy_over
buffer-copied buffer copy after b e q = q ∙ sym (ap (copy_over buffer copy) e)

-- and by how the model opens: a refusal leaves the buffer as it was
pub shut-buffer : (limits : Limits) (model buffer : List ℕ) (a : Answer) → model_answer (Err a) ≡ opened_model limits model → 1 ≤ a.number → buffer ≡ buffer_after limits model buffer
unfolding buffer_after buffer_by opened_model model_answer with_model answer
shut-buffer limits model buffer a e some = go (open_model limits model) e
  where
    go : (g : ModelOpened) → a ≡ with_model g (λ m. answer 0 0 0 0 0) → buffer ≡ buffer_by buffer g
    go (shut number sheet at) e = refl
    go (opens m) e = absurd (numbered e some refl)

abbrev answer_by : ℕ → ℕ → ModelOpened → Answer
answer_by handed room g = with_model g (λ m. copy_answer handed (length (fair_copy m)) (leb (length (fair_copy m)) room))

pub shut-answer : (limits : Limits) (model : List ℕ) (room : ℕ) (a : Answer) → model_answer (Err a) ≡ opened_model limits model → 1 ≤ a.number → a ≡ fair_answer limits model room
unfolding fair_answer with_model model_answer
shut-answer limits model room a e some = e ∙ model-refused limits model (answer_by (length model) room) (λ number sheet at. refl) (numbered e some)

pub open-answer : (limits : Limits) (model : List ℕ) (room : ℕ) (m : Model) → open_model limits model ≡ opens m → copy_answer (length model) (length (fair_copy m)) (leb (length (fair_copy m)) room) ≡ fair_answer limits model room
unfolding fair_answer with_model
open-answer limits model room m e = sym (ap (answer_by (length model) room) e)

pub open-buffer : (limits : Limits) (model buffer : List ℕ) (m : Model) → open_model limits model ≡ opens m → copy_over buffer (fair_copy m) (leb (length (fair_copy m)) (length buffer)) ≡ buffer_after limits model buffer
unfolding buffer_after buffer_by
open-buffer limits model buffer m e = sym (ap (buffer_by buffer) e)
