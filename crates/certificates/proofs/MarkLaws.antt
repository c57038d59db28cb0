-- Marking, proof by proof: what one proof passed or failed does to the whole, and how far reading has come. Assumes nothing.
use mathlib.Core.Path.{◌≡◌, refl, sym, ap, ap₂, ◌∙◌, subst}
use mathlib.Core.Bool.{Bool, true, false, cond}
use mathlib.Core.List.{List, [], ◌∷◌, ◌++◌, map}
use Prim.Native.Nat.{ℕ, zero, suc, ◌+◌, ◌*◌, ◌≤◌, ◌<◌}
use native.Mathlib.Numerals.{add-one}
use native.Mathlib.Omega.{arith}
use lib.Dec.{leb}
use lib.ListN.{length, get_or, drop, take, replicate, length-map, length-replicate}
use borrow.Author.Tests.{leb-true}
use Rattle.farkas.specs.Rows.{Row, zero_row}
use Rattle.farkas.specs.Farkas.{Proof, farkas_test}
use Rattle.formats.specs.Reading.{Got, got, refused, ◌>>=◌, big_endian, give, field, u8, u32, must, within}
use Rattle.formats.specs.Rows.{SheetRow}
use Rattle.fields.specs.Places.{row_at, rows_from}
use Rattle.formats.specs.Certificate.{read_entries, read_proof}
use Rattle.formats.proofs.Gives.{passes, tested, got-next}
use Rattle.formats.proofs.Placed.{Fine, Placed, placed-bind, placed-give, placed-within, placed-u8, placed-entries, placed-proof}
use Rattle.rules.specs.Obligations.{Obligation, zero_only, on_next}
use Rattle.rules.specs.Marking.{Marked, passed, stopped, test_proof, mark_proof, mark_proofs}
use Rattle.hypotheses.specs.Tables.{hypotheses_from, hypothesis_rows, test_with, mark_with}
use Rattle.papers.specs.Paper.{held_next}
use Rattle.hypotheses.specs.Listing.{Task, no_task, task_of, tasks, tasks_from, tasks_of, goals_of, GoodGroup, mark_task, mark_tasks}
use Rattle.sums.specs.Summing.{goal_at}
use Rattle.hypotheses.specs.declared.Group.{Group}
use Rattle.formats.proofs.JointCounts.{mapped_at}
use Rattle.fields.proofs.ConditionLaws.{length-rows}
use Rattle.formats.specs.Versions.{row_bytes}

-- obligations are marked as what they have to prove
same_test : (o : Obligation) (p : ℕ) (g : Got Proof) → test_proof o p g ≡ test_with (hypothesis_rows o.hypotheses) o.goal p g
unfolding test_proof test_with hypothesis_rows
same_test o p (refused number at) = refl
same_test o p (got x after) = refl

mark-task : (o : Obligation) (s : List ℕ) (p : ℕ) → mark_proof o s p ≡ mark_with (hypothesis_rows o.hypotheses) (zero_only o.kind) o.goal s p
unfolding mark_proof mark_with hypothesis_rows
mark-task o s p =
    same_test o p (read_proof (length o.hypotheses) (zero_only o.kind) s p)
    ∙ ap (λ (n : ℕ). test_with (hypothesis_rows o.hypotheses) o.goal p (read_proof n (zero_only o.kind) s p)) (sym (length-map o.hypotheses (λ h. h.row)))

pub mark-tasks : (os : List Obligation) (s : List ℕ) (p d : ℕ) → mark_proofs os s p d ≡ mark_tasks (tasks os) s p d
unfolding mark_proofs mark_tasks mark_task tasks task_of
mark-tasks [] s p d = refl
mark-tasks (o ∷ rest) s p d =
    both (mark_proof o s p) (λ after. mark-tasks rest s after (suc d))
    ∙ ap (λ (g : Got Proof). elim g [ got x after ↦ mark_tasks (tasks rest) s after (suc d) | refused number at ↦ stopped number at d ]) (mark-task o s p)
  where
    both : (g : Got Proof) → ((after : ℕ) → mark_proofs rest s after (suc d) ≡ mark_tasks (tasks rest) s after (suc d)) → ◌≡◌ {A = Marked (Unit {0})} (elim g [ got x after ↦ mark_proofs rest s after (suc d) | refused number at ↦ stopped number at d ]) (elim g [ got x after ↦ mark_tasks (tasks rest) s after (suc d) | refused number at ↦ stopped number at d ])
    both (got x after) r = r after
    both (refused number at) r = refl

-- what was read is not refused
abbrev outcome : {A : Type 0} → Got A → ℕ
outcome (got a p) = 0
outcome (refused number p) = 1

no_value : {A : Type 0} {number place q : ℕ} {a : A} → ◌≡◌ {A = Got A} (refused number place) (got a q) → ⊥
no_value e = let z : ◌≡◌ {A = ℕ} 1 0 = ap outcome e in omega (arith, z)

-- a proof that passed, and one that failed
abbrev place_of : {A : Type 0} → Got A → ℕ
place_of (got a p) = p
place_of (refused number p) = p

abbrev number_told : {A : Type 0} → Got A → ℕ
number_told (got a p) = 0
number_told (refused number p) = number

pub record Went {A : Type 0} (g : Got A) (p : ℕ) : Type 0 where
  pub value : A
  pub here : g ≡ got value p

pub went : {A : Type 0} (g : Got A) (p : ℕ) → held_next g ≡ got tt p → Went g p
unfolding held_next
went (got a q) p e = record { value = a; here = ap (got a) (ap place_of e) }
went (refused number place) p e = absurd (no_value e)

pub stopped-at : {A : Type 0} (g : Got A) (number p : ℕ) → held_next g ≡ refused number p → g ≡ refused number p
unfolding held_next
stopped-at (got a q) number p e = absurd (no_value (sym e))
stopped-at (refused n q) number p e = ap₂ (λ (i j : ℕ). refused i j) (ap number_told e) (ap place_of e)

pub task-passed : (t : Task) (rest : List Task) (s : List ℕ) (p d q : ℕ) → held_next (mark_task t s p) ≡ got tt q → mark_tasks (t ∷ rest) s p d ≡ mark_tasks rest s q (d + 1)
unfolding mark_tasks
task-passed t rest s p d q e =
    ap (λ (g : Got Proof). elim g [ got x after ↦ mark_tasks rest s after (suc d) | refused number at ↦ stopped number at d ]) (went (mark_task t s p) q e).here
    ∙ ap (mark_tasks rest s q) (sym (add-one d))

pub task-failed : (t : Task) (rest : List Task) (s : List ℕ) (p d number at : ℕ) → held_next (mark_task t s p) ≡ refused number at → mark_tasks (t ∷ rest) s p d ≡ stopped number at d
unfolding mark_tasks
task-failed t rest s p d number at e =
    ap (λ (g : Got Proof). elim g [ got x after ↦ mark_tasks rest s after (suc d) | refused n q ↦ stopped n q d ]) (stopped-at (mark_task t s p) number at e)

-- how far a proof's reading has come
field-ends : (size : ℕ) (s : List ℕ) (p v q : ℕ) → field size s p ≡ got v q → (q ≡ p + size) × (p + size ≤ length s)
unfolding field
field-ends size s p v q e = go (leb (p + size) (length s)) refl e
  where
    go : (b : Bool) → leb (p + size) (length s) ≡ b → cond b (got (big_endian (take size (drop p s))) (p + size)) (refused 4 p) ≡ got v q → (q ≡ p + size) × (p + size ≤ length s)
    go true l e = (sym (got-next e), leb-true (p + size) (length s) l)
    go false l e = absurd (no_value e)

rest-placed : {least : ℕ} (hypotheses k : ℕ) → Placed {A = Proof} least (within 0 128 u8 >>= λ count. read_entries hypotheses 0 count >>= λ entries. give (record { k = k; entries = entries }))
rest-placed hypotheses k = placed-bind (placed-within 0 128 placed-u8) (λ count. placed-bind (placed-entries hypotheses 0 count) (λ entries. placed-give _))

pub proof-advances : (hypotheses : ℕ) (zero_k : Bool) (s : List ℕ) (p : ℕ) (x : Proof) (q : ℕ) → read_proof hypotheses zero_k s p ≡ got x q → (p < q) × (q ≤ length s)
unfolding read_proof ◌>>=◌ within must u32
proof-advances hypotheses zero_k s p x q e =
    let two = passes _ _ s x q e in
    let ends = field-ends 4 s p two.value two.place (tested _ 5 p (field 4 s p) two.value two.place two.first).read in
    let fine : Fine s two.place (got x q) = subst (Fine s two.place) two.second ((rest-placed {least = 0} hypotheses two.value).fine s two.place (omega arith) (omega (arith, ends.0, ends.1))) in
    (omega (arith, ends.0, fine.0), fine.1)

test-kept : (rows : List Row) (goal : Row) (p : ℕ) (g : Got Proof) (x : Proof) (q : ℕ) → test_with rows goal p g ≡ got x q → g ≡ got x q
unfolding test_with
test-kept rows goal p (refused number at) x q e = absurd (no_value e)
test-kept rows goal p (got y r) x q e = go (farkas_test rows goal y) e
  where
    go : (n : ℕ) → elim n [ zero ↦ got y r | suc k ↦ refused (suc k) p ] ≡ got x q → got y r ≡ got x q
    go zero e = e
    go (suc n) e = absurd (no_value e)

pub task-advances : (t : Task) (s : List ℕ) (p q : ℕ) → held_next (mark_task t s p) ≡ got tt q → (p < q) × (q ≤ length s)
unfolding mark_task mark_with
task-advances t s p q e =
    let w = went (mark_task t s p) q e in
    proof-advances (length t.rows) t.zero_k s p w.value q (test-kept t.rows t.goal p (read_proof (length t.rows) t.zero_k s p) w.value q w.here)

-- tasks in two parts
abbrev pub place_where : Marked (Unit {0}) → ℕ
place_where (passed u place done) = place
place_where (stopped number place done) = place

abbrev pub done_where : Marked (Unit {0}) → ℕ
done_where (passed u place done) = done
done_where (stopped number place done) = done

abbrev ends_where : Marked (Unit {0}) → ℕ
ends_where (passed u place done) = 0
ends_where (stopped number place done) = 1

pub not-passed : {number place done p d : ℕ} → ◌≡◌ {A = Marked (Unit {0})} (stopped number place done) (passed tt p d) → ⊥
not-passed h = let z : ◌≡◌ {A = ℕ} 1 0 = ap ends_where h in omega (arith, z)

pub parts-passed : (xs ys : List Task) (s : List ℕ) (p d q e : ℕ) → mark_tasks xs s p d ≡ passed tt q e → mark_tasks (xs ++ ys) s p d ≡ mark_tasks ys s q e
unfolding mark_tasks
parts-passed [] ys s p d q e h = ap₂ (mark_tasks ys s) (ap place_where h) (ap done_where h)
parts-passed (t ∷ xs) ys s p d q e h = go (mark_task t s p) (λ after. parts-passed xs ys s after (suc d) q e) h
  where
    go : (g : Got Proof) → ((after : ℕ) → mark_tasks xs s after (suc d) ≡ passed tt q e → mark_tasks (xs ++ ys) s after (suc d) ≡ mark_tasks ys s q e) → ◌≡◌ {A = Marked (Unit {0})} (elim g [ got x after ↦ mark_tasks xs s after (suc d) | refused number at ↦ stopped number at d ]) (passed tt q e) → ◌≡◌ {A = Marked (Unit {0})} (elim g [ got x after ↦ mark_tasks (xs ++ ys) s after (suc d) | refused number at ↦ stopped number at d ]) (mark_tasks ys s q e)
    go (got x after) r h = r after h
    go (refused number at) r h = absurd (not-passed h)

pub parts-stopped : (xs ys : List Task) (s : List ℕ) (p d number at e : ℕ) → mark_tasks xs s p d ≡ stopped number at e → mark_tasks (xs ++ ys) s p d ≡ stopped number at e
unfolding mark_tasks
parts-stopped [] ys s p d number at e h = absurd (not-passed (sym h))
parts-stopped (t ∷ xs) ys s p d number at e h = go (mark_task t s p) (λ after. parts-stopped xs ys s after (suc d) number at e) h
  where
    go : (g : Got Proof) → ((after : ℕ) → mark_tasks xs s after (suc d) ≡ stopped number at e → mark_tasks (xs ++ ys) s after (suc d) ≡ stopped number at e) → ◌≡◌ {A = Marked (Unit {0})} (elim g [ got x after ↦ mark_tasks xs s after (suc d) | refused n q ↦ stopped n q d ]) (stopped number at e) → ◌≡◌ {A = Marked (Unit {0})} (elim g [ got x after ↦ mark_tasks (xs ++ ys) s after (suc d) | refused n q ↦ stopped n q d ]) (stopped number at e)
    go (got x after) r h = r after h
    go (refused n q) r h = h

-- how far marking comes: what passed ends within the sheet, at least as many bytes on as proofs have passed; what failed has a number
abbrev pub Goes : List ℕ → Marked (Unit {0}) → Type 0
Goes s (passed u place done) = (place ≤ length s) × (done ≤ place)
Goes s (stopped number place done) = 1 ≤ number

pub refused-number : (t : Task) (s : List ℕ) (p number place : ℕ) → p ≤ length s → mark_task t s p ≡ refused number place → 1 ≤ number
unfolding mark_task mark_with test_with
refused-number t s p number place h e = go (read_proof (length t.rows) t.zero_k s p) ((placed-proof {least = 0} (length t.rows) t.zero_k).fine s p (omega arith) h) e
  where
    numbered : Got Proof → ℕ
    numbered (got x q) = 0
    numbered (refused n q) = n

    go : (g : Got Proof) → Fine s p g → test_with t.rows t.goal p g ≡ refused number place → 1 ≤ number
    go (refused n q) w e = omega (arith, w.0, ap numbered e)
    go (got x q) w e = by-test (farkas_test t.rows t.goal x) e
      where
        by-test : (k : ℕ) → ◌≡◌ {A = Got Proof} (elim k [ zero ↦ got x q | suc n ↦ refused (suc n) p ]) (refused number place) → 1 ≤ number
        by-test zero e = absurd (no_value (sym e))
        by-test (suc k) e = let z : suc k ≡ number = ap numbered e in omega (arith, z)

pub goes : (ts : List Task) (s : List ℕ) (p d : ℕ) → p ≤ length s → d ≤ p → Goes s (mark_tasks ts s p d)
unfolding mark_tasks held_next
goes [] s p d h l = (h, l)
goes (t ∷ ts) s p d h l = go (mark_task t s p) refl (λ q a b. goes ts s q (suc d) a b)
  where
    at : (x : Proof) (q : ℕ) → mark_task t s p ≡ got x q → held_next (mark_task t s p) ≡ got tt q
    at x q e = ap held_next e

    go : (g : Got Proof) → mark_task t s p ≡ g → ((q : ℕ) → q ≤ length s → suc d ≤ q → Goes s (mark_tasks ts s q (suc d))) → Goes s (elim g [ got x q ↦ mark_tasks ts s q (suc d) | refused number place ↦ stopped number place d ])
    go (got x q) e r = let w = task-advances t s p q (at x q e) in r q w.1 (omega (arith, w.0, l))
    go (refused number place) e r = refused-number t s p number place h e

-- the goals of a group, by their numbers
all-zero : (n i : ℕ) → get_or (replicate n zero_row) i zero_row ≡ zero_row
all-zero zero i = refl
all-zero (suc n) zero = refl
all-zero (suc n) (suc i) = all-zero n i

row-at : {B : Type 0} (f : SheetRow → B) (s : List ℕ) (version n p count j : ℕ) (d : B) → j < count → get_or (map f (rows_from s version n p count)) j d ≡ f (row_at s version n (p + row_bytes version n * j))
unfolding rows_from
row-at f s version n p zero j d h = absurd (omega (arith, h))
row-at f s version n p (suc count) zero d h = ap (λ (q : ℕ). f (row_at s version n q)) (first p version n)
  where
    first : (p version n : ℕ) → p ≡ p + row_bytes version n * zero
    first p version n = omega arith
row-at f s version n p (suc count) (suc j) d h = row-at f s version n (p + row_bytes version n) count j d (omega (arith, h)) ∙ ap (λ (q : ℕ). f (row_at s version n q)) (later p version n j)
  where
    later : (p version n j : ℕ) → p + row_bytes version n + row_bytes version n * j ≡ p + row_bytes version n * suc j
    later p version n j = omega arith

no-goal : (second : List ℕ) (n : ℕ) (g : Group) (goal : ℕ) → g.zero ≡ true → get_or (goals_of second n g) goal zero_row ≡ zero_row
unfolding goals_of
no-goal second n g goal e =
    ap (λ (b : Bool). get_or (elim b [ true ↦ replicate g.goals zero_row | false ↦ map (λ r. on_next g.shift r.row) (rows_from second g.version n g.from g.goals) ]) goal zero_row) e
    ∙ all-zero g.goals goal

row-goal : (second : List ℕ) (n : ℕ) (g : Group) (goal : ℕ) → g.zero ≡ false → goal < g.goals → get_or (goals_of second n g) goal zero_row ≡ on_next g.shift (row_at second g.version n (g.from + row_bytes g.version n * goal)).row
unfolding goals_of
row-goal second n g goal e h =
    ap (λ (b : Bool). get_or (elim b [ true ↦ replicate g.goals zero_row | false ↦ map (λ r. on_next g.shift r.row) (rows_from second g.version n g.from g.goals) ]) goal zero_row) e
    ∙ row-at (λ r. on_next g.shift r.row) second g.version n g.from g.goals goal zero_row h

-- each is the goal at its place
pub goal-at : (second : List ℕ) (n : ℕ) (g : Group) (goal : ℕ) → goal < g.goals → get_or (goals_of second n g) goal zero_row ≡ goal_at second n g (g.from + row_bytes g.version n * goal)
unfolding goal_at
goal-at second n g goal h = go g.zero refl
  where
    go : (b : Bool) → g.zero ≡ b → get_or (goals_of second n g) goal zero_row ≡ elim g.zero [ true ↦ zero_row | false ↦ on_next g.shift (row_at second g.version n (g.from + row_bytes g.version n * goal)).row ]
    go true e = no-goal second n g goal e ∙ sym (ap (λ (b : Bool). elim b [ true ↦ zero_row | false ↦ on_next g.shift (row_at second g.version n (g.from + row_bytes g.version n * goal)).row ]) e)
    go false e = row-goal second n g goal e h ∙ sym (ap (λ (b : Bool). elim b [ true ↦ zero_row | false ↦ on_next g.shift (row_at second g.version n (g.from + row_bytes g.version n * goal)).row ]) e)

-- the tasks of a group, by their numbers
zero-length : (second : List ℕ) (n : ℕ) (g : Group) → g.zero ≡ true → length (goals_of second n g) ≡ g.goals
unfolding goals_of
zero-length second n g e =
    ap (λ (b : Bool). length {A = Row} (elim b [ true ↦ replicate g.goals zero_row | false ↦ map (λ r. on_next g.shift r.row) (rows_from second g.version n g.from g.goals) ])) e
    ∙ length-replicate g.goals zero_row

row-length : (second : List ℕ) (n : ℕ) (g : Group) → g.zero ≡ false → length (goals_of second n g) ≡ g.goals
unfolding goals_of
row-length second n g e =
    ap (λ (b : Bool). length {A = Row} (elim b [ true ↦ replicate g.goals zero_row | false ↦ map (λ r. on_next g.shift r.row) (rows_from second g.version n g.from g.goals) ])) e
    ∙ length-map (rows_from second g.version n g.from g.goals) _
    ∙ length-rows second g.version n g.from g.goals

pub goals-length : (second : List ℕ) (n : ℕ) (g : Group) → length (goals_of second n g) ≡ g.goals
goals-length second n g = go g.zero refl
  where
    go : (b : Bool) → g.zero ≡ b → length (goals_of second n g) ≡ g.goals
    go true e = zero-length second n g e
    go false e = row-length second n g e

pub tasks-length : (model second : List ℕ) (n : ℕ) (table : List ℕ) (g : Group) → length (tasks_of model second n table g) ≡ g.goals
unfolding tasks_of tasks_from
tasks-length model second n table g = length-map (goals_of second n g) _ ∙ goals-length second n g

pub task-at : (model second : List ℕ) (n : ℕ) (table : List ℕ) (g : Group) (goal : ℕ) → goal < g.goals → get_or (tasks_of model second n table g) goal no_task ≡ record { rows = hypothesis_rows (hypotheses_from model second g.version n table g.segments); zero_k = g.zero; goal = get_or (goals_of second n g) goal zero_row }
unfolding tasks_of tasks_from
task-at model second n table g goal h = mapped_at _ (goals_of second n g) goal zero_row no_task (omega (arith, h, goals-length second n g))

-- a proof marked by its place is the task of its number
pub proof-task : (model second : List ℕ) (n : ℕ) (table : List ℕ) (g : Group) (goal : ℕ) (s : List ℕ) (p : ℕ) → goal < g.goals → mark_with (hypothesis_rows (hypotheses_from model second g.version n table g.segments)) g.zero (goal_at second n g (g.from + row_bytes g.version n * goal)) s p ≡ mark_task (get_or (tasks_of model second n table g) goal no_task) s p
unfolding mark_task
proof-task model second n table g goal s p h =
    ap (λ (r : Row). mark_with (hypothesis_rows (hypotheses_from model second g.version n table g.segments)) g.zero r s p) (sym (goal-at second n g goal h))
    ∙ ap (λ (t : Task). mark_task t s p) (sym (task-at model second n table g goal h))

-- the rows of goals lie within the sheet, or are none
pub goal-low : {model second : List ℕ} {n : ℕ} {table : List ℕ} {g : Group} (goal : ℕ) → n ≤ 8 → length second ≤ 32768 → goal < g.goals → GoodGroup model second n table g → g.from + row_bytes g.version n * goal ≤ 32768
goal-low {second = second} {n = n} {g = g} goal m s h good = go g.zero refl
  where
    less : (from version n goal most : ℕ) → from + row_bytes version n * (goal + 1) ≤ most → from + row_bytes version n * goal ≤ most
    less from version n goal most l = omega (arith, l)

    few : (from version n goal : ℕ) → from ≡ 0 → goal ≡ 0 → from + row_bytes version n * goal ≤ 32768
    few from version n goal e z = rw (e, z) (omega arith)

    go : (b : Bool) → g.zero ≡ b → g.from + row_bytes g.version n * goal ≤ 32768
    go true z = few g.from g.version n goal (good.none z).0 (omega (arith, h, (good.none z).1))
    go false z = less g.from g.version n goal 32768 (omega (arith, good.goals z goal h, s))
