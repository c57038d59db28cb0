-- What the contracts of marking certificates name: where marking stands, and the answer from its proofs on and from its body on.
-- Assumes nothing.
use Rattle.rules.specs.Marking.{Marked, passed, stopped, answer, refused_score, mark_proofs, close_certificate, mark_regions}
use Rattle.certificates.specs.declared.Marking.{Marking}
use Rattle.certificates.specs.declared.Failed.{Failed}
use Rattle.std.specs.Prelude.{Result, Ok, Err, ◌≡◌, Bool, List, ℕ, ◌+◌, ◌*◌, ◌≤◌, eqb, ℤ, pos, length, replicate}
use Rattle.formats.specs.Joint.{count_up, join_all, joints_of}
use Rattle.hypotheses.specs.declared.Group.{Group}
use Rattle.hypotheses.specs.Listing.{Task, mark_tasks, HereIn, joint_tasks_for}
use Rattle.certificates.specs.declared.Leaving.{Leaving}
use Rattle.formats.specs.Certificate.{read_regions}
use Rattle.models.specs.Index.{entry, components_from, model_from}
use Rattle.fields.specs.Causes.{number_of}
use Rattle.rules.specs.declared.Answer.{Answer}
use Rattle.papers.specs.Paper.{obligations_for}
use Rattle.formats.specs.Versions.{row_bytes}

-- where marking stands: the place reached, or the number and place of what failed; and how much passed
unfoldable pub stands_at : Result Marking Failed → Marked (Unit {0})
stands_at (Ok m) = passed tt m.place m.done
stands_at (Err f) = stopped (number_of f.refusal.0) f.refusal.1 f.done

-- what is still to prove, marked from where marking stands
abbrev pub marked_from : List Task → List ℕ → Marking → Marked (Unit {0})
marked_from left second from = mark_tasks left second from.place from.done

-- marking goes on: it stands within the sheet, and no more proofs have passed than bytes were read
pub record Underway (second : List ℕ) (m : Marking) : Type 0 where
  pub within : m.place ≤ length second
  pub few : m.done ≤ m.place

-- the sums of all unknowns are 0
pub record Fresh (sums : List ℤ) : Type 0 where
  pub zeros : sums ≡ replicate 17 (pos 0)

-- where the row of a group's goal stands
unfoldable pub goal_place : Group → ℕ → ℕ → ℕ
goal_place g n goal = g.from + row_bytes g.version n * goal

-- a region without rows
unfoldable pub rowless : List ℕ → ℕ → Bool
rowless regions l = eqb (entry regions (2 * l + 1)) 0

-- the proofs of joint switches from a location can go on: its own segments stand in the table
pub record Ready (model index second regions : List ℕ) (from : Leaving) (table : List ℕ) (sums : List ℤ) : Type 0 where
  pub long : 96 ≤ length table
  pub here : HereIn model index regions from.location from.here table
  pub underway : Underway second from.marking
  pub fresh : Fresh sums

-- what all joint switches from a location have to prove, event by event
unfoldable pub leaving_tasks : List ℕ → List ℕ → List ℕ → List ℕ → ℕ → List Task
leaving_tasks model index second regions location =
    join_all (λ e. joint_tasks_for model index second regions (joints_of (components_from model index) location e)) (count_up 0 16)

-- the answer where marking stopped, of so many obligations
abbrev pub stopped_answer : Failed → ℕ → Answer
stopped_answer failed total = answer (number_of failed.refusal.0) 1 failed.refusal.1 failed.done (refused_score failed.done total)

-- the answer on a certificate whose proofs begin here
abbrev pub marked_rest : List ℕ → List ℕ → List ℕ → List ℕ → ℕ → ℕ → Answer
marked_rest model index second regions locations at =
    let all = obligations_for model index second regions locations in
    close_certificate (length all) second (mark_proofs all second at 0)

-- the answer on one whose own fields begin here: its regions
abbrev pub marked_body : List ℕ → List ℕ → List ℕ → ℕ → Answer
marked_body model index second place = mark_regions (model_from model index) second (read_regions (model_from model index) second place)
