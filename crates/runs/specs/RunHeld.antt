-- What the contracts of run marking name besides the definitions of 01: a run as the code holds it, with its values in a lent slice, and how
-- far its marking has come. Assumes nothing.
use Rattle.std.specs.Prelude.{Result, Ok, Err, List, ℕ, ◌*◌, ◌≤◌, ℤ, length}
use Rattle.formats.specs.RunSheet.{read_opening}
use Rattle.fields.specs.Causes.{number_of}
use Rattle.runs.specs.declared.RunMarked.{RunMarked}
use Rattle.runs.specs.declared.Stopped.{Stopped}
use Rattle.rules.specs.Runs.{State}
use Rattle.papers.specs.Standing.{KnownModes}
use Rattle.steps.specs.Held.{state_in, SmallValues}
use Rattle.rules.specs.Marking.{Marked, passed, stopped, mark_steps, mark_opening}
use Rattle.models.specs.Index.{entry, model_from}
use Rattle.rules.specs.declared.Answer.{Answer}

-- how far the marking of a run has come: its steps passed so far, or it has stopped
unfoldable pub marked_as : List ℕ → List ℕ → Result RunMarked Stopped → List ℤ → Marked State
marked_as model index (Ok r) state = passed (state_in model index r.modes state) r.place r.done
marked_as model index (Err s) state = stopped (number_of s.refusal.0) s.refusal.1 s.done

-- its modes are those of a location of the model, its values in the slice as they are read, with room behind them for those after a step
-- and their change, and its place is in the sheet
pub record RunStands (index sheet : List ℕ) (r : RunMarked) (state : List ℤ) : Type 0 where
  pub known : KnownModes index r.modes
  pub small : SmallValues (entry index 0) state
  pub room : 3 * entry index 0 ≤ length state
  pub placed : r.place ≤ length sheet

-- a run that has stopped: the values reached are kept, with as much room behind them, and the place of the refusal is in the sheet
pub record StopStands (index sheet : List ℕ) (s : Stopped) (state : List ℤ) : Type 0 where
  pub small : SmallValues (entry index 0) state
  pub room : 3 * entry index 0 ≤ length state
  pub placed : s.refusal.1 ≤ length sheet

-- so many steps more, from where a run stands
abbrev pub steps_from : List ℕ → List ℕ → ℕ → RunMarked → List ℤ → ℕ → List ℕ → Marked State
steps_from model index q r state steps sheet = mark_steps (model_from model index) q (state_in model index r.modes state) steps sheet r.place r.done

-- the answer on a run sheet whose own fields begin here: its opening
abbrev pub marked_body : List ℕ → List ℕ → List ℕ → ℕ → Answer
marked_body model index sheet place = mark_opening (model_from model index) sheet (read_opening (model_from model index) sheet place)
