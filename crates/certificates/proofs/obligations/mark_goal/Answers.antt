-- A goal's proof is that of its task. Assumes nothing.
use Rattle.std.proofs.Common.{OnOk, Result, Ok, Err, ◌≡◌, ◌+◌, ◌*◌, ◌≤◌, List, length, ℕ, refl, sym, ap, ◌∙◌, arith, subst}
use Rattle.formats.specs.Versions.{row_bytes}
use Rattle.papers.specs.Paper.{held_next}
use Rattle.hypotheses.specs.declared.Group.{Group}
use Rattle.hypotheses.specs.Tables.{mark_with}
use Rattle.sums.specs.Summing.{rows_in, goal_at}
use Rattle.certificates.specs.Passed.{goal_place}
use Rattle.certificates.proofs.FreshLaws.{fresh-part, fresh-again}
use Rattle.certificates.proofs.MarkLaws.{proof-task, goal-low}
use Rattle.certificates.proofs.obligations.mark_goal.Goals as goal

pub goal_place-row-requires : goal.goal_place-row-requires
goal_place-row-requires c =
    let most = c.requires.model_len_bound in
    let good = c.requires.good_group in
    (most.1.1.0, (omega (arith, good.1.0, good.0.counted), goal-low c.args.goal most.1.1.0 most.1.0 good.1.0 good.0))

pub mark_proof-requires-clause-in_bounds : goal.mark_proof-requires-clause-in_bounds
mark_proof-requires-clause-in_bounds c =
    let good = c.requires.good_group in
    (c.requires.model_len_bound.1.1.1, (good.0, record { zeros = fresh-part good.1.1 c.args.group.width good.0.width }))

pub mark_proof-requires-clause-n_in_bounds : goal.mark_proof-requires-clause-n_in_bounds
unfolding goal_place
mark_proof-requires-clause-n_in_bounds c =
    let good = c.requires.good_group in
    λ z. subst (λ (place : ℕ). place + row_bytes c.args.group.version c.args.n ≤ length c.args.second.now) (sym c.goal_place-row.ensures) (one-row c.args.group.from c.args.group.version c.args.n c.args.goal (length c.args.second.now) (good.0.goals z c.args.goal good.1.0))
  where
    one-row : (from version n goal most : ℕ) → from + row_bytes version n * (goal + 1) ≤ most → from + row_bytes version n * goal + row_bytes version n ≤ most
    one-row from version n goal most h = omega (arith, h)

-- the proof of a goal, by where its row stands
at-goal : (model second : List ℕ) (n : ℕ) (table : List ℕ) (g : Group) (goal p : ℕ) {place : ℕ} → goal_place g n goal ≡ place → held_next (mark_with (rows_in model second n table g) g.zero (goal_at second n g (g.from + row_bytes g.version n * goal)) second p) ≡ held_next (mark_with (rows_in model second n table g) g.zero (goal_at second n g place) second p)
unfolding goal_place
at-goal model second n table g goal p e = ap (λ (k : ℕ). held_next (mark_with (rows_in model second n table g) g.zero (goal_at second n g k) second p)) e

pub returns-clause-value : goal.returns-clause-value
returns-clause-value c =
    let a = c.args in
    c.mark_proof.ensures.value
    ∙ sym (at-goal a.model.now a.second.now a.n a.table.now a.group a.goal a.place (sym c.goal_place-row.ensures))
    ∙ ap held_next (proof-task a.model.now a.second.now a.n a.table.now a.group a.goal a.second.now a.place c.requires.good_group.1.0)

pub returns-clause-fresh : goal.returns-clause-fresh
returns-clause-fresh c =
    let good = c.requires.good_group in
    passes c.mark_proof.result (λ end e. fresh-again good.1.1 c.args.group.width good.0.width c.mark_proof.new.sums (c.mark_proof.ensures.by_index end e).zeros)
  where
    passes : {A E B : Type 0} (r : Result A E) → ((a : A) → r ≡ Ok a → B) → OnOk r B
    passes (Ok a) f = f a refl
    passes (Err e) f = tt
