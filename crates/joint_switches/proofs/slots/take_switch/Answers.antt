-- By cases: a line is put, or nothing is changed. Assumes nothing.
use mathlib.Core.Path.{sym, ◌∙◌}
use native.Mathlib.Omega.{arith}
use Rattle.joint_switches.proofs.TableLaws.{switch-within}
use Rattle.joint_switches.proofs.LineLaws.{landing-fits, not_taken, line_taken}
use Rattle.joint_switches.proofs.slots.take_switch.Goals as goal

pub returns-then-not-leaves_by : goal.returns-then-not-leaves_by
returns-then-not-leaves_by c =
    let a = c.args in let both = not_taken a.s.now a.index.now a.part a.i a.at a.ways.now (sym c.leaves_by.ensures ∙ c.if-not-leaves_by.true) in record { value = both.0; ways_after = both.1 }

pub overflow_mul-landing : goal.overflow_mul-landing
overflow_mul-landing c =
    let a = c.args in
    let p = c.requires in
    omega (arith, landing-fits p.good_index.0 a.part a.i p.good_index.1 p.i_in_bounds c.target_in.result c.target_in.ensures)

pub overflow_add-landing : goal.overflow_add-landing
overflow_add-landing c =
    let a = c.args in
    let p = c.requires in
    omega (arith, landing-fits p.good_index.0 a.part a.i p.good_index.1 p.i_in_bounds c.target_in.result c.target_in.ensures)

pub overflow_cast-ways : goal.overflow_cast-ways
overflow_cast-ways c =
    let p = c.requires in
    omega (arith, switch-within p.good_index.0 c.args.part.k c.args.i p.good_index.1.inside p.i_in_bounds)

pub overflow_cast-ways-3 : goal.overflow_cast-ways-3
overflow_cast-ways-3 c =
    let a = c.args in
    let p = c.requires in
    omega (arith, landing-fits p.good_index.0 a.part a.i p.good_index.1 p.i_in_bounds c.target_in.result c.target_in.ensures)

pub returns : goal.returns
returns c =
    let a = c.args in
    let p = c.requires in let both = line_taken p.good_index.0 a.part a.i p.good_index.1 p.i_in_bounds a.at a.ways.now c.target_in.result c.target_in.ensures (sym c.leaves_by.ensures ∙ c.if-not-leaves_by.false) in record { value = both.0; ways_after = both.1 }
