-- The input is cut within its length, and its parts are the two sheets. Assumes nothing.
use Rattle.std.proofs.Common.{◌≡◌, ◌∙◌, arith}
use Rattle.rules.specs.Program.{refused_line, mark_line, printed}
use Rattle.marking.specs.Lines.{line_of}
use Rattle.marking.proofs.TextLaws.{refused-short}
use Rattle.marking.proofs.ProgramLaws.{cut-within, line-long, line-cut}
use Rattle.marking.proofs.program.mark_input.Goals.{After-mark_sheets}
use Rattle.marking.proofs.program.mark_input.Goals as goal

pub returns-then-input-gt65536-clause-line : goal.returns-then-input-gt65536-clause-line
unfolding line_of refused_line
returns-then-input-gt65536-clause-line c = line-long c.args.input.now c.if-input-gt65536.true

pub returns-then-input-gt65536-clause-upper_bound : goal.returns-then-input-gt65536-clause-upper_bound
unfolding printed
returns-then-input-gt65536-clause-upper_bound c = rw (← line-long c.args.input.now c.if-input-gt65536.true) (refused-short 1 0 0 0 0 (omega arith) (omega arith) (omega arith) (omega arith) (omega arith))

pub split_at-requires : goal.split_at-requires
split_at-requires c = omega (arith, c.first_length.ensures, cut-within c.args.input.now)

told : (c : After-mark_sheets) → line_of c.mark_sheets.result ≡ mark_line c.args.input.now
told c =
    c.mark_sheets.ensures.line
    ∙ rw (c.split_at.ensures.front, c.split_at.ensures.back, c.first_length.ensures) (line-cut c.args.input.now c.if-input-gt65536.false)

pub returns-clause-line : goal.returns-clause-line
returns-clause-line c = told c

pub returns-clause-upper_bound : goal.returns-clause-upper_bound
unfolding printed
returns-clause-upper_bound c = rw (← told c) c.mark_sheets.ensures.upper_bound
