-- A word, a number, the newline, one behind the other. Assumes nothing.
use mathlib.Core.List.{[], ◌∷◌, append_assoc}
use native.Mathlib.Omega.{arith}
use Rattle.rules.specs.Program.{decimal, numbered}
use Rattle.marking.proofs.BufferLaws.{written-first, written_then, written-so}
use Rattle.marking.proofs.text.put_done.Goals as goal

pub returns : goal.returns
unfolding numbered
returns c =
    let a = c.args in
    let word = c.put_bytes-at in
    let number = c.put_number-end in
    let line = c.put_byte in record {
      written = written-so (append_assoc a.word.now (32 ∷ decimal a.done) (10 ∷ []))
          (written_then (10 ∷ []) (written_then (32 ∷ decimal a.done) (written-first a.text.now word.new.out a.word.now word.result word.ensures) number.ensures.value) line.ensures);
      upper_bound = omega (arith, c.requires, word.ensures.0, number.ensures.upper_bound, line.ensures.0);
    }
