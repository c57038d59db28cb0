-- A word, five numbers, the newline, one behind the other. Assumes nothing.
use mathlib.Core.Path.{◌≡◌}
use mathlib.Core.List.{List, [], ◌∷◌, ◌++◌, append_assoc}
use Prim.Native.Nat.{ℕ}
use native.Mathlib.Omega.{arith}
use Rattle.rules.specs.Program.{decimal, numbered}
use Rattle.marking.proofs.BufferLaws.{written-first, written_then, written-so}
use Rattle.marking.proofs.text.put_refused.Goals as goal

regrouped : (w a b c d e f : List ℕ) → (((((w ++ a) ++ b) ++ c) ++ d) ++ e) ++ f ≡ w ++ (a ++ (b ++ (c ++ (d ++ (e ++ f)))))
regrouped w a b c d e f = simp append_assoc

pub returns : goal.returns
unfolding numbered
returns c =
    let a = c.args in
    let word = c.put_bytes-at in
    let n1 = c.put_number-first in
    let n2 = c.put_number-second in
    let n3 = c.put_number-third in
    let n4 = c.put_number-fourth in
    let n5 = c.put_number-fifth in
    let line = c.put_byte in record {
      written = written-so (regrouped a.word.now (32 ∷ decimal a.number) (32 ∷ decimal a.sheet) (32 ∷ decimal a.place) (32 ∷ decimal a.done) (32 ∷ decimal a.score) (10 ∷ []))
          (written_then (10 ∷ []) (written_then (32 ∷ decimal a.score) (written_then (32 ∷ decimal a.done) (written_then (32 ∷ decimal a.place) (written_then (32 ∷ decimal a.sheet) (written_then (32 ∷ decimal a.number) (written-first a.text.now word.new.out a.word.now word.result word.ensures) n1.ensures.value) n2.ensures.value) n3.ensures.value) n4.ensures.value) n5.ensures.value) line.ensures);
      upper_bound = omega (arith, c.requires, word.ensures.0, n1.ensures.upper_bound, n2.ensures.upper_bound, n3.ensures.upper_bound, n4.ensures.upper_bound, n5.ensures.upper_bound, line.ensures.0);
    }
