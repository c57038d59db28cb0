use mathlib.Core.Path.{◌≡◌}
use lib.ListN.{drop}
use Rattle.farkas.specs.Lists.{every}
use Rattle.farkas.proofs.Fill.{filled}
use Rattle.typed.specs.Forms.{plus, s32}
use Rattle.typed.proofs.forms.join.Given as goal

abbrev pub invariant-loop-i : goal.invariant-loop-i
invariant-loop-i l = record {
  so_far : l.coefficients ≡ filled (plus l.m l.initial.coefficients l.from) l.initial.coefficients l.i;
  rest : every s32 (plus l.m l.initial.coefficients l.from) ≡ every s32 (drop l.i (plus l.m l.initial.coefficients l.from));
}
