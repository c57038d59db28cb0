-- The place after the blanks from here on is the place after all of them. Assumes nothing.
use mathlib.Core.Path.{◌≡◌, sym, ◌∙◌}
use native.Mathlib.Omega.{arith}
use Rattle.typed.specs.Signs.{sign_at}
use Rattle.typed.proofs.ReadLaws.{skip-more, skip_stop, skip-end}
use Rattle.typed.proofs.reading.skip.Goals as goal

pub loop-place-preserved : goal.loop-place-preserved
unfolding sign_at
loop-place-preserved c = record {
  rest = c.loop-place.invariant.rest ∙ skip-more _ _ _ c.sign_of.ensures c.loop-place-test.true c.in-Blank.is;
  end = omega (arith, c.loop-place-test.true);
}

pub returns-in_default : goal.returns-in_default
unfolding sign_at
returns-in_default c = sym (c.loop-place.invariant.rest ∙ skip_stop _ _ c.sign_of.result c.sign_of.ensures c.loop-place-test.true c.in_default.not-Blank)

pub returns : goal.returns
returns c =
    let l = c.loop-place in
    let end : c.max.result ≡ l.place = omega (arith, c.max.ensures, l.invariant.end, l.auto.place, c.loop-place-test.false) in
    end ∙ sym (l.invariant.rest ∙ skip-end _ _ c.loop-place-test.false)
