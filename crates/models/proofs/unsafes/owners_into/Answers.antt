-- The read-loop law: the owners so far, in front of those to come, are all of them. Assumes nothing.
use Rattle.std.proofs.Common.{rules, Err, ◌≡◌, refl, sym, ap, ◌∙◌}
use Prim.Native.Nat.{ℕ, ◌+◌}
use native.Mathlib.Omega.{arith}
use lib.ListN.{set, length-set}
use Rattle.formats.specs.Reading.{got, u8, below, many}
use Rattle.models.specs.Index.{entry, owner_place}
use Rattle.fields.specs.Answers.{got_as}
use Rattle.fields.proofs.AnswerLaws.{field-value, field-refused}
use Rattle.formats.proofs.FieldLaws.{count-read}
use Rattle.fields.proofs.AnswerLaws.{next-refused}
use Rattle.fields.specs.Causes.{number_of}
use Rattle.models.proofs.IndexLaws.{entry-same, entry_other, kept-none, kept_set, kept_then}
use Rattle.fields.proofs.ReadLoop.{up_to, reading-starts, reading-goes-on, reading-stops, reading-ends}
use Rattle.models.proofs.unsafes.owners_into.Goals as goal

pub loop-v-init : goal.loop-v-init
loop-v-init c =
    let a = c.args in
    let s = a.s.now in
    let r = below a.c u8 in
    (omega arith, (refl, (reading-starts r a.n s (many a.n r s a.at) (λ i. entry a.index.now (owner_place i)) a.at refl, kept-none 3 11 a.index.now)))

pub returns-in_err-owner : goal.returns-in_err-owner
unfolding got_as
returns-in_err-owner c =
    let a = c.args in
    let s = a.s.now in
    let r = below a.c u8 in
    let x = c.loop-v.index in
    let v = c.loop-v.v in
    let inv = c.loop-v.invariant in
    let whole = many a.n r s a.at in
    let same : c.from_residual.result ≡ Err c.in_err-owner.field-0.0 = search rules in
    record {
      result_after = next-refused _ same ∙ (reading-stops r a.n s whole (λ i. entry x (owner_place i)) v c.loop-v.place (number_of c.in_err-owner.field-0.0.0) c.in_err-owner.field-0.0.1 inv.1.1.0 c.loop-v-test.true
          (sym c.byte_below.ensures ∙ field-refused c.in_err-owner.was));
      kept = inv.1.1.1;
    }

pub overflow_cast-index : goal.overflow_cast-index
overflow_cast-index c =
    let a = c.args in
    let s = a.s.now in
    let r = below a.c u8 in
    let owner = c.in_ok-owner.owner in
    let next = c.in_ok-owner.next in
    let e : r s c.loop-v.place ≡ got owner next = sym c.byte_below.ensures ∙ field-value c.in_ok-owner.was in
    omega (arith, (count-read u8 a.c s c.loop-v.place owner next e).less, c.requires.n_bound)

pub overflow_add-index : goal.overflow_add-index
overflow_add-index c = omega (arith, c.requires.n_bound, c.loop-v-test.true)

pub offset_bounds-index-v : goal.offset_bounds-index-v
offset_bounds-index-v c = omega (arith, c.requires.n_bound, c.requires.sized.long, c.loop-v.invariant.1.0, c.loop-v-test.true)

pub bounds-index-v : goal.bounds-index-v
bounds-index-v c = omega (arith, c.requires.n_bound, c.requires.sized.long, c.loop-v.invariant.1.0, c.loop-v-test.true)

pub loop-v-preserved : goal.loop-v-preserved
unfolding owner_place
loop-v-preserved c =
    let a = c.args in
    let s = a.s.now in
    let r = below a.c u8 in
    let x = c.loop-v.index in
    let v = c.loop-v.v in
    let inv = c.loop-v.invariant in
    let whole = many a.n r s a.at in
    let owner = c.in_ok-owner.owner in
    let next = c.in_ok-owner.next in
    let e : r s c.loop-v.place ≡ got owner next = sym c.byte_below.ensures ∙ field-value c.in_ok-owner.was in
    let y = set x (3 + v) owner in
    let put : entry y (3 + v) ≡ owner = entry-same x (3 + v) owner (omega (arith, c.requires.n_bound, c.requires.sized.long, inv.1.0, c.loop-v-test.true)) in (
      omega (arith, c.loop-v-test.true),
      (
        length-set x (3 + v) owner ∙ inv.1.0,
        (
          reading-goes-on r a.n s whole (λ i. entry x (3 + i)) (λ i. entry y (3 + i)) v c.loop-v.place next inv.1.1.0 c.loop-v-test.true (e ∙ ap (λ (o : ℕ). got o next) (sym put)) (λ i h. entry_other x (3 + v) (3 + i) owner (λ q. omega arith)),
          kept_then inv.1.1.1 (kept_set 3 11 x (3 + v) owner (omega arith) (omega (arith, c.requires.n_bound, c.loop-v-test.true))),
        ),
      ),
    )

pub shape_of-index : goal.shape_of-index
shape_of-index c = c.loop-v.invariant.1.0

pub returns : goal.returns
unfolding got_as up_to
returns c =
    let a = c.args in
    let s = a.s.now in
    let r = below a.c u8 in
    let x = c.loop-v.index in
    let v = c.loop-v.v in
    let inv = c.loop-v.invariant in
    let whole = many a.n r s a.at in record { result_after = reading-ends r a.n s whole (λ i. entry x (owner_place i)) v c.loop-v.place inv.1.1.0 (omega (arith, c.loop-v-test.false)); kept = inv.1.1.1 }
