-- The rows that are left are without the unknown exactly when all are. Assumes nothing.
use mathlib.Core.Path.{◌≡◌, sym, ap, ◌∙◌, subst}
use Prim.Native.Nat.{ℕ, ◌+◌, ◌*◌, ◌-◌, ◌≤◌, ◌<◌}
use native.Mathlib.Omega.{arith}
use borrow.Author.Tests.{eq-eqb, ne_eqb}
use lib.Dec.{eqb}
use lib.ListN.{length}
use Rattle.farkas.specs.Lists.{every}
use Rattle.formats.specs.Versions.{row_bytes}
use Rattle.formats.proofs.Versions.{numbers-within}
use Rattle.fields.specs.Places.{row_at, rows_from}
use Rattle.models.specs.Index.{entry}
use Rattle.rules.specs.Runs as runs
use Rattle.papers.proofs.RowLoops.{row_room, row_next, rows_start, rows_pass, rows-fail, rows_none}
use Rattle.papers.proofs.BlankLaws.{zero_at, zero-at}
use Rattle.papers.proofs.blanks.unmentioned.Goals.{In-loop-j}
use Rattle.papers.proofs.blanks.unmentioned.Goals as goal

pub version_of-version-requires : goal.version_of-version-requires
version_of-version-requires c = tt

pub overflow_add-place : goal.overflow_add-place
overflow_add-place c = omega arith

pub number_at-rows-requires : goal.number_at-rows-requires
number_at-rows-requires c = omega arith

pub number_at-at-requires : goal.number_at-at-requires
number_at-at-requires c = omega arith

pub loop-j-init : goal.loop-j-init
loop-j-init c =
    let a = c.args in
    let version = c.version_of-version in
    let rows = c.number_at-rows in (
      omega arith,
      (omega (arith, c.number_at-at.ensures), ap (λ (v : ℕ). every (zero_at a.i) (rows_from a.s.now v a.count c.number_at-at.result (rows.result - 0))) version.ensures ∙ rows_start (zero_at a.i) a.s.now (entry a.index.now 11) a.count a.index.now a.place c.number_at-at.result rows.result c.number_at-at.ensures rows.ensures),
    )

rows-within : (c : In-loop-j) → c.loop-j.at + row_bytes c.version_of-version.result c.args.count ≤ length c.args.s.now
rows-within c =
    let version = c.version_of-version in
    let l = c.loop-j in
    let index = c.args.index.now in
    let few : l._j < entry index (c.args.place + 1) = omega (arith, c.loop-j-test.true, c.number_at-rows.ensures) in
    row_room (entry index c.args.place) version.result c.args.count l.at l._j l.invariant.1.0 (length c.args.s.now)
    (subst (λ (v : ℕ). entry index c.args.place + row_bytes v c.args.count * (l._j + 1) ≤ length c.args.s.now) (sym version.ensures) (c.requires.s_len_bound.1.1.within l._j few))

-- the coefficient's bytes
word-within : (c : In-loop-j) → c.loop-j.at + 4 * c.args.i + 4 ≤ length c.args.s.now
word-within c =
    omega (arith, c.requires.i_lt_count.0, numbers-within c.version_of-version.result c.args.count c.loop-j.at (length c.args.s.now) (rows-within c))

pub overflow_mul-i : goal.overflow_mul-i
overflow_mul-i c = omega arith

pub overflow_add-at : goal.overflow_add-at
overflow_add-at c = omega (arith, word-within c)

pub number-requires : goal.number-requires
number-requires c = word-within c

pub returns-then-number-ne0 : goal.returns-then-number-ne0
unfolding runs.unmentioned
returns-then-number-ne0 c =
    let a = c.args in
    let l = c.loop-j in
    let version = c.version_of-version.result in
    let rows = c.number_at-rows.result in
    let n = c.number in
    let zero : eqb n.result 0 ≡ zero_at a.i (row_at a.s.now version a.count l.at) = ap (λ (x : ℕ). eqb x 0) n.ensures ∙ zero-at a.s.now l.at version a.count a.i c.requires.i_lt_count.0 in
    rows-fail (zero_at a.i) a.s.now version a.count _ l.at rows l._j (eqb n.result 0) c.loop-j-test.true zero (ne_eqb n.result 0 c.if-number-ne0.true) l.invariant.1.1

pub row_bytes-at-requires : goal.row_bytes-at-requires
row_bytes-at-requires c = c.requires.i_lt_count.1

pub overflow_add-at-in-loop-j : goal.overflow_add-at-in-loop-j
overflow_add-at-in-loop-j c = omega (arith, rows-within (goal.at.overflow_add-at-in-loop-j c).In-loop-j, c.row_bytes-at.ensures)

pub loop-j-preserved : goal.loop-j-preserved
loop-j-preserved c =
    let a = c.args in
    let l = c.loop-j in
    let version = c.version_of-version.result in
    let rows = c.number_at-rows.result in
    let n = c.number in
    let size = c.row_bytes-at in
    let zero : eqb n.result 0 ≡ zero_at a.i (row_at a.s.now version a.count l.at) = ap (λ (x : ℕ). eqb x 0) n.ensures ∙ zero-at a.s.now l.at version a.count a.i c.requires.i_lt_count.0 in
    let next : l.at + size.result ≡ entry a.index.now a.place + row_bytes version a.count * (l._j + 1) = ap (λ (k : ℕ). l.at + k) size.ensures ∙ row_next (entry a.index.now a.place) version a.count l.at l._j l.invariant.1.0 in (
      omega arith,
      (
        next,
        ap (λ (k : ℕ). every (zero_at a.i) (rows_from a.s.now version a.count (l.at + k) (rows - (l._j + 1)))) size.ensures
            ∙ rows_pass (zero_at a.i) a.s.now version a.count _ l.at rows l._j (eqb n.result 0) c.loop-j-test.true zero (eq-eqb n.result 0 c.if-number-ne0.false) l.invariant.1.1,
      ),
    )

pub returns : goal.returns
unfolding runs.unmentioned
returns c =
    let a = c.args in
    let l = c.loop-j in
    rows_none (zero_at a.i) a.s.now c.version_of-version.result a.count _ l.at c.number_at-rows.result l._j c.loop-j-test.false l.invariant.1.1
