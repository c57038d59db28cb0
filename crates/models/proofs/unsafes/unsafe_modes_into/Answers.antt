-- The law of a loop over a list: the modes so far, in front of those of the components to come, are all of them. Assumes nothing.
use Rattle.std.proofs.Common.{rules, Err, ◌≡◌, refl, sym, ap, ◌∙◌}
use Prim.Native.Nat.{ℕ, ◌+◌, ◌*◌, ◌<◌}
use native.Mathlib.Omega.{arith}
use lib.ListN.{set, length-set}
use Rattle.formats.specs.Reading.{got, u8, must, each}
use Rattle.models.specs.Index.{entry, component_place, components_from}
use Rattle.fields.specs.Answers.{got_as}
use Rattle.fields.proofs.AnswerLaws.{field-value, field-refused}
use Rattle.fields.proofs.AnswerLaws.{next-refused}
use Rattle.models.proofs.IndexLaws.{entry-same, entry_other, kept-none, kept_set, kept_then}
use Rattle.fields.proofs.ReadLoop.{up_to}
use Rattle.formats.proofs.FieldLaws.{numbered}
use Rattle.models.proofs.UnsafeLaws.{each-starts, each-goes-on, each-stops, each-ends, components-length, component-next, mode_small, read_mode_byte, mode_of, modes-kept}
use Rattle.models.proofs.unsafes.unsafe_modes_into.Goals.{In_ok-mode, In-loop-k}
use Rattle.models.proofs.unsafes.unsafe_modes_into.Goals as goal

-- the component of a turn is one of the model's, and the index still has how many modes it has
low : (c : In-loop-k) → c.loop-k.k < entry c.args.index.now 1
unfolding entry
low c = omega (arith, c.loop-k-test.true, c.requires.c_value)

kept : (c : In-loop-k) → entry c.loop-k.index (17 + 219 * c.loop-k.k) ≡ entry c.args.index.now (component_place c.loop-k.k + 1)
kept c = modes-kept c.loop-k.invariant.1.1.1 c.loop-k.k c.requires.c_value.1.1.0 (omega (arith, c.loop-k-test.true, c.requires.c_value))

mode-read : (c : In_ok-mode) → must (numbered (entry c.loop-k.index (17 + 219 * c.loop-k.k))) 5 u8 c.args.s.now c.loop-k.place ≡ got c.in_ok-mode.mode c.in_ok-mode.next
unfolding entry
mode-read c = sym c.byte_numbered.ensures ∙ field-value c.in_ok-mode.was

pub loop-k-init : goal.loop-k-init
loop-k-init c =
    let a = c.args in
    let s = a.s.now in
    let old = a.index.now in
    (omega arith, (refl, (each-starts read_mode_byte (components_from s old) s (each read_mode_byte (components_from s old) s a.at) (λ j. entry old (a.i + j)) a.at refl, kept-none a.i (a.i + 4) old)))

pub overflow_mul-modes : goal.overflow_mul-modes
overflow_mul-modes c = omega (arith, c.requires.c_value, c.loop-k-test.true)

pub overflow_add-modes : goal.overflow_add-modes
overflow_add-modes c = omega (arith, c.requires.c_value, c.loop-k-test.true)

pub offset_bounds-index-k : goal.offset_bounds-index-k
offset_bounds-index-k c = omega (arith, c.requires.c_value, c.requires.sized.long, c.loop-k.invariant.1.0, c.loop-k-test.true)

pub bounds-index-k : goal.bounds-index-k
bounds-index-k c = omega (arith, c.requires.c_value, c.requires.sized.long, c.loop-k.invariant.1.0, c.loop-k-test.true)

pub overflow_cast-modes : goal.overflow_cast-modes
unfolding entry
overflow_cast-modes c = omega (arith, kept (goal.at.overflow_cast-modes c).In-loop-k, c.requires.by_index c.loop-k.k c.loop-k-test.true)

pub returns-in_err-mode : goal.returns-in_err-mode
unfolding got_as entry
returns-in_err-mode c =
    let inv = c.loop-k.invariant in
    let same : c.from_residual.result ≡ Err c.in_err-mode.field-0.0 = search rules in
    record { result_after = next-refused _ same ∙ (each-stops read_mode_byte _ _ _ _ _ _ _ _ _ inv.1.1.0 (component-next _ _ _ (low (goal.at.returns-in_err-mode c).In-loop-k)) (mode_of _ _ _ _ _ _ _ (kept (goal.at.returns-in_err-mode c).In-loop-k) (sym c.byte_numbered.ensures ∙ field-refused c.in_err-mode.was))); kept = inv.1.1.1 }

pub overflow_cast-index : goal.overflow_cast-index
unfolding entry
overflow_cast-index c =
    omega (arith, mode_small _ _ _ _ _ (omega (arith, kept (goal.at.overflow_cast-index c).In-loop-k, c.requires.by_index c.loop-k.k c.loop-k-test.true)) (mode-read c))

pub overflow_add-index : goal.overflow_add-index
overflow_add-index c = omega (arith, c.requires.c_value, c.loop-k-test.true)

pub offset_bounds-index-i : goal.offset_bounds-index-i
offset_bounds-index-i c = omega (arith, c.requires.c_value, c.requires.sized.long, c.loop-k.invariant.1.0, c.loop-k-test.true)

pub bounds-index-i : goal.bounds-index-i
bounds-index-i c = omega (arith, c.requires.c_value, c.requires.sized.long, c.loop-k.invariant.1.0, c.loop-k-test.true)

pub loop-k-preserved : goal.loop-k-preserved
unfolding entry
loop-k-preserved c =
    let p = c.requires in
    let i = c.args.i in
    let x = c.loop-k.index in
    let k = c.loop-k.k in
    let inv = c.loop-k.invariant in
    let mode = c.in_ok-mode.mode in
    let next = c.in_ok-mode.next in
    let put : entry (set x (i + k) mode) (i + k) ≡ mode = entry-same x (i + k) mode (omega (arith, p.c_value, p.sized.long, inv.1.0, c.loop-k-test.true)) in (
      omega (arith, c.loop-k-test.true),
      (
        length-set x (i + k) mode ∙ inv.1.0,
        (
          each-goes-on read_mode_byte _ _ _ (λ j. entry x (i + j)) (λ j. entry (set x (i + k) mode) (i + j)) k _ next _ inv.1.1.0 (component-next _ _ _ (low (goal.at.loop-k-preserved c).In-loop-k)) (mode_of _ _ _ _ _ _ _ (kept (goal.at.loop-k-preserved c).In-loop-k) (mode-read c) ∙ ap (λ (v : ℕ). got v next) (sym put)) (λ j h. entry_other x (i + k) (i + j) mode (λ q. omega arith)),
          kept_then inv.1.1.1 (kept_set i (i + 4) x (i + k) mode (omega arith) (omega (arith, p.c_value, c.loop-k-test.true))),
        ),
      ),
    )

pub shape_of-index : goal.shape_of-index
shape_of-index c = c.loop-k.invariant.1.0

pub returns : goal.returns
unfolding got_as up_to
returns c =
    let a = c.args in
    let s = a.s.now in
    let old = a.index.now in
    let all = components_from s old in
    let x = c.loop-k.index in
    let k = c.loop-k.k in
    let inv = c.loop-k.invariant in
    let end : k ≡ a.c = omega (arith, c.loop-k-test.false) in record { result_after = ap (λ (n : ℕ). got (up_to (λ j. entry x (a.i + j)) n) c.loop-k.place) (sym end) ∙ each-ends read_mode_byte all s (each read_mode_byte all s a.at) (λ j. entry x (a.i + j)) k c.loop-k.place inv.1.1.0 (omega (arith, components-length s old, c.requires.c_value)); kept = inv.1.1.1 }
