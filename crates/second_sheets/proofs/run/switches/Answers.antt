-- The bytes before this one are in their places and 255 stands after them, and the rest is read from here. Assumes nothing.
use Rattle.std.proofs.Common.{rules, Err, ◌≡◌, sym, ap, ◌∙◌, subst}
use Prim.Native.Nat.{ℕ, ◌+◌, ◌<◌}
use native.Mathlib.Omega.{arith}
use lib.ListN.{take, replicate}
use Rattle.formats.specs.Reading.{got}
use Rattle.fields.specs.Answers.{got_field}
use Rattle.formats.specs.Reading.{got}
use Rattle.formats.specs.Joint.{stays}
use Rattle.second_sheets.specs.RunAnswers.{switch_byte, switch_bytes, held_bytes}
use Rattle.models.specs.Index.{entry, component_place}
use Rattle.fields.proofs.AnswerLaws.{field-value, field-refused}
use Rattle.fields.specs.Causes.{number_of}
use Rattle.second_sheets.proofs.RunLaws.{Front, front-start, front-put, switch-is, bytes-start, bytes-stop, bytes-go-on, bytes-end, bytes-held}
use Rattle.second_sheets.proofs.run.switches.Goals as goal

pub bounds-index-1 : goal.bounds-index-1
bounds-index-1 c = omega arith

pub loop-k-init : goal.loop-k-init
loop-k-init c = (omega arith, (front-start 255 4, bytes-start c.args.index.now c.args.s.now c.args.at (replicate 4 255)))

pub overflow_mul-k : goal.overflow_mul-k
unfolding entry
overflow_mul-k c = omega arith

pub overflow_add-k-in-loop-k : goal.overflow_add-k-in-loop-k
unfolding entry
overflow_add-k-in-loop-k c = omega arith

pub offset_bounds-index-k : goal.offset_bounds-index-k
unfolding entry
offset_bounds-index-k c = omega arith

pub bounds-index-k : goal.bounds-index-k
unfolding entry
bounds-index-k c = omega arith

pub returns-in_err-switch : goal.returns-in_err-switch
unfolding held_bytes entry component_place switch_byte stays
returns-in_err-switch c =
    let a = c.args in
    let s = a.s.now in
    let l = c.loop-k in
    let same : c.from_residual.result ≡ Err c.in_err-switch.field-0.0 = search rules in
    field-refused same ∙ ap held_bytes (bytes-stop a.index.now s a.at l.bytes l.k l.place l.invariant.1.1 c.loop-k-test.true (number_of c.in_err-switch.field-0.0.0) c.in_err-switch.field-0.0.1 (sym c.byte_numbered.ensures ∙ field-refused c.in_err-switch.was))

pub overflow_cast-bytes : goal.overflow_cast-bytes
unfolding entry component_place switch_byte stays
overflow_cast-bytes c =
    let a = c.args in
    let s = a.s.now in
    let l = c.loop-k in
    let index = a.index.now in
    let count = entry index (component_place l.k + 2) in
    let v = c.in_ok-switch.switch in
    let after = c.in_ok-switch.next in
    let e : switch_byte count s l.place ≡ got v after = sym c.byte_numbered.ensures ∙ field-value c.in_ok-switch.was in
    omega (arith, switch-is count s l.place v after e, c.shared_slice_known-2-1.given l.place)

pub bounds-bytes-k : goal.bounds-bytes-k
unfolding entry
bounds-bytes-k c = omega arith

pub loop-k-preserved : goal.loop-k-preserved
unfolding entry component_place switch_byte stays
loop-k-preserved c =
    let a = c.args in
    let s = a.s.now in
    let l = c.loop-k in
    let index = a.index.now in
    let count = entry index (component_place l.k + 2) in
    let v = c.in_ok-switch.switch in
    let after = c.in_ok-switch.next in
    let e : switch_byte count s l.place ≡ got v after = sym c.byte_numbered.ensures ∙ field-value c.in_ok-switch.was in
    let room : l.k < 4 = omega arith in
    (omega arith, (front-put 255 4 l.bytes l.k v l.invariant.1.0 room, bytes-go-on index s a.at l.bytes l.k l.place l.invariant.1.1 c.loop-k-test.true v after (omega arith) e))

pub returns : goal.returns
unfolding got_field held_bytes entry
returns c =
    let a = c.args in
    let s = a.s.now in
    let l = c.loop-k in
    let index = a.index.now in
    let count = entry index 1 in
    let h : l.k ≡ count = omega arith in
    let e : got (take count l.bytes) l.place ≡ switch_bytes index s a.at = bytes-end index s a.at l.bytes l.k l.place l.invariant.1.1 h (omega arith) in
    ap (λ w. got w l.place) (bytes-held l.bytes count (subst (λ (k : ℕ). Front 255 4 l.bytes k) h l.invariant.1.0) c.requires.1) ∙ ap held_bytes e
