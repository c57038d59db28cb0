-- The line stands at the start of the buffer, which has room for it. Assumes nothing.
use Rattle.std.proofs.Common.{◌≡◌, ◌∙◌, ◌≤◌, List, ℕ, length, take, drop, arith, zero, subst}
use Rattle.std.proofs.lemmas.List.{take-append-le}
use Rattle.std.proofs.lemmas.Result.{on_ok_weaker}
use Rattle.std.proofs.Math.Seq.{take-length}
use Rattle.std.specs.Io.KnownBytes.{Appends}
use Rattle.buffers.specs.Over.{over}
use Rattle.buffers.proofs.OverLaws.{over-whole}
use Rattle.rules.specs.Program.{printed}
use Rattle.mark.proofs.write_line.Goals as goal

shown : {size : ℕ} {line : List ℕ} (xs bs : List ℕ) → length bs ≤ length xs → size ≡ length bs → line ≡ over xs zero bs → take size line ≡ bs
shown xs bs h s l = rw (s, l, over-whole xs bs h) (take-append-le (length bs) bs (drop (length bs) xs) (omega arith) ∙ take-length bs)

pub returns : goal.returns
returns g c =
    let s = c.mark_text-size.ensures.value.0 in
    let l = c.mark_text-size.ensures.value.1 in
    let e : take c.mark_text-size.result c.mark_text-size.new.text ≡ printed c.args.input.now = shown _ (printed c.args.input.now) (omega (arith, s, c.mark_text-size.ensures.upper_bound)) s l in
    on_ok_weaker c.write_all.result (λ w. subst (λ (shown : List ℕ). Appends (g.W.Write.contents c.args.output.now) (g.W.Write.contents c.write_all.new.self) shown) e w) c.write_all.ensures.bytes
