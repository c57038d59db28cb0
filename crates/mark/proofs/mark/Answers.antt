-- What is cut off changes nothing: an input with more bytes than are marked is refused, however many there are. Assumes nothing.
use Rattle.std.proofs.Common.{◌≡◌, ◌∙◌, ◌<◌, ◌≤◌, Bool, true, false, List, ℕ, leb, length, take, sym, ap, refl, subst, arith, IfSome}
use borrow.Author.Tests.{leb-true, leb-false, lt-leb}
use Rattle.std.proofs.lemmas.List.{take_all, length-take-le}
use Rattle.std.proofs.lemmas.Result.{on_ok_weaker}
use Rattle.std.specs.declared.option.Option.{Option}
use Rattle.std.specs.declared.option.Option.TheVariants.{None, Some}
use Rattle.std.specs.Io.KnownBytes.{Appends}
use Rattle.rules.specs.Program.{turned_down, text_of, mark_line, printed}
use Rattle.mark.proofs.mark.Goals as goal

long : (s : List ℕ) → 65536 < length s → printed s ≡ text_of (turned_down 1 0 0 0 0)
unfolding printed mark_line
long s h = rw (lt-leb (length s) 65536 h, printed, mark_line)

cut : (s : List ℕ) → printed (take 65537 s) ≡ printed s
cut s = go (leb (length s) 65536) refl
  where
    go : (b : Bool) → leb (length s) 65536 ≡ b → printed (take 65537 s) ≡ printed s
    go true e = let h : length s ≤ 65536 = leb-true (length s) 65536 e in ap printed (take_all 65537 s (omega arith))
    go false e =
        let h : 65536 < length s = leb-false (length s) 65536 e in
        long (take 65537 s) (omega (arith, length-take-le 65537 s (omega arith))) ∙ sym (long s h)

shown : (known old new : Option (List ℕ)) (all : List ℕ) → IfSome known (λ bytes. all ≡ take 65537 bytes) → Appends old new (printed all) → IfSome known (λ bytes. Appends old new (printed bytes))
shown None old new all i w = tt
shown (Some bytes) old new all i w = subst (λ (l : List ℕ). Appends old new l) (ap printed i ∙ cut bytes) w

pub returns : goal.returns
returns g c = on_ok_weaker c.write_line.result (shown (g.R.Read.remaining c.args.input) _ _ _ c.in_ok-read.ensures) c.write_line.ensures
