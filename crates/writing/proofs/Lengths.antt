-- What is written of a model that a sheet gave is as long as the sheet, and reads back. Assumes nothing.
use mathlib.Core.Path.{◌≡◌, refl, sym, ap, ap₂, ◌∙◌, subst}
use mathlib.Core.Bool.{Bool, true, false, cond, ◌&&◌}
use mathlib.Core.List.{List}
use Prim.Native.Nat.{ℕ, ◌+◌, ◌≤◌, ◌<◌}
use native.Mathlib.Omega.{arith}
use lib.Dec.{T, leb, eqb, leb→le}
use lib.ListN.{length, take, length-append}
use borrow.Author.Tests.{leb-true}
use Rattle.farkas.specs.Lists.{All}
use Rattle.formats.specs.Reading.{got, refused, ◌>>=◌, ◌>>◌, give, here, big_endian, length_right, header, read_paper, finished}
use Rattle.formats.specs.Model.{Model, read_model_body}
use Rattle.formats.specs.declared.Limits.{Limits}
use Rattle.formats.specs.ModelSheet.{Whole, read_whole, read_model}
use Rattle.formats.proofs.Gives.{got-value, got-next, passes, and_left, and_right}
use Rattle.formats.proofs.WellFormed.{body-headed}
use Rattle.formats.proofs.ModelSheet.{read_whole_lem}
use Rattle.writing.specs.Writing.{write_fields, write_paper, write_body, write_model}
use Rattle.writing.proofs.Spans.{spans-paper, spans-fields, spans-header, header-right}
use Rattle.writing.proofs.RoundTrip.{written-size, Back, reads-back}
use Rattle.writing.proofs.FromSheets.{writable}

-- "bytes left"
no_more : (s : List ℕ) (p : ℕ) (u : Unit {0}) (next : ℕ) → finished s p ≡ got u next → length s ≤ p
unfolding finished
no_more s p u next e = go (leb (length s) p) refl e
  where
    go : (b : Bool) → leb (length s) p ≡ b → cond b (got tt p) (refused 4 p) ≡ got u next → length s ≤ p
    go true k d = leb-true (length s) p k
    go false k d = let z : ◌≡◌ {A = ℕ} 0 1 = cc in absurd (omega arith)

-- a sheet that is read whole has a header, as many bytes as writing its model's body gives, and no more
pub record Sheet (s : List ℕ) (m : Model) : Type 0 where
  pub long : length s ≡ 4 + length (write_body m)
  pub most : length s ≤ 32768

-- "A sheet has at most 32,768 bytes"
right-most : (s : List ℕ) → length_right s ≡ true → length s ≤ 32768
unfolding length_right
right-most s e =
    let low = leb 4 (length s) in
    let high = leb (length s) 32768 in
    leb→le (length s) 32768 (and_right low high (and_left (low && high) (eqb (big_endian (take 2 s) + 2) (length s)) (subst T (sym e) tt)))

body-parts : (m : Model) → length (write_body m) ≡ length (write_paper m.version m.paper) + length (write_fields m)
unfolding write_body
body-parts m = length-append (write_paper m.version m.paper) (write_fields m)

whole-sheet : (s : List ℕ) (whole : Whole) (end : ℕ) → read_whole s 0 ≡ got whole end → Sheet s whole.model
unfolding read_whole here ◌>>=◌ ◌>>◌ give
whole-sheet s whole end e =
    let a = passes (header 1 s 0) _ s whole end e in
    let n = passes (read_paper a.value s a.place) _ s whole end a.second in
    let b = passes (here s n.place) _ s whole end n.second in
    let c = passes (read_model_body a.value n.value s b.place) _ s whole end b.second in
    let d = passes (finished s c.place) _ s whole end c.second in
    let first = (spans-header 1).spans s 0 a.value a.place a.first (omega arith) in
    let paper = (spans-paper a.value).spans s a.place n.value n.place n.first first.inside in
    let there : n.place ≡ b.place = got-next b.first in
    let body = (spans-fields a.value n.value).spans s b.place c.value c.place c.first (subst (λ (k : ℕ). k ≤ length s) there paper.inside) in
    let headed = (body-headed a.value n.value).holds s b.place c.value c.place c.first in
    let model : c.value ≡ whole.model = ap (λ (w : Whole). w.model) (got-value d.second) in
    let no = no_more s c.place d.value d.place d.first in
    let header-ends = first.ends in
    let header-size = first.right in
    let paper-ends = paper.ends in
    let paper-size : paper.size ≡ length (write_paper c.value.version c.value.paper) = paper.right ∙ sym (ap₂ (λ (v p : ℕ). length (write_paper v p)) headed.0 headed.1) in
    let body-ends = body.ends in
    let body-size = body.right in
    let inside = body.inside in
    let parts = body-parts c.value in
    let long : length s ≡ 4 + length (write_body c.value) = omega arith in
    record {
      long = subst (λ (x : Model). length s ≡ 4 + length (write_body x)) model long;
      most = right-most s (header-right 1 s 0 a.value a.place a.first);
    }

-- a sheet that gives a model
pub sheet-of : (limits : Limits) (s : List ℕ) (m : Model) (next : ℕ) → read_model limits s ≡ got m next → Sheet s m
sheet-of limits s m next e =
    let w = read_whole_lem limits s m next e in
    subst (Sheet s) w.same (whole-sheet s w.whole w.end w.reads)

-- what is written of its model is as long
pub written-length : (limits : Limits) (s : List ℕ) (m : Model) (next : ℕ) → read_model limits s ≡ got m next → length (write_model m) ≡ length s
written-length limits s m next e = written-size m ∙ sym (sheet-of limits s m next e).long

-- a model that a sheet of bytes gives reads back from what is written of it
pub round_trip : (limits : Limits) (s : List ℕ) (m : Model) (next : ℕ) → All (λ b. b < 256) s → read_model limits s ≡ got m next → Back limits m
round_trip limits s m next bytes e =
    reads-back limits m
    (writable limits s m next bytes e)
    (subst (λ (n : ℕ). n ≤ 32768) (sym (written-length limits s m next e)) (sheet-of limits s m next e).most)
    (read_whole_lem limits s m next e).few
