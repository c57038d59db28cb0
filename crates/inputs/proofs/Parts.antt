-- A part of a buffer, from a place on, is read into: what stands before the place stays, and what was read comes next. Assumes nothing.
use Rattle.std.proofs.Common.{◌≡◌, ◌∙◌, ◌≤◌, ◌+◌, List, ℕ, ◌++◌, length, take, sym, ap, subst}
use Rattle.std.proofs.Math.Seq.{take-append-add}
use Rattle.std.proofs.lemmas.List.{take-append-le, length-take-le}
use Rattle.std.proofs.KnownBytes.{Consumes-trans}
use Rattle.std.specs.declared.option.Option.{Option}
use Rattle.std.specs.Io.KnownBytes.{Consumes}
use borrow.Rule.Slice.PartMut.{put_mid, post_of}

-- the first bytes after a read
front : (at n k : ℕ) (old part : List ℕ) → at ≤ length old → n ≤ length part → take (at + n) (put_mid at k old part) ≡ take at old ++ take n part
front at n k old part within fits =
    ap (λ (m : ℕ). take (m + n) (put_mid at k old part)) (sym (length-take-le at old within))
    ∙ take-append-add (take at old) (part ++ post_of at k old) n
    ∙ ap (λ (l : List ℕ). take at old ++ l) (take-append-le n part (post_of at k old) fits)

pub read_on : (a b c : Option (List ℕ)) (at n k : ℕ) (old part : List ℕ) → at ≤ length old → n ≤ length part → Consumes a b (take at old) → Consumes b c (take n part)
    → Consumes a c (take (at + n) (put_mid at k old part))
read_on a b c at n k old part within fits before read = subst (Consumes a c) (sym (front at n k old part within fits)) (Consumes-trans a b c _ _ before read)
