-- How a model sheet opens: how the answers of the header and of the paper number make the answer of both, and what an index keeps of them.
-- Assumes nothing.
use mathlib.Core.Path.{◌≡◌, refl, ap₂, ◌∙◌, subst}
use mathlib.Core.List.{List}
use Prim.Native.Nat.{ℕ, ◌+◌, ◌*◌, ◌/◌, ◌%◌, ◌≤◌, ◌<◌}
use native.Mathlib.Omega.{arith}
use lib.ListN.{length, set, length-set}
use Rattle.formats.specs.Reading.{got, refused, ◌>>=◌, give, header, read_paper}
use Rattle.formats.proofs.Gives.{passes, got-value, bind-got}
use Rattle.formats.proofs.Header.{HeaderRead, header_read}
use Rattle.fields.proofs.Skipping.{bind-refused}
use Rattle.models.specs.Index.{entry, Kept}
use Rattle.models.proofs.IndexLaws.{entry-same, entry_other, kept_set, kept_then}
use Rattle.model_sheets.specs.Opening.{Opening, read_opening, opening_from}

-- its parts
pub opening-first : (s : List ℕ) (number place : ℕ) → header 1 s 0 ≡ refused number place → read_opening s 0 ≡ refused number place
unfolding read_opening
opening-first s number place e = bind-refused (header 1) _ s 0 e

module _ (s : List ℕ) (version at : ℕ) (one : header 1 s 0 ≡ got version at) where
  pub opening-second : (number place : ℕ) → read_paper version s at ≡ refused number place → read_opening s 0 ≡ refused number place
  unfolding read_opening
  opening-second number place e = bind-got (header 1) _ s 0 one (bind-refused (read_paper version) _ s at e)

  pub opening-both : (paper body : ℕ) → read_paper version s at ≡ got paper body → read_opening s 0 ≡ got (record { version = version; paper = paper }) body
  unfolding read_opening give
  opening-both paper body e = bind-got (header 1) _ s 0 one (bind-got (read_paper version) _ s at e refl)

pub opening-read : (s : List ℕ) (o : Opening) (body : ℕ) → read_opening s 0 ≡ got o body → HeaderRead 1 s 0 o.version 4
unfolding read_opening ◌>>=◌ give
opening-read s o body e =
    let a = passes (header 1 s 0) (λ version. read_paper version >>= λ paper. give (record { version = version; paper = paper })) s o body e in
    let b = passes (read_paper a.value s a.place) (λ paper. give (record { version = a.value; paper = paper })) s o body a.second in
    let h = header_read 1 s 0 a.value a.place a.first in
    subst (λ (x : Opening). HeaderRead 1 s 0 x.version 4) (got-value b.second) (subst (HeaderRead 1 s 0 a.value) h.ends h)

-- kept in an index: the version, then the paper number in two halves
module _ (index : List ℕ) (version paper : ℕ) (long : 1004 ≤ length index) where
  abbrev pub opened : List ℕ
  opened = set (set (set index 11 version) 12 (paper / 65536)) 13 (paper % 65536)

  pub opening-stands : opening_from opened ≡ record { version = version; paper = paper }
  unfolding opening_from
  opening-stands =
      let one = set index 11 version in
      let two = set one 12 (paper / 65536) in
      let longer : 12 < length one = simp length-set (omega (arith, long)) in
      let longest : 13 < length two = simp length-set (omega (arith, long)) in
      let first : entry opened 11 ≡ version = entry_other two 13 11 _ (λ q. omega arith) ∙ entry_other one 12 11 _ (λ q. omega arith) ∙ entry-same index 11 version (omega (arith, long)) in
      let high : entry opened 12 ≡ paper / 65536 = entry_other two 13 12 _ (λ q. omega arith) ∙ entry-same one 12 _ longer in
      let low : entry opened 13 ≡ paper % 65536 = entry-same two 13 _ longest in
      let whole : entry opened 12 * 65536 + entry opened 13 ≡ paper = ap₂ (λ (a b : ℕ). a * 65536 + b) high low ∙ omega arith in
      λ i. record { version = first i; paper = whole i }

  pub opening-kept : Kept 0 1004 index opened
  opening-kept =
      let one = set index 11 version in
      let two = set one 12 (paper / 65536) in
      kept_then (kept_then (kept_set 0 1004 index 11 version (omega arith) (omega arith)) (kept_set 0 1004 one 12 _ (omega arith) (omega arith))) (kept_set 0 1004 two 13 _ (omega arith) (omega arith))
