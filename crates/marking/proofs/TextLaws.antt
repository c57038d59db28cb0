-- Decimal numbers as bytes: the standard library writes the same digits; and how long a line is at most. Assumes nothing.
use Rattle.std.proofs.Common.{◌≡◌, [], ◌∷◌, List, ℕ, suc, ◌<◌, ◌≤◌, ◌+◌, ◌^◌, ◌∙◌, Bool, true, false, rules, arith, sym, append-nil, length, length-append}
use Rattle.std.specs.Fmt as std
use Rattle.std.proofs.lemmas.Fmt.{PrependsLastDigit, decimal_from_prepends, length-decimal-le, length-decimal-le_succ}
use Rattle.rules.specs.declared.Answer.{Answer}
use Rattle.rules.specs.Program.{digits, decimal, numbered, Line, safe, unsafe, turned_down, refused_line, line_for, text_of}
use lib.Dec.{eqb}

prepends : PrependsLastDigit digits
unfolding digits
prepends = search rules

pub decimal-written : (n : ℕ) → n < 2 ^ 64 → std.decimal n ≡ decimal n
unfolding decimal
decimal-written n h = sym (decimal_from_prepends digits prepends (suc n) n [] h (omega (arith, length-decimal-le_succ n h)) ∙ append-nil _)

-- A number of 32 bits has at most ten digits, so a line has at most 63 bytes
ten-digits : (n : ℕ) → n < 2 ^ 32 → length (decimal n) ≤ 10
ten-digits n h = rw (← decimal-written n (omega arith)) (length-decimal-le 10 n (omega arith) (omega arith) (omega arith))

grows : (n k : ℕ) (rest : List ℕ) → n < 2 ^ 32 → length (numbered rest) ≤ k → length (numbered (n ∷ rest)) ≤ k + 11
unfolding numbered
grows n k rest h w = omega (arith, length-append (decimal n) (numbered rest), ten-digits n h)

one : (n : ℕ) → n < 2 ^ 32 → length (numbered (n ∷ [])) ≤ 12
unfolding numbered
one n h = grows n 1 [] h (omega arith)

pub safe-short : (n : ℕ) → n < 2 ^ 32 → length (text_of (safe n)) ≤ 63
unfolding text_of
safe-short n h = omega (arith, one n h)

pub unsafe-short : (n : ℕ) → n < 2 ^ 32 → length (text_of (unsafe n)) ≤ 63
unfolding text_of
unsafe-short n h = omega (arith, one n h)

pub refused-short : (a b c d e : ℕ) → a < 2 ^ 32 → b < 2 ^ 32 → c < 2 ^ 32 → d < 2 ^ 32 → e < 2 ^ 32 → length (text_of (turned_down a b c d e)) ≤ 63
unfolding text_of
refused-short a b c d e ha hb hc hd he = omega (arith, grows a 45 _ ha (grows b 34 _ hb (grows c 23 _ hc (grows d 12 _ hd (one e he)))))

pub line-short : (accepted : ℕ → Line) → ((n : ℕ) → n < 2 ^ 32 → length (text_of (accepted n)) ≤ 63) → (a : Answer) → a.number < 2 ^ 32 → a.sheet < 2 ^ 32 → a.place < 2 ^ 32 → a.done < 2 ^ 32 → a.score < 2 ^ 32 → length (text_of (line_for accepted a)) ≤ 63
unfolding line_for refused_line
line-short accepted short a hn hs hp hd hc = go (eqb a.number 0)
  where
    go : (b : Bool) → length (text_of (elim b as (λ _. Line) [ true ↦ accepted a.done | false ↦ refused_line a ])) ≤ 63
    go true = short a.done hd
    go false = refused-short a.number a.sheet a.place a.done a.score hn hs hp hd hc
