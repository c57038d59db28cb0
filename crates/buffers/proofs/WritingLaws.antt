-- Writing one part after the other: what is still to be written, and where that leads. Assumes nothing.
use mathlib.Core.Path.{◌≡◌, refl, sym, ap, ◌∙◌}
use mathlib.Core.List.{List, [], ◌∷◌, ◌++◌}
use Prim.Native.Nat.{ℕ, ◌+◌}
use native.Mathlib.Omega.{arith}
use lib.ListN.{length, length-append}
use Rattle.buffers.specs.Over.{over, word, half}
use Rattle.buffers.specs.Written.{Written}
use Rattle.buffers.proofs.OverLaws.{over_nothing, over-then, over-length}

-- writing what is left at this place gives the whole
pub record Left (before : List ℕ) (at : ℕ) (whole left now : List ℕ) (next : ℕ) : Type 0 where
  pub place : next + length left ≡ at + length whole
  pub bytes : over now next left ≡ over before at whole

pub left-all : (before : List ℕ) (at : ℕ) (whole : List ℕ) → Left before at whole whole before at
left-all before at whole = record { place = refl; bytes = refl }

-- a part was written: the rest is left
pub left-on : {before : List ℕ} {at : ℕ} {whole now after : List ℕ} {next end : ℕ} (part rest : List ℕ) → Left before at whole (part ++ rest) now next → Written now next part after end → Left before at whole rest after end
left-on {now = now} {after = after} {next = next} part rest l w = record {
  place = omega (arith, w.ends, l.place, length-append part rest);
  bytes = ap (λ (p : ℕ). over after p rest) w.ends ∙ ap (λ (b : List ℕ). over b (next + length part) rest) w.holds ∙ over-then now next part rest ∙ l.bytes;
}

-- what is left is named otherwise
pub left_as : {before : List ℕ} {at : ℕ} {whole left other now : List ℕ} {next : ℕ} → left ≡ other → Left before at whole left now next → Left before at whole other now next
left_as {now = now} {next = next} e l = record {
  place = ap (λ (b : List ℕ). next + length b) (sym e) ∙ l.place;
  bytes = ap (over now next) (sym e) ∙ l.bytes;
}

-- nothing is left: the whole is written
pub left-none : {before : List ℕ} {at : ℕ} {whole now : List ℕ} {next : ℕ} → Left before at whole [] now next → Written before at whole now next
left-none {now = now} {next = next} l = record { ends = omega (arith, l.place); holds = sym (over_nothing now next) ∙ l.bytes }

-- the last part was written
pub left-last : {before : List ℕ} {at : ℕ} {whole now after : List ℕ} {next end : ℕ} (part : List ℕ) → Left before at whole part now next → Written now next part after end → Written before at whole after end
left-last {now = now} {next = next} part l w = record {
  ends = omega (arith, w.ends, l.place);
  holds = w.holds ∙ l.bytes;
}

-- a buffer keeps its length
pub written-length : {before : List ℕ} {at : ℕ} {bytes after : List ℕ} {next : ℕ} → Written before at bytes after next → length after ≡ length before
written-length {before = before} {at = at} {bytes = bytes} w = ap (λ (b : List ℕ). length b) w.holds ∙ over-length before at bytes

-- A promise of two equations as a record, and back; of one byte, two and four
pub as-put : {before : List ℕ} {at : ℕ} (bytes : List ℕ) {after : List ℕ} {next : ℕ} → (next ≡ at + length bytes) × (after ≡ over before at bytes) → Written before at bytes after next
as-put bytes w = record { ends = w.0; holds = w.1 }

pub as-told : {before : List ℕ} {at : ℕ} {bytes after : List ℕ} {next : ℕ} → Written before at bytes after next → (next ≡ at + length bytes) × (after ≡ over before at bytes)
as-told w = (w.ends, w.holds)

pub as_written : {before : List ℕ} {at b : ℕ} {after : List ℕ} {next : ℕ} → (next ≡ at + 1) × (after ≡ over before at (b ∷ [])) → Written before at (b ∷ []) after next
as_written {b = b} w = as-put (b ∷ []) w

pub as-half : {before : List ℕ} {at : ℕ} (v : ℕ) {after : List ℕ} {next : ℕ} → (next ≡ at + 2) × (after ≡ over before at (half v)) → Written before at (half v) after next
unfolding half
as-half v w = as-put (half v) w

pub as-word : {before : List ℕ} {at : ℕ} (v : ℕ) {after : List ℕ} {next : ℕ} → (next ≡ at + 4) × (after ≡ over before at (word v)) → Written before at (word v) after next
unfolding word
as-word v w = as-put (word v) w
