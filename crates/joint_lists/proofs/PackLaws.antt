-- A record packed in a word is unpacked as it was: the word's bytes are those that it was made of. Assumes nothing.
use mathlib.Core.Path.{◌≡◌, refl, ap}
use mathlib.Core.List.{List, [], ◌∷◌}
use Prim.Native.Nat.{ℕ, zero, suc, ◌<◌}
use native.Mathlib.Omega.{arith}
use mir.Syntax.{w64}
use lib.ListN.{length, get_or}
use Rattle.farkas.specs.Lists.{All, none, more}
use Rattle.std.specs.Int.{from_le_bytes}
use Rattle.std.proofs.lemmas.Nat.{le_bytes_8}
use Rattle.rules.specs.declared.Joint.{Joint}
use Rattle.joint_lists.specs.Batches.{unpacked_of}

-- bytes, one by one
small : {xs : List ℕ} → All (λ x. x < 256) xs → (i : ℕ) → get_or xs i 0 < 256
small none i = omega arith
small (more h rest) zero = h
small (more h rest) (suc i) = small rest i

module _ (a b c d e f g : ℕ) (ha : a < 256) (hb : b < 256) (hc : c < 256) (hd : d < 256) (he : e < 256) (hf : f < 256) (hg : g < 256) where
  abbrev bytes_of : List ℕ
  bytes_of = a ∷ b ∷ c ∷ d ∷ e ∷ f ∷ g ∷ 0 ∷ []

  bytes : (i : ℕ) → get_or bytes_of i 0 < 256
  bytes = small (more ha (more hb (more hc (more hd (more he (more hf (more hg (more (omega arith) none))))))))

  pub unpacked-packed : (w : ℕ) → w ≡ from_le_bytes w64 bytes_of → ◌≡◌ {A = Joint} (unpacked_of w) (record { source = a; event = b; switches = c ∷ d ∷ e ∷ f ∷ []; target = g })
  unfolding unpacked_of
  unpacked-packed w h =
      ap (λ (bs : List ℕ). record { source = get_or bs 0 0; event = get_or bs 1 0; switches = get_or bs 2 0 ∷ get_or bs 3 0 ∷ get_or bs 4 0 ∷ get_or bs 5 0 ∷ []; target = get_or bs 6 0 }) (le_bytes_8 bytes_of w refl bytes h)

-- four numbers, one by one
pub four : (ws : List ℕ) → length ws ≡ 4 → get_or ws 0 0 ∷ get_or ws 1 0 ∷ get_or ws 2 0 ∷ get_or ws 3 0 ∷ [] ≡ ws
four [] h = absurd (omega (arith, h))
four (a ∷ []) h = absurd (omega (arith, h))
four (a ∷ b ∷ []) h = absurd (omega (arith, h))
four (a ∷ b ∷ c ∷ []) h = absurd (omega (arith, h))
four (a ∷ b ∷ c ∷ d ∷ []) h = refl
four (a ∷ b ∷ c ∷ d ∷ e ∷ ws) h = absurd (omega (arith, h))
