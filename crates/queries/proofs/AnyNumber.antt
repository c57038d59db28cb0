-- The calls that tell of obligations and hypotheses, on the same paper with other paper numbers (02, order 7): the same answer where the numbers
-- of both sheets are the same before and after, or differ before and after. Assumes nothing.
use mathlib.Core.Path.{◌≡◌, refl, sym, ap, ap₂, ◌∙◌}
use mathlib.Core.Logic.{◌↔◌}
use mathlib.Core.List.{List}
use Prim.Native.Nat.{ℕ, ◌≤◌}
use lib.ListN.{length}
use Rattle.formats.specs.Reading.{Got, got, refused, ◌>>◌}
use Rattle.formats.specs.Rows.{Condition}
use Rattle.formats.specs.Model.{Model}
use Rattle.formats.specs.declared.Limits.{Limits}
use Rattle.formats.specs.Certificate.{read_regions}
use Rattle.rules.specs.Opening.{open_second}
use Rattle.rules.specs.Obligations.{Obligation}
use Rattle.rules.specs.Beside.{Found, found_answer, show_answer}
use Rattle.rules.specs.Roles.{Role, found_size, hypothesis_size}
use Rattle.rules.specs.Belonging.{version_of, number_of, ButForNumber}
use Rattle.rules.proofs.Renumbered.{renumbered, obligations-so}
use Rattle.rules.proofs.AnyNumber.{by-opening, regions-read, found-so, role-so}
use Rattle.queries.specs.Finding.{which_in, which_after, which_obligation, shown_as, hypothesis_answer}
use Rattle.queries.proofs.ShowLaws.{which_by}

-- beside a model with another number, and a second sheet of the same length
which-in-so : (b : ℕ) (m : Model) (s t : List ℕ) (o : ℕ) (g : Got (List Condition)) → length s ≡ length t → which_after (renumbered b m) t o g ≡ which_after m s o g
unfolding which_after
which-in-so b m s t o (refused number at) e = refl
which-in-so b m s t o (got regions next) e = ap₂ (λ (n : ℕ) (all : List Obligation). which_in n all o) (sym e) (obligations-so b m regions)

module _ (limits : Limits) (s t : List ℕ) (w : ButForNumber s t) (late : 3 ≤ version_of s) (second other : List ℕ) (v : ButForNumber second other) (same : (number_of second ≡ number_of s) ↔ (number_of other ≡ number_of t)) where
  pub which-so : (o : ℕ) → which_obligation limits t other o ≡ which_obligation limits s second o
  unfolding which_obligation
  which-so o =
      by-opening limits s t w late (which_by other o) (which_by second o) (λ number sheet at. refl)
      (λ m end e.
      ap (which_after (renumbered (number_of t) m) other o) (regions-read limits s t w late second other v same m end e)
      ∙ which-in-so (number_of t) m second other o ((open_second 2 m >> read_regions m) second 0) v.size)

  pub hypothesis-so : (o h : ℕ) → hypothesis_answer limits t other o h ≡ hypothesis_answer limits s second o h
  unfolding hypothesis_answer show_answer hypothesis_size
  hypothesis-so o h =
      ap₂ (λ (x : Found) (k : Role). shown_as (found_answer x) (found_size x) k)
      (found-so limits s t w late second other v same o h)
      (role-so limits s t w late second other v same o h)
