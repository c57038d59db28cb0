-- How a paper opens: what each sheet's reading makes of the answer; and one law for every call on two sheets, which is refused as the paper
-- is, or goes on at the body of the second sheet. Assumes nothing.
use mathlib.Core.Path.{◌≡◌, refl, sym, ap, ◌∙◌, subst}
use mathlib.Core.Bool.{false}
use mathlib.Core.List.{List}
use Prim.Native.Nat.{ℕ, ◌≤◌}
use native.Mathlib.Omega.{arith}
use lib.Dec.{T}
use Rattle.formats.specs.Reading.{Got, got, refused, Reader, ◌>>◌}
use Rattle.formats.specs.Model.{Model}
use Rattle.formats.specs.declared.Limits.{Limits}
use Rattle.formats.specs.ModelSheet.{limits_fit, read_model}
use Rattle.formats.proofs.Placed.{Fine, model-fine}
use Rattle.models.specs.Index.{model_from}
use Rattle.joint_switches.specs.Counted.{Counted}
use Rattle.rules.specs.declared.Answer.{Answer}
use Rattle.rules.specs.Marking.{answer, with_model}
use Rattle.rules.specs.Opening.{ModelOpened, opens, shut, open_model, open_second}
use Rattle.rules.proofs.Opening.{unfit-shut, unread-shut, read-opens}
use Rattle.papers.specs.Opening.{opened_model, ModelOpen, opened_second, opened, Open}
use Rattle.papers.proofs.PaperLaws.{accepted}
use Rattle.papers.proofs.SecondLaws.{second-stops, second-body, second-goes-on}

-- an answer that refuses has a number
pub has-number : {a : Answer} (number sheet place done score : ℕ) → a ≡ answer number sheet place done score → 1 ≤ number → 1 ≤ a.number
unfolding answer
has-number number sheet place done score e h = omega (arith, ap (λ (x : Answer). x.number) e)

-- an answer that equals one with a number refuses
pub numbered : {a b : Answer} → a ≡ b → 1 ≤ a.number → b.number ≡ 0 → ⊥
numbered e h z = omega (arith, ap (λ (x : Answer). x.number) e)

-- the model's answer: number 0, or the refusal
module _ (limits : Limits) (model : List ℕ) where
  abbrev model_by : ModelOpened → Answer
  model_by g = with_model g (λ m. answer 0 0 0 0 0)

  pub model-unfit : limits_fit limits ≡ false → answer 5 2 0 0 0 ≡ opened_model limits model
  unfolding opened_model with_model
  model-unfit e = sym (ap model_by (unfit-shut limits model e))

  pub model-unread : (number at : ℕ) → T (limits_fit limits) → read_model limits model ≡ refused number at → answer number 0 at 0 0 ≡ opened_model limits model
  unfolding opened_model with_model
  model-unread number at t e = sym (ap model_by (unread-shut limits model number at t e))

  pub model-opens : (m : Model) → open_model limits model ≡ opens m → answer 0 0 0 0 0 ≡ opened_model limits model
  unfolding opened_model with_model
  model-opens m e = sym (ap model_by e)

  pub model-open : (index : List ℕ) (end : ℕ) → T (limits_fit limits) → read_model limits model ≡ got (model_from model index) end → Counted model index → ModelOpen limits model index
  model-open index end t e counted =
      record { opened = read-opens limits model (model_from model index) end t e; accepted = accepted limits model index end t e counted }

  -- any call that tells such a refusal as it is, by how its model opens
  pub model-refused : (call : ModelOpened → Answer) → ((number sheet at : ℕ) → answer number sheet at 0 0 ≡ call (shut number sheet at)) → ((opened_model limits model).number ≡ 0 → ⊥) → opened_model limits model ≡ call (open_model limits model)
  unfolding opened_model with_model answer
  model-refused call same f = go (open_model limits model) f
    where
      go : (g : ModelOpened) → ((model_by g).number ≡ 0 → ⊥) → model_by g ≡ call g
      go (shut number sheet at) f = same number sheet at
      go (opens m) f = absurd (f refl)

  -- a model that opens has no refusal
  pub opens-number : (m : Model) → open_model limits model ≡ opens m → (opened_model limits model).number ≡ 0
  unfolding answer
  opens-number m e = ap (λ (x : Answer). x.number) (sym (model-opens m e))

  -- a refusal has a number
  pub model-number : (number at : ℕ) → read_model limits model ≡ refused number at → 1 ≤ number
  model-number number at e = (subst (Fine model 0) e (model-fine limits model)).0

-- the answer, by what the model gives and then the second sheet
module _ (limits : Limits) (kind : ℕ) (model second : List ℕ) where
  abbrev opened_by : ModelOpened → Answer
  opened_by g = with_model g (λ m. opened_second (open_second kind m second 0))

  -- a model that is refused
  pub opened-model : ((opened_model limits model).number ≡ 0 → ⊥) → opened_model limits model ≡ opened limits kind model second
  unfolding opened with_model
  opened-model f = model-refused limits model opened_by (λ number sheet at. refl) f

  -- a model that opens
  opened-so : (m : Model) → open_model limits model ≡ opens m → (g : Got ℕ) → open_second kind m second 0 ≡ g → opened_second g ≡ opened limits kind model second
  unfolding opened with_model
  opened-so m e g d = sym (ap opened_by e ∙ ap opened_second d)

  pub opened-second : (m : Model) (number at : ℕ) → open_model limits model ≡ opens m → open_second kind m second 0 ≡ refused number at → answer number 1 at 0 0 ≡ opened limits kind model second
  unfolding opened_second
  opened-second m number at e d = opened-so m e (refused number at) d

  pub opened_both : (m : Model) (version body : ℕ) → open_model limits model ≡ opens m → open_second kind m second 0 ≡ got version body → answer 0 1 body 0 0 ≡ opened limits kind model second
  unfolding opened_second
  opened_both m version body e d = opened-so m e (got version body) d

  pub is_open : (index : List ℕ) (version body : ℕ) → ModelOpen limits model index → open_second kind (model_from model index) second 0 ≡ got version body → Open limits kind model index second body
  is_open index version body w d =
      let b = second-body kind (model_from model index) second version body d in
      record { first = w; version = version; headed = d; bodied = b.0; brief = b.1 }

-- A call on two sheets, by how its model opens: it reads the second one by r, and answers by what that gives; a refusal is told by number,
-- sheet and place
module _
    {A B : Type 0} (limits : Limits) (kind : ℕ) (model second : List ℕ) (refuse : ℕ → ℕ → ℕ → B) (r : Model → Reader A) (mark : Model → Got A → B) (call : ModelOpened → B)
    (stops : (m : Model) (number at : ℕ) → refuse number 1 at ≡ mark m (refused number at))
    (first : (number sheet at : ℕ) → refuse number sheet at ≡ call (shut number sheet at))
    (then : (m : Model) → mark m ((open_second kind m >> r m) second 0) ≡ call (opens m)) where
  abbrev told_as : Answer → B
  told_as a = refuse a.number a.sheet a.place

  by-second : (m : Model) (g : Got ℕ) → open_second kind m second 0 ≡ g → ((opened_second g).number ≡ 0 → ⊥) → told_as (opened_second g) ≡ call (opens m)
  unfolding opened_second answer
  by-second m (refused number at) d f = stops m number at ∙ ap (mark m) (sym (second-stops kind m second (r m) number at d)) ∙ then m
  by-second m (got version body) d f = absurd (f refl)

  by_parts : (g : ModelOpened) → ((opened_by limits kind model second g).number ≡ 0 → ⊥) → told_as (opened_by limits kind model second g) ≡ call g
  unfolding with_model answer
  by_parts (shut number sheet at) f = first number sheet at
  by_parts (opens m) f = by-second m (open_second kind m second 0) refl f

  pub open-refused : ((opened limits kind model second).number ≡ 0 → ⊥) → refuse (opened limits kind model second).number (opened limits kind model second).sheet (opened limits kind model second).place ≡ call (open_model limits model)
  unfolding opened
  open-refused f = by_parts (open_model limits model) f

  pub open-goes-on : {index : List ℕ} {body : ℕ} → Open limits kind model index second body → mark (model_from model index) (r (model_from model index) second body) ≡ call (open_model limits model)
  open-goes-on {index} {body} w =
      let m = model_from model index in
      ap (mark m) (sym (second-goes-on kind m second (r m) w.version body w.headed)) ∙ then m ∙ ap call (sym w.first.opened)

-- nothing of it but number, sheet and place is other than 0
module _ (limits : Limits) (kind : ℕ) (model second : List ℕ) where
  abbrev OnlyRefuses : Answer → Type 0
  OnlyRefuses a = a ≡ answer a.number a.sheet a.place 0 0

  second-refuses : (g : Got ℕ) → OnlyRefuses (opened_second g)
  unfolding opened_second answer
  second-refuses (refused number at) = refl
  second-refuses (got version body) = refl

  only-refuses : (g : ModelOpened) → OnlyRefuses (opened_by limits kind model second g)
  unfolding with_model answer
  only-refuses (shut number sheet at) = refl
  only-refuses (opens m) = second-refuses (open_second kind m second 0)

  pub opened-answer : opened limits kind model second ≡ answer (opened limits kind model second).number (opened limits kind model second).sheet (opened limits kind model second).place 0 0
  unfolding opened
  opened-answer = only-refuses (open_model limits model)
