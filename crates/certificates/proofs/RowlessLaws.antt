-- Regions without rows: that then no joint switch has anything to prove. Assumes nothing.
use mathlib.Core.Path.{◌≡◌, refl, sym, ap, ap₂, ◌∙◌, subst}
use mathlib.Core.Bool.{Bool, true, ◌&&◌}
use mathlib.Core.List.{List, [], ◌∷◌, ◌++◌}
use Prim.Native.Nat.{ℕ, zero, suc, ◌+◌, ◌*◌, ◌<◌}
use native.Mathlib.Numerals.{add-one}
use native.Mathlib.Omega.{arith}
use Rattle.std.specs.List.{list_all, range_with_len}
use Rattle.std.proofs.lemmas.List.{nil_from_length}
use lib.Dec.{T, eqb→eq}
use lib.ListN.{length}
use Rattle.farkas.specs.Lists.{every, All, none, more}
use Rattle.formats.specs.Locations.{location_count}
use Rattle.formats.specs.Joint.{count_up, join_all, JointSwitch, joints}
use Rattle.models.specs.Index.{entry, components_from, model_from, GoodIndex}
use Rattle.models.proofs.GoodIndexLaws.{good-components}
use Rattle.farkas.proofs.All.{every-all}
use Rattle.formats.proofs.Members.{all_in, all-members, in_count}
use Rattle.formats.proofs.JointList.{joint-target}
use Rattle.papers.specs.Paper.{regions_of}
use Rattle.hypotheses.specs.Listing.{Task, joint_tasks_for}
use Rattle.hypotheses.proofs.GroupLaws.{no-rows-jump}
use Rattle.certificates.specs.Passed.{rowless}
use Rattle.certificates.proofs.JointMarks.{jump_of, joint-jumps}

-- a test of all numbers of a range is one of those that are counted up
pub all-counted : (f : ℕ → Bool) (k n : ℕ) → list_all f (range_with_len k n) ≡ every f (count_up k n)
unfolding every count_up
all-counted f k zero = refl
all-counted f k (suc n) = ap (λ (m : ℕ). f k && list_all f (range_with_len m n)) (add-one k) ∙ ap (λ b. f k && b) (all-counted f (suc k) n)

-- where no region has a row, no joint switch has anything to prove
module _ (model index second regions : List ℕ) where
  nothing : (js : List JointSwitch) → All (λ j. entry regions (2 * j.target + 1) ≡ 0) js → All (λ j. j.target < location_count (components_from model index)) js → join_all (jump_of (model_from model index) (regions_of model index second regions)) js ≡ []
  unfolding join_all
  nothing [] none none = refl
  nothing (j ∷ js) (more e es) (more h hs) = ap₂ (λ (xs ys : List Task). xs ++ ys) (no-rows-jump model index second regions j.source j.target j.switches h e) (nothing js es hs)

-- by what the loop has found
rowless-each : (regions : List ℕ) (n : ℕ) → every (rowless regions) (count_up 0 n) ≡ true → (l : ℕ) → l < n → entry regions (2 * l + 1) ≡ 0
unfolding rowless
rowless-each regions n e l h =
    eqb→eq (entry regions (2 * l + 1)) 0 (all_in (every-all (rowless regions) (count_up 0 n) (subst T (sym e) tt)) (in_count 0 n l (omega arith) (omega (arith, h))))

pub nothing_left : {model index : List ℕ} (second regions : List ℕ) → GoodIndex model index → (n : ℕ) → n ≡ location_count (components_from model index) → every (rowless regions) (count_up 0 n) ≡ true → joint_tasks_for model index second regions (joints (components_from model index)) ≡ []
nothing_left {model} {index} second regions g n e none-there =
    let js = joints (components_from model index) in
    let lead : All (λ j. j.target < location_count (components_from model index)) js = all-members js (λ j d. (joint-target (good-components g) d).location) in
    let rows : All (λ j. entry regions (2 * j.target + 1) ≡ 0) js = all-members js (λ j d. rowless-each regions n none-there j.target (omega (arith, (joint-target (good-components g) d).location, e))) in
    joint-jumps (model_from model index) (regions_of model index second regions) js ∙ nothing model index second regions js rows lead

-- where there is no joint switch there is nothing either
pub no-joints : (model index second regions : List ℕ) → length (joints (components_from model index)) ≡ 0 → joint_tasks_for model index second regions (joints (components_from model index)) ≡ []
unfolding join_all
no-joints model index second regions e =
    joint-jumps (model_from model index) (regions_of model index second regions) (joints (components_from model index))
    ∙ ap (join_all (jump_of (model_from model index) (regions_of model index second regions))) (nil_from_length (joints (components_from model index)) e)
