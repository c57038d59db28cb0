-- The same paper with other paper numbers (02, order 7): where the numbers of both sheets are the same before and after, or differ before and
-- after, the markings of certificate and run answer the same, and so do the joint list, what is found for show row, and the roles. So a number
-- decides nothing there but whether the sheets belong together. Assumes nothing.
use mathlib.Core.Path.{◌≡◌, refl, sym, ap, ap₂, ◌∙◌, subst}
use mathlib.Core.Logic.{◌↔◌}
use mathlib.Core.Bool.{Bool, true, false, cond, ◌&&◌}
use mathlib.Core.List.{List, [], ◌∷◌, map}
use Prim.Native.Nat.{ℕ, zero, suc, ◌≤◌}
use native.Mathlib.Omega.{arith}
use lib.Dec.{leb, ltb, eqb}
use lib.ListN.{length, get_or}
use borrow.Author.Tests.{leb-true, eqb-true, leb-false, eqb-false}
use Rattle.formats.specs.Versions.{pair_of, has_paper}
use Rattle.formats.specs.Reading.{Got, got, refused, Reader, and_then, ◌>>=◌, ◌>>◌, u32, header, paper_if, read_paper, finished}
use Rattle.formats.specs.Rows.{Condition}
use Rattle.formats.specs.Model.{Model}
use Rattle.formats.specs.declared.Limits.{Limits}
use Rattle.formats.specs.ModelSheet.{limits_test, read_model}
use Rattle.formats.specs.Certificate.{read_regions}
use Rattle.formats.specs.RunSheet.{Step, Opening, read_opening, read_step}
use Rattle.formats.proofs.Versions.{pair-late, papers-exactly}
use Rattle.formats.proofs.FieldLaws.{field-got, field_cut}
use Rattle.formats.proofs.Gives.{bind-got}
use Rattle.formats.proofs.Header.{SameFront, header_read, header-same, paper-read}
use Rattle.formats.proofs.Onward.{Alike, alike-later, Rises, Onward, onward-regions, onward-opening, onward-proof, onward-step, onward-bind, onward_then, onward-here, onward-give, onward-body, onward-finished, onward-expect}
use Rattle.formats.proofs.ModelSheet.{chain, in-a-chain}
use Rattle.rules.specs.Opening.{ModelOpened, opens, shut, open_model, open_second}
use Rattle.farkas.specs.Farkas.{Proof, farkas_test}
use Rattle.rules.specs.declared.Answer.{Answer}
use Rattle.rules.specs.Obligations.{Obligation, zero_only, region_of, obligations}
use Rattle.rules.specs.Runs.{State, step_allowed, after, is_unsafe}
use Rattle.rules.specs.Marking.{answer, score_of, refused_score, Marked, passed, stopped, test_proof, mark_proof, mark_proofs, close_certificate, mark_regions, with_model, mark_certificate, test_step, mark_step, mark_steps, close_run, first_state, mark_opening, mark_run}
use Rattle.rules.specs.Roles.{Role, no_role, roles_of, role_in, role_after, hypothesis_role}
use Rattle.rules.specs.Beside.{no_obligation, list_of, list_answer, table_after, find_in, find_after, find_hypothesis}
use Rattle.rules.specs.declared.Joint.{Joint}
use Rattle.rules.proofs.Calls.{certificate_by, run_by, list_by, table_by, found_by, role_by}
use Rattle.rules.proofs.Opening.{Begins, begins, unfit-shut, unread-shut, read-opens}
use Rattle.rules.specs.Belonging.{version_of, number_of, ButForNumber}
use Rattle.rules.proofs.Pairing.{second-pairs, header-first, versions-apart, paper-cut, papers-apart, opens-pair}
use Rattle.rules.proofs.Belonging.{model-fronted}
use Rattle.rules.proofs.Renumbered.{renumbered, mapped, behind_paper, rest-renumbered, start-so, unsafe-so, after-so, step_so, regions-so, opening-so, steps-so, obligations-so, roles-so}

-- a sheet and the same with another number
module _ (s t : List ℕ) (w : ButForNumber s t) where
  front : SameFront s t
  front = record { size = w.size; front = w.front }

  pub behind : Alike 8 s t
  behind = record { size = w.size; rest = w.rest }

  -- either both numbers are read, or both are cut
  pub data Papers (version : ℕ) : Type 0 where
    both_read : read_paper version s 4 ≡ got (number_of s) 8 → read_paper version t 4 ≡ got (number_of t) 8 → Papers version
    both-cut : read_paper version s 4 ≡ refused 4 4 → read_paper version t 4 ≡ refused 4 4 → Papers version

  papers : (version : ℕ) → has_paper version ≡ true → Papers version
  unfolding read_paper paper_if u32 number_of
  papers version h = go (leb 8 (length s)) refl
    where
      worded : (x : List ℕ) {g : Got ℕ} → paper_if true x 4 ≡ g → read_paper version x 4 ≡ g
      worded x e = ap (λ (b : Bool). paper_if b x 4) h ∙ e

      go : (b : Bool) → leb 8 (length s) ≡ b → Papers version
      go true e =
          let l = leb-true 8 (length s) e in
          both_read (worded s (field-got 4 s 4 l)) (worded t (field-got 4 t 4 (omega (arith, l, w.size))))
      go false e =
          let l = leb-false 8 (length s) e in
          both-cut (worded s (field_cut 4 s 4 (omega (arith, l)))) (worded t (field_cut 4 t 4 (omega (arith, l, w.size))))

-- the model of a sheet with another number
onward-rest : (limits : Limits) (version paper : ℕ) → Onward (behind_paper limits version paper)
unfolding limits_test
onward-rest limits version paper =
    onward-bind onward-here
    (λ place.
    onward-bind (onward-body version paper)
    (λ m. onward_then onward-finished (onward_then (onward_then (onward-expect _ 7 place) (onward-expect _ 8 place)) (onward-give m))))

module _ (limits : Limits) (s t : List ℕ) (w : ButForNumber s t) (late : 3 ≤ version_of s) where
  -- a model sheet that is cut before its n
  shortly : (x : List ℕ) (number at : ℕ) → header 1 x 0 ≡ refused number at → chain limits x 0 ≡ refused number at
  unfolding ◌>>=◌ and_then
  shortly x number at e = ap (λ (g : Got ℕ). and_then g (λ version. read_paper version >>= behind_paper limits version) x) e

  cut : (x : List ℕ) (version : ℕ) → header 1 x 0 ≡ got version 4 → read_paper version x 4 ≡ refused 4 4 → chain limits x 0 ≡ refused 4 4
  unfolding ◌>>=◌ and_then
  cut x version e d =
      bind-got (header 1) (λ version. read_paper version >>= behind_paper limits version) x 0 e
      (ap (λ (g : Got ℕ). and_then g (behind_paper limits version) x) d)

  read : (x : List ℕ) (version paper : ℕ) → header 1 x 0 ≡ got version 4 → read_paper version x 4 ≡ got paper 8 → chain limits x 0 ≡ behind_paper limits version paper x 8
  read x version paper e d =
      bind-got (header 1) (λ version. read_paper version >>= behind_paper limits version) x 0 e (bind-got (read_paper version) (behind_paper limits version) x 4 d refl)

  with-version : (version : ℕ) → header 1 s 0 ≡ got version 4 → Papers s t w version → chain limits t 0 ≡ mapped (renumbered (number_of t)) (chain limits s 0)
  unfolding mapped
  with-version version e (both-cut a b) =
      cut t version (sym (header-same s t (front s t w) 1) ∙ e) b ∙ ap (mapped (renumbered (number_of t))) (sym (cut s version e a))
  with-version version e (both_read a b) =
      read t version (number_of t) (sym (header-same s t (front s t w) 1) ∙ e) b
      ∙ sym ((onward-rest limits version (number_of t)).same s t 8 (behind s t w))
      ∙ rest-renumbered limits version (number_of s) (number_of t) s 8
      ∙ ap (mapped (renumbered (number_of t))) (sym (read s version (number_of s) e a))

  chain-with : chain limits t 0 ≡ mapped (renumbered (number_of t)) (chain limits s 0)
  unfolding mapped version_of
  chain-with = go (header 1 s 0) refl
    where
      go : (g : Got ℕ) → header 1 s 0 ≡ g → chain limits t 0 ≡ mapped (renumbered (number_of t)) (chain limits s 0)
      go (refused number at) e =
          shortly t number at (sym (header-same s t (front s t w) 1) ∙ e) ∙ ap (mapped (renumbered (number_of t))) (sym (shortly s number at e))
      go (got version place) e =
          let h = header_read 1 s 0 version place e in
          with-version version (e ∙ ap (λ (p : ℕ). got version p) h.ends)
          (papers s t w version ((papers-exactly version).1 (omega (arith, late, h.byte))))

  pub model-with : read_model limits t ≡ mapped (renumbered (number_of t)) (read_model limits s)
  model-with = in-a-chain limits t ∙ chain-with ∙ ap (mapped (renumbered (number_of t))) (sym (in-a-chain limits s))

-- a second sheet with another number, beside a model with another number
module _ (kind : ℕ) (m : Model) (s t : List ℕ) (w : ButForNumber s t) (b : ℕ) (late : 3 ≤ m.version) (same : (number_of s ≡ m.paper) ↔ (number_of t ≡ b)) where
  pub second-with : open_second kind (renumbered b m) t 0 ≡ open_second kind m s 0
  unfolding renumbered
  second-with = go (header kind s 0) refl
    where
      m' : Model
      m' = renumbered b m

      numbers : (version : ℕ) → header kind s 0 ≡ got version 4 → header kind t 0 ≡ got version 4 → version ≡ pair_of m.version → read_paper version s 4 ≡ got (number_of s) 8 → read_paper version t 4 ≡ got (number_of t) 8 → (x : Bool) → eqb (number_of s) m.paper ≡ x → open_second kind m' t 0 ≡ open_second kind m s 0
      numbers version e d pair i j true k =
          let own = eqb-true (number_of s) m.paper k in
          opens-pair kind m' t version 4 d pair 8 (j ∙ ap (λ (n : ℕ). got n 8) (same.0 own))
          ∙ sym (opens-pair kind m s version 4 e pair 8 (i ∙ ap (λ (n : ℕ). got n 8) own))
      numbers version e d pair i j false k =
          let apart = eqb-false (number_of s) m.paper k in
          papers-apart kind m' t version 4 d pair (number_of t) 8 j (λ x. apart (same.1 x))
          ∙ sym (papers-apart kind m s version 4 e pair (number_of s) 8 i apart)

      paired : (version : ℕ) → header kind s 0 ≡ got version 4 → header kind t 0 ≡ got version 4 → version ≡ pair_of m.version → Papers s t w version → open_second kind m' t 0 ≡ open_second kind m s 0
      paired version e d pair (both-cut i j) = paper-cut kind m' t version 4 d pair 4 4 j ∙ sym (paper-cut kind m s version 4 e pair 4 4 i)
      paired version e d pair (both_read i j) = numbers version e d pair i j (eqb (number_of s) m.paper) refl

      headed : (version : ℕ) → header kind s 0 ≡ got version 4 → header kind t 0 ≡ got version 4 → (x : Bool) → eqb version (pair_of m.version) ≡ x → open_second kind m' t 0 ≡ open_second kind m s 0
      headed version e d true k =
          let pair = eqb-true version (pair_of m.version) k in
          paired version e d pair (papers s t w version ((papers-exactly version).1 (omega (arith, late, pair, pair-late m.version late))))
      headed version e d false k =
          let apart = eqb-false version (pair_of m.version) k in
          versions-apart kind m' t version 4 d apart ∙ sym (versions-apart kind m s version 4 e apart)

      go : (g : Got ℕ) → header kind s 0 ≡ g → open_second kind m' t 0 ≡ open_second kind m s 0
      go (refused number at) e =
          header-first kind m' t number at (sym (header-same s t (front s t w) kind) ∙ e) ∙ sym (header-first kind m s number at e)
      go (got version place) e =
          let e4 : header kind s 0 ≡ got version 4 = e ∙ ap (λ (p : ℕ). got version p) (header_read kind s 0 version place e).ends in
          headed version e4 (sym (header-same s t (front s t w) kind) ∙ e4) (eqb version (pair_of m.version)) refl

  -- what follows is read from place 8 on
  opened-at : (version next : ℕ) → open_second kind m s 0 ≡ got version next → next ≡ 8
  opened-at version next e =
      let p = second-pairs kind m s version next e in
      (paper-read version s m.paper next ((papers-exactly version).1 (omega (arith, late, p.pair, pair-late m.version late)))
      (ap (read_paper version s) (sym (header_read kind s 0 version p.place p.headed).ends) ∙ p.paper)
      ).ends

  module _ {A : Type 0} {r : Reader A} (on : Onward r) where
    pub read-with : (open_second kind (renumbered b m) >> r) t 0 ≡ (open_second kind m >> r) s 0
    unfolding ◌>>◌ and_then
    read-with = ap (λ (g : Got ℕ). and_then g (λ v. r) t) second-with ∙ go (open_second kind m s 0) refl
      where
        go : (g : Got ℕ) → open_second kind m s 0 ≡ g → and_then g (λ v. r) t ≡ and_then g (λ v. r) s
        go (got version next) e = sym (on.same s t next (subst (λ (p : ℕ). Alike p s t) (sym (opened-at version next e)) (behind s t w)))
        go (refused number at) e = refl

    pub read_behind : Rises 8 ((open_second kind m >> r) s 0)
    unfolding ◌>>◌ and_then
    read_behind = go (open_second kind m s 0) refl
      where
        go : (g : Got ℕ) → open_second kind m s 0 ≡ g → Rises 8 (and_then g (λ v. r) s)
        go (got version next) e = subst (λ (p : ℕ). Rises 8 (r s p)) (sym (opened-at version next e)) (on.rises s 8)
        go (refused number at) e = tt

-- the end of a sheet hangs on its length
finished-so : (s t : List ℕ) (p : ℕ) → length s ≡ length t → finished s p ≡ finished t p
unfolding finished
finished-so s t p e = ap (λ (n : ℕ). cond (leb n p) (got tt p) (refused 4 p)) e

-- marking the proofs of two such sheets
tested-rises : (o : Obligation) (p : ℕ) (g : Got Proof) → Rises p g → Rises p (test_proof o p g)
unfolding test_proof
tested-rises o p (refused number at) h = tt
tested-rises o p (got x next) h = go (farkas_test (map (λ h. h.row) o.hypotheses) o.goal x)
  where
    go : (n : ℕ) → Rises {A = Proof} p (elim n as (λ k. Got Proof) [ zero ↦ got x next | suc k ↦ refused (suc k) p ])
    go zero = h
    go (suc k) = tt

onward-marked : (o : Obligation) → Onward (mark_proof o)
unfolding mark_proof
onward-marked o = record {
  same = λ s t p w. ap (test_proof o p) ((onward-proof (length o.hypotheses) (zero_only o.kind)).same s t p w);
  rises = λ s p. tested-rises o p _ ((onward-proof (length o.hypotheses) (zero_only o.kind)).rises s p);
}

-- what goes on after a reading, or stops there
abbrev went : {A B : Type 0} → ℕ → (A → ℕ → Marked B) → Got A → Marked B
went {A} {B} done f g = elim g as (λ x. Marked B) [ got a next ↦ f a next | refused number at ↦ stopped number at done ]

went-with : {A B : Type 0} (s t : List ℕ) (place done : ℕ) (f h : A → ℕ → Marked B) (g : Got A) → Alike place s t → Rises place g → ((a : A) (next : ℕ) → Alike next s t → f a next ≡ h a next) → went done f g ≡ went done h g
went-with s t place done f h (got a next) w i k = k a next (alike-later i w)
went-with s t place done f h (refused number at) w i k = refl

proofs-with : (s t : List ℕ) (all : List Obligation) (place done : ℕ) → Alike place s t → mark_proofs all t place done ≡ mark_proofs all s place done
unfolding mark_proofs
proofs-with s t [] place done w = refl
proofs-with s t (o ∷ rest) place done w =
    ap (went done (λ p next. mark_proofs rest t next (suc done))) (sym ((onward-marked o).same s t place w))
    ∙ went-with s t place done (λ p next. mark_proofs rest t next (suc done)) (λ p next. mark_proofs rest s next (suc done)) (mark_proof o s place) w
    ((onward-marked o).rises s place)
    (λ p next v. proofs-with s t rest next (suc done) v)

close-with : (s t : List ℕ) (total : ℕ) (x : Marked (Unit {0})) → length s ≡ length t → close_certificate total t x ≡ close_certificate total s x
unfolding close_certificate
close-with s t total (stopped number at done) e = refl
close-with s t total (passed u place done) e =
    ap₂
    (λ (g : Got (Unit {0})) (n : ℕ).
    elim g as (λ x. Answer) [ got v next ↦ answer 0 1 n done (score_of done total) | refused number at ↦ answer number 1 at done (refused_score done total) ])
    (sym (finished-so s t place e))
    (sym e)

regions-with : (s t : List ℕ) (b : ℕ) (m : Model) (g : Got (List Condition)) → Alike 8 s t → Rises 8 g → mark_regions (renumbered b m) t g ≡ mark_regions m s g
unfolding mark_regions
regions-with s t b m (refused number at) w h = refl
regions-with s t b m (got regions place) w h =
    ap (λ (all : List Obligation). close_certificate (length all) t (mark_proofs all t place 0)) (obligations-so b m regions)
    ∙ ap (close_certificate (length (obligations m regions)) t) (proofs-with s t (obligations m regions) place 0 (alike-later h w))
    ∙ close-with s t (length (obligations m regions)) (mark_proofs (obligations m regions) s place 0) w.size

-- marking the steps of two such sheets
allowed-rises : (m : Model) (q : ℕ) (v : State) (p : ℕ) (g : Got Step) → Rises p g → Rises p (test_step m q v p g)
unfolding test_step
allowed-rises m q v p (refused number at) h = tt
allowed-rises m q v p (got x next) h = go (step_allowed m q v x)
  where
    go : (b : Bool) → Rises p (cond b (got x next) (refused 13 p))
    go true = h
    go false = tt

onward-stepped : (m : Model) (q : ℕ) (v : State) → Onward (mark_step m q v)
unfolding mark_step
onward-stepped m q v = record {
  same = λ s t p w. ap (test_step m q v p) ((onward-step m).same s t p w);
  rises = λ s p. allowed-rises m q v p _ ((onward-step m).rises s p);
}

tested-so : (b : ℕ) (m : Model) (q : ℕ) (v : State) (p : ℕ) (g : Got Step) → test_step (renumbered b m) q v p g ≡ test_step m q v p g
unfolding test_step
tested-so b m q v p (refused number at) = refl
tested-so b m q v p (got x next) = ap (λ (ok : Bool). cond ok (got x next) (refused 13 p)) (step_so b m q v x)

stepped-so : (b : ℕ) (m : Model) (q : ℕ) (v : State) (s : List ℕ) (p : ℕ) → mark_step (renumbered b m) q v s p ≡ mark_step m q v s p
unfolding mark_step
stepped-so b m q v s p = ap (test_step (renumbered b m) q v p) (steps-so b m s p) ∙ tested-so b m q v p (read_step m s p)

steps-with : (s t : List ℕ) (b : ℕ) (m : Model) (q : ℕ) (v : State) (n place done : ℕ) → Alike place s t → mark_steps (renumbered b m) q v n t place done ≡ mark_steps m q v n s place done
unfolding mark_steps
steps-with s t b m q v zero place done w = refl
steps-with s t b m q v (suc n) place done w =
    ap (went done (λ x next. mark_steps (renumbered b m) q (after (renumbered b m) v x) n t next (suc done))) (stepped-so b m q v t place ∙ sym ((onward-stepped m q v).same s t place w))
    ∙ went-with s t place done
    (λ x next. mark_steps (renumbered b m) q (after (renumbered b m) v x) n t next (suc done))
    (λ x next. mark_steps m q (after m v x) n s next (suc done))
    (mark_step m q v s place)
    w
    ((onward-stepped m q v).rises s place)
    (λ x next u.
    ap (λ (y : State). mark_steps (renumbered b m) q y n t next (suc done)) (after-so b m v x) ∙ steps-with s t b m q (after m v x) n next (suc done) u)

run-close-with : (s t : List ℕ) (b : ℕ) (m : Model) (q : ℕ) (x : Marked State) → length s ≡ length t → close_run (renumbered b m) q t x ≡ close_run m q s x
unfolding close_run
run-close-with s t b m q (stopped number at done) e = refl
run-close-with s t b m q (passed v place done) e =
    ap₂
    (λ (g : Got (Unit {0})) (n : ℕ).
    elim g as (λ x. Answer) [
      | got u next ↦ cond (is_unsafe (renumbered b m) q v) (answer 0 1 n done 100) (answer 14 1 n done 0)
      | refused number at ↦ answer number 1 at done 0
    ])
    (sym (finished-so s t place e))
    (sym e)
    ∙ ap
    (λ (ok : Bool).
    elim (finished s place) as (λ x. Answer) [
      | got u next ↦ cond ok (answer 0 1 (length s) done 100) (answer 14 1 (length s) done 0)
      | refused number at ↦ answer number 1 at done 0
    ])
    (unsafe-so b m q v)

opening-with : (s t : List ℕ) (b : ℕ) (m : Model) (g : Got Opening) → Alike 8 s t → Rises 8 g → mark_opening (renumbered b m) t g ≡ mark_opening m s g
unfolding mark_opening
opening-with s t b m (refused number at) w h = refl
opening-with s t b m (got o next) w h =
    ap₂
    (λ (ok : Bool) (a : Answer). elim ok as (λ x. Answer) [ true ↦ a | false ↦ answer 12 1 o.place 0 0 ])
    (start-so b m o.q (first_state o))
    (ap (close_run (renumbered b m) o.q t) (steps-with s t b m o.q (first_state o) o.steps next 0 (alike-later h w))
    ∙ run-close-with s t b m o.q (mark_steps m o.q (first_state o) o.steps s next 0) w.size)

find-so : (b : ℕ) (m : Model) (o h : ℕ) (g : Got (List Condition)) → find_after (renumbered b m) o h g ≡ find_after m o h g
unfolding find_after
find-so b m o h (refused number at) = refl
find-so b m o h (got regions next) = ap (λ (all : List Obligation). find_in all o h) (obligations-so b m regions)

role-in-so : (b : ℕ) (m : Model) (o h : ℕ) (g : Got (List Condition)) → role_after (renumbered b m) o h g ≡ role_after m o h g
unfolding role_after role_in
role-in-so b m o h (refused number at) = refl
role-in-so b m o h (got regions next) =
    ap (λ (all : List Obligation). role_in (roles_of (renumbered b m) (region_of regions)) all o h) (obligations-so b m regions)
    ∙ ap
    (λ (l : List Role).
    elim (ltb o (length (obligations m regions)) && ltb h (length (get_or (obligations m regions) o no_obligation).hypotheses)) as (λ x. Role) [ true ↦ get_or l h no_role | false ↦ no_role ])
    (roles-so b m (region_of regions) (get_or (obligations m regions) o no_obligation))

-- the calls, by how they begin: first those that take the model alone
module _ (limits : Limits) (s t : List ℕ) (w : ButForNumber s t) (late : 3 ≤ version_of s) where
  pub by-opening : {A : Type 0} (f h : ModelOpened → A) → ((number sheet at : ℕ) → f (shut number sheet at) ≡ h (shut number sheet at)) → ((m : Model) (end : ℕ) → read_model limits s ≡ got m end → f (opens (renumbered (number_of t) m)) ≡ h (opens m)) → f (open_model limits t) ≡ h (open_model limits s)
  unfolding mapped
  by-opening f h shuts opened = go (begins limits s)
    where
      go : Begins limits s (open_model limits s) → f (open_model limits t) ≡ h (open_model limits s)
      go (Begins.unfit e o) = ap f (unfit-shut limits t e) ∙ shuts 5 2 0 ∙ ap h (sym o)
      go (Begins.unread number at k e o) =
          ap f (unread-shut limits t number at k (model-with limits s t w late ∙ ap (mapped (renumbered (number_of t))) e)) ∙ shuts number 0 at ∙ ap h (sym o)
      go (Begins.begun m end k e o) =
          ap f (read-opens limits t (renumbered (number_of t) m) end k (model-with limits s t w late ∙ ap (mapped (renumbered (number_of t))) e))
          ∙ opened m end e
          ∙ ap h (sym o)

  pub list-so : (lent : ℕ) → list_answer limits t lent ≡ list_answer limits s lent
  unfolding list_answer with_model renumbered
  list-so lent =
      ap (λ (n : ℕ). with_model (open_model limits t) (λ m. list_of m.components n lent)) (sym w.size)
      ∙ by-opening (list_by s lent) (list_by s lent) (λ number sheet at. refl) (λ m end e. refl)

  pub table-so : (table : List Joint) → table_after limits t table ≡ table_after limits s table
  unfolding table_after renumbered
  table-so table = by-opening (table_by table) (table_by table) (λ number sheet at. refl) (λ m end e. refl)

  module _ (second other : List ℕ) (v : ButForNumber second other) (same : (number_of second ≡ number_of s) ↔ (number_of other ≡ number_of t)) where
    -- beside a model that was read
    module _ (m : Model) (end : ℕ) (e : read_model limits s ≡ got m end) where
      late-model : 3 ≤ m.version
      late-model = omega (arith, late, (model-fronted limits s m end e).version)

      own : m.paper ≡ number_of s
      own = (model-fronted limits s m end e).number ((papers-exactly m.version).1 late-model)

      same-model : (number_of second ≡ m.paper) ↔ (number_of other ≡ number_of t)
      same-model = (λ x. same.0 (x ∙ own), λ x. same.1 x ∙ sym own)

      pub regions-read : (open_second 2 (renumbered (number_of t) m) >> read_regions (renumbered (number_of t) m)) other 0 ≡ (open_second 2 m >> read_regions m) second 0
      regions-read =
          ap (λ (r : Reader (List Condition)). (open_second 2 (renumbered (number_of t) m) >> r) other 0) (regions-so (number_of t) m)
          ∙ read-with 2 m second other v (number_of t) late-model same-model (onward-regions m)

      regions-behind : Rises 8 ((open_second 2 m >> read_regions m) second 0)
      regions-behind = read_behind 2 m second other v (number_of t) late-model same-model (onward-regions m)

      opening-read : (open_second 3 (renumbered (number_of t) m) >> read_opening (renumbered (number_of t) m)) other 0 ≡ (open_second 3 m >> read_opening m) second 0
      opening-read =
          ap (λ (r : Reader Opening). (open_second 3 (renumbered (number_of t) m) >> r) other 0) (opening-so (number_of t) m)
          ∙ read-with 3 m second other v (number_of t) late-model same-model (onward-opening m)

      opening-behind : Rises 8 ((open_second 3 m >> read_opening m) second 0)
      opening-behind = read_behind 3 m second other v (number_of t) late-model same-model (onward-opening m)

    pub certificate-so : mark_certificate limits t other ≡ mark_certificate limits s second
    unfolding mark_certificate with_model
    certificate-so =
        by-opening (certificate_by other) (certificate_by second) (λ number sheet at. refl)
        (λ m end e.
        ap (mark_regions (renumbered (number_of t) m) other) (regions-read m end e)
        ∙ regions-with second other (number_of t) m ((open_second 2 m >> read_regions m) second 0) (behind second other v) (regions-behind m end e))

    pub run-so : mark_run limits t other ≡ mark_run limits s second
    unfolding mark_run with_model
    run-so =
        by-opening (run_by other) (run_by second) (λ number sheet at. refl)
        (λ m end e.
        ap (mark_opening (renumbered (number_of t) m) other) (opening-read m end e)
        ∙ opening-with second other (number_of t) m ((open_second 3 m >> read_opening m) second 0) (behind second other v) (opening-behind m end e))

    pub found-so : (o h : ℕ) → find_hypothesis limits t other o h ≡ find_hypothesis limits s second o h
    unfolding find_hypothesis
    found-so o h =
        by-opening (found_by other o h) (found_by second o h) (λ number sheet at. refl)
        (λ m end e.
        ap (find_after (renumbered (number_of t) m) o h) (regions-read m end e) ∙ find-so (number_of t) m o h ((open_second 2 m >> read_regions m) second 0))

    pub role-so : (o h : ℕ) → hypothesis_role limits t other o h ≡ hypothesis_role limits s second o h
    unfolding hypothesis_role
    role-so o h =
        by-opening (role_by other o h) (role_by second o h) (λ number sheet at. refl)
        (λ m end e.
        ap (role_after (renumbered (number_of t) m) o h) (regions-read m end e)
        ∙ role-in-so (number_of t) m o h ((open_second 2 m >> read_regions m) second 0))

  -- the same number on both sheets, then another on both
  module _ (second other : List ℕ) (v : ButForNumber second other) (before : number_of second ≡ number_of s) (then : number_of other ≡ number_of t) where
    pub certificate-renumbered : mark_certificate limits t other ≡ mark_certificate limits s second
    certificate-renumbered = certificate-so second other v (λ x. then, λ x. before)

    pub run-renumbered : mark_run limits t other ≡ mark_run limits s second
    run-renumbered = run-so second other v (λ x. then, λ x. before)
