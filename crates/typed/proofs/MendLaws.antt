-- A text keeps the rules where the scan accepts it, and breaks them where the scan stops: each state but the dead one has an ending.
-- Assumes nothing.
use mathlib.Core.Path.{◌≡◌, refl, sym, ap, ◌∙◌, subst}
use mathlib.Core.Logic.{⊎_elim}
use mathlib.Core.Bool.{Bool, true, false, cond}
use mathlib.Core.List.{List, [], ◌∷◌, ◌++◌, append_assoc}
use Prim.Native.Nat.{ℕ, zero, suc, ◌≤◌, ◌<◌}
use native.Mathlib.Omega.{arith}
use lib.Dec.{T}
use lib.ListN.{length, take, drop, take-append-drop}
use lib.Seq.{take-take}
use Rattle.typed.specs.declared.signs.Sign.{Sign}
use Rattle.typed.specs.declared.scan.Phase.{Phase}
use Rattle.typed.specs.declared.scan.Phase.TheVariants.{Awaiting, Counting, Complete, Half}
use Rattle.std.specs.Prelude.{Some, None, Ok, Err}
use Rattle.typed.specs.declared.scan.Live.{Live}
use Rattle.typed.specs.Signs.{sign_of, signs}
use Rattle.typed.specs.Text.{Valid, Mendable, Breaks}
use Rattle.typed.specs.Scan.{State, dead, live, Scanned, keeps_rules, breaks_at, step, run, accepted, passes, passes_by, start, scanned}
use Rattle.typed.proofs.SignLaws.{signs-length}
use Rattle.farkas.proofs.Order.{compare}
use Rattle.typed.proofs.AcceptLaws.{run-append, Ended, in-number, after-all, spelled-accepted}
use Rattle.typed.proofs.ParseLaws.{dead_not, accepted-spelled}

-- an ending: what closes the brackets and adds the other side
closing : ℕ → List ℕ → List ℕ
closing zero ys = ys
closing (suc d) ys = 41 ∷ closing d ys

other-side : Bool → List ℕ
other-side true = []
other-side false = 60 ∷ 61 ∷ 48 ∷ []

closes-all : {r : Bool} {s : State} (d : ℕ) → Ended d r s → T (accepted (run s (signs (closing d (other-side r)))))
unfolding closing other-side signs sign_of run
closes-all {r = true} zero in-number = tt
closes-all {r = false} zero in-number = tt
closes-all {r = true} zero after-all = tt
closes-all {r = false} zero after-all = tt
closes-all {r = r} (suc d) in-number = closes-all {r = r} {s = live Complete d r} d after-all
closes-all {r = r} (suc d) after-all = closes-all {r = r} {s = live Complete d r} d after-all

-- a state that is not dead has an ending
pub record Ending (s : State) : Type 0 where
  pub ending : List ℕ
  pub mends : T (accepted (run s (signs ending)))

live-ends : (p : Phase) (d : ℕ) (r : Bool) → Ending (live p d r)
unfolding signs sign_of run
live-ends Awaiting d r = record { ending = 48 ∷ closing d (other-side r); mends = closes-all {r = r} {s = live Counting d r} d in-number }
live-ends Counting d r = record { ending = closing d (other-side r); mends = closes-all {r = r} {s = live Counting d r} d in-number }
live-ends Complete d r = record { ending = closing d (other-side r); mends = closes-all {r = r} {s = live Complete d r} d after-all }
live-ends Half d r = record { ending = 61 ∷ 48 ∷ []; mends = tt }

signs-append : (xs ys : List ℕ) → signs (xs ++ ys) ≡ signs xs ++ signs ys
unfolding signs
signs-append [] ys = refl
signs-append (x ∷ xs) ys = ap (λ r. sign_of x ∷ r) (signs-append xs ys)

signs-take : (n : ℕ) (xs : List ℕ) → signs (take n xs) ≡ take n (signs xs)
unfolding signs
signs-take zero xs = refl
signs-take (suc n) [] = refl
signs-take (suc n) (x ∷ xs) = ap (λ r. sign_of x ∷ r) (signs-take n xs)

pub valid-accepted : (text : List ℕ) → Valid text → T (accepted (run start (signs text)))
valid-accepted text v = subst (λ xs. T (accepted (run start xs))) v.spelled (spelled-accepted v.row)

pub accepted-valid : (text : List ℕ) → T (accepted (run start (signs text))) → Valid text
accepted-valid text h = let w = accepted-spelled (signs text) h in record { row = w.row; spelled = w.spelled }

-- a text whose signs pass can be mended, and one whose signs do not cannot
pub live-mendable : (text : List ℕ) (p : Phase) (d : ℕ) (r : Bool) → run start (signs text) ≡ live p d r → Mendable text
live-mendable text p d r e =
    let w = live-ends p d r in
    let whole : run start (signs (text ++ w.ending)) ≡ run (live p d r) (signs w.ending) = ap (run start) (signs-append text w.ending) ∙ run-append start (signs text) (signs w.ending) ∙ ap (λ s. run s (signs w.ending)) e in
    record { ending = w.ending; mended = accepted-valid (text ++ w.ending) (subst (λ s. T (accepted s)) (sym whole) w.mends) }

pub dead-not-mendable : (text : List ℕ) → run start (signs text) ≡ dead → Mendable text → ⊥
dead-not-mendable text e m =
    let whole : run start (signs (text ++ m.ending)) ≡ run dead (signs m.ending) = ap (run start) (signs-append text m.ending) ∙ run-append start (signs text) (signs m.ending) ∙ ap (λ s. run s (signs m.ending)) e in
    dead_not (signs m.ending) (subst (λ s. T (accepted s)) whole (valid-accepted (text ++ m.ending) m.mended))

-- where the signs stop passing
pub record Alive (s : State) : Type 0 where
  pub at : Live
  pub is : s ≡ Some at

pub record Stops (s : State) (xs : List Sign) (n : ℕ) : Type 0 where
  pub within : n ≤ length xs
  pub alive : Alive (run s (take n xs))
  pub dies : n < length xs → run s (take (suc n) xs) ≡ dead

stops : (l : Live) (xs : List Sign) → Stops (Some l) xs (passes (Some l) xs)
unfolding passes passes_by run
stops l [] = record { within = omega arith; alive = record { at = l; is = refl }; dies = λ h. absurd (omega arith) }
stops l (x ∷ xs) = go (step (Some l) x) refl (λ m. stops m xs)
  where
    go : (s : State) → step (Some l) x ≡ s → ((m : Live) → Stops (Some m) xs (passes (Some m) xs)) → Stops (Some l) (x ∷ xs) (passes_by s (passes s xs))
    go None e k = record { within = omega arith; alive = record { at = l; is = refl }; dies = λ h. e }
    go (Some m) e k = record {
      within = omega (arith, (k m).within);
      alive = subst (λ s. Alive (run s (take (passes (Some m) xs) xs))) (sym e) (k m).alive;
      dies = λ h. subst (λ s. run s (take (suc (passes (Some m) xs)) xs) ≡ dead) (sym e) ((k m).dies (omega arith));
    }

-- the place of 16
pub scan-breaks : (text : List ℕ) → (T (accepted (run start (signs text))) → ⊥) → Breaks text (passes start (signs text))
unfolding start
scan-breaks text h =
    let n = passes (live Awaiting zero false) (signs text) in
    let w = stops (record { phase = Awaiting; depth = zero; right = false }) (signs text) in
    record {
      invalid = λ v. h (valid-accepted text v);
      within = omega (arith, w.within, signs-length text);
      mendable = live-mendable (take n text) w.alive.at.phase w.alive.at.depth w.alive.at.right (ap (run (live Awaiting zero false)) (signs-take n text) ∙ w.alive.is);
      first = λ l. dead-not-mendable (take (suc n) text) (ap (run (live Awaiting zero false)) (signs-take (suc n) text) ∙ w.dies (omega (arith, signs-length text)));
    }

-- the same of what the scan answers
module _ (text : List ℕ) where
  abbrev broken_at : Scanned → ℕ
  broken_at (Ok u) = zero
  broken_at (Err b) = b.place

  kept : (b : Bool) (p : ℕ) → cond b keeps_rules (breaks_at p) ≡ keeps_rules → T b
  kept true p e = tt
  kept false p e = absurd (let z : ◌≡◌ {A = ℕ} 0 1 = cc in omega arith)

  failed : (b : Bool) (p q : ℕ) → cond b keeps_rules (breaks_at p) ≡ breaks_at q → (T b → ⊥) × (p ≡ q)
  failed true p q e = absurd (let z : ◌≡◌ {A = ℕ} 0 1 = cc in omega arith)
  failed false p q e = ((λ t. t), ap broken_at e)

  pub keeps-valid : scanned text ≡ keeps_rules → Valid text
  unfolding scanned
  keeps-valid e = accepted-valid text (kept (accepted (run start (signs text))) (passes start (signs text)) e)

  pub fails-breaks : (p : ℕ) → scanned text ≡ breaks_at p → Breaks text p
  unfolding scanned
  fails-breaks p e =
      let f = failed (accepted (run start (signs text))) (passes start (signs text)) p e in
      subst (Breaks text) f.1 (scan-breaks text f.0)

  -- a text that keeps the rules breaks them nowhere, and one that breaks them does so at one place
  pub valid-keeps : Valid text → scanned text ≡ keeps_rules
  valid-keeps v = go (scanned text) refl
    where
      go : (s : Scanned) → scanned text ≡ s → s ≡ keeps_rules
      go (Ok u) e = refl
      go (Err b) e = absurd ((fails-breaks b.place e).invalid v)

  earlier : {p q : ℕ} → Breaks text p → Breaks text q → p < q → ⊥
  earlier {p} {q} b d h =
      let m = d.mendable in
      let w = d.within in
      let cut : take (suc p) text ++ drop (suc p) (take q text) ≡ take q text =
      ap (λ xs. xs ++ drop (suc p) (take q text)) (sym (take-take (suc p) q text (omega arith))) ∙ take-append-drop (suc p) (take q text) in
      b.first (omega arith) (record {
        ending = drop (suc p) (take q text) ++ m.ending;
        mended = subst Valid (ap (λ xs. xs ++ m.ending) (sym cut) ∙ append_assoc (take (suc p) text) (drop (suc p) (take q text)) m.ending) m.mended;
      })

  pub breaks-one : {p q : ℕ} → Breaks text p → Breaks text q → p ≡ q
  breaks-one {p} {q} b d = ⊎_elim (λ h. absurd (earlier b d h)) (λ h. ⊎_elim (λ k. absurd (earlier d b k)) (λ k. omega arith) (compare q p)) (compare p q)

  pub breaks-fails : (p : ℕ) → Breaks text p → scanned text ≡ breaks_at p
  breaks-fails p b = go (scanned text) refl
    where
      go : (s : Scanned) → scanned text ≡ s → s ≡ breaks_at p
      go (Ok u) e = absurd (b.invalid (keeps-valid e))
      go (Err d) e = ap breaks_at (breaks-one (fails-breaks d.place e) b)
