-- A certificate is accepted exactly when the stated limits fit, both sheets read well and every obligation's multipliers meet Farkas'
-- condition. The marking reads and tests proof by proof; that is the same as reading all proofs and then testing all. Assumes nothing.
use mathlib.Core.Path.{◌≡◌, refl, sym, ap, ◌∙◌, subst}
use mathlib.Core.Logic.{◌↔◌}
use mathlib.Core.List.{List, [], ◌∷◌}
use Prim.Native.Nat.{ℕ, zero, suc, ◌+◌, ◌≤◌}
use native.Mathlib.Omega.{arith}
use lib.Dec.{T}
use lib.ListN.{length}
use Rattle.farkas.specs.Farkas.{Proof, Meets, farkas_test}
use Rattle.farkas.proofs.Promise.{zero-means}
use Rattle.formats.specs.Reading.{Got, got, refused, Reader, ◌>>=◌, ◌>>◌, give, each, finished}
use Rattle.formats.specs.Rows.{Condition}
use Rattle.formats.specs.Model.{Model}
use Rattle.formats.specs.declared.Limits.{Limits}
use Rattle.formats.specs.ModelSheet.{limits_fit, read_model}
use Rattle.formats.specs.Certificate.{read_regions, read_proof}
use Rattle.formats.proofs.Gives.{passes, got-value, each-got, bind-got, then-got}
use Rattle.formats.proofs.Placed.{FineTo, Fine, placed-finished}
use Rattle.rules.specs.declared.Answer.{Answer}
use Rattle.rules.specs.Obligations.{Obligation, zero_only, obligations}
use Rattle.rules.proofs.Opening.{read-opens, with-model}
use Rattle.rules.specs.Opening.{open_model, open_second}
use Rattle.rules.specs.Marking.{answer, score_of, refused_score, Marked, passed, stopped, test_proof, mark_proof, mark_proofs, close_certificate, mark_regions, with_model, mark_certificate}
use Rattle.rules.proofs.MarkedRanges.{Marks, proofs-mark, regions-fine}
use Rattle.rules.specs.ReadWell.{Certificate, read_proofs, read_certificate, rows_of, AllMeet, met-none, met-more, CertificateHolds}

-- one proof: it reads, and meets the condition
abbrev pub read_one : Obligation → Reader Proof
read_one o = read_proof (length o.hypotheses) (zero_only o.kind)

proof-step : (o : Obligation) (place n : ℕ) (p q : Proof) (next at : ℕ) → farkas_test (rows_of o) o.goal p ≡ n → ◌≡◌ {A = Got Proof} (elim n [ zero ↦ got p next | suc k ↦ refused (suc k) place ]) (got q at) → (◌≡◌ {A = Got Proof} (got p next) (got q at)) × (farkas_test (rows_of o) o.goal p ≡ 0)
proof-step o place zero p q next at e h = (h, e)
proof-step o place (suc k) p q next at e h = let z : ◌≡◌ {A = ℕ} 0 1 = cc in absurd (omega arith)

pub tested-proof : (o : Obligation) (place : ℕ) (g : Got Proof) (q : Proof) (at : ℕ) → test_proof o place g ≡ got q at → (g ≡ got q at) × Meets (rows_of o) o.goal q
unfolding test_proof rows_of
tested-proof o place (refused number p) q at h = let z : ◌≡◌ {A = ℕ} 0 1 = cc in absurd (omega arith)
tested-proof o place (got p next) q at h =
    let w = proof-step o place (farkas_test (rows_of o) o.goal p) p q next at refl h in
    let same : p ≡ q = let e = w.0 in cc in
    (w.0, subst (λ x. Meets (rows_of o) o.goal x) same ((zero-means (rows_of o) o.goal p).0 w.1))

test-passes : (o : Obligation) (place : ℕ) (p : Proof) (next : ℕ) → Meets (rows_of o) o.goal p → test_proof o place (got p next) ≡ got p next
unfolding test_proof rows_of
test-passes o place p next h = go (farkas_test (rows_of o) o.goal p) ((zero-means (rows_of o) o.goal p).1 h)
  where
    go : (n : ℕ) → n ≡ 0 → ◌≡◌ {A = Got Proof} (elim n [ zero ↦ got p next | suc k ↦ refused (suc k) place ]) (got p next)
    go zero e = refl
    go (suc k) e = absurd (omega arith)

-- all proofs: they read one after the other, and each meets the condition
pub record AllRead (all : List Obligation) (s : List ℕ) (place next : ℕ) : Type 0 where
  pub proofs : List Proof
  pub read : read_proofs all s place ≡ got proofs next
  pub meet : AllMeet all proofs

proofs-step : (o : Obligation) (rest : List Obligation) (s : List ℕ) (place done : ℕ) (g : Got Proof) → mark_proof o s place ≡ g → (u : Unit {0}) (next d : ℕ) → ◌≡◌ {A = Marked (Unit {0})} (elim g [ got p k ↦ mark_proofs rest s k (suc done) | refused number at ↦ stopped number at done ]) (passed u next d) → ((k : ℕ) → mark_proofs rest s k (suc done) ≡ passed u next d → AllRead rest s k next × (d ≡ suc done + length rest)) → AllRead (o ∷ rest) s place next × (d ≡ done + length (o ∷ rest))
unfolding mark_proof read_proofs
proofs-step o rest s place done (refused number at) e u next d h later = let z : ◌≡◌ {A = ℕ} 0 1 = cc in absurd (omega arith)
proofs-step o rest s place done (got p k) e u next d h later =
    let w = tested-proof o place (read_one o s place) p k e in
    let v = later k h in (
      record {
        proofs = p ∷ v.0.proofs;
        read = each-got read_one o rest s place w.0 v.0.read;
        meet = met-more w.1 v.0.meet;
      },
      omega (arith, v.1),
    )

pub marked-read : (all : List Obligation) (s : List ℕ) (place done : ℕ) (u : Unit {0}) (next d : ℕ) → mark_proofs all s place done ≡ passed u next d → AllRead all s place next × (d ≡ done + length all)
unfolding mark_proofs read_proofs each give
marked-read [] s place done u next d h =
    let at : place ≡ next = cc in
    let count : done ≡ d = cc in
    (record { proofs = []; read = ap (λ (n : ℕ). got [] n) at; meet = met-none }, omega arith)
marked-read (o ∷ rest) s place done u next d h =
    proofs-step o rest s place done (mark_proof o s place) refl u next d h (λ k e. marked-read rest s k (suc done) u next d e)

-- and the other way
pub meet-head : {o : Obligation} {p : Proof} {rest : List Obligation} {proofs : List Proof} → AllMeet (o ∷ rest) (p ∷ proofs) → Meets (rows_of o) o.goal p
meet-head (met-more h t) = h

pub meet-tail : {o : Obligation} {p : Proof} {rest : List Obligation} {proofs : List Proof} → AllMeet (o ∷ rest) (p ∷ proofs) → AllMeet rest proofs
meet-tail (met-more h t) = t

pub read-marked : (all : List Obligation) (s : List ℕ) (place done : ℕ) (proofs : List Proof) (next : ℕ) → read_proofs all s place ≡ got proofs next → AllMeet all proofs → mark_proofs all s place done ≡ passed tt next (done + length all)
unfolding mark_proofs read_proofs each give ◌>>=◌ mark_proof
read-marked [] s place done proofs next e h =
    let at : place ≡ next = cc in
    ap (λ (n : ℕ). passed tt n done) at ∙ ap (λ (n : ℕ). passed tt next n) (nothing-more done)
  where
    nothing-more : (n : ℕ) → n ≡ n + 0
    nothing-more n = omega arith
read-marked (o ∷ rest) s place done proofs next e h =
    let w = passes (read_one o s place) (λ b. each read_one rest >>= λ r. give (b ∷ r)) s proofs next e in
    let v = passes (each read_one rest s w.place) (λ r. give (w.value ∷ r)) s proofs next w.second in
    let whole : w.value ∷ v.value ≡ proofs = let d = v.second in cc in
    let end : v.place ≡ next = let d = v.second in cc in
    let meet = subst (λ ps. AllMeet (o ∷ rest) ps) (sym whole) h in
    let passes-one : mark_proof o s place ≡ got w.value w.place = ap (test_proof o place) w.first ∙ test-passes o place w.value w.place (meet-head meet) in
    let later : mark_proofs rest s w.place (suc done) ≡ passed tt v.place (suc done + length rest) = read-marked rest s w.place (suc done) v.value v.place v.first (meet-tail meet) in
    ap (λ g. elim g as (λ x. Marked (Unit {0})) [ got p k ↦ mark_proofs rest s k (suc done) | refused number at ↦ stopped number at done ]) passes-one
    ∙ later
    ∙ ap (λ (n : ℕ). passed tt n (suc done + length rest)) end
    ∙ ap (λ (n : ℕ). passed tt next n) (one_more done (length rest))
  where
    one_more : (a b : ℕ) → suc a + b ≡ a + suc b
    one_more a b = omega arith

-- a marking stops with a number from 1, and passes to a place within the sheet
stops : (all : List Obligation) (s : List ℕ) (place : ℕ) → place ≤ length s → (number at d : ℕ) → mark_proofs all s place 0 ≡ stopped number at d → 1 ≤ number
stops all s place l number at d e = (subst (λ k. Marks s (length all) k) e (proofs-mark all s place 0 (length all) l (omega arith))).0

goes_on : (all : List Obligation) (s : List ℕ) (place : ℕ) → place ≤ length s → (u : Unit {0}) (next d : ℕ) → mark_proofs all s place 0 ≡ passed u next d → next ≤ length s
goes_on all s place l u next d e = (subst (λ k. Marks s (length all) k) e (proofs-mark all s place 0 (length all) l (omega arith))).0

-- what acceptance tells of each part
record ModelRead (limits : Limits) (s : List ℕ) (f : Model → Answer) : Type 0 where
  m : Model
  end : ℕ
  fit : T (limits_fit limits)
  read : read_model limits s ≡ got m end
  rest : (f m).number ≡ 0

model-read : (limits : Limits) (s : List ℕ) (f : Model → Answer) → (with_model (open_model limits s) f).number ≡ 0 → ModelRead limits s f
unfolding answer
model-read limits s f =
    with-model (λ a. a.number ≡ 0 → ModelRead limits s f) limits s f
    (λ h. absurd (omega arith))
    (λ number at i j k h. absurd (omega arith))
    (λ m next t e h. record { m = m; end = next; fit = t; read = e; rest = h })

record RegionsRead (m : Model) (s : List ℕ) (g : Got (List Condition)) : Type 0 where
  regions : List Condition
  place : ℕ
  read : g ≡ got regions place
  within : place ≤ length s
  rest : (close_certificate (length (obligations m regions)) s (mark_proofs (obligations m regions) s place 0)).number ≡ 0

regions-read : (m : Model) (s : List ℕ) (g : Got (List Condition)) → FineTo 18 s 0 g → (mark_regions m s g).number ≡ 0 → RegionsRead m s g
unfolding mark_regions answer
regions-read m s (refused n at) fine h = absurd (omega (arith, fine.0))
regions-read m s (got regions place) fine h = record { regions = regions; place = place; read = refl; within = fine.1; rest = h }

record CertificateClosed (s : List ℕ) (k : Marked (Unit {0})) : Type 0 where
  next : ℕ
  done : ℕ
  end : ℕ
  passes : k ≡ passed tt next done
  finishes : finished s next ≡ got tt end

close-step : (total next done : ℕ) (s : List ℕ) (g : Got (Unit {0})) → finished s next ≡ g → (elim g as (λ x. Answer) [ got v k ↦ answer 0 1 (length s) done (score_of done total) | refused n at ↦ answer n 1 at done (refused_score done total) ]).number ≡ 0 → Fine s next g → CertificateClosed s (passed tt next done)
unfolding answer
close-step total next done s (got v k) e h fine = record { next = next; done = done; end = k; passes = refl; finishes = e }
close-step total next done s (refused n at) e h fine = absurd (omega (arith, fine.0))

close-read : (total : ℕ) (s : List ℕ) (k : Marked (Unit {0})) → ((number at d : ℕ) → k ≡ stopped number at d → 1 ≤ number) → ((u : Unit {0}) (next d : ℕ) → k ≡ passed u next d → next ≤ length s) → (close_certificate total s k).number ≡ 0 → CertificateClosed s k
unfolding close_certificate answer
close-read total s (stopped n at d) stop on h = absurd (omega (arith, stop n at d refl))
close-read total s (passed u next d) stop on h = close-step total next d s (finished s next) refl h ((placed-finished {least = 0}).fine s next (omega arith) (on u next d refl))

-- the second sheet's parts, put together
pub whole-certificate : (m : Model) (s : List ℕ) (regions : List Condition) (place next end : ℕ) (proofs : List Proof) → (open_second 2 m >> read_regions m) s 0 ≡ got regions place → read_proofs (obligations m regions) s place ≡ got proofs next → finished s next ≡ got tt end → read_certificate m s 0 ≡ got (record { regions = regions; proofs = proofs }) end
unfolding read_certificate ◌>>◌ give
whole-certificate m s regions place next end proofs r p f =
    let h = passes (open_second 2 m s 0) (λ v. read_regions m) s regions place r in
    then-got (open_second 2 m) (read_regions m >>= λ x. read_proofs (obligations m x) >>= λ y. finished >> give (record { regions = x; proofs = y })) s 0 h.first
    (bind-got (read_regions m) (λ x. read_proofs (obligations m x) >>= λ y. finished >> give (record { regions = x; proofs = y })) s h.place h.second
    (bind-got (read_proofs (obligations m regions)) (λ y. finished >> give (record { regions = regions; proofs = y })) s place p
    (then-got finished (give (record { regions = regions; proofs = proofs })) s next f refl)))

pub accepted-holds : (limits : Limits) (model second : List ℕ) → (mark_certificate limits model second).number ≡ 0 → CertificateHolds limits model second
unfolding mark_certificate
accepted-holds limits model second h =
    let w = model-read limits model (λ m. mark_regions m second ((open_second 2 m >> read_regions m) second 0)) h in
    let r = regions-read w.m second ((open_second 2 w.m >> read_regions w.m) second 0) (regions-fine w.m second) w.rest in
    let all = obligations w.m r.regions in
    let c = close-read (length all) second (mark_proofs all second r.place 0) (stops all second r.place r.within) (goes_on all second r.place r.within) r.rest in
    let v = (marked-read all second r.place 0 tt c.next c.done c.passes).0 in
    record {
      fit = w.fit;
      m = w.m;
      model_end = w.end;
      model_reads = w.read;
      certificate = record { regions = r.regions; proofs = v.proofs };
      second_end = c.end;
      second_reads = whole-certificate w.m second r.regions r.place c.next c.end v.proofs r.read v.read c.finishes;
      meet = v.meet;
    }

-- and taken apart
pub record CertificateParts (m : Model) (s : List ℕ) (c : Certificate) : Type 0 where
  pub place : ℕ
  pub next : ℕ
  pub end : ℕ
  pub regions : (open_second 2 m >> read_regions m) s 0 ≡ got c.regions place
  pub proofs : read_proofs (obligations m c.regions) s place ≡ got c.proofs next
  pub finishes : finished s next ≡ got tt end

parts_from_lem : (m : Model) (s : List ℕ) (c : Certificate) (regions : List Condition) (proofs : List Proof) (place next end : ℕ) → (open_second 2 m >> read_regions m) s 0 ≡ got regions place → read_proofs (obligations m regions) s place ≡ got proofs next → finished s next ≡ got tt end → record { regions = regions; proofs = proofs } ≡ c → CertificateParts m s c
parts_from_lem m s c regions proofs place next end r p f same =
    subst (λ x. CertificateParts m s x) same (record { place = place; next = next; end = end; regions = r; proofs = p; finishes = f })

pub parts-of : (m : Model) (s : List ℕ) (c : Certificate) (end : ℕ) → read_certificate m s 0 ≡ got c end → CertificateParts m s c
unfolding read_certificate ◌>>◌ ◌>>=◌ give
parts-of m s c end e =
    let h = passes (open_second 2 m s 0) (λ v. read_regions m >>= λ x. read_proofs (obligations m x) >>= λ y. finished >> give (record { regions = x; proofs = y })) s c end e in
    let r = passes (read_regions m s h.place) (λ x. read_proofs (obligations m x) >>= λ y. finished >> give (record { regions = x; proofs = y })) s c end h.second in
    let p = passes (read_proofs (obligations m r.value) s r.place) (λ y. finished >> give (record { regions = r.value; proofs = y })) s c end r.second in
    let f = passes (finished s p.place) (λ u. give (record { regions = r.value; proofs = p.value })) s c end p.second in
    parts_from_lem m s c r.value p.value r.place p.place f.place
    (then-got (open_second 2 m) (read_regions m) s 0 h.first r.first)
    p.first
    f.first
    (got-value f.second)

pub holds-accepted : (limits : Limits) (model second : List ℕ) → CertificateHolds limits model second → (mark_certificate limits model second).number ≡ 0
unfolding mark_certificate with_model mark_regions close_certificate answer
holds-accepted limits model second w =
    let v = parts-of w.m second w.certificate w.second_end w.second_reads in
    let all = obligations w.m w.certificate.regions in
    let passes-all = read-marked all second v.place 0 w.certificate.proofs v.next v.proofs w.meet in
    ap (λ g. (with_model g (λ m. mark_regions m second ((open_second 2 m >> read_regions m) second 0))).number) (read-opens limits model w.m w.model_end w.fit w.model_reads)
    ∙ ap (λ g. (mark_regions w.m second g).number) v.regions
    ∙ ap (λ k. (close_certificate (length all) second k).number) passes-all
    ∙ ap (λ g. (elim g as (λ x. Answer) [ got u k ↦ answer 0 1 (length second) (0 + length all) (score_of (0 + length all) (length all)) | refused n at ↦ answer n 1 at (0 + length all) (refused_score (0 + length all) (length all)) ]).number) v.finishes

-- demand 2 for certificates
pub certificate-exactly : (limits : Limits) (model second : List ℕ) → ((mark_certificate limits model second).number ≡ 0) ↔ CertificateHolds limits model second
certificate-exactly limits model second = (accepted-holds limits model second, holds-accepted limits model second)
