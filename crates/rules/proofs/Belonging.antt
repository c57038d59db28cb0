-- The sheets of every paper whose second sheet opens belong together (02, order 7), so those of every accepted paper do, and of every paper of
-- which a hypothesis is shown; sheets with different paper numbers are never accepted together, whatever else they hold; sheets apart are told
-- as 18, a cut number as 4, and sheets that belong together open. Assumes nothing.
use mathlib.Core.Path.{◌≡◌, refl, sym, ap, ◌∙◌, subst}
use mathlib.Core.Bool.{Bool, true, false}
use mathlib.Core.List.{List}
use Prim.Native.Nat.{ℕ, zero, suc, ◌≤◌, ◌<◌}
use native.Mathlib.Omega.{arith}
use lib.Dec.{T}
use borrow.Author.Tests.{lt-leb}
use lib.ListN.{length}
use Rattle.formats.specs.Versions.{version_fits, pair_of, has_paper}
use Rattle.formats.specs.Reading.{Got, got, refused, and_then, ◌>>=◌, ◌>>◌, give, here, finished, u32, header, paper_if, read_paper}
use Rattle.formats.specs.Rows.{Condition}
use Rattle.formats.specs.Model.{Model}
use Rattle.formats.specs.declared.Limits.{Limits}
use Rattle.formats.specs.ModelSheet.{limits_fit, limits_test, read_model}
use Rattle.formats.specs.Certificate.{read_regions}
use Rattle.formats.specs.RunSheet.{read_opening}
use Rattle.formats.proofs.Versions.{versions-exactly, pair-early, pair-late, papers-exactly}
use Rattle.formats.proofs.Gives.{gives-bind, gives_then, gives-give, gives-any, passes}
use Rattle.formats.proofs.FieldLaws.{field-got, field_cut}
use Rattle.formats.proofs.WellFormed.{body-headed, paper-gives}
use Rattle.formats.proofs.Header.{header_read, paper-read}
use Rattle.formats.proofs.ModelSheet.{in-a-chain}
use Rattle.rules.specs.Opening.{open_model, open_second}
use Rattle.rules.specs.ReadWell.{read_certificate, read_run_sheet}
use Rattle.rules.specs.Marking.{answer, with_model, mark_regions, mark_certificate, mark_opening, mark_run}
use Rattle.rules.specs.Belonging.{version_of, number_of, Pair, one-one, two-one, three-three, Together}
use Rattle.rules.specs.Obligations.{Hypothesis}
use Rattle.rules.specs.Beside.{Found, found, unfound, find_after, find_hypothesis}
use Rattle.rules.proofs.Calls.{certificate_by, run_by, found_by}
use Rattle.rules.proofs.Opening.{Begins, begins, read-opens}
use Rattle.rules.proofs.Pairing.{second-pairs, versions-apart, paper-cut, papers-apart, opens-pair}
use Rattle.rules.proofs.CertificateExactly.{accepted-holds}
use Rattle.rules.proofs.RunExactly.{run-exactly}

-- what a model has of its sheet's front: its version, and from version 3 on its paper number, which before counts as 0
pub record Fronted (m : Model) (s : List ℕ) : Type 0 where
  pub fits : T (version_fits 1 m.version)
  pub version : m.version ≡ version_of s
  pub number : has_paper m.version ≡ true → m.paper ≡ number_of s
  pub none : has_paper m.version ≡ false → m.paper ≡ 0

pub model-fronted : (limits : Limits) (s : List ℕ) (m : Model) (end : ℕ) → read_model limits s ≡ got m end → Fronted m s
unfolding ◌>>=◌ version_of number_of
model-fronted limits s m end e =
    let a = passes (header 1 s 0) _ s m end (sym (in-a-chain limits s) ∙ e) in
    let b = passes (read_paper a.value s a.place) _ s m end a.second in
    let h = header_read 1 s 0 a.value a.place a.first in
    let k =
    (gives-bind (gives-any {r = here})
    (λ place u. gives-bind (body-headed a.value b.value) (λ x w. gives_then finished (gives_then (limits_test limits x.components place) (gives-give x w))))
    ).holds s b.place m end b.second in
    record {
      fits = subst (λ (v : ℕ). T (version_fits 1 v)) (sym k.0) h.fits;
      version = k.0 ∙ h.byte;
      number = λ t.
          k.1
          ∙ (paper-read a.value s b.value b.place (ap has_paper (sym k.0) ∙ t) (ap (read_paper a.value s) (sym h.ends) ∙ b.first)).number;
      none = λ t. k.1 ∙ (paper-gives a.value).holds s a.place b.value b.place b.first (ap has_paper (sym k.0) ∙ t);
    }

-- versions that go together, of the three that models have
paired : (v : ℕ) → 1 ≤ v → v ≤ 3 → Pair v (pair_of v)
paired zero h k = absurd (omega arith)
paired (suc zero) h k = subst (Pair 1) (sym (pair-early 1 (omega arith))) one-one
paired (suc (suc zero)) h k = subst (Pair 2) (sym (pair-early 2 (omega arith))) two-one
paired (suc (suc (suc zero))) h k = subst (Pair 3) (sym (pair-late 3 (omega arith))) three-three
paired (suc (suc (suc (suc v)))) h k = absurd (omega arith)

-- a second sheet that opens
pub opened-together : (limits : Limits) (model second : List ℕ) (m : Model) (end kind version next : ℕ) → read_model limits model ≡ got m end → open_second kind m second 0 ≡ got version next → Together model second
unfolding version_of number_of
opened-together limits model second m end kind version next e d =
    let f = model-fronted limits model m end e in
    let w = second-pairs kind m second version next d in
    let h = header_read kind second 0 version w.place w.headed in
    let r = ((versions-exactly 1 m.version).0 f.fits).0 in
    record {
      versions =
          subst (λ (v : ℕ). Pair v (version_of second)) f.version
          (subst (Pair m.version) (sym w.pair ∙ h.byte) (paired m.version r.0 r.1));
      numbers = λ l.
          let late : 3 ≤ m.version = omega (arith, f.version) in
          let same : version ≡ m.version = w.pair ∙ pair-late m.version late in
          sym
          (paper-read version second m.paper next ((papers-exactly version).1 (omega (arith, same, late)))
          (ap (read_paper version second) (sym h.ends) ∙ w.paper)
          ).number
          ∙ f.number ((papers-exactly m.version).1 late);
    }

-- accepted papers
module _ (limits : Limits) (model second : List ℕ) where
  pub certificate-together : (mark_certificate limits model second).number ≡ 0 → Together model second
  unfolding read_certificate ◌>>◌
  certificate-together e =
      let h = accepted-holds limits model second e in
      let w = passes (open_second 2 h.m second 0) _ second h.certificate h.second_end h.second_reads in
      opened-together limits model second h.m h.model_end 2 w.value w.place h.model_reads w.first

  pub run-together : (mark_run limits model second).number ≡ 0 → Together model second
  unfolding read_run_sheet ◌>>◌
  run-together e =
      let h = (run-exactly limits model second).0 e in
      let w = passes (open_second 3 h.m second 0) _ second h.sheet h.second_end h.second_reads in
      opened-together limits model second h.m h.model_end 3 w.value w.place h.model_reads w.first

  -- a paper of which a hypothesis is found
  pub found-together : (o h : ℕ) (x : Hypothesis) → find_hypothesis limits model second o h ≡ found x → Together model second
  unfolding find_hypothesis find_after ◌>>◌
  found-together o h x e = go (begins limits model)
    where
      wrong : (number sheet at : ℕ) → ◌≡◌ {A = Found} (unfound number sheet at) (found x) → Together model second
      wrong number sheet at d = let z : ◌≡◌ {A = ℕ} 0 1 = cc in absurd (omega arith)

      after : (m : Model) (g : Got (List Condition)) → find_after m o h g ≡ found x → (regions : List Condition) × (next : ℕ) × (g ≡ got regions next)
      after m (got regions next) d = (regions, next, refl)
      after m (refused number at) d = let z : ◌≡◌ {A = ℕ} 0 1 = cc in absurd (omega arith)

      go : Begins limits model (open_model limits model) → Together model second
      go (Begins.unfit r d) = wrong 5 2 0 (ap (found_by second o h) (sym d) ∙ e)
      go (Begins.unread number at t r d) = wrong number 0 at (ap (found_by second o h) (sym d) ∙ e)
      go (Begins.begun m end t r d) =
          let g = after m ((open_second 2 m >> read_regions m) second 0) (ap (found_by second o h) (sym d) ∙ e) in
          let w = passes (open_second 2 m second 0) _ second g.0 g.1 g.2 in
          opened-together limits model second m end 2 w.value w.place r w.first

  -- different numbers
  module _ (late : 3 ≤ version_of model) (apart : number_of second ≡ number_of model → ⊥) where
    pub certificate-apart : (mark_certificate limits model second).number ≡ 0 → ⊥
    certificate-apart e = apart ((certificate-together e).numbers late)

    pub run-apart : (mark_run limits model second).number ≡ 0 → ⊥
    run-apart e = apart ((run-together e).numbers late)

-- Once the model is read and the header of the second sheet is right: sheets apart are told as 18, versions at place 2, numbers at place 4; a cut
-- number as 4 at place 4; and where both are the same, the sheet opens at place 8
module _ (limits : Limits) (model second : List ℕ) (m : Model) (end : ℕ) (e : read_model limits model ≡ got m end) where
  module _ (kind version place : ℕ) (d : header kind second 0 ≡ got version place) where
    pub versions-told : (Pair (version_of model) (version_of second) → ⊥) → open_second kind m second 0 ≡ refused 18 2
    unfolding version_of
    versions-told apart =
        let f = model-fronted limits model m end e in
        let r = ((versions-exactly 1 m.version).0 f.fits).0 in
        let h = header_read kind second 0 version place d in
        versions-apart kind m second version place d
        (λ pair.
        apart
        (subst (λ (v : ℕ). Pair v (version_of second)) f.version
        (subst (Pair m.version) (sym pair ∙ h.byte) (paired m.version r.0 r.1))))

    -- sheets of one version from 3 on
    module _ (late : 3 ≤ version_of model) (same : version_of second ≡ version_of model) where
      own : 3 ≤ m.version
      own = omega (arith, late, (model-fronted limits model m end e).version)

      at-four : header kind second 0 ≡ got version 4
      at-four = d ∙ ap (λ (p : ℕ). got version p) (header_read kind second 0 version place d).ends

      model's : version ≡ m.version
      unfolding version_of
      model's = (header_read kind second 0 version place d).byte ∙ same ∙ sym (model-fronted limits model m end e).version

      pair : version ≡ pair_of m.version
      pair = model's ∙ sym (pair-late m.version own)

      number : {g : Got ℕ} → paper_if true second 4 ≡ g → read_paper version second 4 ≡ g
      unfolding read_paper
      number r = ap (λ (b : Bool). paper_if b second 4) ((papers-exactly version).1 (omega (arith, model's, own))) ∙ r

      pub numbers-told : 8 ≤ length second → (number_of second ≡ number_of model → ⊥) → open_second kind m second 0 ≡ refused 18 4
      unfolding number_of paper_if u32
      numbers-told long apart =
          papers-apart kind m second version 4 at-four pair (number_of second) 8 (number (field-got 4 second 4 long))
          (λ x. apart (x ∙ (model-fronted limits model m end e).number ((papers-exactly m.version).1 own)))

      pub cut-told : length second < 8 → open_second kind m second 0 ≡ refused 4 4
      unfolding paper_if u32
      cut-told short = paper-cut kind m second version 4 at-four pair 4 4 (number (field_cut 4 second 4 (omega (arith, short))))

      pub same-opens : 8 ≤ length second → number_of second ≡ number_of model → open_second kind m second 0 ≡ got version 8
      unfolding number_of paper_if u32
      same-opens long x =
          opens-pair kind m second version 4 at-four pair 8
          (number (field-got 4 second 4 long)
          ∙ ap (λ (n : ℕ). got n 8) (x ∙ sym ((model-fronted limits model m end e).number ((papers-exactly m.version).1 own))))

    -- and of version 1, beside a model of version 1 or 2
    pub early-opens : version_of model ≤ 2 → version_of second ≡ 1 → open_second kind m second 0 ≡ got version 4
    unfolding version_of has_paper read_paper paper_if give
    early-opens early one =
        let f = model-fronted limits model m end e in
        let h = header_read kind second 0 version place d in
        let is_one : version ≡ 1 = h.byte ∙ one in
        let none : has_paper version ≡ false = lt-leb 3 version (omega (arith, is_one)) in
        let nobody : has_paper m.version ≡ false = lt-leb 3 m.version (omega (arith, early, f.version)) in
        opens-pair kind m second version 4 (d ∙ ap (λ (p : ℕ). got version p) h.ends)
        (is_one ∙ sym (pair-early m.version (omega (arith, early, f.version))))
        4
        (ap (λ (b : Bool). paper_if b second 4) none ∙ ap (λ (n : ℕ). got n 4) (sym (f.none nobody)))

  -- and what a second sheet does not open with, both markings answer
  module _ (fit : T (limits_fit limits)) (number at : ℕ) where
    pub certificate-told : open_second 2 m second 0 ≡ refused number at → mark_certificate limits model second ≡ answer number 1 at 0 0
    unfolding mark_certificate with_model mark_regions ◌>>◌ and_then
    certificate-told d =
        ap (certificate_by second) (read-opens limits model m end fit e)
        ∙ ap (λ (g : Got ℕ). mark_regions m second (and_then g (λ v. read_regions m) second)) d

    pub run-told : open_second 3 m second 0 ≡ refused number at → mark_run limits model second ≡ answer number 1 at 0 0
    unfolding mark_run with_model mark_opening ◌>>◌ and_then
    run-told d =
        ap (run_by second) (read-opens limits model m end fit e) ∙ ap (λ (g : Got ℕ). mark_opening m second (and_then g (λ v. read_opening m) second)) d
