-- Components, then unsafe conditions over them. Assumes nothing.
use Rattle.std.proofs.Common.{rules, Err, ◌≡◌, sym, ap, ◌∙◌}
use Prim.Native.Nat.{ℕ}
use native.Mathlib.Omega.{arith}
use Rattle.formats.specs.Reading.{got, many}
use Rattle.models.specs.Index.{entry, component_from, component_place, unsafe_place, unsafe_from, components_from, parts_from}
use Rattle.fields.specs.Answers.{got_as}
use Rattle.fields.proofs.ChainLaws.{told_at, told-refused}
use Rattle.fields.proofs.AnswerLaws.{next-refused}
use Rattle.fields.specs.Causes.{number_of}
use Rattle.models.proofs.IndexLaws.{kept_then, kept-wider}
use Rattle.formats.specs.Model.{read_component, read_unsafe}
use Rattle.formats.specs.Joint.{count_up}
use mathlib.Core.List.{map}
use Rattle.models.proofs.BodyLaws.{parts_first, parts-read, blocks-read, components-kept}
use Rattle.models.proofs.body.parts_into.Goals as goal

pub components_into-requires : goal.components_into-requires
components_into-requires c = record { sized = c.requires.sized; n_bound = (c.requires.n_bound.0, c.requires.n_bound.1.0) }

pub unsafes_into-requires : goal.unsafes_into-requires
unsafes_into-requires c =
    let a = c.args in
    let s = a.s.now in
    let n = a.n in
    let version = a.version in
    let m = a.c in
    let x = a.index.now in
    let y = c.components_into.new.index in
    let k₁ = c.components_into.ensures.kept in
    let e₀ : n ≡ entry y 0 = c.requires.n_value.0 ∙ sym (k₁.kept 0 (λ p q. omega arith)) in
    let e₁ : m ≡ entry y 1 = c.requires.n_value.1.0 ∙ sym (k₁.kept 1 (λ p q. omega arith)) in
    let e₂ : version ≡ entry y 11 = c.requires.n_value.1.1 ∙ sym (k₁.kept 11 (λ p q. omega arith)) in
    let cs = map (λ k. component_from s version n y (component_place k)) (count_up 0 m) in
    let next = c.in_ok-next.next in
    let one : many m (read_component version n) s a.at ≡ got cs next = told_at cs (many m (read_component version n) s a.at) c.components_into.ensures.result_after c.in_ok-next.was in
    let small = blocks-read s version n m a.at y next one in record { sized = record { short = c.requires.sized.short; long = omega (arith, c.requires.sized.long, c.components_into.auto.index) }; n_bound = (c.requires.n_bound.0, (e₁, (c.requires.n_bound.1.0, c.requires.n_bound.1.1))); by_index = small }

pub returns-in_err-next : goal.returns-in_err-next
unfolding got_as
returns-in_err-next c =
    let a = c.args in
    let s = a.s.now in
    let n = a.n in
    let version = a.version in
    let m = a.c in
    let x = a.index.now in
    let y = c.components_into.new.index in
    let k₁ = c.components_into.ensures.kept in
    let e₀ : n ≡ entry y 0 = c.requires.n_value.0 ∙ sym (k₁.kept 0 (λ p q. omega arith)) in
    let e₁ : m ≡ entry y 1 = c.requires.n_value.1.0 ∙ sym (k₁.kept 1 (λ p q. omega arith)) in
    let e₂ : version ≡ entry y 11 = c.requires.n_value.1.1 ∙ sym (k₁.kept 11 (λ p q. omega arith)) in
    let same : c.from_residual.result ≡ Err c.in_err-next.field-0.0 = search rules in
    record { result_after = next-refused _ same ∙ sym (parts_first version n m a.count s a.at (number_of c.in_err-next.field-0.0.0) c.in_err-next.field-0.0.1 (told-refused (map (λ k. component_from s version n y (component_place k)) (count_up 0 m)) (many m (read_component version n) s a.at) c.components_into.ensures.result_after c.in_err-next.was)); kept = kept-wider (omega arith) (omega arith) k₁ }

pub returns : goal.returns
unfolding parts_from components_from
returns c =
    let a = c.args in
    let s = a.s.now in
    let n = a.n in
    let version = a.version in
    let m = a.c in
    let x = a.index.now in
    let y = c.components_into.new.index in
    let k₁ = c.components_into.ensures.kept in
    let e₀ : n ≡ entry y 0 = c.requires.n_value.0 ∙ sym (k₁.kept 0 (λ p q. omega arith)) in
    let e₁ : m ≡ entry y 1 = c.requires.n_value.1.0 ∙ sym (k₁.kept 1 (λ p q. omega arith)) in
    let e₂ : version ≡ entry y 11 = c.requires.n_value.1.1 ∙ sym (k₁.kept 11 (λ p q. omega arith)) in
    let cs = map (λ k. component_from s version n y (component_place k)) (count_up 0 m) in
    let next = c.in_ok-next.next in
    let one : many m (read_component version n) s a.at ≡ got cs next = told_at cs (many m (read_component version n) s a.at) c.components_into.ensures.result_after c.in_ok-next.was in
    let small = blocks-read s version n m a.at y next one in
    let z = c.unsafes_into.new.index in
    let k₂ = c.unsafes_into.ensures.kept in
    let us = map (λ u. unsafe_from s version n m z (unsafe_place u)) (count_up 0 a.count) in
    let same : components_from s y ≡ cs = ap (λ (i : ℕ). map (λ k. component_from s i (entry y 0) y (component_place k)) (count_up 0 (entry y 1))) (sym e₂) ∙ ap (λ (i : ℕ). map (λ k. component_from s version i y (component_place k)) (count_up 0 (entry y 1))) (sym e₀) ∙ ap (λ (i : ℕ). map (λ k. component_from s version n y (component_place k)) (count_up 0 i)) (sym e₁) in
    let e = parts-read version n m a.count s a.at cs next one us c.unsafes_into.result (c.unsafes_into.ensures.result_after ∙ ap (λ xs. many a.count (read_unsafe version n xs) s next) same) in
    let first : map (λ k. component_from s version n z (component_place k)) (count_up 0 m) ≡ cs = components-kept s version n m y z c.requires.n_bound.1.0 small k₂ in record { result_after = ap (λ w. got_as w c.unsafes_into.result) (λ i. record { components = first i; unsafe = us }) ∙ e; kept = kept_then (kept-wider (omega arith) (omega arith) k₁) (kept-wider (omega arith) (omega arith) k₂) }
