-- Counts, owners, components and unsafe conditions in a chain; each keeps the numbers of those before it. Assumes nothing.
use Rattle.std.proofs.Common.{rules, Err, ◌≡◌, refl, sym, ap, ap₂, ◌∙◌}
use native.Mathlib.Omega.{arith}
use Rattle.formats.specs.Reading.{got, u8, many, below}
use Rattle.models.specs.Index.{entry, owner_place, paper_in, Kept, read_totals, totals_from, parts_from}
use Rattle.fields.specs.Answers.{got_as}
use Rattle.fields.proofs.ChainLaws.{told_at, told-refused}
use Rattle.formats.specs.Joint.{count_up}
use mathlib.Core.List.{List, map}
use Prim.Native.Nat.{ℕ, ◌+◌, ◌*◌}
use Rattle.fields.proofs.AnswerLaws.{next-refused}
use Rattle.fields.specs.Causes.{number_of}
use Rattle.models.proofs.BodyLaws.{totals-small, body-first, body-second, body-read, model-whole}
use Rattle.models.proofs.IndexLaws.{kept_then, kept-wider}
use Rattle.models.proofs.body.body_into.Goals as goal

-- the paper number is kept
paper-same : {x y : List ℕ} → Kept 0 3 x y → paper_in x ≡ paper_in y
paper-same w = ap₂ (λ (a b : ℕ). a * 65536 + b) (sym (w.kept 12 (λ p q. omega arith))) (sym (w.kept 13 (λ p q. omega arith)))

pub bounds-index-0 : goal.bounds-index-0
bounds-index-0 c = omega (arith, c.requires.sized.long, c.totals_into.auto.index)

pub bounds-index-1 : goal.bounds-index-1
bounds-index-1 c = omega (arith, c.requires.sized.long, c.totals_into.auto.index)

pub bounds-index-2 : goal.bounds-index-2
bounds-index-2 c = omega (arith, c.requires.sized.long, c.totals_into.auto.index)

pub owners_into-requires : goal.owners_into-requires
unfolding entry totals_from
owners_into-requires c =
    let a = c.args in
    let s = a.s.now in
    let x = c.totals_into.new.index in
    let t = totals_from x in
    let second = c.in_ok-second.second in
    let one : read_totals s a.at ≡ got t second = told_at t (read_totals s a.at) c.totals_into.ensures.result_after c.in_ok-second.was in
    let small = totals-small s a.at t second one in record { sized = record { short = c.requires.sized.short; long = omega (arith, c.requires.sized.long, c.totals_into.auto.index) }; n_bound = (small.most, small.few) }

pub overflow_cast-c : goal.overflow_cast-c
unfolding entry totals_from
overflow_cast-c c =
    let a = c.args in
    let s = a.s.now in
    let x = c.totals_into.new.index in
    let t = totals_from x in
    let second = c.in_ok-second.second in
    let one : read_totals s a.at ≡ got t second = told_at t (read_totals s a.at) c.totals_into.ensures.result_after c.in_ok-second.was in
    let small = totals-small s a.at t second one in
    omega (arith, small.few)

pub parts_into-requires : goal.parts_into-requires
unfolding entry totals_from
parts_into-requires c =
    let a = c.args in
    let s = a.s.now in
    let x = c.totals_into.new.index in
    let t = totals_from x in
    let second = c.in_ok-second.second in
    let one : read_totals s a.at ≡ got t second = told_at t (read_totals s a.at) c.totals_into.ensures.result_after c.in_ok-second.was in
    let small = totals-small s a.at t second one in
    let y = c.owners_into.new.index in
    let k₁ = c.owners_into.ensures.kept in
    let os = map (λ v. entry y (owner_place v)) (count_up 0 (entry x 0)) in record { sized = record { short = c.requires.sized.short; long = omega (arith, c.requires.sized.long, c.totals_into.auto.index, c.owners_into.auto.index) }; n_bound = (small.most, (small.few, small.conditions)); n_value = (sym (k₁.kept 0 (λ p q. omega arith)), (sym (k₁.kept 1 (λ p q. omega arith)), c.requires.version_value ∙ sym (c.totals_into.ensures.kept.kept 11 (λ p q. omega arith)) ∙ sym (k₁.kept 11 (λ p q. omega arith)))) }

pub returns-in_err-second : goal.returns-in_err-second
unfolding got_as
returns-in_err-second c =
    let a = c.args in
    let s = a.s.now in
    let x = c.totals_into.new.index in
    let same : c.from_residual.result ≡ Err c.in_err-second.field-0.0 = search rules in
    record { result_after = next-refused _ same ∙ sym (body-first a.version (paper_in a.index.now) s a.at (number_of c.in_err-second.field-0.0.0) c.in_err-second.field-0.0.1 (told-refused (totals_from x) (read_totals s a.at) c.totals_into.ensures.result_after c.in_err-second.was)); kept = kept-wider (omega arith) (omega arith) c.totals_into.ensures.kept }

pub returns-in_err-third : goal.returns-in_err-third
unfolding got_as entry totals_from
returns-in_err-third c =
    let a = c.args in
    let s = a.s.now in
    let x = c.totals_into.new.index in
    let t = totals_from x in
    let second = c.in_ok-second.second in
    let one : read_totals s a.at ≡ got t second = told_at t (read_totals s a.at) c.totals_into.ensures.result_after c.in_ok-second.was in
    let small = totals-small s a.at t second one in
    let y = c.owners_into.new.index in
    let k₁ = c.owners_into.ensures.kept in
    let os = map (λ v. entry y (owner_place v)) (count_up 0 (entry x 0)) in
    let same : c.from_residual-in_err-third.result ≡ Err c.in_err-third.field-0.0 = search rules in
    record { result_after = next-refused _ same ∙ sym (body-second a.version (paper_in a.index.now) s a.at t second one (number_of c.in_err-third.field-0.0.0) c.in_err-third.field-0.0.1 (told-refused os (many (entry x 0) (below (entry x 1) u8) s second) c.owners_into.ensures.result_after c.in_err-third.was)); kept = kept_then (kept-wider (omega arith) (omega arith) c.totals_into.ensures.kept) (kept-wider (omega arith) (omega arith) (k₁)) }

pub returns : goal.returns
unfolding entry totals_from
returns c =
    let a = c.args in
    let s = a.s.now in
    let x = c.totals_into.new.index in
    let t = totals_from x in
    let second = c.in_ok-second.second in
    let one : read_totals s a.at ≡ got t second = told_at t (read_totals s a.at) c.totals_into.ensures.result_after c.in_ok-second.was in
    let small = totals-small s a.at t second one in
    let y = c.owners_into.new.index in
    let k₁ = c.owners_into.ensures.kept in
    let os = map (λ v. entry y (owner_place v)) (count_up 0 (entry x 0)) in
    let z = c.parts_into.new.index in
    let third = c.in_ok-third.third in
    let two = told_at os (many (entry x 0) (below (entry x 1) u8) s second) c.owners_into.ensures.result_after c.in_ok-third.was in
    let p = parts_from s a.version (entry x 0) (entry x 1) (entry x 2) z in
    let first = c.totals_into.ensures.kept in
    let e = body-read a.version (paper_in a.index.now) s a.at t second one os third two p c.parts_into.result c.parts_into.ensures.result_after in record { result_after = ap (λ w. got_as w c.parts_into.result) (model-whole a.version (paper_in a.index.now) s x y z os (c.requires.version_value ∙ sym (c.totals_into.ensures.kept.kept 11 (λ p q. omega arith))) (paper-same first) refl k₁ c.parts_into.ensures.kept small.most) ∙ e; kept = kept_then (kept-wider (omega arith) (omega arith) c.totals_into.ensures.kept) (kept_then (kept-wider (omega arith) (omega arith) (k₁)) (kept-wider (omega arith) (omega arith) c.parts_into.ensures.kept)) }
