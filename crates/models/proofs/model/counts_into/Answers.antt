-- Three fields in a chain, kept one after the other. Assumes nothing.
use Rattle.std.proofs.Common.{rules, Err, ◌≡◌, sym, ap, ◌∙◌}
use Prim.Native.Nat.{ℕ, ◌<◌, ◌%◌}
use native.Mathlib.Omega.{arith}
use lib.ListN.{length-set}
use Rattle.formats.specs.Reading.{got, u8, within}
use Rattle.models.specs.Index.{read_alphabet}
use Rattle.fields.specs.Answers.{got_as}
use Rattle.fields.proofs.AnswerLaws.{next-refused}
use Rattle.models.proofs.IndexLaws.{kept-none}
use Rattle.fields.proofs.AnswerLaws.{field-value, field-refused}
use Rattle.formats.proofs.FieldLaws.{range-read}
use native.Mathlib.Nat.{mod-eq_of_lt}
use Rattle.models.proofs.ComponentLaws.{alphabet-small, counts-first, counts-second, counts-third, counts-read, counts-put}
use Rattle.models.proofs.model.counts_into.Goals.{In_ok-events, In_ok-modes, In_ok-switches}
use Rattle.models.proofs.model.counts_into.Goals as goal

-- what each field was read as
events-read : (c : In_ok-events) → read_alphabet c.args.s.now c.args.at ≡ got c.in_ok-events.events c.in_ok-events.second
events-read c = sym c.alphabet.ensures ∙ field-value c.in_ok-events.was

modes-read : (c : In_ok-modes) → within 1 8 u8 c.args.s.now c.in_ok-events.second ≡ got c.in_ok-modes.modes c.in_ok-modes.third
modes-read c = sym c.byte_within.ensures ∙ field-value c.in_ok-modes.was

switches-read : (c : In_ok-switches) → within 0 32 u8 c.args.s.now c.in_ok-modes.third ≡ got c.in_ok-switches.switches c.in_ok-switches.next
switches-read c = sym c.byte_within-2.ensures ∙ field-value c.in_ok-switches.was

pub overflow_cast-index-2 : goal.overflow_cast-index-2
overflow_cast-index-2 c = omega (arith, (range-read u8 1 8 _ _ _ _ (modes-read (goal.at.overflow_cast-index-2 c).In_ok-modes)).high)

pub bounds-index-block-2 : goal.bounds-index-block-2
bounds-index-block-2 c = simp length-set (omega (arith, c.requires))

pub overflow_cast-index-3 : goal.overflow_cast-index-3
overflow_cast-index-3 c = omega (arith, (range-read u8 0 32 _ _ _ _ (switches-read c)).high)

pub bounds-index-block-3 : goal.bounds-index-block-3
bounds-index-block-3 c = simp length-set (omega (arith, c.requires))

pub returns-in_err-events : goal.returns-in_err-events
unfolding got_as
returns-in_err-events c = let same : c.from_residual.result ≡ Err c.in_err-events.field-0.0 = search rules in
    record { result_after = next-refused _ same ∙ (sym (counts-first _ _ _ _ (sym c.alphabet.ensures ∙ field-refused c.in_err-events.was))); kept = kept-none _ _ _ }

pub returns-in_err-modes : goal.returns-in_err-modes
unfolding got_as
returns-in_err-modes c = let same : c.from_residual-in_err-modes.result ≡ Err c.in_err-modes.field-0.0 = search rules in
    record { result_after = next-refused _ same ∙ (sym (counts-second _ _ _ _ (events-read (goal.at.returns-in_err-modes c).In_ok-events) _ _ (sym c.byte_within.ensures ∙ field-refused c.in_err-modes.was))); kept = kept-none _ _ _ }

pub returns-in_err-switches : goal.returns-in_err-switches
unfolding got_as
returns-in_err-switches c = let same : c.from_residual-in_err-switches.result ≡ Err c.in_err-switches.field-0.0 = search rules in
    record { result_after = next-refused _ same ∙ (sym (counts-third _ _ _ _ (events-read (goal.at.returns-in_err-switches c).In_ok-events) _ _ (modes-read (goal.at.returns-in_err-switches c).In_ok-modes) _ _ (sym c.byte_within-2.ensures ∙ field-refused c.in_err-switches.was))); kept = kept-none _ _ _ }

pub returns : goal.returns
unfolding got_as
returns c =
    let a = c.args in
    let events = c.in_ok-events.events in
    let modes = c.in_ok-modes.modes in
    let switches = c.in_ok-switches.switches in
    let small : events < 65536 = alphabet-small _ _ _ _ (λ i. (c.shared_slice_known-1.given i).fits) (events-read (goal.at.returns c).In_ok-events) in
    let v = counts-put a.index.now a.block (events % 65536) modes switches (omega (arith, c.requires)) in record { result_after = ap (λ w. got w c.in_ok-switches.next) (v.0 ∙ ap (λ (x : ℕ). record { alphabet = x; modes = modes; switches = switches }) (mod-eq_of_lt small)) ∙ sym (counts-read _ _ _ _ (events-read (goal.at.returns c).In_ok-events) _ _ (modes-read (goal.at.returns c).In_ok-modes) _ _ (switches-read c)); kept = v.1 }
