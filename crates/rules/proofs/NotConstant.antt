-- A marker that always answers the same, or prints the same line always, is not this one: among the twelve papers certificates get two
-- numbers and runs get two numbers, and the program prints `SAFE 3` for T with C, `REFUSED 14 1 15 0 0` for T at 5, and for T with C's last
-- proof turned `REFUSED 9 1 44 2 67`. By computation. Assumes nothing.
use mathlib.Core.Path.{◌≡◌, refl, sym, ap, ◌∙◌}
use mathlib.Core.List.{List, [], ◌∷◌, ◌++◌, map}
use Prim.Native.Nat.{ℕ}
use native.Mathlib.Omega.{arith}
use lib.Count.{ones}
use lib.ListN.{get_or}
use Rattle.rules.specs.declared.Answer.{Answer}
use Rattle.farkas.specs.Lists.{every, some}
use Rattle.farkas.specs.Rows.{item, dot, compared, row_holds, zero_row}
use Rattle.farkas.specs.Farkas.{counts, strict_after, plus, add_row, add_entry, add_entries, summed, same_z, coefficients_agree, bound_passes, sums_test, farkas_test}
use Rattle.formats.specs.Versions.{newest, version_fits, pair_of, has_paper, kind_fits, strict_at, keeps_blanks}
use Rattle.formats.specs.Reading.{and_then, ◌>>=◌, ◌>>◌, give, here, expect, big_endian, field, u8, u16, u32, signed, s32, passing, must, within, below, many, each, length_right, sized, header, paper_if, read_paper, finished, within_signed}
use Rattle.formats.specs.Rows.{read_strict, read_row, read_condition}
use Rattle.formats.specs.Model.{has_event, read_mode, read_switch, read_component, read_unsafe, read_model_body}
use Rattle.formats.specs.Locations.{location_count, modes_at, location_of, mode_of}
use Rattle.formats.specs.Joint.{stays, switch_of, leaves, moves, bit, scope_mask, mover_count, part_in, members_move, all_stay, one_moves, is_joint, modes_after, numbers_from, leaving, those, all_staying, silent, in_front, together, switches_of, count_up, join_all, joints_of, joints}
use Rattle.formats.specs.ModelSheet.{exam_limits, limit_fits, limits_fit, read_whole, limits_test, read_model}
use Rattle.formats.specs.Certificate.{read_regions, read_entry, read_entries, read_proof}
use Rattle.formats.specs.RunSheet.{read_values, read_opening, read_flow, read_jump, read_step_of, read_step}
use Rattle.rules.specs.Runs.{condition_holds, present, modes_in, admissible, start_allowed, difference, same_values, rates_hold, still_at_zero, unmentioned, owner_of, variables_that, kept, blank_in_flow, still_variables, blanks_kept, flow_rule, movers, owner_stays, owners_jump, blank_in_jump, staying_variables, staying_kept, jump_rows, jump_rule, after, rule_met, step_allowed, modes_fit, is_unsafe}
use Rattle.rules.specs.Obligations.{nowhere, standing, on_x, on_next, on_rates, time_row, unit, staying_rows, mode_rows, start_hypotheses, flow_hypotheses, unsafe_hypotheses, jump_hypotheses, zero_only, per_row, start_obligations, flow_obligations, unsafe_obligations, location_obligations, jump_obligations, jumps_obligations, obligations_over, region_of, obligations}
use Rattle.rules.specs.Opening.{open_as, open_model, open_second}
use Rattle.rules.specs.Nearest.{nearer, nearest}
use Rattle.rules.specs.Marking.{answer, score_of, refused_score, test_proof, mark_proof, mark_proofs, close_certificate, mark_regions, with_model, mark_certificate, test_step, mark_step, mark_steps, close_run, first_state, mark_opening, mark_run}
use Rattle.rules.specs.Papers.{upper_row, down, t_until, t, t_nine, t_cut, one, c, c_turned, c_twice, c_nine, still, flowing}
use Rattle.rules.specs.Program.{digits, decimal, numbered, text_of, first_length, first_sheet, second_sheet, refused_line, line_for, is_run, mark_line, printed}
use Rattle.rules.proofs.Twelve.{twelve}

-- the number of one of the twelve answers
number_at : ℕ → List Answer → ℕ
number_at i answers = get_or (map (λ a. a.number) answers) i 0

-- two certificates with different numbers: C, and C with region bound 9
pub certificates-differ : (mark_certificate exam_limits t c).number ≡ (mark_certificate exam_limits t c_nine).number → ⊥
unfolding number_at answer
certificates-differ e =
    let one : (mark_certificate exam_limits t c).number ≡ 0 = ap (number_at 10) twelve in
    let other : (mark_certificate exam_limits t c_nine).number ≡ 11 = ap (number_at 6) twelve in
    absurd (omega (arith, one, other, e))

-- two runs with different numbers: T with unsafe −x ≤ −9 from 5 to 9, and T at 5
pub runs-differ : (mark_run exam_limits t_nine (flowing 5 2 9)).number ≡ (mark_run exam_limits t (still 5)).number → ⊥
unfolding number_at answer
runs-differ e =
    let one : (mark_run exam_limits t_nine (flowing 5 2 9)).number ≡ 0 = ap (number_at 11) twelve in
    let other : (mark_run exam_limits t (still 5)).number ≡ 14 = ap (number_at 9) twelve in
    absurd (omega (arith, one, other, e))

-- `SAFE 3`
abbrev line_safe : List ℕ
line_safe = 83 ∷ 65 ∷ 70 ∷ 69 ∷ 32 ∷ 51 ∷ 10 ∷ []

-- `REFUSED 14 1 15 0 0`
abbrev line_still : List ℕ
line_still = 82 ∷ 69 ∷ 70 ∷ 85 ∷ 83 ∷ 69 ∷ 68 ∷ 32 ∷ 49 ∷ 52 ∷ 32 ∷ 49 ∷ 32 ∷ 49 ∷ 53 ∷ 32 ∷ 48 ∷ 32 ∷ 48 ∷ 10 ∷ []

-- `REFUSED 9 1 44 2 67`: 2 of 3 rounded up (02, order 5)
abbrev line_turned : List ℕ
line_turned = 82 ∷ 69 ∷ 70 ∷ 85 ∷ 83 ∷ 69 ∷ 68 ∷ 32 ∷ 57 ∷ 32 ∷ 49 ∷ 32 ∷ 52 ∷ 52 ∷ 32 ∷ 50 ∷ 32 ∷ 54 ∷ 55 ∷ 10 ∷ []

pub printed-lines : (printed (t ++ c) ∷ printed (t ++ still 5) ∷ printed (t ++ c_turned) ∷ []) ≡ (line_safe ∷ line_still ∷ line_turned ∷ [])
unfolding ones every some item dot compared row_holds zero_row plus counts strict_after add_row add_entry add_entries summed same_z coefficients_agree bound_passes sums_test farkas_test and_then ◌>>=◌ ◌>>◌ give here expect big_endian field u8 u16 u32 signed s32 passing must within below many each length_right sized newest version_fits kind_fits pair_of has_paper header paper_if read_paper finished within_signed read_strict strict_at read_row read_condition has_event read_mode read_switch read_component read_unsafe read_model_body location_count modes_at location_of mode_of stays switch_of leaves moves bit scope_mask mover_count part_in members_move all_stay one_moves is_joint modes_after numbers_from leaving those all_staying silent in_front together switches_of count_up join_all joints_of joints exam_limits limit_fits limits_fit read_whole limits_test read_model open_as open_model open_second read_regions read_entry read_entries read_proof read_values read_opening read_flow read_jump read_step_of read_step condition_holds present modes_in admissible start_allowed difference same_values rates_hold still_at_zero keeps_blanks unmentioned owner_of variables_that kept blank_in_flow still_variables blanks_kept flow_rule movers owner_stays owners_jump blank_in_jump staying_variables staying_kept jump_rows jump_rule after rule_met step_allowed modes_fit is_unsafe nowhere standing on_x on_next on_rates time_row unit staying_rows mode_rows start_hypotheses flow_hypotheses unsafe_hypotheses jump_hypotheses zero_only per_row start_obligations flow_obligations unsafe_obligations location_obligations jump_obligations jumps_obligations obligations_over region_of obligations answer nearer nearest score_of refused_score test_proof mark_proof mark_proofs close_certificate mark_regions with_model mark_certificate test_step mark_step mark_steps close_run first_state mark_opening mark_run upper_row down t_until t t_nine t_cut one c c_turned c_twice c_nine still flowing digits decimal numbered text_of first_length first_sheet second_sheet refused_line line_for is_run mark_line printed
printed-lines = refl

pub prints-safe : printed (t ++ c) ≡ line_safe
prints-safe = ap (λ (l : List (List ℕ)). get_or l 0 []) printed-lines

pub prints-still : printed (t ++ still 5) ≡ line_still
prints-still = ap (λ (l : List (List ℕ)). get_or l 1 []) printed-lines

pub prints-turned : printed (t ++ c_turned) ≡ line_turned
prints-turned = ap (λ (l : List (List ℕ)). get_or l 2 []) printed-lines

pub lines-differ : printed (t ++ c) ≡ printed (t ++ still 5) → ⊥
lines-differ e =
    let same : ◌≡◌ {A = ℕ} 83 82 = ap (λ (l : List ℕ). get_or l 0 0) (sym prints-safe ∙ e ∙ prints-still) in
    absurd (omega (arith, same))
