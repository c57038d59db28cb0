-- The twelve papers of 01, "To prove as a group", with all five numbers of each, by computation. Assumes nothing.
use mathlib.Core.Path.{◌≡◌, refl}
use mathlib.Core.List.{[], ◌∷◌}
use lib.Count.{ones}
use lib.ListN.{set}
use Rattle.farkas.specs.Lists.{every, some}
use Rattle.farkas.specs.Rows.{item, dot, compared, row_holds, zero_row}
use Rattle.farkas.specs.Farkas.{counts, strict_after, plus, add_row, add_entry, add_entries, summed, same_z, coefficients_agree, bound_passes, sums_test, farkas_test}
use Rattle.formats.specs.Versions.{newest, version_fits, pair_of, has_paper, kind_fits, strict_at, keeps_blanks}
use Rattle.formats.specs.Reading.{and_then, ◌>>=◌, ◌>>◌, give, here, expect, big_endian, field, u8, u16, u32, signed, s32, passing, must, within, below, many, each, length_right, sized, header, paper_if, read_paper, finished, within_signed}
use Rattle.formats.specs.Rows.{read_strict, read_row, read_condition}
use Rattle.formats.specs.Model.{has_event, read_mode, read_switch, read_component, read_unsafe, read_model_body}
use Rattle.formats.specs.Locations.{location_count, modes_at, location_of, mode_of}
use Rattle.formats.specs.Joint.{stays, switch_of, leaves, moves, bit, scope_mask, mover_count, part_in, members_move, all_stay, one_moves, is_joint, modes_after, numbers_from, leaving, those, all_staying, silent, in_front, together, switches_of, count_up, join_all, joints_of, joints}
use Rattle.formats.specs.ModelSheet.{exam_limits, limit_fits, limits_fit, read_whole, limits_test, read_model}
use Rattle.formats.specs.Certificate.{read_regions, read_entry, read_entries, read_proof}
use Rattle.formats.specs.RunSheet.{read_values, read_opening, read_flow, read_jump, read_step_of, read_step}
use Rattle.rules.specs.Runs.{condition_holds, present, modes_in, admissible, start_allowed, difference, same_values, rates_hold, still_at_zero, unmentioned, owner_of, variables_that, kept, blank_in_flow, still_variables, blanks_kept, flow_rule, movers, owner_stays, owners_jump, blank_in_jump, staying_variables, staying_kept, jump_rows, jump_rule, after, rule_met, step_allowed, modes_fit, is_unsafe}
use Rattle.rules.specs.Obligations.{nowhere, standing, on_x, on_next, on_rates, time_row, unit, staying_rows, mode_rows, start_hypotheses, flow_hypotheses, unsafe_hypotheses, jump_hypotheses, zero_only, per_row, start_obligations, flow_obligations, unsafe_obligations, location_obligations, jump_obligations, jumps_obligations, obligations_over, region_of, obligations}
use Rattle.rules.specs.Opening.{open_as, open_model, open_second}
use Rattle.rules.specs.Nearest.{nearer, nearest}
use Rattle.rules.specs.Marking.{answer, score_of, refused_score, test_proof, mark_proof, mark_proofs, close_certificate, mark_regions, with_model, mark_certificate, test_step, mark_step, mark_steps, close_run, first_state, mark_opening, mark_run}
use Rattle.rules.specs.Papers.{upper_row, down, t_until, t, t_nine, t_cut, one, c, c_turned, c_twice, c_nine, still, flowing}

pub twelve :
    (mark_certificate exam_limits (set t 2 9) c
    ∷ mark_certificate exam_limits c c
    ∷ mark_certificate exam_limits t_cut c
    ∷ mark_certificate exam_limits (set t 4 0) c
    ∷ mark_certificate exam_limits t c_turned
    ∷ mark_certificate exam_limits t c_twice
    ∷ mark_certificate exam_limits t c_nine
    ∷ mark_run exam_limits t (still 6)
    ∷ mark_run exam_limits t (flowing 5 1 8)
    ∷ mark_run exam_limits t (still 5)
    ∷ mark_certificate exam_limits t c
    ∷ mark_run exam_limits t_nine (flowing 5 2 9)
    ∷ [])
    ≡ (answer 2 0 2 0 0
    ∷ answer 3 0 3 0 0
    ∷ answer 4 0 62 0 0
    ∷ answer 5 0 4 0 0
    ∷ answer 9 1 44 2 67
    ∷ answer 10 1 14 0 0
    ∷ answer 11 1 14 0 0
    ∷ answer 12 1 10 0 0
    ∷ answer 13 1 15 0 0
    ∷ answer 14 1 15 0 0
    ∷ answer 0 1 49 3 100
    ∷ answer 0 1 24 1 100
    ∷ [])
unfolding ones every some item dot compared row_holds zero_row plus counts strict_after add_row add_entry add_entries summed same_z coefficients_agree bound_passes sums_test farkas_test and_then ◌>>=◌ ◌>>◌ give here expect big_endian field u8 u16 u32 signed s32 passing must within below many each length_right sized newest version_fits kind_fits pair_of has_paper header paper_if read_paper finished within_signed read_strict strict_at read_row read_condition has_event read_mode read_switch read_component read_unsafe read_model_body location_count modes_at location_of mode_of stays switch_of leaves moves bit scope_mask mover_count part_in members_move all_stay one_moves is_joint modes_after numbers_from leaving those all_staying silent in_front together switches_of count_up join_all joints_of joints exam_limits limit_fits limits_fit read_whole limits_test read_model open_as open_model open_second read_regions read_entry read_entries read_proof read_values read_opening read_flow read_jump read_step_of read_step condition_holds present modes_in admissible start_allowed difference same_values rates_hold still_at_zero keeps_blanks unmentioned owner_of variables_that kept blank_in_flow still_variables blanks_kept flow_rule movers owner_stays owners_jump blank_in_jump staying_variables staying_kept jump_rows jump_rule after rule_met step_allowed modes_fit is_unsafe nowhere standing on_x on_next on_rates time_row unit staying_rows mode_rows start_hypotheses flow_hypotheses unsafe_hypotheses jump_hypotheses zero_only per_row start_obligations flow_obligations unsafe_obligations location_obligations jump_obligations jumps_obligations obligations_over region_of obligations answer nearer nearest score_of refused_score test_proof mark_proof mark_proofs close_certificate mark_regions with_model mark_certificate test_step mark_step mark_steps close_run first_state mark_opening mark_run upper_row down t_until t t_nine t_cut one c c_turned c_twice c_nine still flowing
twelve = refl
