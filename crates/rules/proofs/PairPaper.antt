-- The paper of specs/PairPaper.antt: its certificate is accepted, with all five numbers, and its proofs use a flow row, the time row, a
-- jump row and a staying row; with the other staying row or the time row twice it is refused at that proof, with the proofs before it
-- passed. By computation. Assumes nothing.
use mathlib.Core.Path.{◌≡◌, refl}
use mathlib.Core.Bool.{false}
use mathlib.Core.List.{[], ◌∷◌}
use lib.Count.{ones}
use lib.IntN.{pos, negsuc}
use Rattle.farkas.specs.Lists.{every, some}
use Rattle.farkas.specs.Rows.{item, dot, compared, row_holds, zero_row}
use Rattle.farkas.specs.Farkas.{counts, strict_after, plus, add_row, add_entry, add_entries, summed, same_z, coefficients_agree, bound_passes, sums_test, farkas_test}
use Rattle.formats.specs.Versions.{newest, version_fits, pair_of, has_paper, kind_fits, row_bytes, strict_at, keeps_blanks}
use Rattle.formats.specs.Reading.{and_then, ◌>>=◌, ◌>>◌, give, here, expect, big_endian, field, u8, u16, u32, signed, s32, passing, must, within, below, many, each, length_right, sized, header, paper_if, read_paper, finished, within_signed}
use Rattle.formats.specs.Rows.{read_strict, read_row, read_condition}
use Rattle.formats.specs.Model.{has_event, read_mode, read_switch, read_component, read_unsafe, read_model_body}
use Rattle.formats.specs.Locations.{location_count, modes_at, location_of, mode_of}
use Rattle.formats.specs.Joint.{stays, switch_of, leaves, moves, bit, scope_mask, mover_count, part_in, members_move, all_stay, one_moves, is_joint, modes_after, numbers_from, leaving, those, all_staying, silent, in_front, together, switches_of, count_up, join_all, joints_of, joints}
use Rattle.formats.specs.ModelSheet.{exam_limits, limit_fits, limits_fit, read_whole, limits_test, read_model}
use Rattle.formats.specs.Certificate.{read_regions, read_entry, read_entries, read_proof}
use Rattle.formats.specs.RunSheet.{read_values, read_opening, read_flow, read_jump, read_step_of, read_step}
use Rattle.rules.specs.Runs.{condition_holds, present, modes_in, admissible, start_allowed, difference, same_values, rates_hold, still_at_zero, unmentioned, owner_of, variables_that, kept, blank_in_flow, still_variables, blanks_kept, flow_rule, movers, owner_stays, owners_jump, blank_in_jump, staying_variables, staying_kept, jump_rows, jump_rule, after, rule_met, step_allowed, modes_fit, is_unsafe}
use Rattle.rules.specs.Obligations.{nowhere, standing, on_x, on_next, on_rates, time_row, unit, staying_rows, mode_rows, start_hypotheses, flow_hypotheses, unsafe_hypotheses, jump_hypotheses, zero_only, per_row, start_obligations, flow_obligations, unsafe_obligations, location_obligations, jump_obligations, jumps_obligations, obligations_over, region_of, obligations}
use Rattle.rules.specs.Opening.{open_as, open_model, open_second}
use Rattle.rules.specs.Nearest.{nearer, nearest}
use Rattle.rules.specs.Marking.{answer, score_of, refused_score, test_proof, mark_proof, mark_proofs, close_certificate, mark_regions, with_model, mark_certificate, test_step, mark_step, mark_steps, close_run, first_state, mark_opening, mark_run}
use Rattle.rules.specs.Beside.{found, no_obligation, find_in, find_after, find_hypothesis}
use Rattle.rules.specs.PairPaper.{word, words, parts, pair, once_entry, pair_proofs, pair_turned, pair_twice}

pub pair-marked :
    (mark_certificate exam_limits pair pair_proofs
    ∷ mark_certificate exam_limits pair pair_turned
    ∷ mark_certificate exam_limits pair pair_twice
    ∷ [])
    ≡ (answer 0 1 108 5 100
    ∷ answer 10 1 73 3 60
    ∷ answer 10 1 33 1 20
    ∷ [])
unfolding ones every some item dot compared row_holds zero_row plus counts strict_after add_row add_entry add_entries summed same_z coefficients_agree bound_passes sums_test farkas_test and_then ◌>>=◌ ◌>>◌ give here expect big_endian field u8 u16 u32 signed s32 passing must within below many each length_right sized newest version_fits kind_fits pair_of has_paper header paper_if read_paper finished within_signed row_bytes read_strict strict_at read_row read_condition has_event read_mode read_switch read_component read_unsafe read_model_body location_count modes_at location_of mode_of stays switch_of leaves moves bit scope_mask mover_count part_in members_move all_stay one_moves is_joint modes_after numbers_from leaving those all_staying silent in_front together switches_of count_up join_all joints_of joints exam_limits limit_fits limits_fit read_whole limits_test read_model open_as open_model open_second read_regions read_entry read_entries read_proof read_values read_opening read_flow read_jump read_step_of read_step condition_holds present modes_in admissible start_allowed difference same_values rates_hold still_at_zero keeps_blanks unmentioned owner_of variables_that kept blank_in_flow still_variables blanks_kept flow_rule movers owner_stays owners_jump blank_in_jump staying_variables staying_kept jump_rows jump_rule after rule_met step_allowed modes_fit is_unsafe nowhere standing on_x on_next on_rates time_row unit staying_rows mode_rows start_hypotheses flow_hypotheses unsafe_hypotheses jump_hypotheses zero_only per_row start_obligations flow_obligations unsafe_obligations location_obligations jump_obligations jumps_obligations obligations_over region_of obligations answer nearer nearest score_of refused_score test_proof mark_proof mark_proofs close_certificate mark_regions with_model mark_certificate test_step mark_step mark_steps close_run first_state mark_opening mark_run word words parts pair once_entry pair_proofs pair_turned pair_twice
pair-marked = refl

-- the hypotheses that the proofs name: of the flow the flow row of component 0, at byte 29 of the model, and the time row; of the jump of
-- component 0 alone its jump row, at byte 69, and y' − y ≤ 0
pub pair-rows :
    (find_hypothesis exam_limits pair pair_proofs 1 1
    ∷ find_hypothesis exam_limits pair pair_proofs 1 3
    ∷ find_hypothesis exam_limits pair pair_proofs 3 1
    ∷ find_hypothesis exam_limits pair pair_proofs 3 2
    ∷ [])
    ≡ (found (record { row = record { coefficients = negsuc 0 ∷ pos 0 ∷ pos 1 ∷ pos 0 ∷ pos 1 ∷ []; bound = pos 0; strict = false }; sheet = 0; place = 29; size = 12 })
    ∷ found (nowhere (record { coefficients = pos 0 ∷ pos 0 ∷ pos 0 ∷ pos 0 ∷ negsuc 0 ∷ []; bound = pos 0; strict = false }))
    ∷ found (record { row = record { coefficients = negsuc 0 ∷ pos 0 ∷ pos 1 ∷ pos 0 ∷ []; bound = pos 0; strict = false }; sheet = 0; place = 69; size = 20 })
    ∷ found (nowhere (record { coefficients = pos 0 ∷ negsuc 0 ∷ pos 0 ∷ pos 1 ∷ []; bound = pos 0; strict = false }))
    ∷ [])
unfolding ones every some item dot compared row_holds zero_row plus counts strict_after add_row add_entry add_entries summed same_z coefficients_agree bound_passes sums_test farkas_test and_then ◌>>=◌ ◌>>◌ give here expect big_endian field u8 u16 u32 signed s32 passing must within below many each length_right sized newest version_fits kind_fits pair_of has_paper header paper_if read_paper finished within_signed row_bytes read_strict strict_at read_row read_condition has_event read_mode read_switch read_component read_unsafe read_model_body location_count modes_at location_of mode_of stays switch_of leaves moves bit scope_mask mover_count part_in members_move all_stay one_moves is_joint modes_after numbers_from leaving those all_staying silent in_front together switches_of count_up join_all joints_of joints exam_limits limit_fits limits_fit read_whole limits_test read_model open_as open_model open_second read_regions read_entry read_entries read_proof read_values read_opening read_flow read_jump read_step_of read_step condition_holds present modes_in admissible start_allowed difference same_values rates_hold still_at_zero keeps_blanks unmentioned owner_of variables_that kept blank_in_flow still_variables blanks_kept flow_rule movers owner_stays owners_jump blank_in_jump staying_variables staying_kept jump_rows jump_rule after rule_met step_allowed modes_fit is_unsafe nowhere standing on_x on_next on_rates time_row unit staying_rows mode_rows start_hypotheses flow_hypotheses unsafe_hypotheses jump_hypotheses zero_only per_row start_obligations flow_obligations unsafe_obligations location_obligations jump_obligations jumps_obligations obligations_over region_of obligations answer nearer nearest score_of refused_score test_proof mark_proof mark_proofs close_certificate mark_regions with_model mark_certificate no_obligation find_in find_after find_hypothesis test_step mark_step mark_steps close_run first_state mark_opening mark_run word words parts pair once_entry pair_proofs pair_turned pair_twice
pair-rows = refl
