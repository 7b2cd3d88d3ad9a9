use Rattle.std.proofs.Common.{◌≡◌, map, subst, ap, ◌∙◌}
use Rattle.std.specs.List.{flat_map}
use Rattle.tap_report.specs.declared.index.Index.{Index}
use Rattle.tap_report.specs.Frames.{frames}
use Rattle.tap_report.specs.Index.{roles}
use Rattle.tap_report.specs.Report.{CountsCapped}
use Rattle.tap_report.specs.Rows.{device_rows, fate_and_len, file_row, frames_of_run, ring_row}
use Rattle.tap_report.specs.Turns.{phase_turns, turns}
use Rattle.tap_report.proofs.Totals.{is_report}
use Rattle.tap_report.proofs.rows.report.Goals as goal

pub returns : goal.returns
returns c =
    let s = c.args.scenario.now in
    let t = c.args.trace.now in
    let all : c.in_ok-frames.frames ≡ frames_of_run s t = c.in_ok-frames.ensures ∙ ap (λ x. frames x t) c.in_ok-index.ensures in
    let roles_are : c.as_slice-roles.result.now ≡ roles s = c.as_slice-roles.ensures ∙ ap (λ (x : Index). x.roles) c.in_ok-index.ensures in
    let turns_are : c.as_slice-5.result.now ≡ turns (roles s) t =
    c.as_slice-5.ensures ∙ c.in_ok-turns.ensures ∙ ap (λ ps. flat_map (phase_turns c.as_slice-roles.result.now) ps) c.as_slice.ensures
    ∙ ap (λ rs. turns rs t) roles_are in
    is_report s t _
    (c.in_ok-device_rows.ensures ∙ ap (λ fs. device_rows fs 0 c.as_slice-3.result.now) (c.as_slice-2.ensures ∙ all) ∙ ap (device_rows (frames_of_run s t) 0) c.as_slice-3.ensures)
    (c.in_ok-file_rows.ensures ∙ ap (map file_row) c.as_slice-4.ensures)
    (c.in_ok-ring_rows.ensures ∙ ap (λ rs. map (ring_row rs c.as_slice-5.result.now c.as_slice-guests.result.now) c.as_slice-6.result.now) roles_are
    ∙ ap (λ us. map (ring_row (roles s) us c.as_slice-guests.result.now) c.as_slice-6.result.now) turns_are
    ∙ ap (λ gs. map (ring_row (roles s) (turns (roles s) t) gs) c.as_slice-6.result.now) c.as_slice-guests.ensures
    ∙ ap (map (ring_row (roles s) (turns (roles s) t) t.guests)) c.as_slice-6.ensures)
    (subst (λ fs. CountsCapped c.total.result (map fate_and_len fs)) (c.as_slice-7.ensures ∙ all) c.total.ensures)
