use Rattle.std.proofs.Common.{string_bytes}
use Rattle.scen_text.proofs.PhaseRows.{bare_more, rows_more}
use Rattle.scen_text.proofs.writing.put_phases.Goals as goal

pub loop-phase-preserved : goal.loop-phase-preserved
loop-phase-preserved c =
    let bare = c.loop-phase.invariant.1 in (
      rows_more c.args.names.now _ (string_bytes c.loop-phase.out) _ c.args.phases.now c.loop-phase.phase-index c.phase-item.result c.loop-phase.bare c.is_bare-bare.result c.loop-phase-test.true
          c.phase-item.is bare c.is_bare-bare.ensures c.loop-phase.invariant.0 c.in_ok-put_phase.ensures,
      bare_more c.args.phases.now c.loop-phase.phase-index c.phase-item.result c.loop-phase.bare c.is_bare-bare.result c.loop-phase-test.true c.phase-item.is bare c.is_bare-bare.ensures,
    )
