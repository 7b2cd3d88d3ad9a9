use Rattle.std.proofs.Common.{◌≤◌, arith}
use Rattle.tap_flows.proofs.FlowLemmas.{latest_later}
use Rattle.tap_flows.proofs.tests.most_of.Goals as goal

-- time goes on
pub call-requires : goal.call-requires
call-requires g c =
    let later : c.loop.now ≤ c.saturating_add-now.result = omega (arith, c.loop.invariant.0, c.saturating_add-now.ensures) in
    latest_later c.loop.flows.flows c.loop.now c.saturating_add-now.result later c.loop.invariant.1
