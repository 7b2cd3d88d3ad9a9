use Rattle.std.proofs.Common.{◌≡◌, ap, arith}
use Rattle.std.specs.Option.{is_some}
use Rattle.std.proofs.lemmas.Result.{IfOk-weaker}
use Rattle.tap_trace.specs.declared.trace.Trace.{Trace}
use Rattle.tap_world.specs.Project.{project}
use Rattle.tap_world.specs.Setup.{setup_of}
use Rattle.scen_plain.specs.PlainRun.{IsPlainRun}
use Rattle.scen_plain.proofs.ManyPhases.{all_ended, more_ended, none_ended, phase_left}
use Rattle.scen_plain.proofs.plain.run_plain.Goals as goal

pub loop-init : goal.loop-init
loop-init c = none_ended c.args.scenario.now c.args.seed c.in_ok-core.core c.in_ok-core.ensures

pub begin_phase-requires-clause-left : goal.begin_phase-requires-clause-left
begin_phase-requires-clause-left c =
    let p = phase_left c.args.scenario.now c.args.seed c.loop.counter c.loop.x c.loop.core c.loop.invariant
    (omega (arith, c.loop-test.true, c.len-end.ensures)) in
    ap is_some p.1

pub begin_phase-requires-clause-ended : goal.begin_phase-requires-clause-ended
begin_phase-requires-clause-ended c = c.loop.invariant.ended

pub loop-preserved : goal.loop-preserved
loop-preserved c =
    more_ended c.args.scenario.now c.args.seed c.loop.counter c.loop.x c.in_ok-core-3.field-0-1 c.loop.core
    c.in_ok-core-2.core c.in_ok-core-3.field-0-0 c.loop.invariant (omega (arith, c.loop-test.true, c.len-end.ensures))
    c.in_ok-core-2.ensures c.in_ok-core-3.ensures

pub returns : goal.returns
returns c =
    let core = c.loop.core in
    IfOk-weaker c.project.result (λ (t : Trace). t ≡ project (setup_of core.scenario) core.world)
    (λ (t : Trace). IsPlainRun c.args.scenario.now c.args.seed t)
    (λ t told. all_ended c.args.scenario.now c.args.seed c.loop.counter c.loop.x core t c.loop.invariant
    (omega (arith, c.loop-test.false, c.len-end.ensures)) told)
    c.project.ensures
