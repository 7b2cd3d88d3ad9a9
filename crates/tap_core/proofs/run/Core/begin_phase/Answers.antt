use Rattle.std.proofs.Common.{◌≡◌, ◌+◌, rules, sym, subst, true}
use Rattle.std.specs.Prelude.{IfSome, slice_get}
use Rattle.tap_world.specs.Runs.{begins, has_ended}
use Rattle.tap_core.specs.Running.{Running, world_of}
use Rattle.tap_core.proofs.Beginning.{are_few, can_count, goes_on, goes_to, have_actors, phase_is, running}
use Rattle.tap_core.proofs.run.Core.begin_phase.Goals as goal

pub of_phase-requires-clause-actors : goal.of_phase-requires-clause-actors
of_phase-requires-clause-actors c =
    let i = c.self.inside in
    let s = i.scenario.now in
    have_actors s i.begun c.index-as_slice-begun.result c.self.invariant.laid
    (phase_is c.args.self s i.begun _ _ _ c.self.view_is c.as_slice.ensures c.requires.left c.index-as_slice-begun.is)

pub of_phase-requires-clause-few : goal.of_phase-requires-clause-few
of_phase-requires-clause-few c =
    let i = c.self.inside in
    let s = i.scenario.now in
    are_few s i.begun c.index-as_slice-begun.result c.self.invariant.laid
    (phase_is c.args.self s i.begun _ _ _ c.self.view_is c.as_slice.ensures c.requires.left c.index-as_slice-begun.is)

pub overflow_add-result : goal.overflow_add-result
overflow_add-result c =
    let i = c.self.inside in
    let s = i.scenario.now in
    let few =
    can_count s i.begun c.index-as_slice-begun.result c.self.invariant.laid
    (phase_is c.args.self s i.begun _ _ _ c.self.view_is c.as_slice.ensures c.requires.left c.index-as_slice-begun.is) in
    search rules

pub invariant_of-result : goal.invariant_of-result
invariant_of-result c =
    let i = c.self.inside in
    let s = i.scenario.now in
    goes_on s i.shared i.actors c.in-Ok.actors i.said.items i.begun _ c.index-as_slice-begun.result
    c.worlds_go_on.ensures.first c.worlds_go_on.ensures.end c.worlds_go_on.ensures.begin c.self.invariant
    (subst (λ (r : Running). has_ended r.world ≡ true) (sym c.self.view_is) c.requires.ended)
    (phase_is c.args.self s i.begun _ _ _ c.self.view_is c.as_slice.ensures c.requires.left c.index-as_slice-begun.is)
    c.newest-seen.ensures c.in-Ok.ensures

pub returns-in-Ok : goal.returns-in-Ok
returns-in-Ok c =
    let i = c.self.inside in
    let s = i.scenario.now in
    subst
    (λ (r : Running). IfSome (slice_get r.scenario.phases r.begun)
    (λ phase. running s (i.begun + 1) (world_of s (record i.shared { phase = i.begun }) c.in-Ok.actors i.said.items)
    ≡ record r { begun = r.begun + 1; world = begins r.begun phase r.world })) c.self.view_is
    (goes_to s i.shared i.actors c.in-Ok.actors i.said.items i.begun _ c.index-as_slice-begun.result
    (phase_is c.args.self s i.begun _ _ _ c.self.view_is c.as_slice.ensures c.requires.left c.index-as_slice-begun.is)
    c.newest-seen.ensures c.in-Ok.ensures)
