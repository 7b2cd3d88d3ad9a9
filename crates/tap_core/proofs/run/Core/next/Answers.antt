use Rattle.std.proofs.Common.{◌∙◌, ap, false, true}
use Rattle.tap_world.specs.Runs as runs
use Rattle.tap_world.specs.Setup.{setup_of}
use Rattle.tap_core.specs.Running.{Running, world_of}
use Rattle.tap_core.proofs.Leading.{next_is, when_idle, when_kind, when_over, worker_there}
use Rattle.tap_core.proofs.run.Core.next.Goals as goal

pub returns-in_default-current : goal.returns-in_default-current
returns-in_default-current c =
    let i = c.self.inside in
    let s = i.scenario.now in
    when_idle (world_of s i.shared i.actors i.said.items) c.args.actor i.shared.vhosts _ c.in-Some.state.now _ _
    c.in-Some.ensures c.in_default-current.ensures
    (next_is s i.begun i.shared i.actors i.said.items c.args.actor c.worlds_go_on.ensures.first c.runs_go_on.ensures
    c.self.invariant
    ∙ ap (λ (r : Running). runs.next (setup_of r.scenario) r.world c.args.actor) c.self.view_is)

pub next_kind-requires : goal.next_kind-requires
next_kind-requires c =
    let i = c.self.inside in
    worker_there i.scenario.now i.begun i.shared i.actors i.said.items c.args.actor c.in-Some.state.now
    c.in-Some-current.line.now c.doing.result.now c.self.invariant c.in-Some.ensures c.in-Some-current.ensures c.doing.ensures

pub returns-in_default-next_kind : goal.returns-in_default-next_kind
returns-in_default-next_kind c =
    let i = c.self.inside in
    let s = i.scenario.now in
    let w = world_of s i.shared i.actors i.said.items in
    when_over w c.args.actor i.shared.vhosts _ c.in-Some.state.now _ c.in-Some-current.line.now c.doing.result.now _
    c.in-Some.ensures c.in-Some-current.ensures c.doing.ensures (c.in_default-next_kind.ensures w.actors w.said)
    (next_is s i.begun i.shared i.actors i.said.items c.args.actor c.worlds_go_on.ensures.first c.runs_go_on.ensures
    c.self.invariant
    ∙ ap (λ (r : Running). runs.next (setup_of r.scenario) r.world c.args.actor) c.self.view_is)

pub may_go-requires : goal.may_go-requires
may_go-requires c =
    let i = c.self.inside in
    worker_there i.scenario.now i.begun i.shared i.actors i.said.items c.args.actor c.in-Some.state.now
    c.in-Some-current.line.now c.doing-2.result.now c.self.invariant c.in-Some.ensures c.in-Some-current.ensures
    c.doing-2.ensures

pub returns-then-may_go : goal.returns-then-may_go
returns-then-may_go c =
    let i = c.self.inside in
    let s = i.scenario.now in
    let w = world_of s i.shared i.actors i.said.items in
    when_kind w c.args.actor i.shared.vhosts _ c.in-Some.state.now _ c.in-Some-current.line.now c.doing.result.now
    c.doing-2.result.now c.in-Some-next_kind.kind true _ c.in-Some.ensures c.in-Some-current.ensures c.doing.ensures
    (c.in-Some-next_kind.ensures w.actors w.said) c.doing-2.ensures (c.if-may_go.ensures w.actors w.said)
    (next_is s i.begun i.shared i.actors i.said.items c.args.actor c.worlds_go_on.ensures.first c.runs_go_on.ensures
    c.self.invariant
    ∙ ap (λ (r : Running). runs.next (setup_of r.scenario) r.world c.args.actor) c.self.view_is)

pub returns-else-may_go : goal.returns-else-may_go
returns-else-may_go c =
    let i = c.self.inside in
    let s = i.scenario.now in
    let w = world_of s i.shared i.actors i.said.items in
    when_kind w c.args.actor i.shared.vhosts _ c.in-Some.state.now _ c.in-Some-current.line.now c.doing.result.now
    c.doing-2.result.now c.in-Some-next_kind.kind false _ c.in-Some.ensures c.in-Some-current.ensures c.doing.ensures
    (c.in-Some-next_kind.ensures w.actors w.said) c.doing-2.ensures (c.if-may_go.ensures w.actors w.said)
    (next_is s i.begun i.shared i.actors i.said.items c.args.actor c.worlds_go_on.ensures.first c.runs_go_on.ensures
    c.self.invariant
    ∙ ap (λ (r : Running). runs.next (setup_of r.scenario) r.world c.args.actor) c.self.view_is)
