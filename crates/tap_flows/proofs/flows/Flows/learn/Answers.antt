use Rattle.std.proofs.Common.{sym, ap, subst, ◌∙◌, inl, inr, arith}
use Rattle.tap_flows.specs.Flow.{Flow, FlowTable}
use Rattle.tap_flows.specs.FlowList.{AreNotAfter, learn_outcome, learnt}
use Rattle.tap_flows.specs.Nodes.{contents}
use Rattle.tap_flows.proofs.ListLemmas.{latest-list}
use Rattle.tap_flows.proofs.FlowLemmas.{few, renews, full_outcome, made_outcome, full_same, with_flows, learnt_put, latest_put}
use Rattle.tap_flows.proofs.flows.Flows.learn.Goals as goal

-- no flow of the table was updated later
pub renew-requires-clause-latest : goal.renew-requires-clause-latest
renew-requires-clause-latest c =
    (latest-list (contents c.self.inside.table.nodes.items) c.args.now).0 (subst (λ (t : FlowTable). AreNotAfter c.args.now t.flows) (sym c.self.view_is) c.requires.latest)

pub insert-requires-clause-latest : goal.insert-requires-clause-latest
insert-requires-clause-latest c =
    (latest-list (contents c.self.inside.table.nodes.items) c.args.now).0 (subst (λ (t : FlowTable). AreNotAfter c.args.now t.flows) (sym c.self.view_is) c.requires.latest)

-- the node that was found keeps the flow
pub returns-in-Some-clause-learnt : goal.returns-in-Some-clause-learnt
returns-in-Some-clause-learnt c =
    sym (renews c.self.inside.table c.self.invariant.0 c.self.inside.table.limit.nodes c.args.hash c.in-Some.node.number c.self.invariant.1 c.in-Some.ensures.found)
    ∙ ap (λ (t : FlowTable). learn_outcome t.flows t.limit c.args.hash) c.self.view_is

pub returns-in-Some-clause-flows : goal.returns-in-Some-clause-flows
returns-in-Some-clause-flows c =
    let flow : Flow = record { index = c.args.index; updated = c.args.now } in
    with_flows c.self.inside.table c.renew.new.self c.self.inside.age c.args.self.now (λ t. learnt t.flows t.limit c.args.hash flow) c.self.view_is c.renew.ensures.limit
    (learnt_put c.self.inside.table c.renew.new.self c.self.inside.table.limit.nodes c.args.hash flow
    (inr (renews c.self.inside.table c.self.invariant.0 c.self.inside.table.limit.nodes c.args.hash c.in-Some.node.number c.self.invariant.1 c.in-Some.ensures.found)) c.renew.ensures.contents)

pub returns-in-Some-clause-latest : goal.returns-in-Some-clause-latest
returns-in-Some-clause-latest c =
    let flow : Flow = record { index = c.args.index; updated = c.args.now } in
    latest_put c.self.inside.table c.renew.new.self c.args.hash c.args.now flow (omega arith) (subst (λ (t : FlowTable). AreNotAfter c.args.now t.flows) (sym c.self.view_is) c.requires.latest) c.renew.ensures.contents

-- as many flows as there may be
pub returns-then-self-clause-learnt : goal.returns-then-self-clause-learnt
returns-then-self-clause-learnt c =
    sym (full_outcome c.self.inside.table c.self.invariant.0 c.args.hash c.self.invariant.1 c.in_default.ensures.absent c.if-self.true)
    ∙ ap (λ (t : FlowTable). learn_outcome t.flows t.limit c.args.hash) c.self.view_is

pub returns-then-self-clause-flows : goal.returns-then-self-clause-flows
returns-then-self-clause-flows c =
    let full = full_outcome c.self.inside.table c.self.invariant.0 c.args.hash c.self.invariant.1 c.in_default.ensures.absent c.if-self.true in
    full_same c.args.self.now c.args.hash (record { index = c.args.index; updated = c.args.now }) (sym (ap (λ (t : FlowTable). learn_outcome t.flows t.limit c.args.hash) c.self.view_is) ∙ full)

-- fewer
pub insert-requires-clause-room : goal.insert-requires-clause-room
insert-requires-clause-room c =
    let most = few c.self.inside.table c.self.invariant.0 c.self.invariant.1 in
    omega (arith, c.if-self.false)

pub returns-clause-learnt : goal.returns-clause-learnt
returns-clause-learnt c =
    sym (made_outcome c.self.inside.table c.self.invariant.0 c.args.hash c.self.invariant.1 c.in_default.ensures.absent c.if-self.false)
    ∙ ap (λ (t : FlowTable). learn_outcome t.flows t.limit c.args.hash) c.self.view_is

pub returns-clause-flows : goal.returns-clause-flows
returns-clause-flows c =
    let flow : Flow = record { index = c.args.index; updated = c.args.now } in
    with_flows c.self.inside.table c.insert.new.self c.self.inside.age c.args.self.now (λ t. learnt t.flows t.limit c.args.hash flow) c.self.view_is c.insert.ensures.limit
    (learnt_put c.self.inside.table c.insert.new.self c.self.inside.table.limit.nodes c.args.hash flow
    (inl (made_outcome c.self.inside.table c.self.invariant.0 c.args.hash c.self.invariant.1 c.in_default.ensures.absent c.if-self.false)) c.insert.ensures.contents)

pub returns-clause-latest : goal.returns-clause-latest
returns-clause-latest c =
    let flow : Flow = record { index = c.args.index; updated = c.args.now } in
    latest_put c.self.inside.table c.insert.new.self c.args.hash c.args.now flow (omega arith) (subst (λ (t : FlowTable). AreNotAfter c.args.now t.flows) (sym c.self.view_is) c.requires.latest) c.insert.ensures.contents
