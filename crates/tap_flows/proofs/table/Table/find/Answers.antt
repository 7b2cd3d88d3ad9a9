use Rattle.std.proofs.Common.{◌≡◌, ◌≢◌, length, sym, ◌∙◌, arith, rules}
use Rattle.std.proofs.lemmas.Bool.{eqb-true, eqb-false, false≢true}
use Rattle.tap_flows.proofs.TableLemmas.{sizes}
use Rattle.tap_flows.proofs.WalkLemmas.{searched_node, searched_more, searched_none, searched_all}
use Rattle.tap_flows.proofs.table.Table.find.Goals as goal

pub returns-then-eq-clause-absent : goal.returns-then-eq-clause-absent
returns-then-eq-clause-absent c =
    let s = c.requires in
    let i = c.loop.invariant in
    searched_none c.args.self.now s.0 s.1 c.args.hash c.bucket-head.result.number c.loop.place.number c.loop.counter i.0 (i.1 s.0 s.1) (eqb-true _ _ (sym c.eq.ensures ∙ c.if-eq.true))

pub keeps_hash-requires : goal.keeps_hash-requires
keeps_hash-requires c =
    let s = c.requires in
    let i = c.loop.invariant in
    let apart : c.loop.place.number ≢ c.bucket-head.result.number = eqb-false _ _ (sym c.eq.ensures ∙ c.if-eq.false) in
    let node = searched_node c.args.self.now s.0 s.1 c.args.hash c.bucket-head.result.number c.loop.place.number c.loop.counter i.0 (i.1 s.0 s.1) apart in
    let counted : c.args.self.now.nodes.len ≡ length c.args.self.now.nodes.items = search rules in
    omega (arith, node.1, (sizes c.args.self.now _ s.1).nodes)

pub next-place-requires-in-loop : goal.next-place-requires-in-loop
next-place-requires-in-loop c =
    let s = c.requires in
    let i = c.loop.invariant in
    let apart : c.loop.place.number ≢ c.bucket-head.result.number = eqb-false _ _ (sym c.eq.ensures ∙ c.if-eq.false) in
    let node = searched_node c.args.self.now s.0 s.1 c.args.hash c.bucket-head.result.number c.loop.place.number c.loop.counter i.0 (i.1 s.0 s.1) apart in
    let counted : c.args.self.now.chains.next.len ≡ length c.args.self.now.chains.next.items = search rules in
    omega (arith, node.1, (sizes c.args.self.now _ s.1).chains)

pub loop-preserved : goal.loop-preserved
loop-preserved c =
    let i = c.loop.invariant in
    let apart : c.loop.place.number ≢ c.bucket-head.result.number = eqb-false _ _ (sym c.eq.ensures ∙ c.if-eq.false) in (
      i.0,
      λ ages s. searched_more c.args.self.now ages s c.args.hash c.bucket-head.result.number c.loop.place.number c.loop.counter i.0 (i.1 ages s) apart (λ keeps. false≢true (sym c.if-keeps_hash.false ∙ c.keeps_hash.ensures.1 keeps)) c.next-place-in-loop.result.number c.next-place-in-loop.ensures.following,
    )

pub returns-clause-absent : goal.returns-clause-absent
returns-clause-absent c =
    let s = c.requires in
    let i = c.loop.invariant in
    searched_all c.args.self.now s.0 s.1 c.args.hash c.bucket-head.result.number c.loop.place.number c.loop.counter i.0 (i.1 s.0 s.1) (omega arith)
