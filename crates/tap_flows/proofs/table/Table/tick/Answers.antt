use Rattle.std.proofs.Common.{◌≡◌, [], length, sym, ◌∙◌, arith, rules}
use Rattle.std.proofs.lemmas.Bool.{false≢true}
use Rattle.tap_flows.proofs.TableLemmas.{cut_node, sizes}
use Rattle.tap_flows.proofs.WalkLemmas.{sound_none, sound_oldest, ticked_take, ticked_all, ticked_none}
use Rattle.tap_flows.proofs.table.Table.tick.Goals as goal

pub keeps_stale-requires : goal.keeps_stale-requires
keeps_stale-requires c =
    let i = c.loop.invariant in
    let first = sound_oldest c.loop.self i.sound.0 c.oldest-oldest.result.number i.sound.1 (omega (arith, i.counted)) c.oldest-oldest.ensures in
    let node = cut_node _ _ _ _ _ _ _ [] c.oldest-oldest.result.number first.0 first.1 in
    let counted : c.loop.self.nodes.len ≡ length c.loop.self.nodes.items = search rules in
    omega (arith, node.0, (sizes c.loop.self _ first.1).nodes)

pub returns-then-not-keeps_stale-clause-contents : goal.returns-then-not-keeps_stale-clause-contents
returns-then-not-keeps_stale-clause-contents c =
    let i = c.loop.invariant in
    let first = sound_oldest c.loop.self i.sound.0 c.oldest-oldest.result.number i.sound.1 (omega (arith, i.counted)) c.oldest-oldest.ensures in
    sym (ticked_all c.loop.self c.args.age c.args.now c.oldest-oldest.result.number first.0 first.1 (λ keeps. false≢true (sym c.if-not-keeps_stale.true ∙ c.keeps_stale.ensures.1 keeps))) ∙ i.same

pub remove-requires : goal.remove-requires
remove-requires c =
    let i = c.loop.invariant in
    let first = sound_oldest c.loop.self i.sound.0 c.oldest-oldest.result.number i.sound.1 (omega (arith, i.counted)) c.oldest-oldest.ensures in
    record { aged = ([], first.0, first.1) }

pub loop-preserved : goal.loop-preserved
loop-preserved c =
    let i = c.loop.invariant in
    let first = sound_oldest c.loop.self i.sound.0 c.oldest-oldest.result.number i.sound.1 (omega (arith, i.counted)) c.oldest-oldest.ensures in
    record {
      sound = (first.0, c.remove.ensures.sound [] first.0 first.1);
      limit = c.remove.ensures.limit ∙ i.limit;
      same = ticked_take c.loop.self.nodes.items c.remove.new.self.nodes.items c.args.age c.args.now c.oldest-oldest.result.number first.1.distinct (c.keeps_stale.ensures.0 c.if-not-keeps_stale.false) c.remove.ensures.nodes ∙ i.same;
      counted = omega (arith, i.counted, c.remove.ensures.len);
    }

pub returns-clause-contents : goal.returns-clause-contents
returns-clause-contents c =
    let i = c.loop.invariant in
    sym (ticked_none c.loop.self c.args.age c.args.now (sound_none c.loop.self i.sound.0 i.sound.1 (omega (arith, i.counted)))) ∙ i.same
