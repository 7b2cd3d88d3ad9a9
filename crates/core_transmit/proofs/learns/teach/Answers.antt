use Rattle.std.proofs.Common.{◌≡◌, ℕ, length, sym, ap, ◌∙◌, subst}
use Rattle.tap_lines.specs.Told.{Told, told_more}
use Rattle.tap_steer.specs.declared.operation.Op.TheVariants as op
use Rattle.tap_world.specs.declared.event.Found.TheVariants as found
use Rattle.core_shared.specs.Did.{Did}
use Rattle.core_shared.specs.declared.doing.Doing.TheVariants as doing
use Rattle.core_shared.specs.declared.onward.Onward.TheVariants as on
use Rattle.core_transmit.proofs.Looking.{not_refused, published, taught_named, teaches_did}
use Rattle.core_transmit.proofs.learns.teach.Goals as goal

pub publish-requires-clause-named : goal.publish-requires-clause-named
publish-requires-clause-named c = taught_named c.requires.may.1

pub publish-requires-clause-lawful : goal.publish-requires-clause-lawful
publish-requires-clause-lawful c = not_refused c.args.shared.now.ops.table c.args.file c.args.frame.flow

pub returns : goal.returns
returns c =
    let x = c.args.shared.now in
    let m = c.requires.may.1 in
    let told = λ (p : ℕ × ℕ). told_more (record {
      phase = x.phase;
      actor = p.0;
      command = p.1;
      op = op.Learn c.args.file c.args.frame.flow;
    }) x.ops in
    let more : c.publish.new.self ≡ told_more (published m) x.ops =
    c.in_ok-publish.ensures.ok ∙ ap told (λ i. (c.actor.ensures i, c.number.ensures i)) in
    let seen = c.newest-seen.result in
    let goes = on.Goes seen (doing.Transmits c.args.vhost c.args.file c.args.chains) (found.Version seen) in
    let D = λ (o : Told). Did c.args.asked.now
    (doing.Teaches c.args.vhost c.args.file c.args.chains c.args.frame) c.requires.may.0 x (record x { ops = o }) goes in
    record {
      went = (
        c.requires.may.0,
        subst D (sym more) (teaches_did m seen (c.newest-seen.ensures ∙ ap (λ (o : Told). length o.ops) more)),
      );
    }
