use Rattle.std.proofs.Common.{refl, ap}
use Rattle.scen_words.specs.declared.command.Command.{Command}
use Rattle.tap_steer.specs.declared.operation.Op.TheVariants as op
use Rattle.tap_world.specs.Setup.{op_of}
use Rattle.core_shared.proofs.Named.{named_own}
use Rattle.core_shared.proofs.Taking.{about_there}
use Rattle.core_shared.specs.Asking.{setup}
use Rattle.core_rings.proofs.Telling.{publish_done}
use Rattle.core_rings.proofs.sizing.publish.Goals as goal

pub publish-requires-clause-named : goal.publish-requires-clause-named
publish-requires-clause-named c =
    named_own c.requires.may (op.Resize c.args.file c.args.capacity) (ap (λ (d : Command). op_of (setup c.args.asked.now) d) c.requires.may.suits)

pub side-requires : goal.side-requires
side-requires c = about_there c.requires.may c.args.file refl

pub returns : goal.returns
returns c = record {
  did = publish_done c.args.asked.now c.args.shared.now c.args.file c.args.capacity c.args.claimed c.args.cuts c.side.result.now c.publish.new.self
      c.newest-version.result c.freed.result c.requires.may c.side.ensures (rw (c.actor.ensures, c.number.ensures) at c.in_ok-publish.ensures.ok)
      c.newest-version.ensures c.freed.ensures;
}
