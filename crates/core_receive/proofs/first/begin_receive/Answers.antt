use Rattle.std.proofs.Common.{true, false, is_some, sym, ap, ◌∙◌}
use Rattle.scen_words.specs.Commands.{vhost_of}
use Rattle.tap_world.specs.declared.event.EventKind.TheVariants as event
use Rattle.core_shared.proofs.Knowing.{may_do}
use Rattle.core_shared.proofs.Taking.{vhost_named}
use Rattle.core_receive.proofs.Begun.{can_begin, first_is}
use Rattle.core_receive.proofs.first.begin_receive.Goals as goal

pub side-requires : goal.side-requires
side-requires c = vhost_named c.requires.may.1 c.args.vhost (ap vhost_of c.requires.command)

pub find_off-requires-clause-may : goal.find_off-requires-clause-may
find_off-requires-clause-may c =
    may_do c.requires.may event.Owner
    (λ actors said. first_is c.args.asked.now c.args.vhost c.args.shared.now c.requires.command actors said c.side.result.now
    c.side.ensures true (ap (λ o. is_some o) (sym c.off.ensures.off ∙ c.in-Some.is)))

pub begin-requires-clause-may : goal.begin-requires-clause-may
begin-requires-clause-may c =
    may_do c.requires.may event.Notices
    (λ actors said. first_is c.args.asked.now c.args.vhost c.args.shared.now c.requires.command actors said c.side.result.now
    c.side.ensures false (ap (λ o. is_some o) (sym c.off.ensures.off ∙ c.in-None.is)))

pub begin-requires-clause-can : goal.begin-requires-clause-can
begin-requires-clause-can c =
    can_begin c.args.asked.now c.args.vhost c.args.shared.now c.requires.command
    (may_do c.requires.may event.Notices
    (λ actors said. first_is c.args.asked.now c.args.vhost c.args.shared.now c.requires.command actors said c.side.result.now
    c.side.ensures false (ap (λ o. is_some o) (sym c.off.ensures.off ∙ c.in-None.is))))
    c.side.result.now c.side.ensures c.in-None.ensures.backed c.in-None.ensures.running
