use Rattle.std.proofs.Common.{ap, Some, eq-eqb, ne_eqb}
use Rattle.std.specs.Prelude.{is_some}
use Rattle.tap_world.specs.declared.event.EventKind.TheVariants as event
use Rattle.core_calls.proofs.Facts.{back_vhost, ring_unserved}
use Rattle.core_calls.proofs.Publishes.{backed_did, goes_did, lawful_back, ring_of_back}
use Rattle.core_calls.proofs.publishing.publish_back.Goals as goal

pub publish-requires-clause-lawful : goal.publish-requires-clause-lawful
publish-requires-clause-lawful c =
    rw c.side_of.ensures (lawful_back c.args.vhost c.args.ring c.args.file c.requires.may.1)

pub give_back-requires-clause-there : goal.give_back-requires-clause-there
give_back-requires-clause-there c =
    let m = c.requires.may.1 in
    rw c.in_ok-version.ensures.shared
    (ap (λ o. is_some o) (back_vhost m c.args.vhost c.args.ring (Some c.args.file) m.suits.0).1)

pub give_back-requires-clause-unserved : goal.give_back-requires-clause-unserved
give_back-requires-clause-unserved c =
    let m = c.requires.may.1 in
    rw c.in_ok-version.ensures.shared
    (ring_unserved c.args.shared.now.vhosts c.args.vhost c.args.ring m.suits.1
    (ring_of_back c.args.vhost c.args.ring c.args.file m))

pub returns-then-ring-eq0 : goal.returns-then-ring-eq0
returns-then-ring-eq0 c =
    let m = c.requires.may.1 in
    let zero_ = c.if-ring-eq0.true in
    record {
      went = (
        event.Publish,
        rw (c.in_ok-version.ensures.shared, c.in_ok-version.ensures.version, c.side_of.ensures)
            (goes_did c.args.vhost c.args.ring c.args.file m zero_ (eq-eqb c.args.ring 0 zero_)),
      );
    }

pub returns-else-ring-eq0 : goal.returns-else-ring-eq0
returns-else-ring-eq0 c =
    let m = c.requires.may.1 in
    let v = back_vhost m c.args.vhost c.args.ring (Some c.args.file) m.suits.0 in
    record {
      went = (
        event.Publish,
        rw (c.give_back.ensures, c.in_ok-version.ensures.shared, c.in_ok-version.ensures.version, c.side_of.ensures)
            (backed_did c.args.vhost c.args.ring c.args.file m v.0 (ne_eqb c.args.ring 0 c.if-ring-eq0.false) v.1),
      );
    }
