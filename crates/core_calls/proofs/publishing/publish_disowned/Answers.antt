use Rattle.std.proofs.Common.{ap, refl, None}
use Rattle.std.specs.Prelude.{is_some}
use Rattle.tap_world.specs.declared.event.EventKind.TheVariants as event
use Rattle.core_shared.proofs.Named.{is_file}
use Rattle.core_shared.proofs.Taking.{about_there}
use Rattle.core_calls.proofs.Facts.{back_vhost}
use Rattle.core_calls.proofs.Publishes.{then_ok, disowned_did}
use Rattle.core_calls.proofs.publishing.publish_disowned.Goals as goal

pub publish_unset-requires-clause-named : goal.publish_unset-requires-clause-named
publish_unset-requires-clause-named c =
    let m = c.requires.may.1 in is_file m c.args.file (about_there m c.args.file refl)

pub publish_unset-requires-clause-there : goal.publish_unset-requires-clause-there
publish_unset-requires-clause-there c =
    let m = c.requires.may.1 in ap (λ o. is_some o) (back_vhost m c.args.vhost 0 None m.suits.0).1

pub returns : goal.returns
returns c =
    let m = c.requires.may.1 in
    let v = back_vhost m c.args.vhost 0 None m.suits.0 in
    record {
      went = then_ok c.publish_unset.result _ _ (λ o h. (
        event.Publish,
        rw (h.shared, h.onward)
            (disowned_did c.args.vhost c.args.file m v.0 v.1),
      )) c.publish_unset.ensures;
    }
