use Rattle.std.proofs.Common.{refl}
use Rattle.tap_world.specs.declared.event.EventKind.TheVariants as kind
use Rattle.core_shared.specs.declared.doing.Doing.TheVariants as doing
use Rattle.core_shared.proofs.Knowing.{may_do}
use Rattle.core_rings.proofs.Done.{file_done, frames_stay}
use Rattle.core_rings.proofs.Events.{here, there}
use Rattle.core_rings.proofs.Rows.{shut_event}
use Rattle.core_rings.proofs.gates.shut.Goals as goal

pub side_mut-side-requires : goal.side_mut-side-requires
side_mut-side-requires c =
    let m = may_do c.requires.may kind.Shut (λ actors said. refl) in
    there _ _ _ _ _ _ _ _ (shut_event c.args.asked.now c.args.shared.now c.args.file c.args.version m)

pub shut-requires : goal.shut-requires
shut-requires c =
    let m = may_do c.requires.may kind.Shut (λ actors said. refl) in
    let e = here _ _ _ _ _ _ _ _ _ (shut_event c.args.asked.now c.args.shared.now c.args.file c.args.version m) c.side_mut-side.ensures.value in
    e.may

pub returns : goal.returns
returns c =
    let m = may_do c.requires.may kind.Shut (λ actors said. refl) in
    let e = here _ _ _ _ _ _ _ _ _ (shut_event c.args.asked.now c.args.shared.now c.args.file c.args.version m) c.side_mut-side.ensures.value in
    let sent = frames_stay c.args.asked.now c.args.shared.now c.args.file c.side_mut-side.result.now c.shut.new.self m.held c.side_mut-side.ensures.value c.shut.ensures.frames in
    record {
      went = (
        kind.Shut,
        file_done c.args.asked.now (doing.Withdrawn c.args.file c.args.version) kind.Shut c.args.shared.now c.args.file _ _ _ _ _
            e.has m.held c.side_mut-side.ensures.value c.shut.ensures.file sent (rw (c.seen.ensures, c.claimed-claimed.ensures) refl) tt,
      );
    }
