use Rattle.std.proofs.Common.{refl, sym, subst, List, Option}
use Rattle.tap_world.specs.declared.event.EventKind.TheVariants as kind
use Rattle.core_shared.specs.declared.doing.Doing.TheVariants as doing
use Rattle.tap_frame.specs.Frame.{FrameValue}
use Rattle.core_shared.proofs.Leaving.{AreSent, sent_more, sent_of}
use Rattle.core_shared.specs.Asking.{setup}
use Rattle.core_rings.proofs.Done.{file_done}
use Rattle.core_rings.proofs.Events.{here, there}
use Rattle.core_rings.proofs.Rows.{claim_event}
use Rattle.core_rings.proofs.sending.claim.Goals as goal

pub side_mut-side-requires : goal.side_mut-side-requires
side_mut-side-requires c =
    there _ _ _ _ _ _ _ _ (claim_event c.args.asked.now c.args.shared.now c.args.file c.args.epoch c.args.frame c.requires.may)

pub claim-requires : goal.claim-requires
claim-requires c =
    let e = here _ _ _ _ _ _ _ _ _ (claim_event c.args.asked.now c.args.shared.now c.args.file c.args.epoch c.args.frame c.requires.may)
    c.side_mut-side.ensures.value in
    rw (c.actor.ensures, c.name.ensures, c.kept.ensures) e.may

pub returns-in-Ok : goal.returns-in-Ok
returns-in-Ok c =
    let m = c.requires.may in
    let e = here _ _ _ _ _ _ _ _ _ (claim_event c.args.asked.now c.args.shared.now c.args.file c.args.epoch c.args.frame m) c.side_mut-side.ensures.value in
    let sent = subst (λ (l : List (Option FrameValue)). AreSent (setup c.args.asked.now) l) (sym c.in-Ok.ensures.frames)
    (sent_more (setup c.args.asked.now) c.side_mut-side.result.now.frames
    (sent_of (setup c.args.asked.now) c.args.shared.now c.args.file c.side_mut-side.result.now m.held c.side_mut-side.ensures.value)) in
    record {
      did = file_done c.args.asked.now (doing.Routed c.args.file c.args.epoch c.args.frame) kind.Claim c.args.shared.now c.args.file _ _ _ _ _
          e.has m.held c.side_mut-side.ensures.value (rw (c.actor.ensures, c.name.ensures, c.kept.ensures) at c.in-Ok.ensures.file)
          sent (rw (c.seen.ensures, c.in-Ok.ensures.place) refl) m.suits;
    }
