use Rattle.std.proofs.Common.{◌∙◌, refl}
use Rattle.tap_world.specs.declared.event.EventKind.TheVariants as kind
use Rattle.tap_world.specs.Line.{first_that, in_batch}
use Rattle.core_shared.specs.declared.doing.Doing.TheVariants as doing
use Rattle.core_rings.proofs.Done.{file_done, frames_go, goes_named}
use Rattle.core_rings.proofs.Events.{here, there}
use Rattle.core_rings.proofs.Rows.{purge_event}
use Rattle.core_rings.proofs.taking.purge_front.Goals as goal

pub side_mut-side-requires : goal.side_mut-side-requires
side_mut-side-requires c = there _ _ _ _ _ _ _ _ (purge_event c.args.asked.now c.args.shared.now c.args.file c.args.version c.requires.may)

pub leave-requires : goal.leave-requires
leave-requires c =
    let e = here _ _ _ _ _ _ _ _ _ (purge_event c.args.asked.now c.args.shared.now c.args.file c.args.version c.requires.may) c.side_mut-side.ensures.value in
    e.may

pub returns : goal.returns
returns c =
    let m = c.requires.may in
    let e = here _ _ _ _ _ _ _ _ _ (purge_event c.args.asked.now c.args.shared.now c.args.file c.args.version m) c.side_mut-side.ensures.value in
    let sent = frames_go c.args.asked.now c.args.shared.now c.args.file c.side_mut-side.result.now _ _ _ m.held c.side_mut-side.ensures.value
    c.leave.ensures.frame in
    let name = c.end-name.ensures ∙ goes_named c.side_mut-side.result.now.file.line (first_that in_batch c.side_mut-side.result.now.file.line) c.leave.result e.found c.leave.ensures.frame.its e.is_found in
    record {
      did = file_done c.args.asked.now (doing.Purges c.args.file c.args.version) kind.Out c.args.shared.now c.args.file _ _ _ _ _
          e.has m.held c.side_mut-side.ensures.value c.leave.ensures.file sent (rw (c.seen.ensures, name) refl) tt;
    }
