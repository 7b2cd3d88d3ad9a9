use Rattle.std.proofs.Common.{sym, ◌∙◌, refl}
use Rattle.tap_world.specs.declared.event.EventKind.TheVariants as kind
use Rattle.core_shared.specs.declared.doing.Doing.TheVariants as doing
use Rattle.tap_sound.proofs.Kit.{some_same}
use Rattle.core_rings.proofs.Done.{file_done, frames_stay}
use Rattle.core_rings.proofs.Events.{here, there}
use Rattle.core_rings.proofs.Rows.{move_to_purge_event}
use Rattle.core_rings.proofs.taking.move_to_purge.Goals as goal

pub side_mut-requires : goal.side_mut-requires
side_mut-requires c = there _ _ _ _ _ _ _ _ (move_to_purge_event c.args.asked.now c.args.shared.now c.args.file c.args.version c.requires.may)

pub move_front-name-requires : goal.move_front-name-requires
move_front-name-requires c =
    let e = here _ _ _ _ _ _ _ _ _ (move_to_purge_event c.args.asked.now c.args.shared.now c.args.file c.args.version c.requires.may) c.side_mut.ensures.value in
    e.may

pub returns : goal.returns
returns c =
    let m = c.requires.may in
    let e = here _ _ _ _ _ _ _ _ _ (move_to_purge_event c.args.asked.now c.args.shared.now c.args.file c.args.version m) c.side_mut.ensures.value in
    let sent = frames_stay c.args.asked.now c.args.shared.now c.args.file c.side_mut.result.now c.move_front-name.new.self m.held c.side_mut.ensures.value
    c.move_front-name.ensures.frames in
    let name = some_same c.move_front-name.result e.found (sym c.move_front-name.ensures.name ∙ e.is_found) in
    record {
      did = file_done c.args.asked.now (doing.Purges c.args.file c.args.version) kind.Move c.args.shared.now c.args.file _ _ _ _ _
          e.has m.held c.side_mut.ensures.value c.move_front-name.ensures.file sent (rw (c.seen.ensures, name) refl) tt;
    }
