use Rattle.std.proofs.Common.{refl, ap}
use Rattle.tap_world.specs.declared.event.EventKind.TheVariants as kind
use Rattle.core_shared.specs.declared.doing.Doing.TheVariants as doing
use Rattle.tap_world.specs.Line.{File}
use Rattle.tap_sound.proofs.Kit.{only_some}
use Rattle.core_shared.proofs.Knowing.{may_do}
use Rattle.core_rings.proofs.Done.{file_done, frames_stay}
use Rattle.core_rings.proofs.Events.{here, there}
use Rattle.core_rings.proofs.Rows.{reopen_event}
use Rattle.core_rings.proofs.gates.reopen.Goals as goal

pub side_mut-side-requires : goal.side_mut-side-requires
side_mut-side-requires c =
    let m = may_do c.requires.may kind.Reopen (λ actors said. refl) in
    there _ _ _ _ _ _ _ _ (reopen_event c.args.asked.now c.args.shared.now c.args.file c.args.op m)

pub reopen-requires : goal.reopen-requires
reopen-requires c =
    let m = may_do c.requires.may kind.Reopen (λ actors said. refl) in
    let e = here _ _ _ _ _ _ _ _ _ (reopen_event c.args.asked.now c.args.shared.now c.args.file c.args.op m) c.side_mut-side.ensures.value in
    e.may

pub returns : goal.returns
returns c =
    let m = may_do c.requires.may kind.Reopen (λ actors said. refl) in
    let e = here _ _ _ _ _ _ _ _ _ (reopen_event c.args.asked.now c.args.shared.now c.args.file c.args.op m) c.side_mut-side.ensures.value in
    let sent = frames_stay c.args.asked.now c.args.shared.now c.args.file c.side_mut-side.result.now c.reopen.new.self m.held c.side_mut-side.ensures.value
    c.reopen.ensures.frames in
    let epoch = ap (λ (f : File). f.epoch) (only_some _ _ _ c.reopen.ensures.file).1 in
    record {
      went = (
        kind.Reopen,
        file_done c.args.asked.now (doing.Opens c.args.file c.args.op) kind.Reopen c.args.shared.now c.args.file _ _ _ _ _
            e.has m.held c.side_mut-side.ensures.value c.reopen.ensures.file sent (rw (c.seen.ensures, c.epoch-epoch.ensures, ← epoch) refl) m.suits,
      );
    }
