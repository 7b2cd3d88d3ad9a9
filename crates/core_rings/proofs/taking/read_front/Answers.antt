use Rattle.std.proofs.Common.{◌≡◌, ◌∙◌, refl, sym, ap, ◌+◌, subst, ℕ}
use Rattle.tap_world.specs.declared.event.EventKind.TheVariants as kind
use Rattle.core_shared.specs.declared.doing.Doing.TheVariants as doing
use Rattle.std.specs.Prelude.{IfSome, slice_get}
use Rattle.tap_guests.specs.Backs.{front_of}
use Rattle.tap_lines.specs.Framed.{IsFrameOf}
use Rattle.tap_trace.specs.declared.answer.Answer.TheVariants as answer
use Rattle.tap_world.specs.declared.line.Entry.{Entry}
use Rattle.tap_world.specs.Frames.{text_in}
use Rattle.tap_world.specs.Line.{first_that, in_batch}
use Rattle.core_shared.proofs.Kit.{if_there, is_there}
use Rattle.core_shared.proofs.Knowing.{has_room}
use Rattle.core_shared.proofs.Leaving.{sent_of}
use Rattle.core_shared.proofs.Taking.{about_there}
use Rattle.core_shared.specs.Asking.{setup}
use Rattle.core_shared.specs.Coming.{onward_of}
use Rattle.core_shared.specs.Suiting.{SuitsOn}
use Rattle.core_shared.specs.declared.onward.Onward.{Onward}
use Rattle.core_shared.specs.declared.onward.Onward.TheVariants as on
use Rattle.core_rings.proofs.Done.{file_done, frames_go}
use Rattle.core_rings.proofs.Reading.{read_event, room_now, text_is}
use Rattle.core_rings.proofs.taking.read_front.Goals as goal

pub side_mut-side-requires : goal.side_mut-side-requires
side_mut-side-requires c = about_there c.requires.may c.args.file refl

pub batch_place-place-requires-clause-some : goal.batch_place-place-requires-clause-some
batch_place-place-requires-clause-some c =
    let e = read_event c.args.asked.now c.args.shared.now c.args.file c.args.room c.args.shape c.side_mut-side.result.now c.requires.may c.side_mut-side.ensures.value in
    is_there (first_that in_batch c.side_mut-side.result.now.file.line) e.index e.first

pub batch_place-place-requires-clause-places : goal.batch_place-place-requires-clause-places
batch_place-place-requires-clause-places c =
    (has_room c.requires.may c.args.file c.side_mut-side.result.now c.side_mut-side.ensures.value).ordered.places

pub leave-frame-requires : goal.leave-frame-requires
leave-frame-requires c =
    let e = read_event c.args.asked.now c.args.shared.now c.args.file c.args.room c.args.shape c.side_mut-side.result.now c.requires.may c.side_mut-side.ensures.value in
    e.may

pub spell-requires : goal.spell-requires
spell-requires c = room_now c.args.asked.now c.args.shared.now c.args.file c.args.room c.args.shape c.requires.may

pub returns : goal.returns
returns c =
    let m = c.requires.may in
    let a = c.args.asked.now in
    let side = c.side_mut-side.result.now in
    let frame = c.leave-frame.result in
    let e = read_event a c.args.shared.now c.args.file c.args.room c.args.shape side m c.side_mut-side.ensures.value in
    let its : IsFrameOf e.entry frame =
    if_there (slice_get side.file.line e.index) (λ (d : Entry). IsFrameOf d frame) e.entry e.is_entry
    (if_there (first_that in_batch side.file.line) (λ (i : ℕ). IfSome (slice_get side.file.line i) (λ (d : Entry). IsFrameOf d frame)) e.index e.first
    c.leave-frame.ensures.frame.its) in
    let was = sent_of (setup a) c.args.shared.now c.args.file side m.held c.side_mut-side.ensures.value c.leave-frame.ensures.frame.index frame
    c.leave-frame.ensures.frame.stood in
    let bytes = c.in_ok-bytes.ensures ∙ text_is (setup a) c.args.shape frame e.entry e.frame c.args.room was its.name its.mark e.is_frame in
    let place = if_there (first_that in_batch side.file.line) (λ (i : ℕ). c.batch_place-place.result ≡ side.file.first + i) e.index e.first
    c.batch_place-place.ensures in
    let name = c.name-name.ensures ∙ its.name in
    let told : c.answer.result ≡ on.Ends a.seen (answer.Read e.entry.name (side.file.first + e.index) (text_in (front_of c.args.shape) e.frame c.args.room)) =
    c.answer.ensures ∙ rw (name, place, bytes) refl in
    let sent = frames_go a c.args.shared.now c.args.file side _ _ _ m.held c.side_mut-side.ensures.value c.leave-frame.ensures.frame in
    record {
      did = file_done a (doing.Reads c.args.file c.args.room c.args.shape) kind.Out c.args.shared.now c.args.file _ _ c.answer.result _ _
          e.has m.held c.side_mut-side.ensures.value c.leave-frame.ensures.file sent
          (ap (λ (g : Onward). onward_of c.args.shared.now.vhosts g) (sym told))
          (subst (λ (g : Onward). SuitsOn c.args.shared.now.vhosts a g) (sym told) tt);
    }
