use Rattle.std.proofs.Common.{◌≡◌, ℕ, ◌-◌, ◌∙◌, refl, sym, ap, subst, List, Option, Some, arith}
use Rattle.tap_world.specs.declared.event.EventKind.TheVariants as kind
use Rattle.core_shared.specs.declared.doing.Doing.TheVariants as doing
use Rattle.std.specs.Prelude.{IfSome, slice_get}
use Rattle.tap_frame.specs.Frame.{FrameValue}
use Rattle.tap_lines.specs.Framed.{IsFrameOf}
use Rattle.tap_lines.specs.Placed.{Placed}
use Rattle.tap_sound.proofs.Kit.{some_same}
use Rattle.tap_trace.specs.declared.answer.Answer.TheVariants as answer
use Rattle.tap_world.specs.ByNumber.{at}
use Rattle.tap_world.specs.declared.line.Entry.{Entry}
use Rattle.tap_world.specs.Effect.Onward.{Ends}
use Rattle.tap_world.specs.Line.{File}
use Rattle.tap_world.specs.LineSteps.Change.{Puts}
use Rattle.core_shared.proofs.Kit.{file_at}
use Rattle.core_shared.proofs.Knowing.{may_do, place_now}
use Rattle.core_shared.proofs.Leaving.{AreSent, sent_of, sent_with}
use Rattle.core_shared.proofs.Taking.{about_there, may_change_by}
use Rattle.core_shared.specs.Asking.{Asking, setup}
use Rattle.core_shared.specs.MayDo.{MayDo}
use Rattle.core_shared.specs.declared.shared.Shared.{Shared}
use Rattle.core_rings.proofs.Done.{file_done}
use Rattle.core_rings.proofs.sending.put.Goals as goal

-- the frame is that of the entry at its place
is_its : (a : Asking) (x : Shared) (file place epoch : ℕ) (frame : FrameValue) (p : Placed) → MayDo a (doing.Placed file place epoch frame) kind.Ready x
    → at x.files file ≡ Some p → IfSome (slice_get p.file.line (place - p.file.first)) (λ e. IsFrameOf e frame)
is_its a x file place epoch frame p m is =
    let has = place_now m file place epoch frame.mark refl in
    let same : has.f ≡ p.file = some_same has.f p.file (sym has.is_there ∙ file_at file x.files p is) in
    let first : has.f.first ≡ p.file.first = ap (λ (f : File). f.first) same in
    let its = has.is_place in
    let index : place - p.file.first ≡ has.index = omega (arith, first, its) in
    let entry = ap (λ (n : ℕ). slice_get p.file.line n) index ∙ ap (λ (f : File). slice_get f.line has.index) (sym same) ∙ has.entry in
    subst (λ (o : Option Entry). IfSome o (λ e. IsFrameOf e frame)) (sym entry) (record { name = m.suits.name; mark = refl })

pub side_mut-requires : goal.side_mut-requires
side_mut-requires c = about_there c.requires.may.1 c.args.file refl

pub put-requires-clause-claimed : goal.put-requires-clause-claimed
put-requires-clause-claimed c =
    let m = may_do c.requires.may kind.Ready (λ actors said. refl) in
    rw c.actor.ensures (may_change_by m _ c.args.file (Puts c.args.asked.now.actor c.args.place) c.side_mut.result.now c.side_mut.ensures.value refl refl)

pub put-requires-clause-frame : goal.put-requires-clause-frame
put-requires-clause-frame c =
    let m = may_do c.requires.may kind.Ready (λ actors said. refl) in
    is_its c.args.asked.now c.args.shared.now c.args.file c.args.place c.args.epoch c.args.frame c.side_mut.result.now m c.side_mut.ensures.value

pub returns : goal.returns
returns c =
    let m = may_do c.requires.may kind.Ready (λ actors said. refl) in
    let sent = subst (λ (l : List (Option FrameValue)). AreSent (setup c.args.asked.now) l) (sym c.put.ensures.frames)
    (sent_with (setup c.args.asked.now) c.side_mut.result.now.frames (c.args.place - c.side_mut.result.now.file.first) c.args.frame m.suits.sent
    (sent_of (setup c.args.asked.now) c.args.shared.now c.args.file c.side_mut.result.now m.held c.side_mut.ensures.value)) in
    record {
      went = (
        kind.Ready,
        file_done c.args.asked.now (doing.Placed c.args.file c.args.place c.args.epoch c.args.frame) kind.Ready c.args.shared.now
            c.args.file (Puts c.args.asked.now.actor c.args.place)
            (Ends c.args.asked.now.seen (answer.Placed c.args.file c.args.place c.args.epoch c.args.frame.mark)) _ c.side_mut.result.now c.put.new.self
            (record { is_next = λ actors said. refl; is_row = λ actors said rest. refl }) m.held c.side_mut.ensures.value
            (rw c.actor.ensures at c.put.ensures.file) sent (rw (c.seen.ensures, c.kept-len.ensures) refl) tt,
      );
    }
