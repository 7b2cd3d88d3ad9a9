use Rattle.std.proofs.Common.{◌≡◌, ap, subst, sym, ◌∙◌, option_map}
use Rattle.std.specs.Prelude.{is_some, IfSome}
use Rattle.tap_guests.specs.Calls.{AskUnserved, HasPiece, made_by}
use Rattle.tap_guests.specs.Within.{IsIn}
use Rattle.tap_guests.specs.declared.called.Called.{Called}
use Rattle.tap_sound.proofs.Kit.{some_same}
use Rattle.tap_world.specs.ByNumber.{at}
use Rattle.tap_world.specs.StepControl.{call_of}
use Rattle.tap_world.specs.declared.event.EventKind.TheVariants as event
use Rattle.core_calls.proofs.Calling.{call_did, has_answer, has_piece, may_do, none_asked}
use Rattle.core_calls.proofs.control.call.Goals as goal

pub side_mut-side-requires : goal.side_mut-side-requires
side_mut-side-requires c = ap (λ o. is_some o) (may_do c.requires.may.1 c.args.vhost c.requires.command).is_vhost

pub guest_mut-guest-requires : goal.guest_mut-guest-requires
guest_mut-guest-requires c =
    let f = may_do c.requires.may.1 c.args.vhost c.requires.command in
    let v = c.side_mut-side.result.now in
    let same = some_same v f.side (sym c.side_mut-side.ensures.value ∙ f.is_vhost) in
    ap (λ o. is_some o) (ap (λ n. at c.args.shared.now.guests n) c.guest.ensures
    ∙ ap (λ y. at c.args.shared.now.guests y.vhost.guest) same ∙ f.is_guest)

pub call-requires-clause-unserved : goal.call-requires-clause-unserved
call-requires-clause-unserved c =
    subst (λ q. AskUnserved q c.side_mut-side.result.now) (sym c.command.ensures)
    (none_asked c.requires.may.1 c.args.vhost c.requires.command c.callers_meet_no_worker.ensures.callers
    c.side_mut-side.result.now c.is_sound.ensures c.side_mut-side.ensures.value)

pub call-requires-clause-piece : goal.call-requires-clause-piece
call-requires-clause-piece c = subst HasPiece (sym c.command.ensures) (has_piece c.requires.may.1)

pub call-requires-clause-within : goal.call-requires-clause-within
call-requires-clause-within c =
    let m = c.requires.may.1 in
    let v = c.side_mut-side.result.now in
    let g = c.guest_mut-guest.result.now in
    let is_g = ap (λ n. at c.args.shared.now.guests n) (sym c.guest.ensures) ∙ c.guest_mut-guest.ensures.value in
    rw c.memory_mut.ensures.memory
    (subst (λ o. IfSome o (λ y. IsIn y.memory.regions v)) is_g (m.held.vhosts c.args.vhost v c.side_mut-side.ensures.value))

pub unwrap-called-requires : goal.unwrap-called-requires
unwrap-called-requires c =
    let f = may_do c.requires.may.1 c.args.vhost c.requires.command in
    let v = c.side_mut-side.result.now in
    let g = c.guest_mut-guest.result.now in
    let same = some_same v f.side (sym c.side_mut-side.ensures.value ∙ f.is_vhost) in
    let is_g = ap (λ n. at c.args.shared.now.guests n) (sym c.guest.ensures) ∙ c.guest_mut-guest.ensures.value in
    let guest = some_same g f.guest (sym is_g ∙ ap (λ y. at c.args.shared.now.guests y.vhost.guest) same ∙ f.is_guest) in
    let made = λ (x : Called). made_by x c.call.new.self.vhost c.call.new.mem in
    has_answer (call_of c.args.asked.now.command v.vhost g.memory) c.call.new.self.vhost c.call.new.mem c.in_ok-call.field-0
    (ap (λ y. is_some (call_of c.args.asked.now.command y.vhost g.memory)) same
    ∙ ap (λ h. is_some (call_of c.args.asked.now.command f.side.vhost h.memory)) guest ∙ f.is_call)
    (subst (λ q. call_of q v.vhost g.memory ≡ option_map made c.in_ok-call.field-0) c.command.ensures
    (subst (λ mem. call_of c.command.result.now v.vhost mem ≡ option_map made c.in_ok-call.field-0) c.memory_mut.ensures.memory
    c.in_ok-call.ensures.call))

pub returns : goal.returns
returns c =
    let m = c.requires.may.1 in
    let v = c.side_mut-side.result.now in
    let g = c.guest_mut-guest.result.now in
    let is_g = ap (λ n. at c.args.shared.now.guests n) (sym c.guest.ensures) ∙ c.guest_mut-guest.ensures.value in
    let made = λ (x : Called). made_by x c.call.new.self.vhost c.call.new.mem in
    let call = subst (λ q. call_of q v.vhost g.memory ≡ option_map made c.in_ok-call.field-0) c.command.ensures
    (subst (λ mem. call_of c.command.result.now v.vhost mem ≡ option_map made c.in_ok-call.field-0) c.memory_mut.ensures.memory
    c.in_ok-call.ensures.call)
    ∙ ap (λ o. option_map made o) c.unwrap-called.ensures in
    record {
      went = (
        event.Drive,
        rw (c.in_ok-tell.ensures.told, c.guest.ensures, c.seen.ensures, c.actor.ensures, c.number.ensures)
            (call_did m c.args.vhost c.requires.command v c.call.new.self g c.call.new.mem c.unwrap-called.result
            c.side_mut-side.ensures.value is_g call c.in_ok-call.ensures.only
            (c.in_ok-call.ensures.regions ∙ ap (λ mem. mem.regions) c.memory_mut.ensures.memory) c.in_ok-call.ensures.within),
      );
    }
