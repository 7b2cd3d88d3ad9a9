use Rattle.std.proofs.Common.{ap, subst, sym, ◌∙◌}
use Rattle.std.specs.Prelude.{is_some}
use Rattle.tap_sound.proofs.Kit.{some_same}
use Rattle.tap_world.specs.declared.event.EventKind.TheVariants as event
use Rattle.core_calls.specs.Driven.{HasDriven}
use Rattle.core_calls.proofs.Driving.{ends_did, goes_did, is_free, may_drive}
use Rattle.core_calls.proofs.Looks.{file_known}
use Rattle.core_calls.proofs.backing.drive_back.Goals as goal

pub side-side-requires : goal.side-side-requires
side-side-requires c =
    ap (λ o. is_some o) (is_free c.args.vhost c.args.ring c.args.file c.args.refusal c.requires.may.1).is_vhost

pub drive-requires-clause-may : goal.drive-requires-clause-may
drive-requires-clause-may c =
    may_drive c.args.vhost c.args.ring c.args.file c.args.refusal c.requires.may.1
    c.callers_meet_no_worker.ensures.callers c.side-side.result.now c.is_sound.ensures c.side-side.ensures

pub drive-requires-clause-known : goal.drive-requires-clause-known
drive-requires-clause-known c =
    let m = c.requires.may.1 in file_known m c.args.vhost c.args.ring c.args.file m.suits.0

pub returns-in_ok-tell-in-Ends : goal.returns-in_ok-tell-in-Ends
returns-in_ok-tell-in-Ends c =
    let h = subst (λ b. HasDriven c.args.vhost c.args.ring c.args.file c.args.refusal c.args.shared.now c.drive.new.shared b)
    c.in-Ends.is c.in_ok-answer.ensures in
    let same = some_same c.side-side.result.now h.before (sym c.side-side.ensures ∙ h.is_vhost) in
    let guest = c.guest-guest.ensures ∙ ap (λ v. v.vhost.guest) same in
    record {
      went = (
        event.Drive,
        rw (c.let_go.ensures, c.in_ok-tell-in-Ends.ensures, h.shared, guest, c.seen.ensures)
            (ends_did c.args.vhost c.args.ring c.args.file c.args.refusal c.requires.may.1 c.drive.new.shared
            c.backs_are_the_worlds.ensures.sets c.backs_are_the_worlds.ensures.unsets c.in-Ends.answer c.in-Ends.step h),
      );
    }

pub returns-in_ok-tell-in-Goes : goal.returns-in_ok-tell-in-Goes
returns-in_ok-tell-in-Goes c =
    let h = subst (λ b. HasDriven c.args.vhost c.args.ring c.args.file c.args.refusal c.args.shared.now c.drive.new.shared b)
    c.in-Goes.is c.in_ok-answer.ensures in
    let same = some_same c.side-side.result.now h.before (sym c.side-side.ensures ∙ h.is_vhost) in
    let guest = c.guest-guest.ensures ∙ ap (λ v. v.vhost.guest) same in
    record {
      went = (
        event.Drive,
        rw (c.in_ok-tell-in-Goes.ensures, h.shared, guest, c.seen-in-Goes.ensures, c.come_to.ensures)
            (goes_did c.args.vhost c.args.ring c.args.file c.args.refusal c.requires.may.1 c.drive.new.shared
            c.backs_are_the_worlds.ensures.sets c.backs_are_the_worlds.ensures.unsets c.in-Goes.backend c.in-Goes.step h),
      );
    }
