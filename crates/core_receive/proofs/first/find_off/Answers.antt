use Rattle.std.proofs.Common.{ℕ, List, Some, sym, ap, ◌∙◌, subst}
use Rattle.tap_trace.specs.declared.answer.Answer.TheVariants as answer
use Rattle.tap_trace.specs.declared.turn.ChainText.{ChainText}
use Rattle.tap_world.specs.declared.event.EventKind.TheVariants as event
use Rattle.tap_world.specs.ByNumber.{at, with_at}
use Rattle.tap_world.specs.Guests.{Guest}
use Rattle.core_shared.proofs.Kit.{is_there, there}
use Rattle.core_shared.proofs.Leaving.{guest_with}
use Rattle.core_shared.proofs.Taking.{guest_of_there}
use Rattle.core_shared.specs.Did.{Did}
use Rattle.core_shared.specs.declared.doing.Doing.TheVariants as doing
use Rattle.core_shared.specs.declared.onward.Onward.TheVariants as on
use Rattle.core_receive.proofs.Begun.{off_did}
use Rattle.core_receive.proofs.first.find_off.Goals as goal

pub guest_mut-requires : goal.guest_mut-requires
guest_mut-requires c =
    is_there (at c.args.shared.now.guests c.guest-guest.result) _
    (ap (λ n. at c.args.shared.now.guests n) c.guest-guest.ensures
    ∙ (there (at c.args.shared.now.guests c.side.result.now.vhost.guest)
    (guest_of_there c.requires.may c.args.vhost c.side.result.now c.side.ensures)).1)

pub returns : goal.returns
returns c =
    let a = c.args.asked.now in
    let x = c.args.shared.now in
    let P : ℕ × Guest × ℕ × List ChainText → Type 0 = λ t. Did a doing.Begun event.Owner x
    (record x { guests = with_at t.0 t.1 x.guests }) (on.Ends t.2 (answer.Turn 0 0 c.args.end t.3)) in
    let told = c.in_ok-tell.ensures.told
    ∙ ap (λ n. guest_with n c.number.result c.guest_mut.result.now.memory (Some c.args.step) c.guest_mut.result.now) c.actor.ensures
    ∙ ap (λ n. guest_with a.actor n c.guest_mut.result.now.memory (Some c.args.step) c.guest_mut.result.now) c.number.ensures in
    record {
      did = subst P
          (λ i. (sym c.guest-guest.ensures i, sym told i, sym c.seen.ensures i, sym c.new.ensures i))
          (off_did a c.args.vhost x c.requires.command c.requires.may c.side.result.now c.side.ensures c.guest_mut.result.now
          (ap (λ n. at x.guests n) (sym c.guest-guest.ensures) ∙ c.guest_mut.ensures.value) (c.args.end, c.args.step) c.requires.off);
    }
