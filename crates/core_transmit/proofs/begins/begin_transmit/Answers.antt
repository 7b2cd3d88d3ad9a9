use Rattle.std.proofs.Common.{◌≡◌, [], sym, ap, ◌∙◌}
use Rattle.tap_guests.specs.Side.{Side}
use Rattle.tap_sound.proofs.Kit.{some_same}
use Rattle.tap_trace.specs.declared.answer.Answer.TheVariants as answer
use Rattle.tap_world.specs.ByNumber.{at}
use Rattle.tap_world.specs.StepTurns.{is_off}
use Rattle.core_shared.proofs.Kit.{if_any}
use Rattle.core_shared.specs.Did.{Went}
use Rattle.core_shared.specs.declared.doing.Doing.TheVariants as doing
use Rattle.core_shared.specs.declared.onward.Onward.{Onward}
use Rattle.core_shared.specs.declared.onward.Onward.TheVariants as on
use Rattle.core_transmit.specs.Stepping.{BeganSo, IsThere, MayBegin, Tells}
use Rattle.core_transmit.proofs.Beginning.{began_did, begun_there, may_begin, off_did, side_there}
use Rattle.core_transmit.proofs.Values.{ok_is, ok_then}
use Rattle.core_transmit.proofs.begins.begin_transmit.Goals as goal

pub side-requires : goal.side-requires
side-requires c = side_there c.requires.may.1 c.args.vhost c.requires.command

pub find_off-requires : goal.find_off-requires
find_off-requires c = record { there = begun_there c.requires.may.1 c.args.vhost c.requires.command }

pub begin-requires-clause-there : goal.begin-requires-clause-there
begin-requires-clause-there c = begun_there c.requires.may.1 c.args.vhost c.requires.command

pub begin-requires-clause-free : goal.begin-requires-clause-free
begin-requires-clause-free c =
    let m = c.requires.may.1 in
    let t : IsThere c.args.vhost c.args.shared.now = begun_there m c.args.vhost c.requires.command in
    if_any (at c.args.shared.now.vhosts c.args.vhost) MayBegin (λ s is_side.
    let same : c.side.result.now ≡ s = some_same c.side.result.now s (sym c.side.ensures ∙ is_side) in
    let same_ : t.side ≡ s = some_same t.side s (sym t.is_side ∙ is_side) in
    may_begin m c.args.vhost c.requires.command s t.guest is_side
    (ap (λ (q : Side). at c.args.shared.now.guests q.vhost.guest) (sym same_) ∙ t.is_guest)
    (ap (λ (q : Side). is_off c.args.vhost 1 q.vhost) (sym same) ∙ sym c.off.ensures.off ∙ c.in-None.is))

pub returns-in-Some : goal.returns-in-Some
returns-in-Some c =
    let m = c.requires.may.1 in
    let a = c.args.asked.now in
    record {
      went = ok_is c.find_off.result (on.Ends a.seen (answer.Turn 0 0 c.in-Some.end []))
          (Tells a c.args.vhost c.in-Some.kind c.args.shared.now c.find_off.new.shared)
          (λ (o : Onward). Went a doing.Begun c.args.shared.now c.find_off.new.shared o)
          c.find_off.ensures.tells c.find_off.ensures.ends (λ g. (
            c.requires.may.0,
            off_did m c.args.vhost c.requires.command c.in-Some.end c.in-Some.kind g
                (ap (λ (q : Side). is_off c.args.vhost 1 q.vhost)
                (some_same g.side c.side.result.now (sym g.is_side ∙ c.side.ensures))
                ∙ sym c.off.ensures.off ∙ c.in-Some.is),
          ));
    }

pub returns-in-None : goal.returns-in-None
returns-in-None c =
    let m = c.requires.may.1 in
    let a = c.args.asked.now in
    record {
      went = ok_then c.begin.result
          (λ (o : Onward). BeganSo a c.args.vhost c.args.shared.now c.begin.new.shared o)
          (λ (o : Onward). Went a doing.Begun c.args.shared.now c.begin.new.shared o)
          c.begin.ensures (λ o b. (
            c.requires.may.0,
            began_did m c.args.vhost c.requires.command o b
                (ap (λ (q : Side). is_off c.args.vhost 1 q.vhost)
                (some_same b.begins.before c.side.result.now (sym b.begins.is_before ∙ c.side.ensures))
                ∙ sym c.off.ensures.off ∙ c.in-None.is),
          ));
    }
