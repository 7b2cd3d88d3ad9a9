use Rattle.std.proofs.Common.{subst, sym}
use Rattle.tap_guests.specs.Calls.{IsUnserved}
use Rattle.tap_guests.specs.Kept.{side_of}
use Rattle.tap_guests.specs.Side.{Side}
use Rattle.tap_guests.specs.Within.{IsIn}
use Rattle.tap_guests.proofs.Answered.{call_is}
use Rattle.tap_guests.proofs.Changed.{addr_in, addr_side}
use Rattle.tap_guests.proofs.side.VhostSide.set_addr.Goals as goal

pub invariant_of-self-2 : goal.invariant_of-self-2
invariant_of-self-2 c =
    rw c.set_addr.ensures.settings
    (addr_side c.args.ring c.args.desc c.args.avail c.args.used c.args.mem.now (side_of c.self.inside)
    (subst (λ (x : Side). IsUnserved c.args.ring x) (sym c.self.view_is) c.requires.unserved) c.self.invariant)

pub returns-clause-call : goal.returns-clause-call
returns-clause-call c =
    rw (← c.self.view_is, c.set_addr.ensures.settings, c.on_ring.ensures)
    (call_is _ _ _ _ c.args.mem.now c.set_addr.result c.in_ok-answer.answer c.set_addr.ensures.answer
    c.in_ok-answer.ensures.told)

pub returns-clause-within : goal.returns-clause-within
returns-clause-within c = λ rs h.
    rw c.set_addr.ensures.settings
    (addr_in c.args.ring c.args.desc c.args.avail c.args.used c.args.mem.now rs (side_of c.self.inside)
    (subst (λ (x : Side). IsIn rs x) (sym c.self.view_is) h))
