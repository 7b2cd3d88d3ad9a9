use Rattle.trace_text.specs.Parts.{guest_part}
use Rattle.trace_text.proofs.Loops.{text_more_parts}
use Rattle.trace_text.proofs.printing.put_guests.Goals as goal

pub loop-guest-preserved : goal.loop-guest-preserved
loop-guest-preserved c = text_more_parts guest_part _ _ _ c.args.guests.now c.loop-guest.guest-index c.guest-item.result c.loop-guest-test.true c.guest-item.is c.loop-guest.invariant c.in_ok-put_guest.ensures
