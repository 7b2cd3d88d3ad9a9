use Rattle.tap_world.specs.declared.event.EventKind.TheVariants as event
use Rattle.core_calls.proofs.Poking.{peek_did}
use Rattle.core_calls.proofs.memory.peek.Goals as goal

pub returns : goal.returns
returns c =
    let m = c.requires.may.1 in
    let g = c.guest_mut-memory.result.now in
    record {
      went = (
        event.Peek,
        rw (c.in_ok-tell.ensures.told, c.seen.ensures, c.in_ok-answer.ensures, c.actor.ensures, c.number.ensures)
            (peek_did m c.args.guest c.args.addr c.args.len g c.requires.command c.guest_mut-memory.ensures.value),
      );
    }
