use Rattle.std.proofs.Common.{sym, ap, ◌∙◌}
use Rattle.tap_world.specs.declared.event.EventKind.TheVariants as event
use Rattle.core_calls.proofs.Poking.{poke_did}
use Rattle.core_calls.proofs.memory.poke.Goals as goal

pub returns : goal.returns
returns c =
    let m = c.requires.may.1 in
    let g = c.guest_mut-memory.result.now in
    let leaves = c.poke-answer.ensures.leaves in
    record {
      went = (
        event.Poke,
        rw (c.in_ok-tell.ensures.told, c.seen.ensures, c.poke-answer.ensures.told, leaves, c.actor.ensures, c.number.ensures)
            (poke_did m c.args.guest c.args.addr c.args.bytes.now g c.requires.command c.guest_mut-memory.ensures.value
            (ap (λ k. k.memory.regions) (sym leaves) ∙ c.poke-answer.ensures.regions)),
      );
    }
