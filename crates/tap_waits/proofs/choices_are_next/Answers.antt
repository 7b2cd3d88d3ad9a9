use Rattle.tap_waits.proofs.NextChosen.{choices_are_next}
use Rattle.tap_waits.proofs.choices_are_next.Goals as goal

pub returns : goal.returns
returns c = choices_are_next c.next_is_allowed.ensures
