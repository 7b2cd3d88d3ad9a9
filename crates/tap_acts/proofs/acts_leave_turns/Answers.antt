use Rattle.tap_acts.proofs.Held as held
use Rattle.tap_acts.proofs.Others as others
use Rattle.tap_acts.proofs.acts_leave_turns.Goals as goal

pub returns : goal.returns
returns c = λ k guest d st t state e. (held.act_holds k guest d st t state e, others.act_leaves k guest d st t state e)
