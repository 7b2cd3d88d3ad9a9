use Rattle.tap_sound.proofs.HandKept as hand
use Rattle.tap_sound.proofs.hand_is_owners.Goals as goal

pub returns-clause-kept : goal.returns-clause-kept
returns-clause-kept c = λ s w e u is q h. hand.hand_is_kept s w e u is q.0 q.1 h

pub returns-clause-reached : goal.returns-clause-reached
returns-clause-reached c = hand.hand_in_runs
