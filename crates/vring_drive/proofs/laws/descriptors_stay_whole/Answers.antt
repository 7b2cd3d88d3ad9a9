use Rattle.vring_drive.proofs.Whole.{begins_whole, sends_whole, takes_whole, harvests_whole, all_free_again}
use Rattle.vring_drive.proofs.laws.descriptors_stay_whole.Goals as goal

pub returns-clause-begins : goal.returns-clause-begins
returns-clause-begins c = begins_whole

pub returns-clause-free : goal.returns-clause-free
returns-clause-free c = all_free_again

pub returns-clause-sends : goal.returns-clause-sends
returns-clause-sends c = sends_whole

pub returns-clause-takes : goal.returns-clause-takes
returns-clause-takes c = takes_whole

pub returns-clause-harvests : goal.returns-clause-harvests
returns-clause-harvests c = harvests_whole
