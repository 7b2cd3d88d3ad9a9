use Rattle.vring_walk.proofs.Endings.{answers_agree}
use Rattle.vring_walk.proofs.Functions.{fetches_as_function}
use Rattle.vring_walk.proofs.laws.one_answer.Goals as goal

pub returns-clause-one : goal.returns-clause-one
returns-clause-one c = answers_agree

pub returns-clause-as_function : goal.returns-clause-as_function
returns-clause-as_function c = fetches_as_function
