use Rattle.tap_legal.proofs.laws.upgrade_has_same_traces.Goals as goal

pub returns : goal.returns
returns c = λ s t. (λ x. x, λ x. x)
