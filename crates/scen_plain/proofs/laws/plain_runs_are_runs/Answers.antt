use Rattle.scen_plain.proofs.laws.plain_runs_are_runs.Goals as goal

pub returns : goal.returns
returns c = λ s seed t p. c.order_is_run.ensures s seed p.events p.world p.order
