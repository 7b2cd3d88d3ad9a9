use Rattle.std.proofs.Common.{ap, ◌∙◌}
use Rattle.scen_text.specs.declared.scenario.Scenario.{Scenario}
use Rattle.core_table.proofs.Programs as lemmas
use Rattle.core_table.proofs.operation.place_of.Goals as goal

pub place_among-requires : goal.place_among-requires
place_among-requires c =
    lemmas.few_in c.args.asked.now c.as_slice.result.now
    (c.as_slice.ensures ∙ ap (λ (s : Scenario). s.declarations) c.scenario.ensures) c.requires

pub returns-in-Some : goal.returns-in-Some
returns-in-Some c =
    lemmas.placed_in c.args.asked.now c.as_slice.result.now c.args.program c.in-Some.number c.place_among.result
    (c.as_slice.ensures ∙ ap (λ (s : Scenario). s.declarations) c.scenario.ensures) c.in-Some.is c.place_among.ensures
