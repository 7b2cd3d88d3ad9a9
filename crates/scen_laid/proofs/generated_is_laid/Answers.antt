use Rattle.scen_gen.specs.Generated.{generated}
use Rattle.scen_laid.proofs.Generated.{generated_is, generated_is_laid}
use Rattle.scen_laid.proofs.Texts.{text_stands}
use Rattle.scen_laid.proofs.generated_is_laid.Goals as goal

pub returns-clause-text : goal.returns-clause-text
returns-clause-text c = text_stands (record {
  cut = c.line_laws.ensures.lines;
  commands = c.line_laws-2.ensures.commands;
  actors = c.line_laws-2.ensures.actors;
  declarations = c.line_laws-2.ensures.declarations;
  openings = c.line_laws-2.ensures.openings;
  endings = c.line_laws-2.ensures.endings;
}) generated_is

pub returns-clause-laid : goal.returns-clause-laid
returns-clause-laid c = generated_is_laid c.command_laws.ensures.words c.command_laws.ensures.values

pub returns-clause-runs : goal.returns-clause-runs
returns-clause-runs c = λ n h. c.laid_runs_are_sound.ensures (generated n) (generated_is_laid c.command_laws.ensures.words c.command_laws.ensures.values n h)
