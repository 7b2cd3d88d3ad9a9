use Rattle.scen_laid.proofs.Laid.{read_is_laid}
use Rattle.scen_laid.proofs.read_is_laid.Goals as goal

pub returns : goal.returns
returns c = read_is_laid c.sentence_laws.ensures c.command_laws.ensures.words c.command_laws.ensures.values
