use Rattle.scen_text.proofs.Played.{Laws}
use Rattle.scen_text.proofs.PrintedStands.{printed_stands}
use Rattle.scen_text.proofs.scenario_laws.printed_stands.Goals as goal

pub returns : goal.returns
returns c =
    let laws : Laws = record {
      words = c.command_laws.ensures.words;
      values = c.command_laws.ensures.values;
      declaration_words = c.declaration_laws.ensures.words;
      declaration_values = c.declaration_laws.ensures.values;
      commands = c.line_laws-2.ensures.commands;
      actors = c.line_laws-2.ensures.actors;
      declarations = c.line_laws-2.ensures.declarations;
      openings = c.line_laws-2.ensures.openings;
      endings = c.line_laws-2.ensures.endings;
    } in
    printed_stands laws c.line_laws.ensures.lines c.sentence_laws.ensures
