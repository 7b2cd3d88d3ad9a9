use Rattle.scen_words.proofs.Rows.{Laws, actors_again, commands_again, declarations_again, endings_again, openings_again}
use Rattle.scen_words.proofs.laws.line_laws.Goals as goal

pub returns : goal.returns
returns c =
    let laws : Laws = record {
      fields = c.line_laws.ensures.fields;
      line = c.line_laws.ensures.line;
      read = c.form_laws.ensures.read;
      made = c.form_laws.ensures.fields;
      values = c.value_laws.ensures.read;
      value_made = c.value_laws.ensures.field;
    } in
    record {
      commands = commands_again laws;
      actors = actors_again laws;
      declarations = declarations_again laws;
      openings = openings_again laws;
      endings = endings_again laws;
    }
