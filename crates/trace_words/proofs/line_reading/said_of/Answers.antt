use Rattle.trace_words.proofs.LineLaws.{Below, is_found, is_none}
use Rattle.trace_words.proofs.line_reading.said_of.Goals as goal

pub returns : goal.returns
returns c =
    let below : Below = record {
      fields = c.field_laws.ensures;
      causes = c.cause_laws.ensures;
      joined = c.line_laws.ensures.joined;
    } in
    record { found = is_found below c.args.line.now c.line_said.result c.line_said.ensures; none = is_none below c.args.line.now c.line_said.result c.line_said.ensures }
