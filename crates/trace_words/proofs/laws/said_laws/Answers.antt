use Rattle.trace_words.proofs.LineLaws.{Below, are_text, no_ends, one_thing}
use Rattle.trace_words.proofs.laws.said_laws.Goals as goal

pub returns : goal.returns
returns c =
    let below : Below = record {
      fields = c.field_laws.ensures;
      causes = c.cause_laws.ensures;
      joined = c.line_laws.ensures.joined;
    } in
    record { one = one_thing below; text = are_text below; no_end = no_ends below }
