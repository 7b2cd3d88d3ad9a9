use Rattle.std.proofs.Common.{◌≡◌, ◌++◌, take, map, string_bytes}
use Rattle.scen_words.specs.Field.{text}
use Rattle.scen_text.specs.ScenarioText.{actor_row}
use Rattle.scen_text.proofs.writing.put_actor_lines.Given as goal

abbrev pub invariant-loop-each : goal.invariant-loop-each
invariant-loop-each l = string_bytes l.out ≡ string_bytes l.fn.out ++ text (map (actor_row l.names) (take l.each-index l.lines))
