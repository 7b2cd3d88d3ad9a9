use Rattle.std.proofs.Common.{◌+◌, ◌<◌, ◌^◌, List, length}
use Rattle.std.specs.Option.{option_copied}
use Rattle.scen_words.specs.declared.sentence.Sentence.{Sentence}
use Rattle.scen_text.proofs.Lines.{Heard, rest_of}
use Rattle.scen_text.proofs.reading.read_lines.Given as goal

abbrev pub invariant-lines : goal.invariant-lines
invariant-lines l = record {
  room : l.number + length (rest_of (option_copied l.next) l.lines) < 2 ^ 32;
  heard : (said : List Sentence) × Heard l.version (l.number + 1) l.builder (rest_of (option_copied l.next) l.lines) l.fn.lines said;
}

abbrev pub decreases-lines : goal.decreases-lines
decreases-lines l = length (rest_of (option_copied l.next) l.lines)
