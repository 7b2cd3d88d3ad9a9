use Rattle.std.proofs.Common.{◌≡◌, ◌++◌, take, string_bytes}
use Rattle.std.specs.List.{flat_map}
use Rattle.scen_words.specs.Field.{text}
use Rattle.trace_text.specs.Parts.{guest_part}
use Rattle.trace_text.proofs.printing.put_guests.Given as goal

abbrev pub invariant-loop-guest : goal.invariant-loop-guest
invariant-loop-guest l = string_bytes l.out ≡ string_bytes l.fn.out ++ text (flat_map guest_part (take l.guest-index l.guests))
