use Rattle.std.proofs.Common.{◌≡◌, take}
use Rattle.std.specs.List.{flat_map}
use Rattle.ebpf_code.specs.Spelling.{slot_bytes}
use Rattle.ebpf_code.proofs.program.spell.Given as goal

abbrev pub invariant-loop-slot : goal.invariant-loop-slot
invariant-loop-slot l = l.bytes.items ≡ flat_map slot_bytes (take l.slot-index l.slots)
