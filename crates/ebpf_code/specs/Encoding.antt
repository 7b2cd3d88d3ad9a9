-- RFC 9669, 3.1: the fields of a slot. A program is a list of bytes, and a slot is 8 of them.
use Rattle.std.specs.Prelude.{ℕ, ◌+◌, ◌*◌, ◌/◌, ◌%◌, List, [], ◌∷◌, slice_index}
use Rattle.std.specs.Int.{w16, w32, from_le_bytes}
use Rattle.ebpf_code.specs.declared.encoding.Encoding.{Encoding}

-- byte i of the slot at a place
abbrev pub byte_at : List ℕ → ℕ → ℕ → ℕ
byte_at bytes place i = slice_index bytes (8 * place + i)

-- opcode, then dst in the low half of a byte and src in its high half, then offset and imm with the low byte first
unfoldable pub encoding_at : List ℕ → ℕ → Encoding
encoding_at bytes place = record {
  opcode = byte_at bytes place 0;
  destination = byte_at bytes place 1 % 16;
  source = byte_at bytes place 1 / 16;
  offset = from_le_bytes w16 (byte_at bytes place 2 ∷ byte_at bytes place 3 ∷ []);
  immediate = from_le_bytes w32
      (byte_at bytes place 4 ∷ byte_at bytes place 5 ∷ byte_at bytes place 6 ∷ byte_at bytes place 7 ∷ []);
}
