-- This project's own, after drivers/net/tun.c of Linux: the text of a frame where it is read from a
-- file with some room.
use Rattle.std.specs.Prelude.{ℕ, ◌+◌, ◌-◌, nat_lt, List, [], ◌∷◌, ◌++◌, length, take, slice_index, replicate, Option, Some, None, if◌then◌else◌}
use Rattle.tap_frame.specs.declared.shape.Shape.{Shape}
use Rattle.tap_frame.specs.Spelling.{pi_size, header_size}

-- the least room: the packet information and the header
abbrev pub least_room : Shape → ℕ
least_room shape = pi_size shape + header_size shape

-- the flag TUN_PKT_STRIP, which is 1, where the whole is more than the room
abbrev pub strip_flag : Shape → List ℕ → ℕ → ℕ
strip_flag shape ether room = if nat_lt room (least_room shape + length ether) then 1 else 0

-- the protocol of a frame: its bytes 12 and 13, each 0 where the frame doesn't have it
abbrev pub protocol : List ℕ → List ℕ
protocol ether = slice_index ether 12 ∷ slice_index ether 13 ∷ []

-- packet information: le16 flags, and the protocol as it stands in the frame
abbrev pub packet_information : Shape → List ℕ → ℕ → List ℕ
packet_information shape ether room = if shape.pi then strip_flag shape ether room ∷ 0 ∷ protocol ether else []

-- a header of this size whose first ten bytes are hdr
abbrev pub padded_header : Option ℕ → List ℕ → List ℕ
padded_header None hdr = []
padded_header (Some size) hdr = hdr ++ replicate (size - 10) 0

-- all of the text
abbrev pub whole_text : Shape → List ℕ → List ℕ → ℕ → List ℕ
whole_text shape hdr ether room = packet_information shape ether room ++ padded_header shape.hdr hdr ++ ether

-- what the room holds of it
abbrev pub text : Shape → List ℕ → List ℕ → ℕ → List ℕ
text shape hdr ether room = take room (whole_text shape hdr ether room)
