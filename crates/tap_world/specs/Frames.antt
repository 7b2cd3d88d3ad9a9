-- This project's own: frames where they are sent, written and read. What stands in front of a file's frames is told by
-- the table: whether packet information does, and the size of a header, if there is one.
use Rattle.std.specs.Prelude.{ℕ, ◌+◌, ◌&&◌, nat_lt, Bool, false, List, [], ◌∷◌, ◌++◌, length, take, drop, Option, Some, None, unwrap_or, option_map, if◌then◌else◌}
use Rattle.tap_frame.specs.declared.header.Hdr.{Hdr}
use Rattle.tap_frame.specs.declared.reading.BadFrame.{BadFrame}
use Rattle.tap_frame.specs.declared.reading.BadFrame.TheVariants.{ShortPi, ShortHdr, HdrBeyond, ShortEther, HdrShort, TooLong}
use Rattle.tap_frame.specs.Header.{header_reach, no_header}
use Rattle.tap_frame.specs.Text.{padded_header, protocol}

-- the ten bytes of a frame's header, and its Ethernet bytes
pub record FrameText : Type 0 where
  pub hdr : List ℕ
  pub ether : List ℕ

-- whether packet information stands in front of frames, and how long a header
abbrev pub Front : Type 0
Front = Bool × Option ℕ

-- ---- how many bytes stand in front

abbrev pub pi_in : Front → ℕ
pi_in front = if front.0 then 4 else 0

abbrev pub size_in : Front → ℕ
size_in front = unwrap_or front.1 0

-- the room that a read has to have
abbrev pub least_in : Front → ℕ
least_in front = pi_in front + size_in front

-- ---- what bytes say

-- the bytes behind the packet information, and behind the header
abbrev pub behind_pi : Front → List ℕ → List ℕ
behind_pi front bytes = drop (pi_in front) bytes

abbrev pub ether_in : Front → List ℕ → List ℕ
ether_in front bytes = drop (least_in front) bytes

-- the header's ten bytes, or zeros
abbrev pub header_in : Front → List ℕ → List ℕ
header_in front bytes = unwrap_or (option_map (λ size. take 10 (behind_pi front bytes)) front.1) no_header

-- the frame that is spelled
abbrev pub frame_in : Front → List ℕ → FrameText
frame_in front bytes = record { hdr = header_in front bytes; ether = ether_in front bytes }

-- the first of the six cases, by how far the header reaches and how many bytes the frame has
abbrev pub bad_by : Front → List ℕ → ℕ → ℕ → Option BadFrame
bad_by front bytes reach len =
    if front.0 && nat_lt (length bytes) 4 then Some ShortPi
    else if nat_lt (length (behind_pi front bytes)) (size_in front) then Some ShortHdr
    else if nat_lt len reach then Some HdrBeyond
    else if nat_lt len 14 then Some ShortEther
    else if nat_lt 0 reach && nat_lt reach 14 then Some HdrShort
    else if nat_lt 65535 len then Some TooLong
    else None

abbrev pub bad_in : Front → List ℕ → Option BadFrame
bad_in front bytes = bad_by front bytes (header_reach (header_in front bytes)) (length (ether_in front bytes))

-- ---- what a room gets

-- packet information, with the flag that says that the room is too small
abbrev pub information : Front → List ℕ → ℕ → List ℕ
information front ether room =
    if front.0
    then (if nat_lt room (least_in front + length ether) then 1 else 0) ∷ 0 ∷ protocol ether
    else []

-- the front of the frame's text
abbrev pub text_in : Front → FrameText → ℕ → List ℕ
text_in front frame room =
    take room (information front frame.ether room ++ padded_header front.1 frame.hdr ++ frame.ether)

-- ---- what is sent

-- a frame is sent with a header of ten bytes, or without one; it never has packet information
abbrev pub sent_front : Option Hdr → Front
sent_front None = (false, None)
sent_front (Some hdr) = (false, Some 10)

abbrev pub sent_bytes : Option Hdr → List ℕ → List ℕ
sent_bytes None bytes = bytes
sent_bytes (Some hdr) bytes = hdr.bytes ++ bytes
