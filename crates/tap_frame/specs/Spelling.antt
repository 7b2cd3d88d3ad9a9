-- This project's own, after drivers/net/tun.c of Linux: how a frame is spelled where it is written to
-- a file, and what is wrong with bytes that spell none.
use Rattle.std.specs.Prelude.{◌≡◌, ℕ, ◌+◌, ◌≤◌, ◌⊎◌, ◌&&◌, nat_lt, List, [], ◌++◌, length, take, drop, Option, Some, None, MatchOption, unwrap_or, option_map, if◌then◌else◌}
use Rattle.tap_frame.specs.declared.shape.Shape.{Shape}
use Rattle.tap_frame.specs.declared.reading.BadFrame.{BadFrame}
use Rattle.tap_frame.specs.declared.reading.BadFrame.TheVariants.{ShortPi, ShortHdr, HdrBeyond, ShortEther, HdrShort, TooLong, NoMemory}
use Rattle.tap_frame.specs.Header.{header_reach, no_header}

-- how many bytes of packet information stand in front
abbrev pub pi_size : Shape → ℕ
pi_size shape = if shape.pi then 4 else 0

-- how many bytes of header stand behind them
abbrev pub header_size : Shape → ℕ
header_size shape = unwrap_or shape.hdr 0

-- ---- the spelling

-- these bytes are the header of this shape whose first ten bytes are hdr
abbrev pub IsHeader : Shape → List ℕ → List ℕ → Type 0
IsHeader shape header hdr =
    MatchOption shape.hdr ((header ≡ []) × (hdr ≡ no_header)) (λ size. (length header ≡ size) × (hdr ≡ take 10 header))

-- The bytes spell the frame ether with the header hdr: packet information of any value where the shape has
-- it, the header where the shape has one, and the frame.
pub record Spelled (shape : Shape) (bytes hdr ether : List ℕ) : Type 0 where
  pub pi : List ℕ
  pub header : List ℕ
  pub parts : bytes ≡ pi ++ header ++ ether
  pub pi_is : length pi ≡ pi_size shape
  pub header_is : IsHeader shape header hdr
  pub at_least : 14 ≤ length ether
  pub at_most : length ether ≤ 65535
  -- the header reaches nowhere, or past the Ethernet header and no further than the frame
  pub reach : (header_reach hdr ≡ 0) ⊎ ((14 ≤ header_reach hdr) × (header_reach hdr ≤ length ether))

-- ---- what is wrong

-- what stands behind the packet information
abbrev pub behind_pi : Shape → List ℕ → List ℕ
behind_pi shape bytes = drop (pi_size shape) bytes

-- what stands behind the header
abbrev pub behind_header : Shape → List ℕ → List ℕ
behind_header shape bytes = drop (pi_size shape + header_size shape) bytes

-- the first ten bytes of the header, or zeros where the shape has none
abbrev pub header_in : Shape → List ℕ → List ℕ
header_in shape bytes = unwrap_or (option_map (λ size. take 10 (behind_pi shape bytes)) shape.hdr) no_header

-- how far that header reaches
abbrev pub reach_in : Shape → List ℕ → ℕ
reach_in shape bytes = header_reach (header_in shape bytes)

-- the first of the six cases that holds of the bytes
abbrev pub first_case : Shape → List ℕ → Option BadFrame
first_case shape bytes =
    if shape.pi && nat_lt (length bytes) 4 then Some ShortPi
    else if nat_lt (length (behind_pi shape bytes)) (header_size shape) then Some ShortHdr
    else if nat_lt (length (behind_header shape bytes)) (reach_in shape bytes) then Some HdrBeyond
    else if nat_lt (length (behind_header shape bytes)) 14 then Some ShortEther
    else if nat_lt 0 (reach_in shape bytes) && nat_lt (reach_in shape bytes) 14 then Some HdrShort
    else if nat_lt 65535 (length (behind_header shape bytes)) then Some TooLong
    else None

-- bytes are refused with their first case, and want of memory comes only where there is none
abbrev pub Refuses : Option BadFrame → BadFrame → Type 0
Refuses None refusal = refusal ≡ NoMemory
Refuses (Some bad) refusal = refusal ≡ bad
