-- This project's own: what stands in the place of a number or a header that may lack.
use Rattle.std.specs.Prelude.{ℕ, List, codes, Option, Some, None}
use Rattle.std.specs.Fmt.{decimal}
use Rattle.hex.specs.Hex.{encode_lower}
use Rattle.tap_frame.specs.declared.header.Hdr.{Hdr}

-- a number, or `-` for none
abbrev pub number_or_dash : Option ℕ → List ℕ
number_or_dash None = codes "-"
number_or_dash (Some n) = decimal n

-- the digits of a header, or `-` for none
abbrev pub header_or_dash : Option Hdr → List ℕ
header_or_dash None = codes "-"
header_or_dash (Some hdr) = encode_lower hdr.bytes
