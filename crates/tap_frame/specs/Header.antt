-- VIRTIO 1.2, 5.1.6: the header in front of a frame. Its ten bytes are flags, gso_type, and the
-- le16 numbers hdr_len, gso_size, csum_start and csum_offset. How far it reaches is this project's own,
-- after drivers/net/tun.c of Linux.
use Rattle.std.specs.Prelude.{ℕ, ◌+◌, ◌==◌, Bool, max, List, slice_index, slice_range, replicate, bit_and, if◌then◌else◌}
use Rattle.std.specs.Int.{w16, from_le_bytes}

-- how long the headers of the frame are, as the sender says
abbrev pub hdr_len : List ℕ → ℕ
hdr_len header = from_le_bytes w16 (slice_range header 2 4)

-- where the sum that is asked for begins
abbrev pub csum_start : List ℕ → ℕ
csum_start header = from_le_bytes w16 (slice_range header 6 8)

-- where the checksum field stands behind that
abbrev pub csum_offset : List ℕ → ℕ
csum_offset header = from_le_bytes w16 (slice_range header 8 10)

-- whether the flag NEEDS_CSUM, which is 1, is set
abbrev pub needs_checksum : List ℕ → Bool
needs_checksum header = bit_and (slice_index header 0) 1 == 1

-- where the checksum field ends: csum_start + csum_offset, and its two bytes. The sum isn't cut to 16 bits.
abbrev pub checksum_end : List ℕ → ℕ
checksum_end header = csum_start header + csum_offset header + 2

-- how far into the frame the header reaches
abbrev pub header_reach : List ℕ → ℕ
header_reach header = if needs_checksum header then max (hdr_len header) (checksum_end header) else hdr_len header

-- the header of a frame that came without one
abbrev pub no_header : List ℕ
no_header = replicate 10 0
