-- This project's own: ranges and writes over regions that touch, as worked examples.
use Rattle.std.specs.Prelude.{◌≡◌, ℕ, List, [], ◌∷◌, map, None, Some}
use Rattle.guest_mem.specs.declared.region.Region.{Region}
use Rattle.guest_mem.specs.Memory.{ByteList, first_bad, bytes_from, with_bytes}

-- two regions that touch, and one at the end of the addresses
abbrev pub three_regions : List Region
three_regions =
    record { addr = 4096; len = 4096 } ∷ record { addr = 0; len = 4096 }
    ∷ record { addr = 18446744073709551613; len = 2 } ∷ []

-- over the seam; past the end; the last address; nothing at the last address; all addresses
abbrev pub RangesAreFound : Type 0
RangesAreFound =
    map (λ (range : ℕ × ℕ). first_bad three_regions range.0 range.1)
    ((4092, 8) ∷ (8190, 8) ∷ (18446744073709551614, 8) ∷ (18446744073709551615, 0) ∷ (0, 18446744073709551616) ∷ [])
    ≡ None ∷ Some 8192 ∷ Some 18446744073709551615 ∷ None ∷ Some 8192 ∷ []

-- bytes over the seam, and then two of them anew
abbrev pub twice_written : ByteList
twice_written = with_bytes (with_bytes [] 4092 (1 ∷ 2 ∷ 0 ∷ 4 ∷ 5 ∷ [])) 4093 (0 ∷ 9 ∷ [])

abbrev pub WritesAreFound : Type 0
WritesAreFound =
    (twice_written ≡ (4092, 1) ∷ (4094, 9) ∷ (4095, 4) ∷ (4096, 5) ∷ [])
    × (bytes_from twice_written 4091 7 ≡ 0 ∷ 1 ∷ 0 ∷ 9 ∷ 4 ∷ 5 ∷ 0 ∷ [])
