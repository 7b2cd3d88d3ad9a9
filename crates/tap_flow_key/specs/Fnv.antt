-- FNV-1a of 32 bits, after Fowler, Noll and Vo: a byte is joined by exclusive or, and then the hash is
-- multiplied by the prime.
use Rattle.std.specs.Prelude.{ℕ, ◌*◌, ◌%◌, ◌^◌, List, fold, bit_xor}

-- the hash after one more byte
abbrev pub fnv_step : ℕ → ℕ → ℕ
fnv_step hash byte = (bit_xor hash byte * 0x01000193) % 2 ^ 32

-- the hash of a list of bytes, from the offset basis on
abbrev pub fnv_of : List ℕ → ℕ
fnv_of bytes = fold fnv_step 0x811c9dc5 bytes
