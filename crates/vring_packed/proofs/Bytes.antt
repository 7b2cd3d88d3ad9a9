-- The bytes of a descriptor are read back as its fields.
use Rattle.std.proofs.Common.{◌≡◌, ℕ, ◌^◌, ◌<◌, List, [], ◌++◌, length, drop, sym, ap, ◌∙◌, arith, append_assoc, length-append}
use Rattle.std.specs.Int.{w16, w32, w64, from_le_bytes, to_le_bytes}
use Rattle.std.proofs.lemmas.List.{drop_at, append-nil}
use Rattle.byteorder.specs.Endian.{little_number}
use Rattle.byteorder.specs.Numbers.{little_number-reads_back, length-bytes_low_first}
use Rattle.vring_packed.specs.declared.desc.PackedDesc.{PackedDesc}
use Rattle.vring_packed.specs.Packed.{desc_of, desc_bytes}

-- the number in the first bytes, digit by digit and as a sum
little_2 : (bs : List ℕ) → little_number 2 bs ≡ from_le_bytes w16 bs
little_2 bs = omega arith

little_4 : (bs : List ℕ) → little_number 4 bs ≡ from_le_bytes w32 bs
little_4 bs = omega arith

little_8 : (bs : List ℕ) → little_number 8 bs ≡ from_le_bytes w64 bs
little_8 bs = omega arith

read_2 : (n : ℕ) (rest : List ℕ) → n < 2 ^ 16 → from_le_bytes w16 (to_le_bytes w16 n ++ rest) ≡ n
read_2 n rest h = sym (little_2 (to_le_bytes w16 n ++ rest)) ∙ little_number-reads_back 2 n rest h

read_4 : (n : ℕ) (rest : List ℕ) → n < 2 ^ 32 → from_le_bytes w32 (to_le_bytes w32 n ++ rest) ≡ n
read_4 n rest h = sym (little_4 (to_le_bytes w32 n ++ rest)) ∙ little_number-reads_back 4 n rest h

read_8 : (n : ℕ) (rest : List ℕ) → n < 2 ^ 64 → from_le_bytes w64 (to_le_bytes w64 n ++ rest) ≡ n
read_8 n rest h = sym (little_8 (to_le_bytes w64 n ++ rest)) ∙ little_number-reads_back 8 n rest h

pub length_2 : (n : ℕ) → length (to_le_bytes w16 n) ≡ 2
length_2 n = length-bytes_low_first 0 2 n

pub length_4 : (n : ℕ) → length (to_le_bytes w32 n) ≡ 4
length_4 n = length-bytes_low_first 0 4 n

length_8 : (n : ℕ) → length (to_le_bytes w64 n) ≡ 8
length_8 n = length-bytes_low_first 0 8 n

alone_2 : (n : ℕ) → n < 2 ^ 16 → from_le_bytes w16 (to_le_bytes w16 n) ≡ n
alone_2 n h = ap (from_le_bytes w16) (sym (append-nil (to_le_bytes w16 n))) ∙ read_2 n [] h

pub desc_back : (d : PackedDesc) → d.addr < 2 ^ 64 → d.len < 2 ^ 32 → d.id < 2 ^ 16 → d.flags < 2 ^ 16 → desc_of (desc_bytes d) ≡ d
unfolding desc_of desc_bytes
desc_back d addr len id flags =
    let a = to_le_bytes w64 d.addr in
    let l = to_le_bytes w32 d.len in
    let f = to_le_bytes w16 d.id in
    let n = to_le_bytes w16 d.flags in
    let la = length_8 d.addr in
    let ll = length_4 d.len in
    let lf = length_2 d.id in
    let lal : length (a ++ l) ≡ 12 = omega (arith, length-append a l) in
    let lalf : length ((a ++ l) ++ f) ≡ 14 = omega (arith, length-append (a ++ l) f) in
    let at_a : ((a ++ l) ++ f) ++ n ≡ a ++ (l ++ (f ++ n)) = append_assoc (a ++ l) f n ∙ append_assoc a l (f ++ n) in
    let at_f : ((a ++ l) ++ f) ++ n ≡ (a ++ l) ++ (f ++ n) = append_assoc (a ++ l) f n in
    let p_addr = ap (from_le_bytes w64) at_a ∙ read_8 d.addr (l ++ (f ++ n)) addr in
    let p_len = ap (λ (bs : List ℕ). from_le_bytes w32 (drop 8 bs)) at_a ∙ ap (from_le_bytes w32) (drop_at a (l ++ (f ++ n)) 8 la) ∙ read_4 d.len (f ++ n) len in
    let p_id = ap (λ (bs : List ℕ). from_le_bytes w16 (drop 12 bs)) at_f ∙ ap (from_le_bytes w16) (drop_at (a ++ l) (f ++ n) 12 lal) ∙ read_2 d.id n id in
    let p_flags = ap (from_le_bytes w16) (drop_at ((a ++ l) ++ f) n 14 lalf) ∙ alone_2 d.flags flags in
    λ i. record { addr = p_addr i; len = p_len i; id = p_id i; flags = p_flags i }
