-- Writing into one of the blocks.
use Rattle.std.proofs.Common.{◌≡◌, ℕ, zero, suc, ◌+◌, ◌-◌, ◌<◌, ◌≤◌, ◌&&◌, false, cond, nat_lt, nat_le, List, [], ◌∷◌, length, set, get_or, refl, sym, ap, ◌∙◌, arith}
use Rattle.std.specs.Vec.{with_items}
use Rattle.std.proofs.lemmas.Bool.Decides.{nat_tests}
use Rattle.std.proofs.lemmas.List.{with_items_is}
use Rattle.guest_mem.specs.declared.block.Block.{Block}
use Rattle.guest_mem.specs.declared.span.Spot.{Spot}
use Rattle.guest_mem.specs.Blocks.{end_of, byte_of, spliced_byte, AreApart, IsSpot, IsWrittenBlock, AreWritten}
use Rattle.guest_mem.proofs.Sorted.{above}

-- the write reaches none of the block's addresses
unreached : (b : Block) (a : ℕ) (bytes : List ℕ) → ((x : ℕ) → b.addr ≤ x → x < end_of b → (nat_le a x && nat_lt x (a + length bytes)) ≡ false) → IsWrittenBlock b b a bytes
unreached b a bytes off = record {
  addr = refl;
  len = refl;
  byte = λ x low high. ap (λ t. cond t (get_or bytes (x - a) 0) (byte_of b x)) (sym (off x low high));
}

-- a write of no bytes
pub written_none : (bs : List Block) (a : ℕ) (bytes : List ℕ) → length bytes ≡ 0 → AreWritten bs bs a bytes
written_none [] a bytes e = tt
written_none (b ∷ bs) a bytes e = (unreached b a bytes (λ x low high. nowhere a (length bytes) x e), written_none bs a bytes e)
  where
    nowhere : (a n x : ℕ) → n ≡ 0 → (nat_le a x && nat_lt x (a + n)) ≡ false
    nowhere a n x e = grind (arith, nat_tests)

-- a write that ends before the blocks
written_ahead : (low : ℕ) (bs : List Block) (a : ℕ) (bytes : List ℕ) → AreApart low bs → a + length bytes ≤ low → AreWritten bs bs a bytes
written_ahead low [] a bytes h le = tt
written_ahead low (b ∷ bs) a bytes h le =
    let first = h.0 in
    (unreached b a bytes (λ x from to. above_end a (length bytes) x (omega arith)), written_ahead (end_of b + 1) bs a bytes h.3 (omega arith))
  where
    above_end : (a n x : ℕ) → a + n ≤ x → (nat_le a x && nat_lt x (a + n)) ≡ false
    above_end a n x le = grind (arith, nat_tests)

-- a write into one block
pub written_one : (low : ℕ) (bs : List Block) (i : ℕ) (d new : Block) (a : ℕ) (bytes : List ℕ) → AreApart low bs → i < length bs
    → (get_or bs i d).addr ≤ a → a + length bytes ≤ end_of (get_or bs i d) → IsWrittenBlock (get_or bs i d) new a bytes → AreWritten bs (set bs i new) a bytes
written_one low [] i d new a bytes h l from to w = absurd (omega arith)
written_one low (b ∷ bs) zero d new a bytes h l from to w = (w, written_ahead (end_of b + 1) bs a bytes h.3 (omega arith))
written_one low (b ∷ bs) (suc i) d new a bytes h l from to w =
    let next = above (end_of b + 1) bs i d h.3 (omega arith) in
    (unreached b a bytes (λ x low high. below a (length bytes) x (omega arith)), written_one (end_of b + 1) bs i d new a bytes h.3 (omega arith) from to w)
  where
    below : (a n x : ℕ) → x < a → (nat_le a x && nat_lt x (a + n)) ≡ false
    below a n x lt = grind (arith, nat_tests)

-- a block into whose bytes others were put
spliced_block : (b : Block) (a before : ℕ) (bytes target : List ℕ) → b.addr + before ≡ a → length target ≡ b.bytes.len
    → ((k : ℕ) → k < length b.bytes.items → get_or target k 0 ≡ spliced_byte b.bytes.items before bytes k)
    → IsWrittenBlock b (record { addr = b.addr; bytes = with_items b.bytes target }) a bytes
spliced_block b a before bytes target start len each =
    let items = with_items_is b.bytes target len in
    record {
      addr = refl;
      len = ap length items ∙ len ∙ b.bytes.ok.0;
      byte = λ x low high.
          ap (λ (xs : List ℕ). get_or xs (x - b.addr) 0) items
          ∙ each (x - b.addr) (omega arith)
          ∙ moved x low;
    }
  where
    tests : (addr x n : ℕ) → addr ≤ x → addr + before ≡ a → (nat_le before (x - addr) && nat_lt (x - addr) (before + n)) ≡ (nat_le a x && nat_lt x (a + n))
    tests addr x n low start = grind (arith, nat_tests)

    moved : (x : ℕ) → b.addr ≤ x → spliced_byte b.bytes.items before bytes (x - b.addr) ≡ cond (nat_le a x && nat_lt x (a + length bytes)) (get_or bytes (x - a) 0) (byte_of b x)
    moved x low =
        let place : x - b.addr - before ≡ x - a = omega arith in
        (λ i. cond (tests b.addr x (length bytes) low start i) (get_or bytes (place i) 0) (byte_of b x))

-- bytes that were put into the block of a spot
pub written_spot : (bs : List Block) (a : ℕ) (spot : Spot) (d : Block) (bytes was target : List ℕ) → AreApart 0 bs → IsSpot bs a spot
    → was ≡ (get_or bs spot.block d).bytes.items → length target ≡ (get_or bs spot.block d).bytes.len → spot.before + length bytes ≤ length was
    → ((k : ℕ) → k < length was → get_or target k 0 ≡ spliced_byte was spot.before bytes k)
    → AreWritten bs (set bs spot.block (record { addr = (get_or bs spot.block d).addr; bytes = with_items (get_or bs spot.block d).bytes target })) a bytes
written_spot bs a spot d bytes was target h at is len fits each =
    let start = at.at d in
    let same = ap length is in
    written_one 0 bs spot.block d _ a bytes h at.within (omega arith) (omega arith)
    (spliced_block (get_or bs spot.block d) a spot.before bytes target start len
    (λ k lt. each k (omega arith) ∙ ap (λ (xs : List ℕ). spliced_byte xs spot.before bytes k) is))
