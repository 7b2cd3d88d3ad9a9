-- What the search for a gap tells of a memory that is kept in blocks.
use Rattle.std.proofs.Common.{◌≡◌, ℕ, ◌+◌, ◌<◌, ◌≤◌, true, false, List, length, get_or, Option, Some, None, is_some, is_none, IsSome, refl, sym, ap, ◌∙◌, subst, arith}
use Rattle.guest_mem.specs.declared.block.Block.{Block}
use Rattle.guest_mem.specs.declared.region.Region.{Region}
use Rattle.guest_mem.specs.Memory.{Contents, is_there, byte_at, first_bad, covers, bytes_at, bytes_from, IsStretchAround, CoversBy, HoldsBy, IsFirstBadBy, AreStored}
use Rattle.guest_mem.specs.Blocks.{end_of, byte_in, bytes_of, IsKept}
use Rattle.guest_mem.proofs.Lists.{bytes_from-bytes_at}
use Rattle.guest_mem.proofs.Gaps.{inside_by, first_bad-is, first_bad-none}
use Rattle.guest_mem.proofs.Bytes.{look-blocks, stored_blocks}
use Rattle.guest_mem.proofs.Sorted.{held, at_end, before_start}
use Rattle.guest_mem.proofs.Ranges.{bytes_at-holds}

-- a memory is what these blocks hold in these regions
pub record Holds (m : Contents) (rs : List Region) (bs : List Block) : Type 0 where
  pub is : record { regions = rs; bytes = bytes_of bs } ≡ m
  pub kept : IsKept rs bs

-- what is looked up are the blocks' bytes
pub looked_up : (m : Contents) (rs : List Region) (bs : List Block) → Holds m rs bs → byte_at m ≡ byte_in bs
looked_up m rs bs h = ap byte_at (sym h.is) ∙ look-blocks rs bs h.kept

pub bad_told : (m : Contents) (rs : List Region) (bs : List Block) (a n bad : ℕ) → Holds m rs bs → IsFirstBadBy (byte_in bs) a n bad → first_bad m.regions a n ≡ Some bad
bad_told m rs bs a n bad h b = first_bad-is m.regions m.bytes a n bad (subst (λ (by : ℕ → Option ℕ). IsFirstBadBy by a n bad) (sym (looked_up m rs bs h)) b)

pub none_told : (m : Contents) (rs : List Region) (bs : List Block) (a n : ℕ) → Holds m rs bs → CoversBy (byte_in bs) a n → first_bad m.regions a n ≡ None
none_told m rs bs a n h b = first_bad-none m.regions m.bytes a n (subst (λ (by : ℕ → Option ℕ). CoversBy by a n) (sym (looked_up m rs bs h)) b)

-- bytes that the blocks have are those that are looked up, and those that are read
pub bytes_looked_up : (m : Contents) (rs : List Region) (bs : List Block) (a : ℕ) (bytes : List ℕ) → Holds m rs bs → HoldsBy (byte_in bs) a bytes → bytes ≡ bytes_at (byte_at m) a (length bytes)
bytes_looked_up m rs bs a bytes h b = sym (bytes_at-holds (byte_at m) a bytes (subst (λ (by : ℕ → Option ℕ). HoldsBy by a bytes) (sym (looked_up m rs bs h)) b))

pub bytes_read : (m : Contents) (rs : List Region) (bs : List Block) (a : ℕ) (bytes : List ℕ) → Holds m rs bs → HoldsBy (byte_in bs) a bytes → bytes ≡ bytes_from m.bytes a (length bytes)
bytes_read m rs bs a bytes h b =
    bytes_looked_up m rs bs a bytes h b
    ∙ sym (bytes_from-bytes_at m.regions m.bytes a (length bytes) (subst (λ (c : Contents). AreStored c.regions 0 c.bytes) h.is (stored_blocks rs bs h.kept)))

holds-covers : (by : ℕ → Option ℕ) (a : ℕ) (bytes : List ℕ) → HoldsBy by a bytes → CoversBy by a (length bytes)
holds-covers by a bytes h k lt = subst (λ (o : Option ℕ). IsSome o) (sym (h k lt)) refl

pub there_in : (m : Contents) (rs : List Region) (bs : List Block) (x : ℕ) → Holds m rs bs → is_there m.regions x ≡ is_some (byte_in bs x)
there_in m rs bs x h = ap (λ (c : Contents). is_there c.regions x) (sym h.is) ∙ sym (h.kept.domain x)

-- what is told of a range, where the blocks were borrowed
module _ (m : Contents) (rs : List Region) (bs now : List Block) (is : now ≡ bs) (h : Holds m rs bs) (a n : ℕ) where
  pub no_gap_told : CoversBy (byte_in now) a n → first_bad m.regions a n ≡ None
  no_gap_told covered = none_told m rs bs a n h (subst (λ (cs : List Block). CoversBy (byte_in cs) a n) is covered)

  pub covers_told : CoversBy (byte_in now) a n → true ≡ covers m.regions a n
  covers_told covered = sym (ap is_none (no_gap_told covered))

  pub first_told : (bad : ℕ) → IsFirstBadBy (byte_in now) a n bad → first_bad m.regions a n ≡ Some bad
  first_told bad b = bad_told m rs bs a n bad h (subst (λ (cs : List Block). IsFirstBadBy (byte_in cs) a n bad) is b)

  pub gap_told : (bad : ℕ) → IsFirstBadBy (byte_in now) a n bad → false ≡ covers m.regions a n
  gap_told bad b = sym (ap is_none (first_told bad b))

  -- and of bytes that the blocks have there
  module _ (bytes : List ℕ) (len : length bytes ≡ n) (b : HoldsBy (byte_in now) a bytes) where
    pub holds_no_gap : first_bad m.regions a n ≡ None
    holds_no_gap = no_gap_told (subst (λ k. CoversBy (byte_in now) a k) len (holds-covers (byte_in now) a bytes b))

    pub holds_covered : true ≡ covers m.regions a n
    holds_covered = sym (ap is_none holds_no_gap)

    pub holds_read : bytes ≡ bytes_from m.bytes a n
    holds_read = bytes_read m rs bs a bytes h (subst (λ (cs : List Block). HoldsBy (byte_in cs) a bytes) is b) ∙ ap (bytes_from m.bytes a) len

    pub holds_looked_up : bytes ≡ bytes_at (byte_at m) a n
    holds_looked_up = bytes_looked_up m rs bs a bytes h (subst (λ (cs : List Block). HoldsBy (byte_in cs) a bytes) is b) ∙ ap (bytes_at (byte_at m) a) len

-- the addresses of one block, in which an address lies, are a stretch
pub stretch_told : (m : Contents) (rs : List Region) (bs : List Block) (a k : ℕ) (b : Block) (s : Region) → Holds m rs bs → k < length bs → b ≡ get_or bs k b
    → s.addr ≡ b.addr → s.addr + s.len ≡ end_of b → b.addr ≤ a → a < end_of b → IsStretchAround m.regions a s
stretch_told m rs bs a k b s h l is start end from to = record {
  around = inside_by s.addr s.len a (omega arith) (omega arith);
  covered = ap is_none (none_told m rs bs s.addr s.len h (λ j lt. held_at (s.addr + j) (omega arith) (omega arith)));
  before = λ x e. there_in m rs bs x h ∙ ap is_some (before_start bs k b x h.kept.apart l (e ∙ start ∙ ap (λ (c : Block). c.addr) is));
  behind = there_in m rs bs (s.addr + s.len) h ∙ ap is_some (at_end bs k b (s.addr + s.len) h.kept.apart l (end ∙ ap (λ (c : Block). end_of c) is));
}
  where
    addr_is : b.addr ≡ (get_or bs k b).addr
    addr_is = ap (λ (c : Block). c.addr) is

    end_is : end_of b ≡ end_of (get_or bs k b)
    end_is = ap (λ (c : Block). end_of c) is

    held_at : (x : ℕ) → b.addr ≤ x → x < end_of b → IsSome (byte_in bs x)
    held_at x low high =
        let first = addr_is in
        let last = end_is in
        subst (λ (o : Option ℕ). IsSome o) (sym (held 0 bs k x b h.kept.apart l (omega arith) (omega arith))) refl
