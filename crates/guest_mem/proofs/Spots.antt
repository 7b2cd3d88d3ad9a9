-- Where an address lies in blocks, and what the blocks have from there on.
use Rattle.std.proofs.Common.{◌≡◌, ℕ, ◌+◌, ◌-◌, ◌^◌, ◌<◌, ◌≤◌, List, length, take, drop, get_or, Option, Some, IsSome, refl, sym, ap, ◌∙◌, subst, arith, length-take, length-drop}
use Rattle.std.proofs.lemmas.List.{get_or-take, get_or-drop}
use Rattle.guest_mem.specs.declared.block.Block.{Block}
use Rattle.guest_mem.specs.declared.span.Spot.{Spot}
use Rattle.guest_mem.specs.Memory.{CoversBy, HoldsBy, IsFirstBadBy}
use Rattle.guest_mem.specs.Blocks.{end_of, byte_in, AreApart, IsSpot}
use Rattle.guest_mem.proofs.Sorted.{any_default, ends, rising, held, at_end}

-- the blocks up to the one at a place end at an address or before it, where that one does
pub passed : (bs : List Block) (i a : ℕ) (r s : Block) → AreApart 0 bs → i < length bs → (get_or bs i r).addr ≤ a → (get_or bs i s).bytes.len ≤ a - (get_or bs i r).addr
    → (k : ℕ) (d : Block) → k ≤ i → end_of (get_or bs k d) ≤ a
passed bs i a r s h l from short k d le =
    let upto = rising bs d h k i le l in
    let addr : (get_or bs i r).addr ≡ (get_or bs i d).addr = ap (λ (b : Block). b.addr) (any_default bs i r d l) in
    let len : (get_or bs i s).bytes.len ≡ length (get_or bs i d).bytes.items = ap (λ (b : Block). b.bytes.len) (any_default bs i s d l) ∙ (get_or bs i d).bytes.ok.0 in
    omega arith

-- the bytes of the spot's block from the spot on
module _ (bs : List Block) (a : ℕ) (spot : Spot) (h : AreApart 0 bs) (at : IsSpot bs a spot) (d : Block) where
  pub held_on : (k : ℕ) → spot.before + k < length (get_or bs spot.block d).bytes.items → byte_in bs (a + k) ≡ Some (get_or (get_or bs spot.block d).bytes.items (spot.before + k) 0)
  held_on k lt =
      let start = at.at d in
      let inside = at.inside d in
      let e : a + k - (get_or bs spot.block d).addr ≡ spot.before + k = omega arith in
      held 0 bs spot.block (a + k) d h at.within (omega arith) (omega arith)
      ∙ ap (λ n. Some (get_or (get_or bs spot.block d).bytes.items n 0)) e

  pub covers_on : (n : ℕ) → spot.before + n ≤ length (get_or bs spot.block d).bytes.items → CoversBy (byte_in bs) a n
  covers_on n le k lt = subst (λ (o : Option ℕ). IsSome o) (sym (held_on k (omega arith))) refl

  pub bad_on : (n left : ℕ) → spot.before + left ≡ length (get_or bs spot.block d).bytes.items → left < n → IsFirstBadBy (byte_in bs) a n (a + left)
  bad_on n left e lt = record {
    start = omega arith;
    within = omega arith;
    missing = let start = at.at d in at_end bs spot.block d (a + left) h at.within (omega arith);
    first = λ x low high. let same : a + (x - a) ≡ x = omega arith in
        subst (λ y. IsSome (byte_in bs y)) same (covers_on left (omega arith) (x - a) (omega arith));
  }

  -- how many of the block's bytes are left
  module _ (e : Block) (len : ℕ) (is : len ≡ (get_or bs spot.block e).bytes.len) where
    pub left_len : spot.before + (len - spot.before) ≡ length (get_or bs spot.block d).bytes.items
    left_len =
        let inside = at.inside d in
        let same : (get_or bs spot.block e).bytes.len ≡ length (get_or bs spot.block d).bytes.items = ap (λ (b : Block). b.bytes.len) (any_default bs spot.block e d at.within) ∙ (get_or bs spot.block d).bytes.ok.0 in
        omega arith

    pub left_fits : a + (len - spot.before) < 2 ^ 64
    left_fits = let start = at.at d in let left = left_len in let end = ends 0 bs spot.block d h at.within in omega arith

  -- the block's bytes from the spot on, as code cuts them off
  module _ (xs : List ℕ) (is : xs ≡ (get_or bs spot.block d).bytes.items) where
    pub rest_len : spot.before + length (take (length xs - spot.before) (drop spot.before xs)) ≡ length (get_or bs spot.block d).bytes.items
    rest_len = let inside = at.inside d in let same = ap length is in omega (arith, length-take (length xs - spot.before) (drop spot.before xs), length-drop spot.before xs)

    pub rest_fits : a + length (take (length xs - spot.before) (drop spot.before xs)) < 2 ^ 64
    rest_fits = let start = at.at d in let len = rest_len in let end = ends 0 bs spot.block d h at.within in omega arith

    pub rest_bad : (n : ℕ) → length (take (length xs - spot.before) (drop spot.before xs)) < n → IsFirstBadBy (byte_in bs) a n (a + length (take (length xs - spot.before) (drop spot.before xs)))
    rest_bad n lt = bad_on n _ rest_len lt

    pub rest_holds : (n : ℕ) → n ≤ length (take (length xs - spot.before) (drop spot.before xs)) → HoldsBy (byte_in bs) a (take n (take (length xs - spot.before) (drop spot.before xs)))
    rest_holds n le k lt =
        let len = rest_len in
        let below : k < n = omega (arith, length-take n (take (length xs - spot.before) (drop spot.before xs))) in
        let same = ap length is in
        held_on k (omega arith)
        ∙ ap (λ m. Some m)
        (ap (λ (ys : List ℕ). get_or ys (spot.before + k) 0) (sym is)
        ∙ sym (get_or-take n (take (length xs - spot.before) (drop spot.before xs)) k 0 below
        ∙ get_or-take (length xs - spot.before) (drop spot.before xs) k 0 (omega arith)
        ∙ get_or-drop spot.before xs k 0))
