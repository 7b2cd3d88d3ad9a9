-- The descriptors that a post writes stand in the ring's table.
use Rattle.std.proofs.Common.{◌≡◌, ℕ, ◌^◌, ◌<◌, ◌≤◌, ◌⊎◌, inl, inr, Bool, true, List, [], ◌∷◌, length, drop, Option, refl, ap, sym, ◌∙◌, subst, arith}
use Rattle.std.specs.Prelude.{slice_index}
use Rattle.std.proofs.lemmas.Bool.Decides.{nat_tests}
use Rattle.std.specs.List.{AllByRecursion}
use Rattle.guest_mem.specs.declared.region.Region.{Region}
use Rattle.guest_mem.specs.Memory.{Contents, byte_at, bytes_at, covers, written}
use Rattle.vring_split.specs.declared.desc.Desc.{Desc}
use Rattle.vring_split.specs.declared.layout.Layout.{Layout}
use Rattle.vring_split.specs.Laws.{DescFits}
use Rattle.vring_split.specs.Split.{desc_addr, desc_of, desc_bytes}
use Rattle.vring_drive.specs.Area.{slot_len}
use Rattle.tap_ground.specs.Lists.{times as times_in}
use Rattle.vring_drive.specs.Posts.{desc_for, flags_for, linked}
use Rattle.driver_laws.specs.Offers.{AreApart, StandLinked}
use Rattle.driver_laws.proofs.Bytes.{written_there, at_write, before_write, behind_write}
use Rattle.driver_laws.proofs.Ground.{Known, Ground, desc_there, slot_fits}

-- the lengths fit data slots
abbrev pub Small : List ℕ → Type 0
Small lens = AllByRecursion (λ n. n ≤ slot_len) lens

pub small_first : (lens : List ℕ) → Small lens → slice_index lens 0 ≤ slot_len
small_first [] h = omega arith
small_first (n ∷ lens) h = h.0

pub small_rest : (lens : List ℕ) → Small lens → Small (drop 1 lens)
small_rest [] h = tt
small_rest (n ∷ lens) h = h.1

-- the first descriptor of a chain is one of the ring's, or there is none
pub next_small : (num : ℕ) (ds : List ℕ) → num ≤ 32768 → AreApart num ds → slice_index ds 0 < 2 ^ 16
next_small num [] most h = omega arith
next_small num (d ∷ ds) most h = let less : d < num = h.0 in omega arith

flags_small : (w : Bool) (ds : List ℕ) → flags_for w ds < 2 ^ 16
flags_small w ds = grind (arith, nat_tests)

-- a descriptor fits its bytes
pub desc_fits :
    {rs : List Region} (k : Known) (l : Layout) → Ground rs l → (w : Bool) (d n : ℕ) (ds : List ℕ)
    → d < l.num → n ≤ slot_len → AreApart l.num ds → DescFits (desc_for l w d n ds)
desc_fits {rs} k l g w d n ds h small apart = record {
  addr = slot_fits k l g d h;
  len = omega arith;
  flags = flags_small w ds;
  next = next_small l.num ds g.size apart;
}

-- a number that doesn't stand in a list that begins with another isn't that one
other_than : (d x : ℕ) (xs : List ℕ) → times_in d (x ∷ xs) ≡ 0 → (d < x) ⊎ (x < d)
other_than d x xs h = grind (arith, nat_tests)

none_behind : (d x : ℕ) (xs : List ℕ) → times_in d (x ∷ xs) ≡ 0 → times_in d xs ≡ 0
none_behind d x xs h = omega arith

-- a written descriptor is read, and leaves the others
desc_written :
    {rs : List Region} (k : Known) (l : Layout) → Ground rs l → (m : Contents) → m.regions ≡ rs → (d : ℕ) (e : Desc)
    → d < l.num → DescFits e → desc_of (bytes_at (byte_at (written m (desc_addr l d) (desc_bytes e))) (desc_addr l d) 16) ≡ e
desc_written {rs} k l g m same d e h fits =
    let there = subst (λ (r : List Region). covers r (desc_addr l d) 16 ≡ true) (sym same) (desc_there k l g d h) in
    let back = k.desc e fits in
    ap desc_of (at_write k.writes m (desc_addr l d) 16 (desc_bytes e) back.0 there) ∙ back.1

desc_left :
    {rs : List Region} (k : Known) (l : Layout) → Ground rs l → (m : Contents) → m.regions ≡ rs → (x : ℕ) (e : Desc) (d : ℕ)
    → x < l.num → DescFits e → (d < x) ⊎ (x < d)
    → bytes_at (byte_at (written m (desc_addr l x) (desc_bytes e))) (desc_addr l d) 16 ≡ bytes_at (byte_at m) (desc_addr l d) 16
desc_left {rs} k l g m same x e d h fits apart =
    let there = subst (λ (r : List Region). covers r (desc_addr l x) 16 ≡ true) (sym same) (desc_there k l g x h) in
    let sixteen : length (desc_bytes e) ≡ 16 = (k.desc e fits).0 in
    let w = written_there k.writes m (desc_addr l x) 16 (desc_bytes e) sixteen there in
    elim apart [
      | inl below ↦ before_write (byte_at m) (byte_at (written m (desc_addr l x) (desc_bytes e))) (desc_addr l x) (desc_bytes e) (desc_addr l d) 16 w (omega arith)
      | inr above ↦ behind_write (byte_at m) (byte_at (written m (desc_addr l x) (desc_bytes e))) (desc_addr l x) (desc_bytes e) (desc_addr l d) 16 w (omega arith)
    ]

-- the regions stay
pub linked_regions :
    (l : Layout) (w : Bool) (ds lens : List ℕ) (m : Contents) → (linked l w ds lens m).regions ≡ m.regions
unfolding linked
linked_regions l w [] lens m = refl
linked_regions l w (d ∷ ds) lens m =
    linked_regions l w ds (drop 1 lens) (written m (desc_addr l d) (desc_bytes (desc_for l w d (slice_index lens 0) ds)))

-- the descriptors of a chain leave one that isn't among them
pub linked_left :
    {rs : List Region} (k : Known) (l : Layout) → Ground rs l → (w : Bool) (ds lens : List ℕ) (m : Contents) (d : ℕ)
    → m.regions ≡ rs → AreApart l.num ds → Small lens → times_in d ds ≡ 0
    → bytes_at (byte_at (linked l w ds lens m)) (desc_addr l d) 16 ≡ bytes_at (byte_at m) (desc_addr l d) 16
unfolding linked
linked_left k l g w [] lens m d same apart small none = refl
linked_left {rs} k l g w (x ∷ xs) lens m d same apart small none =
    let e : Desc = desc_for l w x (slice_index lens 0) xs in
    let fits = desc_fits k l g w x (slice_index lens 0) xs apart.0 (small_first lens small) apart.2 in
    let n = written m (desc_addr l x) (desc_bytes e) in
    linked_left k l g w xs (drop 1 lens) n d same apart.2 (small_rest lens small) (none_behind d x xs none)
    ∙ desc_left k l g m same x e d apart.0 fits (other_than d x xs none)

-- they stand in the table
pub linked_stands :
    {rs : List Region} (k : Known) (l : Layout) → Ground rs l → (w : Bool) (ds lens : List ℕ) (m : Contents)
    → m.regions ≡ rs → AreApart l.num ds → Small lens → StandLinked (byte_at (linked l w ds lens m)) l w ds lens
unfolding linked
linked_stands k l g w [] lens m same apart small = tt
linked_stands {rs} k l g w (x ∷ xs) lens m same apart small =
    let e : Desc = desc_for l w x (slice_index lens 0) xs in
    let fits = desc_fits k l g w x (slice_index lens 0) xs apart.0 (small_first lens small) apart.2 in
    let n = written m (desc_addr l x) (desc_bytes e) in (
      ap desc_of (linked_left k l g w xs (drop 1 lens) n x same apart.2 (small_rest lens small) apart.1)
          ∙ desc_written k l g m same x e apart.0 fits,
      linked_stands k l g w xs (drop 1 lens) n same apart.2 (small_rest lens small),
    )

-- and stand there as long as the table stays
pub stands_kept :
    (old new : ℕ → Option ℕ) (l : Layout) (w : Bool) (ds lens : List ℕ)
    → ((d : ℕ) → d < l.num → bytes_at new (desc_addr l d) 16 ≡ bytes_at old (desc_addr l d) 16)
    → AreApart l.num ds → StandLinked old l w ds lens → StandLinked new l w ds lens
stands_kept old new l w [] lens kept apart h = tt
stands_kept old new l w (d ∷ ds) lens kept apart h =
    (ap desc_of (kept d apart.0) ∙ h.0, stands_kept old new l w ds (drop 1 lens) kept apart.2 h.1)
