-- A device finds what was posted.
use Rattle.std.proofs.Common.{◌≡◌, ℕ, zero, suc, ◌+◌, ◌-◌, ◌*◌, ◌^◌, ◌<◌, ◌≤◌, ◌==◌, Bool, true, false, not, ◌&&◌, nat_lt, nat_le, List, [], ◌∷◌, ◌++◌, length, take, drop, Option, None, Some, refl, ap, sym, ◌∙◌, subst, arith, lit<}
use Rattle.std.specs.Prelude.{if◌then◌else◌, find, replicate}
use Rattle.std.specs.Option.{option_or, option_map}
use Rattle.std.proofs.lemmas.Bool.{ltb-false}
use Rattle.std.specs.Int.{w16, from_le_bytes, to_le_bytes}
use Rattle.std.proofs.lemmas.List.{length-take-le}
use Rattle.std.proofs.lemmas.Bool.Decides.{nat_tests}
use Rattle.std.proofs.lemmas.Nat.{from_le_bytes-to_le_bytes_2}
use Rattle.guest_mem.specs.declared.region.Region.{Region}
use Rattle.guest_mem.specs.Memory.{Contents, byte_at, bytes_at, covers, written}
use Rattle.vring_split.specs.declared.fault.RingFault.TheVariants.{AvailJump, HeadRange}
use Rattle.vring_split.specs.declared.layout.Layout.{Layout}
use Rattle.vring_split.specs.declared.segment.Segment.{Segment}
use Rattle.vring_split.specs.Split.{desc_addr, avail_idx_addr, avail_entry_addr, distance}
use Rattle.vring_walk.specs.declared.walk.Fetched.{Fetched}
use Rattle.vring_walk.specs.declared.walk.Fetched.TheVariants.{Chain, Nothing, Bad, Crowded}
use Rattle.vring_walk.specs.Chain.{Look, Cover}
use Rattle.vring_walk.specs.Fetch.{avail_idx, avail_head}
use Rattle.vring_walk.specs.Fetched.{PathEnd, path_from, told_at_once, told_by_path, fetched}
use Rattle.vring_walk.specs.Fetched.PathEnd.{Gives}
use Rattle.vring_drive.specs.Area.{after, slot_len, slot_at, with_field, layout_at}
use Rattle.vring_drive.specs.Books.{Books, ring_of, chain_of, head_of}
use Rattle.vring_drive.specs.Posts.{linked, offered, filled, told, full_refusal, length_refusal, full_pieces, piece_lens}
use Rattle.vring_drive.specs.declared.error.PostErr.{PostErr}
use Rattle.vring_drive.specs.declared.error.PostErr.TheVariants.{TooLong, Full}
use Rattle.driver_laws.specs.Offers.{segments_for, AreApart, StandLinked, IsReady, Finds, PostInIsFound, PostOutIsFound}
use Rattle.driver_laws.proofs.Apart.{StandOnce, apart_once, front_once, few_apart}
use Rattle.driver_laws.proofs.Bytes.{written_there, at_write, before_write, behind_write}
use Rattle.driver_laws.proofs.Ground.{Known, Ground, index_there, entry_there, slot_there}
use Rattle.driver_laws.proofs.Links.{Small, linked_regions, linked_stands, stands_kept}
use Rattle.driver_laws.proofs.Walk.{SlotsThere, Comes, path_found, length_segments}

-- Fields.

length_field : (n : ℕ) → length (to_le_bytes w16 n) ≡ 2
length_field n = refl

-- a field is read as it was written
field_written :
    (k : Known) (m : Contents) (a n : ℕ) → n < 2 ^ 16 → covers m.regions a 2 ≡ true
    → from_le_bytes w16 (bytes_at (byte_at (with_field a n m)) a 2) ≡ n
unfolding with_field
field_written k m a n h there =
    ap (from_le_bytes w16) (at_write k.writes m a 2 (to_le_bytes w16 n) (length_field n) there)
    ∙ from_le_bytes-to_le_bytes_2 n h

-- and leaves what stands in front of it and behind it
pub field_before :
    (k : Known) (m : Contents) (a n b size : ℕ) → covers m.regions a 2 ≡ true → b + size ≤ a
    → bytes_at (byte_at (with_field a n m)) b size ≡ bytes_at (byte_at m) b size
unfolding with_field
field_before k m a n b size there h =
    let w = written_there k.writes m a 2 (to_le_bytes w16 n) (length_field n) there in
    before_write (byte_at m) (byte_at (written m a (to_le_bytes w16 n))) a (to_le_bytes w16 n) b size w h

pub field_behind :
    (k : Known) (m : Contents) (a n b size : ℕ) → covers m.regions a 2 ≡ true → a + 2 ≤ b
    → bytes_at (byte_at (with_field a n m)) b size ≡ bytes_at (byte_at m) b size
unfolding with_field
field_behind k m a n b size there h =
    let two = length_field n in
    let w = written_there k.writes m a 2 (to_le_bytes w16 n) two there in
    behind_write (byte_at m) (byte_at (written m a (to_le_bytes w16 n))) a (to_le_bytes w16 n) b size w (omega arith)

pub field_regions : (m : Contents) (a n : ℕ) → (with_field a n m).regions ≡ m.regions
unfolding with_field
field_regions m a n = refl

-- The available ring.

pub offered_regions : (l : Layout) (p head : ℕ) (m : Contents) → (offered l p head m).regions ≡ m.regions
unfolding offered with_field
offered_regions l p head m = refl

-- the index behind an offer
pub offered_index :
    (k : Known) (l : Layout) (p head : ℕ) (m : Contents) → Ground m.regions l
    → avail_idx (byte_at (offered l p head m)) l ≡ after p 1
unfolding offered avail_idx
offered_index k l p head m g =
    let n = with_field (avail_entry_addr l p) head m in
    let there = subst (λ (r : List Region). covers r (avail_idx_addr l) 2 ≡ true) (sym (field_regions m (avail_entry_addr l p) head)) (index_there k l g) in
    field_written k n (avail_idx_addr l) (after p 1) (omega arith) there

-- the head that was offered
pub offered_head :
    (k : Known) (l : Layout) (p head : ℕ) (m : Contents) → Ground m.regions l → head < 2 ^ 16
    → avail_head (byte_at (offered l p head m)) l p ≡ head
unfolding offered avail_head
offered_head k l p head m g h =
    let n = with_field (avail_entry_addr l p) head m in
    let there = subst (λ (r : List Region). covers r (avail_idx_addr l) 2 ≡ true) (sym (field_regions m (avail_entry_addr l p) head)) (index_there k l g) in
    ap (from_le_bytes w16) (field_behind k n (avail_idx_addr l) (after p 1) (avail_entry_addr l p) 2 there (omega arith))
    ∙ field_written k m (avail_entry_addr l p) head h (entry_there k l g p)

-- the table stays
pub offered_table :
    (k : Known) (l : Layout) (p head : ℕ) (m : Contents) → Ground m.regions l → (d : ℕ) → d < l.num
    → bytes_at (byte_at (offered l p head m)) (desc_addr l d) 16 ≡ bytes_at (byte_at m) (desc_addr l d) 16
unfolding offered
offered_table k l p head m g d less =
    let n = with_field (avail_entry_addr l p) head m in
    let there = subst (λ (r : List Region). covers r (avail_idx_addr l) 2 ≡ true) (sym (field_regions m (avail_entry_addr l p) head)) (index_there k l g) in
    let start : l.avail ≡ l.desc + 16 * l.num = g.behind in
    field_before k n (avail_idx_addr l) (after p 1) (desc_addr l d) 16 there (omega arith)
    ∙ field_before k m (avail_entry_addr l p) head (desc_addr l d) 16 (entry_there k l g p) (omega arith)

-- What a fetch tells.

-- what is told at once, and else by the path
abbrev fetched_step : ℕ → Option Fetched → ℕ → PathEnd → Fetched × List Segment
fetched_step places told head end = elim told [
  | Some answer ↦ (answer, [])
  | None ↦ told_by_path places head end
]

pub fetched_by :
    (look : Look) (covers : Cover) (l : Layout) (p places index head : ℕ) (segments : List Segment)
    → avail_idx look l ≡ index → avail_head look l p ≡ head → told_at_once l p index head ≡ None
    → path_from look covers l head ≡ Gives segments → nat_le (length segments) places ≡ true
    → fetched look covers l p places ≡ (Chain head, segments)
unfolding fetched
fetched_by look covers l p places index head segments ei eh none path fits =
    subst (λ (i : ℕ). fetched look covers l p places
    ≡ fetched_step places (told_at_once l p i (avail_head look l p)) (avail_head look l p)
    (path_from look covers l (avail_head look l p))) ei refl
    ∙ ap (λ (h : ℕ). fetched_step places (told_at_once l p index h) h (path_from look covers l h)) eh
    ∙ ap (λ (t : Option Fetched). fetched_step places t head (path_from look covers l head)) none
    ∙ ap (told_by_path places head) path
    ∙ ap (λ (b : Bool). if b then (Chain head, segments) else (Crowded, [])) fits

pub three_no :
    (a b c : Bool) (x y z : Option Fetched)
    → a ≡ false → b ≡ false → c ≡ false → (if a then x else (if b then y else (if c then z else None))) ≡ None
three_no true b c x y z ha hb hc = absurd (cc)
three_no false true c x y z ha hb hc = absurd (cc)
three_no false false true x y z ha hb hc = absurd (cc)
three_no false false false x y z ha hb hc = refl

pub eqb_no : (a b : ℕ) → (a ≡ b → ⊥) → (a == b) ≡ false
eqb_no a b h = grind (arith, nat_tests)

pub ltb_no : (a b : ℕ) → b ≤ a → nat_lt a b ≡ false
ltb_no a b h = grind (arith, nat_tests)

pub leb_no : (a b : ℕ) → b < a → nat_le a b ≡ false
leb_no a b h = grind (arith, nat_tests)

pub leb_yes : (a b : ℕ) → a ≤ b → nat_le a b ≡ true
leb_yes a b h = grind (arith, nat_tests)

-- one position ahead a head in the table leads to a path
pub told_none : (l : Layout) (p head : ℕ) → p < 2 ^ 16 → 0 < l.num → head < l.num → told_at_once l p (after p 1) head ≡ None
told_none l p head fits some less =
    let other : after p 1 ≡ p → ⊥ = λ e. omega arith in
    let one : distance p (after p 1) ≡ 1 = omega arith in
    three_no (after p 1 == p) (nat_lt l.num (distance p (after p 1))) (nat_le l.num head) (Some Nothing) (Some (Bad AvailJump))
    (Some (Bad HeadRange)) (eqb_no (after p 1) p other) (ltb_no l.num (distance p (after p 1)) (omega arith))
    (leb_no l.num head less)

-- A post.

pub nothing_before : (w : Bool) → (not w && false) ≡ false
nothing_before true = refl
nothing_before false = refl

-- a list's front, of at least one
pub some_front :
    (xs : List ℕ) (n : ℕ) → 0 < n → n ≤ length xs
    → (d : ℕ) × (ds : List ℕ) × (take n xs ≡ d ∷ ds) × (n ≡ length ds + 1)
some_front xs zero some less = absurd (omega arith)
some_front [] (suc n) some less = absurd (omega arith)
some_front (x ∷ xs) (suc n) some less =
    let front : length (take n xs) ≡ n = length-take-le n xs (omega arith) in
    (x, take n xs, refl, omega arith)

-- whatever a side makes of the layout
pub stands_any :
    (look : ℕ → Option ℕ) (s n : ℕ) (e i r j q w : Bool) (ds lens : List ℕ)
    → StandLinked look (layout_at s n e i r) w ds lens → StandLinked look (layout_at s n e j q) w ds lens
stands_any look s n e i r j q w [] lens h = tt
stands_any look s n e i r j q w (d ∷ ds) lens h = (h.0, stands_any look s n e i r j q w ds (drop 1 lens) h.1)

chain_found :
    (k : Known) (b : Books) (m : Contents) (w indirect : Bool) (d : ℕ) (ds lens : List ℕ)
    → Ground m.regions (ring_of b) → b.avail < 2 ^ 16 → AreApart b.num (d ∷ ds)
    → length (d ∷ ds) ≤ b.num → length (d ∷ ds) ≤ 1024 → Small lens
    → fetched (byte_at (offered (ring_of b) b.avail d (linked (ring_of b) w (d ∷ ds) lens m)))
    (covers (offered (ring_of b) b.avail d (linked (ring_of b) w (d ∷ ds) lens m)).regions)
    (layout_at b.start b.num b.event indirect w) b.avail 1024
    ≡ (Chain d, segments_for (layout_at b.start b.num b.event indirect w) w (d ∷ ds) lens)
unfolding path_from avail_idx avail_head
chain_found k b m w indirect d ds lens g place apart few places small =
    let l = ring_of b in
    let v = layout_at b.start b.num b.event indirect w in
    let linked_in = linked l w (d ∷ ds) lens m in
    let after_it = offered l b.avail d linked_in in
    let kept : linked_in.regions ≡ m.regions = linked_regions l w (d ∷ ds) lens m in
    let kept_too : after_it.regions ≡ m.regions = offered_regions l b.avail d linked_in ∙ kept in
    let ground : Ground linked_in.regions l = subst (λ (r : List Region). Ground r l) (sym kept) g in
    let stands =
    stands_any (byte_at after_it) b.start b.num b.event false false indirect w w (d ∷ ds) lens
    (stands_kept (byte_at linked_in) (byte_at after_it) l w (d ∷ ds) lens
    (λ x less. offered_table k l b.avail d linked_in ground x less) apart
    (linked_stands k l g w (d ∷ ds) lens m refl apart small)) in
    let slots : SlotsThere (covers after_it.regions) v =
    λ x n inside fits. subst (λ (r : List Region). covers r (slot_at l x) n ≡ true) (sym kept_too) (slot_there k l g x n inside fits) in
    let comes : Comes (covers after_it.regions) v w d lens 0 [] = record {
      way = refl;
      inside = apart.0;
      small = small;
      slots = slots;
      few = g.some;
      places = lit< tt;
      order = nothing_before w;
    } in
    let size : b.num ≤ 32768 = g.size in
    let inside : d < b.num = apart.0 in
    let count = length_segments v w (d ∷ ds) lens in
    fetched_by (byte_at after_it) (covers after_it.regions) v b.avail 1024 (after b.avail 1) d (segments_for v w (d ∷ ds) lens)
    (offered_index k l b.avail d linked_in ground) (offered_head k l b.avail d linked_in ground (omega arith))
    (told_none v b.avail d place g.some inside)
    (path_found (byte_at after_it) (covers after_it.regions) v w (b.num + 1025) d ds lens 0 [] comes apart stands
    (omega arith) (omega arith) (omega arith))
    (leb_yes (length (segments_for v w (d ∷ ds) lens)) 1024 (omega arith))

-- the ring of a driver whose area is there
pub ground_of : (b : Books) (m : Contents) → IsReady b m → 0 < b.num → Ground m.regions (ring_of b)
ground_of b m ready some = record { some = some; size = ready.size; behind = refl; area = ready.area }

-- a driver's free descriptors are kept once
pub free_once : (b : Books) (m : Contents) → IsReady b m → StandOnce b.num b.free
free_once b m ready = λ d. let whole = ready.whole.once d in omega arith

post_found :
    (k : Known) (b : Books) (m n : Contents) (w indirect : Bool) (lens : List ℕ)
    → IsReady b m → 0 < length lens → length lens ≤ 1024 → length lens ≤ length b.free → Small lens → n.regions ≡ m.regions
    → Finds b
    (offered (ring_of b) b.avail (head_of (chain_of (length lens) b)) (linked (ring_of b) w (chain_of (length lens) b) lens n))
    (layout_at b.start b.num b.event indirect w) w lens
post_found k b m n w indirect lens ready some few free small same =
    let front = some_front b.free (length lens) some free in
    let d = front.0 in
    let ds = front.1 in
    let e : chain_of (length lens) b ≡ d ∷ ds = front.2 in
    let once = front_once b.num (length lens) b.free (free_once b m ready) in
    let apart : AreApart b.num (d ∷ ds) = subst (AreApart b.num) e (apart_once b.num (chain_of (length lens) b) once) in
    let most : length (d ∷ ds) ≤ b.num = subst (λ (xs : List ℕ). length xs ≤ b.num) e (few_apart b.num (chain_of (length lens) b) once) in
    let count : length lens ≡ length ds + 1 = front.3 in
    let ground = subst (λ (r : List Region). Ground r (ring_of b)) (sym same) (ground_of b m ready (omega arith)) in
    subst (λ (c : List ℕ). fetched (byte_at (offered (ring_of b) b.avail (head_of c) (linked (ring_of b) w c lens n)))
    (covers (offered (ring_of b) b.avail (head_of c) (linked (ring_of b) w c lens n)).regions)
    (layout_at b.start b.num b.event indirect w) b.avail 1024
    ≡ (Chain (head_of c), segments_for (layout_at b.start b.num b.event indirect w) w c lens)) (sym e)
    (chain_found k b n w indirect d ds lens ground ready.place apart most (omega arith) small)

-- What isn't refused.

pub none_of_both : {A : Type 0} (a b : Option A) → option_or a b ≡ None → (a ≡ None) × (b ≡ None)
none_of_both None b h = (refl, h)
none_of_both (Some x) b h = absurd (cc)

pub mapped_none : (r : Option ℕ) → option_map TooLong r ≡ None → r ≡ None
mapped_none None h = refl
mapped_none (Some n) h = absurd (cc)

none_if : (b : Bool) (x : PostErr) → (if b then Some x else None) ≡ None → b ≡ false
none_if true x h = absurd (cc)
none_if false x h = refl

found_none : (b : Bool) (n : ℕ) (rest : Option ℕ) → (if b then Some n else rest) ≡ None → (b ≡ false) × (rest ≡ None)
found_none true n rest h = absurd (cc)
found_none false n rest h = (refl, h)

pub small_found : (lens : List ℕ) → find (λ n. nat_lt slot_len n) lens ≡ None → Small lens
small_found [] h = tt
small_found (n ∷ lens) h =
    let both = found_none (nat_lt slot_len n) n (find (λ k. nat_lt slot_len k) lens) h in
    (ltb-false slot_len n both.0, small_found lens both.1)

pub enough : (need : ℕ) (b : Books) → full_refusal need b ≡ None → need ≤ length b.free
enough need b h = ltb-false (length b.free) need (none_if (nat_lt (length b.free) need) (Full (told need) (told (length b.free))) h)

pub post_in_found : Known → PostInIsFound
post_in_found k b m lens indirect ready some few none =
    let both = none_of_both (length_refusal lens) (full_refusal (length lens) b) none in
    let small = small_found lens (mapped_none (find (λ n. nat_lt slot_len n) lens) both.0) in
    post_found k b m m true indirect lens ready some few (enough (length lens) b both.1) small refl

-- Pieces of bytes.

pub pieces_small : (q r : ℕ) → r ≤ slot_len → Small (replicate q slot_len ++ r ∷ [])
pieces_small zero r h = (h, tt)
pieces_small (suc q) r h = (omega arith, pieces_small q r h)

pub pieces_count : (q r : ℕ) → length (replicate q slot_len ++ r ∷ []) ≡ q + 1
pieces_count zero r = refl
pieces_count (suc q) r = let rest = pieces_count q r in omega arith

pub filled_regions : (l : Layout) (ds bytes : List ℕ) (m : Contents) → (filled l ds bytes m).regions ≡ m.regions
unfolding filled
filled_regions l [] bytes m = refl
filled_regions l (d ∷ ds) bytes m = filled_regions l ds (drop slot_len bytes) (written m (slot_at l d) (take slot_len bytes))

pub post_out_found : Known → PostOutIsFound
post_out_found k b m bytes indirect ready few none =
    let q = full_pieces (length bytes) in
    let r = length bytes - slot_len * q in
    let lens = piece_lens (length bytes) in
    let count : length lens ≡ q + 1 = pieces_count q r in
    let small : Small lens = pieces_small q r (omega arith) in
    let free : length lens ≤ length b.free = let need = enough (q + 1) b none in omega arith in
    post_found k b m (filled (ring_of b) (chain_of (length lens) b) bytes m) false indirect lens ready (omega arith)
    (omega arith) free small (filled_regions (ring_of b) (chain_of (length lens) b) bytes m)
