-- What is on offer is found, and stays.
use Rattle.std.proofs.Common.{◌≡◌, ℕ, ◌+◌, ◌-◌, ◌*◌, ◌%◌, ◌<◌, ◌≤◌, ◌==◌, inl, inr, Bool, true, false, ◌&&◌, nat_lt, nat_le, List, [], ◌∷◌, length, take, drop, Option, None, Some, is_none, refl, ap, sym, ◌∙◌, subst, arith, lit<}
use Rattle.std.specs.Prelude.{if◌then◌else◌, slice_index, find}
use Rattle.std.specs.Int.{from_le_bytes, w16}
use Rattle.std.proofs.lemmas.Bool.{cases_lt}
use Rattle.std.proofs.lemmas.List.{length-take, length-take-le}
use Rattle.guest_mem.specs.declared.region.Region.{Region}
use Rattle.guest_mem.specs.Memory.{Contents, byte_at, bytes_at, covers, written}
use Rattle.vring_split.specs.declared.desc.Desc.{Desc}
use Rattle.vring_split.specs.declared.fault.RingFault.TheVariants.{AvailJump, HeadRange}
use Rattle.vring_split.specs.declared.layout.Layout.{Layout}
use Rattle.vring_split.specs.Split.{desc_addr, desc_of, desc_bytes, avail_idx_addr, avail_entry_addr, used_event_addr, distance}
use Rattle.vring_walk.specs.declared.walk.Fetched.TheVariants.{Chain, Nothing, Bad}
use Rattle.vring_walk.specs.Fetch.{avail_idx, avail_head}
use Rattle.vring_walk.specs.Fetched.{path_from, told_at_once, fetched}
use Rattle.vring_drive.specs.Area.{slot_len, slot_at, area_len, data_offset, after, with_field, layout_at}
use Rattle.vring_drive.specs.Books.{Books, ring_of, chain_of, head_of}
use Rattle.tap_ground.specs.Lists.{times as times_in}
use Rattle.vring_drive.specs.Posts.{desc_for, linked, offered, filled, full_pieces, piece_lens, post_in_refusal, post_out_refusal, length_refusal, full_refusal}
use Rattle.vring_drive.specs.Harvests.{harvested}
use Rattle.driver_laws.specs.Offers.{segments_for, AreApart, AreTaken, StandLinked, IsOffered, IsReady, OfferIsFound, PostsOffer, PostsLeaveOffers, HarvestsLeaveOffers}
use Rattle.driver_laws.proofs.Apart.{apart_once, front_once, few_apart, times_in_front}
use Rattle.driver_laws.proofs.Bytes.{written_there, before_write, behind_write}
use Rattle.driver_laws.proofs.Ground.{Known, Ground, desc_there, index_there, entry_there, slot_there, data_behind}
use Rattle.driver_laws.proofs.Links.{Small, small_first, small_rest, next_small, desc_fits, linked_left, linked_regions, linked_stands, stands_kept}
use Rattle.driver_laws.proofs.Walk.{SlotsThere, Comes, path_found, length_segments}
use Rattle.driver_laws.proofs.Posts.{field_before, field_behind, field_regions, offered_head, offered_table, fetched_by, three_no, eqb_no, ltb_no, leb_no, leb_yes, nothing_before, stands_any, ground_of, free_once, none_of_both, mapped_none, small_found, enough, pieces_small, pieces_count, filled_regions}

-- An offer is found.

told_any :
    (l : Layout) (p index head : ℕ) → (index ≡ p → ⊥) → distance p index ≤ l.num → head < l.num
    → told_at_once l p index head ≡ None
told_any l p index head other near less =
    three_no (index == p) (nat_lt l.num (distance p index)) (nat_le l.num head) (Some Nothing) (Some (Bad AvailJump))
    (Some (Bad HeadRange)) (eqb_no index p other) (ltb_no l.num (distance p index) near) (leb_no l.num head less)

offer_at :
    (k : Known) (b : Books) (m : Contents) (position : ℕ) (w indirect : Bool) (chain lens : List ℕ)
    → IsReady b m → IsOffered m (ring_of b) position w chain lens
    → 0 < length chain → length chain ≤ 1024 → length chain ≤ b.num → AreApart b.num chain → Small lens
    → (avail_idx (byte_at m) (ring_of b) ≡ position → ⊥) → distance position (avail_idx (byte_at m) (ring_of b)) ≤ b.num
    → fetched (byte_at m) (covers m.regions) (layout_at b.start b.num b.event indirect w) position 1024
    ≡ (Chain (head_of chain), segments_for (layout_at b.start b.num b.event indirect w) w chain lens)
unfolding path_from avail_idx avail_head
offer_at k b m position w indirect [] lens ready offer some few most apart small other near = absurd (omega arith)
offer_at k b m position w indirect (d ∷ ds) lens ready offer some few most apart small other near =
    let l = ring_of b in
    let v = layout_at b.start b.num b.event indirect w in
    let inside : d < b.num = apart.0 in
    let g = ground_of b m ready (omega arith) in
    let stands = stands_any (byte_at m) b.start b.num b.event false false indirect w w (d ∷ ds) lens offer.linked in
    let slots : SlotsThere (covers m.regions) v = λ x n less fits. slot_there k l g x n less fits in
    let comes : Comes (covers m.regions) v w d lens 0 [] = record {
      way = refl;
      inside = inside;
      small = small;
      slots = slots;
      few = g.some;
      places = lit< tt;
      order = nothing_before w;
    } in
    let count = length_segments v w (d ∷ ds) lens in
    fetched_by (byte_at m) (covers m.regions) v position 1024 (avail_idx (byte_at m) l) d (segments_for v w (d ∷ ds) lens)
    refl offer.head (told_any v position (avail_idx (byte_at m) l) d other near inside)
    (path_found (byte_at m) (covers m.regions) v w (b.num + 1025) d ds lens 0 [] comes apart stands (omega arith)
    (omega arith) (omega arith))
    (leb_yes (length (segments_for v w (d ∷ ds) lens)) 1024 (omega arith))

pub offer_found : Known → OfferIsFound
offer_found k = offer_at k

-- A post offers.

-- the new chain's descriptors
pub chain_apart :
    (b : Books) (m : Contents) → IsReady b m → (n : ℕ) → n ≤ length b.free
    → AreApart b.num (chain_of n b) × (n ≤ b.num)
chain_apart b m ready n free =
    let once = front_once b.num n b.free (free_once b m ready) in
    let few = few_apart b.num (chain_of n b) once in
    let same : length (chain_of n b) ≡ n = length-take-le n b.free free in
    (apart_once b.num (chain_of n b) once, omega arith)

post_offers :
    (k : Known) (b : Books) (m n : Contents) (w : Bool) (lens : List ℕ)
    → IsReady b m → 0 < length lens → length lens ≤ length b.free → Small lens → n.regions ≡ m.regions
    → IsOffered (offered (ring_of b) b.avail (head_of (chain_of (length lens) b)) (linked (ring_of b) w (chain_of (length lens) b) lens n))
    (ring_of b) b.avail w (chain_of (length lens) b) lens
post_offers k b m n w lens ready some free small same =
    let l = ring_of b in
    let chain = chain_of (length lens) b in
    let new = chain_apart b m ready (length lens) free in
    let most : length lens ≤ b.num = new.1 in
    let ground = subst (λ (r : List Region). Ground r l) (sym same) (ground_of b m ready (omega arith)) in
    let linked_in = linked l w chain lens n in
    let grounded : Ground linked_in.regions l = subst (λ (r : List Region). Ground r l) (sym (linked_regions l w chain lens n)) ground in
    record {
      head = offered_head k l b.avail (head_of chain) linked_in grounded (next_small b.num chain ready.size new.0);
      linked =
          stands_kept (byte_at linked_in) (byte_at (offered l b.avail (head_of chain) linked_in)) l w chain lens
          (λ x less. offered_table k l b.avail (head_of chain) linked_in grounded x less) new.0
          (linked_stands k l ground w chain lens n refl new.0 small);
    }

-- what a post of room needs
room_small : (b : Books) (lens : List ℕ) → post_in_refusal lens b ≡ None → Small lens × (length lens ≤ length b.free)
room_small b lens none =
    let both = none_of_both (length_refusal lens) (full_refusal (length lens) b) none in
    (small_found lens (mapped_none (find (λ n. nat_lt slot_len n) lens) both.0), enough (length lens) b both.1)

-- and one of bytes
pub bytes_small :
    (b : Books) (len : ℕ) → post_out_refusal len b ≡ None
    → Small (piece_lens len) × (0 < length (piece_lens len)) × (length (piece_lens len) ≤ length b.free)
bytes_small b len none =
    let q = full_pieces len in
    let r = len - slot_len * q in
    let count : length (piece_lens len) ≡ q + 1 = pieces_count q r in
    let need = enough (q + 1) b none in
    (pieces_small q r (omega arith), omega arith, omega arith)

pub posts_offer : Known → PostsOffer
posts_offer k = λ b m ready. (
  λ lens some none. let can = room_small b lens none in post_offers k b m m true lens ready some can.1 can.0 refl,
  λ bytes none.
      let lens = piece_lens (length bytes) in
      let can = bytes_small b (length bytes) none in
      post_offers k b m (filled (ring_of b) (chain_of (length lens) b) bytes m) false lens ready can.1 can.2 can.0
      (filled_regions (ring_of b) (chain_of (length lens) b) bytes m),
)

-- Other offers stay.

-- what stands behind the table stays where descriptors are written
pub linked_behind :
    {rs : List Region} (k : Known) (l : Layout) → Ground rs l → (w : Bool) (ds lens : List ℕ) (m : Contents) (a n : ℕ)
    → m.regions ≡ rs → AreApart l.num ds → Small lens → l.desc + 16 * l.num ≤ a
    → bytes_at (byte_at (linked l w ds lens m)) a n ≡ bytes_at (byte_at m) a n
unfolding linked
linked_behind k l g w [] lens m a n same apart small far = refl
linked_behind {rs} k l g w (x ∷ xs) lens m a n same apart small far =
    let e : Desc = desc_for l w x (slice_index lens 0) xs in
    let fits = desc_fits k l g w x (slice_index lens 0) xs apart.0 (small_first lens small) apart.2 in
    let there = subst (λ (r : List Region). covers r (desc_addr l x) 16 ≡ true) (sym same) (desc_there k l g x apart.0) in
    let sixteen : length (desc_bytes e) ≡ 16 = (k.desc e fits).0 in
    let wrote = written_there k.writes m (desc_addr l x) 16 (desc_bytes e) sixteen there in
    let inside : x < l.num = apart.0 in
    let new = written m (desc_addr l x) (desc_bytes e) in
    linked_behind k l g w xs (drop 1 lens) new a n same apart.2 (small_rest lens small) far
    ∙ behind_write (byte_at m) (byte_at new) (desc_addr l x) (desc_bytes e) a n wrote (omega arith)

-- what stands in front of the data slots stays where they are filled
filled_front :
    {rs : List Region} (k : Known) (l : Layout) → Ground rs l → (ds bytes : List ℕ) (m : Contents) (a n : ℕ)
    → m.regions ≡ rs → AreApart l.num ds → a + n ≤ l.desc + data_offset l.num
    → bytes_at (byte_at (filled l ds bytes m)) a n ≡ bytes_at (byte_at m) a n
unfolding filled
filled_front k l g [] bytes m a n same apart far = refl
filled_front {rs} k l g (d ∷ ds) bytes m a n same apart far =
    let part = take slot_len bytes in
    let few : length part ≤ slot_len = omega (arith, length-take slot_len bytes) in
    let there =
    subst (λ (r : List Region). covers r (slot_at l d) (length part) ≡ true) (sym same)
    (slot_there k l g d (length part) apart.0 few) in
    let wrote = written_there k.writes m (slot_at l d) (length part) part refl there in
    let new = written m (slot_at l d) part in
    filled_front k l g ds (drop slot_len bytes) new a n same apart.2 far
    ∙ before_write (byte_at m) (byte_at new) (slot_at l d) part a n wrote (omega arith)

-- an entry of the available ring stays where another one is written
pub other_entry :
    (k : Known) (l : Layout) (p head : ℕ) (m : Contents) → Ground m.regions l → (position : ℕ)
    → (position % l.num ≡ p % l.num → ⊥)
    → bytes_at (byte_at (offered l p head m)) (avail_entry_addr l position) 2
    ≡ bytes_at (byte_at m) (avail_entry_addr l position) 2
unfolding offered
other_entry k l p head m g position other =
    let n = with_field (avail_entry_addr l p) head m in
    let there = subst (λ (r : List Region). covers r (avail_idx_addr l) 2 ≡ true) (sym (field_regions m (avail_entry_addr l p) head)) (index_there k l g) in
    field_behind k n (avail_idx_addr l) (after p 1) (avail_entry_addr l position) 2 there (omega arith)
    ∙ elim (cases_lt (position % l.num) (p % l.num)) [
      | inl below ↦ field_before k m (avail_entry_addr l p) head (avail_entry_addr l position) 2 (entry_there k l g p) (omega arith)
      | inr above ↦ field_behind k m (avail_entry_addr l p) head (avail_entry_addr l position) 2 (entry_there k l g p) (omega arith)
    ]

-- descriptors that aren't free stand in the table as before
stands_taken :
    (b : Books) (old new : ℕ → Option ℕ) (w : Bool) (ds lens : List ℕ)
    → ((d : ℕ) → d < b.num → times_in d b.free ≡ 0
    → bytes_at new (desc_addr (ring_of b) d) 16 ≡ bytes_at old (desc_addr (ring_of b) d) 16)
    → AreTaken b ds → StandLinked old (ring_of b) w ds lens → StandLinked new (ring_of b) w ds lens
stands_taken b old new w [] lens kept taken h = tt
stands_taken b old new w (d ∷ ds) lens kept taken h =
    (ap desc_of (kept d taken.0 taken.1) ∙ h.0, stands_taken b old new w ds (drop 1 lens) kept taken.2 h.1)

left_by_post :
    (k : Known) (b : Books) (m n : Contents) (w : Bool) (room : List ℕ)
    (position : ℕ) (v : Bool) (chain lens : List ℕ)
    → IsReady b m → 0 < length room → length room ≤ length b.free → Small room → n.regions ≡ m.regions
    → AreTaken b chain → (position % b.num ≡ b.avail % b.num → ⊥) → IsOffered n (ring_of b) position v chain lens
    → IsOffered (offered (ring_of b) b.avail (head_of (chain_of (length room) b)) (linked (ring_of b) w (chain_of (length room) b) room n))
    (ring_of b) position v chain lens
unfolding avail_head
left_by_post k b m n w room position v chain lens ready some free small same taken other offer =
    let l = ring_of b in
    let posted = chain_of (length room) b in
    let new = chain_apart b m ready (length room) free in
    let most : length room ≤ b.num = new.1 in
    let ground = subst (λ (r : List Region). Ground r l) (sym same) (ground_of b m ready (omega arith)) in
    let linked_in = linked l w posted room n in
    let grounded : Ground linked_in.regions l = subst (λ (r : List Region). Ground r l) (sym (linked_regions l w posted room n)) ground in
    let last = offered l b.avail (head_of posted) linked_in in
    let start : l.avail ≡ l.desc + 16 * l.num = ground.behind in
    record {
      head =
          ap (from_le_bytes w16)
          (other_entry k l b.avail (head_of posted) linked_in grounded position other
          ∙ linked_behind k l ground w posted room n (avail_entry_addr l position) 2 refl new.0 small (omega arith))
          ∙ offer.head;
      linked =
          stands_taken b (byte_at n) (byte_at last) v chain lens
          (λ d less none.
          let not_posted : times_in d posted ≡ 0 = let front = times_in_front d (length room) b.free in omega arith in
          offered_table k l b.avail (head_of posted) linked_in grounded d less
          ∙ linked_left k l ground w posted room n d refl new.0 small not_posted) taken offer.linked;
    }

left_by_fill :
    (k : Known) (b : Books) (m : Contents) (posted bytes : List ℕ) (position : ℕ) (v : Bool) (chain lens : List ℕ)
    → IsReady b m → 0 < b.num → AreApart b.num posted → AreTaken b chain → IsOffered m (ring_of b) position v chain lens
    → IsOffered (filled (ring_of b) posted bytes m) (ring_of b) position v chain lens
unfolding avail_head
left_by_fill k b m posted bytes position v chain lens ready some apart taken offer =
    let l = ring_of b in
    let g = ground_of b m ready some in
    let far = data_behind b.num in
    record {
      head =
          ap (from_le_bytes w16) (filled_front k l g posted bytes m (avail_entry_addr l position) 2 refl apart (omega arith))
          ∙ offer.head;
      linked =
          stands_taken b (byte_at m) (byte_at (filled l posted bytes m)) v chain lens
          (λ d less none. filled_front k l g posted bytes m (desc_addr l d) 16 refl apart (omega arith)) taken offer.linked;
    }

pub posts_leave : Known → PostsLeaveOffers
posts_leave k = λ b m position v chain lens ready offer taken other. (
  λ room some none.
      let can = room_small b room none in
      left_by_post k b m m true room position v chain lens ready some can.1 can.0 refl taken other offer,
  λ bytes none.
      let room = piece_lens (length bytes) in
      let can = bytes_small b (length bytes) none in
      let new = chain_apart b m ready (length room) can.2 in
      let most : length room ≤ b.num = new.1 in
      let some : 0 < length room = can.1 in
      let posted = chain_of (length room) b in
      left_by_post k b m (filled (ring_of b) posted bytes m) false room position v chain lens ready can.1 can.2 can.0
      (filled_regions (ring_of b) posted bytes m) taken other
      (left_by_fill k b m posted bytes position v chain lens ready (omega arith) new.0 taken offer),
)

-- used_event stands behind the entries
if_kept : {A : Type 0} (P : A → Type 0) (c : Bool) (x y : A) → P x → P y → P (if c then x else y)
if_kept P true x y hx hy = hx
if_kept P false x y hx hy = hy

left_by_event :
    (k : Known) (b : Books) (m : Contents) (number position : ℕ) (v : Bool) (chain lens : List ℕ)
    → IsReady b m → 0 < b.num → AreApart b.num chain → IsOffered m (ring_of b) position v chain lens
    → IsOffered (with_field (used_event_addr (ring_of b)) number m) (ring_of b) position v chain lens
unfolding avail_head
left_by_event k b m number position v chain lens ready some apart offer =
    let l = ring_of b in
    let g = ground_of b m ready some in
    let far = data_behind b.num in
    let area = g.area in
    let there = k.parts m.regions l.desc (area_len l.num) (used_event_addr l) 2 area (omega arith) (omega arith) in
    record {
      head =
          ap (from_le_bytes w16) (field_before k m (used_event_addr l) number (avail_entry_addr l position) 2 there (omega arith))
          ∙ offer.head;
      linked =
          stands_kept (byte_at m) (byte_at (with_field (used_event_addr l) number m)) l v chain lens
          (λ d less. field_before k m (used_event_addr l) number (desc_addr l d) 16 there (omega arith)) apart offer.linked;
    }

pub harvests_leave : Known → HarvestsLeaveOffers
harvests_leave k = λ b m position v chain lens ready some apart offer.
    let h = harvested m b in
    if_kept (λ (n : Contents). IsOffered n (ring_of b) position v chain lens) (is_none h.stray && b.event)
    (with_field (used_event_addr (ring_of b)) h.books.used m) m
    (left_by_event k b m h.books.used position v chain lens ready some apart offer) offer
