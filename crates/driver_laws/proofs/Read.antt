-- The bytes that were posted are read from the segments.
use Rattle.std.proofs.Common.{◌≡◌, ℕ, zero, suc, ◌+◌, ◌-◌, ◌*◌, ◌<◌, ◌≤◌, ◌⊎◌, inl, inr, Bool, true, false, List, [], ◌∷◌, ◌++◌, length, take, drop, Option, refl, ap, sym, ◌∙◌, subst, arith, length-drop}
use Rattle.std.specs.Prelude.{slice_index, replicate}
use Rattle.std.specs.Int.{to_le_bytes, w16}
use Rattle.std.proofs.lemmas.Bool.Decides.{nat_tests}
use Rattle.std.proofs.lemmas.List.{length-take, length-take-le, take_all, take-append-drop, append-nil}
use Rattle.guest_mem.specs.declared.region.Region.{Region}
use Rattle.guest_mem.specs.Memory.{Contents, byte_at, bytes_at, bytes_from, covers, written}
use Rattle.guest_mem.specs.Regions.{IsSound}
use Rattle.guest_mem.specs.Laws.{BytesAreLookedUp, WritesSoundly}
use Rattle.vring_split.specs.declared.desc.Desc.{Desc}
use Rattle.vring_split.specs.declared.layout.Layout.{Layout}
use Rattle.vring_split.specs.declared.segment.Segment.{Segment}
use Rattle.vring_split.specs.Split.{desc_addr, desc_bytes, avail_idx_addr, avail_entry_addr}
use Rattle.vring_walk.specs.Spread.{gathered}
use Rattle.vring_drive.specs.Area.{slot_len, slot_at, after, with_field, layout_at}
use Rattle.vring_drive.specs.Books.{ring_of, chain_of, head_of}
use Rattle.tap_ground.specs.Lists.{times as times_in}
use Rattle.vring_drive.specs.Posts.{desc_for, linked, offered, filled, full_pieces, piece_lens}
use Rattle.driver_laws.specs.Offers.{segments_for, AreApart, PostOutIsRead}
use Rattle.driver_laws.proofs.Bytes.{written_there, at_write, before_write, behind_write}
use Rattle.driver_laws.proofs.Ground.{Known, Ground, desc_there, index_there, entry_there, slot_there, data_behind}
use Rattle.driver_laws.proofs.Links.{Small, small_first, small_rest, desc_fits, linked_regions}
use Rattle.driver_laws.proofs.Posts.{field_behind, field_regions, ground_of, filled_regions, pieces_count}
use Rattle.driver_laws.proofs.Stay.{linked_behind, chain_apart, bytes_small}

-- Sound memories.

-- a write of bytes that are there
sound_write :
    WritesSoundly → (m : Contents) (a n : ℕ) (xs : List ℕ)
    → length xs ≡ n → covers m.regions a n ≡ true → IsSound m → IsSound (written m a xs)
sound_write sound m a n xs e there h = sound m a xs h (subst (λ (k : ℕ). covers m.regions a k ≡ true) (sym e) there)

linked_sound :
    {rs : List Region} → WritesSoundly → (k : Known) (l : Layout) → Ground rs l → (w : Bool) (ds lens : List ℕ) (m : Contents)
    → m.regions ≡ rs → AreApart l.num ds → Small lens → IsSound m → IsSound (linked l w ds lens m)
unfolding linked
linked_sound sound k l g w [] lens m same apart small h = h
linked_sound {rs} sound k l g w (x ∷ xs) lens m same apart small h =
    let e : Desc = desc_for l w x (slice_index lens 0) xs in
    let fits = desc_fits k l g w x (slice_index lens 0) xs apart.0 (small_first lens small) apart.2 in
    let there = subst (λ (r : List Region). covers r (desc_addr l x) 16 ≡ true) (sym same) (desc_there k l g x apart.0) in
    linked_sound sound k l g w xs (drop 1 lens) (written m (desc_addr l x) (desc_bytes e)) same apart.2
    (small_rest lens small) (sound_write sound m (desc_addr l x) 16 (desc_bytes e) (k.desc e fits).0 there h)

part_few : (bytes : List ℕ) → length (take slot_len bytes) ≤ slot_len
part_few bytes = omega (arith, length-take slot_len bytes)

part_there :
    {rs : List Region} (k : Known) (l : Layout) → Ground rs l → (m : Contents) → m.regions ≡ rs → (d : ℕ) (bytes : List ℕ)
    → d < l.num → covers m.regions (slot_at l d) (length (take slot_len bytes)) ≡ true
part_there k l g m same d bytes h =
    subst (λ (r : List Region). covers r (slot_at l d) (length (take slot_len bytes)) ≡ true) (sym same)
    (slot_there k l g d (length (take slot_len bytes)) h (part_few bytes))

filled_sound :
    {rs : List Region} → WritesSoundly → (k : Known) (l : Layout) → Ground rs l → (ds bytes : List ℕ) (m : Contents)
    → m.regions ≡ rs → AreApart l.num ds → IsSound m → IsSound (filled l ds bytes m)
unfolding filled
filled_sound sound k l g [] bytes m same apart h = h
filled_sound {rs} sound k l g (d ∷ ds) bytes m same apart h =
    filled_sound sound k l g ds (drop slot_len bytes) (written m (slot_at l d) (take slot_len bytes)) same apart.2
    (sound m (slot_at l d) (take slot_len bytes) h (part_there k l g m same d bytes apart.0))

offered_sound :
    WritesSoundly → (k : Known) (l : Layout) (p head : ℕ) (m : Contents) → Ground m.regions l → IsSound m
    → IsSound (offered l p head m)
unfolding offered with_field
offered_sound sound k l p head m g h =
    sound_write sound (written m (avail_entry_addr l p) (to_le_bytes w16 head)) (avail_idx_addr l) 2 (to_le_bytes w16 (after p 1)) refl
    (index_there k l g) (sound_write sound m (avail_entry_addr l p) 2 (to_le_bytes w16 head) refl (entry_there k l g p) h)

-- Data slots.

-- the slots of a chain hold bytes, 2,048 in each but the last
HoldPieces : (ℕ → Option ℕ) → Layout → List ℕ → List ℕ → Type 0
HoldPieces look l [] bytes = Unit {0}
HoldPieces look l (d ∷ ds) bytes =
    (bytes_at look (slot_at l d) (length (take slot_len bytes)) ≡ take slot_len bytes)
    × HoldPieces look l ds (drop slot_len bytes)

other_than : (d x : ℕ) (xs : List ℕ) → times_in d (x ∷ xs) ≡ 0 → (d < x) ⊎ (x < d)
other_than d x xs h = grind (arith, nat_tests)

none_behind : (d x : ℕ) (xs : List ℕ) → times_in d (x ∷ xs) ≡ 0 → times_in d xs ≡ 0
none_behind d x xs h = omega arith

-- a slot of another descriptor stays
slot_left :
    {rs : List Region} (k : Known) (l : Layout) → Ground rs l → (m : Contents) → m.regions ≡ rs → (x : ℕ) (bytes : List ℕ) (d n : ℕ)
    → x < l.num → n ≤ slot_len → (d < x) ⊎ (x < d)
    → bytes_at (byte_at (written m (slot_at l x) (take slot_len bytes))) (slot_at l d) n ≡ bytes_at (byte_at m) (slot_at l d) n
slot_left {rs} k l g m same x bytes d n h small apart =
    let part = take slot_len bytes in
    let few : length part ≤ slot_len = part_few bytes in
    let wrote = written_there k.writes m (slot_at l x) (length part) part refl (part_there k l g m same x bytes h) in
    let new = written m (slot_at l x) part in
    elim apart [
      | inl below ↦ before_write (byte_at m) (byte_at new) (slot_at l x) part (slot_at l d) n wrote (omega arith)
      | inr above ↦ behind_write (byte_at m) (byte_at new) (slot_at l x) part (slot_at l d) n wrote (omega arith)
    ]

slots_left :
    {rs : List Region} (k : Known) (l : Layout) → Ground rs l → (ds bytes : List ℕ) (m : Contents) (d n : ℕ)
    → m.regions ≡ rs → AreApart l.num ds → n ≤ slot_len → times_in d ds ≡ 0
    → bytes_at (byte_at (filled l ds bytes m)) (slot_at l d) n ≡ bytes_at (byte_at m) (slot_at l d) n
unfolding filled
slots_left k l g [] bytes m d n same apart small none = refl
slots_left {rs} k l g (x ∷ xs) bytes m d n same apart small none =
    slots_left k l g xs (drop slot_len bytes) (written m (slot_at l x) (take slot_len bytes)) d n same apart.2 small
    (none_behind d x xs none)
    ∙ slot_left k l g m same x bytes d n apart.0 small (other_than d x xs none)

filled_holds :
    {rs : List Region} (k : Known) (l : Layout) → Ground rs l → (ds bytes : List ℕ) (m : Contents)
    → m.regions ≡ rs → AreApart l.num ds → HoldPieces (byte_at (filled l ds bytes m)) l ds bytes
unfolding filled HoldPieces
filled_holds k l g [] bytes m same apart = tt
filled_holds {rs} k l g (d ∷ ds) bytes m same apart =
    let part = take slot_len bytes in
    let new = written m (slot_at l d) part in (
      slots_left k l g ds (drop slot_len bytes) new d (length part) same apart.2 (part_few bytes) apart.1
          ∙ at_write k.writes m (slot_at l d) (length part) part refl (part_there k l g m same d bytes apart.0),
      filled_holds k l g ds (drop slot_len bytes) new same apart.2,
    )

pieces_kept :
    (old new : ℕ → Option ℕ) (l : Layout) (ds bytes : List ℕ)
    → ((d n : ℕ) → bytes_at new (slot_at l d) n ≡ bytes_at old (slot_at l d) n)
    → HoldPieces old l ds bytes → HoldPieces new l ds bytes
unfolding HoldPieces
pieces_kept old new l [] bytes kept h = tt
pieces_kept old new l (d ∷ ds) bytes kept h =
    (kept d (length (take slot_len bytes)) ∙ h.0, pieces_kept old new l ds (drop slot_len bytes) kept h.1)

-- what stands behind the available ring stays where a head is offered
offered_behind :
    (k : Known) (l : Layout) (p head : ℕ) (m : Contents) → Ground m.regions l → (a n : ℕ) → l.avail + 4 + 2 * l.num ≤ a
    → bytes_at (byte_at (offered l p head m)) a n ≡ bytes_at (byte_at m) a n
unfolding offered
offered_behind k l p head m g a n far =
    let entry = with_field (avail_entry_addr l p) head m in
    let there = subst (λ (r : List Region). covers r (avail_idx_addr l) 2 ≡ true) (sym (field_regions m (avail_entry_addr l p) head)) (index_there k l g) in
    let some : 0 < l.num = g.some in
    field_behind k entry (avail_idx_addr l) (after p 1) a n there (omega arith)
    ∙ field_behind k m (avail_entry_addr l p) head a n (entry_there k l g p) (omega arith)

-- Reading.

-- whatever a side makes of the layout, the segments are the same
segments_any :
    (s n : ℕ) (e i r j q w : Bool) (ds lens : List ℕ)
    → segments_for (layout_at s n e i r) w ds lens ≡ segments_for (layout_at s n e j q) w ds lens
segments_any s n e i r j q w [] lens = refl
segments_any s n e i r j q w (d ∷ ds) lens =
    ap (λ (t : List Segment). record { addr = slot_at (layout_at s n e i r) d; len = slice_index lens 0; write = w } ∷ t)
    (segments_any s n e i r j q w ds (drop 1 lens))

pieces_gathered :
    BytesAreLookedUp → (m : Contents) → IsSound m → (l : Layout) (w : Bool) (q r : ℕ) (ds bytes : List ℕ)
    → HoldPieces (byte_at m) l ds bytes → length ds ≡ q + 1 → length bytes ≡ slot_len * q + r → r ≤ slot_len
    → gathered m.bytes (segments_for l w ds (replicate q slot_len ++ r ∷ [])) ≡ bytes
unfolding HoldPieces
pieces_gathered looked m sound l w q r [] bytes h count size small = absurd (omega arith)
pieces_gathered looked m sound l w zero r (d ∷ []) bytes h count size small =
    let whole : take slot_len bytes ≡ bytes = take_all slot_len bytes (omega arith) in
    let same : r ≡ length (take slot_len bytes) = omega (arith, length-take slot_len bytes) in
    append-nil (bytes_from m.bytes (slot_at l d) r)
    ∙ ap (λ (n : ℕ). bytes_from m.bytes (slot_at l d) n) same
    ∙ looked m (slot_at l d) (length (take slot_len bytes)) sound ∙ h.0 ∙ whole
pieces_gathered looked m sound l w zero r (d ∷ e ∷ es) bytes h count size small = absurd (omega arith)
pieces_gathered looked m sound l w (suc q) r (d ∷ ds) bytes h count size small =
    let same : slot_len ≡ length (take slot_len bytes) = omega (arith, length-take slot_len bytes) in
    let left : length (drop slot_len bytes) ≡ slot_len * q + r = omega (arith, length-drop slot_len bytes) in
    let rest = pieces_gathered looked m sound l w q r ds (drop slot_len bytes) h.1 (omega arith) left small in
    let here : bytes_from m.bytes (slot_at l d) slot_len ≡ take slot_len bytes =
    ap (λ (n : ℕ). bytes_from m.bytes (slot_at l d) n) same
    ∙ looked m (slot_at l d) (length (take slot_len bytes)) sound ∙ h.0 in
    ap (λ (xs : List ℕ). xs ++ gathered m.bytes (segments_for l w ds (replicate q slot_len ++ r ∷ []))) here
    ∙ ap (λ (xs : List ℕ). take slot_len bytes ++ xs) rest ∙ take-append-drop slot_len bytes

pub post_read : BytesAreLookedUp → WritesSoundly → Known → PostOutIsRead
post_read looked sounds k = λ b m bytes indirect ready sound none.
    let l = ring_of b in
    let q = full_pieces (length bytes) in
    let r = length bytes - slot_len * q in
    let lens = piece_lens (length bytes) in
    let can = bytes_small b (length bytes) none in
    let posted = chain_of (length lens) b in
    let new = chain_apart b m ready (length lens) can.2 in
    let some : 0 < length lens = can.1 in
    let most : length lens ≤ b.num = new.1 in
    let g = ground_of b m ready (omega arith) in
    let full = filled l posted bytes m in
    let full_same = filled_regions l posted bytes m in
    let ground = subst (λ (s : List Region). Ground s l) (sym full_same) g in
    let chained = linked l false posted lens full in
    let grounded = subst (λ (s : List Region). Ground s l) (sym (linked_regions l false posted lens full)) ground in
    let last = offered l b.avail (head_of posted) chained in
    let far = data_behind b.num in
    let start : l.avail ≡ l.desc + 16 * l.num = g.behind in
    let is_sound =
    offered_sound sounds k l b.avail (head_of posted) chained grounded
    (linked_sound sounds k l ground false posted lens full refl new.0 can.0
    (filled_sound sounds k l g posted bytes m refl new.0 sound)) in
    let holds =
    pieces_kept (byte_at full) (byte_at last) l posted bytes
    (λ d n. offered_behind k l b.avail (head_of posted) chained grounded (slot_at l d) n (omega arith)
    ∙ linked_behind k l ground false posted lens full (slot_at l d) n refl new.0 can.0 (omega arith))
    (filled_holds k l g posted bytes m refl new.0) in
    let count : length posted ≡ q + 1 = length-take-le (length lens) b.free can.2 ∙ pieces_count q r in
    ap (gathered last.bytes) (segments_any b.start b.num b.event indirect false false false false posted lens)
    ∙ pieces_gathered looked last is_sound l false q r posted bytes holds count (omega arith) (omega arith)
