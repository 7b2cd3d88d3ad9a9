-- A chain of linked descriptors is a path to its end, with their data slots as its segments.
use Rattle.std.proofs.Common.{◌≡◌, ℕ, zero, suc, ◌+◌, ◌<◌, ◌≤◌, Bool, true, false, not, ◌&&◌, ◌||◌, nat_lt, nat_le, List, [], ◌∷◌, ◌++◌, length, drop, Option, None, Some, refl, ap, ◌∙◌, subst, arith, append_assoc, length-append}
use Rattle.std.specs.Prelude.{if◌then◌else◌, slice_index}
use Rattle.std.proofs.lemmas.Bool.{lt-ltb}
use Rattle.std.proofs.lemmas.Bool.Decides.{nat_tests}
use Rattle.std.proofs.lemmas.List.Folds.{list_any-append}
use Rattle.vring_split.specs.declared.desc.Desc.{Desc}
use Rattle.vring_split.specs.declared.fault.RingFault.{RingFault}
use Rattle.vring_split.specs.declared.fault.RingFault.TheVariants.{NextRange, TooLong, Nested, IndirectNext, IndirectLength, Unmapped, Order, Direction, TooManySegments, IndirectOff}
use Rattle.vring_split.specs.declared.layout.Layout.{Layout}
use Rattle.vring_split.specs.declared.segment.Segment.{Segment}
use Rattle.vring_split.specs.Split.{is_indirect}
use Rattle.vring_walk.specs.declared.table.Table.{Table}
use Rattle.tap_ground.specs.Options.{first_that_holds as first_broken}
use Rattle.vring_walk.specs.Chain.{Look, Cover, Place, desc_at, own_table, place_after, segment_in, any_writable, is_bad_length, fault_after}
use Rattle.vring_walk.specs.Fetched.{PathEnd, path_end}
use Rattle.vring_walk.specs.Fetched.PathEnd.{Breaks, Gives}
use Rattle.vring_drive.specs.Area.{slot_len, slot_at}
use Rattle.vring_drive.specs.Posts.{flags_for}
use Rattle.driver_laws.specs.Offers.{segments_for, AreApart, StandLinked}
use Rattle.driver_laws.proofs.Links.{Small, small_first, small_rest}

-- no rule is broken by a descriptor of the ring's own table, where these tests say so
none_broken :
    (seen on nested next bad covered w any rx many far : Bool) (a n : ℕ)
    → seen ≡ false → covered ≡ true → (not w && any) ≡ false → (if rx then not w else w) ≡ false → many ≡ false
    → (next && far) ≡ false
    → first_broken
    ((seen, TooLong) ∷ (false && not on, IndirectOff) ∷ (false && nested, Nested) ∷ (false && next, IndirectNext)
    ∷ (false && bad, IndirectLength) ∷ (not covered, Unmapped a n) ∷ (not false && not w && any, Order)
    ∷ (not false && (if rx then not w else w), Direction) ∷ (not false && many, TooManySegments)
    ∷ (next && far, NextRange) ∷ []) ≡ None
none_broken seen on nested next bad covered w any rx many far a n hs hc ho hd hm hf = rw (hs, hc, ho, hd, hm, hf) refl

-- where a path goes on from a descriptor, with the rule that it breaks
abbrev step_by : Look → Cover → Layout → ℕ → Table → ℕ → List Segment → Desc → Option RingFault → PathEnd
step_by look covers l n t seen met d fault = elim fault [
  | Some f ↦ Breaks f
  | None ↦ elim (place_after t d) [
    | None ↦ Gives (met ++ segment_in d)
    | Some q ↦ path_end look covers l n q (if is_indirect d then 0 else seen + 1) (met ++ segment_in d)
  ]
]

one_step :
    (look : Look) (covers : Cover) (l : Layout) (n : ℕ) (p : Place) (seen : ℕ) (met : List Segment) (d : Desc)
    → desc_at look p ≡ d → fault_after covers l p.table d seen met ≡ None
    → path_end look covers l (suc n) p seen met ≡ step_by look covers l n p.table seen met d None
unfolding path_end
one_step look covers l n p seen met d e f =
    subst (λ (x : Desc). path_end look covers l (suc n) p seen met
    ≡ step_by look covers l n p.table seen met x (fault_after covers l p.table x seen met)) e refl
    ∙ ap (step_by look covers l n p.table seen met d) f

-- the flags of the last descriptor and of another one
flags_last : (w : Bool) → flags_for w [] ≡ (if w then 2 else 0)
flags_last true = refl
flags_last false = refl

flags_more : (w : Bool) (d : ℕ) (ds : List ℕ) → flags_for w (d ∷ ds) ≡ (if w then 3 else 1)
flags_more true d ds = let more : nat_lt 0 (length (d ∷ ds)) ≡ true = lt-ltb 0 (length (d ∷ ds)) (omega arith) in rw more refl
flags_more false d ds = let more : nat_lt 0 (length (d ∷ ds)) ≡ true = lt-ltb 0 (length (d ∷ ds)) (omega arith) in rw more refl

-- each data slot is there
abbrev pub SlotsThere : Cover → Layout → Type 0
SlotsThere covers l = (d n : ℕ) → d < l.num → n ≤ slot_len → covers (slot_at l d) n ≡ true

-- where a descriptor of the ring's own table stands
abbrev pub own_place : Layout → ℕ → Place
own_place l d = record { table = own_table l; index = d }

-- what is known where a path comes to a descriptor of a chain
pub record Comes (covers : Cover) (l : Layout) (w : Bool) (d : ℕ) (lens : List ℕ) (seen : ℕ) (met : List Segment) : Type 0 where
  pub way : l.rx ≡ w
  pub inside : d < l.num
  pub small : Small lens
  pub slots : SlotsThere covers l
  pub few : seen < l.num
  pub places : length met < 1024
  pub order : (not w && any_writable met) ≡ false

right_way : (rx w : Bool) → rx ≡ w → (if rx then not w else w) ≡ false
right_way true true e = refl
right_way true false e = absurd (cc)
right_way false true e = absurd (cc)
right_way false false e = refl

below_no : {a b : ℕ} → a < b → nat_le b a ≡ false
below_no {a} {b} h = grind (arith, nat_tests)

-- a descriptor with these flags breaks no rule
desc_good :
    (covers : Cover) (l : Layout) (w : Bool) (d : ℕ) (lens : List ℕ) (seen : ℕ) (met : List Segment) (next : Bool) (to : ℕ)
    → Comes covers l w d lens seen met → (next && nat_le l.num to) ≡ false
    → fault_after covers l (own_table l)
    (record { addr = slot_at l d; len = slice_index lens 0; flags = (if w then (if next then 3 else 2) else (if next then 1 else 0)); next = to })
    seen met ≡ None
desc_good covers l true d lens seen met true to c far =
    none_broken (nat_le l.num seen) (l.indirect) false true (is_bad_length (slice_index lens 0))
    (covers (slot_at l d) (slice_index lens 0)) true (any_writable met) l.rx (nat_le 1024 (length met)) (nat_le l.num to)
    (slot_at l d) (slice_index lens 0) (below_no c.few) (c.slots d (slice_index lens 0) c.inside (small_first lens c.small))
    c.order (right_way l.rx true c.way) (below_no c.places) far
desc_good covers l true d lens seen met false to c far =
    none_broken (nat_le l.num seen) (l.indirect) false false (is_bad_length (slice_index lens 0))
    (covers (slot_at l d) (slice_index lens 0)) true (any_writable met) l.rx (nat_le 1024 (length met)) (nat_le l.num to)
    (slot_at l d) (slice_index lens 0) (below_no c.few) (c.slots d (slice_index lens 0) c.inside (small_first lens c.small))
    c.order (right_way l.rx true c.way) (below_no c.places) far
desc_good covers l false d lens seen met true to c far =
    none_broken (nat_le l.num seen) (l.indirect) false true (is_bad_length (slice_index lens 0))
    (covers (slot_at l d) (slice_index lens 0)) false (any_writable met) l.rx (nat_le 1024 (length met)) (nat_le l.num to)
    (slot_at l d) (slice_index lens 0) (below_no c.few) (c.slots d (slice_index lens 0) c.inside (small_first lens c.small))
    c.order (right_way l.rx false c.way) (below_no c.places) far
desc_good covers l false d lens seen met false to c far =
    none_broken (nat_le l.num seen) (l.indirect) false false (is_bad_length (slice_index lens 0))
    (covers (slot_at l d) (slice_index lens 0)) false (any_writable met) l.rx (nat_le 1024 (length met)) (nat_le l.num to)
    (slot_at l d) (slice_index lens 0) (below_no c.few) (c.slots d (slice_index lens 0) c.inside (small_first lens c.small))
    c.order (right_way l.rx false c.way) (below_no c.places) far

-- the path ends at the last descriptor
last_step :
    (look : Look) (covers : Cover) (l : Layout) (w : Bool) (n d : ℕ) (lens : List ℕ) (seen : ℕ) (met : List Segment)
    → Comes covers l w d lens seen met → StandLinked look l w (d ∷ []) lens
    → path_end look covers l (suc n) (own_place l d) seen met ≡ Gives (met ++ segments_for l w (d ∷ []) lens)
unfolding desc_at
last_step look covers l true n d lens seen met c h =
    let e : Desc = record { addr = slot_at l d; len = slice_index lens 0; flags = 2; next = 0 } in
    one_step look covers l n (own_place l d) seen met e h.0 (desc_good covers l true d lens seen met false 0 c refl)
last_step look covers l false n d lens seen met c h =
    let e : Desc = record { addr = slot_at l d; len = slice_index lens 0; flags = 0; next = 0 } in
    one_step look covers l n (own_place l d) seen met e h.0 (desc_good covers l false d lens seen met false 0 c refl)

-- the segment of a descriptor's data slot
abbrev pub slot_segment : Layout → Bool → ℕ → List ℕ → Segment
slot_segment l w d lens = record { addr = slot_at l d; len = slice_index lens 0; write = w }

-- and goes on to the next one at another
more_step :
    (look : Look) (covers : Cover) (l : Layout) (w : Bool) (n d e : ℕ) (es lens : List ℕ) (seen : ℕ) (met : List Segment)
    → Comes covers l w d lens seen met → e < l.num → StandLinked look l w (d ∷ e ∷ es) lens
    → path_end look covers l (suc n) (own_place l d) seen met
    ≡ path_end look covers l n (own_place l e) (seen + 1) (met ++ slot_segment l w d lens ∷ [])
unfolding desc_at
more_step look covers l true n d e es lens seen met c less h =
    let x : Desc = record { addr = slot_at l d; len = slice_index lens 0; flags = 3; next = e } in
    let is : desc_at look (own_place l d) ≡ x =
    h.0 ∙ ap (λ (f : ℕ). record { addr = slot_at l d; len = slice_index lens 0; flags = f; next = e }) (flags_more true e es) in
    one_step look covers l n (own_place l d) seen met x is (desc_good covers l true d lens seen met true e c (below_no less))
more_step look covers l false n d e es lens seen met c less h =
    let x : Desc = record { addr = slot_at l d; len = slice_index lens 0; flags = 1; next = e } in
    let is : desc_at look (own_place l d) ≡ x =
    h.0 ∙ ap (λ (f : ℕ). record { addr = slot_at l d; len = slice_index lens 0; flags = f; next = e }) (flags_more false e es) in
    one_step look covers l n (own_place l d) seen met x is (desc_good covers l false d lens seen met true e c (below_no less))

or_nothing : (a : Bool) → a ≡ false → (a || (false || false)) ≡ false
or_nothing true e = absurd (cc)
or_nothing false e = refl

-- readable segments stay in front of writable ones
order_kept :
    (l : Layout) (w : Bool) (d : ℕ) (lens : List ℕ) (met : List Segment)
    → (not w && any_writable met) ≡ false → (not w && any_writable (met ++ slot_segment l w d lens ∷ [])) ≡ false
order_kept l true d lens met h = refl
order_kept l false d lens met h =
    list_any-append (λ (s : Segment). s.write) met (slot_segment l false d lens ∷ []) ∙ or_nothing (any_writable met) h

-- the path from the first descriptor of a chain ends with the chain's data slots as its segments
pub path_found :
    (look : Look) (covers : Cover) (l : Layout) (w : Bool) (n d : ℕ) (ds lens : List ℕ) (seen : ℕ) (met : List Segment)
    → Comes covers l w d lens seen met → AreApart l.num (d ∷ ds) → StandLinked look l w (d ∷ ds) lens
    → length ds < n → seen + length ds < l.num → length met + length ds < 1024
    → path_end look covers l n (own_place l d) seen met ≡ Gives (met ++ segments_for l w (d ∷ ds) lens)
path_found look covers l w zero d ds lens seen met c apart h fuel few places = absurd (omega arith)
path_found look covers l w (suc n) d [] lens seen met c apart h fuel few places =
    last_step look covers l w n d lens seen met c h
path_found look covers l w (suc n) d (e ∷ es) lens seen met c apart h fuel few places =
    let s = slot_segment l w d lens in
    let longer : length (met ++ s ∷ []) ≡ length met + 1 = length-append met (s ∷ []) in
    let comes : Comes covers l w e (drop 1 lens) (seen + 1) (met ++ s ∷ []) = record {
      way = c.way;
      inside = apart.2.0;
      small = small_rest lens c.small;
      slots = c.slots;
      few = omega arith;
      places = omega arith;
      order = order_kept l w d lens met c.order;
    } in
    more_step look covers l w n d e es lens seen met c apart.2.0 h
    ∙ path_found look covers l w n e es (drop 1 lens) (seen + 1) (met ++ s ∷ []) comes apart.2 h.1 (omega arith) (omega arith)
    (omega arith)
    ∙ ap Gives (append_assoc met (s ∷ []) (segments_for l w (e ∷ es) (drop 1 lens)))

pub length_segments : (l : Layout) (w : Bool) (ds lens : List ℕ) → length (segments_for l w ds lens) ≡ length ds
length_segments l w [] lens = refl
length_segments l w (d ∷ ds) lens = let rest = length_segments l w ds (drop 1 lens) in omega arith
