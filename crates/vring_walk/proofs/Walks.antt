-- What a walk keeps, and how it goes on.
use Rattle.std.proofs.Common.{◌≡◌, ℕ, zero, suc, ◌+◌, ◌*◌, ◌<◌, ◌≤◌, Bool, true, false, cond, ◌||◌, List, [], ◌∷◌, ◌++◌, length, take, filter, slice_range, Option, Some, None, refl, sym, ap, ◌∙◌, subst, arith, append_assoc, length-append}
use Rattle.std.proofs.lemmas.List.{append-nil, take_all}
use Rattle.guest_mem.specs.Memory.{bytes_at}
use Rattle.guest_mem.specs.Laws.{PartsAreBytes}
use Rattle.vring_split.specs.declared.desc.Desc.{Desc}
use Rattle.vring_split.specs.declared.fault.RingFault.{RingFault}
use Rattle.vring_split.specs.declared.layout.Layout.{Layout}
use Rattle.vring_split.specs.declared.segment.Segment.{Segment}
use Rattle.vring_split.specs.Split.{desc_of, has_next, is_writable, is_indirect}
use Rattle.vring_walk.specs.declared.rules.Met.{Met}
use Rattle.tap_ground.specs.Options.{first_that_holds as first_broken}
use Rattle.vring_walk.specs.Chain.{Look, Cover, Place, desc_at, head_place, table_of, next_place, segment_of, segments_of, seen_in, any_writable, rules_for, fault_at, Reaches, IsFirstFault}
use Rattle.vring_walk.specs.Fetch.{TakesChain}
use Rattle.vring_walk.specs.Stretch.{table_bytes}
use Rattle.vring_walk.proofs.KeptRules.{keeps_rules}
use Rattle.vring_walk.proofs.Paths.{seen_more, short}
use Rattle.vring_walk.proofs.Rooms.{take-take_append, segments_more}

-- the first rule that a descriptor breaks after what was met
abbrev pub broken_after : Look → Cover → Layout → Place → Met → List (Bool × RingFault)
broken_after look covers l p met = rules_for covers l p.table (desc_at look p) met.seen met.count met.writable

-- one descriptor more was met, which is a segment
abbrev pub met_more : Met → Bool → Met
met_more met write = record { seen = met.seen + 1; count = met.count + 1; writable = met.writable || write }

any_one : (xs : List Segment) (s : Segment) → (any_writable xs || s.write) ≡ any_writable (xs ++ s ∷ [])
any_one [] s = or_false s.write
  where
    or_false : (b : Bool) → b ≡ (b || false)
    or_false true = refl
    or_false false = refl
any_one (x ∷ xs) s = or_assoc x.write (any_writable xs) s.write ∙ ap (λ b. x.write || b) (any_one xs s)
  where
    or_assoc : (a b c : Bool) → ((a || b) || c) ≡ (a || (b || c))
    or_assoc true b c = refl
    or_assoc false b c = refl

-- so many bytes are looked up
pub bytes_length : (look : Look) (a n : ℕ) → length (bytes_at look a n) ≡ n
unfolding bytes_at
bytes_length look a zero = refl
bytes_length look a (suc n) = ap suc (bytes_length look (a + 1) n)

-- the descriptor at an entry of a table, read from the table's bytes
pub desc_in : PartsAreBytes → (look : Look) (p : Place) (bytes : List ℕ) → bytes ≡ table_bytes look p.table → p.index < p.table.entries
    → desc_of (slice_range bytes (16 * p.index) (16 * p.index + 16)) ≡ desc_at look p
unfolding desc_at
desc_in parts look p bytes same inside =
    ap (λ (xs : List ℕ). desc_of (slice_range xs (16 * p.index) (16 * p.index + 16))) same
    ∙ ap desc_of (parts look p.table.addr (16 * p.table.entries) (16 * p.index) 16 (omega arith))

-- a walk from a head, with a room that had old segments
module _ (look : Look) (covers : Cover) (l : Layout) (head : ℕ) (old : List Segment) where
  -- a path came to an entry of a table that lies in the memory; this was met on it, and the room has what fits
  pub record Walked (p : Place) (met : Met) (room : List Segment) (steps : ℕ) : Type 0 where
    pub behind : List Place
    pub reached : Reaches look covers l head behind p
    pub inside : p.index < p.table.entries
    pub lies : covers p.table.addr (16 * p.table.entries) ≡ true
    pub seen_is : met.seen ≡ seen_in p.table behind
    pub count_is : met.count ≡ length (segments_of look behind)
    pub writable_is : met.writable ≡ any_writable (segments_of look behind)
    pub room_is : room ≡ take 1024 (old ++ segments_of look behind)
    pub steps_is : length behind ≡ steps

  -- the answer of the rules is that of the path
  same_fault : (p : Place) (met : Met) (room : List Segment) (steps : ℕ) (w : Walked p met room steps) → first_broken (broken_after look covers l p met) ≡ fault_at look covers l w.behind p
  same_fault p met room steps w = λ i. first_broken (rules_for covers l p.table (desc_at look p) (w.seen_is i) (w.count_is i) (w.writable_is i))

  -- the rules' answer to a descriptor that was read, and to whether its range has bytes
  pub told_of : (p : Place) (met : Met) (d : Desc) (mapped : Bool) (o : Option RingFault) → d ≡ desc_at look p → mapped ≡ covers d.addr d.len
      → o ≡ first_broken (rules_for (λ a n. mapped) l p.table d met.seen met.count met.writable)
      → o ≡ first_broken (broken_after look covers l p met)
  told_of p met d mapped o same known told =
      told
      ∙ ap (λ (b : Bool). first_broken (rules_for (λ a n. b) l p.table d met.seen met.count met.writable)) known
      ∙ ap (λ (x : Desc). first_broken (rules_for covers l p.table x met.seen met.count met.writable)) same

  -- what was met, given in other words
  pub in_words : (p q : Place) (met same : Met) (room other : List Segment) (steps : ℕ) → Walked p met room steps
      → q ≡ p → same ≡ met → other ≡ room → Walked q same other steps
  in_words p q met same room other steps w at are is =
      let P : Place → Type 0 = λ r. Walked r met room steps in
      let Q : Met → Type 0 = λ m. Walked q m room steps in
      let R : List Segment → Type 0 = λ xs. Walked q same xs steps in
      subst R (sym is) (subst Q (sym are) (subst P (sym at) w))

  -- a rule that is broken is the path's first fault
  pub walk_fails : (p : Place) (met : Met) (room : List Segment) (steps : ℕ) (f : RingFault) → Walked p met room steps → Some f ≡ first_broken (broken_after look covers l p met) → IsFirstFault look covers l head f
  walk_fails p met room steps f w e = record { behind = w.behind; bad = p; reached = w.reached; broken = sym (e ∙ same_fault p met room steps w) }

  -- a room at the start of a walk
  pub walk_starts : head < l.num → covers l.desc (16 * l.num) ≡ true → length old ≤ 1024 → Walked (head_place l head) (record { seen = 0; count = 0; writable = false }) old 0
  walk_starts inside lies few = record {
    behind = [];
    reached = refl;
    inside = inside;
    lies = lies;
    seen_is = refl;
    count_is = refl;
    writable_is = refl;
    room_is = sym (ap (take 1024) (append-nil old) ∙ take_all 1024 old few);
    steps_is = refl;
  }

  -- the walk goes on in the table that the descriptor refers to
  pub walk_into : (p : Place) (met : Met) (room : List Segment) (steps : ℕ) → Walked p met room steps
      → None ≡ first_broken (broken_after look covers l p met) → is_indirect (desc_at look p) ≡ true
      → Walked (record { table = table_of (desc_at look p); index = 0 }) (record { seen = 0; count = met.count; writable = met.writable }) room (steps + 1)
  walk_into p met room steps w e refers =
      let d = desc_at look p in
      let kept = keeps_rules covers l p.table d met.seen met.count met.writable (sym e) in
      let rules = kept.table refers in
      let good : fault_at look covers l w.behind p ≡ None = sym (e ∙ same_fault p met room steps w) in
      let on : next_place look p ≡ Some (record { table = table_of d; index = 0 }) = ap (λ b. cond b (Some (record { table = table_of d; index = 0 })) (cond (has_next d) (Some (record { table = p.table; index = d.next })) None)) refers in
      let segments : segments_of look (p ∷ w.behind) ≡ segments_of look w.behind = ap (λ b. segments_of look w.behind ++ cond b [] (segment_of d ∷ [])) refers ∙ append-nil (segments_of look w.behind) in
      let own = (short look covers l head w.behind p w.reached).own rules.plain in
      let none_inside : length (filter (λ (r : Place). r.table.indirect) (p ∷ w.behind)) ≡ 0 = ap (λ b. length (cond b (p ∷ filter (λ (r : Place). r.table.indirect) w.behind) (filter (λ (r : Place). r.table.indirect) w.behind))) rules.plain ∙ own.2 in
      record {
        behind = p ∷ w.behind;
        reached = (w.reached, good, on);
        inside = let some = rules.some in let whole = rules.whole in omega arith;
        lies = subst (λ n. covers d.addr n ≡ true) (sym rules.whole) kept.mapped;
        seen_is = sym none_inside;
        count_is = w.count_is ∙ ap length (sym segments);
        writable_is = w.writable_is ∙ ap any_writable (sym segments);
        room_is = w.room_is ∙ ap (λ (xs : List Segment). take 1024 (old ++ xs)) (sym segments);
        steps_is = let s = w.steps_is in omega arith;
      }

  room_more : (p : Place) (behind : List Place) (room : List Segment) → is_indirect (desc_at look p) ≡ false → room ≡ take 1024 (old ++ segments_of look behind)
      → take 1024 (room ++ segment_of (desc_at look p) ∷ []) ≡ take 1024 (old ++ segments_of look (p ∷ behind))
  room_more p behind room plain e =
      ap (λ (xs : List Segment). take 1024 (xs ++ segment_of (desc_at look p) ∷ [])) e
      ∙ take-take_append 1024 (old ++ segments_of look behind) (segment_of (desc_at look p) ∷ [])
      ∙ ap (take 1024) (append_assoc old (segments_of look behind) (segment_of (desc_at look p) ∷ []) ∙ ap (λ (xs : List Segment). old ++ xs) (sym (segments_more look p behind plain)))

  count_more : (p : Place) (behind : List Place) (count : ℕ) → is_indirect (desc_at look p) ≡ false → count ≡ length (segments_of look behind) → count + 1 ≡ length (segments_of look (p ∷ behind))
  count_more p behind count plain e = omega (arith, ap length (segments_more look p behind plain), length-append (segments_of look behind) (segment_of (desc_at look p) ∷ []))

  -- the walk goes on along NEXT
  pub walk_along : (p : Place) (met : Met) (room : List Segment) (steps : ℕ) → Walked p met room steps
      → None ≡ first_broken (broken_after look covers l p met) → is_indirect (desc_at look p) ≡ false → has_next (desc_at look p) ≡ true
      → Walked (record { table = p.table; index = (desc_at look p).next }) (met_more met (is_writable (desc_at look p))) (take 1024 (room ++ segment_of (desc_at look p) ∷ [])) (steps + 1)
  walk_along p met room steps w e plain next =
      let d = desc_at look p in
      let kept = keeps_rules covers l p.table d met.seen met.count met.writable (sym e) in
      let good : fault_at look covers l w.behind p ≡ None = sym (e ∙ same_fault p met room steps w) in
      let on : next_place look p ≡ Some (record { table = p.table; index = d.next }) = (λ i. cond (plain i) (Some (record { table = table_of d; index = 0 })) (cond (next i) (Some (record { table = p.table; index = d.next })) None)) in
      record {
        behind = p ∷ w.behind;
        reached = (w.reached, good, on);
        inside = kept.next next;
        lies = w.lies;
        seen_is = let s = w.seen_is in omega (arith, seen_more p w.behind);
        count_is = count_more p w.behind met.count plain w.count_is;
        writable_is = ap (λ b. b || is_writable d) w.writable_is ∙ any_one (segments_of look w.behind) (segment_of d) ∙ ap any_writable (sym (segments_more look p w.behind plain));
        room_is = room_more p w.behind room plain w.room_is;
        steps_is = let s = w.steps_is in omega arith;
      }

  -- the walk ends with a chain
  pub walk_ends : (p : Place) (met : Met) (room : List Segment) (steps : ℕ) → Walked p met room steps
      → None ≡ first_broken (broken_after look covers l p met) → is_indirect (desc_at look p) ≡ false → has_next (desc_at look p) ≡ false
      → TakesChain look covers l head old (take 1024 (room ++ segment_of (desc_at look p) ∷ [])) (met.count + 1)
  walk_ends p met room steps w e plain last =
      let d = desc_at look p in
      let good : fault_at look covers l w.behind p ≡ None = sym (e ∙ same_fault p met room steps w) in
      let off : next_place look p ≡ None = (λ i. cond (plain i) (Some (record { table = table_of d; index = 0 })) (cond (last i) (Some (record { table = p.table; index = d.next })) None)) in (
        segments_of look (p ∷ w.behind),
        record { behind = w.behind; last = p; reached = w.reached; good = good; ends = off; has = refl },
        count_more p w.behind met.count plain w.count_is,
        room_more p w.behind room plain w.room_is,
      )
