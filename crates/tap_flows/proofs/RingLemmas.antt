-- Lemmas about linked rings.
use Rattle.std.proofs.Common.{◌≡◌, ◌≢◌, ℕ, ◌+◌, ◌<◌, ◌≤◌, true, cond, eqb, ltb, zero, suc, List, [], ◌∷◌, ◌++◌, length, get_or, set, sym, ap, subst, ◌∙◌, inl, inr, refl, arith}
use Rattle.std.proofs.lemmas.Bool.{eq-eqb, ne_eqb, lt-ltb, le-ltb, cases_eq, cases_lt, cases_order, cases_Bool}
use Rattle.std.proofs.lemmas.List.{get_or-set_same, get_or-set_other, length-set}
use Rattle.tap_ground.specs.Lists.{times}
use Rattle.tap_flows.specs.Rings.{AreLinked, AreRings, with_chain, AreAlone, unlinked_next, unlinked_previous, linked_next, linked_previous, moved_next, moved_previous}

-- what a place says of the next one, or of the previous one
abbrev pub at : List ℕ → ℕ → ℕ
at links place = get_or links place 0

pub times_head : (n : ℕ) (xs : List ℕ) → times n (n ∷ xs) ≡ suc (times n xs)
times_head n xs = ap (λ b. cond b 1 0 + times n xs) (eq-eqb n n refl) ∙ omega arith

pub times_other : (n x : ℕ) (xs : List ℕ) → x ≢ n → times n (x ∷ xs) ≡ times n xs
times_other n x xs apart = ap (λ b. cond b 1 0 + times n xs) (ne_eqb x n apart) ∙ omega arith

pub times-append : (n : ℕ) (xs ys : List ℕ) → times n (xs ++ ys) ≡ times n xs + times n ys
times-append n [] ys = omega arith
times-append n (x ∷ xs) ys = omega (arith, times-append n xs ys)

-- a node that stands in a list cuts it in two
pub times_split : (n : ℕ) (xs : List ℕ) → 0 < times n xs → (ys : List ℕ) × (zs : List ℕ) × (xs ≡ ys ++ n ∷ zs)
times_split n [] some = absurd (omega arith)
times_split n (x ∷ xs) some = elim (cases_eq x n) [
  | inl same ↦ ([], xs, ap (λ y. y ∷ xs) same)
  | inr apart ↦
      let parts = times_split n xs (omega (arith, times_other n x xs apart)) in
      (x ∷ parts.0, parts.1, ap (λ l. x ∷ l) parts.2)
]

-- the previous of the last is among what stands before it
pub previous_among : (next previous : List ℕ) (a : ℕ) (xs : List ℕ) (b : ℕ) → AreLinked next previous a xs b → 0 < times (at previous b) (a ∷ xs)
previous_among next previous a [] b l = subst (λ p. 0 < times p (a ∷ [])) (sym l.1) (omega (arith, times_head a []))
previous_among next previous a (x ∷ xs) b l = omega (arith, previous_among next previous x xs b l.2)

-- the next of the first is among what stands behind it
pub next_among : (next previous : List ℕ) (a : ℕ) (xs : List ℕ) (b : ℕ) → AreLinked next previous a xs b → 0 < times (at next a) (b ∷ xs)
next_among next previous a [] b l = subst (λ p. 0 < times p (b ∷ [])) (sym l.0) (omega (arith, times_head b []))
next_among next previous a (x ∷ xs) b l = subst (λ p. 0 < times p (b ∷ x ∷ xs)) (sym l.0) (omega (arith, times_head x xs))

-- links that stay at the places of a list leave it linked
pub linked_same : (next previous next' previous' : List ℕ) (a : ℕ) (xs : List ℕ) (b : ℕ) → ((k : ℕ) → 0 < times k (a ∷ xs) → at next' k ≡ at next k) → ((k : ℕ) → 0 < times k (b ∷ xs) → at previous' k ≡ at previous k) → AreLinked next previous a xs b → AreLinked next' previous' a xs b
linked_same next previous next' previous' a [] b n p l = (n a (omega (arith, times_head a [])) ∙ l.0, p b (omega (arith, times_head b [])) ∙ l.1)
linked_same next previous next' previous' a (x ∷ xs) b n p l = (
  n a (omega (arith, times_head a (x ∷ xs))) ∙ l.0,
  p x (omega (arith, times_head x xs)) ∙ l.1,
  linked_same next previous next' previous' x xs b (λ k h. n k (omega arith)) (λ k h. p k (omega arith)) l.2,
)

-- a linked list, cut before and behind a node
pub linked_split : (next previous : List ℕ) (a : ℕ) (xs : List ℕ) (n : ℕ) (ys : List ℕ) (b : ℕ) → AreLinked next previous a (xs ++ n ∷ ys) b → AreLinked next previous a xs n × AreLinked next previous n ys b
linked_split next previous a [] n ys b l = ((l.0, l.1), l.2)
linked_split next previous a (x ∷ xs) n ys b l = let parts = linked_split next previous x xs n ys b l.2 in ((l.0, l.1, parts.0), parts.1)

-- the links with the one place changed that unlinking changes
pub record Changes (old new : List ℕ) (place to : ℕ) : Type 0 where
  pub here : at new place ≡ to
  pub others : (k : ℕ) → k ≢ place → at new k ≡ at old k

pub changes_set : (old : List ℕ) (place to : ℕ) → place < length old → Changes old (set old place to) place to
changes_set old place to within = record { here = get_or-set_same old place to 0 within; others = λ k apart. get_or-set_other old place k to 0 apart }

module _ (next previous next' previous' : List ℕ) (n : ℕ) (changes_next : Changes next next' (at previous n) (at next n)) (changes_previous : Changes previous previous' (at next n) (at previous n)) where
  -- what stood behind an unlinked node stands behind what was before it
  joined_here : (a : ℕ) (ys : List ℕ) (b : ℕ) → at previous n ≡ a → AreLinked next previous n ys b → ((k : ℕ) → times k (a ∷ ys) ≤ 1) → ((k : ℕ) → times k (b ∷ ys) ≤ 1) → AreLinked next' previous' a ys b
  joined_here a [] b is l once_next once_previous =
      (ap (at next') (sym is) ∙ changes_next.here ∙ l.0, ap (at previous') (sym l.0) ∙ changes_previous.here ∙ is)
  joined_here a (y ∷ ys) b is l once_next once_previous =
      let one_a = once_next a in
      let one_y = once_previous y in
      let head_a = times_head a (y ∷ ys) in
      let head_y = times_head y ys in (
        ap (at next') (sym is) ∙ changes_next.here ∙ l.0,
        ap (at previous') (sym l.0) ∙ changes_previous.here ∙ is,
        linked_same next previous next' previous' y ys b
            (λ k h. changes_next.others k (λ e. let same : times k (y ∷ ys) ≡ times a (y ∷ ys) = ap (λ z. times z (y ∷ ys)) (e ∙ is) in absurd (omega arith)))
            (λ k h. changes_previous.others k (λ e. let same : times k (b ∷ ys) ≡ times y (b ∷ ys) = ap (λ z. times z (b ∷ ys)) (e ∙ l.0) in absurd (omega arith)))
            l.2,
      )

  -- a list without the node that is unlinked
  pub linked_join : (a : ℕ) (xs ys : List ℕ) (b : ℕ) → AreLinked next previous a xs n → AreLinked next previous n ys b → ((k : ℕ) → times k (a ∷ xs) + times k ys ≤ 1) → ((k : ℕ) → times k xs + times k (b ∷ ys) ≤ 1) → AreLinked next' previous' a (xs ++ ys) b
  linked_join a [] ys b before behind once_next once_previous = joined_here a ys b before.1 behind (λ k. omega (arith, once_next k)) (λ k. omega (arith, once_previous k))
  linked_join a (x ∷ xs) ys b before behind once_next once_previous =
      let last = previous_among next previous x xs n before.2 in
      let first = next_among next previous n ys b behind in
      let head_a = times_head a (x ∷ xs) in
      let head_x = times_head x xs in (
        changes_next.others a (λ e. let same : times (at previous n) (x ∷ xs) ≡ times a (x ∷ xs) = ap (λ z. times z (x ∷ xs)) (sym e) in absurd (omega (arith, once_next a))) ∙ before.0,
        changes_previous.others x (λ e. let same : times (at next n) (b ∷ ys) ≡ times x (b ∷ ys) = ap (λ z. times z (b ∷ ys)) (sym e) in absurd (omega (arith, once_previous x))) ∙ before.1,
        linked_join x xs ys b before.2 behind (λ k. omega (arith, once_next k)) (λ k. omega (arith, once_previous k)),
      )

-- links in which n was put before b
pub record Inserts (next previous next' previous' : List ℕ) (n b : ℕ) : Type 0 where
  pub next_before : at next' (at previous b) ≡ n
  pub next_here : at next' n ≡ b
  pub next_others : (k : ℕ) → k ≢ at previous b → k ≢ n → at next' k ≡ at next k
  pub previous_behind : at previous' b ≡ n
  pub previous_here : at previous' n ≡ at previous b
  pub previous_others : (k : ℕ) → k ≢ b → k ≢ n → at previous' k ≡ at previous k

-- a list with a node that is linked at its end
pub linked_push : (next previous next' previous' : List ℕ) (n b : ℕ) → Inserts next previous next' previous' n b → n ≢ b → (a : ℕ) (xs : List ℕ) → AreLinked next previous a xs b → ((k : ℕ) → times k (a ∷ xs) ≤ 1) → times n (a ∷ xs) ≡ 0 → times b xs ≡ 0 → AreLinked next' previous' a (xs ++ n ∷ []) b
linked_push next previous next' previous' n b put apart a [] l once fresh no_b =
    (ap (at next') (sym l.1) ∙ put.next_before, put.previous_here ∙ l.1, (put.next_here, put.previous_behind))
linked_push next previous next' previous' n b put apart a (x ∷ xs) l once fresh no_b =
    let last = previous_among next previous x xs b l.2 in
    let head_a = times_head a (x ∷ xs) in
    let head_x = times_head x xs in
    let head_n = times_head n (x ∷ xs) in
    let head_n' = times_head n xs in
    let head_b = times_head b xs in (
      put.next_others a (λ e. let same : times (at previous b) (x ∷ xs) ≡ times a (x ∷ xs) = ap (λ z. times z (x ∷ xs)) (sym e) in absurd (omega (arith, once a))) (λ e. let same : times n (a ∷ x ∷ xs) ≡ times n (n ∷ x ∷ xs) = ap (λ z. times n (z ∷ x ∷ xs)) e in absurd (omega arith)) ∙ l.0,
      put.previous_others x (λ e. let same : times b (x ∷ xs) ≡ times b (b ∷ xs) = ap (λ z. times b (z ∷ xs)) e in absurd (omega arith)) (λ e. let same : times n (x ∷ xs) ≡ times n (n ∷ xs) = ap (λ z. times n (z ∷ xs)) e in absurd (omega arith)) ∙ l.1,
      linked_push next previous next' previous' n b put apart x xs l.2 (λ k. omega (arith, once k)) (omega arith) (omega arith),
    )

-- where a chain is changed behind one head
with_chain_here : (head : ℕ) (nodes : List ℕ) (chain : ℕ → List ℕ) → with_chain head nodes chain head ≡ nodes
with_chain_here head nodes chain = ap (λ b. cond b nodes (chain head)) (eq-eqb head head refl)

with_chain_other : (head : ℕ) (nodes : List ℕ) (chain : ℕ → List ℕ) (other : ℕ) → other ≢ head → with_chain head nodes chain other ≡ chain other
with_chain_other head nodes chain other apart = ap (λ b. cond b nodes (chain other)) (ne_eqb other head apart)

module _ (next previous : List ℕ) (nodes heads : ℕ) (chain : ℕ → List ℕ) (home : ℕ → ℕ) (r : AreRings next previous nodes heads chain home) where
  -- a head stands in no chain
  no_head : (head other : ℕ) → nodes ≤ head → head < nodes + heads → nodes ≤ other → times other (chain head) ≡ 0
  no_head head other low high past = elim (cases_lt 0 (times other (chain head))) [
    | inl some ↦ absurd (let inside = r.inside head other low high some in omega (arith, inside.0))
    | inr none ↦ omega arith
  ]

  -- no place stands twice in a ring
  pub once_in_ring : (head k : ℕ) → nodes ≤ head → head < nodes + heads → times k (head ∷ chain head) ≤ 1
  once_in_ring head k low high = elim (cases_eq head k) [
    | inl same ↦ let none = no_head head head low high low in subst (λ z. times z (head ∷ chain head) ≤ 1) same (omega (arith, times_head head (chain head)))
    | inr apart ↦
        let skip = times_other k head (chain head) apart in
        elim (cases_lt 0 (times k (chain head))) [
          | inl some ↦ let inside = r.inside head k low high some in omega (arith, r.once head k low high inside.0 inside.1)
          | inr none ↦ omega arith
        ]
  ]

  -- a place of a ring is within the links
  pub within_links : (head k : ℕ) → nodes ≤ head → head < nodes + heads → 0 < times k (head ∷ chain head) → k < nodes + heads
  within_links head k low high some = elim (cases_eq head k) [
    | inl same ↦ omega arith
    | inr apart ↦ let inside = r.inside head k low high (omega (arith, times_other k head (chain head) apart)) in omega (arith, inside.0)
  ]

  -- no place is in two rings
  apart_rings : (head other k : ℕ) → nodes ≤ head → head < nodes + heads → nodes ≤ other → other < nodes + heads → other ≢ head → 0 < times k (head ∷ chain head) → 0 < times k (other ∷ chain other) → ⊥
  apart_rings head other k low high low' high' distinct here there = elim (cases_lt k nodes) [
    | inl node ↦
        let in_head = r.inside head k low high (omega (arith, times_other k head (chain head) (λ e. absurd (omega arith)))) in
        let in_other = r.inside other k low' high' (omega (arith, times_other k other (chain other) (λ e. absurd (omega arith)))) in
        distinct (sym in_other.1 ∙ in_head.1)
    | inr past ↦
        let none_here = no_head head k low high past in
        let none_there = no_head other k low' high' past in
        elim (cases_eq head k) [
          | inl same ↦ elim (cases_eq other k) [
            | inl same' ↦ distinct (same' ∙ sym same)
            | inr apart ↦ absurd (omega (arith, times_other k other (chain other) apart))
          ]
          | inr apart ↦ absurd (omega (arith, times_other k head (chain head) apart))
        ]
  ]

  -- what stands before and behind a node of a ring
  module _ (head : ℕ) (low : nodes ≤ head) (high : head < nodes + heads) (xs : List ℕ) (n : ℕ) (ys : List ℕ) (split : chain head ≡ xs ++ n ∷ ys) where
    cut : AreLinked next previous head xs n × AreLinked next previous n ys head
    cut = linked_split next previous head xs n ys head (subst (λ l. AreLinked next previous head l head) split (r.ring head low high))

    counted : (k : ℕ) → times k (chain head) ≡ times k xs + times k (n ∷ ys)
    counted k = ap (times k) split ∙ times-append k xs (n ∷ ys)

    before_in_ring : 0 < times (at previous n) (head ∷ chain head)
    before_in_ring = let among = previous_among next previous head xs n cut.0 in omega (arith, counted (at previous n))

    behind_in_ring : 0 < times (at next n) (head ∷ chain head)
    behind_in_ring = let among = next_among next previous n ys head cut.1 in omega (arith, counted (at next n))

    pub before_within : at previous n < nodes + heads
    before_within = within_links head (at previous n) low high before_in_ring

    pub behind_within : at next n < nodes + heads
    behind_within = within_links head (at next n) low high behind_in_ring

    pub node_is : (n < nodes) × (home n ≡ head)
    node_is = r.inside head n low high (omega (arith, counted n, times_head n ys))

    -- the rings without the node
    pub rings_unlink : (home' : ℕ → ℕ) → home' n < nodes → ((k : ℕ) → k ≢ n → home' k ≡ home k) → AreRings (set next (at previous n) (at next n)) (set previous (at next n) (at previous n)) nodes heads (with_chain head (xs ++ ys) chain) home'
    rings_unlink home' away others =
        let next' = set next (at previous n) (at next n) in
        let previous' = set previous (at next n) (at previous n) in
        let changed_next = changes_set next (at previous n) (at next n) (omega (arith, before_within, r.next_sized)) in
        let changed_previous = changes_set previous (at next n) (at previous n) (omega (arith, behind_within, r.previous_sized)) in
        let here : with_chain head (xs ++ ys) chain head ≡ xs ++ ys = with_chain_here head (xs ++ ys) chain in
        let kept = times-append in
        record {
          next_sized = length-set next (at previous n) (at next n) ∙ r.next_sized;
          previous_sized = length-set previous (at next n) (at previous n) ∙ r.previous_sized;
          ring = λ g low_g high_g. elim (cases_eq g head) [
            | inl same ↦ subst (λ z. AreLinked next' previous' z (with_chain head (xs ++ ys) chain z) z) (sym same)
                (subst (λ l. AreLinked next' previous' head l head) (sym here)
                (linked_join next previous next' previous' n changed_next changed_previous head xs ys head cut.0 cut.1
                (λ k. omega (arith, once_in_ring head k low high, counted k))
                (λ k. omega (arith, once_in_ring head k low high, counted k))))
            | inr apart ↦ subst (λ l. AreLinked next' previous' g l g) (sym (with_chain_other head (xs ++ ys) chain g apart))
                (linked_same next previous next' previous' g (chain g) g
                (λ k h. changed_next.others k (λ e. apart_rings head g k low high low_g high_g apart (subst (λ z. 0 < times z (head ∷ chain head)) (sym e) before_in_ring) h))
                (λ k h. changed_previous.others k (λ e. apart_rings head g k low high low_g high_g apart (subst (λ z. 0 < times z (head ∷ chain head)) (sym e) behind_in_ring) h))
                (r.ring g low_g high_g))
          ];
          inside = λ g k low_g high_g some. elim (cases_eq g head) [
            | inl same ↦
                let some' : 0 < times k (xs ++ ys) = subst (λ l. 0 < times k l) (ap (with_chain head (xs ++ ys) chain) same ∙ here) some in
                let sum = times-append k xs ys in
                let old = r.inside head k low high (omega (arith, counted k)) in
                let distinct : k ≢ n = λ e. let one = once_in_ring head n low high in let twice : times k xs + times k (n ∷ ys) ≡ times n xs + times n (n ∷ ys) = ap (λ z. times z xs + times z (n ∷ ys)) e in let same_sum : times k xs + times k ys ≡ times n xs + times n ys = ap (λ z. times z xs + times z ys) e in absurd (omega (arith, counted n, times_head n ys)) in
                (old.0, others k distinct ∙ old.1 ∙ sym same)
            | inr apart ↦
                let some' : 0 < times k (chain g) = subst (λ l. 0 < times k l) (with_chain_other head (xs ++ ys) chain g apart) some in
                let old = r.inside g k low_g high_g some' in
                (old.0, others k (λ e. apart (sym old.1 ∙ ap home e ∙ node_is.1)) ∙ old.1)
          ];
          once = λ g k low_g high_g node is. elim (cases_eq k n) [
            | inl e ↦ absurd (let moved : home' k ≡ home' n = ap home' e in omega arith)
            | inr distinct ↦ elim (cases_eq g head) [
              | inl same ↦
                  let old = r.once head k low high node (sym (others k distinct) ∙ is ∙ same) in
                  let sum = times-append k xs ys in
                  let skip = times_other k n ys (λ e. distinct (sym e)) in
                  ap (times k) (ap (with_chain head (xs ++ ys) chain) same ∙ here) ∙ omega (arith, counted k)
              | inr apart ↦ ap (times k) (with_chain_other head (xs ++ ys) chain g apart) ∙ r.once g k low_g high_g node (sym (others k distinct) ∙ is)
            ]
          ];
        }

-- places that are all alone, with chains of nothing
pub rings_alone : (next previous : List ℕ) (nodes heads : ℕ) (home : ℕ → ℕ) → ((k : ℕ) → k < nodes → home k < nodes) → AreAlone next (nodes + heads) → AreAlone previous (nodes + heads) → AreRings next previous nodes heads (λ _. []) home
rings_alone next previous nodes heads home away n p = record {
  next_sized = n.0;
  previous_sized = p.0;
  ring = λ head low high. (n.1 head high, p.1 head high);
  inside = λ head node low high some. absurd (omega arith);
  once = λ head node low high below is. absurd (omega (arith, away node below));
}

module _ (next previous : List ℕ) (nodes heads : ℕ) (chain : ℕ → List ℕ) (home : ℕ → ℕ) (r : AreRings next previous nodes heads chain home) where
  -- other words for the same chains and homes
  pub rings_same : (chain' : ℕ → List ℕ) (home' : ℕ → ℕ) → ((head : ℕ) → nodes ≤ head → head < nodes + heads → chain' head ≡ chain head) → ((k : ℕ) → k < nodes → home' k ≡ home k) → AreRings next previous nodes heads chain' home'
  rings_same chain' home' same_chain same_home = record {
    next_sized = r.next_sized;
    previous_sized = r.previous_sized;
    ring = λ head low high. subst (λ l. AreLinked next previous head l head) (sym (same_chain head low high)) (r.ring head low high);
    inside = λ head node low high some.
        let old = r.inside head node low high (subst (λ l. 0 < times node l) (same_chain head low high) some) in
        (old.0, same_home node old.0 ∙ old.1);
    once = λ head node low high below is. ap (times node) (same_chain head low high) ∙ r.once head node low high below (sym (same_home node below) ∙ is);
  }

  module _ (head : ℕ) (low : nodes ≤ head) (high : head < nodes + heads) (n : ℕ) (node : n < nodes) (free : home n < nodes) where
    -- a node without a home stands in no ring
    fresh : (g : ℕ) → nodes ≤ g → g < nodes + heads → times n (g ∷ chain g) ≡ 0
    fresh g low_g high_g =
        let skip = times_other n g (chain g) (λ e. absurd (omega arith)) in
        elim (cases_lt 0 (times n (chain g))) [
          | inl some ↦ absurd (let inside = r.inside g n low_g high_g some in omega (arith, inside.1))
          | inr none ↦ omega arith
        ]

    last_in_ring : 0 < times (at previous head) (head ∷ chain head)
    last_in_ring = previous_among next previous head (chain head) head (r.ring head low high)

    last_is_other : at previous head ≢ n
    last_is_other e = let same : times (at previous head) (head ∷ chain head) ≡ times n (head ∷ chain head) = ap (λ z. times z (head ∷ chain head)) e in absurd (omega (arith, last_in_ring, fresh head low high))

    inserts : Inserts next previous (linked_next next previous n head) (linked_previous next previous n head) n head
    inserts =
        let last = at previous head in
        let last_fits : at previous head < length next = omega (arith, within_links next previous nodes heads chain home r head (at previous head) low high last_in_ring, r.next_sized) in
        let n_fits : n < length next = omega (arith, r.next_sized) in
        let n_fits' : n < length previous = omega (arith, r.previous_sized) in
        let head_fits : head < length previous = omega (arith, r.previous_sized) in
        let size_next = length-set next last n in
        let size_previous = length-set previous n last in
        let apart : n ≢ head = λ e. absurd (omega arith) in
        record {
          next_before = get_or-set_other (set next last n) n last head 0 last_is_other ∙ get_or-set_same next last n 0 last_fits;
          next_here = get_or-set_same (set next last n) n head 0 (omega arith);
          next_others = λ k not_last not_n. get_or-set_other (set next last n) n k head 0 not_n ∙ get_or-set_other next last k n 0 not_last;
          previous_behind = get_or-set_same (set previous n last) head n 0 (omega arith);
          previous_here = get_or-set_other (set previous n last) head n n 0 apart ∙ get_or-set_same previous n last 0 n_fits';
          previous_others = λ k not_head not_n. get_or-set_other (set previous n last) head k n 0 not_head ∙ get_or-set_other previous n k last 0 not_n;
        }

    -- the rings with the node at the end of one
    pub rings_link : (home' : ℕ → ℕ) → home' n ≡ head → ((k : ℕ) → k ≢ n → home' k ≡ home k) → AreRings (linked_next next previous n head) (linked_previous next previous n head) nodes heads (with_chain head (chain head ++ n ∷ []) chain) home'
    rings_link home' home_n others =
        let next' = linked_next next previous n head in
        let previous' = linked_previous next previous n head in
        let chain' = with_chain head (chain head ++ n ∷ []) chain in
        let here : with_chain head (chain head ++ n ∷ []) chain head ≡ chain head ++ n ∷ [] = with_chain_here head (chain head ++ n ∷ []) chain in
        let pushed : (k : ℕ) → times k (chain head ++ n ∷ []) ≡ times k (chain head) + times k (n ∷ []) = λ k. times-append k (chain head) (n ∷ []) in
        record {
          next_sized = length-set (set next (at previous head) n) n head ∙ length-set next (at previous head) n ∙ r.next_sized;
          previous_sized = length-set (set previous n (at previous head)) head n ∙ length-set previous n (at previous head) ∙ r.previous_sized;
          ring = λ g low_g high_g. elim (cases_eq g head) [
            | inl same ↦ subst (λ z. AreLinked next' previous' z (chain' z) z) (sym same)
                (subst (λ l. AreLinked next' previous' head l head) (sym here)
                (linked_push next previous next' previous' n head inserts (λ e. absurd (omega arith)) head (chain head) (r.ring head low high)
                (λ k. once_in_ring next previous nodes heads chain home r head k low high) (fresh head low high) (omega (arith, once_in_ring next previous nodes heads chain home r head head low high, times_head head (chain head)))))
            | inr apart ↦ subst (λ l. AreLinked next' previous' g l g) (sym (with_chain_other head (chain head ++ n ∷ []) chain g apart))
                (linked_same next previous next' previous' g (chain g) g
                (λ k h. inserts.next_others k
                (λ e. apart_rings next previous nodes heads chain home r head g k low high low_g high_g apart (subst (λ z. 0 < times z (head ∷ chain head)) (sym e) last_in_ring) h)
                (λ e. let none : times k (g ∷ chain g) ≡ 0 = ap (λ z. times z (g ∷ chain g)) e ∙ fresh g low_g high_g in absurd (omega arith)))
                (λ k h. inserts.previous_others k
                (λ e. apart_rings next previous nodes heads chain home r head g k low high low_g high_g apart (subst (λ z. 0 < times z (head ∷ chain head)) (sym e) (omega (arith, times_head head (chain head)))) h)
                (λ e. let none : times k (g ∷ chain g) ≡ 0 = ap (λ z. times z (g ∷ chain g)) e ∙ fresh g low_g high_g in absurd (omega arith)))
                (r.ring g low_g high_g))
          ];
          inside = λ g k low_g high_g some. elim (cases_eq g head) [
            | inl same ↦
                let some' : 0 < times k (chain head ++ n ∷ []) = subst (λ l. 0 < times k l) (ap (with_chain head (chain head ++ n ∷ []) chain) same ∙ here) some in
                elim (cases_eq k n) [
                  | inl e ↦ (subst (λ z. z < nodes) (sym e) node, ap home' e ∙ home_n ∙ sym same)
                  | inr distinct ↦
                      let skip = times_other k n [] (λ e. distinct (sym e)) in
                      let old = r.inside head k low high (omega (arith, pushed k)) in
                      (old.0, others k distinct ∙ old.1 ∙ sym same)
                ]
            | inr apart ↦
                let some' : 0 < times k (chain g) = subst (λ l. 0 < times k l) (with_chain_other head (chain head ++ n ∷ []) chain g apart) some in
                let old = r.inside g k low_g high_g some' in
                let distinct : k ≢ n = λ e. let none : times k (g ∷ chain g) ≡ 0 = ap (λ z. times z (g ∷ chain g)) e ∙ fresh g low_g high_g in absurd (omega arith) in
                (old.0, others k distinct ∙ old.1)
          ];
          once = λ g k low_g high_g below is. elim (cases_eq k n) [
            | inl e ↦
                let same : g ≡ head = sym is ∙ ap home' e ∙ home_n in
                let none : times k (head ∷ chain head) ≡ 0 = ap (λ z. times z (head ∷ chain head)) e ∙ fresh head low high in
                let one : times k (n ∷ []) ≡ 1 = ap (λ z. times z (n ∷ [])) e ∙ times_head n [] in
                ap (times k) (ap (with_chain head (chain head ++ n ∷ []) chain) same ∙ here) ∙ omega (arith, pushed k)
            | inr distinct ↦ elim (cases_eq g head) [
              | inl same ↦
                  let old = r.once head k low high below (sym (others k distinct) ∙ is ∙ same) in
                  let skip = times_other k n [] (λ e. distinct (sym e)) in
                  ap (times k) (ap (with_chain head (chain head ++ n ∷ []) chain) same ∙ here) ∙ omega (arith, pushed k)
              | inr apart ↦ ap (times k) (with_chain_other head (chain head ++ n ∷ []) chain g apart) ∙ r.once g k low_g high_g below (sym (others k distinct) ∙ is)
            ]
          ];
        }

-- the next of each place of a list is the place behind it
pub linked_first : (next previous : List ℕ) (a : ℕ) (xs : List ℕ) (b : ℕ) → AreLinked next previous a xs b → at next a ≡ get_or xs 0 b
linked_first next previous a [] b l = l.0
linked_first next previous a (x ∷ xs) b l = l.0

pub linked_at : (next previous : List ℕ) (a : ℕ) (xs : List ℕ) (b : ℕ) → AreLinked next previous a xs b → (i : ℕ) → i < length xs → at next (get_or xs i b) ≡ get_or xs (i + 1) b
linked_at next previous a [] b l i within = absurd (omega arith)
linked_at next previous a (x ∷ xs) b l zero within = linked_first next previous x xs b l.2
linked_at next previous a (x ∷ xs) b l (suc i) within =
    let behind : suc i + 1 ≡ suc (i + 1) = omega arith in
    linked_at next previous x xs b l.2 i (omega arith) ∙ ap (λ k. get_or (x ∷ xs) k b) (sym behind)

-- a place of a list stands in it
pub times_at : (xs : List ℕ) (i d : ℕ) → i < length xs → 0 < times (get_or xs i d) xs
times_at [] i d within = absurd (omega arith)
times_at (x ∷ xs) zero d within = omega (arith, times_head x xs)
times_at (x ∷ xs) (suc i) d within = omega (arith, times_at xs i d (omega arith))

-- and what stands in it has a place
pub place_of : (n : ℕ) (xs : List ℕ) (d : ℕ) → 0 < times n xs → (i : ℕ) × (i < length xs) × (get_or xs i d ≡ n)
place_of n [] d some = absurd (omega arith)
place_of n (x ∷ xs) d some = elim (cases_eq x n) [
  | inl same ↦ (0, omega arith, same)
  | inr apart ↦ let found = place_of n xs d (omega (arith, times_other n x xs apart)) in (suc found.0, omega (arith, found.1), found.2)
]

-- how many of the numbers below n stand in a list
total : ℕ → List ℕ → ℕ
total zero xs = 0
total (suc n) xs = times n xs + total n xs

below_more : (x n : ℕ) → cond (ltb x (suc n)) 1 0 ≡ cond (eqb x n) 1 0 + cond (ltb x n) 1 0
below_more x n = elim (cases_order x n) [
  | inl same ↦ ap (λ b. cond b 1 0) (lt-ltb x (suc n) (omega arith)) ∙ sym (ap (λ b. cond b 1 0 + cond (ltb x n) 1 0) (eq-eqb x n same) ∙ ap (λ b. 1 + cond b 1 0) (le-ltb x n (omega arith)))
  | inr (inl less) ↦ ap (λ b. cond b 1 0) (lt-ltb x (suc n) (omega arith)) ∙ sym (ap (λ b. cond b 1 0 + cond (ltb x n) 1 0) (ne_eqb x n (λ e. absurd (omega arith))) ∙ ap (λ b. 0 + cond b 1 0) (lt-ltb x n less))
  | inr (inr more) ↦ ap (λ b. cond b 1 0) (le-ltb x (suc n) (omega arith)) ∙ sym (ap (λ b. cond b 1 0 + cond (ltb x n) 1 0) (ne_eqb x n (λ e. absurd (omega arith))) ∙ ap (λ b. 0 + cond b 1 0) (le-ltb x n (omega arith)))
]

total-cons : (n x : ℕ) (xs : List ℕ) → total n (x ∷ xs) ≡ cond (ltb x n) 1 0 + total n xs
unfolding total
total-cons zero x xs = ap (λ b. cond b 1 0 + 0) (sym (le-ltb x 0 (omega arith)))
total-cons (suc n) x xs = omega (arith, total-cons n x xs, below_more x n)

total-nil : (n : ℕ) → total n [] ≡ 0
unfolding total
total-nil zero = refl
total-nil (suc n) = omega (arith, total-nil n)

total_all : (n : ℕ) (xs : List ℕ) → ((k : ℕ) → 0 < times k xs → k < n) → total n xs ≡ length xs
total_all n [] below = total-nil n
total_all n (x ∷ xs) below =
    let here : ltb x n ≡ true = lt-ltb x n (below x (omega (arith, times_head x xs))) in
    total-cons n x xs ∙ ap (λ b. cond b 1 0 + total n xs) here ∙ omega (arith, total_all n xs (λ k some. below k (omega arith)))

total_le : (n : ℕ) (xs : List ℕ) → total n xs ≤ length xs
total_le n [] = omega (arith, total-nil n)
total_le n (x ∷ xs) = elim (cases_Bool (ltb x n)) [
  | inl b ↦ omega (arith, total_le n xs, total-cons n x xs ∙ ap (λ b. cond b 1 0 + total n xs) b)
  | inr b ↦ omega (arith, total_le n xs, total-cons n x xs ∙ ap (λ b. cond b 1 0 + total n xs) b)
]

total_once : (n : ℕ) (xs : List ℕ) → ((k : ℕ) → times k xs ≤ 1) → total n xs ≤ n
unfolding total
total_once zero xs once = omega arith
total_once (suc n) xs once = omega (arith, once n, total_once n xs once)

total_each : (n : ℕ) (xs : List ℕ) → ((k : ℕ) → k < n → 0 < times k xs) → n ≤ total n xs
unfolding total
total_each zero xs each = omega arith
total_each (suc n) xs each = omega (arith, each n (omega arith), total_each n xs (λ k below. each k (omega arith)))

-- numbers below n that stand once each are at most n
pub length_once : (n : ℕ) (xs : List ℕ) → ((k : ℕ) → 0 < times k xs → k < n) → ((k : ℕ) → times k xs ≤ 1) → length xs ≤ n
length_once n xs below once = omega (arith, total_all n xs below, total_once n xs once)

-- a list in which each number below n stands is at least n long
pub length_each : (n : ℕ) (xs : List ℕ) → ((k : ℕ) → k < n → 0 < times k xs) → n ≤ length xs
length_each n xs each = omega (arith, total_le n xs, total_each n xs each)

-- a node that moves to the end of a ring
pub rings_move : (next previous : List ℕ) (nodes heads : ℕ) (chain : ℕ → List ℕ) (home : ℕ → ℕ) → AreRings next previous nodes heads chain home → (from : ℕ) → nodes ≤ from → from < nodes + heads → (xs : List ℕ) (n : ℕ) (ys : List ℕ) → chain from ≡ xs ++ n ∷ ys → (to : ℕ) → nodes ≤ to → to < nodes + heads → (home' : ℕ → ℕ) → home' n ≡ to → ((k : ℕ) → k ≢ n → home' k ≡ home k) →
    AreRings (moved_next next previous n to) (moved_previous next previous n to) nodes heads (with_chain to (with_chain from (xs ++ ys) chain to ++ n ∷ []) (with_chain from (xs ++ ys) chain)) home'
rings_move next previous nodes heads chain home r from low high xs n ys split to low' high' home' home_n others =
    let node = node_is next previous nodes heads chain home r from low high xs n ys split in
    let away : ℕ → ℕ = λ k. cond (eqb k n) 0 (home k) in
    let away_n : cond (eqb n n) 0 (home n) ≡ 0 = ap (λ b. cond b 0 (home n)) (eq-eqb n n refl) in
    let away_other : (k : ℕ) → k ≢ n → cond (eqb k n) 0 (home k) ≡ home k = λ k apart. ap (λ b. cond b 0 (home k)) (ne_eqb k n apart) in
    let free : cond (eqb n n) 0 (home n) < nodes = omega (arith, node.0) in
    let out = rings_unlink next previous nodes heads chain home r from low high xs n ys split away free away_other in
    rings_link (unlinked_next next previous n) (unlinked_previous next previous n) nodes heads (with_chain from (xs ++ ys) chain) away out to low' high' n node.0 free home' home_n (λ k apart. others k apart ∙ sym (away_other k apart))
