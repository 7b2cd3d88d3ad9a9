-- The function gives what a fetch answers.
use Rattle.std.proofs.Common.{◌≡◌, ℕ, zero, suc, ◌+◌, ◌-◌, ◌^◌, ◌<◌, ◌≤◌, ◌↔◌, inl, inr, Bool, true, false, cond, eqb, nat_lt, nat_le, List, [], ◌∷◌, ◌++◌, length, filter, Option, Some, None, refl, sym, ap, ◌∙◌, subst, arith}
use Rattle.std.proofs.lemmas.Bool.Decides.{nat_tests}
use Rattle.std.proofs.lemmas.List.{append-nil}
use Rattle.vring_split.specs.declared.fault.RingFault.{RingFault}
use Rattle.vring_split.specs.declared.fault.RingFault.TheVariants.{AvailJump, HeadRange}
use Rattle.vring_split.specs.declared.layout.Layout.{Layout}
use Rattle.vring_split.specs.declared.segment.Segment.{Segment}
use Rattle.vring_split.specs.Split.{distance, is_indirect}
use Rattle.vring_walk.specs.declared.walk.Fetched.{Fetched}
use Rattle.vring_walk.specs.declared.walk.Fetched.TheVariants.{Chain, Nothing, Bad, Crowded}
use Rattle.vring_walk.specs.Chain.{Look, Cover, Place, desc_at, head_place, table_of, place_after, next_place, segment_in, segments_of, seen_in, any_writable, fault_after, fault_at, Reaches, IsChain, IsFirstFault}
use Rattle.vring_walk.specs.Fetch.{avail_idx, avail_head, IsAvailable, HasChain, Fetches}
use Rattle.vring_walk.specs.Fetched.{PathEnd, Breaks, Gives, path_end, path_from, told_by_path, fetched, AppendsFetched}
use Rattle.vring_walk.proofs.KeptRules.{KeepsRules, keeps_rules}
use Rattle.vring_walk.proofs.Paths.{ways_on, seen_more, short, path_length}
use Rattle.vring_walk.proofs.Endings.{answers_agree}

module _ (look : Look) (covers : Cover) (l : Layout) where
  -- what is said of an end is so of the path from a head
  abbrev EndsSo : ℕ → PathEnd → Type 0
  EndsSo head (Breaks fault) = IsFirstFault look covers l head fault
  EndsSo head (Gives segments) = IsChain look covers l head segments

  -- how many of the next place's table came before it
  seen_next : (head : ℕ) (behind : List Place) (p q : Place) → Reaches look covers l head behind p → fault_at look covers l behind p ≡ None → next_place look p ≡ Some q
      → cond (is_indirect (desc_at look p)) 0 (seen_in p.table behind + 1) ≡ seen_in q.table (p ∷ behind)
  seen_next head behind p q reached good on = elim (ways_on look covers l p q on) [
    | inl way ↦ let rules = kept.table way.refers in into (rules.plain) way.refers way.to
    | inr way ↦ along way.plain way.to
  ]
    where
      kept : KeepsRules covers l p.table (desc_at look p) (seen_in p.table behind) (length (segments_of look behind)) (any_writable (segments_of look behind))
      kept = keeps_rules covers l p.table (desc_at look p) _ _ _ good

      into : p.table.indirect ≡ false → is_indirect (desc_at look p) ≡ true → q ≡ record { table = table_of (desc_at look p); index = 0 }
          → cond (is_indirect (desc_at look p)) 0 (seen_in p.table behind + 1) ≡ seen_in q.table (p ∷ behind)
      into plain refers to =
          let own = (short look covers l head behind p reached).own plain in
          let none_inside : length (filter (λ (r : Place). r.table.indirect) (p ∷ behind)) ≡ 0 = ap (λ b. length (cond b (p ∷ filter (λ (r : Place). r.table.indirect) behind) (filter (λ (r : Place). r.table.indirect) behind))) plain ∙ own.2 in
          ap (λ b. cond b 0 (seen_in p.table behind + 1)) refers ∙ sym none_inside ∙ ap (λ (r : Place). seen_in r.table (p ∷ behind)) (sym to)

      along : is_indirect (desc_at look p) ≡ false → q ≡ record { table = p.table; index = (desc_at look p).next }
          → cond (is_indirect (desc_at look p)) 0 (seen_in p.table behind + 1) ≡ seen_in q.table (p ∷ behind)
      along plain to =
          ap (λ b. cond b 0 (seen_in p.table behind + 1)) plain ∙ one_more (seen_in p.table behind) ∙ sym (seen_more p behind) ∙ ap (λ (r : Place). seen_in r.table (p ∷ behind)) (sym to)
        where
          one_more : (n : ℕ) → n + 1 ≡ 1 + n
          one_more n = omega arith

  path_end_so : (n head : ℕ) (p : Place) (seen : ℕ) (met : List Segment) (behind : List Place)
      → Reaches look covers l head behind p → seen ≡ seen_in p.table behind → met ≡ segments_of look behind → n + length behind ≡ l.num + 1025
      → EndsSo head (path_end look covers l n p seen met)
  unfolding path_end
  path_end_so zero head p seen met behind reached seen_is met_is steps = let most = path_length look covers l head behind p reached in absurd (omega arith)
  path_end_so (suc n) head p seen met behind reached seen_is met_is steps =
      by_fault (fault_after covers l p.table (desc_at look p) seen met) (λ i. fault_after covers l p.table (desc_at look p) (sym seen_is i) (sym met_is i))
      (λ q good on. path_end_so n head q (cond (is_indirect (desc_at look p)) 0 (seen + 1)) (met ++ segment_in (desc_at look p)) (p ∷ behind)
      (reached, good, on)
      (ap (λ m. cond (is_indirect (desc_at look p)) 0 (m + 1)) seen_is ∙ seen_next head behind p q reached good on)
      (ap (λ (xs : List Segment). xs ++ segment_in (desc_at look p)) met_is)
      (omega arith))
    where
      by_place : (o : Option Place) → next_place look p ≡ o → fault_at look covers l behind p ≡ None
          → ((q : Place) → fault_at look covers l behind p ≡ None → next_place look p ≡ Some q → EndsSo head (path_end look covers l n q (cond (is_indirect (desc_at look p)) 0 (seen + 1)) (met ++ segment_in (desc_at look p))))
          → EndsSo head (elim o [ None ↦ Gives (met ++ segment_in (desc_at look p)) | Some q ↦ path_end look covers l n q (cond (is_indirect (desc_at look p)) 0 (seen + 1)) (met ++ segment_in (desc_at look p)) ])
      by_place None e good on = record { behind = behind; last = p; reached = reached; good = good; ends = e; has = ap (λ (xs : List Segment). xs ++ segment_in (desc_at look p)) met_is }
      by_place (Some q) e good on = on q good e

      by_fault : (o : Option RingFault) → fault_at look covers l behind p ≡ o
          → ((q : Place) → fault_at look covers l behind p ≡ None → next_place look p ≡ Some q → EndsSo head (path_end look covers l n q (cond (is_indirect (desc_at look p)) 0 (seen + 1)) (met ++ segment_in (desc_at look p))))
          → EndsSo head (elim o [
            | Some fault ↦ Breaks fault
            | None ↦ elim (place_after p.table (desc_at look p)) [ None ↦ Gives (met ++ segment_in (desc_at look p)) | Some q ↦ path_end look covers l n q (cond (is_indirect (desc_at look p)) 0 (seen + 1)) (met ++ segment_in (desc_at look p)) ]
          ])
      by_fault (Some fault) e on = record { behind = behind; bad = p; reached = reached; broken = e }
      by_fault None e on = by_place (place_after p.table (desc_at look p)) refl e on

  path_from_so : (head : ℕ) → EndsSo head (path_from look covers l head)
  unfolding path_from
  path_from_so head = path_end_so (l.num + 1025) head (head_place l head) 0 [] [] refl refl refl (omega arith)

  -- the function's answer is a fetch's
  by_path_so : (position places : ℕ) (old : List Segment) (end : PathEnd) → places + length old ≡ 1024 → IsAvailable look l position → avail_head look l position < l.num → EndsSo (avail_head look l position) end
      → Fetches look covers l position old (told_by_path places (avail_head look l position) end).0 (old ++ (told_by_path places (avail_head look l position) end).1)
  by_path_so position places old (Breaks fault) sum available inside so = (inr (inr (available, inside, so)), append-nil old)
  by_path_so position places old (Gives segments) sum available inside so = by_room (nat_le (length segments) places) refl
    where
      chain : HasChain look covers l position (avail_head look l position) segments
      chain = record { available = available; at = refl; inside = inside; chain = so }

      fits : (n places : ℕ) → nat_le n places ≡ true → n ≤ places
      fits n places t = grind (arith, nat_tests)

      over : (n places : ℕ) → nat_le n places ≡ false → places < n
      over n places t = grind (arith, nat_tests)

      by_room : (b : Bool) → nat_le (length segments) places ≡ b
          → Fetches look covers l position old (cond {A = Fetched × List Segment} b (Chain (avail_head look l position), segments) (Crowded, [])).0 (old ++ (cond {A = Fetched × List Segment} b (Chain (avail_head look l position), segments) (Crowded, [])).1)
      by_room true t = let le = fits (length segments) places t in (segments, chain, omega arith, refl)
      by_room false t = let gt = over (length segments) places t in ((avail_head look l position, segments, chain, omega arith), append-nil old)

  pub fetched_so : (position places : ℕ) (old : List Segment) → places + length old ≡ 1024
      → Fetches look covers l position old (fetched look covers l position places).0 (old ++ (fetched look covers l position places).1)
  unfolding fetched
  fetched_so position places old sum = by_tests (eqb index position) (nat_lt l.num (distance position index)) (nat_le l.num head) refl refl refl
    where
      index : ℕ
      index = avail_idx look l

      head : ℕ
      head = avail_head look l position

      same : (a b : ℕ) → eqb a b ≡ true → a ≡ b
      same a b t = grind (arith, nat_tests)

      differs : (a b : ℕ) → eqb a b ≡ false → a ≡ b → ⊥
      differs a b t e = absurd (grind (arith, nat_tests))

      less : (a b : ℕ) → nat_lt a b ≡ true → a < b
      less a b t = grind (arith, nat_tests)

      no_less : (a b : ℕ) → nat_lt a b ≡ false → b ≤ a
      no_less a b t = grind (arith, nat_tests)

      most : (a b : ℕ) → nat_le a b ≡ true → a ≤ b
      most a b t = grind (arith, nat_tests)

      more : (a b : ℕ) → nat_le a b ≡ false → b < a
      more a b t = grind (arith, nat_tests)

      found : Option Fetched → Fetched × List Segment
      found o = elim o [ Some answer ↦ (answer, []) | None ↦ told_by_path places head (path_from look covers l head) ]

      by_tests : (a b c : Bool) → eqb index position ≡ a → nat_lt l.num (distance position index) ≡ b → nat_le l.num head ≡ c
          → Fetches look covers l position old (found (cond a (Some Nothing) (cond b (Some (Bad AvailJump)) (cond c (Some (Bad HeadRange)) None)))).0
          (old ++ (found (cond a (Some Nothing) (cond b (Some (Bad AvailJump)) (cond c (Some (Bad HeadRange)) None)))).1)
      by_tests true b c e f g = (same index position e, append-nil old)
      by_tests false true c e f g = (inl (less l.num (distance position index) f, refl), append-nil old)
      by_tests false false true e f g =
          (inr (inl (record { moved = differs index position e; near = no_less l.num (distance position index) f }, most l.num head g, refl)), append-nil old)
      by_tests false false false e f g =
          by_path_so position places old (path_from look covers l head) sum (record { moved = differs index position e; near = no_less l.num (distance position index) f }) (more l.num head g) (path_from_so head)

  -- and a fetch's answer is the function's
  pub fetches_as_function : (position : ℕ) (old new : List Segment) (answer : Fetched) → position < 2 ^ 16 → length old ≤ 1024
      → Fetches look covers l position old answer new ↔ AppendsFetched look covers l position old answer new
  fetches_as_function position old new answer small few = (
    λ f. answers_agree look covers l position old new (old ++ (fetched look covers l position (1024 - length old)).1) answer (fetched look covers l position (1024 - length old)).0 small f so,
    λ e. subst (λ (a : Fetched). Fetches look covers l position old a new) (sym e.0) (subst (λ (s : List Segment). Fetches look covers l position old (fetched look covers l position (1024 - length old)).0 s) (sym e.1) so),
  )
    where
      so : Fetches look covers l position old (fetched look covers l position (1024 - length old)).0 (old ++ (fetched look covers l position (1024 - length old)).1)
      so = fetched_so position (1024 - length old) old (omega arith)
