-- What holds of each segment of a chain, and that a chain fits an empty room.
use Rattle.std.proofs.Common.{◌≡◌, ℕ, ◌+◌, ◌<◌, ◌≤◌, Bool, true, false, cond, not, nat_le, List, [], ◌∷◌, ◌++◌, length, Option, Some, None, refl, ◌∙◌, subst, arith, length-append}
use Rattle.std.specs.Prelude.{Result, Ok, Err}
use Rattle.std.specs.List.{AllByRecursion}
use Rattle.std.proofs.lemmas.Bool.Decides.{nat_tests}
use Rattle.std.proofs.lemmas.List.Elements.{All-from_recursion}
use Rattle.vring_split.specs.declared.fault.RingFault.{RingFault}
use Rattle.vring_split.specs.declared.segment.Segment.{Segment}
use Rattle.tap_ground.specs.Options.{first_that_holds as first_broken}
use Rattle.vring_walk.specs.Chain.{Look, Cover, any_writable}
use Rattle.vring_packed.specs.declared.desc.PackedDesc.{PackedDesc}
use Rattle.vring_packed.specs.declared.fetched.PackedFetched.{PackedFetched}
use Rattle.vring_packed.specs.declared.fetched.PackedFetched.TheVariants.{Crowded}
use Rattle.vring_packed.specs.declared.layout.PackedLayout.{PackedLayout}
use Rattle.vring_packed.specs.declared.place.Place.{Place}
use Rattle.vring_packed.specs.Packed.{is_writable, is_indirect}
use Rattle.vring_packed.specs.Chain.{segment_of, segment_rules, table_rules, table_of, with_segment, with_entries, with_desc}
use Rattle.vring_packed.specs.Fetched.{AppendsFetched}
use Rattle.vring_packed.specs.Paths.{GoOn, IsChain, Fetches, IsUsable, ChainsAreUsable, EmptyIsNotCrowded}
use Rattle.vring_packed.proofs.Ends.{fetches_as_function}

-- one more of which something holds
one_more : (P : Segment → Type 0) (xs : List Segment) (s : Segment) → AllByRecursion P xs → P s → AllByRecursion P (xs ++ s ∷ [])
one_more P [] s h p = (p, tt)
one_more P (x ∷ xs) s h p = (h.0, one_more P xs s h.1 p)

-- what a descriptor is that breaks none of the rules for a segment
module _ (T : Type 0) (now next : T) where
  abbrev made : Option RingFault → Result T RingFault
  made (Some fault) = Err fault
  made None = Ok now

  none_broken : (o : Option RingFault) → made o ≡ Ok next → (o ≡ None) × (now ≡ next)
  none_broken (Some fault) e = absurd (cc)
  none_broken None e = (refl, cc)

-- the rules are kept, one after the other
kept : (a b c d : Bool) (e f g h : RingFault) → first_broken ((a, e) ∷ (b, f) ∷ (c, g) ∷ (d, h) ∷ []) ≡ None → (a ≡ false) × (c ≡ false) × (d ≡ false)
kept true b c d e f g h x = absurd (cc)
kept false true c d e f g h x = absurd (cc)
kept false false true d e f g h x = absurd (cc)
kept false false false true e f g h x = absurd (cc)
kept false false false false e f g h x = (refl, refl, refl)

not_off : (a : Bool) → not a ≡ false → a ≡ true
not_off true e = refl
not_off false e = absurd (cc)

same_way : (rx writable : Bool) → cond rx (not writable) writable ≡ false → writable ≡ rx
same_way true writable e = not_off writable e
same_way false writable e = e

module _ (look : Look) (covers : Cover) (l : PackedLayout) where
  -- segments so far
  record SoFar (segments : List Segment) : Type 0 where
    few : length segments ≤ 1024
    lies : AllByRecursion (λ s. covers s.addr s.len ≡ true) segments
    directed : AllByRecursion (λ s. s.write ≡ l.rx) segments

  one : (d : PackedDesc) (met now : List Segment) → SoFar met → with_segment covers l d met ≡ Ok now → SoFar now
  one d met now h e =
      let both = none_broken (List Segment) (met ++ segment_of d ∷ []) now (first_broken (segment_rules covers l d (length met) (any_writable met))) (same ∙ e) in
      let rules = kept _ _ _ _ _ _ _ _ both.0 in
      subst (λ (xs : List Segment). SoFar xs) both.1 (record {
        few = few rules.2;
        lies = one_more (λ s. covers s.addr s.len ≡ true) met (segment_of d) h.lies (not_off _ rules.0);
        directed = one_more (λ s. s.write ≡ l.rx) met (segment_of d) h.directed (same_way l.rx (is_writable d) rules.1);
      })
    where
      as_made : (o : Option RingFault) → made (List Segment) (met ++ segment_of d ∷ []) now o ≡ (elim o as (λ _. Result (List Segment) RingFault) [ Some fault ↦ Err fault | None ↦ Ok (met ++ segment_of d ∷ []) ])
      as_made (Some fault) = refl
      as_made None = refl

      same : made (List Segment) (met ++ segment_of d ∷ []) now (first_broken (segment_rules covers l d (length met) (any_writable met))) ≡ with_segment covers l d met
      same = as_made (first_broken (segment_rules covers l d (length met) (any_writable met)))

      few : nat_le 1024 (length met) ≡ false → length (met ++ segment_of d ∷ []) ≤ 1024
      few t = let less : length met < 1024 = grind (arith, nat_tests) in omega (arith, less, length-append met (segment_of d ∷ []))

  entries : (ds : List PackedDesc) (met now : List Segment) → SoFar met → with_entries covers l ds met ≡ Ok now → SoFar now
  entries [] met now h e = subst (λ (xs : List Segment). SoFar xs) (none_broken (List Segment) met now None e).1 h
  entries (d ∷ ds) met now h e = by_first (with_segment covers l d met) refl (λ next g x. entries ds next now g x) e
    where
      by_first : (r : Result (List Segment) RingFault) → with_segment covers l d met ≡ r
          → ((next : List Segment) → SoFar next → with_entries covers l ds next ≡ Ok now → SoFar now)
          → (elim r as (λ _. Result (List Segment) RingFault) [ Err fault ↦ Err fault | Ok next ↦ with_entries covers l ds next ]) ≡ Ok now → SoFar now
      by_first (Err fault) is rest e = absurd (cc)
      by_first (Ok next) is rest e = rest next (one d met next h is) e

  desc : (d : PackedDesc) (met now : List Segment) → SoFar met → with_desc look covers l d met ≡ Ok now → SoFar now
  unfolding with_desc
  desc d met now h e = by_flag (is_indirect d) e
    where
      by_rules : (o : Option RingFault) → (elim o as (λ _. Result (List Segment) RingFault) [ Some fault ↦ Err fault | None ↦ with_entries covers l (table_of look d) met ]) ≡ Ok now → SoFar now
      by_rules (Some fault) e = absurd (cc)
      by_rules None e = entries (table_of look d) met now h e

      by_flag : (b : Bool) → cond b (elim (first_broken (table_rules covers l d)) as (λ _. Result (List Segment) RingFault) [ Some fault ↦ Err fault | None ↦ with_entries covers l (table_of look d) met ]) (with_segment covers l d met) ≡ Ok now → SoFar now
      by_flag true e = by_rules (first_broken (table_rules covers l d)) e
      by_flag false e = one d met now h e

  along : (ds : List PackedDesc) (met now : List Segment) → SoFar met → GoOn look covers l ds met now → SoFar now
  along [] met now h on = subst (λ (xs : List Segment). SoFar xs) on h
  along (d ∷ ds) met now h on = along ds on.0 now (desc d met on.0 h on.1) on.3

  usable : (at id count : ℕ) (segments : List Segment) → IsChain look covers l at id count segments → IsUsable covers l segments
  usable at id count segments c =
      let all = desc c.last c.before segments (along c.front [] c.before (record { few = omega arith; lies = tt; directed = tt }) c.on) c.good in
      record {
        few = all.few;
        lies = All-from_recursion (λ s. covers s.addr s.len ≡ true) segments all.lies;
        directed = All-from_recursion (λ s. s.write ≡ l.rx) segments all.directed;
      }

  not_crowded : (p : Place) (new : List Segment) → Fetches look covers l p [] Crowded new → ⊥
  not_crowded p new x =
      let y = x.0 in
      let few = (usable p.at y.0 y.1 y.2 y.4).few in
      let over : 1024 < length {A = Segment} [] + length y.2 = y.5 in
      omega (arith, few, over)

pub chains_are_usable : ChainsAreUsable
chains_are_usable look covers l at id count segments c = usable look covers l at id count segments c

pub empty_is_not_crowded : EmptyIsNotCrowded
empty_is_not_crowded look covers l p new answer h is =
    let back = (fetches_as_function look covers l p [] new Crowded (omega arith)).1 in
    not_crowded look covers l p new (back (subst (λ (a : PackedFetched). AppendsFetched look covers l p [] a new) is h))
