-- The function gives how a chain ends, and the relations say the same.
use Rattle.std.proofs.Common.{◌≡◌, ℕ, suc, ◌+◌, ◌-◌, ◌<◌, ◌≤◌, ◌⊎◌, inl, inr, Bool, true, false, cond, nat_le, List, [], ◌∷◌, ◌++◌, length, refl, sym, ap, ◌∙◌, subst, arith}
use Rattle.std.specs.Prelude.{Result, Ok, Err}
use Rattle.std.proofs.lemmas.Bool.Decides.{nat_tests}
use Rattle.std.proofs.lemmas.List.{append-nil}
use Rattle.vring_split.specs.declared.fault.RingFault.{RingFault}
use Rattle.vring_split.specs.declared.segment.Segment.{Segment}
use Rattle.vring_walk.specs.Chain.{Look, Cover}
use Rattle.vring_packed.specs.declared.desc.PackedDesc.{PackedDesc}
use Rattle.vring_packed.specs.declared.fetched.PackedFetched.{PackedFetched}
use Rattle.vring_packed.specs.declared.fetched.PackedFetched.TheVariants.{Chain, Nothing, Bad, Crowded}
use Rattle.vring_packed.specs.declared.layout.PackedLayout.{PackedLayout}
use Rattle.vring_packed.specs.declared.place.Place.{Place}
use Rattle.vring_packed.specs.Packed.{is_available, has_next}
use Rattle.vring_packed.specs.Chain.{desc_at, descs_along, with_desc}
use Rattle.vring_packed.specs.Fetched.{ChainEnd, Breaks, Gives, chain_end, chain_from, told_by_chain, fetched, AppendsFetched}
use Rattle.vring_packed.specs.Paths.{GoOn, IsChainIn, IsBroken, IsFaultIn, IsChain, IsFirstFault, Fetches, FetchesAsFunction}
use Rattle.vring_packed.proofs.Steps.{desc_fails, desc_ends, desc_taken}

module _ (look : Look) (covers : Cover) (l : PackedLayout) where
  -- what the relations say of an end, after so many descriptors
  EndsSo : ℕ → List PackedDesc → List Segment → ChainEnd → Type 0
  EndsSo seen ds met (Breaks fault) = IsFaultIn look covers l ds met fault
  EndsSo seen ds met (Gives id count segments) = (k : ℕ) × IsChainIn look covers l ds met id k segments × (count ≡ seen + k)

  -- a descriptor that goes on, before an end
  before : (seen : ℕ) (d : PackedDesc) (ds : List PackedDesc) (met now : List Segment) (e : ChainEnd)
      → with_desc look covers l d met ≡ Ok now → has_next d ≡ true → EndsSo (seen + 1) ds now e → EndsSo seen (d ∷ ds) met e
  unfolding EndsSo
  before seen d ds met now (Breaks fault) h more x = record {
    front = d ∷ x.front;
    rest = x.rest;
    before = x.before;
    along = ap (λ (es : List PackedDesc). d ∷ es) x.along;
    on = (now, h, more, x.on);
    broken = x.broken;
  }
  before seen d ds met now (Gives id count segments) h more x =
      let c = x.1 in
      let count_is = c.count_is in
      let sum = x.2 in (
        x.0 + 1,
        record {
          front = d ∷ c.front;
          last = c.last;
          behind = c.behind;
          before = c.before;
          along = ap (λ (es : List PackedDesc). d ∷ es) c.along;
          on = (now, h, more, c.on);
          good = c.good;
          ends = c.ends;
          id_is = c.id_is;
          count_is = omega arith;
        },
        omega arith,
      )

  -- a descriptor, where the same is known of what comes after it
  first_so : (d : PackedDesc) (ds : List PackedDesc) (seen : ℕ) (met : List Segment)
      → ((now : List Segment) → EndsSo (seen + 1) ds now (chain_end look covers l (seen + 1) ds now))
      → EndsSo seen (d ∷ ds) met (chain_end look covers l seen (d ∷ ds) met)
  unfolding EndsSo
  first_so d ds seen met rest = by_result (with_desc look covers l d met) refl
    where
      by_next : (now : List Segment) → with_desc look covers l d met ≡ Ok now → (b : Bool) → has_next d ≡ b → EndsSo seen (d ∷ ds) met (chain_end look covers l seen (d ∷ ds) met)
      by_next now h true more =
          subst (λ (e : ChainEnd). EndsSo seen (d ∷ ds) met e) (sym (desc_taken look covers l seen d ds met now h more))
          (before seen d ds met now (chain_end look covers l (seen + 1) ds now) h more (rest now))
      by_next now h false last =
          subst (λ (e : ChainEnd). EndsSo seen (d ∷ ds) met e) (sym (desc_ends look covers l seen d ds met now h last))
          (1, record { front = []; last = d; behind = ds; before = met; along = refl; on = refl; good = h; ends = last; id_is = refl; count_is = refl }, refl)

      by_result : (r : Result (List Segment) RingFault) → with_desc look covers l d met ≡ r → EndsSo seen (d ∷ ds) met (chain_end look covers l seen (d ∷ ds) met)
      by_result (Err fault) h =
          subst (λ (e : ChainEnd). EndsSo seen (d ∷ ds) met e) (sym (desc_fails look covers l seen d ds met fault h))
          (record { front = []; rest = d ∷ ds; before = met; along = refl; on = refl; broken = h })
      by_result (Ok now) h = by_next now h (has_next d) refl

  so : (ds : List PackedDesc) (seen : ℕ) (met : List Segment) → EndsSo seen ds met (chain_end look covers l seen ds met)
  unfolding EndsSo chain_end
  so [] seen met = record { front = []; rest = []; before = met; along = refl; on = refl; broken = refl }
  so (d ∷ ds) seen met = first_so d ds seen met (λ now. so ds (seen + 1) now)

  -- descriptors that go on lead to the rest
  goes : (front rest : List PackedDesc) (seen : ℕ) (met now : List Segment) → GoOn look covers l front met now
      → chain_end look covers l seen (front ++ rest) met ≡ chain_end look covers l (seen + length front) rest now
  goes [] rest seen met now on =
      let none : seen ≡ seen + 0 = omega arith in λ i. chain_end look covers l (none i) rest (on i)
  goes (d ∷ ds) rest seen met now on =
      let one : (seen + 1) + length ds ≡ seen + suc (length ds) = omega arith in
      desc_taken look covers l seen d (ds ++ rest) met on.0 on.1 on.2
      ∙ goes ds rest (seen + 1) on.0 now on.3
      ∙ ap (λ n. chain_end look covers l n rest now) one

  gives : (ds : List PackedDesc) (id count : ℕ) (segments : List Segment) → IsChainIn look covers l ds [] id count segments → chain_end look covers l 0 ds [] ≡ Gives id count segments
  gives ds id count segments c =
      let all : (0 + length c.front) + 1 ≡ count = let e = c.count_is in omega arith in
      ap (λ es. chain_end look covers l 0 es []) c.along
      ∙ goes c.front (c.last ∷ c.behind) 0 [] c.before c.on
      ∙ desc_ends look covers l (0 + length c.front) c.last c.behind c.before segments c.good c.ends
      ∙ (λ i. Gives (sym c.id_is i) (all i) segments)

  breaks : (ds : List PackedDesc) (fault : RingFault) → IsFaultIn look covers l ds [] fault → chain_end look covers l 0 ds [] ≡ Breaks fault
  unfolding chain_end
  breaks ds fault c =
      ap (λ es. chain_end look covers l 0 es []) c.along
      ∙ goes c.front c.rest 0 [] c.before c.on
      ∙ at_rest c.rest (0 + length c.front) c.before c.broken
    where
      at_rest : (rest : List PackedDesc) (seen : ℕ) (met : List Segment) → IsBroken look covers l rest met fault → chain_end look covers l seen rest met ≡ Breaks fault
      at_rest [] seen met h = ap (λ f. Breaks f) (sym h)
      at_rest (d ∷ ds) seen met h = desc_fails look covers l seen d ds met fault h

  -- a fetch where the descriptor is available, and where it isn't
  at_chain : (p : Place) (places : ℕ) → is_available p.wrap (desc_at look l.ring p.at) ≡ true → fetched look covers l p places ≡ told_by_chain places (chain_from look covers l p.at)
  unfolding fetched
  at_chain p places on = ap (λ b. cond b (told_by_chain places (chain_from look covers l p.at)) (Nothing, [])) on

  at_nothing : (p : Place) (places : ℕ) → is_available p.wrap (desc_at look l.ring p.at) ≡ false → fetched look covers l p places ≡ (Nothing, [])
  unfolding fetched
  at_nothing p places off = ap (λ b. cond b (told_by_chain places (chain_from look covers l p.at)) (Nothing, [])) off

  at_end : (p : Place) (places : ℕ) (e : ChainEnd) → is_available p.wrap (desc_at look l.ring p.at) ≡ true → chain_from look covers l p.at ≡ e → fetched look covers l p places ≡ told_by_chain places e
  at_end p places e on is = at_chain p places on ∙ ap (told_by_chain places) is

  told_fits : (places id count : ℕ) (segments : List Segment) → length segments ≤ places → told_by_chain places (Gives id count segments) ≡ (Chain id count, segments)
  told_fits places id count segments h =
      let test : nat_le (length segments) places ≡ true = grind (arith, nat_tests) in
      ap (λ b. cond {A = PackedFetched × List Segment} b (Chain id count, segments) (Crowded, [])) test

  told_over : (places id count : ℕ) (segments : List Segment) → places < length segments → told_by_chain places (Gives id count segments) ≡ (Crowded, [])
  told_over places id count segments h =
      let test : nat_le (length segments) places ≡ false = grind (arith, nat_tests) in
      ap (λ b. cond {A = PackedFetched × List Segment} b (Chain id count, segments) (Crowded, [])) test

  is_given : (at id count : ℕ) (segments : List Segment) → IsChain look covers l at id count segments → chain_from look covers l at ≡ Gives id count segments
  unfolding chain_from
  is_given at id count segments c = gives (descs_along look l at l.num) id count segments c

  is_broken : (at : ℕ) (fault : RingFault) → IsFirstFault look covers l at fault → chain_from look covers l at ≡ Breaks fault
  unfolding chain_from
  is_broken at fault c = breaks (descs_along look l at l.num) fault c

  -- the function's answer, from what was made of it
  appended : (p : Place) (old new : List Segment) (answer : PackedFetched) (segments : List Segment) → fetched look covers l p (1024 - length old) ≡ (answer, segments) → new ≡ old ++ segments → AppendsFetched look covers l p old answer new
  appended p old new answer segments e h = (sym (ap (λ (r : PackedFetched × List Segment). r.0) e), h ∙ sym (ap (λ (r : PackedFetched × List Segment). old ++ r.1) e))

  to_function : (p : Place) (old new : List Segment) (answer : PackedFetched) → length old ≤ 1024 → Fetches look covers l p old answer new → AppendsFetched look covers l p old answer new
  to_function p old new (Chain id count) few x =
      let segments = x.0 in
      let sum : length old + length segments ≤ 1024 = x.3 in
      let fits : length segments ≤ 1024 - length old = omega arith in
      appended p old new (Chain id count) segments (at_end p (1024 - length old) (Gives id count segments) x.1 (is_given p.at id count segments x.2) ∙ told_fits (1024 - length old) id count segments fits) x.4
  to_function p old new Nothing few x =
      appended p old new Nothing [] (at_nothing p (1024 - length old) x.0) (x.1 ∙ sym (append-nil old))
  to_function p old new (Bad fault) few x =
      appended p old new (Bad fault) [] (at_end p (1024 - length old) (Breaks fault) x.0 (is_broken p.at fault x.1)) (x.2 ∙ sym (append-nil old))
  to_function p old new Crowded few x =
      let y = x.0 in
      let segments = y.2 in
      let sum : 1024 < length old + length segments = y.5 in
      let over : 1024 - length old < length segments = omega arith in
      appended p old new Crowded [] (at_end p (1024 - length old) (Gives y.0 y.1 segments) y.3 (is_given p.at y.0 y.1 segments y.4) ∙ told_over (1024 - length old) y.0 y.1 segments over) (x.1 ∙ sym (append-nil old))

  -- what holds of the function's answer holds of one that is the same
  settled : (p : Place) (old new : List Segment) (answer a : PackedFetched) (segments : List Segment) → fetched look covers l p (1024 - length old) ≡ (a, segments) → Fetches look covers l p old a (old ++ segments) → AppendsFetched look covers l p old answer new → Fetches look covers l p old answer new
  settled p old new answer a segments e f h =
      let same : a ≡ answer = sym (h.0 ∙ ap (λ (r : PackedFetched × List Segment). r.0) e) in
      let made : old ++ segments ≡ new = sym (h.1 ∙ ap (λ (r : PackedFetched × List Segment). old ++ r.1) e) in
      subst (λ (x : PackedFetched). Fetches look covers l p old x new) same (subst (λ (xs : List Segment). Fetches look covers l p old a xs) made f)

  split : (a b : ℕ) → (a ≤ b) ⊎ (b < a)
  split a b = grind arith

  by_end : (p : Place) (old new : List Segment) (answer : PackedFetched) (e : ChainEnd) → length old ≤ 1024 → is_available p.wrap (desc_at look l.ring p.at) ≡ true → chain_from look covers l p.at ≡ e
      → EndsSo 0 (descs_along look l p.at l.num) [] e → AppendsFetched look covers l p old answer new → Fetches look covers l p old answer new
  unfolding EndsSo
  by_end p old new answer (Breaks fault) few on is x h =
      settled p old new answer (Bad fault) [] (at_end p (1024 - length old) (Breaks fault) on is) (on, x, append-nil old) h
  by_end p old new answer (Gives id count segments) few on is x h =
      let whole : IsChain look covers l p.at id count segments = subst (λ n. IsChain look covers l p.at id n segments) (sym (x.2 ∙ none x.0)) x.1 in
      elim (split (length segments) (1024 - length old)) [
        | inl fits ↦ settled p old new answer (Chain id count) segments (at_end p (1024 - length old) (Gives id count segments) on is ∙ told_fits (1024 - length old) id count segments fits) (segments, on, whole, omega arith, refl) h
        | inr over ↦ settled p old new answer Crowded [] (at_end p (1024 - length old) (Gives id count segments) on is ∙ told_over (1024 - length old) id count segments over) ((id, count, segments, on, whole, omega arith), append-nil old) h
      ]
    where
      none : (k : ℕ) → 0 + k ≡ k
      none k = omega arith

  ends_from : (at : ℕ) → EndsSo 0 (descs_along look l at l.num) [] (chain_from look covers l at)
  unfolding chain_from
  ends_from at = so (descs_along look l at l.num) 0 []

  to_relation : (p : Place) (old new : List Segment) (answer : PackedFetched) → length old ≤ 1024 → AppendsFetched look covers l p old answer new → Fetches look covers l p old answer new
  to_relation p old new answer few h = by_test (is_available p.wrap (desc_at look l.ring p.at)) refl
    where
      by_test : (b : Bool) → is_available p.wrap (desc_at look l.ring p.at) ≡ b → Fetches look covers l p old answer new
      by_test true on = by_end p old new answer (chain_from look covers l p.at) few on refl (ends_from p.at) h
      by_test false off = settled p old new answer Nothing [] (at_nothing p (1024 - length old) off) (off, append-nil old) h

pub fetches_as_function : FetchesAsFunction
fetches_as_function look covers l p old new answer few = (to_function look covers l p old new answer few, to_relation look covers l p old new answer few)
