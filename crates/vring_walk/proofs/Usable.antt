-- What holds of each segment of a chain.
use Rattle.std.proofs.Common.{◌≡◌, ℕ, ◌≤◌, Bool, true, false, cond, List, [], ◌∷◌, ◌++◌, length, None, refl, sym, ap, ◌∙◌, subst, arith, length-append}
use Rattle.std.specs.List.{AllByRecursion, list_any}
use Rattle.std.proofs.lemmas.List.{append-nil}
use Rattle.std.proofs.lemmas.List.Elements.{All-from_recursion}
use Rattle.vring_split.specs.declared.layout.Layout.{Layout}
use Rattle.vring_split.specs.declared.segment.Segment.{Segment}
use Rattle.vring_split.specs.Split.{is_indirect}
use Rattle.vring_walk.specs.Chain.{Look, Cover, Place, desc_at, segment_of, segments_of, seen_in, fault_at, Reaches, IsChain, IsUsable}
use Rattle.vring_walk.proofs.KeptRules.{KeepsRules, keeps_rules}
use Rattle.vring_walk.proofs.Rooms.{segments_more}

-- one more of which something holds
one_more : (P : Segment → Type 0) (xs : List Segment) (s : Segment) → AllByRecursion P xs → P s → AllByRecursion P (xs ++ s ∷ [])
one_more P [] s h p = (p, tt)
one_more P (x ∷ xs) s h p = (h.0, one_more P xs s h.1 p)

module _ (look : Look) (covers : Cover) (l : Layout) where
  -- segments so far
  record SoFar (segments : List Segment) : Type 0 where
    few : length segments ≤ 1024
    lies : AllByRecursion (λ s. covers s.addr s.len ≡ true) segments
    directed : AllByRecursion (λ s. s.write ≡ l.rx) segments

  step : (behind : List Place) (p : Place) → SoFar (segments_of look behind) → fault_at look covers l behind p ≡ None → SoFar (segments_of look (p ∷ behind))
  step behind p h good = by_flag (is_indirect (desc_at look p)) refl
    where
      kept : KeepsRules covers l p.table (desc_at look p) (seen_in p.table behind) (length (segments_of look behind)) (list_any (λ s. s.write) (segments_of look behind))
      kept = keeps_rules covers l p.table (desc_at look p) _ _ _ good

      by_flag : (b : Bool) → is_indirect (desc_at look p) ≡ b → SoFar (segments_of look (p ∷ behind))
      by_flag true e =
          let same : segments_of look (p ∷ behind) ≡ segments_of look behind = ap (λ b. segments_of look behind ++ cond b [] (segment_of (desc_at look p) ∷ [])) e ∙ append-nil (segments_of look behind) in
          subst (λ (xs : List Segment). SoFar xs) (sym same) h
      by_flag false e =
          let few = kept.few e in
          subst (λ (xs : List Segment). SoFar xs) (sym (segments_more look p behind e)) (record {
            few = omega (arith, length-append (segments_of look behind) (segment_of (desc_at look p) ∷ []));
            lies = one_more (λ s. covers s.addr s.len ≡ true) (segments_of look behind) (segment_of (desc_at look p)) h.lies kept.mapped;
            directed = one_more (λ s. s.write ≡ l.rx) (segments_of look behind) (segment_of (desc_at look p)) h.directed (kept.directed e);
          })

  so_far : (head : ℕ) (behind : List Place) (p : Place) → Reaches look covers l head behind p → SoFar (segments_of look behind)
  so_far head [] p h = record { few = omega arith; lies = tt; directed = tt }
  so_far head (q ∷ behind) p h = step behind q (so_far head behind q h.0) h.1

  pub usable_chain : (head : ℕ) (segments : List Segment) → IsChain look covers l head segments → IsUsable covers l segments
  usable_chain head segments c =
      let all = step c.behind c.last (so_far head c.behind c.last c.reached) c.good in
      subst (λ (xs : List Segment). IsUsable covers l xs) (sym c.has) (record {
        few = all.few;
        lies = All-from_recursion (λ s. covers s.addr s.len ≡ true) _ all.lies;
        directed = All-from_recursion (λ s. s.write ≡ l.rx) _ all.directed;
      })
