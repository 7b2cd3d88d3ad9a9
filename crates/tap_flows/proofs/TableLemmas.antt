-- A table stays sound.
use Rattle.std.proofs.Common.{◌≡◌, ◌≢◌, ℕ, ◌+◌, ◌-◌, ◌<◌, ◌≤◌, cond, List, [], ◌∷◌, ◌++◌, length, get_or, set, Option, None, Some, IfSome, IsSomeAnd, sym, ap, subst, ◌∙◌, inl, inr, refl, arith, length-append, length-set}
use Rattle.std.specs.Option.{option_map_or}
use Rattle.std.specs.FinMap.{get, insert, len}
use Rattle.std.proofs.lemmas.Bool.{eq-eqb, cases_eq}
use Rattle.tap_flows.specs.Flow.{Flow}
use Rattle.tap_flows.specs.Flows.{IsNotBefore}
use Rattle.tap_ground.specs.Lists.{times}
use Rattle.tap_flows.specs.Rings.{with_chain, unlinked_next, unlinked_previous, linked_next, linked_previous, moved_next, moved_previous}
use Rattle.tap_flows.specs.declared.heads.TheConstants.{CHAIN_HEADS}
use Rattle.tap_flows.specs.Heads.{bucket_head, free_head}
use Rattle.tap_flows.specs.Nodes.{flow_of, contents, kept_at, chain_home, age_home, time_of, IsRising, AreSound, IsSound}
use Rattle.tap_flows.specs.declared.table.Entry.{Entry}
use Rattle.tap_flows.specs.declared.table.Table.{Table}
use Rattle.tap_flows.proofs.RingLemmas.{at, times_head, times-append, times_split, rings_same, rings_unlink, rings_link, rings_move, node_is, once_in_ring, linked_first, length_each}
use Rattle.tap_flows.proofs.NodeLemmas.{kept_within, kept_set_same, kept_set_other, distinct_without, distinct_with, IsOnly, IsOther, get_at, contents_put, contents_take, len_put_new, len_put_old, len_take}
use Rattle.tap_flows.proofs.AgeLemmas.{rising_without, rising_push, rising_same}

-- a node that is by age keeps a flow
pub keeps : (limit : ℕ) (nodes : List (Option Entry)) (n : ℕ) → 0 < limit → age_home limit nodes n ≡ limit → (entry : Entry) × (kept_at nodes n ≡ Some entry)
keeps limit nodes n some is = elim (kept_at nodes n) as (λ o. kept_at nodes n ≡ o → option_map_or {T = Entry} {U = ℕ} (λ _. limit) o 0 ≡ limit → (entry : Entry) × (kept_at nodes n ≡ Some entry)) [
  | None ↦ λ e h. absurd (omega arith)
  | Some entry ↦ λ e h. (entry, e)
] refl is

-- a node's chain is a bucket's, or the free one
pub home_range : (limit : ℕ) (nodes : List (Option Entry)) (n : ℕ) → (limit ≤ chain_home limit nodes n) × (chain_home limit nodes n < limit + CHAIN_HEADS)
home_range limit nodes n = elim (kept_at nodes n) as (λ o. (limit ≤ option_map_or (λ (entry : Entry). bucket_head limit entry.hash) o (free_head limit)) × (option_map_or (λ (entry : Entry). bucket_head limit entry.hash) o (free_head limit) < limit + CHAIN_HEADS)) [
  | None ↦ (omega arith, omega arith)
  | Some entry ↦ (omega arith, omega arith)
]

-- a node of the free chain keeps nothing
pub is_free : (limit : ℕ) (nodes : List (Option Entry)) (n : ℕ) → chain_home limit nodes n ≡ (free_head limit) → kept_at nodes n ≡ None
is_free limit nodes n is = elim (kept_at nodes n) as (λ o. kept_at nodes n ≡ o → option_map_or (λ (entry : Entry). bucket_head limit entry.hash) o (free_head limit) ≡ (free_head limit) → kept_at nodes n ≡ None) [
  | None ↦ λ e h. e
  | Some entry ↦ λ e h. absurd (omega arith)
] refl is

-- what is said of a node once it keeps something else
module _ (limit : ℕ) (nodes : List (Option Entry)) (n : ℕ) (kept : Option Entry) (within : n < length nodes) where
  chain_home_set : chain_home limit (set nodes n kept) n ≡ option_map_or (λ (entry : Entry). bucket_head limit entry.hash) kept (free_head limit)
  chain_home_set = ap (λ o. option_map_or (λ (entry : Entry). bucket_head limit entry.hash) o (free_head limit)) (kept_set_same nodes n kept within)

  age_home_set : age_home limit (set nodes n kept) n ≡ option_map_or (λ (_ : Entry). limit) kept 0
  age_home_set = ap (λ o. option_map_or (λ (_ : Entry). limit) o 0) (kept_set_same nodes n kept within)

  time_set : time_of (set nodes n kept) n ≡ option_map_or (λ (entry : Entry). entry.updated) kept 0
  time_set = ap (λ o. option_map_or (λ (entry : Entry). entry.updated) o 0) (kept_set_same nodes n kept within)

  chain_home_other : (k : ℕ) → k ≢ n → chain_home limit (set nodes n kept) k ≡ chain_home limit nodes k
  chain_home_other k apart = ap (λ o. option_map_or (λ (entry : Entry). bucket_head limit entry.hash) o (free_head limit)) (kept_set_other nodes n k kept apart)

  age_home_other : (k : ℕ) → k ≢ n → age_home limit (set nodes n kept) k ≡ age_home limit nodes k
  age_home_other k apart = ap (λ o. option_map_or (λ (_ : Entry). limit) o 0) (kept_set_other nodes n k kept apart)

  time_other : (k : ℕ) → k ≢ n → time_of (set nodes n kept) k ≡ time_of nodes k
  time_other k apart = ap (λ o. option_map_or (λ (entry : Entry). entry.updated) o 0) (kept_set_other nodes n k kept apart)

-- the one head of the ring by age has the one chain
one_chain : (limit : ℕ) (ages : List ℕ) (chain : ℕ → List ℕ) (head : ℕ) → limit ≤ head → head < limit + 1 → with_chain limit ages chain head ≡ ages
one_chain limit ages chain head low high = ap (λ b. cond b ages (chain head)) (eq-eqb head limit (omega arith))

module _ (limit : ℕ) (nodes : List (Option Entry)) (cn cp an ap' : List ℕ) (count : ℕ) (ages : List ℕ) (s : AreSound limit nodes cn cp an ap' count ages) where
  -- what is known of a node that is by age
  pub aged_node : (n : ℕ) → 0 < times n ages → (n < limit) × (entry : Entry) × (kept_at nodes n ≡ Some entry)
  aged_node n some = let inside = s.aged.inside limit n (omega arith) (omega arith) some in let kept = keeps limit nodes n (omega (arith, inside.0)) inside.1 in (inside.0, kept.0, kept.1)

  pub once_aged : (n : ℕ) → times n ages ≤ 1
  once_aged n = omega (arith, once_in_ring an ap' limit 1 (λ _. ages) (age_home limit nodes) s.aged limit n (omega arith) (omega arith))

  -- a node that keeps a flow is by age
  pub is_aged : (n : ℕ) (entry : Entry) → kept_at nodes n ≡ Some entry → 0 < times n ages
  is_aged n entry kept =
      let within = kept_within nodes n entry kept in
      let home : age_home limit nodes n ≡ limit = ap (λ o. option_map_or (λ (_ : Entry). limit) o 0) kept in
      omega (arith, s.aged.once limit n (omega arith) (omega arith) (omega (arith, s.sized)) home)

  -- and its time is at most now
  pub time_before : (now : ℕ) → IsNotBefore now (contents nodes) → (k : ℕ) → 0 < times k ages → time_of nodes k ≤ now
  time_before now before k some =
      let node = aged_node k some in
      let found = get_at nodes k node.1 s.distinct node.2 in
      let old : node.1.updated ≤ now = subst (λ o. IfSome o (λ (flow : Flow). flow.updated ≤ now)) found (before node.1.hash) in
      let time : time_of nodes k ≡ node.1.updated = ap (λ o. option_map_or (λ (entry : Entry). entry.updated) o 0) node.2 in
      omega arith

  -- a node's chain, cut before and behind the node
  pub chain_split : (n : ℕ) → n < limit → (xs : List ℕ) × (ys : List ℕ) × (s.chain (chain_home limit nodes n) ≡ xs ++ n ∷ ys)
  chain_split n node =
      let range = home_range limit nodes n in
      times_split n (s.chain (chain_home limit nodes n)) (omega (arith, s.chains.once (chain_home limit nodes n) n range.0 range.1 node refl))

-- the place where a list by age is cut
module _ (limit : ℕ) (nodes : List (Option Entry)) (cn cp an ap' : List ℕ) (count : ℕ) (xs : List ℕ) (n : ℕ) (ys : List ℕ) (s : AreSound limit nodes cn cp an ap' count (xs ++ n ∷ ys)) where
  cut_count : (k : ℕ) → times k (xs ++ n ∷ ys) ≡ times k xs + times k (n ∷ ys)
  cut_count k = times-append k xs (n ∷ ys)

  cut_some : 0 < times n (xs ++ n ∷ ys)
  cut_some = omega (arith, cut_count n, times_head n ys)

  pub cut_node : (n < limit) × (entry : Entry) × (kept_at nodes n ≡ Some entry)
  cut_node = aged_node limit nodes cn cp an ap' count (xs ++ n ∷ ys) s n cut_some

  cut_within : n < length nodes
  cut_within = omega (arith, s.sized, cut_node.0)

  cut_others : (k : ℕ) → 0 < times k (xs ++ ys) → (k ≢ n) × (0 < times k (xs ++ n ∷ ys))
  cut_others k some =
      let sum = times-append k xs ys in (
        λ e. let same : times k (xs ++ ys) ≡ times n (xs ++ ys) = ap (λ z. times z (xs ++ ys)) e in absurd (omega (arith, once_aged limit nodes cn cp an ap' count (xs ++ n ∷ ys) s n, cut_count n, times-append n xs ys, times_head n ys)),
        omega (arith, cut_count k),
      )

  cut_length : length (xs ++ ys) + 1 ≡ count
  cut_length = omega (arith, s.counted, length-append xs (n ∷ ys), length-append xs ys)

  cut_rising : (kept : Option Entry) → IsRising (time_of (set nodes n kept)) (xs ++ ys)
  cut_rising kept = rising_same (time_of nodes) (time_of (set nodes n kept)) (xs ++ ys) (λ k some. time_other limit nodes n kept cut_within k (cut_others k some).0) (rising_without (time_of nodes) xs n ys s.rising)

  -- a table without one of its flows
  pub sound_without : AreSound limit (set nodes n None) (moved_next cn cp n (free_head limit)) (moved_previous cn cp n (free_head limit)) (unlinked_next an ap' n) (unlinked_previous an ap' n) (count - 1) (xs ++ ys)
  sound_without =
      let range = home_range limit nodes n in
      let parts = chain_split limit nodes cn cp an ap' count (xs ++ n ∷ ys) s n cut_node.0 in
      let entry : Entry = cut_node.1 in
      let gone : age_home limit (set nodes n None) n < limit = omega (arith, cut_node.0, age_home_set limit nodes n None cut_within) in
      let out = rings_unlink an ap' limit 1 (λ _. xs ++ n ∷ ys) (age_home limit nodes) s.aged limit (omega arith) (omega arith) xs n ys refl (age_home limit (set nodes n None)) gone (age_home_other limit nodes n None cut_within) in
      record {
        sized = length-set nodes n None ∙ s.sized;
        chain = with_chain (free_head limit) (with_chain (chain_home limit nodes n) (parts.0 ++ parts.1) s.chain (free_head limit) ++ n ∷ []) (with_chain (chain_home limit nodes n) (parts.0 ++ parts.1) s.chain);
        chains = rings_move cn cp limit CHAIN_HEADS s.chain (chain_home limit nodes) s.chains (chain_home limit nodes n) range.0 range.1 parts.0 n parts.1 parts.2 (free_head limit) (omega arith) (omega arith) (chain_home limit (set nodes n None)) (chain_home_set limit nodes n None cut_within) (chain_home_other limit nodes n None cut_within);
        aged = rings_same (unlinked_next an ap' n) (unlinked_previous an ap' n) limit 1 (with_chain limit (xs ++ ys) (λ _. xs ++ n ∷ ys)) (age_home limit (set nodes n None)) out (λ _. xs ++ ys) (age_home limit (set nodes n None)) (λ head low high. sym (one_chain limit (xs ++ ys) (λ _. xs ++ n ∷ ys) head low high)) (λ k _. refl);
        rising = cut_rising None;
        counted = omega (arith, cut_length);
        filled = ap len (contents_take nodes n cut_node.1 s.distinct cut_node.2) ∙ len_take nodes cut_node.1.hash (flow_of cut_node.1) (get_at nodes n cut_node.1 s.distinct cut_node.2) ∙ ap (λ c. c - 1) s.filled;
        distinct = distinct_without nodes n cut_within s.distinct;
      }

  -- a table with one of its flows replaced by one of the same hash
  pub sound_renewed : (entry old : Entry) → kept_at nodes n ≡ Some old → old.hash ≡ entry.hash → IsNotBefore entry.updated (contents nodes) → AreSound limit (set nodes n (Some entry)) cn cp (moved_next an ap' n limit) (moved_previous an ap' n limit) count ((xs ++ ys) ++ n ∷ [])
  sound_renewed entry old kept same before =
      let home_n : age_home limit (set nodes n (Some entry)) n ≡ limit = age_home_set limit nodes n (Some entry) cut_within in
      let moved = rings_move an ap' limit 1 (λ _. xs ++ n ∷ ys) (age_home limit nodes) s.aged limit (omega arith) (omega arith) xs n ys refl limit (omega arith) (omega arith) (age_home limit (set nodes n (Some entry))) home_n (age_home_other limit nodes n (Some entry) cut_within) in
      let inner : with_chain limit (xs ++ ys) (λ _. xs ++ n ∷ ys) limit ≡ xs ++ ys = one_chain limit (xs ++ ys) (λ _. xs ++ n ∷ ys) limit (omega arith) (omega arith) in
      let only : IsOnly nodes n entry.hash = λ m other is clash. s.distinct m n other old is kept (clash ∙ sym same) in
      record {
        sized = length-set nodes n (Some entry) ∙ s.sized;
        chain = s.chain;
        chains = rings_same cn cp limit CHAIN_HEADS s.chain (chain_home limit nodes) s.chains s.chain (chain_home limit (set nodes n (Some entry))) (λ head low high. refl) (λ k below. elim (cases_eq k n) [
          | inl e ↦ ap (chain_home limit (set nodes n (Some entry))) e ∙ chain_home_set limit nodes n (Some entry) cut_within ∙ ap (bucket_head limit) (sym same) ∙ sym (ap (λ o. option_map_or (λ (entry : Entry). bucket_head limit entry.hash) o (free_head limit)) kept) ∙ ap (chain_home limit nodes) (sym e)
          | inr apart ↦ chain_home_other limit nodes n (Some entry) cut_within k apart
        ]);
        aged = rings_same (moved_next an ap' n limit) (moved_previous an ap' n limit) limit 1 (with_chain limit (with_chain limit (xs ++ ys) (λ _. xs ++ n ∷ ys) limit ++ n ∷ []) (with_chain limit (xs ++ ys) (λ _. xs ++ n ∷ ys))) (age_home limit (set nodes n (Some entry))) moved (λ _. (xs ++ ys) ++ n ∷ []) (age_home limit (set nodes n (Some entry)))
            (λ head low high. sym (one_chain limit (with_chain limit (xs ++ ys) (λ _. xs ++ n ∷ ys) limit ++ n ∷ []) (with_chain limit (xs ++ ys) (λ _. xs ++ n ∷ ys)) head low high ∙ ap (λ l. l ++ n ∷ []) inner)) (λ k _. refl);
        rising = rising_push (time_of (set nodes n (Some entry))) (xs ++ ys) n (cut_rising (Some entry)) (λ k some.
            let other = cut_others k some in
            let old_time = time_before limit nodes cn cp an ap' count (xs ++ n ∷ ys) s entry.updated before k other.1 in
            omega (arith, time_other limit nodes n (Some entry) cut_within k other.0, time_set limit nodes n (Some entry) cut_within));
        counted = length-append (xs ++ ys) (n ∷ []) ∙ omega (arith, cut_length);
        filled = ap len (contents_put nodes n entry cut_within s.distinct only (λ hash apart other is clash. let is_old : other ≡ old = let a = kept in cc in apart (sym clash ∙ ap (λ (e : Entry). e.hash) is_old ∙ same))) ∙ len_put_old nodes entry.hash (flow_of entry) (flow_of old) (ap (get (contents nodes)) (sym same) ∙ get_at nodes n old s.distinct kept) ∙ s.filled;
        distinct = distinct_with nodes n entry cut_within s.distinct only;
      }

module _ (limit : ℕ) (nodes : List (Option Entry)) (cn cp an ap' : List ℕ) (count : ℕ) (ages : List ℕ) (s : AreSound limit nodes cn cp an ap' count ages) where
  -- while there are fewer flows than nodes, a node is free
  pub free_node : count < limit → (zs : List ℕ) × (s.chain (free_head limit) ≡ at cn (free_head limit) ∷ zs)
  free_node room =
      let first = linked_first cn cp (free_head limit) (s.chain (free_head limit)) (free_head limit) (s.chains.ring (free_head limit) (omega arith) (omega arith)) in
      elim (s.chain (free_head limit)) as (λ l. s.chain (free_head limit) ≡ l → (zs : List ℕ) × (l ≡ at cn (free_head limit) ∷ zs)) [
        | [] ↦ λ empty. absurd (
            let all : limit ≤ length ages = length_each limit ages (λ k below. elim (kept_at nodes k) as (λ o. kept_at nodes k ≡ o → 0 < times k ages) [
              | None ↦ λ kept.
                  let home : chain_home limit nodes k ≡ (free_head limit) = ap (λ o. option_map_or (λ (entry : Entry). bucket_head limit entry.hash) o (free_head limit)) kept in
                  let once = s.chains.once (free_head limit) k (omega arith) (omega arith) below home in
                  let none : times k (s.chain (free_head limit)) ≡ 0 = ap (times k) empty in
                  absurd (omega arith)
              | Some entry ↦ λ kept. is_aged limit nodes cn cp an ap' count ages s k entry kept
            ] refl) in
            omega (arith, s.counted))
        | z ∷ zs ↦ λ chain. (zs, ap (λ y. y ∷ zs) (sym (first ∙ ap (λ l. get_or l 0 (free_head limit)) chain)))
      ] refl

  -- the free node that is taken first
  pub free_place : count < limit → (at cn (free_head limit) < limit) × (kept_at nodes (at cn (free_head limit)) ≡ None)
  free_place room =
      let free = free_node room in
      let node = node_is cn cp limit CHAIN_HEADS s.chain (chain_home limit nodes) s.chains (free_head limit) (omega arith) (omega arith) [] (at cn (free_head limit)) free.0 free.1 in
      (node.0, is_free limit nodes (at cn (free_head limit)) node.1)

  -- no node keeps a hash that isn't there
  pub none_keeps : (hash : ℕ) → get (contents nodes) hash ≡ None → (m : ℕ) → IsOther hash (kept_at nodes m)
  none_keeps hash none m other is same =
      let found : get (contents nodes) hash ≡ Some (flow_of other) = ap (get (contents nodes)) (sym same) ∙ get_at nodes m other s.distinct is in
      cc

  -- a table with a new flow
  pub sound_with : (entry : Entry) → count < limit → get (contents nodes) entry.hash ≡ None → IsNotBefore entry.updated (contents nodes) → AreSound limit (set nodes (at cn (free_head limit)) (Some entry)) (moved_next cn cp (at cn (free_head limit)) (bucket_head limit entry.hash)) (moved_previous cn cp (at cn (free_head limit)) (bucket_head limit entry.hash)) (linked_next an ap' (at cn (free_head limit)) limit) (linked_previous an ap' (at cn (free_head limit)) limit) (count + 1) (ages ++ at cn (free_head limit) ∷ [])
  sound_with entry room none before =
      let n : ℕ = at cn (free_head limit) in
      let free = free_node room in
      let place = free_place room in
      let within : at cn (free_head limit) < length nodes = omega (arith, s.sized, place.0) in
      let unaged : age_home limit nodes (at cn (free_head limit)) ≡ 0 = ap (λ o. option_map_or {T = Entry} {U = ℕ} (λ _. limit) o 0) place.1 in
      let away : age_home limit nodes (at cn (free_head limit)) < limit = omega arith in
      let bucket_low : limit ≤ bucket_head limit entry.hash = omega arith in
      let bucket_high : bucket_head limit entry.hash < limit + CHAIN_HEADS = omega arith in
      let only : IsOnly nodes (at cn (free_head limit)) entry.hash = λ m other is same. absurd (none_keeps entry.hash none m other is same) in
      let not_aged : (k : ℕ) → 0 < times k ages → k ≢ at cn (free_head limit) = λ k some e. let kept = aged_node limit nodes cn cp an ap' count ages s k some in let is : kept_at nodes k ≡ kept_at nodes (at cn (free_head limit)) = ap (kept_at nodes) e in let a = kept.2 in let b = place.1 in cc in
      let aged = rings_link an ap' limit 1 (λ _. ages) (age_home limit nodes) s.aged limit (omega arith) (omega arith) (at cn (free_head limit)) place.0 away (age_home limit (set nodes (at cn (free_head limit)) (Some entry))) (age_home_set limit nodes (at cn (free_head limit)) (Some entry) within) (age_home_other limit nodes (at cn (free_head limit)) (Some entry) within) in
      record {
        sized = length-set nodes (at cn (free_head limit)) (Some entry) ∙ s.sized;
        chain = with_chain (bucket_head limit entry.hash) (with_chain (free_head limit) free.0 s.chain (bucket_head limit entry.hash) ++ at cn (free_head limit) ∷ []) (with_chain (free_head limit) free.0 s.chain);
        chains = rings_move cn cp limit CHAIN_HEADS s.chain (chain_home limit nodes) s.chains (free_head limit) (omega arith) (omega arith) [] (at cn (free_head limit)) free.0 free.1 (bucket_head limit entry.hash) bucket_low bucket_high (chain_home limit (set nodes (at cn (free_head limit)) (Some entry))) (chain_home_set limit nodes (at cn (free_head limit)) (Some entry) within) (chain_home_other limit nodes (at cn (free_head limit)) (Some entry) within);
        aged = rings_same (linked_next an ap' (at cn (free_head limit)) limit) (linked_previous an ap' (at cn (free_head limit)) limit) limit 1 (with_chain limit (ages ++ at cn (free_head limit) ∷ []) (λ _. ages)) (age_home limit (set nodes (at cn (free_head limit)) (Some entry))) aged (λ _. ages ++ at cn (free_head limit) ∷ []) (age_home limit (set nodes (at cn (free_head limit)) (Some entry))) (λ head low high. sym (one_chain limit (ages ++ at cn (free_head limit) ∷ []) (λ _. ages) head low high)) (λ k _. refl);
        rising = rising_push (time_of (set nodes (at cn (free_head limit)) (Some entry))) ages (at cn (free_head limit)) (rising_same (time_of nodes) (time_of (set nodes (at cn (free_head limit)) (Some entry))) ages (λ k some. time_other limit nodes (at cn (free_head limit)) (Some entry) within k (not_aged k some)) s.rising) (λ k some.
            let old = time_before limit nodes cn cp an ap' count ages s entry.updated before k some in
            omega (arith, time_other limit nodes (at cn (free_head limit)) (Some entry) within k (not_aged k some), time_set limit nodes (at cn (free_head limit)) (Some entry) within));
        counted = length-append ages (at cn (free_head limit) ∷ []) ∙ omega (arith, s.counted);
        filled = ap len (contents_put nodes (at cn (free_head limit)) entry within s.distinct only (λ hash apart other is clash. let a = place.1 in cc)) ∙ len_put_new nodes entry.hash (flow_of entry) none ∙ ap (λ c. c + 1) s.filled;
        distinct = distinct_with nodes (at cn (free_head limit)) entry within s.distinct only;
      }

  -- and its flows
  pub contents_with : (entry : Entry) → count < limit → get (contents nodes) entry.hash ≡ None → contents (set nodes (at cn (free_head limit)) (Some entry)) ≡ insert (contents nodes) entry.hash (flow_of entry)
  contents_with entry room none =
      let place = free_place room in
      let within : at cn (free_head limit) < length nodes = omega (arith, s.sized, place.0) in
      contents_put nodes (at cn (free_head limit)) entry within s.distinct (λ m other is same. absurd (none_keeps entry.hash none m other is same)) (λ hash apart other is clash. let a = place.1 in cc)

  -- a table with a flow renewed
  pub renewed : (n : ℕ) (entry old : Entry) → kept_at nodes n ≡ Some old → old.hash ≡ entry.hash → IsNotBefore entry.updated (contents nodes) → (ages' : List ℕ) × AreSound limit (set nodes n (Some entry)) cn cp (moved_next an ap' n limit) (moved_previous an ap' n limit) count ages'
  renewed n entry old kept same before =
      let parts = times_split n ages (is_aged limit nodes cn cp an ap' count ages s n old kept) in
      let cut : AreSound limit nodes cn cp an ap' count (parts.0 ++ n ∷ parts.1) = subst (AreSound limit nodes cn cp an ap' count) parts.2 s in
      ((parts.0 ++ parts.1) ++ n ∷ [], sound_renewed limit nodes cn cp an ap' count parts.0 n parts.1 cut entry old kept same before)

  pub contents_renewed : (n : ℕ) (entry old : Entry) → kept_at nodes n ≡ Some old → old.hash ≡ entry.hash → contents (set nodes n (Some entry)) ≡ insert (contents nodes) entry.hash (flow_of entry)
  contents_renewed n entry old kept same =
      contents_put nodes n entry (kept_within nodes n old kept) s.distinct (λ m other is clash. s.distinct m n other old is kept (clash ∙ sym same)) (λ hash apart other is clash. let is_old : other ≡ old = cc in apart (sym clash ∙ ap (λ (e : Entry). e.hash) is_old ∙ same))

-- a sound table under other words
pub sound_by : (limit : ℕ) (nodes nodes' : List (Option Entry)) (cn cn' cp cp' an an' ap' ap'' : List ℕ) (count count' : ℕ) (ages : List ℕ) → AreSound limit nodes cn cp an ap' count ages → nodes' ≡ nodes → cn' ≡ cn → cp' ≡ cp → an' ≡ an → ap'' ≡ ap' → count' ≡ count → AreSound limit nodes' cn' cp' an' ap'' count' ages
sound_by limit nodes nodes' cn cn' cp cp' an an' ap' ap'' count count' ages s e1 e2 e3 e4 e5 e6 =
    subst (λ z. AreSound limit z cn' cp' an' ap'' count' ages) (sym e1)
    (subst (λ z. AreSound limit nodes z cp' an' ap'' count' ages) (sym e2)
    (subst (λ z. AreSound limit nodes cn z an' ap'' count' ages) (sym e3)
    (subst (λ z. AreSound limit nodes cn cp z ap'' count' ages) (sym e4)
    (subst (λ z. AreSound limit nodes cn cp an z count' ages) (sym e5)
    (subst (λ z. AreSound limit nodes cn cp an ap' z ages) (sym e6) s)))))

-- how long a sound table's lists are
pub record Sizes (table : Table) : Type 0 where
  pub nodes : length table.nodes.items ≡ table.limit.nodes
  pub chains : length table.chains.next.items ≡ table.limit.nodes + CHAIN_HEADS
  pub ages : length table.ages.next.items ≡ table.limit.nodes + 1

pub sizes : (table : Table) (ages : List ℕ) → IsSound table ages → Sizes table
sizes table ages s = record { nodes = s.sized; chains = s.chains.next_sized; ages = s.aged.next_sized }

-- what is kept, where it passes
pub kept_entry : (kept : Option Entry) (P : Entry → Type 0) → IsSomeAnd kept P → (entry : Entry) × (kept ≡ Some entry) × P entry
kept_entry None P h = absurd h
kept_entry (Some entry) P h = (entry, refl, h)

-- the first by age
pub oldest : (table : Table) (ages : List ℕ) → IsSound table ages → 0 < table.len → (behind : List ℕ) × (ages ≡ at table.ages.next.items table.limit.nodes ∷ behind)
oldest table [] s some = absurd (omega (arith, s.counted))
oldest table (first ∷ behind) s some =
    let is = linked_first table.ages.next.items table.ages.previous.items table.limit.nodes (first ∷ behind) table.limit.nodes (s.aged.ring table.limit.nodes (omega arith) (omega arith)) in
    (behind, ap (λ n. n ∷ behind) (sym is))
