-- Lemmas about walks along rings, and about a table in which nothing is kept.
use Rattle.std.proofs.Common.{◌≡◌, ◌≢◌, ℕ, ◌+◌, ◌<◌, ◌≤◌, cond, eqb, ltb, not, suc, List, [], ◌∷◌, ◌++◌, length, get_or, set, Option, None, Some, IsSomeAnd, sym, ap, subst, ◌∙◌, inl, inr, refl, arith, append_assoc}
use Rattle.std.specs.Option.{option_map_or}
use Rattle.std.specs.FinMap.{get, empty, len, len-empty}
use Rattle.std.specs.Ordering.{nat_cmp}
use Rattle.std.proofs.lemmas.Bool.{eq-eqb, ne_eqb, lt-ltb, le-ltb, cases_eq, cases_lt}
use Rattle.std.proofs.lemmas.List.{get_or_past}
use Rattle.tap_flows.specs.Flow.{Flow}
use Rattle.tap_flows.specs.Flows.{forgotten, ticked}
use Rattle.tap_ground.specs.Lists.{times}
use Rattle.tap_flows.specs.Rings.{AreAlone, linked_next, linked_previous, with_chain}
use Rattle.tap_flows.specs.declared.heads.TheConstants.{CHAIN_HEADS}
use Rattle.tap_flows.specs.Heads.{bucket_head, free_head}
use Rattle.tap_flows.specs.Nodes.{contents, kept_at, chain_home, age_home, time_of, AreDistinct, AreSound, IsSound, KeepsHash, KeepsIndex, KeepsStale, IsWalked, AreNone, AreFree}
use Rattle.tap_flows.specs.declared.table.Entry.{Entry}
use Rattle.tap_flows.specs.declared.table.Table.{Table}
use Rattle.tap_flows.proofs.RingLemmas.{at, times_head, times_other, times-append, times_at, place_of, linked_first, linked_at, linked_split, length_once, once_in_ring, rings_alone, rings_same, rings_link}
use Rattle.tap_flows.proofs.NodeLemmas.{IsOther, kept_set_other, get_none}
use Rattle.tap_flows.proofs.AgeLemmas.{each_from, each_at, each_append}
use Rattle.tap_flows.proofs.TableLemmas.{aged_node, once_aged, is_aged, kept_entry, oldest}
use Rattle.tap_flows.proofs.PassLemmas.{passing_take, passing_kept}

-- nothing is kept
contents_none : (nodes : List (Option Entry)) → AreNone nodes → contents nodes ≡ empty
contents_none [] none = refl
contents_none (None ∷ nodes) none = contents_none nodes (λ node. none (suc node))
contents_none (Some entry ∷ nodes) none = let clash = none 0 in absurd cc

-- a table in which nothing is kept
pub sound_new : (limit : ℕ) (nodes : List (Option Entry)) (cn cp an ap' : List ℕ) → length nodes ≡ limit → AreNone nodes → AreFree limit cn cp limit → AreAlone an (limit + 1) → AreAlone ap' (limit + 1) → AreSound limit nodes cn cp an ap' 0 []
sound_new limit nodes cn cp an ap' sized none free alone_next alone_previous = record {
  sized = sized;
  chain = free.0;
  chains = rings_same cn cp limit CHAIN_HEADS free.0 (λ node. cond (ltb node limit) (free_head limit) node) free.1 free.0 (chain_home limit nodes) (λ head low high. refl) (λ k below. ap (λ o. option_map_or (λ (entry : Entry). bucket_head limit entry.hash) o (free_head limit)) (none k) ∙ sym (ap (λ b. cond b (free_head limit) k) (lt-ltb k limit below)));
  aged = rings_alone an ap' limit 1 (age_home limit nodes) (λ k below. let home : age_home limit nodes k ≡ 0 = ap (λ o. option_map_or {T = Entry} {U = ℕ} (λ _. limit) o 0) (none k) in omega arith) alone_next alone_previous;
  rising = tt;
  counted = refl;
  filled = ap len (contents_none nodes none) ∙ len-empty nat_cmp Flow;
  distinct = λ i j a b at_i at_j same. let clash = none i in absurd cc;
}

pub contents_new : (nodes : List (Option Entry)) → AreNone nodes → contents nodes ≡ empty
contents_new nodes none = contents_none nodes none

-- places that are alone are free rings of nothing
pub free_none : (limit : ℕ) (cn cp : List ℕ) → AreAlone cn (limit + CHAIN_HEADS) → AreAlone cp (limit + CHAIN_HEADS) → AreFree limit cn cp 0
free_none limit cn cp next previous = (λ _. [], rings_alone cn cp limit CHAIN_HEADS (λ node. cond (ltb node 0) (free_head limit) node) (λ k below. omega (arith, ap (λ b. cond b (free_head limit) k) (le-ltb k 0 (omega arith)))) next previous)

-- one more free node
pub free_more : (limit : ℕ) (cn cp : List ℕ) (n : ℕ) → n < limit → AreFree limit cn cp n → AreFree limit (linked_next cn cp n (free_head limit)) (linked_previous cn cp n (free_head limit)) (n + 1)
free_more limit cn cp n below free =
    let away : cond (ltb n n) (free_head limit) n < limit = omega (arith, ap (λ b. cond b (free_head limit) n) (le-ltb n n (omega arith))) in (
      with_chain (free_head limit) (free.0 (free_head limit) ++ n ∷ []) free.0,
      rings_link cn cp limit CHAIN_HEADS free.0 (λ node. cond (ltb node n) (free_head limit) node) free.1 (free_head limit) (omega arith) (omega arith) n below away (λ node. cond (ltb node (n + 1)) (free_head limit) node) (ap (λ b. cond b (free_head limit) n) (lt-ltb n (n + 1) (omega arith))) (λ k apart. elim (cases_lt k n) [
        | inl less ↦ ap (λ b. cond b (free_head limit) k) (lt-ltb k (n + 1) (omega arith)) ∙ sym (ap (λ b. cond b (free_head limit) k) (lt-ltb k n less))
        | inr more ↦ ap (λ b. cond b (free_head limit) k) (le-ltb k (n + 1) (omega arith)) ∙ sym (ap (λ b. cond b (free_head limit) k) (le-ltb k n more))
      ]),
    )

-- a bucket's ring as it is walked: the place of this step, and other hashes before it
pub record IsSearched (table : Table) (hash head place step : ℕ) (chain : List ℕ) : Type 0 where
  pub here : place ≡ get_or chain step head
  pub others : (k : ℕ) → k < step → k < length chain → IsOther hash (kept_at table.nodes.items (get_or chain k head))

module _ (table : Table) (ages : List ℕ) (s : IsSound table ages) (hash head place step : ℕ) (head_is : head ≡ bucket_head table.limit.nodes hash) (w : IsSearched table hash head place step (s.chain head)) where
  low : table.limit.nodes ≤ head
  low = omega arith

  high : head < table.limit.nodes + CHAIN_HEADS
  high = omega arith

  -- before its end a node stands there
  pub searched_node : place ≢ head → (step < length (s.chain head)) × (place < table.limit.nodes)
  searched_node apart = elim (cases_lt step (length (s.chain head))) [
    | inl within ↦
        let inside = s.chains.inside head (get_or (s.chain head) step head) low high (times_at (s.chain head) step head within) in
        (within, omega (arith, inside.0, w.here))
    | inr past ↦ absurd (apart (w.here ∙ get_or_past (s.chain head) step head past))
  ]

  -- and the next place is that of the next step
  pub searched_more : place ≢ head → (¬ KeepsHash table.nodes.items hash place) → (next : ℕ) → next ≡ at table.chains.next.items place → IsSearched table hash head next (step + 1) (s.chain head)
  searched_more apart other next is =
      let node = searched_node apart in
      record {
        here = is ∙ ap (at table.chains.next.items) w.here ∙ linked_at table.chains.next.items table.chains.previous.items head (s.chain head) head (s.chains.ring head low high) step node.0;
        others = λ k before within entry kept same. elim (cases_lt k step) [
          | inl earlier ↦ w.others k earlier within entry kept same
          | inr now ↦
              let here : k ≡ step = omega arith in
              other (let o : kept_at table.nodes.items place ≡ Some entry = ap (kept_at table.nodes.items) (w.here ∙ ap (λ i. get_or (s.chain head) i head) (sym here)) ∙ kept in
              subst (λ z. IsSomeAnd z (λ (e : Entry). e.hash ≡ hash)) (sym o) same)
        ];
      }

  -- once the ring is walked over, the hash isn't there
  walked_over : length (s.chain head) ≤ step → get (contents table.nodes.items) hash ≡ None
  walked_over past = get_none table.nodes.items hash (λ m entry kept same.
      let aged = is_aged _ _ _ _ _ _ _ ages s m entry kept in
      let node = aged_node _ _ _ _ _ _ _ ages s m aged in
      let home : chain_home table.limit.nodes table.nodes.items m ≡ head = ap (λ o. option_map_or (λ (e : Entry). bucket_head table.limit.nodes e.hash) o (free_head table.limit.nodes)) kept ∙ ap (bucket_head table.limit.nodes) same ∙ sym head_is in
      let stands = s.chains.once head m low high node.0 home in
      let found = place_of m (s.chain head) head (omega arith) in
      w.others found.0 (omega (arith, found.1)) found.1 entry (ap (kept_at table.nodes.items) found.2 ∙ kept) same)

  pub searched_none : place ≡ head → get (contents table.nodes.items) hash ≡ None
  searched_none is = walked_over (elim (cases_lt step (length (s.chain head))) [
    | inl within ↦
        let inside = s.chains.inside head (get_or (s.chain head) step head) low high (times_at (s.chain head) step head within) in
        absurd (omega (arith, inside.0, w.here))
    | inr past ↦ past
  ])

  -- no ring has more nodes than there are
  pub searched_all : table.limit.nodes ≤ step → get (contents table.nodes.items) hash ≡ None
  searched_all past = walked_over (omega (arith, length_once table.limit.nodes (s.chain head) (λ k some. (s.chains.inside head k low high some).0) (λ k. omega (arith, once_in_ring _ _ table.limit.nodes CHAIN_HEADS s.chain (chain_home table.limit.nodes table.nodes.items) s.chains head k low high))))

-- the place behind the first of what is left by age
pub age_next : (table : Table) (walked : List ℕ) (n : ℕ) (left : List ℕ) → IsSound table (walked ++ n ∷ left) → at table.ages.next.items n ≡ get_or left 0 table.limit.nodes
age_next table walked n left s =
    let cut = linked_split table.ages.next.items table.ages.previous.items table.limit.nodes walked n left table.limit.nodes (s.aged.ring table.limit.nodes (omega arith) (omega arith)) in
    linked_first table.ages.next.items table.ages.previous.items n left table.limit.nodes cut.1

pub age_first : (table : Table) (ages : List ℕ) → IsSound table ages → at table.ages.next.items table.limit.nodes ≡ get_or ages 0 table.limit.nodes
age_first table ages s = linked_first table.ages.next.items table.ages.previous.items table.limit.nodes ages table.limit.nodes (s.aged.ring table.limit.nodes (omega arith) (omega arith))

-- a node that stays is walked over
pub walk_past : (table : Table) (index n : ℕ) (left : List ℕ) → IsWalked table index (n ∷ left) → (¬ KeepsIndex table.nodes.items index n) → IsWalked table index left
walk_past table index n left w other = record {
  walked = w.walked ++ n ∷ [];
  sound = subst (IsSound table) (sym (append_assoc w.walked (n ∷ []) left)) w.sound;
  others = each_append (λ node. ¬ KeepsIndex table.nodes.items index node) w.walked (n ∷ []) w.others (other, tt);
}

-- a node that goes is walked over as well
pub walk_removed : (old new : Table) (index n : ℕ) (left : List ℕ) → (w : IsWalked old index (n ∷ left)) → IsSound new (w.walked ++ left) → new.nodes.items ≡ set old.nodes.items n None → IsWalked new index left
walk_removed old new index n left w sound nodes = record {
  walked = w.walked;
  sound = sound;
  others = each_from (λ node. ¬ KeepsIndex new.nodes.items index node) w.walked (λ k some keeps.
      let once = once_aged _ _ _ _ _ _ _ (w.walked ++ n ∷ left) w.sound n in
      let apart : k ≢ n = λ e. let same : times k w.walked ≡ times n w.walked = ap (λ z. times z w.walked) e in absurd (omega (arith, times-append n w.walked (n ∷ left), times_head n left)) in
      let kept : kept_at new.nodes.items k ≡ kept_at old.nodes.items k = ap (λ nodes. kept_at nodes k) nodes ∙ kept_set_other old.nodes.items n k None apart in
      each_at (λ node. ¬ KeepsIndex old.nodes.items index node) w.walked k some w.others (subst (λ o. IsSomeAnd o (λ (e : Entry). e.index ≡ index)) kept keeps));
}

-- a flow of the queue goes with the others
pub forgotten_take : (nodes new : List (Option Entry)) (index n : ℕ) → AreDistinct nodes → KeepsIndex nodes index n → new ≡ set nodes n None → forgotten (contents new) index ≡ forgotten (contents nodes) index
forgotten_take nodes new index n distinct keeps is =
    let old = kept_entry (kept_at nodes n) (λ (e : Entry). e.index ≡ index) keeps in
    ap (λ z. forgotten (contents z) index) is ∙ passing_take (λ flow. not (eqb flow.index index)) nodes n old.0 distinct old.1 (ap not (eq-eqb old.0.index index old.2))

-- once all nodes by age are walked over, the flows are those of other queues
pub forgotten_all : (table : Table) (index : ℕ) → IsWalked table index [] → forgotten (contents table.nodes.items) index ≡ contents table.nodes.items
forgotten_all table index w = passing_kept (λ flow. not (eqb flow.index index)) table.nodes.items (λ n entry kept.
    let aged = is_aged _ _ _ _ _ _ _ (w.walked ++ []) w.sound n entry kept in
    let other = each_at (λ node. ¬ KeepsIndex table.nodes.items index node) w.walked n (omega (arith, times-append n w.walked [])) w.others in
    ap not (ne_eqb entry.index index (λ same. other (subst (λ o. IsSomeAnd o (λ (e : Entry). e.index ≡ index)) (sym kept) same))))

-- a flow that is too old goes with the others
pub ticked_take : (nodes new : List (Option Entry)) (age now n : ℕ) → AreDistinct nodes → KeepsStale nodes age now n → new ≡ set nodes n None → ticked (contents new) age now ≡ ticked (contents nodes) age now
ticked_take nodes new age now n distinct keeps is =
    let old = kept_entry (kept_at nodes n) (λ (e : Entry). e.updated + age ≤ now) keeps in
    ap (λ z. ticked (contents z) age now) is ∙ passing_take (λ flow. ltb now (flow.updated + age)) nodes n old.0 distinct old.1 (le-ltb now (old.0.updated + age) old.2)

-- where the oldest isn't too old, none is
pub ticked_all : (table : Table) (age now n : ℕ) (behind : List ℕ) → IsSound table (n ∷ behind) → (¬ KeepsStale table.nodes.items age now n) → ticked (contents table.nodes.items) age now ≡ contents table.nodes.items
ticked_all table age now n behind s fresh = passing_kept (λ flow. ltb now (flow.updated + age)) table.nodes.items (λ m entry kept.
    let aged = is_aged _ _ _ _ _ _ _ (n ∷ behind) s m entry kept in
    let first = aged_node _ _ _ _ _ _ _ (n ∷ behind) s n (omega (arith, times_head n behind)) in
    let first_time : time_of table.nodes.items n ≡ first.1.updated = ap (λ o. option_map_or (λ (e : Entry). e.updated) o 0) first.2 in
    let time : time_of table.nodes.items m ≡ entry.updated = ap (λ o. option_map_or (λ (e : Entry). e.updated) o 0) kept in
    let young : now < first.1.updated + age = elim (cases_lt now (first.1.updated + age)) [
      | inl less ↦ less
      | inr old ↦ absurd (fresh (subst (λ o. IsSomeAnd o (λ (e : Entry). e.updated + age ≤ now)) (sym first.2) old))
    ] in
    let above : time_of table.nodes.items n ≤ time_of table.nodes.items m = elim (cases_eq m n) [
      | inl same ↦ let times_same : time_of table.nodes.items m ≡ time_of table.nodes.items n = ap (time_of table.nodes.items) same in omega arith
      | inr apart ↦ each_at (λ y. time_of table.nodes.items n ≤ time_of table.nodes.items y) behind m (omega (arith, times_other m n behind (λ e. apart (sym e)))) s.rising.0
    ] in
    lt-ltb now (entry.updated + age) (omega arith))

-- and where nothing is kept
pub ticked_none : (table : Table) (age now : ℕ) → IsSound table [] → ticked (contents table.nodes.items) age now ≡ contents table.nodes.items
ticked_none table age now s = passing_kept (λ flow. ltb now (flow.updated + age)) table.nodes.items (λ m entry kept. let aged = is_aged _ _ _ _ _ _ _ [] s m entry kept in absurd (omega arith))

-- while nodes by age are left, the place of the walk is the first of them
pub first_left : (table : Table) (index place : ℕ) (left : List ℕ) → IsWalked table index left → place ≡ get_or left 0 table.limit.nodes → 0 < length left → (behind : List ℕ) × IsWalked table index (place ∷ behind) × (length behind + 1 ≡ length left)
first_left table index place [] w here some = absurd (omega arith)
first_left table index place (first ∷ behind) w here some = (behind, subst (λ n. IsWalked table index (n ∷ behind)) (sym here) w, omega arith)

-- and then none is
pub none_left : (table : Table) (index : ℕ) (left : List ℕ) → IsWalked table index left → length left ≡ 0 → IsWalked table index []
none_left table index [] w none = w
none_left table index (first ∷ behind) w none = absurd (omega arith)

-- a table without flows has none by age
pub sound_none : (table : Table) (ages : List ℕ) → IsSound table ages → table.len ≡ 0 → IsSound table []
sound_none table [] s none = s
sound_none table (first ∷ behind) s none = absurd (omega (arith, s.counted))

-- one with flows has an oldest
pub sound_oldest : (table : Table) (ages : List ℕ) (place : ℕ) → IsSound table ages → 0 < table.len → place ≡ at table.ages.next.items table.limit.nodes → (behind : List ℕ) × IsSound table (place ∷ behind)
sound_oldest table ages place s some is =
    let first = oldest table ages s some in
    (first.0, subst (λ n. IsSound table (n ∷ first.0)) (sym is) (subst (IsSound table) first.1 s))

-- free nodes under other words
pub free_by : (limit : ℕ) (cn cn' cp cp' : List ℕ) (n : ℕ) → AreFree limit cn cp n → cn' ≡ cn → cp' ≡ cp → AreFree limit cn' cp' n
free_by limit cn cn' cp cp' n free e1 e2 = subst (λ z. AreFree limit z cp' n) (sym e1) (subst (λ z. AreFree limit cn z n) (sym e2) free)
