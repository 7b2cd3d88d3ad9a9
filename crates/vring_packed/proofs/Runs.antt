-- Each chain is published once and at its place, for every list of calls.
use Rattle.std.proofs.Common.{◌≡◌, ℕ, zero, suc, ◌+◌, ◌-◌, ◌^◌, ◌<◌, ◌≤◌, List, [], ◌∷◌, ◌++◌, length, map, take, drop, Option, None, Some, IsSome, IfSome, refl, sym, ap, ◌∙◌, subst, arith, append_assoc, length-append, length-take}
use Rattle.std.proofs.lemmas.List.{length-map, map-append}
use Rattle.vhost_queue.specs.Positions.{Positions, Published, IsInOrder, after, before, first_done, positions_from, published_from, with_done}
use Rattle.vhost_queue.specs.Queue.{most_gathered, most_done, room_in}
use Rattle.vhost_queue.specs.Laws.{ServesInOrder, RewindsInOrder, DoneInOrder, PublishedInOrder}
use Rattle.vring_packed.specs.declared.chain.PackedChain.{PackedChain}
use Rattle.vring_packed.specs.declared.done.PackedDone.{PackedDone}
use Rattle.vring_packed.specs.declared.fetched.PackedFetched.{PackedFetched}
use Rattle.vring_packed.specs.declared.fetched.PackedFetched.TheVariants.{Chain, Nothing, Bad, Crowded}
use Rattle.vring_packed.specs.declared.layout.PackedLayout.{PackedLayout}
use Rattle.vring_packed.specs.declared.place.Place.{Place}
use Rattle.vring_packed.specs.Packed.{place_after}
use Rattle.vring_packed.specs.Publication.{place_behind}
use Rattle.vring_packed.specs.Queue.{PackedQueue, first_queue, done_of, lists_of, chain_of, start_of, with_served, with_rewound, with_finished, with_published, IsEarliest}
use Rattle.vring_packed.specs.Calls.{Call, Fetch, Serve, Rewind, Finish, Publish, Ready, made_by, MayCall, chain_in, kept_by, used_from, used_in, used_by, made_by_all, kept_by_all, used_by_all, MayCallAll, AreOnce, EachIsOnce}
use Rattle.vring_packed.proofs.Queues.{room_left}

-- chains that were served stand one behind the other, from a place on up to the next one
abbrev StandFrom : ℕ → Place → List PackedChain → Place → Type 0
StandFrom num p [] next = p ≡ next
StandFrom num p (c ∷ cs) next = (c.place ≡ p) × StandFrom num (place_after num p c.count) cs next

-- what every call keeps
record Stands (kept used : List PackedChain) (q : PackedQueue) : Type 0 where
  each : kept ≡ used ++ (used_in q ++ q.served)
  ids : map (λ e. e.1) q.journal ≡ map (λ c. c.id) used
  along : StandFrom q.layout.num (place_behind q.layout.num q.used q.done) q.served q.next
  fetched : IfSome q.fetched (λ c. c.place ≡ q.next)
  order : IsInOrder 0 0 (lists_of q)
  few_served : length q.served ≤ most_gathered
  few_done : length q.done ≤ most_done

-- the front of a list that reaches into its last part
take_into : {X : Type 0} (xs ys : List X) (n : ℕ) → n ≤ length ys → take (length (xs ++ ys) - n) (xs ++ ys) ≡ xs ++ take (length ys - n) ys
take_into [] ys n h = refl
take_into {X = X} (x ∷ xs) ys n h =
    let len : length (xs ++ ys) ≡ length xs + length ys = length-append xs ys in
    let e : suc (length (xs ++ ys)) - n ≡ suc (length (xs ++ ys) - n) = omega (arith, len) in
    ap (λ k. take k (x ∷ (xs ++ ys))) e ∙ ap (λ (zs : List X). x ∷ zs) (take_into xs ys n h)

-- one more served, the latest ones rewound, and where the earliest stands
stand_more : (num : ℕ) (p : Place) (cs : List PackedChain) (next : Place) (c : PackedChain) → StandFrom num p cs next → c.place ≡ next
    → StandFrom num p (cs ++ c ∷ []) (place_after num next c.count)
stand_more num p [] next c h is = (is ∙ sym h, ap (λ (x : Place). place_after num x c.count) h)
stand_more num p (b ∷ bs) next c h is = (h.0, stand_more num (place_after num p b.count) bs next c h.1 is)

stand_less : (num : ℕ) (p : Place) (cs : List PackedChain) (next : Place) (k : ℕ) → StandFrom num p cs next
    → StandFrom num p (take k cs) (start_of (drop k cs) next)
stand_less num p [] next zero h = h
stand_less num p [] next (suc k) h = h
stand_less num p (c ∷ cs) next zero h = sym h.0
stand_less num p (c ∷ cs) next (suc k) h = (h.0, stand_less num (place_after num p c.count) cs next k h.1)

stand_first : (num : ℕ) (p : Place) (cs : List PackedChain) (next : Place) → StandFrom num p cs next → p ≡ start_of cs next
stand_first num p [] next h = h
stand_first num p (c ∷ cs) next h = sym h.0

-- one more that is done
used-append : (num : ℕ) (p : Place) (ds : List PackedDone) (d : PackedDone)
    → used_from num p (ds ++ d ∷ []) ≡ used_from num p ds ++ record { place = place_behind num p ds; id = d.id; count = d.count } ∷ []
used-append num p [] d = refl
used-append num p (e ∷ es) d =
    ap (λ (cs : List PackedChain). record { place = p; id = e.id; count = e.count } ∷ cs) (used-append num (place_after num p e.count) es d)

behind-append : (num : ℕ) (p : Place) (ds : List PackedDone) (d : PackedDone)
    → place_behind num p (ds ++ d ∷ []) ≡ place_after num (place_behind num p ds) d.count
behind-append num p [] d = refl
behind-append num p (e ∷ es) d = behind-append num (place_after num p e.count) es d

-- the ids of what is published
out-published : (num position : ℕ) (p : Place) (ds : List PackedDone)
    → map (λ e. e.1) (published_from position (map done_of ds)) ≡ map {B = ℕ} (λ (c : PackedChain). c.id) (used_from num p ds)
out-published num position p [] = refl
out-published num position p (d ∷ ds) = ap (λ (is : List ℕ). d.id ∷ is) (out-published num (after position 1) (place_after num p d.count) ds)

fetch_stands : (p : Place) (answer : PackedFetched) → IfSome (chain_of p answer) (λ c. c.place ≡ p)
fetch_stands p (Chain id count) = refl
fetch_stands p Nothing = tt
fetch_stands p (Bad fault) = tt
fetch_stands p Crowded = tt

serve_stands : ServesInOrder → (kept used : List PackedChain) (q : PackedQueue) (o : Option PackedChain) → length q.served < most_gathered → IsSome o
    → IfSome o (λ c. c.place ≡ q.next) → Stands kept used q → Stands (kept ++ chain_in o) used (with_served o q)
serve_stands law kept used q None few some is s = absurd (cc)
serve_stands law kept used q (Some c) few some is s = record {
  each = ap (λ (cs : List PackedChain). cs ++ c ∷ []) s.each
      ∙ append_assoc used (used_in q ++ q.served) (c ∷ [])
      ∙ ap (λ (cs : List PackedChain). used ++ cs) (append_assoc (used_in q) q.served (c ∷ []));
  ids = s.ids;
  along = stand_more q.layout.num (place_behind q.layout.num q.used q.done) q.served q.next c s.along is;
  fetched = tt;
  order = subst (λ n. IsInOrder 0 0 (record (lists_of q) { next = after q.position 1; gathered = n })) (sym one)
      (law 0 0 (lists_of q) small s.order);
  few_served = omega (arith, one, few);
  few_done = s.few_done;
}
  where
    one : length (q.served ++ c ∷ []) ≡ length q.served + 1
    one = length-append q.served (c ∷ [])

    small : length q.served + length (map done_of q.done) < 2 ^ 16
    small = let same = length-map q.done done_of in let most = s.few_done in omega (arith, same, few, most)

rewind_stands : RewindsInOrder → (kept used : List PackedChain) (q : PackedQueue) (n : ℕ) → n ≤ length q.served → Stands kept used q
    → Stands (take (length kept - n) kept) used (with_rewound n q)
rewind_stands law kept used q n fits s = record {
  each = ap (λ (cs : List PackedChain). take (length cs - n) cs) s.each
      ∙ ap (λ (cs : List PackedChain). take (length cs - n) cs) (sym (append_assoc used (used_in q) q.served))
      ∙ take_into (used ++ used_in q) q.served n fits
      ∙ append_assoc used (used_in q) (take (length q.served - n) q.served);
  ids = s.ids;
  along = stand_less q.layout.num (place_behind q.layout.num q.used q.done) q.served q.next (length q.served - n) s.along;
  fetched = tt;
  order = subst (λ k. IsInOrder 0 0 (record (lists_of q) { next = before q.position n; gathered = k })) (sym left) (law 0 0 n (lists_of q) fits s.order);
  few_served = let most = s.few_served in omega (arith, left, most);
  few_done = s.few_done;
}
  where
    left : length (take (length q.served - n) q.served) ≡ length q.served - n
    left = omega (arith, length-take (length q.served - n) q.served)

finish_stands : DoneInOrder → (kept used : List PackedChain) (q : PackedQueue) (cs : List PackedChain) (head len : ℕ) → q.served ≡ cs → IsEarliest cs head
    → 0 < room_in (lists_of q) q.reserved → Stands kept used q → Stands kept used (with_finished cs len q)
finish_stands law kept used q [] head len is first room s = absurd first
finish_stands law kept used q (c ∷ cs) head len is first room s = record {
  each = s.each
      ∙ ap (λ (xs : List PackedChain). used ++ (used_in q ++ xs)) is
      ∙ ap (λ (xs : List PackedChain). used ++ xs) (sym (append_assoc (used_in q) (c ∷ []) cs))
      ∙ ap (λ (p : Place). used ++ ((used_in q ++ record { place = p; id = c.id; count = c.count } ∷ []) ++ cs)) at.0
      ∙ ap (λ (xs : List PackedChain). used ++ (xs ++ cs)) (sym (used-append num q.used q.done d));
  ids = s.ids;
  along = subst (λ (p : Place). StandFrom num p cs q.next) (sym (behind-append num q.used q.done d)) at.1;
  fetched = s.fetched;
  order = subst (λ (p : Positions). IsInOrder 0 0 p) lists (law 0 0 head len (lists_of q) some s.order);
  few_served = let most = s.few_served in omega (arith, count, most);
  few_done = let left = (room_left q.done q.reserved room).0 in omega (arith, left, length-append q.done (d ∷ []));
}
  where
    num : ℕ
    num = q.layout.num

    d : PackedDone
    d = record { id = c.id; count = c.count; len = len }

    at : (c.place ≡ place_behind num q.used q.done) × StandFrom num (place_after num (place_behind num q.used q.done) c.count) cs q.next
    at = subst (λ (xs : List PackedChain). StandFrom num (place_behind num q.used q.done) xs q.next) is s.along

    count : length q.served ≡ suc (length cs)
    count = ap length is

    some : 0 < length q.served
    some = omega (arith, count)

    less : length q.served - 1 ≡ length cs
    less = omega (arith, count)

    ends : map done_of q.done ++ record { head = head; len = len } ∷ [] ≡ map done_of (q.done ++ record { id = c.id; count = c.count; len = len } ∷ [])
    ends = ap (λ h. map done_of q.done ++ record { head = h; len = len } ∷ []) first ∙ sym (map-append done_of q.done (record { id = c.id; count = c.count; len = len } ∷ []))

    lists : with_done head len (lists_of q) ≡ lists_of (with_finished (c ∷ cs) len q)
    lists = λ i. record { next = q.position; gathered = less i; done = ends i; journal = q.journal }

publish_stands : PublishedInOrder → (kept used : List PackedChain) (q : PackedQueue) → Stands kept used q → Stands kept (used ++ used_in q) (with_published q)
publish_stands law kept used q s = record {
  each = s.each ∙ sym (append_assoc used (used_in q) q.served);
  ids = map-append (λ (e : Published). e.1) q.journal (published_from (first_done (lists_of q)) (map done_of q.done))
      ∙ ap (λ (is : List ℕ). map (λ (e : Published). e.1) q.journal ++ is) (out-published q.layout.num (first_done (lists_of q)) q.used q.done)
      ∙ ap (λ (is : List ℕ). is ++ map (λ (c : PackedChain). c.id) (used_in q)) s.ids
      ∙ sym (map-append (λ (c : PackedChain). c.id) used (used_in q));
  along = s.along;
  fetched = s.fetched;
  order = law 0 0 (lists_of q) s.order;
  few_served = s.few_served;
  few_done = omega arith;
}

module _ (serves : ServesInOrder) (rewinds : RewindsInOrder) (done : DoneInOrder) (published : PublishedInOrder) where
  step : (call : Call) (kept used : List PackedChain) (q : PackedQueue) → MayCall call q → Stands kept used q
      → Stands (kept_by call q kept) (used_by call q used) (made_by call q)
  step (Fetch answer) kept used q may s = record { each = s.each; ids = s.ids; along = s.along; fetched = fetch_stands q.next answer; order = s.order; few_served = s.few_served; few_done = s.few_done }
  step Serve kept used q may s = serve_stands serves kept used q q.fetched may.0 may.1 s.fetched s
  step (Rewind n) kept used q may s = rewind_stands rewinds kept used q n may s
  step (Finish head len) kept used q may s = finish_stands done kept used q q.served head len refl may.0 may.1 s
  step Publish kept used q may s = publish_stands published kept used q s
  step Ready kept used q may s = record { each = s.each; ids = s.ids; along = s.along; fetched = s.fetched; order = s.order; few_served = s.few_served; few_done = s.few_done }

  all : (calls : List Call) (kept used : List PackedChain) (q : PackedQueue) → MayCallAll calls q → Stands kept used q
      → Stands (kept_by_all calls q kept) (used_by_all calls q used) (made_by_all calls q)
  all [] kept used q may s = s
  all (call ∷ calls) kept used q may s = all calls (kept_by call q kept) (used_by call q used) (made_by call q) may.1 (step call kept used q may.0 s)

  begins : (l : PackedLayout) → Stands [] [] (first_queue l)
  begins l = record {
    each = refl;
    ids = refl;
    along = refl;
    fetched = tt;
    order = record { fits = omega arith; begun = omega arith; few = omega arith; published = refl; done = refl; next = refl };
    few_served = omega arith;
    few_done = omega arith;
  }

  told : (kept used : List PackedChain) (q : PackedQueue) → Stands kept used q → AreOnce kept used q
  told kept used q s = record {
    each = s.each;
    ids = s.ids;
    positions = ap (λ (es : List Published). map {B = ℕ} (λ (e : Published). e.0) es) (sym (drop_none q.journal)) ∙ s.order.published ∙ ap (positions_from 0) (less (length q.journal));
    behind = stand_first q.layout.num (place_behind q.layout.num q.used q.done) q.served q.next s.along;
  }
    where
      drop_none : (es : List Published) → drop 0 es ≡ es
      drop_none es = refl

      less : (n : ℕ) → n - 0 ≡ n
      less n = omega arith

  pub each_is_once : EachIsOnce
  each_is_once l calls may =
      told (kept_by_all calls (first_queue l) []) (used_by_all calls (first_queue l) []) (made_by_all calls (first_queue l))
      (all calls [] [] (first_queue l) may (begins l))
