-- The lists of positions stay in order.
use Rattle.std.proofs.Common.{◌≡◌, ℕ, ◌-◌, ◌^◌, ◌<◌, ◌≤◌, Bool, true, false, List, [], ◌∷◌, ◌++◌, length, map, take, drop, None, refl, ap, ◌∙◌, arith, length-append, length-drop}
use Rattle.std.proofs.lemmas.Bool.{ltb-false}
use Rattle.std.proofs.lemmas.List.{drop-append-le, take-append-le, take_all}
use Rattle.guest_mem.specs.Memory.{Contents}
use Rattle.vhost_queue.specs.Positions.{Positions, Published, IsIdle, IsInOrder, published_from, first_done, rebased, served, rewound, with_done, all_published}
use Rattle.vhost_queue.specs.Laws.{BeginsInOrder, ServesInOrder, RewindsInOrder, DoneInOrder, PublishedInOrder}
use Rattle.vhost_queue.specs.Queue.{first_positions}
use Rattle.vhost_dev.specs.declared.error.VhostErr.TheVariants.{EINVAL, EBUSY, ENOBUFS}
use Rattle.vhost_dev.specs.Settings.{RingSettings, Settings, first_settings, ring_of, ring_at, is_rx}
use Rattle.vhost_dev.specs.Refusals.{is_no_ring, is_backed, is_bad_position}
use Rattle.vhost_dev.specs.Calls.{resized, begun, placed, backed, unbacked, with_features}
use Rattle.vhost_dev.specs.Laws.{Call, refusal_of, made_by}
use Rattle.vhost_dev.specs.Laws.Call.{SetFeatures, SetNum, SetBase, SetAddr, SetBackend, UnsetBackend}
use Rattle.vhost_dev.specs.Lists.{IsClosed, AreInOrder, HaveOrder, IsTimely, BeginOrdered, CallsKeepOrder, QueuesKeepOrder}
use Rattle.vhost_dev.proofs.Rings.{chosen_has, none_of_three, each_ring}

-- what ties the calls on a queue to its lists
pub record Orders : Type 0 where
  pub begins : BeginsInOrder
  pub serves : ServesInOrder
  pub rewinds : RewindsInOrder
  pub done : DoneInOrder
  pub published : PublishedInOrder

-- a closed list stays so where more is published
closed_more :
    (b s e : ℕ) (j more : List Published) → IsClosed b s e j → IsClosed b s e (j ++ more)
closed_more b s e j more h =
    let rising : s ≤ e = h.rising in
    let begun : e ≤ length j = h.begun in
    let longer = length-append j more in
    let left = length-drop s j in
    let from : drop s (j ++ more) ≡ drop s j ++ more = drop-append-le s j more (omega arith) in
    let to : take (e - s) (drop s j ++ more) ≡ take (e - s) (drop s j) = take-append-le (e - s) (drop s j) more (omega arith) in
    record {
      rising = rising;
      begun = omega arith;
      positions = ap (λ (xs : List Published). map (λ (x : Published). x.0) (take (e - s) xs)) from
          ∙ ap (λ (xs : List Published). map (λ (x : Published). x.0) xs) to ∙ h.positions;
    }

-- the list that goes on ends
closed_now : (b s : ℕ) (p : Positions) → IsInOrder b s p → IsClosed b s (length p.journal) p.journal
closed_now b s p h =
    let left = length-drop s p.journal in
    let all : take (length p.journal - s) (drop s p.journal) ≡ drop s p.journal = take_all (length p.journal - s) (drop s p.journal) (omega arith) in
    record {
      rising = h.begun;
      begun = omega arith;
      positions = ap (λ (xs : List Published). map (λ (x : Published). x.0) xs) all ∙ h.published;
    }

-- lists stay in order where closed ones and the last one do
order_by :
    (lists : List (ℕ × ℕ)) (p q : Positions)
    → ((b s e : ℕ) → IsClosed b s e p.journal → IsClosed b s e q.journal)
    → ((b s : ℕ) → IsInOrder b s p → IsInOrder b s q) → AreInOrder lists p → AreInOrder lists q
order_by [] p q closed last h = tt
order_by (l ∷ []) p q closed last h = last l.0 l.1 h
order_by (l ∷ next ∷ ls) p q closed last h = (closed l.0 l.1 next.1 h.0, order_by (next ∷ ls) p q closed last h.1)

pub queues_keep : Orders → QueuesKeepOrder
queues_keep o = λ lists p h. (
  λ few. order_by lists p (served p) (λ b s e c. c) (λ b s i. o.serves b s p few i) h,
  λ count few. order_by lists p (rewound count p) (λ b s e c. c) (λ b s i. o.rewinds b s count p few i) h,
  λ head len some. order_by lists p (with_done head len p) (λ b s e c. c) (λ b s i. o.done b s head len p some i) h,
  order_by lists p (all_published p) (λ b s e c. closed_more b s e p.journal (published_from (first_done p) p.done) c)
      (λ b s i. o.published b s p i) h,
)

begun_order :
    Orders → (lists : List (ℕ × ℕ)) (p : Positions) (base : ℕ) → base < 2 ^ 16 → IsIdle p → AreInOrder lists p
    → AreInOrder (lists ++ (base, length p.journal) ∷ []) (rebased base p)
begun_order o [] p base fits idle h = o.begins base p fits idle
begun_order o (l ∷ []) p base fits idle h = (closed_now l.0 l.1 p h, o.begins base p fits idle)
begun_order o (l ∷ next ∷ ls) p base fits idle h = (h.0, begun_order o (next ∷ ls) p base fits idle h.1)

pub begin_ordered : Orders → BeginOrdered
begin_ordered o = λ rx.
    elim rx as (λ v. AreInOrder (ring_of v first_settings).lists (ring_of v first_settings).queue.positions) [
      | true ↦ o.begins 0 first_positions (omega arith) refl
      | false ↦ o.begins 0 first_positions (omega arith) refl
    ]

-- a ring's lists are in order
abbrev Ordered : Bool → RingSettings → Type 0
Ordered rx r = AreInOrder r.lists r.queue.positions

calls_made :
    Orders → (m : Contents) (s : Settings) (call : Call)
    → IsTimely s call → HaveOrder s → refusal_of m s call ≡ None → HaveOrder (made_by m s call)
calls_made o m s (SetFeatures bits) timely h n = λ rx.
    elim rx as (λ v. Ordered v (ring_of v (with_features bits s))) [ true ↦ h true | false ↦ h false ]
calls_made o m s (SetNum ring num) timely h n =
    each_ring Ordered (is_rx ring) (resized num (ring_at ring s)) s h (h (is_rx ring))
calls_made o m s (SetBase ring base) timely h n =
    let told = none_of_three (is_no_ring ring) (is_backed (ring_at ring s)) (is_bad_position base) ENOBUFS EBUSY EINVAL n in
    let fits = ltb-false 65535 base told.2 in
    each_ring Ordered (is_rx ring) (begun base (ring_at ring s)) s h
    (begun_order o (ring_at ring s).lists (ring_at ring s).queue.positions base (omega arith) timely (h (is_rx ring)))
calls_made o m s (SetAddr ring desc avail used) timely h n =
    each_ring Ordered (is_rx ring) (placed desc avail used (ring_at ring s)) s h (h (is_rx ring))
calls_made o m s (SetBackend ring file) timely h n =
    each_ring Ordered (is_rx ring) (backed file m (ring_at ring s)) s h (h (is_rx ring))
calls_made o m s (UnsetBackend ring) timely h n =
    each_ring Ordered (is_rx ring) (unbacked (ring_at ring s)) s h (h (is_rx ring))

pub calls_keep : Orders → CallsKeepOrder
calls_keep o = λ m s call timely h.
    chosen_has HaveOrder (refusal_of m s call) s (made_by m s call) h (calls_made o m s call timely h)
