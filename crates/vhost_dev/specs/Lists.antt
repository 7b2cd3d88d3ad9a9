-- This project's own: a ring's lists of positions, one after the other, each in order.
use Rattle.std.specs.Prelude.{◌≡◌, ℕ, ◌+◌, ◌-◌, ◌^◌, ◌<◌, ◌≤◌, Bool, List, [], ◌∷◌, length, map, take, drop}
use Rattle.guest_mem.specs.Memory.{Contents}
use Rattle.vhost_queue.specs.Positions.{Positions, Published, IsInOrder, positions_from, served, rewound, with_done, all_published}
use Rattle.vhost_dev.specs.Settings.{Settings, first_settings, ring_of, ring_at}
use Rattle.vhost_dev.specs.Calls.{IsIdleRing}
use Rattle.vhost_dev.specs.Laws.{Call, after}
use Rattle.vhost_dev.specs.Laws.Call.{SetBase}

-- a list that began with a base, when so many chains had been published, and ended when so many had: the k-th chain
-- of it has the position base + k
pub record IsClosed (base start end : ℕ) (journal : List Published) : Type 0 where
  pub rising : start ≤ end
  pub begun : end ≤ length journal
  pub positions : map (λ e. e.0) (take (end - start) (drop start journal)) ≡ positions_from base (end - start)

-- each list but the last one ended where the next one began, and the last one goes on
abbrev pub AreInOrder : List (ℕ × ℕ) → Positions → Type 0
AreInOrder [] p = Unit {0}
AreInOrder (l ∷ []) p = IsInOrder l.0 l.1 p
AreInOrder (l ∷ next ∷ ls) p = IsClosed l.0 l.1 next.1 p.journal × AreInOrder (next ∷ ls) p

-- so it is in both rings
abbrev pub HaveOrder : Settings → Type 0
HaveOrder s = (rx : Bool) → AreInOrder (ring_of rx s).lists (ring_of rx s).queue.positions

-- a call that begins a list meets an idle ring
abbrev pub IsTimely : Settings → Call → Type 0
IsTimely s (SetBase ring base) = IsIdleRing (ring_at ring s)
IsTimely s call = Unit {0}

-- The laws.

abbrev pub BeginOrdered : Type 0
BeginOrdered = HaveOrder first_settings

abbrev pub CallsKeepOrder : Type 0
CallsKeepOrder =
    (m : Contents) (s : Settings) (call : Call) → IsTimely s call → HaveOrder s → HaveOrder (after m s call)

-- what is done to a ring's queue keeps its lists in order: a chain is served, chains stand at their positions again, a
-- chain is done, what is done is published
abbrev pub QueuesKeepOrder : Type 0
QueuesKeepOrder =
    (lists : List (ℕ × ℕ)) (p : Positions) → AreInOrder lists p
    → (p.gathered + length p.done < 2 ^ 16 → AreInOrder lists (served p))
    × ((count : ℕ) → count ≤ p.gathered → AreInOrder lists (rewound count p))
    × ((head len : ℕ) → 0 < p.gathered → AreInOrder lists (with_done head len p))
    × AreInOrder lists (all_published p)
