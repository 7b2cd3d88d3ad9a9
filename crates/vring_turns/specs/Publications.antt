-- VIRTIO 1.2, 2.7.7 and 2.7.8: what a whole turn publishes, and which notices it tells.
use Rattle.std.specs.Prelude.{◌≡◌, ℕ, ◌^◌, ◌<◌, Bool, List, [], ◌∷◌, ◌++◌, length, map}
use Rattle.guest_mem.specs.Memory.{Contents}
use Rattle.tap_ledger.specs.declared.act.Act.{Act}
use Rattle.tap_ledger.specs.declared.act.Act.TheVariants as act
use Rattle.vhost_queue.specs.Positions.{Published, after, first_done, published_from}
use Rattle.vhost_queue.specs.Queue.{Queue}
use Rattle.vhost_queue.specs.Publication.{published_in, with_published, next_used, wants_notice}
use Rattle.vring_turns.specs.Ring.{done_in}
use Rattle.vring_turns.specs.TxTurn.{TxTurn}
use Rattle.vring_turns.specs.TxRun.{Moment, IsTxRun}
use Rattle.vring_turns.specs.RxTurn.{RxTurn}
use Rattle.vring_turns.specs.RxRun.{RxMoment, IsRxRun}

-- a step of either turn, as far as its ring goes: queue and memory as they were, what it told, and as they are then
pub record RingMoment : Type 0 where
  pub queue : Queue
  pub memory : Contents
  pub told : Act
  pub queue_then : Queue
  pub memory_then : Contents

abbrev pub of_transmit : Moment → RingMoment
of_transmit m = record {
  queue = m.before.queue;
  memory = m.before.memory;
  told = m.told;
  queue_then = m.after.queue;
  memory_then = m.after.memory;
}

abbrev pub of_receive : RxMoment → RingMoment
of_receive m = record {
  queue = m.before.queue;
  memory = m.before.memory;
  told = m.told;
  queue_then = m.after.queue;
  memory_then = m.after.memory;
}

-- a publication has all that was done, of which there is some; a notice is told exactly where the driver wants one, by
-- what stands in the memory once entries and index are written
pub record IsPublication (m : RingMoment) (count : ℕ) (call : Bool) : Type 0 where
  pub some : 0 < count
  pub counted : count ≡ done_in m.queue
  pub queue_is : m.queue_then ≡ with_published m.queue
  pub written : m.memory_then ≡ published_in m.queue m.memory
  pub called : call ≡ wants_notice m.queue.layout m.queue.used (next_used m.queue) m.memory_then

-- any other step publishes nothing
pub record PublishesNothing (m : RingMoment) : Type 0 where
  pub layout_stays : m.queue_then.layout ≡ m.queue.layout
  pub used_stays : m.queue_then.used ≡ m.queue.used
  pub journal_stays : m.queue_then.positions.journal ≡ m.queue.positions.journal

abbrev pub PublishesAt : Act → RingMoment → Type 0
PublishesAt (act.Publish count call) m = IsPublication m count call
PublishesAt other m = PublishesNothing m

abbrev pub AllPublish : List RingMoment → Type 0
AllPublish [] = Unit {0}
AllPublish (m ∷ ms) = PublishesAt m.told m × AllPublish ms

-- the entries that a step publishes: those of what is done, from the first position of these on
abbrev pub entries_at : Act → Queue → List Published
entries_at (act.Publish count call) q = published_from (first_done q.positions) q.positions.done
entries_at other q = []

abbrev pub entries_by : List RingMoment → List Published
entries_by [] = []
entries_by (m ∷ ms) = entries_at m.told m.queue ++ entries_by ms

-- each step publishes what it tells; the published list grows by their entries in their order, and the used index by as
-- many
pub record TurnPublishes (q q' : Queue) (ms : List RingMoment) : Type 0 where
  pub each : AllPublish ms
  pub layout : q'.layout ≡ q.layout
  pub journal : q'.positions.journal ≡ q.positions.journal ++ entries_by ms
  pub used : q.used < 2 ^ 16 → q'.used ≡ after q.used (length (entries_by ms))

-- every run does so
abbrev pub TransmitTurnsPublish : Type 0
TransmitTurnsPublish =
    (t t' : TxTurn) (q q' : Queue) (ms : List Moment) → IsTxRun t q ms t' q' → TurnPublishes q q' (map of_transmit ms)

abbrev pub ReceiveTurnsPublish : Type 0
ReceiveTurnsPublish =
    (t t' : RxTurn) (q q' : Queue) (ms : List RxMoment) → IsRxRun t q ms t' q' → TurnPublishes q q' (map of_receive ms)
