-- This project's own: how a packed queue is kept.
use Rattle.std.specs.Prelude.{◌+◌, ◌<◌, ◌≤◌, All, IfSome, vec_len, vec_capacity}
use Rattle.std.specs.VecDeque.{deque_len, deque_capacity}
use Rattle.vhost_queue.specs.Queue.{most_gathered, most_done}
use Rattle.vring_packed.specs.declared.vq.PackedVq.TheInside.{Inside}
use Rattle.vring_packed.specs.Queue.{PackedQueue}

-- the queue that the fields stand for
abbrev pub queue_of : Inside → PackedQueue
queue_of v = record {
  layout = v.layout;
  next = v.next;
  position = v.position;
  fetched = v.fetched;
  served = v.served.items;
  done = v.done.items;
  used = v.used;
  journal = v.journal.items;
  reserved = v.reserved;
}

-- the places lie in the ring, no chain has more descriptors than the ring, and the lists have the memory that they
-- will need
pub record IsKept (v : Inside) : Type 0 where
  pub some : 1 ≤ v.layout.num
  pub most : v.layout.num ≤ 32768
  pub next : v.next.at < v.layout.num
  pub used : v.used.at < v.layout.num
  pub fetched : IfSome v.fetched (λ c. (c.count ≤ v.layout.num) × (c.place.at < v.layout.num))
  pub served : All (λ c. (c.count ≤ v.layout.num) × (c.place.at < v.layout.num)) v.served.items
  pub done : All (λ d. d.count ≤ v.layout.num) v.done.items
  pub served_most : deque_len v.served ≤ most_gathered
  pub served_room : most_gathered ≤ deque_capacity v.served
  pub done_most : vec_len v.done ≤ most_done
  pub done_room : most_done ≤ vec_capacity v.done
  pub reserved : vec_len v.done ≤ v.reserved
  pub journal_room : vec_len v.journal + v.reserved ≤ vec_capacity v.journal
