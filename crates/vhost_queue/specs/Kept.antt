-- This project's own: how a queue is kept.
use Rattle.std.specs.Prelude.{◌+◌, ◌≤◌, vec_len, vec_capacity}
use Rattle.vhost_queue.specs.declared.vq.Vq.TheInside.{Inside}
use Rattle.vhost_queue.specs.Queue.{Reserved, IsQueueSize, most_gathered, most_done}

-- the queue that the fields stand for
abbrev pub reserved_of : Inside → Reserved
reserved_of v = record {
  queue = record {
    layout = v.layout;
    positions = record { next = v.next; gathered = v.gathered; done = v.done.items; journal = v.journal.items };
    used = v.used;
    stopped = v.stopped;
  };
  reserved = v.reserved;
}

-- the lists have the memory that they will need
pub record HasRoom (v : Inside) : Type 0 where
  pub size : IsQueueSize v.layout.num
  pub gathered : v.gathered ≤ most_gathered
  pub done : vec_len v.done ≤ most_done
  pub done_room : most_done ≤ vec_capacity v.done
  pub reserved : vec_len v.done ≤ v.reserved
  pub journal_room : vec_len v.journal + v.reserved ≤ vec_capacity v.journal
