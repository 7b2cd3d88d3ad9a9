-- This project's own: what the fields of a queue in memory mean, and the room that it keeps.
use Rattle.std.specs.Prelude.{ℕ, ◌+◌, ◌≤◌, length, take, drop, vec_len, vec_capacity}
use Rattle.std.specs.Option.{option_to_list}
use Rattle.std.specs.VecDeque.{deque_len, deque_capacity}
use Rattle.tap_ledger.specs.declared.mem_queue.MemQueue.TheInside.{Inside}
use Rattle.tap_ledger.specs.Memory.{MemoryQueue}

-- the first frames are known, and those behind them come
abbrev pub meaning : Inside → MemoryQueue
meaning q = record {
  first = q.first;
  queue = record {
    out = q.out.items;
    in_hand = q.in_hand;
    waiting = take q.known q.frames.items;
    is_off = q.is_off;
    looks = q.looks;
    found_none = q.found_none;
  };
  coming = drop q.known q.frames.items;
  calls = q.calls;
  unready = q.unready.items;
  most = q.most;
}

-- how many frames aren't out: those in the queue, and the one in hand
abbrev pub inside : Inside → ℕ
inside q = deque_len q.frames + length (option_to_list q.in_hand)

-- there is room to put a frame back, and to let all of them out
pub record HasRoom (q : Inside) : Type 0 where
  pub known : q.known ≤ deque_len q.frames
  pub back : inside q ≤ deque_capacity q.frames
  pub out : vec_len q.out + inside q ≤ vec_capacity q.out
  pub most : 1 ≤ q.most
