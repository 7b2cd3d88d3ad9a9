-- This project's own: queues of one frame or none, and a host of one frame, as contracts see them.
use Rattle.std.specs.Prelude.{◌^◌, ◌-◌, Bool, true, false, if◌then◌else◌, List, [], ◌∷◌, Option, Some, None}
use Rattle.tap_frame.specs.declared.name.Name.{Name}
use Rattle.tap_frame.specs.Frame.{FrameValue}
use Rattle.tap_ledger.specs.declared.hand.OutFrame.{OutFrame}
use Rattle.tap_ledger.specs.Host.{HostState}
use Rattle.tap_ledger.specs.Queue.{QueueState}
use Rattle.vhost_queue.specs.Positions.{rewound}
use Rattle.vhost_queue.specs.Queue.{Queue}
use Rattle.vhost_step.specs.declared.one_frame.OneFrame.{OneFrame}
use Rattle.vhost_step.specs.declared.one_frame.OneFrame.TheVariants as one
use Rattle.vhost_step.specs.declared.went.Went.{Went}
use Rattle.vhost_step.specs.declared.went.Went.TheVariants as went

-- A queue with this line. Where a look found that none is ready its count of looks stands at the end of its type, and
-- else at 0: so none is handed out after such a look.
abbrev pub with_line : List OutFrame → Option Name → List FrameValue → Bool → QueueState
with_line out in_hand waiting found_none = record {
  out = out;
  in_hand = in_hand;
  waiting = waiting;
  is_off = false;
  looks = if found_none then 2 ^ 64 - 1 else 0;
  found_none = found_none;
}

-- the one frame stands in one place, or there is none
abbrev pub one_queue : OneFrame → QueueState
one_queue (one.NotReady place) = with_line [] None [] true
one_queue (one.Waits frame) = with_line [] None (frame ∷ []) false
one_queue (one.InHand name) = with_line [] (Some name) [] false
one_queue (one.Out out looked) = with_line (out ∷ []) None [] looked

-- the queue of a worker with the frame of this name in hand, or none
abbrev pub holding : Option Name → OneFrame
holding None = one.NotReady 0
holding (Some name) = one.InHand name

-- where a frame went that was in hand
abbrev pub went_to : List OutFrame → List FrameValue → Went
went_to (out ∷ rest) waiting = went.Out out.fate
went_to [] (frame ∷ rest) = went.Back frame
went_to [] [] = went.Nowhere

abbrev pub went_in : QueueState → Went
went_in q = went_to q.out q.waiting

-- a host that was given this frame, or none yet: it has room for one
abbrev pub one_host : Option FrameValue → HostState
one_host None = record { given = []; room = 1 }
one_host (Some frame) = record { given = frame ∷ []; room = 0 }

-- a ring's queue whose gathered chains stand at their positions again
abbrev pub given_back : Queue → Queue
given_back q = record q { positions = rewound q.positions.gathered q.positions }
