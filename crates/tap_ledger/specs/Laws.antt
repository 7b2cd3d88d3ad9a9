-- This project's own: no call on a queue loses a frame or changes the order of its line.
use Rattle.std.specs.Prelude.{◌≡◌, List, ◌++◌, Some, None}
use Rattle.tap_frame.specs.declared.name.Name.{Name}
use Rattle.tap_frame.specs.Frame.{FrameValue}
use Rattle.tap_ledger.specs.declared.fate.Fate.{Fate}
use Rattle.tap_ledger.specs.declared.hand.Hand.{Hand}
use Rattle.tap_ledger.specs.Queue.{QueueState, line, Extends, with_handed, name_handed, put_back, finished}

-- where nothing is in hand, taking a frame in hand may make the line longer at its end, and changes nothing else of it
abbrev pub HandExtendsLine : Type 0
HandExtendsLine = (hand : Hand) (old new : QueueState)
    → old.in_hand ≡ None
    → new.out ≡ old.out
    → new.in_hand ≡ name_handed hand
    → Extends old.waiting (with_handed hand new.waiting)
    → (more : List Name) × (line new ≡ line old ++ more)

-- putting the frame in hand back leaves the line
abbrev pub PutBackKeepsLine : Type 0
PutBackKeepsLine = (frame : FrameValue) (queue : QueueState)
    → queue.in_hand ≡ Some frame.name
    → line (put_back frame queue) ≡ line queue

-- finishing the frame in hand leaves the line
abbrev pub FinishKeepsLine : Type 0
FinishKeepsLine = (frame : FrameValue) (fate : Fate) (queue : QueueState)
    → queue.in_hand ≡ Some frame.name
    → line (finished frame fate queue) ≡ line queue
