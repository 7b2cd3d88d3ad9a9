-- This project's own: a queue of frames, from which one at a time is taken in hand.
use Rattle.std.specs.Prelude.{◌≡◌, ℕ, ◌+◌, ◌-◌, map, Bool, List, [], ◌∷◌, ◌++◌, Option, Some, None}
use Rattle.std.specs.Option.{option_to_list}
use Rattle.tap_frame.specs.declared.name.Name.{Name}
use Rattle.tap_frame.specs.Frame.{FrameValue}
use Rattle.tap_ledger.specs.declared.fate.Fate.{Fate}
use Rattle.tap_ledger.specs.declared.fate.Fate.TheVariants.{Waiting, Read, Guest, Host, Discarded}
use Rattle.tap_ledger.specs.declared.fate.Cause.{Cause}
use Rattle.tap_ledger.specs.declared.fate.Cause.TheVariants.{NoQueue, Filtered, Gone, Full, Purged, Overrun, Cut, Spent}
use Rattle.tap_ledger.specs.declared.hand.Hand.{Hand}
use Rattle.tap_ledger.specs.declared.hand.Hand.TheVariants.{Got, NotReady, Off, NoMemory}
use Rattle.tap_ledger.specs.declared.hand.OutFrame.{OutFrame}

-- what a queue is to a contract
pub record QueueState : Type 0 where
  -- the frames that are out, in their order
  pub out : List OutFrame
  -- the name of the frame in hand; it stands before those that wait
  pub in_hand : Option Name
  -- the known frames that wait, in their order
  pub waiting : List FrameValue
  -- whether it is off
  pub is_off : Bool
  -- how often it looked for a ready frame
  pub looks : ℕ
  -- whether the last look found none
  pub found_none : Bool

-- ---- its line

-- a frame as it is out with a fate
abbrev pub out_with : Fate → FrameValue → OutFrame
out_with fate frame = record { name = frame.name; len = frame.mark; fate = fate }

-- the names of its line without cut ones, in their order: those that are out, the one in hand, those that wait
abbrev pub line : QueueState → List Name
line queue = map (λ o. o.name) queue.out ++ (option_to_list queue.in_hand ++ map (λ f. f.name) queue.waiting)

-- ---- what a call does

-- the new frames are the old ones and perhaps more behind them
abbrev pub Extends : List FrameValue → List FrameValue → Type 0
Extends old new = (more : List FrameValue) × (new ≡ old ++ more)

-- the frame that is handed out, if one is, and those behind it
abbrev pub with_handed : Hand → List FrameValue → List FrameValue
with_handed (Got frame) rest = frame ∷ rest
with_handed (NotReady place) rest = rest
with_handed Off rest = rest
with_handed NoMemory rest = rest

-- the name of the frame that is handed out
abbrev pub name_handed : Hand → Option Name
name_handed (Got frame) = Some frame.name
name_handed (NotReady place) = None
name_handed Off = None
name_handed NoMemory = None

-- what is so of the place where no frame is ready
abbrev pub IfNotReady : Hand → (ℕ → Type 0) → Type 0
IfNotReady (NotReady place) P = P place
IfNotReady (Got frame) P = Unit {0}
IfNotReady Off P = Unit {0}
IfNotReady NoMemory P = Unit {0}

-- the frame in hand is the front again
abbrev pub put_back : FrameValue → QueueState → QueueState
put_back frame queue = record queue { in_hand = None; waiting = frame ∷ queue.waiting }

-- the frame in hand leaves the line with a fate
abbrev pub finished : FrameValue → Fate → QueueState → QueueState
finished frame fate queue = record queue { in_hand = None; out = queue.out ++ out_with fate frame ∷ [] }

-- the causes with which a worker may finish a frame
abbrev pub IsOverrun : Cause → Type 0
IsOverrun (Overrun need quota had) = Unit {0}
IsOverrun NoQueue = ⊥
IsOverrun Filtered = ⊥
IsOverrun (Gone want found shut) = ⊥
IsOverrun (Full claimed freed) = ⊥
IsOverrun Purged = ⊥
IsOverrun Cut = ⊥
IsOverrun (Spent claimed) = ⊥

-- the fates with which a worker may finish a frame: a guest received it, or it was too long for the guest's buffers
abbrev pub IsFinal : Fate → Type 0
IsFinal Guest = Unit {0}
IsFinal (Discarded cause) = IsOverrun cause
IsFinal Waiting = ⊥
IsFinal Read = ⊥
IsFinal Host = ⊥
