-- This project's own: what a whole receive turn makes of its queue of frames, and what others may make of it meanwhile.
use Rattle.std.specs.Prelude.{◌≡◌, ◌++◌, ℕ, ◌-◌, Bool, true, false, List, [], ◌∷◌, length, take, map, Option, None, Some, is_some}
use Rattle.std.specs.Option.{option_map, option_to_list}
use Rattle.tap_frame.specs.Frame.{FrameValue}
use Rattle.tap_ledger.specs.declared.fate.Fate.{Fate}
use Rattle.tap_ledger.specs.declared.fate.Fate.TheVariants.{Guest, Discarded}
use Rattle.tap_ledger.specs.declared.fate.Cause.TheVariants.{Purged}
use Rattle.tap_ledger.specs.declared.hand.Hand.{Hand}
use Rattle.tap_ledger.specs.Queue.{QueueState, out_with, with_handed}
use Rattle.vhost_queue.specs.Queue.{Queue}
use Rattle.vring_turns.specs.declared.end.End.{End}
use Rattle.vring_turns.specs.declared.end.End.TheVariants as end
use Rattle.vring_turns.specs.declared.stage.RxStage.{RxStage}
use Rattle.vring_turns.specs.declared.stage.RxStage.TheVariants as stage
use Rattle.vring_turns.specs.declared.stage.After.TheVariants as after
use Rattle.vring_turns.specs.ReceiveImage.{need_of}
use Rattle.vring_turns.specs.RxTurn.{RxTurn, overrun}
use Rattle.vring_turns.specs.RxRun.{RxMoment, IsRxRun}
use Rattle.vring_turns.specs.Stage.{has_in_hand, need_at}
use Rattle.vring_turns.specs.Hands.{Moves}

-- What happens.

-- what another actor does to the queue between two steps: it sends a frame, which is known to wait behind the others;
-- it purges the front one; it cuts the newest one; or it looks, and what else a queue tells may change
pub data Other : Type 0 where
  Joins : FrameValue → Other
  Purges : FrameValue → Other
  Cuts : FrameValue → Other
  Looks : Other

-- a purge waits where a frame is in hand, and a frame that is cut isn't out
abbrev pub Does : Other → QueueState → QueueState → Type 0
Does (Joins frame) f g =
    (g.waiting ≡ f.waiting ++ frame ∷ []) × (g.out ≡ f.out) × (g.in_hand ≡ f.in_hand)
Does (Purges frame) f g =
    (f.waiting ≡ frame ∷ g.waiting) × (g.out ≡ f.out ++ out_with (Discarded Purged) frame ∷ [])
    × (f.in_hand ≡ None) × (g.in_hand ≡ None)
Does (Cuts frame) f g =
    (f.waiting ≡ g.waiting ++ frame ∷ []) × (g.out ≡ f.out) × (g.in_hand ≡ f.in_hand)
Does Looks f g = (g.waiting ≡ f.waiting) × (g.out ≡ f.out) × (g.in_hand ≡ f.in_hand)

-- a step of the turn, with the frames that became known as it looked for one, or what another does
pub data LineEvent : Type 0 where
  Makes : RxMoment → List FrameValue → LineEvent
  Meets : Other → LineEvent

-- these became known behind those that were, where a frame was looked for, and elsewhere none
abbrev pub IsKnownAt : RxStage → Hand → QueueState → QueueState → List FrameValue → Type 0
IsKnownAt stage.Hand h f g more = with_handed h g.waiting ≡ f.waiting ++ more
IsKnownAt other h f g more = more ≡ []

-- each step moves the queue as it does at its stage
abbrev pub Happens : LineEvent → QueueState → QueueState → Type 0
Happens (Makes m more) f g =
    Moves m.before.turn m.hand f g × IsKnownAt m.before.turn.stage m.hand f g more
Happens (Meets other) f g = Does other f g

-- one after the other
abbrev pub AreMoves : QueueState → List LineEvent → QueueState → Type 0
AreMoves f [] f' = f' ≡ f
AreMoves f (e ∷ es) f' = (g : QueueState) × Happens e f g × AreMoves g es f'

-- the steps of the turn among them
abbrev pub own_steps : List LineEvent → List RxMoment
own_steps [] = []
own_steps (Makes m more ∷ es) = m ∷ own_steps es
own_steps (Meets other ∷ es) = own_steps es

-- The line.

-- the frame that leaves the line at a stage, with its fate
abbrev pub with_fate : Fate → Option FrameValue → List (FrameValue × Fate)
with_fate fate None = []
with_fate fate (Some frame) = (frame, fate) ∷ []

abbrev pub leaves_at : RxStage → RxTurn → List (FrameValue × Fate)
leaves_at stage.Out t = with_fate Guest t.held
leaves_at (stage.Discard had) t = with_fate (overrun t.mergeable (need_at t.header t.held) had) t.held
leaves_at other t = []

-- and in an event: what is purged leaves it, too
abbrev pub left_at : LineEvent → List (FrameValue × Fate)
left_at (Makes m more) = leaves_at m.before.turn.stage m.before.turn
left_at (Meets (Purges frame)) = (frame, Discarded Purged) ∷ []
left_at (Meets other) = []

abbrev pub left_by : List LineEvent → List (FrameValue × Fate)
left_by [] = []
left_by (e ∷ es) = left_at e ++ left_by es

-- the frames of a line, those that left with them: it grows at its back, and is cut there
abbrev pub line_at : LineEvent → List FrameValue → List FrameValue
line_at (Makes m more) line = line ++ more
line_at (Meets (Joins frame)) line = line ++ frame ∷ []
line_at (Meets (Purges frame)) line = line
line_at (Meets (Cuts frame)) line = take (length line - 1) line
line_at (Meets Looks) line = line

abbrev pub line_by : List LineEvent → List FrameValue → List FrameValue
line_by [] line = line
line_by (e ∷ es) line = line_by es (line_at e line)

-- What is put back.

-- the frames that the turn put back, the latest first
abbrev pub back_at : RxStage → RxTurn → List FrameValue → List FrameValue
back_at (stage.PutBack end) t back = option_to_list t.held ++ back
back_at other t back = back

abbrev pub back_by : List LineEvent → List FrameValue → List FrameValue
back_by [] back = back
back_by (Makes m more ∷ es) back = back_by es (back_at m.before.turn.stage m.before.turn back)
back_by (Meets other ∷ es) back = back_by es back

-- one frame was put back, of which this holds
abbrev pub IsPutBack : (FrameValue → Type 0) → List FrameValue → Type 0
IsPutBack P back = (frame : FrameValue) × (back ≡ frame ∷ []) × P frame

-- a turn that ends as too short or stopped has put its frame back, and tells of a short one what it needs; no other has
abbrev pub PutsBack : End → ℕ → List FrameValue → Type 0
PutsBack (end.Short need had) size back = IsPutBack (λ frame. need_of size frame ≡ need) back
PutsBack (end.Stopped fault) size back = IsPutBack (λ frame. Unit {0}) back
PutsBack other size back = back ≡ []

-- what is to be put back as too short is the frame in hand
abbrev pub TellsNeed : End → RxTurn → Type 0
TellsNeed (end.Short need had) t = need_at t.header t.held ≡ need
TellsNeed (end.Stopped fault) t = Unit {0}
TellsNeed other t = ⊥

-- what a stage says of the frames that were put back
abbrev pub PutsBackAt : RxStage → RxTurn → List FrameValue → Type 0
PutsBackAt stage.Begin t back = back ≡ []
PutsBackAt stage.Hand t back = back ≡ []
PutsBackAt stage.Fetch t back = back ≡ []
PutsBackAt stage.NoticesOn t back = back ≡ []
PutsBackAt stage.FetchAgain t back = back ≡ []
PutsBackAt (stage.NoticesOff after.Fetch) t back = back ≡ []
PutsBackAt (stage.NoticesOff after.Copy) t back = back ≡ []
PutsBackAt (stage.NoticesOff (after.Discard had)) t back = back ≡ []
PutsBackAt (stage.NoticesOff (after.PutBack end)) t back = TellsNeed end t × (back ≡ [])
PutsBackAt stage.Copy t back = back ≡ []
PutsBackAt stage.Out t back = back ≡ []
PutsBackAt (stage.Discard had) t back = back ≡ []
PutsBackAt (stage.PutBack end) t back = TellsNeed end t × (back ≡ [])
PutsBackAt (stage.Publish None) t back = back ≡ []
PutsBackAt (stage.Publish (Some end)) t back = PutsBack end t.header back
PutsBackAt (stage.Ended end) t back = PutsBack end t.header back

-- a turn holds a frame where its stage says so, the one that the queue has in hand, and has put back what it says; so
-- does one that begins, with none in hand and none put back
pub record Handles (t : RxTurn) (f : QueueState) (back : List FrameValue) : Type 0 where
  pub holds : is_some t.held ≡ has_in_hand t.stage
  pub in_hand : f.in_hand ≡ option_map (λ frame. frame.name) t.held
  pub puts_back : PutsBackAt t.stage t back

-- the frames that left are out with their fates, in their order; they, the frame in hand and those that wait are the
-- line, in this order
pub record PassesLine (t t' : RxTurn) (f f' : QueueState) (es : List LineEvent) (back : List FrameValue) : Type 0 where
  pub out : f'.out ≡ f.out ++ map (λ x. out_with x.1 x.0) (left_by es)
  pub line : map (λ x. x.0) (left_by es) ++ (option_to_list t'.held ++ f'.waiting)
      ≡ line_by es (option_to_list t.held ++ f.waiting)
  pub handles : Handles t' f' (back_by es back)

-- every run does so
abbrev pub ReceiveTurnsPass : Type 0
ReceiveTurnsPass =
    (t t' : RxTurn) (q q' : Queue) (f f' : QueueState) (es : List LineEvent) (back : List FrameValue)
    → Handles t f back → IsRxRun t q (own_steps es) t' q' → AreMoves f es f' → PassesLine t t' f f' es back
