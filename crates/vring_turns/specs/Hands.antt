-- This project's own: what a step of a receive turn makes of the queue of frames.
use Rattle.std.specs.Prelude.{◌≡◌, ◌≤◌, ◌↔◌, [], IfSome, IsTrue, true}
use Rattle.tap_ledger.specs.declared.fate.Fate.TheVariants.{Guest}
use Rattle.tap_ledger.specs.declared.hand.Hand.{Hand}
use Rattle.tap_ledger.specs.declared.hand.Hand.TheVariants.{Off}
use Rattle.tap_ground.specs.Counts.{Rose}
use Rattle.tap_ledger.specs.Queue.{QueueState, Extends, with_handed, name_handed, IfNotReady, put_back, finished}
use Rattle.vring_turns.specs.declared.stage.RxStage.{RxStage}
use Rattle.vring_turns.specs.declared.stage.RxStage.TheVariants as stage
use Rattle.vring_turns.specs.ReceiveImage.{need_of}
use Rattle.vring_turns.specs.RxTurn.{RxTurn, overrun}

-- a queue handed this out: the front frame, where none was ready that no known frame waits, or that it is off
pub record Hands (h : Hand) (old new : QueueState) : Type 0 where
  pub known : Extends old.waiting (with_handed h new.waiting)
  pub in_hand : new.in_hand ≡ name_handed h
  pub off : (h ≡ Off) ↔ IsTrue old.is_off
  pub none_waits : IfNotReady h (λ place. new.waiting ≡ [])
  pub looked : IfNotReady h (λ place. Rose old.looks new.looks)
  pub found_none : IfNotReady h (λ place. new.found_none ≡ true)
  pub out_stays : new.out ≡ old.out
  pub off_stays : new.is_off ≡ old.is_off
  pub never_falls : old.looks ≤ new.looks

-- the step at a stage moves the queue: it hands a frame out, takes it back, or lets it out with its fate
abbrev pub MovesAt : RxStage → RxTurn → Hand → QueueState → QueueState → Type 0
MovesAt stage.Hand t h old new = Hands h old new
MovesAt stage.Out t h old new = IfSome t.held (λ frame. new ≡ finished frame Guest old)
MovesAt (stage.Discard had) t h old new =
    IfSome t.held (λ frame. new ≡ finished frame (overrun t.mergeable (need_of t.header frame) had) old)
MovesAt (stage.PutBack end) t h old new = IfSome t.held (λ frame. new ≡ put_back frame old)
MovesAt other t h old new = new ≡ old

abbrev pub Moves : RxTurn → Hand → QueueState → QueueState → Type 0
Moves t h old new = MovesAt t.stage t h old new
