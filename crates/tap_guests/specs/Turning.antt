-- This project's own: steps of the turns on a vhost's rings, in the words of the world's definitions.
use Rattle.std.specs.Prelude.{◌≡◌, ℕ, Option, Some, None, is_some, IfSome, if◌then◌else◌}
use Rattle.std.specs.Option.{option_map}
use Rattle.guest_mem.specs.Memory.{Contents}
use Rattle.tap_frame.specs.Frame.{FrameValue}
use Rattle.tap_ledger.specs.declared.act.Act.{Act}
use Rattle.tap_ledger.specs.declared.hand.Hand.{Hand}
use Rattle.tap_world.specs.Guests.{with_queue, with_turn}
use Rattle.tap_world.specs.StepTransmits.{tx_over, tx_state}
use Rattle.tap_world.specs.StepTurns.{left, rx_over, rx_state}
use Rattle.vhost_step.specs.Queues.{one_host}
use Rattle.vhost_step.specs.Receive.{rx_did}
use Rattle.vhost_step.specs.Transmit.{tx_did}
use Rattle.vring_turns.specs.declared.end.TurnEnd.{TurnEnd}
use Rattle.vring_turns.specs.RxTurn.{RxTurn, rx_step}
use Rattle.vring_turns.specs.TxTurn.{TxTurn, TxState, tx_step}
use Rattle.tap_guests.specs.Side.{Side}

-- ---- receive

-- The next step of a receive turn, where a frame would be handed out so: it tells this event, and leaves this vhost and
-- this memory. The worker goes on with the turn, or is gone where that is over, and then the ring's turn is free.
pub record RxSteps (h : Hand) (t : RxTurn) (holder : ℕ) (old : Side) (m : Contents) (told : Act)
    (over : Option TurnEnd) (new : Side) (m' : Contents) : Type 0 where
  -- the turn that the step leaves
  pub turn : RxTurn
  pub step : rx_step h (rx_state t old.vhost m) ≡ Some (rx_state turn new.vhost m', told)
  pub vhost : new.vhost ≡ left 0 holder (is_some (rx_over turn.stage)) new.vhost.settings.rx.queue old.vhost
  pub worker : option_map (λ w. w.turn) new.rx ≡ (if is_some over then None else Some turn)
  pub did : over ≡ rx_did turn.stage turn
  pub only : new ≡ record old { vhost = new.vhost; rx_reserved = new.rx_reserved; rx = new.rx }

-- the next step of the turn that is under way, whoever holds it
abbrev pub RxGoes : Hand → Side → Contents → Act → Option TurnEnd → Side → Contents → Type 0
RxGoes h old m told over new m' =
    IfSome old.rx (λ w. IfSome old.vhost.rx_turn (λ holder. RxSteps h w.turn holder old m told over new m'))

-- Want of memory ended the turn: its worker is gone, the ring's turn is free, and beside that its queue alone changed.
abbrev pub RxGivesUp : Side → Side → Type 0
RxGivesUp old new = new ≡ record old {
  vhost = with_turn 0 None (with_queue 0 new.vhost.settings.rx.queue old.vhost);
  rx_reserved = new.rx_reserved;
  rx = None;
}

-- ---- transmit

-- the state that a step of a transmit turn leaves, whose host was given this frame or none
abbrev pub tx_left : TxTurn → Side → Contents → Option FrameValue → TxState
tx_left t s m given = record { turn = t; queue = s.vhost.settings.tx.queue; memory = m; host = one_host given }

-- the same of a transmit turn, whose host was given this frame or none
pub record TxSteps (t : TxTurn) (holder : ℕ) (old : Side) (m : Contents) (told : Act) (given : Option FrameValue)
    (over : Option TurnEnd) (new : Side) (m' : Contents) : Type 0 where
  -- the turn that the step leaves
  pub turn : TxTurn
  pub step : tx_step (tx_state t old.vhost m) ≡ Some (tx_left turn new m' given, told)
  pub vhost : new.vhost ≡ left 1 holder (is_some (tx_over turn.stage)) new.vhost.settings.tx.queue old.vhost
  pub worker : option_map (λ w. w.turn) new.tx ≡ (if is_some over then None else Some turn)
  pub did : over ≡ tx_did turn.stage turn
  pub only : new ≡ record old { vhost = new.vhost; tx_reserved = new.tx_reserved; tx = new.tx }

abbrev pub TxGoes : Side → Contents → Act → Option FrameValue → Option TurnEnd → Side → Contents → Type 0
TxGoes old m told given over new m' =
    IfSome old.tx (λ w. IfSome old.vhost.tx_turn (λ holder. TxSteps w.turn holder old m told given over new m'))

-- want of memory ended the turn, as on the receive ring
abbrev pub TxGivesUp : Side → Side → Type 0
TxGivesUp old new = new ≡ record old {
  vhost = with_turn 1 None (with_queue 1 new.vhost.settings.tx.queue old.vhost);
  tx_reserved = new.tx_reserved;
  tx = None;
}
