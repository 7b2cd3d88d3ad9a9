-- This project's own: what acts make of the turns under way. A turn's quiet steps touch nothing but the turn, so those
-- that stand behind its last printed step may be taken at once, whatever other commands do meanwhile.
use Rattle.std.specs.Prelude.{◌≡◌, ℕ, if◌then◌else◌, find, is_none, true, false, List, Option, Some, None}
use Rattle.tap_frame.specs.Frame.{FrameValue}
use Rattle.tap_ledger.specs.declared.hand.Hand.{Hand}
use Rattle.vhost_dev.specs.Settings.{RingSettings, ring_at}
use Rattle.vring_turns.specs.TxTurn.{TxTurn, tx_after_packet}
use Rattle.vring_turns.specs.declared.stage.TxStage.TheVariants as tx
use Rattle.tap_trace.specs.declared.turn.ChainText.{ChainText}
use Rattle.tap_world.specs.ByNumber.{at}
use Rattle.tap_world.specs.Guests.{Vhost}
use Rattle.tap_legal.specs.Case.{Case}
use Rattle.tap_legal.specs.Replay.{Under}
use Rattle.tap_legal.specs.Replay.Turning.{Sending}
use Rattle.tap_legal.specs.ReplayTurns.{is_quiet_tx, is_under_on, tx_answer}
use Rattle.tap_sights.specs.Acts.{Act, Done, State, does, step_in}
use Rattle.tap_sights.specs.GuestFacts.{ActTells}
use Rattle.tap_sights.specs.Sight.{In}
use Rattle.tap_acts.specs.Replaying.{Follow, IsHeld, gone_on, is_turn_of, settled}

-- ---- what others do

-- what an act leaves of a turn under way on a ring that isn't its own: the turn, and the ring
pub record LeavesTurn (n ring : ℕ) (u : Under) (old new : State) : Type 0 where
  pub same : find (is_under_on n ring) new.under ≡ Some u
  pub queue : (v : Vhost) → at old.vhosts n ≡ Some v
      → (w : Vhost) × (at new.vhosts n ≡ Some w) × (ring_at ring w.settings ≡ ring_at ring v.settings)

abbrev pub ActsLeaveTurns : Type 0
ActsLeaveTurns =
    (c : Case) (guest : ℕ) (d : Act × Done) (st : State) → ActTells c d → IsHeld c st
    → does c guest d.0 d.0.what st ≡ Some d.1
    → IsHeld c d.1.state
    × ((n ring : ℕ) (u : Under) → find (is_under_on n ring) st.under ≡ Some u → is_turn_of u.command d ≡ false
    → LeavesTurn n ring u st d.1.state)

-- ---- where turns settle

-- the next step of a turn is printed
abbrev pub Prints : Under → Type 0
Prints u =
    (h : Hand) (v : Vhost) (st : State) (d : Done) → step_in h u u.turning v st ≡ Some d → is_none d.step ≡ false

-- it isn't, and leads the turn there, while the ring is this one
pub record IsQuiet (n ring : ℕ) (u : Under) (ring_is : RingSettings) (after : Option Under) : Type 0 where
  pub quiet : (h : Hand) (v : Vhost) (st : State) (d : Done) → ring_at ring v.settings ≡ ring_is
      → step_in h u u.turning v st ≡ Some d
      → (is_none d.step ≡ true) × (find (is_under_on n ring) d.state.under ≡ after)
  pub same : gone_on u after ≡ after

-- these acts are some of all the acts that are told, and follow from a state in which turns are held by those under way
pub record IsFollowed (c : Case) (guest : ℕ) (all rest : List (Act × Done)) (st : State) : Type 0 where
  pub follow : Follow c guest st rest
  pub later : (e : Act × Done) → In e rest → In e all
  pub state : IsHeld c st

-- A turn whose next step is printed stays; one whose next step isn't goes on to where this leads, and on from there.
pub record TurnsSettleOn (c : Case) (guest n ring : ℕ) (all : List (Act × Done)) : Type 0 where
  pub prints : (u : Under) → Prints u → (rest : List (Act × Done)) (st : State) → IsFollowed c guest all rest st
      → find (is_under_on n ring) st.under ≡ Some u → settled n ring rest (Some u) ≡ Some u
  pub quiet : (u : Under) (ring_is : RingSettings) (after final : Option Under) → IsQuiet n ring u ring_is after
      → ((ds : List (Act × Done)) (st : State) → IsFollowed c guest all ds st
      → find (is_under_on n ring) st.under ≡ after → settled n ring ds after ≡ final)
      → (rest : List (Act × Done)) (st : State) → IsFollowed c guest all rest st
      → find (is_under_on n ring) st.under ≡ Some u
      → (v : Vhost) → at st.vhosts n ≡ Some v → ring_at ring v.settings ≡ ring_is
      → (e : Act × Done) → In e rest → e.0.told.command ≡ u.command
      → settled n ring rest (Some u) ≡ final

abbrev pub TurnsSettle : Type 0
TurnsSettle =
    (c : Case) (guest n ring : ℕ) (all : List (Act × Done)) → ((d : Act × Done) → In d all → ActTells c d)
    → TurnsSettleOn c guest n ring all

-- ---- transmit turns

-- a transmit turn that gave its frame to the host, over a ring
abbrev pub given : TxTurn → RingSettings → TxTurn
given t r = record t { held = None; stage = tx_after_packet t r.queue }

abbrev pub after_giving : Under → TxTurn → List ChainText → RingSettings → Option Under
after_giving u t chains r =
    if is_none (tx_answer (given t r) chains)
    then Some (record u { turning = Sending (given t r) chains })
    else None

-- its steps are printed, but for the one that gives a frame
abbrev pub SendsArePrinted : Type 0
SendsArePrinted =
    (u : Under) (t : TxTurn) (chains : List ChainText) → u.turning ≡ Sending t chains
    → (is_quiet_tx t.stage ≡ false → Prints u)
    × ((f : FrameValue) (r : RingSettings) → t.stage ≡ tx.Give → t.held ≡ Some f
    → IsQuiet u.vhost 1 u r (after_giving u t chains r))
