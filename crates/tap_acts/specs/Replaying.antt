-- This project's own: how the replay of a guest's printed steps stands to the acts on it, of which some print nothing.
use Rattle.std.specs.Prelude.{◌≡◌, ◌⊎◌, ℕ, ◌≤◌, ◌==◌, ◌&&◌, if◌then◌else◌, Bool, true, false, is_some, is_none, find, flat_map, option_map, length, List, [], ◌∷◌, ◌++◌, Option, Some, None}
use Rattle.tap_frame.specs.Frame.{FrameValue}
use Rattle.vring_turns.specs.declared.end.End.{End}
use Rattle.vring_turns.specs.declared.end.End.TheVariants as end
use Rattle.vring_turns.specs.declared.stage.RxStage.{RxStage}
use Rattle.vring_turns.specs.declared.stage.RxStage.TheVariants as rx
use Rattle.vring_turns.specs.RxTurn.{RxTurn}
use Rattle.tap_world.specs.ByNumber.{at}
use Rattle.tap_world.specs.Guests.{Vhost}
use Rattle.tap_world.specs.StepTurns.{turn_on}
use Rattle.tap_legal.specs.Numbered.{Asked}
use Rattle.tap_legal.specs.Case.{Case}
use Rattle.tap_legal.specs.LegalGuests.{has_steps}
use Rattle.tap_legal.specs.Lookups.{asked_at}
use Rattle.tap_legal.specs.Replay.{Accepted, Replay, Turning, Under}
use Rattle.tap_legal.specs.Replay.Turning.{Receiving, Sending}
use Rattle.tap_legal.specs.ReplayTurns.{is_under_on, turning_on}
use Rattle.tap_sights.specs.Acts.{Act, Done, State, What, does}
use Rattle.tap_sights.specs.Acts.What.{Turned}
use Rattle.tap_sights.specs.Replayed.{IsFinished, IsUnset}
use Rattle.tap_sights.specs.Sight.{In}

-- ---- acts one after another

-- each act does what is told of it, in the state that the one before it left
abbrev pub Follow : Case → ℕ → State → List (Act × Done) → Type 0
Follow c guest st [] = Unit {0}
Follow c guest st (d ∷ ds) = (does c guest d.0 d.0.what st ≡ Some d.1) × Follow c guest d.1.state ds

-- ---- turns under way

abbrev pub is_turned : What → Bool
is_turned (Turned h) = true
is_turned other = false

-- a step of the turn of a command
abbrev pub is_turn_of : ℕ → Act × Done → Bool
is_turn_of command d = is_turned d.0.what && d.0.told.command == command

-- the turn of a command, gone on to where this one stands
abbrev pub gone_on : Under → Option Under → Option Under
gone_on u now = option_map (λ (w : Under). record u { turning = w.turning }) now

-- The turn on a ring, as the acts to come leave it before its next printed step. Between two printed steps a turn has
-- steps on the file or the host alone; in the replay they come at once.
abbrev pub settled : ℕ → ℕ → List (Act × Done) → Option Under → Option Under
settled vhost ring [] now = now
settled vhost ring (d ∷ ds) None = None
settled vhost ring (d ∷ ds) (Some u) =
    if is_turn_of u.command d
    then (if is_none d.1.step
    then settled vhost ring ds (gone_on u (find (is_under_on vhost ring) d.1.state.under))
    else Some u)
    else settled vhost ring ds (Some u)

-- how much a frame needs for which there were too few chains isn't seen in the steps
abbrev pub without_need : End → End
without_need (end.Short need had) = end.Short 0 had
without_need other = other

abbrev pub stage_without_need : RxStage → RxStage
stage_without_need (rx.PutBack e) = rx.PutBack (without_need e)
stage_without_need (rx.Publish e) = rx.Publish (option_map without_need e)
stage_without_need (rx.Ended e) = rx.Ended (without_need e)
stage_without_need other = other

-- a frame that stands for one which isn't copied has at least as many bytes
abbrev pub StandsFor : Option FrameValue → Option FrameValue → Type 0
StandsFor None None = Unit {0}
StandsFor (Some f) (Some g) = (f ≡ g) ⊎ (length f.made ≤ length g.made)
StandsFor f g = ⊥

-- two receive turns that go the same way, up to the frame in hand and what it needs
pub record SameTurn (t u : RxTurn) : Type 0 where
  pub same : record t { held = None; stage = rx.Begin } ≡ record u { held = None; stage = rx.Begin }
  pub stage : stage_without_need t.stage ≡ stage_without_need u.stage
  pub held : StandsFor t.held u.held

abbrev pub SameTurning : Turning → Turning → Type 0
SameTurning (Sending t chains) (Sending u others) = (t ≡ u) × (chains ≡ others)
SameTurning (Receiving t) (Receiving u) = SameTurn t u
SameTurning t u = ⊥

abbrev pub SameUnder : Option Under → Option Under → Type 0
SameUnder None None = Unit {0}
SameUnder (Some u) (Some v) = (u.vhost ≡ v.vhost) × (u.command ≡ v.command) × SameTurning u.turning v.turning
SameUnder u v = ⊥

-- who holds the turn on a ring, and a vhost whose turns are held by those that are under way
abbrev pub holder_on : ℕ → ℕ → List Under → Option ℕ
holder_on vhost ring us = option_map (λ (u : Under). u.command) (find (is_under_on vhost ring) us)

abbrev pub held_as : ℕ → List Under → Vhost → Vhost
held_as vhost us v = record v { rx_turn = holder_on vhost 0 us; tx_turn = holder_on vhost 1 us }

-- ---- a replay among the acts

-- all frames that acts accept
abbrev pub all_accepted : List (Act × Done) → List Accepted
all_accepted ds = flat_map (λ (d : Act × Done). d.1.accepted) ds

-- Of a state of the acts: its vhosts' turns are held by those under way, each of which is a turn of its ring.
pub record IsHeld (c : Case) (st : State) : Type 0 where
  pub held : (n : ℕ) (v : Vhost) → at st.vhosts n ≡ Some v → held_as n st.under v ≡ v
  pub asked : (u : Under) → In u st.under
      → (x : Asked) × (asked_at c u.command ≡ Some x)
      × (turn_on x.command ≡ Some (u.vhost, turning_on u.turning))

-- Of the acts `all` these are to come, from this state on: the replay, before the next printed step, is whole, and has
-- the same memory and vhosts; its turns have had the steps to come that print nothing.
pub record IsAmong (c : Case) (all rest : List (Act × Done)) (st : State) (r : Replay) : Type 0 where
  pub state : IsHeld c st
  pub broken : r.broken ≡ false
  pub fails : r.fails ≡ []
  pub memory : r.memory ≡ st.memory
  pub vhosts : (n : ℕ) → at r.vhosts n ≡ option_map (held_as n r.under) (at st.vhosts n)
  pub under : (vhost ring : ℕ)
      → SameUnder (settled vhost ring rest (find (is_under_on vhost ring) st.under))
      (find (is_under_on vhost ring) r.under)
  -- a command that is done prints nothing any more
  pub over : (n : ℕ) → In n r.finished → (d : Act × Done) → In d rest → d.0.told.command ≡ n
      → d.1.step ≡ None
  -- a turn that is over in the replay alone is done there
  pub ended : (vhost ring : ℕ) (u : Under) → find (is_under_on vhost ring) st.under ≡ Some u
      → find (is_under_on vhost ring) r.under ≡ None → In u.command r.finished
  -- what it gathered
  pub accepted : r.accepted ++ all_accepted rest ≡ all_accepted all
  pub unset : (u : _) → In u r.unsets → IsUnset all u
  pub finished : (n : ℕ) → In n r.finished → IsFinished all n
  pub done : (d : Act × Done) → In d all → is_some d.1.answer ≡ true → has_steps d.0.command ≡ true
      → In d rest ⊎ In d.0.told.command r.finished
