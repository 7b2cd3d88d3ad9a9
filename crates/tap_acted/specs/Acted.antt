-- This project's own: the acts that a run made on a guest, one for each of its events that is one.
use Rattle.std.specs.Prelude.{ℕ, ◌==◌, List, [], ◌++◌, slice_get, Option, Some, None, option_map, option_to_list}
use Rattle.tap_ledger.specs.declared.hand.Hand.{Hand}
use Rattle.tap_ledger.specs.declared.hand.Hand.TheVariants as hand
use Rattle.scen_text.specs.declared.scenario.Scenario.{Scenario}
use Rattle.scen_words.specs.declared.command.Command.{Command}
use Rattle.scen_words.specs.declared.command.Command.TheVariants as command
use Rattle.tap_ground.specs.Options.{◌>>=◌, only_if}
use Rattle.tap_world.specs.declared.event.Event.{Event}
use Rattle.tap_world.specs.declared.event.EventKind.{EventKind}
use Rattle.tap_world.specs.declared.event.EventKind.TheVariants as event
use Rattle.tap_world.specs.ByNumber.{at}
use Rattle.tap_world.specs.Guests.{is_ring}
use Rattle.tap_world.specs.Line.{front_place}
use Rattle.tap_world.specs.LineSteps.{changed}
use Rattle.tap_world.specs.LineSteps.Change.{Takes}
use Rattle.tap_world.specs.Setup.{Numbered, Setup, setup_of}
use Rattle.tap_world.specs.StepControl.{driven_vhost}
use Rattle.tap_world.specs.StepTurns.{front_frame}
use Rattle.tap_world.specs.World.{Actor, Doing, World, current}
use Rattle.tap_world.specs.World.Doing.{Backs, Begun, Receives, Transmits}
use Rattle.tap_legal.specs.Replay.{vhost_named}
use Rattle.tap_sights.specs.Acts.{Act, What}
use Rattle.tap_sights.specs.Acts.What.{Backed, Called, FoundOff, OnBytes, Turned}
use Rattle.tap_grows.specs.Leads.{Leads}

-- ---- what an event does on a guest

-- what a receive worker's file hands it: the batch's front, after what moved there before it; none, where the front place
-- isn't ready; nothing, where the event asks for no frame
abbrev pub hand_at : Setup → World → EventKind → ℕ → ℕ → Option Hand
hand_at s w event.Hand vhost file = do
  f ← at w.files file
  g ← changed (Takes vhost) f
  frame ← front_frame s g
  Some (hand.Got frame)
hand_at s w event.NotReady vhost file = do
  f ← at w.files file
  Some (hand.NotReady (front_place f))
hand_at s w kind vhost file = Some hand.Off

-- an event of a turn; what is done at the table, for a frame that the host has, is no act
abbrev pub of_rx_turn : Setup → World → EventKind → ℕ → Doing → Option What
of_rx_turn s w event.Owner vhost Begun = Some FoundOff
of_rx_turn s w kind vhost Begun = Some (Turned hand.Off)
of_rx_turn s w kind vhost (Receives file t) = option_map Turned (hand_at s w kind vhost file)
of_rx_turn s w kind vhost doing = None

abbrev pub of_tx_turn : EventKind → Doing → Option What
of_tx_turn event.Owner Begun = Some FoundOff
of_tx_turn kind Begun = Some (Turned hand.Off)
of_tx_turn kind (Transmits file t chains) = Some (Turned hand.Off)
of_tx_turn kind doing = None

-- a backend is judged by the table that its actor has seen, where its command comes to the ring; a ring that there isn't
-- has no act
abbrev pub of_backend : ℕ → ℕ → Doing → Option What
of_backend ring seen (Backs refusal) = only_if (is_ring ring) (Backed seen)
of_backend ring seen doing = None

-- what the next event of a command is on its guest, where it is an act
abbrev pub what_of : Setup → World → EventKind → ℕ → Doing → Command → Option What
what_of s w kind seen doing (command.Poke guest addr bytes) = Some OnBytes
what_of s w kind seen doing (command.Peek guest addr len) = Some OnBytes
what_of s w kind seen doing (command.Backend vhost ring file) = of_backend ring seen doing
what_of s w kind seen doing (command.RxTurn vhost) = of_rx_turn s w kind vhost doing
what_of s w kind seen doing (command.TxTurn vhost) = of_tx_turn kind doing
what_of s w kind seen doing c = option_map (λ vhost. Called) (driven_vhost c)

-- the guest that a command is on
abbrev pub guest_on : World → Command → Option ℕ
guest_on w (command.Poke guest addr bytes) = Some guest
guest_on w (command.Peek guest addr len) = Some guest
guest_on w c = do
  vhost ← vhost_named c
  v ← at w.vhosts vhost
  Some v.guest

-- ---- the acts of a run

-- the act of an event of this actor's command, where it is one on this guest
abbrev pub act_by : Setup → World → Event → ℕ → Actor → Numbered → Option Act
act_by s w e guest a c = do
  other ← guest_on w c.command
  what ← what_of s w e.kind a.seen a.doing c.command
  only_if (other == guest) (record {
    told = record { phase = w.phase; actor = e.actor; command = c.number };
    command = c.command;
    what = what;
  })

abbrev pub act_of : Setup → World → Event → ℕ → Option Act
act_of s w e guest = do
  a ← slice_get w.actors e.actor
  c ← current a.script
  act_by s w e guest a c

-- the acts on a guest, one for each of the run's events that is one
abbrev pub acts_on : (s : Scenario) → ℕ → (w u : World) → Leads s w u → List Act
acts_on s guest w u Leads.Here = []
acts_on s guest w u (Leads.Goes v x e h lead is) =
    acts_on s guest w v lead ++ option_to_list (act_of (setup_of s) v e guest)
acts_on s guest w u (Leads.Begins v ended p lead between is) = acts_on s guest w v lead
