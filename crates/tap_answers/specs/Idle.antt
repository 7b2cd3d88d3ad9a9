-- This project's own: where a receive turn that ends since no frame was ready had found none. Where it has chains to
-- publish it does so before it ends, and others act between.
use Rattle.std.specs.Prelude.{◌≡◌, ◌⊎◌, ℕ, Bool, true, false, slice_get, Some}
use Rattle.scen_laid.specs.Laid.{IsLaid}
use Rattle.scen_text.specs.declared.scenario.Scenario.{Scenario}
use Rattle.tap_grows.specs.Leads.{Leads}
use Rattle.tap_ledger.specs.declared.hand.Hand.TheVariants as hand
use Rattle.tap_sound.specs.Worlds.{IsWorldOf}
use Rattle.tap_trace.specs.declared.turn.TurnText.TheVariants as text
use Rattle.vring_turns.specs.declared.end.End.{End}
use Rattle.vring_turns.specs.declared.end.End.TheVariants as end
use Rattle.vring_turns.specs.declared.stage.After.TheVariants as after
use Rattle.vring_turns.specs.declared.stage.RxStage.{RxStage}
use Rattle.vring_turns.specs.declared.stage.RxStage.TheVariants as rx
use Rattle.vring_turns.specs.RxTurn.{RxTurn}
use Rattle.tap_world.specs.World.{Actor, World}
use Rattle.tap_world.specs.World.Doing.{Begun, Receives}
use Rattle.tap_answers.specs.SaysShared.{Occasion}
use Rattle.tap_answers.specs.SaysTurns.{HasNoFrame, Received}

-- a turn ends, or is to end, since no frame was ready
abbrev pub is_idle_end : End → Bool
is_idle_end end.Idle = true
is_idle_end e = false

abbrev pub is_idle : RxStage → Bool
is_idle (rx.NoticesOff (after.PutBack e)) = is_idle_end e
is_idle (rx.PutBack e) = is_idle_end e
is_idle (rx.Publish (Some e)) = is_idle_end e
is_idle (rx.Ended e) = is_idle_end e
is_idle stage = false

-- A turn that tells so was to end so before its last event, or finds none at it.
abbrev pub IdleTurnsAreIdle : Type 0
IdleTurnsAreIdle =
    (o : Occasion) (vhost seen packets bytes : ℕ) (h : Received o vhost seen packets bytes text.Idle)
    → (is_idle h.turn.stage ≡ true) ⊎ ((place : ℕ) × (h.handed ≡ hand.NotReady place))

-- On the way from a world to another an actor's turn on a file, which is under way in both, found no frame ready.
pub record FoundNone (s : Scenario) (start w : World) (me : ℕ) (a : Actor) (file : ℕ) : Type 0 where
  pub there : World
  pub from : Leads s start there
  pub on : Leads s there w
  pub was : Actor
  pub is_was : slice_get there.actors me ≡ Some was
  pub same : was.script ≡ a.script
  pub turn : RxTurn
  pub doing : was.doing ≡ Receives file turn
  pub place : ℕ
  pub none : HasNoFrame there file place

-- A turn that is to end so found none since its actor had begun no command.
abbrev pub IdleTurnsFoundNone : Type 0
IdleTurnsFoundNone =
    (s : Scenario) (start w : World) (me : ℕ) (begun a : Actor) (file : ℕ) (t : RxTurn) → IsLaid s
    → IsWorldOf s start → slice_get start.actors me ≡ Some begun → begun.doing ≡ Begun → Leads s start w
    → slice_get w.actors me ≡ Some a → a.doing ≡ Receives file t → is_idle t.stage ≡ true
    → FoundNone s start w me a file
