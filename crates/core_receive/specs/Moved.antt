-- This project's own: what one step of a receive turn makes of what actors share.
use Rattle.std.specs.Prelude.{◌≡◌, ℕ, ◌++◌, List, Option, Some, option_map, option_to_list}
use Rattle.guest_mem.specs.Memory.{Contents}
use Rattle.tap_guests.specs.Side.{Side}
use Rattle.tap_guests.specs.Steps.{step_by}
use Rattle.tap_guests.specs.Turning.{RxSteps}
use Rattle.tap_guests.specs.Within.{IsIn}
use Rattle.tap_ledger.specs.declared.act.Act.{Act}
use Rattle.tap_ledger.specs.declared.hand.Hand.{Hand}
use Rattle.tap_lines.specs.Placed.{Placed}
use Rattle.tap_world.specs.ByNumber.{at, with_at}
use Rattle.tap_world.specs.Guests.{Guest}
use Rattle.tap_world.specs.StepTurns.{kind_of}
use Rattle.vring_turns.specs.declared.end.TurnEnd.{TurnEnd}
use Rattle.vring_turns.specs.RxTurn.{RxTurn}
use Rattle.core_shared.specs.Asking.{Asking}
use Rattle.core_shared.specs.declared.shared.Shared.{Shared}

-- a guest with another memory, to which the command told an event on a receive ring
abbrev pub told_to : Asking → ℕ → Act → Contents → Guest → Guest
told_to a vhost act memory g = record {
  memory = memory;
  steps = g.steps ++ option_to_list (option_map (step_by a.actor a.number) (kind_of vhost 0 act));
}

-- with this vhost, guest and files
abbrev pub with_turn_made : ℕ → ℕ → Side → Guest → List (Option Placed) → Shared → Shared
with_turn_made vhost guest side g files x = record x {
  files = files;
  guests = with_at guest g x.guests;
  vhosts = with_at vhost side x.vhosts;
}

-- A turn's next step, where a frame would be handed out so, was made on a vhost and its guest: it made this event, and
-- nothing else changed.
pub record Moved (a : Asking) (h : Hand) (vhost : ℕ) (t : RxTurn) (old : Shared) (act : Act) (over : Option TurnEnd)
    (new : Shared) : Type 0 where
  pub side : Side
  pub is_side : at old.vhosts vhost ≡ Some side
  pub guest : Guest
  pub is_guest : at old.guests side.vhost.guest ≡ Some guest
  pub left : Side
  pub memory : Contents
  pub steps : RxSteps h t a.actor side guest.memory act over left memory
  pub within : IsIn memory.regions left
  pub regions : memory.regions ≡ guest.memory.regions
  pub becomes : new ≡ with_turn_made vhost side.vhost.guest left (told_to a vhost act memory guest) old.files old
