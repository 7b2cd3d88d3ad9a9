-- This project's own: the replays of the guests, told by the acts on them. Clauses a and h need no more of the replays.
use Rattle.std.specs.Prelude.{◌≡◌, ℕ, ◌==◌, filter, flat_map, Bool, true, false, is_some, List, [], ◌∷◌, Some}
use Rattle.std.specs.Option.{option_map_or}
use Rattle.tap_world.specs.StepTurns.{turn_on}
use Rattle.tap_legal.specs.Numbered.{Asked}
use Rattle.tap_legal.specs.Case.{Case}
use Rattle.tap_legal.specs.Lookups.{asked_at}
use Rattle.tap_legal.specs.Replay.{Began, Packet, Replay, Unset}
use Rattle.tap_legal.specs.Replays.{Replays}
use Rattle.tap_legal.specs.Served.{served_by}
use Rattle.tap_sights.specs.Acts.{Act, Done}
use Rattle.tap_sights.specs.GuestFacts.{GuestFacts}
use Rattle.tap_sights.specs.Sight.{In, Seen}

-- ---- what one replay has, by the acts on its guest

-- a packet is of a turn of this vhost
abbrev pub is_on_vhost : Case → ℕ → Packet → Bool
is_on_vhost c vhost p =
    option_map_or (λ (a : Asked). option_map_or (λ ring. ring.0 == vhost) (turn_on a.command) false)
    (asked_at c p.command) false

-- an unset took the file off its ring that an act of its command gave up
pub record IsUnset (ds : List (Act × Done)) (u : Unset) : Type 0 where
  pub file : ℕ
  pub had : u.file ≡ Some file
  pub act : Act × Done
  pub there : In act ds
  pub by : act.0.told.command ≡ u.command
  pub gave : act.1.gave ≡ Some file

-- a turn began on a ring that had a file, which is the one that the steps tell
pub record IsBegun (c : Case) (t : Began) : Type 0 where
  pub file : ℕ
  pub had : t.file ≡ Some file
  pub served : served_by c t.command ≡ Some file

-- a command is done where one of its acts answers
pub record IsFinished (ds : List (Act × Done)) (command : ℕ) : Type 0 where
  pub act : Act × Done
  pub there : In act ds
  pub by : act.0.told.command ≡ command
  pub answers : is_some act.1.answer ≡ true

-- The replay of a guest accepted the frames that the acts accepted, in their order. A packet is over in it as soon as
-- its last step is printed, and by the acts as its frame leaves the worker's hand; so packets of two vhosts may have
-- another order, and those of one vhost haven't.
pub record IsReplayed (c : Case) (ds : List (Act × Done)) (r : Replay) : Type 0 where
  pub accepted : r.accepted ≡ flat_map (λ (d : Act × Done). d.1.accepted) ds
  pub packets : (vhost : ℕ) → filter (is_on_vhost c vhost) r.packets
      ≡ filter (is_on_vhost c vhost) (flat_map (λ (d : Act × Done). d.1.packets) ds)
  pub turns : (t : Began) → In t r.turns → IsBegun c t
  pub unsets : (u : Unset) → In u r.unsets → IsUnset ds u
  pub finished : (command : ℕ) → In command r.finished → IsFinished ds command

-- ---- all guests

abbrev pub EachReplayed : Case → List (List (Act × Done)) → Replays → Type 0
EachReplayed c [] [] = Unit {0}
EachReplayed c (ds ∷ gs) (r ∷ rs) = IsReplayed c ds r.1 × EachReplayed c gs rs
EachReplayed c gs rs = ⊥

-- the replays, one for each guest, did what its acts did
pub record Replayed (c : Case) {s : Seen} (g : GuestFacts c s) (rs : Replays) : Type 0 where
  pub each : EachReplayed c g.done rs
