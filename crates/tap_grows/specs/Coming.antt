-- This project's own: the operations of the table, with the one that the command which holds the writer has begun at a
-- gate or a ring and is still to publish.
use Rattle.std.specs.Prelude.{ℕ, List, [], ◌++◌, map, slice_get, Option, option_to_list}
use Rattle.std.specs.Option.{option_map_or}
use Rattle.tap_steer.specs.declared.operation.Op.{Op}
use Rattle.scen_words.specs.declared.command.Command.{Command}
use Rattle.tap_world.specs.Setup.{Numbered, Setup, op_of}
use Rattle.tap_world.specs.declared.told.Published.{Published}
use Rattle.tap_world.specs.World.{Actor, Doing, World, current}
use Rattle.tap_world.specs.World.Doing.{Opened, Shrinks}

-- an attach has opened its gate, or a resize has changed its capacity, and is to publish that
abbrev pub under_way : Setup → Doing → Command → List Op
under_way s (Opened file) c = option_to_list (op_of s c)
under_way s (Shrinks file places cuts) c = option_to_list (op_of s c)
under_way s doing c = []

-- it as it will be published
abbrev pub as_published : ℕ → ℕ → ℕ → Op → Published
as_published phase actor command x = record { phase = phase; actor = actor; command = command; op = x }

-- what an actor is to publish, as far as its command has come; and what the actor does that holds the writer
abbrev pub pending_of : Setup → ℕ → ℕ → Doing → Option Numbered → List Published
pending_of s phase actor doing now =
    option_map_or (λ (c : Numbered). map (as_published phase actor c.number) (under_way s doing c.command)) now []

abbrev pub pending_in : Setup → ℕ → List Actor → Option ℕ → List Published
pending_in s phase actors writer =
    option_map_or
    (λ actor.
    option_map_or (λ (a : Actor). pending_of s phase actor a.doing (current a.script)) (slice_get actors actor) [])
    writer []

-- the published operations, and that one behind them
abbrev pub coming : Setup → World → List Published
coming s w = w.ops ++ pending_in s w.phase w.actors w.writer
