-- This project's own: what one event does to the world; none where it isn't allowed.
use Rattle.std.specs.Prelude.{ℕ, ◌==◌, ◌&&◌, Bool, if◌then◌else◌, slice_get, Option, Some, None, is_some}
use Rattle.scen_words.specs.declared.command.Command.{Command}
use Rattle.scen_words.specs.declared.command.Command.TheVariants as command
use Rattle.tap_world.specs.declared.event.Event.{Event}
use Rattle.tap_world.specs.declared.event.EventKind.{EventKind}
use Rattle.tap_world.specs.declared.event.EventKind.TheVariants as event
use Rattle.tap_world.specs.declared.event.Heard.{Heard}
use Rattle.tap_ground.specs.Options.{◌>>=◌}
use Rattle.tap_world.specs.Setup.{Setup}
use Rattle.tap_world.specs.World.{Actor, Doing, World, current, table}
use Rattle.tap_world.specs.World.Doing.{Begun}
use Rattle.tap_world.specs.StepControl.{calls, pokes}
use Rattle.tap_world.specs.StepBackend.{backs, looks_to_back, owns, publishes_back}
use Rattle.tap_world.specs.StepTurns.{finds_off}
use Rattle.tap_world.specs.StepTransmits.{turn_finds_none, hands, hosts_of_turn, looks_at_flow, teaches, turns}
use Rattle.tap_world.specs.Effect.{Effect, ending, heard_by, settled, with_effect}
use Rattle.tap_world.specs.StepTable.{looks, publishes}
use Rattle.tap_world.specs.StepRing.{claims, cuts, drops_for, finds_none, full_now, gone_now, hosts, if_held, leaves, meets_worker, moves, puts, reopens, resizes, shuts, spent_now}
use Rattle.tap_world.specs.Scripts.{is_kind, next_kind}
use Rattle.tap_world.specs.Stands.{if_new}

-- ---- rows that several kinds of commands have

abbrev pub or_else : Option Effect → Option Effect → Option Effect
or_else None e = e
or_else (Some r) e = Some r

-- the first look of a command, or that of a transmit turn at a frame that it gave to the host
abbrev pub look_row : Setup → World → ℕ → Actor → ℕ → Command → Option Effect
look_row s w actor a n (command.Backend vhost ring file) =
    looks_to_back (table s w) w actor (command.Backend vhost ring file)
look_row s w actor a n (command.TxTurn vhost) = looks_at_flow s w a.doing
look_row s w actor a n c = looks s w actor a n c

-- a publication: of a learning, of a backend, or of a command's own operation
abbrev pub publish_row : Setup → World → ℕ → Doing → Command → Option Effect
publish_row s w actor doing (command.Backend vhost ring file) =
    if_held w actor (publishes_back w doing (command.Backend vhost ring file))
publish_row s w actor doing (command.TxTurn vhost) = teaches w doing
publish_row s w actor doing c = publishes s w actor doing c

-- a read's or a purge's, or a turn's
abbrev pub out_row : Setup → World → ℕ → ℕ → ℕ → Doing → Command → Option Effect
out_row s w actor n seen doing c = or_else (leaves s w seen doing) (turns w actor n seen doing c)

abbrev pub not_ready_row : World → ℕ → ℕ → Doing → Command → Option Effect
not_ready_row w actor seen doing c = or_else (finds_none w seen doing) (turn_finds_none w actor seen doing c)

-- a read meets a worker, a turn no backend, or a backend changes the owner
abbrev pub owner_row : World → ℕ → ℕ → Doing → Command → Option Effect
owner_row w actor seen doing (command.Backend vhost ring file) =
    if_held w actor (owns w seen doing (command.Backend vhost ring file))
owner_row w actor seen doing c = or_else (meets_worker w seen doing) (finds_off w seen doing c)

abbrev pub drive_row : Setup → World → ℕ → ℕ → Doing → Command → Option Effect
drive_row s w actor seen Begun c = calls w actor seen c
drive_row s w actor seen doing c = backs s w actor seen doing c

abbrev pub host_row : World → ℕ → ℕ → ℕ → Doing → Command → Option Effect
host_row w actor n seen doing c = or_else (hosts w actor n seen doing) (hosts_of_turn w seen doing c)

-- ---- the rows of the table of events; Fetch, Copy, PublishUsed, Notices and PutBack are of turns alone

abbrev pub row : Setup → World → EventKind → ℕ → Actor → ℕ → Command → Option Effect
row s w event.Look actor a n c = look_row s w actor a n c
row s w event.Publish actor a n c = publish_row s w actor a.doing c
row s w event.Claim actor a n c = claims w actor n a.seen a.doing
row s w event.Ready actor a n c = puts w actor a.seen a.doing
row s w event.Full actor a n c = drops_for full_now w actor n a.seen a.doing
row s w event.Gone actor a n c = drops_for gone_now w actor n a.seen a.doing
row s w event.Spent actor a n c = drops_for spent_now w actor n a.seen a.doing
row s w event.Shut actor a n c = if_held w actor (shuts w a.seen a.doing)
row s w event.Reopen actor a n c = if_held w actor (reopens w a.seen a.doing)
row s w event.Resize actor a n c = if_held w actor (resizes w a.seen a.doing)
row s w event.Cut actor a n c = if_held w actor (cuts w a.seen a.doing)
row s w event.Move actor a n c = moves w a.doing
row s w event.Hand actor a n c = hands s w actor a.seen a.doing c
row s w event.PutBack actor a n c = turns w actor n a.seen a.doing c
row s w event.Out actor a n c = out_row s w actor n a.seen a.doing c
row s w event.NotReady actor a n c = not_ready_row w actor a.seen a.doing c
row s w event.Owner actor a n c = owner_row w actor a.seen a.doing c
row s w event.HostIn actor a n c = host_row w actor n a.seen a.doing c
row s w event.Poke actor a n c = pokes w a.seen c
row s w event.Peek actor a n c = pokes w a.seen c
row s w event.Drive actor a n c = drive_row s w actor a.seen a.doing c
row s w event.Fetch actor a n c = turns w actor n a.seen a.doing c
row s w event.Copy actor a n c = turns w actor n a.seen a.doing c
row s w event.PublishUsed actor a n c = turns w actor n a.seen a.doing c
row s w event.Notices actor a n c = turns w actor n a.seen a.doing c

-- the row of an event, which has to be the next one of its actor's command
abbrev pub row_of : Setup → World → Event → Option Effect
row_of s w e = do
  a ← slice_get w.actors e.actor
  c ← current a.script
  if c.number == e.command && is_kind e.kind (next_kind w a.doing c.command)
      then row s w e.kind e.actor a c.number c.command else None

-- what an event changes: the names that it drops, hosts or places stand nowhere yet
abbrev pub effect : Setup → World → Event → Option Effect
effect s w e = do
  r ← row_of s w e
  if_new w r

-- the world after an effect, with the detach that ends by it, and what the event answers
abbrev pub stepped : Effect → Event → Actor → World → Option (World × Heard)
stepped r e a w = do
  v ← with_effect r e.actor a e.command w
  Some (settled v (ending v), heard_by e.actor r.onward (ending v))

abbrev pub step : Setup → World → Event → Option (World × Heard)
step s w e = do
  r ← effect s w e
  a ← slice_get w.actors e.actor
  stepped r e a w

-- an event is allowed where it has an effect on the world
abbrev pub is_allowed : Setup → World → Event → Bool
is_allowed s w e = is_some (step s w e)
