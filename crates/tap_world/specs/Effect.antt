-- This project's own: what an event changes, as data, and the world after it.
use Rattle.std.specs.Prelude.{ℕ, ◌==◌, if◌then◌else◌, List, [], ◌∷◌, ◌++◌, map, drop, slice_get, Option, Some, None, option_map, option_to_list}
use Rattle.tap_frame.specs.declared.name.Name.{Name}
use Rattle.tap_steer.specs.declared.operation.Op.{Op}
use Rattle.tap_trace.specs.declared.answer.Answer.{Answer}
use Rattle.tap_trace.specs.declared.answer.Answer.TheVariants as answer
use Rattle.tap_trace.specs.declared.kind.Kind.{Kind}
use Rattle.guest_mem.specs.Memory.{Contents}
use Rattle.tap_world.specs.declared.event.Found.{Found}
use Rattle.tap_world.specs.declared.event.Heard.{Heard}
use Rattle.tap_world.specs.declared.event.Heard.TheVariants as heard
use Rattle.tap_ground.specs.Options.{◌>>=◌, only_if}
use Rattle.tap_world.specs.ByNumber.{at, with_at, with_nth}
use Rattle.tap_world.specs.Line.{File, is_empty}
use Rattle.tap_world.specs.LineSteps.{Change, changed}
use Rattle.tap_world.specs.Guests.{Guest, Vhost}
use Rattle.tap_world.specs.World.{Actor, Doing, Said, World}
use Rattle.tap_world.specs.World.Doing.{Begun, Purges}

-- no file changes, or one does
pub data OnFiles : Type 0 where
  NoFile : OnFiles
  OnFile : ℕ → Change → OnFiles

-- no guest changes, or one does, with its step
pub data OnGuests : Type 0 where
  NoGuest : OnGuests
  OnGuest : ℕ → Contents → Option Kind → OnGuests

-- no vhost changes, or one does
pub data OnVhosts : Type 0 where
  NoVhost : OnVhosts
  OnVhost : ℕ → Vhost → OnVhosts

-- how the command goes on: having seen a version, and with what the event found; to its end, with its answer; or as
-- it was
pub data Onward : Type 0 where
  Goes : ℕ → Doing → Found → Onward
  Ends : ℕ → Answer → Onward
  Stays : Found → Onward

-- an event's effect: what it publishes; which file, guest and vhost it changes; the names that it gives to the host and
-- drops; who holds the writer after it; and how its command goes on
pub record Effect : Type 0 where
  pub ops : List Op
  pub files : OnFiles
  pub guests : OnGuests
  pub vhosts : OnVhosts
  pub hosts : List Name
  pub drops : List Name
  pub writer : Option ℕ
  pub onward : Onward

-- nothing but that the command goes on
abbrev pub only : Onward → World → Effect
only o w = record {
  ops = [];
  files = NoFile;
  guests = NoGuest;
  vhosts = NoVhost;
  hosts = [];
  drops = [];
  writer = w.writer;
  onward = o;
}

-- and one file changes
abbrev pub on_file : ℕ → Change → Onward → World → Effect
on_file file change o w = record (only o w) { files = OnFile file change }

-- ---- the world after it

abbrev pub files_after : OnFiles → List (Option File) → Option (List (Option File))
files_after NoFile files = Some files
files_after (OnFile file change) files = do
  f ← at files file
  g ← changed change f
  Some (with_at file g files)

abbrev pub guests_after : ℕ → ℕ → OnGuests → List (Option Guest) → Option (List (Option Guest))
guests_after actor command NoGuest guests = Some guests
guests_after actor command (OnGuest guest memory step) guests = do
  g ← at guests guest
  Some (with_at guest (record {
    memory = memory;
    steps = g.steps ++ option_to_list (option_map (λ k. record { actor = actor; command = command; kind = k }) step);
  }) guests)

abbrev pub vhosts_after : OnVhosts → List (Option Vhost) → List (Option Vhost)
vhosts_after NoVhost vhosts = vhosts
vhosts_after (OnVhost vhost v) vhosts = with_at vhost v vhosts

-- the actor after its event
abbrev pub actor_after : Onward → Actor → Actor
actor_after (Goes seen doing found) a = record a { seen = seen; doing = doing }
actor_after (Ends seen answer) a = record a { seen = seen; script = drop 1 a.script; doing = Begun }
actor_after (Stays found) a = a

-- the answer, where the command ends
abbrev pub said_after : Onward → ℕ → ℕ → ℕ → List Said
said_after (Ends seen answer) phase actor command =
    record { phase = phase; line = record { actor = actor; command = command; seen = seen; answer = answer } } ∷ []
said_after other phase actor command = []

-- the world after an event of this actor and command
abbrev pub with_effect : Effect → ℕ → Actor → ℕ → World → Option World
with_effect e actor a command w = do
  files ← files_after e.files w.files
  guests ← guests_after actor command e.guests w.guests
  Some (record {
    ops = w.ops ++ map (λ x. record { phase = w.phase; actor = actor; command = command; op = x }) e.ops;
    files = files;
    guests = guests;
    vhosts = vhosts_after e.vhosts w.vhosts;
    hosted = w.hosted ++ e.hosts;
    dropped = w.dropped ++ e.drops;
    writer = e.writer;
    phase = w.phase;
    actors = with_nth actor (actor_after e.onward a) w.actors;
    said = w.said ++ said_after e.onward w.phase actor command;
  })

-- ---- the end of a purge

-- a detach whose gate is shut and whose file is empty: its actor, the actor's state, its command and its version
pub record Ending : Type 0 where
  pub actor : ℕ
  pub state : Actor
  pub command : ℕ
  pub version : ℕ

abbrev pub purge_of : Doing → Option (ℕ × ℕ)
purge_of (Purges file version) = Some (file, version)
purge_of other = None

-- the one that ends now; it holds the writer
abbrev pub ending : World → Option Ending
ending w = do
  actor ← w.writer
  a ← slice_get w.actors actor
  p ← purge_of a.doing
  f ← at w.files p.0
  c ← slice_get a.script 0
  only_if (is_empty f) (record { actor = actor; state = a; command = c.number; version = p.1 })

-- it answers with its version, and gives back the writer
abbrev pub ended : Ending → World → World
ended e w = record w {
  writer = None;
  actors = with_nth e.actor (actor_after (Ends e.state.seen (answer.Version e.version)) e.state) w.actors;
  said = w.said ++ said_after (Ends e.state.seen (answer.Version e.version)) w.phase e.actor e.command;
}

-- the world in which the detach that ends has ended, whoever's event emptied its file
abbrev pub settled : World → Option Ending → World
settled w None = w
settled w (Some e) = ended e w

-- what the event answers: what it found, or the answer of its command where it is the last one
abbrev pub heard_of : Onward → Heard
heard_of (Goes seen doing found) = heard.Found found
heard_of (Ends seen answer) = heard.Answer answer
heard_of (Stays found) = heard.Found found

abbrev pub heard_by : ℕ → Onward → Option Ending → Heard
heard_by actor o None = heard_of o
heard_by actor o (Some e) = if e.actor == actor then heard.Answer (answer.Version e.version) else heard_of o
