-- This project's own: what a scenario lays down for good.
use Rattle.std.specs.Prelude.{ℕ, ◌+◌, ◌<◌, ◌==◌, if◌then◌else◌, List, [], ◌∷◌, ◌++◌, map, filter, fold, replicate, flat_map, length, min, slice_get, slice_set, take, Option, Some, None, IfSome, IsSome, unwrap_or, option_map}
use Rattle.std.specs.Option.{option_map_or}
use Rattle.guest_mem.specs.declared.region.Region.{Region}
use Rattle.tap_frame.specs.declared.name.Name.{Name}
use Rattle.tap_frame.specs.Frame.{FrameValue}
use Rattle.tap_steer.specs.declared.operation.Op.{Op}
use Rattle.tap_steer.specs.declared.operation.Op.TheVariants as op
use Rattle.tap_steer.specs.Table.{Table, first}
use Rattle.scen_words.specs.declared.command.Command.{Command}
use Rattle.scen_words.specs.declared.command.Command.TheVariants as command
use Rattle.scen_words.specs.Commands.{file_of, guest_of, program_of, vhost_of}
use Rattle.scen_words.specs.declared.declaration.Declaration.{Declaration}
use Rattle.scen_words.specs.declared.declaration.Declaration.TheVariants as declaration
use Rattle.scen_text.specs.declared.scenario.Line.{Line}
use Rattle.scen_text.specs.declared.scenario.Phase.{Phase}
use Rattle.scen_text.specs.declared.scenario.Scenario.{Scenario}
use Rattle.tap_ground.specs.Options.{◌>>=◌}
use Rattle.tap_world.specs.ByNumber.{at, put_at}
use Rattle.tap_world.specs.Frames.{FrameText, frame_in, sent_bytes, sent_front}

-- a declared file: how many places its ring has at first, and the number of the first of them
pub record Declared : Type 0 where
  pub capacity : ℕ
  pub first : ℕ

-- files, the regions of guests, and the guests of vhosts, by number; programs, with their numbers, in the order of
-- their declarations; the limit and the age of the flows of each name; the names; and the phases
pub record Setup : Type 0 where
  pub files : List (Option Declared)
  pub guests : List (Option (List Region))
  pub vhosts : List (Option ℕ)
  pub programs : List (ℕ × List ℕ)
  pub flows : List (ℕ × ℕ)
  pub names : List (List ℕ)
  pub phases : List Phase

-- ---- from a scenario

-- nothing declared: each of 64 names has flows of the usual limit and age
abbrev pub nothing_of : Scenario → Setup
nothing_of s = record {
  files = [];
  guests = [];
  vhosts = [];
  programs = [];
  flows = replicate 64 (4096, 3000);
  names = s.names;
  phases = s.phases;
}

-- with one declaration more
abbrev pub with_declaration : Setup → Declaration → Setup
with_declaration s (declaration.File file capacity first_place) =
    record s { files = put_at file (record { capacity = capacity; first = first_place }) s.files }
with_declaration s (declaration.Region guest addr len) =
    record s {
      guests = put_at guest
          (unwrap_or (at s.guests guest) [] ++ record { addr = addr; len = len } ∷ []) s.guests;
    }
with_declaration s (declaration.Vhost vhost guest) = record s { vhosts = put_at vhost guest s.vhosts }
with_declaration s (declaration.Prog program code) = record s { programs = s.programs ++ (program, code) ∷ [] }
with_declaration s (declaration.Flows name limit age) = record s { flows = slice_set s.flows name (limit, age) }

abbrev pub setup_of : Scenario → Setup
setup_of s = fold with_declaration (nothing_of s) s.declarations

-- the queue table before any operation
abbrev pub opening_table : Setup → Table
opening_table s =
    first (map (λ p. p.1) s.programs)
    (map (λ (f : Option Declared). option_map_or (λ (d : Declared). d.capacity) f 0) s.files) s.flows

-- ---- commands

-- a command with its number
pub record Numbered : Type 0 where
  pub number : ℕ
  pub command : Command

-- the commands of an actor in a phase
abbrev pub script_in : Phase → ℕ → List Numbered
script_in p actor =
    map (λ (l : Line). record { number = l.number; command = l.command })
    (filter (λ (l : Line). l.actor == actor) p.lines)

-- the line of a command's number: they are numbered from 0 over all phases
abbrev pub line_of : Setup → ℕ → Option Line
line_of s number = slice_get (flat_map (λ (p : Phase). p.lines) s.phases) number

-- the place of a program among the declared ones
abbrev pub place_among : ℕ → List (ℕ × List ℕ) → ℕ
place_among program [] = 0
place_among program (p ∷ ps) = if p.0 == program then 0 else place_among program ps + 1

abbrev pub place_of : Setup → Option ℕ → Option ℕ
place_of s program = option_map (λ p. place_among p s.programs) program

-- the operation of a command on the queue table; other commands have none
abbrev pub op_of : Setup → Command → Option Op
op_of s (command.SetIff file name flags) = Some (op.SetIff file name flags)
op_of s (command.SetQueue file flags) = Some (op.SetQueue file flags)
op_of s (command.Close file) = Some (op.Shut file)
op_of s (command.Persist file on) = Some (op.Persist file on)
op_of s (command.HdrSize file size) = Some (op.HdrSize file size)
op_of s (command.Steer file program) = Some (op.Steering file (place_of s program))
op_of s (command.Filter file program) = Some (op.Filter file (place_of s program))
op_of s (command.Tick now) = Some (op.Tick now)
op_of s (command.Resize file capacity) = Some (op.Resize file capacity)
op_of s other = None

-- the name that a command names, by its number
abbrev pub device_in : Command → Option ℕ
device_in (command.SetIff file device flags) = Some device
device_in (command.Send device hdr bytes) = Some device
device_in other = None

-- What a command names is there: its file, guest and vhost are declared, its program has a place among the programs,
-- and the name is one of the scenario's.
pub record NamesDeclared (s : Setup) (c : Command) : Type 0 where
  pub file : IfSome (file_of c) (λ file. IsSome (at s.files file))
  pub guest : IfSome (guest_of c) (λ guest. IsSome (at s.guests guest))
  pub vhost : IfSome (vhost_of c) (λ vhost. IsSome (at s.vhosts vhost))
  pub program : IfSome (program_of c) (λ program. place_among program s.programs < length s.programs)
  pub device : IfSome (device_in c) (λ device. device < length s.names)

-- ---- frames

-- the frame that a command sends
abbrev pub sent_by : Command → Option FrameText
sent_by (command.Send name hdr bytes) = Some (frame_in (sent_front hdr) (sent_bytes hdr bytes))
sent_by other = None

-- the frame of a name, as it was sent
abbrev pub frame_sent : Setup → Name → Option FrameText
frame_sent s name = do
  l ← line_of s name.turn
  sent_by l.command

-- what a read gets of it: so many of its bytes
abbrev pub frame_of : Setup → Name → ℕ → Option FrameText
frame_of s name len = option_map (λ (f : FrameText). record f { ether = take len f.ether }) (frame_sent s name)

-- what a worker gets: all bytes that it was sent with, and the mark behind those that are kept
abbrev pub kept_frame : Setup → Name → ℕ → Option FrameValue
kept_frame s name len =
    option_map
    (λ (f : FrameText). record { name = name; hdr = f.hdr; made = f.ether; mark = min len (length f.ether) })
    (frame_sent s name)
