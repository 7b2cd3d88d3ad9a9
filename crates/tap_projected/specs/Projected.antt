-- This project's own: what the trace has of the world that a run ends in, line by line.
use Rattle.std.specs.Prelude.{◌≡◌, ℕ, suc, ◌+◌, ◌==◌, length, map, filter, flat_map, slice_get, Some}
use Rattle.scen_words.specs.declared.command.Command.{Command}
use Rattle.scen_text.specs.declared.scenario.Scenario.{Scenario}
use Rattle.tap_trace.specs.declared.trace.PlaceLine.{PlaceLine}
use Rattle.tap_trace.specs.declared.trace.RingPart.{RingPart}
use Rattle.tap_world.specs.ByNumber.{at, numbered}
use Rattle.tap_world.specs.Guests.{Guest, Vhost}
use Rattle.tap_world.specs.declared.line.Entry.{Entry}
use Rattle.tap_world.specs.declared.told.Published.{Published}
use Rattle.tap_world.specs.declared.told.Said.{Said}
use Rattle.tap_world.specs.Line.{File, fate_of}
use Rattle.tap_world.specs.Project.{command_of, file_part, place_lines, project, ring_parts, words_of}
use Rattle.tap_world.specs.Setup.{Setup, setup_of}
use Rattle.tap_world.specs.World as world
use Rattle.tap_world.specs.World.{World}
use Rattle.tap_legal.specs.Case.{Case, case_of}
use Rattle.tap_legal.specs.Lookups.{asked_at, entry_at, part_of, table_at}
use Rattle.tap_legal.specs.Numbered.{AnswerAt, EntryAt, FileAt, GuestAt, OpAt, RingAt, StepAt, Told}
use Rattle.tap_sights.specs.Sight.{In}

-- the case of the trace of a world
abbrev pub told_case : Scenario → World → Case
told_case s w = case_of s (project (setup_of s) w)

-- ---- operations

-- the command that published an operation, and the one that an answer is for
abbrev pub published_by : Published → Told
published_by p = record { phase = p.phase; actor = p.actor; command = p.command }

abbrev pub answered_to : Said → Told
answered_to x = record { phase = x.phase; actor = x.line.actor; command = x.line.command }

-- A line tells an operation that made this version: its phase, its command, which is one of that phase and of its
-- actor, and its words, which are read as the operation.
pub record IsOpLine (c : Case) (version : ℕ) (p : Published) (o : OpAt) : Type 0 where
  pub command : Command
  pub is_command : command_of c.setup p ≡ Some command
  pub asked : asked_at c p.command ≡ Some (record { told = published_by p; command = command })
  pub phase : o.phase ≡ p.phase
  pub line : o.at ≡ record { version = version; command = p.command; text = words_of c.setup command p.op }
  pub op : o.op ≡ Some p.op

-- The lines of operations are those of the world's, in order, from version 1 on; and so the tables are the world's.
pub record OpsAreTold (s : Setup) (w : World) (c : Case) : Type 0 where
  pub count : length c.ops ≡ length w.ops
  pub each : (i : ℕ) (p : Published) → slice_get w.ops i ≡ Some p
      → (o : OpAt) × (slice_get c.ops i ≡ Some o) × IsOpLine c (suc i) p o
  pub only : (i : ℕ) (o : OpAt) → slice_get c.ops i ≡ Some o
      → (p : Published) × (slice_get w.ops i ≡ Some p) × IsOpLine c (suc i) p o
  pub tables : (version : ℕ) → table_at c version ≡ world.table_at s w version

-- ---- answers

-- a line tells an answer: its command, which is one of that phase and of its actor, SEEN, and the answer itself
pub record IsAnswerLine (c : Case) (x : Said) (a : AnswerAt) : Type 0 where
  pub told : a.told ≡ answered_to x
  pub seen : a.seen ≡ x.line.seen
  pub answer : a.answer ≡ x.line.answer
  pub command : Command
  pub asked : asked_at c a.told.command ≡ Some (record { told = a.told; command = command })
  pub is_asked : a.asked ≡ Some command

-- Each answer that was given has its line, and each line tells one; no command was answered twice.
pub record AnswersAreTold (w : World) (c : Case) : Type 0 where
  pub each : (x : Said) → In x w.said → (a : AnswerAt) × In a c.answers × IsAnswerLine c x a
  pub only : (a : AnswerAt) → In a c.answers → (x : Said) × In x w.said × IsAnswerLine c x a
  pub once : (i j : ℕ) (x y : Said) → slice_get w.said i ≡ Some x → slice_get w.said j ≡ Some y
      → answered_to x ≡ answered_to y → i ≡ j

-- ---- files

-- the line of a file's entry at an index
abbrev pub entry_line : File → ℕ → Entry → PlaceLine
entry_line f i x =
    record { place = f.first + i; epoch = x.epoch; name = x.name; len = x.len; fate = fate_of x.stands }

-- The parts of files are the world's files, in order; of each file the entries are its line, in order, and the entry at
-- an index is the one at that place.
pub record FilesAreTold (w : World) (c : Case) : Type 0 where
  pub parts : map (λ (x : FileAt). x.part) c.files ≡ map file_part (numbered 0 w.files)
  pub each : (file : ℕ) (f : File) → at w.files file ≡ Some f
      → (x : FileAt) × (part_of c file ≡ Some x) × In x c.files × (x.part ≡ file_part (file, f))
  pub only : (x : FileAt) → In x c.files
      → (f : File) × (at w.files x.part.file ≡ Some f) × (x.part ≡ file_part (x.part.file, f))
  pub lines : (file : ℕ) (f : File) → at w.files file ≡ Some f
      → map (λ (e : EntryAt). e.at) (filter (λ (e : EntryAt). e.file == file) c.entries)
      ≡ place_lines f.first f.line
  pub entries : (file i : ℕ) (f : File) (x : Entry) → at w.files file ≡ Some f → slice_get f.line i ≡ Some x
      → (e : EntryAt) × (entry_at c file (f.first + i) ≡ Some e) × In e c.entries × (e.file ≡ file)
      × (e.at ≡ entry_line f i x)
  pub only_entries : (e : EntryAt) → In e c.entries
      → (f : File) × (i : ℕ) × (x : Entry) × (at w.files e.file ≡ Some f) × (slice_get f.line i ≡ Some x)
      × (e.at ≡ entry_line f i x)

-- ---- guests and rings

-- Guests are the world's, in order, and the steps on each of them are its steps, in order.
pub record GuestsAreTold (w : World) (c : Case) : Type 0 where
  pub guests :
      map (λ (g : GuestAt). g.guest) c.guests ≡ map (λ (g : ℕ × Guest). g.0) (numbered 0 w.guests)
  pub steps : (guest : ℕ) (g : Guest) → at w.guests guest ≡ Some g
      → map (λ (x : StepAt). x.at) (filter (λ (x : StepAt). x.guest == guest) c.steps) ≡ g.steps
  pub only : (x : StepAt) → In x c.steps → (g : Guest) × (at w.guests x.guest ≡ Some g) × In x.at g.steps

-- what a `ring` line has, with the lines behind it
abbrev pub part_at : RingAt → RingPart
part_at r = record { vhost = r.vhost; ring = r.ring; lists = r.lists }

-- Rings are both of each vhost, in order, with their lists of positions.
pub record RingsAreTold (w : World) (c : Case) : Type 0 where
  pub rings : map part_at c.rings ≡ flat_map ring_parts (numbered 0 w.vhosts)
  pub each : (vhost : ℕ) (v : Vhost) (p : RingPart) → at w.vhosts vhost ≡ Some v → In p (ring_parts (vhost, v))
      → (r : RingAt) × In r c.rings × (part_at r ≡ p)
  pub only : (r : RingAt) → In r c.rings
      → (v : Vhost) × (at w.vhosts r.vhost ≡ Some v) × In (part_at r) (ring_parts (r.vhost, v))

-- ---- all of it

pub record IsProjected (s : Setup) (w : World) (c : Case) : Type 0 where
  pub ops : OpsAreTold s w c
  pub answers : AnswersAreTold w c
  pub files : FilesAreTold w c
  pub guests : GuestsAreTold w c
  pub rings : RingsAreTold w c
