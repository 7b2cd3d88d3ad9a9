-- This project's own: the trace of a run, read off the world that it ends in.
use Rattle.std.specs.Prelude.{ℕ, zero, suc, ◌+◌, ◌==◌, ◌&&◌, List, [], ◌∷◌, ◌++◌, map, filter, flat_map, take, drop, slice_index_or, Option, option_map, option_to_list}
use Rattle.tap_steer.specs.declared.operation.Op.{Op}
use Rattle.tap_steer.specs.declared.operation.Op.TheVariants as op
use Rattle.scen_words.specs.declared.command.Command.{Command}
use Rattle.scen_text.specs.declared.scenario.Line.{Line}
use Rattle.scen_text.specs.declared.scenario.Phase.{Phase}
use Rattle.tap_trace.specs.declared.trace.AnswerLine.{AnswerLine}
use Rattle.tap_trace.specs.declared.trace.FilePart.{FilePart}
use Rattle.tap_trace.specs.declared.trace.GuestPart.{GuestPart}
use Rattle.tap_trace.specs.declared.trace.OpLine.{OpLine}
use Rattle.tap_trace.specs.declared.trace.OpText.{OpText}
use Rattle.tap_trace.specs.declared.trace.OpText.TheVariants as text
use Rattle.tap_trace.specs.declared.trace.PhasePart.{PhasePart}
use Rattle.tap_trace.specs.declared.trace.PlaceLine.{PlaceLine}
use Rattle.tap_trace.specs.declared.trace.PositionList.{PositionList}
use Rattle.tap_trace.specs.declared.trace.RingPart.{RingPart}
use Rattle.tap_trace.specs.declared.trace.Trace.{Trace}
use Rattle.vhost_dev.specs.Settings.{RingSettings}
use Rattle.tap_world.specs.Guests.{Guest, Vhost}
use Rattle.tap_world.specs.ByNumber.{numbered}
use Rattle.tap_world.specs.Setup.{Setup, line_of}
use Rattle.tap_world.specs.Line.{Entry, File, claimed, fate_of, freed}
use Rattle.tap_world.specs.World.{Published, Said, World}

-- ---- operations

-- the words of an operation: a learning's and a backend's own, the name of a device, or those of its command
abbrev pub words_of : Setup → Command → Op → OpText
words_of s c (op.SetIff file device flags) = text.SetIff file (slice_index_or s.names device []) flags
words_of s c (op.Learn file hash) = text.Learn file hash
words_of s c (op.Back file side vhost) = text.Back file side vhost
words_of s c other = text.Words c

-- the command that published it
abbrev pub command_of : Setup → Published → Option Command
command_of s p = option_map (λ (l : Line). l.command) (line_of s p.command)

-- the operations behind their versions, from this version on
abbrev pub with_versions : ℕ → List Published → List (ℕ × Published)
with_versions version [] = []
with_versions version (p ∷ ps) = (version, p) ∷ with_versions (version + 1) ps

-- an operation of no command has no line
abbrev pub op_line : Setup → ℕ × Published → Option OpLine
op_line s v =
    option_map (λ c. record { version = v.0; command = v.1.command; text = words_of s c v.1.op }) (command_of s v.1)

-- those of a phase, by version
abbrev pub op_lines : Setup → ℕ → List Published → List OpLine
op_lines s phase ops =
    flat_map (λ v. option_to_list (op_line s v)) (filter (λ v. v.1.phase == phase) (with_versions 1 ops))

-- ---- answers

-- those of an actor in a phase, in the order given
abbrev pub answers_of : ℕ → ℕ → List Said → List AnswerLine
answers_of phase actor said =
    map (λ (x : Said). x.line) (filter (λ (x : Said). x.phase == phase && x.line.actor == actor) said)

-- those of so many actors, from a number on
abbrev pub answer_lines : ℕ → ℕ → ℕ → List Said → List AnswerLine
answer_lines phase actor zero said = []
answer_lines phase actor (suc more) said = answers_of phase actor said ++ answer_lines phase (actor + 1) more said

-- the parts of these phases, from a number on
abbrev pub phase_parts : Setup → World → ℕ → List Phase → List PhasePart
phase_parts s w number [] = []
phase_parts s w number (p ∷ ps) = record {
  actors = p.actors;
  ops = op_lines s number w.ops;
  answers = answer_lines number 0 p.actors w.said;
} ∷ phase_parts s w (number + 1) ps

-- ---- files

-- the entries from a place on
abbrev pub place_lines : ℕ → List Entry → List PlaceLine
place_lines place [] = []
place_lines place (e ∷ es) =
    record { place = place; epoch = e.epoch; name = e.name; len = e.len; fate = fate_of e.stands } ∷ place_lines
    (place + 1) es

abbrev pub file_part : ℕ × File → FilePart
file_part f = record { file = f.0; claimed = claimed f.1; freed = freed f.1; lines = place_lines f.1.first f.1.line }

-- ---- guests and rings

abbrev pub guest_part : ℕ × Guest → GuestPart
guest_part g = record { guest = g.0; steps = g.1.steps }

-- the lists of positions: of each its base and the chains that were published before the next one began
abbrev pub lists_from : List (ℕ × ℕ) → List (ℕ × ℕ × ℕ) → List PositionList
lists_from [] journal = []
lists_from ((base, start) ∷ []) journal = record { base = base; used = drop start journal } ∷ []
lists_from ((base, start) ∷ (next, until) ∷ more) journal =
    record { base = base; used = drop start (take until journal) } ∷ lists_from ((next, until) ∷ more) journal

abbrev pub ring_part : ℕ → ℕ → RingSettings → RingPart
ring_part vhost ring r = record { vhost = vhost; ring = ring; lists = lists_from r.lists r.queue.positions.journal }

abbrev pub ring_parts : ℕ × Vhost → List RingPart
ring_parts v = ring_part v.0 0 v.1.settings.rx ∷ ring_part v.0 1 v.1.settings.tx ∷ []

-- ---- the trace

abbrev pub project : Setup → World → Trace
project s w = record {
  phases = phase_parts s w 0 s.phases;
  files = map file_part (numbered 0 w.files);
  guests = map guest_part (numbered 0 w.guests);
  rings = flat_map ring_parts (numbered 0 w.vhosts);
}
