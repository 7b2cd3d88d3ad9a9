-- This project's own: the frames of a trace, each with its fate, its length and the device for which it counts.
use Rattle.std.specs.Prelude.{ℕ, List, [], ◌∷◌, ◌++◌, map, Option, Some, None, option_and_then}
use Rattle.std.specs.List.{flat_map}
use Rattle.tap_ledger.specs.declared.fate.Fate.TheVariants.{Host, Discarded}
use Rattle.tap_trace.specs.declared.answer.Answer.{Answer}
use Rattle.tap_trace.specs.declared.answer.Answer.TheVariants as answer
use Rattle.tap_trace.specs.declared.trace.AnswerLine.{AnswerLine}
use Rattle.tap_trace.specs.declared.trace.FilePart.{FilePart}
use Rattle.tap_trace.specs.declared.trace.PhasePart.{PhasePart}
use Rattle.tap_trace.specs.declared.trace.PlaceLine.{PlaceLine}
use Rattle.tap_trace.specs.declared.trace.Trace.{Trace}
use Rattle.tap_trace.specs.declared.turn.ChainText.{ChainText}
use Rattle.tap_trace.specs.declared.turn.ChainText.TheVariants.{Got, Refused}
use Rattle.tap_report.specs.declared.frames.Counted.{Counted}
use Rattle.tap_report.specs.declared.history.Setting.{Setting}
use Rattle.tap_report.specs.declared.index.Index.{Index}
use Rattle.tap_report.specs.declared.index.Role.{Role}
use Rattle.tap_report.specs.declared.index.Role.TheVariants.{Sends, Writes, Transmits}
use Rattle.tap_report.specs.Index.{backing_at, device_at, role_at}

-- ---- frames that were sent

-- the name in a `send`
abbrev pub sent_device : Role → Option ℕ
sent_device (Sends name len) = Some name
sent_device role = None

-- the length of the frame of a `send`, and 0 where the command is none
abbrev pub sent_len : Role → ℕ
sent_len (Sends name len) = len
sent_len role = 0

-- ---- frames that were hosted

-- the file that a `write` or a transmit turn has a frame of, at a version
abbrev pub hosting_file : Index → ℕ → Role → Option ℕ
hosting_file x seen (Writes file) = Some file
hosting_file x seen (Transmits vhost) =
    option_and_then (λ (s : Setting). s.value) (backing_at x.backings vhost seen)
hosting_file x seen role = None

-- the device for which its hosted frames count
abbrev pub hosting_device : Index → ℕ → Role → Option ℕ
hosting_device x seen role = option_and_then (λ file. device_at x.attachments file seen) (hosting_file x seen role)

-- ---- the frames of a trace

-- an accepted frame of a transmit turn
abbrev pub chain_frames : Option ℕ → ChainText → List Counted
chain_frames device (Got name len fnv) = record { fate = Host; len = len; device = device } ∷ []
chain_frames device (Refused position bad) = []

-- the frames that an answer says to be discarded or hosted
abbrev pub frames_of : Index → ℕ → Role → Answer → List Counted
frames_of x seen role (answer.Dropped file cause) =
    record { fate = Discarded cause; len = sent_len role; device = sent_device role } ∷ []
frames_of x seen role (answer.Host len fnv) =
    record { fate = Host; len = len; device = hosting_device x seen role } ∷ []
frames_of x seen role (answer.Turn packets bytes end chains) =
    flat_map (chain_frames (hosting_device x seen role)) chains
frames_of x seen role a = []

-- those of an answer line
abbrev pub answered : Index → AnswerLine → List Counted
answered x a = frames_of x a.seen (role_at x.roles a.command) a.answer

-- a frame that had a place; its name has the number of its `send`
abbrev pub placed : Index → PlaceLine → Counted
placed x l = record { fate = l.fate; len = l.len; device = sent_device (role_at x.roles l.name.turn) }

-- the frames that a phase answers about, and those of a file
abbrev pub phase_frames : Index → PhasePart → List Counted
phase_frames x p = flat_map (answered x) p.answers

abbrev pub file_frames : Index → FilePart → List Counted
file_frames x f = map (placed x) f.lines

-- all frames
abbrev pub frames : Index → Trace → List Counted
frames x t = flat_map (phase_frames x) t.phases ++ flat_map (file_frames x) t.files
