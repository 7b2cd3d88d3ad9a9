-- This project's own: for which device a frame counts. A frame that was sent counts for the name in its `send`, one
-- that was hosted for the name under which its file was attached last when its command ended.
use Rattle.std.specs.Prelude.{ℕ, Bool, ◌&&◌, ◌==◌, nat_le, min, List, [], ◌∷◌, length, map, reverse, slice_get, position, find, Option, Some, option_and_then, unwrap_or}
use Rattle.std.specs.List.{flat_map}
use Rattle.std.specs.Option.{option_or}
use Rattle.std.specs.Str.{bytes_eq}
use Rattle.scen_text.specs.declared.scenario.Line.{Line}
use Rattle.scen_text.specs.declared.scenario.Phase.{Phase}
use Rattle.scen_text.specs.declared.scenario.Scenario.{Scenario}
use Rattle.scen_words.specs.declared.command.Command.{Command}
use Rattle.scen_words.specs.declared.command.Command.TheVariants as command
use Rattle.tap_ledger.specs.declared.side.Side.TheVariants.{Tx}
use Rattle.tap_trace.specs.declared.trace.OpLine.{OpLine}
use Rattle.tap_trace.specs.declared.trace.OpText.{OpText}
use Rattle.tap_trace.specs.declared.trace.OpText.TheVariants.{SetIff, Back}
use Rattle.tap_trace.specs.declared.trace.PhasePart.{PhasePart}
use Rattle.tap_trace.specs.declared.trace.Trace.{Trace}
use Rattle.tap_report.specs.declared.history.Setting.{Setting}
use Rattle.tap_report.specs.declared.index.Role.{Role}
use Rattle.tap_report.specs.declared.index.Wanted.{Wanted}
use Rattle.tap_report.specs.declared.index.Wanted.TheVariants.{Attachments, Backings}
use Rattle.tap_report.specs.declared.index.Role.TheVariants.{Sends, Writes, Receives, Transmits, Backs, Other}

-- ---- commands

-- what a command is to the report
abbrev pub role_of : Command → Role
role_of (command.Send name hdr bytes) = Sends name (min (length bytes) 4294967295)
role_of (command.Write file bytes) = Writes file
role_of (command.RxTurn vhost) = Receives vhost
role_of (command.TxTurn vhost) = Transmits vhost
role_of (command.Backend vhost ring (Some file)) = Backs
role_of c = Other

abbrev pub line_role : Line → Role
line_role l = role_of l.command

-- the commands of a phase, and of all phases, by number
abbrev pub phase_roles : Phase → List Role
phase_roles p = map line_role p.lines

abbrev pub roles : Scenario → List Role
roles s = flat_map phase_roles s.phases

-- the command of this number, where there is one
abbrev pub role_at : List Role → ℕ → Role
role_at rs number = unwrap_or (slice_get rs number) Other

-- ---- operations

-- the number of a name among the names of the devices
abbrev pub number_among : List (List ℕ) → List ℕ → Option ℕ
number_among names name = position (λ n. bytes_eq n name) names

-- the attachment that an operation is
abbrev pub attached : List (List ℕ) → ℕ → OpText → List Setting
attached names version (SetIff file name flags) =
    record { version = version; key = file; value = number_among names name } ∷ []
attached names version op = []

-- the transmit backend that an operation sets
abbrev pub backed : ℕ → OpText → List Setting
backed version (Back file Tx (Some vhost)) = record { version = version; key = vhost; value = Some file } ∷ []
backed version op = []

-- what an operation sets, where it is wanted
abbrev pub set_by : Wanted → List (List ℕ) → OpLine → List Setting
set_by Attachments names o = attached names o.version o.text
set_by Backings names o = backed o.version o.text

-- the settings of a phase, and all of them, in the order of the trace
abbrev pub phase_settings : Wanted → List (List ℕ) → PhasePart → List Setting
phase_settings wanted names p = flat_map (set_by wanted names) p.ops

abbrev pub settings : Wanted → List (List ℕ) → Trace → List Setting
settings wanted names t = flat_map (phase_settings wanted names) t.phases

-- ---- the device of a frame

-- it was set for this file or vhost by a version up to this one
abbrev pub sets : ℕ → ℕ → Setting → Bool
sets key seen s = s.key == key && nat_le s.version seen

-- by any version
abbrev pub sets_ever : ℕ → Setting → Bool
sets_ever key s = s.key == key

-- the last that was set up to a version
abbrev pub latest : List Setting → ℕ → ℕ → Option Setting
latest all key seen = find (sets key seen) (reverse all)

-- the device to which a file was attached by its last attachment up to a version
abbrev pub device_at : List Setting → ℕ → ℕ → Option ℕ
device_at all file seen = option_and_then (λ (s : Setting). s.value) (latest all file seen)

-- the transmit backend of a vhost: the last one up to a version, and where there is none the first one after it
abbrev pub backing_at : List Setting → ℕ → ℕ → Option Setting
backing_at all vhost seen = option_or (latest all vhost seen) (find (sets_ever vhost) all)
