-- This project's own: worked examples of the report.
use Rattle.std.specs.Prelude.{◌≡◌, ℕ, true, List, [], ◌∷◌, ◌++◌, codes, Some, None}
use Rattle.scen_text.specs.declared.scenario.Line.{Line}
use Rattle.scen_text.specs.declared.scenario.Scenario.{Scenario}
use Rattle.scen_words.specs.declared.command.Command.{Command}
use Rattle.scen_words.specs.declared.command.Command.TheVariants as command
use Rattle.tap_ledger.specs.declared.side.Side.TheVariants.{Tx}
use Rattle.tap_trace.specs.declared.answer.Answer.{Answer}
use Rattle.tap_trace.specs.declared.answer.Answer.TheVariants as answer
use Rattle.tap_trace.specs.declared.kind.Kind.{Kind}
use Rattle.tap_trace.specs.declared.kind.Kind.TheVariants as kind
use Rattle.tap_trace.specs.declared.trace.AnswerLine.{AnswerLine}
use Rattle.tap_trace.specs.declared.trace.OpLine.{OpLine}
use Rattle.tap_trace.specs.declared.trace.OpText.{OpText}
use Rattle.tap_trace.specs.declared.trace.OpText.TheVariants.{SetIff, Back}
use Rattle.tap_trace.specs.declared.trace.StepLine.{StepLine}
use Rattle.tap_trace.specs.declared.trace.Trace.{Trace}
use Rattle.tap_trace.specs.declared.turn.ChainText.TheVariants.{Got}
use Rattle.tap_trace.specs.declared.turn.TurnText.TheVariants.{Idle}
use Rattle.tap_report.specs.declared.summary.DeviceRow.{DeviceRow}
use Rattle.tap_report.specs.Index.{roles}
use Rattle.tap_report.specs.Rows.{device_rows, frames_of_run}
use Rattle.tap_report.specs.Turns.{stopped}

-- a command, an operation, an answer and a step
abbrev pub ordered : ℕ → Command → Line
ordered number c = record { actor = 0; number = number; command = c }

abbrev pub published : ℕ → OpText → OpLine
published version text = record { version = version; command = 0; text = text }

abbrev pub answered : ℕ → ℕ → Answer → AnswerLine
answered number seen a = record { actor = 0; command = number; seen = seen; answer = a }

abbrev pub stepped : ℕ → Kind → StepLine
stepped number k = record { actor = 0; command = number; kind = k }

-- ---- for which device a hosted frame counts

-- a write, a turn of a transmit worker, and the same two once more
abbrev pub hosting : Scenario
hosting = record {
  version = 1;
  declarations = [];
  names = codes "tap0" ∷ codes "tap1" ∷ [];
  phases = record {
    actors = 1;
    scripts = [];
    lines = ordered 0 (command.Write 0 []) ∷ ordered 1 (command.TxTurn 5) ∷ ordered 2 (command.Write 0 []) ∷ [];
  } ∷ [];
}

abbrev pub got_one : Answer
got_one = answer.Turn 1 26 Idle (Got (record { actor = 0; turn = 1; part = 0 }) 14 7 ∷ [])

-- file 0 goes from `tap0` to `tap1` by operation 3, and vhost 5 sends to it from operation 2 on
abbrev pub hosted : Trace
hosted = record {
  phases = record {
    actors = 1;
    ops = published 1 (SetIff 0 (codes "tap0") 0x1102) ∷ published 2 (Back 0 Tx (Some 5))
        ∷ published 3 (SetIff 0 (codes "tap1") 0x1102) ∷ [];
    answers = answered 0 2 (answer.Host 14 7) ∷ answered 1 1 got_one ∷ answered 2 3 (answer.Host 14 7) ∷ [];
  } ∷ [];
  files = [];
  guests = [];
  rings = [];
}

abbrev pub row : List ℕ → ℕ → DeviceRow
row name rx = record { name = name; rx = rx; tx = 0; dropped = 0 }

-- the first write and the turn count for `tap0`, which they had seen; the second write counts for `tap1`
abbrev pub HostedCountAtSeen : Type 0
HostedCountAtSeen =
    device_rows (frames_of_run hosting hosted) 0 hosting.names ≡ row (codes "tap0") 2 ∷ row (codes "tap1") 1 ∷ []

-- ---- by which fault a ring is stopped

abbrev pub backing : Scenario
backing = record {
  version = 1;
  declarations = [];
  names = [];
  phases = record {
    actors = 1;
    scripts = [];
    lines = ordered 0 (command.RxTurn 5) ∷ ordered 1 (command.Backend 5 0 None)
        ∷ ordered 2 (command.Backend 5 0 (Some 0)) ∷ [];
  } ∷ [];
}

abbrev pub halted : List StepLine
halted = stepped 0 (kind.Halt 5 0 9) ∷ stepped 1 (kind.Backend 5 0 true) ∷ []

abbrev pub backed : List StepLine
backed = halted ++ stepped 2 (kind.Backend 5 0 true) ∷ []

-- the fault by which ring 0 of vhost 5 is stopped after these steps
abbrev pub stopped_by : List StepLine → ℕ
stopped_by steps = stopped (roles backing) 5 0 (record { guest = 0; steps = steps } ∷ [])

-- a ring stays stopped without a backend, and is not stopped with a new one
abbrev pub StoppedUntilBacked : Type 0
StoppedUntilBacked = (stopped_by halted ≡ 9) × (stopped_by backed ≡ 0)
