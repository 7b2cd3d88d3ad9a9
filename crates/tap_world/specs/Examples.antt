-- This project's own: a worked run. One file with one place; a frame is sent, another finds the ring full, and a read
-- takes the first.
use Rattle.std.specs.Prelude.{◌≡◌, ℕ, List, [], ◌∷◌, codes, Bool, true, false, Option, Some, None, option_map}
use Rattle.tap_frame.specs.declared.header.Hdr.{Hdr}
use Rattle.tap_frame.specs.declared.name.Name.{Name}
use Rattle.tap_ledger.specs.declared.fate.Cause.TheVariants.{Full}
use Rattle.tap_ledger.specs.declared.fate.Fate.TheVariants.{Read}
use Rattle.scen_words.specs.declared.command.Command.{Command}
use Rattle.scen_words.specs.declared.command.Command.TheVariants as command
use Rattle.scen_words.specs.declared.declaration.Declaration.TheVariants as declaration
use Rattle.scen_text.specs.declared.scenario.Line.{Line}
use Rattle.scen_text.specs.declared.scenario.Phase.{Phase}
use Rattle.scen_text.specs.declared.scenario.Scenario.{Scenario}
use Rattle.tap_trace.specs.declared.answer.Answer.{Answer}
use Rattle.tap_trace.specs.declared.answer.Answer.TheVariants as answer
use Rattle.tap_trace.specs.declared.trace.AnswerLine.{AnswerLine}
use Rattle.tap_trace.specs.declared.trace.OpText.TheVariants.{SetIff}
use Rattle.tap_trace.specs.declared.trace.Trace.{Trace}
use Rattle.tap_world.specs.declared.event.Event.{Event}
use Rattle.tap_world.specs.declared.event.EventKind.{EventKind}
use Rattle.tap_world.specs.declared.event.EventKind.TheVariants as event
use Rattle.tap_world.specs.Setup.{Setup, setup_of}
use Rattle.tap_world.specs.Step.{is_allowed}
use Rattle.tap_world.specs.Runs.{begins, opening, run, run_phases}
use Rattle.tap_world.specs.Project.{project}

-- from 02:00:00:00:00:01 to 02:00:00:00:00:02
abbrev pub frame : List ℕ
frame = 2 ∷ 0 ∷ 0 ∷ 0 ∷ 0 ∷ 1 ∷ 2 ∷ 0 ∷ 0 ∷ 0 ∷ 0 ∷ 2 ∷ 8 ∷ 0 ∷ []

abbrev pub no_header : Option Hdr
no_header = None

abbrev pub line : ℕ → Command → Line
line number c = record { actor = 0; number = number; command = c }

-- `setiff 0 tap0 1102`, two sends of the frame, and `read 0 100`
abbrev pub phase : Phase
phase = record {
  actors = 1;
  scripts = [];
  lines =
      line 0 (command.SetIff 0 0 0x1102) ∷ line 1 (command.Send 0 no_header frame)
      ∷ line 2 (command.Send 0 no_header frame) ∷ line 3 (command.Read 0 100) ∷ [];
}

-- on a file with so many places
abbrev pub scenario_with : ℕ → Scenario
scenario_with capacity = record {
  version = 1;
  declarations = declaration.File 0 capacity 0 ∷ [];
  names = codes "tap0" ∷ [];
  phases = phase ∷ [];
}

abbrev pub scenario : Scenario
scenario = scenario_with 1

abbrev pub at : ℕ → EventKind → Event
at command kind = record { actor = 0; command = command; kind = kind }

abbrev pub events : List (List Event)
events = (at 0 event.Look ∷ at 0 event.Reopen ∷ at 0 event.Publish
    ∷ at 1 event.Look ∷ at 1 event.Claim ∷ at 1 event.Ready
    ∷ at 2 event.Look ∷ at 2 event.Full
    ∷ at 3 event.Look ∷ at 3 event.Move ∷ at 3 event.Out ∷ []) ∷ []

-- those up to the second send's look, by which it has a row
abbrev pub looked : List Event
looked = at 0 event.Look ∷ at 0 event.Reopen ∷ at 0 event.Publish
    ∷ at 1 event.Look ∷ at 1 event.Claim ∷ at 1 event.Ready
    ∷ at 2 event.Look ∷ []

abbrev pub sent_by : ℕ → Name
sent_by command = record { actor = 0; turn = command; part = 0 }

abbrev pub said : ℕ → Answer → AnswerLine
said command a = record { actor = 0; command = command; seen = 1; answer = a }

-- the trace with an entry of this name
abbrev pub trace_of : Name → Trace
trace_of name = record {
  phases = record {
    actors = 1;
    ops = record { version = 1; command = 0; text = SetIff 0 (codes "tap0") 0x1102 } ∷ [];
    answers =
        said 0 (answer.Version 1) ∷ said 1 (answer.Placed 0 0 1 14)
        ∷ said 2 (answer.Dropped (Some 0) (Full 1 0)) ∷ said 3 (answer.Read (sent_by 1) 0 frame) ∷ [];
  } ∷ [];
  files = record {
    file = 0;
    claimed = 1;
    freed = 1;
    lines = record { place = 0; epoch = 1; name = name; len = 14; fate = Read } ∷ [];
  } ∷ [];
  guests = [];
  rings = [];
}

-- what a list of events comes to
abbrev pub ends_in : List (List Event) → Option Trace
ends_in es =
    option_map (project (setup_of scenario))
    (run_phases (setup_of scenario) 0 scenario.phases es (opening (setup_of scenario)))

-- the run and its trace
abbrev pub RunHasTrace : Type 0
RunHasTrace = ends_in events ≡ Some (trace_of (sent_by 1))

-- whether the second send may claim a place then, where the ring has so many; none where the events aren't allowed
abbrev pub may_claim : Setup → Option Bool
may_claim s =
    option_map (λ w. is_allowed s w (at 2 event.Claim)) (run s looked (begins 0 phase (opening s)))

-- no frame gets a place of a full ring, and it gets one where the ring has a place more
abbrev pub NoClaimWhenFull : Type 0
NoClaimWhenFull =
    (may_claim (setup_of (scenario_with 1)) ≡ Some false) × (may_claim (setup_of (scenario_with 2)) ≡ Some true)
