-- This project's own: the backend that a turn serves, read off the steps.
use Rattle.std.specs.Prelude.{ℕ, ◌==◌, ◌&&◌, if◌then◌else◌, Bool, false, List, [], ◌∷◌, Option, Some, None, option_and_then}
use Rattle.std.specs.Option.{option_map_or}
use Rattle.tap_ledger.specs.declared.side.Side.TheVariants.{Rx}
use Rattle.tap_steer.specs.declared.operation.Op.{Op}
use Rattle.tap_steer.specs.declared.operation.Op.TheVariants as op
use Rattle.scen_words.specs.declared.command.Command.{Command}
use Rattle.scen_words.specs.declared.command.Command.TheVariants as command
use Rattle.tap_trace.specs.declared.kind.Kind.{Kind}
use Rattle.tap_trace.specs.declared.kind.Kind.TheVariants as kind
use Rattle.tap_world.specs.StepTurns.{turn_on}
use Rattle.tap_legal.specs.Numbered.{Asked, StepAt}
use Rattle.tap_legal.specs.Case.{Case}
use Rattle.tap_legal.specs.Lookups.{asked_at}

-- a step has B 1: it sets or unsets the backend of this ring
abbrev pub is_set_on : ℕ × ℕ → Kind → Bool
is_set_on ring (kind.Backend v r set) = v == ring.0 && r == ring.1 && set
is_set_on ring other = false

-- the last of these steps that did so before the first one of a command
abbrev pub last_set : ℕ × ℕ → ℕ → Option StepAt → List StepAt → Option StepAt
last_set ring command found [] = None
last_set ring command found (s ∷ ss) =
    if s.at.command == command then found
    else last_set ring command (if is_set_on ring s.at.kind then Some s else found) ss

-- The file of a turn is that of the last `backend` step of its ring with B 1 before the turn's steps; here the command
-- of that step.
abbrev pub setter_of : Case → ℕ → Option Asked
setter_of c command =
    option_and_then (λ (s : StepAt). asked_at c s.at.command)
    (option_and_then (λ ring. last_set ring command None c.steps)
    (option_and_then (λ (a : Asked). turn_on a.command) (asked_at c command)))

abbrev pub file_backed : Command → Option ℕ
file_backed (command.Backend vhost ring file) = file
file_backed other = None

abbrev pub served_by : Case → ℕ → Option ℕ
served_by c command = option_and_then (λ (a : Asked). file_backed a.command) (setter_of c command)

-- a turn serves a file
abbrev pub serves : Case → ℕ → ℕ → Bool
serves c file command = option_map_or (λ f. f == file) (served_by c command) false

-- an operation makes a vhost's receive ring the worker of a file
abbrev pub makes_worker : ℕ → Option Op → Bool
makes_worker file (Some (op.Back f Rx (Some vhost))) = f == file
makes_worker file other = false
