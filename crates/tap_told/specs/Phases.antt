-- This project's own: how the parts of phases are filled, operation by operation and answer by answer.
use Rattle.std.specs.Prelude.{ℕ, zero, suc, ◌+◌, ◌==◌, if◌then◌else◌, List, [], ◌∷◌, ◌++◌, map, filter, fold, option_to_list}
use Rattle.std.specs.List.{flat_map}
use Rattle.scen_words.specs.declared.command.Command.{Command}
use Rattle.scen_text.specs.declared.scenario.Line.{Line}
use Rattle.scen_text.specs.declared.scenario.Phase.{Phase}
use Rattle.tap_trace.specs.declared.trace.AnswerLine.{AnswerLine}
use Rattle.tap_trace.specs.declared.trace.OpLine.{OpLine}
use Rattle.tap_trace.specs.declared.trace.PhasePart.{PhasePart}
use Rattle.tap_world.specs.Project.{op_line}
use Rattle.tap_world.specs.Setup.{Setup}
use Rattle.tap_world.specs.declared.told.Published.{Published}
use Rattle.tap_world.specs.declared.told.Said.{Said}

-- the commands of phases, in the order of their numbers
abbrev pub commands_of : List Phase → List Command
commands_of ps = flat_map (λ (p : Phase). map (λ (l : Line). l.command) p.lines) ps

-- with a change of what has this number in a list that begins with the first number
abbrev pub changed_from : {A : Type 0} → ℕ → ℕ → (A → A) → List A → List A
changed_from first number change [] = []
changed_from first number change (x ∷ xs) =
    (if number == first then change x else x) ∷ changed_from (first + 1) number change xs

-- the part of a phase of which nothing is told yet
abbrev pub untold : Phase → PhasePart
untold p = record { actors = p.actors; ops = []; answers = [] }

-- with these lines of operations, or with one answer, behind those that are there
abbrev pub with_ops : List OpLine → PhasePart → PhasePart
with_ops lines part = record part { ops = part.ops ++ lines }

abbrev pub with_answer : AnswerLine → PhasePart → PhasePart
with_answer line part = record part { answers = part.answers ++ line ∷ [] }

-- an operation is told in the part of its phase
abbrev pub op_told : Setup → List PhasePart → ℕ × Published → List PhasePart
op_told s parts v = changed_from 0 v.1.phase (with_ops (option_to_list (op_line s v))) parts

abbrev pub ops_told : Setup → List PhasePart → List (ℕ × Published) → List PhasePart
ops_told s parts vs = fold (op_told s) parts vs

-- an answer is told in the part of its phase
abbrev pub answer_told : List PhasePart → Said → List PhasePart
answer_told parts x = changed_from 0 x.phase (with_answer x.line) parts

abbrev pub answers_told : List PhasePart → List Said → List PhasePart
answers_told parts said = fold answer_told parts said

-- the answers of so many actors, from one on, actor by actor
abbrev pub by_actors : ℕ → ℕ → List AnswerLine → List AnswerLine
by_actors actor zero lines = []
by_actors actor (suc more) lines =
    filter (λ (x : AnswerLine). x.actor == actor) lines ++ by_actors (actor + 1) more lines

-- a part whose answers stand in the order given, with its answers by actor
abbrev pub in_order : PhasePart → PhasePart
in_order part = record part { answers = by_actors 0 part.actors part.answers }
