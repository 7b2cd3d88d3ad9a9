-- This project's own: the text of a scenario, made of rows: a row is the fields of a line.
use Rattle.std.specs.Prelude.{ℕ, Bool, false, ◌&&◌, not, ◌==◌, if◌then◌else◌, List, [], ◌∷◌, ◌++◌, length, map, codes}
use Rattle.std.specs.Fmt.{decimal}
use Rattle.scen_text.specs.declared.scenario.Line.{Line}
use Rattle.scen_text.specs.declared.scenario.Phase.{Phase}
use Rattle.scen_text.specs.declared.scenario.Scenario.{Scenario}
use Rattle.scen_words.specs.Field.{text}
use Rattle.scen_words.specs.Rows.{command_row, declaration_row}

-- a command outside a block
abbrev pub bare_row : List (List ℕ) → Line → List (List ℕ)
bare_row names l = command_row names l.command

-- a command in a block: `@K` stands before it
abbrev pub actor_row : List (List ℕ) → Line → List (List ℕ)
actor_row names l = (64 ∷ decimal l.actor) ∷ command_row names l.command

-- `phase N`
abbrev pub opening_row : Phase → List (List ℕ)
opening_row p = codes "phase" ∷ decimal p.actors ∷ []

-- `end`
abbrev pub ending_row : List (List ℕ)
ending_row = codes "end" ∷ []

-- a phase as a block
abbrev pub block_rows : List (List ℕ) → Phase → List (List (List ℕ))
block_rows names p = opening_row p ∷ (map (actor_row names) p.lines ++ ending_row ∷ [])

-- whether a phase is written as its commands alone: it has one actor and a command, and the phase before it is no such
-- phase
abbrev pub is_bare : Bool → Phase → Bool
is_bare after_bare p = not after_bare && p.actors == 1 && not (length p.lines == 0)

-- a phase, as its commands alone or as a block
abbrev pub phase_rows : List (List ℕ) → Bool → Phase → List (List (List ℕ))
phase_rows names bare p = if bare then map (bare_row names) p.lines else block_rows names p

-- phases one after the other
abbrev pub phases_rows : List (List ℕ) → Bool → List Phase → List (List (List ℕ))
phases_rows names after_bare [] = []
phases_rows names after_bare (p ∷ ps) =
    let bare = is_bare after_bare p in phase_rows names bare p ++ phases_rows names bare ps

-- the version, then the declarations in their order, and then the phases
abbrev pub scenario_rows : Scenario → List (List (List ℕ))
scenario_rows s =
    (codes "tapscen" ∷ decimal s.version ∷ [])
    ∷ (map (declaration_row s.names) s.declarations ++ phases_rows s.names false s.phases)

-- the text of a scenario
abbrev pub scenario_text : Scenario → List ℕ
scenario_text s = text (scenario_rows s)
