-- This project's own: what the lines before a line say together. A history is the sentences of the lines so far, the
-- latest first.
use Rattle.std.specs.Prelude.{ℕ, zero, suc, ◌+◌, Bool, true, false, ◌||◌, ◌==◌, nat_lt, if◌then◌else◌, List, [], ◌∷◌, ◌++◌, length, map, filter, Option, Some, None, unwrap_or}
use Rattle.std.specs.Str.{bytes_eq}
use Rattle.text_fields.specs.declared.value.Value.{Value}
use Rattle.scen_words.specs.declared.command.Command.{Command}
use Rattle.scen_text.specs.declared.place.Place.{Place}
use Rattle.scen_text.specs.declared.place.Place.TheVariants.{Outside, Run, Block}
use Rattle.scen_words.specs.declared.declaration.Declaration.{Declaration}
use Rattle.scen_text.specs.declared.scenario.Line.{Line}
use Rattle.scen_text.specs.declared.scenario.Phase.{Phase}
use Rattle.scen_text.specs.declared.scenario.Script.{Script}
use Rattle.scen_words.specs.declared.sentence.Sentence.{Sentence}
use Rattle.scen_words.specs.declared.sentence.Sentence.TheVariants.{Skipped, Declares, Orders, Opens, Ends}
use Rattle.scen_words.specs.declared.word.CommandWord.{CommandWord}
use Rattle.scen_words.specs.Commands.{command_of, commanded_name, declaration_of, declared_name, is_turn}

-- ---- names

-- the name in a sentence
abbrev pub name_in : Sentence → Option (List ℕ)
name_in (Declares word values) = declared_name word values
name_in (Orders actor word values) = commanded_name word values
name_in s = None

-- the number of a name: its place among the names, or the next place where it isn't among them
unfoldable pub number_among : List (List ℕ) → List ℕ → ℕ
number_among [] name = 0
number_among (first ∷ names) name = if bytes_eq first name then 0 else suc (number_among names name)

abbrev pub number_for : List (List ℕ) → Option (List ℕ) → ℕ
number_for names None = 0
number_for names (Some name) = number_among names name

abbrev pub has_name : List (List ℕ) → List ℕ → Bool
has_name names name = nat_lt (number_among names name) (length names)

-- the names with one that may be new
unfoldable pub with_name : List (List ℕ) → Option (List ℕ) → List (List ℕ)
with_name names None = names
with_name names (Some name) = if has_name names name then names else names ++ name ∷ []

-- the names in the order of their first appearance
unfoldable pub names_of : List Sentence → List (List ℕ)
names_of [] = []
names_of (s ∷ earlier) = with_name (names_of earlier) (name_in s)

-- ---- declarations

-- the declarations in their order
unfoldable pub declarations_of : List Sentence → List Declaration
declarations_of [] = []
declarations_of (Declares word values ∷ earlier) =
    declarations_of earlier
    ++ declaration_of (number_for (names_of earlier) (declared_name word values)) word values ∷ []
declarations_of (s ∷ earlier) = declarations_of earlier

-- ---- commands and phases

-- a command, `phase` or `end`: no declaration comes behind it
abbrev pub starts : Sentence → Bool
starts Skipped = false
starts (Declares word values) = false
starts s = true

unfoldable pub is_started : List Sentence → Bool
is_started [] = false
is_started (s ∷ earlier) = starts s || is_started earlier

-- what the lines leave open: nothing, a run of commands outside a block, or a block
unfoldable pub place_of : List Sentence → Place
place_of [] = Outside
place_of (Opens actors ∷ earlier) = Block actors
place_of (Ends ∷ earlier) = Outside
place_of (Orders None word values ∷ earlier) = Run
place_of (s ∷ earlier) = place_of earlier

-- how many commands there are, and how many of them are turns
unfoldable pub command_count : List Sentence → ℕ
command_count [] = 0
command_count (Orders actor word values ∷ earlier) = command_count earlier + 1
command_count (s ∷ earlier) = command_count earlier

-- the command of a word and its values, behind these lines
abbrev pub command_after : List Sentence → CommandWord → List Value → Command
command_after earlier word values = command_of (number_for (names_of earlier) (commanded_name word values)) word values

unfoldable pub turn_count : List Sentence → ℕ
turn_count [] = 0
turn_count (Orders actor word values ∷ earlier) =
    turn_count earlier + (if is_turn (command_after earlier word values) then 1 else 0)
turn_count (s ∷ earlier) = turn_count earlier

-- the script of an actor: its commands among these lines
abbrev pub script_of : List Line → ℕ → Script
script_of lines actor =
    record { commands = map (λ (l : Line). l.command) (filter (λ (l : Line). l.actor == actor) lines) }

-- so many scripts, from an actor on
unfoldable pub scripts_from : List Line → ℕ → ℕ → List Script
scripts_from lines actor zero = []
scripts_from lines actor (suc more) = script_of lines actor ∷ scripts_from lines (suc actor) more

-- a phase of so many actors, by its lines in the order given
unfoldable pub phase_of : ℕ → List Line → Phase
phase_of actors lines = record { actors = actors; scripts = scripts_from lines 0 actors; lines = lines }

-- a phase with one line more
abbrev pub with_line : Line → Phase → Phase
with_line line p = phase_of p.actors (p.lines ++ line ∷ [])

-- the last of the phases gets a line
unfoldable pub at_last : Line → List Phase → List Phase
at_last line [] = []
at_last line (p ∷ []) = with_line line p ∷ []
at_last line (p ∷ q ∷ ps) = p ∷ at_last line (q ∷ ps)

-- the command of a line, as the next of all
abbrev pub line_after : List Sentence → Option ℕ → CommandWord → List Value → Line
line_after earlier actor word values = record {
  actor = unwrap_or actor 0;
  number = command_count earlier;
  command = command_after earlier word values;
}

-- a command outside a block begins a phase of one actor, or goes on with the run before it
abbrev pub add_line : Place → Line → List Phase → List Phase
add_line Outside line phases = phases ++ phase_of 1 (line ∷ []) ∷ []
add_line place line phases = at_last line phases

-- the phases in their order; a block without lines is one too
unfoldable pub phases_of : List Sentence → List Phase
phases_of [] = []
phases_of (Opens actors ∷ earlier) = phases_of earlier ++ phase_of actors [] ∷ []
phases_of (Orders actor word values ∷ earlier) =
    add_line (place_of earlier) (line_after earlier actor word values) (phases_of earlier)
phases_of (s ∷ earlier) = phases_of earlier

-- ---- all that the lines before a line say

pub record Before : Type 0 where
  pub declarations : List Declaration
  pub names : List (List ℕ)
  pub started : Bool
  pub place : Place
  pub commands : ℕ
  pub turns : ℕ

abbrev pub before : List Sentence → Before
before earlier = record {
  declarations = declarations_of earlier;
  names = names_of earlier;
  started = is_started earlier;
  place = place_of earlier;
  commands = command_count earlier;
  turns = turn_count earlier;
}
