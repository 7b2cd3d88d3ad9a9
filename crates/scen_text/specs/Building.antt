-- This project's own: what the reader of a scenario keeps of the lines so far.
use Rattle.std.specs.Prelude.{◌≡◌, ℕ, ◌+◌, Bool, true, List, [], ◌∷◌, ◌++◌, None, Some, Option, Result, Ok, Err}
use Rattle.scen_text.specs.declared.builder.Builder.{Builder}
use Rattle.scen_words.specs.declared.command.Command.{Command}
use Rattle.tap_ground.specs.declared.error.OrMemory.{OrMemory}
use Rattle.tap_ground.specs.declared.error.OrMemory.TheVariants as error
use Rattle.scen_text.specs.declared.fault.ScenFault.{ScenFault}
use Rattle.scen_words.specs.declared.fault.Why.{Why}
use Rattle.scen_text.specs.declared.place.Place.TheVariants.{Outside}
use Rattle.scen_words.specs.declared.declaration.Declaration.{Declaration}
use Rattle.scen_text.specs.declared.scenario.Phase.{Phase}
use Rattle.scen_words.specs.declared.sentence.Sentence.{Sentence}
use Rattle.scen_text.specs.Before.{Before, before, phases_of, with_name}
use Rattle.scen_text.specs.Lines.{open_phase, place_after, turns_of}
use Rattle.scen_text.specs.Refusals.{cause, said_after, said_from}

-- what a builder says of the lines before the next
abbrev pub standing : Builder → Before
standing b = record {
  declarations = b.declarations;
  names = b.names;
  started = b.started;
  place = b.place;
  commands = b.commands;
  turns = b.turns;
}

abbrev pub shown : Builder → List Phase
shown b = b.phases ++ open_phase b.place b.lines

-- the builder keeps what these lines say
pub record Keeps (b : Builder) (earlier : List Sentence) : Type 0 where
  pub standing : standing b ≡ before earlier
  pub phases : shown b ≡ phases_of earlier

-- the new builder has heard one sentence more than the old one
abbrev pub Hears : Builder → Builder → Sentence → Type 0
Hears old new s = (earlier : List Sentence) → Keeps old earlier → Keeps new (s ∷ earlier)

-- the sentence is refused for nothing, and was heard; or this is its least refusal
abbrev pub Takes : Bool → Builder → Sentence → Result (Unit {0}) (OrMemory Why) → Builder → Type 0
Takes last old s (Ok u) new = (cause (standing old) last s ≡ None) × Hears old new s
Takes last old s (Err (error.Fault why)) new = cause (standing old) last s ≡ Some why
Takes last old s (Err error.NoMemory) new = Unit {0}

-- the line is refused for nothing, and was heard; or this is its least refusal
abbrev pub HearsLine : ℕ → List ℕ → Bool → Builder → Result (Unit {0}) (OrMemory Why) → Builder → Type 0
HearsLine version line last old (Ok u) new = (earlier : List Sentence) → Keeps old earlier
    → (s : Sentence) × (said_after version earlier last line ≡ Ok s) × Keeps new (s ∷ earlier)
HearsLine version line last old (Err (error.Fault why)) new =
    (earlier : List Sentence) → Keeps old earlier → said_after version earlier last line ≡ Err why
HearsLine version line last old (Err error.NoMemory) new = Unit {0}

-- the error of a line, with the line's number
abbrev pub error_at : ℕ → OrMemory Why → OrMemory ScenFault
error_at n (error.Fault why) = error.Fault (record { line = n; why = why })
error_at n error.NoMemory = error.NoMemory

-- the lines behind the first are refused for nothing, and the builder keeps what they say; or this is their first
-- refusal
abbrev pub Builds : ℕ → List (List ℕ) → Result Builder (OrMemory ScenFault) → Type 0
Builds version lines (Ok b) = (said : List Sentence) × (said_from version [] 2 lines ≡ Ok said) × Keeps b said
Builds version lines (Err (error.Fault fault)) = said_from version [] 2 lines ≡ Err fault
Builds version lines (Err error.NoMemory) = Unit {0}

-- ---- what one call changes

-- a declaration, and perhaps a name
abbrev pub with_declaration : Before → Declaration → Option (List ℕ) → Before
with_declaration b d name = record b { declarations = b.declarations ++ d ∷ []; names = with_name b.names name }

-- a command, and perhaps a name
abbrev pub with_command : Before → Command → Option (List ℕ) → Before
with_command b c name = record b {
  names = with_name b.names name;
  started = true;
  place = place_after b.place;
  commands = b.commands + 1;
  turns = b.turns + turns_of c;
}

-- nothing is open any more
abbrev pub closed : Before → Before
closed b = record b { place = Outside }
