-- This project's own, clause f of a legal trace: reads and turns that found no frame ready.
use Rattle.std.specs.Prelude.{ℕ, ◌==◌, ◌&&◌, ◌||◌, not, nat_lt, nat_le, Bool, true, false, List, [], ◌∷◌, ◌++◌, map, filter, flat_map, Option, Some}
use Rattle.std.specs.List.{list_all, list_any}
use Rattle.std.specs.Option.{option_map_or}
use Rattle.scen_words.specs.declared.command.Command.{Command}
use Rattle.scen_words.specs.declared.command.Command.TheVariants as command
use Rattle.tap_trace.specs.declared.answer.Answer.{Answer}
use Rattle.tap_trace.specs.declared.answer.Answer.TheVariants as answer
use Rattle.tap_trace.specs.declared.turn.TurnText.TheVariants as text
use Rattle.tap_world.specs.Setup.{Declared}
use Rattle.tap_legal.specs.Numbered.{AnswerAt, EntryAt, Told}
use Rattle.tap_legal.specs.Case.{Case, fails_each, of_answer, of_entry}
use Rattle.tap_legal.specs.Lookups.{claimed_of, declared, entry_at, is_before, told_of}
use Rattle.tap_legal.specs.Served.{served_by}
use Rattle.tap_legal.specs.Takes.{is_taken_after, waits}

-- The place is from first to CLAIMED, and wasn't placed before this command.
abbrev pub is_in_line : Case → ℕ → ℕ → Bool
is_in_line c file place =
    option_map_or (λ (d : Declared). nat_le d.first place) (declared c file) false && nat_le place (claimed_of c file)

abbrev pub is_not_placed : Case → Told → ℕ → ℕ → Bool
is_not_placed c t file place =
    option_map_or (λ (e : EntryAt). option_map_or (λ b. not (is_before b t)) (told_of c e.at.name.turn) true)
    (entry_at c file place) true

-- Every entry below it is out or cut, and none of them by a command that this one is before; one that isn't so fails at
-- its own line.
abbrev pub has_left_below : Case → Told → ℕ → ℕ → EntryAt → Bool
has_left_below c t file place e =
    not (e.file == file && nat_lt e.at.place place) || (not (waits e.at.fate) && not (is_taken_after c t e))

abbrev pub fits_again : Case → AnswerAt → Option Command → Answer → Bool
fits_again c a (Some (command.Read file room)) (answer.Again place) =
    is_in_line c file place && is_not_placed c a.told file place
fits_again c a asked other = true

abbrev pub below_fails : Case → AnswerAt → Option Command → Answer → List ℕ
below_fails c a (Some (command.Read file room)) (answer.Again place) =
    fails_each of_entry (has_left_below c a.told file place) c.entries
below_fails c a asked other = []

-- An `idle` of a receive turn needs such a place, which isn't printed.
abbrev pub is_not_ready : Case → Told → ℕ → ℕ → Bool
is_not_ready c t file place =
    is_in_line c file place && is_not_placed c t file place && list_all (has_left_below c t file place) c.entries

abbrev pub places_of : Case → ℕ → List ℕ
places_of c file =
    claimed_of c file ∷ map (λ (e : EntryAt). e.at.place) (filter (λ (e : EntryAt). e.file == file) c.entries)

abbrev pub found_none : Case → Told → ℕ → Bool
found_none c t file = list_any (is_not_ready c t file) (places_of c file)

abbrev pub fits_idle : Case → Told → Option Command → Answer → Bool
fits_idle c t (Some (command.RxTurn vhost)) (answer.Turn packets bytes text.Idle chains) =
    option_map_or (found_none c t) (served_by c t.command) true
fits_idle c t asked other = true

abbrev pub f_fails : Case → List ℕ
f_fails c =
    fails_each of_answer (λ a. fits_again c a a.asked a.answer) c.answers
    ++ flat_map (λ (a : AnswerAt). below_fails c a a.asked a.answer) c.answers
    ++ fails_each of_answer (λ a. fits_idle c a.told a.asked a.answer) c.answers
