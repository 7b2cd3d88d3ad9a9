-- This project's own, clause e of a legal trace: frames that found their attachment gone.
use Rattle.std.specs.Prelude.{ℕ, ◌==◌, ◌&&◌, ◌||◌, not, nat_lt, nat_le, if◌then◌else◌, Bool, true, false, List, [], ◌∷◌, ◌++◌, map, filter, flat_map, Option, Some}
use Rattle.std.specs.List.{list_any}
use Rattle.tap_ledger.specs.declared.fate.Cause.TheVariants as cause
use Rattle.tap_steer.specs.declared.selection.Select.{Select}
use Rattle.tap_steer.specs.declared.selection.Select.TheVariants as select
use Rattle.scen_words.specs.declared.command.Command.{Command}
use Rattle.scen_words.specs.declared.command.Command.TheVariants as command
use Rattle.tap_trace.specs.declared.answer.Answer.{Answer}
use Rattle.tap_trace.specs.declared.answer.Answer.TheVariants as answer
use Rattle.tap_legal.specs.Numbered.{AnswerAt, OpAt, Told}
use Rattle.tap_legal.specs.Case.{Case, fails_each, of_answer, of_op}
use Rattle.tap_legal.specs.Lookups.{attaches_it, ends_it, is_later_own, row_at}

-- The row of a Gone is that of the table at SEEN, with epoch WANT.
abbrev pub is_row : ℕ → ℕ → Select → Bool
is_row file want (select.Row row keep resizes capacity) = row.file == file && row.epoch == want
is_row file want other = false

abbrev pub has_row : Case → AnswerAt → ℕ → ℕ → Option Command → Bool
has_row c a file want (Some (command.Send name hdr bytes)) =
    is_row file want (row_at c a.seen name hdr bytes)
has_row c a file want other = false

-- FOUND is at least WANT; the gate was shut where it is WANT; it was attached in this phase or an earlier one.
abbrev pub fits_found : Case → AnswerAt → ℕ → ℕ → ℕ → Bool → Bool
fits_found c a file want found shut =
    nat_le want found && (not (found == want) || shut)
    && list_any (λ o. nat_le o.phase a.told.phase && attaches_it c file found o) c.ops

abbrev pub fits_gone : Case → AnswerAt → Answer → Bool
fits_gone c a (answer.Dropped (Some file) (cause.Gone want found shut)) =
    has_row c a file want a.asked && fits_found c a file want found shut
fits_gone c a other = true

-- An operation of a version above SEEN ends WANT, and it is of this phase and of no later command of this actor. One
-- that isn't fails at its own line, and `end` where there is none.
abbrev pub ends_above : Case → AnswerAt → ℕ → ℕ → OpAt → Bool
ends_above c a file want o = nat_lt a.seen o.at.version && ends_it c file want o

abbrev pub is_in_time : Case → Told → OpAt → Bool
is_in_time c t o = o.phase == t.phase && not (is_later_own c t o)

abbrev pub lines_or_end : Case → List OpAt → List ℕ
lines_or_end c [] = c.end ∷ []
lines_or_end c (o ∷ os) = map of_op (o ∷ os)

abbrev pub ending_fails : Case → Told → List OpAt → List ℕ
ending_fails c t ends = if list_any (is_in_time c t) ends then [] else lines_or_end c ends

abbrev pub gone_fails : Case → AnswerAt → Answer → List ℕ
gone_fails c a (answer.Dropped (Some file) (cause.Gone want found shut)) =
    ending_fails c a.told (filter (ends_above c a file want) c.ops)
gone_fails c a other = []

abbrev pub e_fails : Case → List ℕ
e_fails c =
    fails_each of_answer (λ a. fits_gone c a a.answer) c.answers
    ++ flat_map (λ (a : AnswerAt). gone_fails c a a.answer) c.answers
