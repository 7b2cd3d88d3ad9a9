-- This project's own, clause c of a legal trace: the lines of the files.
use Rattle.std.specs.Prelude.{ℕ, ◌+◌, ◌-◌, ◌==◌, ◌&&◌, ◌||◌, not, nat_lt, nat_le, if◌then◌else◌, Bool, true, false, List, ◌++◌, length, map, filter, flat_map, is_some, Option, Some}
use Rattle.std.specs.List.{list_any}
use Rattle.std.specs.Option.{option_map_or}
use Rattle.tap_frame.specs.declared.name.Name.{Name}
use Rattle.tap_steer.specs.Select.{capacity_of}
use Rattle.tap_trace.specs.declared.answer.Answer.{Answer}
use Rattle.tap_trace.specs.declared.answer.Answer.TheVariants as answer
use Rattle.tap_trace.specs.declared.trace.PlaceLine.{PlaceLine}
use Rattle.scen_words.specs.declared.command.Command.{Command}
use Rattle.scen_words.specs.declared.command.Command.TheVariants as command
use Rattle.tap_world.specs.ByNumber.{numbered}
use Rattle.tap_world.specs.Setup.{Declared}
use Rattle.tap_world.specs.Stands.{same_name}
use Rattle.tap_legal.specs.Numbered.{AnswerAt, Asked, EntryAt, FileAt, StepAt, Told}
use Rattle.tap_legal.specs.Case.{Case, fails_each, fails_order, fails_wanted, of_answer, of_entry, of_file, of_step}
use Rattle.tap_legal.specs.Lookups.{answer_of, claimed_of, declared, ending_of, entry_at, entry_named, freed_of, is_before, part_of, put_in, table_at, taken_from, told_of}
use Rattle.tap_legal.specs.Takes.{Resized, copied, cuts_of, resizes_of, waits, was_cut, was_purged, was_read}

-- ---- files and entries

-- The `file` lines are the declared files.
abbrev pub is_file : ℕ × Declared → FileAt → Bool
is_file d f = f.part.file == d.0

abbrev pub files_rise : FileAt → FileAt → Bool
files_rise f g = nat_lt f.part.file g.part.file

-- Each `placed` is the entry at its place, under the command's name, epoch and length.
abbrev pub is_entry_of : Told → ℕ → ℕ → EntryAt → Bool
is_entry_of t epoch len e =
    e.at.name.actor == t.actor && e.at.name.turn == t.command && e.at.name.part == 0 && e.at.epoch == epoch
    && e.at.len == len

abbrev pub stands_as : Case → Told → Answer → Bool
stands_as c t (answer.Placed file place epoch len) =
    option_map_or (is_entry_of t epoch len) (entry_at c file place) false
stands_as c t other = true

-- Each entry is one `placed`,
abbrev pub is_placed : Case → EntryAt → Bool
is_placed c e =
    e.at.name.part == 0
    && option_map_or
    (λ (a : AnswerAt). a.told.actor == e.at.name.actor && option_map_or (λ p. p == e.at.place)
    (put_in e.file a) false)
    (answer_of c e.at.name.turn) false

-- and, in addition to the sentences, entry i has place first + i, as the line of a file does.
abbrev pub is_in_place : EntryAt → Declared → FileAt → Bool
is_in_place e d f = e.at.place + (f.line + 1) == d.first + e.line

abbrev pub has_its_place : Case → EntryAt → Bool
has_its_place c e =
    option_map_or (λ d. option_map_or (is_in_place e d) (part_of c e.file) true) (declared c e.file) true

-- Places rise with one actor's commands.
abbrev pub rises : (AnswerAt → Option ℕ) → AnswerAt → AnswerAt → Bool
rises place a b =
    not (a.told.actor == b.told.actor)
    || option_map_or (λ p. option_map_or (λ q. nat_lt p q) (place b) true) (place a) true

-- Epochs never fall. Of the entries that aren't cut, the waiting ones are the last.
abbrev pub epochs_rise : EntryAt → EntryAt → Bool
epochs_rise d e = not (d.file == e.file) || nat_le d.at.epoch e.at.epoch

abbrev pub waiting_last : EntryAt → EntryAt → Bool
waiting_last d e = not (d.file == e.file) || not (waits d.at.fate) || waits e.at.fate || was_cut e.at.fate

-- ---- CLAIMED and FREED

-- how many entries of a file are out or cut
abbrev pub left_in : FileAt → ℕ
left_in f = length (filter (λ (l : PlaceLine). not (waits l.fate)) f.part.lines)

-- CLAIMED is first plus the number of entries. FREED is at most CLAIMED, at least CLAIMED minus the file's last
-- capacity, and first plus the entries out and cut plus 0 to 64.
abbrev pub numbers_fit : Case → FileAt → Declared → Bool
numbers_fit c f d =
    f.part.claimed == d.first + length f.part.lines
    && nat_le f.part.freed f.part.claimed
    && nat_le f.part.claimed (f.part.freed + capacity_of (table_at c (length c.ops)) f.part.file)
    && nat_le (d.first + left_in f) f.part.freed
    && nat_le f.part.freed (d.first + left_in f + 64)

abbrev pub has_numbers : Case → FileAt → Bool
has_numbers c f = option_map_or (numbers_fit c f) (declared c f.part.file) true

-- ---- reads and copies

-- No read and no receive copy is of a command before the one that placed its entry.
abbrev pub is_after_placing : Case → Told → EntryAt → Bool
is_after_placing c t e = option_map_or (λ b. not (is_before t b)) (told_of c e.at.name.turn) true

-- Each `read` is the entry at its place, with fate `read`.
abbrev pub is_read_entry : Case → Told → Name → EntryAt → Bool
is_read_entry c t name e = same_name e.at.name name && was_read e.at.fate && is_after_placing c t e

abbrev pub reads_entry : Case → AnswerAt → Option Command → Answer → Bool
reads_entry c a (Some (command.Read file room)) (answer.Read name place bytes) =
    option_map_or (is_read_entry c a.told name) (entry_at c file place) false
reads_entry c a asked other = true

abbrev pub copies_later : Case → StepAt → Bool
copies_later c s =
    option_map_or
    (λ name. option_map_or (λ e. option_map_or (λ t. is_after_placing c t e) (told_of c s.at.command) true)
    (entry_named c name) true)
    (copied s.at.kind) true

-- ---- epochs that end

-- An entry is `purged` only where an operation ends its epoch, and waits only where none does.
abbrev pub fits_epoch : Case → EntryAt → Bool
fits_epoch c e =
    let ended : Bool = is_some (ending_of c e.file e.at.epoch) in
    if was_purged e.at.fate then ended else not (waits e.at.fate && ended)

-- ---- resizes

-- Taken by version, the cut entries of each `resize` line are its CUT greatest places below its CLAIMED that no earlier
-- one cut; each cut entry is one of them.
abbrev pub are_cut : Case → ℕ → Resized × List ℕ → Bool
are_cut c file r =
    length r.1 == r.0.cut
    && not (list_any (λ p. option_map_or (λ (e : EntryAt). not (was_cut e.at.fate)) (entry_at c file p) true) r.1)

abbrev pub is_among_cut : Case → EntryAt → Bool
is_among_cut c e =
    not (was_cut e.at.fate) || list_any (λ r. list_any (λ p. p == e.at.place) r.1) (cuts_of c e.file)

-- another actor of its phase may take frames
abbrev pub takes_frames : Command → Bool
takes_frames (command.Read file room) = true
takes_frames (command.RxTurn vhost) = true
takes_frames other = false

abbrev pub has_taker : Case → Told → Bool
has_taker c t =
    list_any (λ (a : Asked). a.told.phase == t.phase && not (a.told.actor == t.actor) && takes_frames a.command)
    c.asked

-- Its CLAIMED is at most its FREED plus the new capacity, and is that sum where CUT isn't 0 and no other actor of the
-- phase has a read or a receive turn. CUT is 0 where the new capacity isn't below the one before.
abbrev pub has_capacity : Case → ℕ → Resized → Bool
has_capacity c file r =
    nat_le r.claimed (r.freed + r.capacity)
    && (r.cut == 0 || has_taker c r.told || r.claimed == r.freed + r.capacity)
    && (r.cut == 0 || nat_lt r.capacity (capacity_of (table_at c (r.version - 1)) file))

-- CLAIMED and FREED of such lines never fall by version, and are at most the file's.
abbrev pub resizes_rise : Resized → Resized → Bool
resizes_rise q r = nat_le q.claimed r.claimed && nat_le q.freed r.freed

abbrev pub is_within_file : Case → ℕ → Resized → Bool
is_within_file c file r = nat_le r.claimed (claimed_of c file) && nat_le r.freed (freed_of c file)

abbrev pub of_resize : Resized → ℕ
of_resize r = r.line

abbrev pub resizes_fail : Case → ℕ → List ℕ
resizes_fail c file =
    fails_each (λ (r : Resized × List ℕ). r.0.line) (are_cut c file) (cuts_of c file)
    ++ fails_each of_resize (has_capacity c file) (resizes_of c file)
    ++ fails_order of_resize resizes_rise (resizes_of c file)
    ++ fails_each of_resize (is_within_file c file) (resizes_of c file)

-- ---- the clause

-- the numbers of the declared files
abbrev pub file_numbers : Case → List ℕ
file_numbers c = map (λ d. d.0) (numbered 0 c.setup.files)

abbrev pub c_fails : Case → List ℕ
c_fails c =
    fails_wanted c of_file is_file files_rise (numbered 0 c.setup.files) c.files
    ++ fails_each of_answer (λ a. stands_as c a.told a.answer) c.answers
    ++ fails_each of_entry (is_placed c) c.entries
    ++ fails_each of_entry (has_its_place c) c.entries
    ++ flat_map (λ file. fails_order of_answer (rises (put_in file)) c.answers) (file_numbers c)
    ++ fails_order of_entry epochs_rise c.entries ++ fails_order of_entry waiting_last c.entries
    ++ fails_each of_file (has_numbers c) c.files
    ++ fails_each of_answer (λ a. reads_entry c a a.asked a.answer) c.answers
    ++ fails_each of_step (copies_later c) c.steps
    ++ flat_map (λ file. fails_order of_answer (rises (taken_from file)) c.answers) (file_numbers c)
    ++ fails_each of_entry (fits_epoch c) c.entries ++ fails_each of_entry (is_among_cut c) c.entries
    ++ flat_map (resizes_fail c) (file_numbers c)
