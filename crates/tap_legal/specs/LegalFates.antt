-- This project's own, clause h of a legal trace: each accepted frame has one fate, and no other name stands in the
-- trace.
use Rattle.std.specs.Prelude.{ℕ, ◌+◌, ◌==◌, ◌&&◌, ◌||◌, not, nat_lt, if◌then◌else◌, Bool, true, false, List, [], ◌∷◌, ◌++◌, length, filter, flat_map, Option, Some, None}
use Rattle.std.specs.List.{list_all, list_any}
use Rattle.std.specs.Option.{option_map_or}
use Rattle.tap_frame.specs.declared.name.Name.{Name}
use Rattle.scen_words.specs.declared.command.Command.{Command}
use Rattle.scen_words.specs.declared.command.Command.TheVariants as command
use Rattle.tap_trace.specs.declared.answer.Answer.{Answer}
use Rattle.tap_trace.specs.declared.answer.Answer.TheVariants as answer
use Rattle.tap_world.specs.World.{name_of}
use Rattle.tap_world.specs.Stands.{same_name}
use Rattle.tap_ledger.specs.declared.fate.Fate.{Fate}
use Rattle.tap_ledger.specs.declared.fate.Fate.TheVariants as fate
use Rattle.tap_ledger.specs.declared.fate.Cause.TheVariants as cause
use Rattle.tap_legal.specs.Numbered.{AnswerAt, EntryAt, FileAt, StepAt}
use Rattle.tap_legal.specs.Replay.{Packet}
use Rattle.tap_legal.specs.Replays.{Replays, is_whole, packets_of}
use Rattle.tap_legal.specs.Served.{serves}
use Rattle.tap_legal.specs.Case.{Case, fails_each, of_answer, of_entry, of_file, of_step}
use Rattle.tap_legal.specs.Lookups.{is_accepted, is_sent}
use Rattle.tap_legal.specs.Takes.{copied, copies_of, has_guest, readers, was_read}

-- ---- one fate

abbrev pub is_drop : Answer → Bool
is_drop (answer.Dropped file cause) = true
is_drop other = false

abbrev pub entries_named : Case → Name → List EntryAt
entries_named c n = filter (λ (e : EntryAt). same_name e.at.name n) c.entries

-- Each accepted frame has exactly one of: a `drop`, a `host` or `got`, an entry. No entry is of a frame that was got,
-- since each is of one that was sent.
abbrev pub has_one_fate : Case → AnswerAt → Option Command → Bool
has_one_fate c a (Some (command.Send name hdr bytes)) =
    not (is_accepted (command.Send name hdr bytes))
    || (if is_drop a.answer then 1 else 0) + length (entries_named c (name_of a.told.actor a.told.command)) == 1
has_one_fate c a (Some (command.Write file bytes)) =
    length (entries_named c (name_of a.told.actor a.told.command)) == 0
has_one_fate c a other = true

-- ---- no other name

abbrev pub name_read : Answer → Option Name
name_read (answer.Read name place bytes) = Some name
name_read other = None

abbrev pub reads_sent : Case → AnswerAt → Bool
reads_sent c a = option_map_or (is_sent c) (name_read a.answer) true

abbrev pub copies_sent : Case → StepAt → Bool
copies_sent c s = option_map_or (is_sent c) (copied s.at.kind) true

-- ---- reads and copies

-- Each `guest` entry has one copy, in a receive turn on its file, and each `read` entry one `read`.
abbrev pub is_on_its_file : Case → EntryAt → StepAt → Bool
is_on_its_file c e s = serves c e.file s.at.command

abbrev pub is_taken_once : Case → EntryAt → Bool
is_taken_once c e =
    (not (has_guest e.at.fate)
    || length (copies_of c e.at.name) == 1 && list_all (is_on_its_file c e) (copies_of c e.at.name))
    && (not (was_read e.at.fate) || length (readers c e) == 1)

-- ---- packets

-- Each `overrun` entry has HAD below NEED, NEED is LEN plus 10 or 12, and QUOTA is 1 or 1,024.
abbrev pub fits_overrun : ℕ → Fate → Bool
fits_overrun len (fate.Discarded (cause.Overrun need quota had)) =
    nat_lt had need && (need == len + 10 || need == len + 12) && (quota == 1 || quota == 1024)
fits_overrun len other = true

-- Entries and packets match in the order of places: a copied frame has fate `guest`; NEED and QUOTA of an overrun are
-- those of the settings, and HAD is the bytes of its chains, as the replay has them.
abbrev pub fits_packet : Packet → EntryAt → Fate → Option Name → Bool
fits_packet p e fate.Guest (Some name) = same_name e.at.name name
fits_packet p e (fate.Discarded (cause.Overrun need quota had)) None =
    need == p.header + e.at.len && quota == p.quota && had == p.had
fits_packet p e other name = false

abbrev pub packets_fail : List EntryAt → List Packet → List ℕ
packets_fail [] ps = []
packets_fail (e ∷ es) [] = []
packets_fail (e ∷ es) (p ∷ ps) = (if fits_packet p e e.at.fate p.name then [] else e.line ∷ []) ++ packets_fail es ps

abbrev pub is_packet : Fate → Bool
is_packet fate.Guest = true
is_packet (fate.Discarded (cause.Overrun need quota had)) = true
is_packet other = false

abbrev pub packet_entries : Case → ℕ → List EntryAt
packet_entries c file = filter (λ (e : EntryAt). e.file == file && is_packet e.at.fate) c.entries

-- a copied frame is among these entries
abbrev pub is_among : List EntryAt → Packet → Bool
is_among es p = option_map_or (λ name. list_any (λ (e : EntryAt). same_name e.at.name name) es) p.name true

-- Packets of all receive turns on a file are its `guest` and `overrun` entries.
abbrev pub has_packets : Case → Replays → FileAt → Bool
has_packets c rs f =
    let ps : List Packet = packets_of c f.part.file rs in
    length (packet_entries c f.part.file) == length ps && list_all (is_among (packet_entries c f.part.file)) ps

abbrev pub file_packets_fail : Case → Replays → FileAt → List ℕ
file_packets_fail c rs f = packets_fail (packet_entries c f.part.file) (packets_of c f.part.file rs)

-- ---- the clause

abbrev pub h_fails : Case → Replays → List ℕ
h_fails c rs =
    fails_each of_answer (λ a. has_one_fate c a a.asked) c.answers
    ++ fails_each of_entry (λ (e : EntryAt). is_sent c e.at.name) c.entries
    ++ fails_each of_answer (reads_sent c) c.answers
    ++ fails_each of_step (copies_sent c) c.steps
    ++ fails_each of_entry (is_taken_once c) c.entries
    ++ fails_each of_entry (λ (e : EntryAt). fits_overrun e.at.len e.at.fate) c.entries
    ++ (if is_whole rs
    then fails_each of_file (has_packets c rs) c.files ++ flat_map (file_packets_fail c rs) c.files
    else [])
