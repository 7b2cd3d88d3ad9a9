-- This project's own, clause b of a legal trace: one answer for each command, by what its actor had seen.
use Rattle.std.specs.Prelude.{ℕ, ◌==◌, ◌&&◌, not, nat_lt, nat_le, if◌then◌else◌, Bool, true, false, List, ◌++◌, length, bytes_eq, is_some, is_none, Option, Some, None}
use Rattle.std.specs.List.{list_any}
use Rattle.std.specs.Option.{option_map_or}
use Rattle.tap_flow_key.specs.Fnv.{fnv_of}
use Rattle.tap_frame.specs.declared.name.Name.{Name}
use Rattle.tap_frame.specs.declared.reading.BadFrame.{BadFrame}
use Rattle.tap_ledger.specs.declared.fate.Cause.TheVariants as cause
use Rattle.tap_steer.specs.declared.selection.Select.{Select}
use Rattle.tap_steer.specs.declared.selection.Select.TheVariants as select
use Rattle.tap_steer.specs.Table.{Table, file_at}
use Rattle.tap_steer.specs.Select as steer
use Rattle.scen_text.specs.declared.scenario.Phase.{Phase}
use Rattle.scen_words.specs.declared.command.Command.{Command}
use Rattle.scen_words.specs.declared.command.Command.TheVariants as command
use Rattle.tap_trace.specs.declared.answer.Answer.{Answer}
use Rattle.tap_trace.specs.declared.answer.Answer.TheVariants as answer
use Rattle.tap_ledger.specs.declared.error.TapErr.TheVariants.{EBADFD}
use Rattle.tap_world.specs.Frames.{Front, bad_in, ether_in, least_in, sent_bytes, sent_front, text_in}
use Rattle.tap_world.specs.Setup.{frame_of}
use Rattle.tap_legal.specs.Numbered.{AnswerAt, Asked, EntryAt, OpAt, PhaseAt, same_told}
use Rattle.tap_legal.specs.Same.{is_bad, same_refusal}
use Rattle.tap_legal.specs.Case.{Case, fails_as, fails_each, fails_missing, fails_order, of_answer}
use Rattle.tap_legal.specs.Lookups.{entry_named, is_below_own, learnt_by, newest_before, newest_of, ops_of, row_at, seen_before, some_look, some_now, table_at}

-- ---- the commands

-- The `phase` lines are the scenario's phases with their numbers of actors.
abbrev pub is_phase : Phase → PhaseAt → Bool
is_phase p l = l.actors == p.actors

-- Each actor has one answer for each command.
abbrev pub answers_one : AnswerAt → Bool
answers_one a = is_some a.asked

abbrev pub is_another : AnswerAt → AnswerAt → Bool
is_another a b = not (same_told a.told b.told)

abbrev pub has_answer : Case → Asked → Bool
has_answer c x = list_any (λ (a : AnswerAt). same_told a.told x.told) c.answers

-- ---- SEEN

-- Each SEEN is at least that of the same actor's answer before it, and the newest version of earlier phases,
abbrev pub is_seen_from : Case → AnswerAt → Bool
is_seen_from c a = nat_le (seen_before c a.told) a.seen && nat_le (newest_before c a.told.phase) a.seen

-- and, in addition to the sentences, each version that its command published, since an actor has seen what it does;
abbrev pub is_seen_own : Case → AnswerAt → Bool
is_seen_own c a = not (list_any (λ (o : OpAt). nat_lt a.seen o.at.version) (ops_of c a.told.command))

-- it is at most the newest version of its own phase,
abbrev pub is_seen_to : Case → AnswerAt → Bool
is_seen_to c a = nat_le a.seen (newest_of c a.told.phase)

-- and below the next version that this actor publishes.
abbrev pub is_seen_below : Case → AnswerAt → Bool
is_seen_below c a = is_below_own c a.told a.seen

-- ---- sends

-- a frame with a row is placed there, or dropped by its ring; the row of a Gone is looked at in clause e
abbrev pub fits_row : ℕ → ℕ → ℕ → Answer → Bool
fits_row file epoch keep (answer.Placed f place e len) = f == file && e == epoch && len == keep
fits_row file epoch keep (answer.Dropped (Some f) (cause.Gone want found shut)) = f == file
fits_row file epoch keep (answer.Dropped (Some f) (cause.Full claimed freed)) = f == file
fits_row file epoch keep (answer.Dropped (Some f) (cause.Spent claimed)) = f == file
fits_row file epoch keep other = false

abbrev pub is_no_queue : Answer → Bool
is_no_queue (answer.Dropped None cause.NoQueue) = true
is_no_queue other = false

abbrev pub is_filtered : Answer → Bool
is_filtered (answer.Dropped None cause.Filtered) = true
is_filtered other = false

abbrev pub fits_select : Select → Answer → Bool
fits_select select.NoQueue x = is_no_queue x
fits_select select.Filtered x = is_filtered x
fits_select (select.Row row keep resizes capacity) x = fits_row row.file row.epoch keep x

abbrev pub tells_bad : BadFrame → Answer → Bool
tells_bad bad (answer.Bad told) = is_bad told (Some bad)
tells_bad bad other = false

abbrev pub fits_send : Option BadFrame → Select → Answer → Bool
fits_send (Some bad) chosen x = tells_bad bad x
fits_send None chosen x = fits_select chosen x

-- ---- reads and writes

abbrev pub is_no_device : Answer → Bool
is_no_device (answer.Tap e) = same_refusal e EBADFD
is_no_device other = false

-- the bytes of a read are those of its frame, as it was placed, in the room
abbrev pub has_text : Case → Front → ℕ → Name → List ℕ → Bool
has_text c front room name bytes =
    option_map_or (λ (e : EntryAt).
    option_map_or (λ f. bytes_eq (text_in front f room) bytes) (frame_of c.setup name e.at.len) true)
    (entry_named c name) true

-- a worker may own the file
abbrev pub has_worker : ℕ → Table → Bool
has_worker file t = is_some (file_at t file).rx

abbrev pub fits_read : Case → AnswerAt → ℕ → ℕ → Front → Answer → Bool
fits_read c a file room front (answer.Room least) = nat_lt room (least_in front) && least == least_in front
fits_read c a file room front (answer.Read name place bytes) =
    nat_le (least_in front) room && has_text c front room name bytes
fits_read c a file room front answer.Busy = nat_le (least_in front) room && some_now c a (has_worker file)
fits_read c a file room front (answer.Again place) = nat_le (least_in front) room
fits_read c a file room front other = false

-- a write is bad, or its frame is with the host
abbrev pub fits_write : Front → List ℕ → Answer → Bool
fits_write front bytes (answer.Bad bad) = is_bad bad (bad_in front bytes)
fits_write front bytes (answer.Host len fnv) =
    is_none (bad_in front bytes) && len == length (ether_in front bytes) && fnv == fnv_of (ether_in front bytes)
fits_write front bytes other = false

abbrev pub fits_front : Option Front → Answer → (Front → Bool) → Bool
fits_front None x fits = is_no_device x
fits_front (Some front) x fits = fits front

abbrev pub fits_write_at : Case → ℕ → List ℕ → Answer → ℕ → Bool
fits_write_at c file bytes x version =
    fits_front (steer.shape_of (table_at c version) file) x (λ front. fits_write front bytes x)

-- ---- the answer of a send, a read and a write

-- A `send` is answered by its bytes and by its row at SEEN. Of a `read` a missing device, a room that is too small, and
-- the bytes are those of the table at SEEN; it is busy only where the file has a receive backend at a version of now. A
-- `write` is answered by its bytes at SEEN, or, where it learns, at a version that it may have looked at.
abbrev pub is_answer : Case → AnswerAt → Option Command → Bool
is_answer c a (Some (command.Send name hdr bytes)) =
    fits_send (bad_in (sent_front hdr) (sent_bytes hdr bytes)) (row_at c a.seen name hdr bytes) a.answer
is_answer c a (Some (command.Read file room)) =
    fits_front (steer.shape_of (table_at c a.seen) file) a.answer (λ front. fits_read c a file room front a.answer)
is_answer c a (Some (command.Write file bytes)) =
    if nat_lt 0 (length (learnt_by c a.told.command))
    then some_look c a.told a.seen (fits_write_at c file bytes a.answer)
    else fits_write_at c file bytes a.answer a.seen
is_answer c a other = true

-- ---- the clause

abbrev pub b_fails : Case → List ℕ
b_fails c =
    fails_as c.end is_phase (λ (l : PhaseAt). l.line) c.setup.phases c.phases
    ++ fails_each of_answer answers_one c.answers
    ++ fails_order of_answer is_another c.answers
    ++ fails_missing c (has_answer c) c.asked
    ++ fails_each of_answer (is_seen_from c) c.answers
    ++ fails_each of_answer (is_seen_own c) c.answers
    ++ fails_each of_answer (is_seen_to c) c.answers
    ++ fails_each of_answer (is_seen_below c) c.answers
    ++ fails_each of_answer (λ a. is_answer c a a.asked) c.answers
