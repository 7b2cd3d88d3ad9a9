-- This project's own: the look-ups in a trace. Nothing else reads its lines a second time.
use Rattle.std.specs.Prelude.{ℕ, zero, suc, ◌+◌, ◌-◌, ◌==◌, ◌&&◌, ◌||◌, not, nat_lt, nat_le, max, if◌then◌else◌, Bool, false, List, [], ◌∷◌, filter, find, slice_get, slice_index_or, option_map, Option, Some, None, min, length, option_and_then, is_none, true}
use Rattle.tap_steer.specs.declared.operation.Op.{Op}
use Rattle.tap_steer.specs.declared.operation.Op.TheVariants as op
use Rattle.std.specs.List.{list_any}
use Rattle.std.specs.Option.{option_map_or}
use Rattle.tap_frame.specs.declared.header.Hdr.{Hdr}
use Rattle.tap_frame.specs.declared.name.Name.{Name}
use Rattle.tap_steer.specs.declared.selection.Select.{Select}
use Rattle.tap_steer.specs.Select as steer
use Rattle.tap_steer.specs.Table.{Table, file_at}
use Rattle.scen_words.specs.declared.command.Command.{Command}
use Rattle.scen_words.specs.declared.command.Command.TheVariants as command
use Rattle.tap_trace.specs.declared.answer.Answer.{Answer}
use Rattle.tap_trace.specs.declared.answer.Answer.TheVariants as answer
use Rattle.tap_ground.specs.Options.{only_if}
use Rattle.tap_world.specs.ByNumber.{at}
use Rattle.tap_world.specs.Frames.{bad_in, ether_in, sent_bytes, sent_front}
use Rattle.tap_world.specs.Setup.{Declared, opening_table}
use Rattle.tap_world.specs.Stands.{same_name}
use Rattle.tap_world.specs.StepTable.{is_enabled}
use Rattle.tap_legal.specs.Numbered.{AnswerAt, Asked, EntryAt, FileAt, OpAt, Told, same_told}
use Rattle.tap_legal.specs.Case.{Case}

-- ---- which command is before which

-- a later command of the same actor in the same phase
abbrev pub is_own_next : Told → Told → Bool
is_own_next a b = a.phase == b.phase && a.actor == b.actor && nat_lt a.command b.command

-- one is before another: of an earlier phase, or of the same actor with a smaller number
abbrev pub is_before : Told → Told → Bool
is_before a b = nat_lt a.phase b.phase || is_own_next a b

-- a later command of the same actor, also of a later phase
abbrev pub is_later_of_actor : Told → Told → Bool
is_later_of_actor a b = a.actor == b.actor && is_before a b

-- ---- commands

abbrev pub asked_at : Case → ℕ → Option Asked
asked_at c number = slice_get c.asked number

abbrev pub told_of : Case → ℕ → Option Told
told_of c number = option_map (λ (a : Asked). a.told) (asked_at c number)

abbrev pub command_of : Case → ℕ → Option Command
command_of c number = option_map (λ (a : Asked). a.command) (asked_at c number)

-- the answer of a command: that of its own actor in its own phase
abbrev pub answer_of : Case → ℕ → Option AnswerAt
answer_of c number =
    option_and_then (λ (a : Asked). find (λ (x : AnswerAt). same_told x.told a.told) c.answers) (asked_at c number)

-- the answers that tell a command's number, of any actor and in any phase: clause a asks for no more
abbrev pub answers_told : Case → ℕ → List AnswerAt
answers_told c number = filter (λ (a : AnswerAt). a.told.command == number) c.answers

-- ---- versions and tables

-- the operations of a command
abbrev pub ops_of : Case → ℕ → List OpAt
ops_of c command = filter (λ (o : OpAt). o.at.command == command) c.ops

-- an operation teaches a file's device the flow of a frame
abbrev pub is_learning : Option Op → Bool
is_learning (Some (op.Learn file hash)) = true
is_learning other = false

-- those that a command is for, which are no learnings; and its learnings
abbrev pub own_ops : Case → ℕ → List OpAt
own_ops c command = filter (λ (o : OpAt). not (is_learning o.op)) (ops_of c command)

abbrev pub learnt_by : Case → ℕ → List OpAt
learnt_by c command = filter (λ (o : OpAt). is_learning o.op) (ops_of c command)

-- the table at a version: after as many operations, of which there may be fewer
abbrev pub table_at : Case → ℕ → Table
table_at c version = slice_index_or c.tables (min version (length c.ops)) (opening_table c.setup)

-- the greatest version of operations that pass a test
abbrev pub greatest : (OpAt → Bool) → List OpAt → ℕ
greatest test [] = 0
greatest test (o ∷ os) = max (if test o then o.at.version else 0) (greatest test os)

-- the newest version of the phases before this one, and of these and this one
abbrev pub newest_before : Case → ℕ → ℕ
newest_before c phase = greatest (λ o. nat_lt o.phase phase) c.ops

abbrev pub newest_of : Case → ℕ → ℕ
newest_of c phase = greatest (λ o. nat_le o.phase phase) c.ops

-- what an actor had seen before a command: the SEEN of its answer before, and the newest version of earlier phases
abbrev pub last_seen : Told → ℕ → List AnswerAt → ℕ
last_seen t seen [] = seen
last_seen t seen (a ∷ as_) = last_seen t (if is_own_next a.told t then a.seen else seen) as_

abbrev pub seen_before : Case → Told → ℕ
seen_before c t = last_seen t (newest_before c t.phase) c.answers

-- a later command of the actor published this operation
abbrev pub is_later_own : Case → Told → OpAt → Bool
is_later_own c t o =
    option_map_or (λ (a : Asked). is_own_next t a.told) (asked_at c o.at.command) false

-- the version is below the next one that this actor publishes after this command
abbrev pub is_below_own : Case → Told → ℕ → Bool
is_below_own c t version = not (list_any (λ o. is_later_own c t o && nat_le o.at.version version) c.ops)

-- so many versions from one on
abbrev pub versions : ℕ → ℕ → List ℕ
versions low zero = []
versions low (suc more) = low ∷ versions (low + 1) more

-- a version from one up to another passes a test
abbrev pub some_version : ℕ → ℕ → (ℕ → Bool) → Bool
some_version low high test = list_any test (versions low (high + 1 - low))

-- a version at which a command may have looked: from what its actor had seen before it up to a SEEN
abbrev pub some_look : Case → Told → ℕ → (ℕ → Bool) → Bool
some_look c t seen test = some_version (seen_before c t) seen test

-- a version at which an answer still holds: from its SEEN on, of its phase, and below the next one that its actor
-- publishes
abbrev pub some_now : Case → AnswerAt → (Table → Bool) → Bool
some_now c a test = some_version a.seen (newest_of c a.told.phase) (λ v. is_below_own c a.told v && test (table_at c v))

-- ---- attachments

-- the epoch at which a file is enabled
abbrev pub epoch_in : Table → ℕ → Option ℕ
epoch_in t file = only_if (is_enabled (file_at t file).attachment) (file_at t file).epoch

abbrev pub is_attached_at : Table → ℕ → ℕ → Bool
is_attached_at t file epoch = option_map_or (λ e. e == epoch) (epoch_in t file) false

-- an operation ends an epoch of a file, or attaches the file under it
abbrev pub ends_it : Case → ℕ → ℕ → OpAt → Bool
ends_it c file epoch o =
    is_attached_at (table_at c (o.at.version - 1)) file epoch && not
    (is_attached_at (table_at c o.at.version) file epoch)

abbrev pub attaches_it : Case → ℕ → ℕ → OpAt → Bool
attaches_it c file epoch o =
    not (is_attached_at (table_at c (o.at.version - 1)) file epoch) && is_attached_at
    (table_at c o.at.version) file epoch

-- the operation that ends an epoch of a file
abbrev pub ending_of : Case → ℕ → ℕ → Option OpAt
ending_of c file epoch = find (ends_it c file epoch) c.ops

-- ---- files

abbrev pub declared : Case → ℕ → Option Declared
declared c file = at c.setup.files file

abbrev pub part_of : Case → ℕ → Option FileAt
part_of c file = find (λ (f : FileAt). f.part.file == file) c.files

-- CLAIMED and FREED of a file
abbrev pub claimed_of : Case → ℕ → ℕ
claimed_of c file = option_map_or (λ (f : FileAt). f.part.claimed) (part_of c file) 0

abbrev pub freed_of : Case → ℕ → ℕ
freed_of c file = option_map_or (λ (f : FileAt). f.part.freed) (part_of c file) 0

-- the entry of a file at a place, and the entry of a name
abbrev pub entry_at : Case → ℕ → ℕ → Option EntryAt
entry_at c file place = find (λ (e : EntryAt). e.file == file && e.at.place == place) c.entries

abbrev pub entry_named : Case → Name → Option EntryAt
entry_named c name = find (λ (e : EntryAt). same_name e.at.name name) c.entries

-- ---- frames that are sent

-- a command sends a frame that is accepted
abbrev pub is_accepted : Command → Bool
is_accepted (command.Send name hdr bytes) = is_none (bad_in (sent_front hdr) (sent_bytes hdr bytes))
is_accepted other = false

-- the name is that of a frame that was sent and accepted
abbrev pub is_sent : Case → Name → Bool
is_sent c n =
    option_map_or (λ (a : Asked). a.told.actor == n.actor && n.part == 0 && is_accepted a.command)
    (asked_at c n.turn) false

-- what the table at a version selects for a frame that is sent
abbrev pub row_at : Case → ℕ → ℕ → Option Hdr → List ℕ → Select
row_at c version name hdr bytes =
    steer.select (table_at c version) name (ether_in (sent_front hdr) (sent_bytes hdr bytes))

-- ---- places that answers tell

-- the place of a file that an answer put a frame into
abbrev pub placed_in : ℕ → Answer → Option ℕ
placed_in file (answer.Placed other place epoch len) = only_if (other == file) place
placed_in file other = None

abbrev pub put_in : ℕ → AnswerAt → Option ℕ
put_in file a = placed_in file a.answer

-- the file that a read names
abbrev pub file_read : Option Command → Option ℕ
file_read (Some (command.Read file room)) = Some file
file_read other = None

abbrev pub is_read_of : ℕ → AnswerAt → Bool
is_read_of file a = option_map_or (λ f. f == file) (file_read a.asked) false

-- the place that a read tells
abbrev pub place_read : Answer → Option ℕ
place_read (answer.Read name place bytes) = Some place
place_read other = None

-- the place of a file that an answer took a frame from
abbrev pub taken_from : ℕ → AnswerAt → Option ℕ
taken_from file a = if is_read_of file a then place_read a.answer else None

-- a number is above the places of all commands before this one, or at most those of this actor's later ones
abbrev pub is_above_before : (AnswerAt → Option ℕ) → Told → ℕ → List AnswerAt → Bool
is_above_before place t n as_ =
    not (list_any (λ a. is_before a.told t && option_map_or (λ p. nat_le n p) (place a) false) as_)

abbrev pub is_at_most_later : (AnswerAt → Option ℕ) → Told → ℕ → List AnswerAt → Bool
is_at_most_later place t n as_ =
    not
    (list_any (λ a. is_later_of_actor t a.told && option_map_or (λ p. nat_lt p n) (place a) false) as_)
