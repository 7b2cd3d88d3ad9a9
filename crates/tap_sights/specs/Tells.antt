-- This project's own: what each answer tells by itself, by its command: of the table at SEEN, and of the numbers that its
-- actor had seen before it and after it.
use Rattle.std.specs.Prelude.{◌≡◌, ◌⊎◌, ◌==◌, ◌&&◌, ℕ, ◌+◌, ◌-◌, ◌^◌, ◌≤◌, ◌<◌, length, filter, Bool, true, false, List, [], ◌∷◌, Option, Some, None}
use Rattle.tap_frame.specs.declared.header.Hdr.{Hdr}
use Rattle.tap_frame.specs.declared.name.Name.{Name}
use Rattle.tap_ledger.specs.declared.fate.Cause.TheVariants as cause
use Rattle.tap_steer.specs.declared.operation.Op.TheVariants as op
use Rattle.tap_steer.specs.Select.{capacity_of, learns, shape_of}
use Rattle.scen_words.specs.declared.command.Command.{Command}
use Rattle.scen_words.specs.declared.command.Command.TheVariants as command
use Rattle.tap_trace.specs.declared.answer.Answer.{Answer}
use Rattle.tap_trace.specs.declared.answer.Answer.TheVariants as answer
use Rattle.tap_ledger.specs.declared.error.TapErr.TheVariants.{EBADFD}
use Rattle.tap_trace.specs.declared.turn.TurnText.TheVariants as text
use Rattle.tap_world.specs.Frames.{Front, bad_in, least_in, sent_bytes, sent_front}
use Rattle.tap_world.specs.Setup.{Declared}
use Rattle.tap_world.specs.Stands.{same_name}
use Rattle.tap_world.specs.World.{name_of}
use Rattle.tap_legal.specs.Numbered.{AnswerAt, EntryAt, OpAt, Told, same_told}
use Rattle.tap_legal.specs.Same.{same_refusal}
use Rattle.tap_legal.specs.Case.{Case}
use Rattle.tap_legal.specs.Lookups.{attaches_it, claimed_of, declared, ends_it, freed_of, is_learning, is_sent, learnt_by, row_at, table_at, told_of}
use Rattle.tap_legal.specs.LegalTable.{is_back_answer, is_hash_at, is_table_answer, version_in}
use Rattle.tap_legal.specs.LegalAnswers.{fits_send, fits_write_at, has_text, has_worker}
use Rattle.tap_legal.specs.LegalFull.{is_other_actor, is_resize_of}
use Rattle.tap_legal.specs.LegalGone.{has_row}
use Rattle.tap_legal.specs.LegalGuests.{answers_no_ring}
use Rattle.tap_legal.specs.LegalLines.{has_taker, is_entry_of}
use Rattle.tap_legal.specs.LegalNotReady.{is_not_placed}
use Rattle.tap_legal.specs.Served.{served_by}
use Rattle.tap_legal.specs.Takes.{was_cut, was_read}
use Rattle.tap_sights.specs.Sight.{In, Seen}

-- ---- versions

-- a version at which the answer may look or that it may rest on: from SEEN up to what is published by then
pub record IsNow (s : Seen) (a : AnswerAt) (version : ℕ) : Type 0 where
  pub from : a.seen ≤ version
  pub to : version ≤ s.until a.told

-- a version at which a frame's flow may have been looked for: from what was seen before up to SEEN
pub record IsLooked (s : Seen) (a : AnswerAt) (version : ℕ) : Type 0 where
  pub from : (s.before a.told).version ≤ version
  pub to : version ≤ a.seen

-- an operation of the trace above SEEN that the answer may rest on
pub record IsOpNow (c : Case) (s : Seen) (a : AnswerAt) (o : OpAt) : Type 0 where
  pub there : In o c.ops
  pub above : a.seen < o.at.version
  pub to : o.at.version ≤ s.until a.told

-- ---- any answer

-- SEEN lies between the sights; a version that is told is that of an operation of this command
pub record IsAnswered (c : Case) (s : Seen) (a : AnswerAt) : Type 0 where
  pub from : (s.before a.told).version ≤ a.seen
  pub to : a.seen ≤ (s.after a.told).version
  pub now : a.seen ≤ s.until a.told
  pub table : is_table_answer c a ≡ true
  pub back : is_back_answer c a ≡ true
  pub no_ring : answers_no_ring a ≡ true
  pub owns : (version : ℕ) → version_in a.answer ≡ Some version
      → (o : OpAt) × In o c.ops × (o.at.version ≡ version) × (o.at.command ≡ a.told.command)
      × (is_learning o.op ≡ false)

-- ---- sends

pub record IsPut (c : Case) (s : Seen) (a : AnswerAt) (file place epoch len : ℕ) : Type 0 where
  pub from : (s.before a.told).put file ≤ place
  pub to : place < (s.after a.told).put file
  pub entry : EntryAt
  pub there : In entry c.entries
  pub on : entry.file ≡ file
  pub at : entry.at.place ≡ place
  pub is_its : is_entry_of a.told epoch len entry ≡ true
  pub sent : is_sent c (name_of a.told.actor a.told.command) ≡ true

-- the ring held as many as its capacity at a version of now; or above SEEN another actor's resize makes it smaller, and
-- it held more than the new capacity and at most the one before
pub record HasCapacity (c : Case) (s : Seen) (a : AnswerAt) (file k d : ℕ) : Type 0 where
  pub version : ℕ
  pub now : IsNow s a version
  pub is : k ≡ d + capacity_of (table_at c version) file

pub record IsResized (c : Case) (s : Seen) (a : AnswerAt) (file k d : ℕ) : Type 0 where
  pub resize : OpAt
  pub now : IsOpNow c s a resize
  pub other : is_other_actor c a.told resize ≡ true
  pub between : is_resize_of file k d (capacity_of (table_at c (resize.at.version - 1)) file) resize.op ≡ true

pub record IsFull (c : Case) (s : Seen) (a : AnswerAt) (file k d : ℕ) : Type 0 where
  pub capacity : HasCapacity c s a file k d ⊎ IsResized c s a file k d
  pub put_from : (s.before a.told).put file ≤ k
  pub put_to : k ≤ (s.after a.told).put file
  pub out_from : (s.before a.told).out file ≤ d
  pub freed : d ≤ freed_of c file

pub record IsSpent (s : Seen) (a : AnswerAt) (file k : ℕ) : Type 0 where
  pub last : k ≡ 2 ^ 40 - 1
  pub put_to : k ≤ (s.after a.told).put file

pub record IsGone (c : Case) (s : Seen) (a : AnswerAt) (file want found : ℕ) (shut : Bool) : Type 0 where
  pub row : has_row c a file want a.asked ≡ true
  pub ending : OpAt
  pub ends_now : IsOpNow c s a ending
  pub ends : ends_it c file want ending ≡ true
  pub least : want ≤ found
  pub was_shut : found ≡ want → shut ≡ true
  pub opening : OpAt
  pub there : In opening c.ops
  pub opens_now : opening.at.version ≤ s.until a.told
  pub opens : attaches_it c file found opening ≡ true

-- what the ring said; a frame that it gave was sent
abbrev pub TellsRing : Case → Seen → AnswerAt → Answer → Type 0
TellsRing c s a (answer.Placed file place epoch len) = IsPut c s a file place epoch len
TellsRing c s a (answer.Dropped (Some file) (cause.Full k d)) = IsFull c s a file k d
TellsRing c s a (answer.Dropped (Some file) (cause.Spent k)) = IsSpent s a file k
TellsRing c s a (answer.Dropped (Some file) (cause.Gone want found shut)) = IsGone c s a file want found shut
TellsRing c s a (answer.Read name place bytes) = is_sent c name ≡ true
TellsRing c s a other = Unit {0}

-- the frame is bad, or answered by its row at SEEN, and then by the ring
abbrev pub IsRouted : Case → AnswerAt → ℕ → Option Hdr → List ℕ → Type 0
IsRouted c a name hdr bytes =
    fits_send (bad_in (sent_front hdr) (sent_bytes hdr bytes)) (row_at c a.seen name hdr bytes) a.answer ≡ true

-- ---- reads

-- the file has a device at SEEN, and with its front this holds
pub record HasFront (c : Case) (a : AnswerAt) (file : ℕ) (P : Front → Type 0) : Type 0 where
  pub front : Front
  pub is : shape_of (table_at c a.seen) file ≡ Some front
  pub holds : P front

pub record IsTaken (c : Case) (s : Seen) (a : AnswerAt) (file place : ℕ) (name : Name) : Type 0 where
  pub entry : EntryAt
  pub there : In entry c.entries
  pub on : entry.file ≡ file
  pub at : entry.at.place ≡ place
  pub named : same_name entry.at.name name ≡ true
  pub fate : was_read entry.at.fate ≡ true
  pub by : s.taker entry ≡ a.told

pub record IsBusy (c : Case) (s : Seen) (a : AnswerAt) (file : ℕ) : Type 0 where
  pub version : ℕ
  pub now : IsNow s a version
  pub owned : has_worker file (table_at c version) ≡ true

-- a place that was waited for: all below it have left by now, and no command before this one placed its frame
pub record IsNotReady (c : Case) (s : Seen) (t : Told) (file place : ℕ) : Type 0 where
  pub declares : Declared
  pub is_declared : declared c file ≡ Some declares
  pub from : declares.first ≤ place
  pub to : place ≤ claimed_of c file
  pub out : place ≤ (s.after t).out file
  pub fresh : is_not_placed c t file place ≡ true

abbrev pub TellsRead : Case → Seen → AnswerAt → ℕ → ℕ → Answer → Type 0
TellsRead c s a file room (answer.Tap e) =
    (shape_of (table_at c a.seen) file ≡ None) × (same_refusal e EBADFD ≡ true)
TellsRead c s a file room (answer.Room least) =
    HasFront c a file (λ front. (room < least_in front) × (least ≡ least_in front))
TellsRead c s a file room (answer.Read name place bytes) =
    HasFront c a file (λ front. (least_in front ≤ room) × (has_text c front room name bytes ≡ true))
    × IsTaken c s a file place name
TellsRead c s a file room answer.Busy =
    HasFront c a file (λ front. least_in front ≤ room) × IsBusy c s a file
TellsRead c s a file room (answer.Again place) =
    HasFront c a file (λ front. least_in front ≤ room) × IsNotReady c s a.told file place
TellsRead c s a file room other = ⊥

-- ---- writes

-- the frame was looked at, and its flow learnt where the file learns
pub record LearnsIt (c : Case) (s : Seen) (a : AnswerAt) (file : ℕ) (bytes : List ℕ) : Type 0 where
  pub version : ℕ
  pub looked : IsLooked s a version
  pub fits : fits_write_at c file bytes a.answer version ≡ true
  pub does : learns (table_at c version) file ≡ true
  pub learning : OpAt
  pub only : learnt_by c a.told.command ≡ learning ∷ []
  pub flow : ℕ
  pub is : learning.op ≡ Some (op.Learn file flow)
  pub hashed : is_hash_at c file bytes flow version ≡ true

pub record LearnsNone (c : Case) (a : AnswerAt) (file : ℕ) (bytes : List ℕ) : Type 0 where
  pub fits : fits_write_at c file bytes a.answer a.seen ≡ true
  pub none : learnt_by c a.told.command ≡ []

abbrev pub TellsWrite : Case → Seen → AnswerAt → ℕ → List ℕ → Answer → Type 0
TellsWrite c s a file bytes (answer.Host len fnv) =
    LearnsIt c s a file bytes
    ⊎ LearnsNone c a file bytes × (learns (table_at c a.seen) file ≡ false)
TellsWrite c s a file bytes other = LearnsNone c a file bytes

-- ---- resizes

-- the entry was cut by this command's resize; by the resize of a version or of one before it; how many a command cut
abbrev pub is_cut_of : Seen → Told → EntryAt → Bool
is_cut_of s t e = was_cut e.at.fate && same_told (s.taker e) t

pub record IsCutBy (c : Case) (s : Seen) (version : ℕ) (e : EntryAt) : Type 0 where
  pub fate : was_cut e.at.fate ≡ true
  pub resize : OpAt
  pub there : In resize c.ops
  pub by : told_of c resize.at.command ≡ Some (s.taker e)
  pub to : resize.at.version ≤ version

abbrev pub cut_count : Case → Seen → Told → ℕ → ℕ
cut_count c s t file = length (filter (λ (e : EntryAt). e.file == file && is_cut_of s t e) c.entries)

-- Of the places below CLAIMED those from `low` on are cut: by this command, or by one of an earlier version. This one cut
-- CUT many, none below `low`.
pub record IsSized (c : Case) (s : Seen) (a : AnswerAt) (file capacity version claimed freed cut : ℕ) : Type 0 where
  pub room : claimed ≤ freed + capacity
  pub least : (cut ≡ 0) ⊎ (has_taker c a.told ≡ true) ⊎ (claimed ≡ freed + capacity)
  pub smaller : (cut ≡ 0) ⊎ (capacity < capacity_of (table_at c (version - 1)) file)
  pub put_to : claimed ≤ claimed_of c file
  pub freed_to : freed ≤ freed_of c file
  pub low : ℕ
  pub above : (e : EntryAt) → In e c.entries → e.file ≡ file → low ≤ e.at.place → e.at.place < claimed
      → IsCutBy c s version e
  pub its : (e : EntryAt) → In e c.entries → e.file ≡ file → is_cut_of s a.told e ≡ true
      → (low ≤ e.at.place) × (e.at.place < claimed)
  pub count : cut_count c s a.told file ≡ cut

abbrev pub TellsResize : Case → Seen → AnswerAt → ℕ → ℕ → Answer → Type 0
TellsResize c s a file capacity (answer.Resized version claimed freed cut) =
    IsSized c s a file capacity version claimed freed cut
TellsResize c s a file capacity other = Unit {0}

-- ---- turns

-- an idle receive turn found nothing at a place of the file that it serves, which isn't printed
abbrev pub TellsTurn : Case → Seen → AnswerAt → Answer → Type 0
TellsTurn c s a (answer.Turn packets bytes text.Idle chains) =
    (file : ℕ) → served_by c a.told.command ≡ Some file → (place : ℕ) × IsNotReady c s a.told file place
TellsTurn c s a other = Unit {0}

-- ---- by command

abbrev pub Tells : Case → Seen → AnswerAt → Option Command → Type 0
Tells c s a (Some (command.Send name hdr bytes)) =
    IsRouted c a name hdr bytes
Tells c s a (Some (command.Read file room)) = TellsRead c s a file room a.answer
Tells c s a (Some (command.Write file bytes)) = TellsWrite c s a file bytes a.answer
Tells c s a (Some (command.Resize file capacity)) = TellsResize c s a file capacity a.answer
Tells c s a (Some (command.RxTurn vhost)) = TellsTurn c s a a.answer
Tells c s a other = Unit {0}
