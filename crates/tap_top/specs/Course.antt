-- This project's own: the ways that a run of the program can take between its ends, as its inside says them.
use Rattle.std.specs.Prelude.{◌≡◌, ℕ, ◌<◌, ◌≤◌, true, false, List, ◌++◌, length, Option, Some}
use Rattle.std.specs.Io.KnownBytes.{Consumes, IsAtEnd}
use Rattle.tap_ground.specs.Counts.{one_more}
use Rattle.tap_top.specs.Top.{Breaks, IsWanted, Reads, Sink, Source, Stops, TakesToLimit, Writes, reads, reads_input, served}
use Rattle.tap_words.specs.declared.request.Request.{Request}

-- One call took this piece of a source and added it to the bytes before. It fits the room, and where it is empty the
-- source is at its end.
pub record ReadsPiece (left left_now : Option (List ℕ)) (old new : List ℕ) (room n : ℕ) : Type 0 where
  pub piece : List ℕ
  pub taken : Consumes left left_now piece
  pub kept : new ≡ old ++ piece
  pub count : n ≡ length piece
  pub fits : n ≤ room
  pub end : n ≡ 0 → IsAtEnd left_now

-- no read failed
pub record ReadsWell (source : Source) (bytes : List ℕ) : Type 0 where
  pub to_limit : TakesToLimit source bytes
  pub no_fault : source.faults_now ≡ source.faults

-- one read failed, the last
pub record ReadFails (source : Source) (tame : Type 0) : Type 0 where
  pub bytes : List ℕ
  pub to_limit : TakesToLimit source bytes
  pub fault : source.faults_now ≡ one_more source.faults
  pub not_tame : tame → ⊥

-- What became of a text that was to be written with its status: all of it was written; or the sink failed, which is
-- status 4 for the text of status 0 and leaves the status of a line; or memory ran out.
pub data IsSent (sink : Sink) (reliable : Type 0) (wanted : ℕ) (text : List ℕ) (status : ℕ) : Type 0 where
  Whole : Writes sink text → status ≡ wanted → IsSent sink reliable wanted text status
  Lost : Breaks sink text → (reliable → ⊥) → 0 < wanted → status ≡ wanted → IsSent sink reliable wanted text status
  Failed : Breaks sink text → (reliable → ⊥) → wanted ≡ 0 → status ≡ 4 → IsSent sink reliable wanted text status
  OutOfMemory : Stops sink text → status ≡ 5 → IsSent sink reliable wanted text status

-- The ways of a run with its status: a read failed; or memory ran out before the text; or what is wanted was to be
-- written.
pub data Course (words : List (List ℕ)) (source : Source) (sink : Sink)
    (untouched silent tame reliable : Type 0) (status : ℕ) : Type 0 where
  SourceFailed : (request : Request) → served words ≡ Some request → reads request ≡ true → ReadFails source tame
      → silent → (sink.faults_now ≡ sink.faults) → status ≡ 3
      → Course words source sink untouched silent tame reliable status
  NoMemory : (bytes : List ℕ) → ReadsWell source bytes → (reads_input (served words) ≡ false → untouched) → silent
      → (sink.faults_now ≡ sink.faults)
      → status ≡ 5 → Course words source sink untouched silent tame reliable status
  Replied : (input text : List ℕ) (wanted : ℕ) → Reads words source untouched input
      → ((bytes : List ℕ) × ReadsWell source bytes) → IsWanted words input wanted text
      → IsSent sink reliable wanted text status
      → Course words source sink untouched silent tame reliable status
