-- This project's own: what the fields of an answer say.
use Rattle.std.specs.Prelude.{ℕ, List, [], ◌∷◌, Option, Some}
use Rattle.tap_trace.specs.declared.answer.Answer.{Answer}
use Rattle.tap_trace.specs.declared.answer.Answer.TheVariants as answer
use Rattle.tap_trace.specs.declared.trace.AnswerLine.{AnswerLine}
use Rattle.text_fields.specs.Hexadecimal.{bytes_of}
use Rattle.trace_words.specs.declared.words.AnswerWord.{AnswerWord}
use Rattle.trace_words.specs.declared.words.AnswerWord.TheVariants as word
use Rattle.trace_causes.specs.declared.err_text.ErrText.{ErrText}
use Rattle.trace_causes.specs.declared.err_text.ErrText.TheVariants as err
use Rattle.trace_causes.specs.CauseReading.{derr_in, drop_in, end_in, err_in, verr_in}
use Rattle.trace_causes.specs.Words.{bad_of}
use Rattle.tap_ground.specs.Options.{◌>>=◌}
use Rattle.trace_causes.specs.Reading.{bytes_or_none, digits8, ended, first_by, harvested_of, name_first, number16, number32, number64, number_to}
use Rattle.trace_words.specs.Words.{answer_word}

-- `ok` alone, or with a version
unfoldable pub done_in : List (List ℕ) → Option Answer
done_in [] = Some answer.Done
done_in (field ∷ behind) = do
  version ← number_to 18446744073709551615 field
  end ← ended behind
  Some (answer.Version version)

unfoldable pub host_in : List (List ℕ) → Option Answer
host_in fields = do
  len ← number32 fields
  fnv ← digits8 len.1
  end ← ended fnv.1
  Some (answer.Host len.0 fnv.0)

unfoldable pub base_in : List (List ℕ) → Option Answer
base_in fields = do
  position ← number16 fields
  end ← ended position.1
  Some (answer.Base position.0)

unfoldable pub peeked_in : List (List ℕ) → Option Answer
peeked_in fields = do
  bytes ← first_by bytes_of fields
  end ← ended bytes.1
  Some (answer.Peeked bytes.0)

unfoldable pub posted_in : List (List ℕ) → Option Answer
posted_in fields = do
  head ← number16 fields
  end ← ended head.1
  Some (answer.Posted head.0)

-- the chains that came back, one a field
unfoldable pub chains_of : List (List ℕ) → Option (List (ℕ × ℕ))
chains_of [] = Some []
chains_of (field ∷ behind) = do
  chain ← harvested_of field
  chains ← chains_of behind
  Some (chain ∷ chains)

unfoldable pub harvested_in : List (List ℕ) → Option Answer
harvested_in fields = chains_of fields >>= λ chains. Some (answer.Harvested chains)

unfoldable pub fault_in : List (List ℕ) → Option Answer
fault_in fields = do
  addr ← number64 fields
  end ← ended addr.1
  Some (answer.Fault addr.0)

unfoldable pub turn_in : List (List ℕ) → Option Answer
turn_in fields = do
  packets ← number32 fields
  bytes ← number64 packets.1
  end ← end_in bytes.1
  Some (answer.Turn packets.0 bytes.0 end [])

unfoldable pub bad_in : List (List ℕ) → Option Answer
bad_in fields = do
  bad ← first_by bad_of fields
  end ← ended bad.1
  Some (answer.Bad bad.0)

unfoldable pub placed_in : List (List ℕ) → Option Answer
placed_in fields = do
  file ← number16 fields
  place ← number64 file.1
  epoch ← number16 place.1
  len ← number32 epoch.1
  end ← ended len.1
  Some (answer.Placed file.0 place.0 epoch.0 len.0)

unfoldable pub read_in : List (List ℕ) → Option Answer
read_in fields = do
  name ← name_first fields
  place ← number64 name.1
  bytes ← first_by bytes_or_none place.1
  end ← ended bytes.1
  Some (answer.Read name.0 place.0 bytes.0)

-- the answer that stands behind `err`
abbrev pub refusal : ErrText → Answer
refusal (err.Room least) = answer.Room least
refusal err.Busy = answer.Busy
refusal (err.Again place) = answer.Again place
refusal (err.Tap why) = answer.Tap why

-- what the fields behind the word of an answer say
unfoldable pub answer_behind : AnswerWord → List (List ℕ) → Option Answer
answer_behind word.Done fields = done_in fields
answer_behind word.Host fields = host_in fields
answer_behind word.Base fields = base_in fields
answer_behind word.Peeked fields = peeked_in fields
answer_behind word.Posted fields = posted_in fields
answer_behind word.Harvested fields = harvested_in fields
answer_behind word.NoDriver fields = ended fields >>= λ end. Some answer.NoDriver
answer_behind word.Fault fields = fault_in fields
answer_behind word.Turn fields = turn_in fields
answer_behind word.Bad fields = bad_in fields
answer_behind word.Placed fields = placed_in fields
answer_behind word.Dropped fields = drop_in fields >>= λ d. Some (answer.Dropped d.0 d.1)
answer_behind word.Read fields = read_in fields
answer_behind word.Refused fields = err_in fields >>= λ t. Some (refusal t)
answer_behind word.Vhost fields = verr_in fields >>= λ why. Some (answer.Vhost why)
answer_behind word.Drive fields = derr_in fields >>= λ why. Some (answer.Drive why)

-- `ans ACTOR COMMAND SEEN TEXT`
unfoldable pub answer_in : List (List ℕ) → Option AnswerLine
answer_in fields = do
  actor ← number16 fields
  command ← number32 actor.1
  seen ← number64 command.1
  w ← first_by answer_word seen.1
  a ← answer_behind w.0 w.1
  Some (record { actor = actor.0; command = command.0; seen = seen.0; answer = a })
