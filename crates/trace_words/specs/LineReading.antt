-- This project's own: what the fields of a line say.
use Rattle.std.specs.Prelude.{ℕ, List, codes, if◌then◌else◌, Option, Some, None}
use Rattle.std.specs.Str.{bytes_eq}
use Rattle.tap_trace.specs.declared.trace.OpLine.{OpLine}
use Rattle.tap_trace.specs.declared.turn.ChainText.TheVariants as chain
use Rattle.trace_words.specs.declared.said.Said.{Said}
use Rattle.trace_words.specs.declared.said.Said.TheVariants as said
use Rattle.trace_words.specs.declared.words.HeadWord.{HeadWord}
use Rattle.trace_words.specs.declared.words.HeadWord.TheVariants as head
use Rattle.trace_words.specs.AnswerReading.{answer_in}
use Rattle.trace_causes.specs.OpReading.{op_text_in}
use Rattle.tap_ground.specs.Options.{◌>>=◌}
use Rattle.trace_causes.specs.Reading.{digits8, ended, first_by, name_first, number16, number32, number64}
use Rattle.trace_causes.specs.Words.{bad_of}
use Rattle.trace_words.specs.Places.{place_in}
use Rattle.trace_words.specs.StepReading.{step_in}
use Rattle.trace_words.specs.Words.{head_word}

-- `op VERSION COMMAND TEXT`
unfoldable pub op_in : List (List ℕ) → Option OpLine
op_in fields = do
  version ← number64 fields
  command ← number32 version.1
  text ← op_text_in command.1
  Some (record { version = version.0; command = command.0; text = text })

-- ---- lines of a few fields

-- the version of the format
unfoldable pub format_of : List ℕ → Option (Unit {0})
format_of field = if bytes_eq (codes "1") field then Some tt else None

unfoldable pub begins_in : List (List ℕ) → Option Said
begins_in fields = do
  one ← first_by format_of fields
  end ← ended one.1
  Some said.Begins

unfoldable pub phase_in : List (List ℕ) → Option Said
phase_in fields = do
  number ← number64 fields
  actors ← number16 number.1
  end ← ended actors.1
  Some (said.Phase number.0 actors.0)

unfoldable pub resize_in : List (List ℕ) → Option Said
resize_in fields = do
  claimed ← number64 fields
  freed ← number64 claimed.1
  cut ← number64 freed.1
  end ← ended cut.1
  Some (said.Resize claimed.0 freed.0 cut.0)

unfoldable pub got_in : List (List ℕ) → Option Said
got_in fields = do
  name ← name_first fields
  len ← number32 name.1
  fnv ← digits8 len.1
  end ← ended fnv.1
  Some (said.Chain (chain.Got name.0 len.0 fnv.0))

unfoldable pub refused_in : List (List ℕ) → Option Said
refused_in fields = do
  position ← number16 fields
  bad ← first_by bad_of position.1
  end ← ended bad.1
  Some (said.Chain (chain.Refused position.0 bad.0))

unfoldable pub file_in : List (List ℕ) → Option Said
file_in fields = do
  file ← number16 fields
  claimed ← number64 file.1
  freed ← number64 claimed.1
  end ← ended freed.1
  Some (said.File file.0 claimed.0 freed.0)

unfoldable pub guest_in : List (List ℕ) → Option Said
guest_in fields = do
  guest ← number16 fields
  end ← ended guest.1
  Some (said.Guest guest.0)

unfoldable pub ring_in : List (List ℕ) → Option Said
ring_in fields = do
  vhost ← number16 fields
  ring ← number16 vhost.1
  end ← ended ring.1
  Some (said.Ring vhost.0 ring.0)

unfoldable pub list_in : List (List ℕ) → Option Said
list_in fields = do
  base ← number16 fields
  end ← ended base.1
  Some (said.Base base.0)

unfoldable pub used_in : List (List ℕ) → Option Said
used_in fields = do
  position ← number16 fields
  head ← number16 position.1
  len ← number32 head.1
  end ← ended len.1
  Some (said.Used position.0 head.0 len.0)

-- ---- all lines

-- what the fields behind the first word of a line say
unfoldable pub said_behind : HeadWord → List (List ℕ) → Option Said
said_behind head.Begins fields = begins_in fields
said_behind head.Phase fields = phase_in fields
said_behind head.Op fields = op_in fields >>= λ o. Some (said.Op o)
said_behind head.Answer fields = answer_in fields >>= λ a. Some (said.Answer a)
said_behind head.Resize fields = resize_in fields
said_behind head.Got fields = got_in fields
said_behind head.Refused fields = refused_in fields
said_behind head.File fields = file_in fields
said_behind head.Place fields = place_in fields >>= λ l. Some (said.Place l)
said_behind head.Guest fields = guest_in fields
said_behind head.Step fields = step_in fields >>= λ s. Some (said.Step s)
said_behind head.Ring fields = ring_in fields
said_behind head.Base fields = list_in fields
said_behind head.Used fields = used_in fields
said_behind head.End fields = ended fields >>= λ end. Some said.End

-- what the fields of a line say
unfoldable pub said_in : List (List ℕ) → Option Said
said_in fields = first_by head_word fields >>= λ w. said_behind w.0 w.1
