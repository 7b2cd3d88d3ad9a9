-- This project's own: what the fields of an operation say.
use Rattle.std.specs.Prelude.{ℕ, List, Option, Some, None, Result, Ok, Err}
use Rattle.tap_trace.specs.declared.trace.OpText.{OpText}
use Rattle.tap_trace.specs.declared.trace.OpText.TheVariants as op
use Rattle.text_fields.specs.declared.fault.FieldFault.{FieldFault}
use Rattle.text_fields.specs.declared.value.Value.{Value}
use Rattle.text_fields.specs.Forms.{values_of}
use Rattle.text_fields.specs.Names as names
use Rattle.scen_words.specs.Commands.{command_of}
use Rattle.scen_words.specs.declared.limits.TheConstants.{MAX_FILE}
use Rattle.scen_words.specs.Words.{command_form}
use Rattle.trace_causes.specs.declared.words.OpWord.{OpWord}
use Rattle.trace_causes.specs.declared.words.OpWord.TheVariants as word
use Rattle.trace_causes.specs.declared.words.TableWord.{TableWord}
use Rattle.tap_ground.specs.Options.{◌>>=◌}
use Rattle.trace_causes.specs.Reading.{digits4, digits8, ended, first_by, number16, number_or_dash_of, number_to}
use Rattle.trace_causes.specs.Words.{op_word, side_of, table_word}

unfoldable pub setiff_in : List (List ℕ) → Option OpText
setiff_in fields = do
  file ← first_by (number_to MAX_FILE) fields
  name ← first_by names.name_of file.1
  flags ← digits4 name.1
  end ← ended flags.1
  Some (op.SetIff file.0 name.0 flags.0)

unfoldable pub learn_in : List (List ℕ) → Option OpText
learn_in fields = do
  file ← number16 fields
  hash ← digits8 file.1
  end ← ended hash.1
  Some (op.Learn file.0 hash.0)

unfoldable pub back_in : List (List ℕ) → Option OpText
back_in fields = do
  file ← number16 fields
  side ← first_by side_of file.1
  vhost ← first_by number_or_dash_of side.1
  end ← ended vhost.1
  Some (op.Back file.0 side.0 vhost.0)

-- a command's own words, as a scenario has them
abbrev pub words_from : TableWord → Result (List Value) FieldFault → Option OpText
words_from w (Ok values) = Some (op.Words (command_of 0 (table_word w) values))
words_from w (Err why) = None

unfoldable pub words_in : TableWord → List (List ℕ) → Option OpText
words_in w fields = words_from w (values_of (command_form (table_word w)) fields)

unfoldable pub op_behind : OpWord → List (List ℕ) → Option OpText
op_behind word.SetIff fields = setiff_in fields
op_behind word.Learn fields = learn_in fields
op_behind word.Back fields = back_in fields
op_behind (word.Words w) fields = words_in w fields

-- an operation
unfoldable pub op_text_in : List (List ℕ) → Option OpText
op_text_in fields = first_by op_word fields >>= λ w. op_behind w.0 w.1
