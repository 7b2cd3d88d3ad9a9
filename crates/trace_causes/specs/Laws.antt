-- This project's own: what fields and causes have to do with what they say: what is written for a value is read as it,
-- and what is read of fields is written so.
use Rattle.std.specs.Prelude.{◌≡◌, ℕ, ◌<◌, true, List, Option, Some}
use Rattle.std.specs.Fmt.{decimal}
use Rattle.std.specs.Int.{w32}
use Rattle.std.specs.List.{AllByRecursion, list_all}
use Rattle.hex.specs.Hex.{encode_lower}
use Rattle.text_fields.specs.Hexadecimal.{AreBytes, bytes_of, hex_number_of}
use Rattle.text_fields.specs.Lines.{is_field_byte}
use Rattle.scen_words.specs.Field.{frame_name}
use Rattle.trace_causes.specs.CauseReading.{derr_in, drop_in, end_in, err_in, fate_in, verr_in}
use Rattle.trace_causes.specs.Causes.{cause_fields, drive_fields, end_fields, err_fields, fate_fields, vhost_fields}
use Rattle.trace_causes.specs.Fits.{FitBad, FitDrive, FitDrop, FitEnd, FitErr, FitFate, FitHarvested, FitName, FitOp, FitSomeName, FitVhost, Is16, Is32, Is64}
use Rattle.trace_causes.specs.OpReading.{op_text_in}
use Rattle.trace_causes.specs.Operations.{op_fields}
use Rattle.trace_causes.specs.Reading.{bytes_or_none, harvested_of, name_of, name_or_dash_of, number_to}
use Rattle.trace_causes.specs.Values.{harvested, hex8, name_or_dash}
use Rattle.trace_causes.specs.Words.{bad_of, bad_spelling, flag_of, flag_spelling}

-- bytes that a field may have, at each place
abbrev pub IsClean : List ℕ → Type 0
IsClean field = list_all is_field_byte field ≡ true

abbrev pub AreClean : List (List ℕ) → Type 0
AreClean fields = list_all (list_all is_field_byte) fields ≡ true

-- how a field is read and how its values are written
pub record IsField {A : Type 0} (read : List ℕ → Option A) (write : A → List ℕ) (Fit : A → Type 0) : Type 0 where
  pub again : (a : A) → Fit a → read (write a) ≡ Some a
  pub takes : (field : List ℕ) (a : A) → read field ≡ Some a → Fit a × (write a ≡ field) × IsClean field

-- how the fields up to the end of a line are read, and how what they say is written
pub record IsPart {A : Type 0} (read : List (List ℕ) → Option A) (write : A → List (List ℕ)) (Fit : A → Type 0)
    : Type 0 where
  pub again : (a : A) → Fit a → read (write a) ≡ Some a
  pub takes : (fields : List (List ℕ)) (a : A) → read fields ≡ Some a → Fit a × (write a ≡ fields) × AreClean fields

-- ---- single fields

pub record FieldLaws : Type 0 where
  pub number8 : IsField (number_to 255) decimal (λ n. n < 256)
  pub number16 : IsField (number_to 65535) decimal Is16
  pub number32 : IsField (number_to 4294967295) decimal Is32
  pub number64 : IsField (number_to 18446744073709551615) decimal Is64
  pub flag : IsField flag_of flag_spelling (λ b. Unit {0})
  pub bad : IsField bad_of bad_spelling FitBad
  pub name : IsField name_of frame_name FitName
  pub name_or_dash : IsField name_or_dash_of name_or_dash FitSomeName
  pub chain : IsField harvested_of harvested FitHarvested
  pub hash : IsField (hex_number_of w32) hex8 Is32
  pub bytes : IsField bytes_of encode_lower AreBytes
  pub bytes_or_none : IsField bytes_or_none encode_lower (AllByRecursion (λ b. b < 256))

-- ---- causes, fates, ends of turns and operations

pub record CauseLaws : Type 0 where
  pub err : IsPart err_in err_fields FitErr
  pub verr : IsPart verr_in vhost_fields FitVhost
  pub derr : IsPart derr_in drive_fields FitDrive
  pub drop : IsPart drop_in (λ d. cause_fields d.0 d.1) (λ d. FitDrop d.0 d.1)
  pub fate : IsPart fate_in fate_fields FitFate
  pub end : IsPart end_in end_fields FitEnd
  pub op : IsPart op_text_in op_fields FitOp
