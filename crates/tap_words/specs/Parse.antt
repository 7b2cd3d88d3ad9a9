-- This project's own: what a parse of the words answers.
use Rattle.std.specs.Prelude.{◌≡◌, List, [], Option, Some, None}
use Rattle.clap.specs.Words.{Text, fault_of, found_of, matches_of, rows_of}
use Rattle.clap.specs.declared.parser.matches.ArgMatches.{ArgMatches}
use Rattle.tap_words.specs.Words.{given, tapsim}

-- the words have no fault, and these are their values
pub record Gives (words : List Text) (matches : ArgMatches) : Type 0 where
  pub faultless : fault_of tapsim words ≡ []
  pub rows : rows_of (found_of matches) ≡ matches_of tapsim words

-- the values of the words, or none where the words have a fault
abbrev pub IsGiven : List Text → Option ArgMatches → Type 0
IsGiven words None = given words ≡ None
IsGiven words (Some matches) = Gives words matches
