-- This project's own: the words of the command line, as `clap` reads them, and the table of commands.
use Rattle.std.specs.Prelude.{ℕ, ◌≤◌, Bool, true, false, not, ◌&&◌, if◌then◌else◌, List, [], ◌∷◌, codes, is_some, unwrap_or, Option, Some, None, option_map, option_and_then}
use Rattle.std.specs.Str.{bytes_eq}
use Rattle.clap.specs.Words.{App, Kinds, Row, Rule, Text, all_of, fault_of, first_of, matches_of, new_app, new_rule, with_rule}
use Rattle.clap.specs.Simple.{on_top}
use Rattle.clap.specs.declared.builder.action.ArgAction.TheVariants.{Append, Set, SetTrue}
use Rattle.text_fields.specs.Numbers.{in_range, number_of}
use Rattle.tap_words.specs.declared.request.Request.{Request}
use Rattle.tap_words.specs.declared.request.Request.TheVariants.{Check, Plain, Live, Audit, Gen, Upgrade}
use Rattle.tap_ground.specs.Options.{only_if as when}

-- ---- the command line

-- the plain words
abbrev pub plain_rule : Rule
plain_rule = record (new_rule (codes "words")) { action = Some Append }

-- `--seed N` or `--seed=N`, at most once
abbrev pub seed_rule : Rule
seed_rule = record (new_rule (codes "seed")) { long = Some (codes "seed"); action = Some Set }

-- `--json`, at most once
abbrev pub json_rule : Rule
json_rule = record (new_rule (codes "json")) { long = Some (codes "json"); action = Some SetTrue }

-- the words are those behind the program's name, and there is no option for help or version
abbrev pub bare : App
bare = on_top
    (λ s. record s { no_binary_name = true; disable_help_flag = true; disable_version_flag = true })
    (new_app (codes "tapsim"))

abbrev pub tapsim : App
tapsim = with_rule (with_rule (with_rule bare plain_rule) seed_rule) json_rule

-- what is given: the plain words in their order, the value of `--seed`, and whether `--json` is there
pub record Given : Type 0 where
  pub plain : List Text
  pub seed : Option Text
  pub json : Bool

-- the text says true
abbrev pub says_true : Option Text → Bool
says_true None = false
says_true (Some text) = bytes_eq text (codes "true")

abbrev pub given_by : List Row → Given
given_by rows = record {
  plain = unwrap_or (all_of (codes "words") rows) [];
  seed = first_of (codes "seed") rows;
  json = says_true (first_of (codes "json") rows);
}

-- there is no fault
abbrev pub is_faultless : Kinds → Bool
is_faultless [] = true
is_faultless (kind ∷ kinds) = false

-- what the words give, or none where one is an option that isn't known, is repeated or lacks its value
unfoldable pub given : List Text → Option Given
given words = if is_faultless (fault_of tapsim words) then Some (given_by (matches_of tapsim words)) else None

-- ---- the table of commands

-- the seed: 0 where none is given, and else its decimal number
abbrev pub seed_of : Option Text → Option ℕ
seed_of None = Some 0
seed_of (Some text) = number_of text

-- a command word by itself, with the options that it has
abbrev pub alone : Text → Option Text → Bool → Option Request
alone word seed json =
    if bytes_eq word (codes "check") then when (not (is_some seed) && not json) Check
    else if bytes_eq word (codes "plain") then option_map (λ n. Plain n json) (seed_of seed)
    else if bytes_eq word (codes "live") then when (not (is_some seed)) (Live json)
    else if bytes_eq word (codes "audit") then when (not (is_some seed) && not json) Audit
    else if bytes_eq word (codes "upgrade") then when (not (is_some seed) && not json) Upgrade
    else None

-- `gen N`, N decimal and 1 to 100,000, without options
abbrev pub with_number : Text → Text → Option Text → Bool → Option Request
with_number word number seed json =
    if bytes_eq word (codes "gen") && not (is_some seed) && not json
    then option_map Gen (in_range 1 100000 (number_of number))
    else None

unfoldable pub asked_by : List Text → Option Text → Bool → Option Request
asked_by [] seed json = None
asked_by (word ∷ []) seed json = alone word seed json
asked_by (word ∷ number ∷ []) seed json = with_number word number seed json
asked_by (word ∷ number ∷ more ∷ rest) seed json = None

-- what the words ask for, or none
abbrev pub asks : List Text → Option Request
asks words = option_and_then (λ g. asked_by g.plain g.seed g.json) (given words)

-- a number of sends to be generated is 1 to 100,000
abbrev pub CountFits : Option Request → Type 0
CountFits (Some (Gen count)) = (1 ≤ count) × (count ≤ 100000)
CountFits request = Unit {0}

abbrev pub CountsFit : Type 0
CountsFit = (words : List Text) → CountFits (asks words)
