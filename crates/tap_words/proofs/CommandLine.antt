-- The command line that the code builds, and what its parse gives.
use Rattle.std.proofs.Common.{◌≡◌, true, false, List, [], ◌∷◌, codes, None, unwrap_or, option_map, refl, sym, ap, ◌∙◌}
use Rattle.clap.specs.Words.{App, IsAmong, Kinds, Text, app_of, fault_of, found_of, is_simple, is_simple_and_free, matched_of, matches_of, new_app, raw_values, first_value, rows_of}
use Rattle.clap.specs.Simple.{app_of_fields, on_top}
use Rattle.clap.specs.declared.builder.command.Command.{Command}
use Rattle.clap.specs.declared.builder.command.Command.TheViews.{out-Command}
use Rattle.clap.specs.declared.builder.command.Command.TheOpen.{Command-F}
use Rattle.clap.specs.declared.error.kind.ErrorKind.{ErrorKind}
use Rattle.clap.specs.declared.parser.matches.ArgMatches.{ArgMatches}
use Rattle.clap.proofs.WalkLemmas.{first_value-rows, raw_values-rows}
use Rattle.tap_words.specs.Parse.{Gives}
use Rattle.tap_words.specs.Words.{asked_by, asks, bare, given, is_faultless, says_true, tapsim}

pub bare_is : (n a b d : Command) → app_of n ≡ new_app (codes "tapsim")
    → out-Command a ≡ record (out-Command n) { no_binary_name = true }
    → out-Command b ≡ record (out-Command a) { disable_help_flag = true }
    → out-Command d ≡ record (out-Command b) { disable_version_flag = true } → app_of d ≡ bare
bare_is n a b d app x y z =
    let F : Command-F Command → Command-F Command = λ f. record f { disable_help_flag = true } in
    let G : Command-F Command → Command-F Command = λ f. record f { disable_version_flag = true } in
    let A : App → App = λ s. on_top (λ s. record s { no_binary_name = true; disable_help_flag = true; disable_version_flag = true }) s in
    ap app_of_fields (z ∙ ap G (y ∙ ap F x)) ∙ ap A app

pub tapsim_is_simple : is_simple tapsim ≡ true
tapsim_is_simple = refl

pub tapsim_is_free : is_simple_and_free tapsim ≡ true
tapsim_is_free = refl

among_faulty : (k : ErrorKind) (kinds : Kinds) → IsAmong k kinds → is_faultless kinds ≡ false
among_faulty k [] among = absurd among
among_faulty k (kind ∷ kinds) among = refl

-- words that the parse refuses give nothing
pub given_none : (app : App) (words : List Text) (k : ErrorKind) → app ≡ tapsim → IsAmong k (fault_of app words) → given words ≡ None
unfolding given
given_none app words k is among =
    let faulty : is_faultless (fault_of tapsim words) ≡ false = ap (λ (a : App). is_faultless (fault_of a words)) (sym is) ∙ among_faulty k (fault_of app words) among in
    rw faulty refl

-- words that it takes
pub gives : (app : App) (words : List Text) (m : ArgMatches) → app ≡ tapsim → fault_of app words ≡ [] → rows_of (found_of m) ≡ matches_of app words → Gives words m
gives app words m is none rows = record {
  faultless = ap (λ (a : App). fault_of a words) (sym is) ∙ none;
  rows = rows ∙ ap (λ (a : App). matches_of a words) is;
}

pub asks_none : (words : List Text) → given words ≡ None → None ≡ asks words
asks_none words none = rw none refl

-- they ask for what their values ask for
pub asks_some : (words : List Text) (m : ArgMatches) → Gives words m
    → asked_by (unwrap_or (option_map raw_values (matched_of (found_of m) (codes "words"))) []) (first_value (found_of m) (codes "seed"))
    (says_true (first_value (found_of m) (codes "json"))) ≡ asks words
unfolding given
asks_some words m g =
    let faultless : is_faultless (fault_of tapsim words) ≡ true = ap is_faultless g.faultless in
    rw (faultless, raw_values-rows, first_value-rows, first_value-rows, g.rows) refl
