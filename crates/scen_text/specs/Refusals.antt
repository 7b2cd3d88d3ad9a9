-- This project's own: the refusals of a scenario. For each of them one equation says when a line is refused for it,
-- over what the lines before it say together; the first refusal is the first line's that has one, and on it the one
-- with the least number.
use Rattle.std.specs.Prelude.{ℕ, suc, Bool, true, false, ◌&&◌, ◌||◌, not, ◌==◌, nat_lt, nat_le, if◌then◌else◌, List, [], ◌∷◌, ◌++◌, length, Option, Some, None, Result, Ok, Err}
use Rattle.std.specs.List.{list_any, filter_map}
use Rattle.std.specs.Option.{option_map}
use Rattle.std.specs.Result.{result_err}
use Rattle.ebpf_code.specs.FirstFault.{first_fault}
use Rattle.guest_mem.specs.declared.region.Region.{Region as Piece}
use Rattle.guest_mem.specs.Regions.{refusal}
use Rattle.text_fields.specs.Lines.{lines_of}
use Rattle.scen_words.specs.declared.command.Command.{Command}
use Rattle.scen_text.specs.declared.fault.ScenFault.{ScenFault}
use Rattle.scen_words.specs.declared.fault.Why.{Why}
use Rattle.scen_words.specs.declared.fault.Why.TheVariants as why
use Rattle.scen_text.specs.declared.place.Place.{Place}
use Rattle.scen_text.specs.declared.place.Place.TheVariants.{Block}
use Rattle.scen_words.specs.declared.declaration.Declaration.{Declaration}
use Rattle.scen_words.specs.declared.declaration.Declaration.TheVariants.{File, Region, Vhost, Prog, Flows}
use Rattle.scen_words.specs.declared.sentence.Sentence.{Sentence}
use Rattle.scen_words.specs.declared.sentence.Sentence.TheVariants.{Skipped, Declares, Orders, Opens, Ends}
use Rattle.scen_text.specs.Before.{Before, before, number_among, number_for}
use Rattle.scen_words.specs.Commands.{command_of, commanded_name, declaration_of, declared_name, file_of, guest_of, is_turn, program_of, vhost_of}
use Rattle.scen_words.specs.declared.limits.TheConstants.{MAX_BYTES, MAX_COMMANDS, MAX_NAMES, MAX_TURNS}
use Rattle.scen_words.specs.Sentences.{sentence_of, version_of}
use Rattle.tap_ground.specs.Results.{◌>>=◌}
use Rattle.tap_ground.specs.Lists.{is_nil}
use Rattle.tap_ground.specs.Options.{only_if as when}

-- ---- what is declared

abbrev pub is_file : ℕ → Declaration → Bool
is_file n (File file capacity first) = file == n
is_file n d = false

abbrev pub is_guest : ℕ → Declaration → Bool
is_guest n (Region guest addr len) = guest == n
is_guest n d = false

abbrev pub is_vhost : ℕ → Declaration → Bool
is_vhost n (Vhost vhost guest) = vhost == n
is_vhost n d = false

abbrev pub is_program : ℕ → Declaration → Bool
is_program n (Prog program code) = program == n
is_program n d = false

abbrev pub is_flows : ℕ → Declaration → Bool
is_flows n (Flows name limit age) = name == n
is_flows n d = false

-- the piece of a guest's memory that a declaration gives it
abbrev pub piece_of : ℕ → Declaration → Option Piece
piece_of n (Region guest addr len) = if guest == n then Some (record { addr = addr; len = len }) else None
piece_of n d = None

-- the regions of a guest in their order
unfoldable pub regions_of : ℕ → List Declaration → List Piece
regions_of n ds = filter_map (piece_of n) ds

-- ---- a declaration among the declarations before it

-- 9, Twice: the file, the vhost, the program, or the flows of the name are declared already
abbrev pub is_twice : List Declaration → Declaration → Bool
is_twice ds (File file capacity first) = list_any (is_file file) ds
is_twice ds (Region guest addr len) = false
is_twice ds (Vhost vhost guest) = list_any (is_vhost vhost) ds
is_twice ds (Prog program code) = list_any (is_program program) ds
is_twice ds (Flows name limit age) = list_any (is_flows name) ds

-- 10, Unknown: the guest of a vhost has no region
abbrev pub lacks_guest : List Declaration → Declaration → Bool
lacks_guest ds (Vhost vhost guest) = not (list_any (is_guest guest) ds)
lacks_guest ds d = false

-- 11, Region: the guest's regions up to this one make no memory
abbrev pub region_why : List Declaration → Declaration → Option Why
region_why ds (Region guest addr len) =
    option_map why.Region (refusal (regions_of guest ds ++ record { addr = addr; len = len } ∷ []))
region_why ds d = None

-- 12, Program: the bytes have a fault
abbrev pub program_why : Declaration → Option Why
program_why (Prog program code) = option_map why.Program (first_fault code)
program_why d = None

-- 14, Limit: it would bring one name too many
abbrev pub passes_names : List (List ℕ) → Option (List ℕ) → Bool
passes_names names None = false
passes_names names (Some name) = nat_le MAX_NAMES (number_among names name)

-- ---- a command among the declarations

abbrev pub lacks : (ℕ → Declaration → Bool) → List Declaration → Option ℕ → Bool
lacks is ds None = false
lacks is ds (Some n) = not (list_any (is n) ds)

-- 10, Unknown: a file, guest, vhost or program that it names isn't declared
unfoldable pub is_unknown : List Declaration → Command → Bool
is_unknown ds c =
    lacks is_file ds (file_of c) || lacks is_guest ds (guest_of c) || lacks is_vhost ds (vhost_of c)
    || lacks is_program ds (program_of c)

-- 14, Limit: one command, turn or name too many, behind so many commands and turns
unfoldable pub passes_limit : ℕ → ℕ → List (List ℕ) → Option (List ℕ) → Command → Bool
passes_limit commands turns names name c =
    nat_le MAX_COMMANDS commands || (is_turn c && nat_le MAX_TURNS turns) || passes_names names name

-- ---- where lines may stand

abbrev pub is_block : Place → Bool
is_block (Block actors) = true
is_block place = false

-- the actor is one of the block's
abbrev pub has_actor : Place → ℕ → Bool
has_actor (Block actors) actor = nat_lt actor actors
has_actor place actor = false

-- a command stands with `@K` in a block of more than K actors, and without it outside
abbrev pub is_misplaced : Place → Option ℕ → Bool
is_misplaced place None = is_block place
is_misplaced place (Some actor) = not (has_actor place actor)

-- ---- the least refusal of a line behind a history

-- the first that there is
infixr 10 ◌orelse◌
abbrev pub ◌orelse◌ : Option Why → Option Why → Option Why
(Some why) orelse other = Some why
None orelse other = other

-- a declaration: Late behind a command, `phase` or `end`
unfoldable pub declaration_why : Before → Declaration → Option (List ℕ) → Option Why
declaration_why b d name =
    when b.started why.Late
    orelse when (is_twice b.declarations d) why.Twice
    orelse when (lacks_guest b.declarations d) why.Unknown
    orelse region_why b.declarations d
    orelse program_why d
    orelse when (passes_names b.names name) why.Limit

-- a command; where it is the last line and leaves a block open, that is Phase too
unfoldable pub command_why : Before → Bool → Option ℕ → Command → Option (List ℕ) → Option Why
command_why b last actor c name =
    when (is_unknown b.declarations c) why.Unknown
    orelse when (is_misplaced b.place actor || (last && is_block b.place)) why.Phase
    orelse when (passes_limit b.commands b.turns b.names name c) why.Limit

-- the least refusal of a sentence behind these lines, whether or not it is of the last line
unfoldable pub cause : Before → Bool → Sentence → Option Why
cause b last Skipped = when (last && is_block b.place) why.Phase
cause b last (Declares word values) =
    declaration_why b (declaration_of (number_for b.names (declared_name word values)) word values)
    (declared_name word values)
cause b last (Orders actor word values) =
    command_why b last actor (command_of (number_for b.names (commanded_name word values)) word values)
    (commanded_name word values)
cause b last (Opens actors) = when (is_block b.place || last) why.Phase
cause b last Ends = when (not (is_block b.place)) why.Phase

-- ---- the first refusal of a text

-- a sentence that is refused for nothing
abbrev pub unless : Sentence → Option Why → Result Sentence Why
unless s None = Ok s
unless s (Some why) = Err why

-- the sentence of a line behind a history, or the line's least refusal
abbrev pub said_after : ℕ → List Sentence → Bool → List ℕ → Result Sentence Why
said_after version earlier last line = sentence_of version line >>= λ s. unless s (cause (before earlier) last s)

abbrev pub at_line : {A : Type 0} → ℕ → Result A Why → Result A ScenFault
at_line n (Ok x) = Ok x
at_line n (Err why) = Err (record { line = n; why = why })

-- the history with the lines from line n on, or their first refusal
unfoldable pub said_from : ℕ → List Sentence → ℕ → List (List ℕ) → Result (List Sentence) ScenFault
said_from version earlier n [] = Ok earlier
said_from version earlier n (line ∷ lines) =
    at_line n (said_after version earlier (is_nil lines) line) >>= λ s. said_from version (s ∷ earlier) (suc n) lines

-- a whole text: its version and the sentences of its lines, the latest first
pub record Said : Type 0 where
  pub version : ℕ
  pub sentences : List Sentence

abbrev pub said_in : ℕ → List Sentence → Said
said_in version sentences = record { version = version; sentences = sentences }

unfoldable pub said_of_lines : List (List ℕ) → Result Said ScenFault
said_of_lines [] = Err (record { line = 1; why = why.Version })
said_of_lines (line ∷ lines) =
    at_line 1 (version_of line)
    >>= λ version. said_from version [] 2 lines >>= λ sentences. Ok (said_in version sentences)

-- 1, TooLong: more bytes than the limit; it is told at line 0, before all others
unfoldable pub said_of : List ℕ → Result Said ScenFault
said_of bytes =
    if nat_lt MAX_BYTES (length bytes) then Err (record { line = 0; why = why.TooLong })
    else said_of_lines (lines_of bytes)

-- the first refusal of a text
abbrev pub first_refusal : List ℕ → Option ScenFault
first_refusal bytes = result_err (said_of bytes)
