-- This project's own: the statuses of the program, and what is read and written at each.
use Rattle.std.specs.Prelude.{◌≡◌, ℕ, ◌+◌, ◌<◌, ◌≤◌, ◌⊎◌, Bool, true, false, if◌then◌else◌, List, [], ◌∷◌, ◌++◌, length, take, codes, Option, None, Some}
use Rattle.std.specs.Fmt.{decimal}
use Rattle.std.specs.Io.KnownBytes.{Appends, Consumes, IsAtEnd}
use Rattle.scen_text.specs.declared.fault.ScenFault.{ScenFault}
use Rattle.scen_text.specs.declared.scenario.Phase.{Phase}
use Rattle.scen_text.specs.declared.scenario.Scenario.{Scenario}
use Rattle.scen_words.specs.Field.{line}
use Rattle.scen_words.specs.declared.limits.TheConstants.{MAX_BYTES}
use Rattle.scen_text.specs.Refused.{refused_fields}
use Rattle.scen_text.specs.Scenario.{IsRefusal, Stands}
use Rattle.scen_text.specs.ScenarioText.{scenario_text}
use Rattle.scen_gen.specs.Generated.{generated}
use Rattle.tap_ground.specs.Counts.{one_more}
use Rattle.scen_plain.specs.PlainRun.{IsPlainRun}
use Rattle.tap_top.specs.Headline.{Headline}
use Rattle.tap_top.specs.Output.{output_of}
use Rattle.tap_trace.specs.declared.trace.Trace.{Trace}
use Rattle.tap_words.specs.Words.{asks}
use Rattle.tap_words.specs.declared.request.Request.{Request}
use Rattle.tap_words.specs.declared.request.Request.TheVariants.{Check, Plain, Live, Audit, Gen, Upgrade}

-- ---- the words

-- What is asked for is built: a check, an upgrade, the generator and a run on one thread; not a run on many threads,
-- nor the judge.
abbrev pub is_built : Request → Bool
is_built Check = true
is_built (Plain seed json) = true
is_built (Live json) = false
is_built Audit = false
is_built (Gen count) = true
is_built Upgrade = true

abbrev pub built : Option Request → Option Request
built None = None
built (Some request) = if is_built request then Some request else None

-- what the words, as their bytes, ask for, where it is built
abbrev pub served : List (List ℕ) → Option Request
served words = built (asks words)

-- whether a request reads a scenario: all but the generator's
abbrev pub reads : Request → Bool
reads (Gen count) = false
reads request = true

-- whether what is served reads one; for other words nothing is read
abbrev pub reads_input : Option Request → Bool
reads_input None = false
reads_input (Some request) = reads request

-- ---- the lines of a refusal

abbrev pub usage_line : List ℕ
usage_line =
    codes "usage: tapsim check | plain [--seed N] [--json] | live [--json] | audit | gen N | upgrade" ++ 10 ∷ []

-- `refused LINE WHY`, and the further numbers
abbrev pub refusal_line : ScenFault → List ℕ
refusal_line fault = line (refused_fields fault)

-- ---- what is wanted of a good scenario

abbrev pub command_count : List Phase → ℕ
command_count [] = 0
command_count (p ∷ ps) = length p.lines + command_count ps

-- `ok N`, N the number of commands
unfoldable pub count_line : ℕ → List ℕ
count_line n = line (codes "ok" ∷ decimal n ∷ [])

-- the same scenario in version 2
abbrev pub upgraded : Scenario → Scenario
upgraded s = record s { version = 2 }

-- The text of a plain run: the trace of the run that the seed picks, and the report of that trace.
pub record PlainText (json : Bool) (seed : ℕ) (s : Scenario) (text : List ℕ) : Type 0 where
  pub trace : Trace
  pub run : IsPlainRun s seed trace
  pub written : text ≡ output_of json s trace

-- it is the text that is asked for, of a good scenario
abbrev pub IsText : Request → Scenario → List ℕ → Type 0
IsText Check s text = text ≡ count_line (command_count s.phases)
IsText (Plain seed json) s text = PlainText json seed s text
IsText (Live json) s text = ⊥
IsText Audit s text = ⊥
IsText (Gen count) s text = ⊥
IsText Upgrade s text = text ≡ scenario_text (upgraded s)

-- the text of the scenario that is made for a number of sends
abbrev pub made_text : ℕ → List ℕ
made_text count = scenario_text (generated count)

-- ---- what is wanted

-- what is wanted of an input, with its status: at 0 the text of a good scenario, or at 2 the line of the first refusal;
-- or the text of the generator, whatever the input
pub data IsReply (request : Request) (input : List ℕ) (status : ℕ) (text : List ℕ) : Type 0 where
  Good : reads request ≡ true → (s : Scenario) → Stands input s → Headline request s → IsText request s text
      → status ≡ 0 → IsReply request input status text
  Refused : reads request ≡ true → (fault : ScenFault) → IsRefusal input fault → text ≡ refusal_line fault → status ≡ 2
      → IsReply request input status text
  Made : (count : ℕ) → request ≡ Gen count → text ≡ made_text count → status ≡ 0 → IsReply request input status text

-- what is wanted for words and an input: the usage line at 1 for other words, or the reply
pub data IsWanted (words : List (List ℕ)) (input : List ℕ) (status : ℕ) (text : List ℕ) : Type 0 where
  Usage : served words ≡ None → text ≡ usage_line → status ≡ 1 → IsWanted words input status text
  Reply : (request : Request) → served words ≡ Some request → IsReply request input status text
      → IsWanted words input status text

-- it is to be done: a text that stands for a scenario, where such a one is read; or what the generator makes
pub data IsGood (words : List (List ℕ)) (input : List ℕ) : Type 0 where
  Standing : (request : Request) → served words ≡ Some request → reads request ≡ true → (s : Scenario) → Stands input s
      → IsGood words input
  Making : (count : ℕ) → served words ≡ Some (Gen count) → IsGood words input

-- ---- the source

-- a source before and after a call: the bytes left, where it tells them, and its count of faults
pub record Source : Type 0 where
  pub left : Option (List ℕ)
  pub left_now : Option (List ℕ)
  pub faults : ℕ
  pub faults_now : ℕ

abbrev pub source_between : Option (List ℕ) → Option (List ℕ) → ℕ → ℕ → Source
source_between left left_now faults faults_now =
    record { left = left; left_now = left_now; faults = faults; faults_now = faults_now }

-- at most one byte more than the limit was taken
pub record TakesToLimit (source : Source) (bytes : List ℕ) : Type 0 where
  pub taken : Consumes source.left source.left_now bytes
  pub few : length bytes ≤ MAX_BYTES + 1

-- all of the input was taken, or its front, where this is longer than the limit
pub record TakesInput (source : Source) (input : List ℕ) : Type 0 where
  pub to_limit : TakesToLimit source input
  pub whole : IsAtEnd source.left_now ⊎ (MAX_BYTES < length input)

-- what the words have read: nothing, where what is served reads nothing, and the source is untouched; or the input
pub data Reads (words : List (List ℕ)) (source : Source) (untouched : Type 0) (input : List ℕ) : Type 0 where
  Untouched : reads_input (served words) ≡ false → untouched → Reads words source untouched input
  Input : reads_input (served words) ≡ true → TakesInput source input → Reads words source untouched input

-- the source tells this input, where it is read
abbrev pub Tells : List (List ℕ) → Source → List ℕ → Type 0
Tells words source input = reads_input (served words) ≡ true → source.left ≡ Some input

-- ---- the sink

-- a sink before and after a call: the bytes written, where it tells them, and its count of faults
pub record Sink : Type 0 where
  pub written : Option (List ℕ)
  pub written_now : Option (List ℕ)
  pub faults : ℕ
  pub faults_now : ℕ

abbrev pub sink_between : Option (List ℕ) → Option (List ℕ) → ℕ → ℕ → Sink
sink_between written written_now faults faults_now =
    record { written = written; written_now = written_now; faults = faults; faults_now = faults_now }

-- all of the text was written, and no write failed
pub record Writes (sink : Sink) (text : List ℕ) : Type 0 where
  pub written : Appends sink.written sink.written_now text
  pub no_fault : sink.faults_now ≡ sink.faults

-- a front of the text was written, and something of it is left
abbrev pub WritesFront : Sink → List ℕ → Type 0
WritesFront sink text = (n : ℕ) × (n < length text) × Appends sink.written sink.written_now (take n text)

-- a front of the text was written, and then one write failed
pub record Breaks (sink : Sink) (text : List ℕ) : Type 0 where
  pub front : WritesFront sink text
  pub fault : sink.faults_now ≡ one_more sink.faults

-- a front of the text was written, and then memory ran out
pub record Stops (sink : Sink) (text : List ℕ) : Type 0 where
  pub front : WritesFront sink text
  pub no_fault : sink.faults_now ≡ sink.faults

-- all of a line was written, or a front of it and then a write failed
abbrev pub WritesLine : Sink → List ℕ → Type 0
WritesLine sink text = Writes sink text ⊎ Breaks sink text

-- ---- the call

-- some input was read, and what is wanted of it at this status was written in this way
pub record Answers (words : List (List ℕ)) (source : Source) (untouched : Type 0) (status : ℕ)
    (written : List ℕ → Type 0) : Type 0 where
  pub input : List ℕ
  pub text : List ℕ
  pub read : Reads words source untouched input
  pub wanted : IsWanted words input status text
  pub write : written text

-- What a call of the program did, by its status. `untouched` and `silent` say that source and sink are the values that
-- they were, `tame` and `reliable` that they don't fail. Where the source tells the bytes that are read, 0 and 2 come
-- exactly where they are wanted.
pub record Ended (words : List (List ℕ)) (source : Source) (sink : Sink)
    (untouched silent tame reliable : Type 0) (status : ℕ) : Type 0 where
  -- 0, done: all of a wanted text was written
  pub done : status ≡ 0 → Answers words source untouched 0 (Writes sink)
  -- 1, other words: exactly then; the source isn't read, and the usage line is written
  pub usage : status ≡ 1 → (served words ≡ None) × untouched × WritesLine sink usage_line
  pub usage_only : (served words ≡ None) → (status ≡ 1) ⊎ (status ≡ 5)
  -- 2, refused: the line of the first refusal is written
  pub refused : status ≡ 2 → Answers words source untouched 2 (WritesLine sink)
  pub refused_only : (input text : List ℕ) → Tells words source input → IsWanted words input 2 text
      → (status ≡ 2) ⊎ ((status ≡ 3) ⊎ (status ≡ 5))
  -- 3, the source failed: exactly where a read failed, which ends the reading; nothing is written
  pub source_failed : status ≡ 3 → (source.faults_now ≡ one_more source.faults) × silent
  pub no_read_failed : (status ≡ 3 → ⊥) → source.faults_now ≡ source.faults
  pub ends_well : tame → status ≡ 3 → ⊥
  -- 4, the sink failed: a front of the text of status 0 was written
  pub sink_failed : status ≡ 4 → Answers words source untouched 0 (Breaks sink)
  pub no_write_failed : reliable → (status ≡ 4 → ⊥) × (sink.faults_now ≡ sink.faults)
  -- 5, out of memory: before anything was written, or behind a front of what is wanted
  pub out_of_memory : status ≡ 5 → silent ⊎ ((wanted : ℕ) × Answers words source untouched wanted (Stops sink))
  -- no other
  pub statuses : status ≤ 5
  -- at every status: where nothing is to be read, nothing is, and no read fails
  pub unread : reads_input (served words) ≡ false → untouched × (status ≡ 3 → ⊥)
  -- at every status: at most one byte more than the limit is taken
  pub taken : (bytes : List ℕ) × TakesToLimit source bytes
  -- what is good is done, where no call fails
  pub complete : (input : List ℕ) → Tells words source input → IsGood words input
      → (source.faults_now ≡ one_more source.faults → ⊥) → (sink.faults_now ≡ one_more sink.faults → ⊥)
      → (status ≡ 0) ⊎ (status ≡ 5)
