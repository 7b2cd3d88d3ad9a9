-- This project's own: what the fields of a step say.
use Rattle.std.specs.Prelude.{ℕ, List, Option, Some}
use Rattle.tap_trace.specs.declared.kind.Kind.{Kind}
use Rattle.tap_trace.specs.declared.kind.Kind.TheVariants as kind
use Rattle.tap_trace.specs.declared.trace.StepLine.{StepLine}
use Rattle.trace_words.specs.declared.words.KindWord.{KindWord}
use Rattle.trace_words.specs.declared.words.KindWord.TheVariants as word
use Rattle.trace_words.specs.declared.words.PlainWord.{PlainWord}
use Rattle.trace_words.specs.declared.words.PlainWord.TheVariants as plain
use Rattle.tap_ground.specs.Options.{◌>>=◌}
use Rattle.trace_causes.specs.Reading.{ended, first_by, flag_first, name_or_dash_of, number16, number32, number8}
use Rattle.trace_words.specs.Words.{kind_word}

-- the step of a word behind which a vhost and a ring stand
abbrev pub plain_kind : PlainWord → ℕ → ℕ → Kind
plain_kind plain.None v r = kind.None v r
plain_kind plain.Crowded v r = kind.Crowded v r
plain_kind plain.Off v r = kind.Off v r
plain_kind plain.Stopped v r = kind.Stopped v r
plain_kind plain.Num v r = kind.Num v r
plain_kind plain.Base v r = kind.Base v r
plain_kind plain.Addr v r = kind.Addr v r
plain_kind plain.GetBase v r = kind.GetBase v r
plain_kind plain.Drive v r = kind.Drive v r
plain_kind plain.Post v r = kind.Post v r
plain_kind plain.Harvest v r = kind.Harvest v r

unfoldable pub plain_in : PlainWord → List (List ℕ) → Option Kind
plain_in w fields = do
  v ← number16 fields
  r ← number16 v.1
  end ← ended r.1
  Some (plain_kind w v.0 r.0)

unfoldable pub fetch_in : List (List ℕ) → Option Kind
fetch_in fields = do
  v ← number16 fields
  r ← number16 v.1
  position ← number16 r.1
  head ← number16 position.1
  end ← ended head.1
  Some (kind.Fetch v.0 r.0 position.0 head.0)

unfoldable pub halt_in : List (List ℕ) → Option Kind
halt_in fields = do
  v ← number16 fields
  r ← number16 v.1
  fault ← number8 r.1
  end ← ended fault.1
  Some (kind.Halt v.0 r.0 fault.0)

unfoldable pub copy_in : List (List ℕ) → Option Kind
copy_in fields = do
  v ← number16 fields
  r ← number16 v.1
  position ← number16 r.1
  name ← first_by name_or_dash_of position.1
  end ← ended name.1
  Some (kind.Copy v.0 r.0 position.0 name.0)

unfoldable pub publish_in : List (List ℕ) → Option Kind
publish_in fields = do
  v ← number16 fields
  r ← number16 v.1
  count ← number16 r.1
  call ← flag_first count.1
  end ← ended call.1
  Some (kind.Publish v.0 r.0 count.0 call.0)

unfoldable pub notices_in : List (List ℕ) → Option Kind
notices_in fields = do
  v ← number16 fields
  r ← number16 v.1
  on ← flag_first r.1
  end ← ended on.1
  Some (kind.Notices v.0 r.0 on.0)

unfoldable pub backend_in : List (List ℕ) → Option Kind
backend_in fields = do
  v ← number16 fields
  r ← number16 v.1
  set ← flag_first r.1
  end ← ended set.1
  Some (kind.Backend v.0 r.0 set.0)

unfoldable pub features_in : List (List ℕ) → Option Kind
features_in fields = do
  v ← number16 fields
  end ← ended v.1
  Some (kind.Features v.0)

-- what the fields behind the word of a step say
unfoldable pub kind_behind : KindWord → List (List ℕ) → Option Kind
kind_behind word.Fetch fields = fetch_in fields
kind_behind word.Halt fields = halt_in fields
kind_behind word.Copy fields = copy_in fields
kind_behind word.Publish fields = publish_in fields
kind_behind word.Notices fields = notices_in fields
kind_behind word.Backend fields = backend_in fields
kind_behind word.Features fields = features_in fields
kind_behind word.Poke fields = ended fields >>= λ end. Some kind.Poke
kind_behind word.Peek fields = ended fields >>= λ end. Some kind.Peek
kind_behind (word.Plain w) fields = plain_in w fields

-- `step ACTOR COMMAND KIND`
unfoldable pub step_in : List (List ℕ) → Option StepLine
step_in fields = do
  actor ← number16 fields
  command ← number32 actor.1
  w ← first_by kind_word command.1
  kind ← kind_behind w.0 w.1
  Some (record { actor = actor.0; command = command.0; kind = kind })
