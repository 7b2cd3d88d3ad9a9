-- This project's own: how the steps on a guest are written.
use Rattle.std.specs.Prelude.{ℕ, List, [], ◌∷◌, codes}
use Rattle.std.specs.Fmt.{decimal}
use Rattle.tap_trace.specs.declared.kind.Kind.{Kind}
use Rattle.tap_trace.specs.declared.kind.Kind.TheVariants as kind
use Rattle.tap_trace.specs.declared.trace.StepLine.{StepLine}
use Rattle.trace_causes.specs.Values.{name_or_dash}
use Rattle.trace_causes.specs.Words.{flag_spelling}
use Rattle.trace_words.specs.declared.words.KindWord.TheVariants as word
use Rattle.trace_words.specs.declared.words.PlainWord.TheVariants as plain
use Rattle.trace_words.specs.Words.{kind_spelling}

-- a word behind which a vhost and a ring stand, and then more
abbrev pub of_ring : List ℕ → ℕ → ℕ → List (List ℕ) → List (List ℕ)
of_ring word vhost ring more = word ∷ decimal vhost ∷ decimal ring ∷ more

-- what a step did, of vhost v and ring r
abbrev pub kind_fields : Kind → List (List ℕ)
kind_fields (kind.Fetch v r position head) =
    of_ring (kind_spelling word.Fetch) v r (decimal position ∷ decimal head ∷ [])
kind_fields (kind.None v r) = of_ring (kind_spelling (word.Plain plain.None)) v r []
kind_fields (kind.Crowded v r) = of_ring (kind_spelling (word.Plain plain.Crowded)) v r []
kind_fields (kind.Halt v r fault) = of_ring (kind_spelling word.Halt) v r (decimal fault ∷ [])
kind_fields (kind.Copy v r position name) =
    of_ring (kind_spelling word.Copy) v r (decimal position ∷ name_or_dash name ∷ [])
kind_fields (kind.Publish v r count call) =
    of_ring (kind_spelling word.Publish) v r (decimal count ∷ flag_spelling call ∷ [])
kind_fields (kind.Notices v r on) = of_ring (kind_spelling word.Notices) v r (flag_spelling on ∷ [])
kind_fields (kind.Off v r) = of_ring (kind_spelling (word.Plain plain.Off)) v r []
kind_fields (kind.Stopped v r) = of_ring (kind_spelling (word.Plain plain.Stopped)) v r []
kind_fields (kind.Features v) = kind_spelling word.Features ∷ decimal v ∷ []
kind_fields (kind.Num v r) = of_ring (kind_spelling (word.Plain plain.Num)) v r []
kind_fields (kind.Base v r) = of_ring (kind_spelling (word.Plain plain.Base)) v r []
kind_fields (kind.Addr v r) = of_ring (kind_spelling (word.Plain plain.Addr)) v r []
kind_fields (kind.GetBase v r) = of_ring (kind_spelling (word.Plain plain.GetBase)) v r []
kind_fields (kind.Backend v r set) = of_ring (kind_spelling word.Backend) v r (flag_spelling set ∷ [])
kind_fields kind.Poke = kind_spelling word.Poke ∷ []
kind_fields kind.Peek = kind_spelling word.Peek ∷ []
kind_fields (kind.Drive v r) = of_ring (kind_spelling (word.Plain plain.Drive)) v r []
kind_fields (kind.Post v r) = of_ring (kind_spelling (word.Plain plain.Post)) v r []
kind_fields (kind.Harvest v r) = of_ring (kind_spelling (word.Plain plain.Harvest)) v r []

-- `step ACTOR COMMAND KIND`
abbrev pub step_line : StepLine → List (List ℕ)
step_line s = codes "step" ∷ decimal s.actor ∷ decimal s.command ∷ kind_fields s.kind
