-- This project's own: how a trace is built from what its lines say. The part that is open is the last one of its list.
use Rattle.std.specs.Prelude.{◌≡◌, ℕ, Bool, true, false, not, ◌&&◌, ◌==◌, if◌then◌else◌, List, [], ◌∷◌, ◌++◌, length, Option, Some, None}
use Rattle.std.specs.Option.{option_map}
use Rattle.tap_trace.specs.declared.answer.Answer.{Answer}
use Rattle.tap_trace.specs.declared.answer.Answer.TheVariants as answer
use Rattle.tap_trace.specs.declared.trace.AnswerLine.{AnswerLine}
use Rattle.tap_trace.specs.declared.trace.FilePart.{FilePart}
use Rattle.tap_trace.specs.declared.trace.GuestPart.{GuestPart}
use Rattle.tap_trace.specs.declared.trace.OpLine.{OpLine}
use Rattle.tap_trace.specs.declared.trace.PhasePart.{PhasePart}
use Rattle.tap_trace.specs.declared.trace.PlaceLine.{PlaceLine}
use Rattle.tap_trace.specs.declared.trace.PositionList.{PositionList}
use Rattle.tap_trace.specs.declared.trace.RingPart.{RingPart}
use Rattle.tap_trace.specs.declared.trace.StepLine.{StepLine}
use Rattle.tap_trace.specs.declared.trace.Trace.{Trace}
use Rattle.tap_trace.specs.declared.turn.ChainText.{ChainText}
use Rattle.trace_words.specs.declared.said.Said.{Said}
use Rattle.trace_words.specs.declared.said.Said.TheVariants as said
use Rattle.trace_text.specs.declared.builder.Builder.{Builder}
use Rattle.trace_text.specs.declared.builder.Stage.{Stage}
use Rattle.trace_text.specs.declared.builder.Stage.TheVariants.{Start, Inside, Ended}
use Rattle.trace_text.specs.Ordered.{answer_before, file_before, guest_before, op_before, place_before, ring_before}

-- ---- lists

-- no item is there yet
abbrev pub none_yet : {A : Type 0} → List A → Bool
none_yet [] = true
none_yet (x ∷ xs) = false

-- the last item
abbrev pub last_item : {A : Type 0} → List A → Option A
last_item [] = None
last_item (x ∷ []) = Some x
last_item (x ∷ y ∷ xs) = last_item (y ∷ xs)

-- a test of an item, where there is one
abbrev pub passes : {A : Type 0} → (A → Bool) → Option A → Bool
passes test None = true
passes test (Some x) = test x

-- an item can stand behind these in their order
abbrev pub may_follow : {A : Type 0} → (A → A → Bool) → List A → A → Bool
may_follow before xs y = passes (λ x. before x y) (last_item xs)

-- the last item becomes what f makes of it
abbrev pub with_last : {A : Type 0} → (A → Option A) → List A → Option (List A)
with_last f [] = None
with_last f (x ∷ []) = option_map (λ y. y ∷ []) (f x)
with_last f (x ∷ y ∷ xs) = option_map (λ ys. x ∷ ys) (with_last f (y ∷ xs))

-- one item more, where a test lets it
abbrev pub and_item : {A : Type 0} → Bool → List A → A → Option (List A)
and_item b xs x = if b then Some (xs ++ x ∷ []) else None

-- ---- parts

-- `op`: behind the other operations and before the answers
abbrev pub with_op : OpLine → PhasePart → Option PhasePart
with_op o p =
    option_map (λ ops. record p { ops = ops }) (and_item (none_yet p.answers && may_follow op_before p.ops o) p.ops o)

-- `ans`: behind the other answers
abbrev pub with_answer : AnswerLine → PhasePart → Option PhasePart
with_answer a p =
    option_map (λ answers. record p { answers = answers }) (and_item (may_follow answer_before p.answers a) p.answers a)

-- `resize`: behind an answer that is a version and no more
abbrev pub with_resize : ℕ → ℕ → ℕ → Answer → Option Answer
with_resize claimed freed cut (answer.Version version) = Some (answer.Resized version claimed freed cut)
with_resize claimed freed cut a = None

-- `got` or `refused`: behind the answer of a turn, and the chains before
abbrev pub with_chain : ChainText → Answer → Option Answer
with_chain c (answer.Turn packets bytes end chains) = Some (answer.Turn packets bytes end (chains ++ c ∷ []))
with_chain c a = None

-- the text of an answer becomes what f makes of it
abbrev pub with_text : (Answer → Option Answer) → AnswerLine → Option AnswerLine
with_text f a = option_map (λ text. record a { answer = text }) (f a.answer)

-- a line behind the last answer
abbrev pub behind_answer : (Answer → Option Answer) → PhasePart → Option PhasePart
behind_answer f p = option_map (λ answers. record p { answers = answers }) (with_last (with_text f) p.answers)

-- `line`: behind the other places
abbrev pub with_place : PlaceLine → FilePart → Option FilePart
with_place l f =
    option_map (λ lines. record f { lines = lines }) (and_item (may_follow place_before f.lines l) f.lines l)

-- `step`
abbrev pub with_step : StepLine → GuestPart → Option GuestPart
with_step s g = option_map (λ steps. record g { steps = steps }) (and_item true g.steps s)

-- `base`: the first list begins at 0
abbrev pub with_base : ℕ → RingPart → Option RingPart
with_base base r = option_map (λ lists. record r { lists = lists })
    (and_item (if none_yet r.lists then base == 0 else true) r.lists (record { base = base; used = [] }))

-- `used`: in the last list
abbrev pub with_used : ℕ × ℕ × ℕ → RingPart → Option RingPart
with_used u r = option_map (λ lists. record r { lists = lists })
    (with_last (λ (l : PositionList). Some (record l { used = l.used ++ u ∷ [] })) r.lists)

-- ---- traces

-- nothing stands behind the phases
abbrev pub is_at_phases : Trace → Bool
is_at_phases t = none_yet t.files && none_yet t.guests && none_yet t.rings

-- nothing stands behind the files
abbrev pub is_at_files : Trace → Bool
is_at_files t = none_yet t.guests && none_yet t.rings

-- a ring has a list
abbrev pub is_listed : RingPart → Bool
is_listed r = not (none_yet r.lists)

-- the last ring has a list, where there is a ring
abbrev pub are_listed : Trace → Bool
are_listed t = passes is_listed (last_item t.rings)

-- a line in the last phase
abbrev pub in_phase : (PhasePart → Option PhasePart) → Trace → Option Trace
in_phase f t =
    if is_at_phases t then option_map (λ phases. record t { phases = phases }) (with_last f t.phases) else None

-- a line in the last file's part
abbrev pub in_file : (FilePart → Option FilePart) → Trace → Option Trace
in_file f t = if is_at_files t then option_map (λ files. record t { files = files }) (with_last f t.files) else None

-- a line in the last guest's part
abbrev pub in_guest : (GuestPart → Option GuestPart) → Trace → Option Trace
in_guest f t =
    if none_yet t.rings then option_map (λ guests. record t { guests = guests }) (with_last f t.guests) else None

-- a line in the last ring's part
abbrev pub in_ring : (RingPart → Option RingPart) → Trace → Option Trace
in_ring f t = option_map (λ rings. record t { rings = rings }) (with_last f t.rings)

-- `phase`: it has the next number
abbrev pub with_phase : ℕ → ℕ → Trace → Option Trace
with_phase number actors t = option_map (λ phases. record t { phases = phases })
    (and_item (is_at_phases t && number == length t.phases) t.phases
    (record { actors = actors; ops = []; answers = [] }))

-- `file`
abbrev pub with_file : FilePart → Trace → Option Trace
with_file f t = option_map (λ files. record t { files = files })
    (and_item (is_at_files t && may_follow file_before t.files f) t.files f)

-- `guest`
abbrev pub with_guest : GuestPart → Trace → Option Trace
with_guest g t = option_map (λ guests. record t { guests = guests })
    (and_item (none_yet t.rings && may_follow guest_before t.guests g) t.guests g)

-- `ring`: behind rings that have their lists
abbrev pub with_ring : RingPart → Trace → Option Trace
with_ring r t = option_map (λ rings. record t { rings = rings })
    (and_item (are_listed t && may_follow ring_before t.rings r) t.rings r)

-- ---- lines

-- a trace with one line more
abbrev pub with_line : Said → Trace → Option Trace
with_line said.Begins t = Some t
with_line (said.Phase number actors) t = with_phase number actors t
with_line (said.Op o) t = in_phase (with_op o) t
with_line (said.Answer a) t = in_phase (with_answer a) t
with_line (said.Resize claimed freed cut) t = in_phase (behind_answer (with_resize claimed freed cut)) t
with_line (said.Chain c) t = in_phase (behind_answer (with_chain c)) t
with_line (said.File file claimed freed) t =
    with_file (record { file = file; claimed = claimed; freed = freed; lines = [] }) t
with_line (said.Place l) t = in_file (with_place l) t
with_line (said.Guest guest) t = with_guest (record { guest = guest; steps = [] }) t
with_line (said.Step s) t = in_guest (with_step s) t
with_line (said.Ring vhost ring) t = with_ring (record { vhost = vhost; ring = ring; lists = [] }) t
with_line (said.Base base) t = in_ring (with_base base) t
with_line (said.Used position head len) t = in_ring (with_used (position, head, len)) t
with_line said.End t = if are_listed t then Some t else None

-- where a text stands behind a line
abbrev pub stage_after : Stage → Said → Option Stage
stage_after Start said.Begins = Some Inside
stage_after Start s = None
stage_after Inside said.Begins = None
stage_after Inside said.End = Some Ended
stage_after Inside s = Some Inside
stage_after Ended s = None

-- what is built, if the line can stand behind the lines so far
abbrev pub behind_stage : Option Stage → Option Trace → Option Builder
behind_stage None t = None
behind_stage (Some stage) t = option_map (λ trace. record { stage = stage; trace = trace }) t

abbrev pub step : Builder → Said → Option Builder
step b s = behind_stage (stage_after b.stage s) (with_line s b.trace)

-- nothing is built yet
abbrev pub start : Builder
start = record { stage = Start; trace = record { phases = []; files = []; guests = []; rings = [] } }

-- ---- what a call does

-- a phase is put back
abbrev pub phase_back : Trace → PhasePart → Trace
phase_back t p = record t { phases = t.phases ++ p ∷ [] }

-- a file's part, a guest's and a ring's
abbrev pub file_back : Trace → FilePart → Trace
file_back t f = record t { files = t.files ++ f ∷ [] }

abbrev pub guest_back : Trace → GuestPart → Trace
guest_back t g = record t { guests = t.guests ++ g ∷ [] }

abbrev pub ring_back : Trace → RingPart → Trace
ring_back t r = record t { rings = t.rings ++ r ∷ [] }

-- the open part was taken out, and can be put back: a line can stand in it, where it makes something of the part
abbrev pub Opens : {A T : Type 0} → ((A → Option A) → Option T) → (A → T) → Option A → Type 0
Opens within back None = (f : _ → Option _) → within f ≡ None
Opens within back (Some p) = (f : _ → Option _) → within f ≡ option_map back (f p)

-- whether a line was taken, and what is built then
abbrev pub Takes : {A : Type 0} → Option A → Bool → A → Type 0
Takes made true new = made ≡ Some new
Takes made false new = made ≡ None
