-- This project's own: which traces a text can stand for: each part fits, and the parts are in the order of the form.
use Rattle.std.specs.Prelude.{◌≡◌, ℕ, Bool, true, ◌&&◌, ◌||◌, ◌==◌, nat_lt, IsTrue, List, [], ◌∷◌}
use Rattle.std.specs.List.{AllByRecursion}
use Rattle.tap_trace.specs.declared.trace.AnswerLine.{AnswerLine}
use Rattle.tap_trace.specs.declared.trace.FilePart.{FilePart}
use Rattle.tap_trace.specs.declared.trace.GuestPart.{GuestPart}
use Rattle.tap_trace.specs.declared.trace.OpLine.{OpLine}
use Rattle.tap_trace.specs.declared.trace.PhasePart.{PhasePart}
use Rattle.tap_trace.specs.declared.trace.PlaceLine.{PlaceLine}
use Rattle.tap_trace.specs.declared.trace.PositionList.{PositionList}
use Rattle.tap_trace.specs.declared.trace.RingPart.{RingPart}
use Rattle.tap_trace.specs.declared.trace.Trace.{Trace}
use Rattle.trace_causes.specs.Fits.{Is16, Is64, IsRing}
use Rattle.trace_words.specs.Fits.{FitAnswerLine, FitOpLine, FitPlace, FitStep, FitUsed}
use Rattle.trace_text.specs.TraceText.{trace_text}

-- ---- orders

-- each item stands before the next one by a test
abbrev pub rises : {A : Type 0} → (A → A → Bool) → List A → Bool
rises before [] = true
rises before (x ∷ []) = true
rises before (x ∷ y ∷ xs) = before x y && rises before (y ∷ xs)

-- by two numbers, the first one first
abbrev pub pair_before : ℕ → ℕ → ℕ → ℕ → Bool
pair_before a b c d = nat_lt a c || (a == c && nat_lt b d)

-- operations by version
abbrev pub op_before : OpLine → OpLine → Bool
op_before a b = nat_lt a.version b.version

-- answers by actor and then command
abbrev pub answer_before : AnswerLine → AnswerLine → Bool
answer_before a b = pair_before a.actor a.command b.actor b.command

-- places by number
abbrev pub place_before : PlaceLine → PlaceLine → Bool
place_before a b = nat_lt a.place b.place

-- files by number
abbrev pub file_before : FilePart → FilePart → Bool
file_before a b = nat_lt a.file b.file

-- guests by number
abbrev pub guest_before : GuestPart → GuestPart → Bool
guest_before a b = nat_lt a.guest b.guest

-- rings by vhost and then ring
abbrev pub ring_before : RingPart → RingPart → Bool
ring_before a b = pair_before a.vhost a.ring b.vhost b.ring

-- ---- parts

pub record FitPhase (p : PhasePart) : Type 0 where
  pub actors : Is16 p.actors
  pub ops : AllByRecursion FitOpLine p.ops
  pub ops_rise : IsTrue (rises op_before p.ops)
  pub answers : AllByRecursion FitAnswerLine p.answers
  pub answers_rise : IsTrue (rises answer_before p.answers)

pub record FitFile (f : FilePart) : Type 0 where
  pub file : Is16 f.file
  pub claimed : Is64 f.claimed
  pub freed : Is64 f.freed
  pub lines : AllByRecursion FitPlace f.lines
  pub lines_rise : IsTrue (rises place_before f.lines)

abbrev pub FitGuest : GuestPart → Type 0
FitGuest g = Is16 g.guest × AllByRecursion FitStep g.steps

abbrev pub FitList : PositionList → Type 0
FitList l = Is16 l.base × AllByRecursion FitUsed l.used

-- the first list begins at 0
abbrev pub BeginsAtZero : List PositionList → Type 0
BeginsAtZero [] = ⊥
BeginsAtZero (l ∷ ls) = l.base ≡ 0

abbrev pub FitRing : RingPart → Type 0
FitRing r = IsRing r.vhost r.ring × BeginsAtZero r.lists × AllByRecursion FitList r.lists

-- ---- traces

pub record FitTrace (t : Trace) : Type 0 where
  pub phases : AllByRecursion FitPhase t.phases
  pub files : AllByRecursion FitFile t.files
  pub files_rise : IsTrue (rises file_before t.files)
  pub guests : AllByRecursion FitGuest t.guests
  pub guests_rise : IsTrue (rises guest_before t.guests)
  pub rings : AllByRecursion FitRing t.rings
  pub rings_rise : IsTrue (rises ring_before t.rings)

-- these bytes stand for the trace
abbrev pub StandsFor : List ℕ → Trace → Type 0
StandsFor bytes t = FitTrace t × (bytes ≡ trace_text t)
