-- This project's own: the turns of the workers, and the steps of a ring.
use Rattle.std.specs.Prelude.{ℕ, Bool, true, false, ◌&&◌, ◌==◌, if◌then◌else◌, List, [], ◌∷◌, count_by, reverse, Option, Some, None, unwrap_or}
use Rattle.std.specs.List.{flat_map}
use Rattle.std.specs.Option.{option_or}
use Rattle.tap_trace.specs.declared.answer.Answer.{Answer}
use Rattle.tap_trace.specs.declared.answer.Answer.TheVariants as answer
use Rattle.tap_trace.specs.declared.kind.Kind.{Kind}
use Rattle.tap_trace.specs.declared.kind.Kind.TheVariants as kind
use Rattle.tap_trace.specs.declared.trace.AnswerLine.{AnswerLine}
use Rattle.tap_trace.specs.declared.trace.GuestPart.{GuestPart}
use Rattle.tap_trace.specs.declared.trace.PhasePart.{PhasePart}
use Rattle.tap_trace.specs.declared.trace.StepLine.{StepLine}
use Rattle.tap_trace.specs.declared.trace.Trace.{Trace}
use Rattle.tap_trace.specs.declared.turn.ChainText.{ChainText}
use Rattle.tap_trace.specs.declared.turn.ChainText.TheVariants.{Got, Refused}
use Rattle.tap_report.specs.declared.index.Role.{Role}
use Rattle.tap_report.specs.declared.index.Role.TheVariants.{Receives, Transmits, Backs}
use Rattle.tap_report.specs.declared.turns.Turned.{Turned}
use Rattle.tap_report.specs.Index.{role_at}

-- ---- turns

-- a frame was accepted
abbrev pub is_got : ChainText → Bool
is_got (Got name len fnv) = true
is_got (Refused position bad) = false

-- none was
abbrev pub is_refused : ChainText → Bool
is_refused (Got name len fnv) = false
is_refused (Refused position bad) = true

-- a turn of a ring: its bytes, and how many frames it accepted and refused
abbrev pub turned : ℕ → ℕ → ℕ → List ChainText → List Turned
turned vhost ring bytes chains = record {
  vhost = vhost;
  ring = ring;
  bytes = bytes;
  got = count_by is_got chains;
  refused = count_by is_refused chains;
} ∷ []

-- the turn that a command and its answer are: ring 0 is the receive worker's, ring 1 the transmit worker's
abbrev pub turn_of : Role → Answer → List Turned
turn_of (Receives vhost) (answer.Turn packets bytes end chains) = turned vhost 0 bytes chains
turn_of (Transmits vhost) (answer.Turn packets bytes end chains) = turned vhost 1 bytes chains
turn_of role a = []

-- all turns
abbrev pub answer_turn : List Role → AnswerLine → List Turned
answer_turn rs a = turn_of (role_at rs a.command) a.answer

abbrev pub phase_turns : List Role → PhasePart → List Turned
phase_turns rs p = flat_map (answer_turn rs) p.answers

abbrev pub turns : List Role → Trace → List Turned
turns rs t = flat_map (phase_turns rs) t.phases

-- a turn of this ring
abbrev pub is_turn_of : ℕ → ℕ → Turned → Bool
is_turn_of vhost ring u = u.vhost == vhost && u.ring == ring

-- ---- steps

-- a packet of this ring was copied
abbrev pub copies : ℕ → ℕ → Kind → Bool
copies vhost ring (kind.Copy v r position name) = v == vhost && r == ring
copies vhost ring k = false

-- chains of this ring were published, and a notice was needed
abbrev pub calls : ℕ → ℕ → Kind → Bool
calls vhost ring (kind.Publish v r count call) = v == vhost && r == ring && call
calls vhost ring k = false

abbrev pub is_backs : Role → Bool
is_backs Backs = true
is_backs role = false

-- by which fault this ring was stopped, or 0 where a backend was set; a ring stays stopped without a backend
abbrev pub stops : Role → ℕ → ℕ → Kind → Option ℕ
stops role vhost ring (kind.Halt v r fault) = if v == vhost && r == ring then Some fault else None
stops role vhost ring (kind.Backend v r set) = if is_backs role && v == vhost && r == ring && set then Some 0 else None
stops role vhost ring k = None

-- the first that is told of some items
abbrev pub first_told : {A : Type 0} → (A → Option ℕ) → List A → Option ℕ
first_told told [] = None
first_told told (x ∷ xs) = option_or (told x) (first_told told xs)

abbrev pub step_stops : List Role → ℕ → ℕ → StepLine → Option ℕ
step_stops rs vhost ring s = stops (role_at rs s.command) vhost ring s.kind

-- what the last of a guest's steps tells
abbrev pub told_by_steps : List Role → ℕ → ℕ → GuestPart → Option ℕ
told_by_steps rs vhost ring g = first_told (step_stops rs vhost ring) (reverse g.steps)

-- the number of the fault by which a ring is stopped at the end of the run, or 0
abbrev pub stopped : List Role → ℕ → ℕ → List GuestPart → ℕ
stopped rs vhost ring gs = unwrap_or (first_told (told_by_steps rs vhost ring) (reverse gs)) 0
