-- This project's own: what the answer of a write says of the worlds before and after its event.
use Rattle.std.specs.Prelude.{◌≡◌, ◌⊎◌, ℕ, true, false, List, length, Some}
use Rattle.tap_flow_key.specs.Fnv.{fnv_of}
use Rattle.tap_flow_key.specs.FlowKey.{hash}
use Rattle.tap_frame.specs.declared.reading.BadFrame.{BadFrame}
use Rattle.tap_steer.specs.declared.operation.Op.TheVariants as op
use Rattle.tap_steer.specs.Select as steer
use Rattle.tap_trace.specs.declared.answer.Answer.{Answer}
use Rattle.tap_trace.specs.declared.answer.Answer.TheVariants as answer
use Rattle.tap_world.specs.Frames.{Front, bad_in}
use Rattle.tap_world.specs.Setup.{Setup}
use Rattle.tap_world.specs.Steady.{IsWritten}
use Rattle.tap_world.specs.World.{table_at}
use Rattle.tap_answers.specs.SaysShared.{IsHosted, IsKnown, IsNewest, IsNext, Occasion, Publishes, PublishesNone}
use Rattle.tap_answers.specs.SaysReads.{HasNoDevice}

-- behind the front at SEEN, which is the newest version of the world before the event, the bytes are no frame
pub record IsRefused (s : Setup) (o : Occasion) (file : ℕ) (bytes : List ℕ) (seen : ℕ) (bad : BadFrame) : Type 0 where
  pub looked : IsNewest o seen
  pub front : Front
  pub shape : steer.shape_of (table_at s o.before seen) file ≡ Some front
  pub refused : bad_in front bytes ≡ Some bad

-- The bytes were accepted at a version, behind the front of it, and the host has so many of them, with this hash.
pub record IsAccepted (s : Setup) (o : Occasion) (file : ℕ) (bytes : List ℕ) (version len fnv : ℕ) (ether : List ℕ) :
    Type 0 where
  pub written : IsWritten (table_at s o.before version) file bytes ether
  pub length : len ≡ length ether
  pub hash : fnv ≡ fnv_of ether

-- The host is given the frame, and nothing is learnt: SEEN is that of the look, and the file doesn't learn there.
pub record HostsOnly (s : Setup) (o : Occasion) (file : ℕ) (bytes : List ℕ) (seen len fnv : ℕ) : Type 0 where
  pub known : IsKnown o seen
  pub ether : List ℕ
  pub accepted : IsAccepted s o file bytes seen len fnv ether
  pub learns : steer.learns (table_at s o.before seen) file ≡ false
  pub hosted : IsHosted o
  pub none : PublishesNone o

-- The host has had the frame, and its flow is learnt now, which is SEEN: the look was at the version that the actor had
-- seen before, where the file learns.
pub record HostsAndLearns (s : Setup) (o : Occasion) (file : ℕ) (bytes : List ℕ) (seen len fnv : ℕ) : Type 0 where
  pub next : IsNext o seen
  pub ether : List ℕ
  pub accepted : IsAccepted s o file bytes o.known len fnv ether
  pub learns : steer.learns (table_at s o.before o.known) file ≡ true
  pub learning : Publishes o (op.Learn file (hash ether))

-- by answer; a write has no other
abbrev pub WriteSays : Setup → Occasion → ℕ → List ℕ → ℕ → Answer → Type 0
WriteSays s o file bytes seen (answer.Tap e) = HasNoDevice s o file seen e
WriteSays s o file bytes seen (answer.Bad bad) = IsRefused s o file bytes seen bad
WriteSays s o file bytes seen (answer.Host len fnv) =
    HostsOnly s o file bytes seen len fnv ⊎ HostsAndLearns s o file bytes seen len fnv
WriteSays s o file bytes seen other = ⊥
