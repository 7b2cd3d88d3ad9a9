-- This project's own: what the answer of a send says of the worlds before and after its event.
use Rattle.std.specs.Prelude.{◌≡◌, ℕ, Bool, true, false, List, Option, Some, None}
use Rattle.tap_frame.specs.declared.header.Hdr.{Hdr}
use Rattle.tap_frame.specs.declared.reading.BadFrame.{BadFrame}
use Rattle.tap_ledger.specs.declared.fate.Cause.TheVariants as cause
use Rattle.tap_steer.specs.declared.selection.Select.{Select}
use Rattle.tap_steer.specs.declared.selection.Select.TheVariants as select
use Rattle.tap_steer.specs.Select as steer
use Rattle.tap_trace.specs.declared.answer.Answer.{Answer}
use Rattle.tap_trace.specs.declared.answer.Answer.TheVariants as answer
use Rattle.tap_world.specs.declared.line.Standing.TheVariants.{Ready}
use Rattle.tap_world.specs.ByNumber.{at}
use Rattle.tap_world.specs.Frames.{bad_in, ether_in, sent_bytes, sent_front}
use Rattle.tap_world.specs.Line.{File, claimed, freed, is_full, is_gone, is_spent}
use Rattle.tap_world.specs.Setup.{Setup}
use Rattle.tap_world.specs.Steady.{IsClaimed, IsRouted}
use Rattle.tap_world.specs.World.{name_of, table_at}
use Rattle.tap_answers.specs.SaysShared.{HasEntry, IsDropped, IsKnown, IsNewest, Occasion}

-- ---- at the look: SEEN is the newest version of the world before the event

-- the bytes are no frame, for this reason
pub record IsBad (o : Occasion) (hdr : Option Hdr) (bytes : List ℕ) (seen : ℕ) (bad : BadFrame) : Type 0 where
  pub looked : IsNewest o seen
  pub refused : bad_in (sent_front hdr) (sent_bytes hdr bytes) ≡ Some bad

-- the frame is accepted, the table at SEEN has no row for it, and it is dropped
pub record HasNoRow (s : Setup) (o : Occasion) (device : ℕ) (hdr : Option Hdr) (bytes : List ℕ) (seen : ℕ)
    (chosen : Select) : Type 0 where
  pub looked : IsNewest o seen
  pub accepted : bad_in (sent_front hdr) (sent_bytes hdr bytes) ≡ None
  pub selected :
      steer.select (table_at s o.before seen) device (ether_in (sent_front hdr) (sent_bytes hdr bytes)) ≡ chosen
  pub dropped : IsDropped o

-- ---- at the ring: SEEN is that of the look before it

-- the ring of the row at SEEN lets no frame of its epoch in, and the frame is dropped
pub record IsTurnedAway (s : Setup) (o : Occasion) (device : ℕ) (hdr : Option Hdr) (bytes : List ℕ) (seen file : ℕ)
    (Why : ℕ → File → Type 0) : Type 0 where
  pub known : IsKnown o seen
  pub epoch : ℕ
  pub keep : ℕ
  pub row : IsRouted (table_at s o.before seen) device hdr bytes file epoch keep
  pub f : File
  pub is_file : at o.before.files file ≡ Some f
  pub why : Why epoch f
  pub dropped : IsDropped o

-- the first of these that holds: its gate is shut or has another epoch, its places are spent, it is full
abbrev pub FindsGone : ℕ → ℕ → Bool → ℕ → File → Type 0
FindsGone want found shut epoch f =
    (is_gone epoch f ≡ true) × (want ≡ epoch) × (found ≡ f.epoch) × (shut ≡ f.shut)

abbrev pub FindsSpent : ℕ → ℕ → File → Type 0
FindsSpent k epoch f = (is_gone epoch f ≡ false) × (is_spent f ≡ true) × (k ≡ claimed f)

abbrev pub FindsFull : ℕ → ℕ → ℕ → File → Type 0
FindsFull k d epoch f =
    (is_gone epoch f ≡ false) × (is_spent f ≡ false) × (is_full f ≡ true) × (k ≡ claimed f) × (d ≡ freed f)

-- the frame has the place of its row's ring that this send claimed under the row's epoch, and is put there now
pub record IsPlaced (s : Setup) (o : Occasion) (device : ℕ) (hdr : Option Hdr) (bytes : List ℕ)
    (seen file place epoch len : ℕ) : Type 0 where
  pub known : IsKnown o seen
  pub row : IsRouted (table_at s o.before seen) device hdr bytes file epoch len
  pub claim : IsClaimed o.before o.actor file place epoch len (name_of o.actor o.number)
  pub put : HasEntry o file claim.f claim.index
      (record { name = name_of o.actor o.number; epoch = epoch; len = len; stands = Ready })

-- ---- by answer; a send has no other

abbrev pub SendSays : Setup → Occasion → ℕ → Option Hdr → List ℕ → ℕ → Answer → Type 0
SendSays s o device hdr bytes seen (answer.Bad bad) = IsBad o hdr bytes seen bad
SendSays s o device hdr bytes seen (answer.Dropped None cause.NoQueue) =
    HasNoRow s o device hdr bytes seen select.NoQueue
SendSays s o device hdr bytes seen (answer.Dropped None cause.Filtered) =
    HasNoRow s o device hdr bytes seen select.Filtered
SendSays s o device hdr bytes seen (answer.Dropped (Some file) (cause.Gone want found shut)) =
    IsTurnedAway s o device hdr bytes seen file (FindsGone want found shut)
SendSays s o device hdr bytes seen (answer.Dropped (Some file) (cause.Spent k)) =
    IsTurnedAway s o device hdr bytes seen file (FindsSpent k)
SendSays s o device hdr bytes seen (answer.Dropped (Some file) (cause.Full k d)) =
    IsTurnedAway s o device hdr bytes seen file (FindsFull k d)
SendSays s o device hdr bytes seen (answer.Placed file place epoch len) =
    IsPlaced s o device hdr bytes seen file place epoch len
SendSays s o device hdr bytes seen other = ⊥
