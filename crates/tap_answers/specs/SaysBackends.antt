-- This project's own: what the answer of a `backend` says of the worlds before and after its event.
use Rattle.std.specs.Prelude.{◌≡◌, ℕ, true, false, Option, Some, None}
use Rattle.tap_ledger.specs.declared.error.TapErr.{TapErr}
use Rattle.tap_steer.specs.declared.operation.Op.TheVariants as op
use Rattle.tap_steer.specs.Rules.{backer}
use Rattle.tap_steer.specs.Select as steer
use Rattle.tap_steer.specs.Table.{file_at}
use Rattle.tap_trace.specs.declared.answer.Answer.{Answer}
use Rattle.tap_trace.specs.declared.answer.Answer.TheVariants as answer
use Rattle.tap_trace.specs.declared.causes.VhostText.{VhostText}
use Rattle.tap_trace.specs.declared.causes.VhostText.TheVariants as text
use Rattle.vhost_dev.specs.declared.error.VhostErr.{VhostErr}
use Rattle.vhost_dev.specs.declared.error.VhostErr.TheVariants as err
use Rattle.vhost_dev.specs.Refusals.{fits_refusal, ready_refusal}
use Rattle.vhost_dev.specs.Settings.{ring_at}
use Rattle.tap_world.specs.ByNumber.{at}
use Rattle.tap_world.specs.Frames.{Front}
use Rattle.tap_world.specs.Guests.{Guest, Vhost, is_ring, vhost_text}
use Rattle.tap_world.specs.Setup.{Setup}
use Rattle.tap_world.specs.StepBackend.{back_refusal, side_of}
use Rattle.tap_world.specs.World.{table, table_at}
use Rattle.tap_answers.specs.SaysOperations.{IsPublished}
use Rattle.tap_answers.specs.SaysShared.{IsKnown, Occasion, PublishesNone}

-- ---- at the call: SEEN is that of the look before it

-- the vhost and its guest as the event finds them; the event publishes nothing
pub record FindsVhost (o : Occasion) (vhost seen : ℕ) : Type 0 where
  pub known : IsKnown o seen
  pub none : PublishesNone o
  pub v : Vhost
  pub is_vhost : at o.before.vhosts vhost ≡ Some v
  pub g : Guest
  pub is_guest : at o.before.guests v.guest ≡ Some g

-- 1: the ring isn't ready to get a backend: there is none, it has one, or its parts lie outside of the memory
pub record IsUnready (o : Occasion) (vhost ring seen : ℕ) (x : VhostText) : Type 0 where
  pub finds : FindsVhost o vhost seen
  pub reason : VhostErr
  pub refused : ready_refusal ring finds.g.memory finds.v.settings ≡ Some reason
  pub told : vhost_text reason ≡ Some x

-- 2: the ring is ready, and the table at SEEN refuses the backend
pub record IsForbidden (s : Setup) (o : Occasion) (vhost ring file seen : ℕ) (e : TapErr) : Type 0 where
  pub finds : FindsVhost o vhost seen
  pub ready : ready_refusal ring finds.g.memory finds.v.settings ≡ None
  pub refused : back_refusal (table_at s o.before seen) vhost ring (Some file) ≡ Some e

-- 3: the ring is ready, the table at SEEN doesn't refuse, and what stands in front of the file's frames, by the newest
-- table of the world before the event, isn't of the size that the vhost's settings want
pub record IsUnfit (s : Setup) (o : Occasion) (vhost ring file seen want have : ℕ) : Type 0 where
  pub finds : FindsVhost o vhost seen
  pub ready : ready_refusal ring finds.g.memory finds.v.settings ≡ None
  pub lawful : back_refusal (table_at s o.before seen) vhost ring (Some file) ≡ None
  pub front : Front
  pub shape : steer.shape_of (table s o.before) file ≡ Some front
  pub refused : fits_refusal front finds.v.settings ≡ Some (err.EHDR want have)

-- a backend is to be unset in a ring that there isn't
pub record HasNoRing (o : Occasion) (vhost ring seen : ℕ) : Type 0 where
  pub finds : FindsVhost o vhost seen
  pub none : is_ring ring ≡ false

-- or in one that has none
pub record HasNoBackend (o : Occasion) (vhost ring seen : ℕ) : Type 0 where
  pub finds : FindsVhost o vhost seen
  pub there : is_ring ring ≡ true
  pub none : (ring_at ring finds.v.settings).file ≡ None

-- ---- at the end: the version that is told is SEEN

-- the file is the ring's from this version on
pub record IsSet (o : Occasion) (vhost ring file seen version : ℕ) : Type 0 where
  pub there : is_ring ring ≡ true
  pub published : IsPublished o (op.Back file (side_of ring) (Some vhost)) seen version

-- a file, which had this vhost for its backend by the table that the actor had seen, has none from this version on
pub record IsUnset (s : Setup) (o : Occasion) (vhost ring seen version : ℕ) : Type 0 where
  pub there : is_ring ring ≡ true
  pub file : ℕ
  pub had : backer (side_of ring) (file_at (table_at s o.before o.known) file) ≡ Some vhost
  pub published : IsPublished o (op.Back file (side_of ring) None) seen version

-- by answer; a `backend` has no other
abbrev pub SetSays : Setup → Occasion → ℕ → ℕ → ℕ → ℕ → Answer → Type 0
SetSays s o vhost ring file seen (answer.Vhost (text.EHDR want have)) = IsUnfit s o vhost ring file seen want have
SetSays s o vhost ring file seen (answer.Vhost x) = IsUnready o vhost ring seen x
SetSays s o vhost ring file seen (answer.Tap e) = IsForbidden s o vhost ring file seen e
SetSays s o vhost ring file seen (answer.Version version) = IsSet o vhost ring file seen version
SetSays s o vhost ring file seen other = ⊥

abbrev pub UnsetSays : Setup → Occasion → ℕ → ℕ → ℕ → Answer → Type 0
UnsetSays s o vhost ring seen (answer.Vhost text.ENOBUFS) = HasNoRing o vhost ring seen
UnsetSays s o vhost ring seen answer.Done = HasNoBackend o vhost ring seen
UnsetSays s o vhost ring seen (answer.Version version) = IsUnset s o vhost ring seen version
UnsetSays s o vhost ring seen other = ⊥

abbrev pub BackendSays : Setup → Occasion → ℕ → ℕ → Option ℕ → ℕ → Answer → Type 0
BackendSays s o vhost ring (Some file) seen x = SetSays s o vhost ring file seen x
BackendSays s o vhost ring None seen x = UnsetSays s o vhost ring seen x
