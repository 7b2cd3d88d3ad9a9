-- This project's own: what the answer of a command on the queue table says of the worlds before and after its event.
use Rattle.std.specs.Prelude.{◌≡◌, ℕ, false, Some}
use Rattle.tap_ledger.specs.declared.error.TapErr.{TapErr}
use Rattle.tap_steer.specs.declared.operation.Op.{Op}
use Rattle.tap_steer.specs.declared.operation.Op.TheVariants as op
use Rattle.tap_steer.specs.Rules.{refuse}
use Rattle.tap_trace.specs.declared.answer.Answer.{Answer}
use Rattle.tap_trace.specs.declared.answer.Answer.TheVariants as answer
use Rattle.tap_world.specs.Line.{freed, is_over}
use Rattle.tap_world.specs.Setup.{Setup}
use Rattle.tap_world.specs.Steady.{IsShrinking}
use Rattle.tap_world.specs.World.{table_at}
use Rattle.tap_answers.specs.SaysShared.{IsNewest, IsVersion, Occasion, PublishesNone}

-- the table at SEEN, which is the newest version of the world before the event, refuses the operation
pub record IsUnlawful (s : Setup) (o : Occasion) (x : Op) (seen : ℕ) (e : TapErr) : Type 0 where
  pub looked : IsNewest o seen
  pub refused : refuse (table_at s o.before seen) x ≡ Some e
  pub none : PublishesNone o

-- The operation is published as the version that is told, and which is SEEN: at the event, or, of a detach, before its
-- gate was shut.
pub record IsPublished (o : Occasion) (x : Op) (seen version : ℕ) : Type 0 where
  pub is_seen : seen ≡ version
  pub operation : IsVersion o x version

-- A resize tells the claim count at its change of the ring, the places that are free as it is published, and its cuts.
-- No more wait then than the ring has places.
pub record IsResized (s : Setup) (o : Occasion) (file capacity seen version places free cuts : ℕ) : Type 0 where
  pub published : IsPublished o (op.Resize file capacity) seen version
  pub shrinks : IsShrinking s o.before o.actor file places cuts capacity
  pub is_free : free ≡ freed shrinks.f
  pub fits : is_over shrinks.f ≡ false

-- by answer: a refusal, or the version; a resize alone tells numbers with it
abbrev pub ResizeSays : Setup → Occasion → ℕ → ℕ → ℕ → Answer → Type 0
ResizeSays s o file capacity seen (answer.Tap e) = IsUnlawful s o (op.Resize file capacity) seen e
ResizeSays s o file capacity seen (answer.Resized version places free cuts) =
    IsResized s o file capacity seen version places free cuts
ResizeSays s o file capacity seen other = ⊥

abbrev pub OperationSays : Setup → Occasion → Op → ℕ → Answer → Type 0
OperationSays s o x seen (answer.Tap e) = IsUnlawful s o x seen e
OperationSays s o x seen (answer.Version version) = IsPublished o x seen version
OperationSays s o x seen other = ⊥
