-- This project's own: what each answer says of the worlds before and after the event that tells it.
use Rattle.std.specs.Prelude.{◌≡◌, ℕ, ◌≤◌, slice_get, Some}
use Rattle.scen_words.specs.declared.command.Command.{Command}
use Rattle.scen_words.specs.declared.command.Command.TheVariants as command
use Rattle.tap_steer.specs.declared.operation.Op.TheVariants as op
use Rattle.tap_trace.specs.declared.answer.Answer.{Answer}
use Rattle.tap_world.specs.Setup.{Numbered, Setup, place_of}
use Rattle.tap_world.specs.declared.told.Said.{Said}
use Rattle.tap_world.specs.World.{Actor, World, current, newest}
use Rattle.tap_answers.specs.SaysBackends.{BackendSays}
use Rattle.tap_answers.specs.SaysGuests.{CallSays, PeekSays, PokeSays}
use Rattle.tap_answers.specs.SaysOperations.{OperationSays, ResizeSays}
use Rattle.tap_answers.specs.SaysReads.{ReadSays}
use Rattle.tap_answers.specs.SaysSends.{SendSays}
use Rattle.tap_answers.specs.SaysShared.{Occasion}
use Rattle.tap_answers.specs.SaysTurns.{RxTurnSays, TxTurnSays}
use Rattle.tap_answers.specs.SaysWrites.{WriteSays}

-- by command
abbrev pub SaysBy : Setup → Occasion → Command → ℕ → Answer → Type 0
SaysBy s o (command.Send device hdr bytes) seen x = SendSays s o device hdr bytes seen x
SaysBy s o (command.Read file room) seen x = ReadSays s o file room seen x
SaysBy s o (command.Write file bytes) seen x = WriteSays s o file bytes seen x
SaysBy s o (command.SetIff file device flags) seen x = OperationSays s o (op.SetIff file device flags) seen x
SaysBy s o (command.SetQueue file flags) seen x = OperationSays s o (op.SetQueue file flags) seen x
SaysBy s o (command.Close file) seen x = OperationSays s o (op.Shut file) seen x
SaysBy s o (command.Persist file on) seen x = OperationSays s o (op.Persist file on) seen x
SaysBy s o (command.HdrSize file size) seen x = OperationSays s o (op.HdrSize file size) seen x
SaysBy s o (command.Steer file program) seen x = OperationSays s o (op.Steering file (place_of s program)) seen x
SaysBy s o (command.Filter file program) seen x = OperationSays s o (op.Filter file (place_of s program)) seen x
SaysBy s o (command.Tick now) seen x = OperationSays s o (op.Tick now) seen x
SaysBy s o (command.Resize file capacity) seen x = ResizeSays s o file capacity seen x
SaysBy s o (command.Backend vhost ring file) seen x = BackendSays s o vhost ring file seen x
SaysBy s o (command.RxTurn vhost) seen x = RxTurnSays o vhost seen x
SaysBy s o (command.TxTurn vhost) seen x = TxTurnSays o vhost seen x
SaysBy s o (command.Poke guest addr bytes) seen x = PokeSays o guest addr bytes seen x
SaysBy s o (command.Peek guest addr len) seen x = PeekSays o guest addr len seen x
SaysBy s o c seen x = CallSays o c seen x

-- an answer that an event tells, of the command that its actor had come to before it
abbrev pub on_event : World → World → Actor → Said → Occasion
on_event w u a x = record {
  before = w;
  after = u;
  actor = x.line.actor;
  known = a.seen;
  doing = a.doing;
  number = x.line.command;
}

-- An answer that the event between these worlds tells is that of its actor's command under way; SEEN isn't below what
-- the actor had seen, nor above what is published by then; and the answer says what it does by its command.
pub record Says (s : Setup) (w u : World) (x : Said) : Type 0 where
  pub phase : x.phase ≡ w.phase
  pub actor : Actor
  pub is_actor : slice_get w.actors x.line.actor ≡ Some actor
  pub now : Numbered
  pub is_now : current actor.script ≡ Some now
  pub number : now.number ≡ x.line.command
  pub from : actor.seen ≤ x.line.seen
  pub to : x.line.seen ≤ newest u
  pub says : SaysBy s (on_event w u actor x) now.command x.line.seen x.line.answer
