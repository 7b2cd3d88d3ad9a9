-- This project's own: the events Look and Publish of control commands, sends, reads and writes; those of backends and
-- of turns stand with theirs. Each row is what the event changes, and none where its condition doesn't hold.
use Rattle.std.specs.Prelude.{ℕ, ◌+◌, ◌&&◌, nat_lt, Bool, true, false, if◌then◌else◌, List, [], ◌∷◌, length, Option, Some, None, is_none}
use Rattle.std.specs.Option.{option_map_or}
use Rattle.tap_flow_key.specs.Fnv.{fnv_of}
use Rattle.tap_flow_key.specs.FlowKey.{hash}
use Rattle.tap_frame.specs.declared.name.Name.{Name}
use Rattle.tap_frame.specs.declared.reading.BadFrame.{BadFrame}
use Rattle.tap_ledger.specs.declared.fate.Cause.TheVariants as cause
use Rattle.tap_ledger.specs.declared.error.TapErr.{TapErr}
use Rattle.tap_steer.specs.declared.operation.Op.{Op}
use Rattle.tap_steer.specs.declared.operation.Op.TheVariants as op
use Rattle.tap_steer.specs.declared.operation.TheConstants.{IFF_ATTACH_QUEUE}
use Rattle.tap_steer.specs.declared.selection.Select.{Select}
use Rattle.tap_steer.specs.declared.selection.Select.TheVariants as select
use Rattle.tap_steer.specs.Table.{Table, file_at, is_set}
use Rattle.tap_steer.specs.Rules.{refuse}
use Rattle.tap_steer.specs.Select as steer
use Rattle.scen_words.specs.declared.command.Command.{Command}
use Rattle.scen_words.specs.declared.command.Command.TheVariants as command
use Rattle.tap_trace.specs.declared.answer.Answer.TheVariants as answer
use Rattle.tap_ledger.specs.declared.error.TapErr.TheVariants.{EBADFD}
use Rattle.tap_world.specs.declared.event.Found.TheVariants as found
use Rattle.tap_ground.specs.Options.{◌>>=◌, only_if}
use Rattle.tap_world.specs.ByNumber.{at}
use Rattle.tap_world.specs.Frames.{Front, bad_in, ether_in, least_in, sent_bytes, sent_front}
use Rattle.tap_world.specs.Setup.{Setup, op_of}
use Rattle.tap_world.specs.Line.{File, freed}
use Rattle.tap_world.specs.World.{Actor, Doing, World, holds_writer, name_of, newest, table}
use Rattle.tap_world.specs.World.Doing.{Changes, Hosts, Learns, Opened, Opens, Reads, Resizes, Routed, Shrinks, Withdrawn, Withdraws}
use Rattle.tap_world.specs.Effect.{Effect, Onward, only}
use Rattle.tap_world.specs.Effect.Onward.{Ends, Goes}
pub use Rattle.tap_steer.specs.Table.{is_enabled}

-- ---- Look, of a control command: the writer is free

-- how a lawful control command goes on: an attach, a detach, a resize, or a change of the table alone
abbrev pub course : Table → Op → Doing
course t (op.SetIff file device flags) = Opens file
course t (op.SetQueue file flags) = if is_set flags IFF_ATTACH_QUEUE then Opens file else Withdraws file
course t (op.Shut file) = if is_enabled (file_at t file).attachment then Withdraws file else Changes
course t (op.Resize file capacity) = Resizes file capacity
course t other = Changes

-- it ends with the table's refusal, or holds the writer from now on
abbrev pub decided : World → ℕ → Doing → Option TapErr → Effect
decided w actor doing (Some refusal) = only (Ends (newest w) (answer.Tap refusal)) w
decided w actor doing None =
    record (only (Goes (newest w) doing (found.Version (newest w))) w) { writer = Some actor }

abbrev pub looks_to_change : Table → World → ℕ → Op → Option Effect
looks_to_change t w actor x = only_if (is_none w.writer) (decided w actor (course t x) (refuse t x))

-- ---- Look, of a send, a read and a write

-- an accepted frame without a row is dropped
abbrev pub routed : World → Name → Select → Effect
routed w name select.NoQueue =
    record (only (Ends (newest w) (answer.Dropped None cause.NoQueue)) w) { drops = name ∷ [] }
routed w name select.Filtered =
    record (only (Ends (newest w) (answer.Dropped None cause.Filtered)) w) { drops = name ∷ [] }
routed w name (select.Row row keep resizes capacity) =
    only (Goes (newest w) (Routed row.file row.epoch keep) (found.Version (newest w))) w

-- bytes that are no frame are bad
abbrev pub unless_bad : Option BadFrame → World → Effect → Effect
unless_bad (Some bad) w e = only (Ends (newest w) (answer.Bad bad)) w
unless_bad None w e = e

abbrev pub sends : Table → World → Name → ℕ → Front → List ℕ → Effect
sends t w name device front bytes =
    unless_bad (bad_in front bytes) w (routed w name (steer.select t device (ether_in front bytes)))

-- a file has to have a device
abbrev pub with_front : Option Front → World → (Front → Effect) → Effect
with_front None w e = only (Ends (newest w) (answer.Tap EBADFD)) w
with_front (Some front) w e = e front

-- and a read room for what stands in front of a frame
abbrev pub reads : World → ℕ → ℕ → Front → Effect
reads w file room front =
    if nat_lt room (least_in front)
    then only (Ends (newest w) (answer.Room (least_in front))) w
    else only (Goes (newest w) (Reads file room front) (found.Version (newest w))) w

abbrev pub writes : Table → World → ℕ → List ℕ → Front → Effect
writes t w file bytes front =
    unless_bad (bad_in front bytes) w
    (only (Goes (newest w) (Hosts file (ether_in front bytes) (steer.learns t file)) (found.Version (newest w))) w)

abbrev pub looks_at : Table → World → Name → Command → Option Effect
looks_at t w name (command.Send device hdr bytes) = Some (sends t w name device (sent_front hdr) (sent_bytes hdr bytes))
looks_at t w name (command.Read file room) = Some (with_front (steer.shape_of t file) w (reads w file room))
looks_at t w name (command.Write file bytes) = Some (with_front (steer.shape_of t file) w (writes t w file bytes))
looks_at t w name other = None

-- the row of Look
abbrev pub looks : Setup → World → ℕ → Actor → ℕ → Command → Option Effect
looks s w actor a n c =
    option_map_or (looks_to_change (table s w) w actor) (op_of s c) (looks_at (table s w) w (name_of actor n) c)

-- ---- Publish: the operation is lawful, and the actor holds the writer, or it is free and the operation a learning

-- the operation is published, and the command goes on or ends having seen it
abbrev pub publishes_with : World → Op → Option ℕ → (ℕ → Onward) → Effect
publishes_with w x writer o = record (only (o (newest w + 1)) w) { ops = x ∷ []; writer = writer }

-- what a resize tells: its version, the claim count at its resize, the places freed now, and its cuts
abbrev pub resize_told : World → Op → ℕ → ℕ → File → Effect
resize_told w x claimed_then cuts f =
    publishes_with w x None (λ version. Ends version (answer.Resized version claimed_then (freed f) cuts))

abbrev pub publishes_own : World → Op → Doing → Option Effect
publishes_own w x Changes = Some (publishes_with w x None (λ version. Ends version (answer.Version version)))
publishes_own w x (Opened file) = Some (publishes_with w x None (λ version. Ends version (answer.Version version)))
publishes_own w x (Withdraws file) =
    Some (publishes_with w x w.writer (λ version. Goes version (Withdrawn file version) (found.Version version)))
publishes_own w x (Shrinks file claimed_then cuts) = do
  f ← at w.files file
  Some (resize_told w x claimed_then cuts f)
publishes_own w x other = None

-- a control command publishes its own operation
abbrev pub publishes_op : Setup → World → ℕ → Doing → Command → Option Effect
publishes_op s w actor doing c = do
  x ← op_of s c
  if holds_writer w actor && is_none (refuse (table s w) x) then publishes_own w x doing else None

-- a written frame's flow is learnt, and the command ends
abbrev pub learns_flow : World → ℕ → List ℕ → Effect
learns_flow w file ether =
    publishes_with w (op.Learn file (hash ether)) w.writer
    (λ version. Ends version (answer.Host (length ether) (fnv_of ether)))

-- the row of Publish
abbrev pub publishes : Setup → World → ℕ → Doing → Command → Option Effect
publishes s w actor (Learns file ether) c = only_if (is_none w.writer) (learns_flow w file ether)
publishes s w actor doing c = publishes_op s w actor doing c
