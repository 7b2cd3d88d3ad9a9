-- This project's own: the events of rings, files and the host. Each row is what the event changes, and none where its
-- condition doesn't hold; the condition of a file's change stands with the change.
use Rattle.std.specs.Prelude.{ℕ, ◌+◌, ◌&&◌, true, false, List, [], ◌∷◌, length, Option, Some, None, is_none, is_some, slice_get, if◌then◌else◌}
use Rattle.tap_flow_key.specs.Fnv.{fnv_of}
use Rattle.tap_frame.specs.declared.name.Name.{Name}
use Rattle.tap_ledger.specs.declared.fate.Cause.{Cause}
use Rattle.tap_ledger.specs.declared.fate.Cause.TheVariants as cause
use Rattle.tap_ledger.specs.declared.fate.Fate.TheVariants as fate
use Rattle.tap_trace.specs.declared.answer.Answer.TheVariants as answer
use Rattle.tap_world.specs.declared.event.Found.TheVariants as found
use Rattle.tap_ground.specs.Options.{◌>>=◌, only_if}
use Rattle.tap_world.specs.ByNumber.{at}
use Rattle.tap_world.specs.Frames.{FrameText, Front, text_in}
use Rattle.tap_world.specs.Setup.{Setup, frame_of}
use Rattle.tap_world.specs.Line.{Entry, File, claimed, first_that, freed, front_place, in_batch, in_ring, is_full, is_gone, is_spent, last_that}
use Rattle.tap_world.specs.LineSteps.{ready_front}
use Rattle.tap_world.specs.LineSteps.Change.{Claims, Cuts, Leaves, Moves, Puts, Reopens, Shuts, Sizes}
use Rattle.tap_world.specs.World.{Doing, World, holds_writer, name_of}
use Rattle.tap_world.specs.World.Doing.{Hosts, Learns, Opened, Opens, Placed, Purges, Reads, Resizes, Routed, Shrinks, Withdrawn}
use Rattle.tap_world.specs.Effect.{Effect, Onward, on_file, only}
use Rattle.tap_world.specs.Effect.Onward.{Ends, Goes, Stays}

-- ---- a frame that is sent

-- Claim: the next place
abbrev pub claims : World → ℕ → ℕ → ℕ → Doing → Option Effect
claims w actor n seen (Routed file epoch len) = do
  f ← at w.files file
  Some (on_file file (Claims actor (name_of actor n) epoch len)
      (Goes seen (Placed file (claimed f) epoch len) (found.Place file (claimed f) epoch)) w)
claims w actor n seen doing = None

-- Ready: the frame is put, and the send is done
abbrev pub puts : World → ℕ → ℕ → Doing → Option Effect
puts w actor seen (Placed file place epoch len) =
    Some (on_file file (Puts actor place) (Ends seen (answer.Placed file place epoch len)) w)
puts w actor seen doing = None

-- the causes of a drop that hold now, with the numbers of now
abbrev pub gone_now : ℕ → File → Option Cause
gone_now want f = only_if (is_gone want f) (cause.Gone want f.epoch f.shut)

abbrev pub spent_now : ℕ → File → Option Cause
spent_now want f = only_if (is_spent f) (cause.Spent (claimed f))

abbrev pub full_now : ℕ → File → Option Cause
full_now want f = only_if (is_full f) (cause.Full (claimed f) (freed f))

-- Full, Gone and Spent: the frame is dropped under its cause
abbrev pub drops_for : (ℕ → File → Option Cause) → World → ℕ → ℕ → ℕ → Doing → Option Effect
drops_for why w actor n seen (Routed file epoch len) = do
  f ← at w.files file
  c ← why epoch f
  Some (record (only (Ends seen (answer.Dropped (Some file) c)) w) { drops = name_of actor n ∷ [] })
drops_for why w actor n seen doing = None

-- ---- control commands, which hold the writer

abbrev pub if_held : World → ℕ → Option Effect → Option Effect
if_held w actor e = if holds_writer w actor then e else None

-- Shut
abbrev pub shuts : World → ℕ → Doing → Option Effect
shuts w seen (Withdrawn file version) = do
  f ← at w.files file
  Some (on_file file Shuts (Goes seen (Purges file version) (found.Claimed (claimed f))) w)
shuts w seen doing = None

-- Reopen
abbrev pub reopens : World → ℕ → Doing → Option Effect
reopens w seen (Opens file) = do
  f ← at w.files file
  Some (on_file file Reopens (Goes seen (Opened file) (found.Epoch (f.epoch + 1))) w)
reopens w seen doing = None

-- Resize
abbrev pub resizes : World → ℕ → Doing → Option Effect
resizes w seen (Resizes file capacity) = do
  f ← at w.files file
  Some (on_file file (Sizes capacity) (Goes seen (Shrinks file (claimed f) 0) (found.Claimed (claimed f))) w)
resizes w seen doing = None

-- the name of the entry at a place of the list
abbrev pub name_at : List Entry → Option ℕ → Option Name
name_at line i = do
  k ← i
  e ← slice_get line k
  Some e.name

-- Cut
abbrev pub cuts : World → ℕ → Doing → Option Effect
cuts w seen (Shrinks file claimed_then n) = do
  f ← at w.files file
  name ← name_at f.line (last_that in_ring f.line)
  Some (on_file file Cuts (Goes seen (Shrinks file claimed_then (n + 1)) (found.Moved name)) w)
cuts w seen doing = None

-- ---- a file's consumer: a read, or a purge

-- Move: the ring's front goes to the batch
abbrev pub moves_in : World → ℕ → Option Effect
moves_in w file = do
  f ← at w.files file
  name ← name_at f.line (ready_front f.line)
  Some (on_file file Moves (Stays (found.Moved name)) w)

abbrev pub moves : World → Doing → Option Effect
moves w (Reads file room front) = moves_in w file
moves w (Purges file version) = moves_in w file
moves w doing = None

-- what a read gives of the batch's front: its name, its place, and its frame's text in the room
abbrev pub read_told : File → Front → ℕ → ℕ → ℕ → Entry → FrameText → Onward
read_told f front room seen i e x = Ends seen (answer.Read e.name (f.first + i) (text_in front x room))

-- Out: the batch's front leaves, as read or as purged
abbrev pub leaves : Setup → World → ℕ → Doing → Option Effect
leaves s w seen (Reads file room front) = do
  f ← at w.files file
  i ← first_that in_batch f.line
  e ← slice_get f.line i
  x ← frame_of s e.name e.len
  Some (on_file file (Leaves None fate.Read) (read_told f front room seen i e x) w)
leaves s w seen (Purges file version) = do
  f ← at w.files file
  name ← name_at f.line (first_that in_batch f.line)
  Some (on_file file (Leaves None (fate.Discarded cause.Purged)) (Stays (found.Moved name)) w)
leaves s w seen doing = None

-- NotReady: the batch is empty, and the front place isn't ready
abbrev pub finds_none : World → ℕ → Doing → Option Effect
finds_none w seen (Reads file room front) = do
  f ← at w.files file
  only_if (is_none (first_that in_batch f.line) && is_none (ready_front f.line))
      (only (Ends seen (answer.Again (front_place f))) w)
finds_none w seen doing = None

-- Owner, found: a read meets a worker
abbrev pub meets_worker : World → ℕ → Doing → Option Effect
meets_worker w seen (Reads file room front) = do
  f ← at w.files file
  only_if (is_some f.owner) (only (Ends seen answer.Busy) w)
meets_worker w seen doing = None

-- ---- HostIn

abbrev pub hosts : World → ℕ → ℕ → ℕ → Doing → Option Effect
hosts w actor n seen (Hosts file ether true) =
    Some (record
    (only (Goes seen (Learns file ether) (found.Moved (name_of actor n))) w) { hosts = name_of actor n ∷ [] })
hosts w actor n seen (Hosts file ether false) =
    Some (record (only (Ends seen (answer.Host (length ether) (fnv_of ether))) w) { hosts = name_of actor n ∷ [] })
hosts w actor n seen doing = None
