-- This project's own, of clause g of a legal trace: the steps on a guest as one fold, from zeros, the first settings
-- and no drivers. A turn is replayed by the steps of its worker; which frames it had in hand is read off the file's
-- line.
use Rattle.std.specs.Prelude.{ℕ, zero, suc, ◌-◌, ◌==◌, ◌&&◌, if◌then◌else◌, Bool, true, false, List, [], ◌∷◌, ◌++◌, length, map, filter, replicate, Option, Some, None, is_none, fold, max, min}
use Rattle.std.specs.Option.{option_map_or}
use Rattle.guest_mem.specs.Memory.{Contents, first_bad}
use Rattle.tap_frame.specs.declared.name.Name.{Name}
use Rattle.tap_frame.specs.Frame.{FrameValue}
use Rattle.tap_ledger.specs.declared.hand.Hand.{Hand}
use Rattle.tap_ledger.specs.declared.hand.Hand.TheVariants as hand
use Rattle.vhost_dev.specs.Calls.{with_backend, without_backend}
use Rattle.vhost_dev.specs.Refusals.{ready_refusal}
use Rattle.vhost_dev.specs.Settings.{ring_at}
use Rattle.vring_turns.specs.RxTurn.{RxTurn, quota}
use Rattle.vring_turns.specs.TxTurn.{TxTurn}
use Rattle.tap_steer.specs.Table.{Table}
use Rattle.tap_steer.specs.Select.{shape_of}
use Rattle.scen_words.specs.declared.command.Command.{Command}
use Rattle.scen_words.specs.declared.command.Command.TheVariants as command
use Rattle.tap_trace.specs.declared.answer.Answer.{Answer}
use Rattle.tap_trace.specs.declared.answer.Answer.TheVariants as answer
use Rattle.tap_trace.specs.declared.kind.Kind.{Kind}
use Rattle.tap_trace.specs.declared.kind.Kind.TheVariants as kind
use Rattle.tap_trace.specs.declared.turn.ChainText.{ChainText}
use Rattle.tap_trace.specs.declared.turn.TurnText.TheVariants as text
use Rattle.tap_ground.specs.Options.{◌>>=◌, only_if}
use Rattle.tap_world.specs.ByNumber.{at, with_at}
use Rattle.tap_world.specs.Guests.{Vhost, is_ring, turn_of}
use Rattle.tap_world.specs.Setup.{kept_frame}
use Rattle.tap_world.specs.World.{name_of}
use Rattle.tap_world.specs.StepBackend.{back_answer, back_refusal, unfit_for}
use Rattle.tap_world.specs.StepControl.{Call, call_of, may_call, peeked, poke_leaves, poke_told, driven_vhost}
use Rattle.tap_legal.specs.Numbered.{AnswerAt, EntryAt, OpAt, StepAt}
use Rattle.tap_legal.specs.Served.{served_by}
use Rattle.tap_legal.specs.Codes.{same_answer, same_kind}
use Rattle.tap_legal.specs.Case.{Case}
use Rattle.tap_legal.specs.Lookups.{answer_of, entry_named, is_sent, own_ops, table_at}

-- ---- the state of a replay

-- a turn under way on a ring of a vhost, of a command
pub data Turning : Type 0 where
  Receiving : RxTurn → Turning
  Sending : TxTurn → List ChainText → Turning

pub record Under : Type 0 where
  pub vhost : ℕ
  pub command : ℕ
  pub turning : Turning

-- a frame that a transmit turn accepted: the turn's command, and the hash of the frame's flow
pub record Accepted : Type 0 where
  pub command : ℕ
  pub flow : ℕ

-- a packet of a receive turn: the turn's command, and the frame that was copied, or an overrun with the header's size,
-- the chains that it might have, and the bytes that they held
pub record Packet : Type 0 where
  pub command : ℕ
  pub name : Option Name
  pub header : ℕ
  pub quota : ℕ
  pub had : ℕ

-- a turn that found a backend: its command, the size of the vhost's header, and the file that the ring has
pub record Began : Type 0 where
  pub command : ℕ
  pub header : ℕ
  pub file : Option ℕ

-- a backend that was taken off its ring: the command, and the file that the ring had
pub record Unset : Type 0 where
  pub command : ℕ
  pub file : Option ℕ

-- a replay, as far as it has come
pub record Replay : Type 0 where
  -- the guest's memory, and its vhosts by number
  pub memory : Contents
  pub vhosts : List (Option Vhost)
  -- the turns that have begun and aren't over
  pub under : List Under
  -- what turns and unsets did so far
  pub packets : List Packet
  pub accepted : List Accepted
  pub turns : List Began
  pub unsets : List Unset
  -- the commands that are done, and the lines that fail
  pub finished : List ℕ
  pub fails : List ℕ
  -- a step couldn't be: from there on nothing is replayed
  pub broken : Bool

-- the line fails, and the replay ends there
abbrev pub broken_at : ℕ → Replay → Replay
broken_at line r = record r { fails = r.fails ++ line ∷ []; broken = true }

-- how much a frame needed for which there were too few chains isn't seen in the turn's steps, so the answer's own
-- number stands for it; it is looked at by itself
abbrev pub with_need_of : Answer → Answer → Answer
with_need_of (answer.Turn p b (text.Short need had) cs) (answer.Turn packets bytes (text.Short n h) chains) =
    answer.Turn packets bytes (text.Short need h) chains
with_need_of told x = x

-- a command is done, and its steps give it this answer
abbrev pub done_with : Case → ℕ → Answer → Replay → Replay
done_with c command x r =
    let wrong : List ℕ = option_map_or
    (λ (a : AnswerAt). if same_answer a.answer (with_need_of a.answer x) then [] else a.line ∷ [])
    (answer_of c command) [] in
    record r { finished = command ∷ r.finished; fails = r.fails ++ wrong }

-- the step is the wanted one, or the replay ends there
abbrev pub if_step : StepAt → Option Kind → Replay → Replay → Replay
if_step s wanted old new =
    if option_map_or (same_kind s.at.kind) wanted false then new else broken_at s.line old

-- ---- single calls

abbrev pub called_as : Case → StepAt → ℕ → Replay → Call → Replay
called_as c s vhost r x =
    if_step s x.step r
    (done_with c s.at.command x.answer (record r { memory = x.memory; vhosts = with_at vhost x.vhost r.vhosts }))

abbrev pub vhost_named : Command → Option ℕ
vhost_named (command.Backend vhost ring file) = Some vhost
vhost_named (command.RxTurn vhost) = Some vhost
vhost_named (command.TxTurn vhost) = Some vhost
vhost_named other = driven_vhost other

-- a control call meets no turn on its ring; here turns are held by their commands
abbrev pub replay_call : Case → StepAt → Command → Replay → Option Replay
replay_call c s k r = do
  vhost ← vhost_named k
  v ← at r.vhosts vhost
  x ← call_of k v r.memory
  if may_call s.at.command k v then Some (called_as c s vhost r x) else None

-- a poke or a peek of this guest
abbrev pub poked_at : Case → StepAt → ℕ → List ℕ → Replay → Replay
poked_at c s addr bytes r =
    let bad : Option ℕ = first_bad r.memory.regions addr (length bytes) in
    if_step s (Some kind.Poke) r
    (done_with c s.at.command (poke_told bad) (record r { memory = poke_leaves r.memory addr bytes bad }))

abbrev pub peeked_at : Case → StepAt → ℕ → ℕ → Replay → Replay
peeked_at c s addr len r =
    if_step s (Some kind.Peek) r
    (done_with c s.at.command (peeked addr len r.memory (first_bad r.memory.regions addr len)) r)

abbrev pub replay_bytes : Case → StepAt → Command → Replay → Option Replay
replay_bytes c s (command.Poke guest addr bytes) r = only_if (guest == s.guest) (poked_at c s addr bytes r)
replay_bytes c s (command.Peek guest addr len) r = only_if (guest == s.guest) (peeked_at c s addr len r)
replay_bytes c s other r = None

-- ---- a backend

-- the version of the table that a backend is judged by: SEEN, or the one before the operation that it published
abbrev pub version_for : AnswerAt → List OpAt → ℕ
version_for a [] = a.seen
version_for a (o ∷ os) = o.at.version - 1

-- the answer of one that neither sets nor unsets anything: a ring that has none, or the first refusal; no step is left
-- where that has no words
abbrev pub back_wanted : ℕ → ℕ → Option ℕ → Vhost → Contents → Table → Option (Option Answer)
back_wanted vhost ring None v m t = Some (if is_none (ring_at ring v.settings).file then Some answer.Done else None)
back_wanted vhost ring (Some file) v m t =
    back_answer (ready_refusal ring m v.settings) (back_refusal t vhost ring (Some file))
    (unfit_for (shape_of t file) v.settings)

abbrev pub unset_of : ℕ → ℕ → Option ℕ → Vhost → List Unset
unset_of command ring None v = record { command = command; file = (ring_at ring v.settings).file } ∷ []
unset_of command ring (Some file) v = []

abbrev pub back_made : ℕ → Option ℕ → Contents → Vhost → Vhost
back_made ring None m v = record v { settings = without_backend ring v.settings }
back_made ring (Some file) m v = record v { settings = with_backend ring file m v.settings }

-- B is 1 exactly where the answer is `ok VERSION`; the answer is looked at also where B is wrong
abbrev pub backed_as : Case → StepAt → ℕ → ℕ → Option ℕ → Vhost → Option Answer → Replay → Replay
backed_as c s vhost ring file v (Some x) r =
    let told : Replay = done_with c s.at.command x r in if_step s (Some (kind.Backend vhost ring false)) told told
backed_as c s vhost ring file v None r =
    let told : Replay = done_with c s.at.command (answer.Version 0) r in
    if_step s (Some (kind.Backend vhost ring true)) told (record told {
      vhosts = with_at vhost (back_made ring file r.memory v) r.vhosts;
      unsets = r.unsets ++ unset_of s.at.command ring file v;
    })

abbrev pub replay_back : Case → StepAt → Command → Replay → Option Replay
replay_back c s (command.Backend vhost ring file) r = do
  v ← at r.vhosts vhost
  a ← answer_of c s.at.command
  wanted ← back_wanted vhost ring file v r.memory (table_at c (version_for a (own_ops c s.at.command)))
  only_if (is_ring ring && is_none (turn_of ring v)) (backed_as c s vhost ring file v wanted r)
replay_back c s other r = None

-- ---- what a receive turn had in hand, read off the steps that come

-- the frame of this name is copied; a frame isn't copied, since it is put back or overruns its chains; or none is ready
pub data Coming : Type 0 where
  Copies : Name → Coming
  CopiesNone : Coming
  NoFrame : Coming

-- with so many more chains that it may gather; the `notices` of a second fetch stand between it and the copy
abbrev pub coming : ℕ → List Kind → Coming
coming left [] = CopiesNone
coming left (kind.Copy v ring position (Some name) ∷ ks) = Copies name
coming zero (kind.Notices v ring on ∷ ks) = coming zero ks
coming zero (k ∷ ks) = CopiesNone
coming (suc left) (kind.Fetch v ring position head ∷ ks) = coming left ks
coming (suc left) (kind.None v ring ∷ ks) = coming (suc left) ks
coming (suc left) (kind.Notices v ring on ∷ ks) = coming (suc left) ks
coming (suc left) (k ∷ ks) = CopiesNone

-- a frame in hand has a fetch next
abbrev pub is_fetch : Kind → Bool
is_fetch (kind.Fetch v ring position head) = true
is_fetch (kind.None v ring) = true
is_fetch (kind.Crowded v ring) = true
is_fetch (kind.Halt v ring fault) = true
is_fetch other = false

abbrev pub coming_first : ℕ → List Kind → Coming
coming_first left [] = NoFrame
coming_first left (k ∷ ks) = if is_fetch k then coming left (k ∷ ks) else NoFrame

-- the frame of a name, as it was placed, where it is that of a frame that was sent and accepted
abbrev pub frame_named : Case → Name → Option FrameValue
frame_named c name = do
  e ← entry_named c name
  if is_sent c name then kept_frame c.setup name e.at.len else None

-- a frame of zeros under a name, with so many bytes, as far as a frame may have them
abbrev pub frame_of_length : Name → ℕ → FrameValue
frame_of_length name len =
    record { name = name; hdr = replicate 10 0; made = replicate (min len 65535) 0; mark = min len 65535 }

-- the lengths of the frames on the file that the turn serves
abbrev pub lengths_for : Case → ℕ → List ℕ
lengths_for c command =
    option_map_or
    (λ file. map (λ (e : EntryAt). e.at.len) (filter (λ (e : EntryAt). e.file == file) c.entries))
    (served_by c command) []

-- Which frame it was that isn't copied is told by no step. Chains that are too short for it are too short for the
-- longest frame of the file, so one of this length stands for it.
abbrev pub uncopied : List ℕ → Hand
uncopied [] = hand.NotReady 0
uncopied (len ∷ lens) = hand.Got (frame_of_length (name_of 0 0) (fold max len lens))

abbrev pub other_name : Name → Name
other_name name = record name { part = if name.part == 0 then 1 else 0 }

-- A name of no frame that was sent and placed has none in hand: the longest frame stands for it, under another name, so
-- the step that copies the printed name can't be.
abbrev pub hand_of : Case → ℕ → Coming → Hand
hand_of c command (Copies name) =
    hand.Got (option_map_or (λ f. f) (frame_named c name) (frame_of_length (other_name name) 65535))
hand_of c command CopiesNone = uncopied (lengths_for c command)
hand_of c command NoFrame = hand.NotReady 0

-- the kinds of the command's steps to come
abbrev pub ahead : ℕ → List StepAt → List Kind
ahead command ss = map (λ (s : StepAt). s.at.kind) (filter (λ (s : StepAt). s.at.command == command) ss)

abbrev pub hand_for : Case → Under → RxTurn → List StepAt → Hand
hand_for c u t ss = hand_of c u.command (coming_first (quota t.mergeable) (ahead u.command ss))
