-- This project's own: what else holds in every world that a run of a laid scenario can reach, beside what is sound, in
-- eleven parts. With both, the next event of each actor that needn't wait is allowed, and what an answer tells was so.
use Rattle.std.specs.Prelude.{◌≡◌, ◌≢◌, ◌⊎◌, Bool, ℕ, suc, ◌+◌, ◌<◌, ◌≤◌, true, false, List, [], ◌++◌, length, map, slice_get, Option, Some, None, IfSome, IsSome, option_map}
use Rattle.std.specs.List.{AllByRecursion, list_any}
use Rattle.tap_frame.specs.declared.header.Hdr.{Hdr}
use Rattle.tap_frame.specs.declared.name.Name.{Name}
use Rattle.tap_ledger.specs.declared.side.Side.{Side}
use Rattle.tap_ledger.specs.declared.side.Side.TheVariants.{Rx, Tx}
use Rattle.tap_queues.specs.declared.queues.Row.{Row as QueueRow}
use Rattle.tap_steer.specs.declared.operation.Op.{Op}
use Rattle.tap_steer.specs.declared.operation.Op.TheVariants as op
use Rattle.tap_steer.specs.declared.selection.Select.TheVariants.{Row}
use Rattle.tap_steer.specs.Table.{Table, device_of, file_at}
use Rattle.tap_steer.specs.Rules.{backer, refuse}
use Rattle.tap_steer.specs.Select as steer
use Rattle.vhost_dev.specs.Settings.{hdr_of}
use Rattle.vring_turns.specs.Ring.{done_in}
use Rattle.vring_turns.specs.Stage.{has_in_hand, is_giving, need_at, rx_is_over, tx_is_over}
use Rattle.vring_turns.specs.Ready.{RxReady, TxReady}
use Rattle.vring_turns.specs.declared.stage.After.TheVariants as after
use Rattle.vring_turns.specs.declared.stage.RxStage.{RxStage}
use Rattle.vring_turns.specs.declared.stage.RxStage.TheVariants as rx
use Rattle.vring_turns.specs.RxTurn.{RxTurn}
use Rattle.vring_turns.specs.TxTurn.{TxTurn}
use Rattle.scen_words.specs.declared.command.Command.{Command}
use Rattle.scen_words.specs.declared.command.Command.TheVariants as command
use Rattle.scen_text.specs.declared.scenario.Line.{Line}
use Rattle.scen_text.specs.declared.scenario.Phase.{Phase}
use Rattle.tap_trace.specs.declared.trace.AnswerLine.{AnswerLine}
use Rattle.tap_world.specs.declared.line.Standing.TheVariants.{Claimed, Cut}
use Rattle.tap_ground.specs.Options.{only_if}
use Rattle.tap_world.specs.ByNumber.{at}
use Rattle.tap_world.specs.Frames.{Front, bad_in, ether_in, least_in, sent_bytes, sent_front}
use Rattle.tap_world.specs.Setup.{Declared, NamesDeclared, Numbered, Setup, line_of, op_of, script_in}
use Rattle.tap_world.specs.Effect.{ending}
use Rattle.tap_world.specs.Line.{Entry, File, claimed, freed, is_over}
use Rattle.tap_world.specs.LineSteps.{is_in_hand_of}
use Rattle.tap_world.specs.Guests.{Guest, Vhost, is_ring}
use Rattle.tap_world.specs.World.{Actor, Doing, Published, Said, World, current, name_of, newest, table, table_at}
use Rattle.tap_world.specs.World.Doing.{Backed, Backs, Begun, Changes, Disowned, Given, Hosts, Learns, Opened, Opens, Owns, Placed, Purges, Reads, Receives, Released, Resizes, Routed, Shrinks, Teaches, Transmits, Unbacked, Withdrawn, Withdraws}
use Rattle.tap_world.specs.StepBackend.{back_refusal, side_of}
use Rattle.tap_world.specs.StepTurns.{front_frame}
use Rattle.tap_world.specs.Project.{answers_of}
use Rattle.tap_world.specs.SoundTable.{commanded, writing}
use Rattle.tap_world.specs.Each.{EachActor, EachFile}
use Rattle.tap_world.specs.Sound.{holds, table_capacity}

-- ---- 1: what is there

-- The files, guests and vhosts of a world are the declared ones: a file has its first place, a guest its regions, and a
-- vhost its guest for good.
pub record IsThere (s : Setup) (w : World) : Type 0 where
  pub files :
      map (λ (f : Option File). option_map (λ (x : File). x.first) f) w.files
      ≡ map (λ (d : Option Declared). option_map (λ (x : Declared). x.first) d) s.files
  pub guests : map (λ (g : Option Guest). option_map (λ (x : Guest). x.memory.regions) g) w.guests ≡ s.guests
  pub vhosts : map (λ (v : Option Vhost). option_map (λ (x : Vhost). x.guest) v) w.vhosts ≡ s.vhosts

-- ---- 2: what is named

-- the file that a command under way is about
abbrev pub file_in : Doing → Option ℕ
file_in Begun = None
file_in Changes = None
file_in (Opens file) = Some file
file_in (Opened file) = Some file
file_in (Withdraws file) = Some file
file_in (Withdrawn file version) = Some file
file_in (Purges file version) = Some file
file_in (Resizes file capacity) = Some file
file_in (Shrinks file places cuts) = Some file
file_in (Routed file epoch len) = Some file
file_in (Placed file place epoch len) = Some file
file_in (Reads file room front) = Some file
file_in (Hosts file ether learns) = Some file
file_in (Learns file ether) = Some file
file_in (Backs refusal) = None
file_in (Backed file) = Some file
file_in (Owns file version) = Some file
file_in (Unbacked file) = Some file
file_in (Disowned file) = Some file
file_in (Released file) = Some file
file_in (Receives file t) = Some file
file_in (Transmits file t chains) = Some file
file_in (Given file t chains frame) = Some file
file_in (Teaches file t chains frame) = Some file

-- What the commands that haven't ended name is declared, and so is each file that the table has attached, each file and
-- vhost that it has as file and backend, and each file that a command under way is about.
pub record NamesWhatIsThere (s : Setup) (w : World) : Type 0 where
  pub commands : EachActor w (λ actor a. AllByRecursion (λ (c : Numbered). NamesDeclared s c.command) a.script)
  pub attached : (file device : ℕ) → device_of (table s w) file ≡ Some device → IsSome (at s.files file)
  pub backed : (side : Side) (file vhost : ℕ) → backer side (file_at (table s w) file) ≡ Some vhost
      → IsSome (at s.files file) × IsSome (at s.vhosts vhost)
  pub doing : EachActor w (λ actor a. IfSome (file_in a.doing) (λ file. IsSome (at s.files file)))

-- ---- 3: places

-- a file's entry at a place is claimed by this actor, under a name and an epoch and for so many bytes
pub record IsClaimed (w : World) (actor file place epoch len : ℕ) (name : Name) : Type 0 where
  pub f : File
  pub is_there : at w.files file ≡ Some f
  pub index : ℕ
  pub is_place : place ≡ f.first + index
  pub entry : slice_get f.line index ≡ Some (record { name = name; epoch = epoch; len = len; stands = Claimed actor })

-- An actor that has a place has the entry there, which it claimed under its command's name.
abbrev pub HasItsPlace : World → ℕ → Actor → Type 0
HasItsPlace w actor a =
    (c : Numbered) (file place epoch len : ℕ) → current a.script ≡ Some c → a.doing ≡ Placed file place epoch len
    → IsClaimed w actor file place epoch len (name_of actor c.number)

-- ---- 4: what is to be published

-- a backend's operation, where it sets one in a ring that there is; to unset one has no rules
abbrev pub backs_by : Command → Option Op
backs_by (command.Backend vhost ring (Some file)) = only_if (is_ring ring) (op.Back file (side_of ring) (Some vhost))
backs_by other = None

-- the operation that a command which holds the writer is to publish, where it has rules
abbrev pub to_publish : Setup → Doing → Command → Option Op
to_publish s Changes c = op_of s c
to_publish s (Opens file) c = op_of s c
to_publish s (Opened file) c = op_of s c
to_publish s (Withdraws file) c = op_of s c
to_publish s (Resizes file capacity) c = op_of s c
to_publish s (Shrinks file places cuts) c = op_of s c
to_publish s (Backs None) c = backs_by c
to_publish s (Backed file) c = backs_by c
to_publish s (Backs (Some refusal)) c = None
to_publish s Begun c = None
to_publish s (Withdrawn file version) c = None
to_publish s (Purges file version) c = None
to_publish s (Routed file epoch len) c = None
to_publish s (Placed file place epoch len) c = None
to_publish s (Reads file room front) c = None
to_publish s (Hosts file ether learns) c = None
to_publish s (Learns file ether) c = None
to_publish s (Owns file version) c = None
to_publish s (Unbacked file) c = None
to_publish s (Disowned file) c = None
to_publish s (Released file) c = None
to_publish s (Receives file t) c = None
to_publish s (Transmits file t chains) c = None
to_publish s (Given file t chains frame) c = None
to_publish s (Teaches file t chains frame) c = None

-- The table doesn't refuse what the command that holds the writer is to publish.
abbrev pub IsStillLawful : Setup → World → Type 0
IsStillLawful s w =
    (c : Command) (x : Op) → commanded w ≡ Some c → to_publish s (writing w) c ≡ Some x → refuse (table s w) x ≡ None

-- ---- 5: turns

-- the bytes of the chains that were too few for a frame which is discarded next
abbrev pub had_at : RxStage → Option ℕ
had_at rx.Begin = None
had_at rx.Hand = None
had_at rx.Fetch = None
had_at rx.NoticesOn = None
had_at rx.FetchAgain = None
had_at (rx.NoticesOff after.Fetch) = None
had_at (rx.NoticesOff after.Copy) = None
had_at (rx.NoticesOff (after.Discard had)) = Some had
had_at (rx.NoticesOff (after.PutBack end)) = None
had_at rx.Copy = None
had_at rx.Out = None
had_at (rx.Discard had) = Some had
had_at (rx.PutBack end) = None
had_at (rx.Publish end) = None
had_at (rx.Ended end) = None

-- A receive turn on a file has more to do. Its ring has the file as its backend, whose worker owns the file; its
-- vhost's settings are those that it began with; it is ready for its next step; it has a frame in hand exactly where its
-- stage says so: the front of the file's batch; and a frame that is discarded needs more than its chains had.
pub record IsReceiving (s : Setup) (w : World) (vhost file : ℕ) (t : RxTurn) : Type 0 where
  pub v : Vhost
  pub f : File
  pub is_vhost : at w.vhosts vhost ≡ Some v
  pub is_file : at w.files file ≡ Some f
  pub goes_on : rx_is_over t.stage ≡ false
  pub backend : v.settings.rx.file ≡ Some file
  pub owner : f.owner ≡ Some vhost
  pub mergeable : t.mergeable ≡ v.settings.mrg
  pub header : t.header ≡ hdr_of v.settings
  pub ready : RxReady t v.settings.rx.queue
  pub in_hand : is_in_hand_of vhost f ≡ has_in_hand t.stage
  pub front : has_in_hand t.stage ≡ true → front_frame s f ≡ t.held
  pub overruns : IfSome (had_at t.stage) (λ had. had < need_at t.header t.held)

-- A transmit turn on a file, whose frames have the names from this one on, has more to do. Its ring has the file as its
-- backend; its vhost's header is that which it began with; it is ready for its next step; and the chain whose frame it
-- is to give is done, and not published yet.
pub record IsSending (w : World) (vhost file : ℕ) (t : TxTurn) (first : Name) : Type 0 where
  pub v : Vhost
  pub is_vhost : at w.vhosts vhost ≡ Some v
  pub goes_on : tx_is_over t.stage ≡ false
  pub backend : v.settings.tx.file ≡ Some file
  pub header : t.header ≡ hdr_of v.settings
  pub names : t.first ≡ first
  pub ready : TxReady t v.settings.tx.queue
  pub done : is_giving t.stage ≡ true → 0 < done_in v.settings.tx.queue

-- a turn under way, as far as its command has come; what the host has isn't to be given any more
abbrev pub IsAtTurn : Setup → World → Name → Command → Doing → Type 0
IsAtTurn s w first (command.RxTurn vhost) (Receives file t) = IsReceiving s w vhost file t
IsAtTurn s w first (command.TxTurn vhost) (Transmits file t chains) = IsSending w vhost file t first
IsAtTurn s w first (command.TxTurn vhost) (Given file t chains frame) =
    IsSending w vhost file t first × (is_giving t.stage ≡ false)
IsAtTurn s w first (command.TxTurn vhost) (Teaches file t chains frame) =
    IsSending w vhost file t first × (is_giving t.stage ≡ false)
IsAtTurn s w first c doing = Unit {0}

-- Each turn under way is so.
abbrev pub HasItsTurn : Setup → World → ℕ → Actor → Type 0
HasItsTurn s w actor a =
    (c : Numbered) → current a.script ≡ Some c → IsAtTurn s w (name_of actor c.number) c.command a.doing

-- ---- 6: what was sent

-- An entry is the frame of a send, under its name; its bytes were accepted, and it keeps no more than they are.
pub record WasSent (s : Setup) (e : Entry) : Type 0 where
  pub line : Line
  pub device : ℕ
  pub hdr : Option Hdr
  pub bytes : List ℕ
  pub is_line : line_of s e.name.turn ≡ Some line
  pub name : e.name ≡ name_of line.actor line.number
  pub command : line.command ≡ command.Send device hdr bytes
  pub accepted : bad_in (sent_front hdr) (sent_bytes hdr bytes) ≡ None
  pub kept : e.len ≤ length (ether_in (sent_front hdr) (sent_bytes hdr bytes))

-- ---- 7: what a command found

-- a frame has a row, of a file under an epoch, and so many of its bytes are kept
pub record IsRouted (t : Table) (device : ℕ) (hdr : Option Hdr) (bytes : List ℕ) (file epoch keep : ℕ) : Type 0 where
  pub row : QueueRow
  pub resizes : ℕ
  pub capacity : ℕ
  pub accepted : bad_in (sent_front hdr) (sent_bytes hdr bytes) ≡ None
  pub selected :
      steer.select t device (ether_in (sent_front hdr) (sent_bytes hdr bytes)) ≡ Row row keep resizes capacity
  pub is_file : row.file ≡ file
  pub is_epoch : row.epoch ≡ epoch

-- bytes that are written to a file are accepted in front of these Ethernet bytes
pub record IsWritten (t : Table) (file : ℕ) (bytes ether : List ℕ) : Type 0 where
  pub front : Front
  pub shape : steer.shape_of t file ≡ Some front
  pub accepted : bad_in front bytes ≡ None
  pub behind : ether ≡ ether_in front bytes

-- what a command found by its look, in the table that it looked at; and the file that an unset took off its ring
abbrev pub FoundIn : Table → Command → Doing → Type 0
FoundIn t (command.Send device hdr bytes) (Routed file epoch len) = IsRouted t device hdr bytes file epoch len
FoundIn t (command.Send device hdr bytes) (Placed file place epoch len) = IsRouted t device hdr bytes file epoch len
FoundIn t (command.Read other asked) (Reads file room front) =
    (room ≡ asked) × (steer.shape_of t file ≡ Some front) × (least_in front ≤ room)
FoundIn t (command.Write other bytes) (Hosts file ether learns) =
    IsWritten t file bytes ether × (steer.learns t file ≡ learns)
FoundIn t (command.Write other bytes) (Learns file ether) =
    IsWritten t file bytes ether × (steer.learns t file ≡ true)
FoundIn t (command.Backend vhost ring file) (Backs refusal) = back_refusal t vhost ring file ≡ refusal
FoundIn t (command.Backend vhost ring None) (Unbacked file) = backer Rx (file_at t file) ≡ Some vhost
FoundIn t (command.Backend vhost ring None) (Disowned file) = backer Rx (file_at t file) ≡ Some vhost
FoundIn t (command.Backend vhost ring None) (Released file) = backer Tx (file_at t file) ≡ Some vhost
FoundIn t (command.TxTurn vhost) (Teaches file turn chains frame) = steer.learns t file ≡ true
FoundIn t c doing = Unit {0}

-- the version that a command has published
abbrev pub version_in : Doing → Option ℕ
version_in (Withdrawn file version) = Some version
version_in (Purges file version) = Some version
version_in (Owns file version) = Some version
version_in doing = None

-- a command learns flows, and this operation is one that it learnt
abbrev pub IsLearntBy : Command → Op → Type 0
IsLearntBy (command.TxTurn vhost) (op.Learn file flow) = Unit {0}
IsLearntBy c x = ⊥

-- an operation of the command under way made a version that its actor has seen: the one that it says, or a learning
pub record IsOwn (a : Actor) (c : Numbered) (version : ℕ) (p : Published) : Type 0 where
  pub seen : version ≤ a.seen
  pub known : (version_in a.doing ≡ Some version) ⊎ IsLearntBy c.command p.op

-- What a command found is so at the version that its actor has seen. While it holds the writer, that is the newest one,
-- and the one that it has published, if it has published one. It has published no other operation but learnings.
pub record HasFound (s : Setup) (w : World) (a : Actor) : Type 0 where
  pub found : (c : Numbered) → current a.script ≡ Some c → FoundIn (table_at s w a.seen) c.command a.doing
  pub newest : holds a.doing ≡ true → a.seen ≡ newest w
  pub published : IfSome (version_in a.doing) (λ version. version ≡ a.seen)
  pub its : (c : Numbered) (version : ℕ) → current a.script ≡ Some c → version_in a.doing ≡ Some version
      → (i : ℕ) × (p : Published) × (version ≡ suc i) × (slice_get w.ops i ≡ Some p) × (p.command ≡ c.number)
  pub own : (c : Numbered) (i : ℕ) (p : Published) → current a.script ≡ Some c → slice_get w.ops i ≡ Some p
      → p.command ≡ c.number → IsOwn a c (suc i) p

-- ---- 8: what was told

-- the numbers of the commands that an actor has answered in a phase, in the order of its answers
abbrev pub answered : World → ℕ → ℕ → List ℕ
answered w phase actor = map (λ (x : AnswerLine). x.command) (answers_of phase actor w.said)

abbrev pub numbers : List Numbered → List ℕ
numbers cs = map (λ (c : Numbered). c.number) cs

-- a script's commands are these, which were answered, and then those that haven't ended
abbrev pub IsAnsweredTo : World → ℕ → Actor → List Numbered → Type 0
IsAnsweredTo w actor a script =
    (done : List Numbered) × (script ≡ done ++ a.script) × (numbers done ≡ answered w w.phase actor)

-- An actor's commands are answered one after another, each once; those of earlier phases all; and nobody else's.
pub record IsTold (s : Setup) (w : World) : Type 0 where
  pub order : EachActor w
      (λ actor a. (p : Phase) × (slice_get s.phases w.phase ≡ Some p) × IsAnsweredTo w actor a (script_in p actor))
  pub none : (actor : ℕ) → length w.actors ≤ actor → answered w w.phase actor ≡ []
  pub earlier : (phase actor : ℕ) (p : Phase) → phase < w.phase → slice_get s.phases phase ≡ Some p
      → numbers (script_in p actor) ≡ answered w phase actor
  pub latest : AllByRecursion (λ (x : Said). x.phase ≤ w.phase) w.said

-- ---- 9: operations

-- the operation is that of a command: a learning of a written frame, or of a transmit turn's; a backend's; or its own
abbrev pub IsOpOf : Setup → Command → Op → Type 0
IsOpOf s (command.Write file bytes) x = (flow : ℕ) × (x ≡ op.Learn file flow)
IsOpOf s (command.TxTurn vhost) x = (file flow : ℕ) × (x ≡ op.Learn file flow)
IsOpOf s (command.Backend vhost ring (Some file)) x =
    (is_ring ring ≡ true) × (x ≡ op.Back file (side_of ring) (Some vhost))
IsOpOf s (command.Backend vhost ring None) x =
    (is_ring ring ≡ true) × (file : ℕ) × (x ≡ op.Back file (side_of ring) None)
IsOpOf s c x = op_of s c ≡ Some x

-- An operation is that of a command of its phase, which is a command of its actor; in the phase of now that command has
-- ended, or is the present one.
pub record IsPublished (s : Setup) (w : World) (p : Published) : Type 0 where
  pub phase : Phase
  pub is_phase : slice_get s.phases p.phase ≡ Some phase
  pub index : ℕ
  pub command : Numbered
  pub is_command : slice_get (script_in phase p.actor) index ≡ Some command
  pub number : command.number ≡ p.command
  pub op : IsOpOf s command.command p.op
  pub so_far : p.phase ≡ w.phase
      → (a : Actor) × (slice_get w.actors p.actor ≡ Some a)
      × (index + length a.script ≤ length (script_in phase p.actor))

-- phases never fall along operations
abbrev pub PhasesRise : List Published → Type 0
PhasesRise ops =
    (i j : ℕ) (p q : Published) → i ≤ j → slice_get ops i ≡ Some p → slice_get ops j ≡ Some q → p.phase ≤ q.phase

-- Each operation is so, and was lawful; those of a phase stand behind those of the phases before it.
pub record AreOperations (s : Setup) (w : World) : Type 0 where
  pub published : AllByRecursion (IsPublished s w) w.ops
  pub lawful : (i : ℕ) (p : Published) → slice_get w.ops i ≡ Some p → refuse (table_at s w i) p.op ≡ None
  pub rise : PhasesRise w.ops
  pub latest : AllByRecursion (λ (p : Published). p.phase ≤ w.phase) w.ops

-- ---- 10: resizes

-- another actor of the phase has a command that takes frames
abbrev pub is_taking : Command → Bool
is_taking (command.Read file room) = true
is_taking (command.RxTurn vhost) = true
is_taking other = false

pub record HasTaker (s : Setup) (w : World) (actor : ℕ) : Type 0 where
  pub phase : Phase
  pub is_phase : slice_get s.phases w.phase ≡ Some phase
  pub other : ℕ
  pub is_other : other ≢ actor
  pub takes : list_any (λ (c : Numbered). is_taking c.command) (script_in phase other) ≡ true

-- A resize has the capacity that it asks for. Its claim count isn't above that of now, and is that while more wait than
-- the ring has places. It cuts only where that capacity is below the table's; and from some place on all entries below
-- its claim count are cut, which are at least as many as it has cut. Where it has cut and no more wait than there are
-- places, just as many wait, but where others take frames.
pub record IsShrinking (s : Setup) (w : World) (actor file places cuts asked : ℕ) : Type 0 where
  pub f : File
  pub is_there : at w.files file ≡ Some f
  pub capacity : f.capacity ≡ asked
  pub most : places ≤ claimed f
  pub over : is_over f ≡ true → claimed f ≡ places
  pub smaller : 0 < cuts → asked < table_capacity file (table s w)
  pub least : 0 < cuts → is_over f ≡ false → HasTaker s w actor ⊎ (places ≡ freed f + f.capacity)
  pub from : ℕ
  pub as_many : f.first + from + cuts ≤ places
  pub cut : (i : ℕ) (e : Entry) → from ≤ i → f.first + i < places → slice_get f.line i ≡ Some e → e.stands ≡ Cut

-- Each resize under way is so.
abbrev pub HasItsCuts : Setup → World → ℕ → Actor → Type 0
HasItsCuts s w actor a =
    (n other asked file places cuts : ℕ)
    → current a.script ≡ Some (record { number = n; command = command.Resize other asked })
    → a.doing ≡ Shrinks file places cuts → IsShrinking s w actor file places cuts asked

-- ---- 11: detaches

-- A detach whose gate is shut and whose file is empty has ended: it ends with the event that emptied the file.

-- ---- all eleven

pub record IsSteady (s : Setup) (w : World) : Type 0 where
  pub there : IsThere s w
  pub named : NamesWhatIsThere s w
  pub placed : EachActor w (HasItsPlace w)
  pub lawful : IsStillLawful s w
  pub turns : EachActor w (HasItsTurn s w)
  pub sent : EachFile w (λ file f. AllByRecursion (WasSent s) f.line)
  pub seen : EachActor w (λ actor a. HasFound s w a)
  pub told : IsTold s w
  pub ops : AreOperations s w
  pub sized : EachActor w (HasItsCuts s w)
  pub ended : ending w ≡ None
