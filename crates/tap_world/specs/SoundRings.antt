-- This project's own: part 8 of what is sound, the rings of vhosts; and who holds their turns, for part 10.
use Rattle.std.specs.Prelude.{◌≡◌, ℕ, ◌<◌, ◌==◌, ◌&&◌, Bool, true, false, slice_get, Option, Some, None, is_some}
use Rattle.std.specs.Option.{option_map_or}
use Rattle.scen_words.specs.declared.command.Command.{Command}
use Rattle.scen_words.specs.declared.command.Command.TheVariants as command
use Rattle.vhost_queue.specs.Positions.{IsIdle}
use Rattle.vhost_queue.specs.Queue.{IsGood, IsQueueSize}
use Rattle.vhost_dev.specs.Settings.{RingSettings, ring_at}
use Rattle.vhost_dev.specs.Device.{BeginAtZero}
use Rattle.vhost_dev.specs.Lists.{AreInOrder}
use Rattle.vring_turns.specs.Standing.{RxStands, TxStands}
use Rattle.tap_ground.specs.Options.{only_if}
use Rattle.tap_world.specs.ByNumber.{at}
use Rattle.tap_world.specs.Each.{EachActor, EachVhost}
use Rattle.tap_world.specs.Guests.{Guest, Vhost, is_ring, turn_of}
use Rattle.tap_world.specs.Setup.{Numbered}
use Rattle.tap_world.specs.World.{Actor, Doing, World, current}
use Rattle.tap_world.specs.World.Doing.{Backed, Backs, Begun, Changes, Disowned, Given, Hosts, Learns, Opened, Opens, Owns, Placed, Purges, Reads, Receives, Released, Resizes, Routed, Shrinks, Teaches, Transmits, Unbacked, Withdrawn, Withdraws}

-- ---- rings

-- The lists of positions are in order, and the first of them begins with the first chain that was published, at base 0;
-- the ring has a queue size; with a backend it lies in its guest.
pub record IsRing (g : Guest) (r : RingSettings) : Type 0 where
  pub lists : AreInOrder r.lists r.queue.positions
  pub begun : BeginAtZero r.lists
  pub size : IsQueueSize r.queue.layout.num
  pub good : is_some r.file ≡ true → IsGood r.queue g.memory

abbrev pub HasRings : World → ℕ → Vhost → Type 0
HasRings w vhost v = (g : Guest) × (at w.guests v.guest ≡ Some g) × IsRing g v.settings.rx × IsRing g v.settings.tx

-- a command serves its ring: a turn after its first event, by which it turned notices off
abbrev pub serves : Doing → Bool
serves (Receives file t) = true
serves (Transmits file t chains) = true
serves (Given file t chains frame) = true
serves (Teaches file t chains frame) = true
serves Begun = false
serves Changes = false
serves (Opens file) = false
serves (Opened file) = false
serves (Withdraws file) = false
serves (Withdrawn file version) = false
serves (Purges file version) = false
serves (Resizes file capacity) = false
serves (Shrinks file places cuts) = false
serves (Routed file epoch len) = false
serves (Placed file place epoch len) = false
serves (Reads file room front) = false
serves (Hosts file ether learns) = false
serves (Learns file ether) = false
serves (Backs refusal) = false
serves (Backed file) = false
serves (Owns file version) = false
serves (Unbacked file) = false
serves (Disowned file) = false
serves (Released file) = false

-- the vhost and the ring of a turn or a backend
abbrev pub ring_in : Command → Option (ℕ × ℕ)
ring_in (command.RxTurn vhost) = Some (vhost, 0)
ring_in (command.TxTurn vhost) = Some (vhost, 1)
ring_in (command.Backend vhost ring file) = only_if (is_ring ring) (vhost, ring)
ring_in other = None

-- the command under way is about this ring
abbrev pub is_about : ℕ → ℕ → Option Numbered → Bool
is_about vhost ring None = false
is_about vhost ring (Some c) =
    option_map_or (λ (r : ℕ × ℕ). r.0 == vhost && r.1 == ring) (ring_in c.command) false

-- a turn under way and its ring's queue stand together as between two of its steps
abbrev pub StandsWith : Doing → Vhost → Type 0
StandsWith (Receives file t) v = RxStands t v.settings.rx.queue
StandsWith (Transmits file t chains) v = TxStands t v.settings.tx.queue
StandsWith (Given file t chains frame) v = TxStands t v.settings.tx.queue
StandsWith (Teaches file t chains frame) v = TxStands t v.settings.tx.queue
StandsWith Begun v = Unit {0}
StandsWith Changes v = Unit {0}
StandsWith (Opens file) v = Unit {0}
StandsWith (Opened file) v = Unit {0}
StandsWith (Withdraws file) v = Unit {0}
StandsWith (Withdrawn file version) v = Unit {0}
StandsWith (Purges file version) v = Unit {0}
StandsWith (Resizes file capacity) v = Unit {0}
StandsWith (Shrinks file places cuts) v = Unit {0}
StandsWith (Routed file epoch len) v = Unit {0}
StandsWith (Placed file place epoch len) v = Unit {0}
StandsWith (Reads file room front) v = Unit {0}
StandsWith (Hosts file ether learns) v = Unit {0}
StandsWith (Learns file ether) v = Unit {0}
StandsWith (Backs refusal) v = Unit {0}
StandsWith (Backed file) v = Unit {0}
StandsWith (Owns file version) v = Unit {0}
StandsWith (Unbacked file) v = Unit {0}
StandsWith (Disowned file) v = Unit {0}
StandsWith (Released file) v = Unit {0}

-- this actor's command serves the ring
abbrev pub Serves : ℕ → ℕ → Actor → Type 0
Serves vhost ring a = (serves a.doing ≡ true) × (is_about vhost ring (current a.script) ≡ true)

-- Where no command serves a ring, nothing of it is served and not published; and a ring that is served has a backend,
-- and stands with its turn.
pub record IsServed (w : World) (vhost : ℕ) (v : Vhost) : Type 0 where
  pub idle : (ring : ℕ) → ring < 2
      → EachActor w (λ actor a. Serves vhost ring a → ⊥)
      → IsIdle (ring_at ring v.settings).queue.positions
  pub backed : (ring actor : ℕ) (a : Actor) → slice_get w.actors actor ≡ Some a → Serves vhost ring a
      → is_some (ring_at ring v.settings).file ≡ true
  pub stands : (ring actor : ℕ) (a : Actor) → slice_get w.actors actor ≡ Some a → Serves vhost ring a
      → StandsWith a.doing v

-- ---- 8: all rings

-- Each ring is so, and each is served by none but the turn that stands with it.
pub record HaveRings (w : World) : Type 0 where
  pub rings : EachVhost w (HasRings w)
  pub served : EachVhost w (IsServed w)

-- ---- turns

-- a command holds the turn of its ring: while it serves it, or is a backend that the table doesn't refuse
abbrev pub holds_turn : Doing → Bool
holds_turn (Backs None) = true
holds_turn (Backed file) = true
holds_turn (Owns file version) = true
holds_turn (Unbacked file) = true
holds_turn (Disowned file) = true
holds_turn (Released file) = true
holds_turn (Receives file t) = true
holds_turn (Transmits file t chains) = true
holds_turn (Given file t chains frame) = true
holds_turn (Teaches file t chains frame) = true
holds_turn (Backs (Some refusal)) = false
holds_turn Begun = false
holds_turn Changes = false
holds_turn (Opens file) = false
holds_turn (Opened file) = false
holds_turn (Withdraws file) = false
holds_turn (Withdrawn file version) = false
holds_turn (Purges file version) = false
holds_turn (Resizes file capacity) = false
holds_turn (Shrinks file places cuts) = false
holds_turn (Routed file epoch len) = false
holds_turn (Placed file place epoch len) = false
holds_turn (Reads file room front) = false
holds_turn (Hosts file ether learns) = false
holds_turn (Learns file ether) = false

-- A ring's turn is held exactly by the command under way that holds it.
abbrev pub TurnsAreHeld : World → ℕ → Vhost → Type 0
TurnsAreHeld w vhost v =
    (ring actor : ℕ) (a : Actor) → ring < 2 → slice_get w.actors actor ≡ Some a
    → (holds_turn a.doing && is_about vhost ring (current a.script))
    ≡ option_map_or (λ other. other == actor) (turn_of ring v) false

-- Who holds the writer or a ring's turn is an actor of the phase.
abbrev pub IsActor : World → Option ℕ → Type 0
IsActor w None = Unit {0}
IsActor w (Some actor) = is_some (slice_get w.actors actor) ≡ true
