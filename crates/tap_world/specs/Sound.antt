-- This project's own: what is sound of a world, in ten numbered parts. It holds in every world that a run can reach.
-- Part 1 stands in SoundNames, part 6 in SoundTable, part 8 in SoundRings, and how far commands come, of part 10, in
-- SoundActors.
use Rattle.std.specs.Prelude.{◌≡◌, ℕ, ◌+◌, ◌-◌, ◌^◌, ◌≤◌, ◌⊎◌, ◌==◌, ◌&&◌, max, Bool, true, false, List, [], ◌∷◌, slice_get, Option, Some, None}
use Rattle.std.specs.Option.{option_map_or}
use Rattle.std.specs.List.{AllByRecursion, list_any}
use Rattle.tap_frame.specs.declared.name.Name.{Name}
use Rattle.tap_frame.specs.Frame.{FrameValue}
use Rattle.tap_ledger.specs.declared.fate.Fate.TheVariants as fate
use Rattle.tap_steer.specs.Table.{Table, file_at}
use Rattle.tap_ground.specs.Options.{◌>>=◌}
use Rattle.vring_turns.specs.Stage.{has_in_hand}
use Rattle.tap_world.specs.Each.{EachActor, EachFile, EachVhost}
use Rattle.tap_world.specs.Setup.{Setup}
use Rattle.tap_world.specs.Line.{Entry, File, Standing, claimed, count, first_that, freed, in_batch, is_empty, is_kept}
use Rattle.tap_world.specs.declared.line.Standing.TheVariants.{Batched, Claimed, Cut, Out, Ready}
use Rattle.tap_world.specs.World.{Actor, Doing, World, current, newest, table}
use Rattle.tap_world.specs.Stands.{same_name}
use Rattle.tap_world.specs.World.Doing.{Backed, Backs, Begun, Changes, Disowned, Given, Hosts, Learns, Opened, Opens, Owns, Placed, Purges, Reads, Receives, Released, Resizes, Routed, Shrinks, Teaches, Transmits, Unbacked, Withdrawn, Withdraws}
use Rattle.tap_world.specs.SoundActors.{CanBe}
use Rattle.tap_world.specs.SoundNames.{NamesStandOnce}
use Rattle.tap_world.specs.SoundRings.{HaveRings, IsActor, TurnsAreHeld, is_about}
use Rattle.tap_world.specs.SoundTable.{HasTable}

-- ---- 2: lines

-- an entry that comes before another: out before the batch, and the batch before the ring; a cut one anywhere
abbrev pub rank : Standing → ℕ
rank (Out fate) = 0
rank Batched = 1
rank Ready = 2
rank (Claimed actor) = 2
rank Cut = 0

abbrev pub is_cut : Standing → Bool
is_cut Cut = true
is_cut other = false

-- of the entries that aren't cut, none comes before one of an earlier part
abbrev pub ComesLast : ℕ → List Entry → Type 0
ComesLast r [] = Unit {0}
ComesLast r (e ∷ es) = ((is_cut e.stands ≡ true) ⊎ (r ≤ rank e.stands)) × ComesLast r es

abbrev pub InThreeParts : List Entry → Type 0
InThreeParts [] = Unit {0}
InThreeParts (e ∷ es) = ((is_cut e.stands ≡ true) ⊎ ComesLast (rank e.stands) es) × InThreeParts es

-- A line is in its three parts. The batch has at most 64. Claimed is at most 2 ^ 40 - 1.
pub record IsOrdered (f : File) : Type 0 where
  pub parts : InThreeParts f.line
  pub batch : count in_batch f.line ≤ 64
  pub places : claimed f ≤ 2 ^ 40 - 1

-- an entry that is out has a fate other than Waiting
abbrev pub has_left : Standing → Bool
has_left (Out fate.Waiting) = false
has_left other = true

-- the capacity of a file by the table: the one before a resize, until that is published
abbrev pub table_capacity : ℕ → Table → ℕ
table_capacity file t = (file_at t file).capacity

-- A line is in order. An entry that is out has a fate. Claimed - freed is at most the capacity, or, between a resize
-- and its publication, at most the greater of this one and the table's.
pub record HasRoom (tabled : ℕ) (f : File) : Type 0 where
  pub ordered : IsOrdered f
  pub fates : AllByRecursion (λ (e : Entry). has_left e.stands ≡ true) f.line
  pub ring : claimed f ≤ freed f + max f.capacity tabled

-- Each line is so, with the capacities of the newest table.
abbrev pub HaveRoom : Setup → World → Type 0
HaveRoom s w = EachFile w (λ file f. HasRoom (table_capacity file (table s w)) f)

-- ---- 3: claims

-- Each claimed place that isn't put belongs to an actor in mid-call, which has no other.
abbrev pub ClaimIsHeld : World → ℕ → File → Type 0
ClaimIsHeld w file f =
    (i actor : ℕ) (e : Entry) → slice_get f.line i ≡ Some e → e.stands ≡ Claimed actor
    → (a : Actor) × (slice_get w.actors actor ≡ Some a) × (a.doing ≡ Placed file (f.first + i) e.epoch e.len)

-- ---- 4: epochs

abbrev pub NeverFall : List Entry → Type 0
NeverFall [] = Unit {0}
NeverFall (e ∷ es) = AllByRecursion (λ (d : Entry). e.epoch ≤ d.epoch) es × NeverFall es

-- Epochs never fall along a line, none is above the gate's, and what waits has the gate's.
pub record HasEpochs (f : File) : Type 0 where
  pub rise : NeverFall f.line
  pub most : AllByRecursion (λ (e : Entry). e.epoch ≤ f.epoch) f.line
  pub kept : AllByRecursion (λ (e : Entry). is_kept e.stands ≡ true → e.epoch ≡ f.epoch) f.line

-- ---- 5: shut gates

-- an actor is emptying a file
abbrev pub is_purging : ℕ → Doing → Bool
is_purging file (Purges other version) = other == file
is_purging file doing = false

-- Where the gate is shut and no detach on the file is under way, batch and ring are empty.
abbrev pub IsEmptyWhenShut : World → ℕ → File → Type 0
IsEmptyWhenShut w file f =
    f.shut ≡ true → (is_empty f ≡ true) ⊎ (list_any (λ (a : Actor). is_purging file a.doing) w.actors ≡ true)

-- ---- 7: a frame in hand

-- the frame in hand has this name
abbrev pub holds_name : Name → Option FrameValue → Bool
holds_name n held = option_map_or (λ (x : FrameValue). same_name x.name n) held false

abbrev pub is_receiving : ℕ → Name → Doing → Bool
is_receiving file n (Receives other t) = other == file && has_in_hand t.stage && holds_name n t.held
is_receiving file n doing = false

-- an actor is at a worker's receive turn on the file, with this frame in hand
abbrev pub is_serving : ℕ → ℕ → Name → Actor → Bool
is_serving vhost file n a = is_receiving file n a.doing && is_about vhost 0 (current a.script)

-- the name of the batch's front
abbrev pub front_name : List Entry → Option Name
front_name line = do
  i ← first_that in_batch line
  e ← slice_get line i
  Some e.name

-- A frame in hand is the batch's front, its worker owns the file, and that worker's receive turn is under way with this
-- very frame.
abbrev pub HandIsOwners : World → ℕ → File → Type 0
HandIsOwners w file f =
    (vhost : ℕ) → f.hand ≡ Some vhost
    → (f.owner ≡ Some vhost) × (n : Name) × (front_name f.line ≡ Some n)
    × (list_any (is_serving vhost file n) w.actors ≡ true)

-- ---- 9: versions

-- No actor has seen more versions than there are.
abbrev pub HasSeen : World → ℕ → Actor → Type 0
HasSeen w actor a = a.seen ≤ newest w

-- ---- 10: actors

-- a command holds the writer
abbrev pub holds : Doing → Bool
holds Changes = true
holds (Opens file) = true
holds (Opened file) = true
holds (Withdraws file) = true
holds (Withdrawn file version) = true
holds (Purges file version) = true
holds (Resizes file capacity) = true
holds (Shrinks file places cuts) = true
holds (Backs None) = true
holds (Backed file) = true
holds (Owns file version) = true
holds (Unbacked file) = true
holds (Disowned file) = true
holds (Released file) = true
holds Begun = false
holds (Routed file epoch len) = false
holds (Placed file place epoch len) = false
holds (Reads file room front) = false
holds (Hosts file ether learns) = false
holds (Learns file ether) = false
holds (Backs (Some refusal)) = false
holds (Receives file t) = false
holds (Transmits file t chains) = false
holds (Given file t chains frame) = false
holds (Teaches file t chains frame) = false

-- The writer is held exactly by the command under way that holds it.
abbrev pub WriterIsHeld : World → ℕ → Actor → Type 0
WriterIsHeld w actor a = holds a.doing ≡ option_map_or (λ other. other == actor) w.writer false

-- Each command has come as far as it can and no further. The writer and the rings' turns are held exactly by the
-- commands under way that hold them, which are actors'.
pub record HaveActors (w : World) : Type 0 where
  pub stand : EachActor w (λ actor a. CanBe a)
  pub writer : EachActor w (WriterIsHeld w)
  pub turns : EachVhost w (TurnsAreHeld w)
  pub holders : IsActor w w.writer × EachVhost w (λ vhost v. IsActor w v.rx_turn × IsActor w v.tx_turn)

-- ---- all ten

pub record IsSound (s : Setup) (w : World) : Type 0 where
  pub names : NamesStandOnce w  -- 1
  pub lines : HaveRoom s w  -- 2
  pub claims : EachFile w (ClaimIsHeld w)  -- 3
  pub epochs : EachFile w (λ file f. HasEpochs f)  -- 4
  pub shut : EachFile w (IsEmptyWhenShut w)  -- 5
  pub tabled : HasTable s w  -- 6
  pub hand : EachFile w (HandIsOwners w)  -- 7
  pub rings : HaveRings w  -- 8
  pub versions : EachActor w (HasSeen w)  -- 9
  pub actors : HaveActors w  -- 10
