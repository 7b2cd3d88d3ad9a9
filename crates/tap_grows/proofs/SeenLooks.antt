-- What a look and a publication say that an actor has seen: no less than it had.
use Rattle.std.proofs.Common.{ℕ, ◌+◌, ◌≤◌, [], ◌∷◌, Bool, true, false, Option, Some, None, arith}
use Rattle.std.specs.Prelude.{if◌then◌else◌, ◌==◌, ◌&&◌, ◌||◌, is_none, nat_lt, not}
use Rattle.std.specs.Option.{option_map_or}
use Rattle.tap_frame.specs.declared.name.Name.{Name}
use Rattle.tap_frame.specs.declared.reading.BadFrame.{BadFrame}
use Rattle.tap_ledger.specs.declared.error.TapErr.{TapErr}
use Rattle.tap_ledger.specs.declared.error.TapErr.{TapErr as TapText}
use Rattle.tap_steer.specs.declared.operation.Op.{Op}
use Rattle.tap_steer.specs.declared.operation.Op.TheVariants as op
use Rattle.tap_steer.specs.declared.selection.Select.{Select}
use Rattle.tap_steer.specs.declared.selection.Select.TheVariants as select
use Rattle.tap_steer.specs.Rules.{refuse}
use Rattle.tap_steer.specs.Select as steer
use Rattle.tap_steer.specs.Table.{Table}
use Rattle.scen_words.specs.declared.command.Command.{Command}
use Rattle.scen_words.specs.declared.command.Command.TheVariants as command
use Rattle.tap_trace.specs.declared.answer.Answer.TheVariants as answer
use Rattle.tap_world.specs.declared.event.Found.TheVariants as found
use Rattle.tap_world.specs.ByNumber.{at}
use Rattle.tap_world.specs.Frames.{Front, bad_in, ether_in, least_in, sent_bytes, sent_front}
use Rattle.tap_world.specs.Setup.{Setup, op_of}
use Rattle.tap_world.specs.Guests.{Vhost, is_ring, turn_of}
use Rattle.tap_world.specs.World.{Actor, Doing, World, name_of, newest, table}
use Rattle.tap_world.specs.World.Doing.{Backed, Changes, Disowned, Given, Hosts, Learns, Opened, Reads, Released, Shrinks, Teaches, Transmits, Withdraws}
use Rattle.tap_world.specs.Effect.{Effect, Onward, only}
use Rattle.tap_world.specs.Effect.Onward.{Ends, Goes, Stays}
use Rattle.tap_world.specs.Step as rows
use Rattle.tap_world.specs.StepBackend as back
use Rattle.tap_world.specs.StepTable as tables
use Rattle.tap_world.specs.StepTransmits as tx_turns
use Rattle.tap_sound.proofs.Kit.{WhereSome, either, where_only, where_then}
use Rattle.tap_sound.proofs.Steps.{own, publication}

-- it has seen no less than this version, where it goes on or ends
abbrev pub IsOn : ℕ → Onward → Type 0
IsOn low (Goes seen d f) = low ≤ seen
IsOn low (Ends seen x) = low ≤ seen
IsOn low (Stays f) = Unit {0}

abbrev pub Sees : ℕ → Effect → Type 0
Sees low r = IsOn low r.onward

abbrev pub AllSee : ℕ → Option Effect → Type 0
AllSee low o = WhereSome (Sees low) o

module _ (low : ℕ) (w : World) (now : low ≤ newest w) where
  more : low ≤ newest w + 1
  more = omega (arith, now)

  -- ---- looks

  approved : (actor : ℕ) (d : Doing) (x : Option TapErr) → Sees low (tables.decided w actor d x)
  approved actor d None = now
  approved actor d (Some x) = now

  routed : (name : Name) (x : Select) → Sees low (tables.routed w name x)
  routed name select.NoQueue = now
  routed name select.Filtered = now
  routed name (select.Row row keep resizes capacity) = now

  unless_bad : (x : Option BadFrame) (r : Effect) → Sees low r → Sees low (tables.unless_bad x w r)
  unless_bad None r h = h
  unless_bad (Some x) r h = now

  with_front : (x : Option Front) (r : Front → Effect) → ((f : Front) → Sees low (r f))
      → Sees low (tables.with_front x w r)
  with_front None r h = now
  with_front (Some f) r h = h f

  reading : (file room : ℕ) (front : Front) → Sees low (tables.reads w file room front)
  reading file room front = go (nat_lt room (least_in front))
    where
      go : (c : Bool) → Sees low (if c then only (Ends (newest w) (answer.Room (least_in front))) w else only (Goes (newest w) (Reads file room front) (found.Version (newest w))) w)
      go true = now
      go false = now

  back_seen : (actor vhost r : ℕ) (v : Vhost) (x : Option TapText) → Sees low (back.back_seen w actor vhost r v x)
  back_seen actor vhost r v None = now
  back_seen actor vhost r v (Some x) = now

  looks_at : (t : Table) (name : Name) (c : Command) → AllSee low (tables.looks_at t w name c)
  looks_at t name (command.Send device hdr bytes) =
      unless_bad (bad_in (sent_front hdr) (sent_bytes hdr bytes)) (tables.routed w name (steer.select t device (ether_in (sent_front hdr) (sent_bytes hdr bytes))))
      (routed name (steer.select t device (ether_in (sent_front hdr) (sent_bytes hdr bytes))))
  looks_at t name (command.Read file room) = with_front (steer.shape_of t file) (tables.reads w file room) (reading file room)
  looks_at t name (command.Write file bytes) = with_front (steer.shape_of t file) (tables.writes t w file bytes)
      (λ front. unless_bad (bad_in front bytes)
      (only (Goes (newest w) (Hosts file (ether_in front bytes) (steer.learns t file)) (found.Version (newest w))) w) now)
  looks_at t name c = tt

  looks : (s : Setup) (actor : ℕ) (a : Actor) (n : ℕ) (c : Command) → AllSee low (tables.looks s w actor a n c)
  looks s actor a n c = go (op_of s c)
    where
      go : (o : Option Op) → AllSee low (option_map_or (tables.looks_to_change (table s w) w actor) o (tables.looks_at (table s w) w (name_of actor n) c))
      go None = looks_at (table s w) (name_of actor n) c
      go (Some x) = where_only (Sees low) (is_none w.writer) (tables.decided w actor (tables.course (table s w) x) (refuse (table s w) x)) (λ e. approved actor _ _)

  looks_at_flow : (s : Setup) (d : Doing) → AllSee low (tx_turns.looks_at_flow s w d)
  looks_at_flow s (Given file t told f) = now
  looks_at_flow s d = tt

  pub look_row : (s : Setup) (actor : ℕ) (a : Actor) (n : ℕ) (c : Command)
      → AllSee low (rows.look_row s w actor a n c)
  look_row s actor a n (command.Backend vhost r file) =
      where_then (Sees low) (at w.vhosts vhost) _ (λ v e. where_only (Sees low) (is_none w.writer && (not (is_ring r) || is_none (turn_of r v)))
      (back.back_seen w actor vhost r v (back.back_refusal (table s w) vhost r file)) (λ e. back_seen actor vhost r v _))
  look_row s actor a n (command.TxTurn vhost) = looks_at_flow s a.doing
  look_row s actor a n c = looks s actor a n c

  -- ---- publications

  own_published : (x : Op) (d : Doing) → AllSee low (tables.publishes_own w x d)
  own_published x Changes = more
  own_published x (Opened file) = more
  own_published x (Withdraws file) = more
  own_published x (Shrinks file places cuts) = where_then (Sees low) (at w.files file) _ (λ f e1. more)
  own_published x d = tt

  publishes : (s : Setup) (actor : ℕ) (d : Doing) (c : Command) → AllSee low (tables.publishes s w actor d c)
  publishes s actor (Learns file ether) c =
      where_only (Sees low) (is_none w.writer) (tables.learns_flow w file ether) (λ b. more)
  publishes s actor d c = own (Sees low) s w actor d c (λ x. own_published x d)

  teaches : (d : Doing) → AllSee low (tx_turns.teaches w d)
  teaches (Teaches file t told f) = where_only (Sees low) (is_none w.writer)
      (record (only (Goes (newest w + 1) (Transmits file t told) (found.Version (newest w + 1))) w) { ops = op.Learn file f.flow ∷ [] })
      (λ b. more)
  teaches d = tt

  publishes_back : (d : Doing) (c : Command) → AllSee low (back.publishes_back w d c)
  publishes_back (Backed file) (command.Backend vhost r asked) = either (Sees low) (r == 0) _ _ more more
  publishes_back (Disowned file) (command.Backend vhost r asked) = more
  publishes_back (Released file) (command.Backend vhost r asked) = more
  publishes_back d c = tt

  pub publish_row : (s : Setup) (actor : ℕ) (d : Doing) (c : Command) → AllSee low (rows.publish_row s w actor d c)
  publish_row s actor d c = publication (Sees low) s w actor d c (publishes_back d c) (teaches d) (publishes s actor d c)
