-- What every row of the table of events keeps to: who publishes, which fates are given, and what is seen.
use Rattle.std.proofs.Common.{◌≡◌, ℕ, ◌+◌, ◌≤◌, length, arith, [], ◌∷◌, Bool, true, false, Option, Some, None, refl}
use Rattle.std.specs.Prelude.{if◌then◌else◌, ◌==◌, ◌&&◌, ◌||◌, is_none, nat_lt}
use Rattle.std.specs.Option.{option_map_or}
use Rattle.tap_frame.specs.declared.name.Name.{Name}
use Rattle.tap_steer.specs.declared.operation.Op.{Op}
use Rattle.scen_words.specs.declared.command.Command.{Command}
use Rattle.scen_words.specs.declared.command.Command.TheVariants as command
use Rattle.tap_ledger.specs.declared.error.TapErr.{TapErr as TapText}
use Rattle.tap_world.specs.ByNumber.{at}
use Rattle.tap_world.specs.Frames.{Front}
use Rattle.std.proofs.Common.{true≢false}
use Rattle.tap_world.specs.Setup.{Setup, op_of}
use Rattle.tap_world.specs.Guests.{Vhost, is_ring, turn_of}
use Rattle.std.specs.Prelude.{not}
use Rattle.tap_steer.specs.Rules.{refuse}
use Rattle.tap_world.specs.World.{Actor, Doing, World, name_of, newest, table}
use Rattle.tap_world.specs.World.Doing.{Backed, Changes, Disowned, Given, Hosts, Learns, Opened, Owns, Reads, Released, Shrinks, Teaches, Transmits, Withdraws}
use Rattle.tap_world.specs.Effect.{Effect, Onward, only}
use Rattle.tap_steer.specs.declared.operation.Op.TheVariants as op
use Rattle.tap_trace.specs.declared.answer.Answer.TheVariants as answer
use Rattle.tap_world.specs.declared.event.Found.TheVariants as found
use Rattle.tap_world.specs.Effect.Onward.{Ends, Goes, Stays}
use Rattle.tap_world.specs.Step as rows
use Rattle.tap_world.specs.StepBackend as back
use Rattle.tap_world.specs.StepTable as tables
use Rattle.tap_world.specs.StepTransmits as tx_turns
use Rattle.tap_sound.proofs.Kit.{WhereSome, either, where_only, where_then}
use Rattle.tap_sound.proofs.Steps.{own, publication}
use Rattle.tap_frame.specs.declared.reading.BadFrame.{BadFrame}
use Rattle.tap_ledger.specs.declared.error.TapErr.{TapErr}
use Rattle.tap_steer.specs.declared.selection.Select.{Select}
use Rattle.tap_steer.specs.declared.selection.Select.TheVariants as select
use Rattle.tap_steer.specs.Select as steer
use Rattle.tap_steer.specs.Table.{Table}
use Rattle.tap_world.specs.Frames.{bad_in, ether_in, least_in, sent_bytes, sent_front}
use Rattle.tap_world.specs.declared.line.Standing.TheVariants.{Out}
use Rattle.tap_world.specs.LineSteps.Change.{Leaves, Sizes}
use Rattle.tap_world.specs.Effect.{OnFiles}
use Rattle.tap_world.specs.Effect.OnFiles.{OnFile}
use Rattle.tap_world.specs.Sound.{has_left}

-- ---- what a row keeps to

abbrev pub HasGoodFate : OnFiles → Type 0
HasGoodFate (OnFile file (Leaves worker f)) = has_left (Out f) ≡ true
HasGoodFate o = Unit {0}

abbrev pub KeepsSize : OnFiles → Type 0
KeepsSize (OnFile file (Sizes capacity)) = ⊥
KeepsSize o = Unit {0}

abbrev pub HasSeenTo : ℕ → Onward → Type 0
HasSeenTo n (Goes seen d f) = seen ≤ n
HasSeenTo n (Ends seen x) = seen ≤ n
HasSeenTo n (Stays f) = Unit {0}

-- it publishes where it may, gives a frame that leaves a fate, sizes where it may, and sees what there is
abbrev pub IsTame : World → Bool → Bool → Effect → Type 0
IsTame w may_publish may_size r =
    (may_publish ≡ false → r.ops ≡ []) × HasGoodFate r.files × (may_size ≡ false → KeepsSize r.files)
    × HasSeenTo (newest w + length r.ops) r.onward

abbrev pub AllTame : World → Bool → Bool → Option Effect → Type 0
AllTame w b z o = WhereSome (IsTame w b z) o

-- the actor has seen no more than there is
abbrev pub IsBelow : World → ℕ → Type 0
IsBelow w seen = seen ≤ newest w + 0

now : (w : World) → newest w ≤ newest w + 0
now w = omega arith

one_more : (w : World) → newest w + 1 ≤ newest w + 1
one_more w = omega arith

-- ---- looks

approved : (w : World) (b z : Bool) (actor : ℕ) (d : Doing) (x : Option TapErr) → IsTame w b z (tables.decided w actor d x)
approved w b z actor d None = (λ e. refl, tt, λ e. tt, now w)
approved w b z actor d (Some x) = (λ e. refl, tt, λ e. tt, now w)

routed : (w : World) (b z : Bool) (name : Name) (x : Select) → IsTame w b z (tables.routed w name x)
routed w b z name select.NoQueue = (λ e. refl, tt, λ e. tt, now w)
routed w b z name select.Filtered = (λ e. refl, tt, λ e. tt, now w)
routed w b z name (select.Row row keep resizes capacity) = (λ e. refl, tt, λ e. tt, now w)

unless_bad : (w : World) (b z : Bool) (x : Option BadFrame) (r : Effect) → IsTame w b z r → IsTame w b z (tables.unless_bad x w r)
unless_bad w b z None r h = h
unless_bad w b z (Some x) r h = (λ e. refl, tt, λ e. tt, now w)

with_front : (w : World) (b z : Bool) (x : Option Front) (r : Front → Effect) → ((f : Front) → IsTame w b z (r f)) → IsTame w b z (tables.with_front x w r)
with_front w b z None r h = (λ e. refl, tt, λ e. tt, now w)
with_front w b z (Some f) r h = h f

reading : (w : World) (b z : Bool) (file room : ℕ) (front : Front) → IsTame w b z (tables.reads w file room front)
reading w b z file room front = go (nat_lt room (least_in front))
  where
    go : (c : Bool) → IsTame w b z (if c then only (Ends (newest w) (answer.Room (least_in front))) w else only (Goes (newest w) (Reads file room front) (found.Version (newest w))) w)
    go true = (λ e. refl, tt, λ e. tt, now w)
    go false = (λ e. refl, tt, λ e. tt, now w)

back_seen : (w : World) (b z : Bool) (actor vhost r : ℕ) (v : Vhost) (x : Option TapText) → IsTame w b z (back.back_seen w actor vhost r v x)
back_seen w b z actor vhost r v None = (λ e. refl, tt, λ e. tt, now w)
back_seen w b z actor vhost r v (Some x) = (λ e. refl, tt, λ e. tt, now w)

looks_at : (w : World) (b z : Bool) (t : Table) (name : Name) (c : Command) → AllTame w b z (tables.looks_at t w name c)
looks_at w b z t name (command.Send device hdr bytes) =
    unless_bad w b z (bad_in (sent_front hdr) (sent_bytes hdr bytes)) (tables.routed w name (steer.select t device (ether_in (sent_front hdr) (sent_bytes hdr bytes))))
    (routed w b z name (steer.select t device (ether_in (sent_front hdr) (sent_bytes hdr bytes))))
looks_at w b z t name (command.Read file room) = with_front w b z (steer.shape_of t file) (tables.reads w file room) (reading w b z file room)
looks_at w b z t name (command.Write file bytes) = with_front w b z (steer.shape_of t file) (tables.writes t w file bytes)
    (λ front. unless_bad w b z (bad_in front bytes)
    (only (Goes (newest w) (Hosts file (ether_in front bytes) (steer.learns t file)) (found.Version (newest w))) w) (λ e. refl, tt, λ e. tt, now w))
looks_at w b z t name c = tt

looks : (s : Setup) (w : World) (b z : Bool) (actor : ℕ) (a : Actor) (n : ℕ) (c : Command) → AllTame w b z (tables.looks s w actor a n c)
looks s w b z actor a n c = go (op_of s c)
  where
    go : (o : Option Op) → AllTame w b z (option_map_or (tables.looks_to_change (table s w) w actor) o (tables.looks_at (table s w) w (name_of actor n) c))
    go None = looks_at w b z (table s w) (name_of actor n) c
    go (Some x) = where_only (IsTame w b z) (is_none w.writer) (tables.decided w actor (tables.course (table s w) x) (refuse (table s w) x)) (λ e. approved w b z actor _ _)

looks_at_flow : (s : Setup) (w : World) (b z : Bool) (d : Doing) → AllTame w b z (tx_turns.looks_at_flow s w d)
looks_at_flow s w b z (Given file t told f) = (λ e. refl, tt, λ e. tt, now w)
looks_at_flow s w b z d = tt

pub look_row : (s : Setup) (w : World) (b z : Bool) (actor : ℕ) (a : Actor) (n : ℕ) (c : Command) → AllTame w b z (rows.look_row s w actor a n c)
look_row s w b z actor a n (command.Backend vhost r file) =
    where_then (IsTame w b z) (at w.vhosts vhost) _ (λ v e. where_only (IsTame w b z) (is_none w.writer && (not (is_ring r) || is_none (turn_of r v)))
    (back.back_seen w actor vhost r v (back.back_refusal (table s w) vhost r file)) (λ e. back_seen w b z actor vhost r v _))
look_row s w b z actor a n (command.TxTurn vhost) = looks_at_flow s w b z a.doing
look_row s w b z actor a n c = looks s w b z actor a n c

-- ---- publications

own_published : (w : World) (z : Bool) (x : Op) (d : Doing) → AllTame w true z (tables.publishes_own w x d)
own_published w z x Changes = (λ e. absurd (true≢false e), tt, λ e. tt, one_more w)
own_published w z x (Opened file) = (λ e. absurd (true≢false e), tt, λ e. tt, one_more w)
own_published w z x (Withdraws file) = (λ e. absurd (true≢false e), tt, λ e. tt, one_more w)
own_published w z x (Shrinks file places cuts) = where_then (IsTame w true z) (at w.files file) _ (λ f e1. (λ e. absurd (true≢false e), tt, λ e. tt, one_more w))
own_published w z x d = tt

publishes : (s : Setup) (w : World) (z : Bool) (actor : ℕ) (d : Doing) (c : Command) → AllTame w true z (tables.publishes s w actor d c)
publishes s w z actor (Learns file ether) c =
    where_only (IsTame w true z) (is_none w.writer) (tables.learns_flow w file ether) (λ b. (λ e. absurd (true≢false e), tt, λ e. tt, one_more w))
publishes s w z actor d c = own (IsTame w true z) s w actor d c (λ x. own_published w z x d)

teaches : (w : World) (z : Bool) (d : Doing) → AllTame w true z (tx_turns.teaches w d)
teaches w z (Teaches file t told f) = where_only (IsTame w true z) (is_none w.writer)
    (record (only (Goes (newest w + 1) (Transmits file t told) (found.Version (newest w + 1))) w) { ops = op.Learn file f.flow ∷ [] })
    (λ b. (λ e. absurd (true≢false e), tt, λ e. tt, one_more w))
teaches w z d = tt

publishes_back : (w : World) (z : Bool) (d : Doing) (c : Command) → AllTame w true z (back.publishes_back w d c)
publishes_back w z (Backed file) (command.Backend vhost r asked) = either (IsTame w true z) (r == 0) _ _ first second
  where
    first : IsTame w true z (record (only (Goes (newest w + 1) (Owns file (newest w + 1)) (found.Version (newest w + 1))) w) { ops = op.Back file (back.side_of r) (Some vhost) ∷ [] })
    first = (λ e. absurd (true≢false e), tt, λ e. tt, one_more w)

    second : IsTame w true z (record (back.back_over w (newest w + 1) vhost r (newest w + 1)) { ops = op.Back file (back.side_of r) (Some vhost) ∷ [] })
    second = (λ e. absurd (true≢false e), tt, λ e. tt, one_more w)
publishes_back w z (Disowned file) (command.Backend vhost r asked) = (λ e. absurd (true≢false e), tt, λ e. tt, one_more w)
publishes_back w z (Released file) (command.Backend vhost r asked) = (λ e. absurd (true≢false e), tt, λ e. tt, one_more w)
publishes_back w z d c = tt

pub publish_row : (s : Setup) (w : World) (z : Bool) (actor : ℕ) (d : Doing) (c : Command) → AllTame w true z (rows.publish_row s w actor d c)
publish_row s w z actor d c = publication (IsTame w true z) s w actor d c (publishes_back w z d c) (teaches w z d) (publishes s w z actor d c)
