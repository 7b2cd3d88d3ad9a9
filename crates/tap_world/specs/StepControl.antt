-- This project's own: the events Poke, Peek and Drive: bytes of a guest's memory, the control calls of a vhost, and its
-- drivers.
use Rattle.std.specs.Prelude.{ℕ, ◌+◌, ◌&&◌, Bool, true, List, length, Option, Some, None, option_map}
use Rattle.std.specs.Option.{option_map_or}
use Rattle.guest_mem.specs.Memory.{Contents, bytes_from, first_bad, written}
use Rattle.vhost_dev.specs.declared.error.VhostErr.{VhostErr}
use Rattle.vhost_dev.specs.Calls.{chosen, with_addr, with_base, with_features, with_num}
use Rattle.vhost_dev.specs.Refusals.{addr_refusal, base_refusal, features_refusal, num_refusal, number_refusal}
use Rattle.vhost_dev.specs.Settings.{Settings, ring_at}
use Rattle.vring_drive.specs.declared.error.DriveErr.{DriveErr}
use Rattle.vring_drive.specs.declared.error.DriveErr.TheVariants as drive_err
use Rattle.vring_drive.specs.declared.error.PostErr.{PostErr}
use Rattle.vring_drive.specs.declared.error.PostErr.TheVariants as post_err
use Rattle.vring_drive.specs.Area.{drive_refusal}
use Rattle.vring_drive.specs.Books.{Books, chain_of, first_books, head_of, sent_out}
use Rattle.vring_drive.specs.Harvests.{Harvest, harvested, harvested_in}
use Rattle.vring_drive.specs.Posts.{full_pieces, post_in_refusal, post_out_refusal, posted_in, posted_out}
use Rattle.scen_words.specs.declared.command.Command.{Command}
use Rattle.scen_words.specs.declared.command.Command.TheVariants as command
use Rattle.tap_trace.specs.declared.answer.Answer.{Answer}
use Rattle.tap_trace.specs.declared.answer.Answer.TheVariants as answer
use Rattle.tap_trace.specs.declared.causes.DriveText.{DriveText}
use Rattle.tap_trace.specs.declared.causes.DriveText.TheVariants as drive_text
use Rattle.tap_trace.specs.declared.kind.Kind.{Kind}
use Rattle.tap_trace.specs.declared.kind.Kind.TheVariants as kind
use Rattle.tap_ground.specs.Options.{◌>>=◌, only_if}
use Rattle.tap_world.specs.ByNumber.{at}
use Rattle.tap_world.specs.Guests.{Vhost, driver_of, is_free_for, is_ring, vhost_answer, with_driver}
use Rattle.tap_world.specs.World.{World}
use Rattle.tap_world.specs.Effect.{Effect, only}
use Rattle.tap_world.specs.Effect.OnGuests.{NoGuest, OnGuest}
use Rattle.tap_world.specs.Effect.OnVhosts.{OnVhost}
use Rattle.tap_world.specs.Effect.Onward.{Ends}

-- ---- bytes of a guest

-- the memory after a poke, and its answer, which names the first address that isn't there
abbrev pub poke_leaves : Contents → ℕ → List ℕ → Option ℕ → Contents
poke_leaves m addr bytes None = written m addr bytes
poke_leaves m addr bytes (Some bad) = m

abbrev pub poke_told : Option ℕ → Answer
poke_told None = answer.Done
poke_told (Some bad) = answer.Fault bad

abbrev pub poked : World → ℕ → ℕ → ℕ → List ℕ → Contents → Option ℕ → Effect
poked w seen guest addr bytes m bad =
    record (only (Ends seen (poke_told bad)) w)
    { guests = OnGuest guest (poke_leaves m addr bytes bad) (Some kind.Poke) }

abbrev pub peeked : ℕ → ℕ → Contents → Option ℕ → Answer
peeked addr len m None = answer.Peeked (bytes_from m.bytes addr len)
peeked addr len m (Some bad) = answer.Fault bad

-- Poke and Peek: the bytes, or the first address that isn't there
abbrev pub pokes : World → ℕ → Command → Option Effect
pokes w seen (command.Poke guest addr bytes) = do
  g ← at w.guests guest
  Some (poked w seen guest addr bytes g.memory (first_bad g.memory.regions addr (length bytes)))
pokes w seen (command.Peek guest addr len) = do
  g ← at w.guests guest
  Some (record (only (Ends seen (peeked addr len g.memory (first_bad g.memory.regions addr len))) w)
      { guests = OnGuest guest g.memory (Some kind.Peek) })
pokes w seen other = None

-- ---- a call on a vhost or a driver

-- what a call makes of the vhost and of its guest's memory, its answer, and its step
pub record Call : Type 0 where
  pub vhost : Vhost
  pub memory : Contents
  pub answer : Answer
  pub step : Option Kind

-- a control call that may be refused: the settings stay where it is; a ring that there isn't has no step
abbrev pub told_by : Option VhostErr → Answer → Option Answer
told_by None x = Some x
told_by (Some e) x = vhost_answer e

abbrev pub called : Option VhostErr → Settings → Answer → Option Kind → Vhost → Contents → Option Call
called refusal changed x step v m = do
  told ← told_by refusal x
  Some (record {
    vhost = record v { settings = chosen refusal v.settings changed };
    memory = m;
    answer = told;
    step = step;
  })

abbrev pub on_ring : ℕ → Kind → Option Kind
on_ring ring k = only_if (is_ring ring) k

-- ---- drivers

-- the words in which a trace tells refusals; want of memory has none
abbrev pub drive_told : DriveErr → Option DriveText
drive_told drive_err.Unaligned = Some drive_text.Unaligned
drive_told (drive_err.Outside bad) = Some (drive_text.Outside bad)
drive_told drive_err.NoMemory = None

abbrev pub post_told : PostErr → Option DriveText
post_told (post_err.TooLong len) = Some (drive_text.TooLong len)
post_told (post_err.Full need free) = Some (drive_text.Full need free)
post_told post_err.NoMemory = None

-- what a driver's call leaves: its books, the memory, and the answer
abbrev pub driven : ℕ → Kind → Vhost → Books → Contents → Answer → Call
driven ring k v b m x = record { vhost = with_driver ring b v; memory = m; answer = x; step = Some k }

abbrev pub undriven : Kind → Vhost → Contents → Answer → Call
undriven k v m x = record { vhost = v; memory = m; answer = x; step = Some k }

-- a call that is refused leaves all as it is
abbrev pub refused : Kind → Vhost → Contents → Option DriveText → Option Call
refused k v m told = option_map (λ x. undriven k v m (answer.Drive x)) told

-- a driver is set up with the ring's number and event indexes of now
abbrev pub drives : ℕ → ℕ → ℕ → Vhost → Contents → Option Call
drives vhost ring addr v m =
    let q = (ring_at ring v.settings).queue.layout in
    option_map_or (λ e. refused (kind.Drive vhost ring) v m (drive_told e)) (drive_refusal m addr q.num)
    (Some (driven ring (kind.Drive vhost ring) v (first_books addr q.num q.event) m answer.Done))

abbrev pub posts : ℕ → ℕ → Option PostErr → ℕ → Contents → Books → Vhost → Contents → Option Call
posts vhost ring (Some e) need after b v m = refused (kind.Post vhost ring) v m (post_told e)
posts vhost ring None need after b v m =
    Some (driven ring (kind.Post vhost ring) v (sent_out need b) after (answer.Posted (head_of (chain_of need b))))

abbrev pub harvest_told : Harvest → Answer
harvest_told h = option_map_or (λ id. answer.Drive (drive_text.Stray id)) h.stray (answer.Harvested h.found)

abbrev pub harvests : ℕ → ℕ → Books → Vhost → Contents → Call
harvests vhost ring b v m =
    driven ring (kind.Harvest vhost ring) v (harvested m b).books (harvested_in m b) (harvest_told (harvested m b))

-- without a driver
abbrev pub with_books : Kind → Vhost → Contents → Option Books → (Books → Option Call) → Option Call
with_books k v m None call = Some (undriven k v m answer.NoDriver)
with_books k v m (Some b) call = call b

-- a call of a ring's driver
abbrev pub driver_call : Command → Vhost → Contents → Option Call
driver_call (command.DriveAt vhost ring addr) v m = drives vhost ring addr v m
driver_call (command.PostIn vhost ring lens) v m =
    with_books (kind.Post vhost ring) v m (driver_of ring v)
    (λ b. posts vhost ring (post_in_refusal lens b) (length lens) (posted_in b lens m) b v m)
driver_call (command.PostOut vhost ring bytes) v m =
    with_books (kind.Post vhost ring) v m (driver_of ring v)
    (λ b. posts vhost ring (post_out_refusal (length bytes) b) (full_pieces (length bytes) + 1)
    (posted_out b bytes m) b v m)
driver_call (command.Harvest vhost ring) v m =
    with_books (kind.Harvest vhost ring) v m (driver_of ring v) (λ b. Some (harvests vhost ring b v m))
driver_call other v m = None

-- ---- Drive, of one whole call

abbrev pub call_of : Command → Vhost → Contents → Option Call
call_of (command.Features vhost bits) v m =
    called (features_refusal bits v.settings) (with_features bits v.settings) answer.Done
    (Some (kind.Features vhost)) v m
call_of (command.VNum vhost ring n) v m =
    called (num_refusal ring n v.settings) (with_num ring n v.settings) answer.Done
    (on_ring ring (kind.Num vhost ring)) v m
call_of (command.VBase vhost ring n) v m =
    called (base_refusal ring n v.settings) (with_base ring n v.settings) answer.Done
    (on_ring ring (kind.Base vhost ring)) v m
call_of (command.VAddr vhost ring desc avail used) v m =
    called (addr_refusal ring desc avail used m v.settings)
    (with_addr ring desc avail used v.settings) answer.Done
    (on_ring ring (kind.Addr vhost ring)) v m
call_of (command.GetBase vhost ring) v m =
    called (number_refusal ring) v.settings (answer.Base (ring_at ring v.settings).queue.positions.next)
    (on_ring ring (kind.GetBase vhost ring)) v m
call_of other v m = driver_call other v m

-- a control call waits for the ring's turn, `features` for both; a driver's call doesn't
abbrev pub may_call : ℕ → Command → Vhost → Bool
may_call actor (command.Features vhost bits) v = is_free_for actor 0 v && is_free_for actor 1 v
may_call actor (command.VNum vhost ring n) v = is_free_for actor ring v
may_call actor (command.VBase vhost ring n) v = is_free_for actor ring v
may_call actor (command.VAddr vhost ring desc avail used) v = is_free_for actor ring v
may_call actor (command.GetBase vhost ring) v = is_free_for actor ring v
may_call actor other v = true

abbrev pub call_effect : World → ℕ → ℕ → ℕ → Call → Effect
call_effect w seen vhost guest c = record (only (Ends seen c.answer) w) {
  guests = option_map_or (λ k. OnGuest guest c.memory (Some k)) c.step NoGuest;
  vhosts = OnVhost vhost c.vhost;
}

-- the vhost of a command that is one Drive
abbrev pub driven_vhost : Command → Option ℕ
driven_vhost (command.Features vhost bits) = Some vhost
driven_vhost (command.VNum vhost ring n) = Some vhost
driven_vhost (command.VBase vhost ring n) = Some vhost
driven_vhost (command.VAddr vhost ring desc avail used) = Some vhost
driven_vhost (command.GetBase vhost ring) = Some vhost
driven_vhost (command.DriveAt vhost ring addr) = Some vhost
driven_vhost (command.PostIn vhost ring lens) = Some vhost
driven_vhost (command.PostOut vhost ring bytes) = Some vhost
driven_vhost (command.Harvest vhost ring) = Some vhost
driven_vhost other = None

abbrev pub calls : World → ℕ → ℕ → Command → Option Effect
calls w actor seen c = do
  vhost ← driven_vhost c
  v ← at w.vhosts vhost
  g ← at w.guests v.guest
  x ← call_of c v g.memory
  only_if (may_call actor c v) (call_effect w seen vhost v.guest x)
