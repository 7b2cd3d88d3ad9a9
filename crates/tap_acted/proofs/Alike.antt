-- A call on a vhost or a driver doesn't look at who holds the turns of rings.
use Rattle.std.proofs.Common.{◌≡◌, ℕ, ◌+◌, length, Bool, true, false, Option, Some, None, refl}
use Rattle.std.specs.Prelude.{◌==◌, if◌then◌else◌, option_map}
use Rattle.std.specs.Option.{option_map_or}
use Rattle.guest_mem.specs.Memory.{Contents}
use Rattle.vhost_dev.specs.declared.error.VhostErr.{VhostErr}
use Rattle.vhost_dev.specs.Calls.{chosen, with_addr, with_base, with_features, with_num}
use Rattle.vhost_dev.specs.Refusals.{addr_refusal, base_refusal, features_refusal, num_refusal, number_refusal}
use Rattle.vhost_dev.specs.Settings.{Settings, ring_at}
use Rattle.vring_drive.specs.declared.error.DriveErr.{DriveErr}
use Rattle.vring_drive.specs.declared.error.PostErr.{PostErr}
use Rattle.vring_drive.specs.Area.{drive_refusal}
use Rattle.vring_drive.specs.Books.{Books, first_books}
use Rattle.vring_drive.specs.Posts.{full_pieces, post_in_refusal, post_out_refusal, posted_in, posted_out}
use Rattle.scen_words.specs.declared.command.Command.TheVariants as command
use Rattle.tap_trace.specs.declared.answer.Answer.{Answer}
use Rattle.tap_trace.specs.declared.answer.Answer.TheVariants as answer
use Rattle.tap_trace.specs.declared.causes.DriveText.{DriveText}
use Rattle.tap_trace.specs.declared.kind.Kind.{Kind}
use Rattle.tap_trace.specs.declared.kind.Kind.TheVariants as kind
use Rattle.tap_ground.specs.Options.{◌>>=◌}
use Rattle.tap_world.specs.Guests.{Vhost, driver_of}
use Rattle.tap_world.specs.StepControl.{Call, called, drive_told, driven, harvests, on_ring, post_told, posts, refused, told_by, with_books}
use Rattle.tap_acted.specs.Laws.{CallsAreAlike, held_call}
use Rattle.tap_acted.specs.Standing.{held_by}

abbrev driven_if : Bool → Kind → Books → Contents → Answer → Vhost → Call
driven_if t k b n x v = record {
  vhost = if t then record v { rx_driver = Some b } else record v { tx_driver = Some b };
  memory = n;
  answer = x;
  step = Some k;
}

module _ (v : Vhost) (m : Contents) (rx tx : Option ℕ) where
  called_alike : (refusal : Option VhostErr) (changed : Settings) (x : Answer) (step : Option Kind)
      → called refusal changed x step (held_by rx tx v) m ≡ option_map (held_call rx tx) (called refusal changed x step v m)
  called_alike refusal changed x step = go (told_by refusal x)
    where
      go : (o : Option Answer)
          → (o >>= (λ (y : Answer). Some (record {
            vhost = record (held_by rx tx v) { settings = chosen refusal v.settings changed };
            memory = m;
            answer = y;
            step = step;
          })))
          ≡ option_map (held_call rx tx) (o >>= (λ (y : Answer). Some (record {
            vhost = record v { settings = chosen refusal v.settings changed };
            memory = m;
            answer = y;
            step = step;
          })))
      go None = refl
      go (Some y) = refl

  refused_alike : (k : Kind) (o : Option DriveText) → refused k (held_by rx tx v) m o ≡ option_map (held_call rx tx) (refused k v m o)
  refused_alike k None = refl
  refused_alike k (Some x) = refl

  driven_alike : (ring : ℕ) (k : Kind) (b : Books) (n : Contents) (x : Answer)
      → Some (driven ring k (held_by rx tx v) b n x) ≡ Some (held_call rx tx (driven ring k v b n x))
  driven_alike ring k b n x = go (ring == 0)
    where
      go : (t : Bool) → Some (driven_if t k b n x (held_by rx tx v)) ≡ Some (held_call rx tx (driven_if t k b n x v))
      go true = refl
      go false = refl

  books_alike : (k : Kind) (o : Option Books) (call was : Books → Option Call)
      → ((b : Books) → call b ≡ option_map (held_call rx tx) (was b))
      → with_books k (held_by rx tx v) m o call ≡ option_map (held_call rx tx) (with_books k v m o was)
  books_alike k None call was h = refl
  books_alike k (Some b) call was h = h b

  posts_alike : (vhost ring : ℕ) (o : Option PostErr) (need : ℕ) (after : Contents) (b : Books)
      → posts vhost ring o need after b (held_by rx tx v) m ≡ option_map (held_call rx tx) (posts vhost ring o need after b v m)
  posts_alike vhost ring (Some e) need after b = refused_alike (kind.Post vhost ring) (post_told e)
  posts_alike vhost ring None need after b = driven_alike ring (kind.Post vhost ring) _ after _

  drives_alike : (vhost ring addr : ℕ) (o : Option DriveErr) (b : Books)
      → option_map_or (λ (e : DriveErr). refused (kind.Drive vhost ring) (held_by rx tx v) m (drive_told e)) o
      (Some (driven ring (kind.Drive vhost ring) (held_by rx tx v) b m answer.Done))
      ≡ option_map (held_call rx tx) (option_map_or (λ (e : DriveErr). refused (kind.Drive vhost ring) v m (drive_told e)) o
      (Some (driven ring (kind.Drive vhost ring) v b m answer.Done)))
  drives_alike vhost ring addr None b = driven_alike ring (kind.Drive vhost ring) b m answer.Done
  drives_alike vhost ring addr (Some e) b = refused_alike (kind.Drive vhost ring) (drive_told e)

pub call_alike : CallsAreAlike
call_alike (command.Features vhost bits) v m rx tx =
    called_alike v m rx tx (features_refusal bits v.settings) (with_features bits v.settings) answer.Done (Some (kind.Features vhost))
call_alike (command.VNum vhost ring n) v m rx tx =
    called_alike v m rx tx (num_refusal ring n v.settings) (with_num ring n v.settings) answer.Done (on_ring ring (kind.Num vhost ring))
call_alike (command.VBase vhost ring n) v m rx tx =
    called_alike v m rx tx (base_refusal ring n v.settings) (with_base ring n v.settings) answer.Done (on_ring ring (kind.Base vhost ring))
call_alike (command.VAddr vhost ring desc avail used) v m rx tx =
    called_alike v m rx tx (addr_refusal ring desc avail used m v.settings) (with_addr ring desc avail used v.settings) answer.Done
    (on_ring ring (kind.Addr vhost ring))
call_alike (command.GetBase vhost ring) v m rx tx =
    called_alike v m rx tx (number_refusal ring) v.settings (answer.Base (ring_at ring v.settings).queue.positions.next)
    (on_ring ring (kind.GetBase vhost ring))
call_alike (command.DriveAt vhost ring addr) v m rx tx =
    drives_alike v m rx tx vhost ring addr (drive_refusal m addr (ring_at ring v.settings).queue.layout.num)
    (first_books addr (ring_at ring v.settings).queue.layout.num (ring_at ring v.settings).queue.layout.event)
call_alike (command.PostIn vhost ring lens) v m rx tx =
    books_alike v m rx tx (kind.Post vhost ring) (driver_of ring v) _ _
    (λ b. posts_alike v m rx tx vhost ring (post_in_refusal lens b) (length lens) (posted_in b lens m) b)
call_alike (command.PostOut vhost ring bytes) v m rx tx =
    books_alike v m rx tx (kind.Post vhost ring) (driver_of ring v) _ _
    (λ b. posts_alike v m rx tx vhost ring (post_out_refusal (length bytes) b) (full_pieces (length bytes) + 1) (posted_out b bytes m) b)
call_alike (command.Harvest vhost ring) v m rx tx =
    books_alike v m rx tx (kind.Harvest vhost ring) (driver_of ring v) (λ b. Some (harvests vhost ring b (held_by rx tx v) m))
    (λ b. Some (harvests vhost ring b v m)) (λ b. driven_alike v m rx tx ring (kind.Harvest vhost ring) _ _ _)
call_alike k v m rx tx = refl
