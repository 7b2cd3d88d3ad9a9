-- What a call on a vhost or a driver makes of the vhost.
use Rattle.std.proofs.Common.{◌≡◌, ℕ, Bool, true, false, Option, Some, None, refl}
use Rattle.std.specs.Prelude.{if◌then◌else◌, ◌==◌}
use Rattle.guest_mem.specs.Memory.{Contents}
use Rattle.vhost_dev.specs.declared.error.VhostErr.{VhostErr}
use Rattle.vhost_dev.specs.Calls.{with_addr, with_base, with_features, with_num}
use Rattle.vhost_dev.specs.Refusals.{addr_refusal, base_refusal, features_refusal, num_refusal, number_refusal}
use Rattle.vring_drive.specs.declared.error.DriveErr.{DriveErr}
use Rattle.vring_drive.specs.declared.error.PostErr.{PostErr}
use Rattle.vring_drive.specs.Area.{drive_refusal}
use Rattle.vring_drive.specs.Books.{Books, first_books}
use Rattle.std.specs.Option.{option_map_or}
use Rattle.tap_trace.specs.declared.answer.Answer.TheVariants as answer
use Rattle.vring_drive.specs.Posts.{full_pieces, post_in_refusal, post_out_refusal, posted_in, posted_out}
use Rattle.std.specs.Prelude.{length, ◌+◌}
use Rattle.vhost_dev.specs.Settings.{Settings, ring_at}
use Rattle.scen_words.specs.declared.command.Command.{Command}
use Rattle.scen_words.specs.declared.command.Command.TheVariants as command
use Rattle.tap_trace.specs.declared.answer.Answer.{Answer}
use Rattle.tap_trace.specs.declared.kind.Kind.{Kind}
use Rattle.tap_trace.specs.declared.kind.Kind.TheVariants as kind
use Rattle.tap_world.specs.Guests.{Vhost, driver_of, vhost_answer}
use Rattle.tap_world.specs.StepControl.{Call, call_of, called, drive_told, driven, post_told, posts, refused, with_books}
use Rattle.tap_sound.proofs.Kit.{WhereSome, where_some, where_then}
use Rattle.tap_trace.specs.declared.causes.DriveText.{DriveText}

pub data Called (c : Command) (v : Vhost) (m : Contents) (x : Call) : Type 0 where
  Untouched : x.vhost.settings ≡ v.settings → x.vhost.guest ≡ v.guest → x.vhost.rx_turn ≡ v.rx_turn → x.vhost.tx_turn ≡ v.tx_turn → Called c v m x
  Features : (vhost bits : ℕ) → c ≡ command.Features vhost bits → features_refusal bits v.settings ≡ None
      → x.vhost ≡ record v { settings = with_features bits v.settings } → Called c v m x
  Num : (vhost ring n : ℕ) → c ≡ command.VNum vhost ring n → num_refusal ring n v.settings ≡ None
      → x.vhost ≡ record v { settings = with_num ring n v.settings } → Called c v m x
  Base : (vhost ring n : ℕ) → c ≡ command.VBase vhost ring n → base_refusal ring n v.settings ≡ None
      → x.vhost ≡ record v { settings = with_base ring n v.settings } → Called c v m x
  Addr : (vhost ring desc avail used : ℕ) → c ≡ command.VAddr vhost ring desc avail used → addr_refusal ring desc avail used m v.settings ≡ None
      → x.vhost ≡ record v { settings = with_addr ring desc avail used v.settings } → Called c v m x

driver_rests : (c : Command) (m : Contents) (k : Kind) (ring : ℕ) (b : Books) (v : Vhost) (n : Contents) (x : Answer) → Called c v m (driven ring k v b n x)
driver_rests c m k ring b v n x = go (ring == 0)
  where
    go : (t : Bool) → Called c v m (record { vhost = if t then record v { rx_driver = Some b } else record v { tx_driver = Some b }; memory = n; answer = x; step = Some k })
    go true = Untouched refl refl refl refl
    go false = Untouched refl refl refl refl

with_books_rests : (c : Command) (k : Kind) (v : Vhost) (m : Contents) (o : Option Books) (call : Books → Option Call) → ((b : Books) → WhereSome (Called c v m) (call b))
    → WhereSome (Called c v m) (with_books k v m o call)
with_books_rests c k v m None call h = Untouched refl refl refl refl
with_books_rests c k v m (Some b) call h = h b

refused_rests : (c : Command) (k : Kind) (v : Vhost) (m : Contents) (o : Option DriveText) → WhereSome (Called c v m) (refused k v m o)
refused_rests c k v m None = tt
refused_rests c k v m (Some x) = Untouched refl refl refl refl

posts_rest : (c : Command) (vhost ring : ℕ) (o : Option PostErr) (need : ℕ) (after : Contents) (b : Books) (v : Vhost) (m : Contents)
    → WhereSome (Called c v m) (posts vhost ring o need after b v m)
posts_rest c vhost ring (Some e) need after b v m = refused_rests c (kind.Post vhost ring) v m (post_told e)
posts_rest c vhost ring None need after b v m = driver_rests c m (kind.Post vhost ring) ring _ v after _

-- a call that is refused leaves the vhost
refusal_rests : (c : Command) (e : VhostErr) (changed : Settings) (y : Answer) (k : Option Kind) (v : Vhost) (m : Contents) → WhereSome (Called c v m) (called (Some e) changed y k v m)
refusal_rests c e changed y k v m = where_then (Called c v m) (vhost_answer e) _ (λ told q. Untouched refl refl refl refl)

pub called_is : (c : Command) (v : Vhost) (m : Contents) (x : Call) → call_of c v m ≡ Some x → Called c v m x
called_is (command.Features vhost bits) v m x e = where_some (Called (command.Features vhost bits) v m) (call_of (command.Features vhost bits) v m) x (go (features_refusal bits v.settings) _ _ refl) e
  where
    go : (o : Option VhostErr) (y : Answer) (k : Option Kind) → features_refusal bits v.settings ≡ o
        → WhereSome (Called (command.Features vhost bits) v m) (called o (with_features bits v.settings) y k v m)
    go None y k is = Features vhost bits refl is refl
    go (Some r) y k is = refusal_rests (command.Features vhost bits) r (with_features bits v.settings) y k v m
called_is (command.VNum vhost ring n) v m x e = where_some (Called (command.VNum vhost ring n) v m) (call_of (command.VNum vhost ring n) v m) x (go (num_refusal ring n v.settings) _ _ refl) e
  where
    go : (o : Option VhostErr) (y : Answer) (k : Option Kind) → num_refusal ring n v.settings ≡ o
        → WhereSome (Called (command.VNum vhost ring n) v m) (called o (with_num ring n v.settings) y k v m)
    go None y k is = Num vhost ring n refl is refl
    go (Some r) y k is = refusal_rests (command.VNum vhost ring n) r (with_num ring n v.settings) y k v m
called_is (command.VBase vhost ring n) v m x e = where_some (Called (command.VBase vhost ring n) v m) (call_of (command.VBase vhost ring n) v m) x (go (base_refusal ring n v.settings) _ _ refl) e
  where
    go : (o : Option VhostErr) (y : Answer) (k : Option Kind) → base_refusal ring n v.settings ≡ o
        → WhereSome (Called (command.VBase vhost ring n) v m) (called o (with_base ring n v.settings) y k v m)
    go None y k is = Base vhost ring n refl is refl
    go (Some r) y k is = refusal_rests (command.VBase vhost ring n) r (with_base ring n v.settings) y k v m
called_is (command.VAddr vhost ring desc avail used) v m x e =
    where_some (Called (command.VAddr vhost ring desc avail used) v m) (call_of (command.VAddr vhost ring desc avail used) v m) x (go (addr_refusal ring desc avail used m v.settings) _ _ refl) e
  where
    go : (o : Option VhostErr) (y : Answer) (k : Option Kind) → addr_refusal ring desc avail used m v.settings ≡ o
        → WhereSome (Called (command.VAddr vhost ring desc avail used) v m) (called o (with_addr ring desc avail used v.settings) y k v m)
    go None y k is = Addr vhost ring desc avail used refl is refl
    go (Some r) y k is = refusal_rests (command.VAddr vhost ring desc avail used) r (with_addr ring desc avail used v.settings) y k v m
called_is (command.GetBase vhost ring) v m x e = where_some (Called (command.GetBase vhost ring) v m) (call_of (command.GetBase vhost ring) v m) x (go (number_refusal ring) _ _) e
  where
    go : (o : Option VhostErr) (y : Answer) (k : Option Kind) → WhereSome (Called (command.GetBase vhost ring) v m) (called o v.settings y k v m)
    go None y k = Untouched refl refl refl refl
    go (Some r) y k = refusal_rests (command.GetBase vhost ring) r v.settings y k v m
called_is (command.DriveAt vhost ring addr) v m x e =
    where_some (Called (command.DriveAt vhost ring addr) v m) (call_of (command.DriveAt vhost ring addr) v m) x (go (drive_refusal m addr (ring_at ring v.settings).queue.layout.num)) e
  where
    go : (o : Option DriveErr) → WhereSome (Called (command.DriveAt vhost ring addr) v m) (option_map_or (λ r. refused (kind.Drive vhost ring) v m (drive_told r)) o
        (Some (driven ring (kind.Drive vhost ring) v
        (first_books addr (ring_at ring v.settings).queue.layout.num (ring_at ring v.settings).queue.layout.event) m answer.Done)))
    go None = driver_rests (command.DriveAt vhost ring addr) m (kind.Drive vhost ring) ring _ v m answer.Done
    go (Some r) = refused_rests (command.DriveAt vhost ring addr) (kind.Drive vhost ring) v m (drive_told r)
called_is (command.PostIn vhost ring lens) v m x e = where_some (Called (command.PostIn vhost ring lens) v m) (call_of (command.PostIn vhost ring lens) v m) x
    (with_books_rests (command.PostIn vhost ring lens) (kind.Post vhost ring) v m (driver_of ring v) _
    (λ b. posts_rest (command.PostIn vhost ring lens) vhost ring (post_in_refusal lens b) (length lens) (posted_in b lens m) b v m)) e
called_is (command.PostOut vhost ring bytes) v m x e = where_some (Called (command.PostOut vhost ring bytes) v m) (call_of (command.PostOut vhost ring bytes) v m) x
    (with_books_rests (command.PostOut vhost ring bytes) (kind.Post vhost ring) v m (driver_of ring v) _
    (λ b. posts_rest (command.PostOut vhost ring bytes) vhost ring (post_out_refusal (length bytes) b) (full_pieces (length bytes) + 1) (posted_out b bytes m) b v m)) e
called_is (command.Harvest vhost ring) v m x e = where_some (Called (command.Harvest vhost ring) v m) (call_of (command.Harvest vhost ring) v m) x
    (with_books_rests (command.Harvest vhost ring) (kind.Harvest vhost ring) v m (driver_of ring v) _
    (λ b. driver_rests (command.Harvest vhost ring) m (kind.Harvest vhost ring) ring _ v _ _)) e
called_is c v m x e = absurd (cc (e))
