-- A call of one driver is the call of its ring.
use Rattle.std.proofs.Common.{◌≡◌, ℕ, ◌==◌, Bool, true, false, Option, Some, None, option_map, refl, ap, subst, sym, ◌∙◌, ◌+◌, List, length, if◌then◌else◌}
use Rattle.guest_mem.specs.Memory.{Contents}
use Rattle.vring_drive.specs.declared.error.PostErr.{PostErr}
use Rattle.vring_drive.specs.Books.{Books}
use Rattle.vring_drive.specs.Posts.{full_pieces, post_in_refusal, post_out_refusal, posted_in, posted_out}
use Rattle.scen_words.specs.declared.command.Command.TheVariants as command
use Rattle.tap_trace.specs.declared.causes.DriveText.{DriveText}
use Rattle.tap_trace.specs.declared.answer.Answer.TheVariants as answer
use Rattle.tap_trace.specs.declared.answer.Answer.{Answer}
use Rattle.tap_trace.specs.declared.kind.Kind.{Kind}
use Rattle.tap_trace.specs.declared.kind.Kind.TheVariants as kind
use Rattle.tap_world.specs.Guests.{Vhost, driver_of}
use Rattle.tap_world.specs.StepControl.{Call, call_of, posts, undriven, with_books, post_told}
use Rattle.tap_guests.specs.Drivers.{DriverCall, by_driver, harvests_by, posts_by, posts_in, posts_out, set_driver}

-- the call of the ring whose driver did so
abbrev pub ring_call : ℕ → Kind → Vhost → DriverCall → Call
ring_call ring k v d =
    record { vhost = set_driver ring d.driver v; memory = d.memory; answer = d.answer; step = Some k }

-- a driver that stays leaves the vhost as it was
stays : (ring : ℕ) (v : Vhost) → set_driver ring (driver_of ring v) v ≡ v
stays ring v = by_side (ring == 0) where
  by_side : (b : Bool)
      → (if b then record v { rx_driver = if b then v.rx_driver else v.tx_driver }
      else record v { tx_driver = if b then v.rx_driver else v.tx_driver }) ≡ v
  by_side true = refl
  by_side false = refl

stays_as : (ring : ℕ) (v : Vhost) (o : Option Books) → driver_of ring v ≡ o → set_driver ring o v ≡ v
stays_as ring v o is = subst (λ (x : Option Books). set_driver ring x v ≡ v) is (stays ring v)

-- a call by a driver of its own, that is the ring's call with that driver, is the ring's
by_books :
    (ring : ℕ) (k : Kind) (v : Vhost) (m : Contents) (o : Option Books)
    (one : Books → Option DriverCall) (whole : Books → Option Call)
    → driver_of ring v ≡ o
    → ((b : Books) → driver_of ring v ≡ Some b → whole b ≡ option_map (ring_call ring k v) (one b))
    → with_books k v m o whole ≡ option_map (ring_call ring k v) (by_driver m one o)
by_books ring k v m None one whole is each =
    λ i. Some (record { vhost = sym (stays_as ring v None is) i; memory = m; answer = answer.NoDriver; step = Some k })
by_books ring k v m (Some b) one whole is each = each b is

-- a post
posts_are :
    (vhost ring : ℕ) (e : Option PostErr) (need : ℕ) (after m : Contents) (v : Vhost) (b : Books)
    → driver_of ring v ≡ Some b
    → posts vhost ring e need after b v m
    ≡ option_map (ring_call ring (kind.Post vhost ring) v) (posts_by e need after m b)
posts_are vhost ring None need after m v b is = refl
posts_are vhost ring (Some e) need after m v b is = by_words (post_told e) where
  same : set_driver ring (Some b) v ≡ v
  same = stays_as ring v (Some b) is

  by_words : (told : Option DriveText)
      → option_map (λ x. undriven (kind.Post vhost ring) v m (answer.Drive x)) told
      ≡ option_map (ring_call ring (kind.Post vhost ring) v)
      (option_map (λ x. record { driver = Some b; memory = m; answer = answer.Drive x }) told)
  by_words None = refl
  by_words (Some x) = λ i. Some (record {
    vhost = sym same i;
    memory = m;
    answer = answer.Drive x;
    step = Some (kind.Post vhost ring);
  })

-- the whole calls
pub post_in_is :
    (vhost ring : ℕ) (lens : List ℕ) (v v' : Vhost) (m m' : Contents) (x : Answer)
    → by_driver m (posts_in lens m) (driver_of ring v)
    ≡ Some (record { driver = driver_of ring v'; memory = m'; answer = x })
    → v' ≡ set_driver ring (driver_of ring v') v
    → call_of (command.PostIn vhost ring lens) v m
    ≡ Some (record { vhost = v'; memory = m'; answer = x; step = Some (kind.Post vhost ring) })
post_in_is vhost ring lens v v' m m' x did new =
    by_books ring (kind.Post vhost ring) v m (driver_of ring v) (posts_in lens m) _ refl
    (λ b is. posts_are vhost ring (post_in_refusal lens b) (length lens) (posted_in b lens m) m v b is)
    ∙ ap (option_map (ring_call ring (kind.Post vhost ring) v)) did
    ∙ λ i. Some (record { vhost = sym new i; memory = m'; answer = x; step = Some (kind.Post vhost ring) })

pub post_out_is :
    (vhost ring : ℕ) (bytes : List ℕ) (v v' : Vhost) (m m' : Contents) (x : Answer)
    → by_driver m (posts_out bytes m) (driver_of ring v)
    ≡ Some (record { driver = driver_of ring v'; memory = m'; answer = x })
    → v' ≡ set_driver ring (driver_of ring v') v
    → call_of (command.PostOut vhost ring bytes) v m
    ≡ Some (record { vhost = v'; memory = m'; answer = x; step = Some (kind.Post vhost ring) })
post_out_is vhost ring bytes v v' m m' x did new =
    by_books ring (kind.Post vhost ring) v m (driver_of ring v) (posts_out bytes m) _ refl
    (λ b is. posts_are vhost ring (post_out_refusal (length bytes) b) (full_pieces (length bytes) + 1)
    (posted_out b bytes m) m v b is)
    ∙ ap (option_map (ring_call ring (kind.Post vhost ring) v)) did
    ∙ λ i. Some (record { vhost = sym new i; memory = m'; answer = x; step = Some (kind.Post vhost ring) })

pub harvest_is :
    (vhost ring : ℕ) (v v' : Vhost) (m m' : Contents) (x : Answer)
    → by_driver m (harvests_by m) (driver_of ring v)
    ≡ Some (record { driver = driver_of ring v'; memory = m'; answer = x })
    → v' ≡ set_driver ring (driver_of ring v') v
    → call_of (command.Harvest vhost ring) v m
    ≡ Some (record { vhost = v'; memory = m'; answer = x; step = Some (kind.Harvest vhost ring) })
harvest_is vhost ring v v' m m' x did new =
    by_books ring (kind.Harvest vhost ring) v m (driver_of ring v) (harvests_by m) _ refl (λ b is. refl)
    ∙ ap (option_map (ring_call ring (kind.Harvest vhost ring) v)) did
    ∙ λ i. Some (record { vhost = sym new i; memory = m'; answer = x; step = Some (kind.Harvest vhost ring) })
