-- The refusals of vhosts and of their drivers have words, for none of them is want of memory.
use Rattle.std.proofs.Common.{◌≡◌, ℕ, ◌+◌, ◌%◌, List, [], ◌∷◌, Bool, true, false, not, Option, Some, None, refl, option_map}
use Rattle.std.specs.Prelude.{if◌then◌else◌, ◌==◌, ◌||◌, is_some, length, unwrap_or, IfSome, nat_lt}
use Rattle.std.specs.List.{AllByRecursion, find}
use Rattle.std.specs.Option.{option_or}
use Rattle.guest_mem.specs.Memory.{Contents}
use Rattle.guest_mem.specs.Memory.{first_bad}
use Rattle.vhost_dev.specs.declared.error.VhostErr.{VhostErr}
use Rattle.vhost_dev.specs.declared.error.VhostErr.TheVariants.{EBUSY, EFAULT, EHDR, EINVAL, ENOBUFS, ENOTSUP}
use Rattle.vhost_dev.specs.Refusals.{addr_refusal, base_refusal, features_refusal, is_astray, is_backed, is_bad_position, is_bad_size, is_no_ring, is_outside, is_unaligned, num_refusal, number_refusal, ready_refusal}
use Rattle.vhost_dev.specs.Settings.{Settings, asks_more, hdr_of, ring_at}
use Rattle.vring_drive.specs.declared.error.DriveErr.TheVariants as drive_err
use Rattle.vring_drive.specs.declared.error.PostErr.{PostErr}
use Rattle.vring_drive.specs.declared.error.PostErr.TheVariants as post_err
use Rattle.vring_drive.specs.Area.{area_len, drive_refusal, slot_len}
use Rattle.vring_drive.specs.Books.{Books}
use Rattle.vring_drive.specs.Posts.{full_pieces, full_refusal, post_in_refusal, post_out_refusal, told}
use Rattle.tap_ground.specs.Options.{first_that_holds}
use Rattle.tap_world.specs.Frames.{Front}
use Rattle.tap_world.specs.Guests.{vhost_answer}
use Rattle.tap_world.specs.StepBackend.{unfit_for}
use Rattle.tap_world.specs.StepControl.{drive_told, post_told}

-- ---- of a vhost

abbrev pub HasWords : Option VhostErr → Type 0
HasWords o = IfSome o (λ e. is_some (vhost_answer e) ≡ true)

worded : (rows : List (Bool × VhostErr)) → AllByRecursion (λ (r : Bool × VhostErr). is_some (vhost_answer r.1) ≡ true)
    rows → HasWords (first_that_holds rows)
worded [] h = tt
worded (r ∷ rs) h = go r.0 (first_that_holds rs) h.0 (worded rs h.1)
  where
    go : (b : Bool) (rest : Option VhostErr) → is_some (vhost_answer r.1) ≡ true → HasWords rest
        → HasWords (if b then Some r.1 else rest)
    go true rest h k = h
    go false rest h k = k

pub features_words : (bits : ℕ) (s : Settings) → HasWords (features_refusal bits s)
features_words bits s = worded ((is_backed s.rx || is_backed s.tx, EBUSY) ∷ (asks_more bits, ENOTSUP) ∷ [])
    (refl, (refl, tt))

pub num_words : (r num : ℕ) (s : Settings) → HasWords (num_refusal r num s)
num_words r num s = worded ((is_no_ring r, ENOBUFS) ∷ (is_backed (ring_at r s), EBUSY) ∷ (is_bad_size num, EINVAL)
    ∷ []) (refl, (refl, (refl, tt)))

pub base_words : (r base : ℕ) (s : Settings) → HasWords (base_refusal r base s)
base_words r base s = worded ((is_no_ring r, ENOBUFS) ∷ (is_backed (ring_at r s), EBUSY)
    ∷ (is_bad_position base, EINVAL) ∷ []) (refl, (refl, (refl, tt)))

pub addr_words : (r desc avail used : ℕ) (m : Contents) (s : Settings) → HasWords (addr_refusal r desc avail used m s)
addr_words r desc avail used m s = worded
    ((is_no_ring r, ENOBUFS) ∷ (is_backed (ring_at r s), EBUSY) ∷ (is_unaligned desc avail used, EINVAL)
    ∷ (is_outside (ring_at r s).queue.layout.num desc avail used m, EFAULT) ∷ []) (refl, (refl, (refl, (refl, tt))))

pub ready_words : (r : ℕ) (m : Contents) (s : Settings) → HasWords (ready_refusal r m s)
ready_words r m s = worded
    ((is_no_ring r, ENOBUFS) ∷ (is_backed (ring_at r s), EBUSY) ∷ (is_astray (ring_at r s).queue.layout m, EFAULT)
    ∷ []) (refl, (refl, (refl, tt)))

pub number_words : (r : ℕ) → HasWords (number_refusal r)
number_words r = worded ((is_no_ring r, ENOBUFS) ∷ []) (refl, tt)

pub fit_words : (front : Option Front) (s : Settings) → HasWords (unfit_for front s)
fit_words None s = tt
fit_words (Some front) s = worded
    ((front.0 || not (unwrap_or front.1 0 == hdr_of s), EHDR (hdr_of s) (unwrap_or front.1 0)) ∷ []) (refl, tt)

-- ---- of its drivers

pub drive_words : (m : Contents) (start num : ℕ)
    → IfSome (drive_refusal m start num) (λ e. is_some (drive_told e) ≡ true)
drive_words m start num = go (not (start % 16 == 0)) (first_bad m.regions start (area_len num))
  where
    go : (b : Bool) (o : Option ℕ) → IfSome (if b then Some drive_err.Unaligned else option_map drive_err.Outside o)
        (λ e. is_some (drive_told e) ≡ true)
    go true o = refl
    go false None = tt
    go false (Some bad) = refl

abbrev pub HasPostWords : Option PostErr → Type 0
HasPostWords o = IfSome o (λ e. is_some (post_told e) ≡ true)

full_words : (need : ℕ) (b : Books) → HasPostWords (full_refusal need b)
full_words need b = go (nat_lt (length b.free) need)
  where
    go : (t : Bool) → HasPostWords (if t then Some (post_err.Full (told need) (told (length b.free))) else None)
    go true = refl
    go false = tt

pub post_out_words : (len : ℕ) (b : Books) → HasPostWords (post_out_refusal len b)
post_out_words len b = full_words (full_pieces len + 1) b

pub post_in_words : (lens : List ℕ) (b : Books) → HasPostWords (post_in_refusal lens b)
post_in_words lens b = go (find (λ n. nat_lt slot_len n) lens) (full_refusal (length lens) b)
    (full_words (length lens) b)
  where
    go : (o : Option ℕ) (p : Option PostErr) → HasPostWords p
        → HasPostWords (option_or (option_map post_err.TooLong o) p)
    go None p h = h
    go (Some len) p h = refl
