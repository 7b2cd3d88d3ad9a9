-- This project's own: each refusal of a vhost that isn't want of memory has words, and no refusal of the definitions is
-- want of memory.
use Rattle.std.specs.Prelude.{◌≡◌, ℕ, Bool, true, List, Option, Some, None, is_some, Result, Ok, Err}
use Rattle.guest_mem.specs.Memory.{Contents}
use Rattle.vhost_dev.specs.declared.error.VhostErr.{VhostErr}
use Rattle.vhost_dev.specs.Refusals.{features_refusal, num_refusal, base_refusal, addr_refusal, ready_refusal, number_refusal, fits_refusal}
use Rattle.vhost_dev.specs.Settings.{Settings}
use Rattle.vring_drive.specs.declared.error.DriveErr.{DriveErr}
use Rattle.vring_drive.specs.declared.error.PostErr.{PostErr}
use Rattle.vring_drive.specs.Area.{drive_refusal}
use Rattle.vring_drive.specs.Books.{Books}
use Rattle.vring_drive.specs.Posts.{post_in_refusal, post_out_refusal}
use Rattle.tap_trace.specs.declared.answer.Answer.{Answer}
use Rattle.tap_trace.specs.declared.answer.Answer.TheVariants as answer
use Rattle.tap_world.specs.Guests.{vhost_answer, vhost_text}
use Rattle.tap_world.specs.StepControl.{drive_told, post_told}

-- a refusal, where there is one, has words
abbrev pub HasWords : Option VhostErr → Type 0
HasWords None = Unit {0}
HasWords (Some e) = is_some (vhost_text e) ≡ true

-- the refusals of a vhost's calls have words
pub record VhostsTell : Type 0 where
  pub features : (bits : ℕ) (s : Settings) → HasWords (features_refusal bits s)
  pub num : (ring num : ℕ) (s : Settings) → HasWords (num_refusal ring num s)
  pub base : (ring base : ℕ) (s : Settings) → HasWords (base_refusal ring base s)
  pub addr : (ring desc avail used : ℕ) (m : Contents) (s : Settings) → HasWords (addr_refusal ring desc avail used m s)
  pub ready : (ring : ℕ) (m : Contents) (s : Settings) → HasWords (ready_refusal ring m s)
  pub number : (ring : ℕ) → HasWords (number_refusal ring)
  pub fits : (front : Bool × Option ℕ) (s : Settings) → HasWords (fits_refusal front s)

-- the refusals of a driver's calls have words
abbrev pub DriveHasWords : Option DriveErr → Type 0
DriveHasWords None = Unit {0}
DriveHasWords (Some e) = is_some (drive_told e) ≡ true

abbrev pub PostHasWords : Option PostErr → Type 0
PostHasWords None = Unit {0}
PostHasWords (Some e) = is_some (post_told e) ≡ true

pub record DriversTell : Type 0 where
  pub drive : (m : Contents) (start num : ℕ) → DriveHasWords (drive_refusal m start num)
  pub post_in : (lens : List ℕ) (b : Books) → PostHasWords (post_in_refusal lens b)
  pub post_out : (len : ℕ) (b : Books) → PostHasWords (post_out_refusal len b)

-- the answer to a control call that answered so; none where that has no words
abbrev pub answer_to : Result (Unit {0}) VhostErr → Option Answer
answer_to (Ok done) = Some answer.Done
answer_to (Err e) = vhost_answer e

-- the answer that tells the base of a ring
abbrev pub base_told : Result ℕ VhostErr → Option Answer
base_told (Ok base) = Some (answer.Base base)
base_told (Err e) = vhost_answer e
