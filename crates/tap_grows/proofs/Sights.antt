-- Version, places given out, places that nothing waits below, and steps only rise.
use Rattle.std.proofs.Common.{◌≡◌, ℕ, ◌+◌, ◌≤◌, List, length, Option, Some, None, refl, ap, arith, length-append}
use Rattle.std.specs.Option.{option_map_or}
use Rattle.tap_world.specs.ByNumber.{at}
use Rattle.tap_world.specs.Guests.{Guest}
use Rattle.tap_world.specs.Line.{File, claimed, first_that, is_kept}
use Rattle.tap_world.specs.Setup.{Setup}
use Rattle.tap_world.specs.World.{World}
use Rattle.tap_grows.specs.Grows.{Continues, FileGrows, Grows, GuestGrows, Stay}
use Rattle.tap_grows.specs.Sights.{HasRisen, IsLeftTo, left_to}
use Rattle.tap_grows.proofs.Lines.{gone_below, kept_from, kept_rises, kept_to}

pub no_shorter : {A : Type 0} (xs ys : List A) → Continues xs ys → length xs ≤ length ys
no_shorter xs ys h =
    let is = ap (λ (l : List _). length l) h.1 in let many = length-append xs h.0 in omega (arith, is, many)

-- a number of what has a number rises, where it rises as what stays does
number_rises : {A : Type 0} (R : A → A → Type 0) (n : A → ℕ) → ((x y : A) → R x y → n x ≤ n y) → (xs ys : List (Option A))
    → Stay R xs ys → (k : ℕ) → option_map_or n (at xs k) 0 ≤ option_map_or n (at ys k) 0
number_rises R n up xs ys h k = go (at xs k) refl
  where
    go : (o : Option _) → at xs k ≡ o → option_map_or n o 0 ≤ option_map_or n (at ys k) 0
    go None is = omega arith
    go (Some x) is =
        let y = h k x is in
        let more = up x y.0 y.2 in
        let same : option_map_or n (at ys k) 0 ≡ n y.0 = ap (λ (o : Option _). option_map_or n o 0) y.1 in
        omega (arith, more, same)

claimed_rises : (f g : File) → FileGrows f g → claimed f ≤ claimed g
claimed_rises f g h = let first = h.first in let more = h.longer in omega (arith, first, more)

left_is : (f : File) → left_to f ≡ f.first + kept_from f.line
left_is f = go (first_that is_kept f.line)
  where
    go : (o : Option ℕ) → option_map_or (λ i. f.first + i) o (claimed f) ≡ f.first + option_map_or (λ i. i) o (length f.line)
    go None = refl
    go (Some i) = refl

pub files_are_left : (f : File) → IsLeftTo f
files_are_left f =
    let is = left_is f in
    let most = kept_to f.line in
    record {
      below = λ i e get less. gone_below f.line i e get (omega (arith, is, less));
      most = omega (arith, is, most);
    }

left_rises : (f g : File) → FileGrows f g → left_to f ≤ left_to g
left_rises f g h =
    let first = h.first in
    let more = kept_rises f.line g.line h.entries in
    let was = left_is f in
    let is = left_is g in
    omega (arith, first, more, was, is)

steps_rise : (g h : Guest) → GuestGrows g h → length g.steps ≤ length h.steps
steps_rise g h k = no_shorter g.steps h.steps k.steps

pub sights_rise : (s : Setup) (w u : World) → Grows s w u → HasRisen w u
sights_rise s w u h = record {
  version = no_shorter w.ops u.ops h.ops;
  put = number_rises FileGrows claimed claimed_rises w.files u.files h.files;
  out = number_rises FileGrows left_to left_rises w.files u.files h.files;
  steps = number_rises GuestGrows (λ (g : Guest). length g.steps) steps_rise w.guests u.guests h.guests;
}
