-- This project's own: four numbers of a world, which only rise: its version; of each file, the places that were given
-- out, and the place that nothing waits below; and of each guest, its steps. Of what isn't there they are 0.
use Rattle.std.specs.Prelude.{◌≡◌, ℕ, ◌+◌, ◌≤◌, ◌<◌, false, length, slice_get, Some}
use Rattle.std.specs.Option.{option_map_or}
use Rattle.tap_world.specs.declared.line.Entry.{Entry}
use Rattle.tap_world.specs.ByNumber.{at}
use Rattle.tap_world.specs.Guests.{Guest}
use Rattle.tap_world.specs.Line.{File, claimed, first_that, is_kept}
use Rattle.tap_world.specs.Setup.{Setup}
use Rattle.tap_world.specs.World.{World, newest}
use Rattle.tap_grows.specs.Grows.{Grows}

-- the least place whose frame is neither out nor cut, and the next one to be given out where there is none
abbrev pub left_to : File → ℕ
left_to f = option_map_or (λ i. f.first + i) (first_that is_kept f.line) (claimed f)

-- by file, the next place to be given out, and that least one
abbrev pub put_in : World → ℕ → ℕ
put_in w file = option_map_or claimed (at w.files file) 0

abbrev pub out_in : World → ℕ → ℕ
out_in w file = option_map_or left_to (at w.files file) 0

-- by guest, how many steps there were on it
abbrev pub steps_in : World → ℕ → ℕ
steps_in w guest = option_map_or (λ (g : Guest). length g.steps) (at w.guests guest) 0

-- the four numbers of a world, and those of another, which are no smaller
pub record HasRisen (w u : World) : Type 0 where
  pub version : newest w ≤ newest u
  pub put : (file : ℕ) → put_in w file ≤ put_in u file
  pub out : (file : ℕ) → out_in w file ≤ out_in u file
  pub steps : (guest : ℕ) → steps_in w guest ≤ steps_in u guest

-- of a file, nothing waits below that place, and it is at most the next one to be given out
pub record IsLeftTo (f : File) : Type 0 where
  pub below : (i : ℕ) (e : Entry) → slice_get f.line i ≡ Some e → f.first + i < left_to f → is_kept e.stands ≡ false
  pub most : left_to f ≤ claimed f

abbrev pub FilesAreLeft : Type 0
FilesAreLeft = (f : File) → IsLeftTo f

-- None of the four is smaller in a later world.
abbrev pub SightsRise : Type 0
SightsRise = (s : Setup) (w u : World) → Grows s w u → HasRisen w u
