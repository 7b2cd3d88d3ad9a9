-- This project's own: what holds of each file, each vhost and each actor of a world.
use Rattle.std.specs.Prelude.{◌≡◌, ℕ, slice_get, Some}
use Rattle.tap_world.specs.ByNumber.{at}
use Rattle.tap_world.specs.Line.{File}
use Rattle.tap_world.specs.Guests.{Vhost}
use Rattle.tap_world.specs.World.{Actor, World}

abbrev pub EachFile : World → (ℕ → File → Type 0) → Type 0
EachFile w P = (file : ℕ) (f : File) → at w.files file ≡ Some f → P file f

abbrev pub EachVhost : World → (ℕ → Vhost → Type 0) → Type 0
EachVhost w P = (vhost : ℕ) (v : Vhost) → at w.vhosts vhost ≡ Some v → P vhost v

abbrev pub EachActor : World → (ℕ → Actor → Type 0) → Type 0
EachActor w P = (actor : ℕ) (a : Actor) → slice_get w.actors actor ≡ Some a → P actor a
