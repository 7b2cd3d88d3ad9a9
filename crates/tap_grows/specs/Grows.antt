-- This project's own: what only grows along a run, said of two worlds of which one comes before the other.
use Rattle.std.specs.Prelude.{◌≡◌, ℕ, ◌≤◌, List, ◌++◌, length, slice_get, Option, Some}
use Rattle.tap_world.specs.declared.line.Entry.{Entry}
use Rattle.tap_world.specs.declared.line.Standing.{Standing}
use Rattle.tap_world.specs.declared.line.Standing.TheVariants.{Batched, Claimed, Cut, Out, Ready}
use Rattle.tap_world.specs.ByNumber.{at}
use Rattle.tap_world.specs.Guests.{Guest, Vhost}
use Rattle.tap_world.specs.Line.{File, freed}
use Rattle.tap_world.specs.Setup.{Setup}
use Rattle.tap_world.specs.World.{World}
use Rattle.tap_grows.specs.Coming.{coming}

-- ---- lists

-- the second list continues the first: it is that one, with perhaps more behind it
abbrev pub Continues : {A : Type 0} → List A → List A → Type 0
Continues {A} xs ys = (more : List A) × (ys ≡ xs ++ more)

-- what has a number keeps it, and stands to what it was as the relation says
abbrev pub Stay : {A : Type 0} → (A → A → Type 0) → List (Option A) → List (Option A) → Type 0
Stay {A} R xs ys = (n : ℕ) (x : A) → at xs n ≡ Some x → (y : A) × (at ys n ≡ Some y) × R x y

-- ---- lines

-- A frame advances in its line: from a claimed place to a ready one, to the batch, and out with a fate; or it is cut
-- out of the ring, whether its place was ready or not. What is out keeps its fate, and what is cut stays cut.
abbrev pub Advances : Standing → Standing → Type 0
Advances (Claimed actor) (Claimed other) = other ≡ actor
Advances (Claimed actor) later = Unit {0}
Advances Ready (Claimed actor) = ⊥
Advances Ready later = Unit {0}
Advances Batched (Claimed actor) = ⊥
Advances Batched Ready = ⊥
Advances Batched Cut = ⊥
Advances Batched later = Unit {0}
Advances (Out fate) later = later ≡ Out fate
Advances Cut later = later ≡ Cut

-- an entry later: the same frame, which stands no earlier
pub record IsLater (d e : Entry) : Type 0 where
  pub name : e.name ≡ d.name
  pub epoch : e.epoch ≡ d.epoch
  pub len : e.len ≡ d.len
  pub stands : Advances d.stands e.stands

-- A file later. Its line has the same first place and no fewer entries, and each entry is there at its place. No fewer
-- places are freed, its epoch is no smaller, and it was resized no less often.
pub record FileGrows (f g : File) : Type 0 where
  pub first : g.first ≡ f.first
  pub longer : length f.line ≤ length g.line
  pub entries :
      (i : ℕ) (d : Entry) → slice_get f.line i ≡ Some d → (e : Entry) × (slice_get g.line i ≡ Some e) × IsLater d e
  pub freed : freed f ≤ freed g
  pub epoch : f.epoch ≤ g.epoch
  pub resizes : f.resizes ≤ g.resizes

-- ---- guests and vhosts

-- a guest later: the same regions, and perhaps more steps
pub record GuestGrows (g h : Guest) : Type 0 where
  pub regions : h.memory.regions ≡ g.memory.regions
  pub steps : Continues g.steps h.steps

-- a vhost later: of the same guest
abbrev pub IsOfSameGuest : Vhost → Vhost → Type 0
IsOfSameGuest v x = x.guest ≡ v.guest

-- ---- worlds

-- A world later. Operations are added behind those that there are, also where what is coming counts with them; so are
-- names that are given to the host or dropped, and answers. Files and guests only grow, vhosts keep their guests, and
-- the phase isn't an earlier one.
pub record Grows (s : Setup) (w u : World) : Type 0 where
  pub ops : Continues w.ops u.ops
  pub coming : Continues (coming s w) (coming s u)
  pub files : Stay FileGrows w.files u.files
  pub guests : Stay GuestGrows w.guests u.guests
  pub vhosts : Stay IsOfSameGuest w.vhosts u.vhosts
  pub hosted : Continues w.hosted u.hosted
  pub dropped : Continues w.dropped u.dropped
  pub said : Continues w.said u.said
  pub phase : w.phase ≤ u.phase
