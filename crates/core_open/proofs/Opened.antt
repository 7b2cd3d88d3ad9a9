-- Where a run begins.
use Rattle.std.proofs.Common.{◌≡◌, ℕ, zero, suc, ◌∷◌, [], List, Option, Some, None, true, false, map, option_map, IfSome, slice_get, refl, sym, ap, subst, ◌∙◌}
use Rattle.std.proofs.lemmas.Bool.{false≢true}
use Rattle.guest_mem.specs.declared.region.Region.{Region}
use Rattle.tap_frame.specs.Frame.{FrameValue}
use Rattle.tap_guests.specs.Side.{Side, new_side}
use Rattle.tap_guests.specs.Within.{IsIn, blank}
use Rattle.tap_lines.specs.Files as lines
use Rattle.tap_lines.specs.Placed.{Placed}
use Rattle.tap_lines.specs.Told.{BeganAt, Told}
use Rattle.tap_steer.specs.Table.{Table, first}
use Rattle.tap_world.specs.ByNumber.{at}
use Rattle.tap_world.specs.Guests.{Vhost, new_vhost}
use Rattle.tap_world.specs.Line.{File}
use Rattle.tap_world.specs.Runs.{new_file}
use Rattle.tap_world.specs.Setup.{Declared, Setup, opening_table}
use Rattle.vhost_dev.specs.Laws.{BackedAreGood}
use Rattle.vhost_dev.specs.Settings.{first_settings}
use Rattle.core_shared.specs.Suiting.{IsSent}
use Rattle.core_shared.specs.Worlds.{vhosts_of}
use Rattle.core_shared.specs.declared.shared.Shared.{Shared}
use Rattle.core_open.specs.Collected.{Collected, capacities_of, collected, files_of, guests_of, new_placed, sides_of}
use Rattle.core_open.specs.Opening.{IsOpening}

-- ---- the world

same_files : (xs : List (Option Declared)) → lines.files_of (files_of xs) ≡ map (λ d. option_map new_file d) xs
same_files [] = refl
same_files (None ∷ xs) = ap (λ (ys : List (Option File)). None ∷ ys) (same_files xs)
same_files (Some d ∷ xs) = ap (λ (ys : List (Option File)). Some (new_file d) ∷ ys) (same_files xs)

same_vhosts : (xs : List (Option ℕ)) → vhosts_of (sides_of xs) ≡ map (λ g. option_map new_vhost g) xs
same_vhosts [] = refl
same_vhosts (None ∷ xs) = ap (λ (ys : List (Option Vhost)). None ∷ ys) (same_vhosts xs)
same_vhosts (Some g ∷ xs) = ap (λ (ys : List (Option Vhost)). Some (new_vhost g) ∷ ys) (same_vhosts xs)

-- ---- what is held

-- what is so of each new one is so of all that have numbers
each_new : {A B : Type 0} (P : B → Type 0) (f : A → B) → ((x : A) → P (f x)) → (xs : List (Option A)) (n : ℕ) (y : B)
    → at (map (λ x. option_map f x) xs) n ≡ Some y → P y
each_new P f h [] n y e = absurd (cc)
each_new P f h (None ∷ xs) zero y e = absurd (cc)
each_new P f h (Some x ∷ xs) zero y e = subst P (cc) (h x)
each_new P f h (x ∷ xs) (suc n) y e = each_new P f h xs n y e

-- at first no ring has a backend
none_backed : (rs : List Region) → BackedAreGood (blank rs) first_settings
none_backed rs true h = absurd (false≢true h)
none_backed rs false h = absurd (false≢true h)

-- a vhost as it begins lies in any regions
new_is_in : (rs : List Region) (guest : ℕ) → IsIn rs (new_side guest)
new_is_in rs guest = record { good = none_backed rs; rx_driver = tt; tx_driver = tt; rx = tt; tx = tt }

-- what is so of all is so of one that may be there
if_some : {A : Type 0} (o : Option A) (P : A → Type 0) → ((x : A) → P x) → IfSome o P
if_some None P h = tt
if_some (Some x) P h = h x

-- a file as it begins has no frame
no_frames : (s : Setup) (xs : List (Option Declared)) (file i : ℕ) (p : Placed) (frame : FrameValue)
    → at (files_of xs) file ≡ Some p → slice_get p.frames i ≡ Some (Some frame) → IsSent s frame
no_frames s xs file i p frame here is =
    absurd
    (each_new (λ (p : Placed). slice_get p.frames i ≡ Some (Some frame) → ⊥) new_placed (λ d e. cc) xs file p here is)

-- ---- both

-- a table before any operation
abbrev pub begun_at : Table → Told
begun_at t = record { table = t; ops = [] }

-- what a run begins in, from its parts
opened : (s : Setup) (x : Shared) → x.ops ≡ begun_at (opening_table s) → x.files ≡ files_of s.files → x.guests ≡ guests_of s.guests → x.vhosts ≡ sides_of s.vhosts → x.hosted.items ≡ [] → x.dropped.items ≡ []
    → x.writer ≡ None → x.phase ≡ 0 → IsOpening s x
opened s x ops files guests vhosts hosted dropped writer phase = record {
  world = λ i. record {
    ops = (ops i).ops;
    files = (ap (λ (xs : List (Option Placed)). lines.files_of xs) files ∙ same_files s.files) i;
    guests = guests i;
    vhosts = (ap (λ (xs : List (Option Side)). vhosts_of xs) vhosts ∙ same_vhosts s.vhosts) i;
    hosted = hosted i;
    dropped = dropped i;
    writer = writer i;
    phase = phase i;
    actors = [];
    said = [];
  };
  held = record {
    table = subst (λ (t : Told). BeganAt (opening_table s) t) (sym ops) refl;
    frames = subst (λ (xs : List (Option Placed)). (file i : ℕ) (p : Placed) (frame : FrameValue) → at xs file ≡ Some p
        → slice_get p.frames i ≡ Some (Some frame) → IsSent s frame) (sym files) (no_frames s s.files);
    vhosts = λ vhost v here. in_any v.vhost.guest v
        (each_new (λ (v : Side). (rs : List Region) → IsIn rs v) new_side (λ guest rs. new_is_in rs guest) s.vhosts vhost v
        (ap (λ (xs : List (Option Side)). at xs vhost) (sym vhosts) ∙ here));
  };
}
  where
    in_any : (guest : ℕ) (v : Side) → ((rs : List Region) → IsIn rs v)
        → IfSome (at x.guests guest) (λ g. IsIn g.memory.regions v)
    in_any guest v h = if_some (at x.guests guest) (λ g. IsIn g.memory.regions v) (λ g. h g.memory.regions)

-- the same over what was collected
pub opened_from : (s : Setup) (d : Collected) (x : Shared) (capacities : List ℕ) → d ≡ collected s
    → capacities ≡ capacities_of d.files → x.ops ≡ begun_at (first d.programs capacities d.flows)
    → x.files ≡ files_of d.files → x.guests ≡ guests_of d.guests → x.vhosts ≡ sides_of d.vhosts
    → x.hosted.items ≡ [] → x.dropped.items ≡ [] → x.writer ≡ None → x.phase ≡ 0 → IsOpening s x
opened_from s d x capacities is counts ops files guests vhosts hosted dropped writer phase =
    opened s x
    (ops ∙ ap (λ (cs : List ℕ). begun_at (first d.programs cs d.flows)) counts
    ∙ ap (λ (e : Collected). begun_at (first e.programs (capacities_of e.files) e.flows)) is)
    (files ∙ ap (λ (e : Collected). files_of e.files) is) (guests ∙ ap (λ (e : Collected). guests_of e.guests) is)
    (vhosts ∙ ap (λ (e : Collected). sides_of e.vhosts) is) hosted dropped writer phase
