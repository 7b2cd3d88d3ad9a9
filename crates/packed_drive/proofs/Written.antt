-- What a post writes, one descriptor after the other.
use Rattle.std.proofs.Common.{◌≡◌, ℕ, ◌+◌, ◌<◌, Bool, nat_lt, List, [], length, take, drop, get_or, min, refl, sym, ap, ◌∙◌, arith, add-one, drop-cons, length-drop}
use Rattle.std.proofs.lemmas.Bool.Decides.{nat_tests}
use Rattle.std.proofs.lemmas.List.{take_min, drop_min}
use Rattle.guest_mem.specs.Memory.{Contents, written}
use Rattle.vring_packed.specs.declared.place.Place.{Place}
use Rattle.vring_packed.specs.Packed.{place_after}
use Rattle.packed_drive.specs.Area.{slot_at}
use Rattle.packed_drive.specs.Posts.{with_desc, linked, filled}

-- whether more come behind
pub more_behind : (xs : List ℕ) (i : ℕ) → nat_lt 0 (length (drop (i + 1) xs)) ≡ nat_lt (i + 1) (length xs)
more_behind xs i = let e = length-drop (i + 1) xs in grind (arith, nat_tests, e)

-- one more descriptor was written
pub linked_more : (start num : ℕ) (w : Bool) (chain : ℕ) (p : Place) (lens : List ℕ) (i d : ℕ) (m : Contents) → i < length lens
    → linked start num w chain (place_after num p 1) (drop (i + 1) lens) (with_desc start num w chain p (get_or lens i d) (nat_lt (i + 1) (length lens)) m)
    ≡ linked start num w chain p (drop i lens) m
unfolding linked
linked_more start num w chain p lens i d m h =
    ap (λ (b : Bool). linked start num w chain (place_after num p 1) (drop (i + 1) lens) (with_desc start num w chain p (get_or lens i d) b m)) (sym (more_behind lens i))
    ∙ rw (drop-cons lens i d, add-one i) refl

-- none is left
pub linked_none : (start num : ℕ) (w : Bool) (chain : ℕ) (p : Place) (lens : List ℕ) (m : Contents) → lens ≡ [] → linked start num w chain p lens m ≡ m
unfolding linked
linked_none start num w chain p lens m e = ap (λ (ds : List ℕ). linked start num w chain p ds m) e

-- the front of a list, as far as it goes, and what stands behind it
pub front_of : (n : ℕ) (xs : List ℕ) → take (min (length xs) n) xs ≡ take n xs
front_of n xs = let e : min (length xs) n ≡ min n (length xs) = omega arith in rw e (take_min n xs)

pub rest_of : (n : ℕ) (xs : List ℕ) → drop (min (length xs) n) xs ≡ drop n xs
rest_of n xs = let e : min (length xs) n ≡ min n (length xs) = omega arith in rw e (drop_min n xs)

-- one more slot was filled
pub filled_more : (start num : ℕ) (p : Place) (lens bytes : List ℕ) (i d : ℕ) (m : Contents) → i < length lens
    → filled start num (place_after num p 1) (drop (i + 1) lens) (drop (min (length bytes) (get_or lens i d)) bytes)
    (written m (slot_at start num p.at) (take (min (length bytes) (get_or lens i d)) bytes))
    ≡ filled start num p (drop i lens) bytes m
unfolding filled
filled_more start num p lens bytes i d m h = rw (front_of (get_or lens i d) bytes, rest_of (get_or lens i d) bytes, drop-cons lens i d, add-one i) refl

pub filled_none : (start num : ℕ) (p : Place) (lens bytes : List ℕ) (m : Contents) → lens ≡ [] → filled start num p lens bytes m ≡ m
unfolding filled
filled_none start num p lens bytes m e = ap (λ (ds : List ℕ). filled start num p ds bytes m) e
