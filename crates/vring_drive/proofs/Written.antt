-- What a post writes, one descriptor after the other.
use Rattle.std.proofs.Common.{◌≡◌, ℕ, ◌+◌, ◌-◌, ◌<◌, Bool, List, [], length, take, drop, get_or, min, ap, arith, add-one, drop-cons, length-drop}
use Rattle.std.proofs.lemmas.List.{take_min, drop_min, take_all}
use Rattle.guest_mem.specs.Memory.{Contents, written}
use Rattle.vring_split.specs.Split.{desc_addr, desc_bytes}
use Rattle.vring_split.specs.declared.layout.Layout.{Layout}
use Rattle.vring_drive.specs.Area.{slot_at}
use Rattle.vring_drive.specs.Posts.{desc_for, linked, filled}

-- what stands behind a place, to the end
pub all_behind : (n : ℕ) (xs : List ℕ) → take (length xs - n) (drop n xs) ≡ drop n xs
all_behind n xs = take_all (length xs - n) (drop n xs) (omega (arith, length-drop n xs))

-- one more descriptor was written
pub linked_more : (l : Layout) (w : Bool) (chain lens : List ℕ) (i d n : ℕ) (m : Contents)
    → i < length chain → i < length lens
    → linked l w (drop (i + 1) chain) (drop (i + 1) lens)
    (written m (desc_addr l (get_or chain i d))
    (desc_bytes (desc_for l w (get_or chain i d) (get_or lens i n) (take (length chain - (i + 1)) (drop (i + 1) chain)))))
    ≡ linked l w (drop i chain) (drop i lens) m
unfolding linked
linked_more l w chain lens i d n m hc hl = rw (all_behind (i + 1) chain, drop-cons chain i d, drop-cons lens i n, add-one i)

-- none is left
pub linked_none : (l : Layout) (w : Bool) (chain lens : List ℕ) (m : Contents) → chain ≡ [] → linked l w chain lens m ≡ m
unfolding linked
linked_none l w chain lens m e = ap (λ (ds : List ℕ). linked l w ds lens m) e

-- the front of a list, as far as it goes, and what stands behind it
pub front_of : (n : ℕ) (xs : List ℕ) → take (min (length xs) n) xs ≡ take n xs
front_of n xs = let e : min (length xs) n ≡ min n (length xs) = omega arith in rw e (take_min n xs)

pub rest_of : (n : ℕ) (xs : List ℕ) → drop (min (length xs) n) xs ≡ drop n xs
rest_of n xs = let e : min (length xs) n ≡ min n (length xs) = omega arith in rw e (drop_min n xs)

-- one more slot was filled
pub filled_more : (l : Layout) (chain bytes : List ℕ) (i d : ℕ) (m : Contents) → i < length chain
    → filled l (drop (i + 1) chain) (drop (min (length bytes) 2048) bytes)
    (written m (slot_at l (get_or chain i d)) (take (min (length bytes) 2048) bytes))
    ≡ filled l (drop i chain) bytes m
unfolding filled
filled_more l chain bytes i d m h = rw (drop-cons chain i d, add-one i, front_of 2048 bytes, rest_of 2048 bytes)

pub filled_none : (l : Layout) (chain bytes : List ℕ) (m : Contents) → chain ≡ [] → filled l chain bytes m ≡ m
unfolding filled
filled_none l chain bytes m e = ap (λ (ds : List ℕ). filled l ds bytes m) e
