-- Chains whose segments stand one after the other.
use Rattle.std.proofs.Common.{◌≡◌, ℕ, Bool, suc, ◌+◌, ◌-◌, ◌≤◌, min, List, [], ◌∷◌, ◌++◌, length, take, drop, All, IsTrue, refl, sym, ap, ◌∙◌, subst, arith}
use Rattle.std.proofs.lemmas.List.{take-append-drop, take-append-le, drop-append-le, length-drop, length-append, get_or-drop}
use Rattle.std.proofs.lemmas.List.Elements.{All-append, All-take}
use Rattle.std.proofs.Math.Seq.{take-length, drop-length, drop-append_seam}
use Rattle.vring_split.specs.declared.segment.Segment.{Segment}
use Rattle.vring_turns.specs.Ring.{Gathered, bytes_in, room_in, segments_of, LieIn}
use Rattle.vring_turns.specs.ReceiveImage.{shares}
use Rattle.vhost_rx.specs.declared.chains.Chain.{Chain}
use Rattle.vhost_rx.specs.Kept.{split_into, AreSplit, kept_shares}

-- what holds of each element holds of each behind some
All-dropped : {X : Type 0} (P : X → Type 0) → (n : ℕ) (xs : List X) → All P xs → All P (drop n xs)
All-dropped P n xs h = λ k d lt.
    let e = length-drop n xs in
    subst P (sym (get_or-drop n xs k d)) (h (n + k) d (omega arith))

-- there are as many chains as are kept
pub length-split_into : (cs : List Chain) (ss : List Segment) → length (split_into cs ss) ≡ length cs
length-split_into [] ss = refl
length-split_into (c ∷ cs) ss = ap (λ n. suc n) (length-split_into cs (drop c.segments ss))

-- they have all segments
pub segments_of-split_into : (cs : List Chain) (ss : List Segment) → AreSplit cs ss → segments_of (split_into cs ss) ≡ ss
segments_of-split_into [] ss h = sym h
segments_of-split_into (c ∷ cs) ss h =
    ap (λ rest. take c.segments ss ++ rest) (segments_of-split_into cs (drop c.segments ss) h.2)
    ∙ take-append-drop c.segments ss

-- one more chain, whose segments come behind
pub split_into-more :
    (cs : List Chain) (ss new : List Segment) (c : Chain)
    → AreSplit cs ss → c.segments ≡ length new
    → split_into (cs ++ c ∷ []) (ss ++ new) ≡ split_into cs ss ++ record { head = c.head; segments = new } ∷ []
split_into-more [] ss new c h e =
    let all : take c.segments (ss ++ new) ≡ new =
    rw (h, e) (take-length new) in
    ap (λ (segments : List Segment). record { head = c.head; segments = segments } ∷ []) all
split_into-more (k ∷ ks) ss new c h e =
    let first : take k.segments (ss ++ new) ≡ take k.segments ss = take-append-le k.segments ss new h.0 in
    let rest : drop k.segments (ss ++ new) ≡ drop k.segments ss ++ new = drop-append-le k.segments ss new h.0 in
    rw (first, rest)
    (ap (λ chains. record { head = k.head; segments = take k.segments ss } ∷ chains)
    (split_into-more ks (drop k.segments ss) new c h.2 e))

pub AreSplit-more :
    (cs : List Chain) (ss new : List Segment) (c : Chain)
    → AreSplit cs ss → c.segments ≡ length new → c.bytes ≡ bytes_in new
    → AreSplit (cs ++ c ∷ []) (ss ++ new)
AreSplit-more [] ss new c h e b =
    let P : List Segment → Type 0 = λ xs.
    (c.segments ≤ length xs) × (c.bytes ≡ bytes_in (take c.segments xs)) × (drop c.segments xs ≡ []) in
    let all : ss ++ new ≡ new = ap (λ xs. xs ++ new) h in
    let t : take c.segments new ≡ new = rw e (take-length new) in
    let d : drop c.segments new ≡ [] = rw e (drop-length new) in
    subst P (sym all) (omega (arith, e), b ∙ ap bytes_in (sym t), d)
AreSplit-more (k ∷ ks) ss new c h e b =
    let first : take k.segments (ss ++ new) ≡ take k.segments ss = take-append-le k.segments ss new h.0 in
    let rest : drop k.segments (ss ++ new) ≡ drop k.segments ss ++ new = drop-append-le k.segments ss new h.0 in (
      omega (arith, h.0, length-append ss new),
      h.1 ∙ ap bytes_in (sym first),
      subst (λ (xs : List Segment). AreSplit (ks ++ c ∷ []) xs) (sym rest)
          (AreSplit-more ks (drop k.segments ss) new c h.2 e b),
    )

-- their bytes are counted
pub room_in-more :
    (xs : List Gathered) (c : Gathered) → room_in (xs ++ c ∷ []) ≡ room_in xs + bytes_in c.segments
room_in-more [] c = omega arith
room_in-more (x ∷ xs) c = omega (arith, room_in-more xs c)

-- they lie in the memory
pub LieIn-more :
    (covers : ℕ → ℕ → Bool) (xs : List Gathered) (c : Gathered)
    → LieIn covers xs → All (λ s. IsTrue (covers s.addr s.len)) c.segments → LieIn covers (xs ++ c ∷ [])
LieIn-more covers [] c h a = (a, tt)
LieIn-more covers (x ∷ xs) c h a = (h.0, LieIn-more covers xs c h.1 a)

-- what each of them gets is what the chain gets
pub shares-split_into :
    (cs : List Chain) (ss : List Segment) (n : ℕ)
    → AreSplit cs ss → shares (split_into cs ss) n ≡ kept_shares cs n
shares-split_into [] ss n h = refl
shares-split_into (c ∷ cs) ss n h =
    rw (← h.1)
    (ap (λ ds. record { head = c.head; len = min c.bytes n } ∷ ds)
    (shares-split_into cs (drop c.segments ss) (n - c.bytes) h.2))

-- the segments of chains that lie in a memory lie there, and the other way round
pub LieIn-all :
    (covers : ℕ → ℕ → Bool) (xs : List Gathered)
    → LieIn covers xs → All (λ s. IsTrue (covers s.addr s.len)) (segments_of xs)
LieIn-all covers [] h = λ k d lt. absurd (omega arith)
LieIn-all covers (x ∷ xs) h =
    All-append (λ s. IsTrue (covers s.addr s.len)) x.segments (segments_of xs) h.0 (LieIn-all covers xs h.1)

pub LieIn-split_into :
    (covers : ℕ → ℕ → Bool) (cs : List Chain) (ss : List Segment)
    → All (λ s. IsTrue (covers s.addr s.len)) ss → LieIn covers (split_into cs ss)
LieIn-split_into covers [] ss h = tt
LieIn-split_into covers (c ∷ cs) ss h =
    let P : Segment → Type 0 = λ s. IsTrue (covers s.addr s.len) in
    (All-take P c.segments ss h, LieIn-split_into covers cs (drop c.segments ss) (All-dropped P c.segments ss h))

pub all_kept :
    (covers : ℕ → ℕ → Bool) (cs : List Chain) (ss : List Segment)
    → AreSplit cs ss → LieIn covers (split_into cs ss) → All (λ s. IsTrue (covers s.addr s.len)) ss
all_kept covers cs ss h lies =
    let P : List Segment → Type 0 = λ xs. All (λ s. IsTrue (covers s.addr s.len)) xs in
    subst P (segments_of-split_into cs ss h) (LieIn-all covers (split_into cs ss) lies)

-- what stands behind the old segments
pub new_part :
    (old new more : List Segment) (before : ℕ)
    → before ≡ length old → new ≡ old ++ more → drop before new ≡ more
new_part old new more before e n = rw (e, n) (drop-append_seam old more)
