-- The front of what is gathered.
use Rattle.std.proofs.Common.{◌≡◌, ℕ, ◌+◌, ◌≤◌, min, List, ◌++◌, length, take, drop, sym, ap, ◌∙◌, arith, take_all, take-take, take-append-drop}
use Rattle.std.proofs.lemmas.List.{take_min}
use Rattle.guest_mem.specs.Memory.{ByteList}
use Rattle.vring_split.specs.declared.segment.Segment.{Segment}
use Rattle.vring_walk.specs.Spread.{bytes_in, first_gathered, gathered}
use Rattle.vring_walk.specs.Laws.{FirstAreCounted, FrontIsGathered}

-- the first bytes of more
pub first_of :
    (bs : ByteList) (segments : List Segment) (k n : ℕ) → FrontIsGathered → k ≤ n
    → first_gathered k bs segments ≡ take k (first_gathered n bs segments)
first_of bs segments k n front le =
    front bs k segments
    ∙ sym (ap (λ l. take k l) (front bs n segments) ∙ take-take k n (gathered bs segments) le)

-- all that there is, as far as so many bytes
pub first_all :
    (bs : ByteList) (segments : List Segment) (n : ℕ) → FrontIsGathered → FirstAreCounted
    → first_gathered (min (bytes_in segments) n) bs segments ≡ first_gathered n bs segments
first_all bs segments n front count =
    let x = first_gathered n bs segments in
    first_of bs segments (min (bytes_in segments) n) n front (omega arith)
    ∙ take_all (min (bytes_in segments) n) x (omega (arith, count bs n segments))

-- the front and what is behind it are all
pub first_parts :
    (bs : ByteList) (segments : List Segment) (k n : ℕ) → FrontIsGathered → k ≤ n
    → drop 0 (first_gathered (0 + k) bs segments) ++ drop k (first_gathered n bs segments)
    ≡ first_gathered n bs segments
first_parts bs segments k n front le =
    let e : 0 + k ≡ k = omega arith in
    ap (λ j. first_gathered j bs segments ++ drop k (first_gathered n bs segments)) e
    ∙ (ap (λ l. l ++ drop k (first_gathered n bs segments)) (first_of bs segments k n front le)
    ∙ take-append-drop k (first_gathered n bs segments))

-- the front is the header, as far as there is one
pub first_header :
    (bs : ByteList) (segments : List Segment) (size n : ℕ) → FrontIsGathered → FirstAreCounted
    → n ≤ bytes_in segments
    → drop 0 (first_gathered (0 + min size n) bs segments) ≡ take size (first_gathered n bs segments)
first_header bs segments size n front count le =
    let x = first_gathered n bs segments in
    let k : 0 + min size n ≡ min size (length x) = omega (arith, count bs n segments) in
    let few : min size n ≤ n = omega arith in
    let e : 0 + min size n ≡ min size n = omega arith in
    let same : min size n ≡ min size (length x) = omega (arith, count bs n segments) in
    ap (λ j. first_gathered j bs segments) e
    ∙ (first_of bs segments (min size n) n front few
    ∙ (ap (λ j. take j x) same ∙ take_min size x))
