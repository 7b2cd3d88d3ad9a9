-- Published chains stand at the positions that follow one another.
use Rattle.std.proofs.Common.{◌≡◌, ℕ, zero, suc, ◌+◌, ◌-◌, ◌^◌, ◌<◌, ◌≤◌, List, [], ◌∷◌, ◌++◌, length, map, drop, refl, ap, ◌∙◌, arith, length-append}
use Rattle.std.proofs.lemmas.List.{drop-append-le, map-append}
use Rattle.vhost_queue.specs.declared.done.Done.{Done}
use Rattle.vhost_queue.specs.Positions.{Positions, Published, IsInOrder, positions_from, published_from, first_done, after}
use Rattle.vhost_queue.specs.Laws.{PublishedInOrder}

-- the positions of published chains
pub positions_of : (position : ℕ) (ds : List Done) → map (λ e. e.0) (published_from position ds) ≡ positions_from position (length ds)
positions_of position [] = refl
positions_of position (d ∷ ds) = ap (λ (ps : List ℕ). position ∷ ps) (positions_of (after position 1) ds)

length_of : (position : ℕ) (ds : List Done) → length (published_from position ds) ≡ length ds
length_of position [] = refl
length_of position (d ∷ ds) = ap suc (length_of (after position 1) ds)

-- a position further on, in two steps
after_after : (position m n : ℕ) → after (after position m) n ≡ after position (m + n)
after_after position m n = omega arith

-- positions that go on where others end
more_positions : (position m n : ℕ) → position < 2 ^ 16
    → positions_from position m ++ positions_from (after position m) n ≡ positions_from position (m + n)
more_positions position zero n h =
    let at : after position 0 ≡ position = omega arith in
    let count : 0 + n ≡ n = omega arith in rw (at, count)
more_positions position (suc m) n h =
    let at : after position (suc m) ≡ after (after position 1) m = omega arith in
    let count : suc m + n ≡ suc (m + n) = omega arith in
    let lt : after position 1 < 2 ^ 16 = omega arith in
    rw (at, count) (ap (λ (ps : List ℕ). position ∷ ps) (more_positions (after position 1) m n lt))

-- what is published goes on where what was published ended
go_on : (base start : ℕ) (p : Positions) → IsInOrder base start p
    → map (λ e. e.0) (drop start (p.journal ++ published_from (first_done p) p.done))
    ≡ positions_from base ((length p.journal - start) + length p.done)
go_on base start p h =
    let n = length p.journal - start in
    let k = length p.done in
    let behind = published_from (first_done p) p.done in
    ap (map {B = ℕ} (λ (e : Published). e.0)) (drop-append-le start p.journal behind h.begun)
    ∙ map-append (λ (e : Published). e.0) (drop start p.journal) behind
    ∙ ap (λ (ps : List ℕ). ps ++ map (λ (e : Published). e.0) behind) h.published
    ∙ ap (λ (ps : List ℕ). positions_from base n ++ ps) (positions_of (first_done p) p.done)
    ∙ ap (λ (at : ℕ). positions_from base n ++ positions_from at k) h.done
    ∙ more_positions base n k h.fits

pub published_in_order : PublishedInOrder
published_in_order base start p h =
    let n = length p.journal - start in
    let k = length p.done in
    let behind = published_from (first_done p) p.done in
    let len : length (p.journal ++ behind) ≡ length p.journal + k =
    length-append p.journal behind ∙ ap (λ (i : ℕ). length p.journal + i) (length_of (first_done p) p.done) in
    let count : length (p.journal ++ behind) - start ≡ n + k = let b = h.begun in omega arith in
    let next = h.next in
    let few : p.gathered + k ≤ 2 ^ 16 = h.few in
    let at : first_done p ≡ after base n = h.done in
    record {
      fits = h.fits;
      begun = let b = h.begun in omega arith;
      few = omega arith;
      published = rw count (go_on base start p h);
      done = rw count (omega arith);
      next = rw count (omega arith);
    }
