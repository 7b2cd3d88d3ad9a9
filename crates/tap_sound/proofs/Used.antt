-- The chains of a list were published in the order of their positions.
use Rattle.std.proofs.Common.{◌≡◌, ℕ, ◌+◌, ◌-◌, ◌≤◌, List, [], ◌∷◌, length, map, take, drop, sym, ap, ◌∙◌, subst, arith, length-drop, length-take}
use Rattle.std.specs.List.{AllByRecursion}
use Rattle.std.proofs.lemmas.List.{drop-take}
use Rattle.vhost_queue.specs.Positions.{Positions, Published, positions_from}
use Rattle.vhost_dev.specs.Lists.{AreInOrder, IsClosed}
use Rattle.tap_world.specs.Project.{lists_from}
use Rattle.tap_sound.specs.Used.{IsCounted}

-- so many chains from one on are those that were published from there until then
part_is : (start until : ℕ) (journal : List Published) → start ≤ until → drop start (take until journal) ≡ take (until - start) (drop start journal)
part_is start until journal le =
    let e : until ≡ start + (until - start) = omega (arith, le) in
    ap (λ (n : ℕ). drop start (take n journal)) e ∙ drop-take start (until - start) journal

part_length : (start until : ℕ) (journal : List Published) → start ≤ until → until ≤ length journal → length (take (until - start) (drop start journal)) ≡ until - start
part_length start until journal le more =
    let d = length-drop start journal in
    let t = length-take (until - start) (drop start journal) in
    omega (arith, le, more, d, t)

pub are_counted : (lists : List (ℕ × ℕ)) (p : Positions) → AreInOrder lists p → AllByRecursion IsCounted (lists_from lists p.journal)
are_counted [] p h = tt
are_counted ((base, start) ∷ []) p h =
    let n = length-drop start p.journal in (h.published ∙ ap (positions_from base) (sym n), tt)
are_counted ((base, start) ∷ (next, until) ∷ more) p h =
    let c : IsClosed base start until p.journal = h.0 in
    let part = part_is start until p.journal c.rising in
    let n = part_length start until p.journal c.rising c.begun in (
      subst (λ (used : List Published). map (λ (x : Published). x.0) used ≡ positions_from base (length used)) (sym part)
          (c.positions ∙ ap (positions_from base) (sym n)),
      are_counted ((next, until) ∷ more) p h.1,
    )
