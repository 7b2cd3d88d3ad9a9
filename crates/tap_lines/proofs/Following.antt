-- The table after one more operation.
use Rattle.std.proofs.Common.{◌≡◌, List, [], ◌∷◌, ◌++◌, refl, sym, ap, ◌∙◌, map}
use Rattle.std.proofs.lemmas.List.{map_push}
use Rattle.tap_steer.specs.declared.operation.Op.{Op}
use Rattle.tap_steer.specs.Table.{Table}
use Rattle.tap_steer.specs.After.{after, after_all}
use Rattle.tap_world.specs.declared.told.Published.{Published}
use Rattle.tap_lines.specs.Told.{TableFollows}

after_more : (t : Table) (xs : List Op) (x : Op) → after_all t (xs ++ x ∷ []) ≡ after (after_all t xs) x
after_more t [] x = refl
after_more t (y ∷ ys) x = after_more (after t y) ys x

pub follows : TableFollows
follows first p t h =
    ap (λ (x : Table). after x p.op) h ∙ sym (after_more first (map (λ (q : Published). q.op) t.ops) p.op)
    ∙ ap (λ (l : List Op). after_all first l) (sym (map_push (λ (q : Published). q.op) t.ops p))
