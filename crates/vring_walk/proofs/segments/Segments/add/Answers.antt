use Rattle.std.proofs.Common.{◌≡◌, [], ◌∷◌, ◌++◌, List, length, sym, ap, ◌∙◌, ◌≤◌, arith, length-append}
use Rattle.vring_split.specs.declared.segment.Segment.{Segment}
use Rattle.std.proofs.lemmas.List.{take_all}
use Rattle.vring_walk.proofs.Rooms.{take_full}
use Rattle.vring_walk.proofs.segments.Segments.add.Goals as goal

pub returns-then-len-lt-MAX_SEGMENTS : goal.returns-then-len-lt-MAX_SEGMENTS
returns-then-len-lt-MAX_SEGMENTS c =
    let items = c.push_reserved.ensures.items in
    let view = c.self.view_is in
    let same : c.push_reserved.new.self.items ≡ c.args.self.now ++ c.args.segment ∷ [] = items ∙ ap (λ (xs : List Segment). xs ++ c.args.segment ∷ []) view in
    let len : length (c.args.self.now ++ c.args.segment ∷ []) ≤ 1024 = omega (arith, length-append c.args.self.now (c.args.segment ∷ []), ap length view, c.len.ensures) in
    same ∙ sym (take_all 1024 (c.args.self.now ++ c.args.segment ∷ []) len)

pub returns-else-len-lt-MAX_SEGMENTS : goal.returns-else-len-lt-MAX_SEGMENTS
returns-else-len-lt-MAX_SEGMENTS c =
    let view = c.self.view_is in
    let most = c.self.invariant.0 in
    let len : 1024 ≡ length c.args.self.now = omega (arith, ap length view, c.len.ensures) in
    sym (take_full 1024 c.args.self.now (c.args.segment ∷ []) len)
