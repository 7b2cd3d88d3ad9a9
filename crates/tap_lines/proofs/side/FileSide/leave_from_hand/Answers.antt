use Rattle.std.proofs.Common.{sym, ◌∙◌}
use Rattle.tap_world.specs.Line.{File}
use Rattle.tap_lines.specs.Held.{placed_of}
use Rattle.tap_lines.proofs.Changed.{hand_leaves, hand_left_placed}
use Rattle.tap_lines.proofs.side.FileSide.leave_from_hand.Goals as goal

pub invariant_of-self : goal.invariant_of-self
invariant_of-self c =
    let f : File = (placed_of c.self.inside).file in
    rw c.leave.ensures
    (hand_left_placed c.args.fate f _ _ (hand_leaves c.args.vhost c.args.fate f (rw (← c.self.view_is) at c.requires)).0
    (sym c.batch_front.ensures ∙ c.unwrap-index.ensures) c.self.invariant)
