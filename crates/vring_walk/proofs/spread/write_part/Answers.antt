use Rattle.std.proofs.Common.{◌≡◌, ◌-◌, length, take, drop, ◌∙◌, ap, sym, arith}
use Rattle.std.proofs.lemmas.List.{length-drop}
use Rattle.std.proofs.Math.Seq.{take-length}
use Rattle.vring_walk.proofs.Writes.{seam}
use Rattle.vring_walk.proofs.spread.write_part.Goals as goal

pub returns-else-at-len : goal.returns-else-at-len
returns-else-at-len c =
    let front = c.args.front.now in
    let s = seam front c.args.behind.now c.args.at c.args.len (omega arith) (omega arith) in
    let t : take (length front - c.args.at) (drop c.args.at front) ≡ drop c.args.at front =
    ap (λ n. take n (drop c.args.at front)) (sym (length-drop c.args.at front)) ∙ take-length (drop c.args.at front) in
    rw s (rw t at c.write_both.ensures)
