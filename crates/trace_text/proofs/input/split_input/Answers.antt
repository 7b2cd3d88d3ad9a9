use Rattle.std.proofs.Common.{ℕ, List, ap, arith, length, length-append, suc, ◌∙◌, take, drop, codes}
use Rattle.trace_text.specs.BadLine.{before_line, joined, pieces}
use Rattle.trace_text.proofs.Pieces.{parts_at, trace_at}
use Rattle.trace_text.proofs.input.split_input.Goals as goal

pub slice_bounds-result-count : goal.slice_bounds-result-count
slice_bounds-result-count c =
    let p = parts_at (codes "end") c.split_at_line.result.1.now c.split_at_line-2.result.1.now c.behind_first-behind.result.now c.split_at_line-2.ensures.1 c.behind_first-behind.ensures in
    let n : ℕ = suc (length (before_line (codes "end") (pieces c.split_at_line.result.1.now))) in
    omega (arith, ap length p.1, length-append (joined (take n (pieces c.split_at_line.result.1.now))) c.behind_first-behind.result.now)

pub returns-clause-trace : goal.returns-clause-trace
returns-clause-trace c =
    let p = parts_at (codes "end") c.split_at_line.result.1.now c.split_at_line-2.result.1.now c.behind_first-behind.result.now c.split_at_line-2.ensures.1 c.behind_first-behind.ensures in
    let part : List (List ℕ) → List ℕ = λ ps. joined (take (suc (length (before_line (codes "end") ps))) ps) in
    trace_at c.split_at_line.result.1.now (part (pieces c.split_at_line.result.1.now)) c.behind_first-behind.result.now p.1 ∙ ap part c.split_at_line.ensures.1

pub returns-clause-behind : goal.returns-clause-behind
returns-clause-behind c =
    let p = parts_at (codes "end") c.split_at_line.result.1.now c.split_at_line-2.result.1.now c.behind_first-behind.result.now c.split_at_line-2.ensures.1 c.behind_first-behind.ensures in
    let part : List (List ℕ) → List ℕ = λ ps. joined (drop (suc (length (before_line (codes "end") ps))) ps) in
    p.0 ∙ ap part c.split_at_line.ensures.1
