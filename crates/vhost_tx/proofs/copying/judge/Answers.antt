use Rattle.std.proofs.Common.{◌≡◌, ℕ, ◌+◌, ◌-◌, ◌≤◌, rules, List, ◌++◌, length, take, drop, replicate, subst, ap, ◌∙◌, arith}
use Rattle.vring_walk.specs.Spread.{first_gathered}
use Rattle.vhost_tx.specs.Copying.{IsJudged}
use Rattle.vhost_tx.proofs.Gathered.{first_parts}
use Rattle.vhost_tx.proofs.Judging.{judged_so}
use Rattle.vhost_tx.proofs.copying.judge.Goals as goal

pub returns-in-Ok : goal.returns-in-Ok
returns-in-Ok c =
    let k = c.min-size.result in
    let n = c.args.count in
    let bs = c.args.mem.now.bytes in
    let segments = c.args.segments.now in
    let le : k ≤ n = omega (arith, c.min-size.ensures) in
    let sum : k + (n - k) ≡ n = omega arith in
    let P : List ℕ → Type 0 = λ l. IsJudged c.args.hdr c.args.name l c.as_judged.result in
    let zeros : List ℕ = replicate 12 0 in
    let long : 0 + length (take k zeros) ≡ 0 + k = search rules in
    let front : c.gather.new.room ≡ drop 0 (first_gathered (0 + k) bs segments) =
    c.gather.ensures ∙ ap (λ j. first_gathered j bs segments) long in
    let ether : c.in-Ok.ether.items ≡ drop k (first_gathered n bs segments) =
    c.in-Ok.ensures ∙ ap (λ j. drop k (first_gathered j bs segments)) sum in
    let whole : c.gather.new.room ++ c.in-Ok.ether.items ≡ first_gathered n bs segments =
    rw (front, ether) (first_parts bs segments k n c.spread_laws.ensures.front le) in
    let bytes : List ℕ = c.gather.new.room ++ c.in-Ok.ether.items in
    let made = c.judge_parts.ensures in
    let judged = c.as_judged.ensures in
    subst P whole (
    judged_so c.args.hdr c.args.name bytes c.judge_parts.result c.as_judged.result
    made.accepted made.frame made.refused judged.accepted judged.refused
    )
