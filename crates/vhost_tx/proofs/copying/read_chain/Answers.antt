use Rattle.std.proofs.Common.{◌≡◌, ℕ, ◌+◌, List, subst, ap, ◌∙◌}
use Rattle.vring_walk.specs.Spread.{first_gathered}
use Rattle.vhost_tx.specs.Copying.{IsJudged}
use Rattle.vhost_tx.proofs.Gathered.{first_all}
use Rattle.vhost_tx.proofs.copying.read_chain.Goals as goal

pub returns-clause-judged : goal.returns-clause-judged
returns-clause-judged c =
    let bs = c.args.mem.now.bytes in
    let segments = c.args.segments.now in
    let P : List ℕ → Type 0 = λ l. IsJudged c.args.hdr c.args.name l c.judge.result in
    let whole : first_gathered c.byte_count-count.result bs segments ≡ first_gathered (c.args.hdr + 65536) bs segments =
    ap (λ n. first_gathered n bs segments) (rw (← c.from.ensures) c.byte_count-count.ensures)
    ∙ first_all bs segments (c.args.hdr + 65536) c.spread_laws.ensures.front c.spread_laws.ensures.count in
    subst P whole c.judge.ensures
