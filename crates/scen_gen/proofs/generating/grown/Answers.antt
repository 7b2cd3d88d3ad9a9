use Rattle.std.proofs.Common.{rules}
use Rattle.scen_gen.specs.Generated.{lines, reads, sends}
use Rattle.scen_gen.proofs.Growth.{lines_more, reads_more, sends_more}
use Rattle.scen_gen.proofs.generating.grown.Goals as goal

pub loop-i-init : goal.loop-i-init
unfolding sends reads lines
loop-i-init c = search rules

pub loop-i-preserved : goal.loop-i-preserved
loop-i-preserved c =
    let so_far = c.loop-i.invariant in
    let e = c.in_ok-add.ensures in
    let s = sends_more c.loop-i.i in
    let r = reads_more c.loop-i.i in
    let l = lines_more c.loop-i.i in
    record { sends = (cc (e.sends, s, so_far.sends)); reads = (cc (e.reads, r, so_far.reads)); lines = (cc (e.lines, l, so_far.lines)) }
