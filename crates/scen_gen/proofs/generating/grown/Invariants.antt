use Rattle.std.proofs.Common.{◌≡◌}
use Rattle.scen_gen.specs.Generated.{lines, reads, sends}
use Rattle.scen_gen.proofs.generating.grown.Given as goal

abbrev pub invariant-loop-i : goal.invariant-loop-i
invariant-loop-i l = record {
  sends : l.growing.sends ≡ sends l.i;
  reads : l.growing.reads ≡ reads l.i;
  lines : l.growing.lines ≡ lines l.i;
}
