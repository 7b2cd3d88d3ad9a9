use Rattle.std.proofs.Common.{◌≡◌, ◌+◌, ◌-◌, vec_len}
use Rattle.scen_words.specs.declared.limits.TheConstants.{MAX_BYTES}
use Rattle.tap_top.specs.Course.{ReadsWell}
use Rattle.tap_top.proofs.ends.read_all.Given as goal

abbrev pub invariant-loop-room : goal.invariant-loop-room
invariant-loop-room g l =
    let left = g.S.Source.left in
    let faults = g.S.Source.faults in
    record {
      room : vec_len l.room ≡ 65536;
      so_far : ReadsWell (record { left = left l.fn.source; left_now = left l.source; faults = faults l.fn.source; faults_now = faults l.source }) l.bytes.items;
      well : g.S.Source.ends_well l.fn.source → g.S.Source.ends_well l.source;
    }

abbrev pub decreases-loop-room : goal.decreases-loop-room
decreases-loop-room g l = MAX_BYTES + 1 - vec_len l.bytes
