use Rattle.std.proofs.Common.{◌≡◌, ◌-◌, ◌≤◌, length, take}
use Rattle.std.specs.Io.KnownBytes.{Appends}
use Rattle.tap_top.proofs.ends.write_all.Given as goal

abbrev pub invariant-loop-done : goal.invariant-loop-done
invariant-loop-done g l =
    let written = g.K.Sink.written in
    let faults = g.K.Sink.faults in
    let reliable = g.K.Sink.is_reliable in
    record {
      within : l.done ≤ length l.text;
      so_far : Appends (written l.fn.sink) (written l.sink) (take l.done l.text);
      no_fault : faults l.sink ≡ faults l.fn.sink;
      reliable : reliable l.fn.sink → reliable l.sink;
    }

abbrev pub decreases-loop-done : goal.decreases-loop-done
decreases-loop-done g l = length l.text - l.done
