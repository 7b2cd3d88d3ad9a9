use Rattle.std.proofs.Common.{◌≡◌, suc, ◌+◌, List, ◌∷◌, false, drop, get_or, length, ap, ◌∙◌, arith}
use Rattle.std.proofs.Math.Seq.{drop-cons}
use Rattle.vring_split.specs.declared.segment.Segment.{Segment}
use Rattle.vring_walk.proofs.Gathered.{are_cut, behind_bytes, behind_enough}
use Rattle.vring_walk.proofs.spread.gather.Goals as goal

pub loop-segment-preserved : goal.loop-segment-preserved
loop-segment-preserved c =
    let cut = are_cut c.byte_laws.ensures.looked_up c.args.mem.now c.regions-sound.ensures.sound in
    let i = c.loop-segment.segment-index in
    let segments : List Segment = c.args.segments.now in
    let none : Segment = record { addr = 0; len = 0; write = false } in
    let s : Segment = get_or segments i none in
    let here : drop i segments ≡ s ∷ drop (i + 1) segments =
    let next : suc i ≡ i + 1 = omega arith in
    drop-cons segments i none c.loop-segment-test.true ∙ ap (λ j. s ∷ drop j segments) next in
    let was = c.loop-segment.invariant in
    let same : length c.read_part.new.room ≡ length c.loop-segment.room = c.read_part.auto.room in
    record {
      within = omega (arith, c.min-len.ensures, was.within, same);
      enough = rw same
          (behind_enough segments s i c.loop-segment.left c.loop-segment.at c.min-skipped.result c.min-len.result
          (length c.loop-segment.room) here c.min-skipped.ensures c.min-len.ensures was.enough);
      bytes = behind_bytes c.args.mem.now.bytes c.loop-segment.room c.read_part.new.room _ segments s i
          c.loop-segment.left c.loop-segment.at c.min-skipped.result c.min-len.result cut here c.min-skipped.ensures
          c.min-len.ensures same c.read_part.ensures was.bytes;
    }
