use Rattle.std.proofs.Common.{refl}
use Rattle.trace_words.specs.Places.{place_line}
use Rattle.trace_text.proofs.Loops.{text_more}
use Rattle.trace_text.proofs.printing.put_places.Goals as goal

pub loop-place-preserved : goal.loop-place-preserved
loop-place-preserved c = text_more place_line _ _ _ c.args.places.now c.loop-place.place-index _ _ c.loop-place-test.true refl c.loop-place.invariant c.in_ok-put_place.ensures
