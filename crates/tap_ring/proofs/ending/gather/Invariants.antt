use Rattle.std.proofs.Common.{◌≡◌, ◌+◌, [], None, true, length, vec_len}
use Rattle.tap_ring.specs.Finish.{AllOfRing}
use Rattle.tap_ring.specs.Leaving.{gathered}
use Rattle.tap_ring.proofs.ending.gather.Given as goal

abbrev pub decreases-loop-p : goal.decreases-loop-p
decreases-loop-p l = vec_len l.all

abbrev pub invariant-loop-p : goal.invariant-loop-p
invariant-loop-p l = record {
  ring : l.seat.table_id ≡ l.fn.seat.table_id;
  producers : AllOfRing l.places.table_id l.all.items;
  takes : l.seat.me.0.takes ≡ true;
  in_hand : l.seat.me.0.in_hand ≡ None;
  putting : l.seat.me.0.putting ≡ None;
  slots : l.seat.me.1 ≡ [];
  gathered_so_far : gathered l.seat.me.0 l.all.items ≡ gathered l.fn.seat.me.0 l.fn.all.items;
  parts : l.seat.me.0.parts + length l.all.items ≡ l.fn.seat.me.0.parts + length l.fn.all.items;
}
