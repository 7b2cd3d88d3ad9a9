use Rattle.std.proofs.Common.{◌≡◌, ◌-◌, ◌≤◌, [], replicate, vec_capacity}
use Rattle.tap_ring.specs.Standing.{maker_of}
use Rattle.tap_ring.specs.Tokens.{token, new_producer}
use Rattle.tap_ring.proofs.making.deal.Given as goal

abbrev pub invariant-loop : goal.invariant-loop
invariant-loop l = record {
  ring : l.seat.table_id ≡ l.fn.seat.table_id;
  maker : l.seat.me ≡ (maker_of l.places.key (l.fn.count - l.counter), []);
  all : l.all.items ≡ replicate l.counter (token l.places.table_id (new_producer l.places.key));
  room : l.fn.count ≤ vec_capacity l.all;
}
