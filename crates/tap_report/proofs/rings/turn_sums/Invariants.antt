use Rattle.std.proofs.Common.{◌≡◌, take}
use Rattle.tap_report.specs.declared.turns.Turned.{Turned}
use Rattle.tap_report.specs.Rows.{of_turns}
use Rattle.tap_report.proofs.rings.turn_sums.Given as goal

abbrev pub invariant-loop-turn : goal.invariant-loop-turn
invariant-loop-turn l = record {
  got : l.got ≡ of_turns (λ (u : Turned). u.got) l.vhost l.ring (take l.turn-index l.turns);
  refused : l.refused ≡ of_turns (λ (u : Turned). u.refused) l.vhost l.ring (take l.turn-index l.turns);
  bytes : l.bytes ≡ of_turns (λ (u : Turned). u.bytes) l.vhost l.ring (take l.turn-index l.turns);
}
