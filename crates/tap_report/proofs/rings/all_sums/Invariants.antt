use Rattle.std.proofs.Common.{◌≡◌, take, reverse}
use Rattle.tap_report.specs.Rows.{called, copied}
use Rattle.tap_report.specs.Turns.{first_told, told_by_steps}
use Rattle.tap_report.proofs.rings.all_sums.Given as goal

abbrev pub invariant-loop-guest : goal.invariant-loop-guest
invariant-loop-guest l = record {
  copied : l.copied ≡ copied l.vhost l.ring (take l.guest-index l.guests);
  called : l.called ≡ called l.vhost l.ring (take l.guest-index l.guests);
  told : l.told ≡ first_told (told_by_steps l.roles l.vhost l.ring) (reverse (take l.guest-index l.guests));
}
