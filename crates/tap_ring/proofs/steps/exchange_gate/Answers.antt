use Rattle.std.proofs.Common.{arith, ◌==◌, ◌+◌, refl, sym}
use Rattle.tap_ring.proofs.Claims.{exchanges}
use Rattle.std.proofs.Common.{subst, Option}
use mathlib.Core.Option.{some}
use Rattle.atomic_table.specs.Table.{step, Allows}
use prog.Atomic.{either}
use Rattle.tap_frame.specs.Frame.{FrameValue}
use Rattle.tap_ring.specs.Standing.{Ring}
use Rattle.tap_ring.specs.Steps.{Exchanges}
use Rattle.tap_ring.proofs.steps.exchange_gate.Goals as goal

pub compare_exchange_with-requires : goal.compare_exchange_with-requires
compare_exchange_with-requires c = (
  c.requires.ring.0,
  omega (arith, c.requires.ring.1),
  subst (λ (o : Option FrameValue). Allows (Ring c.args.places.now.key) c.args.places.now.table_id.slots c.args.seat.now.id c.args.seat.now.me 0 (λ m. either (m == c.args.gate) (c.args.gate + 1) m)
      (Exchanges (step c.args.places.now.table_id.slots 0 c.args.gate (c.args.gate + 1) (some o)) c.args.seat.now.me)) (sym c.requires.item.1)
      (exchanges _ _ _ _ _ c.requires.item.0 c.args.seat.now.me c.requires.live.0 c.requires.live.1 c.requires.live.2 c.requires.gate.0 refl c.requires.unshut c.requires.few c.requires.room),
)
