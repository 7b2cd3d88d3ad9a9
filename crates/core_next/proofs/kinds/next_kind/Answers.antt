use Rattle.std.proofs.Common.{subst, sym}
use Rattle.core_shared.specs.Coming.{come_of}
use Rattle.core_shared.specs.declared.doing.Doing.{Doing}
use Rattle.core_next.specs.Telling.{HasWorker, IsNextKind}
use Rattle.core_next.proofs.Turning.{receives}
use Rattle.core_next.proofs.kinds.next_kind.Goals as goal

pub returns-in-Receives : goal.returns-in-Receives
returns-in-Receives c =
    let x = c.args.shared.now in
    subst (λ (d : Doing). HasWorker x.vhosts d → IsNextKind x (come_of x.vhosts d) c.args.command.now c.rx_next.result)
    (sym c.in-Receives.is)
    (λ there. receives x c.in-Receives.vhost c.in-Receives.file c.args.command.now c.rx_next.result there c.rx_next.ensures)
    c.requires
