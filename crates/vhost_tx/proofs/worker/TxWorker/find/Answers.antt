use Rattle.std.proofs.Common.{ap, ◌∙◌}
use Rattle.guest_mem.specs.Memory.{covers}
use Rattle.vhost_tx.proofs.Lies.{fetched_lies, none_lies}
use Rattle.vhost_tx.proofs.worker.TxWorker.find.Goals as goal
use Rattle.vhost_tx.proofs.worker.TxWorker.find.Goals.{in-Chain, in-Bad, in-Nothing}

pub returns-clause-lies : goal.returns-clause-lies
returns-clause-lies c =
    let was = ap (λ v. v.turn.chains) c.self.view_is ∙ c.requires.none in
    elim c.match-found.branch [
      | in-Chain w ↦
          rw w.self-inside-is
          (fetched_lies _ _ _ _ _ _ _ c.chains_are_usable.ensures c.clear.ensures w.in-Chain.ensures.answer)
      | in-Bad w ↦ rw w.self-inside-is (none_lies (covers c.args.mem.now.regions) c.self.inside.head c.self.inside.room _ was)
      | in-Nothing w ↦ rw w.self-inside-is (none_lies (covers c.args.mem.now.regions) c.self.inside.head c.self.inside.room _ was)
    ]
