use Rattle.std.proofs.Common.{[], ◌∷◌, List, refl, ap, sym, ◌∙◌}
use Rattle.vring_split.specs.declared.segment.Segment.{Segment}
use Rattle.vring_turns.specs.Ring.{Gathered}
use Rattle.vhost_tx.specs.Kept.{chain_of}
use Rattle.vhost_tx.proofs.worker.TxWorker.read.Goals as goal

pub returns : goal.returns
returns c =
    let one : List Segment → List Gathered =
    λ segments. record { head = c.in-Some.head; segments = segments } ∷ [] in
    rw (← c.self.view_is) (record {
      chain = record { head = c.in-Some.head; segments = c.list.result.now };
      only = ap (λ h. chain_of h c.self.inside.room) c.in-Some.is ∙ ap one (sym c.list.ensures.list);
      head_is = refl;
      bytes_are = c.read_chain-counted.ensures.counted;
      judged_so = c.read_chain-counted.ensures.judged;
    })
