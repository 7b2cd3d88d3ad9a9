use Rattle.vring_packed.proofs.Heads.{rewound_heads}
use Rattle.vring_packed.proofs.vq.PackedVqOnce.rewind.Goals as goal

pub returns-clause-heads : goal.returns-clause-heads
returns-clause-heads c = λ heads are. rewound_heads c.args.count c.args.self.now c.rewind.new.self heads c.rewind.ensures are
