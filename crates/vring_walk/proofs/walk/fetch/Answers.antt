use Rattle.std.proofs.Common.{arith}
use Rattle.guest_mem.specs.Memory.{byte_at, covers}
use Rattle.vring_walk.proofs.Functions.{fetches_as_function}
use Rattle.vring_walk.proofs.walk.fetch.Goals as goal

pub returns-clause-as_function : goal.returns-clause-as_function
returns-clause-as_function c =
    (fetches_as_function (byte_at c.args.mem.now) (covers c.args.mem.now.regions) c.args.ring.now c.args.last c.args.room.now c.take_available.new.room c.take_available.result (omega arith) c.take_available.ensures.few).0 c.take_available.ensures.answer
