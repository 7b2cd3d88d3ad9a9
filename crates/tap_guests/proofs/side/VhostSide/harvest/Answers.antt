use Rattle.std.proofs.Common.{ap}
use Rattle.tap_guests.specs.Side.{Side}
use Rattle.tap_guests.proofs.Posting.{harvest_is}
use Rattle.tap_guests.proofs.side.VhostSide.harvest.Goals as goal

pub returns-clause-call : goal.returns-clause-call
returns-clause-call c =
    harvest_is c.args.vhost c.args.ring c.args.self.now.vhost c.driver_harvests.new.self.vhost c.args.mem.now
    c.driver_harvests.new.mem c.in_ok-answer.answer c.in_ok-answer.ensures.did
    (ap (λ (x : Side). x.vhost) c.driver_harvests.ensures.only)
