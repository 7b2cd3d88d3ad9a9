use Rattle.std.proofs.Common.{ap}
use Rattle.tap_guests.specs.Side.{Side}
use Rattle.tap_guests.proofs.Posting.{post_out_is}
use Rattle.tap_guests.proofs.side.VhostSide.post_out.Goals as goal

pub returns-clause-call : goal.returns-clause-call
returns-clause-call c =
    post_out_is c.args.vhost c.args.ring c.args.bytes.now c.args.self.now.vhost c.driver_posts_out.new.self.vhost
    c.args.mem.now
    c.driver_posts_out.new.mem c.in_ok-answer.answer c.in_ok-answer.ensures.did
    (ap (λ (x : Side). x.vhost) c.driver_posts_out.ensures.only)
