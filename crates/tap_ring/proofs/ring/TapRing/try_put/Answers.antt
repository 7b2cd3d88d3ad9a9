use Rattle.std.proofs.Common.{subst}
use Rattle.tap_ring.specs.declared.rule.Produced.{Produced}
use Rattle.tap_ring.specs.Tokens.{Token, produced}
use Rattle.tap_ring.specs.Calls.{LoadedMore}
use Rattle.tap_ring.proofs.Causes.{put_loads}
use Rattle.tap_ring.proofs.ring.TapRing.try_put.Goals as goal

pub returns-clause-loaded_more : goal.returns-clause-loaded_more
returns-clause-loaded_more c = subst (λ (t : Token Produced). LoadedMore t.view (produced c.put.new.seat.me.0)) c.p.view_is
    (put_loads c.args.epoch c.args.frame c.put.result (produced c.p.inside.seat.me.0) (produced c.put.new.seat.me.0) c.put.ensures.placed c.put.ensures.cause)
