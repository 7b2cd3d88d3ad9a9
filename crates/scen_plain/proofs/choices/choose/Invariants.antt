use Rattle.tap_world.specs.Setup.{setup_of}
use Rattle.scen_plain.proofs.Listing.{Lists}
use Rattle.scen_plain.proofs.choices.choose.Given as goal

-- those so far, and those of the actors that are left, are all
abbrev pub invariant-loop-actor : goal.invariant-loop-actor
invariant-loop-actor l = Lists (setup_of l.core.scenario) l.core.world l.actor l.events.items
