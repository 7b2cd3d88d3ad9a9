-- This project's own: what the fields of an actor mean.
use Rattle.core_actors.specs.Acting.{Acting}
use Rattle.core_actors.specs.declared.actor.Actor.TheInside.{Inside}

abbrev pub acting_of : Inside → Acting
acting_of a = record { seen = a.seen; script = a.script.items; doing = a.doing }
