use Rattle.tap_guests.proofs.Worlds.{sets_in_world, unsets_in_world}
use Rattle.tap_guests.proofs.laws.backs_are_the_worlds.Goals as goal

pub returns-clause-sets : goal.returns-clause-sets
returns-clause-sets c = sets_in_world

pub returns-clause-unsets : goal.returns-clause-unsets
returns-clause-unsets c = unsets_in_world
