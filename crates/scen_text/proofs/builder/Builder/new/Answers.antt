use Rattle.std.proofs.Common.{refl}
use Rattle.scen_text.specs.Before.{command_count, declarations_of, is_started, names_of, phases_of, place_of, turn_count}
use Rattle.scen_text.proofs.builder.Builder.new.Goals as goal

pub returns : goal.returns
unfolding declarations_of names_of is_started place_of command_count turn_count phases_of
returns c = record { standing = rw (c.new.ensures, c.new-2.ensures) refl; phases = rw c.new-3.ensures refl }
