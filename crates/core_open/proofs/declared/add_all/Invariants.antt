use Rattle.std.proofs.Common.{fold, take}
use Rattle.core_open.specs.Collected.{Follows}
use Rattle.tap_world.specs.Setup.{with_declaration}
use Rattle.core_open.proofs.declared.add_all.Given as goal

-- what is collected is what the first so many declare
abbrev pub invariant-loop-declaration : goal.invariant-loop-declaration
invariant-loop-declaration l =
    Follows (λ s. fold with_declaration s (take l.declaration-index l.declarations)) l.fn.so_far l.so_far
