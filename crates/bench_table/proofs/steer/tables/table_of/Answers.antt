-- Each name has the same limit and age.
use Rattle.std.proofs.Common.{◌≡◌, ℕ, List, All, replicate, sym, subst, arith}
use Rattle.std.proofs.lemmas.List.Elements.{All-replicate}
use Rattle.tap_steer.specs.Named.{AreLimits}
use Rattle.bench_table.proofs.steer.tables.table_of.Goals as goal

pub new-requires-clause-limits : goal.new-requires-clause-limits
new-requires-clause-limits c =
    let usual : AreLimits (4096, 3000) = record { some = omega arith; few = omega arith; old = omega arith; young = omega arith } in
    subst (All AreLimits) (sym c.in_ok-flows.ensures.items) (All-replicate AreLimits 64 (4096, 3000) usual)
