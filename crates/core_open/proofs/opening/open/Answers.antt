use Rattle.std.proofs.Common.{ℕ, ◌∙◌, List, Option, refl, ap}
use Rattle.tap_world.specs.Setup.{Declared, setup_of}
use Rattle.tap_steer.specs.Table.{Table}
use Rattle.guest_mem.specs.declared.region.Region.{Region}
use Rattle.core_open.specs.Collected.{Collected, capacities_of, files_of, guests_of, sides_of}
use Rattle.core_open.proofs.Opened.{begun_at, opened_from}
use Rattle.core_open.proofs.opening.open.Goals as goal

pub returns-in-Ok : goal.returns-in-Ok
returns-in-Ok c =
    let d : Collected = record {
      files = c.files.inside.files.items;
      guests = c.files.inside.guests.items;
      vhosts = c.files.inside.vhosts.items;
      programs = c.files.inside.programs.items;
      flows = c.files.inside.flows.items;
    } in
    opened_from (setup_of c.args.scenario.now) d _ c.in_ok-capacities.capacities.items (c.files.view_is ∙ c.in_ok-files.ensures)
    (c.in_ok-capacities.ensures ∙ ap (λ (xs : List (Option Declared)). capacities_of xs) c.deref.ensures.value)
    (c.new-in-Ok.ensures.none ∙ ap (λ (t : Table). begun_at t) c.in_ok-table.ensures)
    (c.in_ok-files-2.ensures ∙ ap (λ (xs : List (Option Declared)). files_of xs) c.deref-3.ensures.value)
    (c.in_ok-guests.ensures ∙ ap (λ (xs : List (Option (List Region))). guests_of xs) c.deref-2.ensures.value)
    (c.in-Ok.ensures ∙ ap (λ (xs : List (Option ℕ)). sides_of xs) c.deref-4.ensures.value)
    c.new-in-Ok-2.ensures.items c.new-in-Ok-3.ensures.items refl refl
