-- The trace of a run's world.
use Rattle.std.proofs.Common.{◌≡◌, ℕ, List, Option, refl, sym, subst, ◌∙◌}
use Rattle.scen_text.specs.declared.scenario.Scenario.{Scenario}
use Rattle.tap_guests.specs.Side.{Side}
use Rattle.tap_lines.specs.Files.{files_of}
use Rattle.tap_sound.specs.Worlds.{OpeningIsFirst}
use Rattle.tap_steady.specs.Runs.{ReachedIsSteady}
use Rattle.tap_told.specs.Laws.{OnlyPartsAreTold, SteadyCanBeTold}
use Rattle.tap_told.specs.Needs.{CanBeTold, vhosts_of}
use Rattle.tap_told.specs.Told.{told_world}
use Rattle.tap_world.specs.Guests.{Guest}
use Rattle.tap_world.specs.Project.{project}
use Rattle.tap_world.specs.Setup.{setup_of}
use Rattle.tap_world.specs.declared.told.Published.{Published}
use Rattle.tap_world.specs.declared.told.Said.{Said}
use Rattle.core_actors.specs.Acting.{Acting}
use Rattle.core_shared.specs.declared.shared.Shared.{Shared}
use Rattle.tap_core.specs.Running.{IsRunning, world_of}
use Rattle.tap_core.proofs.Reaching.{is_world}

-- it can be told
pub can_be_told : (s : Scenario) (begun : ℕ) (x : Shared) (actors : List Acting) (said : List Said) (ops : List Published) (guests : List (Option Guest)) (sides : List (Option Side))
    → OpeningIsFirst → ReachedIsSteady → SteadyCanBeTold → IsRunning s begun x actors said → ops ≡ x.ops.ops → guests ≡ x.guests → sides ≡ x.vhosts
    → CanBeTold s ops x.files guests sides
can_be_told s begun x actors said ops guests sides first steady can h same_ops same_guests same_sides =
    let w = world_of s x actors said in
    let told : CanBeTold s x.ops.ops x.files x.guests x.vhosts =
    can s w x.files x.vhosts h.laid (steady s w h.laid (is_world s begun w first h.reached)) refl refl in
    subst (λ (os : List Published). CanBeTold s os x.files guests sides) (sym same_ops)
    (subst (λ (gs : List (Option Guest)). CanBeTold s x.ops.ops x.files gs sides) (sym same_guests)
    (subst (λ (vs : List (Option Side)). CanBeTold s x.ops.ops x.files x.guests vs) (sym same_sides) told))

-- what is told of its parts is told of it
pub told_is : (s : Scenario) (x : Shared) (actors : List Acting) (said : List Said) (ops : List Published) (guests : List (Option Guest)) (sides : List (Option Side))
    → OnlyPartsAreTold → ops ≡ x.ops.ops → guests ≡ x.guests → sides ≡ x.vhosts
    → project (setup_of s) (told_world ops said (files_of x.files) guests (vhosts_of sides))
    ≡ project (setup_of s) (world_of s x actors said)
told_is s x actors said ops guests sides only same_ops same_guests same_sides =
    (λ k. project (setup_of s)
    (told_world (same_ops k) said (files_of x.files) (same_guests k) (vhosts_of (same_sides k))))
    ∙ sym (only (setup_of s) (world_of s x actors said))
