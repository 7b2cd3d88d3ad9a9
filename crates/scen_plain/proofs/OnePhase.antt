-- The events of one phase, picked one after another.
use Rattle.std.proofs.Common.{◌≡◌, ℕ, true, List, [], ◌∷◌, Option, Some, None, refl, subst, ◌∙◌}
use Rattle.scen_text.specs.declared.scenario.Scenario.{Scenario}
use Rattle.tap_core.specs.Running.{Running}
use Rattle.tap_core.specs.Telling.{IsApplied}
use Rattle.tap_world.specs.declared.event.Event.{Event}
use Rattle.tap_world.specs.declared.event.Found.{Found}
use Rattle.tap_world.specs.Runs.{IsChosen, choices, has_ended, moved_on, picked}
use Rattle.tap_world.specs.Setup.{Setup, setup_of}
use Rattle.tap_world.specs.Step.{step}
use Rattle.tap_world.specs.World.{World}
use Rattle.scen_plain.specs.Chosen.{WentOn}

-- whatever is picked from here on stands behind what was picked from there to here
abbrev pub LeadsTo : Setup → ℕ → World → ℕ → World → Type 0
LeadsTo s x w y u =
    (more : List Event) (z : ℕ) (v : World) → IsChosen s y more u z v → (events : List Event) × IsChosen s x events w z v

-- the run went on so far, and x is y now
pub record GoesOn (x : ℕ) (old : Running) (y : ℕ) (now : Running) : Type 0 where
  pub leads : LeadsTo (setup_of old.scenario) x old.world y now.world
  pub scenario : now.scenario ≡ old.scenario
  pub begun : now.begun ≡ old.begun

pub goes_on_first : (x : ℕ) (old : Running) → GoesOn x old x old
goes_on_first x old = record { leads = λ more z v h. (more, h); scenario = refl; begun = refl }

-- one more event
pub goes_on_more : (x : ℕ) (old : Running) (y m : ℕ) (now new : Running) (e : Event) (found : Option Found) → GoesOn x old y now
    → m ≡ moved_on y → picked m (choices (setup_of now.scenario) now.world) ≡ Some e → IsApplied e now new found
    → GoesOn x old m new
goes_on_more x old y m now new e found so_far moved is applied =
    let same : now.scenario ≡ old.scenario = so_far.scenario in
    record {
      leads = λ more z v h. so_far.leads (e ∷ more) z v (
        subst (λ (s : Scenario). picked (moved_on y) (choices (setup_of s) now.world) ≡ Some e) same
            (subst (λ (k : ℕ). picked k (choices (setup_of now.scenario) now.world) ≡ Some e) moved is),
        (new.world, applied.heard),
        subst (λ (s : Scenario). step (setup_of s) now.world e ≡ Some (new.world, applied.heard)) same applied.step,
        subst (λ (k : ℕ). IsChosen (setup_of old.scenario) k more new.world z v) moved h,
      );
      scenario = applied.scenario ∙ same;
      begun = applied.begun ∙ so_far.begun;
    }

-- and none to pick
pub went_on : (x : ℕ) (old : Running) (y m : ℕ) (new : Running) → GoesOn x old y new → m ≡ moved_on y
    → picked m (choices (setup_of new.scenario) new.world) ≡ None → has_ended new.world ≡ true → WentOn x old y new
went_on x old y m new so_far moved is ended =
    let all = so_far.leads [] y new.world (
      subst (λ (s : Scenario). picked (moved_on y) (choices (setup_of s) new.world) ≡ None) so_far.scenario
          (subst (λ (k : ℕ). picked k (choices (setup_of new.scenario) new.world) ≡ None) moved is),
      refl,
      refl,
    ) in
    record {
      events = all.0;
      chosen = all.1;
      ended = ended;
      scenario = so_far.scenario;
      begun = so_far.begun;
    }
