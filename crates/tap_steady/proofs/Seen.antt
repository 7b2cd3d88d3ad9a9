-- This project's own: what commands found stays so in every world of a run.
use Rattle.std.proofs.Common.{◌≡◌, ℕ, ◌<◌, List, Some, sym, ap, ◌∙◌, subst, arith}
use Rattle.std.specs.Prelude.{slice_get}
use Rattle.scen_text.specs.declared.scenario.Phase.{Phase}
use Rattle.scen_text.specs.declared.scenario.Scenario.{Scenario}
use Rattle.scen_laid.specs.Laid.{IsLaid}
use Rattle.tap_world.specs.declared.told.Published.{Published}
use Rattle.tap_world.specs.Each.{EachActor}
use Rattle.tap_world.specs.Setup.{script_in, setup_of}
use Rattle.tap_world.specs.World.{World, newest}
use Rattle.tap_world.specs.World.Doing.{Begun}
use Rattle.tap_world.specs.Runs.{begins}
use Rattle.tap_world.specs.Steady.{HasFound, IsPublished, IsSteady}
use Rattle.tap_sound.specs.Fresh.{ArePhasesNumbered}
use Rattle.tap_sound.proofs.Taken.{step_is}
use Rattle.tap_steady.specs.Part.{IsBetween, IsPart}
use Rattle.tap_steady.proofs.Kit.{all_at, phases_are}
use Rattle.tap_steady.proofs.NamedActors.{new_actor}
use Rattle.tap_steady.proofs.Ops.{all_earlier}
use Rattle.tap_steady.proofs.SeenKept.{begun_found, found_after}
use Rattle.tap_steady.proofs.SeenNumbers.{earlier_phase}

numbered : (s : Scenario) → IsLaid s → ArePhasesNumbered 0 (setup_of s).phases
numbered s laid = subst (ArePhasesNumbered 0) (sym (phases_are s)) laid.numbers

-- no operation so far is of a command of the phase that begins
at_begin : (s : Scenario) (ended : ℕ) (p : Phase) (w : World) → IsLaid s → IsBetween s ended w
    → slice_get s.phases ended ≡ Some p → IsSteady (setup_of s) w
    → (actor : ℕ) → HasFound (setup_of s) (begins ended p w)
    (record { seen = newest w; script = script_in p actor; doing = Begun })
at_begin s ended p w laid between is steady actor = begun_found (setup_of s) (begins ended p w) (newest w)
    (script_in p actor)
    (λ c idx q at_c at_q same.
    let o = all_at (IsPublished (setup_of s) w) w.ops idx q steady.ops.published at_q in
    let before = all_at (λ (y : Published). y.phase < ended) w.ops idx q
    (all_earlier s ended w between steady.ops.latest) at_q in
    let less = earlier_phase 0 (setup_of s).phases q.phase ended o.phase p (numbered s laid) before o.is_phase
    (ap (λ (ps : List Phase). slice_get ps ended) (phases_are s)
    ∙ is) q.actor actor o.index 0 o.command c o.is_command at_c in
    let num = o.number in
    omega (arith, less, num, same))

pub what_commands_found_stays : IsPart (λ s w. EachActor w (λ actor a. HasFound s w a))
what_commands_found_stays = record {
  first = λ s laid i a at_. absurd (cc (at_));
  begin = λ s ended p w laid between is sound steady i a at_.
      subst (HasFound (setup_of s) (begins ended p w)) (new_actor p (newest w) 0 p.actors i a at_)
      (at_begin s ended p w laid between is steady _);
  event = λ s w e u laid of_ is sound steady after.
      found_after (setup_of s) w e u.0 (step_is (setup_of s) w e u is)
      (numbered s laid) sound.sound.actors steady sound.sound.versions sound.sound.tabled.backends;
}
