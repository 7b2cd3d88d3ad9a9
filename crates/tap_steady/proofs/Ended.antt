-- A detach whose gate is shut and whose file is empty has ended.
use Rattle.std.proofs.Common.{◌≡◌, ℕ, Option, Some, None, refl, sym, ◌∙◌, subst}
use Rattle.scen_text.specs.declared.scenario.Phase.{Phase}
use Rattle.tap_world.specs.Setup.{setup_of}
use Rattle.tap_world.specs.World.{World, newest}
use Rattle.tap_world.specs.Effect.{Ending, ending, settled}
use Rattle.tap_world.specs.Runs.{begins}
use Rattle.tap_sound.proofs.Taken.{ending_is, step_is}
use Rattle.tap_steady.specs.Part.{IsPart}
use Rattle.tap_steady.proofs.Kit.{begun_all}

-- ---- as a phase begins

begin : (number : ℕ) (p : Phase) (w : World) → ending (begins number p w) ≡ None
begin number p w = go (ending (begins number p w)) refl
  where
    go : (o : Option Ending) → ending (begins number p w) ≡ o → o ≡ None
    go None is = refl
    go (Some e) is =
        let h = ending_is (begins number p w) e is in
        absurd (cc (sym h.doing ∙ begun_all p (newest w) 0 p.actors e.actor e.state h.found))

-- ---- after an event

event : (v : World) → ending (settled v (ending v)) ≡ None
event v = go (ending v) refl
  where
    go : (o : Option Ending) → ending v ≡ o → ending (settled v o) ≡ None
    go None is = is
    go (Some e) is = refl

pub ending_is_kept : IsPart (λ s w. ending w ≡ None)
ending_is_kept = record {
  first = λ s laid. refl;
  begin = λ s ended p w laid between is sound steady. begin ended p w;
  event = λ s w e u laid is stepped sound steady after.
      let t = step_is (setup_of s) w e u stepped in subst (λ (q : World). ending q ≡ None) t.is (event t.between);
}
