-- The worlds that a run reaches, as it begins and as a phase begins.
use Rattle.std.proofs.Common.{◌≡◌, ℕ, suc, ◌+◌, true, Some, inl, inr, ⊎_elim, refl, sym, subst, arith}
use Rattle.std.specs.Prelude.{slice_get}
use Rattle.scen_text.specs.declared.scenario.Phase.{Phase}
use Rattle.scen_text.specs.declared.scenario.Scenario.{Scenario}
use Rattle.tap_sound.specs.Worlds.{IsAfter, IsWorldOf, OpeningIsFirst, PhasesBegin, PhasesEnd}
use Rattle.tap_world.specs.Runs.{begins, has_ended, opening}
use Rattle.tap_world.specs.Setup.{setup_of}
use Rattle.tap_world.specs.World.{World}
use Rattle.tap_core.specs.Running.{Reaches}

-- it is one of the scenario's
pub is_world : (s : Scenario) (begun : ℕ) (w : World) → OpeningIsFirst → Reaches s begun w → IsWorldOf s w
is_world s begun w first r =
    ⊎_elim
    (λ h. record { ended = 0; before = opening (setup_of s); is_before = first s; now = inl h.1 })
    (λ l. record { ended = l.ended; before = l.before; is_before = l.is_before; now = inr l.in_phase }) r

-- so many phases are over where all commands have ended
pub all_over : (s : Scenario) (begun : ℕ) (w : World) → OpeningIsFirst → PhasesEnd → Reaches s begun w → has_ended w ≡ true
    → IsAfter s begun w
all_over s begun w first end r ended =
    ⊎_elim
    (λ h. subst (λ (n : ℕ). IsAfter s n w) (sym h.0) (subst (λ (v : World). IsAfter s 0 v) (sym h.1) (first s)))
    (λ l. subst (λ (n : ℕ). IsAfter s n w) (one_more l.ended begun l.is_last)
    (end s l.ended l.before w l.is_before l.in_phase ended)) r
  where
    one_more : (n k : ℕ) → k ≡ suc n → n + 1 ≡ k
    one_more n k e = omega arith

-- the next phase begins
pub next_begins : (s : Scenario) (begun : ℕ) (p : Phase) (w : World) → OpeningIsFirst → PhasesEnd → PhasesBegin → Reaches s begun w → has_ended w ≡ true
    → slice_get s.phases begun ≡ Some p → Reaches s (begun + 1) (begins begun p w)
next_begins s begun p w first end begin r ended is =
    inr (record {
      ended = begun;
      is_last = omega arith;
      number = refl;
      before = w;
      is_before = all_over s begun w first end r ended;
      in_phase = begin s begun p w is;
    })
