-- Every world of a run is steady, where each part is kept.
use Rattle.std.proofs.Common.{◌≡◌, ℕ, zero, suc, ◌+◌, List, [], ◌∷◌, length, take, true, Some, None, inl, inr, ⊎_elim, refl, sym, ap, ◌∙◌, subst, arith}
use Rattle.std.specs.Prelude.{slice_get}
use Rattle.scen_text.specs.declared.scenario.Phase.{Phase}
use Rattle.scen_text.specs.declared.scenario.Scenario.{Scenario}
use Rattle.scen_laid.specs.Laid.{IsLaid}
use Rattle.scen_laid.specs.Runs.{HasSoundRuns}
use Rattle.tap_sound.specs.Worlds.{EventsGoOn, IsAfter, IsInPhase, IsWorldOf, OpeningIsFirst, PhasesBegin, PhasesEnd}
use Rattle.tap_sound.proofs.Kit.{some_same, then_some}
use Rattle.tap_sound.proofs.Taken.{if_some, step_is, when_settled}
use Rattle.tap_world.specs.declared.event.Event.{Event}
use Rattle.tap_world.specs.declared.event.Heard.{Heard}
use Rattle.tap_world.specs.Each.{EachActor, EachFile}
use Rattle.tap_world.specs.Effect.{ending}
use Rattle.tap_world.specs.Runs.{IsRun, begins, has_ended, opening, run, run_phases}
use Rattle.tap_world.specs.Setup.{Setup, setup_of}
use Rattle.std.specs.List.{AllByRecursion}
use Rattle.tap_world.specs.Steady.{AreOperations, HasFound, HasItsCuts, HasItsPlace, HasItsTurn, IsStillLawful, IsSteady, IsThere, IsTold, NamesWhatIsThere, WasSent}
use Rattle.tap_world.specs.Step.{step}
use Rattle.tap_world.specs.World.{World}
use Rattle.tap_steady.specs.Part.{IsBetween, IsPart}
use Rattle.tap_steady.proofs.Kit.{effect_phase}

-- each of the eleven parts is kept
pub record AreParts : Type 0 where
  pub there : IsPart IsThere
  pub named : IsPart NamesWhatIsThere
  pub placed : IsPart (λ s w. EachActor w (HasItsPlace w))
  pub lawful : IsPart IsStillLawful
  pub turns : IsPart (λ s w. EachActor w (HasItsTurn s w))
  pub sent : IsPart (λ s w. EachFile w (λ file f. AllByRecursion (WasSent s) f.line))
  pub seen : IsPart (λ s w. EachActor w (λ actor a. HasFound s w a))
  pub told : IsPart IsTold
  pub ops : IsPart AreOperations
  pub sized : IsPart (λ s w. EachActor w (HasItsCuts s w))
  pub ended : IsPart (λ s w. ending w ≡ None)

-- the laws on worlds, one after another
pub record WorldLaws : Type 0 where
  pub first : OpeningIsFirst
  pub begin : PhasesBegin
  pub event : EventsGoOn
  pub end : PhasesEnd

-- what is so of all parts is so of the whole
whole : AreParts → IsPart IsSteady
whole p = record {
  first = λ s laid. record {
    there = p.there.first s laid;
    named = p.named.first s laid;
    placed = p.placed.first s laid;
    lawful = p.lawful.first s laid;
    turns = p.turns.first s laid;
    sent = p.sent.first s laid;
    seen = p.seen.first s laid;
    told = p.told.first s laid;
    ops = p.ops.first s laid;
    sized = p.sized.first s laid;
    ended = p.ended.first s laid;
  };
  begin = λ s n q w laid between is sound steady. record {
    there = p.there.begin s n q w laid between is sound steady;
    named = p.named.begin s n q w laid between is sound steady;
    placed = p.placed.begin s n q w laid between is sound steady;
    lawful = p.lawful.begin s n q w laid between is sound steady;
    turns = p.turns.begin s n q w laid between is sound steady;
    sent = p.sent.begin s n q w laid between is sound steady;
    seen = p.seen.begin s n q w laid between is sound steady;
    told = p.told.begin s n q w laid between is sound steady;
    ops = p.ops.begin s n q w laid between is sound steady;
    sized = p.sized.begin s n q w laid between is sound steady;
    ended = p.ended.begin s n q w laid between is sound steady;
  };
  event = λ s w e u laid is_world is sound steady after. record {
    there = p.there.event s w e u laid is_world is sound steady after;
    named = p.named.event s w e u laid is_world is sound steady after;
    placed = p.placed.event s w e u laid is_world is sound steady after;
    lawful = p.lawful.event s w e u laid is_world is sound steady after;
    turns = p.turns.event s w e u laid is_world is sound steady after;
    sent = p.sent.event s w e u laid is_world is sound steady after;
    seen = p.seen.event s w e u laid is_world is sound steady after;
    told = p.told.event s w e u laid is_world is sound steady after;
    ops = p.ops.event s w e u laid is_world is sound steady after;
    sized = p.sized.event s w e u laid is_world is sound steady after;
    ended = p.ended.event s w e u laid is_world is sound steady after;
  };
}

-- ---- an event leaves the phase's number

phase_stays : (s : Setup) (w : World) (e : Event) (u : World × Heard) → step s w e ≡ Some u → u.0.phase ≡ w.phase
phase_stays s w e u is =
    let t = step_is s w e u is in
    let stays : t.between.phase ≡ w.phase = effect_phase t.effect e.actor t.actor e.command w t.between t.made in
    subst (λ (q : World). q.phase ≡ w.phase) t.is
    (when_settled (λ (q : World). q.phase ≡ w.phase) t.between stays (λ x h. stays))

-- ---- runs

-- a world of a phase, which is steady
record InPhase (s : Scenario) (number : ℕ) (before w : World) : Type 0 where
  in_phase : IsInPhase s number before w
  phase : w.phase ≡ number
  steady : IsSteady (setup_of s) w

-- a world behind so many phases, which is steady
record Behind (s : Scenario) (number : ℕ) (w : World) : Type 0 where
  between : IsBetween s number w
  steady : IsSteady (setup_of s) w

world_of : (s : Scenario) (number : ℕ) (before w : World) → IsAfter s number before → IsInPhase s number before w → IsWorldOf s w
world_of s number before w after is = record { ended = number; before = before; is_before = after; now = inr is }

run_steady : IsPart IsSteady → WorldLaws → (s : Scenario) → IsLaid s → HasSoundRuns s → (number : ℕ) (before : World) → IsAfter s number before
    → (es : List Event) (w v : World) → run (setup_of s) es w ≡ Some v → InPhase s number before w → InPhase s number before v
run_steady part laws s laid runs number before after [] w v e h = subst (InPhase s number before) (some_same w v e) h
run_steady part laws s laid runs number before after (x ∷ es) w v e h =
    let t = then_some (step (setup_of s) w x) _ v e in
    let is_world = world_of s number before w after h.in_phase in
    let next = laws.event s number before w x t.0 t.1 h.in_phase in
    let is_next = world_of s number before t.0.0 after next in
    run_steady part laws s laid runs number before after es t.0.0 v t.2 (record {
      in_phase = next;
      phase = phase_stays (setup_of s) w x t.0 t.1 ∙ h.phase;
      steady = part.event s w x t.0 laid is_world t.1 (runs.reached w is_world) h.steady (runs.reached t.0.0 is_next);
    })

begun : IsPart IsSteady → WorldLaws → (s : Scenario) → IsLaid s → HasSoundRuns s → (number : ℕ) (p : Phase) (w : World) → slice_get s.phases number ≡ Some p
    → Behind s number w → InPhase s number w (begins number p w)
begun part laws s laid runs number p w is h = record {
  in_phase = laws.begin s number p w is;
  phase = refl;
  steady = part.begin s number p w laid h.between is
      (runs.reached w (record { ended = number; before = w; is_before = h.between.after; now = inl refl })) h.steady;
}

over : WorldLaws → (s : Scenario) (number : ℕ) (before w : World) → IsAfter s number before → InPhase s number before w → has_ended w ≡ true → Behind s (number + 1) w
over laws s number before w after h e = record {
  between = record {
    after = laws.end s number before w after h.in_phase e;
    all_ended = e;
    next = inr (let p = h.phase in omega (arith, p));
  };
  steady = h.steady;
}

-- these phases are those from a number on, as far as they go
abbrev AreFrom : Scenario → ℕ → List Phase → Type 0
AreFrom s number ps = (k : ℕ) (p : Phase) → slice_get ps k ≡ Some p → slice_get s.phases (number + k) ≡ Some p

at_start : (s : Scenario) (k : ℕ) (p : Phase) → slice_get s.phases k ≡ Some p → slice_get s.phases (0 + k) ≡ Some p
at_start s k p e = subst (λ (j : ℕ). slice_get s.phases j ≡ Some p) (let z : k ≡ 0 + k = omega arith in z) e

phases_steady : IsPart IsSteady → WorldLaws → (s : Scenario) → IsLaid s → HasSoundRuns s → (number : ℕ) (ps : List Phase) (es : List (List Event)) (w v : World)
    → run_phases (setup_of s) number ps es w ≡ Some v → AreFrom s number ps → Behind s number w → Behind s (number + length ps) v
phases_steady part laws s laid runs number [] [] w v e from h =
    subst (λ (k : ℕ). Behind s k v) (let z : number ≡ number + 0 = omega arith in z) (subst (Behind s number) (some_same w v e) h)
phases_steady part laws s laid runs number [] (d ∷ es) w v e from h = absurd (cc (e))
phases_steady part laws s laid runs number (p ∷ ps) [] w v e from h = absurd (cc (e))
phases_steady part laws s laid runs number (p ∷ ps) (d ∷ es) w v e from h =
    let t = then_some (run (setup_of s) d (begins number p w)) _ v e in
    let c = if_some (has_ended t.0) _ v t.2 in
    let is : slice_get s.phases number ≡ Some p = subst (λ (k : ℕ). slice_get s.phases k ≡ Some p) (let z : number + 0 ≡ number = omega arith in z) (from 0 p refl) in
    let last = run_steady part laws s laid runs number w h.between.after d (begins number p w) t.0 t.1 (begun part laws s laid runs number p w is h) in
    let rest = phases_steady part laws s laid runs (number + 1) ps es t.0 v c.1
    (λ k q e. subst (λ (j : ℕ). slice_get s.phases j ≡ Some q) (let z : number + suc k ≡ (number + 1) + k = omega arith in z) (from (suc k) q e))
    (over laws s number w t.0 h.between.after last c.0) in
    subst (λ (k : ℕ). Behind s k v) (let z : (number + 1) + length ps ≡ number + suc (length ps) = omega arith in z) rest

first_behind : IsPart IsSteady → WorldLaws → (s : Scenario) → IsLaid s → Behind s 0 (opening (setup_of s))
first_behind part laws s laid = record {
  between = record { after = laws.first s; all_ended = refl; next = inl (refl, refl) };
  steady = part.first s laid;
}

take_from : (n : ℕ) (ps : List Phase) (k : ℕ) (p : Phase) → slice_get (take n ps) k ≡ Some p → slice_get ps k ≡ Some p
take_from zero ps k p e = absurd (cc (e))
take_from (suc n) [] k p e = absurd (cc (e))
take_from (suc n) (q ∷ ps) zero p e = e
take_from (suc n) (q ∷ ps) (suc k) p e = take_from n ps k p e

take_few : (n : ℕ) (ps : List Phase) (p : Phase) → slice_get ps n ≡ Some p → length (take n ps) ≡ n
take_few n [] p e = absurd (cc (e))
take_few zero (q ∷ ps) p e = refl
take_few (suc n) (q ∷ ps) p e = ap suc (take_few n ps p e)

after_steady : IsPart IsSteady → WorldLaws → (s : Scenario) → IsLaid s → HasSoundRuns s → (number : ℕ) (w : World) → IsAfter s number w
    → Behind s (length (take number s.phases)) w
after_steady part laws s laid runs number w after =
    subst (λ (k : ℕ). Behind s k w) (let z : 0 + length (take number s.phases) ≡ length (take number s.phases) = omega arith in z)
    (phases_steady part laws s laid runs 0 (take number s.phases) after.events (opening (setup_of s)) w after.is
    (λ k p e. at_start s k p (take_from number s.phases k p e)) (first_behind part laws s laid))

pub reached_is_steady : AreParts → WorldLaws → (s : Scenario) (w : World) → IsLaid s → HasSoundRuns s → IsWorldOf s w → IsSteady (setup_of s) w
reached_is_steady parts laws s w laid runs h =
    let part = whole parts in
    let before = after_steady part laws s laid runs h.ended h.before h.is_before in
    ⊎_elim (λ same. subst (IsSteady (setup_of s)) (sym same) before.steady)
    (λ p.
    let behind = subst (λ (k : ℕ). Behind s k h.before) (take_few h.ended s.phases p.phase p.is_next) before in
    (run_steady part laws s laid runs h.ended h.before h.is_before p.so_far (begins h.ended p.phase h.before) w p.is
    (begun part laws s laid runs h.ended p.phase h.before p.is_next behind)).steady) h.now

pub run_is_steady : AreParts → WorldLaws → (s : Scenario) (events : List (List Event)) (w : World) → IsLaid s → HasSoundRuns s → IsRun s events w → IsSteady (setup_of s) w
run_is_steady parts laws s events w laid runs e =
    (phases_steady (whole parts) laws s laid runs 0 s.phases events (opening (setup_of s)) w e (λ k p is. at_start s k p is) (first_behind (whole parts) laws s laid)).steady
