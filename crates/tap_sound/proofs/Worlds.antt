-- The worlds that runs of a scenario reach, one after another.
use Rattle.std.proofs.Common.{◌≡◌, ℕ, zero, suc, ◌+◌, List, [], ◌∷◌, ◌++◌, length, take, true, Bool, Option, Some, None, inr, ⊎_elim, refl, sym, ap, ◌∙◌, subst, arith}
use Rattle.std.specs.Prelude.{if◌then◌else◌, slice_get}
use Rattle.scen_text.specs.declared.scenario.Phase.{Phase}
use Rattle.scen_text.specs.declared.scenario.Scenario.{Scenario}
use Rattle.tap_world.specs.declared.event.Event.{Event}
use Rattle.tap_world.specs.declared.event.Heard.{Heard}
use Rattle.tap_world.specs.Setup.{Setup, setup_of}
use Rattle.tap_world.specs.World.{World}
use Rattle.tap_world.specs.Step.{step}
use Rattle.tap_world.specs.Runs.{IsRun, begins, has_ended, opening, run, run_phases}
use Rattle.tap_sound.specs.Worlds.{IsAfter, IsInPhase, IsWorldOf}
use Rattle.tap_sound.proofs.Kit.{some_same, some_then, then_some}
use Rattle.tap_sound.proofs.Reached.{none_comes, phases_end}
use Rattle.tap_sound.proofs.Taken.{if_some, step_is}

-- ---- one event more, one phase more

run_more : (s : Setup) (es : List Event) (w v : World) (x : Event) (u : World × Heard) → run s es w ≡ Some v → step s v x ≡ Some u
    → run s (es ++ x ∷ []) w ≡ Some u.0
run_more s [] w v x u h e = some_then (step s w x) (λ n. run s [] n.0) u u.0 (ap (λ q. step s q x) (some_same w v h) ∙ e) refl
run_more s (y ∷ ys) w v x u h e =
    let t = then_some (step s w y) _ v h in
    some_then (step s w y) (λ n. run s (ys ++ x ∷ []) n.0) t.0 u.0 t.1 (run_more s ys t.0.0 v x u t.2 e)

when_ended : (o : Option World) (v : World) → has_ended v ≡ true → (if has_ended v then o else None) ≡ o
when_ended o v e = ap (λ (b : Bool). if b then o else None) e

phases_more : (s : Setup) (n : ℕ) (ps : List Phase) (p : Phase) (es : List (List Event)) (ds : List Event) (w v u : World) → run_phases s n ps es w ≡ Some v
    → run s ds (begins (n + length ps) p v) ≡ Some u → has_ended u ≡ true → run_phases s n (ps ++ p ∷ []) (es ++ ds ∷ []) w ≡ Some u
phases_more s n [] p [] ds w v u e h ended =
    let at_ : run s ds (begins n p w) ≡ Some u =
    subst (λ (k : ℕ). run s ds (begins k p w) ≡ Some u) (omega arith) (subst (λ (q : World). run s ds (begins (n + 0) p q) ≡ Some u) (sym (some_same w v e)) h) in
    some_then (run s ds (begins n p w)) (λ q. if has_ended q then run_phases s (n + 1) [] [] q else None) u u at_ (when_ended (Some u) u ended)
phases_more s n [] p (d ∷ es) ds w v u e h ended = absurd (cc (e))
phases_more s n (q ∷ ps) p [] ds w v u e h ended = absurd (cc (e))
phases_more s n (q ∷ ps) p (d ∷ es) ds w v u e h ended =
    let t = then_some (run s d (begins n q w)) _ v e in
    let c = if_some (has_ended t.0) _ v t.2 in
    some_then (run s d (begins n q w)) (λ x. if has_ended x then run_phases s (n + 1) (ps ++ p ∷ []) (es ++ ds ∷ []) x else None) t.0 u t.1
    (when_ended (run_phases s (n + 1) (ps ++ p ∷ []) (es ++ ds ∷ []) t.0) t.0 c.0
    ∙ phases_more s (n + 1) ps p es ds t.0 v u c.1 (subst (λ (k : ℕ). run s ds (begins k p v) ≡ Some u) (omega arith) h) ended)

take_next : (k : ℕ) (ps : List Phase) (p : Phase) → slice_get ps k ≡ Some p → take (suc k) ps ≡ take k ps ++ p ∷ []
take_next k [] p e = absurd (cc (e))
take_next zero (x ∷ xs) p e = ap (λ q. q ∷ []) (some_same x p e)
take_next (suc k) (x ∷ xs) p e = ap (λ qs. x ∷ qs) (take_next k xs p e)

take_length : (k : ℕ) (ps : List Phase) (p : Phase) → slice_get ps k ≡ Some p → length (take k ps) ≡ k
take_length k [] p e = absurd (cc (e))
take_length zero (x ∷ xs) p e = refl
take_length (suc k) (x ∷ xs) p e = ap suc (take_length k xs p e)

take_all : (ps : List Phase) → take (length ps) ps ≡ ps
take_all [] = refl
take_all (p ∷ ps) = ap (λ qs. p ∷ qs) (take_all ps)

-- ---- the laws

pub opening_is_first : (s : Scenario) → IsAfter s 0 (opening (setup_of s))
opening_is_first s = record { events = []; is = refl }

pub phases_begin : (s : Scenario) (ended : ℕ) (p : Phase) (w : World) → slice_get s.phases ended ≡ Some p → IsInPhase s ended w (begins ended p w)
phases_begin s ended p w e = record { phase = p; is_next = e; so_far = []; is = refl }

pub events_go_on : (s : Scenario) (ended : ℕ) (before w : World) (e : Event) (u : World × Heard) → step (setup_of s) w e ≡ Some u
    → IsInPhase s ended before w → IsInPhase s ended before u.0
events_go_on s ended before w e u is h = record {
  phase = h.phase;
  is_next = h.is_next;
  so_far = h.so_far ++ e ∷ [];
  is = run_more (setup_of s) h.so_far (begins ended h.phase before) w e u h.is is;
}

pub phases_end_so : (s : Scenario) (ended : ℕ) (before w : World) → IsAfter s ended before → IsInPhase s ended before w → has_ended w ≡ true
    → IsAfter s (ended + 1) w
phases_end_so s ended before w a h e = record {
  events = a.events ++ h.so_far ∷ [];
  is = subst (λ (ps : List Phase). run_phases (setup_of s) 0 ps (a.events ++ h.so_far ∷ []) (opening (setup_of s)) ≡ Some w)
      (let one : suc ended ≡ ended + 1 = omega arith in sym (take_next ended s.phases h.phase h.is_next) ∙ ap (λ (k : ℕ). take k s.phases) one)
      (phases_more (setup_of s) 0 (take ended s.phases) h.phase a.events h.so_far (opening (setup_of s)) before w a.is
      (subst (λ (k : ℕ). run (setup_of s) h.so_far (begins k h.phase before) ≡ Some w) (let l = take_length ended s.phases h.phase h.is_next in omega (arith, l)) h.is) e);
}

pub last_is_run : (s : Scenario) (w : World) (last : IsAfter s (length s.phases) w) → IsRun s last.events w
last_is_run s w last = subst (λ (ps : List Phase). run_phases (setup_of s) 0 ps last.events (opening (setup_of s)) ≡ Some w) (take_all s.phases) last.is

pub worlds_go_on : (s : Scenario) (w : World) (e : Event) (u : World × Heard) → step (setup_of s) w e ≡ Some u → IsWorldOf s w → IsWorldOf s u.0
worlds_go_on s w e u is h = ⊎_elim
    (λ same.
    let ended = subst (λ (q : World). has_ended q ≡ true) (sym same)
    (phases_end (setup_of s) 0 (take h.ended s.phases) h.is_before.events (opening (setup_of s)) h.before h.is_before.is refl) in
    let t = step_is (setup_of s) w e u is in
    absurd (none_comes w e.actor t.actor t.now ended t.found t.current_is))
    (λ p. record { ended = h.ended; before = h.before; is_before = h.is_before; now = inr (events_go_on s h.ended h.before w e u is p) }) h.now
