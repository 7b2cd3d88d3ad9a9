-- A seed picks one run.
use Rattle.std.proofs.Common.{◌≡◌, ℕ, ◌+◌, List, [], ◌∷◌, Some, refl, sym, ap, ◌∙◌, subst}
use Rattle.scen_text.specs.declared.scenario.Phase.{Phase}
use Rattle.tap_world.specs.declared.event.Event.{Event}
use Rattle.tap_world.specs.declared.event.Heard.{Heard}
use Rattle.tap_world.specs.Setup.{Setup}
use Rattle.tap_world.specs.World.{World}
use Rattle.tap_world.specs.Step.{step}
use Rattle.tap_world.specs.Runs.{AreChosen, IsChosen, begins, moved_on}

some_same : {A : Type 0} (x y : A) → Some x ≡ Some y → x ≡ y
some_same x y e = cc (e)

-- one phase: the events, x and the world after them
one_phase : (s : Setup) (x : ℕ) (es ds : List Event) (w : World) (y z : ℕ) (u v : World)
    → IsChosen s x es w y u → IsChosen s x ds w z v → (es ≡ ds) × (y ≡ z) × (u ≡ v)
one_phase s x [] [] w y z u v a b = (refl, a.1 ∙ sym b.1, a.2 ∙ sym b.2)
one_phase s x [] (d ∷ ds) w y z u v a b = absurd (cc (a.0, b.0))
one_phase s x (e ∷ es) [] w y z u v a b = absurd (cc (a.0, b.0))
one_phase s x (e ∷ es) (d ∷ ds) w y z u v a b =
    let same : e ≡ d = some_same e d (sym a.0 ∙ b.0) in
    let after : a.1 ≡ b.1 = some_same a.1 b.1 (sym a.2 ∙ ap (step s w) same ∙ b.2) in
    let rest = one_phase s (moved_on x) es ds a.1.0 y z u v a.3 (subst (λ (r : World × Heard). IsChosen s (moved_on x) ds r.0 z v) (sym after) b.3) in
    (cc (same, rest.0), rest.1, rest.2)

pub one_order : (s : Setup) (x number : ℕ) (ps : List Phase) (es ds : List (List Event)) (w u v : World)
    → AreChosen s x number ps es w u → AreChosen s x number ps ds w v → (es ≡ ds) × (u ≡ v)
one_order s x number [] [] [] w u v a b = (refl, a ∙ sym b)
one_order s x number [] [] (d ∷ ds) w u v a b = absurd b
one_order s x number [] (e ∷ es) ds w u v a b = absurd a
one_order s x number (p ∷ ps) [] ds w u v a b = absurd a
one_order s x number (p ∷ ps) (e ∷ es) [] w u v a b = absurd b
one_order s x number (p ∷ ps) (e ∷ es) (d ∷ ds) w u v a b =
    let first = one_phase s x e d (begins number p w) a.0 b.0 a.1 b.1 a.2 b.2 in
    let moved : AreChosen s a.0 (number + 1) ps ds a.1 v =
    subst (λ y. AreChosen s y (number + 1) ps ds a.1 v) (sym first.1)
    (subst (λ t. AreChosen s b.0 (number + 1) ps ds t v) (sym first.2) b.4) in
    let rest = one_order s a.0 (number + 1) ps es ds a.1 u v a.4 moved in
    (cc (first.0, rest.0), rest.1)
