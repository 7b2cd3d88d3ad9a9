-- An event that may be chosen is allowed.
use Rattle.std.proofs.Common.{◌≡◌, ℕ, true, Some, sym, ap, ◌∙◌}
use Rattle.std.specs.Prelude.{slice_get}
use Rattle.tap_sound.proofs.Kit.{some_same}
use Rattle.tap_waits.specs.Going.{IsGoing}
use Rattle.tap_waits.specs.Next.{HasNext}
use Rattle.tap_waits.specs.NextChoices.{IsNextOf}
use Rattle.tap_world.specs.declared.event.Event.{Event}
use Rattle.tap_world.specs.declared.event.EventKind.{EventKind}
use Rattle.tap_world.specs.Runs.{choices}
use Rattle.tap_world.specs.Setup.{Setup}
use Rattle.tap_world.specs.Step.{is_allowed}
use Rattle.tap_world.specs.World.{World}

pub choice_allowed : (s : Setup) (w : World) → IsGoing s w → (k : ℕ) (e : Event) → slice_get (choices s w) k ≡ Some e
    → is_allowed s w e ≡ true
choice_allowed s w going k e h =
    let p : IsNextOf w e = going.choices.each k e h in
    let q : HasNext s w e.actor p.actor p.command = going.each e.actor p.actor p.command p.is_actor p.is_command in
    ap (λ (n : ℕ). is_allowed s w (record { actor = e.actor; command = n; kind = e.kind })) (sym p.number)
    ∙ ap (λ (x : EventKind). is_allowed s w (record { actor = e.actor; command = p.command.number; kind = x }))
    (some_same e.kind q.kind (sym p.kind ∙ q.is_next))
    ∙ q.allowed ∙ p.may
