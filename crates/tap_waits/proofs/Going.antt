-- A run can go on while a command hasn't ended.
use Rattle.std.proofs.Common.{◌≡◌, ℕ, Bool, true, Option, Some, refl, ap, ◌∙◌}
use Rattle.std.specs.Prelude.{if◌then◌else◌, slice_get}
use Rattle.std.specs.Option.{option_map_or}
use Rattle.tap_world.specs.declared.event.Event.{Event}
use Rattle.tap_world.specs.declared.event.EventKind.{EventKind}
use Rattle.tap_world.specs.Runs.Next.{Does, Ended, Waits}
use Rattle.tap_world.specs.Scripts.{next_kind}
use Rattle.tap_world.specs.Setup.{Numbered, Setup}
use Rattle.tap_world.specs.Waiting.{may_go}
use Rattle.tap_world.specs.World.{Actor, World, current}
use Rattle.tap_waits.specs.Next.{EachHasNext}
use Rattle.tap_waits.specs.NextChoices.{HasChoices, IsNextOf, does_by, next_by}
use Rattle.tap_waits.specs.Standstill.{SomeMayGo}
use Rattle.tap_waits.specs.Going.{CanGoOn}

-- what an actor that may go on does
does_next : (w : World) (i : ℕ) (a : Actor) (c : Numbered) (kind : EventKind) → slice_get w.actors i ≡ Some a
    → current a.script ≡ Some c → next_kind w a.doing c.command ≡ Some kind → may_go w i a c.command ≡ true
    → next_by w i ≡ Does (record { actor = i; command = c.number; kind = kind })
does_next w i a c kind found now is may =
    ap (λ (o : Option Actor). option_map_or (λ (x : Actor). does_by w i x (current x.script)) o Ended) found
    ∙ ap (λ (o : Option Numbered). does_by w i a o) now
    ∙ ap (λ (o : Option EventKind). option_map_or
    (λ k. if may_go w i a c.command then Does (record { actor = i; command = c.number; kind = k }) else Waits) o Waits) is
    ∙ ap (λ (b : Bool). if b then Does (record { actor = i; command = c.number; kind = kind }) else Waits) may

pub can_go_on : (s : Setup) (w : World) → EachHasNext s w → HasChoices s w → SomeMayGo w → CanGoOn s w
can_go_on s w each choices (i, a, c, found, now, may) =
    let n = each i a c found now in
    let e : Event = record { actor = i; command = c.number; kind = n.kind } in
    let mine : IsNextOf w e = record {
      actor = a;
      command = c;
      is_actor = found;
      is_command = now;
      number = refl;
      kind = n.is_next;
      may = may;
    } in
    let k = choices.every e mine in
    record {
      event = e;
      allowed = n.allowed ∙ may;
      next = choices.next i ∙ does_next w i a c n.kind found now n.is_next may;
      place = k.0;
      chosen = k.1;
    }
