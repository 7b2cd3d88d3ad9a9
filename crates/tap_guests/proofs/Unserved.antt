-- Who meets a worker on a ring.
use Rattle.std.proofs.Common.{◌≡◌, ℕ, ◌<◌, ◌==◌, ◌||◌, ◌&&◌, not, Bool, true, false, Option, Some, None, is_some, is_none, MatchOption, refl, arith, if◌then◌else◌}
use Rattle.std.proofs.lemmas.Bool.Decides.{nat_tests}
use Rattle.std.specs.Option.{option_map_or}
use Rattle.scen_words.specs.declared.command.Command.{Command}
use Rattle.scen_words.specs.declared.command.Command.TheVariants as command
use Rattle.tap_world.specs.Guests.{is_free, is_free_for, is_ring, turn_of}
use Rattle.tap_world.specs.StepControl.{may_call}
use Rattle.tap_guests.specs.Calls.{AskUnserved, IsUnserved}
use Rattle.tap_guests.specs.Laws.{HoldsNone}
use Rattle.tap_guests.specs.Side.{IsSide, Side, is_served}

not_both : (t : Option ℕ) → is_some t ≡ true → is_none t ≡ true → ⊥
not_both None some none = absurd (cc)
not_both (Some a) some none = absurd (cc)

-- where a worker would have a turn, and the turn is free, there is none
no_worker :
    {A : Type 0} (o : Option A) (t : Option ℕ) (P : Type 0) (Q : A → Type 0)
    → ((w : A) → Q w → is_some t ≡ true) → is_none t ≡ true → MatchOption o P Q → is_some o ≡ false
no_worker None t P Q held free h = refl
no_worker (Some w) t P Q held free h = absurd (not_both t (held w h) free)

pub free_is_unserved :
    (ring : ℕ) (s : Side) → IsSide s → is_free ring s.vhost ≡ true → is_served ring s ≡ false
free_is_unserved ring s h free = by_side (ring == 0) free where
  by_side : (b : Bool) → is_none (if b then s.vhost.rx_turn else s.vhost.tx_turn) ≡ true
      → (if b then is_some s.rx else is_some s.tx) ≡ false
  by_side true free = no_worker s.rx s.vhost.rx_turn _ _ (λ w q. q.held) free h.rx
  by_side false free = no_worker s.tx s.vhost.tx_turn _ _ (λ w q. q.held) free h.tx

-- a turn that is free or held by somebody who doesn't hold it is free
free_if :
    (holder : ℕ) (t : Option ℕ) (b : Bool)
    → b ≡ true → (not b || option_map_or (λ a. a == holder) t true) ≡ true
    → option_map_or (λ a. a == holder) t false ≡ false → is_none t ≡ true
free_if holder None b there free not_held = refl
free_if holder (Some a) true there free not_held = absurd (cc)
free_if holder (Some a) false there free not_held = absurd (cc)

is_below : (ring : ℕ) → is_ring ring ≡ true → ring < 2
is_below ring h = grind (arith, nat_tests)

of_ring :
    (holder ring : ℕ) (s : Side)
    → IsSide s → HoldsNone holder s.vhost → is_free_for holder ring s.vhost ≡ true → IsUnserved ring s
of_ring holder ring s h none free there =
    free_is_unserved ring s h
    (free_if holder (turn_of ring s.vhost) (is_ring ring) there free (none ring (is_below ring there)))

both : (a b : Bool) → (a && b) ≡ true → (a ≡ true) × (b ≡ true)
both true true h = (refl, refl)
both true false h = absurd (cc)
both false b h = absurd (cc)

pub callers_meet_none :
    (holder : ℕ) (c : Command) (s : Side)
    → IsSide s → HoldsNone holder s.vhost → may_call holder c s.vhost ≡ true → AskUnserved c s
callers_meet_none holder (command.Features vhost bits) s h none may =
    let free = both _ _ may in (of_ring holder 0 s h none free.0 refl, of_ring holder 1 s h none free.1 refl)
callers_meet_none holder (command.VNum vhost ring n) s h none may = of_ring holder ring s h none may
callers_meet_none holder (command.VBase vhost ring n) s h none may = of_ring holder ring s h none may
callers_meet_none holder (command.VAddr vhost ring desc avail used) s h none may = of_ring holder ring s h none may
callers_meet_none holder other s h none may = tt
