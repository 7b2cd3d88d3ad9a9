-- The events that may come next, listed actor by actor.
use Rattle.std.proofs.Common.{◌≡◌, ℕ, ◌+◌, ◌<◌, ◌≤◌, List, [], ◌∷◌, ◌++◌, length, drop, Option, refl, sym, ap, ◌∙◌, append_assoc}
use Rattle.std.specs.Option.{option_map_or}
use Rattle.std.proofs.lemmas.List.{append-nil, drop_all}
use Rattle.tap_core.specs.declared.next.Next.{Next as Told}
use Rattle.tap_core.specs.declared.next.Next.TheVariants as told
use Rattle.tap_core.specs.Telling.{next_told}
use Rattle.tap_world.specs.declared.event.Event.{Event}
use Rattle.tap_world.specs.Runs.{choices, choices_from, next, next_of, with_event, Next}
use Rattle.tap_world.specs.Runs.Next.{Does, Ended, Waits}
use Rattle.tap_world.specs.Setup.{Setup}
use Rattle.tap_world.specs.World.{Actor, World, current}
use Rattle.scen_plain.proofs.Lists.{left_at, one_at}

-- what the next actor does stands in front of what those behind it do
listed_next : (s : Setup) (w : World) (i : ℕ) → i < length w.actors
    → choices_from s w i (drop i w.actors) ≡ with_event (next s w i) (choices_from s w (i + 1) (drop (i + 1) w.actors))
listed_next s w i h =
    let p = one_at w.actors i h in
    ap (λ (as_ : List Actor). choices_from s w i as_) (left_at w.actors i p.0 p.1)
    ∙ ap (λ (o : Option Actor). with_event (option_map_or (λ (a : Actor). next_of s w i a (current a.script)) o Ended)
    (choices_from s w (i + 1) (drop (i + 1) w.actors))) (sym p.1)

-- one more is listed at the end of those so far
listed_one : (events : List Event) (e : Event) (n : Next) (rest : List Event) → Does e ≡ n
    → (events ++ e ∷ []) ++ rest ≡ events ++ with_event n rest
listed_one events e n rest h =
    append_assoc events (e ∷ []) rest ∙ ap (λ (x : Next). events ++ with_event x rest) h

-- ---- what the loop keeps

-- those so far, and those of the actors that are left, are all
abbrev pub Lists : Setup → World → ℕ → List Event → Type 0
Lists s w i events = events ++ choices_from s w i (drop i w.actors) ≡ choices s w

pub lists_event : (s : Setup) (w : World) (i : ℕ) (events more : List Event) (t : Told) (e : Event) → i < length w.actors
    → Lists s w i events → next_told t ≡ next s w i → t ≡ told.Does e → more ≡ events ++ e ∷ [] → Lists s w (i + 1) more
lists_event s w i events more t e h so_far is does made =
    ap (λ (es : List Event). es ++ choices_from s w (i + 1) (drop (i + 1) w.actors)) made
    ∙ listed_one events e (next s w i) (choices_from s w (i + 1) (drop (i + 1) w.actors)) (sym (ap next_told does) ∙ is)
    ∙ sym (ap (λ (es : List Event). events ++ es) (listed_next s w i h)) ∙ so_far

no_event : (t : Told) (rest : List Event) → ((e : Event) → t ≡ told.Does e → ⊥) → with_event (next_told t) rest ≡ rest
no_event (told.Does e) rest h = absurd (h e refl)
no_event told.Waits rest h = refl
no_event told.Ended rest h = refl

pub lists_none : (s : Setup) (w : World) (i : ℕ) (events : List Event) (t : Told) → i < length w.actors
    → Lists s w i events → next_told t ≡ next s w i → ((e : Event) → t ≡ told.Does e → ⊥) → Lists s w (i + 1) events
lists_none s w i events t h so_far is none =
    ap (λ (es : List Event). events ++ es)
    (sym (no_event t (choices_from s w (i + 1) (drop (i + 1) w.actors)) none)
    ∙ ap (λ (x : Next). with_event x (choices_from s w (i + 1) (drop (i + 1) w.actors))) is
    ∙ sym (listed_next s w i h)) ∙ so_far

pub lists_all : (s : Setup) (w : World) (i : ℕ) (events : List Event) → length w.actors ≤ i → Lists s w i events
    → events ≡ choices s w
lists_all s w i events h so_far =
    sym (ap (λ (as_ : List Actor). events ++ choices_from s w i as_) (drop_all i w.actors h) ∙ append-nil events) ∙ so_far
