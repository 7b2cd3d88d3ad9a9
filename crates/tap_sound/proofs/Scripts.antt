-- In a run an actor's events are the scripts of its commands.
use Rattle.std.proofs.Common.{◌≡◌, ◌≢◌, ◌⊎◌, ℕ, zero, suc, List, [], ◌∷◌, ◌++◌, Bool, true, false, Some, inl, inr, ⊎_elim, refl, sym, ap, ◌∙◌, subst, true≢false}
use Rattle.std.specs.Prelude.{if◌then◌else◌, ◌&&◌, drop, is_none, slice_get}
use Rattle.std.specs.List.{list_all}
use Rattle.std.proofs.lemmas.Bool.Decides.{eqb_tells}
use Rattle.tap_world.specs.declared.event.Event.{Event}
use Rattle.tap_world.specs.declared.event.EventKind.{EventKind}
use Rattle.tap_world.specs.ByNumber.{with_nth}
use Rattle.tap_world.specs.Grammar.{HasForm}
use Rattle.tap_world.specs.Commands.{AreOf, AreScripts, AreScriptsSoFar, events_of, kinds}
use Rattle.tap_world.specs.Setup.{Numbered, Setup}
use Rattle.tap_world.specs.World.{Actor, Doing, World, current}
use Rattle.tap_world.specs.World.Doing.{Begun, Purges}
use Rattle.tap_world.specs.Effect.{Effect, Onward, actor_after, ended, files_after, guests_after, with_effect}
use Rattle.tap_world.specs.Effect.Onward.{Ends, Goes, Stays}
use Rattle.tap_world.specs.Step.{step}
use Rattle.tap_world.specs.Runs.{has_ended, run}
use Rattle.tap_sound.proofs.Kit.{some_same, then_some, where_some}
use Rattle.tap_sound.proofs.Left.{left_of}
use Rattle.tap_sound.proofs.Follows.{Follows, Onto}
use Rattle.tap_sound.proofs.Doings.{row_follows}
use Rattle.tap_sound.proofs.Taken.{IsStep, step_is, when_settled, with_nth_get}
use Rattle.tap_sound.proofs.Ways.{way}

-- ---- what an actor's events are to be, from where it stands

-- to the end of all its commands
abbrev pub Finishes : Doing → List Numbered → List Event → Type 0
Finishes d [] es = es ≡ []
Finishes d (c ∷ cs) es =
    (mine rest : List Event) × (es ≡ mine ++ rest) × AreOf c.number mine × HasForm (left_of d c.command) (kinds mine)
    × AreScripts cs rest

-- as far as they have come
abbrev pub Proceeds : Doing → List Numbered → List Event → Type 0
Proceeds d [] es = es ≡ []
Proceeds d (c ∷ cs) es =
    (AreOf c.number es × (more : List EventKind) × HasForm (left_of d c.command) (kinds es ++ more))
    ⊎ ((mine rest : List Event) × (es ≡ mine ++ rest) × AreOf c.number mine × HasForm (left_of d c.command) (kinds mine)
    × AreScriptsSoFar cs rest)

pub all_done : (cs : List Numbered) (es : List Event) → Finishes Begun cs es → AreScripts cs es
all_done [] es h = h
all_done (c ∷ cs) es h = h

pub all_so_far : (cs : List Numbered) (es : List Event) → Proceeds Begun cs es → AreScriptsSoFar cs es
all_so_far [] es h = h
all_so_far (c ∷ cs) es h = h

-- ---- an event of the actor itself

finishes_on : (o : Onward) (d : Doing) (c : Numbered) (cs : List Numbered) (x : Event) (es : List Event) → Onto (left_of d c.command) c.command x.kind o
    → x.command ≡ c.number → (a : Actor) → a.script ≡ c ∷ cs → a.doing ≡ d
    → Finishes (actor_after o a).doing (actor_after o a).script es → Finishes d (c ∷ cs) (x ∷ es)
finishes_on (Goes seen e f) d c cs x es on same a script doing h =
    let g : Finishes e (c ∷ cs) es = subst (λ (q : List Numbered). Finishes e q es) script h in
    (x ∷ g.0, g.1, ap (λ (q : List Event). x ∷ q) g.2, (same, g.3), on (kinds g.0) g.4, g.5)
finishes_on (Ends seen y) d c cs x es on same a script doing h =
    let g : Finishes Begun cs es = subst (λ (q : List Numbered). Finishes Begun (drop 1 q) es) script h in
    (x ∷ [], es, refl, (same, tt), on, all_done cs es g)
finishes_on (Stays f) d c cs x es on same a script doing h =
    let g : Finishes d (c ∷ cs) es = subst (λ (q : Doing). Finishes q (c ∷ cs) es) doing (subst (λ (q : List Numbered). Finishes a.doing q es) script h) in
    (x ∷ g.0, g.1, ap (λ (q : List Event). x ∷ q) g.2, (same, g.3), on (kinds g.0) g.4, g.5)

proceeds_on : (o : Onward) (d : Doing) (c : Numbered) (cs : List Numbered) (x : Event) (es : List Event) → Onto (left_of d c.command) c.command x.kind o
    → x.command ≡ c.number → (a : Actor) → a.script ≡ c ∷ cs → a.doing ≡ d
    → Proceeds (actor_after o a).doing (actor_after o a).script es → Proceeds d (c ∷ cs) (x ∷ es)
proceeds_on (Goes seen e f) d c cs x es on same a script doing h = ⊎_elim
    (λ g. inl ((same, g.0), g.1, on (kinds es ++ g.1) g.2))
    (λ g. inr (x ∷ g.0, g.1, ap (λ (q : List Event). x ∷ q) g.2, (same, g.3), on (kinds g.0) g.4, g.5))
    (subst (λ (q : List Numbered). Proceeds e q es) script h)
proceeds_on (Ends seen y) d c cs x es on same a script doing h =
    inr (x ∷ [], es, refl, (same, tt), on, all_so_far cs es (subst (λ (q : List Numbered). Proceeds Begun (drop 1 q) es) script h))
proceeds_on (Stays f) d c cs x es on same a script doing h = ⊎_elim
    (λ g. inl ((same, g.0), g.1, on (kinds es ++ g.1) g.2))
    (λ g. inr (x ∷ g.0, g.1, ap (λ (q : List Event). x ∷ q) g.2, (same, g.3), on (kinds g.0) g.4, g.5))
    (subst (λ (q : Doing). Proceeds q (c ∷ cs) es) doing (subst (λ (q : List Numbered). Proceeds a.doing q es) script h))

-- ---- a purge that ends at another's event

finishes_purge : (file version : ℕ) (c : Numbered) (cs : List Numbered) (es : List Event) → Finishes Begun cs es → Finishes (Purges file version) (c ∷ cs) es
finishes_purge file version c cs es h = ([], es, refl, tt, (0, refl), all_done cs es h)

proceeds_purge : (file version : ℕ) (c : Numbered) (cs : List Numbered) (es : List Event) → Proceeds Begun cs es → Proceeds (Purges file version) (c ∷ cs) es
proceeds_purge file version c cs es h = inr ([], es, refl, tt, (0, refl), all_so_far cs es h)

pub first_of_list : (cs : List Numbered) (c : Numbered) → slice_get cs 0 ≡ Some c → (ds : List Numbered) × (cs ≡ c ∷ ds)
first_of_list [] c e = absurd (cc (e))
first_of_list (x ∷ xs) c e = (xs, ap (λ (y : Numbered). y ∷ xs) (some_same x c e))

-- ---- what a step makes of an actor

-- the events that are left to an actor, in two ways: to the end, or as far as they come
abbrev pub Keeps : (Doing → List Numbered → List Event → Type 0) → Type 0
Keeps Q =
    ((o : Onward) (d : Doing) (c : Numbered) (cs : List Numbered) (x : Event) (es : List Event) → Onto (left_of d c.command) c.command x.kind o
    → x.command ≡ c.number → (a : Actor) → a.script ≡ c ∷ cs → a.doing ≡ d
    → Q (actor_after o a).doing (actor_after o a).script es → Q d (c ∷ cs) (x ∷ es))
    × ((file version : ℕ) (c : Numbered) (cs : List Numbered) (es : List Event) → Q Begun cs es → Q (Purges file version) (c ∷ cs) es)

finishes_keeps : Keeps Finishes
finishes_keeps = (finishes_on, finishes_purge)

proceeds_keeps : Keeps Proceeds
proceeds_keeps = (proceeds_on, proceeds_purge)

-- the actor of a number, and its events from this one on
abbrev Leads : (Doing → List Numbered → List Event → Type 0) → ℕ → Event → Actor → World → List Event → Type 0
Leads Q i x a u es =
    (b : Actor) × (slice_get u.actors i ≡ Some b)
    × (Q b.doing b.script (events_of i es) → Q a.doing a.script (events_of i (x ∷ es)))

own_event : (i : ℕ) (x : Event) (es : List Event) → x.actor ≡ i → events_of i (x ∷ es) ≡ x ∷ events_of i es
own_event i x es same = ⊎_elim
    (λ t. ap (λ (b : Bool). if b then x ∷ events_of i es else events_of i es) t.0)
    (λ t. absurd (t.1 same)) (eqb_tells x.actor i)

other_event : (i : ℕ) (x : Event) (es : List Event) → x.actor ≢ i → events_of i (x ∷ es) ≡ events_of i es
other_event i x es other = ⊎_elim
    (λ t. absurd (other t.1))
    (λ t. ap (λ (b : Bool). if b then x ∷ events_of i es else events_of i es) t.0) (eqb_tells x.actor i)

-- what an effect leaves of the actors
pub effect_actors : (r : Effect) (actor : ℕ) (a : Actor) (n : ℕ) (w v : World) → with_effect r actor a n w ≡ Some v → v.actors ≡ with_nth actor (actor_after r.onward a) w.actors
effect_actors r actor a n w v e =
    let f = then_some (files_after r.files w.files) _ v e in
    let g = then_some (guests_after actor n r.guests w.guests) _ v f.2 in
    ap (λ (x : World). x.actors) (sym (some_same _ v g.2))

before_settled : (Q : Doing → List Numbered → List Event → Type 0) → Keeps Q → (s : Setup) (w : World) (x : Event) (u : World) → (t : IsStep s w x u) → (i : ℕ) (a : Actor) → slice_get w.actors i ≡ Some a
    → (es : List Event) → Leads Q i x a t.between es
before_settled Q keeps s w x u t i a at es =
    let actors = effect_actors t.effect x.actor t.actor x.command w t.between t.made in
    ⊎_elim
    (λ same.
    let b : Actor = actor_after t.effect.onward t.actor in
    let mine : t.actor ≡ a = some_same t.actor a (sym t.found ∙ ap (slice_get w.actors) same.0 ∙ at) in
    let first = first_of_list t.actor.script t.now t.current_is in
    let on : Onto (left_of t.actor.doing t.now.command) t.now.command x.kind t.effect.onward =
    where_some (Follows t.actor.doing t.now.command x.kind) _ t.effect
    (row_follows s w x.actor t.actor.seen t.actor.script t.now.number t.actor.doing t.now.command x.kind t.next) t.is_row in (
      b,
      ap (λ (q : List Actor). slice_get q i) actors ∙ same.1,
      (λ h. subst (λ (q : Actor). Q q.doing q.script (events_of i (x ∷ es))) mine
          (subst (λ (q : List Event). Q t.actor.doing t.actor.script q) (sym (own_event i x es same.0))
          (subst (λ (q : List Numbered). Q t.actor.doing q (x ∷ events_of i es)) (sym first.1)
          (keeps.0 t.effect.onward t.actor.doing t.now first.0 x (events_of i es) on (sym t.number) t.actor first.1 refl h)))),
    ))
    (λ other. (
      a,
      ap (λ (q : List Actor). slice_get q i) actors ∙ other.1,
      (λ h. subst (λ (q : List Event). Q a.doing a.script q) (sym (other_event i x es other.0)) h),
    ))
    (with_nth_get x.actor (actor_after t.effect.onward t.actor) w.actors i a at)

step_leads : (Q : Doing → List Numbered → List Event → Type 0) → Keeps Q → (s : Setup) (w : World) (x : Event) (u : World) → IsStep s w x u → (i : ℕ) (a : Actor) → slice_get w.actors i ≡ Some a
    → (es : List Event) → Leads Q i x a u es
step_leads Q keeps s w x u t i a at es =
    let b = before_settled Q keeps s w x u t i a at es in
    subst (λ (q : World). Leads Q i x a q es) t.is
    (when_settled (λ (q : World). Leads Q i x a q es) t.between b (λ e end. ⊎_elim
    (λ same.
    let mine : e.state ≡ b.0 = some_same e.state b.0 (sym end.found ∙ ap (slice_get t.between.actors) same.0 ∙ b.1) in
    let first = first_of_list e.state.script end.now end.current_is in (
      record e.state { script = drop 1 e.state.script; doing = Begun },
      same.1,
      (λ h. b.2 (subst (λ (q : Actor). Q q.doing q.script (events_of i es)) mine
          (subst (λ (q : Doing). Q q e.state.script (events_of i es)) (sym end.doing)
          (subst (λ (q : List Numbered). Q (Purges end.file e.version) q (events_of i es)) (sym first.1)
          (keeps.1 end.file e.version end.now first.0 (events_of i es)
          (subst (λ (q : List Numbered). Q Begun (drop 1 q) (events_of i es)) first.1 h)))))),
    ))
    (λ other. (b.0, other.1, b.2))
    (with_nth_get e.actor (record e.state { script = drop 1 e.state.script; doing = Begun }) t.between.actors i b.0 b.1)))

-- ---- runs

pub ended_each : (as_ : List Actor) (i : ℕ) (a : Actor) → list_all (λ (x : Actor). is_none (current x.script)) as_ ≡ true → slice_get as_ i ≡ Some a → a.script ≡ []
ended_each [] i a h e = absurd (cc (e))
ended_each (x ∷ xs) zero a h e = subst (λ (q : Actor). q.script ≡ []) (some_same x a e) (go x.script (and_left _ _ h))
  where
    and_left : (b c : Bool) → (b && c) ≡ true → b ≡ true
    and_left true c k = refl
    and_left false c k = absurd (true≢false (sym k))

    go : (cs : List Numbered) → is_none (current cs) ≡ true → cs ≡ []
    go [] k = refl
    go (c ∷ cs) k = absurd (true≢false (sym k))
ended_each (x ∷ xs) (suc i) a h e = ended_each xs i a (and_right _ _ h) e
  where
    and_right : (b c : Bool) → (b && c) ≡ true → c ≡ true
    and_right true c k = k
    and_right false c k = absurd (true≢false (sym k))

pub run_finishes : (s : Setup) (es : List Event) (w v : World) → run s es w ≡ Some v → has_ended v ≡ true → (i : ℕ) (a : Actor)
    → slice_get w.actors i ≡ Some a → Finishes a.doing a.script (events_of i es)
run_finishes s [] w v e ended i a at =
    let same : w ≡ v = some_same w v e in
    let none = ended_each v.actors i a ended (ap (λ (q : World). slice_get q.actors i) (sym same) ∙ at) in
    subst (λ (q : List Numbered). Finishes a.doing q []) (sym none) refl
run_finishes s (x ∷ es) w v e ended i a at =
    let t = then_some (step s w x) _ v e in
    let next = step_leads Finishes finishes_keeps s w x t.0.0 (step_is s w x t.0 t.1) i a at es in
    next.2 (run_finishes s es t.0.0 v t.2 ended i next.0 next.1)

proceeds_none : (d : Doing) (cs : List Numbered) → Proceeds d cs []
proceeds_none d [] = refl
proceeds_none d (c ∷ cs) = let h = way d c.command in inl (tt, h.0, h.1)

pub run_proceeds : (s : Setup) (es : List Event) (w v : World) → run s es w ≡ Some v → (i : ℕ) (a : Actor)
    → slice_get w.actors i ≡ Some a → Proceeds a.doing a.script (events_of i es)
run_proceeds s [] w v e i a at = proceeds_none a.doing a.script
run_proceeds s (x ∷ es) w v e i a at =
    let t = then_some (step s w x) _ v e in
    let next = step_leads Proceeds proceeds_keeps s w x t.0.0 (step_is s w x t.0 t.1) i a at es in
    next.2 (run_proceeds s es t.0.0 v t.2 i next.0 next.1)
