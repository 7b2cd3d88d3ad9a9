-- Every event keeps that names stand once, and so they do in every world that a run reaches.
use Rattle.std.proofs.Common.{◌≡◌, ◌⊎◌, ℕ, zero, suc, ◌+◌, ◌≤◌, List, [], ◌∷◌, ◌++◌, map, take, Option, Some, None, inl, inr, ⊎_elim, refl, sym, ap, ◌∙◌, subst, arith}
use Rattle.std.specs.Prelude.{drop, option_map, slice_get}
use Rattle.std.specs.List.{AllByRecursion}
use Rattle.tap_frame.specs.declared.name.Name.{Name}
use Rattle.scen_text.specs.declared.scenario.Phase.{Phase}
use Rattle.scen_text.specs.declared.scenario.Scenario.{Scenario}
use Rattle.tap_world.specs.declared.event.Event.{Event}
use Rattle.tap_world.specs.declared.event.Heard.{Heard}
use Rattle.tap_world.specs.Setup.{Declared, Numbered, Setup, script_in, setup_of}
use Rattle.tap_world.specs.declared.told.Said.{Said}
use Rattle.tap_world.specs.World.{Actor, Doing, World, current, newest}
use Rattle.tap_world.specs.World.Doing.{Begun}
use Rattle.tap_world.specs.Effect.{Effect, Ending, Onward, actor_after, ended, files_after, guests_after, said_after, with_effect}
use Rattle.tap_world.specs.Effect.Onward.{Ends, Goes, Stays}
use Rattle.tap_world.specs.Step.{step}
use Rattle.tap_world.specs.Stands.{names_of, times, times_in, times_placed}
use Rattle.tap_world.specs.SoundNames.{AcceptedStand, EndedStand, NamesStandOnce, accepted_by, awaited}
use Rattle.tap_world.specs.Runs.{IsRun, actors_from, begins, has_ended, new_file, opening, run, run_phases}
use Rattle.tap_sound.specs.Worlds.{IsWorldOf}
use Rattle.tap_sound.proofs.Kit.{some_same, then_some, where_some}
use Rattle.tap_sound.proofs.Scripts.{effect_actors}
use Rattle.tap_sound.proofs.Taken.{IsStep, each_with_nth, if_some, step_is, when_settled}
use Rattle.tap_sound.proofs.NamesRows.{All, Stood, StoodAfter, Tells, all_weaker, row_tells}
use Rattle.tap_sound.proofs.NamesTimes.{each_there, effect_times, new_once}

abbrev StandsIn : World → Name → Type 0
StandsIn w n = times w n ≡ 1

-- ---- between the event and the end of a purge

times_between : (s : Setup) (w : World) (x : Event) (u : World) (t : IsStep s w x u) (n : Name) → times t.between n ≡ times w n + times_in n (names_of t.effect)
times_between s w x u t n = effect_times n t.effect x.actor t.actor x.command w t.between t.made

once_more : (a b c : ℕ) → c ≡ a + b → a ≤ 1 → (b ≡ 0) ⊎ ((b ≡ 1) × (a ≡ 0)) → c ≤ 1
once_more a b c e le (inl z) = omega (arith, e, le, z)
once_more a b c e le (inr p) = let o = p.0 in let z = p.1 in omega (arith, e, o, z)

stays_one : (a b c : ℕ) → c ≡ a + b → a ≡ 1 → (b ≡ 0) ⊎ ((b ≡ 1) × (a ≡ 0)) → c ≡ 1
stays_one a b c e one (inl z) = omega (arith, e, one, z)
stays_one a b c e one (inr p) = let z = p.1 in absurd (omega (arith, one, z))

is_one : (a b c : ℕ) → c ≡ a + b → 1 ≤ b → (b ≡ 0) ⊎ ((b ≡ 1) × (a ≡ 0)) → c ≡ 1
is_one a b c e le (inl z) = absurd (omega (arith, le, z))
is_one a b c e le (inr p) = let o = p.0 in let z = p.1 in omega (arith, e, o, z)

stand_on : (s : Setup) (w : World) (x : Event) (u : World) (t : IsStep s w x u) (n : Name) → times w n ≡ 1 → times t.between n ≡ 1
stand_on s w x u t n one = stays_one (times w n) (times_in n (names_of t.effect)) (times t.between n) (times_between s w x u t n) one (new_once w (names_of t.effect) t.new n)

all_new : (s : Setup) (w : World) (x : Event) (u : World) (t : IsStep s w x u) → All (StandsIn t.between) (names_of t.effect)
all_new s w x u t =
    all_weaker (λ n. 1 ≤ times_in n (names_of t.effect)) (StandsIn t.between) (names_of t.effect)
    (λ n le. is_one (times w n) (times_in n (names_of t.effect)) (times t.between n) (times_between s w x u t n) le (new_once w (names_of t.effect) t.new n))
    (each_there (names_of t.effect) (names_of t.effect) (λ n. omega arith))

-- ---- accepted names

stood_on : (s : Setup) (w : World) (x : Event) (u : World) (t : IsStep s w x u) (actor n : ℕ) (d : Doing)
    → Stood (StandsIn w) actor n d → Stood (StandsIn t.between) actor n d
stood_on s w x u t actor n d h =
    all_weaker (λ m. (awaited actor n d ≡ Some m) ⊎ StandsIn w m) (λ m. (awaited actor n d ≡ Some m) ⊎ StandsIn t.between m) (accepted_by actor n d)
    (λ m e. ⊎_elim (λ a. inl a) (λ one. inr (stand_on s w x u t m one)) e) h

told : (s : Setup) (w : World) (x : Event) (u : World) (t : IsStep s w x u) → NamesStandOnce w
    → StoodAfter (StandsIn t.between) x.actor t.now.number t.effect.onward
told s w x u t h =
    where_some (Tells (StandsIn t.between) x.actor t.now.number t.actor.doing) _ t.effect
    (row_tells (StandsIn t.between) x.actor t.now.number s w x.kind t.actor t.now.command t.next) t.is_row
    (stood_on s w x u t x.actor t.now.number t.actor.doing (h.accepted x.actor t.actor t.found t.now t.current_is))
    (all_new s w x u t)

same_now : (a : Actor) (c d : Numbered) → slice_get a.script 0 ≡ Some c → current a.script ≡ Some d → c ≡ d
same_now a c d e f = some_same c d (sym e ∙ f)

-- the actor's own names after its event
own_after : (v : World) (actor : ℕ) (a : Actor) (now : Numbered) (o : Onward) → slice_get a.script 0 ≡ Some now
    → Stood (StandsIn v) actor now.number a.doing → StoodAfter (StandsIn v) actor now.number o → AcceptedStand v actor (actor_after o a)
own_after v actor a now (Goes seen d f) e before after c is = subst (λ (k : Numbered). Stood (StandsIn v) actor k.number d) (same_now a now c e is) after
own_after v actor a now (Ends seen y) e before after c is = tt
own_after v actor a now (Stays f) e before after c is = subst (λ (k : Numbered). Stood (StandsIn v) actor k.number a.doing) (same_now a now c e is) before

abbrev AllAccepted : World → List Actor → Type 0
AllAccepted v actors = (actor : ℕ) (a : Actor) → slice_get actors actor ≡ Some a → AcceptedStand v actor a

accepted_between : (s : Setup) (w : World) (x : Event) (u : World) (t : IsStep s w x u) → NamesStandOnce w → AllAccepted t.between t.between.actors
accepted_between s w x u t h =
    subst (AllAccepted t.between) (sym (effect_actors t.effect x.actor t.actor x.command w t.between t.made))
    (each_with_nth (AcceptedStand t.between) x.actor (actor_after t.effect.onward t.actor) w.actors
    (λ i a at c is. stood_on s w x u t i c.number a.doing (h.accepted i a at c is))
    (own_after t.between x.actor t.actor t.now t.effect.onward t.current_is
    (stood_on s w x u t x.actor t.now.number t.actor.doing (h.accepted x.actor t.actor t.found t.now t.current_is)) (told s w x u t h)))

-- ---- answers

abbrev AllEnded : World → List Said → Type 0
AllEnded v said = AllByRecursion (EndedStand v) said

ended_more : (v : World) (xs ys : List Said) → AllEnded v xs → AllEnded v ys → AllEnded v (xs ++ ys)
ended_more v [] ys a b = b
ended_more v (x ∷ xs) ys a b = (a.0, ended_more v xs ys a.1 b)

ended_on : (w v : World) → ((n : Name) → times w n ≡ 1 → times v n ≡ 1) → (xs : List Said) → AllEnded w xs → AllEnded v xs
ended_on w v f [] a = tt
ended_on w v f (x ∷ xs) a = (all_weaker (StandsIn w) (StandsIn v) _ f a.0, ended_on w v f xs a.1)

effect_said : (r : Effect) (actor : ℕ) (a : Actor) (n : ℕ) (w v : World) → with_effect r actor a n w ≡ Some v → v.said ≡ w.said ++ said_after r.onward w.phase actor n
effect_said r actor a n w v e =
    let f = then_some (files_after r.files w.files) _ v e in
    let g = then_some (guests_after actor n r.guests w.guests) _ v f.2 in
    ap (λ (x : World). x.said) (sym (some_same _ v g.2))

said_stand : (v : World) (o : Onward) (phase actor n : ℕ) → StoodAfter (StandsIn v) actor n o → AllEnded v (said_after o phase actor n)
said_stand v (Goes seen d f) phase actor n h = tt
said_stand v (Ends seen y) phase actor n h = (h, tt)
said_stand v (Stays f) phase actor n h = tt

ended_between : (s : Setup) (w : World) (x : Event) (u : World) (t : IsStep s w x u) → NamesStandOnce w → AllEnded t.between t.between.said
ended_between s w x u t h =
    subst (AllEnded t.between) (sym (effect_said t.effect x.actor t.actor x.command w t.between t.made))
    (ended_more t.between w.said (said_after t.effect.onward w.phase x.actor x.command)
    (ended_on w t.between (stand_on s w x u t) w.said h.ended)
    (said_stand t.between t.effect.onward w.phase x.actor x.command
    (subst (λ (n : ℕ). StoodAfter (StandsIn t.between) x.actor n t.effect.onward) t.number (told s w x u t h))))

between_kept : (s : Setup) (w : World) (x : Event) (u : World) (t : IsStep s w x u) → NamesStandOnce w → NamesStandOnce t.between
between_kept s w x u t h = record {
  once = λ n. once_more (times w n) (times_in n (names_of t.effect)) (times t.between n) (times_between s w x u t n) (h.once n) (new_once w (names_of t.effect) t.new n);
  ended = ended_between s w x u t h;
  accepted = accepted_between s w x u t h;
}

-- the detach that ends has no names
purge_kept : (v : World) (e : Ending) → NamesStandOnce v → NamesStandOnce (ended e v)
purge_kept v e h = record {
  once = h.once;
  ended = ended_more v v.said _ h.ended (tt, tt);
  accepted = each_with_nth (AcceptedStand v) e.actor (record e.state { script = drop 1 e.state.script; doing = Begun }) v.actors h.accepted (λ c is. tt);
}

pub names_are_kept : (s : Setup) (w : World) (x : Event) (u : World × Heard) → step s w x ≡ Some u → NamesStandOnce w → NamesStandOnce u.0
names_are_kept s w x u e h =
    let t = step_is s w x u e in
    let between = between_kept s w x u.0 t h in
    subst NamesStandOnce t.is (when_settled NamesStandOnce t.between between (λ f end. purge_kept t.between f between))

-- ---- runs

run_kept : (s : Setup) (es : List Event) (w v : World) → run s es w ≡ Some v → NamesStandOnce w → NamesStandOnce v
run_kept s [] w v e h = subst NamesStandOnce (some_same w v e) h
run_kept s (x ∷ es) w v e h =
    let t = then_some (step s w x) _ v e in
    run_kept s es t.0.0 v t.2 (names_are_kept s w x t.0 t.1 h)

begun_stand : (w : World) (p : Phase) (seen from n i : ℕ) (a : Actor) → slice_get (actors_from p seen from n) i ≡ Some a → (actor : ℕ) → AcceptedStand w actor a
begun_stand w p seen from zero i a e actor = absurd (cc (e))
begun_stand w p seen from (suc n) zero a e actor =
    subst (AcceptedStand w actor) (some_same (record { seen = seen; script = script_in p from; doing = Begun }) a e) (λ c is. tt)
begun_stand w p seen from (suc n) (suc i) a e actor = begun_stand w p seen (from + 1) n i a e actor

pub begins_kept : (number : ℕ) (p : Phase) (w : World) → NamesStandOnce w → NamesStandOnce (begins number p w)
begins_kept number p w h = record {
  once = h.once;
  ended = h.ended;
  accepted = λ i a at. begun_stand (begins number p w) p (newest w) 0 p.actors i a at i;
}

pub none_placed : (n : Name) (ds : List (Option Declared)) → times_placed n (map (λ (d : Option Declared). option_map new_file d) ds) ≡ 0
none_placed n [] = refl
none_placed n (None ∷ ds) = let z = none_placed n ds in omega (arith, z)
none_placed n (Some d ∷ ds) = let z = none_placed n ds in omega (arith, z)

no_actor : (i : ℕ) (a : Actor) → slice_get {X = Actor} [] i ≡ Some a → ⊥
no_actor i a h = cc (h)

pub opening_kept : (s : Setup) → NamesStandOnce (opening s)
opening_kept s = record {
  once = λ n. let z = none_placed n s.files in omega (arith, z);
  ended = tt;
  accepted = λ i a at. absurd (no_actor i a at);
}

phases_kept : (s : Setup) (number : ℕ) (ps : List Phase) (es : List (List Event)) (w v : World) → run_phases s number ps es w ≡ Some v
    → NamesStandOnce w → NamesStandOnce v
phases_kept s number [] [] w v e h = subst NamesStandOnce (some_same w v e) h
phases_kept s number [] (d ∷ ds) w v e h = absurd (cc (e))
phases_kept s number (p ∷ ps) [] w v e h = absurd (cc (e))
phases_kept s number (p ∷ ps) (es ∷ more) w v e h =
    let t = then_some (run s es (begins number p w)) _ v e in
    let c = if_some (has_ended t.0) _ v t.2 in
    phases_kept s (number + 1) ps more t.0 v c.1 (run_kept s es (begins number p w) t.0 t.1 (begins_kept number p w h))

pub names_stand_after_runs : (s : Scenario) (events : List (List Event)) (w : World) → IsRun s events w → NamesStandOnce w
names_stand_after_runs s events w e = phases_kept (setup_of s) 0 s.phases events (opening (setup_of s)) w e (opening_kept (setup_of s))

pub names_stand_in_runs : (s : Scenario) (w : World) → IsWorldOf s w → NamesStandOnce w
names_stand_in_runs s w r =
    let before = phases_kept (setup_of s) 0 (take r.ended s.phases) r.is_before.events (opening (setup_of s)) r.before r.is_before.is (opening_kept (setup_of s)) in
    ⊎_elim (λ is. subst NamesStandOnce (sym is) before)
    (λ p. run_kept (setup_of s) p.so_far (begins r.ended p.phase r.before) w p.is (begins_kept r.ended p.phase r.before before)) r.now
