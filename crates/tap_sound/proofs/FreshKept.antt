-- The names of events are new in every world that a run reaches.
use Rattle.std.proofs.Common.{◌≡◌, ◌≢◌, ◌⊎◌, ℕ, zero, suc, ◌+◌, ◌≤◌, ◌<◌, List, [], ◌∷◌, length, map, filter, take, Bool, true, false, Option, Some, inl, inr, ⊎_elim, refl, sym, ap, ◌∙◌, subst, arith}
use Rattle.std.specs.Prelude.{if◌then◌else◌, ◌==◌, ◌&&◌, drop, slice_get}
use Rattle.std.proofs.Common.{eq-eqb}
use Rattle.std.proofs.lemmas.Bool.Decides.{eqb_tells}
use Rattle.tap_frame.specs.declared.name.Name.{Name}
use Rattle.vring_turns.specs.TxTurn.{TxTurn}
use Rattle.scen_text.specs.declared.scenario.Line.{Line}
use Rattle.scen_text.specs.declared.scenario.Phase.{Phase}
use Rattle.scen_text.specs.declared.scenario.Scenario.{Scenario}
use Rattle.tap_world.specs.declared.event.Event.{Event}
use Rattle.tap_world.specs.declared.event.Heard.{Heard}
use Rattle.tap_ground.specs.Options.{◌>>=◌, only_if}
use Rattle.tap_world.specs.ByNumber.{with_nth}
use Rattle.tap_world.specs.Setup.{Numbered, Setup, script_in, setup_of}
use Rattle.tap_world.specs.World.{Actor, Doing, World, newest}
use Rattle.tap_world.specs.World.Doing.{Begun, Given, Hosts, Routed, Teaches, Transmits}
use Rattle.tap_world.specs.Effect.{Effect, Ending, Onward, actor_after, ended}
use Rattle.tap_world.specs.Effect.Onward.{Ends, Goes, Stays}
use Rattle.tap_world.specs.Step.{effect, row_of, step}
use Rattle.tap_world.specs.Stands.{are_new, if_new, names_of, same_name, times, times_in}
use Rattle.tap_world.specs.Each.{EachActor}
use Rattle.tap_world.specs.SoundActors.{CanBe, can_be}
use Rattle.tap_world.specs.Runs.{actors_from, begins, has_ended, opening, run, run_phases}
use Rattle.tap_sound.specs.Fresh.{AreNumbered, ArePhasesNumbered}
use Rattle.tap_sound.specs.Worlds.{IsInPhase, IsWorldOf}
use Rattle.tap_sound.proofs.Kit.{some_same, then_some, where_some}
use Rattle.tap_sound.proofs.Scripts.{effect_actors, first_of_list}
use Rattle.tap_sound.proofs.Stand.{stands_are_kept, stands_at}
use Rattle.tap_sound.proofs.Reached.{new_stands, none_comes, phases_end}
use Rattle.tap_sound.proofs.Taken.{IsEnding, IsStep, if_some, row_is, step_is, when_settled}
use Rattle.tap_sound.proofs.NamesTimes.{effect_times}
use Rattle.tap_sound.proofs.NamesKept.{none_placed}
use Rattle.tap_sound.proofs.FreshRows.{Fresh, FreshAfter, FreshTurn, OneName, Tells, part, row_is_fresh}

abbrev Free : World → Name → Type 0
Free w m = times w m ≡ 0

-- ---- a script whose commands have free names

abbrev Rising : ℕ → ℕ → List Numbered → Type 0
Rising from to [] = Unit {0}
Rising from to (c ∷ cs) = (from ≤ c.number) × (c.number < to) × Rising (c.number + 1) to cs

abbrev LaterFree : (Name → Type 0) → ℕ → List Numbered → Type 0
LaterFree Q i [] = Unit {0}
LaterFree Q i (c ∷ cs) = ((k : ℕ) → Q (part i c.number k)) × LaterFree Q i cs

abbrev FreshScript : (Name → Type 0) → ℕ → ℕ → Doing → List Numbered → Type 0
FreshScript Q to i d [] = Unit {0}
FreshScript Q to i d (c ∷ cs) = Rising 0 to (c ∷ cs) × Fresh i c.number Q d × LaterFree Q i cs

rising_from : (from less to : ℕ) (cs : List Numbered) → less ≤ from → Rising from to cs → Rising less to cs
rising_from from less to [] le h = tt
rising_from from less to (c ∷ cs) le h = let first = h.0 in (omega (arith, le, first), h.1, h.2)

-- names of commands from a number on stay free
later_map : (Q R : Name → Type 0) (i from to : ℕ) (cs : List Numbered) → ((n k : ℕ) → from ≤ n → Q (part i n k) → R (part i n k)) → Rising from to cs
    → LaterFree Q i cs → LaterFree R i cs
later_map Q R i from to [] f r h = tt
later_map Q R i from to (c ∷ cs) f r h =
    (λ k. f c.number k r.0 (h.0 k), later_map Q R i (c.number + 1) to cs (λ n k le q. let first = r.0 in f n k (omega (arith, le, first)) q) r.2 h.1)

turn_map : (Q R : Name → Type 0) (i n : ℕ) (t : TxTurn) → ((k : ℕ) → Q (part i n k) → R (part i n k)) → FreshTurn i n Q t → FreshTurn i n R t
turn_map Q R i n t f h = (h.0, λ k le. f k (h.1 k le))

fresh_map : (Q R : Name → Type 0) (i n : ℕ) (d : Doing) → ((k : ℕ) → Q (part i n k) → R (part i n k)) → Fresh i n Q d → Fresh i n R d
fresh_map Q R i n Begun f h = λ k. f k (h k)
fresh_map Q R i n (Routed file epoch len) f h = f 0 h
fresh_map Q R i n (Hosts file ether learns) f h = f 0 h
fresh_map Q R i n (Transmits file t chains) f h =
    (turn_map Q R i n t f h.0, λ give x held. let q = h.1 give x held in (q.0, q.1, q.2, f q.0 q.3))
fresh_map Q R i n (Given file t chains x) f h = (turn_map Q R i n t f h.0, h.1)
fresh_map Q R i n (Teaches file t chains x) f h = (turn_map Q R i n t f h.0, h.1)
fresh_map Q R i n d f h = tt

script_map : (Q R : Name → Type 0) (to i : ℕ) (d : Doing) (cs : List Numbered) → ((n k : ℕ) → Q (part i n k) → R (part i n k)) → FreshScript Q to i d cs → FreshScript R to i d cs
script_map Q R to i d [] f h = tt
script_map Q R to i d (c ∷ cs) f h =
    (h.0, fresh_map Q R i c.number d (λ k. f c.number k) h.1, later_map Q R i (c.number + 1) to cs (λ n k le. f n k) h.0.2 h.2)

-- the command ends: the next one begins
script_next : (Q R : Name → Type 0) (to i : ℕ) (d : Doing) (c : Numbered) (cs : List Numbered) → ((n k : ℕ) → c.number + 1 ≤ n → Q (part i n k) → R (part i n k))
    → FreshScript Q to i d (c ∷ cs) → FreshScript R to i Begun cs
script_next Q R to i d c [] f h = tt
script_next Q R to i d c (x ∷ xs) f h =
    let l = later_map Q R i (c.number + 1) to (x ∷ xs) f h.0.2 h.2 in
    (rising_from (c.number + 1) 0 to (x ∷ xs) (omega arith) h.0.2, l.0, l.1)

-- ---- a world

record HasNew (w : World) (to : ℕ) : Type 0 where
  above : (m : Name) → to ≤ m.turn → Free w m
  actors : (i : ℕ) (a : Actor) → slice_get w.actors i ≡ Some a → FreshScript (Free w) to i a.doing a.script

with_nth_inv : {A : Type 0} (n : ℕ) (new : A) (xs : List A) (i : ℕ) (b : A) → slice_get (with_nth n new xs) i ≡ Some b
    → ((n ≡ i) × (new ≡ b)) ⊎ ((n ≢ i) × (slice_get xs i ≡ Some b))
with_nth_inv n new [] i b e = absurd (cc (e))
with_nth_inv zero new (x ∷ xs) zero b e = inl (refl, some_same new b e)
with_nth_inv zero new (x ∷ xs) (suc i) b e = inr (λ h. omega (arith, h), e)
with_nth_inv (suc n) new (x ∷ xs) zero b e = inr (λ h. omega (arith, h), e)
with_nth_inv (suc n) new (x ∷ xs) (suc i) b e = ⊎_elim (λ t. inl (ap suc t.0, t.1)) (λ t. inr (λ h. t.0 (omega (arith, h)), t.1)) (with_nth_inv n new xs i b e)

-- another actor's name, or one of another command, isn't among those of an event
and_false : (b : Bool) → (b && false) ≡ false
and_false true = refl
and_false false = refl

other_name : (m : Name) (me n k : ℕ) → (m.actor ≢ me) ⊎ (m.turn ≢ n) → times_in m (part me n k ∷ []) ≡ 0
other_name m me n k o = ap (λ (b : Bool). (if b then 1 else 0) + 0) (differ o)
  where
    differ : (m.actor ≢ me) ⊎ (m.turn ≢ n) → same_name m (part me n k) ≡ false
    differ (inl ne) = ⊎_elim (λ t. absurd (ne t.1)) (λ t. ap (λ (b : Bool). b && m.turn == n && m.part == k) t.0) (eqb_tells m.actor me)
    differ (inr ne) = ⊎_elim (λ t. absurd (ne t.1))
        (λ t. ap (λ (b : Bool). m.actor == me && b && m.part == k) t.0 ∙ ap (λ (b : Bool). b && m.part == k) (and_false (m.actor == me))) (eqb_tells m.turn n)

not_in : (F : Name → Type 0) (me n : ℕ) (ns : List Name) (m : Name) → OneName F F me n ns → (m.actor ≢ me) ⊎ (m.turn ≢ n) → times_in m ns ≡ 0
not_in F me n ns m (inl e) o = ap (times_in m) e
not_in F me n ns m (inr p) o = ap (times_in m) p.1 ∙ other_name m me n p.0 o

-- ---- an event

can_now : (w : World) (i : ℕ) (a : Actor) (c : Numbered) → EachActor w (λ actor b. CanBe b) → slice_get w.actors i ≡ Some a → slice_get a.script 0 ≡ Some c → can_be a.doing c.command ≡ true
can_now w i a c stand found is = stands_at a c is (stand i a found)

fresh_now : (w : World) (to i : ℕ) (a : Actor) (c : Numbered) → HasNew w to → slice_get w.actors i ≡ Some a → slice_get a.script 0 ≡ Some c
    → (cs : List Numbered) × (a.script ≡ c ∷ cs) × FreshScript (Free w) to i a.doing (c ∷ cs)
fresh_now w to i a c h found is =
    let f = first_of_list a.script c is in
    (f.0, f.1, subst (FreshScript (Free w) to i a.doing) f.1 (h.actors i a found))

told : (s : Setup) (w : World) (x : Event) (u : World) (t : IsStep s w x u) (to : ℕ) (G : Name → Type 0) → EachActor w (λ actor b. CanBe b) → HasNew w to
    → OneName (Free w) G x.actor t.now.number (names_of t.effect)
    × (((m : Name) → Free w m → times_in m (names_of t.effect) ≡ 0 → G m) → FreshAfter (Free w) G x.actor t.now.number t.actor.doing t.effect.onward)
told s w x u t to G stand h =
    let f = fresh_now w to x.actor t.actor t.now h t.found t.current_is in
    where_some (Tells (Free w) G x.actor t.now.number t.actor.doing) _ t.effect
    (row_is_fresh (Free w) G x.actor t.now.number s w x.kind t.actor t.now.command t.next (can_now w x.actor t.actor t.now stand t.found t.current_is)) t.is_row f.2.1

stays_free : (a b c : ℕ) → c ≡ a + b → a ≡ 0 → b ≡ 0 → c ≡ 0
stays_free a b c e x y = omega (arith, e, x, y)

free_on : (s : Setup) (w : World) (x : Event) (u : World) (t : IsStep s w x u) (m : Name) → Free w m → times_in m (names_of t.effect) ≡ 0 → Free t.between m
free_on s w x u t m free none =
    stays_free (times w m) (times_in m (names_of t.effect)) (times t.between m) (effect_times m t.effect x.actor t.actor x.command w t.between t.made) free none

own_after : (Q R : Name → Type 0) (to i : ℕ) (a : Actor) (c : Numbered) (cs : List Numbered) (o : Onward) → a.script ≡ c ∷ cs
    → ((n k : ℕ) → c.number + 1 ≤ n → Q (part i n k) → R (part i n k)) → FreshScript Q to i a.doing (c ∷ cs) → FreshAfter Q R i c.number a.doing o
    → FreshScript R to i (actor_after o a).doing (actor_after o a).script
own_after Q R to i a c cs (Goes seen d f) is g h after_ =
    subst (FreshScript R to i d) (sym is) (h.0, after_, later_map Q R i (c.number + 1) to cs g h.0.2 h.2)
own_after Q R to i a c cs (Ends seen y) is g h after_ =
    subst (FreshScript R to i Begun) (ap (drop 1) (sym is)) (script_next Q R to i a.doing c cs g h)
own_after Q R to i a c cs (Stays f) is g h after_ =
    subst (FreshScript R to i a.doing) (sym is) (h.0, after_, later_map Q R i (c.number + 1) to cs g h.0.2 h.2)

between_new : (s : Setup) (w : World) (x : Event) (u : World) (t : IsStep s w x u) (to : ℕ) → EachActor w (λ actor b. CanBe b) → HasNew w to → HasNew t.between to
between_new s w x u t to stand h =
    let q = told s w x u t to (Free t.between) stand h in
    let f = fresh_now w to x.actor t.actor t.now h t.found t.current_is in
    let below : t.now.number < to = f.2.0.1 in
    let one : OneName (Free w) (Free w) x.actor t.now.number (names_of t.effect) = q.0 in
    let away : (m : Name) → (m.actor ≢ x.actor) ⊎ (m.turn ≢ t.now.number) → Free w m → Free t.between m =
    λ m o free. free_on s w x u t m free (not_in (Free w) x.actor t.now.number (names_of t.effect) m one o) in
    record {
      above = λ m le. away m (inr (λ e. omega (arith, le, below, e))) (h.above m le);
      actors = λ i a at_. ⊎_elim
          (λ same. subst (λ (b : Actor). FreshScript (Free t.between) to i b.doing b.script) same.1
          (subst (λ n. FreshScript (Free t.between) to n (actor_after t.effect.onward t.actor).doing (actor_after t.effect.onward t.actor).script) same.0
          (own_after (Free w) (Free t.between) to x.actor t.actor t.now f.0 t.effect.onward f.1
          (λ n k le free. away (part x.actor n k) (inr (λ e. omega (arith, le, e))) free) f.2 (q.1 (free_on s w x u t)))))
          (λ other. script_map (Free w) (Free t.between) to i a.doing a.script (λ n k free. away (part i n k) (inl (λ e. other.0 (sym e))) free) (h.actors i a other.1))
          (with_nth_inv x.actor (actor_after t.effect.onward t.actor) w.actors i a
          (ap (λ (l : List Actor). slice_get l i) (sym (effect_actors t.effect x.actor t.actor x.command w t.between t.made)) ∙ at_));
    }

purge_new : (v : World) (e : Ending) (to : ℕ) → IsEnding v e → HasNew v to → HasNew (ended e v) to
purge_new v e to end h =
    let f = fresh_now v to e.actor e.state end.now h end.found end.current_is in
    record {
      above = h.above;
      actors = λ i a at_. ⊎_elim
          (λ same. subst (λ (b : Actor). FreshScript (Free v) to i b.doing b.script) same.1
          (subst (λ n. FreshScript (Free v) to n Begun (drop 1 e.state.script)) same.0
          (subst (FreshScript (Free v) to e.actor Begun) (ap (drop 1) (sym f.1))
          (script_next (Free v) (Free v) to e.actor e.state.doing end.now f.0 (λ n k le free. free) f.2))))
          (λ other. h.actors i a other.1)
          (with_nth_inv e.actor (record e.state { script = drop 1 e.state.script; doing = Begun }) v.actors i a at_);
    }

abbrev IsNew : World → ℕ → Type 0
IsNew w to = EachActor w (λ actor b. CanBe b) × HasNew w to

step_new : (s : Setup) (w : World) (x : Event) (u : World × Heard) (to : ℕ) → step s w x ≡ Some u → IsNew w to → IsNew u.0 to
step_new s w x u to e h =
    let t = step_is s w x u e in
    let between = between_new s w x u.0 t to h.0 h.1 in (
      stands_are_kept s w x u e h.0,
      subst (λ (q : World). HasNew q to) t.is (when_settled (λ (q : World). HasNew q to) t.between between (λ f end. purge_new t.between f to end between)),
    )

run_new : (s : Setup) (es : List Event) (w v : World) (to : ℕ) → run s es w ≡ Some v → IsNew w to → IsNew v to
run_new s [] w v to e h = subst (λ (q : World). IsNew q to) (some_same w v e) h
run_new s (x ∷ es) w v to e h =
    let t = then_some (step s w x) _ v e in
    run_new s es t.0.0 v to t.2 (step_new s w x t.0 to t.1 h)

-- ---- a phase begins

script_rising : (n i : ℕ) (ls : List Line) → AreNumbered n ls
    → Rising n (n + length ls) (map (λ (l : Line). record { number = l.number; command = l.command }) (filter (λ (l : Line). l.actor == i) ls))
script_rising n i [] h = tt
script_rising n i (l ∷ ls) h =
    go (l.actor == i) (subst (λ k. Rising (n + 1) k rest) (omega arith) (script_rising (n + 1) i ls h.1))
  where
    rest : List Numbered
    rest = map (λ (x : Line). record { number = x.number; command = x.command }) (filter (λ (x : Line). x.actor == i) ls)

    go : (b : Bool) → Rising (n + 1) (n + suc (length ls)) rest
        → Rising n (n + suc (length ls)) (map (λ (x : Line). record { number = x.number; command = x.command })
        (if b then l ∷ filter (λ (x : Line). x.actor == i) ls else filter (λ (x : Line). x.actor == i) ls))
    go true r = let e = h.0 in (omega (arith, e), omega (arith, e), subst (λ k. Rising (k + 1) (n + suc (length ls)) rest) (sym h.0) r)
    go false r = rising_from (n + 1) n (n + suc (length ls)) rest (omega arith) r

abbrev Above : World → ℕ → Type 0
Above w n = (m : Name) → n ≤ m.turn → Free w m

later_free : (w : World) (i n to : ℕ) (cs : List Numbered) → Above w n → Rising n to cs → LaterFree (Free w) i cs
later_free w i n to [] h r = tt
later_free w i n to (c ∷ cs) h r =
    let first = r.0 in
    (λ k. h (part i c.number k) first, later_free w i n to cs h (rising_from (c.number + 1) n to cs (omega (arith, first)) r.2))

begun_fresh : (w : World) (i n to : ℕ) (cs : List Numbered) → Above w n → Rising n to cs → FreshScript (Free w) to i Begun cs
begun_fresh w i n to [] h r = tt
begun_fresh w i n to (c ∷ cs) h r =
    let l = later_free w i n to (c ∷ cs) h r in (rising_from n 0 to (c ∷ cs) (omega arith) r, l.0, l.1)

new_fresh : (w : World) (p : Phase) (n seen from more i : ℕ) (a : Actor) → AreNumbered n p.lines → Above w n → slice_get (actors_from p seen from more) i ≡ Some a
    → FreshScript (Free w) (n + length p.lines) (from + i) a.doing a.script
new_fresh w p n seen from zero i a numbered h e = absurd (cc (e))
new_fresh w p n seen from (suc more) zero a numbered h e =
    subst (λ (b : Actor). FreshScript (Free w) (n + length p.lines) (from + 0) b.doing b.script) (some_same (record { seen = seen; script = script_in p from; doing = Begun }) a e)
    (subst (λ k. FreshScript (Free w) (n + length p.lines) k Begun (script_in p from)) (omega arith)
    (begun_fresh w from n (n + length p.lines) (script_in p from) h (script_rising n from p.lines numbered)))
new_fresh w p n seen from (suc more) (suc i) a numbered h e =
    subst (λ k. FreshScript (Free w) (n + length p.lines) k a.doing a.script) (omega arith) (new_fresh w p n seen (from + 1) more i a numbered h e)

begins_new : (number : ℕ) (p : Phase) (w : World) (n : ℕ) → AreNumbered n p.lines → Above w n → IsNew (begins number p w) (n + length p.lines)
begins_new number p w n numbered h = (
  λ i a at_. new_stands p (newest w) 0 p.actors i a at_,
  record {
    above = λ m le. h m (omega (arith, le));
    actors = λ i a at_. subst (λ k. FreshScript (Free w) (n + length p.lines) k a.doing a.script) (omega arith) (new_fresh w p n (newest w) 0 p.actors i a numbered h at_);
  },
)

-- ---- all phases

lines_in : List Phase → ℕ
lines_in [] = 0
lines_in (p ∷ ps) = length p.lines + lines_in ps

phases_new : (s : Setup) (number n : ℕ) (ps : List Phase) (es : List (List Event)) (w v : World) → ArePhasesNumbered n ps → run_phases s number ps es w ≡ Some v
    → Above w n → Above v (n + lines_in ps)
unfolding lines_in
phases_new s number n [] [] w v numbered e h = subst (λ (q : World). Above q (n + 0)) (some_same w v e) (λ m le. h m (omega (arith, le)))
phases_new s number n [] (d ∷ ds) w v numbered e h = absurd (cc (e))
phases_new s number n (p ∷ ps) [] w v numbered e h = absurd (cc (e))
phases_new s number n (p ∷ ps) (es ∷ more) w v numbered e h =
    let t = then_some (run s es (begins number p w)) _ v e in
    let c = if_some (has_ended t.0) _ v t.2 in
    let r = run_new s es (begins number p w) t.0 (n + length p.lines) t.1 (begins_new number p w n numbered.0 h) in
    let q = phases_new s (number + 1) (n + length p.lines) ps more t.0 v numbered.1 c.1 r.1.above in
    λ m le. q m (omega (arith, le))

numbered_front : (n k : ℕ) (ps : List Phase) → ArePhasesNumbered n ps → ArePhasesNumbered n (take k ps)
numbered_front n zero ps h = tt
numbered_front n (suc k) [] h = tt
numbered_front n (suc k) (p ∷ ps) h = (h.0, numbered_front (n + length p.lines) k ps h.1)

numbered_at : (n k : ℕ) (ps : List Phase) (p : Phase) → ArePhasesNumbered n ps → slice_get ps k ≡ Some p → AreNumbered (n + lines_in (take k ps)) p.lines
unfolding lines_in
numbered_at n k [] p h e = absurd (cc (e))
numbered_at n zero (x ∷ xs) p h e = subst (λ (q : Phase). AreNumbered (n + 0) q.lines) (some_same x p e) (subst (λ k. AreNumbered k x.lines) (omega arith) h.0)
numbered_at n (suc k) (x ∷ xs) p h e =
    subst (λ j. AreNumbered j p.lines) (omega arith) (numbered_at (n + length x.lines) k xs p h.1 e)

none_stands : (s : Setup) → Above (opening s) 0
none_stands s m le = let z = none_placed m s.files in omega (arith, z)

-- ---- the law

row_new : (s : Setup) (w : World) (x : Event) (r : Effect) (to : ℕ) → IsNew w to → row_of s w x ≡ Some r → are_new w (names_of r) ≡ true
row_new s w x r to h e =
    let b = row_is s w x r e in
    let f = fresh_now w to x.actor b.actor b.now h.1 b.found b.current_is in
    let q = where_some (Tells (Free w) (Free w) x.actor b.now.number b.actor.doing) _ r
    (row_is_fresh (Free w) (Free w) x.actor b.now.number s w x.kind b.actor b.now.command b.next (can_now w x.actor b.actor b.now h.0 b.found b.current_is)) b.is_row f.2.1 in
    go (names_of r) q.0
  where
    go : (ns : List Name) {me n : ℕ} → OneName (Free w) (Free w) me n ns → are_new w ns ≡ true
    go ns (inl none) = ap (are_new w) none
    go ns {me} {n} (inr p) = ap (are_new w) p.1 ∙ ap (λ (b : Bool). b && 0 == 0 && true) (eq-eqb (times w (part me n p.0)) 0 p.2)

pub names_are_new : (s : Scenario) (w : World) (x : Event) (r : Effect) → ArePhasesNumbered 0 s.phases → IsWorldOf s w
    → row_of (setup_of s) w x ≡ Some r → effect (setup_of s) w x ≡ Some r
names_are_new s w x r numbered reached e = ⊎_elim
    (λ is.
    let b = row_is (setup_of s) w x r e in
    let ended = subst (λ (q : World). has_ended q ≡ true) (sym is)
    (phases_end (setup_of s) 0 (take reached.ended s.phases) reached.is_before.events (opening (setup_of s)) reached.before reached.is_before.is refl) in
    absurd (none_comes w x.actor b.actor b.now ended b.found b.current_is))
    (λ p. go p) reached.now
  where
    go : IsInPhase s reached.ended reached.before w → effect (setup_of s) w x ≡ Some r
    go p =
        let before = phases_new (setup_of s) 0 0 (take reached.ended s.phases) reached.is_before.events (opening (setup_of s)) reached.before
        (numbered_front 0 reached.ended s.phases numbered) reached.is_before.is (none_stands (setup_of s)) in
        let n : ℕ = 0 + lines_in (take reached.ended s.phases) in
        let now = run_new (setup_of s) p.so_far (begins reached.ended p.phase reached.before) w (n + length p.phase.lines) p.is
        (begins_new reached.ended p.phase reached.before n (numbered_at 0 reached.ended s.phases p.phase numbered p.is_next) before) in
        ap (λ (o : Option Effect). o >>= λ y. if_new w y) e
        ∙ ap (λ (b : Bool). only_if b r) (row_new (setup_of s) w x r (n + length p.phase.lines) now e)
