-- After an event each answer has its moment, and each actor's next command its start.
use Rattle.std.proofs.Common.{◌≡◌, ◌⊎◌, ℕ, ◌≤◌, ◌<◌, List, Some, inl, inr, ⊎_elim, refl, sym, ap, ◌∙◌, subst, arith}
use Rattle.std.specs.Prelude.{slice_get}
use Rattle.scen_text.specs.declared.scenario.Scenario.{Scenario}
use Rattle.scen_laid.specs.Laid.{IsLaid}
use Rattle.tap_sound.specs.Worlds.{IsWorldOf}
use Rattle.tap_sound.proofs.Kit.{some_same}
use Rattle.tap_sound.proofs.Taken.{IsStep, step_is}
use Rattle.tap_world.specs.declared.event.Event.{Event}
use Rattle.tap_world.specs.declared.event.Heard.{Heard}
use Rattle.tap_world.specs.declared.told.Said.{Said}
use Rattle.tap_world.specs.Runs.{opening}
use Rattle.tap_world.specs.Each.{EachActor}
use Rattle.tap_world.specs.Setup.{Numbered, setup_of}
use Rattle.tap_world.specs.Sound.{HasSeen}
use Rattle.tap_world.specs.Steady.{IsTold}
use Rattle.tap_world.specs.Step.{step}
use Rattle.tap_world.specs.World.{Actor, World, current, newest}
use Rattle.tap_grows.specs.Grows.{Grows}
use Rattle.tap_grows.specs.Leads.{Leads, Passes}
use Rattle.tap_grows.specs.Leads.Leads.{Goes, Here}
use Rattle.tap_grows.specs.Moments.{IsBefore, IsNext, Moment}
use Rattle.tap_grows.specs.Moments.IsNext.{Behind}
use Rattle.tap_grows.specs.Runs.{SeesOn}
use Rattle.tap_grows.proofs.Events.{phase_stays}
use Rattle.tap_grows.proofs.Numbers.{told_before, told_so_far}
use Rattle.tap_grows.proofs.Orders.{grows_on, grows_to_itself}
use Rattle.tap_grows.proofs.Telling.{Comes, IsNew, actors_after, answers_after}
use Rattle.tap_grows.proofs.Telling.Comes.{Over, Still}
use Rattle.tap_grows.proofs.States.{IsPassed, Moments, State, Waits, later}

module _ (s : Scenario) (laid : IsLaid s) (v u : World) (e : Event) (h : Heard) (is : step (setup_of s) v e ≡ Some (u, h))
    (r : Leads s (opening (setup_of s)) v) (st : State s v r) (after : IsWorldOf s u) (grows : Grows (setup_of s) v u) (told_v : IsTold (setup_of s) v)
    (told_u : IsTold (setup_of s) u) (sees : SeesOn v u) (versions : EachActor u (HasSeen u)) where
  phase_is : u.phase ≡ v.phase
  phase_is = phase_stays (setup_of s) v e (u, h) is

  abbrev here : Leads s (opening (setup_of s)) u
  here = Goes v u e h r is

  t : IsStep (setup_of s) v e u
  t = step_is (setup_of s) v e (u, h) is

  -- the command of this event is its actor's
  number_is : (i : ℕ) (a : Actor) (c : Numbered) → slice_get v.actors i ≡ Some a → current a.script ≡ Some c
      → e.actor ≡ i → e.command ≡ c.number
  number_is i a c found now same =
      let mine : t.actor ≡ a = some_same t.actor a (sym t.found ∙ ap (slice_get v.actors) same ∙ found) in
      let it : t.now ≡ c =
      some_same t.now c (sym t.current_is ∙ ap (λ (q : Actor). current q.script) mine ∙ now) in
      sym t.number ∙ ap (λ (q : Numbered). q.number) it

  lead : (o : World) → Leads s o v → Leads s o u
  lead o on = Goes v u e h on is

  -- what a new answer tells that was seen
  new_sees : (y : Said) (n : IsNew (setup_of s) v e u y) → (n.actor.seen ≤ y.line.seen) × (y.line.seen ≤ newest u)
  new_sees y n =
      let b = sees y.line.actor n.actor n.found in
      let left = n.left b.0 b.1 in
      let rises = b.2 in
      let most : b.0.seen ≤ newest u = versions y.line.actor b.0 b.1 in
      (omega (arith, left, rises), omega (arith, left, most))

  new_from : (y : Said) (n : IsNew (setup_of s) v e u y)
      → (st.waits y.line.actor n.actor n.found).was.seen ≤ y.line.seen
  new_from y n =
      let was = (st.waits y.line.actor n.actor n.found).sees in
      let on = (new_sees y n).0 in omega (arith, was, on)

  abbrev new : (y : Said) → IsNew (setup_of s) v e u y → Moment s u y
  new y n = record {
    start = (st.waits y.line.actor n.actor n.found).start;
    before = v;
    event = e;
    heard = h;
    after = u;
    is_start = record {
      phase = (st.waits y.line.actor n.actor n.found).phase ∙ sym n.phase;
      actor = (st.waits y.line.actor n.actor n.found).was;
      now = n.now;
      is_actor = (st.waits y.line.actor n.actor n.found).is_was;
      is_now = ap (λ (l : List Numbered). slice_get l 0) (st.waits y.line.actor n.actor n.found).script ∙ n.is_now;
      number = n.number;
      begun = (st.waits y.line.actor n.actor n.found).begun;
      next = subst (λ (p : ℕ). IsNext s p y.line.actor (st.waits y.line.actor n.actor n.found).start) (sym n.phase)
          (st.waits y.line.actor n.actor n.found).next;
    };
    on = (st.waits y.line.actor n.actor n.found).on;
    step = is;
    tells = n.tells;
    rest = Here;
    from = new_from y n;
    to = (new_sees y n).1;
    start_reached = (st.waits y.line.actor n.actor n.found).reached;
    before_reached = st.reached;
    after_reached = after;
    grown = (st.waits y.line.actor n.actor n.found).grown;
    grows = grows_to_itself (setup_of s) u;
  }

  abbrev OldOrNew : ℕ → Said → Type 0
  OldOrNew k y = (slice_get v.said k ≡ Some y) ⊎ IsNew (setup_of s) v e u y

  abbrev of : (k : ℕ) (y : Said) → OldOrNew k y → Moment s u y
  of k y (inl old) = later u lead grows (st.has.moment k y old)
  of k y (inr n) = new y n

  which : (k : ℕ) (y : Said) → slice_get u.said k ≡ Some y → OldOrNew k y
  which = answers_after (setup_of s) v e u t

  abbrev moments : Moments s u
  moments k y at_ = of k y (which k y at_)

  -- of two new ones none is before the other, and none is before an old one
  none_before : (k : ℕ) (x y : Said) → IsNew (setup_of s) v e u x → slice_get v.said k ≡ Some y → IsBefore x y → ⊥
  none_before k x y n old b =
      let so_far = told_so_far (setup_of s) v told_v k y old in
      let phase = n.phase in
      ⊎_elim
      (λ (less : x.phase < y.phase). omega (arith, so_far, phase, less))
      (λ c.
      let same = c.0 in
      let less = c.2 in
      let number = n.number in
      let before = told_before s v laid told_v x.line.actor n.actor n.now n.found n.is_now k y old
      (sym c.0 ∙ n.phase) (sym c.1) in
      omega (arith, less, number, before))
      b

  not_both : (x y : Said) → IsNew (setup_of s) v e u x → IsNew (setup_of s) v e u y → IsBefore x y → ⊥
  not_both x y n m b =
      let px = n.phase in
      let py = m.phase in
      ⊎_elim
      (λ (less : x.phase < y.phase). omega (arith, px, py, less))
      (λ c.
      let a : n.actor ≡ m.actor =
      some_same n.actor m.actor (sym n.found ∙ ap (slice_get v.actors) c.1 ∙ m.found) in
      let now : n.now ≡ m.now =
      some_same n.now m.now (sym n.is_now ∙ ap (λ (q : Actor). current q.script) a ∙ m.is_now) in
      let number = ap (λ (q : Numbered). q.number) now in
      let nx = n.number in
      let ny = m.number in
      let less = c.2 in
      omega (arith, number, nx, ny, less))
      b

  earlier : (j k : ℕ) (x y : Said) (o : OldOrNew j x) (p : OldOrNew k y) → IsBefore x y
      → Grows (setup_of s) (of j x o).after (of k y p).start
  earlier j k x y (inl o) (inl p) b = st.has.earlier j k x y o p b
  earlier j k x y (inl o) (inr m) b =
      (st.waits y.line.actor m.actor m.found).behind j x o (⊎_elim
      (λ (less : x.phase < y.phase). inl (subst (λ (n : ℕ). x.phase < n) m.phase less))
      (λ c. inr (c.0 ∙ m.phase, c.1))
      b)
  earlier j k x y (inr n) (inl p) b = absurd (none_before k x y n p b)
  earlier j k x y (inr n) (inr m) b = absurd (not_both x y n m b)

  knows : (j k : ℕ) (x y : Said) → OldOrNew j x → (p : OldOrNew k y) → IsBefore x y
      → x.line.seen ≤ (of k y p).is_start.actor.seen
  knows j k x y (inl o) (inl p) b = st.has.known j k x y o p b
  knows j k x y (inl o) (inr m) b =
      (st.waits y.line.actor m.actor m.found).known j x o (⊎_elim
      (λ (less : x.phase < y.phase). inl (subst (λ (n : ℕ). x.phase < n) m.phase less))
      (λ c. inr (c.0 ∙ m.phase, c.1))
      b)
  knows j k x y (inr n) (inl p) b = absurd (none_before k x y n p b)
  knows j k x y (inr n) (inr m) b = absurd (not_both x y n m b)

  -- a new answer is of no earlier phase, nor of an actor that has the same commands left
  abbrev IsBehind : ℕ → Said → Type 0
  IsBehind i x = (x.phase < u.phase) ⊎ ((x.phase ≡ u.phase) × (x.line.actor ≡ i))

  behind_before : (i : ℕ) (x : Said) → IsBehind i x → (x.phase < v.phase) ⊎ ((x.phase ≡ v.phase) × (x.line.actor ≡ i))
  behind_before i x c = subst (λ (n : ℕ). (x.phase < n) ⊎ ((x.phase ≡ n) × (x.line.actor ≡ i))) phase_is c

  not_still : (i : ℕ) (a b : Actor) → slice_get u.actors i ≡ Some b → slice_get v.actors i ≡ Some a
      → b.script ≡ a.script → (k : ℕ) (x : Said) → slice_get u.said k ≡ Some x → IsNew (setup_of s) v e u x
      → IsBehind i x → ⊥
  not_still i a b at_ found script k x is_x n c =
      let px = n.phase in
      let pu = phase_is in
      let number = n.number in
      ⊎_elim
      (λ (less : x.phase < u.phase). omega (arith, px, pu, less))
      (λ d.
      let same : n.actor ≡ a = some_same n.actor a (sym n.found ∙ ap (slice_get v.actors) d.1 ∙ found) in
      let now : current b.script ≡ Some n.now =
      ap (λ (l : List Numbered). slice_get l 0) (script ∙ ap (λ (q : Actor). q.script) (sym same)) ∙ n.is_now in
      let before = told_before s u laid told_u i b n.now at_ now k x is_x d.0 d.1 in
      omega (arith, number, before))
      c

  -- the events that the run has passed
  passed_on : (x : World) (f : Event) (y : World) → Passes here x f y → IsPassed s u x y
  passed_on x f y (inl p) =
      let b = sees e.actor t.actor t.found in
      let px = ap (λ (q : World). q.phase) p.0 in
      let pu = phase_is in
      record {
        rest = subst (λ (q : World). Grows (setup_of s) q u) p.2 (grows_to_itself (setup_of s) u);
        so_far = omega (arith, px, pu);
        actor = e.actor;
        is = b.0;
        there = b.1;
      }
  passed_on x f y (inr p) =
      let w = st.passed x f y p in
      let b = sees w.actor w.is w.there in
      let le = w.so_far in
      let pu = phase_is in
      record {
        rest = grows_on (setup_of s) y v u w.rest grows;
        so_far = omega (arith, le, pu);
        actor = w.actor;
        is = b.0;
        there = b.1;
      }

  passes_of : (k : ℕ) (x : Said) (o : OldOrNew k x) → Passes here (of k x o).before (of k x o).event (of k x o).after
  passes_of k x (inl old) = inr (st.has.passed k x old)
  passes_of k x (inr n) = inl (refl, refl, refl)

  -- an event of the command of an answer
  around : (k : ℕ) (x : Said) (o : OldOrNew k x) (y : World) (f : Event) (z : World) → Passes here y f z
      → y.phase ≡ x.phase → f.actor ≡ x.line.actor → f.command ≡ x.line.command
      → Grows (setup_of s) (of k x o).start y × Grows (setup_of s) z (of k x o).after
  around k x (inl old) y f z (inl p) phase actor command =
      let mine : e.actor ≡ x.line.actor = ap (λ (q : Event). q.actor) p.1 ∙ actor in
      let before = told_before s v laid told_v e.actor t.actor t.now t.found t.current_is k x old
      (sym (ap (λ (q : World). q.phase) p.0 ∙ phase)) (sym mine) in
      let number = t.number in
      let same : e.command ≡ x.line.command = ap (λ (q : Event). q.command) p.1 ∙ command in
      absurd (omega (arith, before, number, same))
  around k x (inl old) y f z (inr p) phase actor command = st.has.around k x old y f z p phase actor command
  around k x (inr n) y f z (inl p) phase actor command = (
    subst (λ (q : World). Grows (setup_of s) (new x n).start q) p.0 (new x n).grown,
    subst (λ (q : World). Grows (setup_of s) q u) p.2 (grows_to_itself (setup_of s) u),
  )
  around k x (inr n) y f z (inr p) phase actor command =
      let number = n.number in
      ⊎_elim
      (λ (less : f.command < n.now.number). absurd (omega (arith, less, number, command)))
      (λ c. (c.1, grows_on (setup_of s) z v u (st.passed y f z p).rest grows))
      ((st.waits x.line.actor n.actor n.found).past y f z p (phase ∙ n.phase) actor n.now n.is_now)

  -- the events of an actor that goes on, and of one whose command is over
  past_still : (i : ℕ) (a b : Actor) (found : slice_get v.actors i ≡ Some a) → b.script ≡ a.script → (x : World) (f : Event)
      (y : World) → Passes here x f y → x.phase ≡ u.phase → f.actor ≡ i → (c : Numbered) → current b.script ≡ Some c
      → (f.command < c.number) ⊎ ((f.command ≡ c.number) × Grows (setup_of s) (st.waits i a found).start x)
  past_still i a b found script x f y (inl p) phase actor c now =
      let was : current a.script ≡ Some c = ap (λ (l : List Numbered). slice_get l 0) (sym script) ∙ now in
      inr (
        ap (λ (q : Event). q.command) (sym p.1)
            ∙ number_is i a c found was (ap (λ (q : Event). q.actor) p.1 ∙ actor),
        subst (λ (q : World). Grows (setup_of s) (st.waits i a found).start q) p.0 (st.waits i a found).grown,
      )
  past_still i a b found script x f y (inr p) phase actor c now =
      (st.waits i a found).past x f y p (phase ∙ phase_is) actor c
      (ap (λ (l : List Numbered). slice_get l 0) (sym script) ∙ now)

  past_over : (i k : ℕ) (z : Said) (b : Actor) → slice_get u.actors i ≡ Some b → slice_get u.said k ≡ Some z
      → IsNew (setup_of s) v e u z → z.line.actor ≡ i → (x : World) (f : Event) (y : World) → Passes here x f y
      → x.phase ≡ u.phase → f.actor ≡ i → (c : Numbered) → current b.script ≡ Some c
      → (f.command < c.number) ⊎ ((f.command ≡ c.number) × Grows (setup_of s) u x)
  past_over i k z b at_ told n of_z x f y p phase actor c now =
      let before = told_before s u laid told_u i b c at_ now k z told (n.phase ∙ sym phase_is) of_z in
      let number = n.number in
      inl (⊎_elim
      (λ q.
      let same : f.command ≡ n.now.number =
      ap (λ (g : Event). g.command) (sym q.1)
      ∙ number_is z.line.actor n.actor n.now n.found n.is_now (ap (λ (g : Event). g.actor) q.1 ∙ actor ∙ sym of_z) in
      omega (arith, before, number, same))
      (λ q. ⊎_elim
      (λ (less : f.command < n.now.number). omega (arith, before, number, less))
      (λ d. let same = d.0 in omega (arith, before, number, same))
      ((st.waits z.line.actor n.actor n.found).past x f y q (phase ∙ phase_is) (actor ∙ sym of_z) n.now n.is_now))
      p)

  waits_on : (i : ℕ) (b : Actor) → slice_get u.actors i ≡ Some b → Comes (setup_of s) v e u i b
      → Waits s u here moments i b
  waits_on i b at_ (Still a found script) =
      let w = st.waits i a found in
      let r = sees i a found in
      let it : r.0 ≡ b = some_same r.0 b (sym r.1 ∙ at_) in
      let rises : a.seen ≤ b.seen = subst (λ (q : Actor). a.seen ≤ q.seen) it r.2 in
      let had = w.sees in
      record {
        start = w.start;
        reached = w.reached;
        on = lead w.start w.on;
        grown = grows_on (setup_of s) w.start v u w.grown grows;
        phase = w.phase ∙ sym phase_is;
        was = w.was;
        is_was = w.is_was;
        script = w.script ∙ sym script;
        begun = w.begun;
        next = subst (λ (p : ℕ). IsNext s p i w.start) (sym phase_is) w.next;
        sees = omega (arith, had, rises);
        known = λ k x is_x c. ⊎_elim
            (λ o. w.known k x o (behind_before i x c))
            (λ n. absurd (not_still i a b at_ found script k x is_x n c))
            (which k x is_x);
        behind = λ k x is_x c. go w k x is_x (which k x is_x) c;
        past = λ x f y p phase actor c now. past_still i a b found script x f y p phase actor c now;
      }
    where
      go : (w : Waits s v r st.has.moment i a) (k : ℕ) (x : Said) → slice_get u.said k ≡ Some x → (o : OldOrNew k x)
          → IsBehind i x → Grows (setup_of s) (of k x o).after w.start
      go w k x is_x (inl o) c = w.behind k x o (behind_before i x c)
      go w k x is_x (inr n) c = absurd (not_still i a b at_ found script k x is_x n c)
  waits_on i b at_ (Over j y told n actor begun) =
      let left : b.seen ≡ y.line.seen =
      n.left b (subst (λ (q : ℕ). slice_get u.actors q ≡ Some b) (sym actor) at_) in
      let began = new_from y n in
      record {
        start = u;
        reached = after;
        on = Here;
        grown = grows_to_itself (setup_of s) u;
        phase = refl;
        was = b;
        is_was = at_;
        script = refl;
        begun = begun;
        next = Behind v e h y is n.tells (n.phase ∙ sym phase_is) actor;
        sees = omega arith;
        known = λ k x is_x c. ⊎_elim
            (λ old.
            let knew = (st.waits y.line.actor n.actor n.found).known k x old
            (subst (λ (j : ℕ). (x.phase < v.phase) ⊎ ((x.phase ≡ v.phase) × (x.line.actor ≡ j))) (sym actor)
            (behind_before i x c)) in
            omega (arith, left, began, knew))
            (λ (m : IsNew (setup_of s) v e u x).
            let px = m.phase in
            let pu = phase_is in
            ⊎_elim
            (λ (less : x.phase < u.phase). absurd (omega (arith, px, pu, less)))
            (λ d.
            let same : b.seen ≡ x.line.seen =
            m.left b (subst (λ (j : ℕ). slice_get u.actors j ≡ Some b) (sym d.1) at_) in omega (arith, same))
            c)
            (which k x is_x);
        behind = λ k x is_x c. (moments k x is_x).grows;
        past = past_over i j y b at_ told n actor;
      }

  pub after_event : State s u here
  after_event = record {
    reached = after;
    passed = passed_on;
    has = record {
      moment = moments;
      earlier = λ j k x y is_x is_y b. earlier j k x y (which j x is_x) (which k y is_y) b;
      known = λ j k x y is_x is_y b. knows j k x y (which j x is_x) (which k y is_y) b;
      passed = λ k x is_x. passes_of k x (which k x is_x);
      around = λ k x is_x y f z p. around k x (which k x is_x) y f z p;
    };
    waits = λ i b at_. waits_on i b at_ (actors_after (setup_of s) v e u t i b at_);
  }
