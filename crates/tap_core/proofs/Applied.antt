-- This project's own: an event that was made was applied, and the run goes on.
use Rattle.std.proofs.Common.{◌≡◌, ◌≢◌, ◌⊎◌, ℕ, zero, suc, List, [], ◌∷◌, ◌++◌, Bool, true, false, Option, Some, None, inl, inr, ⊎_elim, refl, sym, ap, ◌∙◌, subst, arith}
use Rattle.std.specs.Prelude.{◌==◌, drop, if◌then◌else◌, option_map, slice_get}
use Rattle.std.proofs.lemmas.Bool.Decides.{eqb_tells}
use Rattle.scen_text.specs.declared.scenario.Line.{Line}
use Rattle.scen_text.specs.declared.scenario.Scenario.{Scenario}
use Rattle.scen_laid.specs.Runs.{LaidRunsAreSound}
use Rattle.tap_guests.specs.Side.{Side}
use Rattle.tap_sound.specs.Worlds.{EventsGoOn}
use Rattle.tap_sound.proofs.Kit.{some_same}
use Rattle.tap_sound.proofs.Taken.{IsStep, step_is}
use Rattle.tap_steady.specs.Runs.{ReachedIsSteady}
use Rattle.tap_world.specs.declared.event.Event.{Event}
use Rattle.tap_world.specs.declared.event.EventKind.{EventKind}
use Rattle.tap_world.specs.declared.event.Found.{Found}
use Rattle.tap_world.specs.declared.event.Heard.{Heard}
use Rattle.tap_world.specs.declared.event.Heard.TheVariants as heard
use Rattle.tap_world.specs.declared.told.Said.{Said}
use Rattle.tap_trace.specs.declared.answer.Answer.TheVariants.{Version}
use Rattle.tap_world.specs.ByNumber.{with_nth}
use Rattle.tap_world.specs.Effect.{Ending, actor_after, ending, heard_by, heard_of, said_after, settled}
use Rattle.tap_world.specs.Setup.{Numbered, setup_of}
use Rattle.tap_world.specs.Sound.{IsSound}
use Rattle.tap_world.specs.Steady.{IsSteady}
use Rattle.tap_world.specs.Step.{is_allowed, step}
use Rattle.tap_world.specs.World as come
use Rattle.tap_world.specs.World.{Actor, World, current}
use Rattle.core_actors.specs.Acting.{Acting, actor_of, actors_of, numbered, script_of}
use Rattle.core_shared.specs.Asking.{Asking}
use Rattle.core_shared.specs.Coming.{come_of, onward_of}
use Rattle.core_shared.specs.Did.{Did, TurnsStay}
use Rattle.core_shared.specs.MayDo.{actor_at}
use Rattle.core_shared.specs.Steps.{EventsMakeSteps, event_of, world_on}
use Rattle.core_shared.specs.Suiting.{Suits, SuitsOn}
use Rattle.core_shared.specs.Worlds.{world_in}
use Rattle.core_shared.specs.declared.doing.Doing.{Doing}
use Rattle.core_shared.specs.declared.doing.Doing.TheVariants as doing
use Rattle.core_shared.specs.declared.onward.Onward.{Onward}
use Rattle.core_shared.specs.declared.onward.Onward.TheVariants as on
use Rattle.core_shared.specs.declared.shared.Shared.{Shared}
use Rattle.core_shared.proofs.Kit.{there}
use Rattle.core_shared.proofs.Others.{come_stays, stands, suits_stay}
use Rattle.tap_core.specs.Applying.{EventsAreApplied, IsKept, WasDone, acting_after, found_by, found_on, run_of, said_on}
use Rattle.tap_core.specs.Running.{IsInLast, IsRunning, Running, SuitsFirst, SuitsItsCommand, asking_for, lines_in, world_of}
use Rattle.tap_core.specs.Telling.{IsApplied, found_in}
use Rattle.tap_core.proofs.Firsts.{IsFirst, actor_there, first_commands, first_of}
use Rattle.tap_core.proofs.Making.{between_places}
use Rattle.tap_core.proofs.Ready.{asking_actor, has_event, in_last, world_of_last}
use Rattle.tap_core.proofs.Settling.{made_with_nth, suits_begun}

-- the event is allowed in the run that the parts make
pub allowed_in : (q r : Running) (e : Event) → q ≡ r → is_allowed (setup_of r.scenario) r.world e ≡ true
    → is_allowed (setup_of q.scenario) q.world e ≡ true
allowed_in q r e same h = ap (λ (p : Running). is_allowed (setup_of p.scenario) p.world e) same ∙ h

-- ---- one of a list has changed

with_nth_is : {A : Type 0} (n : ℕ) (new : A) (xs : List A) (k : ℕ) (x : A) → slice_get (with_nth n new xs) k ≡ Some x
    → ((n ≡ k) × (new ≡ x)) ⊎ ((n ≢ k) × (slice_get xs k ≡ Some x))
with_nth_is n new [] k x e = absurd (cc (e))
with_nth_is zero new (y ∷ ys) zero x e = inl (refl, some_same new x e)
with_nth_is zero new (y ∷ ys) (suc k) x e = inr (λ h. omega (arith, h), e)
with_nth_is (suc n) new (y ∷ ys) zero x e = inr (λ h. omega (arith, h), e)
with_nth_is (suc n) new (y ∷ ys) (suc k) x e =
    ⊎_elim (λ t. inl (ap suc t.0, t.1)) (λ t. inr (λ h. t.0 (omega (arith, h)), t.1)) (with_nth_is n new ys k x e)

not_same : (n k : ℕ) → n ≢ k → (k == n) ≡ false
not_same n k ne = ⊎_elim (λ t. absurd (ne (sym t.1))) (λ t. t.0) (eqb_tells k n)

-- ---- the actor of the event

-- what a command carries is its own, whatever its actor has seen
suits_seen : (vhosts : List (Option Side)) (q : Asking) (seen : ℕ) (d : Doing) → Suits vhosts q d → Suits vhosts (record q { seen = seen }) d
suits_seen vhosts q seen doing.Begun h = h
suits_seen vhosts q seen (doing.Changes op) h = h
suits_seen vhosts q seen (doing.Opens file op) h = h
suits_seen vhosts q seen (doing.Opened file op) h = h
suits_seen vhosts q seen (doing.Withdraws file op) h = h
suits_seen vhosts q seen (doing.Routed file epoch frame) h = record { sent = h.sent; name = h.name }
suits_seen vhosts q seen (doing.Placed file place epoch frame) h = record { sent = h.sent; name = h.name }
suits_seen vhosts q seen (doing.Hosts file frame learns) h = record { name = h.name; whole = h.whole }
suits_seen vhosts q seen (doing.Learns file frame) h = record { name = h.name; whole = h.whole }
suits_seen vhosts q seen d h = h

-- it goes on, or its next command begins
its_actor : (vhosts : List (Option Side)) (lines : List Line) (o : Onward) (s : Scenario) (actor : ℕ) (a : Acting) (line : Line) (so_far : come.Doing)
    → (f : IsFirst lines a.script line)
    → actor_of lines vhosts (acting_after o a)
    ≡ actor_after (onward_of vhosts o) (actor_at (asking_for s actor a (numbered line)) so_far (script_of lines f.rest))
its_actor vhosts lines (on.Goes seen d found) s actor a line so_far f =
    ap (λ (cs : List Numbered). record { seen = seen; script = cs; doing = come_of vhosts d }) (first_commands lines a.script line f)
its_actor vhosts lines (on.Ends seen answer) s actor a line so_far f =
    ap (λ (l : List ℕ). record { seen = seen; script = script_of lines (drop 1 l); doing = come.Doing.Begun }) f.script_is

its_said : (vhosts : List (Option Side)) (o : Onward) (phase actor number command : ℕ) → number ≡ command
    → said_after (onward_of vhosts o) phase actor number ≡ said_on o phase actor command
its_said vhosts (on.Goes seen d found) phase actor number command e = refl
its_said vhosts (on.Ends seen answer) phase actor number command e = ap (λ (n : ℕ). said_on (on.Ends seen answer) phase actor n) e

its_suits : (vhosts : List (Option Side)) (lines : List Line) (o : Onward) (s : Scenario) (actor : ℕ) (a : Acting) (line : Line)
    → IsFirst lines a.script line → SuitsOn vhosts (asking_for s actor a (numbered line)) o
    → SuitsFirst s vhosts actor (acting_after o a) (current (script_of lines (acting_after o a).script))
its_suits vhosts lines (on.Goes seen d found) s actor a line f h =
    subst (λ (cs : List Numbered). SuitsFirst s vhosts actor (record { seen = seen; script = a.script; doing = d }) (current cs))
    (sym (first_commands lines a.script line f))
    (suits_seen vhosts (asking_for s actor a (numbered line)) seen d h)
its_suits vhosts lines (on.Ends seen answer) s actor a line f h =
    suits_begun s vhosts actor seen (drop 1 a.script) (current (script_of lines (drop 1 a.script)))

-- ---- the others

module _ (s : Scenario) (x : Shared) (old : List Acting) (said : List Said) (sound : IsSound (setup_of s) (world_of s x old said))
    (steady : IsSteady (setup_of s) (world_of s x old said)) (actor : ℕ) (vhosts : List (Option Side)) (stay : TurnsStay actor x.vhosts vhosts)
  where
    -- another actor's command stays as far as it has come, and what it carries its own
    others_stay : (k : ℕ) (a : Acting) → slice_get old k ≡ Some a → actor ≢ k → SuitsItsCommand s x k a
        → (come_of vhosts a.doing ≡ come_of x.vhosts a.doing)
        × SuitsFirst s vhosts k a (current (script_of (lines_in s x.phase) a.script))
    others_stay k a here ne suits = go (script_of (lines_in s x.phase) a.script) refl suits
      where
        go : (cs : List Numbered) → script_of (lines_in s x.phase) a.script ≡ cs → SuitsFirst s x.vhosts k a (current cs)
            → (come_of vhosts a.doing ≡ come_of x.vhosts a.doing) × SuitsFirst s vhosts k a (current cs)
        go [] is h = (ap (λ (d : Doing). come_of vhosts d) h ∙ sym (ap (λ (d : Doing). come_of x.vhosts d) h), h)
        go (c ∷ rest) is h =
            let there_ : slice_get (actors_of (lines_in s x.phase) x.vhosts old) k
            ≡ Some (actor_at (asking_for s k a c) (come_of x.vhosts a.doing) rest) =
            actor_there (lines_in s x.phase) x.vhosts old k a here
            ∙ ap (λ (l : List Numbered). Some (record { seen = a.seen; script = l; doing = come_of x.vhosts a.doing })) is in
            let st = stands (asking_for s k a c) a.doing x (actors_of (lines_in s x.phase) x.vhosts old) said rest sound steady there_ in (
              come_stays (asking_for s k a c) a.doing actor x.vhosts vhosts st stay (not_same actor k ne) h,
              suits_stay (asking_for s k a c) a.doing actor x.vhosts vhosts st stay (not_same actor k ne) h,
            )

-- ---- what is heard

found_heard : (o : Onward) (vhosts : List (Option Side)) (actor : ℕ) (e : Option Ending)
    → found_by (option_map (λ (d : Ending). d.actor) e) actor (found_on o) ≡ found_in (heard_by actor (onward_of vhosts o) e)
found_heard (on.Goes seen d found) vhosts actor None = refl
found_heard (on.Ends seen answer) vhosts actor None = refl
found_heard o vhosts actor (Some e) = go (e.actor == actor) o
  where
    go : (b : Bool) (p : Onward)
        → (if b then None else found_on p) ≡ found_in (if b then heard.Answer (Version e.version) else heard_of (onward_of vhosts p))
    go true p = refl
    go false (on.Goes seen d found) = refl
    go false (on.Ends seen answer) = refl

-- ---- the phase stays

settled_phase : (w : World) (o : Option Ending) → (settled w o).phase ≡ w.phase
settled_phase w None = refl
settled_phase w (Some e) = refl

-- ---- all of it

module _ (steps : EventsMakeSteps) (goes : EventsGoOn) (sound : LaidRunsAreSound) (steady : ReachedIsSteady)
    (s : Scenario) (begun : ℕ) (x y : Shared) (old new : List Acting) (said answered : List Said) (e : Event) (found : Option Found)
    (r : IsRunning s begun x old said) (allowed : is_allowed (setup_of s) (world_of s x old said) e ≡ true)
    (d : WasDone s e x y old new said answered found) where
  first : IsFirst (lines_in s x.phase) d.acting.script d.line
  first = first_of s x.phase e.actor old d.acting d.line d.is_acting d.is_line

  here : slice_get (actors_of (lines_in s x.phase) x.vhosts old) e.actor
      ≡ Some (actor_at (asking_for s e.actor d.acting (numbered d.line)) (come_of x.vhosts d.acting.doing) (script_of (lines_in s x.phase) first.rest))
  here = asking_actor s x old e.actor d.acting d.line d.is_acting first

  last : IsInLast s begun (world_of s x old said)
  last = in_last s begun (world_of s x old said) e.actor _ r.reached here

  is_sound : IsSound (setup_of s) (world_of s x old said)
  is_sound = ((sound s r.laid).reached (world_of s x old said) (world_of_last s begun (world_of s x old said) last)).sound

  is_steady : IsSteady (setup_of s) (world_of s x old said)
  is_steady = steady s (world_of s x old said) r.laid (world_of_last s begun (world_of s x old said) last)

  taken : (u : World × Heard) × (step (setup_of s) (world_of s x old said) e ≡ Some u)
  taken = there (step (setup_of s) (world_of s x old said) e) allowed

  is_step : IsStep (setup_of s) (world_of s x old said) e taken.0.0
  is_step = step_is (setup_of s) (world_of s x old said) e taken.0 taken.1

  same : is_step.actor
      ≡ actor_at (asking_for s e.actor d.acting (numbered d.line)) (come_of x.vhosts d.acting.doing) (script_of (lines_in s x.phase) first.rest)
  same = some_same _ _ (sym is_step.found ∙ here)

  now : is_step.now ≡ numbered d.line
  now = some_same is_step.now (numbered d.line) (sym is_step.current_is ∙ ap (λ (a : Actor). slice_get a.script 0) same)

  number : d.line.number ≡ e.command
  number = ap (λ (c : Numbered). c.number) (sym now) ∙ is_step.number

  kind : d.went.0 ≡ e.kind
  kind =
      some_same d.went.0 e.kind
      (sym (d.went.1.has.is_next (actors_of (lines_in s x.phase) x.vhosts old) said)
      ∙ (has_event s (world_of s x old said) e taken.0.0 (asking_for s e.actor d.acting (numbered d.line)) (come_of x.vhosts d.acting.doing)
      (script_of (lines_in s x.phase) first.rest) is_step refl refl number same now).is_next)

  did : Did (asking_for s e.actor d.acting (numbered d.line)) d.acting.doing e.kind x d.between d.onward
  did = subst (λ (k : EventKind). Did (asking_for s e.actor d.acting (numbered d.line)) d.acting.doing k x d.between d.onward) kind d.went.1

  its_event : event_of (asking_for s e.actor d.acting (numbered d.line)) e.kind ≡ e
  its_event = λ i. record { actor = e.actor; command = number i; kind = e.kind }

  -- the world between the event and the end of a detach
  between : World
  between = world_of s d.between (with_nth e.actor (acting_after d.onward d.acting) old) (said ++ said_on d.onward d.between.phase e.actor e.command)

  others : (k : ℕ) (a : Acting) → e.actor ≢ k → slice_get old k ≡ Some a
      → (come_of d.between.vhosts a.doing ≡ come_of x.vhosts a.doing)
      × SuitsFirst s d.between.vhosts k a (current (script_of (lines_in s x.phase) a.script))
  others k a ne is = others_stay s x old said is_sound is_steady e.actor d.between.vhosts did.stay k a is ne (r.suits k a is)

  actors_between : actors_of (lines_in s d.between.phase) d.between.vhosts (with_nth e.actor (acting_after d.onward d.acting) old)
      ≡ with_nth e.actor
      (actor_after (onward_of d.between.vhosts d.onward)
      (actor_at (asking_for s e.actor d.acting (numbered d.line)) (come_of x.vhosts d.acting.doing) (script_of (lines_in s x.phase) first.rest)))
      (actors_of (lines_in s x.phase) x.vhosts old)
  actors_between =
      ap (λ (p : ℕ). actors_of (lines_in s p) d.between.vhosts (with_nth e.actor (acting_after d.onward d.acting) old)) did.left.phase
      ∙ made_with_nth (actor_of (lines_in s x.phase) d.between.vhosts) (actor_of (lines_in s x.phase) x.vhosts) e.actor
      (acting_after d.onward d.acting) _ old
      (its_actor d.between.vhosts (lines_in s x.phase) d.onward s e.actor d.acting d.line (come_of x.vhosts d.acting.doing) first)
      (λ k a ne is.
      ap (λ (c : come.Doing). record { seen = a.seen; script = script_of (lines_in s x.phase) a.script; doing = c }) (others k a ne is).0)

  is_between : world_on (asking_for s e.actor d.acting (numbered d.line)) d.acting.doing x d.between d.onward
      (script_of (lines_in s x.phase) first.rest) (actors_of (lines_in s x.phase) x.vhosts old) said
      ≡ between
  unfolding between
  is_between =
      ap (λ (l : List Actor). world_in d.between l (said ++ said_after (onward_of d.between.vhosts d.onward) d.between.phase e.actor d.line.number))
      (sym actors_between)
      ∙ ap (λ (l : List Said). world_in d.between (actors_of (lines_in s d.between.phase) d.between.vhosts (with_nth e.actor (acting_after d.onward d.acting) old)) (said ++ l))
      (its_said d.between.vhosts d.onward d.between.phase e.actor d.line.number e.command number)

  step_made : step (setup_of s) (world_of s x old said) e
      ≡ Some (world_of s y new answered, heard_by e.actor (onward_of d.between.vhosts d.onward) (ending between))
  unfolding between
  step_made =
      ap (λ (x_ : Event). step (setup_of s) (world_of s x old said) x_) (sym its_event)
      ∙ steps (asking_for s e.actor d.acting (numbered d.line)) d.acting.doing e.kind x d.between d.onward
      (script_of (lines_in s x.phase) first.rest) (actors_of (lines_in s x.phase) x.vhosts old) said did here
      (ap (λ (x_ : Event). is_allowed (setup_of s) (world_of s x old said) x_) its_event ∙ allowed)
      ∙ ap (λ (v : World). Some (settled v (ending v), heard_by e.actor (onward_of d.between.vhosts d.onward) (ending v))) is_between
      ∙ ap (λ (v : World). Some (v, heard_by e.actor (onward_of d.between.vhosts d.onward) (ending between))) (sym d.settled.world)

  kept_between : IsKept s d.between (with_nth e.actor (acting_after d.onward d.acting) old)
  kept_between = record {
    held = did.held;
    places = between_places s e.actor x d.between old d.onward d.acting d.is_acting did.left.phase r.places;
    suits = λ k a is.
        subst (λ (p : ℕ). SuitsFirst s d.between.vhosts k a (current (script_of (lines_in s p) a.script))) (sym did.left.phase)
        (⊎_elim
        (λ t. subst (λ (n : ℕ). SuitsFirst s d.between.vhosts n a (current (script_of (lines_in s x.phase) a.script))) t.0
        (subst (λ (b : Acting). SuitsFirst s d.between.vhosts e.actor b (current (script_of (lines_in s x.phase) b.script))) t.1
        (its_suits d.between.vhosts (lines_in s x.phase) d.onward s e.actor d.acting d.line first did.suits)))
        (λ t. (others k a t.0 t.1).1)
        (with_nth_is e.actor (acting_after d.onward d.acting) old k a is));
  }

  running : IsRunning s begun y new answered
  unfolding between last
  running =
      let kept = d.settled.kept kept_between in
      let reached : IsInLast s begun (world_of s y new answered) = record {
        ended = last.ended;
        is_last = last.is_last;
        number =
            ap (λ (w : World). w.phase) d.settled.world ∙ settled_phase between (ending between) ∙ did.left.phase ∙ last.number;
        before = last.before;
        is_before = last.is_before;
        in_phase =
            goes s last.ended last.before (world_of s x old said) e
            (world_of s y new answered, heard_by e.actor (onward_of d.between.vhosts d.onward) (ending between)) step_made last.in_phase;
      } in
      record { laid = r.laid; reached = inr reached; held = kept.held; places = kept.places; suits = kept.suits }

  is_applied : IsApplied e (run_of s begun x old said) (run_of s begun y new answered) found
  unfolding between
  is_applied = record {
    heard = heard_by e.actor (onward_of d.between.vhosts d.onward) (ending between);
    step = step_made;
    found_is =
        d.found_is ∙ ap (λ (o : Option ℕ). found_by o e.actor (found_on d.onward)) d.settled.told
        ∙ found_heard d.onward d.between.vhosts e.actor (ending between);
    scenario = refl;
    begun = refl;
  }

pub applied : EventsMakeSteps → EventsGoOn → LaidRunsAreSound → ReachedIsSteady → EventsAreApplied
applied steps goes sound steady s begun x y old new said answered e found r allowed d = (
  running steps goes sound steady s begun x y old new said answered e found r allowed d,
  is_applied steps goes sound steady s begun x y old new said answered e found r allowed d,
)
