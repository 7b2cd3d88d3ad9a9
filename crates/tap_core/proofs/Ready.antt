-- This project's own: an allowed event of a run is ready to be made.
use Rattle.std.proofs.Common.{◌≡◌, ℕ, zero, suc, List, [], ◌∷◌, ◌++◌, length, map, filter, Bool, true, false, Option, Some, None, inl, inr, ⊎_elim, refl, sym, ap, ◌∙◌, subst, true≢false}
use Rattle.std.specs.Prelude.{◌==◌, if◌then◌else◌, slice_get}
use Rattle.std.proofs.lemmas.Bool.Decides.{eqb_tells}
use Rattle.std.proofs.lemmas.Option.{slice_get-map}
use Rattle.scen_text.specs.declared.scenario.Line.{Line}
use Rattle.scen_text.specs.declared.scenario.Phase.{Phase}
use Rattle.scen_text.specs.declared.scenario.Scenario.{Scenario}
use Rattle.scen_laid.specs.Runs.{LaidRunsAreSound}
use Rattle.tap_ground.specs.Options.{◌>>=◌}
use Rattle.tap_sound.specs.Worlds.{IsWorldOf}
use Rattle.tap_sound.proofs.Kit.{some_same, then_some}
use Rattle.tap_sound.proofs.Taken.{IsStep, step_is}
use Rattle.tap_steady.specs.Runs.{ReachedIsSteady}
use Rattle.tap_world.specs.declared.event.Event.{Event}
use Rattle.tap_world.specs.declared.event.EventKind.{EventKind}
use Rattle.tap_world.specs.declared.told.Said.{Said}
use Rattle.tap_world.specs.Effect.{files_after, guests_after}
use Rattle.tap_world.specs.Scripts.{is_kind, next_kind}
use Rattle.tap_world.specs.Setup.{Numbered, setup_of}
use Rattle.tap_world.specs.Steady.{IsSteady}
use Rattle.tap_world.specs.Step.{row, step}
use Rattle.tap_world.specs.World.{Actor, Doing, World, current}
use Rattle.core_actors.specs.Acting.{Acting, HasPlaces, actor_of, actors_of, numbered, script_of}
use Rattle.core_shared.specs.Asking.{Asking, IsAsked}
use Rattle.core_shared.specs.Coming.{come_of}
use Rattle.core_shared.specs.MayDo.{HasEvent, actor_at}
use Rattle.core_shared.specs.Suiting.{Suits}
use Rattle.core_shared.specs.declared.shared.Shared.{Shared}
use Rattle.core_shared.proofs.Kit.{made_from, there}
use Rattle.core_shared.proofs.Taking.{all_at, phases_are}
use Rattle.tap_core.specs.Applying.{EventsAreReady}
use Rattle.tap_core.specs.Running.{IsInLast, Reaches, SuitsFirst, asking_for, current_line, lines_in, world_of}
use Rattle.tap_core.proofs.Firsts.{IsFirst, actor_there, first_commands, first_there}
use Rattle.tap_core.proofs.OfKind.{next_is}

-- ---- the line of a command of a script

pub record IsItsLine (lines : List Line) (actor : ℕ) (c : Numbered) : Type 0 where
  pub index : ℕ
  pub line : Line
  pub here : slice_get lines index ≡ Some line
  pub is_actors : (line.actor == actor) ≡ true
  pub is : record { number = line.number; command = line.command } ≡ c

its_line : (lines : List Line) (actor i : ℕ) (c : Numbered)
    → slice_get (map (λ (l : Line). record { number = l.number; command = l.command }) (filter (λ (l : Line). l.actor == actor) lines)) i ≡ Some c
    → IsItsLine lines actor c
its_line [] actor i c e = absurd (cc (e))
its_line (l ∷ ls) actor i c e = go (l.actor == actor) refl i e (its_line ls actor)
  where
    behind : IsItsLine ls actor c → IsItsLine (l ∷ ls) actor c
    behind h = record { index = suc h.index; line = h.line; here = h.here; is_actors = h.is_actors; is = h.is }

    go : (b : Bool) → (l.actor == actor) ≡ b → (i : ℕ)
        → slice_get (map (λ (x : Line). record { number = x.number; command = x.command }) (if b then l ∷ filter (λ (x : Line). x.actor == actor) ls else filter (λ (x : Line). x.actor == actor) ls)) i ≡ Some c
        → ((j : ℕ) (d : Numbered) → slice_get (map (λ (x : Line). record { number = x.number; command = x.command }) (filter (λ (x : Line). x.actor == actor) ls)) j ≡ Some d → IsItsLine ls actor d)
        → IsItsLine (l ∷ ls) actor c
    go true is zero h rest = record { index = 0; line = l; here = refl; is_actors = is; is = some_same _ c h }
    go true is (suc j) h rest = behind (rest j c h)
    go false is j h rest = behind (rest j c h)

at_behind : (done rest : List Numbered) (c : Numbered) → slice_get (done ++ c ∷ rest) (length done) ≡ Some c
at_behind [] rest c = refl
at_behind (d ∷ ds) rest c = at_behind ds rest c

same_number : (a b : ℕ) → (a == b) ≡ true → a ≡ b
same_number a b e = ⊎_elim (λ t. t.1) (λ t. absurd (true≢false (sym e ∙ t.0))) (eqb_tells a b)

-- ---- the world of a run

-- where there is an actor, a phase has begun
pub in_last : (s : Scenario) (begun : ℕ) (w : World) (actor : ℕ) (a : Actor) → Reaches s begun w → slice_get w.actors actor ≡ Some a
    → IsInLast s begun w
in_last s begun w actor a (inl h) e =
    let none : slice_get w.actors actor ≡ None = ap (λ (v : World). slice_get v.actors actor) h.1 in absurd (cc (e, none))
in_last s begun w actor a (inr h) e = h

pub world_of_last : (s : Scenario) (begun : ℕ) (w : World) → IsInLast s begun w → IsWorldOf s w
world_of_last s begun w h = record { ended = h.ended; before = h.before; is_before = h.is_before; now = inr h.in_phase }

-- ---- an actor's first command, as it is asked for

current_of : (s : Scenario) (phase actor : ℕ) (actors : List Acting) (a : Acting) (line : Line) → slice_get actors actor ≡ Some a
    → IsFirst (lines_in s phase) a.script line → current_line s phase actors actor ≡ Some line
current_of s phase actor actors a line here f =
    ap (λ (o : Option Acting). o >>= λ (y : Acting). slice_get y.script 0 >>= λ (p : ℕ). slice_get (lines_in s phase) p) here
    ∙ ap (λ (l : List ℕ). slice_get l 0 >>= λ (p : ℕ). slice_get (lines_in s phase) p) f.script_is
    ∙ f.is_line

pub asking_actor : (s : Scenario) (x : Shared) (actors : List Acting) (actor : ℕ) (a : Acting) (line : Line) → slice_get actors actor ≡ Some a
    → (f : IsFirst (lines_in s x.phase) a.script line)
    → slice_get (actors_of (lines_in s x.phase) x.vhosts actors) actor
    ≡ Some (actor_at (asking_for s actor a (numbered line)) (come_of x.vhosts a.doing) (script_of (lines_in s x.phase) f.rest))
asking_actor s x actors actor a line here f =
    actor_there (lines_in s x.phase) x.vhosts actors actor a here
    ∙ ap (λ (l : List Numbered). Some (record { seen = a.seen; script = l; doing = come_of x.vhosts a.doing }))
    (first_commands (lines_in s x.phase) a.script line f)

module _ (s : Scenario) (x : Shared) (actors : List Acting) (said : List Said) (actor : ℕ) (a : Acting) (line : Line)
    (here : slice_get actors actor ≡ Some a) (first : IsFirst (lines_in s x.phase) a.script line) where
  asked : IsSteady (setup_of s) (world_of s x actors said) → IsAsked x.phase (asking_for s actor a (numbered line))
  asked steady =
      let order = steady.told.order actor _ (asking_actor s x actors actor a line here first) in
      let l = its_line order.0.lines actor (length order.2.0) (numbered line)
      (ap (λ (cs : List Numbered). slice_get cs (length order.2.0)) order.2.1
      ∙ at_behind order.2.0 (script_of (lines_in s x.phase) first.rest) (numbered line)) in
      record {
        part = order.0;
        is_part = ap (λ (ps : List Phase). slice_get ps x.phase) (sym (phases_are s)) ∙ order.1;
        place = l.index;
        line = l.line;
        is_line = l.here;
        actor = same_number l.line.actor actor l.is_actors;
        number = ap (λ (c : Numbered). c.number) l.is;
        command = ap (λ (c : Numbered). c.command) l.is;
      }

  its_own : SuitsFirst s x.vhosts actor a (current (script_of (lines_in s x.phase) a.script))
      → Suits x.vhosts (asking_for s actor a (numbered line)) a.doing
  its_own h =
      subst (λ (o : Option Numbered). SuitsFirst s x.vhosts actor a o)
      (ap (λ (cs : List Numbered). slice_get cs 0) (first_commands (lines_in s x.phase) a.script line first)) h

-- ---- the event of a step

-- a step's event is that of the command that is asked for
pub has_event : (s : Scenario) (w : World) (e : Event) (u : World) (q : Asking) (so_far : Doing) (rest : List Numbered)
    (st : IsStep (setup_of s) w e u) → q.scenario ≡ s → q.actor ≡ e.actor → q.number ≡ e.command
    → st.actor ≡ actor_at q so_far rest → st.now ≡ record { number = q.number; command = q.command }
    → HasEvent w q so_far rest e.kind
has_event s w e u q so_far rest st scenario actor number same is =
    let files = then_some (files_after st.effect.files w.files) _ st.between st.made in
    let guests = then_some (guests_after e.actor e.command st.effect.guests w.guests) _ st.between files.2 in
    let now : Numbered = record { number = q.number; command = q.command } in
    let next : is_kind e.kind (next_kind w so_far q.command) ≡ true =
    ap (λ (k : Option EventKind). is_kind e.kind k)
    (sym (ap (λ (b : Actor). next_kind w b.doing st.now.command) same
    ∙ ap (λ (c : Numbered). next_kind w so_far c.command) is)) ∙ st.next in
    record {
      is_next = next_is e.kind (next_kind w so_far q.command) next;
      effect = st.effect;
      is_row =
          ap (λ (t : Scenario). row (setup_of t) w e.kind q.actor (actor_at q so_far rest) q.number q.command) scenario
          ∙ ap (λ (n : ℕ). row (setup_of s) w e.kind n (actor_at q so_far rest) q.number q.command) actor
          ∙ ap (λ (c : Numbered). row (setup_of s) w e.kind e.actor (actor_at q so_far rest) c.number c.command) (sym is)
          ∙ ap (λ (b : Actor). row (setup_of s) w e.kind e.actor b st.now.number st.now.command) (sym same)
          ∙ st.is_row;
      files = files.0;
      is_files = files.1;
      guests = guests.0;
      is_guests =
          ap (λ (n : ℕ). guests_after n q.number st.effect.guests w.guests) actor
          ∙ ap (λ (n : ℕ). guests_after e.actor n st.effect.guests w.guests) number ∙ guests.1;
    }

pub ready : LaidRunsAreSound → ReachedIsSteady → EventsAreReady
ready sound steady s begun x actors said e r allowed =
    let u = there (step (setup_of s) (world_of s x actors said) e) allowed in
    let st = step_is (setup_of s) (world_of s x actors said) e u.0 u.1 in
    let a = made_from (actor_of (lines_in s x.phase) x.vhosts) (slice_get actors e.actor) st.actor
    (sym (slice_get-map (actor_of (lines_in s x.phase) x.vhosts) actors e.actor) ∙ st.found) in
    let places : HasPlaces (lines_in s x.phase) a.0 = all_at (HasPlaces (lines_in s x.phase)) actors e.actor a.0 r.places a.1 in
    let f = first_there (lines_in s x.phase) a.0.script places st.now
    (ap (λ (b : Actor). slice_get b.script 0) a.2 ∙ st.current_is) in
    let reached = world_of_last s begun (world_of s x actors said)
    (in_last s begun (world_of s x actors said) e.actor st.actor r.reached st.found) in
    let is_steady = steady s (world_of s x actors said) r.laid reached in
    let here = asking_actor s x actors e.actor a.0 f.0 a.1 f.1 in
    let number : f.0.number ≡ e.command = ap (λ (c : Numbered). c.number) f.2 ∙ st.number in
    record {
      acting = a.0;
      is_acting = a.1;
      line = f.0;
      is_line = current_of s x.phase e.actor actors a.0 f.0 a.1 f.1;
      number = number;
      may = (
        e.kind,
        record {
          laid = r.laid;
          asked = asked s x actors said e.actor a.0 f.0 a.1 f.1 is_steady;
          held = r.held;
          suits = its_own s x actors said e.actor a.0 f.0 a.1 f.1 (r.suits e.actor a.0 a.1);
          actors = actors_of (lines_in s x.phase) x.vhosts actors;
          said = said;
          sound = ((sound s r.laid).reached (world_of s x actors said) reached).sound;
          steady = is_steady;
          rest = script_of (lines_in s x.phase) f.1.rest;
          is_actor = here;
          event =
              has_event s (world_of s x actors said) e u.0.0 (asking_for s e.actor a.0 (numbered f.0)) (come_of x.vhosts a.0.doing)
              (script_of (lines_in s x.phase) f.1.rest) st refl refl number (some_same _ _ (sym st.found ∙ here)) (sym f.2);
        },
      );
    }
