-- This project's own: an event that was done is a step of the world.
use Rattle.std.proofs.Common.{◌≡◌, ℕ, List, ◌++◌, Bool, true, Option, Some, None, refl, sym, ap, ◌∙◌, eq-eqb}
use Rattle.std.specs.Prelude.{if◌then◌else◌, ◌==◌, ◌&&◌, map, slice_get}
use Rattle.tap_ground.specs.Options.{◌>>=◌, only_if}
use Rattle.tap_lines.specs.Files.{files_of}
use Rattle.tap_world.specs.declared.event.Event.{Event}
use Rattle.tap_world.specs.declared.event.EventKind.{EventKind}
use Rattle.tap_world.specs.declared.event.Heard.{Heard}
use Rattle.tap_world.specs.declared.told.Said.{Said}
use Rattle.tap_world.specs.ByNumber.{with_nth}
use Rattle.tap_world.specs.Effect.{Effect, Ending, Onward as Onto, actor_after, ending, guests_after, heard_by, said_after, settled, vhosts_after, with_effect}
use Rattle.tap_world.specs.Effect.Onward.{Ends, Goes, Stays}
use Rattle.tap_world.specs.Guests.{Guest}
use Rattle.tap_world.specs.Line.{File}
use Rattle.tap_world.specs.Scripts.{is_kind, kind_number, next_kind}
use Rattle.tap_world.specs.Setup.{Numbered, Setup}
use Rattle.tap_world.specs.Stands.{are_new, if_new, names_of}
use Rattle.tap_world.specs.Step.{effect, row, row_of, step, stepped}
use Rattle.tap_world.specs.World as come
use Rattle.tap_world.specs.World.{Actor, World, current}
use Rattle.tap_sound.proofs.Kit.{only_some, then_some}
use Rattle.core_shared.specs.Asking.{Asking, setup}
use Rattle.core_shared.specs.Coming.{come_of, onward_of, written_out}
use Rattle.core_shared.specs.Did.{IsLeft}
use Rattle.core_shared.specs.MayDo.{actor_at}
use Rattle.core_shared.specs.Steps.{EventsMakeSteps, event_of, world_on}
use Rattle.core_shared.specs.Worlds.{vhosts_of, world_in}
use Rattle.core_shared.specs.declared.doing.Doing.{Doing}
use Rattle.core_shared.specs.declared.onward.Onward.{Onward}
use Rattle.core_shared.specs.declared.shared.Shared.{Shared}
use Rattle.core_shared.proofs.Kit.{there}

-- ---- a command that stays goes on as it was

same_actor : (o : Onto) (seen : ℕ) (so_far : come.Doing) (script : List Numbered)
    → actor_after o (record { seen = seen; script = script; doing = so_far })
    ≡ actor_after (written_out seen so_far o) (record { seen = seen; script = script; doing = so_far })
same_actor (Goes now d found) seen so_far script = refl
same_actor (Ends now answer) seen so_far script = refl
same_actor (Stays found) seen so_far script = refl

same_said : (o : Onto) (seen : ℕ) (so_far : come.Doing) (phase actor command : ℕ)
    → said_after o phase actor command ≡ said_after (written_out seen so_far o) phase actor command
same_said (Goes now d found) seen so_far phase actor command = refl
same_said (Ends now answer) seen so_far phase actor command = refl
same_said (Stays found) seen so_far phase actor command = refl

same_heard : (o : Onto) (seen : ℕ) (so_far : come.Doing) (actor : ℕ) (e : Option Ending)
    → heard_by actor o e ≡ heard_by actor (written_out seen so_far o) e
same_heard (Goes now d found) seen so_far actor e = refl
same_heard (Ends now answer) seen so_far actor e = refl
same_heard (Stays found) seen so_far actor None = refl
same_heard (Stays found) seen so_far actor (Some e) = refl

-- ---- the row of the event

its_kind : (kind : EventKind) (next : Option EventKind) → next ≡ Some kind → is_kind kind next ≡ true
its_kind kind next e = ap (is_kind kind) e ∙ eq-eqb (kind_number kind) (kind_number kind) refl

both_true : (p q : Bool) → p ≡ true → q ≡ true → (p && q) ≡ true
both_true p q e h = ap (λ (b : Bool). b && q) e ∙ h

row_is_its : (a : Asking) (so_far : come.Doing) (kind : EventKind) (w : World) (rest : List Numbered) (r : Effect)
    → slice_get w.actors a.actor ≡ Some (actor_at a so_far rest)
    → next_kind w so_far a.command ≡ Some kind
    → row (setup a) w kind a.actor (actor_at a so_far rest) a.number a.command ≡ Some r
    → row_of (setup a) w (event_of a kind) ≡ Some r
row_is_its a so_far kind w rest r here next is_row =
    ap (λ (o : Option Actor). o >>= λ (y : Actor). current y.script >>= λ (c : Numbered).
    if c.number == a.number && is_kind kind (next_kind w y.doing c.command) then row (setup a) w kind a.actor y c.number c.command else None) here
    ∙ ap (λ (b : Bool). if b then row (setup a) w kind a.actor (actor_at a so_far rest) a.number a.command else None)
    (both_true (a.number == a.number) (is_kind kind (next_kind w so_far a.command)) (eq-eqb a.number a.number refl) (its_kind kind _ next))
    ∙ is_row

-- ---- the world after it

made : (a : Asking) (d : Doing) (r : Effect) (old new : Shared) (on : Onward) (rest : List Numbered) (actors : List Actor) (said : List Said)
    → IsLeft r a old new → written_out a.seen (come_of old.vhosts d) r.onward ≡ onward_of new.vhosts on
    → with_effect r a.actor (actor_at a (come_of old.vhosts d) rest) a.number (world_in old actors said)
    ≡ Some (world_on a d old new on rest actors said)
made a d r old new on rest actors said left onward =
    let so_far : come.Doing = come_of old.vhosts d in
    let now : Actor = actor_at a so_far rest in
    let built : List (Option File) → List (Option Guest) → World = λ files guests. record {
      ops = old.ops.ops ++ map (λ x. record { phase = old.phase; actor = a.actor; command = a.number; op = x }) r.ops;
      files = files;
      guests = guests;
      vhosts = vhosts_after r.vhosts (vhosts_of old.vhosts);
      hosted = old.hosted.items ++ r.hosts;
      dropped = old.dropped.items ++ r.drops;
      writer = r.writer;
      phase = old.phase;
      actors = with_nth a.actor (actor_after r.onward now) actors;
      said = said ++ said_after r.onward old.phase a.actor a.number;
    } in
    let actors_same : actor_after r.onward now ≡ actor_after (onward_of new.vhosts on) now =
    same_actor r.onward a.seen so_far now.script ∙ ap (λ (o : Onto). actor_after o now) onward in
    let said_same : said_after r.onward old.phase a.actor a.number ≡ said_after (onward_of new.vhosts on) new.phase a.actor a.number =
    same_said r.onward a.seen so_far old.phase a.actor a.number ∙ ap (λ (o : Onto). said_after o old.phase a.actor a.number) onward
    ∙ ap (λ (n : ℕ). said_after (onward_of new.vhosts on) n a.actor a.number) (sym left.phase) in
    let ops = sym left.ops in
    let hosted = sym left.hosted in
    let dropped = sym left.dropped in
    let writer = sym left.writer in
    let phase = sym left.phase in
    let vhosts = left.vhosts in
    let same : built (files_of new.files) new.guests ≡ world_on a d old new on rest actors said = λ i. record {
      ops = ops i;
      files = files_of new.files;
      guests = new.guests;
      vhosts = vhosts i;
      hosted = hosted i;
      dropped = dropped i;
      writer = writer i;
      phase = phase i;
      actors = with_nth a.actor (actors_same i) actors;
      said = said ++ said_same i;
    } in
    ap (λ (o : Option (List (Option File))). o >>= λ files. guests_after a.actor a.number r.guests old.guests >>= λ guests. Some (built files guests)) left.files
    ∙ ap (λ (o : Option (List (Option Guest))). o >>= λ guests. Some (built (files_of new.files) guests)) left.guests
    ∙ ap Some same

-- with the detach that ends by it, and what the event answers
landed : (a : Asking) (d : Doing) (kind : EventKind) (r : Effect) (old new : Shared) (on : Onward) (rest : List Numbered) (actors : List Actor)
    (said : List Said) → IsLeft r a old new → written_out a.seen (come_of old.vhosts d) r.onward ≡ onward_of new.vhosts on
    → stepped r (event_of a kind) (actor_at a (come_of old.vhosts d) rest) (world_in old actors said)
    ≡ Some (
      settled (world_on a d old new on rest actors said) (ending (world_on a d old new on rest actors said)),
      heard_by a.actor (onward_of new.vhosts on) (ending (world_on a d old new on rest actors said)),
    )
landed a d kind r old new on rest actors said left onward =
    let after : World = world_on a d old new on rest actors said in
    let heard : heard_by a.actor r.onward (ending after) ≡ heard_by a.actor (onward_of new.vhosts on) (ending after) =
    same_heard r.onward a.seen (come_of old.vhosts d) a.actor (ending after) ∙ ap (λ (o : Onto). heard_by a.actor o (ending after)) onward in
    ap (λ (o : Option World). o >>= λ v. Some (settled v (ending v), heard_by a.actor r.onward (ending v)))
    (made a d r old new on rest actors said left onward)
    ∙ ap (λ (h : Heard). Some (settled after (ending after), h)) heard

-- ---- the step

pub steps : EventsMakeSteps
steps a d kind old new on rest actors said did here allowed =
    let s : Setup = setup a in
    let w : World = world_in old actors said in
    let e : Event = event_of a kind in
    let r : Effect = did.effect in
    let is_row : row_of s w e ≡ Some r =
    row_is_its a (come_of old.vhosts d) kind w rest r here (did.has.is_next actors said) (did.has.is_row actors said rest) in
    let u = there (step s w e) allowed in
    let q = then_some (effect s w e) (λ x. slice_get w.actors e.actor >>= λ y. stepped x e y w) u.0 u.1 in
    let new_is : only_if (are_new w (names_of r)) r ≡ Some q.0 =
    sym (ap (λ (o : Option Effect). o >>= λ x. if_new w x) is_row) ∙ q.1 in
    let is_effect : effect s w e ≡ Some r = q.1 ∙ ap Some (sym (only_some (are_new w (names_of r)) r q.0 new_is).1) in
    let begins : step s w e ≡ stepped r e (actor_at a (come_of old.vhosts d) rest) w =
    ap (λ (o : Option Effect). o >>= λ x. slice_get w.actors e.actor >>= λ y. stepped x e y w) is_effect
    ∙ ap (λ (o : Option Actor). o >>= λ y. stepped r e y w) here in
    begins ∙ landed a d kind r old new on rest actors said did.left did.onward
