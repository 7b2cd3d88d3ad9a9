-- Every event keeps that a frame in hand is its owner's.
use Rattle.std.proofs.Common.{◌≡◌, ◌≢◌, ℕ, zero, suc, ◌+◌, List, [], ◌∷◌, take, Bool, true, false, Option, Some, None, inl, inr, ⊎_elim, refl, sym, ap, ◌∙◌, subst, true≢false}
use Rattle.std.specs.Prelude.{◌==◌, ◌&&◌, ◌||◌, drop, slice_get}
use Rattle.std.specs.List.{list_any}
use Rattle.std.proofs.Common.{eq-eqb}
use Rattle.std.proofs.lemmas.Bool.Decides.{eqb_tells}
use Rattle.tap_frame.specs.declared.name.Name.{Name}
use Rattle.tap_frame.specs.Frame.{FrameValue}
use Rattle.tap_ledger.specs.declared.fate.Fate.{Fate}
use Rattle.vring_turns.specs.RxTurn.{RxTurn}
use Rattle.scen_text.specs.declared.scenario.Phase.{Phase}
use Rattle.scen_text.specs.declared.scenario.Scenario.{Scenario}
use Rattle.scen_words.specs.declared.command.Command.{Command}
use Rattle.scen_words.specs.declared.command.Command.TheVariants as command
use Rattle.tap_world.specs.declared.event.Event.{Event}
use Rattle.tap_world.specs.declared.event.EventKind.{EventKind}
use Rattle.tap_world.specs.declared.event.EventKind.TheVariants as event
use Rattle.tap_world.specs.declared.event.Heard.{Heard}
use Rattle.tap_world.specs.ByNumber.{at, with_at}
use Rattle.tap_world.specs.Setup.{Numbered, Setup, setup_of}
use Rattle.tap_world.specs.Line.{File}
use Rattle.tap_world.specs.LineSteps.{Change, changed}
use Rattle.tap_world.specs.LineSteps.Change.{Leaves, Owned, PutsBack, Takes}
use Rattle.tap_world.specs.World.{Actor, Doing, World, current, newest}
use Rattle.tap_world.specs.World.Doing.{Begun, Purges, Receives}
use Rattle.tap_world.specs.Effect.{Effect, Ending, OnFiles, Onward, actor_after, ended, files_after}
use Rattle.tap_world.specs.Effect.OnFiles.{NoFile, OnFile}
use Rattle.tap_world.specs.Scripts.{is_kind, next_kind}
use Rattle.tap_world.specs.Step.{row, step}
use Rattle.tap_world.specs.Each.{EachActor, EachFile}
use Rattle.tap_world.specs.SoundActors.{CanBe, can_be}
use Rattle.tap_world.specs.SoundRings.{is_about}
use Rattle.vring_turns.specs.Stage.{has_in_hand}
use Rattle.tap_world.specs.Sound.{HandIsOwners, InThreeParts, front_name, holds_name, is_receiving, is_serving}
use Rattle.tap_world.specs.Runs.{begins, has_ended, opening, run, run_phases}
use Rattle.tap_sound.specs.Worlds.{IsWorldOf}
use Rattle.tap_sound.proofs.Kit.{some_same, then_some, where_some}
use Rattle.tap_sound.proofs.Scripts.{effect_actors, ended_each}
use Rattle.tap_sound.proofs.Kept.{effect_files, parts_are_kept}
use Rattle.tap_sound.proofs.NamesTimes.{same_self}
use Rattle.tap_sound.proofs.Claims.{with_at_inv}
use Rattle.tap_sound.proofs.Stand.{stands_are_kept, stands_at}
use Rattle.tap_sound.proofs.Whole.{begun_rest, run_rests}
use Rattle.tap_sound.proofs.Reached.{declared, new_stands}
use Rattle.tap_sound.proofs.Taken.{IsEnding, IsStep, both, if_some, step_is, when_settled, with_nth_get}
use Rattle.tap_sound.proofs.FileRows.{IsOf, Makes, row_makes}
use Rattle.tap_sound.proofs.HandTurns.{Frees, GoesHeld, Keeps, TakesBy, hands_take, row_keeps}
use Rattle.tap_sound.proofs.HandFiles.{Fronts, InHand, in_hand}

-- ---- who serves a file

abbrev Serves : List Actor → ℕ → ℕ → Name → Type 0
Serves actors vhost file n = (i : ℕ) × (a : Actor) × (slice_get actors i ≡ Some a) × (is_serving vhost file n a ≡ true)

serves_is : (vhost file : ℕ) (n : Name) (actors : List Actor) → list_any (is_serving vhost file n) actors ≡ true → Serves actors vhost file n
serves_is vhost file n [] e = absurd (true≢false (sym e))
serves_is vhost file n (x ∷ xs) e = go (is_serving vhost file n x) refl e (serves_is vhost file n xs)
  where
    go : (b : Bool) → is_serving vhost file n x ≡ b → (b || list_any (is_serving vhost file n) xs) ≡ true
        → (list_any (is_serving vhost file n) xs ≡ true → Serves xs vhost file n) → Serves (x ∷ xs) vhost file n
    go true is h rest = (0, x, refl, is)
    go false is h rest = let r = rest h in (suc r.0, r.1, r.2, r.3)

serves_of : (vhost file : ℕ) (n : Name) (actors : List Actor) (i : ℕ) (a : Actor) → slice_get actors i ≡ Some a → is_serving vhost file n a ≡ true
    → list_any (is_serving vhost file n) actors ≡ true
serves_of vhost file n [] i a at is = absurd (cc (at))
serves_of vhost file n (x ∷ xs) zero a at is =
    ap (λ (b : Bool). b || list_any (is_serving vhost file n) xs) (ap (is_serving vhost file n) (some_same x a at) ∙ is)
serves_of vhost file n (x ∷ xs) (suc i) a at is = go (is_serving vhost file n x) (serves_of vhost file n xs i a at is)
  where
    go : (b : Bool) → list_any (is_serving vhost file n) xs ≡ true → (b || list_any (is_serving vhost file n) xs) ≡ true
    go true h = refl
    go false h = h

-- a turn on the file with this frame in hand
receiving : (file : ℕ) (n : Name) (d : Doing) → is_receiving file n d ≡ true → (t : RxTurn) × (d ≡ Receives file t) × (has_in_hand t.stage ≡ true) × (holds_name n t.held ≡ true)
receiving file n (Receives other t) e =
    let a = both (other == file && has_in_hand t.stage) (holds_name n t.held) e in
    let b = both (other == file) (has_in_hand t.stage) a.0 in (
      t,
      ap (λ k. Receives k t) (⊎_elim (λ p. p.1) (λ p. absurd (true≢false (sym b.0 ∙ p.0))) (eqb_tells other file)),
      b.1,
      a.1,
    )
receiving file n d e = absurd (true≢false (sym e))

receives : (file : ℕ) (n : Name) (t : RxTurn) → has_in_hand t.stage ≡ true → holds_name n t.held ≡ true → is_receiving file n (Receives file t) ≡ true
receives file n t h k =
    ap (λ (b : Bool). b && has_in_hand t.stage && holds_name n t.held) (eq-eqb file file refl) ∙ ap (λ (b : Bool). b && holds_name n t.held) h ∙ k

serving : (vhost file : ℕ) (n : Name) (a : Actor) → is_receiving file n a.doing ≡ true → is_about vhost 0 (current a.script) ≡ true → is_serving vhost file n a ≡ true
serving vhost file n a x y = ap (λ (b : Bool). b && is_about vhost 0 (current a.script)) x ∙ y

-- the actor after an event by which it keeps the frame in hand
held_after : (file : ℕ) (n : Name) (held : Option FrameValue) (o : Onward) (a : Actor) → GoesHeld file held o → holds_name n held ≡ true
    → (is_receiving file n (actor_after o a).doing ≡ true) × ((actor_after o a).script ≡ a.script)
held_after file n held o a h k =
    subst (λ (q : Onward). (is_receiving file n (actor_after q a).doing ≡ true) × ((actor_after q a).script ≡ a.script)) (sym h.3)
    (receives file n h.1 h.4 (ap (holds_name n) h.5 ∙ k), refl)

-- ---- an event of the actor that serves

record KeepsIt (file : ℕ) (n : Name) (r : Effect) : Type 0 where
  held : Option FrameValue
  is : holds_name n held ≡ true
  keeps : Keeps file held r

own_keeps : (s : Setup) (w : World) (x : Event) (u : World) (t : IsStep s w x u) (file : ℕ) (n : Name) → is_receiving file n t.actor.doing ≡ true → KeepsIt file n t.effect
own_keeps s w x u t file n e =
    let r = receiving file n t.actor.doing e in
    let next : is_kind x.kind (next_kind w (Receives file r.0) t.now.command) ≡ true =
    subst (λ (d : Doing). is_kind x.kind (next_kind w d t.now.command) ≡ true) r.1 t.next in
    let made : row s w x.kind x.actor (record { seen = t.actor.seen; script = t.actor.script; doing = Receives file r.0 }) t.now.number t.now.command ≡ Some t.effect =
    subst (λ (d : Doing). row s w x.kind x.actor (record { seen = t.actor.seen; script = t.actor.script; doing = d }) t.now.number t.now.command ≡ Some t.effect) r.1 t.is_row in
    record {
      held = r.0.held;
      is = r.3;
      keeps = where_some (Keeps file r.0.held) _ t.effect
          (row_keeps s w x.kind x.actor t.actor.seen t.actor.script t.now.number file r.0 t.now.command r.0.stage refl r.2 next) made;
    }

serves_on : (s : Setup) (w : World) (x : Event) (u : World) (t : IsStep s w x u) (vhost file : ℕ) (n : Name) → (Frees file t.effect.files → ⊥)
    → Serves w.actors vhost file n → Serves t.between.actors vhost file n
serves_on s w x u t vhost file n kept h =
    let actors = effect_actors t.effect x.actor t.actor x.command w t.between t.made in
    ⊎_elim
    (λ same.
    let mine : h.1 ≡ t.actor = sym (some_same t.actor h.1 (sym t.found ∙ ap (slice_get w.actors) same.0 ∙ h.2)) in
    let b = both (is_receiving file n h.1.doing) (is_about vhost 0 (current h.1.script)) h.3 in
    let k = own_keeps s w x u t file n (ap (λ (q : Actor). is_receiving file n q.doing) (sym mine) ∙ b.0) in
    ⊎_elim
    (λ goes.
    let after_ = held_after file n k.held t.effect.onward t.actor goes k.is in (
      h.0,
      actor_after t.effect.onward t.actor,
      ap (λ (q : List Actor). slice_get q h.0) actors ∙ same.1,
      serving vhost file n (actor_after t.effect.onward t.actor) after_.0
          (ap (λ (q : List Numbered). is_about vhost 0 (current q)) after_.1 ∙ ap (λ (q : Actor). is_about vhost 0 (current q.script)) (sym mine) ∙ b.1),
    ))
    (λ frees. absurd (kept frees)) k.keeps)
    (λ other. (h.0, h.1, ap (λ (q : List Actor). slice_get q h.0) actors ∙ other.1, h.3))
    (with_nth_get x.actor (actor_after t.effect.onward t.actor) w.actors h.0 h.1 h.2)

-- ---- the event that takes a frame in hand

abbrev TheTaker : ℕ → OnFiles → Type 0
TheTaker vhost o = (file : ℕ) × (o ≡ OnFile file (Takes vhost))

abbrev takers : (o : OnFiles) → ℕ → ℕ
takers (OnFile file (Takes vhost)) other = vhost
takers o other = other

abbrev files_of : (o : OnFiles) → ℕ → ℕ
files_of (OnFile file c) other = file
files_of NoFile other = other

about_itself : (vhost : ℕ) → (vhost == vhost && 0 == 0) ≡ true
about_itself vhost = ap (λ (b : Bool). b && 0 == 0) (eq-eqb vhost vhost refl)

-- the file has its front in hand, and the worker has that frame
record FrontServed (actors : List Actor) (vhost file : ℕ) (g : File) : Type 0 where
  name : Name
  front : front_name g.line ≡ Some name
  serves : Serves actors vhost file name

takes_serves : (s : Setup) (w : World) (x : Event) (u : World) (t : IsStep s w x u) (vhost file : ℕ) (f g : File) → can_be t.actor.doing t.now.command ≡ true
    → at w.files file ≡ Some f → changed (Takes vhost) f ≡ Some g → t.effect.files ≡ OnFile file (Takes vhost) → FrontServed t.between.actors vhost file g
takes_serves s w x u t vhost file f g can here ch is =
    let kind : x.kind ≡ event.Hand =
    subst (λ (o : OnFiles). IsOf x.kind o) is (where_some (Makes x.kind) _ t.effect (row_makes s w x.kind x.actor t.actor t.now.number t.now.command) t.is_row) in
    let by : TakesBy w t.now.command t.effect =
    where_some (TakesBy w t.now.command) _ t.effect
    (hands_take s w x.actor t.actor.seen t.actor.doing t.now.command can (subst (λ (k : EventKind). is_kind k (next_kind w t.actor.doing t.now.command) ≡ true) kind t.next))
    (subst (λ (k : EventKind). row s w k x.actor t.actor t.now.number t.now.command ≡ Some t.effect) kind t.is_row) in
    let vhosts : by.vhost ≡ vhost = ap (λ o. takers o 0) (sym by.files ∙ is) in
    let files : by.file ≡ file = ap (λ o. files_of o 0) (sym by.files ∙ is) in
    let was : f ≡ by.before = some_same f by.before (sym here ∙ ap (at w.files) (sym files) ∙ by.found) in
    let now : g ≡ by.now = some_same g by.now (sym ch ∙ ap (λ (v : ℕ). changed (Takes v) f) (sym vhosts) ∙ ap (changed (Takes by.vhost)) was ∙ by.changes) in
    let n : Name = by.frame.name in
    let after_ = held_after by.file n (Some by.frame) t.effect.onward t.actor by.goes (same_self n) in
    let about : is_about vhost 0 (current t.actor.script) ≡ true =
    ap (λ (o : Option Numbered). is_about vhost 0 o) t.current_is ∙ ap (λ (c : Command). is_about vhost 0 (Some (record { number = t.now.number; command = c }))) (by.asked ∙ ap command.RxTurn vhosts)
    ∙ about_itself vhost in
    record {
      name = n;
      front = ap (λ (q : File). front_name q.line) now ∙ by.front;
      serves = ⊎_elim
          (λ mine. (
            x.actor,
            actor_after t.effect.onward t.actor,
            ap (λ (q : List Actor). slice_get q x.actor) (effect_actors t.effect x.actor t.actor x.command w t.between t.made) ∙ mine.1,
            serving vhost file n (actor_after t.effect.onward t.actor) (subst (λ k. is_receiving k n (actor_after t.effect.onward t.actor).doing ≡ true) files after_.0)
                (ap (λ (q : List Numbered). is_about vhost 0 (current q)) after_.1 ∙ about),
          ))
          (λ other. absurd (other.0 refl))
          (with_nth_get x.actor (actor_after t.effect.onward t.actor) w.actors x.actor t.actor t.found);
    }

-- ---- files

abbrev Owners : World → ℕ → File → Type 0
Owners v file f = HandIsOwners v file f

none_held : (o : Option ℕ) (vhost : ℕ) → o ≡ None → o ≡ Some vhost → ⊥
none_held o vhost a b = cc (a, b)

never_frees : (file other : ℕ) (c : Change) → ((worker : Option ℕ) (f : Fate) → c ≡ Leaves worker f → ⊥) → ((vhost : ℕ) → c ≡ PutsBack vhost → ⊥)
    → Frees file (OnFile other c) → ⊥
never_frees file other c leaves puts (inl p) = leaves p.0 p.1 (ap (λ o. change_in o c) p.2)
  where
    change_in : OnFiles → Change → Change
    change_in (OnFile n d) e = d
    change_in NoFile e = e
never_frees file other c leaves puts (inr p) = puts p.0 (ap (λ o. change_in o c) p.1)
  where
    change_in : OnFiles → Change → Change
    change_in (OnFile n d) e = d
    change_in NoFile e = e

-- a file on which the frame stays in hand
stays_held : (s : Setup) (w : World) (x : Event) (u : World) (t : IsStep s w x u) (file : ℕ) (f g : File) → (f.hand ≡ g.hand) × (f.owner ≡ g.owner) × Fronts f.line g.line
    → InThreeParts f.line → (Frees file t.effect.files → ⊥) → HandIsOwners w file f → HandIsOwners t.between file g
stays_held s w x u t file f g was parts kept h vhost held =
    let b = h vhost (was.0 ∙ held) in
    let q = serves_on s w x u t vhost file b.1 kept (serves_is vhost file b.1 w.actors b.3) in
    (sym was.1 ∙ b.0, b.1, was.2 parts b.1 b.2, serves_of vhost file b.1 t.between.actors q.0 q.1 q.2 q.3)

changed_hand : (s : Setup) (w : World) (x : Event) (u : World) (t : IsStep s w x u) (file : ℕ) (c : Change) (f g : File) → can_be t.actor.doing t.now.command ≡ true
    → at w.files file ≡ Some f → changed c f ≡ Some g → t.effect.files ≡ OnFile file c → InHand c f g → InThreeParts f.line → HandIsOwners w file f → HandIsOwners t.between file g
changed_hand s w x u t file (Takes vhost) f g can here ch is now parts h other held =
    let same : vhost ≡ other = some_same vhost other (sym now.0 ∙ held) in
    let q = takes_serves s w x u t vhost file f g can here ch is in (
      now.1 ∙ ap Some same,
      q.name,
      q.front,
      subst (λ k. list_any (is_serving k file q.name) t.between.actors ≡ true) same
          (serves_of vhost file q.name t.between.actors q.serves.0 q.serves.1 q.serves.2 q.serves.3),
    )
changed_hand s w x u t file (PutsBack vhost) f g can here ch is now parts h other held = absurd (none_held g.hand other now held)
changed_hand s w x u t file (Leaves worker fate) f g can here ch is now parts h other held = absurd (none_held g.hand other now held)
changed_hand s w x u t file (Owned owner) f g can here ch is now parts h other held = absurd (none_held g.hand other now held)
changed_hand s w x u t file c f g can here ch is now parts h other held = stays_held s w x u t file f g now parts
    (λ frees. never_frees file file c (λ worker y e. cc (e)) (λ vhost e. cc (e)) (subst (Frees file) is frees)) h other held

elsewhere : (file other : ℕ) (c : Change) → other ≢ file → Frees file (OnFile other c) → ⊥
elsewhere file other c apart (inl p) = apart (ap (λ o. files_of o file) p.2)
elsewhere file other c apart (inr p) = apart (ap (λ o. files_of o file) p.1)

nowhere : (file : ℕ) → Frees file NoFile → ⊥
nowhere file (inl p) = cc (p.2)
nowhere file (inr p) = cc (p.1)

hand_between : (s : Setup) (w : World) (x : Event) (u : World) (t : IsStep s w x u) → can_be t.actor.doing t.now.command ≡ true → EachFile w (λ file f. InThreeParts f.line)
    → EachFile w (HandIsOwners w) → (o : OnFiles) → t.effect.files ≡ o → files_after o w.files ≡ Some t.between.files → EachFile t.between (HandIsOwners t.between)
hand_between s w x u t can parts each NoFile is after_ file g here =
    let there = ap (λ (q : List (Option File)). at q file) (some_same w.files t.between.files after_) ∙ here in
    stays_held s w x u t file g g (refl, refl, λ p n b. b) (parts file g there) (λ frees. nowhere file (subst (Frees file) is frees)) (each file g there)
hand_between s w x u t can parts each (OnFile file0 c) is after_ file g here =
    let f = then_some (at w.files file0) _ t.between.files after_ in
    let h = then_some (changed c f.0) _ t.between.files f.2 in
    let files : with_at file0 h.0 w.files ≡ t.between.files = some_same _ t.between.files h.2 in
    ⊎_elim
    (λ same.
    subst (λ (n : ℕ). HandIsOwners t.between n g) same.0
    (subst (λ (q : File). HandIsOwners t.between file0 q) same.1
    (changed_hand s w x u t file0 c f.0 h.0 can f.1 h.1 is (in_hand c f.0 h.0 h.1) (parts file0 f.0 f.1) (each file0 f.0 f.1))))
    (λ other. stays_held s w x u t file g g (refl, refl, λ p n b. b) (parts file g other.1) (λ frees. elsewhere file file0 c other.0 (subst (Frees file) is frees)) (each file g other.1))
    (with_at_inv file0 h.0 w.files file g (ap (λ (q : List (Option File)). at q file) files ∙ here))

not_serving : (vhost file version other : ℕ) (n : Name) (a : Actor) → a.doing ≡ Purges other version → is_serving vhost file n a ≡ true → ⊥
not_serving vhost file version other n a doing e =
    let b = both (is_receiving file n a.doing) (is_about vhost 0 (current a.script)) e in
    true≢false (sym b.0 ∙ ap (is_receiving file n) doing)

purge_hand : (v : World) (e : Ending) → IsEnding v e → EachFile v (HandIsOwners v) → EachFile (ended e v) (HandIsOwners (ended e v))
purge_hand v e end each file g here vhost held =
    let b = each file g here vhost held in
    let q = serves_is vhost file b.1 v.actors b.3 in
    ⊎_elim
    (λ same.
    let mine : e.state ≡ q.1 = some_same e.state q.1 (sym end.found ∙ ap (slice_get v.actors) same.0 ∙ q.2) in
    absurd (not_serving vhost file e.version end.file b.1 e.state end.doing (ap (is_serving vhost file b.1) mine ∙ q.3)))
    (λ other. (b.0, b.1, b.2, serves_of vhost file b.1 _ q.0 q.1 other.1 q.3))
    (with_nth_get e.actor (record e.state { script = drop 1 e.state.script; doing = Begun }) v.actors q.0 q.1 q.2)

pub hand_is_kept : (s : Setup) (w : World) (x : Event) (u : World × Heard) → step s w x ≡ Some u → EachActor w (λ actor a. CanBe a)
    → EachFile w (λ file f. InThreeParts f.line) → EachFile w (HandIsOwners w) → EachFile u.0 (HandIsOwners u.0)
hand_is_kept s w x u e stand parts each =
    let t = step_is s w x u e in
    let can : can_be t.actor.doing t.now.command ≡ true = stands_at t.actor t.now t.current_is (stand x.actor t.actor t.found) in
    let between = hand_between s w x u.0 t can parts each t.effect.files refl (effect_files t.effect x.actor t.actor x.command w t.between t.made) in
    subst (λ (q : World). EachFile q (HandIsOwners q)) t.is
    (when_settled (λ (q : World). EachFile q (HandIsOwners q)) t.between between (λ f end. purge_hand t.between f end between))

-- ---- runs

abbrev IsHeld : World → Type 0
IsHeld w = EachActor w (λ actor a. CanBe a) × EachFile w (λ file f. InThreeParts f.line) × EachFile w (HandIsOwners w)

run_held : (s : Setup) (es : List Event) (w v : World) → run s es w ≡ Some v → IsHeld w → IsHeld v
run_held s [] w v e h = subst IsHeld (some_same w v e) h
run_held s (x ∷ es) w v e h =
    let t = then_some (step s w x) _ v e in
    run_held s es t.0.0 v t.2 (stands_are_kept s w x t.0 t.1 h.0, parts_are_kept s w x t.0 t.1 h.1, hand_is_kept s w x t.0 t.1 h.0 h.1 h.2)

abbrev IsStill : World → Type 0
IsStill w = (i : ℕ) (a : Actor) → slice_get w.actors i ≡ Some a → a.doing ≡ Begun

still_serving : (vhost file : ℕ) (n : Name) (a : Actor) → a.doing ≡ Begun → is_serving vhost file n a ≡ true → ⊥
still_serving vhost file n a doing e =
    let b = both (is_receiving file n a.doing) (is_about vhost 0 (current a.script)) e in
    true≢false (sym b.0 ∙ ap (is_receiving file n) doing)

begins_held : (number : ℕ) (p : Phase) (w : World) → IsHeld w → IsStill w → IsHeld (begins number p w)
begins_held number p w h still = (
  λ i a at_. new_stands p (newest w) 0 p.actors i a at_,
  h.1,
  λ file f at_ vhost held.
      let b = h.2 file f at_ vhost held in
      let q = serves_is vhost file b.1 w.actors b.3 in
      absurd (still_serving vhost file b.1 q.1 (still q.0 q.1 q.2) q.3),
)

no_actor : (i : ℕ) (a : Actor) → slice_get {X = Actor} [] i ≡ Some a → ⊥
no_actor i a h = cc (h)

opening_held : (s : Setup) → IsHeld (opening s)
opening_held s = (
  λ i a at_. absurd (no_actor i a at_),
  λ file f at_. let d = declared s.files file f at_ in subst (λ (q : File). InThreeParts q.line) d.2 tt,
  λ file f at_ vhost held. let d = declared s.files file f at_ in absurd (none_held f.hand vhost (ap (λ (q : File). q.hand) (sym d.2)) held),
)

abbrev Rested : World → Type 0
Rested w = IsHeld w × IsStill w

phases_held : (s : Setup) (number : ℕ) (ps : List Phase) (es : List (List Event)) (w v : World) → run_phases s number ps es w ≡ Some v
    → Rested w → Rested v
phases_held s number [] [] w v e h = subst Rested (some_same w v e) h
phases_held s number [] (d ∷ ds) w v e h = absurd (cc (e))
phases_held s number (p ∷ ps) [] w v e h = absurd (cc (e))
phases_held s number (p ∷ ps) (es ∷ more) w v e h =
    let t = then_some (run s es (begins number p w)) _ v e in
    let c = if_some (has_ended t.0) _ v t.2 in
    let rest = run_rests s es (begins number p w) t.0 t.1 (begun_rest p (newest w) 0 p.actors) in
    phases_held s (number + 1) ps more t.0 v c.1
    (run_held s es (begins number p w) t.0 t.1 (begins_held number p w h.0 h.1), λ i a at_. rest i a at_ (ended_each t.0.actors i a c.0 at_))

pub hand_in_runs : (s : Scenario) (w : World) → IsWorldOf s w → EachFile w (HandIsOwners w)
hand_in_runs s w r =
    let before = phases_held (setup_of s) 0 (take r.ended s.phases) r.is_before.events (opening (setup_of s)) r.before r.is_before.is
    (opening_held (setup_of s), λ i a at_. absurd (no_actor i a at_)) in
    ⊎_elim (λ is. subst (λ (q : World). EachFile q (HandIsOwners q)) (sym is) before.0.2)
    (λ p. (run_held (setup_of s) p.so_far (begins r.ended p.phase r.before) w p.is (begins_held r.ended p.phase r.before before.0 before.1)).2) r.now
