-- What every event keeps of every file.
use Rattle.std.proofs.Common.{◌≡◌, ℕ, suc, ◌+◌, ◌≤◌, List, [], ◌∷◌, ◌++◌, length, map, true, false, true≢false, Option, Some, refl, sym, ap, ◌∙◌, subst, arith, length-append}
use Rattle.std.specs.Prelude.{drop, slice_get}
use Rattle.tap_world.specs.declared.event.Event.{Event}
use Rattle.tap_world.specs.declared.event.Heard.{Heard}
use Rattle.tap_world.specs.ByNumber.{at, with_nth}
use Rattle.tap_world.specs.Setup.{Setup}
use Rattle.tap_world.specs.Line.{File}
use Rattle.tap_world.specs.LineSteps.{Change, changed}
use Rattle.tap_steer.specs.declared.operation.Op.{Op}
use Rattle.tap_steer.specs.After.{after_all}
use Rattle.tap_world.specs.declared.event.EventKind.{EventKind}
use Rattle.tap_world.specs.declared.event.EventKind.TheVariants as event
use Rattle.tap_world.specs.Setup.{opening_table}
use Rattle.tap_world.specs.World.Doing.{Begun}
use Rattle.tap_world.specs.declared.told.Published.{Published}
use Rattle.tap_world.specs.World.{Actor, World, newest, table}
use Rattle.tap_world.specs.Effect.{Effect, OnFiles, Onward, actor_after, files_after, guests_after, with_effect}
use Rattle.tap_world.specs.Effect.Onward.{Ends, Goes, Stays}
use Rattle.tap_world.specs.Effect.OnFiles.{NoFile, OnFile}
use Rattle.tap_world.specs.Step.{step}
use Rattle.tap_world.specs.Each.{EachActor, EachFile}
use Rattle.tap_world.specs.Sound.{HasEpochs, HasRoom, HasSeen, InThreeParts, IsOrdered, table_capacity}
use Rattle.tap_sound.specs.Kept.{leaves_sizes}
use Rattle.tap_sound.proofs.Kit.{some_same, then_some, where_some}
use Rattle.tap_sound.proofs.Scripts.{effect_actors}
use Rattle.tap_sound.proofs.Tame.{HasGoodFate, HasSeenTo, IsTame, KeepsSize}
use Rattle.tap_sound.proofs.TameRows.{is_publish, is_resize, row_is_tame}
use Rattle.tap_sound.proofs.Taken.{IsStep, each_with_at, each_with_nth, step_is, when_settled}
use Rattle.tap_sound.proofs.Files.{Course, course, course_epochs, course_ordered, course_parts, course_room, fair}

abbrev pub EachOf : (ℕ → File → Type 0) → List (Option File) → Type 0
EachOf P files = (file : ℕ) (f : File) → at files file ≡ Some f → P file f

files_keep : (P : ℕ → File → Type 0) (o : OnFiles) (files after : List (Option File))
    → ((file : ℕ) (c : Change) (f g : File) → o ≡ OnFile file c → changed c f ≡ Some g → P file f → P file g)
    → files_after o files ≡ Some after → EachOf P files → EachOf P after
files_keep P NoFile files after keep e each = subst (EachOf P) (some_same files after e) each
files_keep P (OnFile file c) files after keep e each =
    let f = then_some (at files file) _ after e in
    let g = then_some (changed c f.0) _ after f.2 in
    subst (EachOf P) (some_same _ after g.2) (each_with_at P file g.0 files each (keep file c f.0 g.0 refl g.1 (each file f.0 f.1)))

-- the files after an effect
pub effect_files : (r : Effect) (actor : ℕ) (a : Actor) (n : ℕ) (w v : World) → with_effect r actor a n w ≡ Some v → files_after r.files w.files ≡ Some v.files
effect_files r actor a n w v e =
    let f = then_some (files_after r.files w.files) _ v e in
    let g = then_some (guests_after actor n r.guests w.guests) _ v f.2 in
    f.1 ∙ ap (λ (x : World). Some x.files) (some_same _ v g.2)

-- what the changes of files keep, every event keeps
pub step_keeps : (P : ℕ → File → Type 0) (s : Setup) (w : World) (x : Event) (u : World) → (t : IsStep s w x u)
    → ((file : ℕ) (c : Change) (f g : File) → t.effect.files ≡ OnFile file c → changed c f ≡ Some g → P file f → P file g)
    → EachFile w P → EachFile u P
step_keeps P s w x u t keep each =
    let between : EachOf P t.between.files = files_keep P t.effect.files w.files t.between.files keep
    (effect_files t.effect x.actor t.actor x.command w t.between t.made) each in
    subst (λ (q : World). EachOf P q.files) t.is (when_settled (λ (q : World). EachOf P q.files) t.between between (λ e end. between))

pub every_event_keeps : (P : File → Type 0) → ((f g : File) → Course f g → P f → P g) → (s : Setup) (w : World) (x : Event) (u : World × Heard)
    → step s w x ≡ Some u → EachFile w (λ file f. P f) → EachFile u.0 (λ file f. P f)
every_event_keeps P keep s w x u e each =
    step_keeps (λ file f. P f) s w x u.0 (step_is s w x u e) (λ file c f g o h. keep f g (course c f g h)) each

pub epochs_are_kept : (s : Setup) (w : World) (x : Event) (u : World × Heard) → step s w x ≡ Some u
    → EachFile w (λ file f. HasEpochs f) → EachFile u.0 (λ file f. HasEpochs f)
epochs_are_kept s w x u e each = every_event_keeps HasEpochs course_epochs s w x u e each

pub parts_are_kept : (s : Setup) (w : World) (x : Event) (u : World × Heard) → step s w x ≡ Some u
    → EachFile w (λ file f. InThreeParts f.line) → EachFile u.0 (λ file f. InThreeParts f.line)
parts_are_kept s w x u e each = every_event_keeps (λ (f : File). InThreeParts f.line) course_parts s w x u e each

pub lines_are_kept : (s : Setup) (w : World) (x : Event) (u : World × Heard) → step s w x ≡ Some u
    → EachFile w (λ file f. IsOrdered f) → EachFile u.0 (λ file f. IsOrdered f)
lines_are_kept s w x u e each = every_event_keeps IsOrdered course_ordered s w x u e each

-- ---- the operations after an effect

pub effect_ops : (r : Effect) (actor : ℕ) (a : Actor) (n : ℕ) (w v : World) → with_effect r actor a n w ≡ Some v
    → v.ops ≡ w.ops ++ map (λ (y : Op). record { phase = w.phase; actor = actor; command = n; op = y }) r.ops
effect_ops r actor a n w v e =
    let f = then_some (files_after r.files w.files) _ v e in
    let g = then_some (guests_after actor n r.guests w.guests) _ v f.2 in
    ap (λ (y : World). y.ops) (sym (some_same _ v g.2))

mapped_length : {A B : Type 0} (f : A → B) (xs : List A) → length (map f xs) ≡ length xs
mapped_length f [] = refl
mapped_length f (x ∷ xs) = ap suc (mapped_length f xs)

with_none : {A : Type 0} (xs : List A) → xs ++ [] ≡ xs
with_none [] = refl
with_none (x ∷ xs) = ap (λ (ys : List _). x ∷ ys) (with_none xs)

newest_between : (s : Setup) (w : World) (x : Event) (u : World) (t : IsStep s w x u) → newest t.between ≡ newest w + length t.effect.ops
newest_between s w x u t =
    ap (λ (ops : List Published). length ops) (effect_ops t.effect x.actor t.actor x.command w t.between t.made)
    ∙ length-append w.ops (map (λ (y : Op). record { phase = w.phase; actor = x.actor; command = x.command; op = y }) t.effect.ops)
    ∙ ap (λ (n : ℕ). newest w + n) (mapped_length (λ (y : Op). record { phase = w.phase; actor = x.actor; command = x.command; op = y }) t.effect.ops)

tame : (s : Setup) (w : World) (x : Event) (u : World) (t : IsStep s w x u) → EachActor w (HasSeen w) → IsTame w (is_publish x.kind) (is_resize x.kind) t.effect
tame s w x u t seen =
    let le = seen x.actor t.actor t.found in
    where_some (IsTame w (is_publish x.kind) (is_resize x.kind)) _ t.effect
    (row_is_tame s w x.kind x.actor t.actor t.now.number t.now.command (omega (arith, le))) t.is_row

-- ---- versions

seen_after : (o : Onward) (a : Actor) (n m : ℕ) → a.seen ≤ n → n ≤ m → HasSeenTo m o → (actor_after o a).seen ≤ m
seen_after (Goes seen d f) a n m le more h = h
seen_after (Ends seen y) a n m le more h = h
seen_after (Stays f) a n m le more h = omega (arith, le, more)

abbrev SeenIn : List Actor → ℕ → Type 0
SeenIn actors n = (i : ℕ) (a : Actor) → slice_get actors i ≡ Some a → a.seen ≤ n

pub versions_are_kept : (s : Setup) (w : World) (x : Event) (u : World × Heard) → step s w x ≡ Some u
    → EachActor w (HasSeen w) → EachActor u.0 (HasSeen u.0)
versions_are_kept s w x u e seen =
    let t = step_is s w x u e in
    let n : newest t.between ≡ newest w + length t.effect.ops = newest_between s w x u.0 t in
    let h = tame s w x u.0 t seen in
    let m : ℕ = newest w + length t.effect.ops in
    let more : newest w ≤ m = omega arith in
    let le : t.actor.seen ≤ newest w = seen x.actor t.actor t.found in
    let after : SeenIn (with_nth x.actor (actor_after t.effect.onward t.actor) w.actors) m =
    each_with_nth (λ i a. a.seen ≤ m) x.actor (actor_after t.effect.onward t.actor) w.actors
    (λ i a at. let q = seen i a at in omega (arith, q, more)) (seen_after t.effect.onward t.actor (newest w) m le more h.3) in
    let between : SeenIn t.between.actors (newest t.between) =
    subst (λ (k : ℕ). SeenIn t.between.actors k) (sym n)
    (subst (λ (actors : List Actor). SeenIn actors m) (sym (effect_actors t.effect x.actor t.actor x.command w t.between t.made)) after) in
    subst (λ (q : World). SeenIn q.actors (newest q)) t.is
    (when_settled (λ (q : World). SeenIn q.actors (newest q)) t.between between
    (λ f end. each_with_nth (λ i a. a.seen ≤ newest t.between) f.actor (record f.state { script = drop 1 f.state.script; doing = Begun }) t.between.actors between
    (between f.actor f.state end.found)))

-- ---- room

sizes_left : (k : EventKind) → leaves_sizes k ≡ true → (is_publish k ≡ false) × (is_resize k ≡ false)
sizes_left event.Publish e = absurd (true≢false (sym e))
sizes_left event.Resize e = absurd (true≢false (sym e))
sizes_left k e = (refl, refl)

pub same_table : (s : Setup) (w : World) (x : Event) (u : World) (t : IsStep s w x u) → t.effect.ops ≡ [] → table s u ≡ table s w
same_table s w x u t none =
    let between : t.between.ops ≡ w.ops = effect_ops t.effect x.actor t.actor x.command w t.between t.made
    ∙ ap (λ (ops : List Op). w.ops ++ map (λ (y : Op). record { phase = w.phase; actor = x.actor; command = x.command; op = y }) ops) none ∙ with_none w.ops in
    let after : u.ops ≡ w.ops = subst (λ (q : World). q.ops ≡ w.ops) t.is
    (when_settled (λ (q : World). q.ops ≡ w.ops) t.between between (λ f end. between)) in
    ap (λ (ops : List Published). after_all (opening_table s) (map (λ (p : Published). p.op) ops)) after

pub room_is_kept : (s : Setup) (w : World) (x : Event) (u : World × Heard) → step s w x ≡ Some u → leaves_sizes x.kind ≡ true
    → EachActor w (HasSeen w) → EachFile w (λ file f. HasRoom (table_capacity file (table s w)) f)
    → EachFile u.0 (λ file f. HasRoom (table_capacity file (table s u.0)) f)
room_is_kept s w x u e quiet seen each =
    let t = step_is s w x u e in
    let h = tame s w x u.0 t seen in
    let q = sizes_left x.kind quiet in
    rw (same_table s w x u.0 t (h.0 q.0))
    (step_keeps (λ file f. HasRoom (table_capacity file (table s w)) f) s w x u.0 t
    (λ file c f g o is room. course_room (table_capacity file (table s w)) f g (course c f g is)
    (fair file c f g is (subst HasGoodFate o h.1) (subst KeepsSize o (h.2 q.1))) room) each)
