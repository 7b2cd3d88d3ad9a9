-- Every event keeps room in each line.
use Rattle.std.proofs.Common.{◌≡◌, ◌⊎◌, ℕ, ◌+◌, ◌≤◌, List, [], ◌∷◌, ◌++◌, map, Bool, true, false, true≢false, Option, Some, None, inl, inr, ⊎_elim, refl, sym, ap, ◌∙◌, subst, arith}
use Rattle.std.specs.Prelude.{if◌then◌else◌, ◌==◌, max, slice_get}
use Rattle.std.specs.List.{AllByRecursion}
use Rattle.std.specs.Option.{option_map_or}
use Rattle.std.proofs.lemmas.Bool.Decides.{eqb_tells, leb_tells}
use Rattle.tap_steer.specs.declared.operation.Op.{Op}
use Rattle.tap_steer.specs.declared.operation.Op.TheVariants as op
use Rattle.tap_steer.specs.Table.{Table}
use Rattle.tap_steer.specs.After.{after, after_all}
use Rattle.tap_world.specs.declared.event.Event.{Event}
use Rattle.tap_world.specs.declared.event.EventKind.{EventKind}
use Rattle.tap_world.specs.declared.event.EventKind.TheVariants as event
use Rattle.tap_world.specs.declared.event.Heard.{Heard}
use Rattle.tap_world.specs.ByNumber.{at}
use Rattle.scen_words.specs.declared.command.Command.{Command}
use Rattle.tap_world.specs.Setup.{Setup, opening_table}
use Rattle.tap_world.specs.declared.line.Entry.{Entry}
use Rattle.tap_world.specs.Line.{File, claimed, freed, is_over}
use Rattle.tap_world.specs.LineSteps.{Change, changed}
use Rattle.tap_world.specs.LineSteps.Change.{Sizes}
use Rattle.tap_world.specs.declared.told.Published.{Published}
use Rattle.tap_world.specs.World.{Actor, Doing, World, holds_writer, table}
use Rattle.tap_world.specs.World.Doing.{Begun, Resizes, Shrinks}
use Rattle.tap_world.specs.Effect.{OnFiles, files_after}
use Rattle.tap_world.specs.Effect.OnFiles.{NoFile, OnFile}
use Rattle.tap_world.specs.Scripts.{is_kind, next_kind, shrink_next}
use Rattle.tap_world.specs.Step.{row, step}
use Rattle.tap_world.specs.Each.{EachActor, EachFile}
use Rattle.tap_world.specs.SoundActors.{CanBe, can_be}
use Rattle.tap_world.specs.Sound.{HasRoom, HasSeen, IsOrdered, table_capacity, has_left}
use Rattle.tap_world.specs.SoundTable.{Agreed, AgreesWithTable, commanded, expected, of_table, writing}
use Rattle.tap_sound.specs.Kept.{leaves_sizes}
use Rattle.tap_ground.specs.Options.{◌>>=◌}
use Rattle.tap_sound.proofs.Kit.{only_some, some_same, where_some}
use Rattle.tap_sound.proofs.Kept.{effect_files, effect_ops, room_is_kept, same_table, step_keeps}
use Rattle.tap_sound.proofs.Stand.{stands_at}
use Rattle.tap_sound.proofs.Taken.{IsStep, step_is, when_settled}
use Rattle.tap_sound.proofs.RoomTable.{resize_elsewhere, same_after}
use Rattle.tap_sound.proofs.RoomRows.{Publishes, Resizing, SizesBy, publish_is, resize_is}

-- what is taken of the world before
record HadRoom (s : Setup) (w : World) : Type 0 where
  seen : EachActor w (HasSeen w)
  stand : EachActor w (λ actor a. CanBe a)
  agrees : EachFile w (AgreesWithTable s w)
  room : EachFile w (λ file f. HasRoom (table_capacity file (table s w)) f)

-- ---- a publication

after_more : (t : Table) (xs : List Op) (x : Op) → after_all t (xs ++ x ∷ []) ≡ after (after_all t xs) x
after_more t [] x = refl
after_more t (y ∷ ys) x = after_more (after t y) ys x

ops_more : (xs : List Published) (p : Published) → map (λ (q : Published). q.op) (xs ++ p ∷ []) ≡ map (λ (q : Published). q.op) xs ++ p.op ∷ []
ops_more [] p = refl
ops_more (x ∷ xs) p = ap (λ (ys : List Op). x.op ∷ ys) (ops_more xs p)

-- the files and the table after an event that publishes one operation and changes no file
published : (s : Setup) (w : World) (x : Event) (u : World) (t : IsStep s w x u) (y : Op) → t.effect.files ≡ NoFile → t.effect.ops ≡ y ∷ []
    → (u.files ≡ w.files) × (table s u ≡ after (table s w) y)
published s w x u t y files ops =
    let p : Published = record { phase = w.phase; actor = x.actor; command = x.command; op = y } in
    let between_files : t.between.files ≡ w.files =
    sym (some_same w.files t.between.files (subst (λ (o : OnFiles). files_after o w.files ≡ Some t.between.files) files
    (effect_files t.effect x.actor t.actor x.command w t.between t.made))) in
    let between_ops : t.between.ops ≡ w.ops ++ p ∷ [] =
    effect_ops t.effect x.actor t.actor x.command w t.between t.made
    ∙ ap (λ (o : List Op). w.ops ++ map (λ (z : Op). record { phase = w.phase; actor = x.actor; command = x.command; op = z }) o) ops in
    let both : (u.files ≡ w.files) × (u.ops ≡ w.ops ++ p ∷ []) =
    subst (λ (q : World). (q.files ≡ w.files) × (q.ops ≡ w.ops ++ p ∷ [])) t.is
    (when_settled (λ (q : World). (q.files ≡ w.files) × (q.ops ≡ w.ops ++ p ∷ [])) t.between (between_files, between_ops) (λ f end. (between_files, between_ops))) in (
      both.0,
      ap (λ (o : List Published). after_all (opening_table s) (map (λ (q : Published). q.op) o)) both.1
          ∙ ap (after_all (opening_table s)) (ops_more w.ops p)
          ∙ after_more (opening_table s) (map (λ (q : Published). q.op) w.ops) y,
    )

not_over : (f : File) → is_over f ≡ false → claimed f ≤ freed f + f.capacity
not_over f e = ⊎_elim (λ t. absurd (true≢false (sym t.0 ∙ e))) (λ t. let lt = t.1 in omega (arith, lt)) (leb_tells (freed f + f.capacity + 1) (claimed f))

-- a resize is published where no more wait than the ring has places
shrunk : (w : World) (file places cuts : ℕ) (c : Command) (f : File) → at w.files file ≡ Some f → is_kind event.Publish (next_kind w (Shrinks file places cuts) c) ≡ true
    → is_over f ≡ false
shrunk w file places cuts c f here e =
    go (is_over f) refl (subst (λ (o : Option File). is_kind event.Publish (option_map_or (λ g. Some (shrink_next g)) o None) ≡ true) here e)
  where
    go : (b : Bool) → is_over f ≡ b → is_kind event.Publish (Some (if b then event.Cut else event.Publish)) ≡ true → is_over f ≡ false
    go true over k = absurd (true≢false (sym k))
    go false over k = over

other_before : (before after_ : ℕ) (f : File) → claimed f ≤ freed f + f.capacity → HasRoom before f → HasRoom after_ f
other_before before after_ f le h = record {
  ordered = h.ordered;
  fates = h.fates;
  ring = let m : f.capacity ≤ max f.capacity after_ = omega arith in omega (arith, le, m);
}

publish_room : (s : Setup) (w : World) (x : Event) (u : World) (t : IsStep s w x u) (y : Op) → x.kind ≡ event.Publish → HadRoom s w → SizesBy t.actor.doing y
    → (file : ℕ) (f : File) → at w.files file ≡ Some f → HasRoom (table_capacity file (after (table s w) y)) f
publish_room s w x u t (op.Resize file0 capacity) kind sound (places, cuts, doing) file f here = ⊎_elim
    (λ same.
    let next : is_kind event.Publish (next_kind w (Shrinks file0 places cuts) t.now.command) ≡ true =
    subst (λ (k : EventKind). is_kind k (next_kind w (Shrinks file0 places cuts) t.now.command) ≡ true) kind
    (subst (λ (d : Doing). is_kind x.kind (next_kind w d t.now.command) ≡ true) doing t.next) in
    let here0 : at w.files file0 ≡ Some f = ap (at w.files) same.1 ∙ here in
    other_before (table_capacity file (table s w)) (table_capacity file (after (table s w) (op.Resize file0 capacity))) f
    (not_over f (shrunk w file0 places cuts t.now.command f here0 next)) (sound.room file f here))
    (λ apart. subst (λ (n : ℕ). HasRoom n f) (sym (resize_elsewhere (table s w) file0 capacity file apart.1)) (sound.room file f here))
    (eqb_tells file0 file)
publish_room s w x u t y kind sound sizes file f here =
    subst (λ (n : ℕ). HasRoom n f) (sym (same_after (table s w) y tt file)) (sound.room file f here)

when_published : (s : Setup) (w : World) (x : Event) (u : World) (t : IsStep s w x u) → x.kind ≡ event.Publish → HadRoom s w
    → EachFile u (λ file f. HasRoom (table_capacity file (table s u)) f)
when_published s w x u t kind sound file f here =
    let can : can_be t.actor.doing t.now.command ≡ true = stands_at t.actor t.now t.current_is (sound.stand x.actor t.actor t.found) in
    let p : Publishes t.actor.doing t.effect =
    where_some (Publishes t.actor.doing) _ t.effect (publish_is s w x.actor t.actor.doing t.now.command can)
    (subst (λ (k : EventKind). row s w k x.actor t.actor t.now.number t.now.command ≡ Some t.effect) kind t.is_row) in
    let after_ = published s w x u t p.0 p.1 p.2 in
    subst (λ (q : Table). HasRoom (table_capacity file q) f) (sym after_.1)
    (publish_room s w x u t p.0 kind sound p.3 file f (ap (λ (fs : List (Option File)). at fs file) (sym after_.0) ∙ here))

-- ---- a resize: the capacity that the table has is the file's until it is published

record RoomFor (before : ℕ) (f : File) : Type 0 where
  order : IsOrdered f
  fates : AllByRecursion (λ (e : Entry). has_left e.stands ≡ true) f.line
  ring : claimed f ≤ freed f + before

room_for : (before : ℕ) (f : File) → f.capacity ≡ before → HasRoom before f → RoomFor before f
room_for before f same h = record {
  order = h.ordered;
  fates = h.fates;
  ring = let le = h.ring in let m : max f.capacity before ≤ before = omega (arith, same) in omega (arith, le, m);
}

has_room : (before : ℕ) (f : File) → RoomFor before f → HasRoom before f
has_room before f h = record {
  ordered = h.order;
  fates = h.fates;
  ring = let le = h.ring in let m : before ≤ max f.capacity before = omega arith in omega (arith, le, m);
}

sized : (before capacity : ℕ) (f g : File) → changed (Sizes capacity) f ≡ Some g → RoomFor before f → RoomFor before g
sized before capacity f g e h =
    let new : File = record f { capacity = capacity; resizes = f.resizes + 1 } in
    let is : new ≡ g = (only_some _ new g e).1 in
    subst (RoomFor before) is (record {
      order = record { parts = h.order.parts; batch = h.order.batch; places = h.order.places };
      fates = h.fates;
      ring = h.ring;
    })

held_by : (o : Option ℕ) (actor : ℕ) → option_map_or (λ a. a == actor) o false ≡ true → o ≡ Some actor
held_by None actor e = absurd (true≢false (sym e))
held_by (Some a) actor e = ⊎_elim (λ t. ap Some t.1) (λ t. absurd (true≢false (sym e ∙ t.0))) (eqb_tells a actor)

pub writing_is : (w : World) (actor : ℕ) (a : Actor) → holds_writer w actor ≡ true → slice_get w.actors actor ≡ Some a → writing w ≡ a.doing
writing_is w actor a holds found =
    ap (λ (o : Option ℕ). option_map_or (λ (b : Actor). b.doing) (o >>= λ n. slice_get w.actors n) Begun) (held_by w.writer actor holds)
    ∙ ap (λ (o : Option Actor). option_map_or (λ (b : Actor). b.doing) o Begun) found

when_resized : (s : Setup) (w : World) (x : Event) (u : World) (t : IsStep s w x u) → x.kind ≡ event.Resize → HadRoom s w
    → EachFile u (λ file f. HasRoom (table_capacity file (table s u)) f)
when_resized s w x u t kind sound file f here =
    let r : Resizing w x.actor t.actor.doing t.effect =
    where_some (Resizing w x.actor t.actor.doing) _ t.effect (resize_is w x.actor t.actor.seen t.actor.doing)
    (subst (λ (k : EventKind). row s w k x.actor t.actor t.now.number t.now.command ≡ Some t.effect) kind t.is_row) in
    let doing : writing w ≡ Resizes r.0 r.1 = writing_is w x.actor t.actor r.5 t.found ∙ r.2 in
    let each : EachFile w (λ n g. RoomFor (table_capacity n (table s w)) g) =
    λ n g at_. room_for (table_capacity n (table s w)) g
    (ap (λ (y : Agreed). y.capacity) (sound.agrees n g at_)
    ∙ ap (λ (d : Doing). (expected d (commanded w) n (of_table (table s w) n)).capacity) doing) (sound.room n g at_) in
    let after_ : EachFile u (λ n g. RoomFor (table_capacity n (table s w)) g) =
    step_keeps (λ n g. RoomFor (table_capacity n (table s w)) g) s w x u t
    (λ n c g h o e q. sized (table_capacity n (table s w)) r.1 g h (subst (λ (k : Change). changed k g ≡ Some h) (same_change n r.0 c (Sizes r.1) (sym o ∙ r.3)) e) q) each in
    subst (λ (q : Table). HasRoom (table_capacity file q) f) (sym (same_table s w x u t r.4)) (has_room (table_capacity file (table s w)) f (after_ file f here))
  where
    change_of : OnFiles → Change → Change
    change_of (OnFile n c) other = c
    change_of NoFile other = other

    same_change : (n m : ℕ) (c d : Change) → OnFile n c ≡ OnFile m d → c ≡ d
    same_change n m c d e = ap (λ o. change_of o c) e

-- ---- all events

abbrev IsWhich : EventKind → Type 0
IsWhich k = (leaves_sizes k ≡ true) ⊎ ((k ≡ event.Publish) ⊎ (k ≡ event.Resize))

which : (k : EventKind) → IsWhich k
which event.Publish = inr (inl refl)
which event.Resize = inr (inr refl)
which k = inl refl

pub room_is_always_kept : (s : Setup) (w : World) (x : Event) (u : World × Heard) → step s w x ≡ Some u → EachActor w (HasSeen w) → EachActor w (λ actor a. CanBe a)
    → EachFile w (AgreesWithTable s w) → EachFile w (λ file f. HasRoom (table_capacity file (table s w)) f) → EachFile u.0 (λ file f. HasRoom (table_capacity file (table s u.0)) f)
room_is_always_kept s w x u e seen stand agrees room =
    let t = step_is s w x u e in
    let sound : HadRoom s w = record { seen = seen; stand = stand; agrees = agrees; room = room } in
    ⊎_elim (λ quiet. room_is_kept s w x u e quiet seen room)
    (λ k. ⊎_elim (λ kind. when_published s w x u.0 t kind sound) (λ kind. when_resized s w x u.0 t kind sound) k) (which x.kind)
