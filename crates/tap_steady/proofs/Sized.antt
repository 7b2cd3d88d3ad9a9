-- Each resize under way has the capacity that it asks for, and cuts from its claim count down.
use Rattle.std.proofs.Common.{◌≡◌, ◌≢◌, ◌⊎◌, ℕ, ◌+◌, ◌<◌, List, [], ◌∷◌, ◌++◌, map, Bool, true, false, Option, Some, inl, inr, ⊎_elim, refl, sym, ap, ◌∙◌, subst, true≢false}
use Rattle.std.specs.Prelude.{◌==◌, ◌||◌, drop, slice_get}
use Rattle.std.specs.List.{list_any}
use Rattle.std.proofs.lemmas.List.{append-nil}
use Rattle.std.proofs.lemmas.Bool.Decides.{eqb_tells}
use Rattle.scen_words.specs.declared.command.Command.{Command}
use Rattle.scen_words.specs.declared.command.Command.TheVariants as command
use Rattle.tap_steer.specs.After.{after_all}
use Rattle.tap_steer.specs.declared.operation.Op.{Op}
use Rattle.tap_world.specs.declared.event.Event.{Event}
use Rattle.tap_world.specs.declared.told.Published.{Published}
use Rattle.tap_world.specs.ByNumber.{at, with_at}
use Rattle.tap_world.specs.Setup.{Numbered, Setup, opening_table, setup_of}
use Rattle.tap_world.specs.Line.{File, claimed}
use Rattle.tap_world.specs.LineSteps.{Change, changed}
use Rattle.tap_world.specs.LineSteps.Change.{Cuts, Moves, Sizes, Takes}
use Rattle.tap_world.specs.World.{Actor, Doing, World, current, newest, table}
use Rattle.tap_world.specs.World.Doing.{Begun, Resizes, Shrinks}
use Rattle.tap_world.specs.Effect.{Ending, OnFiles, Onward, actor_after, ended, files_after}
use Rattle.tap_world.specs.Effect.OnFiles.{NoFile, OnFile}
use Rattle.tap_world.specs.Effect.Onward.{Ends, Goes, Stays}
use Rattle.tap_world.specs.Each.{EachActor}
use Rattle.tap_world.specs.Scripts.{is_kind, next_kind}
use Rattle.tap_world.specs.Sound.{IsSound, holds, table_capacity}
use Rattle.tap_world.specs.SoundActors.{can_be}
use Rattle.tap_world.specs.Steady.{HasItsCuts, HasTaker, IsShrinking, IsSteady, IsTold, is_taking}
use Rattle.tap_world.specs.Step.{row}
use Rattle.tap_sound.proofs.Held.{can_here, shape_here}
use Rattle.tap_sound.proofs.Kept.{effect_files, effect_ops}
use Rattle.tap_sound.proofs.Kit.{some_same, then_some, where_some}
use Rattle.tap_sound.proofs.Publishing.{equal}
use Rattle.tap_sound.proofs.Scripts.{effect_actors, first_of_list}
use Rattle.tap_sound.proofs.Shapes as shapes
use Rattle.tap_sound.proofs.Taken.{IsStep, both, step_is, when_settled}
use Rattle.tap_sound.proofs.Turned.{at_is, is_at, others, with_nth_inv}
use Rattle.tap_sound.proofs.Writers.{doing_after}
use Rattle.tap_steady.specs.Part.{IsPart}
use Rattle.tap_steady.proofs.Kit.{begun_all, with_at_else, with_at_here}
use Rattle.tap_steady.proofs.PlacedChanges.{Frees, IsOf, Makes, Who, row_makes, who}
use Rattle.tap_steady.proofs.SizedFiles.{IsCutting, frees, others_cut, own_cut, sizes_cut}
use Rattle.tap_steady.proofs.SizedShapes.{Acts, Begins, CutsOn, acts, is_shrinking, shrinks_on}
use Rattle.tap_steady.proofs.Told.{effect_said}

-- ---- a resize, by how far its command has come

abbrev Fits : Setup → World → ℕ → ℕ → Doing → Type 0
Fits s w actor asked (Shrinks file places cuts) = IsShrinking s w actor file places cuts asked
Fits s w actor asked d = Unit {0}

-- it fits, where the command is a resize
abbrev FitsIts : Setup → World → ℕ → Actor → Type 0
FitsIts s w actor a =
    (n other asked : ℕ) → current a.script ≡ Some (record { number = n; command = command.Resize other asked }) → Fits s w actor asked a.doing

fits_its : (s : Setup) (w : World) (actor : ℕ) (a : Actor) → HasItsCuts s w actor a → FitsIts s w actor a
fits_its s w actor a h n other asked now = go a.doing refl
  where
    go : (d : Doing) → a.doing ≡ d → Fits s w actor asked d
    go (Shrinks file places cuts) is = h n other asked file places cuts now is
    go d is = tt

its_cuts : (s : Setup) (w : World) (actor : ℕ) (a : Actor) → FitsIts s w actor a → HasItsCuts s w actor a
its_cuts s w actor a h n other asked file places cuts now is = subst (Fits s w actor asked) is (h n other asked now)

none_fits : (s : Setup) (w : World) (actor asked : ℕ) (d : Doing) → is_shrinking d ≡ false → Fits s w actor asked d
none_fits s w actor asked (Shrinks file places cuts) h = absurd (true≢false h)
none_fits s w actor asked d h = tt

-- ---- a resize and its file

cutting_of : (s : Setup) (w : World) (actor file places cuts asked : ℕ) (h : IsShrinking s w actor file places cuts asked)
    → IsCutting (HasTaker s w actor) (table_capacity file (table s w)) h.f places cuts asked
cutting_of s w actor file places cuts asked h = record {
  capacity = h.capacity;
  most = h.most;
  over = h.over;
  smaller = h.smaller;
  least = h.least;
  from = h.from;
  as_many = h.as_many;
  cut = h.cut;
}

taker_on : (s : Setup) (w v : World) (actor : ℕ) → v.phase ≡ w.phase → HasTaker s w actor → HasTaker s v actor
taker_on s w v actor same h = record {
  phase = h.phase;
  is_phase = ap (λ n. slice_get s.phases n) same ∙ h.is_phase;
  other = h.other;
  is_other = h.is_other;
  takes = h.takes;
}

shrinking_of : (s : Setup) (w v : World) (actor file places cuts asked : ℕ) (f : File) → v.phase ≡ w.phase → table s v ≡ table s w → at v.files file ≡ Some f
    → IsCutting (HasTaker s w actor) (table_capacity file (table s w)) f places cuts asked → IsShrinking s v actor file places cuts asked
shrinking_of s w v actor file places cuts asked f phase tabled at_ h = record {
  f = f;
  is_there = at_;
  capacity = h.capacity;
  most = h.most;
  over = h.over;
  smaller = λ some. subst (λ t. asked < table_capacity file t) (sym tabled) (h.smaller some);
  least = λ some over. ⊎_elim (λ t. inl (taker_on s w v actor phase t)) (λ p. inr p) (h.least some over);
  from = h.from;
  as_many = h.as_many;
  cut = h.cut;
}

-- ---- files

-- a file after an effect: as it was, or changed
record FileAfter (o : OnFiles) (after : List (Option File)) (file : ℕ) (f : File) : Type 0 where
  g : File
  is_there : at after file ≡ Some g
  is : (f ≡ g) ⊎ ((c : Change) × (o ≡ OnFile file c) × (changed c f ≡ Some g))

file_after : (o : OnFiles) (files after : List (Option File)) → files_after o files ≡ Some after → (file : ℕ) (f : File) → at files file ≡ Some f → FileAfter o after file f
file_after NoFile files after e file f at_ =
    record { g = f; is_there = ap (λ (q : List (Option File)). at q file) (sym (some_same files after e)) ∙ at_; is = inl refl }
file_after (OnFile n c) files after e file f at_ =
    let d = then_some (at files n) _ after e in
    let g = then_some (changed c d.0) _ after d.2 in
    let same : with_at n g.0 files ≡ after = some_same (with_at n g.0 files) after g.2 in
    ⊎_elim
    (λ t. let is : d.0 ≡ f = some_same d.0 f (sym d.1 ∙ ap (at files) t.1 ∙ at_) in record {
      g = g.0;
      is_there = ap (λ (q : List (Option File)). at q file) (sym same) ∙ ap (at (with_at n g.0 files)) (sym t.1) ∙ with_at_here n g.0 d.0 files d.1;
      is = inr (c, ap (λ k. OnFile k c) t.1, subst (λ (q : File). changed c q ≡ Some g.0) is g.1);
    })
    (λ t. record {
      g = f;
      is_there = ap (λ (q : List (Option File)). at q file) (sym same) ∙ with_at_else n g.0 files file t.1 ∙ at_;
      is = inl refl;
    })
    (eqb_tells n file)

-- ---- who takes frames

any_behind : (test : Numbered → Bool) (xs ys : List Numbered) → list_any test ys ≡ true → list_any test (xs ++ ys) ≡ true
any_behind test [] ys e = e
any_behind test (x ∷ xs) ys e = go (test x) (any_behind test xs ys e)
  where
    go : (b : Bool) → list_any test (xs ++ ys) ≡ true → (b || list_any test (xs ++ ys)) ≡ true
    go true h = refl
    go false h = h

-- an actor whose command takes frames is another one than this
taker : (s : Setup) (w : World) → IsTold s w → (me actor : ℕ) (a : Actor) (c : Numbered) → me ≢ actor → slice_get w.actors me ≡ Some a → slice_get a.script 0 ≡ Some c
    → is_taking c.command ≡ true → HasTaker s w actor
taker s w told me actor a c away found now taking =
    let p = told.order me a found in
    let first = first_of_list a.script c now in
    let test : Numbered → Bool = λ x. is_taking x.command in
    let head : list_any test (c ∷ first.0) ≡ true = ap (λ (b : Bool). b || list_any test first.0) taking in record {
      phase = p.0;
      is_phase = p.1;
      other = me;
      is_other = away;
      takes = ap (λ q. list_any test q) p.2.1 ∙ any_behind test p.2.0 a.script (ap (λ q. list_any test q) first.1 ∙ head);
    }

-- what frees places is made by a command that takes frames, or holds the writer
freed_by : (k : Who) (file : ℕ) (c : Change) → frees c ≡ true → IsOf k (OnFile file c) → Frees k
freed_by k file Moves e h = h
freed_by k file Cuts e h = h
freed_by k file (Takes vhost) e h = inl (ap (λ (q : Command). is_taking q) h.2)
freed_by k file c e h = absurd (true≢false (sym e))

-- ---- after an event, before a purge ends

module _ (s : Setup) (w : World) (x : Event) (u : World) (t : IsStep s w x u) (sound : IsSound s w) (steady : IsSteady s w) where
  phase_same : t.between.phase ≡ w.phase
  phase_same = (effect_said t.effect x.actor t.actor x.command w t.between t.made).0

  files_are : files_after t.effect.files w.files ≡ Some t.between.files
  files_are = effect_files t.effect x.actor t.actor x.command w t.between t.made

  table_same : t.effect.ops ≡ [] → table s t.between ≡ table s w
  table_same none =
      ap (λ (ops : List Published). after_all (opening_table s) (map (λ (p : Published). p.op) ops))
      (effect_ops t.effect x.actor t.actor x.command w t.between t.made
      ∙ ap (λ (ops : List Op). w.ops ++ map (λ (y : Op). record { phase = w.phase; actor = x.actor; command = x.command; op = y }) ops) none ∙ append-nil w.ops)

  can : can_be t.actor.doing t.now.command ≡ true
  can = can_here s w x u t sound.actors.stand

  calm : is_shrinking t.actor.doing ≡ false → Acts w t.actor.doing t.effect
  calm h = acts s w x.actor t.actor.seen t.actor.doing t.now.command t.effect h (shape_here s w x u t sound.actors.stand)

  -- ---- another's resize

  aside : (actor : ℕ) → x.actor ≢ actor → w.writer ≡ Some actor → (t.effect.ops ≡ []) × shapes.Leaves t.effect.files × (holds t.actor.doing ≡ false)
  aside actor away writer =
      let h : holds t.actor.doing ≡ false =
      sound.actors.writer x.actor t.actor t.found ∙ ap (is_at x.actor) writer ∙ others actor x.actor (λ e. away (sym e)) in
      let a = (calm (no_shrink_of t.actor.doing h)).aside h (λ none. cc (sym none ∙ writer)) in
      (a.0, a.1, h)
    where
      no_shrink_of : (d : Doing) → holds d ≡ false → is_shrinking d ≡ false
      no_shrink_of (Shrinks file places cuts) h = absurd (true≢false h)
      no_shrink_of d h = refl

  taken : (actor file : ℕ) (c : Change) → x.actor ≢ actor → holds t.actor.doing ≡ false → t.effect.files ≡ OnFile file c → frees c ≡ true → HasTaker s w actor
  taken actor file c away free is e =
      let k : Who = who x.actor t.now.number t.actor.doing t.now.command in
      let of : IsOf k (OnFile file c) = subst (IsOf k) is
      (where_some (Makes k) _ t.effect (row_makes s w x.kind x.actor t.actor t.now.number t.now.command can) t.is_row) in
      ⊎_elim
      (λ taking. taker s w steady.told x.actor actor t.actor t.now away t.found t.current_is taking)
      (λ held. absurd (true≢false (sym held ∙ free)))
      (freed_by k file c e of)

  others_fit : (actor asked : ℕ) (a : Actor) → x.actor ≢ actor → slice_get w.actors actor ≡ Some a → (d : Doing) → a.doing ≡ d → Fits s w actor asked d
      → Fits s t.between actor asked d
  others_fit actor asked a away at_ (Shrinks file places cuts) is h =
      let writer : w.writer ≡ Some actor = at_is actor w.writer (sym (sound.actors.writer actor a at_) ∙ ap holds is) in
      let k = aside actor away writer in
      let g = file_after t.effect.files w.files t.between.files files_are file h.f h.is_there in
      let cutting = cutting_of s w actor file places cuts asked h in
      shrinking_of s w t.between actor file places cuts asked g.g phase_same (table_same k.0) g.is_there
      (⊎_elim
      (λ same. subst (λ (q : File). IsCutting (HasTaker s w actor) (table_capacity file (table s w)) q places cuts asked) same cutting)
      (λ c. others_cut (HasTaker s w actor) (table_capacity file (table s w)) file c.0 h.f g.g places cuts asked (subst shapes.Leaves c.1 k.1)
      (taken actor file c.0 away k.2 c.1) c.2 cutting)
      g.is)
  others_fit actor asked a away at_ d is h = tt

  -- ---- its own events

  -- what a file's own change makes of it
  own_change : (file : ℕ) (c : Change) (f : File) → at w.files file ≡ Some f → t.effect.files ≡ OnFile file c
      → (g : File) × (at t.between.files file ≡ Some g) × (changed c f ≡ Some g)
  own_change file c f at_ is =
      let e : files_after (OnFile file c) w.files ≡ Some t.between.files = ap (λ o. files_after o w.files) (sym is) ∙ files_are in
      let d = then_some (at w.files file) _ t.between.files e in
      let g = then_some (changed c d.0) _ t.between.files d.2 in
      let same : d.0 ≡ f = some_same d.0 f (sym d.1 ∙ at_) in (
        g.0,
        ap (λ (q : List (Option File)). at q file) (sym (some_same (with_at file g.0 w.files) t.between.files g.2)) ∙ with_at_here file g.0 d.0 w.files d.1,
        subst (λ (q : File). changed c q ≡ Some g.0) same g.1,
      )

  cut_fits : (asked file places cuts : ℕ) → IsShrinking s w x.actor file places cuts asked → CutsOn file places cuts t.effect
      → Fits s t.between x.actor asked (doing_after t.effect.onward (Shrinks file places cuts))
  cut_fits asked file places cuts h (inl on) =
      let g = own_change file Cuts h.f h.is_there on.0 in
      let room = sound.lines file h.f h.is_there in
      let it = own_cut (HasTaker s w x.actor) (table_capacity file (table s w)) h.f g.0 places cuts asked room.ordered.parts room.ring g.2
      (cutting_of s w x.actor file places cuts asked h) in
      subst (Fits s t.between x.actor asked) (sym on.2)
      (shrinking_of s w t.between x.actor file places (cuts + 1) asked g.0 phase_same (table_same on.1) g.1 it)
  cut_fits asked file places cuts h (inr over) = subst (Fits s t.between x.actor asked) (sym over) tt

  asked_is : (file capacity other asked : ℕ) → can_be (Resizes file capacity) (command.Resize other asked) ≡ true → capacity ≡ asked
  asked_is file capacity other asked e = sym (equal asked capacity (both (other == file) (asked == capacity) e).1)

  begins_fit : (other asked : ℕ) → t.now.command ≡ command.Resize other asked → (b : Begins w t.actor.doing t.effect)
      → Fits s t.between x.actor asked (doing_after t.effect.onward t.actor.doing)
  begins_fit other asked now b =
      let g = own_change b.file (Sizes b.capacity) b.f b.at_file b.files in
      let asks : b.capacity ≡ asked = asked_is b.file b.capacity other asked
      (subst (λ (q : Command). can_be (Resizes b.file b.capacity) q ≡ true) now (subst (λ (d : Doing). can_be d t.now.command ≡ true) b.was can)) in
      let it = sizes_cut (HasTaker s w x.actor) (table_capacity b.file (table s w)) b.capacity b.f g.0 g.2 in
      subst (Fits s t.between x.actor asked) (sym b.doing)
      (subst (λ n. IsShrinking s t.between x.actor b.file (claimed b.f) 0 n) asks
      (shrinking_of s w t.between x.actor b.file (claimed b.f) 0 b.capacity g.0 phase_same (table_same b.ops) g.1 it))

  goes_cutting : (file places cuts : ℕ) → t.actor.doing ≡ Shrinks file places cuts → CutsOn file places cuts t.effect
  goes_cutting file places cuts is = where_some (CutsOn file places cuts) _ t.effect
      (shrinks_on s w x.kind x.actor t.actor.seen t.actor.script t.now.number file places cuts t.now.command
      (subst (λ (d : Doing). is_kind x.kind (next_kind w d t.now.command) ≡ true) is t.next)
      (subst (λ (d : Doing). can_be d t.now.command ≡ true) is can))
      (subst (λ (d : Doing). row s w x.kind x.actor (record { seen = t.actor.seen; script = t.actor.script; doing = d }) t.now.number t.now.command ≡ Some t.effect) is t.is_row)

  own_doing : (n other asked : ℕ) → current t.actor.script ≡ Some (record { number = n; command = command.Resize other asked })
      → Fits s t.between x.actor asked (doing_after t.effect.onward t.actor.doing)
  own_doing n other asked now = go t.actor.doing refl
    where
      is_now : t.now.command ≡ command.Resize other asked
      is_now = ap (λ (q : Numbered). q.command) (some_same t.now _ (sym t.current_is ∙ now))

      calmly : is_shrinking t.actor.doing ≡ false → Fits s t.between x.actor asked (doing_after t.effect.onward t.actor.doing)
      calmly h = ⊎_elim
          (λ none. none_fits s t.between x.actor asked (doing_after t.effect.onward t.actor.doing) none)
          (λ b. begins_fit other asked is_now b)
          (calm h).after

      go : (d : Doing) → t.actor.doing ≡ d → Fits s t.between x.actor asked (doing_after t.effect.onward t.actor.doing)
      go (Shrinks file places cuts) is =
          let was : IsShrinking s w x.actor file places cuts asked =
          subst (Fits s w x.actor asked) is (fits_its s w x.actor t.actor (steady.sized x.actor t.actor t.found) n other asked now) in
          subst (λ (d : Doing). Fits s t.between x.actor asked (doing_after t.effect.onward d)) (sym is)
          (cut_fits asked file places cuts was (goes_cutting file places cuts is))
      go d is = calmly (ap is_shrinking is)

  own_fits : (o : Onward) → t.effect.onward ≡ o → FitsIts s t.between x.actor (actor_after o t.actor)
  own_fits (Ends seen y) is n other asked now = tt
  own_fits (Goes seen e f) is n other asked now =
      subst (λ (q : Onward). Fits s t.between x.actor asked (doing_after q t.actor.doing)) is (own_doing n other asked now)
  own_fits (Stays f) is n other asked now =
      subst (λ (q : Onward). Fits s t.between x.actor asked (doing_after q t.actor.doing)) is (own_doing n other asked now)

  between_fits : (actor : ℕ) (b : Actor) → slice_get t.between.actors actor ≡ Some b → FitsIts s t.between actor b
  between_fits actor b at_ = ⊎_elim
      (λ same. subst (λ k. FitsIts s t.between k b) same.0 (subst (FitsIts s t.between x.actor) same.1 (own_fits t.effect.onward refl)))
      (λ other. others_fit_its other.0 other.1)
      (with_nth_inv x.actor (actor_after t.effect.onward t.actor) w.actors actor b
      (ap (λ (q : List Actor). slice_get q actor) (sym (effect_actors t.effect x.actor t.actor x.command w t.between t.made)) ∙ at_))
    where
      others_fit_its : x.actor ≢ actor → slice_get w.actors actor ≡ Some b → FitsIts s t.between actor b
      others_fit_its away found n other asked now =
          others_fit actor asked b away found b.doing refl (fits_its s w actor b (steady.sized actor b found) n other asked now)

-- ---- the end of a purge

still_fits : (s : Setup) (v : World) (e : Ending) (actor asked : ℕ) (d : Doing) → Fits s v actor asked d → Fits s (ended e v) actor asked d
still_fits s v e actor asked (Shrinks file places cuts) h =
    shrinking_of s v (ended e v) actor file places cuts asked h.f refl refl h.is_there (cutting_of s v actor file places cuts asked h)
still_fits s v e actor asked d h = tt

abbrev AllFit : Setup → World → Type 0
AllFit s w = (actor : ℕ) (b : Actor) → slice_get w.actors actor ≡ Some b → FitsIts s w actor b

ended_fits : (s : Setup) (v : World) (e : Ending) → AllFit s v → AllFit s (ended e v)
ended_fits s v e each actor b at_ n other asked now = ⊎_elim
    (λ same. subst (Fits s (ended e v) actor asked) (ap (λ (q : Actor). q.doing) same.1) tt)
    (λ rest. still_fits s v e actor asked b.doing (each actor b rest.1 n other asked now))
    (with_nth_inv e.actor (record e.state { script = drop 1 e.state.script; doing = Begun }) v.actors actor b at_)

after_fits : (s : Setup) (w : World) (x : Event) (u : World) (t : IsStep s w x u) → IsSound s w → IsSteady s w → AllFit s u
after_fits s w x u t sound steady = subst (AllFit s) t.is
    (when_settled (AllFit s) t.between (between_fits s w x u t sound steady) (λ e end. ended_fits s t.between e (between_fits s w x u t sound steady)))

-- ---- the part

pub cuts_are_kept : IsPart (λ s w. EachActor w (HasItsCuts s w))
cuts_are_kept = record {
  first = λ s laid actor a e. absurd (cc (e));
  begin = λ s ended_ p w laid between is sound steady actor a e n other asked file places cuts now doing.
      absurd (cc (sym doing ∙ begun_all p (newest w) 0 p.actors actor a e));
  event = λ s w e u laid world is sound steady after actor a found.
      its_cuts (setup_of s) u.0 actor a
      (after_fits (setup_of s) w e u.0 (step_is (setup_of s) w e u is) sound.sound steady actor a found);
}
