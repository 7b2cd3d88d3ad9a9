-- Every event keeps what files have of the table.
use Rattle.std.proofs.Common.{◌≡◌, ℕ, ◌+◌, List, [], ◌∷◌, ◌++◌, map, Bool, true, false, Option, Some, None, refl, sym, ap, ◌∙◌, subst, true≢false}
use Rattle.std.specs.Prelude.{if◌then◌else◌, ◌==◌, not}
use Rattle.guest_mem.specs.Memory.{Contents}
use Rattle.tap_steer.specs.declared.operation.Op.{Op}
use Rattle.tap_steer.specs.declared.operation.Op.TheVariants as op
use Rattle.tap_steer.specs.declared.operation.TheConstants.{IFF_ATTACH_QUEUE}
use Rattle.tap_steer.specs.Table.{Table, file_at, is_set}
use Rattle.tap_steer.specs.Rules.{refuse}
use Rattle.tap_steer.specs.After.{after, after_all}
use Rattle.tap_steer.specs.Select as steer
use Rattle.vhost_dev.specs.Refusals.{number_refusal, ready_refusal}
use Rattle.vhost_dev.specs.Settings.{ring_at}
use Rattle.scen_words.specs.declared.command.Command.{Command}
use Rattle.scen_words.specs.declared.command.Command.TheVariants as command
use Rattle.tap_trace.specs.declared.answer.Answer.{Answer}
use Rattle.tap_ledger.specs.declared.error.TapErr.{TapErr as TapText}
use Rattle.tap_world.specs.declared.event.Event.{Event}
use Rattle.tap_world.specs.declared.event.Found.TheVariants as found
use Rattle.tap_world.specs.Setup.{Setup, op_of, opening_table}
use Rattle.tap_world.specs.Guests.{Vhost, is_ring}
use Rattle.tap_world.specs.declared.told.Published.{Published}
use Rattle.tap_world.specs.World.{Doing, World, newest, table}
use Rattle.tap_world.specs.World.Doing.{Backed, Backs, Begun, Changes, Disowned, Opens, Owns, Released, Resizes, Unbacked, Withdraws}
use Rattle.tap_world.specs.Effect.{Effect, OnFiles, Onward, files_after, only}
use Rattle.tap_world.specs.Effect.OnFiles.{NoFile, OnFile}
use Rattle.tap_world.specs.Effect.Onward.{Ends, Goes, Stays}
use Rattle.tap_world.specs.LineSteps.Change.{Owned}
use Rattle.tap_world.specs.StepBackend as back
use Rattle.tap_world.specs.StepTable as tables
use Rattle.tap_world.specs.Sound.{holds}
use Rattle.tap_world.specs.SoundActors.{can_be}
use Rattle.tap_world.specs.SoundTable.{Agreed, IsAsFound, asked_by, commanded, expected, writing}
use Rattle.tap_sound.proofs.Kit.{some_same, then_some}
use Rattle.tap_sound.proofs.Agreeing.{Files, Fits, disowning, goes_on, owning, steady}
use Rattle.tap_sound.proofs.Kept.{effect_files, effect_ops}
use Rattle.tap_sound.proofs.Publishing.{equal, sets_rx, sets_tx, unsets_rx, unsets_tx}
use Rattle.tap_sound.proofs.Shapes as shapes
use Rattle.tap_sound.proofs.Shapes.{Alike}
use Rattle.tap_sound.proofs.Standing.{answered, first_passed, ring_there}
use Rattle.tap_sound.proofs.TableFiles.{back_finds, detach_finds}
use Rattle.tap_sound.proofs.Taken.{IsStep, both}
use Rattle.tap_sound.proofs.Views.{Is, View}
use Rattle.tap_sound.proofs.Views.View.{Aside, Begins, Closes, Within}
use Rattle.tap_sound.proofs.Writers.{doing_after}

-- ---- the table after an event

all_then : (t : Table) (xs ys : List Op) → after_all t (xs ++ ys) ≡ after_all (after_all t xs) ys
all_then t [] ys = refl
all_then t (x ∷ xs) ys = all_then (after t x) xs ys

op_part : (xs : List Published) (ys : List Op) (f : Op → Published) → ((y : Op) → (f y).op ≡ y) → map (λ (p : Published). p.op) (xs ++ map f ys) ≡ map (λ (p : Published). p.op) xs ++ ys
op_part [] [] f h = refl
op_part [] (y ∷ ys) f h = ap (λ (o : Op). o ∷ map (λ (p : Published). p.op) (map f ys)) (h y) ∙ ap (λ (os : List Op). y ∷ os) (op_part [] ys f h)
op_part (x ∷ xs) ys f h = ap (λ (os : List Op). x.op ∷ os) (op_part xs ys f h)

pub table_after : (s : Setup) (w : World) (x : Event) (u : World) (t : IsStep s w x u) → table s t.between ≡ after_all (table s w) t.effect.ops
table_after s w x u t =
    ap (λ (ops : List Published). after_all (opening_table s) (map (λ (p : Published). p.op) ops)) (effect_ops t.effect x.actor t.actor x.command w t.between t.made)
    ∙ ap (after_all (opening_table s)) (op_part w.ops t.effect.ops (λ (y : Op). record { phase = w.phase; actor = x.actor; command = x.command; op = y }) (λ y. refl))
    ∙ all_then (opening_table s) (map (λ (p : Published). p.op) w.ops) t.effect.ops

-- ---- the command that holds the writer

pub aside : (w v : World) (d e : Doing) (c : Command) → View w v d e c → holds d ≡ false → holds e ≡ false → (writing v ≡ writing w) × (commanded v ≡ commanded w)
aside w v d e c (Aside a b x y) h k = (x, y)
aside w v d e c (Begins x y a b) h k = absurd (true≢false (sym b ∙ k))
aside w v d e c (Within x y a b) h k = absurd (true≢false (sym a ∙ h))
aside w v d e c (Closes x y a b) h k = absurd (true≢false (sym a ∙ h))

pub begins : (w v : World) (d e : Doing) (c : Command) → View w v d e c → holds d ≡ false → holds e ≡ true → Is w Begun None × Is v e (Some c)
begins w v d e c (Aside a b x y) h k = absurd (true≢false (sym k ∙ b))
begins w v d e c (Begins x y a b) h k = (x, y)
begins w v d e c (Within x y a b) h k = absurd (true≢false (sym a ∙ h))
begins w v d e c (Closes x y a b) h k = absurd (true≢false (sym a ∙ h))

pub within : (w v : World) (d e : Doing) (c : Command) → View w v d e c → holds d ≡ true → holds e ≡ true → Is w d (Some c) × Is v e (Some c)
within w v d e c (Aside a b x y) h k = absurd (true≢false (sym h ∙ a))
within w v d e c (Begins x y a b) h k = absurd (true≢false (sym h ∙ a))
within w v d e c (Within x y a b) h k = (x, y)
within w v d e c (Closes x y a b) h k = absurd (true≢false (sym k ∙ b))

pub closes : (w v : World) (d e : Doing) (c : Command) → View w v d e c → holds d ≡ true → holds e ≡ false → Is w d (Some c) × Is v Begun None
closes w v d e c (Aside a b x y) h k = absurd (true≢false (sym h ∙ a))
closes w v d e c (Begins x y a b) h k = absurd (true≢false (sym h ∙ a))
closes w v d e c (Within x y a b) h k = absurd (true≢false (sym b ∙ k))
closes w v d e c (Closes x y a b) h k = (x, y)

same_view : (w v : World) (d : Doing) (c : Command) → View w v d d c → (writing v ≡ writing w) × (commanded v ≡ commanded w)
same_view w v d c (Aside a b x y) = (x, y)
same_view w v d c (Begins x y a b) = absurd (true≢false (sym b ∙ a))
same_view w v d c (Within x y a b) = (y.0 ∙ sym x.0, y.1 ∙ sym x.1)
same_view w v d c (Closes x y a b) = absurd (true≢false (sym a ∙ b))

pub alike_view : (w v : World) (d : Doing) (o : Onward) (c : Command) → Alike d o → View w v d (doing_after o d) c → (writing v ≡ writing w) × (commanded v ≡ commanded w)
alike_view w v d (Stays f) c h view_ = same_view w v d c view_
alike_view w v d (Ends seen x) c h view_ = aside w v d Begun c view_ h.0 refl
alike_view w v d (Goes seen e f) c h view_ = aside w v d e c view_ h.0 h.1

pub at_view : (w v : World) (d d' e e' : Doing) (c : Command) → d ≡ d' → e ≡ e' → View w v d e c → View w v d' e' c
at_view w v d d' e e' c p q h = subst (λ (x : Doing). View w v x e' c) p (subst (λ (x : Doing). View w v d x c) q h)

-- ---- what fits a world

abbrev pub FitsWorld : Setup → World → Type 0
FitsWorld s w = Fits (writing w) (commanded w) (table s w) w.files

pub into : (w : World) (d : Doing) (c : Option Command) (t : Table) (files : Files) → Is w d c → Fits (writing w) (commanded w) t files → Fits d c t files
into w d c t files is h = subst (λ (x : Doing). Fits x c t files) is.0 (subst (λ (k : Option Command). Fits (writing w) k t files) is.1 h)

pub onto : (v : World) (d : Doing) (c : Option Command) (t : Table) (files : Files) → Is v d c → Fits d c t files → Fits (writing v) (commanded v) t files
onto v d c t files is h = subst (λ (x : Doing). Fits x (commanded v) t files) (sym is.0) (subst (λ (k : Option Command). Fits d k t files) (sym is.1) h)

-- as before, with another table of the same files
pub steady_world : (w v : World) (t u : Table) (o : OnFiles) (after_ : Files) → (writing v ≡ writing w) × (commanded v ≡ commanded w) → u.files ≡ t.files → shapes.Leaves o
    → files_after o w.files ≡ Some after_ → Fits (writing w) (commanded w) t w.files → Fits (writing v) (commanded v) u after_
steady_world w v t u o after_ same files leaves is h =
    onto v (writing w) (commanded w) u after_ same (steady (writing w) (commanded w) t u o w.files after_ files leaves is h)

-- ---- each shape

-- what a control command finds at its look
pub course_found : (s : Setup) (c : Command) (x : Op) (t : Table) → op_of s c ≡ Some x → refuse t x ≡ None → IsAsFound (tables.course t x) (Some c) t
course_found s (command.SetIff file name flags) x t of no_ = subst (λ (y : Op). IsAsFound (tables.course t y) (Some (command.SetIff file name flags)) t) (some_same _ x of) tt
course_found s (command.SetQueue file flags) x t of no_ =
    subst (λ (y : Op). IsAsFound (tables.course t y) (Some (command.SetQueue file flags)) t) (some_same _ x of) (go (is_set flags IFF_ATTACH_QUEUE) refl)
  where
    go : (b : Bool) → is_set flags IFF_ATTACH_QUEUE ≡ b → IsAsFound (if b then Opens file else Withdraws file) (Some (command.SetQueue file flags)) t
    go true is = tt
    go false is = detach_finds t file flags (subst (λ (y : Op). refuse t y ≡ None) (sym (some_same _ x of)) no_) is
course_found s (command.Close file) x t of no_ =
    subst (λ (y : Op). IsAsFound (tables.course t y) (Some (command.Close file)) t) (some_same _ x of) (go (tables.is_enabled (file_at t file).attachment) refl)
  where
    go : (b : Bool) → tables.is_enabled (file_at t file).attachment ≡ b → IsAsFound (if b then Withdraws file else Changes) (Some (command.Close file)) t
    go true is = is
    go false is = is
course_found s (command.Persist file on) x t of no_ = subst (λ (y : Op). IsAsFound (tables.course t y) (Some (command.Persist file on)) t) (some_same _ x of) tt
course_found s (command.HdrSize file size) x t of no_ = subst (λ (y : Op). IsAsFound (tables.course t y) (Some (command.HdrSize file size)) t) (some_same _ x of) tt
course_found s (command.Steer file program) x t of no_ = subst (λ (y : Op). IsAsFound (tables.course t y) (Some (command.Steer file program)) t) (some_same _ x of) tt
course_found s (command.Filter file program) x t of no_ = subst (λ (y : Op). IsAsFound (tables.course t y) (Some (command.Filter file program)) t) (some_same _ x of) tt
course_found s (command.Tick time) x t of no_ = subst (λ (y : Op). IsAsFound (tables.course t y) (Some (command.Tick time)) t) (some_same _ x of) tt
course_found s (command.Resize file capacity) x t of no_ = subst (λ (y : Op). IsAsFound (tables.course t y) (Some (command.Resize file capacity)) t) (some_same _ x of) tt
course_found s c x t of no_ = absurd (cc (of))

-- what a backend finds at its look
pub back_found : (t : Table) (vhost ring : ℕ) (file : Option ℕ) → back.back_refusal t vhost ring file ≡ None → IsAsFound (Backs None) (Some (command.Backend vhost ring file)) t
back_found t vhost ring None e = tt
back_found t vhost ring (Some file) e = λ there.
    back_finds t file (back.side_of ring) vhost
    (ap (λ (b : Bool). if b then refuse t (op.Back file (back.side_of ring) (Some vhost)) else None) (sym there) ∙ e)

-- the table after what an event publishes
module _ (s : Setup) (w : World) (x : Event) (u : World) (t : IsStep s w x u) where
  pub files_on : (o : OnFiles) → t.effect.files ≡ o → files_after o w.files ≡ Some t.between.files
  files_on o is = subst (λ (q : OnFiles). files_after q w.files ≡ Some t.between.files) is (effect_files t.effect x.actor t.actor x.command w t.between t.made)

  pub table_on : (ops : List Op) → t.effect.ops ≡ ops → table s t.between ≡ after_all (table s w) ops
  table_on ops is = table_after s w x u t ∙ ap (after_all (table s w)) is

  -- from what fits before to what fits after
  pub passes : (d e : Doing) (c k : Option Command) (ops : List Op) → Is w d c → Is t.between e k → t.effect.ops ≡ ops
      → (Fits d c (table s w) w.files → Fits e k (after_all (table s w) ops) t.between.files) → FitsWorld s w → FitsWorld s t.between
  passes d e c k ops was is published step h =
      onto t.between e k (table s t.between) t.between.files is
      (subst (λ (q : Table). Fits e k q t.between.files) (sym (table_on ops published)) (step (into w d c (table s w) w.files was h)))

  -- with the files of the world as they were
  pub passes_still : (d e : Doing) (c k : Option Command) (ops : List Op) → Is w d c → Is t.between e k → t.effect.ops ≡ ops → t.effect.files ≡ NoFile
      → (Fits d c (table s w) w.files → Fits e k (after_all (table s w) ops) w.files) → FitsWorld s w → FitsWorld s t.between
  passes_still d e c k ops was is published none step h =
      passes d e c k ops was is published (λ f. subst (λ (q : Files). Fits e k (after_all (table s w) ops) q) (some_same w.files t.between.files (files_on NoFile none)) (step f)) h

  pub steady_here : (ops : List Op) (o : OnFiles) → (writing t.between ≡ writing w) × (commanded t.between ≡ commanded w) → t.effect.ops ≡ ops
      → (after_all (table s w) ops).files ≡ (table s w).files → t.effect.files ≡ o → shapes.Leaves o → FitsWorld s w → FitsWorld s t.between
  steady_here ops o same published files is leaves h =
      subst (λ (q : Table). Fits (writing t.between) (commanded t.between) q t.between.files) (sym (table_on ops published))
      (steady_world w t.between (table s w) (after_all (table s w) ops) o t.between.files same files leaves (files_on o is) h)

  -- what the doing is after the effect
  pub doing_on : (r : Effect) → r ≡ t.effect → (d : Doing) → doing_after t.effect.onward d ≡ doing_after r.onward d
  doing_on r is d = ap (λ (q : Effect). doing_after q.onward d) (sym is)

  pub ops_on : (r : Effect) → r ≡ t.effect → t.effect.ops ≡ r.ops
  ops_on r is = ap (λ (q : Effect). q.ops) (sym is)

  pub on_files : (r : Effect) → r ≡ t.effect → t.effect.files ≡ r.files
  on_files r is = ap (λ (q : Effect). q.files) (sym is)

  -- a command that holds the writer goes on
  pub goes_within : (d e : Doing) (c : Command) (r : Effect) → r ≡ t.effect → View w t.between d (doing_after t.effect.onward d) c → doing_after r.onward d ≡ e
      → holds d ≡ true → holds e ≡ true → Is w d (Some c) × Is t.between e (Some c)
  goes_within d e c r eq view_ is h k = within w t.between d e c (at_view w t.between d d (doing_after t.effect.onward d) e c refl (doing_on r eq d ∙ is) view_) h k

  pub goes_last : (d : Doing) (c : Command) (r : Effect) → r ≡ t.effect → View w t.between d (doing_after t.effect.onward d) c → doing_after r.onward d ≡ Begun
      → holds d ≡ true → Is w d (Some c) × Is t.between Begun None
  goes_last d c r eq view_ is h = closes w t.between d Begun c (at_view w t.between d d (doing_after t.effect.onward d) Begun c refl (doing_on r eq d ∙ is) view_) h refl

  -- publications of a backend
  set_fits : (file vhost ring : ℕ) (asked : Option ℕ) → View w t.between (Backed file) (doing_after t.effect.onward (Backed file)) (command.Backend vhost ring asked) → (b : Bool) → (ring == 0) ≡ b
      → (if b then record
      (only (Goes (newest w + 1) (Owns file (newest w + 1)) (found.Version (newest w + 1))) w) { ops = op.Back file (back.side_of ring) (Some vhost) ∷ [] }
      else record (back.back_over w (newest w + 1) vhost ring (newest w + 1)) { ops = op.Back file (back.side_of ring) (Some vhost) ∷ [] }) ≡ t.effect
      → FitsWorld s w → FitsWorld s t.between
  set_fits file vhost ring asked view_ true is eq h =
      let v = goes_within (Backed file) (Owns file (newest w + 1)) (command.Backend vhost ring asked) _ eq view_ refl refl refl in
      passes_still (Backed file) (Owns file (newest w + 1)) (Some (command.Backend vhost ring asked)) (Some (command.Backend vhost ring asked))
      (op.Back file (back.side_of ring) (Some vhost) ∷ []) v.0 v.1 (ops_on _ eq) (on_files _ eq) (sets_rx vhost ring asked (table s w) file (newest w + 1) w.files is) h
  set_fits file vhost ring asked view_ false is eq h =
      let v = goes_last (Backed file) (command.Backend vhost ring asked) _ eq view_ refl refl in
      passes_still (Backed file) Begun (Some (command.Backend vhost ring asked)) None
      (op.Back file (back.side_of ring) (Some vhost) ∷ []) v.0 v.1 (ops_on _ eq) (on_files _ eq) (sets_tx vhost ring asked (table s w) file w.files is) h

  pub back_publishes : (d : Doing) (vhost ring : ℕ) (asked : Option ℕ) → View w t.between d (doing_after t.effect.onward d) (command.Backend vhost ring asked)
      → can_be d (command.Backend vhost ring asked) ≡ true → back.publishes_back w d (command.Backend vhost ring asked) ≡ Some t.effect → FitsWorld s w → FitsWorld s t.between
  back_publishes (Backed file) vhost ring asked view_ can e h = set_fits file vhost ring asked view_ (ring == 0) refl (some_same _ t.effect e) h
  back_publishes (Disowned file) vhost ring asked view_ can e h =
      let eq = some_same _ t.effect e in
      let v = goes_last (Disowned file) (command.Backend vhost ring asked) _ eq view_ refl refl in
      passes_still (Disowned file) Begun (Some (command.Backend vhost ring asked)) None (op.Back file (back.side_of ring) None ∷ []) v.0 v.1 (ops_on _ eq) (on_files _ eq)
      (unsets_rx ring (Some (command.Backend vhost ring asked)) (table s w) file w.files (rx_ring asked can)) h
    where
      rx_ring : (o : Option ℕ) → can_be (Disowned file) (command.Backend vhost ring o) ≡ true → (ring == 0) ≡ true
      rx_ring None k = (both _ _ k).1
      rx_ring (Some n) k = absurd (true≢false (sym k))
  back_publishes (Released file) vhost ring asked view_ can e h =
      let eq = some_same _ t.effect e in
      let v = goes_last (Released file) (command.Backend vhost ring asked) _ eq view_ refl refl in
      passes_still (Released file) Begun (Some (command.Backend vhost ring asked)) None (op.Back file (back.side_of ring) None ∷ []) v.0 v.1 (ops_on _ eq) (on_files _ eq)
      (unsets_tx ring (Some (command.Backend vhost ring asked)) (table s w) file w.files (tx_ring asked can)) h
    where
      false_of : (b : Bool) → not b ≡ true → b ≡ false
      false_of true k = absurd (true≢false (sym k))
      false_of false k = refl

      tx_ring : (o : Option ℕ) → can_be (Released file) (command.Backend vhost ring o) ≡ true → (ring == 0) ≡ false
      tx_ring None k = false_of (ring == 0) (both _ _ k).1
      tx_ring (Some n) k = absurd (true≢false (sym k))
  back_publishes d vhost ring asked view_ can e h = absurd (cc (e))

  -- the owner of a file changes
  pub owns : (d : Doing) (vhost ring : ℕ) (asked : Option ℕ) → View w t.between d (doing_after t.effect.onward d) (command.Backend vhost ring asked)
      → back.owns w t.actor.seen d (command.Backend vhost ring asked) ≡ Some t.effect → FitsWorld s w → FitsWorld s t.between
  owns (Owns file version) vhost ring asked view_ e h =
      let eq = some_same _ t.effect e in
      let v = goes_last (Owns file version) (command.Backend vhost ring asked) _ eq view_ refl refl in
      passes (Owns file version) Begun (Some (command.Backend vhost ring asked)) None [] v.0 v.1 (ops_on _ eq)
      (owning vhost ring asked (table s w) file version w.files t.between.files (files_on (OnFile file (Owned (Some vhost))) (on_files _ eq))) h
  owns (Unbacked file) vhost ring asked view_ e h =
      let eq = some_same _ t.effect e in
      let v = goes_within (Unbacked file) (Disowned file) (command.Backend vhost ring asked) _ eq view_ refl refl refl in
      passes (Unbacked file) (Disowned file) (Some (command.Backend vhost ring asked)) (Some (command.Backend vhost ring asked)) [] v.0 v.1 (ops_on _ eq)
      (disowning (Some (command.Backend vhost ring asked)) (table s w) file w.files t.between.files (files_on (OnFile file (Owned None)) (on_files _ eq))) h
  owns d vhost ring asked view_ e h = absurd (cc (e))

  -- a backend ends at its Drive, or goes on
  back_ends : (refusal : Option TapText) (c : Command) → View w t.between (Backs refusal) (doing_after t.effect.onward (Backs refusal)) c
      → doing_after t.effect.onward (Backs refusal) ≡ Begun → t.effect.ops ≡ [] → t.effect.files ≡ NoFile → FitsWorld s w → FitsWorld s t.between
  back_ends None c view_ is none still h =
      let v = closes w t.between (Backs None) Begun c (at_view w t.between (Backs None) (Backs None) _ Begun c refl is view_) refl refl in
      passes_still (Backs None) Begun (Some c) None [] v.0 v.1 none still (λ f. goes_on (Backs None) Begun (Some c) None (table s w) w.files (λ n y. refl) tt f) h
  back_ends (Some r) c view_ is none still h =
      steady_here [] NoFile (aside w t.between (Backs (Some r)) Begun c (at_view w t.between (Backs (Some r)) (Backs (Some r)) _ Begun c refl is view_) refl refl) none refl still tt h

  back_goes : (e : Doing) (c : Command) → View w t.between (Backs None) (doing_after t.effect.onward (Backs None)) c → doing_after t.effect.onward (Backs None) ≡ e → holds e ≡ true
      → t.effect.ops ≡ [] → t.effect.files ≡ NoFile → ((n : ℕ) (y : Agreed) → expected e (Some c) n y ≡ y) → (IsAsFound (Backs None) (Some c) (table s w) → IsAsFound e (Some c) (table s w))
      → FitsWorld s w → FitsWorld s t.between
  back_goes e c view_ is hold none still same found_ h =
      let v = within w t.between (Backs None) e c (at_view w t.between (Backs None) (Backs None) _ e c refl is view_) refl hold in
      passes_still (Backs None) e (Some c) (Some c) [] v.0 v.1 none still (λ f. goes_on (Backs None) e (Some c) (Some c) (table s w) w.files same (found_ f.found) f) h

  unsets : (vhost ring : ℕ) (v : Vhost) (m : Contents) (a : Option Answer) (file : Option ℕ)
      → View w t.between (Backs None) (doing_after t.effect.onward (Backs None)) (command.Backend vhost ring None)
      → back.unsets_back w x.actor t.actor.seen vhost ring v m a file ≡ t.effect → FitsWorld s w → FitsWorld s t.between
  unsets vhost ring v m (Some a) file view_ eq h = back_ends None (command.Backend vhost ring None) view_ (doing_on _ eq (Backs None)) (ops_on _ eq) (on_files _ eq) h
  unsets vhost ring v m None None view_ eq h = back_ends None (command.Backend vhost ring None) view_ (doing_on _ eq (Backs None)) (ops_on _ eq) (on_files _ eq) h
  unsets vhost ring v m None (Some file) view_ eq h = go (ring == 0) (doing_on _ eq (Backs None))
    where
      go : (b : Bool) → doing_after t.effect.onward (Backs None) ≡ (if b then Unbacked file else Released file) → FitsWorld s t.between
      go true is = back_goes (Unbacked file) (command.Backend vhost ring None) view_ is refl (ops_on _ eq) (on_files _ eq) (λ n y. refl) (λ f. tt) h
      go false is = back_goes (Released file) (command.Backend vhost ring None) view_ is refl (ops_on _ eq) (on_files _ eq) (λ n y. refl) (λ f. tt) h

  sets : (vhost ring file : ℕ) (refusal : Option TapText) (v : Vhost) (m : Contents) (a : Option Answer) → (a ≡ None → (is_ring ring ≡ true) × (refusal ≡ None))
      → View w t.between (Backs refusal) (doing_after t.effect.onward (Backs refusal)) (command.Backend vhost ring (Some file))
      → back.sets_back w x.actor t.actor.seen vhost ring file refusal v m a ≡ t.effect → FitsWorld s w → FitsWorld s t.between
  sets vhost ring file refusal v m (Some a) there view_ eq h = back_ends refusal (command.Backend vhost ring (Some file)) view_ (doing_on _ eq (Backs refusal)) (ops_on _ eq) (on_files _ eq) h
  sets vhost ring file None v m None there view_ eq h =
      back_goes (Backed file) (command.Backend vhost ring (Some file)) view_ (doing_on _ eq (Backs None)) refl (ops_on _ eq) (on_files _ eq) (λ n y. refl) (λ f. f (there refl).0) h
  sets vhost ring file (Some r) v m None there view_ eq h = absurd (cc ((there refl).1))

  pub drives : (refusal : Option TapText) (vhost ring : ℕ) (file : Option ℕ) (v : Vhost) (m : Contents) → (file ≡ None → refusal ≡ None)
      → View w t.between (Backs refusal) (doing_after t.effect.onward (Backs refusal)) (command.Backend vhost ring file)
      → back.back_call s w x.actor t.actor.seen refusal vhost ring file v m ≡ Some t.effect → FitsWorld s w → FitsWorld s t.between
  drives None vhost ring None v m no_ view_ eq h =
      let b = then_some (back.refused_by (number_refusal ring)) _ t.effect eq in
      unsets vhost ring v m b.0 (ring_at ring v.settings).file view_ (some_same _ t.effect b.2) h
  drives (Some r) vhost ring None v m no_ view_ eq h = absurd (cc (no_ refl))
  drives refusal vhost ring (Some file) v m no_ view_ eq h =
      let b = then_some (back.back_answer (ready_refusal ring m v.settings) refusal (back.unfit_for (steer.shape_of (table s w) file) v.settings)) _ t.effect eq in
      sets vhost ring file refusal v m b.0
      (λ e. let a = answered _ _ _ (b.1 ∙ ap (λ (o : Option Answer). Some o) e) in (ring_there ring (first_passed _ _ _ a.0), a.1)) view_ (some_same _ t.effect b.2) h

pub asked_is : (file capacity : ℕ) (c : Command) → can_be (Resizes file capacity) c ≡ true → asked_by (Some c) ≡ capacity
asked_is file capacity (command.Resize other k) e = equal k capacity (both _ _ e).1
asked_is file capacity c e = absurd (true≢false (sym e))
