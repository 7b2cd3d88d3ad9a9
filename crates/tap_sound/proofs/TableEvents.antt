-- Every event keeps what files have of the table: all shapes.
use Rattle.std.proofs.Common.{◌≡◌, ℕ, ◌+◌, [], ◌∷◌, true, false, Some, None, refl, sym, ap, ◌∙◌, subst}
use Rattle.scen_words.specs.declared.command.Command.{Command}
use Rattle.tap_world.specs.declared.event.Event.{Event}
use Rattle.tap_world.specs.Setup.{Setup}
use Rattle.tap_world.specs.World.{Doing, World, newest, table}
use Rattle.tap_world.specs.World.Doing.{Backs, Begun, Opened, Opens, Purges, Resizes, Shrinks, Withdrawn, Withdraws}
use Rattle.tap_world.specs.Effect.{OnFiles, Onward, ended}
use Rattle.tap_world.specs.Effect.OnFiles.{NoFile, OnFile}
use Rattle.tap_world.specs.LineSteps.Change.{Cuts, Reopens, Shuts, Sizes}
use Rattle.tap_world.specs.Each.{EachActor}
use Rattle.tap_world.specs.Sound.{WriterIsHeld, holds}
use Rattle.tap_world.specs.SoundActors.{can_be}
use Rattle.tap_world.specs.SoundTable.{Agreed, IsAsFound, expected}
use Rattle.tap_sound.proofs.Agreeing.{goes_on, reopening, shutting, sizing, steady}
use Rattle.tap_sound.proofs.Publishing.{publishing, withdrawing}
use Rattle.tap_sound.proofs.Shapes.{Shape}
use Rattle.tap_sound.proofs.Shapes.Shape.{Giving, Approves, BackApproves, BackDrives, BackPublishes, Calling, Learning, Owning, Publishing, Quiet, Reopening, RxTurning, Shutting, Sizing, Touching, Trims, TxTurning, Withdrawing}
use Rattle.tap_sound.proofs.TableFiles.{learn_same}
use Rattle.tap_sound.proofs.Taken.{IsStep, when_settled}
use Rattle.tap_sound.proofs.Views.{View, ending_view, view}
use Rattle.tap_sound.proofs.Writers.{course_is, doing_after, rx_free, rx_holds, tx_free, tx_holds, unset_refusal, last_holds}
use Rattle.tap_world.specs.Line.{claimed}
use Rattle.tap_sound.proofs.TableKept.{FitsWorld, alike_view, aside, asked_is, at_view, back_found, back_publishes, begins, course_found, doing_on, drives, files_on, goes_last, goes_within, on_files, ops_on, owns, passes, passes_still, steady_here, into, onto}
use Rattle.tap_steer.specs.declared.operation.Op.TheVariants as op
use Rattle.scen_words.specs.declared.command.Command.TheVariants as command
use Rattle.tap_world.specs.StepTable as tables
use Rattle.tap_sound.proofs.Shapes as shapes

-- an event whose command holds the writer neither before nor after it
free_event : (s : Setup) (w : World) (x : Event) (u : World) (t : IsStep s w x u) (o : OnFiles) → View w t.between t.actor.doing (doing_after t.effect.onward t.actor.doing) t.now.command
    → holds t.actor.doing ≡ false → holds (doing_after t.effect.onward t.actor.doing) ≡ false → t.effect.ops ≡ [] → t.effect.files ≡ o → shapes.Leaves o
    → FitsWorld s w → FitsWorld s t.between
free_event s w x u t o view_ a b none is leaves h = steady_here s w x u t [] o (aside w t.between _ _ t.now.command view_ a b) none refl is leaves h

fits_between : (s : Setup) (w : World) (x : Event) (u : World) (t : IsStep s w x u) → can_be t.actor.doing t.now.command ≡ true
    → Shape s w x.actor t.actor.seen t.actor.doing t.now.command t.effect
    → View w t.between t.actor.doing (doing_after t.effect.onward t.actor.doing) t.now.command → FitsWorld s w → FitsWorld s t.between
fits_between s w x u t can (Quiet o f g v wr alike) view_ h =
    steady_here s w x u t [] t.effect.files (alike_view w t.between t.actor.doing t.effect.onward t.now.command alike view_) o refl refl f h
fits_between s w x u t can (Giving vhost file q told o f g v wr k) view_ h =
    free_event s w x u t NoFile view_ (ap holds k.doing) (ap (λ (y : Onward). holds (doing_after y t.actor.doing)) k.goes) o f tt h
fits_between s w x u t can (Trims file n m k f is eq) view_ h =
    let v = goes_within s w x u t (Shrinks file n m) (Shrinks file n k) t.now.command _ eq (at_view w t.between _ (Shrinks file n m) _ _ t.now.command is (ap (doing_after t.effect.onward) is) view_) refl refl refl in
    passes s w x u t (Shrinks file n m) (Shrinks file n k) (Some t.now.command) (Some t.now.command) [] v.0 v.1 (ops_on s w x u t _ eq)
    (λ q. goes_on (Shrinks file n m) (Shrinks file n k) (Some t.now.command) (Some t.now.command) (table s w) t.between.files (λ i y. refl) tt
    (steady (Shrinks file n m) (Some t.now.command) (table s w) (table s w) (OnFile file Cuts) w.files t.between.files refl tt (files_on s w x u t (OnFile file Cuts) (on_files s w x u t _ eq)) q)) h
fits_between s w x u t can (Approves y is of free no_ eq) view_ h =
    let e : Doing = tables.course (table s w) y in
    let v = begins w t.between Begun e t.now.command (at_view w t.between _ Begun _ e t.now.command is (doing_on s w x u t _ eq t.actor.doing) view_) refl
    (course_is (λ (q : Doing). holds q ≡ true) (table s w) y (λ file. refl) (λ file. refl) (λ file k. refl) refl) in
    passes_still s w x u t Begun e None (Some t.now.command) [] v.0 v.1 (ops_on s w x u t _ eq) (on_files s w x u t _ eq)
    (λ q. goes_on Begun e None (Some t.now.command) (table s w) w.files
    (course_is (λ (p : Doing). (n : ℕ) (z : Agreed) → expected p (Some t.now.command) n z ≡ z) (table s w) y (λ file n z. refl) (λ file n z. refl) (λ file k n z. refl) (λ n z. refl))
    (course_found s t.now.command y (table s w) of no_) q) h
fits_between s w x u t can (BackApproves vhost ring file v0 is cis at_ free turn no_ eq) view_ h =
    let v = begins w t.between Begun (Backs None) t.now.command (at_view w t.between _ Begun _ (Backs None) t.now.command is (doing_on s w x u t _ eq t.actor.doing) view_) refl refl in
    passes_still s w x u t Begun (Backs None) None (Some t.now.command) [] v.0 v.1 (ops_on s w x u t _ eq) (on_files s w x u t _ eq)
    (λ q. goes_on Begun (Backs None) None (Some t.now.command) (table s w) w.files (λ n z. refl)
    (subst (λ (c : Command). IsAsFound (Backs None) (Some c) (table s w)) (sym cis) (back_found (table s w) vhost ring file no_)) q) h
fits_between s w x u t can (Reopening file f is at_ eq) view_ h =
    let v = goes_within s w x u t (Opens file) (Opened file) t.now.command _ eq (at_view w t.between _ (Opens file) _ _ t.now.command is (ap (doing_after t.effect.onward) is) view_) refl refl refl in
    passes s w x u t (Opens file) (Opened file) (Some t.now.command) (Some t.now.command) [] v.0 v.1 (ops_on s w x u t _ eq)
    (reopening (Some t.now.command) (table s w) file w.files t.between.files (files_on s w x u t (OnFile file Reopens) (on_files s w x u t _ eq))) h
fits_between s w x u t can (Shutting file version f is at_ eq) view_ h =
    let v = goes_within s w x u t (Withdrawn file version) (Purges file version) t.now.command _ eq
    (at_view w t.between _ (Withdrawn file version) _ _ t.now.command is (ap (doing_after t.effect.onward) is) view_) refl refl refl in
    passes s w x u t (Withdrawn file version) (Purges file version) (Some t.now.command) (Some t.now.command) [] v.0 v.1 (ops_on s w x u t _ eq)
    (shutting (Some t.now.command) (table s w) file version w.files t.between.files (files_on s w x u t (OnFile file Shuts) (on_files s w x u t _ eq))) h
fits_between s w x u t can (Sizing file capacity f is at_ eq) view_ h =
    let v = goes_within s w x u t (Resizes file capacity) (Shrinks file (claimed f) 0) t.now.command _ eq
    (at_view w t.between _ (Resizes file capacity) _ _ t.now.command is (ap (doing_after t.effect.onward) is) view_) refl refl refl in
    passes s w x u t (Resizes file capacity) (Shrinks file (claimed f) 0) (Some t.now.command) (Some t.now.command) [] v.0 v.1 (ops_on s w x u t _ eq)
    (sizing t.now.command (table s w) file capacity (claimed f) w.files t.between.files (files_on s w x u t (OnFile file (Sizes capacity)) (on_files s w x u t _ eq))
    (asked_is file capacity t.now.command (subst (λ (d : Doing). can_be d t.now.command ≡ true) is can))) h
fits_between s w x u t can (Publishing y n ans last of no_ eq) view_ h =
    let v = goes_last s w x u t t.actor.doing t.now.command _ eq view_ refl (last_holds t.actor.doing last) in
    passes_still s w x u t t.actor.doing Begun (Some t.now.command) None (y ∷ []) v.0 v.1 (ops_on s w x u t _ eq) (on_files s w x u t _ eq)
    (publishing s t.actor.doing t.now.command y (table s w) w.files last can of no_) h
fits_between s w x u t can (Withdrawing y file is of no_ eq) view_ h =
    let v = goes_within s w x u t (Withdraws file) (Withdrawn file (newest w + 1)) t.now.command _ eq
    (at_view w t.between _ (Withdraws file) _ _ t.now.command is (ap (doing_after t.effect.onward) is) view_) refl refl refl in
    passes_still s w x u t (Withdraws file) (Withdrawn file (newest w + 1)) (Some t.now.command) (Some t.now.command) (y ∷ []) v.0 v.1 (ops_on s w x u t _ eq) (on_files s w x u t _ eq)
    (withdrawing s file (newest w + 1) t.now.command y (table s w) w.files (subst (λ (d : Doing). can_be d t.now.command ≡ true) is can) of) h
fits_between s w x u t can (Learning file hash o f g v wr free alike) view_ h =
    steady_here s w x u t (op.Learn file hash ∷ []) NoFile (alike_view w t.between t.actor.doing t.effect.onward t.now.command alike view_) o (learn_same (table s w) file hash) f tt h
fits_between s w x u t can (BackPublishes vhost ring asked cis eq) view_ h =
    back_publishes s w x u t t.actor.doing vhost ring asked (subst (View w t.between t.actor.doing (doing_after t.effect.onward t.actor.doing)) cis view_)
    (subst (λ (c : Command). can_be t.actor.doing c ≡ true) cis can) eq h
fits_between s w x u t can (Owning vhost ring asked cis eq) view_ h =
    owns s w x u t t.actor.doing vhost ring asked (subst (View w t.between t.actor.doing (doing_after t.effect.onward t.actor.doing)) cis view_) eq h
fits_between s w x u t can (BackDrives refusal vhost ring file v g is cis a b free eq) view_ h =
    drives s w x u t refusal vhost ring file v g.memory
    (λ none. unset_refusal t.actor.doing refusal vhost ring t.now.command is (cis ∙ ap (command.Backend vhost ring) none) can)
    (subst (View w t.between (Backs refusal) (doing_after t.effect.onward (Backs refusal))) cis
    (at_view w t.between _ (Backs refusal) _ _ t.now.command is (ap (doing_after t.effect.onward) is) view_)) eq h
fits_between s w x u t can (Calling vhost v g y is of a b call may eq) view_ h =
    free_event s w x u t NoFile view_ (ap holds is) (ap holds (doing_on s w x u t _ eq t.actor.doing)) (ops_on s w x u t _ eq) (on_files s w x u t _ eq) tt h
fits_between s w x u t can (Touching guest g m step v y at_ same is o f gs vs wr on) view_ h =
    free_event s w x u t NoFile view_ (ap holds is) (ap (λ (q : Onward). holds (doing_after q t.actor.doing)) on) o f tt h
fits_between s w x u t can (RxTurning vhost file q v g hd made files f over cis a b way step leaves told_ eq) view_ h =
    free_event s w x u t files view_ (rx_free x.actor t.actor.doing file q v way)
    (ap holds (doing_on s w x u t _ eq t.actor.doing) ∙ rx_holds t.actor.seen file made.0.turn f t.actor.doing over)
    (ops_on s w x u t _ eq) (on_files s w x u t _ eq) leaves h
fits_between s w x u t can (TxTurning vhost file q told v g made st over cis a b way step end_ eq) view_ h =
    free_event s w x u t NoFile view_ (tx_free t.actor.doing file q told v way)
    (ap holds (doing_on s w x u t _ eq t.actor.doing) ∙ tx_holds t.actor.seen file made.0.turn _ _ t.actor.doing over)
    (ops_on s w x u t _ eq) (on_files s w x u t _ eq) tt h

-- at the end of a purge its file has what the table has
pub fits_are_kept : (s : Setup) (w : World) (x : Event) (u : World) (t : IsStep s w x u) → can_be t.actor.doing t.now.command ≡ true
    → Shape s w x.actor t.actor.seen t.actor.doing t.now.command t.effect → EachActor w (WriterIsHeld w) → FitsWorld s w → FitsWorld s u
fits_are_kept s w x u t can shape writer h =
    let b = fits_between s w x u t can shape (view s w x u t can shape writer) h in
    subst (FitsWorld s) t.is (when_settled (FitsWorld s) t.between b (λ f end.
    let v = ending_view t.between f end in
    onto (ended f t.between) Begun None (table s t.between) t.between.files v.1
    (goes_on (Purges end.file f.version) Begun (Some end.now.command) None (table s t.between) t.between.files (λ n y. refl) tt
    (into t.between (Purges end.file f.version) (Some end.now.command) (table s t.between) t.between.files v.0 b))))
