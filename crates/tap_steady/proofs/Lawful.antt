-- This project's own: what the command that holds the writer is to publish stays lawful.
use Rattle.std.proofs.Common.{◌≡◌, ◌⊎◌, ℕ, List, [], Bool, true, false, Option, Some, None, inl, inr, ⊎_elim, refl, sym, ap, ◌∙◌, subst, true≢false}
use Rattle.std.specs.Prelude.{◌==◌, if◌then◌else◌}
use Rattle.tap_ground.specs.Options.{only_if}
use Rattle.tap_steer.specs.declared.operation.Op.{Op}
use Rattle.tap_steer.specs.declared.operation.Op.TheVariants as op
use Rattle.tap_steer.specs.Table.{Table}
use Rattle.tap_steer.specs.Rules.{refuse}
use Rattle.tap_steer.specs.After.{after_all}
use Rattle.tap_steer.specs.Select as steer
use Rattle.tap_ledger.specs.declared.error.TapErr.{TapErr as TapText}
use Rattle.vhost_dev.specs.declared.error.VhostErr.{VhostErr}
use Rattle.vhost_dev.specs.Refusals.{number_refusal, ready_refusal}
use Rattle.vhost_dev.specs.Settings.{ring_at}
use Rattle.vring_turns.specs.RxTurn.{RxTurn}
use Rattle.vring_turns.specs.TxTurn.{TxTurn}
use Rattle.guest_mem.specs.Memory.{Contents}
use Rattle.scen_words.specs.declared.command.Command.{Command}
use Rattle.scen_words.specs.declared.command.Command.TheVariants as command
use Rattle.tap_trace.specs.declared.answer.Answer.{Answer}
use Rattle.tap_trace.specs.declared.turn.ChainText.{ChainText}
use Rattle.tap_trace.specs.declared.turn.TurnText.{TurnText}
use Rattle.tap_world.specs.declared.event.Event.{Event}
use Rattle.tap_world.specs.declared.event.Found.{Found}
use Rattle.tap_world.specs.Guests.{Vhost, is_ring}
use Rattle.tap_world.specs.Setup.{Setup, op_of, setup_of}
use Rattle.tap_world.specs.World.{Doing, World, table}
use Rattle.tap_world.specs.World.Doing.{Backed, Backs, Changes, Disowned, Opened, Opens, Owns, Released, Shrinks, Unbacked, Withdraws}
use Rattle.tap_world.specs.Effect.{Effect, Onward}
use Rattle.tap_world.specs.Effect.Onward.{Ends, Goes, Stays}
use Rattle.tap_world.specs.Runs.{begins}
use Rattle.tap_world.specs.StepBackend as back
use Rattle.tap_world.specs.StepTurns as rx_turns
use Rattle.tap_world.specs.StepTransmits as tx_turns
use Rattle.tap_world.specs.Each.{EachActor}
use Rattle.tap_world.specs.Sound.{WriterIsHeld, holds}
use Rattle.tap_world.specs.SoundActors.{can_be}
use Rattle.tap_world.specs.SoundTable.{commanded, writing}
use Rattle.tap_world.specs.Steady.{IsStillLawful, backs_by, to_publish}
use Rattle.tap_sound.proofs.Kit.{either, some_same, then_some}
use Rattle.tap_sound.proofs.Steps.{never_none}
use Rattle.tap_sound.proofs.Shapes.{Alike, Shape}
use Rattle.tap_sound.proofs.Shapes.Shape.{Approves, BackApproves, BackDrives, BackPublishes, Calling, Giving, Learning, Owning, Publishing, Quiet, Reopening, RxTurning, Shutting, Sizing, Touching, Trims, TxTurning, Withdrawing}
use Rattle.tap_sound.proofs.Taken.{IsStep, step_is, when_settled}
use Rattle.tap_sound.proofs.Held.{can_here, shape_here}
use Rattle.tap_sound.proofs.Turned.{is_at}
use Rattle.tap_sound.proofs.Views.{View, ending_view, is_none_held, view}
use Rattle.tap_sound.proofs.Views.View.{Aside, Begins, Closes, Within}
use Rattle.tap_sound.proofs.Writers.{course_is, doing_after, last_holds}
use Rattle.tap_steady.specs.Part.{IsPart}
use Rattle.tap_steady.proofs.LawfulKit.{none_writes, table_between}

-- ---- what each shape publishes, and leaves to be published

-- Where the command is to publish an operation after an event, the event published nothing, and it was to publish that
-- before, or that isn't refused now. A command that doesn't hold the writer publishes nothing, or nobody holds it.
pub record LeavesLawful (s : Setup) (w : World) (d : Doing) (c : Command) (r : Effect) : Type 0 where
  pub go : (x : Op) → to_publish s (doing_after r.onward d) c ≡ Some x
      → (r.ops ≡ []) × ((to_publish s d c ≡ Some x) ⊎ (refuse (table s w) x ≡ None))
  pub aside : holds d ≡ false → (r.ops ≡ []) ⊎ (w.writer ≡ None)

-- a command that doesn't hold the writer is to publish nothing that has rules
to_hold : (s : Setup) (d : Doing) (c : Command) (x : Op) → holds d ≡ false → to_publish s d c ≡ Some x → ⊥
to_hold s Changes c x h k = true≢false h
to_hold s (Opens file) c x h k = true≢false h
to_hold s (Opened file) c x h k = true≢false h
to_hold s (Withdraws file) c x h k = true≢false h
to_hold s (Doing.Resizes file capacity) c x h k = true≢false h
to_hold s (Shrinks file places cuts) c x h k = true≢false h
to_hold s (Backs None) c x h k = true≢false h
to_hold s (Backed file) c x h k = true≢false h
to_hold s d c x h k = cc (k)

-- nothing is to be published afterwards
never : (s : Setup) (w : World) (d : Doing) (c : Command) (r : Effect) → to_publish s (doing_after r.onward d) c ≡ None
    → (holds d ≡ false → (r.ops ≡ []) ⊎ (w.writer ≡ None)) → LeavesLawful s w d c r
never s w d c r isnt aside = record { go = λ x h. absurd (cc (isnt, h)); aside = aside }

-- what was to be published before still is
was : (s : Setup) (w : World) (d e : Doing) (c : Command) (r : Effect) → d ≡ e
    → to_publish s (doing_after r.onward d) c ≡ to_publish s e c
    → r.ops ≡ [] → LeavesLawful s w d c r
was s w d e c r is same none = record {
  go = λ x h. (none, inl (ap (λ (q : Doing). to_publish s q c) is ∙ sym same ∙ h));
  aside = λ h. inl none;
}

alike : (s : Setup) (w : World) (d : Doing) (c : Command) (r : Effect) (o : Onward) → r.onward ≡ o → Alike d o
    → ((x : Op) → to_publish s d c ≡ Some x → r.ops ≡ []) → (holds d ≡ false → (r.ops ≡ []) ⊎ (w.writer ≡ None))
    → LeavesLawful s w d c r
alike s w d c r (Stays f) is a none aside = record {
  go = λ x h. let k : to_publish s d c ≡ Some x = sym (ap (λ (q : Onward). to_publish s (doing_after q d) c) is)
      ∙ h in (none x k, inl k);
  aside = aside;
}
alike s w d c r (Ends seen y) is a none aside = never s w d c r
    (ap (λ (q : Onward). to_publish s (doing_after q d) c) is) aside
alike s w d c r (Goes seen e f) is a none aside = record {
  go = λ x h. absurd (to_hold s e c x a.1 (sym (ap (λ (q : Onward). to_publish s (doing_after q d) c) is) ∙ h));
  aside = aside;
}

-- ---- backends

abbrev set_by : ℕ → ℕ → Option ℕ → Command
set_by vhost ring asked = command.Backend vhost ring asked

back_publishes : (s : Setup) (w : World) (d : Doing) (vhost ring : ℕ) (asked : Option ℕ) (r : Effect)
    → back.publishes_back w d (set_by vhost ring asked) ≡ Some r → LeavesLawful s w d (set_by vhost ring asked) r
back_publishes s w (Backed file) vhost ring asked r e =
    let c = set_by vhost ring asked in
    subst (LeavesLawful s w (Backed file) c) (some_same _ r e)
    (either (LeavesLawful s w (Backed file) c) (ring == 0) _ _
    (never s w (Backed file) c _ refl (λ h. absurd (true≢false h)))
    (never s w (Backed file) c _ refl (λ h. absurd (true≢false h))))
back_publishes s w (Disowned file) vhost ring asked r e =
    subst (LeavesLawful s w (Disowned file) (set_by vhost ring asked)) (some_same _ r e)
    (never s w (Disowned file) (set_by vhost ring asked) _ refl (λ h. absurd (true≢false h)))
back_publishes s w (Released file) vhost ring asked r e =
    subst (LeavesLawful s w (Released file) (set_by vhost ring asked)) (some_same _ r e)
    (never s w (Released file) (set_by vhost ring asked) _ refl (λ h. absurd (true≢false h)))
back_publishes s w d vhost ring asked r e = absurd (cc (e))

owns : (s : Setup) (w : World) (seen : ℕ) (d : Doing) (vhost ring : ℕ) (asked : Option ℕ) (r : Effect)
    → back.owns w seen d (set_by vhost ring asked) ≡ Some r → LeavesLawful s w d (set_by vhost ring asked) r
owns s w seen (Owns file version) vhost ring asked r e =
    subst (LeavesLawful s w (Owns file version) (set_by vhost ring asked)) (some_same _ r e)
    (never s w (Owns file version) (set_by vhost ring asked) _ refl (λ h. inl refl))
owns s w seen (Unbacked file) vhost ring asked r e =
    subst (LeavesLawful s w (Unbacked file) (set_by vhost ring asked)) (some_same _ r e)
    (never s w (Unbacked file) (set_by vhost ring asked) _ refl (λ h. inl refl))
owns s w seen d vhost ring asked r e = absurd (cc (e))

unsets : (s : Setup) (w : World) (c : Command) (me seen vhost ring : ℕ) (x : Option TapText) (v : Vhost) (m : Contents)
    (a : Option Answer) (file : Option ℕ)
    → LeavesLawful s w (Backs x) c (back.unsets_back w me seen vhost ring v m a file)
unsets s w c me seen vhost ring x v m (Some a) file = never s w (Backs x) c _ refl (λ h. inl refl)
unsets s w c me seen vhost ring x v m None None = never s w (Backs x) c _ refl (λ h. inl refl)
unsets s w c me seen vhost ring x v m None (Some file) = never s w (Backs x) c _
    (either (λ (d : Doing). to_publish s d c ≡ None) (ring == 0) (Unbacked file) (Released file) refl refl)
    (λ h. inl refl)

sets : (s : Setup) (w : World) (c : Command) (me seen vhost ring file : ℕ) (x : Option TapText) (v : Vhost)
    (m : Contents) (a : Option Answer) → (a ≡ None → x ≡ None)
    → LeavesLawful s w (Backs x) c (back.sets_back w me seen vhost ring file x v m a)
sets s w c me seen vhost ring file x v m (Some a) h = never s w (Backs x) c _ refl (λ k. inl refl)
sets s w c me seen vhost ring file x v m None h =
    was s w (Backs x) (Backs None) c _ (ap (λ (q : Option TapText). Backs q) (h refl)) refl refl

-- a backend that has no answer yet isn't refused by the table
pub unrefused : (a : Option VhostErr) (x : Option TapText) (u : Option VhostErr) → back.back_answer a x u ≡ Some None
    → x ≡ None
unrefused (Some e) x u h = absurd (never_none _ h)
unrefused None (Some r) u h = absurd (cc (h))
unrefused None None u h = refl

drives : (s : Setup) (w : World) (c : Command) (me seen : ℕ) (x : Option TapText) (vhost ring : ℕ) (file : Option ℕ)
    (v : Vhost) (m : Contents) (r : Effect)
    → back.back_call s w me seen x vhost ring file v m ≡ Some r → LeavesLawful s w (Backs x) c r
drives s w c me seen x vhost ring None v m r e =
    let t = then_some (back.refused_by (number_refusal ring)) _ r e in
    subst (LeavesLawful s w (Backs x) c) (some_same _ r t.2)
    (unsets s w c me seen vhost ring x v m t.0 (ring_at ring v.settings).file)
drives s w c me seen x vhost ring (Some file) v m r e =
    let t = then_some (back.back_answer (ready_refusal ring m v.settings) x
    (back.unfit_for (steer.shape_of (table s w) file) v.settings)) _ r e in
    subst (LeavesLawful s w (Backs x) c) (some_same _ r t.2)
    (sets s w c me seen vhost ring file x v m t.0
    (λ none. unrefused (ready_refusal ring m v.settings) x (back.unfit_for (steer.shape_of (table s w) file) v.settings)
    (t.1 ∙ ap (λ (o : Option Answer). Some o) none)))

-- a backend that its look approved is to publish what the table doesn't refuse
approved_back : (t : Table) (vhost ring : ℕ) (file : Option ℕ) (x : Op) → back.back_refusal t vhost ring file ≡ None
    → backs_by (set_by vhost ring file) ≡ Some x → refuse t x ≡ None
approved_back t vhost ring None x h e = absurd (cc (e))
approved_back t vhost ring (Some file) x h e = go (is_ring ring) h e
  where
    go : (b : Bool) → (if b then refuse t (op.Back file (back.side_of ring) (Some vhost)) else None) ≡ None
        → only_if b (op.Back file (back.side_of ring) (Some vhost)) ≡ Some x → refuse t x ≡ None
    go true k same = subst (λ (y : Op). refuse t y ≡ None) (some_same _ x same) k
    go false k same = absurd (cc (same))

-- ---- turns

rx : (s : Setup) (c : Command) (seen file : ℕ) (t : RxTurn) (f : Found) (d : Doing) (o : Option TurnText)
    → to_publish s (doing_after (rx_turns.rx_onward seen file t f o) d) c ≡ None
rx s c seen file t f d None = refl
rx s c seen file t f d (Some e) = refl

tx : (s : Setup) (c : Command) (seen file : ℕ) (t : TxTurn) (told : List ChainText) (f : Found) (d : Doing)
    (o : Option TurnText)
    → to_publish s (doing_after (tx_turns.tx_onward seen file t told f o) d) c ≡ None
tx s c seen file t told f d None = refl
tx s c seen file t told f d (Some e) = refl

-- ---- each shape

pub leaves_lawful : (s : Setup) (w : World) (me seen : ℕ) (d : Doing) (c : Command) (r : Effect)
    → holds d ≡ is_at me w.writer
    → Shape s w me seen d c r → LeavesLawful s w d c r
leaves_lawful s w me seen d c r mine (Quiet o f g v wr a) = alike s w d c r r.onward refl a (λ x k. o) (λ h. inl o)
leaves_lawful s w me seen d c r mine (Giving vhost file t told o f g v wr h) =
    never s w d c r (ap (λ (q : Onward). to_publish s (doing_after q d) c) h.goes) (λ k. inl o)
leaves_lawful s w me seen d c r mine (Trims file n m k f is eq) =
    subst (LeavesLawful s w d c) eq (was s w d (Shrinks file n m) c _ is refl refl)
leaves_lawful s w me seen d c r mine (Approves x is of free lawful eq) = subst (LeavesLawful s w d c) eq (record {
  go = λ y h. (
    refl,
    inr (subst (λ (z : Op). refuse (table s w) z ≡ None)
        (some_same x y (sym of ∙ sym (course_is (λ (e : Doing). to_publish s e c ≡ op_of s c) (table s w) x
        (λ file. refl) (λ file. refl) (λ file k. refl) refl) ∙ h)) lawful),
  );
  aside = λ h. inl refl;
})
leaves_lawful s w me seen d c r mine (BackApproves vhost ring file v is cis at_ free turn lawful eq) = subst
    (LeavesLawful s w d c) eq (record {
      go = λ y h. (refl, inr (approved_back (table s w) vhost ring file y lawful (sym (ap backs_by cis) ∙ h)));
      aside = λ h. inl refl;
    })
leaves_lawful s w me seen d c r mine (Reopening file f is at_ eq) =
    subst (LeavesLawful s w d c) eq (was s w d (Opens file) c _ is refl refl)
leaves_lawful s w me seen d c r mine (Shutting file version f is at_ eq) = subst (LeavesLawful s w d c) eq
    (never s w d c _ refl (λ h. inl refl))
leaves_lawful s w me seen d c r mine (Sizing file capacity f is at_ eq) =
    subst (LeavesLawful s w d c) eq (was s w d (Doing.Resizes file capacity) c _ is refl refl)
leaves_lawful s w me seen d c r mine (Publishing x v y last of lawful eq) =
    subst (LeavesLawful s w d c) eq (never s w d c _ refl (λ h. absurd (true≢false (sym (last_holds d last) ∙ h))))
leaves_lawful s w me seen d c r mine (Withdrawing x file is of lawful eq) =
    subst (LeavesLawful s w d c) eq (never s w d c _ refl (λ h. absurd (true≢false (sym (ap holds is) ∙ h))))
leaves_lawful s w me seen d c r mine (Learning file hash o f g v wr free a) =
    alike s w d c r r.onward refl a (λ x k. absurd (to_hold s d c x (mine ∙ ap (is_at me) free) k)) (λ h. inr free)
leaves_lawful s w me seen d c r mine (BackPublishes vhost ring asked cis eq) =
    subst (λ (k : Command). LeavesLawful s w d k r) (sym cis) (back_publishes s w d vhost ring asked r eq)
leaves_lawful s w me seen d c r mine (Owning vhost ring asked cis eq) =
    subst (λ (k : Command). LeavesLawful s w d k r) (sym cis) (owns s w seen d vhost ring asked r eq)
leaves_lawful s w me seen d c r mine (BackDrives x vhost ring file v g is cis a b free eq) =
    subst (λ (q : Doing). LeavesLawful s w q c r) (sym is) (drives s w c me seen x vhost ring file v g.memory r eq)
leaves_lawful s w me seen d c r mine (Calling vhost v g x is of a b call may eq) = subst (LeavesLawful s w d c) eq
    (never s w d c _ refl (λ h. inl refl))
leaves_lawful s w me seen d c r mine (Touching guest g m step v y at_ same is o f gs vs wr on) =
    never s w d c r (ap (λ (q : Onward). to_publish s (doing_after q d) c) on) (λ h. inl o)
leaves_lawful s w me seen d c r mine (RxTurning vhost file t v g h made files f over cis a b way step lv told eq) =
    subst (LeavesLawful s w d c) eq (never s w d c _ (rx s c seen file made.0.turn f d over) (λ h. inl refl))
leaves_lawful s w me seen d c r mine (TxTurning vhost file t told v g made st over cis a b way step end_ eq) =
    subst (LeavesLawful s w d c) eq (never s w d c _ (tx s c seen file made.0.turn _ _ d over) (λ h. inl refl))

-- ---- an event

between_lawful : (s : Setup) (w : World) (x : Event) (u : World) (t : IsStep s w x u)
    → can_be t.actor.doing t.now.command ≡ true
    → Shape s w x.actor t.actor.seen t.actor.doing t.now.command t.effect → EachActor w (WriterIsHeld w)
    → IsStillLawful s w → IsStillLawful s t.between
between_lawful s w x u t can shape held h k y kis of = go (view s w x u t can shape held)
  where
    mine : holds t.actor.doing ≡ is_at x.actor w.writer
    mine = held x.actor t.actor t.found

    leaves : LeavesLawful s w t.actor.doing t.now.command t.effect
    leaves = leaves_lawful s w x.actor t.actor.seen t.actor.doing t.now.command t.effect mine shape

    still : t.effect.ops ≡ [] → refuse (table s w) y ≡ None → refuse (table s t.between) y ≡ None
    still none lawful = ap (λ (q : Table). refuse q y) (table_between s w x u t ∙ ap (after_all (table s w)) none)
        ∙ lawful

    own : to_publish s (doing_after t.effect.onward t.actor.doing) t.now.command ≡ Some y
        → (to_publish s t.actor.doing t.now.command ≡ Some y → refuse (table s w) y ≡ None)
        → refuse (table s t.between) y ≡ None
    own go_on before =
        let l = leaves.go y go_on in
        still l.0 (⊎_elim (λ was_. before was_) (λ now. now) l.1)

    -- what it is to publish now, by what it is doing and its command
    to_be : (e : Doing) → writing t.between ≡ e → commanded t.between ≡ Some t.now.command
        → to_publish s e t.now.command ≡ Some y
    to_be e is cis =
        sym (ap (λ (q : Doing). to_publish s q t.now.command) is)
        ∙ sym (ap (λ (c : Command). to_publish s (writing t.between) c) (some_same k t.now.command (sym kis ∙ cis)))
        ∙ of

    go : View w t.between t.actor.doing (doing_after t.effect.onward t.actor.doing) t.now.command
        → refuse (table s t.between) y ≡ None
    go (Aside a b q c) = ⊎_elim
        (λ none. still none (h k y (sym c ∙ kis) (sym (ap (λ (e : Doing). to_publish s e k) q) ∙ of)))
        (λ free. absurd (cc (kis, c, (is_none_held w free).1)))
        (leaves.aside a)
    go (Begins b i a c) = own (to_be _ i.0 i.1) (λ was_. absurd (to_hold s t.actor.doing t.now.command y a was_))
    go (Within b i a c) = own (to_be _ i.0 i.1)
        (λ was_. h t.now.command y b.1 (ap (λ (q : Doing). to_publish s q t.now.command) b.0 ∙ was_))
    go (Closes b i a c) = absurd (cc (kis, i.1))

pub what_is_to_be_published_stays_lawful : IsPart (λ s w. IsStillLawful s w)
what_is_to_be_published_stays_lawful = record {
  first = λ s laid c x cis of. absurd (cc (cis));
  begin = λ s ended p w laid between is sound steady c x cis of.
      absurd (cc (cis, (is_none_held (begins ended p w) (none_writes w sound.sound.actors between.all_ended)).1));
  event = λ s w e u laid of_ is sound steady after.
      let t = step_is (setup_of s) w e u is in
      let actors = sound.sound.actors in
      let can = can_here (setup_of s) w e u.0 t actors.stand in
      let shape = shape_here (setup_of s) w e u.0 t actors.stand in
      subst (IsStillLawful (setup_of s)) t.is
      (when_settled (IsStillLawful (setup_of s)) t.between
      (between_lawful (setup_of s) w e u.0 t can shape actors.writer steady.lawful)
      (λ f end c x cis of. absurd (cc (cis, (ending_view t.between f end).1.1))));
}
