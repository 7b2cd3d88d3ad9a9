-- The writer is held by the command that holds it, after every event.
use Rattle.std.proofs.Common.{◌≡◌, ℕ, List, true, false, Option, Some, None, inl, inr, ⊎_elim, refl, sym, ap, ◌∙◌, subst, true≢false}
use Rattle.std.specs.Prelude.{◌==◌, ◌||◌, drop, is_none, slice_get}
use Rattle.guest_mem.specs.Memory.{Contents}
use Rattle.tap_steer.specs.declared.operation.Op.{Op}
use Rattle.tap_steer.specs.declared.operation.Op.TheVariants as op
use Rattle.tap_steer.specs.declared.operation.TheConstants.{IFF_ATTACH_QUEUE}
use Rattle.tap_steer.specs.Table.{Table, file_at, is_set}
use Rattle.vhost_dev.specs.Refusals.{number_refusal, ready_refusal}
use Rattle.vhost_dev.specs.Settings.{ring_at}
use Rattle.vring_turns.specs.RxTurn.{RxTurn}
use Rattle.vring_turns.specs.TxTurn.{TxTurn}
use Rattle.scen_words.specs.declared.command.Command.{Command}
use Rattle.scen_words.specs.declared.command.Command.TheVariants as command
use Rattle.tap_steer.specs.Select as steer
use Rattle.tap_trace.specs.declared.answer.Answer.{Answer}
use Rattle.tap_ledger.specs.declared.error.TapErr.{TapErr as TapText}
use Rattle.tap_trace.specs.declared.turn.ChainText.{ChainText}
use Rattle.tap_world.specs.declared.event.Event.{Event}
use Rattle.tap_world.specs.declared.event.Found.{Found}
use Rattle.tap_world.specs.ByNumber.{with_nth}
use Rattle.tap_world.specs.Guests.{Vhost}
use Rattle.tap_world.specs.Setup.{Setup}
use Rattle.tap_world.specs.World.{Actor, Doing, World, table}
use Rattle.tap_world.specs.World.Doing.{Backed, Backs, Begun, Changes, Disowned, Opened, Opens, Owns, Released, Shrinks, Unbacked, Withdraws}
use Rattle.tap_world.specs.Effect.{Effect, Onward, actor_after, files_after, guests_after, with_effect}
use Rattle.tap_world.specs.Effect.Onward.{Ends, Goes, Stays}
use Rattle.tap_world.specs.StepBackend as back
use Rattle.tap_world.specs.StepTable as tables
use Rattle.tap_world.specs.StepTurns as rx_turns
use Rattle.tap_world.specs.StepTransmits as tx_turns
use Rattle.tap_world.specs.Each.{EachActor}
use Rattle.tap_world.specs.Sound.{WriterIsHeld, holds}
use Rattle.tap_world.specs.SoundRings.{IsActor}
use Rattle.tap_world.specs.SoundActors.{can_be}
use Rattle.tap_sound.proofs.Kit.{either, some_same, then_some, WhereSome, where_some, where_then}
use Rattle.tap_sound.proofs.Scripts.{effect_actors}
use Rattle.tap_sound.proofs.Shapes.{Alike, IsLast, RxWay, Shape, TxWay}
use Rattle.tap_sound.proofs.Shapes.Shape.{Giving, Approves, BackApproves, BackDrives, BackPublishes, Calling, Learning, Owning, Publishing, Quiet, Reopening, RxTurning, Shutting, Sizing, Touching, Trims, TxTurning, Withdrawing}
use Rattle.tap_sound.proofs.Standing.{answered}
use Rattle.tap_sound.proofs.Taken.{IsStep, when_settled}
use Rattle.tap_sound.proofs.Turned.{IsThere, Turned, held_on, is_at, others, others_on, there_on, with_nth_inv}
use Rattle.tap_sound.proofs.Turned.Turned.{Gives, Rests, Takes}
use Rattle.tap_trace.specs.declared.turn.TurnText.{TurnText}

-- how far the command has come after an event
abbrev pub doing_after : Onward → Doing → Doing
doing_after (Goes seen e f) d = e
doing_after (Ends seen x) d = Begun
doing_after (Stays f) d = d

pub is_doing_after : (o : Onward) (a : Actor) → (actor_after o a).doing ≡ doing_after o a.doing
is_doing_after (Goes seen e f) a = refl
is_doing_after (Ends seen x) a = refl
is_doing_after (Stays f) a = refl

-- ---- what each shape makes of the writer

abbrev Holding : World → ℕ → Doing → Effect → Type 0
Holding w me d r = Turned me w.writer r.writer (holds d) (holds (doing_after r.onward d))

alike_holds : (d : Doing) (o : Onward) → Alike d o → holds (doing_after o d) ≡ holds d
alike_holds d (Stays f) h = refl
alike_holds d (Ends seen x) h = sym h.0
alike_holds d (Goes seen e f) h = h.1 ∙ sym h.0

pub course_is : (P : Doing → Type 0) (t : Table) (x : Op) → ((file : ℕ) → P (Opens file)) → ((file : ℕ) → P (Withdraws file)) → ((file capacity : ℕ) → P (Doing.Resizes file capacity)) → P Changes
    → P (tables.course t x)
course_is P t (op.SetIff file device flags) a b c d = a file
course_is P t (op.SetQueue file flags) a b c d = either P (is_set flags IFF_ATTACH_QUEUE) (Opens file) (Withdraws file) (a file) (b file)
course_is P t (op.Shut file) a b c d = either P (tables.is_enabled (file_at t file).attachment) (Withdraws file) Changes (b file) d
course_is P t (op.Resize file capacity) a b c d = c file capacity
course_is P t x a b c d = d

pub last_holds : (d : Doing) → IsLast d → holds d ≡ true
last_holds Changes h = refl
last_holds (Opened file) h = refl
last_holds (Shrinks file n m) h = refl
last_holds d h = absurd h

back_publishing : (w : World) (me : ℕ) (d : Doing) (vhost ring : ℕ) (asked : Option ℕ) (r : Effect)
    → back.publishes_back w d (command.Backend vhost ring asked) ≡ Some r → Holding w me d r
back_publishing w me (Backed file) vhost ring asked r e =
    subst (Holding w me (Backed file)) (some_same _ r e) (either (Holding w me (Backed file)) (ring == 0) _ _ (Rests refl refl) (Gives refl refl refl))
back_publishing w me (Disowned file) vhost ring asked r e = subst (Holding w me (Disowned file)) (some_same _ r e) (Gives refl refl refl)
back_publishing w me (Released file) vhost ring asked r e = subst (Holding w me (Released file)) (some_same _ r e) (Gives refl refl refl)
back_publishing w me d vhost ring asked r e = absurd (cc (e))

owning : (w : World) (me seen : ℕ) (d : Doing) (vhost ring : ℕ) (asked : Option ℕ) (r : Effect)
    → back.owns w seen d (command.Backend vhost ring asked) ≡ Some r → Holding w me d r
owning w me seen (Owns file version) vhost ring asked r e = subst (Holding w me (Owns file version)) (some_same _ r e) (Gives refl refl refl)
owning w me seen (Unbacked file) vhost ring asked r e = subst (Holding w me (Unbacked file)) (some_same _ r e) (Rests refl refl)
owning w me seen d vhost ring asked r e = absurd (cc (e))

sets_back : (w : World) (me seen vhost ring file : ℕ) (x : Option TapText) (v : Vhost) (m : Contents) (a : Option Answer) → (a ≡ None → x ≡ None)
    → Holding w me (Backs x) (back.sets_back w me seen vhost ring file x v m a)
sets_back w me seen vhost ring file None v m (Some a) h = Gives refl refl refl
sets_back w me seen vhost ring file (Some x) v m (Some a) h = Rests refl refl
sets_back w me seen vhost ring file None v m None h = Rests refl refl
sets_back w me seen vhost ring file (Some x) v m None h = absurd (cc (h refl))

unsets_back : (w : World) (me seen vhost ring : ℕ) (v : Vhost) (m : Contents) (a : Option Answer) (file : Option ℕ)
    → Holding w me (Backs None) (back.unsets_back w me seen vhost ring v m a file)
unsets_back w me seen vhost ring v m (Some a) file = Gives refl refl refl
unsets_back w me seen vhost ring v m None None = Gives refl refl refl
unsets_back w me seen vhost ring v m None (Some file) = Rests refl (either (λ (d : Doing). holds d ≡ true) (ring == 0) (Unbacked file) (Released file) refl refl)

no_refusal : (x : Option TapText) → (is_none x || false) ≡ true → x ≡ None
no_refusal None e = refl
no_refusal (Some x) e = absurd (true≢false (sym e))

-- a backend that is unset isn't refused by the table
pub unset_refusal : (d : Doing) (x : Option TapText) (vhost ring : ℕ) (c : Command) → d ≡ Backs x → c ≡ command.Backend vhost ring None → can_be d c ≡ true → x ≡ None
unset_refusal d x vhost ring c is cis can =
    no_refusal x (subst (λ (q : Command). can_be (Backs x) q ≡ true) cis (subst (λ (q : Doing). can_be q c ≡ true) is can))

back_calls : (s : Setup) (w : World) (me seen : ℕ) (x : Option TapText) (vhost ring : ℕ) (file : Option ℕ) (v : Vhost) (m : Contents)
    → (file ≡ None → x ≡ None) → WhereSome (Holding w me (Backs x)) (back.back_call s w me seen x vhost ring file v m)
back_calls s w me seen x vhost ring None v m h =
    where_then (Holding w me (Backs x)) (back.refused_by (number_refusal ring)) _ (λ told e.
    subst (λ (q : Option TapText). Holding w me (Backs q) (back.unsets_back w me seen vhost ring v m told (ring_at ring v.settings).file)) (sym (h refl))
    (unsets_back w me seen vhost ring v m told (ring_at ring v.settings).file))
back_calls s w me seen x vhost ring (Some file) v m h =
    where_then (Holding w me (Backs x)) (back.back_answer (ready_refusal ring m v.settings) x (back.unfit_for (steer.shape_of (table s w) file) v.settings)) _
    (λ told e. sets_back w me seen vhost ring file x v m told (λ k. (answered _ _ _ (e ∙ ap (λ (o : Option Answer). Some o) k)).1))

pub rx_holds : (seen file : ℕ) (t : RxTurn) (f : Found) (d : Doing) (o : Option TurnText) → holds (doing_after (rx_turns.rx_onward seen file t f o) d) ≡ false
rx_holds seen file t f d None = refl
rx_holds seen file t f d (Some e) = refl

pub tx_holds : (seen file : ℕ) (t : TxTurn) (told : List ChainText) (f : Found) (d : Doing) (o : Option TurnText) → holds (doing_after (tx_turns.tx_onward seen file t told f o) d) ≡ false
tx_holds seen file t told f d None = refl
tx_holds seen file t told f d (Some e) = refl

pub rx_free : (me : ℕ) (d : Doing) (file : ℕ) (t : RxTurn) (v : Vhost) → RxWay me d file t v → holds d ≡ false
rx_free me d file t v (inl is) = ap holds is
rx_free me d file t v (inr is) = ap holds is.0

pub tx_free : (d : Doing) (file : ℕ) (t : TxTurn) (told : List ChainText) (v : Vhost) → TxWay d file t told v → holds d ≡ false
tx_free d file t told v (inl is) = ap holds is
tx_free d file t told v (inr is) = ap holds is.0

pub holding : (s : Setup) (w : World) (me seen : ℕ) (d : Doing) (c : Command) (r : Effect) → can_be d c ≡ true → Shape s w me seen d c r → Holding w me d r
holding s w me seen d c r can (Quiet o f g v wr alike) = Rests wr (alike_holds d r.onward alike)
holding s w me seen d c r can (Giving vhost file t told o f g v wr h) =
    Rests wr (ap (λ (q : Onward). holds (doing_after q d)) h.goes ∙ sym (ap holds h.doing))
holding s w me seen d c r can (Trims file n m k f is eq) = subst (Holding w me d) eq (Rests refl (sym (ap holds is)))
holding s w me seen d c r can (Approves x is of free no_ eq) = subst (Holding w me d) eq (Takes free refl (course_is (λ (e : Doing). holds e ≡ true) (table s w) x (λ file. refl) (λ file. refl) (λ file k. refl) refl))
holding s w me seen d c r can (BackApproves vhost ring file v is cis at_ free turn no_ eq) = subst (Holding w me d) eq (Takes free refl refl)
holding s w me seen d c r can (Reopening file f is at_ eq) = subst (Holding w me d) eq (Rests refl (sym (ap holds is)))
holding s w me seen d c r can (Shutting file version f is at_ eq) = subst (Holding w me d) eq (Rests refl (sym (ap holds is)))
holding s w me seen d c r can (Sizing file capacity f is at_ eq) = subst (Holding w me d) eq (Rests refl (sym (ap holds is)))
holding s w me seen d c r can (Publishing x v y last of no_ eq) = subst (Holding w me d) eq (Gives (last_holds d last) refl refl)
holding s w me seen d c r can (Withdrawing x file is of no_ eq) = subst (Holding w me d) eq (Rests refl (sym (ap holds is)))
holding s w me seen d c r can (Learning file hash o f g v wr free alike) = Rests wr (alike_holds d r.onward alike)
holding s w me seen d c r can (BackPublishes vhost ring asked cis eq) = back_publishing w me d vhost ring asked r eq
holding s w me seen d c r can (Owning vhost ring asked cis eq) = owning w me seen d vhost ring asked r eq
holding s w me seen d c r can (BackDrives x vhost ring file v g is cis a b free eq) =
    subst (λ (q : Doing). Holding w me q r) (sym is)
    (where_some (Holding w me (Backs x)) _ r (back_calls s w me seen x vhost ring file v g.memory
    (λ none. unset_refusal d x vhost ring c is (cis ∙ ap (command.Backend vhost ring) none) can)) eq)
holding s w me seen d c r can (Calling vhost v g x is of a b call may eq) = subst (Holding w me d) eq (Rests refl (sym (ap holds is)))
holding s w me seen d c r can (Touching guest g m step v y at_ same is o f gs vs wr on) =
    Rests wr (ap (λ (q : Onward). holds (doing_after q d)) on ∙ sym (ap holds is))
holding s w me seen d c r can (RxTurning vhost file t v g h made files f over cis a b way step leaves told_ eq) =
    subst (Holding w me d) eq (Rests refl (rx_holds seen file made.0.turn f d over ∙ sym (rx_free me d file t v way)))
holding s w me seen d c r can (TxTurning vhost file t told v g made st over cis a b way step end_ eq) =
    subst (Holding w me d) eq (Rests refl (tx_holds seen file made.0.turn _ _ d over ∙ sym (tx_free d file t told v way)))

-- ---- the world after it

pub effect_writer : (r : Effect) (actor : ℕ) (a : Actor) (n : ℕ) (w v : World) → with_effect r actor a n w ≡ Some v → v.writer ≡ r.writer
effect_writer r actor a n w v e =
    let f = then_some (files_after r.files w.files) _ v e in
    let g = then_some (guests_after actor n r.guests w.guests) _ v f.2 in
    ap (λ (x : World). x.writer) (sym (some_same _ v g.2))

abbrev pub Holders : World → Type 0
Holders w = EachActor w (WriterIsHeld w) × IsActor w w.writer

there : (w : World) (o : Option ℕ) → IsActor w o → IsThere w.actors o
there w None h = tt
there w (Some n) h = h

there_in : (w : World) (o : Option ℕ) → IsThere w.actors o → IsActor w o
there_in w None h = tt
there_in w (Some n) h = h

between_held : (s : Setup) (w : World) (x : Event) (u : World) (t : IsStep s w x u) → can_be t.actor.doing t.now.command ≡ true
    → Shape s w x.actor t.actor.seen t.actor.doing t.now.command t.effect → Holders w → Holders t.between
between_held s w x u t can shape h =
    let actors = effect_actors t.effect x.actor t.actor x.command w t.between t.made in
    let writer : t.between.writer ≡ t.effect.writer = effect_writer t.effect x.actor t.actor x.command w t.between t.made in
    let turned = holding s w x.actor t.actor.seen t.actor.doing t.now.command t.effect can shape in
    let mine : holds t.actor.doing ≡ is_at x.actor w.writer = h.0 x.actor t.actor t.found in (
      (λ i b at_. ⊎_elim
          (λ same. ap (λ (q : Actor). holds q.doing) (sym same.1) ∙ ap holds (is_doing_after t.effect.onward t.actor)
          ∙ held_on x.actor w.writer t.effect.writer _ _ turned mine ∙ ap (λ (n : ℕ). is_at n t.effect.writer) same.0 ∙ ap (is_at i) (sym writer))
          (λ other. h.0 i b other.1 ∙ others_on x.actor w.writer t.effect.writer _ _ turned mine i other.0 ∙ ap (is_at i) (sym writer))
          (with_nth_inv x.actor (actor_after t.effect.onward t.actor) w.actors i b (ap (λ (q : List Actor). slice_get q i) (sym actors) ∙ at_))),
      there_in t.between t.between.writer (subst (λ (q : List Actor). IsThere q t.between.writer) (sym actors)
          (subst (IsThere (with_nth x.actor (actor_after t.effect.onward t.actor) w.actors)) (sym writer)
          (there_on x.actor (actor_after t.effect.onward t.actor) t.actor w.actors w.writer t.effect.writer _ _ turned t.found (there w w.writer h.1)))),
    )

pub writer_is_kept : (s : Setup) (w : World) (x : Event) (u : World) (t : IsStep s w x u) → can_be t.actor.doing t.now.command ≡ true
    → Shape s w x.actor t.actor.seen t.actor.doing t.now.command t.effect → Holders w → Holders u
writer_is_kept s w x u t can shape h =
    let b = between_held s w x u t can shape h in
    subst Holders t.is (when_settled Holders t.between b (λ f end. (
      (λ i a at_. ⊎_elim
          (λ same. ap (λ (q : Actor). holds q.doing) (sym same.1))
          (λ other. b.0 i a other.1 ∙ ap (is_at i) end.writer ∙ others f.actor i other.0)
          (with_nth_inv f.actor (record f.state { script = drop 1 f.state.script; doing = Begun }) t.between.actors i a at_)),
      tt,
    )))
