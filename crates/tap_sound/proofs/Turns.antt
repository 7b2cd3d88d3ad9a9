-- A ring's turn is held by the command that holds it, after every event.
use Rattle.std.proofs.Common.{◌≡◌, ◌≢◌, ◌⊎◌, ℕ, zero, suc, ◌+◌, ◌<◌, List, Bool, true, false, Option, Some, None, inl, inr, ⊎_elim, refl, sym, ap, ◌∙◌, subst, true≢false, arith}
use Rattle.std.specs.Prelude.{if◌then◌else◌, ◌==◌, ◌&&◌, ◌||◌, drop, is_none, is_some, not, slice_get}
use Rattle.std.specs.Option.{option_map_or}
use Rattle.std.proofs.lemmas.Bool.Decides.{eqb_tells, leb_tells}
use Rattle.guest_mem.specs.Memory.{Contents}
use Rattle.vhost_dev.specs.Refusals.{number_refusal, ready_refusal}
use Rattle.vhost_dev.specs.Settings.{ring_at}
use Rattle.vring_turns.specs.RxTurn.{RxTurn}
use Rattle.vring_turns.specs.TxTurn.{TxTurn}
use Rattle.scen_words.specs.declared.command.Command.{Command}
use Rattle.scen_words.specs.declared.command.Command.TheVariants as command
use Rattle.tap_steer.specs.Select as steer
use Rattle.tap_trace.specs.declared.answer.Answer.{Answer}
use Rattle.tap_ledger.specs.declared.error.TapErr.{TapErr as TapText}
use Rattle.tap_trace.specs.declared.turn.ChainText.{ChainText}
use Rattle.tap_world.specs.declared.event.Event.{Event}
use Rattle.tap_world.specs.declared.event.Found.{Found}
use Rattle.tap_ground.specs.Options.{only_if}
use Rattle.tap_world.specs.ByNumber.{at, with_nth}
use Rattle.vhost_queue.specs.Queue.{Queue}
use Rattle.tap_world.specs.Guests.{with_queue, Vhost, is_ring, turn_of, with_turn}
use Rattle.tap_world.specs.Setup.{Numbered, Setup}
use Rattle.tap_world.specs.World.{Actor, Doing, World, current, newest, table}
use Rattle.tap_world.specs.World.Doing.{Backed, Backs, Begun, Changes, Disowned, Opened, Owns, Released, Shrinks, Unbacked}
use Rattle.tap_world.specs.Effect.{Effect, OnVhosts, Onward, actor_after, ended, files_after, guests_after, vhosts_after, with_effect}
use Rattle.tap_world.specs.Effect.OnVhosts.{NoVhost, OnVhost}
use Rattle.tap_world.specs.Effect.Onward.{Ends, Goes, Stays}
use Rattle.tap_world.specs.StepBackend as back
use Rattle.tap_world.specs.StepControl as control
use Rattle.tap_world.specs.StepTurns as rx_turns
use Rattle.tap_world.specs.StepTransmits as tx_turns
use Rattle.tap_world.specs.Each.{EachVhost}
use Rattle.tap_world.specs.SoundRings.{IsActor, TurnsAreHeld, holds_turn, is_about, ring_in}
use Rattle.tap_world.specs.SoundActors.{can_be, sets, unsets}
use Rattle.tap_sound.proofs.Kit.{either, some_same, then_some, WhereSome, where_some, where_then}
use Rattle.tap_sound.proofs.Calls.{Called, called_is}
use Rattle.tap_sound.proofs.Calls.Called.{Addr, Base, Features, Num, Untouched}
use Rattle.tap_sound.proofs.Claims.{with_at_inv}
use Rattle.tap_sound.proofs.Scripts.{effect_actors}
use Rattle.tap_sound.proofs.Shapes.{Alike, IsLast, RxWay, Shape, TxWay}
use Rattle.tap_sound.proofs.Shapes.Shape.{Giving, Approves, BackApproves, BackDrives, BackPublishes, Calling, Learning, Owning, Publishing, Quiet, Reopening, RxTurning, Shutting, Sizing, Touching, Trims, TxTurning, Withdrawing}
use Rattle.tap_sound.proofs.Standing.{answered}
use Rattle.tap_sound.proofs.Taken.{IsStep, both, when_settled}
use Rattle.tap_sound.proofs.Turned.{IsThere, Turned, held_on, is_at, itself, others, others_on, there_on, with_nth_inv, with_nth_there}
use Rattle.tap_sound.proofs.Turned.Turned.{Gives, Keeps, Rests, Takes}
use Rattle.tap_sound.proofs.Writers.{course_is, doing_after, unset_refusal}
use Rattle.tap_trace.specs.declared.turn.TurnText.{TurnText}

-- ---- small things

pub and_false : (b : Bool) → (b && false) ≡ false
and_false true = refl
and_false false = refl

pub and_true : (b : Bool) → (b && true) ≡ b
and_true true = refl
and_true false = refl

none_of : {A : Type 0} (o : Option A) → is_none o ≡ true → o ≡ None
none_of None h = refl
none_of (Some x) h = absurd (true≢false (sym h))

pub two_rings : (n : ℕ) → n < 2 → (n ≡ 0) ⊎ (n ≡ 1)
two_rings zero h = inl refl
two_rings (suc zero) h = inr refl
two_rings (suc (suc n)) h = absurd (omega (arith, h))

pub is_below : (n : ℕ) → is_ring n ≡ true → n < 2
is_below n e = ⊎_elim (λ t. t.1) (λ t. absurd (true≢false (sym e ∙ t.0))) (leb_tells (suc n) 2)

pub turn_same : (ring : ℕ) (o : Option ℕ) (v : Vhost) → turn_of ring (with_turn ring o v) ≡ o
turn_same ring o v = go (ring == 0)
  where
    go : (b : Bool) → (if b then (if b then record v { rx_turn = o } else record v { tx_turn = o }).rx_turn
        else (if b then record v { rx_turn = o } else record v { tx_turn = o }).tx_turn) ≡ o
    go true = refl
    go false = refl

pub turn_other : (ring other : ℕ) (o : Option ℕ) (v : Vhost) → ring < 2 → other < 2 → ring ≢ other → turn_of other (with_turn ring o v) ≡ turn_of other v
turn_other ring other o v a b no_ = ⊎_elim
    (λ x. ⊎_elim (λ y. absurd (no_ (x ∙ sym y))) (λ y. subst (λ (n : ℕ). turn_of other (with_turn n o v) ≡ turn_of other v) (sym x) (subst (λ (m : ℕ). turn_of m (with_turn 0 o v) ≡ turn_of m v) (sym y) refl)) (two_rings other b))
    (λ x. ⊎_elim (λ y. subst (λ (n : ℕ). turn_of other (with_turn n o v) ≡ turn_of other v) (sym x) (subst (λ (m : ℕ). turn_of m (with_turn 1 o v) ≡ turn_of m v) (sym y) refl)) (λ y. absurd (no_ (x ∙ sym y))) (two_rings other b))
    (two_rings ring a)

-- a command is about a ring
abbrev pub about : ℕ → ℕ → Command → Bool
about vhost ring c = option_map_or (λ (r : ℕ × ℕ). r.0 == vhost && r.1 == ring) (ring_in c) false

about_back : (vhost ring : ℕ) (file : Option ℕ) (b : Bool) → is_ring ring ≡ b → (v0 r0 : ℕ)
    → about v0 r0 (command.Backend vhost ring file) ≡ option_map_or (λ (r : ℕ × ℕ). r.0 == v0 && r.1 == r0) (only_if b (vhost, ring)) false
about_back vhost ring file b is v0 r0 = ap (λ (q : Bool). option_map_or (λ (r : ℕ × ℕ). r.0 == v0 && r.1 == r0) (only_if q (vhost, ring)) false) is

-- ---- what each shape makes of turns

abbrev Unchanged : World → Effect → Type 0
Unchanged w r =
    (vhost : ℕ) (new : Vhost) → at (vhosts_after r.vhosts w.vhosts) vhost ≡ Some new
    → (v : Vhost) × (at w.vhosts vhost ≡ Some v) × (new.rx_turn ≡ v.rx_turn) × (new.tx_turn ≡ v.tx_turn)

pub data Turning (w : World) (me : ℕ) (d : Doing) (c : Command) (r : Effect) : Type 0 where
  Unmoved : Unchanged w r → holds_turn (doing_after r.onward d) ≡ holds_turn d → Turning w me d c r
  Apart : Unchanged w r → ((vhost ring : ℕ) (v : Vhost) → at w.vhosts vhost ≡ Some v → about vhost ring c ≡ false) → Turning w me d c r
  Moved : (vhost ring : ℕ) (v new : Vhost) (holder : Option ℕ) → r.vhosts ≡ OnVhost vhost new → at w.vhosts vhost ≡ Some v → ring < 2
      → ((v0 r0 : ℕ) → about v0 r0 c ≡ (vhost == v0 && ring == r0)) → ((r0 : ℕ) → turn_of r0 new ≡ turn_of r0 (with_turn ring holder v))
      → Turned me (turn_of ring v) holder (holds_turn d) (holds_turn (doing_after r.onward d)) → Turning w me d c r

none_changed : (w : World) (r : Effect) → r.vhosts ≡ NoVhost → Unchanged w r
none_changed w r is vhost new e = (new, ap (λ (o : OnVhosts). at (vhosts_after o w.vhosts) vhost) (sym is) ∙ e, refl, refl)

one_changed : (w : World) (r : Effect) (vhost : ℕ) (v new : Vhost) → r.vhosts ≡ OnVhost vhost new → at w.vhosts vhost ≡ Some v
    → new.rx_turn ≡ v.rx_turn → new.tx_turn ≡ v.tx_turn → Unchanged w r
one_changed w r vhost v new is at_ rx_ tx_ number it e = ⊎_elim
    (λ same. (
      v,
      ap (at w.vhosts) (sym same.0) ∙ at_,
      ap (λ (q : Vhost). q.rx_turn) (sym same.1) ∙ rx_,
      ap (λ (q : Vhost). q.tx_turn) (sym same.1) ∙ tx_,
    ))
    (λ other. (it, other.1, refl, refl))
    (with_at_inv vhost new w.vhosts number it (ap (λ (o : OnVhosts). at (vhosts_after o w.vhosts) number) (sym is) ∙ e))

alike_turns : (d : Doing) (o : Onward) → Alike d o → holds_turn (doing_after o d) ≡ holds_turn d
alike_turns d (Stays f) h = refl
alike_turns d (Ends seen x) h = sym h.1
alike_turns d (Goes seen e f) h = h.2

last_free : (d : Doing) → IsLast d → holds_turn d ≡ false
last_free Changes h = refl
last_free (Opened file) h = refl
last_free (Shrinks file n m) h = refl
last_free d h = absurd h

-- a backend under way is about a ring that there is
pub set_ring : (file vhost ring : ℕ) (asked : Option ℕ) → sets file (command.Backend vhost ring asked) ≡ true → ring < 2
set_ring file vhost ring None e = absurd (true≢false (sym e))
set_ring file vhost ring (Some other) e = is_below ring (both _ _ e).1

pub unset_ring : (vhost ring : ℕ) (asked : Option ℕ) → unsets (command.Backend vhost ring asked) ≡ true → ring < 2
unset_ring vhost ring None e = is_below ring e
unset_ring vhost ring (Some other) e = absurd (true≢false (sym e))

is_ring_of : (ring : ℕ) → ring < 2 → is_ring ring ≡ true
is_ring_of ring h = ⊎_elim (λ t. t.0) (λ t. absurd (over t.1)) (leb_tells (suc ring) 2)
  where
    over : 2 < suc ring → ⊥
    over a = omega (arith, a, h)

-- it gives back its turn
back_over : (w : World) (me seen : ℕ) (d : Doing) (vhost ring version : ℕ) (asked : Option ℕ) (r : Effect) → ring < 2 → holds_turn d ≡ true
    → r.vhosts ≡ (back.back_over w seen vhost ring version).vhosts → holds_turn (doing_after r.onward d) ≡ false
    → Turning w me d (command.Backend vhost ring asked) r
back_over w me seen d vhost ring version asked r below held is ends = go (at w.vhosts vhost) refl is
  where
    go : (o : Option Vhost) → at w.vhosts vhost ≡ o → r.vhosts ≡ option_map_or (λ v. OnVhost vhost (with_turn ring None v)) o NoVhost
        → Turning w me d (command.Backend vhost ring asked) r
    go None at_ same = Apart (none_changed w r same)
        (λ v0 r0 v found. about_back vhost ring asked true (is_ring_of ring below) v0 r0
        ∙ ap (λ (b : Bool). b && ring == r0) (others vhost v0 (λ h. missing v (sym found ∙ ap (at w.vhosts) (sym h) ∙ at_))))
      where
        missing : (v : Vhost) → Some v ≡ None → ⊥
        missing v h = cc (h)
    go (Some v) at_ same = Moved vhost ring v (with_turn ring None v) None same at_ below (about_back vhost ring asked true (is_ring_of ring below)) (λ r0. refl) (Gives held refl ends)

back_publishing : (w : World) (me seen : ℕ) (d : Doing) (vhost ring : ℕ) (asked : Option ℕ) (r : Effect) → can_be d (command.Backend vhost ring asked) ≡ true
    → back.publishes_back w d (command.Backend vhost ring asked) ≡ Some r → Turning w me d (command.Backend vhost ring asked) r
back_publishing w me seen (Backed file) vhost ring asked r can e =
    let P : Effect → Type 0 = Turning w me (Backed file) (command.Backend vhost ring asked) in
    subst P (some_same _ r e) (either P (ring == 0) _ _ (Unmoved (λ n v at_. (v, at_, refl, refl)) refl)
    (back_over w me (newest w + 1) (Backed file) vhost ring (newest w + 1) asked _ (set_ring file vhost ring asked can) refl refl refl))
back_publishing w me seen (Disowned file) vhost ring asked r can e =
    subst (Turning w me (Disowned file) (command.Backend vhost ring asked)) (some_same _ r e)
    (back_over w me (newest w + 1) (Disowned file) vhost ring (newest w + 1) asked _ (unset_ring vhost ring asked (both _ _ can).0) refl refl refl)
back_publishing w me seen (Released file) vhost ring asked r can e =
    subst (Turning w me (Released file) (command.Backend vhost ring asked)) (some_same _ r e)
    (back_over w me (newest w + 1) (Released file) vhost ring (newest w + 1) asked _ (unset_ring vhost ring asked (both _ _ can).0) refl refl refl)
back_publishing w me seen d vhost ring asked r can e = absurd (cc (e))

owning : (w : World) (me seen : ℕ) (d : Doing) (vhost ring : ℕ) (asked : Option ℕ) (r : Effect) → can_be d (command.Backend vhost ring asked) ≡ true
    → back.owns w seen d (command.Backend vhost ring asked) ≡ Some r → Turning w me d (command.Backend vhost ring asked) r
owning w me seen (Owns file version) vhost ring asked r can e =
    subst (Turning w me (Owns file version) (command.Backend vhost ring asked)) (some_same _ r e)
    (back_over w me seen (Owns file version) vhost ring version asked _ (set_ring file vhost ring asked (both _ _ can).0) refl refl refl)
owning w me seen (Unbacked file) vhost ring asked r can e =
    subst (Turning w me (Unbacked file) (command.Backend vhost ring asked)) (some_same _ r e) (Unmoved (λ n v at_. (v, at_, refl, refl)) refl)
owning w me seen d vhost ring asked r can e = absurd (cc (e))

-- it ends at its Drive
back_ends : (w : World) (me : ℕ) (vhost ring : ℕ) (file : Option ℕ) (x : Option TapText) (v : Vhost) (r : Effect) → at w.vhosts vhost ≡ Some v
    → r.vhosts ≡ OnVhost vhost (if is_ring ring && is_none x then with_turn ring None v else v) → holds_turn (doing_after r.onward (Backs x)) ≡ false
    → Turning w me (Backs x) (command.Backend vhost ring file) r
back_ends w me vhost ring file (Some x) v r at_ is ends =
    Unmoved (one_changed w r vhost v v (is ∙ ap (λ (b : Bool). OnVhost vhost (if b then with_turn ring None v else v)) (and_false (is_ring ring))) at_ refl refl) ends
back_ends w me vhost ring file None v r at_ is ends = go (is_ring ring) refl (is ∙ ap (λ (b : Bool). OnVhost vhost (if b then with_turn ring None v else v)) (and_true (is_ring ring)))
  where
    go : (b : Bool) → is_ring ring ≡ b → r.vhosts ≡ OnVhost vhost (if b then with_turn ring None v else v) → Turning w me (Backs None) (command.Backend vhost ring file) r
    go true there same = Moved vhost ring v (with_turn ring None v) None same at_ (is_below ring there) (about_back vhost ring file true there) (λ r0. refl) (Gives refl refl ends)
    go false there same = Apart (one_changed w r vhost v v same at_ refl refl) (λ v0 r0 u found. about_back vhost ring file false there v0 r0)

sets_back : (w : World) (me seen vhost ring file : ℕ) (x : Option TapText) (v : Vhost) (m : Contents) (a : Option Answer) → at w.vhosts vhost ≡ Some v → (a ≡ None → x ≡ None)
    → Turning w me (Backs x) (command.Backend vhost ring (Some file)) (back.sets_back w me seen vhost ring file x v m a)
sets_back w me seen vhost ring file x v m (Some a) at_ h = back_ends w me vhost ring (Some file) x v _ at_ refl refl
sets_back w me seen vhost ring file None v m None at_ h = Unmoved (one_changed w (back.sets_back w me seen vhost ring file None v m None) vhost v _ refl at_ refl refl) refl
sets_back w me seen vhost ring file (Some x) v m None at_ h = absurd (cc (h refl))

unsets_back : (w : World) (me seen vhost ring : ℕ) (v : Vhost) (m : Contents) (a : Option Answer) (file : Option ℕ) → at w.vhosts vhost ≡ Some v
    → Turning w me (Backs None) (command.Backend vhost ring None) (back.unsets_back w me seen vhost ring v m a file)
unsets_back w me seen vhost ring v m (Some a) file at_ = back_ends w me vhost ring None None v _ at_ refl refl
unsets_back w me seen vhost ring v m None None at_ = back_ends w me vhost ring None None v _ at_ refl refl
unsets_back w me seen vhost ring v m None (Some file) at_ =
    Unmoved (one_changed w (back.unsets_back w me seen vhost ring v m None (Some file)) vhost v _ refl at_ refl refl) (either (λ (d : Doing). holds_turn d ≡ true) (ring == 0) (Unbacked file) (Released file) refl refl)

back_calls : (s : Setup) (w : World) (me seen : ℕ) (x : Option TapText) (vhost ring : ℕ) (file : Option ℕ) (v : Vhost) (m : Contents) → at w.vhosts vhost ≡ Some v
    → (file ≡ None → x ≡ None) → WhereSome (Turning w me (Backs x) (command.Backend vhost ring file)) (back.back_call s w me seen x vhost ring file v m)
back_calls s w me seen x vhost ring None v m at_ h =
    let P : Effect → Type 0 = Turning w me (Backs x) (command.Backend vhost ring None) in
    where_then P (back.refused_by (number_refusal ring)) _ (λ told e.
    subst (λ (q : Option TapText). Turning w me (Backs q) (command.Backend vhost ring None) (back.unsets_back w me seen vhost ring v m told (ring_at ring v.settings).file)) (sym (h refl))
    (unsets_back w me seen vhost ring v m told (ring_at ring v.settings).file at_))
back_calls s w me seen x vhost ring (Some file) v m at_ h =
    let P : Effect → Type 0 = Turning w me (Backs x) (command.Backend vhost ring (Some file)) in
    where_then P (back.back_answer (ready_refusal ring m v.settings) x (back.unfit_for (steer.shape_of (table s w) file) v.settings)) _
    (λ told e. sets_back w me seen vhost ring file x v m told at_ (λ k. (answered _ _ _ (e ∙ ap (λ (o : Option Answer). Some o) k)).1))

-- ---- calls leave turns

call_turns : (w : World) (c : Command) (v : Vhost) (m : Contents) (x : control.Call) → Called c v m x → (x.vhost.rx_turn ≡ v.rx_turn) × (x.vhost.tx_turn ≡ v.tx_turn)
call_turns w c v m x (Untouched s g a b) = (a, b)
call_turns w c v m x (Features vhost bits is no_ same) = (ap (λ (q : Vhost). q.rx_turn) same, ap (λ (q : Vhost). q.tx_turn) same)
call_turns w c v m x (Num vhost ring n is no_ same) = (ap (λ (q : Vhost). q.rx_turn) same, ap (λ (q : Vhost). q.tx_turn) same)
call_turns w c v m x (Base vhost ring n is no_ same) = (ap (λ (q : Vhost). q.rx_turn) same, ap (λ (q : Vhost). q.tx_turn) same)
call_turns w c v m x (Addr vhost ring desc avail used is no_ same) = (ap (λ (q : Vhost). q.rx_turn) same, ap (λ (q : Vhost). q.tx_turn) same)

-- ---- events of turns

free_of : (o : Option ℕ) → is_none o ≡ true → o ≡ None
free_of None h = refl
free_of (Some x) h = absurd (true≢false (sym h))

rx_turned : (me seen file : ℕ) (d : Doing) (t u : RxTurn) (f : Found) (v : Vhost) → RxWay me d file t v → (o : Option TurnText)
    → Turned me (turn_of 0 v) (if is_some o then None else Some me) (holds_turn d) (holds_turn (doing_after (rx_turns.rx_onward seen file u f o) d))
rx_turned me seen file d t u f v (inl is) None = Keeps (ap holds_turn is) refl refl
rx_turned me seen file d t u f v (inl is) (Some e) = Gives (ap holds_turn is) refl refl
rx_turned me seen file d t u f v (inr is) None = Takes (free_of v.rx_turn is.2) refl refl
rx_turned me seen file d t u f v (inr is) (Some e) = Rests (sym (free_of v.rx_turn is.2)) (sym (ap holds_turn is.0))

tx_turned : (me seen file : ℕ) (d : Doing) (t u : TxTurn) (told after : List ChainText) (f : Found) (v : Vhost) → TxWay d file t told v → (o : Option TurnText)
    → Turned me (turn_of 1 v) (if is_some o then None else Some me) (holds_turn d) (holds_turn (doing_after (tx_turns.tx_onward seen file u after f o) d))
tx_turned me seen file d t u told after f v (inl is) None = Keeps (ap holds_turn is) refl refl
tx_turned me seen file d t u told after f v (inl is) (Some e) = Gives (ap holds_turn is) refl refl
tx_turned me seen file d t u told after f v (inr is) None = Takes (free_of v.tx_turn is.2) refl refl
tx_turned me seen file d t u told after f v (inr is) (Some e) = Rests (sym (free_of v.tx_turn is.2)) (sym (ap holds_turn is.0))

-- ---- every shape

back_takes : (w : World) (me : ℕ) (d : Doing) (vhost ring : ℕ) (file : Option ℕ) (v : Vhost) → d ≡ Begun → at w.vhosts vhost ≡ Some v
    → (not (is_ring ring) || is_none (turn_of ring v)) ≡ true → Turning w me d (command.Backend vhost ring file) (back.back_seen w me vhost ring v None)
back_takes w me d vhost ring file v is at_ turn = go (is_ring ring) refl turn refl
  where
    go : (b : Bool) → is_ring ring ≡ b → (not b || is_none (turn_of ring v)) ≡ true
        → (back.back_seen w me vhost ring v None).vhosts ≡ OnVhost vhost (if is_ring ring then with_turn ring (Some me) v else v)
        → Turning w me d (command.Backend vhost ring file) (back.back_seen w me vhost ring v None)
    go true there free same = Moved vhost ring v (with_turn ring (Some me) v) (Some me)
        (same ∙ ap (λ (b : Bool). OnVhost vhost (if b then with_turn ring (Some me) v else v)) there) at_ (is_below ring there)
        (about_back vhost ring file true there) (λ r0. refl) (Takes (free_of (turn_of ring v) free) refl refl)
    go false there free same = Apart
        (one_changed w (back.back_seen w me vhost ring v None) vhost v v (same ∙ ap (λ (b : Bool). OnVhost vhost (if b then with_turn ring (Some me) v else v)) there) at_ refl refl)
        (λ v0 r0 u found. about_back vhost ring file false there v0 r0)

pub turning : (s : Setup) (w : World) (me seen : ℕ) (d : Doing) (c : Command) (r : Effect) → can_be d c ≡ true → Shape s w me seen d c r → Turning w me d c r
turning s w me seen d c r can (Quiet o f g v wr alike) = Unmoved (none_changed w r v) (alike_turns d r.onward alike)
turning s w me seen d c r can (Giving vhost file t told o f g v wr h) =
    Unmoved (none_changed w r v) (ap (λ (q : Onward). holds_turn (doing_after q d)) h.goes ∙ sym (ap holds_turn h.doing))
turning s w me seen d c r can (Trims file n m k f is eq) = subst (Turning w me d c) eq (Unmoved (λ n v at_. (v, at_, refl, refl)) (sym (ap holds_turn is)))
turning s w me seen d c r can (Approves x is of free no_ eq) = subst (Turning w me d c) eq (Unmoved (λ n v at_. (v, at_, refl, refl))
    (course_is (λ (e : Doing). holds_turn e ≡ false) (table s w) x (λ file. refl) (λ file. refl) (λ file k. refl) refl ∙ sym (ap holds_turn is)))
turning s w me seen d c r can (BackApproves vhost ring file v is cis at_ free turn no_ eq) =
    subst (λ (q : Command). Turning w me d q r) (sym cis)
    (subst (Turning w me d (command.Backend vhost ring file)) eq (back_takes w me d vhost ring file v is at_ turn))
turning s w me seen d c r can (Reopening file f is at_ eq) = subst (Turning w me d c) eq (Unmoved (λ n v e. (v, e, refl, refl)) (sym (ap holds_turn is)))
turning s w me seen d c r can (Shutting file version f is at_ eq) = subst (Turning w me d c) eq (Unmoved (λ n v e. (v, e, refl, refl)) (sym (ap holds_turn is)))
turning s w me seen d c r can (Sizing file capacity f is at_ eq) = subst (Turning w me d c) eq (Unmoved (λ n v e. (v, e, refl, refl)) (sym (ap holds_turn is)))
turning s w me seen d c r can (Publishing x v y last of no_ eq) = subst (Turning w me d c) eq (Unmoved (λ n v e. (v, e, refl, refl)) (sym (last_free d last)))
turning s w me seen d c r can (Withdrawing x file is of no_ eq) = subst (Turning w me d c) eq (Unmoved (λ n v e. (v, e, refl, refl)) (sym (ap holds_turn is)))
turning s w me seen d c r can (Learning file hash o f g v wr free alike) = Unmoved (none_changed w r v) (alike_turns d r.onward alike)
turning s w me seen d c r can (BackPublishes vhost ring asked cis eq) =
    subst (λ (q : Command). Turning w me d q r) (sym cis)
    (back_publishing w me seen d vhost ring asked r (subst (λ (q : Command). can_be d q ≡ true) cis can) eq)
turning s w me seen d c r can (Owning vhost ring asked cis eq) =
    subst (λ (q : Command). Turning w me d q r) (sym cis)
    (owning w me seen d vhost ring asked r (subst (λ (q : Command). can_be d q ≡ true) cis can) eq)
turning s w me seen d c r can (BackDrives x vhost ring file v g is cis a b free eq) =
    subst (λ (q : Command). Turning w me d q r) (sym cis)
    (subst (λ (q : Doing). Turning w me q (command.Backend vhost ring file) r) (sym is)
    (where_some (Turning w me (Backs x) (command.Backend vhost ring file)) _ r (back_calls s w me seen x vhost ring file v g.memory a
    (λ none. unset_refusal d x vhost ring c is (cis ∙ ap (command.Backend vhost ring) none) can)) eq))
turning s w me seen d c r can (Calling vhost v g x is of a b call may eq) =
    let t = call_turns w c v g.memory x (called_is c v g.memory x call) in
    subst (Turning w me d c) eq (Unmoved (one_changed w (control.call_effect w seen vhost v.guest x) vhost v x.vhost refl a t.0 t.1) (sym (ap holds_turn is)))
turning s w me seen d c r can (Touching guest g m step v y at_ same is o f gs vs wr on) =
    Unmoved (none_changed w r vs) (ap (λ (q : Onward). holds_turn (doing_after q d)) on ∙ sym (ap holds_turn is))
turning s w me seen d c r can (RxTurning vhost file t v g h made files f over cis a b way step leaves told_ eq) =
    subst (λ (q : Command). Turning w me d q r) (sym cis)
    (subst (Turning w me d (command.RxTurn vhost)) eq (Moved vhost 0 v _ (if is_some over then None else Some me) refl a (omega arith) (λ v0 r0. refl)
    (λ r0. rx_left r0 _ made.0.queue v) (rx_turned me seen file d t made.0.turn f v way over)))
  where
    rx_left : (r0 : ℕ) (o : Option ℕ) (q : Queue) (v : Vhost) → turn_of r0 (with_turn 0 o (with_queue 0 q v)) ≡ turn_of r0 (with_turn 0 o v)
    rx_left r0 o q v = either_same (r0 == 0)
      where
        either_same : (b : Bool) → (if b then o else v.tx_turn) ≡ (if b then o else v.tx_turn)
        either_same b = refl
turning s w me seen d c r can (TxTurning vhost file t told v g made st over cis a b way step end_ eq) =
    subst (λ (q : Command). Turning w me d q r) (sym cis)
    (subst (Turning w me d (command.TxTurn vhost)) eq (Moved vhost 1 v _ (if is_some over then None else Some me) refl a (omega arith) (λ v0 r0. refl)
    (λ r0. refl) (tx_turned me seen file d t made.0.turn told _ _ v way over)))

-- ---- the world after it

pub effect_vhosts : (r : Effect) (actor : ℕ) (a : Actor) (n : ℕ) (w v : World) → with_effect r actor a n w ≡ Some v → v.vhosts ≡ vhosts_after r.vhosts w.vhosts
effect_vhosts r actor a n w v e =
    let f = then_some (files_after r.files w.files) _ v e in
    let g = then_some (guests_after actor n r.guests w.guests) _ v f.2 in
    ap (λ (x : World). x.vhosts) (sym (some_same _ v g.2))

-- what an actor holds of a ring
abbrev pub held : ℕ → ℕ → Actor → Bool
held vhost ring a = holds_turn a.doing && is_about vhost ring (current a.script)

held_before : (vhost ring : ℕ) (a : Actor) (n : Numbered) → slice_get a.script 0 ≡ Some n → held vhost ring a ≡ (holds_turn a.doing && about vhost ring n.command)
held_before vhost ring a n at_ = ap (λ (o : Option Numbered). holds_turn a.doing && is_about vhost ring o) at_

held_after : (vhost ring : ℕ) (a : Actor) (n : Numbered) (o : Onward) → slice_get a.script 0 ≡ Some n
    → held vhost ring (actor_after o a) ≡ (holds_turn (doing_after o a.doing) && about vhost ring n.command)
held_after vhost ring a n (Goes seen e f) at_ = ap (λ (q : Option Numbered). holds_turn e && is_about vhost ring q) at_
held_after vhost ring a n (Ends seen x) at_ = refl
held_after vhost ring a n (Stays f) at_ = ap (λ (q : Option Numbered). holds_turn a.doing && is_about vhost ring q) at_

same_turn : (u v : Vhost) → u.rx_turn ≡ v.rx_turn → u.tx_turn ≡ v.tx_turn → (ring : ℕ) → turn_of ring u ≡ turn_of ring v
same_turn u v a b ring = go (ring == 0)
  where
    go : (t : Bool) → (if t then u.rx_turn else u.tx_turn) ≡ (if t then v.rx_turn else v.tx_turn)
    go true = a
    go false = b

-- of each ring after the event
abbrev TurnedAt : World → ℕ → Doing → Command → Effect → ℕ → ℕ → Vhost → Vhost → Type 0
TurnedAt w me d c r vhost ring v new =
    Turned me (turn_of ring v) (turn_of ring new) (holds_turn d && about vhost ring c) (holds_turn (doing_after r.onward d) && about vhost ring c)

apart_here : (w : World) (me : ℕ) (d : Doing) (c : Command) (r : Effect) (vhost ring : ℕ) (v new : Vhost) → turn_of ring new ≡ turn_of ring v → about vhost ring c ≡ false
    → TurnedAt w me d c r vhost ring v new
apart_here w me d c r vhost ring v new same no_ =
    Rests same (ap (λ (b : Bool). holds_turn (doing_after r.onward d) && b) no_ ∙ and_false _ ∙ sym (ap (λ (b : Bool). holds_turn d && b) no_ ∙ and_false _))

moved_here : (w : World) (me : ℕ) (d : Doing) (c : Command) (r : Effect) (vhost ring : ℕ) (v new : Vhost) (holder : Option ℕ) → ring < 2
    → ((v0 r0 : ℕ) → about v0 r0 c ≡ (vhost == v0 && ring == r0)) → ((r0 : ℕ) → turn_of r0 new ≡ turn_of r0 (with_turn ring holder v))
    → Turned me (turn_of ring v) holder (holds_turn d) (holds_turn (doing_after r.onward d)) → (r0 : ℕ) → r0 < 2 → TurnedAt w me d c r vhost r0 v new
moved_here w me d c r vhost ring v new holder below of same turned r0 fits = ⊎_elim
    (λ it.
    let yes_ : about vhost ring c ≡ true = of vhost ring ∙ ap (λ (b : Bool). b && ring == ring) (itself vhost) ∙ itself ring in
    let here : TurnedAt w me d c r vhost ring v new =
    subst (λ (b : Bool). Turned me (turn_of ring v) (turn_of ring new) (holds_turn d && b) (holds_turn (doing_after r.onward d) && b)) (sym yes_)
    (subst (λ (b : Bool). Turned me (turn_of ring v) (turn_of ring new) b (holds_turn (doing_after r.onward d) && true)) (sym (and_true (holds_turn d)))
    (subst (λ (b : Bool). Turned me (turn_of ring v) (turn_of ring new) (holds_turn d) b) (sym (and_true (holds_turn (doing_after r.onward d))))
    (subst (λ (o : Option ℕ). Turned me (turn_of ring v) o (holds_turn d) (holds_turn (doing_after r.onward d))) (sym (same ring ∙ turn_same ring holder v)) turned))) in
    subst (λ (n : ℕ). TurnedAt w me d c r vhost n v new) it.1 here)
    (λ other. apart_here w me d c r vhost r0 v new (same r0 ∙ turn_other ring r0 holder v below fits other.1)
    (of vhost r0 ∙ ap (λ (b : Bool). vhost == vhost && b) other.0 ∙ and_false (vhost == vhost)))
    (eqb_tells ring r0)

turned_at : (w : World) (me : ℕ) (d : Doing) (c : Command) (r : Effect) → Turning w me d c r → (vhost : ℕ) (new : Vhost)
    → at (vhosts_after r.vhosts w.vhosts) vhost ≡ Some new → (v : Vhost) × (at w.vhosts vhost ≡ Some v) × ((ring : ℕ) → ring < 2 → TurnedAt w me d c r vhost ring v new)
turned_at w me d c r (Unmoved same alike) vhost new at_ =
    let v = same vhost new at_ in
    (v.0, v.1, λ ring fits. Rests (same_turn new v.0 v.2 v.3 ring) (ap (λ (b : Bool). b && about vhost ring c) alike))
turned_at w me d c r (Apart same no_) vhost new at_ =
    let v = same vhost new at_ in
    (v.0, v.1, λ ring fits. apart_here w me d c r vhost ring v.0 new (same_turn new v.0 v.2 v.3 ring) (no_ vhost ring v.0 v.1))
turned_at w me d c r (Moved vhost0 ring0 v0 new0 holder is found below of same turned) vhost new at_ = ⊎_elim
    (λ it. (
      v0,
      ap (at w.vhosts) (sym it.0) ∙ found,
      λ ring fits. subst (λ (n : ℕ). TurnedAt w me d c r n ring v0 new) it.0
          (subst (λ (q : Vhost). TurnedAt w me d c r vhost0 ring v0 q) it.1 (moved_here w me d c r vhost0 ring0 v0 new0 holder below of same turned ring fits)),
    ))
    (λ other. (
      new,
      other.1,
      λ ring fits. apart_here w me d c r vhost ring new new refl
          (of vhost ring ∙ ap (λ (b : Bool). b && ring0 == ring) (others vhost0 vhost other.0)),
    ))
    (with_at_inv vhost0 new0 w.vhosts vhost new (ap (λ (o : OnVhosts). at (vhosts_after o w.vhosts) vhost) (sym is) ∙ at_))

abbrev pub TurnsHeld : World → Type 0
TurnsHeld w = EachVhost w (TurnsAreHeld w) × EachVhost w (λ vhost v. IsActor w v.rx_turn × IsActor w v.tx_turn)

there : (w : World) (o : Option ℕ) → IsActor w o → IsThere w.actors o
there w None h = tt
there w (Some n) h = h

there_in : (w : World) (o : Option ℕ) → IsThere w.actors o → IsActor w o
there_in w None h = tt
there_in w (Some n) h = h

there_still : (actor : ℕ) (new : Actor) (actors : List Actor) (o : Option ℕ) → IsThere actors o → IsThere (with_nth actor new actors) o
there_still actor new actors None h = tt
there_still actor new actors (Some n) h = with_nth_there actor new actors n h

between_held : (s : Setup) (w : World) (x : Event) (u : World) (t : IsStep s w x u) → can_be t.actor.doing t.now.command ≡ true
    → Shape s w x.actor t.actor.seen t.actor.doing t.now.command t.effect → TurnsHeld w → TurnsHeld t.between
between_held s w x u t can shape h =
    let actors = effect_actors t.effect x.actor t.actor x.command w t.between t.made in
    let vhosts = effect_vhosts t.effect x.actor t.actor x.command w t.between t.made in
    let each = turned_at w x.actor t.actor.doing t.now.command t.effect (turning s w x.actor t.actor.seen t.actor.doing t.now.command t.effect can shape) in (
      (λ vhost new at_ ring i b fits found.
          let v = each vhost new (ap (λ (q : List (Option Vhost)). at q vhost) (sym vhosts) ∙ at_) in
          let turned = v.2 ring fits in
          let mine : (holds_turn t.actor.doing && about vhost ring t.now.command) ≡ is_at x.actor (turn_of ring v.0) =
          sym (held_before vhost ring t.actor t.now t.current_is) ∙ h.0 vhost v.0 v.1 ring x.actor t.actor fits t.found in
          ⊎_elim
          (λ same. ap (held vhost ring) (sym same.1) ∙ held_after vhost ring t.actor t.now t.effect.onward t.current_is
          ∙ held_on x.actor (turn_of ring v.0) (turn_of ring new) _ _ turned mine ∙ ap (λ (n : ℕ). is_at n (turn_of ring new)) same.0)
          (λ other. h.0 vhost v.0 v.1 ring i b fits other.1 ∙ others_on x.actor (turn_of ring v.0) (turn_of ring new) _ _ turned mine i other.0)
          (with_nth_inv x.actor (actor_after t.effect.onward t.actor) w.actors i b (ap (λ (q : List Actor). slice_get q i) (sym actors) ∙ found))),
      (λ vhost new at_.
          let v = each vhost new (ap (λ (q : List (Option Vhost)). at q vhost) (sym vhosts) ∙ at_) in
          let k = h.1 vhost v.0 v.1 in (
            there_in t.between new.rx_turn (subst (λ (q : List Actor). IsThere q new.rx_turn) (sym actors)
                (there_on x.actor (actor_after t.effect.onward t.actor) t.actor w.actors v.0.rx_turn new.rx_turn _ _ (v.2 0 (omega arith)) t.found (there w v.0.rx_turn k.0))),
            there_in t.between new.tx_turn (subst (λ (q : List Actor). IsThere q new.tx_turn) (sym actors)
                (there_on x.actor (actor_after t.effect.onward t.actor) t.actor w.actors v.0.tx_turn new.tx_turn _ _ (v.2 1 (omega arith)) t.found (there w v.0.tx_turn k.1))),
          )),
    )

pub turns_are_kept : (s : Setup) (w : World) (x : Event) (u : World) (t : IsStep s w x u) → can_be t.actor.doing t.now.command ≡ true
    → Shape s w x.actor t.actor.seen t.actor.doing t.now.command t.effect → TurnsHeld w → TurnsHeld u
turns_are_kept s w x u t can shape h =
    let b = between_held s w x u t can shape h in
    subst TurnsHeld t.is (when_settled TurnsHeld t.between b (λ f end. (
      (λ vhost v at_ ring i a fits found. ⊎_elim
          (λ same.
          let before = b.0 vhost v at_ ring f.actor f.state fits end.found in
          ap (held vhost ring) (sym same.1)
          ∙ sym (ap (λ (d : Doing). holds_turn d && is_about vhost ring (current f.state.script)) end.doing) ∙ before ∙ ap (λ (n : ℕ). is_at n (turn_of ring v)) same.0)
          (λ other. b.0 vhost v at_ ring i a fits other.1)
          (with_nth_inv f.actor (record f.state { script = drop 1 f.state.script; doing = Begun }) t.between.actors i a found)),
      (λ vhost v at_.
          let k = b.1 vhost v at_ in (
            there_in (ended f t.between) v.rx_turn (there_still f.actor (record f.state { script = drop 1 f.state.script; doing = Begun }) t.between.actors v.rx_turn (there t.between v.rx_turn k.0)),
            there_in (ended f t.between) v.tx_turn (there_still f.actor (record f.state { script = drop 1 f.state.script; doing = Begun }) t.between.actors v.tx_turn (there t.between v.tx_turn k.1)),
          )),
    )))
