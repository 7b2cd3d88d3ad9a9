-- What each shape of an effect publishes, and leaves to be published.
use Rattle.std.proofs.Common.{◌≡◌, ◌⊎◌, ℕ, List, [], ◌∷◌, ◌++◌, true, false, Option, Some, None, inl, inr, refl, sym, ap, ◌∙◌, subst, true≢false}
use Rattle.std.specs.Prelude.{◌==◌, option_to_list}
use Rattle.std.proofs.lemmas.List.{append-nil}
use Rattle.guest_mem.specs.Memory.{Contents}
use Rattle.tap_ledger.specs.declared.error.TapErr.{TapErr as TapText}
use Rattle.tap_steer.specs.declared.operation.Op.{Op}
use Rattle.tap_steer.specs.Select as steer
use Rattle.vhost_dev.specs.Refusals.{number_refusal, ready_refusal}
use Rattle.vhost_dev.specs.Settings.{ring_at}
use Rattle.vring_turns.specs.RxTurn.{RxTurn}
use Rattle.vring_turns.specs.TxTurn.{TxTurn}
use Rattle.scen_words.specs.declared.command.Command.{Command}
use Rattle.scen_words.specs.declared.command.Command.TheVariants as command
use Rattle.tap_trace.specs.declared.answer.Answer.{Answer}
use Rattle.tap_trace.specs.declared.turn.ChainText.{ChainText}
use Rattle.tap_trace.specs.declared.turn.TurnText.{TurnText}
use Rattle.tap_world.specs.declared.event.Found.{Found}
use Rattle.tap_world.specs.Guests.{Vhost}
use Rattle.tap_world.specs.Setup.{Setup, op_of}
use Rattle.tap_world.specs.World.{Doing, World, table}
use Rattle.tap_world.specs.World.Doing.{Backed, Backs, Begun, Changes, Disowned, Opened, Opens, Owns, Released, Shrinks, Unbacked}
use Rattle.tap_world.specs.Effect.{Effect, Onward}
use Rattle.tap_world.specs.Effect.Onward.{Ends, Goes, Stays}
use Rattle.tap_world.specs.StepBackend as back
use Rattle.tap_world.specs.StepTable as tables
use Rattle.tap_world.specs.StepTurns as rx_turns
use Rattle.tap_world.specs.StepTransmits as tx_turns
use Rattle.tap_world.specs.Sound.{holds}
use Rattle.tap_sound.proofs.Kit.{WhereSome, either, some_same, where_some, where_then}
use Rattle.tap_sound.proofs.Shapes.{Alike, IsLast, RxWay, Shape, TxWay}
use Rattle.tap_sound.proofs.Shapes.Shape.{Approves, BackApproves, BackDrives, BackPublishes, Calling, Giving, Learning, Owning, Publishing, Quiet, Reopening, RxTurning, Shutting, Sizing, Touching, Trims, TxTurning, Withdrawing}
use Rattle.tap_sound.proofs.Turned.{is_at}
use Rattle.tap_sound.proofs.Writers.{course_is, doing_after}
use Rattle.tap_grows.specs.Coming.{under_way}

-- What is published, with what is to be published behind it, is what was to be published and perhaps more; and where
-- the command doesn't hold the writer, it publishes nothing, or nobody holds it.
pub record Adds (s : Setup) (w : World) (d : Doing) (c : Command) (r : Effect) : Type 0 where
  pub more : List Op
  pub is : r.ops ++ under_way s (doing_after r.onward d) c ≡ under_way s d c ++ more
  pub free : holds d ≡ false → (r.ops ≡ []) ⊎ (w.writer ≡ None)

pub none_under : (s : Setup) (d : Doing) (c : Command) → holds d ≡ false → under_way s d c ≡ []
none_under s (Opened file) c e = absurd (true≢false e)
none_under s (Shrinks file places cuts) c e = absurd (true≢false e)
none_under s d c e = refl

-- nothing is to be published before or after
plain : (s : Setup) (w : World) (d : Doing) (c : Command) (r : Effect) → under_way s d c ≡ []
    → under_way s (doing_after r.onward d) c ≡ [] → (holds d ≡ false → (r.ops ≡ []) ⊎ (w.writer ≡ None)) → Adds s w d c r
plain s w d c r before after free = record {
  more = r.ops;
  is = ap (λ (l : List Op). r.ops ++ l) after ∙ append-nil r.ops ∙ sym (ap (λ (l : List Op). l ++ r.ops) before);
  free = free;
}

-- it is the same before and after, and nothing is published
same : (s : Setup) (w : World) (d : Doing) (c : Command) (r : Effect) → r.ops ≡ []
    → under_way s (doing_after r.onward d) c ≡ under_way s d c → Adds s w d c r
same s w d c r none is = record {
  more = [];
  is = ap (λ (l : List Op). l ++ under_way s (doing_after r.onward d) c) none ∙ is ∙ sym (append-nil (under_way s d c));
  free = λ h. inl none;
}

alike : (s : Setup) (d : Doing) (c : Command) (o : Onward) → Alike d o
    → under_way s (doing_after o d) c ≡ under_way s d c
alike s d c (Stays f) h = refl
alike s d c (Ends seen x) h = sym (none_under s d c h.0)
alike s d c (Goes seen e f) h = none_under s e c h.1 ∙ sym (none_under s d c h.0)

-- a last publication
last : (s : Setup) (w : World) (d : Doing) (c : Command) (x : Op) (y : Answer) (r : Effect) → IsLast d
    → op_of s c ≡ Some x → tables.publishes_with w x None (λ version. Ends version y) ≡ r → Adds s w d c r
last s w Changes c x y r l of eq =
    subst (Adds s w Changes c) eq (record { more = x ∷ []; is = refl; free = λ h. absurd (true≢false h) })
last s w (Opened file) c x y r l of eq = subst (Adds s w (Opened file) c) eq (record {
  more = [];
  is = sym (ap (λ (o : Option Op). option_to_list o ++ []) of);
  free = λ h. absurd (true≢false h);
})
last s w (Shrinks file places cuts) c x y r l of eq = subst (Adds s w (Shrinks file places cuts) c) eq (record {
  more = [];
  is = sym (ap (λ (o : Option Op). option_to_list o ++ []) of);
  free = λ h. absurd (true≢false h);
})
last s w d c x y r l of eq = absurd l

-- ---- backends: nothing is to be published where one is at work

quiet : (s : Setup) (w : World) (d : Doing) (c : Command) (r : Effect) → under_way s d c ≡ [] → r.ops ≡ []
    → under_way s (doing_after r.onward d) c ≡ [] → Adds s w d c r
quiet s w d c r before none after = plain s w d c r before after (λ h. inl none)

publishing : (s : Setup) (w : World) (d : Doing) (vhost ring : ℕ) (asked : Option ℕ) (r : Effect)
    → back.publishes_back w d (command.Backend vhost ring asked) ≡ Some r
    → Adds s w d (command.Backend vhost ring asked) r
publishing s w (Backed file) vhost ring asked r e =
    let c : Command = command.Backend vhost ring asked in
    subst (Adds s w (Backed file) c) (some_same _ r e)
    (either (Adds s w (Backed file) c) (ring == 0) _ _
    (plain s w (Backed file) c _ refl refl (λ h. absurd (true≢false h)))
    (plain s w (Backed file) c _ refl refl (λ h. absurd (true≢false h))))
publishing s w (Disowned file) vhost ring asked r e =
    subst (Adds s w (Disowned file) (command.Backend vhost ring asked)) (some_same _ r e)
    (plain s w (Disowned file) _ _ refl refl (λ h. absurd (true≢false h)))
publishing s w (Released file) vhost ring asked r e =
    subst (Adds s w (Released file) (command.Backend vhost ring asked)) (some_same _ r e)
    (plain s w (Released file) _ _ refl refl (λ h. absurd (true≢false h)))
publishing s w d vhost ring asked r e = absurd (cc (e))

owning : (s : Setup) (w : World) (seen : ℕ) (d : Doing) (vhost ring : ℕ) (asked : Option ℕ) (r : Effect)
    → back.owns w seen d (command.Backend vhost ring asked) ≡ Some r → Adds s w d (command.Backend vhost ring asked) r
owning s w seen (Owns file version) vhost ring asked r e =
    subst (Adds s w (Owns file version) (command.Backend vhost ring asked)) (some_same _ r e)
    (quiet s w (Owns file version) _ _ refl refl refl)
owning s w seen (Unbacked file) vhost ring asked r e =
    subst (Adds s w (Unbacked file) (command.Backend vhost ring asked)) (some_same _ r e)
    (quiet s w (Unbacked file) _ _ refl refl refl)
owning s w seen d vhost ring asked r e = absurd (cc (e))

sets_back : (s : Setup) (w : World) (c : Command) (me seen vhost ring file : ℕ) (x : Option TapText) (v : Vhost)
    (m : Contents) (a : Option Answer) → Adds s w (Backs x) c (back.sets_back w me seen vhost ring file x v m a)
sets_back s w c me seen vhost ring file x v m (Some a) = quiet s w (Backs x) c _ refl refl refl
sets_back s w c me seen vhost ring file x v m None = quiet s w (Backs x) c _ refl refl refl

unsets_back : (s : Setup) (w : World) (c : Command) (me seen vhost ring : ℕ) (x : Option TapText) (v : Vhost)
    (m : Contents) (a : Option Answer) (file : Option ℕ)
    → Adds s w (Backs x) c (back.unsets_back w me seen vhost ring v m a file)
unsets_back s w c me seen vhost ring x v m (Some a) file = quiet s w (Backs x) c _ refl refl refl
unsets_back s w c me seen vhost ring x v m None None = quiet s w (Backs x) c _ refl refl refl
unsets_back s w c me seen vhost ring x v m None (Some file) =
    quiet s w (Backs x) c _ refl refl
    (either (λ (d : Doing). under_way s d c ≡ []) (ring == 0) (Unbacked file) (Released file) refl refl)

back_calls : (s : Setup) (w : World) (c : Command) (me seen : ℕ) (x : Option TapText) (vhost ring : ℕ)
    (file : Option ℕ) (v : Vhost) (m : Contents)
    → WhereSome (Adds s w (Backs x) c) (back.back_call s w me seen x vhost ring file v m)
back_calls s w c me seen x vhost ring None v m =
    where_then (Adds s w (Backs x) c) (back.refused_by (number_refusal ring)) _
    (λ told e. unsets_back s w c me seen vhost ring x v m told (ring_at ring v.settings).file)
back_calls s w c me seen x vhost ring (Some file) v m =
    where_then (Adds s w (Backs x) c)
    (back.back_answer (ready_refusal ring m v.settings) x (back.unfit_for (steer.shape_of (table s w) file) v.settings))
    _ (λ told e. sets_back s w c me seen vhost ring file x v m told)

-- ---- turns: nor where one is under way

rx_under : (s : Setup) (c : Command) (seen file : ℕ) (t : RxTurn) (f : Found) (d : Doing) (o : Option TurnText)
    → under_way s (doing_after (rx_turns.rx_onward seen file t f o) d) c ≡ []
rx_under s c seen file t f d None = refl
rx_under s c seen file t f d (Some e) = refl

tx_under : (s : Setup) (c : Command) (seen file : ℕ) (t : TxTurn) (told : List ChainText) (f : Found) (d : Doing)
    (o : Option TurnText) → under_way s (doing_after (tx_turns.tx_onward seen file t told f o) d) c ≡ []
tx_under s c seen file t told f d None = refl
tx_under s c seen file t told f d (Some e) = refl

under_at : (s : Setup) (d e : Doing) (c : Command) → d ≡ e → under_way s e c ≡ [] → under_way s d c ≡ []
under_at s d e c is h = ap (λ (q : Doing). under_way s q c) is ∙ h

rx_before : (s : Setup) (c : Command) (me : ℕ) (d : Doing) (file : ℕ) (t : RxTurn) (v : Vhost) → RxWay me d file t v
    → under_way s d c ≡ []
rx_before s c me d file t v (inl is) = under_at s d _ c is refl
rx_before s c me d file t v (inr is) = under_at s d _ c is.0 refl

tx_before : (s : Setup) (c : Command) (d : Doing) (file : ℕ) (t : TxTurn) (told : List ChainText) (v : Vhost)
    → TxWay d file t told v → under_way s d c ≡ []
tx_before s c d file t told v (inl is) = under_at s d _ c is refl
tx_before s c d file t told v (inr is) = under_at s d _ c is.0 refl

-- ---- all shapes

-- what is to be published from now on
begins_to : (s : Setup) (w : World) (d e : Doing) (c : Command) (r : Effect) → d ≡ e → under_way s e c ≡ []
    → holds e ≡ true → r.ops ≡ [] → Adds s w d c r
begins_to s w d e c r is none yes_ quiet_ = record {
  more = under_way s (doing_after r.onward d) c;
  is = ap (λ (l : List Op). l ++ under_way s (doing_after r.onward d) c) quiet_
      ∙ sym (ap (λ (l : List Op). l ++ under_way s (doing_after r.onward d) c) (under_at s d e c is none));
  free = λ h. absurd (true≢false (sym (ap holds is ∙ yes_) ∙ h));
}

pub adds : (s : Setup) (w : World) (me seen : ℕ) (d : Doing) (c : Command) (r : Effect) → holds d ≡ is_at me w.writer
    → Shape s w me seen d c r → Adds s w d c r
adds s w me seen d c r mine (Quiet o f g v wr a) = same s w d c r o (alike s d c r.onward a)
adds s w me seen d c r mine (Giving vhost file t told o f g v wr h) =
    quiet s w d c r (under_at s d _ c h.doing refl) o (ap (λ (q : Onward). under_way s (doing_after q d) c) h.goes)
adds s w me seen d c r mine (Trims file n m k f is eq) =
    subst (Adds s w d c) eq (same s w d c _ refl (sym (ap (λ (q : Doing). under_way s q c) is)))
adds s w me seen d c r mine (Approves x is of free no_ eq) =
    subst (Adds s w d c) eq (quiet s w d c _ (under_at s d Begun c is refl) refl
    (course_is (λ (e : Doing). under_way s e c ≡ []) (table s w) x (λ file. refl) (λ file. refl) (λ file k. refl) refl))
adds s w me seen d c r mine (BackApproves vhost ring file v is cis at_ free turn no_ eq) =
    subst (Adds s w d c) eq (quiet s w d c _ (under_at s d Begun c is refl) refl refl)
adds s w me seen d c r mine (Reopening file f is at_ eq) =
    subst (Adds s w d c) eq (begins_to s w d (Opens file) c _ is refl refl refl)
adds s w me seen d c r mine (Shutting file version f is at_ eq) =
    subst (Adds s w d c) eq (quiet s w d c _ (under_at s d _ c is refl) refl refl)
adds s w me seen d c r mine (Sizing file capacity f is at_ eq) =
    subst (Adds s w d c) eq (begins_to s w d (Doing.Resizes file capacity) c _ is refl refl refl)
adds s w me seen d c r mine (Publishing x v y l of no_ eq) = last s w d c x y r l of eq
adds s w me seen d c r mine (Withdrawing x file is of no_ eq) =
    subst (Adds s w d c) eq
    (plain s w d c _ (under_at s d _ c is refl) refl (λ h. absurd (true≢false (sym (ap holds is) ∙ h))))
adds s w me seen d c r mine (Learning file hash o f g v wr free a) =
    let none = none_under s d c (mine ∙ ap (is_at me) free) in
    plain s w d c r none (alike s d c r.onward a ∙ none) (λ h. inr free)
adds s w me seen d c r mine (BackPublishes vhost ring asked cis eq) =
    subst (λ (q : Command). Adds s w d q r) (sym cis) (publishing s w d vhost ring asked r eq)
adds s w me seen d c r mine (Owning vhost ring asked cis eq) =
    subst (λ (q : Command). Adds s w d q r) (sym cis) (owning s w seen d vhost ring asked r eq)
adds s w me seen d c r mine (BackDrives x vhost ring file v g is cis a b free eq) =
    subst (λ (q : Doing). Adds s w q c r) (sym is)
    (where_some (Adds s w (Backs x) c) _ r (back_calls s w c me seen x vhost ring file v g.memory) eq)
adds s w me seen d c r mine (Calling vhost v g x is of a b call may eq) =
    subst (Adds s w d c) eq (quiet s w d c _ (under_at s d _ c is refl) refl refl)
adds s w me seen d c r mine (Touching guest g m step v y at_ same_ is o f gs vs wr on) =
    quiet s w d c r (under_at s d _ c is refl) o (ap (λ (q : Onward). under_way s (doing_after q d) c) on)
adds s w me seen d c r mine (RxTurning vhost file t v g h made files f over cis a b way step leaves told_ eq) =
    subst (Adds s w d c) eq
    (quiet s w d c _ (rx_before s c me d file t v way) refl (rx_under s c seen file made.0.turn f d over))
adds s w me seen d c r mine (TxTurning vhost file t told v g made st over cis a b way step told_ eq) =
    subst (Adds s w d c) eq
    (quiet s w d c _ (tx_before s c d file t told v way) refl (tx_under s c seen file made.0.turn _ _ d over))
