-- What events make of a resize: whose command begins to shrink, what the others leave, and what a resize under way does.
use Rattle.std.proofs.Common.{◌≡◌, ◌⊎◌, ℕ, ◌+◌, List, [], Bool, true, false, Option, Some, None, inl, inr, ⊎_elim, refl, sym, ap, ◌∙◌, subst, true≢false}
use Rattle.std.specs.Prelude.{if◌then◌else◌, ◌==◌}
use Rattle.std.specs.Option.{option_map_or}
use Rattle.guest_mem.specs.Memory.{Contents}
use Rattle.tap_ledger.specs.declared.error.TapErr.{TapErr as TapText}
use Rattle.tap_steer.specs.Select as steer
use Rattle.tap_trace.specs.declared.answer.Answer.{Answer}
use Rattle.tap_trace.specs.declared.turn.ChainText.{ChainText}
use Rattle.tap_trace.specs.declared.turn.TurnText.{TurnText}
use Rattle.vhost_dev.specs.Refusals.{number_refusal, ready_refusal}
use Rattle.vhost_dev.specs.Settings.{ring_at}
use Rattle.vring_turns.specs.RxTurn.{RxTurn}
use Rattle.vring_turns.specs.TxTurn.{TxTurn}
use Rattle.scen_words.specs.declared.command.Command.{Command}
use Rattle.scen_words.specs.declared.command.Command.TheVariants as command
use Rattle.tap_world.specs.declared.event.EventKind.{EventKind}
use Rattle.tap_world.specs.declared.event.EventKind.TheVariants as event
use Rattle.tap_world.specs.declared.event.Found.{Found}
use Rattle.tap_world.specs.ByNumber.{at}
use Rattle.tap_world.specs.Guests.{Vhost}
use Rattle.tap_world.specs.Line.{File, claimed, in_ring, is_over, last_that}
use Rattle.tap_world.specs.LineSteps.Change.{Cuts, Sizes}
use Rattle.tap_world.specs.Setup.{Numbered, Setup}
use Rattle.tap_world.specs.World.{Actor, Doing, World, table}
use Rattle.tap_world.specs.World.Doing.{Backed, Backs, Begun, Disowned, Opens, Owns, Released, Resizes, Shrinks, Unbacked, Withdraws}
use Rattle.tap_world.specs.Effect.{Effect, Onward}
use Rattle.tap_world.specs.Effect.OnFiles.{OnFile}
use Rattle.tap_world.specs.Effect.Onward.{Ends, Goes, Stays}
use Rattle.tap_world.specs.Scripts.{is_kind, next_kind, shrink_next}
use Rattle.tap_world.specs.Sound.{holds}
use Rattle.tap_world.specs.SoundActors.{can_be}
use Rattle.tap_world.specs.Step as rows
use Rattle.tap_world.specs.StepBackend as back
use Rattle.tap_world.specs.StepRing as ring
use Rattle.tap_world.specs.StepTurns as rx_turns
use Rattle.tap_world.specs.StepTransmits as tx_turns
use Rattle.tap_sound.proofs.Kit.{WhereSome, either, some_same, where_some, where_then}
use Rattle.tap_sound.proofs.Shapes.{Alike, Shape}
use Rattle.tap_sound.proofs.Shapes as shapes
use Rattle.tap_sound.proofs.Shapes.Shape.{Giving, Approves, BackApproves, BackDrives, BackPublishes, Calling, Learning, Owning, Publishing, Quiet, Reopening, RxTurning, Shutting, Sizing, Touching, Trims, TxTurning, Withdrawing}
use Rattle.tap_sound.proofs.Steps.{held, own}
use Rattle.tap_sound.proofs.Writers.{course_is, doing_after, last_holds}

-- ---- whose command begins to shrink

abbrev pub is_shrinking : Doing → Bool
is_shrinking (Shrinks file places cuts) = true
is_shrinking d = false

-- one that resizes, at its event Resize
pub record Begins (w : World) (d : Doing) (r : Effect) : Type 0 where
  pub file : ℕ
  pub capacity : ℕ
  pub f : File
  pub was : d ≡ Resizes file capacity
  pub at_file : at w.files file ≡ Some f
  pub ops : r.ops ≡ []
  pub files : r.files ≡ OnFile file (Sizes capacity)
  pub doing : doing_after r.onward d ≡ Shrinks file (claimed f) 0

-- Of a command that doesn't shrink: where it doesn't hold the writer, and another does, it publishes nothing and leaves
-- each capacity; and it doesn't shrink after its event, but where it begins to.
pub record Acts (w : World) (d : Doing) (r : Effect) : Type 0 where
  pub aside : holds d ≡ false → (w.writer ≡ None → ⊥) → (r.ops ≡ []) × shapes.Leaves r.files
  pub after : (is_shrinking (doing_after r.onward d) ≡ false) ⊎ Begins w d r

holding : (d e : Doing) → d ≡ e → holds e ≡ true → holds d ≡ false → ⊥
holding d e is h k = true≢false (sym h ∙ ap holds (sym is) ∙ k)

no_shrink : (d : Doing) → holds d ≡ false → is_shrinking d ≡ false
no_shrink (Shrinks file places cuts) h = absurd (true≢false h)
no_shrink d h = refl

alike_after : (d : Doing) (o : Onward) → Alike d o → is_shrinking d ≡ false → is_shrinking (doing_after o d) ≡ false
alike_after d (Stays f) h calm = calm
alike_after d (Ends seen x) h calm = refl
alike_after d (Goes seen e f) h calm = no_shrink e h.1

-- ---- backends

back_publishes : (w : World) (d : Doing) (vhost r : ℕ) (asked : Option ℕ) (e : Effect) → back.publishes_back w d (command.Backend vhost r asked) ≡ Some e → Acts w d e
back_publishes w (Backed file) vhost r asked e is =
    subst (Acts w (Backed file)) (some_same _ e is) (either (Acts w (Backed file)) (r == 0) _ _
    (record { aside = λ h calm. absurd (true≢false h); after = inl refl }) (record { aside = λ h calm. absurd (true≢false h); after = inl refl }))
back_publishes w (Disowned file) vhost r asked e is =
    subst (Acts w (Disowned file)) (some_same _ e is) (record { aside = λ h calm. absurd (true≢false h); after = inl refl })
back_publishes w (Released file) vhost r asked e is =
    subst (Acts w (Released file)) (some_same _ e is) (record { aside = λ h calm. absurd (true≢false h); after = inl refl })
back_publishes w d vhost r asked e is = absurd (cc (is))

owns : (w : World) (seen : ℕ) (d : Doing) (vhost r : ℕ) (asked : Option ℕ) (e : Effect) → back.owns w seen d (command.Backend vhost r asked) ≡ Some e → Acts w d e
owns w seen (Owns file version) vhost r asked e is =
    subst (Acts w (Owns file version)) (some_same _ e is) (record { aside = λ h calm. absurd (true≢false h); after = inl refl })
owns w seen (Unbacked file) vhost r asked e is =
    subst (Acts w (Unbacked file)) (some_same _ e is) (record { aside = λ h calm. absurd (true≢false h); after = inl refl })
owns w seen d vhost r asked e is = absurd (cc (is))

sets_back : (w : World) (me seen vhost r file : ℕ) (x : Option TapText) (v : Vhost) (m : Contents) (a : Option Answer)
    → Acts w (Backs x) (back.sets_back w me seen vhost r file x v m a)
sets_back w me seen vhost r file x v m (Some a) = record { aside = λ h calm. (refl, tt); after = inl refl }
sets_back w me seen vhost r file x v m None = record { aside = λ h calm. (refl, tt); after = inl refl }

unsets_back : (w : World) (me seen vhost r : ℕ) (x : Option TapText) (v : Vhost) (m : Contents) (a : Option Answer) (file : Option ℕ)
    → Acts w (Backs x) (back.unsets_back w me seen vhost r v m a file)
unsets_back w me seen vhost r x v m (Some a) file = record { aside = λ h calm. (refl, tt); after = inl refl }
unsets_back w me seen vhost r x v m None None = record { aside = λ h calm. (refl, tt); after = inl refl }
unsets_back w me seen vhost r x v m None (Some file) = record {
  aside = λ h calm. (refl, tt);
  after = inl (either (λ (d : Doing). is_shrinking d ≡ false) (r == 0) (Unbacked file) (Released file) refl refl);
}

back_calls : (s : Setup) (w : World) (me seen : ℕ) (x : Option TapText) (vhost r : ℕ) (file : Option ℕ) (v : Vhost) (m : Contents)
    → WhereSome (Acts w (Backs x)) (back.back_call s w me seen x vhost r file v m)
back_calls s w me seen x vhost r None v m =
    where_then (Acts w (Backs x)) (back.refused_by (number_refusal r)) _ (λ told e. unsets_back w me seen vhost r x v m told (ring_at r v.settings).file)
back_calls s w me seen x vhost r (Some file) v m =
    where_then (Acts w (Backs x)) (back.back_answer (ready_refusal r m v.settings) x (back.unfit_for (steer.shape_of (table s w) file) v.settings)) _
    (λ told e. sets_back w me seen vhost r file x v m told)

-- ---- turns

rx_after : (seen file : ℕ) (t : RxTurn) (f : Found) (d : Doing) (o : Option TurnText) → is_shrinking (doing_after (rx_turns.rx_onward seen file t f o) d) ≡ false
rx_after seen file t f d None = refl
rx_after seen file t f d (Some e) = refl

tx_after : (seen file : ℕ) (t : TxTurn) (told : List ChainText) (f : Found) (d : Doing) (o : Option TurnText)
    → is_shrinking (doing_after (tx_turns.tx_onward seen file t told f o) d) ≡ false
tx_after seen file t told f d None = refl
tx_after seen file t told f d (Some e) = refl

-- ---- each shape

pub acts : (s : Setup) (w : World) (me seen : ℕ) (d : Doing) (c : Command) (r : Effect) → is_shrinking d ≡ false → Shape s w me seen d c r → Acts w d r
acts s w me seen d c r calm (Quiet o f g v wr alike) = record { aside = λ h held_. (o, f); after = inl (alike_after d r.onward alike calm) }
acts s w me seen d c r calm (Giving vhost file t told o f g v wr h) = record {
  aside = λ k held_. (o, subst shapes.Leaves (sym f) tt);
  after = inl (ap (λ (q : Onward). is_shrinking (doing_after q d)) h.goes);
}
acts s w me seen d c r calm (Trims file n m k f is eq) = absurd (true≢false (sym (ap is_shrinking is) ∙ calm))
acts s w me seen d c r calm (Approves x is of free no_ eq) = subst (Acts w d) eq (record {
  aside = λ h held_. absurd (held_ free);
  after = inl (course_is (λ (e : Doing). is_shrinking e ≡ false) (table s w) x (λ file. refl) (λ file. refl) (λ file k. refl) refl);
})
acts s w me seen d c r calm (BackApproves vhost ring_ file v is cis at_ free turn no_ eq) =
    subst (Acts w d) eq (record { aside = λ h held_. absurd (held_ free); after = inl refl })
acts s w me seen d c r calm (Reopening file f is at_ eq) =
    subst (Acts w d) eq (record { aside = λ h held_. absurd (holding d (Opens file) is refl h); after = inl refl })
acts s w me seen d c r calm (Shutting file version f is at_ eq) =
    subst (Acts w d) eq (record { aside = λ h held_. absurd (holding d _ is refl h); after = inl refl })
acts s w me seen d c r calm (Sizing file capacity f is at_ eq) = subst (Acts w d) eq (record {
  aside = λ h held_. absurd (holding d (Resizes file capacity) is refl h);
  after = inr (record { file = file; capacity = capacity; f = f; was = is; at_file = at_; ops = refl; files = refl; doing = refl });
})
acts s w me seen d c r calm (Publishing x v y last of no_ eq) =
    subst (Acts w d) eq (record { aside = λ h held_. absurd (true≢false (sym (last_holds d last) ∙ h)); after = inl refl })
acts s w me seen d c r calm (Withdrawing x file is of no_ eq) =
    subst (Acts w d) eq (record { aside = λ h held_. absurd (holding d (Withdraws file) is refl h); after = inl refl })
acts s w me seen d c r calm (Learning file hash o f g v wr free alike) =
    record { aside = λ h held_. absurd (held_ free); after = inl (alike_after d r.onward alike calm) }
acts s w me seen d c r calm (BackPublishes vhost ring_ asked cis eq) = back_publishes w d vhost ring_ asked r eq
acts s w me seen d c r calm (Owning vhost ring_ asked cis eq) = owns w seen d vhost ring_ asked r eq
acts s w me seen d c r calm (BackDrives x vhost ring_ file v g is cis a b free eq) =
    subst (λ (q : Doing). Acts w q r) (sym is) (where_some (Acts w (Backs x)) _ r (back_calls s w me seen x vhost ring_ file v g.memory) eq)
acts s w me seen d c r calm (Calling vhost v g x is of a b call may eq) = subst (Acts w d) eq (record { aside = λ h held_. (refl, tt); after = inl refl })
acts s w me seen d c r calm (Touching guest g m step v y at_ same is o f gs vs wr on) = record {
  aside = λ h held_. (o, subst shapes.Leaves (sym f) tt);
  after = inl (ap (λ (q : Onward). is_shrinking (doing_after q d)) on);
}
acts s w me seen d c r calm (RxTurning vhost file t v g h made files f over cis a b way step leaves told_ eq) =
    subst (Acts w d) eq (record { aside = λ k held_. (refl, leaves); after = inl (rx_after seen file made.0.turn f d over) })
acts s w me seen d c r calm (TxTurning vhost file t told v g made st over cis a b way step end_ eq) =
    subst (Acts w d) eq (record { aside = λ k held_. (refl, tt); after = inl (tx_after seen file made.0.turn _ _ d over) })

-- ---- a resize under way

-- it cuts one entry more, or ends
abbrev pub CutsOn : ℕ → ℕ → ℕ → Effect → Type 0
CutsOn file places cuts r =
    ((r.files ≡ OnFile file Cuts) × (r.ops ≡ []) × (doing_after r.onward (Shrinks file places cuts) ≡ Shrinks file places (cuts + 1)))
    ⊎ (doing_after r.onward (Shrinks file places cuts) ≡ Begun)

kind_cut : (k : EventKind) → is_kind k (Some event.Cut) ≡ true → k ≡ event.Cut
kind_cut event.Cut e = refl
kind_cut k e = absurd (true≢false (sym e))

kind_publish : (k : EventKind) → is_kind k (Some event.Publish) ≡ true → k ≡ event.Publish
kind_publish event.Publish e = refl
kind_publish k e = absurd (true≢false (sym e))

kinds : (k : EventKind) (o : Option File) → is_kind k (option_map_or (λ f. Some (shrink_next f)) o None) ≡ true → (k ≡ event.Cut) ⊎ (k ≡ event.Publish)
kinds k None e = absurd (true≢false (sym e))
kinds k (Some f) e = go (is_over f) e
  where
    go : (b : Bool) → is_kind k (Some (if b then event.Cut else event.Publish)) ≡ true → (k ≡ event.Cut) ⊎ (k ≡ event.Publish)
    go true h = inl (kind_cut k h)
    go false h = inr (kind_publish k h)

abbrev pub shrinker : ℕ → List Numbered → ℕ → ℕ → ℕ → Actor
shrinker seen script file places cuts = record { seen = seen; script = script; doing = Shrinks file places cuts }

pub shrinks_on : (s : Setup) (w : World) (k : EventKind) (me seen : ℕ) (script : List Numbered) (n file places cuts : ℕ) (c : Command)
    → is_kind k (next_kind w (Shrinks file places cuts) c) ≡ true → can_be (Shrinks file places cuts) c ≡ true
    → WhereSome (CutsOn file places cuts) (rows.row s w k me (shrinker seen script file places cuts) n c)
shrinks_on s w k me seen script n file places cuts (command.Resize other asked) next can = ⊎_elim
    (λ is. subst (λ (q : EventKind). WhereSome (CutsOn file places cuts) (rows.row s w q me (shrinker seen script file places cuts) n (command.Resize other asked))) (sym is)
    (held (CutsOn file places cuts) w me (ring.cuts w seen (Shrinks file places cuts)) (where_then (CutsOn file places cuts) (at w.files file) _
    (λ f e. where_then (CutsOn file places cuts) (ring.name_at f.line (last_that in_ring f.line)) _ (λ x e2. inl (refl, refl, refl))))))
    (λ is. subst (λ (q : EventKind). WhereSome (CutsOn file places cuts) (rows.row s w q me (shrinker seen script file places cuts) n (command.Resize other asked))) (sym is)
    (own (CutsOn file places cuts) s w me (Shrinks file places cuts) (command.Resize other asked) (λ x. where_then (CutsOn file places cuts) (at w.files file) _ (λ f e. inr refl))))
    (kinds k (at w.files file) next)
shrinks_on s w k me seen script n file places cuts c next can = absurd (true≢false (sym can))
