-- Every event keeps which files are backends of rings.
use Rattle.std.proofs.Common.{◌≡◌, ℕ, ◌+◌, List, [], ◌∷◌, Bool, true, false, Option, Some, None, inl, inr, refl, sym, ap, ◌∙◌, subst, true≢false, ◌<◌, length}
use Rattle.std.specs.Prelude.{if◌then◌else◌, ◌==◌, is_none, is_some, not, ◌&&◌}
use Rattle.guest_mem.specs.Memory.{Contents}
use Rattle.tap_steer.specs.declared.operation.Op.{Op}
use Rattle.tap_steer.specs.Table.{Table, file_at}
use Rattle.tap_steer.specs.Rules.{backer}
use Rattle.tap_steer.specs.After.{after_all}
use Rattle.vhost_dev.specs.declared.error.VhostErr.{VhostErr}
use Rattle.vhost_dev.specs.Refusals.{number_refusal, ready_refusal}
use Rattle.vhost_dev.specs.Settings.{ring_at}
use Rattle.scen_words.specs.declared.command.Command.{Command}
use Rattle.tap_trace.specs.declared.answer.Answer.{Answer}
use Rattle.tap_ledger.specs.declared.error.TapErr.{TapErr as TapText}
use Rattle.tap_world.specs.declared.event.Event.{Event}
use Rattle.tap_world.specs.Setup.{Setup}
use Rattle.tap_world.specs.Guests.{Vhost, is_ring, with_turn}
use Rattle.tap_world.specs.World.{Doing, World, newest, table}
use Rattle.tap_world.specs.World.Doing.{Backed, Backs, Begun, Changes, Disowned, Opened, Opens, Owns, Purges, Released, Resizes, Shrinks, Unbacked, Withdrawn, Withdraws}
use Rattle.tap_world.specs.Effect.{Effect, Onward, only, ended, OnVhosts, vhosts_after}
use Rattle.tap_world.specs.Effect.Onward.{Goes}
use Rattle.tap_world.specs.Each.{EachActor}
use Rattle.tap_world.specs.Sound.{WriterIsHeld, holds}
use Rattle.tap_world.specs.SoundActors.{can_be}
use Rattle.tap_world.specs.SoundTable.{IsAsFound, commanded, writing, backer_by, is_on, is_rx_side}
use Rattle.tap_sound.proofs.Kit.{some_same, then_some}
use Rattle.tap_sound.proofs.Shapes.{IsLast, Shape}
use Rattle.tap_sound.proofs.Shapes.Shape.{Giving, Approves, BackApproves, BackDrives, BackPublishes, Calling, Learning, Owning, Publishing, Quiet, Reopening, RxTurning, Shutting, Sizing, Touching, Trims, TxTurning, Withdrawing}
use Rattle.tap_sound.proofs.Standing.{answered, first_passed, ring_there}
use Rattle.tap_sound.proofs.TableFiles.{learn_same}
use Rattle.tap_sound.proofs.Taken.{IsStep, both, when_settled}
use Rattle.tap_sound.proofs.Views.{Is, View, ending_view, view}
use Rattle.tap_sound.proofs.Views.View.{Aside, Begins, Closes, Within}
use Rattle.tap_sound.proofs.Writers.{course_is, doing_after, rx_free, rx_holds, tx_free, tx_holds, unset_refusal, last_holds}
use Rattle.tap_world.specs.Line.{claimed}
use Rattle.tap_sound.proofs.TableKept.{FitsWorld, alike_view, aside, at_view, begins, closes, doing_on, goes_last, goes_within, ops_on, into, table_on, within}
use Rattle.std.specs.Option.{option_map_or}
use Rattle.tap_ledger.specs.declared.side.Side.{Side}
use Rattle.tap_ledger.specs.declared.side.Side.TheVariants.{Rx, Tx}
use Rattle.vhost_dev.specs.Calls.{without_backend}
use Rattle.tap_world.specs.ByNumber.{at}
use Rattle.tap_world.specs.Effect.OnVhosts.{NoVhost, OnVhost}
use Rattle.tap_sound.proofs.Backers.{FromOld, HaveBackends, SameFiles, Vhosts, back_backs, call_files, files_backers, no_vhost, one_vhost, op_backs, queue_files, same_backs, set_backs, turn_files, unset_backs}
use Rattle.tap_sound.proofs.Calls.{called_is}
use Rattle.tap_sound.proofs.Turns.{effect_vhosts}
use Rattle.tap_steer.specs.declared.operation.Op.TheVariants as op
use Rattle.tap_steer.specs.Select as steer
use Rattle.scen_words.specs.declared.command.Command.TheVariants as command
use Rattle.tap_world.specs.declared.event.Found.TheVariants as found
use Rattle.tap_world.specs.StepBackend as back_steps
use Rattle.tap_world.specs.StepTable as tables

abbrev pub Backings : Setup → World → Type 0
Backings s w = HaveBackends (writing w) (commanded w) (table s w) w.vhosts

pub into_backs : (w : World) (d : Doing) (c : Option Command) (t : Table) (vhosts : Vhosts) → Is w d c → HaveBackends (writing w) (commanded w) t vhosts → HaveBackends d c t vhosts
into_backs w d c t vhosts is h = subst (λ (x : Doing). HaveBackends x c t vhosts) is.0 (subst (λ (k : Option Command). HaveBackends (writing w) k t vhosts) is.1 h)

pub onto_backs : (v : World) (d : Doing) (c : Option Command) (t : Table) (vhosts : Vhosts) → Is v d c → HaveBackends d c t vhosts → HaveBackends (writing v) (commanded v) t vhosts
onto_backs v d c t vhosts is h = subst (λ (x : Doing). HaveBackends x (commanded v) t vhosts) (sym is.0) (subst (λ (k : Option Command). HaveBackends d k t vhosts) (sym is.1) h)

module _ (s : Setup) (w : World) (x : Event) (u : World) (t : IsStep s w x u) where
  vhosts_on : (o : OnVhosts) → t.effect.vhosts ≡ o → t.between.vhosts ≡ vhosts_after o w.vhosts
  vhosts_on o is = effect_vhosts t.effect x.actor t.actor x.command w t.between t.made ∙ ap (λ (q : OnVhosts). vhosts_after q w.vhosts) is

  on_vhosts : (r : Effect) → r ≡ t.effect → t.effect.vhosts ≡ r.vhosts
  on_vhosts r is = ap (λ (q : Effect). q.vhosts) (sym is)

  from_none : t.effect.vhosts ≡ NoVhost → FromOld w.vhosts t.between.vhosts
  from_none is = subst (FromOld w.vhosts) (sym (vhosts_on NoVhost is)) (no_vhost w.vhosts)

  from_one : (vhost : ℕ) (v new : Vhost) → t.effect.vhosts ≡ OnVhost vhost new → at w.vhosts vhost ≡ Some v → SameFiles v new → FromOld w.vhosts t.between.vhosts
  from_one vhost v new is at_ same = subst (FromOld w.vhosts) (sym (vhosts_on (OnVhost vhost new) is)) (one_vhost vhost v new w.vhosts at_ same)

  from_over : (vhost ring : ℕ) → t.effect.vhosts ≡ option_map_or (λ v. OnVhost vhost (with_turn ring None v)) (at w.vhosts vhost) NoVhost → FromOld w.vhosts t.between.vhosts
  from_over vhost ring is = go (at w.vhosts vhost) refl is
    where
      go : (o : Option Vhost) → at w.vhosts vhost ≡ o → t.effect.vhosts ≡ option_map_or (λ v. OnVhost vhost (with_turn ring None v)) o NoVhost → FromOld w.vhosts t.between.vhosts
      go None at_ same = from_none same
      go (Some v) at_ same = from_one vhost v (with_turn ring None v) same at_ (turn_files ring None v)

  -- the vhosts have the files that they had, and the table has the backers that it was to have
  even : (d e : Doing) (c k : Option Command) (ops : List Op) → Is w d c → Is t.between e k → t.effect.ops ≡ ops → FromOld w.vhosts t.between.vhosts
      → ((q : Side) (n : ℕ) → backer_by e k q n (backer q (file_at (after_all (table s w) ops) n)) ≡ backer_by d c q n (backer q (file_at (table s w) n)))
      → Backings s w → Backings s t.between
  even d e c k ops was is published from same h =
      onto_backs t.between e k (table s t.between) t.between.vhosts is
      (subst (λ (q : Table). HaveBackends e k q t.between.vhosts) (sym (table_on s w x u t ops published))
      (same_backs d e c k (table s w) (after_all (table s w) ops) w.vhosts t.between.vhosts from same (into_backs w d c (table s w) w.vhosts was h)))

  steady_backs : (ops : List Op) → (writing t.between ≡ writing w) × (commanded t.between ≡ commanded w) → t.effect.ops ≡ ops
      → (after_all (table s w) ops).files ≡ (table s w).files → FromOld w.vhosts t.between.vhosts → Backings s w → Backings s t.between
  steady_backs ops same published files from h =
      even (writing w) (writing w) (commanded w) (commanded w) ops (refl, refl) same published from
      (λ q n. ap (backer_by (writing w) (commanded w) q n) (files_backers (table s w) (after_all (table s w) ops) files q n)) h

  free_backs : View w t.between t.actor.doing (doing_after t.effect.onward t.actor.doing) t.now.command → holds t.actor.doing ≡ false
      → holds (doing_after t.effect.onward t.actor.doing) ≡ false → t.effect.ops ≡ [] → FromOld w.vhosts t.between.vhosts → Backings s w → Backings s t.between
  free_backs view_ a b none from h = steady_backs [] (aside w t.between _ _ t.now.command view_ a b) none refl from h

  -- publications of a backend
  set_published : (file vhost ring : ℕ) (asked : Option ℕ) → file < length (table s w).files
      → View w t.between (Backed file) (doing_after t.effect.onward (Backed file)) (command.Backend vhost ring asked) → (b : Bool) → (ring == 0) ≡ b
      → (if b then record
      (only (Goes (newest w + 1) (Owns file (newest w + 1)) (found.Version (newest w + 1))) w) { ops = op.Back file (back_steps.side_of ring) (Some vhost) ∷ [] }
      else record (back_steps.back_over w (newest w + 1) vhost ring (newest w + 1)) { ops = op.Back file (back_steps.side_of ring) (Some vhost) ∷ [] }) ≡ t.effect
      → Backings s w → Backings s t.between
  set_published file vhost ring asked there view_ true is eq h =
      let v = goes_within s w x u t (Backed file) (Owns file (newest w + 1)) (command.Backend vhost ring asked) _ eq view_ refl refl refl in
      even (Backed file) (Owns file (newest w + 1)) (Some (command.Backend vhost ring asked)) (Some (command.Backend vhost ring asked))
      (op.Back file (back_steps.side_of ring) (Some vhost) ∷ []) v.0 v.1 (ops_on s w x u t _ eq) (from_none (on_vhosts _ eq)) (back_backs (table s w) file ring (Some vhost) (inl there)) h
  set_published file vhost ring asked there view_ false is eq h =
      let v = goes_last s w x u t (Backed file) (command.Backend vhost ring asked) _ eq view_ refl refl in
      even (Backed file) Begun (Some (command.Backend vhost ring asked)) None
      (op.Back file (back_steps.side_of ring) (Some vhost) ∷ []) v.0 v.1 (ops_on s w x u t _ eq) (from_over vhost ring (on_vhosts _ eq))
      (back_backs (table s w) file ring (Some vhost) (inl there)) h

  back_published : (d : Doing) (vhost ring : ℕ) (asked : Option ℕ) → IsAsFound d (Some (command.Backend vhost ring asked)) (table s w)
      → View w t.between d (doing_after t.effect.onward d) (command.Backend vhost ring asked)
      → can_be d (command.Backend vhost ring asked) ≡ true → back_steps.publishes_back w d (command.Backend vhost ring asked) ≡ Some t.effect → Backings s w → Backings s t.between
  back_published (Backed file) vhost ring asked f view_ can e h = set_published file vhost ring asked f.0 view_ (ring == 0) refl (some_same _ t.effect e) h
  back_published (Disowned file) vhost ring asked f view_ can e h =
      let eq = some_same _ t.effect e in
      let v = goes_last s w x u t (Disowned file) (command.Backend vhost ring asked) _ eq view_ refl refl in
      even (Disowned file) Begun (Some (command.Backend vhost ring asked)) None (op.Back file (back_steps.side_of ring) None ∷ []) v.0 v.1 (ops_on s w x u t _ eq)
      (from_over vhost ring (on_vhosts _ eq))
      (λ q n. back_backs (table s w) file ring None (inr refl) q n ∙ ap (λ (b : Bool). if file == n && b then None else backer q (file_at (table s w) n)) (rx_on asked can q)) h
    where
      rx_on : (o : Option ℕ) → can_be (Disowned file) (command.Backend vhost ring o) ≡ true → (q : Side) → is_on q ring ≡ is_rx_side q
      rx_on None k Rx = (both _ _ k).1
      rx_on None k Tx = ap not (both (is_ring ring) (ring == 0) k).1
      rx_on (Some n) k q = absurd (true≢false (sym k))
  back_published (Released file) vhost ring asked f view_ can e h =
      let eq = some_same _ t.effect e in
      let v = goes_last s w x u t (Released file) (command.Backend vhost ring asked) _ eq view_ refl refl in
      even (Released file) Begun (Some (command.Backend vhost ring asked)) None (op.Back file (back_steps.side_of ring) None ∷ []) v.0 v.1 (ops_on s w x u t _ eq)
      (from_over vhost ring (on_vhosts _ eq))
      (λ q n. back_backs (table s w) file ring None (inr refl) q n ∙ ap (λ (b : Bool). if file == n && b then None else backer q (file_at (table s w) n)) (tx_on asked can q)) h
    where
      false_of : (b : Bool) → not b ≡ true → b ≡ false
      false_of true k = absurd (true≢false (sym k))
      false_of false k = refl

      tx_on : (o : Option ℕ) → can_be (Released file) (command.Backend vhost ring o) ≡ true → (q : Side) → is_on q ring ≡ not (is_rx_side q)
      tx_on None k Rx = false_of (ring == 0) (both _ _ k).1
      tx_on None k Tx = (both (is_ring ring) (not (ring == 0)) k).1
      tx_on (Some n) k q = absurd (true≢false (sym k))
  back_published d vhost ring asked f view_ can e h = absurd (cc (e))

  owned : (d : Doing) (vhost ring : ℕ) (asked : Option ℕ) → View w t.between d (doing_after t.effect.onward d) (command.Backend vhost ring asked)
      → back_steps.owns w t.actor.seen d (command.Backend vhost ring asked) ≡ Some t.effect → Backings s w → Backings s t.between
  owned (Owns file version) vhost ring asked view_ e h =
      let eq = some_same _ t.effect e in
      let v = goes_last s w x u t (Owns file version) (command.Backend vhost ring asked) _ eq view_ refl refl in
      even (Owns file version) Begun (Some (command.Backend vhost ring asked)) None [] v.0 v.1 (ops_on s w x u t _ eq) (from_over vhost ring (on_vhosts _ eq)) (λ q n. refl) h
  owned (Unbacked file) vhost ring asked view_ e h =
      let eq = some_same _ t.effect e in
      let v = goes_within s w x u t (Unbacked file) (Disowned file) (command.Backend vhost ring asked) _ eq view_ refl refl refl in
      even (Unbacked file) (Disowned file) (Some (command.Backend vhost ring asked)) (Some (command.Backend vhost ring asked)) [] v.0 v.1 (ops_on s w x u t _ eq)
      (from_none (on_vhosts _ eq)) (λ q n. refl) h
  owned d vhost ring asked view_ e h = absurd (cc (e))

  -- a backend at its Drive
  ended_back : (refusal : Option TapText) (c : Command) → View w t.between (Backs refusal) (doing_after t.effect.onward (Backs refusal)) c
      → doing_after t.effect.onward (Backs refusal) ≡ Begun → t.effect.ops ≡ [] → FromOld w.vhosts t.between.vhosts → Backings s w → Backings s t.between
  ended_back None c view_ is none from h =
      let v = closes w t.between (Backs None) Begun c (at_view w t.between (Backs None) (Backs None) _ Begun c refl is view_) refl refl in
      even (Backs None) Begun (Some c) None [] v.0 v.1 none from (λ q n. refl) h
  ended_back (Some r) c view_ is none from h =
      steady_backs [] (aside w t.between (Backs (Some r)) Begun c (at_view w t.between (Backs (Some r)) (Backs (Some r)) _ Begun c refl is view_) refl refl) none refl from h

  from_ends : (vhost ring : ℕ) (refusal : Option TapText) (v : Vhost) → at w.vhosts vhost ≡ Some v
      → t.effect.vhosts ≡ OnVhost vhost (if is_ring ring && is_none refusal then with_turn ring None v else v) → FromOld w.vhosts t.between.vhosts
  from_ends vhost ring refusal v at_ is = go (is_ring ring && is_none refusal) is
    where
      go : (b : Bool) → t.effect.vhosts ≡ OnVhost vhost (if b then with_turn ring None v else v) → FromOld w.vhosts t.between.vhosts
      go true same = from_one vhost v (with_turn ring None v) same at_ (turn_files ring None v)
      go false same = from_one vhost v v same at_ (λ q. refl)

  unset_backings : (vhost ring : ℕ) (v : Vhost) (m : Contents) (a : Option Answer) (o : Option ℕ) → at w.vhosts vhost ≡ Some v → (ring_at ring v.settings).file ≡ o
      → View w t.between (Backs None) (doing_after t.effect.onward (Backs None)) (command.Backend vhost ring None)
      → back_steps.unsets_back w x.actor t.actor.seen vhost ring v m a o ≡ t.effect → Backings s w → Backings s t.between
  unset_backings vhost ring v m (Some a) o at_ has view_ eq h =
      ended_back None (command.Backend vhost ring None) view_ (doing_on s w x u t _ eq (Backs None)) (ops_on s w x u t _ eq) (from_ends vhost ring None v at_ (on_vhosts _ eq)) h
  unset_backings vhost ring v m None None at_ has view_ eq h =
      ended_back None (command.Backend vhost ring None) view_ (doing_on s w x u t _ eq (Backs None)) (ops_on s w x u t _ eq) (from_ends vhost ring None v at_ (on_vhosts _ eq)) h
  unset_backings vhost ring v m None (Some file) at_ has view_ eq h = go (ring == 0) refl (doing_on s w x u t _ eq (Backs None))
    where
      c : Command
      c = command.Backend vhost ring None

      unset : (d : Doing) → holds d ≡ true → doing_after t.effect.onward (Backs None) ≡ d
          → ((q : Side) (n : ℕ) (o : Option ℕ) → backer_by d (Some c) q n o ≡ (if file == n && is_on q ring then None else o)) → Backings s t.between
      unset d hold is by =
          let v2 = within w t.between (Backs None) d c (at_view w t.between (Backs None) (Backs None) _ d c refl is view_) refl hold in
          onto_backs t.between d (Some c) (table s t.between) t.between.vhosts v2.1
          (subst (λ (q : Table). HaveBackends d (Some c) q t.between.vhosts) (sym (table_on s w x u t [] (ops_on s w x u t _ eq)))
          (subst (HaveBackends d (Some c) (table s w)) (sym (vhosts_on (OnVhost vhost (record v { settings = without_backend ring v.settings })) (on_vhosts _ eq)))
          (unset_backs d (Some c) (Some c) vhost ring file v (table s w) w.vhosts at_ has by (into_backs w (Backs None) (Some c) (table s w) w.vhosts v2.0 h))))

      go : (b : Bool) → (ring == 0) ≡ b → doing_after t.effect.onward (Backs None) ≡ (if b then Unbacked file else Released file) → Backings s t.between
      go true zero_ is = unset (Unbacked file) refl is (λ q n o. ap (λ (b : Bool). if file == n && b then None else o) (sym (rx_on q)))
        where
          rx_on : (q : Side) → is_on q ring ≡ is_rx_side q
          rx_on Rx = zero_
          rx_on Tx = ap not zero_
      go false one_ is = unset (Released file) refl is (λ q n o. ap (λ (b : Bool). if file == n && b then None else o) (sym (tx_on q)))
        where
          tx_on : (q : Side) → is_on q ring ≡ not (is_rx_side q)
          tx_on Rx = one_
          tx_on Tx = ap not one_

  set_backings : (vhost ring file : ℕ) (refusal : Option TapText) (v : Vhost) (m : Contents) (a : Option Answer) → at w.vhosts vhost ≡ Some v
      → (a ≡ None → ((ring_at ring v.settings).file ≡ None) × (is_ring ring ≡ true) × (refusal ≡ None)) → IsAsFound (Backs refusal) (Some (command.Backend vhost ring (Some file))) (table s w)
      → View w t.between (Backs refusal) (doing_after t.effect.onward (Backs refusal)) (command.Backend vhost ring (Some file))
      → back_steps.sets_back w x.actor t.actor.seen vhost ring file refusal v m a ≡ t.effect → Backings s w → Backings s t.between
  set_backings vhost ring file refusal v m (Some a) at_ there f view_ eq h =
      ended_back refusal (command.Backend vhost ring (Some file)) view_ (doing_on s w x u t _ eq (Backs refusal)) (ops_on s w x u t _ eq) (from_ends vhost ring refusal v at_ (on_vhosts _ eq)) h
  set_backings vhost ring file (Some r) v m None at_ there f view_ eq h = absurd (cc ((there refl).2))
  set_backings vhost ring file None v m None at_ there f view_ eq h =
      let c : Command = command.Backend vhost ring (Some file) in
      let k = there refl in
      let v2 = within w t.between (Backs None) (Backed file) c (at_view w t.between (Backs None) (Backs None) _ (Backed file) c refl (doing_on s w x u t _ eq (Backs None)) view_) refl refl in
      onto_backs t.between (Backed file) (Some c) (table s t.between) t.between.vhosts v2.1
      (subst (λ (q : Table). HaveBackends (Backed file) (Some c) q t.between.vhosts) (sym (table_on s w x u t [] (ops_on s w x u t _ eq)))
      (subst (HaveBackends (Backed file) (Some c) (table s w)) (sym (vhosts_on (OnVhost vhost _) (on_vhosts _ eq)))
      (set_backs vhost ring file v m (table s w) w.vhosts at_ k.0 (f k.1).1 (into_backs w (Backs None) (Some c) (table s w) w.vhosts v2.0 h))))

held_is : (w v : World) (d e : Doing) (c : Command) → View w v d e c → holds d ≡ true → Is w d (Some c)
held_is w v d e c (Aside a b x y) h = absurd (true≢false (sym h ∙ a))
held_is w v d e c (Begins x y a b) h = absurd (true≢false (sym h ∙ a))
held_is w v d e c (Within x y a b) h = x
held_is w v d e c (Closes x y a b) h = x

found_here : (s : Setup) (w v : World) (d e : Doing) (c : Command) → View w v d e c → holds d ≡ true → FitsWorld s w → IsAsFound d (Some c) (table s w)
found_here s w v d e c view_ hold h = (into w d (Some c) (table s w) w.files (held_is w v d e c view_ hold) h).found

back_held : (w : World) (d : Doing) (vhost ring : ℕ) (asked : Option ℕ) (r : Effect) → back_steps.publishes_back w d (command.Backend vhost ring asked) ≡ Some r → holds d ≡ true
back_held w (Backed file) vhost ring asked r e = refl
back_held w (Disowned file) vhost ring asked r e = refl
back_held w (Released file) vhost ring asked r e = refl
back_held w d vhost ring asked r e = absurd (cc (e))

no_backend : (ring : ℕ) (m : Contents) (v : Vhost) → ready_refusal ring m v.settings ≡ None → (ring_at ring v.settings).file ≡ None
no_backend ring m v e = none_of (ring_at ring v.settings).file (first_passed _ _ _ (passed_first _ _ _ e))
  where
    none_of : (o : Option ℕ) → is_some o ≡ false → o ≡ None
    none_of None k = refl
    none_of (Some n) k = absurd (true≢false k)

    passed_first : (b : Bool) (r : VhostErr) (rest : Option VhostErr) → (if b then Some r else rest) ≡ None → rest ≡ None
    passed_first true r rest k = absurd (cc (k))
    passed_first false r rest k = k

back_driven : (s : Setup) (w : World) (x : Event) (u : World) (t : IsStep s w x u) (refusal : Option TapText) (vhost ring : ℕ) (file : Option ℕ) (v : Vhost) (m : Contents)
    → (file ≡ None → refusal ≡ None) → at w.vhosts vhost ≡ Some v
    → View w t.between (Backs refusal) (doing_after t.effect.onward (Backs refusal)) (command.Backend vhost ring file)
    → back_steps.back_call s w x.actor t.actor.seen refusal vhost ring file v m ≡ Some t.effect → FitsWorld s w → Backings s w → Backings s t.between
back_driven s w x u t None vhost ring None v m no_ at_ view_ eq f h =
    let b = then_some (back_steps.refused_by (number_refusal ring)) _ t.effect eq in
    unset_backings s w x u t vhost ring v m b.0 (ring_at ring v.settings).file at_ refl view_ (some_same _ t.effect b.2) h
back_driven s w x u t (Some r) vhost ring None v m no_ at_ view_ eq f h = absurd (cc (no_ refl))
back_driven s w x u t None vhost ring (Some file) v m no_ at_ view_ eq f h =
    let b = then_some (back_steps.back_answer (ready_refusal ring m v.settings) None (back_steps.unfit_for (steer.shape_of (table s w) file) v.settings)) _ t.effect eq in
    set_backings s w x u t vhost ring file None v m b.0 at_
    (λ e. let a = answered _ _ _ (b.1 ∙ ap (λ (o : Option Answer). Some o) e) in (no_backend ring m v a.0, ring_there ring (first_passed _ _ _ a.0), a.1))
    (found_here s w t.between (Backs None) _ (command.Backend vhost ring (Some file)) view_ refl f) view_ (some_same _ t.effect b.2) h
back_driven s w x u t (Some r) vhost ring (Some file) v m no_ at_ view_ eq f h =
    let b = then_some (back_steps.back_answer (ready_refusal ring m v.settings) (Some r) (back_steps.unfit_for (steer.shape_of (table s w) file) v.settings)) _ t.effect eq in
    set_backings s w x u t vhost ring file (Some r) v m b.0 at_
    (λ e. let a = answered _ _ _ (b.1 ∙ ap (λ (o : Option Answer). Some o) e) in (no_backend ring m v a.0, ring_there ring (first_passed _ _ _ a.0), a.1)) tt view_ (some_same _ t.effect b.2) h

backings_between : (s : Setup) (w : World) (x : Event) (u : World) (t : IsStep s w x u) → can_be t.actor.doing t.now.command ≡ true
    → Shape s w x.actor t.actor.seen t.actor.doing t.now.command t.effect
    → View w t.between t.actor.doing (doing_after t.effect.onward t.actor.doing) t.now.command → FitsWorld s w → Backings s w → Backings s t.between
backings_between s w x u t can (Quiet o f g v wr alike) view_ fits h =
    steady_backs s w x u t [] (alike_view w t.between t.actor.doing t.effect.onward t.now.command alike view_) o refl (from_none s w x u t v) h
backings_between s w x u t can (Giving vhost file q told o f g v wr k) view_ fits h =
    free_backs s w x u t view_ (ap holds k.doing) (ap (λ (y : Onward). holds (doing_after y t.actor.doing)) k.goes) o (from_none s w x u t v) h
backings_between s w x u t can (Trims file n m k f is eq) view_ fits h =
    let v = goes_within s w x u t (Shrinks file n m) (Shrinks file n k) t.now.command _ eq (at_view w t.between _ (Shrinks file n m) _ _ t.now.command is (ap (doing_after t.effect.onward) is) view_) refl refl refl in
    even s w x u t (Shrinks file n m) (Shrinks file n k) (Some t.now.command) (Some t.now.command) [] v.0 v.1 (ops_on s w x u t _ eq) (from_none s w x u t (on_vhosts s w x u t _ eq)) (λ q i. refl) h
backings_between s w x u t can (Approves y is of free no_ eq) view_ fits h =
    let e : Doing = tables.course (table s w) y in
    let v = begins w t.between Begun e t.now.command (at_view w t.between _ Begun _ e t.now.command is (doing_on s w x u t _ eq t.actor.doing) view_) refl
    (course_is (λ (q : Doing). holds q ≡ true) (table s w) y (λ file. refl) (λ file. refl) (λ file k. refl) refl) in
    even s w x u t Begun e None (Some t.now.command) [] v.0 v.1 (ops_on s w x u t _ eq) (from_none s w x u t (on_vhosts s w x u t _ eq))
    (λ q n. course_is (λ (p : Doing). backer_by p (Some t.now.command) q n (backer q (file_at (table s w) n)) ≡ backer q (file_at (table s w) n)) (table s w) y
    (λ file. refl) (λ file. refl) (λ file k. refl) refl) h
backings_between s w x u t can (BackApproves vhost ring file v0 is cis at_ free turn no_ eq) view_ fits h =
    let v = begins w t.between Begun (Backs None) t.now.command (at_view w t.between _ Begun _ (Backs None) t.now.command is (doing_on s w x u t _ eq t.actor.doing) view_) refl refl in
    even s w x u t Begun (Backs None) None (Some t.now.command) [] v.0 v.1 (ops_on s w x u t _ eq) (go (is_ring ring) (on_vhosts s w x u t _ eq)) (λ q n. refl) h
  where
    go : (b : Bool) → t.effect.vhosts ≡ OnVhost vhost (if b then with_turn ring (Some x.actor) v0 else v0) → FromOld w.vhosts t.between.vhosts
    go true same = from_one s w x u t vhost v0 (with_turn ring (Some x.actor) v0) same at_ (turn_files ring (Some x.actor) v0)
    go false same = from_one s w x u t vhost v0 v0 same at_ (λ q. refl)
backings_between s w x u t can (Reopening file f is at_ eq) view_ fits h =
    let v = goes_within s w x u t (Opens file) (Opened file) t.now.command _ eq (at_view w t.between _ (Opens file) _ _ t.now.command is (ap (doing_after t.effect.onward) is) view_) refl refl refl in
    even s w x u t (Opens file) (Opened file) (Some t.now.command) (Some t.now.command) [] v.0 v.1 (ops_on s w x u t _ eq) (from_none s w x u t (on_vhosts s w x u t _ eq)) (λ q n. refl) h
backings_between s w x u t can (Shutting file version f is at_ eq) view_ fits h =
    let v = goes_within s w x u t (Withdrawn file version) (Purges file version) t.now.command _ eq
    (at_view w t.between _ (Withdrawn file version) _ _ t.now.command is (ap (doing_after t.effect.onward) is) view_) refl refl refl in
    even s w x u t (Withdrawn file version) (Purges file version) (Some t.now.command) (Some t.now.command) [] v.0 v.1 (ops_on s w x u t _ eq)
    (from_none s w x u t (on_vhosts s w x u t _ eq)) (λ q n. refl) h
backings_between s w x u t can (Sizing file capacity f is at_ eq) view_ fits h =
    let v = goes_within s w x u t (Resizes file capacity) (Shrinks file (claimed f) 0) t.now.command _ eq
    (at_view w t.between _ (Resizes file capacity) _ _ t.now.command is (ap (doing_after t.effect.onward) is) view_) refl refl refl in
    even s w x u t (Resizes file capacity) (Shrinks file (claimed f) 0) (Some t.now.command) (Some t.now.command) [] v.0 v.1 (ops_on s w x u t _ eq)
    (from_none s w x u t (on_vhosts s w x u t _ eq)) (λ q n. refl) h
backings_between s w x u t can (Publishing y n ans last of no_ eq) view_ fits h =
    let v = goes_last s w x u t t.actor.doing t.now.command _ eq view_ refl (last_holds t.actor.doing last) in
    even s w x u t t.actor.doing Begun (Some t.now.command) None (y ∷ []) v.0 v.1 (ops_on s w x u t _ eq) (from_none s w x u t (on_vhosts s w x u t _ eq))
    (λ q i. op_backs s t.now.command y (table s w) of q i ∙ sym (last_backs t.actor.doing last q i (backer q (file_at (table s w) i)))) h
  where
    last_backs : (d : Doing) → IsLast d → (q : Side) (i : ℕ) (o : Option ℕ) → backer_by d (Some t.now.command) q i o ≡ o
    last_backs Changes k q i o = refl
    last_backs (Opened file) k q i o = refl
    last_backs (Shrinks file a b) k q i o = refl
    last_backs d k q i o = absurd k
backings_between s w x u t can (Withdrawing y file is of no_ eq) view_ fits h =
    let v = goes_within s w x u t (Withdraws file) (Withdrawn file (newest w + 1)) t.now.command _ eq
    (at_view w t.between _ (Withdraws file) _ _ t.now.command is (ap (doing_after t.effect.onward) is) view_) refl refl refl in
    even s w x u t (Withdraws file) (Withdrawn file (newest w + 1)) (Some t.now.command) (Some t.now.command) (y ∷ []) v.0 v.1 (ops_on s w x u t _ eq)
    (from_none s w x u t (on_vhosts s w x u t _ eq)) (λ q i. op_backs s t.now.command y (table s w) of q i) h
backings_between s w x u t can (Learning file hash o f g v wr free alike) view_ fits h =
    steady_backs s w x u t (op.Learn file hash ∷ []) (alike_view w t.between t.actor.doing t.effect.onward t.now.command alike view_) o (learn_same (table s w) file hash) (from_none s w x u t v) h
backings_between s w x u t can (BackPublishes vhost ring asked cis eq) view_ fits h =
    let v = subst (View w t.between t.actor.doing (doing_after t.effect.onward t.actor.doing)) cis view_ in
    back_published s w x u t t.actor.doing vhost ring asked
    (found_here s w t.between t.actor.doing _ (command.Backend vhost ring asked) v (back_held w t.actor.doing vhost ring asked t.effect eq) fits) v
    (subst (λ (c : Command). can_be t.actor.doing c ≡ true) cis can) eq h
backings_between s w x u t can (Owning vhost ring asked cis eq) view_ fits h =
    owned s w x u t t.actor.doing vhost ring asked (subst (View w t.between t.actor.doing (doing_after t.effect.onward t.actor.doing)) cis view_) eq h
backings_between s w x u t can (BackDrives refusal vhost ring file v g is cis a b free eq) view_ fits h =
    back_driven s w x u t refusal vhost ring file v g.memory
    (λ none. unset_refusal t.actor.doing refusal vhost ring t.now.command is (cis ∙ ap (command.Backend vhost ring) none) can) a
    (subst (View w t.between (Backs refusal) (doing_after t.effect.onward (Backs refusal))) cis
    (at_view w t.between _ (Backs refusal) _ _ t.now.command is (ap (doing_after t.effect.onward) is) view_)) eq fits h
backings_between s w x u t can (Calling vhost v g y is of a b call may eq) view_ fits h =
    free_backs s w x u t view_ (ap holds is) (ap holds (doing_on s w x u t _ eq t.actor.doing)) (ops_on s w x u t _ eq)
    (from_one s w x u t vhost v y.vhost (on_vhosts s w x u t _ eq) a (call_files t.now.command v g.memory y (called_is t.now.command v g.memory y call))) h
backings_between s w x u t can (Touching guest g m step v y at_ same is o f gs vs wr on) view_ fits h =
    free_backs s w x u t view_ (ap holds is) (ap (λ (q : Onward). holds (doing_after q t.actor.doing)) on) o (from_none s w x u t vs) h
backings_between s w x u t can (RxTurning vhost file q v g hd made files f over cis a b way step leaves told_ eq) view_ fits h =
    free_backs s w x u t view_ (rx_free x.actor t.actor.doing file q v way)
    (ap holds (doing_on s w x u t _ eq t.actor.doing) ∙ rx_holds t.actor.seen file made.0.turn f t.actor.doing over)
    (ops_on s w x u t _ eq) (from_one s w x u t vhost v _ (on_vhosts s w x u t _ eq) a (queue_files 0 (if is_some over then None else Some x.actor) made.0.queue v)) h
backings_between s w x u t can (TxTurning vhost file q told v g made st over cis a b way step end_ eq) view_ fits h =
    free_backs s w x u t view_ (tx_free t.actor.doing file q told v way)
    (ap holds (doing_on s w x u t _ eq t.actor.doing) ∙ tx_holds t.actor.seen file made.0.turn _ _ t.actor.doing over)
    (ops_on s w x u t _ eq) (from_one s w x u t vhost v _ (on_vhosts s w x u t _ eq) a (queue_files 1 (if is_some over then None else Some x.actor) made.0.queue v)) h

pub backings_are_kept : (s : Setup) (w : World) (x : Event) (u : World) (t : IsStep s w x u) → can_be t.actor.doing t.now.command ≡ true
    → Shape s w x.actor t.actor.seen t.actor.doing t.now.command t.effect → EachActor w (WriterIsHeld w) → FitsWorld s w → Backings s w → Backings s u
backings_are_kept s w x u t can shape writer fits h =
    let b = backings_between s w x u t can shape (view s w x u t can shape writer) fits h in
    subst (Backings s) t.is (when_settled (Backings s) t.between b (λ f end.
    let v = ending_view t.between f end in
    onto_backs (ended f t.between) Begun None (table s t.between) t.between.vhosts v.1
    (same_backs (Purges end.file f.version) Begun (Some end.now.command) None (table s t.between) (table s t.between) t.between.vhosts t.between.vhosts (no_vhost t.between.vhosts) (λ q n. refl)
    (into_backs t.between (Purges end.file f.version) (Some end.now.command) (table s t.between) t.between.vhosts v.0 b))))
