-- The events of others leave a ring whose turn an actor holds.
use Rattle.std.proofs.Common.{◌≡◌, ◌≢◌, ℕ, ◌<◌, List, [], ◌∷◌, Bool, true, false, true≢false, Option, Some, None, inl, inr, ⊎_elim, refl, sym, ap, ◌∙◌, subst, arith}
use Rattle.std.specs.Prelude.{◌==◌, ◌&&◌, ◌+◌, if◌then◌else◌, is_none, is_some, slice_get}
use Rattle.std.specs.Option.{option_map_or}
use Rattle.std.proofs.lemmas.Bool.Decides.{eqb_tells}
use Rattle.guest_mem.specs.Memory.{Contents}
use Rattle.vhost_dev.specs.declared.error.VhostErr.{VhostErr}
use Rattle.vhost_dev.specs.Refusals.{is_backed, number_refusal, ready_refusal}
use Rattle.vhost_dev.specs.Calls as dev
use Rattle.vhost_dev.specs.Settings.{RingSettings, Settings, at_ring, is_rx, ring_at, ring_of}
use Rattle.vring_turns.specs.RxTurn.{RxTurn}
use Rattle.vring_turns.specs.TxTurn.{TxTurn}
use Rattle.tap_steer.specs.Select.{shape_of}
use Rattle.scen_words.specs.declared.command.Command.{Command}
use Rattle.scen_words.specs.declared.command.Command.TheVariants as command
use Rattle.tap_ledger.specs.declared.error.TapErr.{TapErr as TapText}
use Rattle.tap_trace.specs.declared.answer.Answer.{Answer}
use Rattle.tap_trace.specs.declared.answer.Answer.TheVariants as answer
use Rattle.tap_trace.specs.declared.kind.Kind.TheVariants as kind
use Rattle.tap_world.specs.StepControl.{on_ring}
use Rattle.tap_world.specs.StepControl as control
use Rattle.tap_trace.specs.declared.kind.Kind.{Kind}
use Rattle.tap_trace.specs.declared.turn.ChainText.{ChainText}
use Rattle.tap_world.specs.ByNumber.{at, with_at}
use Rattle.tap_world.specs.Setup.{Numbered, Setup}
use Rattle.tap_world.specs.Guests.{Vhost, is_free_for, is_ring, turn_of, with_turn}
use Rattle.tap_world.specs.World.{Actor, Doing, World, current, newest, table}
use Rattle.tap_world.specs.World.Doing.{Backed, Disowned, Owns, Released, Unbacked}
use Rattle.tap_steer.specs.declared.operation.Op.TheVariants as op
use Rattle.tap_world.specs.declared.event.Found.TheVariants as found
use Rattle.tap_world.specs.Effect.Onward.{Goes}
use Rattle.tap_world.specs.Effect.{Effect, only, OnVhosts, vhosts_after, guests_after, files_after, with_effect}
use Rattle.tap_world.specs.Effect.OnVhosts.{NoVhost, OnVhost}
use Rattle.tap_world.specs.SoundRings.{TurnsAreHeld, holds_turn, is_about, ring_in}
use Rattle.tap_world.specs.StepBackend as back
use Rattle.tap_world.specs.StepTurns.{left}
use Rattle.tap_sound.proofs.Kit.{some_same, then_some, where_some}
use Rattle.tap_sound.proofs.Shapes.{RxWay, Shape, TxWay}
use Rattle.tap_sound.proofs.Shapes.Shape.{Approves, BackApproves, BackDrives, BackPublishes, Calling, Giving, Learning, Owning, Publishing, Quiet, Reopening, RxTurning, Shutting, Sizing, Touching, Trims, TxTurning, Withdrawing}
use Rattle.tap_sound.proofs.Steps.{not_refused}
use Rattle.tap_sound.proofs.Turned.{at_is, itself}
use Rattle.tap_steady.proofs.Kit.{with_at_else, with_at_here}
use Rattle.tap_steady.proofs.TurnRings.{SameIn, calls_stay, free_clash, if_turn_stays, numbered, ring_other, same_in, turn_in, unbacked, with_turn_stays}

-- ---- who holds a turn

pub holder : (w : World) (vhost ring i : ℕ) (v : Vhost) (a : Actor) (c : Numbered) → TurnsAreHeld w vhost v → ring < 2 → slice_get w.actors i ≡ Some a
    → slice_get a.script 0 ≡ Some c → ring_in c.command ≡ Some (vhost, ring) → holds_turn a.doing ≡ true → turn_of ring v ≡ Some i
holder w vhost ring i v a c turns below at_ now in_ holds =
    let about : is_about vhost ring (current a.script) ≡ true =
    ap (is_about vhost ring) now ∙ ap (λ (o : Option (ℕ × ℕ)). option_map_or (λ (r : ℕ × ℕ). r.0 == vhost && r.1 == ring) o false) in_
    ∙ ap (λ (b : Bool). b && ring == ring) (itself vhost) ∙ itself ring in
    at_is i (turn_of ring v) (sym (turns ring i a below at_) ∙ ap (λ (b : Bool). b && is_about vhost ring (current a.script)) holds ∙ about)

pub two_hold : (i me : ℕ) (o : Option ℕ) → o ≡ Some i → o ≡ Some me → i ≢ me → ⊥
two_hold i me o a b apart = apart (some_same i me (sym a ∙ b))

-- ---- what an effect leaves of the ring

-- a vhost that changes keeps the ring
abbrev pub KeepsRing : Bool → ℕ → Vhost → OnVhosts → Type 0
KeepsRing b vhost v NoVhost = Unit {0}
KeepsRing b vhost v (OnVhost n new) = n ≡ vhost → SameIn b v.settings new.settings

pub record LeavesRing (b : Bool) (vhost : ℕ) (v : Vhost) (r : Effect) : Type 0 where
  pub keeps : KeepsRing b vhost v r.vhosts

no_vhost : (b : Bool) (vhost : ℕ) (v : Vhost) (r : Effect) → r.vhosts ≡ NoVhost → LeavesRing b vhost v r
no_vhost b vhost v r is = record { keeps = subst (KeepsRing b vhost v) (sym is) tt }

-- one that is there keeps it where each vhost of its number does
here : (b : Bool) (vhost n : ℕ) (v x new : Vhost) (vhosts : List (Option Vhost)) → at vhosts vhost ≡ Some v → at vhosts n ≡ Some x
    → (x ≡ v → SameIn b v.settings new.settings) → KeepsRing b vhost v (OnVhost n new)
here b vhost n v x new vhosts a c h = λ same. h (some_same x v (sym c ∙ ap (at vhosts) same ∙ a))

module _ (s : Setup) (w : World) (me i seen vhost : ℕ) (d : Doing) (c : Command) (b : Bool) (v : Vhost) (at_v : at w.vhosts vhost ≡ Some v)
    (has_back : is_backed (ring_of b v.settings) ≡ true) (is_held : turn_in b v ≡ Some i) (apart : i ≢ me) where
  abbrev On : Effect → Type 0
  On r = LeavesRing b vhost v r

  only_turn : (n ring : ℕ) (o : Option ℕ) (x : Vhost) → at w.vhosts n ≡ Some x → KeepsRing b vhost v (OnVhost n (with_turn ring o x))
  only_turn n ring o x there = here b vhost n v x (with_turn ring o x) w.vhosts at_v there
      (λ same. subst (λ (y : Vhost). SameIn b y.settings (with_turn ring o x).settings) same (with_turn_stays b ring o x))

  maybe_turn : (n ring : ℕ) (t : Bool) (o : Option ℕ) (x : Vhost) → at w.vhosts n ≡ Some x → KeepsRing b vhost v (OnVhost n (if t then with_turn ring o x else x))
  maybe_turn n ring t o x there = here b vhost n v x (if t then with_turn ring o x else x) w.vhosts at_v there
      (λ same. subst (λ (y : Vhost). SameIn b y.settings (if t then with_turn ring o x else x).settings) same (if_turn_stays b t ring o x))

  over_turn : (n ring : ℕ) (o : Option Vhost) → at w.vhosts n ≡ o → KeepsRing b vhost v (option_map_or (λ x. OnVhost n (with_turn ring None x)) o NoVhost)
  over_turn n ring None is = tt
  over_turn n ring (Some x) is = only_turn n ring None x is

  over_effect : (m n ring version : ℕ) → On (back.back_over w m n ring version)
  over_effect m n ring version = record { keeps = over_turn n ring (at w.vhosts n) refl }

  published : (n ring : ℕ) (asked : Option ℕ) (d : Doing) (r : Effect) → back.publishes_back w d (command.Backend n ring asked) ≡ Some r → On r
  published n ring asked (Backed file) r e = subst On (some_same _ r e) (go (ring == 0))
    where
      go : (t : Bool) → On (if t then record
          (only (Goes (newest w + 1) (Owns file (newest w + 1)) (found.Version (newest w + 1))) w) { ops = op.Back file (back.side_of ring) (Some n) ∷ [] }
          else record (back.back_over w (newest w + 1) n ring (newest w + 1)) { ops = op.Back file (back.side_of ring) (Some n) ∷ [] })
      go true = record { keeps = tt }
      go false = record { keeps = over_turn n ring (at w.vhosts n) refl }
  published n ring asked (Disowned file) r e = subst On (some_same _ r e) (record { keeps = over_turn n ring (at w.vhosts n) refl })
  published n ring asked (Released file) r e = subst On (some_same _ r e) (record { keeps = over_turn n ring (at w.vhosts n) refl })
  published n ring asked d r e = absurd (cc (e))

  owned : (n ring : ℕ) (asked : Option ℕ) (d : Doing) (r : Effect) → back.owns w seen d (command.Backend n ring asked) ≡ Some r → On r
  owned n ring asked (Owns file version) r e = subst On (some_same _ r e) (record { keeps = over_turn n ring (at w.vhosts n) refl })
  owned n ring asked (Unbacked file) r e = subst On (some_same _ r e) (record { keeps = tt })
  owned n ring asked d r e = absurd (cc (e))

  ends : (n ring : ℕ) (refusal : Option TapText) (x : Vhost) (m : Contents) (y : Answer) (k : Option Kind) → at w.vhosts n ≡ Some x
      → On (back.back_ends w me seen n ring refusal x m y k)
  ends n ring refusal x m y k there = record { keeps = maybe_turn n ring (is_ring ring && is_none refusal) None x there }

  -- another ring gets a backend, or loses its own
  other_ring : (n ring : ℕ) (x : Vhost) (change : RingSettings → RingSettings) → at w.vhosts n ≡ Some x → (x ≡ v → is_rx ring ≡ b → ⊥)
      → KeepsRing b vhost v (OnVhost n (record x { settings = at_ring ring change x.settings }))
  other_ring n ring x change there clash = here b vhost n v x (record x { settings = at_ring ring change x.settings }) w.vhosts at_v there
      (λ same. subst (λ (y : Vhost). SameIn b y.settings (at_ring ring change x.settings)) same
      (ring_other (is_rx ring) b (change (ring_at ring x.settings)) x.settings (clash same)))

  unset : (n ring : ℕ) (x : Vhost) (m : Contents) (told : Option Answer) (file : Option ℕ) → at w.vhosts n ≡ Some x → is_free_for me ring x ≡ true
      → back.refused_by (number_refusal ring) ≡ Some told → On (back.unsets_back w me seen n ring x m told file)
  unset n ring x m (Some y) file there free e = ends n ring None x m y None there
  unset n ring x m None None there free e = ends n ring None x m answer.Done (Some (kind.Backend n ring false)) there
  unset n ring x m None (Some file) there free e = record {
    keeps = other_ring n ring x dev.unbacked there
        (λ same rx. free_clash me i ring b x (numbered ring (not_refused (number_refusal ring) e)) free (ap (turn_in b) same ∙ is_held) apart rx);
  }

  set_free : (ring : ℕ) (m : Contents) (x : Settings) (refusal : Option TapText) (unfit : Option VhostErr) (o : Option VhostErr) → ready_refusal ring m x ≡ o
      → back.back_answer o refusal unfit ≡ Some None → is_backed (ring_at ring x) ≡ false
  set_free ring m x refusal unfit (Some y) is e = absurd (none_some y (not_refused (Some y) e))
    where
      none_some : (y : VhostErr) → Some y ≡ None → ⊥
      none_some y h = cc (h)
  set_free ring m x refusal unfit None is e = second _ _ _ _ _ is
    where
      second : (p q : Bool) (o : Option VhostErr) (a c : VhostErr) → (if p then Some a else if q then Some c else o) ≡ None → q ≡ false
      second true q o a c h = absurd (cc (h))
      second false true o a c h = absurd (cc (h))
      second false false o a c h = refl

  set_back : (n ring file : ℕ) (refusal : Option TapText) (x : Vhost) (m : Contents) (told : Option Answer) → at w.vhosts n ≡ Some x
      → back.back_answer (ready_refusal ring m x.settings) refusal (back.unfit_for (shape_of (table s w) file) x.settings) ≡ Some told
      → On (back.sets_back w me seen n ring file refusal x m told)
  set_back n ring file refusal x m (Some y) there e = ends n ring refusal x m y (on_ring ring (kind.Backend n ring false)) there
  set_back n ring file refusal x m None there e = record {
    keeps = other_ring n ring x (dev.backed file m) there
        (λ same rx. unbacked b ring x.settings (ap (λ (y : Vhost). is_backed (ring_of b y.settings)) same ∙ has_back)
        (set_free ring m x.settings refusal (back.unfit_for (shape_of (table s w) file) x.settings) (ready_refusal ring m x.settings) refl e) rx);
  }

  driven : (n ring : ℕ) (file : Option ℕ) (refusal : Option TapText) (x : Vhost) (m : Contents) (r : Effect) → at w.vhosts n ≡ Some x
      → is_free_for me ring x ≡ true → back.back_call s w me seen refusal n ring file x m ≡ Some r → On r
  driven n ring None refusal x m r there free e =
      let t = then_some (back.refused_by (number_refusal ring)) _ r e in
      subst On (some_same _ r t.2) (unset n ring x m t.0 (ring_at ring x.settings).file there free t.1)
  driven n ring (Some file) refusal x m r there free e =
      let t = then_some (back.back_answer (ready_refusal ring m x.settings) refusal (back.unfit_for (shape_of (table s w) file) x.settings)) _ r e in
      subst On (some_same _ r t.2) (set_back n ring file refusal x m t.0 there t.1)

  -- whoever holds a turn of this vhost
  abbrev Mine : Type 0
  Mine = (ring : ℕ) → ring < 2 → ring_in c ≡ Some (vhost, ring) → holds_turn d ≡ true → turn_of ring v ≡ Some me

  free_none : (o : Option ℕ) → is_none o ≡ true → o ≡ Some i → ⊥
  free_none None h e = cc (e)
  free_none (Some n) h e = true≢false (sym h)

  rx_clash : (n file : ℕ) (t : RxTurn) (x : Vhost) → Mine → c ≡ command.RxTurn n → RxWay me d file t x → n ≡ vhost → x ≡ v → true ≡ b → ⊥
  rx_clash n file t x mine is (inl doing) there same side =
      two_hold i me v.rx_turn (ap (λ (y : Bool). turn_in y v) side ∙ is_held)
      (mine 0 (omega arith) (ap ring_in is ∙ ap (λ (k : ℕ). Some (k, 0)) there) (ap holds_turn doing)) apart
  rx_clash n file t x mine is (inr begins) there same side =
      free_none v.rx_turn (ap (λ (y : Vhost). is_none y.rx_turn) (sym same) ∙ begins.2) (ap (λ (y : Bool). turn_in y v) side ∙ is_held)

  tx_clash : (n file : ℕ) (t : TxTurn) (told : List ChainText) (x : Vhost) → Mine → c ≡ command.TxTurn n → TxWay d file t told x → n ≡ vhost → x ≡ v
      → false ≡ b → ⊥
  tx_clash n file t told x mine is (inl doing) there same side =
      two_hold i me v.tx_turn (ap (λ (y : Bool). turn_in y v) side ∙ is_held)
      (mine 1 (omega arith) (ap ring_in is ∙ ap (λ (k : ℕ). Some (k, 1)) there) (ap holds_turn doing)) apart
  tx_clash n file t told x mine is (inr begins) there same side =
      free_none v.tx_turn (ap (λ (y : Vhost). is_none y.tx_turn) (sym same) ∙ begins.2) (ap (λ (y : Bool). turn_in y v) side ∙ is_held)

  pub leaves_ring : (r : Effect) → Shape s w me seen d c r → Mine → On r
  leaves_ring r (Quiet o f g vs wr a) mine = no_vhost b vhost v r vs
  leaves_ring r (Giving n file t told o f g vs wr h) mine = no_vhost b vhost v r vs
  leaves_ring r (Trims file n m k f is e) mine = subst On e (record { keeps = tt })
  leaves_ring r (Approves x is of free ok e) mine = subst On e (record { keeps = tt })
  leaves_ring r (BackApproves n ring file x is asked there free turn ok e) mine =
      subst On e (record { keeps = maybe_turn n ring (is_ring ring) (Some me) x there })
  leaves_ring r (Reopening file f is there e) mine = subst On e (record { keeps = tt })
  leaves_ring r (Shutting file version f is there e) mine = subst On e (record { keeps = tt })
  leaves_ring r (Sizing file capacity f is there e) mine = subst On e (record { keeps = tt })
  leaves_ring r (Publishing x m y last of ok e) mine = subst On e (record { keeps = tt })
  leaves_ring r (Withdrawing x file is of ok e) mine = subst On e (record { keeps = tt })
  leaves_ring r (Learning file hash o f g vs wr free a) mine = no_vhost b vhost v r vs
  leaves_ring r (BackPublishes n ring asked is e) mine = published n ring asked d r e
  leaves_ring r (Owning n ring asked is e) mine = owned n ring asked d r e
  leaves_ring r (BackDrives refusal n ring file x g is asked there guest free e) mine = driven n ring file refusal x g.memory r there free e
  leaves_ring r (Calling n x g y is drives there guest call may e) mine = subst On e (record {
    keeps = here b vhost n v x y.vhost w.vhosts at_v there
        (λ same. subst (λ (z : Vhost). SameIn b z.settings y.vhost.settings) same
        (where_some (λ (z : control.Call). SameIn b x.settings z.vhost.settings) _ y
        (calls_stay b x g.memory (ap (λ (z : Vhost). is_backed (ring_of b z.settings)) same ∙ has_back) c) call));
  })
  leaves_ring r (Touching guest g m step k y there same is o f gs vs wr a) mine = no_vhost b vhost v r vs
  leaves_ring r (RxTurning n file t x g h made files f over is there guest way step lets told e) mine = subst On e (record {
    keeps = λ at_n. here b vhost n v x (left 0 me (is_some over) made.0.queue x) w.vhosts at_v there
        (λ same. subst (λ (z : Vhost). SameIn b z.settings (left 0 me (is_some over) made.0.queue x).settings) same
        (ring_other true b (record x.settings.rx { queue = made.0.queue }) x.settings
        (λ side. rx_clash n file t x mine is way at_n same side))) at_n;
  })
  leaves_ring r (TxTurning n file t told x g made step over is there guest way stepped end_ e) mine = subst On e (record {
    keeps = λ at_n. here b vhost n v x (left 1 me (is_some over) made.0.queue x) w.vhosts at_v there
        (λ same. subst (λ (z : Vhost). SameIn b z.settings (left 1 me (is_some over) made.0.queue x).settings) same
        (ring_other false b (record x.settings.tx { queue = made.0.queue }) x.settings
        (λ side. tx_clash n file t told x mine is way at_n same side))) at_n;
  })

-- ---- the vhosts after it

pub effect_vhosts : (r : Effect) (actor : ℕ) (a : Actor) (n : ℕ) (w v : World) → with_effect r actor a n w ≡ Some v → v.vhosts ≡ vhosts_after r.vhosts w.vhosts
effect_vhosts r actor a n w v e =
    let f = then_some (files_after r.files w.files) _ v e in
    let g = then_some (guests_after actor n r.guests w.guests) _ v f.2 in
    ap (λ (x : World). x.vhosts) (sym (some_same _ v g.2))

-- a vhost that is there, is there with that ring
pub ring_there : (b : Bool) (vhost : ℕ) (v : Vhost) (o : OnVhosts) (vhosts : List (Option Vhost)) → at vhosts vhost ≡ Some v → KeepsRing b vhost v o
    → (u : Vhost) × (at (vhosts_after o vhosts) vhost ≡ Some u) × SameIn b v.settings u.settings
ring_there b vhost v NoVhost vhosts there keeps = (v, there, same_in b v.settings v.settings refl)
ring_there b vhost v (OnVhost n new) vhosts there keeps = ⊎_elim
    (λ same. (new, subst (λ (k : ℕ). at (with_at n new vhosts) k ≡ Some new) same.1 (with_at_here n new v vhosts (ap (at vhosts) same.1 ∙ there)), keeps same.1))
    (λ differ. (v, with_at_else n new vhosts vhost differ.1 ∙ there, same_in b v.settings v.settings refl))
    (eqb_tells n vhost)
