-- A call on a vhost or a driver is one act.
use Rattle.std.proofs.Common.{◌≡◌, ℕ, suc, ◌<◌, List, Bool, true, false, true≢false, Option, Some, None, ⊎_elim, refl, sym, ap, ◌∙◌, subst, arith}
use Rattle.std.specs.Prelude.{◌==◌, ◌&&◌, ◌||◌, not, if◌then◌else◌, option_map}
use Rattle.std.specs.Option.{option_map_or}
use Rattle.std.proofs.lemmas.Bool.Decides.{eqb_tells, leb_tells}
use Rattle.guest_mem.specs.Memory.{Contents}
use Rattle.scen_words.specs.declared.command.Command.{Command}
use Rattle.scen_words.specs.declared.command.Command.TheVariants as command
use Rattle.tap_ground.specs.Options.{only_if}
use Rattle.tap_world.specs.ByNumber.{at}
use Rattle.tap_world.specs.Guests.{Vhost, is_free_for, is_ring, turn_of}
use Rattle.tap_world.specs.StepControl.{Call, call_of, driven_vhost, may_call}
use Rattle.tap_world.specs.World.{Actor}
use Rattle.tap_legal.specs.Replay.{Under, vhost_named}
use Rattle.tap_sights.specs.Acts.{called_by}
use Rattle.tap_sound.proofs.Kit.{some_same, some_then}
use Rattle.tap_sound.proofs.Taken.{both}
use Rattle.tap_acted.specs.Laws.{CallsAreActs, held_call}
use Rattle.tap_acted.specs.Standing.{VhostStands, bare, held_by, if_on, turn_by}
use Rattle.tap_acted.proofs.Alike.{call_alike}
use Rattle.tap_acted.proofs.Touches.{same_number}

-- ---- a vhost of the guest, and its turns

pub on_guest : (guest : ℕ) (v : Vhost) → v.guest ≡ guest → (v.guest == guest) ≡ true
on_guest guest v e = ap (λ (n : ℕ). n == guest) e ∙ same_number guest

pub there_is : (guest : ℕ) (actors : List Actor) (under : List Under) (vhost : ℕ) (o : Option Vhost) (v : Vhost)
    → VhostStands guest actors under vhost o (Some v) → v.guest ≡ guest
    → (y : Vhost) × (o ≡ Some y) × (y ≡ held_by y.rx_turn y.tx_turn v)
there_is guest actors under vhost o v h e =
    go o (h.same ∙ ap (λ (b : Bool). if b then Some (bare v) else None) (on_guest guest v e))
  where
    go : (p : Option Vhost) → option_map bare p ≡ Some (bare v) → (y : Vhost) × (p ≡ Some y) × (y ≡ held_by y.rx_turn y.tx_turn v)
    go None k = absurd (cc (k))
    go (Some y) k = (y, refl, ap (held_by y.rx_turn y.tx_turn) (some_same (bare y) (bare v) k))

pub no_turn : (vhost : ℕ) (actors : List Actor) (b : Bool) → (if b then turn_by actors vhost None else None) ≡ None
no_turn vhost actors true = refl
no_turn vhost actors false = refl

pub free_acts : (guest : ℕ) (actors : List Actor) (under : List Under) (vhost : ℕ) (y v : Vhost)
    → VhostStands guest actors under vhost (Some y) (Some v) → (ring : ℕ) → ring < 2 → turn_of ring v ≡ None → turn_of ring y ≡ None
free_acts guest actors under vhost y v h ring less free =
    let none = h.turns ring less ∙ ap (λ (o : Option ℕ). if_on guest v (turn_by actors vhost o)) free
    ∙ no_turn vhost actors (v.guest == guest) in
    h.held ring less ∙ ap (λ (o : Option Under). option_map (λ (u : Under). u.command) o) none

-- ---- a call may be

pub ring_less : (ring : ℕ) → is_ring ring ≡ true → ring < 2
ring_less ring e = ⊎_elim (λ t. let h = t.1 in omega (arith, h)) (λ t. absurd (true≢false (sym e ∙ t.0))) (leb_tells (suc ring) 2)

or_true : (b : Bool) → (not b || true) ≡ true
or_true true = refl
or_true false = refl

free_for : (actor k ring : ℕ) (v y : Vhost) → (ring < 2 → turn_of ring v ≡ None → turn_of ring y ≡ None)
    → (ring < 2 → turn_of ring v ≡ Some actor → ⊥) → is_free_for actor ring v ≡ true → is_free_for k ring y ≡ true
free_for actor k ring v y free mine h = by (is_ring ring) refl
  where
    holder : (o : Option ℕ) → ring < 2 → turn_of ring v ≡ o → option_map_or (λ (a : ℕ). a == actor) o true ≡ true → turn_of ring v ≡ None
    holder None less e t = e
    holder (Some a) less e t =
        absurd (mine less (e ∙ ap (λ (n : ℕ). Some n) (⊎_elim (λ q. q.1) (λ q. absurd (true≢false (sym t ∙ q.0))) (eqb_tells a actor))))

    by : (b : Bool) → is_ring ring ≡ b → is_free_for k ring y ≡ true
    by false e = ap (λ (b : Bool). not b || option_map_or (λ (a : ℕ). a == k) (turn_of ring y) true) e
    by true e =
        let less = ring_less ring e in
        let held = sym (ap (λ (b : Bool). not b || option_map_or (λ (a : ℕ). a == actor) (turn_of ring v) true) e) ∙ h in
        ap (λ (o : Option ℕ). not (is_ring ring) || option_map_or (λ (a : ℕ). a == k) o true)
        (free less (holder (turn_of ring v) less refl held))
        ∙ or_true (is_ring ring)

may_acts : (c : Command) (actor k : ℕ) (v y : Vhost) → ((ring : ℕ) → is_free_for actor ring v ≡ true → is_free_for k ring y ≡ true)
    → may_call actor c v ≡ true → may_call k c y ≡ true
may_acts (command.Features vhost bits) actor k v y h e =
    let t = both (is_free_for actor 0 v) (is_free_for actor 1 v) e in
    ap (λ (b : Bool). b && is_free_for k 1 y) (h 0 t.0) ∙ h 1 t.1
may_acts (command.VNum vhost ring n) actor k v y h e = h ring e
may_acts (command.VBase vhost ring n) actor k v y h e = h ring e
may_acts (command.VAddr vhost ring desc avail used) actor k v y h e = h ring e
may_acts (command.GetBase vhost ring) actor k v y h e = h ring e
may_acts c actor k v y h e = refl

-- ---- the act

named : (c : Command) (vhost : ℕ) → driven_vhost c ≡ Some vhost → vhost_named c ≡ Some vhost
named (command.Backend n ring file) vhost e = absurd (cc (e))
named (command.RxTurn n) vhost e = absurd (cc (e))
named (command.TxTurn n) vhost e = absurd (cc (e))
named c vhost e = e

pub call_acts : CallsAreActs
call_acts c w guest g st t k vhost v x stands at_ on driven call may mine =
    let h = subst (λ (o : Option Vhost). VhostStands guest w.actors st.under vhost (at st.vhosts vhost) o) at_ (stands.vhosts vhost) in
    let y = there_is guest w.actors st.under vhost (at st.vhosts vhost) v h on in
    let here = subst (λ (o : Option Vhost). VhostStands guest w.actors st.under vhost o (Some v)) y.1 h in
    let free = free_acts guest w.actors st.under vhost y.0 v here in
    let can = may_acts k t.actor t.command v y.0 (λ ring. free_for t.actor t.command ring v y.0 (free ring) (mine ring)) may in
    let made : call_of k y.0 st.memory ≡ Some (held_call y.0.rx_turn y.0.tx_turn x) =
    ap (λ (z : Vhost). call_of k z st.memory) y.2 ∙ call_alike k v st.memory y.0.rx_turn y.0.tx_turn
    ∙ ap (λ (o : Option Call). option_map (held_call y.0.rx_turn y.0.tx_turn) o) (ap (λ (m : Contents). call_of k v m) stands.memory ∙ call) in (
      y.0,
      y.1,
      y.2,
      some_then (vhost_named k) _ vhost _ (named k vhost driven) (some_then (at st.vhosts vhost) _ y.0 _ y.1
          (some_then (call_of k y.0 st.memory) _ (held_call y.0.rx_turn y.0.tx_turn x) _ made
          (ap (λ (b : Bool). only_if b (called_by vhost st (held_call y.0.rx_turn y.0.tx_turn x))) can))),
    )
