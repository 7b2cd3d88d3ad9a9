-- An event of a turn on its ring is one act.
use Rattle.std.proofs.Common.{◌≡◌, ℕ, [], Bool, true, Option, Some, None, ap, ◌∙◌, subst}
use Rattle.std.specs.Prelude.{◌==◌, ◌&&◌, if◌then◌else◌, find, is_none}
use Rattle.tap_ground.specs.Options.{◌>>=◌, only_if}
use Rattle.tap_trace.specs.declared.answer.Answer.TheVariants as answer
use Rattle.tap_world.specs.ByNumber.{at}
use Rattle.tap_world.specs.Guests.{Guest, Vhost, turn_of}
use Rattle.tap_world.specs.StepTurns.{is_off, turn_on}
use Rattle.tap_world.specs.World.{World}
use Rattle.tap_legal.specs.Replay.{Under}
use Rattle.tap_legal.specs.ReplayTurns.{is_under_on}
use Rattle.tap_sights.specs.Acts.{State, done_as, under_by}
use Rattle.tap_sights.specs.Acts.What.{Turned}
use Rattle.tap_sound.proofs.Kit.{some_then}
use Rattle.tap_acted.specs.Laws.{FoundOffIsAnAct, TurnsBegin, TurnsGoOn, first_turn}
use Rattle.tap_acted.specs.Standing.{StandsAs, VhostStands, held_by, if_on, turn_by}
use Rattle.tap_acted.proofs.Callings.{free_acts, no_turn, on_guest, there_is}
use Rattle.tap_acted.proofs.Touches.{same_number}

-- a vhost as it stands after acts
pub record Found (w : World) (guest vhost : ℕ) (v : Vhost) (st : State) : Type 0 where
  pub y : Vhost
  pub is : at st.vhosts vhost ≡ Some y
  pub like : y ≡ held_by y.rx_turn y.tx_turn v
  pub here : VhostStands guest w.actors st.under vhost (Some y) (Some v)

pub found : (w : World) (guest : ℕ) (g : Guest) (st : State) (vhost : ℕ) (v : Vhost) → StandsAs w guest g st → at w.vhosts vhost ≡ Some v
    → v.guest ≡ guest → Found w guest vhost v st
found w guest g st vhost v stands at_ on =
    let h = subst (λ (o : Option Vhost). VhostStands guest w.actors st.under vhost (at st.vhosts vhost) o) at_ (stands.vhosts vhost) in
    let y = there_is guest w.actors st.under vhost (at st.vhosts vhost) v h on in
    record {
      y = y.0;
      is = y.1;
      like = y.2;
      here = subst (λ (o : Option Vhost). VhostStands guest w.actors st.under vhost o (Some v)) y.1 h;
    }

then_is : {A B : Type 0} (o : Option A) (k : A → Option B) (x : A) → o ≡ Some x → (o >>= k) ≡ k x
then_is o k x e = ap (λ (p : Option _). p >>= k) e

pub off_acts : FoundOffIsAnAct
off_acts c w guest g st t k vhost ring v told stands at_ on turn less off free =
    let f = found w guest g st vhost v stands at_ on in
    let idle = free_acts guest w.actors st.under vhost f.y v f.here ring less free in
    some_then (turn_on k) _ (vhost, ring) _ turn (some_then (at st.vhosts vhost) _ f.y _ f.is
    (some_then (is_off vhost ring f.y) _ told _ (ap (λ (z : Vhost). is_off vhost ring z) f.like ∙ off)
    (ap (λ (o : Option ℕ). only_if (is_none o) (done_as st (Some told.1) (Some (answer.Turn 0 0 told.0 [])))) idle)))

pub turn_goes_on : TurnsGoOn
turn_goes_on c w guest g st t k h vhost ring v u stands at_ on turn less has mine =
    let f = found w guest g st vhost v stands at_ on in
    let under : find (is_under_on vhost ring) st.under ≡ Some u =
    f.here.turns ring less ∙ ap (λ (b : Bool). if b then turn_by w.actors vhost (turn_of ring v) else None) (on_guest guest v on) ∙ has in
    let by = ap (λ (o : Option Under). under_by (record { told = t; command = k; what = Turned h }) (vhost, ring) f.y o) under
    ∙ ap (λ (n : ℕ). only_if (n == t.command) u) mine ∙ ap (λ (b : Bool). only_if b u) (same_number t.command) in (
      f.y,
      f.is,
      f.like,
      then_is (turn_on k) _ (vhost, ring) turn ∙ then_is (at st.vhosts vhost) _ f.y f.is ∙ then_is _ _ u by,
    )

pub turn_begins : TurnsBegin
turn_begins c w guest g st t k h vhost ring v stands at_ on turn less off free =
    let f = found w guest g st vhost v stands at_ on in
    let idle = free_acts guest w.actors st.under vhost f.y v f.here ring less free in
    let none : find (is_under_on vhost ring) st.under ≡ None =
    f.here.turns ring less ∙ ap (λ (o : Option ℕ). if_on guest v (turn_by w.actors vhost o)) free
    ∙ no_turn vhost w.actors (v.guest == guest) in
    let ready : (is_none (is_off vhost ring f.y) && is_none (turn_of ring f.y)) ≡ true =
    ap (λ o. is_none o && is_none (turn_of ring f.y)) (ap (λ (z : Vhost). is_off vhost ring z) f.like ∙ off)
    ∙ ap (λ (o : Option ℕ). is_none o) idle in
    let by = ap (λ (o : Option Under). under_by (record { told = t; command = k; what = Turned h }) (vhost, ring) f.y o) none
    ∙ ap (λ (b : Bool). only_if b (first_turn t vhost ring f.y)) ready in (
      f.y,
      f.is,
      f.like,
      then_is (turn_on k) _ (vhost, ring) turn ∙ then_is (at st.vhosts vhost) _ f.y f.is ∙ then_is _ _ (first_turn t vhost ring f.y) by,
    )
