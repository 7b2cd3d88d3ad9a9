-- What an act leaves of a turn under way that is another command's.
use Rattle.std.proofs.Common.{◌≡◌, ◌⊎◌, ℕ, cond, List, [], Option, Some, None, Bool, true, false, refl, sym, ap, ◌∙◌, subst, inl, inr, ⊎_elim, true≢false}
use Rattle.std.specs.Prelude.{◌==◌, ◌&&◌, not, find, is_none, if◌then◌else◌, option_map}
use Rattle.std.specs.Option.{option_map_or}
use Rattle.std.proofs.lemmas.Bool.{and_from, and_parts, cases_eq, eq-eqb, eqb-true, ne_eqb, or_from}
use Rattle.vhost_queue.specs.Queue.{Queue}
use Rattle.vhost_dev.specs.Settings.{is_rx, ring_at}
use Rattle.scen_words.specs.declared.command.Command.{Command}
use Rattle.scen_words.specs.declared.command.Command.TheVariants as command
use Rattle.tap_trace.specs.declared.answer.Answer.{Answer}
use Rattle.tap_trace.specs.declared.answer.Answer.TheVariants as answer
use Rattle.tap_ledger.specs.declared.hand.Hand.{Hand}
use Rattle.tap_world.specs.ByNumber.{at, with_at}
use Rattle.tap_world.specs.Guests.{Vhost, is_free_for, is_ring, turn_of, with_queue, with_turn}
use Rattle.tap_world.specs.StepControl.{call_of, may_call}
use Rattle.tap_world.specs.StepTurns.{is_off, turn_on}
use Rattle.tap_legal.specs.Numbered.{Asked}
use Rattle.tap_legal.specs.Case.{Case}
use Rattle.tap_legal.specs.Lookups.{asked_at, table_at}
use Rattle.tap_legal.specs.Replay.{Under, back_made, back_wanted, vhost_named}
use Rattle.tap_legal.specs.ReplayTurns.{is_under_on, turning_on}
use Rattle.tap_sights.specs.Acts.{Act, Done, State, What, backed, backs, called_by, calls, does, done_as, found_off, on_bytes, turns, under_by}
use Rattle.tap_sights.specs.Acts.What.{Backed, Called, FoundOff, OnBytes, Turned}
use Rattle.tap_sights.specs.GuestFacts.{ActTells}
use Rattle.tap_sights.proofs.Kit.{found, some_same}
use Rattle.tap_sound.proofs.Kit.{only_some, then_some, where_some}
use Rattle.tap_acts.specs.Replaying.{IsHeld, is_turn_of, is_turned}
use Rattle.tap_acts.specs.Turns.{LeavesTurn}
use Rattle.tap_acts.proofs.Backs.{turn_held}
use Rattle.tap_acts.proofs.CallsHeld.{Spares, call_spares, no_turn_called, other_of, same_ring}
use Rattle.tap_acts.proofs.TurnSteps.{IsElsewhere, IsTurnStep, found_on, its_own, other_after, ring_of_turn, turn_step_of, went_by}
use Rattle.tap_acts.proofs.Vhosts.{at_else, at_with}

-- a backend of another ring
back_spares : (ring other : ℕ) (file : Option ℕ) (st : State) (v : Vhost) → (is_rx ring ≡ is_rx other → ⊥)
    → ring_at ring (back_made other file st.memory v).settings ≡ ring_at ring v.settings
back_spares ring other None st v ne = other_of (is_rx ring) (is_rx other) _ v.settings ne
back_spares ring other (Some f) st v ne = other_of (is_rx ring) (is_rx other) _ v.settings ne

-- a queue of another ring
queue_spares : (ring other : ℕ) (holder : Option ℕ) (q : Queue) (v : Vhost) → (is_rx ring ≡ is_rx other → ⊥)
    → ring_at ring (with_turn other holder (with_queue other q v)).settings ≡ ring_at ring v.settings
queue_spares ring other holder q v ne = same (other == 0) ∙ other_of (is_rx ring) (is_rx other) _ v.settings ne
  where
    w : Vhost
    w = with_queue other q v

    same : (b : Bool) → ring_at ring (cond b (record w { rx_turn = holder }) (record w { tx_turn = holder })).settings ≡ ring_at ring w.settings
    same true = refl
    same false = refl

is_real : (ring : ℕ) → (ring ≡ 0) ⊎ (ring ≡ 1) → is_ring ring ≡ true
is_real ring (inl e) = ap is_ring e
is_real ring (inr e) = ap is_ring e

module _ (c : Case) (guest : ℕ) (st : State) (state : IsHeld c st) (n ring : ℕ) (u : Under) (under : find (is_under_on n ring) st.under ≡ Some u) where
  -- what another act leaves of the turn and of its ring
  abbrev pub Stays : Done → Type 0
  Stays d = LeavesTurn n ring u st d.state

  pub its_command : (x : Asked) × (asked_at c u.command ≡ Some x) × (turn_on x.command ≡ Some (n, ring))
  its_command =
      let q = found_on n ring st.under u under in
      let r = state.asked u (found (is_under_on n ring) st.under u under) in
      (r.0, r.1, r.2 ∙ ap Some (λ i. (q.0 i, q.1 i)))

  real : (ring ≡ 0) ⊎ (ring ≡ 1)
  real = ring_of_turn its_command.0.command (n, ring) its_command.2

  pub holds : (v : Vhost) → at st.vhosts n ≡ Some v → turn_of ring v ≡ Some u.command
  holds v e =
      turn_held its_command.0.command (n, ring) v st.under its_command.2 (state.held n v e)
      ∙ ap (option_map (λ (w : Under). w.command)) under

  -- an act of the same command is one of the same turn
  pub same_turn : (d : Act × Done) → ActTells c d → d.0.told.command ≡ u.command → turn_on d.0.command ≡ Some (n, ring)
  same_turn d t e =
      ap (λ (x : Asked). turn_on x.command) (some_same _ _ (sym t.asked ∙ ap (asked_at c) e ∙ its_command.1)) ∙ its_command.2

  no_call : (d : Act × Done) → ActTells c d → turn_on d.0.command ≡ None → d.0.told.command ≡ u.command → ⊥
  no_call d t none e = let h = same_turn d t e in absurd (cc (none, h))

  busy : (actor : ℕ) (v : Vhost) → at st.vhosts n ≡ Some v → (actor ≡ u.command → ⊥) → is_free_for actor ring v ≡ false
  busy actor v e ne =
      or_from (not (is_ring ring)) (option_map_or (λ a. a == actor) (turn_of ring v) true) (ap not (is_real ring real))
      (ap (λ (o : Option ℕ). option_map_or (λ a. a == actor) o true) (holds v e) ∙ ne_eqb u.command actor (λ same. ne (sym same)))

  unchanged : (d : Done) → d.state.under ≡ st.under → d.state.vhosts ≡ st.vhosts → Stays d
  unchanged d us vs = record {
    same = ap (find (is_under_on n ring)) us ∙ under;
    queue = λ v e. (v, ap (λ (xs : List (Option Vhost)). at xs n) vs ∙ e, refl);
  }

  -- one vhost is another, which leaves the ring where it is this one
  replaced : (k : ℕ) (new old : Vhost) → at st.vhosts k ≡ Some old → (n ≡ k → ring_at ring new.settings ≡ ring_at ring old.settings)
      → (v : Vhost) → at st.vhosts n ≡ Some v
      → (w : Vhost) × (at (with_at k new st.vhosts) n ≡ Some w) × (ring_at ring w.settings ≡ ring_at ring v.settings)
  replaced k new old there spares v e = ⊎_elim
      (λ same.
      let old_is : old ≡ v = some_same old v (sym there ∙ ap (at st.vhosts) same ∙ e) in (
        new,
        subst (λ m. at (with_at k new st.vhosts) m ≡ Some new) same (at_with k new old st.vhosts there),
        spares (sym same) ∙ ap (λ (x : Vhost). ring_at ring x.settings) old_is,
      ))
      (λ ne. (v, at_else k new st.vhosts n ne ∙ e, refl))
      (cases_eq k n)

  calls_stay : (d : Act × Done) → ActTells c d → calls d.0 st ≡ Some d.1 → Stays d.1
  calls_stay d t e =
      let vhost = then_some (vhost_named d.0.command) _ d.1 e in
      let v = then_some (at st.vhosts vhost.0) _ d.1 vhost.2 in
      let x = then_some (call_of d.0.command v.0 st.memory) _ d.1 v.2 in
      let m = only_some (may_call d.0.told.command d.0.command v.0) (called_by vhost.0 st x.0) d.1 x.2 in
      subst Stays m.1 (record {
        same = under;
        queue = replaced vhost.0 x.0.vhost v.0 v.1 (λ here.
            where_some (Spares ring v.0) (call_of d.0.command v.0 st.memory) x.0
            (call_spares d.0.told.command ring v.0 real
            (busy d.0.told.command v.0 (ap (at st.vhosts) here ∙ v.1) (no_call d t (no_turn_called d.0.command v.0 st.memory x.0 x.1)))
            d.0.command st.memory m.0) x.1);
      })

  bytes_stay : (k : Command) (d : Done) → on_bytes guest k st ≡ Some d → Stays d
  bytes_stay (command.Poke g addr bytes) d e = let p = only_some (g == guest) _ d e in unchanged d (sym (ap (λ (z : Done). z.state.under) p.1)) (sym (ap (λ (z : Done). z.state.vhosts) p.1))
  bytes_stay (command.Peek g addr len) d e = let p = only_some (g == guest) _ d e in unchanged d (sym (ap (λ (z : Done). z.state.under) p.1)) (sym (ap (λ (z : Done). z.state.vhosts) p.1))
  bytes_stay other d e = absurd (cc (e))

  backed_stay : (vhost other : ℕ) (file : Option ℕ) (v : Vhost) → at st.vhosts vhost ≡ Some v
      → (is_ring other && is_none (turn_of other v)) ≡ true → (o : Option Answer) → Stays (backed vhost other file v st o)
  backed_stay vhost other file v there free (Some x) = unchanged (backed vhost other file v st (Some x)) refl refl
  backed_stay vhost other file v there free None = record {
    same = under;
    queue = replaced vhost (back_made other file st.memory v) v there (λ here. back_spares ring other file st v (λ same.
        let p = and_parts (is_ring other) (is_none (turn_of other v)) free in
        let is : ring ≡ other = same_ring ring other real p.0 same in
        let held = holds v (ap (at st.vhosts) here ∙ there) in
        true≢false (sym p.1 ∙ ap (λ m. is_none (turn_of m v)) (sym is) ∙ ap (λ (o : Option ℕ). is_none o) held)));
  }

  backs_stay : (version : ℕ) (k : Command) (d : Done) → backs c version k st ≡ Some d → Stays d
  backs_stay version (command.Backend vhost other file) d e =
      let v = then_some (at st.vhosts vhost) _ d e in
      let o = then_some (back_wanted vhost other file v.0 st.memory (table_at c version)) _ d v.2 in
      let p = only_some (is_ring other && is_none (turn_of other v.0)) (backed vhost other file v.0 st o.0) d o.2 in
      subst Stays p.1 (backed_stay vhost other file v.0 v.1 p.0 o.0)
  backs_stay version other d e = absurd (cc (e))

  off_stays : (k : Command) (d : Done) → found_off k st ≡ Some d → Stays d
  off_stays k d e =
      let t = then_some (turn_on k) _ d e in
      let v = then_some (at st.vhosts t.0.0) _ d t.2 in
      let told = then_some (is_off t.0.0 t.0.1 v.0) _ d v.2 in
      let p = only_some (is_none (turn_of t.0.1 v.0)) (done_as st (Some told.0.1) (Some (answer.Turn 0 0 told.0.0 []))) d told.2 in
      subst Stays p.1 (unchanged (done_as st (Some told.0.1) (Some (answer.Turn 0 0 told.0.0 []))) refl refl)

  elsewhere : (m other : ℕ) → (n ≡ m → ring ≡ other → ⊥) → IsElsewhere n ring m other
  elsewhere m other apart = ⊎_elim
      (λ same. ⊎_elim (λ also. absurd (apart same also)) (λ ne. inr ne) (cases_eq ring other))
      (λ ne. inl ne)
      (cases_eq n m)

  -- a turn on the same ring is the one under way, and its command's
  apart : (h : Hand) (a : Act) (d : Done) (s : IsTurnStep h a st d) → (a.told.command ≡ u.command → ⊥) → n ≡ s.u.vhost → ring ≡ turning_on s.u.turning → ⊥
  apart h a d s ne same_n same_ring_ =
      let own = its_own h a st d s in
      let vhost : s.t.0 ≡ n = sym own.vhost ∙ sym same_n in
      let on : s.t.1 ≡ ring = sym own.ring ∙ sym same_ring_ in
      let is : find (is_under_on s.t.0 s.t.1) st.under ≡ Some u = (λ i. find (is_under_on (vhost i) (on i)) st.under) ∙ under in
      let p = only_some (u.command == a.told.command) u s.u (sym (ap (under_by a s.t s.v) is) ∙ s.by) in
      ne (sym (eqb-true u.command a.told.command p.0))

  turns_stay : (h : Hand) (d : Act × Done) → (d.0.told.command ≡ u.command → ⊥) → turns h d.0 st ≡ Some d.1 → Stays d.1
  turns_stay h d ne e =
      let s = turn_step_of h d.0 st d.1 e in
      let own = its_own h d.0 st d.1 s in
      let w = went_by h s.u s.v st d.1 s.step in
      let new : Vhost = with_turn (turning_on w.turning) (if is_none w.over then Some s.u.command else None)
      (with_queue (turning_on w.turning) w.queue s.v) in
      let there : at st.vhosts s.u.vhost ≡ Some s.v = ap (at st.vhosts) own.vhost ∙ s.there in
      let own_ring : is_ring (turning_on w.turning) ≡ true =
      ap is_ring (w.ring ∙ own.ring) ∙ is_real s.t.1 (ring_of_turn d.0.command s.t s.on) in
      record {
        same = ap (λ (z : State). find (is_under_on n ring) z.under) w.state
            ∙ other_after n ring (record s.u { turning = w.turning }) w.queue w.memory w.over s.v st
            (elsewhere s.u.vhost (turning_on w.turning) (λ p q. apart h d.0 d.1 s ne p (q ∙ w.ring))) ∙ under;
        queue = λ v e. subst (λ (z : State). (y : Vhost) × (at z.vhosts n ≡ Some y) × (ring_at ring y.settings ≡ ring_at ring v.settings)) (sym w.state)
            (replaced s.u.vhost new s.v there
            (λ here. queue_spares ring (turning_on w.turning) (if is_none w.over then Some s.u.command else None) w.queue s.v
            (λ same. apart h d.0 d.1 s ne here (same_ring ring (turning_on w.turning) real own_ring same ∙ w.ring))) v e);
      }

  pub act_stays : (d : Act × Done) → ActTells c d → is_turn_of u.command d ≡ false → does c guest d.0 d.0.what st ≡ Some d.1 → Stays d.1
  act_stays d t other e = go d.0.what refl e
    where
      go : (w : What) → d.0.what ≡ w → does c guest d.0 w st ≡ Some d.1 → Stays d.1
      go Called is e = calls_stay d t e
      go OnBytes is e = bytes_stay d.0.command d.1 e
      go (Backed version) is e = backs_stay version d.0.command d.1 e
      go FoundOff is e = off_stays d.0.command d.1 e
      go (Turned h) is e =
          turns_stay h d (λ same. true≢false (sym (and_from (is_turned d.0.what) (d.0.told.command == u.command) (ap is_turned is)
          (eq-eqb d.0.told.command u.command same)) ∙ other)) e

pub act_leaves : (c : Case) (guest : ℕ) (d : Act × Done) (st : State) → ActTells c d → IsHeld c st → does c guest d.0 d.0.what st ≡ Some d.1
    → (n ring : ℕ) (u : Under) → find (is_under_on n ring) st.under ≡ Some u → is_turn_of u.command d ≡ false → LeavesTurn n ring u st d.1.state
act_leaves c guest d st t state e n ring u under other = act_stays c guest st state n ring u under d t other e
