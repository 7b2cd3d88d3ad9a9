-- What the acts to come make of a turn before its next printed step.
use Rattle.std.proofs.Common.{◌≡◌, ℕ, cond, List, [], ◌∷◌, Option, Some, None, Bool, true, false, refl, sym, ap, ◌∙◌, subst, inl, inr, ⊎_elim, true≢false}
use Rattle.std.specs.Prelude.{◌==◌, find, is_none}
use Rattle.std.proofs.lemmas.Bool.{and_from, and_right, cases_eq, eq-eqb, ne_eqb}
use Rattle.tap_ledger.specs.declared.hand.Hand.{Hand}
use Rattle.vhost_dev.specs.Settings.{RingSettings, ring_at}
use Rattle.scen_words.specs.declared.command.Command.{Command}
use Rattle.scen_words.specs.declared.command.Command.TheVariants as command
use Rattle.tap_world.specs.ByNumber.{at}
use Rattle.tap_world.specs.Guests.{Vhost, turn_of}
use Rattle.tap_world.specs.StepTurns.{is_off, turn_on}
use Rattle.tap_world.specs.StepControl.{call_of}
use Rattle.tap_legal.specs.Case.{Case}
use Rattle.tap_legal.specs.Replay.{Under, vhost_named}
use Rattle.tap_legal.specs.ReplayTurns.{is_under_on}
use Rattle.tap_sights.specs.Acts.{Act, Done, State, What, backs, does, on_bytes, step_in, under_by}
use Rattle.tap_sights.specs.Acts.What.{Backed, Called, FoundOff, OnBytes, Turned}
use Rattle.tap_sights.specs.GuestFacts.{ActTells}
use Rattle.tap_sights.specs.Sight.{In}
use Rattle.tap_sights.proofs.Kit.{some_same}
use Rattle.tap_sound.proofs.Kit.{only_some, then_some}
use Rattle.tap_acts.specs.Replaying.{IsHeld, gone_on, is_turn_of, is_turned, settled}
use Rattle.tap_acts.specs.Turns.{IsFollowed, IsQuiet, Prints, TurnsSettleOn}
use Rattle.tap_acts.proofs.CallsHeld.{no_turn_called}
use Rattle.tap_acts.proofs.Held.{act_holds}
use Rattle.tap_acts.proofs.Others.{act_leaves, holds, same_turn}
use Rattle.tap_acts.proofs.TurnSteps.{turn_step_of}

no_turn_bytes : (guest : ℕ) (k : Command) (st : State) (d : Done) → on_bytes guest k st ≡ Some d → turn_on k ≡ None
no_turn_bytes guest (command.Poke g addr bytes) st d e = refl
no_turn_bytes guest (command.Peek g addr len) st d e = refl
no_turn_bytes guest other st d e = absurd (cc (e))

no_turn_backs : (c : Case) (version : ℕ) (k : Command) (st : State) (d : Done) → backs c version k st ≡ Some d → turn_on k ≡ None
no_turn_backs c version (command.Backend vhost ring file) st d e = refl
no_turn_backs c version other st d e = absurd (cc (e))

-- a step of the turn under way
pub record OwnStep (n : ℕ) (u : Under) (st : State) (d : Act × Done) : Type 0 where
  pub hand : Hand
  pub what : d.0.what ≡ Turned hand
  pub v : Vhost
  pub there : at st.vhosts n ≡ Some v
  pub step : step_in hand u u.turning v st ≡ Some d.1

module _ (c : Case) (guest n ring : ℕ) where
  -- an act of a command whose turn is under way is a step of it
  pub own_step : (st : State) (u : Under) (d : Act × Done) → IsHeld c st → find (is_under_on n ring) st.under ≡ Some u → ActTells c d
      → d.0.told.command ≡ u.command → does c guest d.0 d.0.what st ≡ Some d.1 → OwnStep n u st d
  own_step st u d state under t same e = go d.0.what refl e
    where
      turn : turn_on d.0.command ≡ Some (n, ring)
      turn = same_turn c guest st state n ring u under d t same

      no : turn_on d.0.command ≡ None → OwnStep n u st d
      no none = absurd (cc (none, turn))

      go : (w : What) → d.0.what ≡ w → does c guest d.0 w st ≡ Some d.1 → OwnStep n u st d
      go Called is e =
          let vhost = then_some (vhost_named d.0.command) _ d.1 e in
          let v = then_some (at st.vhosts vhost.0) _ d.1 vhost.2 in
          let x = then_some (call_of d.0.command v.0 st.memory) _ d.1 v.2 in
          no (no_turn_called d.0.command v.0 st.memory x.0 x.1)
      go OnBytes is e = no (no_turn_bytes guest d.0.command st d.1 e)
      go (Backed version) is e = no (no_turn_backs c version d.0.command st d.1 e)
      go FoundOff is e =
          let k = then_some (turn_on d.0.command) _ d.1 e in
          let v = then_some (at st.vhosts k.0.0) _ d.1 k.2 in
          let told = then_some (is_off k.0.0 k.0.1 v.0) _ d.1 v.2 in
          let free = (only_some (is_none (turn_of k.0.1 v.0)) _ d.1 told.2).0 in
          let on : k.0 ≡ (n, ring) = some_same _ _ (sym k.1 ∙ turn) in
          let held = holds c guest st state n ring u under v.0 (ap (λ (q : ℕ × ℕ). at st.vhosts q.0) (sym on) ∙ v.1) in
          absurd (true≢false (sym free ∙ ap (λ (q : ℕ × ℕ). is_none (turn_of q.1 v.0)) on ∙ ap (λ (o : Option ℕ). is_none o) held))
      go (Turned h) is e =
          let s = turn_step_of h d.0 st d.1 e in
          let on : s.t ≡ (n, ring) = some_same _ _ (sym s.on ∙ turn) in
          let found : find (is_under_on s.t.0 s.t.1) st.under ≡ Some u = ap (λ (q : ℕ × ℕ). find (is_under_on q.0 q.1) st.under) on ∙ under in
          let its : u ≡ s.u = (only_some (u.command == d.0.told.command) u s.u (sym (ap (under_by d.0 s.t s.v) found) ∙ s.by)).1 in
          record {
            hand = h;
            what = is;
            v = s.v;
            there = ap (λ (q : ℕ × ℕ). at st.vhosts q.0) (sym on) ∙ s.there;
            step = subst (λ w. step_in h w w.turning s.v st ≡ Some d.1) (sym its) s.step;
          }

  module _ (all : List (Act × Done)) (tells : (d : Act × Done) → In d all → ActTells c d) where
    -- what the acts behind this one and it make of the turn, by whether it is its own and whether it prints
    abbrev ways : Under → (d : Act × Done) → List (Act × Done) → Bool → Bool → Option Under
    ways u d ds b e =
        cond b (cond e (settled n ring ds (gone_on u (find (is_under_on n ring) d.1.state.under))) (Some u)) (settled n ring ds (Some u))

    is_own : (u : Under) (d : Act × Done) → is_turned d.0.what ≡ true → d.0.told.command ≡ u.command → is_turn_of u.command d ≡ true
    is_own u d what same = and_from (is_turned d.0.what) (d.0.told.command == u.command) what (eq-eqb d.0.told.command u.command same)

    is_other : (u : Under) (d : Act × Done) → (d.0.told.command ≡ u.command → ⊥) → is_turn_of u.command d ≡ false
    is_other u d ne = and_right (is_turned d.0.what) (d.0.told.command == u.command) (ne_eqb d.0.told.command u.command ne)

    behind : (d : Act × Done) (ds : List (Act × Done)) (st : State) → IsFollowed c guest all (d ∷ ds) st → ActTells c d → IsFollowed c guest all ds d.1.state
    behind d ds st f t = record {
      follow = f.follow.1;
      later = λ e i. f.later e (inr i);
      state = act_holds c guest d st t f.state f.follow.0;
    }

    pub settled_prints : (u : Under) → Prints u → (rest : List (Act × Done)) (st : State) → IsFollowed c guest all rest st
        → find (is_under_on n ring) st.under ≡ Some u → settled n ring rest (Some u) ≡ Some u
    settled_prints u prints [] st f under = refl
    settled_prints u prints (d ∷ ds) st f under = ⊎_elim
        (λ same.
        let s = own_step st u d f.state under (tells d (f.later d (inl refl))) same f.follow.0 in
        ap (λ b. ways u d ds b (is_none d.1.step)) (is_own u d (ap is_turned s.what) same) ∙ ap (λ e. ways u d ds true e) (prints s.hand s.v st d.1 s.step))
        (λ ne.
        let is = is_other u d ne in
        let t = tells d (f.later d (inl refl)) in
        let left = act_leaves c guest d st t f.state f.follow.0 n ring u under is in
        ap (λ b. ways u d ds b (is_none d.1.step)) is
        ∙ settled_prints u prints ds d.1.state (behind d ds st f t) left.same)
        (cases_eq d.0.told.command u.command)

    -- goes on to where its quiet step leads, and on from there
    pub settled_quiet : (u : Under) (ring_is : RingSettings) (after final : Option Under) → IsQuiet n ring u ring_is after
        → ((ds : List (Act × Done)) (st : State) → IsFollowed c guest all ds st
        → find (is_under_on n ring) st.under ≡ after → settled n ring ds after ≡ final)
        → (rest : List (Act × Done)) (st : State) → IsFollowed c guest all rest st
        → find (is_under_on n ring) st.under ≡ Some u
        → (v : Vhost) → at st.vhosts n ≡ Some v → ring_at ring v.settings ≡ ring_is
        → (e : Act × Done) → In e rest → e.0.told.command ≡ u.command
        → settled n ring rest (Some u) ≡ final
    settled_quiet u ring_is after final q on [] st f under v there is e i its = absurd i
    settled_quiet u ring_is after final q on (d ∷ ds) st f under v there is e i its = ⊎_elim
        (λ same.
        let t = tells d (f.later d (inl refl)) in
        let s = own_step st u d f.state under t same f.follow.0 in
        let v_is : v ≡ s.v = some_same v s.v (sym there ∙ s.there) in
        let made = q.quiet s.hand s.v st d.1 (ap (λ (w : Vhost). ring_at ring w.settings) (sym v_is) ∙ is) s.step in
        ap (λ b. ways u d ds b (is_none d.1.step)) (is_own u d (ap is_turned s.what) same)
        ∙ ap (λ b. ways u d ds true b) made.0
        ∙ ap (λ (o : Option Under). settled n ring ds (gone_on u o)) made.1
        ∙ ap (λ (o : Option Under). settled n ring ds o) q.same
        ∙ on ds d.1.state (behind d ds st f t) made.1)
        (λ ne.
        let other = is_other u d ne in
        let t = tells d (f.later d (inl refl)) in
        let left = act_leaves c guest d st t f.state f.follow.0 n ring u under other in
        let w = left.queue v there in
        ap (λ b. ways u d ds b (is_none d.1.step)) other
        ∙ settled_quiet u ring_is after final q on ds d.1.state (behind d ds st f t) left.same
        w.0 w.1 (w.2 ∙ is) e (⊎_elim (λ here. absurd (ne (ap (λ (z : Act × Done). z.0.told.command) here ∙ its))) (λ j. j) i) its)
        (cases_eq d.0.told.command u.command)

pub turns_settle : (c : Case) (guest n ring : ℕ) (all : List (Act × Done)) → ((d : Act × Done) → In d all → ActTells c d) → TurnsSettleOn c guest n ring all
turns_settle c guest n ring all tells =
    record { prints = settled_prints c guest n ring all tells; quiet = settled_quiet c guest n ring all tells }
