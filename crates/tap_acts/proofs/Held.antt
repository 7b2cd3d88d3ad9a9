-- Turns stay held by those under way: what an act of a turn leaves of who holds what.
use Rattle.std.proofs.Common.{◌≡◌, ◌≢◌, ◌⊎◌, ℕ, cond, List, [], ◌∷◌, Option, Some, None, refl, sym, ap, ◌∙◌, subst, inl, inr, ⊎_elim}
use Rattle.std.specs.Prelude.{◌==◌, ◌&&◌, not, is_none, if◌then◌else◌, option_map}
use Rattle.vhost_queue.specs.Queue.{Queue}
use Rattle.tap_ledger.specs.declared.hand.Hand.{Hand}
use Rattle.guest_mem.specs.Memory.{Contents}
use Rattle.scen_words.specs.declared.command.Command.{Command}
use Rattle.scen_words.specs.declared.command.Command.TheVariants as command
use Rattle.tap_trace.specs.declared.answer.Answer.{Answer}
use Rattle.tap_trace.specs.declared.answer.Answer.TheVariants as answer
use Rattle.tap_world.specs.ByNumber.{at, with_at}
use Rattle.tap_world.specs.Guests.{Vhost, is_ring, turn_of, with_queue, with_turn}
use Rattle.tap_world.specs.StepControl.{call_of, may_call}
use Rattle.tap_world.specs.StepTurns.{is_off, turn_on}
use Rattle.tap_legal.specs.Numbered.{Asked}
use Rattle.tap_legal.specs.Case.{Case}
use Rattle.tap_legal.specs.Lookups.{asked_at, table_at}
use Rattle.tap_legal.specs.Replay.{Under, back_made, back_wanted, vhost_named}
use Rattle.tap_legal.specs.ReplayTurns.{is_under_on, turning_on}
use Rattle.tap_sights.specs.Acts.{Act, Done, State, What, backed, backs, called_by, does, done_as, on_bytes, turns, went_on}
use Rattle.tap_sights.specs.Acts.What.{Backed, Called, FoundOff, OnBytes, Turned}
use Rattle.tap_sights.specs.GuestFacts.{ActTells}
use Rattle.tap_sights.specs.Sight.{In}
use Rattle.tap_sights.proofs.Kit.{in_filter}
use Rattle.tap_sound.proofs.Kit.{only_some, then_some}
use Rattle.tap_acts.specs.Replaying.{IsHeld, held_as, holder_on}
use Rattle.tap_acts.proofs.Backs.{back_keeps}
use Rattle.tap_acts.proofs.Calls.{keeps_turns}
use Rattle.tap_acts.proofs.CallsHeld.{call_keeps, turned}
use Rattle.tap_acts.proofs.TurnSteps.{its_own, other_after, others_than, own_after, ring_of_turn, turn_step_of, went_by}
use Rattle.tap_acts.proofs.Vhosts.{each_with}

-- a vhost whose ring is served by a turn that went on, or is over
abbrev pub served : ℕ → Under → Option Answer → Queue → Vhost → Vhost
served ring u over q v = with_turn ring (if is_none over then Some u.command else None) (with_queue ring q v)

holder_of : (u : Under) (over : Option Answer) → option_map (λ (w : Under). w.command) (cond (is_none over) (Some u) None) ≡ (if is_none over then Some u.command else None)
holder_of u None = refl
holder_of u (Some x) = refl

-- the vhost of the turn
served_is : (u : Under) (q : Queue) (m : Contents) (over : Option Answer) (v : Vhost) (st : State) (ring : ℕ) → turning_on u.turning ≡ ring → (ring ≡ 0) ⊎ (ring ≡ 1)
    → held_as u.vhost st.under v ≡ v
    → held_as u.vhost (went_on u q m over v st).under (served ring u over q v) ≡ served ring u over q v
served_is u q m over v st ring on real held = go real
  where
    after : List Under
    after = (went_on u q m over v st).under

    own : (r : ℕ) → turning_on u.turning ≡ r → holder_on u.vhost r after ≡ (if is_none over then Some u.command else None)
    own r e = ap (λ n. holder_on u.vhost n after) (sym e) ∙ ap (option_map (λ (w : Under). w.command)) (own_after u q m over v st) ∙ holder_of u over

    other : (r : ℕ) → (r ≡ turning_on u.turning → ⊥) → holder_on u.vhost r after ≡ holder_on u.vhost r st.under
    other r ne = ap (option_map (λ (w : Under). w.command)) (other_after u.vhost r u q m over v st (inr ne))

    go : (ring ≡ 0) ⊎ (ring ≡ 1) → held_as u.vhost after (served ring u over q v) ≡ served ring u over q v
    go (inl z) =
        subst (λ r. held_as u.vhost after (served r u over q v) ≡ served r u over q v) (sym z)
        (λ i. turned (own 0 (on ∙ z) i) ((other 1 (λ e. one (e ∙ on ∙ z)) ∙ ap (λ (w : Vhost). w.tx_turn) held) i) (served 0 u over q v))
      where
        one : ◌≡◌ {A = ℕ} 1 0 → ⊥
        one e = absurd (cc (e))
    go (inr z) =
        subst (λ r. held_as u.vhost after (served r u over q v) ≡ served r u over q v) (sym z)
        (λ i. turned ((other 0 (λ e. one (e ∙ on ∙ z)) ∙ ap (λ (w : Vhost). w.rx_turn) held) i) (own 1 (on ∙ z) i) (served 1 u over q v))
      where
        one : ◌≡◌ {A = ℕ} 0 1 → ⊥
        one e = absurd (cc (e))

-- all other vhosts
others_are : (u : Under) (q : Queue) (m : Contents) (over : Option Answer) (v : Vhost) (st : State) (n : ℕ) (x : Vhost) → u.vhost ≢ n
    → held_as n st.under x ≡ x → held_as n (went_on u q m over v st).under x ≡ x
others_are u q m over v st n x ne held =
    (λ i. turned (other 0 i) (other 1 i) x) ∙ held
  where
    other : (r : ℕ) → holder_on n r (went_on u q m over v st).under ≡ holder_on n r st.under
    other r = ap (option_map (λ (w : Under). w.command)) (other_after n r u q m over v st (inl (λ same. ne (sym same))))

in_after : (u : Under) (over : Option Answer) (us : List Under) (w : Under) → In w (if is_none over then u ∷ others_than u us else others_than u us)
    → (u ≡ w) ⊎ In w us
in_after u None us w (inl e) = inl e
in_after u None us w (inr i) = inr (in_filter (λ x. not (is_under_on u.vhost (turning_on u.turning) x)) us w i).0
in_after u (Some x) us w i = inr (in_filter (λ x. not (is_under_on u.vhost (turning_on u.turning) x)) us w i).0

pub turn_holds : (c : Case) (h : Hand) (d : Act × Done) (st : State) → ActTells c d → IsHeld c st → turns h d.0 st ≡ Some d.1 → IsHeld c d.1.state
turn_holds c h d st t state e =
    let s = turn_step_of h d.0 st d.1 e in
    let own = its_own h d.0 st d.1 s in
    let w = went_by h s.u s.v st d.1 s.step in
    let u : Under = record s.u { turning = w.turning } in
    let on : turning_on w.turning ≡ s.t.1 = w.ring ∙ own.ring in
    let there : at st.vhosts u.vhost ≡ Some s.v = ap (at st.vhosts) own.vhost ∙ s.there in
    subst (IsHeld c) (sym w.state) (record {
      held = each_with (λ n x. held_as n (went_on u w.queue w.memory w.over s.v st).under x ≡ x) st.vhosts
          u.vhost (served (turning_on w.turning) u w.over w.queue s.v) s.v
          (λ n x ne here. others_are u w.queue w.memory w.over s.v st n x ne (state.held n x here)) there
          (served_is u w.queue w.memory w.over s.v st (turning_on w.turning) refl
          (subst (λ r. (r ≡ 0) ⊎ (r ≡ 1)) (sym on) (ring_of_turn d.0.command s.t s.on)) (state.held u.vhost s.v there));
      asked = λ x i. ⊎_elim
          (λ is. subst (λ (y : Under). (z : Asked) × (asked_at c y.command ≡ Some z) × (turn_on z.command ≡ Some (y.vhost, turning_on y.turning))) is (
            record { told = d.0.told; command = d.0.command },
            ap (asked_at c) own.command ∙ t.asked,
            s.on ∙ ap Some (λ j. (sym own.vhost j, sym on j)),
          ))
          (λ j. state.asked x j)
          (in_after u w.over st.under x i);
    })

-- ---- any act

pub act_holds : (c : Case) (guest : ℕ) (d : Act × Done) (st : State) → ActTells c d → IsHeld c st → does c guest d.0 d.0.what st ≡ Some d.1 → IsHeld c d.1.state
act_holds c guest d st t state e = go d.0.what e
  where
    same : (x : Done) → x.state.under ≡ st.under → x.state.vhosts ≡ st.vhosts → IsHeld c x.state
    same x us vs = record {
      held = λ n v e. ap (λ (ws : List Under). held_as n ws v) us ∙ state.held n v (ap (λ (ws : List (Option Vhost)). at ws n) (sym vs) ∙ e);
      asked = λ u i. state.asked u (subst (In u) us i);
    }

    replaced : (k : ℕ) (new old : Vhost) → at st.vhosts k ≡ Some old → turned old.rx_turn old.tx_turn new ≡ new
        → (n : ℕ) (x : Vhost) → at (with_at k new st.vhosts) n ≡ Some x → held_as n st.under x ≡ x
    replaced k new old there keeps =
        each_with (λ n x. held_as n st.under x ≡ x) st.vhosts k new old (λ n x ne. state.held n x) there
        (keeps_turns k st old new (state.held k old there) keeps)

    backed_holds : (vhost ring : ℕ) (file : Option ℕ) (v : Vhost) → at st.vhosts vhost ≡ Some v → (o : Option Answer) → IsHeld c (backed vhost ring file v st o).state
    backed_holds vhost ring file v there (Some x) = state
    backed_holds vhost ring file v there None =
        record { held = replaced vhost (back_made ring file st.memory v) v there (back_keeps ring file st.memory v); asked = state.asked }

    backs_hold : (version : ℕ) (k : Command) → backs c version k st ≡ Some d.1 → IsHeld c d.1.state
    backs_hold version (command.Backend vhost ring file) e =
        let v = then_some (at st.vhosts vhost) _ d.1 e in
        let o = then_some (back_wanted vhost ring file v.0 st.memory (table_at c version)) _ d.1 v.2 in
        let p = only_some (is_ring ring && is_none (turn_of ring v.0)) (backed vhost ring file v.0 st o.0) d.1 o.2 in
        subst (λ (x : Done). IsHeld c x.state) p.1 (backed_holds vhost ring file v.0 v.1 o.0)
    backs_hold version other e = absurd (cc (e))

    bytes_hold : (k : Command) → on_bytes guest k st ≡ Some d.1 → IsHeld c d.1.state
    bytes_hold (command.Poke g addr bytes) e =
        let p = only_some (g == guest) _ d.1 e in same d.1 (sym (ap (λ (z : Done). z.state.under) p.1)) (sym (ap (λ (z : Done). z.state.vhosts) p.1))
    bytes_hold (command.Peek g addr len) e =
        let p = only_some (g == guest) _ d.1 e in same d.1 (sym (ap (λ (z : Done). z.state.under) p.1)) (sym (ap (λ (z : Done). z.state.vhosts) p.1))
    bytes_hold other e = absurd (cc (e))

    go : (w : What) → does c guest d.0 w st ≡ Some d.1 → IsHeld c d.1.state
    go Called e =
        let vhost = then_some (vhost_named d.0.command) _ d.1 e in
        let v = then_some (at st.vhosts vhost.0) _ d.1 vhost.2 in
        let x = then_some (call_of d.0.command v.0 st.memory) _ d.1 v.2 in
        let m = only_some (may_call d.0.told.command d.0.command v.0) (called_by vhost.0 st x.0) d.1 x.2 in
        subst (λ (y : Done). IsHeld c y.state) m.1 (record {
          held = replaced vhost.0 x.0.vhost v.0 v.1 (call_keeps d.0.command v.0 st.memory x.0 x.1);
          asked = state.asked;
        })
    go OnBytes e = bytes_hold d.0.command e
    go (Backed version) e = backs_hold version d.0.command e
    go FoundOff e =
        let tt_ = then_some (turn_on d.0.command) _ d.1 e in
        let v = then_some (at st.vhosts tt_.0.0) _ d.1 tt_.2 in
        let told = then_some (is_off tt_.0.0 tt_.0.1 v.0) _ d.1 v.2 in
        let p = only_some (is_none (turn_of tt_.0.1 v.0)) (done_as st (Some told.0.1) (Some (answer.Turn 0 0 told.0.0 []))) d.1 told.2 in
        same d.1 (sym (ap (λ (z : Done). z.state.under) p.1)) (sym (ap (λ (z : Done). z.state.vhosts) p.1))
    go (Turned h) e = turn_holds c h d st t state e
