-- Calls on vhosts and drivers in the replay.
use Rattle.std.proofs.Common.{◌≡◌, ℕ, List, ◌∷◌, Option, Some, None, Bool, true, false, sym, ap, ◌∙◌, subst}
use Rattle.std.specs.Prelude.{if◌then◌else◌, option_map}
use Rattle.guest_mem.specs.Memory.{Contents}
use Rattle.tap_trace.specs.declared.kind.Kind.{Kind}
use Rattle.tap_trace.specs.declared.trace.StepLine.{StepLine}
use Rattle.tap_world.specs.ByNumber.{at, with_at}
use Rattle.tap_world.specs.Guests.{Vhost, turn_of}
use Rattle.tap_world.specs.StepControl.{Call, call_of, may_call}
use Rattle.tap_world.specs.StepTurns.{turn_on}
use Rattle.tap_legal.specs.Numbered.{StepAt}
use Rattle.tap_legal.specs.Case.{Case}
use Rattle.tap_legal.specs.Replay.{Replay, called_as, done_with, replay_call, vhost_named}
use Rattle.tap_legal.specs.ReplayTurns.{replay_step}
use Rattle.tap_sights.specs.Acts.{Act, Done, State, called_by, calls}
use Rattle.tap_sights.specs.Acts.What.{Called}
use Rattle.tap_sights.specs.GuestFacts.{ActTells}
use Rattle.tap_sights.specs.LineFacts.{IsShaped}
use Rattle.tap_sights.specs.Sight.{In}
use Rattle.tap_sound.proofs.Kit.{only_some, some_then, then_some, where_some}
use Rattle.tap_acts.specs.Replaying.{IsAmong, held_as, holder_on, is_turned}
use Rattle.tap_acts.proofs.CallsHeld.{Silent, call_keeps, call_turned, call_turns, may_stay, no_back_called, no_turn_called, silent_call, turned}
use Rattle.tap_acts.proofs.Ends.{Goes, IsLine, IsNext, Leaves, ends, passes_by, stepped}
use Rattle.tap_acts.proofs.Printed.{as_call, if_step_is, none_then}
use Rattle.tap_acts.proofs.Vhosts.{Freer, both_with, each_with, holder_freer, turn_freer, with_same}

-- a vhost's turns beside those of the replay
pub freer_in : (c : Case) (all rest : List (Act × Done)) (st : State) (r : Replay) → IsAmong c all rest st r
    → (n : ℕ) (v : Vhost) → at st.vhosts n ≡ Some v → (ring : ℕ) → Freer (turn_of ring v) (turn_of ring (held_as n r.under v))
freer_in c all rest st r among n v e ring =
    let held = among.state.held n v e in
    turn_freer ring v (held_as n r.under v)
    (subst (λ o. Freer o (holder_on n 0 r.under)) (ap (λ (w : Vhost). w.rx_turn) held) (holder_freer n 0 rest st.under r.under (among.under n 0)))
    (subst (λ o. Freer o (holder_on n 1 r.under)) (ap (λ (w : Vhost). w.tx_turn) held) (holder_freer n 1 rest st.under r.under (among.under n 1)))

-- the vhost of a number in the replay
pub replayed_vhost : (c : Case) (all rest : List (Act × Done)) (st : State) (r : Replay) → IsAmong c all rest st r
    → (n : ℕ) (v : Vhost) → at st.vhosts n ≡ Some v → at r.vhosts n ≡ Some (held_as n r.under v)
replayed_vhost c all rest st r among n v e = among.vhosts n ∙ ap (option_map (held_as n r.under)) e

-- a vhost that changes keeps its turns
pub keeps_turns : (n : ℕ) (st : State) (v w : Vhost) → held_as n st.under v ≡ v → turned v.rx_turn v.tx_turn w ≡ w → held_as n st.under w ≡ w
keeps_turns n st v w held same =
    (λ i. turned (ap (λ (x : Vhost). x.rx_turn) held i) (ap (λ (x : Vhost). x.tx_turn) held i) w) ∙ same

module _ (c : Case) (shape : IsShaped c) (all : List (Act × Done)) (tells : (d : Act × Done) → In d all → ActTells c d) (guest : ℕ)
    (d : Act × Done) (rest : List (Act × Done)) (st : State) (r : Replay) (next : IsNext all d rest) (among : IsAmong c all (d ∷ rest) st r) (what : d.0.what ≡ Called) where
  module _ (vhost : ℕ) (v : Vhost) (x : Call) (named : vhost_named d.0.command ≡ Some vhost) (there : at st.vhosts vhost ≡ Some v)
      (made : call_of d.0.command v st.memory ≡ Some x) (may : may_call d.0.told.command d.0.command v ≡ true) (is : called_by vhost st x ≡ d.1) where
    abbrev w : Vhost
    w = held_as vhost r.under v

    abbrev rx : Option ℕ
    rx = holder_on vhost 0 r.under

    abbrev tx : Option ℕ
    tx = holder_on vhost 1 r.under

    makes : call_of d.0.command w r.memory ≡ Some (call_turned rx tx x)
    makes = ap (λ (m : Contents). call_of d.0.command w m) among.memory ∙ call_turns rx tx d.0.command v st.memory ∙ ap (option_map (call_turned rx tx)) made

    own_turns : turned v.rx_turn v.tx_turn x.vhost ≡ x.vhost
    own_turns = call_keeps d.0.command v st.memory x made

    not_turned : is_turned d.0.what ≡ false
    not_turned = ap is_turned what

    leaves : Leaves c shape all tells st d r x.memory (with_at vhost (held_as vhost r.under x.vhost) r.vhosts)
    leaves = record {
      what = not_turned;
      accepted = sym (ap (λ (z : Done). z.accepted) is);
      under = sym (ap (λ (z : Done). z.state.under) is);
      memory = ap (λ (z : Done). z.state.memory) is;
      vhosts = λ n. subst (λ (z : Done). at (with_at vhost (held_as vhost r.under x.vhost) r.vhosts) n ≡ option_map (held_as n r.under) (at z.state.vhosts n)) is
          (both_with (λ k y. held_as k r.under y) st.vhosts r.vhosts among.vhosts vhost x.vhost v there n);
      held = λ n y e. each_with (λ k z. held_as k st.under z ≡ z) st.vhosts vhost x.vhost v (λ m z ne. among.state.held m z) there
          (keeps_turns vhost st v x.vhost (among.state.held vhost v there) own_turns) n y
          (ap (λ (z : Done). at z.state.vhosts n) is ∙ e);
    }

    abbrev after : ℕ → Replay
    after n = done_with c n x.answer (record r { memory = x.memory; vhosts = with_at vhost (held_as vhost r.under x.vhost) r.vhosts })

    by_call : (k : Kind) → d.1.step ≡ Some k → (s : StepAt) → IsLine guest d k s → replay_call c s d.0.command r ≡ Some (after s.at.command)
    by_call k step s line =
        let same : s.at.command ≡ d.0.told.command = ap (λ (l : StepLine). l.command) line.at in
        some_then (vhost_named d.0.command) _ vhost (after s.at.command) named
        (some_then (at r.vhosts vhost) _ w (after s.at.command) (replayed_vhost c all (d ∷ rest) st r among vhost v there)
        (some_then (call_of d.0.command w r.memory) _ (call_turned rx tx x) (after s.at.command) makes
        (ap (λ (b : Bool). if b then Some (called_as c s vhost r (call_turned rx tx x)) else None)
        (ap (λ n. may_call n d.0.command w) same
        ∙ may_stay d.0.told.command d.0.command v w (freer_in c all (d ∷ rest) st r among vhost v there) may)
        ∙ ap Some (if_step_is s x.step r (after s.at.command) k (ap (λ (z : Done). z.step) is ∙ step) (ap (λ (l : StepLine). l.kind) line.at)))))

    prints : (k : Kind) → d.1.step ≡ Some k → (s : StepAt) (ss : List StepAt) → IsLine guest d k s → IsAmong c all rest d.1.state (replay_step c s ss r)
    prints k step s ss line =
        let same : s.at.command ≡ d.0.told.command = ap (λ (l : StepLine). l.command) line.at in
        subst (IsAmong c all rest d.1.state)
        (sym (stepped c shape all tells d rest st r (after s.at.command) k guest s ss next among step line
        (λ undone. as_call c s ss d.0.command r (after s.at.command) undone
        (none_then (turn_on d.0.command) _ (no_turn_called d.0.command v st.memory x made))
        (no_back_called c s r d.0.command v st.memory x made) (by_call k step s line))))
        (subst (λ n. IsAmong c all rest d.1.state (after n)) (sym same)
        (ends c shape all tells d rest st r x.memory (with_at vhost (held_as vhost r.under x.vhost) r.vhosts) r.unsets x.answer next among leaves
        (sym (ap (λ (z : Done). z.answer) is)) among.unset))

    stays : d.1.step ≡ None → IsAmong c all rest d.1.state r
    stays none =
        let p = where_some (Silent d.0.command v st.memory) (call_of d.0.command v st.memory) x (silent_call d.0.command v st.memory) made
        (ap (λ (z : Done). z.step) is ∙ none) in
        let same : (n : ℕ) → at st.vhosts n ≡ at d.1.state.vhosts n = λ n.
        sym (with_same vhost x.vhost v st.vhosts there p.0 n) ∙ ap (λ (z : Done). at z.state.vhosts n) is in
        passes_by c shape all tells d rest st r next among (record {
          what = not_turned;
          accepted = sym (ap (λ (z : Done). z.accepted) is);
          under = sym (ap (λ (z : Done). z.state.under) is);
          memory = among.memory ∙ sym p.1 ∙ ap (λ (z : Done). z.state.memory) is;
          vhosts = λ n. among.vhosts n ∙ ap (option_map (held_as n r.under)) (same n);
          held = λ n y e. among.state.held n y (same n ∙ e);
        }) p.2

  pub call_goes : calls d.0 st ≡ Some d.1 → Goes c guest all rest d r
  call_goes e =
      let a = then_some (vhost_named d.0.command) _ d.1 e in
      let b = then_some (at st.vhosts a.0) _ d.1 a.2 in
      let x = then_some (call_of d.0.command b.0 st.memory) _ d.1 b.2 in
      let m = only_some (may_call d.0.told.command d.0.command b.0) (called_by a.0 st x.0) d.1 x.2 in
      record { prints = λ k step s ss line more. prints a.0 b.0 x.0 a.1 b.1 x.1 m.0 m.1 k step s ss line; stays = stays a.0 b.0 x.0 a.1 b.1 x.1 m.0 m.1 }
