-- The file that a ring has changes with an act that prints so, and with no other.
use Rattle.std.proofs.Common.{◌≡◌, ◌⊎◌, ℕ, zero, suc, List, [], ◌∷◌, Option, Some, None, Bool, true, false, refl, sym, ap, ◌∙◌, subst, inl, inr, ⊎_elim, true≢false, arith}
use Rattle.std.specs.Prelude.{◌==◌, ◌&&◌, not, if◌then◌else◌, is_none, option_and_then}
use Rattle.std.proofs.lemmas.Bool.{and_from, and_left, and_parts, and_right, cases_Bool, eq-eqb, eqb-true, false_from_ne_true, ltb-true, ne_eqb}
use Rattle.guest_mem.specs.Memory.{Contents}
use Rattle.tap_ledger.specs.declared.hand.Hand.{Hand}
use Rattle.vhost_dev.specs.Calls.{backed as backed_ring, unbacked}
use Rattle.vhost_dev.specs.Settings.{RingSettings, Settings, is_rx, ring_at, ring_of, with_ring}
use Rattle.vhost_queue.specs.Queue.{Queue}
use Rattle.vring_turns.specs.RxTurn.{rx_step}
use Rattle.vring_turns.specs.TxTurn.{tx_step}
use Rattle.scen_words.specs.declared.command.Command.{Command}
use Rattle.scen_words.specs.declared.command.Command.TheVariants as command
use Rattle.tap_trace.specs.declared.answer.Answer.{Answer}
use Rattle.tap_trace.specs.declared.kind.Kind.{Kind}
use Rattle.tap_trace.specs.declared.kind.Kind.TheVariants as kind
use Rattle.tap_world.specs.ByNumber.{at, with_at}
use Rattle.tap_world.specs.Guests.{Vhost, is_ring, turn_of, with_queue, with_turn}
use Rattle.tap_world.specs.StepControl.{call_of, may_call}
use Rattle.tap_world.specs.StepTransmits.{chains_after, tx_state}
use Rattle.tap_world.specs.StepTurns.{is_off, rx_state, turn_on}
use Rattle.tap_legal.specs.Case.{Case}
use Rattle.tap_legal.specs.Lookups.{table_at}
use Rattle.tap_legal.specs.Replay.{Turning, Under, back_made, back_wanted, vhost_named}
use Rattle.tap_legal.specs.Replay.Turning.{Receiving, Sending}
use Rattle.tap_legal.specs.ReplayTurns.{rx_answer, turning_on, tx_answer}
use Rattle.tap_legal.specs.Served.{file_backed, is_set_on}
use Rattle.tap_sights.specs.Acts.{Act, Done, State, What, backed, backs, calls, does, found_off, on_bytes, step_in, went_on}
use Rattle.tap_sights.specs.Acts.What.{Backed, Called, FoundOff, OnBytes, Turned}
use Rattle.tap_sights.specs.Serves.{file_on}
use Rattle.tap_sights.proofs.ActSteps.{off_sets, sets_on, turn_sets}
use Rattle.tap_sights.proofs.CallSteps.{SameFiles, bound, call_is, ring_kept, sets}
use Rattle.tap_sights.proofs.Kit.{some_same}
use Rattle.tap_sights.proofs.OnGuests.{turn_parts}
use Rattle.tap_sights.proofs.Taken.{only_some}

-- ---- the file of a ring among vhosts

ring_file : (b : Bool) (s t : Settings) → SameFiles s t → (ring_of b s).file ≡ (ring_of b t).file
ring_file true s t h = h.0
ring_file false s t h = h.1

-- the ring of a vhost's number, with a vhost in its place that has the same file there
file_kept : (m n r : ℕ) (vs : List (Option Vhost)) (v w : Vhost) → at vs m ≡ Some v
    → (m ≡ n → (ring_at r w.settings).file ≡ (ring_at r v.settings).file) → file_on (n, r) (with_at m w vs) ≡ file_on (n, r) vs
file_kept m n r [] v w there same = absurd (cc (there))
file_kept zero zero r (o ∷ vs) v w there same =
    same refl ∙ sym (ap (option_and_then (λ (x : Vhost). (ring_at r x.settings).file)) there)
file_kept zero (suc n) r (o ∷ vs) v w there same = refl
file_kept (suc m) zero r (o ∷ vs) v w there same = refl
file_kept (suc m) (suc n) r (o ∷ vs) v w there same = file_kept m n r vs v w there (λ e. same (ap suc e))

at_set : {A : Type 0} (m : ℕ) (v w : A) (xs : List (Option A)) → at xs m ≡ Some v → at (with_at m w xs) m ≡ Some w
at_set m v w [] there = absurd (cc (there))
at_set zero v w (o ∷ xs) there = refl
at_set (suc m) v w (o ∷ xs) there = at_set m v w xs there

-- ---- what an act makes of a ring's file

-- the act prints that it sets the ring, whose file is then its command's
pub record SetsFile (ring : ℕ × ℕ) (k : Command) (d : Done) : Type 0 where
  pub step : Kind
  pub is : d.step ≡ Some step
  pub set : is_set_on ring step ≡ true
  pub file : file_on ring d.state.vhosts ≡ file_backed k

-- it doesn't, and the ring's file stays
pub record LeavesFile (ring : ℕ × ℕ) (st : State) (d : Done) : Type 0 where
  pub none : (k : Kind) → d.step ≡ Some k → is_set_on ring k ≡ false
  pub file : file_on ring d.state.vhosts ≡ file_on ring st.vhosts

none_set : (ring : ℕ × ℕ) (o : Option Kind) → sets o ≡ false → (k : Kind) → o ≡ Some k → is_set_on ring k ≡ false
none_set ring o none k e = false_from_ne_true (is_set_on ring k) (λ is. true≢false (sym (sets_on ring k is) ∙ ap sets (sym e) ∙ none))

bytes_stay : (ring : ℕ × ℕ) (guest : ℕ) (k : Command) (st : State) (d : Done) → on_bytes guest k st ≡ Some d → LeavesFile ring st d
bytes_stay ring guest (command.Poke g addr bytes) st d e =
    subst (LeavesFile ring st) (only_some (g == guest) _ d e).1 (record { none = none_set ring (Some kind.Poke) refl; file = refl })
bytes_stay ring guest (command.Peek g addr len) st d e =
    subst (LeavesFile ring st) (only_some (g == guest) _ d e).1 (record { none = none_set ring (Some kind.Peek) refl; file = refl })
bytes_stay ring guest k st d e = absurd (cc (e))

calls_stay : (ring : ℕ × ℕ) (a : Act) (st : State) (d : Done) → calls a st ≡ Some d → LeavesFile ring st d
calls_stay ring a st d e =
    let vhost = bound (vhost_named a.command) _ d e in
    let v = bound (at st.vhosts vhost.0) _ d vhost.2 in
    let x = bound (call_of a.command v.0 st.memory) _ d v.2 in
    let c = call_is a.command v.0 st.memory x.0 x.1 in
    subst (LeavesFile ring st) (only_some (may_call a.told.command a.command v.0) _ d x.2).1 (record {
      none = none_set ring x.0.step c.none;
      file = file_kept vhost.0 ring.0 ring.1 st.vhosts v.0 x.0.vhost v.1
          (λ e. ring_file (is_rx ring.1) x.0.vhost.settings v.0.settings c.files);
    })

off_stays : (ring : ℕ × ℕ) (k : Command) (st : State) (d : Done) → found_off k st ≡ Some d → LeavesFile ring st d
off_stays ring k st d e =
    let t = bound (turn_on k) _ d e in
    let v = bound (at st.vhosts t.0.0) _ d t.2 in
    let x = bound (is_off t.0.0 t.0.1 v.0) _ d v.2 in
    subst (LeavesFile ring st) (only_some (is_none (turn_of t.0.1 v.0)) _ d x.2).1 (record {
      none = none_set ring (Some x.0.1) (off_sets t.0.0 t.0.1 v.0 x.0 x.1);
      file = refl;
    })

-- a turn's queue and who holds it
holder_set : (rx : Bool) (h : Option ℕ) (w : Vhost) → (if rx then record w { rx_turn = h } else record w { tx_turn = h }).settings ≡ w.settings
holder_set true h w = refl
holder_set false h w = refl

turn_kept : (n : ℕ) (h : Option ℕ) (q : Queue) (v : Vhost) → SameFiles (with_turn n h (with_queue n q v)).settings v.settings
turn_kept n h q v =
    subst (λ (s : Settings). SameFiles s v.settings) (sym (holder_set (n == 0) h (with_queue n q v)))
    (ring_kept (n == 0) (record (ring_at n v.settings) { queue = q }) v.settings refl)

went_stays : (ring : ℕ × ℕ) (u : Under) (q : Queue) (m : Contents) (over : Option Answer) (v : Vhost) (st : State) → at st.vhosts u.vhost ≡ Some v
    → file_on ring (went_on u q m over v st).vhosts ≡ file_on ring st.vhosts
went_stays ring u q m over v st there =
    let holder : Option ℕ = if is_none over then Some u.command else None in
    let after : Vhost = with_turn (turning_on u.turning) holder (with_queue (turning_on u.turning) q v) in
    file_kept u.vhost ring.0 ring.1 st.vhosts v after there
    (λ e. ring_file (is_rx ring.1) after.settings v.settings (turn_kept (turning_on u.turning) holder q v))

step_stays : (ring : ℕ × ℕ) (h : Hand) (u : Under) (t : Turning) (v : Vhost) (st : State) (d : Done) → at st.vhosts u.vhost ≡ Some v
    → step_in h u t v st ≡ Some d → LeavesFile ring st d
step_stays ring h u (Receiving t) v st d there e =
    let made = bound (rx_step h (rx_state t v st.memory)) _ d e in
    subst (LeavesFile ring st) (some_same _ d made.2) (record {
      none = none_set ring _ (turn_sets u.vhost 0 made.0.1);
      file = went_stays ring (record u { turning = Receiving made.0.0.turn }) made.0.0.queue made.0.0.memory (rx_answer made.0.0.turn) v st there;
    })
step_stays ring h u (Sending t chains) v st d there e =
    let made = bound (tx_step (tx_state t v st.memory)) _ d e in
    subst (LeavesFile ring st) (some_same _ d made.2) (record {
      none = none_set ring _ (turn_sets u.vhost 1 made.0.1);
      file = went_stays ring (record u { turning = Sending made.0.0.turn (chains_after made.0.1 made.0.0.turn.held chains) }) made.0.0.queue made.0.0.memory
          (tx_answer made.0.0.turn (chains_after made.0.1 made.0.0.turn.held chains)) v st there;
    })

-- ---- backends

-- the ring that a backend is set on, as it is then
abbrev ring_made : ℕ → Option ℕ → Contents → Vhost → RingSettings
ring_made r None m v = unbacked (ring_at r v.settings)
ring_made r (Some file) m v = backed_ring file m (ring_at r v.settings)

made_is : (r : ℕ) (file : Option ℕ) (m : Contents) (v : Vhost)
    → ((back_made r file m v).settings ≡ with_ring (is_rx r) (ring_made r file m v) v.settings) × ((ring_made r file m v).file ≡ file)
made_is r None m v = (refl, refl)
made_is r (Some file) m v = (refl, refl)

this_ring : (b : Bool) (x : RingSettings) (s : Settings) → ring_of b (with_ring b x s) ≡ x
this_ring true x s = refl
this_ring false x s = refl

other_ring : (b : Bool) (x : RingSettings) (s : Settings) → ring_of (not b) (with_ring b x s) ≡ ring_of (not b) s
other_ring true x s = refl
other_ring false x s = refl

-- there are two rings
is_other : (r n : ℕ) → is_ring r ≡ true → is_ring n ≡ true → (r == n) ≡ false → is_rx n ≡ not (is_rx r)
is_other zero zero p q e = absurd (true≢false e)
is_other zero (suc n) p q e = ne_eqb (suc n) 0 (λ h. omega (arith, h))
is_other (suc zero) zero p q e = refl
is_other (suc zero) (suc zero) p q e = absurd (true≢false e)
is_other (suc zero) (suc (suc n)) p q e = let l = ltb-true (suc (suc n)) 2 q in absurd (omega (arith, l))
is_other (suc (suc r)) n p q e = let l = ltb-true (suc (suc r)) 2 p in absurd (omega (arith, l))

backed_files : (ring : ℕ × ℕ) (vhost r : ℕ) (file : Option ℕ) (v : Vhost) (st : State) (w : Option Answer) → is_ring ring.1 ≡ true
    → is_ring r ≡ true → at st.vhosts vhost ≡ Some v
    → SetsFile ring (command.Backend vhost r file) (backed vhost r file v st w) ⊎ LeavesFile ring st (backed vhost r file v st w)
backed_files ring vhost r file v st (Some x) p q there = inr (record {
  none = λ k e. ap (is_set_on ring) (sym (some_same _ k e)) ∙ and_right (vhost == ring.0 && r == ring.1) false refl;
  file = refl;
})
backed_files ring vhost r file v st None p q there = ⊎_elim
    (λ is. inl (record { step = kind.Backend vhost r true; is = refl; set = and_from (vhost == ring.0 && r == ring.1) true is refl; file = now is }))
    (λ other. inr (record {
      none = λ k e. ap (is_set_on ring) (sym (some_same _ k e)) ∙ and_left (vhost == ring.0 && r == ring.1) true other;
      file = file_kept vhost ring.0 ring.1 st.vhosts v (back_made r file st.memory v) there (λ e. same e other);
    }))
    (cases_Bool (vhost == ring.0 && r == ring.1))
  where
    made : ((back_made r file st.memory v).settings ≡ with_ring (is_rx r) (ring_made r file st.memory v) v.settings) × ((ring_made r file st.memory v).file ≡ file)
    made = made_is r file st.memory v

    now : (vhost == ring.0 && r == ring.1) ≡ true → file_on ring (with_at vhost (back_made r file st.memory v) st.vhosts) ≡ file
    now is =
        let w = and_parts (vhost == ring.0) (r == ring.1) is in
        let here : file_on (vhost, r) (with_at vhost (back_made r file st.memory v) st.vhosts) ≡ file =
        ap (option_and_then (λ (x : Vhost). (ring_at r x.settings).file)) (at_set vhost v (back_made r file st.memory v) st.vhosts there)
        ∙ ap (λ (s : Settings). (ring_at r s).file) made.0 ∙ ap (λ (x : RingSettings). x.file) (this_ring (is_rx r) (ring_made r file st.memory v) v.settings)
        ∙ made.1 in
        there_is (eqb-true vhost ring.0 w.0) (eqb-true r ring.1 w.1) here
      where
        there_is : vhost ≡ ring.0 → r ≡ ring.1 → file_on (vhost, r) (with_at vhost (back_made r file st.memory v) st.vhosts) ≡ file
            → file_on ring (with_at vhost (back_made r file st.memory v) st.vhosts) ≡ file
        there_is e f h =
            ap (λ n. file_on (n, ring.1) (with_at vhost (back_made r file st.memory v) st.vhosts)) (sym e)
            ∙ ap (λ n. file_on (vhost, n) (with_at vhost (back_made r file st.memory v) st.vhosts)) (sym f) ∙ h

    same : vhost ≡ ring.0 → (vhost == ring.0 && r == ring.1) ≡ false
        → (ring_at ring.1 (back_made r file st.memory v).settings).file ≡ (ring_at ring.1 v.settings).file
    same e other =
        let apart : (r == ring.1) ≡ false = sym (ap (λ b. b && (r == ring.1)) (eq-eqb vhost ring.0 e)) ∙ other in
        let rx : is_rx ring.1 ≡ not (is_rx r) = is_other r ring.1 q p apart in
        ap (λ (s : Settings). (ring_at ring.1 s).file) made.0
        ∙ ap (λ b. (ring_of b (with_ring (is_rx r) (ring_made r file st.memory v) v.settings)).file) rx
        ∙ ap (λ (x : RingSettings). x.file) (other_ring (is_rx r) (ring_made r file st.memory v) v.settings)
        ∙ ap (λ b. (ring_of b v.settings).file) (sym rx)

backs_files : (c : Case) (version : ℕ) (ring : ℕ × ℕ) (k : Command) (st : State) (d : Done) → is_ring ring.1 ≡ true → backs c version k st ≡ Some d
    → SetsFile ring k d ⊎ LeavesFile ring st d
backs_files c version ring (command.Backend vhost r file) st d p e =
    let v = bound (at st.vhosts vhost) _ d e in
    let w = bound (back_wanted vhost r file v.0 st.memory (table_at c version)) _ d v.2 in
    let is = only_some (is_ring r && is_none (turn_of r v.0)) _ d w.2 in
    subst (λ (z : Done). SetsFile ring (command.Backend vhost r file) z ⊎ LeavesFile ring st z) is.1
    (backed_files ring vhost r file v.0 st w.0 p (and_parts (is_ring r) (is_none (turn_of r v.0)) is.0).0 v.1)
backs_files c version ring k st d p e = absurd (cc (e))

-- ---- any act

pub does_files : (c : Case) (guest : ℕ) (ring : ℕ × ℕ) (a : Act) (w : What) (st : State) (d : Done) → is_ring ring.1 ≡ true
    → does c guest a w st ≡ Some d → SetsFile ring a.command d ⊎ LeavesFile ring st d
does_files c guest ring a Called st d p e = inr (calls_stay ring a st d e)
does_files c guest ring a OnBytes st d p e = inr (bytes_stay ring guest a.command st d e)
does_files c guest ring a (Backed version) st d p e = backs_files c version ring a.command st d p e
does_files c guest ring a FoundOff st d p e = inr (off_stays ring a.command st d e)
does_files c guest ring a (Turned h) st d p e =
    let t = turn_parts h a st d e in
    inr (step_stays ring h t.under t.under.turning t.v st d (ap (at st.vhosts) t.on ∙ t.there) t.does)
