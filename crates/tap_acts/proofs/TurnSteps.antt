-- An act of a turn, taken apart: the turn that it is of, and the state that it leaves.
use Rattle.std.proofs.Common.{◌≡◌, ◌≢◌, ◌⊎◌, ℕ, cond, List, [], ◌∷◌, Option, Some, None, Bool, true, false, refl, sym, ap, ◌∙◌, subst, inl, inr, ⊎_elim}
use Rattle.std.specs.Prelude.{◌==◌, ◌&&◌, not, filter, find, is_none}
use Rattle.std.proofs.lemmas.Bool.{and_from, and_left, and_parts, and_right, eq-eqb, eqb-true, ne_eqb}
use Rattle.guest_mem.specs.Memory.{Contents}
use Rattle.tap_ledger.specs.declared.hand.Hand.{Hand}
use Rattle.vhost_queue.specs.Queue.{Queue}
use Rattle.vring_turns.specs.RxTurn.{rx_step}
use Rattle.vring_turns.specs.TxTurn.{tx_step}
use Rattle.scen_words.specs.declared.command.Command.{Command}
use Rattle.scen_words.specs.declared.command.Command.TheVariants as command
use Rattle.tap_trace.specs.declared.answer.Answer.{Answer}
use Rattle.tap_world.specs.ByNumber.{at}
use Rattle.tap_world.specs.Guests.{Vhost, turn_of}
use Rattle.tap_world.specs.StepTransmits.{chains_after, tx_state}
use Rattle.tap_world.specs.StepTurns.{is_off, rx_state, turn_on}
use Rattle.tap_legal.specs.Replay.{Turning, Under}
use Rattle.tap_legal.specs.Replay.Turning.{Receiving, Sending}
use Rattle.tap_legal.specs.ReplayTurns.{is_under_on, rx_answer, turn_begun, turning_on, tx_answer}
use Rattle.tap_sights.specs.Acts.{Act, Done, State, step_in, turns, under_by, went_on}
use Rattle.tap_sights.proofs.Kit.{passes, some_same}
use Rattle.tap_sound.proofs.Kit.{only_some, then_some}

pub record IsTurnStep (h : Hand) (a : Act) (st : State) (d : Done) : Type 0 where
  pub t : ℕ × ℕ
  pub on : turn_on a.command ≡ Some t
  pub v : Vhost
  pub there : at st.vhosts t.0 ≡ Some v
  pub u : Under
  pub by : under_by a t v (find (is_under_on t.0 t.1) st.under) ≡ Some u
  pub step : step_in h u u.turning v st ≡ Some d

pub turn_step_of : (h : Hand) (a : Act) (st : State) (d : Done) → turns h a st ≡ Some d → IsTurnStep h a st d
turn_step_of h a st d e =
    let t = then_some (turn_on a.command) _ d e in
    let v = then_some (at st.vhosts t.0.0) _ d t.2 in
    let u = then_some (under_by a t.0 v.0 (find (is_under_on t.0.0 t.0.1) st.under)) _ d v.2 in
    record { t = t.0; on = t.1; v = v.0; there = v.1; u = u.0; by = u.1; step = u.2 }

pub ring_of_turn : (k : Command) (t : ℕ × ℕ) → turn_on k ≡ Some t → (t.1 ≡ 0) ⊎ (t.1 ≡ 1)
ring_of_turn (command.RxTurn vhost) t e = inl (sym (ap (λ (q : ℕ × ℕ). q.1) (some_same (vhost, 0) t e)))
ring_of_turn (command.TxTurn vhost) t e = inr (sym (ap (λ (q : ℕ × ℕ). q.1) (some_same (vhost, 1) t e)))
ring_of_turn other t e = absurd (cc (e))

begun_on : (ring command actor : ℕ) (v : Vhost) → (ring ≡ 0) ⊎ (ring ≡ 1) → turning_on (turn_begun ring command actor v) ≡ ring
begun_on ring command actor v (inl e) = subst (λ n. turning_on (turn_begun n command actor v) ≡ n) (sym e) refl
begun_on ring command actor v (inr e) = subst (λ n. turning_on (turn_begun n command actor v) ≡ n) (sym e) refl

-- the turn is the command's, on its own ring
pub record IsOwn (a : Act) (t : ℕ × ℕ) (u : Under) : Type 0 where
  pub vhost : u.vhost ≡ t.0
  pub ring : turning_on u.turning ≡ t.1
  pub command : u.command ≡ a.told.command

pub found_on : (n ring : ℕ) (us : List Under) (u : Under) → find (is_under_on n ring) us ≡ Some u → (u.vhost ≡ n) × (turning_on u.turning ≡ ring)
found_on n ring us u e =
    let q = and_parts (u.vhost == n) (turning_on u.turning == ring) (passes (is_under_on n ring) us u e) in
    (eqb-true u.vhost n q.0, eqb-true (turning_on u.turning) ring q.1)

pub its_own : (h : Hand) (a : Act) (st : State) (d : Done) (s : IsTurnStep h a st d) → IsOwn a s.t s.u
its_own h a st d s = go (find (is_under_on s.t.0 s.t.1) st.under) refl s.by
  where
    go : (o : Option Under) → find (is_under_on s.t.0 s.t.1) st.under ≡ o → under_by a s.t s.v o ≡ Some s.u → IsOwn a s.t s.u
    go (Some w) found e =
        let p = only_some (w.command == a.told.command) w s.u e in
        let q = found_on s.t.0 s.t.1 st.under w found in
        subst (IsOwn a s.t) p.1 (record { vhost = q.0; ring = q.1; command = eqb-true w.command a.told.command p.0 })
    go None found e =
        let p = only_some (is_none (is_off s.t.0 s.t.1 s.v) && is_none (turn_of s.t.1 s.v))
        (record { vhost = s.t.0; command = a.told.command; turning = turn_begun s.t.1 a.told.command a.told.actor s.v }) s.u e in
        subst (IsOwn a s.t) p.1
        (record { vhost = refl; ring = begun_on s.t.1 a.told.command a.told.actor s.v (ring_of_turn a.command s.t s.on); command = refl })

-- ---- the state that it leaves

pub record Went (u : Under) (v : Vhost) (st : State) (d : Done) : Type 0 where
  pub turning : Turning
  pub queue : Queue
  pub memory : Contents
  pub over : Option Answer
  pub ring : turning_on turning ≡ turning_on u.turning
  pub state : d.state ≡ went_on (record u { turning = turning }) queue memory over v st

pub went_by : (h : Hand) (u : Under) (v : Vhost) (st : State) (d : Done) → step_in h u u.turning v st ≡ Some d → Went u v st d
went_by h u v st d e = go u.turning refl e
  where
    go : (g : Turning) → u.turning ≡ g → step_in h u g v st ≡ Some d → Went u v st d
    go (Receiving t) is e =
        let made = then_some (rx_step h (rx_state t v st.memory)) _ d e in
        record {
          turning = Receiving made.0.0.turn;
          queue = made.0.0.queue;
          memory = made.0.0.memory;
          over = rx_answer made.0.0.turn;
          ring = sym (ap turning_on is);
          state = sym (ap (λ (z : Done). z.state) (some_same _ d made.2));
        }
    go (Sending t chains) is e =
        let made = then_some (tx_step (tx_state t v st.memory)) _ d e in
        record {
          turning = Sending made.0.0.turn (chains_after made.0.1 made.0.0.turn.held chains);
          queue = made.0.0.queue;
          memory = made.0.0.memory;
          over = tx_answer made.0.0.turn (chains_after made.0.1 made.0.0.turn.held chains);
          ring = sym (ap turning_on is);
          state = sym (ap (λ (z : Done). z.state) (some_same _ d made.2));
        }

-- ---- turns that are left

skip : (test : Under → Bool) (x : Under) (xs : List Under) → test x ≡ false → find test (x ∷ xs) ≡ find test xs
skip test x xs e = cc (e)

pub here : (test : Under → Bool) (x : Under) (xs : List Under) → test x ≡ true → find test (x ∷ xs) ≡ Some x
here test x xs e = cc (e)

abbrev pub others_than : Under → List Under → List Under
others_than u us = filter (λ x. not (is_under_on u.vhost (turning_on u.turning) x)) us

gone_in : (n ring : ℕ) (us : List Under) → find (is_under_on n ring) (filter (λ x. not (is_under_on n ring x)) us) ≡ None
gone_in n ring [] = refl
gone_in n ring (x ∷ us) = go (is_under_on n ring x) refl (gone_in n ring us)
  where
    go : (b : Bool) → is_under_on n ring x ≡ b → find (is_under_on n ring) (filter (λ y. not (is_under_on n ring y)) us) ≡ None
        → find (is_under_on n ring) (cond (not b) (x ∷ filter (λ y. not (is_under_on n ring y)) us) (filter (λ y. not (is_under_on n ring y)) us)) ≡ None
    go true is more = more
    go false is more = skip (is_under_on n ring) x _ is ∙ more

-- two rings
abbrev pub IsElsewhere : ℕ → ℕ → ℕ → ℕ → Type 0
IsElsewhere n ring m other = (n ≢ m) ⊎ (ring ≢ other)

not_both : (n ring m other : ℕ) (x : Under) → IsElsewhere n ring m other → is_under_on m other x ≡ true → is_under_on n ring x ≡ false
not_both n ring m other x away e =
    let p = and_parts (x.vhost == m) (turning_on x.turning == other) e in
    let v = eqb-true x.vhost m p.0 in
    let r = eqb-true (turning_on x.turning) other p.1 in
    ⊎_elim
    (λ ne. and_left (x.vhost == n) (turning_on x.turning == ring) (ne_eqb x.vhost n (λ same. ne (sym same ∙ v))))
    (λ ne. and_right (x.vhost == n) (turning_on x.turning == ring) (ne_eqb (turning_on x.turning) ring (λ same. ne (sym same ∙ r))))
    away

stays_in : (n ring m other : ℕ) → IsElsewhere n ring m other → (us : List Under)
    → find (is_under_on n ring) (filter (λ x. not (is_under_on m other x)) us) ≡ find (is_under_on n ring) us
stays_in n ring m other away [] = refl
stays_in n ring m other away (x ∷ us) = go (is_under_on m other x) refl (stays_in n ring m other away us)
  where
    both : (b : Bool) → is_under_on n ring x ≡ b → (ys : List Under) → find (is_under_on n ring) ys ≡ find (is_under_on n ring) us
        → find (is_under_on n ring) (x ∷ ys) ≡ find (is_under_on n ring) (x ∷ us)
    both true is ys e = here (is_under_on n ring) x ys is ∙ sym (here (is_under_on n ring) x us is)
    both false is ys e = skip (is_under_on n ring) x ys is ∙ e ∙ sym (skip (is_under_on n ring) x us is)

    go : (b : Bool) → is_under_on m other x ≡ b
        → find (is_under_on n ring) (filter (λ y. not (is_under_on m other y)) us) ≡ find (is_under_on n ring) us
        → find (is_under_on n ring) (cond (not b) (x ∷ filter (λ y. not (is_under_on m other y)) us) (filter (λ y. not (is_under_on m other y)) us))
        ≡ find (is_under_on n ring) (x ∷ us)
    go true is more = more ∙ sym (skip (is_under_on n ring) x us (not_both n ring m other x away is))
    go false is more = both (is_under_on n ring x) refl (filter (λ y. not (is_under_on m other y)) us) more

-- the turn's own ring, and any other, behind its step
pub own_after : (u : Under) (q : Queue) (m : Contents) (over : Option Answer) (v : Vhost) (st : State)
    → find (is_under_on u.vhost (turning_on u.turning)) (went_on u q m over v st).under ≡ cond (is_none over) (Some u) None
own_after u q m None v st =
    here (is_under_on u.vhost (turning_on u.turning)) u (others_than u st.under)
    (and_from (u.vhost == u.vhost) (turning_on u.turning == turning_on u.turning) (eq-eqb u.vhost u.vhost refl) (eq-eqb (turning_on u.turning) (turning_on u.turning) refl))
own_after u q m (Some x) v st = gone_in u.vhost (turning_on u.turning) st.under

pub other_after : (n ring : ℕ) (u : Under) (q : Queue) (m : Contents) (over : Option Answer) (v : Vhost) (st : State)
    → IsElsewhere n ring u.vhost (turning_on u.turning)
    → find (is_under_on n ring) (went_on u q m over v st).under ≡ find (is_under_on n ring) st.under
other_after n ring u q m None v st away =
    skip (is_under_on n ring) u (others_than u st.under)
    (not_both n ring u.vhost (turning_on u.turning) u away
    (and_from (u.vhost == u.vhost) (turning_on u.turning == turning_on u.turning) (eq-eqb u.vhost u.vhost refl) (eq-eqb (turning_on u.turning) (turning_on u.turning) refl)))
    ∙ stays_in n ring u.vhost (turning_on u.turning) away st.under
other_after n ring u q m (Some x) v st away = stays_in n ring u.vhost (turning_on u.turning) away st.under
