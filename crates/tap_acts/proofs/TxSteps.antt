-- Steps of transmit turns: those that are printed, and the one that gives a frame to the host.
use Rattle.std.proofs.Common.{◌≡◌, ℕ, List, [], ◌∷◌, Option, Some, None, Bool, true, false, refl, sym, ap, ◌∙◌, true≢false}
use Rattle.std.specs.Prelude.{◌==◌, find, if◌then◌else◌, is_none}
use Rattle.vring_walk.specs.declared.walk.Fetched.{Fetched}
use Rattle.vring_walk.specs.declared.walk.Fetched.TheVariants as fetched
use Rattle.tap_frame.specs.declared.reading.BadFrame.{BadFrame}
use Rattle.tap_frame.specs.Frame.{FrameValue}
use Rattle.tap_ledger.specs.declared.act.Act.{Act as Told}
use Rattle.tap_ledger.specs.declared.hand.Hand.{Hand}
use Rattle.vhost_dev.specs.Settings.{RingSettings}
use Rattle.vring_turns.specs.declared.end.End.{End}
use Rattle.vring_turns.specs.declared.stage.TxStage.{TxStage}
use Rattle.vring_turns.specs.declared.stage.TxStage.TheVariants as tx
use Rattle.vring_turns.specs.Ring.{Gathered, Made, done_in, fetches, found, first_position, publishes, told_of}
use Rattle.vring_turns.specs.TransmitBytes.{bytes_of_chain, refusal_of}
use Rattle.vring_turns.specs.TxTurn.{TxState, TxTurn, tx_copies, tx_done, tx_gives, tx_judged, tx_made, tx_next, tx_publishes, tx_ring, tx_step}
use Rattle.tap_trace.specs.declared.turn.ChainText.{ChainText}
use Rattle.tap_world.specs.Guests.{Vhost}
use Rattle.tap_world.specs.StepTransmits.{chains_after, tx_state}
use Rattle.tap_world.specs.StepTurns.{kind_of}
use Rattle.tap_legal.specs.Replay.{Under}
use Rattle.tap_legal.specs.Replay.Turning.{Sending}
use Rattle.tap_legal.specs.ReplayTurns.{is_quiet_tx, is_under_on, tx_answer}
use Rattle.tap_sights.specs.Acts.{Done, State, step_in, went_on}
use Rattle.tap_sights.proofs.Kit.{some_same}
use Rattle.tap_sound.proofs.Kit.{WhereSome, then_some, where_some}
use Rattle.tap_acts.specs.Replaying.{gone_on}
use Rattle.tap_acts.specs.Turns.{IsQuiet, Prints, after_giving, given}
use Rattle.tap_acts.proofs.TurnSteps.{own_after}

-- ---- what is printed

-- what a step tells is a step of the guest
abbrev IsPrinted : ℕ → TxState × Told → Type 0
IsPrinted vhost made = is_none (kind_of vhost 1 made.1) ≡ false

fetch_told : (vhost position : ℕ) (f : Fetched) → is_none (kind_of vhost 1 (told_of position f)) ≡ false
fetch_told vhost position (fetched.Chain head) = refl
fetch_told vhost position fetched.Nothing = refl
fetch_told vhost position fetched.Crowded = refl
fetch_told vhost position (fetched.Bad fault) = refl

module _ (vhost : ℕ) where
  by_fetch : (o : Option TxStage) (s : TxState)
      → WhereSome (IsPrinted vhost) (elim o [ None ↦ None | Some stage ↦ Some (tx_made (fetches (tx_ring s) s.memory) stage s) ])
  by_fetch None s = tt
  by_fetch (Some stage) s = fetch_told vhost s.queue.positions.next (found (tx_ring s) s.memory).0

  by_judge : (position : ℕ) (bytes : List ℕ) (o : Option BadFrame) (s : TxState) → IsPrinted vhost (tx_judged position bytes o s)
  by_judge position bytes None s = refl
  by_judge position bytes (Some bad) s = refl

  by_copy : (cs : List Gathered) (s : TxState) → WhereSome (IsPrinted vhost) (tx_copies cs s)
  by_copy [] s = tt
  by_copy (c ∷ cs) s =
      by_judge (first_position (tx_ring s)) (bytes_of_chain s.turn.header s.memory c)
      (refusal_of s.turn.header (bytes_of_chain s.turn.header s.memory c)) (tx_done c s)

  published : (b : Bool) (m : Made) → is_none (kind_of vhost 1 m.told) ≡ false
      → WhereSome (λ (x : Made). is_none (kind_of vhost 1 x.told) ≡ false) (if b then None else Some m)
  published true m h = tt
  published false m h = h

  by_made : (e : Option End) (s : TxState) (o : Option Made) → WhereSome (λ (x : Made). is_none (kind_of vhost 1 x.told) ≡ false) o
      → WhereSome (IsPrinted vhost) (elim o [ None ↦ None | Some made ↦ Some (tx_made made (elim e [ None ↦ tx.Fetch | Some x ↦ tx.Ended x ]) s) ])
  by_made e s None h = tt
  by_made e s (Some made) h = h

  by_publish : (e : Option End) (s : TxState) → WhereSome (IsPrinted vhost) (tx_publishes e s)
  by_publish e s = by_made e s (publishes (tx_ring s) s.memory) (published (done_in s.queue == 0) _ refl)

  tx_prints : (g : TxStage) (s : TxState) → is_quiet_tx g ≡ false → WhereSome (IsPrinted vhost) (tx_next g s)
  tx_prints tx.Begin s e = refl
  tx_prints tx.Fetch s e = by_fetch _ s
  tx_prints tx.NoticesOn s e = refl
  tx_prints tx.FetchAgain s e = by_fetch _ s
  tx_prints (tx.NoticesOff fault) s e = refl
  tx_prints tx.Copy s e = by_copy s.turn.chains s
  tx_prints tx.Give s e = absurd (true≢false e)
  tx_prints (tx.Publish end) s e = by_publish end s
  tx_prints (tx.Ended end) s e = tt

-- ---- a turn's next step

module _ (u : Under) (t : TxTurn) (chains : List ChainText) (is : u.turning ≡ Sending t chains) where
  sends_print : is_quiet_tx t.stage ≡ false → Prints u
  sends_print loud h v st d e =
      let made = then_some (tx_step (tx_state t v st.memory)) _ d (ap (λ g. step_in h u g v st) (sym is) ∙ e) in
      ap (λ (z : Done). is_none z.step) (sym (some_same _ d made.2))
      ∙ where_some (IsPrinted u.vhost) (tx_step (tx_state t v st.memory)) made.0 (tx_prints u.vhost t.stage (tx_state t v st.memory) loud) made.1

  gone_same : (b : Bool) (w : Under) → gone_on u (if b then Some (record u { turning = w.turning }) else None) ≡ (if b then Some (record u { turning = w.turning }) else None)
  gone_same true w = refl
  gone_same false w = refl

  -- the state behind the frame that is given
  giving : (f : FrameValue) → t.stage ≡ tx.Give → t.held ≡ Some f → (h : Hand) (v : Vhost) (st : State) (d : Done) → step_in h u u.turning v st ≡ Some d
      → (is_none d.step ≡ true)
      × (d.state ≡ went_on (record u { turning = Sending (given t v.settings.tx) chains }) v.settings.tx.queue st.memory (tx_answer (given t v.settings.tx) chains) v st)
  giving f stage held h v st d e =
      let s : TxState = tx_state t v st.memory in
      let made = then_some (tx_step s) _ d (ap (λ g. step_in h u g v st) (sym is) ∙ e) in
      let so : made.0 ≡ _ = some_same _ _ (sym made.1 ∙ ap (λ g. tx_next g s) stage ∙ ap (λ o. tx_gives o s) held) in (
        ap (λ (z : Done). is_none z.step) (sym (some_same _ d made.2)) ∙ ap (λ (m : TxState × Told). is_none (kind_of u.vhost 1 m.1)) so,
        sym (ap (λ (z : Done). z.state) (some_same _ d made.2))
            ∙ ap (λ (m : TxState × Told). went_on (record u { turning = Sending m.0.turn (chains_after m.1 m.0.turn.held chains) }) m.0.queue m.0.memory
            (tx_answer m.0.turn (chains_after m.1 m.0.turn.held chains)) v st) so,
      )

  gives_quietly : (f : FrameValue) (r : RingSettings) → t.stage ≡ tx.Give → t.held ≡ Some f → IsQuiet u.vhost 1 u r (after_giving u t chains r)
  gives_quietly f r stage held = record {
    quiet = λ h v st d ring e.
        let g = giving f stage held h v st d e in (
          g.0,
          ap (λ (z : State). find (is_under_on u.vhost 1) z.under) g.1
              ∙ own_after (record u { turning = Sending (given t v.settings.tx) chains }) v.settings.tx.queue st.memory (tx_answer (given t v.settings.tx) chains) v st
              ∙ ap (λ (x : RingSettings). after_giving u t chains x) ring,
        );
    same = gone_same (is_none (tx_answer (given t r) chains)) (record u { turning = Sending (given t r) chains });
  }

pub sends_are_printed : (u : Under) (t : TxTurn) (chains : List ChainText) → u.turning ≡ Sending t chains
    → (is_quiet_tx t.stage ≡ false → Prints u)
    × ((f : FrameValue) (r : RingSettings) → t.stage ≡ tx.Give → t.held ≡ Some f → IsQuiet u.vhost 1 u r (after_giving u t chains r))
sends_are_printed u t chains is = (sends_print u t chains is, gives_quietly u t chains is)
