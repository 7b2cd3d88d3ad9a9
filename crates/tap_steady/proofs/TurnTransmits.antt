-- A transmit turn after a step of it.
use Rattle.std.proofs.Common.{◌≡◌, ℕ, ◌<◌, List, [], ◌∷◌, true, false, true≢false, Option, Some, None, refl, sym, ap, ◌∙◌, subst}
use Rattle.guest_mem.specs.Memory.{Contents}
use Rattle.tap_frame.specs.declared.name.Name.{Name}
use Rattle.tap_ledger.specs.declared.act.Act.{Act}
use Rattle.vhost_dev.specs.Settings.{hdr_of}
use Rattle.vring_turns.specs.declared.stage.TxStage.{TxStage}
use Rattle.vring_turns.specs.declared.stage.TxStage.TheVariants as tx
use Rattle.vring_turns.specs.Ready.{TxReady}
use Rattle.vring_turns.specs.Ring.{done_in}
use Rattle.vring_turns.specs.TxTurn.{TxState, TxTurn, tx_begun, tx_step}
use Rattle.vring_turns.specs.Stage.{is_giving, tx_is_over}
use Rattle.tap_world.specs.ByNumber.{at}
use Rattle.tap_world.specs.Guests.{Vhost}
use Rattle.tap_world.specs.Effect.{vhosts_after}
use Rattle.tap_world.specs.Effect.OnVhosts.{OnVhost}
use Rattle.tap_world.specs.StepTurns.{left}
use Rattle.tap_world.specs.StepTransmits as tx_turns
use Rattle.tap_sound.proofs.Kit.{some_same, where_some}
use Rattle.tap_steady.proofs.Kit.{with_at_here}
use Rattle.tap_steady.proofs.TurnBegins.{TurnLaws}
use Rattle.tap_steady.proofs.TurnFacts.{TxFacts}
use Rattle.tap_steady.proofs.TurnSends.{TxGave, TxOn, gives_on, sends_on}

-- before a step of a transmit turn
pub record TxBefore (vhost file : ℕ) (t : TxTurn) (first : Name) (v : Vhost) : Type 0 where
  pub backend : v.settings.tx.file ≡ Some file
  pub header : t.header ≡ hdr_of v.settings
  pub names : t.first ≡ first
  pub ready : TxReady t v.settings.tx.queue
  pub done : is_giving t.stage ≡ true → 0 < done_in v.settings.tx.queue

pub tx_begins : (laws : TurnLaws) (vhost file : ℕ) (first : Name) (v : Vhost) → v.settings.tx.file ≡ Some file
    → TxBefore vhost file (tx_begun (hdr_of v.settings) first) first v
tx_begins laws vhost file first v backend = record {
  backend = backend;
  header = refl;
  names = refl;
  ready = laws.tx_begin (hdr_of v.settings) first v.settings.tx.queue;
  done = λ h. absurd (true≢false (sym h));
}

pub tx_goes : (vhosts : List (Option Vhost)) (vhost file : ℕ) (t : TxTurn) (first : Name) (v : Vhost) → at vhosts vhost ≡ Some v → TxFacts vhosts vhost file t first
    → TxBefore vhost file t first v
tx_goes vhosts vhost file t first v at_v h =
    let same : h.v ≡ v = some_same h.v v (sym h.is_vhost ∙ at_v) in
    record {
      backend = ap (λ (x : Vhost). x.settings.tx.file) (sym same) ∙ h.backend;
      header = h.header ∙ ap (λ (x : Vhost). hdr_of x.settings) same;
      names = h.names;
      ready = subst (λ (x : Vhost). TxReady t x.settings.tx.queue) same h.ready;
      done = subst (λ (x : Vhost). is_giving t.stage ≡ true → 0 < done_in x.settings.tx.queue) same h.done;
    }

not_over : (st : TxStage) → tx_turns.tx_over st ≡ None → tx_is_over st ≡ false
not_over (tx.Ended e) h = absurd (cc (h))
not_over st h = refl

module _ (laws : TurnLaws) (vhosts : List (Option Vhost)) (vhost file me : ℕ) (t : TxTurn) (first : Name) (v : Vhost) (m : Contents) (made : TxState × Act)
    (before : TxBefore vhost file t first v) (at_v : at vhosts vhost ≡ Some v) (step : tx_step (tx_turns.tx_state t v m) ≡ Some made) where
  ready_now : TxReady made.0.turn made.0.queue
  ready_now = laws.tx_stay t made.0.turn v.settings.tx.queue made.0.queue
      (record { before = tx_turns.tx_state t v m; told = made.1; after = made.0 } ∷ []) before.ready (refl, refl, step, (refl, refl))

  pub tx_went : tx_turns.tx_over made.0.turn.stage ≡ None
      → TxFacts (vhosts_after (OnVhost vhost (left 1 me false made.0.queue v)) vhosts) vhost file made.0.turn first
  tx_went goes =
      let on : TxOn t made = where_some (TxOn t) _ made (sends_on (tx_turns.tx_state t v m)) step in
      record {
        v = left 1 me false made.0.queue v;
        is_vhost = with_at_here vhost (left 1 me false made.0.queue v) v vhosts at_v;
        goes_on = not_over made.0.turn.stage goes;
        backend = before.backend;
        header = on.header ∙ before.header;
        names = on.names ∙ before.names;
        ready = ready_now;
        done = on.done;
      }

  pub tx_gave : t.stage ≡ tx.Give → TxFacts vhosts vhost file made.0.turn first × (is_giving made.0.turn.stage ≡ false)
  tx_gave stage =
      let gave : TxGave t v.settings.tx.queue made = where_some (TxGave t v.settings.tx.queue) _ made (gives_on (tx_turns.tx_state t v m) stage) step in (
        record {
          v = v;
          is_vhost = at_v;
          goes_on = gave.goes_on (before.done (ap is_giving stage));
          backend = before.backend;
          header = gave.on.header ∙ before.header;
          names = gave.on.names ∙ before.names;
          ready = subst (TxReady made.0.turn) gave.queue ready_now;
          done = λ h. absurd (true≢false (sym h ∙ gave.gives));
        },
        gave.gives,
      )
