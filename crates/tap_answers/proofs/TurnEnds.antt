-- The end of a turn, as it is told.
use Rattle.std.proofs.Common.{◌≡◌, Option, Some, None, refl, ap, ◌∙◌}
use Rattle.tap_trace.specs.declared.turn.TurnText.{TurnText}
use Rattle.vring_turns.specs.declared.end.End.{End}
use Rattle.vring_turns.specs.declared.stage.RxStage.{RxStage}
use Rattle.vring_turns.specs.declared.stage.RxStage.TheVariants as rx
use Rattle.vring_turns.specs.declared.stage.TxStage.{TxStage}
use Rattle.vring_turns.specs.declared.stage.TxStage.TheVariants as tx
use Rattle.tap_world.specs.StepTransmits as tx_turns
use Rattle.tap_world.specs.StepTurns as rx_turns
use Rattle.tap_sound.proofs.Kit.{some_same}
use Rattle.tap_answers.proofs.Kit.{mapped}

-- an end that is told
pub record IsEnd (o : Option End) (x : TurnText) : Type 0 where
  pub end : End
  pub is : o ≡ Some end
  pub told : rx_turns.end_told end ≡ Some x

pub end_is : (o : Option End) (x : TurnText) → rx_turns.over_told o ≡ Some (Some x) → IsEnd o x
end_is None x h = absurd (cc (h))
end_is (Some e) x h =
    let t = mapped (λ (y : TurnText). Some y) (rx_turns.end_told e) (Some x) h in
    record { end = e; is = refl; told = t.1 ∙ t.2 }

pub rx_ended : (st : RxStage) (e : End) → rx_turns.rx_over st ≡ Some e → st ≡ rx.Ended e
rx_ended (rx.Ended end) e h = ap (λ (q : End). rx.Ended q) (some_same end e h)
rx_ended st e h = absurd (cc (h))

pub tx_ended : (st : TxStage) (e : End) → tx_turns.tx_over st ≡ Some e → st ≡ tx.Ended e
tx_ended (tx.Ended end) e h = ap (λ (q : End). tx.Ended q) (some_same end e h)
tx_ended st e h = absurd (cc (h))
