use Rattle.tap_steady.proofs.TurnKept.{turns}
use Rattle.tap_steady.proofs.turns_are_kept.Goals as goal

pub returns : goal.returns
returns c = turns (record {
  rx_stand = c.receive_standing.ensures.begins;
  rx_begin = c.receive_ready.ensures.begins;
  rx_stay = c.receive_ready.ensures.stays;
  tx_begin = c.transmit_ready.ensures.begins;
  tx_stay = c.transmit_ready.ensures.stays;
})
