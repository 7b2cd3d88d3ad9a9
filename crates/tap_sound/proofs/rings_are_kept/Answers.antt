use Rattle.tap_sound.proofs.EventRings as laws
use Rattle.tap_sound.proofs.rings_are_kept.Goals as goal

pub returns : goal.returns
returns c = λ s w e u is q h. laws.rings_are_kept (record {
  turn = record {
    rx_begin = c.receive_standing.ensures.begins;
    rx_stand = c.receive_standing.ensures.stands;
    tx_begin = c.transmit_standing.ensures.begins;
    tx_stand = c.transmit_standing.ensures.stands;
  };
  rx_order = c.receive_standing.ensures.order;
  tx_order = c.transmit_standing.ensures.order;
  dev = record {
    sizes = c.rings_stay_good.ensures.sizes;
    ready = c.rings_stay_good.ensures.ready;
    good = c.rings_stay_good.ensures.good;
    order = c.lists_stay_in_order.ensures.calls;
  };
}) s w e u is q.0 q.1 h
