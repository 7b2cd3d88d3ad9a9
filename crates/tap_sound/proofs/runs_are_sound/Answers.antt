use Rattle.tap_sound.proofs.SoundRuns as laws
use Rattle.tap_sound.proofs.runs_are_sound.Goals as goal

pub returns-clause-reached : goal.returns-clause-reached
returns-clause-reached c = laws.reached_is_sound (record {
  turn = record {
    rx_begin = c.receive_standing.ensures.begins;
    rx_stand = c.receive_standing.ensures.stands;
    tx_begin = c.transmit_standing.ensures.begins;
    tx_stand = c.transmit_standing.ensures.stands;
  };
  rx_order = c.receive_standing.ensures.order;
  tx_order = c.transmit_standing.ensures.order;
  dev = record {
    sizes = c.rings_stay_good.ensures.sizes;
    ready = c.rings_stay_good.ensures.ready;
    good = c.rings_stay_good.ensures.good;
    order = c.lists_stay_in_order.ensures.calls;
  };
}) c.lists_stay_in_order.ensures.begin

pub returns-clause-ended : goal.returns-clause-ended
returns-clause-ended c = laws.run_is_sound (record {
  turn = record {
    rx_begin = c.receive_standing.ensures.begins;
    rx_stand = c.receive_standing.ensures.stands;
    tx_begin = c.transmit_standing.ensures.begins;
    tx_stand = c.transmit_standing.ensures.stands;
  };
  rx_order = c.receive_standing.ensures.order;
  tx_order = c.transmit_standing.ensures.order;
  dev = record {
    sizes = c.rings_stay_good.ensures.sizes;
    ready = c.rings_stay_good.ensures.ready;
    good = c.rings_stay_good.ensures.good;
    order = c.lists_stay_in_order.ensures.calls;
  };
}) c.lists_stay_in_order.ensures.begin
