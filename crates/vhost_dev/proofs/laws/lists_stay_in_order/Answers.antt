use Rattle.vhost_dev.proofs.Lists.{begin_ordered, calls_keep, queues_keep}
use Rattle.vhost_dev.proofs.laws.lists_stay_in_order.Goals as goal

pub returns-clause-begin : goal.returns-clause-begin
returns-clause-begin c = begin_ordered (record {
  begins = c.positions_stay_in_order.ensures.begins;
  serves = c.positions_stay_in_order.ensures.serves;
  rewinds = c.positions_stay_in_order.ensures.rewinds;
  done = c.positions_stay_in_order.ensures.done;
  published = c.positions_stay_in_order.ensures.published;
})

pub returns-clause-calls : goal.returns-clause-calls
returns-clause-calls c = calls_keep (record {
  begins = c.positions_stay_in_order.ensures.begins;
  serves = c.positions_stay_in_order.ensures.serves;
  rewinds = c.positions_stay_in_order.ensures.rewinds;
  done = c.positions_stay_in_order.ensures.done;
  published = c.positions_stay_in_order.ensures.published;
})

pub returns-clause-queues : goal.returns-clause-queues
returns-clause-queues c = queues_keep (record {
  begins = c.positions_stay_in_order.ensures.begins;
  serves = c.positions_stay_in_order.ensures.serves;
  rewinds = c.positions_stay_in_order.ensures.rewinds;
  done = c.positions_stay_in_order.ensures.done;
  published = c.positions_stay_in_order.ensures.published;
})
