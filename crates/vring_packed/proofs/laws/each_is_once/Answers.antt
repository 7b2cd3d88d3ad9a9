use Rattle.vring_packed.proofs.Runs.{each_is_once}
use Rattle.vring_packed.proofs.laws.each_is_once.Goals as goal

pub returns : goal.returns
returns c =
    let laws = c.positions_stay_in_order.ensures in
    each_is_once laws.serves laws.rewinds laws.done laws.published
