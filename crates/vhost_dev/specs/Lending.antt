-- This project's own: a queue that a device lends.
use Rattle.std.specs.Prelude.{Bool}
use Rattle.std.specs.Borrow.{Lends, MutBor, Fml}
use Rattle.vhost_queue.specs.Queue.{Reserved}
use Rattle.vhost_queue.specs.contracts.vq.Vq as vq
use Rattle.vhost_dev.specs.Device.{Device, with_queue}
use Rattle.vhost_dev.specs.KeptRing.{KeptRing, with_vq}
use Rattle.vhost_dev.specs.contracts.device.VhostDev as device
use Rattle.vhost_dev.specs.contracts.ring.Ring as ring

-- r lends the queue of a ring: the device ends with what is last left there in its place, and all else stays
abbrev pub LendsQueue : Bool → MutBor Device → MutBor Reserved → Fml
LendsQueue rx d r = Lends device.the_row vq.the_row d r (with_queue rx d.now)

-- the same of a ring
abbrev pub LendsVq : MutBor KeptRing → MutBor Reserved → Fml
LendsVq k r = Lends ring.the_row vq.the_row k r (with_vq k.now)
