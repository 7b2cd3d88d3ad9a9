-- This project's own: guests, and the vhosts over their memory.
use Rattle.std.specs.Prelude.{ℕ, ◌==◌, ◌||◌, not, nat_lt, Bool, true, if◌then◌else◌, List, [], Option, Some, None, is_none, option_map}
use Rattle.std.specs.Option.{option_map_or}
use Rattle.guest_mem.specs.Memory.{Contents}
use Rattle.guest_mem.specs.Regions.{zeroed}
use Rattle.guest_mem.specs.declared.region.Region.{Region}
use Rattle.vhost_queue.specs.Queue.{Queue}
use Rattle.vhost_dev.specs.declared.error.VhostErr.{VhostErr}
use Rattle.vhost_dev.specs.declared.error.VhostErr.TheVariants as err
use Rattle.vhost_dev.specs.Settings.{Settings, first_settings, ring_at, with_ring}
use Rattle.vring_drive.specs.Books.{Books}
use Rattle.tap_trace.specs.declared.answer.Answer.{Answer}
use Rattle.tap_trace.specs.declared.answer.Answer.TheVariants as answer
use Rattle.tap_trace.specs.declared.causes.VhostText.{VhostText}
use Rattle.tap_trace.specs.declared.causes.VhostText.TheVariants as text
use Rattle.tap_trace.specs.declared.trace.StepLine.{StepLine}

-- a guest: its memory, and the steps on it so far
pub record Guest : Type 0 where
  pub memory : Contents
  pub steps : List StepLine

-- a vhost: its guest, its settings with both rings, the drivers of the rings, and the actors that hold the rings' turns
pub record Vhost : Type 0 where
  pub guest : ℕ
  pub settings : Settings
  pub rx_driver : Option Books
  pub tx_driver : Option Books
  pub rx_turn : Option ℕ
  pub tx_turn : Option ℕ

-- as they begin: zeros, the first settings, no driver
abbrev pub new_guest : List Region → Guest
new_guest regions = record { memory = zeroed regions; steps = [] }

abbrev pub new_vhost : ℕ → Vhost
new_vhost guest = record {
  guest = guest;
  settings = first_settings;
  rx_driver = None;
  tx_driver = None;
  rx_turn = None;
  tx_turn = None;
}

-- ---- rings: 0 receives, 1 transmits, and there is no other

abbrev pub is_ring : ℕ → Bool
is_ring ring = nat_lt ring 2

abbrev pub driver_of : ℕ → Vhost → Option Books
driver_of ring v = if ring == 0 then v.rx_driver else v.tx_driver

abbrev pub with_driver : ℕ → Books → Vhost → Vhost
with_driver ring b v = if ring == 0 then record v { rx_driver = Some b } else record v { tx_driver = Some b }

-- a ring with another queue
abbrev pub with_queue : ℕ → Queue → Vhost → Vhost
with_queue ring q v =
    record v { settings = with_ring (ring == 0) (record (ring_at ring v.settings) { queue = q }) v.settings }

-- the actor that holds a ring's turn, and the ring with its turn held or free
abbrev pub turn_of : ℕ → Vhost → Option ℕ
turn_of ring v = if ring == 0 then v.rx_turn else v.tx_turn

abbrev pub with_turn : ℕ → Option ℕ → Vhost → Vhost
with_turn ring holder v = if ring == 0 then record v { rx_turn = holder } else record v { tx_turn = holder }

-- a ring's turn is free or held by this actor; a ring that there isn't has none
abbrev pub is_free_for : ℕ → ℕ → Vhost → Bool
is_free_for actor ring v = not (is_ring ring) || option_map_or (λ a. a == actor) (turn_of ring v) true

abbrev pub is_free : ℕ → Vhost → Bool
is_free ring v = is_none (turn_of ring v)

-- the words in which a trace tells a vhost's refusals; want of memory has none
abbrev pub vhost_text : VhostErr → Option VhostText
vhost_text err.EINVAL = Some text.EINVAL
vhost_text err.EBUSY = Some text.EBUSY
vhost_text err.EFAULT = Some text.EFAULT
vhost_text err.ENOBUFS = Some text.ENOBUFS
vhost_text (err.EHDR want have) = Some (text.EHDR want have)
vhost_text err.ENOTSUP = Some text.ENOTSUP
vhost_text err.NoMemory = None

-- the answer that tells them
abbrev pub vhost_answer : VhostErr → Option Answer
vhost_answer e = option_map (λ x. answer.Vhost x) (vhost_text e)
