-- This project's own: how a vhost with its workers, and a guest, are kept.
use Rattle.tap_world.specs.Guests.{Guest}
use Rattle.tap_guests.specs.Side.{Side, IsSide}
use Rattle.tap_guests.specs.declared.side.VhostSide.TheInside as vhost
use Rattle.tap_guests.specs.declared.guest.GuestMem.TheInside as guest

-- the value that the fields stand for
abbrev pub side_of : vhost.Inside → Side
side_of s = record {
  vhost = record {
    guest = s.guest;
    settings = s.dev.settings;
    rx_driver = s.rx_driver;
    tx_driver = s.tx_driver;
    rx_turn = s.rx_turn;
    tx_turn = s.tx_turn;
  };
  rx_reserved = s.dev.rx_reserved;
  tx_reserved = s.dev.tx_reserved;
  rx = s.rx;
  tx = s.tx;
}

-- its rings are idle or served
abbrev pub IsKept : vhost.Inside → Type 0
IsKept s = IsSide (side_of s)

-- the guest that the fields stand for
abbrev pub guest_of : guest.Inside → Guest
guest_of g = record { memory = g.memory; steps = g.steps.items }
