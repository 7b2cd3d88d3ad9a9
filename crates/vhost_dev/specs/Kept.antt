-- This project's own: how a device is kept.
use Rattle.vhost_dev.specs.declared.device.VhostDev.TheInside.{Inside}
use Rattle.vhost_dev.specs.Device.{Device}

-- the device that the fields stand for
abbrev pub device_of : Inside → Device
device_of d = record {
  settings = record { mrg = d.mrg; version_1 = d.version_1; rx = d.rx.ring; tx = d.tx.ring };
  rx_reserved = d.rx.reserved;
  tx_reserved = d.tx.reserved;
}
