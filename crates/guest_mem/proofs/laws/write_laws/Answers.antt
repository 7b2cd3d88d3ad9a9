use Rattle.guest_mem.proofs.Lists.{value_at-with_bytes, stored_with_bytes}
use Rattle.guest_mem.proofs.Gaps.{covers-there}
use Rattle.guest_mem.proofs.Bytes.{writes_bytes}
use Rattle.std.proofs.Common.{length}
use Rattle.guest_mem.proofs.laws.write_laws.Goals as goal

pub returns-clause-byte : goal.returns-clause-byte
returns-clause-byte c = value_at-with_bytes

pub returns-clause-writes : goal.returns-clause-writes
returns-clause-writes c = λ m a xs h. writes_bytes m.regions m.bytes a xs h

pub returns-clause-sound : goal.returns-clause-sound
returns-clause-sound c = λ m a xs sound h. record {
  regions = sound.regions;
  bytes = stored_with_bytes m.regions m.bytes a xs sound.bytes (covers-there m.regions a (length xs) h);
}
