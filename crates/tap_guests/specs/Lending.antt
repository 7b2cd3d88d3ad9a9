-- This project's own: the memory that a guest lends.
use Rattle.std.specs.Borrow.{Lends, MutBor, Fml}
use Rattle.guest_mem.specs.Memory.{Contents}
use Rattle.guest_mem.specs.contracts.memory.Memory as memory
use Rattle.tap_world.specs.Guests.{Guest}
use Rattle.tap_guests.specs.contracts.guest.GuestMem as guest

-- the guest with another memory
abbrev pub with_memory : Guest → Contents → Guest
with_memory g m = record g { memory = m }

-- r lends the memory: the guest ends with what is last left there in its place, and its steps stay
abbrev pub LendsMemory : MutBor Guest → MutBor Contents → Fml
LendsMemory g r = Lends guest.the_row memory.the_row g r (with_memory g.now)
