use Rattle.std.proofs.Common.{refl}
use Rattle.core_table.proofs.Sends as lemmas
use Rattle.core_table.proofs.send.sent.Goals as goal

pub read_parts-requires-in-Some : goal.read_parts-requires-in-Some
read_parts-requires-in-Some c =
    lemmas.header_front c.header_bytes.result.now c.header_bytes.result.now c.in_ok-ether.ether.items refl c.header_bytes.ensures.ten
