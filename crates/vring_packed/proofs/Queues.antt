-- How many places are left for chains that are done.
use Rattle.std.proofs.Common.{◌≡◌, ℕ, ◌-◌, ◌<◌, List, length, map, min, arith}
use Rattle.std.proofs.lemmas.List.{length-map}
use Rattle.vhost_queue.specs.Queue.{most_done}
use Rattle.vring_packed.specs.declared.done.PackedDone.{PackedDone}
use Rattle.vring_packed.specs.Queue.{done_of}

pub room_left : (ds : List PackedDone) (reserved : ℕ) → 0 < min most_done reserved - length (map done_of ds)
    → (length ds < 1087) × (length ds < reserved)
room_left ds reserved h =
    let same : length (map done_of ds) ≡ length ds = length-map ds done_of in
    (omega (arith, same, h), omega (arith, same, h))
