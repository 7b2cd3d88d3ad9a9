use Rattle.std.proofs.Common.{refl}
use Rattle.guest_mem.specs.Memory.{gaps, first_bad, bytes_from, with_bytes}
use Rattle.vring_split.specs.Split.{desc_bytes, used_elem_of, used_elem_bytes}
use Rattle.vring_drive.specs.Area.{with_field, field_at}
use Rattle.vring_drive.specs.Posts.{offered, linked}
use Rattle.vring_drive.specs.Harvests.{harvest_of, used_entry}
use Rattle.example_rings.proofs.driving.Goals as goal

pub returns-clause-areas : goal.returns-clause-areas
unfolding gaps first_bad bytes_from with_bytes with_field field_at offered linked desc_bytes harvest_of used_entry used_elem_of used_elem_bytes
returns-clause-areas c = (refl, refl, refl, refl)

pub returns-clause-posts : goal.returns-clause-posts
unfolding gaps first_bad bytes_from with_bytes with_field field_at offered linked desc_bytes harvest_of used_entry used_elem_of used_elem_bytes
returns-clause-posts c = (refl, refl, refl, refl, refl, refl, refl)

pub returns-clause-lowest : goal.returns-clause-lowest
unfolding gaps first_bad bytes_from with_bytes with_field field_at offered linked desc_bytes harvest_of used_entry used_elem_of used_elem_bytes
returns-clause-lowest c = (refl, refl, refl, refl)

pub returns-clause-written : goal.returns-clause-written
unfolding gaps first_bad bytes_from with_bytes with_field field_at offered linked desc_bytes harvest_of used_entry used_elem_of used_elem_bytes
returns-clause-written c = refl

pub returns-clause-stray : goal.returns-clause-stray
unfolding gaps first_bad bytes_from with_bytes with_field field_at offered linked desc_bytes harvest_of used_entry used_elem_of used_elem_bytes
returns-clause-stray c = (refl, refl, refl, refl)
