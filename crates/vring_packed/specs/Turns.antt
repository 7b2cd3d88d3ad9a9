-- VIRTIO 1.2, 2.8: what a device publishes, when the driver wants a notice, and a chain that is rewound, as worked
-- examples on a ring of three.
use Rattle.std.specs.Prelude.{◌≡◌, ℕ, Bool, true, false, List, [], ◌∷◌, map}
use Rattle.std.specs.Int.{w16, to_le_bytes}
use Rattle.guest_mem.specs.Memory.{Contents, with_bytes}
use Rattle.vring_packed.specs.declared.chain.PackedChain.{PackedChain}
use Rattle.vring_packed.specs.declared.done.PackedDone.{PackedDone}
use Rattle.vring_packed.specs.declared.fetched.PackedFetched.TheVariants.{Chain}
use Rattle.vring_packed.specs.declared.layout.PackedLayout.{PackedLayout}
use Rattle.vring_packed.specs.declared.place.Place.{Place}
use Rattle.vring_packed.specs.Packed.{first_place}
use Rattle.vring_packed.specs.Publication.{published_at, place_behind, passed, wants_notice}
use Rattle.vring_packed.specs.Queue.{first_queue}
use Rattle.vring_packed.specs.Calls.{Call, Fetch, Serve, Rewind, Finish, Publish, Ready, made_by_all, kept_by_all, used_by_all}
use Rattle.vring_packed.specs.Examples.{one_region}

abbrev pub ring_of_three : Bool → PackedLayout
ring_of_three event =
    record { num = 3; ring = 0; driver = 48; device = 52; indirect = false; event = event; rx = true }

-- the last place before the end of the ring, a chain of two descriptors without bytes, and one with five bytes
abbrev pub last_place : Place
last_place = record { at = 2; wrap = true }

abbrev pub two_chains : List PackedDone
two_chains = record { id = 1; count = 2; len = 0 } ∷ record { id = 0; count = 1; len = 5 } ∷ []

-- the first is used at entry 2 with the counter on, the second at entry 1 with it off
abbrev pub TwoArePublished : Type 0
TwoArePublished =
    (published_at (ring_of_three false) last_place two_chains (record { regions = one_region; bytes = [] })
    ≡ record { regions = one_region; bytes = (24, 5) ∷ (30, 2) ∷ (44, 1) ∷ (46, 128) ∷ (47, 128) ∷ [] })
    × (place_behind 3 last_place two_chains ≡ record { at = 2; wrap = false }) × (passed two_chains ≡ 3)

-- a memory whose driver area has this place and these flags
abbrev pub asked : ℕ × ℕ → Contents
asked area = record {
  regions = one_region;
  bytes = with_bytes (with_bytes [] 48 (to_le_bytes w16 area.0)) 50 (to_le_bytes w16 area.1);
}

-- the three places from entry 2 on are passed: all notices, none; with events at the first, at the last, one behind, one
-- before, and an entry that isn't there; a mode that isn't known; and without events at a place that isn't passed
abbrev pub NoticesAreWanted : Type 0
NoticesAreWanted =
    (map (λ area. wants_notice (ring_of_three true) last_place 3 (asked area))
    ((0, 0) ∷ (0, 1) ∷ (32770, 2) ∷ (1, 2) ∷ (2, 2) ∷ (32769, 2) ∷ (3, 2) ∷ (0, 3) ∷ [])
    ≡ true ∷ false ∷ true ∷ true ∷ false ∷ false ∷ false ∷ true ∷ [])
    × (wants_notice (ring_of_three false) last_place 3 (asked (2, 2)) ≡ true)

-- a publication of nothing passes no place, and writes nothing: a notice is wanted all the same with the flags 0, and
-- isn't with 1, or with 2 and the place at which it would begin
abbrev pub NothingIsPublished : Type 0
NothingIsPublished =
    (passed [] ≡ 0)
    × (map (λ area. wants_notice (ring_of_three true) last_place 0 (asked area)) ((0, 0) ∷ (0, 1) ∷ (32770, 2) ∷ [])
    ≡ true ∷ false ∷ false ∷ [])
    × (published_at (ring_of_three true) last_place [] (asked (0, 0)) ≡ asked (0, 0))

-- two chains are fetched and served, the second is rewound and comes again, and then both are done and published
abbrev pub one_rewound : List Call
one_rewound =
    Ready ∷ Fetch (Chain 7 2) ∷ Serve ∷ Fetch (Chain 5 2) ∷ Serve ∷ Rewind 1 ∷ Fetch (Chain 5 2) ∷ Serve
    ∷ Finish 7 0 ∷ Finish 5 9 ∷ Publish ∷ []

abbrev pub two_in_turn : List PackedChain
two_in_turn =
    record { place = first_place; id = 7; count = 2 } ∷ record { place = last_place; id = 5; count = 2 } ∷ []

abbrev pub OneIsRewound : Type 0
OneIsRewound =
    (made_by_all one_rewound (first_queue (ring_of_three false))
    ≡ record (first_queue (ring_of_three false)) {
      next = record { at = 1; wrap = false };
      used = record { at = 1; wrap = false };
      position = 2;
      journal = (0, 7, 0) ∷ (1, 5, 9) ∷ [];
      reserved = 2045;
    })
    × (kept_by_all one_rewound (first_queue (ring_of_three false)) [] ≡ two_in_turn)
    × (used_by_all one_rewound (first_queue (ring_of_three false)) [] ≡ two_in_turn)
