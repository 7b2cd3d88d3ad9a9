-- This project's own: refusals in their order, and the usual start of a virtual machine, as worked examples.
use Rattle.std.specs.Prelude.{◌≡◌, ℕ, Bool, true, false, List, [], ◌∷◌, map, Option, None, Some, Ok, Err}
use Rattle.guest_mem.specs.Memory.{Contents}
use Rattle.guest_mem.specs.Regions.{zeroed}
use Rattle.vring_split.specs.declared.layout.Layout.{Layout}
use Rattle.vhost_dev.specs.declared.error.VhostErr.{VhostErr}
use Rattle.vhost_dev.specs.declared.error.VhostErr.TheVariants.{EINVAL, EBUSY, EFAULT, ENOBUFS, EHDR, ENOTSUP}
use Rattle.vhost_dev.specs.Settings.{RingSettings, Settings, first_settings, hdr_of}
use Rattle.vhost_dev.specs.Calls.{get_base, fits}
use Rattle.vhost_dev.specs.Laws.{Call, refusal_of, after}
use Rattle.vhost_dev.specs.Laws.Call.{SetFeatures, SetNum, SetBase, SetAddr, SetBackend, UnsetBackend}

-- 4 MiB of zeros
abbrev pub four_mib : Contents
four_mib = zeroed (record { addr = 0; len = 4194304 } ∷ [])

-- what calls answer, one after the other
abbrev pub refusals_of : Contents → Settings → List Call → List (Option VhostErr)
refusals_of m s [] = []
refusals_of m s (call ∷ calls) = refusal_of m s call ∷ refusals_of m (after m s call) calls

-- the settings after them
abbrev pub after_all : Contents → Settings → List Call → Settings
after_all m s [] = s
after_all m s (call ∷ calls) = after_all m (after m s call) calls

-- numbers that can't be used, and the largest queue size
abbrev pub NumbersAreLookedAt : Type 0
NumbersAreLookedAt =
    map (refusal_of four_mib first_settings)
    (SetNum 0 3 ∷ SetNum 0 0 ∷ SetNum 0 65536 ∷ SetNum 0 32768 ∷ SetNum 2 4 ∷ SetBase 0 65536 ∷ SetBase 0 65535
    ∷ SetFeatures 16777216 ∷ SetFeatures 5100306432 ∷ SetFeatures 4295000064 ∷ [])
    ≡ Some EINVAL ∷ Some EINVAL ∷ Some EINVAL ∷ None ∷ Some ENOBUFS ∷ Some EINVAL ∷ None
    ∷ Some ENOTSUP ∷ None ∷ None ∷ []

-- addresses: alignment comes before memory, and a ring needs room for its size of the moment
abbrev pub AddressesAreLookedAt : Type 0
AddressesAreLookedAt =
    refusals_of four_mib first_settings
    (SetAddr 1 8 2 4 ∷ SetAddr 1 16 1 4 ∷ SetAddr 1 16 2 6 ∷ SetAddr 1 4194312 0 0 ∷ SetAddr 1 4194304 0 0
    ∷ SetAddr 1 4194288 4194296 4194288 ∷ SetNum 1 2 ∷ SetAddr 1 4194288 4194296 4194288 ∷ SetBackend 1 0
    ∷ SetNum 1 1 ∷ SetBackend 1 0 ∷ [])
    ≡ Some EINVAL ∷ Some EINVAL ∷ Some EINVAL ∷ Some EINVAL ∷ Some EFAULT
    ∷ None ∷ None ∷ Some EFAULT ∷ Some EFAULT ∷ None ∷ None ∷ []

-- a ring with a backend is busy, before all but its number; the other ring isn't, and features concern both
abbrev pub BackedRingsAreBusy : Type 0
BackedRingsAreBusy =
    refusals_of four_mib first_settings
    (SetBackend 0 7 ∷ SetBackend 0 7 ∷ SetNum 0 3 ∷ SetBase 0 65536 ∷ SetAddr 0 8 1 1 ∷ SetFeatures 1 ∷ SetNum 1 4
    ∷ SetBackend 2 7 ∷ UnsetBackend 2 ∷ UnsetBackend 0 ∷ SetNum 0 4 ∷ [])
    ≡ None ∷ Some EBUSY ∷ Some EBUSY ∷ Some EBUSY ∷ Some EBUSY ∷ Some EBUSY ∷ None
    ∷ Some ENOBUFS ∷ Some ENOBUFS ∷ None ∷ None ∷ []

-- a file's header has the size of the device's, and no packet information stands in front
abbrev pub HeadersAreCompared : Type 0
HeadersAreCompared =
    (fits (false, None) first_settings ≡ Err (EHDR 10 0))
    × (fits (true, Some 10) first_settings ≡ Err (EHDR 10 10))
    × (fits (false, Some 12) first_settings ≡ Err (EHDR 10 12))
    × (fits (false, Some 10) first_settings ≡ Ok tt)
    × (fits (false, Some 10) (after four_mib first_settings (SetFeatures 4294967296)) ≡ Err (EHDR 12 10))

-- The usual start: a queue pair of 256 descriptors, with all four features.

abbrev pub usual_start : List Call
usual_start =
    SetFeatures 5100306432 ∷ SetNum 0 256 ∷ SetNum 1 256 ∷ SetAddr 0 65536 69632 70152
    ∷ SetAddr 1 1114112 1118208 1118728 ∷ SetBase 0 0 ∷ SetBase 1 0 ∷ SetBackend 0 5 ∷ SetBackend 1 5 ∷ []

abbrev pub started_up : Settings
started_up = after_all four_mib first_settings usual_start

-- a ring of that start
abbrev pub usual_ring : Bool → ℕ → ℕ → ℕ → Layout
usual_ring rx desc avail used =
    record { num = 256; desc = desc; avail = avail; used = used; indirect = true; event = true; rx = rx }

-- what is seen of a ring: its layout, its file, its lists of positions
abbrev pub shown : RingSettings → Layout × Option ℕ × List (ℕ × ℕ)
shown r = (r.queue.layout, r.file, r.lists)

abbrev pub UsualStart : Type 0
UsualStart =
    (refusals_of four_mib first_settings usual_start
    ≡ None ∷ None ∷ None ∷ None ∷ None ∷ None ∷ None ∷ None ∷ None ∷ [])
    × (shown started_up.rx ≡ (usual_ring true 65536 69632 70152, Some 5, (0, 0) ∷ (0, 0) ∷ []))
    × (shown started_up.tx ≡ (usual_ring false 1114112 1118208 1118728, Some 5, (0, 0) ∷ (0, 0) ∷ []))
    × (started_up.mrg ≡ true) × (hdr_of started_up ≡ 12) × (get_base 0 started_up ≡ Ok 0)
    × (fits (false, Some 12) started_up ≡ Ok tt)
