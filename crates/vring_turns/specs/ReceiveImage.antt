-- VIRTIO 1.2, 5.1.6.3 and 5.1.6.4: how a frame is laid into the chains that take it.
use Rattle.std.specs.Prelude.{ℕ, ◌+◌, ◌-◌, min, ◌==◌, nat_le, List, [], ◌∷◌, ◌++◌, length, Option, None, Some, if◌then◌else◌}
use Rattle.std.specs.Int.{w16, to_le_bytes}
use Rattle.guest_mem.specs.Memory.{Contents}
use Rattle.vring_walk.specs.Spread.{laid}
use Rattle.vhost_queue.specs.declared.done.Done.{Done}
use Rattle.tap_frame.specs.Frame.{FrameValue, bytes_of}
use Rattle.tap_ledger.specs.declared.act.Act.TheVariants as act
use Rattle.vring_turns.specs.Ring.{Gathered, Ring, Made, bytes_in, segments_of, room_in, moved, first_position, with_all_done}

-- how many bytes a frame needs behind a header of this size
abbrev pub need_of : ℕ → FrameValue → ℕ
need_of size frame = size + frame.mark

-- 5.1.6.1: num_buffers, which a header of 12 bytes has and one of 10 bytes hasn't
abbrev pub num_buffers : ℕ → ℕ → List ℕ
num_buffers size count = if size == 12 then to_le_bytes w16 count else []

-- the bytes of a frame that goes into so many chains: its header, num_buffers, and the frame
abbrev pub image : ℕ → ℕ → FrameValue → List ℕ
image size count frame = frame.hdr ++ (num_buffers size count ++ bytes_of frame)

-- how many of so many bytes each chain gets: as many as it has room for
abbrev pub shares : List Gathered → ℕ → List Done
shares [] n = []
shares (c ∷ cs) n =
    record { head = c.head; len = min (bytes_in c.segments) n } ∷ shares cs (n - bytes_in c.segments)

-- the memory with a frame in the chains that are gathered; all other bytes stay
abbrev pub with_image : ℕ → FrameValue → List Gathered → Contents → Contents
with_image size frame chains m =
    record m { bytes = laid m.bytes (segments_of chains) (image size (length chains) frame) }

-- the frame goes into the chains that are gathered, where they have room for it; each is done with the bytes it got
abbrev pub copies_in : ℕ → FrameValue → Ring → Contents → Option Made
copies_in size frame r m =
    if nat_le (need_of size frame) (room_in r.chains) then Some (record {
      ring = moved (with_all_done (shares r.chains (need_of size frame))) [] r;
      memory = with_image size frame r.chains m;
      told = act.Copy (first_position r) frame.name;
    })
    else None
