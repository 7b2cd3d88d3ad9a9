-- VIRTIO 1.2, 5.1.6.2: how a frame is read from the chain that carries it. Which bytes are a frame is this project's
-- own.
use Rattle.std.specs.Prelude.{◌≡◌, ℕ, ◌+◌, ◌≤◌, min, Bool, false, ◌==◌, ◌||◌, List, length, Option, Some, unwrap_or, if◌then◌else◌}
use Rattle.std.specs.Option.{ForSome}
use Rattle.std.proofs.Common.{subst, ap, lit≤}
use Rattle.guest_mem.specs.Memory.{Contents}
use Rattle.vring_walk.specs.Spread.{first_gathered}
use Rattle.tap_frame.specs.declared.name.Name.{Name}
use Rattle.tap_frame.specs.declared.reading.BadFrame.{BadFrame}
use Rattle.tap_frame.specs.declared.shape.Shape.{Shape}
use Rattle.tap_frame.specs.Frame.{FrameValue}
use Rattle.tap_frame.specs.Spelling.{first_case, header_in, behind_header}
use Rattle.vring_turns.specs.Ring.{Gathered, bytes_in}

-- 5.1.6: the header has 10 bytes, or 12
abbrev pub is_header_size : ℕ → Bool
is_header_size size = size == 10 || size == 12

abbrev pub ten : Option ℕ
ten = Some 10

abbrev pub twelve : Option ℕ
twelve = Some 12

-- both sizes are among those that a header may have
abbrev pub ten_is_a_size : ForSome ten (λ size. (10 ≤ size) × (size ≤ 128))
ten_is_a_size size is =
    let e : 10 ≡ size = ap (λ o. unwrap_or o 0) is in
    subst (λ (n : ℕ). (10 ≤ n) × (n ≤ 128)) e (lit≤ tt, lit≤ tt)

abbrev pub twelve_is_a_size : ForSome twelve (λ size. (10 ≤ size) × (size ≤ 128))
twelve_is_a_size size is =
    let e : 12 ≡ size = ap (λ o. unwrap_or o 0) is in
    subst (λ (n : ℕ). (10 ≤ n) × (n ≤ 128)) e (lit≤ tt, lit≤ tt)

-- what stands in front of a frame in a chain
abbrev pub shape_of : ℕ → Shape
shape_of size =
    if size == 12 then record { pi = false; hdr = twelve; sizes = twelve_is_a_size }
    else record { pi = false; hdr = ten; sizes = ten_is_a_size }

-- the bytes of a chain, as far as they are looked at: one more than a header and the longest frame have
abbrev pub bytes_of_chain : ℕ → Contents → Gathered → List ℕ
bytes_of_chain size m c = first_gathered (size + 65536) m.bytes c.segments

-- how many bytes count for a chain: all, but no more than a header and the longest frame have
abbrev pub counted : ℕ → Gathered → ℕ
counted size c = min (bytes_in c.segments) (size + 65535)

-- why the bytes of a chain are no frame, if they are none
abbrev pub refusal_of : ℕ → List ℕ → Option BadFrame
refusal_of size bytes = first_case (shape_of size) bytes

-- the frame that bytes spell, under a name
abbrev pub frame_of : ℕ → Name → List ℕ → FrameValue
frame_of size name bytes = record {
  name = name;
  hdr = header_in (shape_of size) bytes;
  made = behind_header (shape_of size) bytes;
  mark = length (behind_header (shape_of size) bytes);
}
