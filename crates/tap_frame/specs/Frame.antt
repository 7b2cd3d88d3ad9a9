-- This project's own: what a frame is to a contract.
use Rattle.std.specs.Prelude.{◌≡◌, ℕ, ◌≤◌, min, List, length, take}
use Rattle.tap_frame.specs.declared.name.Name.{Name}

-- a frame
pub record FrameValue : Type 0 where
  pub name : Name
  -- the ten bytes of its header
  pub hdr : List ℕ
  -- the bytes that it was made with
  pub made : List ℕ
  -- how many of them it has now
  pub mark : ℕ

-- what each frame keeps
pub record IsFrame (frame : FrameValue) : Type 0 where
  pub hdr : length frame.hdr ≡ 10
  pub mark : frame.mark ≤ length frame.made
  pub made : length frame.made ≤ 65535

-- the bytes that a frame has
abbrev pub bytes_of : FrameValue → List ℕ
bytes_of frame = take frame.mark frame.made

-- the frame with at most this many of its bytes
abbrev pub cut_at : FrameValue → ℕ → FrameValue
cut_at frame len = record frame { mark = min frame.mark len }

-- the frame with this many bytes, as far as it was made with them
abbrev pub stretched_to : FrameValue → ℕ → FrameValue
stretched_to frame len = record frame { mark = min len (length frame.made) }
