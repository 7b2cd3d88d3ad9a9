-- This project's own: what ties spelling, cases and text together.
use Rattle.std.specs.Prelude.{◌≡◌, ℕ, ◌+◌, ◌≤◌, List, length, take, None, IsSome}
use Rattle.tap_frame.specs.declared.shape.Shape.{Shape}
use Rattle.tap_frame.specs.Frame.{FrameValue, bytes_of, cut_at, stretched_to}
use Rattle.tap_frame.specs.Spelling.{Spelled, first_case}
use Rattle.tap_frame.specs.Text.{least_room, text}

-- bytes of which no case holds spell some frame
abbrev pub FaultlessIsSpelled : Type 0
FaultlessIsSpelled = (shape : Shape) (bytes : List ℕ)
    → first_case shape bytes ≡ None
    → (hdr : List ℕ) × (ether : List ℕ) × Spelled shape bytes hdr ether

-- of bytes that spell a frame no case holds
abbrev pub SpelledIsFaultless : Type 0
SpelledIsFaultless = (shape : Shape) (bytes hdr ether : List ℕ)
    → Spelled shape bytes hdr ether
    → first_case shape bytes ≡ None

-- bytes spell one frame with one header
abbrev pub SpelledOnce : Type 0
SpelledOnce = (shape : Shape) (bytes hdr ether hdr' ether' : List ℕ)
    → Spelled shape bytes hdr ether
    → Spelled shape bytes hdr' ether'
    → (hdr ≡ hdr') × (ether ≡ ether')

-- Where the room holds the whole text and no case holds of it, it spells the frame again, and its
-- header where the shape has one.
abbrev pub TextSpellsFrame : Type 0
TextSpellsFrame = (shape : Shape) (hdr ether : List ℕ) (room : ℕ)
    → length hdr ≡ 10
    → least_room shape + length ether ≤ room
    → first_case shape (text shape hdr ether room) ≡ None
    → (hdr' : List ℕ) × Spelled shape (text shape hdr ether room) hdr' ether × (IsSome shape.hdr → hdr' ≡ hdr)

-- a frame that was cut and then stretched has as many of its first bytes as the stretch says
abbrev pub StretchedAfterCut : Type 0
StretchedAfterCut = (frame : FrameValue) (kept len : ℕ)
    → bytes_of (stretched_to (cut_at frame kept) len) ≡ take len frame.made
