-- This project's own: a frame as it is sent or written, with its name.
use Rattle.std.specs.Prelude.{◌≡◌, ℕ, length, List, Option, None}
use Rattle.core_shared.specs.Asking.{Asking}
use Rattle.scen_words.specs.declared.command.Command.TheVariants as command
use Rattle.tap_frame.specs.Frame.{FrameValue}
use Rattle.tap_frame.specs.declared.name.Name.{Name}
use Rattle.tap_frame.specs.declared.header.Hdr.{Hdr}
use Rattle.tap_world.specs.Frames.{Front, bad_in, ether_in, header_in, sent_bytes, sent_front}
use Rattle.tap_world.specs.World.{name_of}

-- the frame that these bytes are behind this front, with all of them
abbrev pub whole_frame : Name → Front → List ℕ → FrameValue
whole_frame name front bytes = record {
  name = name;
  hdr = header_in front bytes;
  made = ether_in front bytes;
  mark = length (ether_in front bytes);
}

-- The frame is the one that the command sends to a device: its bytes were accepted, and it has all of them.
pub record Sends (a : Asking) (device : ℕ) (frame : FrameValue) : Type 0 where
  pub hdr : Option Hdr
  pub bytes : List ℕ
  pub command : a.command ≡ command.Send device hdr bytes
  pub accepted : bad_in (sent_front hdr) (sent_bytes hdr bytes) ≡ None
  pub whole : frame ≡ whole_frame (name_of a.actor a.number) (sent_front hdr) (sent_bytes hdr bytes)
