-- This project's own: what the fields of a file mean.
use Rattle.tap_lines.specs.declared.side.FileSide.TheInside.{Inside}
use Rattle.tap_lines.specs.Placed.{IsPlaced, Placed}

-- the file with its frames
abbrev pub placed_of : Inside → Placed
placed_of s = record {
  file = record {
    first = s.first;
    capacity = s.capacity;
    resizes = s.resizes;
    line = s.line.line;
    epoch = s.epoch;
    shut = s.shut;
    owner = s.owner;
    hand = s.hand;
  };
  frames = s.line.frames;
}

-- what each file keeps
abbrev pub KeepsPlaced : Inside → Type 0
KeepsPlaced s = IsPlaced (placed_of s)
