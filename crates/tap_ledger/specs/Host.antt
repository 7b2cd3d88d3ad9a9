-- This project's own: where the frames go that a guest sends.
use Rattle.std.specs.Prelude.{ℕ, ◌-◌, map, List, [], ◌∷◌, ◌++◌}
use Rattle.tap_frame.specs.Frame.{FrameValue}
use Rattle.tap_ledger.specs.declared.fate.Fate.TheVariants.{Host}
use Rattle.tap_ledger.specs.declared.hand.OutFrame.{OutFrame}
use Rattle.tap_ledger.specs.Queue.{out_with}

-- what a host is to a contract
pub record HostState : Type 0 where
  -- the frames that it was given, in their order
  pub given : List FrameValue
  -- how many more it takes
  pub room : ℕ

-- the host with one more frame
abbrev pub with_given : FrameValue → HostState → HostState
with_given frame host = record { given = host.given ++ frame ∷ []; room = host.room - 1 }

-- the frames that it was given, with their fate
abbrev pub out_at : HostState → List OutFrame
out_at host = map (out_with Host) host.given
