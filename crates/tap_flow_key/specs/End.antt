-- This project's own: an end of a flow as the code has it.
use Rattle.std.specs.Prelude.{ℕ, List, ◌++◌}
use Rattle.tap_flow_key.specs.declared.hash.End.{End}

-- the bytes of an end
abbrev pub bytes_of : End → List ℕ
bytes_of end = end.address.now ++ end.port.now
