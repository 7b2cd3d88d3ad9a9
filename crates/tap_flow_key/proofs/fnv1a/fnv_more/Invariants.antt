use Rattle.std.proofs.Common.{◌≡◌, fold, drop}
use Rattle.tap_flow_key.specs.Fnv.{fnv_step}
use Rattle.tap_flow_key.proofs.fnv1a.fnv_more.Given as goal

-- the bytes that are left give the hash of all
abbrev pub invariant-loop-byte : goal.invariant-loop-byte
invariant-loop-byte l = fold fnv_step l.hash (drop l.byte-index l.bytes) ≡ fold fnv_step l.fn.hash l.bytes
