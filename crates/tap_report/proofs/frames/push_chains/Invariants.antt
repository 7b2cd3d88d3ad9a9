use Rattle.std.proofs.Common.{◌≡◌, ◌++◌, take}
use Rattle.std.specs.List.{flat_map}
use Rattle.tap_report.specs.Frames.{chain_frames}
use Rattle.tap_report.proofs.frames.push_chains.Given as goal

abbrev pub invariant-loop-chain : goal.invariant-loop-chain
invariant-loop-chain l = l.out ≡ l.fn.out ++ flat_map (chain_frames l.device) (take l.chain-index l.chains)
