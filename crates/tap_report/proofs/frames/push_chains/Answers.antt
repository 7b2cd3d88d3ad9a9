use Rattle.std.proofs.Common.{refl}
use Rattle.tap_report.specs.Frames.{chain_frames}
use Rattle.tap_report.proofs.Loops.{appended}
use Rattle.tap_report.proofs.frames.push_chains.Goals as goal

pub loop-chain-preserved : goal.loop-chain-preserved
loop-chain-preserved c = appended (chain_frames c.args.device) c.args.out.now _ _ c.args.chains.now c.loop-chain.chain-index _ _ c.loop-chain-test.true refl c.loop-chain.invariant c.in_ok-push_chain.ensures
