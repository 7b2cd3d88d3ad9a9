use Rattle.std.proofs.Common.{refl}
use Rattle.trace_words.specs.Answers.{chain_line}
use Rattle.trace_words.proofs.Loops.{text_more}
use Rattle.trace_words.proofs.answers.put_chains.Goals as goal

pub loop-chain-preserved : goal.loop-chain-preserved
loop-chain-preserved c = text_more chain_line _ _ _ c.args.chains.now c.loop-chain.chain-index _ _ c.loop-chain-test.true refl c.loop-chain.invariant c.in_ok-put_chain.ensures
