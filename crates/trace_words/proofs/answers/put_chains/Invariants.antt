use Rattle.std.proofs.Common.{◌≡◌, ◌++◌, take, map, string_bytes}
use Rattle.scen_words.specs.Field.{text}
use Rattle.trace_words.specs.Answers.{chain_line}
use Rattle.trace_words.proofs.answers.put_chains.Given as goal

abbrev pub invariant-loop-chain : goal.invariant-loop-chain
invariant-loop-chain l = string_bytes l.out ≡ string_bytes l.fn.out ++ text (map chain_line (take l.chain-index l.chains))
