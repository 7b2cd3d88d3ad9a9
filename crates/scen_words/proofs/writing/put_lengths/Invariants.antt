use Rattle.std.proofs.Common.{◌≡◌, ◌++◌, ◌∷◌, take, string_bytes}
use Rattle.std.specs.Fmt.{decimal}
use Rattle.std.specs.List.{flat_map}
use Rattle.scen_words.proofs.writing.put_lengths.Given as goal

abbrev pub invariant-loop-len : goal.invariant-loop-len
invariant-loop-len l = string_bytes l.out ≡ string_bytes l.fn.out ++ flat_map (λ n. 32 ∷ decimal n) (take l.len-index l.lens)
