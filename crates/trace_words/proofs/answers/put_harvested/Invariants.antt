use Rattle.std.proofs.Common.{◌≡◌, ◌++◌, ◌∷◌, take, string_bytes}
use Rattle.std.specs.List.{flat_map}
use Rattle.trace_causes.specs.Values.{harvested}
use Rattle.trace_words.proofs.answers.put_harvested.Given as goal

abbrev pub invariant-loop-id : goal.invariant-loop-id
invariant-loop-id l = string_bytes l.out ≡ string_bytes l.fn.out ++ flat_map (λ e. 32 ∷ harvested e) (take l.id-index l.chains)
