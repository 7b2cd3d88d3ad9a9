use Rattle.std.proofs.Common.{IfSome, Option, subst}
use Rattle.trace_words.specs.Said.{Says}
use Rattle.trace_words.specs.declared.said.Said.{Said}
use Rattle.trace_text.proofs.Exits.{taken_or}
use Rattle.trace_text.proofs.reading.take_line.Goals as goal

pub returns : goal.returns
returns c =
    let P : Option Said → Type 0 = λ o. IfSome o (λ s. Says c.args.line.now s) in
    taken_or c.said_laws.ensures.one c.args.builder.now c.args.line.now c.in-Some.said c.in_ok-taken.taken c.take.new.self (subst P c.in-Some.is c.in_ok-said.ensures.found) c.in_ok-taken.ensures
