use Rattle.std.proofs.Common.{sym, ◌∙◌}
use Rattle.trace_words.specs.AnswerReading.{chains_of}
use Rattle.trace_words.proofs.ChainSteps.{goes_on, is_done, stops}
use Rattle.trace_words.proofs.answer_reading.chains.Goals as goal

pub returns-in_default-harvested_of : goal.returns-in_default-harvested_of
returns-in_default-harvested_of c =
    stops c.loop-field.chains c.loop-field.left c.next.new.self c.in-Some.field.now (chains_of c.args.fields) c.in-Some.ensures
    (sym c.harvested_of.ensures ∙ c.in_default-harvested_of.is) c.loop-field.invariant

pub loop-field-preserved : goal.loop-field-preserved
loop-field-preserved c =
    rw c.in_ok-push.ensures.ok
    (goes_on c.loop-field.chains c.loop-field.left c.next.new.self c.in-Some.field.now c.in-Some-harvested_of.chain (chains_of c.args.fields) c.in-Some.ensures
    (sym c.harvested_of.ensures ∙ c.in-Some-harvested_of.is) c.loop-field.invariant)

pub returns : goal.returns
returns c = is_done c.loop-field.chains c.loop-field.left (chains_of c.args.fields) c.in_default.ensures.0 c.loop-field.invariant
