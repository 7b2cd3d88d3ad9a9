use Rattle.std.proofs.Common.{string_bytes}
use Rattle.std.proofs.lemmas.Result.{IfOk-equal}
use Rattle.trace_words.proofs.Spaced.{harvest_written}
use Rattle.trace_words.proofs.answers.put_answer_text.Goals as goal

pub returns-in_ok-push_str-in-Harvested : goal.returns-in_ok-push_str-in-Harvested
returns-in_ok-push_str-in-Harvested c =
    IfOk-equal c.put_harvested.result _ _ _ c.put_harvested.ensures
    (harvest_written (string_bytes c.args.out.now) _ c.args.answer.now c.in-Harvested.chains c.as_slice-in-Harvested.result.now c.in-Harvested.is c.as_slice-in-Harvested.ensures
    c.in_ok-push_str-in-Harvested.ensures.bytes)
