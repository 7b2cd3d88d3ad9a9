use Rattle.std.proofs.Common.{refl, rules}
use Rattle.tap_top.specs.Top.IsReply.{Good, Refused}
use Rattle.tap_top.proofs.Promised.{headline}
use Rattle.tap_top.proofs.top.reply_to.Goals as goal

-- what is read is laid
pub serve-requires-clause-laid : goal.serve-requires-clause-laid
serve-requires-clause-laid c = c.read_is_laid.ensures c.args.bytes.now c.in-Ok.scenario c.in-Ok.ensures.found

pub returns-in_ok-serve-in-Ok : goal.returns-in_ok-serve-in-Ok
returns-in_ok-serve-in-Ok c =
    let laid = c.read_is_laid.ensures c.args.bytes.now c.in-Ok.scenario c.in-Ok.ensures.found in
    Good c.requires.read c.in-Ok.scenario c.in-Ok.ensures.found
    (headline c.args.request c.in-Ok.scenario laid c.plain_runs_are_sound.ensures c.plain_traces.ensures.upgrade) c.in_ok-serve-in-Ok.ensures refl

pub returns-in_ok-refusal_line-in-Err-Fault : goal.returns-in_ok-refusal_line-in-Err-Fault
returns-in_ok-refusal_line-in-Err-Fault c =
    Refused c.requires.read c.in-Err-Fault.fault (rw c.in-Err-Fault.field-0-is at c.in-Err-Fault.ensures.refused) (first_of (cc, search rules)) refl
