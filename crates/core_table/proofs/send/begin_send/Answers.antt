use Rattle.core_table.proofs.Sends as lemmas
use Rattle.core_table.proofs.send.begin_send.Goals as goal

pub returns-in-Err : goal.returns-in-Err
returns-in-Err c = record {
  went = lemmas.bad_found c.args.asked.now c.args.shared.now c.args.device c.args.hdr c.args.bytes.now c.in-Err.bad
      c.newest.result c.end_bad.result c.requires.may c.requires.command c.in-Err.ensures.refused c.newest.ensures
      c.end_bad.ensures.ends c.end_bad.ensures.case;
}
