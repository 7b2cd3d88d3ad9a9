use Rattle.tap_report.proofs.Firsts.{noted_first}
use Rattle.tap_report.proofs.history.note_first.Goals as goal

pub returns : goal.returns
returns c = λ all keeps.
    noted_first all c.args.firsts.now.items c.grow_firsts.new.firsts.items c.args.setting c.from-key.result c.index-first.result.now c.or.result _ c.from-key.ensures
    keeps c.in_ok-grow_firsts.ensures.same c.in_ok-grow_firsts.ensures.long c.index-first.ensures c.or.ensures
