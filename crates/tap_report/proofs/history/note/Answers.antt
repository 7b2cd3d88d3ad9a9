use Rattle.tap_report.proofs.Settings.{noted}
use Rattle.tap_report.proofs.history.note.Goals as goal

pub returns : goal.returns
returns c = λ all follows.
    noted c.add.result all c.args.lists.now.items c.grow.new.lists.items c.args.setting c.from-key.result c.index_mut.result.now c.add.new.list _ c.from-key.ensures
    c.in_ok-grow.ensures.same c.in_ok-grow.ensures.long c.index_mut.ensures.value c.add.ensures.found c.add.ensures.rising follows
