use Rattle.scen_text.proofs.Steps.{hears_line_err, hears_line_ok}
use Rattle.scen_text.proofs.builder.Builder.hear.Goals as goal

pub returns-in-Ok : goal.returns-in-Ok
returns-in-Ok c =
    hears_line_ok c.args.version c.args.line.now c.args.last c.args.self.now c.take.new.self c.in-Ok.sentence c.take.result c.in-Ok.ensures c.take.ensures

pub returns-in-Err : goal.returns-in-Err
returns-in-Err c = hears_line_err c.args.version c.args.line.now c.args.last c.args.self.now c.args.self.now c.in-Err.error c.in-Err.ensures
