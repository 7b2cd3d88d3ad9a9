use Rattle.scen_text.proofs.Lines.{heard_all, heard_error, heard_step, room_next}
use Rattle.scen_text.proofs.reading.read_lines.Goals as goal

pub lines-preserved : goal.lines-preserved
lines-preserved c = record {
  room = room_next c.lines.number c.lines.next c.next-next-in-Some.result c.in-Some.line c.lines.lines c.next-next-in-Some.new.self c.in-Some.is
      c.lines.invariant.room c.next-next-in-Some.ensures;
  heard = heard_step c.args.version c.lines.number c.lines.next c.next-next-in-Some.result c.in-Some.line c.lines.lines c.next-next-in-Some.new.self c.args.lines
      c.is_none.result c.lines.builder c.hear.new.self _ c.in-Some.is c.next-next-in-Some.ensures c.is_none.ensures c.lines.invariant.heard.0 c.lines.invariant.heard.1
      c.in-Ok.ensures;
}

pub returns-in-Err : goal.returns-in-Err
returns-in-Err c =
    rw c.at_line.ensures (heard_error c.args.version c.lines.number c.lines.next c.next-next-in-Some.result c.in-Some.line c.lines.lines c.next-next-in-Some.new.self
    c.args.lines c.is_none.result c.lines.builder c.hear.new.self _ c.in-Some.is c.next-next-in-Some.ensures c.is_none.ensures c.lines.invariant.heard.0
    c.lines.invariant.heard.1 c.in-Err.ensures)

pub returns : goal.returns
returns c = (
  c.lines.invariant.heard.0,
  heard_all c.args.version _ c.args.lines c.lines.invariant.heard.0 (rw c.in_default.is at c.lines.invariant.heard.1.gives),
  c.lines.invariant.heard.1.keeps,
)
