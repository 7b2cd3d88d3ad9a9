use Rattle.std.proofs.Common.{sym}
use Rattle.trace_text.proofs.Pieces.{last_piece, piece_at}
use Rattle.trace_text.proofs.input.next_piece.Goals as goal

pub returns-in-Some : goal.returns-in-Some
returns-in-Some c = piece_at c.args.bytes.now c.in-Some.place c.in-Some.ensures.within (sym c.in-Some.ensures.place)

pub returns-in-None : goal.returns-in-None
returns-in-None c = last_piece c.args.bytes.now (sym c.if-is_empty.ensures) (sym c.in-None.ensures.place)
