use Rattle.std.proofs.Common.{◌≡◌, ◌||◌, List, ℕ, ◌∙◌, ap, sym, true, false, [], rules}
use Rattle.std.specs.Str.{bytes_eq}
use Rattle.trace_text.specs.BadLine.{is_line, pieces}
use Rattle.trace_text.proofs.Pieces.{behind_less, passed_more, split_at, stops_at, stops_none}
use Rattle.trace_text.proofs.input.split_at_line.Goals as goal
use Rattle.trace_text.proofs.input.split_at_line.Goals.{in-Some+then-is_line, in_default}

pub pieces-smaller : goal.pieces-smaller
pieces-smaller c = behind_less c.pieces.rest.now c.in-Some.piece.now c.in-Some.behind.now c.in-Some.ensures

pub pieces-preserved : goal.pieces-preserved
pieces-preserved c =
    let other : is_line c.args.plain.now c.in-Some.piece.now ≡ false = ap (λ (w : List ℕ). bytes_eq c.in-Some.piece.now c.args.plain.now || bytes_eq c.in-Some.piece.now w) (sym c.requires) ∙ sym c.if-is_line.ensures in
    passed_more c.args.plain.now c.args.bytes.now c.pieces.rest.now c.in-Some.piece.now c.in-Some.behind.now c.pieces.invariant c.in-Some.ensures other

pub returns : goal.returns
returns c = split_at c.args.plain.now c.args.bytes.now c.pieces.rest.now c.pieces.invariant
    (elim c.match-next_piece.branch [
      | in-Some+then-is_line w ↦
          let this : is_line c.args.plain.now w.in-Some.piece.now ≡ true = ap (λ (v : List ℕ). bytes_eq w.in-Some.piece.now c.args.plain.now || bytes_eq w.in-Some.piece.now v) (sym c.requires) ∙ sym w.if-is_line.ensures in
          stops_at c.args.plain.now c.pieces.rest.now w.in-Some.piece.now w.in-Some.behind.now w.in-Some.ensures this
      | in_default w ↦
          let none : pieces c.pieces.rest.now ≡ [] = search rules in
          stops_none c.args.plain.now c.pieces.rest.now none
    ])
