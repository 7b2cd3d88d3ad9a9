use Rattle.std.proofs.Common.{[], refl, arith}
use Rattle.std.proofs.lemmas.Grind.{put_two}
use Rattle.hex.specs.Hex.{encode_with}
use Rattle.text_fields.proofs.HexText.{last_written, piece_written}
use Rattle.text_fields.proofs.writing.LowerHexDisplay.fmt.Goals as goal

pub loop-at-init : goal.loop-at-init
unfolding encode_with
loop-at-init g c = (omega arith, λ p. record { wrote = record { parts = []; calls = refl; whole = refl }; plain = p })

pub loop-at-preserved : goal.loop-at-preserved
loop-at-preserved g c = (
  omega arith,
  λ p. put_two _ _ _ _ _ _ _ (c.loop-at.invariant.1 p) (c.in_ok-write_str.ensures.writes (c.loop-at.invariant.1 p).plain refl)
      (piece_written c.args.self.now.bytes.now c.digits_in.result.now c.loop-at.at 32 _ (omega arith) c.digits_in.ensures),
)

pub returns-clause-writes : goal.returns-clause-writes
returns-clause-writes g c = λ p ok. put_two _ _ _ _ _ _ _ (c.loop-at.invariant.1 p) (c.write_str-2.ensures.writes (c.loop-at.invariant.1 p).plain ok)
    (last_written c.args.self.now.bytes.now c.digits_in-2.result.now c.loop-at.at c.loop-at.invariant.0 c.digits_in-2.ensures)
