use Rattle.std.proofs.Common.{◌*◌, length, arith}
use Rattle.std.specs.Result.{IsOk}
use Rattle.std.proofs.lemmas.List.{length-take-le}
use Rattle.text_fields.proofs.HexText.{hex_is_text, ok_gives}
use Rattle.text_fields.proofs.writing.digits_in.Goals as goal

pub unreachable-requires : goal.unreachable-requires
unreachable-requires c =
    let len = length-take-le (2 * length c.args.bytes.now) c.args.room.now (omega arith) in
    let ok : IsOk c.encode_to_slice.result = c.encode_to_slice.ensures.fits.1 len in
    c.in-Err.ensures.cases.0 (rw (ok_gives c.encode_to_slice.result _ ok c.encode_to_slice.ensures.written) (hex_is_text c.args.bytes.now))
