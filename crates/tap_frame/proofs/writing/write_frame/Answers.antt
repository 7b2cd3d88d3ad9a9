use Rattle.std.proofs.Common.{refl}
use Rattle.tap_frame.specs.Frame.{bytes_of}
use Rattle.tap_frame.proofs.Written.{text-parts}
use Rattle.tap_frame.proofs.writing.write_frame.Goals as goal

pub returns : goal.returns
returns c =
    let parts = text-parts c.args.shape c.args.frame.now.hdr (bytes_of c.args.frame.now) c.args.room c.hdr.ensures.size c.requires in
    let a = c.in_ok-extend_from_slice.ensures.items in
    let b = c.in_ok-put_header.ensures in
    let d = c.in_ok-put_information.ensures in
    let f = c.in_ok-written.ensures.items in
    rw (parts, a, b, d, f, c.hdr.ensures.bytes, c.min-kept.ensures, c.least-front.ensures.least, c.bytes-bytes.ensures.bytes) refl
