use Rattle.std.proofs.Common.{◌≡◌, List, ℕ, arith}
use Rattle.std.proofs.lemmas.Slice.{between_to_end}
use Rattle.tap_frame.specs.Spelling.{behind_header}
use Rattle.tap_frame.proofs.Cases.{accepted_spells}
use Rattle.tap_frame.proofs.reading.read_frame.Goals as goal

pub returns-clause-spelled : goal.returns-clause-spelled
returns-clause-spelled c =
    let shape = c.args.shape in
    let bytes : List ℕ = c.args.bytes.now in
    let made : c.in_ok-made.made.items ≡ behind_header shape bytes = rw (c.in_ok-made.ensures.items, c.least.ensures.least) (between_to_end bytes _ _ (omega arith)) in
    rw (c.new.ensures, made, c.in_ok-hdr.ensures.hdr) (accepted_spells shape bytes c.in_ok-hdr.ensures.accepted)
