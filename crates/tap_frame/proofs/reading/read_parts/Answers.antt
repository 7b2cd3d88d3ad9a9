use Rattle.std.proofs.Common.{◌≡◌, List, ℕ, ◌++◌, drop_at, sym, subst}
use Rattle.tap_frame.specs.Spelling.{Spelled, header_in, behind_header}
use Rattle.tap_frame.specs.Text.{least_room}
use Rattle.tap_frame.proofs.Cases.{accepted_spells}
use Rattle.tap_frame.proofs.reading.read_parts.Goals as goal

pub returns-clause-spelled : goal.returns-clause-spelled
returns-clause-spelled c =
    let shape = c.args.shape in
    let front : List ℕ = c.args.front.now in
    let ether : List ℕ = c.deref.result.now in
    let made : ether ≡ behind_header shape (front ++ ether) =
    sym (drop_at front ether (least_room shape) c.in_ok-hdr.ensures.room) in
    rw (c.new.ensures, c.in_ok-hdr.ensures.hdr, ← c.deref.ensures.value)
    (subst (λ (e : List ℕ). Spelled shape (front ++ ether) (header_in shape (front ++ ether)) e) (sym made)
    (accepted_spells shape (front ++ ether) c.in_ok-hdr.ensures.accepted))

pub returns-clause-behind : goal.returns-clause-behind
returns-clause-behind c =
    rw (c.new.ensures, ← c.deref.ensures.value)
    (sym (drop_at c.args.front.now c.deref.result.now (least_room c.args.shape) c.in_ok-hdr.ensures.room))
