use Rattle.std.proofs.Common.{sym, ap, ◌∙◌}
use Rattle.std.specs.Ordering.{nat_cmp, ordering_then}
use Rattle.std.specs.Cmp.Lexicographic.{slice_cmp}
use Rattle.tap_flow_key.proofs.KeyLemmas.{slice_cmp-append, decided}
use Rattle.tap_flow_key.proofs.hash.compare.Goals as goal

-- equal addresses leave the order to the ports
pub returns-in-Equal : goal.returns-in-Equal
returns-in-Equal c =
    let x = c.args.first in
    let y = c.args.second in
    c.cmp-in-Equal.ensures ∙ ap (λ o. ordering_then o (slice_cmp nat_cmp x.port.now y.port.now)) (sym c.in-Equal.is ∙ c.cmp.ensures)
    ∙ sym (slice_cmp-append x.address.now y.address.now x.port.now y.port.now c.requires)

pub returns-in_default : goal.returns-in_default
returns-in_default c =
    let x = c.args.first in
    let y = c.args.second in
    decided c.cmp.result (slice_cmp nat_cmp x.port.now y.port.now) c.in_default.not-Equal
    ∙ ap (λ o. ordering_then o (slice_cmp nat_cmp x.port.now y.port.now)) c.cmp.ensures
    ∙ sym (slice_cmp-append x.address.now y.address.now x.port.now y.port.now c.requires)
