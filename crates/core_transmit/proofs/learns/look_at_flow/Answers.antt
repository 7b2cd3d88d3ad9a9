use Rattle.std.proofs.Common.{◌≡◌, ◌<◌, Bool, length, sym, ap, ◌∙◌, subst}
use Rattle.std.specs.Prelude.{if◌then◌else◌}
use Rattle.tap_steer.specs.Select.{learns}
use Rattle.tap_steer.specs.Table.{Table}
use Rattle.core_shared.specs.declared.doing.Doing.{Doing}
use Rattle.core_shared.specs.declared.doing.Doing.TheVariants as doing
use Rattle.core_transmit.proofs.Looking.{Next, looked_file, looks_did}
use Rattle.core_transmit.proofs.learns.look_at_flow.Goals as goal
use Rattle.core_transmit.proofs.learns.look_at_flow.Goals.{then-learns, else-learns}

pub learns-requires : goal.learns-requires
learns-requires c =
    subst (λ (t : Table). c.args.file < length t.files) (sym c.table.ensures) (looked_file c.requires.may.1)

pub returns : goal.returns
returns c =
    let m = c.requires.may.1 in
    let teaches = doing.Teaches c.args.vhost c.args.file c.args.chains c.args.frame in
    let goes_on = doing.Transmits c.args.vhost c.args.file c.args.chains in
    let d : Bool → Doing = λ b. if b then teaches else goes_on in
    let here : learns c.args.shared.now.ops.table c.args.file ≡ c.learns.result =
    sym (c.learns.ensures ∙ ap (λ (t : Table). learns t c.args.file) c.table.ensures) in
    let next : Next m (learns c.args.shared.now.ops.table c.args.file) c.if-learns.doing =
    elim c.if-learns.branch [
      | then-learns w ↦ w.doing-is ∙ sym (ap d (here ∙ w.if-learns.true))
      | else-learns w ↦ w.doing-is ∙ sym (ap d (here ∙ w.if-learns.false))
    ] in
    record { went = (c.requires.may.0, looks_did m c.newest-seen.result c.if-learns.doing c.newest-seen.ensures next) }
