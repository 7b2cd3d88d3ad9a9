use Rattle.std.proofs.Common.{◌≡◌, true, false, sym, ap, ◌∙◌}
use Rattle.tap_report.specs.History.{is_hidden}
use Rattle.tap_report.proofs.Settings.{pushed_rising, shorter}
use Rattle.tap_report.proofs.history.add.Goals as goal

pub loop-list-preserved : goal.loop-list-preserved
loop-list-preserved c =
    let hidden : is_hidden c.loop-list.list c.args.setting.version ≡ true =
    ap (λ l. is_hidden l c.args.setting.version) (sym c.as_slice.ensures) ∙ sym c.is_hidden.ensures ∙ c.loop-list-test.true in
    let step = shorter c.pop.result c.loop-list.list c.pop.new.self c.args.setting.version c.pop.ensures hidden in
    (λ seen early. step.0 seen early ∙ c.loop-list.invariant.0 seen early, λ rises. step.1 (c.loop-list.invariant.1 rises))

pub returns-clause-rising : goal.returns-clause-rising
returns-clause-rising c =
    let free : is_hidden c.loop-list.list c.args.setting.version ≡ false =
    ap (λ l. is_hidden l c.args.setting.version) (sym c.as_slice.ensures) ∙ sym c.is_hidden.ensures ∙ c.loop-list-test.false in
    λ rises. pushed_rising c.push.result c.push.new.self c.loop-list.list c.args.setting c.push.ensures.ok free (c.loop-list.invariant.1 rises)
