use Rattle.std.proofs.Common.{refl, sym, ◌∙◌}
use Rattle.scen_text.proofs.Steps.{number_begins, number_found, number_next, number_none}
use Rattle.scen_text.proofs.naming.number_among.Goals as goal

pub loop-place-init : goal.loop-place-init
loop-place-init c = number_begins c.args.names.now c.args.name.now

pub loop-place-preserved : goal.loop-place-preserved
loop-place-preserved c =
    number_next c.args.names.now c.args.name.now c.index-names-place.result c.loop-place.place c.loop-place-test.true c.index-names-place.is
    (sym c.is_same.ensures ∙ c.if-is_same.false) c.loop-place.invariant

pub returns-then-is_same-clause-value : goal.returns-then-is_same-clause-value
returns-then-is_same-clause-value c =
    number_found c.args.names.now c.args.name.now c.index-names-place.result c.loop-place.place c.loop-place-test.true c.index-names-place.is
    (sym c.is_same.ensures ∙ c.if-is_same.true) c.loop-place.invariant

pub returns-clause-value : goal.returns-clause-value
returns-clause-value c = number_none c.args.names.now c.args.name.now c.loop-place.place _ refl c.loop-place-test.false c.loop-place.invariant
