use Rattle.std.proofs.Common.{◌≡◌, [], unwrap_or, subst, sym, ap, ◌∙◌}
use Rattle.tap_report.specs.History.{AreRising, kept, last_up_to}
use Rattle.tap_report.specs.Index.{latest}
use Rattle.tap_report.proofs.history.History.latest.Goals as goal

pub last_up_to-requires : goal.last_up_to-requires
last_up_to-requires c =
    let list : kept c.self.inside.lists.items c.args.key ≡ c.as_slice.result.now =
    ap (λ l. kept l c.args.key) (sym c.deref.ensures.value) ∙ ap (λ o. unwrap_or o []) (sym c.in-Some.ensures) ∙ sym c.as_slice.ensures in
    subst AreRising list (c.self.invariant.0.rising c.args.key)

pub returns-in-Some : goal.returns-in-Some
returns-in-Some c =
    let list : kept c.self.inside.lists.items c.args.key ≡ c.as_slice.result.now =
    ap (λ l. kept l c.args.key) (sym c.deref.ensures.value) ∙ ap (λ o. unwrap_or o []) (sym c.in-Some.ensures) ∙ sym c.as_slice.ensures in
    c.last_up_to.ensures ∙ ap (last_up_to c.args.seen) (sym list) ∙ c.self.invariant.0.found c.args.key c.args.seen ∙ ap (λ a. latest a c.args.key c.args.seen) c.self.view_is

pub returns-in-None : goal.returns-in-None
returns-in-None c =
    let list : kept c.self.inside.lists.items c.args.key ≡ [] =
    ap (λ l. kept l c.args.key) (sym c.deref.ensures.value) ∙ ap (λ o. unwrap_or o []) (sym c.in-None.ensures) in
    ap (last_up_to c.args.seen) (sym list) ∙ c.self.invariant.0.found c.args.key c.args.seen ∙ ap (λ a. latest a c.args.key c.args.seen) c.self.view_is
