use Rattle.std.proofs.Common.{◌∙◌, ap, fold, List}
use Rattle.scen_words.specs.declared.declaration.Declaration.{Declaration}
use Rattle.core_open.specs.Collected.{collected}
use Rattle.tap_world.specs.Setup.{nothing_of, with_declaration}
use Rattle.core_open.proofs.declared.collect.Goals as goal

pub returns : goal.returns
returns c =
    c.in_ok-add_all.ensures (nothing_of c.args.scenario.now) (c.in_ok-so_far.ensures c.args.scenario.now)
    ∙ ap (λ (ds : List Declaration). collected (fold with_declaration (nothing_of c.args.scenario.now) ds)) c.as_slice.ensures
