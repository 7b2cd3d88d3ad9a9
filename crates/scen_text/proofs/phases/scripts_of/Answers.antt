use Rattle.scen_text.specs.Before.{scripts_from}
use Rattle.scen_text.proofs.Scripts.{scripts_more}
use Rattle.std.proofs.Common.{◌≡◌, ◌++◌, ◌∷◌, [], ap, ◌∙◌}
use Rattle.scen_text.specs.Before.{script_of}
use Rattle.scen_text.proofs.phases.scripts_of.Goals as goal

pub loop-actor-init : goal.loop-actor-init
unfolding scripts_from
loop-actor-init c = cc

pub loop-actor-preserved : goal.loop-actor-preserved
loop-actor-preserved c =
    let new : c.push.new.self ≡ c.loop-actor.scripts ++ script_of c.args.lines.now c.loop-actor.actor ∷ [] =
    c.in_ok-push.ensures.ok ∙ ap (λ x. c.loop-actor.scripts ++ x ∷ []) c.in_ok-script_of.ensures in
    scripts_more _ _ c.args.lines.now c.loop-actor.actor c.loop-actor.invariant new
