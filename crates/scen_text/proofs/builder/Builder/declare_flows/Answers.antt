use Rattle.std.proofs.Common.{◌≡◌, true, false, ap, ◌∙◌}
use Rattle.std.specs.List.{list_any}
use Rattle.std.specs.Option.{option_copied}
use Rattle.scen_text.specs.Refusals.{is_flows, passes_names}
use Rattle.scen_words.specs.Commands.{declaration_of, declared_name}
use Rattle.scen_text.specs.Building.{standing, with_declaration}
use Rattle.scen_text.specs.Before.{number_for}
use Rattle.scen_words.specs.declared.declaration.Declaration.{Declaration}
use Rattle.scen_words.specs.declared.word.DeclarationWord.TheVariants as declaration
use Rattle.scen_text.proofs.Steps.{flows_good, flows_limit, flows_name, flows_twice, hears_declaration}
use Rattle.scen_text.proofs.builder.Builder.declare_flows.Goals as goal

pub returns-then-has_flows : goal.returns-then-has_flows
returns-then-has_flows c = let t : list_any (is_flows (flows_name (standing c.args.self.now) c.args.values.now)) c.args.self.now.declarations ≡ true = cc in flows_twice (standing c.args.self.now) c.args.last c.args.values.now c.requires t

pub returns-then-passes_names : goal.returns-then-passes_names
returns-then-passes_names c =
    let t : list_any (is_flows (flows_name (standing c.args.self.now) c.args.values.now)) c.args.self.now.declarations ≡ false = cc in
    let g : passes_names c.args.self.now.names (declared_name declaration.Flows c.args.values.now) ≡ true = cc in
    flows_limit (standing c.args.self.now) c.args.last c.args.values.now c.requires t g

pub returns : goal.returns
returns c =
    let t : list_any (is_flows (flows_name (standing c.args.self.now) c.args.values.now)) c.args.self.now.declarations ≡ false = cc in
    let g : passes_names c.args.self.now.names (declared_name declaration.Flows c.args.values.now) ≡ false = cc in
    let made : c.flows.result ≡ declaration_of (number_for c.args.self.now.names (declared_name declaration.Flows c.args.values.now)) declaration.Flows c.args.values.now = cc in
    let name : option_copied c.declared_name-device.result ≡ (declared_name declaration.Flows c.args.values.now) = cc in (
      flows_good (standing c.args.self.now) c.args.last c.args.values.now c.requires t g,
      hears_declaration c.args.self.now c.add_declaration.new.self declaration.Flows c.args.values.now
          (c.in_ok-add_declaration.ensures.standing ∙ ap (λ (d : Declaration). with_declaration (standing c.args.self.now) d (option_copied c.declared_name-device.result)) made
          ∙ ap (with_declaration (standing c.args.self.now) (declaration_of (number_for c.args.self.now.names (declared_name declaration.Flows c.args.values.now)) declaration.Flows c.args.values.now)) name)
          c.in_ok-add_declaration.ensures.phases,
    )
