use Rattle.std.proofs.Common.{◌≡◌, true, false, None, ap, ◌∙◌}
use Rattle.std.specs.List.{list_any}
use Rattle.scen_text.specs.Refusals.{is_guest, is_vhost}
use Rattle.scen_words.specs.Commands.{u16_at}
use Rattle.scen_text.specs.Building.{standing, with_declaration}
use Rattle.scen_words.specs.declared.declaration.Declaration.{Declaration}
use Rattle.scen_words.specs.declared.word.DeclarationWord.TheVariants as declaration
use Rattle.scen_text.proofs.Steps.{hears_declaration, vhost_good, vhost_twice, vhost_unknown}
use Rattle.scen_text.proofs.builder.Builder.declare_vhost.Goals as goal

pub returns-then-has_vhost : goal.returns-then-has_vhost
returns-then-has_vhost c = let t : list_any (is_vhost (u16_at c.args.values.now 0)) c.args.self.now.declarations ≡ true = cc in vhost_twice (standing c.args.self.now) c.args.last c.args.values.now c.requires t

pub returns-then-not-has_guest : goal.returns-then-not-has_guest
returns-then-not-has_guest c =
    let t : list_any (is_vhost (u16_at c.args.values.now 0)) c.args.self.now.declarations ≡ false = cc in
    let g : list_any (is_guest (u16_at c.args.values.now 1)) c.args.self.now.declarations ≡ false = cc in
    vhost_unknown (standing c.args.self.now) c.args.last c.args.values.now c.requires t g

pub returns : goal.returns
returns c =
    let t : list_any (is_vhost (u16_at c.args.values.now 0)) c.args.self.now.declarations ≡ false = cc in
    let g : list_any (is_guest (u16_at c.args.values.now 1)) c.args.self.now.declarations ≡ true = cc in (
      vhost_good (standing c.args.self.now) c.args.last c.args.values.now c.requires t g,
      hears_declaration c.args.self.now c.add_declaration.new.self declaration.Vhost c.args.values.now
          (c.in_ok-add_declaration.ensures.standing ∙ ap (λ (d : Declaration). with_declaration (standing c.args.self.now) d None) c.vhost.ensures) c.in_ok-add_declaration.ensures.phases,
    )
