use Rattle.std.proofs.Common.{◌≡◌, true, false, None, ap, ◌∙◌}
use Rattle.std.specs.List.{list_any}
use Rattle.scen_text.specs.Refusals.{is_file}
use Rattle.scen_words.specs.Commands.{u16_at}
use Rattle.scen_text.specs.Building.{standing, with_declaration}
use Rattle.scen_words.specs.declared.declaration.Declaration.{Declaration}
use Rattle.scen_words.specs.declared.word.DeclarationWord.TheVariants as declaration
use Rattle.scen_text.proofs.Steps.{file_good, file_twice, hears_declaration}
use Rattle.scen_text.proofs.builder.Builder.declare_file.Goals as goal

pub returns-then-has_file : goal.returns-then-has_file
returns-then-has_file c = let t : list_any (is_file (u16_at c.args.values.now 0)) c.args.self.now.declarations ≡ true = cc in file_twice (standing c.args.self.now) c.args.last c.args.values.now c.requires t

pub returns : goal.returns
returns c =
    let t : list_any (is_file (u16_at c.args.values.now 0)) c.args.self.now.declarations ≡ false = cc in (
      file_good (standing c.args.self.now) c.args.last c.args.values.now c.requires t,
      hears_declaration c.args.self.now c.add_declaration.new.self declaration.File c.args.values.now
          (c.in_ok-add_declaration.ensures.standing ∙ ap (λ (d : Declaration). with_declaration (standing c.args.self.now) d None) c.file.ensures) c.in_ok-add_declaration.ensures.phases,
    )
