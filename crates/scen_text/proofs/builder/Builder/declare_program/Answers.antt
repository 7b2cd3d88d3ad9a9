use Rattle.std.proofs.Common.{◌≡◌, true, false, None, ap, ◌∙◌}
use Rattle.std.specs.List.{list_any}
use Rattle.scen_text.specs.Refusals.{is_program}
use Rattle.scen_words.specs.Commands.{u16_at}
use Rattle.scen_text.specs.Building.{standing, with_declaration}
use Rattle.scen_words.specs.declared.declaration.Declaration.{Declaration}
use Rattle.scen_words.specs.declared.word.DeclarationWord.TheVariants as declaration
use Rattle.scen_text.proofs.Steps.{hears_declaration, program_good, program_refused, program_twice}
use Rattle.scen_text.proofs.builder.Builder.declare_program.Goals as goal

pub returns-then-has_program : goal.returns-then-has_program
returns-then-has_program c = let t : list_any (is_program (u16_at c.args.values.now 0)) c.args.self.now.declarations ≡ true = cc in program_twice (standing c.args.self.now) c.args.last c.args.values.now c.requires t

pub returns-in-Err-Fault : goal.returns-in-Err-Fault
returns-in-Err-Fault c =
    let t : list_any (is_program (u16_at c.args.values.now 0)) c.args.self.now.declarations ≡ false = cc in
    program_refused (standing c.args.self.now) c.args.last c.args.values.now c.in-Err-Fault.fault c.requires t (rw c.in-Err-Fault.field-0-is at c.in-Err-Fault.ensures.refused)

pub returns-in_ok-add_declaration-in-Ok : goal.returns-in_ok-add_declaration-in-Ok
returns-in_ok-add_declaration-in-Ok c =
    let t : list_any (is_program (u16_at c.args.values.now 0)) c.args.self.now.declarations ≡ false = cc in (
      program_good (standing c.args.self.now) c.args.last c.args.values.now c.requires t c.in-Ok.ensures.sound,
      hears_declaration c.args.self.now c.add_declaration.new.self declaration.Prog c.args.values.now
          (c.in_ok-add_declaration-in-Ok.ensures.standing ∙ ap (λ (d : Declaration). with_declaration (standing c.args.self.now) d None) c.in-Ok.ensures.accepted) c.in_ok-add_declaration-in-Ok.ensures.phases,
    )
