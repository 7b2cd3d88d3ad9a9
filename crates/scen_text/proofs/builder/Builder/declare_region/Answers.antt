use Rattle.std.proofs.Common.{◌≡◌, Some, None, [], ◌∷◌, ◌++◌, sym, ap, ◌∙◌}
use Rattle.guest_mem.specs.Regions.{refusal}
use Rattle.scen_text.specs.Refusals.{regions_of}
use Rattle.scen_words.specs.Commands.{u16_at, u64_at}
use Rattle.scen_text.specs.Building.{standing, with_declaration}
use Rattle.scen_words.specs.declared.declaration.Declaration.{Declaration}
use Rattle.scen_words.specs.declared.word.DeclarationWord.TheVariants as declaration
use Rattle.scen_text.proofs.Steps.{hears_declaration, region_fault_of, region_good, region_refused}
use Rattle.scen_text.proofs.builder.Builder.declare_region.Goals as goal

pub returns-in-Some : goal.returns-in-Some
returns-in-Some c =
    let t : region_fault_of (standing c.args.self.now) c.args.values.now ≡ Some c.in-Some.fault = sym (c.in_ok-fault.ensures ∙ ap (λ ds. refusal (regions_of (u16_at c.args.values.now 0) ds ++ record { addr = u64_at c.args.values.now 1; len = u64_at c.args.values.now 2 } ∷ [])) c.as_slice.ensures) ∙ c.in-Some.is in region_refused (standing c.args.self.now) c.args.last c.args.values.now c.in-Some.fault c.requires t

pub returns : goal.returns
returns c =
    let t : region_fault_of (standing c.args.self.now) c.args.values.now ≡ None = sym (c.in_ok-fault.ensures ∙ ap (λ ds. refusal (regions_of (u16_at c.args.values.now 0) ds ++ record { addr = u64_at c.args.values.now 1; len = u64_at c.args.values.now 2 } ∷ [])) c.as_slice.ensures) ∙ c.in_default.is in (
      region_good (standing c.args.self.now) c.args.last c.args.values.now c.requires t,
      hears_declaration c.args.self.now c.add_declaration.new.self declaration.Region c.args.values.now
          (c.in_ok-add_declaration.ensures.standing ∙ ap (λ (d : Declaration). with_declaration (standing c.args.self.now) d None) c.region.ensures) c.in_ok-add_declaration.ensures.phases,
    )
