use Rattle.std.proofs.Common.{◌∙◌, ap, Some}
use Rattle.std.specs.Prelude.{option_map, slice_get}
use Rattle.scen_words.specs.declared.command.Command.{Command}
use Rattle.tap_world.specs.Project.{words_of}
use Rattle.tap_world.specs.Setup.{setup_of}
use Rattle.tap_told.proofs.Declared.{command_is}
use Rattle.tap_told.proofs.operations.op_line.Goals as goal

pub returns-in_ok-words_of-in-Some : goal.returns-in_ok-words_of-in-Some
returns-in_ok-words_of-in-Some c =
    let p = c.args.published.now in
    let s = setup_of c.args.scenario.now in
    let found = c.in-Some.ensures ∙ ap (λ cs. slice_get cs p.command) c.requires.commands ∙ command_is c.args.scenario.now p.command in
    ap (λ t. Some (record { version = c.args.version; command = p.command; text = t })) c.in_ok-words_of-in-Some.ensures
    ∙ ap (option_map (λ (d : Command). record { version = c.args.version; command = p.command; text = words_of s d p.op })) found

pub returns-in-None : goal.returns-in-None
returns-in-None c =
    let p = c.args.published.now in
    let s = setup_of c.args.scenario.now in
    let found = c.in-None.ensures ∙ ap (λ cs. slice_get cs p.command) c.requires.commands ∙ command_is c.args.scenario.now p.command in
    ap (option_map (λ (d : Command). record { version = c.args.version; command = p.command; text = words_of s d p.op })) found
