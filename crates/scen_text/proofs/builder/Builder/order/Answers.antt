use Rattle.std.proofs.Common.{◌≡◌, true, false, ◌&&◌, ap, sym, ◌∙◌}
use Rattle.std.specs.Option.{option_copied}
use Rattle.scen_text.specs.Before.{number_for}
use Rattle.scen_text.specs.Building.{standing, with_command}
use Rattle.scen_words.specs.Commands.{command_of}
use Rattle.scen_text.specs.Refusals.{is_block, is_misplaced, is_unknown, passes_limit}
use Rattle.scen_text.proofs.Steps.{command_good, command_in, either_left, either_right, hears_command, in_limit, limited, misplaced, neither, unknown}
use Rattle.scen_text.proofs.builder.Builder.order.Goals as goal

pub returns-then-is_unknown : goal.returns-then-is_unknown
returns-then-is_unknown c =
    let is : c.in_ok-command.command ≡ command_in (standing c.args.self.now) c.args.word c.args.values.now =
    c.in_ok-command.ensures ∙ ap (λ n. command_of n c.args.word c.args.values.now)
    (c.number_for-number.ensures.value ∙ ap (λ ns. number_for ns (option_copied c.commanded_name-name.result)) c.as_slice.ensures
    ∙ ap (number_for c.args.self.now.names) c.commanded_name-name.ensures) in
    let t : is_unknown c.args.self.now.declarations c.in_ok-command.command ≡ true =
    sym (c.is_unknown.ensures ∙ ap (λ ds. is_unknown ds c.in_ok-command.command) c.as_slice-2.ensures) ∙ c.if-is_unknown.true in
    unknown (standing c.args.self.now) c.args.last c.args.actor c.args.word c.args.values.now c.in_ok-command.command is t

pub returns-in_default : goal.returns-in_default
returns-in_default c =
    let is : c.in_ok-command.command ≡ command_in (standing c.args.self.now) c.args.word c.args.values.now =
    c.in_ok-command.ensures ∙ ap (λ n. command_of n c.args.word c.args.values.now)
    (c.number_for-number.ensures.value ∙ ap (λ ns. number_for ns (option_copied c.commanded_name-name.result)) c.as_slice.ensures
    ∙ ap (number_for c.args.self.now.names) c.commanded_name-name.ensures) in
    let t : is_unknown c.args.self.now.declarations c.in_ok-command.command ≡ false =
    sym (c.is_unknown.ensures ∙ ap (λ ds. is_unknown ds c.in_ok-command.command) c.as_slice-2.ensures) ∙ c.if-is_unknown.false in
    misplaced (standing c.args.self.now) c.args.last c.args.actor c.args.word c.args.values.now c.in_ok-command.command is t
    (either_left (is_misplaced c.args.self.now.place c.args.actor) (c.args.last && is_block c.args.self.now.place) c.in_default.ensures)

pub returns-then-last-is_block : goal.returns-then-last-is_block
returns-then-last-is_block c =
    let is : c.in_ok-command.command ≡ command_in (standing c.args.self.now) c.args.word c.args.values.now =
    c.in_ok-command.ensures ∙ ap (λ n. command_of n c.args.word c.args.values.now)
    (c.number_for-number.ensures.value ∙ ap (λ ns. number_for ns (option_copied c.commanded_name-name.result)) c.as_slice.ensures
    ∙ ap (number_for c.args.self.now.names) c.commanded_name-name.ensures) in
    let t : is_unknown c.args.self.now.declarations c.in_ok-command.command ≡ false =
    sym (c.is_unknown.ensures ∙ ap (λ ds. is_unknown ds c.in_ok-command.command) c.as_slice-2.ensures) ∙ c.if-is_unknown.false in
    let ends : (c.args.last && is_block c.args.self.now.place) ≡ true = rw (← c.is_block.ensures) c.if-last-is_block.true in
    misplaced (standing c.args.self.now) c.args.last c.args.actor c.args.word c.args.values.now c.in_ok-command.command is t
    (either_right (is_misplaced c.args.self.now.place c.args.actor) (c.args.last && is_block c.args.self.now.place) ends)

pub returns-then-passes_limit : goal.returns-then-passes_limit
returns-then-passes_limit c =
    let is : c.in_ok-command.command ≡ command_in (standing c.args.self.now) c.args.word c.args.values.now =
    c.in_ok-command.ensures ∙ ap (λ n. command_of n c.args.word c.args.values.now)
    (c.number_for-number.ensures.value ∙ ap (λ ns. number_for ns (option_copied c.commanded_name-name.result)) c.as_slice.ensures
    ∙ ap (number_for c.args.self.now.names) c.commanded_name-name.ensures) in
    let t : is_unknown c.args.self.now.declarations c.in_ok-command.command ≡ false =
    sym (c.is_unknown.ensures ∙ ap (λ ds. is_unknown ds c.in_ok-command.command) c.as_slice-2.ensures) ∙ c.if-is_unknown.false in
    let ends : (c.args.last && is_block c.args.self.now.place) ≡ false = rw (← c.is_block.ensures) c.if-last-is_block.false in
    limited (standing c.args.self.now) c.args.last c.args.actor c.args.word c.args.values.now c.in_ok-command.command is t
    (neither (is_misplaced c.args.self.now.place c.args.actor) (c.args.last && is_block c.args.self.now.place) c.in-Some.ensures.0 ends)
    (sym (c.passes_limit.ensures
    ∙ ap (λ name. passes_limit c.args.self.now.commands c.args.self.now.turns c.args.self.now.names name c.in_ok-command.command) c.commanded_name-name.ensures)
    ∙ c.if-passes_limit.true)

pub add_command-requires-clause-room : goal.add_command-requires-clause-room
add_command-requires-clause-room c =
    let parts = in_limit c.args.self.now.commands c.args.self.now.turns c.args.self.now.names (option_copied c.commanded_name-name.result) c.in_ok-command.command
    (sym c.passes_limit.ensures ∙ c.if-passes_limit.false) c.args.self.now.few_turns in parts.0

pub add_command-requires-clause-commands : goal.add_command-requires-clause-commands
add_command-requires-clause-commands c =
    let parts = in_limit c.args.self.now.commands c.args.self.now.turns c.args.self.now.names (option_copied c.commanded_name-name.result) c.in_ok-command.command
    (sym c.passes_limit.ensures ∙ c.if-passes_limit.false) c.args.self.now.few_turns in parts.1

pub add_command-requires-clause-turns : goal.add_command-requires-clause-turns
add_command-requires-clause-turns c =
    let parts = in_limit c.args.self.now.commands c.args.self.now.turns c.args.self.now.names (option_copied c.commanded_name-name.result) c.in_ok-command.command
    (sym c.passes_limit.ensures ∙ c.if-passes_limit.false) c.args.self.now.few_turns in parts.2

pub returns : goal.returns
returns c =
    let is : c.in_ok-command.command ≡ command_in (standing c.args.self.now) c.args.word c.args.values.now =
    c.in_ok-command.ensures ∙ ap (λ n. command_of n c.args.word c.args.values.now)
    (c.number_for-number.ensures.value ∙ ap (λ ns. number_for ns (option_copied c.commanded_name-name.result)) c.as_slice.ensures
    ∙ ap (number_for c.args.self.now.names) c.commanded_name-name.ensures) in
    let t : is_unknown c.args.self.now.declarations c.in_ok-command.command ≡ false =
    sym (c.is_unknown.ensures ∙ ap (λ ds. is_unknown ds c.in_ok-command.command) c.as_slice-2.ensures) ∙ c.if-is_unknown.false in
    let ends : (c.args.last && is_block c.args.self.now.place) ≡ false = rw (← c.is_block.ensures) c.if-last-is_block.false in (
      command_good (standing c.args.self.now) c.args.last c.args.actor c.args.word c.args.values.now c.in_ok-command.command is t
          (neither (is_misplaced c.args.self.now.place c.args.actor) (c.args.last && is_block c.args.self.now.place) c.in-Some.ensures.0 ends)
          (sym (c.passes_limit.ensures
          ∙ ap (λ name. passes_limit c.args.self.now.commands c.args.self.now.turns c.args.self.now.names name c.in_ok-command.command) c.commanded_name-name.ensures)
          ∙ c.if-passes_limit.false),
      hears_command c.args.self.now c.add_command.new.self c.args.actor c.args.word c.args.values.now c.in_ok-command.command c.in-Some.actor
          is c.in-Some.ensures.1 c.in-Some.ensures.0
          (c.in_ok-add_command.ensures.standing ∙ ap (with_command (standing c.args.self.now) c.in_ok-command.command) c.commanded_name-name.ensures) c.in_ok-add_command.ensures.phases,
    )
