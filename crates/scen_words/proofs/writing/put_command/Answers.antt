use Rattle.std.proofs.Common.{string_bytes, ◌++◌, ap, ◌∙◌, lit<}
use Rattle.scen_words.specs.Commands.{command_word}
use Rattle.scen_words.specs.Rows.{command_fields}
use Rattle.scen_words.specs.Words.{command_spelling}
use Rattle.scen_words.proofs.Spaced.{line_written}
use Rattle.scen_words.proofs.writing.put_command.Goals as goal

pub returns : goal.returns
returns c =
    line_written (string_bytes c.args.out.now) _ _ _ (command_spelling (command_word c.args.command.now)) (command_fields c.args.names.now c.args.command.now)
    (c.in_ok-push_str.ensures.bytes ∙ ap (λ t. string_bytes c.args.out.now ++ t) (c.spelling.ensures ∙ ap command_spelling c.command_word.ensures))
    c.in_ok-put_command_fields.ensures (c.in_ok-push.ensures.bytes ∙ ap (λ t. string_bytes c.put_command_fields.new.out ++ t) (c.in_ok-push.ensures.ascii (lit< tt)))
