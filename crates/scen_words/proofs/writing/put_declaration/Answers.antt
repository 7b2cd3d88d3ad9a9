use Rattle.std.proofs.Common.{string_bytes, ◌++◌, ap, ◌∙◌, lit<}
use Rattle.scen_words.specs.Commands.{declaration_word}
use Rattle.scen_words.specs.Rows.{declaration_fields}
use Rattle.scen_words.specs.Words.{declaration_spelling}
use Rattle.scen_words.proofs.Spaced.{line_written}
use Rattle.scen_words.proofs.writing.put_declaration.Goals as goal

pub returns : goal.returns
returns c =
    line_written (string_bytes c.args.out.now) _ _ _ (declaration_spelling (declaration_word c.args.declaration.now)) (declaration_fields c.args.names.now c.args.declaration.now)
    (c.in_ok-push_str.ensures.bytes ∙ ap (λ t. string_bytes c.args.out.now ++ t) (c.spelling.ensures ∙ ap declaration_spelling c.declaration_word.ensures))
    c.in_ok-put_declaration_fields.ensures (c.in_ok-push.ensures.bytes ∙ ap (λ t. string_bytes c.put_declaration_fields.new.out ++ t) (c.in_ok-push.ensures.ascii (lit< tt)))
