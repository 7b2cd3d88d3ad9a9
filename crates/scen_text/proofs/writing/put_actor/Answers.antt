use Rattle.std.proofs.Common.{string_bytes}
use Rattle.scen_words.specs.Commands.{command_word}
use Rattle.scen_words.specs.Rows.{command_fields}
use Rattle.scen_words.specs.Words.{command_spelling}
use Rattle.scen_text.proofs.Spaced.{actor_written}
use Rattle.scen_text.proofs.writing.put_actor.Goals as goal

pub returns : goal.returns
returns c =
    actor_written (string_bytes c.args.out.now) _ _ c.args.each.now.actor (command_spelling (command_word c.args.each.now.command)) (command_fields c.args.names.now c.args.each.now.command)
    c.in_ok-write.ensures.bytes c.in_ok-put_bare.ensures
