use Rattle.std.proofs.Common.{string_bytes}
use Rattle.std.proofs.lemmas.Result.{IfOk-equal}
use Rattle.scen_words.proofs.Spaced.{lengths_written}
use Rattle.scen_words.proofs.writing.put_command_fields.Goals as goal

pub returns-in_ok-write-in-PostIn : goal.returns-in_ok-write-in-PostIn
returns-in_ok-write-in-PostIn c =
    IfOk-equal c.put_lengths.result _ _ _ c.put_lengths.ensures
    (lengths_written (string_bytes c.args.out.now) _ c.args.names.now c.args.command.now c.in-PostIn.vhost c.in-PostIn.ring c.in-PostIn.lens c.as_slice-in-PostIn.result.now c.in-PostIn.is
    c.as_slice-in-PostIn.ensures c.in_ok-write-in-PostIn.ensures.bytes)
