use Rattle.std.proofs.Common.{ap, sym, subst, ◌∙◌, inl, inr, map, string_bytes, Option}
use Rattle.std.proofs.lemmas.Result.{IfOk-weaker}
use Rattle.clap.specs.Words.{app_of, is_simple, is_simple_and_free}
use Rattle.clap.specs.declared.parser.matches.ArgMatches.{ArgMatches}
use Rattle.tap_words.specs.Parse.{IsGiven}
use Rattle.tap_words.proofs.CommandLine.{given_none, gives, tapsim_is_free, tapsim_is_simple}
use Rattle.tap_words.proofs.words.given.Goals as goal

pub returns-in-Ok : goal.returns-in-Ok
returns-in-Ok c =
    let whole = c.in_ok-command_line.ensures in
    gives (app_of c.in_ok-command_line.field-0) (map string_bytes c.args.words.now) c.in-Ok.given whole
    (c.in-Ok.ensures.kinds (ap is_simple_and_free whole ∙ tapsim_is_free)) (c.in-Ok.ensures.matches (ap is_simple whole ∙ tapsim_is_simple)).0

pub returns-in-Err : goal.returns-in-Err
returns-in-Err c =
    let whole = c.in_ok-command_line.ensures in
    let words = map string_bytes c.args.words.now in
    IfOk-weaker c.refused.result _ _
    (λ r h. subst (λ (o : Option ArgMatches). IsGiven words o) (sym h.0) (elim (c.in-Err.ensures.kinds (ap is_simple_and_free whole ∙ tapsim_is_free)) [
      | inl memory ↦ absurd (h.1 memory)
      | inr among ↦ given_none (app_of c.in_ok-command_line.field-0) words _ whole among
    ]))
    c.refused.ensures
