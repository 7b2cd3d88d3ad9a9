use Rattle.std.proofs.Common.{rules, ap₂, ◌∙◌, ◌≡◌}
use Rattle.std.proofs.lemmas.Result.{IfOk-weaker}
use Rattle.clap.specs.Words.{app_of, rule_of, with_rule}
use Rattle.tap_words.specs.Words.{bare, json_rule, plain_rule, seed_rule}
use Rattle.tap_words.proofs.CommandLine.{bare_is}
use Rattle.tap_words.proofs.words.command_line.Goals as goal

pub returns : goal.returns
returns c =
    let plain : rule_of c.action-plain.result ≡ plain_rule = search rules in
    let seed : rule_of c.action-seed.result ≡ seed_rule = search rules in
    let json : rule_of c.action-json.result ≡ json_rule = search rules in
    let start : app_of c.disable_version_flag-bare.result ≡ bare =
    bare_is c.new-4.result c.no_binary_name.result c.disable_help_flag.result c.disable_version_flag-bare.result c.new-4.ensures.app c.no_binary_name.ensures c.disable_help_flag.ensures c.disable_version_flag-bare.ensures in
    IfOk-weaker c.arg-3.result _ _
    (λ command h. h.shape (search rules)
    ∙ ap₂ with_rule (c.in_ok-arg-2.ensures.shape (search rules) ∙ ap₂ with_rule (c.in_ok-arg.ensures.shape (search rules) ∙ ap₂ with_rule start plain) seed) json)
    c.arg-3.ensures
