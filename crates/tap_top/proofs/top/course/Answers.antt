use Rattle.std.proofs.Common.{◌≡◌, false, [], None, Some, map, string_bytes, refl, sym, ap, ◌∙◌}
use Rattle.tap_top.specs.Course.Course.{NoMemory, Replied}
use Rattle.tap_top.specs.Top.{reads, reads_input, served}
use Rattle.tap_top.specs.Top.IsReply.{Made}
use Rattle.tap_top.specs.Top.IsWanted.{Reply, Usage}
use Rattle.tap_top.specs.Top.Reads.{Untouched}
use Rattle.tap_top.proofs.Passing.{reads_none}
use Rattle.tap_top.proofs.Built.{built_only}
use Rattle.tap_words.specs.Words.{asks}
use Rattle.tap_top.proofs.top.course.Goals as goal

pub returns-in-Ok-None : goal.returns-in-Ok-None
returns-in-Ok-None g c =
    let other : served (map string_bytes c.args.words.now) ≡ None = sym c.in-Ok-None.ensures.value ∙ c.in-Ok-None.field-0-is in
    Replied [] _ 1 (Untouched (ap reads_input other) refl) ([], reads_none _ _ [] refl) (Usage other refl refl) c.send.ensures

pub returns-in-Err : goal.returns-in-Err
returns-in-Err g c = NoMemory [] (reads_none _ _ [] refl) (λ other. refl) refl refl refl

-- what is asked for is made, and nothing is read
pub returns-in-Ok : goal.returns-in-Ok
returns-in-Ok g c =
    let asked : served (map string_bytes c.args.words.now) ≡ Some c.in-Ok-Some.request = sym c.in-Ok-Some.ensures.value ∙ c.in-Ok-Some.field-0-is in
    let unread : reads_input (served (map string_bytes c.args.words.now)) ≡ false = ap reads_input asked ∙ ap reads c.in-Gen.is in
    Replied [] c.as_str.result.now 0 (Untouched unread refl) ([], reads_none _ _ [] refl)
    (Reply c.in-Ok-Some.request asked (Made c.in-Gen.count c.in-Gen.is (c.as_str.ensures.value ∙ c.in-Ok.ensures) refl)) c.send-in-Ok.ensures

pub returns-in-Err-made : goal.returns-in-Err-made
returns-in-Err-made g c = NoMemory [] (reads_none _ _ [] refl) (λ other. refl) refl refl refl

pub returns-in_default : goal.returns-in_default
returns-in_default g c = c.replied.ensures (map string_bytes c.args.words.now) (sym c.in-Ok-Some.ensures.value ∙ c.in-Ok-Some.field-0-is)

-- what is served is built
pub replied-requires-clause-built : goal.replied-requires-clause-built
replied-requires-clause-built g c =
    built_only (asks (map string_bytes c.args.words.now)) c.in-Ok-Some.request (sym c.in-Ok-Some.ensures.value ∙ c.in-Ok-Some.field-0-is)
