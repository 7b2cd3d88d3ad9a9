use Rattle.std.proofs.Common.{sym, ◌∙◌}
use Rattle.scen_text.proofs.Whole.{bad_version, few_lines, found, no_line, refused, too_long}
use Rattle.scen_text.proofs.reading.read_scenario.Goals as goal

pub returns-then-bytes-gt-MAX_BYTES-clause-refused : goal.returns-then-bytes-gt-MAX_BYTES-clause-refused
returns-then-bytes-gt-MAX_BYTES-clause-refused c = too_long c.args.bytes.now c.if-bytes-gt-MAX_BYTES.true

pub returns-in_default-clause-refused : goal.returns-in_default-clause-refused
returns-in_default-clause-refused c = no_line c.args.bytes.now c.if-bytes-gt-MAX_BYTES.false (sym c.new-lines.ensures ∙ c.in_default.ensures.0)

pub read_lines-requires : goal.read_lines-requires
read_lines-requires c =
    few_lines c.args.bytes.now c.in-Some.first.now c.next.new.self c.if-bytes-gt-MAX_BYTES.false (sym c.new-lines.ensures ∙ c.in-Some.ensures)

pub returns-in-Err-clause-refused : goal.returns-in-Err-clause-refused
returns-in-Err-clause-refused c =
    bad_version c.args.bytes.now c.in-Some.first.now c.next.new.self c.in-Err.why c.if-bytes-gt-MAX_BYTES.false (sym c.new-lines.ensures ∙ c.in-Some.ensures)
    (sym c.in-Err.ensures)

pub returns-in-Err-read_lines-clause-refused : goal.returns-in-Err-read_lines-clause-refused
returns-in-Err-read_lines-clause-refused c =
    refused c.args.bytes.now c.in-Some.first.now c.next.new.self c.in-Ok.version c.in-Err-read_lines.error c.if-bytes-gt-MAX_BYTES.false
    (sym c.new-lines.ensures ∙ c.in-Some.ensures) (sym c.in-Ok.ensures) c.in-Err-read_lines.ensures

pub returns-in_ok-finish-in-Ok-read_lines-clause-found : goal.returns-in_ok-finish-in-Ok-read_lines-clause-found
returns-in_ok-finish-in-Ok-read_lines-clause-found c =
    found c.args.bytes.now c.in-Some.first.now c.next.new.self c.in-Ok.version c.in-Ok-read_lines.builder c.in_ok-finish-in-Ok-read_lines.field-0
    c.if-bytes-gt-MAX_BYTES.false (sym c.new-lines.ensures ∙ c.in-Some.ensures) (sym c.in-Ok.ensures) c.in-Ok-read_lines.ensures
    c.in_ok-finish-in-Ok-read_lines.ensures
