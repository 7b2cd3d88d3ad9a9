use Rattle.std.proofs.Common.{map, string_bytes}
use Rattle.tap_words.proofs.CommandLine.{asks_some}
use Rattle.tap_words.proofs.words.request_of.Goals as goal

pub returns : goal.returns
returns c =
    let g = rw c.in-Some.is at c.in_ok-given.ensures in
    rw (c.asked_by.ensures, c.texts_of.ensures, c.get_strs.ensures, c.get_str.ensures, c.says_true.ensures, c.get_str-2.ensures)
    (asks_some (map string_bytes c.args.words.now) c.in-Some.given g)
