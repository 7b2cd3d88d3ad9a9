use Rattle.std.proofs.Common.{◌≡◌, ◌+◌, take, sym, arith}
use Rattle.std.proofs.lemmas.List.{append-nil}
use Rattle.vring_walk.proofs.Gathered.{none_from}
use Rattle.vring_walk.proofs.spread.read_part.Goals as goal

pub returns-then-len-eq0 : goal.returns-then-len-eq0
returns-then-len-eq0 c =
    let none : c.args.len ≡ 0 = omega (arith, c.if-len-eq0.true) in
    let same : c.args.at + 0 ≡ c.args.at = omega arith in
    rw (none, same, none_from c.args.mem.now.bytes c.args.addr) (sym (append-nil (take c.args.at c.args.room.now)))
