use Rattle.std.proofs.Common.{◌≡◌, ◌<◌, ◌∙◌, IsTrue, sym, ap, rules, arith, None}
use Rattle.std.specs.Prelude.{is_none, List, ℕ, All, Option}
use Rattle.std.proofs.lemmas.List.Elements.{All-nil}
use Rattle.guest_mem.specs.Memory.{covers, first_bad}
use Rattle.vring_drive.specs.Area.{area_len}
use Rattle.vring_drive.specs.Books.{numbers_from}
use Rattle.vring_drive.proofs.Freed.{numbers_below}
use Rattle.vring_drive.proofs.driver.Driver.new.Goals as goal

pub invariant_of-result : goal.invariant_of-result
invariant_of-result c =
    let keys : c.in_ok-free.free.keys ≡ numbers_from 0 c.args.num = search rules in
    let told : first_bad c.args.mem.now.regions c.args.at (area_len c.args.num) ≡ None =
    (rw c.area_len.ensures at (sym c.first_bad.ensures)) ∙ c.in_default.is in
    let there : IsTrue (covers c.args.mem.now.regions c.args.at (area_len c.args.num)) = ap (λ (o : Option ℕ). is_none o) told in
    let some : 0 < area_len c.args.num = omega arith in
    record {
      power = c.requires.power;
      most = c.requires.most;
      fits = c.range_laws.ensures.fits c.args.mem.now.regions c.args.at (area_len c.args.num) there some;
      free = rw keys (numbers_below 0 c.args.num c.args.num (omega arith));
      out = rw c.new.ensures.empty (All-nil (λ (chain : List ℕ). All (λ i. i < c.args.num) chain));
    }
