use Rattle.std.proofs.Common.{◌≡◌, ℕ, ◌<◌, ◌≤◌, IsTrue, length, replicate, Option, None, sym, ap, ◌∙◌, rules, arith}
use Rattle.std.specs.Prelude.{is_none, IfSome}
use Rattle.std.proofs.lemmas.List.{length-replicate}
use Rattle.std.proofs.lemmas.List.Elements.{All-replicate}
use Rattle.guest_mem.specs.Memory.{covers, first_bad}
use Rattle.packed_drive.specs.Area.{area_len}
use Rattle.packed_drive.specs.Books.{total}
use Rattle.packed_drive.proofs.Outs.{total_none}
use Rattle.packed_drive.proofs.driver.PackedDriver.new.Goals as goal

pub invariant_of-result : goal.invariant_of-result
invariant_of-result c =
    let items : c.in_ok-out.out.items ≡ replicate c.args.num None = search rules in
    let told : first_bad c.args.mem.now.regions c.args.at (area_len c.args.num) ≡ None =
    (rw c.area_len.ensures at (sym c.first_bad.ensures)) ∙ c.in_default.is in
    let there : IsTrue (covers c.args.mem.now.regions c.args.at (area_len c.args.num)) = ap (λ (o : Option ℕ). is_none o) told in
    let some = c.requires.some in
    let long : 0 < area_len c.args.num = omega (arith, some) in
    let none : total c.in_ok-out.out.items ≡ 0 = ap total items ∙ total_none c.args.num in
    record {
      some = c.requires.some;
      most = c.requires.most;
      fits = c.range_laws.ensures.fits c.args.mem.now.regions c.args.at (area_len c.args.num) there long;
      next = search rules;
      used = search rules;
      ids = ap length items ∙ length-replicate c.args.num None;
      counts = rw items (All-replicate (λ (o : Option ℕ). IfSome o (λ count. 1 ≤ count)) c.args.num None tt);
      free = omega (arith, none);
    }
