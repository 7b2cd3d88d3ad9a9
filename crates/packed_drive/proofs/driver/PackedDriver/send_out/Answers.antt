use Rattle.std.proofs.Common.{◌≡◌, ℕ, ◌-◌, ◌<◌, ◌≤◌, length, get_or, Option, None, Some, sym, ap, ◌∙◌, subst, arith, length-set}
use Rattle.std.specs.Prelude.{IfSome}
use Rattle.std.proofs.lemmas.List.Elements.{All-set}
use Rattle.packed_drive.specs.Books.{Books, total, lowest, count_of, free_of}
use Rattle.packed_drive.proofs.Outs.{total_set, at_lowest}
use Rattle.packed_drive.proofs.driver.PackedDriver.send_out.Goals as goal

pub overflow_cast-count : goal.overflow_cast-count
overflow_cast-count c =
    let few : c.args.count ≤ c.self.inside.num - total c.self.inside.out.items = subst (λ (b : Books). c.args.count ≤ free_of b) (sym c.self.view_is) c.requires.free in
    let most = c.self.invariant.most in
    omega (arith, few, most)

pub invariant_of-self : goal.invariant_of-self
invariant_of-self c =
    let items = c.self.inside.out.items in
    let ids = c.self.invariant.ids in
    let num : c.self.inside.num ≡ c.args.self.now.num = ap (λ (b : Books). b.num) c.self.view_is in
    let id_is : c.from-2.result ≡ lowest items = c.from-2.ensures ∙ c.requires.id ∙ ap lowest (sym (ap (λ (b : Books). b.out) c.self.view_is)) in
    let inside = c.requires.inside in
    let at = c.from-2.ensures in
    let within : c.from-2.result < length items = omega (arith, ids, num, inside, at) in
    let low : lowest items < length items = omega (arith, within, id_is) in
    let none : count_of (get_or items c.from-2.result None) ≡ 0 = ap (λ (i : ℕ). count_of (get_or items i None)) id_is ∙ ap count_of (at_lowest items None low) in
    let sum = total_set items c.from-2.result (Some c.args.count) None within in
    let free = c.self.invariant.free in
    let was = c.from.ensures in
    let few : c.args.count ≤ c.self.inside.num - total items = subst (λ (b : Books). c.args.count ≤ free_of b) (sym c.self.view_is) c.requires.free in
    record {
      some = c.self.invariant.some;
      most = c.self.invariant.most;
      fits = c.self.invariant.fits;
      next = c.after-self-inside.ensures.inside;
      used = c.self.invariant.used;
      ids = length-set items c.from-2.result (Some c.args.count) ∙ ids;
      counts = All-set (λ (o : Option ℕ). IfSome o (λ count. 1 ≤ count)) items c.from-2.result (Some c.args.count) c.requires.some c.self.invariant.counts;
      free = omega (arith, none, sum, free, was, few);
    }
