use Rattle.std.proofs.Common.{◌≡◌, ◌-◌, ◌<◌, length, ap, ◌∙◌, sym, subst, arith}
use Rattle.packed_drive.specs.Books.{Books, lowest, total, free_of}
use Rattle.packed_drive.proofs.Outs.{some_id}
use Rattle.packed_drive.proofs.driver.PackedDriver.lowest_id.Goals as goal

pub overflow_cast-result : goal.overflow_cast-result
overflow_cast-result c =
    let some : 0 < c.self.inside.num - total c.self.inside.out.items = subst (λ (b : Books). 0 < free_of b) (sym c.self.view_is) c.requires in
    let ids = c.self.invariant.ids in
    let most = c.self.invariant.most in
    let less : total c.self.inside.out.items < length c.self.inside.out.items = omega (arith, some, ids) in
    let inside = some_id c.self.inside.out.items c.self.invariant.counts less in
    let same : c.lowest.result ≡ lowest c.self.inside.out.items = c.lowest.ensures ∙ ap lowest c.deref.ensures.value in
    omega (arith, same, inside, ids, most)

pub returns-clause-inside : goal.returns-clause-inside
returns-clause-inside c =
    let some : 0 < c.self.inside.num - total c.self.inside.out.items = subst (λ (b : Books). 0 < free_of b) (sym c.self.view_is) c.requires in
    let ids = c.self.invariant.ids in
    let less : total c.self.inside.out.items < length c.self.inside.out.items = omega (arith, some, ids) in
    let inside = some_id c.self.inside.out.items c.self.invariant.counts less in
    let same : c.lowest.result ≡ lowest c.self.inside.out.items = c.lowest.ensures ∙ ap lowest c.deref.ensures.value in
    let num : c.self.inside.num ≡ c.args.self.now.num = ap (λ (b : Books). b.num) c.self.view_is in
    omega (arith, same, inside, ids, num)
