use Rattle.std.proofs.Common.{◌≡◌, ℕ, ◌≤◌, Option, None, Some, ◌∙◌, rules, arith, length-set}
use Rattle.std.specs.Prelude.{IfSome, slice_get}
use Rattle.std.specs.Option.{option_flatten}
use Rattle.std.proofs.lemmas.List.Elements.{All-set}
use Rattle.packed_drive.proofs.Outs.{total_without}
use Rattle.packed_drive.proofs.driver.PackedDriver.take_back.Goals as goal

pub overflow_add-self : goal.overflow_add-self
overflow_add-self c =
    let found : option_flatten (slice_get c.self.inside.out.items c.desc_at-desc.result.id) ≡ Some c.in-Some.count = search rules in
    let without = total_without c.self.inside.out.items c.desc_at-desc.result.id c.in-Some.count found in
    let free = c.self.invariant.free in
    let most = c.self.invariant.most in
    omega (arith, without, free, most)

pub after-self-inside-requires-clause-few : goal.after-self-inside-requires-clause-few
after-self-inside-requires-clause-few c =
    let found : option_flatten (slice_get c.self.inside.out.items c.desc_at-desc.result.id) ≡ Some c.in-Some.count = search rules in
    let without = total_without c.self.inside.out.items c.desc_at-desc.result.id c.in-Some.count found in
    let free = c.self.invariant.free in
    omega (arith, without, free)

pub invariant_of-self : goal.invariant_of-self
invariant_of-self c =
    let found : option_flatten (slice_get c.self.inside.out.items c.from-2.result) ≡ Some c.in-Some.count = search rules in
    let without = total_without c.self.inside.out.items c.from-2.result c.in-Some.count found in
    let free = c.self.invariant.free in
    record {
      some = c.self.invariant.some;
      most = c.self.invariant.most;
      fits = c.self.invariant.fits;
      next = c.self.invariant.next;
      used = c.after-self-inside.ensures.inside;
      ids = length-set c.self.inside.out.items c.from-2.result None ∙ c.self.invariant.ids;
      counts = All-set (λ (o : Option ℕ). IfSome o (λ count. 1 ≤ count)) c.self.inside.out.items c.from-2.result None tt c.self.invariant.counts;
      free = omega (arith, without, free);
    }
