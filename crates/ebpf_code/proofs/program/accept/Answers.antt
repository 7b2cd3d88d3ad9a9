use Rattle.std.proofs.Common.{rules, arith, length, subst, ◌≡◌, ◌≤◌}
use Rattle.ebpf_code.specs.Step.{AreDecoded}
use Rattle.ebpf_code.proofs.Spells.{spelled, are_program, bytes_from}
use Rattle.ebpf_code.proofs.program.accept.Goals as goal

pub invariant_of-result : goal.invariant_of-result
invariant_of-result c =
    let are = c.in_ok-slots.ensures.slots in
    let small = bytes_from c.args.bytes.now (λ i. omega (arith, c.type_inv.bytes i)) in
    let same : c.deref-2.result.now ≡ c.in_ok-slots.slots.items = search rules in
    let few : length c.in_ok-slots.slots.items ≤ 4096 = let a = are.aligned in omega arith in
    let decoded = subst (λ slots. AreDecoded slots c.in_ok-steps.steps.items) same c.in_ok-steps.ensures in
    (are_program c.args.bytes.now c.in_ok-slots.slots.items small c.in_ok-slots.ensures.none are few, decoded)

pub returns-clause-accepted : goal.returns-clause-accepted
returns-clause-accepted c =
    let small = bytes_from c.args.bytes.now (λ i. omega (arith, c.type_inv.bytes i)) in
    spelled c.args.bytes.now c.in_ok-slots.slots.items small c.in_ok-slots.ensures.none c.in_ok-slots.ensures.slots
