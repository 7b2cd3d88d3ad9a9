use Rattle.std.proofs.Common.{rules, arith, length, drop, ◌≡◌, below_more}
use Rattle.std.proofs.lemmas.List.{take_at}
use Rattle.ebpf_code.specs.Faults.{HasNone}
use Rattle.ebpf_code.proofs.Whole.{all_none, first, slots_more}
use Rattle.ebpf_code.proofs.pass.slots_of.Goals as goal

pub returns-in-Err-clause-fault : goal.returns-in-Err-clause-fault
returns-in-Err-clause-fault c =
    let least = c.in-Err.ensures.fault in
    (least.0, first c.args.bytes.now (length c.args.seconds.now) c.loop-place.place c.in-Err.why c.requires.seconds.aligned c.requires.some c.requires.few c.loop-place.invariant.none least)

pub loop-place-preserved : goal.loop-place-preserved
loop-place-preserved c =
    let new = c.next_slot.new.sets in
    let old = c.loop-place.sets.items in
    let as_long : length new ≡ c.loop-place.sets.len = search rules in
    let same = take_at new (drop (length new) old) c.loop-place.sets.len as_long in
    rw (same, c.in_ok-push-in-Ok.ensures.items) (record {
      many = search rules;
      kept = c.in-Ok.ensures.kept;
      long = search rules;
      each = slots_more c.args.bytes.now c.loop-place.slots.items c.loop-place.place c.in-Ok.slot c.loop-place.invariant.long c.loop-place.invariant.each c.in-Ok.ensures.slot;
      none = below_more (λ p. HasNone c.args.bytes.now p) c.loop-place.place c.loop-place.invariant.none c.in-Ok.ensures.none;
    })

pub returns-clause-none : goal.returns-clause-none
returns-clause-none c =
    all_none c.args.bytes.now (length c.args.seconds.now) c.requires.seconds.aligned c.requires.some c.requires.few
    (λ p lt. c.loop-place.invariant.none p (omega arith))
