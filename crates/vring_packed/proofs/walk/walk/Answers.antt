use Rattle.std.proofs.Common.{rules, ◌≡◌, ℕ, ◌+◌, ◌-◌, false, true, List, sym, ap, ◌∙◌, arith}
use Rattle.std.specs.Prelude.{Err}
use Rattle.guest_mem.specs.Memory.{byte_at, covers}
use Rattle.vring_split.specs.declared.segment.Segment.{Segment}
use Rattle.vring_packed.specs.Packed.{has_next}
use Rattle.vring_packed.specs.Chain.{descs_along}
use Rattle.vring_packed.specs.Fetched.{Breaks, chain_end, chain_from}
use Rattle.vring_packed.specs.Walk.{end_found}
use Rattle.vring_packed.proofs.Steps.{ring_fails, ring_ends, ring_taken, ring_over}
use Rattle.vring_packed.proofs.walk.walk.Goals as goal

pub loop-seen-init : goal.loop-seen-init
unfolding chain_from
loop-seen-init c = record {
  left = ap (λ n. chain_end (byte_at c.args.mem.now) (covers c.args.mem.now.regions) c.args.ring.now 0 (descs_along (byte_at c.args.mem.now) c.args.ring.now c.args.at n) c.args.met.now) (all c.args.ring.now.num)
      ∙ ap (λ (met : List Segment). chain_end (byte_at c.args.mem.now) (covers c.args.mem.now.regions) c.args.ring.now 0 (descs_along (byte_at c.args.mem.now) c.args.ring.now c.args.at c.args.ring.now.num) met) c.requires.none;
  within = omega arith;
  inside = c.requires.inside;
}
  where
    all : (n : ℕ) → n - 0 ≡ n
    all n = omega arith

pub returns-in_err-take_desc-clause-found : goal.returns-in_err-take_desc-clause-found
returns-in_err-take_desc-clause-found c =
    let fails : chain_from (byte_at c.args.mem.now) (covers c.args.mem.now.regions) c.args.ring.now c.args.at ≡ Breaks c.in_err-take_desc.field-0.0 =
    ring_fails (byte_at c.args.mem.now) (covers c.args.mem.now.regions) c.args.ring.now c.loop-seen.at c.loop-seen.seen c.desc_at-desc.result c.loop-seen.met _ c.loop-seen-test.true c.desc_at-desc.ensures c.loop-seen.invariant.left _ c.in_err-take_desc.ensures.fault in
    let told : c.from_residual.result ≡ Err c.in_err-take_desc.field-0.0 = search rules in
    fails ∙ ap (λ r. end_found r c.take_desc.new.met) (sym told)

pub returns-then-not-has_next-clause-found : goal.returns-then-not-has_next-clause-found
returns-then-not-has_next-clause-found c =
    let last : has_next c.desc_at-desc.result ≡ false = let e : c.has_next.result ≡ false = search rules in sym c.has_next.ensures ∙ e in
    ring_ends (byte_at c.args.mem.now) (covers c.args.mem.now.regions) c.args.ring.now c.loop-seen.at c.loop-seen.seen c.desc_at-desc.result c.loop-seen.met _ c.loop-seen-test.true c.desc_at-desc.ensures c.loop-seen.invariant.left _ c.in_ok-take_desc.ensures.taken last

pub loop-seen-preserved : goal.loop-seen-preserved
loop-seen-preserved c =
    let more : has_next c.desc_at-desc.result ≡ true = let e : c.has_next.result ≡ true = search rules in sym c.has_next.ensures ∙ e in
    record {
      left = ap (λ at. chain_end (byte_at c.args.mem.now) (covers c.args.mem.now.regions) c.args.ring.now (c.loop-seen.seen + 1) (descs_along (byte_at c.args.mem.now) c.args.ring.now at (c.args.ring.now.num - (c.loop-seen.seen + 1))) c.take_desc.new.met) c.entry_after-at.ensures.next
          ∙ ring_taken (byte_at c.args.mem.now) (covers c.args.mem.now.regions) c.args.ring.now c.loop-seen.at c.loop-seen.seen c.desc_at-desc.result c.loop-seen.met _ c.loop-seen-test.true c.desc_at-desc.ensures c.loop-seen.invariant.left _ c.in_ok-take_desc.ensures.taken more;
      within = let h = c.loop-seen-test.true in omega arith;
      inside = c.entry_after-at.ensures.inside;
    }

pub returns-clause-found : goal.returns-clause-found
returns-clause-found c =
    sym c.loop-seen.invariant.left
    ∙ ring_over (byte_at c.args.mem.now) (covers c.args.mem.now.regions) c.args.ring.now c.loop-seen.at c.loop-seen.seen c.loop-seen.met (let h = c.loop-seen-test.false in omega arith)
