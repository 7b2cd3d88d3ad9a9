use Rattle.std.proofs.Common.{◌≡◌, ◌+◌, ◌-◌, ℕ, suc, true, false, refl, sym, ap, ◌∙◌, rules, arith}
use Rattle.guest_mem.specs.Memory.{Contents}
use Rattle.vring_split.specs.declared.layout.Layout.{Layout}
use Rattle.vring_split.specs.Split.{used_event_addr}
use Rattle.vring_drive.specs.Area.{with_field}
use Rattle.vring_drive.specs.Books.{Books, ComesBack}
use Rattle.vring_drive.specs.Harvests.{harvest_of, harvested, ready_count, used_entry}
use Rattle.vring_drive.proofs.Harvested.{go_on, stop_at, end_with, entry_is, memory_stray, memory_told, memory_kept}
use Rattle.vring_drive.proofs.driver.Driver.harvest.Goals as goal
use Rattle.vring_drive.proofs.driver.Driver.harvest.Goals.{then-ring, else-ring}

pub loop-preserved : goal.loop-preserved
loop-preserved c =
    let m = c.args.mem.now in
    let e = c.used_elem_at-entry.result in
    let left : c.min-count.result - c.loop.counter ≡ suc (c.min-count.result - (c.loop.counter + 1)) = omega arith in
    let read : e ≡ used_entry m c.loop.self =
    entry_is m c.args.self.now c.loop.self c.layout-ring.result c.used_entry_addr.result c.used-in-loop.result e
    c.layout-ring.ensures.layout c.loop.invariant.settings c.used-in-loop.ensures c.used_entry_addr.ensures
    c.used_elem_at-entry.ensures in
    let back : ComesBack e.id c.loop.self true c.take_back.new.self = search rules in
    record {
      harvest = rw c.push_reserved.ensures.items
          (go_on c.loop.found.items (c.min-count.result - (c.loop.counter + 1)) (c.min-count.result - c.loop.counter) m c.loop.self
          c.take_back.new.self e left read back ∙ c.loop.invariant.harvest);
      room = omega (arith, c.push_reserved.ensures.len, c.push_reserved.ensures.capacity);
      settings = record {
        start = c.take_back.ensures.settings.start ∙ c.loop.invariant.settings.start;
        num = c.take_back.ensures.settings.num ∙ c.loop.invariant.settings.num;
        event = c.take_back.ensures.settings.event ∙ c.loop.invariant.settings.event;
      };
    }

pub returns-then-not-branch-clause-answer : goal.returns-then-not-branch-clause-answer
returns-then-not-branch-clause-answer c =
    let m = c.args.mem.now in
    let e = c.used_elem_at-entry.result in
    let left : c.min-count.result - c.loop.counter ≡ suc (c.min-count.result - (c.loop.counter + 1)) = omega arith in
    let count : c.min-count.result ≡ ready_count m c.args.self.now =
    rw (c.min-count.ensures, c.le16_at-index.ensures, c.used_idx_addr.ensures, c.used.ensures, c.layout-ring.ensures.layout) refl in
    let read : e ≡ used_entry m c.loop.self =
    entry_is m c.args.self.now c.loop.self c.layout-ring.result c.used_entry_addr.result c.used-in-loop.result e
    c.layout-ring.ensures.layout c.loop.invariant.settings c.used-in-loop.ensures c.used_entry_addr.ensures
    c.used_elem_at-entry.ensures in
    let back : ComesBack e.id c.loop.self false c.take_back.new.self = search rules in
    stop_at c.loop.found.items (c.min-count.result - (c.loop.counter + 1)) (c.min-count.result - c.loop.counter) m c.loop.self
    c.take_back.new.self e (harvested m c.args.self.now) left read back
    (c.loop.invariant.harvest ∙ ap (λ (n : ℕ). harvest_of n m c.args.self.now) count)

pub returns-then-not-branch-clause-memory : goal.returns-then-not-branch-clause-memory
returns-then-not-branch-clause-memory c =
    memory_stray c.args.mem.now c.args.self.now c.used_elem_at-entry.result.id (returns-then-not-branch-clause-answer c).0

pub returns-clause-answer : goal.returns-clause-answer
returns-clause-answer c =
    let m = c.args.mem.now in
    let left : c.min-count.result - c.loop.counter ≡ 0 = omega arith in
    let count : c.min-count.result ≡ ready_count m c.args.self.now =
    rw (c.min-count.ensures, c.le16_at-index.ensures, c.used_idx_addr.ensures, c.used.ensures, c.layout-ring.ensures.layout) refl in
    end_with c.loop.found.items (c.min-count.result - c.loop.counter) m c.loop.self (harvested m c.args.self.now) left
    (c.loop.invariant.harvest ∙ ap (λ (n : ℕ). harvest_of n m c.args.self.now) count)

pub returns-clause-memory : goal.returns-clause-memory
returns-clause-memory c =
    let m = c.args.mem.now in
    let all = returns-clause-answer c in
    let laid = c.layout-ring.ensures.layout in
    let at : ℕ → ℕ → Contents = λ (a u : ℕ). with_field a u m in
    elim c.if-ring.branch [
      | then-ring w ↦
          memory_told m c.if-ring.mem c.args.self.now w.used-then-ring.result all.0
          (sym (ap (λ (l : Layout). l.event) laid) ∙ w.if-ring.true)
          (w.used-then-ring.ensures ∙ ap (λ (b : Books). b.used) all.2)
          (w.mem-is ∙ w.put_le16.ensures.written
          ∙ ap (λ (a : ℕ). at a w.used-then-ring.result) (w.used_event_addr.ensures ∙ ap used_event_addr laid))
      | else-ring w ↦
          w.mem-is ∙ memory_kept m c.args.self.now all.0 (sym (ap (λ (l : Layout). l.event) laid) ∙ w.if-ring.false)
    ]
