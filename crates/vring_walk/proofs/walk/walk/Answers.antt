use Rattle.std.proofs.Common.{◌≡◌, ◌+◌, ◌*◌, true, false, [], ◌∷◌, ◌++◌, length, take, Some, None, sym, ap, ◌∙◌, arith, refl, rules}
use Rattle.guest_mem.specs.Memory.{byte_at, covers}
use Rattle.vring_split.specs.declared.desc.Desc.{Desc}
use Rattle.vring_split.specs.declared.segment.Segment.{Segment}
use Rattle.vring_split.specs.Split.{has_next, is_indirect}
use Rattle.vring_walk.specs.declared.rules.Met.{Met}
use Rattle.vring_walk.specs.declared.table.Table.{Table}
use Rattle.vring_walk.specs.Chain.{Place, segment_of, table_of}
use Rattle.vring_walk.proofs.KeptRules.{keeps_rules}
use Rattle.vring_walk.proofs.Paths.{path_length, entries_fit}
use Rattle.vring_walk.proofs.Walks.{met_more, bytes_length, desc_in, told_of, in_words, walk_fails, walk_starts, walk_into, walk_along, walk_ends}
use Rattle.vring_walk.proofs.Stretches.{nowhere_tells}
use Rattle.vring_walk.proofs.Rooms.{take_front}
use Rattle.vring_walk.proofs.walk.walk.Goals as goal

pub loop-init : goal.loop-init
loop-init c =
    let own = c.own-table.ensures in
    record {
      walked = in_words (byte_at c.args.mem.now) (covers c.args.mem.now.regions) c.args.ring.now c.args.head c.args.room.now _ _ _ _ _ _ 0
          (walk_starts (byte_at c.args.mem.now) (covers c.args.mem.now.regions) c.args.ring.now c.args.head c.args.room.now c.requires.inside c.requires.good.desc c.requires.few)
          (ap (λ (t : Table). record { table = t; index = c.args.head }) own) c.nothing-met.ensures refl;
      bytes = c.table_bytes-bytes.ensures;
      near = nowhere_tells c.args.mem.now.regions;
    }

pub entry-desc-requires : goal.entry-desc-requires
entry-desc-requires c =
    let inside = c.loop.invariant.walked.inside in
    let len = ap length c.loop.invariant.bytes ∙ bytes_length (byte_at c.args.mem.now) c.loop.table.addr (16 * c.loop.table.entries) in
    omega arith

-- a rule that is broken
pub returns-in-Some-clause-fault : goal.returns-in-Some-clause-fault
returns-in-Some-clause-fault c =
    let at : Place = record { table = c.loop.table; index = c.loop.index } in
    let same = c.entry-desc.ensures ∙ desc_in c.byte_laws.ensures.parts (byte_at c.args.mem.now) at c.loop.bytes.now c.loop.invariant.bytes c.loop.invariant.walked.inside in
    let told = told_of (byte_at c.args.mem.now) (covers c.args.mem.now.regions) c.args.ring.now c.args.head c.args.room.now at c.loop.met c.entry-desc.result c.covers_near-mapped.result (Some c.in-Some.fault)
    same (c.covers_near-mapped.ensures.covered ∙ ap (λ n. covers c.args.mem.now.regions c.entry-desc.result.addr n) c.from-in-loop.ensures) (sym c.in-Some.is ∙ c.broken_rule.ensures) in
    walk_fails (byte_at c.args.mem.now) (covers c.args.mem.now.regions) c.args.ring.now c.args.head c.args.room.now at c.loop.met c.loop.room c.loop.counter c.in-Some.fault c.loop.invariant.walked told

pub returns-in-Some-clause-kept : goal.returns-in-Some-clause-kept
returns-in-Some-clause-kept c = ap (take (length c.args.room.now)) c.loop.invariant.walked.room_is ∙ take_front (length c.args.room.now) 1024 c.args.room.now _ refl c.requires.few

-- a table that a descriptor refers to
pub loop-preserved-then-is_indirect : goal.loop-preserved-then-is_indirect
loop-preserved-then-is_indirect c =
    let at : Place = record { table = c.loop.table; index = c.loop.index } in
    let same = c.entry-desc.ensures ∙ desc_in c.byte_laws.ensures.parts (byte_at c.args.mem.now) at c.loop.bytes.now c.loop.invariant.bytes c.loop.invariant.walked.inside in
    let told = told_of (byte_at c.args.mem.now) (covers c.args.mem.now.regions) c.args.ring.now c.args.head c.args.room.now at c.loop.met c.entry-desc.result c.covers_near-mapped.result None
    same (c.covers_near-mapped.ensures.covered ∙ ap (λ n. covers c.args.mem.now.regions c.entry-desc.result.addr n) c.from-in-loop.ensures) (sym c.in_default.is ∙ c.broken_rule.ensures) in
    let refers = ap is_indirect (sym same) ∙ sym c.is_indirect.ensures ∙ c.if-is_indirect.true in
    record {
      walked = in_words (byte_at c.args.mem.now) (covers c.args.mem.now.regions) c.args.ring.now c.args.head c.args.room.now _ _ _ _ _ _ (c.loop.counter + 1)
          (walk_into (byte_at c.args.mem.now) (covers c.args.mem.now.regions) c.args.ring.now c.args.head c.args.room.now at c.loop.met c.loop.room c.loop.counter c.loop.invariant.walked told refers)
          (ap (λ (t : Table). record { table = t; index = 0 }) (c.of-table.ensures ∙ ap table_of same)) refl refl;
      bytes = c.table_bytes-bytes-then-is_indirect.ensures;
      near = c.covers_near-mapped.ensures.tells;
    }

-- a descriptor that is a segment
pub with-met-requires-clause-seen : goal.with-met-requires-clause-seen
with-met-requires-clause-seen c =
    let kept = keeps_rules (λ a n. c.covers_near-mapped.result) c.args.ring.now c.loop.table c.entry-desc.result c.loop.met.seen c.loop.met.count c.loop.met.writable (sym c.broken_rule.ensures ∙ c.in_default.is) in
    let room = kept.room in
    let most = entries_fit (byte_at c.args.mem.now) (covers c.args.mem.now.regions) c.args.ring.now c.args.head c.loop.invariant.walked.behind _ c.loop.invariant.walked.reached c.requires.good.most in
    omega arith

pub returns-then-not-has_next-clause-chain : goal.returns-then-not-has_next-clause-chain
returns-then-not-has_next-clause-chain c =
    let at : Place = record { table = c.loop.table; index = c.loop.index } in
    let same = c.entry-desc.ensures ∙ desc_in c.byte_laws.ensures.parts (byte_at c.args.mem.now) at c.loop.bytes.now c.loop.invariant.bytes c.loop.invariant.walked.inside in
    let told = told_of (byte_at c.args.mem.now) (covers c.args.mem.now.regions) c.args.ring.now c.args.head c.args.room.now at c.loop.met c.entry-desc.result c.covers_near-mapped.result None
    same (c.covers_near-mapped.ensures.covered ∙ ap (λ n. covers c.args.mem.now.regions c.entry-desc.result.addr n) c.from-in-loop.ensures) (sym c.in_default.is ∙ c.broken_rule.ensures) in
    let plain = ap is_indirect (sym same) ∙ sym c.is_indirect.ensures ∙ c.if-is_indirect.false in
    let off : c.has_next.result ≡ false = search rules in
    let last = ap has_next (sym same) ∙ sym c.has_next.ensures ∙ off in
    let e = walk_ends (byte_at c.args.mem.now) (covers c.args.mem.now.regions) c.args.ring.now c.args.head c.args.room.now at c.loop.met c.loop.room c.loop.counter c.loop.invariant.walked told plain last in
    let segment = c.segment_of-segment.ensures ∙ ap (λ (d : Desc). segment_of d) same in
    let room = c.add.ensures ∙ ap (λ (s : Segment). take 1024 (c.loop.room ++ s ∷ [])) segment in
    let count = ap (λ (m : Met). m.count) c.with-met.ensures in
    (e.0, e.1, count ∙ e.2, room ∙ e.3)

pub returns-then-not-has_next-clause-kept : goal.returns-then-not-has_next-clause-kept
returns-then-not-has_next-clause-kept c = let e = returns-then-not-has_next-clause-chain c in ap (take (length c.args.room.now)) e.3 ∙ take_front (length c.args.room.now) 1024 c.args.room.now _ refl c.requires.few

pub loop-preserved : goal.loop-preserved
loop-preserved c =
    let at : Place = record { table = c.loop.table; index = c.loop.index } in
    let same = c.entry-desc.ensures ∙ desc_in c.byte_laws.ensures.parts (byte_at c.args.mem.now) at c.loop.bytes.now c.loop.invariant.bytes c.loop.invariant.walked.inside in
    let told = told_of (byte_at c.args.mem.now) (covers c.args.mem.now.regions) c.args.ring.now c.args.head c.args.room.now at c.loop.met c.entry-desc.result c.covers_near-mapped.result None
    same (c.covers_near-mapped.ensures.covered ∙ ap (λ n. covers c.args.mem.now.regions c.entry-desc.result.addr n) c.from-in-loop.ensures) (sym c.in_default.is ∙ c.broken_rule.ensures) in
    let plain = ap is_indirect (sym same) ∙ sym c.is_indirect.ensures ∙ c.if-is_indirect.false in
    let on : c.has_next.result ≡ true = search rules in
    let next = ap has_next (sym same) ∙ sym c.has_next.ensures ∙ on in
    let segment = c.segment_of-segment.ensures ∙ ap (λ (d : Desc). segment_of d) same in
    record {
      walked = in_words (byte_at c.args.mem.now) (covers c.args.mem.now.regions) c.args.ring.now c.args.head c.args.room.now _ _ _ _ _ _ (c.loop.counter + 1)
          (walk_along (byte_at c.args.mem.now) (covers c.args.mem.now.regions) c.args.ring.now c.args.head c.args.room.now at c.loop.met c.loop.room c.loop.counter c.loop.invariant.walked told plain next)
          (ap (λ (d : Desc). record { table = c.loop.table; index = d.next }) same)
          (c.with-met.ensures ∙ ap (λ (s : Segment). met_more c.loop.met s.write) segment)
          (c.add.ensures ∙ ap (λ (s : Segment). take 1024 (c.loop.room ++ s ∷ [])) segment);
      bytes = c.loop.invariant.bytes;
      near = c.covers_near-mapped.ensures.tells;
    }

pub unreachable-requires : goal.unreachable-requires
unreachable-requires c =
    let most = path_length (byte_at c.args.mem.now) (covers c.args.mem.now.regions) c.args.ring.now c.args.head c.loop.invariant.walked.behind _ c.loop.invariant.walked.reached in
    let steps = c.loop.invariant.walked.steps_is in
    absurd (omega (arith, c.from.ensures))
