use Rattle.std.proofs.Common.{List, length, is_ok, subst, sym, ap, ◌∙◌}
use Rattle.std.proofs.lemmas.List.{with_items_is}
use Rattle.guest_mem.specs.declared.block.Block.{Block}
use Rattle.guest_mem.specs.Memory.{Contents, written, CoversBy}
use Rattle.guest_mem.specs.Blocks.{byte_in, bytes_of, AreWritten, IsKept}
use Rattle.guest_mem.proofs.Bytes.{kept_after, bytes_of-written}
use Rattle.guest_mem.proofs.Kept.{Holds, covers_told, first_told, gap_told}
use Rattle.guest_mem.proofs.memory.Memory.write.Goals as goal
use Rattle.guest_mem.proofs.memory.Memory.write.Goals.{in-Ok, in-Err}

pub invariant_of-self : goal.invariant_of-self
invariant_of-self c =
    let items = with_items_is c.self.inside.blocks c.write_at.new.blocks (c.write_at.auto.blocks ∙ c.deref_mut.ensures.len) in
    subst (λ (bs : List Block). IsKept c.self.inside.regions.items bs) (sym items)
    (elim c.match-write_at.branch [
      | in-Ok w ↦ kept_after c.self.inside.regions.items c.self.inside.blocks.items c.deref_mut.result.now c.write_at.new.blocks c.args.addr _ c.deref_mut.ensures.value c.self.invariant w.in-Ok.ensures.written w.in-Ok.ensures.covered
      | in-Err w ↦
          subst (λ (bs : List Block). IsKept c.self.inside.regions.items bs) (sym (w.in-Err.ensures.unchanged ∙ c.deref_mut.ensures.value)) c.self.invariant
    ])

pub returns-clause-covered : goal.returns-clause-covered
returns-clause-covered c =
    let held : Holds c.args.self.now c.self.inside.regions.items c.self.inside.blocks.items = record { is = c.self.view_is; kept = c.self.invariant } in
    elim c.match-write_at.branch [
      | in-Ok w ↦ ap is_ok w.result-is ∙ covers_told c.args.self.now c.self.inside.regions.items c.self.inside.blocks.items c.deref_mut.result.now c.deref_mut.ensures.value held c.args.addr (length c.args.bytes.now) w.in-Ok.ensures.covered
      | in-Err w ↦ ap is_ok w.result-is ∙ gap_told c.args.self.now c.self.inside.regions.items c.self.inside.blocks.items c.deref_mut.result.now c.deref_mut.ensures.value held c.args.addr (length c.args.bytes.now) w.in-Err.first_bad w.in-Err.ensures.bad
    ]

pub returns-clause-written : goal.returns-clause-written
returns-clause-written c = elim c.match-write_at.branch [
  | in-Ok w ↦
      let items = with_items_is c.self.inside.blocks c.write_at.new.blocks (c.write_at.auto.blocks ∙ c.deref_mut.ensures.len) in
      let done = subst (λ (bs : List Block). AreWritten bs c.write_at.new.blocks c.args.addr c.args.bytes.now) c.deref_mut.ensures.value w.in-Ok.ensures.written in
      let covered = subst (λ (bs : List Block). CoversBy (byte_in bs) c.args.addr (length c.args.bytes.now)) c.deref_mut.ensures.value w.in-Ok.ensures.covered in
      let bytes = ap bytes_of items ∙ bytes_of-written c.self.inside.regions.items c.self.inside.blocks.items c.write_at.new.blocks c.args.addr c.args.bytes.now c.self.invariant done covered in
      rw w.result-is ((λ i. record { regions = c.self.inside.regions.items; bytes = bytes i }) ∙ ap (λ (m : Contents). written m c.args.addr c.args.bytes.now) c.self.view_is)
  | in-Err w ↦ rw w.result-is tt
]

pub returns-clause-bad : goal.returns-clause-bad
returns-clause-bad c =
    let held : Holds c.args.self.now c.self.inside.regions.items c.self.inside.blocks.items = record { is = c.self.view_is; kept = c.self.invariant } in
    elim c.match-write_at.branch [
      | in-Ok w ↦ rw w.result-is tt
      | in-Err w ↦ rw w.result-is (first_told c.args.self.now c.self.inside.regions.items c.self.inside.blocks.items c.deref_mut.result.now c.deref_mut.ensures.value held c.args.addr (length c.args.bytes.now) w.in-Err.first_bad w.in-Err.ensures.bad)
    ]
