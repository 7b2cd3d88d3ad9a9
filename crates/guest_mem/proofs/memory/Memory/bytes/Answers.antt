use Rattle.guest_mem.proofs.Kept.{Holds, first_told, gap_told, holds_covered, holds_read, holds_looked_up}
use Rattle.guest_mem.proofs.memory.Memory.bytes.Goals as goal

pub returns-in-Ok-clause-covered : goal.returns-in-Ok-clause-covered
returns-in-Ok-clause-covered c =
    let held : Holds c.args.self.now c.self.inside.regions.items c.self.inside.blocks.items = record { is = c.self.view_is; kept = c.self.invariant } in
    holds_covered c.args.self.now c.self.inside.regions.items c.self.inside.blocks.items c.deref.result.now c.deref.ensures.value held c.args.addr c.args.len c.in-Ok.bytes.now c.in-Ok.ensures.len c.in-Ok.ensures.bytes

pub returns-in-Ok-clause-bytes : goal.returns-in-Ok-clause-bytes
returns-in-Ok-clause-bytes c =
    let held : Holds c.args.self.now c.self.inside.regions.items c.self.inside.blocks.items = record { is = c.self.view_is; kept = c.self.invariant } in
    holds_read c.args.self.now c.self.inside.regions.items c.self.inside.blocks.items c.deref.result.now c.deref.ensures.value held c.args.addr c.args.len c.in-Ok.bytes.now c.in-Ok.ensures.len c.in-Ok.ensures.bytes

pub returns-in-Ok-clause-looked_up : goal.returns-in-Ok-clause-looked_up
returns-in-Ok-clause-looked_up c =
    let held : Holds c.args.self.now c.self.inside.regions.items c.self.inside.blocks.items = record { is = c.self.view_is; kept = c.self.invariant } in
    holds_looked_up c.args.self.now c.self.inside.regions.items c.self.inside.blocks.items c.deref.result.now c.deref.ensures.value held c.args.addr c.args.len c.in-Ok.bytes.now c.in-Ok.ensures.len c.in-Ok.ensures.bytes

pub returns-in-Err-clause-covered : goal.returns-in-Err-clause-covered
returns-in-Err-clause-covered c =
    let held : Holds c.args.self.now c.self.inside.regions.items c.self.inside.blocks.items = record { is = c.self.view_is; kept = c.self.invariant } in
    gap_told c.args.self.now c.self.inside.regions.items c.self.inside.blocks.items c.deref.result.now c.deref.ensures.value held c.args.addr c.args.len c.in-Err.first_bad c.in-Err.ensures.bad

pub returns-in-Err-clause-bad : goal.returns-in-Err-clause-bad
returns-in-Err-clause-bad c =
    let held : Holds c.args.self.now c.self.inside.regions.items c.self.inside.blocks.items = record { is = c.self.view_is; kept = c.self.invariant } in
    first_told c.args.self.now c.self.inside.regions.items c.self.inside.blocks.items c.deref.result.now c.deref.ensures.value held c.args.addr c.args.len c.in-Err.first_bad c.in-Err.ensures.bad
