use Rattle.std.proofs.Common.{◌≡◌, ℕ, List, ◌+◌, ◌≤◌, length, take, drop, refl, sym, ◌∙◌, arith}
use Rattle.std.specs.Prelude.{Contains}
use Rattle.std.proofs.lemmas.Bool.{false≢true}
use Rattle.std.proofs.lemmas.Grind.{common_steps}
use Rattle.tap_outside.proofs.Calls.{count_rises, count_stays, given_is_taken, goes_on_well}
use Rattle.tap_outside.proofs.memory.MemSourceSource.read.Goals as goal

pub returns-then-is_listed-clause-fault : goal.returns-then-is_listed-clause-fault
returns-then-is_listed-clause-fault c =
    let listed : Contains c.self.inside.fails.items c.self.inside.calls = rw (← c.deref.ensures.value) (c.is_listed.ensures.listed.0 c.if-is_listed.true) in
    rw (← c.self.view_is) (count_rises c.self.inside.fails.items c.self.inside.calls _ c.saturating_add-self-inside.ensures (c.is_listed.ensures.small c.if-is_listed.true) listed)

pub returns-clause-no_fault : goal.returns-clause-no_fault
returns-clause-no_fault c =
    let unlisted : Contains c.self.inside.fails.items c.self.inside.calls → ⊥ = λ h. false≢true (sym c.if-is_listed.false ∙ c.is_listed.ensures.listed.1 (rw c.deref.ensures.value h)) in
    rw (← c.self.view_is) (count_stays c.self.inside.fails.items c.self.inside.calls _ c.saturating_add-self-inside.ensures (omega arith) unlisted)

pub returns-clause-taken : goal.returns-clause-taken
returns-clause-taken c =
    let left : List ℕ = drop c.self.inside.given c.self.inside.bytes.items in
    let n : ℕ = c.min-n.result in
    let fits : n ≤ length left = grind (arith, common_steps) in
    let piece : c.copy_from_slice.new.self ≡ take n left = grind (arith, common_steps) in
    let rest : drop (c.self.inside.given + n) c.self.inside.bytes.items ≡ drop n left = grind (arith, common_steps) in
    rw (← c.self.view_is) (given_is_taken left _ c.copy_from_slice.new.self (drop n c.args.room.now) n fits piece rest)

pub returns-clause-well : goal.returns-clause-well
returns-clause-well c well some =
    let left : List ℕ = drop c.self.inside.given c.self.inside.bytes.items in
    let n : ℕ = c.min-n.result in
    let fits : n ≤ length left = grind (arith, common_steps) in
    let same : length c.args.self.now.left ≡ length left = rw (← c.self.view_is) refl in
    let calls : c.args.self.now.calls ≡ c.self.inside.calls = rw (← c.self.view_is) refl in
    let rest : length (drop (c.self.inside.given + n) c.self.inside.bytes.items) + n ≡ length left = grind (arith, common_steps) in
    let listed : c.args.self.now.fails ≡ c.self.inside.fails.items = rw (← c.self.view_is) refl in
    rw listed at (goes_on_well c.args.self.now (drop (c.self.inside.given + n) c.self.inside.bytes.items) c.saturating_add-self-inside.result
    (rw calls c.saturating_add-self-inside.ensures) (omega arith) (omega arith) (omega arith) well)
