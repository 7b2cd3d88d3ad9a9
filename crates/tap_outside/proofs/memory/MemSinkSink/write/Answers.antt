use Rattle.std.proofs.Common.{sym, ◌∙◌, arith}
use Rattle.std.specs.Prelude.{Contains}
use Rattle.std.proofs.lemmas.Bool.{false≢true}
use Rattle.tap_outside.proofs.Calls.{count_rises, count_stays}
use Rattle.tap_outside.proofs.memory.MemSinkSink.write.Goals as goal

pub returns-then-is_listed-clause-fault : goal.returns-then-is_listed-clause-fault
returns-then-is_listed-clause-fault c _ =
    let listed : Contains c.self.inside.fails.items c.self.inside.calls = rw (← c.deref.ensures.value) (c.is_listed.ensures.listed.0 c.if-is_listed.true) in
    rw (← c.self.view_is) (count_rises c.self.inside.fails.items c.self.inside.calls _ c.saturating_add-self-inside.ensures (c.is_listed.ensures.small c.if-is_listed.true) listed)

pub returns-in_err-extend_from_slice-clause-no_memory : goal.returns-in_err-extend_from_slice-clause-no_memory
returns-in_err-extend_from_slice-clause-no_memory c _ =
    let unlisted : Contains c.self.inside.fails.items c.self.inside.calls → ⊥ = λ h. false≢true (sym c.if-is_listed.false ∙ c.is_listed.ensures.listed.1 (rw c.deref.ensures.value h)) in
    rw (← c.self.view_is) (count_stays c.self.inside.fails.items c.self.inside.calls _ c.saturating_add-self-inside.ensures (omega arith) unlisted)

pub returns-clause-no_fault : goal.returns-clause-no_fault
returns-clause-no_fault c =
    let unlisted : Contains c.self.inside.fails.items c.self.inside.calls → ⊥ = λ h. false≢true (sym c.if-is_listed.false ∙ c.is_listed.ensures.listed.1 (rw c.deref.ensures.value h)) in
    rw (← c.self.view_is) (count_stays c.self.inside.fails.items c.self.inside.calls _ c.saturating_add-self-inside.ensures (omega arith) unlisted)
