use Rattle.std.proofs.Common.{◌≡◌, Some, ap, sym, ◌∙◌}
use Rattle.std.proofs.lemmas.Result.{err_from_is_err_and}
use Rattle.ebpf_code.specs.declared.fault.CodeFault.{CodeFault}
use Rattle.ebpf_code.specs.Faults.{IsFirstFault}
use Rattle.ebpf_code.specs.FirstFault.{first_fault}
use Rattle.tap_ground.specs.declared.error.OrMemory.{OrMemory}
use Rattle.tap_ground.specs.declared.error.OrMemory.TheVariants.{Fault, NoMemory}
use Rattle.tap_ground.specs.Errors.{IfFault}
use Rattle.scen_words.specs.Commands.{bytes_at}
use Rattle.scen_words.proofs.meaning.program.Goals as goal

each_fault : (P Q : CodeFault → Type 0) → ((f : CodeFault) → P f → Q f) → (e : OrMemory CodeFault) → IfFault P e → IfFault Q e
each_fault P Q h (Fault f) p = h f p
each_fault P Q h NoMemory p = tt

pub returns-in_err-code-clause-refused : goal.returns-in_err-code-clause-refused
returns-in_err-code-clause-refused c =
    let p = err_from_is_err_and c.from_residual-in_err-code.result c.from_residual-in_err-code.ensures.1 in
    let same : bytes_at c.args.values.now 1 ≡ c.as_slice.result.now = sym (c.as_slice.ensures ∙ c.in_ok-bytes.ensures) in
    rw (p.1, p.2) (each_fault (IsFirstFault c.as_slice.result.now) (λ f. first_fault (bytes_at c.args.values.now 1) ≡ Some f)
    (λ f h. ap first_fault same ∙ (c.first_fault_laws.ensures.first c.as_slice.result.now f).1 h) c.in_err-code.field-0.0 c.in_err-code.ensures.refused)
