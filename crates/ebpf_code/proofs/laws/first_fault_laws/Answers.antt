use Rattle.std.proofs.Common.{subst}
use Rattle.ebpf_code.specs.FirstFault.{first_fault}
use Rattle.ebpf_code.proofs.FirstFault.{Answer, first_answer, first_is, none_is}
use Rattle.ebpf_code.proofs.laws.first_fault_laws.Goals as goal

pub returns-clause-first : goal.returns-clause-first
returns-clause-first c = λ bytes fault. (λ e. subst (Answer bytes) e (first_answer bytes), first_is bytes fault (first_fault bytes) (first_answer bytes))

pub returns-clause-none : goal.returns-clause-none
returns-clause-none c = λ bytes. (λ e. subst (Answer bytes) e (first_answer bytes), none_is bytes (first_fault bytes) (first_answer bytes))
