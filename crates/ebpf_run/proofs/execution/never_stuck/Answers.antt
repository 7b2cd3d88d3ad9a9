use Rattle.ebpf_run.proofs.Good.{good_start}
use Rattle.ebpf_run.proofs.Runs.{ends, forward, reached, not_stuck}
use Rattle.ebpf_run.proofs.execution.never_stuck.Goals as goal

pub returns-clause-ends : goal.returns-clause-ends
returns-clause-ends c = λ program frame sound. ends program frame (c.program_laws.ensures program sound) (good_start program (c.program_laws.ensures program sound) frame)

pub returns-clause-forward : goal.returns-clause-forward
returns-clause-forward c = λ program frame place registers sound. forward program frame place registers

pub returns-clause-stuck : goal.returns-clause-stuck
returns-clause-stuck c = λ program frame steps place registers sound reaches.
    let runs = c.program_laws.ensures program sound in
    not_stuck program frame runs place registers (reached program frame runs (good_start program runs frame) steps place registers reaches)
