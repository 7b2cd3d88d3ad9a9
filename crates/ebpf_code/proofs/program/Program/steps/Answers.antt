use Rattle.std.proofs.Common.{rules, subst, ◌≡◌}
use Rattle.ebpf_code.specs.Sound.{IsSound}
use Rattle.ebpf_code.specs.Step.{AreSteps}
use Rattle.ebpf_code.proofs.Sound.{faultless_sound}
use Rattle.ebpf_code.proofs.AtPlaces.{are_steps}
use Rattle.ebpf_code.proofs.program.Program.steps.Goals as goal

pub returns-clause-steps : goal.returns-clause-steps
returns-clause-steps c =
    let same : c.self.inside.steps.items ≡ c.deref.result.now = search rules in
    subst (AreSteps c.args.self.now) same
    (subst (λ bytes. AreSteps bytes c.self.inside.steps.items) c.self.view_is (are_steps _ _ c.self.invariant.0 c.self.invariant.1))

pub returns-clause-runs : goal.returns-clause-runs
returns-clause-runs c = subst IsSound c.self.view_is (faultless_sound _ c.self.invariant.0.sound)
