-- Each example is computed.
use Rattle.std.proofs.Common.{refl}
use Rattle.tap_flow_key.specs.FlowKey.{key}
use Rattle.ebpf_code.specs.Encoding as encoding
use Rattle.ebpf_code.specs.Faults as faults
use Rattle.ebpf_code.specs.Instruction as instruction
use Rattle.ebpf_run.specs.Meaning as meaning
use Rattle.tap_steer.specs.Table as table
use Rattle.tap_steer.specs.Rules as rules
use Rattle.tap_steer.specs.After as after
use Rattle.tap_steer.specs.Select as select
use Rattle.tap_steer.proofs.laws.worked_examples.Goals as goal

pub returns-clause-queues : goal.returns-clause-queues
unfolding table.first rules.refuse rules.set_iff_rules rules.attach_rules rules.detach_rules after.set_iff after.attach_queue after.detach_queue after.shut after.set_device after.learn after.tick after.back after.resize select.select key meaning.step meaning.result_of faults.is_second faults.instruction_at instruction.operation_of encoding.encoding_at
returns-clause-queues c = (refl, refl)

pub returns-clause-no_queue : goal.returns-clause-no_queue
unfolding table.first rules.refuse rules.set_iff_rules rules.attach_rules rules.detach_rules after.set_iff after.attach_queue after.detach_queue after.shut after.set_device after.learn after.tick after.back after.resize select.select key meaning.step meaning.result_of faults.is_second faults.instruction_at instruction.operation_of encoding.encoding_at
returns-clause-no_queue c = (refl, refl)

pub returns-clause-flags : goal.returns-clause-flags
unfolding table.first rules.refuse rules.set_iff_rules rules.attach_rules rules.detach_rules after.set_iff after.attach_queue after.detach_queue after.shut after.set_device after.learn after.tick after.back after.resize select.select key meaning.step meaning.result_of faults.is_second faults.instruction_at instruction.operation_of encoding.encoding_at
returns-clause-flags c = (refl, refl)

pub returns-clause-replies : goal.returns-clause-replies
unfolding table.first rules.refuse rules.set_iff_rules rules.attach_rules rules.detach_rules after.set_iff after.attach_queue after.detach_queue after.shut after.set_device after.learn after.tick after.back after.resize select.select key meaning.step meaning.result_of faults.is_second faults.instruction_at instruction.operation_of encoding.encoding_at
returns-clause-replies c = (refl, refl)

pub returns-clause-flows : goal.returns-clause-flows
unfolding table.first rules.refuse rules.set_iff_rules rules.attach_rules rules.detach_rules after.set_iff after.attach_queue after.detach_queue after.shut after.set_device after.learn after.tick after.back after.resize select.select key meaning.step meaning.result_of faults.is_second faults.instruction_at instruction.operation_of encoding.encoding_at
returns-clause-flows c = (refl, refl)

pub returns-clause-programs : goal.returns-clause-programs
unfolding table.first rules.refuse rules.set_iff_rules rules.attach_rules rules.detach_rules after.set_iff after.attach_queue after.detach_queue after.shut after.set_device after.learn after.tick after.back after.resize select.select key meaning.step meaning.result_of faults.is_second faults.instruction_at instruction.operation_of encoding.encoding_at
returns-clause-programs c = (refl, refl)

pub returns-clause-drops : goal.returns-clause-drops
unfolding table.first rules.refuse rules.set_iff_rules rules.attach_rules rules.detach_rules after.set_iff after.attach_queue after.detach_queue after.shut after.set_device after.learn after.tick after.back after.resize select.select key meaning.step meaning.result_of faults.is_second faults.instruction_at instruction.operation_of encoding.encoding_at
returns-clause-drops c = (refl, refl)

pub returns-clause-persistence : goal.returns-clause-persistence
unfolding table.first rules.refuse rules.set_iff_rules rules.attach_rules rules.detach_rules after.set_iff after.attach_queue after.detach_queue after.shut after.set_device after.learn after.tick after.back after.resize select.select key meaning.step meaning.result_of faults.is_second faults.instruction_at instruction.operation_of encoding.encoding_at
returns-clause-persistence c = (refl, refl)

pub returns-clause-resizes : goal.returns-clause-resizes
unfolding table.first rules.refuse rules.set_iff_rules rules.attach_rules rules.detach_rules after.set_iff after.attach_queue after.detach_queue after.shut after.set_device after.learn after.tick after.back after.resize select.select key meaning.step meaning.result_of faults.is_second faults.instruction_at instruction.operation_of encoding.encoding_at
returns-clause-resizes c = refl
