use Rattle.std.proofs.Common.{◌+◌, arith, sym, ◌∙◌, length}
use Rattle.std.specs.Prelude.{IsTrue}
use Rattle.ebpf_code.specs.Encoding.{encoding_at}
use Rattle.ebpf_code.specs.Instruction.{goes_backward}
use Rattle.ebpf_code.specs.Faults.{ReadsUnset, slot_count, misuses_register, goes_beyond, lacks_exit, enters_wide, misuses_field}
use Rattle.ebpf_code.specs.Sets.{read}
use Rattle.ebpf_code.proofs.Checks.{least, none_left, Passed, at_from, counted, found_at, unset_found, unset_none, entered}
use Rattle.ebpf_code.proofs.check.check.Goals as goal

pub returns-then-misuses_register-clause-fault : goal.returns-then-misuses_register-clause-fault
returns-then-misuses_register-clause-fault c =
    let bytes = c.args.bytes.now in
    let place = c.args.place in
    let m = length c.args.seconds.now in
    let i = read c.in-Some.decoded in
    let found = found_at bytes m place i c.requires.seconds.aligned c.requires.within c.requires.begins c.in-Some.ensures in
    let passed : Passed bytes m place 3 i = record {
      found = found;
      registers = λ h. absurd (omega arith);
      forward = λ h. absurd (omega arith);
      within = λ h. absurd (omega arith);
      set = λ h u. absurd (omega arith);
      exit = λ h. absurd (omega arith);
      whole = λ h. absurd (omega arith);
      fields = λ h. absurd (omega arith);
    } in
    (at_from bytes place i (λ j. IsTrue (misuses_register j)) found (sym c.if-misuses_register.ensures), least bytes m place 3 i c.requires.seconds.aligned c.requires.within c.requires.few passed)

pub returns-then-goes_backward-clause-fault : goal.returns-then-goes_backward-clause-fault
returns-then-goes_backward-clause-fault c =
    let bytes = c.args.bytes.now in
    let place = c.args.place in
    let m = length c.args.seconds.now in
    let i = read c.in-Some.decoded in
    let found = found_at bytes m place i c.requires.seconds.aligned c.requires.within c.requires.begins c.in-Some.ensures in
    let passed : Passed bytes m place 4 i = record {
      found = found;
      registers = λ h. sym c.if-misuses_register.ensures;
      forward = λ h. absurd (omega arith);
      within = λ h. absurd (omega arith);
      set = λ h u. absurd (omega arith);
      exit = λ h. absurd (omega arith);
      whole = λ h. absurd (omega arith);
      fields = λ h. absurd (omega arith);
    } in
    (at_from bytes place i (λ j. IsTrue (goes_backward j)) found (sym c.if-goes_backward.ensures), least bytes m place 4 i c.requires.seconds.aligned c.requires.within c.requires.few passed)

pub returns-then-goes_beyond-clause-fault : goal.returns-then-goes_beyond-clause-fault
returns-then-goes_beyond-clause-fault c =
    let bytes = c.args.bytes.now in
    let place = c.args.place in
    let m = length c.args.seconds.now in
    let i = read c.in-Some.decoded in
    let found = found_at bytes m place i c.requires.seconds.aligned c.requires.within c.requires.begins c.in-Some.ensures in
    let passed : Passed bytes m place 5 i = record {
      found = found;
      registers = λ h. sym c.if-misuses_register.ensures;
      forward = λ h. sym c.if-goes_backward.ensures;
      within = λ h. absurd (omega arith);
      set = λ h u. absurd (omega arith);
      exit = λ h. absurd (omega arith);
      whole = λ h. absurd (omega arith);
      fields = λ h. absurd (omega arith);
    } in
    (at_from bytes place i (λ j. IsTrue (goes_beyond (slot_count bytes) place j)) found (counted bytes m place goes_beyond i c.requires.seconds.aligned (sym c.if-goes_beyond.ensures)), least bytes m place 5 i c.requires.seconds.aligned c.requires.within c.requires.few passed)

pub returns-then-lacks_read-clause-fault : goal.returns-then-lacks_read-clause-fault
returns-then-lacks_read-clause-fault c =
    let bytes = c.args.bytes.now in
    let place = c.args.place in
    let m = length c.args.seconds.now in
    let i = read c.in-Some.decoded in
    let found = found_at bytes m place i c.requires.seconds.aligned c.requires.within c.requires.begins c.in-Some.ensures in
    let passed : Passed bytes m place 6 i = record {
      found = found;
      registers = λ h. sym c.if-misuses_register.ensures;
      forward = λ h. sym c.if-goes_backward.ensures;
      within = λ h. sym c.if-goes_beyond.ensures;
      set = λ h u. absurd (omega arith);
      exit = λ h. absurd (omega arith);
      whole = λ h. absurd (omega arith);
      fields = λ h. absurd (omega arith);
    } in
    (at_from bytes place i (ReadsUnset bytes place) found (unset_found bytes place c.args.kept.now i c.requires.kept (sym c.if-misuses_register.ensures) (sym c.if-lacks_read.ensures)), least bytes m place 6 i c.requires.seconds.aligned c.requires.within c.requires.few passed)

pub returns-then-lacks_exit-clause-fault : goal.returns-then-lacks_exit-clause-fault
returns-then-lacks_exit-clause-fault c =
    let bytes = c.args.bytes.now in
    let place = c.args.place in
    let m = length c.args.seconds.now in
    let i = read c.in-Some.decoded in
    let found = found_at bytes m place i c.requires.seconds.aligned c.requires.within c.requires.begins c.in-Some.ensures in
    let passed : Passed bytes m place 7 i = record {
      found = found;
      registers = λ h. sym c.if-misuses_register.ensures;
      forward = λ h. sym c.if-goes_backward.ensures;
      within = λ h. sym c.if-goes_beyond.ensures;
      set = λ h. unset_none bytes place c.args.kept.now i c.requires.kept (sym c.if-misuses_register.ensures) (sym c.if-lacks_read.ensures);
      exit = λ h. absurd (omega arith);
      whole = λ h. absurd (omega arith);
      fields = λ h. absurd (omega arith);
    } in
    (at_from bytes place i (λ j. IsTrue (lacks_exit (slot_count bytes) place j)) found (counted bytes m place lacks_exit i c.requires.seconds.aligned (sym c.if-lacks_exit.ensures)), least bytes m place 7 i c.requires.seconds.aligned c.requires.within c.requires.few passed)

pub returns-then-enters-clause-fault : goal.returns-then-enters-clause-fault
returns-then-enters-clause-fault c =
    let bytes = c.args.bytes.now in
    let place = c.args.place in
    let m = length c.args.seconds.now in
    let i = read c.in-Some.decoded in
    let found = found_at bytes m place i c.requires.seconds.aligned c.requires.within c.requires.begins c.in-Some.ensures in
    let passed : Passed bytes m place 8 i = record {
      found = found;
      registers = λ h. sym c.if-misuses_register.ensures;
      forward = λ h. sym c.if-goes_backward.ensures;
      within = λ h. sym c.if-goes_beyond.ensures;
      set = λ h. unset_none bytes place c.args.kept.now i c.requires.kept (sym c.if-misuses_register.ensures) (sym c.if-lacks_read.ensures);
      exit = λ h. sym c.if-lacks_exit.ensures;
      whole = λ h. absurd (omega arith);
      fields = λ h. absurd (omega arith);
    } in
    (at_from bytes place i (λ j. IsTrue (enters_wide bytes place j)) found (entered bytes c.args.seconds.now place i c.requires.seconds ∙ sym c.if-enters.ensures), least bytes m place 8 i c.requires.seconds.aligned c.requires.within c.requires.few passed)

pub returns-then-misuses_field-clause-fault : goal.returns-then-misuses_field-clause-fault
returns-then-misuses_field-clause-fault c =
    let bytes = c.args.bytes.now in
    let place = c.args.place in
    let m = length c.args.seconds.now in
    let i = read c.in-Some.decoded in
    let found = found_at bytes m place i c.requires.seconds.aligned c.requires.within c.requires.begins c.in-Some.ensures in
    let passed : Passed bytes m place 10 i = record {
      found = found;
      registers = λ h. sym c.if-misuses_register.ensures;
      forward = λ h. sym c.if-goes_backward.ensures;
      within = λ h. sym c.if-goes_beyond.ensures;
      set = λ h. unset_none bytes place c.args.kept.now i c.requires.kept (sym c.if-misuses_register.ensures) (sym c.if-lacks_read.ensures);
      exit = λ h. sym c.if-lacks_exit.ensures;
      whole = λ h. entered bytes c.args.seconds.now place i c.requires.seconds ∙ sym c.if-enters.ensures;
      fields = λ h. absurd (omega arith);
    } in
    (at_from bytes place i (λ j. IsTrue (misuses_field j (encoding_at bytes (place + 1)))) found (sym c.if-misuses_field.ensures), least bytes m place 10 i c.requires.seconds.aligned c.requires.within c.requires.few passed)

pub returns-clause-found : goal.returns-clause-found
returns-clause-found c =
    found_at c.args.bytes.now (length c.args.seconds.now) c.args.place (read c.in-Some.decoded) c.requires.seconds.aligned c.requires.within c.requires.begins c.in-Some.ensures

pub returns-clause-none : goal.returns-clause-none
returns-clause-none c =
    let bytes = c.args.bytes.now in
    let place = c.args.place in
    let m = length c.args.seconds.now in
    let i = read c.in-Some.decoded in
    let found = found_at bytes m place i c.requires.seconds.aligned c.requires.within c.requires.begins c.in-Some.ensures in
    let passed : Passed bytes m place 11 i = record {
      found = found;
      registers = λ h. sym c.if-misuses_register.ensures;
      forward = λ h. sym c.if-goes_backward.ensures;
      within = λ h. sym c.if-goes_beyond.ensures;
      set = λ h. unset_none bytes place c.args.kept.now i c.requires.kept (sym c.if-misuses_register.ensures) (sym c.if-lacks_read.ensures);
      exit = λ h. sym c.if-lacks_exit.ensures;
      whole = λ h. entered bytes c.args.seconds.now place i c.requires.seconds ∙ sym c.if-enters.ensures;
      fields = λ h. sym c.if-misuses_field.ensures;
    } in
    none_left bytes m place i c.requires.seconds.aligned c.requires.within c.requires.few passed
