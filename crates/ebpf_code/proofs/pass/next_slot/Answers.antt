use Rattle.std.proofs.Common.{rules, arith, sym, ◌∙◌, subst, length, Some, None, true, false, ◌+◌, ◌<◌, ◌≡◌}
use Rattle.ebpf_code.specs.declared.fault.CodeWhy.TheVariants.{Register, Beyond, NoExit, Field}
use Rattle.ebpf_code.specs.Encoding.{encoding_at}
use Rattle.ebpf_code.specs.Faults.{is_second, misuses_register, misuses_field, goes_beyond, lacks_exit}
use Rattle.ebpf_code.specs.Sets.{read, kept_at}
use Rattle.ebpf_code.proofs.Places.{none_of}
use Rattle.ebpf_code.proofs.Checks.{clean, clean_count, registers_fit}
use Rattle.ebpf_code.proofs.Whole.{second_none}
use Rattle.ebpf_code.proofs.Kept.{kept_past, kept_spread, kept_unreached}
use Rattle.ebpf_code.proofs.pass.next_slot.Goals as goal
use Rattle.ebpf_code.proofs.pass.next_slot.Goals.{in-Some, in_default}

pub returns-then-seconds-place-clause-none : goal.returns-then-seconds-place-clause-none
returns-then-seconds-place-clause-none c =
    let some : 0 < length c.args.seconds.now = omega arith in
    let second : is_second c.args.bytes.now c.args.place ≡ true = sym (c.requires.seconds.each c.args.place c.requires.within) ∙ c.if-seconds-place.true in
    second_none c.args.bytes.now (length c.args.seconds.now) c.args.place c.requires.seconds.aligned some c.requires.few second

pub returns-then-seconds-place-clause-kept : goal.returns-then-seconds-place-clause-kept
returns-then-seconds-place-clause-kept c =
    let second : is_second c.args.bytes.now c.args.place ≡ true = sym (c.requires.seconds.each c.args.place c.requires.within) ∙ c.if-seconds-place.true in
    kept_past c.args.bytes.now c.args.place c.args.sets.now c.requires.kept (none_of c.args.bytes.now c.args.place second)

pub spread-requires-clause-within : goal.spread-requires-clause-within
spread-requires-clause-within c =
    subst (λ m. goes_beyond m c.args.place (read c.in-Ok.decoded) ≡ false) (sym c.requires.sets)
    (clean_count c.args.bytes.now (length c.args.seconds.now) c.args.place (read c.in-Ok.decoded) goes_beyond c.requires.seconds.aligned c.in-Ok.ensures.found (c.in-Ok.ensures.none Beyond))

pub spread-requires-clause-exit : goal.spread-requires-clause-exit
spread-requires-clause-exit c =
    subst (λ m. lacks_exit m c.args.place (read c.in-Ok.decoded) ≡ false) (sym c.requires.sets)
    (clean_count c.args.bytes.now (length c.args.seconds.now) c.args.place (read c.in-Ok.decoded) lacks_exit c.requires.seconds.aligned c.in-Ok.ensures.found (c.in-Ok.ensures.none NoExit))

pub instruction-requires-clause-destination : goal.instruction-requires-clause-destination
instruction-requires-clause-destination c =
    let bytes = c.args.bytes.now in
    let place = c.args.place in
    let i = read c.in-Ok.decoded in
    let next = encoding_at bytes (place + 1) in
    (registers_fit i next (clean bytes place i misuses_register c.in-Ok.ensures.found (c.in-Ok.ensures.none Register)) (clean bytes place i (λ j. misuses_field j next) c.in-Ok.ensures.found (c.in-Ok.ensures.none Field))).0

pub instruction-requires-clause-source : goal.instruction-requires-clause-source
instruction-requires-clause-source c =
    let bytes = c.args.bytes.now in
    let place = c.args.place in
    let i = read c.in-Ok.decoded in
    let next = encoding_at bytes (place + 1) in
    (registers_fit i next (clean bytes place i misuses_register c.in-Ok.ensures.found (c.in-Ok.ensures.none Register)) (clean bytes place i (λ j. misuses_field j next) c.in-Ok.ensures.found (c.in-Ok.ensures.none Field))).1

pub returns-clause-kept : goal.returns-clause-kept
returns-clause-kept c =
    let bytes = c.args.bytes.now in
    let place = c.args.place in
    let here : place < length c.args.sets.now = omega arith in
    elim c.match-kept.branch [
      | in-Some w ↦
          let was : kept_at c.args.sets.now place ≡ Some w.in-Some.set = search rules in
          rw w.sets-is (kept_spread bytes place (read c.in-Ok.decoded) w.in-Some.set w.after-after.result c.args.sets.now w.spread.new.sets c.in-Ok.ensures.found c.requires.kept here w.spread.auto.sets was w.after-after.ensures w.spread.ensures.next w.spread.ensures.others)
      | in_default w ↦
          let was : kept_at c.args.sets.now place ≡ None = search rules in
          rw w.sets-is (kept_unreached bytes place c.args.sets.now c.requires.kept here was)
    ]
