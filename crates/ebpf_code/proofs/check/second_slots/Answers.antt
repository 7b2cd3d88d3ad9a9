use Rattle.std.proofs.Common.{rules, arith, sym, ◌∙◌, ap, not, ◌&&◌, ◌*◌, get_or}
use Rattle.std.proofs.lemmas.Bool.{ne_eqb, and_left}
use Rattle.std.specs.Prelude.{◌==◌}
use Rattle.ebpf_code.specs.Faults.{is_second}
use Rattle.ebpf_code.proofs.Places.{is_second_first, is_second_next, flags_more}
use Rattle.ebpf_code.proofs.check.second_slots.Goals as goal
use Rattle.ebpf_code.proofs.check.second_slots.Goals.{then-bytes-place-eq24, else-bytes-place-eq24}

pub loop-place-init : goal.loop-place-init
loop-place-init c = record {
  long = search rules;
  each = λ p h. absurd (omega arith);
  now = sym (is_second_first c.args.bytes.now);
}

pub loop-place-preserved : goal.loop-place-preserved
loop-place-preserved c = record {
  long = search rules;
  each = rw c.in_ok-push.ensures.items (flags_more c.args.bytes.now c.loop-place.flags.items c.loop-place.place c.loop-place.second c.loop-place.invariant.long c.loop-place.invariant.each c.loop-place.invariant.now);
  now =
      let bytes = c.args.bytes.now in
      let place = c.loop-place.place in
      let was = c.loop-place.invariant.now in
      let byte = get_or bytes (8 * place) 0 in
      rw (is_second_next bytes place) (elim c.if-bytes-place-eq24.branch [
        | then-bytes-place-eq24 w ↦ w.second-is ∙ ap not was ∙ sym (ap (λ n. (n == 24) && not (is_second bytes place)) w.if-bytes-place-eq24.true)
        | else-bytes-place-eq24 w ↦ let no = ne_eqb byte 24 w.if-bytes-place-eq24.false in w.second-is ∙ no ∙ sym (and_left (byte == 24) (not (is_second bytes place)) no)
      ]);
}
