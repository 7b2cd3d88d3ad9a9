-- What a control call answers, from what its device answered.
use Rattle.std.proofs.Common.{◌≡◌, ℕ, Bool, true, false, List, ◌∷◌, Option, Some, None, Result, refl, ap, sym, ◌∙◌, [], arith}
use Rattle.std.proofs.lemmas.Bool.Decides.{nat_tests}
use Rattle.guest_mem.specs.Memory.{Contents}
use Rattle.vhost_dev.specs.declared.error.VhostErr.{VhostErr}
use Rattle.vhost_dev.specs.declared.error.VhostErr.TheVariants.{EBUSY, EFAULT, EINVAL, ENOBUFS}
use Rattle.vhost_dev.specs.Calls.{answered, chosen}
use Rattle.vhost_dev.specs.Refusals.{addr_refusal, base_refusal, is_backed, is_bad_position, is_bad_size, is_no_ring, is_outside, is_unaligned, num_refusal, ready_refusal, is_astray}
use Rattle.vhost_dev.specs.Settings.{Settings, ring_at}
use Rattle.tap_ground.specs.Options.{first_that_holds as first_reason}
use Rattle.tap_trace.specs.declared.answer.Answer.{Answer}
use Rattle.tap_trace.specs.declared.answer.Answer.TheVariants as answer
use Rattle.tap_trace.specs.declared.kind.Kind.{Kind}
use Rattle.tap_world.specs.Guests.{Vhost, is_ring}
use Rattle.tap_world.specs.StepControl.{called, told_by}
use Rattle.tap_guests.specs.Words.{answer_to}

-- the answer that a call tells
pub told_is :
    (refusal : Option VhostErr) (made : Result (Unit {0}) VhostErr) (x : Answer)
    → made ≡ answered refusal tt → answer_to made ≡ Some x → told_by refusal answer.Done ≡ Some x
told_is None made x is told = sym (ap answer_to is) ∙ told
told_is (Some e) made x is told = sym (ap answer_to is) ∙ told

-- the whole call
pub call_is :
    (refusal : Option VhostErr) (t : Settings) (step : Option Kind) (v : Vhost) (m : Contents)
    (made : Result (Unit {0}) VhostErr) (x : Answer)
    → made ≡ answered refusal tt → answer_to made ≡ Some x
    → called refusal t answer.Done step v m ≡ Some (record {
      vhost = record v { settings = chosen refusal v.settings t };
      memory = m;
      answer = x;
      step = step;
    })
call_is refusal t step v m made x is told = rw (told_is refusal made x is told) refl

-- where a call isn't refused there is the ring
there :
    (ring : ℕ) (rest : List (Bool × VhostErr))
    → first_reason ((is_no_ring ring, ENOBUFS) ∷ rest) ≡ None → is_ring ring ≡ true
there ring rest h = is_there (is_no_ring ring) rest h refl where
  is_there : (b : Bool) (rest : List (Bool × VhostErr))
      → first_reason ((b, ENOBUFS) ∷ rest) ≡ None → is_no_ring ring ≡ b → is_ring ring ≡ true
  is_there true rest h is = absurd (cc)
  is_there false rest h is = grind (arith, nat_tests)

-- and where it wants one without a backend, that has none
not_backed :
    (a b : Bool) (e : VhostErr) (rest : List (Bool × VhostErr))
    → first_reason ((a, e) ∷ (b, EBUSY) ∷ rest) ≡ None → b ≡ false
not_backed true b e rest h = absurd (cc)
not_backed false true e rest h = absurd (cc)
not_backed false false e rest h = refl

-- the ring of a call that isn't refused: there is one, and it has no backend
pub record IsFree (ring : ℕ) (s : Settings) : Type 0 where
  pub there : is_ring ring ≡ true
  pub unbacked : is_backed (ring_at ring s) ≡ false

is_free :
    (ring : ℕ) (s : Settings) (rest : List (Bool × VhostErr))
    → first_reason ((is_no_ring ring, ENOBUFS) ∷ (is_backed (ring_at ring s), EBUSY) ∷ rest) ≡ None → IsFree ring s
is_free ring s rest h = record {
  there = there ring ((is_backed (ring_at ring s), EBUSY) ∷ rest) h;
  unbacked = not_backed (is_no_ring ring) (is_backed (ring_at ring s)) ENOBUFS rest h;
}

pub num_free : (ring num : ℕ) (s : Settings) → num_refusal ring num s ≡ None → IsFree ring s
num_free ring num s h = is_free ring s ((is_bad_size num, EINVAL) ∷ []) h

pub base_free : (ring base : ℕ) (s : Settings) → base_refusal ring base s ≡ None → IsFree ring s
base_free ring base s h = is_free ring s ((is_bad_position base, EINVAL) ∷ []) h

pub addr_free :
    (ring desc avail used : ℕ) (m : Contents) (s : Settings)
    → addr_refusal ring desc avail used m s ≡ None → IsFree ring s
addr_free ring desc avail used m s h = is_free ring s
    ((is_unaligned desc avail used, EINVAL)
    ∷ (is_outside (ring_at ring s).queue.layout.num desc avail used m, EFAULT) ∷ []) h

pub ready_free : (ring : ℕ) (m : Contents) (s : Settings) → ready_refusal ring m s ≡ None → IsFree ring s
ready_free ring m s h = is_free ring s ((is_astray (ring_at ring s).queue.layout m, EFAULT) ∷ []) h
