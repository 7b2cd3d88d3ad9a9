-- A command on a ring that there isn't is answered ENOBUFS.
use Rattle.std.proofs.Common.{◌≡◌, ℕ, suc, List, [], ◌∷◌, Bool, true, Option, Some, None, ⊎_elim, refl, sym, ap, ◌∙◌, true≢false, arith}
use Rattle.std.specs.Prelude.{not}
use Rattle.std.proofs.lemmas.Bool.Decides.{leb_tells}
use Rattle.guest_mem.specs.Memory.{Contents}
use Rattle.scen_words.specs.declared.command.Command.TheVariants as command
use Rattle.tap_ground.specs.Options.{first_that_holds}
use Rattle.tap_trace.specs.declared.answer.Answer.{Answer}
use Rattle.tap_trace.specs.declared.answer.Answer.TheVariants as answer
use Rattle.tap_trace.specs.declared.causes.VhostText.{VhostText}
use Rattle.tap_trace.specs.declared.causes.VhostText.TheVariants as text
use Rattle.tap_trace.specs.declared.kind.Kind.{Kind}
use Rattle.vhost_dev.specs.declared.error.VhostErr.{VhostErr}
use Rattle.vhost_dev.specs.declared.error.VhostErr.TheVariants as err
use Rattle.vhost_dev.specs.Refusals.{addr_refusal, base_refusal, is_astray, is_backed, is_bad_position, is_bad_size, is_no_ring, is_outside, is_unaligned, num_refusal, number_refusal, ready_refusal}
use Rattle.vhost_dev.specs.Settings.{Settings, ring_at}
use Rattle.tap_world.specs.Guests.{Vhost, is_ring, vhost_text}
use Rattle.tap_world.specs.Setup.{Setup}
use Rattle.tap_world.specs.StepControl.{Call, called}
use Rattle.tap_sound.proofs.Kit.{some_same}
use Rattle.tap_answers.specs.NoRing.{MissingRingsAreTold}
use Rattle.tap_answers.specs.SaysBackends.{SetSays, UnsetSays}
use Rattle.tap_answers.specs.SaysShared.{Occasion}

missing : (ring : ℕ) → not (is_ring ring) ≡ true → is_no_ring ring ≡ true
missing ring is = ⊎_elim (λ t. t.0)
    (λ t. ⊎_elim
    (λ q. absurd (true≢false (sym is ∙ ap (λ (b : Bool). not b) q.0)))
    (λ q. let a = t.1 in let b = q.1 in absurd (omega (arith, a, b)))
    (leb_tells (suc ring) 2))
    (leb_tells 2 ring)

there : (ring : ℕ) → not (is_ring ring) ≡ true → is_ring ring ≡ true → ⊥
there ring miss is = true≢false (sym miss ∙ ap (λ (b : Bool). not b) is)

-- the first reason is that there is no ring
first_is : (b : Bool) (rest : List (Bool × VhostErr)) → b ≡ true
    → first_that_holds ((b, err.ENOBUFS) ∷ rest) ≡ Some err.ENOBUFS
first_is b rest is = ap (λ (q : Bool). first_that_holds ((q, err.ENOBUFS) ∷ rest)) is

-- a call that is refused so tells so
told : (o : Option VhostErr) (changed : Settings) (x : Answer) (step : Option Kind) (v : Vhost) (m : Contents)
    (call : Call) → o ≡ Some err.ENOBUFS → called o changed x step v m ≡ Some call
    → call.answer ≡ answer.Vhost text.ENOBUFS
told o changed x step v m call is made =
    ap (λ (c : Call). c.answer)
    (sym (some_same _ call (ap (λ (q : Option VhostErr). called q changed x step v m) (sym is) ∙ made)))

-- a ring that there isn't isn't ready
unready : (ring : ℕ) (m : Contents) (s : Settings) → is_no_ring ring ≡ true → ready_refusal ring m s ≡ Some err.ENOBUFS
unready ring m s miss = first_is (is_no_ring ring)
    ((is_backed (ring_at ring s), err.EBUSY) ∷ (is_astray (ring_at ring s).queue.layout m, err.EFAULT) ∷ []) miss

reason_told : (e : VhostErr) (x : VhostText) → e ≡ err.ENOBUFS → vhost_text e ≡ Some x → x ≡ text.ENOBUFS
reason_told e x is h = some_same x text.ENOBUFS (sym h ∙ ap vhost_text is)

ready_not : (ring : ℕ) (m : Contents) (s : Settings) → is_no_ring ring ≡ true → ready_refusal ring m s ≡ None → ⊥
ready_not ring m s miss is = cc (sym is ∙ unready ring m s miss)

module _ (s : Setup) (o : Occasion) (vhost ring seen : ℕ) (miss : not (is_ring ring) ≡ true) where
  set_told : (file : ℕ) (x : Answer) → SetSays s o vhost ring file seen x → x ≡ answer.Vhost text.ENOBUFS
  set_told file (answer.Vhost (text.EHDR want have)) h =
      absurd (ready_not ring h.finds.g.memory h.finds.v.settings (missing ring miss) h.ready)
  set_told file (answer.Vhost x) h = ap (λ (t : VhostText). answer.Vhost t)
      (reason_told h.reason x (some_same h.reason err.ENOBUFS (sym h.refused
      ∙ unready ring h.finds.g.memory h.finds.v.settings (missing ring miss))) h.told)
  set_told file (answer.Tap e) h =
      absurd (ready_not ring h.finds.g.memory h.finds.v.settings (missing ring miss) h.ready)
  set_told file (answer.Version version) h = absurd (there ring miss h.there)
  set_told file x h = absurd h

  unset_told : (x : Answer) → UnsetSays s o vhost ring seen x → x ≡ answer.Vhost text.ENOBUFS
  unset_told (answer.Vhost text.ENOBUFS) h = refl
  unset_told answer.Done h = absurd (there ring miss h.there)
  unset_told (answer.Version version) h = absurd (there ring miss h.there)
  unset_told x h = absurd h

pub missing_rings_are_told : MissingRingsAreTold
missing_rings_are_told s o (command.VNum vhost ring num) seen x miss h =
    let s = h.v.settings in
    h.told ∙ told (num_refusal ring num s) _ answer.Done _ h.v h.g.memory h.call
    (first_is (is_no_ring ring) ((is_backed (ring_at ring s), err.EBUSY) ∷ (is_bad_size num, err.EINVAL) ∷ [])
    (missing ring miss)) h.is_call
missing_rings_are_told s o (command.VBase vhost ring base) seen x miss h =
    let s = h.v.settings in
    h.told ∙ told (base_refusal ring base s) _ answer.Done _ h.v h.g.memory h.call
    (first_is (is_no_ring ring) ((is_backed (ring_at ring s), err.EBUSY) ∷ (is_bad_position base, err.EINVAL) ∷ [])
    (missing ring miss)) h.is_call
missing_rings_are_told s o (command.VAddr vhost ring desc avail used) seen x miss h =
    let s = h.v.settings in
    h.told ∙ told (addr_refusal ring desc avail used h.g.memory s) _ answer.Done _ h.v h.g.memory h.call
    (first_is (is_no_ring ring) ((is_backed (ring_at ring s), err.EBUSY) ∷ (is_unaligned desc avail used, err.EINVAL)
    ∷ (is_outside (ring_at ring s).queue.layout.num desc avail used h.g.memory, err.EFAULT) ∷ [])
    (missing ring miss)) h.is_call
missing_rings_are_told s o (command.GetBase vhost ring) seen x miss h =
    let s = h.v.settings in
    h.told ∙ told (number_refusal ring) s _ _ h.v h.g.memory h.call
    (first_is (is_no_ring ring) [] (missing ring miss)) h.is_call
missing_rings_are_told s o (command.Backend vhost ring (Some file)) seen x miss h =
    set_told s o vhost ring seen miss file x h
missing_rings_are_told s o (command.Backend vhost ring None) seen x miss h = unset_told s o vhost ring seen miss x h
missing_rings_are_told s o c seen x miss h = absurd (true≢false (sym miss))
