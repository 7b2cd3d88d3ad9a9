use Rattle.std.proofs.Common.{◌≡◌, ap, subst, sym, refl, ◌∙◌, Some, option_map}
use Rattle.tap_guests.specs.Backs.{front_of, set_call, unset_call}
use Rattle.tap_guests.specs.Within.{IsIn}
use Rattle.tap_sound.proofs.Kit.{some_same}
use Rattle.tap_steer.specs.Select.{shape_of}
use Rattle.tap_world.specs.ByNumber.{at}
use Rattle.core_calls.specs.Driven.{back_made}
use Rattle.core_calls.proofs.Publishes.{then_ok}
use Rattle.core_calls.proofs.backing.drive.Goals as goal

pub returns-in-Some : goal.returns-in-Some
returns-in-Some c =
    let v = c.side_mut-side.result.now in
    let k = c.set_back.new.self in
    let g = c.guest-in-Some.result.now in
    let t = c.args.shared.now.ops.table in
    let shape = c.shape_of-front.ensures.shape ∙ ap (λ u. shape_of u c.in-Some.file) c.table.ensures in
    then_ok c.set_back.result (λ b. set_call c.args.vhost c.args.ring c.in-Some.file c.args.refusal
    (option_map front_of c.shape_of-front.result) v.vhost c.memory-memory.result.now ≡ Some (k.vhost, b)) _
    (λ b h. record {
      before = v;
      after = k;
      guest = g;
      is_vhost = c.side_mut-side.ensures.value;
      is_guest = ap (λ n. at c.args.shared.now.guests n) (sym c.guest.ensures) ∙ c.guest-in-Some.ensures;
      call = subst (λ f. back_made t c.args.vhost c.args.ring f c.args.refusal v.vhost g.memory ≡ Some (k.vhost, b)) (sym c.in-Some.is)
          (subst (λ m. set_call c.args.vhost c.args.ring c.in-Some.file c.args.refusal (shape_of t c.in-Some.file) v.vhost m ≡ Some (k.vhost, b)) c.memory-memory.ensures
          (subst (λ o. set_call c.args.vhost c.args.ring c.in-Some.file c.args.refusal o v.vhost c.memory-memory.result.now ≡ Some (k.vhost, b)) shape h));
      only = c.set_back.ensures.only;
      within = subst (λ m. IsIn m.regions k) c.memory-memory.ensures c.set_back.ensures.within;
      shared = refl;
    }) c.set_back.ensures.call

pub returns-in-None : goal.returns-in-None
returns-in-None c =
    let v = c.side_mut.result.now in
    let k = c.unset_back.new.self in
    let may = c.requires.may in
    let g = may.guest in
    let t = c.args.shared.now.ops.table in
    let same = some_same v may.side (sym c.side_mut.ensures.value ∙ may.is_vhost) in
    then_ok c.unset_back.result (λ b. unset_call c.args.vhost c.args.ring v.vhost ≡ Some (k.vhost, b)) _
    (λ b h. record {
      before = v;
      after = k;
      guest = g;
      is_vhost = c.side_mut.ensures.value;
      is_guest = ap (λ s. at c.args.shared.now.guests s.vhost.guest) same ∙ may.is_guest;
      call = subst (λ f. back_made t c.args.vhost c.args.ring f c.args.refusal v.vhost g.memory ≡ Some (k.vhost, b)) (sym c.in-None.is) h;
      only = c.unset_back.ensures.only;
      within = c.unset_back.ensures.within g.memory.regions (subst (λ s. IsIn g.memory.regions s) (sym same) may.within);
      shared = refl;
    }) c.unset_back.ensures.call
