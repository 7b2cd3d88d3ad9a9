-- Drive of a backend, and the world's.
use Rattle.std.proofs.Common.{◌≡◌, ℕ, Option, Some, None, option_map, refl}
use Rattle.guest_mem.specs.Memory.{Contents}
use Rattle.tap_ledger.specs.declared.error.TapErr.{TapErr as TapText}
use Rattle.tap_ground.specs.Options.{◌>>=◌}
use Rattle.tap_steer.specs.Select.{shape_of}
use Rattle.tap_trace.specs.declared.answer.Answer.{Answer}
use Rattle.vhost_dev.specs.Refusals.{number_refusal, ready_refusal}
use Rattle.vhost_dev.specs.Settings.{ring_at}
use Rattle.tap_world.specs.Guests.{Vhost}
use Rattle.tap_world.specs.Setup.{Setup}
use Rattle.tap_world.specs.StepBackend as world
use Rattle.tap_world.specs.World.{World, table}
use Rattle.tap_world.specs.World.Doing.{Backed}
use Rattle.tap_guests.specs.Backs.{set_call, sets_back, unset_call, unsets_back}
use Rattle.tap_guests.specs.Laws.{back_effect, unset_doing}

pub sets_in_world :
    (s : Setup) (w : World) (actor seen vhost ring file : ℕ) (refusal : Option TapText) (v : Vhost) (m : Contents)
    → world.back_call s w actor seen refusal vhost ring (Some file) v m
    ≡ option_map (back_effect Backed w seen vhost refusal v m)
    (set_call vhost ring file refusal (shape_of (table s w) file) v m)
sets_in_world s w actor seen vhost ring file refusal v m =
    by_answer
    (world.back_answer (ready_refusal ring m v.settings) refusal
    (world.unfit_for (shape_of (table s w) file) v.settings)) where
      by_answer : (o : Option (Option Answer))
          → (o >>= (λ told. Some (world.sets_back w actor seen vhost ring file refusal v m told)))
          ≡ option_map (back_effect Backed w seen vhost refusal v m)
          (option_map (sets_back vhost ring file refusal v m) o)
      by_answer None = refl
      by_answer (Some None) = refl
      by_answer (Some (Some x)) = refl

pub unsets_in_world :
    (s : Setup) (w : World) (actor seen vhost ring : ℕ) (refusal : Option TapText) (v : Vhost) (m : Contents)
    → world.back_call s w actor seen refusal vhost ring None v m
    ≡ option_map (back_effect (unset_doing ring) w seen vhost None v m) (unset_call vhost ring v)
unsets_in_world s w actor seen vhost ring refusal v m =
    by_answer (world.refused_by (number_refusal ring)) (ring_at ring v.settings).file where
      by_answer : (o : Option (Option Answer)) (file : Option ℕ)
          → (o >>= (λ told. Some (world.unsets_back w actor seen vhost ring v m told file)))
          ≡ option_map (back_effect (unset_doing ring) w seen vhost None v m)
          (option_map (λ told. unsets_back vhost ring v told file) o)
      by_answer None file = refl
      by_answer (Some (Some x)) file = refl
      by_answer (Some None) None = refl
      by_answer (Some None) (Some file) = refl
