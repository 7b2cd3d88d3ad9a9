-- A vhost that changes but for its workers, and a ring whose turn is held or free now.
use Rattle.std.proofs.Common.{◌≡◌, ℕ, zero, suc, List, [], ◌∷◌, Bool, true, false, Option, Some, None, refl, sym, ap, ◌∙◌, subst, option_map}
use Rattle.std.specs.Prelude.{if◌then◌else◌, ◌==◌}
use Rattle.std.specs.Option.{option_map_or}
use Rattle.guest_mem.specs.declared.region.Region.{Region}
use Rattle.tap_ground.specs.Options.{◌>>=◌}
use Rattle.tap_guests.specs.Calls.{with_vhost}
use Rattle.tap_guests.specs.Side.{Side}
use Rattle.tap_guests.specs.Within.{IsIn}
use Rattle.tap_world.specs.ByNumber.{at, with_at}
use Rattle.tap_world.specs.Effect.{vhosts_after}
use Rattle.tap_world.specs.Effect.OnVhosts.{NoVhost, OnVhost}
use Rattle.tap_world.specs.Guests.{Guest, Vhost, with_turn}
use Rattle.core_shared.specs.Did.{TurnsStay}
use Rattle.core_shared.specs.Suiting.{HasNoWorker}
use Rattle.core_shared.specs.Worlds.{vhosts_of}
use Rattle.core_shared.proofs.Kit.{vhosts_at}
use Rattle.core_shared.proofs.Leaving.{VhostsLie, same_rx, same_tx, stays_in, turns_of_one, vhost_left, vhosts_lie_with}
use Rattle.core_calls.specs.Turned.{turned}

-- ---- workers stay

-- what is the same of the one that changes is so at every number
same_of : {A B : Type 0} (f : A → Option B) (n : ℕ) (x y : A) (xs : List (Option A)) (m : ℕ)
    → at xs n ≡ Some x → f y ≡ f x → (at (with_at n y xs) m >>= f) ≡ (at xs m >>= f)
same_of f n x y [] m e same = refl
same_of f zero x y (z ∷ zs) zero e same = same ∙ ap (λ (o : Option _). o >>= f) (sym e)
same_of f zero x y (z ∷ zs) (suc m) e same = refl
same_of f (suc n) x y (z ∷ zs) zero e same = refl
same_of f (suc n) x y (z ∷ zs) (suc m) e same = same_of f n x y zs m e same

pub turns_stay : (actor n : ℕ) (v k : Side) (vhosts : List (Option Side)) → at vhosts n ≡ Some v → k.rx ≡ v.rx
    → k.tx ≡ v.tx → TurnsStay actor vhosts (with_at n k vhosts)
turns_stay actor n v k vhosts is rx tx =
    turns_of_one actor n v k vhosts is (same_rx actor v k rx) (same_tx actor v k tx)

-- a ring that no worker serves stays so
pub none_still : (n : ℕ) (v k : Side) (vhosts : List (Option Side)) (vhost ring : ℕ) → at vhosts n ≡ Some v
    → k.rx ≡ v.rx → k.tx ≡ v.tx → HasNoWorker vhosts vhost ring → HasNoWorker (with_at n k vhosts) vhost ring
none_still n v k vhosts vhost ring is rx tx h = record {
  rx = λ e. same_of (λ (s : Side). option_map (λ w. w.turn) s.rx) n v k vhosts vhost is
      (ap (λ o. option_map (λ w. w.turn) o) rx) ∙ h.rx e;
  tx = λ e. same_of (λ (s : Side). option_map (λ w. w.turn) s.tx) n v k vhosts vhost is
      (ap (λ o. option_map (λ w. w.turn) o) tx) ∙ h.tx e;
}

-- ---- a turn that is held or free now

pub turned_is : (vhost ring : ℕ) (holder : Option ℕ) (vhosts : List (Option Side)) (v : Side)
    → at vhosts vhost ≡ Some v
    → turned vhost ring holder vhosts ≡ with_at vhost (with_vhost (with_turn ring holder v.vhost) v) vhosts
turned_is vhost ring holder vhosts v is =
    ap (λ (o : Option Side). option_map_or
    (λ (x : Side). with_at vhost (with_vhost (with_turn ring holder x.vhost) x) vhosts) o vhosts) is

pub turned_vhosts : (vhost ring : ℕ) (holder : Option ℕ) (vhosts : List (Option Side))
    → vhosts_after (option_map_or (λ (v : Vhost). OnVhost vhost (with_turn ring holder v)) (at (vhosts_of vhosts) vhost)
    NoVhost) (vhosts_of vhosts) ≡ vhosts_of (turned vhost ring holder vhosts)
turned_vhosts vhost ring holder vhosts =
    ap (λ (o : Option Vhost). vhosts_after
    (option_map_or (λ (v : Vhost). OnVhost vhost (with_turn ring holder v)) o NoVhost) (vhosts_of vhosts))
    (vhosts_at vhost vhosts)
    ∙ go (at vhosts vhost)
  where
    go : (o : Option Side)
        → vhosts_after (option_map_or (λ (v : Vhost). OnVhost vhost (with_turn ring holder v))
        (option_map (λ (x : Side). x.vhost) o) NoVhost) (vhosts_of vhosts)
        ≡ vhosts_of (option_map_or (λ (v : Side). with_at vhost (with_vhost (with_turn ring holder v.vhost) v) vhosts) o
        vhosts)
    go None = refl
    go (Some v) = vhost_left vhost (with_vhost (with_turn ring holder v.vhost) v) vhosts

-- the turn says nothing of where a vhost lies
turn_lies : (rs : List Region) (ring : ℕ) (holder : Option ℕ) (v : Side) → IsIn rs v
    → IsIn rs (with_vhost (with_turn ring holder v.vhost) v)
turn_lies rs ring holder v h = go (ring == 0)
  where
    go : (b : Bool)
        → IsIn rs (with_vhost (if b then record v.vhost { rx_turn = holder } else record v.vhost { tx_turn = holder }) v)
    go true = record { good = h.good; rx_driver = h.rx_driver; tx_driver = h.tx_driver; rx = h.rx; tx = h.tx }
    go false = record { good = h.good; rx_driver = h.rx_driver; tx_driver = h.tx_driver; rx = h.rx; tx = h.tx }

pub turn_guest : (ring : ℕ) (holder : Option ℕ) (v : Vhost) → (with_turn ring holder v).guest ≡ v.guest
turn_guest ring holder v = go (ring == 0)
  where
    go : (b : Bool) → (if b then record v { rx_turn = holder } else record v { tx_turn = holder }).guest ≡ v.guest
    go true = refl
    go false = refl

module _ (vhost ring : ℕ) (holder : Option ℕ) (vhosts : List (Option Side)) (v : Side) (is : at vhosts vhost ≡ Some v)
  where
    pub turned_lies : (guests : List (Option Guest)) → VhostsLie guests vhosts
        → VhostsLie guests (turned vhost ring holder vhosts)
    turned_lies guests h =
        let k = with_vhost (with_turn ring holder v.vhost) v in
        subst (VhostsLie guests) (sym (turned_is vhost ring holder vhosts v is))
        (vhosts_lie_with guests vhosts vhost k h
        (stays_in guests vhosts vhost v k h is (turn_guest ring holder v.vhost) (λ rs. turn_lies rs ring holder v)))

    pub turned_stay : (actor : ℕ) → TurnsStay actor vhosts (turned vhost ring holder vhosts)
    turned_stay actor =
        subst (TurnsStay actor vhosts) (sym (turned_is vhost ring holder vhosts v is))
        (turns_stay actor vhost v (with_vhost (with_turn ring holder v.vhost) v) vhosts is refl refl)

    pub turned_none : (n r : ℕ) → HasNoWorker vhosts n r → HasNoWorker (turned vhost ring holder vhosts) n r
    turned_none n r h =
        subst (λ vs. HasNoWorker vs n r) (sym (turned_is vhost ring holder vhosts v is))
        (none_still vhost v (with_vhost (with_turn ring holder v.vhost) v) vhosts n r is refl refl h)
