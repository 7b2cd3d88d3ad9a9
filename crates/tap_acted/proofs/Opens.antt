-- A guest stands as after no acts where a run opens; and as a phase begins it stands as before.
use Rattle.std.proofs.Common.{◌≡◌, ℕ, zero, suc, ◌+◌, ◌<◌, List, [], ◌∷◌, map, Bool, true, false, Option, Some, None, refl, sym, ap, ◌∙◌, subst}
use Rattle.std.specs.Prelude.{◌==◌, if◌then◌else◌, option_map, slice_get}
use Rattle.guest_mem.specs.declared.region.Region.{Region}
use Rattle.scen_text.specs.declared.scenario.Phase.{Phase}
use Rattle.tap_ground.specs.Options.{◌>>=◌}
use Rattle.tap_world.specs.ByNumber.{at}
use Rattle.tap_world.specs.Guests.{Guest, Vhost, new_guest, new_vhost, turn_of}
use Rattle.tap_world.specs.Runs.{actors_from, begins, has_ended, opening}
use Rattle.tap_world.specs.Setup.{Numbered, Setup, script_in}
use Rattle.tap_world.specs.World.{Actor, World, newest}
use Rattle.tap_world.specs.World.Doing.{Begun}
use Rattle.tap_legal.specs.Case.{Case}
use Rattle.tap_legal.specs.Replay.{Under}
use Rattle.tap_legal.specs.Replays.{vhosts_on}
use Rattle.tap_sights.specs.Acts.{State, first_state}
use Rattle.tap_sound.proofs.Kit.{some_same}
use Rattle.tap_sound.proofs.Scripts.{ended_each}
use Rattle.tap_acted.specs.Standing.{StandsAs, VhostStands, bare, if_on, turn_at, turn_by, turn_in}

-- ---- turns

none_then : (vhost : ℕ) (o : Option Numbered) → (o >>= (λ (c : Numbered). turn_at vhost c.number Begun)) ≡ None
none_then vhost None = refl
none_then vhost (Some c) = refl

none_by : (actors : List Actor) (vhost : ℕ) → ((i : ℕ) (a : Actor) → slice_get actors i ≡ Some a → turn_in vhost a ≡ None)
    → (o : Option ℕ) → turn_by actors vhost o ≡ None
none_by actors vhost h None = refl
none_by actors vhost h (Some i) = go (slice_get actors i) refl
  where
    go : (o : Option Actor) → slice_get actors i ≡ o → (o >>= (λ (a : Actor). turn_in vhost a)) ≡ None
    go None e = refl
    go (Some a) e = h i a e

-- the same turns of all holders leave how a vhost stands
pub stands_by : (guest : ℕ) (actors now : List Actor) (under : List Under) (vhost : ℕ) (x v : Option Vhost)
    → ((y : Vhost) (ring : ℕ) → v ≡ Some y → ring < 2 → turn_by now vhost (turn_of ring y) ≡ turn_by actors vhost (turn_of ring y))
    → VhostStands guest actors under vhost x v → VhostStands guest now under vhost x v
stands_by guest actors now under vhost x v same h = record {
  same = h.same;
  turns = λ ring less. h.turns ring less ∙ go ring v (λ y e. same y ring e less);
  held = h.held;
}
  where
    go : (ring : ℕ) (o : Option Vhost)
        → ((y : Vhost) → o ≡ Some y → turn_by now vhost (turn_of ring y) ≡ turn_by actors vhost (turn_of ring y))
        → (o >>= (λ (y : Vhost). if_on guest y (turn_by actors vhost (turn_of ring y))))
        ≡ (o >>= (λ (y : Vhost). if_on guest y (turn_by now vhost (turn_of ring y))))
    go ring None k = refl
    go ring (Some y) k = ap (if_on guest y) (sym (k y refl))

-- ---- where a run opens

at_map : {A B : Type 0} (h : A → B) (xs : List (Option A)) (n : ℕ) (x : A) → at xs n ≡ Some x
    → at (map (λ (o : Option A). option_map h o) xs) n ≡ Some (h x)
at_map h [] n x e = absurd (cc (e))
at_map h (y ∷ xs) zero x e = ap (λ (o : Option _). option_map h o) e
at_map h (y ∷ xs) (suc n) x e = at_map h xs n x e

-- no vhost, and a new one
first_none : (guest vhost : ℕ) → VhostStands guest [] [] vhost None None
first_none guest vhost = record { same = refl; turns = λ ring less. refl; held = λ ring less. refl }

same_new : (v : Vhost) (b : Bool) → option_map bare (if b then Some v else None) ≡ (if b then Some (bare v) else None)
same_new v true = refl
same_new v false = refl

turns_new : (vhost : ℕ) (a b : Bool) → None ≡ (if b then turn_by [] vhost (if a then None else None) else None)
turns_new vhost true true = refl
turns_new vhost false true = refl
turns_new vhost a false = refl

held_new : (g ring : ℕ) (a b : Bool) → (ring == 0) ≡ a → ((if b then Some (new_vhost g) else None) >>= (λ (y : Vhost). turn_of ring y)) ≡ None
held_new g ring a false e = refl
held_new g ring a true e = go (ring == 0)
  where
    go : (t : Bool) → (if t then (new_vhost g).rx_turn else (new_vhost g).tx_turn) ≡ None
    go true = refl
    go false = refl

first_new : (guest vhost g : ℕ) → VhostStands guest [] [] vhost (if g == guest then Some (new_vhost g) else None) (Some (new_vhost g))
first_new guest vhost g = record {
  same = same_new (new_vhost g) (g == guest);
  turns = λ ring less. turns_new vhost (ring == 0) (g == guest);
  held = λ ring less. held_new g ring (ring == 0) (g == guest) refl;
}

first_vhosts : (guest vhost : ℕ) (gs : List (Option ℕ)) (n : ℕ)
    → VhostStands guest [] [] vhost (at (vhosts_on guest gs) n) (at (map (λ (g : Option ℕ). option_map new_vhost g) gs) n)
first_vhosts guest vhost [] n = first_none guest vhost
first_vhosts guest vhost (None ∷ gs) zero = first_none guest vhost
first_vhosts guest vhost (Some g ∷ gs) zero = first_new guest vhost g
first_vhosts guest vhost (x ∷ gs) (suc n) = first_vhosts guest vhost gs n

pub first_guest : (s : Setup) (guest : ℕ) (regions : List Region) → at s.guests guest ≡ Some regions
    → at (opening s).guests guest ≡ Some (new_guest regions)
first_guest s guest regions is = at_map new_guest s.guests guest regions is

pub opens : (c : Case) (s : Setup) (guest : ℕ) (regions : List Region) → c.setup ≡ s
    → StandsAs (opening s) guest (new_guest regions) (first_state c guest regions)
opens c s guest regions same = record {
  memory = refl;
  vhosts = λ vhost. subst
      (λ (q : Setup). VhostStands guest [] [] vhost (at (vhosts_on guest c.setup.vhosts) vhost) (at (opening q).vhosts vhost))
      same (first_vhosts guest vhost c.setup.vhosts vhost);
}

-- ---- as a phase begins

begun_none : (p : Phase) (seen from n vhost i : ℕ) (a : Actor) → slice_get (actors_from p seen from n) i ≡ Some a → turn_in vhost a ≡ None
begun_none p seen from zero vhost i a e = absurd (cc (e))
begun_none p seen from (suc n) vhost zero a e =
    subst (λ (q : Actor). turn_in vhost q ≡ None) (some_same _ a e) (none_then vhost (slice_get (script_in p from) 0))
begun_none p seen from (suc n) vhost (suc i) a e = begun_none p seen (from + 1) n vhost i a e

ended_none : (w : World) → has_ended w ≡ true → (vhost i : ℕ) (a : Actor) → slice_get w.actors i ≡ Some a → turn_in vhost a ≡ None
ended_none w all vhost i a is =
    ap (λ (l : List Numbered). slice_get l 0 >>= (λ (c : Numbered). turn_at vhost c.number a.doing)) (ended_each w.actors i a all is)

pub begun_stands : (number : ℕ) (p : Phase) (w : World) (guest : ℕ) (g : Guest) (st : State) → has_ended w ≡ true
    → StandsAs w guest g st → StandsAs (begins number p w) guest g st
begun_stands number p w guest g st all h = record {
  memory = h.memory;
  vhosts = λ vhost. stands_by guest w.actors (begins number p w).actors st.under vhost (at st.vhosts vhost) (at w.vhosts vhost)
      (λ y ring e less. none_by (begins number p w).actors vhost (begun_none p (newest w) 0 p.actors vhost) (turn_of ring y)
      ∙ sym (none_by w.actors vhost (ended_none w all vhost) (turn_of ring y)))
      (h.vhosts vhost);
}
