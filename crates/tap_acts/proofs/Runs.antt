-- All acts of a guest in the replay, one after another.
use Rattle.std.proofs.Common.{◌≡◌, ℕ, zero, suc, List, [], ◌∷◌, Option, Some, None, Bool, true, false, refl, sym, ap, subst, inl, inr, true≢false}
use Rattle.std.specs.Prelude.{◌==◌, filter, if◌then◌else◌, option_map}
use Rattle.std.specs.Option.{option_map_or}
use Rattle.std.proofs.lemmas.Bool.{eqb-true}
use Rattle.guest_mem.specs.declared.region.Region.{Region}
use Rattle.tap_trace.specs.declared.kind.Kind.{Kind}
use Rattle.tap_world.specs.ByNumber.{at}
use Rattle.tap_world.specs.Guests.{Vhost, new_vhost}
use Rattle.tap_legal.specs.Numbered.{StepAt}
use Rattle.tap_legal.specs.Case.{Case}
use Rattle.tap_legal.specs.Replay.{Replay, Under}
use Rattle.tap_legal.specs.Replays.{fresh, vhosts_on}
use Rattle.tap_legal.specs.ReplayTurns.{replay, replay_step}
use Rattle.tap_sights.specs.Acts.{Act, Done, State, What, all_done, does, first_state, last_state}
use Rattle.tap_sights.specs.Acts.What.{Backed, Called, FoundOff, OnBytes, Turned}
use Rattle.tap_sights.specs.GuestFacts.{ActTells, GuestTells, IsNotAfterAnswer, printed}
use Rattle.tap_sights.specs.LineFacts.{IsShaped}
use Rattle.tap_sights.specs.Sight.{In, Ordered, Seen}
use Rattle.tap_sights.proofs.Kit.{in_filter, some_same}
use Rattle.tap_sound.proofs.Kit.{then_some}
use Rattle.tap_acts.specs.Replaying.{Follow, IsAmong, SameUnder, held_as, is_turned}
use Rattle.tap_acts.specs.Laws.{IsReplay}
use Rattle.tap_acts.proofs.Backs.{backs_go, bytes_go, off_goes}
use Rattle.tap_acts.proofs.Calls.{call_goes}
use Rattle.tap_acts.proofs.CallsHeld.{turned}
use Rattle.tap_acts.proofs.Ends.{Goes, IsLine, IsNext}
use Rattle.tap_acts.proofs.Printed.{lines, next_line, no_line, replays_on}
use Rattle.tap_acts.proofs.Vhosts.{settled_none}

-- ---- where a replay begins

first_turns : (guest : ℕ) (gs : List (Option ℕ)) (n : ℕ) (v : Vhost) → at (vhosts_on guest gs) n ≡ Some v → turned None None v ≡ v
first_turns guest [] n v e = absurd (cc (e))
first_turns guest (g ∷ gs) zero v e = go g e
  where
    new : (b : Bool) (x : ℕ) → (if b then Some (new_vhost x) else None) ≡ Some v → turned None None v ≡ v
    new true x e = subst (λ w. turned None None w ≡ w) (some_same (new_vhost x) v e) refl
    new false x e = absurd (cc (e))

    go : (o : Option ℕ) → option_map_or (λ x. if x == guest then Some (new_vhost x) else None) o None ≡ Some v → turned None None v ≡ v
    go None e = absurd (cc (e))
    go (Some x) e = new (x == guest) x e
first_turns guest (g ∷ gs) (suc n) v e = first_turns guest gs n v e

all_same : (f : Vhost → Vhost) (o : Option Vhost) → ((v : Vhost) → o ≡ Some v → f v ≡ v) → o ≡ option_map f o
all_same f None h = refl
all_same f (Some v) h = ap Some (sym (h v refl))

begins : (c : Case) (guest : ℕ) (regions : List Region) (done : List (Act × Done))
    → IsAmong c done done (first_state c guest regions) (fresh c guest regions)
begins c guest regions done = record {
  state = record { held = first_turns guest c.setup.vhosts; asked = λ u i. absurd i };
  broken = refl;
  fails = refl;
  memory = refl;
  vhosts = λ n. all_same (held_as n []) (at (vhosts_on guest c.setup.vhosts) n) (first_turns guest c.setup.vhosts n);
  under = λ vhost ring. subst (λ (o : Option Under). SameUnder o None) (sym (settled_none vhost ring done)) tt;
  over = λ n i. absurd i;
  accepted = refl;
  unset = λ u i. absurd i;
  finished = λ n i. absurd i;
  done = λ d i answers has. inl i;
  ended = λ vhost ring u found none. absurd (cc (found));
}

-- ---- the fold of the acts

pub follow_from : (c : Case) (guest : ℕ) (acts : List Act) (st : State) (ds : List (Act × Done)) → all_done c guest acts st ≡ Some ds → Follow c guest st ds
follow_from c guest [] st ds e = subst (Follow c guest st) (some_same [] ds e) tt
follow_from c guest (a ∷ as_) st ds e =
    let d = then_some (does c guest a a.what st) _ ds e in
    let more = then_some (all_done c guest as_ d.0.state) _ ds d.2 in
    subst (Follow c guest st) (some_same ((a, d.0) ∷ more.0) ds more.2) (d.1, follow_from c guest as_ d.0.state more.0 more.1)

no_lines : (ss : List StepAt) → [] ≡ lines ss → ss ≡ []
no_lines [] e = refl
no_lines (s ∷ ss) e = absurd (cc (e))

module _ (c : Case) (shape : IsShaped c) (all : List (Act × Done)) (tells : (d : Act × Done) → In d all → ActTells c d) (guest : ℕ) where
  each_goes : (d : Act × Done) (rest : List (Act × Done)) (st : State) (r : Replay) → IsNext all d rest → IsAmong c all (d ∷ rest) st r
      → is_turned d.0.what ≡ false → does c guest d.0 d.0.what st ≡ Some d.1 → Goes c guest all rest d r
  each_goes d rest st r next among calm e = go d.0.what refl e calm
    where
      go : (w : What) → d.0.what ≡ w → does c guest d.0 w st ≡ Some d.1 → is_turned w ≡ false → Goes c guest all rest d r
      go Called is e calm = call_goes c shape all tells guest d rest st r next among is e
      go OnBytes is e calm = bytes_go c shape all tells guest d rest st r next among d.0.command is refl e
      go (Backed version) is e calm = backs_go c shape all tells guest d rest st r next among d.0.command version is refl e
      go FoundOff is e calm = off_goes c shape all tells guest d rest st r next among is e
      go (Turned h) is e calm = absurd (true≢false calm)

  runs : (rest : List (Act × Done)) (st : State) (ss : List StepAt) (r : Replay) → Follow c guest st rest
      → ((e : Act × Done) → In e rest → In e all) → Ordered IsNotAfterAnswer rest → ((e : Act × Done) → In e rest → is_turned e.0.what ≡ false)
      → printed rest ≡ lines ss → ((s : StepAt) → In s ss → s.guest ≡ guest) → IsAmong c all rest st r
      → IsAmong c all [] (last_state st rest) (replay c ss r)
  runs [] st ss r follow later order calm line on among =
      subst (λ (q : List StepAt). IsAmong c all [] st (replay c q r)) (sym (no_lines ss line)) among
  runs (d ∷ rest) st ss r follow later order calm line on among =
      go (each_goes d rest st r (record { here = later d (inl refl); later = λ e i. later e (inr i); order = order }) among (calm d (inl refl)) follow.0)
      (λ qs q p o a. runs rest d.1.state qs q follow.1 (λ e i. later e (inr i)) order.1 (λ e i. calm e (inr i)) p o a) d.1.step refl
    where
      go : Goes c guest all rest d r
          → ((qs : List StepAt) (q : Replay) → printed rest ≡ lines qs → ((s : StepAt) → In s qs → s.guest ≡ guest) → IsAmong c all rest d.1.state q
          → IsAmong c all [] (last_state d.1.state rest) (replay c qs q))
          → (k : Option Kind) → d.1.step ≡ k → IsAmong c all [] (last_state d.1.state rest) (replay c ss r)
      go goes more None is = more ss r (no_line d rest ss is line) on (goes.stays is)
      go goes more (Some k) is =
          let n = next_line d k rest ss is line in
          let it : IsLine guest d k n.s = record { at = n.is; on = on n.s (subst (In n.s) (sym n.are) (inl refl)) } in
          subst (λ (q : List StepAt). IsAmong c all [] (last_state d.1.state rest) (replay c q r)) (sym n.are)
          (subst (IsAmong c all [] (last_state d.1.state rest)) (sym (replays_on c n.s n.behind r among.broken))
          (more n.behind (replay_step c n.s n.behind r) n.more (λ s i. on s (subst (In s) (sym n.are) (inr i))) (goes.prints k is n.s n.behind it n.more)))

pub calls_are_replayed : (c : Case) (s : Seen) → IsShaped c → (guest : ℕ) (regions : List Region) (done : List (Act × Done)) → GuestTells c s guest regions done
    → ((d : Act × Done) → In d done → is_turned d.0.what ≡ false) → IsReplay c guest regions done
calls_are_replayed c s shape guest regions done tells calm =
    runs c shape done tells.each guest done (first_state c guest regions) (filter (λ (x : StepAt). x.guest == guest) c.steps) (fresh c guest regions)
    (follow_from c guest tells.acts (first_state c guest regions) done tells.folds) (λ e i. i) tells.once calm tells.steps
    (λ x i. eqb-true x.guest guest (in_filter (λ (y : StepAt). y.guest == guest) c.steps x i).1)
    (begins c guest regions done)
