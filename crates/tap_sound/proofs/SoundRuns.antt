-- Every world that a run reaches is sound.
use Rattle.std.proofs.Common.{◌≡◌, ℕ, zero, suc, ◌+◌, ◌-◌, ◌^◌, ◌≤◌, List, [], ◌∷◌, map, Option, Some, None, ⊎_elim, refl, sym, ap, ◌∙◌, subst, arith, ◌<◌, length, get_or, Bool, true, false, true≢false}
use Rattle.std.specs.Prelude.{option_map, slice_get, take, is_some, ◌||◌, ◌&&◌, if◌then◌else◌, ◌==◌}
use Rattle.scen_text.specs.declared.scenario.Phase.{Phase}
use Rattle.scen_text.specs.declared.scenario.Scenario.{Scenario}
use Rattle.tap_world.specs.declared.event.Event.{Event}
use Rattle.tap_world.specs.ByNumber.{at}
use Rattle.tap_world.specs.Setup.{Declared, Setup, setup_of}
use Rattle.tap_world.specs.Line.{File}
use Rattle.tap_world.specs.World.{Actor, Doing, World, newest, table, current}
use Rattle.tap_world.specs.World.Doing.{Begun}
use Rattle.tap_world.specs.Step.{step}
use Rattle.tap_world.specs.Runs.{IsRun, actors_from, begins, has_ended, new_file, opening, run, run_phases}
use Rattle.tap_world.specs.Sound.{IsSound, HasRoom, table_capacity, holds, is_serving, is_receiving}
use Rattle.tap_sound.specs.Reached.{HasPlaces, IsKept}
use Rattle.tap_sound.specs.Worlds.{IsWorldOf}
use Rattle.tap_sound.proofs.Kit.{some_same, then_some}
use Rattle.tap_sound.proofs.Scripts.{ended_each}
use Rattle.tap_sound.proofs.Whole.{begun_rest, run_rests}
use Rattle.tap_sound.proofs.Taken.{if_some}
use Rattle.tap_sound.proofs.TurnRings.{RingLaws}
use Rattle.std.specs.Option.{option_map_or}
use Rattle.std.specs.List.{list_any}
use Rattle.std.specs.Int.{is_power_of_two}
use Rattle.tap_frame.specs.declared.name.Name.{Name}
use Rattle.guest_mem.specs.declared.region.Region.{Region}
use Rattle.tap_ledger.specs.declared.side.Side.{Side}
use Rattle.tap_ledger.specs.declared.side.Side.TheVariants.{Rx, Tx}
use Rattle.tap_steer.specs.Table.{file_at, first}
use Rattle.tap_steer.specs.Rules.{backer}
use Rattle.vhost_dev.specs.Lists.{BeginOrdered}
use Rattle.vhost_dev.specs.Settings.{first_ring, first_settings, ring_at}
use Rattle.tap_world.specs.Guests.{Guest, Vhost, new_guest, new_vhost, turn_of}
use Rattle.tap_world.specs.SoundRings.{is_about, HasRings, IsActor, IsRing, IsServed, holds_turn, serves}
use Rattle.tap_world.specs.SoundTable.{HasTable, has_of, on_side}
use Rattle.tap_sound.specs.SoundRuns.{HasGuests}
use Rattle.tap_sound.proofs.Reached.{IsStill, declared, new_ordered}
use Rattle.tap_sound.proofs.Soundness.{soundness_is_kept}
use Rattle.tap_sound.proofs.Agreeing.{agreed_of}
use Rattle.tap_sound.proofs.Turned.{is_at, itself}
use Rattle.vhost_queue.specs.Positions.{IsIdle}
use Rattle.tap_sound.proofs.Views.{is_none_held}
use Rattle.tap_sound.proofs.TableKept.{FitsWorld, into, onto}
use Rattle.tap_sound.proofs.BackerEvents.{into_backs, onto_backs}
use Rattle.tap_steer.specs.Table as tables
use Rattle.tap_steer.specs.declared.files.File as table_files
use Rattle.tap_sound.proofs.NamesKept as names
use Rattle.tap_sound.proofs.Reached as reached

-- ---- the table at first

first_file : (caps : List ℕ) (flows : List (ℕ × ℕ)) (programs : List (List ℕ)) (n : ℕ) → file_at (first programs caps flows) n ≡ get_or (map tables.new_file caps) n (tables.new_file 0)
unfolding first
first_file caps flows programs n = refl

first_many : (caps : List ℕ) (flows : List (ℕ × ℕ)) (programs : List (List ℕ)) → length (first programs caps flows).files ≡ length (map tables.new_file caps)
unfolding first
first_many caps flows programs = refl

abbrev cap : Option Declared → ℕ
cap f = option_map_or (λ (d : Declared). d.capacity) f 0

file_first : (fs : List (Option Declared)) (n : ℕ) (d : Declared) → at fs n ≡ Some d
    → (get_or (map tables.new_file (map cap fs)) n (tables.new_file 0) ≡ tables.new_file d.capacity) × (n < length (map tables.new_file (map cap fs)))
file_first [] n d e = absurd (cc (e))
file_first (x ∷ fs) zero d e = (ap (λ (o : Option Declared). tables.new_file (cap o)) e, omega arith)
file_first (x ∷ fs) (suc n) d e = let r = file_first fs n d e in (r.0, let h = r.1 in omega (arith, h))

no_backer : (caps : List ℕ) (q : Side) (n : ℕ) → backer q (get_or (map tables.new_file caps) n (tables.new_file 0)) ≡ None
no_backer [] Rx n = refl
no_backer [] Tx n = refl
no_backer (c ∷ cs) Rx zero = refl
no_backer (c ∷ cs) Tx zero = refl
no_backer (c ∷ cs) q (suc n) = no_backer cs q n

none_is : (o : Option ℕ) (n : ℕ) → o ≡ None → o ≡ Some n → ⊥
none_is o n a b = cc (a, b)

side_none : (q : Side) → (on_side q first_settings).file ≡ None
side_none Rx = refl
side_none Tx = refl

a_vhost : (vs : List (Option ℕ)) (n : ℕ) (v : Vhost) → at (map (λ (g : Option ℕ). option_map new_vhost g) vs) n ≡ Some v → (guest : ℕ) × (at vs n ≡ Some guest) × (new_vhost guest ≡ v)
a_vhost [] n v e = absurd (cc (e))
a_vhost (None ∷ vs) zero v e = absurd (cc (e))
a_vhost (Some g ∷ vs) zero v e = (g, refl, some_same (new_vhost g) v e)
a_vhost (x ∷ vs) (suc n) v e = a_vhost vs n v e

a_guest : (gs : List (Option (List Region))) (n : ℕ) → is_some (at gs n) ≡ true → (g : Guest) × (at (map (λ (r : Option (List Region)). option_map new_guest r) gs) n ≡ Some g)
a_guest [] n e = absurd (true≢false (sym e))
a_guest (None ∷ gs) zero e = absurd (true≢false (sym e))
a_guest (Some r ∷ gs) zero e = (new_guest r, refl)
a_guest (x ∷ gs) (suc n) e = a_guest gs n e

one_is_power : is_power_of_two 1 ≡ true
unfolding lib.Count.ones
one_is_power = refl

first_is : BeginOrdered → (b : Bool) (g : Guest) → IsRing g (first_ring b)
first_is order true g = record { lists = order true; begun = ([], refl); size = record { power = one_is_power; most = omega arith }; good = λ e. absurd (true≢false (sym e)) }
first_is order false g = record { lists = order false; begun = ([], refl); size = record { power = one_is_power; most = omega arith }; good = λ e. absurd (true≢false (sym e)) }

nobody : (i : ℕ) (a : Actor) → slice_get {X = Actor} [] i ≡ Some a → ⊥
nobody i a h = cc (h)

new_room : (d : Declared) (before : ℕ) → d.first ≤ 2 ^ 40 - 1 → HasRoom before (new_file d)
new_room d before le = record { ordered = new_ordered d le; fates = tt; ring = omega arith }

-- ---- the opening

opening_tabled : (s : Setup) → HasTable s (opening s)
opening_tabled s = record {
  agrees = λ file f at_.
      let d = declared s.files file f at_ in
      ap has_of (sym d.2) ∙ ap (λ (g : table_files.File). agreed_of g)
      (sym (first_file (map cap s.files) s.flows (map (λ p. p.1) s.programs) file ∙ (file_first s.files file d.0 d.1).0));
  known = λ file f at_.
      let d = declared s.files file f at_ in
      subst (λ (n : ℕ). file < n) (sym (first_many (map cap s.files) s.flows (map (λ p. p.1) s.programs))) (file_first s.files file d.0 d.1).1;
  backends = λ vhost v at_ q n.
      let d = a_vhost s.vhosts vhost v at_ in
      let mine = ap (λ (y : Vhost). (on_side q y.settings).file) (sym d.2) ∙ side_none q in
      let theirs = ap (backer q) (first_file (map cap s.files) s.flows (map (λ p. p.1) s.programs) n) ∙ no_backer (map cap s.files) q n in
      ((λ e. absurd (none_is _ n mine e)), (λ e. absurd (none_is _ vhost theirs e)));
  found = tt;
}

opening_sound : BeginOrdered → (s : Setup) → HasPlaces s → HasGuests s → IsSound s (opening s)
opening_sound order s places guests =
    let kept = reached.opening_kept s places in
    record {
      names = names.opening_kept s;
      lines = λ file f at_. let d = declared s.files file f at_ in subst (HasRoom (table_capacity file (table s (opening s)))) d.2 (new_room d.0 _ (places file d.0 d.1));
      claims = kept.claims;
      epochs = kept.epochs;
      shut = kept.shut;
      tabled = opening_tabled s;
      hand = λ file f at_ vhost e. let d = declared s.files file f at_ in absurd (none_is _ vhost (ap (λ (y : File). y.hand) (sym d.2)) e);
      rings = record {
        rings = λ vhost v at_.
            let d = a_vhost s.vhosts vhost v at_ in
            let g = a_guest s.guests d.0 (guests vhost d.0 d.1) in
            subst (HasRings (opening s) vhost) d.2 (g.0, g.1, first_is order true g.0, first_is order false g.0);
        served = λ vhost v at_.
            let d = a_vhost s.vhosts vhost v at_ in
            subst (IsServed (opening s) vhost) d.2 (record {
              idle = λ ring below none. first_idle ring;
              backed = λ ring i a got sv. absurd (nobody i a got);
              stands = λ ring i a got sv. absurd (nobody i a got);
            });
      };
      versions = kept.seen;
      actors = record {
        stand = kept.stand;
        writer = λ i a got. absurd (nobody i a got);
        turns = λ vhost v at_ ring i a below got. absurd (nobody i a got);
        holders = (tt, λ vhost v at_. let d = a_vhost s.vhosts vhost v at_ in subst (λ (y : Vhost). IsActor (opening s) y.rx_turn × IsActor (opening s) y.tx_turn) d.2 (tt, tt));
      };
    }
  where
    first_idle : (ring : ℕ) → IsIdle (ring_at ring first_settings).queue.positions
    first_idle ring = go (ring == 0)
      where
        go : (b : Bool) → IsIdle (if b then first_settings.rx else first_settings.tx).queue.positions
        go true = refl
        go false = refl

-- ---- a phase begins

new_begun : (p : Phase) (seen from n i : ℕ) (a : Actor) → slice_get (actors_from p seen from n) i ≡ Some a → a.doing ≡ Begun
new_begun p seen from zero i a e = absurd (cc (e))
new_begun p seen from (suc n) zero a e = ap (λ (q : Actor). q.doing) (sym (some_same _ a e))
new_begun p seen from (suc n) (suc i) a e = new_begun p seen (from + 1) n i a e

-- where nobody is at a command, nobody holds anything
still_free : (w : World) (o : Option ℕ) → IsStill w → IsActor w o → ((i : ℕ) (a : Actor) → slice_get w.actors i ≡ Some a → false ≡ is_at i o) → o ≡ None
still_free w None still there held = refl
still_free w (Some n) still there held = go (slice_get w.actors n) refl there
  where
    go : (o : Option Actor) → slice_get w.actors n ≡ o → is_some (slice_get w.actors n) ≡ true → Some n ≡ None
    go None is h = absurd (true≢false (sym h ∙ ap (λ (q : Option Actor). is_some q) is))
    go (Some a) is h = absurd (true≢false (sym (held n a is ∙ itself n)))

none_serves : (vhost file : ℕ) (n : Name) (xs : List Actor) → ((i : ℕ) (a : Actor) → slice_get xs i ≡ Some a → a.doing ≡ Begun) → list_any (is_serving vhost file n) xs ≡ false
none_serves vhost file n [] h = refl
none_serves vhost file n (x ∷ xs) h =
    ap (λ (d : Doing). is_receiving file n d && is_about vhost 0 (current x.script) || list_any (is_serving vhost file n) xs) (h 0 x refl) ∙ none_serves vhost file n xs (λ i. h (suc i))

begins_sound : (s : Setup) (number : ℕ) (p : Phase) (w : World) → IsSound s w → IsStill w → IsSound s (begins number p w)
begins_sound s number p w h still = record {
  names = names.begins_kept number p w h.names;
  lines = h.lines;
  claims = kept.claims;
  epochs = h.epochs;
  shut = kept.shut;
  tabled = record {
    agrees = fits.agrees;
    known = h.tabled.known;
    backends = onto_backs v Begun None (table s w) w.vhosts (is_none_held v free) (into_backs w Begun None (table s w) w.vhosts (is_none_held w free) h.tabled.backends);
    found = fits.found;
  };
  hand = λ file f at_ vhost e.
      let k = h.hand file f at_ vhost e in
      absurd (true≢false (sym k.3 ∙ none_serves vhost file k.1 w.actors still));
  rings = record {
    rings = h.rings.rings;
    served = λ vhost r at_.
        let k = h.rings.served vhost r at_ in
        record {
          idle = λ ring below none. k.idle ring below (λ i a got sv. true≢false (sym sv.0 ∙ ap serves (still i a got)));
          backed = λ ring i a got sv. absurd (true≢false (sym sv.0 ∙ ap serves (new_begun p (newest w) 0 p.actors i a got)));
          stands = λ ring i a got sv. absurd (true≢false (sym sv.0 ∙ ap serves (new_begun p (newest w) 0 p.actors i a got)));
        };
  };
  versions = kept.seen;
  actors = record {
    stand = kept.stand;
    writer = λ i a got. ap holds (new_begun p (newest w) 0 p.actors i a got) ∙ sym (ap (is_at i) free);
    turns = λ vhost r at_ ring i a below got.
        ap (λ (d : Doing). holds_turn d && is_about vhost ring (current a.script)) (new_begun p (newest w) 0 p.actors i a got) ∙ sym (ap (is_at i) (turn_free vhost r at_ ring below));
    holders = (subst (IsActor v) (sym free) tt, λ vhost r at_. (subst (IsActor v) (sym (turn_free vhost r at_ 0 (omega arith))) tt, subst (IsActor v) (sym (turn_free vhost r at_ 1 (omega arith))) tt));
  };
}
  where
    v : World
    v = begins number p w

    kept : IsKept v
    kept = reached.begins_kept number p w (record {
      epochs = h.epochs;
      lines = λ file f at_. (h.lines file f at_).ordered;
      claims = h.claims;
      shut = h.shut;
      seen = h.versions;
      stand = h.actors.stand;
    }) still

    free : w.writer ≡ None
    free = still_free w w.writer still h.actors.holders.0 (λ i a got. sym (ap holds (still i a got)) ∙ h.actors.writer i a got)

    turn_free : (vhost : ℕ) (r : Vhost) → at w.vhosts vhost ≡ Some r → (ring : ℕ) → ring < 2 → turn_of ring r ≡ None
    turn_free vhost r at_ ring below = still_free w (turn_of ring r) still (there (ring == 0))
        (λ i a got. sym (ap (λ (d : Doing). holds_turn d && is_about vhost ring (current a.script)) (still i a got)) ∙ h.actors.turns vhost r at_ ring i a below got)
      where
        there : (b : Bool) → IsActor w (if b then r.rx_turn else r.tx_turn)
        there true = (h.actors.holders.1 vhost r at_).0
        there false = (h.actors.holders.1 vhost r at_).1

    fits : FitsWorld s v
    fits = onto v Begun None (table s w) w.files (is_none_held v free)
        (into w Begun None (table s w) w.files (is_none_held w free) (record { agrees = h.tabled.agrees; known = h.tabled.known; found = h.tabled.found }))

-- ---- runs

run_sound : RingLaws → (s : Setup) (es : List Event) (w v : World) → run s es w ≡ Some v → IsSound s w → IsSound s v
run_sound laws s [] w v e h = subst (IsSound s) (some_same w v e) h
run_sound laws s (x ∷ es) w v e h =
    let t = then_some (step s w x) _ v e in
    run_sound laws s es t.0.0 v t.2 (soundness_is_kept laws s w x t.0 t.1 h)

phases_sound : RingLaws → (s : Setup) (number : ℕ) (ps : List Phase) (es : List (List Event)) (w v : World) → run_phases s number ps es w ≡ Some v
    → IsSound s w × IsStill w → IsSound s v × IsStill v
phases_sound laws s number [] [] w v e h = subst (λ (q : World). IsSound s q × IsStill q) (some_same w v e) h
phases_sound laws s number [] (d ∷ ds) w v e h = absurd (cc (e))
phases_sound laws s number (p ∷ ps) [] w v e h = absurd (cc (e))
phases_sound laws s number (p ∷ ps) (es ∷ more) w v e h =
    let t = then_some (run s es (begins number p w)) _ v e in
    let c = if_some (has_ended t.0) _ v t.2 in
    let rest = run_rests s es (begins number p w) t.0 t.1 (begun_rest p (newest w) 0 p.actors) in
    phases_sound laws s (number + 1) ps more t.0 v c.1
    (run_sound laws s es (begins number p w) t.0 t.1 (begins_sound s number p w h.0 h.1), λ i a at_. rest i a at_ (ended_each t.0.actors i a c.0 at_))

still_first : (s : Setup) → IsStill (opening s)
still_first s i a got = absurd (nobody i a got)

pub run_is_sound : RingLaws → BeginOrdered → (s : Scenario) (events : List (List Event)) (w : World) → HasPlaces (setup_of s) → HasGuests (setup_of s) → IsRun s events w → IsSound (setup_of s) w
run_is_sound laws order s events w places guests e =
    (phases_sound laws (setup_of s) 0 s.phases events (opening (setup_of s)) w e (opening_sound order (setup_of s) places guests, still_first (setup_of s))).0

pub reached_is_sound : RingLaws → BeginOrdered → (s : Scenario) (w : World) → HasPlaces (setup_of s) → HasGuests (setup_of s) → IsWorldOf s w → IsSound (setup_of s) w
reached_is_sound laws order s w places guests r =
    let before = phases_sound laws (setup_of s) 0 (take r.ended s.phases) r.is_before.events (opening (setup_of s)) r.before r.is_before.is
    (opening_sound order (setup_of s) places guests, still_first (setup_of s)) in
    ⊎_elim (λ is. subst (IsSound (setup_of s)) (sym is) before.0)
    (λ p. run_sound laws (setup_of s) p.so_far (begins r.ended p.phase r.before) w p.is (begins_sound (setup_of s) r.ended p.phase r.before before.0 before.1)) r.now
