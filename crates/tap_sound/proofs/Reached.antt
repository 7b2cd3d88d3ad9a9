-- What holds in each world that a run ends in.
use Rattle.std.proofs.Common.{◌≡◌, ℕ, zero, suc, ◌+◌, ◌-◌, ◌^◌, ◌≤◌, List, [], ◌∷◌, map, true, Option, Some, None, inl, ⊎_elim, refl, sym, ap, ◌∙◌, subst, arith}
use Rattle.std.specs.Prelude.{option_map, slice_get, take}
use Rattle.scen_text.specs.declared.scenario.Phase.{Phase}
use Rattle.scen_text.specs.declared.scenario.Scenario.{Scenario}
use Rattle.tap_world.specs.declared.event.Event.{Event}
use Rattle.tap_world.specs.declared.event.Heard.{Heard}
use Rattle.tap_world.specs.ByNumber.{at}
use Rattle.tap_world.specs.Setup.{Declared, Numbered, Setup, script_in, setup_of}
use Rattle.tap_world.specs.declared.line.Entry.{Entry}
use Rattle.tap_world.specs.Line.{File, is_empty}
use Rattle.tap_world.specs.World.{Actor, Doing, World, newest}
use Rattle.tap_world.specs.World.Doing.{Begun, Placed, Purges}
use Rattle.tap_world.specs.Step.{step}
use Rattle.tap_world.specs.Runs.{IsRun, actors_from, begins, has_ended, new_file, opening, run, run_phases}
use Rattle.tap_world.specs.Sound.{HasEpochs, IsOrdered}
use Rattle.tap_world.specs.SoundActors.{CanBe}
use Rattle.tap_sound.specs.Reached.{HasPlaces, IsKept}
use Rattle.tap_sound.specs.Worlds.{IsWorldOf}
use Rattle.tap_sound.proofs.Kit.{some_same, then_some}
use Rattle.tap_sound.proofs.Kept.{epochs_are_kept, lines_are_kept, versions_are_kept}
use Rattle.tap_sound.proofs.Claims.{claims_are_kept}
use Rattle.tap_sound.proofs.Shut.{any_is, shut_is_kept}
use Rattle.tap_sound.proofs.Stand.{begun_stands, stands_are_kept}
use Rattle.tap_sound.proofs.Scripts.{ended_each}
use Rattle.tap_sound.proofs.Whole.{begun_rest, run_rests}
use Rattle.tap_sound.proofs.Taken.{if_some}

pub step_kept : (s : Setup) (w : World) (x : Event) (u : World × Heard) → step s w x ≡ Some u → IsKept w → IsKept u.0
step_kept s w x u e h = record {
  epochs = epochs_are_kept s w x u e h.epochs;
  lines = lines_are_kept s w x u e h.lines;
  claims = claims_are_kept s w x u e h.claims;
  shut = shut_is_kept s w x u e h.shut;
  seen = versions_are_kept s w x u e h.seen;
  stand = stands_are_kept s w x u e h.stand;
}

pub phase_is_kept : (s : Setup) (es : List Event) (w v : World) → run s es w ≡ Some v → IsKept w → IsKept v
phase_is_kept s [] w v e h = subst IsKept (some_same w v e) h
phase_is_kept s (x ∷ es) w v e h =
    let t = then_some (step s w x) _ v e in
    phase_is_kept s es t.0.0 v t.2 (step_kept s w x t.0 t.1 h)

-- ---- a phase begins

-- nobody is at a command
abbrev pub IsStill : World → Type 0
IsStill w = (i : ℕ) (a : Actor) → slice_get w.actors i ≡ Some a → a.doing ≡ Begun

new_seen : (p : Phase) (seen from n i : ℕ) (a : Actor) → slice_get (actors_from p seen from n) i ≡ Some a → a.seen ≡ seen
new_seen p seen from zero i a e = absurd (cc (e))
new_seen p seen from (suc n) zero a e = ap (λ (q : Actor). q.seen) (sym (some_same _ a e))
new_seen p seen from (suc n) (suc i) a e = new_seen p seen (from + 1) n i a e

pub new_stands : (p : Phase) (seen from n i : ℕ) (a : Actor) → slice_get (actors_from p seen from n) i ≡ Some a → CanBe a
new_stands p seen from zero i a e = absurd (cc (e))
new_stands p seen from (suc n) zero a e = subst CanBe (some_same _ a e) (begun_stands seen (script_in p from))
new_stands p seen from (suc n) (suc i) a e = new_stands p seen (from + 1) n i a e

not_placed : (d : Doing) (file place epoch len : ℕ) → d ≡ Begun → d ≡ Placed file place epoch len → ⊥
not_placed d file place epoch len a b = cc (a, b)

not_purging : (d : Doing) (file version : ℕ) → d ≡ Begun → d ≡ Purges file version → ⊥
not_purging d file version a b = cc (a, b)

no_more : (n m : ℕ) → n ≡ m → n ≤ m
no_more n m e = omega (arith, e)

pub begins_kept : (number : ℕ) (p : Phase) (w : World) → IsKept w → IsStill w → IsKept (begins number p w)
begins_kept number p w h still = record {
  epochs = h.epochs;
  lines = h.lines;
  claims = λ file f at_ i actor e get claim.
      let b = h.claims file f at_ i actor e get claim in
      absurd (not_placed b.0.doing file (f.first + i) e.epoch e.len (still actor b.0 b.1) b.2);
  shut = λ file f at_ shut. ⊎_elim (λ e. inl e)
      (λ e. let b = any_is file w.actors e in absurd (not_purging b.1.doing file b.2 (still b.0 b.1 b.3) b.4)) (h.shut file f at_ shut);
  seen = λ i a at_. no_more a.seen (newest w) (new_seen p (newest w) 0 p.actors i a at_);
  stand = λ i a at_. new_stands p (newest w) 0 p.actors i a at_;
}

-- ---- the beginning

pub declared : (fs : List (Option Declared)) (file : ℕ) (f : File) → at (map (λ (d : Option Declared). option_map new_file d) fs) file ≡ Some f
    → (d : Declared) × (at fs file ≡ Some d) × (new_file d ≡ f)
declared [] file f e = absurd (cc (e))
declared (None ∷ fs) zero f e = absurd (cc (e))
declared (Some d ∷ fs) zero f e = (d, refl, some_same (new_file d) f e)
declared (x ∷ fs) (suc file) f e = declared fs file f e

none_there : (i : ℕ) (e : Entry) → slice_get {X = Entry} [] i ≡ Some e → ⊥
none_there i e h = cc (h)

no_actor : (i : ℕ) (a : Actor) → slice_get {X = Actor} [] i ≡ Some a → ⊥
no_actor i a h = cc (h)

pub new_ordered : (d : Declared) → d.first ≤ 2 ^ 40 - 1 → IsOrdered (new_file d)
new_ordered d le = record { parts = tt; batch = omega arith; places = omega (arith, le) }

pub opening_kept : (s : Setup) → HasPlaces s → IsKept (opening s)
opening_kept s places = record {
  epochs = λ file f at_. let d = declared s.files file f at_ in subst HasEpochs d.2 (record { rise = tt; most = tt; kept = tt });
  lines = λ file f at_. let d = declared s.files file f at_ in subst IsOrdered d.2 (new_ordered d.0 (places file d.0 d.1));
  claims = λ file f at_ i actor e get claim.
      let d = declared s.files file f at_ in
      absurd (none_there i e (ap (λ (q : File). slice_get q.line i) d.2 ∙ get));
  shut = λ file f at_ shut. let d = declared s.files file f at_ in inl (ap (λ (q : File). is_empty q) (sym d.2));
  seen = λ i a at_. absurd (no_actor i a at_);
  stand = λ i a at_. absurd (no_actor i a at_);
}

-- ---- all phases

-- they hold, and nobody is at a command
abbrev IsRested : World → Type 0
IsRested w = IsKept w × IsStill w

phases_kept : (s : Setup) (number : ℕ) (ps : List Phase) (es : List (List Event)) (w v : World) → run_phases s number ps es w ≡ Some v
    → IsRested w → IsRested v
phases_kept s number [] [] w v e h = subst IsRested (some_same w v e) h
phases_kept s number [] (d ∷ ds) w v e h = absurd (cc (e))
phases_kept s number (p ∷ ps) [] w v e h = absurd (cc (e))
phases_kept s number (p ∷ ps) (es ∷ more) w v e h =
    let t = then_some (run s es (begins number p w)) _ v e in
    let c = if_some (has_ended t.0) _ v t.2 in
    let rest = run_rests s es (begins number p w) t.0 t.1 (begun_rest p (newest w) 0 p.actors) in
    phases_kept s (number + 1) ps more t.0 v c.1
    (phase_is_kept s es (begins number p w) t.0 t.1 (begins_kept number p w h.0 h.1), λ i a at_. rest i a at_ (ended_each t.0.actors i a c.0 at_))

opening_rested : (s : Setup) → HasPlaces s → IsRested (opening s)
opening_rested s places = (opening_kept s places, λ i a at_. absurd (no_actor i a at_))

pub run_is_kept : (s : Scenario) (events : List (List Event)) (w : World) → HasPlaces (setup_of s) → IsRun s events w → IsKept w
run_is_kept s events w places e = (phases_kept (setup_of s) 0 s.phases events (opening (setup_of s)) w e (opening_rested (setup_of s) places)).0

pub reached_is_kept : (s : Scenario) (w : World) → HasPlaces (setup_of s) → IsWorldOf s w → IsKept w
reached_is_kept s w places r =
    let before = phases_kept (setup_of s) 0 (take r.ended s.phases) r.is_before.events (opening (setup_of s)) r.before r.is_before.is (opening_rested (setup_of s) places) in
    ⊎_elim (λ is. subst IsKept (sym is) before.0)
    (λ p. phase_is_kept (setup_of s) p.so_far (begins r.ended p.phase r.before) w p.is (begins_kept r.ended p.phase r.before before.0 before.1)) r.now

-- ---- between phases

pub phases_end : (s : Setup) (number : ℕ) (ps : List Phase) (es : List (List Event)) (w v : World) → run_phases s number ps es w ≡ Some v
    → has_ended w ≡ true → has_ended v ≡ true
phases_end s number [] [] w v e h = subst (λ (q : World). has_ended q ≡ true) (some_same w v e) h
phases_end s number [] (d ∷ ds) w v e h = absurd (cc (e))
phases_end s number (p ∷ ps) [] w v e h = absurd (cc (e))
phases_end s number (p ∷ ps) (es ∷ more) w v e h =
    let t = then_some (run s es (begins number p w)) _ v e in
    let c = if_some (has_ended t.0) _ v t.2 in
    phases_end s (number + 1) ps more t.0 v c.1 c.0

-- where every command has ended none is under way
pub none_comes : (w : World) (i : ℕ) (a : Actor) (c : Numbered) → has_ended w ≡ true → slice_get w.actors i ≡ Some a → slice_get a.script 0 ≡ Some c → ⊥
none_comes w i a c ended found current_is = none_first a.script c (ended_each w.actors i a ended found) current_is
  where
    none_first : (cs : List Numbered) (c : Numbered) → cs ≡ [] → slice_get cs 0 ≡ Some c → ⊥
    none_first [] c is h = cc (h)
    none_first (d ∷ cs) c is h = cc (is)
