-- The acts of a run, one event after another.
use Rattle.std.proofs.Common.{◌≡◌, ℕ, zero, suc, ◌≤◌, List, [], ◌∷◌, ◌++◌, length, map, Some, inl, refl, sym, ap, ◌∙◌, subst, arith}
use Rattle.std.specs.Prelude.{take}
use Rattle.guest_mem.specs.declared.region.Region.{Region}
use Rattle.scen_text.specs.declared.scenario.Scenario.{Scenario}
use Rattle.scen_laid.specs.Laid.{IsLaid}
use Rattle.tap_sound.specs.Worlds.{IsWorldOf, OpeningIsFirst}
use Rattle.tap_steer.specs.After.{after_all}
use Rattle.tap_world.specs.ByNumber.{at}
use Rattle.tap_world.specs.Guests.{new_guest}
use Rattle.tap_world.specs.Runs.{opening}
use Rattle.tap_world.specs.Setup.{Setup, opening_table, setup_of}
use Rattle.tap_world.specs.declared.told.Published.{Published}
use Rattle.tap_world.specs.World.{World}
use Rattle.tap_legal.specs.Case.{Case}
use Rattle.tap_sights.specs.Acts.{first_state, last_state}
use Rattle.tap_sights.specs.GuestFacts.{printed}
use Rattle.tap_grows.specs.Grows.{Continues}
use Rattle.tap_grows.specs.Leads.{Leads}
use Rattle.tap_grows.specs.Leads.Leads.{Begins, Goes, Here}
use Rattle.tap_grows.specs.Runs.{EventsGrow, RunsGrow}
use Rattle.tap_acted.specs.Acted.{acts_on}
use Rattle.tap_acted.specs.Laws.{EventsAreActs}
use Rattle.tap_acted.specs.Standing.{AreActs, IsCaseOf, StandsAs}
use Rattle.tap_acted.proofs.Folds.{all_more, last_more, printed_more}
use Rattle.tap_acted.proofs.Opens.{begun_stands, first_guest, opens}

-- ---- cases

taken_front : {A : Type 0} (n : ℕ) (xs ys : List A) → n ≤ length xs → take n (xs ++ ys) ≡ take n xs
taken_front zero xs ys h = refl
taken_front (suc n) [] ys h = absurd (omega (arith, h))
taken_front (suc n) (x ∷ xs) ys h = ap (λ l. x ∷ l) (taken_front n xs ys (omega (arith, h)))

longer : {A : Type 0} (n : ℕ) (xs ys : List A) → n ≤ length xs → n ≤ length (xs ++ ys)
longer zero xs ys h = omega arith
longer (suc n) [] ys h = absurd (omega (arith, h))
longer (suc n) (x ∷ xs) ys h = let t = longer n xs ys (omega (arith, h)) in omega (arith, t)

-- what is a case of a later world is one of this one
case_before : (c : Case) (s : Setup) (w u : World) → Continues w.ops u.ops → IsCaseOf c s u → IsCaseOf c s w
case_before c s w u more h = record {
  setup = h.setup;
  tables = λ version less.
      h.tables version (subst (λ (l : List Published). version ≤ length l) (sym more.1) (longer version w.ops more.0 less))
      ∙ ap (λ (l : List Published). after_all (opening_table s) (map (λ (p : Published). p.op) l))
      (ap (λ (l : List Published). take version l) more.1 ∙ taken_front version w.ops more.0 less);
}

-- ---- along a run

pub record ActLaws : Type 0 where
  pub first : OpeningIsFirst
  pub grow : EventsGrow
  pub runs : RunsGrow
  pub events : EventsAreActs

opening_world : OpeningIsFirst → (s : Scenario) → IsWorldOf s (opening (setup_of s))
opening_world first s = record { ended = 0; before = opening (setup_of s); is_before = first s; now = inl refl }

opening_acts : (c : Case) (s : Setup) (w : World) → w ≡ opening s → IsCaseOf c s w → (guest : ℕ) (regions : List Region)
    → at s.guests guest ≡ Some regions → AreActs c w guest regions []
opening_acts c s w same is guest regions there = subst (λ (q : World). AreActs c q guest regions []) (sym same) (record {
  done = [];
  folds = refl;
  now = new_guest regions;
  is_now = first_guest s guest regions there;
  stands = opens c s guest regions is.setup;
  steps = refl;
})

pub along : ActLaws → (s : Scenario) (o w : World) → o ≡ opening (setup_of s) → IsLaid s → (lead : Leads s o w) (c : Case)
    → IsCaseOf c (setup_of s) w → (guest : ℕ) (regions : List Region) → at (setup_of s).guests guest ≡ Some regions
    → AreActs c w guest regions (acts_on s guest o w lead)
along laws s o w same laid Here c is guest regions there = opening_acts c (setup_of s) w same is guest regions there
along laws s o w same laid (Goes v u e heard lead step) c is guest regions there =
    let first : IsWorldOf s o = subst (IsWorldOf s) (sym same) (opening_world laws.first s) in
    let reached = (laws.runs s o v laid first lead).0 in
    let case = case_before c (setup_of s) v u (laws.grow s v e (u, heard) laid reached step).ops is in
    let r = along laws s o v same laid lead c case guest regions there in
    let k = laws.events s v e (u, heard) laid reached step c case guest r.now
    (last_state (first_state c guest regions) r.done) r.is_now r.stands in
    record {
      done = r.done ++ k.done;
      folds = all_more c guest (acts_on s guest o v lead) _ (first_state c guest regions) r.done k.done r.folds k.folds;
      now = k.now;
      is_now = k.is_now;
      stands = subst (StandsAs u guest k.now) (sym (last_more (first_state c guest regions) r.done k.done)) k.stands;
      steps = printed_more r.done k.done ∙ ap (λ l. l ++ printed k.done) r.steps ∙ sym k.steps;
    }
along laws s o w same laid (Begins v ended p lead between step) c is guest regions there =
    let r = along laws s o v same laid lead c (record { setup = is.setup; tables = is.tables }) guest regions there in
    record {
      done = r.done;
      folds = r.folds;
      now = r.now;
      is_now = r.is_now;
      stands = begun_stands ended p v guest r.now _ between.all_ended r.stands;
      steps = r.steps;
    }
