-- What accepted declarations lay down.
use Rattle.std.proofs.Common.{◌≡◌, ℕ, suc, ◌+◌, ◌-◌, ◌^◌, ◌<◌, ◌≤◌, Bool, true, false, cond, ◌||◌, not, eqb, List, [], ◌∷◌, ◌++◌, length, Option, Some, None, is_some, unwrap_or, option_map, refl, sym, ap, subst, ◌∙◌, eqb-true, fold, arith}
use Rattle.std.specs.List.{AllByRecursion, cons_option, filter_map, list_any}
use Rattle.std.proofs.lemmas.List.{length-set}
use Rattle.std.proofs.lemmas.List.Elements.{All-replicate, All-set, filter_map-append}
use Rattle.std.proofs.lemmas.List.Folds.{list_any-append}
use Rattle.std.proofs.lemmas.List.Sums.{fold-append}
use Rattle.ebpf_code.specs.FirstFault.{first_fault}
use Rattle.guest_mem.specs.declared.region.Region.{Region as Piece}
use Rattle.guest_mem.specs.declared.region.RegionFault.{RegionFault}
use Rattle.guest_mem.specs.Regions.{refusal}
use Rattle.scen_words.specs.declared.declaration.Declaration.{Declaration}
use Rattle.scen_words.specs.declared.declaration.Declaration.TheVariants as declares
use Rattle.scen_words.specs.declared.fault.Why.{Why}
use Rattle.scen_words.specs.declared.fault.Why.TheVariants as why
use Rattle.scen_words.specs.declared.sentence.Sentence.{Sentence}
use Rattle.scen_words.specs.declared.sentence.Sentence.TheVariants.{Skipped, Declares, Orders, Opens, Ends}
use Rattle.scen_text.specs.declared.scenario.Scenario.{Scenario}
use Rattle.scen_text.specs.Before.{declarations_of}
use Rattle.scen_text.specs.Refusals.{is_file, is_guest, is_program, is_twice, is_vhost, lacks_guest, piece_of, program_why, region_why, regions_of}
use Rattle.tap_steer.specs.Named.{AreLimits}
use Rattle.tap_world.specs.ByNumber.{at, put_at}
use Rattle.tap_world.specs.Setup.{Declared, Setup, nothing_of, place_among, with_declaration}
use Rattle.tap_sound.specs.Reached.{HasPlaces}
use Rattle.tap_sound.specs.SoundRuns.{HasGuests}
use Rattle.scen_laid.specs.Declared.{AreFew, HasCapacities, HasFlows, HasMemories, HasPrograms, IsInRange}
use Rattle.scen_laid.proofs.Histories.{Accepted, declaration_after, was_declared}
use Rattle.scen_laid.proofs.Placed.{all_more, at_put, each_put, few_put, kept_put}
use Rattle.scen_laid.proofs.Programs.{AreNumberedOnce, few_numbered, none_numbered, numbered_more}
use Rattle.scen_laid.proofs.Ranges.{in_range}

-- ---- what is declared is there, and nothing else

-- regions, where there are some
abbrev some_regions : List Piece → Option (List Piece)
some_regions [] = None
some_regions (r ∷ rs) = Some (r ∷ rs)

pub record Matches (ds : List Declaration) (s : Setup) : Type 0 where
  pub files : (n : ℕ) → is_some (at s.files n) ≡ list_any (is_file n) ds
  pub guests : (n : ℕ) → at s.guests n ≡ some_regions (regions_of n ds)
  pub vhosts : (n : ℕ) → is_some (at s.vhosts n) ≡ list_any (is_vhost n) ds
  pub programs : (n : ℕ) → list_any (λ (p : ℕ × List ℕ). eqb p.0 n) s.programs ≡ list_any (is_program n) ds

-- one declaration more, which is or isn't the one that is looked for
any_more : (test : Declaration → Bool) (ds : List Declaration) (d : Declaration) (b : Bool) → test d ≡ b → list_any test (ds ++ d ∷ []) ≡ (list_any test ds || (b || false))
any_more test ds d b e = list_any-append test ds (d ∷ []) ∙ ap (λ (x : Bool). list_any test ds || (x || false)) e

or_nothing : (a : Bool) → (a || (false || false)) ≡ a
or_nothing true = refl
or_nothing false = refl

same_any : (test : Declaration → Bool) (ds : List Declaration) (d : Declaration) (x : Bool) → test d ≡ false → x ≡ list_any test ds → x ≡ list_any test (ds ++ d ∷ [])
same_any test ds d x e h = h ∙ sym (or_nothing (list_any test ds)) ∙ sym (any_more test ds d false e)

there_by : {A : Type 0} (b l : Bool) (x : A) (o : Option A) → is_some o ≡ l → is_some (cond b (Some x) o) ≡ (l || (b || false))
there_by true true x o h = refl
there_by true false x o h = refl
there_by false true x o h = h
there_by false false x o h = h

put_any : {A : Type 0} (test : Declaration → Bool) (ds : List Declaration) (d : Declaration) (n m : ℕ) (x : A) (xs : List (Option A)) → test d ≡ eqb n m → is_some (at xs m) ≡ list_any test ds
    → is_some (at (put_at n x xs) m) ≡ list_any test (ds ++ d ∷ [])
put_any {A} test ds d n m x xs is h =
    ap (λ (o : Option A). is_some o) (at_put n m x xs (eqb n m) refl) ∙ there_by (eqb n m) (list_any test ds) x (at xs m) h ∙ sym (any_more test ds d (eqb n m) is)

listed : (n : ℕ) (program : ℕ) (code : List ℕ) (ps : List (ℕ × List ℕ)) (ds : List Declaration) → list_any (λ (p : ℕ × List ℕ). eqb p.0 n) ps ≡ list_any (is_program n) ds
    → list_any (λ (p : ℕ × List ℕ). eqb p.0 n) (ps ++ (program, code) ∷ []) ≡ list_any (is_program n) (ds ++ declares.Prog program code ∷ [])
listed n program code ps ds h =
    list_any-append (λ (p : ℕ × List ℕ). eqb p.0 n) ps ((program, code) ∷ []) ∙ ap (λ (x : Bool). x || (eqb program n || false)) h
    ∙ sym (any_more (is_program n) ds (declares.Prog program code) (eqb program n) refl)

-- ---- regions

regions_more : (n : ℕ) (ds : List Declaration) (d : Declaration) → regions_of n (ds ++ d ∷ []) ≡ regions_of n ds ++ filter_map (piece_of n) (d ∷ [])
unfolding regions_of
regions_more n ds d = filter_map-append (piece_of n) ds (d ∷ [])

add_nothing : (rs : List Piece) → rs ≡ rs ++ []
add_nothing [] = refl
add_nothing (r ∷ rs) = ap (λ (x : List Piece). r ∷ x) (add_nothing rs)

same_regions : (n : ℕ) (ds : List Declaration) (d : Declaration) (o : Option (List Piece)) → piece_of n d ≡ None → o ≡ some_regions (regions_of n ds) → o ≡ some_regions (regions_of n (ds ++ d ∷ []))
same_regions n ds d o none h =
    h ∙ ap some_regions (add_nothing (regions_of n ds) ∙ ap (λ (x : List Piece). regions_of n ds ++ x) (sym (kept (piece_of n d) none)) ∙ sym (regions_more n ds d))
  where
    kept : (p : Option Piece) → p ≡ None → filter_map (λ (x : Option Piece). x) (p ∷ []) ≡ []
    kept None e = refl
    kept (Some r) e = absurd (cc (e))

taken_regions : (rs : List Piece) → unwrap_or (some_regions rs) [] ≡ rs
taken_regions [] = refl
taken_regions (r ∷ rs) = refl

more_regions : (rs : List Piece) (r : Piece) → some_regions (rs ++ r ∷ []) ≡ Some (rs ++ r ∷ [])
more_regions [] r = refl
more_regions (q ∷ rs) r = refl

abbrev piece : ℕ → ℕ → Piece
piece addr len = record { addr = addr; len = len }

-- the regions that a guest has with one more
abbrev grown : List (Option (List Piece)) → ℕ → ℕ → ℕ → List Piece
grown gs guest addr len = unwrap_or (at gs guest) [] ++ piece addr len ∷ []

grown_is : (ds : List Declaration) (gs : List (Option (List Piece))) (guest addr len : ℕ) → at gs guest ≡ some_regions (regions_of guest ds) → grown gs guest addr len ≡ regions_of guest ds ++ piece addr len ∷ []
grown_is ds gs guest addr len h = ap (λ (o : Option (List Piece)). unwrap_or o [] ++ piece addr len ∷ []) h ∙ ap (λ (rs : List Piece). rs ++ piece addr len ∷ []) (taken_regions (regions_of guest ds))

put_region : (ds : List Declaration) (gs : List (Option (List Piece))) (guest addr len n : ℕ) → ((m : ℕ) → at gs m ≡ some_regions (regions_of m ds))
    → at (put_at guest (grown gs guest addr len) gs) n ≡ some_regions (regions_of n (ds ++ declares.Region guest addr len ∷ []))
put_region ds gs guest addr len n h = go (eqb guest n) refl
  where
    d : Declaration
    d = declares.Region guest addr len

    go : (b : Bool) → eqb guest n ≡ b → at (put_at guest (grown gs guest addr len) gs) n ≡ some_regions (regions_of n (ds ++ declares.Region guest addr len ∷ []))
    go true is =
        let one : filter_map (piece_of n) (declares.Region guest addr len ∷ []) ≡ piece addr len ∷ [] = rw is refl in
        let same : guest ≡ n = eqb-true guest n is in
        at_put guest n (grown gs guest addr len) gs true is ∙ ap (λ (x : List Piece). Some x) (grown_is ds gs guest addr len (h guest))
        ∙ sym (more_regions (regions_of guest ds) (piece addr len))
        ∙ ap (λ (m : ℕ). some_regions (regions_of m ds ++ piece addr len ∷ [])) same
        ∙ ap (λ (x : List Piece). some_regions (regions_of n ds ++ x)) (sym one) ∙ ap some_regions (sym (regions_more n ds (declares.Region guest addr len)))
    go false is =
        let none : piece_of n (declares.Region guest addr len) ≡ None = rw is refl in
        at_put guest n (grown gs guest addr len) gs false is ∙ same_regions n ds (declares.Region guest addr len) (at gs n) none (h n)

-- ---- one declaration more

matches_more : (ds : List Declaration) (d : Declaration) (s : Setup) → Matches ds s → Matches (ds ++ d ∷ []) (with_declaration s d)
matches_more ds (declares.File file capacity first) s h = record {
  files = λ n. put_any (is_file n) ds (declares.File file capacity first) file n (record { capacity = capacity; first = first }) s.files refl (h.files n);
  guests = λ n. same_regions n ds (declares.File file capacity first) (at s.guests n) refl (h.guests n);
  vhosts = λ n. same_any (is_vhost n) ds (declares.File file capacity first) (is_some (at s.vhosts n)) refl (h.vhosts n);
  programs = λ n. same_any (is_program n) ds (declares.File file capacity first) (list_any (λ (p : ℕ × List ℕ). eqb p.0 n) s.programs) refl (h.programs n);
}
matches_more ds (declares.Region guest addr len) s h = record {
  files = λ n. same_any (is_file n) ds (declares.Region guest addr len) (is_some (at s.files n)) refl (h.files n);
  guests = λ n. put_region ds s.guests guest addr len n h.guests;
  vhosts = λ n. same_any (is_vhost n) ds (declares.Region guest addr len) (is_some (at s.vhosts n)) refl (h.vhosts n);
  programs = λ n. same_any (is_program n) ds (declares.Region guest addr len) (list_any (λ (p : ℕ × List ℕ). eqb p.0 n) s.programs) refl (h.programs n);
}
matches_more ds (declares.Vhost vhost guest) s h = record {
  files = λ n. same_any (is_file n) ds (declares.Vhost vhost guest) (is_some (at s.files n)) refl (h.files n);
  guests = λ n. same_regions n ds (declares.Vhost vhost guest) (at s.guests n) refl (h.guests n);
  vhosts = λ n. put_any (is_vhost n) ds (declares.Vhost vhost guest) vhost n guest s.vhosts refl (h.vhosts n);
  programs = λ n. same_any (is_program n) ds (declares.Vhost vhost guest) (list_any (λ (p : ℕ × List ℕ). eqb p.0 n) s.programs) refl (h.programs n);
}
matches_more ds (declares.Prog program code) s h = record {
  files = λ n. same_any (is_file n) ds (declares.Prog program code) (is_some (at s.files n)) refl (h.files n);
  guests = λ n. same_regions n ds (declares.Prog program code) (at s.guests n) refl (h.guests n);
  vhosts = λ n. same_any (is_vhost n) ds (declares.Prog program code) (is_some (at s.vhosts n)) refl (h.vhosts n);
  programs = λ n. listed n program code s.programs ds (h.programs n);
}
matches_more ds (declares.Flows name limit age) s h = record {
  files = λ n. same_any (is_file n) ds (declares.Flows name limit age) (is_some (at s.files n)) refl (h.files n);
  guests = λ n. same_regions n ds (declares.Flows name limit age) (at s.guests n) refl (h.guests n);
  vhosts = λ n. same_any (is_vhost n) ds (declares.Flows name limit age) (is_some (at s.vhosts n)) refl (h.vhosts n);
  programs = λ n. same_any (is_program n) ds (declares.Flows name limit age) (list_any (λ (p : ℕ × List ℕ). eqb p.0 n) s.programs) refl (h.programs n);
}

-- ---- what is laid down is good

pub record Good (s : Setup) : Type 0 where
  pub places : HasPlaces s
  pub capacities : HasCapacities s
  pub guests : HasGuests s
  pub memories : HasMemories s
  pub programs : HasPrograms s
  pub numbered : AreNumberedOnce s.programs
  pub flows : HasFlows s
  pub few : AreFew s

file_more : (s : Setup) (file capacity first : ℕ) → Good s → IsInRange (declares.File file capacity first) → Good (with_declaration s (declares.File file capacity first))
file_more s file capacity first h r = record {
  places = each_put (λ (d : Declared). d.first ≤ 2 ^ 40 - 1) file (record { capacity = capacity; first = first }) s.files r.3 h.places;
  capacities = each_put (λ (d : Declared). (1 ≤ d.capacity) × (d.capacity ≤ 1024)) file (record { capacity = capacity; first = first }) s.files (r.1, r.2) h.capacities;
  guests = h.guests;
  memories = h.memories;
  programs = h.programs;
  numbered = h.numbered;
  flows = record { names = h.flows.names; limits = h.flows.limits };
  few = record {
    files = let few = r.0 in few_put file 320 (record { capacity = capacity; first = first }) s.files (omega arith) h.few.files;
    guests = h.few.guests;
    vhosts = h.few.vhosts;
    programs = h.few.programs;
  };
}

why_none : (o : Option RegionFault) → option_map why.Region o ≡ None → o ≡ None
why_none None e = refl
why_none (Some fault) e = absurd (cc (e))

region_more : (ds : List Declaration) (s : Setup) (guest addr len : ℕ) → Matches ds s → Good s → IsInRange (declares.Region guest addr len) → region_why ds (declares.Region guest addr len) ≡ None
    → Good (with_declaration s (declares.Region guest addr len))
region_more ds s guest addr len m h r fine =
    let fits : refusal (regions_of guest ds ++ piece addr len ∷ []) ≡ None = why_none (refusal (regions_of guest ds ++ piece addr len ∷ [])) fine in
    let new : refusal (grown s.guests guest addr len) ≡ None = ap (λ (rs : List Piece). refusal rs) (grown_is ds s.guests guest addr len (m.guests guest)) ∙ fits in
    record {
      places = h.places;
      capacities = h.capacities;
      guests = λ vhost other e. kept_put guest other (grown s.guests guest addr len) s.guests (h.guests vhost other e);
      memories = each_put (λ (rs : List Piece). refusal rs ≡ None) guest (grown s.guests guest addr len) s.guests new h.memories;
      programs = h.programs;
      numbered = h.numbered;
      flows = record { names = h.flows.names; limits = h.flows.limits };
      few = record { files = h.few.files; guests = few_put guest 8 (grown s.guests guest addr len) s.guests (omega (arith, r)) h.few.guests; vhosts = h.few.vhosts; programs = h.few.programs };
    }

-- a guest that is declared has regions
guest_there : (n : ℕ) (ds : List Declaration) → list_any (is_guest n) ds ≡ true → is_some (some_regions (regions_of n ds)) ≡ true
unfolding regions_of
guest_there n [] e = absurd (cc (e))
guest_there n (declares.File file capacity first ∷ ds) e = guest_there n ds e
guest_there n (declares.Region guest addr len ∷ ds) e = go (eqb guest n) e (guest_there n ds)
  where
    go : (b : Bool) → (b || list_any (is_guest n) ds) ≡ true → (list_any (is_guest n) ds ≡ true → is_some (some_regions (filter_map (piece_of n) ds)) ≡ true)
        → is_some (some_regions (cons_option (cond b (Some (piece addr len)) None) (filter_map (piece_of n) ds))) ≡ true
    go true e k = refl
    go false e k = k e
guest_there n (declares.Vhost vhost guest ∷ ds) e = guest_there n ds e
guest_there n (declares.Prog program code ∷ ds) e = guest_there n ds e
guest_there n (declares.Flows name limit age ∷ ds) e = guest_there n ds e

not_false : (b : Bool) → not b ≡ false → b ≡ true
not_false true e = refl
not_false false e = absurd (cc (e))

vhost_more : (ds : List Declaration) (s : Setup) (vhost guest : ℕ) → Matches ds s → Good s → IsInRange (declares.Vhost vhost guest) → lacks_guest ds (declares.Vhost vhost guest) ≡ false
    → Good (with_declaration s (declares.Vhost vhost guest))
vhost_more ds s vhost guest m h r fine =
    let new : is_some (at s.guests guest) ≡ true = ap (λ (o : Option (List Piece)). is_some o) (m.guests guest) ∙ guest_there guest ds (not_false (list_any (is_guest guest) ds) fine) in
    record {
      places = h.places;
      capacities = h.capacities;
      guests = each_put (λ (g : ℕ). is_some (at s.guests g) ≡ true) vhost guest s.vhosts new h.guests;
      memories = h.memories;
      programs = h.programs;
      numbered = h.numbered;
      flows = record { names = h.flows.names; limits = h.flows.limits };
      few = record { files = h.few.files; guests = h.few.guests; vhosts = let few = r.0 in few_put vhost 64 guest s.vhosts (omega arith) h.few.vhosts; programs = h.few.programs };
    }

fault_none : {A : Type 0} (o : Option A) (f : A → Why) → option_map f o ≡ None → o ≡ None
fault_none None f e = refl
fault_none (Some x) f e = absurd (cc (e))

program_more : (ds : List Declaration) (s : Setup) (program : ℕ) (code : List ℕ) → Matches ds s → Good s → IsInRange (declares.Prog program code) → is_twice ds (declares.Prog program code) ≡ false → program_why (declares.Prog program code) ≡ None
    → Good (with_declaration s (declares.Prog program code))
program_more ds s program code m h r new fine =
    let numbered : AreNumberedOnce (s.programs ++ (program, code) ∷ []) = numbered_more s.programs program code h.numbered r (m.programs program ∙ new) in
    record {
      places = h.places;
      capacities = h.capacities;
      guests = h.guests;
      memories = h.memories;
      programs = all_more (λ (p : ℕ × List ℕ). first_fault p.1 ≡ None) s.programs (program, code) h.programs (fault_none (first_fault code) why.Program fine);
      numbered = numbered;
      flows = record { names = h.flows.names; limits = h.flows.limits };
      few = record { files = h.few.files; guests = h.few.guests; vhosts = h.few.vhosts; programs = few_numbered (s.programs ++ (program, code) ∷ []) numbered };
    }

flows_more : (s : Setup) (name limit age : ℕ) → Good s → IsInRange (declares.Flows name limit age) → Good (with_declaration s (declares.Flows name limit age))
flows_more s name limit age h r = record {
  places = h.places;
  capacities = h.capacities;
  guests = h.guests;
  memories = h.memories;
  programs = h.programs;
  numbered = h.numbered;
  flows = record { names = length-set s.flows name (limit, age) ∙ h.flows.names; limits = All-set AreLimits s.flows name (limit, age) r h.flows.limits };
  few = record { files = h.few.files; guests = h.few.guests; vhosts = h.few.vhosts; programs = h.few.programs };
}

good_more : (ds : List Declaration) (d : Declaration) (s : Setup) → Matches ds s → Good s → IsInRange d → is_twice ds d ≡ false → lacks_guest ds d ≡ false → region_why ds d ≡ None → program_why d ≡ None → Good (with_declaration s d)
good_more ds (declares.File file capacity first) s m h r new guest region program = file_more s file capacity first h r
good_more ds (declares.Region n addr len) s m h r new guest region program = region_more ds s n addr len m h r region
good_more ds (declares.Vhost vhost n) s m h r new guest region program = vhost_more ds s vhost n m h r guest
good_more ds (declares.Prog n code) s m h r new guest region program = program_more ds s n code m h r new program
good_more ds (declares.Flows name limit age) s m h r new guest region program = flows_more s name limit age h r

-- ---- all declarations

-- what the declarations of a history lay down, in the set-up of a scenario
abbrev pub laid_down : Scenario → List Sentence → Setup
laid_down s e = fold with_declaration (nothing_of s) (declarations_of e)

pub record Lays (s : Scenario) (e : List Sentence) : Type 0 where
  pub ranges : AllByRecursion IsInRange (declarations_of e)
  pub is : Matches (declarations_of e) (laid_down s e)
  pub good : Good (laid_down s e)

usual : AreLimits (4096, 3000)
usual = record { some = omega arith; few = omega arith; old = omega arith; young = omega arith }

nothing_laid : (s : Scenario) → Lays s []
unfolding declarations_of regions_of
nothing_laid s = record {
  ranges = tt;
  is = record { files = λ n. refl; guests = λ n. refl; vhosts = λ n. refl; programs = λ n. refl };
  good = record {
    places = λ file d e. absurd (cc (e));
    capacities = λ file d e. absurd (cc (e));
    guests = λ vhost guest e. absurd (cc (e));
    memories = λ guest rs e. absurd (cc (e));
    programs = tt;
    numbered = none_numbered;
    flows = record { names = refl; limits = All-replicate AreLimits 64 (4096, 3000) usual };
    few = record { files = omega arith; guests = omega arith; vhosts = omega arith; programs = omega arith };
  };
}

lays_more : (s : Scenario) (e : List Sentence) (d : Declaration) (t : Setup) (ds : List Declaration) → AllByRecursion IsInRange ds → Matches ds t → Good t → IsInRange d → is_twice ds d ≡ false → lacks_guest ds d ≡ false → region_why ds d ≡ None → program_why d ≡ None
    → t ≡ fold with_declaration (nothing_of s) ds
    → AllByRecursion IsInRange (ds ++ d ∷ []) × Matches (ds ++ d ∷ []) (fold with_declaration (nothing_of s) (ds ++ d ∷ [])) × Good (fold with_declaration (nothing_of s) (ds ++ d ∷ []))
lays_more s e d t ds ranges m h r new guest region program is =
    let step : with_declaration t d ≡ fold with_declaration (nothing_of s) (ds ++ d ∷ []) = ap (λ (x : Setup). with_declaration x d) is ∙ sym (fold-append with_declaration (nothing_of s) ds (d ∷ [])) in (
      all_more IsInRange ds d ranges r,
      subst (λ (x : Setup). Matches (ds ++ d ∷ []) x) step (matches_more ds d t m),
      subst (λ (x : Setup). Good x) step (good_more ds d t m h r new guest region program),
    )

pub lays : (s : Scenario) (version : ℕ) (e : List Sentence) → Accepted version e → Lays s e
unfolding declarations_of
lays s version [] h = nothing_laid s
lays s version (Skipped ∷ e) h = let l = lays s version e h.1 in record { ranges = l.ranges; is = l.is; good = l.good }
lays s version (Declares w v ∷ e) h =
    let l = lays s version e h.1 in
    let t = was_declared e h.0.last w v h.0.fine in
    let m = lays_more s e (declaration_after e w v) (laid_down s e) (declarations_of e) l.ranges l.is l.good (in_range _ w v h.0.fits.1) t.new t.guest t.region t.program refl in
    record { ranges = m.0; is = m.1; good = m.2 }
lays s version (Orders a w v ∷ e) h = let l = lays s version e h.1 in record { ranges = l.ranges; is = l.is; good = l.good }
lays s version (Opens n ∷ e) h = let l = lays s version e h.1 in record { ranges = l.ranges; is = l.is; good = l.good }
lays s version (Ends ∷ e) h = let l = lays s version e h.1 in record { ranges = l.ranges; is = l.is; good = l.good }

-- ---- what was looked for

pub guest_is_there : (ds : List Declaration) (s : Setup) (n : ℕ) → Matches ds s → list_any (is_guest n) ds ≡ true → is_some (at s.guests n) ≡ true
guest_is_there ds s n m e = ap (λ (o : Option (List Piece)). is_some o) (m.guests n) ∙ guest_there n ds e

among : (n : ℕ) (ps : List (ℕ × List ℕ)) → list_any (λ (p : ℕ × List ℕ). eqb p.0 n) ps ≡ true → place_among n ps < length ps
among n [] e = absurd (cc (e))
among n (p ∷ ps) e = go (eqb p.0 n) e (among n ps)
  where
    go : (b : Bool) → (b || list_any (λ (q : ℕ × List ℕ). eqb q.0 n) ps) ≡ true → (list_any (λ (q : ℕ × List ℕ). eqb q.0 n) ps ≡ true → place_among n ps < length ps)
        → cond b 0 (place_among n ps + 1) < suc (length ps)
    go true e k = omega arith
    go false e k = let lt = k e in omega arith

pub program_is_there : (ds : List Declaration) (s : Setup) (n : ℕ) → Matches ds s → list_any (is_program n) ds ≡ true → place_among n s.programs < length s.programs
program_is_there ds s n m e = among n s.programs (m.programs n ∙ e)

-- ---- names

kept_names : (ds : List Declaration) (t : Setup) → (fold with_declaration t ds).names ≡ t.names
kept_names [] t = refl
kept_names (declares.File file capacity first ∷ ds) t = kept_names ds (with_declaration t (declares.File file capacity first))
kept_names (declares.Region guest addr len ∷ ds) t = kept_names ds (with_declaration t (declares.Region guest addr len))
kept_names (declares.Vhost vhost guest ∷ ds) t = kept_names ds (with_declaration t (declares.Vhost vhost guest))
kept_names (declares.Prog program code ∷ ds) t = kept_names ds (with_declaration t (declares.Prog program code))
kept_names (declares.Flows name limit age ∷ ds) t = kept_names ds (with_declaration t (declares.Flows name limit age))

-- the names of a set-up are the scenario's
pub names_laid : (s : Scenario) (e : List Sentence) → (laid_down s e).names ≡ s.names
names_laid s e = kept_names (declarations_of e) (nothing_of s)
