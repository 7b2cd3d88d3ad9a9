-- What each kind of line does to what is kept, and when it is refused.
use Rattle.std.proofs.Common.{◌≡◌, ℕ, ◌+◌, Bool, true, false, ◌&&◌, ◌||◌, cond, List, [], ◌∷◌, ◌++◌, Option, Some, None, Result, Ok, Err, ◌≤◌, ◌<◌, leb, refl, sym, ap, ◌∙◌, arith, length, get_or, drop, suc, zero-add}
use Rattle.std.proofs.Math.Seq.{drop-cons}
use Rattle.std.specs.Str.{bytes_eq}
use Rattle.scen_text.specs.declared.scenario.Scenario.{Scenario}
use Rattle.scen_text.specs.Scenario.{scenario_of}
use Rattle.std.specs.List.{list_any}
use Rattle.std.proofs.lemmas.Bool.{leb-false}
use Rattle.std.proofs.lemmas.List.{append-nil}
use Rattle.std.specs.Prelude.{unwrap_or}
use Rattle.text_fields.specs.declared.value.Value.{Value}
use Rattle.ebpf_code.specs.FirstFault.{first_fault}
use Rattle.ebpf_code.specs.declared.fault.CodeFault.{CodeFault}
use Rattle.guest_mem.specs.declared.region.RegionFault.{RegionFault}
use Rattle.guest_mem.specs.Regions.{refusal}
use Rattle.scen_text.specs.declared.builder.Builder.{Builder}
use Rattle.scen_words.specs.declared.command.Command.{Command}
use Rattle.tap_ground.specs.declared.error.OrMemory.{OrMemory}
use Rattle.tap_ground.specs.declared.error.OrMemory.TheVariants as error
use Rattle.scen_words.specs.declared.fault.Why.{Why}
use Rattle.scen_words.specs.declared.fault.Why.TheVariants as why
use Rattle.scen_text.specs.declared.place.Place.{Place}
use Rattle.scen_text.specs.declared.place.Place.TheVariants.{Outside, Run, Block}
use Rattle.scen_text.specs.declared.scenario.Line.{Line}
use Rattle.scen_text.specs.declared.scenario.Phase.{Phase}
use Rattle.scen_words.specs.declared.sentence.Sentence.{Sentence}
use Rattle.scen_words.specs.declared.sentence.Sentence.TheVariants.{Skipped, Declares, Orders, Opens, Ends}
use Rattle.scen_words.specs.declared.word.CommandWord.{CommandWord}
use Rattle.scen_words.specs.declared.word.DeclarationWord.{DeclarationWord}
use Rattle.scen_words.specs.declared.word.DeclarationWord.TheVariants as declaration
use Rattle.scen_text.specs.Before.{Before, before, add_line, at_last, command_count, declarations_of, is_started, names_of, number_among, number_for, phase_of, phases_of, place_of, turn_count, with_line, with_name}
use Rattle.scen_text.specs.Building.{Hears, HearsLine, Keeps, Takes, closed, shown, standing, with_command, with_declaration}
use Rattle.scen_words.specs.Commands.{bytes_at, command_of, commanded_name, declaration_of, declared_name, is_turn, u16_at, u64_at}
use Rattle.tap_ground.specs.Errors.{Gives}
use Rattle.scen_words.specs.Sentences.{sentence_of}
use Rattle.scen_text.specs.Lines.{lines_before, open_phase, place_after, turns_of}
use Rattle.scen_text.specs.Refusals.{cause, command_why, declaration_why, is_block, is_file, is_flows, is_guest, is_misplaced, is_program, is_unknown, is_vhost, passes_limit, passes_names, regions_of, said_in}

-- ---- what is kept

pub hears_declaration : (old new : Builder) (w : DeclarationWord) (vs : List Value)
    → standing new ≡ with_declaration (standing old) (declaration_of (number_for old.names (declared_name w vs)) w vs) (declared_name w vs)
    → shown new ≡ shown old → Hears old new (Declares w vs)
unfolding declarations_of names_of is_started place_of command_count turn_count phases_of
hears_declaration old new w vs is same =
    λ earlier keeps. record {
      standing = is ∙ ap (λ (b : Before). with_declaration b (declaration_of (number_for b.names (declared_name w vs)) w vs) (declared_name w vs)) keeps.standing;
      phases = same ∙ keeps.phases;
    }

next_place : Place → Option ℕ → Place
next_place p None = Run
next_place p (Some k) = p

place_is : (p : Place) (actor : Option ℕ) → is_misplaced p actor ≡ false → place_after p ≡ next_place p actor
unfolding next_place
place_is Outside None h = refl
place_is Run None h = refl
place_is (Block n) None h = absurd cc
place_is Outside (Some k) h = absurd cc
place_is Run (Some k) h = absurd cc
place_is (Block n) (Some k) h = refl

next_is : (earlier : List Sentence) (actor : Option ℕ) (w : CommandWord) (vs : List Value) → next_place (place_of earlier) actor ≡ place_of (Orders actor w vs ∷ earlier)
unfolding next_place place_of
next_is earlier None w vs = refl
next_is earlier (Some k) w vs = refl

abbrev pub line_in : Before → Option ℕ → CommandWord → List Value → Line
line_in b actor w vs = record { actor = unwrap_or actor 0; number = b.commands; command = command_of (number_for b.names (commanded_name w vs)) w vs }

pub hears_command : (old new : Builder) (actor : Option ℕ) (w : CommandWord) (vs : List Value) (c : Command) (k : ℕ)
    → c ≡ command_of (number_for old.names (commanded_name w vs)) w vs → k ≡ unwrap_or actor 0 → is_misplaced old.place actor ≡ false
    → standing new ≡ with_command (standing old) c (commanded_name w vs)
    → shown new ≡ add_line old.place (record { actor = k; number = old.commands; command = c }) (shown old) → Hears old new (Orders actor w vs)
unfolding declarations_of names_of is_started command_count turn_count phases_of
hears_command old new actor w vs c k is_c is_k fits is more =
    λ earlier keeps.
    let name : Option (List ℕ) = commanded_name w vs in
    let there : old.place ≡ place_of earlier = ap (λ (b : Before). b.place) keeps.standing in
    let fits_there : is_misplaced (place_of earlier) actor ≡ false = rw there at fits in
    let at : Place → Before = λ (p : Place). record {
      declarations = declarations_of earlier;
      names = with_name (names_of earlier) name;
      started = true;
      place = p;
      commands = command_count earlier + 1;
      turns = turn_count earlier + cond (is_turn (command_of (number_for (names_of earlier) name) w vs)) 1 0;
    } in
    record {
      standing =
          is ∙ ap (λ (d : Command). with_command (standing old) d name) is_c
          ∙ ap (λ (b : Before). with_command b (command_of (number_for b.names name) w vs) name) keeps.standing
          ∙ ap at (place_is (place_of earlier) actor fits_there ∙ next_is earlier actor w vs);
      phases =
          more
          ∙ ap (λ (d : Command). let l : Line = record { actor = k; number = old.commands; command = d } in add_line old.place l (shown old)) is_c
          ∙ ap (λ (n : ℕ). let l : Line = record { actor = n; number = old.commands; command = command_of (number_for old.names name) w vs } in add_line old.place l (shown old)) is_k
          ∙ ap (λ (b : Before). add_line b.place (line_in b actor w vs) (shown old)) keeps.standing
          ∙ ap (add_line (place_of earlier) (line_in (before earlier) actor w vs)) keeps.phases;
    }

pub hears_opens : (old new : Builder) (actors : ℕ)
    → standing new ≡ record (standing old) { started = true; place = Block actors } → shown new ≡ shown old ++ phase_of actors [] ∷ [] → Hears old new (Opens actors)
unfolding declarations_of names_of is_started place_of command_count turn_count phases_of with_name
hears_opens old new actors is more =
    λ earlier keeps. record {
      standing = is ∙ ap (λ (b : Before). let r : Before = record b { started = true; place = Block actors } in r) keeps.standing;
      phases = more ∙ ap (λ ps. ps ++ phase_of actors [] ∷ []) keeps.phases;
    }

pub hears_ends : (old new : Builder)
    → standing new ≡ record (standing old) { started = true; place = Outside } → shown new ≡ shown old → Hears old new Ends
unfolding declarations_of names_of is_started place_of command_count turn_count phases_of with_name
hears_ends old new is same =
    λ earlier keeps. record {
      standing = is ∙ ap (λ (b : Before). let r : Before = record b { started = true; place = Outside } in r) keeps.standing;
      phases = same ∙ keeps.phases;
    }

pub hears_skipped : (b : Builder) → Hears b b Skipped
unfolding declarations_of names_of is_started place_of command_count turn_count phases_of with_name
hears_skipped b = λ earlier keeps. record { standing = keeps.standing; phases = keeps.phases }

-- ---- refusals of declarations

pub late : (b : Before) (last : Bool) (w : DeclarationWord) (vs : List Value) → b.started ≡ true → cause b last (Declares w vs) ≡ Some why.Late
unfolding cause declaration_why
late b last w vs h = rw h refl

pub file_twice : (b : Before) (last : Bool) (vs : List Value) → b.started ≡ false → list_any (is_file (u16_at vs 0)) b.declarations ≡ true
    → cause b last (Declares declaration.File vs) ≡ Some why.Twice
unfolding cause declaration_why declaration_of
file_twice b last vs h t = rw (h, t) refl

pub file_good : (b : Before) (last : Bool) (vs : List Value) → b.started ≡ false → list_any (is_file (u16_at vs 0)) b.declarations ≡ false
    → cause b last (Declares declaration.File vs) ≡ None
unfolding cause declaration_why declaration_of
file_good b last vs h t = rw (h, t) refl

abbrev pub region_fault_of : Before → List Value → Option RegionFault
region_fault_of b vs = refusal (regions_of (u16_at vs 0) b.declarations ++ record { addr = u64_at vs 1; len = u64_at vs 2 } ∷ [])

pub region_refused : (b : Before) (last : Bool) (vs : List Value) (f : RegionFault) → b.started ≡ false → region_fault_of b vs ≡ Some f
    → cause b last (Declares declaration.Region vs) ≡ Some (why.Region f)
unfolding cause declaration_why declaration_of
region_refused b last vs f h t = rw (h, t) refl

pub region_good : (b : Before) (last : Bool) (vs : List Value) → b.started ≡ false → region_fault_of b vs ≡ None
    → cause b last (Declares declaration.Region vs) ≡ None
unfolding cause declaration_why declaration_of
region_good b last vs h t = rw (h, t) refl

pub vhost_twice : (b : Before) (last : Bool) (vs : List Value) → b.started ≡ false → list_any (is_vhost (u16_at vs 0)) b.declarations ≡ true
    → cause b last (Declares declaration.Vhost vs) ≡ Some why.Twice
unfolding cause declaration_why declaration_of
vhost_twice b last vs h t = rw (h, t) refl

pub vhost_unknown : (b : Before) (last : Bool) (vs : List Value) → b.started ≡ false → list_any (is_vhost (u16_at vs 0)) b.declarations ≡ false
    → list_any (is_guest (u16_at vs 1)) b.declarations ≡ false → cause b last (Declares declaration.Vhost vs) ≡ Some why.Unknown
unfolding cause declaration_why declaration_of
vhost_unknown b last vs h t g = rw (h, t, g) refl

pub vhost_good : (b : Before) (last : Bool) (vs : List Value) → b.started ≡ false → list_any (is_vhost (u16_at vs 0)) b.declarations ≡ false
    → list_any (is_guest (u16_at vs 1)) b.declarations ≡ true → cause b last (Declares declaration.Vhost vs) ≡ None
unfolding cause declaration_why declaration_of
vhost_good b last vs h t g = rw (h, t, g) refl

pub program_twice : (b : Before) (last : Bool) (vs : List Value) → b.started ≡ false → list_any (is_program (u16_at vs 0)) b.declarations ≡ true
    → cause b last (Declares declaration.Prog vs) ≡ Some why.Twice
unfolding cause declaration_why declaration_of
program_twice b last vs h t = rw (h, t) refl

pub program_refused : (b : Before) (last : Bool) (vs : List Value) (f : CodeFault) → b.started ≡ false → list_any (is_program (u16_at vs 0)) b.declarations ≡ false
    → first_fault (bytes_at vs 1) ≡ Some f → cause b last (Declares declaration.Prog vs) ≡ Some (why.Program f)
unfolding cause declaration_why declaration_of
program_refused b last vs f h t g = rw (h, t, g) refl

pub program_good : (b : Before) (last : Bool) (vs : List Value) → b.started ≡ false → list_any (is_program (u16_at vs 0)) b.declarations ≡ false
    → first_fault (bytes_at vs 1) ≡ None → cause b last (Declares declaration.Prog vs) ≡ None
unfolding cause declaration_why declaration_of
program_good b last vs h t g = rw (h, t, g) refl

abbrev pub flows_name : Before → List Value → ℕ
flows_name b vs = number_for b.names (declared_name declaration.Flows vs)

pub flows_twice : (b : Before) (last : Bool) (vs : List Value) → b.started ≡ false → list_any (is_flows (flows_name b vs)) b.declarations ≡ true
    → cause b last (Declares declaration.Flows vs) ≡ Some why.Twice
unfolding cause declaration_why declaration_of
flows_twice b last vs h t = rw (h, t) refl

pub flows_limit : (b : Before) (last : Bool) (vs : List Value) → b.started ≡ false → list_any (is_flows (flows_name b vs)) b.declarations ≡ false
    → passes_names b.names (declared_name declaration.Flows vs) ≡ true → cause b last (Declares declaration.Flows vs) ≡ Some why.Limit
unfolding cause declaration_why declaration_of
flows_limit b last vs h t g = rw (h, t, g) refl

pub flows_good : (b : Before) (last : Bool) (vs : List Value) → b.started ≡ false → list_any (is_flows (flows_name b vs)) b.declarations ≡ false
    → passes_names b.names (declared_name declaration.Flows vs) ≡ false → cause b last (Declares declaration.Flows vs) ≡ None
unfolding cause declaration_why declaration_of
flows_good b last vs h t g = rw (h, t, g) refl

-- ---- refusals of other lines

pub skipped_refused : (b : Before) (last : Bool) → (last && is_block b.place) ≡ true → cause b last Skipped ≡ Some why.Phase
unfolding cause
skipped_refused b last h = rw h refl

pub skipped_good : (b : Before) (last : Bool) → (last && is_block b.place) ≡ false → cause b last Skipped ≡ None
unfolding cause
skipped_good b last h = rw h refl

pub open_refused : (b : Before) (last : Bool) (actors : ℕ) → (is_block b.place || last) ≡ true → cause b last (Opens actors) ≡ Some why.Phase
unfolding cause
open_refused b last actors h = rw h refl

pub open_good : (b : Before) (last : Bool) (actors : ℕ) → (is_block b.place || last) ≡ false → cause b last (Opens actors) ≡ None
unfolding cause
open_good b last actors h = rw h refl

pub end_refused : (b : Before) (last : Bool) → is_block b.place ≡ false → cause b last Ends ≡ Some why.Phase
unfolding cause
end_refused b last h = rw h refl

pub end_good : (b : Before) (last : Bool) → is_block b.place ≡ true → cause b last Ends ≡ None
unfolding cause
end_good b last h = rw h refl

-- ---- refusals of commands

abbrev pub command_in : Before → CommandWord → List Value → Command
command_in b w vs = command_of (number_for b.names (commanded_name w vs)) w vs

pub unknown : (b : Before) (last : Bool) (actor : Option ℕ) (w : CommandWord) (vs : List Value) (c : Command) → c ≡ command_in b w vs
    → is_unknown b.declarations c ≡ true → cause b last (Orders actor w vs) ≡ Some why.Unknown
unfolding cause command_why
unknown b last actor w vs c is h = rw (rw is at h) refl

pub misplaced : (b : Before) (last : Bool) (actor : Option ℕ) (w : CommandWord) (vs : List Value) (c : Command) → c ≡ command_in b w vs
    → is_unknown b.declarations c ≡ false → (is_misplaced b.place actor || (last && is_block b.place)) ≡ true → cause b last (Orders actor w vs) ≡ Some why.Phase
unfolding cause command_why
misplaced b last actor w vs c is h t = rw (rw is at h, t) refl

pub limited : (b : Before) (last : Bool) (actor : Option ℕ) (w : CommandWord) (vs : List Value) (c : Command) → c ≡ command_in b w vs
    → is_unknown b.declarations c ≡ false → (is_misplaced b.place actor || (last && is_block b.place)) ≡ false
    → passes_limit b.commands b.turns b.names (commanded_name w vs) c ≡ true → cause b last (Orders actor w vs) ≡ Some why.Limit
unfolding cause command_why
limited b last actor w vs c is h t l = rw (rw is at h, t, rw is at l) refl

pub command_good : (b : Before) (last : Bool) (actor : Option ℕ) (w : CommandWord) (vs : List Value) (c : Command) → c ≡ command_in b w vs
    → is_unknown b.declarations c ≡ false → (is_misplaced b.place actor || (last && is_block b.place)) ≡ false
    → passes_limit b.commands b.turns b.names (commanded_name w vs) c ≡ false → cause b last (Orders actor w vs) ≡ None
unfolding cause command_why
command_good b last actor w vs c is h t l = rw (rw is at h, t, rw is at l) refl

-- ---- what one call does

or_false : (a b : Bool) → (a || b) ≡ false → (a ≡ false) × (b ≡ false)
or_false true b h = absurd cc
or_false false b h = (refl, h)

and_false : (a b : Bool) (n : ℕ) → (a && leb 512 n) ≡ false → n ≤ 512 → n + cond a 1 0 ≤ 512
and_false true b n h le = let lt : n < 512 = leb-false 512 n h in omega arith
and_false false b n h le = omega arith

-- what a command that is in the limits leaves room for
pub in_limit : (commands turns : ℕ) (names : List (List ℕ)) (name : Option (List ℕ)) (c : Command) → passes_limit commands turns names name c ≡ false → turns ≤ 512
    → (passes_names names name ≡ false) × (commands < 200000) × (turns + turns_of c ≤ 512)
unfolding passes_limit
in_limit commands turns names name c h le =
    let outer = or_false (leb 200000 commands || (is_turn c && leb 512 turns)) (passes_names names name) h in
    let inner = or_false (leb 200000 commands) (is_turn c && leb 512 turns) outer.0 in
    (outer.1, leb-false 200000 commands inner.0, and_false (is_turn c) true turns inner.1 le)

at_last-push : (l : Line) (ps : List Phase) (p : Phase) → at_last l (ps ++ p ∷ []) ≡ ps ++ with_line l p ∷ []
unfolding at_last
at_last-push l [] p = refl
at_last-push l (q ∷ []) p = refl
at_last-push l (q ∷ r ∷ ps) p = ap (λ t. q ∷ t) (at_last-push l (r ∷ ps) p)

with_line-phase_of : (l : Line) (actors : ℕ) (lines : List Line) → with_line l (phase_of actors lines) ≡ phase_of actors (lines ++ l ∷ [])
unfolding phase_of
with_line-phase_of l actors lines = refl

-- one line more in the phase that is open
pub shown_line : (ps : List Phase) (p : Place) (lines : List Line) (l : Line)
    → ps ++ open_phase (place_after p) (lines_before p lines ++ l ∷ []) ≡ add_line p l (ps ++ open_phase p lines)
shown_line ps Outside lines l = ap (λ t. t ++ phase_of 1 (l ∷ []) ∷ []) (sym (append-nil ps))
shown_line ps Run lines l = ap (λ q. ps ++ q ∷ []) (sym (with_line-phase_of l 1 lines)) ∙ sym (at_last-push l ps (phase_of 1 lines))
shown_line ps (Block n) lines l = ap (λ q. ps ++ q ∷ []) (sym (with_line-phase_of l n lines)) ∙ sym (at_last-push l ps (phase_of n lines))

pub hears_line_ok : (version : ℕ) (line : List ℕ) (last : Bool) (old new : Builder) (s : Sentence) (r : Result (Unit {0}) (OrMemory Why))
    → sentence_of version line ≡ Ok s → Takes last old s r new → HearsLine version line last old r new
hears_line_ok version line last old new s (Ok u) is takes =
    λ earlier keeps.
    let good : cause (before earlier) last s ≡ None = rw keeps.standing at takes.0 in
    (s, rw (is, good) refl, takes.1 earlier keeps)
hears_line_ok version line last old new s (Err (error.Fault w)) is takes =
    λ earlier keeps.
    let bad : cause (before earlier) last s ≡ Some w = rw keeps.standing at takes in
    rw (is, bad) refl
hears_line_ok version line last old new s (Err error.NoMemory) is takes = tt

pub hears_line_err : (version : ℕ) (line : List ℕ) (last : Bool) (old new : Builder) (e : OrMemory Why)
    → Gives {X = Sentence} {E = Why} (Err e) (sentence_of version line) → HearsLine version line last old (Err e) new
hears_line_err version line last old new (error.Fault w) is = λ earlier keeps. rw is refl
hears_line_err version line last old new error.NoMemory is = tt

-- ---- the number of a name

pub number_next : (names : List (List ℕ)) (name x : List ℕ) (i : ℕ) → i < length names → x ≡ get_or names i x → bytes_eq x name ≡ false
    → number_among names name ≡ i + number_among (drop i names) name → number_among names name ≡ (i + 1) + number_among (drop (i + 1) names) name
unfolding number_among
number_next names name x i lt is h so_far =
    let front : drop i names ≡ x ∷ drop (suc i) names = drop-cons names i x lt ∙ ap (λ y. y ∷ drop (suc i) names) (sym is) in
    let step : number_among (drop i names) name ≡ suc (number_among (drop (suc i) names) name) = rw (front, h) refl in
    let same : suc i ≡ i + 1 = omega arith in
    let there : number_among names name ≡ (i + 1) + number_among (drop (suc i) names) name = omega (arith, so_far, step) in
    there ∙ ap (λ j. (i + 1) + number_among (drop j names) name) same

pub number_found : (names : List (List ℕ)) (name x : List ℕ) (i : ℕ) → i < length names → x ≡ get_or names i x → bytes_eq x name ≡ true
    → number_among names name ≡ i + number_among (drop i names) name → i ≡ number_among names name
unfolding number_among
number_found names name x i lt is h so_far =
    let front : drop i names ≡ x ∷ drop (suc i) names = drop-cons names i x lt ∙ ap (λ y. y ∷ drop (suc i) names) (sym is) in
    let step : number_among (drop i names) name ≡ 0 = rw (front, h) refl in
    omega (arith, so_far, step)

number_bound : (names : List (List ℕ)) (name : List ℕ) → number_among names name ≤ length names
unfolding number_among
number_bound [] name = omega arith
number_bound (x ∷ names) name =
    elim (bytes_eq x name) as (λ b. cond b 0 (suc (number_among names name)) ≤ suc (length names)) [
      | true ↦ omega arith
      | false ↦ omega (arith, number_bound names name)
    ]

pub number_none : (names : List (List ℕ)) (name : List ℕ) (i n : ℕ) → n ≡ length names → length names ≤ i
    → number_among names name ≡ i + number_among (drop i names) name → n ≡ number_among names name
number_none names name i n is le so_far = omega (arith, number_bound names name, so_far)

pub number_begins : (names : List (List ℕ)) (name : List ℕ) → number_among names name ≡ 0 + number_among (drop 0 names) name
number_begins names name = sym (zero-add (number_among names name))

-- ---- the end

pub finished : (version : ℕ) (old mid : Builder) (said : List Sentence) → standing mid ≡ closed (standing old) → mid.phases ≡ shown old → Keeps old said
    → (let s : Scenario = record { version = version; declarations = mid.declarations; names = mid.names; phases = mid.phases } in s) ≡ scenario_of (said_in version said)
unfolding scenario_of
finished version old mid said is whole keeps =
    let b : standing mid ≡ closed (before said) = is ∙ ap closed keeps.standing in
    let ds : mid.declarations ≡ declarations_of said = ap (λ (x : Before). x.declarations) b in
    let ns : mid.names ≡ names_of said = ap (λ (x : Before). x.names) b in
    let ps : mid.phases ≡ phases_of said = whole ∙ keeps.phases in
    rw (ds, ns, ps) refl

-- ---- refusals told together

pub either_left : (a b : Bool) → a ≡ true → (a || b) ≡ true
either_left true b h = refl
either_left false b h = absurd cc

pub either_right : (a b : Bool) → b ≡ true → (a || b) ≡ true
either_right true b h = refl
either_right false b h = h

pub neither : (a b : Bool) → a ≡ false → b ≡ false → (a || b) ≡ false
neither true b h g = absurd cc
neither false b h g = g
