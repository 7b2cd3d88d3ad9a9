-- Declarations leave the names and the phases of a scenario.
use Rattle.std.proofs.Common.{◌≡◌, ℕ, zero, suc, ◌<◌, length, get_or, arith, List, [], ◌∷◌, ◌++◌, ◌∙◌, ap, sym, refl, map}
use Rattle.std.specs.Prelude.{fold, slice_get, slice_index_or, option_map}
use Rattle.std.specs.List.{flat_map}
use Rattle.std.proofs.lemmas.List.{map-append}
use Rattle.std.proofs.lemmas.Option.{slice_get-map}
use Rattle.scen_words.specs.declared.declaration.Declaration.{Declaration}
use Rattle.scen_words.specs.declared.declaration.Declaration.TheVariants.{File, Region, Vhost, Prog, Flows}
use Rattle.scen_text.specs.declared.scenario.Line.{Line}
use Rattle.scen_text.specs.declared.scenario.Phase.{Phase}
use Rattle.scen_text.specs.declared.scenario.Scenario.{Scenario}
use Rattle.tap_world.specs.Setup.{Setup, line_of, nothing_of, setup_of, with_declaration}
use Rattle.tap_told.specs.Phases.{commands_of}

names_stay : (s : Setup) (d : Declaration) → (with_declaration s d).names ≡ s.names
names_stay s (File file capacity first) = refl
names_stay s (Region guest addr len) = refl
names_stay s (Vhost vhost guest) = refl
names_stay s (Prog program code) = refl
names_stay s (Flows name limit age) = refl

phases_stay : (s : Setup) (d : Declaration) → (with_declaration s d).phases ≡ s.phases
phases_stay s (File file capacity first) = refl
phases_stay s (Region guest addr len) = refl
phases_stay s (Vhost vhost guest) = refl
phases_stay s (Prog program code) = refl
phases_stay s (Flows name limit age) = refl

all_names_stay : (s : Setup) (ds : List Declaration) → (fold with_declaration s ds).names ≡ s.names
all_names_stay s [] = refl
all_names_stay s (d ∷ ds) = all_names_stay (with_declaration s d) ds ∙ names_stay s d

all_phases_stay : (s : Setup) (ds : List Declaration) → (fold with_declaration s ds).phases ≡ s.phases
all_phases_stay s [] = refl
all_phases_stay s (d ∷ ds) = all_phases_stay (with_declaration s d) ds ∙ phases_stay s d

pub names_of_setup : (s : Scenario) → (setup_of s).names ≡ s.names
names_of_setup s = all_names_stay (nothing_of s) s.declarations

pub phases_of_setup : (s : Scenario) → (setup_of s).phases ≡ s.phases
phases_of_setup s = all_phases_stay (nothing_of s) s.declarations

-- ---- commands by number

-- the commands of all lines
pub commands_are : (ps : List Phase) → commands_of ps ≡ map (λ (l : Line). l.command) (flat_map (λ (p : Phase). p.lines) ps)
commands_are [] = refl
commands_are (p ∷ ps) =
    ap (λ t. map (λ (l : Line). l.command) p.lines ++ t) (commands_are ps)
    ∙ sym (map-append (λ (l : Line). l.command) p.lines (flat_map (λ (q : Phase). q.lines) ps))

-- the command of a number
pub command_is : (s : Scenario) (n : ℕ) → slice_get (commands_of s.phases) n ≡ option_map (λ (l : Line). l.command) (line_of (setup_of s) n)
command_is s n =
    ap (λ cs. slice_get cs n) (commands_are s.phases) ∙ slice_get-map (λ (l : Line). l.command) (flat_map (λ (p : Phase). p.lines) s.phases) n
    ∙ ap (λ ps. option_map (λ (l : Line). l.command) (slice_get (flat_map (λ (p : Phase). p.lines) ps) n)) (sym (phases_of_setup s))

-- the name of a device that there is
pub name_is : (s : Scenario) (names : List (List ℕ)) (device n : ℕ) (d : List ℕ) → names ≡ s.names → n ≡ device → device < length s.names
    → get_or names n d ≡ slice_index_or (setup_of s).names device []
name_is s names device n d same number lt =
    ap (λ k. get_or names k d) number ∙ ap (λ l. get_or l device d) same ∙ any_default s.names device d [] lt
    ∙ ap (λ l. get_or l device []) (sym (names_of_setup s))
  where
    any_default : (xs : List (List ℕ)) (i : ℕ) (d e : List ℕ) → i < length xs → get_or xs i d ≡ get_or xs i e
    any_default [] i d e lt = absurd (omega arith)
    any_default (x ∷ xs) zero d e lt = refl
    any_default (x ∷ xs) (suc i) d e lt = any_default xs i d e (omega arith)
