-- The programs of a set-up are those of its declarations.
use Rattle.std.proofs.Common.{◌≡◌, ℕ, zero, suc, ◌<◌, ◌≤◌, List, [], ◌∷◌, ◌++◌, drop, get_or, length, Option, Some, refl, sym, ap, ◌∙◌, subst, arith}
use Rattle.std.proofs.lemmas.List.{append-nil, append_assoc}
use Rattle.std.specs.Prelude.{fold}
use Rattle.scen_text.specs.declared.scenario.Scenario.{Scenario}
use Rattle.scen_words.specs.declared.declaration.Declaration.{Declaration}
use Rattle.scen_words.specs.declared.declaration.Declaration.TheVariants as declares
use Rattle.tap_world.specs.Setup.{Setup, nothing_of, place_among, place_of, setup_of, with_declaration}
use Rattle.core_shared.specs.Asking.{Asking, setup}
use Rattle.core_table.specs.Programs.{programs_in}

folded : (ds : List Declaration) (s : Setup) → (fold with_declaration s ds).programs ≡ s.programs ++ programs_in ds
folded [] s = sym (append-nil s.programs)
folded (declares.File file capacity first ∷ ds) s = folded ds (with_declaration s (declares.File file capacity first))
folded (declares.Region guest addr len ∷ ds) s = folded ds (with_declaration s (declares.Region guest addr len))
folded (declares.Vhost vhost guest ∷ ds) s = folded ds (with_declaration s (declares.Vhost vhost guest))
folded (declares.Flows name limit age ∷ ds) s = folded ds (with_declaration s (declares.Flows name limit age))
folded (declares.Prog program code ∷ ds) s = folded ds (with_declaration s (declares.Prog program code)) ∙ append_assoc s.programs ((program, code) ∷ []) (programs_in ds)

pub programs_are : (s : Scenario) → (setup_of s).programs ≡ programs_in s.declarations
programs_are s = folded s.declarations (nothing_of s)

pub few_in : (a : Asking) (ds : List Declaration) → ds ≡ a.scenario.declarations → length (setup a).programs ≤ 65535
    → length (programs_in ds) ≤ 65535
few_in a ds is h =
    subst (λ (l : List Declaration). length (programs_in l) ≤ 65535) (sym is)
    (subst (λ (ps : List (ℕ × List ℕ)). length ps ≤ 65535) (programs_are a.scenario) h)

pub placed_in : (a : Asking) (ds : List Declaration) (program : Option ℕ) (number place : ℕ)
    → ds ≡ a.scenario.declarations → program ≡ Some number → place ≡ place_among number (programs_in ds)
    → Some place ≡ place_of (setup a) program
placed_in a ds program number place is some found =
    ap (λ (n : ℕ). Some n) (found ∙ ap (λ (l : List Declaration). place_among number (programs_in l)) is
    ∙ ap (λ (ps : List (ℕ × List ℕ)). place_among number ps) (sym (programs_are a.scenario)))
    ∙ ap (λ (o : Option ℕ). place_of (setup a) o) (sym some)

-- ---- one declaration more

pub drop_at : {A : Type 0} (xs : List A) (i : ℕ) (d : A) → i < length xs → drop i xs ≡ get_or xs i d ∷ drop (suc i) xs
drop_at [] i d h = absurd (omega (arith, h))
drop_at (x ∷ xs) zero d h = refl
drop_at (x ∷ xs) (suc i) d h = drop_at xs i d (omega (arith, h))
