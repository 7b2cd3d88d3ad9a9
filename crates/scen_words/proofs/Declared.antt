-- The values of which a declaration was made are the declaration's values.
use Rattle.std.proofs.Common.{◌≡◌, ℕ, lit<, List, refl}
use Rattle.std.specs.Option.{IfSome}
use Rattle.text_fields.specs.declared.kind.Kind.TheVariants.{Plain}
use Rattle.text_fields.specs.declared.kind.Shape.TheVariants.{Number, Name, Hex}
use Rattle.text_fields.specs.declared.value.Value.{Value}
use Rattle.text_fields.specs.Forms.{FitForm}
use Rattle.scen_words.specs.declared.word.DeclarationWord.{DeclarationWord}
use Rattle.scen_words.specs.declared.word.DeclarationWord.TheVariants as declaration
use Rattle.scen_words.specs.Commands.{declaration_of, declaration_values, declared_name, name_of, normal}
use Rattle.scen_words.specs.Laws.{DeclarationValuesAreKept, DeclarationWordsAreKept}
use Rattle.scen_words.specs.Words.{declaration_form}
use Rattle.scen_words.proofs.Kept.{a_name, by_three, by_two, number16, number32, number64, same2, same3, some_bytes}

pub words_kept : DeclarationWordsAreKept
unfolding declaration_of
words_kept n declaration.File v = refl
words_kept n declaration.Region v = refl
words_kept n declaration.Vhost v = refl
words_kept n declaration.Prog v = refl
words_kept n declaration.Flows v = refl

abbrev DeclKept : List (List ℕ) → ℕ → DeclarationWord → List Value → Type 0
DeclKept names n w v = IfSome (declared_name w v) (λ name. name_of names n ≡ name) → declaration_values names (declaration_of n w v) ≡ normal w v

decl_kept : (names : List (List ℕ)) (n : ℕ) (w : DeclarationWord) (v : List Value) → FitForm (declaration_form w) v → DeclKept names n w v
unfolding declaration_of declaration_values
decl_kept names n declaration.File v h = λ e. refl
decl_kept names n declaration.Region v h =
    by_three (DeclKept names n declaration.Region) (Plain (Number 0 7)) (Plain (Number 0 18446744073709551615)) (Plain (Number 0 18446744073709551615))
    (λ x y z fx fy fz e. same3 _ _ _ _ _ _ (number16 0 7 x (lit< tt) fx) (number64 0 18446744073709551615 y fy) (number64 0 18446744073709551615 z fz)) v h.each
decl_kept names n declaration.Vhost v h =
    by_two (DeclKept names n declaration.Vhost) (Plain (Number 0 63)) (Plain (Number 0 7)) (λ x y fx fy e. same2 _ _ _ _ (number16 0 63 x (lit< tt) fx) (number16 0 7 y (lit< tt) fy)) v h.each
decl_kept names n declaration.Prog v h =
    by_two (DeclKept names n declaration.Prog) (Plain (Number 0 63)) (Plain Hex) (λ x y fx fy e. same2 _ _ _ _ (number16 0 63 x (lit< tt) fx) (some_bytes y fy)) v h.each
decl_kept names n declaration.Flows v h =
    by_three (DeclKept names n declaration.Flows) (Plain Name) (Plain (Number 1 65536)) (Plain (Number 1 1000000000))
    (λ x y z fx fy fz e. same3 _ _ _ _ _ _ (a_name names n x fx e) (number32 1 65536 y (lit< tt) fy) (number64 1 1000000000 z fz)) v h.each

pub values_kept : DeclarationValuesAreKept
values_kept names n w v h = decl_kept names n w v h
