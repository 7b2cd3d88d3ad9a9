-- A history without its blocks: the declarations and the commands alone.
use Rattle.std.proofs.Common.{◌≡◌, ℕ, ◌+◌, ◌%◌, ◌^◌, Bool, true, false, cond, eqb, List, [], ◌∷◌, ◌++◌, Option, None, refl, sym, ap, ◌∙◌, arith}
use Rattle.std.proofs.lemmas.Bool.{eqb-true}
use Rattle.text_fields.specs.declared.value.Value.{Value}
use Rattle.text_fields.specs.declared.value.Value.TheVariants as value
use Rattle.text_fields.specs.Forms.{FitForm}
use Rattle.scen_words.specs.declared.declaration.Declaration.{Declaration}
use Rattle.scen_words.specs.declared.sentence.Sentence.{Sentence}
use Rattle.scen_words.specs.declared.sentence.Sentence.TheVariants.{Skipped, Declares, Orders, Opens, Ends}
use Rattle.scen_words.specs.declared.word.CommandWord.{CommandWord}
use Rattle.scen_words.specs.declared.word.DeclarationWord.{DeclarationWord}
use Rattle.scen_words.specs.declared.word.DeclarationWord.TheVariants as declaration
use Rattle.scen_text.specs.Before.{command_after, command_count, declarations_of, names_of, number_for, turn_count, with_name}
use Rattle.scen_words.specs.Commands.{command_of, commanded_name, declaration_of, declared_name, first_values, is_turn, normal, u16_at, u64_at}
use Rattle.scen_text.specs.Refusals.{is_unknown, lacks_guest, is_twice, passes_limit, passes_names, program_why, region_why}
use Rattle.scen_words.specs.Words.{command_form}

-- the declarations, with their values as they are written, and the commands, each without its actor
abbrev pub flat : List Sentence → List Sentence
flat [] = []
flat (Skipped ∷ e) = flat e
flat (Declares w v ∷ e) = Declares w (normal w v) ∷ flat e
flat (Orders a w v ∷ e) = Orders None w v ∷ flat e
flat (Opens n ∷ e) = flat e
flat (Ends ∷ e) = flat e

-- ---- nothing else is lost

twice : (n : ℕ) → n % 2 ^ 16 % 2 ^ 16 ≡ n % 2 ^ 16
twice n = omega arith

by_zero : (a b : Value) (first : ℕ) (none : Bool) → eqb first 0 ≡ none → u64_at (a ∷ b ∷ cond none [] (value.Number first ∷ [])) 2 ≡ first
by_zero a b first true e = sym (eqb-true first 0 e)
by_zero a b first false e = refl

first_at : (a b : Value) (first : ℕ) → u64_at (a ∷ b ∷ first_values first) 2 ≡ first
first_at a b first = by_zero a b first (eqb first 0) refl

pub normal_same : (n : ℕ) (w : DeclarationWord) (v : List Value) → declaration_of n w (normal w v) ≡ declaration_of n w v
unfolding declaration_of
normal_same n declaration.File v = rw (twice (u64_at v 0), twice (u64_at v 1), first_at (value.Number (u16_at v 0)) (value.Number (u16_at v 1)) (u64_at v 2)) refl
normal_same n declaration.Region v = refl
normal_same n declaration.Vhost v = refl
normal_same n declaration.Prog v = refl
normal_same n declaration.Flows v = refl

pub normal_twice : (w : DeclarationWord) (v : List Value) → normal w (normal w v) ≡ normal w v
normal_twice declaration.File v = rw (twice (u64_at v 0), twice (u64_at v 1), first_at (value.Number (u16_at v 0)) (value.Number (u16_at v 1)) (u64_at v 2)) refl
normal_twice declaration.Region v = refl
normal_twice declaration.Vhost v = refl
normal_twice declaration.Prog v = refl
normal_twice declaration.Flows v = refl

pub normal_name : (w : DeclarationWord) (v : List Value) → declared_name w (normal w v) ≡ declared_name w v
normal_name declaration.File v = refl
normal_name declaration.Region v = refl
normal_name declaration.Vhost v = refl
normal_name declaration.Prog v = refl
normal_name declaration.Flows v = refl

pub flat_names : (e : List Sentence) → names_of (flat e) ≡ names_of e
unfolding names_of with_name
flat_names [] = refl
flat_names (Skipped ∷ e) = flat_names e
flat_names (Declares w v ∷ e) = ap (λ (o : Option (List ℕ)). with_name (names_of (flat e)) o) (normal_name w v) ∙ ap (λ (ns : List (List ℕ)). with_name ns (declared_name w v)) (flat_names e)
flat_names (Orders a w v ∷ e) = ap (λ (ns : List (List ℕ)). with_name ns (commanded_name w v)) (flat_names e)
flat_names (Opens n ∷ e) = flat_names e
flat_names (Ends ∷ e) = flat_names e

pub flat_declarations : (e : List Sentence) → declarations_of (flat e) ≡ declarations_of e
unfolding declarations_of
flat_declarations [] = refl
flat_declarations (Skipped ∷ e) = flat_declarations e
flat_declarations (Declares w v ∷ e) =
    ap (λ (ds : List Declaration). ds ++ declaration_of (number_for (names_of (flat e)) (declared_name w (normal w v))) w (normal w v) ∷ []) (flat_declarations e)
    ∙ ap (λ (d : Declaration). declarations_of e ++ d ∷ [])
    (ap (λ (ns : List (List ℕ)). declaration_of (number_for ns (declared_name w (normal w v))) w (normal w v)) (flat_names e)
    ∙ ap (λ (o : Option (List ℕ)). declaration_of (number_for (names_of e) o) w (normal w v)) (normal_name w v) ∙ normal_same (number_for (names_of e) (declared_name w v)) w v)
flat_declarations (Orders a w v ∷ e) = flat_declarations e
flat_declarations (Opens n ∷ e) = flat_declarations e
flat_declarations (Ends ∷ e) = flat_declarations e

pub flat_count : (e : List Sentence) → command_count (flat e) ≡ command_count e
unfolding command_count
flat_count [] = refl
flat_count (Skipped ∷ e) = flat_count e
flat_count (Declares w v ∷ e) = flat_count e
flat_count (Orders a w v ∷ e) = ap (λ (n : ℕ). n + 1) (flat_count e)
flat_count (Opens n ∷ e) = flat_count e
flat_count (Ends ∷ e) = flat_count e

pub flat_turns : (e : List Sentence) → turn_count (flat e) ≡ turn_count e
unfolding turn_count
flat_turns [] = refl
flat_turns (Skipped ∷ e) = flat_turns e
flat_turns (Declares w v ∷ e) = flat_turns e
flat_turns (Orders a w v ∷ e) =
    ap (λ (n : ℕ). n + cond (is_turn (command_after (flat e) w v)) 1 0) (flat_turns e)
    ∙ ap (λ (ns : List (List ℕ)). turn_count e + cond (is_turn (command_of (number_for ns (commanded_name w v)) w v)) 1 0) (flat_names e)
flat_turns (Opens n ∷ e) = flat_turns e
flat_turns (Ends ∷ e) = flat_turns e

-- ---- what an accepted line says of the lines before it

pub record Calm (f : List Sentence) (w : DeclarationWord) (v : List Value) : Type 0 where
  pub twice : is_twice (declarations_of f) (declaration_of (number_for (names_of f) (declared_name w v)) w v) ≡ false
  pub guest : lacks_guest (declarations_of f) (declaration_of (number_for (names_of f) (declared_name w v)) w v) ≡ false
  pub region : region_why (declarations_of f) (declaration_of (number_for (names_of f) (declared_name w v)) w v) ≡ None
  pub program : program_why (declaration_of (number_for (names_of f) (declared_name w v)) w v) ≡ None
  pub names : passes_names (names_of f) (declared_name w v) ≡ false

pub record Ordered (f : List Sentence) (w : CommandWord) (v : List Value) : Type 0 where
  pub fits : FitForm (command_form w) v
  pub known : is_unknown (declarations_of f) (command_after f w v) ≡ false
  pub limit : passes_limit (command_count f) (turn_count f) (names_of f) (commanded_name w v) (command_after f w v) ≡ false

-- both are the same of two histories that are flat the same
pub ordered_along : (e h : List Sentence) (w : CommandWord) (v : List Value) → flat e ≡ flat h → Ordered e w v → Ordered h w v
ordered_along e h w v same o =
    let names : names_of e ≡ names_of h = sym (flat_names e) ∙ ap names_of same ∙ flat_names h in
    let ds : declarations_of e ≡ declarations_of h = sym (flat_declarations e) ∙ ap declarations_of same ∙ flat_declarations h in
    let count : command_count e ≡ command_count h = sym (flat_count e) ∙ ap command_count same ∙ flat_count h in
    let turns : turn_count e ≡ turn_count h = sym (flat_turns e) ∙ ap turn_count same ∙ flat_turns h in
    record {
      fits = o.fits;
      known = sym (ap (λ (ns : List (List ℕ)). is_unknown (declarations_of e) (command_of (number_for ns (commanded_name w v)) w v)) names
          ∙ ap (λ (d : List Declaration). is_unknown d (command_after h w v)) ds) ∙ o.known;
      limit = sym (ap (λ (ns : List (List ℕ)). passes_limit (command_count e) (turn_count e) ns (commanded_name w v) (command_of (number_for ns (commanded_name w v)) w v)) names
          ∙ ap (λ (n : ℕ). passes_limit n (turn_count e) (names_of h) (commanded_name w v) (command_after h w v)) count
          ∙ ap (λ (n : ℕ). passes_limit (command_count h) n (names_of h) (commanded_name w v) (command_after h w v)) turns) ∙ o.limit;
    }
