-- The declarations of an accepted history are made from what it says.
use Rattle.std.proofs.Common.{◌≡◌, ℕ, ◌-◌, ◌%◌, ◌^◌, ◌≤◌, Bool, true, false, cond, ◌&&◌, eqb, leb, List, [], ◌∷◌, ◌++◌, length, Option, None, refl, sym, ap, subst, ◌∙◌, arith}
use Rattle.std.proofs.lemmas.Bool.{and_parts, leb-true}
use Rattle.text_fields.specs.declared.value.Value.{Value}
use Rattle.text_fields.specs.declared.value.Value.TheVariants as value
use Rattle.text_fields.specs.declared.kind.Shape.TheVariants.{Number}
use Rattle.text_fields.specs.Fields.{FitsShape}
use Rattle.text_fields.specs.Forms.{FitForm}
use Rattle.scen_words.specs.declared.fault.Why.{Why}
use Rattle.scen_words.specs.declared.fault.Why.TheVariants as why
use Rattle.scen_words.specs.declared.declaration.Declaration.{Declaration}
use Rattle.scen_words.specs.declared.sentence.Sentence.{Sentence}
use Rattle.scen_words.specs.declared.sentence.Sentence.TheVariants.{Skipped, Declares, Orders, Opens, Ends}
use Rattle.scen_words.specs.declared.word.DeclarationWord.{DeclarationWord}
use Rattle.scen_words.specs.declared.word.DeclarationWord.TheVariants as declaration
use Rattle.scen_words.specs.declared.word.Word.TheVariants as word
use Rattle.scen_text.specs.Before.{before, declarations_of, is_started, names_of, number_for}
use Rattle.scen_words.specs.Commands.{declaration_of, declared_name, normal}
use Rattle.tap_ground.specs.Options.{only_if as when}
use Rattle.scen_text.specs.Refusals.{cause, declaration_why, is_twice, lacks_guest, passes_names, program_why, region_why, ◌orelse◌}
use Rattle.scen_words.specs.Words.{declaration_form, is_in_version}
use Rattle.scen_text.proofs.Accepted.{Accepted}
use Rattle.scen_text.proofs.Flat.{flat_declarations, flat_names, normal_name, normal_same, normal_twice}
use Rattle.scen_text.proofs.MadeAll.{decls, not_started, when_none}

pub record MadeDecl (version : ℕ) (f : List Sentence) (d : Declaration) (w : DeclarationWord) (v : List Value) : Type 0 where
  pub is : d ≡ declaration_of (number_for (names_of f) (declared_name w v)) w v
  pub known : is_in_version version (word.Declares w) ≡ true
  pub fits : FitForm (declaration_form w) v
  pub normal_is : normal w v ≡ v
  pub fine : (last : Bool) → cause (before f) last (Declares w v) ≡ None

abbrev pub DeclsFrom : ℕ → List Sentence → List Declaration → List Sentence → Type 0
DeclsFrom version f [] g = f ≡ g
DeclsFrom version f (d ∷ ds) g = (w : DeclarationWord) × (v : List Value) × MadeDecl version f d w v × DeclsFrom version (Declares w v ∷ f) ds g

decl_more : (version : ℕ) (f : List Sentence) (ds : List Declaration) (g : List Sentence) (d : Declaration) (w : DeclarationWord) (v : List Value) → DeclsFrom version f ds g → MadeDecl version g d w v
    → DeclsFrom version f (ds ++ d ∷ []) (Declares w v ∷ g)
decl_more version f [] g d w v e m = (w, v, subst (λ (x : List Sentence). MadeDecl version x d w v) (sym e) m, ap (λ (x : List Sentence). Declares w v ∷ x) e)
decl_more version f (k ∷ ds) g d w v h m = (h.0, h.1, h.2, decl_more version (Declares h.0 h.1 ∷ f) ds g d w v h.3 m)

-- ---- values as they are written fit too

at_most_three : (n m : ℕ) → (leb 2 n && leb m 1) ≡ true → m ≡ n - 2 → n ≤ 3
at_most_three n m h e =
    let p = and_parts (leb 2 n) (leb m 1) h in
    let a = leb-true 2 n p.0 in
    let b = leb-true m 1 p.1 in
    omega arith

small : (n : ℕ) → n ≤ 1024 → n % 2 ^ 16 ≡ n
small n h = omega arith

abbrev File : List Value → Type 0
File v = FitForm (declaration_form declaration.File) v

first_fits : (a b first : ℕ) (none : Bool) → eqb first 0 ≡ none → File (value.Number a ∷ value.Number b ∷ value.Number first ∷ []) → File (value.Number a ∷ value.Number b ∷ cond none [] (value.Number first ∷ []))
first_fits a b first true e h = record { count = refl; each = (h.each.0, (h.each.1.0, tt)) }
first_fits a b first false e h = h

not_many : (n : ℕ) (v : List Value) → 4 ≤ length v → File v → ⊥
not_many n v many h =
    let most = at_most_three (length v) (length v - 2) h.count refl in
    omega arith

number_only : (least most : ℕ) (v : Value) → FitsShape (Number least most) v → (n : ℕ) × (v ≡ value.Number n) × (n ≤ most)
number_only least most value.None h = absurd h
number_only least most (value.Number n) h = (n, refl, h.1)
number_only least most (value.Name name) h = absurd h
number_only least most (value.Bytes bytes) h = absurd h

two_fit : (a b : Value) → File (a ∷ b ∷ []) → File (normal declaration.File (a ∷ b ∷ []))
two_fit a b h =
    let x = number_only 0 319 a h.each.0 in
    let y = number_only 1 1024 b h.each.1.0 in
    let low = small x.0 (let k = x.2 in omega arith) in
    let high = small y.0 y.2 in
    rw (x.1, y.1, low, high) (rw (x.1, y.1) at h)

three_fit : (a b c : Value) → File (a ∷ b ∷ c ∷ []) → File (normal declaration.File (a ∷ b ∷ c ∷ []))
three_fit a b c h =
    let x = number_only 0 319 a h.each.0 in
    let y = number_only 1 1024 b h.each.1.0 in
    let z = number_only 0 1099511627775 c h.each.1.1.0 in
    let low = small x.0 (let k = x.2 in omega arith) in
    let high = small y.0 y.2 in
    rw (x.1, y.1, z.1, low, high) (first_fits x.0 y.0 z.0 (eqb z.0 0) refl (rw (x.1, y.1, z.1) at h))

file_fits : (v : List Value) → File v → File (normal declaration.File v)
file_fits [] h = absurd h.each
file_fits (a ∷ []) h = absurd h.each.1
file_fits (a ∷ b ∷ []) h = two_fit a b h
file_fits (a ∷ b ∷ c ∷ []) h = three_fit a b c h
file_fits (a ∷ b ∷ c ∷ d ∷ v) h = absurd (not_many 4 (a ∷ b ∷ c ∷ d ∷ v) (omega arith) h)

normal_fits : (w : DeclarationWord) (v : List Value) → FitForm (declaration_form w) v → FitForm (declaration_form w) (normal w v)
normal_fits declaration.File v h = file_fits v h
normal_fits declaration.Region v h = h
normal_fits declaration.Vhost v h = h
normal_fits declaration.Prog v h = h
normal_fits declaration.Flows v h = h

-- ---- each declaration

decls_calm : (e : List Sentence) → is_started (decls e) ≡ false
unfolding is_started
decls_calm [] = refl
decls_calm (Skipped ∷ e) = decls_calm e
decls_calm (Declares w v ∷ e) = decls_calm e
decls_calm (Orders a w v ∷ e) = decls_calm e
decls_calm (Opens n ∷ e) = decls_calm e
decls_calm (Ends ∷ e) = decls_calm e

abbrev why_by : Bool → List Declaration → List (List ℕ) → DeclarationWord → List Value → Option (List ℕ) → Declaration → Option Why
why_by started ds ns w v name d =
    when started why.Late orelse when (is_twice ds d) why.Twice orelse when (lacks_guest ds d) why.Unknown orelse region_why ds d orelse program_why d orelse when (passes_names ns name) why.Limit

abbrev Why_of : List Sentence → DeclarationWord → List Value → Option Why
Why_of e w v = why_by (is_started e) (declarations_of e) (names_of e) w v (declared_name w v) (declaration_of (number_for (names_of e) (declared_name w v)) w v)

cause_is : (e : List Sentence) (last : Bool) (w : DeclarationWord) (v : List Value) → cause (before e) last (Declares w v) ≡ Why_of e w v
unfolding cause declaration_why
cause_is e last w v = refl

same_why : (e h : List Sentence) (w : DeclarationWord) (u v : List Value) → is_started h ≡ is_started e → declarations_of h ≡ declarations_of e → names_of h ≡ names_of e → declared_name w u ≡ declared_name w v
    → ((n : ℕ) → declaration_of n w u ≡ declaration_of n w v) → Why_of h w u ≡ Why_of e w v
same_why e h w u v started ds ns name same =
    rw (started, ds, ns, name, same (number_for (names_of e) (declared_name w v))) refl

pub decls_made : (version : ℕ) (e : List Sentence) → Accepted version e → DeclsFrom version [] (declarations_of e) (decls e)
unfolding declarations_of
decls_made version [] h = refl
decls_made version (Skipped ∷ e) h = decls_made version e h.1
decls_made version (Orders a w v ∷ e) h = decls_made version e h.1
decls_made version (Opens n ∷ e) h = decls_made version e h.1
decls_made version (Ends ∷ e) h = decls_made version e h.1
decls_made version (Declares w v ∷ e) h =
    let none : Why_of e w v ≡ None = sym (cause_is e h.0.last w v) ∙ h.0.fine in
    let started = when_none (is_started e) why.Late _ none in
    let c = not_started e started.0 in
    let names : names_of (decls e) ≡ names_of e = ap names_of (sym c.flat_is) ∙ flat_names e in
    let ds : declarations_of (decls e) ≡ declarations_of e = ap declarations_of (sym c.flat_is) ∙ flat_declarations e in
    let d = declaration_of (number_for (names_of e) (declared_name w v)) w v in
    decl_more version [] (declarations_of e) (decls e) d w (normal w v) (decls_made version e h.1) (record {
      is = sym (ap (λ (ns : List (List ℕ)). declaration_of (number_for ns (declared_name w (normal w v))) w (normal w v)) names
          ∙ ap (λ (o : Option (List ℕ)). declaration_of (number_for (names_of e) o) w (normal w v)) (normal_name w v) ∙ normal_same (number_for (names_of e) (declared_name w v)) w v);
      known = h.0.fits.0;
      fits = normal_fits w v h.0.fits.1;
      normal_is = normal_twice w v;
      fine = λ last. cause_is (decls e) last w (normal w v) ∙ same_why e (decls e) w (normal w v) v (decls_calm e ∙ sym started.0) ds names (normal_name w v) (λ n. normal_same n w v) ∙ none;
    })
