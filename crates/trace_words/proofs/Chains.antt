-- Fields that are read one after another: what is written for a value is read as this value, and what was read is written so.
use Rattle.std.proofs.Common.{◌≡◌, ℕ, Bool, true, false, cond, List, [], ◌∷◌, Option, Some, None, refl, ap, subst, sym, ◌∙◌}
use Rattle.std.specs.List.{find, list_all}
use Rattle.std.specs.Option.{option_map}
use Rattle.std.specs.Str.{bytes_eq}
use Rattle.std.proofs.lemmas.Bool.{and_parts, and_from}
use Rattle.std.proofs.lemmas.Slice.Eq.{bytes_eq-Decides}
use Rattle.text_fields.specs.Lines.{is_field_byte}
use Rattle.trace_causes.specs.Laws.{AreClean, IsClean, IsField}
use Rattle.tap_ground.specs.Options.{◌>>=◌}
use Rattle.trace_causes.specs.Reading.{ended, first_by}
use Rattle.trace_causes.specs.Table.{word_in}

one_field : {A X : Type 0} (read : List ℕ → Option A) (write : A → List ℕ) (Fit : A → Type 0) → IsField read write Fit → (more : A × List (List ℕ) → Option X) (Good : X → List (List ℕ) → Type 0)
    → ((a : A) → Fit a → (behind : List (List ℕ)) (x : X) → more (a, behind) ≡ Some x → Good x (write a ∷ behind) × AreClean behind)
    → (field : List ℕ) (behind : List (List ℕ)) (x : X) (o : Option A) → read field ≡ o → (option_map (λ a. (a, behind)) o >>= more) ≡ Some x → Good x (field ∷ behind) × AreClean (field ∷ behind)
one_field read write Fit is more Good k field behind x None h e = absurd cc
one_field read write Fit is more Good k field behind x (Some a) h e =
    let t = is.takes field a h in
    let g = k a t.0 behind x e in
    (subst (λ (w : List ℕ). Good x (w ∷ behind)) t.1 g.0, and_from (list_all is_field_byte field) (list_all (list_all is_field_byte) behind) t.2 g.1)

-- a field, and then more
pub takes_first : {A X : Type 0} {read : List ℕ → Option A} {write : A → List ℕ} {Fit : A → Type 0} → IsField read write Fit → (more : A × List (List ℕ) → Option X) (Good : X → List (List ℕ) → Type 0)
    → ((a : A) → Fit a → (behind : List (List ℕ)) (x : X) → more (a, behind) ≡ Some x → Good x (write a ∷ behind) × AreClean behind)
    → (fields : List (List ℕ)) (x : X) → (first_by read fields >>= more) ≡ Some x → Good x fields × AreClean fields
takes_first is more Good k [] x e = absurd cc
takes_first {read} {write} {Fit} is more Good k (field ∷ behind) x e = one_field read write Fit is more Good k field behind x (read field) refl e

-- and nothing more
pub takes_end : {X : Type 0} (v : X) (Good : X → List (List ℕ) → Type 0) → Good v []
    → (fields : List (List ℕ)) (x : X) → (ended fields >>= λ end. Some v) ≡ Some x → Good x fields × AreClean fields
takes_end v Good g [] x e = let same : v ≡ x = cc in (subst (λ y. Good y []) same g, refl)
takes_end v Good g (field ∷ behind) x e = absurd cc

-- ---- steps that may be nothing

pub bind_some : {A B : Type 0} (o : Option A) (f : A → Option B) (y : B) → (o >>= f) ≡ Some y → (x : A) × (o ≡ Some x) × (f x ≡ Some y)
bind_some None f y e = absurd cc
bind_some (Some x) f y e = (x, refl, e)

-- what a part says that reads to the end of the line
pub takes_part : {X Y : Type 0} (part : List (List ℕ) → Option Y) (f : Y → X) (GoodY : Y → List (List ℕ) → Type 0) (Good : X → List (List ℕ) → Type 0)
    → ((fields : List (List ℕ)) (y : Y) → part fields ≡ Some y → GoodY y fields × AreClean fields)
    → ((fields : List (List ℕ)) (y : Y) → GoodY y fields → Good (f y) fields)
    → (fields : List (List ℕ)) (x : X) → (part fields >>= λ y. Some (f y)) ≡ Some x → Good x fields × AreClean fields
takes_part part f GoodY Good k good fields x e =
    let found = bind_some (part fields) (λ y. Some (f y)) x e in
    let same : f found.0 ≡ x = cc in
    let t = k fields found.0 found.1 in
    (subst (λ z. Good z fields) same (good fields found.0 t.0), t.1)

pub as_first : {A X : Type 0} (o : Option A) (behind : List (List ℕ)) (more : A × List (List ℕ) → Option X) → (option_map (λ a. (a, behind)) o >>= more) ≡ (o >>= λ a. more (a, behind))
as_first None behind more = refl
as_first (Some a) behind more = refl

-- a word, and what stands behind it
pub word_again : {W X : Type 0} {word : List ℕ → Option W} {spelling : W → List ℕ} → IsField word spelling (λ w. Unit {0}) → (w : W) (fields : List (List ℕ)) (behind : W → List (List ℕ) → Option X) (x : X)
    → behind w fields ≡ Some x → (first_by word (spelling w ∷ fields) >>= λ p. behind p.0 p.1) ≡ Some x
word_again is w fields behind x e = rw (is.again w tt) e

pub again_part : {W X Y : Type 0} (o : Option W) (part : W → Option Y) (f : Y → X) (y : Y) → (o >>= part) ≡ Some y → (o >>= λ w. part w >>= λ z. Some (f z)) ≡ Some (f y)
again_part None part f y e = absurd cc
again_part (Some w) part f y e = ap (λ r. r >>= λ z. Some (f z)) e

-- what fits and is written so
abbrev pub IsWritten : {X : Type 0} → (X → Type 0) → (X → List (List ℕ)) → X → List (List ℕ) → Type 0
IsWritten Fit write x fields = Fit x × (write x ≡ fields)

-- ---- words

this_word : {W : Type 0} (spelling : W → List ℕ) (v : W) (others : Option W) (field : List ℕ) (w : W) (b : Bool) → bytes_eq (spelling v) field ≡ b
    → IsClean (spelling v) → (others ≡ Some w → (spelling w ≡ field) × IsClean field)
    → cond b (Some v) others ≡ Some w → (spelling w ≡ field) × IsClean field
this_word spelling v others field w true t clean rest e =
    let same : v ≡ w = cc in
    let is : spelling v ≡ field = (bytes_eq-Decides (spelling v) field).0 t in
    (ap spelling (sym same) ∙ is, subst (λ (bytes : List ℕ). IsClean bytes) is clean)
this_word spelling v others field w false t clean rest e = rest e

pub found_word : {W : Type 0} (spelling : W → List ℕ) (words : List W) → list_all (λ w. list_all is_field_byte (spelling w)) words ≡ true
    → (field : List ℕ) (w : W) → find (λ v. bytes_eq (spelling v) field) words ≡ Some w → (spelling w ≡ field) × IsClean field
found_word spelling [] clean field w e = absurd cc
found_word spelling (v ∷ words) clean field w e =
    let parts = and_parts (list_all is_field_byte (spelling v)) (list_all (λ w. list_all is_field_byte (spelling w)) words) clean in
    this_word spelling v (find (λ v. bytes_eq (spelling v) field) words) field w (bytes_eq (spelling v) field) refl parts.0 (found_word spelling words parts.1 field w) e

-- a word of a list of words that are spelled so
pub words_field : {W : Type 0} (spelling : W → List ℕ) (words : List W) → list_all (λ w. list_all is_field_byte (spelling w)) words ≡ true
    → ((w : W) → word_in spelling words (spelling w) ≡ Some w)
    → IsField (word_in spelling words) spelling (λ w. Unit {0})
unfolding word_in
words_field spelling words clean again = record {
  again = λ w fit. again w;
  takes = λ field w e. let found = found_word spelling words clean field w e in (tt, found.0, found.1);
}
