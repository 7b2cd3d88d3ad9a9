-- Names stay where they are, and no two are the same.
use Rattle.std.proofs.Common.{◌≡◌, ◌⊎◌, inl, inr, ℕ, zero, suc, ◌<◌, ◌≤◌, Bool, true, false, cond, ltb, List, [], ◌∷◌, ◌++◌, length, get_or, slice_get, Option, Some, None, IfSome, refl, sym, ap, ◌∙◌, append_assoc, arith}
use Rattle.std.specs.List.{AllByRecursion}
use Rattle.std.specs.Str.{bytes_eq}
use Rattle.std.proofs.lemmas.Bool.{lt-ltb, ltb-false, leb-false}
use Rattle.std.proofs.lemmas.List.{append-nil}
use Rattle.std.proofs.lemmas.Slice.Eq.{bytes_eq-Decides}
use Rattle.std.proofs.Math.Seq.{get_or-append_seam}
use Rattle.text_fields.specs.declared.value.Value.{Value}
use Rattle.text_fields.specs.declared.value.Value.TheVariants as value
use Rattle.text_fields.specs.Fields.{Fits}
use Rattle.text_fields.specs.Forms.{FitForm}
use Rattle.text_fields.specs.Names.{is_name}
use Rattle.scen_words.specs.declared.limits.TheConstants.{MAX_NAMES}
use Rattle.scen_words.specs.declared.sentence.Sentence.{Sentence}
use Rattle.scen_words.specs.declared.sentence.Sentence.TheVariants.{Skipped, Declares, Orders, Opens, Ends}
use Rattle.scen_words.specs.declared.word.CommandWord.{CommandWord}
use Rattle.scen_words.specs.declared.word.CommandWord.TheVariants as command
use Rattle.scen_words.specs.declared.word.DeclarationWord.{DeclarationWord}
use Rattle.scen_words.specs.declared.word.DeclarationWord.TheVariants as declaration
use Rattle.scen_words.specs.Commands.{commanded_name, declared_name, name_in, name_of}
use Rattle.scen_words.specs.Kinds.{device}
use Rattle.scen_words.specs.Words.{command_form, declaration_form}
use Rattle.scen_text.specs.Before.{has_name, names_of, number_among, number_for, with_name}
use Rattle.scen_text.specs.Refusals.{passes_names}
use Rattle.scen_laid.specs.Phases.{AreNames}
use Rattle.scen_laid.proofs.Histories.{Accepted, was_declared, was_ordered}
use Rattle.scen_laid.proofs.Placed.{all_more, some_is}

-- ---- names stay where they are

abbrev pub Grows : List (List ℕ) → List (List ℕ) → Type 0
Grows ns ms = (more : List (List ℕ)) × (ms ≡ ns ++ more)

pub grows_trans : (a b c : List (List ℕ)) → Grows a b → Grows b c → Grows a c
grows_trans a b c p q = (p.0 ++ q.0, q.1 ∙ ap (λ (x : List (List ℕ)). x ++ q.0) p.1 ∙ append_assoc a p.0 q.0)

grown : (ns : List (List ℕ)) (name : List ℕ) (has : Bool) → Grows ns (cond has ns (ns ++ name ∷ []))
grown ns name true = ([], sym (append-nil ns))
grown ns name false = (name ∷ [], refl)

pub with_grows : (ns : List (List ℕ)) (o : Option (List ℕ)) → Grows ns (with_name ns o)
unfolding with_name
with_grows ns None = ([], sym (append-nil ns))
with_grows ns (Some name) = grown ns name (has_name ns name)

front_same : (ns more : List (List ℕ)) (i : ℕ) → i < length ns → get_or (ns ++ more) i [] ≡ get_or ns i []
front_same [] more i lt = absurd (omega arith)
front_same (n ∷ ns) more zero lt = refl
front_same (n ∷ ns) more (suc i) lt = front_same ns more i (omega arith)

below_itself : (n : ℕ) → ltb n n ≡ false
below_itself n = grind arith

abbrev Found : ℕ → List ℕ → List (List ℕ) → Type 0
Found i name ns = ((i < length ns) × (get_or ns i [] ≡ name)) ⊎ (i ≡ length ns)

by_first : (b : Bool) (n name : List ℕ) (ns : List (List ℕ)) (i : ℕ) → bytes_eq n name ≡ b → Found i name ns → Found (cond b 0 (suc i)) name (n ∷ ns)
by_first true n name ns i e h = inl (omega arith, (bytes_eq-Decides n name).0 e)
by_first false n name ns i e (inl h) = let lt = h.0 in inl (omega arith, h.1)
by_first false n name ns i e (inr h) = inr (ap suc h)

found : (name : List ℕ) (ns : List (List ℕ)) → Found (number_among ns name) name ns
unfolding number_among
found name [] = inr refl
found name (n ∷ ns) = by_first (bytes_eq n name) n name ns (number_among ns name) refl (found name ns)

found_at : (ns final : List (List ℕ)) (name : List ℕ) (i : ℕ) → Found i name ns → Grows (cond (ltb i (length ns)) ns (ns ++ name ∷ [])) final → name_of final i ≡ name
found_at ns final name i (inl h) grows =
    let whole : final ≡ ns ++ grows.0 = grows.1 ∙ ap (λ (b : Bool). cond b ns (ns ++ name ∷ []) ++ grows.0) (lt-ltb i (length ns) h.0) in
    ap (λ (x : List (List ℕ)). get_or x i []) whole ∙ front_same ns grows.0 i h.0 ∙ h.1
found_at ns final name i (inr h) grows =
    let past : ltb i (length ns) ≡ false = ap (λ (k : ℕ). ltb k (length ns)) h ∙ below_itself (length ns) in
    let whole : final ≡ ns ++ name ∷ grows.0 = grows.1 ∙ ap (λ (b : Bool). cond b ns (ns ++ name ∷ []) ++ grows.0) past ∙ append_assoc ns (name ∷ []) grows.0 in
    ap (λ (x : List (List ℕ)). get_or x i []) whole ∙ ap (λ (k : ℕ). get_or (ns ++ name ∷ grows.0) k []) h ∙ get_or-append_seam ns name grows.0 []

name_found : (ns final : List (List ℕ)) (name : List ℕ) → Grows (with_name ns (Some name)) final → name_of final (number_among ns name) ≡ name
unfolding with_name
name_found ns final name grows = found_at ns final name (number_among ns name) (found name ns) grows

-- the name of a line is there afterwards, under the number that the line gave it
pub named_at : (ns final : List (List ℕ)) (o : Option (List ℕ)) → Grows (with_name ns o) final → IfSome o (λ name. name_of final (number_for ns o) ≡ name)
named_at ns final None grows = tt
named_at ns final (Some name) grows = name_found ns final name grows

-- ---- no two are the same

-- a name's place is its number
record AreNumbered (ns : List (List ℕ)) : Type 0 where
  few : length ns ≤ MAX_NAMES
  good : AllByRecursion (λ (name : List ℕ). is_name name ≡ true) ns
  placed : (i : ℕ) (name : List ℕ) → slice_get ns i ≡ Some name → number_among ns name ≡ i

first_by : (b : Bool) (k m n : ℕ) → cond b 0 (suc k) < suc n → (k < n → m ≡ k) → cond b 0 (suc m) ≡ cond b 0 (suc k)
first_by true k m n h more = refl
first_by false k m n h more = ap suc (more (omega (arith, h)))

first_stays : (ns more : List (List ℕ)) (name : List ℕ) → number_among ns name < length ns → number_among (ns ++ more) name ≡ number_among ns name
unfolding number_among
first_stays [] more name h = absurd (omega (arith, h))
first_stays (n ∷ ns) more name h = first_by (bytes_eq n name) (number_among ns name) (number_among (ns ++ more) name) (length ns) h (first_stays ns more name)

last_by : (b : Bool) (k m n : ℕ) → cond b 0 (suc k) ≡ suc n → (k ≡ n → m ≡ n) → cond b 0 (suc m) ≡ suc n
last_by true k m n h more = absurd (omega (arith, h))
last_by false k m n h more = ap suc (more (omega (arith, h)))

last_is : (ns : List (List ℕ)) (name : List ℕ) → number_among ns name ≡ length ns → number_among (ns ++ name ∷ []) name ≡ length ns
unfolding number_among
last_is [] name h = ap (λ (b : Bool). cond b 0 1) ((bytes_eq-Decides name name).1 refl)
last_is (n ∷ ns) name h = last_by (bytes_eq n name) (number_among ns name) (number_among (ns ++ name ∷ []) name) (length ns) h (last_is ns name)

most_by : (b : Bool) (k n : ℕ) → k ≤ n → cond b 0 (suc k) ≤ suc n
most_by true k n h = omega arith
most_by false k n h = omega (arith, h)

at_most : (ns : List (List ℕ)) (name : List ℕ) → number_among ns name ≤ length ns
unfolding number_among
at_most [] name = omega arith
at_most (n ∷ ns) name = most_by (bytes_eq n name) (number_among ns name) (length ns) (at_most ns name)

among_more : (ns : List (List ℕ)) (name x : List ℕ) (i : ℕ) → slice_get (ns ++ name ∷ []) i ≡ Some x → (slice_get ns i ≡ Some x) ⊎ ((i ≡ length ns) × (name ≡ x))
among_more [] name x zero e = inr (refl, some_is name x e)
among_more [] name x (suc i) e = absurd (cc (e))
among_more (n ∷ ns) name x zero e = inl e
among_more (n ∷ ns) name x (suc i) e = go (among_more ns name x i e)
  where
    go : (slice_get ns i ≡ Some x) ⊎ ((i ≡ length ns) × (name ≡ x)) → (slice_get ns i ≡ Some x) ⊎ ((suc i ≡ suc (length ns)) × (name ≡ x))
    go (inl h) = inl h
    go (inr h) = inr (ap suc h.0, h.1)

placed_within : (ns : List (List ℕ)) (i : ℕ) (name : List ℕ) → slice_get ns i ≡ Some name → i < length ns
placed_within [] i name e = absurd (cc (e))
placed_within (n ∷ ns) zero name e = omega arith
placed_within (n ∷ ns) (suc i) name e = let lt = placed_within ns i name e in omega (arith, lt)

placed_more : (ns : List (List ℕ)) (name : List ℕ) → AreNumbered ns → number_among ns name ≡ length ns → (i : ℕ) (x : List ℕ) → slice_get (ns ++ name ∷ []) i ≡ Some x → number_among (ns ++ name ∷ []) x ≡ i
placed_more ns name h new i x e = go (among_more ns name x i e)
  where
    go : (slice_get ns i ≡ Some x) ⊎ ((i ≡ length ns) × (name ≡ x)) → number_among (ns ++ name ∷ []) x ≡ i
    go (inl at_) =
        let is = h.placed i x at_ in
        let lt : number_among ns x < length ns = let k = placed_within ns i x at_ in omega (arith, k, is) in
        first_stays ns (name ∷ []) x lt ∙ is
    go (inr p) = ap (λ (y : List ℕ). number_among (ns ++ name ∷ []) y) (sym p.1) ∙ last_is ns name new ∙ sym p.0

length_more : (ns : List (List ℕ)) (name : List ℕ) → length (ns ++ name ∷ []) ≡ suc (length ns)
length_more [] name = refl
length_more (n ∷ ns) name = ap suc (length_more ns name)

by_has : (b : Bool) (ns : List (List ℕ)) (name : List ℕ) → AreNumbered ns → is_name name ≡ true → number_among ns name < MAX_NAMES → ltb (number_among ns name) (length ns) ≡ b → AreNumbered (cond b ns (ns ++ name ∷ []))
by_has true ns name h good few is = h
by_has false ns name h good few is =
    let past = ltb-false (number_among ns name) (length ns) is in
    let most = at_most ns name in
    let new : number_among ns name ≡ length ns = omega (arith, past, most) in
    let size = length_more ns name in
    record { few = omega (arith, few, new, size); good = all_more (λ (x : List ℕ). is_name x ≡ true) ns name h.good good; placed = placed_more ns name h new }

numbered_more : (ns : List (List ℕ)) (o : Option (List ℕ)) → AreNumbered ns → IfSome o (λ name. is_name name ≡ true) → passes_names ns o ≡ false → AreNumbered (with_name ns o)
unfolding with_name
numbered_more ns None h good fine = h
numbered_more ns (Some name) h good fine =
    by_has (ltb (number_among ns name) (length ns)) ns name h good (leb-false MAX_NAMES (number_among ns name) fine) refl

-- the name of a line is one
first_named : (a : Value) → Fits device a → IfSome (name_in (Some a)) (λ name. is_name name ≡ true)
first_named value.None h = tt
first_named (value.Number n) h = tt
first_named (value.Name name) h = h
first_named (value.Bytes bytes) h = tt

set_named : (v : List Value) → FitForm (command_form command.SetIff) v → IfSome (commanded_name command.SetIff v) (λ name. is_name name ≡ true)
set_named [] h = tt
set_named (a ∷ []) h = tt
set_named (a ∷ b ∷ v) h = first_named b h.each.1.0

send_named : (v : List Value) → FitForm (command_form command.Send) v → IfSome (commanded_name command.Send v) (λ name. is_name name ≡ true)
send_named [] h = tt
send_named (a ∷ v) h = first_named a h.each.0

flows_named : (v : List Value) → FitForm (declaration_form declaration.Flows) v → IfSome (declared_name declaration.Flows v) (λ name. is_name name ≡ true)
flows_named [] h = tt
flows_named (a ∷ v) h = first_named a h.each.0

commanded_good : (w : CommandWord) (v : List Value) → FitForm (command_form w) v → IfSome (commanded_name w v) (λ name. is_name name ≡ true)
commanded_good command.SetIff v h = set_named v h
commanded_good command.Send v h = send_named v h
commanded_good w v h = tt

declared_good : (w : DeclarationWord) (v : List Value) → FitForm (declaration_form w) v → IfSome (declared_name w v) (λ name. is_name name ≡ true)
declared_good declaration.Flows v h = flows_named v h
declared_good w v h = tt

none_named : AreNumbered []
none_named = record { few = omega arith; good = tt; placed = λ i name e. absurd (cc (e)) }

all_numbered : (version : ℕ) (e : List Sentence) → Accepted version e → AreNumbered (names_of e)
unfolding names_of with_name
all_numbered version [] h = none_named
all_numbered version (Skipped ∷ e) h = all_numbered version e h.1
all_numbered version (Declares w v ∷ e) h =
    numbered_more (names_of e) (declared_name w v) (all_numbered version e h.1) (declared_good w v h.0.fits.1) (was_declared e h.0.last w v h.0.fine).names
all_numbered version (Orders a w v ∷ e) h =
    numbered_more (names_of e) (commanded_name w v) (all_numbered version e h.1) (commanded_good w v h.0.fits) (was_ordered e h.0.last a w v h.0.fine).names
all_numbered version (Opens n ∷ e) h = all_numbered version e h.1
all_numbered version (Ends ∷ e) h = all_numbered version e h.1

pub are_names : (version : ℕ) (e : List Sentence) → Accepted version e → AreNames (names_of e)
are_names version e h =
    let n = all_numbered version e h in
    record { few = n.few; good = n.good; once = λ i j name p q. sym (n.placed i name p) ∙ n.placed j name q }

-- ---- a number of a name

-- where something of a number is a name, the number is one of them
pub named_within : (ns : List (List ℕ)) (n : ℕ) → is_name (get_or ns n []) ≡ true → n < length ns
named_within [] n h = absurd (cc (h))
named_within (x ∷ ns) zero h = omega arith
named_within (x ∷ ns) (suc n) h = let lt = named_within ns n h in omega (arith, lt)
