-- Forms: what is written is read again, and what is read is written again.
use Rattle.std.proofs.Common.{◌≡◌, ℕ, suc, ◌-◌, ◌≤◌, Bool, true, false, cond, not, eqb, leb, List, [], ◌∷◌, length, Result, Ok, Err, refl, sym, ap, subst, ◌∙◌, arith}
use Rattle.std.specs.List.{list_all}
use Rattle.std.proofs.lemmas.Bool.{and_parts, and_from, leb-true, eqb-true}
use Rattle.std.proofs.lemmas.List.{length-append, length-replicate}
use Rattle.text_fields.specs.declared.fault.FieldFault.{FieldFault}
use Rattle.text_fields.specs.declared.fault.FieldFault.TheVariants as fault
use Rattle.text_fields.specs.declared.form.Rest.{Rest}
use Rattle.text_fields.specs.declared.form.Rest.TheVariants.{Nothing, Optional, Repeated}
use Rattle.text_fields.specs.declared.kind.Kind.{Kind}
use Rattle.text_fields.specs.declared.value.Value.{Value}
use Rattle.text_fields.specs.Fields.{field_of, field_value}
use Rattle.text_fields.specs.FormData.{Form}
use Rattle.text_fields.specs.Forms.{FitKinds, are_fields, fields_under, has_count, is_empty, kinds_for, may_follow, rest_kind, so_many, values_under, with_first}
use Rattle.text_fields.specs.Laws.{FormsAreReadAgain, FormsAreWrittenAgain, FormsMakeFields}
use Rattle.text_fields.specs.Lines.{is_field, is_field_byte}
use Rattle.text_fields.proofs.ValueLaws.{fields_written, values_fields, values_read}

-- ---- kind by kind

abbrev Values : Type 0
Values = Result (List Value) FieldFault

all_fields : (kinds : List Kind) (vs : List Value) → FitKinds kinds vs → list_all is_field (fields_under kinds vs) ≡ true
all_fields [] [] h = refl
all_fields [] (v ∷ vs) h = absurd h
all_fields (k ∷ ks) [] h = absurd h
all_fields (k ∷ ks) (v ∷ vs) h = and_from (is_field (field_of k v)) (list_all is_field (fields_under ks vs)) (values_fields k v h.0) (all_fields ks vs h.1)

all_read : (kinds : List Kind) (vs : List Value) → FitKinds kinds vs → values_under kinds (fields_under kinds vs) ≡ Ok vs
unfolding values_under
all_read [] [] h = refl
all_read [] (v ∷ vs) h = absurd h
all_read (k ∷ ks) [] h = absurd h
all_read (k ∷ ks) (v ∷ vs) h = ap (λ (r : Values). with_first (field_value k (field_of k v)) r) (all_read ks vs h.1) ∙ ap (λ (r : Result Value FieldFault). with_first r (Ok vs)) (values_read k v h.0)

same_number : (kinds : List Kind) (vs : List Value) → FitKinds kinds vs → length (fields_under kinds vs) ≡ length vs
same_number [] [] h = refl
same_number [] (v ∷ vs) h = absurd h
same_number (k ∷ ks) [] h = absurd h
same_number (k ∷ ks) (v ∷ vs) h = ap suc (same_number ks vs h.1)

abbrev a_field : List ℕ → Bool
a_field field = not (is_empty field)

none_empty : (fields : List (List ℕ)) → list_all is_field fields ≡ true → list_all a_field fields ≡ true
none_empty [] h = refl
none_empty (field ∷ fields) h =
    let p = and_parts (is_field field) (list_all is_field fields) h in
    and_from (a_field field) (list_all a_field fields) (and_parts (list_all is_field_byte field) (not (eqb (length field) 0)) p.0).1 (none_empty fields p.1)

-- ---- forms are read again

pub forms_read : FormsAreReadAgain
forms_read form vs h =
    let kinds = kinds_for form (length vs) in
    let fields = fields_under kinds vs in
    let count : length fields ≡ length vs = same_number kinds vs h.each in
    let good : are_fields form fields ≡ true =
    and_from (list_all a_field fields) (has_count form (length fields)) (none_empty fields (all_fields kinds vs h.each))
    (subst (λ (n : ℕ). has_count form n ≡ true) (sym count) h.count) in
    let read : values_under (kinds_for form (length fields)) fields ≡ Ok vs =
    ap (λ (n : ℕ). values_under (kinds_for form n) fields) count ∙ all_read kinds vs h.each in
    rw good read

pub forms_fields : FormsMakeFields
forms_fields form vs h = all_fields (kinds_for form (length vs)) vs h.each

-- ---- fields are written again

pub record TakesFirst (read : Result Value FieldFault) (others : Values) (vs : List Value) : Type 0 where
  pub first : Value
  pub rest : List Value
  pub read_is : read ≡ Ok first
  pub others_are : others ≡ Ok rest
  pub whole : first ∷ rest ≡ vs

first_takes : (read : Result Value FieldFault) (others : Values) (vs : List Value) → with_first read others ≡ Ok vs → TakesFirst read others vs
first_takes (Ok v) (Ok ws) vs e = record { first = v; rest = ws; read_is = refl; others_are = refl; whole = cc }
first_takes (Ok v) (Err why) vs e = absurd cc
first_takes (Err fault.Fields) others vs e = absurd cc
first_takes (Err fault.Number) others vs e = absurd cc
first_takes (Err fault.Hex) (Ok ws) vs e = absurd cc
first_takes (Err fault.Hex) (Err fault.Fields) vs e = absurd cc
first_takes (Err fault.Hex) (Err fault.Number) vs e = absurd cc
first_takes (Err fault.Hex) (Err fault.Hex) vs e = absurd cc

pub record Takes (kinds : List Kind) (fields : List (List ℕ)) (vs : List Value) : Type 0 where
  pub fits : FitKinds kinds vs
  pub written : fields_under kinds vs ≡ fields
  pub count : length vs ≡ length fields

along : (kinds : List Kind) (fields : List (List ℕ)) (vs ws : List Value) → vs ≡ ws → Takes kinds fields vs → Takes kinds fields ws
along kinds fields vs ws e h = subst (λ (x : List Value). Takes kinds fields x) e h

all_take : (kinds : List Kind) (fields : List (List ℕ)) (vs : List Value) → length kinds ≡ length fields → values_under kinds fields ≡ Ok vs → Takes kinds fields vs
unfolding values_under
all_take [] [] vs same e =
    let none : [] ≡ vs = cc in
    along [] [] [] vs none (record { fits = tt; written = refl; count = refl })
all_take [] (f ∷ fs) vs same e = absurd (omega arith)
all_take (k ∷ ks) [] vs same e = absurd (omega arith)
all_take (k ∷ ks) (f ∷ fs) vs same e =
    let t = first_takes (field_value k f) (values_under ks fs) vs e in
    let first = fields_written k f t.first t.read_is in
    let rest = all_take ks fs t.rest (omega arith) t.others_are in
    along (k ∷ ks) (f ∷ fs) (t.first ∷ t.rest) vs t.whole (record {
      fits = (first.0, rest.fits);
      written = ap (λ (x : List ℕ). x ∷ fields_under ks t.rest) first.1 ∙ ap (λ (xs : List (List ℕ)). f ∷ xs) rest.written;
      count = ap suc rest.count;
    })

so_many_count : (rest : Rest) (more : ℕ) → may_follow rest more ≡ true → length (so_many more (rest_kind rest)) ≡ more
so_many_count Nothing more h = sym (eqb-true more 0 h)
so_many_count (Optional kind) more h = length-replicate more kind
so_many_count (Repeated kind) more h = length-replicate more kind

kinds_count : (form : Form) (n : ℕ) → has_count form n ≡ true → length (kinds_for form n) ≡ n
kinds_count form n h =
    let p = and_parts (leb (length form.kinds) n) (may_follow form.rest (n - length form.kinds)) h in
    let enough : length form.kinds ≤ n = leb-true (length form.kinds) n p.0 in
    let more = so_many_count form.rest (n - length form.kinds) p.1 in
    length-append form.kinds (so_many (n - length form.kinds) (rest_kind form.rest)) ∙ omega arith

good_fields : (b : Bool) (read : Values) (vs : List Value) → cond b read (Err fault.Fields) ≡ Ok vs → (b ≡ true) × (read ≡ Ok vs)
good_fields true read vs e = (refl, e)
good_fields false read vs e = absurd cc

pub forms_written : FormsAreWrittenAgain
forms_written form fields vs e =
    let g = good_fields (are_fields form fields) (values_under (kinds_for form (length fields)) fields) vs e in
    let p = and_parts (list_all a_field fields) (has_count form (length fields)) g.0 in
    let t = all_take (kinds_for form (length fields)) fields vs (kinds_count form (length fields) p.1) g.1 in (
      record {
        count = subst (λ (n : ℕ). has_count form n ≡ true) (sym t.count) p.1;
        each = subst (λ (n : ℕ). FitKinds (kinds_for form n) vs) (sym t.count) t.fits;
      },
      ap (λ (n : ℕ). fields_under (kinds_for form n) vs) t.count ∙ t.written,
    )
