-- All lines: what is written is read again, and what was read is written so; what follows of lines as bytes.
use Rattle.std.proofs.Common.{◌≡◌, ℕ, Bool, true, false, cond, eqb, not, All, List, [], ◌∷◌, ◌++◌, Option, Some, None, Result, Ok, Err, refl, ap, subst, sym, ◌∙◌, arith}
use Rattle.std.specs.Prelude.{codes, IfOk}
use Rattle.std.specs.List.{list_all}
use Rattle.std.specs.Option.{IfSome, IfNone}
use Rattle.std.proofs.lemmas.Bool.{and_parts, and_from}
use Rattle.std.proofs.lemmas.List.Elements.{All-cons, All-nil}
use Rattle.std.proofs.lemmas.List.Splits.{slice_split_at, slice_split_none}
use Rattle.std.specs.Fmt.{decimal}
use Rattle.std.specs.Str.{bytes_eq}
use Rattle.std.proofs.lemmas.Slice.Eq.{bytes_eq-Decides}
use Rattle.scen_words.specs.Field.{frame_name}
use Rattle.tap_trace.specs.declared.trace.OpLine.{OpLine}
use Rattle.tap_trace.specs.declared.trace.PlaceLine.{PlaceLine}
use Rattle.tap_trace.specs.declared.turn.ChainText.TheVariants as chain
use Rattle.text_fields.specs.Laws.{LinesAreJoinedAgain}
use Rattle.text_fields.specs.Lines.{fields_of, is_field_byte, is_text_byte, line_of}
use Rattle.trace_words.specs.declared.said.Said.{Said}
use Rattle.trace_words.specs.declared.said.Said.TheVariants as said
use Rattle.trace_words.specs.declared.words.HeadWord.{HeadWord}
use Rattle.trace_words.specs.declared.words.HeadWord.TheVariants as head
use Rattle.trace_causes.specs.CauseReading.{fate_in}
use Rattle.trace_causes.specs.Causes.{fate_fields}
use Rattle.trace_causes.specs.Fits.{FitFate, FitOp}
use Rattle.trace_causes.specs.Laws.{AreClean, CauseLaws, FieldLaws, IsClean, IsField}
use Rattle.trace_causes.specs.OpReading.{op_text_in}
use Rattle.trace_causes.specs.Operations.{op_fields}
use Rattle.tap_ground.specs.Options.{◌>>=◌}
use Rattle.trace_words.specs.AnswerReading.{answer_in}
use Rattle.trace_words.specs.Answers.{answer_line}
use Rattle.trace_words.specs.Fits.{FitOpLine, FitPlace, FitStep}
use Rattle.trace_words.specs.Laws.{LinesAreText, LinesHaveNoEnd, LinesSayOneThing}
use Rattle.trace_words.specs.LineReading.{begins_in, file_in, format_of, got_in, guest_in, list_in, op_in, phase_in, refused_in, resize_in, ring_in, said_behind, said_in, used_in}
use Rattle.trace_words.specs.Operations.{op_line}
use Rattle.trace_words.specs.Places.{place_in, place_line}
use Rattle.trace_words.specs.Said.{FitSaid, Says, said_fields}
use Rattle.trace_words.specs.StepReading.{step_in}
use Rattle.trace_words.specs.Steps.{step_line}
use Rattle.trace_words.specs.Words.{head_spelling}
use Rattle.trace_words.proofs.AnswerLaws.{FitBareLine, answer_again, answer_takes}
use Rattle.trace_words.proofs.Chains.{IsWritten, takes_end, takes_first, takes_part, word_again}
use Rattle.trace_words.proofs.StepLaws.{step_again, step_takes}
use Rattle.trace_words.proofs.WordLaws.{head_field}

-- what the crates below say
pub record Below : Type 0 where
  pub fields : FieldLaws
  pub causes : CauseLaws
  pub joined : LinesAreJoinedAgain

-- ---- the version of the format

formatted : (b : Bool) (field : List ℕ) (w : Unit {0}) → bytes_eq (codes "1") field ≡ b → cond b (Some tt) None ≡ Some w → (codes "1" ≡ field) × IsClean field
formatted true field w t e = let is : codes "1" ≡ field = (bytes_eq-Decides (codes "1") field).0 t in (is, subst (λ (bytes : List ℕ). IsClean bytes) is refl)
formatted false field w t e = absurd cc

formats : IsField format_of (λ w. codes "1") (λ w. Unit {0})
unfolding format_of
formats = record {
  again = λ w fit. refl;
  takes = λ field w e. let t = formatted (bytes_eq (codes "1") field) field w refl e in (tt, t.0, t.1);
}

-- ---- operations

op_again : FieldLaws → CauseLaws → (o : OpLine) → FitOpLine o → op_in (decimal o.version ∷ decimal o.command ∷ op_fields o.text) ≡ Some o
unfolding op_in
op_again laws causes o h = rw (laws.number64.again o.version h.0, laws.number32.again o.command h.1, causes.op.again o.text h.2) refl

op_takes : FieldLaws → CauseLaws → (fields : List (List ℕ)) (o : OpLine) → op_in fields ≡ Some o → IsWritten FitOpLine op_line o (codes "op" ∷ fields) × AreClean fields
unfolding op_in
op_takes laws causes = takes_first laws.number64 _ _ (λ v hv. takes_first laws.number32 _ _ (λ c hc.
    takes_part op_text_in (λ t. record { version = v; command = c; text = t }) (IsWritten FitOp op_fields) _ (λ fields t e. let g = causes.op.takes fields t e in ((g.0, g.1), g.2))
    (λ fields t g. ((hv, hc, g.0), ap (λ (more : List (List ℕ)). codes "op" ∷ decimal v ∷ decimal c ∷ more) g.1))))

-- ---- places

place_again : FieldLaws → CauseLaws → (l : PlaceLine) → FitPlace l → place_in (decimal l.place ∷ decimal l.epoch ∷ frame_name l.name ∷ decimal l.len ∷ fate_fields l.fate) ≡ Some l
unfolding place_in
place_again laws causes l h = rw (laws.number64.again l.place h.0, laws.number16.again l.epoch h.1, laws.name.again l.name h.2, laws.number32.again l.len h.3, causes.fate.again l.fate h.4) refl

place_takes : FieldLaws → CauseLaws → (fields : List (List ℕ)) (l : PlaceLine) → place_in fields ≡ Some l → IsWritten FitPlace place_line l (codes "line" ∷ fields) × AreClean fields
unfolding place_in
place_takes laws causes = takes_first laws.number64 _ _ (λ p hp. takes_first laws.number16 _ _ (λ e he. takes_first laws.name _ _ (λ n hn. takes_first laws.number32 _ _ (λ c hc.
    takes_part fate_in (λ f. record { place = p; epoch = e; name = n; len = c; fate = f }) (IsWritten FitFate fate_fields) _ (λ fields f e. let g = causes.fate.takes fields f e in ((g.0, g.1), g.2))
    (λ fields f g. ((hp, he, hn, hc, g.0), ap (λ (more : List (List ℕ)). codes "line" ∷ decimal p ∷ decimal e ∷ frame_name n ∷ decimal c ∷ more) g.1))))))

-- ---- what is written is read

again : FieldLaws → CauseLaws → (s : Said) → FitSaid s → said_in (said_fields s) ≡ Some s
unfolding said_in said_behind begins_in phase_in resize_in got_in refused_in file_in guest_in ring_in list_in used_in
again laws causes said.Begins h = word_again head_field head.Begins _ said_behind _ (rw (formats.again tt tt) refl)
again laws causes (said.Phase p n) h = word_again head_field head.Phase _ said_behind _ (rw (laws.number64.again p h.0, laws.number16.again n h.1) refl)
again laws causes (said.Op o) h = word_again head_field head.Op _ said_behind _ (ap (λ r. r >>= λ x. Some (said.Op x)) (op_again laws causes o h))
again laws causes (said.Answer a) h = word_again head_field head.Answer _ said_behind _ (ap (λ r. r >>= λ x. Some (said.Answer x)) (answer_again laws causes a h.0 h.1))
again laws causes (said.Resize a b c) h = word_again head_field head.Resize _ said_behind _ (rw (laws.number64.again a h.0, laws.number64.again b h.1, laws.number64.again c h.2) refl)
again laws causes (said.Chain (chain.Got n c f)) h = word_again head_field head.Got _ said_behind _ (rw (laws.name.again n h.0, laws.number32.again c h.1, laws.hash.again f h.2) refl)
again laws causes (said.Chain (chain.Refused p b)) h = word_again head_field head.Refused _ said_behind _ (rw (laws.number16.again p h.0, laws.bad.again b h.1) refl)
again laws causes (said.File f a b) h = word_again head_field head.File _ said_behind _ (rw (laws.number16.again f h.0, laws.number64.again a h.1, laws.number64.again b h.2) refl)
again laws causes (said.Place l) h = word_again head_field head.Place _ said_behind _ (ap (λ r. r >>= λ x. Some (said.Place x)) (place_again laws causes l h))
again laws causes (said.Guest g) h = word_again head_field head.Guest _ said_behind _ (rw (laws.number16.again g h) refl)
again laws causes (said.Step s) h = word_again head_field head.Step _ said_behind _ (ap (λ r. r >>= λ x. Some (said.Step x)) (step_again laws s h))
again laws causes (said.Ring v r) h = word_again head_field head.Ring _ said_behind _ (rw (laws.number16.again v h.0, laws.number16.again r h.1) refl)
again laws causes (said.Base b) h = word_again head_field head.Base _ said_behind _ (rw (laws.number16.again b h) refl)
again laws causes (said.Used p d n) h = word_again head_field head.Used _ said_behind _ (rw (laws.number16.again p h.0, laws.number16.again d h.1, laws.number32.again n h.2) refl)
again laws causes said.End h = word_again head_field head.End _ said_behind _ refl

-- ---- what is read is written so

takes : FieldLaws → CauseLaws → (w : HeadWord) (fields : List (List ℕ)) (s : Said) → said_behind w fields ≡ Some s → IsWritten FitSaid said_fields s (head_spelling w ∷ fields) × AreClean fields
unfolding said_behind begins_in phase_in resize_in got_in refused_in file_in guest_in ring_in list_in used_in
takes laws causes head.Begins = takes_first formats _ _ (λ w h. takes_end said.Begins _ (tt, refl))
takes laws causes head.Phase = takes_first laws.number64 _ _ (λ p hp. takes_first laws.number16 _ _ (λ n hn. takes_end (said.Phase p n) _ ((hp, hn), refl)))
takes laws causes head.Op = takes_part op_in said.Op (λ o fields. IsWritten FitOpLine op_line o (codes "op" ∷ fields)) _ (op_takes laws causes) (λ fields o g. g)
takes laws causes head.Answer = takes_part answer_in said.Answer (λ a fields. IsWritten FitBareLine answer_line a (codes "ans" ∷ fields)) _ (answer_takes laws causes) (λ fields a g. g)
takes laws causes head.Resize = takes_first laws.number64 _ _ (λ a ha. takes_first laws.number64 _ _ (λ b hb. takes_first laws.number64 _ _ (λ c hc. takes_end (said.Resize a b c) _ ((ha, hb, hc), refl))))
takes laws causes head.Got = takes_first laws.name _ _ (λ n hn. takes_first laws.number32 _ _ (λ c hc. takes_first laws.hash _ _ (λ f hf. takes_end (said.Chain (chain.Got n c f)) _ ((hn, hc, hf), refl))))
takes laws causes head.Refused = takes_first laws.number16 _ _ (λ p hp. takes_first laws.bad _ _ (λ b hb. takes_end (said.Chain (chain.Refused p b)) _ ((hp, hb), refl)))
takes laws causes head.File = takes_first laws.number16 _ _ (λ f hf. takes_first laws.number64 _ _ (λ a ha. takes_first laws.number64 _ _ (λ b hb. takes_end (said.File f a b) _ ((hf, ha, hb), refl))))
takes laws causes head.Place = takes_part place_in said.Place (λ l fields. IsWritten FitPlace place_line l (codes "line" ∷ fields)) _ (place_takes laws causes) (λ fields l g. g)
takes laws causes head.Guest = takes_first laws.number16 _ _ (λ g h. takes_end (said.Guest g) _ (h, refl))
takes laws causes head.Step = takes_part step_in said.Step (λ s fields. IsWritten FitStep step_line s (codes "step" ∷ fields)) _ (step_takes laws) (λ fields s g. g)
takes laws causes head.Ring = takes_first laws.number16 _ _ (λ v hv. takes_first laws.number16 _ _ (λ r hr. takes_end (said.Ring v r) _ ((hv, hr), refl)))
takes laws causes head.Base = takes_first laws.number16 _ _ (λ b h. takes_end (said.Base b) _ (h, refl))
takes laws causes head.Used = takes_first laws.number16 _ _ (λ p hp. takes_first laws.number16 _ _ (λ d hd. takes_first laws.number32 _ _ (λ n hn. takes_end (said.Used p d n) _ ((hp, hd, hn), refl))))
takes laws causes head.End = takes_end said.End _ (tt, refl)

said_takes : FieldLaws → CauseLaws → (fields : List (List ℕ)) (s : Said) → said_in fields ≡ Some s → IsWritten FitSaid said_fields s fields × AreClean fields
unfolding said_in
said_takes laws causes = takes_first head_field _ _ (λ w h. takes laws causes w)

-- ---- lines as bytes

abbrev IsFree : ℕ → List ℕ → Type 0
IsFree c xs = All (λ b. eqb b c ≡ false) xs

free_by_test : (p : ℕ → Bool) (c : ℕ) → ((b : ℕ) → p b ≡ true → eqb b c ≡ false) → (xs : List ℕ) → list_all p xs ≡ true → IsFree c xs
free_by_test p c other [] h = All-nil (λ b. eqb b c ≡ false)
free_by_test p c other (b ∷ xs) h =
    let parts = and_parts (p b) (list_all p xs) h in
    All-cons (λ b. eqb b c ≡ false) b xs (other b parts.0) (free_by_test p c other xs parts.1)

no_space : (b : ℕ) → is_field_byte b ≡ true → eqb b 32 ≡ false
no_space b h = grind arith

cut_line : (first : List ℕ) (others : List (List ℕ)) → AreClean (first ∷ others) → fields_of (line_of (first ∷ others)) ≡ first ∷ others
cut_line field [] h =
    let parts = and_parts (list_all is_field_byte field) true h in
    slice_split_none (λ b. eqb b 32) field (free_by_test is_field_byte 32 no_space field parts.0)
cut_line field (next ∷ others) h =
    let parts = and_parts (list_all is_field_byte field) (list_all (list_all is_field_byte) (next ∷ others)) h in
    slice_split_at (λ b. eqb b 32) field 32 (line_of (next ∷ others)) (free_by_test is_field_byte 32 no_space field parts.0) refl
    ∙ ap (λ (rest : List (List ℕ)). field ∷ rest) (cut_line next others parts.1)

read_again : (fields : List (List ℕ)) (s : Said) → AreClean fields → said_in fields ≡ Some s → said_in (fields_of (line_of fields)) ≡ Some s
unfolding said_in
read_again [] s clean e = absurd cc
read_again (first ∷ others) s clean e = ap said_in (cut_line first others clean) ∙ e

-- what a line says is what reading gives
pub says_read : Below → (line : List ℕ) (s : Said) → Says line s → said_in (fields_of line) ≡ Some s
says_read laws line s says =
    let e = again laws.fields laws.causes s says.0 in
    ap (λ (l : List ℕ). said_in (fields_of l)) says.1 ∙ read_again (said_fields s) s (said_takes laws.fields laws.causes (said_fields s) s e).1 e

pub read_says : Below → (line : List ℕ) (s : Said) → said_in (fields_of line) ≡ Some s → Says line s
read_says laws line s e =
    let t = said_takes laws.fields laws.causes (fields_of line) s e in
    (t.0.0, sym (laws.joined line) ∙ ap line_of (sym t.0.1))

pub is_found : Below → (line : List ℕ) {E : Type 0} (r : Result (Option Said) E) → IfOk r (λ o. o ≡ said_in (fields_of line)) → IfOk r (λ o. IfSome o (λ s. Says line s))
is_found laws line (Ok None) h = tt
is_found laws line (Ok (Some s)) h = read_says laws line s (sym h)
is_found laws line (Err e) h = tt

nothing_says : Below → (line : List ℕ) → None ≡ said_in (fields_of line) → (s : Said) → Says line s → ⊥
nothing_says laws line none s says = let e = none ∙ says_read laws line s says in absurd cc

pub is_none : Below → (line : List ℕ) {E : Type 0} (r : Result (Option Said) E) → IfOk r (λ o. o ≡ said_in (fields_of line)) → IfOk r (λ o. IfNone o ((s : Said) → Says line s → ⊥))
is_none laws line (Ok None) h = nothing_says laws line h
is_none laws line (Ok (Some s)) h = tt
is_none laws line (Err e) h = tt

pub one_thing : Below → LinesSayOneThing
one_thing laws line a b says also = let e = sym (says_read laws line a says) ∙ says_read laws line b also in let same : Some a ≡ Some b = e in cc

-- ---- the bytes of a line

text_byte : (b : ℕ) → is_field_byte b ≡ true → is_text_byte b ≡ true
text_byte b h = grind arith

no_end_byte : (b : ℕ) → is_text_byte b ≡ true → not (eqb b 10) ≡ true
no_end_byte b h = grind arith

weaken : (p q : ℕ → Bool) → ((b : ℕ) → p b ≡ true → q b ≡ true) → (xs : List ℕ) → list_all p xs ≡ true → list_all q xs ≡ true
weaken p q k [] h = refl
weaken p q k (x ∷ xs) h =
    let parts = and_parts (p x) (list_all p xs) h in
    and_from (q x) (list_all q xs) (k x parts.0) (weaken p q k xs parts.1)

all_append : (p : ℕ → Bool) (xs ys : List ℕ) → list_all p xs ≡ true → list_all p ys ≡ true → list_all p (xs ++ ys) ≡ true
all_append p [] ys h k = k
all_append p (x ∷ xs) ys h k =
    let parts = and_parts (p x) (list_all p xs) h in
    and_from (p x) (list_all p (xs ++ ys)) parts.0 (all_append p xs ys parts.1 k)

text_line : (fields : List (List ℕ)) → AreClean fields → list_all is_text_byte (line_of fields) ≡ true
text_line [] h = refl
text_line (field ∷ []) h = weaken is_field_byte is_text_byte text_byte field (and_parts (list_all is_field_byte field) true h).0
text_line (field ∷ next ∷ others) h =
    let parts = and_parts (list_all is_field_byte field) (list_all (list_all is_field_byte) (next ∷ others)) h in
    all_append is_text_byte field (32 ∷ line_of (next ∷ others)) (weaken is_field_byte is_text_byte text_byte field parts.0) (text_line (next ∷ others) parts.1)

pub are_text : Below → LinesAreText
are_text laws line s says =
    let e = again laws.fields laws.causes s says.0 in
    subst (λ (l : List ℕ). list_all is_text_byte l ≡ true) (sym says.1) (text_line (said_fields s) (said_takes laws.fields laws.causes (said_fields s) s e).1)

pub no_ends : Below → LinesHaveNoEnd
no_ends laws line s says = weaken is_text_byte (λ b. not (eqb b 10)) no_end_byte line (are_text laws line s says)
