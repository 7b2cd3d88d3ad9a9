-- The answers that acts give are those of the trace.
use Rattle.std.proofs.Common.{◌≡◌, ℕ, List, [], ◌∷◌, ◌++◌, Option, Some, Bool, true, false, refl, sym, ap, ◌∙◌, subst, inl, inr, append-nil, true≢false}
use Rattle.std.specs.Prelude.{◌==◌, ◌&&◌, find, if◌then◌else◌, option_and_then}
use Rattle.std.specs.Option.{option_map_or}
use Rattle.std.proofs.lemmas.Bool.{and_from, and_parts, eq-eqb, eqb-true}
use Rattle.std.proofs.lemmas.Slice.Eq.{bytes_eq-Decides}
use Rattle.tap_trace.specs.declared.answer.Answer.{Answer}
use Rattle.tap_trace.specs.declared.answer.Answer.TheVariants as answer
use Rattle.tap_trace.specs.declared.turn.TurnText.TheVariants as text
use Rattle.tap_legal.specs.Numbered.{AnswerAt, Asked, Told, same_told}
use Rattle.tap_legal.specs.Case.{Case}
use Rattle.tap_legal.specs.Codes.{answer_code, same_answer}
use Rattle.tap_legal.specs.Lookups.{answer_of}
use Rattle.tap_legal.specs.Replay.{with_need_of}
use Rattle.tap_sights.specs.Acts.{Act, Done}
use Rattle.tap_sights.specs.GuestFacts.{ActTells}
use Rattle.tap_sights.specs.LineFacts.{IsShaped}
use Rattle.tap_sights.specs.Sight.{In}
use Rattle.tap_sights.proofs.Kit.{found, passes}
use Rattle.tap_sights.proofs.Orders.{one_answer}

pub same_told_is : (t u : Told) → same_told t u ≡ true → t ≡ u
same_told_is t u e =
    let p = and_parts (t.phase == u.phase && t.actor == u.actor) (t.command == u.command) e in
    let q = and_parts (t.phase == u.phase) (t.actor == u.actor) p.0 in
    let phase = eqb-true t.phase u.phase q.0 in
    let actor = eqb-true t.actor u.actor q.1 in
    let command = eqb-true t.command u.command p.1 in
    λ i. record { phase = phase i; actor = actor i; command = command i }

pub same_told_from : (t u : Told) → t ≡ u → same_told t u ≡ true
same_told_from t u e =
    and_from (t.phase == u.phase && t.actor == u.actor) (t.command == u.command)
    (and_from (t.phase == u.phase) (t.actor == u.actor)
    (eq-eqb t.phase u.phase (ap (λ (x : Told). x.phase) e)) (eq-eqb t.actor u.actor (ap (λ (x : Told). x.actor) e)))
    (eq-eqb t.command u.command (ap (λ (x : Told). x.command) e))

pub some_found : {A : Type 0} (test : A → Bool) (xs : List A) (y : A) → In y xs → test y ≡ true
    → (z : A) × (find test xs ≡ Some z)
some_found test [] y i e = absurd i
some_found {A} test (x ∷ xs) y i e = go (test x) refl i (λ j. some_found test xs y j e)
  where
    go : (b : Bool) → test x ≡ b → In y (x ∷ xs) → (In y xs → (z : A) × (find test xs ≡ Some z))
        → (z : A) × (find test (x ∷ xs) ≡ Some z)
    go true is j more = (x, cc (is))
    go false is (inl same) more = absurd (true≢false (sym e ∙ ap test (sym same) ∙ is))
    go false is (inr j) more = let r = more j in (r.0, cc (is, r.1))

-- the answer of an act's command
pub answer_is : (c : Case) → IsShaped c → (d : Act × Done) → ActTells c d → (y : AnswerAt) → In y c.answers → y.told ≡ d.0.told
    → answer_of c d.0.told.command ≡ Some y
answer_is c h d t y i e =
    let test : AnswerAt → Bool = λ (x : AnswerAt). same_told x.told d.0.told in
    let f = some_found test c.answers y i (same_told_from y.told d.0.told e) in
    let there = found test c.answers f.0 f.1 in
    let same = same_told_is f.0.told d.0.told (passes test c.answers f.0 f.1) in
    ap (λ (o : Option Asked). option_and_then (λ (a : Asked). find (λ (x : AnswerAt). same_told x.told a.told) c.answers) o) t.asked
    ∙ f.1 ∙ ap Some (one_answer c h f.0 y there i (same ∙ sym e))

-- the need of a Short is that of the trace, which is the same
pub same_with_need : (told x : Answer) → same_answer told x ≡ true → same_answer told (with_need_of told x) ≡ true
same_with_need (answer.Turn p b (text.Short need had) cs) (answer.Turn packets bytes (text.Short n h) chains) e =
    let codes = (bytes_eq-Decides (answer_code (answer.Turn p b (text.Short need had) cs)) (answer_code (answer.Turn packets bytes (text.Short n h) chains))).0 e in
    let same : n ≡ need = cc (codes) in
    subst (λ m. same_answer (answer.Turn p b (text.Short need had) cs) (answer.Turn packets bytes (text.Short m h) chains) ≡ true) same e
same_with_need told x e = e

abbrev pub wrong_line : Case → ℕ → Answer → List ℕ
wrong_line c command x =
    option_map_or (λ (a : AnswerAt). if same_answer a.answer (with_need_of a.answer x) then [] else a.line ∷ [])
    (answer_of c command) []

pub nothing_wrong : (c : Case) → IsShaped c → (d : Act × Done) → ActTells c d → (x : Answer) → d.1.answer ≡ Some x
    → wrong_line c d.0.told.command x ≡ []
nothing_wrong c h d t x e =
    let y = t.told x e in
    ap (λ (o : Option AnswerAt). option_map_or (λ (a : AnswerAt). if same_answer a.answer (with_need_of a.answer x) then [] else a.line ∷ []) o [])
    (answer_is c h d t y.0 y.1 y.2)
    ∙ ap (λ (b : Bool). if b then [] else y.0.line ∷ []) (same_with_need y.0.answer x y.3)

pub still_right : (c : Case) → IsShaped c → (d : Act × Done) → ActTells c d → (x : Answer) → d.1.answer ≡ Some x
    → (fails : List ℕ) → fails ≡ [] → (fails ++ wrong_line c d.0.told.command x) ≡ []
still_right c h d t x e fails none = ap (λ (w : List ℕ). fails ++ w) (nothing_wrong c h d t x e) ∙ append-nil fails ∙ none
