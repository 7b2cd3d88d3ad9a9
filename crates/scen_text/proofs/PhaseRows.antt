-- The rows of a scenario's phases, one phase after another.
use Rattle.std.proofs.Common.{◌≡◌, ℕ, ◌+◌, ◌<◌, Bool, false, List, [], ◌∷◌, ◌++◌, length, take, get_or, refl, sym, ap, ◌∙◌, append_assoc}
use Rattle.std.proofs.lemmas.List.{append-nil, take_more}
use Rattle.scen_text.specs.declared.scenario.Phase.{Phase}
use Rattle.scen_words.specs.Field.{text}
use Rattle.scen_text.specs.ScenarioText.{is_bare, phase_rows, phases_rows}
use Rattle.scen_text.proofs.Loops.{text-append}

-- whether the last of these phases is written as its commands alone
abbrev pub bare_after : Bool → List Phase → Bool
bare_after bare [] = bare
bare_after bare (p ∷ ps) = bare_after (is_bare bare p) ps

bare_after-push : (bare : Bool) (ps : List Phase) (p : Phase) → bare_after bare (ps ++ p ∷ []) ≡ is_bare (bare_after bare ps) p
bare_after-push bare [] p = refl
bare_after-push bare (q ∷ qs) p = bare_after-push (is_bare bare q) qs p

phases_rows-push : (names : List (List ℕ)) (bare : Bool) (ps : List Phase) (p : Phase)
    → phases_rows names bare (ps ++ p ∷ []) ≡ phases_rows names bare ps ++ phase_rows names (is_bare (bare_after bare ps) p) p
phases_rows-push names bare [] p = append-nil (phase_rows names (is_bare bare p) p)
phases_rows-push names bare (q ∷ qs) p =
    ap (λ (rows : List (List (List ℕ))). phase_rows names (is_bare bare q) q ++ rows) (phases_rows-push names (is_bare bare q) qs p)
    ∙ sym (append_assoc (phase_rows names (is_bare bare q) q) (phases_rows names (is_bare bare q) qs) (phase_rows names (is_bare (bare_after (is_bare bare q) qs) p) p))

front_is : (ps : List Phase) (i : ℕ) (p : Phase) → i < length ps → p ≡ get_or ps i p → take (i + 1) ps ≡ take i ps ++ p ∷ []
front_is ps i p lt is = take_more ps i p lt ∙ ap (λ (q : Phase). take i ps ++ q ∷ []) (sym is)

pub bare_more : (ps : List Phase) (i : ℕ) (p : Phase) (bare next : Bool) → i < length ps → p ≡ get_or ps i p → bare ≡ bare_after false (take i ps) → next ≡ is_bare bare p
    → next ≡ bare_after false (take (i + 1) ps)
bare_more ps i p bare next lt is so_far new =
    new ∙ ap (λ (b : Bool). is_bare b p) so_far ∙ sym (ap (bare_after false) (front_is ps i p lt is) ∙ bare_after-push false (take i ps) p)

pub rows_more : (names : List (List ℕ)) (before now after : List ℕ) (ps : List Phase) (i : ℕ) (p : Phase) (bare next : Bool) → i < length ps → p ≡ get_or ps i p
    → bare ≡ bare_after false (take i ps) → next ≡ is_bare bare p → now ≡ before ++ text (phases_rows names false (take i ps)) → after ≡ now ++ text (phase_rows names next p)
    → after ≡ before ++ text (phases_rows names false (take (i + 1) ps))
rows_more names before now after ps i p bare next lt is flag new so_far written =
    let rows : phases_rows names false (take (i + 1) ps) ≡ phases_rows names false (take i ps) ++ phase_rows names next p =
    ap (phases_rows names false) (front_is ps i p lt is) ∙ phases_rows-push names false (take i ps) p
    ∙ ap (λ (b : Bool). phases_rows names false (take i ps) ++ phase_rows names b p) (sym (new ∙ ap (λ (b : Bool). is_bare b p) flag)) in
    let whole : text (phases_rows names false (take (i + 1) ps)) ≡ text (phases_rows names false (take i ps)) ++ text (phase_rows names next p) =
    ap text rows ∙ text-append (phases_rows names false (take i ps)) (phase_rows names next p) in
    written ∙ ap (λ (t : List ℕ). t ++ text (phase_rows names next p)) so_far ∙ append_assoc before _ _ ∙ ap (λ (t : List ℕ). before ++ t) (sym whole)
