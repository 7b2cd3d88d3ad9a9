-- The declarations and phases of an accepted history are made from what it says.
use Rattle.std.proofs.Common.{◌≡◌, ℕ, ◌<◌, lit<, Bool, true, false, ◌&&◌, ◌||◌, not, ltb, List, [], ◌∷◌, ◌++◌, Option, Some, None, refl, sym, ap, subst, ◌∙◌, arith}
use Rattle.std.specs.Prelude.{unwrap_or}
use Rattle.std.proofs.lemmas.Bool.{ltb-true}
use Rattle.text_fields.specs.declared.value.Value.{Value}
use Rattle.text_fields.specs.Forms.{FitForm}
use Rattle.scen_words.specs.declared.fault.Why.{Why}
use Rattle.scen_words.specs.declared.fault.Why.TheVariants as why
use Rattle.scen_text.specs.declared.place.Place.{Place}
use Rattle.scen_text.specs.declared.place.Place.TheVariants.{Outside, Run, Block}
use Rattle.scen_words.specs.declared.declaration.Declaration.{Declaration}
use Rattle.scen_text.specs.declared.scenario.Line.{Line}
use Rattle.scen_text.specs.declared.scenario.Phase.{Phase}
use Rattle.scen_words.specs.declared.sentence.Sentence.{Sentence}
use Rattle.scen_words.specs.declared.sentence.Sentence.TheVariants.{Skipped, Declares, Orders, Opens, Ends}
use Rattle.scen_words.specs.declared.word.CommandWord.{CommandWord}
use Rattle.scen_words.specs.declared.word.DeclarationWord.{DeclarationWord}
use Rattle.scen_text.specs.Before.{add_line, before, command_after, command_count, declarations_of, is_started, line_after, names_of, number_for, phase_of, phases_of, place_of, turn_count}
use Rattle.scen_words.specs.Commands.{command_of, commanded_name, normal}
use Rattle.tap_ground.specs.Options.{only_if as when}
use Rattle.scen_text.specs.Refusals.{cause, command_why, declaration_why, is_block, is_misplaced, is_unknown, passes_limit, ◌orelse◌}
use Rattle.scen_words.specs.Words.{command_form}
use Rattle.scen_text.proofs.Accepted.{Accepted}
use Rattle.scen_text.proofs.Flat.{Ordered, flat, flat_count, flat_declarations, flat_names, flat_turns}
use Rattle.scen_text.proofs.Made.{LastHas, MadeLine, PhasesFrom, last_kept, last_line, last_more, phase_more}

abbrev pub decls : List Sentence → List Sentence
decls [] = []
decls (Skipped ∷ e) = decls e
decls (Declares w v ∷ e) = Declares w (normal w v) ∷ decls e
decls (Orders a w v ∷ e) = decls e
decls (Opens n ∷ e) = decls e
decls (Ends ∷ e) = decls e

pub record Calm (e : List Sentence) : Type 0 where
  pub phases : phases_of e ≡ []
  pub flat_is : flat e ≡ decls e
  pub place : place_of e ≡ Outside

pub not_started : (e : List Sentence) → is_started e ≡ false → Calm e
unfolding is_started phases_of place_of
not_started [] h = record { phases = refl; flat_is = refl; place = refl }
not_started (Skipped ∷ e) h = let c = not_started e h in record { phases = c.phases; flat_is = c.flat_is; place = c.place }
not_started (Declares w v ∷ e) h = let c = not_started e h in record { phases = c.phases; flat_is = ap (λ (x : List Sentence). Declares w (normal w v) ∷ x) c.flat_is; place = c.place }
not_started (Orders a w v ∷ e) h = absurd cc
not_started (Opens n ∷ e) h = absurd cc
not_started (Ends ∷ e) h = absurd cc

-- ---- what is refused for nothing

pub when_none : (b : Bool) (w : Why) (rest : Option Why) → (when b w orelse rest) ≡ None → (b ≡ false) × (rest ≡ None)
when_none true w rest e = absurd cc
when_none false w rest e = (refl, e)

when_last : (b : Bool) (w : Why) → when b w ≡ None → b ≡ false
when_last true w e = absurd cc
when_last false w e = refl

or_false : (a b : Bool) → (a || b) ≡ false → a ≡ false
or_false true b e = absurd cc
or_false false b e = refl

not_false : (b : Bool) → not b ≡ false → b ≡ true
not_false true e = refl
not_false false e = absurd cc

pub record Placed (e : List Sentence) (a : Option ℕ) (w : CommandWord) (v : List Value) : Type 0 where
  pub known : is_unknown (declarations_of e) (command_after e w v) ≡ false
  pub place : is_misplaced (place_of e) a ≡ false
  pub limit : passes_limit (command_count e) (turn_count e) (names_of e) (commanded_name w v) (command_after e w v) ≡ false

order_facts : (e : List Sentence) (last : Bool) (a : Option ℕ) (w : CommandWord) (v : List Value) → cause (before e) last (Orders a w v) ≡ None → Placed e a w v
unfolding cause command_why
order_facts e last a w v h =
    let x = when_none (is_unknown (declarations_of e) (command_after e w v)) why.Unknown _ h in
    let y = when_none (is_misplaced (place_of e) a || (last && is_block (place_of e))) why.Phase _ x.1 in
    record { known = x.0; place = or_false (is_misplaced (place_of e) a) (last && is_block (place_of e)) y.0; limit = when_last _ why.Limit y.1 }

ordered_flat : (e : List Sentence) (a : Option ℕ) (w : CommandWord) (v : List Value) → FitForm (command_form w) v → Placed e a w v → Ordered (flat e) w v
ordered_flat e a w v fits p = record {
  fits = fits;
  known = ap (λ (ds : List Declaration). is_unknown ds (command_after (flat e) w v)) (flat_declarations e)
      ∙ ap (λ (ns : List (List ℕ)). is_unknown (declarations_of e) (command_of (number_for ns (commanded_name w v)) w v)) (flat_names e) ∙ p.known;
  limit = ap (λ (n : ℕ). passes_limit n (turn_count (flat e)) (names_of (flat e)) (commanded_name w v) (command_after (flat e) w v)) (flat_count e)
      ∙ ap (λ (n : ℕ). passes_limit (command_count e) n (names_of (flat e)) (commanded_name w v) (command_after (flat e) w v)) (flat_turns e)
      ∙ ap (λ (ns : List (List ℕ)). passes_limit (command_count e) (turn_count e) ns (commanded_name w v) (command_of (number_for ns (commanded_name w v)) w v)) (flat_names e) ∙ p.limit;
}

abbrev line_of_parts : ℕ → CommandWord → List Value → ℕ → List (List ℕ) → Line
line_of_parts actor w v n ns = record { actor = actor; number = n; command = command_of (number_for ns (commanded_name w v)) w v }

pub line_flat : (e : List Sentence) (a : Option ℕ) (w : CommandWord) (v : List Value) → line_after e a w v ≡ line_after (flat e) (Some (unwrap_or a 0)) w v
line_flat e a w v =
    ap (λ (n : ℕ). line_of_parts (unwrap_or a 0) w v n (names_of e)) (sym (flat_count e)) ∙ ap (λ (ns : List (List ℕ)). line_of_parts (unwrap_or a 0) w v (command_count (flat e)) ns) (sym (flat_names e))

made_line : (e : List Sentence) (a : Option ℕ) (w : CommandWord) (v : List Value) (n : ℕ) → unwrap_or a 0 < n → Ordered (flat e) w v → MadeLine (flat e) n (line_after e a w v) w v
made_line e a w v n lt o = record { is = line_flat e a w v; actor = lt; ordered = o }

-- ---- phases

abbrev PlaceFits : Place → List Phase → Type 0
PlaceFits Outside ps = Unit {0}
PlaceFits Run ps = LastHas 1 ps
PlaceFits (Block n) ps = LastHas n ps

abbrev after : Place → Option ℕ → Place
after pl None = Run
after pl (Some k) = pl

place_after : (e : List Sentence) (a : Option ℕ) (w : CommandWord) (v : List Value) → place_of (Orders a w v ∷ e) ≡ after (place_of e) a
unfolding place_of
place_after e None w v = refl
place_after e (Some k) w v = refl

orders_made : (e f : List Sentence) (a : Option ℕ) (w : CommandWord) (v : List Value) (pl : Place) (ps : List Phase) → PhasesFrom f ps (flat e) → PlaceFits pl ps → is_misplaced pl a ≡ false
    → Ordered (flat e) w v
    → PhasesFrom f (add_line pl (line_after e a w v) ps) (Orders None w v ∷ flat e) × PlaceFits (after pl a) (add_line pl (line_after e a w v) ps)
unfolding phase_of
orders_made e f None w v Outside ps h fits placed o =
    let m = made_line e None w v 1 (lit< tt) o in
    let p : Phase = phase_of 1 (line_after e None w v ∷ []) in
    (phase_more f ps (flat e) (Orders None w v ∷ flat e) p h (record { some = omega arith; few = omega arith; is = refl; lines = (w, v, m, refl) }), last_more 1 ps p refl)
orders_made e f (Some k) w v Outside ps h fits placed o = absurd cc
orders_made e f None w v Run ps h fits placed o =
    let l = line_after e None w v in
    (last_line f ps (flat e) 1 l w v h fits (made_line e None w v 1 (lit< tt) o), last_kept 1 l ps fits)
orders_made e f (Some k) w v Run ps h fits placed o = absurd cc
orders_made e f None w v (Block n) ps h fits placed o = absurd cc
orders_made e f (Some k) w v (Block n) ps h fits placed o =
    let l = line_after e (Some k) w v in
    let lt : k < n = ltb-true k n (not_false (ltb k n) placed) in
    (last_line f ps (flat e) n l w v h fits (made_line e (Some k) w v n lt o), last_kept n l ps fits)

abbrev Made : List Sentence → Type 0
Made e = PhasesFrom (decls e) (phases_of e) (flat e) × PlaceFits (place_of e) (phases_of e)

phases_skip : (e : List Sentence) → Made e → Made (Skipped ∷ e)
unfolding phases_of place_of
phases_skip e h = h

phases_declare : (e : List Sentence) (w : DeclarationWord) (v : List Value) → Calm e → Made (Declares w v ∷ e)
unfolding phases_of place_of
phases_declare e w v c = (
  subst (λ (ps : List Phase). PhasesFrom (Declares w (normal w v) ∷ decls e) ps (Declares w (normal w v) ∷ flat e)) (sym c.phases)
      (ap (λ (x : List Sentence). Declares w (normal w v) ∷ x) (sym c.flat_is)),
  subst (λ (x : Place). PlaceFits x (phases_of e)) (sym c.place) tt,
)

phases_open : (e : List Sentence) (n : ℕ) → PhasesFrom (decls e) (phases_of e ++ phase_of n [] ∷ []) (flat e) → LastHas n (phases_of e ++ phase_of n [] ∷ []) → Made (Opens n ∷ e)
unfolding phases_of place_of
phases_open e n h last = (h, last)

phases_end : (e : List Sentence) → PhasesFrom (decls e) (phases_of e) (flat e) → Made (Ends ∷ e)
unfolding phases_of place_of
phases_end e h = (h, tt)

pub phases_made : (version : ℕ) (e : List Sentence) → Accepted version e → Made e
unfolding phases_of place_of phase_of cause declaration_why
phases_made version [] h = (refl, tt)
phases_made version (Skipped ∷ e) h = phases_skip e (phases_made version e h.1)
phases_made version (Declares w v ∷ e) h =
    let started = when_none (is_started e) why.Late _ h.0.fine in
    let c = not_started e started.0 in
    phases_declare e w v c
phases_made version (Orders a w v ∷ e) h =
    let before_it = phases_made version e h.1 in
    let p = order_facts e h.0.last a w v h.0.fine in
    let m = orders_made e (decls e) a w v (place_of e) (phases_of e) before_it.0 before_it.1 p.place (ordered_flat e a w v h.0.fits p) in
    (m.0, subst (λ (x : Place). PlaceFits x (add_line (place_of e) (line_after e a w v) (phases_of e))) (sym (place_after e a w v)) m.1)
phases_made version (Opens n ∷ e) h =
    let before_it = phases_made version e h.1 in
    let p : Phase = phase_of n [] in
    phases_open e n (phase_more (decls e) (phases_of e) (flat e) (flat e) p before_it.0 (record { some = h.0.fits.0; few = h.0.fits.1; is = refl; lines = refl })) (last_more n (phases_of e) p refl)
phases_made version (Ends ∷ e) h = phases_end e (phases_made version e h.1).0
