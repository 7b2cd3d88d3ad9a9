-- Commands are numbered one after another, and there are not too many.
use Rattle.std.proofs.Common.{◌≡◌, ℕ, suc, ◌+◌, ◌≤◌, Bool, true, false, cond, ◌&&◌, leb, List, [], ◌∷◌, ◌++◌, length, filter, Option, Some, None, refl, sym, ap, subst, ◌∙◌, append_assoc, length-append, arith}
use Rattle.std.proofs.lemmas.Bool.{leb-false}
use Rattle.std.proofs.lemmas.List.{append-nil}
use Rattle.std.proofs.lemmas.List.Elements.{filter-append}
use Rattle.text_fields.specs.declared.value.Value.{Value}
use Rattle.scen_words.specs.declared.limits.TheConstants.{MAX_COMMANDS, MAX_TURNS}
use Rattle.scen_words.specs.declared.sentence.Sentence.{Sentence}
use Rattle.scen_words.specs.declared.sentence.Sentence.TheVariants.{Skipped, Declares, Orders, Opens, Ends}
use Rattle.scen_words.specs.declared.word.CommandWord.{CommandWord}
use Rattle.scen_words.specs.Commands.{is_turn}
use Rattle.scen_text.specs.declared.place.Place.{Place}
use Rattle.scen_text.specs.declared.place.Place.TheVariants.{Outside, Run, Block}
use Rattle.scen_text.specs.declared.scenario.Line.{Line}
use Rattle.scen_text.specs.declared.scenario.Phase.{Phase}
use Rattle.scen_text.specs.Before.{add_line, at_last, command_after, command_count, is_started, line_after, phase_of, phases_of, place_of, turn_count}
use Rattle.scen_text.specs.Refusals.{is_misplaced}
use Rattle.tap_sound.specs.Fresh.{AreNumbered, ArePhasesNumbered}
use Rattle.scen_laid.specs.Phases.{lines_of, turns_of}
use Rattle.scen_laid.proofs.Histories.{Accepted, was_ordered}

-- ---- the last phase

-- there is a phase, and the last one has so many actors
abbrev pub LastHas : ℕ → List Phase → Type 0
LastHas n [] = ⊥
LastHas n (p ∷ []) = p.actors ≡ n
LastHas n (p ∷ q ∷ ps) = LastHas n (q ∷ ps)

last_more : (n : ℕ) (ps : List Phase) (p : Phase) → p.actors ≡ n → LastHas n (ps ++ p ∷ [])
last_more n [] p e = e
last_more n (q ∷ []) p e = e
last_more n (q ∷ r ∷ ps) p e = last_more n (r ∷ ps) p e

last_kept : (n : ℕ) (l : Line) (ps : List Phase) → LastHas n ps → LastHas n (at_last l ps)
unfolding at_last phase_of
last_kept n l [] h = absurd h
last_kept n l (p ∷ []) h = h
last_kept n l (p ∷ q ∷ []) h = h
last_kept n l (p ∷ q ∷ r ∷ ps) h = last_kept n l (q ∷ r ∷ ps) h

-- what is open has the last phase
abbrev pub PlaceFits : Place → List Phase → Type 0
PlaceFits Outside ps = Unit {0}
PlaceFits Run ps = LastHas 1 ps
PlaceFits (Block n) ps = LastHas n ps

-- ---- a line more

lines_behind : (ps : List Phase) (p : Phase) → lines_of (ps ++ p ∷ []) ≡ lines_of ps ++ p.lines
lines_behind [] p = append-nil p.lines
lines_behind (q ∷ ps) p = ap (λ (x : List Line). q.lines ++ x) (lines_behind ps p) ∙ sym (append_assoc q.lines (lines_of ps) p.lines)

lines_at_last : (l : Line) (ps : List Phase) (n : ℕ) → LastHas n ps → lines_of (at_last l ps) ≡ lines_of ps ++ l ∷ []
unfolding at_last phase_of
lines_at_last l [] n h = absurd h
lines_at_last l (p ∷ []) n h = append-nil (p.lines ++ l ∷ []) ∙ sym (ap (λ (x : List Line). x ++ l ∷ []) (append-nil p.lines))
lines_at_last l (p ∷ q ∷ ps) n h = ap (λ (x : List Line). p.lines ++ x) (lines_at_last l (q ∷ ps) n h) ∙ sym (append_assoc p.lines (lines_of (q ∷ ps)) (l ∷ []))

line_more : (pl : Place) (l : Line) (ps : List Phase) → PlaceFits pl ps → lines_of (add_line pl l ps) ≡ lines_of ps ++ l ∷ []
unfolding phase_of
line_more Outside l ps h = lines_behind ps (phase_of 1 (l ∷ []))
line_more Run l ps h = lines_at_last l ps 1 h
line_more (Block n) l ps h = lines_at_last l ps n h

-- the place behind a command
abbrev after : Place → Option ℕ → Place
after pl None = Run
after pl (Some k) = pl

place_after : (e : List Sentence) (a : Option ℕ) (w : CommandWord) (v : List Value) → place_of (Orders a w v ∷ e) ≡ after (place_of e) a
unfolding place_of
place_after e None w v = refl
place_after e (Some k) w v = refl

place_more : (pl : Place) (a : Option ℕ) (l : Line) (ps : List Phase) → PlaceFits pl ps → is_misplaced pl a ≡ false → PlaceFits (after pl a) (add_line pl l ps)
unfolding phase_of
place_more Outside None l ps h placed = last_more 1 ps (phase_of 1 (l ∷ [])) refl
place_more Outside (Some k) l ps h placed = absurd (cc (placed))
place_more Run None l ps h placed = last_kept 1 l ps h
place_more Run (Some k) l ps h placed = absurd (cc (placed))
place_more (Block n) None l ps h placed = absurd (cc (placed))
place_more (Block n) (Some k) l ps h placed = last_kept n l ps h

-- ---- numbers and counts

numbered_more : (n : ℕ) (ls : List Line) (l : Line) → AreNumbered n ls → l.number ≡ n + length ls → AreNumbered n (ls ++ l ∷ [])
numbered_more n [] l h e = (omega (arith, e), tt)
numbered_more n (k ∷ ls) l h e = (h.0, numbered_more (n + 1) ls l h.1 (omega (arith, e)))

numbered_parts : (n : ℕ) (xs ys : List Line) → AreNumbered n (xs ++ ys) → AreNumbered n xs × AreNumbered (n + length xs) ys
numbered_parts n [] ys h = (tt, subst (λ (k : ℕ). AreNumbered k ys) (omega arith) h)
numbered_parts n (x ∷ xs) ys h =
    let p = numbered_parts (n + 1) xs ys h.1 in
    ((h.0, p.0), subst (λ (k : ℕ). AreNumbered k ys) (omega arith) p.1)

pub phases_numbered : (n : ℕ) (ps : List Phase) → AreNumbered n (lines_of ps) → ArePhasesNumbered n ps
phases_numbered n [] h = tt
phases_numbered n (p ∷ ps) h = let q = numbered_parts n p.lines (lines_of ps) h in (q.0, phases_numbered (n + length p.lines) ps q.1)

abbrev turns_in : List Line → ℕ
turns_in ls = length (filter (λ (l : Line). is_turn l.command) ls)

one_turn : (b : Bool) (l : Line) → length (cond b (l ∷ []) []) ≡ cond b 1 0
one_turn true l = refl
one_turn false l = refl

turns_more : (ls : List Line) (l : Line) → turns_in (ls ++ l ∷ []) ≡ turns_in ls + cond (is_turn l.command) 1 0
turns_more ls l =
    ap (λ (x : List Line). length x) (filter-append (λ (k : Line). is_turn k.command) ls (l ∷ []))
    ∙ length-append (filter (λ (k : Line). is_turn k.command) ls) (filter (λ (k : Line). is_turn k.command) (l ∷ []))
    ∙ ap (λ (n : ℕ). turns_in ls + n) (one_turn (is_turn l.command) l)

few_turns : (b : Bool) (n : ℕ) → n ≤ MAX_TURNS → (b && leb MAX_TURNS n) ≡ false → n + cond b 1 0 ≤ MAX_TURNS
few_turns true n h fine = let lt = leb-false MAX_TURNS n fine in omega (arith, lt)
few_turns false n h fine = omega (arith, h)

-- ---- all lines

pub record Lines (pl : Place) (ps : List Phase) (commands turns : ℕ) : Type 0 where
  pub place : PlaceFits pl ps
  pub numbers : AreNumbered 0 (lines_of ps)
  pub count : length (lines_of ps) ≡ commands
  pub turned : length (turns_of ps) ≡ turns
  pub few : commands ≤ MAX_COMMANDS
  pub few_turns : turns ≤ MAX_TURNS

order_more : (e : List Sentence) (a : Option ℕ) (w : CommandWord) (v : List Value) (pl : Place) (ps : List Phase) (commands turns : ℕ) (l : Line) → Lines pl ps commands turns → l.number ≡ commands
    → is_misplaced pl a ≡ false → leb MAX_COMMANDS commands ≡ false → (is_turn l.command && leb MAX_TURNS turns) ≡ false
    → Lines (after pl a) (add_line pl l ps) (commands + 1) (turns + cond (is_turn l.command) 1 0)
order_more e a w v pl ps commands turns l h number placed fine fine_turns =
    let more = line_more pl l ps h.place in
    let size : length (lines_of ps ++ l ∷ []) ≡ commands + 1 = length-append (lines_of ps) (l ∷ []) ∙ ap (λ (n : ℕ). n + 1) h.count in
    let lt = leb-false MAX_COMMANDS commands fine in
    let is : l.number ≡ 0 + length (lines_of ps) = let c = h.count in omega (arith, number, c) in
    record {
      place = place_more pl a l ps h.place placed;
      numbers = subst (λ (ls : List Line). AreNumbered 0 ls) (sym more) (numbered_more 0 (lines_of ps) l h.numbers is);
      count = ap (λ (ls : List Line). length ls) more ∙ size;
      turned = ap (λ (ls : List Line). turns_in ls) more ∙ turns_more (lines_of ps) l ∙ ap (λ (n : ℕ). n + cond (is_turn l.command) 1 0) h.turned;
      few = omega (arith, lt);
      few_turns = few_turns (is_turn l.command) turns h.few_turns fine_turns;
    }

-- nothing is open, and there are no phases, before the first command
pub record Calm (e : List Sentence) : Type 0 where
  pub phases : phases_of e ≡ []
  pub place : place_of e ≡ Outside

pub not_started : (e : List Sentence) → is_started e ≡ false → Calm e
unfolding is_started phases_of place_of
not_started [] h = record { phases = refl; place = refl }
not_started (Skipped ∷ e) h = let c = not_started e h in record { phases = c.phases; place = c.place }
not_started (Declares w v ∷ e) h = let c = not_started e h in record { phases = c.phases; place = c.place }
not_started (Orders a w v ∷ e) h = absurd cc
not_started (Opens n ∷ e) h = absurd cc
not_started (Ends ∷ e) h = absurd cc

opened_lines : (n : ℕ) (pl : Place) (ps : List Phase) (commands turns : ℕ) → Lines pl ps commands turns → Lines (Block n) (ps ++ phase_of n [] ∷ []) commands turns
unfolding phase_of
opened_lines n pl ps commands turns h =
    let same : lines_of (ps ++ phase_of n [] ∷ []) ≡ lines_of ps = lines_behind ps (phase_of n []) ∙ append-nil (lines_of ps) in
    record {
      place = last_more n ps (phase_of n []) refl;
      numbers = subst (λ (ls : List Line). AreNumbered 0 ls) (sym same) h.numbers;
      count = ap (λ (ls : List Line). length ls) same ∙ h.count;
      turned = ap (λ (ls : List Line). turns_in ls) same ∙ h.turned;
      few = h.few;
      few_turns = h.few_turns;
    }

ended_lines : (pl : Place) (ps : List Phase) (commands turns : ℕ) → Lines pl ps commands turns → Lines Outside ps commands turns
ended_lines pl ps commands turns h = record { place = tt; numbers = h.numbers; count = h.count; turned = h.turned; few = h.few; few_turns = h.few_turns }

no_lines : Lines Outside [] 0 0
no_lines = record { place = tt; numbers = tt; count = refl; turned = refl; few = omega arith; few_turns = omega arith }

abbrev pub Lines_of : List Sentence → Type 0
Lines_of e = Lines (place_of e) (phases_of e) (command_count e) (turn_count e)

pub lines_are : (version : ℕ) (e : List Sentence) → Accepted version e → Lines_of e
unfolding phases_of place_of command_count turn_count
lines_are version [] h = no_lines
lines_are version (Skipped ∷ e) h = lines_are version e h.1
lines_are version (Declares w v ∷ e) h = lines_are version e h.1
lines_are version (Orders a w v ∷ e) h =
    let o = was_ordered e h.0.last a w v h.0.fine in
    let more = order_more e a w v (place_of e) (phases_of e) (command_count e) (turn_count e) (line_after e a w v) (lines_are version e h.1) refl o.place o.commands o.turns in
    subst (λ (pl : Place). Lines pl (add_line (place_of e) (line_after e a w v) (phases_of e)) (command_count e + 1) (turn_count e + cond (is_turn (command_after e w v)) 1 0))
    (sym (place_after e a w v)) more
lines_are version (Opens n ∷ e) h = opened_lines n (place_of e) (phases_of e) (command_count e) (turn_count e) (lines_are version e h.1)
lines_are version (Ends ∷ e) h = ended_lines (place_of e) (phases_of e) (command_count e) (turn_count e) (lines_are version e h.1)

-- ---- there are no more phases than lines

same_count : (l : Line) (ps : List Phase) → length (at_last l ps) ≡ length ps
unfolding at_last
same_count l [] = refl
same_count l (p ∷ []) = refl
same_count l (p ∷ q ∷ ps) = ap suc (same_count l (q ∷ ps))

one_count : (pl : Place) (l : Line) (ps : List Phase) → length (add_line pl l ps) ≤ suc (length ps)
one_count Outside l ps = let h = length-append ps (phase_of 1 (l ∷ []) ∷ []) in omega (arith, h)
one_count Run l ps = let h = same_count l ps in omega (arith, h)
one_count (Block n) l ps = let h = same_count l ps in omega (arith, h)

pub few_phases : (e : List Sentence) → length (phases_of e) ≤ length e
unfolding phases_of
few_phases [] = omega arith
few_phases (Skipped ∷ e) = let h = few_phases e in omega (arith, h)
few_phases (Declares w v ∷ e) = let h = few_phases e in omega (arith, h)
few_phases (Orders a w v ∷ e) =
    let h = few_phases e in
    let k = one_count (place_of e) (line_after e a w v) (phases_of e) in
    omega (arith, h, k)
few_phases (Opens n ∷ e) =
    let h = few_phases e in
    let k = length-append (phases_of e) (phase_of n [] ∷ []) in
    omega (arith, h, k)
few_phases (Ends ∷ e) = let h = few_phases e in omega (arith, h)
