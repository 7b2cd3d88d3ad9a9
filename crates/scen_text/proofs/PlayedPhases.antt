-- The printed phases are taken one after another.
use Rattle.std.proofs.Common.{◌≡◌, ℕ, ◌<◌, ◌≤◌, Bool, true, false, ◌&&◌, ◌||◌, List, [], ◌∷◌, ◌++◌, map, Option, Some, None, Ok, refl, sym, ap, subst, ◌∙◌, append_assoc, arith}
use Rattle.std.specs.Prelude.{unwrap_or}
use Rattle.std.specs.Fmt.{decimal}
use Rattle.text_fields.specs.Forms.{FitForm}
use Rattle.scen_words.specs.Words.{command_form}
use Rattle.std.proofs.lemmas.Bool.{lt-ltb}
use Rattle.std.proofs.lemmas.List.{append-nil}
use Rattle.text_fields.specs.declared.value.Value.{Value}
use Rattle.text_fields.specs.Lines.{line_of}
use Rattle.scen_text.specs.declared.place.Place.{Place}
use Rattle.scen_text.specs.declared.place.Place.TheVariants.{Outside, Run, Block}
use Rattle.scen_text.specs.declared.scenario.Line.{Line}
use Rattle.scen_text.specs.declared.scenario.Phase.{Phase}
use Rattle.scen_words.specs.declared.sentence.Sentence.{Sentence}
use Rattle.scen_words.specs.declared.sentence.Sentence.TheVariants.{Orders, Ends}
use Rattle.scen_words.specs.declared.word.CommandWord.{CommandWord}
use Rattle.scen_text.specs.Before.{add_line, at_last, before, line_after, names_of, phase_of, phases_of, place_of, with_name}
use Rattle.scen_words.specs.Commands.{commanded_name}
use Rattle.scen_text.specs.Refusals.{cause, is_block, is_misplaced}
use Rattle.scen_words.specs.Rows.{command_row}
use Rattle.scen_text.specs.ScenarioText.{actor_row, bare_row, ending_row}
use Rattle.scen_words.specs.Sentences.{sentence_of}
use Rattle.scen_text.proofs.Flat.{flat}
use Rattle.scen_text.proofs.Made.{Grows, LinesFrom, MadeLine, grows_trans}
use Rattle.scen_text.proofs.Played.{Laws, Played, allowed, command_written, front_line, line_again, lines_grow, nothing, one_line, order_none, row_of, then_more}

-- what a history is, flat, where it stands, and its phases
pub record Shows (h f : List Sentence) (pl : Place) (ps : List Phase) : Type 0 where
  pub flat_is : flat h ≡ f
  pub place : place_of h ≡ pl
  pub phases : phases_of h ≡ ps

at_last_pre : (l : Line) (pre : List Phase) (n : ℕ) (done : List Line) → at_last l (pre ++ phase_of n done ∷ []) ≡ pre ++ phase_of n (done ++ l ∷ []) ∷ []
unfolding at_last phase_of
at_last_pre l [] n done = refl
at_last_pre l (q ∷ []) n done = refl
at_last_pre l (q ∷ r ∷ pre) n done = ap (λ (x : List Phase). q ∷ x) (at_last_pre l (r ∷ pre) n done)

-- one line more in the last phase
shows_line : (h f : List Sentence) (a : Option ℕ) (pl : Place) (pre : List Phase) (n : ℕ) (done : List Line) (l : Line) (w : CommandWord) (v : List Value)
    → ((line : Line) (ps : List Phase) → add_line pl line ps ≡ at_last line ps) → Shows h f pl (pre ++ phase_of n done ∷ []) → l ≡ line_after f (Some l.actor) w v → unwrap_or a 0 ≡ l.actor
    → phases_of (Orders a w v ∷ h) ≡ pre ++ phase_of n (done ++ l ∷ []) ∷ []
unfolding phases_of
shows_line h f a pl pre n done l w v inside s is actor =
    ap (λ (p : Place). add_line p (line_after h a w v) (phases_of h)) s.place ∙ inside (line_after h a w v) (phases_of h)
    ∙ ap (λ (ps : List Phase). at_last (line_after h a w v) ps) s.phases ∙ ap (λ (x : Line). at_last x (pre ++ phase_of n done ∷ [])) (line_again h f a l w v s.flat_is is actor)
    ∙ at_last_pre l pre n done

pub row_is : Laws → (final : List (List ℕ)) (f g : List Sentence) (actors : ℕ) (l : Line) (w : CommandWord) (v : List Value) (ls : List Line) → MadeLine f actors l w v → LinesFrom (Orders None w v ∷ f) actors ls g
    → Grows (names_of g) final → command_row final l.command ≡ row_of w v
unfolding names_of
row_is laws final f g actors l w v ls m rest grows =
    let grown : Grows (with_name (names_of f) (commanded_name w v)) final = grows_trans (with_name (names_of f) (commanded_name w v)) (names_of g) final (lines_grow (Orders None w v ∷ f) actors ls g rest) grows in
    ap (λ (x : Line). command_row final x.command) m.is ∙ command_written laws final f w v m.ordered.fits grown

and_false : (b : Bool) → (b && false) ≡ false
and_false true = refl
and_false false = refl

-- ---- outside blocks

pub free : (h : List Sentence) (last : Bool) → is_block (place_of h) ≡ false → (is_misplaced (place_of h) None || (last && is_block (place_of h))) ≡ false
free h last e = rw (e, and_false last) refl

pub bare_said : Laws → (version : ℕ) (final : List (List ℕ)) (l : Line) (w : CommandWord) (v : List Value) → command_row final l.command ≡ row_of w v → FitForm (command_form w) v → sentence_of version (line_of (bare_row final l)) ≡ Ok (Orders None w v)
bare_said laws version final l w v row fits = ap (λ (r : List (List ℕ)). sentence_of version (line_of r)) row ∙ laws.commands version w v fits

pub none_is : (k : ℕ) → k < 1 → 0 ≡ k
none_is k h = omega arith

pub record Reaches (version : ℕ) (h : List Sentence) (lines : List (List ℕ)) (g : List Sentence) (pl : Place) (ps : List Phase) : Type 0 where
  pub to : List Sentence
  pub played : Played version h lines to
  pub shows : Shows to g pl ps

in_run : (line : Line) (ps : List Phase) → add_line Run line ps ≡ at_last line ps
in_run line ps = refl

in_block : (n : ℕ) (line : Line) (ps : List Phase) → add_line (Block n) line ps ≡ at_last line ps
in_block n line ps = refl

pub run_place : (w : CommandWord) (v : List Value) (h : List Sentence) → place_of (Orders None w v ∷ h) ≡ Run
unfolding place_of
run_place w v h = refl

actor_place : (k : ℕ) (w : CommandWord) (v : List Value) (h : List Sentence) → place_of (Orders (Some k) w v ∷ h) ≡ place_of h
unfolding place_of
actor_place k w v h = refl

pub run_play : Laws → (version : ℕ) (final : List (List ℕ)) (pre : List Phase) (done ls : List Line) (h f g : List Sentence) → Shows h f Run (pre ++ phase_of 1 done ∷ []) → LinesFrom f 1 ls g
    → Grows (names_of g) final → Reaches version h (map line_of (map (bare_row final) ls)) g Run (pre ++ phase_of 1 (done ++ ls) ∷ [])
run_play laws version final pre done [] h f g s e grows = record {
  to = h;
  played = nothing version h;
  shows = record { flat_is = s.flat_is ∙ e; place = s.place; phases = s.phases ∙ ap (λ (x : List Line). pre ++ phase_of 1 x ∷ []) (sym (append-nil done)) };
}
run_play laws version final pre done (l ∷ ls) h f g s lines grows =
    let w = lines.0 in
    let v = lines.1 in
    let m = lines.2 in
    let actor = none_is l.actor m.actor in
    let row = row_is laws final f g 1 l w v ls m lines.3 grows in
    let block : is_block (place_of h) ≡ false = ap is_block s.place in
    let first = one_line version h (line_of (bare_row final l)) (Orders None w v) (bare_said laws version final l w v row m.ordered.fits)
    (λ last. order_none h last None w v (allowed h f w v s.flat_is m.ordered) (free h last block)) in
    let here : Shows (Orders None w v ∷ h) (Orders None w v ∷ f) Run (pre ++ phase_of 1 (done ++ l ∷ []) ∷ []) = record {
      flat_is = ap (λ (x : List Sentence). Orders None w v ∷ x) s.flat_is;
      place = run_place w v h;
      phases = shows_line h f None Run pre 1 done l w v in_run s m.is actor;
    } in
    let rest = run_play laws version final pre (done ++ l ∷ []) ls (Orders None w v ∷ h) (Orders None w v ∷ f) g here lines.3 grows in
    record {
      to = rest.to;
      played = then_more version h (Orders None w v ∷ h) rest.to (line_of (bare_row final l) ∷ []) (map line_of (map (bare_row final) ls)) first rest.played;
      shows = record {
        flat_is = rest.shows.flat_is;
        place = rest.shows.place;
        phases = rest.shows.phases ∙ ap (λ (x : List Line). pre ++ phase_of 1 x ∷ []) (append_assoc done (l ∷ []) ls);
      };
    }

-- ---- blocks

pub record Cons (xs : List (List ℕ)) : Type 0 where
  pub first : List ℕ
  pub others : List (List ℕ)
  pub is : xs ≡ first ∷ others

abbrev pub inner : List (List ℕ) → List Line → List (List ℕ)
inner final ls = map line_of (map (actor_row final) ls ++ ending_row ∷ [])

pub some_inner : (final : List (List ℕ)) (ls : List Line) → Cons (inner final ls)
some_inner final [] = record { first = line_of ending_row; others = []; is = refl }
some_inner final (l ∷ ls) = record { first = line_of (actor_row final l); others = inner final ls; is = refl }

pub before_more : (version : ℕ) (h g : List Sentence) (line : List ℕ) (s : Sentence) (lines : List (List ℕ)) → Cons lines → sentence_of version line ≡ Ok s → cause (before h) false s ≡ None
    → Played version (s ∷ h) lines g → Played version h (line ∷ lines) g
before_more version h g line s lines c said none p =
    subst (λ (xs : List (List ℕ)). Played version h (line ∷ xs) g) (sym c.is)
    (front_line version h g line c.first s c.others said none (subst (λ (xs : List (List ℕ)). Played version (s ∷ h) xs g) c.is p))

end_none : (h : List Sentence) (n : ℕ) (last : Bool) → place_of h ≡ Block n → cause (before h) last Ends ≡ None
unfolding cause
end_none h n last e = rw e refl

end_shows : (h g : List Sentence) (ps : List Phase) → flat h ≡ g → phases_of h ≡ ps → Shows (Ends ∷ h) g Outside ps
unfolding place_of phases_of
end_shows h g ps a b = record { flat_is = a; place = refl; phases = b }

in_place : (h : List Sentence) (n k : ℕ) → place_of h ≡ Block n → k < n → (is_misplaced (place_of h) (Some k) || (false && is_block (place_of h))) ≡ false
in_place h n k e lt = rw (e, lt-ltb k n lt) refl

pub block_play : Laws → (version : ℕ) (final : List (List ℕ)) (n : ℕ) → n ≤ 16 → (pre : List Phase) (done ls : List Line) (h f g : List Sentence) → Shows h f (Block n) (pre ++ phase_of n done ∷ [])
    → LinesFrom f n ls g → Grows (names_of g) final → Reaches version h (inner final ls) g Outside (pre ++ phase_of n (done ++ ls) ∷ [])
block_play laws version final n few pre done [] h f g s e grows = record {
  to = Ends ∷ h;
  played = one_line version h (line_of ending_row) Ends (laws.endings version) (λ last. end_none h n last s.place);
  shows = end_shows h g (pre ++ phase_of n (done ++ []) ∷ []) (s.flat_is ∙ e) (s.phases ∙ ap (λ (x : List Line). pre ++ phase_of n x ∷ []) (sym (append-nil done)));
}
block_play laws version final n few pre done (l ∷ ls) h f g s lines grows =
    let w = lines.0 in
    let v = lines.1 in
    let m = lines.2 in
    let lt = m.actor in
    let row = row_is laws final f g n l w v ls m lines.3 grows in
    let said : sentence_of version (line_of (actor_row final l)) ≡ Ok (Orders (Some l.actor) w v) =
    ap (λ (r : List (List ℕ)). sentence_of version (line_of ((64 ∷ decimal l.actor) ∷ r))) row ∙ laws.actors version l.actor w v (omega arith) m.ordered.fits in
    let none = order_none h false (Some l.actor) w v (allowed h f w v s.flat_is m.ordered) (in_place h n l.actor s.place lt) in
    let here : Shows (Orders (Some l.actor) w v ∷ h) (Orders None w v ∷ f) (Block n) (pre ++ phase_of n (done ++ l ∷ []) ∷ []) = record {
      flat_is = ap (λ (x : List Sentence). Orders None w v ∷ x) s.flat_is;
      place = actor_place l.actor w v h ∙ s.place;
      phases = shows_line h f (Some l.actor) (Block n) pre n done l w v (in_block n) s m.is refl;
    } in
    let rest = block_play laws version final n few pre (done ++ l ∷ []) ls (Orders (Some l.actor) w v ∷ h) (Orders None w v ∷ f) g here lines.3 grows in
    record {
      to = rest.to;
      played = before_more version h rest.to (line_of (actor_row final l)) (Orders (Some l.actor) w v) (inner final ls) (some_inner final ls) said none rest.played;
      shows = record {
        flat_is = rest.shows.flat_is;
        place = rest.shows.place;
        phases = rest.shows.phases ∙ ap (λ (x : List Line). pre ++ phase_of n x ∷ []) (append_assoc done (l ∷ []) ls);
      };
    }
