-- The printed lines are taken one after another, and none is refused.
use Rattle.std.proofs.Common.{◌≡◌, ℕ, suc, Bool, true, false, cond, ◌&&◌, ◌||◌, not, List, [], ◌∷◌, ◌++◌, Option, Some, None, Result, Ok, Err, refl, sym, ap, ◌∙◌, append_assoc}
use Rattle.std.specs.Prelude.{unwrap_or}
use Rattle.std.specs.List.{list_all}
use Rattle.std.specs.Option.{IfSome}
use Rattle.std.proofs.lemmas.Bool.{and_from, and_parts}
use Rattle.std.proofs.lemmas.List.{append-nil}
use Rattle.text_fields.specs.declared.value.Value.{Value}
use Rattle.text_fields.specs.Forms.{FitForm, fields_for}
use Rattle.text_fields.specs.Lines.{is_text_line}
use Rattle.scen_text.specs.declared.fault.ScenFault.{ScenFault}
use Rattle.scen_words.specs.declared.fault.Why.{Why}
use Rattle.scen_words.specs.declared.fault.Why.TheVariants as why
use Rattle.scen_words.specs.declared.declaration.Declaration.{Declaration}
use Rattle.scen_text.specs.declared.scenario.Line.{Line}
use Rattle.scen_text.specs.declared.scenario.Phase.{Phase}
use Rattle.scen_words.specs.declared.sentence.Sentence.{Sentence}
use Rattle.scen_words.specs.declared.sentence.Sentence.TheVariants.{Orders}
use Rattle.scen_words.specs.declared.word.CommandWord.{CommandWord}
use Rattle.scen_text.specs.Before.{before, command_after, command_count, declarations_of, line_after, names_of, number_among, number_for, place_of, turn_count, with_name}
use Rattle.scen_words.specs.Commands.{command_of, command_values, commanded_name, name_of}
use Rattle.tap_ground.specs.Lists.{is_nil}
use Rattle.scen_text.specs.Refusals.{cause, command_why, is_block, is_misplaced, is_unknown, passes_limit, said_from}
use Rattle.scen_words.specs.Laws.{ActorsAreReadAgain, CommandsAreReadAgain, DeclarationValuesAreKept, DeclarationWordsAreKept, DeclarationsAreReadAgain, EndingsAreReadAgain, OpeningsAreReadAgain, ValuesAreKept, WordsAreKept}
use Rattle.scen_words.specs.Rows.{command_row}
use Rattle.scen_words.specs.Sentences.{sentence_of}
use Rattle.scen_words.specs.Words.{command_form, command_spelling}
use Rattle.scen_text.proofs.Flat.{Ordered, flat, flat_count, flat_declarations, flat_names, flat_turns}
use Rattle.scen_text.proofs.Made.{Grows, LinesFrom, PhasesFrom, grows_trans, named_at, with_grows}
use Rattle.scen_text.proofs.MadeAll.{line_flat}

-- what the crate below says of words and lines
pub record Laws : Type 0 where
  pub words : WordsAreKept
  pub values : ValuesAreKept
  pub declaration_words : DeclarationWordsAreKept
  pub declaration_values : DeclarationValuesAreKept
  pub commands : CommandsAreReadAgain
  pub actors : ActorsAreReadAgain
  pub declarations : DeclarationsAreReadAgain
  pub openings : OpeningsAreReadAgain
  pub endings : EndingsAreReadAgain

abbrev Histories : Type 0
Histories = Result (List Sentence) ScenFault

-- ---- lines that are taken

-- from one history to another, whatever comes behind them
pub record Played (version : ℕ) (h : List Sentence) (lines : List (List ℕ)) (g : List Sentence) : Type 0 where
  pub text : list_all is_text_line lines ≡ true
  pub runs : (n : ℕ) (more : List (List ℕ)) → (m : ℕ) × (said_from version h n (lines ++ more) ≡ said_from version g m more)

by_text : (b : Bool) (r : Result Sentence Why) (s : Sentence) → cond (not b) (Err why.NotText) r ≡ Ok s → b ≡ true
by_text true r s e = refl
by_text false r s e = absurd cc

has_text : (line : List ℕ) (s : Sentence) (version : ℕ) → sentence_of version line ≡ Ok s → is_text_line line ≡ true
unfolding sentence_of
has_text line s version e = by_text (is_text_line line) _ s e

pub nothing : (version : ℕ) (h : List Sentence) → Played version h [] h
nothing version h = record { text = refl; runs = λ n more. (n, refl) }

all_more : (xs ys : List (List ℕ)) → list_all is_text_line xs ≡ true → list_all is_text_line ys ≡ true → list_all is_text_line (xs ++ ys) ≡ true
all_more [] ys h k = k
all_more (x ∷ xs) ys h k = let p = and_parts (is_text_line x) (list_all is_text_line xs) h in and_from (is_text_line x) (list_all is_text_line (xs ++ ys)) p.0 (all_more xs ys p.1 k)

pub then_more : (version : ℕ) (h g k : List Sentence) (xs ys : List (List ℕ)) → Played version h xs g → Played version g ys k → Played version h (xs ++ ys) k
then_more version h g k xs ys p q = record {
  text = all_more xs ys p.text q.text;
  runs = λ n more.
      let a = p.runs n (ys ++ more) in
      let b = q.runs a.0 more in
      (b.0, ap (said_from version h n) (append_assoc xs ys more) ∙ a.1 ∙ b.1);
}

one_step : (version : ℕ) (h : List Sentence) (n : ℕ) (line : List ℕ) (s : Sentence) (rest : List (List ℕ)) → sentence_of version line ≡ Ok s → cause (before h) (is_nil rest) s ≡ None
    → said_from version h n (line ∷ rest) ≡ said_from version (s ∷ h) (suc n) rest
unfolding said_from
one_step version h n line s rest said none = rw (said, none) refl

pub one_line : (version : ℕ) (h : List Sentence) (line : List ℕ) (s : Sentence) → sentence_of version line ≡ Ok s → ((last : Bool) → cause (before h) last s ≡ None) → Played version h (line ∷ []) (s ∷ h)
one_line version h line s said none = record {
  text = and_from (is_text_line line) true (has_text line s version said) refl;
  runs = λ n more. (suc n, one_step version h n line s more said (none (is_nil more)));
}

-- a line that isn't the last
pub front_line : (version : ℕ) (h g : List Sentence) (line next : List ℕ) (s : Sentence) (lines : List (List ℕ)) → sentence_of version line ≡ Ok s → cause (before h) false s ≡ None
    → Played version (s ∷ h) (next ∷ lines) g → Played version h (line ∷ next ∷ lines) g
front_line version h g line next s lines said none p = record {
  text = and_from (is_text_line line) (list_all is_text_line (next ∷ lines)) (has_text line s version said) p.text;
  runs = λ n more. let a = p.runs (suc n) more in (a.0, one_step version h n line s (next ∷ (lines ++ more)) said none ∙ a.1);
}

-- ---- what a command is written as

pub lines_grow : (f : List Sentence) (actors : ℕ) (ls : List Line) (g : List Sentence) → LinesFrom f actors ls g → Grows (names_of f) (names_of g)
unfolding names_of
lines_grow f actors [] g e = ([], sym (append-nil (names_of f) ∙ ap names_of e))
lines_grow f actors (l ∷ ls) g h =
    grows_trans (names_of f) (with_name (names_of f) (commanded_name h.0 h.1)) (names_of g) (with_grows (names_of f) (commanded_name h.0 h.1)) (lines_grow (Orders None h.0 h.1 ∷ f) actors ls g h.3)

pub phases_grow : (f : List Sentence) (ps : List Phase) (g : List Sentence) → PhasesFrom f ps g → Grows (names_of f) (names_of g)
phases_grow f [] g e = ([], sym (append-nil (names_of f) ∙ ap names_of e))
phases_grow f (p ∷ ps) g h = grows_trans (names_of f) (names_of h.0) (names_of g) (lines_grow f p.actors p.lines h.0 h.1.lines) (phases_grow h.0 ps g h.2)

pub kept_name : (ns final : List (List ℕ)) (o : Option (List ℕ)) → IfSome o (λ name. name_of final (number_among ns name) ≡ name) → IfSome o (λ name. name_of final (number_for ns o) ≡ name)
kept_name ns final None h = tt
kept_name ns final (Some name) h = h

abbrev pub row_of : CommandWord → List Value → List (List ℕ)
row_of w v = command_spelling w ∷ fields_for (command_form w) v

pub command_written : Laws → (final : List (List ℕ)) (f : List Sentence) (w : CommandWord) (v : List Value) → FitForm (command_form w) v → Grows (with_name (names_of f) (commanded_name w v)) final
    → command_row final (command_after f w v) ≡ row_of w v
command_written laws final f w v fits grows =
    let n = number_for (names_of f) (commanded_name w v) in
    let word = laws.words n w v in
    let values = laws.values final n w v fits (kept_name (names_of f) final (commanded_name w v) (named_at (names_of f) final (commanded_name w v) grows)) in
    ap (λ (x : CommandWord). command_spelling x ∷ fields_for (command_form x) (command_values final (command_of n w v))) word ∙ ap (λ (x : List Value). row_of w x) values

-- ---- what isn't refused behind a history that is flat the same

pub record Allowed (h : List Sentence) (w : CommandWord) (v : List Value) : Type 0 where
  pub known : is_unknown (declarations_of h) (command_after h w v) ≡ false
  pub limit : passes_limit (command_count h) (turn_count h) (names_of h) (commanded_name w v) (command_after h w v) ≡ false

pub allowed : (h f : List Sentence) (w : CommandWord) (v : List Value) → flat h ≡ f → Ordered f w v → Allowed h w v
allowed h f w v same o =
    let names : names_of f ≡ names_of h = ap names_of (sym same) ∙ flat_names h in
    let ds : declarations_of f ≡ declarations_of h = ap declarations_of (sym same) ∙ flat_declarations h in
    let count : command_count f ≡ command_count h = ap command_count (sym same) ∙ flat_count h in
    let turns : turn_count f ≡ turn_count h = ap turn_count (sym same) ∙ flat_turns h in
    record {
      known = sym (ap (λ (ns : List (List ℕ)). is_unknown (declarations_of f) (command_of (number_for ns (commanded_name w v)) w v)) names
          ∙ ap (λ (d : List Declaration). is_unknown d (command_after h w v)) ds) ∙ o.known;
      limit = sym (ap (λ (ns : List (List ℕ)). passes_limit (command_count f) (turn_count f) ns (commanded_name w v) (command_of (number_for ns (commanded_name w v)) w v)) names
          ∙ ap (λ (n : ℕ). passes_limit n (turn_count f) (names_of h) (commanded_name w v) (command_after h w v)) count
          ∙ ap (λ (n : ℕ). passes_limit (command_count h) n (names_of h) (commanded_name w v) (command_after h w v)) turns) ∙ o.limit;
    }

misplaced_none : (misplaced last block : Bool) → misplaced ≡ false → (last && block) ≡ false → (misplaced || (last && block)) ≡ false
misplaced_none misplaced last block p q = rw (p, q) refl

pub order_none : (h : List Sentence) (last : Bool) (a : Option ℕ) (w : CommandWord) (v : List Value) → Allowed h w v → (is_misplaced (place_of h) a || (last && is_block (place_of h))) ≡ false
    → cause (before h) last (Orders a w v) ≡ None
unfolding cause command_why
order_none h last a w v ok placed = rw (ok.known, placed, ok.limit) refl

-- a line as it is made again
pub line_again : (h f : List Sentence) (a : Option ℕ) (l : Line) (w : CommandWord) (v : List Value) → flat h ≡ f → l ≡ line_after f (Some l.actor) w v → unwrap_or a 0 ≡ l.actor → line_after h a w v ≡ l
line_again h f a l w v same is actor =
    line_flat h a w v ∙ ap (λ (x : List Sentence). line_after x (Some (unwrap_or a 0)) w v) same ∙ ap (λ (k : ℕ). line_after f (Some k) w v) actor ∙ sym is
