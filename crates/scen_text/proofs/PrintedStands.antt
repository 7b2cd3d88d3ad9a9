-- A printed scenario stands for itself.
use Rattle.std.proofs.Common.{◌≡◌, ℕ, ◌≤◌, Bool, true, false, cond, not, eqb, ltb, List, [], ◌∷◌, ◌++◌, length, map, None, Result, Ok, Err, refl, sym, ap, subst, ◌∙◌, append_assoc, arith}
use Rattle.std.specs.Prelude.{codes}
use Rattle.std.specs.Fmt.{decimal}
use Rattle.std.specs.List.{list_all}
use Rattle.std.specs.Str.{bytes_eq}
use Rattle.std.proofs.lemmas.Bool.{and_from, and_parts, le-ltb, eqb-true}
use Rattle.std.proofs.lemmas.Fmt.{decimal_digit}
use Rattle.std.proofs.lemmas.List.{append-nil, map-append}
use Rattle.text_fields.specs.declared.value.Value.{Value}
use Rattle.text_fields.specs.Forms.{fields_for}
use Rattle.text_fields.specs.Laws.{LinesAreCutAgain}
use Rattle.scen_words.specs.Laws.{SentencesFit}
use Rattle.text_fields.specs.Lines.{is_text_line, line_of, lines_of, text_of}
use Rattle.scen_text.specs.declared.fault.ScenFault.{ScenFault}
use Rattle.scen_words.specs.declared.fault.Why.{Why}
use Rattle.scen_words.specs.declared.fault.Why.TheVariants as why
use Rattle.scen_text.specs.declared.place.Place.{Place}
use Rattle.scen_text.specs.declared.place.Place.TheVariants.{Outside, Run, Block}
use Rattle.scen_words.specs.declared.declaration.Declaration.{Declaration}
use Rattle.scen_text.specs.declared.scenario.Line.{Line}
use Rattle.scen_text.specs.declared.scenario.Phase.{Phase}
use Rattle.scen_text.specs.declared.scenario.Scenario.{Scenario}
use Rattle.scen_words.specs.declared.sentence.Sentence.{Sentence}
use Rattle.scen_words.specs.declared.sentence.Sentence.TheVariants.{Skipped, Declares, Orders, Opens, Ends}
use Rattle.scen_words.specs.declared.word.CommandWord.{CommandWord}
use Rattle.scen_words.specs.declared.word.DeclarationWord.{DeclarationWord}
use Rattle.scen_text.specs.Before.{add_line, before, declarations_of, line_after, names_of, number_for, phase_of, phases_of, place_of, with_name}
use Rattle.scen_words.specs.Commands.{declaration_of, declaration_values, declared_name, normal}
use Rattle.scen_words.specs.Field.{line, text}
use Rattle.scen_words.specs.declared.limits.TheConstants.{MAX_BYTES}
use Rattle.tap_ground.specs.Results.{◌>>=◌}
use Rattle.scen_text.specs.Refusals.{Said, at_line, cause, is_block, said_from, said_in, said_of, said_of_lines}
use Rattle.scen_text.specs.Scenario.{Stands, scenario_of}
use Rattle.scen_text.specs.ScenarioLaws.{PrintedStands}
use Rattle.scen_words.specs.Rows.{declaration_row}
use Rattle.scen_text.specs.ScenarioText.{bare_row, block_rows, is_bare, opening_row, phase_rows, phases_rows, scenario_text}
use Rattle.scen_words.specs.Sentences.{sentence_of, version_of}
use Rattle.scen_words.specs.Words.{declaration_form, declaration_spelling}
use Rattle.scen_text.proofs.Accepted.{Accepted, said_accepted}
use Rattle.scen_text.proofs.Flat.{flat, flat_declarations, flat_names, normal_twice}
use Rattle.scen_text.proofs.Made.{Grows, LinesFrom, MadePhase, PhasesFrom, grows_trans, named_at, with_grows}
use Rattle.scen_text.proofs.MadeAll.{decls, phases_made}
use Rattle.scen_text.proofs.MadeDecls.{DeclsFrom, MadeDecl, decls_made}
use Rattle.scen_text.proofs.Played.{Laws, Played, allowed, kept_name, line_again, nothing, one_line, order_none, phases_grow, then_more}
use Rattle.scen_text.proofs.PlayedPhases.{Reaches, Shows, bare_said, before_more, block_play, free, inner, none_is, row_is, run_place, run_play, some_inner}

-- ---- a phase

abbrev place_by : Bool → Place
place_by true = Run
place_by false = Outside

not_block : (flag : Bool) → is_block (place_by flag) ≡ false
not_block true = refl
not_block false = refl

open_none : (h : List Sentence) (n : ℕ) → is_block (place_of h) ≡ false → cause (before h) false (Opens n) ≡ None
unfolding cause
open_none h n e = rw e refl

open_shows : (h f : List Sentence) (pl : Place) (pre : List Phase) (n : ℕ) → Shows h f pl pre → Shows (Opens n ∷ h) f (Block n) (pre ++ phase_of n [] ∷ [])
unfolding place_of phases_of
open_shows h f pl pre n s = record { flat_is = s.flat_is; place = refl; phases = ap (λ (ps : List Phase). ps ++ phase_of n [] ∷ []) s.phases }

whole_block : Laws → (version : ℕ) (final : List (List ℕ)) (h f m : List Sentence) (flag : Bool) (pre : List Phase) (p : Phase) → Shows h f (place_by flag) pre → MadePhase f p m → Grows (names_of m) final
    → Reaches version h (map line_of (block_rows final p)) m Outside (pre ++ p ∷ [])
whole_block laws version final h f m flag pre p s made grows =
    let n = p.actors in
    let rest = block_play laws version final n made.few pre [] p.lines (Opens n ∷ h) f m (open_shows h f (place_by flag) pre n s) made.lines grows in
    record {
      to = rest.to;
      played = before_more version h rest.to (line_of (opening_row p)) (Opens n) (inner final p.lines) (some_inner final p.lines) (laws.openings version n made.some made.few)
          (open_none h n (ap is_block s.place ∙ not_block flag)) rest.played;
      shows = record { flat_is = rest.shows.flat_is; place = rest.shows.place; phases = rest.shows.phases ∙ ap (λ (x : Phase). pre ++ x ∷ []) (sym made.is) };
    }

first_phases : (h f : List Sentence) (pre : List Phase) (l : Line) (w : CommandWord) (v : List Value) → Shows h f Outside pre → line_after h None w v ≡ l → phases_of (Orders None w v ∷ h) ≡ pre ++ phase_of 1 (l ∷ []) ∷ []
unfolding phases_of
first_phases h f pre l w v s is =
    ap (λ (p : Place). add_line p (line_after h None w v) (phases_of h)) s.place ∙ ap (λ (ps : List Phase). ps ++ phase_of 1 (line_after h None w v ∷ []) ∷ []) s.phases
    ∙ ap (λ (x : Line). pre ++ phase_of 1 (x ∷ []) ∷ []) is

bare_play : Laws → (version : ℕ) (final : List (List ℕ)) (h f m : List Sentence) (pre : List Phase) (ls : List Line) → Shows h f Outside pre → LinesFrom f 1 ls m → not (eqb (length ls) 0) ≡ true
    → Grows (names_of m) final → Reaches version h (map line_of (map (bare_row final) ls)) m Run (pre ++ phase_of 1 ls ∷ [])
bare_play laws version final h f m pre [] s lines some grows = absurd cc
bare_play laws version final h f m pre (l ∷ ls) s lines some grows =
    let w = lines.0 in
    let v = lines.1 in
    let made = lines.2 in
    let row = row_is laws final f m 1 l w v ls made lines.3 grows in
    let block : is_block (place_of h) ≡ false = ap is_block s.place in
    let first = one_line version h (line_of (bare_row final l)) (Orders None w v) (bare_said laws version final l w v row made.ordered.fits)
    (λ last. order_none h last None w v (allowed h f w v s.flat_is made.ordered) (free h last block)) in
    let here : Shows (Orders None w v ∷ h) (Orders None w v ∷ f) Run (pre ++ phase_of 1 (l ∷ []) ∷ []) = record {
      flat_is = ap (λ (x : List Sentence). Orders None w v ∷ x) s.flat_is;
      place = run_place w v h;
      phases = first_phases h f pre l w v s (line_again h f None l w v s.flat_is made.is (none_is l.actor made.actor));
    } in
    let rest = run_play laws version final pre (l ∷ []) ls (Orders None w v ∷ h) (Orders None w v ∷ f) m here lines.3 grows in
    record {
      to = rest.to;
      played = then_more version h (Orders None w v ∷ h) rest.to (line_of (bare_row final l) ∷ []) (map line_of (map (bare_row final) ls)) first rest.played;
      shows = rest.shows;
    }

phase_step : Laws → (version : ℕ) (final : List (List ℕ)) (h f m : List Sentence) (flag bare : Bool) (pre : List Phase) (p : Phase) → is_bare flag p ≡ bare → Shows h f (place_by flag) pre → MadePhase f p m
    → Grows (names_of m) final → Reaches version h (map line_of (phase_rows final bare p)) m (place_by bare) (pre ++ p ∷ [])
phase_step laws version final h f m flag false pre p is s made grows = whole_block laws version final h f m flag pre p s made grows
phase_step laws version final h f m true true pre p is s made grows = absurd cc
phase_step laws version final h f m false true pre p is s made grows =
    let both = and_parts (eqb p.actors 1) (not (eqb (length p.lines) 0)) is in
    let one : p.actors ≡ 1 = eqb-true p.actors 1 both.0 in
    let r = bare_play laws version final h f m pre p.lines s (subst (λ (n : ℕ). LinesFrom f n p.lines m) one made.lines) both.1 grows in
    let same : phase_of 1 p.lines ≡ p = ap (λ (n : ℕ). phase_of n p.lines) (sym one) ∙ sym made.is in
    record { to = r.to; played = r.played; shows = record { flat_is = r.shows.flat_is; place = r.shows.place; phases = r.shows.phases ∙ ap (λ (x : Phase). pre ++ x ∷ []) same } }

-- ---- all phases

pub record Ended (version : ℕ) (h : List Sentence) (lines : List (List ℕ)) (g : List Sentence) (ps : List Phase) : Type 0 where
  pub to : List Sentence
  pub played : Played version h lines to
  pub flat_is : flat to ≡ g
  pub phases : phases_of to ≡ ps

pub phases_play : Laws → (version : ℕ) (final : List (List ℕ)) (ps : List Phase) (h f g : List Sentence) (flag : Bool) (pre : List Phase) → Shows h f (place_by flag) pre → PhasesFrom f ps g → Grows (names_of g) final
    → Ended version h (map line_of (phases_rows final flag ps)) g (pre ++ ps)
phases_play laws version final [] h f g flag pre s e grows = record { to = h; played = nothing version h; flat_is = s.flat_is ∙ e; phases = s.phases ∙ sym (append-nil pre) }
phases_play laws version final (p ∷ ps) h f g flag pre s made grows =
    let bare = is_bare flag p in
    let here = phase_step laws version final h f made.0 flag bare pre p refl s made.1 (grows_trans (names_of made.0) (names_of g) final (phases_grow made.0 ps g made.2) grows) in
    let rest = phases_play laws version final ps here.to made.0 g bare (pre ++ p ∷ []) here.shows made.2 grows in
    let rows = map-append line_of (phase_rows final bare p) (phases_rows final bare ps) in
    record {
      to = rest.to;
      played = subst (λ (xs : List (List ℕ)). Played version h xs rest.to) (sym rows)
          (then_more version h here.to rest.to (map line_of (phase_rows final bare p)) (map line_of (phases_rows final bare ps)) here.played rest.played);
      flat_is = rest.flat_is;
      phases = rest.phases ∙ append_assoc pre (p ∷ []) ps;
    }

-- ---- declarations

decls_grow : (version : ℕ) (f : List Sentence) (ds : List Declaration) (g : List Sentence) → DeclsFrom version f ds g → Grows (names_of f) (names_of g)
unfolding names_of
decls_grow version f [] g e = ([], sym (append-nil (names_of f) ∙ ap names_of e))
decls_grow version f (d ∷ ds) g h =
    grows_trans (names_of f) (with_name (names_of f) (declared_name h.0 h.1)) (names_of g) (with_grows (names_of f) (declared_name h.0 h.1)) (decls_grow version (Declares h.0 h.1 ∷ f) ds g h.3)

abbrev decl_row : DeclarationWord → List Value → List (List ℕ)
decl_row w v = declaration_spelling w ∷ fields_for (declaration_form w) v

decl_written : Laws → (version : ℕ) (final : List (List ℕ)) (f : List Sentence) (d : Declaration) (w : DeclarationWord) (v : List Value) → MadeDecl version f d w v → Grows (with_name (names_of f) (declared_name w v)) final
    → declaration_row final d ≡ decl_row w v
decl_written laws version final f d w v m grows =
    let n = number_for (names_of f) (declared_name w v) in
    let values = laws.declaration_values final n w v m.fits (kept_name (names_of f) final (declared_name w v) (named_at (names_of f) final (declared_name w v) grows)) in
    ap (declaration_row final) m.is
    ∙ ap (λ (x : DeclarationWord). declaration_spelling x ∷ fields_for (declaration_form x) (declaration_values final (declaration_of n w v))) (laws.declaration_words n w v) ∙ ap (λ (x : List Value). decl_row w x) (values ∙ m.normal_is)

grown_by : (version : ℕ) (final : List (List ℕ)) (f : List Sentence) (ds : List Declaration) (g : List Sentence) (w : DeclarationWord) (v : List Value) → DeclsFrom version (Declares w v ∷ f) ds g → Grows (names_of g) final
    → Grows (with_name (names_of f) (declared_name w v)) final
unfolding names_of
grown_by version final f ds g w v h grows = grows_trans (with_name (names_of f) (declared_name w v)) (names_of g) final (decls_grow version (Declares w v ∷ f) ds g h) grows

pub decls_play : Laws → (version : ℕ) (final : List (List ℕ)) (ds : List Declaration) (f g : List Sentence) → DeclsFrom version f ds g → Grows (names_of g) final → Played version f (map line_of (map (declaration_row final) ds)) g
decls_play laws version final [] f g e grows = subst (λ (x : List Sentence). Played version f [] x) e (nothing version f)
decls_play laws version final (d ∷ ds) f g h grows =
    let w = h.0 in
    let v = h.1 in
    let m = h.2 in
    let row = decl_written laws version final f d w v m (grown_by version final f ds g w v h.3 grows) in
    let said = ap (λ (r : List (List ℕ)). sentence_of version (line_of r)) row ∙ laws.declarations version w v m.known m.fits in
    then_more version f (Declares w v ∷ f) g (line_of (declaration_row final d) ∷ []) (map line_of (map (declaration_row final) ds)) (one_line version f (line_of (declaration_row final d)) (Declares w v) said m.fine)
    (decls_play laws version final ds (Declares w v ∷ f) g h.3 grows)

decls_place : (e : List Sentence) → place_of (decls e) ≡ Outside
unfolding place_of
decls_place [] = refl
decls_place (Skipped ∷ e) = decls_place e
decls_place (Declares w v ∷ e) = decls_place e
decls_place (Orders a w v ∷ e) = decls_place e
decls_place (Opens n ∷ e) = decls_place e
decls_place (Ends ∷ e) = decls_place e

decls_phases : (e : List Sentence) → phases_of (decls e) ≡ []
unfolding phases_of
decls_phases [] = refl
decls_phases (Skipped ∷ e) = decls_phases e
decls_phases (Declares w v ∷ e) = decls_phases e
decls_phases (Orders a w v ∷ e) = decls_phases e
decls_phases (Opens n ∷ e) = decls_phases e
decls_phases (Ends ∷ e) = decls_phases e

decls_flat : (e : List Sentence) → flat (decls e) ≡ decls e
decls_flat [] = refl
decls_flat (Skipped ∷ e) = decls_flat e
decls_flat (Declares w v ∷ e) = ap (λ (x : List Value). Declares w x ∷ flat (decls e)) (normal_twice w v) ∙ ap (λ (x : List Sentence). Declares w (normal w v) ∷ x) (decls_flat e)
decls_flat (Orders a w v ∷ e) = decls_flat e
decls_flat (Opens n ∷ e) = decls_flat e
decls_flat (Ends ∷ e) = decls_flat e

-- ---- the whole text

text_is : (rows : List (List (List ℕ))) → text rows ≡ text_of (map line_of rows)
text_is [] = refl
text_is (r ∷ rows) = ap (λ (t : List ℕ). line r ++ t) (text_is rows)

abbrev version_row : ℕ → List (List ℕ)
version_row version = codes "tapscen" ∷ decimal version ∷ []

pub record IsVersion (version : ℕ) : Type 0 where
  pub text : is_text_line (line_of (version_row version)) ≡ true
  pub read : version_of (line_of (version_row version)) ≡ Ok version

one_is : decimal 1 ≡ codes "1"
one_is = decimal_digit 1 (omega arith)

two_is : decimal 2 ≡ codes "2"
two_is = decimal_digit 2 (omega arith)

version_one : IsVersion 1
unfolding version_of
version_one = record { text = rw one_is refl; read = rw one_is refl }

version_two : IsVersion 2
unfolding version_of
version_two = record { text = rw two_is refl; read = rw two_is refl }

by_versions : (a b c : Bool) (version : ℕ) → cond a (Err why.NotText) (cond b (Ok 1) (cond c (Ok 2) (Err why.Version))) ≡ Ok version → IsVersion version
by_versions true b c version e = absurd cc
by_versions false true c version e = let same : 1 ≡ version = cc in subst IsVersion same version_one
by_versions false false true version e = let same : 2 ≡ version = cc in subst IsVersion same version_two
by_versions false false false version e = absurd cc

is_version : (first : List ℕ) (version : ℕ) → version_of first ≡ Ok version → IsVersion version
unfolding version_of
is_version first version e = by_versions (not (is_text_line first)) (bytes_eq first (codes "tapscen 1")) (bytes_eq first (codes "tapscen 2")) version e

pub record Given (said : Said) : Type 0 where
  pub version : IsVersion said.version
  pub accepted : Accepted said.version said.sentences

abbrev Histories : Type 0
Histories = Result (List Sentence) ScenFault

taken_by : SentencesFit → (lines : List (List ℕ)) (version : ℕ) (said : Said) → IsVersion version → (r : Histories) → said_from version [] 2 lines ≡ r → (r >>= λ sentences. Ok (said_in version sentences)) ≡ Ok said → Given said
taken_by law lines version said ok (Ok sentences) is e =
    let same : said_in version sentences ≡ said = cc in
    subst Given same (record { version = ok; accepted = said_accepted law version [] 2 lines sentences tt is })
taken_by law lines version said ok (Err why) is e = absurd cc

first_by : SentencesFit → (lines : List (List ℕ)) (first : List ℕ) (said : Said) (r : Result ℕ Why) → version_of first ≡ r
    → (at_line 1 r >>= λ version. said_from version [] 2 lines >>= λ sentences. Ok (said_in version sentences)) ≡ Ok said → Given said
first_by law lines first said (Ok version) is e = taken_by law lines version said (is_version first version is) (said_from version [] 2 lines) refl e
first_by law lines first said (Err why) is e = absurd cc

given_lines : SentencesFit → (lines : List (List ℕ)) (said : Said) → said_of_lines lines ≡ Ok said → Given said
unfolding said_of_lines
given_lines law [] said e = absurd cc
given_lines law (first ∷ lines) said e = first_by law lines first said (version_of first) refl e

within_limit : (b : Bool) (r : Result Said ScenFault) (said : Said) (fault : ScenFault) → cond b (Err fault) r ≡ Ok said → r ≡ Ok said
within_limit true r said fault e = absurd cc
within_limit false r said fault e = e

pub given : SentencesFit → (bytes : List ℕ) (said : Said) → said_of bytes ≡ Ok said → Given said
unfolding said_of
given law bytes said e = given_lines law (lines_of bytes) said (within_limit (ltb MAX_BYTES (length bytes)) (said_of_lines (lines_of bytes)) said _ e)

-- ---- the printed text

pub record Printed (version : ℕ) (e : List Sentence) : Type 0 where
  pub to : List Sentence
  pub played : Played version [] (map line_of (map (declaration_row (names_of e)) (declarations_of e) ++ phases_rows (names_of e) false (phases_of e))) to
  pub flat_is : flat to ≡ flat e
  pub phases : phases_of to ≡ phases_of e

printed : Laws → (version : ℕ) (e : List Sentence) → Accepted version e → Printed version e
printed laws version e ok =
    let final = names_of e in
    let made = (phases_made version e ok).0 in
    let at_end : Grows (names_of (flat e)) final = ([], sym (flat_names e) ∙ sym (append-nil (names_of (flat e)))) in
    let at_decls = grows_trans (names_of (decls e)) (names_of (flat e)) final (phases_grow (decls e) (phases_of e) (flat e) made) at_end in
    let first = decls_play laws version final (declarations_of e) [] (decls e) (decls_made version e ok) at_decls in
    let shown : Shows (decls e) (decls e) Outside [] = record { flat_is = decls_flat e; place = decls_place e; phases = decls_phases e } in
    let second = phases_play laws version final (phases_of e) (decls e) (decls e) (flat e) false [] shown made at_end in
    let rows = map-append line_of (map (declaration_row final) (declarations_of e)) (phases_rows final false (phases_of e)) in
    record {
      to = second.to;
      played = subst (λ (xs : List (List ℕ)). Played version [] xs second.to) (sym rows)
          (then_more version [] (decls e) second.to (map line_of (map (declaration_row final) (declarations_of e))) (map line_of (phases_rows final false (phases_of e))) first second.played);
      flat_is = second.flat_is;
      phases = second.phases;
    }

taken_whole : (version : ℕ) (lines : List (List ℕ)) (to : List Sentence) → Played version [] lines to → said_from version [] 2 lines ≡ Ok to
unfolding said_from
taken_whole version lines to p = ap (said_from version [] 2) (sym (append-nil lines)) ∙ (p.runs 2 []).1

said_lines : (version : ℕ) (lines : List (List ℕ)) (to : List Sentence) → IsVersion version → Played version [] lines to → said_of_lines (line_of (version_row version) ∷ lines) ≡ Ok (said_in version to)
unfolding said_of_lines
said_lines version lines to v p = rw (v.read, taken_whole version lines to p) refl

said_text : LinesAreCutAgain → (version : ℕ) (rows : List (List (List ℕ))) (to : List Sentence) → IsVersion version → Played version [] (map line_of rows) to
    → length (text (version_row version ∷ rows)) ≤ MAX_BYTES → said_of (text (version_row version ∷ rows)) ≡ Ok (said_in version to)
unfolding said_of
said_text cut version rows to v p few =
    let all = version_row version ∷ rows in
    let good : list_all is_text_line (map line_of all) ≡ true = and_from (is_text_line (line_of (version_row version))) (list_all is_text_line (map line_of rows)) v.text p.text in
    let lines : lines_of (text all) ≡ map line_of all = ap lines_of (text_is all) ∙ cut (map line_of all) good in
    let short : ltb MAX_BYTES (length (text all)) ≡ false = le-ltb MAX_BYTES (length (text all)) few in
    ap (λ (b : Bool). cond b (Err (record { line = 0; why = why.TooLong })) (said_of_lines (lines_of (text all)))) short ∙ ap said_of_lines lines ∙ said_lines version (map line_of rows) to v p

abbrev scenario_by : ℕ → List Declaration → List (List ℕ) → List Phase → Scenario
scenario_by version ds names phases = record { version = version; declarations = ds; names = names; phases = phases }

same_scenario : (version : ℕ) (e to : List Sentence) → flat to ≡ flat e → phases_of to ≡ phases_of e → scenario_of (said_in version e) ≡ scenario_of (said_in version to)
unfolding scenario_of
same_scenario version e to same phases =
    let ds : declarations_of e ≡ declarations_of to = sym (flat_declarations e) ∙ ap declarations_of (sym same) ∙ flat_declarations to in
    let names : names_of e ≡ names_of to = sym (flat_names e) ∙ ap names_of (sym same) ∙ flat_names to in
    ap (λ (x : List Declaration). scenario_by version x (names_of e) (phases_of e)) ds ∙ ap (λ (x : List (List ℕ)). scenario_by version (declarations_of to) x (phases_of e)) names
    ∙ ap (λ (x : List Phase). scenario_by version (declarations_of to) (names_of to) x) (sym phases)

stands_said : Laws → LinesAreCutAgain → (said : Said) → Given said → length (scenario_text (scenario_of said)) ≤ MAX_BYTES → Stands (scenario_text (scenario_of said)) (scenario_of said)
unfolding scenario_of
stands_said laws cut said g few =
    let p = printed laws said.version said.sentences g.accepted in
    let rows = map (declaration_row (names_of said.sentences)) (declarations_of said.sentences) ++ phases_rows (names_of said.sentences) false (phases_of said.sentences) in
    (said_in said.version p.to, said_text cut said.version rows p.to g.version p.played few, same_scenario said.version said.sentences p.to p.flat_is p.phases)

pub printed_stands : Laws → LinesAreCutAgain → SentencesFit → PrintedStands
printed_stands laws cut law bytes s stands few =
    let said = stands.0 in
    subst (λ (x : Scenario). Stands (scenario_text x) x) (sym stands.2)
    (stands_said laws cut said (given law bytes said stands.1) (subst (λ (x : Scenario). length (scenario_text x) ≤ MAX_BYTES) stands.2 few))
