-- The lines of a scenario that isn't refused, as a history: what each was tested for.
use Rattle.std.proofs.Common.{◌≡◌, ℕ, suc, ◌+◌, ◌≤◌, Bool, true, false, cond, ◌&&◌, ◌||◌, eqb, ltb, leb, List, [], ◌∷◌, length, Option, Some, None, Result, Ok, Err, refl, ap, subst, arith}
use Rattle.std.specs.List.{slice_split}
use Rattle.std.proofs.lemmas.Bool.{ltb-false}
use Rattle.std.proofs.lemmas.List.Splits.{length-slice_split}
use Rattle.std.proofs.lemmas.List.Sums.{count_by-le-length}
use Rattle.text_fields.specs.declared.value.Value.{Value}
use Rattle.text_fields.specs.Lines.{but_empty_last, lines_of}
use Rattle.scen_words.specs.declared.declaration.Declaration.{Declaration}
use Rattle.scen_words.specs.declared.fault.Why.{Why}
use Rattle.scen_words.specs.declared.fault.Why.TheVariants as why
use Rattle.scen_words.specs.declared.limits.TheConstants.{MAX_BYTES, MAX_COMMANDS, MAX_TURNS}
use Rattle.scen_words.specs.declared.sentence.Sentence.{Sentence}
use Rattle.scen_words.specs.declared.sentence.Sentence.TheVariants.{Declares, Orders}
use Rattle.scen_words.specs.declared.word.CommandWord.{CommandWord}
use Rattle.scen_words.specs.declared.word.DeclarationWord.{DeclarationWord}
use Rattle.scen_words.specs.Commands.{commanded_name, declaration_of, declared_name, is_turn}
use Rattle.scen_words.specs.Laws.{FitSentence, SentencesFit}
use Rattle.scen_words.specs.Sentences.{sentence_of, version_of}
use Rattle.scen_text.specs.declared.fault.ScenFault.{ScenFault}
use Rattle.scen_text.specs.Before.{before, command_after, command_count, declarations_of, is_started, names_of, number_for, place_of, turn_count}
use Rattle.scen_text.specs.Refusals.{◌orelse◌, Said, at_line, cause, command_why, declaration_why, is_block, is_misplaced, is_twice, is_unknown, lacks_guest, passes_limit, passes_names, program_why, region_why, said_from, said_in, said_of, said_of_lines, unless}
use Rattle.tap_ground.specs.Lists.{is_nil}
use Rattle.tap_ground.specs.Options.{only_if as when}
use Rattle.tap_ground.specs.Results.{◌>>=◌}

-- ---- a history without refusals

pub record Took (version : ℕ) (s : Sentence) (e : List Sentence) : Type 0 where
  pub fits : FitSentence version s
  pub last : Bool
  pub fine : cause (before e) last s ≡ None

abbrev pub Accepted : ℕ → List Sentence → Type 0
Accepted version [] = Unit {0}
Accepted version (s ∷ e) = Took version s e × Accepted version e

abbrev Says : Type 0
Says = Result Sentence Why

abbrev Histories : Type 0
Histories = Result (List Sentence) ScenFault

unless_ok : (s : Sentence) (o : Option Why) (n : ℕ) (k : Sentence → Histories) (e : List Sentence) → (at_line n (unless s o) >>= k) ≡ Ok e → (o ≡ None) × (k s ≡ Ok e)
unless_ok s None n k e h = (refl, h)
unless_ok s (Some w) n k e h = absurd cc

step_ok : (r : Says) (e : List Sentence) (last : Bool) (n : ℕ) (k : Sentence → Histories) (after : List Sentence)
    → (at_line n (r >>= λ s. unless s (cause (before e) last s)) >>= k) ≡ Ok after
    → (s : Sentence) × (r ≡ Ok s) × (cause (before e) last s ≡ None) × (k s ≡ Ok after)
step_ok (Ok s) e last n k after h = let u = unless_ok s (cause (before e) last s) n k after h in (s, refl, u.0, u.1)
step_ok (Err w) e last n k after h = absurd cc

lines_accepted : SentencesFit → (version : ℕ) (e : List Sentence) (n : ℕ) (lines : List (List ℕ)) (after : List Sentence) → Accepted version e
    → said_from version e n lines ≡ Ok after → Accepted version after
unfolding said_from
lines_accepted law version e n [] after ok h = let same : e ≡ after = cc in subst (Accepted version) same ok
lines_accepted law version e n (line ∷ lines) after ok h =
    let t = step_ok (sentence_of version line) e (is_nil lines) n (λ s. said_from version (s ∷ e) (suc n) lines) after h in
    lines_accepted law version (t.0 ∷ e) (suc n) lines after (record { fits = law version line t.0 t.1; last = is_nil lines; fine = t.2 }, ok) t.3

lines_counted : (version : ℕ) (e : List Sentence) (n : ℕ) (lines : List (List ℕ)) (after : List Sentence) → said_from version e n lines ≡ Ok after → length after ≡ length e + length lines
unfolding said_from
lines_counted version e n [] after h = let same : e ≡ after = cc in let size = ap (λ (x : List Sentence). length x) same in omega (arith, size)
lines_counted version e n (line ∷ lines) after h =
    let t = step_ok (sentence_of version line) e (is_nil lines) n (λ s. said_from version (s ∷ e) (suc n) lines) after h in
    let size = lines_counted version (t.0 ∷ e) (suc n) lines after t.3 in
    omega (arith, size)

-- ---- the history of a text

-- one sentence for each line behind the first, and none refused
record Given (lines : List (List ℕ)) (said : Said) : Type 0 where
  accepted : Accepted said.version said.sentences
  counted : length said.sentences ≡ length lines

from_nothing : {n m : ℕ} → n ≡ 0 + m → n ≡ m
from_nothing e = omega (arith, e)

taken_by : SentencesFit → (lines : List (List ℕ)) (version : ℕ) (said : Said) (r : Histories) → said_from version [] 2 lines ≡ r
    → (r >>= λ sentences. Ok (said_in version sentences)) ≡ Ok said → Given lines said
taken_by law lines version said (Ok sentences) is e =
    let same : said_in version sentences ≡ said = cc in
    subst (Given lines) same (record { accepted = lines_accepted law version [] 2 lines sentences tt is; counted = from_nothing (lines_counted version [] 2 lines sentences is) })
taken_by law lines version said (Err why) is e = absurd cc

first_by : SentencesFit → (lines : List (List ℕ)) (said : Said) (r : Result ℕ Why)
    → (at_line 1 r >>= λ version. said_from version [] 2 lines >>= λ sentences. Ok (said_in version sentences)) ≡ Ok said → Given lines said
first_by law lines said (Ok version) e = taken_by law lines version said (said_from version [] 2 lines) refl e
first_by law lines said (Err why) e = absurd cc

-- a history that isn't refused, of at most so many sentences
pub record GivenUpTo (most : ℕ) (said : Said) : Type 0 where
  pub accepted : Accepted said.version said.sentences
  pub few : length said.sentences ≤ most

given_lines : SentencesFit → (lines : List (List ℕ)) (said : Said) (most : ℕ) → length lines ≤ most + 1 → said_of_lines lines ≡ Ok said → GivenUpTo most said
unfolding said_of_lines
given_lines law [] said most few e = absurd cc
given_lines law (first ∷ lines) said most few e =
    let g = first_by law lines said (version_of first) e in
    let size = g.counted in
    record { accepted = g.accepted; few = omega (arith, size, few) }

shorter : (parts : List (List ℕ)) → length (but_empty_last parts) ≤ length parts
shorter [] = omega arith
shorter ([] ∷ []) = omega arith
shorter ([] ∷ q ∷ parts) = let h = shorter (q ∷ parts) in omega (arith, h)
shorter ((b ∷ bs) ∷ parts) = let h = shorter parts in omega (arith, h)

-- a text has at most one line more than bytes
few_lines : (bytes : List ℕ) → length (lines_of bytes) ≤ length bytes + 1
few_lines bytes =
    let parts = slice_split (λ (b : ℕ). eqb b 10) bytes in
    let a = shorter parts in
    let b = length-slice_split (λ (b : ℕ). eqb b 10) bytes in
    let d = count_by-le-length (λ (b : ℕ). eqb b 10) bytes in
    omega (arith, a, b, d)

within_limit : SentencesFit → (bytes : List ℕ) (said : Said) (b : Bool) (fault : ScenFault) → ltb MAX_BYTES (length bytes) ≡ b → cond b (Err fault) (said_of_lines (lines_of bytes)) ≡ Ok said → GivenUpTo MAX_BYTES said
within_limit law bytes said true fault is e = absurd cc
within_limit law bytes said false fault is e =
    let few = ltb-false MAX_BYTES (length bytes) is in
    let lines = few_lines bytes in
    given_lines law (lines_of bytes) said MAX_BYTES (omega (arith, few, lines)) e

pub text_given : SentencesFit → (bytes : List ℕ) (said : Said) → said_of bytes ≡ Ok said → GivenUpTo MAX_BYTES said
unfolding said_of
text_given law bytes said e = within_limit law bytes said (ltb MAX_BYTES (length bytes)) _ refl e

-- ---- what an accepted line was tested for

when_none : (b : Bool) (w : Why) (rest : Option Why) → (when b w orelse rest) ≡ None → (b ≡ false) × (rest ≡ None)
when_none true w rest e = absurd cc
when_none false w rest e = (refl, e)

else_none : (first rest : Option Why) → (first orelse rest) ≡ None → (first ≡ None) × (rest ≡ None)
else_none None rest e = (refl, e)
else_none (Some w) rest e = absurd cc

when_last : (b : Bool) (w : Why) → when b w ≡ None → b ≡ false
when_last true w e = absurd cc
when_last false w e = refl

pub or_false : (a b : Bool) → (a || b) ≡ false → (a ≡ false) × (b ≡ false)
or_false true b e = absurd cc
or_false false b e = (refl, e)

abbrev pub declaration_after : List Sentence → DeclarationWord → List Value → Declaration
declaration_after e w v = declaration_of (number_for (names_of e) (declared_name w v)) w v

pub record Declared (e : List Sentence) (w : DeclarationWord) (v : List Value) : Type 0 where
  pub started : is_started e ≡ false
  pub new : is_twice (declarations_of e) (declaration_after e w v) ≡ false
  pub guest : lacks_guest (declarations_of e) (declaration_after e w v) ≡ false
  pub region : region_why (declarations_of e) (declaration_after e w v) ≡ None
  pub program : program_why (declaration_after e w v) ≡ None
  pub names : passes_names (names_of e) (declared_name w v) ≡ false

pub was_declared : (e : List Sentence) (last : Bool) (w : DeclarationWord) (v : List Value) → cause (before e) last (Declares w v) ≡ None → Declared e w v
unfolding cause declaration_why
was_declared e last w v h =
    let a = when_none (is_started e) why.Late _ h in
    let b = when_none (is_twice (declarations_of e) (declaration_after e w v)) why.Twice _ a.1 in
    let c = when_none (lacks_guest (declarations_of e) (declaration_after e w v)) why.Unknown _ b.1 in
    let d = else_none (region_why (declarations_of e) (declaration_after e w v)) _ c.1 in
    let f = else_none (program_why (declaration_after e w v)) _ d.1 in
    record { started = a.0; new = b.0; guest = c.0; region = d.0; program = f.0; names = when_last _ why.Limit f.1 }

pub record Ordered (e : List Sentence) (a : Option ℕ) (w : CommandWord) (v : List Value) : Type 0 where
  pub known : is_unknown (declarations_of e) (command_after e w v) ≡ false
  pub place : is_misplaced (place_of e) a ≡ false
  pub commands : leb MAX_COMMANDS (command_count e) ≡ false
  pub turns : (is_turn (command_after e w v) && leb MAX_TURNS (turn_count e)) ≡ false
  pub names : passes_names (names_of e) (commanded_name w v) ≡ false

pub was_ordered : (e : List Sentence) (last : Bool) (a : Option ℕ) (w : CommandWord) (v : List Value) → cause (before e) last (Orders a w v) ≡ None → Ordered e a w v
unfolding cause command_why passes_limit
was_ordered e last a w v h =
    let x = when_none (is_unknown (declarations_of e) (command_after e w v)) why.Unknown _ h in
    let y = when_none (is_misplaced (place_of e) a || (last && is_block (place_of e))) why.Phase _ x.1 in
    let z = when_last _ why.Limit y.1 in
    let p = or_false (is_misplaced (place_of e) a) (last && is_block (place_of e)) y.0 in
    let q = or_false (leb MAX_COMMANDS (command_count e) || (is_turn (command_after e w v) && leb MAX_TURNS (turn_count e))) (passes_names (names_of e) (commanded_name w v)) z in
    let r = or_false (leb MAX_COMMANDS (command_count e)) (is_turn (command_after e w v) && leb MAX_TURNS (turn_count e)) q.0 in
    record { known = x.0; place = p.0; commands = r.0; turns = r.1; names = q.1 }
