-- The lines of a text, one after another.
use Rattle.std.proofs.Common.{◌≡◌, ℕ, suc, ◌+◌, ◌<◌, ◌≤◌, ◌^◌, Bool, true, false, not, List, [], ◌∷◌, length, Option, Some, None, Ok, Err, refl, sym, ap, ◌∙◌, eqb, arith, Bor}
use Rattle.std.specs.Prelude.{is_some, MatchOption}
use Rattle.std.specs.Option.{option_copied}
use Rattle.std.specs.List.{slice_split}
use Rattle.std.proofs.lemmas.List.Splits.{length-slice_split}
use Rattle.std.proofs.lemmas.List.Sums.{count_by-le-length}
use Rattle.text_fields.specs.Lines.{but_empty_last, lines_of}
use Rattle.scen_text.specs.declared.builder.Builder.{Builder}
use Rattle.tap_ground.specs.declared.error.OrMemory.{OrMemory}
use Rattle.tap_ground.specs.declared.error.OrMemory.TheVariants as error
use Rattle.scen_text.specs.declared.fault.ScenFault.{ScenFault}
use Rattle.scen_words.specs.declared.fault.Why.{Why}
use Rattle.scen_words.specs.declared.sentence.Sentence.{Sentence}
use Rattle.scen_text.specs.Building.{Builds, HearsLine, Keeps, error_at}
use Rattle.tap_ground.specs.Lists.{is_nil}
use Rattle.scen_text.specs.Refusals.{said_after, said_from}

-- the next line and those behind it
abbrev pub rest_of : Option (List ℕ) → List (List ℕ) → List (List ℕ)
rest_of None lines = []
rest_of (Some line) lines = line ∷ lines

pub rest_is : (next : Option (Bor (List ℕ))) (old new : List (List ℕ)) → MatchOption next ((old ≡ []) × (new ≡ [])) (λ line. old ≡ line.now ∷ new)
    → rest_of (option_copied next) new ≡ old
rest_is None old new h = sym h.0
rest_is (Some line) old new h = sym h

pub last_is : (next : Option (Bor (List ℕ))) (lines : List (List ℕ)) (b : Bool) → is_some next ≡ not b → b ≡ is_nil (rest_of (option_copied next) lines)
last_is None lines true h = refl
last_is None lines false h = absurd cc
last_is (Some line) lines true h = absurd cc
last_is (Some line) lines false h = refl

-- the history of a builder, and what the lines that are left will give
pub record Heard (version n : ℕ) (b : Builder) (rest all : List (List ℕ)) (said : List Sentence) : Type 0 where
  pub keeps : Keeps b said
  pub gives : said_from version said n rest ≡ said_from version [] 2 all

pub heard_next : (version n : ℕ) (line : List ℕ) (rest all : List (List ℕ)) (last : Bool) (said : List Sentence) (s : Sentence) (new : Builder)
    → last ≡ is_nil rest → said_from version said (n + 1) (line ∷ rest) ≡ said_from version [] 2 all → said_after version said last line ≡ Ok s → Keeps new (s ∷ said)
    → Heard version (n + 1 + 1) new rest all (s ∷ said)
unfolding said_from
heard_next version n line rest all last said s new is gives good keeps =
    let there : said_after version said (is_nil rest) line ≡ Ok s = rw (← is) good in
    let gives_too = rw there at gives in
    let same : n + 1 + 1 ≡ suc (n + 1) = omega arith in
    record { keeps = keeps; gives = ap (λ k. said_from version (s ∷ said) k rest) same ∙ gives_too }

pub heard_fault : (version n : ℕ) (line : List ℕ) (rest all : List (List ℕ)) (last : Bool) (said : List Sentence) (why : Why)
    → last ≡ is_nil rest → said_from version said (n + 1) (line ∷ rest) ≡ said_from version [] 2 all → said_after version said last line ≡ Err why
    → said_from version [] 2 all ≡ Err (let f : ScenFault = record { line = n + 1; why = why } in f)
unfolding said_from
heard_fault version n line rest all last said why is gives bad =
    let there : said_after version said (is_nil rest) line ≡ Err why = rw (← is) bad in
    sym gives ∙ rw there refl

pub heard_all : (version n : ℕ) (all : List (List ℕ)) (said : List Sentence) → said_from version said n [] ≡ said_from version [] 2 all → said_from version [] 2 all ≡ Ok said
unfolding said_from
heard_all version n all said gives = sym gives

-- a text has no more lines than bytes, and one
but_bound : (parts : List (List ℕ)) → length (but_empty_last parts) ≤ length parts
but_bound [] = omega arith
but_bound ([] ∷ []) = omega arith
but_bound ([] ∷ q ∷ parts) = let h = but_bound (q ∷ parts) in omega (arith, h)
but_bound ((b ∷ bs) ∷ parts) = let h = but_bound parts in omega (arith, h)

pub lines_bound : (bytes : List ℕ) → length (lines_of bytes) ≤ length bytes + 1
lines_bound bytes =
    omega (arith, but_bound (slice_split (λ b. eqb b 10) bytes), length-slice_split (λ b. eqb b 10) bytes, count_by-le-length (λ b. eqb b 10) bytes)

-- ---- one turn of the loop

pub room_next : (n : ℕ) (next next' : Option (Bor (List ℕ))) (line : Bor (List ℕ)) (lines lines' : List (List ℕ)) → next ≡ Some line
    → n + length (rest_of (option_copied next) lines) < 2 ^ 32 → MatchOption next' ((lines ≡ []) × (lines' ≡ [])) (λ f. lines ≡ f.now ∷ lines')
    → n + 1 + length (rest_of (option_copied next') lines') < 2 ^ 32
room_next n next next' line lines lines' is room cut =
    let there : n + length (line.now ∷ lines) < 2 ^ 32 = rw is at room in
    let same = ap (λ (ls : List (List ℕ)). length ls) (rest_is next' lines lines' cut) in
    omega (arith, there, same)

pub shorter : (next next' : Option (Bor (List ℕ))) (line : Bor (List ℕ)) (lines lines' : List (List ℕ)) → next ≡ Some line
    → MatchOption next' ((lines ≡ []) × (lines' ≡ [])) (λ f. lines ≡ f.now ∷ lines')
    → length (rest_of (option_copied next') lines') < length (rest_of (option_copied next) lines)
shorter next next' line lines lines' is cut =
    let same = ap (λ (ls : List (List ℕ)). length ls) (rest_is next' lines lines' cut) in
    rw is (omega (arith, same))

pub heard_step : (version n : ℕ) (next next' : Option (Bor (List ℕ))) (line : Bor (List ℕ)) (lines lines' all : List (List ℕ)) (last : Bool) (old new : Builder)
    (u : Unit {0}) → next ≡ Some line → MatchOption next' ((lines ≡ []) × (lines' ≡ [])) (λ f. lines ≡ f.now ∷ lines') → is_some next' ≡ not last
    → (said : List Sentence) → Heard version (n + 1) old (rest_of (option_copied next) lines) all said → HearsLine version line.now last old (Ok u) new
    → (later : List Sentence) × Heard version (n + 1 + 1) new (rest_of (option_copied next') lines') all later
heard_step version n next next' line lines lines' all last old new u is cut end said heard hears =
    let one = hears said heard.keeps in
    let gives : said_from version said (n + 1) (line.now ∷ lines) ≡ said_from version [] 2 all = rw is at heard.gives in
    let gives_rest : said_from version said (n + 1) (line.now ∷ rest_of (option_copied next') lines') ≡ said_from version [] 2 all =
    ap (λ (ls : List (List ℕ)). said_from version said (n + 1) (line.now ∷ ls)) (rest_is next' lines lines' cut) ∙ gives in
    (one.0 ∷ said, heard_next version n line.now (rest_of (option_copied next') lines') all last said one.0 new (last_is next' lines' last end) gives_rest one.1 one.2)

pub heard_error : (version n : ℕ) (next next' : Option (Bor (List ℕ))) (line : Bor (List ℕ)) (lines lines' all : List (List ℕ)) (last : Bool) (old new : Builder)
    (e : OrMemory Why) → next ≡ Some line → MatchOption next' ((lines ≡ []) × (lines' ≡ [])) (λ f. lines ≡ f.now ∷ lines') → is_some next' ≡ not last
    → (said : List Sentence) → Heard version (n + 1) old (rest_of (option_copied next) lines) all said → HearsLine version line.now last old (Err e) new
    → Builds version all (Err (error_at (n + 1) e))
heard_error version n next next' line lines lines' all last old new (error.Fault why) is cut end said heard hears =
    let bad = hears said heard.keeps in
    let gives : said_from version said (n + 1) (line.now ∷ lines) ≡ said_from version [] 2 all = rw is at heard.gives in
    let gives_rest : said_from version said (n + 1) (line.now ∷ rest_of (option_copied next') lines') ≡ said_from version [] 2 all =
    ap (λ (ls : List (List ℕ)). said_from version said (n + 1) (line.now ∷ ls)) (rest_is next' lines lines' cut) ∙ gives in
    heard_fault version n line.now (rest_of (option_copied next') lines') all last said why (last_is next' lines' last end) gives_rest bad
heard_error version n next next' line lines lines' all last old new error.NoMemory is cut end said heard hears = tt
