-- The text of a generated scenario is read as the history of its lines.
use Rattle.std.proofs.Common.{◌≡◌, ℕ, zero, suc, ◌+◌, ◌*◌, ◌/◌, ◌%◌, ◌<◌, ◌≤◌, lit<, Bool, true, false, cond, ◌&&◌, not, ltb, List, [], ◌∷◌, ◌++◌, codes, length, map, None, Result, Ok, Err, refl, sym, ap, subst, ◌∙◌, append_assoc, length-append, mod-lt, arith}
use Rattle.std.specs.Fmt.{decimal}
use Rattle.std.specs.Int.{w16, to_be_bytes}
use Rattle.std.specs.List.{join_with_byte, list_all}
use Rattle.std.proofs.lemmas.Bool.{le-ltb}
use Rattle.std.proofs.lemmas.Fmt.{decimal_digit, length-decimal-le}
use Rattle.std.proofs.lemmas.List.{append-nil, map-append}
use Rattle.std.proofs.lemmas.List.Folds.{list_all-append}
use Rattle.hex.specs.Hex.{encode_lower, encode_with}
use Rattle.text_fields.specs.Laws.{LinesAreCutAgain}
use Rattle.text_fields.specs.Lines.{is_text_line, line_of, lines_of, text_of}
use Rattle.scen_words.specs.declared.fault.Why.{Why}
use Rattle.scen_words.specs.declared.fault.Why.TheVariants as why
use Rattle.scen_words.specs.declared.limits.TheConstants.{MAX_BYTES}
use Rattle.scen_words.specs.declared.sentence.Sentence.{Sentence}
use Rattle.scen_words.specs.declared.sentence.Sentence.TheVariants.{Declares, Orders, Ends}
use Rattle.scen_words.specs.declared.word.CommandWord.TheVariants as command
use Rattle.scen_words.specs.declared.word.DeclarationWord.TheVariants as declaration
use Rattle.scen_words.specs.Commands.{command_values, declaration_values}
use Rattle.scen_words.specs.Field.{line, text}
use Rattle.scen_words.specs.Laws.{ActorsAreReadAgain, CommandsAreReadAgain, DeclarationsAreReadAgain, EndingsAreReadAgain, OpeningsAreReadAgain}
use Rattle.scen_words.specs.Rows.{declaration_row}
use Rattle.scen_words.specs.Sentences.{sentence_of, version_of}
use Rattle.scen_text.specs.declared.scenario.Line.{Line}
use Rattle.scen_text.specs.Before.{before}
use Rattle.scen_text.specs.Refusals.{cause, said_from, said_in, said_of, said_of_lines}
use Rattle.tap_ground.specs.Lists.{is_nil}
use Rattle.scen_text.specs.Scenario.{scenario_of}
use Rattle.scen_text.specs.ScenarioText.{actor_row, bare_row, ending_row, opening_row, scenario_rows, scenario_text}
use Rattle.scen_gen.specs.Generated.{attached, file_of, flags, frame_of, generated, has_read, lines, lines_at, read_line, send_line, traffic}
use Rattle.scen_laid.specs.Generated.{GeneratedStands}
use Rattle.scen_laid.proofs.Sent.{Fine, attach_fits, attach_values, begun, begun_fine, behind, end_fine, file_fits, file_values, read_fits, read_said, read_values, send_fits, send_said, send_values, sends_are, sent}

-- what the crates below say of lines that are written
pub record Laws : Type 0 where
  pub cut : LinesAreCutAgain
  pub commands : CommandsAreReadAgain
  pub actors : ActorsAreReadAgain
  pub declarations : DeclarationsAreReadAgain
  pub openings : OpeningsAreReadAgain
  pub endings : EndingsAreReadAgain

-- ---- lines that are taken, where one more comes behind them

record Plays (h : List Sentence) (ls : List (List ℕ)) (g : List Sentence) : Type 0 where
  text : list_all is_text_line ls ≡ true
  runs : (n : ℕ) (rest : List (List ℕ)) → is_nil rest ≡ false → (m : ℕ) × (said_from 1 h n (ls ++ rest) ≡ said_from 1 g m rest)

nothing : (h : List Sentence) → Plays h [] h
nothing h = record { text = refl; runs = λ n rest some. (n, refl) }

some_line : (xs rest : List (List ℕ)) → is_nil rest ≡ false → is_nil (xs ++ rest) ≡ false
some_line [] rest e = e
some_line (x ∷ xs) rest e = refl

both_text : (xs ys : List (List ℕ)) → list_all is_text_line xs ≡ true → list_all is_text_line ys ≡ true → list_all is_text_line (xs ++ ys) ≡ true
both_text xs ys h k = list_all-append is_text_line xs ys ∙ rw (h, k) refl

then_more : (h g k : List Sentence) (xs ys : List (List ℕ)) → Plays h xs g → Plays g ys k → Plays h (xs ++ ys) k
then_more h g k xs ys p q = record {
  text = both_text xs ys p.text q.text;
  runs = λ n rest some.
      let a = p.runs n (ys ++ rest) (some_line ys rest some) in
      let b = q.runs a.0 rest some in
      (b.0, ap (said_from 1 h n) (append_assoc xs ys rest) ∙ a.1 ∙ b.1);
}

by_text : (b : Bool) (r : Result Sentence Why) (s : Sentence) → cond (not b) (Err why.NotText) r ≡ Ok s → b ≡ true
by_text true r s e = refl
by_text false r s e = absurd cc

has_text : (l : List ℕ) (s : Sentence) → sentence_of 1 l ≡ Ok s → is_text_line l ≡ true
unfolding sentence_of
has_text l s e = by_text (is_text_line l) _ s e

one_step : (h : List Sentence) (n : ℕ) (l : List ℕ) (s : Sentence) (rest : List (List ℕ)) (last : Bool) → sentence_of 1 l ≡ Ok s → is_nil rest ≡ last → cause (before h) last s ≡ None
    → said_from 1 h n (l ∷ rest) ≡ said_from 1 (s ∷ h) (suc n) rest
unfolding said_from
one_step h n l s rest last said is none = rw (said, is, none) refl

one_line : (h : List Sentence) (l : List ℕ) (s : Sentence) → sentence_of 1 l ≡ Ok s → cause (before h) false s ≡ None → Plays h (l ∷ []) (s ∷ h)
one_line h l s said none = record {
  text = ap (λ (b : Bool). b && true) (has_text l s said);
  runs = λ n rest some. (suc n, one_step h n l s rest false said some none);
}

line_more : (h g : List Sentence) (xs : List (List ℕ)) (l : List ℕ) (s : Sentence) → Plays h xs g → sentence_of 1 l ≡ Ok s → cause (before g) false s ≡ None → Plays h (xs ++ l ∷ []) (s ∷ g)
line_more h g xs l s p said none = then_more h g (s ∷ g) xs (l ∷ []) p (one_line g l s said none)

-- ---- the lines of a generated scenario

abbrev names : List (List ℕ)
names = codes "tap0" ∷ []

file_read : Laws → (n : ℕ) → n ≤ 3 → sentence_of 1 (line_of (declaration_row names (file_of n))) ≡ Ok (Declares declaration.File (file_values n))
unfolding declaration_values
file_read laws n h = laws.declarations 1 declaration.File (file_values n) refl (file_fits n h)

attach_read : Laws → (n : ℕ) → n ≤ 3 → sentence_of 1 (line_of (bare_row names (attached n))) ≡ Ok (Orders None command.SetIff (attach_values n))
unfolding command_values
attach_read laws n h = laws.commands 1 command.SetIff (attach_values n) (attach_fits n h)

send_read : Laws → (i : ℕ) → sentence_of 1 (line_of (actor_row names (send_line i))) ≡ Ok (send_said i)
unfolding command_values
send_read laws i = laws.actors 1 0 command.Send (send_values i) (lit< tt) (send_fits i)

read_read : Laws → (i : ℕ) → sentence_of 1 (line_of (actor_row names (read_line i))) ≡ Ok (read_said i)
unfolding command_values
read_read laws i = laws.actors 1 1 command.Read (read_values i) (lit< tt) (read_fits i)

abbrev file_line : ℕ → List ℕ
file_line n = line_of (declaration_row names (file_of n))

abbrev attach_line : ℕ → List ℕ
attach_line n = line_of (bare_row names (attached n))

abbrev front : List (List ℕ)
front =
    file_line 0 ∷ file_line 1 ∷ file_line 2 ∷ file_line 3 ∷ attach_line 0 ∷ attach_line 1 ∷ attach_line 2 ∷ attach_line 3
    ∷ line_of (opening_row (traffic 0)) ∷ []

front_plays : Laws → Plays [] front begun
front_plays laws =
    let f = begun_fine in
    let a = line_more _ _ _ (file_line 0) _ (nothing []) (file_read laws 0 (omega arith)) f.1.1.1.1.1.1.1.1.0 in
    let b = line_more _ _ _ (file_line 1) _ a (file_read laws 1 (omega arith)) f.1.1.1.1.1.1.1.0 in
    let d = line_more _ _ _ (file_line 2) _ b (file_read laws 2 (omega arith)) f.1.1.1.1.1.1.0 in
    let e = line_more _ _ _ (file_line 3) _ d (file_read laws 3 (omega arith)) f.1.1.1.1.1.0 in
    let g = line_more _ _ _ (attach_line 0) _ e (attach_read laws 0 (omega arith)) f.1.1.1.1.0 in
    let h = line_more _ _ _ (attach_line 1) _ g (attach_read laws 1 (omega arith)) f.1.1.1.0 in
    let i = line_more _ _ _ (attach_line 2) _ h (attach_read laws 2 (omega arith)) f.1.1.0 in
    let j = line_more _ _ _ (attach_line 3) _ i (attach_read laws 3 (omega arith)) f.1.0 in
    line_more _ _ _ (line_of (opening_row (traffic 0))) _ j (laws.openings 1 2 (omega arith) (omega arith)) f.0

abbrev rows_at : Bool → ℕ → List Line
rows_at b i = cond b (send_line i ∷ read_line i ∷ []) (send_line i ∷ [])

sends_play : Laws → (b : Bool) (i : ℕ) (xs : List (List ℕ)) → Plays begun xs (sent i) → Fine (behind b i (sent i)) → Plays begun (xs ++ map line_of (map (actor_row names) (rows_at b i))) (behind b i (sent i))
sends_play laws true i xs p fine =
    let one = line_more begun (sent i) xs (line_of (actor_row names (send_line i))) (send_said i) p (send_read laws i) fine.1.0 in
    let two = line_more begun (send_said i ∷ sent i) (xs ++ line_of (actor_row names (send_line i)) ∷ []) (line_of (actor_row names (read_line i))) (read_said i) one (read_read laws i) fine.0 in
    subst (λ (ls : List (List ℕ)). Plays begun ls (read_said i ∷ send_said i ∷ sent i)) (append_assoc xs (line_of (actor_row names (send_line i)) ∷ []) (line_of (actor_row names (read_line i)) ∷ [])) two
sends_play laws false i xs p fine = line_more begun (sent i) xs (line_of (actor_row names (send_line i))) (send_said i) p (send_read laws i) fine.0

abbrev sent_lines : ℕ → List (List ℕ)
sent_lines n = map line_of (map (actor_row names) (lines n))

all_play : Laws → (n : ℕ) → n ≤ 100000 → Plays begun (sent_lines n) (sent n)
unfolding lines
all_play laws zero h = nothing begun
all_play laws (suc i) h =
    let rows = ap (map line_of) (map-append (actor_row names) (lines i) (lines_at i)) ∙ map-append line_of (map (actor_row names) (lines i)) (map (actor_row names) (lines_at i)) in
    subst (λ (ls : List (List ℕ)). Plays begun ls (sent (suc i))) (sym rows)
    (sends_play laws (has_read i) i (sent_lines i) (all_play laws i (omega (arith, h))) (sends_are (suc i) h).fine)

-- ---- the whole text

abbrev end_line : List ℕ
end_line = line_of ending_row

taken : Laws → (n : ℕ) → n ≤ 100000 → said_from 1 [] 2 ((front ++ sent_lines n) ++ end_line ∷ []) ≡ Ok (Ends ∷ sent n)
unfolding said_from
taken laws n h =
    let p = then_more [] begun (sent n) front (sent_lines n) (front_plays laws) (all_play laws n h) in
    let r = p.runs 2 (end_line ∷ []) refl in
    r.1 ∙ one_step (sent n) r.0 end_line Ends [] true (laws.endings 1) refl (end_fine (sent n) (sends_are n h).place)

abbrev first_line : List ℕ
first_line = line_of (codes "tapscen" ∷ decimal 1 ∷ [])

one_is : decimal 1 ≡ codes "1"
one_is = decimal_digit 1 (lit< tt)

first_read : version_of first_line ≡ Ok 1
unfolding version_of
first_read = rw one_is refl

first_text : is_text_line first_line ≡ true
first_text = rw one_is refl

said_lines : Laws → (n : ℕ) → n ≤ 100000 → said_of_lines (first_line ∷ ((front ++ sent_lines n) ++ end_line ∷ [])) ≡ Ok (said_in 1 (Ends ∷ sent n))
unfolding said_of_lines
said_lines laws n h = rw (first_read, taken laws n h) refl

all_text : Laws → (n : ℕ) → n ≤ 100000 → list_all is_text_line (first_line ∷ ((front ++ sent_lines n) ++ end_line ∷ [])) ≡ true
all_text laws n h =
    let p = then_more [] begun (sent n) front (sent_lines n) (front_plays laws) (all_play laws n h) in
    let ended : list_all is_text_line (end_line ∷ []) ≡ true = ap (λ (b : Bool). b && true) (has_text end_line Ends (laws.endings 1)) in
    let rest = both_text (front ++ sent_lines n) (end_line ∷ []) p.text ended in
    rw (first_text, rest) refl

-- a text of rows is the text of their lines
text_is : (rows : List (List (List ℕ))) → text rows ≡ text_of (map line_of rows)
text_is [] = refl
text_is (r ∷ rows) = ap (λ (t : List ℕ). line r ++ t) (text_is rows)

rows_are : (n : ℕ) → map line_of (scenario_rows (generated n)) ≡ first_line ∷ ((front ++ sent_lines n) ++ end_line ∷ [])
rows_are n =
    let sends = map (actor_row names) (lines n) in
    let tail : map line_of ((map (actor_row names) (lines n) ++ ending_row ∷ []) ++ []) ≡ sent_lines n ++ end_line ∷ [] =
    ap (map line_of) (append-nil (map (actor_row names) (lines n) ++ ending_row ∷ [])) ∙ map-append line_of (map (actor_row names) (lines n)) (ending_row ∷ []) in
    ap (λ (ls : List (List ℕ)). first_line ∷ (front ++ ls)) tail

-- ---- it isn't too long

weight : List (List ℕ) → ℕ
weight [] = 1
weight (f ∷ fs) = length f + 1 + weight fs

total : List (List (List ℕ)) → ℕ
total [] = 0
total (r ∷ rows) = weight r + total rows

join_short : (fs : List (List ℕ)) → length (join_with_byte 32 fs) + 1 ≤ weight fs
unfolding weight
join_short [] = omega arith
join_short (f ∷ []) = omega arith
join_short (f ∷ g ∷ fs) =
    let h = join_short (g ∷ fs) in
    let e = length-append f (32 ∷ join_with_byte 32 (g ∷ fs)) in
    omega (arith, h, e)

text_short : (rows : List (List (List ℕ))) → length (text rows) ≤ total rows
unfolding total
text_short [] = omega arith
text_short (r ∷ rows) =
    let a = length-append (line r) (text rows) in
    let b = length-append (join_with_byte 32 r) (10 ∷ []) in
    let h = join_short r in
    let k = text_short rows in
    omega (arith, a, b, h, k)

total_more : (xs ys : List (List (List ℕ))) → total (xs ++ ys) ≡ total xs + total ys
unfolding total
total_more [] ys = omega arith
total_more (x ∷ xs) ys = let h = total_more xs ys in omega (arith, h)

hex_length : (xs : List ℕ) → length (encode_lower xs) ≡ 2 * length xs
unfolding encode_with
hex_length [] = refl
hex_length (x ∷ xs) = let h = hex_length xs in omega (arith, h)

frame_length : (i : ℕ) → length (frame_of i) ≡ 60
unfolding frame_of
frame_length i = refl

digit_short : (n : ℕ) → n < 10 → length (decimal n) ≡ 1
digit_short n lt = ap (λ (xs : List ℕ). length xs) (decimal_digit n lt)

send_weight : (i : ℕ) → weight (actor_row names (send_line i)) ≤ 140
unfolding weight command_values
send_weight i =
    let d = digit_short 0 (lit< tt) in
    let e = hex_length (frame_of i) in
    let f = frame_length i in
    omega (arith, d, e, f)

read_weight : (i : ℕ) → weight (actor_row names (read_line i)) ≤ 40
unfolding weight command_values
read_weight i =
    let lt : i / 2 % 4 < 4 = mod-lt (i / 2) (lit< tt) in
    let d = digit_short 1 (lit< tt) in
    let e = digit_short (i / 2 % 4) (omega (arith, lt)) in
    let f = length-decimal-le 4 2048 (lit< tt) (lit< tt) (lit< tt) in
    omega (arith, d, e, f)

at_total : (b : Bool) (i : ℕ) → total (map (actor_row names) (rows_at b i)) ≤ 180
unfolding total
at_total true i = let a = send_weight i in let b = read_weight i in omega (arith, a, b)
at_total false i = let a = send_weight i in omega (arith, a)

sent_total : (n : ℕ) → total (map (actor_row names) (lines n)) ≤ 180 * n
unfolding lines total
sent_total zero = omega arith
sent_total (suc i) =
    let rows = map-append (actor_row names) (lines i) (lines_at i) in
    let a : total (map (actor_row names) (lines i ++ lines_at i)) ≡ total (map (actor_row names) (lines i)) + total (map (actor_row names) (lines_at i)) =
    ap total rows ∙ total_more (map (actor_row names) (lines i)) (map (actor_row names) (lines_at i)) in
    let b = sent_total i in
    let d : total (map (actor_row names) (lines_at i)) ≤ 180 = at_total (has_read i) i in
    omega (arith, a, b, d)

file_weight : (n : ℕ) → n ≤ 3 → weight (declaration_row names (file_of n)) ≤ 20
unfolding weight declaration_values
file_weight n h =
    let d = digit_short n (omega (arith, h)) in
    let e = length-decimal-le 3 256 (lit< tt) (lit< tt) (lit< tt) in
    omega (arith, d, e)

attach_weight : (n : ℕ) → n ≤ 3 → weight (bare_row names (attached n)) ≤ 40
unfolding weight command_values
attach_weight n h =
    let d = digit_short n (omega (arith, h)) in
    let e = hex_length (to_be_bytes w16 flags) in
    omega (arith, d, e)

first_weight : weight (codes "tapscen" ∷ decimal 1 ∷ []) ≤ 20
unfolding weight
first_weight = let d = digit_short 1 (lit< tt) in omega (arith, d)

opening_weight : (n : ℕ) → weight (opening_row (traffic n)) ≤ 20
unfolding weight
opening_weight n = let d = digit_short 2 (lit< tt) in omega (arith, d)

ending_weight : weight ending_row ≤ 10
unfolding weight
ending_weight = omega arith

tail_total : (n : ℕ) → total ((map (actor_row names) (lines n) ++ ending_row ∷ []) ++ []) ≤ 180 * n + 10
unfolding total
tail_total n =
    let a : total ((map (actor_row names) (lines n) ++ ending_row ∷ []) ++ []) ≡ total (map (actor_row names) (lines n)) + total (ending_row ∷ []) =
    ap total (append-nil (map (actor_row names) (lines n) ++ ending_row ∷ [])) ∙ total_more (map (actor_row names) (lines n)) (ending_row ∷ []) in
    let b = sent_total n in
    let d = ending_weight in
    omega (arith, a, b, d)

short : (n : ℕ) → n ≤ 100000 → length (scenario_text (generated n)) ≤ MAX_BYTES
unfolding total
short n h =
    let whole = text_short (scenario_rows (generated n)) in
    let first = first_weight in
    let a = file_weight 0 (omega arith) in
    let b = file_weight 1 (omega arith) in
    let d = file_weight 2 (omega arith) in
    let e = file_weight 3 (omega arith) in
    let f = attach_weight 0 (omega arith) in
    let g = attach_weight 1 (omega arith) in
    let i = attach_weight 2 (omega arith) in
    let j = attach_weight 3 (omega arith) in
    let k = opening_weight n in
    let tail = tail_total n in
    omega (arith, whole, first, a, b, d, e, f, g, i, j, k, tail, h)

said_text : Laws → (n : ℕ) → n ≤ 100000 → said_of (scenario_text (generated n)) ≡ Ok (said_in 1 (Ends ∷ sent n))
unfolding said_of
said_text laws n h =
    let all = first_line ∷ ((front ++ sent_lines n) ++ end_line ∷ []) in
    let rows : text (scenario_rows (generated n)) ≡ text_of (first_line ∷ ((front ++ sent_lines n) ++ end_line ∷ [])) = text_is (scenario_rows (generated n)) ∙ ap text_of (rows_are n) in
    let cut : lines_of (scenario_text (generated n)) ≡ first_line ∷ ((front ++ sent_lines n) ++ end_line ∷ []) =
    ap lines_of rows ∙ laws.cut (first_line ∷ ((front ++ sent_lines n) ++ end_line ∷ [])) (all_text laws n h) in
    let few : ltb MAX_BYTES (length (scenario_text (generated n))) ≡ false = le-ltb MAX_BYTES (length (scenario_text (generated n))) (short n h) in
    ap (λ (b : Bool). cond b (Err (record { line = 0; why = why.TooLong })) (said_of_lines (lines_of (scenario_text (generated n))))) few
    ∙ ap said_of_lines cut ∙ said_lines laws n h

pub text_stands : Laws → ((n : ℕ) → n ≤ 100000 → scenario_of (said_in 1 (Ends ∷ sent n)) ≡ generated n) → GeneratedStands
text_stands laws same n h = (said_in 1 (Ends ∷ sent n), said_text laws n h, sym (same n h))
