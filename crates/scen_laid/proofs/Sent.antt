-- What a generated scenario's lines say, as a history that isn't refused.
use Rattle.std.proofs.Common.{◌≡◌, ℕ, zero, suc, ◌+◌, ◌*◌, ◌/◌, ◌%◌, ◌^◌, ◌<◌, ◌≤◌, lit<, Bool, true, false, cond, eqb, ltb, List, [], ◌∷◌, ◌++◌, codes, length, replicate, Option, Some, None, refl, sym, ap, subst, ◌∙◌, append_assoc, mod-lt, arith}
use Rattle.std.specs.Int.{w16, w32, to_be_bytes}
use Rattle.std.specs.List.{AllByRecursion, list_all}
use Rattle.std.proofs.lemmas.Bool.{and_parts, eqb-false, eqb-true, lt-leb, ltb-true}
use Rattle.text_fields.specs.declared.value.Value.{Value}
use Rattle.text_fields.specs.declared.value.Value.TheVariants as value
use Rattle.text_fields.specs.Forms.{FitForm}
use Rattle.text_fields.specs.Hexadecimal.{AreBytes}
use Rattle.scen_words.specs.declared.command.Command.{Command}
use Rattle.scen_words.specs.declared.command.Command.TheVariants.{Read, Send}
use Rattle.scen_words.specs.declared.declaration.Declaration.{Declaration}
use Rattle.scen_words.specs.declared.limits.TheConstants.{MAX_BYTES, MAX_COMMANDS}
use Rattle.scen_words.specs.declared.sentence.Sentence.{Sentence}
use Rattle.scen_words.specs.declared.sentence.Sentence.TheVariants.{Declares, Orders, Opens, Ends}
use Rattle.scen_words.specs.declared.word.CommandWord.{CommandWord}
use Rattle.scen_words.specs.declared.word.CommandWord.TheVariants as command
use Rattle.scen_words.specs.declared.word.DeclarationWord.TheVariants as declaration
use Rattle.scen_words.specs.Commands.{command_of, commanded_name, declaration_of, is_turn}
use Rattle.scen_words.specs.Laws.{FitSentence}
use Rattle.scen_words.specs.Words.{command_form, declaration_form}
use Rattle.scen_text.specs.declared.place.Place.{Place}
use Rattle.scen_text.specs.declared.place.Place.TheVariants.{Block}
use Rattle.scen_text.specs.declared.scenario.Line.{Line}
use Rattle.scen_text.specs.declared.scenario.Phase.{Phase}
use Rattle.scen_text.specs.Before.{add_line, at_last, before, command_after, command_count, declarations_of, is_started, line_after, names_of, number_among, number_for, phase_of, phases_of, place_of, scripts_from, turn_count, with_name}
use Rattle.scen_text.specs.Refusals.{cause, command_why, declaration_why, is_misplaced, is_unknown, passes_limit, passes_names}
use Rattle.scen_gen.specs.Generated.{attachments, datagram, ethernet, file_of, flags, frame_of, has_read, internet, lines, number_of, read_line, read_of, send_line, send_of}
use Rattle.scen_laid.proofs.Histories.{Accepted}

-- ---- the lines up to the sends

abbrev pub file_values : ℕ → List Value
file_values n = value.Number n ∷ value.Number 256 ∷ []

abbrev pub attach_values : ℕ → List Value
attach_values n = value.Number n ∷ value.Name (codes "tap0") ∷ value.Number flags ∷ []

abbrev pub declared : List Sentence
declared =
    Declares declaration.File (file_values 3) ∷ Declares declaration.File (file_values 2) ∷ Declares declaration.File (file_values 1)
    ∷ Declares declaration.File (file_values 0) ∷ []

abbrev pub begun : List Sentence
begun =
    Opens 2 ∷ Orders None command.SetIff (attach_values 3) ∷ Orders None command.SetIff (attach_values 2)
    ∷ Orders None command.SetIff (attach_values 1) ∷ Orders None command.SetIff (attach_values 0) ∷ declared

pub file_fits : (n : ℕ) → n ≤ 3 → FitForm (declaration_form declaration.File) (file_values n)
file_fits n h = record { count = refl; each = ((omega arith, omega (arith, h), omega (arith, h)), ((omega arith, omega arith, omega arith), tt)) }

pub attach_fits : (n : ℕ) → n ≤ 3 → FitForm (command_form command.SetIff) (attach_values n)
attach_fits n h = record { count = refl; each = ((omega arith, omega (arith, h), omega (arith, h)), (refl, (lit< tt, tt))) }

-- no line of a history is refused where it isn't the last
abbrev pub Fine : List Sentence → Type 0
Fine [] = Unit {0}
Fine (s ∷ h) = (cause (before h) false s ≡ None) × Fine h

files_fine : Fine declared
unfolding cause declaration_why declarations_of declaration_of is_started names_of with_name
files_fine = (refl, (refl, (refl, (refl, tt))))

pub begun_fine : Fine begun
unfolding cause command_why is_unknown passes_limit declarations_of declaration_of command_of names_of number_among with_name place_of command_count turn_count
begun_fine = (refl, (refl, (refl, (refl, (refl, files_fine)))))

abbrev Fit : List Sentence → Type 0
Fit [] = Unit {0}
Fit (s ∷ h) = FitSentence 1 s × Fit h

begun_fits : Fit begun
begun_fits = (
  (omega arith, omega arith),
  (
    attach_fits 3 (omega arith),
    (
      attach_fits 2 (omega arith),
      (
        attach_fits 1 (omega arith),
        (
          attach_fits 0 (omega arith),
          ((refl, file_fits 3 (omega arith)), ((refl, file_fits 2 (omega arith)), ((refl, file_fits 1 (omega arith)), ((refl, file_fits 0 (omega arith)), tt)))),
        ),
      ),
    ),
  ),
)

fine_taken : (h : List Sentence) → Fit h → Fine h → Accepted 1 h
fine_taken [] fits fine = tt
fine_taken (s ∷ h) fits fine = (record { fits = fits.0; last = false; fine = fine.0 }, fine_taken h fits.1 fine.1)

-- ---- sends and reads

abbrev pub send_values : ℕ → List Value
send_values i = value.Name (codes "tap0") ∷ value.None ∷ value.Bytes (frame_of i) ∷ []

abbrev pub read_values : ℕ → List Value
read_values i = value.Number (i / 2 % 4) ∷ value.Number 2048 ∷ []

abbrev pub four : List Declaration
four = file_of 0 ∷ file_of 1 ∷ file_of 2 ∷ file_of 3 ∷ []

-- a history within the second phase, of so many commands, with these lines in it
pub record Sends (count : ℕ) (ls : List Line) (h : List Sentence) : Type 0 where
  pub fits : Fit h
  pub fine : Fine h
  pub names : names_of h ≡ codes "tap0" ∷ []
  pub declarations : declarations_of h ≡ four
  pub place : place_of h ≡ Block 2
  pub commands : command_count h ≡ count
  pub turns : turn_count h ≡ 0
  pub phases : phases_of h ≡ attachments ∷ phase_of 2 ls ∷ []

begun_sends : Sends 4 [] begun
unfolding declarations_of declaration_of command_of names_of number_among with_name place_of command_count turn_count phases_of phase_of scripts_from at_last
begun_sends = record { fits = begun_fits; fine = begun_fine; names = refl; declarations = refl; place = refl; commands = refl; turns = refl; phases = refl }

order_fine : (h : List Sentence) (actor : ℕ) (w : CommandWord) (v : List Value) → is_unknown (declarations_of h) (command_after h w v) ≡ false → is_misplaced (place_of h) (Some actor) ≡ false
    → passes_limit (command_count h) (turn_count h) (names_of h) (commanded_name w v) (command_after h w v) ≡ false → cause (before h) false (Orders (Some actor) w v) ≡ None
unfolding cause command_why
order_fine h actor w v known placed limit = rw (known, placed, limit) refl

within : (count turns : ℕ) (names : List (List ℕ)) (name : Option (List ℕ)) (c : Command) → count < MAX_COMMANDS → is_turn c ≡ false → passes_names names name ≡ false → passes_limit count turns names name c ≡ false
unfolding passes_limit
within count turns names name c lt turn named = rw (lt-leb MAX_COMMANDS count lt, turn, named) refl

abbrev pub new_line : ℕ → ℕ → Command → Line
new_line actor number c = record { actor = actor; number = number; command = c }

-- one command more, of the actor and with the command that the line has
one_more : (count : ℕ) (ls : List Line) (h : List Sentence) (actor : ℕ) (w : CommandWord) (v : List Value) (c : Command) → Sends count ls h → count < MAX_COMMANDS → FitForm (command_form w) v
    → command_after h w v ≡ c → is_unknown four c ≡ false → is_turn c ≡ false → is_misplaced (Block 2) (Some actor) ≡ false → passes_names (codes "tap0" ∷ []) (commanded_name w v) ≡ false
    → with_name (codes "tap0" ∷ []) (commanded_name w v) ≡ codes "tap0" ∷ []
    → Sends (count + 1) (ls ++ record { actor = actor; number = count; command = c } ∷ []) (Orders (Some actor) w v ∷ h)
unfolding declarations_of names_of place_of command_count turn_count phases_of phase_of at_last
one_more count ls h actor w v c s lt fits is known turn placed named same =
    let unknown : is_unknown (declarations_of h) (command_after h w v) ≡ false = ap (λ (x : Command). is_unknown (declarations_of h) x) is ∙ ap (λ (ds : List Declaration). is_unknown ds c) s.declarations ∙ known in
    let in_place : is_misplaced (place_of h) (Some actor) ≡ false = ap (λ (p : Place). is_misplaced p (Some actor)) s.place ∙ placed in
    let few : command_count h < MAX_COMMANDS = subst (λ (k : ℕ). k < MAX_COMMANDS) (sym s.commands) lt in
    let no_turn : is_turn (command_after h w v) ≡ false = ap is_turn is ∙ turn in
    let no_name : passes_names (names_of h) (commanded_name w v) ≡ false = ap (λ (ns : List (List ℕ)). passes_names ns (commanded_name w v)) s.names ∙ named in
    let limit = within (command_count h) (turn_count h) (names_of h) (commanded_name w v) (command_after h w v) few no_turn no_name in
    let line : line_after h (Some actor) w v ≡ record { actor = actor; number = count; command = c } =
    ap (λ (k : ℕ). new_line actor k (command_after h w v)) s.commands ∙ ap (λ (x : Command). new_line actor count x) is in
    record {
      fits = (fits, s.fits);
      fine = (order_fine h actor w v unknown in_place limit, s.fine);
      names = ap (λ (ns : List (List ℕ)). with_name ns (commanded_name w v)) s.names ∙ same;
      declarations = s.declarations;
      place = s.place;
      commands = ap (λ (k : ℕ). k + 1) s.commands;
      turns = ap (λ (b : Bool). turn_count h + cond b 1 0) no_turn ∙ ap (λ (k : ℕ). k + 0) s.turns;
      phases = ap (λ (p : Place). add_line p (line_after h (Some actor) w v) (phases_of h)) s.place ∙ ap (λ (ps : List Phase). at_last (line_after h (Some actor) w v) ps) s.phases
          ∙ ap (λ (l : Line). attachments ∷ phase_of 2 (ls ++ l ∷ []) ∷ []) line;
    }

-- ---- a send, and a read

all_below : (xs : List ℕ) → list_all (λ (b : ℕ). ltb b 256) xs ≡ true → AllByRecursion (λ (b : ℕ). b < 256) xs
all_below [] h = tt
all_below (x ∷ xs) h = let p = and_parts (ltb x 256) (list_all (λ (b : ℕ). ltb b 256) xs) h in (ltb-true x 256 p.0, all_below xs p.1)

bytes_more : (xs ys : List ℕ) → AllByRecursion (λ (b : ℕ). b < 256) xs → AllByRecursion (λ (b : ℕ). b < 256) ys → AllByRecursion (λ (b : ℕ). b < 256) (xs ++ ys)
bytes_more [] ys h k = k
bytes_more (x ∷ xs) ys h k = (h.0, bytes_more xs ys h.1 k)

byte_of : (n : ℕ) → n % 256 < 256
byte_of n = mod-lt n (lit< tt)

port_bytes : (n : ℕ) → AllByRecursion (λ (b : ℕ). b < 256) (to_be_bytes w16 n)
port_bytes n = (byte_of (n / 256), (byte_of n, tt))

number_bytes : (n : ℕ) → AllByRecursion (λ (b : ℕ). b < 256) (to_be_bytes w32 n)
number_bytes n = (byte_of (n / 16777216), (byte_of (n / 65536), (byte_of (n / 256), (byte_of n, tt))))

frame_bytes : (i : ℕ) → AreBytes (frame_of i)
unfolding frame_of
frame_bytes i =
    let front = bytes_more (ethernet ++ internet) (to_be_bytes w16 (1000 + i % 256)) (all_below (ethernet ++ internet) refl) (port_bytes (1000 + i % 256)) in
    let more = bytes_more (ethernet ++ internet ++ to_be_bytes w16 (1000 + i % 256)) datagram front (all_below datagram refl) in
    let most = bytes_more (ethernet ++ internet ++ to_be_bytes w16 (1000 + i % 256) ++ datagram) (to_be_bytes w32 i) more (number_bytes i) in
    (omega arith, bytes_more (ethernet ++ internet ++ to_be_bytes w16 (1000 + i % 256) ++ datagram ++ to_be_bytes w32 i) (replicate 14 0) most (all_below (replicate 14 0) refl))

pub send_fits : (i : ℕ) → FitForm (command_form command.Send) (send_values i)
send_fits i = record { count = refl; each = (refl, (tt, (frame_bytes i, tt))) }

small : (i : ℕ) → i / 2 % 4 < 4
small i = mod-lt (i / 2) (lit< tt)

pub read_fits : (i : ℕ) → FitForm (command_form command.Read) (read_values i)
read_fits i = let lt = small i in record { count = refl; each = ((omega arith, omega (arith, lt), omega (arith, lt)), ((omega arith, omega arith, omega arith), tt)) }

send_known : (i : ℕ) → is_unknown four (send_of i) ≡ false
unfolding is_unknown
send_known i = refl

read_known : (k : ℕ) → k < 4 → is_unknown four (Read k 2048) ≡ false
unfolding is_unknown
read_known zero lt = refl
read_known (suc zero) lt = refl
read_known (suc (suc zero)) lt = refl
read_known (suc (suc (suc zero))) lt = refl
read_known (suc (suc (suc (suc k)))) lt = absurd (omega (arith, lt))

send_is : (h : List Sentence) (i : ℕ) → names_of h ≡ codes "tap0" ∷ [] → command_after h command.Send (send_values i) ≡ send_of i
unfolding command_of number_among
send_is h i names = ap (λ (ns : List (List ℕ)). command_of (number_for ns (Some (codes "tap0"))) command.Send (send_values i)) names

narrow : (k : ℕ) → k < 4 → k % 2 ^ 16 ≡ k
narrow k lt = omega (arith, lt)

read_is : (h : List Sentence) (i : ℕ) → command_after h command.Read (read_values i) ≡ read_of i
unfolding command_of
read_is h i = ap (λ (k : ℕ). Read k 2048) (narrow (i / 2 % 4) (small i))

named_before : passes_names (codes "tap0" ∷ []) (Some (codes "tap0")) ≡ false
unfolding number_among
named_before = refl

no_new_name : with_name (codes "tap0" ∷ []) (Some (codes "tap0")) ≡ codes "tap0" ∷ []
unfolding with_name number_among
no_new_name = refl

no_name : with_name (codes "tap0" ∷ []) None ≡ codes "tap0" ∷ []
unfolding with_name
no_name = refl

abbrev pub send_said : ℕ → Sentence
send_said i = Orders (Some 0) command.Send (send_values i)

abbrev pub read_said : ℕ → Sentence
read_said i = Orders (Some 1) command.Read (read_values i)

send_more : (i count : ℕ) (ls : List Line) (h : List Sentence) → Sends count ls h → count < MAX_COMMANDS → Sends (count + 1) (ls ++ new_line 0 count (send_of i) ∷ []) (send_said i ∷ h)
send_more i count ls h s lt = one_more count ls h 0 command.Send (send_values i) (send_of i) s lt (send_fits i) (send_is h i s.names) (send_known i) refl refl named_before no_new_name

read_more : (i count : ℕ) (ls : List Line) (h : List Sentence) → Sends count ls h → count < MAX_COMMANDS → Sends (count + 1) (ls ++ new_line 1 count (read_of i) ∷ []) (read_said i ∷ h)
read_more i count ls h s lt = one_more count ls h 1 command.Read (read_values i) (read_of i) s lt (read_fits i) (read_is h i) (read_known (i / 2 % 4) (small i)) refl refl refl no_name

-- ---- so many sends

abbrev pub behind : Bool → ℕ → List Sentence → List Sentence
behind b i h = cond b (read_said i ∷ send_said i ∷ h) (send_said i ∷ h)

abbrev pub sent : ℕ → List Sentence
sent zero = begun
sent (suc i) = behind (has_read i) i (sent i)

sends_more : (b : Bool) (i : ℕ) → eqb (i % 2) 1 ≡ b → i < 100000 → Sends (number_of i) (lines i) (sent i)
    → Sends (number_of (suc i)) (lines i ++ cond b (send_line i ∷ read_line i ∷ []) (send_line i ∷ [])) (behind b i (sent i))
sends_more true i odd lt s =
    let is = eqb-true (i % 2) 1 odd in
    let one = send_more i (number_of i) (lines i) (sent i) s (omega (arith, lt)) in
    let two = read_more i (number_of i + 1) (lines i ++ send_line i ∷ []) (send_said i ∷ sent i) one (omega (arith, lt)) in
    let count : number_of i + 1 + 1 ≡ number_of (suc i) = omega (arith, is) in
    subst (λ (k : ℕ). Sends k (lines i ++ send_line i ∷ read_line i ∷ []) (read_said i ∷ send_said i ∷ sent i)) count
    (subst (λ (ls : List Line). Sends (number_of i + 1 + 1) ls (read_said i ∷ send_said i ∷ sent i)) (append_assoc (lines i) (send_line i ∷ []) (read_line i ∷ [])) two)
sends_more false i odd lt s =
    let past = eqb-false (i % 2) 1 odd in
    let rest : i % 2 < 2 = mod-lt i (lit< tt) in
    let count : number_of i + 1 ≡ number_of (suc i) = omega (arith, past, rest) in
    subst (λ (k : ℕ). Sends k (lines i ++ send_line i ∷ []) (send_said i ∷ sent i)) count (send_more i (number_of i) (lines i) (sent i) s (omega (arith, lt)))

pub sends_are : (n : ℕ) → n ≤ 100000 → Sends (number_of n) (lines n) (sent n)
unfolding lines
sends_are zero h = begun_sends
sends_are (suc i) h = sends_more (has_read i) i refl (omega (arith, h)) (sends_are i (omega (arith, h)))

pub end_fine : (h : List Sentence) → place_of h ≡ Block 2 → cause (before h) true Ends ≡ None
unfolding cause
end_fine h is = rw is refl

pub all_accepted : (n : ℕ) → n ≤ 100000 → Accepted 1 (Ends ∷ sent n)
all_accepted n h = let s = sends_are n h in (record { fits = tt; last = true; fine = end_fine (sent n) s.place }, fine_taken (sent n) s.fits s.fine)

behind_few : (b : Bool) (i : ℕ) (h : List Sentence) (k : ℕ) → length h ≤ k → length (behind b i h) ≤ k + 2
behind_few true i h k few = omega (arith, few)
behind_few false i h k few = omega (arith, few)

sent_few : (n : ℕ) → length (sent n) ≤ 9 + 2 * n
sent_few zero = omega arith
sent_few (suc i) = let h = behind_few (has_read i) i (sent i) (9 + 2 * i) (sent_few i) in omega (arith, h)

pub few_said : (n : ℕ) → n ≤ 100000 → length (Ends ∷ sent n) ≤ MAX_BYTES
few_said n h = let few = sent_few n in omega (arith, few, h)
