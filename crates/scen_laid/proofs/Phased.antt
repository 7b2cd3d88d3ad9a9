-- Each phase of a scenario that isn't refused is one: its actors, its scripts, and what its commands name.
use Rattle.std.proofs.Common.{◌≡◌, ℕ, zero, suc, ◌+◌, ◌<◌, ◌≤◌, lit<, Bool, true, false, ◌||◌, not, eqb, List, [], ◌∷◌, ◌++◌, length, map, filter, slice_get, Option, Some, None, IfSome, IsSome, unwrap_or, refl, sym, ap, subst, ◌∙◌, arith}
use Rattle.std.specs.List.{AllByRecursion, list_any}
use Rattle.std.proofs.lemmas.Bool.{ltb-true}
use Rattle.text_fields.specs.declared.value.Value.{Value}
use Rattle.text_fields.specs.Forms.{FitForm}
use Rattle.scen_words.specs.declared.command.Command.{Command}
use Rattle.scen_words.specs.declared.command.Command.TheVariants.{SetIff, Send}
use Rattle.scen_words.specs.declared.declaration.Declaration.{Declaration}
use Rattle.scen_words.specs.declared.sentence.Sentence.{Sentence}
use Rattle.scen_words.specs.declared.sentence.Sentence.TheVariants.{Skipped, Declares, Orders, Opens, Ends}
use Rattle.scen_words.specs.declared.word.CommandWord.{CommandWord}
use Rattle.scen_words.specs.Commands.{command_of, command_values, command_word, commanded_name, file_of, guest_of, name_of, program_of, vhost_of}
use Rattle.scen_words.specs.Laws.{ValuesAreKept, WordsAreKept}
use Rattle.scen_words.specs.Words.{command_form}
use Rattle.scen_text.specs.declared.place.Place.{Place}
use Rattle.scen_text.specs.declared.place.Place.TheVariants.{Outside, Run, Block}
use Rattle.scen_text.specs.declared.scenario.Line.{Line}
use Rattle.scen_text.specs.declared.scenario.Phase.{Phase}
use Rattle.scen_text.specs.declared.scenario.Script.{Script}
use Rattle.scen_text.specs.Before.{add_line, at_last, command_after, declarations_of, line_after, names_of, number_for, phase_of, phases_of, place_of, script_of, scripts_from, with_line, with_name}
use Rattle.scen_text.specs.Refusals.{is_file, is_guest, is_misplaced, is_program, is_unknown, is_vhost, lacks}
use Rattle.tap_world.specs.ByNumber.{at}
use Rattle.tap_world.specs.Setup.{NamesDeclared, Numbered, Setup, device_in, place_among}
use Rattle.scen_laid.specs.Phases.{IsLine, IsPhase, commands_in}
use Rattle.scen_laid.proofs.Histories.{Accepted, Ordered, or_false, was_declared, was_ordered}
use Rattle.scen_laid.proofs.Naming.{Grows, grows_trans, named_at, named_within, with_grows}
use Rattle.scen_laid.proofs.Ordered.{LastHas, PlaceFits, lines_are, not_started}
use Rattle.scen_laid.proofs.Placed.{all_more}
use Rattle.scen_laid.proofs.Setups.{Matches, guest_is_there, program_is_there}

-- ---- what a command names

not_false : (b : Bool) → not b ≡ false → b ≡ true
not_false true e = refl
not_false false e = absurd (cc (e))

-- what isn't lacking is declared, and so is there
known : (is : ℕ → Declaration → Bool) (ds : List Declaration) (o : Option ℕ) (P : ℕ → Type 0) → lacks is ds o ≡ false → ((n : ℕ) → list_any (is n) ds ≡ true → P n) → IfSome o P
known is ds None P e there = tt
known is ds (Some n) P e there = there n (not_false (list_any (is n) ds) e)

device_within : (ns : List (List ℕ)) (c : Command) → FitForm (command_form (command_word c)) (command_values ns c) → IfSome (device_in c) (λ n. n < length ns)
unfolding command_values
device_within ns (SetIff file name flags) h = named_within ns name h.each.1.0
device_within ns (Send name hdr bytes) h = named_within ns name h.each.0
device_within ns c h = tt

names_declared : (ds : List Declaration) (t : Setup) (c : Command) → Matches ds t → is_unknown ds c ≡ false → FitForm (command_form (command_word c)) (command_values t.names c) → NamesDeclared t c
unfolding is_unknown
names_declared ds t c m e form =
    let a = or_false (lacks is_file ds (file_of c) || lacks is_guest ds (guest_of c) || lacks is_vhost ds (vhost_of c)) (lacks is_program ds (program_of c)) e in
    let b = or_false (lacks is_file ds (file_of c) || lacks is_guest ds (guest_of c)) (lacks is_vhost ds (vhost_of c)) a.0 in
    let d = or_false (lacks is_file ds (file_of c)) (lacks is_guest ds (guest_of c)) b.0 in
    record {
      file = known is_file ds (file_of c) (λ (n : ℕ). IsSome (at t.files n)) d.0 (λ n there. m.files n ∙ there);
      guest = known is_guest ds (guest_of c) (λ (n : ℕ). IsSome (at t.guests n)) d.1 (λ n there. guest_is_there ds t n m there);
      vhost = known is_vhost ds (vhost_of c) (λ (n : ℕ). IsSome (at t.vhosts n)) b.1 (λ n there. m.vhosts n ∙ there);
      program = known is_program ds (program_of c) (λ (n : ℕ). place_among n t.programs < length t.programs) a.1 (λ n there. program_is_there ds t n m there);
      device = device_within t.names c form;
    }

-- ---- a line

-- the values of a command have the form of its word
has_form : WordsAreKept → ValuesAreKept → (ns : List (List ℕ)) (name : ℕ) (w : CommandWord) (v : List Value) → FitForm (command_form w) v
    → IfSome (commanded_name w v) (λ named. name_of ns name ≡ named) → FitForm (command_form (command_word (command_of name w v))) (command_values ns (command_of name w v))
has_form words values ns name w v fits named =
    subst (λ (x : CommandWord). FitForm (command_form x) (command_values ns (command_of name w v))) (sym (words name w v))
    (subst (λ (x : List Value). FitForm (command_form w) x) (sym (values ns name w v fits named)) fits)

is_line : WordsAreKept → ValuesAreKept → (t : Setup) (e : List Sentence) (a : Option ℕ) (w : CommandWord) (v : List Value) (actors : ℕ) → unwrap_or a 0 < actors → FitForm (command_form w) v → Ordered e a w v
    → Grows (with_name (names_of e) (commanded_name w v)) t.names → Matches (declarations_of e) t → IsLine t actors (line_after e a w v)
is_line words values t e a w v actors lt fits o grows m =
    let form = has_form words values t.names (number_for (names_of e) (commanded_name w v)) w v fits (named_at (names_of e) t.names (commanded_name w v) grows) in
    record { actor = lt; declared = names_declared (declarations_of e) t (command_after e w v) m o.known form; form = form }

-- ---- scripts

scripts_length : (ls : List Line) (k n : ℕ) → length (scripts_from ls k n) ≡ n
unfolding scripts_from
scripts_length ls k zero = refl
scripts_length ls k (suc n) = ap suc (scripts_length ls (suc k) n)

same_script : (x y : Script) → Some x ≡ Some y → x ≡ y
same_script x y e = cc

script_at : (ls : List Line) (k n i : ℕ) (x : Script) → slice_get (scripts_from ls k n) i ≡ Some x → x ≡ script_of ls (k + i)
unfolding scripts_from
script_at ls k zero i x e = absurd (cc (e))
script_at ls k (suc n) zero x e = let none : k ≡ k + 0 = omega arith in sym (same_script (script_of ls k) x e) ∙ ap (script_of ls) none
script_at ls k (suc n) (suc i) x e = let next : suc k + i ≡ k + suc i = omega arith in script_at ls (suc k) n i x e ∙ ap (script_of ls) next

numbered_commands : (ls : List Line)
    → map (λ (l : Line). l.command) ls ≡ map (λ (c : Numbered). c.command) (map (λ (l : Line). record { number = l.number; command = l.command }) ls)
numbered_commands [] = refl
numbered_commands (l ∷ ls) = ap (λ (cs : List Command). l.command ∷ cs) (numbered_commands ls)

script_is : (n : ℕ) (ls : List Line) (actor : ℕ) (x : Script) → slice_get (scripts_from ls 0 n) actor ≡ Some x → x.commands ≡ commands_in (phase_of n ls) actor
unfolding phase_of
script_is n ls actor x e =
    let none : 0 + actor ≡ actor = omega arith in
    let is : x ≡ script_of ls actor = script_at ls 0 n actor x e ∙ ap (script_of ls) none in
    ap (λ (y : Script). y.commands) is ∙ numbered_commands (filter (λ (l : Line). eqb l.actor actor) ls)

-- ---- a phase

is_phase : (t : Setup) (n : ℕ) (ls : List Line) → 1 ≤ n → n ≤ 16 → AllByRecursion (IsLine t n) ls → IsPhase t (phase_of n ls)
unfolding phase_of
is_phase t n ls some few lines = record { some = some; few = few; scripts = scripts_length ls 0 n; commands = λ actor x e. script_is n ls actor x e; lines = lines }

line_in : (t : Setup) (p : Phase) (l : Line) → IsPhase t p → IsLine t p.actors l → IsPhase t (with_line l p)
line_in t p l h new = is_phase t p.actors (p.lines ++ l ∷ []) h.some h.few (all_more (IsLine t p.actors) p.lines l h.lines new)

line_at_last : (t : Setup) (l : Line) (ps : List Phase) (n : ℕ) → LastHas n ps → AllByRecursion (IsPhase t) ps → IsLine t n l → AllByRecursion (IsPhase t) (at_last l ps)
unfolding at_last
line_at_last t l [] n has h new = absurd has
line_at_last t l (p ∷ []) n has h new = (line_in t p l h.0 (subst (λ (k : ℕ). IsLine t k l) (sym has) new), tt)
line_at_last t l (p ∷ q ∷ ps) n has h new = (h.0, line_at_last t l (q ∷ ps) n has h.1 new)

-- what a line makes of phases, where it is a line for each number of actors above its own
line_taken : (t : Setup) (pl : Place) (a : Option ℕ) (l : Line) (ps : List Phase) → PlaceFits pl ps → is_misplaced pl a ≡ false → AllByRecursion (IsPhase t) ps
    → ((n : ℕ) → unwrap_or a 0 < n → IsLine t n l) → AllByRecursion (IsPhase t) (add_line pl l ps)
line_taken t Outside None l ps fits placed h new = all_more (IsPhase t) ps (phase_of 1 (l ∷ [])) h (is_phase t 1 (l ∷ []) (omega arith) (omega arith) (new 1 (lit< tt), tt))
line_taken t Outside (Some k) l ps fits placed h new = absurd (cc (placed))
line_taken t Run None l ps fits placed h new = line_at_last t l ps 1 fits h (new 1 (lit< tt))
line_taken t Run (Some k) l ps fits placed h new = absurd (cc (placed))
line_taken t (Block n) None l ps fits placed h new = absurd (cc (placed))
line_taken t (Block n) (Some k) l ps fits placed h new = line_at_last t l ps n fits h (new n (ltb-true k n (not_false _ placed)))

-- ---- all phases

-- each phase is one, in a set-up that has these declarations, and these names first
pub phased : WordsAreKept → ValuesAreKept → (version : ℕ) (e : List Sentence) → Accepted version e → (t : Setup) → Grows (names_of e) t.names → Matches (declarations_of e) t → AllByRecursion (IsPhase t) (phases_of e)
unfolding phases_of names_of declarations_of with_name
phased words values version [] h t grows m = tt
phased words values version (Skipped ∷ e) h t grows m = phased words values version e h.1 t grows m
phased words values version (Declares w v ∷ e) h t grows m =
    let c = not_started e (was_declared e h.0.last w v h.0.fine).started in
    subst (λ (ps : List Phase). AllByRecursion (IsPhase t) ps) (sym c.phases) tt
phased words values version (Orders a w v ∷ e) h t grows m =
    let o = was_ordered e h.0.last a w v h.0.fine in
    let before = phased words values version e h.1 t (grows_trans (names_of e) (with_name (names_of e) (commanded_name w v)) t.names (with_grows (names_of e) (commanded_name w v)) grows) m in
    line_taken t (place_of e) a (line_after e a w v) (phases_of e) (lines_are version e h.1).place o.place before
    (λ n lt. is_line words values t e a w v n lt h.0.fits o grows m)
phased words values version (Opens n ∷ e) h t grows m =
    all_more (IsPhase t) (phases_of e) (phase_of n []) (phased words values version e h.1 t grows m) (is_phase t n [] h.0.fits.0 h.0.fits.1 tt)
phased words values version (Ends ∷ e) h t grows m = phased words values version e h.1 t grows m
