-- Generated scenarios are laid.
use Rattle.std.proofs.Common.{◌≡◌, ℕ, zero, suc, ◌≤◌, Bool, true, false, cond, eqb, List, [], ◌∷◌, ◌++◌, codes, map, filter, refl, ap, subst, ◌∙◌}
use Rattle.std.proofs.lemmas.List.{map-append}
use Rattle.std.proofs.lemmas.List.Elements.{filter-append}
use Rattle.scen_words.specs.declared.command.Command.{Command}
use Rattle.scen_words.specs.declared.declaration.Declaration.{Declaration}
use Rattle.scen_words.specs.declared.sentence.Sentence.TheVariants.{Ends}
use Rattle.scen_words.specs.Laws.{ValuesAreKept, WordsAreKept}
use Rattle.scen_text.specs.declared.scenario.Line.{Line}
use Rattle.scen_text.specs.declared.scenario.Phase.{Phase}
use Rattle.scen_text.specs.declared.scenario.Scenario.{Scenario}
use Rattle.scen_text.specs.Before.{declarations_of, names_of, phase_of, phases_of, scripts_from, with_name}
use Rattle.scen_text.specs.Refusals.{said_in}
use Rattle.scen_text.specs.Scenario.{scenario_of}
use Rattle.scen_gen.specs.Generated.{attachments, generated, has_read, lines, lines_at, read_line, reads, send_line, send_of, sends, traffic}
use Rattle.scen_laid.specs.Generated.{GeneratedIsLaid}
use Rattle.scen_laid.specs.Laid.{IsLaid}
use Rattle.scen_laid.proofs.Laid.{said_is_laid}
use Rattle.scen_laid.proofs.Sent.{all_accepted, few_said, four, sends_are, sent}

-- ---- scripts

abbrev commands_of : ℕ → List Line → List Command
commands_of actor ls = map (λ (l : Line). l.command) (filter (λ (l : Line). eqb l.actor actor) ls)

commands_more : (actor : ℕ) (xs ys : List Line) → commands_of actor (xs ++ ys) ≡ commands_of actor xs ++ commands_of actor ys
commands_more actor xs ys =
    ap (map (λ (l : Line). l.command)) (filter-append (λ (l : Line). eqb l.actor actor) xs ys)
    ∙ map-append (λ (l : Line). l.command) (filter (λ (l : Line). eqb l.actor actor) xs) (filter (λ (l : Line). eqb l.actor actor) ys)

sends_at : (b : Bool) (i : ℕ) → commands_of 0 (cond b (send_line i ∷ read_line i ∷ []) (send_line i ∷ [])) ≡ send_of i ∷ []
sends_at true i = refl
sends_at false i = refl

sends_in : (n : ℕ) → commands_of 0 (lines n) ≡ sends n
unfolding lines sends
sends_in zero = refl
sends_in (suc i) = commands_more 0 (lines i) (lines_at i) ∙ ap (λ (cs : List Command). cs ++ commands_of 0 (lines_at i)) (sends_in i) ∙ ap (λ (cs : List Command). sends i ++ cs) (sends_at (has_read i) i)

reads_in_lines : (b : Bool) (i : ℕ) → commands_of 1 (cond b (send_line i ∷ read_line i ∷ []) (send_line i ∷ [])) ≡ cond b ((read_line i).command ∷ []) []
reads_in_lines true i = refl
reads_in_lines false i = refl

reads_in : (n : ℕ) → commands_of 1 (lines n) ≡ reads n
unfolding lines reads
reads_in zero = refl
reads_in (suc i) = commands_more 1 (lines i) (lines_at i) ∙ ap (λ (cs : List Command). cs ++ commands_of 1 (lines_at i)) (reads_in i) ∙ ap (λ (cs : List Command). reads i ++ cs) (reads_in_lines (has_read i) i)

abbrev two_scripts : List Line → List Command → List Command → Phase
two_scripts ls xs ys = record { actors = 2; scripts = record { commands = xs } ∷ record { commands = ys } ∷ []; lines = ls }

traffic_is : (n : ℕ) → phase_of 2 (lines n) ≡ traffic n
unfolding phase_of scripts_from
traffic_is n =
    ap (λ (cs : List Command). two_scripts (lines n) cs (commands_of 1 (lines n))) (sends_in n) ∙ ap (λ (cs : List Command). two_scripts (lines n) (sends n) cs) (reads_in n)

-- ---- the scenario

abbrev scenario_by : List Declaration → List (List ℕ) → List Phase → Scenario
scenario_by ds names phases = record { version = 1; declarations = ds; names = names; phases = phases }

pub generated_is : (n : ℕ) → n ≤ 100000 → scenario_of (said_in 1 (Ends ∷ sent n)) ≡ generated n
unfolding scenario_of declarations_of names_of with_name phases_of
generated_is n h =
    let s = sends_are n h in
    ap (λ (ds : List Declaration). scenario_by ds (names_of (sent n)) (phases_of (sent n))) s.declarations
    ∙ ap (λ (names : List (List ℕ)). scenario_by four names (phases_of (sent n))) s.names
    ∙ ap (λ (ps : List Phase). scenario_by four (codes "tap0" ∷ []) ps) s.phases
    ∙ ap (λ (p : Phase). scenario_by four (codes "tap0" ∷ []) (attachments ∷ p ∷ [])) (traffic_is n)

pub generated_is_laid : WordsAreKept → ValuesAreKept → GeneratedIsLaid
generated_is_laid words values n h =
    subst IsLaid (generated_is n h) (said_is_laid words values (said_in 1 (Ends ∷ sent n)) (record { accepted = all_accepted n h; few = few_said n h }))
