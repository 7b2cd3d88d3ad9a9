-- The lines of answers are those of the world's answers, phase by phase and actor by actor.
use Rattle.std.proofs.Common.{◌≡◌, ◌⊎◌, ℕ, zero, suc, ◌+◌, ◌≤◌, ◌<◌, List, [], ◌∷◌, ◌++◌, map, Option, Some, None, Bool, true, refl, sym, ap, ◌∙◌, subst, inl, inr, ⊎_elim, arith}
use Rattle.std.specs.Prelude.{if◌then◌else◌, ◌==◌, ◌&&◌, filter, option_map, slice_get}
use Rattle.std.specs.List.{AllByRecursion}
use Rattle.std.proofs.lemmas.Bool.{and_from, and_parts, cases_Bool, eqb-true}
use Rattle.std.proofs.lemmas.List.{map-append}
use Rattle.std.proofs.lemmas.Option.{slice_get-map}
use Rattle.scen_words.specs.declared.command.Command.{Command}
use Rattle.scen_text.specs.declared.scenario.Phase.{Phase}
use Rattle.scen_text.specs.declared.scenario.Scenario.{Scenario}
use Rattle.scen_laid.specs.Laid.{IsLaid}
use Rattle.scen_laid.specs.Phases.{IsLine, IsPhase}
use Rattle.tap_trace.specs.declared.trace.AnswerLine.{AnswerLine}
use Rattle.tap_world.specs.declared.told.Said.{Said}
use Rattle.tap_world.specs.Project as project
use Rattle.tap_world.specs.Project.{answers_of, phase_parts}
use Rattle.tap_world.specs.Setup.{Numbered, script_in, setup_of}
use Rattle.tap_world.specs.World.{World}
use Rattle.tap_sound.proofs.Kit.{some_same}
use Rattle.tap_sound.proofs.Turned.{itself}
use Rattle.tap_legal.specs.Numbered.{AnswerAt, Asked, Told, answers_at, answers_from, asked_as, asked_from, same_told}
use Rattle.tap_sights.specs.Sight.{In, Ordered}
use Rattle.tap_sights.specs.LineFacts.{IsAhead}
use Rattle.tap_projected.specs.Projected.{AnswersAreTold, IsAnswerLine, answered_to, told_case}
use Rattle.tap_projected.proofs.Along.{Along, along_append, along_in, along_of, along_ordered}
use Rattle.tap_projected.proofs.Commands.{phases_are, script_rises, scripted}
use Rattle.tap_projected.proofs.Ended.{AreAnswered}
use Rattle.tap_projected.proofs.Lists.{all_in, all_of, filter_places, in_at, in_either, in_filter, in_first, in_map, in_second, of_filter, of_map, one_of_two, ordered_append, ordered_at, ordered_by, ordered_on}

-- ---- answers in the order of the trace

abbrev is_by : ℕ → ℕ → Said → Bool
is_by phase actor x = x.phase == phase && x.line.actor == actor

-- those of so many actors, from a number on
abbrev by_actors : ℕ → ℕ → ℕ → List Said → List Said
by_actors phase actor zero said = []
by_actors phase actor (suc more) said = filter (is_by phase actor) said ++ by_actors phase (actor + 1) more said

-- those of these phases, from a number on
abbrev by_phases : ℕ → List Phase → List Said → List Said
by_phases n [] said = []
by_phases n (p ∷ ps) said = by_actors n 0 p.actors said ++ by_phases (n + 1) ps said

lines_are : (phase actor more : ℕ) (said : List Said) → project.answer_lines phase actor more said ≡ map (λ (x : Said). x.line) (by_actors phase actor more said)
lines_are phase actor zero said = refl
lines_are phase actor (suc more) said =
    ap (λ t. answers_of phase actor said ++ t) (lines_are phase (actor + 1) more said)
    ∙ sym (map-append (λ (x : Said). x.line) (filter (is_by phase actor) said) (by_actors phase (actor + 1) more said))

is_by_it : (x : Said) → is_by x.phase x.line.actor x ≡ true
is_by_it x = and_from (x.phase == x.phase) (x.line.actor == x.line.actor) (itself x.phase) (itself x.line.actor)

by_whom : (phase actor : ℕ) (x : Said) → is_by phase actor x ≡ true → (x.phase ≡ phase) × (x.line.actor ≡ actor)
by_whom phase actor x e =
    let both = and_parts (x.phase == phase) (x.line.actor == actor) e in
    (eqb-true x.phase phase both.0, eqb-true x.line.actor actor both.1)

of_actors : (phase actor more : ℕ) (said : List Said) (x : Said) → In x (by_actors phase actor more said)
    → In x said × (x.phase ≡ phase) × (actor ≤ x.line.actor)
of_actors phase actor zero said x i = absurd i
of_actors phase actor (suc more) said x i = ⊎_elim
    (λ j.
    let kept = of_filter (is_by phase actor) said x j in
    let whose = by_whom phase actor x kept.1 in
    let same = whose.1 in
    (kept.0, whose.0, omega (arith, same)))
    (λ j. let r = of_actors phase (actor + 1) more said x j in let above = r.2 in (r.0, r.1, omega (arith, above)))
    (in_either x (filter (is_by phase actor) said) (by_actors phase (actor + 1) more said) i)

in_actors : (phase actor more : ℕ) (said : List Said) (x : Said) → In x said → x.phase ≡ phase → actor ≤ x.line.actor → x.line.actor < actor + more
    → In x (by_actors phase actor more said)
in_actors phase actor zero said x i p from to = absurd (omega (arith, from, to))
in_actors phase actor (suc more) said x i p from to = ⊎_elim
    (λ is. in_first x (filter (is_by phase actor) said) (by_actors phase (actor + 1) more said)
    (in_filter (is_by phase actor) said x i
    (and_from (x.phase == phase) (x.line.actor == actor) (ap (λ n. x.phase == n) (sym p) ∙ itself x.phase) is)))
    (λ is. in_second x (filter (is_by phase actor) said) (by_actors phase (actor + 1) more said)
    (in_actors phase (actor + 1) more said x i p (grind (arith, is, from)) (omega (arith, to))))
    (cases_Bool (x.line.actor == actor))

of_phases : (n : ℕ) (ps : List Phase) (said : List Said) (x : Said) → In x (by_phases n ps said) → In x said × (n ≤ x.phase)
of_phases n [] said x i = absurd i
of_phases n (p ∷ ps) said x i = ⊎_elim
    (λ j. let r = of_actors n 0 p.actors said x j in let same = r.1 in (r.0, omega (arith, same)))
    (λ j. let r = of_phases (n + 1) ps said x j in let above = r.1 in (r.0, omega (arith, above)))
    (in_either x (by_actors n 0 p.actors said) (by_phases (n + 1) ps said) i)

in_phases : (n : ℕ) (ps : List Phase) (said : List Said) (x : Said) (k : ℕ) (p : Phase) → In x said → slice_get ps k ≡ Some p → x.phase ≡ n + k
    → x.line.actor < p.actors → In x (by_phases n ps said)
in_phases n [] said x k p i e is lt = absurd (cc (e))
in_phases n (q ∷ ps) said x zero p i e is lt =
    let few : x.line.actor < q.actors = subst (λ (r : Phase). x.line.actor < r.actors) (sym (some_same q p e)) lt in
    in_first x (by_actors n 0 q.actors said) (by_phases (n + 1) ps said)
    (in_actors n 0 q.actors said x i (omega (arith, is)) (omega arith) (omega (arith, few)))
in_phases n (q ∷ ps) said x (suc k) p i e is lt =
    in_second x (by_actors n 0 q.actors said) (by_phases (n + 1) ps said) (in_phases (n + 1) ps said x k p i e (omega (arith, is)) lt)

-- ---- what was answered is a command of its phase and its actor

record CanAnswer (s : Scenario) (x : Said) : Type 0 where
  p : Phase
  is_phase : slice_get s.phases x.phase ≡ Some p
  few : x.line.actor < p.actors
  command : Command
  asked : slice_get (asked_from 0 s.phases) x.line.command ≡ Some (record { told = answered_to x; command = command })

abbrev line_in : Said → AnswerLine
line_in x = x.line

abbrev number_in : AnswerLine → ℕ
number_in x = x.command

in_answered : (said : List Said) (phase actor : ℕ) (x : Said) → In x said → is_by phase actor x ≡ true
    → In x.line.command (map number_in (answers_of phase actor said))
in_answered said phase actor x i is =
    in_map number_in (answers_of phase actor said) x.line
    (in_map line_in (filter (is_by phase actor) said) x (in_filter (is_by phase actor) said x i is))

can_answer : (s : Scenario) (w : World) → IsLaid s → AreAnswered s w → (x : Said) → In x w.said → CanAnswer s x
can_answer s w laid h x i =
    let p = h.there x i in
    let told = subst (In x.line.command) (sym (h.all x.phase x.line.actor p.0 p.1)) (in_answered w.said x.phase x.line.actor x i (is_by_it x)) in
    let c = of_map (λ (n : Numbered). n.number) (script_in p.0 x.line.actor) x.line.command told in
    let its = scripted s.phases x.phase x.line.actor p.0 c.0 laid.numbers p.1 c.1 in
    let phase = all_in (IsPhase (setup_of s)) s.phases p.0 laid.phases (in_at s.phases x.phase p.0 p.1) in
    let line = all_in (IsLine (setup_of s) p.0.actors) p.0.lines its.line phase.lines its.there in
    record {
      p = p.0;
      is_phase = p.1;
      few = subst (λ n. n < p.0.actors) its.whose line.actor;
      command = c.0.command;
      asked = subst (λ n. slice_get (asked_from 0 s.phases) n
          ≡ Some (record { told = record { phase = x.phase; actor = x.line.actor; command = n }; command = c.0.command })) c.2 its.asked;
    }

-- ---- line by line

abbrev IsOf : Scenario → World → Said → AnswerAt → Type 0
IsOf s w x a = IsAnswerLine (told_case s w) x a

same_as_itself : (t : Told) → same_told t t ≡ true
same_as_itself t =
    and_from (t.phase == t.phase && t.actor == t.actor) (t.command == t.command)
    (and_from (t.phase == t.phase) (t.actor == t.actor) (itself t.phase) (itself t.actor)) (itself t.command)

asked_itself : (t : Told) (k : Command) → asked_as t (Some (record { told = t; command = k })) ≡ Some k
asked_itself t k = ap (λ (b : Bool). if b then Some k else None) (same_as_itself t)

abbrev told_at : ℕ → Said → Told
told_at n x = record { phase = n; actor = x.line.actor; command = x.line.command }

told_answers : (s : Scenario) (w : World) (n : ℕ) (xs : List Said) (line : ℕ) → AllByRecursion (λ (x : Said). CanAnswer s x × (x.phase ≡ n)) xs
    → Along (IsOf s w) xs (answers_from (asked_from 0 s.phases) line n (map (λ (x : Said). x.line) xs))
told_answers s w n [] line all = tt
told_answers s w n (x ∷ xs) line all =
    let h = all.0.0 in
    let asked : slice_get (asked_from 0 s.phases) x.line.command ≡ Some (record { told = told_at n x; command = h.command }) =
    h.asked ∙ ap (λ m. Some (record { told = told_at m x; command = h.command })) all.0.1 in (
      record {
        told = ap (λ m. told_at m x) (sym all.0.1);
        seen = refl;
        answer = refl;
        command = h.command;
        asked = asked;
        is_asked = ap (λ (o : Option Asked). asked_as (told_at n x) o) asked ∙ asked_itself (told_at n x) h.command;
      },
      told_answers s w n xs _ all.1,
    )

phase_told : (s : Scenario) (w : World) (n more line : ℕ) → ((x : Said) → In x w.said → CanAnswer s x)
    → Along (IsOf s w) (by_actors n 0 more w.said) (answers_from (asked_from 0 s.phases) line n (project.answer_lines n 0 more w.said))
phase_told s w n more line can =
    subst (λ (ls : List AnswerLine). Along (IsOf s w) (by_actors n 0 more w.said) (answers_from (asked_from 0 s.phases) line n ls))
    (sym (lines_are n 0 more w.said))
    (told_answers s w n (by_actors n 0 more w.said) line
    (all_of (λ (x : Said). CanAnswer s x × (x.phase ≡ n)) (by_actors n 0 more w.said) (λ x i.
    let r = of_actors n 0 more w.said x i in (can x r.0, r.1))))

phases_told : (s : Scenario) (w : World) (n : ℕ) (ps : List Phase) (line : ℕ) → ((x : Said) → In x w.said → CanAnswer s x)
    → Along (IsOf s w) (by_phases n ps w.said) (answers_at (asked_from 0 s.phases) line n (phase_parts (setup_of s) w n ps))
phases_told s w n [] line can = tt
phases_told s w n (p ∷ ps) line can =
    along_append (IsOf s w) (by_actors n 0 p.actors w.said) (by_phases (n + 1) ps w.said) _ _ (phase_told s w n p.actors _ can)
    (phases_told s w (n + 1) ps _ can)

-- ---- in order

abbrev TellsAhead : Told → Told → Type 0
TellsAhead a b = (a.phase < b.phase) ⊎ (a.phase ≡ b.phase) × ((a.actor < b.actor) ⊎ (a.actor ≡ b.actor) × (a.command < b.command))

abbrev SaidAhead : Said → Said → Type 0
SaidAhead x y = TellsAhead (answered_to x) (answered_to y)

-- numbers of answers rise
abbrev Rise : List Said → ℕ → ℕ → Type 0
Rise said phase actor = Ordered (λ (m n : ℕ). m < n) (map number_in (answers_of phase actor said))

actors_ordered : (phase actor more : ℕ) (said : List Said) → ((a : ℕ) → Rise said phase a) → Ordered SaidAhead (by_actors phase actor more said)
actors_ordered phase actor zero said rise = tt
actors_ordered phase actor (suc more) said rise =
    let mine = filter (is_by phase actor) said in
    let by_number = ordered_by (λ (a b : AnswerLine). a.command < b.command) line_in mine
    (ordered_by (λ (m n : ℕ). m < n) number_in (answers_of phase actor said) (rise actor)) in
    let whose : (x : Said) → In x mine → (x.phase ≡ phase) × (x.line.actor ≡ actor) =
    λ x i. by_whom phase actor x (of_filter (is_by phase actor) said x i).1 in
    ordered_append SaidAhead mine (by_actors phase (actor + 1) more said)
    (ordered_on (λ (x y : Said). x.line.command < y.line.command) SaidAhead mine
    (λ x y i j lt. let a = whose x i in let b = whose y j in inr (a.0 ∙ sym b.0, inr (a.1 ∙ sym b.1, lt))) by_number)
    (actors_ordered phase (actor + 1) more said rise)
    (λ x y i j.
    let a = whose x i in
    let b = of_actors phase (actor + 1) more said y j in
    let own = a.1 in
    let above = b.2 in
    inr (a.0 ∙ sym b.1, inl (omega (arith, own, above))))

phases_ordered : (n : ℕ) (ps : List Phase) (said : List Said) → ((k : ℕ) (p : Phase) → slice_get ps k ≡ Some p → (actor : ℕ) → Rise said (n + k) actor)
    → Ordered SaidAhead (by_phases n ps said)
phases_ordered n [] said rise = tt
phases_ordered n (p ∷ ps) said rise =
    ordered_append SaidAhead (by_actors n 0 p.actors said) (by_phases (n + 1) ps said)
    (actors_ordered n 0 p.actors said (λ a. subst (λ m. Rise said m a) (let z : n + 0 ≡ n = omega arith in z) (rise 0 p refl a)))
    (phases_ordered (n + 1) ps said (λ k q e a. subst (λ m. Rise said m a) (let z : n + suc k ≡ n + 1 + k = omega arith in z) (rise (suc k) q e a)))
    (λ x y i j.
    let a = of_actors n 0 p.actors said x i in
    let b = of_phases (n + 1) ps said y j in
    let now = a.1 in
    let later = b.1 in
    inl (omega (arith, now, later)))

-- ---- all of it

module _ (s : Scenario) (w : World) (laid : IsLaid s) (h : AreAnswered s w) where
  answers_along : Along (IsOf s w) (by_phases 0 (setup_of s).phases w.said) (told_case s w).answers
  answers_along = phases_told s w 0 (setup_of s).phases 2 (can_answer s w laid h)

  rises : (phase actor : ℕ) (p : Phase) → slice_get s.phases phase ≡ Some p → Rise w.said phase actor
  rises phase actor p is = subst (Ordered (λ (m n : ℕ). m < n)) (h.all phase actor p is) (script_rises s.phases phase actor p laid.numbers is)

  in_order : (x : Said) → In x w.said → In x (by_phases 0 (setup_of s).phases w.said)
  in_order x i =
      let can = can_answer s w laid h x i in
      in_phases 0 (setup_of s).phases w.said x x.phase can.p i (ap (λ (ps : List Phase). slice_get ps x.phase) (phases_are s) ∙ can.is_phase)
      (let z : x.phase ≡ 0 + x.phase = omega arith in z) can.few

  -- an answer that was given before isn't given again
  not_again : (i j : ℕ) (x y : Said) → i < j → slice_get w.said i ≡ Some x → slice_get w.said j ≡ Some y → answered_to x ≡ answered_to y → ⊥
  not_again i j x y lt at_x at_y same =
      let phase = x.phase in
      let actor = x.line.actor in
      let can = can_answer s w laid h x (in_at w.said i x at_x) in
      let its : is_by phase actor y ≡ true =
      subst (λ (t : Told). (t.phase == phase && t.actor == actor) ≡ true) same (is_by_it x) in
      let r = filter_places (is_by phase actor) w.said i j x y lt at_x at_y (is_by_it x) its in
      let mine = filter (is_by phase actor) w.said in
      let number : (k : ℕ) (z : Said) → slice_get mine k ≡ Some z → slice_get (map number_in (answers_of phase actor w.said)) k ≡ Some z.line.command =
      λ k z e. slice_get-map number_in (map line_in mine) k ∙ ap (λ (o : Option AnswerLine). option_map number_in o) (slice_get-map line_in mine k)
      ∙ ap (λ (o : Option Said). option_map number_in (option_map line_in o)) e in
      let less = ordered_at (λ (m n : ℕ). m < n) (map number_in (answers_of phase actor w.said)) r.0 r.1 x.line.command y.line.command
      (rises phase actor can.p can.is_phase) r.2 (number r.0 x r.3) (number r.1 y r.4) in
      let one = ap (λ (t : Told). t.command) same in
      omega (arith, less, one)

  pub answers_are_told : AnswersAreTold w (told_case s w)
  answers_are_told =
      let xs = by_phases 0 (setup_of s).phases w.said in
      record {
        each = λ x i. along_in (IsOf s w) xs (told_case s w).answers x answers_along (in_order x i);
        only = λ a i.
            let r = along_of (IsOf s w) xs (told_case s w).answers a answers_along i in
            (r.0, (of_phases 0 (setup_of s).phases w.said r.0 r.1).0, r.2);
        once = λ i j x y at_x at_y same.
            one_of_two i j (λ lt. not_again i j x y lt at_x at_y same) (λ lt. not_again j i y x lt at_y at_x (sym same));
      }

  pub answers_are_ahead : Ordered IsAhead (told_case s w).answers
  answers_are_ahead =
      let ordered = phases_ordered 0 (setup_of s).phases w.said (λ k p is actor.
      subst (λ m. Rise w.said m actor) (let z : k ≡ 0 + k = omega arith in z)
      (rises k actor p (ap (λ (ps : List Phase). slice_get ps k) (sym (phases_are s)) ∙ is))) in
      along_ordered (IsOf s w) SaidAhead IsAhead (by_phases 0 (setup_of s).phases w.said) (told_case s w).answers
      (λ x u a b p q o. subst (λ (t : Told). TellsAhead t b.told) (sym p.told) (subst (λ (t : Told). TellsAhead (answered_to x) t) (sym q.told) o))
      answers_along ordered

  -- each command has its answer
  pub has_answer : (phase actor : ℕ) (p : Phase) (c : Numbered) → slice_get s.phases phase ≡ Some p → In c (script_in p actor)
      → (a : AnswerAt) × In a (told_case s w).answers × (a.told ≡ record { phase = phase; actor = actor; command = c.number })
  has_answer phase actor p c is i =
      let told = subst (In c.number) (h.all phase actor p is) (in_map (λ (n : Numbered). n.number) (script_in p actor) c i) in
      let line = of_map number_in (answers_of phase actor w.said) c.number told in
      let said = of_map line_in (filter (is_by phase actor) w.said) line.0 line.1 in
      let kept = of_filter (is_by phase actor) w.said said.0 said.1 in
      let whose = by_whom phase actor said.0 kept.1 in
      let number : said.0.line.command ≡ c.number = ap number_in said.2 ∙ line.2 in
      let a = along_in (IsOf s w) (by_phases 0 (setup_of s).phases w.said) (told_case s w).answers said.0 answers_along (in_order said.0 kept.0) in (
        a.0,
        a.1,
        a.2.told ∙ (λ k. record { phase = whose.0 k; actor = whose.1 k; command = number k }),
      )
