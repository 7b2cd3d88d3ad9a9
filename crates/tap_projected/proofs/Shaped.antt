-- The trace of a run has the form that sights ask for.
use Rattle.std.proofs.Common.{◌≡◌, ℕ, ◌+◌, List, [], ◌∷◌, length, map, Option, Some, None, Bool, true, refl, sym, ap, ◌∙◌, subst, arith}
use Rattle.std.specs.Prelude.{if◌then◌else◌, ◌==◌, filter, drop, option_map, slice_get}
use Rattle.scen_text.specs.declared.scenario.Line.{Line}
use Rattle.scen_text.specs.declared.scenario.Phase.{Phase}
use Rattle.scen_text.specs.declared.scenario.Scenario.{Scenario}
use Rattle.scen_laid.specs.Laid.{IsLaid}
use Rattle.tap_trace.specs.declared.trace.PhasePart.{PhasePart}
use Rattle.tap_world.specs.ByNumber.{numbered}
use Rattle.tap_world.specs.Guests.{Guest}
use Rattle.tap_world.specs.Line.{File}
use Rattle.tap_world.specs.Project.{answer_lines, file_part, guest_part, op_lines, phase_parts, place_lines, project}
use Rattle.tap_world.specs.Setup.{Declared, Setup, script_in, setup_of}
use Rattle.tap_world.specs.Steady.{IsThere}
use Rattle.tap_world.specs.World.{World}
use Rattle.tap_sound.proofs.Kit.{some_same}
use Rattle.tap_sound.proofs.Turned.{itself}
use Rattle.tap_legal.specs.Case.{fails_as, of_file}
use Rattle.tap_legal.specs.LegalAnswers.{is_phase}
use Rattle.tap_legal.specs.LegalGuests.{is_guest}
use Rattle.tap_legal.specs.LegalLines.{is_file}
use Rattle.tap_legal.specs.Numbered.{AnswerAt, Asked, GuestAt, PhaseAt, behind_files, behind_phases, end_line, files_at, guests_at, phase_lines, phases_at}
use Rattle.tap_sights.specs.Sight.{In}
use Rattle.tap_sights.specs.LineFacts.{IsShaped}
use Rattle.tap_projected.specs.Projected.{told_case}
use Rattle.tap_projected.proofs.Answers.{answers_are_ahead, answers_are_told, has_answer}
use Rattle.tap_projected.proofs.Commands.{numbered_of, of_line}
use Rattle.tap_projected.proofs.Ended.{AreAnswered}
use Rattle.tap_projected.proofs.Lists.{at_in, in_filter, in_map}

-- ---- lines are the wanted ones

as_next : {A B : Type 0} (end : ℕ) (same : A → B → Bool) (line : B → ℕ) (x : A) (y : B) (xs : List A) (ys : List B) → same x y ≡ true
    → fails_as end same line xs ys ≡ [] → fails_as end same line (x ∷ xs) (y ∷ ys) ≡ []
as_next end same line x y xs ys is rest = ap (λ (b : Bool). if b then fails_as end same line xs ys else line y ∷ []) is ∙ rest

phases_fit : (end n line : ℕ) (s : Setup) (w : World) (ps : List Phase)
    → fails_as end is_phase (λ (l : PhaseAt). l.line) ps (phases_at line n (phase_parts s w n ps)) ≡ []
phases_fit end n line s w [] = refl
phases_fit end n line s w (p ∷ ps) =
    let part : PhasePart = record { actors = p.actors; ops = op_lines s n w.ops; answers = answer_lines n 0 p.actors w.said } in
    as_next end is_phase (λ (l : PhaseAt). l.line) p (record { line = line; phase = n; actors = p.actors }) ps
    (phases_at (line + phase_lines part) (n + 1) (phase_parts s w (n + 1) ps)) (itself p.actors) (phases_fit end (n + 1) (line + phase_lines part) s w ps)

abbrev first_of : Option File → Option ℕ
first_of f = option_map (λ (x : File). x.first) f

abbrev first_in : Option Declared → Option ℕ
first_in d = option_map (λ (x : Declared). x.first) d

files_fit : (end n line : ℕ) (fs : List (Option File)) (ds : List (Option Declared)) → map first_of fs ≡ map first_in ds
    → fails_as end is_file of_file (numbered n ds) (files_at line (map file_part (numbered n fs))) ≡ []
files_fit end n line [] [] e = refl
files_fit end n line [] (d ∷ ds) e = absurd (cc (e))
files_fit end n line (f ∷ fs) [] e = absurd (cc (e))
files_fit end n line (None ∷ fs) (None ∷ ds) e = files_fit end (n + 1) line fs ds (ap (λ (q : List (Option ℕ)). drop 1 q) e)
files_fit end n line (None ∷ fs) (Some d ∷ ds) e =
    let head = ap (λ (q : List (Option ℕ)). slice_get q 0) e in
    absurd (cc (some_same _ _ head))
files_fit end n line (Some f ∷ fs) (None ∷ ds) e =
    let head = ap (λ (q : List (Option ℕ)). slice_get q 0) e in
    absurd (cc (some_same _ _ head))
files_fit end n line (Some f ∷ fs) (Some d ∷ ds) e =
    let behind : ℕ = line + 1 + length (place_lines f.first f.line) in
    as_next end is_file of_file (n, d) (record { line = line; part = file_part (n, f) }) (numbered (n + 1) ds)
    (files_at behind (map file_part (numbered (n + 1) fs))) (itself n) (files_fit end (n + 1) behind fs ds (ap (λ (q : List (Option ℕ)). drop 1 q) e))

guests_fit : (end n line : ℕ) (gs : List (Option Guest))
    → fails_as end is_guest (λ (l : GuestAt). l.line)
    (numbered n (map (λ (g : Option Guest). option_map (λ (x : Guest). x.memory.regions) g) gs)) (guests_at line (map guest_part (numbered n gs))) ≡ []
guests_fit end n line [] = refl
guests_fit end n line (None ∷ gs) = guests_fit end (n + 1) line gs
guests_fit end n line (Some g ∷ gs) =
    let behind : ℕ = line + 1 + length g.steps in
    as_next end is_guest (λ (l : GuestAt). l.line) (n, g.memory.regions) (record { line = line; guest = n })
    (numbered (n + 1) (map (λ (h : Option Guest). option_map (λ (x : Guest). x.memory.regions) h) gs))
    (guests_at behind (map guest_part (numbered (n + 1) gs))) (itself n) (guests_fit end (n + 1) behind gs)

-- ---- the form

module _ (s : Scenario) (w : World) (laid : IsLaid s) (h : AreAnswered s w) (there : IsThere (setup_of s) w) where
  is_answered : (x : Asked) → In x (told_case s w).asked → (a : AnswerAt) × In a (told_case s w).answers × (a.told ≡ x.told)
  is_answered x i =
      let at = at_in (told_case s w).asked x i in
      let l = of_line 0 0 s.phases at.0 x laid.numbers at.1 in
      let mine = filter (λ (k : Line). k.actor == l.l.actor) l.p.lines in
      let script : In (numbered_of l.l) (script_in l.p l.l.actor) =
      in_map numbered_of mine l.l (in_filter (λ (k : Line). k.actor == l.l.actor) l.p.lines l.l l.is_line (itself l.l.actor)) in
      let a = has_answer s w laid h l.k l.l.actor l.p (numbered_of l.l) l.is_phase script in
      let first : l.k ≡ 0 + l.k = omega arith in (
        a.0,
        a.1,
        a.2 ∙ ap (λ k. record { phase = k; actor = l.l.actor; command = l.l.number }) first ∙ sym (ap (λ (y : Asked). y.told) l.is),
      )

  pub is_shaped : IsShaped (told_case s w)
  is_shaped =
      let t = project (setup_of s) w in
      let behind : ℕ = behind_phases 2 t.phases in
      record {
        numbers = λ n x e.
            let l = of_line 0 0 s.phases n x laid.numbers e in
            let number = l.number in
            let same : l.l.number ≡ n = omega (arith, number) in
            ap (λ (y : Asked). y.told.command) l.is ∙ same;
        phases = phases_fit (end_line t) 0 2 (setup_of s) w (setup_of s).phases;
        files = files_fit (end_line t) 0 behind w.files (setup_of s).files there.files;
        guests = subst (λ (gs : _). fails_as (end_line t) is_guest (λ (l : GuestAt). l.line) (numbered 0 gs) (told_case s w).guests ≡ []) there.guests
            (guests_fit (end_line t) 0 (behind_files behind t.files) w.guests);
        asked = λ a i. let r = (answers_are_told s w laid h).only a i in (r.2.command, r.2.asked, r.2.is_asked);
        answered = is_answered;
        ahead = answers_are_ahead s w laid h;
        entries = refl;
      }
