-- The line of a command that is under way, by its number.
use Rattle.std.proofs.Common.{◌≡◌, ℕ, zero, suc, ◌+◌, List, [], ◌∷◌, length, map, filter, Bool, true, false, Some, refl, sym, ap, ◌∙◌, arith}
use Rattle.std.specs.Prelude.{◌==◌, flat_map, if◌then◌else◌, slice_get}
use Rattle.scen_text.specs.declared.scenario.Line.{Line}
use Rattle.scen_text.specs.declared.scenario.Phase.{Phase}
use Rattle.scen_text.specs.declared.scenario.Scenario.{Scenario}
use Rattle.tap_world.specs.Setup.{Numbered, Setup, line_of, script_in, setup_of}
use Rattle.tap_sound.specs.Fresh.{AreNumbered, ArePhasesNumbered}
use Rattle.tap_sound.proofs.Kit.{some_same}
use Rattle.tap_steady.proofs.Kit.{at_front, at_plus, phases_are}

-- ---- a command of a script is one of the phase's lines

-- the line of a command of an actor
pub record IsItsLine (lines : List Line) (actor : ℕ) (c : Numbered) : Type 0 where
  pub index : ℕ
  pub line : Line
  pub here : slice_get lines index ≡ Some line
  pub is_actors : (line.actor == actor) ≡ true
  pub is : record { number = line.number; command = line.command } ≡ c

its_line : (lines : List Line) (actor i : ℕ) (c : Numbered)
    → slice_get (map (λ (l : Line). record { number = l.number; command = l.command }) (filter (λ (l : Line). l.actor == actor) lines)) i ≡ Some c
    → IsItsLine lines actor c
its_line [] actor i c e = absurd (cc (e))
its_line (l ∷ ls) actor i c e = go (l.actor == actor) refl i e (its_line ls actor)
  where
    named : Line → Numbered
    named x = record { number = x.number; command = x.command }

    behind : IsItsLine ls actor c → IsItsLine (l ∷ ls) actor c
    behind h = record { index = suc h.index; line = h.line; here = h.here; is_actors = h.is_actors; is = h.is }

    go : (b : Bool) → (l.actor == actor) ≡ b → (i : ℕ)
        → slice_get (map (λ (x : Line). record { number = x.number; command = x.command }) (if b then l ∷ filter (λ (x : Line). x.actor == actor) ls else filter (λ (x : Line). x.actor == actor) ls)) i ≡ Some c
        → ((j : ℕ) (d : Numbered) → slice_get (map (λ (x : Line). record { number = x.number; command = x.command }) (filter (λ (x : Line). x.actor == actor) ls)) j ≡ Some d → IsItsLine ls actor d)
        → IsItsLine (l ∷ ls) actor c
    go true is zero h rest = record { index = 0; line = l; here = refl; is_actors = is; is = some_same _ c h }
    go true is (suc j) h rest = behind (rest j c h)
    go false is j h rest = behind (rest j c h)

-- ---- lines are numbered

numbered_at : (n : ℕ) (lines : List Line) (i : ℕ) (l : Line) → AreNumbered n lines → slice_get lines i ≡ Some l → l.number ≡ n + i
numbered_at n [] i l h e = absurd (cc (e))
numbered_at n (x ∷ xs) zero l h e = ap (λ (q : Line). q.number) (sym (some_same x l e)) ∙ h.0 ∙ omega arith
numbered_at n (x ∷ xs) (suc i) l h e = let rest = numbered_at (n + 1) xs i l h.1 e in omega (arith, rest)

-- behind so many lines a line of a later phase has its number's place
found_at : (n : ℕ) (ps : List Phase) (k : ℕ) (p : Phase) (i : ℕ) (l : Line) → ArePhasesNumbered n ps → slice_get ps k ≡ Some p → slice_get p.lines i ≡ Some l
    → (m : ℕ) × (l.number ≡ n + m) × (slice_get (flat_map (λ (q : Phase). q.lines) ps) m ≡ Some l)
found_at n [] k p i l h e at_ = absurd (cc (e))
found_at n (q ∷ qs) zero p i l h e at_ =
    let same : q ≡ p = some_same q p e in
    let here : slice_get q.lines i ≡ Some l = ap (λ (x : Phase). slice_get x.lines i) same ∙ at_ in
    (i, numbered_at n q.lines i l h.0 here, at_front q.lines (flat_map (λ (x : Phase). x.lines) qs) i l here)
found_at n (q ∷ qs) (suc k) p i l h e at_ =
    let r = found_at (n + length q.lines) qs k p i l h.1 e at_ in
    let number = r.1 in
    (length q.lines + r.0, omega (arith, number), at_plus q.lines (flat_map (λ (x : Phase). x.lines) qs) r.0 (length q.lines + r.0) refl ∙ r.2)

-- the line of a command's number is the command's
pub record HasLine (s : Setup) (actor : ℕ) (c : Numbered) : Type 0 where
  pub line : Line
  pub is_line : line_of s c.number ≡ Some line
  pub actor_is : (line.actor == actor) ≡ true
  pub is : record { number = line.number; command = line.command } ≡ c

pub line_is : (s : Scenario) (k : ℕ) (p : Phase) (actor i : ℕ) (c : Numbered) → ArePhasesNumbered 0 s.phases → slice_get (setup_of s).phases k ≡ Some p
    → slice_get (script_in p actor) i ≡ Some c → HasLine (setup_of s) actor c
line_is s k p actor i c numbered at_ is =
    let l = its_line p.lines actor i c is in
    let r = found_at 0 s.phases k p l.index l.line numbered (ap (λ (ps : List Phase). slice_get ps k) (sym (phases_are s)) ∙ at_) l.here in
    let number = r.1 in
    let same : l.line.number ≡ c.number = ap (λ (q : Numbered). q.number) l.is in
    let m : c.number ≡ r.0 = omega (arith, number, same) in
    record {
      line = l.line;
      is_line = ap (λ (ps : List Phase). slice_get (flat_map (λ (q : Phase). q.lines) ps) c.number) (phases_are s)
          ∙ ap (λ (n : ℕ). slice_get (flat_map (λ (q : Phase). q.lines) s.phases) n) m ∙ r.2;
      actor_is = l.is_actors;
      is = l.is;
    }
