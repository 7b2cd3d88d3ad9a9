-- Commands are told apart by their numbers, over the scripts of all actors and phases.
use Rattle.std.proofs.Common.{◌≡◌, ℕ, zero, suc, ◌+◌, ◌<◌, ◌≤◌, List, [], ◌∷◌, length, map, filter, Bool, true, false, cond, Some, ⊎_elim, refl, sym, ap, ◌∙◌, subst, arith}
use Rattle.std.specs.Prelude.{◌==◌, fold, slice_get}
use Rattle.std.proofs.lemmas.Bool.{cases_lt, eqb-true}
use Rattle.scen_words.specs.declared.declaration.Declaration.{Declaration}
use Rattle.scen_words.specs.declared.declaration.Declaration.TheVariants as declares
use Rattle.scen_text.specs.declared.scenario.Line.{Line}
use Rattle.scen_text.specs.declared.scenario.Phase.{Phase}
use Rattle.scen_text.specs.declared.scenario.Scenario.{Scenario}
use Rattle.tap_sound.specs.Fresh.{AreNumbered, ArePhasesNumbered}
use Rattle.tap_sound.proofs.Kit.{some_same}
use Rattle.tap_world.specs.Setup.{Numbered, Setup, nothing_of, script_in, setup_of, with_declaration}

-- the script of an actor, of these lines
abbrev script_of : List Line → ℕ → List Numbered
script_of ls actor = map (λ (l : Line). record { number = l.number; command = l.command })
    (filter (λ (l : Line). l.actor == actor) ls)

-- a command is that of a line of its actor, and numbered by its place from this number on
record IsLineOf (n : ℕ) (ls : List Line) (actor : ℕ) (c : Numbered) : Type 0 where
  place : ℕ
  line : Line
  is : slice_get ls place ≡ Some line
  actor_is : line.actor ≡ actor
  command : line.command ≡ c.command
  number : c.number ≡ n + place

in_script : (n : ℕ) (ls : List Line) (actor i : ℕ) (c : Numbered) → AreNumbered n ls
    → slice_get (script_of ls actor) i ≡ Some c → IsLineOf n ls actor c
in_script n [] actor i c h e = absurd (cc (e))
in_script n (l ∷ ls) actor i c h e = go (l.actor == actor) refl i e (λ j k. in_script (n + 1) ls actor j c h.1 k)
  where
    rest : List Line
    rest = filter (λ (k : Line). k.actor == actor) ls

    later : IsLineOf (n + 1) ls actor c → IsLineOf n (l ∷ ls) actor c
    later k = let m = k.number in record {
      place = suc k.place;
      line = k.line;
      is = k.is;
      actor_is = k.actor_is;
      command = k.command;
      number = omega (arith, m);
    }

    go : (b : Bool) → (l.actor == actor) ≡ b → (j : ℕ)
        → slice_get (map (λ (k : Line). record { number = k.number; command = k.command })
        (cond b (l ∷ rest) rest)) j ≡ Some c
        → ((k : ℕ) → slice_get (map (λ (k : Line). record { number = k.number; command = k.command }) rest) k ≡ Some c
        → IsLineOf (n + 1) ls actor c) → IsLineOf n (l ∷ ls) actor c
    go true same zero at f =
        let first = ap (λ (q : Numbered). q.number) (some_same _ c at) in
        let begun = h.0 in
        record {
          place = 0;
          line = l;
          is = refl;
          actor_is = eqb-true l.actor actor same;
          command = ap (λ (q : Numbered). q.command) (some_same _ c at);
          number = omega (arith, first, begun);
        }
    go true same (suc k) at f = later (f k at)
    go false same k at f = later (f k at)

-- ---- phases

-- a phase's lines are numbered from a number on, at least this one
record IsFrom (n : ℕ) (p : Phase) : Type 0 where
  from : ℕ
  numbered : AreNumbered from p.lines
  least : n ≤ from

phase_from : (n : ℕ) (ps : List Phase) (k : ℕ) (p : Phase) → ArePhasesNumbered n ps → slice_get ps k ≡ Some p
    → IsFrom n p
phase_from n [] k p h e = absurd (cc (e))
phase_from n (q ∷ qs) zero p h e = subst (IsFrom n) (some_same q p e)
    (record { from = n; numbered = h.0; least = omega arith })
phase_from n (q ∷ qs) (suc k) p h e =
    let r = phase_from (n + length q.lines) qs k p h.1 e in
    let le = r.least in
    record { from = r.from; numbered = r.numbered; least = omega (arith, le) }

record AreApart (p q : Phase) : Type 0 where
  from : ℕ
  to : ℕ
  first : AreNumbered from p.lines
  second : AreNumbered to q.lines
  apart : from + length p.lines ≤ to

are_apart : (n : ℕ) (ps : List Phase) (k m : ℕ) (p q : Phase) → ArePhasesNumbered n ps → k < m
    → slice_get ps k ≡ Some p → slice_get ps m ≡ Some q → AreApart p q
are_apart n [] k m p q h lt x y = absurd (cc (x))
are_apart n (r ∷ rs) k zero p q h lt x y = absurd (omega (arith, lt))
are_apart n (r ∷ rs) zero (suc m) p q h lt x y =
    let z = phase_from (n + length r.lines) rs m q h.1 y in
    subst (λ (g : Phase). AreApart g q) (some_same r p x)
    (record { from = n; to = z.from; first = h.0; second = z.numbered; apart = z.least })
are_apart n (r ∷ rs) (suc k) (suc m) p q h lt x y =
    are_apart (n + length r.lines) rs k m p q h.1 (omega (arith, lt)) x y

below : {A : Type 0} (xs : List A) (i : ℕ) (x : A) → slice_get xs i ≡ Some x → i < length xs
below [] i x e = absurd (cc (e))
below (y ∷ ys) zero x e = omega arith
below (y ∷ ys) (suc i) x e = let h = below ys i x e in omega (arith, h)

earlier : (n : ℕ) (ps : List Phase) (k m : ℕ) (p q : Phase) → ArePhasesNumbered n ps → k < m
    → slice_get ps k ≡ Some p → slice_get ps m ≡ Some q
    → (a b i j : ℕ) (c d : Numbered) → slice_get (script_in p a) i ≡ Some c → slice_get (script_in q b) j ≡ Some d
    → c.number < d.number
earlier n ps k m p q h lt x y a b i j c d at_c at_d =
    let z = are_apart n ps k m p q h lt x y in
    let e = in_script z.from p.lines a i c z.first at_c in
    let f = in_script z.to q.lines b j d z.second at_d in
    let inside = below p.lines e.place e.line e.is in
    let le = z.apart in
    let one = e.number in
    let two = f.number in
    omega (arith, inside, le, one, two)

-- ---- commands of the same number are one

pub record IsOne (k m a b : ℕ) (c d : Numbered) : Type 0 where
  pub phase : k ≡ m
  pub actor : a ≡ b
  pub command : c.command ≡ d.command

of_phase : (n : ℕ) (ls : List Line) → AreNumbered n ls → (a b i j : ℕ) (c d : Numbered)
    → slice_get (script_of ls a) i ≡ Some c → slice_get (script_of ls b) j ≡ Some d
    → c.number ≡ d.number → (a ≡ b) × (c.command ≡ d.command)
of_phase n ls h a b i j c d p q same =
    let x = in_script n ls a i c h p in
    let y = in_script n ls b j d h q in
    let m = x.number in
    let k = y.number in
    let place : x.place ≡ y.place = omega (arith, m, k, same) in
    let line : x.line ≡ y.line = some_same x.line y.line (sym x.is ∙ ap (slice_get ls) place ∙ y.is) in (
      sym x.actor_is ∙ ap (λ (l : Line). l.actor) line ∙ y.actor_is,
      sym x.command ∙ ap (λ (l : Line). l.command) line ∙ y.command,
    )

pub same_number : (ps : List Phase) → ArePhasesNumbered 0 ps → (k m : ℕ) (p q : Phase) → slice_get ps k ≡ Some p
    → slice_get ps m ≡ Some q
    → (a b i j : ℕ) (c d : Numbered) → slice_get (script_in p a) i ≡ Some c → slice_get (script_in q b) j ≡ Some d
    → c.number ≡ d.number → IsOne k m a b c d
same_number ps h k m p q x y a b i j c d at_c at_d same =
    let phase : k ≡ m = ⊎_elim
    (λ lt. let less = earlier 0 ps k m p q h lt x y a b i j c d at_c at_d in absurd (omega (arith, less, same)))
    (λ ge. ⊎_elim
    (λ lt. let less = earlier 0 ps m k q p h lt y x b a j i d c at_d at_c in absurd (omega (arith, less, same)))
    (λ le. omega (arith, ge, le)) (cases_lt m k)) (cases_lt k m) in
    let one : q ≡ p = some_same q p (sym y ∙ ap (slice_get ps) (sym phase) ∙ x) in
    let z = phase_from 0 ps k p h x in
    let r = of_phase z.from p.lines z.numbered a b i j c d at_c
    (subst (λ (g : Phase). slice_get (script_in g b) j ≡ Some d) one at_d) same in
    record { phase = phase; actor = r.0; command = r.1 }

-- ---- the phases of a set-up are the scenario's

declared_phases : (d : Declaration) (s : Setup) → (with_declaration s d).phases ≡ s.phases
declared_phases (declares.File file capacity first) s = refl
declared_phases (declares.Region guest addr len) s = refl
declared_phases (declares.Vhost vhost guest) s = refl
declared_phases (declares.Prog program code) s = refl
declared_phases (declares.Flows name limit age) s = refl

folded_phases : (ds : List Declaration) (s : Setup) → (fold with_declaration s ds).phases ≡ s.phases
folded_phases [] s = refl
folded_phases (d ∷ ds) s = folded_phases ds (with_declaration s d) ∙ declared_phases d s

pub phases_are : (s : Scenario) → (setup_of s).phases ≡ s.phases
phases_are s = folded_phases s.declarations (nothing_of s)
