-- This project's own: commands are told apart by their numbers, over the scripts of all actors and phases.
use Rattle.std.proofs.Common.{◌≡◌, ℕ, zero, suc, ◌+◌, ◌<◌, ◌≤◌, List, [], ◌∷◌, length, map, filter, Bool, true, false, cond, Some, ⊎_elim, refl, sym, ap, ◌∙◌, subst, arith}
use Rattle.std.specs.Prelude.{◌==◌, slice_get}
use Rattle.std.proofs.lemmas.Bool.{cases_lt}
use Rattle.scen_text.specs.declared.scenario.Line.{Line}
use Rattle.scen_text.specs.declared.scenario.Phase.{Phase}
use Rattle.tap_world.specs.Setup.{Numbered, script_in}
use Rattle.tap_sound.specs.Fresh.{AreNumbered, ArePhasesNumbered}
use Rattle.tap_sound.proofs.Kit.{some_same}
use Rattle.tap_sound.proofs.Publishing.{equal}
use Rattle.tap_steady.proofs.Kit.{at_below}

-- the script of an actor, of these lines
abbrev script_of : List Line → ℕ → List Numbered
script_of ls actor = map (λ (l : Line). record { number = l.number; command = l.command })
    (filter (λ (l : Line). l.actor == actor) ls)

-- a command is that of a line of its actor, and numbered by its place from this number on
pub record IsLineOf (n : ℕ) (ls : List Line) (actor : ℕ) (c : Numbered) : Type 0 where
  pub place : ℕ
  pub line : Line
  pub is : slice_get ls place ≡ Some line
  pub actor_is : line.actor ≡ actor
  pub number : c.number ≡ n + place

pub in_script : (n : ℕ) (ls : List Line) (actor i : ℕ) (c : Numbered) → AreNumbered n ls
    → slice_get (script_of ls actor) i ≡ Some c → IsLineOf n ls actor c
in_script n [] actor i c h e = absurd (cc (e))
in_script n (l ∷ ls) actor i c h e = go (l.actor == actor) refl i e (λ j k. in_script (n + 1) ls actor j c h.1 k)
  where
    rest : List Line
    rest = filter (λ (k : Line). k.actor == actor) ls

    later : IsLineOf (n + 1) ls actor c → IsLineOf n (l ∷ ls) actor c
    later k = let m = k.number in record {
      place = suc k.place;
      line = k.line;
      is = k.is;
      actor_is = k.actor_is;
      number = omega (arith, m);
    }

    go : (b : Bool) → (l.actor == actor) ≡ b → (j : ℕ)
        → slice_get (map (λ (k : Line). record { number = k.number; command = k.command })
        (cond b (l ∷ rest) rest)) j ≡ Some c
        → ((k : ℕ) → slice_get (map (λ (k : Line). record { number = k.number; command = k.command }) rest) k ≡ Some c
        → IsLineOf (n + 1) ls actor c) → IsLineOf n (l ∷ ls) actor c
    go true same zero at f =
        let first = ap (λ (q : Numbered). q.number) (some_same _ c at) in
        let begun = h.0 in
        record {
          place = 0;
          line = l;
          is = refl;
          actor_is = equal l.actor actor same;
          number = omega
              (arith, first, begun);
        }
    go true same (suc k) at f = later (f k at)
    go false same k at f = later (f k at)

-- commands of the same number are of one actor
pub same_actor : (n : ℕ) (ls : List Line) → AreNumbered n ls → (a b i j : ℕ) (c d : Numbered)
    → slice_get (script_of ls a) i ≡ Some c → slice_get (script_of ls b) j ≡ Some d
    → c.number ≡ d.number → a ≡ b
same_actor n ls h a b i j c d p q same =
    let x = in_script n ls a i c h p in
    let y = in_script n ls b j d h q in
    let m = x.number in
    let k = y.number in
    let place : x.place ≡ y.place = omega (arith, m, k, same) in
    let line : x.line ≡ y.line = some_same x.line y.line (sym x.is ∙ ap (slice_get ls) place ∙ y.is) in
    sym x.actor_is ∙ ap (λ (l : Line). l.actor) line ∙ y.actor_is

-- numbers rise along a script
pub rises : (n : ℕ) (ls : List Line) (actor : ℕ) → AreNumbered n ls → (i j : ℕ) (c d : Numbered) → i < j
    → slice_get (script_of ls actor) i ≡ Some c → slice_get (script_of ls actor) j ≡ Some d
    → c.number < d.number
rises n [] actor h i j c d lt p q = absurd (cc (p))
rises n (l ∷ ls) actor h i j c d lt p q = go (l.actor == actor) i j lt p q
    (λ k m less x y. rises (n + 1) ls actor h.1 k m c d less x y) (λ m y. in_script (n + 1) ls actor m d h.1 y)
  where
    rest : List Line
    rest = filter (λ (k : Line). k.actor == actor) ls

    scripted : List Line → List Numbered
    scripted xs = map (λ (k : Line). record { number = k.number; command = k.command }) xs

    go : (b : Bool) → (k m : ℕ) → k < m → slice_get (scripted (cond b (l ∷ rest) rest)) k ≡ Some c
        → slice_get (scripted (cond b (l ∷ rest) rest)) m ≡ Some d
        → ((k m : ℕ) → k < m → slice_get (scripted rest) k ≡ Some c → slice_get (scripted rest) m ≡ Some d
        → c.number < d.number)
        → ((m : ℕ) → slice_get (scripted rest) m ≡ Some d → IsLineOf (n + 1) ls actor d) → c.number < d.number
    go true zero zero less x y f g = absurd (omega (arith, less))
    go true zero (suc m) less x y f g =
        let later = (g m y).number in
        let first = ap (λ (z : Numbered). z.number) (some_same _ c x) in
        let begun = h.0 in
        omega (arith, later, first, begun)
    go true (suc k) zero less x y f g = absurd (omega (arith, less))
    go true (suc k) (suc m) less x y f g = f k m (omega (arith, less)) x y
    go false k m less x y f g = f k m less x y

-- so commands of one script and number have one place
pub same_place : (n : ℕ) (ls : List Line) (actor : ℕ) → AreNumbered n ls → (i j : ℕ) (c d : Numbered)
    → slice_get (script_of ls actor) i ≡ Some c → slice_get (script_of ls actor) j ≡ Some d
    → c.number ≡ d.number → i ≡ j
same_place n ls actor h i j c d p q same = ⊎_elim
    (λ lt. let k = rises n ls actor h i j c d lt p q in absurd (omega (arith, k, same)))
    (λ ge. ⊎_elim
    (λ lt. let k = rises n ls actor h j i d c lt q p in absurd (omega (arith, k, same)))
    (λ le. omega (arith, ge, le))
    (cases_lt j i))
    (cases_lt i j)

-- ---- phases

-- a phase's lines are numbered from a number on, at least this one
pub record IsFrom (n : ℕ) (p : Phase) : Type 0 where
  pub from : ℕ
  pub numbered : AreNumbered from p.lines
  pub least : n ≤ from

pub phase_from : (n : ℕ) (ps : List Phase) (k : ℕ) (p : Phase) → ArePhasesNumbered n ps → slice_get ps k ≡ Some p
    → IsFrom n p
phase_from n [] k p h e = absurd (cc (e))
phase_from n (q ∷ qs) zero p h e = subst (IsFrom n) (some_same q p e)
    (record { from = n; numbered = h.0; least = omega arith })
phase_from n (q ∷ qs) (suc k) p h e =
    let r = phase_from (n + length q.lines) qs k p h.1 e in
    let le = r.least in
    record { from = r.from; numbered = r.numbered; least = omega (arith, le) }

record AreApart (p q : Phase) : Type 0 where
  from : ℕ
  to : ℕ
  first : AreNumbered from p.lines
  second : AreNumbered to q.lines
  apart : from + length p.lines ≤ to

apart : (n : ℕ) (ps : List Phase) (k m : ℕ) (p q : Phase) → ArePhasesNumbered n ps → k < m → slice_get ps k ≡ Some p
    → slice_get ps m ≡ Some q → AreApart p q
apart n [] k m p q h lt x y = absurd (cc (x))
apart n (r ∷ rs) k zero p q h lt x y = absurd (omega (arith, lt))
apart n (r ∷ rs) zero (suc m) p q h lt x y =
    let z = phase_from (n + length r.lines) rs m q h.1 y in
    subst (λ (g : Phase). AreApart g q) (some_same r p x)
    (record { from = n; to = z.from; first = h.0; second = z.numbered; apart = z.least })
apart n (r ∷ rs) (suc k) (suc m) p q h lt x y = apart (n + length r.lines) rs k m p q h.1 (omega (arith, lt)) x y

-- commands of an earlier phase have smaller numbers
pub earlier_phase : (n : ℕ) (ps : List Phase) (k m : ℕ) (p q : Phase) → ArePhasesNumbered n ps → k < m
    → slice_get ps k ≡ Some p → slice_get ps m ≡ Some q
    → (a b i j : ℕ) (c d : Numbered) → slice_get (script_in p a) i ≡ Some c → slice_get (script_in q b) j ≡ Some d
    → c.number < d.number
earlier_phase n ps k m p q h lt x y a b i j c d at_c at_d =
    let z = apart n ps k m p q h lt x y in
    let e = in_script z.from p.lines a i c z.first at_c in
    let f = in_script z.to q.lines b j d z.second at_d in
    let inside = at_below p.lines e.place e.line e.is in
    let le = z.apart in
    let one = e.number in
    let two = f.number in
    omega (arith, inside, le, one, two)

-- ---- places behind a list
