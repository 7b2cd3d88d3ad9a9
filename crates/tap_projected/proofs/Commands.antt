-- The commands of a scenario by their numbers: where a command stands in its phase's lines and in its actor's script.
use Rattle.std.proofs.Common.{◌≡◌, ◌⊎◌, ℕ, zero, suc, ◌+◌, ◌≤◌, ◌<◌, List, [], ◌∷◌, ◌++◌, length, map, cond, Some, Bool, false, refl, sym, ap, ◌∙◌, subst, inl, inr, ⊎_elim, arith}
use Rattle.std.specs.Prelude.{◌==◌, filter, flat_map, fold, slice_get}
use Rattle.std.specs.List.{AllByRecursion}
use Rattle.scen_words.specs.declared.declaration.Declaration.{Declaration}
use Rattle.scen_words.specs.declared.declaration.Declaration.TheVariants as declares
use Rattle.scen_text.specs.declared.scenario.Line.{Line}
use Rattle.scen_text.specs.declared.scenario.Phase.{Phase}
use Rattle.scen_text.specs.declared.scenario.Scenario.{Scenario}
use Rattle.scen_laid.specs.Phases.{IsLine}
use Rattle.tap_world.specs.Setup.{Numbered, Setup, nothing_of, script_in, setup_of, with_declaration}
use Rattle.tap_sound.specs.Fresh.{AreNumbered, ArePhasesNumbered}
use Rattle.tap_sound.proofs.Kit.{some_same}
use Rattle.tap_sound.proofs.Turned.{others}
use Rattle.tap_legal.specs.Numbered.{Asked, asked_from, asked_in}
use Rattle.tap_sights.specs.Sight.{In, Ordered}
use Rattle.tap_projected.proofs.Lists.{at_behind, at_front, at_in, in_at, of_filter, of_map, of_map_at, ordered_filter, ordered_map, same_number}

-- ---- declarations leave names and phases

phases_stay : (d : Declaration) (s : Setup) → (with_declaration s d).phases ≡ s.phases
phases_stay (declares.File file capacity first) s = refl
phases_stay (declares.Region guest addr len) s = refl
phases_stay (declares.Vhost vhost guest) s = refl
phases_stay (declares.Prog program code) s = refl
phases_stay (declares.Flows name limit age) s = refl

names_stay : (d : Declaration) (s : Setup) → (with_declaration s d).names ≡ s.names
names_stay (declares.File file capacity first) s = refl
names_stay (declares.Region guest addr len) s = refl
names_stay (declares.Vhost vhost guest) s = refl
names_stay (declares.Prog program code) s = refl
names_stay (declares.Flows name limit age) s = refl

all_phases_stay : (ds : List Declaration) (s : Setup) → (fold with_declaration s ds).phases ≡ s.phases
all_phases_stay [] s = refl
all_phases_stay (d ∷ ds) s = all_phases_stay ds (with_declaration s d) ∙ phases_stay d s

all_names_stay : (ds : List Declaration) (s : Setup) → (fold with_declaration s ds).names ≡ s.names
all_names_stay [] s = refl
all_names_stay (d ∷ ds) s = all_names_stay ds (with_declaration s d) ∙ names_stay d s

pub phases_are : (s : Scenario) → (setup_of s).phases ≡ s.phases
phases_are s = all_phases_stay s.declarations (nothing_of s)

pub names_are : (s : Scenario) → (setup_of s).names ≡ s.names
names_are s = all_names_stay s.declarations (nothing_of s)

-- ---- a line by its number

-- the command of a line, of a phase
abbrev pub asked_of : ℕ → Line → Asked
asked_of phase l =
    record { told = record { phase = phase; actor = l.actor; command = l.number }; command = l.command }

abbrev pub lines_of : List Phase → List Line
lines_of ps = flat_map (λ (p : Phase). p.lines) ps

number_is : (n : ℕ) (ls : List Line) (j : ℕ) (l : Line) → AreNumbered n ls → slice_get ls j ≡ Some l → l.number ≡ n + j
number_is n [] j l h e = absurd (cc (e))
number_is n (k ∷ ls) zero l h e = let same = ap (λ (q : Line). q.number) (some_same k l e) in let first = h.0 in omega (arith, same, first)
number_is n (k ∷ ls) (suc j) l h e = let rest = number_is (n + 1) ls j l h.1 e in omega (arith, rest)

-- a line of a phase has its place among all lines, and its command among all commands
abbrev PlacesLater : ℕ → ℕ → List Phase → ℕ → Line → Type 0
PlacesLater n phase ps k l =
    (m : ℕ) × (l.number ≡ n + m) × (slice_get (lines_of ps) m ≡ Some l)
    × (slice_get (asked_from phase ps) m ≡ Some (asked_of (phase + k) l))

length_asked : (phase : ℕ) (ls : List Line) → length (asked_in phase ls) ≡ length ls
length_asked phase [] = refl
length_asked phase (l ∷ ls) = ap suc (length_asked phase ls)

asked_at_line : (phase : ℕ) (ls : List Line) (j : ℕ) (l : Line) → slice_get ls j ≡ Some l → slice_get (asked_in phase ls) j ≡ Some (asked_of phase l)
asked_at_line phase [] j l e = absurd (cc (e))
asked_at_line phase (k ∷ ls) zero l e = ap (λ (q : Line). Some (asked_of phase q)) (some_same k l e)
asked_at_line phase (k ∷ ls) (suc j) l e = asked_at_line phase ls j l e

at_line : (n phase : ℕ) (ps : List Phase) (k j : ℕ) (p : Phase) (l : Line) → ArePhasesNumbered n ps → slice_get ps k ≡ Some p
    → slice_get p.lines j ≡ Some l → PlacesLater n phase ps k l
at_line n phase [] k j p l h e at = absurd (cc (e))
at_line n phase (q ∷ ps) zero j p l h e at =
    let here : slice_get q.lines j ≡ Some l = subst (λ (r : Phase). slice_get r.lines j ≡ Some l) (sym (some_same q p e)) at in (
      j,
      number_is n q.lines j l h.0 here,
      at_front q.lines (lines_of ps) j l here,
      at_front (asked_in phase q.lines) (asked_from (phase + 1) ps) j (asked_of phase l) (asked_at_line phase q.lines j l here)
          ∙ ap (λ a. Some (asked_of a l)) (let z : phase ≡ phase + 0 = omega arith in z),
    )
at_line n phase (q ∷ ps) (suc k) j p l h e at =
    let r = at_line (n + length q.lines) (phase + 1) ps k j p l h.1 e at in
    let m = r.0 in
    let number = r.1 in
    let long = length_asked phase q.lines in (
      length q.lines + m,
      omega (arith, number),
      at_behind q.lines (lines_of ps) (length q.lines + m) m refl ∙ r.2,
      at_behind (asked_in phase q.lines) (asked_from (phase + 1) ps) (length q.lines + m) m (omega (arith, long)) ∙ r.3
          ∙ ap (λ a. Some (asked_of a l)) (let z : phase + 1 + k ≡ phase + suc k = omega arith in z),
    )

-- a command of all of them is that of a line of a phase
pub record IsOfLine (n phase : ℕ) (ps : List Phase) (place : ℕ) (x : Asked) : Type 0 where
  pub k : ℕ
  pub p : Phase
  pub l : Line
  pub is_phase : slice_get ps k ≡ Some p
  pub is_line : In l p.lines
  pub number : l.number ≡ n + place
  pub is : x ≡ asked_of (phase + k) l

-- the place stands in the first part, or behind it
place_of : {A : Type 0} (xs ys : List A) (m : ℕ) (x : A) → slice_get (xs ++ ys) m ≡ Some x
    → (slice_get xs m ≡ Some x) ⊎ ((k : ℕ) × (m ≡ length xs + k) × (slice_get ys k ≡ Some x))
place_of [] ys m x e = inr (m, omega arith, e)
place_of (y ∷ xs) ys zero x e = inl e
place_of (y ∷ xs) ys (suc m) x e = ⊎_elim (λ h. inl h) (λ h. let k = h.1 in inr (h.0, omega (arith, k), h.2)) (place_of xs ys m x e)

pub of_line : (n phase : ℕ) (ps : List Phase) (m : ℕ) (x : Asked) → ArePhasesNumbered n ps → slice_get (asked_from phase ps) m ≡ Some x
    → IsOfLine n phase ps m x
of_line n phase [] m x h e = absurd (cc (e))
of_line n phase (q ∷ ps) m x h e = ⊎_elim
    (λ at.
    let l = of_map_at (λ (l : Line). asked_of phase l) q.lines m x at in
    record {
      k = 0;
      p = q;
      l = l.0;
      is_phase = refl;
      is_line = in_at q.lines m l.0 l.1;
      number = number_is n q.lines m l.0 h.0 l.1;
      is = sym l.2 ∙ ap (λ a. asked_of a l.0) (let z : phase ≡ phase + 0 = omega arith in z);
    })
    (λ at.
    let r = of_line (n + length q.lines) (phase + 1) ps at.0 x h.1 at.2 in
    let number = r.number in
    let behind = at.1 in
    let long = length_asked phase q.lines in
    record {
      k = suc r.k;
      p = r.p;
      l = r.l;
      is_phase = r.is_phase;
      is_line = r.is_line;
      number = omega (arith, number, behind, long);
      is = r.is ∙ ap (λ a. asked_of a r.l) (let z : phase + 1 + r.k ≡ phase + suc r.k = omega arith in z);
    })
    (place_of (asked_in phase q.lines) (asked_from (phase + 1) ps) m x e)

-- ---- scripts

abbrev pub numbered_of : Line → Numbered
numbered_of l = record { number = l.number; command = l.command }

-- a command of an actor's script: its line, and its place among all commands
pub record IsScripted (ps : List Phase) (phase actor : ℕ) (p : Phase) (c : Numbered) : Type 0 where
  pub line : Line
  pub there : In line p.lines
  pub whose : line.actor ≡ actor
  pub is_line : slice_get (lines_of ps) c.number ≡ Some line
  pub command : line.command ≡ c.command
  pub asked : slice_get (asked_from 0 ps) c.number
      ≡ Some (record { told = record { phase = phase; actor = actor; command = c.number }; command = c.command })

pub scripted : (ps : List Phase) (phase actor : ℕ) (p : Phase) (c : Numbered) → ArePhasesNumbered 0 ps → slice_get ps phase ≡ Some p
    → In c (script_in p actor) → IsScripted ps phase actor p c
scripted ps phase actor p c numbered is i =
    let l = of_map numbered_of (filter (λ (k : Line). k.actor == actor) p.lines) c i in
    let kept = of_filter (λ (k : Line). k.actor == actor) p.lines l.0 l.1 in
    let j = at_in p.lines l.0 kept.0 in
    let h = at_line 0 0 ps phase j.0 p l.0 numbered is j.1 in
    let number = h.1 in
    let at : h.0 ≡ l.0.number = omega (arith, number) in
    let whose = same_number l.0.actor actor kept.1 in
    let there = subst (λ m. slice_get (lines_of ps) m ≡ Some l.0) at h.2 in
    let asked = subst (λ m. slice_get (asked_from 0 ps) m ≡ Some (asked_of (0 + phase) l.0)) at h.3 in
    let first : 0 + phase ≡ phase = omega arith in
    subst (IsScripted ps phase actor p) l.2 (record {
      line = l.0;
      there = kept.0;
      whose = whose;
      is_line = there;
      command = refl;
      asked = asked ∙ ap (λ a. Some (asked_of a l.0)) first
          ∙ ap (λ a. Some (record { told = record { phase = phase; actor = a; command = l.0.number }; command = l.0.command })) whose;
    })

-- ---- numbers rise along a script

all_from : (n : ℕ) (ls : List Line) (l : Line) → AreNumbered n ls → In l ls → n ≤ l.number
all_from n [] l h i = absurd i
all_from n (k ∷ ls) l h (inl e) = let same = ap (λ (q : Line). q.number) e in let first = h.0 in omega (arith, same, first)
all_from n (k ∷ ls) l h (inr i) = let rest = all_from (n + 1) ls l h.1 i in omega (arith, rest)

lines_rise : (n : ℕ) (ls : List Line) → AreNumbered n ls → Ordered (λ (k l : Line). k.number < l.number) ls
lines_rise n [] h = tt
lines_rise n (k ∷ ls) h = (
  λ l i. let above = all_from (n + 1) ls l h.1 i in let first = h.0 in omega (arith, above, first),
  lines_rise (n + 1) ls h.1,
)

numbered_at : (n : ℕ) (ps : List Phase) (k : ℕ) (p : Phase) → ArePhasesNumbered n ps → slice_get ps k ≡ Some p → (m : ℕ) × AreNumbered m p.lines
numbered_at n [] k p h e = absurd (cc (e))
numbered_at n (q ∷ ps) zero p h e = (n, subst (λ (r : Phase). AreNumbered n r.lines) (some_same q p e) h.0)
numbered_at n (q ∷ ps) (suc k) p h e = numbered_at (n + length q.lines) ps k p h.1 e

pub script_rises : (ps : List Phase) (phase actor : ℕ) (p : Phase) → ArePhasesNumbered 0 ps → slice_get ps phase ≡ Some p
    → Ordered (λ (m n : ℕ). m < n) (map (λ (c : Numbered). c.number) (script_in p actor))
script_rises ps phase actor p numbered is =
    let n = numbered_at 0 ps phase p numbered is in
    let mine = filter (λ (k : Line). k.actor == actor) p.lines in
    let rise = ordered_filter (λ (k l : Line). k.number < l.number) (λ (k : Line). k.actor == actor) p.lines (lines_rise n.0 p.lines n.1) in
    ordered_map (λ (c d : Numbered). c.number < d.number) (λ (a b : ℕ). a < b) (λ (c : Numbered). c.number) (map numbered_of mine) (λ c d lt. lt)
    (ordered_map (λ (k l : Line). k.number < l.number) (λ (c d : Numbered). c.number < d.number) numbered_of mine (λ k l lt. lt) rise)

-- an actor that isn't one of a phase's has no script in it
pub no_script : (s : Setup) (actors actor : ℕ) (ls : List Line) → AllByRecursion (IsLine s actors) ls → actors ≤ actor
    → map numbered_of (filter (λ (l : Line). l.actor == actor) ls) ≡ []
no_script s actors actor [] h e = refl
no_script s actors actor (l ∷ ls) h e =
    let other : (l.actor == actor) ≡ false = others l.actor actor (λ q. let less = h.0.actor in omega (arith, q, e, less)) in
    let rest = filter (λ (x : Line). x.actor == actor) ls in
    ap (λ (b : Bool). map numbered_of (cond b (l ∷ rest) rest)) other ∙ no_script s actors actor ls h.1 e
