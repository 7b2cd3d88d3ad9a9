-- Names, things by their numbers, and entries by their names.
use Rattle.std.proofs.Common.{◌≡◌, ℕ, ◌+◌, ◌≤◌, ◌<◌, List, [], ◌∷◌, Option, Some, None, true, ap, inl, inr, arith}
use Rattle.std.specs.Prelude.{◌==◌, ◌&&◌}
use Rattle.std.proofs.lemmas.Bool.{and_from, and_parts, eqb-true, eq-eqb}
use Rattle.tap_frame.specs.declared.name.Name.{Name}
use Rattle.tap_world.specs.ByNumber.{numbered}
use Rattle.tap_world.specs.Stands.{same_name}
use Rattle.tap_legal.specs.Numbered.{EntryAt}
use Rattle.tap_legal.specs.Case.{Case}
use Rattle.tap_sights.specs.Sight.{In, Ordered}
use Rattle.tap_sights.specs.Sights.{Sighted}
use Rattle.tap_sights.proofs.LinesFiles.{IsStanding, entries_stand, one_entry}
use Rattle.tap_sights.proofs.LinesKit.{order_weaker, order_with}
use Rattle.tap_sights.proofs.Taken.{same_placed}

-- ---- names

pub name_is : (m n : Name) → same_name m n ≡ true → m ≡ n
name_is m n e =
    let p = and_parts (m.actor == n.actor && m.turn == n.turn) (m.part == n.part) e in
    let q = and_parts (m.actor == n.actor) (m.turn == n.turn) p.0 in
    make (eqb-true m.actor n.actor q.0) (eqb-true m.turn n.turn q.1) (eqb-true m.part n.part p.1)
  where
    make : m.actor ≡ n.actor → m.turn ≡ n.turn → m.part ≡ n.part → m ≡ n
    make p q r = λ i. record { actor = p i; turn = q i; part = r i }

pub is_name : (m n : Name) → m ≡ n → same_name m n ≡ true
is_name m n e =
    and_from (m.actor == n.actor && m.turn == n.turn) (m.part == n.part)
    (and_from (m.actor == n.actor) (m.turn == n.turn)
    (eq-eqb m.actor n.actor (ap (λ (x : Name). x.actor) e)) (eq-eqb m.turn n.turn (ap (λ (x : Name). x.turn) e)))
    (eq-eqb m.part n.part (ap (λ (x : Name). x.part) e))

-- ---- numbers

pub in_numbered : {A : Type 0} (n : ℕ) (xs : List (Option A)) (x : ℕ × A) → In x (numbered n xs) → n ≤ x.0
in_numbered n [] x i = absurd i
in_numbered n (None ∷ xs) x i = let h = in_numbered (n + 1) xs x i in omega (arith, h)
in_numbered n (Some y ∷ xs) x (inl e) = let h = ap (λ z. z.0) e in omega (arith, h)
in_numbered n (Some y ∷ xs) x (inr i) = let h = in_numbered (n + 1) xs x i in omega (arith, h)

abbrev pub IsLess : {A : Type 0} → ℕ × A → ℕ × A → Type 0
IsLess x y = x.0 < y.0

pub numbers_rise : {A : Type 0} (n : ℕ) (xs : List (Option A)) → Ordered IsLess (numbered n xs)
numbers_rise n [] = tt
numbers_rise n (None ∷ xs) = numbers_rise (n + 1) xs
numbers_rise n (Some x ∷ xs) =
    (λ y i. let h = in_numbered (n + 1) xs y i in omega (arith, h), numbers_rise (n + 1) xs)

-- ---- entries

module _ (c : Case) (s : Sighted c) where
  -- an entry is known by its name
  pub one_name : (d e : EntryAt) → In d c.entries → In e c.entries → same_name d.at.name e.at.name ≡ true → d ≡ e
  one_name d e i j same = let p = same_placed c s d e i j same in one_entry c s d e i j p.0 p.1

  -- no entry stands twice
  pub entries_apart : Ordered (λ (d e : EntryAt). In d c.entries × In e c.entries × (d ≡ e → ⊥)) c.entries
  entries_apart =
      order_weaker _ _ c.entries (λ d e h. (h.0, h.1, λ same. apart d e (ap (λ (x : EntryAt). x.file) same) (ap (λ (x : EntryAt). x.at.place) same) h.2))
      (order_with IsStanding (λ e. In e c.entries) c.entries (λ e i. i) (entries_stand c s))
    where
      apart : (d e : EntryAt) → d.file ≡ e.file → d.at.place ≡ e.at.place → IsStanding d e → ⊥
      apart d e file place (inl l) = omega (arith, l, file)
      apart d e file place (inr (on, l)) = omega (arith, l, place)
