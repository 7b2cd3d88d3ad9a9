-- This project's own: which lists of events have a form.
use Rattle.std.specs.Prelude.{◌≡◌, ◌⊎◌, ℕ, zero, suc, List, [], ◌∷◌}
use Rattle.tap_world.specs.declared.event.EventKind.{EventKind}

infixr 7 ◌⨾◌
infixr 6 ◌or◌
-- Nothing; one event of a kind; one form and then another; one of two; or any number of one, one after another.
pub data Grammar : Type 0 where
  Nothing : Grammar
  One : EventKind → Grammar
  ◌⨾◌ : Grammar → Grammar → Grammar
  ◌or◌ : Grammar → Grammar → Grammar
  Many : Grammar → Grammar

-- perhaps
abbrev pub Perhaps : Grammar → Grammar
Perhaps g = Nothing or g

-- at least one
abbrev pub Some_of : Grammar → Grammar
Some_of g = g ⨾ Many g

-- which lists of events
abbrev pub Lists : Type 1
Lists = List EventKind → Type 0

-- so many of a form, and then the rest
abbrev pub Times : ℕ → (Lists → Lists) → Lists → Lists
Times zero form rest es = rest es
Times (suc n) form rest es = form (λ ds. Times n form rest ds) es

-- one event of a kind, and then the rest
abbrev pub Begins : EventKind → Lists → Lists
Begins k rest [] = ⊥
Begins k rest (e ∷ es) = (e ≡ k) × rest es

-- events that have a form, and then the rest
abbrev pub Spells : Grammar → Lists → Lists
Spells Nothing rest es = rest es
Spells (One k) rest es = Begins k rest es
Spells (g ⨾ h) rest es = Spells g (Spells h rest) es
Spells (g or h) rest es = Spells g rest es ⊎ Spells h rest es
Spells (Many g) rest es = (n : ℕ) × Times n (Spells g) rest es

-- events that have a form
abbrev pub HasForm : Grammar → Lists
HasForm g es = Spells g (λ ds. ds ≡ []) es
