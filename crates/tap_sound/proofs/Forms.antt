-- Forms of lists of events, taken apart and put together.
use Rattle.std.proofs.Common.{◌⊎◌, ℕ, zero, suc, List, [], ◌∷◌, Bool, true, false, inl, inr, ⊎_elim}
use Rattle.tap_world.specs.declared.event.EventKind.{EventKind}
use Rattle.tap_world.specs.Grammar.{Grammar, Lists, Some_of, Spells, Times}
use Rattle.tap_world.specs.Grammar.Grammar.{Many, Nothing, One, ◌⨾◌, ◌or◌}

-- ---- a rest may grow

times_weaken : (form : Lists → Lists) → ((P Q : Lists) → ((es : List EventKind) → P es → Q es) → (es : List EventKind) → form P es → form Q es)
    → (n : ℕ) (P Q : Lists) → ((es : List EventKind) → P es → Q es) → (es : List EventKind) → Times n form P es → Times n form Q es
times_weaken form weak zero P Q f es h = f es h
times_weaken form weak (suc n) P Q f es h =
    weak (λ ds. Times n form P ds) (λ ds. Times n form Q ds) (λ ds. times_weaken form weak n P Q f ds) es h

pub weaken : (g : Grammar) (P Q : Lists) → ((es : List EventKind) → P es → Q es) → (es : List EventKind) → Spells g P es → Spells g Q es
weaken Nothing P Q f es h = f es h
weaken (One k) P Q f [] h = absurd h
weaken (One k) P Q f (e ∷ es) h = (h.0, f es h.1)
weaken (g ⨾ d) P Q f es h = weaken g (Spells d P) (Spells d Q) (weaken d P Q f) es h
weaken (g or d) P Q f es h = ⊎_elim (λ x. inl (weaken g P Q f es x)) (λ x. inr (weaken d P Q f es x)) h
weaken (Many g) P Q f es h = (h.0, times_weaken (Spells g) (weaken g) h.0 P Q f es h.1)

-- ---- what a rest chooses can be chosen before

abbrev Pulls : (Lists → Lists) → Type 1
Pulls form = (I : Type 0) (Q : I → Lists) (es : List EventKind) → form (λ ds. (i : I) × Q i ds) es → (i : I) × form (Q i) es

times_pulls : (form : Lists → Lists) → ((P Q : Lists) → ((es : List EventKind) → P es → Q es) → (es : List EventKind) → form P es → form Q es)
    → Pulls form → (n : ℕ) → Pulls (Times n form)
times_pulls form weak pull zero I Q es h = h
times_pulls form weak pull (suc n) I Q es h =
    pull I (λ i ds. Times n form (Q i) ds) es
    (weak (λ ds. Times n form (λ cs. (i : I) × Q i cs) ds) (λ ds. (i : I) × Times n form (Q i) ds)
    (λ ds. times_pulls form weak pull n I Q ds) es h)

pub pulls : (g : Grammar) → Pulls (Spells g)
pulls Nothing I Q es h = h
pulls (One k) I Q [] h = absurd h
pulls (One k) I Q (e ∷ es) h = (h.1.0, (h.0, h.1.1))
pulls (g ⨾ d) I Q es h =
    pulls g I (λ i. Spells d (Q i)) es
    (weaken g (Spells d (λ ds. (i : I) × Q i ds)) (λ ds. (i : I) × Spells d (Q i) ds) (pulls d I Q) es h)
pulls (g or d) I Q es h = ⊎_elim
    (λ x. let r = pulls g I Q es x in (r.0, inl r.1)) (λ x. let r = pulls d I Q es x in (r.0, inr r.1)) h
pulls (Many g) I Q es h = let r = times_pulls (Spells g) (weaken g) (pulls g) h.0 I Q es h.1 in (r.0, (h.0, r.1))

abbrev Side : Lists → Lists → Bool → Lists
Side P Q true es = P es
Side P Q false es = Q es

-- one of two rests
pub distributes : (g : Grammar) (P Q : Lists) (es : List EventKind) → Spells g (λ ds. P ds ⊎ Q ds) es → Spells g P es ⊎ Spells g Q es
distributes g P Q es h =
    let r = pulls g Bool (Side P Q) es
    (weaken g (λ ds. P ds ⊎ Q ds) (λ ds. (b : Bool) × Side P Q b ds)
    (λ ds. ⊎_elim (λ x. (true, x)) (λ x. (false, x))) es h) in
    go r.0 r.1
  where
    go : (b : Bool) → Spells g (Side P Q b) es → Spells g P es ⊎ Spells g Q es
    go true x = inl x
    go false x = inr x

-- one, and any number more
pub some_many : (g : Grammar) (P : Lists) (es : List EventKind) → Spells (Some_of g) P es → Spells (Many g) P es
some_many g P es h = let r = pulls g ℕ (λ n. Times n (Spells g) P) es h in (suc r.0, r.1)
