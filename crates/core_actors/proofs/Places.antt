-- The actors of a phase, when so many of its lines were given to them.
use Rattle.std.proofs.Common.{◌≡◌, ℕ, zero, suc, ◌+◌, ◌<◌, ◌≤◌, List, [], ◌∷◌, ◌++◌, length, Bool, true, false, Option, Some, None, refl, sym, ap, ◌∙◌, true≢false, arith}
use Rattle.std.specs.Prelude.{is_some, ◌==◌, if◌then◌else◌, filter, map, replicate, slice_get, IfSome, IsSome, take}
use Rattle.std.specs.List.{AllByRecursion}
use Rattle.std.proofs.lemmas.Bool.Decides.{nat_tests}
use Rattle.std.proofs.lemmas.List.{length-take-le, take_all, take_more}
use Rattle.std.proofs.Common.{get_or}
use Rattle.scen_text.specs.declared.scenario.Line.{Line}
use Rattle.scen_text.specs.declared.scenario.Phase.{Phase}
use Rattle.tap_guests.specs.Side.{Side}
use Rattle.tap_world.specs.ByNumber.{with_nth}
use Rattle.tap_world.specs.Runs.{actors_from}
use Rattle.tap_world.specs.Setup.{Numbered, script_in}
use Rattle.tap_world.specs.World.{Actor}
use Rattle.tap_world.specs.World.Doing.{Begun as Came}
use Rattle.core_shared.specs.declared.doing.Doing.TheVariants.{Begun}
use Rattle.core_actors.specs.Acting.{Acting, AreBeginning, HasBegun, HasPlaces, actor_of, actors_of, idle, numbered, script_of, with_command, with_place}

-- the places of an actor's lines, where the list begins with this place
abbrev pub places_of : ℕ → ℕ → List Line → List ℕ
places_of actor n [] = []
places_of actor n (l ∷ ls) = if l.actor == actor then n ∷ places_of actor (n + 1) ls else places_of actor (n + 1) ls

-- so many actors from this number on, to whom these lines were given
abbrev pub given : ℕ → List Line → ℕ → ℕ → List Acting
given seen ls actor zero = []
given seen ls actor (suc more) =
    record { seen = seen; script = places_of actor 0 ls; doing = Begun } ∷ given seen ls (actor + 1) more

pub given_none : (seen actor more : ℕ) → replicate more (idle seen) ≡ given seen [] actor more
given_none seen actor zero = refl
given_none seen actor (suc more) = ap (λ (as_ : List Acting). idle seen ∷ as_) (given_none seen (actor + 1) more)

-- ---- one line more

if_more : (b : Bool) (n : ℕ) (xs ys zs : List ℕ) → xs ≡ ys ++ zs
    → (if b then n ∷ xs else xs) ≡ (if b then n ∷ ys else ys) ++ zs
if_more true n xs ys zs e = ap (λ (l : List ℕ). n ∷ l) e
if_more false n xs ys zs e = e

places_more : (actor n : ℕ) (ls : List Line) (l : Line)
    → places_of actor n (ls ++ l ∷ []) ≡ places_of actor n ls ++ (if l.actor == actor then (n + length ls) ∷ [] else [])
places_more actor n [] l = ap (λ (k : ℕ). if l.actor == actor then k ∷ [] else []) (omega arith)
places_more actor n (x ∷ xs) l =
    if_more (x.actor == actor) n _ _ _
    (places_more actor (n + 1) xs l
    ∙ ap (λ (k : ℕ). places_of actor (n + 1) xs ++ (if l.actor == actor then k ∷ [] else [])) (omega arith))

same : (a b : ℕ) → a ≡ b → (a == b) ≡ true
same a b e = grind (arith, nat_tests)

others : (a b : ℕ) → b < a → (a == b) ≡ false
others a b e = grind (arith, nat_tests)

other : (a b : ℕ) → a < b → (a == b) ≡ false
other a b e = grind (arith, nat_tests)

no_more : (xs : List ℕ) → xs ++ [] ≡ xs
no_more [] = refl
no_more (x ∷ xs) = ap (λ (l : List ℕ). x ∷ l) (no_more xs)

none_some : {X : Type 0} {x : X} → None ≡ Some x → ⊥
none_some e = cc (e)

-- an actor that isn't the line's has no place more
no_place : (seen actor : ℕ) (ls : List Line) (l : Line) → (l.actor == actor) ≡ false
    → places_of actor 0 (ls ++ l ∷ []) ≡ places_of actor 0 ls
no_place seen actor ls l e =
    places_more actor 0 ls l ∙ ap (λ (b : Bool). places_of actor 0 ls ++ (if b then (0 + length ls) ∷ [] else [])) e ∙ no_more (places_of actor 0 ls)

-- actors behind the line's are as they were
given_others : (seen actor more : ℕ) (ls : List Line) (l : Line) → l.actor < actor
    → given seen ls actor more ≡ given seen (ls ++ l ∷ []) actor more
given_others seen actor zero ls l h = refl
given_others seen actor (suc more) ls l h =
    ap (λ (p : List ℕ). record { seen = seen; script = p; doing = Begun } ∷ given seen ls (actor + 1) more)
    (sym (no_place seen actor ls l (other l.actor actor h)))
    ∙ ap (λ (as_ : List Acting). record { seen = seen; script = places_of actor 0 (ls ++ l ∷ []); doing = Begun } ∷ as_)
    (given_others seen (actor + 1) more ls l (omega (arith, h)))

-- with the line's place behind the others of its actor
pub given_more : (seen actor more i : ℕ) (ls : List Line) (l : Line) (a : Acting) → l.actor ≡ actor + i
    → slice_get (given seen ls actor more) i ≡ Some a
    → with_nth i (with_place (length ls) a) (given seen ls actor more) ≡ given seen (ls ++ l ∷ []) actor more
given_more seen actor zero i ls l a e there = absurd (none_some there)
given_more seen actor (suc more) zero ls l a e there =
    let is_a : record { seen = seen; script = places_of actor 0 ls; doing = Begun } ≡ a = cc (there) in
    let mine : places_of actor 0 (ls ++ l ∷ []) ≡ places_of actor 0 ls ++ length ls ∷ [] =
    places_more actor 0 ls l
    ∙ ap (λ (b : Bool). places_of actor 0 ls ++ (if b then (0 + length ls) ∷ [] else [])) (same l.actor actor (omega (arith, e)))
    ∙ ap (λ (k : ℕ). places_of actor 0 ls ++ k ∷ []) (omega arith) in
    ap (λ (x : Acting). with_place (length ls) x ∷ given seen ls (actor + 1) more) (sym is_a)
    ∙ ap (λ (p : List ℕ). record { seen = seen; script = p; doing = Begun } ∷ given seen ls (actor + 1) more) (sym mine)
    ∙ ap (λ (as_ : List Acting). record { seen = seen; script = places_of actor 0 (ls ++ l ∷ []); doing = Begun } ∷ as_)
    (given_others seen (actor + 1) more ls l (omega (arith, e)))
given_more seen actor (suc more) (suc i) ls l a e there =
    ap (λ (p : List ℕ). record { seen = seen; script = p; doing = Begun } ∷ with_nth i (with_place (length ls) a) (given seen ls (actor + 1) more))
    (sym (no_place seen actor ls l (others l.actor actor (omega (arith, e)))))
    ∙ ap (λ (as_ : List Acting). record { seen = seen; script = places_of actor 0 (ls ++ l ∷ []); doing = Begun } ∷ as_)
    (given_more seen (actor + 1) more i ls l a (omega (arith, e)) there)

-- so many are there
pub given_there : (seen actor more i : ℕ) (ls : List Line) → i < more → IsSome (slice_get (given seen ls actor more) i)
given_there seen actor zero i ls h = absurd (omega (arith, h))
given_there seen actor (suc more) zero ls h = refl
given_there seen actor (suc more) (suc i) ls h = given_there seen (actor + 1) more i ls (omega (arith, h))

-- ---- all lines

at_more : (before rest : List Line) (l : Line) → slice_get (before ++ l ∷ rest) (length before) ≡ Some l
at_more [] rest l = refl
at_more (x ∷ xs) rest l = at_more xs rest l

by_test : (b : Bool) (all F : List Line) (l : Line) (n : ℕ) (R : List ℕ) → slice_get all n ≡ Some l
    → script_of all R ≡ map numbered F → script_of all (if b then n ∷ R else R) ≡ map numbered (if b then l ∷ F else F)
by_test true all F l n R there e =
    ap (λ (o : Option Line). with_command o (script_of all R)) there ∙ ap (λ (cs : List Numbered). numbered l ∷ cs) e
by_test false all F l n R there e = e

grouped : (before rest : List Line) (l : Line) → (before ++ l ∷ []) ++ rest ≡ before ++ l ∷ rest
grouped [] rest l = refl
grouped (x ∷ xs) rest l = ap (λ (ls : List Line). x ∷ ls) (grouped xs rest l)

length_more : (before : List Line) (l : Line) → length (before ++ l ∷ []) ≡ length before + 1
length_more [] l = refl
length_more (x ∷ xs) l = let e = length_more xs l in omega (arith, e)

-- the commands at an actor's places are its own
at_places : (actor n : ℕ) (before rest : List Line) → n ≡ length before
    → script_of (before ++ rest) (places_of actor n rest) ≡ map numbered (filter (λ (l : Line). l.actor == actor) rest)
at_places actor n before [] e = refl
at_places actor n before (l ∷ ls) e =
    by_test (l.actor == actor) (before ++ l ∷ ls) (filter (λ (x : Line). x.actor == actor) ls) l n (places_of actor (n + 1) ls)
    (ap (λ (k : ℕ). slice_get (before ++ l ∷ ls) k) e ∙ at_more before ls l)
    (ap (λ (all : List Line). script_of all (places_of actor (n + 1) ls)) (sym (grouped before ls l))
    ∙ at_places actor (n + 1) (before ++ l ∷ []) ls (ap (λ (k : ℕ). k + 1) e ∙ sym (length_more before l)))

pub script_is : (actor : ℕ) (p : Phase) → script_of p.lines (places_of actor 0 p.lines) ≡ script_in p actor
script_is actor p = at_places actor 0 [] p.lines refl

pub world_is : (p : Phase) (seen actor more : ℕ) (vhosts : List (Option Side))
    → actors_of p.lines vhosts (given seen p.lines actor more) ≡ actors_from p seen actor more
world_is p seen actor zero vhosts = refl
world_is p seen actor (suc more) vhosts =
    ap (λ (cs : List Numbered). record { seen = seen; script = cs; doing = Came } ∷ actors_of p.lines vhosts (given seen p.lines (actor + 1) more))
    (script_is actor p)
    ∙ ap (λ (as_ : List Actor). record { seen = seen; script = script_in p actor; doing = Came } ∷ as_) (world_is p seen (actor + 1) more vhosts)

pub begun_is : (seen actor more : ℕ) (ls : List Line) → AllByRecursion HasBegun (given seen ls actor more)
begun_is seen actor zero ls = tt
begun_is seen actor (suc more) ls = (refl, begun_is seen (actor + 1) more ls)

by_place : (b : Bool) (n m : ℕ) (R : List ℕ) → n < m → AllByRecursion (λ i. i < m) R
    → AllByRecursion (λ i. i < m) (if b then n ∷ R else R)
by_place true n m R h all = (h, all)
by_place false n m R h all = all

within : (actor n m : ℕ) (ls : List Line) → n + length ls ≤ m → AllByRecursion (λ i. i < m) (places_of actor n ls)
within actor n m [] h = tt
within actor n m (l ∷ ls) h = by_place (l.actor == actor) n m _ (omega (arith, h)) (within actor (n + 1) m ls (omega (arith, h)))

pub places_are : (seen actor more : ℕ) (ls : List Line) → AllByRecursion (HasPlaces ls) (given seen ls actor more)
places_are seen actor zero ls = tt
places_are seen actor (suc more) ls = (within actor 0 (length ls) ls (omega arith), places_are seen (actor + 1) more ls)

-- ---- in the loop

each_of : {X : Type 0} (P : X → Type 0) (xs : List X) (i : ℕ) (d : X) → AllByRecursion P xs → i < length xs → P (get_or xs i d)
each_of P [] i d all h = absurd (omega (arith, h))
each_of P (x ∷ xs) zero d all h = all.0
each_of P (x ∷ xs) (suc i) d all h = each_of P xs i d all.1 (omega (arith, h))

pub actor_there : (seen count place : ℕ) (ls : List Line) (l : Line) (now : List Acting)
    → now ≡ given seen (take place ls) 0 count → AllByRecursion (λ (x : Line). x.actor < count) ls
    → place < length ls → l ≡ get_or ls place l → IsSome (slice_get now l.actor)
actor_there seen count place ls l now e all h is =
    ap (λ (as_ : List Acting). is_some (slice_get as_ l.actor)) e
    ∙ given_there seen 0 count l.actor (take place ls) (rw is (each_of (λ (x : Line). x.actor < count) ls place l all h))

if_there : (o : Option Acting) (P : Acting → Type 0) (Q : Type 0) → IsSome o → IfSome o P → ((a : Acting) → o ≡ Some a → P a → Q) → Q
if_there None P Q some is f = absurd (true≢false (sym some))
if_there (Some a) P Q some is f = f a refl is

pub line_given : (seen count place : ℕ) (ls : List Line) (l : Line) (now new : List Acting)
    → now ≡ given seen (take place ls) 0 count → IsSome (slice_get now l.actor)
    → IfSome (slice_get now l.actor) (λ a. new ≡ with_nth l.actor (with_place place a) now)
    → place < length ls → l ≡ get_or ls place l → new ≡ given seen (take (place + 1) ls) 0 count
line_given seen count place ls l now new e some is h at_place =
    if_there (slice_get now l.actor) _ _ some is
    (λ a there is_new.
    is_new
    ∙ ap (λ (k : ℕ). with_nth l.actor (with_place k a) now) (sym (length-take-le place ls (omega (arith, h))))
    ∙ ap (λ (as_ : List Acting). with_nth l.actor (with_place (length (take place ls)) a) as_) e
    ∙ given_more seen 0 count l.actor (take place ls) l a (omega arith) (ap (λ (as_ : List Acting). slice_get as_ l.actor) (sym e) ∙ there)
    ∙ ap (λ (xs : List Line). given seen xs 0 count)
    (ap (λ (x : Line). take place ls ++ x ∷ []) at_place ∙ sym (take_more ls place l h)))

pub all_given : (p : Phase) (seen place : ℕ) (now : List Acting) → now ≡ given seen (take place p.lines) 0 p.actors
    → length p.lines ≤ place → AreBeginning p seen now
all_given p seen place now e h =
    let whole : now ≡ given seen p.lines 0 p.actors = e ∙ ap (λ (xs : List Line). given seen xs 0 p.actors) (take_all place p.lines h) in
    record {
      world = λ vhosts. ap (λ (as_ : List Acting). actors_of p.lines vhosts as_) whole ∙ world_is p seen 0 p.actors vhosts;
      places = rw whole (places_are seen 0 p.actors p.lines);
      none = rw whole (begun_is seen 0 p.actors p.lines);
    }
