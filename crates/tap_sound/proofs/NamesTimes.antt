-- How often a name stands after an effect.
use Rattle.std.proofs.Common.{◌≡◌, ◌⊎◌, ℕ, zero, suc, ◌+◌, ◌≤◌, List, [], ◌∷◌, ◌++◌, Bool, true, false, Option, Some, None, inl, inr, ⊎_elim, refl, sym, ap, ◌∙◌, subst, true≢false, arith}
use Rattle.std.specs.Prelude.{if◌then◌else◌, ◌==◌, ◌&&◌, ◌-◌, slice_get}
use Rattle.std.specs.Option.{option_map_or}
use Rattle.std.specs.List.{AllByRecursion}
use Rattle.std.proofs.lemmas.Bool.Decides.{eqb_tells}
use Rattle.std.proofs.Common.{eq-eqb}
use Rattle.tap_frame.specs.declared.name.Name.{Name}
use Rattle.tap_ground.specs.Options.{only_if}
use Rattle.tap_world.specs.ByNumber.{at, with_at}
use Rattle.tap_world.specs.declared.line.Entry.{Entry}
use Rattle.tap_world.specs.declared.line.Standing.{Standing}
use Rattle.tap_world.specs.Line.{File, first_that, has_batch, in_batch, in_ring, last_that}
use Rattle.tap_world.specs.declared.line.Standing.TheVariants.{Batched, Claimed, Cut, Out, Ready}
use Rattle.tap_world.specs.LineSteps.{Change, changed, filled, may_leave, moves_to, ready_front, restand}
use Rattle.tap_world.specs.LineSteps.Change.{Claims, Cuts, Leaves, Moves, Owned, Puts, PutsBack, Reopens, Shuts, Sizes, Takes}
use Rattle.tap_world.specs.World.{Actor, World}
use Rattle.tap_world.specs.Effect.{Effect, OnFiles, files_after, guests_after, with_effect}
use Rattle.tap_world.specs.Effect.OnFiles.{NoFile, OnFile}
use Rattle.tap_world.specs.Stands.{are_new, names_of, placed_by, same_name, times, times_in, times_on, times_placed}
use Rattle.tap_sound.proofs.Kit.{only_some, some_same, then_some}
use Rattle.tap_sound.proofs.Entries.{filled_keeps}
use Rattle.tap_sound.proofs.Kept.{effect_files}
use Rattle.tap_sound.proofs.Taken.{both, if_some}

-- ---- names

is_eqb : (a b : ℕ) → (a == b) ≡ true → a ≡ b
is_eqb a b e = ⊎_elim (λ t. t.1) (λ t. absurd (true≢false (sym e ∙ t.0))) (eqb_tells a b)

pub same_is : (n m : Name) → same_name n m ≡ true → n ≡ m
same_is n m e =
    let t = both (n.actor == m.actor && n.turn == m.turn) (n.part == m.part) e in
    let u = both (n.actor == m.actor) (n.turn == m.turn) t.0 in
    let a : n.actor ≡ m.actor = is_eqb n.actor m.actor u.0 in
    let b : n.turn ≡ m.turn = is_eqb n.turn m.turn u.1 in
    let c : n.part ≡ m.part = is_eqb n.part m.part t.1 in
    λ i. record { actor = a i; turn = b i; part = c i }

pub same_self : (n : Name) → same_name n n ≡ true
same_self n =
    ap (λ (b : Bool). b && n.turn == n.turn && n.part == n.part) (eq-eqb n.actor n.actor refl)
    ∙ ap (λ (b : Bool). b && n.part == n.part) (eq-eqb n.turn n.turn refl)
    ∙ eq-eqb n.part n.part refl

one_if : Bool → ℕ
one_if b = if b then 1 else 0

-- ---- names in lists

pub times_in_more : (n : Name) (xs ys : List Name) → times_in n (xs ++ ys) ≡ times_in n xs + times_in n ys
times_in_more n [] ys = omega arith
times_in_more n (x ∷ xs) ys = let h = times_in_more n xs ys in omega (arith, h)

-- each name of a list stands in it
pub each_there : (all ns : List Name) → ((n : Name) → times_in n ns ≤ times_in n all) → AllByRecursion (λ n. 1 ≤ times_in n all) ns
each_there all [] h = tt
each_there all (x ∷ xs) h = (first, each_there all xs (λ n. let t = h n in omega (arith, t)))
  where
    first : 1 ≤ times_in x all
    first =
        let t : (if same_name x x then 1 else 0) + times_in x xs ≤ times_in x all = h x in
        let u : 1 + times_in x xs ≤ times_in x all = subst (λ (b : Bool). (if b then 1 else 0) + times_in x xs ≤ times_in x all) (same_self x) t in
        omega (arith, u)

-- ---- new names

zero_is : (n : ℕ) → (n == 0) ≡ true → n ≡ 0
zero_is n e = is_eqb n 0 e

-- a name that is none of them, or is one of them once and stands nowhere
pub new_once : (w : World) (ns : List Name) → are_new w ns ≡ true → (n : Name) → (times_in n ns ≡ 0) ⊎ ((times_in n ns ≡ 1) × (times w n ≡ 0))
new_once w [] e n = inl refl
new_once w (x ∷ xs) e n =
    let t = both (times w x == 0 && times_in x xs == 0) (are_new w xs) e in
    let u = both (times w x == 0) (times_in x xs == 0) t.0 in
    go (same_name n x) refl (zero_is (times w x) u.0) (zero_is (times_in x xs) u.1) (new_once w xs t.1 n)
  where
    go : (b : Bool) → same_name n x ≡ b → times w x ≡ 0 → times_in x xs ≡ 0 → (times_in n xs ≡ 0) ⊎ ((times_in n xs ≡ 1) × (times w n ≡ 0))
        → ((if b then 1 else 0) + times_in n xs ≡ 0) ⊎ (((if b then 1 else 0) + times_in n xs ≡ 1) × (times w n ≡ 0))
    go true same nowhere once rest =
        let it : n ≡ x = same_is n x same in
        let none : times_in n xs ≡ 0 = subst (λ (m : Name). times_in m xs ≡ 0) (sym it) once in
        inr (omega (arith, none), subst (λ (m : Name). times w m ≡ 0) (sym it) nowhere)
    go false same nowhere once rest = ⊎_elim (λ z. inl (omega (arith, z))) (λ p. let o = p.0 in inr (omega (arith, o), p.1)) rest

-- ---- names on lines

times_on_more : (n : Name) (line : List Entry) (e : Entry) → times_on n (line ++ e ∷ []) ≡ times_on n line + times_in n (e.name ∷ [])
times_on_more n [] e = omega arith
times_on_more n (x ∷ xs) e = let h = times_on_more n xs e in omega (arith, h)

times_on_restand : (n : Name) (i : ℕ) (s : Standing) (line : List Entry) → times_on n (restand i s line) ≡ times_on n line
times_on_restand n i s [] = refl
times_on_restand n zero s (x ∷ xs) = refl
times_on_restand n (suc i) s (x ∷ xs) = ap (λ k. (if same_name n x.name then 1 else 0) + k) (times_on_restand n i s xs)

times_on_filled : (n : Name) (more : ℕ) (line : List Entry) → times_on n (filled more line) ≡ times_on n line
times_on_filled n more line = filled_keeps (λ (l : List Entry). times_on n l ≡ times_on n line)
    (λ l i front e. times_on_restand n i Batched l ∙ e) more line refl

nothing_more : (a b : ℕ) → a ≡ b → a ≡ b + 0
nothing_more a b e = omega (arith, e)

moved_times : (n : Name) (s : Standing) (f g : File) (o : Option ℕ) → moves_to s f o ≡ Some g → times_on n g.line ≡ times_on n f.line
moved_times n s f g None e = absurd (cc (e))
moved_times n s f g (Some i) e = ap (λ (h : File). times_on n h.line) (sym (some_same _ g e)) ∙ times_on_restand n i s f.line

taken_times : (n : Name) (vhost : ℕ) (f g : File) (b test : Bool)
    → only_if test (record f { line = if b then f.line else filled 64 f.line; hand = Some vhost }) ≡ Some g → times_on n g.line ≡ times_on n f.line
taken_times n vhost f g true test e = let o = only_some test _ g e in ap (λ (h : File). times_on n h.line) (sym o.1)
taken_times n vhost f g false test e = let o = only_some test _ g e in ap (λ (h : File). times_on n h.line) (sym o.1) ∙ times_on_filled n 64 f.line

same_times : (n : Name) (test : Bool) (f h g : File) → h.line ≡ f.line → only_if test h ≡ Some g → times_on n g.line ≡ times_on n f.line
same_times n test f h g line e = let o = only_some test h g e in ap (λ (x : File). times_on n x.line) (sym o.1) ∙ ap (times_on n) line

pub change_times : (n : Name) (file : ℕ) (c : Change) (f g : File) → changed c f ≡ Some g → times_on n g.line ≡ times_on n f.line + times_in n (placed_by (OnFile file c))
change_times n file (Claims actor name epoch len) f g e =
    let o = only_some _ _ g e in
    ap (λ (h : File). times_on n h.line) (sym o.1)
    ∙ times_on_more n f.line (record { name = name; epoch = epoch; len = len; stands = Claimed actor })
change_times n file (Puts actor place) f g e =
    let t = then_some (slice_get f.line (place - f.first)) _ g e in
    let o = only_some _ _ g t.2 in
    nothing_more _ _ (ap (λ (h : File). times_on n h.line) (sym o.1) ∙ times_on_restand n (place - f.first) Ready f.line)
change_times n file Moves f g e = let i = if_some _ _ g e in nothing_more _ _ (moved_times n Batched f g (ready_front f.line) i.1)
change_times n file (Takes vhost) f g e = nothing_more _ _ (taken_times n vhost f g (has_batch f) _ e)
change_times n file (PutsBack vhost) f g e = nothing_more _ _ (same_times n _ f (record f { hand = None }) g refl e)
change_times n file (Leaves worker fate) f g e =
    let i = if_some (may_leave worker f) _ g e in
    nothing_more _ _ (moved_times n (Out fate) (record f { hand = None }) g (first_that in_batch f.line) i.1)
change_times n file Shuts f g e = nothing_more _ _ (same_times n _ f (record f { shut = true }) g refl e)
change_times n file Reopens f g e = nothing_more _ _ (same_times n _ f (record f { shut = false; epoch = f.epoch + 1 }) g refl e)
change_times n file (Sizes capacity) f g e = nothing_more _ _ (same_times n _ f (record f { capacity = capacity; resizes = f.resizes + 1 }) g refl e)
change_times n file Cuts f g e = let i = if_some _ _ g e in nothing_more _ _ (moved_times n Cut f g (last_that in_ring f.line) i.1)
change_times n file (Owned owner) f g e = nothing_more _ _ (same_times n _ f (record f { owner = owner }) g refl e)

-- ---- names on all lines

with_at_times : (n : Name) (file : ℕ) (f g : File) (files : List (Option File)) → at files file ≡ Some f
    → times_placed n (with_at file g files) + times_on n f.line ≡ times_placed n files + times_on n g.line
with_at_times n file f g [] e = absurd (cc (e))
with_at_times n zero f g (x ∷ xs) e =
    let h : option_map_or (λ (y : File). times_on n y.line) x 0 ≡ times_on n f.line = ap (λ (o : Option File). option_map_or (λ (y : File). times_on n y.line) o 0) e in
    omega (arith, h)
with_at_times n (suc file) f g (x ∷ xs) e = let h = with_at_times n file f g xs e in omega (arith, h)

pub files_times : (n : Name) (o : OnFiles) (files after : List (Option File)) → files_after o files ≡ Some after
    → times_placed n after ≡ times_placed n files + times_in n (placed_by o)
files_times n NoFile files after e = nothing_more _ _ (ap (times_placed n) (sym (some_same files after e)))
files_times n (OnFile file c) files after e =
    let f = then_some (at files file) _ after e in
    let g = then_some (changed c f.0) _ after f.2 in
    let a : times_placed n (with_at file g.0 files) ≡ times_placed n after = ap (times_placed n) (some_same _ after g.2) in
    let b = with_at_times n file f.0 g.0 files f.1 in
    let d = change_times n file c f.0 g.0 g.1 in
    omega (arith, a, b, d)

-- ---- a world after an effect

abbrev Lists : World → World → Effect → Type 0
Lists w v r = (v.dropped ≡ w.dropped ++ r.drops) × (v.hosted ≡ w.hosted ++ r.hosts)

effect_lists : (r : Effect) (actor : ℕ) (a : Actor) (command : ℕ) (w v : World) → with_effect r actor a command w ≡ Some v → Lists w v r
effect_lists r actor a command w v e =
    let f = then_some (files_after r.files w.files) _ v e in
    let g = then_some (guests_after actor command r.guests w.guests) _ v f.2 in
    subst (λ (x : World). Lists w x r) (some_same _ v g.2) (refl, refl)

pub effect_times : (n : Name) (r : Effect) (actor : ℕ) (a : Actor) (command : ℕ) (w v : World) → with_effect r actor a command w ≡ Some v
    → times v n ≡ times w n + times_in n (names_of r)
effect_times n r actor a command w v e =
    let l = effect_lists r actor a command w v e in
    let d : times_in n v.dropped ≡ times_in n w.dropped + times_in n r.drops = ap (times_in n) l.0 ∙ times_in_more n w.dropped r.drops in
    let h : times_in n v.hosted ≡ times_in n w.hosted + times_in n r.hosts = ap (times_in n) l.1 ∙ times_in_more n w.hosted r.hosts in
    let f = files_times n r.files w.files v.files (effect_files r actor a command w v e) in
    let k = times_in_more n (r.drops ++ r.hosts) (placed_by r.files) in
    let j = times_in_more n r.drops r.hosts in
    omega (arith, d, h, f, k, j)
