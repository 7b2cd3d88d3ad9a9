-- The parts of phases, filled operation by operation and answer by answer, are those of the world.
use Rattle.std.proofs.Common.{◌≡◌, ℕ, zero, suc, ◌+◌, ◌<◌, ◌≤◌, Bool, true, false, cond, if◌then◌else◌, List, [], ◌∷◌, ◌++◌, ◌==◌, ◌&&◌, length, take, drop, get_or, set, map, Option, sym, ap, ◌∙◌, refl, append_assoc, arith}
use Rattle.std.specs.Prelude.{filter, fold, option_to_list}
use Rattle.std.specs.List.{flat_map}
use Rattle.std.proofs.lemmas.List.{append-nil, take_all}
use Rattle.std.proofs.Math.ListN.{drop_of_length-le}
use Rattle.scen_text.specs.declared.scenario.Phase.{Phase}
use Rattle.scen_text.specs.declared.scenario.Scenario.{Scenario}
use Rattle.tap_trace.specs.declared.trace.AnswerLine.{AnswerLine}
use Rattle.tap_trace.specs.declared.trace.OpLine.{OpLine}
use Rattle.tap_trace.specs.declared.trace.PhasePart.{PhasePart}
use Rattle.tap_world.specs.Project.{answers_of, answer_lines, op_line, op_lines, phase_parts, with_versions}
use Rattle.tap_world.specs.Setup.{Setup, setup_of}
use Rattle.tap_world.specs.World.{World}
use Rattle.tap_world.specs.declared.told.Published.{Published}
use Rattle.tap_world.specs.declared.told.Said.{Said}
use Rattle.tap_told.specs.Told.{told_world}
use Rattle.tap_told.proofs.Declared.{phases_of_setup}
use Rattle.tap_told.proofs.Lists.{rest_is}
use Rattle.tap_told.specs.Phases.{answers_told, by_actors, changed_from, in_order, ops_told, untold, with_answer, with_ops}

-- ---- one part changes

eqb_other : (m n : ℕ) → m < n → (n == m) ≡ false
eqb_other m n lt = grind arith

-- where there is no such part, none changes
pub changed_past : {A : Type 0} (first number : ℕ) (change : A → A) (xs : List A) → first + length xs ≤ number → changed_from first number change xs ≡ xs
changed_past first number change [] past = refl
changed_past first number change (x ∷ xs) past =
    ap (λ b. (if b then change x else x) ∷ changed_from (first + 1) number change xs) (eqb_other first number (omega arith))
    ∙ ap (λ t. x ∷ t) (changed_past (first + 1) number change xs (omega arith))

-- none before it changes
changed_below : {A : Type 0} (first number : ℕ) (change : A → A) (xs : List A) → number < first → changed_from first number change xs ≡ xs
changed_below first number change [] below = refl
changed_below first number change (x ∷ xs) below =
    let differ : (number == first) ≡ false = grind arith in
    ap (λ b. (if b then change x else x) ∷ changed_from (first + 1) number change xs) differ
    ∙ ap (λ t. x ∷ t) (changed_below (first + 1) number change xs (omega arith))

pub changed_at : {A : Type 0} (first i : ℕ) (change : A → A) (xs : List A) (d : A) → i < length xs
    → changed_from first (first + i) change xs ≡ set xs i (change (get_or xs i d))
changed_at first i change [] d lt = absurd (omega arith)
changed_at first zero change (x ∷ xs) d lt =
    let same : (first + 0 == first) ≡ true = grind arith in
    ap (λ b. (if b then change x else x) ∷ changed_from (first + 1) (first + 0) change xs) same
    ∙ ap (λ t. change x ∷ t) (changed_below (first + 1) (first + 0) change xs (omega arith))
changed_at first (suc i) change (x ∷ xs) d lt =
    let differ : (first + suc i == first) ≡ false = grind arith in
    let place : first + suc i ≡ first + 1 + i = omega arith in
    ap (λ b. (if b then change x else x) ∷ changed_from (first + 1) (first + suc i) change xs) differ
    ∙ ap (λ k. x ∷ changed_from (first + 1) k change xs) place
    ∙ ap (λ t. x ∷ t) (changed_at (first + 1) i change xs d (omega arith))

pub changed_here : {A : Type 0} (i : ℕ) (change : A → A) (xs : List A) (d : A) → i < length xs
    → changed_from 0 i change xs ≡ set xs i (change (get_or xs i d))
changed_here i change xs d lt =
    let place : i ≡ 0 + i = omega arith in
    ap (λ k. changed_from 0 k change xs) place ∙ changed_at 0 i change xs d lt

unmoved : {A : Type 0} (b : Bool) (x y : A) → y ≡ x → (if b then y else x) ≡ x
unmoved true x y e = e
unmoved false x y e = refl

-- a change that changes nothing
pub changed_not : {A : Type 0} (first number : ℕ) (change : A → A) (xs : List A) → ((x : A) → change x ≡ x) → changed_from first number change xs ≡ xs
changed_not first number change [] same = refl
changed_not first number change (x ∷ xs) same =
    ap (λ y. y ∷ changed_from (first + 1) number change xs) (unmoved (number == first) x (change x) (same x))
    ∙ ap (λ t. x ∷ t) (changed_not (first + 1) number change xs same)

-- ---- a part has what is added to it

pub no_ops : (p : PhasePart) → with_ops [] p ≡ p
no_ops p = ap (λ l. record p { ops = l }) (append-nil p.ops)

ops_twice : (a b : List OpLine) (p : PhasePart) → with_ops b (with_ops a p) ≡ with_ops (a ++ b) p
ops_twice a b p = ap (λ l. record p { ops = l }) (append_assoc p.ops a b)

abbrev with_answers : List AnswerLine → PhasePart → PhasePart
with_answers lines part = record part { answers = part.answers ++ lines }

no_answers : (p : PhasePart) → with_answers [] p ≡ p
no_answers p = ap (λ l. record p { answers = l }) (append-nil p.answers)

answers_twice : (x : AnswerLine) (xs : List AnswerLine) (p : PhasePart) → with_answers xs (with_answer x p) ≡ with_answers (x ∷ xs) p
answers_twice x xs p = ap (λ l. record p { answers = l }) (append_assoc p.answers (x ∷ []) xs)

-- ---- all that is told, part by part

fold_none : {A X : Type 0} (n : ℕ) (key : X → ℕ) (add : X → A → A) (xs : List X)
    → fold (λ (ps : List A) (x : X). changed_from n (key x) (add x) ps) [] xs ≡ []
fold_none n key add [] = refl
fold_none n key add (x ∷ xs) = fold_none n key add xs

fold_each : {A X : Type 0} (n : ℕ) (key : X → ℕ) (add : X → A → A) (p : A) (ps : List A) (xs : List X)
    → fold (λ (qs : List A) (x : X). changed_from n (key x) (add x) qs) (p ∷ ps) xs
    ≡ fold (λ (q : A) (x : X). if key x == n then add x q else q) p xs
    ∷ fold (λ (qs : List A) (x : X). changed_from (n + 1) (key x) (add x) qs) ps xs
fold_each n key add p ps [] = refl
fold_each n key add p ps (x ∷ xs) =
    fold_each n key add (if key x == n then add x p else p) (changed_from (n + 1) (key x) (add x) ps) xs

-- an operation's lines
abbrev lines_by : Setup → ℕ × Published → List OpLine
lines_by s v = option_to_list (op_line s v)

abbrev of_phase : ℕ → ℕ × Published → Bool
of_phase n v = v.1.phase == n

one_op : (s : Setup) (b : Bool) (v : ℕ × Published) (vs : List (ℕ × Published)) (p : PhasePart)
    → with_ops (flat_map (lines_by s) vs) (if b then with_ops (lines_by s v) p else p) ≡ with_ops (flat_map (lines_by s) (cond b (v ∷ vs) vs)) p
one_op s true v vs p = ops_twice (lines_by s v) (flat_map (lines_by s) vs) p
one_op s false v vs p = refl

ops_each : (s : Setup) (n : ℕ) (p : PhasePart) (vs : List (ℕ × Published))
    → fold (λ (q : PhasePart) (v : ℕ × Published). if of_phase n v then with_ops (lines_by s v) q else q) p vs
    ≡ with_ops (flat_map (lines_by s) (filter (of_phase n) vs)) p
ops_each s n p [] = sym (no_ops p)
ops_each s n p (v ∷ vs) =
    ops_each s n (if of_phase n v then with_ops (lines_by s v) p else p) vs ∙ one_op s (of_phase n v) v (filter (of_phase n) vs) p

-- the answers of a phase
abbrev said_in : ℕ → List Said → List AnswerLine
said_in n said = map (λ (x : Said). x.line) (filter (λ (x : Said). x.phase == n) said)

one_answer : (b : Bool) (x : Said) (xs : List Said) (p : PhasePart)
    → with_answers (map (λ (y : Said). y.line) xs) (if b then with_answer x.line p else p) ≡ with_answers (map (λ (y : Said). y.line) (cond b (x ∷ xs) xs)) p
one_answer true x xs p = answers_twice x.line (map (λ (y : Said). y.line) xs) p
one_answer false x xs p = refl

answers_each : (n : ℕ) (p : PhasePart) (xs : List Said)
    → fold (λ (q : PhasePart) (x : Said). if x.phase == n then with_answer x.line q else q) p xs ≡ with_answers (said_in n xs) p
answers_each n p [] = sym (no_answers p)
answers_each n p (x ∷ xs) =
    answers_each n (if x.phase == n then with_answer x.line p else p) xs ∙ one_answer (x.phase == n) x (filter (λ (y : Said). y.phase == n) xs) p

-- those of an actor among the answers of a phase
abbrev is_by : ℕ → AnswerLine → Bool
is_by actor x = x.actor == actor

both_tests : (actor : ℕ) (a b : Bool) (x : Said) (xs ys : List Said) → (x.line.actor == actor) ≡ b
    → filter (is_by actor) (map (λ (y : Said). y.line) xs) ≡ map (λ (y : Said). y.line) ys
    → filter (is_by actor) (map (λ (y : Said). y.line) (cond a (x ∷ xs) xs)) ≡ map (λ (y : Said). y.line) (cond (a && b) (x ∷ ys) ys)
both_tests actor true true x xs ys is rest =
    let left = filter (is_by actor) (map (λ (y : Said). y.line) xs) in
    ap (λ c. cond c (x.line ∷ left) left) is ∙ ap (λ t. x.line ∷ t) rest
both_tests actor true false x xs ys is rest =
    let left = filter (is_by actor) (map (λ (y : Said). y.line) xs) in
    ap (λ c. cond c (x.line ∷ left) left) is ∙ rest
both_tests actor false b x xs ys is rest = rest

one_actor : (n actor : ℕ) (xs : List Said) → filter (is_by actor) (said_in n xs) ≡ answers_of n actor xs
one_actor n actor [] = refl
one_actor n actor (x ∷ xs) =
    both_tests actor (x.phase == n) (x.line.actor == actor) x (filter (λ (y : Said). y.phase == n) xs)
    (filter (λ (y : Said). y.phase == n && y.line.actor == actor) xs) refl (one_actor n actor xs)

each_actor : (n actor more : ℕ) (xs : List Said) → by_actors actor more (said_in n xs) ≡ answer_lines n actor more xs
each_actor n actor zero xs = refl
each_actor n actor (suc more) xs =
    ap (λ t. t ++ by_actors (actor + 1) more (said_in n xs)) (one_actor n actor xs)
    ∙ ap (λ t. answers_of n actor xs ++ t) (each_actor n (actor + 1) more xs)

-- one more operation, and those that are left
pub one_more_op : (s : Setup) (now after whole : List PhasePart) (ops : List Published) (i : ℕ) (x d : Published) (line : Option OpLine)
    → i < length ops → x ≡ get_or ops i d → line ≡ op_line s (i + 1, x) → after ≡ changed_from 0 x.phase (with_ops (option_to_list line)) now
    → ops_told s now (with_versions (i + 1) (drop i ops)) ≡ whole → ops_told s after (with_versions (i + 1 + 1) (drop (i + 1) ops)) ≡ whole
one_more_op s now after whole ops i x d line lt is its told so_far =
    let left = with_versions (i + 1 + 1) (drop (i + 1) ops) in
    ap (λ ps. ops_told s ps left) (told ∙ ap (λ l. changed_from 0 x.phase (with_ops (option_to_list l)) now) its)
    ∙ sym (ap (λ r. ops_told s now (with_versions (i + 1) r)) (rest_is ops i x d lt is)) ∙ so_far

-- ---- all phases

abbrev ops_from : Setup → ℕ → List PhasePart → List (ℕ × Published) → List PhasePart
ops_from s n ps vs = fold (λ (qs : List PhasePart) (v : ℕ × Published). changed_from n v.1.phase (with_ops (lines_by s v)) qs) ps vs

abbrev answers_from : ℕ → List PhasePart → List Said → List PhasePart
answers_from n ps xs = fold (λ (qs : List PhasePart) (x : Said). changed_from n x.phase (with_answer x.line) qs) ps xs

pub phases_filled : (s : Setup) (w : World) (n : ℕ) (ps : List Phase)
    → map in_order (answers_from n (ops_from s n (map untold ps) (with_versions 1 w.ops)) w.said) ≡ phase_parts s w n ps
phases_filled s w n [] =
    ap (λ qs. map in_order (answers_from n qs w.said)) (fold_none n (λ (v : ℕ × Published). v.1.phase) (λ v. with_ops (lines_by s v)) (with_versions 1 w.ops))
    ∙ ap (map in_order) (fold_none n (λ (x : Said). x.phase) (λ x. with_answer x.line) w.said)
phases_filled s w n (p ∷ ps) =
    let vs = with_versions 1 w.ops in
    let behind = ops_from s (n + 1) (map untold ps) vs in
    let had = with_ops (op_lines s n w.ops) (untold p) in
    let ops : ops_from s n (untold p ∷ map untold ps) vs ≡ had ∷ behind =
    fold_each n (λ (v : ℕ × Published). v.1.phase) (λ v. with_ops (lines_by s v)) (untold p) (map untold ps) vs
    ∙ ap (λ q. q ∷ behind) (ops_each s n (untold p) vs) in
    let answers : answers_from n (had ∷ behind) w.said ≡ with_answers (said_in n w.said) had ∷ answers_from (n + 1) behind w.said =
    fold_each n (λ (x : Said). x.phase) (λ x. with_answer x.line) had behind w.said
    ∙ ap (λ q. q ∷ answers_from (n + 1) behind w.said) (answers_each n had w.said) in
    let sorted : in_order (with_answers (said_in n w.said) had)
    ≡ record { actors = p.actors; ops = op_lines s n w.ops; answers = answer_lines n 0 p.actors w.said }
    = ap (λ l. record { actors = p.actors; ops = op_lines s n w.ops; answers = l }) (each_actor n 0 p.actors w.said) in
    ap (λ qs. map in_order (answers_from n qs w.said)) ops ∙ ap (map in_order) answers
    ∙ ap (λ q. q ∷ map in_order (answers_from (n + 1) behind w.said)) sorted
    ∙ ap (λ t. record { actors = p.actors; ops = op_lines s n w.ops; answers = answer_lines n 0 p.actors w.said } ∷ t) (phases_filled s w (n + 1) ps)

-- ---- a vector's items, written through its slice

written_back : {A : Type 0} (n : ℕ) (xs ys : List A) → length xs ≡ n → length ys ≡ length xs → take n (ys ++ drop (length ys) xs) ≡ ys
written_back n xs ys len same =
    ap (λ t. take n (ys ++ t)) (drop_of_length-le xs (omega (arith, same))) ∙ ap (take n) (append-nil ys) ∙ take_all n ys (omega (arith, same, len))

pub phases_told : (s : Scenario) (ops : List Published) (said : List Said) (n : ℕ) (phases : List Phase) (items slice new : List PhasePart)
    → phases ≡ s.phases → items ≡ map untold phases → slice ≡ items → length slice ≡ n → length new ≡ length slice
    → new ≡ answers_told (ops_told (setup_of s) slice (with_versions 1 ops)) said
    → map in_order (take n (new ++ drop (length new) items))
    ≡ phase_parts (setup_of s) (told_world ops said [] [] []) 0 (setup_of s).phases
phases_told s ops said n phases items slice new given opened through len same told =
    let w = told_world ops said [] [] [] in
    let items_len : length items ≡ n = ap length (sym through) ∙ len in
    let begun : slice ≡ map untold (setup_of s).phases = through ∙ opened ∙ ap (map untold) (given ∙ sym (phases_of_setup s)) in
    ap (map in_order) (written_back n items new items_len (same ∙ ap length through)) ∙ ap (map in_order) told
    ∙ ap (λ ps. map in_order (answers_told (ops_told (setup_of s) ps (with_versions 1 ops)) said)) begun
    ∙ phases_filled (setup_of s) w 0 (setup_of s).phases
