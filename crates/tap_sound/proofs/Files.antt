-- What the changes of a file keep.
use Rattle.std.proofs.Common.{◌≡◌, ◌≢◌, ℕ, zero, suc, ◌+◌, ◌-◌, ◌^◌, ◌≤◌, ◌<◌, List, [], ◌∷◌, ◌++◌, length, Bool, true, false, Option, Some, None, ⊎_elim, refl, sym, ap, ◌∙◌, subst, true≢false, arith, length-append}
use Rattle.std.specs.Prelude.{if◌then◌else◌, ◌&&◌, ◌||◌, ◌==◌, not, is_none, is_some, nat_lt, slice_get, max}
use Rattle.std.specs.List.{AllByRecursion}
use Rattle.std.specs.Option.{option_map_or}
use Rattle.std.proofs.lemmas.Bool.Decides.{eqb_tells, leb_tells}
use Rattle.tap_frame.specs.declared.name.Name.{Name}
use Rattle.tap_ledger.specs.declared.fate.Fate.{Fate}
use Rattle.tap_ground.specs.Options.{only_if}
use Rattle.tap_world.specs.declared.line.Entry.{Entry}
use Rattle.tap_world.specs.declared.line.Standing.{Standing}
use Rattle.tap_world.specs.Line.{File, claimed, count, first_that, freed, has_batch, has_claim, in_batch, in_ring, is_empty, is_full, is_gone, is_kept, is_over, is_spent, last_that}
use Rattle.tap_world.specs.declared.line.Standing.TheVariants.{Batched, Claimed, Cut, Out, Ready}
use Rattle.tap_world.specs.LineSteps.{Change, changed, filled, is_claim_of, may_leave, moves_to, ready_front, restand}
use Rattle.tap_world.specs.LineSteps.Change.{Claims, Cuts, Leaves, Moves, Owned, Puts, PutsBack, Reopens, Shuts, Sizes, Takes}
use Rattle.tap_world.specs.Sound.{HasEpochs, HasRoom, InThreeParts, IsOrdered, NeverFall, has_left}
use Rattle.tap_sound.proofs.Kit.{only_some, some_same, then_some}
use Rattle.tap_world.specs.Effect.OnFiles.{OnFile}
use Rattle.tap_sound.proofs.Tame.{HasGoodFate, KeepsSize}
use Rattle.tap_sound.proofs.Taken.{if_some}
use Rattle.tap_sound.proofs.Entries.{IsFirst, all_more, all_restand, all_weaker, batch_is, count_more, count_none, count_restand, fall_more, fall_restand, filled_keeps, first_is, front_is, last_is, length_restand, none_is, one_if, parts_cut, parts_more, parts_moved, parts_out, parts_put, ring_rank}

-- ---- a change taken apart: an entry more, an entry that stands elsewhere, or the same line

pub none_of : (a b c : Bool) → not (a || b || c) ≡ true → (a ≡ false) × (b ≡ false) × (c ≡ false)
none_of true b c e = absurd (true≢false (sym e))
none_of false true c e = absurd (true≢false (sym e))
none_of false false true e = absurd (true≢false (sym e))
none_of false false false e = (refl, refl, refl)

or_none : (a b : Bool) → (a || b) ≡ false → (a ≡ false) × (b ≡ false)
or_none true b e = absurd (true≢false e)
or_none false b e = (refl, e)

not_false : (b : Bool) → not b ≡ false → b ≡ true
not_false true e = refl
not_false false e = absurd (true≢false e)

claim_is : (actor : ℕ) (s : Standing) → is_claim_of actor s ≡ true → (other : ℕ) × (s ≡ Claimed other)
claim_is actor (Claimed other) e = (other, refl)
claim_is actor Ready e = absurd (true≢false (sym e))
claim_is actor Batched e = absurd (true≢false (sym e))
claim_is actor (Out fate) e = absurd (true≢false (sym e))
claim_is actor Cut e = absurd (true≢false (sym e))

-- how an entry comes to stand elsewhere
pub data Restands (line : List Entry) (i : ℕ) : Standing → Type 0 where
  Put : (e : Entry) (actor : ℕ) → slice_get line i ≡ Some e → e.stands ≡ Claimed actor → Restands line i Ready
  Move : IsFirst in_ring line i → Restands line i Batched
  Leave : (fate : Fate) → IsFirst in_batch line i → Restands line i (Out fate)
  CutOff : (e : Entry) → slice_get line i ≡ Some e → in_ring e.stands ≡ true → Restands line i Cut

pub data Course (f g : File) : Type 0 where
  Grows : (actor : ℕ) (name : Name) (epoch len : ℕ) → is_gone epoch f ≡ false → is_spent f ≡ false → is_full f ≡ false
      → record f { line = f.line ++ record { name = name; epoch = epoch; len = len; stands = Claimed actor } ∷ [] } ≡ g → Course f g
  Shifts : (i : ℕ) (s : Standing) (hand : Option ℕ) → Restands f.line i s → (s ≡ Batched → count in_batch f.line < 64)
      → record f { line = restand i s f.line; hand = hand } ≡ g → Course f g
  Fills : (hand : Option ℕ) → has_batch f ≡ false → record f { line = filled 64 f.line; hand = hand } ≡ g → Course f g
  Opens : f.shut ≡ true → is_empty f ≡ true → record f { shut = false; epoch = f.epoch + 1 } ≡ g → Course f g
  Resizes : (capacity : ℕ) → record f { capacity = capacity; resizes = f.resizes + 1 } ≡ g → Course f g
  Rests : g.line ≡ f.line → g.first ≡ f.first → g.epoch ≡ f.epoch → g.capacity ≡ f.capacity → Course f g

moved_some : (s : Standing) (f g : File) (o : Option ℕ) → moves_to s f o ≡ Some g → (i : ℕ) × (o ≡ Some i) × (record f { line = restand i s f.line } ≡ g)
moved_some s f g None e = absurd (cc (e))
moved_some s f g (Some i) e = (i, refl, some_same _ g e)

less_than : (a b : ℕ) → nat_lt a b ≡ true → a < b
less_than a b e = ⊎_elim (λ t. t.1) (λ t. absurd (true≢false (sym e ∙ t.0))) (leb_tells (suc a) b)

takes_course : (vhost : ℕ) (f g : File) (b : Bool) → has_batch f ≡ b
    → only_if (option_map_or (λ v. v == vhost) f.owner false && is_none f.hand && is_some (first_that in_batch (if b then f.line else filled 64 f.line)))
    (record f { line = if b then f.line else filled 64 f.line; hand = Some vhost }) ≡ Some g → Course f g
takes_course vhost f g true is e =
    let o = only_some _ _ g e in
    Rests (ap (λ (x : File). x.line) (sym o.1)) (ap (λ (x : File). x.first) (sym o.1)) (ap (λ (x : File). x.epoch) (sym o.1)) (ap (λ (x : File). x.capacity) (sym o.1))
takes_course vhost f g false is e = let o = only_some _ _ g e in Fills (Some vhost) is o.1

pub course : (c : Change) (f g : File) → changed c f ≡ Some g → Course f g
course (Claims actor name epoch len) f g e =
    let o = only_some _ _ g e in
    let n = none_of (is_gone epoch f) (is_spent f) (is_full f) o.0 in
    Grows actor name epoch len n.0 n.1 n.2 o.1
course (Puts actor place) f g e =
    let t = then_some (slice_get f.line (place - f.first)) _ g e in
    let o = only_some _ _ g t.2 in
    let c = claim_is actor t.0.stands o.0 in
    Shifts (place - f.first) Ready f.hand (Put t.0 c.0 t.1 c.1) (λ h. absurd (cc (h))) o.1
course Moves f g e =
    let i = if_some _ _ g e in
    let m = moved_some Batched f g (ready_front f.line) i.1 in
    Shifts m.0 Batched f.hand (Move (front_is f.line m.0 m.1)) (λ h. less_than _ _ i.0) m.2
course (Takes vhost) f g e = takes_course vhost f g (has_batch f) refl e
course (PutsBack vhost) f g e =
    let o = only_some _ _ g e in
    Rests (ap (λ (x : File). x.line) (sym o.1)) (ap (λ (x : File). x.first) (sym o.1)) (ap (λ (x : File). x.epoch) (sym o.1)) (ap (λ (x : File). x.capacity) (sym o.1))
course (Leaves worker fate) f g e =
    let i = if_some (may_leave worker f) _ g e in
    let m = moved_some (Out fate) (record f { hand = None }) g (first_that in_batch f.line) i.1 in
    Shifts m.0 (Out fate) None (Leave fate (first_is in_batch f.line m.0 m.1)) (λ h. absurd (cc (h))) m.2
course Shuts f g e =
    let o = only_some _ _ g e in
    Rests (ap (λ (x : File). x.line) (sym o.1)) (ap (λ (x : File). x.first) (sym o.1)) (ap (λ (x : File). x.epoch) (sym o.1)) (ap (λ (x : File). x.capacity) (sym o.1))
course Reopens f g e =
    let o = only_some _ _ g e in
    let t = three _ _ _ o.0 in
    Opens t.0 t.1 o.1
  where
    three : (a b c : Bool) → (a && b && c) ≡ true → (a ≡ true) × (b ≡ true)
    three true true c h = (refl, refl)
    three true false c h = absurd (true≢false (sym h))
    three false b c h = absurd (true≢false (sym h))
course (Sizes capacity) f g e = let o = only_some _ _ g e in Resizes capacity o.1
course Cuts f g e =
    let i = if_some (is_over f && not (has_claim f)) _ g e in
    let m = moved_some Cut f g (last_that in_ring f.line) i.1 in
    let l = last_is in_ring f.line m.0 m.1 in
    Shifts m.0 Cut f.hand (CutOff l.0 l.1 l.2) (λ h. absurd (cc (h))) m.2
course (Owned owner) f g e =
    let o = only_some _ _ g e in
    Rests (ap (λ (x : File). x.line) (sym o.1)) (ap (λ (x : File). x.first) (sym o.1)) (ap (λ (x : File). x.epoch) (sym o.1)) (ap (λ (x : File). x.capacity) (sym o.1))

-- ---- epochs

kept_before : (line : List Entry) (i : ℕ) (s : Standing) (e : Entry) → Restands line i s → slice_get line i ≡ Some e → is_kept s ≡ true → is_kept e.stands ≡ true
kept_before line i Ready e (Put d actor at is) here k = ap (λ (x : Entry). is_kept x.stands) (some_same e d (sym here ∙ at)) ∙ ap is_kept is
kept_before line i Batched e (Move h) here k = ap (λ (x : Entry). is_kept x.stands) (some_same e h.e (sym here ∙ h.here)) ∙ (ring_rank h.e.stands h.passes).2
kept_before line i (Out other) e (Leave fate h) here k = absurd (true≢false (sym k))
kept_before line i Cut e (CutOff d at is) here k = absurd (true≢false (sym k))
kept_before line i (Claimed actor) e how here k = elim how [ ]

shifts_epochs : (f : File) (i : ℕ) (s : Standing) (hand : Option ℕ) → ((e : Entry) → slice_get f.line i ≡ Some e → is_kept s ≡ true → is_kept e.stands ≡ true)
    → HasEpochs f → HasEpochs (record f { line = restand i s f.line; hand = hand })
shifts_epochs f i s hand before h = record {
  rise = fall_restand i s f.line h.rise;
  most = all_restand (λ (e : Entry). e.epoch ≤ f.epoch) i s f.line (λ e at le. le) h.most;
  kept = all_restand (λ (e : Entry). is_kept e.stands ≡ true → e.epoch ≡ f.epoch) i s f.line (λ e at q k. q (before e at k)) h.kept;
}

pub course_epochs : (f g : File) → Course f g → HasEpochs f → HasEpochs g
course_epochs f g (Grows actor name epoch len unshut spent full is) h =
    let o = or_none f.shut (not (f.epoch == epoch)) unshut in
    let same : f.epoch ≡ epoch = ⊎_elim (λ t. t.1) (λ t. absurd (true≢false (sym (not_false _ o.1) ∙ t.0))) (eqb_tells f.epoch epoch) in
    let e : Entry = record { name = name; epoch = epoch; len = len; stands = Claimed actor } in
    subst HasEpochs is (record {
      rise = fall_more f.line e (subst (λ (n : ℕ). AllByRecursion (λ (d : Entry). d.epoch ≤ n) f.line) same h.most) h.rise;
      most = all_more (λ (d : Entry). d.epoch ≤ f.epoch) f.line e h.most (omega (arith, same));
      kept = all_more (λ (d : Entry). is_kept d.stands ≡ true → d.epoch ≡ f.epoch) f.line e h.kept (λ k. sym same);
    })
course_epochs f g (Shifts i s hand how room is) h = subst HasEpochs is (shifts_epochs f i s hand (λ e at. kept_before f.line i s e how at) h)
course_epochs f g (Fills hand none is) h =
    subst HasEpochs is (filled_keeps (λ (line : List Entry). HasEpochs (record f { line = line; hand = hand }))
    (λ line i front q. shifts_epochs (record f { line = line; hand = hand }) i Batched hand (λ e at. kept_before line i Batched e (Move front) at) q) 64 f.line
    (record { rise = h.rise; most = h.most; kept = h.kept }))
course_epochs f g (Opens shut empty is) h =
    let none : AllByRecursion (λ (e : Entry). is_kept e.stands ≡ false) f.line = none_is is_kept f.line (is_none_is _ empty) in
    subst HasEpochs is (record {
      rise = h.rise;
      most = all_weaker (λ (e : Entry). e.epoch ≤ f.epoch) (λ (e : Entry). e.epoch ≤ f.epoch + 1) f.line (λ e le. omega (arith, le)) h.most;
      kept = all_weaker (λ (e : Entry). is_kept e.stands ≡ false) (λ (e : Entry). is_kept e.stands ≡ true → e.epoch ≡ f.epoch + 1) f.line (λ e no_ k. absurd (true≢false (sym k ∙ no_))) none;
    })
  where
    is_none_is : (o : Option ℕ) → is_none o ≡ true → o ≡ None
    is_none_is None e = refl
    is_none_is (Some i) e = absurd (true≢false (sym e))
course_epochs f g (Resizes capacity is) h = subst HasEpochs is (record { rise = h.rise; most = h.most; kept = h.kept })
course_epochs f g (Rests line first epoch capacity) h = record {
  rise = subst NeverFall (sym line) h.rise;
  most = subst (λ (l : List Entry). AllByRecursion (λ (e : Entry). e.epoch ≤ g.epoch) l) (sym line) (subst (λ (n : ℕ). AllByRecursion (λ (e : Entry). e.epoch ≤ n) f.line) (sym epoch) h.most);
  kept = subst (λ (l : List Entry). AllByRecursion (λ (e : Entry). is_kept e.stands ≡ true → e.epoch ≡ g.epoch) l) (sym line)
      (subst (λ (n : ℕ). AllByRecursion (λ (e : Entry). is_kept e.stands ≡ true → e.epoch ≡ n) f.line) (sym epoch) h.kept);
}

-- ---- lines in order

batch_shift : (line : List Entry) (i : ℕ) (s : Standing) → Restands line i s → (s ≡ Batched → count in_batch line < 64) → count in_batch line ≤ 64
    → count in_batch (restand i s line) ≤ 64
batch_shift line i Ready (Put d actor at is) room le =
    let c = count_restand in_batch i Ready line d at in
    let z : one_if (in_batch d.stands) ≡ 0 = ap (λ (x : Standing). one_if (in_batch x)) is in omega (arith, c, z, le)
batch_shift line i Batched (Move h) room le = let c = count_restand in_batch i Batched line h.e h.here in let r = room refl in omega (arith, c, r)
batch_shift line i (Out other) (Leave fate h) room le = let c = count_restand in_batch i (Out fate) line h.e h.here in omega (arith, c, le)
batch_shift line i Cut (CutOff d at is) room le = let c = count_restand in_batch i Cut line d at in omega (arith, c, le)
batch_shift line i (Claimed actor) how room le = elim how [ ]

parts_shift : (line : List Entry) (i : ℕ) (s : Standing) → Restands line i s → InThreeParts line → InThreeParts (restand i s line)
parts_shift line i Ready (Put d actor at is) p = parts_put line i actor d at is p
parts_shift line i Batched (Move h) p = parts_moved line i h p
parts_shift line i (Out other) (Leave fate h) p = parts_out line i fate h p
parts_shift line i Cut (CutOff d at is) p = parts_cut i line p
parts_shift line i (Claimed actor) how p = elim how [ ]

-- the batch has at most so many more
fills_batch : (n : ℕ) (line : List Entry) → count in_batch (filled n line) ≤ count in_batch line + n
fills_batch zero line = omega arith
fills_batch (suc n) line = go (ready_front line) refl (fills_batch n)
  where
    go : (o : Option ℕ) → ready_front line ≡ o → ((l : List Entry) → count in_batch (filled n l) ≤ count in_batch l + n)
        → count in_batch (option_map_or (λ i. filled n (restand i Batched line)) o line) ≤ count in_batch line + suc n
    go None is more = omega arith
    go (Some i) is more =
        let h = front_is line i is in
        let c = count_restand in_batch i Batched line h.e h.here in
        let m = more (restand i Batched line) in omega (arith, c, m)

fills_length : (n : ℕ) (line : List Entry) → length (filled n line) ≡ length line
fills_length n line = filled_keeps (λ (l : List Entry). length l ≡ length line) (λ l i front e. length_restand i Batched l ∙ e) n line refl

no_batch : (line : List Entry) → is_some (first_that in_batch line) ≡ false → count in_batch line ≡ 0
no_batch line e = count_none in_batch line (none_is in_batch line (some_is_none (first_that in_batch line) e))
  where
    some_is_none : (o : Option ℕ) → is_some o ≡ false → o ≡ None
    some_is_none None k = refl
    some_is_none (Some i) k = absurd (true≢false k)

pub course_parts : (f g : File) → Course f g → InThreeParts f.line → InThreeParts g.line
course_parts f g (Grows actor name epoch len unshut spent full is) h =
    subst (λ (q : File). InThreeParts q.line) is (parts_more f.line (record { name = name; epoch = epoch; len = len; stands = Claimed actor }) refl h)
course_parts f g (Shifts i s hand how room is) h = subst (λ (q : File). InThreeParts q.line) is (parts_shift f.line i s how h)
course_parts f g (Fills hand none is) h = subst (λ (q : File). InThreeParts q.line) is (filled_keeps InThreeParts (λ line i front q. parts_moved line i front q) 64 f.line h)
course_parts f g (Opens shut empty is) h = subst (λ (q : File). InThreeParts q.line) is h
course_parts f g (Resizes capacity is) h = subst (λ (q : File). InThreeParts q.line) is h
course_parts f g (Rests line first epoch capacity) h = subst InThreeParts (sym line) h

pub course_ordered : (f g : File) → Course f g → IsOrdered f → IsOrdered g
course_ordered f g (Grows actor name epoch len unshut spent full is) h =
    let e : Entry = record { name = name; epoch = epoch; len = len; stands = Claimed actor } in
    let c = count_more in_batch f.line e in
    let l = length-append f.line (e ∷ []) in
    let b = h.batch in
    let places : claimed f + 1 ≤ 2 ^ 40 - 1 = ⊎_elim
    (λ t. absurd (true≢false (sym t.0 ∙ spent)))
    (λ t. below (claimed f) (2 ^ 40 - 1) t.1 h.places)
    (eqb_tells (claimed f) (2 ^ 40 - 1)) in
    subst IsOrdered is (record { parts = parts_more f.line e refl h.parts; batch = omega (arith, c, b); places = omega (arith, l, places) })
  where
    below : (c n : ℕ) → c ≢ n → c ≤ n → c + 1 ≤ n
    below c n ne le = omega (arith, ne, le)
course_ordered f g (Shifts i s hand how room is) h =
    let l = length_restand i s f.line in let p = h.places in
    subst IsOrdered is (record { parts = parts_shift f.line i s how h.parts; batch = batch_shift f.line i s how room h.batch; places = omega (arith, l, p) })
course_ordered f g (Fills hand none is) h =
    let z = no_batch f.line none in let b = fills_batch 64 f.line in let l = fills_length 64 f.line in let p = h.places in
    subst IsOrdered is (record {
      parts = filled_keeps InThreeParts (λ line i front q. parts_moved line i front q) 64 f.line h.parts;
      batch = omega (arith, z, b);
      places = omega (arith, l, p);
    })
course_ordered f g (Opens shut empty is) h = subst IsOrdered is (record { parts = h.parts; batch = h.batch; places = h.places })
course_ordered f g (Resizes capacity is) h = subst IsOrdered is (record { parts = h.parts; batch = h.batch; places = h.places })
course_ordered f g (Rests line first epoch capacity) h = record {
  parts = subst InThreeParts (sym line) h.parts;
  batch = subst (λ (l : List Entry). count in_batch l ≤ 64) (sym line) h.batch;
  places = subst (λ (n : ℕ). n ≤ 2 ^ 40 - 1) (ap (λ (n : ℕ). n + length f.line) (sym first) ∙ ap (λ (l : List Entry). g.first + length l) (sym line)) h.places;
}

-- ---- room

fates_shift : (line : List Entry) (i : ℕ) (s : Standing) → has_left s ≡ true → AllByRecursion (λ (e : Entry). has_left e.stands ≡ true) line
    → AllByRecursion (λ (e : Entry). has_left e.stands ≡ true) (restand i s line)
fates_shift line i s good h = all_restand (λ (e : Entry). has_left e.stands ≡ true) i s line (λ e at q. good) h

abbrev free : Standing → Bool
free s = not (in_ring s)

-- no fewer are free where an entry stands elsewhere
free_shift : (line : List Entry) (i : ℕ) (s : Standing) → Restands line i s → count free line ≤ count free (restand i s line)
free_shift line i Ready (Put d actor at is) =
    let c = count_restand free i Ready line d at in
    let z : one_if (free d.stands) ≡ 0 = ap (λ (x : Standing). one_if (free x)) is in omega (arith, c, z)
free_shift line i Batched (Move h) =
    let c = count_restand free i Batched line h.e h.here in
    let z : one_if (free h.e.stands) ≡ 0 = ap (λ (b : Bool). one_if (not b)) h.passes in omega (arith, c, z)
free_shift line i (Out other) (Leave fate h) =
    let c = count_restand free i (Out fate) line h.e h.here in
    let z : one_if (free h.e.stands) ≡ 1 = ap (λ (x : Standing). one_if (free x)) (batch_is h.e.stands h.passes) in omega (arith, c, z)
free_shift line i Cut (CutOff d at is) =
    let c = count_restand free i Cut line d at in
    let z : one_if (free d.stands) ≡ 0 = ap (λ (b : Bool). one_if (not b)) is in omega (arith, c, z)
free_shift line i (Claimed actor) how = elim how [ ]

free_filled : (n : ℕ) (line : List Entry) → count free line ≤ count free (filled n line)
free_filled n line = filled_keeps (λ (l : List Entry). count free line ≤ count free l)
    (λ l i front le. let m = free_shift l i Batched (Move front) in omega (arith, m, le)) n line (omega arith)

-- what room wants of a course: an entry that leaves has a fate, and the capacity stays
abbrev pub IsFair : {f g : File} → Course f g → Type 0
IsFair (Shifts i s hand how room is) = has_left s ≡ true
IsFair (Resizes capacity is) = ⊥
IsFair other = Unit {0}

with_ring : (before : ℕ) (f : File) → IsOrdered f → AllByRecursion (λ (e : Entry). has_left e.stands ≡ true) f.line
    → claimed f ≤ freed f + max f.capacity before → HasRoom before f
with_ring before f o fates ring = record { ordered = o; fates = fates; ring = ring }

not_full : (f : File) → is_full f ≡ false → claimed f < freed f + f.capacity
not_full f e = ⊎_elim (λ t. absurd (true≢false (sym t.0 ∙ e))) (λ t. t.1) (leb_tells (freed f + f.capacity) (claimed f))

grown_ring : (c d n m k l : ℕ) → c < n + k → d ≡ c + 1 → n ≡ m → d ≤ m + max k l
grown_ring c d n m k l lt e s = omega (arith, lt, e, s)

kept_ring : (c d n m k : ℕ) → c ≤ n + k → d ≡ c → n ≤ m → d ≤ m + k
kept_ring c d n m k le e s = omega (arith, le, e, s)

pub course_room : (before : ℕ) (f g : File) (c : Course f g) → IsFair c → HasRoom before f → HasRoom before g
course_room before f g (Grows actor name epoch len unshut spent full is) fair h =
    let e : Entry = record { name = name; epoch = epoch; len = len; stands = Claimed actor } in
    let new : File = record f { line = f.line ++ e ∷ [] } in
    let o : IsOrdered new = course_ordered f new (Grows actor name epoch len unshut spent full refl) h.ordered in
    let l = length-append f.line (e ∷ []) in
    let n = count_more free f.line e in
    subst (HasRoom before) is (with_ring before new o (all_more (λ (d : Entry). has_left d.stands ≡ true) f.line e h.fates refl)
    (grown_ring (claimed f) (claimed new) (freed f) (freed new) f.capacity before (not_full f full) (omega (arith, l)) (omega (arith, n))))
course_room before f g (Shifts i s hand how room is) fair h =
    let new : File = record f { line = restand i s f.line; hand = hand } in
    let o : IsOrdered new = course_ordered f new (Shifts i s hand how room refl) h.ordered in
    let l = length_restand i s f.line in
    let n = free_shift f.line i s how in
    subst (HasRoom before) is (with_ring before new o (fates_shift f.line i s fair h.fates)
    (kept_ring (claimed f) (claimed new) (freed f) (freed new) (max f.capacity before) h.ring (omega (arith, l)) (omega (arith, n))))
course_room before f g (Fills hand none is) fair h =
    let new : File = record f { line = filled 64 f.line; hand = hand } in
    let o : IsOrdered new = course_ordered f new (Fills hand none refl) h.ordered in
    let l = fills_length 64 f.line in
    let n = free_filled 64 f.line in
    subst (HasRoom before) is (with_ring before new o
    (filled_keeps (λ (line : List Entry). AllByRecursion (λ (e : Entry). has_left e.stands ≡ true) line) (λ line i front q. fates_shift line i Batched refl q) 64 f.line h.fates)
    (kept_ring (claimed f) (claimed new) (freed f) (freed new) (max f.capacity before) h.ring (omega (arith, l)) (omega (arith, n))))
course_room before f g (Opens shut empty is) fair h =
    let o = h.ordered in
    subst (HasRoom before) is (record { ordered = record { parts = o.parts; batch = o.batch; places = o.places }; fates = h.fates; ring = h.ring })
course_room before f g (Resizes capacity is) fair h = absurd fair
course_room before f g (Rests line first epoch capacity) fair h =
    let o = course_ordered f g (Rests line first epoch capacity) h.ordered in
    let c : claimed g ≡ claimed f = ap (λ (n : ℕ). n + length g.line) first ∙ ap (λ (l : List Entry). f.first + length l) line in
    let n : freed g ≡ freed f = ap (λ (n : ℕ). n + count free g.line) first ∙ ap (λ (l : List Entry). f.first + count free l) line in
    with_ring before g o (subst (λ (l : List Entry). AllByRecursion (λ (e : Entry). has_left e.stands ≡ true) l) (sym line) h.fates)
    (subst (λ (k : ℕ). claimed g ≤ freed g + max k before) (sym capacity)
    (kept_ring (claimed f) (claimed g) (freed f) (freed g) (max f.capacity before) h.ring c (omega (arith, n))))

fair_takes : (vhost : ℕ) (f g : File) (b : Bool) (is : has_batch f ≡ b)
    → (e : only_if (option_map_or (λ v. v == vhost) f.owner false && is_none f.hand && is_some (first_that in_batch (if b then f.line else filled 64 f.line)))
    (record f { line = if b then f.line else filled 64 f.line; hand = Some vhost }) ≡ Some g) → IsFair (takes_course vhost f g b is e)
unfolding takes_course
fair_takes vhost f g true is e = tt
fair_takes vhost f g false is e = tt

pub fair : (file : ℕ) (c : Change) (f g : File) (e : changed c f ≡ Some g) → HasGoodFate (OnFile file c) → KeepsSize (OnFile file c) → IsFair (course c f g e)
unfolding course
fair file (Claims actor name epoch len) f g e good keeps = tt
fair file (Puts actor place) f g e good keeps = refl
fair file Moves f g e good keeps = refl
fair file (Takes vhost) f g e good keeps = fair_takes vhost f g (has_batch f) refl e
fair file (PutsBack vhost) f g e good keeps = tt
fair file (Leaves worker fate) f g e good keeps = good
fair file Shuts f g e good keeps = tt
fair file Reopens f g e good keeps = tt
fair file (Sizes capacity) f g e good keeps = absurd keeps
fair file Cuts f g e good keeps = refl
fair file (Owned owner) f g e good keeps = tt
