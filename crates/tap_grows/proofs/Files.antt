-- Each change of a file makes it grow.
use Rattle.std.proofs.Common.{◌≡◌, ℕ, ◌-◌, ◌≤◌, List, true, true≢false, Option, Some, None, refl, sym, ap, ◌∙◌, subst, arith}
use Rattle.std.specs.Prelude.{◌&&◌, not, slice_get}
use Rattle.tap_ledger.specs.declared.fate.Fate.{Fate}
use Rattle.tap_world.specs.declared.line.Entry.{Entry}
use Rattle.tap_world.specs.declared.line.Standing.{Standing}
use Rattle.tap_world.specs.declared.line.Standing.TheVariants.{Batched, Claimed, Cut, Out, Ready}
use Rattle.tap_world.specs.ByNumber.{at}
use Rattle.tap_world.specs.Line.{File, first_that, has_batch, has_claim, in_batch, in_ring, is_over, last_that}
use Rattle.tap_world.specs.LineSteps.{Change, changed, filled, is_claim_of, may_leave, moves_to, ready_front, restand}
use Rattle.tap_world.specs.LineSteps.Change.{Claims, Cuts, Leaves, Moves, Owned, Puts, PutsBack, Reopens, Shuts, Sizes, Takes}
use Rattle.tap_world.specs.Effect.{OnFiles, files_after}
use Rattle.tap_world.specs.Effect.OnFiles.{NoFile, OnFile}
use Rattle.tap_sound.proofs.Kit.{either, only_some, some_same, then_some}
use Rattle.tap_sound.proofs.Taken.{if_some}
use Rattle.tap_grows.specs.Grows.{Advances, FileGrows, Stay}
use Rattle.tap_grows.proofs.Lines.{AreLater, filled_later, first_passes, front_later, last_passes, longer, more_later, more_pass, restand_later, stay_with_at}
use Rattle.tap_grows.proofs.Orders.{file_itself, later_itself, stay_themselves}

-- a place that is free again stays so
free_stays : (a b : Standing) → Advances a b → not (in_ring a) ≡ true → not (in_ring b) ≡ true
free_stays (Claimed actor) b h k = absurd (true≢false (sym k))
free_stays Ready b h k = absurd (true≢false (sym k))
free_stays Batched (Claimed actor) h k = absurd h
free_stays Batched Ready h k = absurd h
free_stays Batched Batched h k = refl
free_stays Batched (Out fate) h k = refl
free_stays Batched Cut h k = absurd h
free_stays (Out fate) b h k = ap (λ (s : Standing). not (in_ring s)) h
free_stays Cut b h k = ap (λ (s : Standing). not (in_ring s)) h

-- a file grows where its line does, and nothing falls
pub grows_by : (f g : File) → g.first ≡ f.first → AreLater f.line g.line → f.epoch ≤ g.epoch → f.resizes ≤ g.resizes
    → FileGrows f g
grows_by f g first line epoch resizes = record {
  first = first;
  longer = longer f.line g.line line;
  entries = line;
  freed = let more = more_pass (λ s. not (in_ring s)) free_stays f.line g.line line in omega (arith, first, more);
  epoch = epoch;
  resizes = resizes;
}

same_line : (line : List Entry) → AreLater line line
same_line line i d is = (d, is, later_itself d)

-- an entry is found, and stands elsewhere
moved : (s : Standing) (e f g : File) (o : Option ℕ) → f.first ≡ e.first → f.line ≡ e.line → f.epoch ≡ e.epoch
    → f.resizes ≡ e.resizes → ((i : ℕ) → o ≡ Some i → AreLater e.line (restand i s e.line)) → moves_to s f o ≡ Some g
    → FileGrows e g
moved s e f g None first line epoch resizes later h = absurd (cc (h))
moved s e f g (Some i) first line epoch resizes later h =
    subst (FileGrows e) (some_same _ g h)
    (grows_by e (record f { line = restand i s f.line }) first
    (subst (λ (l : List Entry). AreLater e.line (restand i s l)) (sym line) (later i refl))
    (omega (arith, epoch)) (omega (arith, resizes)))

-- ---- which entries move

claim_advances : (actor : ℕ) (s : Standing) → is_claim_of actor s ≡ true → Advances s Ready
claim_advances actor (Claimed other) h = tt
claim_advances actor Ready h = absurd (true≢false (sym h))
claim_advances actor Batched h = absurd (true≢false (sym h))
claim_advances actor (Out fate) h = absurd (true≢false (sym h))
claim_advances actor Cut h = absurd (true≢false (sym h))

batch_advances : (fate : Fate) (s : Standing) → in_batch s ≡ true → Advances s (Out fate)
batch_advances fate (Claimed actor) h = absurd (true≢false (sym h))
batch_advances fate Ready h = absurd (true≢false (sym h))
batch_advances fate Batched h = tt
batch_advances fate (Out other) h = absurd (true≢false (sym h))
batch_advances fate Cut h = absurd (true≢false (sym h))

ring_advances : (s : Standing) → in_ring s ≡ true → Advances s Cut
ring_advances (Claimed actor) h = tt
ring_advances Ready h = tt
ring_advances Batched h = absurd (true≢false (sym h))
ring_advances (Out fate) h = absurd (true≢false (sym h))
ring_advances Cut h = absurd (true≢false (sym h))

-- ---- the changes

pub change_grows : (c : Change) (f g : File) → changed c f ≡ Some g → FileGrows f g
change_grows (Claims actor name epoch len) f g e =
    subst (FileGrows f) (only_some _ _ g e).1
    (grows_by f _ refl (more_later f.line _) (omega arith) (omega arith))
change_grows (Puts actor place) f g e =
    let t = then_some (slice_get f.line (place - f.first)) _ g e in
    let o = only_some _ _ g t.2 in
    subst (FileGrows f) o.1
    (grows_by f _ refl
    (restand_later (place - f.first) Ready f.line (λ x is. claim_advances actor x.stands
    (subst (λ (y : Entry). is_claim_of actor y.stands ≡ true) (some_same t.0 x (sym t.1 ∙ is)) o.0)))
    (omega arith) (omega arith))
change_grows Moves f g e =
    moved Batched f f g (ready_front f.line) refl refl refl refl (front_later f.line) (if_some _ _ g e).1
change_grows (Takes vhost) f g e =
    subst (FileGrows f) (only_some _ _ g e).1
    (grows_by f _ refl
    (either (AreLater f.line) (has_batch f) f.line (filled 64 f.line) (same_line f.line) (filled_later 64 f.line))
    (omega arith) (omega arith))
change_grows (PutsBack vhost) f g e =
    subst (FileGrows f) (only_some _ _ g e).1 (grows_by f _ refl (same_line f.line) (omega arith) (omega arith))
change_grows (Leaves worker fate) f g e =
    moved (Out fate) f (record f { hand = None }) g (first_that in_batch f.line) refl refl refl refl
    (λ i is. restand_later i (Out fate) f.line
    (λ x get. batch_advances fate x.stands (first_passes in_batch f.line i is x get)))
    (if_some (may_leave worker f) _ g e).1
change_grows Shuts f g e =
    subst (FileGrows f) (only_some _ _ g e).1 (grows_by f _ refl (same_line f.line) (omega arith) (omega arith))
change_grows Reopens f g e =
    subst (FileGrows f) (only_some _ _ g e).1 (grows_by f _ refl (same_line f.line) (omega arith) (omega arith))
change_grows (Sizes capacity) f g e =
    subst (FileGrows f) (only_some _ _ g e).1 (grows_by f _ refl (same_line f.line) (omega arith) (omega arith))
change_grows Cuts f g e =
    moved Cut f f g (last_that in_ring f.line) refl refl refl refl
    (λ i is. restand_later i Cut f.line
    (λ x get. ring_advances x.stands (last_passes in_ring f.line i is x get)))
    (if_some (is_over f && not (has_claim f)) _ g e).1
change_grows (Owned owner) f g e =
    subst (FileGrows f) (only_some _ _ g e).1 (grows_by f _ refl (same_line f.line) (omega arith) (omega arith))

pub files_grow : (o : OnFiles) (files after : List (Option File)) → files_after o files ≡ Some after
    → Stay FileGrows files after
files_grow NoFile files after e =
    subst (Stay FileGrows files) (some_same files after e) (stay_themselves FileGrows file_itself files)
files_grow (OnFile file c) files after e =
    let f = then_some (at files file) _ after e in
    let g = then_some (changed c f.0) _ after f.2 in
    subst (Stay FileGrows files) (some_same _ after g.2)
    (stay_with_at FileGrows file_itself file f.0 g.0 files f.1 (change_grows c f.0 g.0 g.1))
