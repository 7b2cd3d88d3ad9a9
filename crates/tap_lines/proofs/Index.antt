-- What is kept to find a line's entries, after each change of the line.
use Rattle.std.proofs.Common.{◌≡◌, ℕ, ◌+◌, ◌-◌, ◌<◌, List, [], ◌∷◌, ◌++◌, length, take, drop, Bool, true, false, Option, Some, None, refl, sym, ap, ◌∙◌, subst, true≢false, append_assoc, length-append, arith}
use Rattle.std.proofs.lemmas.List.{take_at}
use Rattle.std.specs.Prelude.{slice_get}
use Rattle.std.specs.Option.{option_map_or}
use Rattle.tap_frame.specs.declared.name.Name.{Name}
use Rattle.tap_ledger.specs.declared.fate.Fate.{Fate}
use Rattle.tap_world.specs.declared.line.Entry.{Entry}
use Rattle.tap_world.specs.declared.line.Standing.{Standing}
use Rattle.tap_world.specs.declared.line.Standing.TheVariants.{Batched, Claimed, Cut, Out, Ready}
use Rattle.tap_world.specs.Line.{count, entry_ready, first_that, in_batch, in_ring, is_claimed, is_ready, last_that}
use Rattle.tap_world.specs.LineSteps.{ready_front, restand}
use Rattle.tap_lines.specs.Indexed.{IsIndexed, places_that}
use Rattle.tap_lines.proofs.Kit.{only_some, then_some}
use Rattle.tap_lines.proofs.Places.{count_more, count_restand, first_at, last_at, one_if, places_back, places_count, places_out, places_same, places_with, places_without}
use Rattle.tap_lines.proofs.Parted.{not_batched, not_in_ring, parted_left, parted_more, parted_moved, parted_same, places_join}

-- a front that is ready
pub record IsReadyFront (line : List Entry) (i : ℕ) : Type 0 where
  pub first : first_that in_ring line ≡ Some i
  pub e : Entry
  pub at : slice_get line i ≡ Some e
  pub stands : e.stands ≡ Ready

ready_is : (s : Standing) → is_ready s ≡ true → s ≡ Ready
ready_is (Claimed actor) e = absurd (true≢false (sym e))
ready_is Ready e = refl
ready_is Batched e = absurd (true≢false (sym e))
ready_is (Out fate) e = absurd (true≢false (sym e))
ready_is Cut e = absurd (true≢false (sym e))

pub ready_front_is : (line : List Entry) (i : ℕ) → ready_front line ≡ Some i → IsReadyFront line i
ready_front_is line i h =
    let t = then_some (first_that in_ring line) (λ j. entry_ready (slice_get line j) j) i h in
    let o = only_some _ t.0 i t.2 in
    subst (IsReadyFront line) o.1 (found t.0 t.1 (slice_get line t.0) refl o.0)
  where
    found : (j : ℕ) → first_that in_ring line ≡ Some j → (x : Option Entry) → slice_get line j ≡ x
        → option_map_or (λ (y : Entry). is_ready y.stands) x false ≡ true → IsReadyFront line j
    found j f None at e = absurd (true≢false (sym e))
    found j f (Some x) at e = record { first = f; e = x; at = at; stands = ready_is x.stands e }

claimed_is : (s : Standing) → is_claimed s ≡ true → (in_ring s ≡ true) × (in_batch s ≡ false)
claimed_is (Claimed actor) e = (refl, refl)
claimed_is Ready e = absurd (true≢false (sym e))
claimed_is Batched e = absurd (true≢false (sym e))
claimed_is (Out fate) e = absurd (true≢false (sym e))
claimed_is Cut e = absurd (true≢false (sym e))

not_claimed : (s : Standing) → in_batch s ≡ true → is_claimed s ≡ false
not_claimed (Claimed actor) e = absurd (true≢false (sym e))
not_claimed Ready e = refl
not_claimed Batched e = refl
not_claimed (Out fate) e = refl
not_claimed Cut e = refl

-- how many stand so, where one that did or didn't does or doesn't now
counts : (test : Standing → Bool) (i : ℕ) (s : Standing) (line : List Entry) (e : Entry) (was is : Bool) → slice_get line i ≡ Some e → test e.stands ≡ was → test s ≡ is
    → count test (restand i s line) + one_if was ≡ count test line + one_if is
counts test i s line e was is at a b =
    subst (λ (w : Bool). count test (restand i s line) + one_if w ≡ count test line + one_if is) a
    (subst (λ (w : Bool). count test (restand i s line) + one_if (test e.stands) ≡ count test line + one_if w) b (count_restand test i s line e at))

pub none_indexed : IsIndexed [] [] 0 0
none_indexed = record { parted = tt; waits = refl; batch = refl; open_claims = refl }

pub claim_indexed : (actor : ℕ) (name : Name) (epoch len : ℕ) (line : List Entry) (waiting : List ℕ) (batched claims n : ℕ) → n ≡ length line
    → IsIndexed line waiting batched claims
    → IsIndexed (line ++ record { name = name; epoch = epoch; len = len; stands = Claimed actor } ∷ []) (waiting ++ n ∷ []) batched (claims + 1)
claim_indexed actor name epoch len line waiting batched claims n is h =
    let e : Entry = record { name = name; epoch = epoch; len = len; stands = Claimed actor } in
    let more = count_more is_claimed line e in
    let batch = count_more in_batch line e in
    let zero_n : n ≡ 0 + length line = omega (arith, is) in
    let new : waiting ++ n ∷ [] ≡ places_that in_batch 0 (line ++ e ∷ []) ++ places_that in_ring 0 (line ++ e ∷ []) =
    rw (places_without in_batch 0 line e refl, places_with in_ring 0 line e refl, h.waits, zero_n)
    (append_assoc (places_that in_batch 0 line) (places_that in_ring 0 line) ((0 + length line) ∷ [])) in
    record {
      parted = parted_more line e refl h.parted;
      waits = new;
      batch = let b : batched ≡ count in_batch (line ++ e ∷ []) = omega (arith, h.batch, batch) in b;
      open_claims = let b : claims + 1 ≡ count is_claimed (line ++ e ∷ []) = omega (arith, h.open_claims, more) in b;
    }

-- a claim that is put
abbrev pub IsClaimAt : ℕ → List Entry → Type 0
IsClaimAt i line = option_map_or (λ (e : Entry). is_claimed e.stands) (slice_get line i) false ≡ true

claim_at : (i : ℕ) (line : List Entry) → IsClaimAt i line → (e : Entry) × (slice_get line i ≡ Some e) × (is_claimed e.stands ≡ true)
claim_at i line h = go (slice_get line i) refl h
  where
    go : (o : Option Entry) → slice_get line i ≡ o → option_map_or (λ (e : Entry). is_claimed e.stands) o false ≡ true
        → (e : Entry) × (slice_get line i ≡ Some e) × (is_claimed e.stands ≡ true)
    go None at h = absurd (true≢false (sym h))
    go (Some e) at h = (e, at, h)

pub put_claims : (i : ℕ) (line : List Entry) → IsClaimAt i line → 0 < count is_claimed line
put_claims i line h =
    let e = claim_at i line h in
    let less = counts is_claimed i Ready line e.0 true false e.1 e.2 refl in
    omega (arith, less)

pub put_indexed : (i : ℕ) (line : List Entry) (waiting : List ℕ) (batched claims : ℕ) → IsClaimAt i line
    → IsIndexed line waiting batched claims → IsIndexed (restand i Ready line) waiting batched (claims - 1)
put_indexed i line waiting batched claims claim h =
    let e = claim_at i line claim in
    let c = claimed_is e.0.stands e.2 in
    let same_batch = places_same in_batch 0 i Ready line e.0 e.1 c.1 in
    let same_ring = places_same in_ring 0 i Ready line e.0 e.1 c.0 in
    let less = counts is_claimed i Ready line e.0 true false e.1 e.2 refl in
    let batch = counts in_batch i Ready line e.0 false false e.1 c.1 refl in
    record {
      parted = parted_same i Ready line e.0 e.1 c.1 refl (λ r. c.0) h.parted;
      waits = rw (same_batch, same_ring) h.waits;
      batch = let b : batched ≡ count in_batch (restand i Ready line) = omega (arith, h.batch, batch) in b;
      open_claims = let b : claims - 1 ≡ count is_claimed (restand i Ready line) = omega (arith, h.open_claims, less) in b;
    }

pub moved_indexed : (i : ℕ) (line : List Entry) (waiting : List ℕ) (batched claims : ℕ) → ready_front line ≡ Some i
    → IsIndexed line waiting batched claims → IsIndexed (restand i Batched line) waiting (batched + 1) claims
moved_indexed i line waiting batched claims front h =
    let f = ready_front_is line i front in
    let join = places_join 0 line i h.parted f.first in
    let out = places_out in_ring 0 line i Batched f.first refl in
    let ring : in_batch f.e.stands ≡ false = ap in_batch f.stands in
    let more = counts in_batch i Batched line f.e false true f.at ring refl in
    let unclaimed : is_claimed f.e.stands ≡ false = ap is_claimed f.stands in
    let claim = counts is_claimed i Batched line f.e false false f.at unclaimed refl in
    let new : waiting ≡ places_that in_batch 0 (restand i Batched line) ++ places_that in_ring 0 (restand i Batched line) =
    h.waits ∙ ap (λ (ys : List ℕ). places_that in_batch 0 line ++ ys) out
    ∙ sym (append_assoc (places_that in_batch 0 line) ((0 + i) ∷ []) (places_that in_ring 0 (restand i Batched line)))
    ∙ ap (λ (ys : List ℕ). ys ++ places_that in_ring 0 (restand i Batched line)) (sym join) in
    record {
      parted = parted_moved line i f.first h.parted;
      waits = new;
      batch = let b : batched + 1 ≡ count in_batch (restand i Batched line) = omega (arith, h.batch, more) in b;
      open_claims = let b : claims ≡ count is_claimed (restand i Batched line) = omega (arith, h.open_claims, claim) in b;
    }

pub left_indexed : (i : ℕ) (fate : Fate) (line : List Entry) (waiting : List ℕ) (batched claims : ℕ) → first_that in_batch line ≡ Some i
    → IsIndexed line waiting batched claims → IsIndexed (restand i (Out fate) line) (drop 1 waiting) (batched - 1) claims
left_indexed i fate line waiting batched claims front h =
    let f = first_at in_batch line i front in
    let out = places_out in_batch 0 line i (Out fate) front refl in
    let ring = places_same in_ring 0 i (Out fate) line f.0 f.1 (not_in_ring f.0.stands f.2) in
    let less = counts in_batch i (Out fate) line f.0 true false f.1 f.2 refl in
    let claim = counts is_claimed i (Out fate) line f.0 false false f.1 (not_claimed f.0.stands f.2) refl in
    let new : drop 1 waiting ≡ places_that in_batch 0 (restand i (Out fate) line) ++ places_that in_ring 0 (restand i (Out fate) line) =
    rw (h.waits, out, ring) refl in
    record {
      parted = parted_left line i (Out fate) front refl h.parted;
      waits = new;
      batch = let b : batched - 1 ≡ count in_batch (restand i (Out fate) line) = omega (arith, h.batch, less) in b;
      open_claims = let b : claims ≡ count is_claimed (restand i (Out fate) line) = omega (arith, h.open_claims, claim) in b;
    }

pub cut_indexed : (i : ℕ) (line : List Entry) (waiting : List ℕ) (batched claims : ℕ) → last_that in_ring line ≡ Some i → count is_claimed line ≡ 0
    → IsIndexed line waiting batched claims → IsIndexed (restand i Cut line) (take (length waiting - 1) waiting) batched claims
cut_indexed i line waiting batched claims last none h =
    let f = last_at in_ring line i last in
    let out = places_back in_ring 0 line i Cut last refl in
    let off = not_batched f.0.stands f.2 in
    let batch = places_same in_batch 0 i Cut line f.0 f.1 off in
    let batches = counts in_batch i Cut line f.0 false false f.1 off refl in
    let claim = count_restand is_claimed i Cut line f.0 f.1 in
    let kept : List ℕ = places_that in_batch 0 (restand i Cut line) ++ places_that in_ring 0 (restand i Cut line) in
    let all : waiting ≡ kept ++ (0 + i) ∷ [] =
    h.waits ∙ ap (λ (ys : List ℕ). ys ++ places_that in_ring 0 line) (sym batch)
    ∙ ap (λ (ys : List ℕ). places_that in_batch 0 (restand i Cut line) ++ ys) out
    ∙ sym (append_assoc (places_that in_batch 0 (restand i Cut line)) (places_that in_ring 0 (restand i Cut line)) ((0 + i) ∷ [])) in
    let long : length waiting ≡ length kept + 1 = ap length all ∙ length-append kept ((0 + i) ∷ []) in
    let new : take (length waiting - 1) waiting ≡ kept =
    ap (λ (ys : List ℕ). take (length waiting - 1) ys) all ∙ take_at kept ((0 + i) ∷ []) (length waiting - 1) (omega (arith, long)) in
    record {
      parted = parted_same i Cut line f.0 f.1 off refl (λ r. f.2) h.parted;
      waits = new;
      batch = let b : batched ≡ count in_batch (restand i Cut line) = omega (arith, h.batch, batches) in b;
      open_claims = let b : claims ≡ count is_claimed (restand i Cut line) = omega (arith, h.open_claims, none, claim) in b;
    }

-- ---- what is read

pub waiting_long : (line : List Entry) (waiting : List ℕ) (batched claims : ℕ) → IsIndexed line waiting batched claims
    → length waiting ≡ count in_batch line + count in_ring line
waiting_long line waiting batched claims h =
    let l = ap length h.waits ∙ length-append (places_that in_batch 0 line) (places_that in_ring 0 line) in
    let b = places_count in_batch 0 line in let r = places_count in_ring 0 line in
    omega (arith, l, b, r)
