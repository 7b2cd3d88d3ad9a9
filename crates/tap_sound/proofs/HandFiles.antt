-- What the changes of a file do with the frame in hand and with the batch's front.
use Rattle.std.proofs.Common.{◌≡◌, ◌⊎◌, ◌≤◌, ℕ, zero, suc, ◌+◌, ◌-◌, List, [], ◌∷◌, ◌++◌, Bool, true, false, Option, Some, None, inl, inr, ⊎_elim, refl, sym, ap, ◌∙◌, subst, true≢false, arith}
use Rattle.std.specs.Prelude.{if◌then◌else◌, ◌==◌, ◌&&◌, is_none, is_some, option_map, slice_get}
use Rattle.std.specs.Option.{option_map_or}
use Rattle.std.proofs.lemmas.Bool.Decides.{eqb_tells}
use Rattle.tap_frame.specs.declared.name.Name.{Name}
use Rattle.tap_ground.specs.Options.{◌>>=◌, only_if}
use Rattle.tap_world.specs.declared.line.Entry.{Entry}
use Rattle.tap_world.specs.declared.line.Standing.{Standing}
use Rattle.tap_world.specs.Line.{File, first_that, has_batch, in_batch, in_ring, last_that}
use Rattle.tap_world.specs.declared.line.Standing.TheVariants.{Batched, Claimed, Cut, Out, Ready}
use Rattle.tap_world.specs.LineSteps.{Change, changed, filled, is_claim_of, may_leave, moves_to, ready_front, restand}
use Rattle.tap_world.specs.LineSteps.Change.{Claims, Cuts, Leaves, Moves, Owned, Puts, PutsBack, Reopens, Shuts, Sizes, Takes}
use Rattle.tap_world.specs.Sound.{ComesLast, InThreeParts, front_name, is_cut, rank}
use Rattle.tap_sound.proofs.Kit.{only_some, some_same, then_some}
use Rattle.tap_sound.proofs.Entries.{front_is, last_is, ring_rank}
use Rattle.tap_sound.proofs.Taken.{both, if_some}

-- ---- the front of the batch stays

abbrev pub Fronts : List Entry → List Entry → Type 0
Fronts line new = InThreeParts line → (n : Name) → front_name line ≡ Some n → front_name new ≡ Some n

front_cons : (x : Entry) (xs : List Entry) → front_name (x ∷ xs) ≡ (if in_batch x.stands then Some x.name else front_name xs)
front_cons x xs = go (in_batch x.stands) (first_that in_batch xs)
  where
    go : (b : Bool) (o : Option ℕ) → ((if b then Some 0 else option_map (λ i. i + 1) o) >>= λ i. slice_get (x ∷ xs) i >>= λ (e : Entry). Some e.name)
        ≡ (if b then Some x.name else (o >>= λ i. slice_get xs i >>= λ (e : Entry). Some e.name))
    go true o = refl
    go false None = refl
    go false (Some i) = let up : i + 1 ≡ suc i = omega arith in ap (λ (k : ℕ). slice_get (x ∷ xs) k >>= λ (e : Entry). Some e.name) up

keep_if : (b : Bool) (a n : Name) (o p : Option Name) → (o ≡ Some n → p ≡ Some n) → (if b then Some a else o) ≡ Some n → (if b then Some a else p) ≡ Some n
keep_if true a n o p f h = h
keep_if false a n o p f h = f h

cons_keeps : (x : Entry) (xs ys : List Entry) (n : Name) → (front_name xs ≡ Some n → front_name ys ≡ Some n) → front_name (x ∷ xs) ≡ Some n → front_name (x ∷ ys) ≡ Some n
cons_keeps x xs ys n f h = front_cons x ys ∙ keep_if (in_batch x.stands) x.name n (front_name xs) (front_name ys) f (sym (front_cons x xs) ∙ h)

front_more : (line : List Entry) (e : Entry) (n : Name) → front_name line ≡ Some n → front_name (line ++ e ∷ []) ≡ Some n
front_more [] e n h = absurd (cc (h))
front_more (x ∷ xs) e n h = cons_keeps x xs (xs ++ e ∷ []) n (front_more xs e n) h

-- without its first entry, which isn't of the batch
front_behind : (x : Entry) (xs : List Entry) → in_batch x.stands ≡ false → front_name (x ∷ xs) ≡ front_name xs
front_behind x xs out = front_cons x xs ∙ ap (λ (b : Bool). if b then Some x.name else front_name xs) out

-- an entry that isn't of the batch stands elsewhere, but not in the batch
front_restand : (i : ℕ) (s : Standing) (line : List Entry) (e : Entry) (n : Name) → slice_get line i ≡ Some e → in_batch e.stands ≡ false → in_batch s ≡ false
    → front_name line ≡ Some n → front_name (restand i s line) ≡ Some n
front_restand i s [] e n at out off h = absurd (cc (at))
front_restand zero s (x ∷ xs) e n at out off h =
    let here : in_batch x.stands ≡ false = ap (λ (y : Entry). in_batch y.stands) (some_same x e at) ∙ out in
    front_behind (record x { stands = s }) xs off ∙ sym (front_behind x xs here) ∙ h
front_restand (suc i) s (x ∷ xs) e n at out off h = cons_keeps x xs (restand i s xs) n (front_restand i s xs e n at out off) h

not_in_batch : (s : Standing) → in_ring s ≡ true → in_batch s ≡ false
not_in_batch (Claimed actor) e = refl
not_in_batch Ready e = refl
not_in_batch Batched e = absurd (true≢false (sym e))
not_in_batch (Out fate) e = refl
not_in_batch Cut e = refl

-- behind an entry of the ring none is of the batch
not_batched : (s : Standing) → (is_cut s ≡ true) ⊎ (2 ≤ rank s) → in_batch s ≡ false
not_batched (Claimed actor) h = refl
not_batched Ready h = refl
not_batched Batched (inl e) = absurd (true≢false (sym e))
not_batched Batched (inr le) = absurd (omega (arith, le))
not_batched (Out fate) h = refl
not_batched Cut h = refl

none_behind : (line : List Entry) → ComesLast 2 line → front_name line ≡ None
none_behind [] h = refl
none_behind (x ∷ xs) h = front_behind x xs (not_batched x.stands h.0) ∙ none_behind xs h.1

-- so one of the ring that joins the batch doesn't come before its front
front_joined : (i : ℕ) (line : List Entry) (e : Entry) → slice_get line i ≡ Some e → in_ring e.stands ≡ true → Fronts line (restand i Batched line)
front_joined i [] e at ring parts n h = absurd (cc (at))
front_joined zero (x ∷ xs) e at ring parts n h =
    let here : in_ring x.stands ≡ true = ap (λ (y : Entry). in_ring y.stands) (some_same x e at) ∙ ring in
    let r = ring_rank x.stands here in
    let last : ComesLast 2 xs = ⊎_elim (λ c. absurd (true≢false (sym c ∙ r.1))) (λ l. subst (λ (k : ℕ). ComesLast k xs) r.0 l) parts.0 in
    absurd (none_some (front_name xs) n (none_behind xs last) (sym (front_behind x xs (not_in_batch x.stands here)) ∙ h))
  where
    none_some : (o : Option Name) (n : Name) → o ≡ None → o ≡ Some n → ⊥
    none_some o n a b = cc (a, b)
front_joined (suc i) (x ∷ xs) e at ring parts n h = cons_keeps x xs (restand i Batched xs) n (front_joined i xs e at ring parts.1 n) h

claim_in_ring : (actor : ℕ) (s : Standing) → is_claim_of actor s ≡ true → in_ring s ≡ true
claim_in_ring actor (Claimed other) e = refl
claim_in_ring actor Ready e = refl
claim_in_ring actor Batched e = absurd (true≢false (sym e))
claim_in_ring actor (Out fate) e = absurd (true≢false (sym e))
claim_in_ring actor Cut e = absurd (true≢false (sym e))

-- an entry of the ring that stands elsewhere, but not in the batch, leaves its front
ring_restand : (i : ℕ) (s : Standing) (line : List Entry) (e : Entry) → slice_get line i ≡ Some e → in_ring e.stands ≡ true → in_batch s ≡ false → Fronts line (restand i s line)
ring_restand i s line e at ring off parts n h = front_restand i s line e n at (not_in_batch e.stands ring) off h

-- ---- a change of a file that has a frame in hand after it

abbrev pub IsFreeing : Change → Type 0
IsFreeing (Leaves worker fate) = Unit {0}
IsFreeing (PutsBack vhost) = Unit {0}
IsFreeing c = ⊥

-- it was in hand before, under the same owner, and is still the batch's front; or it is taken now
abbrev Was : File → File → Type 0
Was f g = (f.hand ≡ g.hand) × (f.owner ≡ g.owner) × Fronts f.line g.line

abbrev Took : ℕ → File → Type 0
Took vhost g = (g.hand ≡ Some vhost) × (g.owner ≡ Some vhost)

abbrev pub InHand : Change → File → File → Type 0
InHand (Takes vhost) f g = Took vhost g
InHand (PutsBack vhost) f g = g.hand ≡ None
InHand (Leaves worker fate) f g = g.hand ≡ None
InHand (Owned owner) f g = g.hand ≡ None
InHand c f g = Was f g

none_is : (o : Option ℕ) → is_none o ≡ true → o ≡ None
none_is None e = refl
none_is (Some i) e = absurd (true≢false (sym e))

owned_by : (o : Option ℕ) (vhost : ℕ) → option_map_or (λ v. v == vhost) o false ≡ true → o ≡ Some vhost
owned_by None vhost e = absurd (true≢false (sym e))
owned_by (Some v) vhost e = ⊎_elim (λ t. ap Some t.1) (λ t. absurd (true≢false (sym e ∙ t.0))) (eqb_tells v vhost)

moved_was : (s : Standing) (f g : File) (o : Option ℕ) → ((i : ℕ) → o ≡ Some i → Fronts f.line (restand i s f.line)) → moves_to s f o ≡ Some g → Was f g
moved_was s f g None h e = absurd (cc (e))
moved_was s f g (Some i) h e = subst (Was f) (some_same _ g e) (refl, refl, h i refl)

took : (vhost : ℕ) (f g : File) (line : List Entry)
    → only_if (option_map_or (λ v. v == vhost) f.owner false && is_none f.hand && is_some (first_that in_batch line)) (record f { line = line; hand = Some vhost }) ≡ Some g
    → Took vhost g
took vhost f g line e =
    let o = only_some _ _ g e in
    let t = both (option_map_or (λ v. v == vhost) f.owner false && is_none f.hand) (is_some (first_that in_batch line)) o.0 in
    let q = both (option_map_or (λ v. v == vhost) f.owner false) (is_none f.hand) t.0 in
    subst (Took vhost) o.1 (refl, owned_by f.owner vhost q.0)

left : (s : Standing) (f g : File) (o : Option ℕ) → moves_to s (record f { hand = None }) o ≡ Some g → g.hand ≡ None
left s f g None e = absurd (cc (e))
left s f g (Some i) e = ap (λ (x : File). x.hand) (sym (some_same _ g e))

pub in_hand : (c : Change) (f g : File) → changed c f ≡ Some g → InHand c f g
in_hand (Claims actor name epoch len) f g e =
    let o = only_some _ _ g e in
    subst (Was f) o.1 (refl, refl, λ parts. front_more f.line (record { name = name; epoch = epoch; len = len; stands = Claimed actor }))
in_hand (Puts actor place) f g e =
    let t = then_some (slice_get f.line (place - f.first)) _ g e in
    let o = only_some _ _ g t.2 in
    subst (Was f) o.1 (refl, refl, ring_restand (place - f.first) Ready f.line t.0 t.1 (claim_in_ring actor t.0.stands o.0) refl)
in_hand Moves f g e =
    let i = if_some _ _ g e in
    moved_was Batched f g (ready_front f.line)
    (λ j at. let h = front_is f.line j at in front_joined j f.line h.e h.here h.passes) i.1
in_hand (Takes vhost) f g e = took vhost f g (if has_batch f then f.line else filled 64 f.line) e
in_hand (PutsBack vhost) f g e = let o = only_some _ _ g e in ap (λ (x : File). x.hand) (sym o.1)
in_hand (Leaves worker fate) f g e = let i = if_some (may_leave worker f) _ g e in left (Out fate) f g (first_that in_batch f.line) i.1
in_hand Shuts f g e = let o = only_some _ _ g e in subst (Was f) o.1 (refl, refl, λ parts n b. b)
in_hand Reopens f g e = let o = only_some _ _ g e in subst (Was f) o.1 (refl, refl, λ parts n b. b)
in_hand (Sizes capacity) f g e = let o = only_some _ _ g e in subst (Was f) o.1 (refl, refl, λ parts n b. b)
in_hand Cuts f g e =
    let i = if_some _ _ g e in
    moved_was Cut f g (last_that in_ring f.line)
    (λ j at. let l = last_is in_ring f.line j at in ring_restand j Cut f.line l.0 l.1 l.2 refl) i.1
in_hand (Owned owner) f g e = let o = only_some _ _ g e in ap (λ (x : File). x.hand) (sym o.1) ∙ none_is f.hand o.0
