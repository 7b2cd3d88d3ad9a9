-- An entry that an actor has claimed stays as it is, whatever others change of its file.
use Rattle.std.proofs.Common.{◌≡◌, ◌≢◌, ℕ, zero, suc, ◌+◌, ◌-◌, List, [], ◌∷◌, ◌++◌, Bool, true, false, true≢false, Option, Some, None, ⊎_elim, refl, sym, ap, ◌∙◌, subst, arith}
use Rattle.std.specs.Prelude.{if◌then◌else◌, not, ◌&&◌, is_none, is_some, option_map, slice_get}
use Rattle.std.specs.Option.{option_map_or}
use Rattle.std.proofs.lemmas.Bool.Decides.{eqb_tells}
use Rattle.tap_ground.specs.Options.{only_if}
use Rattle.tap_world.specs.declared.line.Entry.{Entry}
use Rattle.tap_world.specs.declared.line.Standing.{Standing}
use Rattle.tap_world.specs.declared.line.Standing.TheVariants.{Batched, Claimed, Cut, Out, Ready}
use Rattle.tap_world.specs.Line.{File, first_that, has_batch, has_claim, in_batch, in_ring, is_claimed, is_over, is_ready, last_that}
use Rattle.tap_world.specs.LineSteps.{Change, changed, filled, is_claim_of, is_in_hand_of, may_leave, moves_to, ready_front, restand}
use Rattle.tap_world.specs.LineSteps.Change.{Claims, Cuts, Leaves, Moves, Owned, Puts, PutsBack, Reopens, Shuts, Sizes, Takes}
use Rattle.tap_sound.proofs.Kit.{only_some, some_same, then_some}
use Rattle.tap_sound.proofs.Taken.{both, if_some}

-- ---- entries

pub get_other : (i : ℕ) (s : Standing) (line : List Entry) (k : ℕ) → k ≢ i → slice_get (restand i s line) k ≡ slice_get line k
get_other i s [] k ne = refl
get_other zero s (y ∷ ys) zero ne = absurd (ne refl)
get_other zero s (y ∷ ys) (suc k) ne = refl
get_other (suc i) s (y ∷ ys) zero ne = refl
get_other (suc i) s (y ∷ ys) (suc k) ne = get_other i s ys k (λ h. ne (ap suc h))

pub get_before : (line : List Entry) (d : Entry) (k : ℕ) (e : Entry) → slice_get line k ≡ Some e → slice_get (line ++ d ∷ []) k ≡ Some e
get_before [] d k e h = absurd (cc (h))
get_before (y ∷ ys) d zero e h = h
get_before (y ∷ ys) d (suc k) e h = get_before ys d k e h

-- the entry there passes this test
pub record PassesAt (test : Standing → Bool) (line : List Entry) (i : ℕ) : Type 0 where
  pub e : Entry
  pub here : slice_get line i ≡ Some e
  pub passes : test e.stands ≡ true

up_one : (o : Option ℕ) (i : ℕ) → option_map (λ k. k + 1) o ≡ Some i → (k : ℕ) × (o ≡ Some k) × (suc k ≡ i)
up_one None i e = absurd (cc (e))
up_one (Some k) i e = let same = some_same (k + 1) i e in (k, refl, omega (arith, same))

pub first_passes : (test : Standing → Bool) (line : List Entry) (i : ℕ) → first_that test line ≡ Some i → PassesAt test line i
first_passes test [] i e = absurd (cc (e))
first_passes test (x ∷ xs) i e = go (test x.stands) refl e (first_passes test xs)
  where
    go : (b : Bool) → test x.stands ≡ b → (if b then Some 0 else option_map (λ k. k + 1) (first_that test xs)) ≡ Some i
        → ((k : ℕ) → first_that test xs ≡ Some k → PassesAt test xs k) → PassesAt test (x ∷ xs) i
    go true is h rest = subst (PassesAt test (x ∷ xs)) (some_same 0 i h) (record { e = x; here = refl; passes = is })
    go false is h rest =
        let m = up_one (first_that test xs) i h in
        let r = rest m.0 m.1 in
        subst (PassesAt test (x ∷ xs)) m.2 (record { e = r.e; here = r.here; passes = r.passes })

-- where none is the first, none passes
pub none_passes : (test : Standing → Bool) (line : List Entry) (k : ℕ) (e : Entry) → is_some (first_that test line) ≡ false
    → slice_get line k ≡ Some e → test e.stands ≡ false
none_passes test [] k e h get = absurd (cc (get))
none_passes test (x ∷ xs) k e h get = go (test x.stands) refl h k get (λ j none g. none_passes test xs j e none g)
  where
    left : (o : Option ℕ) → is_some (option_map (λ k. k + 1) o) ≡ false → is_some o ≡ false
    left None q = refl
    left (Some n) q = q

    go : (b : Bool) → test x.stands ≡ b → is_some (if b then Some 0 else option_map (λ k. k + 1) (first_that test xs)) ≡ false
        → (k : ℕ) → slice_get (x ∷ xs) k ≡ Some e
        → ((j : ℕ) → is_some (first_that test xs) ≡ false → slice_get xs j ≡ Some e → test e.stands ≡ false) → test e.stands ≡ false
    go true is q k g rest = absurd (true≢false q)
    go false is q zero g rest = ap (λ (y : Entry). test y.stands) (sym (some_same x e g)) ∙ is
    go false is q (suc k) g rest = rest k (left (first_that test xs) q) g

-- the ring's front is ready, where there is a ready front
pub ready_passes : (line : List Entry) (i : ℕ) → ready_front line ≡ Some i → PassesAt is_ready line i
ready_passes line i h =
    let t = then_some (first_that in_ring line) _ i h in
    let o = only_some _ t.0 i t.2 in
    subst (PassesAt is_ready line) o.1 (go (slice_get line t.0) refl o.0)
  where
    go : {n : ℕ} → (x : Option Entry) → slice_get line n ≡ x → option_map_or (λ (y : Entry). is_ready y.stands) x false ≡ true → PassesAt is_ready line n
    go None is q = absurd (true≢false (sym q))
    go (Some e) is q = record { e = e; here = is; passes = q }

-- ---- what others have claimed

-- a line keeps each entry that another than this actor has claimed
pub record KeepsClaims (me : ℕ) (old new : List Entry) : Type 0 where
  pub kept : (k other : ℕ) (e : Entry) → other ≢ me → slice_get old k ≡ Some e → e.stands ≡ Claimed other → slice_get new k ≡ Some e

pub record KeepsFile (me : ℕ) (f g : File) : Type 0 where
  pub first : g.first ≡ f.first
  pub line : KeepsClaims me f.line g.line

restood : (me i : ℕ) (s : Standing) (line : List Entry) (d : Entry) → slice_get line i ≡ Some d → ((other : ℕ) → other ≢ me → d.stands ≡ Claimed other → ⊥)
    → KeepsClaims me line (restand i s line)
restood me i s line d here free = record {
  kept = λ k other e ne get claim. ⊎_elim
      (λ same. absurd (free other ne
      (ap (λ (y : Entry). y.stands) (some_same d e (sym here ∙ ap (slice_get line) (sym same.1) ∙ get)) ∙ claim)))
      (λ differ. get_other i s line k (λ h. differ.1 h) ∙ get) (eqb_tells k i);
}

-- one that stands so isn't claimed
passing : (me i : ℕ) (s : Standing) (line : List Entry) (test : Standing → Bool) → ((other : ℕ) → test (Claimed other) ≡ false) → PassesAt test line i
    → KeepsClaims me line (restand i s line)
passing me i s line test free p = restood me i s line p.e p.here
    (λ other ne claim. true≢false (sym p.passes ∙ ap test claim ∙ free other))

same_line : (me : ℕ) (line : List Entry) → KeepsClaims me line line
same_line me line = record { kept = λ k other e ne get claim. get }

batched : (me n : ℕ) (line : List Entry) → KeepsClaims me line (filled n line)
batched me zero line = same_line me line
batched me (suc n) line = go (ready_front line) refl (λ i. batched me n (restand i Batched line))
  where
    go : (o : Option ℕ) → ready_front line ≡ o → ((i : ℕ) → KeepsClaims me (restand i Batched line) (filled n (restand i Batched line)))
        → KeepsClaims me line (option_map_or (λ i. filled n (restand i Batched line)) o line)
    go None is rest = same_line me line
    go (Some i) is rest = record {
      kept = λ k other e ne get claim.
          (rest i).kept k other e ne
          ((passing me i Batched line is_ready (λ o. refl) (ready_passes line i is)).kept k other e ne get claim) claim;
    }

-- ---- changes

-- a change puts a frame at a place of this actor alone
abbrev pub IsPutOf : ℕ → Change → Type 0
IsPutOf me (Puts actor place) = actor ≡ me
IsPutOf me c = Unit {0}

moved_on : (me : ℕ) (s : Standing) (f g : File) (o : Option ℕ) (test : Standing → Bool) → ((other : ℕ) → test (Claimed other) ≡ false)
    → ((i : ℕ) → o ≡ Some i → PassesAt test f.line i) → moves_to s f o ≡ Some g → KeepsFile me f g
moved_on me s f g None test free p e = absurd (cc (e))
moved_on me s f g (Some i) test free p e = subst (KeepsFile me f) (some_same (record f { line = restand i s f.line }) g e)
    (record { first = refl; line = passing me i s f.line test free (p i refl) })

claim_of : (actor : ℕ) (s : Standing) (other : ℕ) → is_claim_of actor s ≡ true → s ≡ Claimed other → other ≡ actor
claim_of actor s other h is = ⊎_elim (λ t. t.1) (λ t. absurd (true≢false (sym (ap (is_claim_of actor) (sym is) ∙ h) ∙ t.0))) (eqb_tells other actor)

takes_on : (me vhost : ℕ) (f g : File) (b test : Bool) → only_if test (record f { line = if b then f.line else filled 64 f.line; hand = Some vhost }) ≡ Some g
    → KeepsFile me f g
takes_on me vhost f g true test e = subst (KeepsFile me f) (only_some test _ g e).1 (record { first = refl; line = same_line me f.line })
takes_on me vhost f g false test e = subst (KeepsFile me f) (only_some test _ g e).1 (record { first = refl; line = batched me 64 f.line })

lets : (me : ℕ) (f h g : File) (test : Bool) → only_if test h ≡ Some g → h.first ≡ f.first → h.line ≡ f.line → KeepsFile me f g
lets me f h g test e first line = subst (KeepsFile me f) (only_some test h g e).1
    (record { first = first; line = subst (KeepsClaims me f.line) (sym line) (same_line me f.line) })

pub claims_stay : (me : ℕ) (c : Change) (f g : File) → IsPutOf me c → changed c f ≡ Some g → KeepsFile me f g
claims_stay me (Claims actor name epoch len) f g put e = subst (KeepsFile me f) (only_some _ _ g e).1 (record {
  first = refl;
  line = record { kept = λ k other x ne get claim. get_before f.line _ k x get };
})
claims_stay me (Puts actor place) f g put e =
    let t = then_some (slice_get f.line (place - f.first)) _ g e in
    let o = only_some _ _ g t.2 in
    subst (KeepsFile me f) o.1 (record {
      first = refl;
      line = restood me (place - f.first) Ready f.line t.0 t.1
          (λ other ne claim. ne (claim_of actor t.0.stands other o.0 claim ∙ put));
    })
claims_stay me Moves f g put e =
    let i = if_some _ _ g e in moved_on me Batched f g (ready_front f.line) is_ready (λ o. refl) (λ i h. ready_passes f.line i h) i.1
claims_stay me (Takes vhost) f g put e = takes_on me vhost f g (has_batch f) _ e
claims_stay me (PutsBack vhost) f g put e = lets me f (record f { hand = None }) g (is_in_hand_of vhost f) e refl refl
claims_stay me (Leaves worker fate) f g put e =
    let i = if_some (may_leave worker f) _ g e in
    let r = moved_on me (Out fate) (record f { hand = None }) g (first_that in_batch f.line) in_batch (λ o. refl)
    (λ i h. first_passes in_batch f.line i h) i.1 in
    record { first = r.first; line = r.line }
claims_stay me Shuts f g put e = lets me f (record f { shut = true }) g (not f.shut) e refl refl
claims_stay me Reopens f g put e = lets me f (record f { shut = false; epoch = f.epoch + 1 }) g _ e refl refl
claims_stay me (Sizes capacity) f g put e = lets me f (record f { capacity = capacity; resizes = f.resizes + 1 }) g _ e refl refl
claims_stay me Cuts f g put e =
    let i = if_some (is_over f && not (has_claim f)) _ g e in
    cut_on (last_that in_ring f.line) (not_true (has_claim f) (both (is_over f) (not (has_claim f)) i.0).1) i.1
  where
    not_true : (b : Bool) → not b ≡ true → b ≡ false
    not_true false h = refl
    not_true true h = sym h

    cut_on : (o : Option ℕ) → has_claim f ≡ false → moves_to Cut f o ≡ Some g → KeepsFile me f g
    cut_on None none h = absurd (cc (h))
    cut_on (Some i) none h = subst (KeepsFile me f) (some_same (record f { line = restand i Cut f.line }) g h) (record {
      first = refl;
      line = record {
        kept = λ k other x ne get claim.
            absurd (true≢false (ap is_claimed (sym claim) ∙ none_passes is_claimed f.line k x none get));
      };
    })
claims_stay me (Owned owner) f g put e = lets me f (record f { owner = owner }) g (is_none f.hand) e refl refl
