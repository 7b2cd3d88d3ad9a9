-- A step taken apart, and lists with one thing in another's place.
use Rattle.std.proofs.Common.{◌≡◌, ◌≢◌, ◌⊎◌, ℕ, zero, suc, List, [], ◌∷◌, Bool, true, false, Option, Some, None, inl, inr, ⊎_elim, refl, sym, ap, ◌∙◌, subst, true≢false, arith}
use Rattle.std.specs.Prelude.{if◌then◌else◌, ◌==◌, ◌&&◌, slice_get}
use Rattle.std.proofs.lemmas.Bool.Decides.{eqb_tells}
use Rattle.tap_world.specs.declared.event.Event.{Event}
use Rattle.tap_world.specs.declared.event.Heard.{Heard}
use Rattle.tap_ground.specs.Options.{◌>>=◌}
use Rattle.tap_world.specs.ByNumber.{at, with_at, with_nth}
use Rattle.tap_world.specs.Setup.{Numbered, Setup}
use Rattle.tap_world.specs.Line.{File, is_empty}
use Rattle.tap_world.specs.World.{Actor, Doing, World, current}
use Rattle.tap_world.specs.World.Doing.{Purges}
use Rattle.tap_world.specs.Effect.{Effect, Ending, ended, ending, heard_by, purge_of, settled, with_effect}
use Rattle.tap_world.specs.Scripts.{is_kind, next_kind}
use Rattle.tap_world.specs.Stands.{are_new, if_new, names_of}
use Rattle.tap_world.specs.Step.{effect, row, row_of, step, stepped}
use Rattle.tap_sound.proofs.Kit.{only_some, some_same, then_some}

pub both : (a b : Bool) → (a && b) ≡ true → (a ≡ true) × (b ≡ true)
both true b e = (refl, e)
both false b e = absurd (true≢false (sym e))

-- ---- lists

-- what stands at a place, after another was put at one
pub with_nth_get : {A : Type 0} (n : ℕ) (new : A) (xs : List A) (i : ℕ) (a : A) → slice_get xs i ≡ Some a
    → ((n ≡ i) × (slice_get (with_nth n new xs) i ≡ Some new)) ⊎ ((n ≢ i) × (slice_get (with_nth n new xs) i ≡ Some a))
with_nth_get n new [] i a e = absurd (cc (e))
with_nth_get zero new (x ∷ xs) zero a e = inl (refl, refl)
with_nth_get zero new (x ∷ xs) (suc i) a e = inr (λ h. omega (arith, h), e)
with_nth_get (suc n) new (x ∷ xs) zero a e = inr (λ h. omega (arith, h), e)
with_nth_get (suc n) new (x ∷ xs) (suc i) a e = ⊎_elim (λ t. inl (ap suc t.0, t.1)) (λ t. inr (λ h. t.0 (omega (arith, h)), t.1)) (with_nth_get n new xs i a e)

-- what holds of each, and of the new one in its place, holds of each after
pub each_with_nth : {A : Type 0} (P : ℕ → A → Type 0) (n : ℕ) (new : A) (xs : List A)
    → ((k : ℕ) (x : A) → slice_get xs k ≡ Some x → P k x) → P n new → (k : ℕ) (x : A) → slice_get (with_nth n new xs) k ≡ Some x → P k x
each_with_nth P n new [] each is k x e = absurd (cc (e))
each_with_nth P zero new (y ∷ ys) each is zero x e = subst (P 0) (some_same new x e) is
each_with_nth P zero new (y ∷ ys) each is (suc k) x e = each (suc k) x e
each_with_nth P (suc n) new (y ∷ ys) each is zero x e = each 0 x e
each_with_nth P (suc n) new (y ∷ ys) each is (suc k) x e = each_with_nth (λ i. P (suc i)) n new ys (λ i. each (suc i)) is k x e

pub each_with_at : {A : Type 0} (P : ℕ → A → Type 0) (n : ℕ) (new : A) (xs : List (Option A))
    → ((k : ℕ) (x : A) → at xs k ≡ Some x → P k x) → P n new → (k : ℕ) (x : A) → at (with_at n new xs) k ≡ Some x → P k x
each_with_at P n new [] each is k x e = absurd (cc (e))
each_with_at P zero new (y ∷ ys) each is zero x e = subst (P 0) (some_same new x e) is
each_with_at P zero new (y ∷ ys) each is (suc k) x e = each (suc k) x e
each_with_at P (suc n) new (y ∷ ys) each is zero x e = each 0 x e
each_with_at P (suc n) new (y ∷ ys) each is (suc k) x e = each_with_at (λ i. P (suc i)) n new ys (λ i. each (suc i)) is k x e

-- ---- a step

pub record IsStep (s : Setup) (w : World) (e : Event) (u : World) : Type 0 where
  pub actor : Actor
  pub now : Numbered
  pub effect : Effect
  pub between : World
  pub found : slice_get w.actors e.actor ≡ Some actor
  pub current_is : slice_get actor.script 0 ≡ Some now
  pub number : now.number ≡ e.command
  pub next : is_kind e.kind (next_kind w actor.doing now.command) ≡ true
  pub is_row : row s w e.kind e.actor actor now.number now.command ≡ Some effect
  pub new : are_new w (names_of effect) ≡ true
  pub made : with_effect effect e.actor actor e.command w ≡ Some between
  pub is : settled between (ending between) ≡ u

pub if_some : {A : Type 0} (b : Bool) (o : Option A) (x : A) → (if b then o else None) ≡ Some x → (b ≡ true) × (o ≡ Some x)
if_some true o x e = (refl, e)
if_some false o x e = absurd (cc (e))

eqb_true : (a b : ℕ) → (a == b) ≡ true → a ≡ b
eqb_true a b e = ⊎_elim (λ t. t.1) (λ t. absurd (true≢false (sym e ∙ t.0))) (eqb_tells a b)

-- the row of an event: that of the command under way, whose next event has this kind
pub record IsRow (s : Setup) (w : World) (e : Event) (r : Effect) : Type 0 where
  pub actor : Actor
  pub now : Numbered
  pub found : slice_get w.actors e.actor ≡ Some actor
  pub current_is : slice_get actor.script 0 ≡ Some now
  pub number : now.number ≡ e.command
  pub next : is_kind e.kind (next_kind w actor.doing now.command) ≡ true
  pub is_row : row s w e.kind e.actor actor now.number now.command ≡ Some r

abbrev row_at : Setup → World → Event → Actor → Numbered → Option Effect
row_at s w e a c =
    if c.number == e.command && is_kind e.kind (next_kind w a.doing c.command) then row s w e.kind e.actor a c.number c.command else None

pub row_is : (s : Setup) (w : World) (e : Event) (r : Effect) → row_of s w e ≡ Some r → IsRow s w e r
row_is s w e r h =
    let b = then_some (slice_get w.actors e.actor) (λ a. current a.script >>= λ c. row_at s w e a c) r h in
    let c = then_some (current b.0.script) (row_at s w e b.0) r b.2 in
    let i = if_some (c.0.number == e.command && is_kind e.kind (next_kind w b.0.doing c.0.command)) (row s w e.kind e.actor b.0 c.0.number c.0.command) r c.2 in
    let t = both (c.0.number == e.command) (is_kind e.kind (next_kind w b.0.doing c.0.command)) i.0 in
    record { actor = b.0; now = c.0; found = b.1; current_is = c.1; number = eqb_true c.0.number e.command t.0; next = t.1; is_row = i.1 }

pub step_is : (s : Setup) (w : World) (e : Event) (u : World × Heard) → step s w e ≡ Some u → IsStep s w e u.0
step_is s w e u h =
    let r = then_some (effect s w e) (λ x. slice_get w.actors e.actor >>= λ a. stepped x e a w) u h in
    let a = then_some (slice_get w.actors e.actor) (λ y. stepped r.0 e y w) u r.2 in
    let v = then_some (with_effect r.0 e.actor a.0 e.command w) (λ y. Some (settled y (ending y), heard_by e.actor r.0.onward (ending y))) u a.2 in
    let q = then_some (row_of s w e) (λ x. if_new w x) r.0 r.1 in
    let o = only_some (are_new w (names_of q.0)) q.0 r.0 q.2 in
    let b = row_is s w e q.0 q.1 in
    let same : b.actor ≡ a.0 = some_same b.actor a.0 (sym b.found ∙ a.1) in
    record {
      actor = b.actor;
      now = b.now;
      effect = r.0;
      between = v.0;
      found = b.found;
      current_is = b.current_is;
      number = b.number;
      next = b.next;
      is_row = subst (λ y. row s w e.kind e.actor b.actor b.now.number b.now.command ≡ Some y) o.1 b.is_row;
      new = subst (λ x. are_new w (names_of x) ≡ true) o.1 o.0;
      made = subst (λ y. with_effect r.0 e.actor y e.command w ≡ Some v.0) (sym same) v.1;
      is = ap (λ (x : World × Heard). x.0) (some_same (settled v.0 (ending v.0), heard_by e.actor r.0.onward (ending v.0)) u v.2);
    }

-- ---- the end of a purge

pub record IsEnding (v : World) (e : Ending) : Type 0 where
  pub file : ℕ
  pub f : File
  pub now : Numbered
  pub writer : v.writer ≡ Some e.actor
  pub found : slice_get v.actors e.actor ≡ Some e.state
  pub doing : e.state.doing ≡ Purges file e.version
  pub at : at v.files file ≡ Some f
  pub current_is : slice_get e.state.script 0 ≡ Some now
  pub number : now.number ≡ e.command
  pub empty : is_empty f ≡ true

purge_is : (d : Doing) (p : ℕ × ℕ) → purge_of d ≡ Some p → d ≡ Purges p.0 p.1
purge_is (Purges file version) p e = let same : (file, version) ≡ p = some_same _ p e in ap (λ (q : ℕ × ℕ). Purges q.0 q.1) same
purge_is d p e = absurd (cc (e))

pub ending_is : (v : World) (e : Ending) → ending v ≡ Some e → IsEnding v e
ending_is v e h =
    let n = then_some v.writer _ e h in
    let a = then_some (slice_get v.actors n.0) _ e n.2 in
    let p = then_some (purge_of a.0.doing) _ e a.2 in
    let f = then_some (at v.files p.0.0) _ e p.2 in
    let c = then_some (slice_get a.0.script 0) _ e f.2 in
    let o = only_some _ _ e c.2 in
    subst (IsEnding v) o.1 (record {
      file = p.0.0;
      f = f.0;
      now = c.0;
      writer = n.1;
      found = a.1;
      doing = purge_is a.0.doing p.0 p.1;
      at = f.1;
      current_is = c.1;
      number = refl;
      empty = o.0;
    })

-- what holds of a world, and of one in which a purge has ended, holds after a step
pub when_settled : (P : World → Type 0) (v : World) → P v → ((e : Ending) → IsEnding v e → P (ended e v)) → P (settled v (ending v))
when_settled P v h k = go (ending v) refl
  where
    go : (o : Option Ending) → ending v ≡ o → P (settled v o)
    go None is = h
    go (Some e) is = k e (ending_is v e is)
