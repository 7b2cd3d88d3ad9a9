-- A place that is claimed and not put belongs to an actor in mid-call.
use Rattle.std.proofs.Common.{◌≡◌, ◌≢◌, ◌⊎◌, ℕ, zero, suc, ◌+◌, ◌-◌, List, [], ◌∷◌, ◌++◌, length, Bool, true, false, Option, Some, None, inl, inr, ⊎_elim, refl, sym, ap, ◌∙◌, subst, arith}
use Rattle.std.specs.Prelude.{if◌then◌else◌, slice_get, drop}
use Rattle.tap_frame.specs.declared.name.Name.{Name}
use Rattle.tap_ledger.specs.declared.fate.Fate.{Fate}
use Rattle.tap_world.specs.declared.event.Event.{Event}
use Rattle.tap_world.specs.declared.event.EventKind.{EventKind}
use Rattle.tap_world.specs.declared.event.EventKind.TheVariants as event
use Rattle.tap_world.specs.declared.event.Heard.{Heard}
use Rattle.tap_world.specs.ByNumber.{at, with_at, with_nth}
use Rattle.tap_world.specs.Setup.{Setup}
use Rattle.tap_world.specs.declared.line.Entry.{Entry}
use Rattle.tap_world.specs.declared.line.Standing.{Standing}
use Rattle.tap_world.specs.Line.{File, claimed}
use Rattle.tap_world.specs.declared.line.Standing.TheVariants.{Batched, Claimed, Cut, Out, Ready}
use Rattle.tap_world.specs.LineSteps.{Change, changed, filled, restand}
use Rattle.tap_world.specs.LineSteps.Change.{Claims, Cuts, Leaves, Moves, Owned, Puts, PutsBack, Reopens, Shuts, Sizes, Takes}
use Rattle.tap_ground.specs.Options.{only_if}
use Rattle.tap_world.specs.Line.{first_that, has_batch, in_batch, in_ring, last_that}
use Rattle.tap_world.specs.LineSteps.{may_leave, moves_to, ready_front}
use Rattle.tap_world.specs.World.{Actor, Doing, World}
use Rattle.tap_world.specs.World.Doing.{Begun, Placed, Purges}
use Rattle.tap_world.specs.Effect.{Effect, OnFiles, Onward, actor_after, files_after}
use Rattle.tap_world.specs.Effect.OnFiles.{NoFile, OnFile}
use Rattle.tap_world.specs.Scripts.{is_kind, next_kind}
use Rattle.tap_world.specs.Step.{row, step}
use Rattle.tap_world.specs.StepRing as ring
use Rattle.tap_world.specs.Each.{EachFile}
use Rattle.tap_world.specs.Sound.{ClaimIsHeld}
use Rattle.tap_sound.proofs.Kit.{only_some, some_same, then_some, where_some}
use Rattle.tap_sound.proofs.Entries.{filled_keeps}
use Rattle.tap_sound.proofs.Follows.{same_kind}
use Rattle.tap_sound.proofs.Scripts.{effect_actors}
use Rattle.tap_sound.proofs.Kept.{effect_files}
use Rattle.tap_sound.proofs.Claiming.{Claiming, ClaimsBy, row_claims}
use Rattle.tap_sound.proofs.Taken.{IsStep, if_some, step_is, when_settled, with_nth_get}

-- ---- entries of a line

get_more : (line : List Entry) (e : Entry) (k : ℕ) (x : Entry) → slice_get (line ++ e ∷ []) k ≡ Some x → (slice_get line k ≡ Some x) ⊎ ((k ≡ length line) × (e ≡ x))
get_more [] e zero x h = inr (refl, some_same e x h)
get_more [] e (suc k) x h = absurd (cc (h))
get_more (y ∷ ys) e zero x h = inl h
get_more (y ∷ ys) e (suc k) x h = ⊎_elim (λ t. inl t) (λ t. inr (ap suc t.0, t.1)) (get_more ys e k x h)

get_restand : (i : ℕ) (s : Standing) (line : List Entry) (k : ℕ) (x : Entry) → slice_get (restand i s line) k ≡ Some x
    → ((k ≢ i) × (slice_get line k ≡ Some x)) ⊎ (x.stands ≡ s)
get_restand i s [] k x h = absurd (cc (h))
get_restand zero s (y ∷ ys) zero x h = inr (ap (λ (e : Entry). e.stands) (sym (some_same _ x h)))
get_restand zero s (y ∷ ys) (suc k) x h = inl (λ e. omega (arith, e), h)
get_restand (suc i) s (y ∷ ys) zero x h = inl (λ e. omega (arith, e), h)
get_restand (suc i) s (y ∷ ys) (suc k) x h = ⊎_elim (λ t. inl (λ e. t.0 (omega (arith, e)), t.1)) (λ t. inr t) (get_restand i s ys k x h)

-- ---- what was claimed before

abbrev Old : List Entry → List Entry → Type 0
Old old new = (i actor : ℕ) (e : Entry) → slice_get new i ≡ Some e → e.stands ≡ Claimed actor → slice_get old i ≡ Some e

old_restand : (old line : List Entry) (i : ℕ) (s : Standing) → ((actor : ℕ) → s ≡ Claimed actor → ⊥) → Old old line → Old old (restand i s line)
old_restand old line i s no_ h k actor e at is =
    ⊎_elim (λ t. h k actor e t.1 is) (λ t. absurd (no_ actor (sym t ∙ is))) (get_restand i s line k e at)

old_same : (line : List Entry) → Old line line
old_same line i actor e at is = at

old_filled : (n : ℕ) (line : List Entry) → Old line (filled n line)
old_filled n line = filled_keeps (Old line) (λ l i front h. old_restand line l i Batched (λ actor e. cc (e)) h) n line (old_same line)

abbrev NewClaim : File → ℕ → Name → ℕ → ℕ → ℕ → Entry → Type 0
NewClaim f actor name epoch len i e = (i ≡ length f.line) × (e ≡ record { name = name; epoch = epoch; len = len; stands = Claimed actor })

abbrev Traced : Change → File → File → Type 0
Traced (Claims actor name epoch len) f g =
    (i other : ℕ) (e : Entry) → slice_get g.line i ≡ Some e → e.stands ≡ Claimed other → (slice_get f.line i ≡ Some e) ⊎ NewClaim f actor name epoch len i e
Traced (Puts actor place) f g =
    (i other : ℕ) (e : Entry) → slice_get g.line i ≡ Some e → e.stands ≡ Claimed other → (i ≢ place - f.first) × (slice_get f.line i ≡ Some e)
Traced c f g = Old f.line g.line

abbrev Trace : Change → File → File → Type 0
Trace c f g = (g.first ≡ f.first) × Traced c f g

put_traced : (i : ℕ) (line : List Entry) (k other : ℕ) (e : Entry) → slice_get (restand i Ready line) k ≡ Some e → e.stands ≡ Claimed other
    → (k ≢ i) × (slice_get line k ≡ Some e)
put_traced i line k other e at is = ⊎_elim (λ t. t) (λ t. absurd (cc (t, is))) (get_restand i Ready line k e at)

shifted : (f g : File) (s : Standing) (o : Option ℕ) → ((actor : ℕ) → s ≡ Claimed actor → ⊥) → moves_to s f o ≡ Some g → (g.first ≡ f.first) × Old f.line g.line
shifted f g s None no_ e = absurd (cc (e))
shifted f g s (Some i) no_ e = subst (λ (h : File). (h.first ≡ f.first) × Old f.line h.line) (some_same _ g e) (refl, old_restand f.line f.line i s no_ (old_same f.line))

takes_traced : (vhost : ℕ) (f g : File) (b : Bool) (test : Bool)
    → only_if test (record f { line = if b then f.line else filled 64 f.line; hand = Some vhost }) ≡ Some g → (g.first ≡ f.first) × Old f.line g.line
takes_traced vhost f g true test e = let o = only_some test _ g e in subst (λ (h : File). (h.first ≡ f.first) × Old f.line h.line) o.1 (refl, old_same f.line)
takes_traced vhost f g false test e = let o = only_some test _ g e in subst (λ (h : File). (h.first ≡ f.first) × Old f.line h.line) o.1 (refl, old_filled 64 f.line)

not_batched : (actor : ℕ) → Batched ≡ Claimed actor → ⊥
not_batched actor h = cc (h)

not_out : (fate : Fate) (actor : ℕ) → Out fate ≡ Claimed actor → ⊥
not_out fate actor h = cc (h)

not_cut : (actor : ℕ) → Cut ≡ Claimed actor → ⊥
not_cut actor h = cc (h)

trace : (c : Change) (f g : File) → changed c f ≡ Some g → Trace c f g
trace (Claims actor name epoch len) f g e =
    let o = only_some _ _ g e in
    subst (Trace (Claims actor name epoch len) f) o.1
    (refl, λ i other x at is. ⊎_elim (λ t. inl t) (λ t. inr (t.0, sym t.1)) (get_more f.line (record { name = name; epoch = epoch; len = len; stands = Claimed actor }) i x at))
trace (Puts actor place) f g e =
    let t = then_some (slice_get f.line (place - f.first)) _ g e in
    let o = only_some _ _ g t.2 in
    subst (Trace (Puts actor place) f) o.1 (refl, put_traced (place - f.first) f.line)
trace Moves f g e = let i = if_some _ _ g e in shifted f g Batched (ready_front f.line) (not_batched) i.1
trace (Takes vhost) f g e = takes_traced vhost f g (has_batch f) _ e
trace (PutsBack vhost) f g e = let o = only_some _ _ g e in subst (Trace (PutsBack vhost) f) o.1 (refl, old_same f.line)
trace (Leaves worker fate) f g e =
    let i = if_some (may_leave worker f) _ g e in shifted (record f { hand = None }) g (Out fate) (first_that in_batch f.line) (not_out fate) i.1
trace Shuts f g e = let o = only_some _ _ g e in subst (Trace Shuts f) o.1 (refl, old_same f.line)
trace Reopens f g e = let o = only_some _ _ g e in subst (Trace Reopens f) o.1 (refl, old_same f.line)
trace (Sizes capacity) f g e = let o = only_some _ _ g e in subst (Trace (Sizes capacity) f) o.1 (refl, old_same f.line)
trace Cuts f g e = let i = if_some _ _ g e in shifted f g Cut (last_that in_ring f.line) (not_cut) i.1
trace (Owned owner) f g e = let o = only_some _ _ g e in subst (Trace (Owned owner) f) o.1 (refl, old_same f.line)

-- ---- who holds a claim

abbrev pub Holder : List Actor → ℕ → ℕ → ℕ → Entry → Type 0
Holder actors file place actor e = (b : Actor) × (slice_get actors actor ≡ Some b) × (b.doing ≡ Placed file place e.epoch e.len)

-- an actor with a place puts its frame there next
ready_now : (s : Setup) (w : World) (x : Event) (u : World) (t : IsStep s w x u) (file place epoch len : ℕ) → t.actor.doing ≡ Placed file place epoch len
    → t.effect.files ≡ OnFile file (Puts x.actor place)
ready_now s w x u t file place epoch len doing =
    let next : is_kind x.kind (next_kind w (Placed file place epoch len) t.now.command) ≡ true =
    subst (λ (d : Doing). is_kind x.kind (next_kind w d t.now.command) ≡ true) doing t.next in
    let kind : x.kind ≡ event.Ready = same_kind x.kind event.Ready next in
    let made : ring.puts w x.actor t.actor.seen t.actor.doing ≡ Some t.effect =
    subst (λ (k : EventKind). row s w k x.actor t.actor t.now.number t.now.command ≡ Some t.effect) kind t.is_row in
    let put : ring.puts w x.actor t.actor.seen (Placed file place epoch len) ≡ Some t.effect =
    subst (λ (d : Doing). ring.puts w x.actor t.actor.seen d ≡ Some t.effect) doing made in
    ap (λ (r : Effect). r.files) (sym (some_same _ t.effect put))

held_on : (s : Setup) (w : World) (x : Event) (u : World) (t : IsStep s w x u) (file place actor : ℕ) (e : Entry)
    → (t.effect.files ≡ OnFile file (Puts x.actor place) → ⊥) → Holder w.actors file place actor e → Holder t.between.actors file place actor e
held_on s w x u t file place actor e no_put h = ⊎_elim
    (λ same. absurd (no_put (ready_now s w x u t file place e.epoch e.len
    (ap (λ (q : Actor). q.doing) (some_same t.actor h.0 (sym t.found ∙ ap (slice_get w.actors) same.0 ∙ h.1)) ∙ h.2))))
    (λ other. (h.0, ap (λ (q : List Actor). slice_get q actor) (effect_actors t.effect x.actor t.actor x.command w t.between t.made) ∙ other.1, h.2))
    (with_nth_get x.actor (actor_after t.effect.onward t.actor) w.actors actor h.0 h.1)

pub with_at_inv : {A : Type 0} (n : ℕ) (new : A) (xs : List (Option A)) (k : ℕ) (x : A) → at (with_at n new xs) k ≡ Some x
    → ((n ≡ k) × (new ≡ x)) ⊎ ((n ≢ k) × (at xs k ≡ Some x))
with_at_inv n new [] k x e = absurd (cc (e))
with_at_inv zero new (y ∷ ys) zero x e = inl (refl, some_same new x e)
with_at_inv zero new (y ∷ ys) (suc k) x e = inr (λ h. omega (arith, h), e)
with_at_inv (suc n) new (y ∷ ys) zero x e = inr (λ h. omega (arith, h), e)
with_at_inv (suc n) new (y ∷ ys) (suc k) x e = ⊎_elim (λ t. inl (ap suc t.0, t.1)) (λ t. inr (λ h. t.0 (omega (arith, h)), t.1)) (with_at_inv n new ys k x e)

abbrev OnFileOf : OnFiles → ℕ → ℕ
OnFileOf (OnFile file c) other = file
OnFileOf NoFile other = other

-- on the file that changes
changed_held : (s : Setup) (w : World) (x : Event) (u : World) (t : IsStep s w x u) (file : ℕ) (c : Change) (f g : File) → t.effect.files ≡ OnFile file c
    → at w.files file ≡ Some f → Trace c f g → ClaimIsHeld w file f
    → (i actor : ℕ) (e : Entry) → slice_get g.line i ≡ Some e → e.stands ≡ Claimed actor → Holder t.between.actors file (f.first + i) actor e
changed_held s w x u t file (Claims other name epoch len) f g is found tr each i actor e at claim = ⊎_elim
    (λ old. held_on s w x u t file (f.first + i) actor e (λ put. cc (is, put)) (each i actor e old claim))
    (λ new.
    let by : ClaimsBy w x.actor (OnFile file (Claims other name epoch len)) t.effect.onward =
    subst (λ (o : OnFiles). ClaimsBy w x.actor o t.effect.onward) is
    (where_some (Claiming w x.actor) _ t.effect (row_claims s w x.kind x.actor t.actor t.now.number t.now.command) t.is_row) in
    let same : by.1 ≡ f = some_same by.1 f (sym by.4 ∙ found) in
    let it : Claimed other ≡ Claimed actor = ap (λ (y : Entry). y.stands) (sym new.1) ∙ claim in
    let who : other ≡ actor = ap (λ (y : Standing). claimer y) it in
    let place : claimed by.1 ≡ f.first + i = ap claimed same ∙ ap (λ (n : ℕ). f.first + n) (sym new.0) in
    ⊎_elim
    (λ mine. (
      actor_after t.effect.onward t.actor,
      ap (λ (q : List Actor). slice_get q actor) (effect_actors t.effect x.actor t.actor x.command w t.between t.made) ∙ subst (λ (n : ℕ). slice_get (with_nth x.actor (actor_after t.effect.onward t.actor) w.actors) n ≡ Some (actor_after t.effect.onward t.actor)) (sym by.0 ∙ who) mine.1,
      ap (λ (o : Onward). (actor_after o t.actor).doing) by.5
          ∙ ap (λ (n : ℕ). Placed file n epoch len) place ∙ ap (λ (y : Entry). Placed file (f.first + i) y.epoch y.len) (sym new.1),
    ))
    (λ other_. absurd (other_.0 refl))
    (with_nth_get x.actor (actor_after t.effect.onward t.actor) w.actors x.actor t.actor t.found))
    (tr.1 i actor e at claim)
  where
    claimer : Standing → ℕ
    claimer (Claimed n) = n
    claimer y = 0
changed_held s w x u t file (Puts other place) f g is found tr each i actor e at claim =
    let old = tr.1 i actor e at claim in
    held_on s w x u t file (f.first + i) actor e
    (λ put. let same : place ≡ f.first + i = ap (λ (o : OnFiles). put_place o) (sym is ∙ put) in old.0 (omega (arith, same)))
    (each i actor e old.1 claim)
  where
    put_place : OnFiles → ℕ
    put_place (OnFile n (Puts who p)) = p
    put_place o = 0
changed_held s w x u t file c f g is found tr each i actor e at claim =
    held_on s w x u t file (f.first + i) actor e (λ put. cc (is, put)) (each i actor e (tr.1 i actor e at claim) claim)

between_held : (s : Setup) (w : World) (x : Event) (u : World) (t : IsStep s w x u) → EachFile w (ClaimIsHeld w) → (o : OnFiles) → t.effect.files ≡ o
    → files_after o w.files ≡ Some t.between.files → EachFile t.between (ClaimIsHeld t.between)
between_held s w x u t each NoFile is after file g at_ i actor e get claim =
    held_on s w x u t file (g.first + i) actor e (λ put. cc (is, put))
    (each file g (ap (λ (q : List (Option File)). at q file) (some_same w.files t.between.files after) ∙ at_) i actor e get claim)
between_held s w x u t each (OnFile file0 c) is after file g at_ i actor e get claim =
    let f = then_some (at w.files file0) _ t.between.files after in
    let h = then_some (changed c f.0) _ t.between.files f.2 in
    let files : with_at file0 h.0 w.files ≡ t.between.files = some_same _ t.between.files h.2 in
    ⊎_elim
    (λ same.
    let tr = trace c f.0 h.0 h.1 in
    let r = changed_held s w x u t file0 c f.0 h.0 is f.1 tr (each file0 f.0 f.1) i actor e (ap (λ (q : File). slice_get q.line i) same.1 ∙ get) claim in
    subst (λ (n : ℕ). Holder t.between.actors n (g.first + i) actor e) same.0
    (subst (λ (n : ℕ). Holder t.between.actors file0 (n + i) actor e) (sym tr.0 ∙ ap (λ (q : File). q.first) same.1) r))
    (λ other. held_on s w x u t file (g.first + i) actor e
    (λ put. other.0 (ap (λ (o : OnFiles). OnFileOf o 0) (sym is ∙ put))) (each file g other.1 i actor e get claim))
    (with_at_inv file0 h.0 w.files file g (ap (λ (q : List (Option File)). at q file) files ∙ at_))

pub claims_are_kept : (s : Setup) (w : World) (x : Event) (u : World × Heard) → step s w x ≡ Some u
    → EachFile w (ClaimIsHeld w) → EachFile u.0 (ClaimIsHeld u.0)
claims_are_kept s w x u e each =
    let t = step_is s w x u e in
    let between = between_held s w x u.0 t each t.effect.files refl (effect_files t.effect x.actor t.actor x.command w t.between t.made) in
    subst (λ (q : World). EachFile q (ClaimIsHeld q)) t.is
    (when_settled (λ (q : World). EachFile q (ClaimIsHeld q)) t.between between
    (λ f end file g at_ i actor y get claim.
    let h = between file g at_ i actor y get claim in
    ⊎_elim
    (λ same.
    let mine : f.state ≡ h.0 = some_same f.state h.0 (sym end.found ∙ ap (slice_get t.between.actors) same.0 ∙ h.1) in
    let two : Purges end.file f.version ≡ Placed file (g.first + i) y.epoch y.len = sym end.doing ∙ ap (λ (q : Actor). q.doing) mine ∙ h.2 in
    absurd (cc (two)))
    (λ other. (h.0, other.1, h.2))
    (with_nth_get f.actor (record f.state { script = drop 1 f.state.script; doing = Begun }) t.between.actors actor h.0 h.1)))
