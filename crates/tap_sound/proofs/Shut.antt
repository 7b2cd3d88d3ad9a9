-- A shut gate has nothing behind it, or an actor that is emptying it.
use Rattle.std.proofs.Common.{◌≡◌, ◌⊎◌, ℕ, zero, suc, ◌+◌, ◌-◌, List, [], ◌∷◌, Bool, true, false, Option, Some, None, inl, inr, ⊎_elim, refl, sym, ap, ◌∙◌, subst, true≢false}
use Rattle.std.specs.Prelude.{if◌then◌else◌, ◌||◌, drop, is_none, option_map, slice_get}
use Rattle.std.specs.List.{AllByRecursion, list_any}
use Rattle.tap_world.specs.declared.event.Event.{Event}
use Rattle.tap_world.specs.declared.event.EventKind.{EventKind}
use Rattle.tap_world.specs.declared.event.EventKind.TheVariants as event
use Rattle.tap_world.specs.declared.event.Heard.{Heard}
use Rattle.tap_world.specs.ByNumber.{at, with_at}
use Rattle.tap_world.specs.Setup.{Setup}
use Rattle.tap_world.specs.declared.line.Entry.{Entry}
use Rattle.tap_world.specs.declared.line.Standing.{Standing}
use Rattle.tap_world.specs.Line.{File, first_that, has_batch, in_batch, in_ring, is_empty, is_kept, last_that}
use Rattle.tap_world.specs.declared.line.Standing.TheVariants.{Batched, Claimed, Cut, Out, Ready}
use Rattle.tap_world.specs.LineSteps.{Change, changed, may_leave, moves_to, ready_front}
use Rattle.tap_world.specs.LineSteps.Change.{Claims, Cuts, Leaves, Moves, Owned, Puts, PutsBack, Reopens, Shuts, Sizes, Takes}
use Rattle.tap_world.specs.World.{Actor, Doing, World}
use Rattle.tap_world.specs.World.Doing.{Begun, Purges}
use Rattle.tap_world.specs.Effect.{Effect, OnFiles, Onward, actor_after, files_after}
use Rattle.tap_world.specs.Effect.OnFiles.{NoFile, OnFile}
use Rattle.tap_world.specs.Effect.Onward.{Ends, Goes, Stays}
use Rattle.tap_world.specs.Scripts.{is_kind, next_kind, purge_next}
use Rattle.tap_world.specs.Step.{row, step}
use Rattle.tap_world.specs.StepRing as ring
use Rattle.tap_world.specs.StepTransmits as tx_turns
use Rattle.tap_world.specs.Each.{EachFile}
use Rattle.tap_world.specs.Sound.{IsEmptyWhenShut, is_purging}
use Rattle.std.proofs.lemmas.Bool.Decides.{eqb_tells}
use Rattle.tap_sound.proofs.Kit.{WhereSome, either, only_some, some_same, then_some, where_some, where_then}
use Rattle.tap_sound.proofs.Entries.{all_at, batch_is, filled_keeps, none_is, ring_rank}
use Rattle.tap_sound.proofs.Files.{Course, Restands, course}
use Rattle.tap_sound.proofs.Files.Course.{Fills, Grows, Opens, Resizes, Rests, Shifts}
use Rattle.tap_sound.proofs.Files.Restands.{CutOff, Leave, Move, Put}
use Rattle.tap_sound.proofs.Follows.{at_file_kind}
use Rattle.tap_sound.proofs.Steps.{or_else, turning}
use Rattle.tap_sound.proofs.Scripts.{effect_actors}
use Rattle.tap_sound.proofs.Kept.{effect_files}
use Rattle.tap_sound.proofs.Claiming.{Claiming, ClaimsBy, row_claims}
use Rattle.tap_sound.proofs.Claims.{with_at_inv}
use Rattle.tap_sound.proofs.Taken.{IsStep, if_some, step_is, when_settled, with_nth_get}

-- ---- nothing waits

abbrev AllGone : List Entry → Type 0
AllGone line = AllByRecursion (λ (e : Entry). is_kept e.stands ≡ false) line

none_that : (test : Standing → Bool) (line : List Entry) → AllByRecursion (λ (e : Entry). test e.stands ≡ false) line → first_that test line ≡ None
none_that test [] a = refl
none_that test (x ∷ xs) a =
    ap (λ (b : Bool). if b then Some 0 else option_map (λ i. i + 1) (first_that test xs)) a.0
    ∙ ap (λ (o : Option ℕ). option_map (λ i. i + 1) o) (none_that test xs a.1)

empty_is : (f : File) → is_empty f ≡ true → AllGone f.line
empty_is f e = none_is is_kept f.line (go (first_that is_kept f.line) e)
  where
    go : (o : Option ℕ) → is_none o ≡ true → o ≡ None
    go None h = refl
    go (Some i) h = absurd (true≢false (sym h))

is_empty_of : (f : File) → AllGone f.line → is_empty f ≡ true
is_empty_of f a = ap (λ (o : Option ℕ). is_none o) (none_that is_kept f.line a)

waits : (line : List Entry) (i : ℕ) (e : Entry) → AllGone line → slice_get line i ≡ Some e → is_kept e.stands ≡ true → ⊥
waits line i e a at k = true≢false (sym k ∙ all_at (λ (x : Entry). is_kept x.stands ≡ false) line i e a at)

gone_shift : (line : List Entry) (i : ℕ) (s : Standing) → Restands line i s → AllGone line → ⊥
gone_shift line i Ready (Put d actor at is) a = waits line i d a at (ap is_kept is)
gone_shift line i Batched (Move h) a = waits line i h.e a h.here (ring_rank h.e.stands h.passes).2
gone_shift line i (Out other) (Leave fate h) a = waits line i h.e a h.here (ap is_kept (batch_is h.e.stands h.passes))
gone_shift line i Cut (CutOff d at is) a = waits line i d a at (ring_rank d.stands is).2
gone_shift line i (Claimed actor) how a = elim how [ ]

or_left : (a b : Bool) → (a || b) ≡ false → a ≡ false
or_left true b e = absurd (true≢false e)
or_left false b e = refl

course_gone : (f g : File) → Course f g → f.shut ≡ true → AllGone f.line → AllGone g.line
course_gone f g (Grows actor name epoch len unshut spent full is) shut a = absurd (true≢false (sym shut ∙ or_left _ _ unshut))
course_gone f g (Shifts i s hand how room is) shut a = absurd (gone_shift f.line i s how a)
course_gone f g (Fills hand none is) shut a =
    subst (λ (h : File). AllGone h.line) is
    (filled_keeps AllGone (λ line i front q. absurd (gone_shift line i Batched (Move front) q)) 64 f.line a)
course_gone f g (Opens was empty is) shut a = subst (λ (h : File). AllGone h.line) is a
course_gone f g (Resizes capacity is) shut a = subst (λ (h : File). AllGone h.line) is a
course_gone f g (Rests line first epoch capacity) shut a = subst AllGone (sym line) a

-- ---- a gate that is shut was shut, or is shut now

moved_shut : (f g : File) (s : Standing) (o : Option ℕ) → moves_to s f o ≡ Some g → g.shut ≡ f.shut
moved_shut f g s None e = absurd (cc (e))
moved_shut f g s (Some i) e = ap (λ (h : File). h.shut) (sym (some_same _ g e))

shut_before : (c : Change) (f g : File) → changed c f ≡ Some g → g.shut ≡ true → (c ≡ Shuts) ⊎ (f.shut ≡ true)
shut_before Shuts f g e shut = inl refl
shut_before (Claims actor name epoch len) f g e shut = let o = only_some _ _ g e in inr (ap (λ (h : File). h.shut) o.1 ∙ shut)
shut_before (Puts actor place) f g e shut =
    let t = then_some (slice_get f.line (place - f.first)) _ g e in let o = only_some _ _ g t.2 in inr (ap (λ (h : File). h.shut) o.1 ∙ shut)
shut_before Moves f g e shut = let i = if_some _ _ g e in inr (sym (moved_shut f g Batched (ready_front f.line) i.1) ∙ shut)
shut_before (Takes vhost) f g e shut = let o = only_some _ _ g e in inr (ap (λ (h : File). h.shut) o.1 ∙ shut)
shut_before (PutsBack vhost) f g e shut = let o = only_some _ _ g e in inr (ap (λ (h : File). h.shut) o.1 ∙ shut)
shut_before (Leaves worker fate) f g e shut =
    let i = if_some (may_leave worker f) _ g e in
    inr (sym (moved_shut (record f { hand = None }) g (Out fate) (first_that in_batch f.line) i.1) ∙ shut)
shut_before Reopens f g e shut = let o = only_some _ _ g e in absurd (true≢false (sym shut ∙ ap (λ (h : File). h.shut) (sym o.1)))
shut_before (Sizes capacity) f g e shut = let o = only_some _ _ g e in inr (ap (λ (h : File). h.shut) o.1 ∙ shut)
shut_before Cuts f g e shut = let i = if_some _ _ g e in inr (sym (moved_shut f g Cut (last_that in_ring f.line) i.1) ∙ shut)
shut_before (Owned owner) f g e shut = let o = only_some _ _ g e in inr (ap (λ (h : File). h.shut) o.1 ∙ shut)

-- ---- an actor that is emptying a file

abbrev pub Emptier : List Actor → ℕ → Type 0
Emptier actors file = (i : ℕ) × (a : Actor) × (version : ℕ) × (slice_get actors i ≡ Some a) × (a.doing ≡ Purges file version)

purging : (file : ℕ) (d : Doing) → is_purging file d ≡ true → (version : ℕ) × (d ≡ Purges file version)
purging file (Purges other version) e =
    (version, ⊎_elim (λ t. ap (λ (n : ℕ). Purges n version) t.1) (λ t. absurd (true≢false (sym e ∙ t.0))) (eqb_tells other file))
purging file d e = absurd (true≢false (sym e))

pub any_is : (file : ℕ) (actors : List Actor) → list_any (λ (a : Actor). is_purging file a.doing) actors ≡ true → Emptier actors file
any_is file [] e = absurd (true≢false (sym e))
any_is file (x ∷ xs) e = go (is_purging file x.doing) refl e (any_is file xs)
  where
    go : (b : Bool) → is_purging file x.doing ≡ b → (b || list_any (λ (a : Actor). is_purging file a.doing) xs) ≡ true
        → (list_any (λ (a : Actor). is_purging file a.doing) xs ≡ true → Emptier xs file) → Emptier (x ∷ xs) file
    go true is h rest = let p = purging file x.doing is in (0, x, p.0, refl, p.1)
    go false is h rest = let r = rest h in (suc r.0, r.1, r.2, r.3, r.4)

any_of : (file : ℕ) (actors : List Actor) (i : ℕ) (a : Actor) (version : ℕ) → slice_get actors i ≡ Some a → a.doing ≡ Purges file version
    → list_any (λ (x : Actor). is_purging file x.doing) actors ≡ true
any_of file [] i a version at is = absurd (cc (at))
any_of file (x ∷ xs) zero a version at is =
    let here : is_purging file x.doing ≡ true = ap (λ (y : Actor). is_purging file y.doing) (some_same x a at) ∙ ap (is_purging file) is
    ∙ ⊎_elim (λ t. t.0) (λ t. absurd (t.1 refl)) (eqb_tells file file) in
    ap (λ (b : Bool). b || list_any (λ (y : Actor). is_purging file y.doing) xs) here
any_of file (x ∷ xs) (suc i) a version at is = go (is_purging file x.doing) (any_of file xs i a version at is)
  where
    go : (b : Bool) → list_any (λ (y : Actor). is_purging file y.doing) xs ≡ true → (b || list_any (λ (y : Actor). is_purging file y.doing) xs) ≡ true
    go true h = refl
    go false h = h

-- it goes on emptying
abbrev IsStay : Onward → Type 0
IsStay (Stays f) = Unit {0}
IsStay o = ⊥

abbrev AllStay : Option Effect → Type 0
AllStay o = WhereSome (λ (r : Effect). IsStay r.onward) o

purge_stays : (s : Setup) (w : World) (x : Event) (u : World) (t : IsStep s w x u) (file version : ℕ) → t.actor.doing ≡ Purges file version → IsStay t.effect.onward
purge_stays s w x u t file version doing =
    let P : Effect → Type 0 = λ r. IsStay r.onward in
    let a : Actor = record { seen = t.actor.seen; script = t.actor.script; doing = Purges file version } in
    let next : is_kind x.kind (next_kind w (Purges file version) t.now.command) ≡ true =
    subst (λ (d : Doing). is_kind x.kind (next_kind w d t.now.command) ≡ true) doing t.next in
    let made : row s w x.kind x.actor a t.now.number t.now.command ≡ Some t.effect =
    subst (λ (d : Doing). row s w x.kind x.actor (record { seen = t.actor.seen; script = t.actor.script; doing = d }) t.now.number t.now.command ≡ Some t.effect) doing t.is_row in
    let all : AllStay (row s w x.kind x.actor a t.now.number t.now.command) =
    at_file_kind (λ (k : EventKind). AllStay (row s w k x.actor a t.now.number t.now.command)) (at w.files file) purge_next x.kind next
    (λ f. either (λ (k : EventKind). AllStay (row s w k x.actor a t.now.number t.now.command)) (has_batch f) event.Out event.Move
    (or_else P (ring.leaves s w t.actor.seen (Purges file version)) (tx_turns.turns w x.actor t.now.number t.actor.seen (Purges file version) t.now.command)
    (where_then P (at w.files file) _ (λ g e1. where_then P (ring.name_at g.line (first_that in_batch g.line)) _ (λ y e2. tt)))
    (turning P w t.now.command (tx_turns.goes_on w x.actor t.actor.seen (Purges file version)) (λ vhost v m. tt)))
    (where_then P (at w.files file) _ (λ g e1. where_then P (ring.name_at g.line (ready_front g.line)) _ (λ y e2. tt)))) in
    where_some P _ t.effect all made

stay_same : (o : Onward) (a : Actor) → IsStay o → actor_after o a ≡ a
stay_same (Stays f) a h = refl
stay_same (Goes seen d f) a h = absurd h
stay_same (Ends seen y) a h = absurd h

emptier_on : (s : Setup) (w : World) (x : Event) (u : World) (t : IsStep s w x u) (file : ℕ) → Emptier w.actors file → Emptier t.between.actors file
emptier_on s w x u t file h =
    let actors = effect_actors t.effect x.actor t.actor x.command w t.between t.made in
    ⊎_elim
    (λ same.
    let mine : t.actor ≡ h.1 = some_same t.actor h.1 (sym t.found ∙ ap (slice_get w.actors) same.0 ∙ h.3) in
    let stay = purge_stays s w x u t file h.2 (ap (λ (q : Actor). q.doing) mine ∙ h.4) in (
      h.0,
      actor_after t.effect.onward t.actor,
      h.2,
      ap (λ (q : List Actor). slice_get q h.0) actors ∙ same.1,
      ap (λ (q : Actor). q.doing) (stay_same t.effect.onward t.actor stay ∙ mine) ∙ h.4,
    ))
    (λ other. (h.0, h.1, h.2, ap (λ (q : List Actor). slice_get q h.0) actors ∙ other.1, h.4))
    (with_nth_get x.actor (actor_after t.effect.onward t.actor) w.actors h.0 h.1 h.3)

-- ---- the law

abbrev Either : World → ℕ → File → Type 0
Either w file f = (AllGone f.line) ⊎ Emptier w.actors file

either_of : (w : World) (file : ℕ) (f : File) → IsEmptyWhenShut w file f → f.shut ≡ true → Either w file f
either_of w file f h shut = ⊎_elim (λ e. inl (empty_is f e)) (λ e. inr (any_is file w.actors e)) (h shut)

shut_here : (s : Setup) (w : World) (x : Event) (u : World) (t : IsStep s w x u) (file : ℕ) (c : Change) (f g : File) → t.effect.files ≡ OnFile file c
    → changed c f ≡ Some g → IsEmptyWhenShut w file f → g.shut ≡ true → Either t.between file g
shut_here s w x u t file c f g is e h shut = ⊎_elim
    (λ now.
    let by : ClaimsBy w x.actor (OnFile file Shuts) t.effect.onward =
    subst (λ (o : OnFiles). ClaimsBy w x.actor o t.effect.onward) (is ∙ ap (OnFile file) now)
    (where_some (Claiming w x.actor) _ t.effect (row_claims s w x.kind x.actor t.actor t.now.number t.now.command) t.is_row) in
    ⊎_elim
    (λ mine. inr (
      x.actor,
      actor_after t.effect.onward t.actor,
      by.1,
      ap (λ (q : List Actor). slice_get q x.actor) (effect_actors t.effect x.actor t.actor x.command w t.between t.made) ∙ mine.1,
      ap (λ (o : Onward). (actor_after o t.actor).doing) by.3,
    ))
    (λ other. absurd (other.0 refl))
    (with_nth_get x.actor (actor_after t.effect.onward t.actor) w.actors x.actor t.actor t.found))
    (λ was. ⊎_elim (λ a. inl (course_gone f g (course c f g e) was a)) (λ p. inr (emptier_on s w x u t file p)) (either_of w file f h was))
    (shut_before c f g e shut)

shut_between : (s : Setup) (w : World) (x : Event) (u : World) (t : IsStep s w x u) → EachFile w (IsEmptyWhenShut w) → (o : OnFiles) → t.effect.files ≡ o
    → files_after o w.files ≡ Some t.between.files → (file : ℕ) (g : File) → at t.between.files file ≡ Some g → g.shut ≡ true → Either t.between file g
shut_between s w x u t each NoFile is after file g at_ shut =
    let was = each file g (ap (λ (q : List (Option File)). at q file) (some_same w.files t.between.files after) ∙ at_) in
    ⊎_elim (λ a. inl a) (λ p. inr (emptier_on s w x u t file p)) (either_of w file g was shut)
shut_between s w x u t each (OnFile file0 c) is after file g at_ shut =
    let f = then_some (at w.files file0) _ t.between.files after in
    let h = then_some (changed c f.0) _ t.between.files f.2 in
    let files : with_at file0 h.0 w.files ≡ t.between.files = some_same _ t.between.files h.2 in
    ⊎_elim
    (λ same. subst (λ (n : ℕ). Either t.between n g) same.0 (subst (λ (q : File). Either t.between file0 q) same.1
    (shut_here s w x u t file0 c f.0 h.0 is h.1 (each file0 f.0 f.1) (ap (λ (q : File). q.shut) same.1 ∙ shut))))
    (λ other. ⊎_elim (λ a. inl a) (λ p. inr (emptier_on s w x u t file p)) (either_of w file g (each file g other.1) shut))
    (with_at_inv file0 h.0 w.files file g (ap (λ (q : List (Option File)). at q file) files ∙ at_))

told : (w : World) (file : ℕ) (f : File) → Either w file f → (is_empty f ≡ true) ⊎ (list_any (λ (a : Actor). is_purging file a.doing) w.actors ≡ true)
told w file f h = ⊎_elim (λ a. inl (is_empty_of f a)) (λ p. inr (any_of file w.actors p.0 p.1 p.2 p.3 p.4)) h

pub shut_is_kept : (s : Setup) (w : World) (x : Event) (u : World × Heard) → step s w x ≡ Some u
    → EachFile w (IsEmptyWhenShut w) → EachFile u.0 (IsEmptyWhenShut u.0)
shut_is_kept s w x u e each =
    let t = step_is s w x u e in
    let between = shut_between s w x u.0 t each t.effect.files refl (effect_files t.effect x.actor t.actor x.command w t.between t.made) in
    subst (λ (q : World). EachFile q (IsEmptyWhenShut q)) t.is
    (when_settled (λ (q : World). EachFile q (IsEmptyWhenShut q)) t.between (λ file g at_ shut. told t.between file g (between file g at_ shut))
    (λ f end file g at_ shut. ⊎_elim (λ a. inl (is_empty_of g a))
    (λ p. ⊎_elim
    (λ same.
    let mine : f.state ≡ p.1 = some_same f.state p.1 (sym end.found ∙ ap (slice_get t.between.actors) same.0 ∙ p.3) in
    let two : Purges end.file f.version ≡ Purges file p.2 = sym end.doing ∙ ap (λ (q : Actor). q.doing) mine ∙ p.4 in
    let number : end.file ≡ file = ap (λ (d : Doing). file_of d) two in
    let it : end.f ≡ g = some_same end.f g (sym end.at ∙ ap (at t.between.files) number ∙ at_) in
    inl (ap (λ (q : File). is_empty q) (sym it) ∙ end.empty))
    (λ other. inr (any_of file _ p.0 p.1 p.2 other.1 p.4))
    (with_nth_get f.actor (record f.state { script = drop 1 f.state.script; doing = Begun }) t.between.actors p.0 p.1 p.3))
    (between file g at_ shut)))
  where
    file_of : Doing → ℕ
    file_of (Purges file version) = file
    file_of d = 0
