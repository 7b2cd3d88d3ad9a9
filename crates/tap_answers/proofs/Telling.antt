-- What each answer that an event tells says, where the rows of its command say so.
use Rattle.std.proofs.Common.{◌≡◌, ◌⊎◌, ℕ, List, [], ◌∷◌, ◌++◌, length, Bool, true, Option, Some, inl, inr, ⊎_elim, refl, sym, ap, ◌∙◌, subst, true≢false}
use Rattle.std.specs.Prelude.{slice_get, IfSome}
use Rattle.std.specs.Option.{option_map_or}
use Rattle.scen_laid.specs.Laid.{IsLaid}
use Rattle.scen_laid.specs.Runs.{LaidRunsAreSound}
use Rattle.scen_text.specs.declared.scenario.Scenario.{Scenario}
use Rattle.scen_words.specs.declared.command.Command.{Command}
use Rattle.scen_words.specs.declared.command.Command.TheVariants as command
use Rattle.tap_grows.specs.Moments.{EventTells}
use Rattle.tap_grows.specs.Moments.EventTells.{OfAPurge, OfItsOwn}
use Rattle.tap_ground.specs.Options.{◌>>=◌}
use Rattle.tap_sound.specs.Fresh.{ArePhasesNumbered}
use Rattle.tap_sound.specs.Worlds.{IsWorldOf}
use Rattle.tap_sound.proofs.Kit.{only_some, some_same, then_some, where_some}
use Rattle.tap_sound.proofs.Scripts.{effect_actors}
use Rattle.tap_sound.proofs.Taken.{IsEnding, IsRow, ending_is, row_is, when_settled}
use Rattle.tap_sound.proofs.Turned.{with_nth_inv}
use Rattle.tap_steady.specs.Runs.{ReachedIsSteady}
use Rattle.tap_steer.specs.declared.operation.Op.{Op}
use Rattle.tap_trace.specs.declared.answer.Answer.{Answer}
use Rattle.tap_trace.specs.declared.answer.Answer.TheVariants as answer
use Rattle.tap_world.specs.declared.event.Event.{Event}
use Rattle.tap_world.specs.declared.event.Heard.{Heard}
use Rattle.tap_world.specs.declared.told.Published.{Published}
use Rattle.tap_world.specs.declared.told.Said.{Said}
use Rattle.tap_world.specs.Effect.{Effect, Ending, Onward, actor_after, ending, heard_by, said_after, settled, with_effect}
use Rattle.tap_world.specs.Effect.Onward.{Ends, Goes, Stays}
use Rattle.tap_world.specs.ByNumber.{with_nth}
use Rattle.tap_world.specs.Setup.{Numbered, Setup, script_in, setup_of}
use Rattle.tap_world.specs.Sound.{IsSound}
use Rattle.tap_world.specs.SoundActors.{can_be, detaches, is_begun}
use Rattle.tap_world.specs.Stands.{are_new, if_new, names_of}
use Rattle.tap_world.specs.Steady.{IsOpOf, IsPublished as WasPublished, IsSteady, version_in}
use Rattle.tap_world.specs.Step as rows
use Rattle.tap_world.specs.World.{Actor, Doing, World, current}
use Rattle.tap_world.specs.World.Doing.{Purges, Withdrawn}
use Rattle.tap_answers.specs.Laws.{Say}
use Rattle.tap_answers.specs.Says.{SaysBy, on_event}
use Rattle.tap_answers.specs.SaysOperations.{IsPublished}
use Rattle.tap_answers.specs.SaysShared.{Occasion, as_its}
use Rattle.tap_answers.proofs.Kit.{all_at, at_front}
use Rattle.tap_answers.proofs.Numbers.{phases_are, same_number}
use Rattle.tap_answers.proofs.Rows.{GoesOn, EndSays, HasPublished, IsSeen, Known, Leaves, RowSays, Says, at_doing, made_leaves, sees_known}

behind : {A : Type 0} (xs ys : List A) → slice_get (xs ++ ys) (length xs) ≡ slice_get ys 0
behind [] ys = refl
behind (x ∷ xs) ys = behind xs ys

-- ---- what is known of a command under way

module _ (s : Scenario) (w : World) (laid : IsLaid s) (sound : IsSound (setup_of s) w) (steady : IsSteady (setup_of s) w)
    (u : World) (me : ℕ) (a : Actor) (c : Numbered) (at_a : slice_get w.actors me ≡ Some a)
    (now : current a.script ≡ Some c) where
  abbrev o : Occasion
  o = at_doing w u me a.seen c.number a.doing

  published : (version : ℕ) → version_in a.doing ≡ Some version → HasPublished (setup_of s) o c.command version
  published version is =
      let f = steady.seen me a at_a in
      let k = f.its c version now is in
      let q = all_at (WasPublished (setup_of s) w) w.ops k.0 k.1 steady.ops.published k.3 in
      let t = steady.told.order me a at_a in
      let done : List Numbered = t.2.0 in
      let mine : slice_get (script_in t.0 me) (length done) ≡ Some c =
      ap (λ (l : List Numbered). slice_get l (length done)) t.2.1 ∙ behind done a.script ∙ now in
      let one = same_number (setup_of s).phases (subst (ArePhasesNumbered 0) (sym (phases_are s)) laid.numbers)
      w.phase k.1.phase t.0 q.phase t.1 q.is_phase me k.1.actor (length done) q.index c q.command mine q.is_command
      (sym k.4 ∙ sym q.number) in
      let seen : version ≡ a.seen = subst (λ (v : Option ℕ). IfSome v (λ (x : ℕ). x ≡ a.seen)) is f.published in
      record {
        seen = seen;
        index = k.0;
        op = k.1.op;
        is = k.2;
        published = k.3 ∙ (λ i. Some (record {
          phase = sym one.phase i;
          actor = sym one.actor i;
          command = k.4 i;
          op = k.1.op;
        }));
        its = subst (λ (x : Command). IsOpOf (setup_of s) x k.1.op) (sym one.command) q.op;
      }

  pub known : Known (setup_of s) o c.command
  known =
      let f = steady.seen me a at_a in
      record {
        can = sym (ap (λ (x : Option Numbered).
            option_map_or (λ (y : Numbered). can_be a.doing y.command) x (is_begun a.doing)) now)
            ∙ sound.actors.stand me a at_a;
        seen = sound.versions me a at_a;
        newest = f.newest;
        found = f.found c now;
        claim = λ file place epoch len is. steady.placed me a at_a c file place epoch len now is;
        cuts = λ other asked file places cuts is doing. steady.sized me a at_a c.number other asked file places cuts
            (now ∙ ap (λ (x : Command). Some (record { number = c.number; command = x })) is) doing;
        version = published;
        sent = steady.sent;
      }

-- ---- an event

-- the row of an event, and what it leaves
pub record IsEvent (s : Setup) (w : World) (e : Event) (u : World) (r : Effect) : Type 0 where
  pub its : IsRow s w e r
  pub left : Leaves r e.actor e.command w u
  pub between : World
  pub actors : between.actors ≡ with_nth e.actor (actor_after r.onward its.actor) w.actors
  pub settles : settled between (ending between) ≡ u

pub event_is : (s : Setup) (w : World) (e : Event) (u : World × Heard) (r : Effect) → rows.step s w e ≡ Some u
    → rows.effect s w e ≡ Some r → IsEvent s w e u.0 r
event_is s w e u r h is =
    let x = then_some (rows.effect s w e) (λ y. slice_get w.actors e.actor >>= λ a. rows.stepped y e a w) u h in
    let a = then_some (slice_get w.actors e.actor) (λ y. rows.stepped x.0 e y w) u x.2 in
    let v = then_some (with_effect x.0 e.actor a.0 e.command w)
    (λ y. Some (settled y (ending y), heard_by e.actor x.0.onward (ending y))) u a.2 in
    let q = then_some (rows.row_of s w e) (λ y. if_new w y) r is in
    let o = only_some (are_new w (names_of q.0)) q.0 r q.2 in
    let same : x.0 ≡ r = some_same x.0 r (sym x.1 ∙ is) in
    let between = made_leaves x.0 e.actor a.0 e.command w v.0 v.1 in
    let after : Leaves x.0 e.actor e.command w (settled v.0 (ending v.0)) =
    when_settled (λ (z : World). Leaves x.0 e.actor e.command w z) v.0 between (λ p end. record {
      ops = between.ops;
      files = between.files;
      vhosts = between.vhosts;
      hosted = between.hosted;
      dropped = between.dropped;
    }) in
    let row : IsRow s w e r = subst (IsRow s w e) o.1 (row_is s w e q.0 q.1) in
    record {
      its = row;
      left = subst (λ (y : Effect). Leaves y e.actor e.command w u.0) same
          (subst (λ (z : World). Leaves x.0 e.actor e.command w z)
          (ap (λ (z : World × Heard). z.0)
          (some_same (settled v.0 (ending v.0), heard_by e.actor x.0.onward (ending v.0)) u v.2)) after);
      between = v.0;
      actors = effect_actors x.0 e.actor a.0 e.command w v.0 v.1
          ∙ ap (λ (y : Effect). with_nth e.actor (actor_after y.onward a.0) w.actors) same
          ∙ ap (λ (y : Actor). with_nth e.actor (actor_after r.onward y) w.actors) (some_same a.0 row.actor (sym a.1 ∙ row.found));
      settles = ap (λ (z : World × Heard). z.0)
          (some_same (settled v.0 (ending v.0), heard_by e.actor x.0.onward (ending v.0)) u v.2);
    }

-- ---- the version of a detach

-- it has published its operation
detached : (s : Setup) (o : Occasion) (c : Command) (file version : ℕ) → detaches file c ≡ true
    → HasPublished s o c version → (more : List Published) → o.after.ops ≡ o.before.ops ++ more
    → SaysBy s o c o.known (answer.Version version)
detached s o c file version is h more left = go c is h.its
  where
    its : (x : Op) → h.op ≡ x → IsPublished o x o.known version
    its x same = record {
      is_seen = sym h.seen;
      operation = record {
        index = h.index;
        is = h.is;
        published = ap (λ (l : List Published). slice_get l h.index) left
            ∙ at_front o.before.ops more h.index _ h.published
            ∙ ap (λ (y : Op). Some (as_its o y)) same;
      };
    }

    go : (q : Command) → detaches file q ≡ true → IsOpOf s q h.op → SaysBy s o q o.known (answer.Version version)
    go (command.SetQueue other flags) d op = its _ (sym (some_same _ h.op op))
    go (command.Close other) d op = its _ (sym (some_same _ h.op op))
    go q d op = absurd (true≢false (sym d))

-- ---- an answer

abbrev pub RowsSay : (Command → Bool) → Type 0
RowsSay is_its =
    (s : Setup) (w u : World) (me low n : ℕ) (script : List Numbered) (d : Doing) (c : Command) → is_its c ≡ true
    → Says s w u me low n script d c

-- what is said, of whichever actor and command
abbrev pub SaysIt : Setup → World → World → Said → Actor → Numbered → Type 0
SaysIt s w u x a c =
    SaysBy s (on_event w u a x) c.command x.line.seen x.line.answer × IsSeen (on_event w u a x) x.line.seen

abbrev pub said_by : ℕ → ℕ → ℕ → ℕ → Answer → Said
said_by phase actor command seen x =
    record { phase = phase; line = record { actor = actor; command = command; seen = seen; answer = x } }

pub head_is : {A : Type 0} (x y : A) → x ∷ [] ≡ y ∷ [] → x ≡ y
head_is x y e = some_same x y (ap (λ (l : List _). slice_get l 0) e)

-- an answer that an onward move tells
pub record IsSaid (o : Onward) (phase actor command : ℕ) (x : Said) : Type 0 where
  pub seen : ℕ
  pub answer : Answer
  pub ends : o ≡ Ends seen answer
  pub is : said_by phase actor command seen answer ≡ x

pub said_is : (o : Onward) (phase actor command : ℕ) (x : Said) → said_after o phase actor command ≡ x ∷ []
    → IsSaid o phase actor command x
said_is (Ends seen y) phase actor command x h =
    record { seen = seen; answer = y; ends = refl; is = head_is _ x h }
said_is (Goes seen d f) phase actor command x h = absurd (cc (h))
said_is (Stays f) phase actor command x h = absurd (cc (h))

module _ (is_its : Command → Bool) (say : RowsSay is_its) (s : Scenario) (w : World) (e : Event) (u : World)
    (laid : IsLaid s) (sound : IsSound (setup_of s) w) (steady : IsSteady (setup_of s) w) (r : Effect)
    (t : IsEvent (setup_of s) w e u r) where
  abbrev a : Actor
  a = t.its.actor

  abbrev c : Numbered
  c = t.its.now

  -- what its row says
  pub row_says : is_its c.command ≡ true
      → EndSays (setup_of s) (at_doing w u e.actor a.seen e.command a.doing) c.command r.onward
  row_says is =
      subst (λ (m : ℕ). EndSays (setup_of s) (at_doing w u e.actor a.seen m a.doing) c.command r.onward) t.its.number
      (where_some (RowSays (setup_of s) (at_doing w u e.actor a.seen c.number a.doing) c.command)
      (rows.row (setup_of s) w e.kind e.actor a c.number c.command) r
      (say (setup_of s) w u e.actor a.seen c.number a.script a.doing c.command is
      (known s w laid sound steady u e.actor a c t.its.found t.its.current_is) e.kind t.its.next)
      t.its.is_row (subst (λ (m : ℕ). Leaves r e.actor m w u) (sym t.its.number) t.left))

  -- its own answer
  own : (x : Said) → said_after r.onward w.phase e.actor e.command ≡ x ∷ [] → (b : Actor) (d : Numbered)
      → slice_get w.actors x.line.actor ≡ Some b → current b.script ≡ Some d → is_its d.command ≡ true
      → SaysIt (setup_of s) w u x b d
  own x said = subst (λ (y : Said). (b : Actor) (d : Numbered) → slice_get w.actors y.line.actor ≡ Some b
      → current b.script ≡ Some d → is_its d.command ≡ true → SaysIt (setup_of s) w u y b d) q.is
      (λ b d at_b now is. mine b d (some_same a b (sym t.its.found ∙ at_b)) now is)
    where
      q : IsSaid r.onward w.phase e.actor e.command x
      q = said_is r.onward w.phase e.actor e.command x said

      here : (d : Numbered) → c ≡ d → is_its d.command ≡ true
          → SaysIt (setup_of s) w u (said_by w.phase e.actor e.command q.seen q.answer) a d
      here d same is = subst
          (λ (y : Numbered). SaysIt (setup_of s) w u (said_by w.phase e.actor e.command q.seen q.answer) a y) same
          (subst (EndSays (setup_of s) (at_doing w u e.actor a.seen e.command a.doing) c.command) q.ends
          (row_says (ap (λ (y : Numbered). is_its y.command) same ∙ is)))

      mine : (b : Actor) (d : Numbered) → a ≡ b → current b.script ≡ Some d → is_its d.command ≡ true
          → SaysIt (setup_of s) w u (said_by w.phase e.actor e.command q.seen q.answer) b d
      mine b d same now is = subst
          (λ (y : Actor). SaysIt (setup_of s) w u (said_by w.phase e.actor e.command q.seen q.answer) y d) same
          (here d (some_same c d (sym t.its.current_is
          ∙ ap (λ (y : Actor). current y.script) same ∙ now)) is)

  -- ---- the answer of a detach

  module _ (v : World) (p : Ending) (end : IsEnding v p) where
    abbrev purged : Said
    purged = said_by w.phase p.actor p.command p.state.seen (answer.Version p.version)

    -- a command that purges, or is to shut its gate
    abbrev Purging : Doing → ℕ → Type 0
    Purging d file = (d ≡ Purges file p.version) ⊎ (d ≡ Withdrawn file p.version)

    detaching : (d : Doing) (file : ℕ) (q : Command) → Purging d file → can_be d q ≡ true → detaches file q ≡ true
    detaching d file q way can = ⊎_elim
        (λ is. subst (λ (y : Doing). can_be y q ≡ true) is can)
        (λ is. subst (λ (y : Doing). can_be y q ≡ true) is can) way

    says_version : (d : Doing) (file : ℕ) → Purging d file → version_in d ≡ Some p.version
    says_version d file way = ⊎_elim (λ is. ap version_in is) (λ is. ap version_in is) way

    purge_says : (b : Actor) (d : Numbered) → slice_get w.actors p.actor ≡ Some b → current b.script ≡ Some d
        → d.number ≡ p.command → b.seen ≡ p.state.seen → Purging b.doing end.file
        → SaysIt (setup_of s) w u purged b d
    purge_says b d at_b now number seen way =
        let k = known s w laid sound steady u p.actor b d at_b now in
        let o : Occasion = at_doing w u p.actor b.seen d.number b.doing in
        let it : SaysBy (setup_of s) o d.command b.seen (answer.Version p.version) =
        detached (setup_of s) o d.command end.file p.version (detaching b.doing end.file d.command way k.can)
        (k.version p.version (says_version b.doing end.file way)) _ t.left.ops in
        let range : IsSeen o b.seen = sees_known (setup_of s) o d.command k _ t.left.ops in
        subst (λ (m : ℕ). SaysBy (setup_of s) (at_doing w u p.actor b.seen m b.doing) d.command p.state.seen
        (answer.Version p.version) × IsSeen (at_doing w u p.actor b.seen m b.doing) p.state.seen) number
        (subst (λ (z : ℕ). SaysBy (setup_of s) o d.command z (answer.Version p.version) × IsSeen o z) seen (it, range))

    -- of the event's own actor
    own_purge : actor_after r.onward a ≡ p.state → e.actor ≡ p.actor → (d : Numbered) → current a.script ≡ Some d
        → is_its d.command ≡ true → SaysIt (setup_of s) w u purged a d
    own_purge same mine d now is = go r.onward refl same
      where
        at_a : slice_get w.actors p.actor ≡ Some a
        at_a = subst (λ (m : ℕ). slice_get w.actors m ≡ Some a) mine t.its.found

        first : c ≡ d
        first = some_same c d (sym t.its.current_is ∙ now)

        number : a.script ≡ p.state.script → d.number ≡ p.command
        number script =
            ap (λ (y : Numbered). y.number) (some_same d end.now (sym now
            ∙ ap (λ (l : List Numbered). current l) script ∙ end.current_is)) ∙ end.number

        go : (q : Onward) → r.onward ≡ q → actor_after q a ≡ p.state → SaysIt (setup_of s) w u purged a d
        go (Ends seen y) ends is_state = absurd (cc (ap (λ (y : Actor). y.doing) is_state ∙ end.doing))
        go (Stays f) stays is_state = purge_says a d at_a now (number (ap (λ (y : Actor). y.script) is_state))
            (ap (λ (y : Actor). y.seen) is_state) (inl (ap (λ (y : Actor). y.doing) is_state ∙ end.doing))
        go (Goes seen on f) goes is_state =
            let shut = subst (GoesOn (at_doing w u e.actor a.seen e.command a.doing) seen)
            (ap (λ (y : Actor). y.doing) is_state ∙ end.doing)
            (subst (EndSays (setup_of s) (at_doing w u e.actor a.seen e.command a.doing) c.command) goes
            (row_says (ap (λ (y : Numbered). is_its y.command) first ∙ is))) in
            purge_says a d at_a now (number (ap (λ (y : Actor). y.script) is_state))
            (sym shut.1 ∙ ap (λ (y : Actor). y.seen) is_state) (inr shut.0)

    -- of whichever actor
    any_purge : v.actors ≡ with_nth e.actor (actor_after r.onward a) w.actors → (b : Actor) (d : Numbered)
        → slice_get w.actors p.actor ≡ Some b → current b.script ≡ Some d → is_its d.command ≡ true
        → SaysIt (setup_of s) w u purged b d
    any_purge actors b d at_b now is = ⊎_elim
        (λ mine.
        let same : a ≡ b = some_same a b (sym t.its.found ∙ ap (slice_get w.actors) mine.0 ∙ at_b) in
        subst (λ (y : Actor). SaysIt (setup_of s) w u purged y d) same
        (own_purge mine.1 mine.0 d (ap (λ (y : Actor). current y.script) same ∙ now) is))
        (λ other.
        let same : p.state ≡ b = some_same p.state b (sym other.1 ∙ at_b) in
        purge_says b d at_b now
        (ap (λ (y : Numbered). y.number) (some_same d end.now (sym now
        ∙ ap (λ (y : Actor). current y.script) (sym same) ∙ end.current_is)) ∙ end.number)
        (ap (λ (y : Actor). y.seen) (sym same)) (inl (ap (λ (y : Actor). y.doing) (sym same) ∙ end.doing)))
        (with_nth_inv e.actor (actor_after r.onward a) w.actors p.actor p.state
        (ap (λ (l : List Actor). slice_get l p.actor) (sym actors) ∙ end.found))

-- ---- in runs

-- each answer of a command of a kind whose rows say so, says what it does, and SEEN is between what was seen before and
-- what is published
pub all_say : (is_its : Command → Bool) → RowsSay is_its → LaidRunsAreSound → ReachedIsSteady
    → (s : Scenario) (w : World) (e : Event) (u : World × Heard) (x : Said) → IsLaid s → IsWorldOf s w
    → rows.step (setup_of s) w e ≡ Some u → EventTells (setup_of s) w e x → (b : Actor) (d : Numbered)
    → slice_get w.actors x.line.actor ≡ Some b → current b.script ≡ Some d → is_its d.command ≡ true
    → SaysIt (setup_of s) w u.0 x b d
all_say is_its say runs steady s w e u x laid reached h (OfItsOwn r is said) =
    own is_its say s w e u.0 laid ((runs s laid).reached w reached).sound (steady s w laid reached) r
    (event_is (setup_of s) w e u r h is) x said
all_say is_its say runs steady s w e u x laid reached h (OfAPurge r a v p is at_a made ends said) =
    let t = event_is (setup_of s) w e u r h is in
    let same : a ≡ t.its.actor = some_same a t.its.actor (sym at_a ∙ t.its.found) in
    subst (λ (y : Said). (b : Actor) (d : Numbered) → slice_get w.actors y.line.actor ≡ Some b
    → current b.script ≡ Some d → is_its d.command ≡ true → SaysIt (setup_of s) w u.0 y b d) (head_is _ x said)
    (any_purge is_its say s w e u.0 laid ((runs s laid).reached w reached).sound (steady s w laid reached) r t v p
    (ending_is v p ends)
    (effect_actors r e.actor a e.command w v made
    ∙ ap (λ (y : Actor). with_nth e.actor (actor_after r.onward y) w.actors) same))

pub say_by : (is_its : Command → Bool) → RowsSay is_its → LaidRunsAreSound → ReachedIsSteady → Say is_its
say_by is_its say runs steady s w e u x laid reached h told a now at_a is_now is =
    (all_say is_its say runs steady s w e u x laid reached h told a now at_a is_now is).0
