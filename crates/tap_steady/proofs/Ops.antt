-- This project's own: each operation stays that of a command of its phase, and was lawful.
use Rattle.std.proofs.Common.{◌≡◌, ◌⊎◌, ℕ, ◌+◌, ◌<◌, ◌≤◌, List, [], ◌∷◌, ◌++◌, length, true, Some, None, inl, inr, ⊎_elim, sym, ap, ◌∙◌, subst, true≢false, arith, length-append}
use Rattle.std.specs.Prelude.{drop, slice_get}
use Rattle.std.specs.List.{AllByRecursion}
use Rattle.tap_steer.specs.declared.operation.Op.{Op}
use Rattle.tap_steer.specs.Rules.{refuse}
use Rattle.scen_text.specs.declared.scenario.Phase.{Phase}
use Rattle.scen_text.specs.declared.scenario.Scenario.{Scenario}
use Rattle.tap_world.specs.declared.event.Event.{Event}
use Rattle.tap_world.specs.declared.told.Published.{Published}
use Rattle.tap_world.specs.ByNumber.{with_nth}
use Rattle.tap_world.specs.Setup.{Numbered, Setup, opening_table, script_in, setup_of}
use Rattle.tap_world.specs.World.{Actor, Doing, World, table}
use Rattle.tap_world.specs.World.Doing.{Begun}
use Rattle.tap_world.specs.Effect.{Onward, actor_after, ended}
use Rattle.tap_world.specs.Effect.Onward.{Ends, Goes, Stays}
use Rattle.tap_world.specs.Each.{EachActor}
use Rattle.tap_world.specs.Runs.{begins}
use Rattle.tap_world.specs.Sound.{HaveActors, holds}
use Rattle.tap_world.specs.SoundActors.{CanBe}
use Rattle.tap_world.specs.Steady.{AreOperations, IsPublished, IsSteady, IsStillLawful, PhasesRise, to_publish}
use Rattle.tap_sound.proofs.Kept.{effect_ops}
use Rattle.tap_sound.proofs.Kit.{some_same, where_some}
use Rattle.tap_sound.proofs.Held.{can_here, shape_here}
use Rattle.tap_sound.proofs.Scripts.{effect_actors}
use Rattle.tap_sound.proofs.Taken.{IsStep, step_is, when_settled, with_nth_get}
use Rattle.tap_sound.proofs.Views.{Is, View, view}
use Rattle.tap_sound.proofs.Views.View.{Aside, Begins, Closes, Within}
use Rattle.tap_sound.proofs.Writers.{doing_after}
use Rattle.tap_steady.specs.Part.{IsBetween, IsPart}
use Rattle.tap_steady.proofs.Kit.{all_more, all_on, effect_phase}
use Rattle.tap_steady.proofs.LawfulKit.{published, with_none}
use Rattle.tap_steady.proofs.OpsLists.{EachLawful, all_both, at_end, lawful_more, rise_more, shorter}
use Rattle.tap_steady.proofs.OpsRows.{row_told}
use Rattle.tap_steady.proofs.OpsTold.{IsOne, Told}

-- ---- what an event leaves

-- what the row of an event tells
pub told_here : (s : Setup) (w : World) (x : Event) (u : World) (t : IsStep s w x u) → EachActor w (λ actor a. CanBe a)
    → Told s w t.actor.seen t.actor.doing t.now.command t.effect
told_here s w x u t stand = where_some (Told s w t.actor.seen t.actor.doing t.now.command) _ t.effect
    (row_told s w x.kind x.actor t.actor t.now.number t.now.command t.next (can_here s w x u t stand)) t.is_row

-- an actor is there after an event, and has no more commands left
abbrev pub HasNoMore : ℕ → Actor → World → Type 0
HasNoMore i a u = (b : Actor) × (slice_get u.actors i ≡ Some b) × (length b.script ≤ length a.script)

after_no_more : (o : Onward) (a : Actor) → length (actor_after o a).script ≤ length a.script
after_no_more (Goes v e f) a = omega arith
after_no_more (Ends v y) a = shorter a.script
after_no_more (Stays f) a = omega arith

pub no_more : (s : Setup) (w : World) (x : Event) (u : World) (t : IsStep s w x u) (i : ℕ) (a : Actor)
    → slice_get w.actors i ≡ Some a → HasNoMore i a u
no_more s w x u t i a at_ = subst (HasNoMore i a) t.is (when_settled (HasNoMore i a) t.between between (λ f end. ⊎_elim
    (λ same.
    let mine : f.state ≡ between.0 = some_same f.state between.0 (sym end.found ∙ ap (slice_get t.between.actors) same.0
    ∙ between.1) in
    let less = shorter f.state.script in
    let is = ap (λ (q : Actor). length q.script) mine in
    let le = between.2 in
    (record f.state { script = drop 1 f.state.script; doing = Begun }, same.1, omega (arith, less, is, le)))
    (λ other. (between.0, other.1, between.2))
    (with_nth_get f.actor
    (record f.state { script = drop 1 f.state.script; doing = Begun }) t.between.actors i between.0 between.1)))
  where
    actors : t.between.actors ≡ with_nth x.actor (actor_after t.effect.onward t.actor) w.actors
    actors = effect_actors t.effect x.actor t.actor x.command w t.between t.made

    between : HasNoMore i a t.between
    between = ⊎_elim
        (λ same.
        let mine : t.actor ≡ a = some_same t.actor a (sym t.found ∙ ap (slice_get w.actors) same.0 ∙ at_) in (
          actor_after t.effect.onward t.actor,
          ap (λ (q : List Actor). slice_get q i) actors ∙ same.1,
          subst (λ (q : Actor). length (actor_after t.effect.onward t.actor).script ≤ length q.script) mine
              (after_no_more t.effect.onward t.actor),
        ))
        (λ other. (a, ap (λ (q : List Actor). slice_get q i) actors ∙ other.1, omega arith))
        (with_nth_get x.actor (actor_after t.effect.onward t.actor) w.actors i a at_)

-- the phase is the same, and what is published stands behind what was
pub same_phase : (s : Setup) (w : World) (x : Event) (u : World) (t : IsStep s w x u) → u.phase ≡ w.phase
same_phase s w x u t =
    let between : t.between.phase ≡ w.phase = effect_phase t.effect x.actor t.actor x.command w t.between t.made in
    subst (λ (q : World). q.phase ≡ w.phase) t.is (when_settled (λ (q : World). q.phase ≡ w.phase) t.between between
    (λ f end. between))

pub ops_after : (s : Setup) (w : World) (x : Event) (u : World) (t : IsStep s w x u)
    → u.ops ≡ w.ops ++ published w x.actor x.command t.effect.ops
ops_after s w x u t =
    let P : World → Type 0 = λ q. q.ops ≡ w.ops ++ published w x.actor x.command t.effect.ops in
    let between : P t.between = effect_ops t.effect x.actor t.actor x.command w t.between t.made in
    subst P t.is (when_settled P t.between between (λ f end. between))

-- the command of an event is the one that holds the writer, where it holds it
pub writes_here : (s : Setup) (w : World) (x : Event) (u : World) (t : IsStep s w x u) → HaveActors w
    → holds t.actor.doing ≡ true
    → Is w t.actor.doing (Some t.now.command)
writes_here s w x u t h mine =
    go (view s w x u t (can_here s w x u t h.stand) (shape_here s w x u t h.stand) h.writer)
  where
    go : View w t.between t.actor.doing (doing_after t.effect.onward t.actor.doing) t.now.command
        → Is w t.actor.doing (Some t.now.command)
    go (Aside a b q c) = absurd (true≢false (sym mine ∙ a))
    go (Begins b i a c) = absurd (true≢false (sym mine ∙ a))
    go (Within b i a c) = b
    go (Closes b i a c) = b

-- ---- an operation of before

older : (s : Setup) (w u : World) (p : Published) → u.phase ≡ w.phase
    → ((i : ℕ) (a : Actor) → slice_get w.actors i ≡ Some a → HasNoMore i a u) → IsPublished s w p → IsPublished s u p
older s w u p same left h = record {
  phase = h.phase;
  is_phase = h.is_phase;
  index = h.index;
  command = h.command;
  is_command = h.is_command;
  number = h.number;
  op = h.op;
  so_far = λ now.
      let a = h.so_far (now ∙ same) in
      let b = left p.actor a.0 a.1 in
      let le = b.2 in
      let most = a.2 in
      (b.0, b.1, omega (arith, le, most));
}

-- ---- a new one

module _ (s : Setup) (w : World) (x : Event) (u : World) (t : IsStep s w x u) where
  abbrev pub new_op : Op → Published
  new_op y = record { phase = w.phase; actor = x.actor; command = x.command; op = y }

  new_one : (one : IsOne s w t.actor.doing t.now.command t.effect) → IsSteady s w → IsPublished s u (new_op one.x)
  new_one one steady =
      let o = steady.told.order x.actor t.actor t.found in
      let done = o.2.0 in
      record {
        phase = o.0;
        is_phase = o.1;
        index = length done;
        command = t.now;
        is_command = ap (λ (q : List Numbered). slice_get q (length done)) o.2.1 ∙ at_end done t.actor.script
            ∙ t.current_is;
        number = t.number;
        op = one.op;
        so_far = λ now.
            let b = no_more s w x u t x.actor t.actor t.found in
            let le = b.2 in
            let all : length (script_in o.0 x.actor) ≡ length done + length t.actor.script =
            ap (λ (q : List Numbered). length q) o.2.1 ∙ length-append done t.actor.script in
            (b.0, b.1, omega (arith, le, all));
      }

  new_lawful : (one : IsOne s w t.actor.doing t.now.command t.effect) → HaveActors w → IsStillLawful s w
      → refuse (table s w) one.x ≡ None
  new_lawful one h lawful = ⊎_elim
      (λ is. is)
      (λ to_be.
      let i = writes_here s w x u t h to_be.1 in
      lawful t.now.command one.x i.1 (ap (λ (d : Doing). to_publish s d t.now.command) i.0 ∙ to_be.0))
      one.lawful

  more : HaveActors w → IsSteady s w → AreOperations s u
  more h steady = go (told_here s w x u t h.stand).ops
    where
      same : u.phase ≡ w.phase
      same = same_phase s w x u t

      old : AllByRecursion (IsPublished s u) w.ops
      old = all_on (IsPublished s w) (IsPublished s u)
          (λ p is. older s w u p same (no_more s w x u t) is) w.ops steady.ops.published

      go : (t.effect.ops ≡ []) ⊎ IsOne s w t.actor.doing t.now.command t.effect → AreOperations s u
      go (inl none) =
          let is : u.ops ≡ w.ops = ops_after s w x u t
          ∙ ap (λ (l : List Op). w.ops ++ published w x.actor x.command l) none ∙ with_none w.ops in
          record {
            published = subst (AllByRecursion (IsPublished s u)) (sym is) old;
            lawful = subst (EachLawful (opening_table s)) (sym is) steady.ops.lawful;
            rise = subst PhasesRise (sym is) steady.ops.rise;
            latest = subst (λ (n : ℕ). AllByRecursion (λ (p : Published). p.phase ≤ n) u.ops) (sym same)
                (subst (AllByRecursion (λ (p : Published). p.phase ≤ w.phase)) (sym is) steady.ops.latest);
          }
      go (inr one) =
          let is : u.ops ≡ w.ops ++ new_op one.x ∷ [] = ops_after s w x u t
          ∙ ap (λ (l : List Op). w.ops ++ published w x.actor x.command l) one.is in
          record {
            published = subst (AllByRecursion (IsPublished s u)) (sym is)
                (all_more (IsPublished s u) w.ops (new_op one.x) old (new_one one steady));
            lawful = subst (EachLawful (opening_table s)) (sym is)
                (lawful_more (opening_table s) w.ops (new_op one.x) steady.ops.lawful (new_lawful one h steady.lawful));
            rise = subst PhasesRise (sym is) (rise_more w.ops (new_op one.x) steady.ops.rise steady.ops.latest);
            latest = subst (λ (n : ℕ). AllByRecursion (λ (p : Published). p.phase ≤ n) u.ops) (sym same)
                (subst (AllByRecursion (λ (p : Published). p.phase ≤ w.phase)) (sym is)
                (all_more (λ (p : Published). p.phase ≤ w.phase) w.ops (new_op one.x) steady.ops.latest (omega arith)));
          }

-- ---- a phase begins

-- each operation is of an earlier phase than the next
pub all_earlier : (s : Scenario) (ended : ℕ) (w : World) → IsBetween s ended w
    → AllByRecursion (λ (p : Published). p.phase ≤ w.phase) w.ops
    → AllByRecursion (λ (p : Published). p.phase < ended) w.ops
all_earlier s ended w between latest = ⊎_elim
    (λ first. subst (λ (q : World). AllByRecursion (λ (p : Published). p.phase < ended) q.ops) (sym first.0) tt)
    (λ next. all_on (λ (p : Published). p.phase ≤ w.phase) (λ (p : Published). p.phase < ended)
    (λ p le. omega (arith, le, next)) w.ops latest)
    between.next

at_begin : (s : Scenario) (ended : ℕ) (p : Phase) (w : World) → IsBetween s ended w → AreOperations (setup_of s) w
    → AreOperations (setup_of s) (begins ended p w)
at_begin s ended p w between h =
    let earlier = all_earlier s ended w between h.latest in
    record {
      published = all_both (IsPublished (setup_of s) w) (λ (q : Published). q.phase < ended)
          (IsPublished (setup_of s) (begins ended p w))
          (λ q is before. record {
            phase = is.phase;
            is_phase = is.is_phase;
            index = is.index;
            command = is.command;
            is_command = is.is_command;
            number = is.number;
            op = is.op;
            so_far = λ now. absurd (omega (arith, before, now));
          }) w.ops h.published earlier;
      lawful = h.lawful;
      rise = h.rise;
      latest = all_on (λ (q : Published). q.phase < ended) (λ (q : Published). q.phase ≤ ended)
          (λ q lt. omega (arith, lt)) w.ops earlier;
    }

pub operations_are_of_commands : IsPart (λ s w. AreOperations s w)
operations_are_of_commands = record {
  first = λ s laid. record {
    published = tt;
    lawful = λ i p e. absurd (cc (e));
    rise = λ i j p q le at_p at_q. absurd (cc (at_p));
    latest = tt;
  };
  begin = λ s ended p w laid between is sound steady. at_begin s ended p w between steady.ops;
  event = λ s w e u laid of_ is sound steady after.
      more (setup_of s) w e u.0 (step_is (setup_of s) w e u is) sound.sound.actors steady;
}
