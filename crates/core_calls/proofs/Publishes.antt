-- Publications of backends, and the end of their commands.
use Rattle.std.proofs.Common.{◌≡◌, ℕ, ◌+◌, [], ◌∷◌, length, Bool, true, false, Some, None, refl, sym, ap, ◌∙◌, subst}
use Rattle.std.specs.Prelude.{if◌then◌else◌, ◌==◌, IfOk, Result, Ok, Err}
use Rattle.std.specs.Option.{option_map_or}
use Rattle.scen_words.specs.declared.command.Command.{Command}
use Rattle.scen_words.specs.declared.command.Command.TheVariants as command
use Rattle.tap_guests.specs.Side.{Side}
use Rattle.tap_ground.specs.Options.{only_if}
use Rattle.tap_lines.specs.Told.{told_more}
use Rattle.tap_sound.proofs.Taken.{both}
use Rattle.tap_steer.specs.Rules.{refuse}
use Rattle.tap_steer.specs.declared.operation.Op.{Op}
use Rattle.tap_steer.specs.declared.operation.Op.TheVariants as op
use Rattle.tap_trace.specs.declared.answer.Answer.TheVariants as answer
use Rattle.tap_world.specs.declared.event.EventKind.{EventKind}
use Rattle.tap_world.specs.declared.event.EventKind.TheVariants as event
use Rattle.tap_world.specs.declared.event.Found.TheVariants as found
use Rattle.tap_world.specs.declared.told.Published.{Published}
use Rattle.tap_world.specs.ByNumber.{at}
use Rattle.tap_world.specs.Effect as world
use Rattle.tap_world.specs.Effect.{Effect, only}
use Rattle.tap_world.specs.Guests.{is_ring}
use Rattle.tap_world.specs.Setup.{opening_table}
use Rattle.tap_world.specs.SoundActors.{can_be}
use Rattle.tap_world.specs.Steady.{backs_by}
use Rattle.tap_world.specs.Step.{row}
use Rattle.tap_world.specs.StepBackend.{back_over, side_of}
use Rattle.tap_world.specs.World as come
use Rattle.core_shared.specs.Asking.{Asking, setup}
use Rattle.core_shared.specs.Coming.{come_of}
use Rattle.core_shared.specs.Did.{Did, HasEffect}
use Rattle.core_shared.specs.MayDo.{MayDo, actor_at}
use Rattle.core_shared.specs.Suiting.{HasNoWorker}
use Rattle.core_shared.specs.Worlds.{world_in}
use Rattle.core_shared.specs.declared.doing.Doing.{Doing}
use Rattle.core_shared.specs.declared.doing.Doing.TheVariants as doing
use Rattle.core_shared.specs.declared.onward.Onward.TheVariants as on
use Rattle.core_shared.specs.declared.shared.Shared.{Shared}
use Rattle.core_calls.specs.Turned.{turned}
use Rattle.core_shared.proofs.Knowing.{can_be_now}
use Rattle.core_shared.proofs.Leaving.{no_more, table_more, turns_same}
use Rattle.core_shared.proofs.Named.{lawful_now}
use Rattle.core_calls.proofs.Facts.{held}
use Rattle.core_calls.proofs.Holding.{turned_lies, turned_stay, turned_vhosts}
use Rattle.core_calls.proofs.Poking.{bare}

-- the operation as the command publishes it, and the version that it makes
abbrev pub published : Asking → Shared → Op → Published
published a x p = record { phase = x.phase; actor = a.actor; command = a.number; op = p }

abbrev pub next : Shared → ℕ
next x = length x.ops.ops + 1

-- the command ends with its publication
abbrev over : Shared → ℕ → ℕ → Op → Effect
over x vhost ring p = record (back_over (bare x) (next x) vhost ring (next x)) { ops = p ∷ [] }

over_did :
    {a : Asking} {d : Doing} {kind₀ : EventKind} {x : Shared} (m : MayDo a d kind₀ x) (vhost ring : ℕ) (v : Side) (p : Op)
    → at x.vhosts vhost ≡ Some v
    → HasEffect a (come_of x.vhosts d) event.Publish x (over x vhost ring p)
    → Did a d event.Publish x
    (record x { ops = told_more (published a x p) x.ops; vhosts = turned vhost ring None x.vhosts; writer = None })
    (on.Ends (next x) (answer.Version (next x)))
over_did {a} {d} {kind₀} {x} m vhost ring v p is has = record {
  effect = over x vhost ring p;
  has = has;
  left = record {
    ops = refl;
    files = refl;
    guests = refl;
    vhosts = turned_vhosts vhost ring None x.vhosts;
    hosted = no_more x.hosted.items;
    dropped = no_more x.dropped.items;
    writer = refl;
    phase = refl;
  };
  onward = refl;
  held = record {
    table = table_more (opening_table (setup a)) (published a x p) x.ops m.held.table;
    frames = m.held.frames;
    vhosts = turned_lies vhost ring None x.vhosts v is x.guests m.held.vhosts;
  };
  suits = tt;
  stay = turned_stay vhost ring None x.vhosts v is a.actor;
}

if_true : {A : Type 0} (b : Bool) (r q : A) → b ≡ true → (if b then r else q) ≡ r
if_true true r q e = refl
if_true false r q e = absurd (cc (e))

if_false : {A : Type 0} (b : Bool) (r q : A) → b ≡ false → (if b then r else q) ≡ q
if_false false r q e = refl
if_false true r q e = absurd (cc (e))

pub then_ok : {A E : Type 0} (r : Result A E) (P Q : A → Type 0) → ((x : A) → P x → Q x) → IfOk r P → IfOk r Q
then_ok (Ok x) P Q more h = more x h
then_ok (Err e) P Q more h = tt

-- ---- one that was set

module _ {a : Asking} {kind₀ : EventKind} {x : Shared} (vhost ring file : ℕ) where
  pub ring_of_back : MayDo a (doing.Backed vhost ring file) kind₀ x → is_ring ring ≡ true
  ring_of_back m =
      (both (file == file) (is_ring ring) (sym (ap (λ (c : Command). can_be (come.Doing.Backed file) c) m.suits.0) ∙ can_be_now m)).1

  pub lawful_back : MayDo a (doing.Backed vhost ring file) kind₀ x
      → refuse x.ops.table (op.Back file (side_of ring) (Some vhost)) ≡ None
  lawful_back m = lawful_now m (op.Back file (side_of ring) (Some vhost)) refl
      (ap (λ (c : Command). backs_by c) m.suits.0
      ∙ ap (λ (b : Bool). only_if b (op.Back file (side_of ring) (Some vhost))) (ring_of_back m))

-- a transmit ring's backend
pub backed_did :
    {a : Asking} {kind₀ : EventKind} {x : Shared} (vhost ring file : ℕ) (m : MayDo a (doing.Backed vhost ring file) kind₀ x)
    (v : Side) → (ring == 0) ≡ false → at x.vhosts vhost ≡ Some v
    → Did a (doing.Backed vhost ring file) event.Publish x
    (record x {
      ops = told_more (published a x (op.Back file (side_of ring) (Some vhost))) x.ops;
      vhosts = turned vhost ring None x.vhosts;
      writer = None;
    })
    (on.Ends (next x) (answer.Version (next x)))
backed_did {a} {kind₀} {x} vhost ring file m v tx is =
    let p = op.Back file (side_of ring) (Some vhost) in
    over_did m vhost ring v p is (record {
      is_next = λ actors said. refl;
      is_row = λ actors said rest.
          let w = world_in x actors said in
          let goes : Effect = record (only (world.Onward.Goes (next x) (come.Doing.Owns file (next x)) (found.Version (next x))) w) { ops = p ∷ [] } in
          ap (λ (c : Command). row (setup a) w event.Publish a.actor (actor_at a (come.Doing.Backed file) rest) a.number c) m.suits.0
          ∙ if_true (option_map_or (λ (k : ℕ). k == a.actor) x.writer false) (Some (if ring == 0 then goes else over x vhost ring p)) None (held m refl)
          ∙ ap (λ (r : Effect). Some r) (if_false (ring == 0) goes (over x vhost ring p) tx);
    })

-- a receive ring's
pub goes_did :
    {a : Asking} {kind₀ : EventKind} {x : Shared} (vhost ring file : ℕ) (m : MayDo a (doing.Backed vhost ring file) kind₀ x)
    → ring ≡ 0 → (ring == 0) ≡ true
    → Did a (doing.Backed vhost ring file) event.Publish x
    (record x { ops = told_more (published a x (op.Back file (side_of ring) (Some vhost))) x.ops })
    (on.Goes (next x) (doing.Owns vhost file (next x)) (found.Version (next x)))
goes_did {a} {kind₀} {x} vhost ring file m zero_ rx =
    let p = op.Back file (side_of ring) (Some vhost) in
    let goes : Effect = record (only (world.Onward.Goes (next x) (come.Doing.Owns file (next x)) (found.Version (next x))) (bare x)) { ops = p ∷ [] } in
    record {
      effect = goes;
      has = record {
        is_next = λ actors said. refl;
        is_row = λ actors said rest.
            let w = world_in x actors said in
            ap (λ (c : Command). row (setup a) w event.Publish a.actor (actor_at a (come.Doing.Backed file) rest) a.number c) m.suits.0
            ∙ if_true (option_map_or (λ (k : ℕ). k == a.actor) x.writer false) (Some (if ring == 0 then goes else over x vhost ring p)) None (held m refl)
            ∙ ap (λ (r : Effect). Some r) (if_true (ring == 0) goes (over x vhost ring p) rx);
      };
      left = record {
        ops = refl;
        files = refl;
        guests = refl;
        vhosts = refl;
        hosted = no_more x.hosted.items;
        dropped = no_more x.dropped.items;
        writer = refl;
        phase = refl;
      };
      onward = refl;
      held = record { table = table_more (opening_table (setup a)) (published a x p) x.ops m.held.table; frames = m.held.frames; vhosts = m.held.vhosts };
      suits = (
        m.suits.0 ∙ ap (λ (r : ℕ). command.Backend vhost r (Some file)) zero_,
        subst (λ (r : ℕ). HasNoWorker x.vhosts vhost r) zero_ m.suits.1,
      );
      stay = turns_same a.actor x.vhosts;
    }

pub disowned_did :
    {a : Asking} {kind₀ : EventKind} {x : Shared} (vhost file : ℕ) (m : MayDo a (doing.Disowned vhost file) kind₀ x)
    (v : Side) → at x.vhosts vhost ≡ Some v
    → Did a (doing.Disowned vhost file) event.Publish x
    (record x {
      ops = told_more (published a x (op.Back file (side_of 0) None)) x.ops;
      vhosts = turned vhost 0 None x.vhosts;
      writer = None;
    })
    (on.Ends (next x) (answer.Version (next x)))
disowned_did {a} {kind₀} {x} vhost file m v is =
    let p = op.Back file (side_of 0) None in
    over_did m vhost 0 v p is (record {
      is_next = λ actors said. refl;
      is_row = λ actors said rest.
          ap (λ (c : Command). row (setup a) (world_in x actors said) event.Publish a.actor (actor_at a (come.Doing.Disowned file) rest) a.number c) m.suits.0
          ∙ if_true (option_map_or (λ (k : ℕ). k == a.actor) x.writer false) (Some (over x vhost 0 p)) None (held m refl);
    })

pub released_did :
    {a : Asking} {kind₀ : EventKind} {x : Shared} (vhost file : ℕ) (m : MayDo a (doing.Released vhost file) kind₀ x)
    (v : Side) → at x.vhosts vhost ≡ Some v
    → Did a (doing.Released vhost file) event.Publish x
    (record x {
      ops = told_more (published a x (op.Back file (side_of 1) None)) x.ops;
      vhosts = turned vhost 1 None x.vhosts;
      writer = None;
    })
    (on.Ends (next x) (answer.Version (next x)))
released_did {a} {kind₀} {x} vhost file m v is =
    let p = op.Back file (side_of 1) None in
    over_did m vhost 1 v p is (record {
      is_next = λ actors said. refl;
      is_row = λ actors said rest.
          ap (λ (c : Command). row (setup a) (world_in x actors said) event.Publish a.actor (actor_at a (come.Doing.Released file) rest) a.number c) m.suits.0
          ∙ if_true (option_map_or (λ (k : ℕ). k == a.actor) x.writer false) (Some (over x vhost 1 p)) None (held m refl);
    })
