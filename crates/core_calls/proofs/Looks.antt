-- The look of a backend's command.
use Rattle.std.proofs.Common.{◌≡◌, ℕ, List, length, Bool, true, false, not, Option, Some, None, refl, sym, ap, ◌∙◌, subst, true≢false}
use Rattle.std.specs.Prelude.{if◌then◌else◌, ◌&&◌, ◌||◌, IfSome, is_none}
use Rattle.scen_words.specs.Commands.{file_of}
use Rattle.scen_words.specs.declared.command.Command.{Command}
use Rattle.scen_words.specs.declared.command.Command.TheVariants as command
use Rattle.tap_ground.specs.Options.{◌>>=◌, only_if}
use Rattle.tap_guests.specs.Calls.{IsUnserved, with_vhost}
use Rattle.tap_guests.specs.Laws.{FreeIsUnserved}
use Rattle.tap_guests.specs.Side.{IsSide, Side}
use Rattle.tap_ledger.specs.declared.error.TapErr.{TapErr}
use Rattle.tap_sound.proofs.Kit.{only_some, then_some}
use Rattle.tap_sound.proofs.Taken.{both}
use Rattle.tap_steer.specs.Named.{IsFile}
use Rattle.tap_steer.specs.Table.{Table}
use Rattle.tap_world.specs.declared.event.EventKind.{EventKind}
use Rattle.tap_world.specs.declared.event.EventKind.TheVariants as event
use Rattle.tap_world.specs.declared.event.Found.TheVariants as found
use Rattle.tap_world.specs.ByNumber.{at, with_at}
use Rattle.tap_world.specs.Effect.{Effect}
use Rattle.tap_world.specs.Guests.{Vhost, is_ring, turn_of, with_turn}
use Rattle.tap_world.specs.Scripts.{next_kind}
use Rattle.tap_world.specs.Step.{row}
use Rattle.tap_world.specs.StepBackend.{back_refusal, back_seen}
use Rattle.tap_world.specs.World as come
use Rattle.tap_world.specs.World.{World, newest, table}
use Rattle.core_shared.specs.Asking.{Asking, setup}
use Rattle.core_shared.specs.Did.{Did, HasEffect, TurnsStay}
use Rattle.core_shared.specs.MayDo.{MayDo, actor_at}
use Rattle.core_shared.specs.Suiting.{HasNoWorker}
use Rattle.core_shared.specs.Worlds.{vhosts_of, world_in}
use Rattle.core_shared.specs.declared.doing.Doing.TheVariants as doing
use Rattle.core_shared.specs.declared.onward.Onward.TheVariants as on
use Rattle.core_shared.specs.declared.shared.Shared.{Shared}
use Rattle.core_calls.specs.Driven.{holding}
use Rattle.core_calls.specs.Turned.{turned}
use Rattle.core_shared.proofs.Kit.{side_at, vhost_at, with_at_same}
use Rattle.core_shared.proofs.Leaving.{VhostsLie, no_more, turns_same, vhost_left}
use Rattle.core_shared.proofs.Named.{is_file}
use Rattle.core_shared.proofs.Taking.{file_named}
use Rattle.core_calls.proofs.Facts.{no_worker, row_at}
use Rattle.core_calls.proofs.Holding.{turned_is, turned_lies, turned_none, turned_stay}
use Rattle.core_calls.proofs.Poking.{bare}

-- the writer is free, and so is the ring's turn, where there is such a ring
abbrev pub is_open : Option ℕ → ℕ → Vhost → Bool
is_open writer ring v = is_none writer && (not (is_ring ring) || is_none (turn_of ring v))

abbrev seen_by : World → Table → ℕ → ℕ → ℕ → Option ℕ → Vhost → Option Effect
seen_by w t actor vhost ring file v = only_if (is_open w.writer ring v) (back_seen w actor vhost ring v (back_refusal t vhost ring file))

-- where the command may look, its vhost is there, and what it is to hold is free
pub record IsOpen (x : Shared) (vhost ring : ℕ) : Type 0 where
  pub side : Side
  pub is_vhost : at x.vhosts vhost ≡ Some side
  pub free : is_open x.writer ring side.vhost ≡ true

pub is_looking : {a : Asking} {kind₀ : EventKind} {x : Shared} (m : MayDo a doing.Begun kind₀ x) (vhost ring : ℕ)
    (file : Option ℕ) → a.command ≡ command.Backend vhost ring file → IsOpen x vhost ring
is_looking {a} {kind₀} {x} m vhost ring file cmd =
    let w = world_in x m.actors m.said in
    let next = ap (λ (c : Command). next_kind w come.Doing.Begun c) cmd in
    let r = sym (ap (λ (c : Command). row (setup a) w event.Look a.actor (actor_at a come.Doing.Begun m.rest) a.number c) cmd)
    ∙ row_at m event.Look next in
    let v = then_some (at (vhosts_of x.vhosts) vhost) (seen_by w (table (setup a) w) a.actor vhost ring file) m.event.effect r in
    let s = side_at vhost x.vhosts v.0 v.1 in
    let free = only_some (is_open x.writer ring v.0) (back_seen w a.actor vhost ring v.0 (back_refusal (table (setup a) w) vhost ring file)) m.event.effect v.2 in
    record {
      side = s.0;
      is_vhost = s.1;
      free = ap (λ (y : Vhost). is_open x.writer ring y) s.2 ∙ free.0;
    }

-- its file is one of the table
pub file_known : {a : Asking} {kind₀ : EventKind} {x : Shared} {d : doing.the_data} (m : MayDo a d kind₀ x) (vhost ring : ℕ)
    (file : Option ℕ) → a.command ≡ command.Backend vhost ring file → IfSome file (λ f. IsFile x.ops.table f)
file_known {a} {kind₀} {x} m vhost ring None cmd = tt
file_known {a} {kind₀} {x} m vhost ring (Some file) cmd =
    is_file m file (file_named m file (ap (λ (c : Command). file_of c) cmd))

-- a ring whose turn is free has no worker
free_if : (b c : Bool) → b ≡ true → (not b || c) ≡ true → c ≡ true
free_if true c e f = f
free_if false c e f = absurd (true≢false (sym e))

pub open_unserved : FreeIsUnserved → (writer : Option ℕ) (ring : ℕ) (v : Side) → IsSide v
    → is_open writer ring v.vhost ≡ true → IsUnserved ring v
open_unserved law writer ring v side free there =
    law ring v side (free_if (is_ring ring) (is_none (turn_of ring v.vhost)) there
    (both (is_none writer) (not (is_ring ring) || is_none (turn_of ring v.vhost)) free).1)

-- ---- done

has_looked : {a : Asking} {kind₀ : EventKind} {x : Shared} (m : MayDo a doing.Begun kind₀ x) (vhost ring : ℕ)
    (file : Option ℕ) (v : Side) → a.command ≡ command.Backend vhost ring file → at x.vhosts vhost ≡ Some v
    → is_open x.writer ring v.vhost ≡ true
    → HasEffect a come.Doing.Begun event.Look x
    (back_seen (bare x) a.actor vhost ring v.vhost (back_refusal x.ops.table vhost ring file))
has_looked {a} {kind₀} {x} m vhost ring file v cmd is free = record {
  is_next = λ actors said. ap (λ (c : Command). next_kind (world_in x actors said) come.Doing.Begun c) cmd;
  is_row = λ actors said rest.
      let w = world_in x actors said in
      let t = table (setup a) w in
      ap (λ (c : Command). row (setup a) w event.Look a.actor (actor_at a come.Doing.Begun rest) a.number c) cmd
      ∙ ap (λ (o : Option Vhost). o >>= seen_by w t a.actor vhost ring file) (vhost_at vhost x.vhosts v is)
      ∙ ap (λ (b : Bool). only_if b (back_seen w a.actor vhost ring v.vhost (back_refusal t vhost ring file))) free
      ∙ ap (λ (u : Table). Some (back_seen w a.actor vhost ring v.vhost (back_refusal u vhost ring file))) (sym m.held.table);
}

module _ {a : Asking} {kind₀ : EventKind} {x : Shared} (m : MayDo a doing.Begun kind₀ x) (vhost ring : ℕ)
    (file : Option ℕ) (v : Side) (cmd : a.command ≡ command.Backend vhost ring file) (is : at x.vhosts vhost ≡ Some v)
    (free : is_open x.writer ring v.vhost ≡ true) (none : IsUnserved ring v)
  where
    -- the vhosts after it, with the turn held or as they were
    are_vhosts : (b : Bool)
        → with_at vhost (if b then with_turn ring (Some a.actor) v.vhost else v.vhost) (vhosts_of x.vhosts)
        ≡ vhosts_of (if b then turned vhost ring (Some a.actor) x.vhosts else x.vhosts)
    are_vhosts true =
        vhost_left vhost (with_vhost (with_turn ring (Some a.actor) v.vhost) v) x.vhosts
        ∙ ap vhosts_of (sym (turned_is vhost ring (Some a.actor) x.vhosts v is))
    are_vhosts false = with_at_same vhost v.vhost (vhosts_of x.vhosts) (vhost_at vhost x.vhosts v is)

    lie : (b : Bool) → VhostsLie x.guests (if b then turned vhost ring (Some a.actor) x.vhosts else x.vhosts)
    lie true = turned_lies vhost ring (Some a.actor) x.vhosts v is x.guests m.held.vhosts
    lie false = m.held.vhosts

    stay : (b : Bool) → TurnsStay a.actor x.vhosts (if b then turned vhost ring (Some a.actor) x.vhosts else x.vhosts)
    stay true = turned_stay vhost ring (Some a.actor) x.vhosts v is a.actor
    stay false = turns_same a.actor x.vhosts

    still_none : (b : Bool)
        → HasNoWorker (if b then turned vhost ring (Some a.actor) x.vhosts else x.vhosts) vhost ring
    still_none true = turned_none vhost ring (Some a.actor) x.vhosts v is vhost ring (no_worker x.vhosts vhost ring v is none)
    still_none false = no_worker x.vhosts vhost ring v is none

    looked : (r : Option TapErr) → HasEffect a come.Doing.Begun event.Look x (back_seen (bare x) a.actor vhost ring v.vhost r)
        → Did a doing.Begun event.Look x (holding r a.actor vhost ring x)
        (on.Goes (length x.ops.ops) (doing.Backs vhost ring file r) (found.Version (length x.ops.ops)))
    looked (Some r) has = record {
      effect = back_seen (bare x) a.actor vhost ring v.vhost (Some r);
      has = has;
      left = record {
        ops = no_more x.ops.ops;
        files = refl;
        guests = refl;
        vhosts = refl;
        hosted = no_more x.hosted.items;
        dropped = no_more x.dropped.items;
        writer = refl;
        phase = refl;
      };
      onward = refl;
      held = m.held;
      suits = (cmd, λ e. absurd (cc (e)));
      stay = turns_same a.actor x.vhosts;
    }
    looked None has = record {
      effect = back_seen (bare x) a.actor vhost ring v.vhost None;
      has = has;
      left = record {
        ops = no_more x.ops.ops;
        files = refl;
        guests = refl;
        vhosts = are_vhosts (is_ring ring);
        hosted = no_more x.hosted.items;
        dropped = no_more x.dropped.items;
        writer = refl;
        phase = refl;
      };
      onward = refl;
      held = record { table = m.held.table; frames = m.held.frames; vhosts = lie (is_ring ring) };
      suits = (cmd, λ e. still_none (is_ring ring));
      stay = stay (is_ring ring);
    }

    pub look_did : (n : ℕ) → n ≡ length x.ops.ops
        → Did a doing.Begun event.Look x (holding (back_refusal x.ops.table vhost ring file) a.actor vhost ring x)
        (on.Goes n (doing.Backs vhost ring file (back_refusal x.ops.table vhost ring file)) (found.Version n))
    look_did n e =
        let r = back_refusal x.ops.table vhost ring file in
        subst (λ (k : ℕ). Did a doing.Begun event.Look x (holding r a.actor vhost ring x)
        (on.Goes k (doing.Backs vhost ring file r) (found.Version k))) (sym e)
        (looked r (has_looked m vhost ring file v cmd is free))

-- what it holds leaves the operations
pub holding_ops : (r : Option TapErr) (actor vhost ring : ℕ) (x : Shared)
    → length (holding r actor vhost ring x).ops.ops ≡ length x.ops.ops
holding_ops None actor vhost ring x = refl
holding_ops (Some r) actor vhost ring x = refl
