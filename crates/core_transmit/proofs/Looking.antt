-- This project's own: a look and a publication of a transmit turn that gave a frame to the host.
use Rattle.std.proofs.Common.{◌≡◌, ℕ, ◌+◌, ◌<◌, Bool, subst, true, false, length, [], ◌∷◌, ◌++◌, Option, Some, None, refl, sym, ap, ◌∙◌, length-append}
use Rattle.std.specs.Prelude.{if◌then◌else◌, is_none, Vec}
use Rattle.std.specs.Option.{option_map_or}
use Rattle.std.specs.declared.alloc.Global.{Global}
use Rattle.scen_words.specs.declared.command.Command.TheVariants as command
use Rattle.tap_ground.specs.Options.{only_if}
use Rattle.tap_lines.specs.Told.{told_more}
use Rattle.tap_sound.proofs.Kit.{only_some, some_same}
use Rattle.tap_steer.specs.declared.operation.Op.TheVariants as op
use Rattle.tap_steer.specs.Named.{IsNamed}
use Rattle.tap_steer.specs.Rules.{refuse}
use Rattle.tap_steer.specs.Select.{learns}
use Rattle.tap_steer.specs.Table.{Table}
use Rattle.tap_trace.specs.declared.turn.ChainText.{ChainText}
use Rattle.tap_world.specs.declared.event.EventKind.{EventKind}
use Rattle.tap_world.specs.declared.event.EventKind.TheVariants as event
use Rattle.tap_world.specs.declared.event.Found.TheVariants as found
use Rattle.tap_world.specs.declared.told.Published.{Published}
use Rattle.tap_world.specs.Effect.{Effect, Onward, only}
use Rattle.tap_world.specs.Effect.Onward.{Goes}
use Rattle.tap_world.specs.Steady.{file_in}
use Rattle.tap_world.specs.World as world
use Rattle.tap_world.specs.World.{newest, table}
use Rattle.vring_turns.specs.TxTurn.{TxTurn}
use Rattle.core_shared.specs.Asking.{Asking, setup}
use Rattle.core_shared.specs.Coming.{come_of, host_frame, tx_turn_in}
use Rattle.core_shared.specs.Did.{Did}
use Rattle.core_shared.specs.MayDo.{MayDo}
use Rattle.core_shared.specs.Suiting.{Suits}
use Rattle.core_shared.specs.Worlds.{world_in}
use Rattle.core_shared.specs.declared.doing.Doing.{Doing}
use Rattle.core_shared.specs.declared.doing.Doing.TheVariants as doing
use Rattle.core_shared.specs.declared.doing.GivenFrame.{GivenFrame}
use Rattle.core_shared.specs.declared.onward.Onward.TheVariants as on
use Rattle.core_shared.specs.declared.shared.Shared.{Shared}
use Rattle.core_shared.proofs.Kit.{there}
use Rattle.core_shared.proofs.Leaving.{held_told, same_left, told_left, turns_same}
use Rattle.core_shared.proofs.Named.{is_file, named_learn}
use Rattle.core_shared.proofs.Taking.{about_there}
use Rattle.core_transmit.proofs.Rows.{has_effect, next_is, row_is}

-- a learning is never refused
pub not_refused : (t : Table) (file hash : ℕ) → refuse t (op.Learn file hash) ≡ None
unfolding refuse
not_refused t file hash = refl

-- ---- the look

module _ {a : Asking} {vhost file : ℕ} {chains : Vec ChainText Global} {frame : GivenFrame} {kind : EventKind} {x : Shared}
    (m : MayDo a (doing.Given vhost file chains frame) kind x) where
  the_turn : (t : TxTurn) × (tx_turn_in x.vhosts vhost ≡ Some t)
  the_turn = there (tx_turn_in x.vhosts vhost) m.suits.1

  abbrev so_far : world.Doing
  so_far = world.Doing.Given file the_turn.0 chains.items (host_frame frame)

  come : come_of x.vhosts (doing.Given vhost file chains frame) ≡ so_far
  come = ap (λ (o : Option TxTurn). option_map_or (λ t. world.Doing.Given file t chains.items (host_frame frame)) o
      world.Doing.Begun) the_turn.1

  is_look : kind ≡ event.Look
  is_look = sym (some_same event.Look kind (next_is m so_far (command.TxTurn vhost) come m.suits.0))

  -- the file is the table's
  pub looked_file : file < length x.ops.table.files
  looked_file = is_file m file (about_there m file (ap (λ (d : world.Doing). file_in d) come))

  -- how it goes on, as the world says it
  abbrev next_doing : Bool → world.Doing
  next_doing b =
      if b then world.Doing.Teaches file the_turn.0 chains.items (host_frame frame)
      else world.Doing.Transmits file the_turn.0 chains.items

  abbrev looked : Effect
  looked = only (Goes (newest (world_in x [] [])) (next_doing (learns x.ops.table file))
      (found.Version (newest (world_in x [] [])))) (world_in x [] [])

  -- and as it is kept
  abbrev pub Next : Bool → Doing → Type 0
  Next b d = d ≡ (if b then doing.Teaches vhost file chains frame else doing.Transmits vhost file chains)

  next_is_so : (b : Bool) → next_doing b
      ≡ come_of x.vhosts (if b then doing.Teaches vhost file chains frame else doing.Transmits vhost file chains)
  next_is_so true = sym (ap (λ (o : Option TxTurn). option_map_or
      (λ t. world.Doing.Teaches file t chains.items (host_frame frame)) o world.Doing.Begun) the_turn.1)
  next_is_so false = sym (ap (λ (o : Option TxTurn). option_map_or
      (λ t. world.Doing.Transmits file t chains.items) o world.Doing.Begun) the_turn.1)

  next_suits : (b : Bool)
      → Suits x.vhosts a (if b then doing.Teaches vhost file chains frame else doing.Transmits vhost file chains)
  next_suits true = m.suits
  next_suits false = m.suits

  pub looks_did : (seen : ℕ) (d : Doing) → seen ≡ length x.ops.ops → Next (learns x.ops.table file) d
      → Did a (doing.Given vhost file chains frame) kind x x (on.Goes seen d (found.Version seen))
  looks_did seen d is_seen is_next =
      let n : ℕ = length x.ops.ops in
      let b : Bool = learns x.ops.table file in
      let e : Doing = if b then doing.Teaches vhost file chains frame else doing.Transmits vhost file chains in
      let done : Did a (doing.Given vhost file chains frame) kind x x (on.Goes n e (found.Version n)) = record {
        effect = looked;
        has = has_effect m so_far (command.TxTurn vhost) come m.suits.0 event.Look looked is_look
            (λ actors said. refl)
            (λ actors said rest. ap (λ (t : Table). Some (only (Goes n (next_doing (learns t file)) (found.Version n))
            (world_in x [] []))) (sym m.held.table));
        left = same_left (Goes n (next_doing b) (found.Version n)) a x [] [];
        onward = ap (λ (q : world.Doing). Goes n q (found.Version n)) (next_is_so b);
        held = m.held;
        suits = next_suits b;
        stay = turns_same a.actor x.vhosts;
      } in
      subst (λ (p : ℕ × Doing). Did a (doing.Given vhost file chains frame) kind x x (on.Goes p.0 p.1 (found.Version p.0)))
      (λ i. (sym is_seen i, sym is_next i)) done

-- ---- the publication

module _ {a : Asking} {vhost file : ℕ} {chains : Vec ChainText Global} {frame : GivenFrame} {kind : EventKind} {x : Shared}
    (m : MayDo a (doing.Teaches vhost file chains frame) kind x) where
  this_turn : (t : TxTurn) × (tx_turn_in x.vhosts vhost ≡ Some t)
  this_turn = there (tx_turn_in x.vhosts vhost) m.suits.1

  abbrev so_far_teaches : world.Doing
  so_far_teaches = world.Doing.Teaches file this_turn.0 chains.items (host_frame frame)

  come_teaches : come_of x.vhosts (doing.Teaches vhost file chains frame) ≡ so_far_teaches
  come_teaches = ap (λ (o : Option TxTurn). option_map_or
      (λ t. world.Doing.Teaches file t chains.items (host_frame frame)) o world.Doing.Begun) this_turn.1

  is_publish : kind ≡ event.Publish
  is_publish =
      sym (some_same event.Publish kind (next_is m so_far_teaches (command.TxTurn vhost) come_teaches m.suits.0))

  -- what is learnt is named, and the writer is free
  pub taught_named : IsNamed x.ops.table (op.Learn file frame.flow)
  taught_named = named_learn m file frame.flow (about_there m file (ap (λ (d : world.Doing). file_in d) come_teaches))

  abbrev more : ℕ
  more = length x.ops.ops + 1

  abbrev taught : Effect
  taught = record
      (only (Goes more (world.Doing.Transmits file this_turn.0 chains.items) (found.Version more)) (world_in x [] []))
      { ops = op.Learn file frame.flow ∷ [] }

  writer_free : is_none x.writer ≡ true
  writer_free =
      (only_some (is_none x.writer) taught m.event.effect
      (row_is m so_far_teaches (command.TxTurn vhost) come_teaches m.suits.0 event.Publish is_publish)).0

  abbrev pub published : Published
  published = record { phase = x.phase; actor = a.actor; command = a.number; op = op.Learn file frame.flow }

  pub teaches_did : (seen : ℕ) → seen ≡ length (x.ops.ops ++ published ∷ [])
      → Did a (doing.Teaches vhost file chains frame) kind x (record x { ops = told_more published x.ops })
      (on.Goes seen (doing.Transmits vhost file chains) (found.Version seen))
  teaches_did seen is_seen =
      let new : Shared = record x { ops = told_more published x.ops } in
      let same : more ≡ seen = sym (is_seen ∙ length-append x.ops.ops (published ∷ [])) in
      let goes : ℕ → Onward = λ n.
      Goes n (world.Doing.Transmits file this_turn.0 chains.items) (found.Version n) in
      record {
        effect = taught;
        has = has_effect m so_far_teaches (command.TxTurn vhost) come_teaches m.suits.0 event.Publish taught is_publish
            (λ actors said. refl)
            (λ actors said rest. ap (λ (b : Bool). only_if b taught) writer_free);
        left = told_left published (goes more) x.writer a x [] [] refl;
        onward = ap goes same
            ∙ sym (ap (λ (o : Option TxTurn). Goes seen (option_map_or (λ t. world.Doing.Transmits file t chains.items) o
            world.Doing.Begun) (found.Version seen)) this_turn.1);
        held = held_told (setup a) x published m.held;
        suits = m.suits;
        stay = turns_same a.actor x.vhosts;
      }
