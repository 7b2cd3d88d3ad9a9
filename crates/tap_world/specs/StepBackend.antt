-- This project's own: how a backend is set and unset: its Look, its Drive, its publication, and the owner of its file.
use Rattle.std.specs.Prelude.{ℕ, ◌+◌, ◌==◌, ◌&&◌, ◌||◌, not, true, false, if◌then◌else◌, [], ◌∷◌, Option, Some, None, is_none, option_map}
use Rattle.std.specs.Option.{option_map_or}
use Rattle.guest_mem.specs.Memory.{Contents}
use Rattle.tap_ledger.specs.declared.side.Side.{Side}
use Rattle.tap_ledger.specs.declared.side.Side.TheVariants.{Rx, Tx}
use Rattle.tap_steer.specs.declared.operation.Op.{Op}
use Rattle.tap_steer.specs.declared.operation.Op.TheVariants as op
use Rattle.tap_steer.specs.Table.{Table}
use Rattle.tap_steer.specs.Rules.{refuse}
use Rattle.tap_steer.specs.Select.{shape_of}
use Rattle.vhost_dev.specs.declared.error.VhostErr.{VhostErr}
use Rattle.vhost_dev.specs.Calls.{with_backend, without_backend}
use Rattle.vhost_dev.specs.Refusals.{fits_refusal, number_refusal, ready_refusal}
use Rattle.vhost_dev.specs.Settings.{Settings, ring_at}
use Rattle.scen_words.specs.declared.command.Command.{Command}
use Rattle.scen_words.specs.declared.command.Command.TheVariants as command
use Rattle.tap_trace.specs.declared.answer.Answer.{Answer}
use Rattle.tap_trace.specs.declared.answer.Answer.TheVariants as answer
use Rattle.tap_ledger.specs.declared.error.TapErr.{TapErr as TapText}
use Rattle.tap_trace.specs.declared.kind.Kind.{Kind}
use Rattle.tap_trace.specs.declared.kind.Kind.TheVariants as kind
use Rattle.tap_world.specs.declared.event.Found.TheVariants as found
use Rattle.tap_ground.specs.Options.{◌>>=◌, only_if}
use Rattle.tap_world.specs.ByNumber.{at}
use Rattle.tap_world.specs.Frames.{Front}
use Rattle.tap_world.specs.Guests.{Vhost, is_free_for, is_ring, turn_of, vhost_answer, with_turn}
use Rattle.tap_world.specs.Setup.{Setup}
use Rattle.tap_world.specs.LineSteps.Change.{Owned}
use Rattle.tap_world.specs.World.{Doing, World, newest, table}
use Rattle.tap_world.specs.World.Doing.{Backed, Backs, Disowned, Owns, Released, Unbacked}
use Rattle.tap_world.specs.Effect.{Effect, on_file, only}
use Rattle.tap_world.specs.Effect.OnGuests.{NoGuest, OnGuest}
use Rattle.tap_world.specs.Effect.OnVhosts.{NoVhost, OnVhost}
use Rattle.tap_world.specs.Effect.Onward.{Ends, Goes}
use Rattle.tap_world.specs.StepControl.{on_ring}

-- ---- a backend

abbrev pub side_of : ℕ → Side
side_of ring = if ring == 0 then Rx else Tx

-- the table's refusal of a backend; a ring that there isn't is for the vhost to refuse
abbrev pub back_refusal : Table → ℕ → ℕ → Option ℕ → Option TapText
back_refusal t vhost ring None = None
back_refusal t vhost ring (Some file) =
    if is_ring ring then refuse t (op.Back file (side_of ring) (Some vhost)) else None

-- Look: it holds writer and turn from now on, unless the table refuses it
abbrev pub back_seen : World → ℕ → ℕ → ℕ → Vhost → Option TapText → Effect
back_seen w actor vhost ring v (Some refusal) =
    only (Goes (newest w) (Backs (Some refusal)) (found.Version (newest w))) w
back_seen w actor vhost ring v None = record (only (Goes (newest w) (Backs None) (found.Version (newest w))) w) {
  vhosts = OnVhost vhost (if is_ring ring then with_turn ring (Some actor) v else v);
  writer = Some actor;
}

abbrev pub looks_to_back : Table → World → ℕ → Command → Option Effect
looks_to_back t w actor (command.Backend vhost ring file) = do
  v ← at w.vhosts vhost
  only_if (is_none w.writer && (not (is_ring ring) || is_none (turn_of ring v)))
      (back_seen w actor vhost ring v (back_refusal t vhost ring file))
looks_to_back t w actor other = None

-- it ends, and gives back what it holds
abbrev pub back_ends : World → ℕ → ℕ → ℕ → ℕ → Option TapText → Vhost → Contents → Answer → Option Kind → Effect
back_ends w actor seen vhost ring refusal v m x step = record (only (Ends seen x) w) {
  guests = option_map_or (λ k. OnGuest v.guest m (Some k)) step NoGuest;
  vhosts = OnVhost vhost (if is_ring ring && is_none refusal then with_turn ring None v else v);
  writer = if is_none refusal then None else w.writer;
}

-- the answer of a vhost's refusal, where there is one; none where it has no words
abbrev pub refused_by : Option VhostErr → Option (Option Answer)
refused_by None = Some None
refused_by (Some e) = option_map (λ x. Some x) (vhost_answer e)

-- the refusals of a set backend in their order: the ring isn't ready, the table's, the header doesn't fit
abbrev pub back_answer : Option VhostErr → Option TapText → Option VhostErr → Option (Option Answer)
back_answer (Some e) refusal unfit = refused_by (Some e)
back_answer None (Some r) unfit = Some (Some (answer.Tap r))
back_answer None None unfit = refused_by unfit

abbrev pub unfit_for : Option Front → Settings → Option VhostErr
unfit_for None s = None
unfit_for (Some front) s = fits_refusal front s

abbrev pub sets_back : World → ℕ → ℕ → ℕ → ℕ → ℕ → Option TapText → Vhost → Contents → Option Answer → Effect
sets_back w actor seen vhost ring file refusal v m (Some x) =
    back_ends w actor seen vhost ring refusal v m x (on_ring ring (kind.Backend vhost ring false))
sets_back w actor seen vhost ring file refusal v m None =
    record (only (Goes seen (Backed file) (found.Step (kind.Backend vhost ring true))) w) {
      guests = OnGuest v.guest m (Some (kind.Backend vhost ring true));
      vhosts = OnVhost vhost (record v { settings = with_backend ring file m v.settings });
    }

-- unset: where the ring had one, the file is given back, if it receives, and the table is told
abbrev pub unsets_back : World → ℕ → ℕ → ℕ → ℕ → Vhost → Contents → Option Answer → Option ℕ → Effect
unsets_back w actor seen vhost ring v m (Some x) file = back_ends w actor seen vhost ring None v m x None
unsets_back w actor seen vhost ring v m None None =
    back_ends w actor seen vhost ring None v m answer.Done (Some (kind.Backend vhost ring false))
unsets_back w actor seen vhost ring v m None (Some file) =
    record (only
    (Goes seen (if ring == 0 then Unbacked file else Released file) (found.Step (kind.Backend vhost ring true)))
    w) {
      guests = OnGuest v.guest m (Some (kind.Backend vhost ring true));
      vhosts = OnVhost vhost (record v { settings = without_backend ring v.settings });
    }

abbrev pub back_call : Setup → World → ℕ → ℕ → Option TapText → ℕ → ℕ → Option ℕ → Vhost → Contents → Option Effect
back_call s w actor seen refusal vhost ring None v m = do
  told ← refused_by (number_refusal ring)
  Some (unsets_back w actor seen vhost ring v m told (ring_at ring v.settings).file)
back_call s w actor seen refusal vhost ring (Some file) v m = do
  told ← back_answer (ready_refusal ring m v.settings) refusal (unfit_for (shape_of (table s w) file) v.settings)
  Some (sets_back w actor seen vhost ring file refusal v m told)

-- Drive, of a backend
abbrev pub backs : Setup → World → ℕ → ℕ → Doing → Command → Option Effect
backs s w actor seen (Backs refusal) (command.Backend vhost ring file) = do
  v ← at w.vhosts vhost
  g ← at w.guests v.guest
  if is_free_for actor ring v then back_call s w actor seen refusal vhost ring file v g.memory else None
backs s w actor seen doing c = None

-- its publication, and its end, which gives back writer and turn
abbrev pub back_over : World → ℕ → ℕ → ℕ → ℕ → Effect
back_over w seen vhost ring version = record (only (Ends seen (answer.Version version)) w) {
  vhosts = option_map_or (λ v. OnVhost vhost (with_turn ring None v)) (at w.vhosts vhost) NoVhost;
  writer = None;
}

abbrev pub publishes_back : World → Doing → Command → Option Effect
publishes_back w (Backed file) (command.Backend vhost ring asked) =
    let x : Op = op.Back file (side_of ring) (Some vhost) in
    Some (if ring == 0
    then record
    (only (Goes (newest w + 1) (Owns file (newest w + 1)) (found.Version (newest w + 1))) w) { ops = x ∷ [] }
    else record (back_over w (newest w + 1) vhost ring (newest w + 1)) { ops = x ∷ [] })
publishes_back w (Disowned file) (command.Backend vhost ring asked) =
    Some (record (back_over w (newest w + 1) vhost ring (newest w + 1)) { ops = op.Back file (side_of ring) None ∷ [] })
publishes_back w (Released file) (command.Backend vhost ring asked) =
    Some (record (back_over w (newest w + 1) vhost ring (newest w + 1)) { ops = op.Back file (side_of ring) None ∷ [] })
publishes_back w doing c = None

-- Owner, changing: the worker, or none; a file in hand has no other owner
abbrev pub owns : World → ℕ → Doing → Command → Option Effect
owns w seen (Owns file version) (command.Backend vhost ring asked) =
    Some (record
    (back_over w seen vhost ring version)
    { files = (on_file file (Owned (Some vhost)) (Ends seen answer.Done) w).files })
owns w seen (Unbacked file) (command.Backend vhost ring asked) =
    Some (on_file file (Owned None) (Goes seen (Disowned file) (found.Owner None)) w)
owns w seen doing c = None
