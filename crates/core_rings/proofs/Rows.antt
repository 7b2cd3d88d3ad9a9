-- The rows of events that change one file, as what they find in the file and how the command goes on.
use Rattle.std.proofs.Common.{◌≡◌, ℕ, ◌+◌, Option, Some, None, refl, sym, ap, ◌∙◌}
use Rattle.scen_words.specs.declared.command.Command.{Command}
use Rattle.tap_frame.specs.declared.shape.Shape.{Shape}
use Rattle.tap_frame.specs.Frame.{FrameValue}
use Rattle.tap_ground.specs.Options.{◌>>=◌}
use Rattle.tap_guests.specs.Backs.{front_of}
use Rattle.tap_ledger.specs.declared.fate.Cause.TheVariants as cause
use Rattle.tap_ledger.specs.declared.fate.Fate.TheVariants as fate
use Rattle.tap_sound.proofs.Taken.{if_some}
use Rattle.tap_steer.specs.declared.operation.Op.{Op}
use Rattle.tap_world.specs.declared.event.EventKind.TheVariants as kind
use Rattle.tap_world.specs.declared.event.Found.TheVariants as found
use Rattle.tap_world.specs.Effect.{Effect}
use Rattle.tap_world.specs.Effect.Onward.{Goes, Stays}
use Rattle.tap_world.specs.ByNumber.{at}
use Rattle.tap_world.specs.Guests.{Guest, Vhost}
use Rattle.tap_world.specs.StepTurns.{turn_on}
use Rattle.tap_world.specs.Line.{File, claimed, first_that, in_batch, in_ring, last_that}
use Rattle.tap_world.specs.LineSteps.{ready_front}
use Rattle.tap_world.specs.LineSteps.Change.{Claims, Cuts, Leaves, Moves, Reopens, Shuts, Sizes}
use Rattle.tap_world.specs.Step.{or_else}
use Rattle.tap_world.specs.StepRing.{cuts, leaves, name_at, reopens, resizes, shuts}
use Rattle.tap_world.specs.StepTransmits.{on_turn, turns}
use Rattle.tap_world.specs.World.{World, holds_writer, name_of}
use Rattle.tap_world.specs.World.Doing.{Opened, Opens, Placed, Purges, Reads, Resizes, Routed, Shrinks, Withdrawn}
use Rattle.core_shared.specs.Asking.{Asking, setup}
use Rattle.core_shared.specs.MayDo.{MayDo}
use Rattle.core_shared.specs.Worlds.{world_in}
use Rattle.core_shared.specs.declared.doing.Doing.TheVariants as doing
use Rattle.core_shared.specs.declared.shared.Shared.{Shared}
use Rattle.core_rings.proofs.Events.{FileEvent, file_event}

-- a row that finds nothing to go on with
abbrev pub at_once : File → Option (Unit {0})
at_once f = Some tt

-- ---- gates

pub shut_event : (a : Asking) (x : Shared) (file version : ℕ) → MayDo a (doing.Withdrawn file version) kind.Shut x
    → FileEvent a (Withdrawn file version) kind.Shut x file Shuts at_once (λ f t. Goes a.seen (Purges file version) (found.Claimed (claimed f)))
shut_event a x file version m =
    let w : World = world_in x m.actors m.said in
    let row = if_some (holds_writer w a.actor) (shuts w a.seen (Withdrawn file version)) m.event.effect m.event.is_row in
    file_event a (Withdrawn file version) kind.Shut x file Shuts at_once (λ f t. Goes a.seen (Purges file version) (found.Claimed (claimed f)))
    m.event.effect m.event.files (record { is_next = λ actors said. refl; is_row = λ actors said rest. m.event.is_row }) row.1 m.event.is_files

pub reopen_event : (a : Asking) (x : Shared) (file : ℕ) (op : Op) → MayDo a (doing.Opens file op) kind.Reopen x
    → FileEvent a (Opens file) kind.Reopen x file Reopens at_once (λ f t. Goes a.seen (Opened file) (found.Epoch (f.epoch + 1)))
reopen_event a x file op m =
    let w : World = world_in x m.actors m.said in
    let row = if_some (holds_writer w a.actor) (reopens w a.seen (Opens file)) m.event.effect m.event.is_row in
    file_event a (Opens file) kind.Reopen x file Reopens at_once (λ f t. Goes a.seen (Opened file) (found.Epoch (f.epoch + 1)))
    m.event.effect m.event.files (record { is_next = λ actors said. refl; is_row = λ actors said rest. m.event.is_row }) row.1 m.event.is_files

-- ---- capacities

pub resize_event : (a : Asking) (x : Shared) (file capacity : ℕ) → MayDo a (doing.Resizes file capacity) kind.Resize x
    → FileEvent a (Resizes file capacity) kind.Resize x file (Sizes capacity) at_once
    (λ f t. Goes a.seen (Shrinks file (claimed f) 0) (found.Claimed (claimed f)))
resize_event a x file capacity m =
    let w : World = world_in x m.actors m.said in
    let row = if_some (holds_writer w a.actor) (resizes w a.seen (Resizes file capacity)) m.event.effect m.event.is_row in
    file_event a (Resizes file capacity) kind.Resize x file (Sizes capacity) at_once
    (λ f t. Goes a.seen (Shrinks file (claimed f) 0) (found.Claimed (claimed f)))
    m.event.effect m.event.files (record { is_next = λ actors said. refl; is_row = λ actors said rest. m.event.is_row }) row.1 m.event.is_files

pub cut_event : (a : Asking) (x : Shared) (file capacity places n : ℕ) → MayDo a (doing.Shrinks file capacity places n) kind.Cut x
    → FileEvent a (Shrinks file places n) kind.Cut x file Cuts (λ f. name_at f.line (last_that in_ring f.line))
    (λ f name. Goes a.seen (Shrinks file places (n + 1)) (found.Moved name))
cut_event a x file capacity places n m =
    let w : World = world_in x m.actors m.said in
    let row = if_some (holds_writer w a.actor) (cuts w a.seen (Shrinks file places n)) m.event.effect m.event.is_row in
    file_event a (Shrinks file places n) kind.Cut x file Cuts (λ f. name_at f.line (last_that in_ring f.line))
    (λ f name. Goes a.seen (Shrinks file places (n + 1)) (found.Moved name))
    m.event.effect m.event.files (record { is_next = λ actors said. m.event.is_next; is_row = λ actors said rest. m.event.is_row }) row.1 m.event.is_files

-- ---- a frame that is sent

pub claim_event : (a : Asking) (x : Shared) (file epoch : ℕ) (frame : FrameValue) → MayDo a (doing.Routed file epoch frame) kind.Claim x
    → FileEvent a (Routed file epoch frame.mark) kind.Claim x file (Claims a.actor (name_of a.actor a.number) epoch frame.mark) at_once
    (λ f t. Goes a.seen (Placed file (claimed f) epoch frame.mark) (found.Place file (claimed f) epoch))
claim_event a x file epoch frame m =
    file_event a (Routed file epoch frame.mark) kind.Claim x file (Claims a.actor (name_of a.actor a.number) epoch frame.mark) at_once
    (λ f t. Goes a.seen (Placed file (claimed f) epoch frame.mark) (found.Place file (claimed f) epoch))
    m.event.effect m.event.files (record { is_next = λ actors said. m.event.is_next; is_row = λ actors said rest. m.event.is_row })
    m.event.is_row m.event.is_files

-- ---- a consumer

pub move_to_purge_event : (a : Asking) (x : Shared) (file version : ℕ) → MayDo a (doing.Purges file version) kind.Move x
    → FileEvent a (Purges file version) kind.Move x file Moves (λ f. name_at f.line (ready_front f.line)) (λ f name. Stays (found.Moved name))
move_to_purge_event a x file version m =
    file_event a (Purges file version) kind.Move x file Moves (λ f. name_at f.line (ready_front f.line)) (λ f name. Stays (found.Moved name))
    m.event.effect m.event.files (record { is_next = λ actors said. m.event.is_next; is_row = λ actors said rest. m.event.is_row })
    m.event.is_row m.event.is_files

pub move_to_read_event : (a : Asking) (x : Shared) (file room : ℕ) (shape : Shape) → MayDo a (doing.Reads file room shape) kind.Move x
    → FileEvent a (Reads file room (front_of shape)) kind.Move x file Moves (λ f. name_at f.line (ready_front f.line))
    (λ f name. Stays (found.Moved name))
move_to_read_event a x file room shape m =
    file_event a (Reads file room (front_of shape)) kind.Move x file Moves (λ f. name_at f.line (ready_front f.line))
    (λ f name. Stays (found.Moved name))
    m.event.effect m.event.files (record { is_next = λ actors said. m.event.is_next; is_row = λ actors said rest. m.event.is_row })
    m.event.is_row m.event.is_files

-- no turn is under way
then_none : {A B : Type 0} (o : Option A) (g : A → Option B) → ((y : A) → g y ≡ None) → (o >>= g) ≡ None
then_none None g h = refl
then_none (Some y) g h = h y

pub no_turn : (w : World) (c : Command) → on_turn w c (λ vhost v m. None) ≡ None
no_turn w c =
    then_none {A = ℕ × ℕ} {B = Effect} (turn_on c) _
    (λ t. then_none {A = Vhost} {B = Effect} (at w.vhosts t.0) _ (λ v. then_none {A = Guest} {B = Effect} (at w.guests v.guest) _ (λ g. refl)))

pub or_first : (o p : Option Effect) (r : Effect) → or_else o p ≡ Some r → p ≡ None → o ≡ Some r
or_first None p r e h = sym h ∙ e
or_first (Some q) p r e h = e

pub purge_event : (a : Asking) (x : Shared) (file version : ℕ) → MayDo a (doing.Purges file version) kind.Out x
    → FileEvent a (Purges file version) kind.Out x file (Leaves None (fate.Discarded cause.Purged))
    (λ f. name_at f.line (first_that in_batch f.line)) (λ f name. Stays (found.Moved name))
purge_event a x file version m =
    let w : World = world_in x m.actors m.said in
    let row = or_first (leaves (setup a) w a.seen (Purges file version)) (turns w a.actor a.number a.seen (Purges file version) a.command)
    m.event.effect m.event.is_row (no_turn w a.command) in
    file_event a (Purges file version) kind.Out x file (Leaves None (fate.Discarded cause.Purged))
    (λ f. name_at f.line (first_that in_batch f.line)) (λ f name. Stays (found.Moved name))
    m.event.effect m.event.files
    (record {
      is_next = λ actors said. m.event.is_next;
      is_row = λ actors said rest.
          ap (λ o. or_else o (turns (world_in x actors said) a.actor a.number a.seen (Purges file version) a.command)) row;
    })
    row m.event.is_files
