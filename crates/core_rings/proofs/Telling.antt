-- The publication of a resize.
use Rattle.std.proofs.Common.{◌≡◌, ℕ, ◌+◌, List, [], ◌∷◌, length, length-append, Some, None, refl, sym, ap, ◌∙◌, subst}
use Rattle.std.specs.Prelude.{◌&&◌, is_none}
use Rattle.scen_words.specs.declared.command.Command.{Command}
use Rattle.scen_words.specs.declared.command.Command.TheVariants as command
use Rattle.tap_lines.specs.Files.{files_of}
use Rattle.tap_lines.specs.Placed.{Placed}
use Rattle.tap_lines.specs.Told.{Told, told_more}
use Rattle.tap_sound.proofs.Kit.{some_same, then_some}
use Rattle.tap_sound.proofs.Taken.{if_some}
use Rattle.tap_steer.specs.declared.operation.Op.TheVariants as op
use Rattle.tap_steer.specs.Rules.{refuse}
use Rattle.tap_trace.specs.declared.answer.Answer.TheVariants as answer
use Rattle.tap_world.specs.ByNumber.{at}
use Rattle.tap_world.specs.declared.event.EventKind.TheVariants as kind
use Rattle.tap_world.specs.declared.told.Published.{Published}
use Rattle.tap_world.specs.declared.told.Said.{Said}
use Rattle.tap_world.specs.Effect.{Effect}
use Rattle.tap_world.specs.Effect.Onward.{Ends}
use Rattle.tap_world.specs.Line.{File, freed}
use Rattle.tap_world.specs.Setup.{Numbered}
use Rattle.tap_world.specs.Step.{row}
use Rattle.tap_world.specs.StepTable.{publishes_own, resize_told}
use Rattle.tap_world.specs.World.{Actor, World, holds_writer, table}
use Rattle.tap_world.specs.World.Doing.{Shrinks}
use Rattle.core_shared.proofs.Kit.{file_at}
use Rattle.core_shared.proofs.Leaving.{held_told, told_left, turns_same}
use Rattle.core_shared.specs.Asking.{Asking, setup}
use Rattle.core_shared.specs.Did.{Did, HasEffect}
use Rattle.core_shared.specs.MayDo.{MayDo, actor_at}
use Rattle.core_shared.specs.Worlds.{world_in}
use Rattle.core_shared.specs.declared.doing.Doing.TheVariants as doing
use Rattle.core_shared.specs.declared.onward.Onward.{Onward}
use Rattle.core_shared.specs.declared.onward.Onward.TheVariants as on
use Rattle.core_shared.specs.declared.shared.Shared.{Shared}

-- what is published
abbrev pub published : Asking → Shared → ℕ → ℕ → Published
published a x file capacity = record { phase = x.phase; actor = a.actor; command = a.number; op = op.Resize file capacity }

abbrev tells : Shared → ℕ → ℕ → ℕ → ℕ → File → Effect
tells x file capacity places n f = resize_told (world_in x [] []) (op.Resize file capacity) places n f

pub publish_event : (a : Asking) (x : Shared) (file capacity places n : ℕ) (p : Placed)
    → MayDo a (doing.Shrinks file capacity places n) kind.Publish x → at x.files file ≡ Some p
    → HasEffect a (Shrinks file places n) kind.Publish x (tells x file capacity places n p.file)
publish_event a x file capacity places n p m is =
    let w : World = world_in x [] [] in
    let row_at : List Actor → List Said → List Numbered → Command → _ =
    λ actors said rest c. row (setup a) (world_in x actors said) kind.Publish a.actor (actor_at a (Shrinks file places n) rest) a.number c in
    let row_is : row_at [] [] [] (command.Resize file capacity) ≡ Some m.event.effect =
    sym (ap (row_at m.actors m.said m.rest) m.suits) ∙ m.event.is_row in
    let held = if_some (holds_writer w a.actor && is_none (refuse (table (setup a) w) (op.Resize file capacity)))
    (publishes_own w (op.Resize file capacity) (Shrinks file places n)) m.event.effect row_is in
    let f = then_some (at (files_of x.files) file) (λ (f : File). Some (tells x file capacity places n f)) m.event.effect held.1 in
    let same : f.0 ≡ p.file = some_same f.0 p.file (sym f.1 ∙ file_at file x.files p is) in
    let its : tells x file capacity places n p.file ≡ m.event.effect =
    ap (tells x file capacity places n) (sym same) ∙ some_same _ m.event.effect f.2 in
    let all : HasEffect a (Shrinks file places n) kind.Publish x m.event.effect = record {
      is_next = λ actors said. m.event.is_next;
      is_row = λ actors said rest. ap (row_at actors said rest) m.suits ∙ row_is;
    } in
    subst (λ (r : Effect). HasEffect a (Shrinks file places n) kind.Publish x r) (sym its) all

-- with the operation published and the writer given back
abbrev pub with_told : Told → Shared → Shared
with_told t x = record x { ops = t; writer = None }

pub publish_done : (a : Asking) (x : Shared) (file capacity places n : ℕ) (p : Placed) (new : Told) (version free : ℕ)
    → MayDo a (doing.Shrinks file capacity places n) kind.Publish x → at x.files file ≡ Some p
    → new ≡ told_more (published a x file capacity) x.ops → version ≡ length new.ops → free ≡ freed p.file
    → Did a (doing.Shrinks file capacity places n) kind.Publish x (with_told new x) (on.Ends version (answer.Resized version places free n))
publish_done a x file capacity places n p new version free m is told number free_is =
    let one : Published = published a x file capacity in
    let next : ℕ = length x.ops.ops + 1 in
    let held = held_told (setup a) x one m.held in
    let did : Did a (doing.Shrinks file capacity places n) kind.Publish x (with_told (told_more one x.ops) x)
    (on.Ends next (answer.Resized next places (freed p.file) n)) =
    record {
      effect = tells x file capacity places n p.file;
      has = publish_event a x file capacity places n p m is;
      left = told_left one (Ends next (answer.Resized next places (freed p.file) n)) None a x [] [] refl;
      onward = refl;
      held = record { table = held.table; frames = held.frames; vhosts = held.vhosts };
      suits = tt;
      stay = turns_same a.actor x.vhosts;
    } in
    let version_is : version ≡ next = number ∙ ap (λ (t : Told). length t.ops) told ∙ length-append x.ops.ops (one ∷ []) in
    let goes : on.Ends version (answer.Resized version places free n) ≡ on.Ends next (answer.Resized next places (freed p.file) n) =
    ap (λ v. on.Ends v (answer.Resized v places free n)) version_is ∙ ap (λ k. on.Ends next (answer.Resized next places k n)) free_is in
    subst (λ (t : Told). Did a (doing.Shrinks file capacity places n) kind.Publish x (with_told t x) (on.Ends version (answer.Resized version places free n)))
    (sym told)
    (subst (λ (g : Onward). Did a (doing.Shrinks file capacity places n) kind.Publish x (with_told (told_more one x.ops) x) g) (sym goes) did)
