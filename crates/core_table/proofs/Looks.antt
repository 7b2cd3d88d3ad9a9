-- A look that leaves all as it is; and that of a write of bytes that are no frame.
use Rattle.std.proofs.Common.{◌≡◌, ◌≢◌, ℕ, List, [], length, Option, Some, None, refl, sym, ap, ◌∙◌, subst}
use Rattle.std.specs.Prelude.{option_map, IfOk, OnOk, Result, Ok, Err}
use Rattle.scen_words.specs.declared.command.Command.{Command}
use Rattle.scen_words.specs.declared.command.Command.TheVariants as command
use Rattle.tap_frame.specs.Spelling.{Refuses, first_case}
use Rattle.tap_frame.specs.declared.reading.BadFrame.{BadFrame}
use Rattle.tap_frame.specs.declared.reading.BadFrame.TheVariants.{NoMemory}
use Rattle.tap_frame.specs.declared.shape.Shape.{Shape}
use Rattle.tap_guests.specs.Backs.{front_of}
use Rattle.tap_steer.specs.Select as steer
use Rattle.tap_steer.specs.Table.{Table}
use Rattle.tap_trace.specs.declared.answer.Answer.TheVariants as answer
use Rattle.tap_world.specs.declared.event.EventKind.{EventKind}
use Rattle.tap_world.specs.declared.event.EventKind.TheVariants as event
use Rattle.tap_world.specs.declared.event.Found.TheVariants as found
use Rattle.tap_world.specs.declared.told.Said.{Said}
use Rattle.tap_world.specs.Effect as world
use Rattle.tap_world.specs.Effect.{Effect, only}
use Rattle.tap_world.specs.Frames.{Front, bad_in, ether_in}
use Rattle.tap_world.specs.Scripts.{first_kind}
use Rattle.tap_world.specs.Step.{row}
use Rattle.tap_world.specs.StepTable.{unless_bad, with_front, writes}
use Rattle.tap_world.specs.World as come
use Rattle.tap_world.specs.World.{Actor, World, name_of}
use Rattle.core_shared.specs.Asking.{Asking, setup}
use Rattle.core_shared.specs.Coming.{onward_of, written_out}
use Rattle.core_shared.specs.Did.{Went}
use Rattle.core_shared.specs.Held.{IsHeld}
use Rattle.core_shared.specs.MayDo.{MayGo, actor_at}
use Rattle.core_shared.specs.Suiting.{SuitsOn}
use Rattle.core_shared.specs.Worlds.{world_in}
use Rattle.core_shared.specs.declared.doing.Doing.TheVariants as doing
use Rattle.core_shared.specs.declared.onward.Onward.{Onward}
use Rattle.core_shared.specs.declared.onward.Onward.TheVariants as on
use Rattle.core_shared.specs.declared.shared.Shared.{Shared}
use Rattle.core_table.proofs.Rested.{done, rests}

-- ---- a look that leaves all as it is

pub looks_on : (a : Asking) (x : Shared) (o : world.Onward) (how : Onward) → MayGo a doing.Begun x
    → ((w : World) → first_kind w a.command ≡ event.Look)
    → ((actors : List Actor) (said : List Said) (act : Actor)
    → row (setup a) (world_in x actors said) event.Look a.actor act a.number a.command ≡ Some (only o (world_in x actors said)))
    → written_out a.seen come.Doing.Begun o ≡ onward_of x.vhosts how → SuitsOn x.vhosts a how
    → Went a doing.Begun x x how
looks_on a x o how m first rows onward suits = (
  event.Look,
  done a doing.Begun event.Look x x how [] [] [] x.writer o (rests a x x.writer m.1.held) m.1.held
      (record {
        is_next = λ actors said. ap (λ (k : EventKind). Some k) (first (world_in x actors said));
        is_row = λ actors said rest. rows actors said (actor_at a come.Doing.Begun rest);
      }) onward suits,
)

-- ---- a write

write_first : (a : Asking) (file : ℕ) (bytes : List ℕ) → a.command ≡ command.Write file bytes → (w : World)
    → first_kind w a.command ≡ event.Look
write_first a file bytes is w = ap (λ (c : Command). first_kind w c) is

write_row : (a : Asking) (x : Shared) (file : ℕ) (bytes : List ℕ) (o : Option Front) → IsHeld (setup a) x
    → a.command ≡ command.Write file bytes → steer.shape_of x.ops.table file ≡ o
    → (actors : List Actor) (said : List Said) (act : Actor)
    → row (setup a) (world_in x actors said) event.Look a.actor act a.number a.command
    ≡ Some (with_front o (world_in x actors said) (writes x.ops.table (world_in x actors said) file bytes))
write_row a x file bytes o held is e actors said act =
    let w = world_in x actors said in
    ap (λ (c : Command). row (setup a) w event.Look a.actor act a.number c) is
    ∙ ap (λ (t : Table). Some (with_front (steer.shape_of t file) w (writes t w file bytes))) (sym held.table)
    ∙ ap (λ (p : Option Front). Some (with_front p w (writes x.ops.table w file bytes))) e

write_if : (a : Asking) (x : Shared) (file : ℕ) (bytes : List ℕ) (shape : Shape) (o : Option BadFrame)
    → MayGo a doing.Begun x → a.command ≡ command.Write file bytes
    → steer.shape_of x.ops.table file ≡ Some (front_of shape) → bad_in (front_of shape) bytes ≡ o
    → (actors : List Actor) (said : List Said) (act : Actor)
    → row (setup a) (world_in x actors said) event.Look a.actor act a.number a.command
    ≡ Some (unless_bad o (world_in x actors said)
    (only (world.Onward.Goes (length x.ops.ops)
    (come.Doing.Hosts file (ether_in (front_of shape) bytes) (steer.learns x.ops.table file))
    (found.Version (length x.ops.ops))) (world_in x actors said)))
write_if a x file bytes shape o m is e bad actors said act =
    let w = world_in x actors said in
    let goes = only (world.Onward.Goes (length x.ops.ops)
    (come.Doing.Hosts file (ether_in (front_of shape) bytes) (steer.learns x.ops.table file))
    (found.Version (length x.ops.ops))) w in
    write_row a x file bytes (Some (front_of shape)) m.1.held is e actors said act
    ∙ ap (λ (p : Option BadFrame). Some (unless_bad p w goes)) bad

pub write_bad : (a : Asking) (x : Shared) (file : ℕ) (bytes : List ℕ) (shape : Shape) (bad : BadFrame)
    → MayGo a doing.Begun x → a.command ≡ command.Write file bytes
    → steer.shape_of x.ops.table file ≡ Some (front_of shape) → bad_in (front_of shape) bytes ≡ Some bad
    → Went a doing.Begun x x (on.Ends (length x.ops.ops) (answer.Bad bad))
write_bad a x file bytes shape bad m is e why =
    looks_on a x (world.Onward.Ends (length x.ops.ops) (answer.Bad bad)) _ m (write_first a file bytes is)
    (write_if a x file bytes shape (Some bad) m is e why) refl tt

-- ---- the same, as the code says it

pub front_found : (x : Shared) (file : ℕ) (t : Table) (r : Option Shape) (shape : Shape) → t ≡ x.ops.table
    → option_map (λ (s : Shape). steer.parts_of s) r ≡ steer.shape_of t file → r ≡ Some shape
    → steer.shape_of x.ops.table file ≡ Some (front_of shape)
front_found x file t r shape table_is finds is =
    ap (λ (u : Table). steer.shape_of u file) (sym table_is) ∙ sym finds
    ∙ ap (λ (o : Option Shape). option_map (λ (s : Shape). steer.parts_of s) o) is

case_is : (o : Option BadFrame) (bad : BadFrame) → Refuses o bad → bad ≢ NoMemory → o ≡ Some bad
case_is None bad h other = absurd (other h)
case_is (Some b) bad h other = ap (λ (c : BadFrame). Some c) (sym h)

pub bad_written : {E : Type 0} (a : Asking) (x : Shared) (file : ℕ) (bytes : List ℕ) (shape : Shape) (bad : BadFrame)
    (seen : ℕ) (r : Result Onward E) → MayGo a doing.Begun x → a.command ≡ command.Write file bytes
    → steer.shape_of x.ops.table file ≡ Some (front_of shape) → Refuses (first_case shape bytes) bad
    → seen ≡ length x.ops.ops
    → IfOk r (λ (o : Onward). o ≡ on.Ends seen (answer.Bad bad)) → OnOk r (bad ≢ NoMemory)
    → IfOk r (λ (o : Onward). Went a doing.Begun x x o)
bad_written a x file bytes shape bad seen (Ok o) m is e why sees ends other =
    subst (λ (q : Onward). Went a doing.Begun x x q)
    (sym (ends ∙ ap (λ (n : ℕ). on.Ends n (answer.Bad bad)) sees))
    (write_bad a x file bytes shape bad m is e (case_is (first_case shape bytes) bad why other))
bad_written a x file bytes shape bad seen (Err e_) m is e why sees ends other = tt
