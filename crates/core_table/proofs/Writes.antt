-- A frame that is written: the host gets it, and its flow is learnt.
use Rattle.std.proofs.Common.{◌≡◌, ℕ, ◌+◌, List, [], ◌∷◌, length, take, Bool, true, false, Some, None, refl, sym, ap, ◌∙◌, subst}
use Rattle.std.specs.Prelude.{if◌then◌else◌, is_none}
use Rattle.scen_words.specs.declared.command.Command.{Command}
use Rattle.scen_words.specs.declared.command.Command.TheVariants as command
use Rattle.tap_flow_key.specs.Fnv.{fnv_of}
use Rattle.tap_flow_key.specs.FlowKey.{hash}
use Rattle.tap_frame.specs.Frame.{FrameValue, bytes_of}
use Rattle.tap_steer.specs.declared.operation.Op.TheVariants as op
use Rattle.tap_steer.specs.Named.{IsNamed}
use Rattle.tap_steer.specs.Rules.{refuse}
use Rattle.tap_steer.specs.Table.{Table}
use Rattle.tap_trace.specs.declared.answer.Answer.TheVariants as answer
use Rattle.tap_ground.specs.Options.{only_if}
use Rattle.tap_world.specs.declared.event.EventKind.TheVariants as event
use Rattle.tap_world.specs.Effect as world
use Rattle.tap_world.specs.Effect.{Effect}
use Rattle.tap_world.specs.Setup.{Setup}
use Rattle.tap_world.specs.Step.{publish_row}
use Rattle.tap_world.specs.StepTable.{learns_flow}
use Rattle.tap_world.specs.World as come
use Rattle.tap_world.specs.World.{Actor, World, holds_writer, name_of}
use Rattle.tap_sound.proofs.Kit.{only_some}
use Rattle.core_shared.specs.Asking.{Asking, setup}
use Rattle.core_shared.specs.Did.{Went}
use Rattle.core_shared.specs.MayDo.{MayDo, MayGo}
use Rattle.core_shared.proofs.Knowing.{may_do}
use Rattle.core_shared.specs.Suiting.{IsItsWritten}
use Rattle.core_shared.specs.Worlds.{world_in}
use Rattle.core_shared.specs.declared.doing.Doing.TheVariants as doing
use Rattle.core_shared.specs.declared.onward.Onward.{Onward}
use Rattle.core_shared.specs.declared.onward.Onward.TheVariants as on
use Rattle.core_shared.specs.declared.shared.Shared.{Shared}
use Rattle.core_table.proofs.Changes.{publishing}
use Rattle.core_table.proofs.Sends.{take_all}
use Rattle.core_table.proofs.Named.{about_file, none_some}
use Rattle.core_table.proofs.Rested.{done, rests_publishing}

-- all its bytes
whole_bytes : (a : Asking) (frame : FrameValue) → IsItsWritten a frame → bytes_of frame ≡ frame.made
whole_bytes a frame w = ap (λ (n : ℕ). take n frame.made) w.whole ∙ take_all frame.made

-- what is answered of it
told_of : (a : Asking) (frame : FrameValue) → IsItsWritten a frame
    → answer.Host (length (bytes_of frame)) (fnv_of (bytes_of frame)) ≡ answer.Host (length frame.made) (fnv_of frame.made)
told_of a frame w = ap (λ (l : List ℕ). answer.Host (length l) (fnv_of l)) (whole_bytes a frame w)

-- ---- its flow is learnt

if_none : (b : Bool) (r : Effect) → (if b then None else None) ≡ Some r → ⊥
if_none true r e = none_some r e
if_none false r e = none_some r e

-- only a write comes so far
learn_row : (s : Setup) (w v : World) (actor file : ℕ) (ether : List ℕ) (c : Command) (r : Effect)
    → publish_row s w actor (come.Doing.Learns file ether) c ≡ Some r
    → publish_row s v actor (come.Doing.Learns file ether) c ≡ only_if (is_none v.writer) (learns_flow v file ether)
learn_row s w v actor file ether (command.Backend vhost ring o) r e = absurd (if_none (holds_writer w actor) r e)
learn_row s w v actor file ether (command.TxTurn vhost) r e = none_some r e
learn_row s w v actor file ether c r e = refl

learn_may : (a : Asking) (x : Shared) (file : ℕ) (frame : FrameValue) → MayGo a (doing.Learns file frame) x
    → MayDo a (doing.Learns file frame) event.Publish x
learn_may a x file frame go = may_do go event.Publish (λ actors said. refl)

learn_rows : (a : Asking) (x : Shared) (file : ℕ) (frame : FrameValue) → MayGo a (doing.Learns file frame) x
    → (v : World)
    → publish_row (setup a) v a.actor (come.Doing.Learns file frame.made) a.command
    ≡ only_if (is_none v.writer) (learns_flow v file frame.made)
learn_rows a x file frame go v =
    let m = learn_may a x file frame go in
    learn_row (setup a) (world_in x m.actors m.said) v a.actor file frame.made a.command m.event.effect m.event.is_row

-- nobody holds the writer
learn_free : (a : Asking) (x : Shared) (file : ℕ) (frame : FrameValue) → MayGo a (doing.Learns file frame) x
    → is_none x.writer ≡ true
learn_free a x file frame go =
    let m = learn_may a x file frame go in
    let w = world_in x m.actors m.said in
    (only_some (is_none x.writer) (learns_flow w file frame.made) m.event.effect
    (sym (learn_rows a x file frame go w) ∙ m.event.is_row)).0

-- a learning names a file of the table, and is never refused
pub learn_named : (a : Asking) (x : Shared) (file flow : ℕ) (frame : FrameValue) → MayGo a (doing.Learns file frame) x
    → IsNamed x.ops.table (op.Learn file flow)
learn_named a x file flow frame m = about_file a (doing.Learns file frame) m.0 x file m.1 refl

pub learn_lawful : (t : Table) (file flow : ℕ) → refuse t (op.Learn file flow) ≡ None
unfolding refuse
learn_lawful t file flow = refl

learnt : (a : Asking) (x : Shared) (file : ℕ) (frame : FrameValue) → MayGo a (doing.Learns file frame) x
    → Went a (doing.Learns file frame) x (publishing a x (op.Learn file (hash frame.made)) x.writer)
    (on.Ends (length x.ops.ops + 1) (answer.Host (length frame.made) (fnv_of frame.made)))
learnt a x file frame m =
    let so_far = come.Doing.Learns file frame.made in
    let y = op.Learn file (hash frame.made) in (
      event.Publish,
      done a (doing.Learns file frame) event.Publish x (publishing a x y x.writer)
          (on.Ends (length x.ops.ops + 1) (answer.Host (length frame.made) (fnv_of frame.made))) (y ∷ []) [] [] x.writer
          (world.Onward.Ends (length x.ops.ops + 1) (answer.Host (length frame.made) (fnv_of frame.made)))
          (rests_publishing a x y x.writer m.1.held) m.1.held
          (record {
            is_next = λ actors said. refl;
            is_row = λ actors said rest.
                learn_rows a x file frame m (world_in x actors said)
                ∙ ap (λ (b : Bool). only_if b (learns_flow (world_in x actors said) file frame.made)) (learn_free a x file frame m);
          }) refl tt,
    )

-- it ends so, with the bytes that the frame has
pub learn_ends : (a : Asking) (old new : Shared) (file version flow : ℕ) (frame : FrameValue) (how : Onward)
    → MayGo a (doing.Learns file frame) old → flow ≡ hash (bytes_of frame) → version ≡ length old.ops.ops + 1
    → new ≡ publishing a old (op.Learn file flow) old.writer
    → how ≡ on.Ends version (answer.Host (length (bytes_of frame)) (fnv_of (bytes_of frame)))
    → Went a (doing.Learns file frame) old new how
learn_ends a old new file version flow frame how m hashed seen is ends =
    let its = m.1.suits in
    let whole = whole_bytes a frame its in
    let new_is : new ≡ publishing a old (op.Learn file (hash frame.made)) old.writer =
    is ∙ ap (λ (h : ℕ). publishing a old (op.Learn file h) old.writer) (hashed ∙ ap hash whole) in
    let how_is : how ≡ on.Ends (length old.ops.ops + 1) (answer.Host (length frame.made) (fnv_of frame.made)) =
    ends ∙ ap (λ (n : ℕ). on.Ends n (answer.Host (length (bytes_of frame)) (fnv_of (bytes_of frame)))) seen
    ∙ ap (λ t. on.Ends (length old.ops.ops + 1) t) (told_of a frame its) in
    subst (λ (x : Shared). Went a (doing.Learns file frame) old x how) (sym new_is)
    (subst (λ (o : Onward). Went a (doing.Learns file frame) old (publishing a old (op.Learn file (hash frame.made)) old.writer) o)
    (sym how_is) (learnt a old file frame m))
