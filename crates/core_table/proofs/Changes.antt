-- The look of a command with an operation, and the publication of that operation.
use Rattle.std.proofs.Common.{◌≡◌, ℕ, ◌+◌, List, [], ◌∷◌, length, Bool, true, false, Option, Some, None, refl, sym, ap, ◌∙◌, subst, true≢false}
use Rattle.std.specs.Prelude.{◌&&◌, if◌then◌else◌, is_none, IfOk, OnOk, Result, Ok, Err}
use Rattle.scen_words.specs.declared.command.Command.{Command}
use Rattle.scen_words.specs.declared.command.Command.TheVariants as command
use Rattle.tap_guests.specs.Side.{Side}
use Rattle.tap_ledger.specs.declared.error.TapErr.{TapErr}
use Rattle.tap_lines.specs.Told.{told_more}
use Rattle.tap_steer.specs.declared.operation.Op.{Op}
use Rattle.tap_steer.specs.declared.operation.Op.TheVariants as op
use Rattle.tap_steer.specs.declared.operation.TheConstants.{IFF_ATTACH_QUEUE}
use Rattle.tap_steer.specs.Named.{IsNamed}
use Rattle.tap_steer.specs.Rules.{refuse}
use Rattle.tap_steer.specs.Table.{Table, file_at, is_enabled, is_set}
use Rattle.tap_trace.specs.declared.answer.Answer.TheVariants as answer
use Rattle.tap_ground.specs.Options.{◌>>=◌, only_if}
use Rattle.tap_world.specs.declared.event.EventKind.{EventKind}
use Rattle.tap_world.specs.declared.event.EventKind.TheVariants as event
use Rattle.tap_world.specs.declared.event.Found.TheVariants as found
use Rattle.tap_world.specs.declared.told.Said.{Said}
use Rattle.tap_world.specs.Effect as world
use Rattle.tap_world.specs.Effect.{Effect}
use Rattle.tap_world.specs.Scripts.{first_kind, next_kind}
use Rattle.tap_world.specs.Setup.{Numbered, Setup, op_of}
use Rattle.tap_world.specs.Step.{look_row, publish_row, row}
use Rattle.tap_world.specs.StepTable.{course, decided, looks_to_change, publishes, publishes_op, publishes_own}
use Rattle.tap_world.specs.World as come
use Rattle.tap_world.specs.World.{Actor, World, holds_writer, table}
use Rattle.tap_sound.proofs.Kit.{only_some, some_same}
use Rattle.core_shared.specs.Asking.{Asking, setup}
use Rattle.core_shared.specs.Coming.{come_of, onward_of, written_out}
use Rattle.core_shared.specs.Did.{Went}
use Rattle.core_shared.specs.Held.{IsHeld}
use Rattle.core_shared.specs.MayDo.{MayGo, actor_at}
use Rattle.core_shared.specs.Suiting.{IsItsOp, Suits, SuitsOn}
use Rattle.core_shared.specs.Worlds.{world_in}
use Rattle.core_shared.specs.declared.doing.Doing.{Doing}
use Rattle.core_shared.specs.declared.doing.Doing.TheVariants as doing
use Rattle.core_shared.specs.declared.onward.Onward.{Onward}
use Rattle.core_shared.specs.declared.onward.Onward.TheVariants as on
use Rattle.core_shared.specs.declared.shared.Shared.{Shared}
use Rattle.core_table.specs.Course.{course_of}
use Rattle.core_table.proofs.Named.{none_some}
use Rattle.core_shared.proofs.Knowing.{may_do}
use Rattle.core_shared.proofs.Named.{named_own}
use Rattle.core_table.proofs.Rested.{done, effect_with, rests, rests_publishing}

-- ---- the row of a command with an operation

look_is : (w : World) (s : Setup) (c : Command) (x : Op) → op_of s c ≡ Some x → first_kind w c ≡ event.Look
look_is w s (command.SetIff file name flags) x e = refl
look_is w s (command.SetQueue file flags) x e = refl
look_is w s (command.Close file) x e = refl
look_is w s (command.Persist file on_) x e = refl
look_is w s (command.HdrSize file size) x e = refl
look_is w s (command.Steer file program) x e = refl
look_is w s (command.Filter file program) x e = refl
look_is w s (command.Tick now) x e = refl
look_is w s (command.Resize file capacity) x e = refl
look_is w s c x e = none_some x e

looked : (s : Setup) (w : World) (actor : ℕ) (x y : Op) → Some y ≡ Some x
    → looks_to_change (table s w) w actor y ≡ looks_to_change (table s w) w actor x
looked s w actor x y e = ap (λ (z : Op). looks_to_change (table s w) w actor z) (some_same y x e)

op_looked : (s : Setup) (w : World) (actor : ℕ) (a : Actor) (n : ℕ) (c : Command) (x : Op) → op_of s c ≡ Some x
    → look_row s w actor a n c ≡ looks_to_change (table s w) w actor x
op_looked s w actor a n (command.SetIff file name flags) x e = looked s w actor x _ e
op_looked s w actor a n (command.SetQueue file flags) x e = looked s w actor x _ e
op_looked s w actor a n (command.Close file) x e = looked s w actor x _ e
op_looked s w actor a n (command.Persist file on_) x e = looked s w actor x _ e
op_looked s w actor a n (command.HdrSize file size) x e = looked s w actor x _ e
op_looked s w actor a n (command.Steer file program) x e = looked s w actor x _ e
op_looked s w actor a n (command.Filter file program) x e = looked s w actor x _ e
op_looked s w actor a n (command.Tick now) x e = looked s w actor x _ e
op_looked s w actor a n (command.Resize file capacity) x e = looked s w actor x _ e
op_looked s w actor a n c x e = none_some x e

op_published : (s : Setup) (w : World) (actor : ℕ) (d : come.Doing) (c : Command) (x : Op) → op_of s c ≡ Some x
    → publish_row s w actor d c ≡ publishes s w actor d c
op_published s w actor d (command.SetIff file name flags) x e = refl
op_published s w actor d (command.SetQueue file flags) x e = refl
op_published s w actor d (command.Close file) x e = refl
op_published s w actor d (command.Persist file on_) x e = refl
op_published s w actor d (command.HdrSize file size) x e = refl
op_published s w actor d (command.Steer file program) x e = refl
op_published s w actor d (command.Filter file program) x e = refl
op_published s w actor d (command.Tick now) x e = refl
op_published s w actor d (command.Resize file capacity) x e = refl
op_published s w actor d c x e = none_some x e

-- ---- its look

looks_in : (a : Asking) (x : Shared) (actors : List Actor) (said : List Said) (act : Actor) (y : Op) → IsHeld (setup a) x
    → IsItsOp a y
    → row (setup a) (world_in x actors said) event.Look a.actor act a.number a.command
    ≡ looks_to_change x.ops.table (world_in x actors said) a.actor y
looks_in a x actors said act y held is =
    op_looked (setup a) (world_in x actors said) a.actor act a.number a.command y is
    ∙ ap (λ (t : Table). looks_to_change t (world_in x actors said) a.actor y) (sym held.table)

next_look : (a : Asking) (x : Shared) (y : Op) → IsItsOp a y → (actors : List Actor) (said : List Said)
    → next_kind (world_in x actors said) come.Doing.Begun a.command ≡ Some event.Look
next_look a x y is actors said =
    ap (λ (k : EventKind). Some k) (look_is (world_in x actors said) (setup a) a.command y is)

-- nobody holds the writer
free_writer : (a : Asking) (x : Shared) (y : Op) → MayGo a doing.Begun x → IsItsOp a y → is_none x.writer ≡ true
free_writer a x y go is =
    let m = may_do go event.Look (next_look a x y is) in
    (only_some (is_none x.writer)
    (decided (world_in x m.actors m.said) a.actor (course x.ops.table y) (refuse x.ops.table y)) m.event.effect
    (sym (looks_in a x m.actors m.said (actor_at a come.Doing.Begun m.rest) y m.held is) ∙ m.event.is_row)).0

decides : (a : Asking) (x : Shared) (y : Op) (o : Option TapErr) → MayGo a doing.Begun x → IsItsOp a y
    → refuse x.ops.table y ≡ o
    → (actors : List Actor) (said : List Said) (rest : List Numbered)
    → row (setup a) (world_in x actors said) event.Look a.actor (actor_at a come.Doing.Begun rest) a.number a.command
    ≡ Some (decided (world_in x actors said) a.actor (course x.ops.table y) o)
decides a x y o m is e actors said rest =
    let w = world_in x actors said in
    looks_in a x actors said (actor_at a come.Doing.Begun rest) y m.1.held is
    ∙ ap (λ (b : Bool). only_if b (decided w a.actor (course x.ops.table y) (refuse x.ops.table y))) (free_writer a x y m is)
    ∙ ap (λ (q : Option TapErr). Some (decided w a.actor (course x.ops.table y) q)) e

pub look_refused : (a : Asking) (x : Shared) (y : Op) (refusal : TapErr) → MayGo a doing.Begun x → IsItsOp a y
    → refuse x.ops.table y ≡ Some refusal
    → Went a doing.Begun x x (on.Ends (length x.ops.ops) (answer.Tap refusal))
look_refused a x y refusal m is e = (
  event.Look,
  done a doing.Begun event.Look x x (on.Ends (length x.ops.ops) (answer.Tap refusal)) [] [] [] x.writer
      (world.Onward.Ends (length x.ops.ops) (answer.Tap refusal))
      (rests a x x.writer m.1.held) m.1.held
      (record { is_next = next_look a x y is; is_row = decides a x y (Some refusal) m is e }) refl tt,
)

-- ---- how it goes on

come_if : (vhosts : List (Option Side)) (b : Bool) (d e : Doing)
    → come_of vhosts (if b then d else e) ≡ (if b then come_of vhosts d else come_of vhosts e)
come_if vhosts true d e = refl
come_if vhosts false d e = refl

come_course : (vhosts : List (Option Side)) (t : Table) (y : Op) → come_of vhosts (course_of t y) ≡ course t y
come_course vhosts t (op.SetIff file device flags) = refl
come_course vhosts t (op.SetQueue file flags) = come_if vhosts (is_set flags IFF_ATTACH_QUEUE) _ _
come_course vhosts t (op.Shut file) = come_if vhosts (is_enabled (file_at t file).attachment) _ _
come_course vhosts t (op.Resize file capacity) = refl
come_course vhosts t (op.HdrSize file size) = refl
come_course vhosts t (op.Persist file on_) = refl
come_course vhosts t (op.Learn file hash) = refl
come_course vhosts t (op.Tick now) = refl
come_course vhosts t (op.Steering file program) = refl
come_course vhosts t (op.Filter file program) = refl
come_course vhosts t (op.Back file side vhost) = refl

suits_if : (vhosts : List (Option Side)) (a : Asking) (b : Bool) (d e : Doing) → Suits vhosts a d → Suits vhosts a e
    → Suits vhosts a (if b then d else e)
suits_if vhosts a true d e h k = h
suits_if vhosts a false d e h k = k

abbrev capacity_of_op : Op → ℕ × ℕ
capacity_of_op (op.Resize file capacity) = (file, capacity)
capacity_of_op other = (0, 0)

resize_is : (s : Setup) (c : Command) (file capacity : ℕ) → op_of s c ≡ Some (op.Resize file capacity)
    → c ≡ command.Resize file capacity
resize_is s (command.Resize f k) file capacity e =
    let same : op.Resize f k ≡ op.Resize file capacity = some_same _ _ e in
    let both : (f, k) ≡ (file, capacity) = ap capacity_of_op same in
    ap (λ (p : ℕ × ℕ). command.Resize p.0 p.1) both
resize_is s (command.SetIff file_ name flags) file capacity e = absurd (cc (e))
resize_is s (command.SetQueue file_ flags) file capacity e = absurd (cc (e))
resize_is s (command.Close file_) file capacity e = absurd (cc (e))
resize_is s (command.Persist file_ on_) file capacity e = absurd (cc (e))
resize_is s (command.HdrSize file_ size) file capacity e = absurd (cc (e))
resize_is s (command.Steer file_ program) file capacity e = absurd (cc (e))
resize_is s (command.Filter file_ program) file capacity e = absurd (cc (e))
resize_is s (command.Tick now) file capacity e = absurd (cc (e))
resize_is s c file capacity e = none_some (op.Resize file capacity) e

suits_course : (vhosts : List (Option Side)) (a : Asking) (t : Table) (y : Op) → IsItsOp a y
    → Suits vhosts a (course_of t y)
suits_course vhosts a t (op.SetIff file device flags) is = is
suits_course vhosts a t (op.SetQueue file flags) is = suits_if vhosts a (is_set flags IFF_ATTACH_QUEUE) _ _ is is
suits_course vhosts a t (op.Shut file) is = suits_if vhosts a (is_enabled (file_at t file).attachment) _ _ is is
suits_course vhosts a t (op.Resize file capacity) is = resize_is (setup a) a.command file capacity is
suits_course vhosts a t (op.HdrSize file size) is = is
suits_course vhosts a t (op.Persist file on_) is = is
suits_course vhosts a t (op.Learn file hash) is = is
suits_course vhosts a t (op.Tick now) is = is
suits_course vhosts a t (op.Steering file program) is = is
suits_course vhosts a t (op.Filter file program) is = is
suits_course vhosts a t (op.Back file side vhost) is = is

pub look_held : (a : Asking) (x : Shared) (y : Op) → MayGo a doing.Begun x → IsItsOp a y → refuse x.ops.table y ≡ None
    → Went a doing.Begun x (record x { writer = Some a.actor })
    (on.Goes (length x.ops.ops) (course_of x.ops.table y) (found.Version (length x.ops.ops)))
look_held a x y m is e = (
  event.Look,
  done a doing.Begun event.Look x (record x { writer = Some a.actor })
      (on.Goes (length x.ops.ops) (course_of x.ops.table y) (found.Version (length x.ops.ops))) [] [] [] (Some a.actor)
      (world.Onward.Goes (length x.ops.ops) (course x.ops.table y) (found.Version (length x.ops.ops)))
      (rests a x (Some a.actor) m.1.held) m.1.held
      (record { is_next = next_look a x y is; is_row = decides a x y None m is e })
      (ap (λ (d : come.Doing). world.Onward.Goes (length x.ops.ops) d (found.Version (length x.ops.ops)))
      (sym (come_course x.vhosts x.ops.table y)))
      (suits_course x.vhosts a x.ops.table y is),
)

-- ---- its publication

-- how far a command has come that is to publish its own operation
pub record IsToPublish (d : come.Doing) : Type 0 where
  pub next : (w : World) (c : Command) → next_kind w d c ≡ Some event.Publish
  pub own : (s : Setup) (w : World) (actor : ℕ) (c : Command) → publishes s w actor d c ≡ publishes_op s w actor d c

abbrev if_held : World → ℕ → Table → Op → come.Doing → Option Effect
if_held w actor t y d = if holds_writer w actor && is_none (refuse t y) then publishes_own w y d else None

publishes_in : (a : Asking) (x : Shared) (d : come.Doing) (actors : List Actor) (said : List Said) (y : Op)
    → IsHeld (setup a) x → IsItsOp a y → IsToPublish d
    → publish_row (setup a) (world_in x actors said) a.actor d a.command
    ≡ if_held (world_in x actors said) a.actor x.ops.table y d
publishes_in a x d actors said y held is to =
    let w = world_in x actors said in
    op_published (setup a) w a.actor d a.command y is ∙ to.own (setup a) w a.actor a.command
    ∙ ap (λ (o : Option Op). o >>= λ (z : Op). if_held w a.actor (table (setup a) w) z d) is
    ∙ ap (λ (t : Table). if_held w a.actor t y d) (sym held.table)

if_some : (b : Bool) (o : Option Effect) (r : Effect) → (if b then o else None) ≡ Some r → b ≡ true
if_some true o r e = refl
if_some false o r e = none_some r e

holds_it : (a : Asking) (x : Shared) (d : Doing) (y : Op) → MayGo a d x → IsItsOp a y → IsToPublish (come_of x.vhosts d)
    → holds_writer (world_in x [] []) a.actor && is_none (refuse x.ops.table y) ≡ true
holds_it a x d y go is to =
    let m = may_do go event.Publish (λ actors said. to.next (world_in x actors said) a.command) in
    if_some _ (publishes_own (world_in x m.actors m.said) y (come_of x.vhosts d)) m.event.effect
    (sym (publishes_in a x (come_of x.vhosts d) m.actors m.said y m.held is to) ∙ m.event.is_row)

both_true : (b c : Bool) → b && c ≡ true → c ≡ true
both_true true c e = e
both_true false c e = absurd (true≢false (sym e))

none_is : (o : Option TapErr) → is_none o ≡ true → o ≡ None
none_is None e = refl
none_is (Some r) e = absurd (true≢false (sym e))

-- the operation is lawful
pub lawful : (a : Asking) (x : Shared) (d : Doing) (y : Op) → MayGo a d x → IsItsOp a y → IsToPublish (come_of x.vhosts d)
    → refuse x.ops.table y ≡ None
lawful a x d y m is to = none_is (refuse x.ops.table y) (both_true _ _ (holds_it a x d y m is to))

-- and names what is there
pub op_named : (a : Asking) (x : Shared) (d : Doing) (y : Op) → MayGo a d x → IsItsOp a y → IsNamed x.ops.table y
op_named a x d y m is = named_own m.1 y is

-- it is published, and the command goes on or ends so
published : (a : Asking) (x : Shared) (d : Doing) (y : Op) (writer : Option ℕ) (o : world.Onward) (how : Onward)
    → MayGo a d x → IsItsOp a y → IsToPublish (come_of x.vhosts d)
    → ((actors : List Actor) (said : List Said) → publishes_own (world_in x actors said) y (come_of x.vhosts d)
    ≡ Some (effect_with (y ∷ []) [] [] writer o))
    → written_out a.seen (come_of x.vhosts d) o ≡ onward_of x.vhosts how → SuitsOn x.vhosts a how
    → Went a d x (record x {
      ops = told_more (record { phase = x.phase; actor = a.actor; command = a.number; op = y }) x.ops;
      writer = writer;
    }) how
published a x d y writer o how m is to own onward suits = (
  event.Publish,
  done a d event.Publish x (record x {
    ops = told_more (record { phase = x.phase; actor = a.actor; command = a.number; op = y }) x.ops;
    writer = writer;
  }) how (y ∷ []) [] [] writer o (rests_publishing a x y writer m.1.held) m.1.held
      (record {
        is_next = λ actors said. to.next (world_in x actors said) a.command;
        is_row = λ actors said rest.
            publishes_in a x (come_of x.vhosts d) actors said y m.1.held is to
            ∙ ap (λ (b : Bool). if b then publishes_own (world_in x actors said) y (come_of x.vhosts d) else None)
            (holds_it a x d y m is to)
            ∙ own actors said;
      }) onward suits,
)

pub to_change : IsToPublish come.Doing.Changes
to_change = record { next = λ w c. refl; own = λ s w actor c. refl }

pub to_attach : (file : ℕ) → IsToPublish (come.Doing.Opened file)
to_attach file = record { next = λ w c. refl; own = λ s w actor c. refl }

pub to_detach : (file : ℕ) → IsToPublish (come.Doing.Withdraws file)
to_detach file = record { next = λ w c. refl; own = λ s w actor c. refl }

-- what is left, with one more operation
abbrev pub publishing : Asking → Shared → Op → Option ℕ → Shared
publishing a x y writer = record x {
  ops = told_more (record { phase = x.phase; actor = a.actor; command = a.number; op = y }) x.ops;
  writer = writer;
}

pub change_published : (a : Asking) (x : Shared) (y : Op) → MayGo a (doing.Changes y) x
    → Went a (doing.Changes y) x (publishing a x y None)
    (on.Ends (length x.ops.ops + 1) (answer.Version (length x.ops.ops + 1)))
change_published a x y m =
    published a x (doing.Changes y) y None
    (world.Onward.Ends (length x.ops.ops + 1) (answer.Version (length x.ops.ops + 1))) _ m m.1.suits to_change
    (λ actors said. refl) refl tt

pub attach_published : (a : Asking) (x : Shared) (file : ℕ) (y : Op) → MayGo a (doing.Opened file y) x
    → Went a (doing.Opened file y) x (publishing a x y None)
    (on.Ends (length x.ops.ops + 1) (answer.Version (length x.ops.ops + 1)))
attach_published a x file y m =
    published a x (doing.Opened file y) y None
    (world.Onward.Ends (length x.ops.ops + 1) (answer.Version (length x.ops.ops + 1))) _ m m.1.suits (to_attach file)
    (λ actors said. refl) refl tt

pub detach_published : (a : Asking) (x : Shared) (file : ℕ) (y : Op) → MayGo a (doing.Withdraws file y) x
    → Went a (doing.Withdraws file y) x (publishing a x y x.writer)
    (on.Goes (length x.ops.ops + 1) (doing.Withdrawn file (length x.ops.ops + 1)) (found.Version (length x.ops.ops + 1)))
detach_published a x file y m =
    published a x (doing.Withdraws file y) y x.writer
    (world.Onward.Goes (length x.ops.ops + 1) (come.Doing.Withdrawn file (length x.ops.ops + 1))
    (found.Version (length x.ops.ops + 1))) _ m m.1.suits (to_detach file)
    (λ actors said. refl) refl tt

-- ---- the same, as the code says it

pub begun_refused : (a : Asking) (x : Shared) (y : Op) (t : Table) (r : Option TapErr) (seen : ℕ) (refusal : TapErr)
    → MayGo a doing.Begun x → IsItsOp a y → t ≡ x.ops.table → r ≡ refuse t y → seen ≡ length x.ops.ops → r ≡ Some refusal
    → Went a doing.Begun x x (on.Ends seen (answer.Tap refusal))
begun_refused a x y t r seen refusal m is table_is asks sees refuses =
    subst (λ (n : ℕ). Went a doing.Begun x x (on.Ends n (answer.Tap refusal))) (sym sees)
    (look_refused a x y refusal m is
    (ap (λ (u : Table). refuse u y) (sym table_is) ∙ sym asks ∙ refuses))

pub begun_held : (a : Asking) (x : Shared) (y : Op) (t u : Table) (r : Option TapErr) (seen actor : ℕ) (d : Doing)
    → MayGo a doing.Begun x → IsItsOp a y → t ≡ x.ops.table → r ≡ refuse t y → seen ≡ length x.ops.ops → r ≡ None
    → actor ≡ a.actor → u ≡ x.ops.table → d ≡ course_of u y
    → Went a doing.Begun x (record x { writer = Some actor }) (on.Goes seen d (found.Version seen))
begun_held a x y t u r seen actor d m is table_is asks sees lawful_ own again goes =
    subst (λ (n : ℕ). Went a doing.Begun x (record x { writer = Some actor }) (on.Goes n d (found.Version n))) (sym sees)
    (subst (λ (n : ℕ). Went a doing.Begun x (record x { writer = Some n }) (on.Goes (length x.ops.ops) d (found.Version (length x.ops.ops)))) (sym own)
    (subst (λ (e : Doing). Went a doing.Begun x (record x { writer = Some a.actor }) (on.Goes (length x.ops.ops) e (found.Version (length x.ops.ops))))
    (sym (goes ∙ ap (λ (v : Table). course_of v y) again))
    (look_held a x y m is (ap (λ (v : Table). refuse v y) (sym table_is) ∙ sym asks ∙ lawful_))))

pub begun_named : (a : Asking) (x : Shared) (y : Op) (t : Table) → MayGo a doing.Begun x → IsItsOp a y → t ≡ x.ops.table
    → IsNamed t y
begun_named a x y t m is table_is = subst (λ (u : Table). IsNamed u y) (sym table_is) (op_named a x doing.Begun y m is)

-- a publication that may have failed
pub if_last : {E : Type 0} (P : Shared → Onward → Type 0) (new wanted : Shared) (how : Onward) (r : Result Onward E)
    → IfOk r (λ (o : Onward). o ≡ how) → OnOk r (new ≡ wanted) → P wanted how → IfOk r (λ (o : Onward). P new o)
if_last P new wanted how (Ok o) is left h =
    subst (λ (x : Shared). P x o) (sym left) (subst (λ (q : Onward). P wanted q) (sym is) h)
if_last P new wanted how (Err e) is left h = tt

pub detach_goes : (a : Asking) (old new : Shared) (file version : ℕ) (y : Op) → MayGo a (doing.Withdraws file y) old
    → version ≡ length old.ops.ops + 1 → new ≡ publishing a old y old.writer
    → Went a (doing.Withdraws file y) old new (on.Goes version (doing.Withdrawn file version) (found.Version version))
detach_goes a old new file version y m seen is =
    subst (λ (x : Shared). Went a (doing.Withdraws file y) old x (on.Goes version (doing.Withdrawn file version) (found.Version version)))
    (sym is)
    (subst (λ (n : ℕ). Went a (doing.Withdraws file y) old (publishing a old y old.writer)
    (on.Goes n (doing.Withdrawn file n) (found.Version n))) (sym seen) (detach_published a old file y m))
