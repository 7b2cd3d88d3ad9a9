-- What each event of a command on the queue table says where it ends it.
use Rattle.std.proofs.Common.{◌≡◌, ℕ, ◌+◌, List, [], ◌∷◌, ◌++◌, Bool, true, false, Option, Some, None, refl, sym, ap, ◌∙◌, subst, true≢false, arith}
use Rattle.std.specs.Prelude.{◌&&◌, if◌then◌else◌, is_none, slice_get}
use Rattle.std.proofs.lemmas.Bool.{eqb-true}
use Rattle.std.proofs.lemmas.List.{append-nil}
use Rattle.tap_ledger.specs.declared.error.TapErr.{TapErr}
use Rattle.tap_steer.specs.declared.operation.Op.{Op}
use Rattle.tap_steer.specs.declared.operation.Op.TheVariants as op
use Rattle.tap_steer.specs.Rules.{refuse}
use Rattle.tap_steer.specs.Table.{Table, file_at, is_enabled, is_set}
use Rattle.tap_steer.specs.declared.operation.TheConstants.{IFF_ATTACH_QUEUE}
use Rattle.scen_words.specs.declared.command.Command.{Command}
use Rattle.scen_words.specs.declared.command.Command.TheVariants as command
use Rattle.tap_trace.specs.declared.answer.Answer.TheVariants as answer
use Rattle.tap_world.specs.declared.event.EventKind.{EventKind}
use Rattle.tap_world.specs.declared.event.EventKind.TheVariants as event
use Rattle.tap_world.specs.declared.told.Published.{Published}
use Rattle.tap_world.specs.ByNumber.{at}
use Rattle.tap_world.specs.Effect.Onward.{Ends}
use Rattle.tap_world.specs.Line.{File, first_that, has_batch, freed, in_batch, in_ring, is_over, last_that}
use Rattle.tap_world.specs.LineSteps.{ready_front}
use Rattle.tap_world.specs.Scripts.{first_kind, purge_next, shrink_next}
use Rattle.tap_world.specs.Setup.{Numbered, Setup, op_of}
use Rattle.tap_world.specs.SoundActors.{attaches, can_be}
use Rattle.tap_world.specs.Step.{row}
use Rattle.tap_world.specs.Step as rows
use Rattle.tap_world.specs.StepRing as ring
use Rattle.tap_world.specs.StepTable as tables
use Rattle.tap_world.specs.StepTransmits as tx_turns
use Rattle.tap_world.specs.World.{Actor, Doing, World, holds_writer, newest, table}
use Rattle.tap_world.specs.World.Doing.{Backed, Backs, Begun, Changes, Disowned, Given, Hosts, Learns, Opened, Opens, Owns, Placed, Purges, Reads, Receives, Released, Resizes, Routed, Shrinks, Teaches, Transmits, Unbacked, Withdrawn, Withdraws}
use Rattle.tap_sound.proofs.Kit.{some_same, where_if, where_only, where_then}
use Rattle.tap_sound.proofs.Steps.{held, or_else, turning}
use Rattle.tap_answers.specs.Laws.{is_operation}
use Rattle.tap_answers.specs.Says.{SaysBy}
use Rattle.tap_answers.specs.SaysOperations.{IsPublished, IsUnlawful}
use Rattle.tap_answers.specs.SaysShared.{Occasion, as_its}
use Rattle.tap_answers.proofs.NextKinds.{at_file_kind, at_kind, either_kind}
use Rattle.tap_answers.proofs.Kit.{at_end, table_now}
use Rattle.tap_answers.proofs.Rows.{AllSay, GoesOn, Known, RowSays, Says, actor_at, at_doing, sees_newest, sees_next}

-- ---- the commands

-- how far they come
abbrev IsItsDoing : Doing → Type 0
IsItsDoing Begun = Unit {0}
IsItsDoing Changes = Unit {0}
IsItsDoing (Opens file) = Unit {0}
IsItsDoing (Opened file) = Unit {0}
IsItsDoing (Withdraws file) = Unit {0}
IsItsDoing (Withdrawn file version) = Unit {0}
IsItsDoing (Purges file version) = Unit {0}
IsItsDoing (Resizes file capacity) = Unit {0}
IsItsDoing (Shrinks file places cuts) = Unit {0}
IsItsDoing d = ⊥

-- a resize, which tells more than its version
abbrev is_sizing : Command → Bool
is_sizing (command.Resize file capacity) = true
is_sizing c = false

-- a command on the table has this operation; it looks, publishes and ends by the rows of such commands, and is no turn
record IsOperation (s : Setup) (w : World) (me : ℕ) (c : Command) (x : Op) : Type 0 where
  op : op_of s c ≡ Some x
  first : first_kind w c ≡ event.Look
  look : (a : Actor) (n : ℕ) → rows.look_row s w me a n c ≡ tables.looks_to_change (table s w) w me x
  changes : rows.publish_row s w me Changes c ≡ tables.publishes_op s w me Changes c
  opened : (file : ℕ) → rows.publish_row s w me (Opened file) c ≡ tables.publishes_op s w me (Opened file) c
  withdraws : (file : ℕ) → rows.publish_row s w me (Withdraws file) c ≡ tables.publishes_op s w me (Withdraws file) c
  refused : (o : Occasion) (seen : ℕ) (e : TapErr) → IsUnlawful s o x seen e → SaysBy s o c seen (answer.Tap e)
  version : (o : Occasion) (seen v : ℕ) → is_sizing c ≡ false → IsPublished o x seen v
      → SaysBy s o c seen (answer.Version v)

plain : (s : Setup) (w : World) (me : ℕ) (c : Command) → is_operation c ≡ true → (x : Op) × IsOperation s w me c x
plain s w me (command.SetIff file device flags) is = (
  _,
  record {
    op = refl;
    first = refl;
    look = λ a n. refl;
    changes = refl;
    opened = λ file. refl;
    withdraws = λ file. refl;
    refused = λ o seen e h. h;
    version = λ o seen v other h. h;
  },
)
plain s w me (command.SetQueue file flags) is = (
  _,
  record {
    op = refl;
    first = refl;
    look = λ a n. refl;
    changes = refl;
    opened = λ file. refl;
    withdraws = λ file. refl;
    refused = λ o seen e h. h;
    version = λ o seen v other h. h;
  },
)
plain s w me (command.Close file) is = (
  _,
  record {
    op = refl;
    first = refl;
    look = λ a n. refl;
    changes = refl;
    opened = λ file. refl;
    withdraws = λ file. refl;
    refused = λ o seen e h. h;
    version = λ o seen v other h. h;
  },
)
plain s w me (command.Persist file on) is = (
  _,
  record {
    op = refl;
    first = refl;
    look = λ a n. refl;
    changes = refl;
    opened = λ file. refl;
    withdraws = λ file. refl;
    refused = λ o seen e h. h;
    version = λ o seen v other h. h;
  },
)
plain s w me (command.HdrSize file size) is = (
  _,
  record {
    op = refl;
    first = refl;
    look = λ a n. refl;
    changes = refl;
    opened = λ file. refl;
    withdraws = λ file. refl;
    refused = λ o seen e h. h;
    version = λ o seen v other h. h;
  },
)
plain s w me (command.Steer file program) is = (
  _,
  record {
    op = refl;
    first = refl;
    look = λ a n. refl;
    changes = refl;
    opened = λ file. refl;
    withdraws = λ file. refl;
    refused = λ o seen e h. h;
    version = λ o seen v other h. h;
  },
)
plain s w me (command.Filter file program) is = (
  _,
  record {
    op = refl;
    first = refl;
    look = λ a n. refl;
    changes = refl;
    opened = λ file. refl;
    withdraws = λ file. refl;
    refused = λ o seen e h. h;
    version = λ o seen v other h. h;
  },
)
plain s w me (command.Tick now) is = (
  _,
  record {
    op = refl;
    first = refl;
    look = λ a n. refl;
    changes = refl;
    opened = λ file. refl;
    withdraws = λ file. refl;
    refused = λ o seen e h. h;
    version = λ o seen v other h. h;
  },
)
plain s w me (command.Resize file capacity) is = (
  _,
  record {
    op = refl;
    first = refl;
    look = λ a n. refl;
    changes = refl;
    opened = λ file. refl;
    withdraws = λ file. refl;
    refused = λ o seen e h. h;
    version = λ o seen v other h. absurd (true≢false other);
  },
)
plain s w me c is = absurd (true≢false (sym is))

-- no other doing is one of theirs
only_its : (d : Doing) (c : Command) → is_operation c ≡ true → can_be d c ≡ true → IsItsDoing d
only_its Begun c is can = tt
only_its Changes c is can = tt
only_its (Opens file) c is can = tt
only_its (Opened file) c is can = tt
only_its (Withdraws file) c is can = tt
only_its (Withdrawn file version) c is can = tt
only_its (Purges file version) c is can = tt
only_its (Resizes file capacity) c is can = tt
only_its (Shrinks file places cuts) c is can = tt
only_its (Routed file epoch len) (command.Send device hdr bytes) is can = absurd (true≢false (sym is))
only_its (Routed file epoch len) c is can = absurd (true≢false (sym can))
only_its (Placed file place epoch len) (command.Send device hdr bytes) is can = absurd (true≢false (sym is))
only_its (Placed file place epoch len) c is can = absurd (true≢false (sym can))
only_its (Reads file room front) (command.Read other asked) is can = absurd (true≢false (sym is))
only_its (Reads file room front) c is can = absurd (true≢false (sym can))
only_its (Hosts file ether learns) (command.Write other bytes) is can = absurd (true≢false (sym is))
only_its (Hosts file ether learns) c is can = absurd (true≢false (sym can))
only_its (Learns file ether) (command.Write other bytes) is can = absurd (true≢false (sym is))
only_its (Learns file ether) c is can = absurd (true≢false (sym can))
only_its (Backs refusal) (command.Backend vhost r asked) is can = absurd (true≢false (sym is))
only_its (Backs refusal) c is can = absurd (true≢false (sym can))
only_its (Backed file) (command.Backend vhost r asked) is can = absurd (true≢false (sym is))
only_its (Backed file) c is can = absurd (true≢false (sym can))
only_its (Owns file version) (command.Backend vhost r asked) is can = absurd (true≢false (sym is))
only_its (Owns file version) c is can = absurd (true≢false (sym can))
only_its (Unbacked file) (command.Backend vhost r asked) is can = absurd (true≢false (sym is))
only_its (Unbacked file) c is can = absurd (true≢false (sym can))
only_its (Disowned file) (command.Backend vhost r asked) is can = absurd (true≢false (sym is))
only_its (Disowned file) c is can = absurd (true≢false (sym can))
only_its (Released file) (command.Backend vhost r asked) is can = absurd (true≢false (sym is))
only_its (Released file) c is can = absurd (true≢false (sym can))
only_its (Receives file t) (command.RxTurn vhost) is can = absurd (true≢false (sym is))
only_its (Receives file t) c is can = absurd (true≢false (sym can))
only_its (Transmits file t chains) (command.TxTurn vhost) is can = absurd (true≢false (sym is))
only_its (Transmits file t chains) c is can = absurd (true≢false (sym can))
only_its (Given file t chains f) (command.TxTurn vhost) is can = absurd (true≢false (sym is))
only_its (Given file t chains f) c is can = absurd (true≢false (sym can))
only_its (Teaches file t chains f) (command.TxTurn vhost) is can = absurd (true≢false (sym is))
only_its (Teaches file t chains f) c is can = absurd (true≢false (sym can))

-- what changes the table alone, and what attaches, is no resize
changes_size : (c : Command) → can_be Changes c ≡ true → is_sizing c ≡ false
changes_size (command.Resize file capacity) can = absurd (true≢false (sym can))
changes_size c can = refl

attaches_size : (file : ℕ) (c : Command) → attaches file c ≡ true → is_sizing c ≡ false
attaches_size file (command.Resize other capacity) can = absurd (true≢false (sym can))
attaches_size file c can = refl

-- ---- their events

-- the operation that is published at the event
pub its_version : (o : Occasion) (x : Op) → o.after.ops ≡ o.before.ops ++ as_its o x ∷ []
    → IsPublished o x (newest o.before + 1) (newest o.before + 1)
its_version o x is = record {
  is_seen = refl;
  operation = record {
    index = newest o.before;
    is = omega arith;
    published = ap (λ (l : List Published). slice_get l (newest o.before)) is
        ∙ at_end o.before.ops (as_its o x);
  };
}

module _ (s : Setup) (w u : World) (me low n : ℕ) (script : List Numbered) (c : Command) (x : Op)
    (its : IsOperation s w me c x) where
  abbrev on : Doing → Occasion
  on d = at_doing w u me low n d

  abbrev At : Doing → EventKind → Type 0
  At d j = AllSay s (on d) c (row s w j me (actor_at low script d) n c)

  -- a command on the table goes on to no purge by its look
  on_course : (seen : ℕ) (t : Table) (y : Op) → GoesOn (on Begun) seen (tables.course t y)
  on_course seen t (op.SetQueue file flags) = go (is_set flags IFF_ATTACH_QUEUE)
    where
      go : (b : Bool) → GoesOn (on Begun) seen (if b then Opens file else Withdraws file)
      go true = tt
      go false = tt
  on_course seen t (op.Shut file) = go (is_enabled (file_at t file).attachment)
    where
      go : (b : Bool) → GoesOn (on Begun) seen (if b then Withdraws file else Changes)
      go true = tt
      go false = tt
  on_course seen t (op.SetIff file device flags) = tt
  on_course seen t (op.Resize file capacity) = tt
  on_course seen t other = tt

  decides : Known s (on Begun) c → (o : Option TapErr) → refuse (table s w) x ≡ o
      → RowSays s (on Begun) c (tables.decided w me (tables.course (table s w) x) o)
  decides k (Some e) is = λ left. (
    its.refused (on Begun) (newest w) e (record {
      looked = refl;
      refused = ap (λ (t : Table). refuse t x) (table_now s w) ∙ is;
      none = left.ops ∙ append-nil w.ops;
    }),
    sees_newest s (on Begun) c k _ left.ops,
  )
  decides k None is = λ left. on_course (newest w) (table s w) x

  looked : Known s (on Begun) c → At Begun event.Look
  looked k = subst (AllSay s (on Begun) c) (sym (its.look (actor_at low script Begun) n))
      (where_only (RowSays s (on Begun) c) (is_none w.writer)
      (tables.decided w me (tables.course (table s w) x) (refuse (table s w) x)) (λ b. decides k _ refl))

  -- a publication of its operation
  publishes : (d : Doing) → ((y : Op) → y ≡ x → AllSay s (on d) c (tables.publishes_own w y d))
      → AllSay s (on d) c (tables.publishes_op s w me d c)
  publishes d h = where_then (RowSays s (on d) c) (op_of s c) _ (λ y e. where_if (RowSays s (on d) c)
      (holds_writer w me && is_none (refuse (table s w) y)) (tables.publishes_own w y d)
      (λ b. h y (some_same y x (sym e ∙ its.op))))

  ends : (d : Doing) → Known s (on d) c → is_sizing c ≡ false → (y : Op) → y ≡ x
      → RowSays s (on d) c
      (tables.publishes_with w y None (λ version. Ends version (answer.Version version)))
  ends d k other y same left = (
    its.version (on d) (newest w + 1) (newest w + 1) other
        (subst (λ (z : Op). IsPublished (on d) z (newest w + 1) (newest w + 1)) same (its_version (on d) y left.ops)),
    sees_next s (on d) c k _ left.ops,
  )

  changed : Known s (on Changes) c → At Changes event.Publish
  changed k = subst (AllSay s (on Changes) c) (sym its.changes)
      (publishes Changes (λ y same. ends Changes k (changes_size c k.can) y same))

  opened : (file : ℕ) → Known s (on (Opened file)) c → At (Opened file) event.Publish
  opened file k = subst (AllSay s (on (Opened file)) c) (sym (its.opened file))
      (publishes (Opened file) (λ y same. ends (Opened file) k (attaches_size file c k.can) y same))

  withdraws : (file : ℕ) → At (Withdraws file) event.Publish
  withdraws file = subst (AllSay s (on (Withdraws file)) c) (sym (its.withdraws file))
      (publishes (Withdraws file) (λ y same left. tt))

  reopens : (file : ℕ) → At (Opens file) event.Reopen
  reopens file = held (RowSays s (on (Opens file)) c) w me (ring.reopens w low (Opens file))
      (where_then (RowSays s (on (Opens file)) c) (at w.files file) _ (λ f e1 left. tt))

  shuts : (file version : ℕ) → At (Withdrawn file version) event.Shut
  shuts file version = held (RowSays s (on (Withdrawn file version)) c) w me (ring.shuts w low (Withdrawn file version))
      (where_then (RowSays s (on (Withdrawn file version)) c) (at w.files file) _ (λ f e1 left. (refl, refl)))

  purges_out : (file version : ℕ) → At (Purges file version) event.Out
  purges_out file version = let P = RowSays s (on (Purges file version)) c in
      or_else P (ring.leaves s w low (Purges file version)) (tx_turns.turns w me n low (Purges file version) c)
      (where_then P (at w.files file) _ (λ f e1. where_then P (ring.name_at f.line (first_that in_batch f.line)) _
      (λ m e2 left. tt)))
      (turning P w c (tx_turns.goes_on w me low (Purges file version)) (λ vhost v m. tt))

  purges_on : (file version : ℕ) → At (Purges file version) event.Move
  purges_on file version = let P = RowSays s (on (Purges file version)) c in
      where_then P (at w.files file) _ (λ f e1. where_then P (ring.name_at f.line (ready_front f.line)) _
      (λ m e2 left. tt))

  sizes : (file capacity : ℕ) → At (Resizes file capacity) event.Resize
  sizes file capacity = held (RowSays s (on (Resizes file capacity)) c) w me (ring.resizes w low (Resizes file capacity))
      (where_then (RowSays s (on (Resizes file capacity)) c) (at w.files file) _ (λ f e1 left. tt))

  cuts : (file places n_cut : ℕ) → At (Shrinks file places n_cut) event.Cut
  cuts file places n_cut = let P = RowSays s (on (Shrinks file places n_cut)) c in
      held P w me (ring.cuts w low (Shrinks file places n_cut)) (where_then P (at w.files file) _
      (λ f e1. where_then P (ring.name_at f.line (last_that in_ring f.line)) _ (λ m e2 left. tt)))

  -- ---- as far as it has come, but for the end of a resize

  op_says : (d : Doing) → IsItsDoing d
      → ((file places k : ℕ) → d ≡ Shrinks file places k → Known s (on d) c → (f : File) → at w.files file ≡ Some f
      → is_over f ≡ false → At d event.Publish)
      → Says s w u me low n script d c
  op_says Begun is sized k j next = at_kind (At Begun) j (first_kind w c) next
      (subst (At Begun) (sym its.first) (looked k))
  op_says Changes is sized k j next = at_kind (At Changes) j event.Publish next (changed k)
  op_says (Opens file) is sized k j next = at_kind (At (Opens file)) j event.Reopen next (reopens file)
  op_says (Opened file) is sized k j next = at_kind (At (Opened file)) j event.Publish next (opened file k)
  op_says (Withdraws file) is sized k j next = at_kind (At (Withdraws file)) j event.Publish next (withdraws file)
  op_says (Withdrawn file version) is sized k j next =
      at_kind (At (Withdrawn file version)) j event.Shut next (shuts file version)
  op_says (Purges file version) is sized k j next =
      at_file_kind (At (Purges file version)) (at w.files file) purge_next j next
      (λ f e1. either_kind (At (Purges file version)) (has_batch f) event.Out event.Move
      (λ b. purges_out file version) (λ b. purges_on file version))
  op_says (Resizes file capacity) is sized k j next =
      at_kind (At (Resizes file capacity)) j event.Resize next (sizes file capacity)
  op_says (Shrinks file places m) is sized k j next =
      at_file_kind (At (Shrinks file places m)) (at w.files file) shrink_next j next
      (λ f e1. either_kind (At (Shrinks file places m)) (is_over f) event.Cut event.Publish
      (λ b. cuts file places m) (λ b. sized file places m refl k f e1 b))
  op_says d is sized k j next = absurd is

-- ---- the end of a resize

-- a resize of this file is published
resized : (s : Setup) (w u : World) (me low n : ℕ) (script : List Numbered) (file asked places m : ℕ) (f : File)
    → at w.files file ≡ Some f → is_over f ≡ false
    → Known s (at_doing w u me low n (Shrinks file places m)) (command.Resize file asked)
    → AllSay s (at_doing w u me low n (Shrinks file places m)) (command.Resize file asked)
    (rows.publish_row s w me (Shrinks file places m) (command.Resize file asked))
resized s w u me low n script file asked places m f is fits k =
    let o = at_doing w u me low n (Shrinks file places m) in
    let c = command.Resize file asked in
    let P = RowSays s o c in
    let cut = k.cuts file asked file places m refl refl in
    let same : f ≡ cut.f = some_same f cut.f (sym is ∙ cut.is_there) in
    where_if P (holds_writer w me && is_none (refuse (table s w) (op.Resize file asked)))
    (tables.publishes_own w (op.Resize file asked) (Shrinks file places m))
    (λ b. where_then P (at w.files file) _ (λ g e1 left. (
      record {
        published = its_version o (op.Resize file asked) left.ops;
        shrinks = cut;
        is_free = ap (λ (y : File). freed y) (some_same g cut.f (sym e1 ∙ cut.is_there));
        fits = ap (λ (y : File). is_over y) (sym same) ∙ fits;
      },
      sees_next s o c k _ left.ops,
    )))

-- also where it has come to one of the same
sized_by : (s : Setup) (w u : World) (me low n : ℕ) (script : List Numbered) (c : Command) (d : Doing)
    (file places m : ℕ) → d ≡ Shrinks file places m → Known s (at_doing w u me low n d) c → (f : File)
    → at w.files file ≡ Some f → is_over f ≡ false
    → AllSay s (at_doing w u me low n d) c (rows.publish_row s w me d c)
sized_by s w u me low n script c d file places m is k f at_ fits =
    subst (λ (e : Doing). Known s (at_doing w u me low n e) c
    → AllSay s (at_doing w u me low n e) c (rows.publish_row s w me e c)) (sym is)
    (λ h. go c h) k
  where
    go : (q : Command) → Known s (at_doing w u me low n (Shrinks file places m)) q
        → AllSay s (at_doing w u me low n (Shrinks file places m)) q (rows.publish_row s w me (Shrinks file places m) q)
    go (command.Resize other asked) h =
        subst (λ (q : Command). Known s (at_doing w u me low n (Shrinks file places m)) q
        → AllSay s (at_doing w u me low n (Shrinks file places m)) q
        (rows.publish_row s w me (Shrinks file places m) q))
        (ap (λ (i : ℕ). command.Resize i asked) (sym (eqb-true other file h.can)))
        (λ g. resized s w u me low n script file asked places m f at_ fits g) h
    go q h = absurd (true≢false (sym h.can))

-- each event of a command on the table
pub operations_by : (s : Setup) (w u : World) (me low n : ℕ) (script : List Numbered) (d : Doing) (c : Command)
    → is_operation c ≡ true → Says s w u me low n script d c
operations_by s w u me low n script d c is k j next =
    let its = plain s w me c is in
    op_says s w u me low n script c its.0 its.1 d (only_its d c is k.can)
    (λ file places m same known f at_ fits.
    sized_by s w u me low n script c d file places m same known f at_ fits) k j next
