-- This project's own, clause a of a legal trace: operations, refusals by the table, and learnings. An answer is looked
-- up by the number of its command alone; whose it is, and in which phase, is a matter of clause b.
use Rattle.std.specs.Prelude.{ℕ, ◌+◌, ◌-◌, ◌==◌, ◌&&◌, ◌||◌, not, nat_le, if◌then◌else◌, Bool, true, false, List, [], ◌∷◌, ◌++◌, length, map, flat_map, is_none, option_and_then, Option, Some, None}
use Rattle.std.specs.List.{list_any, list_all}
use Rattle.std.specs.Option.{option_map_or}
use Rattle.tap_flow_key.specs.FlowKey.{hash}
use Rattle.tap_ledger.specs.declared.side.Side.{Side}
use Rattle.tap_ledger.specs.declared.side.Side.TheVariants.{Tx}
use Rattle.tap_steer.specs.declared.operation.Op.{Op}
use Rattle.tap_steer.specs.declared.operation.Op.TheVariants as op
use Rattle.tap_steer.specs.Table.{file_at}
use Rattle.tap_steer.specs.Rules.{backer, refuse}
use Rattle.tap_steer.specs.Select.{learns, shape_of}
use Rattle.scen_words.specs.declared.command.Command.{Command}
use Rattle.scen_words.specs.declared.command.Command.TheVariants as command
use Rattle.tap_trace.specs.declared.answer.Answer.{Answer}
use Rattle.tap_trace.specs.declared.answer.Answer.TheVariants as answer
use Rattle.tap_ledger.specs.declared.error.TapErr.{TapErr as TapText}
use Rattle.tap_trace.specs.declared.causes.VhostText.TheVariants as text
use Rattle.tap_world.specs.Frames.{Front, bad_in, ether_in}
use Rattle.tap_world.specs.Guests.{is_ring}
use Rattle.tap_world.specs.Setup.{op_of}
use Rattle.tap_world.specs.StepBackend.{back_refusal, side_of}
use Rattle.tap_legal.specs.Numbered.{AnswerAt, Asked, OpAt, Told}
use Rattle.tap_legal.specs.Same.{same_op, same_refusal, same_side}
use Rattle.tap_legal.specs.Case.{Case, fails_each, fails_order, of_answer, of_op}
use Rattle.tap_legal.specs.LegalAnswers.{fits_write_at}
use Rattle.tap_legal.specs.Replay.{Began, Unset}
use Rattle.tap_legal.specs.Replays.{Replays, begun_by, flows_of, unset_by, was_replayed}
use Rattle.tap_legal.specs.Lookups.{answers_told, asked_at, command_of, is_learning, learnt_by, own_ops, some_look, table_at}

-- ---- operations

-- In addition to the sentences: no version is left out.
abbrev pub fails_versions : ℕ → List OpAt → List ℕ
fails_versions version [] = []
fails_versions version (o ∷ os) =
    (if o.at.version == version then [] else o.line ∷ []) ++ fails_versions (version + 1) os

-- Each operation is lawful at the version before it,
abbrev pub is_lawful : Case → OpAt → Bool
is_lawful c o = option_map_or (λ x. is_none (refuse (table_at c (o.at.version - 1)) x)) o.op false

-- the table before a version names a vhost for this side of a file
abbrev pub had_backer : Case → ℕ → ℕ → Side → ℕ → Bool
had_backer c version file side vhost =
    option_map_or (λ v. v == vhost) (backer side (file_at (table_at c (version - 1)) file)) false

-- the operation may be one of the command: of a table command its operation; of a write or a transmit turn a learning,
-- of its file or of one that the vhost has; of a `backend` that of its file, or of one that the vhost has
abbrev pub is_op_of : Case → ℕ → Command → Op → Bool
is_op_of c version (command.Write file bytes) (op.Learn f hash) = f == file
is_op_of c version (command.TxTurn vhost) (op.Learn f hash) = had_backer c version f Tx vhost
is_op_of c version (command.Backend vhost ring (Some file)) x =
    is_ring ring && same_op x (op.Back file (side_of ring) (Some vhost))
is_op_of c version (command.Backend vhost ring None) (op.Back f side None) =
    is_ring ring && same_side side (side_of ring) && had_backer c version f side vhost
is_op_of c version other x = option_map_or (same_op x) (op_of c.setup other) false

-- and belongs to a command of its phase.
abbrev pub is_of_phase : Case → OpAt → Bool
is_of_phase c o =
    option_map_or
    (λ (a : Asked). a.told.phase == o.phase && option_map_or (is_op_of c o.at.version a.command) o.op false)
    (asked_at c o.at.command) false

-- The file of an unset's operation is the one that the ring had in the replay, where the replay reached the unset.
abbrev pub gives_up : Replays → OpAt → Option Op → Bool
gives_up rs o (Some (op.Back file side None)) =
    list_all (λ (u : Unset). option_map_or (λ f. f == file) u.file false) (unset_by o.at.command rs)
gives_up rs o other = true

-- ---- answers

-- the version that an answer tells
abbrev pub version_in : Answer → Option ℕ
version_in (answer.Version version) = Some version
version_in (answer.Resized version claimed freed cut) = Some version
version_in other = None

-- Each `ok VERSION` is one operation of that command,
abbrev pub is_published : Case → AnswerAt → Bool
is_published c a =
    option_map_or (λ v. list_any (λ (o : OpAt). o.at.version == v) (own_ops c a.told.command))
    (version_in a.answer) true

-- and each operation but a learning is one such answer.
abbrev pub tells_version : ℕ → AnswerAt → Bool
tells_version version a = option_map_or (λ v. v == version) (version_in a.answer) false

abbrev pub is_answered : Case → OpAt → Bool
is_answered c o = is_learning o.op || list_any (tells_version o.at.version) (answers_told c o.at.command)

-- Each refusal of a table command is the table's at SEEN. A resize alone has a `resize` line.
abbrev pub is_refusal : Case → ℕ → Op → TapText → Bool
is_refusal c seen x e = option_map_or (λ r. same_refusal r e) (refuse (table_at c seen) x) false

abbrev pub answers_op : Case → AnswerAt → Op → Answer → Bool
answers_op c a x (answer.Tap e) = is_refusal c a.seen x e
answers_op c a (op.Resize file capacity) (answer.Resized version claimed freed cut) = true
answers_op c a (op.Resize file capacity) other = false
answers_op c a x (answer.Version version) = true
answers_op c a x other = false

abbrev pub is_table_answer : Case → AnswerAt → Bool
is_table_answer c a =
    option_map_or (λ x. answers_op c a x a.answer) (option_and_then (op_of c.setup) (command_of c a.told.command)) true

-- For `backend` the ring's own refusals come first, then the table's at SEEN, then that of the header's size. It has no
-- `resize` line.
abbrev pub answers_back : Case → AnswerAt → Option Command → Answer → Bool
answers_back c a (Some (command.Backend vhost ring file)) (answer.Tap e) =
    option_map_or (λ r. same_refusal r e) (back_refusal (table_at c a.seen) vhost ring file) false
answers_back c a (Some (command.Backend vhost ring file)) (answer.Vhost (text.EHDR want have)) =
    is_none (back_refusal (table_at c a.seen) vhost ring file)
answers_back c a (Some (command.Backend vhost ring file)) (answer.Resized version claimed freed cut) = false
answers_back c a asked other = true

abbrev pub is_back_answer : Case → AnswerAt → Bool
is_back_answer c a = answers_back c a (command_of c a.told.command) a.answer

-- ---- learnings of writes

-- the frame of a write is accepted at a version, and has this hash
abbrev pub is_hash : Front → List ℕ → ℕ → Bool
is_hash front bytes h = is_none (bad_in front bytes) && hash (ether_in front bytes) == h

abbrev pub is_hash_at : Case → ℕ → List ℕ → ℕ → ℕ → Bool
is_hash_at c file bytes h version =
    option_map_or (λ front. is_hash front bytes h) (shape_of (table_at c version) file) false

-- Each learning of a write is of its accepted frame, whatever the answer says; where the answer is right at a version,
-- the frame is the one of such a version,
abbrev pub is_frame_at : Case → Told → AnswerAt → ℕ → List ℕ → ℕ → ℕ → Bool
is_frame_at c t a file bytes h version =
    is_hash_at c file bytes h version
    && (fits_write_at c file bytes a.answer version
    || not (some_look c t a.seen (fits_write_at c file bytes a.answer)))

abbrev pub learns_frame : Case → Command → Option Op → Told → AnswerAt → Bool
learns_frame c (command.Write file bytes) (Some (op.Learn f h)) t a =
    some_look c t a.seen (is_frame_at c t a file bytes h)
learns_frame c k x t a = true

abbrev pub is_of_frame : Case → OpAt → Bool
is_of_frame c o =
    not (is_learning o.op) || length (answers_told c o.at.command) == 0
    || option_map_or
    (λ (x : Asked). list_any (learns_frame c x.command o.op x.told) (answers_told c o.at.command))
    (asked_at c o.at.command) false

-- at most one for each.
abbrev pub is_write : Option Command → Bool
is_write (Some (command.Write file bytes)) = true
is_write other = false

abbrev pub is_other_frame : Case → OpAt → OpAt → Bool
is_other_frame c o p =
    not (is_learning o.op && is_learning p.op && o.at.command == p.at.command && is_write (command_of c p.at.command))

-- ---- learnings of transmit turns, where the replay reached the turn's end

-- a learning is of the file that the ring had as the turn began
abbrev pub is_turn_file : Replays → OpAt → Option Op → Bool
is_turn_file rs o (Some (op.Learn file h)) =
    list_all (λ (t : Began). option_map_or (λ f. f == file) t.file false) (begun_by o.at.command rs)
is_turn_file rs o other = true

abbrev pub hash_in : Option Op → ℕ
hash_in (Some (op.Learn file h)) = h
hash_in other = 0

-- Each learning is of an accepted frame, in order, at most one for each.
abbrev pub unmatched : List ℕ → List OpAt → List ℕ
unmatched [] os = map of_op os
unmatched (f ∷ fs) [] = []
unmatched (f ∷ fs) (o ∷ os) = unmatched fs (if f == hash_in o.op then os else o ∷ os)

abbrev pub turn_fails : Case → Replays → ℕ → Command → List ℕ
turn_fails c rs n (command.TxTurn vhost) =
    if was_replayed n rs
    then fails_each of_op (λ (o : OpAt). is_turn_file rs o o.op) (learnt_by c n)
    ++ unmatched (flows_of n rs) (learnt_by c n)
    else []
turn_fails c rs n other = []

-- ---- where a frame's flow is learnt

abbrev pub is_host : Answer → Bool
is_host (answer.Host len fnv) = true
is_host other = false

-- A frame has a learning only where its file learns at a version from what the actor had seen before the command up to
-- SEEN, and lacks one only where it doesn't at such a version.
abbrev pub may_learn_on : Case → Told → AnswerAt → ℕ → ℕ → Bool
may_learn_on c t a frames file =
    let learnt : ℕ = length (learnt_by c t.command) in
    (learnt == 0 || some_look c t a.seen (λ v. learns (table_at c v) file))
    && (nat_le frames learnt || some_look c t a.seen (λ v. not (learns (table_at c v) file)))

-- a write has one frame where its answer says so, a turn those that it accepted, on the file that its ring had
abbrev pub may_learn_as : Case → Replays → Told → AnswerAt → Command → Bool
may_learn_as c rs t a (command.Write file bytes) = may_learn_on c t a (if is_host a.answer then 1 else 0) file
may_learn_as c rs t a (command.TxTurn vhost) =
    not (was_replayed t.command rs)
    || list_all
    (λ (b : Began). option_map_or (may_learn_on c t a (length (flows_of t.command rs))) b.file true)
    (begun_by t.command rs)
may_learn_as c rs t a other = true

abbrev pub may_learn : Case → Replays → AnswerAt → Bool
may_learn c rs a =
    option_map_or (λ (x : Asked). may_learn_as c rs x.told a x.command) (asked_at c a.told.command) true

-- ---- the clause

abbrev pub a_fails : Case → Replays → List ℕ
a_fails c rs =
    fails_versions 1 c.ops
    ++ fails_each of_op (is_lawful c) c.ops
    ++ fails_each of_op (is_of_phase c) c.ops
    ++ fails_each of_op (λ (o : OpAt). gives_up rs o o.op) c.ops
    ++ fails_each of_answer (is_published c) c.answers
    ++ fails_each of_op (is_answered c) c.ops
    ++ fails_each of_answer (is_table_answer c) c.answers
    ++ fails_each of_answer (is_back_answer c) c.answers
    ++ fails_each of_op (is_of_frame c) c.ops
    ++ fails_order of_op (is_other_frame c) c.ops
    ++ flat_map (λ (x : Asked). turn_fails c rs x.told.command x.command) c.asked
    ++ fails_each of_answer (may_learn c rs) c.answers
