-- This project's own: which commands took a frame out of its line: a read, the turn that copied it to a guest, the
-- operation that ended its epoch, or the resize that cut it.
use Rattle.std.specs.Prelude.{ℕ, ◌+◌, ◌==◌, ◌&&◌, not, nat_lt, if◌then◌else◌, Bool, true, false, List, [], ◌∷◌, ◌++◌, map, reverse, take, filter, filter_map, option_to_list, Option, Some, None}
use Rattle.std.specs.List.{list_any}
use Rattle.std.specs.Option.{option_map_or}
use Rattle.tap_frame.specs.declared.name.Name.{Name}
use Rattle.tap_ledger.specs.declared.fate.Fate.{Fate}
use Rattle.tap_ledger.specs.declared.fate.Fate.TheVariants as fate
use Rattle.tap_ledger.specs.declared.fate.Cause.TheVariants as cause
use Rattle.tap_steer.specs.declared.operation.Op.{Op}
use Rattle.tap_steer.specs.declared.operation.Op.TheVariants as op
use Rattle.tap_trace.specs.declared.answer.Answer.{Answer}
use Rattle.tap_trace.specs.declared.answer.Answer.TheVariants as answer
use Rattle.tap_trace.specs.declared.kind.Kind.{Kind}
use Rattle.tap_trace.specs.declared.kind.Kind.TheVariants as kind
use Rattle.tap_ground.specs.Options.{◌>>=◌, only_if}
use Rattle.tap_world.specs.Stands.{same_name}
use Rattle.tap_legal.specs.Numbered.{AnswerAt, EntryAt, OpAt, StepAt, Told}
use Rattle.tap_legal.specs.Case.{Case}
use Rattle.tap_legal.specs.Lookups.{answer_of, ending_of, is_before, taken_from, told_of}

-- ---- fates

abbrev pub waits : Fate → Bool
waits fate.Waiting = true
waits other = false

abbrev pub was_read : Fate → Bool
was_read fate.Read = true
was_read other = false

abbrev pub has_guest : Fate → Bool
has_guest fate.Guest = true
has_guest other = false

abbrev pub was_purged : Fate → Bool
was_purged (fate.Discarded cause.Purged) = true
was_purged other = false

abbrev pub was_cut : Fate → Bool
was_cut (fate.Discarded cause.Cut) = true
was_cut other = false

-- ---- resizes

-- a `resize` line: its command, the version and capacity of its operation, CLAIMED, FREED and CUT
pub record Resized : Type 0 where
  pub line : ℕ
  pub told : Told
  pub version : ℕ
  pub capacity : ℕ
  pub claimed : ℕ
  pub freed : ℕ
  pub cut : ℕ

abbrev pub resized_in : ℕ → ℕ → AnswerAt → Option Resized
resized_in version capacity a = told a.answer where
  told : Answer → Option Resized
  told (answer.Resized v claimed freed cut) = only_if (v == version) (record {
    line = a.line + 1;
    told = a.told;
    version = v;
    capacity = capacity;
    claimed = claimed;
    freed = freed;
    cut = cut;
  })
  told other = None

-- the `resize` line of an operation on a file
abbrev pub resize_by : Case → ℕ → OpAt → Option Op → Option Resized
resize_by c file o (Some (op.Resize f capacity)) = do
  a ← if f == file then answer_of c o.at.command else None
  resized_in o.at.version capacity a
resize_by c file o other = None

-- those of a file, by version
abbrev pub resizes_of : Case → ℕ → List Resized
resizes_of c file = filter_map (λ (o : OpAt). resize_by c file o o.op) c.ops

-- the places of a file, the greatest first
abbrev pub places_down : Case → ℕ → List ℕ
places_down c file =
    reverse (map (λ (e : EntryAt). e.at.place) (filter (λ (e : EntryAt). e.file == file) c.entries))

-- the places that a `resize` line cut: its CUT greatest ones below its CLAIMED that none before it cut
abbrev pub cut_by : Resized → List ℕ → List ℕ → List ℕ
cut_by r earlier places =
    take r.cut (filter (λ p. nat_lt p r.claimed && not (list_any (λ q. q == p) earlier)) places)

abbrev pub cuts_from : List ℕ → List ℕ → List Resized → List (Resized × List ℕ)
cuts_from places earlier [] = []
cuts_from places earlier (r ∷ rs) =
    let its : List ℕ = cut_by r earlier places in (r, its) ∷ cuts_from places (its ++ earlier) rs

abbrev pub cuts_of : Case → ℕ → List (Resized × List ℕ)
cuts_of c file = cuts_from (places_down c file) [] (resizes_of c file)

-- ---- who took an entry

-- the reads that tell its place
abbrev pub readers : Case → EntryAt → List Told
readers c e =
    map (λ (a : AnswerAt). a.told)
    (filter (λ a. option_map_or (λ p. p == e.at.place) (taken_from e.file a) false) c.answers)

-- the name of the frame that a receive turn copied
abbrev pub copied : Kind → Option Name
copied (kind.Copy vhost ring position name) = if ring == 0 then name else None
copied other = None

abbrev pub copies_of : Case → Name → List StepAt
copies_of c name = filter (λ (s : StepAt). option_map_or (same_name name) (copied s.at.kind) false) c.steps

abbrev pub copiers : Case → EntryAt → List Told
copiers c e = filter_map (λ (s : StepAt). told_of c s.at.command) (copies_of c e.at.name)

-- the command whose operation ended its epoch, where it was purged
abbrev pub purgers : Case → EntryAt → List Told
purgers c e =
    if was_purged e.at.fate
    then option_to_list (ending_of c e.file e.at.epoch >>= λ o. told_of c o.at.command)
    else []

-- the resize that cut it
abbrev pub cutters : Case → EntryAt → List Told
cutters c e =
    if was_cut e.at.fate
    then map (λ r. r.0.told) (filter (λ r. list_any (λ p. p == e.at.place) r.1) (cuts_of c e.file))
    else []

-- a command before this one read it, copied it or purged it
abbrev pub was_taken_before : Case → Told → EntryAt → Bool
was_taken_before c t e = list_any (λ b. is_before b t) (readers c e ++ copiers c e ++ purgers c e)

-- a command that this one is before took it or cut it
abbrev pub is_taken_after : Case → Told → EntryAt → Bool
is_taken_after c t e = list_any (λ b. is_before t b) (readers c e ++ copiers c e ++ purgers c e ++ cutters c e)
