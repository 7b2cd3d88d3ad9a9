-- This project's own: short scenarios, and the changes of their runs' traces by which one sentence fails. Each verdict
-- was written from the sentences before it was computed.
use Rattle.std.specs.Prelude.{◌≡◌, ℕ, List, [], ◌∷◌, ◌++◌, codes, Some, None, true}
use Rattle.tap_frame.specs.declared.reading.BadFrame.TheVariants as bad
use Rattle.tap_ledger.specs.declared.fate.Cause.TheVariants as cause
use Rattle.tap_ledger.specs.declared.fate.Fate.TheVariants as fate
use Rattle.tap_ledger.specs.declared.side.Side.TheVariants.{Tx}
use Rattle.tap_trace.specs.declared.answer.Answer.{Answer}
use Rattle.tap_trace.specs.declared.answer.Answer.TheVariants as answer
use Rattle.tap_trace.specs.declared.kind.Kind.TheVariants as kind
use Rattle.tap_trace.specs.declared.trace.AnswerLine.{AnswerLine}
use Rattle.tap_trace.specs.declared.trace.FilePart.{FilePart}
use Rattle.tap_trace.specs.declared.trace.OpLine.{OpLine}
use Rattle.tap_trace.specs.declared.trace.OpText.{OpText}
use Rattle.tap_trace.specs.declared.trace.OpText.TheVariants as text
use Rattle.tap_trace.specs.declared.trace.PlaceLine.{PlaceLine}
use Rattle.tap_trace.specs.declared.trace.StepLine.{StepLine}
use Rattle.example_runs.specs.Change.{change_at, with_answer, with_answers, with_entries, with_fate, with_file, with_line, with_ops, with_more, with_seen, with_steps, without}
use Rattle.example_runs.specs.Play.{judged, judged_by}
use Rattle.example_runs.specs.Texts.{alike, moved, poked}
use Rattle.example_runs.specs.Verdicts.{Change, as_it_is, sent}

-- ---- scenarios, whose traces are short enough to be counted by hand

-- two files, two guests, two vhosts of a guest
abbrev pub files : List ℕ
files = codes "tapscen 1\nfile 0 1\nfile 1 1\n"

abbrev pub two_guests : List ℕ
two_guests = codes "tapscen 1\nregion 0 0 1\nregion 1 0 1\n"

abbrev pub vhosts : List ℕ
vhosts = codes "tapscen 1\nregion 0 0 1\nvhost 0 0\nvhost 1 0\n"

-- a file is attached, and then something more is done
abbrev pub attached_and : List ℕ → List ℕ
attached_and more = codes "tapscen 1\nfile 0 2\nsetiff 0 a 1102\n" ++ more

abbrev pub send : List ℕ
send = codes "send a - 0200000000010200000000020800\n"

abbrev pub longer_send : List ℕ
longer_send = codes "send a - 020000000001020000000002080000\n"

abbrev pub read : List ℕ
read = codes "read 0 100\n"

-- the file persists, in a later phase
abbrev pub persists : List ℕ
persists = attached_and (codes "phase 1\n@0 persist 0 1\nend\n")

-- a read that finds nothing
abbrev pub reads : List ℕ
reads = attached_and read

-- a write, and a tick in a later phase
abbrev pub writes : List ℕ
writes = attached_and (codes "write 0 0200000000010200000000020800\nphase 1\n@0 tick 5\nend\n")

-- a frame is sent and read; two are; one is sent and its queue is disabled, at once or in a later phase
abbrev pub one_frame : List ℕ
one_frame = attached_and (send ++ read)

abbrev pub two_frames : List ℕ
two_frames = attached_and (send ++ longer_send ++ read ++ read)

abbrev pub ended : List ℕ
ended = attached_and (send ++ codes "setqueue 0 0400\n")

abbrev pub ended_later : List ℕ
ended_later =
    attached_and
    (codes "phase 1\n@0 send a - 0200000000010200000000020800\nend\nphase 1\n@0 setqueue 0 0400\nend\n")

-- two actors: one attaches a file, and one sends to a name that no file has
abbrev pub two_actors : List ℕ
two_actors =
    codes "tapscen 1\nfile 0 1\nphase 2\n@0 setiff 0 a 1102\n@1 send b - 0200000000010200000000020800\nend\n"

-- a backend for a ring that the vhost hasn't
abbrev pub far_ring : List ℕ
far_ring = codes "tapscen 1\nfile 0 1\nregion 0 0 4096\nvhost 0 0\nsetiff 0 a 5102\nbackend 0 5 0\n"

-- a device with two queues learns the flow of a frame that is written
abbrev pub taught : List ℕ
taught =
    codes "tapscen 1\nfile 0 1\nfile 1 1\nsetiff 0 a 1102\nsetiff 1 a 1102\n"
    ++ codes "write 0 0200000000010200000000020800\n"

-- the features of a vhost, the parts of its transmit ring, and a backend; a poke in a later phase
abbrev pub set_up : List ℕ
set_up =
    codes "tapscen 1\nfile 0 1\nregion 0 0 65536\nvhost 0 0\nsetiff 0 a 5102\nhdrsize 0 12\n"
    ++ codes "features 0 0000000100000000\nvnum 0 1 4\nvaddr 0 1 0 64 80\nbackend 0 1 0\n"
    ++ codes "phase 1\n@0 poke 0 0 00\nend\n"

-- ---- lines that are missing, and one too many

abbrev pub no_first_file : Change
no_first_file t = record t { files = without 0 t.files }

abbrev pub file_more : Change
file_more t = record t { files = t.files ++ record { file = 5; claimed = 0; freed = 0; lines = [] } ∷ [] }

abbrev pub no_first_guest : Change
no_first_guest t = record t { guests = without 0 t.guests }

abbrev pub no_first_rings : Change
no_first_rings t = record t { rings = without 0 (without 0 t.rings) }

-- ---- the table

-- the operation of a command is told of the one before it
abbrev pub told_of_first : Change
told_of_first t = with_ops 1 (change_at 0 (λ (o : OpLine). record o { command = 0 })) t

-- an answer is told of another actor; one is told in another phase
abbrev pub of_other_actor : Change
of_other_actor t = with_line 0 (λ (a : AnswerLine). record a { actor = 1 }) t

abbrev pub told_later : Change
told_later t =
    with_answers 0 (without 0)
    (with_answers 1 (λ as_. record { actor = 0; command = 0; seen = 1; answer = answer.Version 1 } ∷ as_) t)

-- a backend of a ring that isn't there publishes
abbrev pub far_backend : OpLine
far_backend = record { version = 2; command = 1; text = text.Back 0 Tx (Some 0) }

abbrev pub publishes_far : Change
publishes_far t = with_ops 0 (λ os. os ++ far_backend ∷ []) (with_answer 1 (answer.Version 2) (with_seen 1 2 t))

-- a backend has a line of numbers of a ring
abbrev pub resized_backend : Change
resized_backend t = with_answer 6 (answer.Resized 3 0 0 0) t

-- a write whose flow is learnt is told to be bad
abbrev pub bad_write : Change
bad_write t = with_answer 2 (answer.Bad bad.ShortEther) t

-- a write saw less than its actor had seen before
abbrev pub written_before : Change
written_before t = with_seen 1 0 t

-- ---- the file of a turn's learning, and of an unset

-- In a phase of four actors a backend is set, a transmit turn learns a flow, the backend is unset, and another file is
-- set. The operations are told in another order, as if the last one came first, and the turn had taught its file.
abbrev pub taught_to : ℕ → OpText → OpText
taught_to file (text.Learn f h) = text.Learn file h
taught_to file other = other

abbrev pub renumbered : ℕ → OpLine → OpLine
renumbered version o = record o { version = version }

abbrev pub last_first : List OpLine → List OpLine
last_first (a ∷ b ∷ c ∷ d ∷ []) =
    renumbered 4 d ∷ renumbered 5 a ∷ record b { version = 6; text = taught_to 1 b.text } ∷ renumbered 7 c ∷ []
last_first other = other

abbrev pub tells : ℕ → AnswerLine → AnswerLine
tells version a = record a { seen = version; answer = answer.Version version }

abbrev pub sees : ℕ → AnswerLine → AnswerLine
sees version a = record a { seen = version }

abbrev pub answers_of : ℕ → ℕ → ℕ → ℕ → List AnswerLine → List AnswerLine
answers_of set turn unset other_set (a ∷ b ∷ c ∷ d ∷ []) =
    tells set a ∷ sees turn b ∷ tells unset c ∷ tells other_set d ∷ []
answers_of set turn unset other_set others = others

abbrev pub teaches_other : Change
teaches_other t = with_ops 1 last_first (with_answers 1 (answers_of 5 6 7 4) t)

-- the other set comes second, and the unset gives up its file
abbrev pub gives_up_other : List OpLine → List OpLine
gives_up_other (a ∷ b ∷ c ∷ d ∷ []) =
    a ∷ renumbered 5 d ∷ renumbered 6 b ∷ record c { version = 7; text = text.Back 1 Tx None } ∷ []
gives_up_other other = other

abbrev pub unsets_other : Change
unsets_other t = with_ops 1 gives_up_other (with_answers 1 (answers_of 4 6 7 5) t)

-- ---- answers and lines

-- an answer didn't see what its command published
abbrev pub seen_nothing : Change
seen_nothing t = with_seen 0 0 t

-- a read tells a frame that isn't there; a read entry is one byte shorter; two entries have one name
abbrev pub reads_none : Change
reads_none t = with_answer 1 (answer.Read (sent 0) 0 (0 ∷ [])) t

abbrev pub shorter_entry : Change
shorter_entry t = with_entries (change_at 0 (λ (e : PlaceLine). record e { len = 13 })) t

abbrev pub named_as_next : Change
named_as_next t = with_entries (change_at 0 (λ (e : PlaceLine). record e { name = sent 2 })) t

-- ---- a frame that waits below, and one that came too late

-- a read found nothing at the next place, and the frame waits
abbrev pub found_next_empty : Change
found_next_empty t =
    with_fate 0 fate.Waiting (with_file (λ (f : FilePart). record f { freed = 0 }) (with_answer 2 (answer.Again 1) t))

-- nothing was placed
abbrev pub emptied : Change
emptied t = with_file (λ (f : FilePart). record f { claimed = 0; freed = 0; lines = [] }) t

abbrev pub gone : Answer
gone = answer.Dropped (Some 0) (cause.Gone 1 1 true)

abbrev pub gone_then_empty : Change
gone_then_empty t = with_answer 1 gone (with_answer 2 (answer.Again 0) (emptied t))

abbrev pub gone_by_own : Change
gone_by_own t = with_answer 1 gone (emptied t)

abbrev pub gone_too_early : Change
gone_too_early t = with_answers 1 (change_at 0 (λ (a : AnswerLine). record a { answer = gone })) (emptied t)

-- ---- steps

-- the features' step and the poke's, the first and the last one, change places
abbrev pub ends_changed : List StepLine → List StepLine
ends_changed (a ∷ b ∷ c ∷ d ∷ e ∷ []) = e ∷ b ∷ c ∷ d ∷ a ∷ []
ends_changed other = other

abbrev pub features_last : Change
features_last t = with_steps 0 ends_changed t

-- a turn fetches both chains before it copies a frame for which the first one is enough
abbrev pub fetches_more : Change
fetches_more t = with_steps 0 (with_more 9 (record { actor = 0; command = 12; kind = kind.Fetch 0 0 1 1 })) t

-- ---- each with its verdict

-- the runs' own traces
abbrev pub SmallRunsAreLegal : Type 0
SmallRunsAreLegal =
    (judged files as_it_is ≡ Some (codes "legal"))
    × (judged two_guests as_it_is ≡ Some (codes "legal"))
    × (judged vhosts as_it_is ≡ Some (codes "legal"))
    × (judged persists as_it_is ≡ Some (codes "legal"))
    × (judged reads as_it_is ≡ Some (codes "legal"))
    × (judged writes as_it_is ≡ Some (codes "legal"))
    × (judged one_frame as_it_is ≡ Some (codes "legal"))
    × (judged two_frames as_it_is ≡ Some (codes "legal"))
    × (judged ended as_it_is ≡ Some (codes "legal"))
    × (judged ended_later as_it_is ≡ Some (codes "legal"))
    × (judged two_actors as_it_is ≡ Some (codes "legal"))
    × (judged far_ring as_it_is ≡ Some (codes "legal"))
    × (judged taught as_it_is ≡ Some (codes "legal"))
    × (judged set_up as_it_is ≡ Some (codes "legal"))
    × (judged_by 4 moved as_it_is ≡ Some (codes "legal"))

abbrev pub SmallChangesAreIllegal : Type 0
SmallChangesAreIllegal =
    (judged files no_first_file ≡ Some (codes "illegal 3 c"))
    × (judged files file_more ≡ Some (codes "illegal 4 c"))
    × (judged two_guests no_first_guest ≡ Some (codes "illegal 3 g"))
    × (judged vhosts no_first_rings ≡ Some (codes "illegal 7 g"))
    × (judged persists told_of_first ≡ Some (codes "illegal 6 a"))
    × (judged two_actors of_other_actor ≡ Some (codes "illegal 4 b"))
    × (judged writes told_later ≡ Some (codes "illegal 7 b"))
    × (judged far_ring publishes_far ≡ Some (codes "illegal 4 a"))
    × (judged poked resized_backend ≡ Some (codes "illegal 12 a"))
    × (judged taught bad_write ≡ Some (codes "illegal 8 b"))
    × (judged writes written_before ≡ Some (codes "illegal 5 a"))
    × (judged_by 4 moved teaches_other ≡ Some (codes "illegal 17 a"))
    × (judged_by 4 moved unsets_other ≡ Some (codes "illegal 18 a"))
    × (judged reads seen_nothing ≡ Some (codes "illegal 4 b"))
    × (judged reads reads_none ≡ Some (codes "illegal 5 c"))
    × (judged one_frame shorter_entry ≡ Some (codes "illegal 6 b"))
    × (judged two_frames named_as_next ≡ Some (codes "illegal 8 b"))
    × (judged one_frame found_next_empty ≡ Some (codes "illegal 8 f"))
    × (judged one_frame gone_then_empty ≡ Some (codes "illegal 8 e"))
    × (judged ended gone_by_own ≡ Some (codes "illegal 4 e"))
    × (judged ended_later gone_too_early ≡ Some (codes "illegal 8 e"))
    × (judged set_up features_last ≡ Some (codes "illegal 11 g"))
    × (judged alike fetches_more ≡ Some (codes "illegal 33 g"))
