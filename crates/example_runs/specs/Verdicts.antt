-- This project's own: verdicts on the traces of runs, and on the same with one thing changed. Each was written from the
-- rules before it was computed.
use Rattle.std.specs.Prelude.{◌≡◌, ℕ, [], ◌∷◌, ◌++◌, codes, map, Some, false, true}
use Rattle.tap_frame.specs.declared.name.Name.{Name}
use Rattle.tap_ledger.specs.declared.fate.Cause.TheVariants as cause
use Rattle.tap_ledger.specs.declared.fate.Fate.TheVariants as fate
use Rattle.tap_trace.specs.declared.answer.Answer.TheVariants as answer
use Rattle.tap_ledger.specs.declared.error.TapErr.TheVariants as tap
use Rattle.tap_ledger.specs.declared.error.Busy.TheVariants as busy
use Rattle.tap_trace.specs.declared.kind.Kind.TheVariants as kind
use Rattle.tap_trace.specs.declared.trace.AnswerLine.{AnswerLine}
use Rattle.tap_trace.specs.declared.trace.StepLine.{StepLine}
use Rattle.tap_trace.specs.declared.trace.Trace.{Trace}
use Rattle.tap_trace.specs.declared.turn.TurnText.TheVariants as turn
use Rattle.example_runs.specs.Change.{change_at, one_place_up, with_answer, with_answers, with_entries, with_fate, with_kind, with_seen, with_steps}
use Rattle.example_runs.specs.Play.{judged}
use Rattle.example_runs.specs.Texts.{alike, guests, later, no_ring, one_place, poked, short, workers}

abbrev pub as_it_is : Trace → Trace
as_it_is t = t

-- each run's own trace
abbrev pub RunsAreLegal : Type 0
RunsAreLegal =
    (judged guests as_it_is ≡ Some (codes "legal"))
    × (judged no_ring as_it_is ≡ Some (codes "legal"))
    × (judged workers as_it_is ≡ Some (codes "legal"))
    × (judged one_place as_it_is ≡ Some (codes "legal"))
    × (judged poked as_it_is ≡ Some (codes "legal"))
    × (judged later as_it_is ≡ Some (codes "legal"))
    × (judged short as_it_is ≡ Some (codes "legal"))
    × (judged alike as_it_is ≡ Some (codes "legal"))

-- a change of a trace
abbrev pub Change : Type 0
Change = Trace → Trace

-- the name of a frame of actor 0's command
abbrev pub sent : ℕ → Name
sent command = record { actor = 0; turn = command; part = 0 }

-- ---- two guests

-- the second poke, of guest 1, stands among the steps of guest 0
abbrev pub poke_two : StepLine
poke_two = record { actor = 0; command = 2; kind = kind.Poke }

abbrev pub under_the_other : Change
under_the_other t = with_steps 0 (λ steps. steps ++ poke_two ∷ []) t

-- ---- a ring that isn't there: its refusal has a step

abbrev pub refused_with_step : Change
refused_with_step t =
    with_steps 0 (λ steps. record { actor = 0; command = 0; kind = kind.Backend 0 2 false } ∷ []) t

-- ---- two workers

-- the table refuses the last two commands; one is told another refusal of it, or one that comes after the vhost's own
abbrev pub other_refusal : Change
other_refusal t = with_answer 22 (answer.Tap tap.EBADFD) t

abbrev pub refusal_not_there : Change
refusal_not_there t = with_answer 21 (answer.Tap tap.EBADFD) t

abbrev pub refusal_too_late : Change
refusal_too_late t = with_answer 21 (answer.Tap (tap.EBUSY busy.Backed)) t

-- a command didn't see what it published
abbrev pub seen_too_little : Change
seen_too_little t = with_seen 0 0 t

-- a version that isn't there was seen
abbrev pub seen_too_much : Change
seen_too_much t = with_seen 22 6 t

-- the line begins a place above its first one
abbrev pub placed_at : ℕ → ℕ → ℕ → Change
placed_at n place len t = with_answer n (answer.Placed 0 place 1 len) t

abbrev pub one_up : Change
one_up t = with_entries (map one_place_up) (placed_at 9 1 20 (placed_at 10 2 20 (placed_at 19 3 14 t)))

-- a Short needs a frame of 12 bytes, or what it needs with a header of 10
abbrev pub short_of_none : Change
short_of_none t = with_answer 20 (answer.Turn 0 0 (turn.Short 24 0) []) t

-- the same, and a refused backend that says it was set
abbrev pub short_and_set : Change
short_and_set t = with_kind 1 14 (kind.Backend 1 0 true) (short_of_none t)

-- the frame of the first worker and that of the second are told the wrong way round
abbrev pub copies_swapped : Change
copies_swapped t = with_kind 0 8 (kind.Copy 0 0 0 (Some (sent 10))) (with_kind 1 8 (kind.Copy 1 0 0 (Some (sent 9))) t)

-- a frame that was never sent is copied
abbrev pub copy_of_none : Change
copy_of_none t = with_kind 0 8 (kind.Copy 0 0 0 (Some (sent 99))) t

-- a frame that waits was copied
abbrev pub guest_at_the_end : Change
guest_at_the_end t = with_fate 2 fate.Guest t

-- ---- one place

-- a Full tells more places than there are; the frame came too late; a read found no frame
abbrev pub full_of_more : Change
full_of_more t = with_answer 2 (answer.Dropped (Some 0) (cause.Full 2 1)) t

abbrev pub gone_from_none : Change
gone_from_none t = with_answer 2 (answer.Dropped (Some 0) (cause.Gone 1 1 true)) t

abbrev pub found_none : Change
found_none t = with_answer 3 (answer.Again 0) t

-- ---- an empty line: the worker meets the bad index though it has no frame

abbrev pub halts : Change
halts t = with_steps 0 (λ steps. steps ++ record { actor = 0; command = 8; kind = kind.Halt 0 0 1 } ∷ [])
    (with_answer 8 (answer.Turn 0 0 (turn.Stopped 1) []) t)

-- ---- a full ring: it tells a place that its own actor is given later

abbrev pub full_too_late : Change
full_too_late t =
    with_answers 1 (change_at 1 (λ (a : AnswerLine). record a { answer = answer.Dropped (Some 0) (cause.Full 2 1) })) t

-- ---- short chains: the answer tells less than the frame needs, or than any frame does

abbrev pub needs_less : Change
needs_less t = with_answer 11 (answer.Turn 0 0 (turn.Short 70 60) []) t

abbrev pub needs_other : Change
needs_other t = with_answer 11 (answer.Turn 0 0 (turn.Short 111 80) []) t

-- ---- frames alike: the second copy is told of the one that waits

abbrev pub copies_last : Change
copies_last t = with_kind 0 11 (kind.Copy 0 0 1 (Some (sent 11))) t

-- ---- each with its verdict

abbrev pub ChangesAreIllegal : Type 0
ChangesAreIllegal =
    (judged workers other_refusal ≡ Some (codes "illegal 30 a"))
    × (judged workers refusal_not_there ≡ Some (codes "illegal 29 a"))
    × (judged workers seen_too_little ≡ Some (codes "illegal 8 b"))
    × (judged workers seen_too_much ≡ Some (codes "illegal 30 b"))
    × (judged workers one_up ≡ Some (codes "illegal 32 c"))
    × (judged later full_too_late ≡ Some (codes "illegal 7 d"))
    × (judged one_place full_of_more ≡ Some (codes "illegal 6 d"))
    × (judged one_place gone_from_none ≡ Some (codes "illegal 10 e"))
    × (judged one_place found_none ≡ Some (codes "illegal 7 f"))
    × (judged workers refusal_too_late ≡ Some (codes "illegal 29 g"))
    × (judged workers short_of_none ≡ Some (codes "illegal 28 g"))
    × (judged workers copy_of_none ≡ Some (codes "illegal 44 g"))
    × (judged guests under_the_other ≡ Some (codes "illegal 8 g"))
    × (judged no_ring refused_with_step ≡ Some (codes "illegal 6 g"))
    × (judged workers short_and_set ≡ Some (codes "illegal 28 g"))
    × (judged poked halts ≡ Some (codes "illegal 24 g"))
    × (judged short needs_less ≡ Some (codes "illegal 17 g"))
    × (judged short needs_other ≡ Some (codes "illegal 17 g"))
    × (judged alike copies_last ≡ Some (codes "illegal 19 h"))
    × (judged workers copies_swapped ≡ Some (codes "illegal 32 h"))
    × (judged workers guest_at_the_end ≡ Some (codes "illegal 31 h"))
