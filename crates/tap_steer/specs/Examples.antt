-- This project's own: worked examples of operations, refusals and selections.
use Rattle.std.specs.Prelude.{◌≡◌, ℕ, List, [], ◌∷◌, ◌++◌, replicate, Option, Some, None, true}
use Rattle.tap_queues.specs.declared.queues.Row.{Row as QueueRow}
use Rattle.tap_flow_key.specs.FlowKey.{hash}
use Rattle.tap_ledger.specs.declared.error.TapErr.{TapErr}
use Rattle.tap_ledger.specs.declared.error.TapErr.TheVariants.{EEXIST, EINVAL, EBUSY, E2BIG, EBADFD, ENOTSUP}
use Rattle.tap_ledger.specs.declared.error.Invalid.TheVariants.{Kind, Multi, NotDetached, Detached, NoFlag, Clock}
use Rattle.tap_ledger.specs.declared.error.Busy.TheVariants.{Exclusive, OneQueue, Backed}
use Rattle.tap_ledger.specs.declared.error.TooBig.TheVariants.{Resizes}
use Rattle.tap_ledger.specs.declared.side.Side.TheVariants.{Rx}
use Rattle.tap_steer.specs.declared.operation.Op.{Op}
use Rattle.tap_steer.specs.declared.operation.Op.TheVariants.{SetIff, SetQueue, Shut, Persist, Learn, Tick, Steering, Filter, Back, Resize}
use Rattle.tap_steer.specs.declared.selection.Select.{Select}
use Rattle.tap_steer.specs.declared.selection.Select.TheVariants.{Row, NoQueue, Filtered}
use Rattle.tap_steer.specs.Table.{Table, first}
use Rattle.tap_steer.specs.After.{answers, tried_all}
use Rattle.tap_steer.specs.Select.{select}

-- three files of capacity 4 and two names, with these programs
abbrev pub small : List (List ℕ) → Table
small programs = first programs (4 ∷ 4 ∷ 4 ∷ []) ((4096, 3000) ∷ (4096, 3000) ∷ [])

-- a tap with several queues and no packet information
abbrev pub flags : ℕ
flags = 0x1102

abbrev pub queue : ℕ → ℕ → QueueRow
queue file epoch = record { file = file; epoch = epoch }

-- a frame between two stations, and its reply
abbrev pub sent : List ℕ
sent = 2 ∷ 0 ∷ 0 ∷ 0 ∷ 0 ∷ 1 ∷ 2 ∷ 0 ∷ 0 ∷ 0 ∷ 0 ∷ 2 ∷ 8 ∷ 0 ∷ []

abbrev pub reply : List ℕ
reply = 2 ∷ 0 ∷ 0 ∷ 0 ∷ 0 ∷ 2 ∷ 2 ∷ 0 ∷ 0 ∷ 0 ∷ 0 ∷ 1 ∷ 8 ∷ 0 ∷ []

-- a program that answers 5, and one that answers 0
abbrev pub five : List ℕ
five = 0xb7 ∷ 0 ∷ 0 ∷ 0 ∷ 5 ∷ 0 ∷ 0 ∷ 0 ∷ 0x95 ∷ 0 ∷ 0 ∷ 0 ∷ 0 ∷ 0 ∷ 0 ∷ 0 ∷ []

abbrev pub zero_program : List ℕ
zero_program = 0xb7 ∷ 0 ∷ 0 ∷ 0 ∷ 0 ∷ 0 ∷ 0 ∷ 0 ∷ 0x95 ∷ 0 ∷ 0 ∷ 0 ∷ 0 ∷ 0 ∷ 0 ∷ 0 ∷ []

-- what is answered, and what a frame then finds at device 0
abbrev pub Told : List (List ℕ) → List Op → List (Option TapErr) → Select → Type 0
Told programs operations refusals found =
    (answers (small programs) operations ≡ refusals) × (select (tried_all (small programs) operations) 0 reply ≡ found)

-- a queue is detached and attached again; with both flags it is attached
abbrev pub QueuesComeAndGo : Type 0
QueuesComeAndGo =
    Told []
    (SetIff 0 0 flags ∷ SetQueue 0 0x400 ∷ SetQueue 0 0x400 ∷ SetIff 0 1 flags ∷ SetQueue 0 0x600 ∷ SetQueue 0 0x200
    ∷ SetQueue 0 0 ∷ [])
    (None ∷ None ∷ Some (EINVAL Detached) ∷ Some EEXIST ∷ None ∷ Some (EINVAL NotDetached) ∷ Some (EINVAL NoFlag) ∷ [])
    (Row (queue 0 2) 14 0 4)

-- without an enabled queue a frame finds none
abbrev pub NoQueueIsLeft : Type 0
NoQueueIsLeft = Told [] (SetIff 0 0 flags ∷ SetQueue 0 0x400 ∷ []) (None ∷ None ∷ []) NoQueue

-- a device with one queue, and flags that don't fit it
abbrev pub FlagsAreRefused : Type 0
FlagsAreRefused =
    Told []
    (SetIff 0 0 0x1002 ∷ SetIff 1 0 0x1002 ∷ SetIff 1 0 flags ∷ SetIff 1 0 0x9002 ∷ SetIff 1 0 0x1000
    ∷ SetIff 1 0 0x1001
    ∷ SetIff 0 1 0x1001 ∷ [])
    (None ∷ Some (EBUSY OneQueue) ∷ Some (EINVAL Multi) ∷ Some (EBUSY Exclusive) ∷ Some (EINVAL Kind) ∷ Some ENOTSUP
    ∷ Some EEXIST ∷ [])
    (Row (queue 0 1) 14 0 4)

-- a frame written on file 1 leads its reply there
abbrev pub RepliesComeBack : Type 0
RepliesComeBack =
    Told []
    (SetIff 0 0 flags ∷ SetIff 1 0 flags ∷ Learn 1 (hash sent) ∷ [])
    (None ∷ None ∷ None ∷ [])
    (Row (queue 1 1) 14 0 4)

-- a flow goes after 3,000 ms, and the clock doesn't go back
abbrev pub FlowsGo : Type 0
FlowsGo =
    Told []
    (SetIff 1 0 flags ∷ SetIff 0 0 flags ∷ Tick 1000 ∷ Learn 0 (hash sent) ∷ Tick 3999 ∷ Tick 4000 ∷ Tick 3999 ∷ [])
    (None ∷ None ∷ None ∷ None ∷ None ∷ None ∷ Some (EINVAL Clock) ∷ [])
    (Row (queue 1 1) 14 0 4)

-- with three queues a program that answers 5 selects index 2; as a filter it leaves 5 bytes
abbrev pub ProgramsSteerAndCut : Type 0
ProgramsSteerAndCut =
    Told (five ∷ [])
    (SetIff 0 0 flags ∷ SetIff 1 0 flags ∷ SetIff 2 0 flags ∷ Steering 0 (Some 0) ∷ Filter 0 (Some 0) ∷ [])
    (None ∷ None ∷ None ∷ None ∷ None ∷ [])
    (Row (queue 2 1) 5 0 4)

-- a filter that answers 0 drops the frame
abbrev pub ProgramsDrop : Type 0
ProgramsDrop = Told (zero_program ∷ []) (SetIff 0 0 flags ∷ Filter 0 (Some 0) ∷ []) (None ∷ None ∷ []) Filtered

-- a persistent device is found again, with what the new flags put in front of its frames; resizes stay over a close
abbrev pub DevicesPersist : Type 0
DevicesPersist =
    Told []
    (Resize 0 7 ∷ SetIff 0 0 flags ∷ Resize 0 7 ∷ Persist 0 true ∷ Back 0 Rx (Some 3) ∷ Shut 0 ∷ Back 0 Rx None ∷ Shut 0
    ∷ SetIff 1 0 0x1002 ∷ SetIff 0 0 0x0102 ∷ [])
    (Some EBADFD ∷ None ∷ None ∷ None ∷ None ∷ Some (EBUSY Backed) ∷ None ∷ None ∷ Some (EINVAL Multi) ∷ None ∷ [])
    (Row (queue 0 2) 14 1 7)

-- a file is resized 127 times
abbrev pub ResizesEnd : Type 0
ResizesEnd =
    answers (small []) (SetIff 0 0 flags ∷ replicate 128 (Resize 0 9))
    ≡ None ∷ (replicate 127 None ++ Some (E2BIG Resizes) ∷ [])
