-- This project's own: the events of each command from its first to its last.
use Rattle.std.specs.Prelude.{◌==◌, ◌≡◌, ◌⊎◌, ℕ, List, [], ◌∷◌, ◌++◌, map, filter, if◌then◌else◌, Option, Some, None}
use Rattle.std.specs.List.{AllByRecursion}
use Rattle.tap_steer.specs.Table.{is_set}
use Rattle.tap_steer.specs.declared.operation.TheConstants.{IFF_ATTACH_QUEUE}
use Rattle.scen_words.specs.declared.command.Command.{Command}
use Rattle.scen_words.specs.declared.command.Command.TheVariants as command
use Rattle.tap_world.specs.declared.event.Event.{Event}
use Rattle.tap_world.specs.declared.event.EventKind.{EventKind}
use Rattle.tap_world.specs.declared.event.EventKind.TheVariants.{Claim, Copy, Cut, Drive, Fetch, Full, Gone, Hand, HostIn, Look, Move, NotReady, Notices, Out, Owner, Peek, Poke, Publish, PublishUsed, PutBack, Ready, Reopen, Resize, Shut, Spent}
use Rattle.tap_world.specs.Grammar.{Grammar, HasForm, Perhaps, Some_of}
use Rattle.tap_world.specs.Grammar.Grammar.{Many, Nothing, One, ◌⨾◌, ◌or◌}
use Rattle.tap_world.specs.Setup.{Numbered}

-- ---- commands on the table

-- An attach opens the gate and publishes.
abbrev pub attach : Grammar
attach = One Reopen ⨾ One Publish

-- A purge takes frames out of the batch, or first moves them there from the ring, until both are empty.
abbrev pub purge : Grammar
purge = Many (One Move or One Out)

-- A detach publishes, shuts the gate, and purges.
abbrev pub detach : Grammar
detach = One Publish ⨾ One Shut ⨾ purge

-- A resize cuts what waits above the new capacity, and publishes.
abbrev pub shrink : Grammar
shrink = Many (One Cut) ⨾ One Publish

-- ---- commands on frames

-- A send that has a row is dropped under one cause, or gets a place and is put there.
abbrev pub route : Grammar
route = One Gone or One Spent or One Full or One Claim ⨾ One Ready

-- A read moves ring fronts to the batch while it finds it empty; it ends by meeting a worker, by taking the front
-- out, or by finding none ready.
abbrev pub taking : Grammar
taking = Many (One Move) ⨾ (One Owner or One Out or One NotReady)

-- A written frame is given to the host, and its flow may be learnt.
abbrev pub hosting : Grammar
hosting = One HostIn ⨾ Perhaps (One Publish)

-- ---- backends

-- A backend that is set is published, and for the receive ring its worker then owns the file.
abbrev pub setting : ℕ → Grammar
setting ring = One Publish ⨾ (if ring == 0 then One Owner else Nothing)

-- One that is unset gives the file of the receive ring back, and is then published.
abbrev pub unsetting : ℕ → Grammar
unsetting ring = if ring == 0 then One Owner ⨾ One Publish else One Publish

-- the call itself goes on where nothing is refused, and where one was set
abbrev pub backing : ℕ → Option ℕ → Grammar
backing ring (Some file) = setting ring
backing ring None = unsetting ring

-- ---- turns

-- A fetch that finds nothing is followed by turning notices on and by one more fetch.
abbrev pub finds_nothing : Grammar
finds_nothing = One Fetch ⨾ One Notices ⨾ One Fetch

-- Where that one finds something, notices are turned off. So something is found at once, or at the second fetch.
abbrev pub finds : Grammar
finds = One Fetch or finds_nothing ⨾ One Notices

-- what is done is published, where anything is
abbrev pub published : Grammar
published = Perhaps (One PublishUsed)

-- A frame is taken in hand, chains are fetched, and it is copied to them and leaves, or leaves without a copy; 64
-- chains that are done are published.
abbrev pub frame : Grammar
frame = One Hand ⨾ Some_of finds ⨾ Perhaps (One Copy) ⨾ One Out ⨾ published

-- A receive turn ends behind a frame, or where none is ready, or by putting back a frame for which no chain was there
-- or one was bad.
abbrev pub no_more_frames : Grammar
no_more_frames = One NotReady ⨾ published

abbrev pub put_back : Grammar
put_back = One Hand ⨾ Many finds ⨾ (finds or finds_nothing) ⨾ One PutBack ⨾ published

abbrev pub frames : Grammar
frames = Many frame ⨾ (frame or no_more_frames or put_back)

-- A chain is fetched and copied; an accepted frame is given to the host, and the table is looked at and the flow
-- learnt; 64 chains that are done are published.
abbrev pub chain : Grammar
chain = finds ⨾ One Copy ⨾ Perhaps (One HostIn ⨾ One Look ⨾ Perhaps (One Publish)) ⨾ published

-- A transmit turn ends behind a chain, or where none is there or one is bad.
abbrev pub no_more_chains : Grammar
no_more_chains = (finds or finds_nothing) ⨾ published

abbrev pub chains : Grammar
chains = Many chain ⨾ (chain or no_more_chains)

-- ---- the table of commands

-- A command on the table that is refused, and a command on a frame that has no place to go, ends at its look. A
-- `setqueue` attaches where its flag says so; a `close` detaches where its file is enabled. A turn that finds no
-- backend or a stopped ring ends at once, and else turns notices off first.
abbrev pub form_of : Command → Grammar
form_of (command.SetIff file name flags) = One Look ⨾ Perhaps attach
form_of (command.SetQueue file flags) =
    One Look ⨾ Perhaps (if is_set flags IFF_ATTACH_QUEUE then attach else detach)
form_of (command.Close file) = One Look ⨾ Perhaps (One Publish or detach)
form_of (command.Resize file capacity) = One Look ⨾ Perhaps (One Resize ⨾ shrink)
form_of (command.Persist file on) = One Look ⨾ Perhaps (One Publish)
form_of (command.HdrSize file size) = One Look ⨾ Perhaps (One Publish)
form_of (command.Steer file program) = One Look ⨾ Perhaps (One Publish)
form_of (command.Filter file program) = One Look ⨾ Perhaps (One Publish)
form_of (command.Tick now) = One Look ⨾ Perhaps (One Publish)
form_of (command.Send device hdr bytes) = One Look ⨾ Perhaps route
form_of (command.Read file room) = One Look ⨾ Perhaps taking
form_of (command.Write file bytes) = One Look ⨾ Perhaps hosting
form_of (command.Backend vhost ring file) = One Look ⨾ One Drive ⨾ Perhaps (backing ring file)
form_of (command.RxTurn vhost) = One Owner or One Notices ⨾ frames
form_of (command.TxTurn vhost) = One Owner or One Notices ⨾ chains
form_of (command.Poke guest addr bytes) = One Poke
form_of (command.Peek guest addr len) = One Peek
form_of other = One Drive

-- the events of a command that has ended
abbrev pub IsScript : Command → List EventKind → Type 0
IsScript c es = HasForm (form_of c) es

-- ---- the events of an actor

-- the events of an actor, and of what kinds events are
abbrev pub events_of : ℕ → List Event → List Event
events_of actor es = filter (λ (e : Event). e.actor == actor) es

abbrev pub kinds : List Event → List EventKind
kinds es = map (λ (e : Event). e.kind) es

-- all are of the command of this number
abbrev pub AreOf : ℕ → List Event → Type 0
AreOf number es = AllByRecursion (λ (e : Event). e.command ≡ number) es

-- commands are done one after another: the events of each are a script of it
abbrev pub AreScripts : List Numbered → List Event → Type 0
AreScripts [] es = es ≡ []
AreScripts (c ∷ cs) es =
    (mine rest : List Event) × (es ≡ mine ++ rest) × AreOf c.number mine × IsScript c.command (kinds mine)
    × AreScripts cs rest

-- and the last of them may be under way: its events begin a script
abbrev pub AreScriptsSoFar : List Numbered → List Event → Type 0
AreScriptsSoFar [] es = es ≡ []
AreScriptsSoFar (c ∷ cs) es =
    (AreOf c.number es × (more : List EventKind) × IsScript c.command (kinds es ++ more))
    ⊎ ((mine rest : List Event) × (es ≡ mine ++ rest) × AreOf c.number mine × IsScript c.command (kinds mine)
    × AreScriptsSoFar cs rest)
