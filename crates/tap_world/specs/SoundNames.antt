-- This project's own: part 1 of what is sound. Each name stands once, and the names of accepted frames stand.
use Rattle.std.specs.Prelude.{◌≡◌, ◌⊎◌, ℕ, ◌≤◌, if◌then◌else◌, List, [], ◌∷◌, Option, Some, None, option_map}
use Rattle.std.specs.List.{AllByRecursion}
use Rattle.tap_frame.specs.declared.name.Name.{Name}
use Rattle.tap_frame.specs.Frame.{FrameValue}
use Rattle.vring_turns.specs.Stage.{is_giving}
use Rattle.tap_trace.specs.declared.answer.Answer.{Answer}
use Rattle.tap_trace.specs.declared.answer.Answer.TheVariants as answer
use Rattle.tap_trace.specs.declared.turn.ChainText.{ChainText}
use Rattle.tap_trace.specs.declared.turn.ChainText.TheVariants as chain
use Rattle.tap_world.specs.Setup.{Numbered}
use Rattle.tap_world.specs.Each.{EachActor}
use Rattle.tap_world.specs.World.{Actor, Doing, Said, World, current, name_of}
use Rattle.tap_world.specs.World.Doing.{Backed, Backs, Begun, Changes, Disowned, Given, Hosts, Learns, Opened, Opens, Owns, Placed, Purges, Reads, Receives, Released, Resizes, Routed, Shrinks, Teaches, Transmits, Unbacked, Withdrawn, Withdraws}
use Rattle.tap_world.specs.Stands.{times}

-- ---- accepted names

-- the accepted names that an answer tells
abbrev pub got_in : List ChainText → List Name
got_in [] = []
got_in (chain.Got name len fnv ∷ cs) = name ∷ got_in cs
got_in (chain.Refused position bad ∷ cs) = got_in cs

abbrev pub accepted_in : ℕ → ℕ → Answer → List Name
accepted_in actor n (answer.Placed file place epoch len) = name_of actor n ∷ []
accepted_in actor n (answer.Dropped file cause) = name_of actor n ∷ []
accepted_in actor n (answer.Host len fnv) = name_of actor n ∷ []
accepted_in actor n (answer.Turn packets bytes end chains) = got_in chains
accepted_in actor n other = []

-- the names that a command under way has accepted: a send's and a write's by their look, and those of a transmit turn's
-- chains by their copies
abbrev pub accepted_by : ℕ → ℕ → Doing → List Name
accepted_by actor n (Routed file epoch len) = name_of actor n ∷ []
accepted_by actor n (Placed file place epoch len) = name_of actor n ∷ []
accepted_by actor n (Hosts file ether learns) = name_of actor n ∷ []
accepted_by actor n (Learns file ether) = name_of actor n ∷ []
accepted_by actor n (Transmits file t chains) = got_in chains
accepted_by actor n (Given file t chains frame) = got_in chains
accepted_by actor n (Teaches file t chains frame) = got_in chains
accepted_by actor n Begun = []
accepted_by actor n Changes = []
accepted_by actor n (Opens file) = []
accepted_by actor n (Opened file) = []
accepted_by actor n (Withdraws file) = []
accepted_by actor n (Withdrawn file version) = []
accepted_by actor n (Purges file version) = []
accepted_by actor n (Resizes file capacity) = []
accepted_by actor n (Shrinks file places cuts) = []
accepted_by actor n (Reads file room front) = []
accepted_by actor n (Backs refusal) = []
accepted_by actor n (Backed file) = []
accepted_by actor n (Owns file version) = []
accepted_by actor n (Unbacked file) = []
accepted_by actor n (Disowned file) = []
accepted_by actor n (Released file) = []
accepted_by actor n (Receives file t) = []

-- the one that is accepted, and is still to be dropped, placed or given to the host: a send's with a row, a write's,
-- and the one that a transmit turn is to give
abbrev pub awaited : ℕ → ℕ → Doing → Option Name
awaited actor n (Routed file epoch len) = Some (name_of actor n)
awaited actor n (Hosts file ether learns) = Some (name_of actor n)
awaited actor n (Transmits file t chains) =
    if is_giving t.stage then option_map (λ (f : FrameValue). f.name) t.held else None
awaited actor n doing = None

-- ---- names stand

-- The accepted names of a command that has ended stand.
abbrev pub EndedStand : World → Said → Type 0
EndedStand w x = AllByRecursion (λ n. times w n ≡ 1) (accepted_in x.line.actor x.line.command x.line.answer)

-- Those of a command under way stand, but for the one that is still to be dropped, placed or given to the host.
abbrev pub AcceptedStand : World → ℕ → Actor → Type 0
AcceptedStand w actor a =
    (c : Numbered) → current a.script ≡ Some c
    → AllByRecursion (λ n. (awaited actor c.number a.doing ≡ Some n) ⊎ (times w n ≡ 1))
    (accepted_by actor c.number a.doing)

-- ---- 1: names

-- Each name stands at most once. An accepted name stands nowhere only in its own command, between the event that
-- accepted it and the event that drops, places or hosts it.
pub record NamesStandOnce (w : World) : Type 0 where
  pub once : (n : Name) → times w n ≤ 1
  pub ended : AllByRecursion (EndedStand w) w.said
  pub accepted : EachActor w (AcceptedStand w)
