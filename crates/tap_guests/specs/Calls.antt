-- This project's own: what a call on a vhost answers, as a `Call` of the world's definitions.
use Rattle.std.specs.Prelude.{◌≡◌, ℕ, ◌<◌, true, false, length, Option, Some, option_map}
use Rattle.guest_mem.specs.Memory.{Contents}
use Rattle.scen_words.specs.declared.command.Command.{Command}
use Rattle.scen_words.specs.declared.command.Command.TheVariants as command
use Rattle.tap_world.specs.Guests.{Vhost, is_ring}
use Rattle.tap_world.specs.StepControl.{Call, call_of}
use Rattle.tap_guests.specs.Side.{Side, is_served}
use Rattle.tap_guests.specs.declared.called.Called.{Called}

-- the call that was made, with the vhost and the memory that it left
abbrev pub made_by : Called → Vhost → Contents → Call
made_by c v m = record { vhost = v; memory = m; answer = c.answer; step = c.step }

-- The command is made: it leaves this vhost and this memory, and answers so.
abbrev pub Calls : Command → Vhost → Contents → Called → Vhost → Contents → Type 0
Calls c v m told v' m' = call_of c v m ≡ Some (made_by told v' m')

-- a vhost with another vhost's settings, drivers and turns; workers and places stay
abbrev pub with_vhost : Vhost → Side → Side
with_vhost v s = record s { vhost = v }

-- no worker serves a ring, if there is such a ring
abbrev pub IsUnserved : ℕ → Side → Type 0
IsUnserved ring s = is_ring ring ≡ true → is_served ring s ≡ false

-- ---- any command

-- what a command asks of the rings that it changes: no worker serves them
abbrev pub AskUnserved : Command → Side → Type 0
AskUnserved (command.Features vhost bits) s = (is_served 0 s ≡ false) × (is_served 1 s ≡ false)
AskUnserved (command.VNum vhost ring n) s = IsUnserved ring s
AskUnserved (command.VBase vhost ring n) s = IsUnserved ring s
AskUnserved (command.VAddr vhost ring desc avail used) s = IsUnserved ring s
AskUnserved other s = Unit {0}

-- a post of room has at least one piece
abbrev pub HasPiece : Command → Type 0
HasPiece (command.PostIn vhost ring lens) = 0 < length lens
HasPiece other = Unit {0}

-- what a command made, where it is a call; where it isn't, this doesn't say what is left
abbrev pub CallsAny : Command → Vhost → Contents → Option Called → Vhost → Contents → Type 0
CallsAny c v m told v' m' = call_of c v m ≡ option_map (λ x. made_by x v' m') told
