-- This project's own: what is answered to a command on a ring that there isn't.
use Rattle.std.specs.Prelude.{◌≡◌, ℕ, not, Bool, true, false}
use Rattle.scen_words.specs.declared.command.Command.{Command}
use Rattle.scen_words.specs.declared.command.Command.TheVariants as command
use Rattle.tap_trace.specs.declared.answer.Answer.{Answer}
use Rattle.tap_trace.specs.declared.answer.Answer.TheVariants as answer
use Rattle.tap_trace.specs.declared.causes.VhostText.TheVariants as text
use Rattle.tap_world.specs.Guests.{is_ring}
use Rattle.tap_world.specs.Setup.{Setup}
use Rattle.tap_answers.specs.Says.{SaysBy}
use Rattle.tap_answers.specs.SaysShared.{Occasion}

-- a command names a ring of a vhost that there isn't
abbrev pub misses_ring : Command → Bool
misses_ring (command.VNum vhost ring num) = not (is_ring ring)
misses_ring (command.VBase vhost ring base) = not (is_ring ring)
misses_ring (command.VAddr vhost ring desc avail used) = not (is_ring ring)
misses_ring (command.GetBase vhost ring) = not (is_ring ring)
misses_ring (command.Backend vhost ring file) = not (is_ring ring)
misses_ring c = false

-- ENOBUFS is all that can be said of it.
abbrev pub MissingRingsAreTold : Type 0
MissingRingsAreTold =
    (s : Setup) (o : Occasion) (c : Command) (seen : ℕ) (x : Answer) → misses_ring c ≡ true → SaysBy s o c seen x
    → x ≡ answer.Vhost text.ENOBUFS
