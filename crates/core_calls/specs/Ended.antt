-- This project's own: the end of a command on a backend by a publication.
use Rattle.std.specs.Prelude.{◌≡◌, ℕ, ◌+◌, length, None}
use Rattle.tap_lines.specs.Told.{told_more}
use Rattle.tap_steer.specs.declared.operation.Op.{Op}
use Rattle.tap_trace.specs.declared.answer.Answer.TheVariants as answer
use Rattle.core_shared.specs.Asking.{Asking}
use Rattle.core_shared.specs.declared.onward.Onward.{Onward}
use Rattle.core_shared.specs.declared.onward.Onward.TheVariants as on
use Rattle.core_shared.specs.declared.shared.Shared.{Shared}
use Rattle.core_calls.specs.Turned.{turned}

-- A command has ended: it published this operation, and gave back the writer and the turn of its ring.
pub record HasEnded (a : Asking) (vhost ring : ℕ) (x : Op) (old new : Shared) (o : Onward) : Type 0 where
  pub shared : new ≡ record old {
    ops = told_more (record { phase = old.phase; actor = a.actor; command = a.number; op = x }) old.ops;
    vhosts = turned vhost ring None old.vhosts;
    writer = None;
  }
  pub onward : o ≡ on.Ends (length old.ops.ops + 1) (answer.Version (length old.ops.ops + 1))
