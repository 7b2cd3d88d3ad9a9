-- This project's own: how a lawful control command goes on, with what it carries.
use Rattle.std.specs.Prelude.{if◌then◌else◌}
use Rattle.core_shared.specs.declared.doing.Doing.{Doing}
use Rattle.core_shared.specs.declared.doing.Doing.TheVariants as doing
use Rattle.tap_steer.specs.declared.operation.Op.{Op}
use Rattle.tap_steer.specs.declared.operation.Op.TheVariants as op
use Rattle.tap_steer.specs.declared.operation.TheConstants.{IFF_ATTACH_QUEUE}
use Rattle.tap_steer.specs.Table.{Table, file_at, is_enabled, is_set}

-- an attach or a detach with its file and its operation, a resize with its file and capacity, or any other change with
-- its operation
abbrev pub course_of : Table → Op → Doing
course_of t (op.SetIff file device flags) = doing.Opens file (op.SetIff file device flags)
course_of t (op.SetQueue file flags) =
    if is_set flags IFF_ATTACH_QUEUE then doing.Opens file (op.SetQueue file flags)
    else doing.Withdraws file (op.SetQueue file flags)
course_of t (op.Shut file) =
    if is_enabled (file_at t file).attachment then doing.Withdraws file (op.Shut file) else doing.Changes (op.Shut file)
course_of t (op.Resize file capacity) = doing.Resizes file capacity
course_of t other = doing.Changes other
