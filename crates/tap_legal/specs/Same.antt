-- This project's own: when operations, refusals and bad frames are the same.
use Rattle.std.specs.Prelude.{ℕ, ◌==◌, ◌&&◌, not, Bool, true, false, Option, Some, None}
use Rattle.std.specs.Option.{option_map_or}
use Rattle.tap_frame.specs.declared.reading.BadFrame.{BadFrame}
use Rattle.tap_frame.specs.declared.reading.BadFrame.TheVariants.{ShortPi, ShortHdr, HdrBeyond, ShortEther, HdrShort, TooLong, NoMemory}
use Rattle.tap_ledger.specs.declared.side.Side.{Side}
use Rattle.tap_ledger.specs.declared.side.Side.TheVariants.{Rx, Tx}
use Rattle.tap_steer.specs.declared.operation.Op.{Op}
use Rattle.tap_steer.specs.declared.operation.Op.TheVariants as op
use Rattle.tap_ledger.specs.declared.error.Busy.{Busy}
use Rattle.tap_ledger.specs.declared.error.Busy.TheVariants as busy
use Rattle.tap_ledger.specs.declared.error.Invalid.{Invalid}
use Rattle.tap_ledger.specs.declared.error.Invalid.TheVariants as invalid
use Rattle.tap_ledger.specs.declared.error.TapErr.{TapErr as TapText}
use Rattle.tap_ledger.specs.declared.error.TapErr.TheVariants as text
use Rattle.tap_ledger.specs.declared.error.TooBig.{TooBig}
use Rattle.tap_ledger.specs.declared.error.TooBig.TheVariants as big

-- ---- bad frames and refusals, by their numbers

abbrev pub bad_number : BadFrame → ℕ
bad_number ShortPi = 1
bad_number ShortHdr = 2
bad_number HdrBeyond = 3
bad_number ShortEther = 4
bad_number HdrShort = 5
bad_number TooLong = 6
bad_number NoMemory = 0

abbrev pub is_bad : BadFrame → Option BadFrame → Bool
is_bad bad found = option_map_or (λ b. bad_number b == bad_number bad) found false

abbrev pub invalid_number : Invalid → ℕ
invalid_number invalid.Kind = 1
invalid_number invalid.Multi = 2
invalid_number invalid.NotDetached = 3
invalid_number invalid.NoDevice = 4
invalid_number invalid.NotMulti = 5
invalid_number invalid.Detached = 6
invalid_number invalid.NoFlag = 7
invalid_number invalid.HdrSize = 8
invalid_number invalid.Clock = 9

abbrev pub busy_number : Busy → ℕ
busy_number busy.Exclusive = 1
busy_number busy.OneQueue = 2
busy_number busy.Backed = 3

abbrev pub big_number : TooBig → ℕ
big_number big.Queues = 1
big_number big.Epochs = 2
big_number big.Resizes = 3

-- a refusal as its number and that of its cause
abbrev pub numbers_of : TapText → ℕ × ℕ
numbers_of text.EEXIST = (1, 0)
numbers_of (text.EINVAL x) = (2, invalid_number x)
numbers_of (text.EBUSY x) = (3, busy_number x)
numbers_of (text.E2BIG x) = (4, big_number x)
numbers_of text.EBADFD = (5, 0)
numbers_of text.ENOTSUP = (6, 0)
numbers_of text.ENFILE = (7, 0)

abbrev pub same_refusal : TapText → TapText → Bool
same_refusal x y = (numbers_of x).0 == (numbers_of y).0 && (numbers_of x).1 == (numbers_of y).1

-- ---- operations

abbrev pub same_number : Option ℕ → Option ℕ → Bool
same_number None None = true
same_number (Some m) (Some n) = m == n
same_number m n = false

abbrev pub same_flag : Bool → Bool → Bool
same_flag true b = b
same_flag false b = not b

abbrev pub same_side : Side → Side → Bool
same_side Rx Rx = true
same_side Tx Tx = true
same_side a b = false

abbrev pub same_op : Op → Op → Bool
same_op (op.SetIff file device flags) (op.SetIff f d g) = file == f && device == d && flags == g
same_op (op.SetQueue file flags) (op.SetQueue f g) = file == f && flags == g
same_op (op.Shut file) (op.Shut f) = file == f
same_op (op.HdrSize file size) (op.HdrSize f n) = file == f && size == n
same_op (op.Persist file on) (op.Persist f b) = file == f && same_flag on b
same_op (op.Learn file hash) (op.Learn f h) = file == f && hash == h
same_op (op.Tick now) (op.Tick n) = now == n
same_op (op.Steering file program) (op.Steering f p) = file == f && same_number program p
same_op (op.Filter file program) (op.Filter f p) = file == f && same_number program p
same_op (op.Back file side vhost) (op.Back f s v) = file == f && same_side side s && same_number vhost v
same_op (op.Resize file capacity) (op.Resize f n) = file == f && capacity == n
same_op x y = false
