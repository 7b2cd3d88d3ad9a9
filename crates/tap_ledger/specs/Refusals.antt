-- This project's own: why an operation on the table of a tap is refused.
use Rattle.std.specs.Prelude.{ℕ}
use Rattle.tap_ledger.specs.declared.error.TapErr.{TapErr}
use Rattle.tap_ledger.specs.declared.error.TapErr.TheVariants.{EEXIST, EINVAL, EBUSY, E2BIG, EBADFD, ENOTSUP, ENFILE}

-- the number of an error
abbrev pub number_of : TapErr → ℕ
number_of EEXIST = 1
number_of (EINVAL cause) = 2
number_of (EBUSY cause) = 3
number_of (E2BIG cause) = 4
number_of EBADFD = 5
number_of ENOTSUP = 6
number_of ENFILE = 7
