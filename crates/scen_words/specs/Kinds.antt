-- This project's own: the kinds of the fields of a scenario, with their ranges.
use Rattle.text_fields.specs.declared.kind.Digits.TheVariants.{Four, Sixteen}
use Rattle.text_fields.specs.declared.kind.Kind.{Kind}
use Rattle.text_fields.specs.declared.kind.Kind.TheVariants.{Plain, OrDash}
use Rattle.text_fields.specs.declared.kind.Shape.TheVariants.{Number, Name, HexNumber, HexBytes, Hex}
use Rattle.scen_words.specs.declared.limits.TheConstants.{MAX_FILE, MAX_FIRST, MAX_PLACES, MAX_ROOM}

-- the number of a file
abbrev pub file_number : Kind
file_number = Plain (Number 0 MAX_FILE)

-- the number of a guest
abbrev pub guest_number : Kind
guest_number = Plain (Number 0 7)

-- the number of a vhost
abbrev pub vhost_number : Kind
vhost_number = Plain (Number 0 63)

-- the number of a program
abbrev pub program_number : Kind
program_number = Plain (Number 0 63)

-- the places of a ring
abbrev pub capacity : Kind
capacity = Plain (Number 1 MAX_PLACES)

-- the number of a file's first place
abbrev pub first_place : Kind
first_place = Plain (Number 0 MAX_FIRST)

-- the name of a device
abbrev pub device : Kind
device = Plain Name

-- HEX4: flags, the most significant digit first
abbrev pub flags : Kind
flags = Plain (HexNumber Four)

-- off or on
abbrev pub switch : Kind
switch = Plain (Number 0 1)

-- a number below 2^32
abbrev pub below_32_bits : Kind
below_32_bits = Plain (Number 0 4294967295)

-- milliseconds
abbrev pub clock : Kind
clock = Plain (Number 0 1000000000000000)

-- HEX: bytes
abbrev pub hex_bytes : Kind
hex_bytes = Plain Hex

-- room for a frame
abbrev pub room : Kind
room = Plain (Number 0 MAX_ROOM)

-- HEX16: feature bits
abbrev pub feature_bits : Kind
feature_bits = Plain (HexNumber Sixteen)

-- a ring that a vhost has
abbrev pub ring : Kind
ring = Plain (Number 0 1)

-- the number of a ring that a vhost may lack
abbrev pub any_ring : Kind
any_ring = Plain (Number 0 65535)

-- any number
abbrev pub any_number : Kind
any_number = Plain (Number 0 18446744073709551615)

-- how many bytes are peeked
abbrev pub peek_length : Kind
peek_length = Plain (Number 1 256)

-- the actors of a phase
abbrev pub actors : Kind
actors = Plain (Number 1 16)

-- the flows of a device
abbrev pub flow_limit : Kind
flow_limit = Plain (Number 1 65536)

-- the age of a flow, in milliseconds
abbrev pub flow_age : Kind
flow_age = Plain (Number 1 1000000000)

-- the number of a program, or `-`
abbrev pub program_or_none : Kind
program_or_none = OrDash (Number 0 63)

-- the number of a file, or `-`
abbrev pub file_or_none : Kind
file_or_none = OrDash (Number 0 MAX_FILE)

-- HEX20: a header, or `-`
abbrev pub header : Kind
header = OrDash (HexBytes 20)
