-- This project's own, after Linux's vhost_net: how much one turn does, and what it reports.
use Rattle.std.specs.Prelude.{ℕ, Bool, ◌||◌, nat_le, Option, None, Some}
use Rattle.vring_split.specs.declared.fault.RingFault.{RingFault}
use Rattle.tap_ledger.specs.declared.act.Act.{Act}
use Rattle.vring_turns.specs.declared.end.End.{End}
use Rattle.vring_turns.specs.declared.end.End.TheVariants.{Stopped}
use Rattle.vring_turns.specs.declared.step.Step.{Step}
use Rattle.vring_turns.specs.declared.step.Step.TheVariants.{More, Ended}

-- how many packets, bytes of packets and chains one turn handles
abbrev pub most_packets : ℕ
most_packets = 256

abbrev pub most_bytes : ℕ
most_bytes = 524288

abbrev pub most_chains : ℕ
most_chains = 1024

-- a turn that handled so many packets, bytes and chains did as much as one turn does
abbrev pub is_enough : ℕ → ℕ → ℕ → Bool
is_enough packets bytes chains = nat_le most_packets packets || nat_le most_bytes bytes || nat_le most_chains chains

-- how many chains that are done are published at once, between two packets
abbrev pub publishes_at : ℕ
publishes_at = 64

-- the fault by which an end says that the ring is stopped
abbrev pub fault_of : End → Option RingFault
fault_of (Stopped fault) = Some fault
fault_of end = None

-- the event that a step made, if it made one
abbrev pub event_of : Step → Option Act
event_of (More act) = Some act
event_of (Ended act turn) = act

-- what is so where the turn goes on
abbrev pub IfMore : Step → Type 0 → Type 0
IfMore (More act) P = P
IfMore (Ended act turn) P = Unit {0}
