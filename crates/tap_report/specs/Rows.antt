-- This project's own: what a report has of a device, of a file and of a ring.
use Rattle.std.specs.Prelude.{ℕ, ◌+◌, Bool, true, false, ◌&&◌, ◌==◌, min, if◌then◌else◌, List, [], ◌∷◌, length, map, sum_by, count_by, Option, Some, None}
use Rattle.scen_text.specs.declared.scenario.Scenario.{Scenario}
use Rattle.tap_ledger.specs.declared.fate.Cause.{Cause}
use Rattle.tap_ledger.specs.declared.fate.Cause.TheVariants.{NoQueue, Filtered, Gone, Full, Purged, Overrun, Cut, Spent}
use Rattle.tap_ledger.specs.declared.fate.Fate.{Fate}
use Rattle.tap_ledger.specs.declared.fate.Fate.TheVariants.{Read, Guest, Host, Discarded}
use Rattle.tap_ledger.specs.Counters.{is_waiting, is_read, is_guest}
use Rattle.tap_trace.specs.declared.trace.FilePart.{FilePart}
use Rattle.tap_trace.specs.declared.trace.GuestPart.{GuestPart}
use Rattle.tap_trace.specs.declared.trace.PlaceLine.{PlaceLine}
use Rattle.tap_trace.specs.declared.trace.PositionList.{PositionList}
use Rattle.tap_trace.specs.declared.trace.RingPart.{RingPart}
use Rattle.tap_trace.specs.declared.trace.StepLine.{StepLine}
use Rattle.tap_trace.specs.declared.trace.Trace.{Trace}
use Rattle.tap_report.specs.declared.frames.Counted.{Counted}
use Rattle.tap_report.specs.declared.index.Index.{Index}
use Rattle.tap_report.specs.declared.index.Role.{Role}
use Rattle.tap_report.specs.declared.index.Wanted.TheVariants.{Attachments, Backings}
use Rattle.tap_report.specs.declared.summary.DeviceRow.{DeviceRow}
use Rattle.tap_report.specs.declared.summary.FileRow.{FileRow}
use Rattle.tap_report.specs.declared.summary.RingRow.{RingRow}
use Rattle.tap_report.specs.declared.turns.Turned.{Turned}
use Rattle.tap_report.specs.Frames.{frames}
use Rattle.tap_report.specs.Index.{roles, settings}
use Rattle.tap_report.specs.Turns.{calls, copies, is_turn_of, stopped}

-- ---- devices

-- the frame counts for this device
abbrev pub is_of : ℕ → Option ℕ → Bool
is_of device None = false
is_of device (Some d) = d == device

-- it came from user space
abbrev pub is_received : Fate → Bool
is_received Host = true
is_received fate = false

-- it went to a reader or to a guest
abbrev pub is_transmitted : Fate → Bool
is_transmitted Read = true
is_transmitted Guest = true
is_transmitted fate = false

-- it was dropped, and never had a place
abbrev pub is_drop : Cause → Bool
is_drop NoQueue = true
is_drop Filtered = true
is_drop (Gone want found shut) = true
is_drop (Full claimed freed) = true
is_drop Purged = false
is_drop (Overrun need quota had) = false
is_drop Cut = false
is_drop (Spent claimed) = true

abbrev pub is_dropped : Fate → Bool
is_dropped (Discarded cause) = is_drop cause
is_dropped fate = false

-- how many frames of a device have a fate of which a test holds
abbrev pub of_device : ℕ → (Fate → Bool) → List Counted → ℕ
of_device device test fs = count_by (λ (f : Counted). is_of device f.device && test f.fate) fs

-- the device of a name and its number
abbrev pub device_row : List Counted → ℕ → List ℕ → DeviceRow
device_row fs device name = record {
  name = name;
  rx = of_device device is_received fs;
  tx = of_device device is_transmitted fs;
  dropped = of_device device is_dropped fs;
}

-- the devices of names, numbered from this number on
abbrev pub device_rows : List Counted → ℕ → List (List ℕ) → List DeviceRow
device_rows fs device [] = []
device_rows fs device (name ∷ names) = device_row fs device name ∷ device_rows fs (device + 1) names

-- ---- files

abbrev pub is_purged : Fate → Bool
is_purged (Discarded Purged) = true
is_purged fate = false

abbrev pub is_overrun : Fate → Bool
is_overrun (Discarded (Overrun need quota had)) = true
is_overrun fate = false

abbrev pub is_cut : Fate → Bool
is_cut (Discarded Cut) = true
is_cut fate = false

-- how many frames of a line have a fate of which a test holds
abbrev pub of_line : (Fate → Bool) → List PlaceLine → ℕ
of_line test ls = count_by (λ (l : PlaceLine). test l.fate) ls

abbrev pub file_row : FilePart → FileRow
file_row f = record {
  file = f.file;
  waiting = of_line is_waiting f.lines;
  read = of_line is_read f.lines;
  guest = of_line is_guest f.lines;
  purged = of_line is_purged f.lines;
  overrun = of_line is_overrun f.lines;
  cut = of_line is_cut f.lines;
}

-- ---- rings

-- a count stands still at 2^64 - 1
abbrev pub capped : ℕ → ℕ
capped n = min n 18446744073709551615

-- the published chains
abbrev pub published : List PositionList → ℕ
published ls = capped (sum_by (λ (l : PositionList). length l.used) ls)

-- the copied packets, and the notices that were needed
abbrev pub copied : ℕ → ℕ → List GuestPart → ℕ
copied vhost ring gs =
    capped (sum_by (λ (g : GuestPart). count_by (λ (s : StepLine). copies vhost ring s.kind) g.steps) gs)

abbrev pub called : ℕ → ℕ → List GuestPart → ℕ
called vhost ring gs =
    capped (sum_by (λ (g : GuestPart). count_by (λ (s : StepLine). calls vhost ring s.kind) g.steps) gs)

-- the sum of a number over the turns of a ring
abbrev pub of_turns : (Turned → ℕ) → ℕ → ℕ → List Turned → ℕ
of_turns number vhost ring us = capped (sum_by (λ u. if is_turn_of vhost ring u then number u else 0) us)

-- the frames of a ring: those that were accepted on a transmit ring, those that were copied on a receive ring
abbrev pub ring_frames : ℕ → ℕ → List Turned → List GuestPart → ℕ
ring_frames vhost ring us gs =
    if ring == 1 then of_turns (λ (u : Turned). u.got) vhost ring us else copied vhost ring gs

abbrev pub ring_row : List Role → List Turned → List GuestPart → RingPart → RingRow
ring_row rs us gs r = record {
  vhost = r.vhost;
  ring = r.ring;
  chains = published r.lists;
  frames = ring_frames r.vhost r.ring us gs;
  bytes = of_turns (λ (u : Turned). u.bytes) r.vhost r.ring us;
  calls = called r.vhost r.ring gs;
  bad = of_turns (λ (u : Turned). u.refused) r.vhost r.ring us;
  stopped = stopped rs r.vhost r.ring gs;
}

-- ---- all frames

-- what is looked up
abbrev pub index_of : Scenario → Trace → Index
index_of s t = record {
  roles = roles s;
  attachments = settings Attachments s.names t;
  backings = settings Backings s.names t;
}

-- all frames of the run
abbrev pub frames_of_run : Scenario → Trace → List Counted
frames_of_run s t = frames (index_of s t) t

-- a frame's fate and length
abbrev pub fate_and_len : Counted → Fate × ℕ
fate_and_len f = (f.fate, f.len)

-- the fates and the lengths of all frames of the run
abbrev pub fates_of_run : Scenario → Trace → List (Fate × ℕ)
fates_of_run s t = map fate_and_len (frames_of_run s t)
