-- This project's own: the report of a run, as a function of the scenario and the trace.
use Rattle.std.specs.Prelude.{◌≡◌, ℕ, ◌+◌, ◌<◌, Bool, true, false, List, length, map, sum, sum_by, slice_index}
use Rattle.scen_text.specs.declared.scenario.Scenario.{Scenario}
use Rattle.tap_ledger.specs.declared.counters.Counters.{Counters}
use Rattle.tap_ledger.specs.declared.fate.Fate.{Fate}
use Rattle.tap_ledger.specs.declared.fate.Fate.TheVariants.{Discarded}
use Rattle.tap_ledger.specs.Counters.{has_cause, how_many, is_guest, is_host, is_read, is_waiting}
use Rattle.tap_trace.specs.declared.trace.Trace.{Trace}
use Rattle.tap_report.specs.declared.summary.DeviceRow.{DeviceRow}
use Rattle.tap_report.specs.declared.summary.FileRow.{FileRow}
use Rattle.tap_report.specs.declared.summary.RingRow.{RingRow}
use Rattle.tap_report.specs.declared.summary.Summary.{Summary}
use Rattle.tap_report.specs.Index.{roles}
use Rattle.tap_report.specs.Rows.{capped, device_rows, fates_of_run, file_row, frames_of_run, ring_row}
use Rattle.tap_report.specs.Turns.{turns}

-- ---- what a report shows

-- of all frames
pub record Total : Type 0 where
  pub accepted : ℕ
  pub waiting : ℕ
  pub delivered : ℕ
  pub discarded : ℕ

-- of devices, files and rings, and of all frames
pub record Report : Type 0 where
  pub devices : List DeviceRow
  pub files : List FileRow
  pub rings : List RingRow
  pub total : Total

-- ---- the report of a run

abbrev pub is_discarded : Fate → Bool
is_discarded (Discarded cause) = true
is_discarded fate = false

-- the numbers of frames with these fates; a frame is delivered to a reader, to a guest or to the host
abbrev pub total_of : List (Fate × ℕ) → Total
total_of fates = record {
  accepted = length fates;
  waiting = how_many is_waiting fates;
  delivered = how_many is_read fates + how_many is_guest fates + how_many is_host fates;
  discarded = how_many is_discarded fates;
}

-- a device for each name, the files and the rings of the trace, and all frames
abbrev pub report_of : Scenario → Trace → Report
report_of s t = record {
  devices = device_rows (frames_of_run s t) 0 s.names;
  files = map file_row t.files;
  rings = map (ring_row (roles s) (turns (roles s) t) t.guests) t.rings;
  total = total_of (fates_of_run s t);
}

-- ---- the report in memory

abbrev pub delivered : Counters → ℕ
delivered c = c.read + c.guest + c.host

abbrev pub discarded : Counters → ℕ
discarded c = sum c.by_cause

-- what counters show
abbrev pub total_in : Counters → Total
total_in c = record {
  accepted = c.accepted;
  waiting = c.waiting;
  delivered = delivered c;
  discarded = discarded c;
}

-- what a summary shows
abbrev pub shown : Summary → Report
shown r = record { devices = r.devices; files = r.files; rings = r.rings; total = total_in r.total }

-- these are the counts of frames with these fates and lengths; the sum of the lengths stands still at 2^64 - 1
pub record CountsCapped (c : Counters) (fates : List (Fate × ℕ)) : Type 0 where
  pub accepted : c.accepted ≡ length fates
  pub waiting : c.waiting ≡ how_many is_waiting fates
  pub read : c.read ≡ how_many is_read fates
  pub guest : c.guest ≡ how_many is_guest fates
  pub host : c.host ≡ how_many is_host fates
  pub by_cause : (k : ℕ) → k < 9 → slice_index c.by_cause k ≡ how_many (has_cause k) fates
  pub bytes : c.bytes ≡ capped (sum_by (λ f. f.1) fates)

-- it shows the report of the run, and its counters count all frames by their fates
pub record IsReport (s : Scenario) (t : Trace) (r : Summary) : Type 0 where
  pub rows : shown r ≡ report_of s t
  pub total : CountsCapped r.total (fates_of_run s t)
