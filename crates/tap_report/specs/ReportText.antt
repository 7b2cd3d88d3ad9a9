-- This project's own: the text of the report.
use Rattle.std.specs.Prelude.{ℕ, List, [], ◌∷◌, ◌++◌, map, codes}
use Rattle.std.specs.Fmt.{decimal}
use Rattle.scen_words.specs.Field.{text}
use Rattle.tap_report.specs.declared.summary.DeviceRow.{DeviceRow}
use Rattle.tap_report.specs.declared.summary.FileRow.{FileRow}
use Rattle.tap_report.specs.declared.summary.RingRow.{RingRow}
use Rattle.tap_report.specs.Report.{Report, Total}

-- `device NAME rx N tx N dropped N`
abbrev pub device_line : DeviceRow → List (List ℕ)
device_line d =
    codes "device" ∷ d.name ∷ codes "rx" ∷ decimal d.rx ∷ codes "tx" ∷ decimal d.tx
    ∷ codes "dropped" ∷ decimal d.dropped ∷ []

-- `file F waiting N read N guest N purged N overrun N cut N`
abbrev pub file_line : FileRow → List (List ℕ)
file_line f =
    codes "file" ∷ decimal f.file ∷ codes "waiting" ∷ decimal f.waiting ∷ codes "read" ∷ decimal f.read
    ∷ codes "guest" ∷ decimal f.guest ∷ codes "purged" ∷ decimal f.purged
    ∷ codes "overrun" ∷ decimal f.overrun ∷ codes "cut" ∷ decimal f.cut ∷ []

-- `ring V R chains N frames N bytes N calls N bad N stopped N`
abbrev pub ring_line : RingRow → List (List ℕ)
ring_line r =
    codes "ring" ∷ decimal r.vhost ∷ decimal r.ring ∷ codes "chains" ∷ decimal r.chains
    ∷ codes "frames" ∷ decimal r.frames ∷ codes "bytes" ∷ decimal r.bytes ∷ codes "calls" ∷ decimal r.calls
    ∷ codes "bad" ∷ decimal r.bad ∷ codes "stopped" ∷ decimal r.stopped ∷ []

-- `total accepted N waiting N delivered N discarded N`
unfoldable pub counts_line : ℕ → ℕ → ℕ → ℕ → List (List ℕ)
counts_line accepted waiting given dropped =
    codes "total" ∷ codes "accepted" ∷ decimal accepted ∷ codes "waiting" ∷ decimal waiting
    ∷ codes "delivered" ∷ decimal given ∷ codes "discarded" ∷ decimal dropped ∷ []

abbrev pub total_line : Total → List (List ℕ)
total_line t = counts_line t.accepted t.waiting t.delivered t.discarded

abbrev pub report_lines : Report → List (List (List ℕ))
report_lines r =
    (codes "report" ∷ [])
    ∷ (map device_line r.devices ++ map file_line r.files ++ map ring_line r.rings ++ total_line r.total ∷ [])

abbrev pub report_text : Report → List ℕ
report_text r = text (report_lines r)
