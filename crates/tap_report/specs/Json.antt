-- This project's own: the report as JSON: the words of each line as keys, in the order of their bytes, and numbers.
use Rattle.std.specs.Prelude.{ℕ, List, map, codes}
use Rattle.serde_json.specs.Data.{Data, number, unsigned, string, array, object, no_members, member}
use Rattle.serde_json.specs.View.{items_of}
use Rattle.serde_json.specs.Written.{compact_text}
use Rattle.tap_report.specs.declared.summary.DeviceRow.{DeviceRow}
use Rattle.tap_report.specs.declared.summary.FileRow.{FileRow}
use Rattle.tap_report.specs.declared.summary.RingRow.{RingRow}
use Rattle.tap_report.specs.Report.{Report, Total}

-- a number
abbrev pub count : ℕ → Data
count n = number (unsigned n)

abbrev pub device_data : DeviceRow → Data
device_data d =
    object (member (codes "dropped") (count d.dropped) (member (codes "name") (string d.name)
    (member (codes "rx") (count d.rx) (member (codes "tx") (count d.tx) no_members))))

abbrev pub file_data : FileRow → Data
file_data f =
    object (member (codes "cut") (count f.cut) (member (codes "file") (count f.file)
    (member (codes "guest") (count f.guest) (member (codes "overrun") (count f.overrun)
    (member (codes "purged") (count f.purged) (member (codes "read") (count f.read)
    (member (codes "waiting") (count f.waiting) no_members)))))))

abbrev pub ring_data : RingRow → Data
ring_data r =
    object (member (codes "bad") (count r.bad) (member (codes "bytes") (count r.bytes)
    (member (codes "calls") (count r.calls) (member (codes "chains") (count r.chains)
    (member (codes "frames") (count r.frames) (member (codes "ring") (count r.ring)
    (member (codes "stopped") (count r.stopped) (member (codes "vhost") (count r.vhost) no_members))))))))

abbrev pub total_data : Total → Data
total_data t =
    object (member (codes "accepted") (count t.accepted) (member (codes "delivered") (count t.delivered)
    (member (codes "discarded") (count t.discarded) (member (codes "waiting") (count t.waiting) no_members))))

abbrev pub report_data : Report → Data
report_data r =
    object (member (codes "devices") (array (items_of (map device_data r.devices)))
    (member (codes "files") (array (items_of (map file_data r.files)))
    (member (codes "rings") (array (items_of (map ring_data r.rings)))
    (member (codes "total") (total_data r.total) no_members))))

-- its compact text
abbrev pub report_json : Report → List ℕ
report_json r = compact_text (report_data r)
