-- This project's own: which queue of a device gets a frame, and how much of the frame.
use Rattle.std.specs.Prelude.{ℕ, ◌-◌, ◌*◌, ◌/◌, ◌%◌, ◌^◌, ◌==◌, Bool, false, if◌then◌else◌, List, [], length, Option, Some, None, unwrap_or, min, slice_get, slice_index_or}
use Rattle.std.specs.Option.{option_map, option_map_or}
use Rattle.tap_queues.specs.declared.queues.Row.{Row as QueueRow}
use Rattle.tap_flow_key.specs.FlowKey.{hash}
use Rattle.tap_flows.specs.FlowList.{found}
use Rattle.ebpf_run.specs.Meaning.{result_of}
use Rattle.tap_steer.specs.declared.files.Attachment.{Attachment}
use Rattle.tap_steer.specs.declared.files.Attachment.TheVariants.{Unattached, Enabled, Disabled}
use Rattle.tap_steer.specs.declared.selection.Select.{Select}
use Rattle.tap_steer.specs.declared.selection.Select.TheVariants.{Row, NoQueue, Filtered}
use Rattle.tap_frame.specs.declared.shape.Shape.{Shape}
use Rattle.tap_steer.specs.Table.{Table, Device, file_at, device_at, device_of}
use Rattle.tap_steer.specs.After.{is_learning}

-- the queue of a hash among this many: its share of all hashes
abbrev pub scaled : ℕ → ℕ → ℕ
scaled hash queues = hash * queues / 2 ^ 32

-- what a program answers on a frame
abbrev pub result_at : Table → ℕ → List ℕ → ℕ
result_at t program frame = result_of (slice_index_or t.programs program []) frame

-- without a program: where the flow was last seen, and else the hash's share
abbrev pub index_by_flow : Device → List ℕ → ℕ
index_by_flow d frame = unwrap_or (found d.flows (hash frame)) (scaled (hash frame) (length d.rows))

-- the index of the queue: by the low 16 bits of the steering program's result, or by the flow
abbrev pub index_in : Table → Device → Option ℕ → List ℕ → ℕ
index_in t d None frame = index_by_flow d frame
index_in t d (Some program) frame = result_at t program frame % 2 ^ 16 % length d.rows

-- how many bytes the filter lets pass, where 0 drops the frame; without one, more than any frame has
abbrev pub allowed : Table → Option ℕ → List ℕ → ℕ
allowed t None frame = 2 ^ 32 - 1
allowed t (Some program) frame = result_at t program frame

-- the frame goes to this row, at the capacity of its file
abbrev pub goes_to : Table → QueueRow → ℕ → Select
goes_to t row keep = Row row keep (file_at t row.file).resizes (file_at t row.file).capacity

-- the filter drops a frame that has a row, or cuts it
abbrev pub filtered : Table → ℕ → List ℕ → Option QueueRow → Select
filtered t most frame None = NoQueue
filtered t most frame (Some row) = if most == 0 then Filtered else goes_to t row (min most (length frame))

-- the row that a frame gets, if one has its index
abbrev pub row_in : Table → Device → List ℕ → Option QueueRow
row_in t d frame = slice_get d.rows (index_in t d d.settings.steering frame)

-- what becomes of a frame at a device: a device without an enabled queue runs no program
abbrev pub select_in : Table → Device → List ℕ → Select
select_in t d frame =
    if length d.rows == 0
    then NoQueue
    else filtered t (allowed t d.settings.filter frame) frame (row_in t d frame)

unfoldable pub select : Table → ℕ → List ℕ → Select
select t device frame = option_map_or (λ d. select_in t d frame) (device_at t device) NoQueue

-- ---- what else is asked of a table

-- the parts of a shape
abbrev pub parts_of : Shape → Bool × Option ℕ
parts_of shape = (shape.pi, shape.hdr)

-- what stands in front of the frames of a device: whether packet information, and the size of a header, if there is one
abbrev pub shape_in : Device → Bool × Option ℕ
shape_in d = (d.settings.pi, if d.settings.header then Some d.settings.header_size else None)

-- the shape of the frames of a file
abbrev pub shape_of : Table → ℕ → Option (Bool × Option ℕ)
shape_of t file = option_map_or (λ device. option_map shape_in (device_at t device)) (device_of t file) None

-- a file learns: it has an enabled queue, one of several, and no program steers
abbrev pub learns_at : Attachment → Table → Bool
learns_at (Enabled device) t = option_map_or is_learning (device_at t device) false
learns_at (Disabled device) t = false
learns_at Unattached t = false

abbrev pub learns : Table → ℕ → Bool
learns t file = learns_at (file_at t file).attachment t

-- how many frames the ring of a file holds, and how often that was changed
abbrev pub capacity_of : Table → ℕ → ℕ
capacity_of t file = (file_at t file).capacity

abbrev pub resizes_of : Table → ℕ → ℕ
resizes_of t file = (file_at t file).resizes
