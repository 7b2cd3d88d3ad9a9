-- The look of a send.
use Rattle.std.proofs.Common.{◌≡◌, ◌≢◌, ◌⊎◌, ⊎_elim, ℕ, ◌≤◌, List, [], ◌∷◌, ◌++◌, length, take, min, Bool, true, false, Option, Some, None, refl, sym, ap, ◌∙◌, subst, arith}
use Rattle.std.proofs.Math.Nat.{min-eq_left, min-eq_right, min-le_right}
use Rattle.std.specs.Prelude.{◌==◌, if◌then◌else◌, option_map, IfOk, OnOk, Result, Ok, Err}
use Rattle.std.specs.Option.{option_map_or}
use Rattle.scen_words.specs.declared.command.Command.{Command}
use Rattle.scen_words.specs.declared.command.Command.TheVariants as command
use Rattle.tap_frame.specs.Frame.{FrameValue, bytes_of, cut_at}
use Rattle.tap_frame.specs.declared.header.Hdr.{Hdr}
use Rattle.tap_frame.specs.declared.name.Name.{Name}
use Rattle.tap_frame.specs.declared.reading.BadFrame.{BadFrame}
use Rattle.tap_frame.specs.declared.reading.BadFrame.TheVariants.{NoMemory}
use Rattle.tap_ledger.specs.declared.fate.Cause.{Cause}
use Rattle.tap_ledger.specs.declared.fate.Cause.TheVariants as cause
use Rattle.tap_queues.specs.declared.queues.Row.{Row as QueueRow}
use Rattle.tap_steer.specs.Select as steer
use Rattle.tap_steer.specs.declared.selection.Select.{Select}
use Rattle.tap_steer.specs.declared.selection.Select.TheVariants as select
use Rattle.tap_steer.specs.Table.{Device, Table, device_at}
use Rattle.tap_trace.specs.declared.answer.Answer.TheVariants as answer
use Rattle.tap_world.specs.declared.event.EventKind.{EventKind}
use Rattle.tap_world.specs.declared.event.EventKind.TheVariants as event
use Rattle.tap_world.specs.declared.event.Found.TheVariants as found
use Rattle.tap_world.specs.declared.told.Said.{Said}
use Rattle.tap_world.specs.Effect as world
use Rattle.tap_world.specs.Frames.{FrameText, bad_in, ether_in, sent_bytes, sent_front}
use Rattle.tap_world.specs.Scripts.{first_kind}
use Rattle.tap_world.specs.Setup.{sent_by}
use Rattle.tap_world.specs.Step.{row}
use Rattle.tap_world.specs.StepTable.{routed, sends, unless_bad}
use Rattle.tap_world.specs.World as come
use Rattle.tap_world.specs.World.{Actor, World, name_of}
use Rattle.core_shared.specs.Asking.{Asking, setup}
use Rattle.core_shared.specs.Did.{Went}
use Rattle.core_shared.specs.Held.{IsHeld}
use Rattle.core_shared.specs.MayDo.{MayGo, actor_at}
use Rattle.core_shared.specs.Suiting.{IsSent}
use Rattle.core_shared.specs.Worlds.{world_in}
use Rattle.core_shared.specs.declared.doing.Doing.TheVariants as doing
use Rattle.core_shared.specs.declared.onward.Onward.{Onward}
use Rattle.core_shared.specs.declared.onward.Onward.TheVariants as on
use Rattle.core_shared.specs.declared.shared.Shared.{Shared}
use Rattle.core_shared.proofs.Taking as taking
use Rattle.core_table.specs.Sent.{Sends, whole_frame}
use Rattle.core_table.proofs.Looks.{looks_on}
use Rattle.core_table.proofs.Rested.{done, rests_dropping}

-- ---- the row of a send

send_first : (a : Asking) (device : ℕ) (hdr : Option Hdr) (bytes : List ℕ) → a.command ≡ command.Send device hdr bytes
    → (w : World) → first_kind w a.command ≡ event.Look
send_first a device hdr bytes is w = ap (λ (c : Command). first_kind w c) is

send_row : (a : Asking) (x : Shared) (device : ℕ) (hdr : Option Hdr) (bytes : List ℕ) (o : Option BadFrame)
    → IsHeld (setup a) x → a.command ≡ command.Send device hdr bytes → bad_in (sent_front hdr) (sent_bytes hdr bytes) ≡ o
    → (actors : List Actor) (said : List Said) (act : Actor)
    → row (setup a) (world_in x actors said) event.Look a.actor act a.number a.command
    ≡ Some (unless_bad o (world_in x actors said) (routed (world_in x actors said) (name_of a.actor a.number)
    (steer.select x.ops.table device (ether_in (sent_front hdr) (sent_bytes hdr bytes)))))
send_row a x device hdr bytes o held is e actors said act =
    let w = world_in x actors said in
    ap (λ (c : Command). row (setup a) w event.Look a.actor act a.number c) is
    ∙ ap (λ (t : Table). Some (sends t w (name_of a.actor a.number) device (sent_front hdr) (sent_bytes hdr bytes)))
    (sym held.table)
    ∙ ap (λ (p : Option BadFrame). Some (unless_bad p w (routed w (name_of a.actor a.number)
    (steer.select x.ops.table device (ether_in (sent_front hdr) (sent_bytes hdr bytes)))))) e

pub send_bad : (a : Asking) (x : Shared) (device : ℕ) (hdr : Option Hdr) (bytes : List ℕ) (bad : BadFrame)
    → MayGo a doing.Begun x → a.command ≡ command.Send device hdr bytes
    → bad_in (sent_front hdr) (sent_bytes hdr bytes) ≡ Some bad
    → Went a doing.Begun x x (on.Ends (length x.ops.ops) (answer.Bad bad))
send_bad a x device hdr bytes bad m is e =
    looks_on a x (world.Onward.Ends (length x.ops.ops) (answer.Bad bad)) _ m (send_first a device hdr bytes is)
    (send_row a x device hdr bytes (Some bad) m.1.held is e) refl tt

-- ---- the frame

pub take_all : (xs : List ℕ) → take (length xs) xs ≡ xs
take_all [] = refl
take_all (x ∷ xs) = ap (λ (l : List ℕ). x ∷ l) (take_all xs)

-- all its bytes are looked at
pub bytes_are : (a : Asking) (device : ℕ) (frame : FrameValue) → Sends a device frame → bytes_of frame ≡ frame.made
bytes_are a device frame s =
    ap (λ (f : FrameValue). bytes_of f) s.whole ∙ take_all _ ∙ ap (λ (f : FrameValue). f.made) (sym s.whole)

select_row : (a : Asking) (x : Shared) (device : ℕ) (frame : FrameValue) (chosen : Select) → MayGo a doing.Begun x
    → (s : Sends a device frame) → steer.select x.ops.table device frame.made ≡ chosen
    → (actors : List Actor) (said : List Said) (act : Actor)
    → row (setup a) (world_in x actors said) event.Look a.actor act a.number a.command
    ≡ Some (routed (world_in x actors said) (name_of a.actor a.number) chosen)
select_row a x device frame chosen m s e actors said act =
    send_row a x device s.hdr s.bytes None m.1.held s.command s.accepted actors said act
    ∙ ap (λ (l : List ℕ). Some (routed (world_in x actors said) (name_of a.actor a.number) (steer.select x.ops.table device l)))
    (ap (λ (f : FrameValue). f.made) (sym s.whole))
    ∙ ap (λ (c : Select). Some (routed (world_in x actors said) (name_of a.actor a.number) c)) e

-- ---- it is dropped

dropped : (a : Asking) (old new : Shared) (device : ℕ) (frame : FrameValue) (why : Cause) → MayGo a doing.Begun old
    → (s : Sends a device frame)
    → ((actors : List Actor) (said : List Said) (act : Actor)
    → row (setup a) (world_in old actors said) event.Look a.actor act a.number a.command
    ≡ Some (record (world.only (world.Onward.Ends (length old.ops.ops) (answer.Dropped None why)) (world_in old actors said)) { drops = name_of a.actor a.number ∷ [] }))
    → new ≡ record old { dropped = new.dropped } → new.dropped.items ≡ old.dropped.items ++ frame.name ∷ []
    → Went a doing.Begun old new (on.Ends (length old.ops.ops) (answer.Dropped None why))
dropped a old new device frame why m s rows is names = (
  event.Look,
  done a doing.Begun event.Look old new (on.Ends (length old.ops.ops) (answer.Dropped None why)) []
      [] (name_of a.actor a.number ∷ []) old.writer (world.Onward.Ends (length old.ops.ops) (answer.Dropped None why))
      (rests_dropping a old new (name_of a.actor a.number) m.1.held is
      (names ∙ ap (λ (n : Name). old.dropped.items ++ n ∷ []) (ap (λ (f : FrameValue). f.name) s.whole))) m.1.held
      (record {
        is_next = λ actors said. ap (λ (k : EventKind). Some k)
            (send_first a device s.hdr s.bytes s.command (world_in old actors said));
        is_row = λ actors said rest. rows actors said (actor_at a come.Doing.Begun rest);
      }) refl tt,
)

pub drops_unqueued : (a : Asking) (old new : Shared) (device : ℕ) (frame : FrameValue) → MayGo a doing.Begun old
    → Sends a device frame → steer.select old.ops.table device frame.made ≡ select.NoQueue
    → new ≡ record old { dropped = new.dropped } → new.dropped.items ≡ old.dropped.items ++ frame.name ∷ []
    → Went a doing.Begun old new (on.Ends (length old.ops.ops) (answer.Dropped None cause.NoQueue))
drops_unqueued a old new device frame m s e is names =
    dropped a old new device frame cause.NoQueue m s (select_row a old device frame select.NoQueue m s e) is names

pub drops_filtered : (a : Asking) (old new : Shared) (device : ℕ) (frame : FrameValue) → MayGo a doing.Begun old
    → Sends a device frame → steer.select old.ops.table device frame.made ≡ select.Filtered
    → new ≡ record old { dropped = new.dropped } → new.dropped.items ≡ old.dropped.items ++ frame.name ∷ []
    → Went a doing.Begun old new (on.Ends (length old.ops.ops) (answer.Dropped None cause.Filtered))
drops_filtered a old new device frame m s e is names =
    dropped a old new device frame cause.Filtered m s (select_row a old device frame select.Filtered m s e) is names

-- ---- it has a row

-- how many bytes a row keeps
abbrev kept_by : Select → ℕ
kept_by (select.Row row keep resizes capacity) = keep
kept_by other = 0

kept_if : (t : Table) (most : ℕ) (frame : List ℕ) (x : QueueRow) (b : Bool)
    → kept_by (if b then select.Filtered else steer.goes_to t x (min most (length frame))) ≤ length frame
kept_if t most frame x true = omega arith
kept_if t most frame x false = min-le_right most (length frame)

kept_filtered : (t : Table) (most : ℕ) (frame : List ℕ) (o : Option QueueRow)
    → kept_by (steer.filtered t most frame o) ≤ length frame
kept_filtered t most frame None = omega arith
kept_filtered t most frame (Some x) = kept_if t most frame x (most == 0)

kept_chosen : (frame : List ℕ) (b : Bool) (s : Select) → kept_by s ≤ length frame
    → kept_by (if b then select.NoQueue else s) ≤ length frame
kept_chosen frame true s h = omega arith
kept_chosen frame false s h = h

kept_at : (t : Table) (frame : List ℕ) (o : Option Device)
    → kept_by (option_map_or (λ d. steer.select_in t d frame) o select.NoQueue) ≤ length frame
kept_at t frame None = omega arith
kept_at t frame (Some d) =
    kept_chosen frame (length d.rows == 0) _
    (kept_filtered t (steer.allowed t d.settings.filter frame) frame (steer.row_in t d frame))

-- no more than the frame has
kept_within : (t : Table) (device : ℕ) (frame : List ℕ) → kept_by (steer.select t device frame) ≤ length frame
unfolding steer.select
kept_within t device frame = kept_at t frame (device_at t device)

-- the frame is cut, and is still the one that was sent under its name
is_sent : (a : Asking) (x : Shared) (device keep : ℕ) (frame : FrameValue) → MayGo a doing.Begun x
    → (s : Sends a device frame) → keep ≤ length frame.made → frame.mark ≡ length frame.made
    → IsSent (setup a) (record (whole_frame (name_of a.actor a.number) (sent_front s.hdr) (sent_bytes s.hdr s.bytes)) { mark = keep })
is_sent a x device keep frame m s within whole =
    let n = name_of a.actor a.number in
    let made = ether_in (sent_front s.hdr) (sent_bytes s.hdr s.bytes) in
    let same : frame.made ≡ made = ap (λ (f : FrameValue). f.made) s.whole in
    let short : keep ≤ length made = subst (λ (l : List ℕ). keep ≤ length l) same within in
    ap (λ (o : Option FrameText). option_map (λ (f : FrameText). record { name = n; hdr = f.hdr; made = f.ether; mark = min keep (length f.ether) }) o)
    (taking.sends m.1 ∙ ap (λ (c : Command). sent_by c) s.command)
    ∙ ap (λ (k : ℕ). Some (record (whole_frame n (sent_front s.hdr) (sent_bytes s.hdr s.bytes)) { mark = k }))
    (min-eq_left short)

pub send_routed : (a : Asking) (x : Shared) (device : ℕ) (frame kept : FrameValue) (to : QueueRow) (keep resizes capacity : ℕ)
    → MayGo a doing.Begun x → Sends a device frame
    → steer.select x.ops.table device frame.made ≡ select.Row to keep resizes capacity
    → kept ≡ cut_at frame keep
    → Went a doing.Begun x x
    (on.Goes (length x.ops.ops) (doing.Routed to.file to.epoch kept) (found.Version (length x.ops.ops)))
send_routed a x device frame kept to keep resizes capacity m s e is =
    let within : keep ≤ length frame.made = subst (λ (c : Select). kept_by c ≤ length frame.made) e (kept_within x.ops.table device frame.made) in
    let whole : frame.mark ≡ length frame.made = ap (λ (f : FrameValue). f.mark) s.whole ∙ ap (λ (f : FrameValue). length f.made) (sym s.whole) in
    let mark : min frame.mark keep ≡ keep = min-eq_right (subst (λ (n : ℕ). keep ≤ n) (sym whole) within) in
    let wanted : kept ≡ record (whole_frame (name_of a.actor a.number) (sent_front s.hdr) (sent_bytes s.hdr s.bytes)) { mark = keep } =
    is ∙ ap (λ (n : ℕ). record frame { mark = n }) mark ∙ ap (λ (f : FrameValue). record f { mark = keep }) s.whole in
    looks_on a x (world.Onward.Goes (length x.ops.ops) (come.Doing.Routed to.file to.epoch keep)
    (found.Version (length x.ops.ops))) _ m (send_first a device s.hdr s.bytes s.command)
    (select_row a x device frame (select.Row to keep resizes capacity) m s e)
    (ap (λ (n : ℕ). world.Onward.Goes (length x.ops.ops) (come.Doing.Routed to.file to.epoch n)
    (found.Version (length x.ops.ops))) (sym (ap (λ (f : FrameValue). f.mark) wanted)))
    (record {
      sent = subst (IsSent (setup a)) (sym wanted) (is_sent a x device keep frame m s within whole);
      name = ap (λ (f : FrameValue). f.name) wanted;
    })

-- ---- the same, as the code says it

chosen_so : (a : Asking) (x : Shared) (device : ℕ) (frame : FrameValue) (t : Table) (bytes : List ℕ) (chosen wanted : Select)
    → Sends a device frame → t ≡ x.ops.table → bytes ≡ bytes_of frame → chosen ≡ steer.select t device bytes
    → chosen ≡ wanted → steer.select x.ops.table device frame.made ≡ wanted
chosen_so a x device frame t bytes chosen wanted s table_is all picks is =
    ap (λ (l : List ℕ). steer.select x.ops.table device l) (sym (all ∙ bytes_are a device frame s))
    ∙ ap (λ (u : Table). steer.select u device bytes) (sym table_is) ∙ sym picks ∙ is

pub if_unqueued : {E : Type 0} (a : Asking) (old new : Shared) (device : ℕ) (frame : FrameValue) (t : Table)
    (bytes : List ℕ) (chosen : Select) (r : Result Onward E) → MayGo a doing.Begun old → Sends a device frame
    → t ≡ old.ops.table → bytes ≡ bytes_of frame → chosen ≡ steer.select t device bytes → chosen ≡ select.NoQueue
    → OnOk r (new ≡ record old { dropped = new.dropped })
    → OnOk r (new.dropped.items ≡ old.dropped.items ++ frame.name ∷ [])
    → IfOk r (λ (o : Onward). o ≡ on.Ends (length old.ops.ops) (answer.Dropped None cause.NoQueue))
    → IfOk r (λ (o : Onward). Went a doing.Begun old new o)
if_unqueued a old new device frame t bytes chosen (Ok o) m s table_is all picks is stays names ends =
    subst (λ (q : Onward). Went a doing.Begun old new q) (sym ends)
    (drops_unqueued a old new device frame m s
    (chosen_so a old device frame t bytes chosen select.NoQueue s table_is all picks is) stays names)
if_unqueued a old new device frame t bytes chosen (Err e) m s table_is all picks is stays names ends = tt

pub if_filtered : {E : Type 0} (a : Asking) (old new : Shared) (device : ℕ) (frame : FrameValue) (t : Table)
    (bytes : List ℕ) (chosen : Select) (r : Result Onward E) → MayGo a doing.Begun old → Sends a device frame
    → t ≡ old.ops.table → bytes ≡ bytes_of frame → chosen ≡ steer.select t device bytes → chosen ≡ select.Filtered
    → OnOk r (new ≡ record old { dropped = new.dropped })
    → OnOk r (new.dropped.items ≡ old.dropped.items ++ frame.name ∷ [])
    → IfOk r (λ (o : Onward). o ≡ on.Ends (length old.ops.ops) (answer.Dropped None cause.Filtered))
    → IfOk r (λ (o : Onward). Went a doing.Begun old new o)
if_filtered a old new device frame t bytes chosen (Ok o) m s table_is all picks is stays names ends =
    subst (λ (q : Onward). Went a doing.Begun old new q) (sym ends)
    (drops_filtered a old new device frame m s
    (chosen_so a old device frame t bytes chosen select.Filtered s table_is all picks is) stays names)
if_filtered a old new device frame t bytes chosen (Err e) m s table_is all picks is stays names ends = tt

pub row_found : (a : Asking) (x : Shared) (device : ℕ) (frame kept : FrameValue) (t : Table) (bytes : List ℕ)
    (chosen : Select) (to : QueueRow) (keep resizes capacity seen : ℕ) → MayGo a doing.Begun x → Sends a device frame
    → t ≡ x.ops.table → bytes ≡ bytes_of frame → chosen ≡ steer.select t device bytes
    → chosen ≡ select.Row to keep resizes capacity → seen ≡ length x.ops.ops → kept ≡ cut_at frame keep
    → Went a doing.Begun x x (on.Goes seen (doing.Routed to.file to.epoch kept) (found.Version seen))
row_found a x device frame kept t bytes chosen to keep resizes capacity seen m s table_is all picks is sees cuts =
    subst (λ (n : ℕ). Went a doing.Begun x x (on.Goes n (doing.Routed to.file to.epoch kept) (found.Version n))) (sym sees)
    (send_routed a x device frame kept to keep resizes capacity m s
    (chosen_so a x device frame t bytes chosen (select.Row to keep resizes capacity) s table_is all picks is) cuts)

pub bad_found : {E : Type 0} (a : Asking) (x : Shared) (device : ℕ) (hdr : Option Hdr) (bytes : List ℕ) (bad : BadFrame)
    (seen : ℕ) (r : Result Onward E) → MayGo a doing.Begun x → a.command ≡ command.Send device hdr bytes
    → (bad ≡ NoMemory) ⊎ (bad_in (sent_front hdr) (sent_bytes hdr bytes) ≡ Some bad) → seen ≡ length x.ops.ops
    → IfOk r (λ (o : Onward). o ≡ on.Ends seen (answer.Bad bad)) → OnOk r (bad ≢ NoMemory)
    → IfOk r (λ (o : Onward). Went a doing.Begun x x o)
bad_found a x device hdr bytes bad seen (Ok o) m is why sees ends other =
    subst (λ (q : Onward). Went a doing.Begun x x q)
    (sym (ends ∙ ap (λ (n : ℕ). on.Ends n (answer.Bad bad)) sees))
    (⊎_elim (λ none. absurd (other none)) (λ e. send_bad a x device hdr bytes bad m is e) why)
bad_found a x device hdr bytes bad seen (Err e) m is why sees ends other = tt

take_front : (xs ys : List ℕ) → xs ≡ take (length xs) (xs ++ ys)
take_front [] ys = refl
take_front (x ∷ xs) ys = ap (λ (l : List ℕ). x ∷ l) (take_front xs ys)

-- a header in front of other bytes is the first ten of them
pub header_front : (front hdr ether : List ℕ) → front ≡ hdr → length front ≡ 10 → front ≡ take 10 (hdr ++ ether)
header_front front hdr ether is ten =
    take_front front ether ∙ ap (λ (n : ℕ). take n (front ++ ether)) ten ∙ ap (λ (l : List ℕ). take 10 (l ++ ether)) is
