-- Each entry is the frame of a send.
use Rattle.std.proofs.Common.{◌≡◌, ℕ, zero, suc, ◌+◌, ◌-◌, ◌≤◌, List, [], ◌∷◌, ◌++◌, length, map, min, Bool, true, false, true≢false, Option, Some, None, refl, sym, ap, ◌∙◌, subst, arith}
use Rattle.std.specs.Prelude.{◌==◌, if◌then◌else◌, option_map, slice_get}
use Rattle.std.specs.List.{AllByRecursion}
use Rattle.std.specs.Option.{option_map_or}
use Rattle.tap_frame.specs.declared.name.Name.{Name}
use Rattle.tap_queues.specs.declared.queues.Row.{Row as QueueRow}
use Rattle.tap_steer.specs.declared.selection.Select.{Select}
use Rattle.tap_steer.specs.declared.selection.Select.TheVariants as select
use Rattle.tap_steer.specs.Select as steer
use Rattle.tap_steer.specs.Table.{Device, Table, device_at}
use Rattle.scen_words.specs.declared.command.Command.{Command}
use Rattle.scen_words.specs.declared.command.Command.TheVariants as command
use Rattle.scen_text.specs.declared.scenario.Scenario.{Scenario}
use Rattle.tap_world.specs.declared.event.Event.{Event}
use Rattle.tap_world.specs.ByNumber.{at}
use Rattle.tap_world.specs.Frames.{ether_in, sent_bytes, sent_front}
use Rattle.tap_world.specs.Setup.{Declared, Numbered, Setup, script_in, setup_of}
use Rattle.tap_world.specs.declared.line.Entry.{Entry}
use Rattle.tap_world.specs.declared.line.Standing.{Standing}
use Rattle.tap_world.specs.declared.line.Standing.TheVariants.{Batched, Claimed, Cut, Out, Ready}
use Rattle.tap_world.specs.Line.{File, has_batch}
use Rattle.tap_world.specs.LineSteps.{Change, changed, filled, moves_to, ready_front, restand}
use Rattle.tap_world.specs.LineSteps.Change.{Claims, Cuts, Leaves, Moves, Owned, Puts, PutsBack, Reopens, Shuts, Sizes, Takes}
use Rattle.tap_ground.specs.Options.{only_if}
use Rattle.tap_world.specs.World.{Actor, Doing, World, name_of, table_at}
use Rattle.tap_world.specs.World.Doing.{Routed}
use Rattle.tap_world.specs.Effect.OnFiles.{OnFile}
use Rattle.tap_world.specs.Runs.{new_file}
use Rattle.tap_world.specs.Each.{EachFile}
use Rattle.tap_world.specs.SoundActors.{can_be, is_send}
use Rattle.tap_world.specs.Steady.{FoundIn, IsSteady, WasSent}
use Rattle.scen_laid.specs.Laid.{IsLaid}
use Rattle.tap_sound.proofs.Held.{can_here}
use Rattle.tap_sound.proofs.Kit.{only_some, some_same, then_some, where_some}
use Rattle.tap_sound.proofs.Kept.{step_keeps}
use Rattle.tap_sound.proofs.Taken.{IsStep, if_some, step_is}
use Rattle.tap_sound.proofs.Publishing.{equal}
use Rattle.tap_steady.specs.Part.{IsPart}
use Rattle.tap_steady.proofs.Kit.{at_plus}
use Rattle.tap_steady.proofs.PlacedChanges.{IsOf, Makes, row_makes, who}
use Rattle.tap_steady.proofs.SentLines.{line_is}

-- ---- a row keeps no more bytes than the frame has

abbrev kept_of : Select → ℕ
kept_of (select.Row row keep resizes capacity) = keep
kept_of other = 0

least : (n : ℕ) → 0 ≤ n
least n = omega arith

lesser : (m n : ℕ) → min m n ≤ n
lesser m n = omega arith

kept_by : (t : Table) (most : ℕ) (frame : List ℕ) (row : QueueRow) (b : Bool)
    → kept_of (if b then select.Filtered else steer.goes_to t row (min most (length frame))) ≤ length frame
kept_by t most frame row true = least (length frame)
kept_by t most frame row false = lesser most (length frame)

kept_from : (t : Table) (most : ℕ) (frame : List ℕ) (o : Option QueueRow) → kept_of (steer.filtered t most frame o) ≤ length frame
kept_from t most frame None = least (length frame)
kept_from t most frame (Some row) = kept_by t most frame row (most == 0)

kept_in : (t : Table) (d : Device) (frame : List ℕ) (b : Bool)
    → kept_of (if b then select.NoQueue else steer.filtered t (steer.allowed t d.settings.filter frame) frame (steer.row_in t d frame)) ≤ length frame
kept_in t d frame true = least (length frame)
kept_in t d frame false = kept_from t (steer.allowed t d.settings.filter frame) frame (steer.row_in t d frame)

kept_at : (t : Table) (frame : List ℕ) (o : Option Device) → kept_of (option_map_or (λ d. steer.select_in t d frame) o select.NoQueue) ≤ length frame
kept_at t frame None = least (length frame)
kept_at t frame (Some d) = kept_in t d frame (length d.rows == 0)

keeps_within : (t : Table) (device : ℕ) (frame : List ℕ) → kept_of (steer.select t device frame) ≤ length frame
unfolding steer.select
keeps_within t device frame = kept_at t frame (device_at t device)

-- ---- entries that stand elsewhere

module _ (s : Setup) where
  -- each entry was sent
  pub record AllSent (line : List Entry) : Type 0 where
    pub all : AllByRecursion (WasSent s) line

  stands_so : (e : Entry) (x : Standing) → WasSent s e → WasSent s (record e { stands = x })
  stands_so e x h = record {
    line = h.line;
    device = h.device;
    hdr = h.hdr;
    bytes = h.bytes;
    is_line = h.is_line;
    name = h.name;
    command = h.command;
    accepted = h.accepted;
    kept = h.kept;
  }

  restood : (i : ℕ) (x : Standing) (line : List Entry) → AllByRecursion (WasSent s) line → AllByRecursion (WasSent s) (restand i x line)
  restood i x [] h = tt
  restood zero x (e ∷ es) h = (stands_so e x h.0, h.1)
  restood (suc i) x (e ∷ es) h = (h.0, restood i x es h.1)

  one_more : (line : List Entry) (e : Entry) → AllByRecursion (WasSent s) line → WasSent s e → AllByRecursion (WasSent s) (line ++ e ∷ [])
  one_more [] e h new = (new, tt)
  one_more (x ∷ xs) e h new = (h.0, one_more xs e h.1 new)

  batched : (n : ℕ) (line : List Entry) → AllByRecursion (WasSent s) line → AllByRecursion (WasSent s) (filled n line)
  batched zero line h = h
  batched (suc n) line h = go (ready_front line) (λ i. batched n (restand i Batched line) (restood i Batched line h))
    where
      go : (o : Option ℕ) → ((i : ℕ) → AllByRecursion (WasSent s) (filled n (restand i Batched line)))
          → AllByRecursion (WasSent s) (option_map_or (λ i. filled n (restand i Batched line)) o line)
      go None rest = h
      go (Some i) rest = rest i

  -- what a claim brings was sent
  abbrev pub IsSentBy : Change → Type 0
  IsSentBy (Claims actor name epoch len) = WasSent s (record { name = name; epoch = epoch; len = len; stands = Claimed actor })
  IsSentBy c = Unit {0}

  moved_on : (x : Standing) (f g : File) (o : Option ℕ) → moves_to x f o ≡ Some g → AllByRecursion (WasSent s) f.line → AllByRecursion (WasSent s) g.line
  moved_on x f g None e h = absurd (cc (e))
  moved_on x f g (Some i) e h =
      subst (λ (q : File). AllByRecursion (WasSent s) q.line) (some_same (record f { line = restand i x f.line }) g e) (restood i x f.line h)

  lets : (f h g : File) (test : Bool) → only_if test h ≡ Some g → AllByRecursion (WasSent s) h.line → AllByRecursion (WasSent s) g.line
  lets f h g test e all = subst (λ (q : File). AllByRecursion (WasSent s) q.line) (only_some test h g e).1 all

  takes_on : (vhost : ℕ) (f g : File) (b test : Bool) → only_if test (record f { line = if b then f.line else filled 64 f.line; hand = Some vhost }) ≡ Some g
      → AllByRecursion (WasSent s) f.line → AllByRecursion (WasSent s) g.line
  takes_on vhost f g true test e h = lets f (record f { hand = Some vhost }) g test e h
  takes_on vhost f g false test e h = lets f (record f { line = filled 64 f.line; hand = Some vhost }) g test e (batched 64 f.line h)

  pub sent_on : (c : Change) (f g : File) → IsSentBy c → changed c f ≡ Some g → AllByRecursion (WasSent s) f.line → AllByRecursion (WasSent s) g.line
  sent_on (Claims actor name epoch len) f g new e h =
      lets f (record f { line = f.line ++ record { name = name; epoch = epoch; len = len; stands = Claimed actor } ∷ [] }) g _ e
      (one_more f.line (record { name = name; epoch = epoch; len = len; stands = Claimed actor }) h new)
  sent_on (Puts actor place) f g new e h =
      let t = then_some (slice_get f.line (place - f.first)) _ g e in
      lets f (record f { line = restand (place - f.first) Ready f.line }) g _ t.2 (restood (place - f.first) Ready f.line h)
  sent_on Moves f g new e h = moved_on Batched f g (ready_front f.line) (if_some _ _ g e).1 h
  sent_on (Takes vhost) f g new e h = takes_on vhost f g (has_batch f) _ e h
  sent_on (PutsBack vhost) f g new e h = lets f (record f { hand = None }) g _ e h
  sent_on (Leaves worker fate) f g new e h = moved_on (Out fate) (record f { hand = None }) g _ (if_some _ _ g e).1 h
  sent_on Shuts f g new e h = lets f (record f { shut = true }) g _ e h
  sent_on Reopens f g new e h = lets f (record f { shut = false; epoch = f.epoch + 1 }) g _ e h
  sent_on (Sizes capacity) f g new e h = lets f (record f { capacity = capacity; resizes = f.resizes + 1 }) g _ e h
  sent_on Cuts f g new e h = moved_on Cut f g _ (if_some _ _ g e).1 h
  sent_on (Owned owner) f g new e h = lets f (record f { owner = owner }) g _ e h

-- ---- what is claimed

first_there : (cs : List Numbered) (c : Numbered) (done : List Numbered) → slice_get cs 0 ≡ Some c → slice_get (done ++ cs) (length done + 0) ≡ Some c
first_there cs c done e = at_plus done cs 0 (length done + 0) refl ∙ e

-- the frame of a send that has a row, and the line of its number
routed : (s : Scenario) (w : World) (actor : ℕ) (a : Actor) (c : Numbered) (file epoch len : ℕ) (o : Command) → c.command ≡ o → is_send o ≡ true
    → IsLaid s → IsSteady (setup_of s) w → slice_get w.actors actor ≡ Some a → slice_get a.script 0 ≡ Some c → a.doing ≡ Routed file epoch len
    → WasSent (setup_of s) (record { name = name_of actor c.number; epoch = epoch; len = len; stands = Claimed actor })
routed s w actor a c file epoch len (command.Send device hdr bytes) is send laid steady at_ now doing =
    let order = steady.told.order actor a at_ in
    let script : slice_get (script_in order.0 actor) (length order.2.0 + 0) ≡ Some c =
    ap (λ (cs : List Numbered). slice_get cs (length order.2.0 + 0)) order.2.1 ∙ first_there a.script c order.2.0 now in
    let l = line_is s w.phase order.0 actor (length order.2.0 + 0) c laid.numbers order.1 script in
    let found : FoundIn (table_at (setup_of s) w a.seen) (command.Send device hdr bytes) (Routed file epoch len) =
    subst (λ (d : Doing). FoundIn (table_at (setup_of s) w a.seen) (command.Send device hdr bytes) d) doing
    (subst (λ (q : Command). FoundIn (table_at (setup_of s) w a.seen) q a.doing) is ((steady.seen actor a at_).found c now)) in
    let keep : kept_of (steer.select (table_at (setup_of s) w a.seen) device (ether_in (sent_front hdr) (sent_bytes hdr bytes))) ≡ len =
    ap kept_of found.selected in
    let within = keeps_within (table_at (setup_of s) w a.seen) device (ether_in (sent_front hdr) (sent_bytes hdr bytes)) in
    let number : l.line.number ≡ c.number = ap (λ (q : Numbered). q.number) l.is in
    record {
      line = l.line;
      device = device;
      hdr = hdr;
      bytes = bytes;
      is_line = l.is_line;
      name = ap (λ (n : ℕ). name_of n c.number) (sym (equal l.line.actor actor l.actor_is)) ∙ ap (λ (n : ℕ). name_of l.line.actor n) (sym number);
      command = ap (λ (q : Numbered). q.command) l.is ∙ is;
      accepted = found.accepted;
      kept = subst (λ (n : ℕ). n ≤ length (ether_in (sent_front hdr) (sent_bytes hdr bytes))) keep within;
    }
routed s w actor a c file epoch len o is send laid steady at_ now doing = absurd (true≢false (sym send))

-- a change of a file brings what was sent
brings : (s : Scenario) (w : World) (x : Event) (u : World) (t : IsStep (setup_of s) w x u) → IsLaid s → IsSteady (setup_of s) w
    → can_be t.actor.doing t.now.command ≡ true → (file : ℕ) (c : Change)
    → IsOf (who x.actor t.now.number t.actor.doing t.now.command) (OnFile file c) → IsSentBy (setup_of s) c
brings s w x u t laid steady can file (Claims actor name epoch len) of =
    subst (λ (n : Name). WasSent (setup_of s) (record { name = n; epoch = epoch; len = len; stands = Claimed actor })) (sym of.2)
    (subst (λ (n : ℕ). WasSent (setup_of s) (record { name = name_of x.actor t.now.number; epoch = epoch; len = len; stands = Claimed n })) (sym of.1)
    (routed s w x.actor t.actor t.now file epoch len t.now.command refl
    (subst (λ (d : Doing). can_be d t.now.command ≡ true) of.0 can) laid steady t.found t.current_is of.0))
brings s w x u t laid steady can file c of = tt

-- ---- the part

new_sent : (s : Setup) (fs : List (Option Declared)) (file : ℕ) (f : File) → at (map (λ (d : Option Declared). option_map new_file d) fs) file ≡ Some f
    → AllByRecursion (WasSent s) f.line
new_sent s [] file f e = absurd (cc (e))
new_sent s (None ∷ fs) zero f e = absurd (cc (e))
new_sent s (Some d ∷ fs) zero f e = subst (λ (q : File). AllByRecursion (WasSent s) q.line) (some_same (new_file d) f e) tt
new_sent s (x ∷ fs) (suc file) f e = new_sent s fs file f e

pub sent : IsPart (λ s w. EachFile w (λ file f. AllByRecursion (WasSent s) f.line))
sent = record {
  first = λ s laid file f at_. new_sent (setup_of s) (setup_of s).files file f at_;
  begin = λ s ended p w laid between is sound steady file f at_. steady.sent file f at_;
  event = λ s w e u laid world is sound steady after.
      let t = step_is (setup_of s) w e u is in
      let can = can_here (setup_of s) w e u.0 t sound.sound.actors.stand in
      let k = who e.actor t.now.number t.actor.doing t.now.command in
      let makes : Makes k t.effect = where_some (Makes k) _ t.effect (row_makes (setup_of s) w e.kind e.actor t.actor t.now.number t.now.command can) t.is_row in
      step_keeps (λ file f. AllByRecursion (WasSent (setup_of s)) f.line) (setup_of s) w e u.0 t
      (λ file c f g o is_changed all. sent_on (setup_of s) c f g
      (brings s w e u.0 t laid steady can file c (subst (IsOf k) o makes)) is_changed all) steady.sent;
}
