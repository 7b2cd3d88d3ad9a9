-- What a read takes.
use Rattle.std.proofs.Common.{◌≡◌, ℕ, suc, ◌+◌, ◌<◌, ◌≤◌, List, [], ◌∷◌, length, take, true, false, Bool, Option, Some, None, refl, sym, ap, ◌∙◌, subst, true≢false, arith}
use Rattle.std.specs.Prelude.{if◌then◌else◌, ◌&&◌, min, is_none, is_some, option_map, slice_get}
use Rattle.scen_words.specs.declared.command.Command.{Command}
use Rattle.scen_words.specs.declared.command.Command.TheVariants as command
use Rattle.tap_frame.specs.declared.shape.Shape.{Shape}
use Rattle.tap_frame.specs.Frame.{FrameValue, bytes_of}
use Rattle.tap_frame.specs.Text.{text}
use Rattle.tap_ground.specs.Options.{◌>>=◌, only_if}
use Rattle.tap_guests.specs.Backs.{front_of}
use Rattle.tap_ledger.specs.declared.fate.Fate.TheVariants as fate
use Rattle.tap_lines.specs.Files.{files_of}
use Rattle.tap_lines.specs.Placed.{MayChange, Placed}
use Rattle.tap_sound.proofs.Kit.{only_some, some_same, then_some}
use Rattle.tap_steer.specs.Table.{Table}
use Rattle.tap_trace.specs.declared.answer.Answer.TheVariants as answer
use Rattle.tap_world.specs.ByNumber.{at}
use Rattle.tap_world.specs.declared.event.EventKind.TheVariants as kind
use Rattle.tap_world.specs.declared.line.Entry.{Entry}
use Rattle.tap_world.specs.declared.line.Standing.{Standing}
use Rattle.tap_world.specs.Effect.{Effect}
use Rattle.tap_world.specs.Effect.Onward.{Ends}
use Rattle.tap_world.specs.Frames.{FrameText, Front, least_in, text_in}
use Rattle.tap_world.specs.Line.{File, first_that, front_place, in_batch}
use Rattle.tap_world.specs.LineSteps.{ready_front}
use Rattle.tap_world.specs.LineSteps.Change.{Leaves}
use Rattle.tap_world.specs.Setup.{Setup, frame_of, frame_sent}
use Rattle.tap_world.specs.SoundActors.{reads_from}
use Rattle.tap_world.specs.Steady.{FoundIn}
use Rattle.tap_world.specs.Step.{or_else, owner_row}
use Rattle.tap_world.specs.StepRing.{finds_none, leaves, meets_worker, read_told}
use Rattle.tap_world.specs.StepTransmits.{turns}
use Rattle.tap_world.specs.World.{World}
use Rattle.tap_world.specs.World.Doing.{Reads}
use Rattle.core_shared.proofs.Kit.{file_at}
use Rattle.core_shared.proofs.Knowing.{can_be_now, found_now}
use Rattle.core_shared.proofs.Taking.{may_change}
use Rattle.core_shared.specs.Asking.{Asking, setup}
use Rattle.core_shared.specs.Did.{HasEffect}
use Rattle.core_shared.specs.MayDo.{MayDo}
use Rattle.core_shared.specs.Suiting.{IsSent}
use Rattle.core_shared.specs.Worlds.{world_in}
use Rattle.core_shared.specs.declared.doing.Doing.TheVariants as doing
use Rattle.core_shared.specs.declared.shared.Shared.{Shared}
use Rattle.core_rings.proofs.Done.{keeps}
use Rattle.core_rings.proofs.Events.{changes_file}
use Rattle.core_rings.proofs.Rows.{no_turn, or_first}

-- ---- the batch's front is taken

pub record ReadsSo (a : Asking) (x : Shared) (file room : ℕ) (shape : Shape) (p : Placed) : Type 0 where
  pub index : ℕ
  pub first : first_that in_batch p.file.line ≡ Some index
  pub entry : Entry
  pub is_entry : slice_get p.file.line index ≡ Some entry
  pub frame : FrameText
  pub is_frame : frame_of (setup a) entry.name entry.len ≡ Some frame
  pub may : MayChange (Leaves None fate.Read) p.file
  pub has : HasEffect a (Reads file room (front_of shape)) kind.Out x
      (changes_file file (Leaves None fate.Read) (read_told p.file (front_of shape) room a.seen index entry frame) x)

-- the effect of a read that takes this entry
abbrev takes : Asking → Shared → ℕ → ℕ → Shape → File → ℕ → Entry → FrameText → Effect
takes a x file room shape f i e t = changes_file file (Leaves None fate.Read) (read_told f (front_of shape) room a.seen i e t) x

reads_so : (a : Asking) (x : Shared) (file room : ℕ) (shape : Shape) (p : Placed) (m : MayDo a (doing.Reads file room shape) kind.Out x) (i : ℕ) (e : Entry)
    (t : FrameText) → at x.files file ≡ Some p → first_that in_batch p.file.line ≡ Some i → slice_get p.file.line i ≡ Some e
    → frame_of (setup a) e.name e.len ≡ Some t → m.event.effect ≡ takes a x file room shape p.file i e t
    → HasEffect a (Reads file room (front_of shape)) kind.Out x m.event.effect → ReadsSo a x file room shape p
reads_so a x file room shape p m i e t is first is_entry is_frame its has = record {
  index = i;
  first = first;
  entry = e;
  is_entry = is_entry;
  frame = t;
  is_frame = is_frame;
  may = may_change m file (Leaves None fate.Read) p is (ap (λ (r : Effect). r.files) its);
  has = subst (λ (r : Effect). HasEffect a (Reads file room (front_of shape)) kind.Out x r) its has;
}

-- what is found on the way to it
reads_by : (a : Asking) (x : Shared) (file room : ℕ) (shape : Shape) (p : Placed) (m : MayDo a (doing.Reads file room shape) kind.Out x)
    → at x.files file ≡ Some p → HasEffect a (Reads file room (front_of shape)) kind.Out x m.event.effect
    → (first_that in_batch p.file.line >>= λ (i : ℕ). slice_get p.file.line i >>= λ (e : Entry).
    frame_of (setup a) e.name e.len >>= λ (t : FrameText). Some (takes a x file room shape p.file i e t)) ≡ Some m.event.effect
    → ReadsSo a x file room shape p
reads_by a x file room shape p m is has row =
    let i = then_some (first_that in_batch p.file.line) _ m.event.effect row in
    let e = then_some (slice_get p.file.line i.0) _ m.event.effect i.2 in
    let t = then_some (frame_of (setup a) e.0.name e.0.len) _ m.event.effect e.2 in
    reads_so a x file room shape p m i.0 e.0 t.0 is i.1 e.1 t.1 (sym (some_same _ m.event.effect t.2)) has

pub read_event : (a : Asking) (x : Shared) (file room : ℕ) (shape : Shape) (p : Placed) → MayDo a (doing.Reads file room shape) kind.Out x
    → at x.files file ≡ Some p → ReadsSo a x file room shape p
read_event a x file room shape p m is =
    let w : World = world_in x m.actors m.said in
    let front : Front = front_of shape in
    let row = or_first (leaves (setup a) w a.seen (Reads file room front)) (turns w a.actor a.number a.seen (Reads file room front) a.command)
    m.event.effect m.event.is_row (no_turn w a.command) in
    let f = then_some (at (files_of x.files) file) _ m.event.effect row in
    let same : f.0 ≡ p.file = some_same f.0 p.file (sym f.1 ∙ file_at file x.files p is) in
    reads_by a x file room shape p m is
    (record {
      is_next = λ actors said. m.event.is_next;
      is_row = λ actors said rest.
          ap (λ o. or_else o (turns (world_in x actors said) a.actor a.number a.seen (Reads file room front) a.command)) row;
    })
    (subst (λ (g : File). (first_that in_batch g.line >>= λ (i : ℕ). slice_get g.line i >>= λ (e : Entry).
    frame_of (setup a) e.name e.len >>= λ (t : FrameText). Some (takes a x file room shape g i e t)) ≡ Some m.event.effect) same f.2)

-- the room holds what stands in front
room_of : (t : Table) (c : Command) (file room : ℕ) (front : Front) → reads_from file c ≡ true → FoundIn t c (Reads file room front) → least_in front ≤ room
room_of t (command.Read other asked) file room front e h = h.2
room_of t c file room front e h = absurd (true≢false (sym e))

pub room_now : (a : Asking) (x : Shared) (file room : ℕ) (shape : Shape) → MayDo a (doing.Reads file room shape) kind.Out x
    → least_in (front_of shape) ≤ room
room_now a x file room shape m = room_of _ a.command file room (front_of shape) (can_be_now m) (found_now m)

-- the text of a frame that was sent is that of its entry's
pub text_is : (s : Setup) (shape : Shape) (frame : FrameValue) (e : Entry) (t : FrameText) (room : ℕ) → IsSent s frame → frame.name ≡ e.name
    → frame.mark ≡ e.len → frame_of s e.name e.len ≡ Some t → text shape frame.hdr (bytes_of frame) room ≡ text_in (front_of shape) t room
text_is s shape frame e t room sent name mark its = go (frame_sent s frame.name) refl
  where
    again : frame_of s frame.name frame.mark ≡ Some t
    again = ap (λ n. frame_of s n frame.mark) name ∙ ap (λ (m : ℕ). frame_of s e.name m) mark ∙ its

    go : (o : Option FrameText) → frame_sent s frame.name ≡ o → text shape frame.hdr (bytes_of frame) room ≡ text_in (front_of shape) t room
    go None is = absurd (cc (again, is))
    go (Some f) is =
        let kept = some_same _ _ (sym (ap (λ (o : Option FrameText).
        option_map (λ (g : FrameText). record { name = frame.name; hdr = g.hdr; made = g.ether; mark = min frame.mark (length g.ether) }) o) is) ∙ sent) in
        let hdr : f.hdr ≡ frame.hdr = ap (λ (g : FrameValue). g.hdr) kept in
        let made : f.ether ≡ frame.made = ap (λ (g : FrameValue). g.made) kept in
        let text_of : record { hdr = f.hdr; ether = take frame.mark f.ether } ≡ t = some_same _ _ (sym (ap (λ (o : Option FrameText).
        option_map (λ (g : FrameText). record g { ether = take frame.mark g.ether }) o) is) ∙ again) in
        ap (λ (h : List ℕ). text shape h (take frame.mark frame.made) room) (sym hdr)
        ∙ ap (λ (b : List ℕ). text shape f.hdr (take frame.mark b) room) (sym made)
        ∙ ap (λ (g : FrameText). text_in (front_of shape) g room) text_of

-- ---- it meets a worker, or finds nothing

or_nothing : (o : Option Effect) → or_else o None ≡ o
or_nothing None = refl
or_nothing (Some r) = refl

owner_read : (w : World) (actor seen file room : ℕ) (front : Front) (c : Command) → reads_from file c ≡ true
    → owner_row w actor seen (Reads file room front) c ≡ or_else (meets_worker w seen (Reads file room front)) None
owner_read w actor seen file room front (command.Read other asked) e = refl
owner_read w actor seen file room front c e = absurd (true≢false (sym e))

pub owner_event : (a : Asking) (x : Shared) (file room : ℕ) (shape : Shape) → MayDo a (doing.Reads file room shape) kind.Owner x
    → HasEffect a (Reads file room (front_of shape)) kind.Owner x (keeps (Ends a.seen answer.Busy) x)
owner_event a x file room shape m =
    let front : Front = front_of shape in
    let row : meets_worker (world_in x [] []) a.seen (Reads file room front) ≡ Some m.event.effect =
    sym (or_nothing (meets_worker (world_in x [] []) a.seen (Reads file room front)))
    ∙ sym (owner_read (world_in x m.actors m.said) a.actor a.seen file room front a.command (can_be_now m)) ∙ m.event.is_row in
    let f = then_some (at (files_of x.files) file) (λ (f : File). only_if (is_some f.owner) (keeps (Ends a.seen answer.Busy) x)) m.event.effect row in
    let its : keeps (Ends a.seen answer.Busy) x ≡ m.event.effect = (only_some (is_some f.0.owner) (keeps (Ends a.seen answer.Busy) x) m.event.effect f.2).1 in
    let all : HasEffect a (Reads file room front) kind.Owner x m.event.effect = record {
      is_next = λ actors said. m.event.is_next;
      is_row = λ actors said rest.
          owner_read (world_in x actors said) a.actor a.seen file room front a.command (can_be_now m)
          ∙ or_nothing (meets_worker (world_in x [] []) a.seen (Reads file room front)) ∙ row;
    } in
    subst (λ (r : Effect). HasEffect a (Reads file room front) kind.Owner x r) (sym its) all

pub none_event : (a : Asking) (x : Shared) (file room : ℕ) (shape : Shape) (p : Placed) → MayDo a (doing.Reads file room shape) kind.NotReady x
    → at x.files file ≡ Some p
    → HasEffect a (Reads file room (front_of shape)) kind.NotReady x (keeps (Ends a.seen (answer.Again (front_place p.file))) x)
none_event a x file room shape p m is =
    let front : Front = front_of shape in
    let eff : File → Effect = λ f. keeps (Ends a.seen (answer.Again (front_place f))) x in
    let row : finds_none (world_in x [] []) a.seen (Reads file room front) ≡ Some m.event.effect =
    sym (or_nothing (finds_none (world_in x [] []) a.seen (Reads file room front))) ∙ m.event.is_row in
    let f = then_some (at (files_of x.files) file) (λ (f : File). only_if (is_none (first_that in_batch f.line) && is_none (ready_front f.line)) (eff f))
    m.event.effect row in
    let same : f.0 ≡ p.file = some_same f.0 p.file (sym f.1 ∙ file_at file x.files p is) in
    let its : eff p.file ≡ m.event.effect = ap eff (sym same) ∙ (only_some _ (eff f.0) m.event.effect f.2).1 in
    let all : HasEffect a (Reads file room front) kind.NotReady x m.event.effect =
    record { is_next = λ actors said. m.event.is_next; is_row = λ actors said rest. m.event.is_row } in
    subst (λ (r : Effect). HasEffect a (Reads file room front) kind.NotReady x r) (sym its) all

-- ---- a place

pub first_within : (test : Standing → Bool) (line : List Entry) (i : ℕ) → first_that test line ≡ Some i → i < length line
first_within test [] i e = absurd (cc (e))
first_within test (x ∷ xs) i e = go (test x.stands) (first_that test xs) (λ j. first_within test xs j) e
  where
    next : (o : Option ℕ) → ((j : ℕ) → o ≡ Some j → j < length xs) → option_map (λ j. j + 1) o ≡ Some i → i < suc (length xs)
    next None h k = absurd (cc (k))
    next (Some j) h k =
        let below = h j refl in
        let is : j + 1 ≡ i = some_same (j + 1) i k in
        omega (arith, below, is)

    go : (b : Bool) (o : Option ℕ) → ((j : ℕ) → o ≡ Some j → j < length xs) → (if b then Some 0 else option_map (λ j. j + 1) o) ≡ Some i
        → i < suc (length xs)
    go true o h k =
        let is : 0 ≡ i = some_same 0 i k in
        omega (arith, is)
    go false o h k = next o h k
