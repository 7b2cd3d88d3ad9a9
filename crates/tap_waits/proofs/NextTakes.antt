-- A worker that asks for a frame gets the front of the batch, which up to 64 ready fronts have joined before.
use Rattle.std.proofs.Common.{◌≡◌, ℕ, zero, suc, ◌+◌, List, [], ◌∷◌, Bool, true, false, Option, Some, None, refl, ap, ◌∙◌, option_map}
use Rattle.std.specs.Prelude.{if◌then◌else◌, ◌==◌, ◌||◌, is_none, is_some, slice_get, length, min}
use Rattle.std.specs.Option.{option_map_or}
use Rattle.std.specs.List.{AllByRecursion}
use Rattle.tap_frame.specs.Frame.{FrameValue}
use Rattle.tap_ground.specs.Options.{◌>>=◌, only_if}
use Rattle.tap_world.specs.declared.line.Entry.{Entry}
use Rattle.tap_world.specs.declared.line.Standing.{Standing}
use Rattle.tap_world.specs.declared.line.Standing.TheVariants.{Batched}
use Rattle.tap_world.specs.Frames.{FrameText}
use Rattle.tap_world.specs.Setup.{Setup}
use Rattle.tap_world.specs.Line.{File, first_that, has_batch, in_batch}
use Rattle.tap_world.specs.LineSteps.{filled, ready_front, restand, taken_by}
use Rattle.tap_world.specs.StepTurns.{frame_at, front_frame}
use Rattle.tap_world.specs.Steady.{WasSent}
use Rattle.tap_sound.proofs.Turned.{itself}
use Rattle.tap_waits.proofs.Kit.{is_there}
use Rattle.tap_waits.proofs.NextLines.{all_three, first_stands, ready_there}
use Rattle.tap_waits.proofs.NextRing.{all_at, frame_there}

-- ---- an entry that joins the batch

later : (o : Option ℕ) → is_some o ≡ true → is_some (option_map (λ (i : ℕ). i + 1) o) ≡ true
later None e = e
later (Some j) e = refl

restood : (line : List Entry) (k : ℕ) (e : Entry) → slice_get line k ≡ Some e
    → is_some (first_that in_batch (restand k Batched line)) ≡ true
restood [] k e at_ = absurd (cc (at_))
restood (x ∷ xs) zero e at_ = refl
restood (x ∷ xs) (suc k) e at_ = go (in_batch x.stands) (restood xs k e at_)
  where
    go : (b : Bool) → is_some (first_that in_batch (restand k Batched xs)) ≡ true
        → is_some (if b then Some 0 else option_map (λ (i : ℕ). i + 1) (first_that in_batch (restand k Batched xs)))
        ≡ true
    go true h = refl
    go false h = later (first_that in_batch (restand k Batched xs)) h

stays_filled : (more : ℕ) (line : List Entry) → is_some (first_that in_batch line) ≡ true
    → is_some (first_that in_batch (filled more line)) ≡ true
stays_filled zero line h = h
stays_filled (suc more) line h = go (ready_front line) refl
    (λ k e at_. stays_filled more (restand k Batched line) (restood line k e at_))
  where
    go : (o : Option ℕ) → ready_front line ≡ o
        → ((k : ℕ) (e : Entry) → slice_get line k ≡ Some e
        → is_some (first_that in_batch (filled more (restand k Batched line))) ≡ true)
        → is_some (first_that in_batch (option_map_or (λ i. filled more (restand i Batched line)) o line)) ≡ true
    go None is rest = h
    go (Some k) is rest = let e = ready_there line k is in rest k e.0 e.1

gets_filled : (line : List Entry) → is_some (ready_front line) ≡ true → is_some (first_that in_batch (filled 64 line))
    ≡ true
gets_filled line h =
    let k = is_there (ready_front line) h in
    let e = ready_there line k.0 k.1 in
    ap (λ (o : Option ℕ). is_some
    (first_that in_batch (option_map_or (λ i. filled 63 (restand i Batched line)) o line))) k.1
    ∙ stays_filled 63 (restand k.0 Batched line) (restood line k.0 e.0 e.1)

-- the line that a worker's look leaves
abbrev pub looked : File → List Entry
looked f = if has_batch f then f.line else filled 64 f.line

pub looked_front : (f : File) → (has_batch f || is_some (ready_front f.line)) ≡ true
    → is_some (first_that in_batch (looked f)) ≡ true
looked_front f h = go (has_batch f) refl h
  where
    go : (b : Bool) → has_batch f ≡ b → (b || is_some (ready_front f.line)) ≡ true
        → is_some (first_that in_batch (if b then f.line else filled 64 f.line)) ≡ true
    go true is h = is
    go false is h = gets_filled f.line h

-- ---- frames of entries that moved

restand_sent : (s : Setup) (k : ℕ) (x : Standing) (line : List Entry) → AllByRecursion (WasSent s) line
    → AllByRecursion (WasSent s) (restand k x line)
restand_sent s k x [] h = h
restand_sent s zero x (e ∷ es) h = (
  record {
    line = h.0.line;
    device = h.0.device;
    hdr = h.0.hdr;
    bytes = h.0.bytes;
    is_line = h.0.is_line;
    name =
        h.0.name;
    command = h.0.command;
    accepted = h.0.accepted;
    kept = h.0.kept;
  },
  h.1,
)
restand_sent s (suc k) x (e ∷ es) h = (h.0, restand_sent s k x es h.1)

filled_sent : (s : Setup) (more : ℕ) (line : List Entry) → AllByRecursion (WasSent s) line
    → AllByRecursion (WasSent s) (filled more line)
filled_sent s zero line h = h
filled_sent s (suc more) line h = go (ready_front line)
    (λ k. filled_sent s more (restand k Batched line) (restand_sent s k Batched line h))
  where
    go : (o : Option ℕ) → ((k : ℕ) → AllByRecursion (WasSent s) (filled more (restand k Batched line)))
        → AllByRecursion (WasSent s) (option_map_or (λ i. filled more (restand i Batched line)) o line)
    go None rest = h
    go (Some k) rest = rest k

looked_sent : (s : Setup) (f : File) → AllByRecursion (WasSent s) f.line → AllByRecursion (WasSent s) (looked f)
looked_sent s f h = go (has_batch f)
  where
    go : (b : Bool) → AllByRecursion (WasSent s) (if b then f.line else filled 64 f.line)
    go true = h
    go false = filled_sent s 64 f.line h

-- the front of what was sent has its frame
front_there : (s : Setup) (f : File) → AllByRecursion (WasSent s) f.line → is_some (first_that in_batch f.line) ≡ true
    → (frame : FrameValue) × (front_frame s f ≡ Some frame)
front_there s f sent h =
    let k = is_there (first_that in_batch f.line) h in
    let e = first_stands in_batch f.line k.0 k.1 in
    let x = frame_there s e.entry (all_at (WasSent s) f.line k.0 e.entry sent e.is_there) in
    let frame : FrameValue = record {
      name = e.entry.name;
      hdr = x.0.hdr;
      made = x.0.ether;
      mark = min e.entry.len
          (length x.0.ether);
    } in (
      frame,
      ap (λ (o : Option ℕ). o >>= (λ i. slice_get f.line i >>= (λ y. frame_at s y))) k.1
          ∙ ap (λ (o : Option Entry). o >>= (λ y. frame_at s y)) e.is_there
          ∙ ap (λ (o : Option FrameText). option_map
          (λ (y : FrameText). record {
            name = e.entry.name;
            hdr = y.hdr;
            made = y.ether;
            mark = min e.entry.len
                (length y.ether);
          }) o) x.1,
    )

-- ---- a frame is taken

-- the file with its front in hand
abbrev pub in_hand_of : ℕ → File → File
in_hand_of vhost f = record f { line = looked f; hand = Some vhost }

pub taken_is : (vhost : ℕ) (f : File) → f.owner ≡ Some vhost → is_none f.hand ≡ true
    → (has_batch f || is_some (ready_front f.line)) ≡ true → taken_by vhost f ≡ Some (in_hand_of vhost f)
taken_is vhost f owner free h =
    ap (λ (b : Bool). only_if b (in_hand_of vhost f))
    (all_three (option_map_or (λ (v : ℕ). v == vhost) f.owner false) (is_none f.hand)
    (is_some (first_that in_batch (looked f)))
    (ap (λ (o : Option ℕ). option_map_or (λ (v : ℕ). v == vhost) o false) owner ∙ itself vhost) free (looked_front f h))

pub taken_frame : (s : Setup) (vhost : ℕ) (f : File) → AllByRecursion (WasSent s) f.line
    → (has_batch f || is_some (ready_front f.line)) ≡ true
    → (frame : FrameValue) × (front_frame s (in_hand_of vhost f) ≡ Some frame)
taken_frame s vhost f sent h = front_there s (in_hand_of vhost f) (looked_sent s f sent) (looked_front f h)
