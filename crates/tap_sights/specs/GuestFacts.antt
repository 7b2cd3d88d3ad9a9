-- This project's own: what the guests' steps tell, and the packets of the files.
use Rattle.std.specs.Prelude.{◌≡◌, ℕ, ◌≤◌, ◌<◌, ◌==◌, map, filter, filter_map, flat_map, slice_get, true, is_some, List, [], ◌∷◌, Option, Some, None, IfSome}
use Rattle.std.specs.Option.{option_map_or}
use Rattle.guest_mem.specs.declared.region.Region.{Region}
use Rattle.tap_frame.specs.declared.name.Name.{Name}
use Rattle.tap_frame.specs.Frame.{FrameValue}
use Rattle.tap_ledger.specs.declared.hand.Hand.TheVariants as hand
use Rattle.tap_ledger.specs.declared.side.Side.{Side}
use Rattle.tap_steer.specs.declared.operation.Op.TheVariants as op
use Rattle.tap_steer.specs.Select.{learns}
use Rattle.scen_words.specs.declared.command.Command.TheVariants as command
use Rattle.tap_trace.specs.declared.answer.Answer.{Answer}
use Rattle.tap_trace.specs.declared.kind.Kind.{Kind}
use Rattle.tap_trace.specs.declared.trace.RingPart.{RingPart}
use Rattle.tap_trace.specs.declared.trace.StepLine.{StepLine}
use Rattle.tap_world.specs.ByNumber.{at, numbered}
use Rattle.tap_world.specs.Guests.{Vhost}
use Rattle.tap_world.specs.Project.{ring_parts}
use Rattle.tap_legal.specs.Numbered.{AnswerAt, Asked, EntryAt, OpAt, RingAt, StepAt, Told}
use Rattle.tap_legal.specs.Case.{Case}
use Rattle.tap_legal.specs.Codes.{same_answer}
use Rattle.tap_legal.specs.LegalFates.{fits_packet, is_packet}
use Rattle.tap_legal.specs.LegalGuests.{guest_named, has_steps}
use Rattle.tap_legal.specs.Lookups.{asked_at, learnt_by, own_ops, table_at, told_of}
use Rattle.tap_legal.specs.Replay.{Accepted, Packet, frame_named, version_for}
use Rattle.tap_legal.specs.Replays.{is_set_by}
use Rattle.tap_legal.specs.Served.{makes_worker, served_by, serves}
use Rattle.tap_legal.specs.Takes.{copied, has_guest}
use Rattle.tap_sights.specs.Acts.{Act, Done, all_done, first_state, last_state}
use Rattle.tap_sights.specs.Acts.What.{Backed, Turned}
use Rattle.tap_sights.specs.Sight.{In, Ordered, Seen}
use Rattle.tap_sights.specs.Tells.{IsLooked}

-- ---- acts and the trace

-- the lines that acts print
abbrev pub step_line : Act → Kind → StepLine
step_line a k = record { actor = a.told.actor; command = a.told.command; kind = k }

abbrev pub printed : List (Act × Done) → List StepLine
printed ds = filter_map (λ (d : Act × Done). option_map_or (λ k. Some (step_line d.0 k)) d.1.step None) ds

-- what the trace has of an act: its command, the answer that it gives; a frame in hand is that of an entry of the file
-- that the turn serves; a backend is judged by the table at SEEN, or before its operation; the file that it takes off the
-- ring is that of its operation
pub record ActTells (c : Case) (d : Act × Done) : Type 0 where
  pub asked : asked_at c d.0.told.command ≡ Some (record { told = d.0.told; command = d.0.command })
  pub told : (x : Answer) → d.1.answer ≡ Some x
      → (y : AnswerAt) × In y c.answers × (y.told ≡ d.0.told) × (same_answer y.answer x ≡ true)
  pub hand : (f : FrameValue) → d.0.what ≡ Turned (hand.Got f)
      → (e : EntryAt) × In e c.entries × (e.at.name ≡ f.name) × (frame_named c f.name ≡ Some f)
      × (serves c e.file d.0.told.command ≡ true)
  pub table : (version : ℕ) → d.0.what ≡ Backed version → (y : AnswerAt) → In y c.answers → y.told ≡ d.0.told
      → version ≡ version_for y (own_ops c d.0.told.command)
  pub gave : (file : ℕ) → d.1.gave ≡ Some file
      → (o : OpAt) × (own_ops c d.0.told.command ≡ o ∷ []) × (side : Side) × (o.op ≡ Some (op.Back file side None))

-- a look for the flow of a frame that a transmit turn accepted, and the learning that followed
pub record Look : Type 0 where
  pub flow : ℕ
  pub version : ℕ
  pub learning : Option OpAt

pub record LookTells (c : Case) (s : Seen) (a : AnswerAt) (file : ℕ) (l : Look) : Type 0 where
  pub looked : IsLooked s a l.version
  pub does : learns (table_at c l.version) file ≡ is_some l.learning
  pub is : (o : OpAt) → l.learning ≡ Some o → o.op ≡ Some (op.Learn file l.flow)

-- the frames that a turn accepted, each with its look; their learnings are the turn's
pub record TurnLearns (c : Case) (s : Seen) (a : AnswerAt) (file : ℕ) (flows : List ℕ) : Type 0 where
  pub looks : List Look
  pub are : map (λ (l : Look). l.flow) looks ≡ flows
  pub each : (l : Look) → In l looks → LookTells c s a file l
  pub learnings : filter_map (λ (l : Look). l.learning) looks ≡ learnt_by c a.told.command

abbrev pub flows_by : ℕ → List (Act × Done) → List ℕ
flows_by command ds =
    map (λ (x : Accepted). x.flow)
    (filter (λ (x : Accepted). x.command == command) (flat_map (λ (d : Act × Done). d.1.accepted) ds))

-- ---- a guest

-- no act of a command comes behind the one that gives its answer
abbrev pub IsNotAfterAnswer : Act × Done → Act × Done → Type 0
IsNotAfterAnswer d e = d.0.told ≡ e.0.told → d.1.answer ≡ None

-- The acts on a guest are a fold from its zeros; the steps that they print are its lines. Each command on it that has
-- steps is done, once. A transmit turn serves the file of its ring, if it has one, and learnt only of its frames.
pub record GuestTells (c : Case) (s : Seen) (guest : ℕ) (regions : List Region) (done : List (Act × Done)) : Type 0 where
  pub acts : List Act
  pub folds : all_done c guest acts (first_state c guest regions) ≡ Some done
  pub steps : printed done ≡ map (λ (x : StepAt). x.at) (filter (λ (x : StepAt). x.guest == guest) c.steps)
  pub each : (d : Act × Done) → In d done → ActTells c d
  pub whole : (x : Asked) → In x c.asked → guest_named c x.command ≡ Some guest → has_steps x.command ≡ true
      → (d : Act × Done) × In d done × (d.0.told ≡ x.told) × (is_some d.1.answer ≡ true)
  pub once : Ordered IsNotAfterAnswer done
  pub learnings : (a : AnswerAt) (vhost : ℕ) → In a c.answers → a.asked ≡ Some (command.TxTurn vhost)
      → at c.setup.vhosts vhost ≡ Some guest
      → (file : ℕ) × IfSome (served_by c a.told.command) (λ f. f ≡ file)
      × TurnLearns c s a file (flows_by a.told.command done)
  pub rings : (n : ℕ) (v : Vhost) (p : RingPart) → at (last_state (first_state c guest regions) done).vhosts n ≡ Some v
      → In p (ring_parts (n, v))
      → (r : RingAt) × In r c.rings × (r.vhost ≡ p.vhost) × (r.ring ≡ p.ring) × (r.lists ≡ p.lists)

-- a step stands between the sights of its command
pub record StepIsSeen (c : Case) (s : Seen) (guest i : ℕ) (x : StepAt) : Type 0 where
  pub by : Told
  pub is : told_of c x.at.command ≡ Some by
  pub from : (s.before by).steps guest ≤ i
  pub to : i < (s.after by).steps guest

-- a copy is of an entry that its turn took
pub record CopyTells (c : Case) (s : Seen) (x : StepAt) (name : Name) : Type 0 where
  pub entry : EntryAt
  pub there : In entry c.entries
  pub named : entry.at.name ≡ name
  pub fate : has_guest entry.at.fate ≡ true
  pub by : told_of c x.at.command ≡ Some (s.taker entry)

abbrev pub IsOtherCopy : StepAt → StepAt → Type 0
IsOtherCopy x y = (n : Name) → copied x.at.kind ≡ Some n → copied y.at.kind ≡ Some n → ⊥

-- rings 0 and 1 of a vhost
abbrev pub ring_on : RingAt → ℕ × ℕ
ring_on r = (r.vhost, r.ring)

abbrev pub both_rings : ℕ × ℕ → List (ℕ × ℕ)
both_rings v = (v.0, 0) ∷ (v.0, 1) ∷ []

abbrev pub EachGuest : Case → Seen → List (ℕ × List Region) → List (List (Act × Done)) → Type 0
EachGuest c s [] [] = Unit {0}
EachGuest c s (g ∷ gs) (d ∷ ds) = GuestTells c s g.0 g.1 d × EachGuest c s gs ds
EachGuest c s gs ds = ⊥

-- The steps are those of the declared guests.
pub record GuestFacts (c : Case) (s : Seen) : Type 0 where
  pub done : List (List (Act × Done))
  pub guests : EachGuest c s (numbered 0 c.setup.guests) done
  pub named : (x : StepAt) → In x c.steps
      → (g : ℕ × List Region) × In g (numbered 0 c.setup.guests) × (g.0 ≡ x.guest)
  pub steps : (guest i : ℕ) (x : StepAt) → slice_get (filter (λ (y : StepAt). y.guest == guest) c.steps) i ≡ Some x
      → StepIsSeen c s guest i x
  pub copies : (x : StepAt) (name : Name) → In x c.steps → copied x.at.kind ≡ Some name → CopyTells c s x name
  pub once : Ordered IsOtherCopy c.steps
  pub rings : map ring_on c.rings ≡ flat_map both_rings (numbered 0 c.setup.vhosts)

-- ---- packets

-- the packets on a file, by the operations that made a vhost its worker; of a guest by its acts
abbrev pub packets_on : Case → ℕ → List (Act × Done) → List Packet
packets_on c command ds = filter (is_set_by c command) (flat_map (λ (d : Act × Done). d.1.packets) ds)

abbrev pub packets_told : Case → ℕ → List (List (Act × Done)) → List Packet
packets_told c file gs =
    flat_map (λ (o : OpAt). flat_map (packets_on c o.at.command) gs)
    (filter (λ (o : OpAt). makes_worker file o.op) c.ops)

abbrev pub IsBelow : EntryAt → EntryAt → Type 0
IsBelow d e = d.at.place < e.at.place

abbrev pub Fits : List Packet → List EntryAt → Type 0
Fits [] [] = Unit {0}
Fits (p ∷ ps) (e ∷ es) = (fits_packet p e e.at.fate p.name ≡ true) × Fits ps es
Fits ps es = ⊥

-- The packets on a file are those of entries whose places rise, and these are all that a turn took.
pub record PacketTells (c : Case) (file : ℕ) (ps : List Packet) : Type 0 where
  pub entries : List EntryAt
  pub fits : Fits ps entries
  pub rise : Ordered IsBelow entries
  pub there : (e : EntryAt) → In e entries → In e c.entries × (e.file ≡ file)
  pub all : (e : EntryAt) → In e c.entries → e.file ≡ file → is_packet e.at.fate ≡ true → In e entries
