-- This project's own: what may be used where an event may be done.
use Rattle.std.proofs.Common.{◌≡◌, ℕ, zero, suc, ◌+◌, ◌<◌, lit<, List, [], ◌∷◌, ◌++◌, length, Bool, true, false, Option, Some, None, refl, sym, ap, ◌∙◌, subst, true≢false, eq-eqb, inl, inr, arith}
use Rattle.std.specs.Prelude.{◌==◌, ◌&&◌, IsSome, MatchOption, flat_map, fold, is_some, option_map, slice_get}
use Rattle.std.specs.Option.{option_map_or}
use Rattle.std.specs.List.{AllByRecursion}
use Rattle.std.proofs.lemmas.Bool.Decides.{eqb_tells}
use Rattle.guest_mem.specs.declared.region.Region.{Region}
use Rattle.scen_laid.specs.Phases.{IsLine, IsPhase}
use Rattle.scen_text.specs.declared.scenario.Line.{Line}
use Rattle.scen_text.specs.declared.scenario.Phase.{Phase}
use Rattle.scen_text.specs.declared.scenario.Scenario.{Scenario}
use Rattle.scen_words.specs.declared.declaration.Declaration.{Declaration}
use Rattle.scen_words.specs.declared.declaration.Declaration.TheVariants as declares
use Rattle.scen_words.specs.Commands.{command_values, command_word, file_of, guest_of, vhost_of}
use Rattle.scen_words.specs.Words.{command_form}
use Rattle.scen_words.specs.declared.command.Command.{Command}
use Rattle.scen_words.specs.declared.command.Command.TheVariants as command
use Rattle.text_fields.specs.Forms.{FitForm}
use Rattle.tap_guests.specs.Side.{IsSide, RingIsIdle, RxIsServed, Side, TxIsServed}
use Rattle.vhost_rx.specs.Worker.{Worker as RxWorker}
use Rattle.vhost_tx.specs.Worker.{Worker as TxWorker}
use Rattle.tap_trace.specs.declared.turn.ChainText.{ChainText}
use Rattle.std.specs.declared.alloc.Global.{Global}
use Rattle.std.specs.Prelude.{Vec}
use Rattle.tap_guests.specs.Within.{IsIn}
use Rattle.tap_lines.specs.Files.{files_of}
use Rattle.tap_lines.specs.Placed.{MayChange, Placed}
use Rattle.tap_world.specs.declared.event.EventKind.{EventKind}
use Rattle.tap_world.specs.ByNumber.{at}
use Rattle.tap_world.specs.Effect.{Effect, files_after}
use Rattle.tap_world.specs.Effect.OnFiles.{OnFile}
use Rattle.tap_world.specs.Guests.{Guest, Vhost, turn_of}
use Rattle.tap_world.specs.Line.{File}
use Rattle.tap_world.specs.LineSteps.{Change, changed}
use Rattle.tap_world.specs.Setup.{Declared, NamesDeclared, Setup, frame_sent, line_of, nothing_of, sent_by, setup_of, with_declaration}
use Rattle.tap_world.specs.SoundRings.{holds_turn, is_about, ring_in}
use Rattle.tap_world.specs.Steady.{file_in}
use Rattle.tap_world.specs.Step.{row}
use Rattle.tap_world.specs.World as come
use Rattle.tap_world.specs.World.{World, name_of}
use Rattle.tap_ground.specs.Options.{◌>>=◌}
use Rattle.tap_sound.specs.Fresh.{AreNumbered, ArePhasesNumbered}
use Rattle.tap_sound.proofs.Kit.{some_same, then_some}
use Rattle.vring_turns.specs.RxTurn.{RxTurn}
use Rattle.vring_turns.specs.TxTurn.{TxTurn}
use Rattle.core_shared.specs.Asking.{Asking, setup}
use Rattle.core_shared.specs.Coming.{come_of, host_frame, rx_turn_in, tx_turn_in}
use Rattle.core_shared.specs.MayDo.{MayDo, actor_at}
use Rattle.core_shared.specs.Worlds.{vhosts_of, world_in}
use Rattle.core_shared.specs.declared.doing.Doing.{Doing}
use Rattle.core_shared.specs.declared.doing.Doing.TheVariants as doing
use Rattle.core_shared.specs.declared.doing.GivenFrame.{GivenFrame}
use Rattle.core_shared.specs.declared.shared.Shared.{Shared}
use Rattle.core_shared.proofs.Kit.{file_at, if_there, made_at, made_there, same_there, vhost_at}

-- ---- what is declared is there

pub file_there : {a : Asking} {d : Doing} {kind : EventKind} {x : Shared} → MayDo a d kind x → (file : ℕ)
    → IsSome (at (setup a).files file) → IsSome (at x.files file)
file_there {a = a} {x = x} m file h =
    sym (made_there (λ (p : Placed). p.file) (at x.files file))
    ∙ ap (λ (o : Option File). is_some o) (sym (made_at (λ (p : Placed). p.file) file x.files))
    ∙ same_there (λ (f : File). f.first) (λ (f : Declared). f.first) (files_of x.files) (setup a).files m.steady.there.files file
    ∙ h

-- the regions of a guest's memory are the declared ones
pub guest_regions : {a : Asking} {d : Doing} {kind : EventKind} {x : Shared} → MayDo a d kind x → (guest : ℕ)
    → option_map (λ (g : Guest). g.memory.regions) (at x.guests guest) ≡ at (setup a).guests guest
guest_regions {x = x} m guest =
    sym (made_at (λ (g : Guest). g.memory.regions) guest x.guests)
    ∙ ap (λ (l : List (Option (List Region))). at l guest) m.steady.there.guests

pub guest_there : {a : Asking} {d : Doing} {kind : EventKind} {x : Shared} → MayDo a d kind x → (guest : ℕ)
    → IsSome (at (setup a).guests guest) → IsSome (at x.guests guest)
guest_there {x = x} m guest h =
    sym (made_there (λ (g : Guest). g.memory.regions) (at x.guests guest))
    ∙ ap (λ (o : Option (List Region)). is_some o) (guest_regions m guest) ∙ h

-- the guest of a vhost is the declared one
pub vhost_guest : {a : Asking} {d : Doing} {kind : EventKind} {x : Shared} → MayDo a d kind x → (vhost : ℕ)
    → option_map (λ (v : Vhost). v.guest) (at (vhosts_of x.vhosts) vhost) ≡ at (setup a).vhosts vhost
vhost_guest {x = x} m vhost =
    sym (made_at (λ (v : Vhost). v.guest) vhost (vhosts_of x.vhosts))
    ∙ ap (λ (l : List (Option ℕ)). at l vhost) m.steady.there.vhosts

pub vhost_there : {a : Asking} {d : Doing} {kind : EventKind} {x : Shared} → MayDo a d kind x → (vhost : ℕ)
    → IsSome (at (setup a).vhosts vhost) → IsSome (at x.vhosts vhost)
vhost_there {x = x} m vhost h =
    sym (made_there (λ (v : Side). v.vhost) (at x.vhosts vhost))
    ∙ ap (λ (o : Option Vhost). is_some o) (sym (made_at (λ (v : Side). v.vhost) vhost x.vhosts))
    ∙ sym (made_there (λ (v : Vhost). v.guest) (at (vhosts_of x.vhosts) vhost))
    ∙ ap (λ (o : Option ℕ). is_some o) (vhost_guest m vhost) ∙ h

-- ---- the guest of a vhost

pub guest_of_there : {a : Asking} {d : Doing} {kind : EventKind} {x : Shared} → MayDo a d kind x → (vhost : ℕ) (v : Side)
    → at x.vhosts vhost ≡ Some v → IsSome (at x.guests v.vhost.guest)
guest_of_there {x = x} m vhost v e =
    let known = sym (vhost_guest m vhost) ∙ ap (λ (o : Option Vhost). option_map (λ (w : Vhost). w.guest) o) (vhost_at vhost x.vhosts v e) in
    guest_there m v.vhost.guest (m.laid.guests vhost v.vhost.guest known)

-- a vhost lies in its guest's memory
pub lies_in : {a : Asking} {d : Doing} {kind : EventKind} {x : Shared} → MayDo a d kind x → (vhost : ℕ) (v : Side) (g : Guest)
    → at x.vhosts vhost ≡ Some v → at x.guests v.vhost.guest ≡ Some g → IsIn g.memory.regions v
lies_in {x = x} m vhost v g e at_ =
    if_there (at x.guests v.vhost.guest) (λ (h : Guest). IsIn h.memory.regions v) g at_ (m.held.vhosts vhost v e)

-- ---- the file that a command under way is about

pub about_there : {a : Asking} {d : Doing} {kind : EventKind} {x : Shared} → MayDo a d kind x → (file : ℕ)
    → file_in (come_of x.vhosts d) ≡ Some file → IsSome (at x.files file)
about_there {a = a} {d = d} {x = x} m file e =
    file_there m file
    (if_there (file_in (come_of x.vhosts d)) (λ (n : ℕ). IsSome (at (setup a).files n)) file e
    (m.steady.named.doing a.actor (actor_at a (come_of x.vhosts d) m.rest) m.is_actor))

-- ---- what a command names

pub all_at : {A : Type 0} (P : A → Type 0) (xs : List A) (i : ℕ) (x : A) → AllByRecursion P xs → slice_get xs i ≡ Some x → P x
all_at P [] i x h e = absurd (cc (e))
all_at P (y ∷ ys) zero x h e = subst P (some_same y x e) h.0
all_at P (y ∷ ys) (suc i) x h e = all_at P ys i x h.1 e

pub line_is_one : {a : Asking} {d : Doing} {kind : EventKind} {x : Shared} → (m : MayDo a d kind x)
    → IsLine (setup a) m.asked.part.actors m.asked.line
line_is_one {a = a} {x = x} m =
    let p : IsPhase (setup a) m.asked.part = all_at (IsPhase (setup a)) a.scenario.phases x.phase m.asked.part m.laid.phases m.asked.is_part in
    all_at (IsLine (setup a) m.asked.part.actors) m.asked.part.lines m.asked.place m.asked.line p.lines m.asked.is_line

-- what it names is declared, and its values have the form of its word
pub declared : {a : Asking} {d : Doing} {kind : EventKind} {x : Shared} → MayDo a d kind x → NamesDeclared (setup a) a.command
declared {a = a} m = subst (λ (c : Command). NamesDeclared (setup a) c) m.asked.command (line_is_one m).declared

pub form : {a : Asking} {d : Doing} {kind : EventKind} {x : Shared} → MayDo a d kind x
    → FitForm (command_form (command_word a.command)) (command_values (setup a).names a.command)
form {a = a} m =
    subst (λ (c : Command). FitForm (command_form (command_word c)) (command_values (setup a).names c)) m.asked.command (line_is_one m).form

-- the actor is one of the phase's
pub actor_below : {a : Asking} {d : Doing} {kind : EventKind} {x : Shared} → (m : MayDo a d kind x) → a.actor < m.asked.part.actors
actor_below m = subst (λ (n : ℕ). n < m.asked.part.actors) m.asked.actor (line_is_one m).actor

-- its file, guest and vhost are there
pub file_named : {a : Asking} {d : Doing} {kind : EventKind} {x : Shared} → MayDo a d kind x → (file : ℕ)
    → file_of a.command ≡ Some file → IsSome (at x.files file)
file_named {a = a} m file e =
    file_there m file (if_there (file_of a.command) (λ (n : ℕ). IsSome (at (setup a).files n)) file e (declared m).file)

pub guest_named : {a : Asking} {d : Doing} {kind : EventKind} {x : Shared} → MayDo a d kind x → (guest : ℕ)
    → guest_of a.command ≡ Some guest → IsSome (at x.guests guest)
guest_named {a = a} m guest e =
    guest_there m guest (if_there (guest_of a.command) (λ (n : ℕ). IsSome (at (setup a).guests n)) guest e (declared m).guest)

pub vhost_named : {a : Asking} {d : Doing} {kind : EventKind} {x : Shared} → MayDo a d kind x → (vhost : ℕ)
    → vhost_of a.command ≡ Some vhost → IsSome (at x.vhosts vhost)
vhost_named {a = a} m vhost e =
    vhost_there m vhost (if_there (vhost_of a.command) (λ (n : ℕ). IsSome (at (setup a).vhosts n)) vhost e (declared m).vhost)

-- ---- the line of its number

at_front : {A : Type 0} (xs ys : List A) (i : ℕ) (x : A) → slice_get xs i ≡ Some x → slice_get (xs ++ ys) i ≡ Some x
at_front [] ys i x e = absurd (cc (e))
at_front (y ∷ xs) ys zero x e = e
at_front (y ∷ xs) ys (suc i) x e = at_front xs ys i x e

at_plus : {A : Type 0} (xs ys : List A) (k m : ℕ) → m ≡ length xs + k → slice_get (xs ++ ys) m ≡ slice_get ys k
at_plus [] ys k m e = ap (slice_get ys) (omega (arith, e))
at_plus (x ∷ xs) ys k zero e = absurd (omega (arith, e))
at_plus (x ∷ xs) ys k (suc m) e = at_plus xs ys k m (omega (arith, e))

numbered_at : (n : ℕ) (lines : List Line) (i : ℕ) (l : Line) → AreNumbered n lines → slice_get lines i ≡ Some l → l.number ≡ n + i
numbered_at n [] i l h e = absurd (cc (e))
numbered_at n (x ∷ xs) zero l h e = ap (λ (q : Line). q.number) (sym (some_same x l e)) ∙ h.0 ∙ omega arith
numbered_at n (x ∷ xs) (suc i) l h e = let rest = numbered_at (n + 1) xs i l h.1 e in omega (arith, rest)

-- behind so many lines a line of a later phase has its number's place
found_at : (n : ℕ) (ps : List Phase) (k : ℕ) (p : Phase) (i : ℕ) (l : Line) → ArePhasesNumbered n ps → slice_get ps k ≡ Some p → slice_get p.lines i ≡ Some l
    → (m : ℕ) × (l.number ≡ n + m) × (slice_get (flat_map (λ (q : Phase). q.lines) ps) m ≡ Some l)
found_at n [] k p i l h e at_ = absurd (cc (e))
found_at n (q ∷ qs) zero p i l h e at_ =
    let same : q ≡ p = some_same q p e in
    let here : slice_get q.lines i ≡ Some l = ap (λ (x : Phase). slice_get x.lines i) same ∙ at_ in
    (i, numbered_at n q.lines i l h.0 here, at_front q.lines (flat_map (λ (x : Phase). x.lines) qs) i l here)
found_at n (q ∷ qs) (suc k) p i l h e at_ =
    let r = found_at (n + length q.lines) qs k p i l h.1 e at_ in
    let number = r.1 in
    (length q.lines + r.0, omega (arith, number), at_plus q.lines (flat_map (λ (x : Phase). x.lines) qs) r.0 (length q.lines + r.0) refl ∙ r.2)

declared_phases : (d : Declaration) (s : Setup) → (with_declaration s d).phases ≡ s.phases
declared_phases (declares.File file capacity first) s = refl
declared_phases (declares.Region guest addr len) s = refl
declared_phases (declares.Vhost vhost guest) s = refl
declared_phases (declares.Prog program code) s = refl
declared_phases (declares.Flows name limit age) s = refl

folded_phases : (ds : List Declaration) (s : Setup) → (fold with_declaration s ds).phases ≡ s.phases
folded_phases [] s = refl
folded_phases (d ∷ ds) s = folded_phases ds (with_declaration s d) ∙ declared_phases d s

pub phases_are : (s : Scenario) → (setup_of s).phases ≡ s.phases
phases_are s = folded_phases s.declarations (nothing_of s)

-- the line of the command's number is its own
pub line_of_it : {a : Asking} {d : Doing} {kind : EventKind} {x : Shared} → (m : MayDo a d kind x)
    → line_of (setup a) a.number ≡ Some m.asked.line
line_of_it {a = a} {x = x} m =
    let r = found_at 0 a.scenario.phases x.phase m.asked.part m.asked.place m.asked.line m.laid.numbers m.asked.is_part m.asked.is_line in
    let its = r.1 in
    let number = m.asked.number in
    let same : a.number ≡ r.0 = omega (arith, its, number) in
    ap (λ (ps : List Phase). slice_get (flat_map (λ (q : Phase). q.lines) ps) a.number) (phases_are a.scenario)
    ∙ ap (λ (n : ℕ). slice_get (flat_map (λ (q : Phase). q.lines) a.scenario.phases) n) same ∙ r.2

-- the frame under the command's name is the one that it sends
pub sends : {a : Asking} {d : Doing} {kind : EventKind} {x : Shared} → MayDo a d kind x
    → frame_sent (setup a) (name_of a.actor a.number) ≡ sent_by a.command
sends {a = a} m =
    ap (λ (o : Option Line). o >>= λ (l : Line). sent_by l.command) (line_of_it m) ∙ ap sent_by m.asked.command

-- ---- what the event changes

-- the row's effect is the event's
pub effect_is : {a : Asking} {d : Doing} {kind : EventKind} {x : Shared} → (m : MayDo a d kind x) (r : Effect)
    → row (setup a) (world_in x m.actors m.said) kind a.actor (actor_at a (come_of x.vhosts d) m.rest) a.number a.command ≡ Some r
    → m.event.effect ≡ r
effect_is m r e = some_same m.event.effect r (sym m.event.is_row ∙ e)

-- the file that the event changes may be changed so
pub may_change : {a : Asking} {d : Doing} {kind : EventKind} {x : Shared} → (m : MayDo a d kind x) (file : ℕ) (change : Change) (p : Placed)
    → at x.files file ≡ Some p → m.event.effect.files ≡ OnFile file change → MayChange change p.file
may_change {x = x} m file change p e is =
    let after : files_after (OnFile file change) (files_of x.files) ≡ Some m.event.files =
    ap (λ o. files_after o (files_of x.files)) (sym is) ∙ m.event.is_files in
    let f = then_some (at (files_of x.files) file) _ m.event.files after in
    let g = then_some (changed change f.0) _ m.event.files f.2 in
    let same : f.0 ≡ p.file = some_same f.0 p.file (sym f.1 ∙ file_at file x.files p e) in
    ap (λ (o : Option File). is_some o) (ap (changed change) (sym same) ∙ g.1)

-- the same by the row's effect
pub may_change_by : {a : Asking} {d : Doing} {kind : EventKind} {x : Shared} → (m : MayDo a d kind x) (r : Effect) (file : ℕ) (change : Change) (p : Placed)
    → at x.files file ≡ Some p
    → row (setup a) (world_in x m.actors m.said) kind a.actor (actor_at a (come_of x.vhosts d) m.rest) a.number a.command ≡ Some r
    → r.files ≡ OnFile file change → MayChange change p.file
may_change_by m r file change p e is_row is = may_change m file change p e (ap (λ (q : Effect). q.files) (effect_is m r is_row) ∙ is)

-- ---- who holds a ring's turn

pub option_is : (o : Option ℕ) (n : ℕ) → true ≡ option_map_or (λ (k : ℕ). k == n) o false → o ≡ Some n
option_is None n e = absurd (true≢false e)
option_is (Some k) n e = elim (eqb_tells k n) [ inl t ↦ ap Some t.1 | inr t ↦ absurd (true≢false (e ∙ t.0)) ]

-- this one's command is about the ring
abbrev pub IsAbout : Asking → ℕ → ℕ → Type 0
IsAbout a vhost ring = option_map_or (λ (r : ℕ × ℕ). r.0 == vhost && r.1 == ring) (ring_in a.command) false ≡ true

-- a command that holds a turn holds that of its ring
pub holds_its_turn : {a : Asking} {d : Doing} {kind : EventKind} {x : Shared} → (m : MayDo a d kind x) (vhost ring : ℕ) (v : Side)
    → ring < 2 → at x.vhosts vhost ≡ Some v → holds_turn (come_of x.vhosts d) ≡ true → IsAbout a vhost ring
    → turn_of ring v.vhost ≡ Some a.actor
holds_its_turn {a = a} {d = d} {x = x} m vhost ring v below e holds about =
    option_is (turn_of ring v.vhost) a.actor
    (sym (ap (λ (b : Bool). b && option_map_or (λ (r : ℕ × ℕ). r.0 == vhost && r.1 == ring) (ring_in a.command) false) holds ∙ about)
    ∙ m.sound.actors.turns vhost v.vhost (vhost_at vhost x.vhosts v e) ring a.actor (actor_at a (come_of x.vhosts d) m.rest) below m.is_actor)

-- and one that holds none, none
pub holds_no_turn : {a : Asking} {d : Doing} {kind : EventKind} {x : Shared} → (m : MayDo a d kind x) (vhost ring : ℕ) (v : Side)
    → ring < 2 → at x.vhosts vhost ≡ Some v → holds_turn (come_of x.vhosts d) ≡ false
    → option_map_or (λ other. other == a.actor) (turn_of ring v.vhost) false ≡ false
holds_no_turn {a = a} {d = d} {x = x} m vhost ring v below e holds =
    sym (m.sound.actors.turns vhost v.vhost (vhost_at vhost x.vhosts v e) ring a.actor (actor_at a (come_of x.vhosts d) m.rest) below m.is_actor)
    ∙ ap (λ (b : Bool). b && is_about vhost ring (Some (record { number = a.number; command = a.command }))) holds

pub about_ring : (vhost ring : ℕ) → option_map_or (λ (r : ℕ × ℕ). r.0 == vhost && r.1 == ring) (Some (vhost, ring)) false ≡ true
about_ring vhost ring =
    ap (λ (b : Bool). b && ring == ring) (eq-eqb vhost vhost refl) ∙ eq-eqb ring ring refl

pub about_rx : (a : Asking) (vhost : ℕ) → a.command ≡ command.RxTurn vhost → IsAbout a vhost 0
about_rx a vhost e =
    ap (λ (c : Command). option_map_or (λ (r : ℕ × ℕ). r.0 == vhost && r.1 == 0) (ring_in c) false) e ∙ about_ring vhost 0

pub about_tx : (a : Asking) (vhost : ℕ) → a.command ≡ command.TxTurn vhost → IsAbout a vhost 1
about_tx a vhost e =
    ap (λ (c : Command). option_map_or (λ (r : ℕ × ℕ). r.0 == vhost && r.1 == 1) (ring_in c) false) e ∙ about_ring vhost 1

pub rx_holds : (o : Option RxTurn) (file : ℕ) → IsSome o → holds_turn (option_map_or (come.Doing.Receives file) o come.Doing.Begun) ≡ true
rx_holds None file h = absurd (true≢false (sym h))
rx_holds (Some t) file h = refl

pub tx_holds : (o : Option TxTurn) (so_far : TxTurn → come.Doing) → ((t : TxTurn) → holds_turn (so_far t) ≡ true) → IsSome o
    → holds_turn (option_map_or so_far o come.Doing.Begun) ≡ true
tx_holds None so_far each h = absurd (true≢false (sym h))
tx_holds (Some t) so_far each h = each t

-- a turn under way is its actor's
pub receives_holds : {a : Asking} {vhost file : ℕ} {kind : EventKind} {x : Shared} → MayDo a (doing.Receives vhost file) kind x → (v : Side)
    → at x.vhosts vhost ≡ Some v → turn_of 0 v.vhost ≡ Some a.actor
receives_holds {a = a} {vhost = vhost} {file = file} {x = x} m v e =
    holds_its_turn m vhost 0 v (lit< tt) e (rx_holds (rx_turn_in x.vhosts vhost) file m.suits.1) (about_rx a vhost m.suits.0)

pub transmits_holds : {a : Asking} {vhost file : ℕ} {chains : Vec ChainText Global} {kind : EventKind} {x : Shared} → MayDo a (doing.Transmits vhost file chains) kind x → (v : Side)
    → at x.vhosts vhost ≡ Some v → turn_of 1 v.vhost ≡ Some a.actor
transmits_holds {a = a} {vhost = vhost} {file = file} {chains = chains} {x = x} m v e =
    holds_its_turn m vhost 1 v (lit< tt) e (tx_holds (tx_turn_in x.vhosts vhost) (λ t. come.Doing.Transmits file t chains.items) (λ t. refl) m.suits.1) (about_tx a vhost m.suits.0)

pub given_holds : {a : Asking} {vhost file : ℕ} {chains : Vec ChainText Global} {frame : GivenFrame} {kind : EventKind} {x : Shared}
    → MayDo a (doing.Given vhost file chains frame) kind x → (v : Side)
    → at x.vhosts vhost ≡ Some v → turn_of 1 v.vhost ≡ Some a.actor
given_holds {a = a} {vhost = vhost} {file = file} {chains = chains} {frame = frame} {x = x} m v e =
    holds_its_turn m vhost 1 v (lit< tt) e (tx_holds (tx_turn_in x.vhosts vhost) (λ t. come.Doing.Given file t chains.items (host_frame frame)) (λ t. refl) m.suits.1) (about_tx a vhost m.suits.0)

pub teaches_holds : {a : Asking} {vhost file : ℕ} {chains : Vec ChainText Global} {frame : GivenFrame} {kind : EventKind} {x : Shared}
    → MayDo a (doing.Teaches vhost file chains frame) kind x → (v : Side)
    → at x.vhosts vhost ≡ Some v → turn_of 1 v.vhost ≡ Some a.actor
teaches_holds {a = a} {vhost = vhost} {file = file} {chains = chains} {frame = frame} {x = x} m v e =
    holds_its_turn m vhost 1 v (lit< tt) e (tx_holds (tx_turn_in x.vhosts vhost) (λ t. come.Doing.Teaches file t chains.items (host_frame frame)) (λ t. refl) m.suits.1) (about_tx a vhost m.suits.0)

-- ---- a turn under way has a vhost and a worker

pub rx_at : (vhosts : List (Option Side)) (vhost : ℕ) (v : Side) → at vhosts vhost ≡ Some v
    → rx_turn_in vhosts vhost ≡ option_map (λ w. w.turn) v.rx
rx_at vhosts vhost v e = ap (λ (o : Option Side). o >>= λ (s : Side). option_map (λ w. w.turn) s.rx) e

pub tx_at : (vhosts : List (Option Side)) (vhost : ℕ) (v : Side) → at vhosts vhost ≡ Some v
    → tx_turn_in vhosts vhost ≡ option_map (λ w. w.turn) v.tx
tx_at vhosts vhost v e = ap (λ (o : Option Side). o >>= λ (s : Side). option_map (λ w. w.turn) s.tx) e

pub rx_vhost : (vhosts : List (Option Side)) (vhost : ℕ) → IsSome (rx_turn_in vhosts vhost) → IsSome (at vhosts vhost)
rx_vhost vhosts vhost h = go (at vhosts vhost) h
  where
    go : (o : Option Side) → is_some (o >>= λ (s : Side). option_map (λ w. w.turn) s.rx) ≡ true → is_some o ≡ true
    go None k = k
    go (Some v) k = refl

pub tx_vhost : (vhosts : List (Option Side)) (vhost : ℕ) → IsSome (tx_turn_in vhosts vhost) → IsSome (at vhosts vhost)
tx_vhost vhosts vhost h = go (at vhosts vhost) h
  where
    go : (o : Option Side) → is_some (o >>= λ (s : Side). option_map (λ w. w.turn) s.tx) ≡ true → is_some o ≡ true
    go None k = k
    go (Some v) k = refl

-- a ring whose turn nobody holds has no turn under way
pub free_rx : (v : Side) → IsSide v → turn_of 0 v.vhost ≡ None → v.rx ≡ None
free_rx v s e = go v.rx refl
  where
    go : (o : Option RxWorker) → v.rx ≡ o → v.rx ≡ None
    go None is = is
    go (Some w) is =
        let served = subst (λ (o : Option RxWorker). MatchOption o (RingIsIdle true v) (RxIsServed v)) is s.rx in
        absurd (true≢false (sym (sym (ap (λ (o : Option ℕ). is_some o) e) ∙ served.held)))

pub free_tx : (v : Side) → IsSide v → turn_of 1 v.vhost ≡ None → v.tx ≡ None
free_tx v s e = go v.tx refl
  where
    go : (o : Option TxWorker) → v.tx ≡ o → v.tx ≡ None
    go None is = is
    go (Some w) is =
        let served = subst (λ (o : Option TxWorker). MatchOption o (RingIsIdle false v) (TxIsServed v)) is s.tx in
        absurd (true≢false (sym (sym (ap (λ (o : Option ℕ). is_some o) e) ∙ served.held)))
