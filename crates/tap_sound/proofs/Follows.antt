-- Each event that is allowed is one that is left to its command, and what is left then follows.
use Rattle.std.proofs.Common.{◌≡◌, ℕ, List, [], ◌∷◌, Bool, true, false, Option, Some, None, inl, inr, ⊎_elim, refl, sym, ap, ◌∙◌, subst}
use Rattle.std.proofs.lemmas.Bool.Decides.{eqb_tells}
use Rattle.std.proofs.Common.{true≢false}
use Rattle.std.specs.Prelude.{if◌then◌else◌, is_none, nat_lt, slice_index_or}
use Rattle.std.specs.Option.{option_map_or}
use Rattle.tap_frame.specs.declared.name.Name.{Name}
use Rattle.tap_frame.specs.declared.reading.BadFrame.{BadFrame}
use Rattle.tap_ledger.specs.declared.error.TapErr.{TapErr}
use Rattle.tap_steer.specs.declared.operation.Op.{Op}
use Rattle.tap_steer.specs.declared.operation.Op.TheVariants as op
use Rattle.tap_steer.specs.declared.operation.TheConstants.{IFF_ATTACH_QUEUE}
use Rattle.tap_steer.specs.declared.selection.Select.{Select}
use Rattle.tap_steer.specs.declared.selection.Select.TheVariants as select
use Rattle.tap_steer.specs.Rules.{refuse}
use Rattle.tap_steer.specs.Select as steer
use Rattle.tap_steer.specs.Table.{Table, file_at, is_set}
use Rattle.scen_words.specs.declared.command.Command.{Command}
use Rattle.scen_words.specs.declared.command.Command.TheVariants as command
use Rattle.tap_ledger.specs.declared.error.TapErr.{TapErr as TapText}
use Rattle.tap_world.specs.declared.event.EventKind.{EventKind}
use Rattle.tap_world.specs.declared.event.EventKind.TheVariants as event
use Rattle.tap_world.specs.ByNumber.{at}
use Rattle.tap_world.specs.Grammar.{Grammar, HasForm, Perhaps}
use Rattle.tap_world.specs.Grammar.Grammar.{One, ◌⨾◌}
use Rattle.tap_world.specs.Commands.{attach, detach, form_of}
use Rattle.tap_world.specs.Frames.{Front, bad_in, ether_in, least_in, sent_bytes, sent_front}
use Rattle.tap_trace.specs.declared.answer.Answer.TheVariants as answer
use Rattle.tap_world.specs.declared.event.Found.TheVariants as found
use Rattle.tap_world.specs.Setup.{Numbered, Setup}
use Rattle.tap_world.specs.Line.{File}
use Rattle.tap_world.specs.Guests.{Vhost}
use Rattle.tap_world.specs.World.{Actor, Doing, World, name_of, newest, table}
use Rattle.tap_world.specs.World.Doing.{Begun, Changes, Hosts, Opens, Reads, Routed, Withdraws}
use Rattle.tap_world.specs.Effect.{Effect, Onward, only}
use Rattle.tap_world.specs.Effect.Onward.{Ends, Goes, Stays}
use Rattle.tap_world.specs.Scripts.{is_kind, kind_number}
use Rattle.tap_world.specs.Step as rows
use Rattle.tap_world.specs.StepBackend as back
use Rattle.tap_world.specs.StepTable as tables
use Rattle.tap_sound.proofs.Kit.{WhereSome, where_only, where_then}
use Rattle.tap_sound.proofs.Left.{left_of}

-- ---- what a row has to show

-- the event is left, and what is left behind it follows
abbrev pub Onto : Grammar → Command → EventKind → Onward → Type 0
Onto g c k (Goes seen e f) = (es : List EventKind) → HasForm (left_of e c) es → HasForm g (k ∷ es)
Onto g c k (Ends seen x) = HasForm g (k ∷ [])
Onto g c k (Stays f) = (es : List EventKind) → HasForm g es → HasForm g (k ∷ es)

abbrev pub Follows : Doing → Command → EventKind → Effect → Type 0
Follows d c k r = Onto (left_of d c) c k r.onward

abbrev pub AllFollow : Doing → Command → EventKind → Option Effect → Type 0
AllFollow d c k o = WhereSome (Follows d c k) o

-- ---- kinds

abbrev all_kinds : List EventKind
all_kinds = event.Look ∷ event.Publish ∷ event.Claim ∷ event.Ready ∷ event.Full ∷ event.Gone ∷ event.Spent ∷ event.Shut ∷ event.Reopen ∷ event.Resize ∷ event.Cut ∷ event.Move ∷ event.Hand ∷ event.PutBack ∷ event.Out ∷ event.NotReady ∷ event.Owner ∷ event.Fetch ∷ event.Copy ∷ event.PublishUsed ∷ event.Notices ∷ event.Poke ∷ event.Peek ∷ event.Drive ∷ event.HostIn ∷ []

of_number : (k : EventKind) → slice_index_or all_kinds (kind_number k) event.Look ≡ k
of_number event.Look = refl
of_number event.Publish = refl
of_number event.Claim = refl
of_number event.Ready = refl
of_number event.Full = refl
of_number event.Gone = refl
of_number event.Spent = refl
of_number event.Shut = refl
of_number event.Reopen = refl
of_number event.Resize = refl
of_number event.Cut = refl
of_number event.Move = refl
of_number event.Hand = refl
of_number event.PutBack = refl
of_number event.Out = refl
of_number event.NotReady = refl
of_number event.Owner = refl
of_number event.Fetch = refl
of_number event.Copy = refl
of_number event.PublishUsed = refl
of_number event.Notices = refl
of_number event.Poke = refl
of_number event.Peek = refl
of_number event.Drive = refl
of_number event.HostIn = refl

pub same_kind : (k j : EventKind) → is_kind k (Some j) ≡ true → k ≡ j
same_kind k j e = ⊎_elim
    (λ t. sym (of_number k) ∙ ap (λ n. slice_index_or all_kinds n event.Look) (sym t.1) ∙ of_number j)
    (λ t. absurd (true≢false (sym e ∙ t.0)))
    (eqb_tells (kind_number j) (kind_number k))

-- what holds of the next kind, holds of the event's
pub at_kind : (P : EventKind → Type 0) (k j : EventKind) → is_kind k (Some j) ≡ true → P j → P k
at_kind P k j e h = subst P (sym (same_kind k j e)) h

pub at_file_kind : (P : EventKind → Type 0) (o : Option File) (kind : File → EventKind) (k : EventKind)
    → is_kind k (option_map_or (λ f. Some (kind f)) o None) ≡ true → ((f : File) → P (kind f)) → P k
at_file_kind P None kind k e h = absurd (true≢false (sym e))
at_file_kind P (Some f) kind k e h = at_kind P k (kind f) e (h f)

-- ---- looks of control commands

refuses : (w : World) (actor : ℕ) (d e : Doing) (c : Command) (x : Option TapErr) → HasForm (left_of d c) (event.Look ∷ [])
    → ((es : List EventKind) → HasForm (left_of e c) es → HasForm (left_of d c) (event.Look ∷ es))
    → Follows d c event.Look (tables.decided w actor e x)
refuses w actor d e c (Some r) stop on = stop
refuses w actor d e c None stop on = on

changes : (t : Table) (w : World) (actor : ℕ) (x : Op) (c : Command) → HasForm (form_of c) (event.Look ∷ [])
    → ((es : List EventKind) → HasForm (left_of (tables.course t x) c) es → HasForm (form_of c) (event.Look ∷ es))
    → AllFollow Begun c event.Look (tables.looks_to_change t w actor x)
changes t w actor x c stop on = where_only (Follows Begun c event.Look) (is_none w.writer) _
    (λ b. refuses w actor Begun (tables.course t x) c (refuse t x) stop on)

-- ---- looks of frames

routes : (w : World) (name : Name) (c : Command) (x : Select) → HasForm (form_of c) (event.Look ∷ [])
    → ((file epoch len : ℕ) (es : List EventKind) → HasForm (left_of (Routed file epoch len) c) es → HasForm (form_of c) (event.Look ∷ es))
    → Follows Begun c event.Look (tables.routed w name x)
routes w name c select.NoQueue stop on = stop
routes w name c select.Filtered stop on = stop
routes w name c (select.Row r keep resizes capacity) stop on = on r.file r.epoch keep

bad_or : (w : World) (c : Command) (x : Option BadFrame) (e : Effect) → HasForm (form_of c) (event.Look ∷ []) → Follows Begun c event.Look e
    → Follows Begun c event.Look (tables.unless_bad x w e)
bad_or w c (Some bad) e stop h = stop
bad_or w c None e stop h = h

fronts : (w : World) (c : Command) (x : Option Front) (e : Front → Effect) → HasForm (form_of c) (event.Look ∷ []) → ((f : Front) → Follows Begun c event.Look (e f))
    → Follows Begun c event.Look (tables.with_front x w e)
fronts w c None e stop h = stop
fronts w c (Some f) e stop h = h f

sending : (t : Table) (w : World) (name : Name) (device : ℕ) (front : Front) (bytes : List ℕ) (c : Command) → HasForm (form_of c) (event.Look ∷ [])
    → ((file epoch len : ℕ) (es : List EventKind) → HasForm (left_of (Routed file epoch len) c) es → HasForm (form_of c) (event.Look ∷ es))
    → Follows Begun c event.Look (tables.sends t w name device front bytes)
sending t w name device front bytes c stop on =
    bad_or w c (bad_in front bytes) (tables.routed w name (steer.select t device (ether_in front bytes))) stop
    (routes w name c (steer.select t device (ether_in front bytes)) stop on)

reading : (w : World) (file room : ℕ) → HasForm (form_of (command.Read file room)) (event.Look ∷ []) → (front : Front)
    → Follows Begun (command.Read file room) event.Look (tables.reads w file room front)
reading w file room stop front = go (nat_lt room (least_in front))
  where
    go : (b : Bool) → Follows Begun (command.Read file room) event.Look
        (if b then only (Ends (newest w) (answer.Room (least_in front))) w else only (Goes (newest w) (Reads file room front) (found.Version (newest w))) w)
    go true = stop
    go false = λ es h. (refl, inr h)

-- ---- looks of backends

looks_back : (w : World) (actor vhost r : ℕ) (file : Option ℕ) (v : Vhost) (x : Option TapText)
    → Follows Begun (command.Backend vhost r file) event.Look (back.back_seen w actor vhost r v x)
looks_back w actor vhost r file v None = λ es h. (refl, h)
looks_back w actor vhost r file v (Some e) = λ es h. (refl, h)

-- ---- the first event of a command

abbrev pub IsTurn : Command → Bool
IsTurn (command.TxTurn vhost) = true
IsTurn c = false

-- a command may end at its look
abbrev pub Stops : Command → Type 0
Stops (command.Backend vhost r file) = Unit {0}
Stops c = HasForm (form_of c) (event.Look ∷ [])

abbrev pub as_doing : ℕ → List Numbered → Doing → Actor
as_doing seen script d = record { seen = seen; script = script; doing = d }

pub first_look : (s : Setup) (w : World) (actor seen : ℕ) (script : List Numbered) (n : ℕ) (d : Doing) (c : Command) → Stops c → IsTurn c ≡ false
    → AllFollow Begun c event.Look (rows.look_row s w actor (as_doing seen script d) n c)
first_look s w actor seen script n d (command.SetIff file name flags) stop turn = changes (table s w) w actor (op.SetIff file name flags) (command.SetIff file name flags) stop (λ es h. (refl, inr h))
first_look s w actor seen script n d (command.SetQueue file flags) stop turn = changes (table s w) w actor (op.SetQueue file flags) (command.SetQueue file flags) stop (go (is_set flags IFF_ATTACH_QUEUE))
  where
    go : (b : Bool) (es : List EventKind) → HasForm (left_of (if b then Opens file else Withdraws file) (command.SetQueue file flags)) es → HasForm (One event.Look ⨾ Perhaps (if b then attach else detach)) (event.Look ∷ es)
    go true es h = (refl, inr h)
    go false es h = (refl, inr h)
first_look s w actor seen script n d (command.Close file) stop turn =
    changes (table s w) w actor (op.Shut file) (command.Close file) stop (go (tables.is_enabled (file_at (table s w) file).attachment))
  where
    go : (b : Bool) (es : List EventKind) → HasForm (left_of (if b then Withdraws file else Changes) (command.Close file)) es → HasForm (form_of (command.Close file)) (event.Look ∷ es)
    go true es h = (refl, inr (inr h))
    go false es h = (refl, inr (inl h))
first_look s w actor seen script n d (command.Resize file capacity) stop turn = changes (table s w) w actor (op.Resize file capacity) (command.Resize file capacity) stop (λ es h. (refl, inr h))
first_look s w actor seen script n d (command.Persist file on) stop turn = changes (table s w) w actor (op.Persist file on) (command.Persist file on) stop (λ es h. (refl, inr h))
first_look s w actor seen script n d (command.HdrSize file size) stop turn = changes (table s w) w actor (op.HdrSize file size) (command.HdrSize file size) stop (λ es h. (refl, inr h))
first_look s w actor seen script n d (command.Steer file program) stop turn = changes (table s w) w actor (op.Steering file _) (command.Steer file program) stop (λ es h. (refl, inr h))
first_look s w actor seen script n d (command.Filter file program) stop turn = changes (table s w) w actor (op.Filter file _) (command.Filter file program) stop (λ es h. (refl, inr h))
first_look s w actor seen script n d (command.Tick now) stop turn = changes (table s w) w actor (op.Tick now) (command.Tick now) stop (λ es h. (refl, inr h))
first_look s w actor seen script n d (command.Send device hdr bytes) stop turn =
    sending (table s w) w (name_of actor n) device (sent_front hdr) (sent_bytes hdr bytes) (command.Send device hdr bytes) stop (λ file epoch len es h. (refl, inr h))
first_look s w actor seen script n d (command.Read file room) stop turn =
    fronts w (command.Read file room) (steer.shape_of (table s w) file) (tables.reads w file room) stop (reading w file room stop)
first_look s w actor seen script n d (command.Write file bytes) stop turn =
    fronts w (command.Write file bytes) (steer.shape_of (table s w) file) (tables.writes (table s w) w file bytes) stop
    (λ front. bad_or w (command.Write file bytes) (bad_in front bytes)
    (only (Goes (newest w) (Hosts file (ether_in front bytes) (steer.learns (table s w) file)) (found.Version (newest w))) w) stop (λ es h. (refl, inr h)))
first_look s w actor seen script n d (command.Backend vhost r file) stop turn =
    where_then (Follows Begun (command.Backend vhost r file) event.Look) (at w.vhosts vhost) _
    (λ v e. where_only (Follows Begun (command.Backend vhost r file) event.Look) _ _ (λ b. looks_back w actor vhost r file v _))
first_look s w actor seen script n d (command.TxTurn vhost) stop turn = absurd (true≢false turn)
first_look s w actor seen script n d c stop turn = tt
