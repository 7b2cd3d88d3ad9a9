-- Each event that is allowed is one that is left to its command: the rows by how far the command has come.
use Rattle.std.proofs.Common.{◌≡◌, ℕ, List, [], ◌∷◌, Bool, true, false, inl, inr, refl}
use Rattle.std.specs.Prelude.{if◌then◌else◌, is_some}
use Rattle.std.specs.Option.{option_map_or}
use Rattle.tap_steer.specs.Select.{learns}
use Rattle.vring_turns.specs.RxTurn.{rx_begun}
use Rattle.vhost_dev.specs.Settings.{hdr_of}
use Rattle.vring_turns.specs.TxTurn.{TxTurn, tx_begun}
use Rattle.scen_words.specs.declared.command.Command.{Command}
use Rattle.scen_words.specs.declared.command.Command.TheVariants as command
use Rattle.tap_trace.specs.declared.turn.ChainText.{ChainText}
use Rattle.tap_world.specs.declared.event.EventKind.{EventKind}
use Rattle.tap_world.specs.declared.event.EventKind.TheVariants as event
use Rattle.tap_world.specs.ByNumber.{at}
use Rattle.tap_world.specs.Grammar.{HasForm, Perhaps}
use Rattle.tap_world.specs.Grammar.Grammar.{One, ◌⨾◌}
use Rattle.tap_world.specs.Commands.{form_of}
use Rattle.tap_world.specs.Setup.{Numbered, Setup}
use Rattle.tap_world.specs.World.{Doing, World, name_of, table, HostFrame}
use Rattle.tap_world.specs.World.Doing.{Begun, Given, Teaches, Transmits}
use Rattle.tap_world.specs.Effect.{Effect}
use Rattle.tap_world.specs.Scripts.{is_kind, next_kind, turn_first}
use Rattle.tap_world.specs.Step as rows
use Rattle.tap_world.specs.StepControl as control
use Rattle.tap_world.specs.StepTurns as rx_turns
use Rattle.tap_world.specs.StepTransmits as tx_turns
use Rattle.tap_sound.proofs.Kit.{either, where_if, where_only, where_then}
use Rattle.tap_sound.proofs.Left.{left_of, tx_left}
use Rattle.tap_sound.proofs.Follows.{AllFollow, Follows, as_doing, at_kind, first_look}

-- ---- the first event of a command

calling : (w : World) (actor seen : ℕ) (c : Command) → HasForm (form_of c) (event.Drive ∷ []) → AllFollow Begun c event.Drive (control.calls w actor seen c)
calling w actor seen c h =
    let P : Effect → Type 0 = Follows Begun c event.Drive in
    where_then P (control.driven_vhost c) _ (λ vhost e1. where_then P (at w.vhosts vhost) _ (λ v e2. where_then P (at w.guests v.guest) _
    (λ g e3. where_then P (control.call_of c v g.memory) _ (λ x e4. where_only P _ (control.call_effect w seen vhost v.guest x) (λ b. h)))))

finding_off : (w : World) (seen : ℕ) (c : Command) → HasForm (form_of c) (event.Owner ∷ []) → AllFollow Begun c event.Owner (rx_turns.finds_off w seen Begun c)
finding_off w seen c h =
    let P : Effect → Type 0 = Follows Begun c event.Owner in
    where_then P (rx_turns.turn_on c) _ (λ t e1. where_then P (at w.vhosts t.0) _ (λ v e2. where_then P (at w.guests v.guest) _
    (λ g e3. where_then P (rx_turns.is_off t.0 t.1 v) _ (λ told e4. where_only P _ (rx_turns.off_told w seen v g.memory told) (λ b. h)))))

rx_first : (w : World) (actor n seen vhost : ℕ) → AllFollow Begun (command.RxTurn vhost) event.Notices (tx_turns.turn_begins w actor n seen (command.RxTurn vhost))
rx_first w actor n seen vhost =
    let P : Effect → Type 0 = Follows Begun (command.RxTurn vhost) event.Notices in
    where_then P (at w.vhosts vhost) _ (λ v e2. where_then P (at w.guests v.guest) _
    (λ g e3. where_then P v.settings.rx.file _ (λ file e4. where_if P _ (rx_turns.rx_steps_on w actor seen vhost file (rx_begun v.settings.mrg (hdr_of v.settings)) v g.memory) (λ b es h. inr (refl, h)))))

tx_first : (w : World) (actor n seen vhost : ℕ) → AllFollow Begun (command.TxTurn vhost) event.Notices (tx_turns.turn_begins w actor n seen (command.TxTurn vhost))
tx_first w actor n seen vhost =
    let P : Effect → Type 0 = Follows Begun (command.TxTurn vhost) event.Notices in
    where_then P (at w.vhosts vhost) _ (λ v e2. where_then P (at w.guests v.guest) _
    (λ g e3. where_then P v.settings.tx.file _ (λ file e4. where_if P _ (tx_turns.tx_steps_on w actor seen vhost file (tx_begun (hdr_of v.settings) (name_of actor n)) [] v g.memory) (λ b es h. inr (refl, h)))))

-- ---- all

abbrev pub RowFollows : Setup → World → ℕ → ℕ → List Numbered → ℕ → Doing → Command → EventKind → Type 0
RowFollows s w actor seen script n d c k = AllFollow d c k (rows.row s w k actor (as_doing seen script d) n c)

pub begun_follows : (s : Setup) (w : World) (actor seen : ℕ) (script : List Numbered) (n : ℕ) (c : Command) (k : EventKind)
    → is_kind k (next_kind w Begun c) ≡ true → RowFollows s w actor seen script n Begun c k
begun_follows s w actor seen script n (command.RxTurn vhost) k e =
    let P : EventKind → Type 0 = RowFollows s w actor seen script n Begun (command.RxTurn vhost) in
    at_kind P k (turn_first w vhost 0) e (either P (option_map_or (λ v. is_some (rx_turns.is_off vhost 0 v)) (at w.vhosts vhost) false) event.Owner event.Notices
    (finding_off w seen (command.RxTurn vhost) (inl (refl, refl))) (rx_first w actor n seen vhost))
begun_follows s w actor seen script n (command.TxTurn vhost) k e =
    let P : EventKind → Type 0 = RowFollows s w actor seen script n Begun (command.TxTurn vhost) in
    at_kind P k (turn_first w vhost 1) e (either P (option_map_or (λ v. is_some (rx_turns.is_off vhost 1 v)) (at w.vhosts vhost) false) event.Owner event.Notices
    (finding_off w seen (command.TxTurn vhost) (inl (refl, refl))) (tx_first w actor n seen vhost))
begun_follows s w actor seen script n (command.Poke guest addr bytes) k e =
    at_kind (RowFollows s w actor seen script n Begun (command.Poke guest addr bytes)) k event.Poke e
    (where_then (Follows Begun (command.Poke guest addr bytes) event.Poke) (at w.guests guest) _ (λ g e1. (refl, refl)))
begun_follows s w actor seen script n (command.Peek guest addr len) k e =
    at_kind (RowFollows s w actor seen script n Begun (command.Peek guest addr len)) k event.Peek e
    (where_then (Follows Begun (command.Peek guest addr len) event.Peek) (at w.guests guest) _ (λ g e1. (refl, refl)))
begun_follows s w actor seen script n (command.Features vhost bits) k e =
    at_kind (RowFollows s w actor seen script n Begun (command.Features vhost bits)) k event.Drive e (calling w actor seen (command.Features vhost bits) (refl, refl))
begun_follows s w actor seen script n (command.VNum vhost r n0) k e =
    at_kind (RowFollows s w actor seen script n Begun (command.VNum vhost r n0)) k event.Drive e (calling w actor seen (command.VNum vhost r n0) (refl, refl))
begun_follows s w actor seen script n (command.VBase vhost r n0) k e =
    at_kind (RowFollows s w actor seen script n Begun (command.VBase vhost r n0)) k event.Drive e (calling w actor seen (command.VBase vhost r n0) (refl, refl))
begun_follows s w actor seen script n (command.VAddr vhost r desc avail used) k e =
    at_kind (RowFollows s w actor seen script n Begun (command.VAddr vhost r desc avail used)) k event.Drive e (calling w actor seen (command.VAddr vhost r desc avail used) (refl, refl))
begun_follows s w actor seen script n (command.GetBase vhost r) k e =
    at_kind (RowFollows s w actor seen script n Begun (command.GetBase vhost r)) k event.Drive e (calling w actor seen (command.GetBase vhost r) (refl, refl))
begun_follows s w actor seen script n (command.DriveAt vhost r addr) k e =
    at_kind (RowFollows s w actor seen script n Begun (command.DriveAt vhost r addr)) k event.Drive e (calling w actor seen (command.DriveAt vhost r addr) (refl, refl))
begun_follows s w actor seen script n (command.PostIn vhost r lens) k e =
    at_kind (RowFollows s w actor seen script n Begun (command.PostIn vhost r lens)) k event.Drive e (calling w actor seen (command.PostIn vhost r lens) (refl, refl))
begun_follows s w actor seen script n (command.PostOut vhost r bytes) k e =
    at_kind (RowFollows s w actor seen script n Begun (command.PostOut vhost r bytes)) k event.Drive e (calling w actor seen (command.PostOut vhost r bytes) (refl, refl))
begun_follows s w actor seen script n (command.Harvest vhost r) k e =
    at_kind (RowFollows s w actor seen script n Begun (command.Harvest vhost r)) k event.Drive e (calling w actor seen (command.Harvest vhost r) (refl, refl))
begun_follows s w actor seen script n (command.SetIff file name flags) k e =
    at_kind (RowFollows s w actor seen script n Begun (command.SetIff file name flags)) k event.Look e
    (first_look s w actor seen script n Begun (command.SetIff file name flags) (refl, inl refl) refl)
begun_follows s w actor seen script n (command.SetQueue file flags) k e =
    at_kind (RowFollows s w actor seen script n Begun (command.SetQueue file flags)) k event.Look e
    (first_look s w actor seen script n Begun (command.SetQueue file flags) (refl, inl refl) refl)
begun_follows s w actor seen script n (command.Close file) k e =
    at_kind (RowFollows s w actor seen script n Begun (command.Close file)) k event.Look e
    (first_look s w actor seen script n Begun (command.Close file) (refl, inl refl) refl)
begun_follows s w actor seen script n (command.Resize file capacity) k e =
    at_kind (RowFollows s w actor seen script n Begun (command.Resize file capacity)) k event.Look e
    (first_look s w actor seen script n Begun (command.Resize file capacity) (refl, inl refl) refl)
begun_follows s w actor seen script n (command.Persist file on) k e =
    at_kind (RowFollows s w actor seen script n Begun (command.Persist file on)) k event.Look e
    (first_look s w actor seen script n Begun (command.Persist file on) (refl, inl refl) refl)
begun_follows s w actor seen script n (command.HdrSize file size) k e =
    at_kind (RowFollows s w actor seen script n Begun (command.HdrSize file size)) k event.Look e
    (first_look s w actor seen script n Begun (command.HdrSize file size) (refl, inl refl) refl)
begun_follows s w actor seen script n (command.Steer file program) k e =
    at_kind (RowFollows s w actor seen script n Begun (command.Steer file program)) k event.Look e
    (first_look s w actor seen script n Begun (command.Steer file program) (refl, inl refl) refl)
begun_follows s w actor seen script n (command.Filter file program) k e =
    at_kind (RowFollows s w actor seen script n Begun (command.Filter file program)) k event.Look e
    (first_look s w actor seen script n Begun (command.Filter file program) (refl, inl refl) refl)
begun_follows s w actor seen script n (command.Tick now) k e =
    at_kind (RowFollows s w actor seen script n Begun (command.Tick now)) k event.Look e
    (first_look s w actor seen script n Begun (command.Tick now) (refl, inl refl) refl)
begun_follows s w actor seen script n (command.Send device hdr bytes) k e =
    at_kind (RowFollows s w actor seen script n Begun (command.Send device hdr bytes)) k event.Look e
    (first_look s w actor seen script n Begun (command.Send device hdr bytes) (refl, inl refl) refl)
begun_follows s w actor seen script n (command.Read file room) k e =
    at_kind (RowFollows s w actor seen script n Begun (command.Read file room)) k event.Look e
    (first_look s w actor seen script n Begun (command.Read file room) (refl, inl refl) refl)
begun_follows s w actor seen script n (command.Write file bytes) k e =
    at_kind (RowFollows s w actor seen script n Begun (command.Write file bytes)) k event.Look e
    (first_look s w actor seen script n Begun (command.Write file bytes) (refl, inl refl) refl)
begun_follows s w actor seen script n (command.Backend vhost r file) k e =
    at_kind (RowFollows s w actor seen script n Begun (command.Backend vhost r file)) k event.Look e
    (first_look s w actor seen script n Begun (command.Backend vhost r file) tt refl)

-- Look, of a transmit turn that gave its frame to the host
pub given_follows : (s : Setup) (w : World) (actor seen : ℕ) (script : List Numbered) (n file : ℕ) (t : TxTurn) (told : List ChainText) (f : HostFrame) (c : Command)
    → AllFollow (Given file t told f) c event.Look (rows.look_row s w actor (as_doing seen script (Given file t told f)) n c)
given_follows s w actor seen script n own_file t told f (command.TxTurn vhost) = go (learns (table s w) own_file)
  where
    go : (b : Bool) (es : List EventKind) → HasForm (left_of (if b then Teaches own_file t told f else Transmits own_file t told) (command.TxTurn vhost)) es
        → HasForm (One event.Look ⨾ Perhaps (One event.Publish) ⨾ tx_left t.stage) (event.Look ∷ es)
    go true es h = (refl, inr h)
    go false es h = (refl, inl h)
given_follows s w actor seen script n own_file t told f (command.SetIff file name flags) = first_look s w actor seen script n (Given own_file t told f) (command.SetIff file name flags) (refl, inl refl) refl
given_follows s w actor seen script n own_file t told f (command.SetQueue file flags) = first_look s w actor seen script n (Given own_file t told f) (command.SetQueue file flags) (refl, inl refl) refl
given_follows s w actor seen script n own_file t told f (command.Close file) = first_look s w actor seen script n (Given own_file t told f) (command.Close file) (refl, inl refl) refl
given_follows s w actor seen script n own_file t told f (command.Resize file capacity) = first_look s w actor seen script n (Given own_file t told f) (command.Resize file capacity) (refl, inl refl) refl
given_follows s w actor seen script n own_file t told f (command.Persist file on) = first_look s w actor seen script n (Given own_file t told f) (command.Persist file on) (refl, inl refl) refl
given_follows s w actor seen script n own_file t told f (command.HdrSize file size) = first_look s w actor seen script n (Given own_file t told f) (command.HdrSize file size) (refl, inl refl) refl
given_follows s w actor seen script n own_file t told f (command.Steer file program) = first_look s w actor seen script n (Given own_file t told f) (command.Steer file program) (refl, inl refl) refl
given_follows s w actor seen script n own_file t told f (command.Filter file program) = first_look s w actor seen script n (Given own_file t told f) (command.Filter file program) (refl, inl refl) refl
given_follows s w actor seen script n own_file t told f (command.Tick now) = first_look s w actor seen script n (Given own_file t told f) (command.Tick now) (refl, inl refl) refl
given_follows s w actor seen script n own_file t told f (command.Send device hdr bytes) = first_look s w actor seen script n (Given own_file t told f) (command.Send device hdr bytes) (refl, inl refl) refl
given_follows s w actor seen script n own_file t told f (command.Read file room) = first_look s w actor seen script n (Given own_file t told f) (command.Read file room) (refl, inl refl) refl
given_follows s w actor seen script n own_file t told f (command.Write file bytes) = first_look s w actor seen script n (Given own_file t told f) (command.Write file bytes) (refl, inl refl) refl
given_follows s w actor seen script n own_file t told f (command.Backend vhost r file) = first_look s w actor seen script n (Given own_file t told f) (command.Backend vhost r file) tt refl
given_follows s w actor seen script n own_file t told f c = tt
