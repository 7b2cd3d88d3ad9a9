-- Each event that is allowed is one that is left to its command.
use Rattle.std.proofs.Common.{◌≡◌, ℕ, suc, ◌+◌, List, [], ◌∷◌, Bool, true, false, Option, Some, None, inl, inr, refl, sym, ap, subst}
use Rattle.std.specs.Prelude.{if◌then◌else◌, ◌==◌, ◌||◌, is_none, is_some, slice_get}
use Rattle.guest_mem.specs.Memory.{Contents}
use Rattle.tap_ledger.specs.declared.fate.Cause.{Cause}
use Rattle.vring_turns.specs.declared.stage.RxStage.{RxStage}
use Rattle.vring_turns.specs.declared.stage.RxStage.TheVariants as rx
use Rattle.vring_turns.specs.declared.stage.TxStage.{TxStage}
use Rattle.vring_turns.specs.declared.stage.TxStage.TheVariants as tx
use Rattle.vring_turns.specs.RxTurn.{RxTurn}
use Rattle.vring_turns.specs.TxTurn.{TxTurn}
use Rattle.scen_words.specs.declared.command.Command.{Command}
use Rattle.scen_words.specs.declared.command.Command.TheVariants as command
use Rattle.tap_ledger.specs.declared.error.TapErr.{TapErr as TapText}
use Rattle.tap_trace.specs.declared.answer.Answer.{Answer}
use Rattle.tap_trace.specs.declared.turn.ChainText.{ChainText}
use Rattle.tap_world.specs.declared.event.EventKind.{EventKind}
use Rattle.tap_world.specs.declared.event.EventKind.TheVariants as event
use Rattle.tap_world.specs.ByNumber.{at}
use Rattle.tap_world.specs.Grammar.{HasForm, Perhaps}
use Rattle.tap_world.specs.Grammar.Grammar.{Nothing, One, ◌⨾◌}
use Rattle.tap_world.specs.Frames.{Front}
use Rattle.vhost_dev.specs.Settings.{ring_at}
use Rattle.std.proofs.Common.{true≢false}
use Rattle.tap_world.specs.Setup.{Numbered, Setup, frame_of}
use Rattle.tap_world.specs.Line.{File, first_that, front_place, has_batch, in_batch, in_ring, is_full, is_gone, is_over, is_spent, last_that}
use Rattle.tap_world.specs.LineSteps.{ready_front}
use Rattle.tap_world.specs.Guests.{Vhost}
use Rattle.tap_world.specs.World.{Doing, World, newest}
use Rattle.tap_world.specs.World.Doing.{Backed, Backs, Begun, Changes, Disowned, Given, Hosts, Learns, Opened, Opens, Owns, Placed, Purges, Reads, Receives, Released, Resizes, Routed, Shrinks, Teaches, Transmits, Unbacked, Withdrawn, Withdraws}
use Rattle.tap_world.specs.Effect.{Effect, only}
use Rattle.tap_steer.specs.declared.operation.Op.TheVariants as op
use Rattle.tap_trace.specs.declared.answer.Answer.TheVariants as answer
use Rattle.tap_world.specs.declared.event.Found.TheVariants as found
use Rattle.tap_world.specs.Effect.Onward.{Ends, Goes}
use Rattle.tap_world.specs.Scripts.{hand_next, is_kind, next_kind, purge_next, read_next, rx_next_kind, send_next, shrink_next, tx_next_kind}
use Rattle.tap_world.specs.Step as rows
use Rattle.tap_world.specs.StepBackend as back
use Rattle.tap_world.specs.StepRing as ring
use Rattle.tap_world.specs.StepTable as tables
use Rattle.tap_world.specs.StepTransmits as tx_turns
use Rattle.tap_sound.proofs.Kit.{either, where_only, where_then}
use Rattle.tap_sound.proofs.Left.{left_of}
use Rattle.tap_sound.proofs.Rows.{rx_kind, tx_kind}
use Rattle.tap_sound.proofs.Steps.{Gives, give_follows, hand_follows, held, none_follows, or_else, own, owning, publication, rx_follows, turning, tx_follows, setting, unsetting}
use Rattle.tap_sound.proofs.Firsts.{RowFollows, begun_follows, given_follows}
use Rattle.tap_sound.proofs.Follows.{AllFollow, Follows, Onto, at_file_kind, at_kind}

-- ---- a backend

sets : (w : World) (actor seen vhost r file : ℕ) (x : Option TapText) (v : Vhost) (m : Contents) (a : Option Answer)
    → Follows (Backs x) (command.Backend vhost r (Some file)) event.Drive (back.sets_back w actor seen vhost r file x v m a)
sets w actor seen vhost r file x v m (Some a) = (refl, inl refl)
sets w actor seen vhost r file x v m None = λ es h. (refl, inr h)

unsets : (w : World) (actor seen vhost r : ℕ) (x : Option TapText) (v : Vhost) (m : Contents) (a : Option Answer) (file : Option ℕ)
    → Follows (Backs x) (command.Backend vhost r None) event.Drive (back.unsets_back w actor seen vhost r v m a file)
unsets w actor seen vhost r x v m (Some a) file = (refl, inl refl)
unsets w actor seen vhost r x v m None None = (refl, inl refl)
unsets w actor seen vhost r x v m None (Some file) = go (r == 0)
  where
    go : (b : Bool) (es : List EventKind) → HasForm (left_of (if b then Unbacked file else Released file) (command.Backend vhost r None)) es
        → HasForm (One event.Drive ⨾ Perhaps (if b then One event.Owner ⨾ One event.Publish else One event.Publish)) (event.Drive ∷ es)
    go true es h = (refl, inr h)
    go false es h = (refl, inr h)

backs_follow : (s : Setup) (w : World) (actor seen : ℕ) (x : Option TapText) (c : Command)
    → AllFollow (Backs x) c event.Drive (back.backs s w actor seen (Backs x) c)
backs_follow s w actor seen x (command.Backend vhost r None) =
    let P : Effect → Type 0 = Follows (Backs x) (command.Backend vhost r None) event.Drive in
    where_then P (at w.vhosts vhost) _ (λ v e1. where_then P (at w.guests v.guest) _ (λ g e2. unsetting P s w actor seen x vhost r v g.memory
    (λ told e3. unsets w actor seen vhost r x v g.memory told (ring_at r v.settings).file)))
backs_follow s w actor seen x (command.Backend vhost r (Some file)) =
    let P : Effect → Type 0 = Follows (Backs x) (command.Backend vhost r (Some file)) event.Drive in
    where_then P (at w.vhosts vhost) _ (λ v e1. where_then P (at w.guests v.guest) _ (λ g e2. setting P s w actor seen x vhost r file v g.memory
    (λ told e3. sets w actor seen vhost r file x v g.memory told)))
backs_follow s w actor seen x c = tt

backed_follows : (w : World) (file : ℕ) (c : Command) → AllFollow (Backed file) c event.Publish (back.publishes_back w (Backed file) c)
backed_follows w file (command.Backend vhost r asked) = go (r == 0) _ _
    (λ es h. (refl, h)) (refl, refl)
  where
    go : (b : Bool) (x y : Effect) → Onto (One event.Publish ⨾ One event.Owner) (command.Backend vhost r asked) event.Publish x.onward
        → Onto (One event.Publish ⨾ Nothing) (command.Backend vhost r asked) event.Publish y.onward
        → Onto (One event.Publish ⨾ (if b then One event.Owner else Nothing)) (command.Backend vhost r asked) event.Publish (if b then x else y).onward
    go true x y h k = h
    go false x y h k = k
backed_follows w file c = tt

disowned_follows : (w : World) (file : ℕ) (c : Command) → AllFollow (Disowned file) c event.Publish (back.publishes_back w (Disowned file) c)
disowned_follows w file (command.Backend vhost r asked) = (refl, refl)
disowned_follows w file c = tt

released_follows : (w : World) (file : ℕ) (c : Command) → AllFollow (Released file) c event.Publish (back.publishes_back w (Released file) c)
released_follows w file (command.Backend vhost r asked) = (refl, refl)
released_follows w file c = tt

owns_follows : (w : World) (seen file version : ℕ) (c : Command) → AllFollow (Owns file version) c event.Owner (back.owns w seen (Owns file version) c)
owns_follows w seen file version (command.Backend vhost r asked) = (refl, refl)
owns_follows w seen file version c = tt

unbacked_follows : (w : World) (seen file : ℕ) (c : Command) → AllFollow (Unbacked file) c event.Owner (back.owns w seen (Unbacked file) c)
unbacked_follows w seen file (command.Backend vhost r asked) = λ es h. (refl, h)
unbacked_follows w seen file c = tt

-- ---- frames

drops_follow : (why : ℕ → File → Option Cause) (w : World) (actor n seen file epoch len : ℕ) (c : Command) (k : EventKind)
    → HasForm (left_of (Routed file epoch len) c) (k ∷ []) → AllFollow (Routed file epoch len) c k (ring.drops_for why w actor n seen (Routed file epoch len))
drops_follow why w actor n seen file epoch len c k h =
    let P : Effect → Type 0 = Follows (Routed file epoch len) c k in
    where_then P (at w.files file) _ (λ f e1. where_then P (why epoch f) _ (λ x e2. h))

moves_follow : (w : World) (file : ℕ) (d : Doing) (c : Command) → ((es : List EventKind) → HasForm (left_of d c) es → HasForm (left_of d c) (event.Move ∷ es))
    → AllFollow d c event.Move (ring.moves_in w file)
moves_follow w file d c h =
    let P : Effect → Type 0 = Follows d c event.Move in
    where_then P (at w.files file) _ (λ f e1. where_then P (ring.name_at f.line (ready_front f.line)) _ (λ x e2. h))

purges_out : (s : Setup) (w : World) (actor n seen file version : ℕ) (c : Command)
    → AllFollow (Purges file version) c event.Out (rows.out_row s w actor n seen (Purges file version) c)
purges_out s w actor n seen file version c =
    let P : Effect → Type 0 = Follows (Purges file version) c event.Out in
    or_else P (ring.leaves s w seen (Purges file version)) (tx_turns.turns w actor n seen (Purges file version) c)
    (where_then P (at w.files file) _ (λ f e1. where_then P (ring.name_at f.line (first_that in_batch f.line)) _ (λ x e2. λ es h. (suc h.0, (inr (refl, h.1))))))
    (turning P w c (tx_turns.goes_on w actor seen (Purges file version)) (λ vhost v m. tt))

reads_out : (s : Setup) (w : World) (actor n seen file room : ℕ) (front : Front) (c : Command)
    → AllFollow (Reads file room front) c event.Out (rows.out_row s w actor n seen (Reads file room front) c)
reads_out s w actor n seen file room front c =
    let P : Effect → Type 0 = Follows (Reads file room front) c event.Out in
    or_else P (ring.leaves s w seen (Reads file room front)) (tx_turns.turns w actor n seen (Reads file room front) c)
    (where_then P (at w.files file) _ (λ f e1. where_then P (first_that in_batch f.line) _ (λ i e2. where_then P (slice_get f.line i) _ (λ x e3. where_then P (frame_of s x.name x.len) _ (λ q e4. (0, inr (inl (refl, refl))))))))
    (turning P w c (tx_turns.goes_on w actor seen (Reads file room front)) (λ vhost v m. tt))

reads_none : (w : World) (actor seen file room : ℕ) (front : Front) (c : Command)
    → AllFollow (Reads file room front) c event.NotReady (rows.not_ready_row w actor seen (Reads file room front) c)
reads_none w actor seen file room front c =
    let P : Effect → Type 0 = Follows (Reads file room front) c event.NotReady in
    or_else P (ring.finds_none w seen (Reads file room front)) None
    (where_then P (at w.files file) _ (λ f e1. where_only P _ (only (Ends seen (answer.Again (front_place f))) w) (λ b. (0, inr (inr (refl, refl)))))) tt

reads_owner : (w : World) (actor seen file room : ℕ) (front : Front) (c : Command)
    → AllFollow (Reads file room front) c event.Owner (rows.owner_row w actor seen (Reads file room front) c)
reads_owner w actor seen file room front c =
    let P : Effect → Type 0 = Follows (Reads file room front) c event.Owner in
    owning P w actor seen (Reads file room front) c tt
    (where_then P (at w.files file) _ (λ f e1. where_only P _ (only (Ends seen answer.Busy) w) (λ b. (0, inl (refl, refl))))) tt

hosts_follow : (w : World) (actor n seen file : ℕ) (ether : List ℕ) (b : Bool) (c : Command)
    → AllFollow (Hosts file ether b) c event.HostIn (rows.host_row w actor n seen (Hosts file ether b) c)
hosts_follow w actor n seen file ether true c = λ es h. (refl, inr h)
hosts_follow w actor n seen file ether false c = (refl, inl refl)

-- ---- turns, by their stage

receives : (s : Setup) (w : World) (actor seen : ℕ) (script : List Numbered) (n file : ℕ) (t : RxTurn) (c : Command) (k : EventKind) (st : RxStage)
    → t.stage ≡ st → is_kind k (rx_next_kind w file st) ≡ true → RowFollows s w actor seen script n (Receives file t) c k
receives s w actor seen script n file t c k rx.Hand is e =
    let P : EventKind → Type 0 = RowFollows s w actor seen script n (Receives file t) c in
    at_file_kind P (at w.files file) hand_next k e
    (λ f. either P (has_batch f || is_some (ready_front f.line)) event.Hand event.NotReady (hand_follows s w actor seen file t c is) (none_follows w actor seen file t c is))
receives s w actor seen script n file t c k rx.Out is e =
    at_kind (RowFollows s w actor seen script n (Receives file t) c) k event.Out e
    (subst (λ (x : RxStage). AllFollow (Receives file t) c (rx_kind x) (tx_turns.turns w actor n seen (Receives file t) c)) is (rx_follows w actor n seen file t c))
receives s w actor seen script n file t c k (rx.Discard had) is e =
    at_kind (RowFollows s w actor seen script n (Receives file t) c) k event.Out e
    (subst (λ (x : RxStage). AllFollow (Receives file t) c (rx_kind x) (tx_turns.turns w actor n seen (Receives file t) c)) is (rx_follows w actor n seen file t c))
receives s w actor seen script n file t c k (rx.Ended end) is e = absurd (true≢false (sym e))
receives s w actor seen script n file t c k st is e =
    at_kind (RowFollows s w actor seen script n (Receives file t) c) k (rx_kind st) e
    (subst (λ (x : RxStage). AllFollow (Receives file t) c (rx_kind x) (tx_turns.turns w actor n seen (Receives file t) c)) is (rx_follows w actor n seen file t c))

transmits : (s : Setup) (w : World) (actor seen : ℕ) (script : List Numbered) (n file : ℕ) (t : TxTurn) (told : List ChainText) (c : Command) (k : EventKind) (st : TxStage)
    → t.stage ≡ st → is_kind k (tx_next_kind st) ≡ true → RowFollows s w actor seen script n (Transmits file t told) c k
transmits s w actor seen script n file t told c k tx.Give is e =
    at_kind (RowFollows s w actor seen script n (Transmits file t told) c) k event.HostIn e (give_follows w seen file t told c is)
transmits s w actor seen script n file t told c k (tx.Ended end) is e = absurd (true≢false (sym e))
transmits s w actor seen script n file t told c k st is e =
    at_kind (RowFollows s w actor seen script n (Transmits file t told) c) k (tx_kind st) e
    (subst (λ (x : TxStage). AllFollow (Transmits file t told) c (tx_kind x) (tx_turns.turns w actor n seen (Transmits file t told) c)) is
    (tx_follows w actor n seen file t told c (ap Gives is)))

-- ---- all

pub row_follows : (s : Setup) (w : World) (actor seen : ℕ) (script : List Numbered) (n : ℕ) (d : Doing) (c : Command) (k : EventKind)
    → is_kind k (next_kind w d c) ≡ true → RowFollows s w actor seen script n d c k
row_follows s w actor seen script n Begun c k e = begun_follows s w actor seen script n c k e
row_follows s w actor seen script n Changes c k e =
    at_kind (RowFollows s w actor seen script n Changes c) k event.Publish e
    (publication (Follows Changes c event.Publish) s w actor Changes c tt tt (own (Follows Changes c event.Publish) s w actor Changes c (λ x. (refl, refl))))
row_follows s w actor seen script n (Opens file) c k e =
    at_kind (RowFollows s w actor seen script n (Opens file) c) k event.Reopen e
    (held (Follows (Opens file) c event.Reopen) w actor (ring.reopens w seen (Opens file)) (where_then (Follows (Opens file) c event.Reopen) (at w.files file) _ (λ f e1. λ es h. (refl, h))))
row_follows s w actor seen script n (Opened file) c k e =
    at_kind (RowFollows s w actor seen script n (Opened file) c) k event.Publish e
    (publication (Follows (Opened file) c event.Publish) s w actor (Opened file) c tt tt (own (Follows (Opened file) c event.Publish) s w actor (Opened file) c (λ x. (refl, refl))))
row_follows s w actor seen script n (Withdraws file) c k e =
    at_kind (RowFollows s w actor seen script n (Withdraws file) c) k event.Publish e
    (publication (Follows (Withdraws file) c event.Publish) s w actor (Withdraws file) c tt tt (own (Follows (Withdraws file) c event.Publish) s w actor (Withdraws file) c (λ x es h. (refl, h))))
row_follows s w actor seen script n (Withdrawn file version) c k e =
    at_kind (RowFollows s w actor seen script n (Withdrawn file version) c) k event.Shut e
    (held (Follows (Withdrawn file version) c event.Shut) w actor (ring.shuts w seen (Withdrawn file version)) (where_then (Follows (Withdrawn file version) c event.Shut) (at w.files file) _ (λ f e1. λ es h. (refl, h))))
row_follows s w actor seen script n (Purges file version) c k e =
    let P : EventKind → Type 0 = RowFollows s w actor seen script n (Purges file version) c in
    at_file_kind P (at w.files file) purge_next k e (λ f. either P (has_batch f) event.Out event.Move (purges_out s w actor n seen file version c)
    (moves_follow w file (Purges file version) c (λ es h. (suc h.0, inl (refl, h.1)))))
row_follows s w actor seen script n (Resizes file capacity) c k e =
    at_kind (RowFollows s w actor seen script n (Resizes file capacity) c) k event.Resize e
    (held (Follows (Resizes file capacity) c event.Resize) w actor (ring.resizes w seen (Resizes file capacity)) (where_then (Follows (Resizes file capacity) c event.Resize) (at w.files file) _ (λ f e1. λ es h. (refl, h))))
row_follows s w actor seen script n (Shrinks file places cuts) c k e =
    let P : EventKind → Type 0 = RowFollows s w actor seen script n (Shrinks file places cuts) c in
    at_file_kind P (at w.files file) shrink_next k e (λ f. either P (is_over f) event.Cut event.Publish
    (held (Follows (Shrinks file places cuts) c event.Cut) w actor (ring.cuts w seen (Shrinks file places cuts)) (where_then (Follows (Shrinks file places cuts) c event.Cut) (at w.files file) _ (λ g e1.
    where_then (Follows (Shrinks file places cuts) c event.Cut) (ring.name_at g.line (last_that in_ring g.line)) _ (λ x e2. λ es h. (suc h.0, (refl, h.1))))))
    (publication (Follows (Shrinks file places cuts) c event.Publish) s w actor (Shrinks file places cuts) c tt tt (own (Follows (Shrinks file places cuts) c event.Publish) s w actor (Shrinks file places cuts) c
    (λ x. where_then (Follows (Shrinks file places cuts) c event.Publish) (at w.files file) _ (λ g e1. (0, (refl, refl)))))))
row_follows s w actor seen script n (Routed file epoch len) c k e =
    let P : EventKind → Type 0 = RowFollows s w actor seen script n (Routed file epoch len) c in
    at_file_kind P (at w.files file) (send_next epoch) k e (λ f. either P (is_gone epoch f) event.Gone (if is_spent f then event.Spent else if is_full f then event.Full else event.Claim) (drops_follow ring.gone_now w actor n seen file epoch len c event.Gone (inl (refl, refl)))
    (either P (is_spent f) event.Spent (if is_full f then event.Full else event.Claim) (drops_follow ring.spent_now w actor n seen file epoch len c event.Spent (inr (inl (refl, refl))))
    (either P (is_full f) event.Full event.Claim (drops_follow ring.full_now w actor n seen file epoch len c event.Full (inr (inr (inl (refl, refl)))))
    (where_then (Follows (Routed file epoch len) c event.Claim) (at w.files file) _ (λ g e1. λ es h. inr (inr (inr (refl, h))))))))
row_follows s w actor seen script n (Placed file place epoch len) c k e =
    at_kind (RowFollows s w actor seen script n (Placed file place epoch len) c) k event.Ready e (refl, refl)
row_follows s w actor seen script n (Reads file room front) c k e =
    let P : EventKind → Type 0 = RowFollows s w actor seen script n (Reads file room front) c in
    at_file_kind P (at w.files file) read_next k e (λ f. either P (is_some f.owner) event.Owner (if has_batch f then event.Out else if is_some (ready_front f.line) then event.Move else event.NotReady) (reads_owner w actor seen file room front c)
    (either P (has_batch f) event.Out (if is_some (ready_front f.line) then event.Move else event.NotReady) (reads_out s w actor n seen file room front c)
    (either P (is_some (ready_front f.line)) event.Move event.NotReady (moves_follow w file (Reads file room front) c (λ es h. (suc h.0, (refl, h.1))))
    (reads_none w actor seen file room front c))))
row_follows s w actor seen script n (Hosts file ether b) c k e =
    at_kind (RowFollows s w actor seen script n (Hosts file ether b) c) k event.HostIn e (hosts_follow w actor n seen file ether b c)
row_follows s w actor seen script n (Learns file ether) c k e =
    at_kind (RowFollows s w actor seen script n (Learns file ether) c) k event.Publish e
    (publication (Follows (Learns file ether) c event.Publish) s w actor (Learns file ether) c tt tt (where_only (Follows (Learns file ether) c event.Publish) (is_none w.writer) (tables.learns_flow w file ether) (λ b. (refl, refl))))
row_follows s w actor seen script n (Backs x) c k e =
    at_kind (RowFollows s w actor seen script n (Backs x) c) k event.Drive e (backs_follow s w actor seen x c)
row_follows s w actor seen script n (Backed file) c k e =
    at_kind (RowFollows s w actor seen script n (Backed file) c) k event.Publish e
    (publication (Follows (Backed file) c event.Publish) s w actor (Backed file) c (backed_follows w file c) tt (own (Follows (Backed file) c event.Publish) s w actor (Backed file) c (λ x. tt)))
row_follows s w actor seen script n (Owns file version) c k e =
    at_kind (RowFollows s w actor seen script n (Owns file version) c) k event.Owner e
    (owning (Follows (Owns file version) c event.Owner) w actor seen (Owns file version) c (owns_follows w seen file version c) tt tt)
row_follows s w actor seen script n (Unbacked file) c k e =
    at_kind (RowFollows s w actor seen script n (Unbacked file) c) k event.Owner e
    (owning (Follows (Unbacked file) c event.Owner) w actor seen (Unbacked file) c (unbacked_follows w seen file c) tt tt)
row_follows s w actor seen script n (Disowned file) c k e =
    at_kind (RowFollows s w actor seen script n (Disowned file) c) k event.Publish e
    (publication (Follows (Disowned file) c event.Publish) s w actor (Disowned file) c (disowned_follows w file c) tt (own (Follows (Disowned file) c event.Publish) s w actor (Disowned file) c (λ x. tt)))
row_follows s w actor seen script n (Released file) c k e =
    at_kind (RowFollows s w actor seen script n (Released file) c) k event.Publish e
    (publication (Follows (Released file) c event.Publish) s w actor (Released file) c (released_follows w file c) tt (own (Follows (Released file) c event.Publish) s w actor (Released file) c (λ x. tt)))
row_follows s w actor seen script n (Receives file t) c k e = receives s w actor seen script n file t c k t.stage refl e
row_follows s w actor seen script n (Transmits file t told) c k e = transmits s w actor seen script n file t told c k t.stage refl e
row_follows s w actor seen script n (Given file t told f) c k e =
    at_kind (RowFollows s w actor seen script n (Given file t told f) c) k event.Look e (given_follows s w actor seen script n file t told f c)
row_follows s w actor seen script n (Teaches file t told f) c k e =
    at_kind (RowFollows s w actor seen script n (Teaches file t told f) c) k event.Publish e
    (publication (Follows (Teaches file t told f) c event.Publish) s w actor (Teaches file t told f) c tt
    (where_only (Follows (Teaches file t told f) c event.Publish) (is_none w.writer)
    (record (only (Goes (newest w + 1) (Transmits file t told) (found.Version (newest w + 1))) w) { ops = op.Learn file f.flow ∷ [] }) (λ b es h. (refl, h)))
    (own (Follows (Teaches file t told f) c event.Publish) s w actor (Teaches file t told f) c (λ x. tt)))
