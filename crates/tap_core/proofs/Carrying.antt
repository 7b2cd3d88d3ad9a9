-- What a command carries.
use Rattle.std.proofs.Common.{◌≡◌, ℕ, true, List, Option, Some, None, refl, sym, ap, ◌∙◌}
use Rattle.std.specs.Option.{option_map_or}
use Rattle.std.proofs.lemmas.Bool.{false≢true}
use Rattle.tap_frame.specs.Frame.{FrameValue}
use Rattle.tap_ground.specs.Options.{◌>>=◌}
use Rattle.tap_trace.specs.declared.turn.ChainText.{ChainText}
use Rattle.tap_frame.specs.declared.name.Name.{Name}
use Rattle.tap_guests.specs.Side.{Side}
use Rattle.tap_world.specs.Setup.{kept_frame}
use Rattle.tap_world.specs.SoundActors.{is_begun}
use Rattle.tap_world.specs.World as come
use Rattle.vring_turns.specs.RxTurn.{RxTurn}
use Rattle.vring_turns.specs.TxTurn.{TxTurn}
use Rattle.core_next.specs.Telling.{HasWorker}
use Rattle.core_shared.specs.Asking.{Asking, setup}
use Rattle.core_shared.specs.Coming.{come_of, host_frame, rx_turn_in, tx_turn_in}
use Rattle.core_shared.specs.Suiting.{IsItsFrame, Suits}
use Rattle.core_shared.specs.declared.doing.Doing.{Doing}
use Rattle.core_shared.specs.declared.doing.Doing.TheVariants as doing
use Rattle.tap_core.specs.Carried.{IsPending, pending_in}

-- a turn under way has its worker
pub has_worker : (vhosts : List (Option Side)) (a : Asking) (d : Doing) → Suits vhosts a d → HasWorker vhosts d
has_worker vhosts a doing.Begun h = tt
has_worker vhosts a (doing.Changes op) h = tt
has_worker vhosts a (doing.Opens file op) h = tt
has_worker vhosts a (doing.Opened file op) h = tt
has_worker vhosts a (doing.Withdraws file op) h = tt
has_worker vhosts a (doing.Withdrawn file version) h = tt
has_worker vhosts a (doing.Purges file version) h = tt
has_worker vhosts a (doing.Resizes file capacity) h = tt
has_worker vhosts a (doing.Shrinks file capacity places cuts) h = tt
has_worker vhosts a (doing.Routed file epoch frame) h = tt
has_worker vhosts a (doing.Placed file place epoch frame) h = tt
has_worker vhosts a (doing.Reads file room shape) h = tt
has_worker vhosts a (doing.Hosts file frame learns) h = tt
has_worker vhosts a (doing.Learns file frame) h = tt
has_worker vhosts a (doing.Backs vhost ring file refusal) h = tt
has_worker vhosts a (doing.Backed vhost ring file) h = tt
has_worker vhosts a (doing.Owns vhost file version) h = tt
has_worker vhosts a (doing.Unbacked vhost file) h = tt
has_worker vhosts a (doing.Disowned vhost file) h = tt
has_worker vhosts a (doing.Released vhost file) h = tt
has_worker vhosts a (doing.Receives vhost file) h = h.1
has_worker vhosts a (doing.Transmits vhost file chains) h = h.1
has_worker vhosts a (doing.Given vhost file chains frame) h = h.1
has_worker vhosts a (doing.Teaches vhost file chains frame) h = h.1

-- ---- its frame

-- where a worker is there or isn't, a turn carries no frame
no_rx : (a : Asking) (o : Option RxTurn) (file : ℕ) → IsPending (setup a) a.actor a.number (option_map_or (come.Doing.Receives file) o come.Doing.Begun) None
no_rx a None file = refl
no_rx a (Some t) file = refl

no_tx : (a : Asking) (o : Option TxTurn) (so_far : TxTurn → come.Doing) → ((t : TxTurn) → IsPending (setup a) a.actor a.number (so_far t) None)
    → IsPending (setup a) a.actor a.number (option_map_or so_far o come.Doing.Begun) None
no_tx a None so_far h = refl
no_tx a (Some t) so_far h = h t

held : (a : Asking) (o : Option TxTurn) (file : ℕ) (chains : List ChainText)
    → IsPending (setup a) a.actor a.number (option_map_or (λ t. come.Doing.Transmits file t chains) o come.Doing.Begun)
    (o >>= λ t. t.held)
held a None file chains = refl
held a (Some t) file chains = refl

none_held : (o : Option TxTurn) (file : ℕ) (chains : List ChainText)
    → is_begun (option_map_or (λ t. come.Doing.Transmits file t chains) o come.Doing.Begun) ≡ true → (o >>= λ t. t.held) ≡ None
none_held None file chains h = refl
none_held (Some t) file chains h = absurd (false≢true h)

sent : (a : Asking) (frame : FrameValue) → IsItsFrame a frame
    → Some frame ≡ kept_frame (setup a) (come.name_of a.actor a.number) frame.mark
sent a frame h = sym h.sent ∙ ap (λ (n : Name). kept_frame (setup a) n frame.mark) h.name

pub carries : (vhosts : List (Option Side)) (a : Asking) (d : Doing) → Suits vhosts a d
    → IsPending (setup a) a.actor a.number (come_of vhosts d) (pending_in vhosts d)
carries vhosts a doing.Begun h = refl
carries vhosts a (doing.Changes op) h = refl
carries vhosts a (doing.Opens file op) h = refl
carries vhosts a (doing.Opened file op) h = refl
carries vhosts a (doing.Withdraws file op) h = refl
carries vhosts a (doing.Withdrawn file version) h = refl
carries vhosts a (doing.Purges file version) h = refl
carries vhosts a (doing.Resizes file capacity) h = refl
carries vhosts a (doing.Shrinks file capacity places cuts) h = refl
carries vhosts a (doing.Routed file epoch frame) h = sent a frame h
carries vhosts a (doing.Placed file place epoch frame) h = refl
carries vhosts a (doing.Reads file room shape) h = refl
carries vhosts a (doing.Hosts file frame learns) h = (frame, refl, record { name = h.name; made = refl; mark = h.whole })
carries vhosts a (doing.Learns file frame) h = refl
carries vhosts a (doing.Backs vhost ring file refusal) h = refl
carries vhosts a (doing.Backed vhost ring file) h = refl
carries vhosts a (doing.Owns vhost file version) h = refl
carries vhosts a (doing.Unbacked vhost file) h = refl
carries vhosts a (doing.Disowned vhost file) h = refl
carries vhosts a (doing.Released vhost file) h = refl
carries vhosts a (doing.Receives vhost file) h = no_rx a (rx_turn_in vhosts vhost) file
carries vhosts a (doing.Transmits vhost file chains) h =
    held a (tx_turn_in vhosts vhost) file chains.items
carries vhosts a (doing.Given vhost file chains frame) h =
    no_tx a (tx_turn_in vhosts vhost) (λ t. come.Doing.Given file t chains.items (host_frame frame)) (λ t. refl)
carries vhosts a (doing.Teaches vhost file chains frame) h =
    no_tx a (tx_turn_in vhosts vhost) (λ t. come.Doing.Teaches file t chains.items (host_frame frame)) (λ t. refl)

-- one that hasn't begun carries no frame
pub none_yet : (vhosts : List (Option Side)) (d : Doing) → is_begun (come_of vhosts d) ≡ true → pending_in vhosts d ≡ None
none_yet vhosts doing.Begun h = refl
none_yet vhosts (doing.Changes op) h = refl
none_yet vhosts (doing.Opens file op) h = refl
none_yet vhosts (doing.Opened file op) h = refl
none_yet vhosts (doing.Withdraws file op) h = refl
none_yet vhosts (doing.Withdrawn file version) h = refl
none_yet vhosts (doing.Purges file version) h = refl
none_yet vhosts (doing.Resizes file capacity) h = refl
none_yet vhosts (doing.Shrinks file capacity places cuts) h = refl
none_yet vhosts (doing.Routed file epoch frame) h = absurd (false≢true h)
none_yet vhosts (doing.Placed file place epoch frame) h = refl
none_yet vhosts (doing.Reads file room shape) h = refl
none_yet vhosts (doing.Hosts file frame learns) h = absurd (false≢true h)
none_yet vhosts (doing.Learns file frame) h = refl
none_yet vhosts (doing.Backs vhost ring file refusal) h = refl
none_yet vhosts (doing.Backed vhost ring file) h = refl
none_yet vhosts (doing.Owns vhost file version) h = refl
none_yet vhosts (doing.Unbacked vhost file) h = refl
none_yet vhosts (doing.Disowned vhost file) h = refl
none_yet vhosts (doing.Released vhost file) h = refl
none_yet vhosts (doing.Receives vhost file) h = refl
none_yet vhosts (doing.Transmits vhost file chains) h = none_held (tx_turn_in vhosts vhost) file chains.items h
none_yet vhosts (doing.Given vhost file chains frame) h = refl
none_yet vhosts (doing.Teaches vhost file chains frame) h = refl
