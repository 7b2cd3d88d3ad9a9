-- This project's own: while another actor's event is done, a command stays as far as it has come, and what it carries
-- stays its own.
use Rattle.std.proofs.Common.{◌≡◌, ℕ, ◌<◌, lit<, List, Bool, true, false, Option, Some, None, refl, sym, ap, ◌∙◌}
use Rattle.std.specs.Prelude.{◌==◌, ◌&&◌, IsSome, is_some, slice_get}
use Rattle.std.specs.Option.{option_map_or}
use Rattle.scen_words.specs.Commands.{vhost_of}
use Rattle.scen_words.specs.declared.command.Command.{Command}
use Rattle.scen_words.specs.declared.command.Command.TheVariants as command
use Rattle.tap_guests.specs.Side.{Side}
use Rattle.tap_ledger.specs.declared.error.TapErr.{TapErr}
use Rattle.tap_world.specs.declared.told.Said.{Said}
use Rattle.tap_world.specs.ByNumber.{at}
use Rattle.tap_world.specs.Guests.{Vhost, turn_of}
use Rattle.tap_world.specs.Setup.{Numbered}
use Rattle.tap_world.specs.Sound.{IsSound}
use Rattle.tap_world.specs.SoundRings.{holds_turn, ring_in}
use Rattle.tap_world.specs.Steady.{IsSteady}
use Rattle.tap_world.specs.World as come
use Rattle.tap_world.specs.World.{Actor}
use Rattle.vring_turns.specs.RxTurn.{RxTurn}
use Rattle.vring_turns.specs.TxTurn.{TxTurn}
use Rattle.core_shared.specs.Asking.{Asking, setup}
use Rattle.core_shared.specs.Coming.{come_of, host_frame, rx_turn_in, tx_turn_in}
use Rattle.core_shared.specs.Did.{TurnsStay}
use Rattle.core_shared.specs.MayDo.{actor_at}
use Rattle.core_shared.specs.Suiting.{HasNoWorker, Suits}
use Rattle.core_shared.specs.Worlds.{vhosts_of, world_in}
use Rattle.core_shared.specs.declared.doing.Doing.{Doing}
use Rattle.core_shared.specs.declared.doing.Doing.TheVariants as doing
use Rattle.core_shared.specs.declared.shared.Shared.{Shared}
use Rattle.core_shared.proofs.Kit.{if_there, made_at, made_there, there, vhost_at}
use Rattle.core_shared.proofs.Taking.{IsAbout, about_ring, about_rx, about_tx, option_is, rx_holds, tx_holds}

-- The vhost that a command names is there, and where the command holds a turn it is its own ring's.
pub record Stands (a : Asking) (d : Doing) (vhosts : List (Option Side)) : Type 0 where
  pub there : (vhost : ℕ) → vhost_of a.command ≡ Some vhost → IsSome (at vhosts vhost)
  pub held : (vhost ring : ℕ) (v : Side) → ring < 2 → at vhosts vhost ≡ Some v → holds_turn (come_of vhosts d) ≡ true
      → IsAbout a vhost ring → turn_of ring v.vhost ≡ Some a.actor

-- each command of a sound and steady world stands so
pub stands : (a : Asking) (d : Doing) (x : Shared) (actors : List Actor) (said : List Said) (rest : List Numbered)
    → IsSound (setup a) (world_in x actors said) → IsSteady (setup a) (world_in x actors said)
    → slice_get actors a.actor ≡ Some (actor_at a (come_of x.vhosts d) rest)
    → Stands a d x.vhosts
stands a d x actors said rest sound steady here = record { there = is_there; held = is_held }
  where
    is_there : (vhost : ℕ) → vhost_of a.command ≡ Some vhost → IsSome (at x.vhosts vhost)
    is_there vhost e =
        let declared : IsSome (at (setup a).vhosts vhost) =
        if_there (vhost_of a.command) (λ (n : ℕ). IsSome (at (setup a).vhosts n)) vhost e
        (steady.named.commands a.actor (actor_at a (come_of x.vhosts d) rest) here).0.vhost in
        sym (made_there (λ (v : Side). v.vhost) (at x.vhosts vhost))
        ∙ ap (λ (o : Option Vhost). is_some o) (sym (made_at (λ (v : Side). v.vhost) vhost x.vhosts))
        ∙ sym (made_there (λ (v : Vhost). v.guest) (at (vhosts_of x.vhosts) vhost))
        ∙ ap (λ (o : Option ℕ). is_some o)
        (sym (made_at (λ (v : Vhost). v.guest) vhost (vhosts_of x.vhosts)) ∙ ap (λ (l : List (Option ℕ)). at l vhost) steady.there.vhosts)
        ∙ declared

    is_held : (vhost ring : ℕ) (v : Side) → ring < 2 → at x.vhosts vhost ≡ Some v → holds_turn (come_of x.vhosts d) ≡ true
        → IsAbout a vhost ring → turn_of ring v.vhost ≡ Some a.actor
    is_held vhost ring v below e holds about =
        option_is (turn_of ring v.vhost) a.actor
        (sym (ap (λ (b : Bool). b && option_map_or (λ (r : ℕ × ℕ). r.0 == vhost && r.1 == ring) (ring_in a.command) false) holds ∙ about)
        ∙ sound.actors.turns vhost v.vhost (vhost_at vhost x.vhosts v e) ring a.actor (actor_at a (come_of x.vhosts d) rest) below here)

module _ (a : Asking) (d : Doing) (actor : ℕ) (old new : List (Option Side)) (s : Stands a d old) (stay : TurnsStay actor old new)
    (other : (a.actor == actor) ≡ false) where
  -- the turn of a ring whose turn the command holds is where it was
  rx_same : (vhost : ℕ) → vhost_of a.command ≡ Some vhost → holds_turn (come_of old d) ≡ true → IsAbout a vhost 0
      → rx_turn_in new vhost ≡ rx_turn_in old vhost
  rx_same vhost e holds about =
      let v = there (at old vhost) (s.there vhost e) in
      stay.rx vhost a.actor v.0 v.1 (s.held vhost 0 v.0 (lit< tt) v.1 holds about) other

  tx_same : (vhost : ℕ) → vhost_of a.command ≡ Some vhost → holds_turn (come_of old d) ≡ true → IsAbout a vhost 1
      → tx_turn_in new vhost ≡ tx_turn_in old vhost
  tx_same vhost e holds about =
      let v = there (at old vhost) (s.there vhost e) in
      stay.tx vhost a.actor v.0 v.1 (s.held vhost 1 v.0 (lit< tt) v.1 holds about) other

  -- its vhost
  of_turn : (c : Command) (vhost : ℕ) → a.command ≡ c → vhost_of c ≡ Some vhost → vhost_of a.command ≡ Some vhost
  of_turn c vhost e f = ap vhost_of e ∙ f

  about_back : (vhost ring : ℕ) (file : Option ℕ) → a.command ≡ command.Backend vhost ring file → ring_in (command.Backend vhost ring file) ≡ Some (vhost, ring)
      → IsAbout a vhost ring
  about_back vhost ring file e f =
      ap (λ (c : Command). option_map_or (λ (r : ℕ × ℕ). r.0 == vhost && r.1 == ring) (ring_in c) false) e
      ∙ ap (λ (o : Option (ℕ × ℕ)). option_map_or (λ (r : ℕ × ℕ). r.0 == vhost && r.1 == ring) o false) f
      ∙ about_ring vhost ring

  no_worker : (vhost ring : ℕ) (file : Option ℕ) → a.command ≡ command.Backend vhost ring file → holds_turn (come_of old d) ≡ true
      → HasNoWorker old vhost ring → HasNoWorker new vhost ring
  no_worker vhost ring file e holds h = record {
    rx = λ is.
        let c : a.command ≡ command.Backend vhost 0 file = e ∙ ap (λ (r : ℕ). command.Backend vhost r file) is in
        rx_same vhost (of_turn (command.Backend vhost 0 file) vhost c refl) holds (about_back vhost 0 file c refl) ∙ h.rx is;
    tx = λ is.
        let c : a.command ≡ command.Backend vhost 1 file = e ∙ ap (λ (r : ℕ). command.Backend vhost r file) is in
        tx_same vhost (of_turn (command.Backend vhost 1 file) vhost c refl) holds (about_back vhost 1 file c refl) ∙ h.tx is;
  }

  rx_stays : (vhost : ℕ) → a.command ≡ command.RxTurn vhost → holds_turn (come_of old d) ≡ true → rx_turn_in new vhost ≡ rx_turn_in old vhost
  rx_stays vhost e holds = rx_same vhost (of_turn (command.RxTurn vhost) vhost e refl) holds (about_rx a vhost e)

  tx_stays : (vhost : ℕ) → a.command ≡ command.TxTurn vhost → holds_turn (come_of old d) ≡ true → tx_turn_in new vhost ≡ tx_turn_in old vhost
  tx_stays vhost e holds = tx_same vhost (of_turn (command.TxTurn vhost) vhost e refl) holds (about_tx a vhost e)

-- what it carries stays its own
pub suits_stay : (a : Asking) (d : Doing) (actor : ℕ) (old new : List (Option Side)) → Stands a d old → TurnsStay actor old new
    → (a.actor == actor) ≡ false → Suits old a d → Suits new a d
suits_stay a doing.Begun actor old new s stay other h = h
suits_stay a (doing.Changes op) actor old new s stay other h = h
suits_stay a (doing.Opens file op) actor old new s stay other h = h
suits_stay a (doing.Opened file op) actor old new s stay other h = h
suits_stay a (doing.Withdraws file op) actor old new s stay other h = h
suits_stay a (doing.Withdrawn file version) actor old new s stay other h = h
suits_stay a (doing.Purges file version) actor old new s stay other h = h
suits_stay a (doing.Resizes file capacity) actor old new s stay other h = h
suits_stay a (doing.Shrinks file capacity places cuts) actor old new s stay other h = h
suits_stay a (doing.Routed file epoch frame) actor old new s stay other h = h
suits_stay a (doing.Placed file place epoch frame) actor old new s stay other h = h
suits_stay a (doing.Reads file room shape) actor old new s stay other h = h
suits_stay a (doing.Hosts file frame learns) actor old new s stay other h = h
suits_stay a (doing.Learns file frame) actor old new s stay other h = h
suits_stay a (doing.Backs vhost ring file refusal) actor old new s stay other h = (
  h.0,
  λ none.
      let holds : holds_turn (come.Doing.Backs refusal) ≡ true = ap (λ (o : Option TapErr). holds_turn (come.Doing.Backs o)) none in
      no_worker a (doing.Backs vhost ring file refusal) actor old new s stay other vhost ring file h.0 holds (h.1 none),
)
suits_stay a (doing.Backed vhost ring file) actor old new s stay other h =
    (h.0, no_worker a (doing.Backed vhost ring file) actor old new s stay other vhost ring (Some file) h.0 refl h.1)
suits_stay a (doing.Owns vhost file version) actor old new s stay other h =
    (h.0, no_worker a (doing.Owns vhost file version) actor old new s stay other vhost 0 (Some file) h.0 refl h.1)
suits_stay a (doing.Unbacked vhost file) actor old new s stay other h =
    (h.0, no_worker a (doing.Unbacked vhost file) actor old new s stay other vhost 0 None h.0 refl h.1)
suits_stay a (doing.Disowned vhost file) actor old new s stay other h =
    (h.0, no_worker a (doing.Disowned vhost file) actor old new s stay other vhost 0 None h.0 refl h.1)
suits_stay a (doing.Released vhost file) actor old new s stay other h =
    (h.0, no_worker a (doing.Released vhost file) actor old new s stay other vhost 1 None h.0 refl h.1)
suits_stay a (doing.Receives vhost file) actor old new s stay other h =
    let same = rx_stays a (doing.Receives vhost file) actor old new s stay other vhost h.0 (rx_holds (rx_turn_in old vhost) file h.1) in
    (h.0, ap (λ (o : Option RxTurn). is_some o) same ∙ h.1)
suits_stay a (doing.Transmits vhost file chains) actor old new s stay other h =
    let same = tx_stays a (doing.Transmits vhost file chains) actor old new s stay other vhost h.0
    (tx_holds (tx_turn_in old vhost) (λ t. come.Doing.Transmits file t chains.items) (λ t. refl) h.1) in
    (h.0, ap (λ (o : Option TxTurn). is_some o) same ∙ h.1)
suits_stay a (doing.Given vhost file chains frame) actor old new s stay other h =
    let same = tx_stays a (doing.Given vhost file chains frame) actor old new s stay other vhost h.0
    (tx_holds (tx_turn_in old vhost) (λ t. come.Doing.Given file t chains.items (host_frame frame)) (λ t. refl) h.1) in
    (h.0, ap (λ (o : Option TxTurn). is_some o) same ∙ h.1)
suits_stay a (doing.Teaches vhost file chains frame) actor old new s stay other h =
    let same = tx_stays a (doing.Teaches vhost file chains frame) actor old new s stay other vhost h.0
    (tx_holds (tx_turn_in old vhost) (λ t. come.Doing.Teaches file t chains.items (host_frame frame)) (λ t. refl) h.1) in
    (h.0, ap (λ (o : Option TxTurn). is_some o) same ∙ h.1)

-- and it stays as far as it has come
pub come_stays : (a : Asking) (d : Doing) (actor : ℕ) (old new : List (Option Side)) → Stands a d old → TurnsStay actor old new
    → (a.actor == actor) ≡ false → Suits old a d → come_of new d ≡ come_of old d
come_stays a (doing.Receives vhost file) actor old new s stay other h =
    ap (λ (o : Option RxTurn). option_map_or (come.Doing.Receives file) o come.Doing.Begun)
    (rx_stays a (doing.Receives vhost file) actor old new s stay other vhost h.0 (rx_holds (rx_turn_in old vhost) file h.1))
come_stays a (doing.Transmits vhost file chains) actor old new s stay other h =
    ap (λ (o : Option TxTurn). option_map_or (λ (t : TxTurn). come.Doing.Transmits file t chains.items) o come.Doing.Begun)
    (tx_stays a (doing.Transmits vhost file chains) actor old new s stay other vhost h.0
    (tx_holds (tx_turn_in old vhost) (λ t. come.Doing.Transmits file t chains.items) (λ t. refl) h.1))
come_stays a (doing.Given vhost file chains frame) actor old new s stay other h =
    ap (λ (o : Option TxTurn). option_map_or (λ (t : TxTurn). come.Doing.Given file t chains.items (host_frame frame)) o come.Doing.Begun)
    (tx_stays a (doing.Given vhost file chains frame) actor old new s stay other vhost h.0
    (tx_holds (tx_turn_in old vhost) (λ t. come.Doing.Given file t chains.items (host_frame frame)) (λ t. refl) h.1))
come_stays a (doing.Teaches vhost file chains frame) actor old new s stay other h =
    ap (λ (o : Option TxTurn). option_map_or (λ (t : TxTurn). come.Doing.Teaches file t chains.items (host_frame frame)) o come.Doing.Begun)
    (tx_stays a (doing.Teaches vhost file chains frame) actor old new s stay other vhost h.0
    (tx_holds (tx_turn_in old vhost) (λ t. come.Doing.Teaches file t chains.items (host_frame frame)) (λ t. refl) h.1))
come_stays a d actor old new s stay other h = refl
