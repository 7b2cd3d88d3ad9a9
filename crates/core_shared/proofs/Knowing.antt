-- This project's own: what is known of a command whose next event may be done: which event that is, how far the command
-- can have come, what it found, and how its turn stands.
use Rattle.std.proofs.Common.{◌≡◌, ℕ, zero, suc, ◌≤◌, List, [], ◌∷◌, length, map, true, false, Option, Some, None, refl, sym, ap, ◌∙◌, subst, arith}
use Rattle.std.specs.Prelude.{take}
use Rattle.std.specs.Option.{option_map_or}
use Rattle.std.specs.List.{AllByRecursion}
use Rattle.tap_guests.specs.Laws.{HoldsNone}
use Rattle.tap_guests.specs.Side.{Side}
use Rattle.tap_lines.specs.Placed.{Placed}
use Rattle.scen_words.specs.declared.command.Command.{Command}
use Rattle.scen_words.specs.declared.command.Command.TheVariants as command
use Rattle.tap_steer.specs.Table.{Table}
use Rattle.tap_trace.specs.declared.turn.ChainText.{ChainText}
use Rattle.tap_steer.specs.After.{after_all}
use Rattle.tap_world.specs.declared.event.EventKind.{EventKind}
use Rattle.tap_world.specs.declared.told.Published.{Published}
use Rattle.tap_world.specs.declared.told.Said.{Said}
use Rattle.tap_world.specs.ByNumber.{at}
use Rattle.tap_world.specs.Effect.{Effect}
use Rattle.tap_world.specs.Line.{File}
use Rattle.tap_world.specs.Scripts.{next_kind, on}
use Rattle.tap_world.specs.Setup.{opening_table}
use Rattle.tap_world.specs.Sound.{HasRoom, holds, table_capacity}
use Rattle.tap_world.specs.SoundActors.{can_be}
use Rattle.tap_world.specs.SoundRings.{holds_turn}
use Rattle.tap_world.specs.Steady.{FoundIn, HasFound, IsAtTurn, IsClaimed, IsReceiving, IsSending, WasSent}
use Rattle.tap_world.specs.World as come
use Rattle.tap_world.specs.World.{Actor, World, name_of, newest, table, table_at}
use Rattle.tap_sound.proofs.Kit.{some_same}
use Rattle.vring_turns.specs.RxTurn.{RxTurn}
use Rattle.vring_turns.specs.TxTurn.{TxTurn}
use Rattle.core_shared.specs.Asking.{Asking, setup}
use Rattle.core_shared.specs.Coming.{come_of, rx_turn_in, tx_turn_in}
use Rattle.core_shared.specs.Did.{HasEffect}
use Rattle.core_shared.specs.MayDo.{MayDo, MayGo, actor_at}
use Rattle.core_shared.specs.Worlds.{world_in}
use Rattle.core_shared.specs.declared.doing.Doing.{Doing}
use Rattle.core_shared.specs.declared.doing.Doing.TheVariants as doing
use Rattle.core_shared.specs.declared.shared.Shared.{Shared}
use Rattle.core_shared.proofs.Kit.{file_at}
use Rattle.core_shared.proofs.Taking.{holds_no_turn}
use Rattle.std.specs.declared.alloc.Global.{Global}
use Rattle.std.specs.Prelude.{Vec}

-- ---- which event is next

-- where the next event is of this kind, whoever the actors are and whatever was answered, that one may be done
pub may_do : {a : Asking} {d : Doing} {x : Shared} → MayGo a d x → (kind : EventKind)
    → ((actors : List Actor) (said : List Said) → next_kind (world_in x actors said) (come_of x.vhosts d) a.command ≡ Some kind)
    → MayDo a d kind x
may_do {a = a} {d = d} {x = x} go kind next =
    let m = go.1 in
    subst (λ (k : EventKind). MayDo a d k x) (some_same go.0 kind (sym m.event.is_next ∙ next m.actors m.said)) m

-- what is next on a file that is there
pub next_on : (x : Shared) (actors : List Actor) (said : List Said) (file : ℕ) (p : Placed) (kind : File → EventKind) → at x.files file ≡ Some p
    → on (world_in x actors said) file kind ≡ Some (kind p.file)
next_on x actors said file p kind e =
    ap (λ (o : Option File). option_map_or (λ (f : File). Some (kind f)) o None) (file_at file x.files p e)

-- the event's effect is that of its row, whoever the actors are
pub effect_of : {a : Asking} {d : Doing} {kind : EventKind} {x : Shared} → (m : MayDo a d kind x) (r : Effect)
    → HasEffect a (come_of x.vhosts d) kind x r → m.event.effect ≡ r
effect_of m r h = some_same m.event.effect r (sym m.event.is_row ∙ h.is_row m.actors m.said m.rest)

-- ---- how far it has come

pub can_be_now : {a : Asking} {d : Doing} {kind : EventKind} {x : Shared} → MayDo a d kind x → can_be (come_of x.vhosts d) a.command ≡ true
can_be_now {a = a} {d = d} {x = x} m = m.sound.actors.stand a.actor (actor_at a (come_of x.vhosts d) m.rest) m.is_actor

-- a command that holds no turn holds none of a vhost
pub holds_none : {a : Asking} {d : Doing} {kind : EventKind} {x : Shared} → MayDo a d kind x → holds_turn (come_of x.vhosts d) ≡ false
    → (vhost : ℕ) (v : Side) → at x.vhosts vhost ≡ Some v → HoldsNone a.actor v.vhost
holds_none m none vhost v e ring below = holds_no_turn m vhost ring v below e none

-- ---- what it found

pub has_found : {a : Asking} {d : Doing} {kind : EventKind} {x : Shared} → (m : MayDo a d kind x)
    → HasFound (setup a) (world_in x m.actors m.said) (actor_at a (come_of x.vhosts d) m.rest)
has_found {a = a} {d = d} {x = x} m = m.steady.seen a.actor (actor_at a (come_of x.vhosts d) m.rest) m.is_actor

-- in the table of the version that its actor has seen
pub found_now : {a : Asking} {d : Doing} {kind : EventKind} {x : Shared} → (m : MayDo a d kind x)
    → FoundIn (table_at (setup a) (world_in x m.actors m.said) a.seen) a.command (come_of x.vhosts d)
found_now {a = a} m = (has_found m).found (record { number = a.number; command = a.command }) refl

-- no actor has seen more versions than there are, and one that holds the writer all
pub seen_at_most : {a : Asking} {d : Doing} {kind : EventKind} {x : Shared} → MayDo a d kind x → a.seen ≤ length x.ops.ops
seen_at_most {a = a} {d = d} {x = x} m = m.sound.versions a.actor (actor_at a (come_of x.vhosts d) m.rest) m.is_actor

pub seen_all : {a : Asking} {d : Doing} {kind : EventKind} {x : Shared} → MayDo a d kind x → holds (come_of x.vhosts d) ≡ true
    → a.seen ≡ length x.ops.ops
seen_all m h = (has_found m).newest h

take_all : {A : Type 0} (xs : List A) (n : ℕ) → n ≡ length xs → take n xs ≡ xs
take_all [] zero e = refl
take_all [] (suc n) e = refl
take_all (x ∷ xs) zero e = absurd (omega (arith, e))
take_all (x ∷ xs) (suc n) e = ap (λ (l : List _). x ∷ l) (take_all xs n (omega (arith, e)))

-- so it found that in the newest table
pub found_newest : {a : Asking} {d : Doing} {kind : EventKind} {x : Shared} → MayDo a d kind x → holds (come_of x.vhosts d) ≡ true
    → FoundIn x.ops.table a.command (come_of x.vhosts d)
found_newest {a = a} {d = d} {x = x} m h =
    let all : take a.seen x.ops.ops ≡ x.ops.ops = take_all x.ops.ops a.seen (seen_all m h) in
    subst (λ (t : Table). FoundIn t a.command (come_of x.vhosts d))
    (ap (λ (ps : List Published). after_all (opening_table (setup a)) (map (λ (p : Published). p.op) ps)) all ∙ sym m.held.table)
    (found_now m)

-- ---- its place

pub place_now : {a : Asking} {d : Doing} {kind : EventKind} {x : Shared} → (m : MayDo a d kind x) (file place epoch len : ℕ)
    → come_of x.vhosts d ≡ come.Doing.Placed file place epoch len
    → IsClaimed (world_in x m.actors m.said) a.actor file place epoch len (name_of a.actor a.number)
place_now {a = a} {d = d} {x = x} m file place epoch len e =
    m.steady.placed a.actor (actor_at a (come_of x.vhosts d) m.rest) m.is_actor (record { number = a.number; command = a.command }) file place epoch len refl e

-- ---- files

-- each entry of a file's line was sent, and the line has room
pub were_sent : {a : Asking} {d : Doing} {kind : EventKind} {x : Shared} → MayDo a d kind x → (file : ℕ) (p : Placed) → at x.files file ≡ Some p
    → AllByRecursion (WasSent (setup a)) p.file.line
were_sent {x = x} m file p e = m.steady.sent file p.file (file_at file x.files p e)

pub has_room : {a : Asking} {d : Doing} {kind : EventKind} {x : Shared} → (m : MayDo a d kind x) (file : ℕ) (p : Placed) → at x.files file ≡ Some p
    → HasRoom (table_capacity file x.ops.table) p.file
has_room {a = a} {x = x} m file p e =
    subst (λ (t : Table). HasRoom (table_capacity file t) p.file) (sym m.held.table) (m.sound.lines file p.file (file_at file x.files p e))

-- ---- its turn

pub turn_now : {a : Asking} {d : Doing} {kind : EventKind} {x : Shared} → (m : MayDo a d kind x)
    → IsAtTurn (setup a) (world_in x m.actors m.said) (name_of a.actor a.number) a.command (come_of x.vhosts d)
turn_now {a = a} {d = d} {x = x} m =
    m.steady.turns a.actor (actor_at a (come_of x.vhosts d) m.rest) m.is_actor (record { number = a.number; command = a.command }) refl

at_turn : (a : Asking) (w : World) (c : Command) (so_far now : come.Doing) → a.command ≡ c → now ≡ so_far
    → IsAtTurn (setup a) w (name_of a.actor a.number) a.command now → IsAtTurn (setup a) w (name_of a.actor a.number) c so_far
at_turn a w c so_far now e f h =
    subst (λ (y : come.Doing). IsAtTurn (setup a) w (name_of a.actor a.number) c y) f
    (subst (λ (k : Command). IsAtTurn (setup a) w (name_of a.actor a.number) k now) e h)

pub receiving : {a : Asking} {vhost file : ℕ} {kind : EventKind} {x : Shared} → (m : MayDo a (doing.Receives vhost file) kind x) (t : RxTurn)
    → rx_turn_in x.vhosts vhost ≡ Some t → IsReceiving (setup a) (world_in x m.actors m.said) vhost file t
receiving {a = a} {vhost = vhost} {file = file} {x = x} m t e =
    at_turn a (world_in x m.actors m.said) (command.RxTurn vhost) (come.Doing.Receives file t) (come_of x.vhosts (doing.Receives vhost file)) m.suits.0
    (ap (λ (o : Option RxTurn). option_map_or (come.Doing.Receives file) o come.Doing.Begun) e) (turn_now m)

pub sending : {a : Asking} {vhost file : ℕ} {chains : Vec ChainText Global} {kind : EventKind} {x : Shared}
    → (m : MayDo a (doing.Transmits vhost file chains) kind x) (t : TxTurn)
    → tx_turn_in x.vhosts vhost ≡ Some t → IsSending (world_in x m.actors m.said) vhost file t (name_of a.actor a.number)
sending {a = a} {vhost = vhost} {file = file} {chains = chains} {x = x} m t e =
    at_turn a (world_in x m.actors m.said) (command.TxTurn vhost) (come.Doing.Transmits file t chains.items) (come_of x.vhosts (doing.Transmits vhost file chains)) m.suits.0
    (ap (λ (o : Option TxTurn). option_map_or (λ (y : TxTurn). come.Doing.Transmits file y chains.items) o come.Doing.Begun) e) (turn_now m)
