-- This project's own: what a row says of the operation that it publishes, and of how its command goes on.
use Rattle.std.proofs.Common.{◌≡◌, ◌⊎◌, ℕ, suc, ◌+◌, ◌≤◌, [], ◌∷◌, Bool, true, false, Option, Some, None, inl, inr, ⊎_elim, refl, sym, ap, ◌∙◌, subst, true≢false, arith}
use Rattle.std.specs.Prelude.{◌==◌, nat_lt}
use Rattle.std.proofs.lemmas.Bool.Decides.{leb_tells}
use Rattle.tap_steer.specs.declared.operation.Op.{Op}
use Rattle.tap_steer.specs.declared.operation.Op.TheVariants as op
use Rattle.tap_steer.specs.Rules.{refuse}
use Rattle.tap_steer.specs.Select as steer
use Rattle.scen_words.specs.declared.command.Command.{Command}
use Rattle.scen_words.specs.declared.command.Command.TheVariants as command
use Rattle.tap_world.specs.declared.event.Found.{Found}
use Rattle.tap_ledger.specs.declared.side.Side.{Side}
use Rattle.vhost_dev.specs.Settings.{ring_at}
use Rattle.tap_world.specs.ByNumber.{at}
use Rattle.tap_world.specs.Guests.{Vhost}
use Rattle.tap_world.specs.SoundTable.{on_side}
use Rattle.tap_world.specs.Setup.{Setup, op_of}
use Rattle.tap_world.specs.World.{Doing, World, newest, table}
use Rattle.tap_world.specs.World.Doing.{Backs, Disowned, Given, Hosts, Learns, Owns, Placed, Purges, Reads, Receives, Released, Routed, Teaches, Transmits, Unbacked, Withdrawn}
use Rattle.tap_world.specs.Effect.{Effect, Onward}
use Rattle.tap_world.specs.Effect.Onward.{Ends, Goes, Stays}
use Rattle.tap_world.specs.StepBackend.{side_of}
use Rattle.tap_world.specs.Sound.{holds}
use Rattle.tap_world.specs.SoundActors.{is_tx_turn, unsets, writes_to}
use Rattle.tap_world.specs.Steady.{FoundIn, IsLearntBy, IsOpOf, file_in, to_publish, version_in}
use Rattle.tap_sound.proofs.Kit.{WhereSome}
use Rattle.tap_sound.proofs.Publishing.{equal}

-- ---- what is published

-- an operation is published: one of the command, which the table doesn't refuse, or which was to be published
pub record IsOne (s : Setup) (w : World) (d : Doing) (c : Command) (r : Effect) : Type 0 where
  pub x : Op
  pub is : r.ops ≡ x ∷ []
  pub op : IsOpOf s c x
  pub lawful : (refuse (table s w) x ≡ None) ⊎ ((to_publish s d c ≡ Some x) × (holds d ≡ true))

-- ---- how it goes on

-- a backend is unset in a ring of this side, which had the file
pub record IsUnset (w : World) (d : Doing) (c : Command) (rx : Bool) (file : ℕ) : Type 0 where
  pub doing : d ≡ Backs None
  pub vhost : ℕ
  pub ring : ℕ
  pub v : Vhost
  pub is_command : c ≡ command.Backend vhost ring None
  pub is_vhost : at w.vhosts vhost ≡ Some v
  pub backend : (ring_at ring v.settings).file ≡ Some file
  pub side : (ring == 0) ≡ rx

-- a ring of a vhost has the file as its backend
pub record HasBackend (w : World) (file : ℕ) : Type 0 where
  pub side : Side
  pub vhost : ℕ
  pub v : Vhost
  pub is_vhost : at w.vhosts vhost ≡ Some v
  pub backend : (on_side side v.settings).file ≡ Some file

-- a turn goes on on its file, or begins on that of its ring
abbrev pub IsAt : World → Doing → ℕ → Type 0
IsAt w d file = HasBackend w file ⊎ (file_in d ≡ Some file)

-- what the command found, or had found before
abbrev pub FoundOn : Setup → World → ℕ → Doing → Command → ℕ → Doing → Type 0
FoundOn s w seen d c v (Routed file epoch len) = (v ≡ newest w) × FoundIn (table s w) c (Routed file epoch len)
FoundOn s w seen d c v (Placed file place epoch len) = (v ≡ seen) × (d ≡ Routed file epoch len)
FoundOn s w seen d c v (Reads file room front) = (v ≡ newest w) × FoundIn (table s w) c (Reads file room front)
FoundOn s w seen d c v (Hosts file ether learns) = (v ≡ newest w) × FoundIn (table s w) c (Hosts file ether learns)
FoundOn s w seen d c v (Learns file ether) = (v ≡ seen) × (d ≡ Hosts file ether true)
FoundOn s w seen d c v (Backs x) = (v ≡ newest w) × FoundIn (table s w) c (Backs x)
FoundOn s w seen d c v (Unbacked file) = (v ≡ seen) × IsUnset w d c true file
FoundOn s w seen d c v (Released file) = (v ≡ seen) × IsUnset w d c false file
FoundOn s w seen d c v (Disowned file) = (v ≡ seen) × (d ≡ Unbacked file)
FoundOn s w seen d c v (Teaches file t chains f) =
    (v ≡ newest w) × (steer.learns (table s w) file ≡ true) × (d ≡ Given file t chains f)
FoundOn s w seen d c v (Receives file t) = IsAt w d file
FoundOn s w seen d c v (Transmits file t chains) = IsAt w d file
FoundOn s w seen d c v (Given file t chains f) = file_in d ≡ Some file
FoundOn s w seen d c v (Withdrawn file version) = (version ≡ v) × (v ≡ newest w + 1)
FoundOn s w seen d c v (Owns file version) = (version ≡ v) × (v ≡ newest w + 1)
FoundOn s w seen d c v (Purges file version) = (v ≡ seen) × (d ≡ Withdrawn file version)
FoundOn s w seen d c v e = Unit {0}

-- the version that it has seen then: what it had seen before, where it holds the writer as before, or the newest one;
-- or the one that it published, which it says, or which is a learning
abbrev pub SeenOn : World → ℕ → Doing → Command → Effect → ℕ → Doing → Type 0
SeenOn w seen d c r v e =
    ((r.ops ≡ []) × (((v ≡ seen) × (holds e ≡ holds d)) ⊎ (v ≡ newest w)))
    ⊎ ((x : Op) × (r.ops ≡ x ∷ []) × (v ≡ newest w + 1) × ((version_in e ≡ Some (newest w + 1)) ⊎ IsLearntBy c x))

-- the version that it says it has published, is the same
abbrev pub SaysOn : Doing → Doing → Type 0
SaysOn d e = (version_in d ≡ None) ⊎ (version_in e ≡ version_in d)

abbrev pub ToldOn : Setup → World → ℕ → Doing → Command → Effect → Onward → Type 0
ToldOn s w seen d c r (Goes v e f) = SeenOn w seen d c r v e × FoundOn s w seen d c v e × SaysOn d e
ToldOn s w seen d c r (Ends v y) = Unit {0}
ToldOn s w seen d c r (Stays f) = r.ops ≡ []

pub record Told (s : Setup) (w : World) (seen : ℕ) (d : Doing) (c : Command) (r : Effect) : Type 0 where
  pub ops : (r.ops ≡ []) ⊎ IsOne s w d c r
  pub onward : ToldOn s w seen d c r r.onward

abbrev pub AllTold : Setup → World → ℕ → Doing → Command → Option Effect → Type 0
AllTold s w seen d c o = WhereSome (Told s w seen d c) o

-- ---- the operations of commands

pub own_op : (s : Setup) (c : Command) (x : Op) → op_of s c ≡ Some x → IsOpOf s c x
own_op s (command.Write file bytes) x h = absurd (cc (h))
own_op s (command.TxTurn vhost) x h = absurd (cc (h))
own_op s (command.Backend vhost ring (Some file)) x h = absurd (cc (h))
own_op s (command.Backend vhost ring None) x h = absurd (cc (h))
own_op s c x h = h

pub written_op : (s : Setup) (c : Command) (file hash : ℕ) → writes_to file c ≡ true → IsOpOf s c (op.Learn file hash)
written_op s (command.Write other bytes) file hash h =
    (hash, ap (λ (n : ℕ). op.Learn n hash) (sym (equal other file h)))
written_op s c file hash h = absurd (true≢false (sym h))

pub turn_op : (s : Setup) (c : Command) (file hash : ℕ) → is_tx_turn c ≡ true → IsOpOf s c (op.Learn file hash)
turn_op s (command.TxTurn vhost) file hash h = (file, hash, refl)
turn_op s c file hash h = absurd (true≢false (sym h))

pub unset_op : (s : Setup) (vhost ring file : ℕ) (asked : Option ℕ) → unsets (command.Backend vhost ring asked) ≡ true
    → IsOpOf s (command.Backend vhost ring asked) (op.Back file (side_of ring) None)
unset_op s vhost ring file None h = (h, file, refl)
unset_op s vhost ring file (Some other) h = absurd (true≢false (sym h))

-- a learning has no rules, and to unset a backend has none
pub learn_is_lawful : (s : Setup) (w : World) (file hash : ℕ) → refuse (table s w) (op.Learn file hash) ≡ None
unfolding refuse
learn_is_lawful s w file hash = refl

pub unset_is_lawful : (s : Setup) (w : World) (file ring : ℕ)
    → refuse (table s w) (op.Back file (side_of ring) None) ≡ None
unfolding refuse
unset_is_lawful s w file ring = refl

-- ---- ways in which rows end and go on

abbrev pub NotGoes : Effect → Onward → Type 0
NotGoes r (Goes v e f) = ⊥
NotGoes r (Ends v y) = Unit {0}
NotGoes r (Stays f) = r.ops ≡ []

module _ (s : Setup) (w : World) (seen : ℕ) (d : Doing) (c : Command) where
  told_end : (r : Effect) (o : Onward) → NotGoes r o → ToldOn s w seen d c r o
  told_end r (Goes v e f) h = absurd h
  told_end r (Ends v y) h = tt
  told_end r (Stays f) h = h

  -- it publishes nothing, and ends or stays
  pub ends : (r : Effect) → r.ops ≡ [] → NotGoes r r.onward → Told s w seen d c r
  ends r none h = record { ops = inl none; onward = told_end r r.onward h }

  -- it publishes nothing, and goes on
  pub goes : (r : Effect) (v : ℕ) (e : Doing) (f : Found) → r.ops ≡ [] → r.onward ≡ Goes v e f
      → ((v ≡ seen) × (holds e ≡ holds d)) ⊎ (v ≡ newest w) → FoundOn s w seen d c v e → SaysOn d e
      → Told s w seen d c r
  goes r v e f none is when_ found says = record {
    ops = inl none;
    onward = subst (ToldOn s w seen d c r) (sym is) (inl (none, when_), found, says);
  }

  -- it publishes, and goes on
  pub goes_with : (r : Effect) (v : ℕ) (e : Doing) (f : Found) (one : IsOne s w d c r) → r.onward ≡ Goes v e f
      → v ≡ newest w + 1
      → (version_in e ≡ Some (newest w + 1)) ⊎ IsLearntBy c one.x → FoundOn s w seen d c v e → SaysOn d e
      → Told s w seen d c r
  goes_with r v e f one is when_ known found says = record {
    ops = inr one;
    onward = subst (ToldOn s w seen d c r) (sym is) (inr (one.x, one.is, when_, known), found, says);
  }

-- a transmit turn learns
pub learnt_by : (c : Command) (file hash : ℕ) → is_tx_turn c ≡ true → IsLearntBy c (op.Learn file hash)
learnt_by (command.TxTurn vhost) file hash h = tt
learnt_by c file hash h = absurd (true≢false (sym h))

pub at_most : (a b : ℕ) → nat_lt a b ≡ false → b ≤ a
at_most a b e = ⊎_elim (λ t. absurd (true≢false (sym t.0 ∙ e))) (λ t. let h = t.1 in omega (arith, h))
    (leb_tells (suc a) b)
