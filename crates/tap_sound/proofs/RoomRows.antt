-- What a publication publishes, and what a resize changes.
use Rattle.std.proofs.Common.{◌≡◌, ℕ, ◌+◌, [], ◌∷◌, true, Some, None, ⊎_elim, refl, sym, ap, ◌∙◌, subst, true≢false}
use Rattle.std.specs.Prelude.{◌==◌, ◌&&◌, is_none}
use Rattle.std.proofs.lemmas.Bool.Decides.{eqb_tells}
use Rattle.tap_flow_key.specs.FlowKey.{hash}
use Rattle.tap_steer.specs.declared.operation.Op.{Op}
use Rattle.tap_steer.specs.declared.operation.Op.TheVariants as op
use Rattle.tap_steer.specs.Rules.{refuse}
use Rattle.scen_words.specs.declared.command.Command.{Command}
use Rattle.scen_words.specs.declared.command.Command.TheVariants as command
use Rattle.tap_world.specs.declared.event.Found.TheVariants as found
use Rattle.tap_world.specs.ByNumber.{at}
use Rattle.tap_world.specs.Setup.{Setup, op_of}
use Rattle.tap_world.specs.LineSteps.Change.{Sizes}
use Rattle.tap_world.specs.World.{Doing, World, holds_writer, newest, table}
use Rattle.tap_world.specs.World.Doing.{Backed, Changes, Disowned, Learns, Opened, Owns, Released, Resizes, Shrinks, Teaches, Transmits, Withdraws}
use Rattle.tap_world.specs.Effect.{Effect, only}
use Rattle.tap_world.specs.Effect.OnFiles.{NoFile, OnFile}
use Rattle.tap_world.specs.Effect.Onward.{Goes}
use Rattle.tap_world.specs.Step as rows
use Rattle.tap_world.specs.StepBackend as back
use Rattle.tap_world.specs.StepRing as ring
use Rattle.tap_world.specs.StepTable as tables
use Rattle.tap_world.specs.StepTransmits as tx_turns
use Rattle.tap_world.specs.SoundActors.{attaches, can_be, changes, detaches, resizes}
use Rattle.tap_sound.proofs.Kit.{WhereSome, either, some_same, where_if, where_only, where_then}
use Rattle.tap_sound.proofs.Steps.{publication}
use Rattle.tap_sound.proofs.RoomTable.{IsNoResize}

-- ---- which operation a command has

abbrev IsNoResizing : Command → Type 0
IsNoResizing (command.Resize file capacity) = ⊥
IsNoResizing c = Unit {0}

op_is_none : (s : Setup) (c : Command) (x : Op) → IsNoResizing c → op_of s c ≡ Some x → IsNoResize x
op_is_none s (command.SetIff file name flags) x quiet e = subst IsNoResize (some_same _ x e) tt
op_is_none s (command.SetQueue file flags) x quiet e = subst IsNoResize (some_same _ x e) tt
op_is_none s (command.Close file) x quiet e = subst IsNoResize (some_same _ x e) tt
op_is_none s (command.Persist file on) x quiet e = subst IsNoResize (some_same _ x e) tt
op_is_none s (command.HdrSize file size) x quiet e = subst IsNoResize (some_same _ x e) tt
op_is_none s (command.Steer file program) x quiet e = subst IsNoResize (some_same _ x e) tt
op_is_none s (command.Filter file program) x quiet e = subst IsNoResize (some_same _ x e) tt
op_is_none s (command.Tick now) x quiet e = subst IsNoResize (some_same _ x e) tt
op_is_none s (command.Resize file capacity) x quiet e = absurd quiet
op_is_none s c x quiet e = absurd (cc (e))

changes_none : (c : Command) → changes c ≡ true → IsNoResizing c
changes_none (command.Resize file capacity) e = absurd (true≢false (sym e))
changes_none c e = tt

attaches_none : (file : ℕ) (c : Command) → attaches file c ≡ true → IsNoResizing c
attaches_none file (command.Resize other capacity) e = absurd (true≢false (sym e))
attaches_none file c e = tt

detaches_none : (file : ℕ) (c : Command) → detaches file c ≡ true → IsNoResizing c
detaches_none file (command.Resize other capacity) e = absurd (true≢false (sym e))
detaches_none file c e = tt

is_eqb : (a b : ℕ) → (a == b) ≡ true → a ≡ b
is_eqb a b e = ⊎_elim (λ t. t.1) (λ t. absurd (true≢false (sym e ∙ t.0))) (eqb_tells a b)

-- ---- what is published: no resize, or that of a command that shrinks this file

abbrev pub SizesBy : Doing → Op → Type 0
SizesBy d (op.Resize file capacity) = (places cuts : ℕ) × (d ≡ Shrinks file places cuts)
SizesBy d x = Unit {0}

abbrev pub Publishes : Doing → Effect → Type 0
Publishes d r = (x : Op) × (r.files ≡ NoFile) × (r.ops ≡ x ∷ []) × SizesBy d x

sizes_none : (d : Doing) (x : Op) → IsNoResize x → SizesBy d x
sizes_none d (op.Resize file capacity) quiet = absurd quiet
sizes_none d x quiet = tt

op_sizes : (s : Setup) (file places cuts : ℕ) (c : Command) (x : Op) → resizes file c ≡ true → op_of s c ≡ Some x → SizesBy (Shrinks file places cuts) x
op_sizes s file places cuts (command.Resize other capacity) x can e =
    subst (SizesBy (Shrinks file places cuts)) (some_same _ x e)
    (places, cuts, ap (λ n. Shrinks n places cuts) (sym (is_eqb other file can)))
op_sizes s file places cuts c x can e = absurd (true≢false (sym can))

own : (s : Setup) (w : World) (d : Doing) (c : Command) (x : Op) → can_be d c ≡ true → op_of s c ≡ Some x → WhereSome (Publishes d) (tables.publishes_own w x d)
own s w Changes c x can e = (x, refl, refl, sizes_none Changes x (op_is_none s c x (changes_none c can) e))
own s w (Opened file) c x can e = (x, refl, refl, sizes_none (Opened file) x (op_is_none s c x (attaches_none file c can) e))
own s w (Withdraws file) c x can e = (x, refl, refl, sizes_none (Withdraws file) x (op_is_none s c x (detaches_none file c can) e))
own s w (Shrinks file places cuts) c x can e =
    where_then (Publishes (Shrinks file places cuts)) (at w.files file) _ (λ f h. (x, refl, refl, op_sizes s file places cuts c x can e))
own s w d c x can e = tt

publishes : (s : Setup) (w : World) (actor : ℕ) (d : Doing) (c : Command) → can_be d c ≡ true → WhereSome (Publishes d) (tables.publishes s w actor d c)
publishes s w actor (Learns file ether) c can =
    where_only (Publishes (Learns file ether)) (is_none w.writer) (tables.learns_flow w file ether) (λ b. (op.Learn file (hash ether), refl, refl, tt))
publishes s w actor d c can = where_then (Publishes d) (op_of s c) _
    (λ x e. where_if (Publishes d) (holds_writer w actor && is_none (refuse (table s w) x)) (tables.publishes_own w x d) (λ b. own s w d c x can e))

teaches : (w : World) (d : Doing) → WhereSome (Publishes d) (tx_turns.teaches w d)
teaches w (Teaches file t told f) = where_only (Publishes (Teaches file t told f)) (is_none w.writer)
    (record (only (Goes (newest w + 1) (Transmits file t told) (found.Version (newest w + 1))) w) { ops = op.Learn file f.flow ∷ [] })
    (λ b. (op.Learn file f.flow, refl, refl, tt))
teaches w d = tt

publishes_back : (w : World) (d : Doing) (c : Command) → WhereSome (Publishes d) (back.publishes_back w d c)
publishes_back w (Backed file) (command.Backend vhost r asked) = either (Publishes (Backed file)) (r == 0) _ _ first second
  where
    x : Op
    x = op.Back file (back.side_of r) (Some vhost)

    first : Publishes (Backed file) (record (only (Goes (newest w + 1) (Owns file (newest w + 1)) (found.Version (newest w + 1))) w) { ops = op.Back file (back.side_of r) (Some vhost) ∷ [] })
    first = (op.Back file (back.side_of r) (Some vhost), refl, refl, tt)

    second : Publishes (Backed file) (record (back.back_over w (newest w + 1) vhost r (newest w + 1)) { ops = op.Back file (back.side_of r) (Some vhost) ∷ [] })
    second = (op.Back file (back.side_of r) (Some vhost), refl, refl, tt)
publishes_back w (Disowned file) (command.Backend vhost r asked) = (op.Back file (back.side_of r) None, refl, refl, tt)
publishes_back w (Released file) (command.Backend vhost r asked) = (op.Back file (back.side_of r) None, refl, refl, tt)
publishes_back w d c = tt

pub publish_is : (s : Setup) (w : World) (actor : ℕ) (d : Doing) (c : Command) → can_be d c ≡ true → WhereSome (Publishes d) (rows.publish_row s w actor d c)
publish_is s w actor d c can = publication (Publishes d) s w actor d c (publishes_back w d c) (teaches w d) (publishes s w actor d c can)

-- ---- a resize

abbrev pub Resizing : World → ℕ → Doing → Effect → Type 0
Resizing w actor d r =
    (file capacity : ℕ) × (d ≡ Resizes file capacity) × (r.files ≡ OnFile file (Sizes capacity)) × (r.ops ≡ []) × (holds_writer w actor ≡ true)

pub resize_is : (w : World) (actor seen : ℕ) (d : Doing) → WhereSome (Resizing w actor d) (ring.if_held w actor (ring.resizes w seen d))
resize_is w actor seen d = where_if (Resizing w actor d) (holds_writer w actor) (ring.resizes w seen d) (λ b. sized w actor seen d b)
  where
    sized : (w : World) (actor seen : ℕ) (d : Doing) → holds_writer w actor ≡ true → WhereSome (Resizing w actor d) (ring.resizes w seen d)
    sized w actor seen (Resizes file capacity) b = where_then (Resizing w actor (Resizes file capacity)) (at w.files file) _ (λ f e. (file, capacity, refl, refl, refl, b))
    sized w actor seen d b = tt
