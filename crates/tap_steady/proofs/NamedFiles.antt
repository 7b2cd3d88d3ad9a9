-- This project's own: which files commands name, and that what they find and set is declared.
use Rattle.std.proofs.Common.{◌≡◌, ◌⊎◌, ℕ, Bool, true, false, Option, Some, None, inl, inr, ⊎_elim, refl, sym, ap, ◌∙◌, subst, true≢false}
use Rattle.std.specs.Prelude.{if◌then◌else◌, ◌==◌, ◌&&◌, not, IfSome, IsSome, slice_get}
use Rattle.std.specs.Option.{option_map_or}
use Rattle.tap_ledger.specs.declared.side.Side.{Side}
use Rattle.tap_ledger.specs.declared.side.Side.TheVariants.{Rx, Tx}
use Rattle.tap_steer.specs.declared.operation.Op.{Op}
use Rattle.tap_steer.specs.declared.operation.Op.TheVariants as op
use Rattle.tap_steer.specs.Laws.{RowsAreEnabled}
use Rattle.tap_steer.specs.Sound as steer
use Rattle.tap_steer.specs.Table.{home}
use Rattle.vhost_dev.specs.Settings.{ring_of}
use Rattle.scen_words.specs.declared.command.Command.{Command}
use Rattle.scen_words.specs.declared.command.Command.TheVariants as command
use Rattle.scen_words.specs.Commands.{file_of, vhost_of}
use Rattle.tap_world.specs.ByNumber.{at}
use Rattle.tap_world.specs.Frames.{ether_in, sent_bytes, sent_front}
use Rattle.tap_world.specs.Guests.{Vhost}
use Rattle.tap_world.specs.Setup.{NamesDeclared, Setup}
use Rattle.tap_world.specs.World.{Actor, Doing, World, table}
use Rattle.tap_world.specs.World.Doing.{Backed, Backs, Begun, Changes, Disowned, Given, Hosts, Learns, Opened, Opens, Owns, Placed, Purges, Reads, Receives, Released, Routed, Shrinks, Teaches, Transmits, Unbacked, Withdrawn, Withdraws}
use Rattle.tap_world.specs.SoundActors.{attaches, can_be, detaches, is_begun, reads_from, resizes, resizes_to, sets, writes_to}
use Rattle.tap_world.specs.SoundTable.{HasItsBackends, backer_by, commanded, is_on, is_rx_side, on_side, writer_of, writing}
use Rattle.tap_world.specs.Each.{EachVhost}
use Rattle.tap_world.specs.Steady.{FoundIn, IsOpOf, NamesWhatIsThere, file_in}
use Rattle.tap_sound.proofs.Kit.{some_same, then_some}
use Rattle.tap_sound.proofs.Publishing.{equal}
use Rattle.tap_sound.proofs.Taken.{both}
use Rattle.tap_steady.proofs.NamedTable.{op_file}
use Rattle.tap_steady.proofs.OpsTold.{FoundOn}

-- what is none isn't something
pub none_some : {A : Type 0} {B : Type 0} (a : A) → None ≡ Some a → B
none_some a h = absurd (cc (h))

-- ---- the file that a command is about

attaches_file : (file : ℕ) (c : Command) → attaches file c ≡ true → file_of c ≡ Some file
attaches_file file (command.SetIff other device flags) h = ap (λ (n : ℕ). Some n) (equal other file h)
attaches_file file (command.SetQueue other flags) h = ap (λ (n : ℕ). Some n) (equal other file (both _ _ h).0)
attaches_file file c h = absurd (true≢false (sym h))

detaches_file : (file : ℕ) (c : Command) → detaches file c ≡ true → file_of c ≡ Some file
detaches_file file (command.SetQueue other flags) h = ap (λ (n : ℕ). Some n) (equal other file (both _ _ h).0)
detaches_file file (command.Close other) h = ap (λ (n : ℕ). Some n) (equal other file h)
detaches_file file c h = absurd (true≢false (sym h))

resizes_file : (file : ℕ) (c : Command) → resizes file c ≡ true → file_of c ≡ Some file
resizes_file file (command.Resize other capacity) h = ap (λ (n : ℕ). Some n) (equal other file h)
resizes_file file c h = absurd (true≢false (sym h))

resizes_to_file : (file asked : ℕ) (c : Command) → resizes_to file asked c ≡ true → file_of c ≡ Some file
resizes_to_file file asked (command.Resize other capacity) h = ap (λ (n : ℕ). Some n) (equal other file (both _ _ h).0)
resizes_to_file file asked c h = absurd (true≢false (sym h))

reads_file : (file : ℕ) (c : Command) → reads_from file c ≡ true → file_of c ≡ Some file
reads_file file (command.Read other room) h = ap (λ (n : ℕ). Some n) (equal other file h)
reads_file file c h = absurd (true≢false (sym h))

writes_file : (file : ℕ) (c : Command) → writes_to file c ≡ true → file_of c ≡ Some file
writes_file file (command.Write other bytes) h = ap (λ (n : ℕ). Some n) (equal other file h)
writes_file file c h = absurd (true≢false (sym h))

sets_file : (file : ℕ) (c : Command) → sets file c ≡ true → file_of c ≡ Some file
sets_file file (command.Backend vhost ring (Some other)) h = ap (λ (n : ℕ). Some n) (equal other file (both _ _ h).0)
sets_file file c h = absurd (true≢false (sym h))

-- what a command names is declared
pub named_file : (s : Setup) (c : Command) (file : ℕ) → NamesDeclared s c → file_of c ≡ Some file
    → IsSome (at s.files file)
named_file s c file n is = subst (λ (o : Option ℕ). IfSome o (λ k. IsSome (at s.files k))) is n.file

pub named_vhost : (s : Setup) (c : Command) (vhost : ℕ) → NamesDeclared s c → vhost_of c ≡ Some vhost
    → IsSome (at s.vhosts vhost)
named_vhost s c vhost n is = subst (λ (o : Option ℕ). IfSome o (λ k. IsSome (at s.vhosts k))) is n.vhost

-- ---- the file of an operation

same_file : (x y : Op) (n : ℕ) → Some x ≡ Some y → op_file y ≡ Some n → op_file x ≡ Some n
same_file x y n is e = ap op_file (some_same x y is) ∙ e

-- it is the one that its command is about
pub op_named : (s : Setup) (c : Command) (x : Op) (n : ℕ) → IsOpOf s c x → op_file x ≡ Some n → file_of c ≡ Some n
op_named s (command.SetIff file device flags) x n h e = same_file (op.SetIff file device flags) x n h e
op_named s (command.SetQueue file flags) x n h e = same_file (op.SetQueue file flags) x n h e
op_named s (command.Close file) x n h e = same_file (op.Shut file) x n h e
op_named s (command.Resize file capacity) x n h e = same_file (op.Resize file capacity) x n h e
op_named s (command.Persist file on) x n h e = none_some n (same_file (op.Persist file on) x n h e)
op_named s (command.HdrSize file size) x n h e = none_some n (same_file (op.HdrSize file size) x n h e)
op_named s (command.Steer file program) x n h e = none_some n (same_file (op.Steering file _) x n h e)
op_named s (command.Filter file program) x n h e = none_some n (same_file (op.Filter file _) x n h e)
op_named s (command.Tick now) x n h e = none_some n (same_file (op.Tick now) x n h e)
op_named s (command.Write file bytes) x n h e = none_some n (sym (ap op_file h.1) ∙ e)
op_named s (command.TxTurn vhost) x n h e = none_some n (sym (ap op_file h.2) ∙ e)
op_named s (command.Backend vhost ring (Some file)) x n h e = none_some n (sym (ap op_file h.1) ∙ e)
op_named s (command.Backend vhost ring None) x n h e = none_some n (sym (ap op_file h.2) ∙ e)
op_named s c x n h e = none_some x h

-- the file and the vhost of a backend's operation
abbrev back_of : Op → Option (ℕ × Option ℕ)
back_of (op.Back file side vhost) = Some (file, vhost)
back_of other = None

abbrev SetsBack : Op → ℕ → ℕ → Type 0
SetsBack x n vhost = back_of x ≡ Some (n, Some vhost)

same_back : (x y : Op) (n vhost : ℕ) → Some x ≡ Some y → SetsBack y n vhost → SetsBack x n vhost
same_back x y n vhost is e = ap back_of (some_same x y is) ∙ e

-- a backend that is set is its command's
by_back : (s : Setup) (c : Command) (x : Op) (n vhost : ℕ) → IsOpOf s c x → SetsBack x n vhost
    → (file_of c ≡ Some n) × (vhost_of c ≡ Some vhost)
by_back s (command.SetIff file device flags) x n v h e = none_some _ (same_back (op.SetIff file device flags) x n v h e)
by_back s (command.SetQueue file flags) x n v h e = none_some _ (same_back (op.SetQueue file flags) x n v h e)
by_back s (command.Close file) x n v h e = none_some _ (same_back (op.Shut file) x n v h e)
by_back s (command.Resize file capacity) x n v h e = none_some _ (same_back (op.Resize file capacity) x n v h e)
by_back s (command.Persist file on) x n v h e = none_some _ (same_back (op.Persist file on) x n v h e)
by_back s (command.HdrSize file size) x n v h e = none_some _ (same_back (op.HdrSize file size) x n v h e)
by_back s (command.Steer file program) x n v h e = none_some _ (same_back (op.Steering file _) x n v h e)
by_back s (command.Filter file program) x n v h e = none_some _ (same_back (op.Filter file _) x n v h e)
by_back s (command.Tick now) x n v h e = none_some _ (same_back (op.Tick now) x n v h e)
by_back s (command.Write file bytes) x n v h e = none_some _ (sym (ap back_of h.1) ∙ e)
by_back s (command.TxTurn vhost) x n v h e = none_some _ (sym (ap back_of h.2) ∙ e)
by_back s (command.Backend vhost ring (Some file)) x n v h e =
    let same : Some (file, Some vhost) ≡ Some (n, Some v) = sym (ap back_of h.1) ∙ e in
    let pair : (file, Some vhost) ≡ (n, Some v) = some_same _ _ same in
    (ap (λ (p : ℕ × Option ℕ). Some p.0) pair, ap (λ (p : ℕ × Option ℕ). p.1) pair)
by_back s (command.Backend vhost ring None) x n v h e =
    let same : Some (h.1, None) ≡ Some (n, Some v) = sym (ap back_of h.2) ∙ e in
    none_some v (ap (λ (p : ℕ × Option ℕ). p.1) (some_same _ _ same))
by_back s c x n v h e = none_some x h

pub back_named : (s : Setup) (c : Command) (x : Op) (n vhost : ℕ) (side : Side) → IsOpOf s c x
    → x ≡ op.Back n side (Some vhost)
    → (file_of c ≡ Some n) × (vhost_of c ≡ Some vhost)
back_named s c x n vhost side h is = by_back s c x n vhost h (ap back_of is)

-- ---- the command that holds the writer

-- it is an actor's
pub writer_is : (w : World) (d : Doing) → writing w ≡ d → is_begun d ≡ false
    → (n : ℕ) × (a : Actor) × (slice_get w.actors n ≡ Some a) × (a.doing ≡ d)
writer_is w d h begun = go (writer_of w) refl
  where
    go : (o : Option Actor) → writer_of w ≡ o → (n : ℕ) × (a : Actor) × (slice_get w.actors n ≡ Some a) × (a.doing ≡ d)
    go None is = absurd (true≢false
        (ap is_begun (sym (ap (λ (q : Option Actor). option_map_or (λ (a : Actor). a.doing) q Begun) is) ∙ h) ∙ begun))
    go (Some a) is =
        let n = then_some w.writer (λ k. slice_get w.actors k) a is in
        (n.0, a, n.2, sym (ap (λ (q : Option Actor). option_map_or (λ (a : Actor). a.doing) q Begun) is) ∙ h)

-- a side of a file has the vhost in the table, or the command that holds the writer has set it
pub by_table : (d : Doing) (c : Option Command) (side : Side) (file vhost : ℕ) (x : Option ℕ)
    → backer_by d c side file x ≡ Some vhost
    → (x ≡ Some vhost) ⊎ (d ≡ Backed file)
by_table (Backed other) (Some (command.Backend v ring asked)) side file vhost x h = go
    (other == file && is_on side ring) refl h
  where
    go : (b : Bool) → (other == file && is_on side ring) ≡ b → (if b then Some v else x) ≡ Some vhost
        → (x ≡ Some vhost) ⊎ (Backed other ≡ Backed file)
    go true e k = inr (ap (λ (n : ℕ). Backed n) (equal other file (both _ _ e).0))
    go false e k = inl k
by_table (Unbacked other) c side file vhost x h = go (other == file && is_rx_side side) h
  where
    go : (b : Bool) → (if b then None else x) ≡ Some vhost → (x ≡ Some vhost) ⊎ (Unbacked other ≡ Backed file)
    go true k = none_some vhost k
    go false k = inl k
by_table (Disowned other) c side file vhost x h = go (other == file && is_rx_side side) h
  where
    go : (b : Bool) → (if b then None else x) ≡ Some vhost → (x ≡ Some vhost) ⊎ (Disowned other ≡ Backed file)
    go true k = none_some vhost k
    go false k = inl k
by_table (Released other) c side file vhost x h = go (other == file && not (is_rx_side side)) h
  where
    go : (b : Bool) → (if b then None else x) ≡ Some vhost → (x ≡ Some vhost) ⊎ (Released other ≡ Backed file)
    go true k = none_some vhost k
    go false k = inl k
by_table d c side file vhost x h = inl h

-- ---- what a command under way is about

abbrev pub IsDeclared : Setup → Doing → Type 0
IsDeclared s d = IfSome (file_in d) (λ file. IsSome (at s.files file))

pub declared_in : (s : Setup) (d : Doing) (file : ℕ) → IsDeclared s d → file_in d ≡ Some file → IsSome (at s.files file)
declared_in s d file h is = subst (λ (o : Option ℕ). IfSome o (λ k. IsSome (at s.files k))) is h

-- the backend of a ring is declared
backend_declared : (s : Setup) (w : World) → NamesWhatIsThere s w → EachVhost w (HasItsBackends s w)
    → (side : Side) (vhost file : ℕ) (v : Vhost)
    → at w.vhosts vhost ≡ Some v → (on_side side v.settings).file ≡ Some file → IsSome (at s.files file)
backend_declared s w names backends side vhost file v is has = ⊎_elim
    (λ tabled. (names.backed side file vhost tabled).0)
    (λ writes.
    let a = writer_is w (Backed file) writes refl in
    declared_in s a.1.doing file (names.doing a.0 a.1 a.2) (ap file_in a.3))
    (by_table (writing w) (commanded w) side file vhost _ ((backends vhost v is side file).0 has))

-- a frame's row is of a declared file
routed_declared : (s : Setup) (w : World) → RowsAreEnabled → steer.IsSound (table s w) → NamesWhatIsThere s w
    → (c : Command) (file epoch len : ℕ)
    → can_be (Routed file epoch len) c ≡ true → FoundIn (table s w) c (Routed file epoch len) → IsSome (at s.files file)
routed_declared s w rows sound names (command.Send device hdr bytes) file epoch len can h =
    let r = rows (table s w) sound device
    (ether_in (sent_front hdr) (sent_bytes hdr bytes)) h.row len h.resizes h.capacity h.selected in
    subst (λ (n : ℕ). IsSome (at s.files n)) h.is_file
    (names.attached h.row.file device (ap home r.enabled))
routed_declared s w rows sound names c file epoch len can h = absurd (true≢false (sym can))

-- wherever a command goes on, the file that it is about is declared
pub goes_declared : (s : Setup) (w : World) (seen v : ℕ) (d e : Doing) (c : Command) → RowsAreEnabled
    → steer.IsSound (table s w) → NamesWhatIsThere s w
    → EachVhost w (HasItsBackends s w) → NamesDeclared s c → IsDeclared s d → can_be e c ≡ true
    → FoundOn s w seen d c v e → IsDeclared s e
goes_declared s w seen v d Begun c rows sound names backends n was can h = tt
goes_declared s w seen v d Changes c rows sound names backends n was can h = tt
goes_declared s w seen v d (Opens file) c rows sound names backends n was can h = named_file s c file n
    (attaches_file file c can)
goes_declared s w seen v d (Opened file) c rows sound names backends n was can h = named_file s c file n
    (attaches_file file c can)
goes_declared s w seen v d (Withdraws file) c rows sound names backends n was can h = named_file s c file n
    (detaches_file file c can)
goes_declared s w seen v d (Withdrawn file version) c rows sound names backends n was can h = named_file s c file n
    (detaches_file file c can)
goes_declared s w seen v d (Purges file version) c rows sound names backends n was can h = named_file s c file n
    (detaches_file file c can)
goes_declared s w seen v d (Doing.Resizes file capacity) c rows sound names backends n was can h =
    named_file s c file n (resizes_to_file file capacity c can)
goes_declared s w seen v d (Shrinks file places cuts) c rows sound names backends n was can h = named_file s c file n
    (resizes_file file c can)
goes_declared s w seen v d (Routed file epoch len) c rows sound names backends n was can h =
    routed_declared s w rows sound names c file epoch len can h.1
goes_declared s w seen v d
    (Placed file place epoch len) c rows sound names backends n was can h = declared_in s d file was (ap file_in h.1)
goes_declared s w seen v d (Reads file room front) c rows sound names backends n was can h = named_file s c file n
    (reads_file file c can)
goes_declared s w seen v d (Hosts file ether learns) c rows sound names backends n was can h = named_file s c file n
    (writes_file file c can)
goes_declared s w seen v d (Learns file ether) c rows sound names backends n was can h = named_file s c file n
    (writes_file file c can)
goes_declared s w seen v d (Backs refusal) c rows sound names backends n was can h = tt
goes_declared s w seen v d (Backed file) c rows sound names backends n was can h = named_file s c file n
    (sets_file file c can)
goes_declared s w seen v d (Owns file version) c rows sound names backends n was can h = named_file s c file n
    (sets_file file c (both _ _ can).0)
goes_declared s w seen v d (Unbacked file) c rows sound names backends n was can h =
    let u = h.1 in
    backend_declared s w names backends Rx u.vhost file u.v u.is_vhost
    (sym (ap (λ (b : Bool). (ring_of b u.v.settings).file) u.side) ∙ u.backend)
goes_declared s w seen v d (Disowned file) c rows sound names backends n was can h = declared_in s d file was
    (ap file_in h.1)
goes_declared s w seen v d (Released file) c rows sound names backends n was can h =
    let u = h.1 in
    backend_declared s w names backends Tx u.vhost file u.v u.is_vhost
    (sym (ap (λ (b : Bool). (ring_of b u.v.settings).file) u.side) ∙ u.backend)
goes_declared s w seen v d (Receives file t) c rows sound names backends n was can h = ⊎_elim
    (λ b. backend_declared s w names backends b.side b.vhost file b.v b.is_vhost b.backend) (declared_in s d file was) h
goes_declared s w seen v d (Transmits file t chains) c rows sound names backends n was can h = ⊎_elim
    (λ b. backend_declared s w names backends b.side b.vhost file b.v b.is_vhost b.backend) (declared_in s d file was) h
goes_declared s w seen v d (Given file t chains f) c rows sound names backends n was can h = declared_in s d file was h
goes_declared s w seen v d (Teaches file t chains f) c rows sound names backends n was can h = declared_in s d file was
    (ap file_in h.2)
