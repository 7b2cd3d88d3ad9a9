-- Rings have the backends that the table says, after each shape of change.
use Rattle.std.proofs.Common.{◌≡◌, ◌≢◌, ◌⊎◌, ℕ, ◌<◌, ◌≤◌, List, length, set, Bool, true, false, Option, Some, None, inl, inr, ⊎_elim, refl, sym, ap, ◌∙◌, subst, true≢false, arith}
use Rattle.std.specs.Prelude.{if◌then◌else◌, ◌==◌, ◌&&◌, ◌↔◌, not}
use Rattle.std.proofs.lemmas.Bool.Decides.{eqb_tells}
use Rattle.std.proofs.lemmas.Bool.{cases_lt}
use Rattle.std.proofs.lemmas.List.{length-set}
use Rattle.guest_mem.specs.Memory.{Contents}
use Rattle.tap_ledger.specs.declared.side.Side.{Side}
use Rattle.tap_ledger.specs.declared.side.Side.TheVariants.{Rx, Tx}
use Rattle.tap_steer.specs.declared.files.Attachment.{Attachment}
use Rattle.tap_steer.specs.declared.files.Attachment.TheVariants.{Disabled, Enabled, Unattached}
use Rattle.tap_steer.specs.declared.files.File as table_files
use Rattle.tap_steer.specs.declared.operation.Op.{Op}
use Rattle.tap_steer.specs.declared.operation.Op.TheVariants as op
use Rattle.tap_steer.specs.declared.operation.TheConstants.{IFF_ATTACH_QUEUE}
use Rattle.tap_steer.specs.Table.{Table, file_at, is_set, new_file}
use Rattle.tap_steer.specs.Rules.{backer}
use Rattle.tap_steer.specs.After.{after, attach_queue, attached_file, back, backed, detach_queue, disabled, enabled, resized, standing}
use Rattle.vhost_dev.specs.Calls as vhost_calls
use Rattle.vhost_dev.specs.Calls.{with_backend, with_features, without_backend}
use Rattle.vhost_dev.specs.Settings.{RingSettings, Settings, ring_at, with_ring}
use Rattle.vhost_queue.specs.Queue.{Queue}
use Rattle.scen_words.specs.declared.command.Command.{Command}
use Rattle.scen_words.specs.declared.command.Command.TheVariants as command
use Rattle.tap_world.specs.ByNumber.{at}
use Rattle.tap_world.specs.Guests.{Vhost, with_queue, with_turn}
use Rattle.tap_world.specs.Setup.{Setup, op_of, place_of}
use Rattle.tap_world.specs.World.{Doing}
use Rattle.tap_world.specs.World.Doing.{Backed, Backs}
use Rattle.tap_world.specs.StepBackend.{side_of}
use Rattle.tap_world.specs.SoundTable.{backer_by, is_on, is_rx_side, on_side}
use Rattle.tap_sound.proofs.Kit.{some_same}
use Rattle.tap_world.specs.StepControl.{Call}
use Rattle.tap_world.specs.ByNumber.{with_at}
use Rattle.tap_sound.proofs.Calls.{Called}
use Rattle.tap_sound.proofs.Calls.Called.{Addr, Base, Features, Num, Untouched}
use Rattle.tap_sound.proofs.Claims.{with_at_inv}
use Rattle.tap_sound.proofs.Turns.{and_false}
use Rattle.tap_sound.proofs.TableFiles.{at_files, back_one, device_same, one_here, one_there, past, resize_one, set_iff_one, shut_by, tick_same}
use Rattle.tap_sound.proofs.Turned.{itself}

-- ---- backers of files after an operation other than Back

abbrev SameBackers : Table → Table → Type 0
SameBackers t u = (side : Side) (n : ℕ) → backer side (file_at u n) ≡ backer side (file_at t n)

pub files_backers : (t u : Table) → u.files ≡ t.files → SameBackers t u
files_backers t u is side n = ap (backer side) (at_files t u is n)

-- a file that changes, or is none of the table
pub here_or_past : (t u : Table) (file : ℕ) (g : table_files.File) → u.files ≡ set t.files file g
    → ((file < length t.files) × (file_at u file ≡ g)) ⊎ ((file_at u file ≡ new_file 0) × (file_at t file ≡ new_file 0) × (length t.files ≤ file))
here_or_past t u file g is = elim (cases_lt file (length t.files)) [
  | inl h ↦ inl (h, one_here t u file g is h)
  | inr h ↦ inr (past u file (subst (λ (m : ℕ). m ≤ file) (sym (ap (λ (fs : List table_files.File). length fs) is ∙ length-set t.files file g)) h), past t file h, h)
]

one_backers : (t u : Table) (file : ℕ) (g : table_files.File) → u.files ≡ set t.files file g → ((side : Side) → backer side g ≡ backer side (file_at t file)) → SameBackers t u
one_backers t u file g is same side n = ⊎_elim
    (λ e. subst (λ (m : ℕ). backer side (file_at u m) ≡ backer side (file_at t m)) e.1 (⊎_elim
    (λ h. ap (backer side) h.1 ∙ same side)
    (λ h. ap (backer side) h.0 ∙ sym (ap (backer side) h.1))
    (here_or_past t u file g is)))
    (λ e. ap (backer side) (one_there t u file g is n (λ h. e.1 (sym h))))
    (eqb_tells file n)

attached_backs : (f : table_files.File) (device : ℕ) (side : Side) → backer side (attached_file f device) ≡ backer side f
attached_backs f device Rx = refl
attached_backs f device Tx = refl

standing_backs : (a : Attachment) (f : table_files.File) (side : Side) → backer side (standing a f) ≡ backer side f
standing_backs a f Rx = refl
standing_backs a f Tx = refl

resized_backs : (capacity : ℕ) (f : table_files.File) (side : Side) → backer side (resized capacity f) ≡ backer side f
resized_backs capacity f Rx = refl
resized_backs capacity f Tx = refl

enabled_backs : (t : Table) (file : ℕ) (a : Attachment) → SameBackers t (enabled a t file)
enabled_backs t file (Disabled device) = one_backers t (enabled (Disabled device) t file) file (attached_file (file_at t file) device) refl (attached_backs (file_at t file) device)
enabled_backs t file (Enabled device) = files_backers t t refl
enabled_backs t file Unattached = files_backers t t refl

disabled_backs : (t : Table) (file : ℕ) (a : Attachment) → SameBackers t (disabled a t file)
disabled_backs t file (Enabled device) = one_backers t (disabled (Enabled device) t file) file (standing (Disabled device) (file_at t file)) refl (standing_backs (Disabled device) (file_at t file))
disabled_backs t file (Disabled device) = files_backers t t refl
disabled_backs t file Unattached = files_backers t t refl

attach_backs : (t : Table) (file : ℕ) → SameBackers t (attach_queue t file)
unfolding attach_queue
attach_backs t file = enabled_backs t file (file_at t file).attachment

detach_backs : (t : Table) (file : ℕ) → SameBackers t (detach_queue t file)
unfolding detach_queue
detach_backs t file = disabled_backs t file (file_at t file).attachment

queue_backs : (t : Table) (file : ℕ) (b : Bool) → SameBackers t (if b then attach_queue t file else detach_queue t file)
queue_backs t file true = attach_backs t file
queue_backs t file false = detach_backs t file

pub op_backs : (s : Setup) (c : Command) (x : Op) (t : Table) → op_of s c ≡ Some x → SameBackers t (after t x)
op_backs s (command.SetIff file name flags) x t of = subst (λ (y : Op). SameBackers t (after t y)) (some_same _ x of)
    (one_backers t (after t (op.SetIff file name flags)) file (attached_file (file_at t file) name) (set_iff_one t file name flags) (attached_backs (file_at t file) name))
op_backs s (command.SetQueue file flags) x t of = subst (λ (y : Op). SameBackers t (after t y)) (some_same _ x of) (queue_backs t file (is_set flags IFF_ATTACH_QUEUE))
op_backs s (command.Close file) x t of = subst (λ (y : Op). SameBackers t (after t y)) (some_same _ x of) (⊎_elim
    (λ is. files_backers t (after t (op.Shut file)) is) (λ is. one_backers t (after t (op.Shut file)) file (standing Unattached (file_at t file)) is (standing_backs Unattached (file_at t file))) (shut_by t file))
op_backs s (command.Persist file on) x t of = subst (λ (y : Op). SameBackers t (after t y)) (some_same _ x of) (files_backers t (after t (op.Persist file on)) (device_same t file _))
op_backs s (command.HdrSize file size) x t of = subst (λ (y : Op). SameBackers t (after t y)) (some_same _ x of) (files_backers t (after t (op.HdrSize file size)) (device_same t file _))
op_backs s (command.Steer file program) x t of = subst (λ (y : Op). SameBackers t (after t y)) (some_same _ x of) (files_backers t (after t (op.Steering file (place_of s program))) (device_same t file _))
op_backs s (command.Filter file program) x t of = subst (λ (y : Op). SameBackers t (after t y)) (some_same _ x of) (files_backers t (after t (op.Filter file (place_of s program))) (device_same t file _))
op_backs s (command.Tick time) x t of = subst (λ (y : Op). SameBackers t (after t y)) (some_same _ x of) (files_backers t (after t (op.Tick time)) (tick_same t time))
op_backs s (command.Resize file capacity) x t of = subst (λ (y : Op). SameBackers t (after t y)) (some_same _ x of)
    (one_backers t (after t (op.Resize file capacity)) file (resized capacity (file_at t file)) (resize_one t file capacity) (resized_backs capacity (file_at t file)))
op_backs s c x t of = absurd (cc (of))

-- ---- and after Back

back_here : (side q : Side) (vhost : Option ℕ) (f : table_files.File) → backer q (backed side vhost f) ≡ (if is_on q (if is_rx_side side then 0 else 1) then vhost else backer q f)
back_here Rx Rx vhost f = refl
back_here Rx Tx vhost f = refl
back_here Tx Rx vhost f = refl
back_here Tx Tx vhost f = refl

side_on : (q : Side) (ring : ℕ) → is_on q (if is_rx_side (side_of ring) then 0 else 1) ≡ is_on q ring
side_on Rx ring = go (ring == 0)
  where
    go : (b : Bool) → (if is_rx_side (if b then Rx else Tx) then 0 else 1) == 0 ≡ b
    go true = refl
    go false = refl
side_on Tx ring = go (ring == 0)
  where
    go : (b : Bool) → not ((if is_rx_side (if b then Rx else Tx) then 0 else 1) == 0) ≡ not b
    go true = refl
    go false = refl

-- a side of a file of the table is set or unset
pub back_backs : (t : Table) (file ring : ℕ) (vhost : Option ℕ) → (file < length t.files) ⊎ (vhost ≡ None) → (q : Side) (n : ℕ)
    → backer q (file_at (back t file (side_of ring) vhost) n) ≡ (if file == n && is_on q ring then vhost else backer q (file_at t n))
back_backs t file ring vhost there q n = ⊎_elim
    (λ e. subst (λ (m : ℕ). backer q (file_at (back t file (side_of ring) vhost) m) ≡ (if file == m && is_on q ring then vhost else backer q (file_at t m))) e.1
    (⊎_elim
    (λ h. ap (backer q) h.1 ∙ back_here (side_of ring) q vhost (file_at t file)
    ∙ ap (λ (b : Bool). if b then vhost else backer q (file_at t file)) (side_on q ring ∙ sym (ap (λ (b : Bool). b && is_on q ring) (itself file))))
    (λ h. ap (backer q) h.0 ∙ none_past q ∙ sym (ap (λ (f : table_files.File). if file == file && is_on q ring then vhost else backer q f) h.1 ∙ outside h.2 there (file == file && is_on q ring)))
    (here_or_past t (back t file (side_of ring) vhost) file _ (back_one t file (side_of ring) vhost))))
    (λ e. ap (backer q) (one_there t (back t file (side_of ring) vhost) file _ (back_one t file (side_of ring) vhost) n (λ h. e.1 (sym h)))
    ∙ sym (ap (λ (b : Bool). if b && is_on q ring then vhost else backer q (file_at t n)) e.0))
    (eqb_tells file n)
  where
    none_past : (side : Side) → backer side (new_file 0) ≡ None
    none_past Rx = refl
    none_past Tx = refl

    outside : length t.files ≤ file → (file < length t.files) ⊎ (vhost ≡ None) → (b : Bool) → (if b then vhost else backer q (new_file 0)) ≡ None
    outside far (inl near) b = absurd (omega (arith, far, near))
    outside far (inr none) true = none
    outside far (inr none) false = none_past q

-- ---- rings

abbrev pub SameFiles : Vhost → Vhost → Type 0
SameFiles v new = (q : Side) → (on_side q new.settings).file ≡ (on_side q v.settings).file

-- a ring with another in its place that has the same backend
ring_files : (s : Settings) (b : Bool) (r : RingSettings) → r.file ≡ (if b then s.rx else s.tx).file → (q : Side) → (on_side q (with_ring b r s)).file ≡ (on_side q s).file
ring_files s true r same Rx = same
ring_files s true r same Tx = refl
ring_files s false r same Rx = refl
ring_files s false r same Tx = same

pub queue_files : (ring : ℕ) (o : Option ℕ) (x : Queue) (v : Vhost) → SameFiles v (with_turn ring o (with_queue ring x v))
queue_files ring o x v = go (ring == 0)
  where
    go : (b : Bool) → (q : Side) → (on_side q (if b then record v { settings = with_ring b (record (if b then v.settings.rx else v.settings.tx) { queue = x }) v.settings; rx_turn = o }
        else record v { settings = with_ring b (record (if b then v.settings.rx else v.settings.tx) { queue = x }) v.settings; tx_turn = o }).settings).file ≡ (on_side q v.settings).file
    go true Rx = refl
    go true Tx = refl
    go false Rx = refl
    go false Tx = refl

pub turn_files : (ring : ℕ) (o : Option ℕ) (v : Vhost) → SameFiles v (with_turn ring o v)
turn_files ring o v = go (ring == 0)
  where
    go : (b : Bool) → (q : Side) → (on_side q (if b then record v { rx_turn = o } else record v { tx_turn = o }).settings).file ≡ (on_side q v.settings).file
    go true q = refl
    go false q = refl

features_files : (bits : ℕ) (s : Settings) (q : Side) → (on_side q (with_features bits s)).file ≡ (on_side q s).file
features_files bits s Rx = refl
features_files bits s Tx = refl

pub call_files : (c : Command) (v : Vhost) (m : Contents) (x : Call) → Called c v m x → SameFiles v x.vhost
call_files c v m x (Untouched s g a b) q = ap (λ (k : Settings). (on_side q k).file) s
call_files c v m x (Features vhost bits is no_ same) q = ap (λ (k : Vhost). (on_side q k.settings).file) same ∙ features_files bits v.settings q
call_files c v m x (Num vhost ring n is no_ same) q =
    ap (λ (k : Vhost). (on_side q k.settings).file) same ∙ ring_files v.settings (ring == 0) (vhost_calls.resized n (ring_at ring v.settings)) refl q
call_files c v m x (Base vhost ring n is no_ same) q =
    ap (λ (k : Vhost). (on_side q k.settings).file) same ∙ ring_files v.settings (ring == 0) (vhost_calls.begun n (ring_at ring v.settings)) refl q
call_files c v m x (Addr vhost ring desc avail used is no_ same) q =
    ap (λ (k : Vhost). (on_side q k.settings).file) same ∙ ring_files v.settings (ring == 0) (vhost_calls.placed desc avail used (ring_at ring v.settings)) refl q

-- ---- vhosts and the table

abbrev pub Vhosts : Type 0
Vhosts = List (Option Vhost)

abbrev pub HaveBackends : Doing → Option Command → Table → Vhosts → Type 0
HaveBackends d c t vhosts =
    (vhost : ℕ) (v : Vhost) → at vhosts vhost ≡ Some v → (q : Side) (n : ℕ)
    → ((on_side q v.settings).file ≡ Some n) ↔ (backer_by d c q n (backer q (file_at t n)) ≡ Some vhost)

abbrev pub FromOld : Vhosts → Vhosts → Type 0
FromOld vhosts after_ = (n : ℕ) (new : Vhost) → at after_ n ≡ Some new → (v : Vhost) × (at vhosts n ≡ Some v) × SameFiles v new

pub one_vhost : (vhost : ℕ) (v new : Vhost) (vhosts : Vhosts) → at vhosts vhost ≡ Some v → SameFiles v new → FromOld vhosts (with_at vhost new vhosts)
one_vhost vhost v new vhosts at_ same n it e = ⊎_elim
    (λ here. (v, ap (at vhosts) (sym here.0) ∙ at_, (λ q. ap (λ (k : Vhost). (on_side q k.settings).file) (sym here.1) ∙ same q)))
    (λ there. (it, there.1, (λ q. refl)))
    (with_at_inv vhost new vhosts n it e)

pub no_vhost : (vhosts : Vhosts) → FromOld vhosts vhosts
no_vhost vhosts n new e = (new, e, (λ q. refl))

pub same_backs : (d e : Doing) (c k : Option Command) (t u : Table) (vhosts after_ : Vhosts) → FromOld vhosts after_
    → ((q : Side) (n : ℕ) → backer_by e k q n (backer q (file_at u n)) ≡ backer_by d c q n (backer q (file_at t n))) → HaveBackends d c t vhosts → HaveBackends e k u after_
same_backs d e c k t u vhosts after_ from same h vhost new at_ q n =
    let v = from vhost new at_ in
    let old = h vhost v.0 v.1 q n in
    ((λ is. same q n ∙ old.0 (sym (v.2 q) ∙ is)), (λ is. v.2 q ∙ old.1 (sym (same q n) ∙ is)))

-- ---- a backend is set or unset

iff_by : (a b x y : Option ℕ) (n m : ℕ) → a ≡ x → b ≡ y → ((x ≡ Some n) ↔ (y ≡ Some m)) → (a ≡ Some n) ↔ (b ≡ Some m)
iff_by a b x y n m p q h = ((λ e. q ∙ h.0 (sym p ∙ e)), (λ e. p ∙ h.1 (sym q ∙ e)))

on_set : (q : Side) (ring file : ℕ) (m : Contents) (s : Settings) → (on_side q (with_backend ring file m s)).file ≡ (if is_on q ring then Some file else (on_side q s).file)
on_set Rx ring file m s = go (ring == 0)
  where
    go : (b : Bool) → (with_ring b (vhost_calls.backed file m (if b then s.rx else s.tx)) s).rx.file ≡ (if b then Some file else s.rx.file)
    go true = refl
    go false = refl
on_set Tx ring file m s = go (ring == 0)
  where
    go : (b : Bool) → (with_ring b (vhost_calls.backed file m (if b then s.rx else s.tx)) s).tx.file ≡ (if not b then Some file else s.tx.file)
    go true = refl
    go false = refl

on_unset : (q : Side) (ring : ℕ) (s : Settings) → (on_side q (without_backend ring s)).file ≡ (if is_on q ring then None else (on_side q s).file)
on_unset Rx ring s = go (ring == 0)
  where
    go : (b : Bool) → (with_ring b (vhost_calls.unbacked (if b then s.rx else s.tx)) s).rx.file ≡ (if b then None else s.rx.file)
    go true = refl
    go false = refl
on_unset Tx ring s = go (ring == 0)
  where
    go : (b : Bool) → (with_ring b (vhost_calls.unbacked (if b then s.rx else s.tx)) s).tx.file ≡ (if not b then None else s.tx.file)
    go true = refl
    go false = refl

false_of : (b : Bool) → not b ≡ true → b ≡ false
false_of true e = absurd (true≢false (sym e))
false_of false e = refl

on_ring : (q : Side) (ring : ℕ) (s : Settings) → is_on q ring ≡ true → (on_side q s).file ≡ (ring_at ring s).file
on_ring Rx ring s is = sym (ap (λ (b : Bool). (if b then s.rx else s.tx).file) is)
on_ring Tx ring s is = sym (ap (λ (b : Bool). (if b then s.rx else s.tx).file) (false_of (ring == 0) is))

side_is : (q : Side) (ring : ℕ) → is_on q ring ≡ true → side_of ring ≡ q
side_is Rx ring is = ap (λ (b : Bool). if b then Rx else Tx) is
side_is Tx ring is = ap (λ (b : Bool). if b then Rx else Tx) (false_of (ring == 0) is)

no_some : (n m : ℕ) → n ≢ m → Some n ≡ Some m → ⊥
no_some n m no_ e = no_ (some_same n m e)

not_none : (n : ℕ) (o : Option ℕ) → o ≡ None → o ≡ Some n → ⊥
not_none n o a b = cc (a, b)

pub set_backs : (vhost ring file : ℕ) (v : Vhost) (m : Contents) (t : Table) (vhosts : Vhosts) → at vhosts vhost ≡ Some v → (ring_at ring v.settings).file ≡ None
    → backer (side_of ring) (file_at t file) ≡ None → HaveBackends (Backs None) (Some (command.Backend vhost ring (Some file))) t vhosts
    → HaveBackends (Backed file) (Some (command.Backend vhost ring (Some file))) t (with_at vhost (record v { settings = with_backend ring file m v.settings }) vhosts)
set_backs vhost ring file v m t vhosts at_ none free h number new is q n = go (is_on q ring) refl (eqb_tells file n)
  where
    B : Option ℕ
    B = backer q (file_at t n)

    place : ((vhost ≡ number) × (record v { settings = with_backend ring file m v.settings } ≡ new)) ⊎ ((vhost ≢ number) × (at vhosts number ≡ Some new))
    place = with_at_inv vhost (record v { settings = with_backend ring file m v.settings }) vhosts number new is

    new_file_is : (b : Bool) → is_on q ring ≡ b → record v { settings = with_backend ring file m v.settings } ≡ new → (on_side q new.settings).file ≡ (if b then Some file else (on_side q v.settings).file)
    new_file_is b on same = ap (λ (k : Vhost). (on_side q k.settings).file) (sym same) ∙ on_set q ring file m v.settings ∙ ap (λ (c : Bool). if c then Some file else (on_side q v.settings).file) on

    old_v : vhost ≡ number → ((on_side q v.settings).file ≡ Some n) ↔ (B ≡ Some number)
    old_v same = h number v (ap (at vhosts) (sym same) ∙ at_) q n

    go : (b : Bool) → is_on q ring ≡ b → (((file == n) ≡ true) × (file ≡ n)) ⊎ (((file == n) ≡ false) × (file ≢ n))
        → ((on_side q new.settings).file ≡ Some n) ↔ ((if file == n && is_on q ring then Some vhost else B) ≡ Some number)
    go false on cases =
        let right : (if file == n && is_on q ring then Some vhost else B) ≡ B =
        ap (λ (b : Bool). if file == n && b then Some vhost else B) on ∙ ap (λ (b : Bool). if b then Some vhost else B) (and_false (file == n)) in
        ⊎_elim
        (λ here. iff_by (on_side q new.settings).file (if file == n && is_on q ring then Some vhost else B) (on_side q v.settings).file B n number (new_file_is false on here.1) right (old_v here.0))
        (λ there. iff_by (on_side q new.settings).file (if file == n && is_on q ring then Some vhost else B) (on_side q new.settings).file B n number refl right (h number new there.1 q n))
        place
    go true on (inl eq) =
        let right : (if file == n && is_on q ring then Some vhost else B) ≡ Some vhost =
        ap (λ (b : Bool). if b && is_on q ring then Some vhost else B) eq.0 ∙ ap (λ (b : Bool). if b then Some vhost else B) on in
        let nothing : B ≡ None = ap (λ (k : Side). backer k (file_at t n)) (sym (side_is q ring on)) ∙ ap (λ (k : ℕ). backer (side_of ring) (file_at t k)) (sym eq.1) ∙ free in
        ⊎_elim
        (λ here. ((λ e. right ∙ ap (λ (k : ℕ). Some k) here.0), (λ e. new_file_is true on here.1 ∙ ap (λ (k : ℕ). Some k) eq.1)))
        (λ there. (
          (λ e. absurd (not_none number B nothing ((h number new there.1 q n).0 e))),
          (λ e. absurd (no_some vhost number there.0 (sym right ∙ e))),
        ))
        place
    go true on (inr apart) =
        let right : (if file == n && is_on q ring then Some vhost else B) ≡ B = ap (λ (b : Bool). if b && is_on q ring then Some vhost else B) apart.0 in
        ⊎_elim
        (λ here. (
          (λ e. absurd (no_some file n apart.1 (sym (new_file_is true on here.1) ∙ e))),
          (λ e. absurd (not_none n (on_side q v.settings).file (on_ring q ring v.settings on ∙ none) ((old_v here.0).1 (sym right ∙ e)))),
        ))
        (λ there. iff_by (on_side q new.settings).file (if file == n && is_on q ring then Some vhost else B) (on_side q new.settings).file B n number refl right (h number new there.1 q n))
        place

-- of the side of the ring
pub unset_backs : (d : Doing) (c k : Option Command) (vhost ring file : ℕ) (v : Vhost) (t : Table) (vhosts : Vhosts) → at vhosts vhost ≡ Some v → (ring_at ring v.settings).file ≡ Some file
    → ((q : Side) (n : ℕ) (o : Option ℕ) → backer_by d k q n o ≡ (if file == n && is_on q ring then None else o)) → HaveBackends (Backs None) c t vhosts
    → HaveBackends d k t (with_at vhost (record v { settings = without_backend ring v.settings }) vhosts)
unset_backs d c k vhost ring file v t vhosts at_ some by h number new is q n = go (is_on q ring) refl (eqb_tells file n)
  where
    B : Option ℕ
    B = backer q (file_at t n)

    place : ((vhost ≡ number) × (record v { settings = without_backend ring v.settings } ≡ new)) ⊎ ((vhost ≢ number) × (at vhosts number ≡ Some new))
    place = with_at_inv vhost (record v { settings = without_backend ring v.settings }) vhosts number new is

    new_file_is : (b : Bool) → is_on q ring ≡ b → record v { settings = without_backend ring v.settings } ≡ new → (on_side q new.settings).file ≡ (if b then None else (on_side q v.settings).file)
    new_file_is b on same = ap (λ (k : Vhost). (on_side q k.settings).file) (sym same) ∙ on_unset q ring v.settings ∙ ap (λ (c : Bool). if c then None else (on_side q v.settings).file) on

    old_v : vhost ≡ number → ((on_side q v.settings).file ≡ Some n) ↔ (B ≡ Some number)
    old_v same = h number v (ap (at vhosts) (sym same) ∙ at_) q n

    go : (b : Bool) → is_on q ring ≡ b → (((file == n) ≡ true) × (file ≡ n)) ⊎ (((file == n) ≡ false) × (file ≢ n))
        → ((on_side q new.settings).file ≡ Some n) ↔ (backer_by d k q n B ≡ Some number)
    go false on cases =
        let right : backer_by d k q n B ≡ B =
        by q n B ∙ ap (λ (b : Bool). if file == n && b then None else B) on ∙ ap (λ (b : Bool). if b then None else B) (and_false (file == n)) in
        ⊎_elim
        (λ here. iff_by (on_side q new.settings).file (backer_by d k q n B) (on_side q v.settings).file B n number (new_file_is false on here.1) right (old_v here.0))
        (λ there. iff_by (on_side q new.settings).file (backer_by d k q n B) (on_side q new.settings).file B n number refl right (h number new there.1 q n))
        place
    go true on (inl eq) =
        let right : backer_by d k q n B ≡ None =
        by q n B ∙ ap (λ (b : Bool). if b && is_on q ring then None else B) eq.0 ∙ ap (λ (b : Bool). if b then None else B) on in
        let mine : (on_side q v.settings).file ≡ Some n = on_ring q ring v.settings on ∙ some ∙ ap (λ (k : ℕ). Some k) eq.1 in
        ⊎_elim
        (λ here. ((λ e. absurd (not_none n (on_side q new.settings).file (new_file_is true on here.1) e)), (λ e. absurd (not_none number (backer_by d k q n B) right e))))
        (λ there. (
          (λ e. absurd (no_some vhost number there.0 (sym ((h vhost v at_ q n).0 mine) ∙ (h number new there.1 q n).0 e))),
          (λ e. absurd (not_none number (backer_by d k q n B) right e)),
        ))
        place
    go true on (inr apart) =
        let right : backer_by d k q n B ≡ B = by q n B ∙ ap (λ (b : Bool). if b && is_on q ring then None else B) apart.0 in
        ⊎_elim
        (λ here. (
          (λ e. absurd (not_none n (on_side q new.settings).file (new_file_is true on here.1) e)),
          (λ e. absurd (no_some file n apart.1 (sym (on_ring q ring v.settings on ∙ some) ∙ (old_v here.0).1 (sym right ∙ e)))),
        ))
        (λ there. iff_by (on_side q new.settings).file (backer_by d k q n B) (on_side q new.settings).file B n number refl right (h number new there.1 q n))
        place
