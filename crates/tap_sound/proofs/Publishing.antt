-- Files have of the table what they should, after each publication.
use Rattle.std.proofs.Common.{◌≡◌, ◌≢◌, ◌⊎◌, ℕ, ◌+◌, ◌<◌, List, length, set, Bool, true, false, Option, Some, None, inl, inr, ⊎_elim, refl, sym, ap, ◌∙◌, subst, true≢false}
use Rattle.std.specs.Prelude.{if◌then◌else◌, ◌==◌, not}
use Rattle.std.proofs.lemmas.Bool.Decides.{eqb_tells}
use Rattle.std.proofs.lemmas.List.{length-set}
use Rattle.tap_ledger.specs.declared.side.Side.{Side}
use Rattle.tap_ledger.specs.declared.side.Side.TheVariants.{Rx, Tx}
use Rattle.tap_steer.specs.declared.files.Attachment.{Attachment}
use Rattle.tap_steer.specs.declared.files.Attachment.TheVariants.{Disabled, Unattached}
use Rattle.tap_steer.specs.declared.files.File as table_files
use Rattle.tap_steer.specs.declared.operation.Op.{Op}
use Rattle.tap_steer.specs.declared.operation.Op.TheVariants as op
use Rattle.tap_steer.specs.declared.operation.TheConstants.{IFF_ATTACH_QUEUE}
use Rattle.tap_steer.specs.Table.{Table, file_at, is_set}
use Rattle.tap_steer.specs.Rules.{backer, refuse}
use Rattle.tap_steer.specs.After.{after, attach_queue, attached_file, back, backed, detach_queue, resize, resized, set_iff, shut, standing}
use Rattle.scen_words.specs.declared.command.Command.{Command}
use Rattle.scen_words.specs.declared.command.Command.TheVariants as command
use Rattle.tap_world.specs.Setup.{Setup, op_of}
use Rattle.tap_world.specs.World.{Doing}
use Rattle.tap_world.specs.World.Doing.{Backed, Begun, Changes, Disowned, Opened, Owns, Released, Shrinks, Withdrawn, Withdraws}
use Rattle.tap_world.specs.StepTable.{is_enabled}
use Rattle.tap_world.specs.StepBackend.{side_of}
use Rattle.tap_world.specs.SoundActors.{can_be}
use Rattle.tap_world.specs.SoundTable.{Agreed, IsAsFound, expected, of_table}
use Rattle.tap_sound.proofs.Kit.{some_same}
use Rattle.tap_sound.proofs.Agreeing.{Files, Fits, agreed_of}
use Rattle.tap_sound.proofs.Shapes.{IsLast}
use Rattle.tap_sound.proofs.TableFiles.{at_files, attach_finds, attach_one, back_one, detach_one, device_same, enabled_is, enabled_there, one_here, one_there, resize_one, set_iff_one, shut_by, shut_one, tick_same}
use Rattle.tap_sound.proofs.Taken.{both}
use Rattle.tap_sound.proofs.Turned.{itself, others}

pub equal : (a b : ℕ) → (a == b) ≡ true → a ≡ b
equal a b e = ⊎_elim (λ t. t.1) (λ t. absurd (true≢false (sym e ∙ t.0))) (eqb_tells a b)

not_set : (b : Bool) → not b ≡ true → b ≡ false
not_set true e = absurd (true≢false (sym e))
not_set false e = refl

-- ---- a publication that changes no file of the table, or one

pub none_published : (d e : Doing) (c k : Option Command) (t u : Table) (files : Files) → u.files ≡ t.files → ((n : ℕ) (x : Agreed) → expected e k n x ≡ expected d c n x)
    → IsAsFound e k u → Fits d c t files → Fits e k u files
none_published d e c k t u files is same found h = record {
  agrees = λ n f at_. h.agrees n f at_ ∙ sym (same n (of_table t n)) ∙ ap (λ (g : table_files.File). expected e k n (agreed_of g)) (sym (at_files t u is n));
  known = λ n f at_. subst (λ (m : ℕ). n < m) (sym (ap (λ (fs : List table_files.File). length fs) is)) (h.known n f at_);
  found = found;
}

pub one_published : (d e : Doing) (c k : Option Command) (t u : Table) (file : ℕ) (g : table_files.File) (files : Files) → u.files ≡ set t.files file g
    → length u.files ≡ length t.files → expected e k file (agreed_of g) ≡ expected d c file (of_table t file)
    → ((n : ℕ) (x : Agreed) → file ≢ n → expected e k n x ≡ expected d c n x) → IsAsFound e k u → Fits d c t files → Fits e k u files
one_published d e c k t u file g files is many here there found h = record {
  agrees = λ n f at_. ⊎_elim
      (λ no_. h.agrees n f at_ ∙ sym (there n (of_table t n) no_)
      ∙ ap (λ (x : table_files.File). expected e k n (agreed_of x)) (sym (one_there t u file g is n (λ q. no_ (sym q)))))
      (λ it. h.agrees n f at_ ∙ subst (λ (m : ℕ). expected d c m (of_table t m) ≡ expected e k m (agreed_of g)) it (sym here)
      ∙ ap (λ (x : table_files.File). expected e k n (agreed_of x))
      (sym (subst (λ (m : ℕ). file_at u m ≡ g) it (one_here t u file g is (subst (λ (m : ℕ). m < length t.files) (sym it) (h.known n f at_))))))
      (apart file n);
  known = λ n f at_. subst (λ (m : ℕ). n < m) (sym many) (h.known n f at_);
  found = found;
}
  where
    apart : (a b : ℕ) → (a ≢ b) ⊎ (a ≡ b)
    apart a b = ⊎_elim (λ t. inr t.1) (λ t. inl t.1) (eqb_tells a b)

many_set : (t u : Table) (file : ℕ) (g : table_files.File) → u.files ≡ set t.files file g → length u.files ≡ length t.files
many_set t u file g is = ap (λ (fs : List table_files.File). length fs) is ∙ length-set t.files file g

-- ---- operations that end a command

closed : (t : Table) (file : ℕ) (files : Files) → Fits Changes (Some (command.Close file)) t files → Fits Begun None (shut t file) files
closed t file files h = ⊎_elim
    (λ is. none_published Changes Begun (Some (command.Close file)) None t (shut t file) files is (λ n x. refl) tt h)
    (λ is. one_published Changes Begun (Some (command.Close file)) None t (shut t file) file (standing Unattached (file_at t file)) files is
    (many_set t (shut t file) file (standing Unattached (file_at t file)) is) (ap (λ (b : Bool). record (of_table t file) { shut = not b }) (sym h.found)) (λ n x no_. refl) tt h)
    (shut_by t file)

set_same : (t u : Table) (c : Command) (files : Files) → u.files ≡ t.files → Fits Changes (Some c) t files → Fits Begun None u files
set_same t u c files is h = none_published Changes Begun (Some c) None t u files is (λ n x. refl) tt h

changed_alone : (s : Setup) (c : Command) (x : Op) (t : Table) (files : Files) → can_be Changes c ≡ true → op_of s c ≡ Some x → Fits Changes (Some c) t files → Fits Begun None (after t x) files
changed_alone s (command.Close file) x t files can of h = subst (λ (y : Op). Fits Begun None (after t y) files) (some_same _ x of) (closed t file files h)
changed_alone s (command.Persist file on) x t files can of h =
    subst (λ (y : Op). Fits Begun None (after t y) files) (some_same _ x of) (set_same t _ (command.Persist file on) files (device_same t file _) h)
changed_alone s (command.HdrSize file size) x t files can of h =
    subst (λ (y : Op). Fits Begun None (after t y) files) (some_same _ x of) (set_same t _ (command.HdrSize file size) files (device_same t file _) h)
changed_alone s (command.Steer file program) x t files can of h =
    subst (λ (y : Op). Fits Begun None (after t y) files) (some_same _ x of) (set_same t _ (command.Steer file program) files (device_same t file _) h)
changed_alone s (command.Filter file program) x t files can of h =
    subst (λ (y : Op). Fits Begun None (after t y) files) (some_same _ x of) (set_same t _ (command.Filter file program) files (device_same t file _) h)
changed_alone s (command.Tick time) x t files can of h =
    subst (λ (y : Op). Fits Begun None (after t y) files) (some_same _ x of) (set_same t _ (command.Tick time) files (tick_same t time) h)
changed_alone s c x t files can of h = absurd (true≢false (sym can))

-- an attach ends: the epoch of its file is what the gate has
attached : (t u : Table) (file device : ℕ) (c : Command) (files : Files) → u.files ≡ set t.files file (attached_file (file_at t file) device)
    → Fits (Opened file) (Some c) t files → Fits Begun None u files
attached t u file device c files is h = one_published (Opened file) Begun (Some c) None t u file (attached_file (file_at t file) device) files is
    (many_set t u file (attached_file (file_at t file) device) is)
    (sym (ap (λ (b : Bool). if b then record (of_table t file) { epoch = (of_table t file).epoch + 1; shut = false } else of_table t file) (itself file)))
    (λ n x no_. sym (ap (λ (b : Bool). if b then record x { epoch = x.epoch + 1; shut = false } else x) (others file n no_))) tt h

opened : (s : Setup) (file : ℕ) (c : Command) (x : Op) (t : Table) (files : Files) → can_be (Opened file) c ≡ true → op_of s c ≡ Some x → refuse t x ≡ None
    → Fits (Opened file) (Some c) t files → Fits Begun None (after t x) files
opened s file (command.SetIff other name flags) x t files can of no_ h =
    subst (λ (y : Op). Fits Begun None (after t y) files) (some_same _ x of)
    (attached t (set_iff t other name flags) other name (command.SetIff other name flags) files (set_iff_one t other name flags)
    (subst (λ (m : ℕ). Fits (Opened m) (Some (command.SetIff other name flags)) t files) (sym (equal other file can)) h))
opened s file (command.SetQueue other flags) x t files can of no_ h =
    let b = both (other == file) (is_set flags IFF_ATTACH_QUEUE) can in
    let lawful : refuse t (op.SetQueue other flags) ≡ None = subst (λ (y : Op). refuse t y ≡ None) (sym (some_same _ x of)) no_ in
    let device = attach_finds t other flags lawful b.1 in
    subst (λ (y : Op). Fits Begun None (after t y) files) (some_same _ x of)
    (subst (λ (q : Bool). Fits Begun None (if q then attach_queue t other else detach_queue t other) files) (sym b.1)
    (attached t (attach_queue t other) other device.0 (command.SetQueue other flags) files (attach_one t other device.0 device.1)
    (subst (λ (m : ℕ). Fits (Opened m) (Some (command.SetQueue other flags)) t files) (sym (equal other file b.0)) h)))
opened s file c x t files can of no_ h = absurd (true≢false (sym can))

shrunk : (s : Setup) (file n m : ℕ) (c : Command) (x : Op) (t : Table) (files : Files) → can_be (Shrinks file n m) c ≡ true → op_of s c ≡ Some x
    → Fits (Shrinks file n m) (Some c) t files → Fits Begun None (after t x) files
shrunk s file n m (command.Resize other capacity) x t files can of h =
    subst (λ (y : Op). Fits Begun None (after t y) files) (some_same _ x of)
    (one_published (Shrinks other n m) Begun (Some (command.Resize other capacity)) None t (resize t other capacity) other (resized capacity (file_at t other)) files
    (resize_one t other capacity) (many_set t (resize t other capacity) other (resized capacity (file_at t other)) (resize_one t other capacity))
    (sym (ap (λ (b : Bool). if b then record (of_table t other) { capacity = capacity; resizes = (of_table t other).resizes + 1 } else of_table t other) (itself other)))
    (λ k y no_. sym (ap (λ (b : Bool). if b then record y { capacity = capacity; resizes = y.resizes + 1 } else y) (others other k no_))) tt
    (subst (λ (k : ℕ). Fits (Shrinks k n m) (Some (command.Resize other capacity)) t files) (sym (equal other file can)) h))
shrunk s file n m c x t files can of h = absurd (true≢false (sym can))

pub publishing : (s : Setup) (d : Doing) (c : Command) (x : Op) (t : Table) (files : Files) → IsLast d → can_be d c ≡ true → op_of s c ≡ Some x → refuse t x ≡ None
    → Fits d (Some c) t files → Fits Begun None (after t x) files
publishing s Changes c x t files last can of no_ h = changed_alone s c x t files can of h
publishing s (Opened file) c x t files last can of no_ h = opened s file c x t files can of no_ h
publishing s (Shrinks file n m) c x t files last can of no_ h = shrunk s file n m c x t files can of h
publishing s d c x t files last can of no_ h = absurd last

-- ---- a detach publishes: its file isn't enabled any more, and its gate is open

detached : (t u : Table) (file version : ℕ) (a : Attachment) (c : Command) (files : Files) → is_enabled a ≡ false → u.files ≡ set t.files file (standing a (file_at t file))
    → Fits (Withdraws file) (Some c) t files → Fits (Withdrawn file version) (Some c) u files
detached t u file version a c files off is h =
    one_published (Withdraws file) (Withdrawn file version) (Some c) (Some c) t u file (standing a (file_at t file)) files is
    (many_set t u file (standing a (file_at t file)) is)
    (ap (λ (b : Bool). if b then record (of_table t file) { shut = false } else agreed_of (standing a (file_at t file))) (itself file)
    ∙ ap (λ (b : Bool). record (of_table t file) { shut = not b }) (sym h.found))
    (λ n x no_. ap (λ (b : Bool). if b then record x { shut = false } else x) (others file n no_))
    (ap (λ (f : table_files.File). is_enabled f.attachment) (one_here t u file (standing a (file_at t file)) is (enabled_there t file h.found)) ∙ off) h

pub withdrawing : (s : Setup) (file version : ℕ) (c : Command) (x : Op) (t : Table) (files : Files) → can_be (Withdraws file) c ≡ true → op_of s c ≡ Some x
    → Fits (Withdraws file) (Some c) t files → Fits (Withdrawn file version) (Some c) (after t x) files
withdrawing s file version (command.SetQueue other flags) x t files can of h =
    let b = both (other == file) (not (is_set flags IFF_ATTACH_QUEUE)) can in
    let was : Fits (Withdraws other) (Some (command.SetQueue other flags)) t files =
    subst (λ (m : ℕ). Fits (Withdraws m) (Some (command.SetQueue other flags)) t files) (sym (equal other file b.0)) h in
    let device = enabled_is (file_at t other).attachment was.found in
    subst (λ (m : ℕ). Fits (Withdrawn m version) (Some (command.SetQueue other flags)) (after t x) files) (equal other file b.0)
    (subst (λ (y : Op). Fits (Withdrawn other version) (Some (command.SetQueue other flags)) (after t y) files) (some_same _ x of)
    (subst (λ (q : Bool). Fits (Withdrawn other version) (Some (command.SetQueue other flags)) (if q then attach_queue t other else detach_queue t other) files)
    (sym (not_set (is_set flags IFF_ATTACH_QUEUE) b.1))
    (detached t (detach_queue t other) other version (Disabled device.0) (command.SetQueue other flags) files refl (detach_one t other device.0 device.1) was)))
withdrawing s file version (command.Close other) x t files can of h =
    let was : Fits (Withdraws other) (Some (command.Close other)) t files = subst (λ (m : ℕ). Fits (Withdraws m) (Some (command.Close other)) t files) (sym (equal other file can)) h in
    let device = enabled_is (file_at t other).attachment was.found in
    subst (λ (m : ℕ). Fits (Withdrawn m version) (Some (command.Close other)) (after t x) files) (equal other file can)
    (subst (λ (y : Op). Fits (Withdrawn other version) (Some (command.Close other)) (after t y) files) (some_same _ x of)
    (detached t (shut t other) other version Unattached (command.Close other) files refl (shut_one t other device.0 device.1) was))
withdrawing s file version c x t files can of h = absurd (true≢false (sym can))

-- ---- a backend publishes

backs_rx : (vhost ring : ℕ) (asked : Option ℕ) (t : Table) (file version : ℕ) (files : Files) → side_of ring ≡ Rx → Fits (Backed file) (Some (command.Backend vhost ring asked)) t files
    → Fits (Owns file version) (Some (command.Backend vhost ring asked)) (back t file (side_of ring) (Some vhost)) files
backs_rx vhost ring asked t file version files rx_ h =
    let free : (file_at t file).rx ≡ None = subst (λ (q : Side). backer q (file_at t file) ≡ None) rx_ h.found.1 in
    subst (λ (q : Side). Fits (Owns file version) (Some (command.Backend vhost ring asked)) (back t file q (Some vhost)) files) (sym rx_)
    (one_published (Backed file) (Owns file version) (Some (command.Backend vhost ring asked)) (Some (command.Backend vhost ring asked)) t (back t file Rx (Some vhost)) file
    (backed Rx (Some vhost) (file_at t file)) files (back_one t file Rx (Some vhost)) (many_set t (back t file Rx (Some vhost)) file _ (back_one t file Rx (Some vhost)))
    (ap (λ (b : Bool). if b then record (of_table t file) { owner = None } else agreed_of (backed Rx (Some vhost) (file_at t file))) (itself file)
    ∙ ap (λ (o : Option ℕ). record (of_table t file) { owner = o }) (sym free))
    (λ n x no_. ap (λ (b : Bool). if b then record x { owner = None } else x) (others file n no_))
    (ap (λ (f : table_files.File). f.rx) (one_here t (back t file Rx (Some vhost)) file _ (back_one t file Rx (Some vhost)) h.found.0)) h)

-- of a transmit ring nothing changes that a file has
backs_tx : (d : Doing) (vhost : Option ℕ) (ring : ℕ) (c : Option Command) (t : Table) (file : ℕ) (files : Files) → side_of ring ≡ Tx
    → ((n : ℕ) (x : Agreed) → expected Begun None n x ≡ expected d c n x) → Fits d c t files → Fits Begun None (back t file (side_of ring) vhost) files
backs_tx d vhost ring c t file files tx_ same h =
    subst (λ (q : Side). Fits Begun None (back t file q vhost) files) (sym tx_)
    (one_published d Begun c None t (back t file Tx vhost) file (backed Tx vhost (file_at t file)) files (back_one t file Tx vhost)
    (many_set t (back t file Tx vhost) file _ (back_one t file Tx vhost)) (same file (of_table t file)) (λ n x no_. same n x) tt h)

disowns_rx : (ring : ℕ) (c : Option Command) (t : Table) (file : ℕ) (files : Files) → side_of ring ≡ Rx → Fits (Disowned file) c t files
    → Fits Begun None (back t file (side_of ring) None) files
disowns_rx ring c t file files rx_ h =
    subst (λ (q : Side). Fits Begun None (back t file q None) files) (sym rx_)
    (one_published (Disowned file) Begun c None t (back t file Rx None) file (backed Rx None (file_at t file)) files (back_one t file Rx None)
    (many_set t (back t file Rx None) file _ (back_one t file Rx None))
    (sym (ap (λ (b : Bool). if b then record (of_table t file) { owner = None } else of_table t file) (itself file)))
    (λ n x no_. sym (ap (λ (b : Bool). if b then record x { owner = None } else x) (others file n no_))) tt h)

pub side_rx : (ring : ℕ) → (ring == 0) ≡ true → side_of ring ≡ Rx
side_rx ring is = ap (λ (b : Bool). if b then Rx else Tx) is

pub side_tx : (ring : ℕ) → (ring == 0) ≡ false → side_of ring ≡ Tx
side_tx ring is = ap (λ (b : Bool). if b then Rx else Tx) is

pub sets_rx : (vhost ring : ℕ) (asked : Option ℕ) (t : Table) (file version : ℕ) (files : Files) → (ring == 0) ≡ true → Fits (Backed file) (Some (command.Backend vhost ring asked)) t files
    → Fits (Owns file version) (Some (command.Backend vhost ring asked)) (back t file (side_of ring) (Some vhost)) files
sets_rx vhost ring asked t file version files is h = backs_rx vhost ring asked t file version files (side_rx ring is) h

pub sets_tx : (vhost ring : ℕ) (asked : Option ℕ) (t : Table) (file : ℕ) (files : Files) → (ring == 0) ≡ false → Fits (Backed file) (Some (command.Backend vhost ring asked)) t files
    → Fits Begun None (back t file (side_of ring) (Some vhost)) files
sets_tx vhost ring asked t file files is h = backs_tx (Backed file) (Some vhost) ring (Some (command.Backend vhost ring asked)) t file files (side_tx ring is) (λ n x. refl) h

pub unsets_rx : (ring : ℕ) (c : Option Command) (t : Table) (file : ℕ) (files : Files) → (ring == 0) ≡ true → Fits (Disowned file) c t files
    → Fits Begun None (back t file (side_of ring) None) files
unsets_rx ring c t file files is h = disowns_rx ring c t file files (side_rx ring is) h

pub unsets_tx : (ring : ℕ) (c : Option Command) (t : Table) (file : ℕ) (files : Files) → (ring == 0) ≡ false → Fits (Released file) c t files
    → Fits Begun None (back t file (side_of ring) None) files
unsets_tx ring c t file files is h = backs_tx (Released file) None ring c t file files (side_tx ring is) (λ n x. refl) h
