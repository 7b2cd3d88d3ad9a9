-- Files have of the table what they should, after each shape of change.
use Rattle.std.proofs.Common.{◌≡◌, ◌≢◌, ◌⊎◌, ℕ, ◌+◌, ◌<◌, List, length, Bool, true, false, Option, Some, None, inl, inr, ⊎_elim, refl, sym, ap, ◌∙◌, subst}
use Rattle.std.specs.Prelude.{if◌then◌else◌, ◌-◌, not, slice_get}
use Rattle.tap_steer.specs.declared.files.File as table_files
use Rattle.tap_steer.specs.Table.{Table}
use Rattle.tap_steer.specs.Rules.{backer}
use Rattle.scen_words.specs.declared.command.Command.{Command}
use Rattle.scen_words.specs.declared.command.Command.TheVariants as command
use Rattle.tap_world.specs.ByNumber.{at}
use Rattle.tap_world.specs.Line.{File, first_that, in_batch, in_ring, last_that}
use Rattle.tap_world.specs.declared.line.Standing.TheVariants.{Batched, Cut, Out}
use Rattle.tap_world.specs.declared.line.Standing.{Standing}
use Rattle.tap_world.specs.LineSteps.{Change, changed, may_leave, moves_to, ready_front}
use Rattle.tap_world.specs.LineSteps.Change.{Claims, Cuts, Leaves, Moves, Owned, Puts, PutsBack, Reopens, Shuts, Sizes, Takes}
use Rattle.tap_world.specs.World.{Doing}
use Rattle.tap_world.specs.World.Doing.{Backed, Backs, Begun, Changes, Disowned, Opened, Opens, Owns, Purges, Resizes, Shrinks, Unbacked, Withdrawn, Withdraws}
use Rattle.tap_world.specs.Effect.{OnFiles, files_after}
use Rattle.tap_world.specs.Effect.OnFiles.{NoFile, OnFile}
use Rattle.tap_world.specs.StepTable.{is_enabled}
use Rattle.tap_world.specs.StepBackend.{side_of}
use Rattle.tap_world.specs.SoundTable.{Agreed, IsAsFound, asked_by, expected, has_of, of_table}
use Rattle.tap_sound.proofs.Kit.{only_some, some_same, then_some}
use Rattle.tap_sound.proofs.Claims.{with_at_inv}
use Rattle.tap_sound.proofs.Shapes as shapes
use Rattle.tap_sound.proofs.TableFiles.{at_files}
use Rattle.tap_sound.proofs.Taken.{if_some}
use Rattle.tap_sound.proofs.Turned.{itself, others}

-- ---- what a change of a file keeps

moved_has : (f g : File) (s : Standing) (o : Option ℕ) → moves_to s f o ≡ Some g → has_of g ≡ has_of f
moved_has f g s None e = absurd (cc (e))
moved_has f g s (Some i) e = ap has_of (sym (some_same _ g e))

pub keeps_has : (file : ℕ) (c : Change) (f g : File) → shapes.Leaves (OnFile file c) → changed c f ≡ Some g → has_of g ≡ has_of f
keeps_has file Shuts f g leaves e = absurd leaves
keeps_has file Reopens f g leaves e = absurd leaves
keeps_has file (Sizes capacity) f g leaves e = absurd leaves
keeps_has file (Owned owner) f g leaves e = absurd leaves
keeps_has file (Claims actor name epoch len) f g leaves e = let o = only_some _ _ g e in ap has_of (sym o.1)
keeps_has file (Puts actor place) f g leaves e = let t = then_some (slice_get f.line (place - f.first)) _ g e in let o = only_some _ _ g t.2 in ap has_of (sym o.1)
keeps_has file Moves f g leaves e = let i = if_some _ _ g e in moved_has f g Batched (ready_front f.line) i.1
keeps_has file (Takes vhost) f g leaves e = let o = only_some _ _ g e in ap has_of (sym o.1)
keeps_has file (PutsBack vhost) f g leaves e = let o = only_some _ _ g e in ap has_of (sym o.1)
keeps_has file (Leaves worker fate) f g leaves e =
    let i = if_some (may_leave worker f) _ g e in moved_has (record f { hand = None }) g (Out fate) (first_that in_batch f.line) i.1
keeps_has file Cuts f g leaves e = let i = if_some _ _ g e in moved_has f g Cut (last_that in_ring f.line) i.1

abbrev pub Files : Type 0
Files = List (Option File)

-- where a file comes from
pub one_file : (file : ℕ) (c : Change) (files after_ : Files) → files_after (OnFile file c) files ≡ Some after_ → (n : ℕ) (g : File) → at after_ n ≡ Some g
    → ((file ≡ n) × (f : File) × (at files n ≡ Some f) × (changed c f ≡ Some g)) ⊎ ((file ≢ n) × (at files n ≡ Some g))
one_file file c files after_ e n g at_ =
    let f = then_some (at files file) _ after_ e in
    let h = then_some (changed c f.0) _ after_ f.2 in
    ⊎_elim
    (λ same. inl (same.0, f.0, ap (at files) (sym same.0) ∙ f.1, h.1 ∙ ap Some same.1))
    (λ other. inr other)
    (with_at_inv file h.0 files n g (ap (λ (q : Files). at q n) (some_same _ after_ h.2) ∙ at_))

pub kept_has : (o : OnFiles) (files after_ : Files) → shapes.Leaves o → files_after o files ≡ Some after_ → (n : ℕ) (g : File) → at after_ n ≡ Some g
    → (f : File) × (at files n ≡ Some f) × (has_of g ≡ has_of f)
kept_has NoFile files after_ leaves e n g at_ = (g, ap (λ (q : Files). at q n) (some_same files after_ e) ∙ at_, refl)
kept_has (OnFile file c) files after_ leaves e n g at_ = ⊎_elim
    (λ here. (here.1, here.2, keeps_has file c here.1 g leaves here.3))
    (λ there. (g, there.1, refl))
    (one_file file c files after_ e n g at_)

-- ---- files and the table

abbrev pub Agrees : Doing → Option Command → Table → Files → Type 0
Agrees d c t files = (n : ℕ) (f : File) → at files n ≡ Some f → has_of f ≡ expected d c n (of_table t n)

abbrev pub Knows : Table → Files → Type 0
Knows t files = (n : ℕ) (f : File) → at files n ≡ Some f → n < length t.files

pub record Fits (d : Doing) (c : Option Command) (t : Table) (files : Files) : Type 0 where
  pub agrees : Agrees d c t files
  pub known : Knows t files
  pub found : IsAsFound d c t

abbrev pub agreed_of : table_files.File → Agreed
agreed_of f = record { epoch = f.epoch; shut = not (is_enabled f.attachment); owner = f.rx; capacity = f.capacity; resizes = f.resizes }

same_of : (t u : Table) → u.files ≡ t.files → (n : ℕ) → of_table u n ≡ of_table t n
same_of t u is n = ap agreed_of (at_files t u is n)

-- the same files, as far as the table is concerned
pub agrees_on : (d e : Doing) (c k : Option Command) (t u : Table) (o : OnFiles) (files after_ : Files) → shapes.Leaves o → files_after o files ≡ Some after_ → Knows t files
    → ((n : ℕ) → n < length t.files → expected e k n (of_table u n) ≡ expected d c n (of_table t n)) → Agrees d c t files → Agrees e k u after_
agrees_on d e c k t u o files after_ leaves is known same h n g at_ =
    let f = kept_has o files after_ leaves is n g at_ in
    f.2 ∙ h n f.0 f.1 ∙ sym (same n (known n f.0 f.1))

-- one file has something else
pub agrees_one : (d e : Doing) (c k : Option Command) (t : Table) (file : ℕ) (x : Change) (files after_ : Files) → files_after (OnFile file x) files ≡ Some after_
    → ((f g : File) → changed x f ≡ Some g → has_of f ≡ expected d c file (of_table t file) → has_of g ≡ expected e k file (of_table t file))
    → ((n : ℕ) → file ≢ n → expected e k n (of_table t n) ≡ expected d c n (of_table t n)) → Agrees d c t files → Agrees e k t after_
agrees_one d e c k t file x files after_ is here there h n g at_ = ⊎_elim
    (λ it. subst (λ (m : ℕ). has_of g ≡ expected e k m (of_table t m)) it.0
    (here it.1 g it.3 (subst (λ (m : ℕ). has_of it.1 ≡ expected d c m (of_table t m)) (sym it.0) (h n it.1 it.2))))
    (λ it. h n g it.1 ∙ sym (there n it.0))
    (one_file file x files after_ is n g at_)

pub knows_on : (t u : Table) (o : OnFiles) (files after_ : Files) → length u.files ≡ length t.files → files_after o files ≡ Some after_ → Knows t files → Knows u after_
knows_on t u NoFile files after_ same is h n g at_ =
    subst (λ (m : ℕ). n < m) (sym same) (h n g (ap (λ (q : Files). at q n) (some_same files after_ is) ∙ at_))
knows_on t u (OnFile file c) files after_ same is h n g at_ = ⊎_elim
    (λ it. subst (λ (m : ℕ). n < m) (sym same) (h n it.1 it.2))
    (λ it. subst (λ (m : ℕ). n < m) (sym same) (h n g it.1))
    (one_file file c files after_ is n g at_)

-- what was found is so in a table with the same files
pub found_on : (d : Doing) (c : Option Command) (t u : Table) → u.files ≡ t.files → IsAsFound d c t → IsAsFound d c u
found_on (Withdraws file) c t u is h = ap (λ (f : table_files.File). is_enabled f.attachment) (at_files t u is file) ∙ h
found_on (Withdrawn file version) c t u is h = ap (λ (f : table_files.File). is_enabled f.attachment) (at_files t u is file) ∙ h
found_on Changes (Some (command.Close file)) t u is h = ap (λ (f : table_files.File). is_enabled f.attachment) (at_files t u is file) ∙ h
found_on (Backs None) (Some (command.Backend vhost ring (Some file))) t u is h = λ there.
    (subst (λ (m : ℕ). file < m) (sym (ap (λ (fs : List table_files.File). length fs) is)) (h there).0, ap (backer (side_of ring)) (at_files t u is file) ∙ (h there).1)
found_on (Backed file) (Some (command.Backend vhost ring asked)) t u is h =
    (subst (λ (m : ℕ). file < m) (sym (ap (λ (fs : List table_files.File). length fs) is)) h.0, ap (backer (side_of ring)) (at_files t u is file) ∙ h.1)
found_on (Owns file version) (Some (command.Backend vhost ring asked)) t u is h = ap (λ (f : table_files.File). f.rx) (at_files t u is file) ∙ h
found_on d c t u is h = tt

-- ---- each shape

-- nothing that matters changes
pub steady : (d : Doing) (c : Option Command) (t u : Table) (o : OnFiles) (files after_ : Files) → u.files ≡ t.files → shapes.Leaves o → files_after o files ≡ Some after_
    → Fits d c t files → Fits d c u after_
steady d c t u o files after_ same leaves is h = record {
  agrees = agrees_on d d c c t u o files after_ leaves is h.known (λ n fits. ap (expected d c n) (same_of t u same n)) h.agrees;
  known = knows_on t u o files after_ (ap (λ (fs : List table_files.File). length fs) same) is h.known;
  found = found_on d c t u same h.found;
}

-- the command goes on, or begins, and no file of the world or of the table changes
pub goes_on : (d e : Doing) (c k : Option Command) (t : Table) (files : Files) → ((n : ℕ) (x : Agreed) → expected e k n x ≡ expected d c n x) → IsAsFound e k t
    → Fits d c t files → Fits e k t files
goes_on d e c k t files same found h = record {
  agrees = λ n f at_. h.agrees n f at_ ∙ sym (same n (of_table t n));
  known = h.known;
  found = found;
}

-- one file of the world changes
pub changes_one : (d e : Doing) (c k : Option Command) (t : Table) (file : ℕ) (x : Change) (files after_ : Files) → files_after (OnFile file x) files ≡ Some after_
    → ((f g : File) → changed x f ≡ Some g → has_of f ≡ expected d c file (of_table t file) → has_of g ≡ expected e k file (of_table t file))
    → ((n : ℕ) → file ≢ n → expected e k n (of_table t n) ≡ expected d c n (of_table t n)) → IsAsFound e k t → Fits d c t files → Fits e k t after_
changes_one d e c k t file x files after_ is here there found h = record {
  agrees = agrees_one d e c k t file x files after_ is here there h.agrees;
  known = knows_on t t (OnFile file x) files after_ refl is h.known;
  found = found;
}

reopened_has : (f g : File) → changed Reopens f ≡ Some g → has_of g ≡ record (has_of f) { epoch = f.epoch + 1; shut = false }
reopened_has f g e = let o = only_some _ _ g e in ap has_of (sym o.1)

pub reopening : (c : Option Command) (t : Table) (file : ℕ) (files after_ : Files) → files_after (OnFile file Reopens) files ≡ Some after_
    → Fits (Opens file) c t files → Fits (Opened file) c t after_
reopening c t file files after_ is h = changes_one (Opens file) (Opened file) c c t file Reopens files after_ is
    (λ f g e was. reopened_has f g e ∙ ap (λ (x : Agreed). record x { epoch = x.epoch + 1; shut = false }) was
    ∙ sym (ap (λ (b : Bool). if b then record (of_table t file) { epoch = (of_table t file).epoch + 1; shut = false } else of_table t file) (itself file)))
    (λ n no_. ap (λ (b : Bool). if b then record (of_table t n) { epoch = (of_table t n).epoch + 1; shut = false } else of_table t n) (others file n no_))
    tt h

shut_has : (f g : File) → changed Shuts f ≡ Some g → has_of g ≡ record (has_of f) { shut = true }
shut_has f g e = let o = only_some _ _ g e in ap has_of (sym o.1)

pub shutting : (c : Option Command) (t : Table) (file version : ℕ) (files after_ : Files) → files_after (OnFile file Shuts) files ≡ Some after_
    → Fits (Withdrawn file version) c t files → Fits (Purges file version) c t after_
shutting c t file version files after_ is h = changes_one (Withdrawn file version) (Purges file version) c c t file Shuts files after_ is
    (λ f g e was. shut_has f g e
    ∙ ap (λ (x : Agreed). record x { shut = true }) (was ∙ ap (λ (b : Bool). if b then record (of_table t file) { shut = false } else of_table t file) (itself file))
    ∙ ap (λ (b : Bool). record (of_table t file) { shut = not b }) (sym h.found))
    (λ n no_. sym (ap (λ (b : Bool). if b then record (of_table t n) { shut = false } else of_table t n) (others file n no_)))
    tt h

sized_has : (capacity : ℕ) (f g : File) → changed (Sizes capacity) f ≡ Some g → has_of g ≡ record (has_of f) { capacity = capacity; resizes = f.resizes + 1 }
sized_has capacity f g e = let o = only_some _ _ g e in ap has_of (sym o.1)

pub sizing : (c : Command) (t : Table) (file capacity n : ℕ) (files after_ : Files) → files_after (OnFile file (Sizes capacity)) files ≡ Some after_ → asked_by (Some c) ≡ capacity
    → Fits (Resizes file capacity) (Some c) t files → Fits (Shrinks file n 0) (Some c) t after_
sizing c t file capacity m files after_ is asked h = changes_one (Resizes file capacity) (Shrinks file m 0) (Some c) (Some c) t file (Sizes capacity) files after_ is
    (λ f g e was. sized_has capacity f g e ∙ ap (λ (x : Agreed). record x { capacity = capacity; resizes = x.resizes + 1 }) was
    ∙ ap (λ (k : ℕ). record (of_table t file) { capacity = k; resizes = (of_table t file).resizes + 1 }) (sym asked)
    ∙ sym (ap (λ (b : Bool). if b then record (of_table t file) { capacity = asked_by (Some c); resizes = (of_table t file).resizes + 1 } else of_table t file) (itself file)))
    (λ n no_. ap (λ (b : Bool). if b then record (of_table t n) { capacity = asked_by (Some c); resizes = (of_table t n).resizes + 1 } else of_table t n) (others file n no_))
    tt h

owned_has : (owner : Option ℕ) (f g : File) → changed (Owned owner) f ≡ Some g → has_of g ≡ record (has_of f) { owner = owner }
owned_has owner f g e = let o = only_some _ _ g e in ap has_of (sym o.1)

pub owning : (vhost ring : ℕ) (asked : Option ℕ) (t : Table) (file version : ℕ) (files after_ : Files) → files_after (OnFile file (Owned (Some vhost))) files ≡ Some after_
    → Fits (Owns file version) (Some (command.Backend vhost ring asked)) t files → Fits Begun None t after_
owning vhost ring asked t file version files after_ is h =
    changes_one (Owns file version) Begun (Some (command.Backend vhost ring asked)) None t file (Owned (Some vhost)) files after_ is
    (λ f g e was. owned_has (Some vhost) f g e
    ∙ ap (λ (x : Agreed). record x { owner = Some vhost }) (was ∙ ap (λ (b : Bool). if b then record (of_table t file) { owner = None } else of_table t file) (itself file))
    ∙ ap (λ (o : Option ℕ). record (of_table t file) { owner = o }) (sym h.found))
    (λ n no_. sym (ap (λ (b : Bool). if b then record (of_table t n) { owner = None } else of_table t n) (others file n no_)))
    tt h

pub disowning : (c : Option Command) (t : Table) (file : ℕ) (files after_ : Files) → files_after (OnFile file (Owned None)) files ≡ Some after_
    → Fits (Unbacked file) c t files → Fits (Disowned file) c t after_
disowning c t file files after_ is h = changes_one (Unbacked file) (Disowned file) c c t file (Owned None) files after_ is
    (λ f g e was. owned_has None f g e ∙ ap (λ (x : Agreed). record x { owner = None }) was
    ∙ sym (ap (λ (b : Bool). if b then record (of_table t file) { owner = None } else of_table t file) (itself file)))
    (λ n no_. ap (λ (b : Bool). if b then record (of_table t n) { owner = None } else of_table t n) (others file n no_))
    tt h
