-- This project's own: what an operation names is there, and what a command that holds the writer publishes is lawful.
use Rattle.std.proofs.Common.{◌≡◌, ℕ, suc, ◌<◌, ◌≤◌, List, [], ◌∷◌, length, map, Bool, true, false, cond, Option, Some, None, inl, inr, refl, sym, ap, ◌∙◌, subst, true≢false, arith}
use Rattle.std.proofs.lemmas.Bool.Decides.{eqb_tells}
use Rattle.std.specs.Prelude.{◌==◌, IfSome, IsSome, fold, slice_get}
use Rattle.std.specs.Option.{option_map_or}
use Rattle.scen_words.specs.Commands.{command_values, command_word, file_of}
use Rattle.scen_words.specs.Words.{command_form}
use Rattle.scen_words.specs.declared.command.Command.{Command}
use Rattle.scen_words.specs.declared.command.Command.TheVariants as command
use Rattle.scen_words.specs.declared.declaration.Declaration.{Declaration}
use Rattle.scen_words.specs.declared.declaration.Declaration.TheVariants as declares
use Rattle.scen_text.specs.declared.scenario.Scenario.{Scenario}
use Rattle.text_fields.specs.Forms.{FitForm}
use Rattle.tap_ledger.specs.declared.side.Side.{Side}
use Rattle.tap_steer.specs.After.{after, after_all, attach_queue, detach_queue, disabled, enabled, back, learn, learn_at, left, resize, set_at, set_device, set_iff, shut, tick}
use Rattle.tap_steer.specs.Named.{IsFile, IsNamed}
use Rattle.tap_steer.specs.Rules.{refuse}
use Rattle.tap_steer.specs.Sound.{IsPlace}
use Rattle.tap_steer.specs.Table.{Table, device_of, file_at, first, is_set}
use Rattle.tap_steer.specs.declared.files.Attachment.{Attachment}
use Rattle.tap_steer.specs.declared.files.Attachment.TheVariants.{Disabled, Enabled, Unattached}
use Rattle.tap_steer.specs.declared.operation.Op.{Op}
use Rattle.tap_steer.specs.declared.operation.Op.TheVariants as op
use Rattle.tap_steer.specs.declared.operation.TheConstants.{IFF_ATTACH_QUEUE}
use Rattle.tap_steer.specs.declared.settings.Settings.{Settings}
use Rattle.tap_ground.specs.Options.{◌>>=◌}
use Rattle.tap_world.specs.ByNumber.{at}
use Rattle.tap_world.specs.Setup.{NamesDeclared, Numbered, Setup, nothing_of, op_of, opening_table, place_among, place_of, setup_of, with_declaration}
use Rattle.tap_world.specs.Sound.{holds}
use Rattle.tap_world.specs.SoundTable.{commanded, writer_of, writing}
use Rattle.tap_world.specs.Steady.{to_publish}
use Rattle.tap_world.specs.World.{Actor, Doing as WorldDoing, current, table}
use Rattle.tap_world.specs.World.Doing.{Begun}
use Rattle.tap_world.specs.declared.event.EventKind.{EventKind}
use Rattle.tap_world.specs.declared.told.Published.{Published}
use Rattle.tap_sound.proofs.Kit.{some_same}
use Rattle.core_shared.specs.Asking.{Asking, setup}
use Rattle.core_shared.specs.Coming.{come_of}
use Rattle.core_shared.specs.MayDo.{MayDo, actor_at}
use Rattle.core_shared.specs.Suiting.{IsItsOp}
use Rattle.core_shared.specs.Worlds.{world_in}
use Rattle.core_shared.specs.declared.doing.Doing.{Doing}
use Rattle.core_shared.specs.declared.shared.Shared.{Shared}
use Rattle.core_shared.proofs.Kit as kit
use Rattle.core_shared.proofs.Taking.{declared, file_named, file_there, form}

-- ---- the table that is kept is the world's

pub table_is : {a : Asking} {d : Doing} {kind : EventKind} {x : Shared} → (m : MayDo a d kind x)
    → x.ops.table ≡ table (setup a) (world_in x m.actors m.said)
table_is m = m.held.table

-- ---- files that are there are the table's

pub is_file : {a : Asking} {d : Doing} {kind : EventKind} {x : Shared} → MayDo a d kind x → (file : ℕ)
    → IsSome (at x.files file) → IsFile x.ops.table file
is_file {x = x} m file h =
    let p = kit.there (at x.files file) h in
    subst (λ (t : Table). file < length t.files) (sym (table_is m)) (m.sound.tabled.known file p.0.file (kit.file_at file x.files p.0 p.1))

pub is_declared_file : {a : Asking} {d : Doing} {kind : EventKind} {x : Shared} → MayDo a d kind x → (file : ℕ)
    → IsSome (at (setup a).files file) → IsFile x.ops.table file
is_declared_file m file h = is_file m file (file_there m file h)

-- ---- programs stay

enabled_programs : (t : Table) (file : ℕ) (h : Attachment) → (enabled h t file).programs ≡ t.programs
enabled_programs t file Unattached = refl
enabled_programs t file (Enabled k) = refl
enabled_programs t file (Disabled k) = refl

disabled_programs : (t : Table) (file : ℕ) (h : Attachment) → (disabled h t file).programs ≡ t.programs
disabled_programs t file Unattached = refl
disabled_programs t file (Enabled k) = refl
disabled_programs t file (Disabled k) = refl

left_programs : (t : Table) (file : ℕ) (h : Attachment) → (left h t file).programs ≡ t.programs
left_programs t file Unattached = refl
left_programs t file (Enabled k) = refl
left_programs t file (Disabled k) = refl

iff_programs : (t : Table) (file device flags : ℕ) → (set_iff t file device flags).programs ≡ t.programs
unfolding set_iff
iff_programs t file device flags = refl

attach_programs : (t : Table) (file : ℕ) → (attach_queue t file).programs ≡ t.programs
unfolding attach_queue
attach_programs t file = enabled_programs t file (file_at t file).attachment

detach_programs : (t : Table) (file : ℕ) → (detach_queue t file).programs ≡ t.programs
unfolding detach_queue
detach_programs t file = disabled_programs t file (file_at t file).attachment

shut_programs : (t : Table) (file : ℕ) → (shut t file).programs ≡ t.programs
unfolding shut
shut_programs t file = left_programs t file (file_at t file).attachment

either_programs : (b : Bool) (t x y : Table) → x.programs ≡ t.programs → y.programs ≡ t.programs → (cond b x y).programs ≡ t.programs
either_programs true t x y p q = p
either_programs false t x y p q = q

set_at_programs : (t : Table) (o : Option ℕ) (change : Settings → Settings) → (set_at o t change).programs ≡ t.programs
set_at_programs t None change = refl
set_at_programs t (Some k) change = refl

set_programs : (t : Table) (file : ℕ) (change : Settings → Settings) → (set_device t file change).programs ≡ t.programs
unfolding set_device
set_programs t file change = set_at_programs t (device_of t file) change

learn_at_programs : (t : Table) (h : Attachment) (file hash : ℕ) → (learn_at h t file hash).programs ≡ t.programs
learn_at_programs t Unattached file hash = refl
learn_at_programs t (Enabled k) file hash = refl
learn_at_programs t (Disabled k) file hash = refl

learn_programs : (t : Table) (file hash : ℕ) → (learn t file hash).programs ≡ t.programs
unfolding learn
learn_programs t file hash = learn_at_programs t (file_at t file).attachment file hash

tick_programs : (t : Table) (now : ℕ) → (tick t now).programs ≡ t.programs
unfolding tick
tick_programs t now = refl

back_programs : (t : Table) (file : ℕ) (side : Side) (vhost : Option ℕ) → (back t file side vhost).programs ≡ t.programs
unfolding back
back_programs t file side vhost = refl

resize_programs : (t : Table) (file capacity : ℕ) → (resize t file capacity).programs ≡ t.programs
unfolding resize
resize_programs t file capacity = refl

after_programs : (t : Table) (o : Op) → (after t o).programs ≡ t.programs
after_programs t (op.SetIff file device flags) = iff_programs t file device flags
after_programs t (op.SetQueue file flags) =
    either_programs (is_set flags IFF_ATTACH_QUEUE) t (attach_queue t file) (detach_queue t file) (attach_programs t file) (detach_programs t file)
after_programs t (op.Shut file) = shut_programs t file
after_programs t (op.HdrSize file size) = set_programs t file _
after_programs t (op.Persist file on) = set_programs t file _
after_programs t (op.Learn file hash) = learn_programs t file hash
after_programs t (op.Tick now) = tick_programs t now
after_programs t (op.Steering file program) = set_programs t file _
after_programs t (op.Filter file program) = set_programs t file _
after_programs t (op.Back file side vhost) = back_programs t file side vhost
after_programs t (op.Resize file capacity) = resize_programs t file capacity

all_programs : (t : Table) (os : List Op) → (after_all t os).programs ≡ t.programs
all_programs t [] = refl
all_programs t (o ∷ os) = all_programs (after t o) os ∙ after_programs t o

many_made : (ps : List (ℕ × List ℕ)) → length (map (λ (p : ℕ × List ℕ). p.1) ps) ≡ length ps
many_made [] = refl
many_made (p ∷ ps) = ap suc (many_made ps)

opening_programs : (s : Setup) → length (opening_table s).programs ≡ length s.programs
unfolding first
opening_programs s = many_made s.programs

pub programs_are : {a : Asking} {d : Doing} {kind : EventKind} {x : Shared} → MayDo a d kind x
    → length x.ops.table.programs ≡ length (setup a).programs
programs_are {a = a} {x = x} m =
    ap (λ (t : Table). length t.programs) (table_is m)
    ∙ ap (λ (ps : List (List ℕ)). length ps) (all_programs (opening_table (setup a)) (map (λ (p : Published). p.op) x.ops.ops))
    ∙ opening_programs (setup a)

-- ---- names are the scenario's

declared_names : (d : Declaration) (s : Setup) → (with_declaration s d).names ≡ s.names
declared_names (declares.File file capacity first) s = refl
declared_names (declares.Region guest addr len) s = refl
declared_names (declares.Vhost vhost guest) s = refl
declared_names (declares.Prog program code) s = refl
declared_names (declares.Flows name limit age) s = refl

folded_names : (ds : List Declaration) (s : Setup) → (fold with_declaration s ds).names ≡ s.names
folded_names [] s = refl
folded_names (d ∷ ds) s = folded_names ds (with_declaration s d) ∙ declared_names d s

pub names_are : (s : Scenario) → (setup_of s).names ≡ s.names
names_are s = folded_names s.declarations (nothing_of s)

pub names_few : {a : Asking} {d : Doing} {kind : EventKind} {x : Shared} → MayDo a d kind x → length (setup a).names ≤ 64
names_few {a = a} m = subst (λ (ns : List (List ℕ)). length ns ≤ 64) (sym (names_are a.scenario)) m.laid.names.few

-- ---- a command's own operation

placed_program : (s : Setup) (t : Table) (program : Option ℕ) → length t.programs ≡ length s.programs
    → IfSome program (λ p. place_among p s.programs < length s.programs) → IsPlace (length t.programs) (place_of s program)
placed_program s t None same h = tt
placed_program s t (Some p) same h = subst (λ (n : ℕ). place_among p s.programs < n) (sym same) h

record IsKnown (s : Setup) (t : Table) (c : Command) : Type 0 where
  file : (n : ℕ) → file_of c ≡ Some n → IsFile t n
  programs : length t.programs ≡ length s.programs
  names : length s.names ≤ 64
  declared : NamesDeclared s c
  form : FitForm (command_form (command_word c)) (command_values s.names c)

capacity_formed : (names : List (List ℕ)) (file capacity : ℕ)
    → FitForm (command_form (command_word (command.Resize file capacity))) (command_values names (command.Resize file capacity))
    → (1 ≤ capacity) × (capacity ≤ 1024)
unfolding command_values
capacity_formed names file capacity h = (h.each.1.0.0, h.each.1.0.1)

named_by : (s : Setup) (t : Table) (c : Command) (o : Op) → IsKnown s t c → op_of s c ≡ Some o → IsNamed t o
named_by s t (command.SetIff file device flags) o k e =
    let few = k.names in
    let below : device < length s.names = k.declared.device in
    subst (IsNamed t) (some_same (op.SetIff file device flags) o e) (k.file file refl, omega (arith, few, below))
named_by s t (command.SetQueue file flags) o k e = subst (IsNamed t) (some_same (op.SetQueue file flags) o e) (k.file file refl)
named_by s t (command.Close file) o k e = subst (IsNamed t) (some_same (op.Shut file) o e) (k.file file refl)
named_by s t (command.Persist file on) o k e = subst (IsNamed t) (some_same (op.Persist file on) o e) (k.file file refl)
named_by s t (command.HdrSize file size) o k e = subst (IsNamed t) (some_same (op.HdrSize file size) o e) (k.file file refl)
named_by s t (command.Steer file program) o k e =
    subst (IsNamed t) (some_same (op.Steering file (place_of s program)) o e) (k.file file refl, placed_program s t program k.programs k.declared.program)
named_by s t (command.Filter file program) o k e =
    subst (IsNamed t) (some_same (op.Filter file (place_of s program)) o e) (k.file file refl, placed_program s t program k.programs k.declared.program)
named_by s t (command.Tick now) o k e = subst (IsNamed t) (some_same (op.Tick now) o e) tt
named_by s t (command.Resize file capacity) o k e =
    subst (IsNamed t) (some_same (op.Resize file capacity) o e) (let c = capacity_formed s.names file capacity k.form in (k.file file refl, c.0, c.1))
named_by s t c o k e = absurd (cc (e))

pub named_own : {a : Asking} {d : Doing} {kind : EventKind} {x : Shared} → (m : MayDo a d kind x) (o : Op) → IsItsOp a o
    → IsNamed x.ops.table o
named_own {a = a} {x = x} m o its =
    named_by (setup a) x.ops.table a.command o
    (record {
      file = λ n e. is_file m n (file_named m n e);
      programs = programs_are m;
      names = names_few m;
      declared = declared m;
      form = form m;
    })
    its

-- ---- a learning's and a backend's

pub named_learn : {a : Asking} {d : Doing} {kind : EventKind} {x : Shared} → MayDo a d kind x → (file hash : ℕ)
    → IsSome (at x.files file) → IsNamed x.ops.table (op.Learn file hash)
named_learn m file hash h = is_file m file h

pub named_back : {a : Asking} {d : Doing} {kind : EventKind} {x : Shared} → MayDo a d kind x → (file : ℕ) (side : Side) (vhost : Option ℕ)
    → IsSome (at x.files file) → IsNamed x.ops.table (op.Back file side vhost)
named_back m file side vhost h = is_file m file h

-- ---- the writer

writer_by : (o : Option ℕ) (n : ℕ) → true ≡ option_map_or (λ (k : ℕ). k == n) o false → o ≡ Some n
writer_by None n e = absurd (true≢false e)
writer_by (Some k) n e = elim (eqb_tells k n) [ inl t ↦ ap Some t.1 | inr t ↦ absurd (true≢false (e ∙ t.0)) ]

-- a command that holds the writer holds it
pub holds_writer_now : {a : Asking} {d : Doing} {kind : EventKind} {x : Shared} → (m : MayDo a d kind x)
    → holds (come_of x.vhosts d) ≡ true → x.writer ≡ Some a.actor
holds_writer_now {a = a} {d = d} {x = x} m h =
    writer_by x.writer a.actor (sym h ∙ m.sound.actors.writer a.actor (actor_at a (come_of x.vhosts d) m.rest) m.is_actor)

-- it is the writing command, and so far
pub writes_now : {a : Asking} {d : Doing} {kind : EventKind} {x : Shared} → (m : MayDo a d kind x)
    → holds (come_of x.vhosts d) ≡ true
    → writer_of (world_in x m.actors m.said) ≡ Some (actor_at a (come_of x.vhosts d) m.rest)
writes_now m h =
    ap (λ (o : Option ℕ). o >>= λ (n : ℕ). slice_get m.actors n) (holds_writer_now m h) ∙ m.is_actor

pub writing_now : {a : Asking} {d : Doing} {kind : EventKind} {x : Shared} → (m : MayDo a d kind x)
    → holds (come_of x.vhosts d) ≡ true → writing (world_in x m.actors m.said) ≡ come_of x.vhosts d
writing_now m h = ap (λ (o : Option Actor). option_map_or (λ (y : Actor). y.doing) o Begun) (writes_now m h)

pub commanded_now : {a : Asking} {d : Doing} {kind : EventKind} {x : Shared} → (m : MayDo a d kind x)
    → holds (come_of x.vhosts d) ≡ true → commanded (world_in x m.actors m.said) ≡ Some a.command
commanded_now m h =
    ap (λ (o : Option Actor). o >>= λ (y : Actor). current y.script >>= λ (c : Numbered). Some c.command) (writes_now m h)

-- what it is to publish is lawful
pub lawful_now : {a : Asking} {d : Doing} {kind : EventKind} {x : Shared} → (m : MayDo a d kind x) (o : Op)
    → holds (come_of x.vhosts d) ≡ true → to_publish (setup a) (come_of x.vhosts d) a.command ≡ Some o
    → refuse x.ops.table o ≡ None
lawful_now {a = a} m o h e =
    ap (λ (t : Table). refuse t o) (table_is m)
    ∙ m.steady.lawful a.command o (commanded_now m h) (ap (λ (y : WorldDoing). to_publish (setup a) y a.command) (writing_now m h) ∙ e)
