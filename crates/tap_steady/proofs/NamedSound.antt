-- This project's own: the queue table of a steady world is sound: its operations name what is there, or change nothing.
use Rattle.std.proofs.Common.{◌≡◌, ◌⊎◌, ℕ, zero, suc, ◌<◌, ◌≤◌, List, [], ◌∷◌, length, map, filter, Bool, true, false, cond, Option, Some, None, inl, inr, ⊎_elim, refl, sym, ap, ◌∙◌, subst, true≢false, arith}
use Rattle.std.specs.Prelude.{◌==◌, IfSome, IsSome, fold, slice_get}
use Rattle.std.specs.List.{AllByRecursion}
use Rattle.std.proofs.lemmas.Bool.{cases_lt}
use Rattle.std.proofs.lemmas.List.{length-map, set_past}
use Rattle.text_fields.specs.Forms.{FitForm}
use Rattle.scen_words.specs.declared.command.Command.{Command}
use Rattle.scen_words.specs.declared.command.Command.TheVariants as command
use Rattle.scen_words.specs.declared.declaration.Declaration.{Declaration}
use Rattle.scen_words.specs.declared.declaration.Declaration.TheVariants as declares
use Rattle.scen_words.specs.Commands.{command_values, command_word, file_of}
use Rattle.scen_words.specs.Words.{command_form}
use Rattle.scen_text.specs.declared.scenario.Line.{Line}
use Rattle.scen_text.specs.declared.scenario.Phase.{Phase}
use Rattle.scen_text.specs.declared.scenario.Scenario.{Scenario}
use Rattle.scen_laid.specs.Laid.{IsLaid}
use Rattle.scen_laid.specs.Phases.{IsLine, IsPhase}
use Rattle.tap_steer.specs.declared.files.Attachment.{Attachment}
use Rattle.tap_steer.specs.declared.files.File.{File}
use Rattle.tap_steer.specs.declared.operation.Op.{Op}
use Rattle.tap_steer.specs.declared.operation.Op.TheVariants as op
use Rattle.tap_steer.specs.After.{after, after_all, back, backed, learn, learn_at}
use Rattle.tap_steer.specs.Laws.{AreLawful, NamesStay, ReachedIsSound}
use Rattle.tap_steer.specs.Named.{IsFile, IsNamed}
use Rattle.tap_steer.specs.Sound as steer
use Rattle.tap_steer.specs.Table.{Table, file_at, first, new_file}
use Rattle.tap_world.specs.ByNumber.{at}
use Rattle.tap_world.specs.declared.told.Published.{Published}
use Rattle.tap_world.specs.Setup.{NamesDeclared, Numbered, Setup, nothing_of, opening_table, place_among, place_of, script_in, setup_of, with_declaration}
use Rattle.tap_world.specs.StepBackend.{side_of}
use Rattle.tap_world.specs.Steady.{IsOpOf, IsPublished}
use Rattle.tap_sound.proofs.Kit.{some_same}
use Rattle.tap_sound.proofs.TableFiles.{files_after, many, past}
use Rattle.tap_steady.specs.Tables.{TablesAreSound}
use Rattle.tap_steady.proofs.Kit.{all_at, all_on, phases_are}
use Rattle.tap_steady.proofs.NamedFiles.{named_file, none_some}
use Rattle.tap_steady.proofs.OpsLists.{EachLawful}

-- ---- what a scenario lays down

declared_names : (d : Declaration) (s : Setup) → (with_declaration s d).names ≡ s.names
declared_names (declares.File file capacity first_place) s = refl
declared_names (declares.Region guest addr len) s = refl
declared_names (declares.Vhost vhost guest) s = refl
declared_names (declares.Prog program code) s = refl
declared_names (declares.Flows name limit age) s = refl

folded_names : (ds : List Declaration) (s : Setup) → (fold with_declaration s ds).names ≡ s.names
folded_names [] s = refl
folded_names (d ∷ ds) s = folded_names ds (with_declaration s d) ∙ declared_names d s

names_are : (s : Scenario) → (setup_of s).names ≡ s.names
names_are s = folded_names s.declarations (nothing_of s)

-- what is so of the command of each line is so of those of a script
lines_all : (P : Command → Type 0) (s : Setup) (actors actor : ℕ) → ((l : Line) → IsLine s actors l → P l.command)
    → (ls : List Line) → AllByRecursion (IsLine s actors) ls
    → AllByRecursion (λ (c : Numbered). P c.command)
    (map (λ (l : Line). record { number = l.number; command = l.command })
    (filter (λ (l : Line). l.actor == actor) ls))
lines_all P s actors actor f [] h = tt
lines_all P s actors actor f (l ∷ ls) h = go (l.actor == actor) (lines_all P s actors actor f ls h.1)
  where
    rest : List Line
    rest = filter (λ (k : Line). k.actor == actor) ls

    go : (b : Bool) → AllByRecursion (λ (c : Numbered). P c.command)
        (map (λ (k : Line). record { number = k.number; command = k.command }) rest)
        → AllByRecursion (λ (c : Numbered). P c.command)
        (map (λ (k : Line). record { number = k.number; command = k.command }) (cond b (l ∷ rest) rest))
    go true behind = (f l h.0, behind)
    go false behind = behind

-- a command names what is declared, and its values have the form of its word
pub record IsGoodCommand (s : Setup) (c : Command) : Type 0 where
  pub names : NamesDeclared s c
  pub form : FitForm (command_form (command_word c)) (command_values s.names c)

-- so does each that a script has
pub script_good : (s : Scenario) (number actor : ℕ) (p : Phase) → IsLaid s
    → slice_get (setup_of s).phases number ≡ Some p
    → AllByRecursion (λ (c : Numbered). IsGoodCommand (setup_of s) c.command) (script_in p actor)
script_good s number actor p laid is =
    let phase = all_at (IsPhase (setup_of s)) s.phases number p laid.phases
    (ap (λ (ps : List Phase). slice_get ps number) (sym (phases_are s)) ∙ is) in
    lines_all (IsGoodCommand (setup_of s)) (setup_of s) p.actors actor
    (λ l h. record { names = h.declared; form = h.form }) p.lines phase.lines

-- ---- the first table

at_below : {A : Type 0} (xs : List (Option A)) (n : ℕ) → IsSome (at xs n) → n < length xs
at_below [] n h = absurd (true≢false (sym h))
at_below (x ∷ xs) zero h = omega arith
at_below (x ∷ xs) (suc n) h = let k = at_below xs n h in omega (arith, k)

first_files : (programs : List (List ℕ)) (caps : List ℕ) (flows : List (ℕ × ℕ))
    → length (first programs caps flows).files ≡ length caps
unfolding first
first_files programs caps flows = length-map caps new_file

first_programs : (programs : List (List ℕ)) (caps : List ℕ) (flows : List (ℕ × ℕ))
    → (first programs caps flows).programs ≡ programs
unfolding first
first_programs programs caps flows = refl

files_are : (s : Setup) → length (opening_table s).files ≡ length s.files
files_are s = first_files _ _ s.flows ∙ length-map s.files _

programs_are : (s : Setup) → length (opening_table s).programs ≡ length s.programs
programs_are s = ap (λ (ps : List (List ℕ)). length ps) (first_programs _ _ s.flows) ∙ length-map s.programs _

is_file : (s : Setup) (c : Command) (file : ℕ) → NamesDeclared s c → file_of c ≡ Some file
    → IsFile (opening_table s) file
is_file s c file n is =
    let below = at_below s.files file (named_file s c file n is) in
    let same = files_are s in
    omega (arith, below, same)

-- ---- operations that name what is there, or change nothing

-- the operation is about a file past all that are there, and is a learning or unsets a backend
abbrev IsFar : ℕ → Op → Type 0
IsFar files (op.Learn file hash) = files ≤ file
IsFar files (op.Back file side None) = files ≤ file
IsFar files other = ⊥

learn_far : (t : Table) (file hash : ℕ) → length t.files ≤ file → learn t file hash ≡ t
unfolding learn
learn_far t file hash far = ap (λ (a : Attachment). learn_at a t file hash)
    (ap (λ (f : File). f.attachment) (past t file far))

back_far : (t : Table) (file : ℕ) (side : _) → length t.files ≤ file → back t file side None ≡ t
unfolding back
back_far t file side far = ap (λ (fs : List File). record t { files = fs })
    (set_past t.files file (backed side None (file_at t file)) far)

far_same : (t : Table) (x : Op) → IsFar (length t.files) x → after t x ≡ t
far_same t (op.Learn file hash) far = learn_far t file hash far
far_same t (op.Back file side None) far = back_far t file side far
far_same t (op.Back file side (Some vhost)) far = absurd far
far_same t x far = absurd far

abbrev IsNamedOrFar : ℕ → Table → Published → Type 0
IsNamedOrFar k t p = IsNamed t p.op ⊎ IsFar k p.op

-- the table of all of them is that of those that name what is there
record AreReached (t : Table) (ops : List Published) : Type 0 where
  named : List Op
  lawful : AreLawful t named
  same : after_all t named ≡ after_all t (map (λ (p : Published). p.op) ops)

reached : NamesStay → (k : ℕ) (t : Table) (ops : List Published) → length t.files ≡ k
    → AllByRecursion (IsNamedOrFar k t) ops → EachLawful t ops → AreReached t ops
reached stay k t [] is h lawful = record { named = []; lawful = tt; same = refl }
reached stay k t (p ∷ ps) is h lawful =
    let rest = reached stay k (after t p.op) ps (many t (after t p.op) (files_after t p.op) ∙ is)
    (all_on (IsNamedOrFar k t) (IsNamedOrFar k (after t p.op))
    (λ q. ⊎_elim (λ n. inl (stay t p.op q.op n)) (λ f. inr f)) ps h.1)
    (λ i q e. lawful (suc i) q e) in
    ⊎_elim
    (λ n. record { named = p.op ∷ rest.named; lawful = (n, lawful 0 p refl, rest.lawful); same = rest.same })
    (λ far.
    let still = far_same t p.op (subst (λ (n : ℕ). IsFar n p.op) (sym is) far) in
    record {
      named = rest.named;
      lawful = subst (λ (q : Table). AreLawful q rest.named) still rest.lawful;
      same = ap (λ (q : Table). after_all q rest.named) (sym still) ∙ rest.same;
    })
    h.0

-- ---- the operation of a command

capacity_fits : (names : List (List ℕ)) (file capacity : ℕ)
    → FitForm (command_form (command_word (command.Resize file capacity)))
    (command_values names (command.Resize file capacity))
    → (1 ≤ capacity) × (capacity ≤ 1024)
unfolding command_values
capacity_fits names file capacity h = let k = h.each.1.0 in (k.0, k.1)

-- near or far
near : (t : Table) (x : Op) (file : ℕ) → (IsFile t file → IsNamed t x)
    → (length t.files ≤ file → IsFar (length t.files) x) → IsNamed t x ⊎ IsFar (length t.files) x
near t x file f g = ⊎_elim (λ below. inl (f below)) (λ beyond. inr (g beyond)) (cases_lt file (length t.files))

place_there : (s : Setup) (program : Option ℕ) → IfSome program (λ p. place_among p s.programs < length s.programs)
    → steer.IsPlace (length (opening_table s).programs) (place_of s program)
place_there s None h = tt
place_there s (Some p) h = let same = programs_are s in omega (arith, h, same)

abbrev Near : Setup → Op → Type 0
Near s x = IsNamed (opening_table s) x ⊎ IsFar (length (opening_table s).files) x

own : (s : Setup) (x y : Op) → Some x ≡ Some y → IsNamed (opening_table s) x → Near s y
own s x y is h = inl (subst (IsNamed (opening_table s)) (some_same x y is) h)

op_near : (s : Setup) (c : Command) (x : Op) → length s.names ≤ 64 → IsGoodCommand s c → IsOpOf s c x → Near s x
op_near s (command.SetIff file device flags) x few g h =
    let below = g.names.device in
    own s (op.SetIff file device flags) x h (is_file s _ file g.names refl, omega (arith, few, below))
op_near s (command.SetQueue file flags) x few g h = own s (op.SetQueue file flags) x h (is_file s _ file g.names refl)
op_near s (command.Close file) x few g h = own s (op.Shut file) x h (is_file s _ file g.names refl)
op_near s (command.Persist file on) x few g h = own s (op.Persist file on) x h (is_file s _ file g.names refl)
op_near s (command.HdrSize file size) x few g h = own s (op.HdrSize file size) x h (is_file s _ file g.names refl)
op_near s (command.Steer file program) x few g h =
    own s (op.Steering file (place_of s program)) x h
    (is_file s _ file g.names refl, place_there s program g.names.program)
op_near s (command.Filter file program) x few g h =
    own s (op.Filter file (place_of s program)) x h
    (is_file s _ file g.names refl, place_there s program g.names.program)
op_near s (command.Tick now) x few g h = own s (op.Tick now) x h tt
op_near s (command.Resize file capacity) x few g h =
    let fits = capacity_fits s.names file capacity g.form in
    own s (op.Resize file capacity) x h (is_file s _ file g.names refl, fits.0, fits.1)
op_near s (command.Write file bytes) x few g h = inl
    (subst (IsNamed (opening_table s)) (sym h.1) (is_file s _ file g.names refl))
op_near s (command.TxTurn vhost) x few g h = subst (Near s) (sym h.2)
    (near (opening_table s) (op.Learn h.0 h.1) h.0 (λ b. b) (λ b. b))
op_near s (command.Backend vhost ring (Some file)) x few g h = inl
    (subst (IsNamed (opening_table s)) (sym h.1) (is_file s _ file g.names refl))
op_near s (command.Backend vhost ring None) x few g h =
    subst (Near s) (sym h.2) (near (opening_table s) (op.Back h.1 (side_of ring) None) h.1 (λ b. b) (λ b. b))
op_near s c x few g h = none_some x h

pub tables_are_sound : NamesStay → ReachedIsSound → TablesAreSound
tables_are_sound stay sound s w laid ops =
    let t = opening_table (setup_of s) in
    let few = laid.names.few in
    let names = ap (λ (ns : List (List ℕ)). length ns) (names_are s) in
    let near_all = all_on (IsPublished (setup_of s) w) (IsNamedOrFar (length t.files) t)
    (λ p h. op_near (setup_of s) h.command.command p.op (omega (arith, few, names))
    (all_at (λ (c : Numbered). IsGoodCommand (setup_of s) c.command) (script_in h.phase p.actor) h.index h.command
    (script_good s p.phase p.actor h.phase laid h.is_phase) h.is_command) h.op)
    w.ops ops.published in
    let r = reached stay (length t.files) t w.ops refl near_all ops.lawful in
    subst steer.IsSound r.same (sound _ _ (setup_of s).flows r.named laid.flows.names r.lawful)
