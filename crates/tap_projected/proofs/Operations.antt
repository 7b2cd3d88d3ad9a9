-- The lines of operations are those of the world's operations, and the tables are the world's.
use Rattle.std.proofs.Common.{◌≡◌, ℕ, zero, suc, ◌+◌, ◌≤◌, ◌<◌, min, cond, List, [], ◌∷◌, ◌++◌, length, map, take, Option, Some, None, Bool, false, refl, sym, ap, ◌∙◌, subst, ⊎_elim, arith}
use Rattle.std.specs.Prelude.{◌==◌, filter, flat_map, option_map, option_to_list, slice_get, slice_index_or}
use Rattle.std.specs.List.{AllByRecursion}
use Rattle.std.specs.Str.{bytes_eq}
use Rattle.std.proofs.lemmas.Bool.{cases_Bool}
use Rattle.std.proofs.lemmas.Option.{slice_get-get_or, slice_get_within}
use Rattle.std.proofs.lemmas.Slice.Eq.{bytes_eq-Decides}
use Rattle.tap_steer.specs.declared.operation.Op.{Op}
use Rattle.tap_steer.specs.declared.operation.Op.TheVariants as op
use Rattle.tap_steer.specs.After.{after, after_all}
use Rattle.tap_steer.specs.Table.{Table}
use Rattle.scen_words.specs.declared.command.Command.{Command}
use Rattle.scen_words.specs.declared.command.Command.TheVariants as command
use Rattle.scen_text.specs.Before.{number_among}
use Rattle.scen_text.specs.declared.scenario.Line.{Line}
use Rattle.scen_text.specs.declared.scenario.Phase.{Phase}
use Rattle.scen_text.specs.declared.scenario.Scenario.{Scenario}
use Rattle.scen_laid.specs.Laid.{IsLaid}
use Rattle.scen_laid.specs.Phases.{IsLine, IsPhase}
use Rattle.tap_trace.specs.declared.trace.OpLine.{OpLine}
use Rattle.tap_world.specs.declared.told.Published.{Published}
use Rattle.tap_world.specs.Project.{command_of, op_line, phase_parts, with_versions, words_of}
use Rattle.tap_world.specs.Setup.{NamesDeclared, Setup, place_of, script_in, setup_of}
use Rattle.tap_world.specs.StepBackend.{side_of}
use Rattle.tap_world.specs.Steady.{IsOpOf, IsPublished, IsSteady, PhasesRise}
use Rattle.tap_world.specs.World.{World}
use Rattle.tap_sound.proofs.Kit.{some_same}
use Rattle.tap_legal.specs.Case.{table_after, tables_from}
use Rattle.tap_legal.specs.Numbered.{OpAt, asked_from, op_said, ops_at, ops_from}
use Rattle.tap_projected.specs.Projected.{IsOpLine, OpsAreTold, published_by, told_case}
use Rattle.tap_projected.proofs.Along.{Along, Rises, along_append, along_at, along_back, along_length, parted, parted_is}
use Rattle.tap_projected.proofs.Commands.{lines_of, names_are, phases_are, scripted}
use Rattle.tap_projected.proofs.Lists.{all_in, all_of, at_in, in_at, of_filter, same_number}

-- ---- the words of an operation are read as it

-- the number of the name at a place, where no two names are the same
number_is : (names : List (List ℕ)) → ((i j : ℕ) (name : List ℕ) → slice_get names i ≡ Some name → slice_get names j ≡ Some name → i ≡ j)
    → (device : ℕ) → device < length names → number_among names (slice_index_or names device []) ≡ device
unfolding number_among
number_is [] once device lt = absurd (omega (arith, lt))
number_is (n ∷ ns) once zero lt = ap (λ (b : Bool). cond b 0 (suc (number_among ns n))) ((bytes_eq-Decides n n).1 refl)
number_is (n ∷ ns) once (suc device) lt =
    let within : device < length ns = omega (arith, lt) in
    let name = slice_index_or ns device [] in
    let other : bytes_eq n name ≡ false = ⊎_elim
    (λ is.
    let same : n ≡ name = (bytes_eq-Decides n name).0 is in
    let at : slice_get ns device ≡ Some n = slice_get-get_or ns device [] within ∙ ap Some (sym same) in
    let never = once 0 (suc device) n refl at in
    absurd (omega (arith, never)))
    (λ is. is)
    (cases_Bool (bytes_eq n name)) in
    ap (λ (b : Bool). cond b 0 (suc (number_among ns name))) other
    ∙ ap suc (number_is ns (λ i j x p q. let e = once (suc i) (suc j) x p q in omega (arith, e)) device within)

abbrev IsReadBack : Setup → Command → Op → Type 0
IsReadBack s c x = op_said s (words_of s c x) ≡ Some x

own : (s : Setup) (c : Command) (y x : Op) → Some y ≡ Some x → IsReadBack s c y → IsReadBack s c x
own s c y x e h = subst (IsReadBack s c) (some_same y x e) h

given : (s : Setup) (c : Command) (y x : Op) → x ≡ y → IsReadBack s c y → IsReadBack s c x
given s c y x e h = subst (IsReadBack s c) (sym e) h

nothing : (s : Setup) (c : Command) (x : Op) → None ≡ Some x → IsReadBack s c x
nothing s c x e = absurd (cc e)

read_back : (s : Setup) → ((i j : ℕ) (name : List ℕ) → slice_get s.names i ≡ Some name → slice_get s.names j ≡ Some name → i ≡ j)
    → (c : Command) (x : Op) → IsOpOf s c x → NamesDeclared s c → IsReadBack s c x
read_back s once (command.SetIff file name flags) x h d =
    own s (command.SetIff file name flags) (op.SetIff file name flags) x h
    (ap (λ n. Some (op.SetIff file n flags)) (number_is s.names once name d.device))
read_back s once (command.SetQueue file flags) x h d = own s (command.SetQueue file flags) (op.SetQueue file flags) x h refl
read_back s once (command.Close file) x h d = own s (command.Close file) (op.Shut file) x h refl
read_back s once (command.Persist file on) x h d = own s (command.Persist file on) (op.Persist file on) x h refl
read_back s once (command.HdrSize file size) x h d = own s (command.HdrSize file size) (op.HdrSize file size) x h refl
read_back s once (command.Steer file program) x h d = own s (command.Steer file program) (op.Steering file (place_of s program)) x h refl
read_back s once (command.Filter file program) x h d = own s (command.Filter file program) (op.Filter file (place_of s program)) x h refl
read_back s once (command.Tick now) x h d = own s (command.Tick now) (op.Tick now) x h refl
read_back s once (command.Resize file capacity) x h d = own s (command.Resize file capacity) (op.Resize file capacity) x h refl
read_back s once (command.Write file bytes) x h d = given s (command.Write file bytes) (op.Learn file h.0) x h.1 refl
read_back s once (command.TxTurn vhost) x h d = given s (command.TxTurn vhost) (op.Learn h.0 h.1) x h.2 refl
read_back s once (command.Backend vhost ring (Some file)) x h d =
    given s (command.Backend vhost ring (Some file)) (op.Back file (side_of ring) (Some vhost)) x h.1 refl
read_back s once (command.Backend vhost ring None) x h d =
    given s (command.Backend vhost ring None) (op.Back h.1 (side_of ring) None) x h.2 refl
read_back s once (command.Send device hdr bytes) x h d = nothing s (command.Send device hdr bytes) x h
read_back s once (command.Read file room) x h d = nothing s (command.Read file room) x h
read_back s once (command.Features vhost bits) x h d = nothing s (command.Features vhost bits) x h
read_back s once (command.VNum vhost ring num) x h d = nothing s (command.VNum vhost ring num) x h
read_back s once (command.VBase vhost ring base) x h d = nothing s (command.VBase vhost ring base) x h
read_back s once (command.VAddr vhost ring desc avail used) x h d = nothing s (command.VAddr vhost ring desc avail used) x h
read_back s once (command.GetBase vhost ring) x h d = nothing s (command.GetBase vhost ring) x h
read_back s once (command.RxTurn vhost) x h d = nothing s (command.RxTurn vhost) x h
read_back s once (command.Poke guest addr bytes) x h d = nothing s (command.Poke guest addr bytes) x h
read_back s once (command.Peek guest addr len) x h d = nothing s (command.Peek guest addr len) x h
read_back s once (command.DriveAt vhost ring addr) x h d = nothing s (command.DriveAt vhost ring addr) x h
read_back s once (command.PostIn vhost ring lens) x h d = nothing s (command.PostIn vhost ring lens) x h
read_back s once (command.PostOut vhost ring bytes) x h d = nothing s (command.PostOut vhost ring bytes) x h
read_back s once (command.Harvest vhost ring) x h d = nothing s (command.Harvest vhost ring) x h

-- ---- an operation's command

-- what its line needs
record CanTell (s : Scenario) (p : Published) : Type 0 where
  command : Command
  is_command : command_of (setup_of s) p ≡ Some command
  asked : slice_get (asked_from 0 s.phases) p.command ≡ Some (record { told = published_by p; command = command })
  said : IsReadBack (setup_of s) command p.op

can_tell : (s : Scenario) (w : World) → IsLaid s → (p : Published) → IsPublished (setup_of s) w p → CanTell s p
can_tell s w laid p h =
    let at : slice_get s.phases p.phase ≡ Some h.phase = ap (λ (ps : List Phase). slice_get ps p.phase) (sym (phases_are s)) ∙ h.is_phase in
    let its = scripted s.phases p.phase p.actor h.phase h.command laid.numbers at
    (in_at (script_in h.phase p.actor) h.index h.command h.is_command) in
    let is_line : slice_get (lines_of (setup_of s).phases) p.command ≡ Some its.line =
    ap (λ (ps : List Phase). slice_get (lines_of ps) p.command) (phases_are s)
    ∙ subst (λ n. slice_get (lines_of s.phases) n ≡ Some its.line) h.number its.is_line in
    let phase = all_in (IsPhase (setup_of s)) s.phases h.phase laid.phases (in_at s.phases p.phase h.phase at) in
    let line = all_in (IsLine (setup_of s) h.phase.actors) h.phase.lines its.line phase.lines its.there in
    let named : NamesDeclared (setup_of s) h.command.command = subst (NamesDeclared (setup_of s)) its.command line.declared in
    let once : (i j : ℕ) (name : List ℕ) → slice_get (setup_of s).names i ≡ Some name → slice_get (setup_of s).names j ≡ Some name → i ≡ j =
    subst (λ (names : List (List ℕ)). (i j : ℕ) (name : List ℕ) → slice_get names i ≡ Some name → slice_get names j ≡ Some name → i ≡ j)
    (sym (names_are s)) laid.names.once in
    record {
      command = h.command.command;
      is_command = ap (λ (o : Option Line). option_map (λ (l : Line). l.command) o) is_line ∙ ap Some its.command;
      asked = subst (λ n. slice_get (asked_from 0 s.phases) n
          ≡ Some (record { told = record { phase = p.phase; actor = p.actor; command = n }; command = h.command.command })) h.number its.asked;
      said = read_back (setup_of s) once h.command.command p.op h.op named;
    }

-- ---- line by line

abbrev IsOf : Scenario → World → ℕ × Published → OpAt → Type 0
IsOf s w v o = IsOpLine (told_case s w) v.0 v.1 o

abbrev line_by : Scenario → ℕ × Published → List OpLine
line_by s v = option_to_list (op_line (setup_of s) v)

told_ops : (s : Scenario) (w : World) (n : ℕ) (vs : List (ℕ × Published)) (line : ℕ) → AllByRecursion (λ (v : ℕ × Published). CanTell s v.1 × (v.1.phase ≡ n)) vs
    → Along (IsOf s w) vs (ops_from (setup_of s) line n (flat_map (line_by s) vs))
told_ops s w n [] line all = tt
told_ops s w n (v ∷ vs) line all =
    let h = all.0.0 in
    let rest = flat_map (line_by s) vs in
    let told = ap (λ (o : Option Command). ops_from (setup_of s) line n (option_to_list
    (option_map (λ (c : Command). record { version = v.0; command = v.1.command; text = words_of (setup_of s) c v.1.op }) o) ++ rest)) h.is_command in
    subst (Along (IsOf s w) (v ∷ vs)) (sym told) (
      record { command = h.command; is_command = h.is_command; asked = h.asked; phase = sym all.0.1; line = refl; op = h.said },
      told_ops s w n vs (line + 1) all.1,
    )

abbrev phase_of : ℕ × Published → ℕ
phase_of v = v.1.phase

phases_told : (s : Scenario) (w : World) (n : ℕ) (ps : List Phase) (line : ℕ) → AllByRecursion (λ (v : ℕ × Published). CanTell s v.1) (with_versions 1 w.ops)
    → Along (IsOf s w) (parted phase_of n ps (with_versions 1 w.ops)) (ops_at (setup_of s) line n (phase_parts (setup_of s) w n ps))
phases_told s w n [] line all = tt
phases_told s w n (p ∷ ps) line all =
    let vs = with_versions 1 w.ops in
    let mine = filter (λ (v : ℕ × Published). phase_of v == n) vs in
    let each = all_of (λ (v : ℕ × Published). CanTell s v.1 × (v.1.phase ≡ n)) mine (λ v i.
    let kept = of_filter (λ (u : ℕ × Published). phase_of u == n) vs v i in
    (all_in (λ (u : ℕ × Published). CanTell s u.1) vs v all kept.0, same_number v.1.phase n kept.1)) in
    along_append (IsOf s w) mine (parted phase_of (n + 1) ps vs) _ _ (told_ops s w n mine (line + 1) each) (phases_told s w (n + 1) ps _ all)

-- ---- versions

versions_all : (P : Published → Type 0) (n : ℕ) (ps : List Published) → AllByRecursion P ps → AllByRecursion (λ (v : ℕ × Published). P v.1) (with_versions n ps)
versions_all P n [] all = tt
versions_all P n (p ∷ ps) all = (all.0, versions_all P (n + 1) ps all.1)

versions_rise : (n : ℕ) (ps : List Published) → PhasesRise ps → Rises phase_of (with_versions n ps)
versions_rise n [] h = tt
versions_rise n (p ∷ ps) h = (
  versions_all (λ (q : Published). p.phase ≤ q.phase) (n + 1) ps
      (all_of (λ (q : Published). p.phase ≤ q.phase) ps (λ q i. let k = at_in ps q i in h 0 (suc k.0) p q (omega arith) refl k.1)),
  versions_rise (n + 1) ps (λ i j q r le at_q at_r. h (suc i) (suc j) q r (omega (arith, le)) at_q at_r),
)

version_at : (n : ℕ) (ps : List Published) (i : ℕ) (p : Published) → slice_get ps i ≡ Some p → slice_get (with_versions n ps) i ≡ Some (n + i, p)
version_at n [] i p e = absurd (cc (e))
version_at n (q ∷ ps) zero p e = ap (λ (r : Published). Some (n, r)) (some_same q p e) ∙ ap (λ m. Some (m, p)) (let z : n ≡ n + 0 = omega arith in z)
version_at n (q ∷ ps) (suc i) p e =
    version_at (n + 1) ps i p e ∙ ap (λ m. Some (m, p)) (let z : n + 1 + i ≡ n + suc i = omega arith in z)

of_version_at : (n : ℕ) (ps : List Published) (i : ℕ) (v : ℕ × Published) → slice_get (with_versions n ps) i ≡ Some v
    → (slice_get ps i ≡ Some v.1) × (v.0 ≡ n + i)
of_version_at n [] i v e = absurd (cc (e))
of_version_at n (q ∷ ps) zero v e =
    let same : (n, q) ≡ v = some_same (n, q) v e in
    let number = ap (λ (u : ℕ × Published). u.0) same in
    (ap (λ (u : ℕ × Published). Some u.1) same, omega (arith, number))
of_version_at n (q ∷ ps) (suc i) v e = let r = of_version_at (n + 1) ps i v e in let number = r.1 in (r.0, omega (arith, number))

length_versions : (n : ℕ) (ps : List Published) → length (with_versions n ps) ≡ length ps
length_versions n [] = refl
length_versions n (p ∷ ps) = ap suc (length_versions (n + 1) ps)

-- ---- tables

abbrev SameOp : Published → OpAt → Type 0
SameOp p o = o.op ≡ Some p.op

same_ops : (s : Scenario) (w : World) (n : ℕ) (ps : List Published) (os : List OpAt) → Along (IsOf s w) (with_versions n ps) os → Along SameOp ps os
same_ops s w n [] [] h = tt
same_ops s w n (p ∷ ps) (o ∷ os) h = (h.0.op, same_ops s w (n + 1) ps os h.1)
same_ops s w n [] (o ∷ os) h = absurd h
same_ops s w n (p ∷ ps) [] h = absurd h

take_none : {X : Type 0} (n : ℕ) → take {A = X} n [] ≡ []
take_none zero = refl
take_none (suc n) = refl

table_told : (ps : List Published) (os : List OpAt) (t d : Table) (version : ℕ) → Along SameOp ps os
    → slice_index_or (tables_from t os) (min version (length os)) d ≡ after_all t (map (λ (p : Published). p.op) (take version ps))
table_told [] [] t d version h =
    let none : min version 0 ≡ 0 = omega arith in
    ap (λ k. slice_index_or (t ∷ []) k d) none ∙ sym (ap (λ (l : List Published). after_all t (map (λ (p : Published). p.op) l)) (take_none version))
table_told (p ∷ ps) (o ∷ os) t d zero h =
    let none : min 0 (suc (length os)) ≡ 0 = omega arith in
    ap (λ k. slice_index_or (t ∷ tables_from (table_after t o.op) os) k d) none
table_told (p ∷ ps) (o ∷ os) t d (suc version) h =
    let next : min (suc version) (suc (length os)) ≡ suc (min version (length os)) = omega arith in
    ap (λ k. slice_index_or (t ∷ tables_from (table_after t o.op) os) k d) next
    ∙ ap (λ (x : Option Op). slice_index_or (tables_from (table_after t x) os) (min version (length os)) d) h.0
    ∙ table_told ps os (after t p.op) d version h.1
table_told [] (o ∷ os) t d version h = absurd h
table_told (p ∷ ps) [] t d version h = absurd h

-- ---- all of it

ops_along : (s : Scenario) (w : World) → IsLaid s → IsSteady (setup_of s) w → Along (IsOf s w) (with_versions 1 w.ops) (told_case s w).ops
ops_along s w laid steady =
    let published = steady.ops.published in
    let can = versions_all (CanTell s) 1 w.ops (all_of (CanTell s) w.ops (λ p i.
    can_tell s w laid p (all_in (IsPublished (setup_of s) w) w.ops p published i))) in
    let from = versions_all (λ (p : Published). 0 ≤ p.phase) 1 w.ops (all_of (λ (p : Published). 0 ≤ p.phase) w.ops (λ p i. omega arith)) in
    let below = versions_all (λ (p : Published). p.phase < 0 + length (setup_of s).phases) 1 w.ops
    (all_of (λ (p : Published). p.phase < 0 + length (setup_of s).phases) w.ops (λ p i.
    let h = all_in (IsPublished (setup_of s) w) w.ops p published i in
    let within = slice_get_within (setup_of s).phases p.phase h.phase h.is_phase in
    omega (arith, within))) in
    subst (λ (vs : List (ℕ × Published)). Along (IsOf s w) vs (told_case s w).ops)
    (parted_is phase_of 0 (setup_of s).phases (with_versions 1 w.ops) (versions_rise 1 w.ops steady.ops.rise) from below)
    (phases_told s w 0 (setup_of s).phases 2 can)

pub ops_are_told : (s : Scenario) (w : World) → IsLaid s → IsSteady (setup_of s) w → OpsAreTold (setup_of s) w (told_case s w)
ops_are_told s w laid steady =
    let along = ops_along s w laid steady in
    let vs = with_versions 1 w.ops in
    record {
      count = along_length (IsOf s w) vs (told_case s w).ops along ∙ length_versions 1 w.ops;
      each = λ i p e.
          let r = along_at (IsOf s w) vs (told_case s w).ops i (1 + i, p) along (version_at 1 w.ops i p e) in
          (r.0, r.1, subst (λ n. IsOpLine (told_case s w) n p r.0) (let z : 1 + i ≡ suc i = omega arith in z) r.2);
      only = λ i o e.
          let r = along_back (IsOf s w) vs (told_case s w).ops i o along e in
          let v = of_version_at 1 w.ops i r.0 r.1 in
          let number = v.1 in
          (r.0.1, v.0, subst (λ n. IsOpLine (told_case s w) n r.0.1 o) (let z : r.0.0 ≡ suc i = omega (arith, number) in z) r.2);
      tables = λ version. table_told w.ops (told_case s w).ops _ _ version (same_ops s w 1 w.ops (told_case s w).ops along);
    }
