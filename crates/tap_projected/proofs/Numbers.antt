-- CLAIMED, FREED and the room of each file.
use Rattle.std.proofs.Common.{◌≡◌, ℕ, zero, suc, ◌+◌, ◌≤◌, cond, List, [], ◌∷◌, length, map, Option, Some, None, Bool, true, false, refl, sym, ap, ◌∙◌, subst, true≢false, arith}
use Rattle.std.specs.Prelude.{if◌then◌else◌, not, filter, option_map, slice_get}
use Rattle.std.specs.List.{AllByRecursion}
use Rattle.std.specs.Option.{option_map_or}
use Rattle.std.proofs.lemmas.List.{take_all}
use Rattle.tap_ledger.specs.declared.fate.Fate.{Fate}
use Rattle.tap_ledger.specs.declared.fate.Fate.TheVariants as fate
use Rattle.tap_steer.specs.After.{after_all}
use Rattle.tap_steer.specs.Table.{Table, file_at}
use Rattle.scen_text.specs.declared.scenario.Scenario.{Scenario}
use Rattle.tap_trace.specs.declared.trace.PlaceLine.{PlaceLine}
use Rattle.tap_world.specs.declared.line.Entry.{Entry}
use Rattle.tap_world.specs.declared.line.Standing.{Standing}
use Rattle.tap_world.specs.declared.line.Standing.TheVariants.{Batched, Claimed, Cut, Out, Ready}
use Rattle.tap_world.specs.declared.told.Published.{Published}
use Rattle.tap_world.specs.ByNumber.{at}
use Rattle.tap_world.specs.Line.{File, claimed, count, fate_of, freed, in_batch, in_ring}
use Rattle.tap_world.specs.Project.{file_part, place_lines}
use Rattle.tap_world.specs.Setup.{Declared, Setup, opening_table, setup_of}
use Rattle.tap_world.specs.Sound.{IsSound, has_left, table_capacity}
use Rattle.tap_world.specs.SoundTable.{Agreed, commanded, expected, of_table, writer_of, writing}
use Rattle.tap_world.specs.Steady.{IsThere}
use Rattle.tap_world.specs.World as world
use Rattle.tap_world.specs.World.{Actor, Doing, World, table}
use Rattle.tap_world.specs.World.Doing.{Begun}
use Rattle.tap_sound.proofs.Kit.{some_same, then_some}
use Rattle.tap_legal.specs.Lookups.{table_at}
use Rattle.tap_legal.specs.Takes.{waits}
use Rattle.tap_sights.specs.LineFacts.{FileTells}
use Rattle.tap_projected.specs.Laws.{EachFileTells}
use Rattle.tap_projected.specs.Projected.{FilesAreTold, OpsAreTold, told_case}
use Rattle.tap_projected.proofs.Files.{of_place}

-- ---- how many entries have left

length_lines : (place : ℕ) (es : List Entry) → length (place_lines place es) ≡ length es
length_lines place [] = refl
length_lines place (e ∷ es) = ap suc (length_lines (place + 1) es)

count_few : (test : Standing → Bool) (es : List Entry) → count test es ≤ length es
count_few test [] = omega arith
count_few test (e ∷ es) = let rest = count_few test es in one (test e.stands) rest
  where
    one : (b : Bool) → count test es ≤ length es → (if b then 1 else 0) + count test es ≤ suc (length es)
    one true h = omega (arith, h)
    one false h = omega (arith, h)

abbrev one_if : Bool → ℕ
one_if b = if b then 1 else 0

has_gone : (x : Fate) → has_left (Out x) ≡ true → waits x ≡ false
has_gone fate.Waiting e = absurd (true≢false (sym e))
has_gone x e = refl

-- an entry has its place free again where it has left, or is in the batch
one_left : (x : Standing) → has_left x ≡ true → one_if (not (in_ring x)) ≡ one_if (not (waits (fate_of x))) + one_if (in_batch x)
one_left (Claimed actor) e = refl
one_left Ready e = refl
one_left Batched e = refl
one_left Cut e = refl
one_left (Out x) e = ap (λ (b : Bool). one_if (not b) + 0) (sym (has_gone x e))

abbrev left_of : List PlaceLine → ℕ
left_of ls = length (filter (λ (l : PlaceLine). not (waits l.fate)) ls)

one_more : (b : Bool) (l : PlaceLine) (ls : List PlaceLine) → length (cond b (l ∷ ls) ls) ≡ one_if b + length ls
one_more true l ls = omega arith
one_more false l ls = omega arith

all_left : (place : ℕ) (es : List Entry) → AllByRecursion (λ (e : Entry). has_left e.stands ≡ true) es
    → count (λ s. not (in_ring s)) es ≡ left_of (place_lines place es) + count in_batch es
all_left place [] all = refl
all_left place (e ∷ es) all =
    let one = one_left e.stands all.0 in
    let rest = all_left (place + 1) es all.1 in
    let line : PlaceLine = record { place = place; epoch = e.epoch; name = e.name; len = e.len; fate = fate_of e.stands } in
    let more = one_more (not (waits (fate_of e.stands))) line (filter (λ (l : PlaceLine). not (waits l.fate)) (place_lines (place + 1) es)) in
    omega (arith, one, rest, more)

-- ---- the capacity of the end

module _ (s : Scenario) (w : World) (done : (actor : ℕ) (a : Actor) → slice_get w.actors actor ≡ Some a → (a.script ≡ []) × (a.doing ≡ Begun)) where
  nothing_written : writing w ≡ Begun
  nothing_written = go (writer_of w) refl
    where
      go : (o : Option Actor) → writer_of w ≡ o → option_map_or (λ (a : Actor). a.doing) o Begun ≡ Begun
      go None e = refl
      go (Some a) e = let r = then_some w.writer (λ actor. slice_get w.actors actor) a e in (done r.0 a r.2).1

  its_capacity : IsSound (setup_of s) w → (file : ℕ) (f : File) → at w.files file ≡ Some f → f.capacity ≡ table_capacity file (table (setup_of s) w)
  its_capacity sound file f e =
      let agrees = sound.tabled.agrees file f e in
      ap (λ (x : Agreed). x.capacity)
      (agrees ∙ ap (λ (d : Doing). expected d (commanded w) file (of_table (table (setup_of s) w) file)) nothing_written)

  last_table : OpsAreTold (setup_of s) w (told_case s w) → table_at (told_case s w) (length (told_case s w).ops) ≡ table (setup_of s) w
  last_table ops =
      ops.tables (length (told_case s w).ops)
      ∙ ap (λ n. world.table_at (setup_of s) w n) ops.count
      ∙ ap (λ (ps : List Published). after_all (opening_table (setup_of s)) (map (λ (p : Published). p.op) ps))
      (take_all (length w.ops) w.ops (omega arith))

-- ---- the declared file

at_mapped : {A B : Type 0} (f : A → B) (xs : List (Option A)) (k : ℕ) → at (map (λ x. option_map f x) xs) k ≡ option_map f (at xs k)
at_mapped f [] k = refl
at_mapped f (x ∷ xs) zero = refl
at_mapped f (x ∷ xs) (suc k) = at_mapped f xs k

is_declared : (s : Setup) (w : World) → IsThere s w → (file : ℕ) (f : File) → at w.files file ≡ Some f
    → (d : Declared) × (at s.files file ≡ Some d) × (f.first ≡ d.first)
is_declared s w there file f e = go (at s.files file) refl same
  where
    same : Some f.first ≡ option_map (λ (x : Declared). x.first) (at s.files file)
    same =
        sym (ap (λ (o : Option File). option_map (λ (x : File). x.first) o) e) ∙ sym (at_mapped (λ (x : File). x.first) w.files file)
        ∙ ap (λ (q : List (Option ℕ)). at q file) there.files ∙ at_mapped (λ (x : Declared). x.first) s.files file

    go : (o : Option Declared) → at s.files file ≡ o → Some f.first ≡ option_map (λ (x : Declared). x.first) o
        → (d : Declared) × (at s.files file ≡ Some d) × (f.first ≡ d.first)
    go None is k = absurd (cc (k))
    go (Some d) is k = (d, is, some_same f.first d.first k)

-- ---- all of it

module _ (s : Scenario) (w : World) (done : (actor : ℕ) (a : Actor) → slice_get w.actors actor ≡ Some a → (a.script ≡ []) × (a.doing ≡ Begun))
    (sound : IsSound (setup_of s) w) (there : IsThere (setup_of s) w) (ops : OpsAreTold (setup_of s) w (told_case s w))
    (files : FilesAreTold w (told_case s w)) where
  part_tells : (line file : ℕ) (f : File) (d : Declared) → at w.files file ≡ Some f → f.first ≡ d.first
      → FileTells (told_case s w) (record { line = line; part = file_part (file, f) }) d
  part_tells line file f d e first =
      let room = sound.lines file f e in
      let long = length_lines f.first f.line in
      let few = count_few (λ x. not (in_ring x)) f.line in
      let left = all_left f.first f.line room.fates in
      let batch = room.ordered.batch in
      let ring = room.ring in
      let capacity = its_capacity s w done sound file f e in
      let table_is = last_table s w done ops in
      record {
        places = λ i l is.
            let r = of_place f.first f.line i l is in
            let place = ap (λ (x : PlaceLine). x.place) r.2 in
            omega (arith, place, first);
        claimed = omega (arith, first, long);
        last = room.ordered.places;
        freed = omega (arith, few);
        room = subst (λ (t : Table). claimed f ≤ freed f + (file_at t file).capacity) (sym table_is) (omega (arith, ring, capacity));
        left_from = omega (arith, first, left);
        left_to = omega (arith, first, left, batch);
      }

  pub files_tell : EachFileTells (told_case s w)
  files_tell x i =
      let f = files.only x i in
      let d = is_declared (setup_of s) w there x.part.file f.0 f.1 in (
        d.0,
        d.1,
        subst (λ p. FileTells (told_case s w) (record { line = x.line; part = p }) d.0) (sym f.2) (part_tells x.line x.part.file f.0 d.0 f.1 d.2),
      )
