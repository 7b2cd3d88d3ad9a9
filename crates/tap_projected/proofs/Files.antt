-- The parts of files are the world's files, and their entries the files' lines.
use Rattle.std.proofs.Common.{◌≡◌, ℕ, zero, suc, ◌+◌, List, [], ◌∷◌, length, map, Option, Some, None, Bool, true, refl, sym, ap, ◌∙◌, subst, inl, inr, arith}
use Rattle.std.specs.Prelude.{◌==◌, ◌&&◌, filter, find, flat_map, slice_get}
use Rattle.std.proofs.lemmas.Bool.{and_from, and_parts, eqb-true}
use Rattle.scen_text.specs.declared.scenario.Scenario.{Scenario}
use Rattle.tap_trace.specs.declared.trace.FilePart.{FilePart}
use Rattle.tap_trace.specs.declared.trace.PlaceLine.{PlaceLine}
use Rattle.tap_world.specs.declared.line.Entry.{Entry}
use Rattle.tap_world.specs.ByNumber.{at, numbered}
use Rattle.tap_world.specs.Line.{File, fate_of}
use Rattle.tap_world.specs.Project.{file_part, place_lines, project}
use Rattle.tap_world.specs.Setup.{setup_of}
use Rattle.tap_world.specs.World.{World}
use Rattle.tap_sound.proofs.Kit.{some_same}
use Rattle.tap_sound.proofs.Turned.{itself}
use Rattle.tap_legal.specs.Numbered.{EntryAt, FileAt, behind_phases, entries_from, entries_of, files_at}
use Rattle.tap_sights.specs.Sight.{In}
use Rattle.tap_projected.specs.Projected.{FilesAreTold, entry_line, told_case}
use Rattle.tap_projected.proofs.Blocks.{Blocks, block_at, in_numbered, of_blocks, of_numbered}
use Rattle.tap_projected.proofs.Lists.{at_in, found, in_at, in_map, of_filter, of_map}

-- ---- parts

parts_are : (line : ℕ) (fs : List FilePart) → map (λ (x : FileAt). x.part) (files_at line fs) ≡ fs
parts_are line [] = refl
parts_are line (f ∷ fs) = ap (λ t. f ∷ t) (parts_are (line + 1 + length f.lines) fs)

-- ---- entries of a line

pub place_at : (place : ℕ) (es : List Entry) (i : ℕ) (x : Entry) → slice_get es i ≡ Some x
    → slice_get (place_lines place es) i ≡ Some (record { place = place + i; epoch = x.epoch; name = x.name; len = x.len; fate = fate_of x.stands })
place_at place [] i x e = absurd (cc (e))
place_at place (y ∷ es) zero x e =
    ap (λ (z : Entry). Some (record { place = place; epoch = z.epoch; name = z.name; len = z.len; fate = fate_of z.stands })) (some_same y x e)
    ∙ ap (λ p. Some (record { place = p; epoch = x.epoch; name = x.name; len = x.len; fate = fate_of x.stands }))
    (let z : place ≡ place + 0 = omega arith in z)
place_at place (y ∷ es) (suc i) x e =
    place_at (place + 1) es i x e
    ∙ ap (λ p. Some (record { place = p; epoch = x.epoch; name = x.name; len = x.len; fate = fate_of x.stands }))
    (let z : place + 1 + i ≡ place + suc i = omega arith in z)

pub of_place : (place : ℕ) (es : List Entry) (i : ℕ) (l : PlaceLine) → slice_get (place_lines place es) i ≡ Some l
    → (x : Entry) × (slice_get es i ≡ Some x)
    × (l ≡ record { place = place + i; epoch = x.epoch; name = x.name; len = x.len; fate = fate_of x.stands })
of_place place [] i l e = absurd (cc (e))
of_place place (y ∷ es) zero l e = (
  y,
  refl,
  sym (some_same _ l e) ∙ ap (λ p. record { place = p; epoch = y.epoch; name = y.name; len = y.len; fate = fate_of y.stands })
      (let z : place ≡ place + 0 = omega arith in z),
)
of_place place (y ∷ es) (suc i) l e =
    let r = of_place (place + 1) es i l e in (
      r.0,
      r.1,
      r.2 ∙ ap (λ p. record { place = p; epoch = r.0.epoch; name = r.0.name; len = r.0.len; fate = fate_of r.0.stands })
          (let z : place + 1 + i ≡ place + suc i = omega arith in z),
    )

-- ---- entries of files

abbrev pub line_by : File → List PlaceLine
line_by f = place_lines f.first f.line

abbrev pub file_in : EntryAt → ℕ
file_in e = e.file

abbrev pub at_in_line : EntryAt → PlaceLine
at_in_line e = e.at

entries_are : (line file : ℕ) (ls : List PlaceLine) → map at_in_line (entries_from line file ls) ≡ ls
entries_are line file [] = refl
entries_are line file (l ∷ ls) = ap (λ t. l ∷ t) (entries_are (line + 1) file ls)

entries_of_file : (line file : ℕ) (ls : List PlaceLine) (e : EntryAt) → In e (entries_from line file ls) → e.file ≡ file
entries_of_file line file [] e i = absurd i
entries_of_file line file (l ∷ ls) e (inl same) = ap (λ (x : EntryAt). x.file) (sym same)
entries_of_file line file (l ∷ ls) e (inr i) = entries_of_file (line + 1) file ls e i

entry_blocks : (n line : ℕ) (fs : List (Option File))
    → Blocks line_by file_in at_in_line n fs (flat_map entries_of (files_at line (map file_part (numbered n fs))))
entry_blocks n line [] = refl
entry_blocks n line (None ∷ fs) = entry_blocks (n + 1) line fs
entry_blocks n line (Some f ∷ fs) = (
  entries_from (line + 1) n (line_by f),
  flat_map entries_of (files_at (line + 1 + length (line_by f)) (map file_part (numbered (n + 1) fs))),
  refl,
  entries_of_file (line + 1) n (line_by f),
  entries_are (line + 1) n (line_by f),
  entry_blocks (n + 1) (line + 1 + length (line_by f)) fs,
)

pub entries_in_blocks : (s : Scenario) (w : World) → Blocks line_by file_in at_in_line 0 w.files (told_case s w).entries
entries_in_blocks s w = entry_blocks 0 (behind_phases 2 (project (setup_of s) w).phases) w.files

abbrev is_entry : ℕ → ℕ → EntryAt → Bool
is_entry file place e = e.file == file && e.at.place == place

-- entries at one index of one file have one line
same_line : (f g : File) (i j : ℕ) (x y : Entry) → g ≡ f → j ≡ i → slice_get g.line j ≡ Some y → slice_get f.line i ≡ Some x
    → entry_line g j y ≡ entry_line f i x
same_line f g i j x y same index at_y at_x =
    let stands : slice_get g.line j ≡ slice_get f.line i = λ k. slice_get (same k).line (index k) in
    let one : y ≡ x = some_same y x (sym at_y ∙ stands ∙ at_x) in
    λ k. entry_line (same k) (index k) (one k)

-- ---- all of it

module _ (s : Scenario) (w : World) where
  parts : map (λ (x : FileAt). x.part) (told_case s w).files ≡ map file_part (numbered 0 w.files)
  parts = parts_are (behind_phases 2 (project (setup_of s) w).phases) (map file_part (numbered 0 w.files))

  a_file : (x : FileAt) → In x (told_case s w).files → (f : File) × (at w.files x.part.file ≡ Some f) × (x.part ≡ file_part (x.part.file, f))
  a_file x i =
      let told = subst (In x.part) parts (in_map (λ (y : FileAt). y.part) (told_case s w).files x i) in
      let v = of_map file_part (numbered 0 w.files) x.part told in
      let n = of_numbered 0 w.files v.0 v.1 in
      let is = n.is in
      let file : v.0.0 ≡ x.part.file = ap (λ (p : FilePart). p.file) v.2 in
      let number : n.k ≡ x.part.file = omega (arith, is, file) in (
        v.0.1,
        subst (λ m. at w.files m ≡ Some v.0.1) number n.there,
        sym v.2 ∙ ap (λ m. file_part (m, v.0.1)) file,
      )

  the_file : (file : ℕ) (f : File) → at w.files file ≡ Some f → (x : FileAt) × In x (told_case s w).files × (x.part ≡ file_part (file, f))
  the_file file f e =
      let there = subst (λ m. In (m, f) (numbered 0 w.files)) (let z : 0 + file ≡ file = omega arith in z) (in_numbered 0 file w.files f e) in
      let told = subst (In (file_part (file, f))) (sym parts) (in_map file_part (numbered 0 w.files) (file, f) there) in
      of_map (λ (y : FileAt). y.part) (told_case s w).files (file_part (file, f)) told

  an_entry : (e : EntryAt) → In e (told_case s w).entries
      → (f : File) × (i : ℕ) × (x : Entry) × (at w.files e.file ≡ Some f) × (slice_get f.line i ≡ Some x) × (e.at ≡ entry_line f i x)
  an_entry e i =
      let r = of_blocks line_by file_in at_in_line 0 w.files (told_case s w).entries e (entries_in_blocks s w) i in
      let is = r.2 in
      let number : r.0 ≡ e.file = omega (arith, is) in
      let k = at_in (line_by r.1) e.at r.4 in
      let x = of_place r.1.first r.1.line k.0 e.at k.1 in
      (r.1, k.0, x.0, subst (λ m. at w.files m ≡ Some r.1) number r.3, x.1, x.2)

  lines : (file : ℕ) (f : File) → at w.files file ≡ Some f
      → map (λ (e : EntryAt). e.at) (filter (λ (e : EntryAt). e.file == file) (told_case s w).entries) ≡ place_lines f.first f.line
  lines file f e =
      ap (λ m. map at_in_line (filter (λ (y : EntryAt). y.file == m) (told_case s w).entries)) (let z : file ≡ 0 + file = omega arith in z)
      ∙ block_at line_by file_in at_in_line 0 file w.files (told_case s w).entries f (entries_in_blocks s w) e

  -- the line has an entry at its place
  some_entry : (file i : ℕ) (f : File) (x : Entry) → at w.files file ≡ Some f → slice_get f.line i ≡ Some x
      → (e : EntryAt) × In e (told_case s w).entries × (is_entry file (f.first + i) e ≡ true)
  some_entry file i f x there at_x =
      let told = in_at (line_by f) i (entry_line f i x) (place_at f.first f.line i x at_x) in
      let its = of_map at_in_line (filter (λ (e : EntryAt). e.file == file) (told_case s w).entries) (entry_line f i x)
      (subst (In (entry_line f i x)) (sym (lines file f there)) told) in
      let kept = of_filter (λ (e : EntryAt). e.file == file) (told_case s w).entries its.0 its.1 in
      let place = ap (λ (l : PlaceLine). l.place == f.first + i) its.2 ∙ itself (f.first + i) in
      (its.0, kept.0, and_from (its.0.file == file) (its.0.at.place == f.first + i) kept.1 place)

  -- and an entry at that place is it
  is_the_entry : (file i : ℕ) (f : File) (x : Entry) → at w.files file ≡ Some f → slice_get f.line i ≡ Some x → (e : EntryAt)
      → In e (told_case s w).entries → is_entry file (f.first + i) e ≡ true → (e.file ≡ file) × (e.at ≡ entry_line f i x)
  is_the_entry file i f x there at_x e here test =
      let parts = and_parts (e.file == file) (e.at.place == f.first + i) test in
      let own = eqb-true e.file file parts.0 in
      let at_place = eqb-true e.at.place (f.first + i) parts.1 in
      let r = an_entry e here in
      let same : r.0 ≡ f = some_same r.0 f (sym r.3 ∙ ap (λ m. at w.files m) own ∙ there) in
      let begins = ap (λ (g : File). g.first) same in
      let stands = ap (λ (l : PlaceLine). l.place) r.5 in
      let index : r.1 ≡ i = omega (arith, begins, stands, at_place) in
      (own, r.5 ∙ same_line f r.0 i r.1 x r.2 same index r.4 at_x)

  the_entry : (file i : ℕ) (f : File) (x : Entry) → at w.files file ≡ Some f → slice_get f.line i ≡ Some x
      → (e : EntryAt) × (find (is_entry file (f.first + i)) (told_case s w).entries ≡ Some e) × In e (told_case s w).entries × (e.file ≡ file)
      × (e.at ≡ entry_line f i x)
  the_entry file i f x there at_x =
      let its = some_entry file i f x there at_x in
      let first = found (is_entry file (f.first + i)) (told_case s w).entries its.0 its.1 its.2 in
      let r = is_the_entry file i f x there at_x first.0 first.2 first.3 in
      (first.0, first.1, first.2, r.0, r.1)

  -- a part of a file is its
  is_the_file : (file : ℕ) (f : File) → at w.files file ≡ Some f → (x : FileAt) → In x (told_case s w).files → (x.part.file == file) ≡ true
      → x.part ≡ file_part (file, f)
  is_the_file file f there x i test =
      let own = eqb-true x.part.file file test in
      let g = a_file x i in
      let same : g.0 ≡ f = some_same g.0 f (sym g.1 ∙ ap (λ m. at w.files m) own ∙ there) in
      g.2 ∙ (λ k. file_part (own k, same k))

  pub files_are_told : FilesAreTold w (told_case s w)
  files_are_told = record {
    parts = parts;
    each = λ file f e.
        let x = the_file file f e in
        let number = ap (λ (p : FilePart). p.file == file) x.2 ∙ itself file in
        let first = found (λ (y : FileAt). y.part.file == file) (told_case s w).files x.0 x.1 number in
        (first.0, first.1, first.2, is_the_file file f e first.0 first.2 first.3);
    only = a_file;
    lines = lines;
    entries = the_entry;
    only_entries = an_entry;
  }
