-- Where files and entries stand in a trace: each number has one file, and each place of a file one entry.
use Rattle.std.proofs.Common.{◌≡◌, ◌⊎◌, ℕ, suc, ◌+◌, ◌≤◌, ◌<◌, List, [], ◌∷◌, Option, Some, None, true, refl, sym, ap, ◌∙◌, subst, inl, inr, arith}
use Rattle.std.specs.Prelude.{◌==◌, ◌&&◌, slice_get}
use Rattle.std.specs.List.{AllZip, list_any}
use Rattle.std.specs.Option.{option_map_or}
use Rattle.std.proofs.lemmas.Bool.{and_from, and_parts, eq-eqb, eqb-true, lt-ltb}
use Rattle.tap_trace.specs.declared.trace.PlaceLine.{PlaceLine}
use Rattle.tap_world.specs.ByNumber.{numbered}
use Rattle.tap_world.specs.Setup.{Declared}
use Rattle.tap_legal.specs.Numbered.{EntryAt, FileAt, entries_from, entries_of}
use Rattle.tap_legal.specs.Case.{Case, fails_each, fails_wanted, of_entry, of_file}
use Rattle.tap_legal.specs.Lookups.{declared, entry_at, part_of}
use Rattle.tap_legal.specs.LegalLines.{files_rise, has_its_place, is_file, is_in_place}
use Rattle.tap_sights.specs.Sight.{In, Ordered}
use Rattle.tap_sights.specs.Sights.{Sighted}
use Rattle.tap_sights.proofs.Kit.{both_none, in_order, none_breaks, none_fails}
use Rattle.tap_sights.proofs.LinesKit.{finds, in_flat, is_there, is_wanted, order_flat, paired}

-- ---- files

abbrev pub IsFileBelow : FileAt → FileAt → Type 0
IsFileBelow f g = f.part.file < g.part.file

-- files that are the declared ones have numbers from the first one on, which rise
rise_from : (n : ℕ) (ds : List (Option Declared)) (fs : List FileAt) → AllZip (λ d f. is_file d f ≡ true) (numbered n ds) fs
    → ((f : FileAt) → In f fs → n ≤ f.part.file) × Ordered IsFileBelow fs
rise_from n [] [] z = (λ f i. absurd i, tt)
rise_from n [] (f ∷ fs) z = absurd z
rise_from n (None ∷ ds) fs z =
    let r = rise_from (n + 1) ds fs z in
    (λ f i. let l = r.0 f i in omega (arith, l), r.1)
rise_from n (Some d ∷ ds) [] z = absurd z
rise_from n (Some d ∷ ds) (f ∷ fs) z =
    let r = rise_from (n + 1) ds fs z.1 in
    let is = eqb-true f.part.file n z.0 in
    (λ g i. from is r.0 g i, (λ g i. let l = r.0 g i in omega (arith, l, is), r.1))
  where
    from : f.part.file ≡ n → ((g : FileAt) → In g fs → n + 1 ≤ g.part.file) → (g : FileAt) → In g (f ∷ fs) → n ≤ g.part.file
    from is more g (inl same) = let e = ap (λ (x : FileAt). x.part.file) same in omega (arith, is, e)
    from is more g (inr i) = let l = more g i in omega (arith, l)

-- ---- entries

-- an entry stands before another: of a file before, or at a smaller place of the same one
abbrev pub IsStanding : EntryAt → EntryAt → Type 0
IsStanding d e = (d.file < e.file) ⊎ (d.file ≡ e.file) × (d.at.place < e.at.place)

-- an entry of a part is one of its lines, in its place
in_part : (line file : ℕ) (ls : List PlaceLine) (e : EntryAt) → In e (entries_from line file ls)
    → (i : ℕ) × (slice_get ls i ≡ Some e.at) × (e.file ≡ file) × (e.line ≡ line + i)
in_part line file [] e i = absurd i
in_part line file (l ∷ ls) e (inl is) =
    let at = ap (λ (x : EntryAt). x.line) is in
    (0, ap (λ (x : EntryAt). Some x.at) is, sym (ap (λ (x : EntryAt). x.file) is), omega (arith, at))
in_part line file (l ∷ ls) e (inr i) =
    let r = in_part (line + 1) file ls e i in
    let at = r.3 in
    (suc r.0, r.1, r.2, omega (arith, at))

stand_in_order : (line file from : ℕ) (ls : List PlaceLine) → ((i : ℕ) (l : PlaceLine) → slice_get ls i ≡ Some l → l.place ≡ from + i)
    → Ordered IsStanding (entries_from line file ls)
stand_in_order line file from [] each = tt
stand_in_order line file from (l ∷ ls) each = (
  λ e i. next e (in_part (line + 1) file ls e i),
  stand_in_order (line + 1) file (from + 1) ls (λ i k is. let h = each (suc i) k is in omega (arith, h)),
)
  where
    next : (e : EntryAt) → ((i : ℕ) × (slice_get ls i ≡ Some e.at) × (e.file ≡ file) × (e.line ≡ line + 1 + i))
        → (file < e.file) ⊎ (file ≡ e.file) × (l.place < e.at.place)
    next e r =
        let first = each 0 l refl in
        let other = each (suc r.0) e.at r.1 in
        inr (sym r.2, omega (arith, first, other))

-- the file and the line that an entry is of
pub record StandsAt (c : Case) (e : EntryAt) : Type 0 where
  pub part : FileAt
  pub there : In part c.files
  pub on : e.file ≡ part.part.file
  pub declares : Declared
  pub is_declared : declared c part.part.file ≡ Some declares
  pub index : ℕ
  pub is : slice_get part.part.lines index ≡ Some e.at
  pub line : e.line ≡ part.line + 1 + index
  pub place : e.at.place ≡ declares.first + index

module _ (c : Case) (s : Sighted c) where
  files_paired : AllZip (λ d f. is_file d f ≡ true) (numbered 0 c.setup.files) c.files
  files_paired = paired c.end is_file of_file (numbered 0 c.setup.files) c.files s.shape.files

  files_below : Ordered IsFileBelow c.files
  files_below = (rise_from 0 c.setup.files c.files files_paired).1

  -- a number has one file
  pub one_file : (f g : FileAt) → In f c.files → In g c.files → f.part.file ≡ g.part.file → f ≡ g
  one_file f g i j e = go (in_order IsFileBelow c.files f g files_below i j)
    where
      go : (f ≡ g) ⊎ IsFileBelow f g ⊎ IsFileBelow g f → f ≡ g
      go (inl is) = is
      go (inr (inl l)) = absurd (omega (arith, l, e))
      go (inr (inr l)) = absurd (omega (arith, l, e))

  pub part_is : (f : FileAt) → In f c.files → (n : ℕ) → n ≡ f.part.file → part_of c n ≡ Some f
  part_is f i n e =
      finds (λ (g : FileAt). g.part.file == n) c.files f i (eq-eqb f.part.file n (sym e))
      (λ g j is. one_file g f j i (eqb-true g.part.file n is ∙ e))

  pub stands_at : (e : EntryAt) → In e c.entries → StandsAt c e
  stands_at e i =
      let r = in_flat entries_of c.files e (subst (In e) s.shape.entries i) in
      let p = in_part (r.0.line + 1) r.0.part.file r.0.part.lines e r.2 in
      let d = s.lines.files r.0 r.1 in
      record {
        part = r.0;
        there = r.1;
        on = p.2;
        declares = d.0;
        is_declared = d.1;
        index = p.0;
        is = p.1;
        line = p.3;
        place = d.2.places p.0 e.at p.1;
      }

  pub entries_stand : Ordered IsStanding c.entries
  entries_stand =
      subst (Ordered IsStanding) (sym s.shape.entries)
      (order_flat IsFileBelow IsStanding entries_of c.files
      (λ f i. let d = s.lines.files f i in stand_in_order (f.line + 1) f.part.file d.0.first f.part.lines d.2.places)
      (λ f g l a b i j.
      let p = in_part (f.line + 1) f.part.file f.part.lines a i in
      let q = in_part (g.line + 1) g.part.file g.part.lines b j in
      let on = p.2 in
      let off = q.2 in
      inl (omega (arith, l, on, off)))
      files_below)

  -- a place of a file has one entry
  pub one_entry : (d e : EntryAt) → In d c.entries → In e c.entries → d.file ≡ e.file → d.at.place ≡ e.at.place → d ≡ e
  one_entry d e i j on at = go (in_order IsStanding c.entries d e entries_stand i j)
    where
      not_before : (x y : EntryAt) → x.file ≡ y.file → x.at.place ≡ y.at.place → IsStanding x y → ⊥
      not_before x y e f (inl l) = omega (arith, l, e)
      not_before x y e f (inr (n, l)) = omega (arith, l, f)

      go : (d ≡ e) ⊎ IsStanding d e ⊎ IsStanding e d → d ≡ e
      go (inl is) = is
      go (inr (inl l)) = absurd (not_before d e on at l)
      go (inr (inr l)) = absurd (not_before e d (sym on) (sym at) l)

  pub entry_is : (e : EntryAt) → In e c.entries → (file place : ℕ) → e.file ≡ file → e.at.place ≡ place → entry_at c file place ≡ Some e
  entry_is e i file place on at =
      finds (λ (x : EntryAt). x.file == file && x.at.place == place) c.entries e i
      (and_from (e.file == file) (e.at.place == place) (eq-eqb e.file file on) (eq-eqb e.at.place place at))
      (λ x j is.
      let p = and_parts (x.file == file) (x.at.place == place) is in
      one_entry x e j i (eqb-true x.file file p.0 ∙ sym on) (eqb-true x.at.place place p.1 ∙ sym at))

  -- ---- the sentences

  pub files_are : fails_wanted c of_file is_file files_rise (numbered 0 c.setup.files) c.files ≡ []
  files_are =
      both_none _ _ (both_none _ _
      (none_fails of_file (λ (f : FileAt). list_any (λ d. is_file d f) (numbered 0 c.setup.files)) c.files
      (λ f i. is_wanted is_file (numbered 0 c.setup.files) c.files files_paired f i))
      (none_breaks of_file files_rise IsFileBelow c.files (λ f g l. lt-ltb f.part.file g.part.file l) files_below))
      (none_fails (λ d. c.end) (λ d. list_any (is_file d) c.files) (numbered 0 c.setup.files)
      (λ d i. is_there is_file (numbered 0 c.setup.files) c.files files_paired d i))

  in_its_place : (e : EntryAt) → In e c.entries → has_its_place c e ≡ true
  in_its_place e i =
      let h = stands_at e i in
      let line = h.line in
      let place = h.place in
      ap (λ (o : Option Declared). option_map_or (λ d. option_map_or (is_in_place e d) (part_of c e.file) true) o true)
      (ap (declared c) h.on ∙ h.is_declared)
      ∙ ap (λ (o : Option FileAt). option_map_or (is_in_place e h.declares) o true) (part_is h.part h.there e.file h.on)
      ∙ eq-eqb (e.at.place + (h.part.line + 1)) (h.declares.first + e.line) (omega (arith, line, place))

  pub places_are : fails_each of_entry (has_its_place c) c.entries ≡ []
  places_are = none_fails of_entry (has_its_place c) c.entries in_its_place
