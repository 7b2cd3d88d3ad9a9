-- What resizes cut: the places that are reckoned from the `resize` lines are those of the entries that their commands cut.
use Rattle.std.proofs.Common.{◌≡◌, ◌⊎◌, ℕ, ◌≤◌, ◌<◌, List, [], ◌∷◌, ◌++◌, length, map, take, reverse, Option, Some, Bool, true, false, refl, sym, ap, ◌∙◌, subst, inl, inr, ⊎_elim, true≢false, arith}
use Rattle.std.specs.Prelude.{◌==◌, ◌&&◌, not, nat_lt, nat_le, filter}
use Rattle.std.specs.List.{list_any}
use Rattle.std.specs.Option.{option_map_or}
use Rattle.std.proofs.lemmas.Bool.{and_from, and_parts, cases_Bool, eq-eqb, eqb-true, ne_eqb, le-leb, leb-true, lt-ltb, ltb-true, not-true, or_left, or_right}
use Rattle.std.proofs.lemmas.List.{length-map, length-reverse}
use Rattle.tap_steer.specs.declared.operation.Op.TheVariants as op
use Rattle.tap_legal.specs.Numbered.{EntryAt, OpAt, Told, same_told}
use Rattle.tap_legal.specs.Case.{Case, fails_each, of_entry}
use Rattle.tap_legal.specs.Lookups.{entry_at}
use Rattle.tap_legal.specs.LegalLines.{are_cut, is_among_cut, resizes_fail}
use Rattle.tap_legal.specs.Takes.{Resized, cut_by, cuts_from, cuts_of, places_down, resizes_of, was_cut}
use Rattle.tap_sights.specs.Sight.{In, Ordered, Seen}
use Rattle.tap_sights.specs.Tells.{IsCutBy, cut_count, is_cut_of}
use Rattle.tap_sights.specs.Laws.{CutsAreTold}
use Rattle.tap_sights.specs.Sights.{Sighted}
use Rattle.tap_sights.proofs.Kit.{any_in, both_none, in_append, in_filter, in_filter_of, in_first, in_map, in_map_of, in_second, none_any, none_fails, some_same}
use Rattle.tap_sights.proofs.LinesKit.{IsFalling, in_reverse, in_reverse_of, kept_numbers, order_filter, order_map, order_reverse, order_weaker, order_with, take_high}
use Rattle.tap_sights.proofs.LinesFiles.{IsStanding, entries_stand, entry_is, one_entry}
use Rattle.tap_sights.proofs.LinesResizes.{IsOlder, IsResize, are_within, capacities_are, is_resize, its_resize, line_of, numbers_rise, one_resize, resizes_older, told_number}
use Rattle.tap_sights.proofs.Answers.{same_told_refl}
use Rattle.tap_sights.proofs.Waits.{cut_from, told_same}

-- tests that agree
same_bool : (a b : Bool) → (a ≡ true → b ≡ true) → (b ≡ true → a ≡ true) → a ≡ b
same_bool true b to from = sym (to refl)
same_bool false true to from = from refl
same_bool false false to from = refl

under_same : (t a b : Bool) → (t ≡ true → a ≡ b) → (t && a) ≡ (t && b)
under_same true a b h = h refl
under_same false a b h = refl

-- of a file the entries that a command cut, and their places, the greatest first
abbrev pub is_cut_on : Seen → ℕ → Told → EntryAt → Bool
is_cut_on s file t e = e.file == file && is_cut_of s t e

abbrev pub places_cut : Case → Seen → ℕ → Told → List ℕ
places_cut c s file t = reverse (map (λ (e : EntryAt). e.at.place) (filter (is_cut_on s file t) c.entries))

-- of the places below the CLAIMED of a line, those that aren't cut yet; and of these the ones from `low` on
abbrev pub is_uncut : Resized → List ℕ → ℕ → Bool
is_uncut r earlier p = nat_lt p r.claimed && not (list_any (λ q. q == p) earlier)

abbrev pub is_high : Resized → List ℕ → ℕ → EntryAt → Bool
is_high r earlier low e = is_uncut r earlier e.at.place && nat_le low e.at.place

-- an entry that stands at a place of a file
pub record IsOn (c : Case) (file p : ℕ) (e : EntryAt) : Type 0 where
  pub there : In e c.entries
  pub on : e.file ≡ file
  pub at : e.at.place ≡ p

-- a `resize` line is older than all of these
abbrev pub IsBefore : Resized → List Resized → Type 0
IsBefore r rs = (q : Resized) → In q rs → r.version < q.version

-- a place that an older line cut
pub record WasCutBefore (c : Case) (s : Seen) (file p : ℕ) (rest : List Resized) : Type 0 where
  pub entry : EntryAt
  pub stands : IsOn c file p entry
  pub line : Resized
  pub there : In line (resizes_of c file)
  pub by : s.taker entry ≡ line.told
  pub before : IsBefore line rest

-- The places that are cut so far are those of the entries that the lines before these cut.
pub record IsUpTo (c : Case) (s : Seen) (file : ℕ) (earlier : List ℕ) (rest : List Resized) : Type 0 where
  pub split : (q : Resized) → In q (resizes_of c file) → In q rest ⊎ IsBefore q rest
  pub told : (p : ℕ) → In p earlier → WasCutBefore c s file p rest
  pub has : (e : EntryAt) → In e c.entries → e.file ≡ file → was_cut e.at.fate ≡ true → (r : Resized) → In r (resizes_of c file)
      → s.taker e ≡ r.told → IsBefore r rest → In e.at.place earlier

module _ (c : Case) (s : Sighted c) (file : ℕ) where
  -- the `resize` line that cut an entry
  line_cut : (e : EntryAt) → In e c.entries → e.file ≡ file → was_cut e.at.fate ≡ true
      → (r : Resized) × In r (resizes_of c file) × (s.seen.taker e ≡ r.told)
  line_cut e i on cut =
      let w = cut_from c s.seen e e.at.fate (s.lines.each e i).fate cut in
      let l = line_of c s w.resize w.there file w.capacity (subst (λ n. w.resize.op ≡ Some (op.Resize n w.capacity)) on w.is) in
      (l.0, l.1, some_same (s.seen.taker e) l.0.told (sym w.by ∙ l.2))

  -- it isn't of a later version than any operation of the command that cut the entry
  line_to : (e : EntryAt) (version : ℕ) → IsCutBy c s.seen version e → (r : Resized) → IsResize c s.seen file r → s.seen.taker e ≡ r.told
      → r.version ≤ version
  line_to e version h r k by =
      let n = sym (told_number c s.shape h.resize.at.command (s.seen.taker e) h.by) in
      let m = told_number c s.shape k.by.at.command r.told k.told in
      let same = its_resize c s h.resize k.by h.there k.there file r.capacity k.is (n ∙ ap (λ (t : Told). t.command) by ∙ m) in
      let at = ap (λ (o : OpAt). o.at.version) same in
      let is = k.version in
      let to = h.to in
      omega (arith, at, is, to)

  -- ---- the places of a file fall

  falls : Ordered IsFalling (places_down c file)
  falls =
      order_reverse (λ p q. p < q) (map (λ (e : EntryAt). e.at.place) (filter (λ (e : EntryAt). e.file == file) c.entries))
      (order_map (λ p q. p < q) (λ (e : EntryAt). e.at.place) (filter (λ (e : EntryAt). e.file == file) c.entries)
      (order_weaker (λ d e. (d.file ≡ file) × (e.file ≡ file) × IsStanding d e) (λ d e. d.at.place < e.at.place)
      (filter (λ (e : EntryAt). e.file == file) c.entries) (λ d e h. rises d e h.0 h.1 h.2)
      (order_with IsStanding (λ e. e.file ≡ file) (filter (λ (e : EntryAt). e.file == file) c.entries)
      (λ e i. eqb-true e.file file (in_filter (λ (x : EntryAt). x.file == file) c.entries e i).1)
      (order_filter IsStanding (λ (e : EntryAt). e.file == file) c.entries (entries_stand c s)))))
    where
      rises : (d e : EntryAt) → d.file ≡ file → e.file ≡ file → IsStanding d e → d.at.place < e.at.place
      rises d e i j (inl l) = absurd (omega (arith, l, i, j))
      rises d e i j (inr (same, l)) = l

  -- ---- the places that a command cut

  cut_there : (t : Told) (p : ℕ) → In p (places_cut c s.seen file t) → (e : EntryAt) × IsOn c file p e × (is_cut_of s.seen t e ≡ true)
  cut_there t p i =
      let m = in_map (λ (e : EntryAt). e.at.place) (filter (is_cut_on s.seen file t) c.entries) p
      (in_reverse p (map (λ (e : EntryAt). e.at.place) (filter (is_cut_on s.seen file t) c.entries)) i) in
      let f = in_filter (is_cut_on s.seen file t) c.entries m.0 m.1 in
      let b = and_parts (m.0.file == file) (is_cut_of s.seen t m.0) f.1 in
      (m.0, record { there = f.0; on = eqb-true m.0.file file b.0; at = m.2 }, b.1)

  in_cut : (t : Told) (e : EntryAt) → In e c.entries → e.file ≡ file → is_cut_of s.seen t e ≡ true → In e.at.place (places_cut c s.seen file t)
  in_cut t e i on cut =
      in_reverse_of e.at.place (map (λ (x : EntryAt). x.at.place) (filter (is_cut_on s.seen file t) c.entries))
      (in_map_of (λ (x : EntryAt). x.at.place) (filter (is_cut_on s.seen file t) c.entries) e
      (in_filter_of (is_cut_on s.seen file t) c.entries e i (and_from (e.file == file) (is_cut_of s.seen t e) (eq-eqb e.file file on) cut)))

  -- they are as many as its line says
  cut_many : (r : Resized) → IsResize c s.seen file r → length (places_cut c s.seen file r.told) ≡ r.cut
  cut_many r k =
      length-reverse (map (λ (e : EntryAt). e.at.place) (filter (is_cut_on s.seen file r.told) c.entries))
      ∙ length-map (filter (is_cut_on s.seen file r.told) c.entries) (λ (e : EntryAt). e.at.place)
      ∙ subst (λ t. cut_count c s.seen t file ≡ r.cut) k.its k.sized.count

  -- ---- one line

  module _ (r : Resized) (rest : List Resized) (earlier : List ℕ) (i : In r (resizes_of c file)) (k : IsResize c s.seen file r)
      (newer : IsBefore r rest) (h : IsUpTo c s.seen file earlier (r ∷ rest)) where
    -- what stands at `low` or above, below CLAIMED, and isn't cut yet, is what it cuts
    high_to : (e : EntryAt) → In e c.entries → e.file ≡ file → is_high r earlier k.sized.low e ≡ true → is_cut_of s.seen r.told e ≡ true
    high_to e j on is =
        let a = and_parts (is_uncut r earlier e.at.place) (nat_le k.sized.low e.at.place) is in
        let b = and_parts (nat_lt e.at.place r.claimed) (not (list_any (λ q. q == e.at.place) earlier)) a.0 in
        let by = k.sized.above e j on (leb-true k.sized.low e.at.place a.1) (ltb-true e.at.place r.claimed b.0) in
        let l = line_cut e j on by.fate in
        go by.fate l.0 l.1 l.2 (line_to e r.version by l.0 (is_resize c s file l.0 l.1) l.2)
        (not-true (list_any (λ q. q == e.at.place) earlier) b.1) (h.split l.0 l.1)
      where
        go : was_cut e.at.fate ≡ true → (q : Resized) → In q (resizes_of c file) → s.seen.taker e ≡ q.told → q.version ≤ r.version
            → list_any (λ n. n == e.at.place) earlier ≡ false → In q (r ∷ rest) ⊎ IsBefore q (r ∷ rest) → is_cut_of s.seen r.told e ≡ true
        go fate q m by le new (inl (inl same)) =
            and_from (was_cut e.at.fate) (same_told (s.seen.taker e) r.told) fate
            (same_told_refl (s.seen.taker e) r.told (by ∙ ap (λ (x : Resized). x.told) (sym same)))
        go fate q m by le new (inl (inr n)) = let l = newer q n in absurd (omega (arith, l, le))
        go fate q m by le new (inr before) =
            absurd (true≢false (sym (any_in (λ n. n == e.at.place) earlier e.at.place (h.has e j on fate q m by before) (eq-eqb e.at.place e.at.place refl)) ∙ new))

    high_from : (e : EntryAt) → In e c.entries → e.file ≡ file → is_cut_of s.seen r.told e ≡ true → is_high r earlier k.sized.low e ≡ true
    high_from e j on cut =
        let its = k.sized.its e j on (subst (λ t. is_cut_of s.seen t e ≡ true) (sym k.its) cut) in
        let by = told_same (s.seen.taker e) r.told (and_parts (was_cut e.at.fate) (same_told (s.seen.taker e) r.told) cut).1 in
        and_from (is_uncut r earlier e.at.place) (nat_le k.sized.low e.at.place)
        (and_from (nat_lt e.at.place r.claimed) (not (list_any (λ q. q == e.at.place) earlier))
        (lt-ltb e.at.place r.claimed its.1)
        (ap not (none_any (λ q. q == e.at.place) earlier (λ p n. ne_eqb p e.at.place (λ same. new by p n same)))))
        (le-leb k.sized.low e.at.place its.0)
      where
        new : s.seen.taker e ≡ r.told → (p : ℕ) → In p earlier → p ≡ e.at.place → ⊥
        new by p n same =
            let b = h.told p n in
            let one = one_entry c s b.entry e b.stands.there j (b.stands.on ∙ sym on) (b.stands.at ∙ same) in
            let told = sym b.by ∙ ap s.seen.taker one ∙ by in
            let v = one_resize c s file b.line r (is_resize c s file b.line b.there) k told in
            let l = b.before r (inl refl) in
            omega (arith, v, l)

    high_is : filter (λ p. nat_le k.sized.low p) (filter (is_uncut r earlier) (places_down c file)) ≡ places_cut c s.seen file r.told
    high_is =
        kept_numbers (λ (e : EntryAt). e.at.place) (λ (e : EntryAt). e.file == file) (is_cut_on s.seen file r.told) (is_uncut r earlier)
        (λ p. nat_le k.sized.low p) c.entries
        (λ e j. under_same (e.file == file) (is_high r earlier k.sized.low e) (is_cut_of s.seen r.told e) (λ on.
        same_bool (is_high r earlier k.sized.low e) (is_cut_of s.seen r.told e)
        (high_to e j (eqb-true e.file file on)) (high_from e j (eqb-true e.file file on))))

    -- so the places that are reckoned are those of its entries
    cut_is : cut_by r earlier (places_down c file) ≡ places_cut c s.seen file r.told
    cut_is =
        ap (λ n. take n (filter (is_uncut r earlier) (places_down c file))) (sym (ap length high_is ∙ cut_many r k))
        ∙ take_high k.sized.low (filter (is_uncut r earlier) (places_down c file)) (order_filter IsFalling (is_uncut r earlier) (places_down c file) falls)
        ∙ high_is

    next : IsUpTo c s.seen file (places_cut c s.seen file r.told ++ earlier) rest
    next = record { split = λ q j. split q (h.split q j); told = told; has = has }
      where
        split : (q : Resized) → In q (r ∷ rest) ⊎ IsBefore q (r ∷ rest) → In q rest ⊎ IsBefore q rest
        split q (inl (inl same)) = inr (subst (λ x. IsBefore x rest) same newer)
        split q (inl (inr m)) = inl m
        split q (inr before) = inr (λ x m. before x (inr m))

        told : (p : ℕ) → In p (places_cut c s.seen file r.told ++ earlier) → WasCutBefore c s.seen file p rest
        told p j = ⊎_elim
            (λ m.
            let w = cut_there r.told p m in
            let by = told_same (s.seen.taker w.0) r.told (and_parts (was_cut w.0.at.fate) (same_told (s.seen.taker w.0) r.told) w.2).1 in
            record { entry = w.0; stands = w.1; line = r; there = i; by = by; before = newer })
            (λ m.
            let b = h.told p m in
            record { entry = b.entry; stands = b.stands; line = b.line; there = b.there; by = b.by; before = λ q n. b.before q (inr n) })
            (in_append p (places_cut c s.seen file r.told) earlier j)

        has : (e : EntryAt) → In e c.entries → e.file ≡ file → was_cut e.at.fate ≡ true → (q : Resized) → In q (resizes_of c file)
            → s.seen.taker e ≡ q.told → IsBefore q rest → In e.at.place (places_cut c s.seen file r.told ++ earlier)
        has e j on cut q m by before = go (h.split q m)
          where
            go : In q (r ∷ rest) ⊎ IsBefore q (r ∷ rest) → In e.at.place (places_cut c s.seen file r.told ++ earlier)
            go (inl (inl same)) = in_first e.at.place (places_cut c s.seen file r.told) earlier (in_cut r.told e j on
                (and_from (was_cut e.at.fate) (same_told (s.seen.taker e) r.told) cut
                (same_told_refl (s.seen.taker e) r.told (by ∙ ap (λ (x : Resized). x.told) (sym same)))))
            go (inl (inr n)) = let l = before q n in absurd (omega (arith, l))
            go (inr b) = in_second e.at.place (places_cut c s.seen file r.told) earlier (h.has e j on cut q m by b)

  -- ---- all lines

  cuts_from_are : (earlier : List ℕ) (rest : List Resized) → ((q : Resized) → In q rest → In q (resizes_of c file)) → Ordered IsOlder rest
      → IsUpTo c s.seen file earlier rest
      → cuts_from (places_down c file) earlier rest ≡ map (λ (r : Resized). (r, places_cut c s.seen file r.told)) rest
  cuts_from_are earlier [] among older h = refl
  cuts_from_are earlier (r ∷ rest) among older h =
      let i = among r (inl refl) in
      let k = is_resize c s file r i in
      ap (λ its. (r, its) ∷ cuts_from (places_down c file) (its ++ earlier) rest) (cut_is r rest earlier i k older.0 h)
      ∙ ap (λ xs. (r, places_cut c s.seen file r.told) ∷ xs)
      (cuts_from_are (places_cut c s.seen file r.told ++ earlier) rest (λ q j. among q (inr j)) older.1 (next r rest earlier i k older.0 h))

  pub cuts_are : cuts_of c file ≡ map (λ (r : Resized). (r, places_cut c s.seen file r.told)) (resizes_of c file)
  cuts_are = cuts_from_are [] (resizes_of c file) (λ q j. j) (resizes_older c s file) (record {
    split = λ q j. inl j;
    told = λ p j. absurd j;
    has = λ e i on cut r j by before. let l = before r j in absurd (omega (arith, l));
  })

  cut_line : (r : Resized × List ℕ) → In r (cuts_of c file)
      → (q : Resized) × In q (resizes_of c file) × (◌≡◌ {A = Resized × List ℕ} (q, places_cut c s.seen file q.told) r)
  cut_line r i = in_map (λ (q : Resized). (q, places_cut c s.seen file q.told)) (resizes_of c file) r (subst (In r) cuts_are i)

  -- ---- the sentences

  right : (q : Resized) → In q (resizes_of c file) → are_cut c file (q, places_cut c s.seen file q.told) ≡ true
  right q j =
      and_from (length (places_cut c s.seen file q.told) == q.cut) _
      (eq-eqb (length (places_cut c s.seen file q.told)) q.cut (cut_many q (is_resize c s file q j)))
      (ap not (none_any (λ p. option_map_or (λ (e : EntryAt). not (was_cut e.at.fate)) (entry_at c file p) true) (places_cut c s.seen file q.told)
      (λ p n.
      let w = cut_there q.told p n in
      ap (λ (o : Option EntryAt). option_map_or (λ (e : EntryAt). not (was_cut e.at.fate)) o true)
      (entry_is c s w.0 w.1.there file p w.1.on w.1.at)
      ∙ ap not (and_parts (was_cut w.0.at.fate) (same_told (s.seen.taker w.0) q.told) w.2).0)))

  pub resizes_are : resizes_fail c file ≡ []
  resizes_are =
      both_none _ _ (both_none _ _ (both_none _ _
      (none_fails (λ (r : Resized × List ℕ). r.0.line) (are_cut c file) (cuts_of c file) (λ r i.
      let q = cut_line r i in subst (λ x. are_cut c file x ≡ true) q.2 (right q.0 q.1)))
      (capacities_are c s file)) (numbers_rise c s file)) (are_within c s file)

  told_cut : (p : ℕ) (r : Resized × List ℕ) → In r (cuts_of c file) → In p r.1
      → (e : EntryAt) × In e c.entries × (e.file ≡ file) × (e.at.place ≡ p) × (is_cut_of s.seen r.0.told e ≡ true)
  told_cut p r i j =
      let q = cut_line r i in
      let w = cut_there q.0.told p (subst (λ (x : Resized × List ℕ). In p x.1) (sym q.2) j) in
      (w.0, w.1.there, w.1.on, w.1.at, subst (λ (x : Resized × List ℕ). is_cut_of s.seen x.0.told w.0 ≡ true) q.2 w.2)

  among_cut : (e : EntryAt) → In e c.entries → e.file ≡ file → was_cut e.at.fate ≡ true
      → list_any (λ (r : Resized × List ℕ). list_any (λ p. p == e.at.place) r.1) (cuts_of c file) ≡ true
  among_cut e i on cut =
      let l = line_cut e i on cut in
      let is = and_from (was_cut e.at.fate) (same_told (s.seen.taker e) l.0.told) cut (same_told_refl (s.seen.taker e) l.0.told l.2) in
      any_in (λ (r : Resized × List ℕ). list_any (λ p. p == e.at.place) r.1) (cuts_of c file) (l.0, places_cut c s.seen file l.0.told)
      (subst (In (l.0, places_cut c s.seen file l.0.told)) (sym cuts_are)
      (in_map_of (λ (q : Resized). (q, places_cut c s.seen file q.told)) (resizes_of c file) l.0 l.1))
      (any_in (λ p. p == e.at.place) (places_cut c s.seen file l.0.told) e.at.place (in_cut l.0.told e i on is) (eq-eqb e.at.place e.at.place refl))

pub cuts_are_told : (c : Case) (s : Sighted c) → CutsAreTold c s.seen
cuts_are_told c s file p r i j = told_cut c s file p r i j

pub cut_entries : (c : Case) (s : Sighted c) → fails_each of_entry (is_among_cut c) c.entries ≡ []
cut_entries c s = none_fails of_entry (is_among_cut c) c.entries (λ e i. ⊎_elim
    (λ cut. or_right (not (was_cut e.at.fate)) _ (among_cut c s e.file e i refl cut))
    (λ kept. or_left (not (was_cut e.at.fate)) _ (ap not kept))
    (cases_Bool (was_cut e.at.fate)))
