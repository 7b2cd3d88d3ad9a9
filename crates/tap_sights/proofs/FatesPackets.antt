-- What is sighted, with the replays of its guests, fails nowhere in clause h.
use Rattle.std.proofs.Common.{◌≡◌, ℕ, cond, List, [], ◌∷◌, ◌++◌, length, Option, Some, None, Bool, true, false, refl, sym, ◌∙◌, subst, inl, inr, true≢false, arith}
use Rattle.std.specs.Prelude.{◌==◌, ◌&&◌, flat_map}
use Rattle.std.specs.List.{list_all, list_any}
use Rattle.std.specs.Option.{option_map_or}
use Rattle.std.proofs.lemmas.Bool.{and_from, and_parts, eq-eqb, eqb-true}
use Rattle.tap_frame.specs.declared.name.Name.{Name}
use Rattle.tap_ledger.specs.declared.fate.Fate.{Fate}
use Rattle.tap_ledger.specs.declared.fate.Fate.TheVariants as fate
use Rattle.tap_ledger.specs.declared.fate.Cause.TheVariants as cause
use Rattle.tap_world.specs.Stands.{same_name}
use Rattle.tap_legal.specs.Numbered.{AnswerAt, EntryAt, FileAt}
use Rattle.tap_legal.specs.Case.{Case, fails_each, of_answer, of_entry, of_file, of_step}
use Rattle.tap_legal.specs.Lookups.{is_sent}
use Rattle.tap_legal.specs.LegalFates.{copies_sent, file_packets_fail, fits_overrun, fits_packet, h_fails, has_one_fate, has_packets, is_among, is_packet, is_taken_once, packet_entries, packets_fail, reads_sent}
use Rattle.tap_legal.specs.Replay.{Packet}
use Rattle.tap_legal.specs.Replays.{Replays, is_whole, packets_of}
use Rattle.tap_sights.specs.GuestFacts.{Fits, IsBelow, PacketTells, packets_told}
use Rattle.tap_sights.specs.Replayed.{Replayed}
use Rattle.tap_sights.specs.Sight.{In, Ordered}
use Rattle.tap_sights.specs.Sights.{Sighted}
use Rattle.tap_sights.proofs.Fates.{copy_sent, entry_sent, one_fate, overrun_fits, read_sent, taken_once}
use Rattle.tap_sights.proofs.Kit.{all_hold, any_in, both_none, in_filter, in_filter_of, none_fails, none_mapped}
use Rattle.tap_sights.proofs.LinesFiles.{IsStanding, entries_stand}
use Rattle.tap_sights.proofs.LinesKit.{order_filter, order_weaker, order_with}
use Rattle.tap_sights.proofs.Once.{same_members}
use Rattle.tap_sights.proofs.Setters.{packets_are}

-- ---- packets that fit entries

taken_by : (p : Packet) (e : EntryAt) (f : Fate) (n : Option Name) → fits_packet p e f n ≡ true → is_packet f ≡ true
taken_by p e fate.Guest n is = refl
taken_by p e (fate.Discarded (cause.Overrun need quota had)) n is = refl
taken_by p e f n is = absurd (true≢false (sym is))

copied_by : (p : Packet) (e : EntryAt) (f : Fate) (n : Name) → fits_packet p e f (Some n) ≡ true → same_name e.at.name n ≡ true
copied_by p e fate.Guest n is = is
copied_by p e (fate.Discarded (cause.Overrun need quota had)) n is = absurd (true≢false (sym is))
copied_by p e f n is = absurd (true≢false (sym is))

fits_entry : (ps : List Packet) (es : List EntryAt) → Fits ps es → (e : EntryAt) → In e es → is_packet e.at.fate ≡ true
fits_entry [] [] h e i = absurd i
fits_entry [] (x ∷ es) h e i = absurd h
fits_entry (p ∷ ps) [] h e i = absurd h
fits_entry (p ∷ ps) (x ∷ es) h e (inl is) = subst (λ (y : EntryAt). is_packet y.at.fate ≡ true) is (taken_by p x x.at.fate p.name h.0)
fits_entry (p ∷ ps) (x ∷ es) h e (inr i) = fits_entry ps es h.1 e i

fits_packet_of : (ps : List Packet) (es : List EntryAt) → Fits ps es → (p : Packet) → In p ps
    → (e : EntryAt) × In e es × (fits_packet p e e.at.fate p.name ≡ true)
fits_packet_of [] es h p i = absurd i
fits_packet_of (q ∷ ps) [] h p i = absurd h
fits_packet_of (q ∷ ps) (x ∷ es) h p (inl is) = (x, inl refl, subst (λ (y : Packet). fits_packet y x x.at.fate y.name ≡ true) is h.0)
fits_packet_of (q ∷ ps) (x ∷ es) h p (inr i) = let r = fits_packet_of ps es h.1 p i in (r.0, inr r.1, r.2)

none_unfit : (ps : List Packet) (es : List EntryAt) → Fits ps es → packets_fail es ps ≡ []
none_unfit [] [] h = refl
none_unfit [] (e ∷ es) h = absurd h
none_unfit (p ∷ ps) [] h = absurd h
none_unfit (p ∷ ps) (e ∷ es) h = rw (h.0) (none_unfit ps es h.1)

as_many : (ps : List Packet) (es : List EntryAt) → Fits ps es → length es ≡ length ps
as_many [] [] h = refl
as_many [] (e ∷ es) h = absurd h
as_many (p ∷ ps) [] h = absurd h
as_many (p ∷ ps) (e ∷ es) h = let n = as_many ps es h.1 in omega (arith, n)

among : (es : List EntryAt) (p : Packet) (e : EntryAt) → In e es → fits_packet p e e.at.fate p.name ≡ true → is_among es p ≡ true
among es p e i is = go p.name is
  where
    go : (o : Option Name) → fits_packet p e e.at.fate o ≡ true
        → option_map_or (λ name. list_any (λ (x : EntryAt). same_name x.at.name name) es) o true ≡ true
    go None h = refl
    go (Some name) h = any_in (λ (x : EntryAt). same_name x.at.name name) es e i (copied_by p e e.at.fate name h)

-- ---- a file's packets

module _ (c : Case) (s : Sighted c) where
  -- the entries that the packets fit are those of the file that a turn took
  packets_fit : (file : ℕ) (ps : List Packet) → PacketTells c file ps → Fits ps (packet_entries c file)
  packets_fit file ps t = subst (Fits ps) (same_members IsBelow (λ x y l m. omega (arith, l, m)) t.entries (packet_entries c file) t.rise rises
      (λ e i.
      let at = t.there e i in
      in_filter_of (λ (x : EntryAt). x.file == file && is_packet x.at.fate) c.entries e at.0
      (and_from (e.file == file) (is_packet e.at.fate) (eq-eqb e.file file at.1) (fits_entry ps t.entries t.fits e i)))
      (λ e i. let r = of_file_taken e i in t.all e r.0 r.1 r.2)) t.fits
    where
      of_file_taken : (e : EntryAt) → In e (packet_entries c file) → In e c.entries × (e.file ≡ file) × (is_packet e.at.fate ≡ true)
      of_file_taken e i =
          let r = in_filter (λ (x : EntryAt). x.file == file && is_packet x.at.fate) c.entries e i in
          let p = and_parts (e.file == file) (is_packet e.at.fate) r.1 in
          (r.0, eqb-true e.file file p.0, p.1)

      rises : Ordered IsBelow (packet_entries c file)
      rises = order_weaker _ IsBelow (packet_entries c file)
          (λ x y h. lower x y ((of_file_taken x h.0).1 ∙ sym (of_file_taken y h.1).1) h.2)
          (order_with IsStanding (λ e. In e (packet_entries c file)) (packet_entries c file) (λ e i. i)
          (order_filter IsStanding (λ (x : EntryAt). x.file == file && is_packet x.at.fate) c.entries (entries_stand c s)))
        where
          lower : (x y : EntryAt) → x.file ≡ y.file → IsStanding x y → IsBelow x y
          lower x y same (inl l) = absurd (omega (arith, l, same))
          lower x y same (inr h) = h.1

  module _ (rs : Replays) (r : Replayed c s.guests rs) where
    file_fits : (f : FileAt) → In f c.files → Fits (packets_of c f.part.file rs) (packet_entries c f.part.file)
    file_fits f i =
        subst (λ ps. Fits ps (packet_entries c f.part.file)) (sym (packets_are c s f.part.file rs r))
        (packets_fit f.part.file (packets_told c f.part.file s.guests.done) (s.packets f i))

    file_has : (f : FileAt) → In f c.files → has_packets c rs f ≡ true
    file_has f i =
        let h = file_fits f i in
        let ps = packets_of c f.part.file rs in
        let es = packet_entries c f.part.file in
        and_from (length es == length ps) (list_all (is_among es) ps)
        (eq-eqb (length es) (length ps) (as_many ps es h))
        (all_hold (is_among es) ps (λ p j. let w = fits_packet_of ps es h p j in among es p w.0 w.1 w.2))

    pub packets_hold : (b : Bool)
        → cond b (fails_each of_file (has_packets c rs) c.files ++ flat_map (file_packets_fail c rs) c.files) [] ≡ []
    packets_hold false = refl
    packets_hold true = both_none _ _ (none_fails of_file (has_packets c rs) c.files file_has)
        (none_mapped (file_packets_fail c rs) c.files (λ f i.
        none_unfit (packets_of c f.part.file rs) (packet_entries c f.part.file) (file_fits f i)))

-- ---- the clause

pub fates_are_legal : (c : Case) (s : Sighted c) (rs : Replays) → Replayed c s.guests rs → h_fails c rs ≡ []
fates_are_legal c s rs r =
    both_none _ _ (both_none _ _ (both_none _ _ (both_none _ _ (both_none _ _ (both_none _ _
    (none_fails of_answer (λ (a : AnswerAt). has_one_fate c a a.asked) c.answers (λ a i. one_fate c s a i a.asked refl (s.tells a i)))
    (none_fails of_entry (λ (e : EntryAt). is_sent c e.at.name) c.entries (entry_sent c s)))
    (none_fails of_answer (reads_sent c) c.answers (λ a i. read_sent c s a a.answer (s.rings a i))))
    (none_fails of_step (copies_sent c) c.steps (copy_sent c s)))
    (none_fails of_entry (is_taken_once c) c.entries (taken_once c s)))
    (none_fails of_entry (λ (e : EntryAt). fits_overrun e.at.len e.at.fate) c.entries
    (λ e i. overrun_fits c s e i e.at.fate (s.lines.each e i).fate)))
    (packets_hold c s rs r (is_whole rs))
