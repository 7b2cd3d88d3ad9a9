-- What is sighted has one fate for each accepted frame, no other name, and each frame that left was taken once.
use Rattle.std.proofs.Common.{◌≡◌, ◌⊎◌, ℕ, ◌+◌, cond, List, [], ◌∷◌, length, map, Option, Some, None, Bool, true, false, refl, sym, ap, ◌∙◌, subst, inl, inr, ⊎_elim, true≢false, arith}
use Rattle.std.specs.Prelude.{◌==◌, ◌&&◌, ◌||◌, not, nat_lt, is_none, filter}
use Rattle.std.specs.List.{list_all}
use Rattle.std.specs.Option.{option_map_or}
use Rattle.std.proofs.lemmas.Bool.{and_from, and_parts, or_left, or_right, cases_Bool, eq-eqb, eqb-true, lt-ltb}
use Rattle.tap_frame.specs.declared.header.Hdr.{Hdr}
use Rattle.tap_frame.specs.declared.name.Name.{Name}
use Rattle.tap_frame.specs.declared.reading.BadFrame.{BadFrame}
use Rattle.tap_ledger.specs.declared.fate.Fate.{Fate}
use Rattle.tap_ledger.specs.declared.fate.Fate.TheVariants as fate
use Rattle.tap_ledger.specs.declared.fate.Cause.TheVariants as cause
use Rattle.tap_steer.specs.declared.selection.Select.{Select}
use Rattle.tap_steer.specs.declared.selection.Select.TheVariants as select
use Rattle.scen_words.specs.declared.command.Command.{Command}
use Rattle.scen_words.specs.declared.command.Command.TheVariants as command
use Rattle.tap_trace.specs.declared.answer.Answer.{Answer}
use Rattle.tap_trace.specs.declared.answer.Answer.TheVariants as answer
use Rattle.tap_world.specs.Frames.{bad_in, sent_bytes, sent_front}
use Rattle.tap_world.specs.Stands.{same_name}
use Rattle.tap_world.specs.World.{name_of}
use Rattle.tap_legal.specs.Numbered.{AnswerAt, Asked, EntryAt, StepAt, Told}
use Rattle.tap_legal.specs.Case.{Case}
use Rattle.tap_legal.specs.LegalLines.{is_entry_of}
use Rattle.tap_legal.specs.Lookups.{file_read, is_accepted, is_sent, place_read, row_at, taken_from}
use Rattle.tap_legal.specs.LegalAnswers.{fits_row, fits_send, is_filtered, is_no_queue}
use Rattle.tap_legal.specs.LegalFates.{copies_sent, entries_named, fits_overrun, has_one_fate, is_drop, is_on_its_file, is_taken_once, name_read}
use Rattle.tap_legal.specs.Takes.{copied, copies_of, has_guest, readers, was_read}
use Rattle.tap_sights.specs.Sight.{In}
use Rattle.tap_sights.specs.Tells.{IsPut, IsRouted, Tells, TellsRead, TellsRing}
use Rattle.tap_sights.specs.LineFacts.{IsAhead, TellsFate}
use Rattle.tap_sights.specs.GuestFacts.{IsOtherCopy}
use Rattle.tap_sights.specs.Sights.{Sighted}
use Rattle.tap_sights.proofs.Askers.{command_is}
use Rattle.tap_sights.proofs.Kit.{all_hold, some_same}
use Rattle.tap_sights.proofs.LinesFiles.{one_entry}
use Rattle.tap_sights.proofs.LinesKit.{filter_none, order_with}
use Rattle.tap_sights.proofs.Once.{in_one, one_passes}
use Rattle.tap_sights.proofs.Orders.{one_answer, same_asker}
use Rattle.tap_sights.proofs.Places.{entries_apart, is_name, name_is, one_name}
use Rattle.tap_sights.proofs.Taken.{cond_some}

-- ---- a send is dropped or placed

abbrev IsPlaced : Answer → Type 0
IsPlaced x = (file place epoch len : ℕ) × (x ≡ answer.Placed file place epoch len)

no_queue : (x : Answer) → is_no_queue x ≡ true → is_drop x ≡ true
no_queue (answer.Dropped file why) e = refl
no_queue x e = absurd (true≢false (sym e))

filtered : (x : Answer) → is_filtered x ≡ true → is_drop x ≡ true
filtered (answer.Dropped file why) e = refl
filtered x e = absurd (true≢false (sym e))

rowed : (file epoch keep : ℕ) (x : Answer) → fits_row file epoch keep x ≡ true → (is_drop x ≡ true) ⊎ IsPlaced x
rowed file epoch keep (answer.Dropped f why) e = inl refl
rowed file epoch keep (answer.Placed f place b len) e = inr (f, place, b, len, refl)
rowed file epoch keep x e = absurd (true≢false (sym e))

sent_as : (bad : Option BadFrame) (chosen : Select) (x : Answer) → is_none bad ≡ true → fits_send bad chosen x ≡ true
    → (is_drop x ≡ true) ⊎ IsPlaced x
sent_as (Some bad) chosen x e fits = absurd (true≢false (sym e))
sent_as None select.NoQueue x e fits = inl (no_queue x fits)
sent_as None select.Filtered x e fits = inl (filtered x fits)
sent_as None (select.Row row keep resizes capacity) x e fits = rowed row.file row.epoch keep x fits

placed_is_no_drop : (x : Answer) → IsPlaced x → is_drop x ≡ false
placed_is_no_drop x (file, place, epoch, len, is) = ap is_drop is

not_ahead : (a b : AnswerAt) → a.told ≡ b.told → IsAhead a b → ⊥
not_ahead a b e (inl l) = let p = ap (λ (t : Told). t.phase) e in omega (arith, l, p)
not_ahead a b e (inr (p, inl l)) = let q = ap (λ (t : Told). t.actor) e in omega (arith, l, q)
not_ahead a b e (inr (p, inr (q, l))) = let r = ap (λ (t : Told). t.command) e in omega (arith, l, r)

-- ---- one fate

module _ (c : Case) (s : Sighted c) where
  -- the answer of the command that an entry is named for
  answer_named : (a : AnswerAt) → In a c.answers → (e : EntryAt) → In e c.entries
      → same_name e.at.name (name_of a.told.actor a.told.command) ≡ true → a.answer ≡ answer.Placed e.file e.at.place e.at.epoch e.at.len
  answer_named a i e j same =
      let f = s.lines.each e j in
      let turn = ap (λ (n : Name). n.turn) (name_is e.at.name (name_of a.told.actor a.told.command) same) in
      let told = same_asker c s.shape a i f.placed.told.command
      (record { told = f.placed.told; command = (s.shape.asked f.placed f.there).0 }) (s.shape.asked f.placed f.there).1 (f.command ∙ turn) in
      sym (ap (λ (x : AnswerAt). x.answer) (one_answer c s.shape f.placed a f.there i told)) ∙ f.is

  named_once : (n : Name) (e : EntryAt) → In e c.entries → same_name e.at.name n ≡ true → entries_named c n ≡ e ∷ []
  named_once n e i same = one_passes _ (λ (x : EntryAt). same_name x.at.name n) c.entries e (entries_apart c s)
      (λ x y far p q. far.2 (one_name c s x y far.0 far.1 (is_name x.at.name y.at.name (name_is x.at.name n p ∙ sym (name_is y.at.name n q)))))
      i same

  none_named : (a : AnswerAt) → In a c.answers → (IsPlaced a.answer → ⊥) → entries_named c (name_of a.told.actor a.told.command) ≡ []
  none_named a i no_place = filter_none (λ (x : EntryAt). same_name x.at.name (name_of a.told.actor a.told.command)) c.entries (λ e j.
      fails (same_name e.at.name (name_of a.told.actor a.told.command)) (λ same.
      no_place (e.file, e.at.place, e.at.epoch, e.at.len, answer_named a i e j same)))
    where
      fails : (b : Bool) → (b ≡ true → ⊥) → b ≡ false
      fails true h = absurd (h refl)
      fails false h = refl

  -- what is placed was sent
  placed_put : (a : AnswerAt) → In a c.answers → (file place epoch len : ℕ) → a.answer ≡ answer.Placed file place epoch len
      → IsPut c s.seen a file place epoch len
  placed_put a i file place epoch len is = subst (TellsRing c s.seen a) is (s.rings a i)

  sent_is_accepted : (a : AnswerAt) → In a c.answers → (k : Command) → a.asked ≡ Some k
      → is_sent c (name_of a.told.actor a.told.command) ≡ true → is_accepted k ≡ true
  sent_is_accepted a i k is sent =
      let h = sym (ap (λ (o : Option Asked). option_map_or
      (λ (x : Asked). x.told.actor == a.told.actor && 0 == 0 && is_accepted x.command) o false) (command_is c s a i k is)) ∙ sent in
      (and_parts (a.told.actor == a.told.actor && 0 == 0) (is_accepted k) h).1

  -- an entry of the command's name
  its_name : (t : Told) (epoch len : ℕ) (e : EntryAt) → is_entry_of t epoch len e ≡ true → same_name e.at.name (name_of t.actor t.command) ≡ true
  its_name t epoch len e is =
      (and_parts (e.at.name.actor == t.actor && e.at.name.turn == t.command && e.at.name.part == 0) (e.at.epoch == epoch)
      (and_parts (e.at.name.actor == t.actor && e.at.name.turn == t.command && e.at.name.part == 0 && e.at.epoch == epoch) (e.at.len == len) is).0).0

  abbrev one_of : Bool → List EntryAt → Bool
  one_of drop es = cond drop 1 0 + length es == 1

  send_fate : (a : AnswerAt) → In a c.answers → (name : ℕ) (hdr : Option Hdr) (bytes : List ℕ)
      → IsRouted c a name hdr bytes → is_accepted (command.Send name hdr bytes) ≡ true
      → one_of (is_drop a.answer) (entries_named c (name_of a.told.actor a.told.command)) ≡ true
  send_fate a i name hdr bytes routed accepted = ⊎_elim
      (λ drop.
      ap (λ b. one_of b (entries_named c (name_of a.told.actor a.told.command))) drop
      ∙ ap (one_of true) (none_named a i (λ p. true≢false (sym drop ∙ placed_is_no_drop a.answer p))))
      (λ p.
      let h = placed_put a i p.0 p.1 p.2 p.3 p.4 in
      ap (λ b. one_of b (entries_named c (name_of a.told.actor a.told.command))) (placed_is_no_drop a.answer p)
      ∙ ap (one_of false) (named_once (name_of a.told.actor a.told.command) h.entry h.there (its_name a.told p.2 p.3 h.entry h.is_its)))
      (sent_as (bad_in (sent_front hdr) (sent_bytes hdr bytes)) (row_at c a.seen name hdr bytes) a.answer accepted routed)

  -- a write places nothing
  write_fate : (a : AnswerAt) → In a c.answers → (file : ℕ) (bytes : List ℕ) → a.asked ≡ Some (command.Write file bytes)
      → entries_named c (name_of a.told.actor a.told.command) ≡ []
  write_fate a i file bytes is = none_named a i (λ p.
      true≢false (sym (sent_is_accepted a i (command.Write file bytes) is (placed_put a i p.0 p.1 p.2 p.3 p.4).sent)))

  pub one_fate : (a : AnswerAt) → In a c.answers → (k : Option Command) → a.asked ≡ k → Tells c s.seen a k → has_one_fate c a k ≡ true
  one_fate a i (Some (command.Send name hdr bytes)) is routed = ⊎_elim
      (λ accepted. or_right (not (is_accepted (command.Send name hdr bytes))) _ (send_fate a i name hdr bytes routed accepted))
      (λ refused. or_left (not (is_accepted (command.Send name hdr bytes))) _ (ap not refused))
      (cases_Bool (is_accepted (command.Send name hdr bytes)))
  one_fate a i (Some (command.Write file bytes)) is h =
      ap (λ (es : List EntryAt). length es == 0) (write_fate a i file bytes is)
  one_fate a i k is h = refl

  -- ---- no other name

  pub entry_sent : (e : EntryAt) → In e c.entries → is_sent c e.at.name ≡ true
  entry_sent e i =
      let f = s.lines.each e i in
      let h = placed_put f.placed f.there e.file e.at.place e.at.epoch e.at.len f.is in
      subst (λ (n : Name). is_sent c n ≡ true) (name f.placed.told f.actor f.command f.part) h.sent
    where
      name : (t : Told) → t.actor ≡ e.at.name.actor → t.command ≡ e.at.name.turn → e.at.name.part ≡ 0 → name_of t.actor t.command ≡ e.at.name
      name t p q r = λ i. record { actor = p i; turn = q i; part = sym r i }

  pub read_sent : (a : AnswerAt) (x : Answer) → TellsRing c s.seen a x → option_map_or (is_sent c) (name_read x) true ≡ true
  read_sent a (answer.Read name place bytes) h = h
  read_sent a x h = refl

  pub copy_sent : (x : StepAt) → In x c.steps → copies_sent c x ≡ true
  copy_sent x i = go (copied x.at.kind) refl
    where
      go : (o : Option Name) → copied x.at.kind ≡ o → option_map_or (is_sent c) o true ≡ true
      go None is = refl
      go (Some name) is =
          let t = s.guests.copies x name i is in
          subst (λ (n : Name). is_sent c n ≡ true) t.named (entry_sent t.entry t.there)

  -- ---- reads and copies

  module _ (e : EntryAt) (i : In e c.entries) where
    -- a step that copies the entry's frame
    is_copy : (o : Option Name) → option_map_or (same_name e.at.name) o false ≡ true → o ≡ Some e.at.name
    is_copy None h = absurd (true≢false (sym h))
    is_copy (Some name) h = ap Some (sym (name_is e.at.name name h))

    pub copied_once : (f : Fate) → TellsFate c s.seen e f
        → (not (has_guest f) || length (copies_of c e.at.name) == 1 && list_all (is_on_its_file c e) (copies_of c e.at.name)) ≡ true
    copied_once fate.Guest h =
        let one : copies_of c e.at.name ≡ h.copy ∷ [] =
        one_passes IsOtherCopy (λ (x : StepAt). option_map_or (same_name e.at.name) (copied x.at.kind) false) c.steps h.copy s.guests.once
        (λ x y other p q. other e.at.name (is_copy (copied x.at.kind) p) (is_copy (copied y.at.kind) q)) h.there
        (ap (λ (o : Option Name). option_map_or (same_name e.at.name) o false) h.names ∙ is_name e.at.name e.at.name refl) in
        and_from (length (copies_of c e.at.name) == 1) (list_all (is_on_its_file c e) (copies_of c e.at.name))
        (ap (λ (xs : List StepAt). length xs == 1) one)
        (all_hold (is_on_its_file c e) (copies_of c e.at.name) (λ x j.
        ap (is_on_its_file c e) (in_one x h.copy (copies_of c e.at.name) one j) ∙ h.on_file))
    copied_once f h = refl

    -- who read the entry's place took the entry
    reader_is : (a : AnswerAt) → In a c.answers → taken_from e.file a ≡ Some e.at.place → s.seen.taker e ≡ a.told
    reader_is a j takes = go a.asked (s.tells a j) takes
      where
        told : (other room : ℕ) (x : Answer) → TellsRead c s.seen a other room x → other ≡ e.file → place_read x ≡ Some e.at.place
            → s.seen.taker e ≡ a.told
        told other room (answer.Read name place bytes) (front, t) same is =
            ap s.seen.taker (sym (one_entry c s t.entry e t.there i (t.on ∙ same) (t.at ∙ some_same place e.at.place is))) ∙ t.by
        told other room x h same is = absurd (cc (is))

        go : (k : Option Command) → Tells c s.seen a k → cond (option_map_or (λ f. f == e.file) (file_read k) false) (place_read a.answer) None ≡ Some e.at.place
            → s.seen.taker e ≡ a.told
        go (Some (command.Read other room)) h is =
            let w = cond_some (other == e.file) (place_read a.answer) e.at.place is in
            told other room a.answer h (eqb-true other e.file w.0) w.1
        go k h is = absurd (cc (is))

    reads_it : (o : Option ℕ) → option_map_or (λ p. p == e.at.place) o false ≡ true → o ≡ Some e.at.place
    reads_it None h = absurd (true≢false (sym h))
    reads_it (Some p) h = ap Some (eqb-true p e.at.place h)

    pub read_once : (f : Fate) → TellsFate c s.seen e f → (not (was_read f) || length (readers c e) == 1) ≡ true
    read_once fate.Read h =
        let one : filter (λ (a : AnswerAt). option_map_or (λ p. p == e.at.place) (taken_from e.file a) false) c.answers ≡ h.reader ∷ [] =
        one_passes _ (λ (a : AnswerAt). option_map_or (λ p. p == e.at.place) (taken_from e.file a) false) c.answers h.reader
        (order_with IsAhead (λ a. In a c.answers) c.answers (λ a j. j) s.shape.ahead)
        (λ a b far p q. not_ahead a b (sym (reader_is a far.0 (reads_it (taken_from e.file a) p)) ∙ reader_is b far.1 (reads_it (taken_from e.file b) q)) far.2)
        h.there
        (ap (λ o. option_map_or (λ p. p == e.at.place) o false) h.takes ∙ eq-eqb e.at.place e.at.place refl) in
        ap (λ (as_ : List AnswerAt). length (map (λ (a : AnswerAt). a.told) as_) == 1) one
    read_once f h = refl

    pub taken_once : is_taken_once c e ≡ true
    taken_once =
        let h = (s.lines.each e i).fate in
        and_from (not (has_guest e.at.fate) || length (copies_of c e.at.name) == 1 && list_all (is_on_its_file c e) (copies_of c e.at.name))
        (not (was_read e.at.fate) || length (readers c e) == 1) (copied_once e.at.fate h) (read_once e.at.fate h)

    pub overrun_fits : (f : Fate) → TellsFate c s.seen e f → fits_overrun e.at.len f ≡ true
    overrun_fits (fate.Discarded (cause.Overrun need quota had)) h =
        and_from (nat_lt had need && (need == e.at.len + 10 || need == e.at.len + 12)) (quota == 1 || quota == 1024)
        (and_from (nat_lt had need) (need == e.at.len + 10 || need == e.at.len + 12) (lt-ltb had need h.short)
        (either need (e.at.len + 10) (e.at.len + 12) h.needs))
        (either quota 1 1024 h.many)
      where
        either : (n x y : ℕ) → (n ≡ x) ⊎ (n ≡ y) → (n == x || n == y) ≡ true
        either n x y (inl e) = or_left (n == x) (n == y) (eq-eqb n x e)
        either n x y (inr e) = or_right (n == x) (n == y) (eq-eqb n y e)
    overrun_fits f h = refl
