-- What is read or copied is an entry that was placed before, and the places of an actor's reads rise.
use Rattle.std.proofs.Common.{◌≡◌, ℕ, [], Option, Some, None, true, false, refl, sym, ap, ◌∙◌, arith}
use Rattle.std.specs.Prelude.{◌&&◌, not}
use Rattle.std.specs.Option.{option_map_or}
use Rattle.std.proofs.lemmas.Bool.{and_from, false_from_ne_true}
use Rattle.tap_frame.specs.declared.name.Name.{Name}
use Rattle.scen_words.specs.declared.command.Command.{Command}
use Rattle.scen_words.specs.declared.command.Command.TheVariants as command
use Rattle.tap_trace.specs.declared.answer.Answer.{Answer}
use Rattle.tap_trace.specs.declared.answer.Answer.TheVariants as answer
use Rattle.tap_world.specs.Stands.{same_name}
use Rattle.tap_legal.specs.Numbered.{AnswerAt, EntryAt, StepAt, Told}
use Rattle.tap_legal.specs.Case.{Case, fails_each, fails_order, of_answer, of_step}
use Rattle.tap_legal.specs.Lookups.{entry_named, is_before, taken_from, told_of}
use Rattle.tap_legal.specs.LegalLines.{copies_later, is_after_placing, is_read_entry, reads_entry, rises}
use Rattle.tap_legal.specs.Takes.{copied, was_read}
use Rattle.tap_sights.specs.Sight.{In}
use Rattle.tap_sights.specs.Tells.{Tells, TellsRead}
use Rattle.tap_sights.specs.Sights.{Sighted}
use Rattle.tap_sights.proofs.Kit.{found, none_fails, passes}
use Rattle.tap_sights.proofs.LinesFiles.{entry_is}
use Rattle.tap_sights.proofs.LinesPlaces.{places_rise, put_is}
use Rattle.tap_sights.proofs.Orders.{told_answer}
use Rattle.tap_sights.proofs.Taken.{Took, copy_took, left_took, put_tells, read_left, read_took}

module _ (c : Case) (s : Sighted c) where
  -- who took an entry isn't before the command that placed it
  after_placing : (e : EntryAt) → In e c.entries → (t : Told) → Took c s.seen t e.file e.at.place → is_after_placing c t e ≡ true
  after_placing e i t took =
      let f = s.lines.each e i in
      let placer = told_answer c s.shape f.placed f.there in
      ap (λ (o : Option Told). option_map_or (λ b. not (is_before t b)) o true) (ap (told_of c) (sym f.command) ∙ placer)
      ∙ ap not (false_from_ne_true (is_before t f.placed.told) (λ was.
      let r = (s.rise t f.placed.told took.told placer was).put e.file in
      let to = took.to in
      let out = s.lines.out t e.file took.told in
      let p = (put_tells c s f.placed f.there e.file e.at.place (put_is c s f.placed e.file e.at.place e.at.epoch e.at.len f.is)).0 in
      omega (arith, r, to, out, p)))

  reads : (a : AnswerAt) → In a c.answers → (k : Option Command) → Tells c s.seen a k → reads_entry c a k a.answer ≡ true
  reads a i (Some (command.Read file room)) h = told a.answer h
    where
      told : (x : Answer) → TellsRead c s.seen a file room x → reads_entry c a (Some (command.Read file room)) x ≡ true
      told (answer.Read name place bytes) t =
          let e = t.1.entry in
          let took = left_took c s e a.told e.file e.at.place (told_answer c s.shape a i)
          (read_left c s e e.at.fate (s.lines.each e t.1.there).fate t.1.fate) t.1.by refl refl in
          ap (λ (o : Option EntryAt). option_map_or (is_read_entry c a.told name) o false)
          (entry_is c s e t.1.there file place t.1.on t.1.at)
          ∙ and_from (same_name e.at.name name && was_read e.at.fate) (is_after_placing c a.told e)
          (and_from (same_name e.at.name name) (was_read e.at.fate) t.1.named t.1.fate)
          (after_placing e t.1.there a.told took)
      told x t = refl
  reads a i k h = refl

  pub reads_are : fails_each of_answer (λ a. reads_entry c a a.asked a.answer) c.answers ≡ []
  reads_are = none_fails of_answer (λ (a : AnswerAt). reads_entry c a a.asked a.answer) c.answers (λ a i. reads a i a.asked (s.tells a i))

  copy_after : (x : StepAt) → In x c.steps → (o : Option Name) → copied x.at.kind ≡ o
      → option_map_or (λ name. option_map_or (λ e. option_map_or (λ t. is_after_placing c t e) (told_of c x.at.command) true) (entry_named c name) true) o true ≡ true
  copy_after x j None is = refl
  copy_after x j (Some name) is = entry (entry_named c name) refl
    where
      taker : (e : EntryAt) → In e c.entries → same_name e.at.name name ≡ true → (o : Option Told) → told_of c x.at.command ≡ o
          → option_map_or (λ t. is_after_placing c t e) o true ≡ true
      taker e i same None by = refl
      taker e i same (Some t) by = after_placing e i t (copy_took c s e i x j t (Some name) is same by)

      entry : (o : Option EntryAt) → entry_named c name ≡ o
          → option_map_or (λ e. option_map_or (λ t. is_after_placing c t e) (told_of c x.at.command) true) o true ≡ true
      entry None e = refl
      entry (Some e) n =
          taker e (found (λ (d : EntryAt). same_name d.at.name name) c.entries e n)
          (passes (λ (d : EntryAt). same_name d.at.name name) c.entries e n) (told_of c x.at.command) refl

  pub copies_are : fails_each of_step (copies_later c) c.steps ≡ []
  copies_are = none_fails of_step (copies_later c) c.steps (λ x j. copy_after x j (copied x.at.kind) refl)

  pub takes_rise : (file : ℕ) → fails_order of_answer (rises (taken_from file)) c.answers ≡ []
  takes_rise file = places_rise c s (taken_from file) (λ a b i j was p q e f.
      let l = (read_took c s a i file p e).to in
      let m = (read_took c s b j file q f).from in
      let r = (s.rise a.told b.told (told_answer c s.shape a i) (told_answer c s.shape b j) was).out file in
      omega (arith, l, m, r))
