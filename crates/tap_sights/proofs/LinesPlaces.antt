-- What is placed is an entry, each entry is what an answer placed, and places rise with an actor's commands.
use Rattle.std.proofs.Common.{◌≡◌, ℕ, ◌<◌, [], Option, Some, None, true, false, refl, sym, ap, ◌∙◌, inl, inr, ⊎_elim, arith}
use Rattle.std.specs.Prelude.{◌==◌, ◌&&◌, not, nat_lt, find, option_and_then}
use Rattle.std.specs.Option.{option_map_or}
use Rattle.std.proofs.lemmas.Bool.{and_from, cases_eq, eq-eqb, ne_eqb, lt-ltb, or_left, or_right}
use Rattle.tap_trace.specs.declared.answer.Answer.{Answer}
use Rattle.tap_trace.specs.declared.answer.Answer.TheVariants as answer
use Rattle.tap_ground.specs.Options.{only_if}
use Rattle.tap_legal.specs.Numbered.{AnswerAt, Asked, EntryAt, same_told}
use Rattle.tap_legal.specs.Case.{Case, fails_each, fails_order, of_answer, of_entry}
use Rattle.tap_legal.specs.Lookups.{answer_of, asked_at, is_before, placed_in, put_in}
use Rattle.tap_legal.specs.LegalLines.{is_entry_of, is_placed, rises, stands_as}
use Rattle.tap_sights.specs.Sight.{In}
use Rattle.tap_sights.specs.Tells.{TellsRing}
use Rattle.tap_sights.specs.LineFacts.{IsAhead}
use Rattle.tap_sights.specs.Sights.{Sighted}
use Rattle.tap_sights.proofs.Kit.{found, none_fails, passes}
use Rattle.tap_sights.proofs.LinesKit.{finds, none_breaks_in}
use Rattle.tap_sights.proofs.LinesFiles.{entry_is}
use Rattle.tap_sights.proofs.Orders.{earlier_is_before, next_is_before, one_answer, told_answer}
use Rattle.tap_sights.proofs.Answers.{same_told_refl}
use Rattle.tap_sights.proofs.Taken.{put_tells}
use Rattle.tap_sights.proofs.Waits.{told_same}

-- an answer that stands before another of its actor is of a command before
pub ahead_is_before : (a b : AnswerAt) → IsAhead a b → a.told.actor ≡ b.told.actor → is_before a.told b.told ≡ true
ahead_is_before a b (inl l) e = earlier_is_before a.told b.told l
ahead_is_before a b (inr (p, inl l)) e = absurd (omega (arith, l, e))
ahead_is_before a b (inr (p, inr (q, l))) e =
    next_is_before a.told b.told
    (and_from (a.told.phase == b.told.phase && a.told.actor == b.told.actor) (nat_lt a.told.command b.told.command)
    (and_from (a.told.phase == b.told.phase) (a.told.actor == b.told.actor) (eq-eqb a.told.phase b.told.phase p) (eq-eqb a.told.actor b.told.actor q))
    (lt-ltb a.told.command b.told.command l))

module _ (c : Case) (s : Sighted c) where
  -- the answer of a command's number is its command's
  pub answer_is : (n : ℕ) (x : Asked) → asked_at c n ≡ Some x → (a : AnswerAt) → In a c.answers → a.told ≡ x.told
      → answer_of c n ≡ Some a
  answer_is n x is a i e =
      ap (option_and_then (λ (y : Asked). find (λ (b : AnswerAt). same_told b.told y.told) c.answers)) is
      ∙ finds (λ (b : AnswerAt). same_told b.told x.told) c.answers a i (same_told_refl a.told x.told e)
      (λ b j same. one_answer c s.shape b a j i (told_same b.told x.told same ∙ sym e))

  pub answer_from : (n : ℕ) (x : Asked) → asked_at c n ≡ Some x → (a : AnswerAt) → answer_of c n ≡ Some a
      → In a c.answers × (a.told ≡ x.told)
  answer_from n x is a e =
      let found_is = sym (ap (option_and_then (λ (y : Asked). find (λ (b : AnswerAt). same_told b.told y.told) c.answers)) is) ∙ e in (
        found (λ (b : AnswerAt). same_told b.told x.told) c.answers a found_is,
        told_same a.told x.told (passes (λ (b : AnswerAt). same_told b.told x.told) c.answers a found_is),
      )

  -- ---- what is placed

  stands : (a : AnswerAt) (x : Answer) → TellsRing c s.seen a x → stands_as c a.told x ≡ true
  stands a (answer.Placed file place epoch len) h =
      ap (λ (o : Option EntryAt). option_map_or (is_entry_of a.told epoch len) o false) (entry_is c s h.entry h.there file place h.on h.at)
      ∙ h.is_its
  stands a x h = refl

  pub placed_stand : fails_each of_answer (λ a. stands_as c a.told a.answer) c.answers ≡ []
  placed_stand = none_fails of_answer (λ (a : AnswerAt). stands_as c a.told a.answer) c.answers (λ a i. stands a a.answer (s.rings a i))

  -- ---- entries

  pub put_is : (a : AnswerAt) (file place epoch len : ℕ) → a.answer ≡ answer.Placed file place epoch len → put_in file a ≡ Some place
  put_is a file place epoch len is =
      ap (placed_in file) is ∙ ap (λ b. only_if b place) (eq-eqb file file refl)

  placed : (e : EntryAt) → In e c.entries → is_placed c e ≡ true
  placed e i =
      let f = s.lines.each e i in
      let k = s.shape.asked f.placed f.there in
      let is = answer_is e.at.name.turn (record { told = f.placed.told; command = k.0 })
      (ap (asked_at c) (sym f.command) ∙ k.1) f.placed f.there refl in
      and_from (e.at.name.part == 0) _ (eq-eqb e.at.name.part 0 f.part)
      (ap (λ (o : Option AnswerAt). option_map_or (λ (a : AnswerAt). a.told.actor == e.at.name.actor && option_map_or (λ p. p == e.at.place) (put_in e.file a) false) o false) is
      ∙ and_from (f.placed.told.actor == e.at.name.actor) (option_map_or (λ p. p == e.at.place) (put_in e.file f.placed) false)
      (eq-eqb f.placed.told.actor e.at.name.actor f.actor)
      (ap (λ (o : Option ℕ). option_map_or (λ p. p == e.at.place) o false) (put_is f.placed e.file e.at.place e.at.epoch e.at.len f.is)
      ∙ eq-eqb e.at.place e.at.place refl))

  pub entries_placed : fails_each of_entry (is_placed c) c.entries ≡ []
  entries_placed = none_fails of_entry (is_placed c) c.entries placed

  -- ---- places that rise

  pub places_rise : (place : AnswerAt → Option ℕ)
      → ((a b : AnswerAt) → In a c.answers → In b c.answers → is_before a.told b.told ≡ true → (p q : ℕ) → place a ≡ Some p → place b ≡ Some q → p < q)
      → fails_order of_answer (rises place) c.answers ≡ []
  places_rise place law = none_breaks_in of_answer (rises place) IsAhead c.answers (λ a b i j ahead. ⊎_elim
      (λ same. or_right (not (a.told.actor == b.told.actor)) _
      (both (place a) (place b) (λ p q e f. law a b i j (ahead_is_before a b ahead same) p q e f)))
      (λ other. or_left (not (a.told.actor == b.told.actor)) _ (ap not (ne_eqb a.told.actor b.told.actor other)))
      (cases_eq a.told.actor b.told.actor)) s.shape.ahead
    where
      both : (o w : Option ℕ) → ((p q : ℕ) → o ≡ Some p → w ≡ Some q → p < q)
          → option_map_or (λ p. option_map_or (λ q. nat_lt p q) w true) o true ≡ true
      both None w h = refl
      both (Some p) None h = refl
      both (Some p) (Some q) h = lt-ltb p q (h p q refl refl)

  pub puts_rise : (file : ℕ) → fails_order of_answer (rises (put_in file)) c.answers ≡ []
  puts_rise file = places_rise (put_in file) (λ a b i j was p q e f.
      let l = (put_tells c s a i file p e).1 in
      let m = (put_tells c s b j file q f).0 in
      let r = (s.rise a.told b.told (told_answer c s.shape a i) (told_answer c s.shape b j) was).put file in
      omega (arith, l, m, r))
