-- What is sighted fails nowhere in clause f, where cuts are told.
use Rattle.std.proofs.Common.{◌≡◌, ℕ, ◌+◌, ◌-◌, ◌≤◌, ◌<◌, cond, List, [], ◌++◌, length, map, Option, Some, None, Bool, true, false, refl, sym, ap, ◌∙◌, subst, inl, inr, ⊎_elim, arith}
use Rattle.std.specs.Prelude.{◌==◌, ◌&&◌, not, nat_lt, nat_le, filter}
use Rattle.std.specs.List.{list_any}
use Rattle.std.specs.Option.{option_map_or}
use Rattle.std.proofs.lemmas.Bool.{and_from, and_left, and_right, and_parts, or_left, or_right, cases_eq, cases_lt, eq-eqb, eqb-true, ne_eqb, le-leb, le-ltb, false_from_ne_true}
use Rattle.tap_ledger.specs.declared.fate.Fate.{Fate}
use Rattle.tap_ledger.specs.declared.fate.Fate.TheVariants as fate
use Rattle.tap_ledger.specs.declared.fate.Cause.TheVariants as cause
use Rattle.scen_words.specs.declared.command.Command.{Command}
use Rattle.scen_words.specs.declared.command.Command.TheVariants as command
use Rattle.tap_trace.specs.declared.answer.Answer.{Answer}
use Rattle.tap_trace.specs.declared.answer.Answer.TheVariants as answer
use Rattle.tap_trace.specs.declared.turn.TurnText.TheVariants as text
use Rattle.tap_world.specs.Setup.{Declared}
use Rattle.tap_legal.specs.Numbered.{AnswerAt, EntryAt, FileAt, Told, entries_of, same_told}
use Rattle.tap_legal.specs.Case.{Case, of_answer, of_entry}
use Rattle.tap_legal.specs.Lookups.{claimed_of, declared, is_before, part_of}
use Rattle.tap_legal.specs.LegalNotReady.{below_fails, f_fails, fits_again, fits_idle, found_none, has_left_below, is_in_line, is_not_placed, is_not_ready, places_of}
use Rattle.tap_legal.specs.Served.{served_by}
use Rattle.tap_legal.specs.Takes.{Resized, copiers, cuts_of, cutters, is_taken_after, purgers, readers, waits, was_cut}
use Rattle.tap_sights.specs.Sight.{In, Seen}
use Rattle.tap_sights.specs.Tells.{IsNotReady, Tells, TellsRead, TellsTurn}
use Rattle.tap_sights.specs.LineFacts.{FileTells, IsTold, TellsFate, WasCut}
use Rattle.tap_sights.specs.Laws.{CutsAreTold}
use Rattle.tap_sights.specs.Sights.{Sighted}
use Rattle.tap_sights.proofs.Kit.{all_hold, any_in, both_none, found, passes, in_append, in_entries, in_filter, in_filter_of, in_flat_map, in_map, in_map_of, none_any, none_fails, none_mapped, some_same, there_is, which}
use Rattle.tap_sights.proofs.Orders.{told_answer, told_is}
use Rattle.tap_sights.proofs.Taken.{takers_took}

pub told_same : (t u : Told) → same_told t u ≡ true → t ≡ u
told_same t u e =
    let p = and_parts (t.phase == u.phase && t.actor == u.actor) (t.command == u.command) e in
    let q = and_parts (t.phase == u.phase) (t.actor == u.actor) p.0 in
    make t.phase u.phase t.actor u.actor t.command u.command (eqb-true t.phase u.phase q.0) (eqb-true t.actor u.actor q.1) (eqb-true t.command u.command p.1)
  where
    told : ℕ → ℕ → ℕ → Told
    told p a n = record { phase = p; actor = a; command = n }

    make : (p p' a a' n n' : ℕ) → p ≡ p' → a ≡ a' → n ≡ n' → told p a n ≡ told p' a' n'
    make p p' a a' n n' e f g = ap (λ x. told x a n) e ∙ ap (λ x. told p' x n) f ∙ ap (told p' a') g

pub cut_from : (c : Case) (s : Seen) (e : EntryAt) (f : Fate) → TellsFate c s e f → was_cut f ≡ true → WasCut c s e
cut_from c s e (fate.Discarded cause.Cut) h is = h
cut_from c s e f h is = absurd (cc (is))

module _ (c : Case) (s : Sighted c) (cuts : CutsAreTold c s.seen) where
  -- who cut what stands at a place hadn't seen that it left
  cutter_from : (e : EntryAt) (b : Told) (k : Bool)
      → In b (cond k (map (λ (r : Resized × List ℕ). r.0.told) (filter (λ (r : Resized × List ℕ). list_any (λ p. p == e.at.place) r.1) (cuts_of c e.file))) [])
      → IsTold c b × ((s.seen.before b).out e.file ≤ e.at.place)
  cutter_from e b false i = absurd i
  cutter_from e b true i =
      let m = in_map (λ (r : Resized × List ℕ). r.0.told) _ b i in
      let r = in_filter (λ (q : Resized × List ℕ). list_any (λ p. p == e.at.place) q.1) (cuts_of c e.file) m.0 m.1 in
      let w = which (λ p. p == e.at.place) m.0.1 r.1 in
      let t = cuts e.file w.0 m.0 r.0 w.1 in
      let d = t.0 in
      let both = and_parts (was_cut d.at.fate) (same_told (s.seen.taker d) m.0.0.told) t.4 in
      let h = cut_from c s.seen d d.at.fate (s.lines.each d t.1).fate both.0 in
      let by = told_same (s.seen.taker d) m.0.0.told both.1 ∙ m.2 in (
        subst (IsTold c) by (told_is c s.shape h.resize.at.command (s.seen.taker d) h.by),
        subst (λ n. (s.seen.before b).out n ≤ e.at.place) t.2
            (subst (λ q. (s.seen.before b).out d.file ≤ q) (t.3 ∙ eqb-true w.0 e.at.place w.2)
            (subst (λ u. (s.seen.before u).out d.file ≤ d.at.place) by h.from)),
      )

  below : (t : Told) → IsTold c t → (file place : ℕ) → place ≤ (s.seen.after t).out file → (e : EntryAt) → In e c.entries
      → has_left_below c t file place e ≡ true
  below t told file place out e i = ⊎_elim
      (λ same. ⊎_elim
      (λ under. or_right (not (e.file == file && nat_lt e.at.place place)) _
      (and_from (not (waits e.at.fate)) (not (is_taken_after c t e))
      (ap not (s.lines.left t e told i (subst (λ n. e.at.place < (s.seen.after t).out n) (sym same) (omega (arith, under, out)))))
      (ap not (none_any (λ b. is_before t b) (readers c e ++ copiers c e ++ purgers c e ++ cutters c e) (λ b j.
      false_from_ne_true (is_before t b) (λ was.
      let f = from b j in
      let r = subst (λ n. (s.seen.after t).out n ≤ (s.seen.before b).out n) same ((s.rise t b told f.0 was).out e.file) in
      let l = subst (λ n. (s.seen.before b).out n ≤ e.at.place) same f.1 in
      omega (arith, r, l, under, out)))))))
      (λ above. or_left (not (e.file == file && nat_lt e.at.place place)) _
      (ap not (and_right (e.file == file) (nat_lt e.at.place place) (le-ltb e.at.place place above))))
      (cases_lt e.at.place place))
      (λ other. or_left (not (e.file == file && nat_lt e.at.place place)) _
      (ap not (and_left (e.file == file) (nat_lt e.at.place place) (ne_eqb e.file file other))))
      (cases_eq e.file file)
    where
      from : (b : Told) → In b (readers c e ++ copiers c e ++ purgers c e ++ cutters c e) → IsTold c b × ((s.seen.before b).out e.file ≤ e.at.place)
      from b j = ⊎_elim
          (λ k. let r = takers_took c s e i b k in (r.told, r.from))
          (λ k. cutter_from e b (was_cut e.at.fate) k)
          (in_append b (readers c e ++ copiers c e ++ purgers c e) (cutters c e) j)

  in_line : (t : Told) → IsTold c t → (file place : ℕ) → IsNotReady c s.seen t file place
      → (is_in_line c file place && is_not_placed c t file place) ≡ true
  in_line t told file place h =
      and_from (is_in_line c file place) (is_not_placed c t file place)
      (and_from _ (nat_le place (claimed_of c file))
      (ap (λ (o : Option Declared). option_map_or (λ (d : Declared). nat_le d.first place) o false) h.is_declared ∙ le-leb h.declares.first place h.from)
      (le-leb place (claimed_of c file) h.to))
      h.fresh

  not_ready : (t : Told) → IsTold c t → (file place : ℕ) → IsNotReady c s.seen t file place → is_not_ready c t file place ≡ true
  not_ready t told file place h =
      and_from (is_in_line c file place && is_not_placed c t file place) _ (in_line t told file place h)
      (all_hold (has_left_below c t file place) c.entries (below t told file place h.out))

  -- such a place is CLAIMED or that of an entry
  among : (t : Told) (file place : ℕ) → IsNotReady c s.seen t file place → In place (places_of c file)
  among t file place h = go (part_of c file) refl
    where
      at_end : (n : ℕ) → claimed_of c file ≡ n → place ≡ n → In place (places_of c file)
      at_end n is e = inl (is ∙ sym e)

      go : (o : Option FileAt) → part_of c file ≡ o → In place (places_of c file)
      go None is =
          let no = ap (λ (o : Option FileAt). option_map_or (λ (f : FileAt). f.part.claimed) o 0) is in
          let to = h.to in
          at_end 0 no (omega (arith, to, no))
      go (Some f) is = ⊎_elim
          (λ under.
          let w = there_is (place - d.0.first) f.part.lines (omega (arith, under, first, claimed)) in
          let e = in_entries (f.line + 1) f.part.file f.part.lines (place - d.0.first) w.0 w.1 in
          let at = d.2.places (place - d.0.first) w.0 w.1 in
          let there : In e.0 c.entries = subst (In e.0) (sym s.shape.entries) (in_flat_map entries_of c.files f e.0 here e.1) in
          let named = in_filter_of (λ (x : EntryAt). x.file == file) c.entries e.0 there (eq-eqb e.0.file file (e.2 ∙ number)) in
          let at_place = ap (λ l. l.place) e.3 in
          let same : e.0.at.place ≡ place = omega (arith, at_place, at, first) in
          inr (subst (λ (p : ℕ). In p (map (λ (x : EntryAt). x.at.place) (filter (λ (x : EntryAt). x.file == file) c.entries))) same
          (in_map_of (λ (x : EntryAt). x.at.place) (filter (λ (x : EntryAt). x.file == file) c.entries) e.0 named)))
          (λ over.
          let to = h.to in
          at_end f.part.claimed claims (omega (arith, to, claims, over)))
          (cases_lt place f.part.claimed)
        where
          here : In f c.files
          here = found (λ (g : FileAt). g.part.file == file) c.files f is

          number : f.part.file ≡ file
          number = eqb-true f.part.file file (passes (λ (g : FileAt). g.part.file == file) c.files f is)

          claims : claimed_of c file ≡ f.part.claimed
          claims = ap (λ (o : Option FileAt). option_map_or (λ (g : FileAt). g.part.claimed) o 0) is

          d : (x : Declared) × (declared c f.part.file ≡ Some x) × FileTells c f x
          d = s.lines.files f here

          first : d.0.first ≤ place
          first = subst (λ (x : Declared). x.first ≤ place)
              (some_same h.declares d.0 (sym h.is_declared ∙ ap (declared c) (sym number) ∙ d.1)) h.from

          claimed : f.part.claimed ≡ d.0.first + length f.part.lines
          claimed = d.2.claimed

  module _ (a : AnswerAt) (i : In a c.answers) where
    again : (k : Option Command) → Tells c s.seen a k → fits_again c a k a.answer ≡ true
    again (Some (command.Read file room)) h = read a.answer h
      where
        read : (x : Answer) → TellsRead c s.seen a file room x → fits_again c a (Some (command.Read file room)) x ≡ true
        read (answer.Again place) t = in_line a.told (told_answer c s.shape a i) file place t.1
        read x t = refl
    again k h = refl

    left_below : (k : Option Command) → Tells c s.seen a k → below_fails c a k a.answer ≡ []
    left_below (Some (command.Read file room)) h = read a.answer h
      where
        read : (x : Answer) → TellsRead c s.seen a file room x → below_fails c a (Some (command.Read file room)) x ≡ []
        read (answer.Again place) t =
            none_fails of_entry (has_left_below c a.told file place) c.entries
            (below a.told (told_answer c s.shape a i) file place t.1.out)
        read x t = refl
    left_below k h = refl

    idle : (k : Option Command) → Tells c s.seen a k → fits_idle c a.told k a.answer ≡ true
    idle (Some (command.RxTurn vhost)) h = turn a.answer h
      where
        served : (o : Option ℕ) → served_by c a.told.command ≡ o
            → ((file : ℕ) → served_by c a.told.command ≡ Some file → (place : ℕ) × IsNotReady c s.seen a.told file place)
            → option_map_or (found_none c a.told) o true ≡ true
        served None is t = refl
        served (Some file) is t =
            let r = t file is in
            any_in (is_not_ready c a.told file) (places_of c file) r.0 (among a.told file r.0 r.1)
            (not_ready a.told (told_answer c s.shape a i) file r.0 r.1)

        turn : (x : Answer) → TellsTurn c s.seen a x → fits_idle c a.told (Some (command.RxTurn vhost)) x ≡ true
        turn (answer.Turn packets bytes text.Idle chains) t = served (served_by c a.told.command) refl t
        turn x t = refl
    idle k h = refl

-- ---- the clause

pub waits_are_legal : (c : Case) (s : Sighted c) → CutsAreTold c s.seen → f_fails c ≡ []
waits_are_legal c s cuts =
    both_none _ _ (both_none _ _
    (none_fails of_answer (λ (a : AnswerAt). fits_again c a a.asked a.answer) c.answers (λ a i. again c s cuts a i a.asked (s.tells a i)))
    (none_mapped (λ (a : AnswerAt). below_fails c a a.asked a.answer) c.answers (λ a i. left_below c s cuts a i a.asked (s.tells a i))))
    (none_fails of_answer (λ (a : AnswerAt). fits_idle c a.told a.asked a.answer) c.answers (λ a i. idle c s cuts a i a.asked (s.tells a i)))
