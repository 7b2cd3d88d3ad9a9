-- What is sighted fails nowhere in clause e.
use Rattle.std.proofs.Common.{◌≡◌, ℕ, [], Some, Bool, true, refl, ap, ⊎_elim}
use Rattle.std.specs.Prelude.{◌==◌, ◌&&◌, ◌||◌, not, nat_lt, nat_le, filter}
use Rattle.std.specs.List.{list_any}
use Rattle.std.proofs.lemmas.Bool.{and_from, or_left, or_right, cases_eq, eq-eqb, ne_eqb, le-leb, lt-ltb}
use Rattle.tap_ledger.specs.declared.fate.Cause.TheVariants as cause
use Rattle.tap_trace.specs.declared.answer.Answer.{Answer}
use Rattle.tap_trace.specs.declared.answer.Answer.TheVariants as answer
use Rattle.tap_legal.specs.Numbered.{AnswerAt, OpAt}
use Rattle.tap_legal.specs.Case.{Case, of_answer}
use Rattle.tap_legal.specs.Lookups.{attaches_it, ends_it, is_later_own}
use Rattle.tap_legal.specs.LegalGone.{e_fails, ends_above, fits_found, fits_gone, gone_fails, has_row, is_in_time}
use Rattle.tap_sights.specs.Sight.{In}
use Rattle.tap_sights.specs.Tells.{IsGone, IsOpNow, TellsRing}
use Rattle.tap_sights.specs.Sights.{Sighted}
use Rattle.tap_sights.proofs.Kit.{any_in, both_none, in_filter_of, none_fails, none_mapped}
use Rattle.tap_sights.proofs.Orders.{no_later_own, no_later_phase, op_phase, told_answer}

module _ (c : Case) (s : Sighted c) (a : AnswerAt) (i : In a c.answers) where
  ends : (file want : ℕ) (o : OpAt) → IsOpNow c s.seen a o → ends_it c file want o ≡ true → ends_above c a file want o ≡ true
  ends file want o now e = and_from (nat_lt a.seen o.at.version) (ends_it c file want o) (lt-ltb a.seen o.at.version now.above) e

  in_time : (o : OpAt) → IsOpNow c s.seen a o → is_in_time c a.told o ≡ true
  in_time o now =
      and_from (o.phase == a.told.phase) (not (is_later_own c a.told o))
      (eq-eqb o.phase a.told.phase (op_phase c s a i o now))
      (ap not (no_later_own c s a.told (told_answer c s.shape a i) o now.there now.to))

  finds : (file want found : ℕ) (shut : Bool) → IsGone c s.seen a file want found shut → fits_found c a file want found shut ≡ true
  finds file want found shut h =
      and_from (nat_le want found && (not (found == want) || shut)) _
      (and_from (nat_le want found) (not (found == want) || shut) (le-leb want found h.least)
      (⊎_elim
      (λ e. or_right (not (found == want)) shut (h.was_shut e))
      (λ n. or_left (not (found == want)) shut (ap not (ne_eqb found want n)))
      (cases_eq found want)))
      (any_in (λ (o : OpAt). nat_le o.phase a.told.phase && attaches_it c file found o) c.ops h.opening h.there
      (and_from (nat_le h.opening.phase a.told.phase) (attaches_it c file found h.opening)
      (le-leb h.opening.phase a.told.phase (no_later_phase c s a.told (told_answer c s.shape a i) h.opening h.there h.opens_now)) h.opens))

  gone : (x : Answer) → TellsRing c s.seen a x → fits_gone c a x ≡ true
  gone (answer.Dropped (Some file) (cause.Gone want found shut)) h =
      and_from (has_row c a file want a.asked) (fits_found c a file want found shut) h.row (finds file want found shut h)
  gone x h = refl

  ended : (x : Answer) → TellsRing c s.seen a x → gone_fails c a x ≡ []
  ended (answer.Dropped (Some file) (cause.Gone want found shut)) h =
      let some : list_any (is_in_time c a.told) (filter (ends_above c a file want) c.ops) ≡ true =
      any_in (is_in_time c a.told) (filter (ends_above c a file want) c.ops) h.ending
      (in_filter_of (ends_above c a file want) c.ops h.ending h.ends_now.there (ends file want h.ending h.ends_now h.ends))
      (in_time h.ending h.ends_now) in
      rw some refl
  ended x h = refl

-- ---- the clause

pub gone_are_legal : (c : Case) → Sighted c → e_fails c ≡ []
gone_are_legal c s =
    both_none _ _
    (none_fails of_answer (λ (a : AnswerAt). fits_gone c a a.answer) c.answers (λ a i. gone c s a i a.answer (s.rings a i)))
    (none_mapped (λ (a : AnswerAt). gone_fails c a a.answer) c.answers (λ a i. ended c s a i a.answer (s.rings a i)))
