-- What is sighted fails nowhere in clause b.
use Rattle.std.proofs.Common.{◌≡◌, ℕ, List, [], length, Option, Some, Bool, true, false, refl, sym, ap, inl, inr, arith}
use Rattle.std.specs.Prelude.{◌==◌, ◌&&◌, not, nat_lt, nat_le, is_some}
use Rattle.std.proofs.lemmas.Bool.{and_from, and_left, and_right, eq-eqb, eqb-true, ne_eqb, le-leb, lt-ltb, le-ltb, ltb-true}
use Rattle.tap_steer.specs.Select.{shape_of}
use Rattle.scen_words.specs.declared.command.Command.{Command}
use Rattle.scen_words.specs.declared.command.Command.TheVariants as command
use Rattle.tap_trace.specs.declared.answer.Answer.{Answer}
use Rattle.tap_trace.specs.declared.answer.Answer.TheVariants as answer
use Rattle.tap_world.specs.Frames.{Front, least_in}
use Rattle.tap_legal.specs.Numbered.{AnswerAt, Asked, OpAt, Told, same_told}
use Rattle.tap_legal.specs.Case.{Case, of_answer}
use Rattle.tap_legal.specs.Lookups.{learnt_by, newest_before, newest_of, ops_of, seen_before, table_at}
use Rattle.tap_legal.specs.LegalAnswers.{answers_one, b_fails, fits_front, fits_read, fits_write_at, has_answer, has_text, has_worker, is_another, is_answer, is_seen_below, is_seen_from, is_seen_own, is_seen_to}
use Rattle.tap_sights.specs.Sight.{In}
use Rattle.tap_sights.specs.Tells.{HasFront, LearnsNone, Tells, TellsRead, TellsWrite}
use Rattle.tap_sights.specs.LineFacts.{IsAhead}
use Rattle.tap_sights.specs.Sights.{Sighted}
use Rattle.tap_sights.proofs.Kit.{any_in, both_none, greatest_to, in_filter, none_any, none_breaks, none_fails, some_is}
use Rattle.tap_sights.proofs.Orders.{before_seen, earlier_is_before, now_some, same_asker, seen_earlier, told_answer, until_newest, until_own}

-- ---- one answer for each command

pub same_told_refl : (t u : Told) → t ≡ u → same_told t u ≡ true
same_told_refl t u e = and_from (t.phase == u.phase && t.actor == u.actor) (t.command == u.command)
    (and_from (t.phase == u.phase) (t.actor == u.actor) (eq-eqb t.phase u.phase (ap (λ (x : Told). x.phase) e)) (eq-eqb t.actor u.actor (ap (λ (x : Told). x.actor) e)))
    (eq-eqb t.command u.command (ap (λ (x : Told). x.command) e))

ahead_is_another : (a b : AnswerAt) → IsAhead a b → is_another a b ≡ true
ahead_is_another a b (inl l) = ap not
    (and_left (a.told.phase == b.told.phase && a.told.actor == b.told.actor) (a.told.command == b.told.command)
    (and_left (a.told.phase == b.told.phase) (a.told.actor == b.told.actor) (ne_eqb a.told.phase b.told.phase (λ e. omega (arith, l, e)))))
ahead_is_another a b (inr (p, inl l)) = ap not
    (and_left (a.told.phase == b.told.phase && a.told.actor == b.told.actor) (a.told.command == b.told.command)
    (and_right (a.told.phase == b.told.phase) (a.told.actor == b.told.actor) (ne_eqb a.told.actor b.told.actor (λ e. omega (arith, l, e)))))
ahead_is_another a b (inr (p, inr (q, l))) = ap not
    (and_right (a.told.phase == b.told.phase && a.told.actor == b.told.actor) (a.told.command == b.told.command)
    (ne_eqb a.told.command b.told.command (λ e. omega (arith, l, e))))

-- ---- SEEN

module _ (c : Case) (s : Sighted c) (a : AnswerAt) (i : In a c.answers) where
  seen_from : is_seen_from c a ≡ true
  seen_from =
      let told = told_answer c s.shape a i in
      let from = (s.answers a i).from in
      let h = before_seen c s a.told told in
      let g = greatest_to (λ (o : OpAt). nat_lt o.phase a.told.phase) c.ops a.seen (λ o j e.
      let f = s.ops.each o j in
      let phase = f.phase in
      let l = ltb-true o.phase a.told.phase e in
      let r = seen_earlier c s a.told told o j (earlier_is_before f.by.told a.told (omega (arith, l, phase))) in
      omega (arith, r, from)) in
      and_from (nat_le (seen_before c a.told) a.seen) (nat_le (newest_before c a.told.phase) a.seen)
      (le-leb (seen_before c a.told) a.seen (omega (arith, h, from)))
      (le-leb (newest_before c a.told.phase) a.seen g)

  seen_own : is_seen_own c a ≡ true
  seen_own = ap not (none_any (λ (o : OpAt). nat_lt a.seen o.at.version) (ops_of c a.told.command) (λ o j.
      let r = in_filter (λ (p : OpAt). p.at.command == a.told.command) c.ops o j in
      let f = s.ops.each o r.0 in
      let same = eqb-true o.at.command a.told.command r.1 in
      le-ltb a.seen o.at.version (f.seen a i (sym (same_asker c s.shape a i o.at.command f.by f.is same)))))

  seen_to : is_seen_to c a ≡ true
  seen_to = le-leb a.seen (newest_of c a.told.phase) (until_newest c s a.told (told_answer c s.shape a i) a.seen (s.answers a i).now)

  seen_below : is_seen_below c a ≡ true
  seen_below = until_own c s a.told (told_answer c s.shape a i) a.seen (s.answers a i).now

  -- ---- reads and writes

  fronted : (file : ℕ) (P : Front → Type 0) (x : Answer) (test : Front → Bool) → HasFront c a file P
      → ((front : Front) → P front → test front ≡ true) → fits_front (shape_of (table_at c a.seen) file) x test ≡ true
  fronted file P x test h law = rw h.is (law h.front h.holds)

  read_fits : (file room : ℕ) (x : Answer) → TellsRead c s.seen a file room x
      → fits_front (shape_of (table_at c a.seen) file) x (λ front. fits_read c a file room front x) ≡ true
  read_fits file room (answer.Tap e) (none, same) = rw none same
  read_fits file room (answer.Room least) h =
      fronted file _ (answer.Room least) (λ front. fits_read c a file room front (answer.Room least)) h
      (λ front p. and_from (nat_lt room (least_in front)) (least == least_in front) (lt-ltb room (least_in front) p.0) (eq-eqb least (least_in front) p.1))
  read_fits file room (answer.Read name place bytes) (h, taken) =
      fronted file _ (answer.Read name place bytes) (λ front. fits_read c a file room front (answer.Read name place bytes)) h
      (λ front p. and_from (nat_le (least_in front) room) (has_text c front room name bytes) (le-leb (least_in front) room p.0) p.1)
  read_fits file room answer.Busy (h, busy) =
      fronted file _ answer.Busy (λ front. fits_read c a file room front answer.Busy) h
      (λ front p. and_from (nat_le (least_in front) room) _ (le-leb (least_in front) room p)
      (now_some c s a i (has_worker file) busy.version busy.now busy.owned))
  read_fits file room (answer.Again place) (h, again) =
      fronted file _ (answer.Again place) (λ front. fits_read c a file room front (answer.Again place)) h
      (λ front p. le-leb (least_in front) room p)
  read_fits file room x h = absurd h

  write_none : (file : ℕ) (bytes : List ℕ) → LearnsNone c a file bytes → is_answer c a (Some (command.Write file bytes)) ≡ true
  write_none file bytes h =
      let none : nat_lt 0 (length (learnt_by c a.told.command)) ≡ false = ap (λ (os : List OpAt). nat_lt 0 (length os)) h.none in
      rw none h.fits

  write_fits : (file : ℕ) (bytes : List ℕ) (x : Answer) → TellsWrite c s.seen a file bytes x
      → is_answer c a (Some (command.Write file bytes)) ≡ true
  write_fits file bytes (answer.Host len fnv) (inl h) =
      let b = before_seen c s a.told (told_answer c s.shape a i) in
      let from = h.looked.from in
      let one : nat_lt 0 (length (learnt_by c a.told.command)) ≡ true = ap (λ (os : List OpAt). nat_lt 0 (length os)) h.only in
      rw one
      (some_is (fits_write_at c file bytes a.answer) (seen_before c a.told) a.seen h.version (omega (arith, b, from)) h.looked.to h.fits)
  write_fits file bytes (answer.Host len fnv) (inr h) = write_none file bytes h.0
  write_fits file bytes x h = write_none file bytes h

  answered : (k : Option Command) → Tells c s.seen a k → is_answer c a k ≡ true
  answered (Some (command.Send name hdr bytes)) h = h
  answered (Some (command.Read file room)) h = read_fits file room a.answer h
  answered (Some (command.Write file bytes)) h = write_fits file bytes a.answer h
  answered k h = refl

-- ---- the clause

pub answers_are_legal : (c : Case) → Sighted c → b_fails c ≡ []
answers_are_legal c s =
    both_none _ _ (both_none _ _ (both_none _ _ (both_none _ _ (both_none _ _ (both_none _ _ (both_none _ _ (both_none _ _
    s.shape.phases
    (none_fails of_answer answers_one c.answers (λ a i. ap is_some (s.shape.asked a i).2)))
    (none_breaks of_answer is_another IsAhead c.answers ahead_is_another s.shape.ahead))
    (none_fails (λ (x : Asked). c.end) (has_answer c) c.asked (λ x i.
    let r = s.shape.answered x i in any_in (λ (a : AnswerAt). same_told a.told x.told) c.answers r.0 r.1 (same_told_refl r.0.told x.told r.2))))
    (none_fails of_answer (is_seen_from c) c.answers (seen_from c s)))
    (none_fails of_answer (is_seen_own c) c.answers (seen_own c s)))
    (none_fails of_answer (is_seen_to c) c.answers (seen_to c s)))
    (none_fails of_answer (is_seen_below c) c.answers (seen_below c s)))
    (none_fails of_answer (λ (a : AnswerAt). is_answer c a a.asked) c.answers (λ a i. answered c s a i a.asked (s.tells a i)))
