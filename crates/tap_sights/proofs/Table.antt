-- What is sighted fails in no sentence of clause a that reads no replay: operations, refusals, and learnings of writes.
use Rattle.std.proofs.Common.{◌≡◌, ℕ, zero, suc, ◌+◌, ◌<◌, List, [], ◌∷◌, length, Option, Some, None, Bool, true, false, refl, sym, ap, ◌∙◌, subst, inl, inr, ⊎_elim, true≢false, arith}
use Rattle.std.specs.Prelude.{◌==◌, ◌&&◌, ◌||◌, if◌then◌else◌, not, nat_le, slice_get, option_map}
use Rattle.std.specs.List.{list_any}
use Rattle.std.specs.Option.{option_map_or}
use Rattle.std.proofs.lemmas.Bool.{and_from, and_parts, or_left, or_right, cases_Bool, eq-eqb, eqb-true, false_from_ne_true, le-leb}
use Rattle.tap_steer.specs.declared.operation.Op.{Op}
use Rattle.tap_steer.specs.Select.{learns}
use Rattle.scen_words.specs.declared.command.Command.{Command}
use Rattle.scen_words.specs.declared.command.Command.TheVariants as command
use Rattle.tap_trace.specs.declared.answer.Answer.{Answer}
use Rattle.tap_trace.specs.declared.answer.Answer.TheVariants as answer
use Rattle.tap_legal.specs.Numbered.{AnswerAt, Asked, OpAt, Told}
use Rattle.tap_legal.specs.Case.{Case}
use Rattle.tap_legal.specs.LegalAnswers.{fits_write_at}
use Rattle.tap_legal.specs.LegalTable.{fails_versions, is_answered, is_frame_at, is_hash_at, is_host, is_of_frame, is_other_frame, is_published, is_write, learns_frame, may_learn_on, tells_version, version_in}
use Rattle.tap_legal.specs.Lookups.{answers_told, command_of, is_learning, learnt_by, ops_of, own_ops, seen_before, some_look, table_at}
use Rattle.tap_sights.specs.Sight.{In, Ordered}
use Rattle.tap_sights.specs.Tells.{IsLooked, LearnsIt, LearnsNone, Tells, TellsWrite}
use Rattle.tap_sights.specs.Sights.{Sighted}
use Rattle.tap_sights.proofs.Askers.{answer_asked}
use Rattle.tap_sights.proofs.Kit.{any_in, in_at, in_filter_of, some_is}
use Rattle.tap_sights.proofs.LinesKit.{order_at, order_with}
use Rattle.tap_sights.proofs.Once.{in_one}
use Rattle.tap_sights.proofs.Orders.{before_seen, told_answer}

-- ---- versions

-- from this version on none is left out
abbrev AreFrom : ℕ → List OpAt → Type 0
AreFrom n os = (i : ℕ) (o : OpAt) → slice_get os i ≡ Some o → o.at.version ≡ n + i

none_left_out : (n : ℕ) (os : List OpAt) → AreFrom n os → fails_versions n os ≡ []
none_left_out n [] at = refl
none_left_out n (o ∷ os) at =
    let here = at zero o refl in
    rw (eq-eqb o.at.version n (omega (arith, here))) (none_left_out (n + 1) os (λ i p e. let h = at (suc i) p e in omega (arith, h)))

abbrev IsOlder : OpAt → OpAt → Type 0
IsOlder o p = o.at.version < p.at.version

module _ (c : Case) (s : Sighted c) where
  from_one : AreFrom 1 c.ops
  from_one i o e = let h = s.ops.numbers i o e in omega (arith, h)

  pub no_version_missing : fails_versions 1 c.ops ≡ []
  no_version_missing = none_left_out 1 c.ops from_one

  -- ---- operations and answers

  -- an operation of a command that is no learning, and a learning
  pub own_op : (n : ℕ) (o : OpAt) → In o c.ops → o.at.command ≡ n → is_learning o.op ≡ false → In o (own_ops c n)
  own_op n o i e l =
      in_filter_of (λ (p : OpAt). not (is_learning p.op)) (ops_of c n) o
      (in_filter_of (λ (p : OpAt). p.at.command == n) c.ops o i (eq-eqb o.at.command n e)) (ap not l)

  pub own_learning : (n : ℕ) (o : OpAt) → In o c.ops → o.at.command ≡ n → is_learning o.op ≡ true → In o (learnt_by c n)
  own_learning n o i e l =
      in_filter_of (λ (p : OpAt). is_learning p.op) (ops_of c n) o
      (in_filter_of (λ (p : OpAt). p.at.command == n) c.ops o i (eq-eqb o.at.command n e)) l

  pub published : (a : AnswerAt) → In a c.answers → is_published c a ≡ true
  published a i = go (version_in a.answer) refl
    where
      go : (o : Option ℕ) → version_in a.answer ≡ o
          → option_map_or (λ v. list_any (λ (x : OpAt). x.at.version == v) (own_ops c a.told.command)) o true ≡ true
      go None is = refl
      go (Some v) is =
          let r = (s.answers a i).owns v is in
          any_in (λ (x : OpAt). x.at.version == v) (own_ops c a.told.command) r.0
          (own_op a.told.command r.0 r.1 r.3 r.4) (eq-eqb r.0.at.version v r.2)

  -- the answer of an operation's command
  pub op_told : (o : OpAt) (i : In o c.ops) (a : AnswerAt) → In a c.answers → a.told ≡ (s.ops.each o i).by.told → In a (answers_told c o.at.command)
  op_told o i a j told =
      let f = s.ops.each o i in
      let number = ap (λ (t : Told). t.command) told ∙ s.shape.numbers o.at.command f.by f.is in
      in_filter_of (λ (x : AnswerAt). x.told.command == o.at.command) c.answers a j (eq-eqb a.told.command o.at.command number)

  pub op_answered : (o : OpAt) → In o c.ops → is_answered c o ≡ true
  op_answered o i = ⊎_elim
      (λ l. or_left (is_learning o.op) _ l)
      (λ r. or_right (is_learning o.op) _ (any_in (tells_version o.at.version) (answers_told c o.at.command) r.0 (op_told o i r.0 r.1 r.2)
      (ap (λ (v : Option ℕ). option_map_or (λ w. w == o.at.version) v false) r.3 ∙ eq-eqb o.at.version o.at.version refl)))
      (s.ops.each o i).answered

  -- ---- learnings of writes

  -- the answer of an operation's command, with what it was asked
  pub op_asker : (o : OpAt) (i : In o c.ops) → (a : AnswerAt) × In a c.answers × (a.told ≡ (s.ops.each o i).by.told)
      × (a.asked ≡ Some (s.ops.each o i).by.command)
  op_asker o i = let f = s.ops.each o i in answer_asked c s f.by (in_at c.asked o.at.command f.by f.is)

  module _ (a : AnswerAt) (i : In a c.answers) where
    -- a version at which it looked
    pub looked_at : (test : ℕ → Bool) (v : ℕ) → IsLooked s.seen a v → test v ≡ true → some_look c a.told a.seen test ≡ true
    looked_at test v l e =
        let b = before_seen c s a.told (told_answer c s.shape a i) in
        let from = l.from in
        some_is test (seen_before c a.told) a.seen v (omega (arith, b, from)) l.to e

    at_seen : IsLooked s.seen a a.seen
    at_seen = record { from = (s.answers a i).from; to = omega arith }

    module _ (file : ℕ) (bytes : List ℕ) where
      nothing_learnt : LearnsNone c a file bytes → (o : OpAt) → In o (learnt_by c a.told.command) → ⊥
      nothing_learnt h o j = subst (In o) h.none j

      it_learns : (x : Answer) → TellsWrite c s.seen a file bytes x → (o : OpAt) → In o (learnt_by c a.told.command)
          → (l : LearnsIt c s.seen a file bytes) × (o ≡ l.learning)
      it_learns (answer.Host len fnv) (inl l) o j = (l, in_one o l.learning (learnt_by c a.told.command) l.only j)
      it_learns (answer.Host len fnv) (inr h) o j = absurd (nothing_learnt h.0 o j)
      it_learns x h o j = absurd (nothing_learnt h o j)

      frame_learnt : TellsWrite c s.seen a file bytes a.answer → (o : OpAt) → In o (learnt_by c a.told.command)
          → learns_frame c (command.Write file bytes) o.op a.told a ≡ true
      frame_learnt h o j =
          let w = it_learns a.answer h o j in
          let l = w.0 in
          ap (λ (x : Option Op). learns_frame c (command.Write file bytes) x a.told a) (ap (λ (p : OpAt). p.op) w.1 ∙ l.is)
          ∙ looked_at (is_frame_at c a.told a file bytes l.flow) l.version l.looked
          (and_from (is_hash_at c file bytes l.flow l.version) _ l.hashed (or_left (fits_write_at c file bytes a.answer l.version) _ l.fits))

      -- where the write's flow may be learnt
      pub write_learns : (x : Answer) → TellsWrite c s.seen a file bytes x → may_learn_on c a.told a (if is_host x then 1 else 0) file ≡ true
      write_learns (answer.Host len fnv) (inl l) =
          let one = ap (λ (os : List OpAt). length os) l.only in
          and_from _ _
          (or_right (length (learnt_by c a.told.command) == 0) _ (looked_at (λ v. learns (table_at c v) file) l.version l.looked l.does))
          (or_left (nat_le 1 (length (learnt_by c a.told.command))) _ (le-leb 1 (length (learnt_by c a.told.command)) (omega (arith, one))))
      write_learns (answer.Host len fnv) (inr h) =
          and_from _ _
          (or_left (length (learnt_by c a.told.command) == 0) _ (ap (λ (os : List OpAt). length os == 0) h.0.none))
          (or_right (nat_le 1 (length (learnt_by c a.told.command))) _ (looked_at (λ v. not (learns (table_at c v) file)) a.seen at_seen (ap not h.1)))
      write_learns x h =
          and_from _ _
          (or_left (length (learnt_by c a.told.command) == 0) _ (ap (λ (os : List OpAt). length os == 0) h.none))
          (or_left (nat_le 0 (length (learnt_by c a.told.command))) _ (le-leb 0 (length (learnt_by c a.told.command)) (omega arith)))

    frame_of : (k : Command) → Tells c s.seen a (Some k) → (o : OpAt) → In o (learnt_by c a.told.command) → learns_frame c k o.op a.told a ≡ true
    frame_of (command.Write file bytes) h o j = frame_learnt file bytes h o j
    frame_of k h o j = refl

  pub op_of_frame : (o : OpAt) → In o c.ops → is_of_frame c o ≡ true
  op_of_frame o i = ⊎_elim
      (λ learning.
      let f = s.ops.each o i in
      let r = op_asker o i in
      let number : r.0.told.command ≡ o.at.command = ap (λ (t : Told). t.command) r.2 ∙ s.shape.numbers o.at.command f.by f.is in
      or_right (not (is_learning o.op) || length (answers_told c o.at.command) == 0) _
      (ap (λ (x : Option Asked). option_map_or (λ (y : Asked). list_any (learns_frame c y.command o.op y.told) (answers_told c o.at.command)) x false) f.is
      ∙ any_in (learns_frame c f.by.command o.op f.by.told) (answers_told c o.at.command) r.0 (op_told o i r.0 r.1 r.2)
      (subst (λ t. learns_frame c f.by.command o.op t r.0 ≡ true) r.2
      (frame_of r.0 r.1 f.by.command (subst (Tells c s.seen r.0) r.3 (s.tells r.0 r.1)) o
      (own_learning r.0.told.command o i (sym number) learning)))))
      (λ other. or_left (not (is_learning o.op) || length (answers_told c o.at.command) == 0) _
      (or_left (not (is_learning o.op)) (length (answers_told c o.at.command) == 0) (ap not other)))
      (cases_Bool (is_learning o.op))

  -- two learnings of one write are one
  twice : (o p : OpAt) → In o c.ops → In p c.ops → is_learning o.op ≡ true → is_learning p.op ≡ true → o.at.command ≡ p.at.command
      → is_write (command_of c p.at.command) ≡ true → o ≡ p
  twice o p i j lo lp same write =
      let f = s.ops.each p j in
      let r = op_asker p j in
      let number : r.0.told.command ≡ p.at.command = ap (λ (t : Told). t.command) r.2 ∙ s.shape.numbers p.at.command f.by f.is in
      go r.0 r.1 f.by.command (subst (Tells c s.seen r.0) r.3 (s.tells r.0 r.1))
      (sym (ap (λ (x : Option Asked). is_write (option_map (λ (y : Asked). y.command) x)) f.is) ∙ write)
      (own_learning r.0.told.command o i (same ∙ sym number) lo) (own_learning r.0.told.command p j (sym number) lp)
    where
      go : (a : AnswerAt) → In a c.answers → (k : Command) → Tells c s.seen a (Some k) → is_write (Some k) ≡ true
          → In o (learnt_by c a.told.command) → In p (learnt_by c a.told.command) → o ≡ p
      go a h (command.Write file bytes) t w io ip =
          let l = it_learns a h file bytes a.answer t o io in
          l.1 ∙ sym (in_one p l.0.learning (learnt_by c a.told.command) l.0.only ip)
      go a h k t w io ip = absurd (true≢false (sym w))

  -- an operation stands before another
  abbrev pub IsAhead : OpAt → OpAt → Type 0
  IsAhead o p = In o c.ops × In p c.ops × IsOlder o p

  pub ops_ahead : Ordered IsAhead c.ops
  ops_ahead = order_with IsOlder (λ o. In o c.ops) c.ops (λ o i. i) (order_at (λ (o : OpAt). o.at.version) 1 c.ops from_one)

  pub other_frame : (o p : OpAt) → IsAhead o p → is_other_frame c o p ≡ true
  other_frame o p h = ap not (false_from_ne_true _ (λ e.
      let w = and_parts (is_learning o.op && is_learning p.op && o.at.command == p.at.command) (is_write (command_of c p.at.command)) e in
      let n = and_parts (is_learning o.op && is_learning p.op) (o.at.command == p.at.command) w.0 in
      let l = and_parts (is_learning o.op) (is_learning p.op) n.0 in
      let same = ap (λ (x : OpAt). x.at.version) (twice o p h.0 h.1 l.0 l.1 (eqb-true o.at.command p.at.command n.1) w.1) in
      let older = h.2 in
      omega (arith, same, older)))
