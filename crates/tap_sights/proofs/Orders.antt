-- What the sights of a trace say of its versions: which operations are seen, and what an answer may rest on.
use Rattle.std.proofs.Common.{◌≡◌, ◌⊎◌, ℕ, zero, suc, ◌≤◌, ◌<◌, Option, Some, None, Bool, true, false, refl, sym, ap, ◌∙◌, subst, inl, inr, ⊎_elim, arith}
use Rattle.std.specs.Prelude.{◌==◌, ◌&&◌, not, nat_lt, nat_le, option_map}
use Rattle.std.specs.Option.{option_map_or}
use Rattle.std.proofs.lemmas.Bool.{and_from, and_left, and_right, and_parts, or_left, or_right, cases_Bool, cases_lt, le-leb, lt-leb, lt-ltb, ltb-true}
use Rattle.tap_steer.specs.Table.{Table}
use Rattle.tap_legal.specs.Numbered.{AnswerAt, Asked, OpAt, Told}
use Rattle.tap_legal.specs.Case.{Case}
use Rattle.tap_legal.specs.Lookups.{asked_at, is_before, is_below_own, is_later_of_actor, is_later_own, is_own_next, newest_before, newest_of, seen_before, some_now, table_at, told_of}
use Rattle.tap_sights.specs.Sight.{In}
use Rattle.tap_sights.specs.Tells.{IsNow, IsOpNow}
use Rattle.tap_sights.specs.LineFacts.{IsAhead, IsShaped, IsTold}
use Rattle.tap_sights.specs.Sights.{Sighted}
use Rattle.tap_sights.proofs.Kit.{greatest_from, greatest_to, in_at, in_order, last_to, none_any, some_is, some_same, there_is}

-- ---- commands

asked_by : (o : Option Asked) (t : Told) → option_map (λ (x : Asked). x.told) o ≡ Some t → (x : Asked) × (o ≡ Some x) × (x.told ≡ t)
asked_by None t e = absurd (cc (e))
asked_by (Some x) t e = (x, refl, some_same x.told t e)

pub told_asked : (c : Case) → IsShaped c → (n : ℕ) (x : Asked) → asked_at c n ≡ Some x → IsTold c x.told
told_asked c h n x e =
    subst (λ m. told_of c m ≡ Some x.told) (sym (h.numbers n x e)) (ap (option_map (λ (y : Asked). y.told)) e)

pub told_is : (c : Case) → IsShaped c → (n : ℕ) (t : Told) → told_of c n ≡ Some t → IsTold c t
told_is c h n t e =
    let r = asked_by (asked_at c n) t e in
    subst (IsTold c) r.2 (told_asked c h n r.0 r.1)

pub told_answer : (c : Case) → IsShaped c → (a : AnswerAt) → In a c.answers → IsTold c a.told
told_answer c h a i = ap (option_map (λ (y : Asked). y.told)) (h.asked a i).1

-- the command of an operation is the one that an answer is of
pub same_asker : (c : Case) → IsShaped c → (a : AnswerAt) → In a c.answers → (n : ℕ) (x : Asked) → asked_at c n ≡ Some x
    → n ≡ a.told.command → x.told ≡ a.told
same_asker c h a i n x e same =
    let r = h.asked a i in
    ap (λ (y : Asked). y.told) (some_same x (record { told = a.told; command = r.0 }) (sym e ∙ ap (asked_at c) same ∙ r.1))

-- ---- which is before which

pub earlier_is_before : (t u : Told) → t.phase < u.phase → is_before t u ≡ true
earlier_is_before t u l = or_left (nat_lt t.phase u.phase) (is_own_next t u) (lt-ltb t.phase u.phase l)

pub next_is_before : (t u : Told) → is_own_next t u ≡ true → is_before t u ≡ true
next_is_before t u e = or_right (nat_lt t.phase u.phase) (is_own_next t u) e

pub later_is_before : (t u : Told) → is_later_of_actor t u ≡ true → is_before t u ≡ true
later_is_before t u e = (and_parts (t.actor == u.actor) (is_before t u) e).1

-- two answers of one command are one
pub one_answer : (c : Case) → IsShaped c → (a b : AnswerAt) → In a c.answers → In b c.answers → a.told ≡ b.told → a ≡ b
one_answer c h a b i j e = go (in_order IsAhead c.answers a b h.ahead i j)
  where
    not_ahead : (x y : AnswerAt) → x.told ≡ y.told → IsAhead x y → ⊥
    not_ahead x y e (inl l) = let p = ap (λ (t : Told). t.phase) e in omega (arith, l, p)
    not_ahead x y e (inr (p, inl l)) = let q = ap (λ (t : Told). t.actor) e in omega (arith, l, q)
    not_ahead x y e (inr (p, inr (q, l))) = let r = ap (λ (t : Told). t.command) e in omega (arith, l, r)

    go : (a ≡ b) ⊎ IsAhead a b ⊎ IsAhead b a → a ≡ b
    go (inl is) = is
    go (inr (inl l)) = absurd (not_ahead a b e l)
    go (inr (inr l)) = absurd (not_ahead b a (sym e) l)

-- ---- versions

-- an operation of a command before this one is seen before it
pub seen_earlier : (c : Case) (s : Sighted c) (t : Told) → IsTold c t → (o : OpAt) (i : In o c.ops)
    → is_before (s.ops.each o i).by.told t ≡ true → o.at.version ≤ (s.seen.before t).version
seen_earlier c s t told o i was =
    let f = s.ops.each o i in
    let r = (s.rise f.by.told t (told_asked c s.shape o.at.command f.by f.is) told was).version in
    let to = f.to in
    omega (arith, r, to)

-- an operation that an answer may rest on is of its phase or of one before, and of no later command of its actor
pub no_later_phase : (c : Case) (s : Sighted c) (t : Told) → IsTold c t → (o : OpAt) → In o c.ops → o.at.version ≤ s.seen.until t
    → o.phase ≤ t.phase
no_later_phase c s t told o i le =
    let f = s.ops.each o i in
    let phase = f.phase in
    ⊎_elim
    (λ later.
    let l = s.ops.later t o f.by told i f.is (earlier_is_before t f.by.told (omega (arith, later, phase))) in
    absurd (omega (arith, l, le)))
    (λ same. same)
    (cases_lt t.phase o.phase)

pub no_later_own : (c : Case) (s : Sighted c) (t : Told) → IsTold c t → (o : OpAt) → In o c.ops → o.at.version ≤ s.seen.until t
    → is_later_own c t o ≡ false
no_later_own c s t told o i le = ⊎_elim
    (λ e.
    let f = s.ops.each o i in
    let next : is_own_next t f.by.told ≡ true =
    sym (ap (λ (q : Option Asked). option_map_or (λ (x : Asked). is_own_next t x.told) q false) f.is) ∙ e in
    let l = s.ops.later t o f.by told i f.is (next_is_before t f.by.told next) in
    absurd (omega (arith, l, le)))
    (λ e. e)
    (cases_Bool (is_later_own c t o))

-- such a version is of its phase or of one before, and before its actor's next operation
pub until_newest : (c : Case) (s : Sighted c) (t : Told) → IsTold c t → (v : ℕ) → v ≤ s.seen.until t → v ≤ newest_of c t.phase
until_newest c s t told zero le = omega arith
until_newest c s t told (suc i) le =
    let n = s.ops.until t told in
    let r = there_is i c.ops (omega (arith, le, n)) in
    let is = s.ops.numbers i r.0 r.1 in
    let here = in_at c.ops i r.0 r.1 in
    let phase = no_later_phase c s t told r.0 here (omega (arith, is, le)) in
    let g = greatest_from (λ (o : OpAt). nat_le o.phase t.phase) c.ops r.0 here (le-leb r.0.phase t.phase phase) in
    omega (arith, g, is)

pub until_own : (c : Case) (s : Sighted c) (t : Told) → IsTold c t → (v : ℕ) → v ≤ s.seen.until t → is_below_own c t v ≡ true
until_own c s t told v le = ap not (none_any (λ (o : OpAt). is_later_own c t o && nat_le o.at.version v) c.ops (λ o i. ⊎_elim
    (λ above. and_right (is_later_own c t o) (nat_le o.at.version v) (lt-leb o.at.version v above))
    (λ under. and_left (is_later_own c t o) (nat_le o.at.version v) (no_later_own c s t told o i (omega (arith, under, le))))
    (cases_lt v o.at.version)))

-- a test that holds of the table of such a version
pub now_some : (c : Case) (s : Sighted c) (a : AnswerAt) → In a c.answers → (test : Table → Bool) (v : ℕ)
    → IsNow s.seen a v → test (table_at c v) ≡ true → some_now c a test ≡ true
now_some c s a i test v now e =
    let told = told_answer c s.shape a i in
    some_is (λ w. is_below_own c a.told w && test (table_at c w)) a.seen (newest_of c a.told.phase) v now.from
    (until_newest c s a.told told v now.to)
    (and_from (is_below_own c a.told v) (test (table_at c v)) (until_own c s a.told told v now.to) e)

-- an operation above SEEN that it may rest on is of its phase
pub op_phase : (c : Case) (s : Sighted c) (a : AnswerAt) → In a c.answers → (o : OpAt) → IsOpNow c s.seen a o → o.phase ≡ a.told.phase
op_phase c s a i o now =
    let told = told_answer c s.shape a i in
    let f = s.ops.each o now.there in
    let phase = f.phase in
    let above = now.above in
    let from = (s.answers a i).from in
    let le = no_later_phase c s a.told told o now.there now.to in
    ⊎_elim
    (λ sooner.
    let l = seen_earlier c s a.told told o now.there (earlier_is_before f.by.told a.told (omega (arith, sooner, phase))) in
    absurd (omega (arith, l, from, above)))
    (λ ge. omega (arith, le, ge))
    (cases_lt o.phase a.told.phase)

-- what an actor had seen before a command is at most what its sight says
pub before_seen : (c : Case) (s : Sighted c) (t : Told) → IsTold c t → seen_before c t ≤ (s.seen.before t).version
before_seen c s t told = last_to t c.answers (newest_before c t.phase) (s.seen.before t).version newest (λ a i e.
    let r = (s.rise a.told t (told_answer c s.shape a i) told (next_is_before a.told t e)).version in
    let to = (s.answers a i).to in
    omega (arith, r, to))
  where
    newest : newest_before c t.phase ≤ (s.seen.before t).version
    newest = greatest_to (λ (o : OpAt). nat_lt o.phase t.phase) c.ops (s.seen.before t).version (λ o i e.
        let f = s.ops.each o i in
        let phase = f.phase in
        let l = ltb-true o.phase t.phase e in
        seen_earlier c s t told o i (earlier_is_before f.by.told t (omega (arith, l, phase))))
