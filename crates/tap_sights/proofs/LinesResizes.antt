-- The `resize` lines of a file: each is of one operation, and tells how the file was made smaller.
use Rattle.std.proofs.Common.{◌≡◌, ◌⊎◌, ℕ, ◌+◌, ◌-◌, ◌<◌, cond, [], Option, Some, None, true, false, refl, sym, ap, ◌∙◌, subst, inl, inr, true≢false, arith}
use Rattle.std.specs.Prelude.{◌==◌, ◌&&◌, ◌||◌, nat_lt, nat_le, option_map, option_and_then}
use Rattle.std.specs.Option.{option_map_or}
use Rattle.std.proofs.lemmas.Bool.{and_from, and_parts, eq-eqb, eqb-true, le-leb, lt-ltb, or_left, or_right}
use Rattle.tap_steer.specs.declared.operation.Op.{Op}
use Rattle.tap_steer.specs.declared.operation.Op.TheVariants as op
use Rattle.tap_steer.specs.Select.{capacity_of}
use Rattle.scen_words.specs.declared.command.Command.{Command}
use Rattle.scen_words.specs.declared.command.Command.TheVariants as command
use Rattle.tap_trace.specs.declared.answer.Answer.{Answer}
use Rattle.tap_trace.specs.declared.answer.Answer.TheVariants as answer
use Rattle.tap_ground.specs.Options.{◌>>=◌, only_if}
use Rattle.tap_world.specs.Guests.{is_ring}
use Rattle.tap_world.specs.Setup.{op_of}
use Rattle.tap_world.specs.StepBackend.{side_of}
use Rattle.tap_legal.specs.Numbered.{AnswerAt, Asked, OpAt, Told}
use Rattle.tap_legal.specs.Same.{same_op}
use Rattle.tap_legal.specs.Case.{Case, fails_each, fails_order}
use Rattle.tap_legal.specs.Lookups.{answer_of, asked_at, claimed_of, command_of, freed_of, is_learning, table_at, told_of}
use Rattle.tap_legal.specs.LegalLines.{has_capacity, has_taker, is_within_file, of_resize, resizes_rise}
use Rattle.tap_legal.specs.LegalTable.{answers_op, is_op_of, version_in}
use Rattle.tap_legal.specs.Takes.{Resized, resize_by, resized_in, resizes_of}
use Rattle.tap_sights.specs.Sight.{In, Ordered, Seen}
use Rattle.tap_sights.specs.Tells.{IsSized, Tells, TellsResize}
use Rattle.tap_sights.specs.LineFacts.{IsAfterResize, IsNotAgain, IsShaped}
use Rattle.tap_sights.specs.Sights.{Sighted}
use Rattle.tap_sights.proofs.Kit.{in_filter_map, in_order, none_breaks, none_fails, some_same}
use Rattle.tap_sights.proofs.LinesKit.{in_filter_map_of, order_at, order_filter_map}
use Rattle.tap_sights.proofs.LinesPlaces.{answer_from, answer_is}
use Rattle.tap_sights.proofs.Taken.{cond_some, only_some}

-- ---- a command that resizes

-- what makes a resize is a resize, and makes nothing else
resizes : (c : Case) (version : ℕ) (k : Command) (file n : ℕ) → is_op_of c version k (op.Resize file n) ≡ true → k ≡ command.Resize file n
resizes c version (command.Resize f m) file n e =
    let p = and_parts (file == f) (n == m) e in
    ap (λ x. command.Resize x m) (sym (eqb-true file f p.0)) ∙ ap (λ x. command.Resize file x) (sym (eqb-true n m p.1))
resizes c version (command.Backend vhost ring (Some f)) file n e =
    absurd (true≢false (sym (and_parts (is_ring ring) (same_op (op.Resize file n) (op.Back f (side_of ring) (Some vhost))) e).1))
resizes c version (command.Backend vhost ring None) file n e = absurd (cc (e))
resizes c version k file n e = absurd (cc (e))

no_learning : (c : Case) (version file n : ℕ) (x : Option Op) → option_map_or (is_op_of c version (command.Resize file n)) x false ≡ true
    → is_learning x ≡ false
no_learning c version file n None e = absurd (cc (e))
no_learning c version file n (Some (op.Learn f h)) e = absurd (cc (e))
no_learning c version file n (Some x) e = refl

-- its answer that tells a version is a `resize` line
resized_answer : (c : Case) (a : AnswerAt) (file n version : ℕ) (x : Answer) → answers_op c a (op.Resize file n) x ≡ true
    → version_in x ≡ Some version → (k d cut : ℕ) × (x ≡ answer.Resized version k d cut)
resized_answer c a file n version (answer.Resized v k d cut) e is =
    (k, d, cut, ap (λ m. answer.Resized m k d cut) (some_same v version is))
resized_answer c a file n version (answer.Version v) e is = absurd (cc (e))
resized_answer c a file n version x e is = absurd (cc (is))

bind_some : {A B : Type 0} (o : Option A) (f : A → Option B) (y : B) → (o >>= f) ≡ Some y → (x : A) × (o ≡ Some x) × (f x ≡ Some y)
bind_some None f y e = absurd (cc (e))
bind_some (Some x) f y e = (x, refl, e)

-- a `resize` line is an answer's
record IsLine (a : AnswerAt) (v n : ℕ) (x : Answer) (r : Resized) : Type 0 where
  is : x ≡ answer.Resized r.version r.claimed r.freed r.cut
  version : r.version ≡ v
  capacity : r.capacity ≡ n
  told : r.told ≡ a.told

line_from : (a : AnswerAt) (version capacity : ℕ) (r : Resized) (x : Answer) → resized_in version capacity (record a { answer = x }) ≡ Some r
    → IsLine a version capacity x r
line_from a version capacity r (answer.Resized v k d cut) e =
    let made : Resized = record { line = a.line + 1; told = a.told; version = v; capacity = capacity; claimed = k; freed = d; cut = cut } in
    let w = only_some (v == version) made r e in
    subst (λ q. IsLine a version capacity (answer.Resized v k d cut) q) w.1
    (record { is = refl; version = eqb-true v version w.0; capacity = refl; told = refl })
line_from a version capacity r x e = absurd (cc (e))

line_made : (c : Case) (file capacity : ℕ) (o : OpAt) (a : AnswerAt) → o.op ≡ Some (op.Resize file capacity) → answer_of c o.at.command ≡ Some a
    → (k d cut : ℕ) → a.answer ≡ answer.Resized o.at.version k d cut
    → (r : Resized) × (resize_by c file o o.op ≡ Some r) × (r.told ≡ a.told) × (r.version ≡ o.at.version)
line_made c file capacity o a is says k d cut e =
    let made : Resized = record { line = a.line + 1; told = a.told; version = o.at.version; capacity = capacity; claimed = k; freed = d; cut = cut } in (
      made,
      ap (resize_by c file o) is
          ∙ ap (λ b. cond b (answer_of c o.at.command) None >>= resized_in o.at.version capacity) (eq-eqb file file refl)
          ∙ ap (λ w. w >>= resized_in o.at.version capacity) says
          ∙ ap (λ y. resized_in o.at.version capacity (record a { answer = y })) e
          ∙ ap (λ b. only_if b made) (eq-eqb o.at.version o.at.version refl),
      refl,
      refl,
    )

version_by : (c : Case) (file : ℕ) (o : OpAt) (x : Option Op) (r : Resized) → resize_by c file o x ≡ Some r → r.version ≡ o.at.version
version_by c file o (Some (op.Resize f capacity)) r e =
    let b = bind_some (cond (f == file) (answer_of c o.at.command) None) (resized_in o.at.version capacity) r e in
    (line_from b.0 o.at.version capacity r b.0.answer b.2).version
version_by c file o x r e = absurd (cc (e))

abbrev pub IsOlder : Resized → Resized → Type 0
IsOlder q r = q.version < r.version

-- The operation and the answer of a `resize` line, and what the answer tells.
pub record IsResize (c : Case) (s : Seen) (file : ℕ) (r : Resized) : Type 0 where
  pub by : OpAt
  pub there : In by c.ops
  pub is : by.op ≡ Some (op.Resize file r.capacity)
  pub version : r.version ≡ by.at.version
  pub told : told_of c by.at.command ≡ Some r.told
  pub answer : AnswerAt
  pub its : answer.told ≡ r.told
  pub sized : IsSized c s answer file r.capacity r.version r.claimed r.freed r.cut

-- the command of a line is its answer's
told_line : (c : Case) (n : ℕ) (x : Asked) (a : AnswerAt) (r : Resized) → asked_at c n ≡ Some x → a.told ≡ x.told → r.told ≡ a.told
    → told_of c n ≡ Some r.told
told_line c n x a r is by its = ap (option_map (λ (y : Asked). y.told)) is ∙ ap (λ t. Some t) (sym by ∙ sym its)

-- a command that is told has its number
pub told_number : (c : Case) → IsShaped c → (n : ℕ) (t : Told) → told_of c n ≡ Some t → t.command ≡ n
told_number c h n t e = go (asked_at c n) refl e
  where
    go : (o : Option Asked) → asked_at c n ≡ o → option_map (λ (x : Asked). x.told) o ≡ Some t → t.command ≡ n
    go None is k = absurd (cc (k))
    go (Some x) is k = subst (λ (u : Told). u.command ≡ n) (some_same x.told t k) (h.numbers n x is)

pub is_resize_op : (o : OpAt) (file n : ℕ) → o.op ≡ Some (op.Resize file n) → is_learning o.op ≡ false
is_resize_op o file n is = ap is_learning is

module _ (c : Case) (s : Sighted c) where
  -- two operations of a command that are no learnings are one
  pub one_op : (o p : OpAt) → In o c.ops → In p c.ops → o.at.command ≡ p.at.command → is_learning o.op ≡ false → is_learning p.op ≡ false → o ≡ p
  one_op o p i j same n m = go (in_order IsNotAgain c.ops o p s.ops.once i j)
    where
      go : (o ≡ p) ⊎ IsNotAgain o p ⊎ IsNotAgain p o → o ≡ p
      go (inl is) = is
      go (inr (inl h)) = absurd (true≢false (sym (h same n) ∙ m))
      go (inr (inr h)) = absurd (true≢false (sym (h (sym same) m) ∙ n))

  -- the command of a resize
  pub command_is : (o : OpAt) (i : In o c.ops) (file n : ℕ) → o.op ≡ Some (op.Resize file n) → (s.ops.each o i).by.command ≡ command.Resize file n
  command_is o i file n is =
      let f = s.ops.each o i in
      let its = sym (ap (λ (w : Option Asked). option_map_or (λ (x : Asked). x.told.phase == o.phase && option_map_or (is_op_of c o.at.version x.command) o.op false) w false) f.is) ∙ f.its in
      let may = (and_parts (f.by.told.phase == o.phase) (option_map_or (is_op_of c o.at.version f.by.command) o.op false) its).1 in
      resizes c o.at.version f.by.command file n
      (sym (ap (λ (w : Option Op). option_map_or (is_op_of c o.at.version f.by.command) w false) is) ∙ may)

  -- of the command of a resize each operation is that resize
  pub its_resize : (o p : OpAt) (i : In o c.ops) (j : In p c.ops) (file n : ℕ) → p.op ≡ Some (op.Resize file n) → o.at.command ≡ p.at.command → o ≡ p
  its_resize o p i j file n is same =
      let f = s.ops.each o i in
      let g = s.ops.each p j in
      let asker : f.by ≡ g.by = some_same f.by g.by (sym f.is ∙ ap (asked_at c) same ∙ g.is) in
      let k : f.by.command ≡ command.Resize file n = ap (λ (x : Asked). x.command) asker ∙ command_is p j file n is in
      let its = sym (ap (λ (w : Option Asked). option_map_or (λ (x : Asked). x.told.phase == o.phase && option_map_or (is_op_of c o.at.version x.command) o.op false) w false) f.is) ∙ f.its in
      let may = (and_parts (f.by.told.phase == o.phase) (option_map_or (is_op_of c o.at.version f.by.command) o.op false) its).1 in
      let none = no_learning c o.at.version file n o.op (sym (ap (λ y. option_map_or (is_op_of c o.at.version y) o.op false) k) ∙ may) in
      one_op o p i j same none (is_resize_op p file n is)

  -- ---- a `resize` line

  sized : (o : OpAt) (i : In o c.ops) (file capacity : ℕ) (r : Resized) → o.op ≡ Some (op.Resize file capacity) → (a : AnswerAt)
      → answer_of c o.at.command ≡ Some a → resized_in o.at.version capacity a ≡ Some r → IsResize c s.seen file r
  sized o i file capacity r is a says line =
      let f = s.ops.each o i in
      let from = answer_from c s o.at.command f.by f.is a says in
      let h = line_from a o.at.version capacity r a.answer line in
      let k = s.shape.asked a from.0 in
      let number : a.told.command ≡ o.at.command = ap (λ (t : Told). t.command) from.1 ∙ s.shape.numbers o.at.command f.by f.is in
      let asker : record { told = a.told; command = k.0 } ≡ f.by =
      some_same (record { told = a.told; command = k.0 }) f.by (sym k.1 ∙ ap (asked_at c) number ∙ f.is) in
      let asked : a.asked ≡ Some (command.Resize file capacity) =
      k.2 ∙ ap (λ (x : Asked). Some x.command) asker ∙ ap (λ x. Some x) (command_is o i file capacity is) in
      let tells : TellsResize c s.seen a file capacity a.answer = subst (λ x. Tells c s.seen a x) asked (s.tells a from.0) in
      let sizes : IsSized c s.seen a file capacity r.version r.claimed r.freed r.cut = subst (λ x. TellsResize c s.seen a file capacity x) h.is tells in
      record {
        by = o;
        there = i;
        is = is ∙ ap (λ n. Some (op.Resize file n)) (sym h.capacity);
        version = h.version;
        told = told_line c o.at.command f.by a r f.is from.1 h.told;
        answer = a;
        its = sym h.told;
        sized = subst (λ n. IsSized c s.seen a file n r.version r.claimed r.freed r.cut) (sym h.capacity) sizes;
      }

  made_by : (file : ℕ) (o : OpAt) → In o c.ops → (x : Option Op) → o.op ≡ x → (r : Resized) → resize_by c file o x ≡ Some r → IsResize c s.seen file r
  made_by file o i (Some (op.Resize f capacity)) is r e =
      let b = bind_some (cond (f == file) (answer_of c o.at.command) None) (resized_in o.at.version capacity) r e in
      let w = cond_some (f == file) (answer_of c o.at.command) b.0 b.1 in
      sized o i file capacity r (is ∙ ap (λ n. Some (op.Resize n capacity)) (eqb-true f file w.0)) b.0 w.1 b.2
  made_by file o i x is r e = absurd (cc (e))

  pub is_resize : (file : ℕ) (r : Resized) → In r (resizes_of c file) → IsResize c s.seen file r
  is_resize file r i =
      let m = in_filter_map (λ (o : OpAt). resize_by c file o o.op) c.ops r i in
      made_by file m.0 m.1 m.0.op refl r m.2

  -- each resize of a file has its line
  pub line_of : (o : OpAt) → In o c.ops → (file capacity : ℕ) → o.op ≡ Some (op.Resize file capacity)
      → (r : Resized) × In r (resizes_of c file) × (told_of c o.at.command ≡ Some r.told) × (r.version ≡ o.at.version)
  line_of o i file capacity is = answered (s.ops.each o i).answered
    where
      answered : (is_learning o.op ≡ true) ⊎ (a : AnswerAt) × In a c.answers × (a.told ≡ (s.ops.each o i).by.told) × (version_in a.answer ≡ Some o.at.version)
          → (r : Resized) × In r (resizes_of c file) × (told_of c o.at.command ≡ Some r.told) × (r.version ≡ o.at.version)
      answered (inl is_one) = absurd (true≢false (sym is_one ∙ is_resize_op o file capacity is))
      answered (inr (a, j, by, version)) =
          let g = s.ops.each o i in
          let number : a.told.command ≡ o.at.command = ap (λ (t : Told). t.command) by ∙ s.shape.numbers o.at.command g.by g.is in
          let asks : command_of c a.told.command ≡ Some (command.Resize file capacity) =
          ap (command_of c) number ∙ ap (option_map (λ (x : Asked). x.command)) g.is ∙ ap (λ x. Some x) (command_is o i file capacity is) in
          let may : answers_op c a (op.Resize file capacity) a.answer ≡ true =
          sym (ap (λ (k : Option Command). option_map_or (λ x. answers_op c a x a.answer) (option_and_then (op_of c.setup) k) true) asks) ∙ (s.answers a j).table in
          let z = resized_answer c a file capacity o.at.version a.answer may version in
          let l = line_made c file capacity o a is (answer_is c s o.at.command g.by g.is a j by) z.0 z.1 z.2 z.3 in (
            l.0,
            in_filter_map_of (λ (p : OpAt). resize_by c file p p.op) c.ops o l.0 i l.1,
            told_line c o.at.command g.by a l.0 g.is by l.2,
            l.3,
          )

  -- ---- their order

  pub resizes_older : (file : ℕ) → Ordered IsOlder (resizes_of c file)
  resizes_older file =
      order_filter_map (λ (o p : OpAt). o.at.version < p.at.version) IsOlder (λ (o : OpAt). resize_by c file o o.op) c.ops
      (λ o p q r l e f.
      let m = version_by c file o o.op q e in
      let n = version_by c file p p.op r f in
      omega (arith, l, m, n))
      (order_at (λ (o : OpAt). o.at.version) 1 c.ops (λ i o e. let h = s.ops.numbers i o e in omega (arith, h)))

  -- a command has one `resize` line
  pub one_resize : (file : ℕ) (q r : Resized) → IsResize c s.seen file q → IsResize c s.seen file r → q.told ≡ r.told → q.version ≡ r.version
  one_resize file q r h k e =
      let number = sym (told_number c s.shape h.by.at.command q.told h.told) ∙ ap (λ (t : Told). t.command) e
      ∙ told_number c s.shape k.by.at.command r.told k.told in
      h.version
      ∙ ap (λ (o : OpAt). o.at.version) (one_op h.by k.by h.there k.there number (is_resize_op h.by file q.capacity h.is) (is_resize_op k.by file r.capacity k.is))
      ∙ sym k.version

  -- ---- the sentences

  capacity_fits : (file : ℕ) (r : Resized) → IsResize c s.seen file r → has_capacity c file r ≡ true
  capacity_fits file r h =
      and_from (nat_le r.claimed (r.freed + r.capacity) && (r.cut == 0 || has_taker c r.told || r.claimed == r.freed + r.capacity))
      (r.cut == 0 || nat_lt r.capacity (capacity_of (table_at c (r.version - 1)) file))
      (and_from (nat_le r.claimed (r.freed + r.capacity)) (r.cut == 0 || has_taker c r.told || r.claimed == r.freed + r.capacity)
      (le-leb r.claimed (r.freed + r.capacity) h.sized.room) (least h.sized.least))
      (smaller h.sized.smaller)
    where
      least : (r.cut ≡ 0) ⊎ (has_taker c h.answer.told ≡ true) ⊎ (r.claimed ≡ r.freed + r.capacity)
          → (r.cut == 0 || has_taker c r.told || r.claimed == r.freed + r.capacity) ≡ true
      least (inl e) = or_left (r.cut == 0 || has_taker c r.told) (r.claimed == r.freed + r.capacity) (or_left (r.cut == 0) (has_taker c r.told) (eq-eqb r.cut 0 e))
      least (inr (inl e)) = or_left (r.cut == 0 || has_taker c r.told) (r.claimed == r.freed + r.capacity)
          (or_right (r.cut == 0) (has_taker c r.told) (ap (has_taker c) (sym h.its) ∙ e))
      least (inr (inr e)) = or_right (r.cut == 0 || has_taker c r.told) (r.claimed == r.freed + r.capacity) (eq-eqb r.claimed (r.freed + r.capacity) e)

      smaller : (r.cut ≡ 0) ⊎ (r.capacity < capacity_of (table_at c (r.version - 1)) file)
          → (r.cut == 0 || nat_lt r.capacity (capacity_of (table_at c (r.version - 1)) file)) ≡ true
      smaller (inl e) = or_left (r.cut == 0) (nat_lt r.capacity (capacity_of (table_at c (r.version - 1)) file)) (eq-eqb r.cut 0 e)
      smaller (inr l) = or_right (r.cut == 0) (nat_lt r.capacity (capacity_of (table_at c (r.version - 1)) file))
          (lt-ltb r.capacity (capacity_of (table_at c (r.version - 1)) file) l)

  pub capacities_are : (file : ℕ) → fails_each of_resize (has_capacity c file) (resizes_of c file) ≡ []
  capacities_are file = none_fails of_resize (has_capacity c file) (resizes_of c file) (λ r i. capacity_fits file r (is_resize file r i))

  pub numbers_rise : (file : ℕ) → fails_order of_resize resizes_rise (resizes_of c file) ≡ []
  numbers_rise file = none_breaks of_resize resizes_rise IsAfterResize (resizes_of c file)
      (λ q r h. and_from (nat_le q.claimed r.claimed) (nat_le q.freed r.freed) (le-leb q.claimed r.claimed h.0) (le-leb q.freed r.freed h.1))
      (s.lines.resizes file)

  pub are_within : (file : ℕ) → fails_each of_resize (is_within_file c file) (resizes_of c file) ≡ []
  are_within file = none_fails of_resize (is_within_file c file) (resizes_of c file) (λ r i.
      let h = is_resize file r i in
      and_from (nat_le r.claimed (claimed_of c file)) (nat_le r.freed (freed_of c file))
      (le-leb r.claimed (claimed_of c file) h.sized.put_to) (le-leb r.freed (freed_of c file) h.sized.freed_to))
