-- What is sighted, with the replays of its guests, fails nowhere in clause a.
use Rattle.std.proofs.Common.{◌≡◌, ◌⊎◌, ℕ, suc, ◌≤◌, cond, List, [], ◌∷◌, ◌++◌, length, map, append-nil, Option, Some, None, IfSome, Bool, true, false, refl, sym, ap, ◌∙◌, subst, inl, inr, ⊎_elim, true≢false, arith}
use Rattle.std.specs.Prelude.{◌==◌, ◌||◌, not, nat_le, is_some, filter, filter_map, flat_map}
use Rattle.std.specs.List.{cons_option, list_all, list_any}
use Rattle.std.specs.Option.{option_map_or}
use Rattle.std.proofs.lemmas.Bool.{and_from, cases_Bool, eq-eqb, eqb-true, le-leb, ne_eqb, or_left, or_right}
use Rattle.guest_mem.specs.declared.region.Region.{Region}
use Rattle.tap_ledger.specs.declared.side.Side.{Side}
use Rattle.tap_steer.specs.declared.operation.Op.{Op}
use Rattle.tap_steer.specs.declared.operation.Op.TheVariants as op
use Rattle.tap_steer.specs.Select.{learns}
use Rattle.scen_words.specs.declared.command.Command.{Command}
use Rattle.scen_words.specs.declared.command.Command.TheVariants as command
use Rattle.tap_world.specs.ByNumber.{at, numbered}
use Rattle.tap_world.specs.StepTurns.{turn_on}
use Rattle.tap_legal.specs.Numbered.{AnswerAt, Asked, OpAt, Told}
use Rattle.tap_legal.specs.Case.{Case, fails_each, of_answer, of_op}
use Rattle.tap_legal.specs.LegalTable.{a_fails, gives_up, hash_in, is_answered, is_back_answer, is_lawful, is_of_frame, is_of_phase, is_other_frame, is_published, is_table_answer, is_turn_file, may_learn, may_learn_as, may_learn_on, turn_fails, unmatched}
use Rattle.tap_legal.specs.Lookups.{asked_at, is_learning, learnt_by, ops_of, own_ops, some_look, table_at}
use Rattle.tap_legal.specs.Replay.{Accepted, Began, Replay, Unset, vhost_named}
use Rattle.tap_legal.specs.Replays.{Replays, begun_by, flows_of, unset_by, was_replayed}
use Rattle.tap_legal.specs.Served.{served_by}
use Rattle.tap_sights.specs.Acts.{Act, Done, first_state}
use Rattle.tap_sights.specs.GuestFacts.{EachGuest, GuestTells, Look, LookTells, TurnLearns, flows_by}
use Rattle.tap_sights.specs.Replayed.{EachReplayed, IsReplayed, Replayed}
use Rattle.tap_sights.specs.Sight.{In, Ordered, Seen}
use Rattle.tap_sights.specs.Tells.{Tells}
use Rattle.tap_sights.specs.Sights.{Sighted}
use Rattle.tap_sights.proofs.Askers.{answer_asked, command_is}
use Rattle.tap_sights.proofs.Kit.{all_hold, both_none, in_filter, in_filter_map, none_breaks, none_fails, none_mapped, some_same, which}
use Rattle.tap_sights.proofs.LinesKit.{filter_none, in_flat}
use Rattle.tap_sights.proofs.Once.{in_one}
use Rattle.tap_sights.proofs.OnGuests.{accepts_own, done_on, first_on, named_vhost}
use Rattle.tap_sights.proofs.Places.{IsLess, numbers_rise}
use Rattle.tap_sights.proofs.Table.{IsAhead, looked_at, no_version_missing, op_answered, op_of_frame, ops_ahead, other_frame, own_op, published, write_learns}

-- the hashes of the frames that a command accepted
abbrev flows_in : ℕ → List Accepted → List ℕ
flows_in n xs = map (λ (x : Accepted). x.flow) (filter (λ (x : Accepted). x.command == n) xs)

-- ---- replays and acts

-- a replay with its guest and its acts
record OfGuest (c : Case) (s : Seen) (gs : List (ℕ × List Region)) (r : Replay) : Type 0 where
  g : ℕ × List Region
  there : In g gs
  ds : List (Act × Done)
  tells : GuestTells c s g.0 g.1 ds
  replayed : IsReplayed c ds r

of_guest : (c : Case) (s : Seen) (gs : List (ℕ × List Region)) (dss : List (List (Act × Done))) (rs : Replays) → EachGuest c s gs dss
    → EachReplayed c dss rs → (r : ℕ × Replay) → In r rs → OfGuest c s gs r.1
of_guest c s [] [] rs h k r i = absurd (none rs k i)
  where
    none : (xs : Replays) → EachReplayed c [] xs → In r xs → ⊥
    none [] e j = j
    none (x ∷ xs) e j = e
of_guest c s [] (ds ∷ dss) rs h k r i = absurd h
of_guest c s (g ∷ gs) [] rs h k r i = absurd h
of_guest c s (g ∷ gs) (ds ∷ dss) [] h k r i = absurd i
of_guest c s (g ∷ gs) (ds ∷ dss) (x ∷ rs) h k r (inl is) =
    record { g = g; there = inl refl; ds = ds; tells = h.0; replayed = subst (λ (y : ℕ × Replay). IsReplayed c ds y.1) is k.0 }
of_guest c s (g ∷ gs) (ds ∷ dss) (x ∷ rs) h k r (inr i) =
    let w = of_guest c s gs dss rs h.1 k.1 r i in
    record { g = w.g; there = inr w.there; ds = w.ds; tells = w.tells; replayed = w.replayed }

-- ---- learnings in the order of frames

-- the hashes of these learnings are, in order, among those
abbrev AreAmong : List ℕ → List OpAt → Type 0
AreAmong fs [] = Unit {0}
AreAmong [] (o ∷ os) = ⊥
AreAmong (f ∷ fs) (o ∷ os) = (f ≡ hash_in o.op) × AreAmong fs os ⊎ AreAmong fs (o ∷ os)

one_more : (f : ℕ) (fs : List ℕ) (os : List OpAt) → AreAmong fs os → AreAmong (f ∷ fs) os
one_more f fs [] h = tt
one_more f fs (o ∷ os) h = inr h

without_first : (fs : List ℕ) (o : OpAt) (os : List OpAt) → AreAmong fs (o ∷ os) → AreAmong fs os
without_first [] o os h = absurd h
without_first (f ∷ fs) o os (inl h) = one_more f fs os h.1
without_first (f ∷ fs) o os (inr h) = one_more f fs os (without_first fs o os h)

-- a learning that is matched as early as can be leaves room for those behind it
all_matched : (fs : List ℕ) (os : List OpAt) → AreAmong fs os → unmatched fs os ≡ []
all_matched [] [] h = refl
all_matched [] (o ∷ os) h = absurd h
all_matched (f ∷ fs) [] h = refl
all_matched (f ∷ fs) (o ∷ os) h = go (f == hash_in o.op) refl (all_matched fs os) (all_matched fs (o ∷ os))
  where
    rest : AreAmong (f ∷ fs) (o ∷ os) → AreAmong fs os
    rest (inl w) = w.1
    rest (inr w) = without_first fs o os w

    whole : (f == hash_in o.op) ≡ false → AreAmong (f ∷ fs) (o ∷ os) → AreAmong fs (o ∷ os)
    whole is (inl w) = absurd (true≢false (sym (eq-eqb f (hash_in o.op) w.0) ∙ is))
    whole is (inr w) = w

    go : (b : Bool) → (f == hash_in o.op) ≡ b → (AreAmong fs os → unmatched fs os ≡ []) → (AreAmong fs (o ∷ os) → unmatched fs (o ∷ os) ≡ [])
        → unmatched fs (cond b os (o ∷ os)) ≡ []
    go true is this next = this (rest h)
    go false is this next = next (whole is h)

module _ (c : Case) (s : Seen) (a : AnswerAt) (file : ℕ) where
  looks_among : (ls : List Look) → ((l : Look) → In l ls → LookTells c s a file l)
      → AreAmong (map (λ (l : Look). l.flow) ls) (filter_map (λ (l : Look). l.learning) ls)
  looks_among [] each = tt
  looks_among (l ∷ ls) each = go l.learning refl (looks_among ls (λ x i. each x (inr i)))
    where
      go : (o : Option OpAt) → l.learning ≡ o → AreAmong (map (λ (x : Look). x.flow) ls) (filter_map (λ (x : Look). x.learning) ls)
          → AreAmong (l.flow ∷ map (λ (x : Look). x.flow) ls) (cons_option o (filter_map (λ (x : Look). x.learning) ls))
      go None is rest = one_more l.flow _ _ rest
      go (Some o) is rest = inl (ap hash_in (sym ((each l (inl refl)).is o is)), rest)

  -- all of them learnt, or one didn't
  all_or_one : (ls : List Look) → (length ls ≤ length (filter_map (λ (l : Look). l.learning) ls)) ⊎ (l : Look) × In l ls × (l.learning ≡ None)
  all_or_one [] = inl (omega arith)
  all_or_one (l ∷ ls) = go l.learning refl (all_or_one ls)
    where
      go : (o : Option OpAt) → l.learning ≡ o
          → (length ls ≤ length (filter_map (λ (x : Look). x.learning) ls)) ⊎ (x : Look) × In x ls × (x.learning ≡ None)
          → (suc (length ls) ≤ length (cons_option o (filter_map (λ (x : Look). x.learning) ls))) ⊎ (x : Look) × In x (l ∷ ls) × (x.learning ≡ None)
      go None is rest = inr (l, inl refl, is)
      go (Some o) is (inl le) = inl (omega (arith, le))
      go (Some o) is (inr w) = inr (w.0, inr w.1, w.2)

length_map : {A B : Type 0} (f : A → B) (xs : List A) → length (map f xs) ≡ length xs
length_map f [] = refl
length_map f (x ∷ xs) = ap suc (length_map f xs)

abbrev file_back : Option Op → ℕ
file_back (Some (op.Back file side vhost)) = file
file_back other = 0

module _ (c : Case) (s : Sighted c) (rs : Replays) (r : Replayed c s.guests rs) where
  abbrev gs : List (ℕ × List Region)
  gs = numbered 0 c.setup.guests

  of : (x : ℕ × Replay) → In x rs → OfGuest c s.seen gs x.1
  of x i = of_guest c s.seen gs s.guests.done rs s.guests.guests r.each x i

  -- ---- unsets

  -- the operation of an unset
  record UnsetTells (n : ℕ) (u : Unset) : Type 0 where
    file : ℕ
    had : u.file ≡ Some file
    unset : OpAt
    only : own_ops c n ≡ unset ∷ []
    side : Side
    is : unset.op ≡ Some (op.Back file side None)

  unset_tells : (n : ℕ) (u : Unset) → In u (unset_by n rs) → UnsetTells n u
  unset_tells n u i =
      let x = in_flat (λ (y : ℕ × Replay). filter (λ (w : Unset). w.command == n) y.1.unsets) rs u i in
      let w = of x.0 x.1 in
      let f = in_filter (λ (y : Unset). y.command == n) x.0.1.unsets u x.2 in
      let d = w.replayed.unsets u f.0 in
      let g = (w.tells.each d.act d.there).gave d.file d.gave in
      record {
        file = d.file;
        had = d.had;
        unset = g.0;
        only = ap (own_ops c) (sym (eqb-true u.command n f.1) ∙ sym d.by) ∙ g.1;
        side = g.2;
        is = g.3;
      }

  file_given : (o : OpAt) → In o c.ops → (x : Option Op) → o.op ≡ x → gives_up rs o x ≡ true
  file_given o i (Some (op.Back file side None)) is =
      all_hold (λ (u : Unset). option_map_or (λ f. f == file) u.file false) (unset_by o.at.command rs) (λ u j.
      let w = unset_tells o.at.command u j in
      let same = in_one o w.unset (own_ops c o.at.command) w.only (own_op c s o.at.command o i refl (ap is_learning is)) in
      let files : w.file ≡ file = ap file_back (sym w.is ∙ ap (λ (p : OpAt). p.op) (sym same) ∙ is) in
      ap (λ (f : Option ℕ). option_map_or (λ g. g == file) f false) w.had ∙ eq-eqb w.file file files)
  file_given o i x is = refl

  -- ---- turns that were replayed

  begun : (n : ℕ) (t : Began) → In t (begun_by n rs) → (file : ℕ) × (t.file ≡ Some file) × (served_by c n ≡ Some file)
  begun n t i =
      let x = in_flat (λ (y : ℕ × Replay). filter (λ (w : Began). w.command == n) y.1.turns) rs t i in
      let f = in_filter (λ (y : Began). y.command == n) x.0.1.turns t x.2 in
      let b = (of x.0 x.1).replayed.turns t f.0 in
      (b.file, b.had, ap (served_by c) (sym (eqb-true t.command n f.1)) ∙ b.served)

  module _ (n vhost : ℕ) (t : Told) (asked : asked_at c n ≡ Some (record { told = t; command = command.TxTurn vhost })) where
    -- an act of the command is this turn's
    its_command : (d : Act × Done) → (asked_at c d.0.told.command ≡ Some (record { told = d.0.told; command = d.0.command }))
        → d.0.told.command ≡ n → d.0.command ≡ command.TxTurn vhost
    its_command d h is = ap (λ (x : Asked). x.command) (some_same _ _ (sym h ∙ ap (asked_at c) is ∙ asked))

    -- the turn is on the guest of its vhost
    on_guest : was_replayed n rs ≡ true → (g : ℕ × List Region) × In g gs × (at c.setup.vhosts vhost ≡ Some g.0)
    on_guest e =
        let x = which (λ (y : ℕ × Replay). list_any (λ m. m == n) y.1.finished) rs e in
        let m = which (λ k. k == n) x.0.1.finished x.2 in
        let w = of x.0 x.1 in
        let f = w.replayed.finished m.0 m.1 in
        let d = done_on c w.g.0 w.tells.acts (first_state c w.g.0 w.g.1) w.ds (first_on w.g.0 c.setup.vhosts) w.tells.folds f.act f.there in
        let k = its_command f.act (w.tells.each f.act f.there).asked (f.by ∙ eqb-true m.0 n m.2) in
        let v = named_vhost c w.g.0 f.act.0 f.act.0.what d.st f.act.1 d.does vhost (ap vhost_named k) in
        (w.g, w.there, d.on vhost v.0 v.1)

    -- other guests' acts accept nothing for it
    accepted_none : (guest : ℕ) → at c.setup.vhosts vhost ≡ Some guest → (g : ℕ × List Region) (ds : List (Act × Done))
        → GuestTells c s.seen g.0 g.1 ds → (g.0 ≡ guest → ⊥) → flows_by n ds ≡ []
    accepted_none guest on g ds tells other =
        ap (map (λ (x : Accepted). x.flow)) (filter_none (λ (x : Accepted). x.command == n) (flat_map (λ (d : Act × Done). d.1.accepted) ds) (λ x i.
        let y = in_flat (λ (d : Act × Done). d.1.accepted) ds x i in
        let d = done_on c g.0 tells.acts (first_state c g.0 g.1) ds (first_on g.0 c.setup.vhosts) tells.folds y.0 y.1 in
        let h = accepts_own c g.0 y.0.0 y.0.0.what d.st y.0.1 d.does x y.2 in
        ne_eqb x.command n (λ e.
        let k = its_command y.0 (tells.each y.0 y.1).asked (sym h.of ∙ e) in
        let ring = some_same (vhost, 1) h.ring (sym (ap turn_on k) ∙ h.turns) in
        let at_it = d.on vhost h.v (ap (λ (q : ℕ × ℕ). at d.st.vhosts q.0) ring ∙ h.there) in
        other (some_same g.0 guest (sym at_it ∙ on)))))

    -- what the replays accepted for it is what the acts on its guest did
    flows_none : (guest : ℕ) → at c.setup.vhosts vhost ≡ Some guest
        → (xs : List (ℕ × List Region)) (dss : List (List (Act × Done))) (ys : Replays) → EachGuest c s.seen xs dss
        → EachReplayed c dss ys → ((x : ℕ × List Region) → In x xs → x.0 ≡ guest → ⊥) → flows_of n ys ≡ []
    flows_none guest on [] [] [] h k other = refl
    flows_none guest on [] [] (y ∷ ys) h k other = absurd k
    flows_none guest on [] (ds ∷ dss) ys h k other = absurd h
    flows_none guest on (x ∷ xs) [] ys h k other = absurd h
    flows_none guest on (x ∷ xs) (ds ∷ dss) [] h k other = absurd k
    flows_none guest on (x ∷ xs) (ds ∷ dss) (y ∷ ys) h k other =
        both_none _ _ (ap (flows_in n) k.0.accepted ∙ accepted_none guest on x ds h.0 (other x (inl refl)))
        (flows_none guest on xs dss ys h.1 k.1 (λ z i. other z (inr i)))

    flows_are : (guest : ℕ) → at c.setup.vhosts vhost ≡ Some guest
        → (xs : List (ℕ × List Region)) (dss : List (List (Act × Done))) (ys : Replays) → EachGuest c s.seen xs dss
        → EachReplayed c dss ys → Ordered IsLess xs → (g : ℕ × List Region) → In g xs → g.0 ≡ guest
        → (ds : List (Act × Done)) × GuestTells c s.seen g.0 g.1 ds × (flows_of n ys ≡ flows_by n ds)
    flows_are guest on [] dss ys h k o g i is = absurd i
    flows_are guest on (x ∷ xs) [] ys h k o g i is = absurd h
    flows_are guest on (x ∷ xs) (ds ∷ dss) [] h k o g i is = absurd k
    flows_are guest on (x ∷ xs) (ds ∷ dss) (y ∷ ys) h k o g (inl same) is = (
      ds,
      subst (λ (z : ℕ × List Region). GuestTells c s.seen z.0 z.1 ds) same h.0,
      ap (λ fs. fs ++ flows_of n ys) (ap (flows_in n) k.0.accepted)
          ∙ ap (λ fs. flows_by n ds ++ fs) (flows_none guest on xs dss ys h.1 k.1 (λ z i e.
          let l = o.0 z i in
          let at_x = ap (λ (w : ℕ × List Region). w.0) same in
          omega (arith, l, e, is, at_x)))
          ∙ append-nil (flows_by n ds),
    )
    flows_are guest on (x ∷ xs) (ds ∷ dss) (y ∷ ys) h k o g (inr i) is =
        let w = flows_are guest on xs dss ys h.1 k.1 o.1 g i is in
        let none = ap (flows_in n) k.0.accepted ∙ accepted_none guest on x ds h.0 (λ e. let l = o.0 g i in omega (arith, l, e, is)) in
        (w.0, w.1, ap (λ fs. fs ++ flows_of n ys) none ∙ w.2)

  module _ (a : AnswerAt) (i : In a c.answers) (vhost : ℕ) (is : a.asked ≡ Some (command.TxTurn vhost))
      (done : was_replayed a.told.command rs ≡ true) where
    -- what the turn learnt is of the frames that it accepted, on the file of its ring
    turn_learns : (file : ℕ) × IfSome (served_by c a.told.command) (λ f. f ≡ file) × TurnLearns c s.seen a file (flows_of a.told.command rs)
    turn_learns =
        let asked = command_is c s a i (command.TxTurn vhost) is in
        let g = on_guest a.told.command vhost a.told asked done in
        let w = flows_are a.told.command vhost a.told asked g.0.0 g.2 gs s.guests.done rs s.guests.guests r.each (numbers_rise 0 c.setup.guests) g.0 g.1 refl in
        let l = w.1.learnings a vhost i is g.2 in
        (l.0, l.1, subst (TurnLearns c s.seen a l.0) (sym w.2) l.2)

    began_on : (t : Began) → In t (begun_by a.told.command rs) → t.file ≡ Some turn_learns.0
    began_on t j =
        let b = begun a.told.command t j in
        b.1 ∙ ap Some (subst (λ o. IfSome o (λ f. f ≡ turn_learns.0)) b.2 turn_learns.1)

    learnt_on : (o : OpAt) → In o (learnt_by c a.told.command) → is_turn_file rs o o.op ≡ true
    learnt_on o j =
        let l = turn_learns.2 in
        let x = in_filter_map (λ (y : Look). y.learning) l.looks o (subst (In o) (sym l.learnings) j) in
        let of_command = in_filter (λ (p : OpAt). p.at.command == a.told.command) c.ops o
        (in_filter (λ (p : OpAt). is_learning p.op) (ops_of c a.told.command) o j).0 in
        let number = eqb-true o.at.command a.told.command of_command.1 in
        ap (is_turn_file rs o) ((l.each x.0 x.1).is o x.2)
        ∙ all_hold (λ (t : Began). option_map_or (λ f. f == turn_learns.0) t.file false) (begun_by o.at.command rs) (λ t k.
        ap (λ (f : Option ℕ). option_map_or (λ g. g == turn_learns.0) f false) (began_on t (subst (λ m. In t (begun_by m rs)) number k))
        ∙ eq-eqb turn_learns.0 turn_learns.0 refl)

    turn_matched : unmatched (flows_of a.told.command rs) (learnt_by c a.told.command) ≡ []
    turn_matched =
        let l = turn_learns.2 in
        all_matched (flows_of a.told.command rs) (learnt_by c a.told.command)
        (subst (AreAmong (flows_of a.told.command rs)) l.learnings
        (subst (λ fs. AreAmong fs (filter_map (λ (x : Look). x.learning) l.looks)) l.are (looks_among c s.seen a turn_learns.0 l.looks l.each)))

    turn_may_learn : may_learn_on c a.told a (length (flows_of a.told.command rs)) turn_learns.0 ≡ true
    turn_may_learn = and_from _ _ (learnt (learnt_by c a.told.command) refl) (unlearnt (all_or_one c s.seen a turn_learns.0 turn_learns.2.looks))
      where
        learnt : (os : List OpAt) → learnt_by c a.told.command ≡ os
            → (length (learnt_by c a.told.command) == 0 || some_look c a.told a.seen (λ v. learns (table_at c v) turn_learns.0)) ≡ true
        learnt [] e = or_left (length (learnt_by c a.told.command) == 0) _ (ap (λ (os : List OpAt). length os == 0) e)
        learnt (o ∷ os) e =
            let l = turn_learns.2 in
            let x = in_filter_map (λ (y : Look). y.learning) l.looks o (subst (In o) (sym (l.learnings ∙ e)) (inl refl)) in
            let t = l.each x.0 x.1 in
            or_right (length (learnt_by c a.told.command) == 0) _
            (looked_at c s a i (λ v. learns (table_at c v) turn_learns.0) x.0.version t.looked (t.does ∙ ap is_some x.2))

        unlearnt : (length turn_learns.2.looks ≤ length (filter_map (λ (l : Look). l.learning) turn_learns.2.looks))
            ⊎ (l : Look) × In l turn_learns.2.looks × (l.learning ≡ None)
            → (nat_le (length (flows_of a.told.command rs)) (length (learnt_by c a.told.command))
            || some_look c a.told a.seen (λ v. not (learns (table_at c v) turn_learns.0))) ≡ true
        unlearnt (inl le) =
            let many = sym (length_map (λ (l : Look). l.flow) turn_learns.2.looks) ∙ ap (λ (fs : List ℕ). length fs) turn_learns.2.are in
            let some = ap (λ (os : List OpAt). length os) turn_learns.2.learnings in
            or_left (nat_le (length (flows_of a.told.command rs)) (length (learnt_by c a.told.command))) _
            (le-leb (length (flows_of a.told.command rs)) (length (learnt_by c a.told.command)) (omega (arith, le, many, some)))
        unlearnt (inr w) =
            let t = turn_learns.2.each w.0 w.1 in
            or_right (nat_le (length (flows_of a.told.command rs)) (length (learnt_by c a.told.command))) _
            (looked_at c s a i (λ v. not (learns (table_at c v) turn_learns.0)) w.0.version t.looked (ap not (t.does ∙ ap is_some w.2)))

    turn_right : list_all (λ (b : Began). option_map_or (may_learn_on c a.told a (length (flows_of a.told.command rs))) b.file true)
        (begun_by a.told.command rs) ≡ true
    turn_right = all_hold _ (begun_by a.told.command rs) (λ b j.
        ap (λ (f : Option ℕ). option_map_or (may_learn_on c a.told a (length (flows_of a.told.command rs))) f true) (began_on b j) ∙ turn_may_learn)

  -- ---- commands and answers

  turns_match : (x : Asked) → In x c.asked → turn_fails c rs x.told.command x.command ≡ []
  turns_match x i =
      let w = answer_asked c s x i in
      subst (λ (n : ℕ). turn_fails c rs n x.command ≡ []) (ap (λ (t : Told). t.command) w.2) (go w.0 w.1 x.command w.3)
    where
      go : (a : AnswerAt) → In a c.answers → (k : Command) → a.asked ≡ Some k → turn_fails c rs a.told.command k ≡ []
      go a j (command.TxTurn vhost) is = when (was_replayed a.told.command rs) refl
        where
          when : (b : Bool) → was_replayed a.told.command rs ≡ b
              → cond b (fails_each of_op (λ (o : OpAt). is_turn_file rs o o.op) (learnt_by c a.told.command)
              ++ unmatched (flows_of a.told.command rs) (learnt_by c a.told.command)) [] ≡ []
          when false e = refl
          when true e = both_none _ _
              (none_fails of_op (λ (o : OpAt). is_turn_file rs o o.op) (learnt_by c a.told.command) (learnt_on a j vhost is e))
              (turn_matched a j vhost is e)
      go a j k is = refl

  learns_right : (a : AnswerAt) → In a c.answers → may_learn c rs a ≡ true
  learns_right a i =
      let k = s.shape.asked a i in
      ap (λ (o : Option Asked). option_map_or (λ (x : Asked). may_learn_as c rs x.told a x.command) o true) k.1
      ∙ go k.0 k.2 (subst (Tells c s.seen a) k.2 (s.tells a i))
    where
      go : (k : Command) → a.asked ≡ Some k → Tells c s.seen a (Some k) → may_learn_as c rs a.told a k ≡ true
      go (command.Write file bytes) is h = write_learns c s a i file bytes a.answer h
      go (command.TxTurn vhost) is h = ⊎_elim
          (λ e. or_right (not (was_replayed a.told.command rs)) _ (turn_right a i vhost is e))
          (λ e. or_left (not (was_replayed a.told.command rs)) _ (ap not e))
          (cases_Bool (was_replayed a.told.command rs))
      go k is h = refl

-- ---- the clause

pub table_is_legal : (c : Case) (s : Sighted c) (rs : Replays) → Replayed c s.guests rs → a_fails c rs ≡ []
table_is_legal c s rs r =
    both_none _ _ (both_none _ _ (both_none _ _ (both_none _ _ (both_none _ _ (both_none _ _ (both_none _ _ (both_none _ _ (both_none _ _
    (both_none _ _ (both_none _ _
    (no_version_missing c s)
    (none_fails of_op (is_lawful c) c.ops (λ o i. (s.ops.each o i).lawful)))
    (none_fails of_op (is_of_phase c) c.ops (λ o i. (s.ops.each o i).its)))
    (none_fails of_op (λ (o : OpAt). gives_up rs o o.op) c.ops (λ o i. file_given c s rs r o i o.op refl)))
    (none_fails of_answer (is_published c) c.answers (published c s)))
    (none_fails of_op (is_answered c) c.ops (op_answered c s)))
    (none_fails of_answer (is_table_answer c) c.answers (λ a i. (s.answers a i).table)))
    (none_fails of_answer (is_back_answer c) c.answers (λ a i. (s.answers a i).back)))
    (none_fails of_op (is_of_frame c) c.ops (op_of_frame c s)))
    (none_breaks of_op (is_other_frame c) (IsAhead c s) c.ops (other_frame c s) (ops_ahead c s)))
    (none_mapped (λ (x : Asked). turn_fails c rs x.told.command x.command) c.asked (turns_match c s rs r)))
    (none_fails of_answer (may_learn c rs) c.answers (learns_right c s rs r))
