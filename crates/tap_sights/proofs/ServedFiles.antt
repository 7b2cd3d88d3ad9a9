-- The file that a turn serves by the printed steps is the one that its ring has as its first step is printed.
use Rattle.std.proofs.Common.{◌≡◌, ◌⊎◌, ℕ, zero, suc, cond, List, [], ◌∷◌, ◌++◌, map, Option, Some, None, Bool, true, false, refl, sym, ap, ◌∙◌, subst, inl, inr, true≢false}
use Rattle.std.specs.Prelude.{◌==◌, if◌then◌else◌, is_some, filter, option_and_then, option_map}
use Rattle.std.specs.List.{cons_option}
use Rattle.std.specs.Option.{option_map_or}
use Rattle.std.proofs.lemmas.Bool.{eq-eqb, false_from_ne_true, ne_eqb}
use Rattle.guest_mem.specs.declared.region.Region.{Region}
use Rattle.vhost_dev.specs.Settings.{first_settings, is_rx, ring_of}
use Rattle.scen_words.specs.declared.command.Command.{Command}
use Rattle.scen_words.specs.declared.command.Command.TheVariants as command
use Rattle.tap_trace.specs.declared.kind.Kind.{Kind}
use Rattle.tap_trace.specs.declared.trace.StepLine.{StepLine}
use Rattle.tap_world.specs.ByNumber.{at, numbered}
use Rattle.tap_world.specs.Guests.{Vhost, is_ring, new_vhost}
use Rattle.tap_world.specs.StepTurns.{turn_on}
use Rattle.tap_legal.specs.Numbered.{Asked, StepAt}
use Rattle.tap_legal.specs.Case.{Case}
use Rattle.tap_legal.specs.Lookups.{asked_at}
use Rattle.tap_legal.specs.Replay.{vhost_named}
use Rattle.tap_legal.specs.Replays.{vhosts_on}
use Rattle.tap_legal.specs.Served.{file_backed, is_set_on, last_set, served_by, setter_of}
use Rattle.tap_sights.specs.Acts.{Act, Done, State, all_done, does, first_state, last_state}
use Rattle.tap_sights.specs.GuestFacts.{GuestTells, printed, step_line}
use Rattle.tap_sights.specs.Serves.{IsFirstStep, file_on}
use Rattle.tap_sights.specs.Sight.{In}
use Rattle.tap_sights.specs.Sights.{Sighted}
use Rattle.tap_sights.proofs.ActSteps.{does_set}
use Rattle.tap_sights.proofs.CallSteps.{bound}
use Rattle.tap_sights.proofs.Kit.{in_first, in_second, some_same}
use Rattle.tap_sights.proofs.OnGuests.{done_on, first_on, named_vhost, turn_named}
use Rattle.tap_sights.proofs.ServedSteps.{LeavesFile, SetsFile, does_files}
use Rattle.tap_sights.proofs.Setters.{guest_tells, printed_by}

-- ---- the last command that set a ring, among lines

abbrev last_of : ℕ × ℕ → ℕ → Option ℕ → List StepLine → Option ℕ
last_of ring n found [] = None
last_of ring n found (l ∷ ls) =
    if l.command == n then found else last_of ring n (if is_set_on ring l.kind then Some l.command else found) ls

abbrev number_of : Option StepAt → Option ℕ
number_of o = option_map (λ (x : StepAt). x.at.command) o

last_lines : (ring : ℕ × ℕ) (n : ℕ) (found : Option StepAt) (xs : List StepAt)
    → number_of (last_set ring n found xs) ≡ last_of ring n (number_of found) (map (λ (x : StepAt). x.at) xs)
last_lines ring n found [] = refl
last_lines ring n found (x ∷ xs) = go (x.at.command == n) (is_set_on ring x.at.kind) (λ o. last_lines ring n o xs)
  where
    go : (b set : Bool) → ((o : Option StepAt) → number_of (last_set ring n o xs) ≡ last_of ring n (number_of o) (map (λ (y : StepAt). y.at) xs))
        → number_of (cond b found (last_set ring n (cond set (Some x) found) xs))
        ≡ cond b (number_of found) (last_of ring n (cond set (Some x.at.command) (number_of found)) (map (λ (y : StepAt). y.at) xs))
    go true set rest = refl
    go false true rest = rest (Some x)
    go false false rest = rest found

-- steps that neither are the command's nor set the ring may be left out
last_among : (ring : ℕ × ℕ) (n : ℕ) (on : StepAt → Bool) (found : Option StepAt) (xs : List StepAt)
    → ((x : StepAt) → In x xs → on x ≡ false → ((x.at.command == n) ≡ false) × (is_set_on ring x.at.kind ≡ false))
    → last_set ring n found xs ≡ last_set ring n found (filter on xs)
last_among ring n on found [] law = refl
last_among ring n on found (x ∷ xs) law = go (on x) refl (λ o. last_among ring n on o xs (λ y i. law y (inr i)))
  where
    go : (b : Bool) → on x ≡ b → ((o : Option StepAt) → last_set ring n o xs ≡ last_set ring n o (filter on xs))
        → cond (x.at.command == n) found (last_set ring n (cond (is_set_on ring x.at.kind) (Some x) found) xs)
        ≡ last_set ring n found (cond b (x ∷ filter on xs) (filter on xs))
    go true is rest = ap (λ o. cond (x.at.command == n) found o) (rest (cond (is_set_on ring x.at.kind) (Some x) found))
    go false is rest =
        let out = law x (inl refl) is in
        ap (λ b. cond b found (last_set ring n (cond (is_set_on ring x.at.kind) (Some x) found) xs)) out.0
        ∙ ap (λ b. last_set ring n (cond b (Some x) found) xs) out.1 ∙ rest found

-- ---- acts one after another

abbrev Runs : Case → ℕ → State → List (Act × Done) → Type 0
Runs c guest st [] = Unit {0}
Runs c guest st (d ∷ ds) = (does c guest d.0 d.0.what st ≡ Some d.1) × Runs c guest d.1.state ds

they_run : (c : Case) (guest : ℕ) (as_ : List Act) (st : State) (ds : List (Act × Done)) → all_done c guest as_ st ≡ Some ds → Runs c guest st ds
they_run c guest [] st ds e = subst (Runs c guest st) (some_same [] ds e) tt
they_run c guest (a ∷ as_) st ds e =
    let x = bound (does c guest a a.what st) _ ds e in
    let xs = bound (all_done c guest as_ x.0.state) _ ds x.2 in
    subst (Runs c guest st) (some_same ((a, x.0) ∷ xs.0) ds xs.2) (x.1, they_run c guest as_ x.0.state xs.0 xs.1)

-- the file that a command sets
abbrev set_file : Case → Option ℕ → Option ℕ
set_file c found = option_and_then (λ n. option_and_then (λ (a : Asked). file_backed a.command) (asked_at c n)) found

abbrev IsAsked : Case → Act × Done → Type 0
IsAsked c d = asked_at c d.0.told.command ≡ Some (record { told = d.0.told; command = d.0.command })

module _ (c : Case) (guest : ℕ) (ring : ℕ × ℕ) (n : ℕ) (two : is_ring ring.1 ≡ true) where
  -- what is found behind some acts, and the file that the ring has there
  record Found (found : Option ℕ) (st : State) (before tail : List (Act × Done)) : Type 0 where
    last : Option ℕ
    lines : last_of ring n found (printed (before ++ tail)) ≡ last_of ring n last (printed tail)
    file : file_on ring (last_state st before).vhosts ≡ set_file c last

  walk : (before tail : List (Act × Done)) (st : State) (found : Option ℕ) → Runs c guest st (before ++ tail)
      → ((e : Act × Done) → In e before → IsAsked c e)
      → ((e : Act × Done) → In e before → e.0.told.command ≡ n → e.1.step ≡ None)
      → file_on ring st.vhosts ≡ set_file c found → Found found st before tail
  walk [] tail st found runs asked quiet h = record { last = found; lines = refl; file = h }
  walk (e ∷ es) tail st found runs asked quiet h =
      go e.1.step refl (λ f k. walk es tail e.1.state f runs.1 (λ x i. asked x (inr i)) (λ x i. quiet x (inr i)) k)
      (does_files c guest ring e.0 e.0.what st e.1 two runs.0)
    where
      with_found : (f : Option ℕ) → last_of ring n found (cons_option (option_map_or (λ k. Some (step_line e.0 k)) e.1.step None) (printed (es ++ tail)))
          ≡ last_of ring n f (printed (es ++ tail)) → Found f e.1.state es tail → Found found st (e ∷ es) tail
      with_found f same r = record { last = r.last; lines = same ∙ r.lines; file = r.file }

      line : (o : Option Kind) → e.1.step ≡ o → (f : Option ℕ)
          → last_of ring n found (cons_option (option_map_or (λ k. Some (step_line e.0 k)) o None) (printed (es ++ tail)))
          ≡ last_of ring n f (printed (es ++ tail))
          → last_of ring n found (cons_option (option_map_or (λ k. Some (step_line e.0 k)) e.1.step None) (printed (es ++ tail)))
          ≡ last_of ring n f (printed (es ++ tail))
      line o is f same =
          ap (λ (p : Option Kind). last_of ring n found (cons_option (option_map_or (λ k. Some (step_line e.0 k)) p None) (printed (es ++ tail)))) is
          ∙ same

      -- a line of another command
      passed : (k : Kind) → e.1.step ≡ Some k → (b : Bool) → is_set_on ring k ≡ b
          → last_of ring n found (step_line e.0 k ∷ printed (es ++ tail))
          ≡ last_of ring n (cond b (Some e.0.told.command) found) (printed (es ++ tail))
      passed k is b set =
          ap (λ d. cond d found (last_of ring n (cond (is_set_on ring k) (Some e.0.told.command) found) (printed (es ++ tail))))
          (ne_eqb e.0.told.command n (λ same. absurd (none (quiet e (inl refl) same))))
          ∙ ap (λ d. last_of ring n (cond d (Some e.0.told.command) found) (printed (es ++ tail))) set
        where
          none : e.1.step ≡ None → ⊥
          none h = let no_step : Some k ≡ None = sym is ∙ h in cc (no_step)

      go : (o : Option Kind) → e.1.step ≡ o → ((f : Option ℕ) → file_on ring e.1.state.vhosts ≡ set_file c f → Found f e.1.state es tail)
          → SetsFile ring e.0.command e.1 ⊎ LeavesFile ring st e.1 → Found found st (e ∷ es) tail
      go None is next (inl s) = let no_step : Some s.step ≡ None = sym s.is ∙ is in absurd (cc (no_step))
      go None is next (inr s) = with_found found (line None is found refl) (next found (s.file ∙ h))
      go (Some k) is next (inl s) =
          let kind = some_same s.step k (sym s.is ∙ is) in
          let file = s.file ∙ sym (ap (option_and_then (λ (a : Asked). file_backed a.command)) (asked e (inl refl))) in
          with_found (Some e.0.told.command)
          (line (Some k) is (Some e.0.told.command) (passed k is true (ap (is_set_on ring) (sym kind) ∙ s.set)))
          (next (Some e.0.told.command) file)
      go (Some k) is next (inr s) =
          with_found found (line (Some k) is found (passed k is false (s.none k is))) (next found (s.file ∙ h))

-- ---- as a guest begins

no_file : (b : Bool) → (ring_of b first_settings).file ≡ None
no_file true = refl
no_file false = refl

first_file : (guest r : ℕ) (gs : List (Option ℕ)) (n : ℕ) → file_on (n, r) (vhosts_on guest gs) ≡ None
first_file guest r [] n = refl
first_file guest r (None ∷ gs) zero = refl
first_file guest r (Some g ∷ gs) zero = go (g == guest)
  where
    go : (b : Bool) → option_and_then (λ (v : Vhost). (ring_of (is_rx r) v.settings).file) (cond b (Some (new_vhost g)) None) ≡ None
    go true = no_file (is_rx r)
    go false = refl
first_file guest r (g ∷ gs) (suc n) = first_file guest r gs n

turn_ring : (k : Command) (ring : ℕ × ℕ) → turn_on k ≡ Some ring → is_ring ring.1 ≡ true
turn_ring (command.RxTurn vhost) ring e = ap (λ (r : ℕ × ℕ). is_ring r.1) (sym (some_same (vhost, 0) ring e))
turn_ring (command.TxTurn vhost) ring e = ap (λ (r : ℕ × ℕ). is_ring r.1) (sym (some_same (vhost, 1) ring e))
turn_ring k ring e = absurd (cc (e))

-- ---- the file of a turn

module _ (c : Case) (s : Sighted c) (g : ℕ × List Region) (ds : List (Act × Done)) (here : In g (numbered 0 c.setup.guests))
    (t : GuestTells c s.seen g.0 g.1 ds) (before after : List (Act × Done)) (d : Act × Done) (split : ds ≡ before ++ d ∷ after)
    (first : IsFirstStep before d) (ring : ℕ × ℕ) (turns : turn_on d.0.command ≡ Some ring) where
  in_all : (e : Act × Done) → In e (before ++ d ∷ after) → In e ds
  in_all e i = subst (In e) (sym split) i

  its : IsAsked c d
  its = (t.each d (in_all d (in_second d before (d ∷ after) (inl refl)))).asked

  -- the ring's vhost is this guest's
  on_this : at c.setup.vhosts ring.0 ≡ Some g.0
  on_this =
      let i = done_on c g.0 t.acts (first_state c g.0 g.1) ds (first_on g.0 c.setup.vhosts) t.folds d (in_all d (in_second d before (d ∷ after) (inl refl))) in
      let v = named_vhost c g.0 d.0 d.0.what i.st d.1 i.does ring.0 (turn_named d.0.command ring turns) in
      i.on ring.0 v.0 v.1

  -- a step on another guest
  other_step : (x : StepAt) → In x c.steps → (x.guest == g.0) ≡ false → ((x.at.command == d.0.told.command) ≡ false) × (is_set_on ring x.at.kind ≡ false)
  other_step x i far =
      let h = s.guests.named x i in
      let w = guest_tells c s.seen (numbered 0 c.setup.guests) s.guests.done s.guests.guests h.0 h.1 in
      let p = printed_by c s h.0 w.0 w.1 x i (sym h.2) in
      let e = done_on c h.0.0 w.1.acts (first_state c h.0.0 h.0.1) w.0 (first_on h.0.0 c.setup.vhosts) w.1.folds p.act p.there in
      let on_it : (vhost_named p.act.0.command ≡ Some ring.0 → ⊥) = λ k.
      let v = named_vhost c h.0.0 p.act.0 p.act.0.what e.st p.act.1 e.does ring.0 k in
      let same = some_same h.0.0 g.0 (sym (e.on ring.0 v.0 v.1) ∙ on_this) in
      true≢false (sym (eq-eqb x.guest g.0 (sym h.2 ∙ same)) ∙ far) in (
        ne_eqb x.at.command d.0.told.command (λ k.
            let asked = (w.1.each p.act p.there).asked in
            let same = some_same _ _ (sym asked ∙ ap (asked_at c) (p.of ∙ k) ∙ its) in
            on_it (ap (λ (y : Asked). vhost_named y.command) same ∙ turn_named d.0.command ring turns)),
        false_from_ne_true (is_set_on ring x.at.kind) (λ k.
            let b = does_set c h.0.0 ring p.act.0 p.act.0.what e.st p.act.1 x.at.kind e.does p.step k in
            on_it (ap vhost_named b.1)),
      )

  pub turn_serves : served_by c d.0.told.command ≡ file_on ring (last_state (first_state c g.0 g.1) before).vhosts
  turn_serves =
      let runs = subst (Runs c g.0 (first_state c g.0 g.1)) split (they_run c g.0 t.acts (first_state c g.0 g.1) ds t.folds) in
      let w = walk c g.0 ring d.0.told.command (turn_ring d.0.command ring turns) before (d ∷ after) (first_state c g.0 g.1) None runs
      (λ e i. (t.each e (in_all e (in_first e before (d ∷ after) i))).asked) first.first (first_file g.0 ring.1 c.setup.vhosts ring.0) in
      let last : number_of (last_set ring d.0.told.command None c.steps) ≡ w.last =
      ap number_of (last_among ring d.0.told.command (λ (x : StepAt). x.guest == g.0) None c.steps other_step)
      ∙ last_lines ring d.0.told.command None (filter (λ (x : StepAt). x.guest == g.0) c.steps)
      ∙ ap (last_of ring d.0.told.command None) (sym t.steps ∙ ap printed split) ∙ w.lines ∙ ends d.1.step first.prints w.last in
      served (last_set ring d.0.told.command None c.steps) refl ∙ ap (set_file c) last ∙ sym w.file
    where
      ends : (o : Option Kind) → is_some o ≡ true → (f : Option ℕ)
          → last_of ring d.0.told.command f (cons_option (option_map_or (λ k. Some (step_line d.0 k)) o None) (printed after)) ≡ f
      ends None e f = absurd (true≢false (sym e))
      ends (Some k) e f =
          ap (λ b. cond b f (last_of ring d.0.told.command (cond (is_set_on ring k) (Some d.0.told.command) f) (printed after)))
          (eq-eqb d.0.told.command d.0.told.command refl)

      setter : (o : Option StepAt) → last_set ring d.0.told.command None c.steps ≡ o
          → setter_of c d.0.told.command ≡ option_and_then (λ (x : StepAt). asked_at c x.at.command) o
      setter o is =
          ap (λ (a : Option Asked). option_and_then (λ (x : StepAt). asked_at c x.at.command)
          (option_and_then (λ r. last_set r d.0.told.command None c.steps) (option_and_then (λ (y : Asked). turn_on y.command) a))) its
          ∙ ap (λ (r : Option (ℕ × ℕ)). option_and_then (λ (x : StepAt). asked_at c x.at.command)
          (option_and_then (λ q. last_set q d.0.told.command None c.steps) r)) turns
          ∙ ap (option_and_then (λ (x : StepAt). asked_at c x.at.command)) is

      by_number : (o : Option StepAt)
          → option_and_then (λ (a : Asked). file_backed a.command) (option_and_then (λ (x : StepAt). asked_at c x.at.command) o)
          ≡ set_file c (number_of o)
      by_number None = refl
      by_number (Some x) = refl

      served : (o : Option StepAt) → last_set ring d.0.told.command None c.steps ≡ o → served_by c d.0.told.command ≡ set_file c (number_of o)
      served o is = ap (option_and_then (λ (a : Asked). file_backed a.command)) (setter o is) ∙ by_number o
