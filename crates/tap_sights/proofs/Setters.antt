-- A step that sets a ring is of a `backend` command of that ring, so packets that serve what one command set are of one
-- vhost; and the packets on a file are those of the acts.
use Rattle.std.proofs.Common.{◌≡◌, ◌⊎◌, ℕ, cond, List, [], ◌∷◌, ◌++◌, Option, Some, None, Bool, true, false, refl, sym, ap, ◌∙◌, subst, inl, inr, ⊎_elim, true≢false}
use Rattle.std.specs.Prelude.{◌==◌, filter, flat_map, option_and_then}
use Rattle.std.specs.Option.{option_map_or}
use Rattle.std.proofs.lemmas.Bool.{eq-eqb, eqb-true}
use Rattle.guest_mem.specs.declared.region.Region.{Region}
use Rattle.scen_words.specs.declared.command.Command.{Command}
use Rattle.scen_words.specs.declared.command.Command.TheVariants as command
use Rattle.tap_trace.specs.declared.kind.Kind.{Kind}
use Rattle.tap_trace.specs.declared.trace.StepLine.{StepLine}
use Rattle.tap_world.specs.StepTurns.{turn_on}
use Rattle.tap_legal.specs.Numbered.{Asked, OpAt, StepAt}
use Rattle.tap_legal.specs.Case.{Case}
use Rattle.tap_legal.specs.Lookups.{asked_at}
use Rattle.tap_legal.specs.Replay.{Packet}
use Rattle.tap_legal.specs.Replays.{Replays, is_set_by, packets_of, packets_under}
use Rattle.tap_legal.specs.Served.{is_set_on, last_set, makes_worker, setter_of}
use Rattle.tap_sights.specs.Acts.{Act, Done, first_state}
use Rattle.tap_sights.specs.GuestFacts.{EachGuest, GuestTells, packets_on, packets_told, printed, step_line}
use Rattle.tap_sights.specs.Replayed.{EachReplayed, Replayed, is_on_vhost}
use Rattle.tap_sights.specs.Sight.{In, Seen}
use Rattle.tap_sights.specs.Sights.{Sighted}
use Rattle.tap_sights.proofs.ActSteps.{IsBackend, does_set}
use Rattle.tap_sights.proofs.Kit.{in_filter_map, in_filter_of, in_map_of, some_same}
use Rattle.tap_sights.proofs.OnGuests.{done_on, first_on}

pub guest_tells : (c : Case) (s : Seen) (gs : List (ℕ × List Region)) (dss : List (List (Act × Done))) → EachGuest c s gs dss
    → (g : ℕ × List Region) → In g gs → (ds : List (Act × Done)) × GuestTells c s g.0 g.1 ds
guest_tells c s [] dss h g i = absurd i
guest_tells c s (x ∷ gs) [] h g i = absurd h
guest_tells c s (x ∷ gs) (ds ∷ dss) h g (inl is) =
    (ds, subst (λ (y : ℕ × List Region). GuestTells c s y.0 y.1 ds) is h.0)
guest_tells c s (x ∷ gs) (ds ∷ dss) h g (inr i) = guest_tells c s gs dss h.1 g i

-- the act that printed a line
pub record WasPrinted (ds : List (Act × Done)) (x : StepLine) : Type 0 where
  pub act : Act × Done
  pub there : In act ds
  pub step : act.1.step ≡ Some x.kind
  pub of : act.0.told.command ≡ x.command

was_printed : (ds : List (Act × Done)) (x : StepLine) → In x (printed ds) → WasPrinted ds x
was_printed ds x i =
    let r = in_filter_map (λ (d : Act × Done). option_map_or (λ k. Some (step_line d.0 k)) d.1.step None) ds x i in
    go r.0 r.1 r.0.1.step refl r.2
  where
    go : (d : Act × Done) → In d ds → (o : Option Kind) → d.1.step ≡ o → option_map_or (λ k. Some (step_line d.0 k)) o None ≡ Some x
        → WasPrinted ds x
    go d j None is e = absurd (cc (e))
    go d j (Some k) is e =
        let same = some_same (step_line d.0 k) x e in
        record { act = d; there = j; step = is ∙ ap (λ (y : StepLine). Some y.kind) same; of = ap (λ (y : StepLine). y.command) same }

-- ---- options and lists

then_some : {A B : Type 0} (f : A → Option B) (o : Option A) (y : B) → option_and_then f o ≡ Some y → (x : A) × (o ≡ Some x) × (f x ≡ Some y)
then_some f None y e = absurd (cc (e))
then_some f (Some x) y e = (x, refl, e)

pub map_or_true : {A : Type 0} (test : A → Bool) (o : Option A) → option_map_or test o false ≡ true → (x : A) × (o ≡ Some x) × (test x ≡ true)
map_or_true test None e = absurd (true≢false (sym e))
map_or_true test (Some x) e = (x, refl, e)

pub flat_same : {A B : Type 0} (f g : A → List B) (xs : List A) → ((x : A) → f x ≡ g x) → flat_map f xs ≡ flat_map g xs
flat_same f g [] each = refl
flat_same f g (x ∷ xs) each = ap (λ ys. ys ++ flat_map f xs) (each x) ∙ ap (λ ys. g x ++ ys) (flat_same f g xs each)

filter_within : {A : Type 0} (test on : A → Bool) (xs : List A) → ((x : A) → test x ≡ true → on x ≡ true)
    → filter test (filter on xs) ≡ filter test xs
filter_within test on [] law = refl
filter_within {A} test on (x ∷ xs) law = go (on x) refl (test x) refl (filter_within test on xs law)
  where
    go : (b : Bool) → on x ≡ b → (d : Bool) → test x ≡ d → filter test (filter on xs) ≡ filter test xs
        → filter test (cond b (x ∷ filter on xs) (filter on xs)) ≡ cond (test x) (x ∷ filter test xs) (filter test xs)
    go true is d passes rest = ap (λ ys. cond (test x) (x ∷ ys) ys) rest
    go false is true passes rest = absurd (true≢false (sym (law x passes) ∙ is))
    go false is false passes rest = rest ∙ sym (ap (λ d. cond d (x ∷ filter test xs) (filter test xs)) passes)

abbrev vhost_in : Command → ℕ
vhost_in (command.Backend vhost ring file) = vhost
vhost_in other = 0

-- ---- steps that set a ring

module _ (c : Case) (s : Sighted c) where
  -- the act that printed a step
  pub printed_by : (g : ℕ × List Region) (ds : List (Act × Done)) → GuestTells c s.seen g.0 g.1 ds → (x : StepAt) → In x c.steps
      → x.guest ≡ g.0 → WasPrinted ds x.at
  printed_by g ds t x i on =
      let here = in_filter_of (λ (y : StepAt). y.guest == g.0) c.steps x i (eq-eqb x.guest g.0 on) in
      was_printed ds x.at (subst (In x.at) (sym t.steps) (in_map_of (λ (y : StepAt). y.at) _ x here))

  -- a step that sets a ring is of its `backend` command
  pub set_by : (ring : ℕ × ℕ) (x : StepAt) → In x c.steps → is_set_on ring x.at.kind ≡ true → (b : Asked)
      → asked_at c x.at.command ≡ Some b → IsBackend ring b.command
  set_by ring x i is b asked =
      let g = s.guests.named x i in
      let t = guest_tells c s.seen _ s.guests.done s.guests.guests g.0 g.1 in
      let w = printed_by g.0 t.0 t.1 x i (sym g.2) in
      let d = done_on c g.0.0 t.1.acts (first_state c g.0.0 g.0.1) t.0 (first_on g.0.0 c.setup.vhosts) t.1.folds w.act w.there in
      let k = does_set c g.0.0 ring w.act.0 w.act.0.what d.st w.act.1 x.at.kind d.does w.step is in
      let same = some_same _ b (sym (t.1.each w.act w.there).asked ∙ ap (asked_at c) w.of ∙ asked) in
      subst (λ (y : Asked). IsBackend ring y.command) same k

  -- the last step that set a ring is one that sets it
  last_is : (ring : ℕ × ℕ) (n : ℕ) (found : Option StepAt) (xs : List StepAt) (x : StepAt) → last_set ring n found xs ≡ Some x
      → (found ≡ Some x) ⊎ In x xs × (is_set_on ring x.at.kind ≡ true)
  last_is ring n found [] x e = absurd (cc (e))
  last_is ring n found (y ∷ ys) x e =
      go (y.at.command == n) (is_set_on ring y.at.kind) refl (λ o h. last_is ring n o ys x h) e
    where
      go : (b set : Bool) → is_set_on ring y.at.kind ≡ set
          → ((o : Option StepAt) → last_set ring n o ys ≡ Some x → (o ≡ Some x) ⊎ In x ys × (is_set_on ring x.at.kind ≡ true))
          → cond b found (last_set ring n (cond set (Some y) found) ys) ≡ Some x
          → (found ≡ Some x) ⊎ In x (y ∷ ys) × (is_set_on ring x.at.kind ≡ true)
      go true set is rest h = inl h
      go false true is rest h = ⊎_elim
          (λ e. let same = some_same y x e in inr (inl same, ap (λ (z : StepAt). is_set_on ring z.at.kind) (sym same) ∙ is))
          (λ r. inr (inr r.0, r.1))
          (rest (Some y) h)
      go false false is rest h = ⊎_elim (λ e. inl e) (λ r. inr (inr r.0, r.1)) (rest found h)

  -- ---- packets that serve what a command set

  -- the vhost of a `backend` command
  abbrev vhost_of : ℕ → ℕ
  vhost_of k = option_map_or (λ (b : Asked). vhost_in b.command) (asked_at c k) 0

  its_vhost : (k : ℕ) (b : Asked) (ring : ℕ × ℕ) → asked_at c k ≡ Some b → IsBackend ring b.command → vhost_of k ≡ ring.0
  its_vhost k b ring is back = ap (λ (o : Option Asked). option_map_or (λ (y : Asked). vhost_in y.command) o 0) is ∙ ap vhost_in back.1

  on_its_vhost : (n vhost : ℕ) (a : Asked) (ring : ℕ × ℕ) → asked_at c n ≡ Some a → turn_on a.command ≡ Some ring → vhost ≡ ring.0
      → option_map_or (λ (y : Asked). option_map_or (λ (r : ℕ × ℕ). r.0 == vhost) (turn_on y.command) false) (asked_at c n) false ≡ true
  on_its_vhost n vhost a ring is turns same =
      ap (λ (o : Option Asked). option_map_or (λ (y : Asked). option_map_or (λ (r : ℕ × ℕ). r.0 == vhost) (turn_on y.command) false) o false) is
      ∙ ap (λ (o : Option (ℕ × ℕ)). option_map_or (λ (r : ℕ × ℕ). r.0 == vhost) o false) turns ∙ eq-eqb ring.0 vhost (sym same)

  set_on_vhost : (k : ℕ) (p : Packet) → is_set_by c k p ≡ true → is_on_vhost c (vhost_of k) p ≡ true
  set_on_vhost k p is =
      let b = map_or_true (λ (x : Asked). x.told.command == k) (setter_of c p.command) is in
      let x = then_some _ _ b.0 b.1 in
      let ring = then_some _ _ x.0 x.1 in
      let a = then_some _ _ ring.0 ring.1 in
      let last = last_is ring.0 p.command None c.steps x.0 ring.2 in
      let set = ⊎_elim (λ e. absurd (cc (e))) (λ r. r) last in
      let back = set_by ring.0 x.0 set.0 set.1 b.0 x.2 in
      let number = eqb-true b.0.told.command k b.2 in
      let at_k : asked_at c k ≡ Some b.0 = ap (asked_at c) (sym number ∙ s.shape.numbers x.0.at.command b.0 x.2) ∙ x.2 in
      on_its_vhost p.command (vhost_of k) a.0 ring.0 a.1 a.2 (its_vhost k b.0 ring.0 at_k back)

  packets_set : (k : ℕ) (dss : List (List (Act × Done))) (rs : Replays) → EachReplayed c dss rs
      → packets_under c rs k ≡ flat_map (packets_on c k) dss
  packets_set k [] [] h = refl
  packets_set k [] (r ∷ rs) h = absurd h
  packets_set k (ds ∷ dss) [] h = absurd h
  packets_set k (ds ∷ dss) (r ∷ rs) h =
      ap (λ (ps : List Packet). ps ++ packets_under c rs k) (one (flat_map (λ (d : Act × Done). d.1.packets) ds) (h.0.packets (vhost_of k)))
      ∙ ap (λ (ps : List Packet). packets_on c k ds ++ ps) (packets_set k dss rs h.1)
    where
      one : (ps : List Packet) → filter (is_on_vhost c (vhost_of k)) r.1.packets ≡ filter (is_on_vhost c (vhost_of k)) ps
          → filter (is_set_by c k) r.1.packets ≡ filter (is_set_by c k) ps
      one ps e =
          sym (filter_within (is_set_by c k) (is_on_vhost c (vhost_of k)) r.1.packets (set_on_vhost k))
          ∙ ap (filter (is_set_by c k)) e
          ∙ filter_within (is_set_by c k) (is_on_vhost c (vhost_of k)) ps (set_on_vhost k)

  pub packets_are : (file : ℕ) (rs : Replays) → Replayed c s.guests rs → packets_of c file rs ≡ packets_told c file s.guests.done
  packets_are file rs r =
      flat_same (λ (o : OpAt). packets_under c rs o.at.command) (λ (o : OpAt). flat_map (packets_on c o.at.command) s.guests.done)
      (filter (λ (o : OpAt). makes_worker file o.op) c.ops) (λ o. packets_set o.at.command s.guests.done rs r.each)
