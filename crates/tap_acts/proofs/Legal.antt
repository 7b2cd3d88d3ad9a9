-- Where each guest's replay is the acts', nothing fails in clause g.
use Rattle.std.proofs.Common.{◌≡◌, ℕ, ◌+◌, ◌<◌, List, [], ◌∷◌, Option, Some, None, Bool, true, false, refl, sym, ap, ◌∙◌, subst, inl, inr, ⊎_elim, arith}
use Rattle.std.specs.Prelude.{◌==◌, ◌||◌, not, flat_map, if◌then◌else◌, is_some, option_map}
use Rattle.std.specs.List.{list_any}
use Rattle.std.specs.Option.{option_map_or}
use Rattle.std.proofs.lemmas.Bool.{cases_eq, eq-eqb, eqb-true, lt-ltb, ne_eqb, or_left, or_right}
use Rattle.guest_mem.specs.declared.region.Region.{Region}
use Rattle.tap_trace.specs.declared.trace.RingPart.{RingPart}
use Rattle.tap_world.specs.ByNumber.{at, numbered}
use Rattle.tap_world.specs.Guests.{Vhost}
use Rattle.tap_world.specs.Project.{ring_parts}
use Rattle.tap_legal.specs.Numbered.{AnswerAt, Asked, GuestAt, RingAt}
use Rattle.tap_legal.specs.Case.{Case, of_answer}
use Rattle.tap_legal.specs.LegalGuests.{answers_no_ring, behind_ring, fits_short, g_fails, guest_named, guests_rise, has_its_steps, has_steps, is_finished, is_guest, is_ring_line, rings_rise, rings_wanted, vhost_left}
use Rattle.tap_legal.specs.Lookups.{asked_at}
use Rattle.tap_legal.specs.Replay.{Replay}
use Rattle.tap_legal.specs.Replays.{is_whole, replay_of, replays}
use Rattle.tap_sights.specs.Acts.{Act, Done, first_state}
use Rattle.tap_sights.specs.GuestFacts.{EachGuest, GuestTells}
use Rattle.tap_sights.specs.Sight.{In, Ordered}
use Rattle.tap_sights.specs.Sights.{Sighted}
use Rattle.tap_sights.proofs.Kit.{any_in, both_none, in_map, in_map_of, none_any, none_fails, none_mapped, some_same}
use Rattle.tap_acts.specs.Replaying.{held_as}
use Rattle.tap_acts.specs.Laws.{EachReplay, GuestsAreDeclared, IsReplay, ShortsFit}
use Rattle.tap_acts.proofs.Follows.{steps_in_order}
use Rattle.tap_acts.proofs.Kept.{first_there, vhosts_stay}
use Rattle.tap_acts.proofs.Lines.{all_wanted, at_numbered, at_some, in_flat, lines_rise, matched_from, numbered_at, numbered_rise}
use Rattle.tap_acts.proofs.Rings.{behind_is_right, left_of, left_some, parts_left, rings_matched, rings_rise_all}
use Rattle.tap_acts.proofs.Runs.{follow_from}

mapped_some : {A B : Type 0} (f : A → B) (o : Option A) → is_some (option_map f o) ≡ is_some o
mapped_some f None = refl
mapped_some f (Some x) = refl

some_of : {A B : Type 0} (f : A → B) (o : Option A) (y : B) → option_map f o ≡ Some y → (x : A) × (o ≡ Some x) × (f x ≡ y)
some_of f None y e = absurd (cc (e))
some_of f (Some x) y e = (x, refl, some_same (f x) y e)

none_either : (b : Bool) (xs : List ℕ) → xs ≡ [] → (if b then xs else []) ≡ []
none_either true xs e = e
none_either false xs e = refl

module _ (c : Case) (s : Sighted c) (declared : GuestsAreDeclared c) (each : EachReplay c (numbered 0 c.setup.guests) s.guests.done) (fits : ShortsFit c) where
  abbrev guests : List (ℕ × List Region)
  guests = numbered 0 c.setup.guests

  abbrev rs : List (ℕ × Replay)
  rs = replays c

  -- the acts on a guest, and its replay
  record IsOf (g : ℕ × List Region) : Type 0 where
    ds : List (Act × Done)
    replay : IsReplay c g.0 g.1 ds
    tells : GuestTells c s.seen g.0 g.1 ds

  of_each : (gs : List (ℕ × List Region)) (dss : List (List (Act × Done))) → EachReplay c gs dss → EachGuest c s.seen gs dss
      → (g : ℕ × List Region) → In g gs → IsOf g
  of_each [] dss e t g i = absurd i
  of_each (h ∷ gs) [] e t g i = absurd e
  of_each (h ∷ gs) (ds ∷ dss) e t g (inl is) = subst IsOf is (record { ds = ds; replay = e.0; tells = t.0 })
  of_each (h ∷ gs) (ds ∷ dss) e t g (inr i) = of_each gs dss e.1 t.1 g i

  its : (g : ℕ × List Region) → In g guests → IsOf g
  its = of_each guests s.guests.done each s.guests.guests

  no_fails : flat_map (λ (r : ℕ × Replay). r.1.fails) rs ≡ []
  no_fails = none_mapped (λ (r : ℕ × Replay). r.1.fails) rs (λ r i.
      let g = in_map (replay_of c) guests r i in
      ap (λ (q : ℕ × Replay). q.1.fails) (sym g.2) ∙ (its g.0 g.1).replay.fails)

  -- ---- guests

  guests_rise_all : Ordered (λ l m. guests_rise l m ≡ true) c.guests
  guests_rise_all =
      lines_rise is_guest (λ (p q : ℕ × List Region). p.0 < q.0) (λ l m. guests_rise l m ≡ true)
      (λ x w y z lt e f.
      let p = eqb-true y.guest x.0 e in
      let q = eqb-true z.guest w.0 f in
      lt-ltb y.guest z.guest (omega (arith, lt, p, q)))
      guests c.guests (matched_from c.end is_guest (λ (l : GuestAt). l.line) guests c.guests s.shape.guests) (numbered_rise 0 c.setup.guests)

  -- ---- steps

  asked_is : (a : Asked) → In a c.asked → asked_at c a.told.command ≡ Some a
  asked_is a i =
      let r = at_some c.asked a i in
      ap (asked_at c) (s.shape.numbers r.0 a r.1) ∙ r.1

  finishes : (a : Asked) → In a c.asked → has_steps a.command ≡ true → (g : ℕ × List Region) → In g guests → guest_named c a.command ≡ Some g.0
      → In a.told.command (replay_of c g).1.finished
  finishes a i has g j named =
      let o = its g j in
      let d = o.tells.whole a i named has in
      let same : asked_at c d.0.0.told.command ≡ Some a = ap (λ t. asked_at c t.command) d.2 ∙ asked_is a i in
      let command = ap (λ (x : Asked). x.command) (some_same _ _ (sym (o.tells.each d.0 d.1).asked ∙ same)) in
      ⊎_elim (λ none. absurd none) (λ k. subst (λ t. In t.command (replay_of c g).1.finished) d.2 k)
      (o.replay.done d.0 d.1 d.3 (ap has_steps command ∙ has))

  has_all_steps : (a : Asked) → In a c.asked → has_its_steps c rs a ≡ true
  has_all_steps a i = go (has_steps a.command) refl (guest_named c a.command) refl
    where
      done : (g : ℕ) → has_steps a.command ≡ true → guest_named c a.command ≡ Some g → (r : ℕ × Replay) → In r rs → is_finished g a r ≡ true
      done g has named r j =
          let m = in_map (replay_of c) guests r j in
          ⊎_elim
          (λ same.
          or_right (not (r.0 == g) || r.1.broken) (list_any (λ n. n == a.told.command) r.1.finished)
          (any_in (λ n. n == a.told.command) r.1.finished a.told.command
          (subst (λ (q : ℕ × Replay). In a.told.command q.1.finished) m.2
          (finishes a i has m.0 m.1 (named ∙ ap Some (sym same ∙ sym (ap (λ (q : ℕ × Replay). q.0) m.2)))))
          (eq-eqb a.told.command a.told.command refl)))
          (λ ne.
          or_left (not (r.0 == g) || r.1.broken) (list_any (λ n. n == a.told.command) r.1.finished)
          (or_left (not (r.0 == g)) r.1.broken (ap not (ne_eqb r.0 g ne))))
          (cases_eq r.0 g)

      go : (b : Bool) → has_steps a.command ≡ b → (o : Option ℕ) → guest_named c a.command ≡ o
          → (not b || option_map_or (λ g. not (list_any (λ r. not (is_finished g a r)) rs)) o true) ≡ true
      go false has o named = refl
      go true has None named = refl
      go true has (Some g) named = ap not (none_any (λ r. not (is_finished g a r)) rs (λ r j. ap not (done g has named r j)))

  -- ---- rings

  each_left : (v : ℕ × ℕ) → In v (numbered 0 c.setup.vhosts) → is_some (vhost_left v.0 rs) ≡ true
  each_left v i =
      let k = at_numbered 0 c.setup.vhosts v i in
      let there : at c.setup.vhosts v.0 ≡ Some v.1 = ap (at c.setup.vhosts) (let e = k.1 in omega (arith, e)) ∙ k.2 in
      let d = declared v.0 v.1 there in
      let sum : 0 + v.1 ≡ v.1 = omega arith in
      let j : In (v.1, d.0) guests = subst (λ n. In (n, d.0) guests) sum (numbered_at 0 c.setup.guests v.1 d.0 d.1) in
      let o = its (v.1, d.0) j in
      left_some v.0 rs (replay_of c (v.1, d.0)) (in_map_of (replay_of c) guests (v.1, d.0) j)
      (ap is_some (o.replay.vhosts v.0) ∙ mapped_some _ _
      ∙ vhosts_stay c v.1 (first_state c v.1 d.0) o.ds (follow_from c v.1 o.tells.acts (first_state c v.1 d.0) o.ds o.tells.folds) v.0
      ∙ first_there v.1 c.setup.vhosts v.0 there)

  ring_is_right : (p : RingPart) → In p (rings_wanted c rs) → behind_ring c p ≡ []
  ring_is_right p i =
      let v = in_flat (parts_left rs) (numbered 0 c.setup.vhosts) p i in
      go v.0 (vhost_left v.0.0 rs) refl v.2
    where
      go : (v : ℕ × ℕ) (o : Option Vhost) → vhost_left v.0 rs ≡ o → In p (option_map_or (λ x. ring_parts (v.0, x)) o []) → behind_ring c p ≡ []
      go v None is j = absurd j
      go v (Some x) is j =
          let r = left_of v.0 rs x is in
          let g = in_map (replay_of c) guests r.0 r.1 in
          let o = its g.0 g.1 in
          let at_ : at (replay_of c g.0).1.vhosts v.0 ≡ Some x = ap (λ (q : ℕ × Replay). at q.1.vhosts v.0) g.2 ∙ r.2 in
          let w = some_of (held_as v.0 (replay_of c g.0).1.under) _ x (sym (o.replay.vhosts v.0) ∙ at_) in
          let q = o.tells.rings v.0 w.0 p w.1 (subst (λ (y : Vhost). In p (ring_parts (v.0, y))) (sym w.2) j) in
          behind_is_right c s.guests.rings p q.0 q.1 q.2 q.3 q.4

  pub guests_are_legal : g_fails c rs ≡ []
  guests_are_legal =
      both_none _ _ (both_none _ _ (both_none _ _ (both_none _ _ (both_none _ _ (both_none _ _ (both_none _ _
      (all_wanted c (λ (l : GuestAt). l.line) is_guest guests_rise guests c.guests
      (matched_from c.end is_guest (λ (l : GuestAt). l.line) guests c.guests s.shape.guests) guests_rise_all)
      no_fails)
      (steps_in_order c s))
      (none_fails (λ x. c.end) (has_its_steps c rs) c.asked has_all_steps))
      (none_fails of_answer answers_no_ring c.answers (λ a i. (s.answers a i).no_ring)))
      (none_fails of_answer (λ (a : AnswerAt). fits_short c rs a.told.command a.answer) c.answers fits))
      (all_wanted c (λ (l : RingAt). l.line) is_ring_line rings_rise (rings_wanted c rs) c.rings
      (rings_matched c rs s.guests.rings each_left) (rings_rise_all c s.guests.rings)))
      (none_either (is_whole rs) (flat_map (behind_ring c) (rings_wanted c rs)) (none_mapped (behind_ring c) (rings_wanted c rs) ring_is_right))
