-- The rings that the replays leave are those of the trace.
use Rattle.std.proofs.Common.{◌≡◌, ◌⊎◌, ℕ, ◌+◌, ◌<◌, List, [], ◌∷◌, ◌++◌, length, map, Option, Some, None, Bool, true, refl, sym, ap, ◌∙◌, subst, inl, inr, true≢false, arith}
use Rattle.std.specs.Prelude.{◌==◌, ◌&&◌, nat_lt, flat_map, if◌then◌else◌, is_some}
use Rattle.std.specs.Option.{option_map_or}
use Rattle.std.proofs.lemmas.Bool.{and_from, and_parts, eq-eqb, eqb-true, lt-ltb, or_left, or_right}
use Rattle.tap_trace.specs.declared.trace.PositionList.{PositionList}
use Rattle.tap_trace.specs.declared.trace.RingPart.{RingPart}
use Rattle.tap_world.specs.ByNumber.{at, numbered}
use Rattle.tap_world.specs.Guests.{Vhost}
use Rattle.tap_world.specs.Project.{ring_parts}
use Rattle.tap_legal.specs.Numbered.{RingAt}
use Rattle.tap_legal.specs.Case.{Case}
use Rattle.tap_legal.specs.LegalGuests.{behind_ring, is_ring_line, lists_fail, rings_rise, rings_wanted, used_fail, vhost_left}
use Rattle.tap_legal.specs.Replay.{Replay}
use Rattle.tap_sights.specs.GuestFacts.{both_rings, ring_on}
use Rattle.tap_sights.specs.Sight.{In, Ordered}
use Rattle.tap_sights.proofs.Kit.{both_none, found, in_order, passes}
use Rattle.tap_acts.proofs.Answered.{some_found}
use Rattle.tap_acts.proofs.Lines.{Matched, in_flat, matched_maps, numbered_rise, ordered_map}

-- ---- rings 0 and 1 of each vhost

abbrev part_on : RingPart → ℕ × ℕ
part_on p = (p.vhost, p.ring)

-- of a smaller vhost, or of the same one with a smaller number
abbrev Below : ℕ × ℕ → ℕ × ℕ → Type 0
Below p q = (p.0 < q.0) ⊎ (p.0 ≡ q.0) × (p.1 < q.1)

both_rise : (vs : List (ℕ × ℕ)) → Ordered (λ (p q : ℕ × ℕ). p.0 < q.0) vs → Ordered Below (flat_map both_rings vs)
both_rise [] o = tt
both_rise (v ∷ vs) o = (λ q i. first q i, (λ q i. later q i, both_rise vs o.1))
  where
    later : (q : ℕ × ℕ) → In q (flat_map both_rings vs) → Below (v.0, 1) q
    later q i = let r = in_flat both_rings vs q i in inl (go r.0 (o.0 r.0 r.1) r.2)
      where
        go : (w : ℕ × ℕ) → v.0 < w.0 → In q (both_rings w) → v.0 < q.0
        go w lt (inl e) = subst (λ (p : ℕ × ℕ). v.0 < p.0) e lt
        go w lt (inr (inl e)) = subst (λ (p : ℕ × ℕ). v.0 < p.0) e lt
        go w lt (inr (inr none)) = elim none [ ]

    first : (q : ℕ × ℕ) → In q ((v.0, 1) ∷ flat_map both_rings vs) → Below (v.0, 0) q
    first q (inl e) = subst (Below (v.0, 0)) e (inr (refl, omega arith))
    first q (inr i) = go (later q i)
      where
        go : Below (v.0, 1) q → Below (v.0, 0) q
        go (inl lt) = inl lt
        go (inr (same, lt)) = inr (same, omega (arith, lt))

rises : (l m : RingAt) → Below (ring_on l) (ring_on m) → rings_rise l m ≡ true
rises l m (inl lt) = or_left (nat_lt l.vhost m.vhost) _ (lt-ltb l.vhost m.vhost lt)
rises l m (inr (same, lt)) =
    or_right (nat_lt l.vhost m.vhost) (l.vhost == m.vhost && nat_lt l.ring m.ring)
    (and_from (l.vhost == m.vhost) (nat_lt l.ring m.ring) (eq-eqb l.vhost m.vhost same) (lt-ltb l.ring m.ring lt))

pub rings_in_order : (c : Case) → map ring_on c.rings ≡ flat_map both_rings (numbered 0 c.setup.vhosts) → Ordered (λ l m. Below (ring_on l) (ring_on m)) c.rings
rings_in_order c e =
    ordered_map ring_on Below c.rings
    (subst (Ordered Below) (sym e) (both_rise (numbered 0 c.setup.vhosts) (numbered_rise 0 c.setup.vhosts)))

rise_all : (ls : List RingAt) → Ordered (λ l m. Below (ring_on l) (ring_on m)) ls → Ordered (λ l m. rings_rise l m ≡ true) ls
rise_all [] o = tt
rise_all (l ∷ ls) o = (λ m i. rises l m (o.0 m i), rise_all ls o.1)

pub rings_rise_all : (c : Case) → map ring_on c.rings ≡ flat_map both_rings (numbered 0 c.setup.vhosts) → Ordered (λ l m. rings_rise l m ≡ true) c.rings
rings_rise_all c e = rise_all c.rings (rings_in_order c e)

-- two lines of one ring are one
one_ring : (c : Case) → map ring_on c.rings ≡ flat_map both_rings (numbered 0 c.setup.vhosts) → (l m : RingAt) → In l c.rings → In m c.rings
    → l.vhost ≡ m.vhost → l.ring ≡ m.ring → l ≡ m
one_ring c e l m i j v r = go (in_order (λ x y. Below (ring_on x) (ring_on y)) c.rings l m (rings_in_order c e) i j)
  where
    no_below : (x y : RingAt) → x.vhost ≡ y.vhost → x.ring ≡ y.ring → Below (ring_on x) (ring_on y) → ⊥
    no_below x y p q (inl lt) = omega (arith, lt, p)
    no_below x y p q (inr (same, lt)) = omega (arith, lt, q)

    go : (l ≡ m) ⊎ Below (ring_on l) (ring_on m) ⊎ Below (ring_on m) (ring_on l) → l ≡ m
    go (inl is) = is
    go (inr (inl b)) = absurd (no_below l m v r b)
    go (inr (inr b)) = absurd (no_below m l (sym v) (sym r) b)

-- ---- what the replays leave

pub left_some : (vhost : ℕ) (rs : List (ℕ × Replay)) (r : ℕ × Replay) → In r rs → is_some (at r.1.vhosts vhost) ≡ true
    → is_some (vhost_left vhost rs) ≡ true
left_some vhost [] r i e = absurd i
left_some vhost (q ∷ rs) r i e = go (at q.1.vhosts vhost) refl i (λ j. left_some vhost rs r j e)
  where
    go : (o : Option Vhost) → at q.1.vhosts vhost ≡ o → In r (q ∷ rs) → (In r rs → is_some (vhost_left vhost rs) ≡ true)
        → is_some (option_map_or (λ v. Some v) o (vhost_left vhost rs)) ≡ true
    go (Some v) is j more = refl
    go None is (inl same) more =
        absurd (true≢false (sym e ∙ ap (λ (z : ℕ × Replay). is_some (at z.1.vhosts vhost)) (sym same) ∙ ap is_some is))
    go None is (inr j) more = more j

pub left_of : (vhost : ℕ) (rs : List (ℕ × Replay)) (x : Vhost) → vhost_left vhost rs ≡ Some x → (r : ℕ × Replay) × In r rs × (at r.1.vhosts vhost ≡ Some x)
left_of vhost [] x e = absurd (cc (e))
left_of vhost (q ∷ rs) x e = go (at q.1.vhosts vhost) refl e (λ h. left_of vhost rs x h)
  where
    go : (o : Option Vhost) → at q.1.vhosts vhost ≡ o → option_map_or (λ v. Some v) o (vhost_left vhost rs) ≡ Some x
        → (vhost_left vhost rs ≡ Some x → (r : ℕ × Replay) × In r rs × (at r.1.vhosts vhost ≡ Some x))
        → (r : ℕ × Replay) × In r (q ∷ rs) × (at r.1.vhosts vhost ≡ Some x)
    go (Some v) is h more = (q, inl refl, is ∙ h)
    go None is h more = let r = more h in (r.0, inr r.1, r.2)

abbrev pub parts_left : List (ℕ × Replay) → ℕ × ℕ → List RingPart
parts_left rs v = option_map_or (λ x. ring_parts (v.0, x)) (vhost_left v.0 rs) []

wanted_on : (rs : List (ℕ × Replay)) (vs : List (ℕ × ℕ)) → ((v : ℕ × ℕ) → In v vs → is_some (vhost_left v.0 rs) ≡ true)
    → map part_on (flat_map (parts_left rs) vs) ≡ flat_map both_rings vs
wanted_on rs [] each = refl
wanted_on rs (v ∷ vs) each = go (vhost_left v.0 rs) (each v (inl refl)) (wanted_on rs vs (λ w i. each w (inr i)))
  where
    go : (o : Option Vhost) → is_some o ≡ true → map part_on (flat_map (parts_left rs) vs) ≡ flat_map both_rings vs
        → map part_on (option_map_or (λ x. ring_parts (v.0, x)) o [] ++ flat_map (parts_left rs) vs) ≡ both_rings v ++ flat_map both_rings vs
    go None e more = absurd (true≢false (sym e))
    go (Some x) e more = ap (λ (ps : List (ℕ × ℕ)). (v.0, 0) ∷ (v.0, 1) ∷ ps) more

same_line : (p : RingPart) (l : RingAt) → part_on p ≡ ring_on l → is_ring_line p l ≡ true
same_line p l e =
    and_from (p.vhost == l.vhost) (p.ring == l.ring) (eq-eqb p.vhost l.vhost (ap (λ (q : ℕ × ℕ). q.0) e)) (eq-eqb p.ring l.ring (ap (λ (q : ℕ × ℕ). q.1) e))

pub rings_matched : (c : Case) (rs : List (ℕ × Replay)) → map ring_on c.rings ≡ flat_map both_rings (numbered 0 c.setup.vhosts)
    → ((v : ℕ × ℕ) → In v (numbered 0 c.setup.vhosts) → is_some (vhost_left v.0 rs) ≡ true)
    → Matched is_ring_line (rings_wanted c rs) c.rings
rings_matched c rs e each =
    matched_maps is_ring_line part_on ring_on same_line (rings_wanted c rs) c.rings
    (wanted_on rs (numbered 0 c.setup.vhosts) each ∙ sym e)

-- ---- lists of positions

no_used_fails : (end line : ℕ) (us : List (ℕ × ℕ × ℕ)) → used_fail end line us us ≡ []
no_used_fails end line [] = refl
no_used_fails end line (u ∷ us) =
    both_none _ _
    (ap (λ (b : Bool). if b then [] else line ∷ [])
    (and_from (u.0 == u.0 && u.1 == u.1) (u.2 == u.2)
    (and_from (u.0 == u.0) (u.1 == u.1) (eq-eqb u.0 u.0 refl) (eq-eqb u.1 u.1 refl)) (eq-eqb u.2 u.2 refl)))
    (no_used_fails end (line + 1) us)

no_list_fails : (end line : ℕ) (ls : List PositionList) → lists_fail end line ls ls ≡ []
no_list_fails end line [] = refl
no_list_fails end line (l ∷ ls) =
    both_none _ _
    (both_none _ _ (ap (λ (b : Bool). if b then [] else line ∷ []) (eq-eqb l.base l.base refl)) (no_used_fails end (line + 1) l.used))
    (no_list_fails end (line + 1 + length l.used) ls)

pub behind_is_right : (c : Case) → map ring_on c.rings ≡ flat_map both_rings (numbered 0 c.setup.vhosts) → (p : RingPart) (q : RingAt)
    → In q c.rings → q.vhost ≡ p.vhost → q.ring ≡ p.ring → q.lists ≡ p.lists → behind_ring c p ≡ []
behind_is_right c e p q i v r lists =
    let f = some_found (is_ring_line p) c.rings q i (same_line p q (λ j. (sym v j, sym r j))) in
    let there = found (is_ring_line p) c.rings f.0 f.1 in
    let its = and_parts (p.vhost == f.0.vhost) (p.ring == f.0.ring) (passes (is_ring_line p) c.rings f.0 f.1) in
    let one : f.0 ≡ q =
    one_ring c e f.0 q there i (sym (eqb-true p.vhost f.0.vhost its.0) ∙ sym v) (sym (eqb-true p.ring f.0.ring its.1) ∙ sym r) in
    ap (λ (o : Option RingAt). option_map_or (λ (l : RingAt). lists_fail c.end (l.line + 1) p.lists l.lists) o []) f.1
    ∙ ap (λ (ls : List PositionList). lists_fail c.end (f.0.line + 1) p.lists ls) (ap (λ (l : RingAt). l.lists) one ∙ lists)
    ∙ no_list_fails c.end (f.0.line + 1) p.lists
