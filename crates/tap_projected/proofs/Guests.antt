-- Guests with their steps, and rings with their lists, are the world's.
use Rattle.std.proofs.Common.{◌≡◌, ℕ, ◌+◌, List, [], ◌∷◌, length, map, Option, Some, None, refl, sym, ap, ◌∙◌, subst, inl, inr, ⊎_elim, arith}
use Rattle.std.specs.Prelude.{◌==◌, filter, flat_map, option_map}
use Rattle.scen_text.specs.declared.scenario.Scenario.{Scenario}
use Rattle.tap_trace.specs.declared.trace.RingPart.{RingPart}
use Rattle.tap_trace.specs.declared.trace.StepLine.{StepLine}
use Rattle.tap_world.specs.ByNumber.{at, numbered}
use Rattle.tap_world.specs.Guests.{Guest, Vhost}
use Rattle.tap_world.specs.Project.{guest_part, project, ring_parts}
use Rattle.tap_world.specs.Setup.{setup_of}
use Rattle.tap_world.specs.World.{World}
use Rattle.tap_legal.specs.Numbered.{GuestAt, RingAt, StepAt, behind_files, behind_guests, behind_phases, guests_at, list_lines, rings_at, steps_at, steps_from}
use Rattle.tap_sights.specs.Sight.{In}
use Rattle.tap_sights.specs.GuestFacts.{both_rings, ring_on}
use Rattle.tap_projected.specs.Projected.{GuestsAreTold, RingsAreTold, part_at, told_case}
use Rattle.tap_projected.proofs.Blocks.{Blocks, block_at, in_numbered, of_blocks, of_numbered}
use Rattle.tap_projected.proofs.Lists.{in_either, in_first, in_map, in_second, of_map}

-- ---- guests

guests_are : (n line : ℕ) (gs : List (Option Guest))
    → map (λ (g : GuestAt). g.guest) (guests_at line (map guest_part (numbered n gs))) ≡ map (λ (g : ℕ × Guest). g.0) (numbered n gs)
guests_are n line [] = refl
guests_are n line (None ∷ gs) = guests_are (n + 1) line gs
guests_are n line (Some g ∷ gs) = ap (λ t. n ∷ t) (guests_are (n + 1) (line + 1 + length g.steps) gs)

-- ---- steps

abbrev steps_in : Guest → List StepLine
steps_in g = g.steps

abbrev guest_in : StepAt → ℕ
guest_in x = x.guest

abbrev step_in : StepAt → StepLine
step_in x = x.at

steps_are : (line guest : ℕ) (ls : List StepLine) → map step_in (steps_from line guest ls) ≡ ls
steps_are line guest [] = refl
steps_are line guest (l ∷ ls) = ap (λ t. l ∷ t) (steps_are (line + 1) guest ls)

steps_of_guest : (line guest : ℕ) (ls : List StepLine) (x : StepAt) → In x (steps_from line guest ls) → x.guest ≡ guest
steps_of_guest line guest [] x i = absurd i
steps_of_guest line guest (l ∷ ls) x (inl same) = ap (λ (y : StepAt). y.guest) (sym same)
steps_of_guest line guest (l ∷ ls) x (inr i) = steps_of_guest (line + 1) guest ls x i

step_blocks : (n line : ℕ) (gs : List (Option Guest)) → Blocks steps_in guest_in step_in n gs (steps_at line (map guest_part (numbered n gs)))
step_blocks n line [] = refl
step_blocks n line (None ∷ gs) = step_blocks (n + 1) line gs
step_blocks n line (Some g ∷ gs) = (
  steps_from (line + 1) n g.steps,
  steps_at (line + 1 + length g.steps) (map guest_part (numbered (n + 1) gs)),
  refl,
  steps_of_guest (line + 1) n g.steps,
  steps_are (line + 1) n g.steps,
  step_blocks (n + 1) (line + 1 + length g.steps) gs,
)

-- ---- rings

rings_are : (line : ℕ) (rs : List RingPart) → map part_at (rings_at line rs) ≡ rs
rings_are line [] = refl
rings_are line (r ∷ rs) = ap (λ t. r ∷ t) (rings_are (line + 1 + list_lines r.lists) rs)

in_flat : {A B : Type 0} (f : A → List B) (xs : List A) (x : A) (y : B) → In x xs → In y (f x) → In y (flat_map f xs)
in_flat f [] x y i j = absurd i
in_flat f (z ∷ zs) x y (inl e) j = in_first y (f z) (flat_map f zs) (subst (λ w. In y (f w)) (sym e) j)
in_flat f (z ∷ zs) x y (inr i) j = in_second y (f z) (flat_map f zs) (in_flat f zs x y i j)

of_flat : {A B : Type 0} (f : A → List B) (xs : List A) (y : B) → In y (flat_map f xs) → (x : A) × In x xs × In y (f x)
of_flat f [] y i = absurd i
of_flat f (z ∷ zs) y i = ⊎_elim
    (λ j. (z, inl refl, j))
    (λ j. let r = of_flat f zs y j in (r.0, inr r.1, r.2))
    (in_either y (f z) (flat_map f zs) i)

-- a part of a vhost's rings has its number
vhost_of_part : (v : ℕ × Vhost) (p : RingPart) → In p (ring_parts v) → p.vhost ≡ v.0
vhost_of_part v p (inl e) = ap (λ (q : RingPart). q.vhost) (sym e)
vhost_of_part v p (inr (inl e)) = ap (λ (q : RingPart). q.vhost) (sym e)
vhost_of_part v p (inr (inr i)) = absurd i

-- the rings of vhosts that have the same guests are the same
rings_on : (n : ℕ) (vs : List (Option Vhost)) (gs : List (Option ℕ)) (rs : List RingAt)
    → map (λ (v : Option Vhost). option_map (λ (x : Vhost). x.guest) v) vs ≡ gs → map part_at rs ≡ flat_map ring_parts (numbered n vs)
    → map ring_on rs ≡ flat_map both_rings (numbered n gs)
rings_on n vs gs rs same told =
    on_parts rs ∙ ap (map (λ (p : RingPart). (p.vhost, p.ring))) told ∙ of_vhosts n vs ∙ ap (λ q. flat_map both_rings (numbered n q)) same
  where
    on_parts : (qs : List RingAt) → map ring_on qs ≡ map (λ (p : RingPart). (p.vhost, p.ring)) (map part_at qs)
    on_parts [] = refl
    on_parts (q ∷ qs) = ap (λ t. (q.vhost, q.ring) ∷ t) (on_parts qs)

    of_vhosts : (m : ℕ) (us : List (Option Vhost)) → map (λ (p : RingPart). (p.vhost, p.ring)) (flat_map ring_parts (numbered m us))
        ≡ flat_map both_rings (numbered m (map (λ (v : Option Vhost). option_map (λ (x : Vhost). x.guest) v) us))
    of_vhosts m [] = refl
    of_vhosts m (None ∷ us) = of_vhosts (m + 1) us
    of_vhosts m (Some u ∷ us) = ap (λ t. (m, 0) ∷ (m, 1) ∷ t) (of_vhosts (m + 1) us)

-- ---- all of it

module _ (s : Scenario) (w : World) where
  abbrev pub behind : ℕ
  behind = behind_files (behind_phases 2 (project (setup_of s) w).phases) (project (setup_of s) w).files

  blocks : Blocks steps_in guest_in step_in 0 w.guests (told_case s w).steps
  blocks = step_blocks 0 behind w.guests

  pub guests_are_told : GuestsAreTold w (told_case s w)
  guests_are_told = record {
    guests = guests_are 0 behind w.guests;
    steps = λ guest g e.
        ap (λ m. map step_in (filter (λ (y : StepAt). y.guest == m) (told_case s w).steps)) (let z : guest ≡ 0 + guest = omega arith in z)
        ∙ block_at steps_in guest_in step_in 0 guest w.guests (told_case s w).steps g blocks e;
    only = λ x i.
        let r = of_blocks steps_in guest_in step_in 0 w.guests (told_case s w).steps x blocks i in
        let is = r.2 in
        (r.1, subst (λ m. at w.guests m ≡ Some r.1) (let z : r.0 ≡ x.guest = omega (arith, is) in z) r.3, r.4);
  }

  rings : map part_at (told_case s w).rings ≡ flat_map ring_parts (numbered 0 w.vhosts)
  rings = rings_are (behind_guests behind (project (setup_of s) w).guests) (flat_map ring_parts (numbered 0 w.vhosts))

  pub rings_are_told : RingsAreTold w (told_case s w)
  rings_are_told = record {
    rings = rings;
    each = λ vhost v p e i.
        let there = subst (λ m. In (m, v) (numbered 0 w.vhosts)) (let z : 0 + vhost ≡ vhost = omega arith in z) (in_numbered 0 vhost w.vhosts v e) in
        of_map part_at (told_case s w).rings p (subst (In p) (sym rings) (in_flat ring_parts (numbered 0 w.vhosts) (vhost, v) p there i));
    only = λ r i.
        let told = subst (In (part_at r)) rings (in_map part_at (told_case s w).rings r i) in
        let v = of_flat ring_parts (numbered 0 w.vhosts) (part_at r) told in
        let n = of_numbered 0 w.vhosts v.0 v.1 in
        let is = n.is in
        let vhost : r.vhost ≡ v.0.0 = vhost_of_part v.0 (part_at r) v.2 in
        let number : n.k ≡ r.vhost = omega (arith, is, vhost) in
        (v.0.1, subst (λ m. at w.vhosts m ≡ Some v.0.1) number n.there, subst (λ m. In (part_at r) (ring_parts (m, v.0.1))) (sym vhost) v.2);
  }

  -- and both of each declared vhost
  pub rings_are_declared : map (λ (v : Option Vhost). option_map (λ (x : Vhost). x.guest) v) w.vhosts ≡ (setup_of s).vhosts
      → map ring_on (told_case s w).rings ≡ flat_map both_rings (numbered 0 (setup_of s).vhosts)
  rings_are_declared same = rings_on 0 w.vhosts (setup_of s).vhosts (told_case s w).rings same rings
