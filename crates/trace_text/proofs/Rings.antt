-- What is built is what the lines say: the rings, and any line.
use Rattle.std.proofs.Common.{◌≡◌, ℕ, Bool, true, not, ◌&&◌, ◌==◌, if◌then◌else◌, List, [], ◌∷◌, ◌++◌, Option, Some, refl, sym, ◌∙◌, ap, subst}
use Rattle.std.specs.List.{AllByRecursion, flat_map}
use Rattle.std.proofs.lemmas.Bool.{and_parts, eqb-true}
use Rattle.std.proofs.lemmas.List.{map-append}
use Rattle.tap_trace.specs.declared.trace.PositionList.{PositionList}
use Rattle.tap_trace.specs.declared.trace.RingPart.{RingPart}
use Rattle.tap_trace.specs.declared.trace.Trace.{Trace}
use Rattle.trace_causes.specs.Fits.{Is16, IsRing}
use Rattle.trace_words.specs.Fits.{FitUsed}
use Rattle.trace_words.specs.Said.{FitSaid}
use Rattle.trace_words.specs.declared.said.Said.{Said}
use Rattle.trace_words.specs.declared.said.Said.TheVariants as said
use Rattle.trace_text.specs.Building.{and_item, are_listed, behind_answer, in_ring, is_listed, last_item, may_follow, none_yet, passes, stage_after, with_answer, with_base, with_chain, with_last, with_line, with_op, with_place, with_resize, with_ring, with_step, with_used}
use Rattle.trace_text.specs.Ordered.{BeginsAtZero, FitList, FitRing, pair_before, ring_before, rises}
use Rattle.trace_text.specs.declared.builder.Stage.TheVariants.{Inside}
use Rattle.trace_text.proofs.Kept.{FitOpenRing, FitRings, FitSoFar, Grew, Grows, StartsAtZero, answer_grew, behind_grew, chain_behind, file_grows, guest_grows, in_file_grows, in_guest_grows, in_phase_grows, op_grew, phase_grows, place_grew, resize_behind, step_grew}
use Rattle.trace_text.proofs.Lists.{all_front, all_last, all_push, grown_behind, item_by, last_by, made_by, parts_last, parts_push, rises_change, rises_push, some_is}
use Rattle.trace_text.proofs.Sentences.{file_said, files_on, guest_said, guests_on, list_said, phases_said, ring_said, rings_on, used_said}

-- ---- rings of which the last may be open

begins : (ls : List PositionList) → StartsAtZero ls → not (none_yet ls) ≡ true → BeginsAtZero ls
begins [] z e = absurd cc
begins (l ∷ ls) z e = z

pub all_rings : (rs : List RingPart) → FitRings rs → passes is_listed (last_item rs) ≡ true → AllByRecursion FitRing rs
all_rings [] fit e = tt
all_rings (r ∷ []) fit e = ((fit.0, begins r.lists fit.1 e, fit.2), tt)
all_rings (r ∷ q ∷ rs) fit e = (fit.0, all_rings (q ∷ rs) fit.1 e)

pub fit_rings_push : (rs : List RingPart) (r : RingPart) → AllByRecursion FitRing rs → FitOpenRing r → FitRings (rs ++ r ∷ [])
fit_rings_push [] r all fit = fit
fit_rings_push (q ∷ []) r all fit = (all.0, fit)
fit_rings_push (q ∷ p ∷ rs) r all fit = (all.0, fit_rings_push (p ∷ rs) r all.1 fit)

pub fit_rings_last : (rs : List RingPart) (r : RingPart) → FitRings (rs ++ r ∷ []) → FitOpenRing r
fit_rings_last [] r fit = fit
fit_rings_last (q ∷ []) r fit = fit.1
fit_rings_last (q ∷ p ∷ rs) r fit = fit_rings_last (p ∷ rs) r fit.1

pub fit_rings_change : (rs : List RingPart) (r q : RingPart) → FitRings (rs ++ r ∷ []) → FitOpenRing q → FitRings (rs ++ q ∷ [])
fit_rings_change [] r q fit new = new
fit_rings_change (w ∷ []) r q fit new = (fit.0, new)
fit_rings_change (w ∷ z ∷ rs) r q fit new = (fit.0, fit_rings_change (z ∷ rs) r q fit.1 new)

-- ---- a ring's head

ring_grows : (r : RingPart) (t u : Trace) → IsRing r.vhost r.ring → r.lists ≡ [] → FitSoFar t → with_ring r t ≡ Some u → Grows (said.Ring r.vhost r.ring) t u
ring_grows r t u is_ring empty fit e =
    let s : Said = said.Ring r.vhost r.ring in
    let test : Bool = are_listed t && may_follow ring_before t.rings r in
    let P : List PositionList → Type 0 = λ ls. StartsAtZero ls × AllByRecursion FitList ls in
    let lists : P r.lists = subst P (sym empty) (tt, tt) in
    made_by (λ rings. record t { rings = rings }) (and_item test t.rings r) u (Grows s t) e
    (λ rings made. item_by test t.rings r rings (λ (rs : List RingPart). Grows s t (record t { rings = rs })) made
    (λ held. let tests = and_parts (are_listed t) (may_follow ring_before t.rings r) held in (
      record {
        phases = fit.phases;
        files = fit.files;
        files_rise = fit.files_rise;
        guests = fit.guests;
        guests_rise = fit.guests_rise;
        rings = fit_rings_push t.rings r (all_rings t.rings fit.rings tests.0) (is_ring, lists.0, lists.1);
        rings_rise = rises_push ring_before t.rings r fit.rings_rise tests.1;
      },
      grown_behind (phases_said 0 t.phases) (files_on t) (flat_map file_said t.files ++ (flat_map guest_said t.guests ++ flat_map ring_said (t.rings ++ r ∷ []))) s
          (grown_behind (flat_map file_said t.files) (guests_on t) (flat_map guest_said t.guests ++ flat_map ring_said (t.rings ++ r ∷ [])) s
          (grown_behind (flat_map guest_said t.guests) (rings_on t) (flat_map ring_said (t.rings ++ r ∷ [])) s
          (parts_push ring_said t.rings r s (ap (λ ls. s ∷ flat_map list_said ls) empty)))),
    )))

-- ---- in a ring

GrewRing : Said → RingPart → RingPart → Type 0
GrewRing s p q = Grew FitOpenRing ring_said s p q × (q.vhost ≡ p.vhost) × (q.ring ≡ p.ring)

starts_push : (ls : List PositionList) (l : PositionList) → StartsAtZero ls → (if none_yet ls then l.base == 0 else true) ≡ true → StartsAtZero (ls ++ l ∷ [])
starts_push [] l z e = eqb-true l.base 0 e
starts_push (x ∷ ls) l z e = z

base_grew : (base : ℕ) (p q : RingPart) → Is16 base → FitOpenRing p → with_base base p ≡ Some q → GrewRing (said.Base base) p q
unfolding GrewRing
base_grew base p q is16 fit e =
    let l : PositionList = record { base = base; used = [] } in
    let test : Bool = if none_yet p.lists then base == 0 else true in
    made_by (λ lists. record p { lists = lists }) (and_item test p.lists l) q (GrewRing (said.Base base) p) e
    (λ lists made. item_by test p.lists l lists (λ (ls : List PositionList). GrewRing (said.Base base) p (record p { lists = ls })) made
    (λ held. (
      (
        (fit.0, starts_push p.lists l fit.1 held, all_push FitList p.lists l fit.2 (is16, tt)),
        ap (λ t. said.Ring p.vhost p.ring ∷ t) (parts_push list_said p.lists l (said.Base base) refl),
      ),
      refl,
      refl,
    )))

starts_change : (ls : List PositionList) (l k : PositionList) → k.base ≡ l.base → StartsAtZero (ls ++ l ∷ []) → StartsAtZero (ls ++ k ∷ [])
starts_change [] l k e z = e ∙ z
starts_change (x ∷ ls) l k e z = z

used_grew : (u : ℕ × ℕ × ℕ) (p q : RingPart) → FitUsed u → FitOpenRing p → with_used u p ≡ Some q → GrewRing (used_said u) p q
unfolding GrewRing
used_grew u p q fit_used fit e =
    let more : PositionList → Option PositionList = λ l. Some (record l { used = l.used ++ u ∷ [] }) in
    made_by (λ lists. record p { lists = lists }) (with_last more p.lists) q (GrewRing (used_said u) p) e
    (λ lists made. last_by more p.lists lists
    (λ xs ys. StartsAtZero xs → AllByRecursion FitList xs → GrewRing (used_said u) (record p { lists = xs }) (record p { lists = ys })) made
    (λ front l k is zero all.
    let new : PositionList = record l { used = l.used ++ u ∷ [] } in
    let P : PositionList → Type 0 = λ k. GrewRing (used_said u) (record p { lists = front ++ l ∷ [] }) (record p { lists = front ++ k ∷ [] }) in
    let old = all_last FitList front l all in
    subst P (some_is new k is) (
      (
        (fit.0, starts_change front l new refl zero, all_push FitList front new (all_front FitList front l all) (old.0, all_push FitUsed l.used u old.1 fit_used)),
        ap (λ t. said.Ring p.vhost p.ring ∷ t) (parts_last list_said front l new (used_said u) (ap (λ t. said.Base l.base ∷ t) (map-append used_said l.used (u ∷ [])))),
      ),
      refl,
      refl,
    ))
    fit.1 fit.2)

in_ring_grows : (f : RingPart → Option RingPart) (s : Said) (t u : Trace) → ((p q : RingPart) → FitOpenRing p → f p ≡ Some q → GrewRing s p q) → FitSoFar t → in_ring f t ≡ Some u → Grows s t u
unfolding GrewRing
in_ring_grows f s t u each fit e =
    made_by (λ rings. record t { rings = rings }) (with_last f t.rings) u (Grows s t) e
    (λ rings step. let made : FitRings rings × (rises ring_before rings ≡ true) × (flat_map ring_said rings ≡ flat_map ring_said t.rings ++ s ∷ []) =
    last_by f t.rings rings
    (λ ps qs. FitRings ps → rises ring_before ps ≡ true → FitRings qs × (rises ring_before qs ≡ true) × (flat_map ring_said qs ≡ flat_map ring_said ps ++ s ∷ [])) step
    (λ front p q is all rise. let new = each p q (fit_rings_last front p all) is in (
      fit_rings_change front p q all new.0.0,
      rises_change ring_before front p q (λ z. ap (λ v. pair_before z.vhost z.ring v q.ring) new.1 ∙ ap (λ r. pair_before z.vhost z.ring p.vhost r) new.2) rise,
      parts_last ring_said front p q s new.0.1,
    ))
    fit.rings fit.rings_rise in (
      record {
        phases = fit.phases;
        files = fit.files;
        files_rise = fit.files_rise;
        guests = fit.guests;
        guests_rise = fit.guests_rise;
        rings = made.0;
        rings_rise = made.1;
      },
      grown_behind (phases_said 0 t.phases) (files_on t) (flat_map file_said t.files ++ (flat_map guest_said t.guests ++ flat_map ring_said rings)) s
          (grown_behind (flat_map file_said t.files) (guests_on t) (flat_map guest_said t.guests ++ flat_map ring_said rings) s
          (grown_behind (flat_map guest_said t.guests) (rings_on t) (flat_map ring_said rings) s made.2)),
    ))

-- ---- any line

pub line_grows : (s : Said) (t u : Trace) → FitSaid s → stage_after Inside s ≡ Some Inside → FitSoFar t → with_line s t ≡ Some u → Grows s t u
line_grows said.Begins t u fit stage so_far e = absurd cc
line_grows (said.Phase number actors) t u fit stage so_far e = phase_grows number actors t u fit.1 so_far e
line_grows (said.Op o) t u fit stage so_far e = in_phase_grows (with_op o) (said.Op o) t u (λ p q. op_grew o p q fit) so_far e
line_grows (said.Answer a) t u fit stage so_far e = in_phase_grows (with_answer a) (said.Answer a) t u (λ p q. answer_grew a p q fit.0 fit.1) so_far e
line_grows (said.Resize claimed freed cut) t u fit stage so_far e =
    let f = with_resize claimed freed cut in
    in_phase_grows (behind_answer f) (said.Resize claimed freed cut) t u (λ p q. behind_grew f (said.Resize claimed freed cut) p q (resize_behind claimed freed cut fit.0 fit.1 fit.2)) so_far e
line_grows (said.Chain c) t u fit stage so_far e =
    in_phase_grows (behind_answer (with_chain c)) (said.Chain c) t u (λ p q. behind_grew (with_chain c) (said.Chain c) p q (chain_behind c fit)) so_far e
line_grows (said.File file claimed freed) t u fit stage so_far e =
    file_grows (record { file = file; claimed = claimed; freed = freed; lines = [] }) t u (record { file = fit.0; claimed = fit.1; freed = fit.2; lines = tt; lines_rise = refl }) refl so_far e
line_grows (said.Place l) t u fit stage so_far e = in_file_grows (with_place l) (said.Place l) t u (λ p q. place_grew l p q fit) so_far e
line_grows (said.Guest guest) t u fit stage so_far e = guest_grows (record { guest = guest; steps = [] }) t u (fit, tt) refl so_far e
line_grows (said.Step s) t u fit stage so_far e = in_guest_grows (with_step s) (said.Step s) t u (λ p q. step_grew s p q fit) so_far e
line_grows (said.Ring vhost ring) t u fit stage so_far e = ring_grows (record { vhost = vhost; ring = ring; lists = [] }) t u fit refl so_far e
line_grows (said.Base base) t u fit stage so_far e = in_ring_grows (with_base base) (said.Base base) t u (λ p q. base_grew base p q fit) so_far e
line_grows (said.Used position head len) t u fit stage so_far e =
    in_ring_grows (with_used (position, head, len)) (said.Used position head len) t u (λ p q. used_grew (position, head, len) p q fit) so_far e
line_grows said.End t u fit stage so_far e = absurd cc
