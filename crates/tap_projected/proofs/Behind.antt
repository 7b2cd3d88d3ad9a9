-- Along each file epochs don't fall, and behind an entry that waits all wait that aren't cut.
use Rattle.std.proofs.Common.{◌≡◌, ◌⊎◌, ℕ, ◌+◌, ◌≤◌, List, [], ◌∷◌, true, false, refl, sym, ap, ◌∙◌, subst, inl, inr, ⊎_elim, true≢false, arith}
use Rattle.std.specs.List.{AllByRecursion}
use Rattle.tap_ledger.specs.declared.fate.Fate.{Fate}
use Rattle.tap_ledger.specs.declared.fate.Fate.TheVariants as fate
use Rattle.scen_text.specs.declared.scenario.Scenario.{Scenario}
use Rattle.tap_trace.specs.declared.trace.PlaceLine.{PlaceLine}
use Rattle.tap_world.specs.declared.line.Entry.{Entry}
use Rattle.tap_world.specs.declared.line.Standing.{Standing}
use Rattle.tap_world.specs.declared.line.Standing.TheVariants.{Batched, Claimed, Cut, Out, Ready}
use Rattle.tap_world.specs.Line.{fate_of}
use Rattle.tap_world.specs.Project.{place_lines}
use Rattle.tap_world.specs.Setup.{setup_of}
use Rattle.tap_world.specs.Sound.{ComesLast, InThreeParts, IsSound, NeverFall, has_left, is_cut, rank}
use Rattle.tap_world.specs.World.{World}
use Rattle.tap_legal.specs.Numbered.{EntryAt}
use Rattle.tap_legal.specs.Takes.{waits, was_cut}
use Rattle.tap_sights.specs.Sight.{In, Ordered}
use Rattle.tap_sights.specs.LineFacts.{IsBehind}
use Rattle.tap_projected.specs.Projected.{told_case}
use Rattle.tap_projected.proofs.Blocks.{blocks_ordered}
use Rattle.tap_projected.proofs.Files.{at_in_line, entries_in_blocks, file_in, line_by, of_place}
use Rattle.tap_projected.proofs.Lists.{all_in, at_in, in_at, ordered_by, ordered_on}

-- ---- where an entry stands, and its fate

cut_fate : (x : Standing) → is_cut x ≡ true → was_cut (fate_of x) ≡ true
cut_fate Cut e = refl
cut_fate x e = absurd (true≢false (sym e))

cut_is_out : (x : Standing) → is_cut x ≡ true → waits (fate_of x) ≡ false
cut_is_out Cut e = refl
cut_is_out x e = absurd (true≢false (sym e))

kept_waits : (x : Standing) → 1 ≤ rank x → waits (fate_of x) ≡ true
kept_waits (Claimed actor) h = refl
kept_waits Ready h = refl
kept_waits Batched h = refl
kept_waits (Out fate) h = absurd (omega (arith, h))
kept_waits Cut h = absurd (omega (arith, h))

out_waits : (x : Fate) → has_left (Out x) ≡ true → waits x ≡ true → ⊥
out_waits fate.Waiting e h = true≢false (sym e)
out_waits x e h = true≢false (sym h)

waiting_is_kept : (x : Standing) → has_left x ≡ true → waits (fate_of x) ≡ true → 1 ≤ rank x
waiting_is_kept (Claimed actor) e h = omega arith
waiting_is_kept Ready e h = omega arith
waiting_is_kept Batched e h = omega arith
waiting_is_kept (Out x) e h = absurd (out_waits x e h)
waiting_is_kept Cut e h = absurd (true≢false (sym h))

-- ---- along a line

abbrev StandsBehind : PlaceLine → PlaceLine → Type 0
StandsBehind k l = (k.epoch ≤ l.epoch) × (waits k.fate ≡ true → (waits l.fate ≡ true) ⊎ (was_cut l.fate ≡ true))

comes_last : (r : ℕ) (es : List Entry) (x : Entry) → ComesLast r es → In x es → (is_cut x.stands ≡ true) ⊎ (r ≤ rank x.stands)
comes_last r [] x h i = absurd i
comes_last r (e ∷ es) x h (inl same) = subst (λ (y : Entry). (is_cut y.stands ≡ true) ⊎ (r ≤ rank y.stands)) same h.0
comes_last r (e ∷ es) x h (inr i) = comes_last r es x h.1 i

waits_behind : (e x : Entry) (es : List Entry) → has_left e.stands ≡ true → (is_cut e.stands ≡ true) ⊎ ComesLast (rank e.stands) es → In x es
    → waits (fate_of e.stands) ≡ true → (waits (fate_of x.stands) ≡ true) ⊎ (was_cut (fate_of x.stands) ≡ true)
waits_behind e x es left parts i w = ⊎_elim
    (λ cut. absurd (true≢false (sym w ∙ cut_is_out e.stands cut)))
    (λ last. ⊎_elim
    (λ cut. inr (cut_fate x.stands cut))
    (λ above. let kept = waiting_is_kept e.stands left w in inl (kept_waits x.stands (omega (arith, kept, above))))
    (comes_last (rank e.stands) es x last i))
    parts

line_ordered : (place : ℕ) (es : List Entry) → NeverFall es → InThreeParts es → AllByRecursion (λ (e : Entry). has_left e.stands ≡ true) es
    → Ordered StandsBehind (place_lines place es)
line_ordered place [] rise parts left = tt
line_ordered place (e ∷ es) rise parts left = (
  λ l i.
      let k = at_in (place_lines (place + 1) es) l i in
      let x = of_place (place + 1) es k.0 l k.1 in
      let there = in_at es k.0 x.0 x.1 in (
        subst (λ n. e.epoch ≤ n) (sym (ap (λ (q : PlaceLine). q.epoch) x.2)) (all_in (λ (d : Entry). e.epoch ≤ d.epoch) es x.0 rise.0 there),
        λ w. subst (λ q. (waits q ≡ true) ⊎ (was_cut q ≡ true)) (sym (ap (λ (q : PlaceLine). q.fate) x.2))
            (waits_behind e x.0 es left.0 parts.0 there w),
      ),
  line_ordered (place + 1) es rise.1 parts.1 left.1,
)

-- ---- along all entries

pub entries_are_behind : (s : Scenario) (w : World) → IsSound (setup_of s) w → Ordered IsBehind (told_case s w).entries
entries_are_behind s w sound =
    blocks_ordered line_by file_in at_in_line IsBehind
    (λ d e lt. record {
      epoch = λ same. absurd (omega (arith, lt, same));
      waits = λ same. absurd (omega (arith, lt, same));
    })
    0 w.files (told_case s w).entries
    (λ file f is front lines.
    let room = sound.lines file f is in
    let ordered = line_ordered f.first f.line (sound.epochs file f is).rise room.ordered.parts room.fates in
    ordered_on (λ (d e : EntryAt). StandsBehind d.at e.at) IsBehind front
    (λ d e i j h. record { epoch = λ same. h.0; waits = λ same. h.1 })
    (ordered_by StandsBehind at_in_line front (subst (Ordered StandsBehind) (sym lines) ordered)))
    (entries_in_blocks s w)
